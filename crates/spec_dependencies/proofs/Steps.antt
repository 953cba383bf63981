-- What marking one entry keeps.
use Rattle.std.proofs.Common.{◌≡◌, ◌⊎◌, inl, inr, ⊎_elim, arith, ℕ, zero, suc, List, [], ◌∷◌, true, false, set, length, slice_get, Some, IsTrue, refl, sym, ap, subst, ◌∙◌, length-set, true≢false}
use Rattle.gil_syntax.specs.Valid.{is_among}
use Rattle.spec_dependencies.specs.declared.entries.Entry.{Entry}
use Rattle.spec_dependencies.specs.declared.entries.Standing.{Standing}
use Rattle.spec_dependencies.specs.Settling.{is_sound, AreNew, is_new, StandsAfter, IsAfter, AreAfter, EndsAtCause, at_cause, further, EndAtCauses, Marks}
use Rattle.spec_dependencies.proofs.Names.{HasUnsound, has_unsound, UsesUnsound, uses_unsound}
use Rattle.spec_dependencies.proofs.Places.{set_here, set_there}

-- ---- what stands after what

stands_itself : (s : Standing) (uses : List (List ℕ)) → StandsAfter s uses s
stands_itself Standing.Sound uses = tt
stands_itself Standing.Caused uses = refl
stands_itself (Standing.Depends g) uses = refl

stands_later : (r s t : Standing) (uses : List (List ℕ)) → StandsAfter r uses s → StandsAfter s uses t → StandsAfter r uses t
stands_later Standing.Sound Standing.Sound t uses first second = second
stands_later Standing.Sound (Standing.Depends g) t uses first second = subst (λ (x : Standing). StandsAfter Standing.Sound uses x) (sym second) first
stands_later Standing.Sound Standing.Caused t uses first second = absurd first
stands_later Standing.Caused s t uses first second = let P : Standing → Type 0 = λ x. StandsAfter x uses t in subst P first second
stands_later (Standing.Depends g) s t uses first second = let P : Standing → Type 0 = λ x. StandsAfter x uses t in subst P first second

same_some : {A : Type 0} {x y : A} → Some x ≡ Some y → x ≡ y
same_some is = cc

pub after_itself : (es : List Entry) → AreAfter es es
after_itself es = record {
  as_many = refl;
  each_after = λ k d e at_d at_e. subst (λ (x : Entry). IsAfter d x) (same_some (sym at_d ∙ at_e)) (record { same_name = refl; same_uses = refl; stands = stands_itself d.standing d.uses });
}

is_later : (c d e : Entry) → IsAfter c d → IsAfter d e → IsAfter c e
is_later c d e first second = record {
  same_name = second.same_name ∙ first.same_name;
  same_uses = second.same_uses ∙ first.same_uses;
  stands =
      stands_later c.standing d.standing e.standing c.uses first.stands
      (subst (λ (xs : List (List ℕ)). StandsAfter d.standing xs e.standing) first.same_uses second.stands);
}

-- there is an element at each place below the length
at_place : {A B : Type 0} (xs : List A) (ys : List B) (k : ℕ) (y : B) → length xs ≡ length ys → slice_get ys k ≡ Some y → (x : A) × (slice_get xs k ≡ Some x)
at_place [] [] k y many is = cc
at_place [] (y ∷ ys) k z many is = absurd (omega arith)
at_place (x ∷ xs) [] k y many is = cc
at_place (x ∷ xs) (y ∷ ys) zero z many is = (x, refl)
at_place (x ∷ xs) (y ∷ ys) (suc k) z many is = at_place xs ys k z (omega arith) is

pub after_later : (xs ys zs : List Entry) → AreAfter xs ys → AreAfter ys zs → AreAfter xs zs
after_later xs ys zs first second = record {
  as_many = second.as_many ∙ first.as_many;
  each_after = λ k c e at_c at_e.
      let (d, at_d) = at_place ys zs k e (sym second.as_many) at_e in
      is_later c d e (first.each_after k c d at_c at_d) (second.each_after k d e at_d at_e);
}

-- ---- marking

is_sound_one : (s : Standing) → is_sound s ≡ true → s ≡ Standing.Sound
is_sound_one Standing.Sound is = refl
is_sound_one Standing.Caused is = cc
is_sound_one (Standing.Depends g) is = cc

-- one that came sound, or that isn't, may be marked with a name that it uses
may_mark : (s : Standing) (uses : List (List ℕ)) (g : List ℕ) → StandsAfter s uses Standing.Sound → IsTrue (is_among uses g)
    → StandsAfter s uses (Standing.Depends g)
may_mark Standing.Sound uses g stands among = among
may_mark Standing.Caused uses g stands among = cc
may_mark (Standing.Depends h) uses g stands among = cc

unsound_ends : (es : List Entry) (g : List ℕ) → EndAtCauses es → HasUnsound es g → EndsAtCause es g
unsound_ends es g ends has = by has.entry.standing refl where
  by : (s : Standing) → has.entry.standing ≡ s → EndsAtCause es g
  by Standing.Sound is = let both : true ≡ false = sym (ap is_sound is) ∙ has.not_sound in absurd (true≢false both)
  by Standing.Caused is = at_cause has.entry has.is_in has.named is
  by (Standing.Depends h) is = further has.entry h has.is_in has.named is (ends has.entry h has.is_in is)

module _ (k : ℕ) (es fs : List Entry) (m : Marks k es fs) where
  marked : Entry
  marked = record m.entry { standing = Standing.Depends m.name }

  uses : UsesUnsound es m.entry m.name
  uses = uses_unsound es m.entry m.name m.uses_it

  was_sound : m.entry.standing ≡ Standing.Sound
  was_sound = is_sound_one m.entry.standing uses.sound

  pub at_each : (j : ℕ) (e : Entry) → slice_get fs j ≡ Some e
      → ((j ≡ k) × (e ≡ record m.entry { standing = Standing.Depends m.name })) ⊎ (slice_get es j ≡ Some e)
  at_each j e is =
      let new : Entry = record m.entry { standing = Standing.Depends m.name } in
      let is_set : slice_get (set es k new) j ≡ Some e = sym (ap (λ (xs : List Entry). slice_get xs j) m.is_after) ∙ is in
      ⊎_elim
      (λ (here : j ≡ k). inl (here, same_some (sym is_set ∙ ap (slice_get (set es k new)) here ∙ set_here es k m.entry new m.stood)))
      (λ (there : slice_get (set es k new) j ≡ slice_get es j). inr (sym there ∙ is_set)) (set_there es k j new)

  -- what isn't sound stays where it is
  kept : (j : ℕ) (e : Entry) → slice_get es j ≡ Some e → ¬ (e.standing ≡ Standing.Sound) → slice_get fs j ≡ Some e
  kept j e is isnt =
      let new : Entry = record m.entry { standing = Standing.Depends m.name } in
      ⊎_elim
      (λ (here : j ≡ k). absurd (isnt (ap (λ (x : Entry). x.standing) (same_some (sym is ∙ ap (slice_get es) here ∙ m.stood)) ∙ was_sound)))
      (λ (there : slice_get (set es k new) j ≡ slice_get es j). ap (λ (xs : List Entry). slice_get xs j) m.is_after ∙ there ∙ is) (set_there es k j new)

  ends_kept : (g : List ℕ) → EndsAtCause es g → EndsAtCause fs g
  ends_kept g (at_cause e (j, at) named is) = at_cause e (j, kept j e at (λ sound. caused_one (sym is ∙ sound))) named is where
    caused_one : Standing.Caused ≡ Standing.Sound → ⊥
    caused_one same = cc
  ends_kept g (further e h (j, at) named is later) = further e h (j, kept j e at (λ sound. depends_one h (sym is ∙ sound))) named is (ends_kept h later) where
    depends_one : (h : List ℕ) → Standing.Depends h ≡ Standing.Sound → ⊥
    depends_one h same = cc

  pub ends_marked : EndAtCauses es → EndAtCauses fs
  ends_marked ends e h (j, at) is =
      ⊎_elim
      (λ ((here, same) : (j ≡ k) × (e ≡ record m.entry { standing = Standing.Depends m.name })).
      let of_h : m.name ≡ h = depends_same (sym (ap (λ (x : Entry). x.standing) same) ∙ is) in
      subst (EndsAtCause fs) of_h (ends_kept m.name (unsound_ends es m.name ends (has_unsound es m.name uses.found.unsound))))
      (λ (stays : slice_get es j ≡ Some e). ends_kept h (ends e h (j, stays) is)) (at_each j e at)
    where
      depends_same : {g h : List ℕ} → Standing.Depends g ≡ Standing.Depends h → g ≡ h
      depends_same same = cc

  pub after_marked : (ds : List Entry) → AreAfter ds es → AreAfter ds fs
  after_marked ds before = record {
    as_many = ap length m.is_after ∙ length-set es k _ ∙ before.as_many;
    each_after = λ j d e at_d at_e.
        ⊎_elim
        (λ ((here, same) : (j ≡ k) × (e ≡ record m.entry { standing = Standing.Depends m.name })).
        let was : IsAfter d m.entry = before.each_after j d m.entry at_d (ap (slice_get es) here ∙ m.stood) in
        let stood : StandsAfter d.standing d.uses Standing.Sound = subst (λ (s : Standing). StandsAfter d.standing d.uses s) was_sound was.stands in
        subst (λ (x : Entry). IsAfter d x) (sym same) (record {
          same_name = was.same_name;
          same_uses = was.same_uses;
          stands = may_mark d.standing d.uses m.name stood (subst (λ (xs : List (List ℕ)). IsTrue (is_among xs m.name)) was.same_uses uses.found.among);
        }))
        (λ (stays : slice_get es j ≡ Some e). before.each_after j d e at_d stays) (at_each j e at_e);
  }

-- ---- the first round, and closed lists

pub new_ends : (es : List Entry) → AreNew es → EndAtCauses es
new_ends es new e g is_in is = absurd (no_new e.standing g is (new e is_in)) where
  no_new : (s : Standing) (g : List ℕ) → s ≡ Standing.Depends g → is_new s ≡ true → ⊥
  no_new s g is new = let false_one : false ≡ true = sym (ap is_new is) ∙ new in absurd (true≢false (sym false_one))
