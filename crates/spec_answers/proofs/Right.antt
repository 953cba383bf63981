-- Settled entries make answers that are right.
use Rattle.std.proofs.Common.{◌≡◌, ℕ, zero, suc, List, [], ◌∷◌, map, length, slice_get, Bool, true, false, ◌&&◌, ◌||◌, if◌then◌else◌, Option, Some, None, bytes_eq, refl, sym, ap, subst, ◌∙◌, arith, true≢false}
use Rattle.std.specs.List.{list_any}
use Rattle.std.specs.Option.{option_map}
use Rattle.std.proofs.lemmas.Bool.{and_parts, and_from}
use Rattle.std.proofs.lemmas.Option.{slice_get-map}
use Rattle.std.proofs.lemmas.Slice.Eq.{bytes_eq-Decides}
use Rattle.gil_syntax.specs.Programs.{find_spec}
use Rattle.gil_syntax.specs.Pure.{PureSpec, PureParts, PureNumberedCommand}
use Rattle.gil_syntax.specs.Valid.{is_among}
use Rattle.mem_model.specs.declared.keys.MemoryName.{MemoryName}
use Rattle.mem_model.specs.Actions.{Actions}
use Rattle.gil_machine.specs.State.{State, Step, goes_on, ends}
use Rattle.gil_machine.specs.Step.{step}
use Rattle.checked_runs.specs.Checked.{HasNoFault, UsesOnly, is_call, used_in, used_by}
use Rattle.checked_runs.specs.Laws.{AreVerified}
use Rattle.checked_runs.proofs.FrameTheorem.{verified_specifications_hold}
use Rattle.checked_runs.proofs.Stores.{spec_at}
use Rattle.spec_dependencies.specs.declared.entries.Entry.{Entry}
use Rattle.spec_dependencies.specs.declared.entries.Standing.{Standing}
use Rattle.spec_dependencies.specs.Settling.{is_sound, StandsAfter, IsAfter, IsSettling, EndsAtCause, at_cause, further}
use Rattle.spec_answers.specs.declared.answers.Examined.{Examined}
use Rattle.spec_answers.specs.declared.answers.Finding.{Finding}
use Rattle.spec_answers.specs.declared.answers.SpecAnswer.{SpecAnswer}
use Rattle.spec_answers.specs.declared.answers.Verdict.{Verdict}
use Rattle.spec_answers.specs.Answering.{uses_of, standing_of, entry_of, verdict_of, answer_of, answers_of}
use Rattle.spec_answers.specs.Holding.{is_verified, is_verified_name, FindingHolds, AreFindings, LeadsToCause, has_cause, depends, Fits, IsAnswerTo, AnswersAreRight}
use Rattle.spec_answers.proofs.Places.{entry_at, as_many_entries, as_many_answers, comes_of, answer_at}

same_some : {A : Type 0} {x y : A} → Some x ≡ Some y → x ≡ y
same_some is = cc

-- ---- lists

at_place : {A B : Type 0} (xs : List A) (ys : List B) (k : ℕ) (y : B) → length xs ≡ length ys → slice_get ys k ≡ Some y → (x : A) × (slice_get xs k ≡ Some x)
at_place [] [] k y many is = cc
at_place [] (y ∷ ys) k z many is = absurd (omega arith)
at_place (x ∷ xs) [] k y many is = cc
at_place (x ∷ xs) (y ∷ ys) zero z many is = (x, refl)
at_place (x ∷ xs) (y ∷ ys) (suc k) z many is = at_place xs ys k z (omega arith) is

some_at : {A : Type 0} (f : A → Bool) (xs : List A) → list_any f xs ≡ true → (k : ℕ) × ((x : A) × ((slice_get xs k ≡ Some x) × (f x ≡ true)))
some_at f [] is = absurd (true≢false (sym is))
some_at f (x ∷ xs) is = by (f x) refl is (some_at f xs) where
  by : (b : Bool) → f x ≡ b → (b || list_any f xs) ≡ true → (list_any f xs ≡ true → (k : ℕ) × ((y : _) × ((slice_get xs k ≡ Some y) × (f y ≡ true))))
      → (k : ℕ) × ((y : _) × ((slice_get (x ∷ xs) k ≡ Some y) × (f y ≡ true)))
  by true here is later = (0, (x, (refl, here)))
  by false other is later = let (k, (y, both)) = later is in (suc k, (y, both))

any_at : {A : Type 0} (f : A → Bool) (xs : List A) (k : ℕ) (x : A) → slice_get xs k ≡ Some x → f x ≡ true → list_any f xs ≡ true
any_at f [] k x is holds = cc
any_at f (y ∷ ys) zero x is holds = let same : y ≡ x = same_some is in ap (λ b. b || list_any f ys) (ap f same ∙ holds)
any_at f (y ∷ ys) (suc k) x is holds = or_right (f y) (any_at f ys k x is holds) where
  or_right : (b : Bool) {c : Bool} → c ≡ true → (b || c) ≡ true
  or_right true is = refl
  or_right false is = is

-- the element that a function sees so
seen_so : {X Y : Type 0} (f : X → Y) (o : Option X) (y : Y) → option_map f o ≡ Some y → (x : X) × ((o ≡ Some x) × (f x ≡ y))
seen_so f (Some x) y e = (x, (refl, same_some e))
seen_so f None y e = cc

-- ---- how entries stand

module _ {C : Type 0} where
  verified_sound : (f : Finding C) (s : Standing) → StandsAfter (standing_of f) (uses_of f) s → is_verified (verdict_of f s) ≡ is_sound s
  verified_sound (Finding.Clean xs) Standing.Sound stands = refl
  verified_sound (Finding.Clean xs) Standing.Caused stands = absurd stands
  verified_sound (Finding.Clean xs) (Standing.Depends g) stands = refl
  verified_sound (Finding.Vacuous proof) Standing.Sound stands = refl
  verified_sound (Finding.Vacuous proof) Standing.Caused stands = absurd stands
  verified_sound (Finding.Vacuous proof) (Standing.Depends g) stands = absurd (true≢false (sym stands))
  verified_sound (Finding.Caused c) s stands = sym (ap is_sound stands)

  caused_verdict : (f : Finding C) (s : Standing) → StandsAfter (standing_of f) (uses_of f) s → s ≡ Standing.Caused → (c : C) × (verdict_of f s ≡ Verdict.Unproved c)
  caused_verdict (Finding.Clean xs) s stands is = absurd (subst (λ (x : Standing). StandsAfter Standing.Sound xs x) is stands)
  caused_verdict (Finding.Vacuous proof) s stands is = absurd (subst (λ (x : Standing). StandsAfter Standing.Sound [] x) is stands)
  caused_verdict (Finding.Caused c) s stands is = (c, refl)

  depends_verdict : (f : Finding C) (s : Standing) (h : List ℕ) → StandsAfter (standing_of f) (uses_of f) s → s ≡ Standing.Depends h → verdict_of f s ≡ Verdict.DependsOn h
  depends_verdict (Finding.Clean xs) s h stands is = ap (verdict_of (Finding.Clean xs)) is
  depends_verdict (Finding.Vacuous proof) s h stands is =
      absurd (true≢false (sym (subst (λ (x : Standing). StandsAfter Standing.Sound [] x) is stands)))
  depends_verdict (Finding.Caused c) s h stands is = let both : Standing.Depends h ≡ Standing.Caused = sym is ∙ stands in cc

  fits_by : (answers : List (SpecAnswer C)) (f : Finding C) (s : Standing) → StandsAfter (standing_of f) (uses_of f) s
      → ((g : List ℕ) → s ≡ Standing.Depends g → LeadsToCause answers g) → Fits answers f (verdict_of f s)
  fits_by answers (Finding.Clean xs) Standing.Sound stands leads = tt
  fits_by answers (Finding.Clean xs) Standing.Caused stands leads = absurd stands
  fits_by answers (Finding.Clean xs) (Standing.Depends g) stands leads = (stands, leads g refl)
  fits_by answers (Finding.Vacuous proof) s stands leads = refl
  fits_by answers (Finding.Caused c) s stands leads = refl

  module _ (p : PureParts) (memory : MemoryName) (m : Actions) (spec : PureSpec) where
    clean_finding : (f : Finding C) (s : Standing) → StandsAfter (standing_of f) (uses_of f) s → is_sound s ≡ true → FindingHolds p memory m spec f
        → HasNoFault p memory m spec × UsesOnly p memory m (is_among (uses_of f)) spec
    clean_finding (Finding.Clean xs) s stands sound holds = holds
    clean_finding (Finding.Vacuous proof) s stands sound holds = holds
    clean_finding (Finding.Caused c) s stands sound holds =
        let both : false ≡ true = sym (ap is_sound stands) ∙ sound in absurd (true≢false (sym both))

-- a specification that a step uses is one of the program's
used_spec : (p : PureParts) (m : Actions) (o : Option PureNumberedCommand) (s : State) (used : PureSpec) → used_by p m o s ≡ Some used
    → (f : List ℕ) × (find_spec p.specs f ≡ Some used)
used_spec p m None s used is = cc
used_spec p m (Some n) s used is = by (is_call n.command) (step p m [] s) is where
  by : (b : Bool) (next : Step) → (if b then used_in p next else None) ≡ Some used → (f : List ℕ) × (find_spec p.specs f ≡ Some used)
  by true (goes_on t) is = (t.current.procedure, is)
  by true (ends e) is = cc
  by false next is = cc

-- ---- the answers

module _ {C : Type 0} (xs : List (Examined C)) (es : List Entry) (settled : IsSettling (map entry_of xs) es) where
  as_many : length es ≡ length xs
  as_many = settled.after_each.as_many ∙ as_many_entries xs

  after_at : (k : ℕ) (x : Examined C) (e : Entry) → slice_get xs k ≡ Some x → slice_get es k ≡ Some e → IsAfter (entry_of x) e
  after_at k x e at_x at_e = settled.after_each.each_after k (entry_of x) e (entry_at xs k x at_x) at_e

  leads : (g : List ℕ) → EndsAtCause es g → LeadsToCause (answers_of xs es) g
  leads g (at_cause e (k, at) named is) =
      let (x, at_x) = at_place xs es k e (sym as_many) at in
      let after = after_at k x e at_x at in
      let (c, verdict) = caused_verdict x.finding e.standing after.stands is in
      has_cause k (answer_of x e) c (answer_at xs es k x e at_x at) (sym after.same_name ∙ named) verdict
  leads g (further e h (k, at) named is later) =
      let (x, at_x) = at_place xs es k e (sym as_many) at in
      let after = after_at k x e at_x at in
      depends k (answer_of x e) h (answer_at xs es k x e at_x at) (sym after.same_name ∙ named) (depends_verdict x.finding e.standing h after.stands is)
      (leads h later)

  is_answer : (k : ℕ) (x : Examined C) (a : SpecAnswer C) → slice_get xs k ≡ Some x → slice_get (answers_of xs es) k ≡ Some a
      → IsAnswerTo (answers_of xs es) x a
  is_answer k x a at_x at_a =
      let (e, at_e) = at_place es xs k x as_many at_x in
      let same : answer_of x e ≡ a = same_some (sym (answer_at xs es k x e at_x at_e) ∙ at_a) in
      let after = after_at k x e at_x at_e in
      subst (λ (b : SpecAnswer C). IsAnswerTo (answers_of xs es) x b) same (record {
        same_name = refl;
        fits = fits_by (answers_of xs es) x.finding e.standing after.stands (λ g is. leads g (settled.ends e g (k, at_e) is));
      })

  -- a name that is answered verified, and the entry at its place
  record IsVerifiedAt (y : List ℕ) : Type 0 where
    place : ℕ
    examined : Examined C
    entry : Entry
    examined_at : slice_get xs place ≡ Some examined
    entry_there : slice_get es place ≡ Some entry
    named : examined.name ≡ y
    sound : is_sound entry.standing ≡ true

  verified_at : (y : List ℕ) → is_verified_name (answers_of xs es) y ≡ true → IsVerifiedAt y
  verified_at y is =
      let (k, (a, (at_a, both))) = some_at (λ (b : SpecAnswer C). bytes_eq b.name y && is_verified b.verdict) (answers_of xs es) is in
      let parts = and_parts (bytes_eq a.name y) (is_verified a.verdict) both in
      let comes = comes_of xs es k a at_a in
      let after = after_at k comes.examined comes.entry comes.examined_at comes.entry_at in
      record {
        place = k;
        examined = comes.examined;
        entry = comes.entry;
        examined_at = comes.examined_at;
        entry_there = comes.entry_at;
        named = ap (λ (b : SpecAnswer C). b.name) comes.answered ∙ (bytes_eq-Decides a.name y).0 parts.0;
        sound =
            sym (verified_sound comes.examined.finding comes.entry.standing after.stands)
            ∙ ap (λ (b : SpecAnswer C). is_verified b.verdict) comes.answered ∙ parts.1;
      }

  name_verified : (k : ℕ) (x : Examined C) (e : Entry) → slice_get xs k ≡ Some x → slice_get es k ≡ Some e → is_sound e.standing ≡ true
      → is_verified_name (answers_of xs es) x.name ≡ true
  name_verified k x e at_x at_e sound =
      any_at (λ (b : SpecAnswer C). bytes_eq b.name x.name && is_verified b.verdict) (answers_of xs es) k (answer_of x e) (answer_at xs es k x e at_x at_e)
      (and_from (bytes_eq x.name x.name) (is_verified (verdict_of x.finding e.standing)) ((bytes_eq-Decides x.name x.name).1 refl)
      (verified_sound x.finding e.standing (after_at k x e at_x at_e).stands ∙ sound))

  module _ (p : PureParts) (memory : MemoryName) (m : Actions) (findings : AreFindings p memory m xs) where
    clean_spec : (s : PureSpec) → find_spec p.specs s.name ≡ Some s → (v : IsVerifiedAt s.name)
        → HasNoFault p memory m s × UsesOnly p memory m (is_among (uses_of v.examined.finding)) s
    clean_spec s found v =
        let (t, (found_t, holds)) = findings.holds v.place v.examined v.examined_at in
        let same : t ≡ s = same_some (sym found_t ∙ ap (find_spec p.specs) v.named ∙ found) in
        let after = after_at v.place v.examined v.entry v.examined_at v.entry_there in
        clean_finding p memory m s v.examined.finding v.entry.standing after.stands v.sound
        (subst (λ (r : PureSpec). FindingHolds p memory m r v.examined.finding) same holds)

    used_verified : (s used : PureSpec) (f : List ℕ) (v : IsVerifiedAt s.name) → find_spec p.specs f ≡ Some used
        → is_among (uses_of v.examined.finding) used.name ≡ true → is_verified_name (answers_of xs es) used.name ≡ true
    used_verified s used f v found among =
        let (named, (i, at)) = spec_at p.specs f used found in
        let listed : slice_get (map (λ (x : Examined C). x.name) xs) i ≡ Some used.name =
        ap (λ (names : List (List ℕ)). slice_get names i) findings.names
        ∙ slice_get-map (λ (r : PureSpec). r.name) p.specs i ∙ ap (option_map (λ (r : PureSpec). r.name)) at in
        let (x, (at_x, name_x)) =
        seen_so (λ (y : Examined C). y.name) (slice_get xs i) used.name (sym (slice_get-map (λ (y : Examined C). y.name) xs i) ∙ listed) in
        let (e, at_e) = at_place es xs i x as_many at_x in
        let after_v = after_at v.place v.examined v.entry v.examined_at v.entry_there in
        let after_x = after_at i x e at_x at_e in
        let uses_it : is_among v.entry.uses e.name ≡ true =
        ap (λ (names : List (List ℕ)). is_among names e.name) after_v.same_uses
        ∙ ap (is_among (uses_of v.examined.finding)) (after_x.same_name ∙ name_x) ∙ among in
        let sound : is_sound e.standing ≡ true = settled.closed v.entry e (v.place, v.entry_there) v.sound (i, at_e) uses_it in
        subst (λ (y : List ℕ). is_verified_name (answers_of xs es) y ≡ true) name_x (name_verified i x e at_x at_e sound)

    uses_verified_only : (s : PureSpec) → find_spec p.specs s.name ≡ Some s → is_verified_name (answers_of xs es) s.name ≡ true
        → UsesOnly p memory m (is_verified_name (answers_of xs es)) s
    uses_verified_only s found is args variables n c used reached uses =
        let v = verified_at s.name is in
        let (f, found_used) = used_spec p m _ c.machine used uses in
        used_verified s used f v found_used ((clean_spec s found v).1 args variables n c used reached uses)

    all_verified : AreVerified p memory m (is_verified_name (answers_of xs es))
    all_verified = record {
      no_fault = λ s chosen. (clean_spec s chosen.found (verified_at s.name chosen.is_chosen)).0;
      uses_only = λ s chosen. uses_verified_only s chosen.found chosen.is_chosen;
    }

  pub right_answers : AnswersAreRight xs (answers_of xs es)
  right_answers = record {
    as_many = as_many_answers xs es as_many;
    each_answers = is_answer;
    are_true = λ p memory m made valid modes is_memory findings. record {
      holds = λ s found chosen.
          verified_specifications_hold p memory m (is_verified_name (answers_of xs es)) made valid modes is_memory (all_verified p memory m findings) s
          (record { found = found; is_chosen = chosen });
      uses_verified = λ s found chosen. uses_verified_only p memory m findings s found chosen;
    };
  }
