-- Explorations that take answers, and what is settled of them.
use Rattle.std.proofs.Common.{◌≡◌, ◌⊎◌, ⊎_elim, inl, inr, ℕ, suc, ◌+◌, ◌-◌, ◌<◌, List, [], ◌∷◌, ◌++◌, Bool, true, false, ◌||◌, Option, Some, None, is_some, IsTrue, refl, sym, ap, subst, ◌∙◌, true≢false, arith}
use Rattle.std.specs.Option.{IsSome}
use Rattle.std.specs.Prelude.{IfNone}
use Rattle.std.specs.Str.{bytes_eq}
use Rattle.std.proofs.lemmas.List.{append-nil, append_assoc}
use Rattle.std.proofs.lemmas.List.Folds.{list_any-append}
use Rattle.gil_values.specs.Pure.{PureValue}
use Rattle.gil_syntax.specs.Pure.{PureParts}
use Rattle.gil_syntax.specs.Valid.{is_among}
use Rattle.mem_model.specs.declared.keys.MemoryName.{MemoryName}
use Rattle.mem_model.specs.Actions.{Actions}
use Rattle.mem_model.specs.Heaps.{Heap}
use Rattle.checked_runs.specs.Checked.{HasNoFault, UsesOnly}
use Rattle.sym_model.specs.Laws.{IsMeaning}
use Rattle.sym_model.specs.Lists.{Each, OneOf}
use Rattle.sym_model.specs.Terms.{StateTerms}
use Rattle.sym_model.proofs.ListLaws.{each_append, each_left, each_right, one_left, one_right, same_some}
use Rattle.checked_paths.specs.Accounting.{AreChosen, CoversStarts, IsAccounted, OfFurther}
use Rattle.checked_paths.specs.Covering.{FollowsOn, AreNexts, IsCaused}
use Rattle.checked_paths.specs.declared.nexts.Cause.{Cause}
use Rattle.checked_paths.specs.Meaning.{MayGoOn}
use Rattle.checked_paths.specs.Pure.{PureEntry, PureChecking, PureNext, further, over, caused}
use Rattle.checked_paths.proofs.Above.{stands_above}
use Rattle.checked_paths.proofs.Accounting.{accounted_runs}
use Rattle.spec_exploration.specs.Ending.{NoneIsCut}
use Rattle.spec_exploration.specs.Exploring.{PureExploration, furthers, IsNamed, AreTaken, ArePlaced, StartPlaced, IsSettled, IsSettledBy, SettlesStarts}
use Rattle.spec_exploration.proofs.Ending.{accounted_runs_end}

pub some_is_not_none : {A : Type 0} (o : Option A) → IsSome o → o ≡ None → ⊥
some_is_not_none o some none = true≢false (sym some ∙ ap is_some none)

-- ---- what is taken

module _ {S : Type 0} where
  furthers_append : (ns more : List (PureNext S)) → furthers (ns ++ more) ≡ furthers ns ++ furthers more
  furthers_append [] more = refl
  furthers_append (further x ∷ ns) more = ap (λ ys. x ∷ ys) (furthers_append ns more)
  furthers_append (over ∷ ns) more = furthers_append ns more
  furthers_append (caused cause ∷ ns) more = furthers_append ns more

  pub taken_none : (a : PureExploration S) → AreTaken a [] a
  taken_none a = record { left = sym (append-nil a.left); no_cause = λ none. (none, tt); cause = λ c is. inl is; uses = refl }

  -- a cause is an old one, or among earlier or later answers
  among_both : (o : Option Cause) (c : Cause) (ns more : List (PureNext S)) → (o ≡ Some c) ⊎ OneOf (λ n. n ≡ caused c) ns → (o ≡ Some c) ⊎ OneOf (λ n. n ≡ caused c) (ns ++ more)
  among_both o c ns more (inl old) = inl old
  among_both o c ns more (inr one) = inr (one_left (λ n. n ≡ caused c) ns more one)

  pub taken_more : (a b c : PureExploration S) (ns more : List (PureNext S)) → AreTaken a ns b → AreTaken b more c → AreTaken a (ns ++ more) c
  taken_more a b c ns more first second = record {
    left = second.left ∙ ap (λ xs. xs ++ furthers more) first.left ∙ append_assoc a.left (furthers ns) (furthers more) ∙ ap (λ xs. a.left ++ xs) (sym (furthers_append ns more));
    no_cause = λ none.
        let last = second.no_cause none in
        let before = first.no_cause last.0 in
        (before.0, each_append (λ n. ¬ IsCaused n) ns more before.1 last.1);
    cause = λ d is.
        ⊎_elim (λ (old : b.cause ≡ Some d). among_both a.cause d ns more (first.cause d old)) (λ one. inr (one_right (λ n. n ≡ caused d) ns more one)) (second.cause d is);
    uses = second.uses ∙ first.uses;
  }

  further_taken : (a : PureExploration S) (x : PureChecking S) → AreTaken a (further x ∷ []) (record a { left = a.left ++ x ∷ [] })
  further_taken a x = record { left = refl; no_cause = λ none. (none, ((λ is. is), tt)); cause = λ c is. inl is; uses = refl }

  pub taken_further : (a b : PureExploration S) (x : PureChecking S) → b ≡ record a { left = a.left ++ x ∷ [] } → AreTaken a (further x ∷ []) b
  taken_further a b x is = subst (AreTaken a (further x ∷ [])) (sym is) (further_taken a x)

  pub taken_over : (a : PureExploration S) → AreTaken a (over ∷ []) a
  taken_over a = record { left = sym (append-nil a.left); no_cause = λ none. (none, ((λ is. is), tt)); cause = λ c is. inl is; uses = refl }

  named_among : (old : Option Cause) (new : Cause) (o : Option Cause) → IsNamed old new o → (c : Cause) → o ≡ Some c → (old ≡ Some c) ⊎ OneOf (λ (n : PureNext S). n ≡ caused c) (caused new ∷ [])
  named_among old new o named c is =
      ⊎_elim (λ (same : o ≡ old). inl (sym same ∙ is)) (λ (later : o ≡ Some new). inr (inl (ap caused (same_some (sym later ∙ is))))) named.which

  pub taken_cause : (a b : PureExploration S) (cause : Cause) → b.left ≡ a.left → IsNamed a.cause cause b.cause → b.uses ≡ a.uses → AreTaken a (caused cause ∷ []) b
  taken_cause a b cause left found uses = record {
    left = left ∙ sym (append-nil a.left);
    no_cause = λ none. absurd (some_is_not_none b.cause found.some none);
    cause = named_among a.cause cause b.cause found;
    uses = uses;
  }

-- ---- names

or_left : (b c : Bool) → IsTrue b → IsTrue (b || c)
or_left true c is = refl
or_left false c is = absurd (true≢false (sym is))

or_right : (b c : Bool) → IsTrue c → IsTrue (b || c)
or_right true c is = refl
or_right false c is = is

module _ (chosen : List ℕ → Bool) (names more : List (List ℕ)) (all : AreChosen chosen (names ++ more)) where
  chosen_first : AreChosen chosen names
  chosen_first x is = all x (subst IsTrue (sym (list_any-append (bytes_eq x) names more)) (or_left (is_among names x) (is_among more x) is))

  chosen_rest : AreChosen chosen more
  chosen_rest x is = all x (subst IsTrue (sym (list_any-append (bytes_eq x) names more)) (or_right (is_among names x) (is_among more x) is))

-- ---- what is settled

of_furthers : {S : Type 0} (P : PureChecking S → Type 0) (ns : List (PureNext S)) → Each P (furthers ns) → Each (λ n. ¬ IsCaused n) ns → Each (OfFurther P) ns
of_furthers P [] each none = tt
of_furthers P (further x ∷ ns) each none = (each.0, of_furthers P ns each.1 none.1)
of_furthers P (over ∷ ns) each none = (tt, of_furthers P ns each none.1)
of_furthers P (caused cause ∷ ns) each none = absurd (none.0 tt)

pub each_zip : {A : Type 0} (P Q R : A → Type 0) (xs : List A) → ((x : A) → P x → Q x → R x) → Each P xs → Each Q xs → Each R xs
each_zip P Q R [] f first second = tt
each_zip P Q R (x ∷ xs) f first second = (f x first.0 second.0, each_zip P Q R xs f first.1 second.1)

pub further_each : {S : Type 0} (P : PureChecking S → Type 0) (Q : PureNext S → Type 0) → ((x : PureChecking S) → Q (further x) → P x) → (ns : List (PureNext S)) → Each Q ns → Each P (furthers ns)
further_each P Q f [] each = tt
further_each P Q f (further x ∷ ns) each = (f x each.0, further_each P Q f ns each.1)
further_each P Q f (over ∷ ns) each = further_each P Q f ns each.1
further_each P Q f (caused cause ∷ ns) each = further_each P Q f ns each.1

module _ {S : Type 0} (p : PureParts) (memory : MemoryName) (m : Actions) (stands : S → List PureValue → Heap → Type 0) (terms : S → StateTerms) (e : PureEntry) (bound : ℕ) where
  abbrev Accounted : (List ℕ → Bool) → ℕ → PureChecking S → Type 0
  Accounted chosen = IsAccounted p memory m stands e chosen

  abbrev Settled : (List ℕ → Bool) → PureExploration S → Type 0
  Settled = IsSettled p memory m stands e bound

  abbrev SettledBy : PureExploration S → PureExploration S → Type 0
  SettledBy = IsSettledBy p memory m stands e bound

  abbrev WithinBound : (List ℕ → Bool) → PureChecking S → Type 0
  WithinBound chosen y = Accounted chosen (bound - y.path.steps) y

  -- a cut path is a cause
  pub cut_settled : (before after : PureExploration S) (x : PureChecking S) (cause : Cause) → AreTaken before (caused cause ∷ []) after → SettledBy (record before { left = before.left ++ x ∷ [] }) after
  cut_settled before after x cause taken chosen settled = absurd ((taken.no_cause settled.no_cause).1.0 tt)

  pub cut_placed : (before after : PureExploration S) (cause : Cause) → AreTaken before (caused cause ∷ []) after → ArePlaced p terms e before → ArePlaced p terms e after
  cut_placed before after cause taken placed = subst (Each (MayGoOn p terms e)) (sym (taken.left ∙ append-nil before.left)) placed

  module _ (before after : PureExploration S) (x : PureChecking S) (names : List (List ℕ)) (ns : List (PureNext S)) (laws : AreNexts p memory m stands terms e x names ns)
      (taken : AreTaken (record before { uses = before.uses ++ names }) ns after) where
    next_accounted : (chosen : List ℕ → Bool) (k : ℕ) → bound - (x.path.steps + 1) ≡ k → (n : PureNext S) → FollowsOn p terms e x n → OfFurther (WithinBound chosen) n → OfFurther (Accounted chosen k) n
    next_accounted chosen k is (further y) follows accounted = subst (λ i. Accounted chosen i y) (ap (λ j. bound - j) follows.1 ∙ is) accounted
    next_accounted chosen k is over follows accounted = tt
    next_accounted chosen k is (caused cause) follows accounted = absurd accounted

    pub step_settled : x.path.steps < bound → SettledBy (record before { left = before.left ++ x ∷ [] }) after
    step_settled early chosen settled =
        let earlier = taken.no_cause settled.no_cause in
        let names_all = subst (AreChosen chosen) taken.uses settled.names_chosen in
        let left_all = subst (Each (WithinBound chosen)) taken.left settled.accounted in
        let k = bound - (x.path.steps + 1) in
        let one_more : bound - x.path.steps ≡ suc k = omega (arith, early) in
        let nexts = each_zip (FollowsOn p terms e x) (OfFurther (WithinBound chosen)) (OfFurther (Accounted chosen k)) ns (next_accounted chosen k refl) laws.follow
        (of_furthers (WithinBound chosen) ns (each_right (WithinBound chosen) before.left (furthers ns) left_all) earlier.1) in
        record {
          no_cause = earlier.0;
          names_chosen = chosen_first chosen before.uses names names_all;
          accounted = each_append (WithinBound chosen) before.left (x ∷ []) (each_left (WithinBound chosen) before.left (furthers ns) left_all) (
            subst (λ i. Accounted chosen i x) (sym one_more) (record {
              names = names;
              nexts = ns;
              cover = laws.cover;
              uses = laws.uses;
              names_chosen = chosen_rest chosen before.uses names names_all;
              later = nexts;
            }),
            tt,
          );
        }

    pub step_placed : ArePlaced p terms e before → ArePlaced p terms e after
    step_placed placed =
        subst (Each (MayGoOn p terms e)) (sym taken.left)
        (each_append (MayGoOn p terms e) before.left (furthers ns) placed (further_each (MayGoOn p terms e) (FollowsOn p terms e x) (λ y follows. follows.0) ns laws.follow))

  -- ---- starts

  abbrev Empty : PureExploration S
  Empty = record { left = []; cause = None; uses = [] }

  module _ (starts : List (PureNext S)) where
    start_accounted : (chosen : List ℕ → Bool) (n : PureNext S) → StartPlaced p terms e n → OfFurther (WithinBound chosen) n → OfFurther (Accounted chosen bound) n
    start_accounted chosen (further y) placed accounted = let none : bound - y.path.steps ≡ bound = ap (λ j. bound - j) placed.1 ∙ omega arith in subst (λ i. Accounted chosen i y) none accounted
    start_accounted chosen over placed accounted = tt
    start_accounted chosen (caused cause) placed accounted = absurd accounted

    pub starts_settle : (first : PureExploration S) → AreTaken Empty starts first → Each (StartPlaced p terms e) starts → SettlesStarts p memory m stands e bound starts first
    starts_settle first taken placed chosen settled =
        each_zip (StartPlaced p terms e) (OfFurther (WithinBound chosen)) (OfFurther (Accounted chosen bound)) starts (start_accounted chosen) placed
        (of_furthers (WithinBound chosen) starts (subst (Each (WithinBound chosen)) taken.left settled.accounted) (taken.no_cause settled.no_cause).1)

    pub starts_placed : (first : PureExploration S) → AreTaken Empty starts first → Each (StartPlaced p terms e) starts → ArePlaced p terms e first
    starts_placed first taken placed = subst (Each (MayGoOn p terms e)) (sym taken.left) (further_each (MayGoOn p terms e) (StartPlaced p terms e) (λ y at. at.0) starts placed)

    pub settle_later : (old before after : PureExploration S) → old ≡ before → SettledBy before after → SettlesStarts p memory m stands e bound starts old → SettlesStarts p memory m stands e bound starts after
    settle_later old before after is by settles chosen settled = settles chosen (subst (Settled chosen) (sym is) (by chosen settled))

    -- nothing is left, and no cause was found
    pub settled_runs : IsMeaning memory stands terms → CoversStarts p memory m stands e starts → (last : PureExploration S) → last.left ≡ [] → last.cause ≡ None → SettlesStarts p memory m stands e bound starts last
        → HasNoFault p memory m e.spec × UsesOnly p memory m (is_among last.uses) e.spec
    settled_runs meaning cover last none no_cause settles =
        accounted_runs memory m stands (stands_above memory stands terms meaning) p e (is_among last.uses) bound starts cover
        (settles (is_among last.uses) (record { no_cause = no_cause; names_chosen = λ x is. is; accounted = subst (Each (WithinBound (is_among last.uses))) (sym none) tt }))

    pub settled_ends : IsMeaning memory stands terms → CoversStarts p memory m stands e starts → (last : PureExploration S) → last.left ≡ [] → last.cause ≡ None → SettlesStarts p memory m stands e bound starts last
        → NoneIsCut p memory m bound e.spec
    settled_ends meaning cover last none no_cause settles =
        accounted_runs_end p memory m stands (stands_above memory stands terms meaning) e (is_among last.uses) bound starts cover
        (settles (is_among last.uses) (record { no_cause = no_cause; names_chosen = λ x is. is; accounted = subst (Each (WithinBound (is_among last.uses))) (sym none) tt }))

-- ---- the last path

pub last_apart : {A : Type 0} (P : A → Type 0) (all rest : List A) (x : A) → all ≡ rest ++ x ∷ [] → Each P all → Each P rest × P x
last_apart P all rest x is each = let both : Each P (rest ++ x ∷ []) = subst (Each P) is each in (each_left P rest (x ∷ []) both, (each_right P rest (x ∷ []) both).0)

pub if_none : {A : Type 0} (o : Option A) (P : Type 0) → (o ≡ None → P) → IfNone o P
if_none None P holds = holds refl
if_none (Some x) P holds = tt
