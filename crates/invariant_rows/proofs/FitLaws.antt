-- Values of names that surely fit have their sorts.
use Rattle.std.proofs.Common.{◌≡◌, ⊎_elim, inl, inr, List, [], ◌∷◌, ℕ, Bool, true, false, true≢false, IsTrue, not, ◌&&◌, ◌||◌, Option, Some, None, is_some, IfNone, IfSome, refl, sym, ap, subst, ◌∙◌}
use Rattle.std.specs.Str.{bytes_eq}
use Rattle.std.proofs.lemmas.Bool.{and_parts}
use Rattle.gil_values.specs.Pure.{PureValue}
use Rattle.gil_syntax.specs.declared.assertions.Param.{Param}
use Rattle.gil_syntax.specs.Evaluation.{Store, value_of}
use Rattle.assert_logic.specs.Sorts.{has_sort, fits_sorts, HasSorts}
use Rattle.checked_runs.specs.Checked.{fits_if_known, known_fit}
use Rattle.pure_terms.specs.declared.variables.Sort.{Sort}
use Rattle.pure_terms.specs.Meaning.{all_true, Satisfies, IsOver, IsProper}
use Rattle.pure_terms.specs.Pure.{PureTerm, PureAtom, term_of}
use Rattle.sym_model.specs.Alternatives.{Hold}
use Rattle.sym_evaluation.specs.Meaning.{AreSame, StandsFor, IsStoreOver}
use Rattle.sym_evaluation.specs.Pure.{PureStore, term_at}
use Rattle.sym_matching.specs.Matching.{TestsSorts}
use Rattle.sym_matching.specs.Meaning.{IsCondition, AreConditions}
use Rattle.sym_matching.specs.Pure.{PureTest}
use Rattle.sym_model.proofs.ListLaws.{each_to}
use Rattle.sym_model.specs.Lists.{Each}
use Rattle.sym_states.proofs.Names.{same_name, names_same}
use Rattle.sym_unfolding.proofs.SearchLaws.{joined_true, true_parts}
use Rattle.checked_rows.specs.Doubts.{PureDoubt, always, under, beyond}
use Rattle.invariant_rows.specs.Fitting.{NeverMet, SurelyFits, AllFit, DoubtsOne, DoubtsSorts}

pub if_some_to : {A : Type 0} {P Q : A → Type 0} (o : Option A) → IfSome o P → ((a : A) → P a → Q a) → IfSome o Q
if_some_to (Some a) is f = f a is
if_some_to None is f = tt

pub if_none_then : {A : Type 0} {P : Type 0} (o : Option A) → is_some o ≡ false → IfNone o P → P
if_none_then None none is = is
if_none_then (Some a) none is = absurd (true≢false none)

pub if_none_to : {A : Type 0} {P Q : Type 0} (o : Option A) → IfNone o P → (P → Q) → IfNone o Q
if_none_to None is f = f is
if_none_to (Some a) is f = tt

-- the conditions of each alternative name only variables of the table
pub conditions_over : (vars : List Sort) (x : List (List PureAtom)) → Each (AreConditions vars) x → Each (Each (λ a. IsOver vars (term_of a))) x
conditions_over vars x = each_to (AreConditions vars) (Each (λ a. IsOver vars (term_of a))) x (λ conds. each_to (IsCondition vars) (λ a. IsOver vars (term_of a)) conds (λ a is. is.0))

-- none of the alternatives holds where the conditions are met
never_holds : (vars : List Sort) (conds : List PureAtom) (x : List (List PureAtom)) (v : List PureValue) → Satisfies vars v conds → NeverMet vars conds x → ¬ Hold v x
never_holds vars conds [] v meets never hold = hold
never_holds vars conds (more ∷ x) v meets never (inl here) = never.0 v (record { proper = meets.proper; true_there = joined_true v conds more meets.true_there here })
never_holds vars conds (more ∷ x) v meets never (inr later) = never_holds vars conds x v meets never.1 later

term_of_name : (v : List PureValue) (o : Option PureTerm) (t : PureTerm) (u : Option PureValue) (w : PureValue) → o ≡ Some t → u ≡ Some w → AreSame v o u → AreSame v (Some t) (Some w)
term_of_name v o t u w has is same = subst (AreSame v (Some t)) is (subst (λ k. AreSame v k u) has same)

-- a name with a term whose test is surely met
pub test_fits : (ps : List Param) (vars : List Sort) (conds : List PureAtom) (bs : PureStore) (x : List ℕ) (t : PureTerm) (test : PureTest) → IsStoreOver vars bs → term_at bs x ≡ Some t → TestsSorts ps x t test → NeverMet vars conds test.otherwise → SurelyFits ps vars conds bs x
test_fits ps vars conds bs x t test over has tests never v s w meets stands at =
    let says = tests vars v w meets.proper (over x t has) (term_of_name v (term_at bs x) t (value_of s x) w has at (stands x)) in
    ⊎_elim says.when (λ other. absurd (never_holds vars conds test.otherwise v meets never other)) says.cover

no_term : (v : List PureValue) (o : Option PureTerm) (u : Option PureValue) (w : PureValue) {P : Type 0} → o ≡ None → u ≡ Some w → AreSame v o u → P
no_term v o u w none at same = absurd (subst (AreSame v None) at (subst (λ k. AreSame v k u) none same))

pub none_fits : (ps : List Param) (vars : List Sort) (conds : List PureAtom) (bs : PureStore) (x : List ℕ) → term_at bs x ≡ None → SurelyFits ps vars conds bs x
none_fits ps vars conds bs x none v s w meets stands at = no_term v (term_at bs x) (value_of s x) w none at (stands x)

module _ (whole : List Param) (vars : List Sort) (conds : List PureAtom) (bs : PureStore) (v : List PureValue) (s : Store) (meets : Satisfies vars v conds) (stands : StandsFor v bs s) where
  fit_each : (qs : List Param) → ((x : List ℕ) (w : PureValue) → fits_sorts whole x w ≡ true → fits_sorts qs x w ≡ true) → AllFit whole vars conds bs qs → known_fit s qs ≡ true
  fit_each [] within all = refl
  fit_each (q ∷ qs) within all =
      ap (λ b. b && known_fit s qs) (one (value_of s q.name) refl)
      ∙ fit_each qs (λ x w fits. (and_parts (not (bytes_eq q.name x) || has_sort q.sort w) (fits_sorts qs x w) (within x w fits)).1) all.1
    where
      one : (o : Option PureValue) → value_of s q.name ≡ o → fits_if_known o q ≡ true
      one None at = refl
      one (Some w) at =
          sym (ap (λ b. not b || has_sort q.sort w) (same_name q.name))
          ∙ (and_parts (not (bytes_eq q.name q.name) || has_sort q.sort w) (fits_sorts qs q.name w) (within q.name w (all.0 v s w meets stands at))).0

  pub all_fit : AllFit whole vars conds bs whole → known_fit s whole ≡ true
  all_fit = fit_each whole (λ x w fits. fits)

-- ---- names of the sorts that are declared

fits_one : (q : Param) (x : List ℕ) (w : PureValue) (s : Store) → fits_if_known (value_of s q.name) q ≡ true → value_of s x ≡ Some w → (not (bytes_eq q.name x) || has_sort q.sort w) ≡ true
fits_one q x w s fits at = by (bytes_eq q.name x) refl
  where
    by : (b : Bool) → bytes_eq q.name x ≡ b → (not (bytes_eq q.name x) || has_sort q.sort w) ≡ true
    by false other = ap (λ b. not b || has_sort q.sort w) other
    by true same =
        let there : value_of s q.name ≡ Some w = ap (value_of s) (names_same q.name x same) ∙ at in
        ap (λ b. not b || has_sort q.sort w) same ∙ (sym (ap (λ o. fits_if_known o q) there) ∙ fits)

pub fit_has_sorts : (qs : List Param) (s : Store) → known_fit s qs ≡ true → HasSorts qs s
fit_has_sorts [] s fit x w at = refl
fit_has_sorts (q ∷ qs) s fit x w at =
    let (first, rest) = and_parts (fits_if_known (value_of s q.name) q) (known_fit s qs) fit in
    λ i. fits_one q x w s first at i && fit_has_sorts qs s rest x w at i

-- a value that isn't of its sorts
unfit : (qs : List Param) (s : Store) (x : List ℕ) (w : PureValue) → value_of s x ≡ Some w → fits_sorts qs x w ≡ false → known_fit s qs ≡ false
unfit qs s x w at isnt = by (known_fit s qs) refl
  where
    by : (b : Bool) → known_fit s qs ≡ b → known_fit s qs ≡ false
    by false is = is
    by true fit = absurd (true≢false (sym (fit_has_sorts qs s fit x w at) ∙ isnt))

-- where the test of a name's term may fail, some name has a value that isn't of its sort
pub test_doubts : (ps : List Param) (vars : List Sort) (conds : List PureAtom) (bs : PureStore) (x : List ℕ) (t : PureTerm) (test : PureTest) → IsStoreOver vars bs → term_at bs x ≡ Some t → TestsSorts ps x t test → (doubt : PureDoubt)
    → DoubtsOne vars conds test.otherwise doubt → DoubtsSorts ps vars conds bs doubt
test_doubts ps vars conds bs x t test over has tests doubt = by test.otherwise doubt (λ v holds. holds)
  where
    misfits : (v : List PureValue) (s : Store) → IsProper vars v → Hold v test.otherwise → (o : Option PureValue) → value_of s x ≡ o → AreSame v (Some t) o → known_fit s ps ≡ false
    misfits v s proper holds None at same = absurd same
    misfits v s proper holds (Some w) at same = unfit ps s x w at ((tests vars v w proper (over x t has) same).otherwise holds)

    by : (y : List (List PureAtom)) (doubt : PureDoubt) → ((v : List PureValue) → Hold v y → Hold v test.otherwise) → DoubtsOne vars conds y doubt → DoubtsSorts ps vars conds bs doubt
    by [] doubt within one = absurd one
    by (more ∷ y) doubt within (inr later) = by y doubt (λ v holds. within v (inr holds)) later
    by (more ∷ y) always within (inl is_told) = is_told
    by (more ∷ y) (under atoms u) within (inl (are, meets)) = (
      (more, are),
      meets,
      λ v s proper met stands.
          misfits v s proper (within v (inl (true_parts v conds more (subst (λ cs. IsTrue (all_true v cs)) are met)).1)) (value_of s x) refl (subst (λ o. AreSame v o (value_of s x)) has (stands x)),
    )
    by (more ∷ y) (beyond atoms reason) within (inl (are, outside)) = ((more, are), outside)
