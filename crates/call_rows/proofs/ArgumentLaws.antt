-- Arguments that fit have the sorts of the parameters.
use Rattle.std.proofs.Common.{◌≡◌, ⊎_elim, inl, inr, List, [], ◌∷◌, ◌++◌, length, Bool, true, false, not, ◌&&◌, ◌||◌, cond, Option, Some, None, IfNone, IfSome, is_some, IsTrue, refl, sym, ap, subst, ◌∙◌, true≢false, ℕ, arith}
use Rattle.std.specs.Str.{bytes_eq}
use Rattle.std.proofs.lemmas.Bool.{and_parts}
use Rattle.std.proofs.lemmas.List.Folds.{list_all-append}
use Rattle.std.proofs.lemmas.Slice.Eq.{bytes_eq-Decides}
use Rattle.gil_values.specs.Pure.{PureValue}
use Rattle.gil_machine.specs.Step.{bind_all}
use Rattle.gil_syntax.specs.declared.assertions.Param.{Param}
use Rattle.gil_syntax.specs.Evaluation.{Store, value_of}
use Rattle.gil_syntax.specs.Valid.{param_names, has_twice, is_among}
use Rattle.assert_logic.specs.Sorts.{has_sort, fits_sorts}
use Rattle.checked_runs.specs.Specifications.{fit_params}
use Rattle.pure_terms.specs.declared.variables.Sort.{Sort}
use Rattle.pure_terms.specs.Meaning.{truth, all_true, Satisfies, IsUnsatisfiable, value}
use Rattle.pure_terms.specs.Pure.{PureTerm, PureAtom}
use Rattle.sym_model.specs.Alternatives.{Alternatives, Hold}
use Rattle.sym_evaluation.specs.Meaning.{AreSame, StandsFor, IsStoreOver}
use Rattle.sym_evaluation.specs.Pure.{PureStore, term_at}
use Rattle.sym_matching.specs.Matching.{TestsSorts}
use Rattle.sym_matching.specs.Meaning.{SaysTest}
use Rattle.sym_matching.specs.Pure.{PureTest}
use Rattle.sym_model.specs.Lists.{Each, OneOf}
use Rattle.sym_model.proofs.ListLaws.{same_some}
use Rattle.sym_states.proofs.Names.{none_of_two}
use Rattle.checked_rows.specs.Doubts.{PureDoubt, always, under, beyond, IsToldThere}
use Rattle.call_rows.specs.Arguments.{FitsParam, FitParams, IsUnfit, IsDoubtOver}

-- ---- where there is none

pub none_to : {X : Type 0} (o : Option X) (P Q : Type 0) → (P → Q) → IfNone o P → IfNone o Q
none_to (Some x) P Q f is = tt
none_to None P Q f is = f is

pub none_holds : {X : Type 0} (o : Option X) (P : Type 0) → is_some o ≡ false → IfNone o P → P
none_holds (Some x) P there is = absurd (true≢false there)
none_holds None P there is = is

pub some_to : {X : Type 0} (o : Option X) (P Q : X → Type 0) → ((x : X) → P x → Q x) → IfSome o P → IfSome o Q
some_to (Some x) P Q f is = f x is
some_to None P Q f is = tt

-- ---- on values

-- each parameter has a value of its sorts
abbrev pub HaveTheirSorts : List Param → List Param → Store → Type 0
HaveTheirSorts scope qs s = Each (λ q. (w : PureValue) × ((value_of s q.name ≡ Some w) × IsTrue (fits_sorts scope q.name w))) qs

own_sort : (q : Param) (scope : List Param) (w : PureValue) → fits_sorts (q ∷ scope) q.name w ≡ true → has_sort q.sort w ≡ true
own_sort q scope w fits = by (bytes_eq q.name q.name) ((bytes_eq-Decides q.name q.name).1 refl) (and_parts (not (bytes_eq q.name q.name) || has_sort q.sort w) (fits_sorts scope q.name w) fits).0
  where
    by : (b : Bool) → b ≡ true → (not b || has_sort q.sort w) ≡ true → has_sort q.sort w ≡ true
    by true same is = is
    by false same is = absurd (true≢false (sym same))

later_sorts : (before scope : List Param) (x : List ℕ) (w : PureValue) → fits_sorts (before ++ scope) x w ≡ true → fits_sorts scope x w ≡ true
later_sorts before scope x w fits =
    (and_parts (fits_sorts before x w) (fits_sorts scope x w) (sym (list_all-append (λ q. not (bytes_eq q.name x) || has_sort q.sort w) before scope) ∙ fits)).1

-- the value of another name of a store that begins with a binding
behind_binding : (x y : List ℕ) (v : PureValue) (s : Store) → bytes_eq x y ≡ false → value_of (record { name = x; value = v } ∷ s) y ≡ value_of s y
behind_binding x y v s other = ap (λ b. cond b (Some v) (value_of s y)) other

first_binding : (x : List ℕ) (v : PureValue) (s : Store) → value_of (record { name = x; value = v } ∷ s) x ≡ Some v
first_binding x v s = ap (λ b. cond b (Some v) (value_of s x)) ((bytes_eq-Decides x x).1 refl)

-- each parameter after one that isn't named like it
sorts_behind : (before scope : List Param) (x : List ℕ) (v : PureValue) (qs : List Param) (s : Store) → is_among (param_names qs) x ≡ false → HaveTheirSorts (before ++ scope) qs (record { name = x; value = v } ∷ s) → HaveTheirSorts scope qs s
sorts_behind before scope x v [] s lacks have = tt
sorts_behind before scope x v (q ∷ qs) s lacks have =
    let (differs, later) = none_of_two (bytes_eq x q.name) (is_among (param_names qs) x) lacks in
    let (w, (at, fits)) = have.0 in (
      (w, (sym (behind_binding x q.name v s differs) ∙ at, later_sorts before scope q.name w fits)),
      sorts_behind before scope x v qs s later have.1,
    )

pub fit_values : (qs : List Param) (vs : List PureValue) → has_twice (param_names qs) ≡ false → length qs ≡ length vs → HaveTheirSorts qs qs (bind_all (param_names qs) vs) → fit_params qs vs ≡ true
fit_values [] [] once as_many have = refl
fit_values [] (v ∷ vs) once as_many have = absurd (cc)
fit_values (q ∷ qs) [] once as_many have = absurd (cc)
fit_values (q ∷ qs) (v ∷ vs) once as_many have =
    let (lacks, later) = none_of_two (is_among (param_names qs) q.name) (has_twice (param_names qs)) once in
    let (w, (at, fits)) = have.0 in
    let same : v ≡ w = same_some (sym (first_binding q.name v (bind_all (param_names qs) vs)) ∙ at) in
    let first : has_sort q.sort v ≡ true = ap (has_sort q.sort) same ∙ own_sort q qs w fits in
    ap (λ b. b && fit_params qs vs) first ∙ fit_values qs vs later (omega (arith, as_many)) (sorts_behind (q ∷ []) qs q.name v qs (bind_all (param_names qs) vs) lacks have.1)

-- ---- on terms

module _ (vars : List Sort) (conds : List PureAtom) where
  never_held : (v : List PureValue) (x : Alternatives) → Satisfies vars v conds → Each (λ more. IsUnsatisfiable vars (conds ++ more)) x → ¬ Hold v x
  never_held v [] sat never held = held
  never_held v (more ∷ x) sat never (inl here) =
      never.0 v (record { proper = sat.proper; true_there = list_all-append (truth v) conds more ∙ ap (λ b. b && all_true v more) sat.true_there ∙ here })
  never_held v (more ∷ x) sat never (inr later) = never_held v x sat never.1 later

  -- a parameter of which no test fails
  pub fits_param : (bs : PureStore) (scope : List Param) (q : Param) (t : PureTerm) (test : PureTest) → term_at bs q.name ≡ Some t → TestsSorts scope q.name t test → Each (λ more. IsUnsatisfiable vars (conds ++ more)) test.otherwise → FitsParam vars conds bs scope q
  fits_param bs scope q t test at says never v s sat over stands = by (value_of s q.name) refl (subst (λ o. AreSame v o (value_of s q.name)) at (stands q.name))
    where
      fits : (w : PureValue) → value v t ≡ Some w → IsTrue (fits_sorts scope q.name w)
      fits w is =
          let told : SaysTest v test (fits_sorts scope q.name w) = says vars v w sat.proper (over q.name t at) is in
          ⊎_elim told.when (λ held. absurd (never_held v test.otherwise sat never held)) told.cover

      by : (o : Option PureValue) → value_of s q.name ≡ o → AreSame v (Some t) o → (w : PureValue) × ((value_of s q.name ≡ Some w) × IsTrue (fits_sorts scope q.name w))
      by (Some w) has same = (w, (has, fits w same))
      by None has same = absurd same

  -- ---- a parameter of which a test may fail

  unfit_told : (bs : PureStore) (scope : List Param) (q : Param) (t : PureTerm) (test : PureTest) → term_at bs q.name ≡ Some t → TestsSorts scope q.name t test
      → (v : List PureValue) → Hold v test.otherwise → IsUnfit vars conds bs scope q v
  unfit_told bs scope q t test at says v held s w proper over stands has =
      let same : value v t ≡ Some w = subst (λ o. AreSame v o (Some w)) at (subst (AreSame v (term_at bs q.name)) has (stands q.name)) in
      let told : SaysTest v test (fits_sorts scope q.name w) = says vars v w proper (over q.name t at) same in
      told.otherwise held

  by_told : (Fails : List PureValue → Type 0) (more : List PureAtom) (d : PureDoubt) → IsToldThere vars conds more d → ((v : List PureValue) → IsTrue (all_true v more) → Fails v) → IsDoubtOver vars conds Fails d
  by_told Fails more always told fails = absurd told
  by_told Fails more (under atoms u) (is, meets) fails =
      ((more, is), meets, λ v met. fails v (and_parts (all_true v conds) (all_true v more) (sym (list_all-append (truth v) conds more) ∙ subst (λ a. IsTrue (all_true v a)) is met)).1)
  by_told Fails more (beyond atoms reason) (is, outside) fails = ((more, is), outside)

  pub unfit_param : (bs : PureStore) (scope : List Param) (q : Param) (t : PureTerm) (test : PureTest) (d : PureDoubt) → term_at bs q.name ≡ Some t → TestsSorts scope q.name t test → OneOf (λ more. IsToldThere vars conds more d) test.otherwise → IsDoubtOver vars conds (IsUnfit vars conds bs scope q) d
  unfit_param bs scope q t test d at says one = by test.otherwise one (λ v held. unfit_told bs scope q t test at says v held)
    where
      by : (x : Alternatives) → OneOf (λ more. IsToldThere vars conds more d) x → ((v : List PureValue) → Hold v x → IsUnfit vars conds bs scope q v) → IsDoubtOver vars conds (IsUnfit vars conds bs scope q) d
      by [] one fails = absurd one
      by (more ∷ x) (inl here) fails = by_told (IsUnfit vars conds bs scope q) more d here (λ v met. fails v (inl met))
      by (more ∷ x) (inr later) fails = by x later (λ v held. fails v (inr held))

  pub no_argument : (bs : PureStore) (scope : List Param) (q : Param) → term_at bs q.name ≡ None → IsDoubtOver vars conds (IsUnfit vars conds bs scope q) always
  no_argument bs scope q at v met s w proper over stands has = absurd (subst (λ o. AreSame v o (Some w)) at (subst (AreSame v (term_at bs q.name)) has (stands q.name)))

-- where the arguments fit, their values do
pub fit_arguments : (vars : List Sort) (conds : List PureAtom) (bs : PureStore) (scope qs : List Param) (v : List PureValue) (s : Store) → Satisfies vars v conds → IsStoreOver vars bs → StandsFor v bs s → FitParams vars conds bs scope qs → HaveTheirSorts scope qs s
fit_arguments vars conds bs scope [] v s sat over stands fit = tt
fit_arguments vars conds bs scope (q ∷ qs) v s sat over stands fit = (fit.0 v s sat over stands, fit_arguments vars conds bs scope qs v s sat over stands fit.1)
