-- Valuations of a path's table: values of what was there at the beginning, and behind them new symbols.
use Rattle.std.proofs.Common.{◌≡◌, ⊎_elim, ℕ, zero, suc, ◌+◌, List, [], ◌∷◌, ◌++◌, length, Bool, true, false, not, cond, ltb, Option, Some, slice_get, refl, sym, ap, subst, ◌∙◌, append_assoc, append-nil, true≢false, arith}
use Rattle.std.specs.List.{filter, list_all, Contains}
use Rattle.std.proofs.lemmas.Bool.{and_parts, and_from, lt-ltb}
use Rattle.std.proofs.lemmas.List.Elements.{Contains-append_left, Contains-append_right, Contains-append_cases, Contains-push}
use Rattle.std.proofs.lemmas.Option.{slice_get_within}
use Rattle.gil_values.specs.Pure.{PureValue, symbol}
use Rattle.gil_values.specs.Symbols.{symbols, symbols_of_all, IsBelow, AreBelow}
use Rattle.gil_values.proofs.OperatorSymbols.{none_contained}
use Rattle.fresh_atoms.specs.Laws.{is_any_or_list, FreshAtomsAreConstant}
use Rattle.pure_terms.specs.declared.variables.Sort.{Sort}
use Rattle.pure_terms.specs.declared.variables.Var.{Var}
use Rattle.pure_terms.specs.Fragment.{has_fragment_form, names_sort}
use Rattle.pure_terms.specs.Kinds.{same_sort}
use Rattle.pure_terms.specs.Meaning.{both, values, truth, all_true, IsProper, IsOver, AreVariablesOf}
use Rattle.pure_terms.specs.Pure.{from_list, PureAtom, term_of, variables}
use Rattle.pure_terms.proofs.VariableLaws.{stay_when_tables_grow}
use Rattle.sym_model.specs.Lists.{Each}
use Rattle.sym_model.proofs.ListLaws.{same_some, not_none}
use Rattle.sym_paths.specs.Steps.{AreNext}
use Rattle.sym_paths.proofs.Valuations.{next_fresh}
use Rattle.bi_beginnings.specs.Beginnings.{variables_from}
use Rattle.bi_specifications.specs.Shape.{is_early, early_conds, late_conds}
use Rattle.bi_specifications.proofs.Once.{true_there, each_there}
use Rattle.bi_specifications.proofs.RunsAlong.{symbols_from}
use Rattle.bi_specifications.proofs.Words.{early_over}

-- ---- new symbols

-- a table of new symbols is met by the counter's symbol and those after it
pub symbols_are_next : (inputs : List PureValue) (n d : ℕ) (new : List Sort) → list_all (same_sort Sort.Fresh) new ≡ true → AreNext inputs n d new (symbols_from n (length new))
symbols_are_next inputs n d [] all = tt
symbols_are_next inputs n d (Sort.Fresh ∷ new) all = (refl, symbols_are_next inputs (suc n) d new all)
symbols_are_next inputs n d (Sort.Int ∷ new) all = absurd (true≢false (sym all))
symbols_are_next inputs n d (Sort.Bool ∷ new) all = absurd (true≢false (sym all))
symbols_are_next inputs n d (Sort.Str ∷ new) all = absurd (true≢false (sym all))
symbols_are_next inputs n d (Sort.Sym ∷ new) all = absurd (true≢false (sym all))
symbols_are_next inputs n d (Sort.List ∷ new) all = absurd (true≢false (sym all))
symbols_are_next inputs n d (Sort.Any ∷ new) all = absurd (true≢false (sym all))

-- which are proper behind values with symbols below the counter
pub symbols_proper : (vars : List Sort) (v : List PureValue) (n : ℕ) (new : List Sort) → list_all (same_sort Sort.Fresh) new ≡ true → IsProper vars v → AreBelow n v → IsProper (vars ++ new) (v ++ symbols_from n (length new))
symbols_proper vars v n [] all proper below = subst (λ xs. IsProper xs (v ++ [])) (sym (append-nil vars)) (subst (IsProper vars) (sym (append-nil v)) proper)
symbols_proper vars v n (Sort.Fresh ∷ new) all proper below =
    let (one, higher) = next_fresh vars v n proper below in
    subst (λ xs. IsProper xs (v ++ symbol n ∷ symbols_from (suc n) (length new))) (append_assoc vars (Sort.Fresh ∷ []) new)
    (subst (IsProper ((vars ++ Sort.Fresh ∷ []) ++ new)) (append_assoc v (symbol n ∷ []) (symbols_from (suc n) (length new))) (symbols_proper (vars ++ Sort.Fresh ∷ []) (v ++ symbol n ∷ []) (suc n) new all one higher))
symbols_proper vars v n (Sort.Int ∷ new) all proper below = absurd (true≢false (sym all))
symbols_proper vars v n (Sort.Bool ∷ new) all proper below = absurd (true≢false (sym all))
symbols_proper vars v n (Sort.Str ∷ new) all proper below = absurd (true≢false (sym all))
symbols_proper vars v n (Sort.Sym ∷ new) all proper below = absurd (true≢false (sym all))
symbols_proper vars v n (Sort.List ∷ new) all proper below = absurd (true≢false (sym all))
symbols_proper vars v n (Sort.Any ∷ new) all proper below = absurd (true≢false (sym all))

-- ---- symbols below a counter

pub all_below : (counter : ℕ) (v : List PureValue) → Each (IsBelow counter) v → AreBelow counter v
all_below counter [] all n occurs = absurd (none_contained n occurs)
all_below counter (w ∷ v) all n occurs = ⊎_elim (all.0 n) (all_below counter v all.1 n) (Contains-append_cases (symbols w) (symbols_of_all v) n occurs)

pub each_below : (counter : ℕ) (v : List PureValue) (i : ℕ) (w : PureValue) → AreBelow counter v → slice_get v i ≡ Some w → IsBelow counter w
each_below counter [] i w below at = not_none at
each_below counter (u ∷ v) zero w below at = λ n occurs. below n (Contains-append_left (symbols u) (symbols_of_all v) n (subst (λ z. Contains (symbols z) n) (sym (same_some at)) occurs))
each_below counter (u ∷ v) (suc i) w below at = each_below counter v i w (λ n occurs. below n (Contains-append_right (symbols u) (symbols_of_all v) n occurs)) at

-- ---- conditions on what was there

variables_below : (vars : List Sort) (xs : List Var) → AreVariablesOf vars xs → list_all (λ x. ltb x.number (length vars)) xs ≡ true
variables_below vars [] over = refl
variables_below vars (x ∷ xs) over =
    and_from (ltb x.number (length vars)) (list_all (λ y. ltb y.number (length vars)) xs)
    (lt-ltb x.number (length vars) (slice_get_within vars x.number x.sort (over x (Contains-append_left (x ∷ []) xs x (Contains-push [] x)))))
    (variables_below vars xs (λ y has. over y (Contains-append_right (x ∷ []) xs y has)))

-- a condition over the table of the beginning is on what was there
pub over_is_early : (vars : List Sort) (a : PureAtom) → IsOver vars (term_of a) → is_early (length vars) a ≡ true
over_is_early vars a over = variables_below vars (variables (term_of a)) over

first_kept_true : (count : ℕ) (v : List PureValue) (conds more : List PureAtom) → Each (λ a. is_early count a ≡ true) conds
    → all_true v (filter (is_early count) (conds ++ more)) ≡ true → all_true v conds ≡ true
first_kept_true count v [] more early all = refl
first_kept_true count v (a ∷ conds) more early all =
    let kept = filter (is_early count) (conds ++ more) in
    let (here, later) = and_parts (truth v a) (all_true v kept) (ap (λ b. all_true v (cond b (a ∷ kept) kept)) (sym early.0) ∙ all) in
    and_from (truth v a) (all_true v conds) here (first_kept_true count v conds more early.1 later)

-- where those on what was there are true, so are the first ones, if all of these are on it
pub first_true : (count : ℕ) (v : List PureValue) (conds more : List PureAtom) → Each (λ a. is_early count a ≡ true) conds
    → all_true v (early_conds count (conds ++ more)) ≡ true → all_true v conds ≡ true
first_true count v conds more early all = first_kept_true count v conds more early (true_there v (filter (is_early count) (conds ++ more)) all)

all_kept_true : FreshAtomsAreConstant → (vars new : List Sort) (v more w : List PureValue) → list_all is_any_or_list vars ≡ true → list_all (same_sort Sort.Fresh) new ≡ true → length v ≡ length vars
    → IsProper (vars ++ new) (v ++ more) → IsProper (vars ++ new) w → (conds : List PureAtom) → Each (λ a. IsOver (vars ++ new) (term_of a)) conds
    → all_true v (filter (is_early (length vars)) conds) ≡ true → all_true w conds ≡ true
    → Each (λ a. (has_fragment_form a ≡ true) × (names_sort Sort.Fresh (term_of a) ≡ true)) (filter (λ a. not (is_early (length vars) a)) conds)
    → all_true (v ++ more) conds ≡ true
all_kept_true constant vars new v more w given fresh one_each proper other [] over early all late = refl
all_kept_true constant vars new v more w given fresh one_each proper other (a ∷ conds) over early all late =
    let (here, rest) = and_parts (truth w a) (all_true w conds) all in
    by (is_early (length vars) a) refl here (all_kept_true constant vars new v more w given fresh one_each proper other conds over.1) early late rest
  where
    Early : List PureAtom
    Early = filter (is_early (length vars)) conds

    Late : List PureAtom
    Late = filter (λ a. not (is_early (length vars) a)) conds

    Formed : PureAtom → Type 0
    Formed a = (has_fragment_form a ≡ true) × (names_sort Sort.Fresh (term_of a) ≡ true)

    by : (b : Bool) → is_early (length vars) a ≡ b → truth w a ≡ true → (all_true v Early ≡ true → all_true w conds ≡ true → Each Formed Late → all_true (v ++ more) conds ≡ true)
        → all_true v (cond b (a ∷ Early) Early) ≡ true → Each Formed (cond (not b) (a ∷ Late) Late) → all_true w conds ≡ true → all_true (v ++ more) (a ∷ conds) ≡ true
    by true is here rest early late all =
        let (first, others) = and_parts (truth v a) (all_true v Early) early in
        and_from (truth (v ++ more) a) (all_true (v ++ more) conds) (stay_when_tables_grow.truths a vars v more (early_over vars new (term_of a) over.0 is) one_each ∙ first) (rest others all late)
    by false is here rest early late all =
        and_from (truth (v ++ more) a) (all_true (v ++ more) conds) (constant vars new a (v ++ more) w given fresh over.0 late.0.0 late.0.1 proper other ∙ here) (rest early all late.1)

-- All conditions are true, where those on what was there are, and the others have one truth and are true under some valuation.
pub all_conds_true : FreshAtomsAreConstant → (vars new : List Sort) (v more w : List PureValue) → list_all is_any_or_list vars ≡ true
    → list_all (same_sort Sort.Fresh) new ≡ true → length v ≡ length vars → IsProper (vars ++ new) (v ++ more) → IsProper (vars ++ new) w
    → (conds : List PureAtom) → Each (λ a. IsOver (vars ++ new) (term_of a)) conds → all_true v (early_conds (length vars) conds) ≡ true → all_true w conds ≡ true
    → Each (λ a. (has_fragment_form a ≡ true) × (names_sort Sort.Fresh (term_of a) ≡ true)) (late_conds (length vars) conds) → all_true (v ++ more) conds ≡ true
all_conds_true constant vars new v more w given fresh one_each proper other conds over early all late =
    all_kept_true constant vars new v more w given fresh one_each proper other conds over (true_there v (filter (is_early (length vars)) conds) early) all
    (each_there (λ a. (has_fragment_form a ≡ true) × (names_sort Sort.Fresh (term_of a) ≡ true)) (filter (λ a. not (is_early (length vars) a)) conds) late)

-- ---- arguments

-- the variables from a number on have the values that stand there
pub have_from : (v ws : List PureValue) (n : ℕ) (sorts : List Sort) → length ws ≡ length sorts → ((i : ℕ) (w : PureValue) → slice_get ws i ≡ Some w → slice_get v (n + i) ≡ Some w) → values v (from_list (variables_from n sorts)) ≡ Some ws
have_from v [] n [] as_many at = refl
have_from v [] n (s ∷ sorts) as_many at = absurd (omega (arith, as_many))
have_from v (w ∷ ws) n [] as_many at = absurd (omega (arith, as_many))
have_from v (w ∷ ws) n (s ∷ sorts) as_many at =
    let first : slice_get v n ≡ Some w = subst (λ k. slice_get v k ≡ Some w) (omega arith) (at 0 w refl) in
    let rest = have_from v ws (suc n) sorts (omega (arith, as_many)) (λ i u is. subst (λ k. slice_get v k ≡ Some u) (omega arith) (at (suc i) u is)) in
    both_there (slice_get v n) (values v (from_list (variables_from (suc n) sorts))) first rest
  where
    both_there : (o : Option PureValue) (os : Option (List PureValue)) → o ≡ Some w → os ≡ Some ws → both o os ≡ Some (w ∷ ws)
    both_there o os first rest = λ i. both (first i) (rest i)
