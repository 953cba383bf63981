-- Paths of which all can be said.
use Rattle.std.proofs.Common.{◌≡◌, ◌⊎◌, ⊎_elim, inl, inr, ℕ, ◌+◌, ◌-◌, ◌≤◌, List, [], ◌∷◌, ◌++◌, drop, slice_get, ◌||◌, Bool, true, false, not, nat_lt, Some, IsTrue, refl, sym, ap, subst, ◌∙◌, true≢false, arith}
use Rattle.std.specs.List.{list_all}
use Rattle.std.proofs.lemmas.Bool.{and_from, cases_lt, lt-ltb, or_left, or_right}
use Rattle.std.proofs.lemmas.List.Elements.{Contains-append_left, Contains-append_right, Contains-push}
use Rattle.std.proofs.lemmas.List.Folds.{list_all-append}
use Rattle.pure_terms.specs.declared.variables.Sort.{Sort}
use Rattle.pure_terms.specs.declared.variables.Var.{Var}
use Rattle.pure_terms.specs.EqualityLaws.{same_sorts}
use Rattle.pure_terms.specs.Fragment.{has_fragment_form, names_sort, name_sort}
use Rattle.pure_terms.specs.Kinds.{same_sort}
use Rattle.pure_terms.specs.Meaning.{IsOver, AreVariablesOf}
use Rattle.pure_terms.specs.Pure.{PureTerm, literal, variable, list_of, unary_of, binary_of, PureTerms, no_terms, term_and, PureAtom, term_of, variables, variables_of_all}
use Rattle.sym_model.specs.Lists.{Each}
use Rattle.bi_beginnings.proofs.Params.{all_at}
use Rattle.bi_specifications.specs.Shape.{is_early, late_conds}
use Rattle.bi_specifications.proofs.Inhabited.{from_drop}
use Rattle.bi_specifications.proofs.Once.{each_kept}
use Rattle.bi_specifications.proofs.Words.{each_filtered}

-- ---- terms over a table of so many variables of the beginning and new symbols behind them

module _ (vars : List Sort) (count : ℕ) (fresh : list_all (same_sort Sort.Fresh) (drop count vars) ≡ true) where
  -- a variable that isn't of the beginning is a new symbol
  fresh_there : (x : Var) → AreVariablesOf vars (x ∷ []) → count ≤ x.number → same_sort x.sort Sort.Fresh ≡ true
  fresh_there x over past =
      let k : ℕ = x.number - count in
      let is : count + k ≡ x.number = omega (arith, past) in
      let at : slice_get (drop count vars) k ≡ Some x.sort = sym (from_drop count vars k) ∙ ap (slice_get vars) is ∙ over x (Contains-push [] x) in
      subst (λ s. same_sort s Sort.Fresh ≡ true) (same_sorts Sort.Fresh x.sort (all_at (same_sort Sort.Fresh) (drop count vars) k x.sort at fresh)) refl

  left_over : (xs ys : List Var) → AreVariablesOf vars (xs ++ ys) → AreVariablesOf vars xs
  left_over xs ys over x has = over x (Contains-append_left xs ys x has)

  right_over : (xs ys : List Var) → AreVariablesOf vars (xs ++ ys) → AreVariablesOf vars ys
  right_over xs ys over x has = over x (Contains-append_right xs ys x has)

  -- the variables are of the beginning
  abbrev pub are_early : List Var → Bool
  are_early xs = list_all (λ (x : Var). nat_lt x.number count) xs

  one_or_early : (a b : Bool) (xs ys : List Var) → (a ≡ true) ⊎ (are_early xs ≡ true) → (b ≡ true) ⊎ (are_early ys ≡ true) → ((a || b) ≡ true) ⊎ (are_early (xs ++ ys) ≡ true)
  one_or_early a b xs ys (inl first) second = inl (or_left a b first)
  one_or_early a b xs ys (inr early) (inl second) = inl (or_right a b second)
  one_or_early a b xs ys (inr early) (inr also) = inr (list_all-append (λ (x : Var). nat_lt x.number count) xs ys ∙ and_from (are_early xs) (are_early ys) early also)

  -- it names a new symbol, or only variables of the beginning
  mutual
    pub names_fresh : (t : PureTerm) → AreVariablesOf vars (variables t) → (names_sort Sort.Fresh t ≡ true) ⊎ (are_early (variables t) ≡ true)
    names_fresh (literal l) over = inr refl
    names_fresh (variable x) over =
        ⊎_elim (λ less. inr (and_from (nat_lt x.number count) true (lt-ltb x.number count less) refl)) (λ past. inl (fresh_there x over past)) (cases_lt x.number count)
    names_fresh (list_of ts) over = name_fresh ts over
    names_fresh (unary_of op t) over = names_fresh t over
    names_fresh (binary_of op s t) over =
        one_or_early (names_sort Sort.Fresh s) (names_sort Sort.Fresh t) (variables s) (variables t)
        (names_fresh s (left_over (variables s) (variables t) over)) (names_fresh t (right_over (variables s) (variables t) over))

    name_fresh : (ts : PureTerms) → AreVariablesOf vars (variables_of_all ts) → (name_sort Sort.Fresh ts ≡ true) ⊎ (are_early (variables_of_all ts) ≡ true)
    name_fresh no_terms over = inr refl
    name_fresh (term_and t ts) over =
        one_or_early (names_sort Sort.Fresh t) (name_sort Sort.Fresh ts) (variables t) (variables_of_all ts)
        (names_fresh t (left_over (variables t) (variables_of_all ts) over)) (name_fresh ts (right_over (variables t) (variables_of_all ts) over))

  -- so a condition that isn't on what was there names one
  late_names : (a : PureAtom) → IsOver vars (term_of a) → not (is_early count a) ≡ true → names_sort Sort.Fresh (term_of a) ≡ true
  late_names a over late = ⊎_elim (λ names. names) (λ early. absurd (true≢false (sym late ∙ ap not early))) (names_fresh (term_of a) over)

  abbrev IsSaid : PureAtom → Type 0
  IsSaid a = IsTrue (has_fragment_form a) × IsTrue (names_sort Sort.Fresh (term_of a))

  each_two : (P Q R : PureAtom → Type 0) (conds : List PureAtom) → ((a : PureAtom) → P a → Q a → R a) → Each P conds → Each Q conds → Each R conds
  each_two P Q R [] both first second = tt
  each_two P Q R (a ∷ conds) both first second = (both a first.0 second.0, each_two P Q R conds both first.1 second.1)

  pub late_are_said : (conds : List PureAtom) → Each (λ a. IsOver vars (term_of a)) conds → Each (λ a. IsTrue (has_fragment_form a)) conds → Each IsSaid (late_conds count conds)
  late_are_said conds over forms =
      each_kept IsSaid _
      (each_filtered (λ a. not (is_early count a)) (λ a. IsOver vars (term_of a) × IsTrue (has_fragment_form a)) IsSaid conds
      (each_two (λ a. IsOver vars (term_of a)) (λ a. IsTrue (has_fragment_form a)) (λ a. IsOver vars (term_of a) × IsTrue (has_fragment_form a)) conds (λ a is form. (is, form)) over forms)
      (λ a late both. (both.1, late_names a both.0 late)))
