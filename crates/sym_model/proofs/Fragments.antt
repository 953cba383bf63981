-- Conditions that have forms of the fragment, over a table of few variables, are in the fragment.
use Rattle.std.proofs.Common.{◌≡◌, ℕ, ◌<◌, ◌≤◌, ◌^◌, ℤ, pos, neg_ℤ, List, [], ◌∷◌, length, true, IsTrue, refl, arith}
use Rattle.std.specs.List.{list_all}
use Rattle.std.proofs.lemmas.Bool.{and_from}
use Rattle.pure_terms.specs.declared.variables.Sort.{Sort}
use Rattle.pure_terms.specs.Fragment.{has_fragment_form, has_narrow_literals, variable_count, InFragment}
use Rattle.pure_terms.specs.Meaning.{AreOver}
use Rattle.pure_terms.specs.Pure.{PureAtom, term_of}
use Rattle.pure_terms.proofs.NamingLaws.{count_bound}
use Rattle.sym_model.specs.Laws.{IsDecidedWithin}
use Rattle.sym_model.specs.Lists.{Each}
use Rattle.sym_model.proofs.Wider.{term_wider, lower_bound, higher_bound}

-- the numbers of the fragment lie from minus this to this
abbrev greatest : ℕ
greatest = 2 ^ 80

module _ (b : ℕ) (narrow : b ≤ greatest) where
  abbrev Decided : PureAtom → Type 0
  Decided a = IsDecidedWithin (neg_ℤ (pos b)) (pos b) a

  pub all_forms : (atoms : List PureAtom) → Each Decided atoms → list_all has_fragment_form atoms ≡ true
  all_forms [] decided = refl
  all_forms (a ∷ atoms) decided = and_from (has_fragment_form a) (list_all has_fragment_form atoms) decided.0.0 (all_forms atoms decided.1)

  narrow_literals : (a : PureAtom) → Decided a → has_narrow_literals a ≡ true
  narrow_literals a is = term_wider (neg_ℤ (pos b)) (pos b) (neg_ℤ (pos greatest)) (pos greatest) (lower_bound b greatest narrow) (higher_bound b greatest narrow) (term_of a) is.1

  pub all_narrow : (atoms : List PureAtom) → Each Decided atoms → list_all has_narrow_literals atoms ≡ true
  all_narrow [] decided = refl
  all_narrow (a ∷ atoms) decided = and_from (has_narrow_literals a) (list_all has_narrow_literals atoms) (narrow_literals a decided.0) (all_narrow atoms decided.1)

  pub decided_in_fragment : (vars : List Sort) (conds : List PureAtom) → length vars < 2 ^ 40 → AreOver vars conds → Each Decided conds → InFragment conds
  decided_in_fragment vars conds few over decided =
      let count : variable_count conds ≤ length vars = count_bound vars conds over in
      record { forms = all_forms conds decided; literals = all_narrow conds decided; few_variables = omega (arith, count, few) }
