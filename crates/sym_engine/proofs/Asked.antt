-- An action may be asked with the variable that follows those of the table.
use Rattle.std.proofs.Common.{◌≡◌, ℕ, ◌<◌, List, [], ◌∷◌, ◌++◌, length, Bool, true, false, Option, IsTrue, refl, sym, ap, subst, ◌∙◌, true≢false, arith}
use Rattle.std.specs.Prelude.{nat_lt}
use Rattle.std.specs.List.{list_all}
use Rattle.std.proofs.lemmas.Bool.{and_from}
use Rattle.std.proofs.lemmas.Bool.Decides.{nat_tests}
use Rattle.std.proofs.lemmas.List.Elements.{Contains-append_left, Contains-append_right, Contains-push}
use Rattle.std.proofs.lemmas.Option.{slice_get_within}
use Rattle.mem_model.specs.Actions.{Actions}
use Rattle.pure_terms.specs.declared.variables.Sort.{Sort}
use Rattle.pure_terms.specs.declared.variables.Var.{Var}
use Rattle.pure_terms.specs.Meaning.{AreVariablesOf, IsOver}
use Rattle.pure_terms.specs.Naming.{names_only_below}
use Rattle.pure_terms.specs.Pure.{PureTerm, variables}
use Rattle.sym_model.specs.Laws.{MayBeAsked}
use Rattle.sym_model.specs.Lists.{Each}
use Rattle.sym_model.specs.Terms.{StateTerms, all_of, AreEachOver}
use Rattle.sym_model.proofs.ListLaws.{same_some, not_none, each_to, each_append}
use Rattle.sym_paths.specs.Acting.{fresh_where}

below_test : (a b : ℕ) → a < b → nat_lt a b ≡ true
below_test a b below = grind (arith, nat_tests)

all_below : (vars : List Sort) (xs : List Var) → AreVariablesOf vars xs → list_all (λ x. nat_lt x.number (length vars)) xs ≡ true
all_below vars [] over = refl
all_below vars (y ∷ xs) over =
    and_from (nat_lt y.number (length vars)) (list_all (λ x. nat_lt x.number (length vars)) xs)
    (below_test y.number (length vars) (slice_get_within vars y.number y.sort (over y (Contains-append_left (y ∷ []) xs y (Contains-push [] y)))))
    (all_below vars xs (λ x has. over x (Contains-append_right (y ∷ []) xs x has)))

terms_below : (vars : List Sort) (ts : List PureTerm) → AreEachOver vars ts → Each (λ t. IsTrue (names_only_below (length vars) t)) ts
terms_below vars ts over = each_to (IsOver vars) (λ t. IsTrue (names_only_below (length vars) t)) ts (λ t is. all_below vars (variables t) is) over

module _ (m : Actions) (action : List ℕ) (vars : List Sort) (args : List PureTerm) (terms : StateTerms) (args_over : AreEachOver vars args) (terms_over : AreEachOver vars (all_of terms)) where
  asked_by : (takes : Bool) → takes ≡ m.takes_symbol action → MayBeAsked m action (fresh_where takes vars) args terms
  asked_by true is = record {
    fresh_where_taken = (λ some. sym is, λ taken. refl);
    of_sort = λ x found. ap (λ (y : Var). y.sort) (sym (same_some found));
    above = λ x found. subst (λ (y : Var). Each (λ t. IsTrue (names_only_below y.number t)) (args ++ all_of terms)) (same_some found)
        (terms_below vars (args ++ all_of terms) (each_append (IsOver vars) args (all_of terms) args_over terms_over));
  }
  asked_by false is = record {
    fresh_where_taken = (λ none. absurd (true≢false (sym none)), λ taken. absurd (true≢false (sym taken ∙ sym is)));
    of_sort = λ x found. not_none found;
    above = λ x found. not_none found;
  }

  pub may_be_asked : (takes : Bool) (fresh : Option Var) → takes ≡ m.takes_symbol action → fresh ≡ fresh_where takes vars → MayBeAsked m action fresh args terms
  may_be_asked takes fresh is same = subst (λ x. MayBeAsked m action x args terms) (sym same) (asked_by takes is)
