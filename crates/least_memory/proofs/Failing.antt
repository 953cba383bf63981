-- One branch, in which an action fails in an equal state, keeps the laws.
use Rattle.std.proofs.Common.{◌≡◌, inl, inr, ℕ, ℤ, ◌-ℤ◌, ◌+ℤ◌, List, [], ◌∷◌, ◌++◌, Option, Some, None, IsTrue, refl, sym, ap, subst, ◌∙◌}
use Rattle.gil_values.proofs.OperatorSymbols.{none_contained}
use Rattle.gil_values.specs.Pure.{PureValue, text}
use Rattle.least_memory.specs.Notes.{HasValue, terms_of_note, IsPlainNote, note_of, noted_stands, noted_terms, no_form_matters, noted_plain, all_asked}
use Rattle.least_memory.specs.declared.noted.Noted.{Noted}
use Rattle.mem_model.specs.declared.failures.Failure.{Failure}
use Rattle.mem_model.specs.Actions.{no_memory}
use Rattle.mem_model.specs.Heaps.{Heap}
use Rattle.mem_model.specs.Pure as outcome
use Rattle.mem_model.specs.Tables.{failure_text}
use Rattle.pure_terms.specs.declared.literals.Literal.{Literal}
use Rattle.pure_terms.specs.declared.variables.Var.{Var}
use Rattle.pure_terms.specs.Meaning.{all_true, IsOver}
use Rattle.pure_terms.specs.Pure.{PureTerm, literal, term_of}
use Rattle.sym_model.specs.declared.branches.Branch.{Branch}
use Rattle.sym_model.specs.Laws.{ActLaw, ActsPlainly, IsCopy, IsPlainWithin, IsDecidedWithin, growth}
use Rattle.sym_model.specs.Lists.{Each}
use Rattle.sym_model.specs.Meaning.{IsOutcome, fresh_symbol, IsBranchFor}
use Rattle.sym_model.specs.Pure.{PureBranch, PureResult, failed, result_terms}
use Rattle.sym_model.specs.Terms.{all_of, IsMadeOf, asked_of, IsOwnCondition}
use Rattle.sym_model.specs.View.{branch_view, branches_view}
use Rattle.sym_model.proofs.Listed.{listed_itself}
use Rattle.sym_model.proofs.ListLaws.{each_right, each_to}
use Rattle.sym_model.proofs.MadeLaws.{made_of_given}
use Rattle.sym_model.proofs.PlainLaws.{plain_wider}

-- a state with an equal note is a copy
module _ (s r : Noted) (same : note_of r ≡ note_of s) where
  pub copied : IsCopy noted_stands noted_terms no_form_matters noted_plain s r
  copied = record {
    stands_for = λ v h. ((λ stands. (stands.0, subst (HasValue v) (sym same) stands.1)), (λ stands. (stands.0, subst (HasValue v) same stands.1)));
    same_terms = λ i. terms_of_note (same i);
    as_plain = λ low high plain. subst (λ note. IsPlainNote note low high) (sym same) plain;
    same_forms = λ action args v h t. ((λ no. no), (λ no. no));
  }

abbrev fails : PureResult
fails = failed (literal (Literal.Str (failure_text Failure.Action)))

pub record IsFailing (s : Noted) (b : PureBranch Noted) : Type 0 where
  pub conds : b.conds ≡ []
  pub same : note_of b.state ≡ note_of s
  pub result : b.result ≡ fails

module _ (action : List ℕ) (fresh : Option Var) (args : List PureTerm) (s : Noted) (b : PureBranch Noted) (is : IsFailing s b) where
  stands_then : (v args' : List PureValue) (h : Heap) → noted_stands s v h → IsBranchFor noted_stands v (no_memory.act action (fresh_symbol v fresh) args' h) b
  stands_then v args' h stands = record {
    result = subst (λ r. IsOutcome v r (outcome.failed (text (failure_text Failure.Action)))) (sym is.result) refl;
    state = (stands.0, subst (HasValue v) (sym is.same) stands.1);
  }

  given_terms : List PureTerm
  given_terms = args ++ all_of (noted_terms s)

  of_state : (P : PureTerm → Type 0) → Each P (args ++ all_of (noted_terms s)) → Each P (all_of (noted_terms b.state))
  of_state P each = subst (λ note. Each P (all_of (terms_of_note note))) (sym is.same) (each_right P args (all_of (noted_terms s)) each)

  of_result : (P : PureTerm → Type 0) → P (literal (Literal.Str (failure_text Failure.Action))) → Each P (result_terms b.result)
  of_result P holds = subst (λ r. Each P (result_terms r)) (sym is.result) (holds, tt)

  no_condition : (P : _ → Type 0) → Each P b.conds
  no_condition P = subst (Each P) (sym is.conds) tt

  pub law : ActLaw noted_stands noted_terms no_memory action fresh args (all_asked action args) s (b ∷ [])
  law = record {
    cover = λ vars v args' h serves. inl (subst (λ conds. IsTrue (all_true v conds)) (sym is.conds) refl, inr (stands_then v args' h serves.has_heap));
    exact = λ vars v args' h serves. ((λ all_hold no_open. stands_then v args' h serves.has_heap), tt);
    variables = λ vars over fresh_over. ((no_condition (λ a. IsOver vars (term_of a)), (of_state (IsOver vars) over, of_result (IsOver vars) (λ x has. absurd (none_contained x has)))), tt);
    own = (no_condition (IsOwnCondition (asked_of (all_asked action args) (noted_terms s))), tt);
    made = (
      (
        of_state (IsMadeOf (args ++ all_of (noted_terms s)) fresh)
            (each_to _ (IsMadeOf (args ++ all_of (noted_terms s)) fresh) (args ++ all_of (noted_terms s)) (made_of_given (args ++ all_of (noted_terms s)) fresh) (listed_itself (args ++ all_of (noted_terms s)))),
        of_result (IsMadeOf (args ++ all_of (noted_terms s)) fresh) tt,
      ),
      tt,
    );
  }

  still_plain : (low high : ℤ) (note : Option PureTerm) → IsPlainNote note low high → IsPlainNote note (low -ℤ growth) (high +ℤ growth)
  still_plain low high None plain = tt
  still_plain low high (Some t) plain = plain_wider low high t plain

  pub plainly : ActsPlainly noted_plain action args s (b ∷ [])
  plainly low high plain arguments = (
    (
      no_condition (IsDecidedWithin (low -ℤ growth) (high +ℤ growth)),
      (
        subst (λ note. IsPlainNote note (low -ℤ growth) (high +ℤ growth)) (sym is.same) (still_plain low high (note_of s) plain),
        of_result (IsPlainWithin (low -ℤ growth) (high +ℤ growth)) (refl, refl),
      ),
    ),
    tt,
  )

-- the branches of the code, where they are one that fails
module _ (action : List ℕ) (fresh : Option Var) (args : List PureTerm) (s : Noted) (none bs : List (Branch Noted)) (b : Branch Noted) (is_none : none ≡ []) (are : bs ≡ none ++ b ∷ []) (is : IsFailing s (branch_view b)) where
  only : bs ≡ b ∷ []
  only = are ∙ ap (λ xs. xs ++ b ∷ []) is_none

  pub laws_of : ActLaw noted_stands noted_terms no_memory action fresh args (all_asked action args) s (branches_view bs)
  laws_of = subst (λ rows. ActLaw noted_stands noted_terms no_memory action fresh args (all_asked action args) s (branches_view rows)) (sym only) (law action fresh args s (branch_view b) is)

  pub plainly_of : ActsPlainly noted_plain action args s (branches_view bs)
  plainly_of = subst (λ rows. ActsPlainly noted_plain action args s (branches_view rows)) (sym only) (plainly action fresh args s (branch_view b) is)
