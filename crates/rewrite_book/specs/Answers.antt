-- What the answers of a rule keep.
use Rattle.std.specs.Prelude.{◌<◌, Option, Some, None, Result, Ok, Err, IfOk, IfSome, IsNone, IsTrue, false, is_some}
use Rattle.std.specs.declared.alloc.AllocError.{AllocError}
use Rattle.std.specs.Coded.{Unit-prop}
use mathlib.Core.Bool.{Bool-set}
use Rattle.std.specs.List.{list_any}
use Rattle.std.proofs.Props.{props}
use Rattle.pure_terms.specs.declared.terms.Term.{Term}
use Rattle.pure_terms.specs.declared.variables.Var.{Var}
use Rattle.pure_terms.specs.Equality.{same_variable}
use Rattle.pure_terms.specs.Pure.{PureTerm, size, variables}
use Rattle.pure_terms.specs.Rewriting.{KeepsValue, StaysSimple}
use Rattle.pure_terms.specs.View.{term_view}
use Rattle.rewrite_book.specs.Sets.{value-set}

-- each variable of u stands in t, with the same sort
abbrev pub TestsNoMore : PureTerm → PureTerm → Type 0
TestsNoMore t u = (x : Var) → IsTrue (list_any (same_variable x) (variables u)) → IsTrue (list_any (same_variable x) (variables t))

-- u may stand in t's place, and has fewer nodes
pub record Simplifies (t u : PureTerm) : Type 0 where
  pub value_kept : KeepsValue t u
  pub fewer_nodes : size u < size t
  pub no_more_names : TestsNoMore t u
  pub simple_stays : StaysSimple t u

abbrev pub AnswersWell : Term → Result (Option Term) AllocError → Type 0
AnswersWell t r = IfOk r (λ o. IfSome o (λ u. Simplifies (term_view t) (term_view u)))

-- there is one proof at most, so that a rule may keep it beside its closure
pub Simplifies-prop : (t u : PureTerm) → IsProp (Simplifies t u)
Simplifies-prop t u = hlevel (props, value-set)

pub AnswersWell-prop : (t : Term) (r : Result (Option Term) AllocError) → IsProp (AnswersWell t r)
AnswersWell-prop t (Ok (Some u)) = Simplifies-prop (term_view t) (term_view u)
AnswersWell-prop t (Ok None) = Unit-prop
AnswersWell-prop t (Err e) = Unit-prop

-- no term is answered
abbrev pub AnswersNoTerm : Result (Option Term) AllocError → Type 0
AnswersNoTerm r = IfOk r IsNone

pub AnswersNoTerm-prop : (r : Result (Option Term) AllocError) → IsProp (AnswersNoTerm r)
AnswersNoTerm-prop (Ok o) = Bool-set (is_some o) false
AnswersNoTerm-prop (Err e) = Unit-prop
