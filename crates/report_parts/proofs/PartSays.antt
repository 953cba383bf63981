-- What is read as a part of an answer is writable.
use Rattle.std.proofs.Common.{◌≡◌, ◌⊎◌, ℕ, ◌<◌, ◌^◌, Bool, true, false, cond, eqb, List, Option, Some, None, refl, sym, subst, inl, inr}
use Rattle.std.specs.Prelude.{codes}
use Rattle.std.specs.List.{AllByRecursion}
use Rattle.std.proofs.lemmas.Option.{same_Some}
use Rattle.gil_values.specs.declared.places.Place.{Place}
use Rattle.gil_lexer.specs.Bytes.{begins}
use Rattle.pure_terms.specs.declared.variables.Sort.{Sort}
use Rattle.value_text.specs.Reading.{Reading, ◌>>=◌, behind, behind_or, name_at, natural_at, any_value_at, bracketed_at}
use Rattle.value_text.proofs.Says.{step, branch, behind_or_says, name_says, natural_says, any_says}
use Rattle.list_text.proofs.ListLaws.{bracketed_says}
use Rattle.expression_text.specs.Reading.{marked_name_at, any_expression_at}
use Rattle.expression_text.proofs.ExpressionSays.{marked_says, only_writable_expressions}
use Rattle.gil_report.specs.declared.answers.Lack.{Lack}
use Rattle.gil_report.specs.Pure.{PureBinding, PureCondition, holds, has_value, PureQuestion, PureWitness, PureCause, fails, lacks, undecided_cause, depends}
use Rattle.report_parts.specs.Reading.{place_at, sorts_at, choices_at, variable_at, binding_at, bindings_at, open_at, condition_at, conditions_at, question_at, witness_at, fails_at, undecided_at, depends_at, lack_at, lacks_at, cause_at}
use Rattle.report_parts.specs.Writable.{IsWritablePlace, IsVariableName, IsWritableBinding, IsWritableCondition, IsChoice, IsWritableQuestion, IsWritableWitness, IsWritableCause}

-- all that reading gives has the property
abbrev pub Only : {X : Type 0} → (X → Type 0) → Reading X → Type 0
Only {X = X} P r = (y : X × List ℕ) → r ≡ Some y → P y.0

pub known : {X : Type 0} (P : X → Type 0) (x : X) (rest : List ℕ) → P x → Only P (Some (x, rest))
known P x rest is y same = subst (λ p. P p.0) (same_Some (x, rest) y same) is

pub place_says : (bytes : List ℕ) → Only IsWritablePlace (place_at bytes)
unfolding place_at
place_says bytes y e =
    let a = step (name_at bytes) _ y e in
    let b = step (behind (codes ":") a.first.1) _ y a.then_read in
    let c = step (natural_at 32 b.first) _ y b.then_read in
    known IsWritablePlace (record { proc = a.first.0; at = c.first.0 }) c.first.1 (name_says bytes a.first a.read, natural_says 32 b.first c.first c.read) y c.then_read

choices_say : (bytes : List ℕ) → Only (AllByRecursion IsChoice) (choices_at bytes)
choices_say bytes y e = bracketed_says (natural_at 64) IsChoice (natural_says 64) bytes y e

variable_says : (bytes : List ℕ) → Only IsVariableName (variable_at bytes)
variable_says bytes y e = elim (branch {A = List ℕ × List ℕ} (begins (λ b. eqb b 35) bytes) (marked_name_at bytes) (name_at bytes) y e) [
  | inl (test, is) ↦ inr (marked_says bytes y is)
  | inr (test, is) ↦ inl (name_says bytes y is)
]

binding_says : (bytes : List ℕ) → Only IsWritableBinding (binding_at bytes)
unfolding binding_at
binding_says bytes y e =
    let a = step (variable_at bytes) _ y e in
    let b = step (behind (codes " = ") a.first.1) _ y a.then_read in
    let c = step (any_value_at b.first) _ y b.then_read in
    known IsWritableBinding (record { name = a.first.0; value = c.first.0 }) c.first.1 (variable_says bytes a.first a.read, any_says b.first c.first c.read) y c.then_read

pub bindings_say : (bytes : List ℕ) → Only (AllByRecursion IsWritableBinding) (bindings_at bytes)
bindings_say bytes y e = bracketed_says binding_at IsWritableBinding binding_says bytes y e

open_says : (bytes : List ℕ) → Only IsWritableCondition (open_at bytes)
unfolding open_at
open_says bytes y e =
    let a = step (any_expression_at bytes) _ y e in
    let b = step (behind (codes ")") a.first.1) _ y a.then_read in
    known IsWritableCondition (has_value a.first.0) b.first (only_writable_expressions bytes a.first.0 a.first.1 a.read) y b.then_read

abbrev holding_at : List ℕ → Reading PureCondition
holding_at bytes = any_expression_at bytes >>= λ e. Some (holds e.0, e.1)

holds_says : (bytes : List ℕ) → Only IsWritableCondition (holding_at bytes)
holds_says bytes y e =
    let a = step (any_expression_at bytes) _ y e in
    known IsWritableCondition (holds a.first.0) a.first.1 (only_writable_expressions bytes a.first.0 a.first.1 a.read) y a.then_read

condition_says : (bytes : List ℕ) → Only IsWritableCondition (condition_at bytes)
condition_says bytes y e = elim (behind_or_says {X = PureCondition} (behind (codes "open(") bytes) open_at (holding_at bytes) y e) [
  | inl (rest, is) ↦ open_says rest y is
  | inr is ↦ holds_says bytes y is
]

conditions_say : (bytes : List ℕ) → Only (AllByRecursion IsWritableCondition) (conditions_at bytes)
conditions_say bytes y e = bracketed_says condition_at IsWritableCondition condition_says bytes y e

pub question_says : (bytes : List ℕ) → Only IsWritableQuestion (question_at bytes)
unfolding question_at
question_says bytes y e =
    let a = step (place_at bytes) _ y e in
    let b = step (behind (codes " path ") a.first.1) _ y a.then_read in
    let c = step (choices_at b.first) _ y b.then_read in
    let d = step (behind (codes " vars ") c.first.1) _ y c.then_read in
    let f = step (sorts_at d.first) _ y d.then_read in
    let g = step (behind (codes " given ") f.first.1) _ y f.then_read in
    let h = step (conditions_at g.first) _ y g.then_read in
    let i = step (behind (codes " query ") h.first.1) _ y h.then_read in
    let j = step (conditions_at i.first) _ y i.then_read in
    let k = step (behind (codes " outside ") j.first.1) _ y j.then_read in
    let l = step (natural_at 64 k.first) _ y k.then_read in
    let o : PureQuestion = record { place = a.first.0; path = c.first.0; vars = f.first.0; given = h.first.0; query = j.first.0; outside = l.first.0 } in
    known IsWritableQuestion o l.first.1 (record {
      place = place_says bytes a.first a.read;
      path = choices_say b.first c.first c.read;
      given = conditions_say g.first h.first h.read;
      query = conditions_say i.first j.first j.read;
      outside = natural_says 64 k.first l.first l.read;
    }) y l.then_read

witness_says : (bytes : List ℕ) → Only IsWritableWitness (witness_at bytes)
unfolding witness_at
witness_says bytes y e =
    let a = step (place_at bytes) _ y e in
    let b = step (behind (codes " path ") a.first.1) _ y a.then_read in
    let c = step (choices_at b.first) _ y b.then_read in
    let d = step (behind (codes " with ") c.first.1) _ y c.then_read in
    let f = step (bindings_at d.first) _ y d.then_read in
    let w : PureWitness = record { place = a.first.0; path = c.first.0; with = f.first.0 } in
    known IsWritableWitness w f.first.1 (record {
      place = place_says bytes a.first a.read;
      path = choices_say b.first c.first c.read;
      with = bindings_say d.first f.first f.read;
    }) y f.then_read

fails_says : (bytes : List ℕ) → Only IsWritableCause (fails_at bytes)
unfolding fails_at
fails_says bytes y e =
    let a = step (any_value_at bytes) _ y e in
    let b = step (behind (codes " ") a.first.1) _ y a.then_read in
    let c = step (witness_at b.first) _ y b.then_read in
    known IsWritableCause (fails a.first.0 c.first.0) c.first.1 (any_says bytes a.first a.read, witness_says b.first c.first c.read) y c.then_read

undecided_says : (bytes : List ℕ) → Only IsWritableCause (undecided_at bytes)
unfolding undecided_at
undecided_says bytes y e =
    let a = step (question_at bytes) _ y e in known IsWritableCause (undecided_cause a.first.0) a.first.1 (question_says bytes a.first a.read) y a.then_read

depends_says : (bytes : List ℕ) → Only IsWritableCause (depends_at bytes)
unfolding depends_at
depends_says bytes y e =
    let a = step (name_at bytes) _ y e in known IsWritableCause (depends a.first.0) a.first.1 (name_says bytes a.first a.read) y a.then_read

lacks_says : (bytes : List ℕ) → Only IsWritableCause (lacks_at bytes)
unfolding lacks_at
lacks_says bytes y e =
    let a = step (lack_at bytes) _ y e in
    let b = step (witness_at a.first.1) _ y a.then_read in
    known IsWritableCause (lacks a.first.0 b.first.0) b.first.1 (witness_says a.first.1 b.first b.read) y b.then_read

abbrev after_unknown : List ℕ → Reading PureCause
after_unknown bytes = behind_or (behind (codes "depends ") bytes) depends_at (lacks_at bytes)

abbrev after_fails : List ℕ → Reading PureCause
after_fails bytes = behind_or (behind (codes "unknown ") bytes) undecided_at (after_unknown bytes)

pub cause_says : (bytes : List ℕ) → Only IsWritableCause (cause_at bytes)
cause_says bytes y e = elim (behind_or_says {X = PureCause} (behind (codes "fails ") bytes) fails_at (after_fails bytes) y e) [
  | inl (rest, is) ↦ fails_says rest y is
  | inr e1 ↦ elim (behind_or_says {X = PureCause} (behind (codes "unknown ") bytes) undecided_at (after_unknown bytes) y e1) [
    | inl (rest, is) ↦ undecided_says rest y is
    | inr e2 ↦ elim (behind_or_says {X = PureCause} (behind (codes "depends ") bytes) depends_at (lacks_at bytes) y e2) [
      | inl (rest, is) ↦ depends_says rest y is
      | inr is ↦ lacks_says bytes y is
    ]
  ]
]
