-- What is read as an expression is writable.
use Rattle.std.proofs.Common.{◌≡◌, ◌⊎◌, ℕ, zero, suc, ◌+◌, Bool, true, false, cond, eqb, List, [], ◌∷◌, length, Option, Some, None, refl, sym, ap, subst, ◌∙◌, inl, inr}
use Rattle.std.specs.Prelude.{codes}
use Rattle.std.specs.List.{AllByRecursion}
use Rattle.std.proofs.lemmas.Option.{same_Some}
use Rattle.gil_values.specs.declared.operators.UnOp.{UnOp}
use Rattle.gil_lexer.specs.Bytes.{begins, is_name_start}
use Rattle.gil_lexer.specs.Reading.{word_of}
use Rattle.gil_lexer.specs.Spelling.{IsName, IsMarkedName}
use Rattle.gil_syntax.specs.Pure.{PureExpr, literal, name, logical, list_of, unary_of, binary_of, from_list}
use Rattle.gil_syntax.specs.WellMade.{is_spellable}
use Rattle.value_text.specs.Reading.{Reading, ◌>>=◌, behind, name_at, any_value_at, bracketed_at}
use Rattle.value_text.proofs.Says.{step, branch, name_says, any_says}
use Rattle.list_text.proofs.ListLaws.{bracketed_says}
use Rattle.expression_text.specs.declared.leads.Lead.{Lead}
use Rattle.expression_text.specs.declared.leads.Lead.TheVariants as leads
use Rattle.expression_text.specs.Laws.{OnlyWritableExpressions}
use Rattle.expression_text.specs.Reading.{lead_of, operator_at, leaf_at, marked_name_at, logical_at, literal_at, unary_at, nth_at, between_at, list_at, led_at, named_at, opened_at, expression_at}
use Rattle.expression_text.specs.Writable.{IsWritableExpr, AreWritableExprs}
use Rattle.expression_text.proofs.LeadLaws.{leads_variable}

abbrev Only : Reading PureExpr → Type 0
Only r = (y : PureExpr × List ℕ) → r ≡ Some y → IsWritableExpr y.0

-- one that is known
known : (e : PureExpr) (rest : List ℕ) → IsWritableExpr e → Only (Some (e, rest))
known e rest is y same = subst (λ p. IsWritableExpr p.0) (same_Some (e, rest) y same) is

pub marked_says : (bytes : List ℕ) (y : List ℕ × List ℕ) → marked_name_at bytes ≡ Some y → IsMarkedName 35 y.0
unfolding marked_name_at
marked_says bytes y e =
    let a = step (behind (codes "#") bytes) _ y e in
    let b = step (name_at a.first) _ y a.then_read in
    subst (λ p. IsMarkedName 35 p.0) (same_Some _ y b.then_read) (b.first.0, name_says a.first b.first b.read, refl)

logical_says : (bytes : List ℕ) → Only (logical_at bytes)
logical_says bytes y e =
    let a = step (marked_name_at bytes) _ y e in known (logical a.first.0) a.first.1 (marked_says bytes a.first a.read) y a.then_read

literal_says : (bytes : List ℕ) → Only (literal_at bytes)
unfolding literal_at
literal_says bytes y e =
    let a = step (any_value_at bytes) _ y e in
    elim (branch {A = PureExpr × List ℕ} (is_spellable a.first.0) (Some (literal a.first.0, a.first.1)) None y a.then_read) [
      | inl (test, is) ↦ known (literal a.first.0) a.first.1 (any_says bytes a.first a.read, test) y is
      | inr (test, is) ↦ absurd (cc is)
    ]

leaf_says : (bytes : List ℕ) → Only (leaf_at bytes)
leaf_says bytes y e = elim (branch {A = PureExpr × List ℕ} (begins (λ b. eqb b 35) bytes) (logical_at bytes) (literal_at bytes) y e) [
  | inl (test, is) ↦ logical_says bytes y is
  | inr (test, is) ↦ literal_says bytes y is
]

are_writable : (es : List PureExpr) → AllByRecursion IsWritableExpr es → AreWritableExprs (from_list es)
are_writable [] all = tt
are_writable (e ∷ es) all = (all.0, are_writable es all.1)

module _ (read : List ℕ → Reading PureExpr) (each : (bytes : List ℕ) → Only (read bytes)) where
  unary_says : (op : UnOp) (bytes : List ℕ) → Only (unary_at read op bytes)
  unfolding unary_at
  unary_says op bytes y e =
      let a = step (behind (codes "(") bytes) _ y e in
      let b = step (read a.first) _ y a.then_read in
      let c = step (behind (codes ")") b.first.1) _ y b.then_read in
      known (unary_of op b.first.0) c.first (each a.first b.first b.read) y c.then_read

  nth_says : (bytes : List ℕ) → Only (nth_at read bytes)
  unfolding nth_at
  nth_says bytes y e =
      let a = step (behind (codes "(") bytes) _ y e in
      let b = step (read a.first) _ y a.then_read in
      let c = step (behind (codes ", ") b.first.1) _ y b.then_read in
      let d = step (read c.first) _ y c.then_read in
      let f = step (behind (codes ")") d.first.1) _ y d.then_read in
      known _ f.first (each a.first b.first b.read, each c.first d.first d.read) y f.then_read

  between_says : (bytes : List ℕ) → Only (between_at read bytes)
  unfolding between_at
  between_says bytes y e =
      let a = step (behind (codes "(") bytes) _ y e in
      let b = step (read a.first) _ y a.then_read in
      let c = step (operator_at b.first.1) _ y b.then_read in
      let d = step (read c.first.1) _ y c.then_read in
      let f = step (behind (codes ")") d.first.1) _ y d.then_read in
      known (binary_of c.first.0 b.first.0 d.first.0) f.first (each a.first b.first b.read, each c.first.1 d.first d.read) y f.then_read

  list_says : (bytes : List ℕ) → Only (list_at read bytes)
  unfolding list_at
  list_says bytes y e =
      let a = step (bracketed_at read bytes) _ y e in
      known (list_of (from_list a.first.0)) a.first.1 (are_writable a.first.0 (bracketed_says read IsWritableExpr each bytes a.first a.read)) y a.then_read

  led_says : (lead : Lead) (x bytes : List ℕ) → IsName x → lead_of (word_of x) ≡ lead → Only (led_at read lead x bytes)
  led_says leads.Variable x bytes is leads_so y e = known (name x) bytes (leads_variable x is leads_so) y e
  led_says (leads.Unary op) x bytes is leads_so y e = unary_says op bytes y e
  led_says leads.Nth x bytes is leads_so y e = nth_says bytes y e
  led_says (leads.Truth b) x bytes is leads_so y e = known _ bytes (tt, refl) y e
  led_says (leads.Kind k) x bytes is leads_so y e = known _ bytes (tt, refl) y e
  led_says leads.Other x bytes is leads_so y e = absurd (cc e)

  named_says : (bytes : List ℕ) → Only (named_at read bytes)
  unfolding named_at
  named_says bytes y e =
      let a = step (name_at bytes) _ y e in
      led_says (lead_of (word_of a.first.0)) a.first.0 a.first.1 (name_says bytes a.first a.read) refl y a.then_read

  abbrev no_operands : List ℕ → Reading PureExpr
  no_operands bytes = cond (begins is_name_start bytes) (named_at read bytes) (leaf_at bytes)

  abbrev no_list : List ℕ → Reading PureExpr
  no_list bytes = cond (begins (λ b. eqb b 40) bytes) (between_at read bytes) (no_operands bytes)

  opened_says : (bytes : List ℕ) → Only (opened_at read bytes)
  opened_says bytes y e = elim (branch {A = PureExpr × List ℕ} (begins (λ b. eqb b 91) bytes) (list_at read bytes) (no_list bytes) y e) [
    | inl (test, is) ↦ list_says bytes y is
    | inr (test, other) ↦ elim (branch {A = PureExpr × List ℕ} (begins (λ b. eqb b 40) bytes) (between_at read bytes) (no_operands bytes) y other) [
      | inl (test, is) ↦ between_says bytes y is
      | inr (test, another) ↦ elim (branch {A = PureExpr × List ℕ} (begins is_name_start bytes) (named_at read bytes) (leaf_at bytes) y another) [
        | inl (test, is) ↦ named_says bytes y is
        | inr (test, is) ↦ leaf_says bytes y is
      ]
    ]
  ]

expression_says : (n : ℕ) (bytes : List ℕ) → Only (expression_at n bytes)
unfolding expression_at
expression_says zero bytes y e = absurd (cc e)
expression_says (suc n) bytes y e = opened_says (expression_at n) (expression_says n) bytes y e

pub only_writable_expressions : OnlyWritableExpressions
only_writable_expressions bytes e rest is = expression_says (length bytes + 1) bytes (e, rest) is
