-- What is read as a specification is writable.
use Rattle.std.proofs.Common.{◌≡◌, ℕ, Bool, true, false, cond, eqb, List, [], ◌∷◌, length, Option, Some, None, refl, sym, ap, subst, ◌∙◌, inl, inr}
use Rattle.std.specs.Prelude.{codes, is_some}
use Rattle.std.specs.Str.{bytes_eq}
use Rattle.std.specs.List.{AllByRecursion}
use Rattle.std.proofs.lemmas.Bool.{true≢false}
use Rattle.std.proofs.lemmas.Option.{same_Some}
use Rattle.gil_lexer.specs.Bytes.{begins}
use Rattle.gil_lexer.specs.Spelling.{IsName}
use Rattle.gil_syntax.specs.declared.assertions.Param.{Param}
use Rattle.gil_syntax.specs.Pure.{PureExpr, PurePredUse, PureItem, pure, uses, PureSpec}
use Rattle.value_text.specs.Reading.{Reading, ◌>>=◌, behind, behind_or, with_front, many_at, name_at, before_no_comma, behind_comma, bracketed_at}
use Rattle.value_text.proofs.Says.{step, branch, behind_or_says, name_says, many_says}
use Rattle.list_text.proofs.ListLaws.{bracketed_says}
use Rattle.expression_text.specs.Reading.{marked_name_at, any_expression_at}
use Rattle.expression_text.specs.Writable.{IsWritableExpr}
use Rattle.expression_text.proofs.ExpressionSays.{marked_says, only_writable_expressions}
use Rattle.specification_text.specs.Reading.{elements_until, sort_at, param_at, logical_at, params_at, logicals_at, may_be_item, pure_at, outs_at, handed_at, use_at, item_at, before_no_star, behind_star, some_items_at, items_at, nothing_at, block_at, before_no_post, post_at, before_no_error, error_at, posts_at, errors_at, specification_at}
use Rattle.specification_text.specs.Writable.{IsWritableParam, IsWritableLogical, IsWritableUse, IsWritableItem, IsWritableAssertion, IsWritableSpec}

abbrev Only : {X : Type 0} → (X → Type 0) → Reading X → Type 0
Only {X = X} P r = (y : X × List ℕ) → r ≡ Some y → P y.0

known : {X : Type 0} (P : X → Type 0) (x : X) (rest : List ℕ) → P x → Only P (Some (x, rest))
known P x rest is y same = subst (λ p. P p.0) (same_Some (x, rest) y same) is

module _ {X : Type 0} (stop : ℕ) (read : List ℕ → Reading X) (P : X → Type 0) (each : (bytes : List ℕ) → Only P (read bytes)) where
  comma_says : (bytes : List ℕ) → Only P (behind_comma read bytes)
  comma_says bytes y e = let s = step (behind (codes ", ") bytes) read y e in each s.first y s.then_read

  abbrev elements_rest : List ℕ → Reading (List X)
  elements_rest bytes = read bytes >>= λ x. with_front (x.0 ∷ []) (many_at before_no_comma (behind_comma read) (length x.1) x.1)

  until_says : (bytes : List ℕ) → Only (AllByRecursion P) (elements_until stop read bytes)
  until_says bytes y e = elim (branch {A = List X × List ℕ} (begins (λ b. eqb b stop) bytes) (Some ([], bytes)) (elements_rest bytes) y e) [
    | inl (test, is) ↦ subst (λ p. AllByRecursion P p.0) (same_Some _ _ is) tt
    | inr (test, is) ↦
        let s = step (read bytes) _ y is in
        let more = step (many_at before_no_comma (behind_comma read) (length s.first.1) s.first.1) _ y s.then_read in
        subst (λ p. AllByRecursion P p.0) (same_Some _ _ more.then_read)
        (each bytes s.first s.read, many_says before_no_comma (behind_comma read) P comma_says (length s.first.1) s.first.1 more.first more.read)
  ]

expression_says : (bytes : List ℕ) → Only IsWritableExpr (any_expression_at bytes)
expression_says bytes y e = only_writable_expressions bytes y.0 y.1 e

-- ---- parameters

param_says : (bytes : List ℕ) → Only IsWritableParam (param_at bytes)
unfolding param_at
param_says bytes y e =
    let a = step (name_at bytes) _ y e in
    let b = step (sort_at a.first.1) _ y a.then_read in
    known IsWritableParam (record { name = a.first.0; sort = b.first.0 }) b.first.1 (name_says bytes a.first a.read) y b.then_read

logical_says : (bytes : List ℕ) → Only IsWritableLogical (logical_at bytes)
unfolding logical_at
logical_says bytes y e =
    let a = step (marked_name_at bytes) _ y e in
    let b = step (sort_at a.first.1) _ y a.then_read in
    known IsWritableLogical (record { name = a.first.0; sort = b.first.0 }) b.first.1 (marked_says bytes a.first a.read) y b.then_read

-- ---- items

pure_says : (bytes : List ℕ) → Only IsWritableItem (pure_at bytes)
unfolding pure_at
pure_says bytes y e =
    let a = step (any_expression_at bytes) _ y e in
    elim (branch {A = PureItem × List ℕ} (may_be_item a.first.0) (Some (pure a.first.0, a.first.1)) None y a.then_read) [
      | inl (test, is) ↦ known IsWritableItem (pure a.first.0) a.first.1 (expression_says bytes a.first a.read, test) y is
      | inr (test, is) ↦ absurd (cc is)
    ]

outs_say : (bytes : List ℕ) → Only (AllByRecursion IsWritableExpr) (outs_at bytes)
outs_say bytes y e = elim (behind_or_says {X = List PureExpr} (behind (codes " ") bytes) (elements_until 41 any_expression_at) (Some ([], bytes)) y e) [
  | inl (rest, is) ↦ until_says 41 any_expression_at IsWritableExpr expression_says rest y is
  | inr is ↦ known (AllByRecursion IsWritableExpr) [] bytes tt y is
]

handed_says : (x bytes : List ℕ) → IsName x → bytes_eq x (codes "not") ≡ false → Only IsWritableItem (handed_at x bytes)
unfolding handed_at
handed_says x bytes named other y e =
    let a = step (behind (codes "(") bytes) _ y e in
    let b = step (elements_until 59 any_expression_at a.first) _ y a.then_read in
    let c = step (behind (codes ";") b.first.1) _ y b.then_read in
    let d = step (outs_at c.first) _ y c.then_read in
    let f = step (behind (codes ")") d.first.1) _ y d.then_read in
    let u : PurePredUse = record { pred = x; ins = b.first.0; outs = d.first.0 } in
    known IsWritableItem (uses u) f.first (record {
      named = named;
      other = λ same. true≢false (sym (ap (λ z. bytes_eq z (codes "not")) same) ∙ other);
      ins = until_says 59 any_expression_at IsWritableExpr expression_says a.first b.first b.read;
      outs = outs_say c.first d.first d.read;
    }) y f.then_read

use_says : (bytes : List ℕ) → Only IsWritableItem (use_at bytes)
unfolding use_at
use_says bytes y e =
    let a = step (name_at bytes) _ y e in
    elim (branch {A = PureItem × List ℕ} (bytes_eq a.first.0 (codes "not")) None (handed_at a.first.0 a.first.1) y a.then_read) [
      | inl (test, is) ↦ absurd (cc is)
      | inr (test, is) ↦ handed_says a.first.0 a.first.1 (name_says bytes a.first a.read) test y is
    ]

abbrev no_operands : List ℕ → Reading PureItem
no_operands bytes = cond (is_some (behind (codes "not(") bytes)) (pure_at bytes) (use_at bytes)

item_says : (bytes : List ℕ) → Only IsWritableItem (item_at bytes)
item_says bytes y e = elim (branch {A = PureItem × List ℕ} (begins (λ b. eqb b 40) bytes) (pure_at bytes) (no_operands bytes) y e) [
  | inl (test, is) ↦ pure_says bytes y is
  | inr (test, other) ↦ elim (branch {A = PureItem × List ℕ} (is_some (behind (codes "not(") bytes)) (pure_at bytes) (use_at bytes) y other) [
    | inl (test, is) ↦ pure_says bytes y is
    | inr (test, is) ↦ use_says bytes y is
  ]
]

-- ---- assertions

star_says : (bytes : List ℕ) → Only IsWritableItem (behind_star bytes)
star_says bytes y e = let s = step (behind (codes " * ") bytes) item_at y e in item_says s.first y s.then_read

some_items_say : (bytes : List ℕ) → Only IsWritableAssertion (some_items_at bytes)
unfolding some_items_at
some_items_say bytes y e =
    let s = step (item_at bytes) _ y e in
    let more = step (many_at before_no_star behind_star (length s.first.1) s.first.1) _ y s.then_read in
    subst (λ p. IsWritableAssertion p.0) (same_Some _ _ more.then_read)
    (item_says bytes s.first s.read, many_says before_no_star behind_star IsWritableItem star_says (length s.first.1) s.first.1 more.first more.read)

items_say : (bytes : List ℕ) → Only IsWritableAssertion (items_at bytes)
unfolding items_at
items_say bytes y e =
    let a = step (some_items_at bytes) _ y e in
    let b = step (behind (codes " }") a.first.1) _ y a.then_read in
    known IsWritableAssertion a.first.0 b.first (some_items_say bytes a.first a.read) y b.then_read

nothing_says : (bytes : List ℕ) → Only IsWritableAssertion (nothing_at bytes)
unfolding nothing_at
nothing_says bytes y e = let a = step (behind (codes "}") bytes) _ y e in known IsWritableAssertion [] a.first tt y a.then_read

block_says : (bytes : List ℕ) → Only IsWritableAssertion (block_at bytes)
block_says bytes y e = elim (behind_or_says {X = List PureItem} (behind (codes "{ emp ") bytes) nothing_at (behind (codes "{ ") bytes >>= items_at) y e) [
  | inl (rest, is) ↦ nothing_says rest y is
  | inr other ↦ let a = step (behind (codes "{ ") bytes) items_at y other in items_say a.first y a.then_read
]

post_says : (bytes : List ℕ) → Only IsWritableAssertion (post_at bytes)
post_says bytes y e = let a = step (behind (codes " ") bytes) block_at y e in block_says a.first y a.then_read

error_says : (bytes : List ℕ) → Only IsWritableAssertion (error_at bytes)
error_says bytes y e = let a = step (behind (codes " throw ") bytes) block_at y e in block_says a.first y a.then_read

posts_say : (bytes : List ℕ) → Only (AllByRecursion IsWritableAssertion) (posts_at bytes)
posts_say bytes y e =
    let a = step (many_at before_no_post post_at (length bytes) bytes) _ y e in
    subst (λ p. AllByRecursion IsWritableAssertion p.0) (same_Some _ _ a.then_read)
    (many_says before_no_post post_at IsWritableAssertion post_says (length bytes) bytes a.first a.read)

errors_say : (bytes : List ℕ) → Only (AllByRecursion IsWritableAssertion) (errors_at bytes)
errors_say bytes y e =
    let a = step (many_at before_no_error error_at (length bytes) bytes) _ y e in
    subst (λ p. AllByRecursion IsWritableAssertion p.0) (same_Some _ _ a.then_read)
    (many_says before_no_error error_at IsWritableAssertion error_says (length bytes) bytes a.first a.read)

-- ---- specifications

pub specification_says : (bytes : List ℕ) → Only IsWritableSpec (specification_at bytes)
unfolding specification_at
specification_says bytes y e =
    let a = step (name_at bytes) _ y e in
    let b = step (behind (codes "(") a.first.1) _ y a.then_read in
    let c = step (params_at b.first) _ y b.then_read in
    let d = step (behind (codes ") ") c.first.1) _ y c.then_read in
    let f = step (logicals_at d.first) _ y d.then_read in
    let g = step (behind (codes " ") f.first.1) _ y f.then_read in
    let h = step (block_at g.first) _ y g.then_read in
    let i = step (posts_at h.first.1) _ y h.then_read in
    let j = step (errors_at i.first.1) _ y i.then_read in
    let s : PureSpec = record { name = a.first.0; params = c.first.0; logicals = f.first.0; pre = h.first.0; posts = i.first.0; errors = j.first.0 } in
    known IsWritableSpec s j.first.1 (record {
      named = name_says bytes a.first a.read;
      params = until_says 41 param_at IsWritableParam param_says b.first c.first c.read;
      logicals = bracketed_says logical_at IsWritableLogical logical_says d.first f.first f.read;
      pre = block_says g.first h.first h.read;
      posts = posts_say h.first.1 i.first i.read;
      errors = errors_say i.first.1 j.first j.read;
    }) y j.then_read
