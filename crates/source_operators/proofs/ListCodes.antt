-- The commands of several expressions, one more expression at a time.
use Rattle.std.proofs.Common.{◌≡◌, ℕ, ◌+◌, ◌<◌, get_or, List, [], ◌∷◌, ◌++◌, map, take, length, sym, ap, ◌∙◌, arith, append_assoc, length-append}
use Rattle.std.proofs.lemmas.List.{append-nil}
use Rattle.gil_syntax.proofs.NameLemmas.{map-take_read}
use Rattle.source_operators.specs.declared.trees.Expression.{Expression}
use Rattle.source_operators.specs.Pure.{PureExpression}
use Rattle.source_operators.specs.View.{expression_view}
use Rattle.source_operators.specs.Codes.{Codes, uses, result, code, all_uses, results, all_code}

module _ {P J : Type 0} (c : Codes P J) where
  uses-push : (es : List (PureExpression P J)) (e : PureExpression P J) → all_uses c (es ++ e ∷ []) ≡ all_uses c es + uses c e
  uses-push [] e = omega arith
  uses-push (r ∷ es) e = omega (arith, uses-push es e)

  results-push : (es : List (PureExpression P J)) (e : PureExpression P J) (i : ℕ)
      → results c (es ++ e ∷ []) i ≡ results c es i ++ result c e (i + all_uses c es) ∷ []
  results-push [] e i = let same : i ≡ i + 0 = omega arith in ap (λ n. result c e n ∷ []) same
  results-push (r ∷ es) e i =
      let same : i + uses c r + all_uses c es ≡ i + all_uses c (r ∷ es) = omega arith in
      ap (λ rest. result c r i ∷ rest) (results-push es e (i + uses c r) ∙ ap (λ n. results c es (i + uses c r) ++ result c e n ∷ []) same)

  code-push : (es : List (PureExpression P J)) (e : PureExpression P J) (pc at i : ℕ)
      → all_code c (es ++ e ∷ []) pc at i ≡ all_code c es pc at i ++ code c e (pc + length (all_code c es pc at i)) at (i + all_uses c es)
  code-push [] e pc at i =
      let here : pc ≡ pc + 0 = omega arith in
      let free : i ≡ i + 0 = omega arith in
      append-nil (code c e pc at i) ∙ (λ k. code c e (here k) at (free k))
  code-push (r ∷ es) e pc at i =
      let first = code c r pc at i in
      let others = all_code c es (pc + length first) at (i + uses c r) in
      let here : pc + length first + length others ≡ pc + length (first ++ others) = omega (arith, length-append first others) in
      let free : i + uses c r + all_uses c es ≡ i + all_uses c (r ∷ es) = omega arith in
      ap (λ cs. first ++ cs) (code-push es e (pc + length first) at (i + uses c r) ∙ (λ k. others ++ code c e (here k) at (free k)))
      ∙ sym (append_assoc first others _)

module _ {P J : Type 0} (c : Codes P J) (items : List (Expression P J)) (i : ℕ) (x : Expression P J) (below : i < length items) (is : x ≡ get_or items i x) where
  taken : map expression_view (take (i + 1) items) ≡ map expression_view (take i items) ++ expression_view x ∷ []
  taken = map-take_read expression_view items i x below is

  pub uses-next : all_uses c (map expression_view (take (i + 1) items)) ≡ all_uses c (map expression_view (take i items)) + uses c (expression_view x)
  uses-next = ap (λ es. all_uses c es) taken ∙ uses-push c (map expression_view (take i items)) (expression_view x)

  pub results-next : (free : ℕ) → results c (map expression_view (take (i + 1) items)) free
      ≡ results c (map expression_view (take i items)) free ++ result c (expression_view x) (free + all_uses c (map expression_view (take i items))) ∷ []
  results-next free = ap (λ es. results c es free) taken ∙ results-push c (map expression_view (take i items)) (expression_view x) free

  pub code-next : (pc at free : ℕ) → all_code c (map expression_view (take (i + 1) items)) pc at free
      ≡ all_code c (map expression_view (take i items)) pc at free
      ++ code c (expression_view x) (pc + length (all_code c (map expression_view (take i items)) pc at free)) at (free + all_uses c (map expression_view (take i items)))
  code-next pc at free = ap (λ es. all_code c es pc at free) taken ∙ code-push c (map expression_view (take i items)) (expression_view x) pc at free
