-- The commands of one, two and three expressions.
use Rattle.std.proofs.Common.{◌≡◌, ℕ, ◌+◌, [], ◌∷◌, ◌++◌, length, ap}
use Rattle.std.proofs.lemmas.List.{append-nil}
use Rattle.source_operators.specs.Codes.{uses, code, all_code}
use Rattle.object_operators.specs.Codes.{codes_of_operators}
use Rattle.object_operators.specs.Pure.{PureExpression}

abbrev pub after : PureExpression → ℕ → ℕ → ℕ → ℕ
after e pc at i = pc + length (code codes_of_operators e pc at i)

pub code_of_one : (a : PureExpression) (pc at i : ℕ) → all_code codes_of_operators (a ∷ []) pc at i ≡ code codes_of_operators a pc at i
code_of_one a pc at i = append-nil (code codes_of_operators a pc at i)

pub code_of_two : (a b : PureExpression) (pc at i : ℕ) → all_code codes_of_operators (a ∷ b ∷ []) pc at i
    ≡ code codes_of_operators a pc at i ++ code codes_of_operators b (after a pc at i) at (i + uses codes_of_operators a)
code_of_two a b pc at i = ap (λ cs. code codes_of_operators a pc at i ++ cs) (code_of_one b (after a pc at i) at (i + uses codes_of_operators a))

pub code_of_three : (a b c : PureExpression) (pc at i : ℕ) → all_code codes_of_operators (a ∷ b ∷ c ∷ []) pc at i
    ≡ code codes_of_operators a pc at i
    ++ (code codes_of_operators b (after a pc at i) at (i + uses codes_of_operators a)
    ++ code codes_of_operators c (after b (after a pc at i) at (i + uses codes_of_operators a)) at (i + uses codes_of_operators a + uses codes_of_operators b))
code_of_three a b c pc at i =
    ap (λ cs. code codes_of_operators a pc at i ++ cs) (code_of_two b c (after a pc at i) at (i + uses codes_of_operators a))
