-- The commands that do expressions from left to right into operands, over the commands of a language's operators. The commands of a
-- statement have the byte at which it begins as their place; labels are indices of the procedure's commands.
use Rattle.std.specs.Prelude.{ℕ, ◌+◌, ◌-◌, List, [], ◌∷◌, ◌++◌, length, Bool, true, false}
use Rattle.gil_syntax.specs.Pure.{PureExpr, literal, name, PureNumberedCommand}
use Rattle.source_language.specs.Names.{temporary}
use Rattle.source_operators.specs.declared.trees.Connective.{Connective}
use Rattle.source_operators.specs.Pure.{PureExpression, constant, variable, brackets, prefixed, joined, skipping}

-- The commands of the operators of a language, from the index of the first, the place, the number of the first temporary that is free, and
-- the operands. What comes out is in the last of the temporaries that they take.
pub record Codes (P J : Type 0) : Type 0 where
  pub variable : List ℕ → PureExpr
  pub apply_uses : P → ℕ
  pub apply : P → ℕ → ℕ → ℕ → PureExpr → List PureNumberedCommand
  pub join_uses : J → ℕ
  pub join : J → ℕ → ℕ → ℕ → PureExpr → PureExpr → List PureNumberedCommand
  -- Of what may skip its right side: whether the temporary of what comes out is taken before those of the right side; the commands behind the
  -- left side, before so many of the right side, and how many they are; and those behind the right side. Both have the number of that
  -- temporary.
  pub early : Bool
  pub decide_size : Connective → ℕ
  pub decide : Connective → ℕ → ℕ → ℕ → ℕ → PureExpr → List PureNumberedCommand
  pub conclude : Connective → ℕ → ℕ → ℕ → PureExpr → List PureNumberedCommand

-- the first temporary that is free for the right side, where a number is free behind the left one
abbrev pub right_from : Bool → ℕ → ℕ
right_from true i = i + 1
right_from false i = i

-- the number of the temporary of what comes out, where these are free behind the left side and behind the right one
abbrev pub taken : Bool → ℕ → ℕ → ℕ
taken true i j = i
taken false i j = j

-- the last of so many temporaries from a number on
abbrev pub last : ℕ → ℕ → PureExpr
last i n = name (temporary (i + n - 1))

module _ {P J : Type 0} (k : Codes P J) where
  -- how many temporaries an expression takes
  abbrev pub uses : PureExpression P J → ℕ
  uses (constant v) = 0
  uses (variable x) = 0
  uses (brackets e) = uses e
  uses (prefixed u e) = uses e + k.apply_uses u
  uses (joined j d e) = uses d + uses e + k.join_uses j
  uses (skipping c d e) = uses d + uses e + 1

  -- what stands for the operand, where the temporaries from a number on are free
  abbrev pub result : PureExpression P J → ℕ → PureExpr
  result (constant v) i = literal v
  result (variable x) i = k.variable x
  result (brackets e) i = result e i
  result (prefixed u e) i = last (i + uses e) (k.apply_uses u)
  result (joined j d e) i = last (i + uses d + uses e) (k.join_uses j)
  result (skipping c d e) i = name (temporary (taken k.early (i + uses d) (right_from k.early (i + uses d) + uses e)))

  -- behind the left side: what decides, the right side, and what ends
  abbrev pub skip_code : Connective → ℕ → ℕ → ℕ → PureExpr → PureExpr → (ℕ → List PureNumberedCommand) → List PureNumberedCommand
  skip_code c pc at t a b right =
      k.decide c pc at t (length (right (pc + k.decide_size c))) a
      ++ (right (pc + k.decide_size c) ++ k.conclude c (pc + k.decide_size c + length (right (pc + k.decide_size c))) at t b)

  abbrev pub code : PureExpression P J → ℕ → ℕ → ℕ → List PureNumberedCommand
  code (constant v) pc at i = []
  code (variable x) pc at i = []
  code (brackets e) pc at i = code e pc at i
  code (prefixed u e) pc at i = code e pc at i ++ k.apply u (pc + length (code e pc at i)) at (i + uses e) (result e i)
  code (joined j d e) pc at i =
      code d pc at i
      ++ (code e (pc + length (code d pc at i)) at (i + uses d)
      ++ k.join j (pc + length (code d pc at i) + length (code e (pc + length (code d pc at i)) at (i + uses d))) at (i + uses d + uses e)
      (result d i) (result e (i + uses d)))
  code (skipping c d e) pc at i =
      code d pc at i
      ++ skip_code c (pc + length (code d pc at i)) at (taken k.early (i + uses d) (right_from k.early (i + uses d) + uses e))
      (result d i) (result e (right_from k.early (i + uses d))) (λ n. code e n at (right_from k.early (i + uses d)))

  -- several expressions, from left to right
  abbrev pub all_uses : List (PureExpression P J) → ℕ
  all_uses [] = 0
  all_uses (e ∷ es) = uses e + all_uses es

  abbrev pub results : List (PureExpression P J) → ℕ → List PureExpr
  results [] i = []
  results (e ∷ es) i = result e i ∷ results es (i + uses e)

  abbrev pub all_code : List (PureExpression P J) → ℕ → ℕ → ℕ → List PureNumberedCommand
  all_code [] pc at i = []
  all_code (e ∷ es) pc at i = code e pc at i ++ all_code es (pc + length (code e pc at i)) at (i + uses e)
