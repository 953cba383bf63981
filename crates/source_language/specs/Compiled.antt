-- Commands that stand for statements: choices, loops, assertions and assumptions of languages whose conditions are booleans, and what
-- only proofs look at, of every language. The commands of a statement have the byte at which it begins as their place; labels are indices
-- of the procedure's commands.
use Rattle.std.specs.Prelude.{ℕ, ◌+◌, List, [], ◌∷◌, ◌++◌, length, Option, Some, None, codes}
use Rattle.gil_values.specs.Pure.{text}
use Rattle.gil_syntax.specs.Pure.{PureExpr, literal, PureCommand, fail, vanish, fold_use, unfold_use, assert_that, loop_invariant, PureNumberedCommand}
use Rattle.source_language.specs.Code.{truth, jump}
use Rattle.source_language.specs.Procedures.{placed}
use Rattle.source_language.specs.Pure as trees
use Rattle.source_language.specs.Pure.{PureLogic, PureInvariant}

-- Of a condition at a place: where it is true, the second commands, and else the first.
abbrev pub if_code : ℕ → ℕ → PureExpr → List PureNumberedCommand → List PureNumberedCommand → List PureNumberedCommand
if_code pc at e off on =
    jump at e (pc + 1 + length off + 1) ∷ (off ++ (jump at truth (pc + 1 + length off + 1 + length on) ∷ on))

-- Commands before the test, the test, the body and the jump back to the first of them.
abbrev pub while_code : ℕ → ℕ → PureExpr → List PureNumberedCommand → List PureNumberedCommand → List PureNumberedCommand
while_code pc at e front body =
    front
    ++ (jump at e (pc + length front + 1 + 1)
    ∷ jump at truth (pc + length front + 1 + 1 + length body + 1)
    ∷ (body ++ jump at truth pc ∷ []))

-- a failure where the condition is false
abbrev pub assert_code : ℕ → ℕ → PureExpr → List PureNumberedCommand
assert_code pc at e = jump at e (pc + 2) ∷ placed at (fail (literal (text (codes "assert")))) ∷ []

-- the end of the path where the condition is false
abbrev pub assume_code : ℕ → ℕ → PureExpr → List PureNumberedCommand
assume_code pc at e = jump at e (pc + 2) ∷ placed at vanish ∷ []

-- the invariant of a loop, which may change the names too that are none of the source and are assigned in the loop
abbrev pub invariant_code : ℕ → List (List ℕ) → Option PureInvariant → List PureNumberedCommand
invariant_code at more None = []
invariant_code at more (Some i) = placed at (loop_invariant (i.names ++ more) i.logicals i.items) ∷ []

abbrev pub logic_command : PureLogic → PureCommand
logic_command (trees.fold_use u) = fold_use u
logic_command (trees.unfold_use u) = unfold_use u
logic_command (trees.assert_that items) = assert_that items
logic_command (trees.invariant_by_itself i) = loop_invariant i.names i.logicals i.items
