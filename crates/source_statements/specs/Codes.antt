-- The commands of conditions: jumps that are all taken to one label, and what stands behind them.
use Rattle.std.specs.Prelude.{ℕ, ◌+◌, List, [], ◌∷◌, ◌++◌, map, length, Bool, true, false, Option}
use Rattle.gil_syntax.specs.Pure.{PureExpr, name, assign, PureNumberedCommand}
use Rattle.source_language.specs.Code.{truth, jump}
use Rattle.source_language.specs.Names.{caught}
use Rattle.source_language.specs.Procedures.{placed}

-- What a language says of the commands of its expressions and simple statements. The front of an expression are the commands before it
-- can be named by its operand, with the index of the first of them and the byte of the statement. Where it is a condition there are jumps
-- behind them at what is made of the operand, which are all taken to one label: where the condition holds, or else where it doesn't. The
-- commands of a simple statement also have the label of the handler of the block around it, where there is one; whether it may throw is
-- whether they assign the variable of thrown values there.
pub record Codes (E S : Type 0) : Type 0 where
  pub uses : E → ℕ
  pub front : E → ℕ → ℕ → List PureNumberedCommand
  pub operand : E → PureExpr
  pub jumps : PureExpr → List PureExpr
  pub where_true : Bool
  pub simple_uses : S → ℕ
  pub may_throw : S → Bool
  pub simple_code : Option ℕ → ℕ → ℕ → S → List PureNumberedCommand

abbrev pub jumps_to : ℕ → List PureExpr → ℕ → List PureNumberedCommand
jumps_to at es label = map (λ e. jump at e label) es

-- the index behind the front of a condition and its jumps
abbrev pub behind : ℕ → List PureNumberedCommand → List PureExpr → ℕ
behind pc front es = pc + length front + length es

-- the jumps of a condition that lead into commands or to their end, and another one to the end where they lead into them
abbrev pub exits_code : Bool → ℕ → List PureExpr → ℕ → ℕ → List PureNumberedCommand
exits_code true at es inside end = jumps_to at es inside ++ jump at truth end ∷ []
exits_code false at es inside end = jumps_to at es end

-- where these commands begin
abbrev pub inside_label : Bool → ℕ → List PureNumberedCommand → List PureExpr → ℕ
inside_label true pc front es = behind pc front es + 1
inside_label false pc front es = behind pc front es

-- commands that are done where the jumps of a condition lead into them, or where they don't lead to their end
abbrev pub guarded_code : Bool → ℕ → ℕ → List PureNumberedCommand → List PureExpr → List PureNumberedCommand → List PureNumberedCommand
guarded_code into pc at front es inside =
    front ++ (exits_code into at es (inside_label into pc front es) (inside_label into pc front es + length inside) ++ inside)

-- where the far commands of a choice begin, which the jumps lead to
abbrev pub far_label : ℕ → List PureNumberedCommand → List PureExpr → List PureNumberedCommand → ℕ
far_label pc front es near = behind pc front es + length near + 1

-- the near commands, and the far ones
abbrev pub choice_code : ℕ → ℕ → List PureNumberedCommand → List PureExpr → List PureNumberedCommand → List PureNumberedCommand → List PureNumberedCommand
choice_code pc at front es near far =
    front
    ++ (jumps_to at es (far_label pc front es near)
    ++ (near ++ (jump at truth (far_label pc front es near + length far) ∷ far)))

-- a choice between commands that may stand anywhere: the near ones are those to which the jumps don't lead
abbrev pub if_code : Bool → ℕ → ℕ → List PureNumberedCommand → List PureExpr → (ℕ → List PureNumberedCommand) → (ℕ → List PureNumberedCommand) → List PureNumberedCommand
if_code true pc at front es on off =
    choice_code pc at front es (off (behind pc front es)) (on (far_label pc front es (off (behind pc front es))))
if_code false pc at front es on off =
    choice_code pc at front es (on (behind pc front es)) (off (far_label pc front es (on (behind pc front es))))

-- the commands of a block, the jump to the end, and the handler, in which a variable gets what is thrown
abbrev pub try_code : ℕ → ℕ → List ℕ → List PureNumberedCommand → List PureNumberedCommand → List PureNumberedCommand
try_code end at y body handler = body ++ (jump at truth end ∷ (placed at (assign y (name caught)) ∷ handler))
