-- The procedure that a function of a source language is compiled to: the names that are none of the source begin with Null, then come the
-- commands of its statements, and where these end, it returns Null.
use Rattle.std.specs.Prelude.{ℕ, List, [], ◌∷◌, ◌++◌, map, length}
use Rattle.gil_values.specs.declared.kinds.Kind.TheVariants.{Null}
use Rattle.gil_values.specs.Pure.{kind}
use Rattle.gil_syntax.specs.Pure.{PureExpr, literal, PureCommand, assign, return, PureNumberedCommand, PureProc}
use Rattle.source_language.specs.Pure.{PureFunction}

abbrev pub null : PureExpr
null = literal (kind Null)

-- a command with the byte at which its statement begins as its place
abbrev pub placed : ℕ → PureCommand → PureNumberedCommand
placed at c = record { command = c; at = at }

abbrev pub nulls : ℕ → List (List ℕ) → List PureNumberedCommand
nulls at xs = map (λ x. placed at (assign x null)) xs

-- the name, the parameters, the byte at which the function begins, the names that begin with Null, and the commands of its statements from
-- a place of the body on
abbrev pub body_of : ℕ → List (List ℕ) → (ℕ → List PureNumberedCommand) → List PureNumberedCommand
body_of at names code = nulls at names ++ (code (length names) ++ placed at (return null) ∷ [])

abbrev pub procedure_of : List ℕ → List (List ℕ) → ℕ → List (List ℕ) → (ℕ → List PureNumberedCommand) → PureProc
procedure_of f params at names code = record { name = f; params = params; body = body_of at names code }

-- the procedure of a function, by the names that begin with Null and its commands from a place of the body on
abbrev pub compiled_function : {B : Type 0} → (PureFunction B → List (List ℕ)) → (PureFunction B → ℕ → List PureNumberedCommand) → PureFunction B → PureProc
compiled_function names code f = procedure_of f.name f.params f.at (names f) (code f)
