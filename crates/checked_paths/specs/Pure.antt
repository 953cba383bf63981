-- Checked paths as pure data, over the states S of a memory: a path beside facts and the invariants that its frames passed.
use Rattle.std.specs.Prelude.{ℕ, List}
use Rattle.gil_syntax.specs.Pure.{PureSpec}
use Rattle.pure_terms.specs.Pure.{PureTerm}
use Rattle.sym_evaluation.specs.Pure.{PureStore}
use Rattle.sym_paths.specs.Pure.{PurePath}
use Rattle.sym_states.specs.Pure.{PureFact}
use Rattle.checked_paths.specs.declared.nexts.Cause.{Cause}

-- the specification that is checked, with the terms of its parameters and of the variables that its precondition names
pub record PureEntry : Type 0 where
  pub spec : PureSpec
  pub args : List PureTerm
  pub variables : PureStore

-- an invariant that a frame passed: the index of its command, what it left of memory and facts, and the terms of the variables that it
-- doesn't list
pub record PurePassed (S : Type 0) : Type 0 where
  pub at : ℕ
  pub memory : S
  pub facts : List PureFact
  pub unlisted : PureStore

-- A path beside facts, and for each of its frames, the latest first, the invariants that it passed, the latest first.
pub record PureChecking (S : Type 0) : Type 0 where
  pub path : PurePath S
  pub facts : List PureFact
  pub passed : List (List (PurePassed S))

-- What a step of a checked path answers: a path that goes on, that nothing is left to be looked at, or why the specification isn't
-- verified.
pub data PureNext (S : Type 0) : Type 0 where
  further : PureChecking S → PureNext S
  over : PureNext S
  caused : Cause → PureNext S
