-- What the statements of a block come to, over what a language says of its expressions and its simple statements. A failure has the byte at
-- which its statement begins as its place.
use Rattle.std.specs.Prelude.{ℕ, List, codes}
use Rattle.gil_values.specs.declared.places.Place.{Place}
use Rattle.gil_values.specs.Pure.{text}
use Rattle.gil_machine.specs.State.{vanished}
use Rattle.source_language.specs.Completions.{Situation, Completion, normal, returns, over, then_do, handled_by, end_of, sets, fails}
use Rattle.source_statements.specs.Pure.{PureStatement, simple, assert, assume, if_else, while, return, logic, try_catch, PureBlock, no_statements, statement_and}
use Rattle.source_statements.specs.Tests.{Test, turns}
use Rattle.source_statements.specs.Values.{Continuation}

-- what a language says of an expression as a condition and as a value, and of its simple statements, at a place
pub record Meanings (E S : Type 0) : Type 0 where
  pub test : E → Place → Test
  pub value : E → Place → Situation → Continuation → Completion
  pub simple : S → Place → Situation → Completion

module _ {E S : Type 0} (k : Meanings E S) (loops : ℕ) where
  abbrev mutual
    -- what a statement comes to, where each loop is tested at most so many times
    pub statement : PureStatement E S → Place → Situation → Completion
    statement (simple c) here s = k.simple c here s
    statement (assert e) here s = k.test e here s (λ t. normal t) (λ t. fails (text (codes "assert")) here t)
    statement (assume e) here s = k.test e here s (λ t. normal t) (λ t. over (end_of vanished t))
    statement (if_else e on off) here s = k.test e here s (block here.proc on) (block here.proc off)
    statement (while e invariant body) here s = turns loops (k.test e here) (block here.proc body) s
    statement (return e) here s = k.value e here s (λ v t. returns v t)
    statement (logic c) here s = normal s
    statement (try_catch body y handler) here s = handled_by (block here.proc body s) (λ v t. block here.proc handler (sets y v t))

    -- what the statements of a block in the function f come to
    pub block : List ℕ → PureBlock E S → Situation → Completion
    block f no_statements s = normal s
    block f (statement_and at c rest) s = then_do (statement c (record { proc = f; at = at }) s) (block f rest)
