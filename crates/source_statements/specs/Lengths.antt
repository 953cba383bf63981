-- How many commands statements give inside a block whose throws are handled, wherever they stand and wherever the handler is.
use Rattle.std.specs.Prelude.{ℕ, ◌+◌, length, Bool, true, false, not, Option, Some, None}
use Rattle.source_language.specs.Pure.{PureInvariant}
use Rattle.source_statements.specs.Codes.{Codes}
use Rattle.source_statements.specs.Pure.{PureStatement, simple, assert, assume, if_else, while, return, logic, try_catch, PureBlock, no_statements, statement_and}

abbrev pub invariant_length : Option PureInvariant → ℕ
invariant_length None = 0
invariant_length (Some i) = 1

module _ {E S : Type 0} (c : Codes E S) where
  -- a condition and its jumps
  abbrev pub condition_length : E → ℕ
  condition_length e = length (c.front e 0 0) + length (c.jumps (c.operand e))

  -- the same, and the jump out where the others lead in
  abbrev pub guard_length : Bool → E → ℕ
  guard_length true e = condition_length e + 1
  guard_length false e = condition_length e

  abbrev mutual
    pub statement_length : PureStatement E S → ℕ
    statement_length (simple x) = length (c.simple_code (Some 0) 0 0 x)
    statement_length (assert e) = guard_length (not c.where_true) e + 1
    statement_length (assume e) = guard_length (not c.where_true) e + 1
    statement_length (if_else e on off) = condition_length e + block_length on + block_length off + 1
    statement_length (while e invariant body) = invariant_length invariant + guard_length c.where_true e + block_length body + 1
    statement_length (return e) = length (c.front e 0 0) + 1
    statement_length (logic l) = 1
    statement_length (try_catch body y handler) = block_length body + block_length handler + 2

    pub block_length : PureBlock E S → ℕ
    block_length no_statements = 0
    block_length (statement_and at x rest) = statement_length x + block_length rest
