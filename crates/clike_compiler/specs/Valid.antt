-- Which trees are sources: those whose compiled program is valid, the number of commands of a procedure left aside.
use Rattle.std.specs.Prelude.{ℕ, List, Option}
use Rattle.source_language.specs.Valid.{HasNoSourceFault}
use Rattle.source_statements.specs.Compiled as statements
use Rattle.clike_lang.specs.Pure.{PureFunction, PureSource}
use Rattle.clike_compiler.specs.Compiled.{clike_codes, compiled}

abbrev pub IsValidSource : PureSource → Type 0
IsValidSource source = HasNoSourceFault (compiled source)

-- the byte at which the first function begins that gives more than 1,000 commands
abbrev pub first_too_long : List PureFunction → Option ℕ
first_too_long functions = statements.first_too_long clike_codes functions
