-- Which trees are sources: those whose compiled program is valid, the number of commands of a procedure left aside.
use Rattle.std.specs.Prelude.{ℕ, Option}
use Rattle.source_language.specs.Valid.{HasNoSourceFault}
use Rattle.source_statements.specs.Compiled as statements
use Rattle.object_lang.specs.Pure.{PureSource}
use Rattle.object_lang.specs.Resolved.{resolved}
use Rattle.object_compiler.specs.Compiled.{object_codes, compiled}

abbrev pub IsValidSource : PureSource → Type 0
IsValidSource source = HasNoSourceFault (compiled source)

-- the byte at which the first function begins that gives more than 1,000 commands
abbrev pub first_too_long : PureSource → Option ℕ
first_too_long source = statements.first_too_long object_codes (resolved source).functions
