use Rattle.std.proofs.Common.{◌≡◌, take, map}
use Rattle.gil_syntax.specs.View.{exprs_view}
use Rattle.while_lang.specs.View.{field_view}
use Rattle.while_compiler.specs.Compiled.{name_literals}
use Rattle.while_compiler.proofs.records.name_literals.Given as goal

abbrev pub invariant-loop-field : goal.invariant-loop-field
invariant-loop-field l = exprs_view l.names ≡ name_literals (map field_view (take l.field-index l.fields))
