use Rattle.std.proofs.Common.{◌≡◌, take, map}
use Rattle.source_language.specs.Code.{code_view}
use Rattle.while_lang.specs.View.{field_view}
use Rattle.while_compiler.specs.Compiled.{field_values_code}
use Rattle.while_compiler.proofs.records.field_values_code.Given as goal

abbrev pub invariant-loop-number : goal.invariant-loop-number
invariant-loop-number l = code_view l.code ≡ field_values_code l.at 0 (map field_view (take l.number l.fields))
