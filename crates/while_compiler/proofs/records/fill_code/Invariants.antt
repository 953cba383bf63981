use Rattle.std.proofs.Common.{◌≡◌, take, map}
use Rattle.source_language.specs.Code.{code_view}
use Rattle.while_lang.specs.View.{field_view}
use Rattle.while_compiler.specs.Compiled.{fill_code}
use Rattle.while_compiler.proofs.records.fill_code.Given as goal

abbrev pub invariant-loop-number : goal.invariant-loop-number
invariant-loop-number l = code_view l.code ≡ fill_code l.at l.made l.written 0 (map field_view (take l.number l.fields))
