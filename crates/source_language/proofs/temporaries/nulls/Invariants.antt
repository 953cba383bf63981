use Rattle.std.proofs.Common.{◌≡◌, take}
use Rattle.source_language.specs.Code.{code_view}
use Rattle.source_language.specs.Procedures.{nulls}
use Rattle.source_language.proofs.temporaries.nulls.Given as goal

abbrev pub invariant-loop-name : goal.invariant-loop-name
invariant-loop-name l = code_view l.body ≡ nulls l.at (take l.name-index l.list)
