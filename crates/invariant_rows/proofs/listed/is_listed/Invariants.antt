use Rattle.std.proofs.Common.{◌≡◌, drop}
use Rattle.gil_syntax.specs.Valid.{is_among}
use Rattle.invariant_rows.proofs.listed.is_listed.Given as goal

abbrev pub invariant-loop-one : goal.invariant-loop-one
invariant-loop-one l = is_among l.listed l.name ≡ is_among (drop l.one-index l.listed) l.name
