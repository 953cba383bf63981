use Rattle.std.proofs.Common.{map, take}
use Rattle.sym_model.specs.Lists.{Each}
use Rattle.sym_model.specs.View.{fix_view}
use Rattle.bi_beginnings.specs.Fixing.{IsAtNewSymbol}
use Rattle.bi_beginnings.proofs.again.are_at_new_symbols.Given as goal

abbrev pub invariant-loop-fix : goal.invariant-loop-fix
invariant-loop-fix l = Each (IsAtNewSymbol l.vars) (map fix_view (take l.fix-index l.fix-items))
