use Rattle.std.proofs.Common.{map, take}
use Rattle.sym_model.specs.Lists.{Each}
use Rattle.sym_model.specs.View.{fix_view}
use Rattle.bi_beginnings.specs.Fixing.{IsFixOver}
use Rattle.bi_beginnings.proofs.again.are_fixes_over.Given as goal

abbrev pub invariant-loop-fix : goal.invariant-loop-fix
invariant-loop-fix l = Each (IsFixOver l.memory l.vars) (map fix_view (take l.fix-index l.fix-items))
