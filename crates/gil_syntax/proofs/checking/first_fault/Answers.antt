use Rattle.std.proofs.Common.{sym, ◌∙◌, below_more}
use Rattle.gil_syntax.specs.ByName.{parts_of}
use Rattle.gil_syntax.proofs.CheckLemmas.{fault_here}
use Rattle.gil_syntax.proofs.checking.first_fault.Goals as goal

pub loop-item-preserved : goal.loop-item-preserved
loop-item-preserved c = below_more _ _ c.loop-item.invariant
    (fault_here (parts_of c.args.program.now) c.args.kind c.loop-item.item c.in-Some.found c.in-Some.ensures.there ∙ sym c.in_ok-has_fault.ensures ∙ c.if-branch.false)
