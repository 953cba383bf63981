use Rattle.std.proofs.Common.{take}
use Rattle.checked_paths.specs.Meaning.{SaySame}
use Rattle.checked_paths.specs.View.{all_passed_view}
use Rattle.checked_paths.proofs.checking.copy_all.Given as goal

abbrev pub invariant-loop-passed : goal.invariant-loop-passed
invariant-loop-passed g l =
    SaySame g.M.SymMemory.stands g.M.SymMemory.terms (all_passed_view (take l.passed-index l.passed-items)) (all_passed_view l.copied)
