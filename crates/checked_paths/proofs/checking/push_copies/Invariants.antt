use Rattle.std.proofs.Common.{◌++◌, take}
use Rattle.checked_paths.specs.Meaning.{SayTheSame}
use Rattle.checked_paths.specs.View.{passed_by_view}
use Rattle.checked_paths.proofs.checking.push_copies.Given as goal

abbrev pub invariant-loop-all : goal.invariant-loop-all
invariant-loop-all g l =
    SayTheSame g.M.SymMemory.stands g.M.SymMemory.terms (passed_by_view l.fn.frames ++ passed_by_view (take l.all-index l.others)) (passed_by_view l.copied)
