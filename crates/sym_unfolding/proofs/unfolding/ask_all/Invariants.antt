use Rattle.std.proofs.Common.{take}
use Rattle.std.specs.Option.{option_map}
use Rattle.sym_model.specs.Alternatives.{alternatives_view}
use Rattle.sym_model.specs.View.{path_view}
use Rattle.sym_unfolding.specs.Answering.{ToldOfAll}
use Rattle.sym_unfolding.specs.View.{told_view}
use Rattle.sym_unfolding.proofs.unfolding.ask_all.Given as goal

abbrev pub invariant-loop-more : goal.invariant-loop-more
invariant-loop-more g l = ToldOfAll l.vars (path_view l.conds) (alternatives_view (take l.more-index l.more-items)) (option_map told_view l.undecided)
