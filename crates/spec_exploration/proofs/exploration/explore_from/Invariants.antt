use Rattle.gil_syntax.specs.Program.{prog_view}
use Rattle.gil_syntax.specs.View.{spec_view}
use Rattle.plain_specs.specs.Contained.{IsContained}
use Rattle.sym_model.specs.Lists.{Each}
use Rattle.checked_paths.specs.View.{entry_view, nexts_view}
use Rattle.spec_exploration.specs.Exploring.{ArePlaced, AreReached, SettlesStarts, exploration_view}
use Rattle.spec_exploration.specs.Inside.{IsNextInside, StaysInside}
use Rattle.spec_exploration.specs.Plain.{HasPlainTerms, IsPlainNext, IsPlainSpec, StaysPlain}
use Rattle.spec_exploration.proofs.exploration.explore_from.Given as goal

abbrev pub invariant-loop-turn : goal.invariant-loop-turn
invariant-loop-turn g l = record {
  settles : SettlesStarts (prog_view l.prog) g.M.Local.LocalMemory.memory g.M.Local.LocalMemory.actions g.M.SymMemory.stands (entry_view l.spec l.entered) l.bound (nexts_view l.fn.starts) (exploration_view l.exploration);
  placed : ArePlaced (prog_view l.prog) g.M.SymMemory.terms (entry_view l.spec l.entered) (exploration_view l.exploration);
  inside :
      IsContained (prog_view l.prog) (spec_view l.spec) → Each (IsNextInside (prog_view l.prog) (spec_view l.spec)) (nexts_view l.fn.starts)
      → StaysInside (prog_view l.prog) (spec_view l.spec) (exploration_view l.exploration);
  plain :
      g.M.SymMemory.keeps_plain → IsPlainSpec (prog_view l.prog) (spec_view l.spec) → HasPlainTerms (entry_view l.spec l.entered) → Each (IsNextInside (prog_view l.prog) (spec_view l.spec)) (nexts_view l.fn.starts)
      → Each (IsPlainNext g.M.SymMemory.plain (spec_view l.spec)) (nexts_view l.fn.starts)
      → StaysPlain g.M.SymMemory.plain (spec_view l.spec) (exploration_view l.exploration);
  reached :
      AreReached (prog_view l.prog) g.M.Local.LocalMemory.memory g.M.Local.LocalMemory.actions g.M.SymMemory.stands g.M.SymMemory.terms (entry_view l.spec l.entered) l.bound (exploration_view l.exploration);
}
