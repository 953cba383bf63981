use Rattle.std.proofs.Common.{◌≡◌, ◌++◌, length, map}
use Rattle.std.specs.Option.{option_map}
use Rattle.std.specs.Vec.Iter.{into_iter_len, into_iter_items}
use Rattle.gil_syntax.specs.Program.{prog_view}
use Rattle.gil_syntax.specs.View.{assertion_view}
use Rattle.footprint.specs.View.{matches_view}
use Rattle.checked_paths.specs.View.{checking_view, entry_view, nexts_view, passed_view}
use Rattle.checked_paths.specs.Exactness.{AddsOnly}
use Rattle.sym_model.specs.Lists.{Each}
use Rattle.invariant_rows.specs.Asked.{AsksVisitThere}
use Rattle.invariant_rows.specs.Visiting.{AreExactVisits, AreVisits}
use Rattle.invariant_rows.proofs.visiting.visit_each.Given as goal

abbrev pub invariant-loop-found : goal.invariant-loop-found
invariant-loop-found g l = record {
  counted : into_iter_len l.found-iterator ≡ length (into_iter_items l.found-iterator);
  rest : l.fn.matches ≡ l.yielded ++ into_iter_items l.found-iterator;
  visits : AreVisits (prog_view l.prog) g.M.Local.LocalMemory.memory g.M.Local.LocalMemory.actions g.M.SymMemory.stands g.M.SymMemory.terms (entry_view l.spec l.entered) (checking_view l.checking) l.listed l.declared
      (assertion_view l.items) (option_map (λ q. passed_view q.now) l.former) (map (λ k. k.state) (matches_view l.yielded)) (nexts_view l.nexts);
  exact : AreExactVisits (prog_view l.prog) g.M.Local.LocalMemory.memory g.M.Local.LocalMemory.actions g.M.SymMemory.stands g.M.SymMemory.terms (entry_view l.spec l.entered) (checking_view l.checking) l.listed l.declared
      (assertion_view l.items) (option_map (λ q. passed_view q.now) l.former) l.here (nexts_view l.nexts);
  asked : Each (AddsOnly (AsksVisitThere (entry_view l.spec l.entered) (checking_view l.checking) (prog_view l.prog) l.scope (assertion_view l.items)) (checking_view l.checking)) (nexts_view l.nexts);
}
