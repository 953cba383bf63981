use Rattle.std.proofs.Common.{◌≡◌, ◌++◌, Some, take}
use Rattle.pure_terms.specs.View.{atoms_view}
use Rattle.sym_model.specs.Alternatives.{alternatives_view}
use Rattle.footprint.specs.Choosing.{placed_cases}
use Rattle.footprint.specs.View.{fact_cases_view}
use Rattle.footprint.proofs.choosing.add_placed.Given as goal

abbrev pub invariant-loop-more : goal.invariant-loop-more
invariant-loop-more l = fact_cases_view l.cases ≡ fact_cases_view l.fn.cases ++ placed_cases (alternatives_view (take l.more-index l.more-items)) (Some (atoms_view l.fits)) l.place
