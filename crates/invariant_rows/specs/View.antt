-- The pure data of differences.
use Rattle.std.specs.Option.{option_map}
use Rattle.pure_terms.specs.View.{term_view}
use Rattle.sym_model.specs.Alternatives.{alternatives_view}
use Rattle.invariant_rows.specs.declared.differing.Difference.{Difference}
use Rattle.invariant_rows.specs.Differing.{PureDifference}

abbrev pub difference_view : Difference → PureDifference
difference_view d = record { alternatives = alternatives_view d.alternatives; unclear = option_map term_view d.unclear }
