use Rattle.std.proofs.Common.{◌≡◌, ◌*◌, ◌+◌, take, map}
use Rattle.gil_values.specs.Pure.{value_size, values_size, from_list}
use Rattle.gil_values.specs.View.{value_view, values_view}
use Rattle.pure_terms.specs.Renaming.{renamed}
use Rattle.sym_witness.specs.Numbering.{place_in}
use Rattle.sym_witness.proofs.renaming.+rename.Given as goal

abbrev pub decreases-rename : goal.decreases-rename
decreases-rename l = 2 * value_size (value_view l.value.now)

abbrev pub decreases-rename_all : goal.decreases-rename_all
decreases-rename_all l = 2 * values_size (from_list (values_view l.values.now)) + 1

abbrev pub invariant-rename_all-loop-value : goal.invariant-rename_all-loop-value
invariant-rename_all-loop-value l = values_view l.renamed ≡ map (renamed (place_in l.names)) (take l.value-index (values_view l.values))
