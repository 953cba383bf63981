-- The pure data of inference under way.
use Rattle.std.specs.Option.{option_map}
use Rattle.biabduce.specs.declared.inferences.Inference.{Inference}
use Rattle.biabduce.specs.Sound.{PureAsked, PureInference}
use Rattle.bi_beginnings.specs.View.{beginnings_view}
use Rattle.bi_specifications.specs.View.{founds_view}
use Rattle.pure_terms.specs.declared.queries.Query.{Query}
use Rattle.pure_terms.specs.View.{atoms_view}

abbrev pub asked_view : Query → PureAsked
asked_view q = record { place = q.place; choices = q.path; vars = q.vars; given = atoms_view q.given; conds = atoms_view q.query }

abbrev pub inference_view : Inference → PureInference
inference_view i = record {
  left = beginnings_view i.left.items;
  founds = founds_view i.founds;
  undecided = option_map asked_view i.undecided;
}
