use Rattle.std.proofs.Common.{◌≡◌, map}
use Rattle.bi_specifications.specs.View.{founds_view}
use Rattle.gil_report.specs.View.{answer_view}
use Rattle.gillian_core.specs.Inferred.{found_answers}
use Rattle.gillian_core.proofs.inferring.found_answers.Given as goal

abbrev pub invariant-loop-told : goal.invariant-loop-told
invariant-loop-told l = map answer_view l.answers ≡ found_answers (founds_view l.yielded)
