use Rattle.std.proofs.Common.{◌≡◌, map, take}
use Rattle.pure_terms.specs.View.{term_view, terms_view}
use Rattle.report_causes.proofs.values.copy_terms.Given as goal

abbrev pub invariant-loop-term : goal.invariant-loop-term
invariant-loop-term l = terms_view l.copied ≡ map term_view (take l.term-index l.term-items)
