use Rattle.std.proofs.Common.{take}
use Rattle.pure_terms.specs.View.{terms_view}
use Rattle.sym_model.specs.Alternatives.{alternatives_view}
use Rattle.sym_matching.specs.View.{outs_view}
use Rattle.sym_states.specs.View.{facts_view}
use Rattle.footprint.specs.Choosing.{ChoosesFact, ChoiceStaysOver}
use Rattle.footprint.specs.Coming.{ChoiceComesFrom}
use Rattle.footprint.specs.View.{fact_cases_view}
use Rattle.footprint.proofs.choosing.choose_fact.Given as goal

abbrev pub invariant-loop-place : goal.invariant-loop-place
invariant-loop-place l =
    ChoosesFact (facts_view (take l.place l.items)) l.pred (terms_view l.ins) (outs_view l.known) (record { found = fact_cases_view l.found; none = alternatives_view l.none })
    × ChoiceStaysOver (facts_view (take l.place l.items)) (terms_view l.ins) (outs_view l.known) (record { found = fact_cases_view l.found; none = alternatives_view l.none })
    × ChoiceComesFrom (facts_view (take l.place l.items)) l.pred (terms_view l.ins) (outs_view l.known) (record { found = fact_cases_view l.found; none = alternatives_view l.none })
