use Rattle.std.proofs.Common.{◌++◌, sym, ap, subst, ◌∙◌}
use Rattle.gil_syntax.specs.View.{pred_use_view}
use Rattle.sym_evaluation.specs.View.{store_view, all_cases_view}
use Rattle.sym_matching.specs.View.{known_view}
use Rattle.footprint.specs.Coming.{AskedComesFrom}
use Rattle.footprint.specs.Uses.{SplitsUse, UseStaysOver, UseStaysPlain, HasAllIns}
use Rattle.footprint.proofs.ChoiceOrigins.{asked_from}
use Rattle.footprint.proofs.PlainUses.{use_plain}
use Rattle.footprint.proofs.UseLaws.{splits_use, use_over, has_all_ins}
use Rattle.footprint.proofs.uses.ask_use.Goals as goal

pub returns-clause-says : goal.returns-clause-says
returns-clause-says c =
    let bs = store_view c.args.store.now in
    let u = pred_use_view c.args.used.now in
    let cases = all_cases_view c.in_ok-ins.ins in
    let known = known_view c.in_ok-known.known in
    let none = c.in_ok-none.ensures ∙ ap (λ x. x ++ known.none) c.in_ok-faults.ensures in
    subst (SplitsUse bs u) (λ i. record { found = sym c.in_ok-found.ensures i; none = sym none i })
    (splits_use bs u cases known c.in_ok-ins.ensures.cases c.in_ok-known.ensures.says)

pub returns-clause-names : goal.returns-clause-names
returns-clause-names c =
    let bs = store_view c.args.store.now in
    let u = pred_use_view c.args.used.now in
    let cases = all_cases_view c.in_ok-ins.ins in
    let known = known_view c.in_ok-known.known in
    let none = c.in_ok-none.ensures ∙ ap (λ x. x ++ known.none) c.in_ok-faults.ensures in
    subst (UseStaysOver bs) (λ i. record { found = sym c.in_ok-found.ensures i; none = sym none i })
    (use_over bs u cases known c.in_ok-ins.ensures.names c.in_ok-known.ensures.names)

pub returns-clause-plain : goal.returns-clause-plain
returns-clause-plain c =
    let bs = store_view c.args.store.now in
    let u = pred_use_view c.args.used.now in
    let cases = all_cases_view c.in_ok-ins.ins in
    let known = known_view c.in_ok-known.known in
    let none = c.in_ok-none.ensures ∙ ap (λ x. x ++ known.none) c.in_ok-faults.ensures in
    subst (UseStaysPlain bs u) (λ i. record { found = sym c.in_ok-found.ensures i; none = sym none i })
    (use_plain c.plain_expressions_ask_nothing.ensures bs u cases known c.requires.ins c.in_ok-ins.ensures.cases c.in_ok-ins.ensures.origin c.in_ok-known.ensures.plain)

pub returns-clause-ins_number : goal.returns-clause-ins_number
returns-clause-ins_number c =
    let bs = store_view c.args.store.now in
    let u = pred_use_view c.args.used.now in
    subst (HasAllIns u) (sym c.in_ok-found.ensures)
    (has_all_ins bs u (all_cases_view c.in_ok-ins.ins) (known_view c.in_ok-known.known) (all_cases_view c.in_ok-ins.ins).good (known_view c.in_ok-known.known).found c.in_ok-ins.ensures.origin.1)

pub returns-clause-origin : goal.returns-clause-origin
returns-clause-origin c =
    let bs = store_view c.args.store.now in
    let u = pred_use_view c.args.used.now in
    let cases = all_cases_view c.in_ok-ins.ins in
    let known = known_view c.in_ok-known.known in
    let none = c.in_ok-none.ensures ∙ ap (λ x. x ++ known.none) c.in_ok-faults.ensures in
    subst (AskedComesFrom bs u) (λ i. record { found = sym c.in_ok-found.ensures i; none = sym none i })
    (asked_from bs u cases known c.in_ok-ins.ensures.origin c.in_ok-known.ensures.origin)
