use Rattle.std.proofs.Common.{◌≡◌, List, map, slice_get, sym, ap, ◌∙◌, subst, rules}
use Rattle.pure_terms.specs.Pure.{PureAtom}
use Rattle.solver_proof.specs.declared.proofs.Proof
use Rattle.solver_proof.specs.declared.proofs.Proof.{the_lemmas}
use Rattle.solver_proof.specs.Closing.{Closes}
use Rattle.solver_proof.specs.Pure.{sum_of}
use Rattle.solver_proof.specs.Sums.{SumCloses}
use Rattle.solver_proof.specs.View.{proof_view}
use Rattle.linear_core.specs.declared.answers.Linear.{Linear}
use Rattle.linear_core.specs.declared.rows.Row.{Row}
use Rattle.linear_core.specs.Answers.{linear_view, IsRight}
use Rattle.linear_core.specs.Combining.{IsCombination}
use Rattle.linear_core.specs.Rows.{AreOver}
use Rattle.equality_core.specs.Classes.{classes_view, given_list}
use Rattle.solver_rules.specs.Laws.{at_atom}
use Rattle.solver_rules.specs.Rows.{rows_from, places_from}
use Rattle.solver_rules.proofs.Opened.{plain_there}
use Rattle.solver_rules.proofs.RowsFit.{rows_over, rows_narrow}
use Rattle.solver_rules.proofs.Settled.{combinations_close}
use Rattle.solver_next.proofs.Settling.{never_beyond}
use Rattle.solver_next.proofs.numbers.numbers_of.Goals as goal

pub rows_of-requires : goal.rows_of-requires
rows_of-requires c = λ i a at. (plain_there c.args.vars.now (given_list (classes_view c.args.classes.now)) (classes_view c.args.classes.now) c.requires.node i a (ap (λ l. slice_get l i) (sym c.list.ensures) ∙ at)).literals

pub linear-requires : goal.linear-requires
linear-requires c =
    subst (AreOver c.args.vars.now) (sym (c.in_ok-rows.ensures.rows ∙ ap rows_from c.list.ensures))
    (rows_over c.args.vars.now (classes_view c.args.classes.now).list (plain_there c.args.vars.now (given_list (classes_view c.args.classes.now)) (classes_view c.args.classes.now) c.requires.node))

pub returns-in-Combination : goal.returns-in-Combination
returns-in-Combination c =
    let list : List PureAtom = (classes_view c.args.classes.now).list in
    let rows : c.in_ok-rows.field-0.rows ≡ rows_from list = c.in_ok-rows.ensures.rows ∙ ap rows_from c.list.ensures in
    let places : c.as_slice.result.now ≡ places_from 0 list = c.as_slice.ensures.value ∙ c.in_ok-rows.ensures.places ∙ ap (places_from 0) c.list.ensures in
    let right : IsRight c.args.vars.now c.in_ok-rows.field-0.rows (linear_view (Linear.Combination c.in-Combination.factors)) = subst (λ (l : Linear). IsRight c.args.vars.now c.in_ok-rows.field-0.rows (linear_view l)) c.in-Combination.is c.in_ok-numbers.ensures in
    let combination : IsCombination (rows_from list) c.in-Combination.factors = subst (λ (rs : List Row). IsCombination rs c.in-Combination.factors) rows right in
    let closes : SumCloses list (map (at_atom (places_from 0 list)) c.in-Combination.factors) =
    combinations_close c.args.vars.now list c.in-Combination.factors (plain_there c.args.vars.now (given_list (classes_view c.args.classes.now)) (classes_view c.args.classes.now) c.requires.node) combination in
    let fs : c.in_ok-at_atoms-in-Combination.field-0 ≡ map (at_atom (places_from 0 list)) c.in-Combination.factors = c.in_ok-at_atoms-in-Combination.ensures ∙ ap (λ ps. map (at_atom ps) c.in-Combination.factors) places in
    let view : proof_view (Proof.Sum c.in_ok-at_atoms-in-Combination.field-0) ≡ sum_of c.in_ok-at_atoms-in-Combination.field-0 = search (rules, the_lemmas) in
    c.in_ok-proof_of_given-in-Combination.ensures c.args.vars.now
    (subst (Closes c.args.vars.now list) (sym (view ∙ ap sum_of fs)) closes)

pub unreachable-requires : goal.unreachable-requires
unreachable-requires c =
    let list : List PureAtom = (classes_view c.args.classes.now).list in
    let rows : c.in_ok-rows.field-0.rows ≡ rows_from list = c.in_ok-rows.ensures.rows ∙ ap rows_from c.list.ensures in
    let right : IsRight c.args.vars.now c.in_ok-rows.field-0.rows (linear_view (Linear.Beyond c.in-Beyond.field-0)) = subst (λ (l : Linear). IsRight c.args.vars.now c.in_ok-rows.field-0.rows (linear_view l)) c.in-Beyond.is c.in_ok-numbers.ensures in
    never_beyond (rows_from list) c.in-Beyond.field-0 (rows_narrow c.args.vars.now list (plain_there c.args.vars.now (given_list (classes_view c.args.classes.now)) (classes_view c.args.classes.now) c.requires.node))
    (subst (λ (rs : List Row). IsRight c.args.vars.now rs (linear_view (Linear.Beyond c.in-Beyond.field-0))) rows right)
