use Rattle.std.proofs.Common.{◌≡◌, Ok, FitsSigned, ap, ◌∙◌, sym, rules}
use Rattle.std.proofs.lemmas.Int.{to_z-of_z}
use Rattle.std.specs.Int.{w128}
use Rattle.gil_values.specs.Operators.{element, element_at}
use Rattle.gil_values.specs.View.{value_view, values_view}
use Rattle.gil_values.proofs.Rows.{element-List}
use Rattle.gil_values.proofs.apply.sequences.nth.Goals as goal

pub returns-in_ok-copied-in-Some : goal.returns-in_ok-copied-in-Some
returns-in_ok-copied-in-Some c =
    let fits : FitsSigned w128 c.in-List-Int.place = search rules in
    let row : element (value_view c.args.a.now) (value_view c.args.b.now) ≡ Ok (value_view c.in_ok-copied-in-Some.field-0) =
    element-List c.args.a.now c.args.b.now c.in-List-Int.values c.in-List-Int.place c.in-List-Int.is-0 c.in-List-Int.is-1
    ∙ ap (element_at (values_view c.in-List-Int.values)) (sym (to_z-of_z w128 c.in-List-Int.place fits))
    ∙ sym c.in-Some.ensures ∙ ap Ok (sym c.in_ok-copied-in-Some.ensures.same) in
    (row, c.in_ok-copied-in-Some.ensures.held)

pub returns-in-None : goal.returns-in-None
returns-in-None c =
    let fits : FitsSigned w128 c.in-List-Int.place = search rules in
    element-List c.args.a.now c.args.b.now c.in-List-Int.values c.in-List-Int.place c.in-List-Int.is-0 c.in-List-Int.is-1
    ∙ ap (element_at (values_view c.in-List-Int.values)) (sym (to_z-of_z w128 c.in-List-Int.place fits))
    ∙ sym c.in-None.ensures
