use Rattle.std.proofs.Common.{Some, sym, ap, ◌∙◌, arith}
use Rattle.gil_values.proofs.Lists.{slice_get-read}
use Rattle.sym_states.specs.View.{fact_view}
use Rattle.invariant_rows.proofs.comparing.has_same_fact.Goals as goal

pub returns-in-Some-get : goal.returns-in-Some-get
returns-in-Some-get c = λ h.
    let first = c.in-Some.first.now in
    let second = c.in-Some-get.second.now in (
      fact_view first,
      (
        slice_get-read fact_view c.args.left.now c.args.place first (omega (arith, c.in-Some.ensures.lookup)) c.in-Some.ensures.lookup.1,
        slice_get-read fact_view c.args.right.now c.args.place second (omega (arith, c.in-Some-get.ensures.lookup)) c.in-Some-get.ensures.lookup.1 ∙ ap Some (sym (c.is_same_fact.ensures h)),
      ),
    )
