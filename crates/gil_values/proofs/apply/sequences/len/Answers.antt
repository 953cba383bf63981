use Rattle.std.proofs.Common.{◌≡◌, Ok, FitsSigned, pos, length, to_z, ap, subst, ◌∙◌, sym, arith}
use Rattle.std.proofs.lemmas.Int.{ints}
use Rattle.std.specs.Int.{w128}
use Rattle.gil_values.specs.Answers.{IsHeld}
use Rattle.gil_values.specs.Pure.{integer}
use Rattle.gil_values.specs.View.{values_view}
use Rattle.gil_values.proofs.Rows.{size-List}
use Rattle.gil_values.proofs.Views.{value_view-Int}
use Rattle.gil_values.proofs.apply.sequences.len.Goals as goal

pub returns-in-List : goal.returns-in-List
returns-in-List c =
    let count : pos (length (values_view c.in-List.values)) ≡ to_z w128 c.len.result = omega (arith, ints) in
    let fits : FitsSigned w128 (to_z w128 c.len.result) = omega (arith, ints) in (
      size-List c.args.a.now c.in-List.values c.in-List.is ∙ ap (λ n. Ok (integer n)) count ∙ ap Ok (sym (value_view-Int (to_z w128 c.len.result))),
      subst IsHeld (sym (value_view-Int (to_z w128 c.len.result))) fits,
    )
