use Rattle.std.proofs.Common.{Ok, ap, subst, ◌∙◌, sym}
use Rattle.gil_values.specs.Answers.{IsHeld}
use Rattle.gil_values.specs.Pure.{list, from_list}
use Rattle.gil_values.proofs.Rows.{appended-List}
use Rattle.gil_values.proofs.Views.{value_view-List}
use Rattle.gil_values.proofs.apply.sequences.append.Goals as goal

pub returns-in_ok-append_lists-in-List-List : goal.returns-in_ok-append_lists-in-List-List
returns-in_ok-append_lists-in-List-List c = (
  appended-List c.args.a.now c.args.b.now c.in-List-List.vs c.in-List-List.ws c.in-List-List.is-0 c.in-List-List.is-1
      ∙ ap (λ vs. Ok (list (from_list vs))) (sym c.in_ok-append_lists-in-List-List.ensures)
      ∙ ap Ok (sym (value_view-List c.in_ok-append_lists-in-List-List.field-0)),
  subst IsHeld (sym (value_view-List c.in_ok-append_lists-in-List-List.field-0)) tt,
)
