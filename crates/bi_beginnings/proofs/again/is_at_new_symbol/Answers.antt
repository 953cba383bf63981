use Rattle.std.proofs.Common.{◌≡◌, Some, refl, sym, ap, ◌∙◌}
use Rattle.std.specs.List.{slice_get}
use Rattle.pure_terms.specs.declared.variables.Sort.{Sort}
use Rattle.pure_terms.specs.declared.variables.Var.{Var}
use Rattle.pure_terms.specs.Pure.{variable}
use Rattle.pure_terms.specs.View.{term_view, terms_view}
use Rattle.bi_beginnings.proofs.Tables.{variable_seen, first_element}
use Rattle.bi_beginnings.proofs.again.is_at_new_symbol.Goals as goal

pub returns-in-Some-Fresh : goal.returns-in-Some-Fresh
returns-in-Some-Fresh c = (
  λ fresh.
      let x : Var = c.in-Some-Var.location in
      let at : slice_get (terms_view c.args.fix.now.ins) 0 ≡ Some (variable x) = sym c.in-Some-Var.ensures ∙ ap (λ t. Some (term_view t)) c.in-Some-Var.field-0-is ∙ ap Some (variable_seen x) in
      let in_table : slice_get c.args.vars.now x.number ≡ Some Sort.Fresh =
      ap (λ (y : Var). slice_get c.args.vars.now y.number) (sym c.in-Some-Var.location-is) ∙ sym c.in-Some-Fresh.ensures ∙ ap Some c.in-Some-Fresh.field-0-is
      in
      let (later, is) = first_element (terms_view c.args.fix.now.ins) (variable x) at in
      (x, (later, (is, in_table))),
  λ at. refl,
)
