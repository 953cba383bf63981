use Rattle.std.proofs.Common.{◌≡◌, Some, slice_get}
use Rattle.gil_values.specs.declared.tree.Value.{Value}
use Rattle.gil_values.specs.View.{value_view, values_view}
use Rattle.pure_terms.specs.declared.variables.Sort.{Sort}
use Rattle.equality_core.specs.Classes.{classes_view, given_list}
use Rattle.equality_core.specs.Values.{new_value, IsValueOf}
use Rattle.equality_core.proofs.Classing.{alone_number, alone_new}
use Rattle.equality_core.proofs.Finding.{ok_then}
use Rattle.equality_core.proofs.values.value_alone.Goals as goal

pub returns-in-Int : goal.returns-in-Int
returns-in-Int c =
    let whole : c.args.x.sort ≡ Sort.Int = c.in-Int.is in
    ok_then c.value_at.result (λ (w : Value). slice_get (values_view c.args.numbers.now) c.args.x.number ≡ Some (value_view w))
    (λ (w : Value). IsValueOf c.args.vars.now (given_list (classes_view c.args.classes.now)) (values_view c.args.numbers.now) c.args.kinds.now c.args.long c.args.x (value_view w))
    (λ w at. alone_number c.args.vars.now (classes_view c.args.classes.now) c.args.roots.now c.requires.classed (values_view c.args.numbers.now) c.args.kinds.now c.args.long c.args.x c.requires.there (value_view w) c.requires.none whole at) c.value_at.ensures

pub returns-in_default : goal.returns-in_default
returns-in_default c =
    ok_then c.new_value.result (λ (w : Value). value_view w ≡ new_value c.args.long c.args.kind c.args.x.number)
    (λ (w : Value). IsValueOf c.args.vars.now (given_list (classes_view c.args.classes.now)) (values_view c.args.numbers.now) c.args.kinds.now c.args.long c.args.x (value_view w))
    (λ w same. alone_new c.args.vars.now (classes_view c.args.classes.now) c.args.roots.now c.requires.classed (values_view c.args.numbers.now) c.args.kinds.now c.args.long c.args.x c.requires.there c.args.kind (value_view w) c.requires.none c.in_default.not-Int c.requires.kind same) c.new_value.ensures
