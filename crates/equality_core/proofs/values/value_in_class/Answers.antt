use Rattle.std.proofs.Common.{◌≡◌, List, length, map, Some, slice_get, sym, ap, ◌∙◌, subst}
use Rattle.gil_values.specs.declared.tree.Value.{Value}
use Rattle.gil_values.specs.View.{value_view, values_view}
use Rattle.pure_terms.specs.declared.variables.Sort.{Sort}
use Rattle.pure_terms.specs.Meaning.{literal_value}
use Rattle.equality_core.specs.declared.nodes.Node.{Node}
use Rattle.equality_core.specs.Classes.{classes_view, given_list}
use Rattle.equality_core.specs.Nodes.{node_view}
use Rattle.equality_core.specs.Values.{new_value, IsValueOf, IsIntWith, HasNoIntWith, IsLiteralIn, HasNoLiteralIn}
use Rattle.equality_core.proofs.Classing.{by_literal, by_number, by_new, rooted_length, in_roots, has_number}
use Rattle.equality_core.proofs.Finding.{ok_then}
use Rattle.equality_core.proofs.values.value_in_class.Goals as goal

pub returns-in-Some : goal.returns-in-Some
returns-in-Some c =
    let is : IsLiteralIn (classes_view c.args.classes.now).nodes c.args.root c.in-Some.literal.now = subst (λ (ns : List Node). IsLiteralIn (map node_view ns) c.args.root c.in-Some.literal.now) c.as_slice.ensures.value c.in-Some.ensures.found in
    ok_then c.value.result (λ (w : Value). value_view w ≡ literal_value c.in-Some.literal.now)
    (λ (w : Value). IsValueOf c.args.vars.now (given_list (classes_view c.args.classes.now)) (values_view c.args.numbers.now) c.args.kinds.now c.args.long c.args.x (value_view w))
    (λ w same. by_literal c.args.vars.now (classes_view c.args.classes.now) c.args.roots.now c.requires.classed (values_view c.args.numbers.now) c.args.kinds.now c.args.long c.args.x c.requires.there
    c.args.root c.in-Some.literal.now (value_view w) c.requires.has c.requires.long is same) c.value.ensures

pub int_with-requires : goal.int_with-requires
int_with-requires c = rooted_length c.args.vars.now (classes_view c.args.classes.now) c.args.roots.now c.requires.classed ∙ ap length (sym c.as_slice-2.ensures)

pub first_with-requires : goal.first_with-requires
first_with-requires c = in_roots c.args.vars.now (classes_view c.args.classes.now) c.args.roots.now c.args.x c.requires.classed c.requires.there

pub value_at-requires : goal.value_at-requires
value_at-requires c =
    let is : IsIntWith c.args.vars.now c.args.roots.now c.args.root c.in-Some-int_with.other = subst (λ (ss : List Sort). IsIntWith ss c.args.roots.now c.args.root c.in-Some-int_with.other) c.as_slice-2.ensures c.in-Some-int_with.ensures.found in
    has_number c.args.vars.now (given_list (classes_view c.args.classes.now)) (values_view c.args.numbers.now) c.in-Some-int_with.other c.requires.numbers is.whole

pub returns-in-Some-int_with : goal.returns-in-Some-int_with
returns-in-Some-int_with c =
    let none : HasNoLiteralIn (classes_view c.args.classes.now).nodes c.args.root = subst (λ (ns : List Node). HasNoLiteralIn (map node_view ns) c.args.root) c.as_slice.ensures.value c.in_default.ensures.none in
    let is : IsIntWith c.args.vars.now c.args.roots.now c.args.root c.in-Some-int_with.other = subst (λ (ss : List Sort). IsIntWith ss c.args.roots.now c.args.root c.in-Some-int_with.other) c.as_slice-2.ensures c.in-Some-int_with.ensures.found in
    ok_then c.value_at.result (λ (w : Value). slice_get (values_view c.args.numbers.now) c.in-Some-int_with.other ≡ Some (value_view w))
    (λ (w : Value). IsValueOf c.args.vars.now (given_list (classes_view c.args.classes.now)) (values_view c.args.numbers.now) c.args.kinds.now c.args.long c.args.x (value_view w))
    (λ w at. by_number c.args.vars.now (classes_view c.args.classes.now) c.args.roots.now c.requires.classed (values_view c.args.numbers.now) c.args.kinds.now c.args.long c.args.x c.requires.there
    c.args.root c.in-Some-int_with.other (value_view w) c.requires.has none is at) c.value_at.ensures

pub returns-in-None : goal.returns-in-None
returns-in-None c =
    let none : HasNoLiteralIn (classes_view c.args.classes.now).nodes c.args.root = subst (λ (ns : List Node). HasNoLiteralIn (map node_view ns) c.args.root) c.as_slice.ensures.value c.in_default.ensures.none in
    let no_whole : HasNoIntWith c.args.vars.now c.args.roots.now c.args.root = subst (λ (ss : List Sort). HasNoIntWith ss c.args.roots.now c.args.root) c.as_slice-2.ensures c.in-None.ensures.none in
    ok_then c.new_value.result (λ (w : Value). value_view w ≡ new_value c.args.long c.args.kind c.first_with.result)
    (λ (w : Value). IsValueOf c.args.vars.now (given_list (classes_view c.args.classes.now)) (values_view c.args.numbers.now) c.args.kinds.now c.args.long c.args.x (value_view w))
    (λ w same. by_new c.args.vars.now (classes_view c.args.classes.now) c.args.roots.now c.requires.classed (values_view c.args.numbers.now) c.args.kinds.now c.args.long c.args.x c.requires.there
    c.args.root c.first_with.result c.args.kind (value_view w) c.requires.has none no_whole c.first_with.ensures c.requires.kind same) c.new_value.ensures
