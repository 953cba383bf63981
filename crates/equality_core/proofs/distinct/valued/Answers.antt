use Rattle.std.proofs.Common.{◌≡◌, ◌<◌, ◌≤◌, ◌^◌, ℕ, List, length, max, map, ◌∙◌, subst, arith}
use Rattle.gil_values.specs.declared.tree.Values.{Values}
use Rattle.gil_values.specs.View.{values_view}
use Rattle.pure_terms.specs.View.{atoms_view}
use Rattle.equality_core.specs.declared.nodes.Node.{Node}
use Rattle.equality_core.specs.Classes.{classes_view, given_list}
use Rattle.equality_core.specs.Nodes.{node_view}
use Rattle.equality_core.specs.Valued.{MeetsApart}
use Rattle.equality_core.specs.Values.{HaveFewLetters, AreValues}
use Rattle.equality_core.proofs.Differing.{meets_apart}
use Rattle.equality_core.proofs.Finding.{ok_then}
use Rattle.equality_core.proofs.distinct.valued.Goals as goal

less_than_either : (k m n l : ℕ) → l ≡ max m n → k ≤ m → k ≤ l
less_than_either k m n l e h = omega (arith, e, h)

or_other : (k m n l : ℕ) → l ≡ max m n → k ≤ n → k ≤ l
or_other k m n l e h = omega (arith, e, h)

pub values_of-requires : goal.values_of-requires
values_of-requires c = record {
  classed = record { taken = c.requires.taken; forms = c.requires.fragment.forms; clear = c.requires.clear; rooted = c.as_slice.ensures.value ∙ c.in_ok-roots.ensures };
  numbers = c.requires.numbers;
  long = λ i n at. less_than_either _ c.longest_of_nodes.result c.longest_of_sides.result c.max-long.result c.max-long.ensures (few i n at);
  one_each = c.requires.kinds.one_each;
} where
  few : HaveFewLetters c.longest_of_nodes.result (classes_view c.args.classes.now).nodes
  few = subst (λ (ns : List Node). HaveFewLetters c.longest_of_nodes.result (map node_view ns)) c.as_slice-nodes.ensures.value c.longest_of_nodes.ensures

pub returns : goal.returns
returns c =
    let small : length c.args.vars.now < 2 ^ 64 = omega (arith, c.len-count.type_inv, c.len-count.ensures) in
    ok_then c.values_of.result (λ (v : Values). AreValues c.args.vars.now (given_list (classes_view c.args.classes.now)) (values_view c.args.numbers.now) c.args.kinds.now c.max-long.result (values_view v))
    (λ (v : Values). MeetsApart c.args.vars.now (given_list (classes_view c.args.classes.now)) (values_view c.args.numbers.now) c.args.kinds.now (atoms_view c.args.apart.now) (values_view v))
    (λ v are. meets_apart c.args.vars.now (given_list (classes_view c.args.classes.now)) (values_view c.args.numbers.now) c.args.kinds.now c.max-long.result c.requires.clear c.requires.numbers c.requires.kinds (values_view v) are c.requires.fragment small
    (atoms_view c.args.apart.now) c.requires.apart (λ i a at. or_other _ c.longest_of_nodes.result c.longest_of_sides.result c.max-long.result c.max-long.ensures (c.longest_of_sides.ensures i a at))) c.values_of.ensures
