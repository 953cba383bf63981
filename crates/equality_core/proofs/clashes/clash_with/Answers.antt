use Rattle.std.proofs.Common.{◌≡◌, ⊎_elim, ℕ, ◌<◌, length, map, None, slice_get, sym, ap, ◌∙◌, arith}
use Rattle.std.proofs.lemmas.Bool.{cases_eq}
use Rattle.std.proofs.lemmas.Option.{slice_get_within, same_Some}
use Rattle.equality_core.specs.Nodes.{node_view, clash_end}
use Rattle.equality_core.proofs.Finding.{view_at, less_items}
use Rattle.equality_core.proofs.clashes.clash_with.Goals as goal

pub returns-in-Some-clause-found : goal.returns-in-Some-clause-found
returns-in-Some-clause-found c =
    record {
      first = node_view c.args.node.now;
      second = node_view c.index-nodes-second.result;
      at_first = c.requires;
      at_second = view_at c.args.nodes.now c.loop-second.second c.index-nodes-second.result c.loop-second-test.true c.index-nodes-second.is;
      clashes = sym c.clash_end.ensures ∙ c.in-Some.is;
    }

pub loop-second-preserved : goal.loop-second-preserved
loop-second-preserved c i n below at = ⊎_elim last earlier (cases_eq i c.loop-second.second) where
  last : i ≡ c.loop-second.second → clash_end (node_view c.args.node.now) n ≡ None
  last e =
      let here = view_at c.args.nodes.now c.loop-second.second c.index-nodes-second.result c.loop-second-test.true c.index-nodes-second.is in
      let which : node_view c.index-nodes-second.result ≡ n = same_Some (node_view c.index-nodes-second.result) n (sym here ∙ ap (slice_get (map node_view c.args.nodes.now)) (sym e) ∙ at) in
      ap (clash_end (node_view c.args.node.now)) (sym which) ∙ sym c.in_default.ensures

  earlier : (i ≡ c.loop-second.second → ⊥) → clash_end (node_view c.args.node.now) n ≡ None
  earlier other = c.loop-second.invariant i n (omega (arith, below, other)) at

pub returns-clause-none : goal.returns-clause-none
returns-clause-none c = λ i n at. c.loop-second.invariant i n (within i (less_items c.args.nodes.now i (slice_get_within (map node_view c.args.nodes.now) i n at))) at where
  within : (i : ℕ) → i < length c.args.nodes.now → i < c.loop-second.second
  within i h = omega (arith, h)
