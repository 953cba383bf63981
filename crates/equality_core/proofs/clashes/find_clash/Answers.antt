use Rattle.std.proofs.Common.{◌≡◌, ⊎_elim, ℕ, ◌<◌, length, map, slice_get, sym, ap, ◌∙◌, subst, arith}
use Rattle.std.proofs.lemmas.Bool.{cases_eq}
use Rattle.std.proofs.lemmas.Option.{slice_get_within, same_Some}
use Rattle.equality_core.specs.Nodes.{node_view, ClashesWithNone}
use Rattle.equality_core.proofs.Finding.{view_at, less_items}
use Rattle.equality_core.proofs.clashes.find_clash.Goals as goal

pub loop-first-preserved : goal.loop-first-preserved
loop-first-preserved c i n below at = ⊎_elim last earlier (cases_eq i c.loop-first.first) where
  last : i ≡ c.loop-first.first → ClashesWithNone n (map node_view c.args.nodes.now)
  last e =
      let here = view_at c.args.nodes.now c.loop-first.first c.index-nodes-first.result c.loop-first-test.true c.index-nodes-first.is in
      let which : node_view c.index-nodes-first.result ≡ n = same_Some (node_view c.index-nodes-first.result) n (sym here ∙ ap (slice_get (map node_view c.args.nodes.now)) (sym e) ∙ at) in
      subst (λ m. ClashesWithNone m (map node_view c.args.nodes.now)) which c.in_default.ensures.none

  earlier : (i ≡ c.loop-first.first → ⊥) → ClashesWithNone n (map node_view c.args.nodes.now)
  earlier other = c.loop-first.invariant i n (omega (arith, below, other)) at

pub returns-clause-none : goal.returns-clause-none
returns-clause-none c = λ i n at. c.loop-first.invariant i n (within i (less_items c.args.nodes.now i (slice_get_within (map node_view c.args.nodes.now) i n at))) at where
  within : (i : ℕ) → i < length c.args.nodes.now → i < c.loop-first.first
  within i h = omega (arith, h)
