use Rattle.std.proofs.Common.{◌≡◌, true, ◌&&◌, map, ap, sym, ◌∙◌}
use Rattle.pure_terms.specs.Equality.{same_term, same_terms}
use Rattle.pure_terms.specs.Pure.{from_list}
use Rattle.term_table.proofs.NodeLaws.{same_parts}
use Rattle.term_table.specs.Nodes.{part_code, root_code}
use Rattle.term_table.proofs.nodes.NodePartialEq.eq.Goals as goal

-- src/nodes.rt:96:5
pub returns-then-are_same_roots : goal.returns-then-are_same_roots
returns-then-are_same_roots c =
    let ps = c.args.self.now.parts.items in
    let qs = c.args.other.now.parts.items in
    let roots : same_term (root_code c.args.self.now.root) (root_code c.args.other.now.root) ≡ true = sym c.are_same_roots.ensures ∙ c.if-are_same_roots.true in
    (c.eq.ensures ∙ same_parts ps qs) ∙ ap (λ b. b && same_terms (from_list (map part_code ps)) (from_list (map part_code qs))) (sym roots)
