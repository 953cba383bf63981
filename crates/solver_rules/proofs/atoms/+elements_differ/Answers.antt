use Rattle.std.proofs.Common.{⊎_elim, ◌-◌, ◌∷◌, List, drop, take, length, map, refl, sym, ◌∙◌, subst}
use Rattle.std.proofs.lemmas.Bool.{false≢true}
use Rattle.pure_terms.specs.declared.terms.Term.{Term}
use Rattle.pure_terms.specs.Pure.{from_list}
use Rattle.pure_terms.specs.View.{term_view, atoms_view}
use Rattle.solver_rules.specs.Rules.{ElementsDiffer}
use Rattle.solver_rules.proofs.Found.{elements_first, elements_rest, elements_cases, split_first}
use Rattle.solver_rules.proofs.atoms.+elements_differ.Goals as goal

pub returns-then-says_different : goal.returns-then-says_different
returns-then-says_different t c = (
  λ _.
      subst (λ (xs : List Term). ElementsDiffer (atoms_view c.args.list.now) (from_list (map term_view xs)) (from_list (map term_view c.args.right.now))) (sym (split_first c.args.left.now c.first-item.result c.in-len1-up.len_at_least c.first-item.is))
      (subst (λ (ys : List Term). ElementsDiffer (atoms_view c.args.list.now) (from_list (map term_view (c.first-item.result ∷ take (length c.args.left.now - 1) (drop 1 c.args.left.now)))) (from_list (map term_view ys))) (sym (split_first c.args.right.now c.second-item.result c.in-len1-up-right.len_at_least c.second-item.is))
      (elements_first (atoms_view c.args.list.now) (term_view c.first-item.result) (term_view c.second-item.result) (from_list (map term_view (take (length c.args.left.now - 1) (drop 1 c.args.left.now)))) (from_list (map term_view (take (length c.args.right.now - 1) (drop 1 c.args.right.now)))) (c.says_different.ensures.0 c.if-says_different.true))),
  λ _. refl,
)

pub returns-else-says_different : goal.returns-else-says_different
returns-else-says_different t c =
    let left = from_list (map term_view (take (length c.args.left.now - 1) (drop 1 c.args.left.now))) in
    let right = from_list (map term_view (take (length c.args.right.now - 1) (drop 1 c.args.right.now))) in (
      λ is.
          subst (λ (xs : List Term). ElementsDiffer (atoms_view c.args.list.now) (from_list (map term_view xs)) (from_list (map term_view c.args.right.now))) (sym (split_first c.args.left.now c.first-item.result c.in-len1-up.len_at_least c.first-item.is))
          (subst (λ (ys : List Term). ElementsDiffer (atoms_view c.args.list.now) (from_list (map term_view (c.first-item.result ∷ take (length c.args.left.now - 1) (drop 1 c.args.left.now)))) (from_list (map term_view ys))) (sym (split_first c.args.right.now c.second-item.result c.in-len1-up-right.len_at_least c.second-item.is))
          (elements_rest (atoms_view c.args.list.now) (term_view c.first-item.result) (term_view c.second-item.result) left right (c.elements_differ.ensures.0 is))),
      λ differ.
          ⊎_elim (λ first. absurd (false≢true (sym c.if-says_different.false ∙ c.says_different.ensures.1 first))) (λ rest. c.elements_differ.ensures.1 rest)
          (elements_cases (atoms_view c.args.list.now) (term_view c.first-item.result) (term_view c.second-item.result) left right
          (subst (λ (ys : List Term). ElementsDiffer (atoms_view c.args.list.now) (from_list (map term_view (c.first-item.result ∷ take (length c.args.left.now - 1) (drop 1 c.args.left.now)))) (from_list (map term_view ys))) (split_first c.args.right.now c.second-item.result c.in-len1-up-right.len_at_least c.second-item.is)
          (subst (λ (xs : List Term). ElementsDiffer (atoms_view c.args.list.now) (from_list (map term_view xs)) (from_list (map term_view c.args.right.now))) (split_first c.args.left.now c.first-item.result c.in-len1-up.len_at_least c.first-item.is) differ))),
    )
