use Rattle.std.proofs.Common.{◌≡◌, [], ◌∷◌, ◌++◌, sym, ap, ◌∙◌, subst, rules}
use Rattle.pure_terms.specs.Pure.{from_list}
use Rattle.pure_terms.specs.View.{terms_view}
use Rattle.solver_proof.specs.Closing.{element_equalities}
use Rattle.solver_proof.specs.Lists.{fact_view, list_view, FindsAt}
use Rattle.solver_proof.specs.declared.lists.AtomList.{the_lemmas}
use Rattle.solver_proof.proofs.lists.+find.Goals as goal

pub returns-in-More : goal.returns-in-More
returns-in-More t c =
    let from : list_view c.args.list.now ≡ list_view c.in-More.rest.now ++ fact_view c.in-More.fact ∷ [] = ap list_view c.in-More.is ∙ search (rules, the_lemmas) in
    subst (λ xs. FindsAt xs c.args.place c.or_one.result) (sym from) (c.or_one.ensures (list_view c.in-More.rest.now) c.args.place c.find.ensures)

pub returns-in-Parts : goal.returns-in-Parts
returns-in-Parts t c =
    let from : list_view c.args.list.now ≡ list_view c.in-Parts.rest.now ++ element_equalities (from_list (terms_view c.in-Parts.left.now)) (from_list (terms_view c.in-Parts.right.now)) = ap list_view c.in-Parts.is ∙ search (rules, the_lemmas) in
    subst (λ xs. FindsAt xs c.args.place c.or_part.result) (sym from) (c.or_part.ensures (list_view c.in-Parts.rest.now) c.args.place c.find-in-Parts.ensures)
