use Rattle.std.proofs.Common.{◌≡◌, inl, inr, [], ◌∷◌, map, refl, sym, ap, subst, ◌∙◌}
use Rattle.std.proofs.lemmas.List.{map-append}
use Rattle.sym_model.specs.Lists.{OneOf}
use Rattle.sym_model.proofs.ListLaws.{one_right}
use Rattle.footprint.specs.Answers.{AnswersTold}
use Rattle.footprint.specs.Pure.{unknown}
use Rattle.footprint.specs.View.{undecided_view, matches_view, told_view}
use Rattle.footprint.proofs.answering.answer_told.Goals as goal

pub returns-in-Some : goal.returns-in-Some
returns-in-Some g c =
    let u = undecided_view c.in-Some.field-0 in
    let seen = ap (map undecided_view) c.in-Some.ensures ∙ map-append undecided_view c.pop.new.self (c.in-Some.field-0 ∷ []) in
    subst (λ t. AnswersTold t (matches_view c.args.matched) (map undecided_view c.args.undecided) (unknown u.conds u.reason)) (sym (ap told_view c.in-Never.is))
    (inr (subst (OneOf (λ w. unknown u.conds u.reason ≡ unknown w.conds w.reason)) (sym seen) (one_right (λ w. unknown u.conds u.reason ≡ unknown w.conds w.reason) (map undecided_view c.pop.new.self) (u ∷ []) (inl refl))))
