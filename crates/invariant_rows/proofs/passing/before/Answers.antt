use Rattle.std.proofs.Common.{◌≡◌, [], ◌∷◌, ◌++◌, sym, ap, subst, ◌∙◌}
use Rattle.sym_states.proofs.Values.{ok_to}
use Rattle.checked_paths.specs.Meaning.{SaySame}
use Rattle.checked_paths.specs.View.{all_passed_view, passed_view}
use Rattle.invariant_rows.proofs.PassedLaws.{before_says}
use Rattle.invariant_rows.proofs.passing.before.Goals as goal

pub returns : goal.returns
returns g c =
    let stands = g.M.SymMemory.stands in
    let terms = g.M.SymMemory.terms in
    let one = passed_view c.args.one in
    let copied = all_passed_view c.in_ok-copy_all.field-0 in
    let firsts : all_passed_view c.first.inside.items.items ++ copied ≡ one ∷ copied =
    ap (λ ps. all_passed_view ps ++ copied) (c.first.view_is ∙ (c.in_ok-push.ensures.ok ∙ ap (λ ps. ps ++ c.args.one ∷ []) c.new-first.ensures)) in
    ok_to c.joined.result (λ qs. all_passed_view qs ≡ all_passed_view c.first.inside.items.items ++ copied) (λ qs. SaySame stands terms (one ∷ all_passed_view c.args.others.now) (all_passed_view qs))
    (λ qs is. subst (SaySame stands terms (one ∷ all_passed_view c.args.others.now)) (sym (is ∙ firsts)) (before_says stands terms one (all_passed_view c.args.others.now) copied c.in_ok-copy_all.ensures)) c.joined.ensures
