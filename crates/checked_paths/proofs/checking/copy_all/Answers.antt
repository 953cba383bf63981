use Rattle.std.proofs.Common.{[], ◌∷◌, ◌++◌, take, sym, ap, subst, ◌∙◌, arith}
use Rattle.std.proofs.lemmas.List.{map-append}
use Rattle.gil_syntax.proofs.NameLemmas.{map-take_read}
use Rattle.checked_paths.specs.Meaning.{SaySame}
use Rattle.checked_paths.specs.View.{all_passed_view, passed_view}
use Rattle.checked_paths.proofs.Copies.{copy_says, says_pushed}
use Rattle.checked_paths.proofs.checking.copy_all.Goals as goal

pub loop-passed-preserved : goal.loop-passed-preserved
loop-passed-preserved g c =
    let M = g.M.SymMemory in
    let q = c.in_ok-copy.field-0 in
    let items = c.as_slice-passed-items.result.now in
    let before = take c.loop-passed.passed-index items in
    let more = map-take_read passed_view items c.loop-passed.passed-index c.passed-item.result (omega arith) c.passed-item.is in
    let pushed = ap all_passed_view c.in_ok-push.ensures.ok ∙ map-append passed_view c.loop-passed.copied (q ∷ []) in
    subst (λ ps. SaySame M.stands M.terms ps (all_passed_view c.push.new.self)) (sym more)
    (subst (SaySame M.stands M.terms (all_passed_view before ++ passed_view c.passed-item.result ∷ [])) (sym pushed)
    (says_pushed M.stands M.terms (all_passed_view before) (all_passed_view c.loop-passed.copied) (passed_view c.passed-item.result) (passed_view q) c.loop-passed.invariant
    (copy_says M.stands M.terms M.depends M.plain (passed_view c.passed-item.result) (passed_view q) c.in_ok-copy.ensures.passed c.in_ok-copy.ensures.memory)))
