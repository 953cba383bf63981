use Rattle.std.proofs.Common.{◌≡◌, ◌+◌, [], ◌∷◌, ◌++◌, take, sym, ap, subst, ◌∙◌, append_assoc, arith}
use Rattle.std.proofs.lemmas.List.{map-append}
use Rattle.gil_syntax.proofs.NameLemmas.{map-take_read}
use Rattle.checked_paths.specs.Meaning.{SayTheSame}
use Rattle.checked_paths.specs.View.{all_passed_view, passed_by_view}
use Rattle.checked_paths.proofs.Copies.{say_pushed}
use Rattle.checked_paths.proofs.checking.push_copies.Goals as goal

pub loop-all-preserved : goal.loop-all-preserved
loop-all-preserved g c =
    let M = g.M.SymMemory in
    let q = c.in_ok-copy_all.field-0 in
    let old = passed_by_view c.args.frames in
    let before = passed_by_view (take c.loop-all.all-index c.args.others.now) in
    let item = all_passed_view c.all-item.result in
    let more : old ++ passed_by_view (take (c.loop-all.all-index + 1) c.args.others.now) ≡ (old ++ before) ++ item ∷ [] =
    ap (λ ps. old ++ ps) (map-take_read all_passed_view c.args.others.now c.loop-all.all-index c.all-item.result (omega arith) c.all-item.is) ∙ sym (append_assoc old before (item ∷ [])) in
    let pushed = ap passed_by_view c.in_ok-push.ensures.ok ∙ map-append all_passed_view c.loop-all.copied (q ∷ []) in
    subst (λ ps. SayTheSame M.stands M.terms ps (passed_by_view c.push.new.self)) (sym more)
    (subst (SayTheSame M.stands M.terms ((old ++ before) ++ item ∷ [])) (sym pushed)
    (say_pushed M.stands M.terms (old ++ before) (passed_by_view c.loop-all.copied) item (all_passed_view q) c.loop-all.invariant c.in_ok-copy_all.ensures))
