use Rattle.std.proofs.Common.{◌≡◌, [], ◌∷◌, ◌++◌, Some, None, slice_get, drop, sym, ap, subst, ◌∙◌}
use Rattle.std.specs.Option.{option_map}
use Rattle.sym_states.proofs.Values.{ok_to}
use Rattle.checked_paths.proofs.Copies.{itself_says}
use Rattle.checked_paths.specs.Meaning.{SayTheSame}
use Rattle.checked_paths.specs.View.{all_passed_view, passed_by_view, passed_view}
use Rattle.invariant_rows.specs.Passing.{with_one}
use Rattle.invariant_rows.proofs.PassedLaws.{later_say, one_before, one_alone}
use Rattle.invariant_rows.proofs.passing.with_passed.Goals as goal

pub returns-in_ok-push-in-Some : goal.returns-in_ok-push-in-Some
returns-in_ok-push-in-Some g c =
    let stands = g.M.SymMemory.stands in
    let terms = g.M.SymMemory.terms in
    let one = passed_view c.args.one in
    let frames = c.args.frames.now in
    let running = c.in-Some.running.now in
    let later = c.split_at.result.1.now in
    let first = c.in_ok-before-in-Some.field-0 in
    let there : slice_get frames 0 ≡ Some running = sym c.get.ensures ∙ ap (option_map (λ a. a.now)) c.in-Some.is in
    let pushed : passed_by_view c.push.new.self ++ passed_by_view later ≡ all_passed_view first ∷ passed_by_view (drop 1 frames) =
    ap (λ ps. passed_by_view ps ++ passed_by_view later) (c.in_ok-push-in-Some.ensures.ok ∙ ap (λ ps. ps ++ first ∷ []) c.new-copied.ensures)
    ∙ ap (λ ps. all_passed_view first ∷ passed_by_view ps) (c.split_at.ensures.back ∙ ap (drop 1) c.as_slice-all.ensures) in
    ok_to c.push_copies.result (λ qs. SayTheSame stands terms (passed_by_view c.push.new.self ++ passed_by_view later) (passed_by_view qs)) (λ qs. SayTheSame stands terms (with_one one (passed_by_view frames)) (passed_by_view qs))
    (λ qs says. subst (λ ps. SayTheSame stands terms ps (passed_by_view qs)) (sym (one_before one frames running there))
    (later_say stands terms (one ∷ all_passed_view running) (all_passed_view first) (passed_by_view (drop 1 frames)) (passed_by_view qs) c.in_ok-before-in-Some.ensures (subst (λ ps. SayTheSame stands terms ps (passed_by_view qs)) pushed says)))
    c.push_copies.ensures

pub returns-in_ok-push-in-None-2 : goal.returns-in_ok-push-in-None-2
returns-in_ok-push-in-None-2 g c =
    let stands = g.M.SymMemory.stands in
    let terms = g.M.SymMemory.terms in
    let one = passed_view c.args.one in
    let frames = c.args.frames.now in
    let none : slice_get frames 0 ≡ None = sym c.get.ensures ∙ ap (option_map (λ a. a.now)) c.in-None.is in
    let first : c.push-in-None.new.self ≡ c.args.one ∷ [] = c.in_ok-push-in-None.ensures.ok ∙ ap (λ ps. ps ++ c.args.one ∷ []) c.new-first.ensures in
    let pushed : passed_by_view c.push-in-None-2.new.self ≡ (one ∷ []) ∷ [] =
    ap passed_by_view (c.in_ok-push-in-None-2.ensures.ok ∙ (ap (λ ps. ps ++ c.push-in-None.new.self ∷ []) c.new-copied.ensures ∙ ap (λ ps. ps ∷ []) first)) in
    subst (SayTheSame stands terms (with_one one (passed_by_view frames))) (sym pushed) (subst (λ ps. SayTheSame stands terms ps ((one ∷ []) ∷ [])) (sym (one_alone one frames none)) (itself_says stands terms ((one ∷ []) ∷ [])))
