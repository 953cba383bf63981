use Rattle.std.proofs.Common.{◌≡◌, length, map, false, is_some, rules, refl, sym, subst, ◌∙◌}
use Rattle.std.proofs.lemmas.List.{length-map, length-reverse}
use Rattle.sym_paths.specs.View.{end_view, frame_view, frames_view, path_view}
use Rattle.sym_states.specs.View.{facts_view}
use Rattle.checked_paths.specs.Meaning.{kept_by, SayTheSame}
use Rattle.checked_paths.specs.View.{passed_by_view}
use Rattle.checked_paths.proofs.Stops.{answered_further, no_end}
use Rattle.checked_paths.proofs.following.follow.Goals as goal

pub returns-clause-answer : goal.returns-clause-answer
returns-clause-answer g c =
    let M = g.M.SymMemory in
    let none : is_some c.args.path.end ≡ false = search (rules, c.if-is_some.false) in
    let counted : length (frames_view c.args.path.stack) ≡ c.len.result = length-reverse (map frame_view c.args.path.stack) ∙ length-map c.args.path.stack frame_view ∙ sym c.len.ensures in
    answered_further M.stands M.terms (facts_view c.args.preds.now) (passed_by_view c.args.passed.now) (path_view c.args.path) _ (no_end end_view c.args.path.end none)
    (record {
      same_path = refl;
      same_facts = c.in_ok-preds.ensures;
      kept = subst (λ n. SayTheSame M.stands M.terms (kept_by n (passed_by_view c.args.passed.now)) (passed_by_view c.in_ok-passed.passed)) (sym counted) c.in_ok-passed.ensures;
    })
