use Rattle.std.proofs.Common.{◌≡◌, ◌∙◌, ap, arith, get_or, drop, false}
use Rattle.std.proofs.lemmas.Grind.{common_steps}
use Rattle.gil_lexer.specs.Reading.{after_blanks, after_comment}
use Rattle.gil_lexer.proofs.BlankLemmas.{comment_turn}
use Rattle.gil_lexer.proofs.blanks.after_blanks.Goals as goal

pub loop-rest-preserved-in-47-rest-2 : goal.loop-rest-preserved-in-47-rest-2
loop-rest-preserved-in-47-rest-2 c =
    let rest = c.loop-rest.rest.now in
    let first : get_or rest 0 0 ≡ 47 = omega arith in
    let second : get_or rest 1 0 ≡ 47 = omega arith in
    let comment : c.after_comment-rest.result.now ≡ after_comment (drop 2 rest) = grind (arith, common_steps, c.after_comment-rest.ensures.rest) in
    record {
      same_end = ap (after_blanks false) comment ∙ comment_turn rest first second ∙ c.loop-rest.invariant.same_end;
      within = omega arith;
    }
