use Rattle.std.proofs.Common.{map, string_bytes, Some}
use Rattle.std.proofs.lemmas.Result.{err_from_is_err_and}
use Rattle.serde_json.specs.View.{view}
use Rattle.json_parts.specs.Lines.{line, pieces}
use Rattle.json_parts.proofs.Followed.{first_fails, then_adds}
use Rattle.json_parts.proofs.lines.push_line.Goals as goal

pub returns-in_err-push_pieces : goal.returns-in_err-push_pieces
unfolding line
returns-in_err-push_pieces c =
    let p = err_from_is_err_and c.from_residual.result c.from_residual.ensures.1 in
    rw (p.1, p.2) (first_fails c.in_err-push_pieces.field-0.0 (pieces (view c.args.object.now) (map (λ q. (q.0.now, q.1.now)) c.args.pieces.now))
    (Some c.args.last.now) c.in_err-push_pieces.ensures)

pub returns : goal.returns
unfolding line
returns c =
    then_adds (pieces (view c.args.object.now) (map (λ q. (q.0.now, q.1.now)) c.args.pieces.now)) (Some c.args.last.now) c.push_words.result
    (string_bytes c.args.out.now) _ _ c.in_ok-push_pieces.ensures c.push_words.ensures
