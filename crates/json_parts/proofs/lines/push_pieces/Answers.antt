use Rattle.std.proofs.Common.{[], ◌++◌, ◌+◌, get_or, ap, ◌∙◌, sym, arith, drop, map, option_map, string_bytes}
use Rattle.std.proofs.lemmas.Result.{err_from_is_err_and}
use Rattle.std.proofs.lemmas.List.{drop_all}
use Rattle.serde_json.specs.View.{view}
use Rattle.json_parts.specs.Lines.{pieces}
use Rattle.json_parts.proofs.Followed.{piece_more, no_piece_more, no_pieces, pieces_begin}
use Rattle.json_parts.proofs.lines.push_pieces.Goals as goal

pub returns-in_err-push_piece : goal.returns-in_err-push_piece
returns-in_err-push_piece c =
    let p = err_from_is_err_and c.from_residual.result c.from_residual.ensures.1 in
    let i = c.loop-piece.piece-index in
    let piece = get_or c.args.pieces.now i (record { ref_ptr = (0, 0); now = [] }, record { ref_ptr = (0, 0); now = [] }) in
    let here = pieces_begin (λ q. (q.0.now, q.1.now)) c.args.pieces.now i (record { ref_ptr = (0, 0); now = [] }, record { ref_ptr = (0, 0); now = [] }) (omega arith) in
    rw (p.1, p.2) (no_piece_more c.in_err-push_piece.field-0.0 (view c.args.object.now) (piece.0.now, piece.1.now)
    (map (λ q. (q.0.now, q.1.now)) (drop (i + 1) c.args.pieces.now)) (string_bytes c.loop-piece.out) (string_bytes c.args.out.now) _ c.in_err-push_piece.ensures
    (ap (λ ps. option_map (λ x. string_bytes c.loop-piece.out ++ x) (pieces (view c.args.object.now) ps)) (sym here) ∙ c.loop-piece.invariant))

pub loop-piece-preserved : goal.loop-piece-preserved
loop-piece-preserved c =
    let i = c.loop-piece.piece-index in
    let piece = get_or c.args.pieces.now i (record { ref_ptr = (0, 0); now = [] }, record { ref_ptr = (0, 0); now = [] }) in
    let here = pieces_begin (λ q. (q.0.now, q.1.now)) c.args.pieces.now i (record { ref_ptr = (0, 0); now = [] }, record { ref_ptr = (0, 0); now = [] }) (omega arith) in
    piece_more (view c.args.object.now) (piece.0.now, piece.1.now) (map (λ q. (q.0.now, q.1.now)) (drop (i + 1) c.args.pieces.now))
    (string_bytes c.loop-piece.out) _ c.in_ok-push_piece.ensures
    ∙ ap (λ ps. option_map (λ x. string_bytes c.loop-piece.out ++ x) (pieces (view c.args.object.now) ps)) (sym here) ∙ c.loop-piece.invariant

pub returns : goal.returns
returns c =
    no_pieces (view c.args.object.now) (string_bytes c.loop-piece.out) _
    (ap (λ ps. option_map (λ x. string_bytes c.loop-piece.out ++ x) (pieces (view c.args.object.now) (map (λ q. (q.0.now, q.1.now)) ps)))
    (sym (drop_all c.loop-piece.piece-index c.args.pieces.now (omega arith))) ∙ c.loop-piece.invariant)
