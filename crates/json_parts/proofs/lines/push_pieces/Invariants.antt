use Rattle.std.proofs.Common.{◌≡◌, ◌++◌, drop, map, option_map, string_bytes}
use Rattle.serde_json.specs.View.{view}
use Rattle.json_parts.specs.Lines.{pieces}
use Rattle.json_parts.proofs.lines.push_pieces.Given as goal

abbrev pub invariant-loop-piece : goal.invariant-loop-piece
invariant-loop-piece l =
    option_map (λ x. string_bytes l.out ++ x) (pieces (view l.object) (map (λ p. (p.0.now, p.1.now)) (drop l.piece-index l.pieces)))
    ≡ option_map (λ x. string_bytes l.fn.out ++ x) (pieces (view l.object) (map (λ p. (p.0.now, p.1.now)) l.pieces))
