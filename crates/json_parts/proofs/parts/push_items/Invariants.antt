use Rattle.std.proofs.Common.{◌≡◌, ◌++◌, drop, option_map, string_bytes}
use Rattle.serde_json.specs.View.{items_view}
use Rattle.json_parts.specs.Parts.{joined_from}
use Rattle.json_parts.proofs.parts.push_items.Given as goal

abbrev pub invariant-loop-index : goal.invariant-loop-index
invariant-loop-index l =
    option_map (λ added. string_bytes l.out ++ added) (joined_from l.index (items_view (drop l.index l.items)))
    ≡ option_map (λ added. string_bytes l.fn.out ++ added) (joined_from 0 (items_view l.items))
