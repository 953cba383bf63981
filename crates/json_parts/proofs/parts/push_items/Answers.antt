use Rattle.std.proofs.Common.{◌++◌, ◌+◌, ap, ◌∙◌, sym, arith, drop, option_map, string_bytes}
use Rattle.std.proofs.lemmas.Result.{err_from_is_err_and}
use Rattle.serde_json.specs.View.{items_view, view}
use Rattle.json_parts.specs.Parts.{joined_from}
use Rattle.json_parts.proofs.Elements.{ended, no_more, one_more, rest_begins}
use Rattle.json_parts.proofs.parts.push_items.Goals as goal

pub returns-in_err-push_leaf : goal.returns-in_err-push_leaf
returns-in_err-push_leaf c =
    let p = err_from_is_err_and c.from_residual-in_err-push_leaf.result c.from_residual-in_err-push_leaf.ensures.1 in
    let i = c.loop-index.index in
    let here = rest_begins c.args.items.now i c.index-items-index.result (omega arith) c.index-items-index.is in
    rw (p.1, p.2) (no_more c.in_err-push_leaf.field-0.0 (view c.index-items-index.result) (items_view (drop (i + 1) c.args.items.now)) i
    (string_bytes c.loop-index.out) (string_bytes c.args.out.now) _ c.in_err-push_leaf.ensures
    (ap (λ ds. option_map (λ a. string_bytes c.loop-index.out ++ a) (joined_from i ds)) (sym here) ∙ c.loop-index.invariant))

pub loop-index-preserved : goal.loop-index-preserved
loop-index-preserved c =
    let i = c.loop-index.index in
    let here = rest_begins c.args.items.now i c.index-items-index.result (omega arith) c.index-items-index.is in
    one_more (view c.index-items-index.result) (items_view (drop (i + 1) c.args.items.now)) i (string_bytes c.loop-index.out) _ _
    c.in_ok-push_separator.ensures c.in_ok-push_leaf.ensures
    ∙ ap (λ ds. option_map (λ a. string_bytes c.loop-index.out ++ a) (joined_from i ds)) (sym here) ∙ c.loop-index.invariant

pub returns : goal.returns
returns c = ended c.args.items.now c.loop-index.index (string_bytes c.loop-index.out) _ (omega arith) c.loop-index.invariant
