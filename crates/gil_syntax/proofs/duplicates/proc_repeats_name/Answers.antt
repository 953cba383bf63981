use Rattle.std.proofs.Common.{◌||◌, map, sym, ap, ◌∙◌}
use Rattle.std.specs.List.{list_any}
use Rattle.gil_syntax.specs.Valid.{has_twice, lists_in_command}
use Rattle.gil_syntax.specs.View.{numbered_command_view}
use Rattle.gil_syntax.proofs.ExpressionLemmas.{read_seen, list_any-element, list_any-all, list_any-flat_map}
use Rattle.gil_syntax.proofs.DuplicateLemmas.{map-itself, or_true}
use Rattle.gil_syntax.proofs.duplicates.proc_repeats_name.Goals as goal

pub returns-then-branch-2 : goal.returns-then-branch-2
returns-then-branch-2 c =
    let command = read_seen numbered_command_view _ _ c.loop-numbered.numbered-index _ c.as_slice-numbered-items.ensures c.loop-numbered-test.true c.numbered-item.is in
    sym (or_true (has_twice c.args.proc.now.params) _ (list_any-flat_map has_twice (λ d. lists_in_command d.command) (map numbered_command_view c.args.proc.now.body)
    ∙ list_any-element (λ d. list_any has_twice (lists_in_command d.command)) _ c.loop-numbered.numbered-index _ command (sym c.in_ok-command_repeats_name.ensures ∙ c.if-branch-2.true)))

pub returns : goal.returns
returns c =
    sym ((λ j. (ap has_twice (sym (map-itself c.args.proc.now.params) ∙ ap (map (λ t. t)) (sym c.as_slice.ensures)) ∙ sym c.in_ok-has_twice.ensures ∙ c.if-branch.false) j
    || (list_any-flat_map has_twice (λ d. lists_in_command d.command) (map numbered_command_view c.args.proc.now.body)
    ∙ list_any-all (λ d. list_any has_twice (lists_in_command d.command)) numbered_command_view _ c.args.proc.now.body c.loop-numbered.numbered-index c.as_slice-numbered-items.ensures c.loop-numbered-test.false c.loop-numbered.invariant) j))
