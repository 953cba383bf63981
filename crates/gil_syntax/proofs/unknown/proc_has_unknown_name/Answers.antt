use Rattle.std.proofs.Common.{map, sym, ◌∙◌}
use Rattle.gil_syntax.specs.Programs.{find_spec}
use Rattle.gil_syntax.specs.Valid.{logicals_of_spec}
use Rattle.gil_syntax.specs.View.{numbered_command_view}
use Rattle.gil_syntax.specs.ByName.{parts_of}
use Rattle.gil_syntax.specs.Names.{has_name}
use Rattle.gil_syntax.specs.Found.{stands_in_command}
use Rattle.gil_syntax.specs.Sought.{is_undeclared, is_unknown_use, declared_by}
use Rattle.gil_syntax.proofs.ExpressionLemmas.{read_seen, list_any-element, list_any-next, list_any-all}
use Rattle.gil_syntax.proofs.UnknownLemmas.{commands_unknown}
use Rattle.gil_syntax.proofs.unknown.proc_has_unknown_name.Goals as goal

pub returns-then-branch : goal.returns-then-branch
returns-then-branch c =
    let p = parts_of c.args.program.now in
    let known = has_name c.in_ok-declared.declared in
    let command = read_seen numbered_command_view _ _ c.loop-numbered.numbered-index _ c.as_slice-numbered-items.ensures c.loop-numbered-test.true c.numbered-item.is in
    sym (list_any-element (λ d. stands_in_command (is_undeclared (declared_by known d.command)) (is_unknown_use p) d) _ c.loop-numbered.numbered-index _ command (sym c.in_ok-command_has_unknown_name.ensures ∙ c.if-branch.true))
    ∙ commands_unknown p known (logicals_of_spec (find_spec p.specs c.args.proc.now.name)) c.in_ok-declared.ensures (map numbered_command_view c.args.proc.now.body)

pub loop-numbered-preserved : goal.loop-numbered-preserved
loop-numbered-preserved c =
    let p = parts_of c.args.program.now in
    let known = has_name c.in_ok-declared.declared in
    list_any-next (λ d. stands_in_command (is_undeclared (declared_by known d.command)) (is_unknown_use p) d) numbered_command_view _ c.loop-numbered.numbered-index _ c.loop-numbered-test.true c.numbered-item.is c.loop-numbered.invariant (sym c.in_ok-command_has_unknown_name.ensures ∙ c.if-branch.false)

pub returns : goal.returns
returns c =
    let p = parts_of c.args.program.now in
    let known = has_name c.in_ok-declared.declared in
    sym (list_any-all (λ d. stands_in_command (is_undeclared (declared_by known d.command)) (is_unknown_use p) d) numbered_command_view _ c.args.proc.now.body c.loop-numbered.numbered-index c.as_slice-numbered-items.ensures c.loop-numbered-test.false c.loop-numbered.invariant)
    ∙ commands_unknown p known (logicals_of_spec (find_spec p.specs c.args.proc.now.name)) c.in_ok-declared.ensures (map numbered_command_view c.args.proc.now.body)
