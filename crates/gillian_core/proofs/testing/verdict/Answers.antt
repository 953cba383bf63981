use Rattle.std.proofs.Common.{subst, sym}
use Rattle.gil_syntax.specs.Program.{prog_view}
use Rattle.sym_test.specs.View.{verdict_view}
use Rattle.gillian_core.specs.Definitions.{memory_of}
use Rattle.gillian_core.specs.Right.{IsRightVerdict}
use Rattle.gillian_core.proofs.Verdicts.{verdict_is_right}
use Rattle.gillian_core.proofs.testing.verdict.Goals as goal

pub returns : goal.returns
returns g c =
    let memory = g.M.Local.LocalMemory.memory in
    let actions = g.M.Local.LocalMemory.actions in
    let stands = g.M.SymMemory.stands in
    let terms = g.M.SymMemory.terms in
    let asked = g.M.SymMemory.asked in
    let depends = g.M.SymMemory.depends in
    let plain = g.M.SymMemory.plain in
    let kept = g.M.SymMemory.kept in
    let keeps_plain = g.M.SymMemory.keeps_plain in
    let keeps_narrow = g.M.SymMemory.keeps_narrow in
    let p = prog_view c.args.prog.now in
    let entry = c.args.entry.now in
    let bound = c.args.bound.steps in
    let right = verdict_is_right memory actions stands terms asked depends plain kept keeps_plain keeps_narrow p entry bound (verdict_view c.in_ok-tested.tested)
    c.in_ok-tested.ensures.right c.in_ok-tested.ensures.found in
    subst (IsRightVerdict (memory_of memory actions stands terms asked depends plain kept keeps_plain keeps_narrow) p entry bound) (sym c.in_ok-answer.ensures) right
