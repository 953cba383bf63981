use Rattle.std.proofs.Common.{◌≡◌, map, Some}
use Rattle.gil_syntax.specs.Program.{prog_view}
use Rattle.gil_syntax.specs.Programs.{find_proc}
use Rattle.biabduce.specs.Asked.{IsAskedOfRun, IsOtherOfRun}
use Rattle.biabduce.specs.Narrowly.{IsNarrowEntry}
use Rattle.biabduce.specs.View.{asked_view}
use Rattle.gil_report.specs.View.{answer_view}
use Rattle.gillian_core.specs.Definitions.{memory_of}
use Rattle.gillian_core.proofs.Founds.{each_asked, each_asked_too, right_founds}
use Rattle.gillian_core.proofs.inferring.inferred.Goals as goal

pub returns : goal.returns
returns g c =
    let M = g.M.SymMemory in
    right_founds (memory_of g.M.Local.LocalMemory.memory g.M.Local.LocalMemory.actions M.stands M.terms M.asked M.depends M.plain M.kept M.keeps_plain M.keeps_narrow) (prog_view c.args.prog.now) c.args.entry.now c.args.bound.steps
    c.in_ok-inferred.inferred.founds c.in_ok-inferred.inferred.unknown c.in_ok-answers.answers (map answer_view c.in_ok-answers-2.answers)
    c.in_ok-inferred.ensures.found c.in_ok-inferred.ensures.unknown
    (each_asked (λ q. find_proc (prog_view c.args.prog.now).procs c.args.entry.now ≡ Some q)
    (λ q x. IsAskedOfRun (prog_view c.args.prog.now) g.M.Local.LocalMemory.memory g.M.Local.LocalMemory.actions M.stands M.terms M.asked M.depends M.plain M.keeps_plain M.kept q c.args.bound.steps (asked_view x))
    c.in_ok-inferred.inferred.unknown c.in_ok-inferred.ensures.asked)
    (λ keep. each_asked_too (λ q. find_proc (prog_view c.args.prog.now).procs c.args.entry.now ≡ Some q) (IsNarrowEntry g.M.Local.LocalMemory.memory)
    (λ q x. IsOtherOfRun (prog_view c.args.prog.now) g.M.Local.LocalMemory.memory g.M.Local.LocalMemory.actions M.stands M.terms M.asked M.depends M.plain M.keeps_plain M.kept q c.args.bound.steps (asked_view x))
    c.in_ok-inferred.inferred.unknown (c.in_ok-inferred.ensures.other keep))
    c.in_ok-answers.ensures c.in_ok-answers-2.ensures c.in_ok-inferred.ensures.covers c.requires.own_keys c.in_ok-inferred.ensures.decided c.in_ok-inferred.ensures.narrow c.in_ok-inferred.ensures.narrow_cover
