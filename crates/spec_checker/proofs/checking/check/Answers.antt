use Rattle.std.proofs.lemmas.Result.{IfOk-weaker}
use Rattle.gil_syntax.specs.Program.{prog_view}
use Rattle.spec_checker.proofs.Answered.{answered_each, answered_causes, answered_ended, answered_faultless, answered_own, answered_surely, answered_used, answers_hold}
use Rattle.spec_checker.proofs.Deciding.{answers_decided, answers_settled}
use Rattle.spec_checker.proofs.checking.check.Goals as goal

pub returns : goal.returns
returns g c =
    let p = prog_view c.args.prog.now in
    let memory = g.M.Local.LocalMemory.memory in
    let m = g.M.Local.LocalMemory.actions in
    let xs = c.in_ok-examined.examined in
    record {
      answers = IfOk-weaker c.answer_specifications.result _ _ (λ answers right. answered_each p memory m g.M.SymMemory.keeps_plain c.args.bound xs c.in_ok-examined.ensures answers right) c.answer_specifications.ensures;
      hold =
          IfOk-weaker c.answer_specifications.result _ _
          (λ answers right. answers_hold p memory m g.M.SymMemory.keeps_plain c.args.bound xs c.in_ok-examined.ensures answers right c.args.prog.now.valid c.args.prog.now.well_made c.requires.modes g.met.M.Local.LocalMemory.laws)
          c.answer_specifications.ensures;
      faultless = IfOk-weaker c.answer_specifications.result _ _ (λ answers right. answered_faultless p memory m g.M.SymMemory.keeps_plain c.args.bound xs c.in_ok-examined.ensures answers right) c.answer_specifications.ensures;
      ended = IfOk-weaker c.answer_specifications.result _ _ (λ answers right. answered_ended p memory m g.M.SymMemory.keeps_plain c.args.bound xs c.in_ok-examined.ensures answers right) c.answer_specifications.ensures;
      used = IfOk-weaker c.answer_specifications.result _ _ (λ answers right. answered_used p memory m g.M.SymMemory.keeps_plain c.args.bound xs c.in_ok-examined.ensures answers right) c.answer_specifications.ensures;
      causes = IfOk-weaker c.answer_specifications.result _ _ (λ answers right. answered_causes p memory m g.M.SymMemory.keeps_plain c.args.bound xs c.in_ok-examined.ensures answers right) c.answer_specifications.ensures;
      contained =
          IfOk-weaker c.answer_specifications.result _ _
          (λ answers right. answers_decided c.contained_specifications_are_decided.ensures p memory m c.args.bound answers c.args.prog.now.well_made c.args.prog.now.valid c.requires.modes
          (answered_causes p memory m g.M.SymMemory.keeps_plain c.args.bound xs c.in_ok-examined.ensures answers right) (answered_own p memory m g.M.SymMemory.keeps_plain c.args.bound xs c.in_ok-examined.ensures answers right))
          c.answer_specifications.ensures;
      plain = λ keeps.
          IfOk-weaker c.answer_specifications.result _ _
          (λ answers right. answers_settled p memory m c.args.bound answers
          (answers_decided c.contained_specifications_are_decided.ensures p memory m c.args.bound answers c.args.prog.now.well_made c.args.prog.now.valid c.requires.modes
          (answered_causes p memory m g.M.SymMemory.keeps_plain c.args.bound xs c.in_ok-examined.ensures answers right) (answered_own p memory m g.M.SymMemory.keeps_plain c.args.bound xs c.in_ok-examined.ensures answers right))
          (answered_surely p memory m g.M.SymMemory.keeps_plain c.args.bound xs c.in_ok-examined.ensures answers right keeps))
          c.answer_specifications.ensures;
    }
