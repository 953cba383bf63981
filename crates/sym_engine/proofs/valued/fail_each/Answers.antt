use Rattle.std.proofs.Common.{◌∷◌, ◌++◌, [], map, take, ap, sym, subst, ◌∙◌}
use Rattle.std.proofs.lemmas.List.{map-append}
use Rattle.gil_syntax.proofs.NameLemmas.{map-take_read}
use Rattle.sym_engine.specs.View.{candidate_view, candidates_view}
use Rattle.sym_engine.proofs.Copied.{copied_more, faulted_copied}
use Rattle.sym_engine.proofs.valued.fail_each.Goals as goal
use Rattle.sym_evaluation.specs.View.{fault_case_view, faults_view}
use Rattle.sym_paths.specs.Valued.{faulted, failing}
use Rattle.sym_paths.specs.View.{path_view}
use Rattle.sym_paths.specs.Copies.{AreCopied, IsCopied}

pub loop-fault-preserved : goal.loop-fault-preserved
loop-fault-preserved g c =
    let one : IsCopied g.M.SymMemory.stands g.M.SymMemory.terms g.M.SymMemory.depends g.M.SymMemory.plain (faulted (path_view c.args.path.now) c.args.here.now (fault_case_view c.fault-item.result)) (candidate_view c.in_ok-fail_with.field-0) =
    faulted_copied g.M.SymMemory.stands g.M.SymMemory.terms g.M.SymMemory.depends g.M.SymMemory.plain (path_view c.args.path.now) (path_view c.in_ok-copy.copy) c.args.here.now (fault_case_view c.fault-item.result) (candidate_view c.in_ok-fail_with.field-0)
    c.in_ok-copy.ensures.path c.in_ok-copy.ensures.memory
    (c.in_ok-fail_with.ensures ∙ ap (λ t. failing (path_view c.in_ok-copy.copy) c.args.here.now (record { conds = (fault_case_view c.fault-item.result).conds; result = t })) c.in_ok-term.ensures) in
    let more : AreCopied g.M.SymMemory.stands g.M.SymMemory.terms g.M.SymMemory.depends g.M.SymMemory.plain (map (faulted (path_view c.args.path.now) c.args.here.now) (faults_view (take c.loop-fault.fault-index c.as_slice-fault-items.result.now) ++ fault_case_view c.fault-item.result ∷ [])) (candidates_view c.loop-fault.candidates ++ candidate_view c.in_ok-fail_with.field-0 ∷ []) =
    copied_more g.M.SymMemory.stands g.M.SymMemory.terms g.M.SymMemory.depends g.M.SymMemory.plain (path_view c.args.path.now) c.args.here.now (faults_view (take c.loop-fault.fault-index c.as_slice-fault-items.result.now)) (fault_case_view c.fault-item.result) (candidates_view c.loop-fault.candidates) (candidate_view c.in_ok-fail_with.field-0) c.loop-fault.invariant one in
    subst (λ fs. AreCopied g.M.SymMemory.stands g.M.SymMemory.terms g.M.SymMemory.depends g.M.SymMemory.plain (map (faulted (path_view c.args.path.now) c.args.here.now) fs) (candidates_view c.push.new.self))
    (sym (map-take_read fault_case_view c.as_slice-fault-items.result.now c.loop-fault.fault-index c.fault-item.result c.loop-fault-test.true c.fault-item.is))
    (subst (AreCopied g.M.SymMemory.stands g.M.SymMemory.terms g.M.SymMemory.depends g.M.SymMemory.plain (map (faulted (path_view c.args.path.now) c.args.here.now) (faults_view (take c.loop-fault.fault-index c.as_slice-fault-items.result.now) ++ fault_case_view c.fault-item.result ∷ [])))
    (sym (ap candidates_view c.in_ok-push.ensures.ok ∙ map-append candidate_view c.loop-fault.candidates (c.in_ok-fail_with.field-0 ∷ []))) more)
