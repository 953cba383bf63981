use Rattle.std.proofs.Common.{◌≡◌, ◌++◌, List, [], true, ap, sym, subst, ◌∙◌}
use Rattle.std.specs.Option.{option_map}
use Rattle.std.proofs.lemmas.List.{append-nil}
use Rattle.gil_syntax.specs.Pure.{act as pure_act}
use Rattle.gil_syntax.specs.View.{exprs_view}
use Rattle.pure_terms.specs.Meaning.{IsOver}
use Rattle.pure_terms.specs.View.{terms_view}
use Rattle.sym_engine.specs.Forms.{NeedWhatMatters}
use Rattle.sym_engine.specs.Lawful.{AreLawful}
use Rattle.sym_engine.specs.Narrow.{StayNarrow}
use Rattle.sym_engine.specs.Plain.{StayPlain}
use Rattle.sym_engine.specs.View.{candidates_view}
use Rattle.sym_engine.proofs.Adding.{act_lawful}
use Rattle.sym_engine.proofs.Asked.{may_be_asked}
use Rattle.sym_engine.proofs.Arguments.{seen_results, seen_none}
use Rattle.sym_engine.proofs.Forms.{act_needs}
use Rattle.sym_engine.proofs.Leaving.{if_ok_map}
use Rattle.sym_engine.proofs.Staying.{ActsInPlain, act_plain}
use Rattle.sym_engine.proofs.StayingNarrow.{ActsInNarrow, act_narrow}
use Rattle.sym_engine.proofs.acting.act_candidates.Goals as goal
use Rattle.sym_evaluation.specs.View.{all_cases_view, good_view}
use Rattle.sym_evaluation.specs.Questions.{OnResult, AreEachOver}
use Rattle.sym_model.specs.Forms.{OpenWhatMatters}
use Rattle.sym_model.specs.Laws.{ActLaw}
use Rattle.sym_model.specs.View.{branches_view}
use Rattle.sym_paths.specs.Settling.{Candidate}
use Rattle.sym_paths.proofs.Moving.{running_each}
use Rattle.sym_paths.specs.View.{path_view}
use Rattle.sym_paths.specs.Acting.{fresh_where, ActsAsEach, Acts, ActsByForms}

pub returns-in-None-clause-lawful : goal.returns-in-None-clause-lawful
returns-in-None-clause-lawful g c =
    subst (AreLawful g.M.SymMemory.stands g.M.SymMemory.terms g.M.SymMemory.asked g.M.Local.LocalMemory.actions (path_view c.args.path) c.args.here.now (pure_act c.args.name.now c.args.action.now (exprs_view c.args.arguments.now))) (append-nil (candidates_view c.in_ok-candidates.candidates))
    (act_lawful g.M.SymMemory.stands g.M.SymMemory.terms g.M.SymMemory.depends g.M.SymMemory.plain g.M.SymMemory.asked g.M.Local.LocalMemory.actions (path_view c.args.path) c.args.here.now _ g.met.M.SymMemory.meaning (all_cases_view c.in_ok-faults.field-0) (candidates_view c.in_ok-candidates.candidates) [] c.in_ok-candidates.ensures
    c.args.name.now c.args.action.now (exprs_view c.args.arguments.now) c.in_ok-faults.ensures.evaluated (seen_none terms_view (Acts g.M.SymMemory.stands g.M.SymMemory.terms g.M.Local.LocalMemory.actions g.M.SymMemory.asked (path_view c.args.path) c.args.name.now c.args.action.now c.args.here.now) c.in_ok-faults.field-0.good c.in-None.is))

pub returns-in_ok-branches-in-Some-clause-lawful : goal.returns-in_ok-branches-in-Some-clause-lawful
returns-in_ok-branches-in-Some-clause-lawful g c =
    let path = path_view c.args.path in
    let es = exprs_view c.args.arguments.now in
    let good = good_view terms_view c.in-Some.good in
    if_ok_map
    (λ cs. (ds : List (Candidate g.row.M.Denot)) × ((candidates_view cs ≡ candidates_view c.in_ok-candidates.candidates ++ ds) × ActsAsEach path c.args.name.now c.args.here.now c.fresh_for-takes.result good (branches_view c.in_ok-branches-in-Some.branches) ds))
    (λ cs. AreLawful g.M.SymMemory.stands g.M.SymMemory.terms g.M.SymMemory.asked g.M.Local.LocalMemory.actions path c.args.here.now (pure_act c.args.name.now c.args.action.now es) (candidates_view cs)) c.add_each.result
    (λ cs (ds, (is, each)).
    subst (AreLawful g.M.SymMemory.stands g.M.SymMemory.terms g.M.SymMemory.asked g.M.Local.LocalMemory.actions path c.args.here.now (pure_act c.args.name.now c.args.action.now es)) (sym is)
    (act_lawful g.M.SymMemory.stands g.M.SymMemory.terms g.M.SymMemory.depends g.M.SymMemory.plain g.M.SymMemory.asked g.M.Local.LocalMemory.actions path c.args.here.now _ g.met.M.SymMemory.meaning (all_cases_view c.in_ok-faults.field-0) (candidates_view c.in_ok-candidates.candidates) ds c.in_ok-candidates.ensures
    c.args.name.now c.args.action.now es c.in_ok-faults.ensures.evaluated
    (seen_results terms_view (Acts g.M.SymMemory.stands g.M.SymMemory.terms g.M.Local.LocalMemory.actions g.M.SymMemory.asked path c.args.name.now c.args.action.now c.args.here.now) c.in_ok-faults.field-0.good c.in-Some.good ds c.in-Some.is (
      branches_view c.in_ok-branches-in-Some.branches,
      (
        subst (λ x. ActLaw g.M.SymMemory.stands g.M.SymMemory.terms g.M.Local.LocalMemory.actions c.args.action.now x good.result (g.M.SymMemory.asked c.args.action.now good.result) path.memory (branches_view c.in_ok-branches-in-Some.branches)) (c.fresh_variable-fresh.ensures ∙ ap (λ b. fresh_where b path.vars) c.fresh_for-takes.ensures) c.in_ok-branches-in-Some.ensures.laws,
        subst (λ b. ActsAsEach path c.args.name.now c.args.here.now b good (branches_view c.in_ok-branches-in-Some.branches) ds) c.fresh_for-takes.ensures each,
      ),
    ))))
    c.add_each.ensures

pub act-requires : goal.act-requires
act-requires g c =
    let path = path_view c.args.path in
    let over = running_each (IsOver path.vars) path.stack c.requires.over.stores in
    let names = c.in_ok-faults.ensures.evaluated.names path.vars over in
    may_be_asked g.M.Local.LocalMemory.actions c.args.action.now path.vars (terms_view c.in-Some.good.result) (g.M.SymMemory.terms path.memory)
    (subst (λ o. OnResult (AreEachOver path.vars) (option_map (good_view terms_view) o)) c.in-Some.is names.1) c.requires.over.memory
    c.fresh_for-takes.result c.fresh_variable-fresh.result c.fresh_for-takes.ensures c.fresh_variable-fresh.ensures

pub returns-in-None-clause-plain : goal.returns-in-None-clause-plain
returns-in-None-clause-plain g c =
    let path = path_view c.args.path in
    let es = exprs_view c.args.arguments.now in
    let acts = ActsInPlain g.M.SymMemory.stands g.M.SymMemory.terms g.M.SymMemory.depends g.M.SymMemory.plain path c.args.here.now true c.args.name.now c.args.action.now in
    λ keeps. subst (StayPlain g.M.SymMemory.plain path (pure_act c.args.name.now c.args.action.now (exprs_view c.args.arguments.now))) (append-nil (candidates_view c.in_ok-candidates.candidates))
    (act_plain g.M.SymMemory.stands g.M.SymMemory.terms g.M.SymMemory.depends g.M.SymMemory.plain path c.args.here.now true (all_cases_view c.in_ok-faults.field-0) (candidates_view c.in_ok-candidates.candidates) [] c.in_ok-candidates.ensures c.args.name.now c.args.action.now es
    c.in_ok-faults.ensures.evaluated.origin.1 c.in_ok-faults.ensures.plain (seen_none terms_view acts c.in_ok-faults.field-0.good c.in-None.is))

pub returns-in_ok-branches-in-Some-clause-plain : goal.returns-in_ok-branches-in-Some-clause-plain
returns-in_ok-branches-in-Some-clause-plain g c =
    let path = path_view c.args.path in
    let es = exprs_view c.args.arguments.now in
    let good = good_view terms_view c.in-Some.good in
    let branches = branches_view c.in_ok-branches-in-Some.branches in
    let acts = ActsInPlain g.M.SymMemory.stands g.M.SymMemory.terms g.M.SymMemory.depends g.M.SymMemory.plain path c.args.here.now c.fresh_for-takes.result c.args.name.now c.args.action.now in
    λ keeps. if_ok_map
    (λ cs. (ds : List (Candidate g.row.M.Denot)) × ((candidates_view cs ≡ candidates_view c.in_ok-candidates.candidates ++ ds) × ActsAsEach path c.args.name.now c.args.here.now c.fresh_for-takes.result good branches ds))
    (λ cs. StayPlain g.M.SymMemory.plain path (pure_act c.args.name.now c.args.action.now (exprs_view c.args.arguments.now)) (candidates_view cs)) c.add_each.result
    (λ cs (ds, (is, each)).
    subst (StayPlain g.M.SymMemory.plain path (pure_act c.args.name.now c.args.action.now (exprs_view c.args.arguments.now))) (sym is)
    (act_plain g.M.SymMemory.stands g.M.SymMemory.terms g.M.SymMemory.depends g.M.SymMemory.plain path c.args.here.now c.fresh_for-takes.result (all_cases_view c.in_ok-faults.field-0) (candidates_view c.in_ok-candidates.candidates) ds c.in_ok-candidates.ensures c.args.name.now c.args.action.now es
    c.in_ok-faults.ensures.evaluated.origin.1 c.in_ok-faults.ensures.plain (seen_results terms_view acts c.in_ok-faults.field-0.good c.in-Some.good ds c.in-Some.is (branches, (c.in_ok-branches-in-Some.ensures.plain keeps, each)))))
    c.add_each.ensures

pub returns-in-None-clause-forms : goal.returns-in-None-clause-forms
returns-in-None-clause-forms g c =
    let M = g.M.SymMemory in
    let path = path_view c.args.path in
    let acts = ActsByForms M.stands M.terms M.depends g.M.Local.LocalMemory.actions path c.args.name.now c.args.action.now c.args.here.now in
    subst (NeedWhatMatters M.stands M.terms M.depends path (pure_act c.args.name.now c.args.action.now (exprs_view c.args.arguments.now))) (append-nil (candidates_view c.in_ok-candidates.candidates))
    (act_needs M.stands M.terms M.depends M.plain path _ g.met.M.SymMemory.meaning M.asked g.M.Local.LocalMemory.actions c.args.here.now (all_cases_view c.in_ok-faults.field-0) (candidates_view c.in_ok-candidates.candidates) [] c.in_ok-candidates.ensures
    c.args.name.now c.args.action.now (exprs_view c.args.arguments.now) c.in_ok-faults.ensures.evaluated (seen_none terms_view acts c.in_ok-faults.field-0.good c.in-None.is))

pub returns-in_ok-branches-in-Some-clause-forms : goal.returns-in_ok-branches-in-Some-clause-forms
returns-in_ok-branches-in-Some-clause-forms g c =
    let M = g.M.SymMemory in
    let path = path_view c.args.path in
    let es = exprs_view c.args.arguments.now in
    let good = good_view terms_view c.in-Some.good in
    let branches = branches_view c.in_ok-branches-in-Some.branches in
    let acts = ActsByForms M.stands M.terms M.depends g.M.Local.LocalMemory.actions path c.args.name.now c.args.action.now c.args.here.now in
    if_ok_map
    (λ cs. (ds : List (Candidate g.row.M.Denot)) × ((candidates_view cs ≡ candidates_view c.in_ok-candidates.candidates ++ ds) × ActsAsEach path c.args.name.now c.args.here.now c.fresh_for-takes.result good branches ds))
    (λ cs. NeedWhatMatters M.stands M.terms M.depends path (pure_act c.args.name.now c.args.action.now es) (candidates_view cs)) c.add_each.result
    (λ cs (ds, (is, each)).
    subst (NeedWhatMatters M.stands M.terms M.depends path (pure_act c.args.name.now c.args.action.now es)) (sym is)
    (act_needs M.stands M.terms M.depends M.plain path _ g.met.M.SymMemory.meaning M.asked g.M.Local.LocalMemory.actions c.args.here.now (all_cases_view c.in_ok-faults.field-0) (candidates_view c.in_ok-candidates.candidates) ds c.in_ok-candidates.ensures
    c.args.name.now c.args.action.now es c.in_ok-faults.ensures.evaluated
    (seen_results terms_view acts c.in_ok-faults.field-0.good c.in-Some.good ds c.in-Some.is (
      branches,
      (
        subst (λ x. OpenWhatMatters M.stands M.terms M.depends c.args.action.now x good.result path.memory branches) (c.fresh_variable-fresh.ensures ∙ ap (λ b. fresh_where b path.vars) c.fresh_for-takes.ensures) c.in_ok-branches-in-Some.ensures.forms,
        subst (λ b. ActsAsEach path c.args.name.now c.args.here.now b good branches ds) c.fresh_for-takes.ensures each,
      ),
    ))))
    c.add_each.ensures

pub returns-in-None-clause-narrow : goal.returns-in-None-clause-narrow
returns-in-None-clause-narrow g c =
    let path = path_view c.args.path in
    let es = exprs_view c.args.arguments.now in
    let acts = ActsInNarrow g.M.SymMemory.stands g.M.SymMemory.terms g.M.SymMemory.depends g.M.SymMemory.plain path c.args.here.now true c.args.name.now c.args.action.now in
    λ keeps. subst (StayNarrow g.M.SymMemory.terms path (pure_act c.args.name.now c.args.action.now (exprs_view c.args.arguments.now))) (append-nil (candidates_view c.in_ok-candidates.candidates))
    (act_narrow g.M.SymMemory.stands g.M.SymMemory.terms g.M.SymMemory.depends g.M.SymMemory.plain path c.args.here.now true (all_cases_view c.in_ok-faults.field-0) (candidates_view c.in_ok-candidates.candidates) [] c.in_ok-candidates.ensures c.args.name.now c.args.action.now es
    c.in_ok-faults.ensures.evaluated (seen_none terms_view acts c.in_ok-faults.field-0.good c.in-None.is))

pub returns-in_ok-branches-in-Some-clause-narrow : goal.returns-in_ok-branches-in-Some-clause-narrow
returns-in_ok-branches-in-Some-clause-narrow g c =
    let path = path_view c.args.path in
    let es = exprs_view c.args.arguments.now in
    let good = good_view terms_view c.in-Some.good in
    let branches = branches_view c.in_ok-branches-in-Some.branches in
    let acts = ActsInNarrow g.M.SymMemory.stands g.M.SymMemory.terms g.M.SymMemory.depends g.M.SymMemory.plain path c.args.here.now c.fresh_for-takes.result c.args.name.now c.args.action.now in
    λ keeps. if_ok_map
    (λ cs. (ds : List (Candidate g.row.M.Denot)) × ((candidates_view cs ≡ candidates_view c.in_ok-candidates.candidates ++ ds) × ActsAsEach path c.args.name.now c.args.here.now c.fresh_for-takes.result good branches ds))
    (λ cs. StayNarrow g.M.SymMemory.terms path (pure_act c.args.name.now c.args.action.now (exprs_view c.args.arguments.now)) (candidates_view cs)) c.add_each.result
    (λ cs (ds, (is, each)).
    subst (StayNarrow g.M.SymMemory.terms path (pure_act c.args.name.now c.args.action.now (exprs_view c.args.arguments.now))) (sym is)
    (act_narrow g.M.SymMemory.stands g.M.SymMemory.terms g.M.SymMemory.depends g.M.SymMemory.plain path c.args.here.now c.fresh_for-takes.result (all_cases_view c.in_ok-faults.field-0) (candidates_view c.in_ok-candidates.candidates) ds c.in_ok-candidates.ensures c.args.name.now c.args.action.now es
    c.in_ok-faults.ensures.evaluated (seen_results terms_view acts c.in_ok-faults.field-0.good c.in-Some.good ds c.in-Some.is (branches, (c.in_ok-branches-in-Some.ensures.narrow keeps, each)))))
    c.add_each.ensures
