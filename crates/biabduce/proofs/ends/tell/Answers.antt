use Rattle.std.proofs.Common.{inl, inr, sym, ap, subst, ◌∙◌}
use Rattle.std.proofs.lemmas.Result.{on_ok_weaker}
use Rattle.gil_syntax.specs.Program.{prog_view}
use Rattle.gil_syntax.specs.View.{proc_view}
use Rattle.pure_terms.specs.Fragment.{InFragment}
use Rattle.pure_terms.specs.View.{atoms_view, term_view}
use Rattle.sym_paths.specs.View.{path_view}
use Rattle.bi_specifications.specs.Shape.{MayBeSaid}
use Rattle.bi_specifications.specs.Specified.{IsTrulyTold, IsMetAlong, TellsNothing}
use Rattle.bi_specifications.specs.View.{entry_view, found_view, IfTold, MatchTold, IsUnsaid}
use Rattle.biabduce.specs.Asked.{asked_of_end, IsPlaceOfEnd}
use Rattle.biabduce.specs.View.{asked_view, inference_view}
use Rattle.biabduce.proofs.Accounted.{told_there, covered_by_told}
use Rattle.biabduce.proofs.Asking.{end_outside, unsaid_why, adds_left, adds_nothing, adds_found}
use Rattle.biabduce.proofs.Keeping.{after_found, after_left}
use Rattle.biabduce.proofs.NarrowPaths.{told_alone, same_alone}
use Rattle.biabduce.proofs.Providing.{keeps_found, found_covers, keeps_left, left_some}
use Rattle.biabduce.proofs.ProvidingNarrowly.{found_keeps, found_provides, left_keeps}
use Rattle.biabduce.proofs.ends.tell.Goals as goal

pub returns-in-Found-clause-sound : goal.returns-in-Found-clause-sound
returns-in-Found-clause-sound g c =
    let q = proc_view c.args.proc.now in
    let told = subst (λ t. IfTold t (IsTrulyTold g.M.Local.LocalMemory.memory g.M.Local.LocalMemory.actions g.M.SymMemory.stands g.M.SymMemory.terms g.M.SymMemory.asked g.M.SymMemory.depends g.M.SymMemory.plain g.M.SymMemory.keeps_plain g.M.SymMemory.kept q (entry_view c.args.beginning.now) (path_view c.args.path))) c.in-Found.is c.in_ok-found.ensures.found in
    on_ok_weaker c.find.result
    (λ is p n sound explored. after_found p g.M.Local.LocalMemory.memory g.M.Local.LocalMemory.actions q n (inference_view c.args.inference.now) (inference_view c.find.new.self) (found_view c.in-Found.found) is sound (told p n explored)) c.find.ensures

pub returns-in_ok-ask_end-in-Unsaid-clause-sound : goal.returns-in_ok-ask_end-in-Unsaid-clause-sound
returns-in_ok-ask_end-in-Unsaid-clause-sound g c = λ p n sound explored.
    after_left p g.M.Local.LocalMemory.memory g.M.Local.LocalMemory.actions (proc_view c.args.proc.now) n (inference_view c.args.inference.now) (inference_view c.leave.new.self) (asked_view c.in_ok-ask_end-in-Unsaid.field-0) c.leave.ensures sound
    (subst (λ atoms. ¬ InFragment atoms) (sym c.in_ok-ask_end-in-Unsaid.ensures.query) (end_outside (atoms_view c.into_ended.result.conds) (term_view c.in-Unsaid.term)))

pub returns-in-Found-clause-cover : goal.returns-in-Found-clause-cover
returns-in-Found-clause-cover g c =
    let q = proc_view c.args.proc.now in
    let e = entry_view c.args.beginning.now in
    let path = path_view c.args.path in
    let found = found_view c.in-Found.found in
    let i = inference_view c.args.inference.now in
    let along = subst (λ t. MatchTold t (IsMetAlong g.M.Local.LocalMemory.memory g.M.Local.LocalMemory.actions g.M.SymMemory.stands g.M.SymMemory.terms g.M.SymMemory.asked g.M.SymMemory.depends g.M.SymMemory.plain g.M.SymMemory.keeps_plain g.M.SymMemory.kept q e path) (TellsNothing g.M.Local.LocalMemory.memory g.M.Local.LocalMemory.actions g.M.SymMemory.stands g.M.SymMemory.terms g.M.SymMemory.asked g.M.SymMemory.depends g.M.SymMemory.plain g.M.SymMemory.keeps_plain g.M.SymMemory.kept q e path)) c.in-Found.is c.in_ok-found.ensures.cover in
    on_ok_weaker c.find.result
    (λ is p n b explored. (
      keeps_found p g.M.Local.LocalMemory.memory g.M.Local.LocalMemory.actions q n i (inference_view c.find.new.self) found is,
      λ r wanted a begins accounts.
          found_covers p g.M.Local.LocalMemory.memory g.M.Local.LocalMemory.actions q n i (inference_view c.find.new.self) found r is
          (covered_by_told p g.M.Local.LocalMemory.memory g.M.Local.LocalMemory.actions g.met.M.Local.LocalMemory.laws g.M.SymMemory.stands g.M.SymMemory.terms g.M.SymMemory.asked g.M.SymMemory.depends g.M.SymMemory.plain g.M.SymMemory.keeps_plain g.M.SymMemory.kept q e path n explored b r wanted a begins accounts found along i.founds c.requires.told),
    )) c.find.ensures

pub returns-in_ok-ask_end-in-Unsaid-clause-cover : goal.returns-in_ok-ask_end-in-Unsaid-clause-cover
returns-in_ok-ask_end-in-Unsaid-clause-cover g c = λ p n b explored.
    let q = proc_view c.args.proc.now in
    let i = inference_view c.args.inference.now in
    let j = inference_view c.leave.new.self in
    let x = asked_view c.in_ok-ask_end-in-Unsaid.field-0 in
    (keeps_left p g.M.Local.LocalMemory.memory g.M.Local.LocalMemory.actions q n i j x c.leave.ensures, λ r wanted a begins accounts. inl (left_some p g.M.Local.LocalMemory.memory g.M.Local.LocalMemory.actions q n i j x c.leave.ensures))

pub returns-in-Nothing-clause-cover : goal.returns-in-Nothing-clause-cover
returns-in-Nothing-clause-cover g c = λ p n b explored.
    let q = proc_view c.args.proc.now in
    let e = entry_view c.args.beginning.now in
    let path = path_view c.args.path in
    let nothing = subst (λ t. MatchTold t (IsMetAlong g.M.Local.LocalMemory.memory g.M.Local.LocalMemory.actions g.M.SymMemory.stands g.M.SymMemory.terms g.M.SymMemory.asked g.M.SymMemory.depends g.M.SymMemory.plain g.M.SymMemory.keeps_plain g.M.SymMemory.kept q e path) (TellsNothing g.M.Local.LocalMemory.memory g.M.Local.LocalMemory.actions g.M.SymMemory.stands g.M.SymMemory.terms g.M.SymMemory.asked g.M.SymMemory.depends g.M.SymMemory.plain g.M.SymMemory.keeps_plain g.M.SymMemory.kept q e path)) c.in-Nothing.is c.in_ok-found.ensures.cover in
    let (how, (ends, told)) = told_there path.ending c.requires.told in
    (λ r provided. provided, λ r wanted a begins accounts. absurd (nothing p n how explored c.requires.no_draw ends told))

pub returns-in-Found-clause-decided : goal.returns-in-Found-clause-decided
returns-in-Found-clause-decided g c =
    on_ok_weaker c.find.result (λ is may. told_alone (inference_view c.args.inference.now) (inference_view c.find.new.self) (found_view c.in-Found.found) is) c.find.ensures

pub returns-in_ok-ask_end-in-Unsaid-clause-decided : goal.returns-in_ok-ask_end-in-Unsaid-clause-decided
returns-in_ok-ask_end-in-Unsaid-clause-decided g c = λ may. absurd (subst (λ t. ¬ IsUnsaid t) c.in-Unsaid.is (c.in_ok-found.ensures.said may) tt)

pub returns-in-Nothing-clause-decided : goal.returns-in-Nothing-clause-decided
returns-in-Nothing-clause-decided g c = λ may. same_alone (inference_view c.args.inference.now)

pub returns-in-Found-clause-narrow_cover : goal.returns-in-Found-clause-narrow_cover
returns-in-Found-clause-narrow_cover g c =
    let q = proc_view c.args.proc.now in
    let e = entry_view c.args.beginning.now in
    let path = path_view c.args.path in
    let found = found_view c.in-Found.found in
    let i = inference_view c.args.inference.now in
    let along = subst (λ t. MatchTold t (IsMetAlong g.M.Local.LocalMemory.memory g.M.Local.LocalMemory.actions g.M.SymMemory.stands g.M.SymMemory.terms g.M.SymMemory.asked g.M.SymMemory.depends g.M.SymMemory.plain g.M.SymMemory.keeps_plain g.M.SymMemory.kept q e path) (TellsNothing g.M.Local.LocalMemory.memory g.M.Local.LocalMemory.actions g.M.SymMemory.stands g.M.SymMemory.terms g.M.SymMemory.asked g.M.SymMemory.depends g.M.SymMemory.plain g.M.SymMemory.keeps_plain g.M.SymMemory.kept q e path)) c.in-Found.is c.in_ok-found.ensures.cover in
    on_ok_weaker c.find.result
    (λ is p n b explored. (
      found_keeps p g.M.Local.LocalMemory.memory g.M.Local.LocalMemory.actions q n i (inference_view c.find.new.self) found is,
      λ r wanted a begins accounts said.
          found_provides p g.M.Local.LocalMemory.memory g.M.Local.LocalMemory.actions q n i (inference_view c.find.new.self) found r is
          (covered_by_told p g.M.Local.LocalMemory.memory g.M.Local.LocalMemory.actions g.met.M.Local.LocalMemory.laws g.M.SymMemory.stands g.M.SymMemory.terms g.M.SymMemory.asked g.M.SymMemory.depends g.M.SymMemory.plain g.M.SymMemory.keeps_plain g.M.SymMemory.kept q e path n explored b r wanted a begins accounts found along i.founds c.requires.told),
    )) c.find.ensures

pub returns-in_ok-ask_end-in-Unsaid-clause-narrow_cover : goal.returns-in_ok-ask_end-in-Unsaid-clause-narrow_cover
returns-in_ok-ask_end-in-Unsaid-clause-narrow_cover g c = λ p n b explored.
    let q = proc_view c.args.proc.now in
    let i = inference_view c.args.inference.now in
    let j = inference_view c.leave.new.self in
    let x = asked_view c.in_ok-ask_end-in-Unsaid.field-0 in
    (left_keeps p g.M.Local.LocalMemory.memory g.M.Local.LocalMemory.actions q n i j x c.leave.ensures, λ r wanted a begins accounts said. absurd (subst (λ t. ¬ IsUnsaid t) c.in-Unsaid.is (c.in_ok-found.ensures.said said) tt))

pub returns-in-Nothing-clause-narrow_cover : goal.returns-in-Nothing-clause-narrow_cover
returns-in-Nothing-clause-narrow_cover g c = λ p n b explored.
    let q = proc_view c.args.proc.now in
    let e = entry_view c.args.beginning.now in
    let path = path_view c.args.path in
    let nothing = subst (λ t. MatchTold t (IsMetAlong g.M.Local.LocalMemory.memory g.M.Local.LocalMemory.actions g.M.SymMemory.stands g.M.SymMemory.terms g.M.SymMemory.asked g.M.SymMemory.depends g.M.SymMemory.plain g.M.SymMemory.keeps_plain g.M.SymMemory.kept q e path) (TellsNothing g.M.Local.LocalMemory.memory g.M.Local.LocalMemory.actions g.M.SymMemory.stands g.M.SymMemory.terms g.M.SymMemory.asked g.M.SymMemory.depends g.M.SymMemory.plain g.M.SymMemory.keeps_plain g.M.SymMemory.kept q e path)) c.in-Nothing.is c.in_ok-found.ensures.cover in
    let (how, (ends, told)) = told_there path.ending c.requires.told in
    (λ r provided. provided, λ r wanted a begins accounts said. absurd (nothing p n how explored c.requires.no_draw ends told))

pub returns-in-Found-clause-asked : goal.returns-in-Found-clause-asked
returns-in-Found-clause-asked g c =
    on_ok_weaker c.find.result
    (λ is n explored. adds_found (prog_view c.args.prog.now) (proc_view c.args.proc.now) (path_view c.args.path) (inference_view c.args.inference.now) (inference_view c.find.new.self) (found_view c.in-Found.found) is)
    c.find.ensures

pub returns-in_ok-ask_end-in-Unsaid-clause-asked : goal.returns-in_ok-ask_end-in-Unsaid-clause-asked
returns-in_ok-ask_end-in-Unsaid-clause-asked g c = λ n explored.
    let p = prog_view c.args.prog.now in
    let q = proc_view c.args.proc.now in
    let e = entry_view c.args.beginning.now in
    let path = path_view c.args.path in
    let asked = c.in_ok-ask_end-in-Unsaid.field-0 in
    let says = c.in_ok-ask_end-in-Unsaid.ensures in
    let t = term_view c.in-Unsaid.term in
    let unsaid : ¬ MayBeSaid q e path = λ may. subst (λ told. ¬ IsUnsaid told) c.in-Unsaid.is (c.in_ok-found.ensures.said may) tt in
    adds_left p q path (inference_view c.args.inference.now) (inference_view c.leave.new.self) (asked_view asked) c.leave.ensures
    (record {
      no_draw = c.requires.no_draw;
      vars = says.vars ∙ c.into_ended.ensures.vars;
      choices = says.choices ∙ c.into_ended.ensures.choices;
      given = says.given ∙ c.into_ended.ensures.given;
      why = inr (inr (record {
        told = c.requires.told;
        at_place = subst (IsPlaceOfEnd p path path.ending) (sym says.place) c.in_ok-place-in-Unsaid.ensures;
        asks = unsaid_why p g.M.Local.LocalMemory.memory g.M.Local.LocalMemory.actions g.M.SymMemory.stands g.M.SymMemory.terms g.M.SymMemory.asked g.M.SymMemory.depends g.M.SymMemory.plain g.M.SymMemory.keeps_plain g.M.SymMemory.kept q n e path explored c.requires.told unsaid t (atoms_view asked.query) (says.query ∙ ap (λ conds. asked_of_end conds t) c.into_ended.ensures.conds);
      }));
    })

pub returns-in-Nothing-clause-asked : goal.returns-in-Nothing-clause-asked
returns-in-Nothing-clause-asked g c = λ n explored. adds_nothing (prog_view c.args.prog.now) (proc_view c.args.proc.now) (path_view c.args.path) (inference_view c.args.inference.now)
