use Rattle.std.proofs.Common.{◌≡◌, ◌++◌, ◌∷◌, [], Some, map, take, slice_get, sym, ap, subst}
use Rattle.gil_syntax.specs.Program.{prog_view}
use Rattle.gil_syntax.specs.View.{assertion_view}
use Rattle.gil_values.proofs.Lists.{slice_get-read}
use Rattle.sym_model.proofs.ListLaws.{each_append, each_at, each_to, one_at}
use Rattle.sym_model.specs.Lists.{Each}
use Rattle.sym_states.specs.Producing.{MayAdd}
use Rattle.sym_unfolding.proofs.AddLaws.{map_more}
use Rattle.checked_paths.specs.View.{checking_view, entry_view, nexts_view}
use Rattle.call_rows.specs.Gathering.{GathersNexts}
use Rattle.call_rows.specs.Posts.{AnswersPost, AnswersOneOf}
use Rattle.call_rows.specs.View.{ready_view}
use Rattle.call_rows.proofs.GatheringLaws.{gathers_last}
use Rattle.checked_rows.specs.Asking.{AddsTo}
use Rattle.call_rows.specs.Asked.{AsksPost, AsksPosts}
use Rattle.call_rows.proofs.AskedLaws.{adds_to}
use Rattle.call_rows.proofs.posts.posts_nexts.Goals as goal

pub post_nexts-requires-clause-addable : goal.post_nexts-requires-clause-addable
post_nexts-requires-clause-addable g c =
    let bodies = c.as_slice-bodies.result.now in
    each_at (Each (MayAdd g.M.Local.LocalMemory.memory)) (map assertion_view bodies) c.loop-number.number (assertion_view c.index-bodies-number.result)
    (subst (λ xs. Each (Each (MayAdd g.M.Local.LocalMemory.memory)) (map assertion_view xs)) (sym c.as_slice-bodies.ensures) c.requires.addable)
    (slice_get-read assertion_view bodies c.loop-number.number c.index-bodies-number.result c.loop-number-test.true c.index-bodies-number.is)

pub loop-number-init : goal.loop-number-init
loop-number-init g c =
    let Own = AsksPosts (prog_view c.args.prog.now) (entry_view c.args.spec.now c.args.entered.now) c.args.how (ready_view c.args.ready.now).store (map assertion_view c.as_slice-bodies.result.now) in
    record {
      answered = ap nexts_view c.new-nexts.ensures;
      asked = subst (Each (AddsTo Own (ready_view c.args.ready.now).state.conds)) (sym (ap nexts_view c.new-nexts.ensures)) tt;
    }

pub loop-number-preserved : goal.loop-number-preserved
loop-number-preserved g c =
    let xs = c.as_slice-bodies.result.now in
    let i = c.loop-number.number in
    let body = assertion_view c.index-bodies-number.result in
    let P = AnswersPost (prog_view c.args.prog.now) g.M.Local.LocalMemory.memory g.M.SymMemory.stands g.M.SymMemory.terms g.M.SymMemory.kept (entry_view c.args.spec.now c.args.entered.now) (checking_view c.args.checking.now) c.args.here.now c.args.scope.now (ready_view c.args.ready.now) c.args.how in
    let R = AnswersOneOf (prog_view c.args.prog.now) g.M.Local.LocalMemory.memory g.M.SymMemory.stands g.M.SymMemory.terms g.M.SymMemory.kept (entry_view c.args.spec.now c.args.entered.now) (checking_view c.args.checking.now) c.args.here.now c.args.scope.now (ready_view c.args.ready.now) c.args.how c.args.first (map assertion_view xs) in
    let at : slice_get (map assertion_view xs) i ≡ Some body = slice_get-read assertion_view xs i c.index-bodies-number.result c.loop-number-test.true c.index-bodies-number.is in
    let bs = (ready_view c.args.ready.now).store in
    let conds = (ready_view c.args.ready.now).state.conds in
    let One = AsksPost (prog_view c.args.prog.now) (entry_view c.args.spec.now c.args.entered.now) c.args.how bs in
    let Own = AsksPosts (prog_view c.args.prog.now) (entry_view c.args.spec.now c.args.entered.now) c.args.how bs (map assertion_view xs) in
    record {
      answered =
          subst (λ ps. GathersNexts R ps (nexts_view c.in_ok-nexts.nexts)) (sym (map_more assertion_view xs i c.index-bodies-number.result c.loop-number-test.true c.index-bodies-number.is))
          (subst (GathersNexts R (map assertion_view (take i xs) ++ body ∷ [])) (sym c.in_ok-nexts.ensures)
          (gathers_last R (map assertion_view (take i xs)) body (nexts_view c.loop-number.nexts) (nexts_view c.in_ok-more.more) c.loop-number.invariant.answered
          (i, (at, subst (λ number. P number body (nexts_view c.in_ok-more.more)) c.in_ok-choice.ensures c.in_ok-more.ensures.answers))));
      asked = subst (Each (AddsTo Own conds)) (sym c.in_ok-nexts.ensures)
          (each_append (AddsTo Own conds) (nexts_view c.loop-number.nexts) (nexts_view c.in_ok-more.more) c.loop-number.invariant.asked
          (each_to (AddsTo (One body) conds) (AddsTo Own conds) (nexts_view c.in_ok-more.more) (λ k adds. adds_to (One body) Own (λ a asks. one_at (λ items. One items a) (map assertion_view xs) i body at asks) conds k adds) c.in_ok-more.ensures.asked));
    }

pub returns-clause-asked : goal.returns-clause-asked
returns-clause-asked g c =
    let Own = AsksPosts (prog_view c.args.prog.now) (entry_view c.args.spec.now c.args.entered.now) c.args.how (ready_view c.args.ready.now).store in
    subst (λ xs. Each (AddsTo (Own (map assertion_view xs)) (ready_view c.args.ready.now).state.conds) (nexts_view c.loop-number.nexts)) c.as_slice-bodies.ensures c.loop-number.invariant.asked
