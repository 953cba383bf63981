use Rattle.std.proofs.Common.{◌≡◌, Some, inl, rules, sym, ap, subst, ◌∙◌}
use Rattle.std.specs.Option.{option_map}
use Rattle.std.proofs.lemmas.Result.{on_ok_weaker}
use Rattle.pure_terms.specs.Fragment.{InFragment}
use Rattle.pure_terms.specs.View.{atoms_view}
use Rattle.sym_model.specs.View.{key_view}
use Rattle.sym_paths.specs.Pure.{missed, unknown}
use Rattle.sym_paths.specs.View.{end_view}
use Rattle.bi_beginnings.specs.View.{beginning_view}
use Rattle.biabduce.specs.Covering.{Keeps, CoversEnd}
use Rattle.biabduce.specs.Decided.{IsClosed}
use Rattle.biabduce.specs.Narrowly.{IsNarrowlyClosed}
use Rattle.biabduce.specs.NarrowRuns.{KeepsNarrowly, CoversNarrowEnd}
use Rattle.biabduce.specs.View.{asked_view, inference_view}
use Rattle.biabduce.proofs.Asking.{adds_left, adds_nothing}
use Rattle.biabduce.proofs.Keeping.{after_left}
use Rattle.biabduce.proofs.NarrowPaths.{nothing_begun}
use Rattle.biabduce.proofs.Providing.{keeps_left, left_some}
use Rattle.biabduce.proofs.ProvidingNarrowly.{left_keeps}
use Rattle.biabduce.proofs.ends.go_on.Goals as goal

pub returns-in-Some-Missed-clause-sound : goal.returns-in-Some-Missed-clause-sound
returns-in-Some-Missed-clause-sound g c = on_ok_weaker c.fix.result (λ tells p q n sound beginning undecided. tells p q n sound beginning) c.fix.ensures.sound

pub returns-in-Some-Unknown-clause-sound : goal.returns-in-Some-Unknown-clause-sound
returns-in-Some-Unknown-clause-sound g c = λ p q n sound beginning undecided.
    let end : option_map end_view c.args.path.end ≡ Some (unknown c.in-Some-Unknown.place c.in-Some-Unknown.reason) = search rules in
    after_left p g.M.Local.LocalMemory.memory g.M.Local.LocalMemory.actions q n (inference_view c.args.inference.now) (inference_view c.leave.new.self) (asked_view c.ask_conditions.result) c.leave.ensures sound
    (subst (λ atoms. ¬ InFragment atoms) (sym c.ask_conditions.ensures.query) (undecided c.in-Some-Unknown.place c.in-Some-Unknown.reason end))

pub returns-in-Some-Missed-clause-cover : goal.returns-in-Some-Missed-clause-cover
returns-in-Some-Missed-clause-cover g c =
    let end : option_map end_view c.args.path.end ≡ Some (missed (key_view c.in-Some-Missed.key) c.in-Some-Missed.place) = search rules in
    let j = inference_view c.fix.new.inference in
    on_ok_weaker c.fix.result (λ tells p q beginning. subst (λ o. Keeps p g.M.Local.LocalMemory.memory g.M.Local.LocalMemory.actions q c.args.bound (inference_view c.args.inference.now) j × CoversEnd p g.M.Local.LocalMemory.memory g.M.Local.LocalMemory.actions q c.args.bound (beginning_view c.args.beginning.now) c.args.path.vars (atoms_view c.args.path.conds) o j) (sym end) (tells p q beginning)) c.fix.ensures.cover

pub returns-in-Some-Unknown-clause-cover : goal.returns-in-Some-Unknown-clause-cover
returns-in-Some-Unknown-clause-cover g c = λ p q beginning.
    let end : option_map end_view c.args.path.end ≡ Some (unknown c.in-Some-Unknown.place c.in-Some-Unknown.reason) = search rules in
    let i = inference_view c.args.inference.now in
    let j = inference_view c.leave.new.self in
    let x = asked_view c.ask_conditions.result in
    subst (λ o. Keeps p g.M.Local.LocalMemory.memory g.M.Local.LocalMemory.actions q c.args.bound (inference_view c.args.inference.now) j × CoversEnd p g.M.Local.LocalMemory.memory g.M.Local.LocalMemory.actions q c.args.bound (beginning_view c.args.beginning.now) c.args.path.vars (atoms_view c.args.path.conds) o j) (sym end) (keeps_left p g.M.Local.LocalMemory.memory g.M.Local.LocalMemory.actions q c.args.bound i j x c.leave.ensures, left_some p g.M.Local.LocalMemory.memory g.M.Local.LocalMemory.actions q c.args.bound i j x c.leave.ensures)

pub returns-in-Some-Missed-clause-decided : goal.returns-in-Some-Missed-clause-decided
returns-in-Some-Missed-clause-decided g c =
    let end : option_map end_view c.args.path.end ≡ Some (missed (key_view c.in-Some-Missed.key) c.in-Some-Missed.place) = search rules in
    on_ok_weaker c.fix.result (λ tells closed. tells (subst (IsClosed g.M.Local.LocalMemory.memory c.args.path.vars) end closed)) c.fix.ensures.decided

pub returns-in-Some-Unknown-clause-decided : goal.returns-in-Some-Unknown-clause-decided
returns-in-Some-Unknown-clause-decided g c = λ closed.
    let end : option_map end_view c.args.path.end ≡ Some (unknown c.in-Some-Unknown.place c.in-Some-Unknown.reason) = search rules in
    absurd (subst (IsClosed g.M.Local.LocalMemory.memory c.args.path.vars) end closed)

pub returns-in-Some-Missed-clause-narrow : goal.returns-in-Some-Missed-clause-narrow
returns-in-Some-Missed-clause-narrow g c = λ keep.
    let end : option_map end_view c.args.path.end ≡ Some (missed (key_view c.in-Some-Missed.key) c.in-Some-Missed.place) = search rules in
    let b = beginning_view c.args.beginning.now in
    on_ok_weaker c.fix.result (λ tells n closed. tells n (subst (IsNarrowlyClosed g.M.Local.LocalMemory.memory n b c.args.path.vars (atoms_view c.args.path.conds)) end closed)) (c.fix.ensures.narrow keep)

pub returns-in-Some-Unknown-clause-narrow : goal.returns-in-Some-Unknown-clause-narrow
returns-in-Some-Unknown-clause-narrow g c = λ keep n closed.
    let end : option_map end_view c.args.path.end ≡ Some (unknown c.in-Some-Unknown.place c.in-Some-Unknown.reason) = search rules in
    absurd (subst (IsNarrowlyClosed g.M.Local.LocalMemory.memory n (beginning_view c.args.beginning.now) c.args.path.vars (atoms_view c.args.path.conds)) end closed)

pub returns-in_default-clause-narrow : goal.returns-in_default-clause-narrow
returns-in_default-clause-narrow g c = λ keep n closed. nothing_begun n c.args.bound (beginning_view c.args.beginning.now) (inference_view c.args.inference.now)

pub returns-in-Some-Missed-clause-narrow_cover : goal.returns-in-Some-Missed-clause-narrow_cover
returns-in-Some-Missed-clause-narrow_cover g c = λ keep.
    let end : option_map end_view c.args.path.end ≡ Some (missed (key_view c.in-Some-Missed.key) c.in-Some-Missed.place) = search rules in
    let j = inference_view c.fix.new.inference in
    on_ok_weaker c.fix.result (λ tells p q beginning. subst (λ o. KeepsNarrowly p g.M.Local.LocalMemory.memory g.M.Local.LocalMemory.actions q c.args.bound (inference_view c.args.inference.now) j × CoversNarrowEnd p g.M.Local.LocalMemory.memory g.M.Local.LocalMemory.actions q c.args.bound (beginning_view c.args.beginning.now) c.args.path.vars (atoms_view c.args.path.conds) o j) (sym end) (tells p q beginning)) (c.fix.ensures.narrow_cover keep)

pub returns-in-Some-Unknown-clause-narrow_cover : goal.returns-in-Some-Unknown-clause-narrow_cover
returns-in-Some-Unknown-clause-narrow_cover g c = λ keep p q beginning.
    let end : option_map end_view c.args.path.end ≡ Some (unknown c.in-Some-Unknown.place c.in-Some-Unknown.reason) = search rules in
    let i = inference_view c.args.inference.now in
    let j = inference_view c.leave.new.self in
    let x = asked_view c.ask_conditions.result in
    subst (λ o. KeepsNarrowly p g.M.Local.LocalMemory.memory g.M.Local.LocalMemory.actions q c.args.bound i j × CoversNarrowEnd p g.M.Local.LocalMemory.memory g.M.Local.LocalMemory.actions q c.args.bound (beginning_view c.args.beginning.now) c.args.path.vars (atoms_view c.args.path.conds) o j) (sym end)
    (left_keeps p g.M.Local.LocalMemory.memory g.M.Local.LocalMemory.actions q c.args.bound i j x c.leave.ensures, tt)

pub returns-in-Some-Missed-clause-asked : goal.returns-in-Some-Missed-clause-asked
returns-in-Some-Missed-clause-asked g c =
    let end : option_map end_view c.args.path.end ≡ Some (missed (key_view c.in-Some-Missed.key) c.in-Some-Missed.place) = search rules in
    on_ok_weaker c.fix.result (λ tells p q way same ending. tells p q way same (sym ending ∙ end)) c.fix.ensures.asked

pub returns-in-Some-Unknown-clause-asked : goal.returns-in-Some-Unknown-clause-asked
returns-in-Some-Unknown-clause-asked g c = λ p q way same ending.
    let end : option_map end_view c.args.path.end ≡ Some (unknown c.in-Some-Unknown.place c.in-Some-Unknown.reason) = search rules in
    let says = c.ask_conditions.ensures in
    adds_left p q way (inference_view c.args.inference.now) (inference_view c.leave.new.self) (asked_view c.ask_conditions.result) c.leave.ensures
    (record {
      no_draw = same.no_draw;
      vars = says.vars ∙ same.vars_same;
      choices = says.choices ∙ same.choices_same;
      given = says.given ∙ same.given_same;
      why = inl (record {
        reason = c.in-Some-Unknown.reason;
        ending = sym ending ∙ end ∙ ap (λ here. Some (unknown here c.in-Some-Unknown.reason)) (sym says.place);
        asks = says.query ∙ same.conds_same;
      });
    })

pub returns-in_default-clause-asked : goal.returns-in_default-clause-asked
returns-in_default-clause-asked g c = λ p q way same ending. adds_nothing p q way (inference_view c.args.inference.now)
