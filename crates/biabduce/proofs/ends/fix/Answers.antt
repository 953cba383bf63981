use Rattle.std.proofs.Common.{◌+◌, [], ◌∷◌, ◌++◌, length, Some, inl, inr, sym, ap, subst, ◌∙◌}
use Rattle.std.proofs.lemmas.Result.{on_ok_weaker}
use Rattle.pure_terms.specs.Fragment.{InFragment}
use Rattle.pure_terms.specs.Pure.{opening}
use Rattle.pure_terms.specs.View.{atoms_view, term_view}
use Rattle.sym_model.specs.Lists.{Each, IsAmong}
use Rattle.sym_model.specs.View.{key_view}
use Rattle.sym_model.proofs.ListLaws.{each_to}
use Rattle.sym_paths.specs.Pure.{missed}
use Rattle.bi_beginnings.specs.Beginnings.{IsBeginning}
use Rattle.bi_beginnings.specs.Fixing.{IsLed}
use Rattle.bi_beginnings.specs.Missing.{AwaitsAgain, LeavesNothing}
use Rattle.bi_beginnings.specs.Narrowly.{IsNarrowAgain}
use Rattle.bi_beginnings.specs.View.{beginning_view, beginnings_view, again_view}
use Rattle.biabduce.specs.Asked.{ComesOf}
use Rattle.biabduce.specs.Narrowly.{numbers_at}
use Rattle.biabduce.specs.View.{asked_view, inference_view}
use Rattle.biabduce.proofs.Asking.{adds_left, adds_begun}
use Rattle.biabduce.proofs.Decided.{begun_decided}
use Rattle.biabduce.proofs.NarrowPaths.{begun_more}
use Rattle.biabduce.proofs.Keeping.{after_begun, after_left}
use Rattle.biabduce.proofs.Outside.{open_outside}
use Rattle.biabduce.proofs.Providing.{keeps_begun, begun_awaits, keeps_left, left_some}
use Rattle.biabduce.proofs.ProvidingNarrowly.{begun_keeps, begun_provides, left_keeps}
use Rattle.biabduce.proofs.ends.fix.Goals as goal

pub returns-in-With-clause-sound : goal.returns-in-With-clause-sound
returns-in-With-clause-sound g c =
    on_ok_weaker c.begin_with.result
    (λ is p q n sound beginning.
    after_begun p g.M.Local.LocalMemory.memory g.M.Local.LocalMemory.actions q n (inference_view c.args.inference.now) (inference_view c.begin_with.new.self) (beginnings_view c.in-With.beginnings) is sound
    (subst (λ again. Each (IsBeginning g.M.Local.LocalMemory.memory q.params) (again_view again)) c.in-With.is (c.in_ok-beginnings.ensures.beginnings q.params beginning)))
    c.begin_with.ensures

pub returns-in_ok-ask_form-in-Late-clause-sound : goal.returns-in_ok-ask_form-in-Late-clause-sound
returns-in_ok-ask_form-in-Late-clause-sound g c = λ p q n sound beginning.
    after_left p g.M.Local.LocalMemory.memory g.M.Local.LocalMemory.actions q n (inference_view c.args.inference.now) (inference_view c.leave.new.self) (asked_view c.in_ok-ask_form-in-Late.field-0) c.leave.ensures sound
    (subst (λ atoms. ¬ InFragment atoms) (sym c.in_ok-ask_form-in-Late.ensures.query) (open_outside (atoms_view c.args.path.conds) (term_view c.in_ok-term-in-Late.term)))

pub returns-in-With-clause-cover : goal.returns-in-With-clause-cover
returns-in-With-clause-cover g c =
    let i = inference_view c.args.inference.now in
    let j = inference_view c.begin_with.new.self in
    let more = beginnings_view c.in-With.beginnings in
    let b = beginning_view c.args.beginning.now in
    on_ok_weaker c.begin_with.result
    (λ is p q beginning. (
      keeps_begun p g.M.Local.LocalMemory.memory g.M.Local.LocalMemory.actions q c.args.bound i j more is,
      λ r missed.
          begun_awaits p g.M.Local.LocalMemory.memory g.M.Local.LocalMemory.actions q c.args.bound i j more r is
          (subst (AwaitsAgain g.M.Local.LocalMemory.memory g.M.Local.LocalMemory.actions q.params c.args.bound b c.args.path.vars (atoms_view c.args.path.conds) (key_view c.args.key.now)) c.in-With.is (c.in_ok-beginnings.ensures.cover q.params beginning)
          r.args r.heap r.counter missed),
    ))
    c.begin_with.ensures

pub returns-in_ok-ask_form-in-Late-clause-cover : goal.returns-in_ok-ask_form-in-Late-clause-cover
returns-in_ok-ask_form-in-Late-clause-cover g c = λ p q beginning.
    let i = inference_view c.args.inference.now in
    let j = inference_view c.leave.new.self in
    let x = asked_view c.in_ok-ask_form-in-Late.field-0 in
    (keeps_left p g.M.Local.LocalMemory.memory g.M.Local.LocalMemory.actions q c.args.bound i j x c.leave.ensures, λ r missed. inl (left_some p g.M.Local.LocalMemory.memory g.M.Local.LocalMemory.actions q c.args.bound i j x c.leave.ensures))

pub returns-in-With-clause-decided : goal.returns-in-With-clause-decided
returns-in-With-clause-decided g c =
    on_ok_weaker c.begin_with.result
    (λ is at.
    begun_decided (inference_view c.args.inference.now) (inference_view c.begin_with.new.self) (beginnings_view c.in-With.beginnings) is
    (subst LeavesNothing c.in-With.is (c.in_ok-beginnings.ensures.nothing at)))
    c.begin_with.ensures

pub returns-in_ok-ask_form-in-Late-clause-decided : goal.returns-in_ok-ask_form-in-Late-clause-decided
returns-in_ok-ask_form-in-Late-clause-decided g c = λ at. absurd (subst LeavesNothing c.in-Late.is (c.in_ok-beginnings.ensures.nothing at))

pub returns-in-With-clause-narrow : goal.returns-in-With-clause-narrow
returns-in-With-clause-narrow g c = λ keep.
    let i = inference_view c.args.inference.now in
    let j = inference_view c.begin_with.new.self in
    let b = beginning_view c.args.beginning.now in
    on_ok_weaker c.begin_with.result
    (λ is n misses.
    begun_more n c.args.bound b i j (beginnings_view c.in-With.beginnings) is
    (subst (IsNarrowAgain c.args.bound n b) c.in-With.is (c.in_ok-beginnings.ensures.narrow keep n misses)))
    c.begin_with.ensures

pub returns-in_ok-ask_form-in-Late-clause-narrow : goal.returns-in_ok-ask_form-in-Late-clause-narrow
returns-in_ok-ask_form-in-Late-clause-narrow g c = λ keep n misses.
    absurd (subst (IsNarrowAgain c.args.bound n (beginning_view c.args.beginning.now)) c.in-Late.is (c.in_ok-beginnings.ensures.narrow keep n misses))

pub returns-in-With-clause-narrow_cover : goal.returns-in-With-clause-narrow_cover
returns-in-With-clause-narrow_cover g c = λ keep.
    let memory = g.M.Local.LocalMemory.memory in
    let m = g.M.Local.LocalMemory.actions in
    let i = inference_view c.args.inference.now in
    let j = inference_view c.begin_with.new.self in
    let more = beginnings_view c.in-With.beginnings in
    let b = beginning_view c.args.beginning.now in
    let last = numbers_at (length b.uses + 1) in
    on_ok_weaker c.begin_with.result
    (λ is p q beginning. (
      begun_keeps p memory m q c.args.bound i j more is,
      λ r left misses missed.
          begun_provides p memory m q c.args.bound b i j more r left is
          (subst (IsNarrowAgain c.args.bound last b) c.in-With.is (c.in_ok-beginnings.ensures.narrow keep last misses))
          (subst (AwaitsAgain memory m q.params c.args.bound b c.args.path.vars (atoms_view c.args.path.conds) (key_view c.args.key.now)) c.in-With.is (c.in_ok-beginnings.ensures.cover q.params beginning)
          r.args r.heap r.counter missed),
    ))
    c.begin_with.ensures

pub returns-in_ok-ask_form-in-Late-clause-narrow_cover : goal.returns-in_ok-ask_form-in-Late-clause-narrow_cover
returns-in_ok-ask_form-in-Late-clause-narrow_cover g c = λ keep p q beginning.
    let i = inference_view c.args.inference.now in
    let j = inference_view c.leave.new.self in
    let x = asked_view c.in_ok-ask_form-in-Late.field-0 in
    let b = beginning_view c.args.beginning.now in
    let last = numbers_at (length b.uses + 1) in (
      left_keeps p g.M.Local.LocalMemory.memory g.M.Local.LocalMemory.actions q c.args.bound i j x c.leave.ensures,
      λ r left misses missed. absurd (subst (IsNarrowAgain c.args.bound last b) c.in-Late.is (c.in_ok-beginnings.ensures.narrow keep last misses)),
    )

pub returns-in-With-clause-asked : goal.returns-in-With-clause-asked
returns-in-With-clause-asked g c =
    on_ok_weaker c.begin_with.result
    (λ is p q way same ending.
    adds_begun p q way (inference_view c.args.inference.now) (inference_view c.begin_with.new.self) (beginnings_view c.in-With.beginnings) is
    (each_to (IsLed c.args.place c.args.path.choices (atoms_view c.args.path.conds)) (ComesOf way) (beginnings_view c.in-With.beginnings)
    (λ b led. record {
      no_draw = same.no_draw;
      key = key_view c.args.key.now;
      ending = ending ∙ ap (λ here. Some (missed (key_view c.args.key.now) here)) (sym led.there);
      choices = led.chosen ∙ same.choices_same;
      carried = subst (λ conds. Each (λ a. IsAmong a conds) b.conds) same.conds_same led.carried;
    })
    (subst (λ again. Each (IsLed c.args.place c.args.path.choices (atoms_view c.args.path.conds)) (again_view again)) c.in-With.is c.in_ok-beginnings.ensures.led)))
    c.begin_with.ensures

pub returns-in_ok-ask_form-in-Late-clause-asked : goal.returns-in_ok-ask_form-in-Late-clause-asked
returns-in_ok-ask_form-in-Late-clause-asked g c = λ p q way same ending.
    let key = key_view c.args.key.now in
    let t = term_view c.in_ok-term-in-Late.term in
    let says = c.in_ok-ask_form-in-Late.ensures in
    adds_left p q way (inference_view c.args.inference.now) (inference_view c.leave.new.self) (asked_view c.in_ok-ask_form-in-Late.field-0) c.leave.ensures
    (record {
      no_draw = same.no_draw;
      vars = says.vars ∙ same.vars_same;
      choices = says.choices ∙ same.choices_same;
      given = says.given ∙ same.given_same;
      why = inr (inl (record {
        key = key;
        ending = ending ∙ ap (λ here. Some (missed key here)) (sym says.place);
        term = t;
        of_key = c.in_ok-term-in-Late.ensures;
        asks = says.query ∙ ap (λ conds. conds ++ opening t ∷ []) same.conds_same;
      }));
    })
