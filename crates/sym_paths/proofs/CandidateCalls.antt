-- The candidates of a call keep the laws.
use Rattle.std.proofs.Common.{◌≡◌, ◌⊎◌, inl, inr, ℕ, suc, ◌+◌, ℤ, List, [], ◌∷◌, ◌++◌, length, Bool, true, false, ◌==◌, ◌&&◌, if◌then◌else◌, MatchBool, Option, Some, None, Result, Ok, Err, IsTrue, is_some, codes, refl, sym, ap, subst, ◌∙◌, true≢false}
use Rattle.std.specs.Str.{bytes_eq}
use Rattle.std.proofs.lemmas.List.{append-nil}
use Rattle.gil_values.specs.declared.kinds.Kind.{Kind}
use Rattle.gil_values.specs.declared.places.Place.{Place}
use Rattle.gil_values.specs.Equality.{same_kind}
use Rattle.gil_values.specs.Operators.{Fault, Outcome}
use Rattle.gil_values.specs.Pure.{PureValue, integer, boolean, text, symbol, kind, procedure, list, kind_of}
use Rattle.gil_syntax.specs.Evaluation.{Store, value_of, Outcomes, evaluate, evaluate_all}
use Rattle.gil_syntax.specs.Programs.{find_proc}
use Rattle.gil_syntax.specs.Pure.{PureParts, PureProc, PureExpr, PureNumberedCommand, call}
use Rattle.gil_machine.specs.Choices.{choice_of}
use Rattle.gil_machine.specs.State.{Frame, State, Step}
use Rattle.gil_machine.specs.Step.{step, do_command, with_value, with_values, bind_all, enter, enter_found, enter_value, fails_with, handler_label}
use Rattle.mem_model.specs.Actions.{Actions}
use Rattle.mem_model.specs.Heaps.{Heap}
use Rattle.pure_terms.specs.declared.literals.Literal.{Literal}
use Rattle.pure_terms.specs.Kinds.{allows, known_kind}
use Rattle.pure_terms.specs.Meaning.{value, values, all_true, IsOver}
use Rattle.pure_terms.specs.Pure.{PureTerm, literal, variable, list_of, unary_of, binary_of, from_list, PureAtom, opening, term_of}
use Rattle.pure_terms.proofs.KindLaws.{known_kinds_are_right}
use Rattle.pure_terms.proofs.VariableLaws.{stay_when_tables_grow}
use Rattle.sym_evaluation.specs.Meaning.{AreSame}
use Rattle.sym_evaluation.specs.Pure.{PureStore, term_at, PureGoodCase, PureCases}
use Rattle.sym_evaluation.specs.Questions.{IsAsked, IsTermOf, AreTermsOf, EachCondition, OnConditions, OnResult, AreEachOver}
use Rattle.sym_model.specs.Lists.{Each, OneOf, IsAmong}
use Rattle.sym_model.specs.Terms.{StateTerms, is_literal}
use Rattle.sym_model.proofs.Asking.{both_parts}
use Rattle.sym_model.proofs.ListLaws.{same_some, not_none, each_append, each_left, each_to}
use Rattle.sym_paths.specs.Valued.{place_at, IsEvaluated}
use Rattle.sym_paths.specs.Meaning.{AreFrames, Stands, StandsForStep, OfEachName, IsOverTable, command_of_path}
use Rattle.sym_paths.specs.Moves.{running_store, NoOwn}
use Rattle.sym_paths.specs.Pure.{PureFrame, PurePath}
use Rattle.sym_paths.specs.Settling.{Candidate, AreCandidates}
use Rattle.sym_paths.specs.Steps.{new_sorts, makes_choice, GoesOnAs, MayAssume}
use Rattle.sym_paths.proofs.Assuming.{assumes_rightly}
use Rattle.sym_evaluation.proofs.AskedAtoms.{NeedsNone, asked_closed, one_asked_closed}
use Rattle.sym_paths.proofs.Growing.{later_among}
use Rattle.sym_paths.proofs.Moving.{open_is_known}
use Rattle.sym_paths.proofs.Origins.{follows_going}
use Rattle.sym_paths.proofs.Recording.{same_records}
use Rattle.sym_paths.proofs.Silent.{same_and_none}
use Rattle.sym_paths.specs.Cases.{AreOfCases, AreEvaluated}
use Rattle.sym_paths.specs.Calls.{Called, call_cases, terms_bound, IsFirstStore, waiting, entering, fails_to_call, needs_callee, EntersFound, CallsOpen, CallsTerm, Calls, IsAskedByCall, CallsKeepTheLaws}
use Rattle.sym_paths.proofs.CallCases.{both_of, AreCalled, AreCalledOver, each_called, called_from, both_say}
use Rattle.sym_paths.proofs.Following.{with_outcome, of_outcome, IsEvaluation, good_is_over, store_over, at_command, good_may, MakesNext, MakesSame, Covered, same_next, covered_same, along_going, failing_makes, are_candidates}
use Rattle.sym_paths.proofs.Outcomes.{nothing_chosen}

-- ---- stores of calls that begin

same_if : (v : List PureValue) (b : Bool) (t : PureTerm) (w : PureValue) (o : Option PureTerm) (u : Option PureValue) → value v t ≡ Some w → AreSame v o u → AreSame v (if b then Some t else o) (if b then Some w else u)
same_if v true t w o u is same = is
same_if v false t w o u is same = same

bound_same : (v : List PureValue) (params : List (List ℕ)) (ts : List PureTerm) (ws : List PureValue) → values v (from_list ts) ≡ Some ws → (y : List ℕ) → AreSame v (term_at (terms_bound params ts) y) (value_of (bind_all params ws) y)
bound_same v [] ts ws is y = tt
bound_same v (x ∷ xs) [] ws is y = subst (λ us. AreSame v None (value_of (bind_all (x ∷ xs) us) y)) (same_some is) tt
bound_same v (x ∷ xs) (t ∷ ts) ws is y =
    let (w, (us, (first, rest, whole))) = both_parts (value v t) (values v (from_list ts)) ws is in
    subst (λ zs. AreSame v (term_at (terms_bound (x ∷ xs) (t ∷ ts)) y) (value_of (bind_all (x ∷ xs) zs) y)) (sym whole)
    (same_if v (bytes_eq x y) t w (term_at (terms_bound xs ts) y) (value_of (bind_all xs us) y) first (bound_same v xs ts us rest y))

as_many : (v : List PureValue) (ts : List PureTerm) (ws : List PureValue) → values v (from_list ts) ≡ Some ws → length ws ≡ length ts
as_many v [] ws is = ap length (sym (same_some is))
as_many v (t ∷ ts) ws is =
    let (w, (us, (first, rest, whole))) = both_parts (value v t) (values v (from_list ts)) ws is in
    ap length whole ∙ ap suc (as_many v ts us rest)

picked : (P : PureTerm → Type 0) (b : Bool) (t u : PureTerm) (o : Option PureTerm) → P t → ((w : PureTerm) → o ≡ Some w → P w) → (if b then Some t else o) ≡ Some u → P u
picked P true t u o new old is = subst P (same_some is) new
picked P false t u o new old is = old u is

bound_each : (P : PureTerm → Type 0) (params : List (List ℕ)) (ts : List PureTerm) → Each P ts → OfEachName P (terms_bound params ts)
bound_each P [] ts all y u is = not_none is
bound_each P (x ∷ xs) [] all y u is = not_none is
bound_each P (x ∷ xs) (t ∷ ts) all y u is = picked P (bytes_eq x y) t u (term_at (terms_bound xs ts) y) all.0 (bound_each P xs ts all.1 y) is

first_each : (P : PureTerm → Type 0) (params : List (List ℕ)) (ts : List PureTerm) (bs : PureStore) → IsFirstStore params ts bs → Each P ts → OfEachName P bs
first_each P params ts bs first all y u is = bound_each P params ts all y u (sym (first y) ∙ is)

waiting_each : (P : PureTerm → Type 0) (x : List ℕ) (handler : Option ℕ) (fs : List PureFrame) → Each (λ f. OfEachName P f.store) fs → Each (λ f. OfEachName P f.store) (waiting x handler fs)
waiting_each P x handler [] all = tt
waiting_each P x handler (f ∷ fs) all = (all.0, all.1)

waiting_frames : (v : List PureValue) (x : List ℕ) (handler : Option ℕ) (fs : List PureFrame) (g : Frame) (gs : List Frame) → AreFrames v fs (g ∷ gs) → AreFrames v (waiting x handler fs) (record g { next = g.next + 1; waits = Some x; handler = handler } ∷ gs)
waiting_frames v x handler [] g gs are = absurd are
waiting_frames v x handler (f ∷ fs) g gs are = (
  record {
    procedure = are.0.procedure;
    next = ap (λ n. n + 1) are.0.next;
    store = are.0.store;
    waits = refl;
    handler = refl;
  },
  are.1,
)

-- ---- callees

kind_not : (w : PureValue) (k : Kind) → kind_of w ≡ k → same_kind k Kind.Proc ≡ false → same_kind (kind_of w) Kind.Proc ≡ false
kind_not w k is other = ap (λ j. same_kind j Kind.Proc) is ∙ other

no_procedure : (p : PureParts) (w : PureValue) (x : List ℕ) (handler : Option ℕ) (args : List PureValue) (here : Place) (s : State) → same_kind (kind_of w) Kind.Proc ≡ false → enter_value p w x handler args here s ≡ fails_with (text (codes "proc")) here s
no_procedure p (integer n) x handler args here s other = refl
no_procedure p (boolean b) x handler args here s other = refl
no_procedure p (text cs) x handler args here s other = refl
no_procedure p (symbol n) x handler args here s other = refl
no_procedure p (kind k) x handler args here s other = refl
no_procedure p (procedure f) x handler args here s other = absurd (true≢false other)
no_procedure p (list ws) x handler args here s other = refl

enters_if : (b : Bool) (q : PureProc) (x : List ℕ) (handler : Option ℕ) (args : List PureValue) (here : Place) (s : State) → b ≡ true → (if b then enter q x handler args s else fails_with (text (codes "arity")) here s) ≡ enter q x handler args s
enters_if true q x handler args here s is = refl
enters_if false q x handler args here s is = absurd (true≢false (sym is))

fails_if : (b : Bool) (q : PureProc) (x : List ℕ) (handler : Option ℕ) (args : List PureValue) (here : Place) (s : State) → b ≡ false → (if b then enter q x handler args s else fails_with (text (codes "arity")) here s) ≡ fails_with (text (codes "arity")) here s
fails_if true q x handler args here s is = absurd (true≢false is)
fails_if false q x handler args here s is = refl

-- ---- candidates

module _ {S : Type 0} (stands : S → List PureValue → Heap → Type 0) (terms : S → StateTerms) (p : PureParts) (m : Actions) (path : PurePath S) (c : PureNumberedCommand) (x : List ℕ) (e : PureExpr) (es : List PureExpr)
    (handler : Option ℤ) (callee : PureCases PureTerm) (args : PureCases (List PureTerm)) (over : IsOverTable terms path) (no_end : path.ending ≡ None) (at : command_of_path p path ≡ Some c) (command : c.command ≡ call x e es handler)
    (evaluated : IsEvaluated (running_store path.stack) e callee) (all_evaluated : AreEvaluated (running_store path.stack) es args) where
  abbrev label : Option ℕ
  label = handler_label handler

  abbrev bs : PureStore
  bs = running_store path.stack

  abbrev Own : PureAtom → Type 0
  Own = IsAskedByCall bs e es

  abbrev cases : PureCases Called
  cases = call_cases callee args

  abbrev outcome : Store → Result (PureValue × List PureValue) Fault
  outcome s = both_of (evaluate e s) (evaluate_all es s)

  abbrev go_on : Place → State → PureValue × List PureValue → Step
  go_on place s a = enter_value p a.0 x label a.1 place s

  abbrev no_choice : State → PureValue × List PureValue → Option ℕ
  no_choice s a = None

  good_so : {X : Type 0} (P Q : PureAtom → Type 0) → ((a : PureAtom) → P a → Q a) → (o : Option (PureGoodCase X)) → OnConditions P o → OnConditions Q o
  good_so P Q so None asked = tt
  good_so P Q so (Some g) asked = each_to P Q g.conds so asked

  each_so : {X : Type 0} (P Q : PureAtom → Type 0) → ((a : PureAtom) → P a → Q a) → (k : PureCases X) → EachCondition P k → EachCondition Q k
  each_so P Q so k each = (each_to (λ d. Each P d.conds) (λ d. Each Q d.conds) k.faults (λ d. each_to P Q d.conds so) each.0, good_so P Q so k.good each.1)

  asked_so : (Q : PureAtom → Type 0) → ((a : PureAtom) → IsAsked bs e a → Q a) → ((a : PureAtom) → OneOf (λ d. IsAsked bs d a) es → Q a) → EachCondition Q cases
  asked_so Q first second = each_called Q callee args (each_so (IsAsked bs e) Q first callee evaluated.origin.0) (each_so (λ a. OneOf (λ d. IsAsked bs d a) es) Q second args all_evaluated.origin.0)

  evaluation : IsEvaluation bs AreCalled AreCalledOver outcome Own c.command cases
  evaluation = record {
    says = λ vars v s serves. both_say v (evaluate e s) (evaluate_all es s) callee args (evaluated.are_cases vars v s serves) (all_evaluated.are_cases vars v s serves);
    origin = asked_so Own (λ a is. inl is) (λ a is. inr (inl is));
    assumed = subst (λ k. EachCondition (MayAssume Own bs k) cases) (sym command) (asked_so (MayAssume Own bs (call x e es handler)) (λ a is. inl is) (λ a is. inr is));
    closed = asked_so NeedsNone (asked_closed bs e) (one_asked_closed bs es);
    names = λ vars store. (
      each_called (λ a. IsOver vars (term_of a)) callee args (evaluated.names vars store).0 (all_evaluated.names vars store).0,
      called_from (IsOver vars) (AreEachOver vars) callee args (evaluated.names vars store).1 (all_evaluated.names vars store).1,
    );
  }

  calls-outcome : (o : Outcome) (r : Outcomes) (place : Place) (s : State) → with_value o place s (λ f. with_values r place s (λ ws. enter_value p f x label ws place s)) ≡ with_outcome (both_of o r) place s (go_on place s)
  calls-outcome (Ok f) (Ok ws) place s = refl
  calls-outcome (Ok f) (Err fault) place s = refl
  calls-outcome (Err fault) r place s = refl

  does : (inputs : List PureValue) (place : Place) (s : State) → do_command p m inputs c.command place s ≡ with_outcome (outcome s.current.store) place s (go_on place s)
  does inputs place s = ap (λ k. do_command p m inputs k place s) command ∙ calls-outcome (evaluate e s.current.store) (evaluate_all es s.current.store) place s

  choice : (s : State) → choice_of p m c.command s ≡ of_outcome (no_choice s) (outcome s.current.store)
  choice s = ap (λ k. choice_of p m k s) command ∙ nothing_chosen (outcome s.current.store)

  abbrev Makes : PureGoodCase Called → List PureAtom → Candidate S → Type 0
  Makes = MakesSame stands terms p m path c over at AreCalled AreCalledOver outcome go_on no_choice Own NoOwn cases evaluation does choice

  abbrev OverTable : PureAtom → Type 0
  OverTable a = IsOver path.vars (term_of a)

  abbrev here : Place
  here = place_at path.stack c

  abbrev there : State → Place
  there s = at_command stands terms p m path c over at s

  module _ (g : PureGoodCase Called) (is_good : cases.good ≡ Some g) where
    good_over : Each OverTable g.conds
    good_over = good_is_over stands terms p m path c over at AreCalled AreCalledOver outcome go_on no_choice Own NoOwn cases evaluation does choice g is_good

    result_over : AreCalledOver path.vars g.result
    result_over = subst (OnResult (AreCalledOver path.vars)) is_good (evaluation.names path.vars (store_over stands terms p m path c over at)).1

    both_from : IsTermOf bs e g.result.callee × AreTermsOf bs es g.result.args
    both_from = subst (OnResult (λ (k : Called). IsTermOf bs e k.callee × AreTermsOf bs es k.args)) is_good (called_from (IsTermOf bs e) (AreTermsOf bs es) callee args evaluated.origin.1 all_evaluated.origin.1)

    from : IsTermOf bs e g.result.callee
    from = both_from.0

    args_from : AreTermsOf bs es g.result.args
    args_from = both_from.1

    asked_good : Each (MayAssume Own bs c.command) g.conds
    asked_good = good_may stands terms p m path c over at AreCalled AreCalledOver outcome go_on no_choice Own NoOwn cases evaluation does choice g is_good

    -- ---- a call that fails

    fails_makes : (why : List ℕ) → ((v : List PureValue) (s : State) (a : PureValue × List PureValue) → Stands stands path v s → AreCalled v g.result a → enter_value p a.0 x label a.1 (there s) s ≡ fails_with (text why) (there s) s) → Makes g [] (fails_to_call path x label here why g)
    fails_makes why fails =
        failing_makes stands terms p m path c over at AreCalled AreCalledOver outcome go_on no_choice Own NoOwn cases evaluation does choice g [] why is_good tt tt tt refl (λ v s a is val met. (fails v s a is val, refl))

    -- ---- a call that begins

    module _ (q : PureProc) (bs' : PureStore) (first : IsFirstStore q.params g.result.args bs')
        (name : List ℕ) (named : g.result.callee ≡ literal (Literal.Proc name)) (found : find_proc p.procs name ≡ Some q)
        (enters : (v : List PureValue) (s : State) (a : PureValue × List PureValue) → Stands stands path v s → AreCalled v g.result a → enter_value p a.0 x label a.1 (there s) s ≡ enter q x label a.1 s) where
      abbrev ep : PurePath S
      ep = (entering path x label here q bs' g).path

      entered : (v : List PureValue) (s : State) (a : PureValue × List PureValue) → Stands stands path v s → AreCalled v g.result a → IsTrue (all_true v (path.conds ++ g.conds)) → StandsForStep p m stands ep v s path.ending (enter_value p a.0 x label a.1 (there s) s)
      entered v s a is val met =
          subst (λ o. StandsForStep p m stands ep v s o (enter_value p a.0 x label a.1 (there s) s)) (sym no_end)
          (subst (StandsForStep p m stands ep v s None) (sym (enters v s a is val)) (record {
            proper = is.proper;
            meets = met;
            frames = (
              record {
                procedure = refl;
                next = refl;
                store = λ y. subst (λ o. AreSame v o (value_of (bind_all q.params a.1) y)) (sym (first y)) (bound_same v q.params g.result.args a.1 val.1 y);
                waits = refl;
                handler = refl;
              },
              waiting_frames v x label path.stack s.current s.callers is.frames,
            );
            memory = is.memory;
            symbols_below = is.symbols_below;
            draws = is.draws;
          }))

      entering_makes : Makes g [] (entering path x label here q bs' g)
      entering_makes = record {
        growth = (
          record {
            new_vars = [];
            vars = same_and_none path.vars path.vars refl;
            sorts = tt;
            drawn = same_and_none path.drawn path.drawn refl;
            new_conds = g.conds;
            conds = refl;
            new_given = [];
            given = same_and_none path.given path.given refl;
            assumed = tt;
            chosen = None;
            choices = same_and_none path.choices path.choices refl;
            steps = refl;
            over = record {
              conds = each_append OverTable path.conds g.conds over.conds good_over;
              given = over.given;
              stores = (first_each (IsOver path.vars) q.params g.result.args bs' first result_over.1, waiting_each (IsOver path.vars) x label path.stack over.stores);
              memory = over.memory;
              drawn = over.drawn;
              ending = over.ending;
            };
          },
          later_among path.conds g.conds,
        );
        recorded = same_records p m path ep c at (ap (new_sorts m) command) (ap makes_choice command) refl refl;
        known = open_is_known path.ending no_end;
        vars = refl;
        conds = ap (λ xs. path.conds ++ xs) (sym (append-nil g.conds));
        own_more = tt;
        assumes = assumes_rightly p Own NoOwn path c at (entering path x label here q bs' g) [] (same_and_none path.given path.given refl) tt asked_good (inr (inl (refl, λ going. refl)));
        origin = λ no_form. follows_going p m terms path ep c at (call x e es handler) command no_end (
          refl,
          record {
            callee = name;
            named = subst (IsTermOf bs e) named from;
            procedure = q;
            found = found;
            args = g.result.args;
            from = args_from;
            store = bs';
            first = first;
            stack = refl;
          },
        );
        exact = λ inputs v s a is ok val met closed. (same_and_none path.choices path.choices refl, entered v s a is val met);
        along = λ inputs v ws s is given which goes.
            along_going stands terms p m path c over at AreCalled AreCalledOver outcome go_on no_choice Own NoOwn cases evaluation does choice [] g is_good [] inputs v ws s is (λ a val. refl)
            (subst (λ o. GoesOnAs o (step p m inputs s) ⊎ IsTrue (all_true (v ++ ws) g.conds)) no_end goes);
      }

    -- ---- a callee whose literal form is needed

    module _ (no_literal : is_literal g.result.callee ≡ false) (may_be : IsTrue (allows (known_kind g.result.callee) Kind.Proc)) where
      abbrev asked : List PureAtom
      asked = opening g.result.callee ∷ []

      has_value : (v ws : List PureValue) (s : State) (a : PureValue × List PureValue) → Stands stands path v s → AreCalled v g.result a → IsTrue (all_true (v ++ ws) asked)
      has_value v ws s a is val = ap (λ o. is_some o && true) (stay_when_tables_grow.values g.result.callee path.vars v ws result_over.0 is.proper.one_each ∙ val.0)

      needing_makes : Makes g asked (needs_callee path x label here g)
      needing_makes = record {
        growth = (
          record {
            new_vars = [];
            vars = same_and_none path.vars path.vars refl;
            sorts = tt;
            drawn = same_and_none path.drawn path.drawn refl;
            new_conds = g.conds ++ asked;
            conds = refl;
            new_given = [];
            given = same_and_none path.given path.given refl;
            assumed = tt;
            chosen = None;
            choices = same_and_none path.choices path.choices refl;
            steps = refl;
            over = record {
              conds = each_append OverTable path.conds (g.conds ++ asked) over.conds (each_append OverTable g.conds asked good_over (result_over.0, tt));
              given = over.given;
              stores = over.stores;
              memory = over.memory;
              drawn = over.drawn;
              ending = over.ending;
            };
          },
          each_left (λ a. IsAmong a (path.conds ++ (g.conds ++ asked))) g.conds asked (later_among path.conds (g.conds ++ asked)),
        );
        recorded = same_records p m path (needs_callee path x label here g).path c at (ap (new_sorts m) command) (ap makes_choice command) refl refl;
        known = open_is_known path.ending no_end;
        vars = refl;
        conds = refl;
        own_more = (inr (inr (g.result.callee, (from, no_literal, may_be, refl))), tt);
        assumes = assumes_rightly p Own NoOwn path c at (needs_callee path x label here g) [] (same_and_none path.given path.given refl) tt asked_good (inr (inl (refl, λ going. refl)));
        origin = λ closed. absurd (true≢false closed);
        exact = λ inputs v s a is ok val met closed. absurd (true≢false closed);
        along = λ inputs v ws s is given which goes.
            along_going stands terms p m path c over at AreCalled AreCalledOver outcome go_on no_choice Own NoOwn cases evaluation does choice [] g is_good asked inputs v ws s is (λ a val. has_value v ws s a is val)
            (subst (λ o. GoesOnAs o (step p m inputs s) ⊎ IsTrue (all_true (v ++ ws) g.conds)) no_end goes);
      }

      still : (v : List PureValue) (s : State) (a : PureValue × List PureValue) → Stands stands path v s → AreCalled v g.result a → IsTrue (all_true v asked)
      still v s a is val = ap (λ o. is_some o && true) val.0

    -- ---- whatever the callee is

    -- the candidate, and that its further conditions are true where there are values
    abbrev IsMade : Candidate S → Type 0
    IsMade d = (more : List PureAtom) × (Makes g more d × ((v : List PureValue) (s : State) (a : PureValue × List PureValue) → Stands stands path v s → AreCalled v g.result a → IsTrue (all_true v more)))

    without_more : (d : Candidate S) → Makes g [] d → IsMade d
    without_more d makes = ([], (makes, λ v s a is val. refl))

    not_procedure : (w : PureValue) → same_kind (kind_of w) Kind.Proc ≡ false → ((v : List PureValue) → value v g.result.callee ≡ Some w) → Makes g [] (fails_to_call path x label here (codes "proc") g)
    not_procedure w other is_w =
        fails_makes (codes "proc") (λ v s a is val. subst (λ u. enter_value p u x label a.1 (there s) s ≡ fails_with (text (codes "proc")) (there s) s) (same_some (sym (is_w v) ∙ val.0)) (no_procedure p w x label a.1 (there s) s other))

    module _ (f : List ℕ) (is_proc : g.result.callee ≡ literal (Literal.Proc f)) where
      is_f : (v : List PureValue) → value v g.result.callee ≡ Some (procedure f)
      is_f v = ap (value v) is_proc

      called : (v : List PureValue) (s : State) (a : PureValue × List PureValue) → AreCalled v g.result a → enter_value p a.0 x label a.1 (there s) s ≡ enter_found (find_proc p.procs f) x label a.1 (there s) s
      called v s a val = ap (λ u. enter_value p u x label a.1 (there s) s) (same_some (sym val.0 ∙ is_f v))

      same_length : (q : PureProc) (b : Bool) (v : List PureValue) (a : PureValue × List PureValue) → AreCalled v g.result a → (length g.result.args == length q.params) ≡ b → (length a.1 == length q.params) ≡ b
      same_length q b v a val is = ap (λ n. n == length q.params) (as_many v g.result.args a.1 val.1) ∙ is

      made_by_length : (q : PureProc) (b : Bool) → find_proc p.procs f ≡ Some q → (length g.result.args == length q.params) ≡ b → (d : Candidate S)
          → MatchBool b ((ds : PureStore) × (IsFirstStore q.params g.result.args ds × (d ≡ entering path x label here q ds g))) (d ≡ fails_to_call path x label here (codes "arity") g) → IsMade d
      made_by_length q true found many d (ds, (first, is)) =
          subst IsMade (sym is) (without_more (entering path x label here q ds g) (entering_makes q ds first f is_proc found (λ v s a stands_there val.
          called v s a val ∙ ap (λ o. enter_found o x label a.1 (there s) s) found ∙ enters_if (length a.1 == length q.params) q x label a.1 (there s) s (same_length q true v a val many))))
      made_by_length q false found many d is =
          subst IsMade (sym is) (without_more (fails_to_call path x label here (codes "arity") g) (fails_makes (codes "arity") (λ v s a stands_there val.
          called v s a val ∙ ap (λ o. enter_found o x label a.1 (there s) s) found ∙ fails_if (length a.1 == length q.params) q x label a.1 (there s) s (same_length q false v a val many))))

      made_found : (o : Option PureProc) → find_proc p.procs f ≡ o → (d : Candidate S) → EntersFound path x label here o g d → IsMade d
      made_found None found d is =
          subst IsMade (sym is) (without_more (fails_to_call path x label here (codes "proc") g) (fails_makes (codes "proc") (λ v s a stands_there val. called v s a val ∙ ap (λ o. enter_found o x label a.1 (there s) s) found)))
      made_found (Some q) found d is = made_by_length q (length g.result.args == length q.params) found refl d is

    known_not : (o : Option Kind) → known_kind g.result.callee ≡ o → allows o Kind.Proc ≡ false → Makes g [] (fails_to_call path x label here (codes "proc") g)
    known_not None known other = absurd (true≢false other)
    known_not (Some k) known other =
        fails_makes (codes "proc") (λ v s a is val. no_procedure p a.0 x label a.1 (there s) s (kind_not a.0 k (known_kinds_are_right path.vars v g.result.callee a.0 k is.proper result_over.0 val.0 known) other))

    made_open : (b : Bool) → allows (known_kind g.result.callee) Kind.Proc ≡ b → is_literal g.result.callee ≡ false → (d : Candidate S)
        → MatchBool b (d ≡ needs_callee path x label here g) (d ≡ fails_to_call path x label here (codes "proc") g) → IsMade d
    made_open true may no_literal d is = subst IsMade (sym is) (opening g.result.callee ∷ [], (needing_makes no_literal may, still no_literal may))
    made_open false may no_literal d is = subst IsMade (sym is) (without_more (fails_to_call path x label here (codes "proc") g) (known_not (known_kind g.result.callee) refl may))

    opened : (t : PureTerm) → g.result.callee ≡ t → is_literal t ≡ false → (d : Candidate S) → CallsOpen path x label here (known_kind t) g d → IsMade d
    opened t same no_literal d is =
        made_open (allows (known_kind g.result.callee) Kind.Proc) refl (ap is_literal same ∙ no_literal) d (subst (λ u. CallsOpen path x label here (known_kind u) g d) (sym same) is)

    made : (t : PureTerm) → g.result.callee ≡ t → (d : Candidate S) → CallsTerm path x label here p t g d → IsMade d
    made (literal (Literal.Proc f)) same d is = made_found f same (find_proc p.procs f) refl d is
    made (literal (Literal.Int n)) same d is = subst IsMade (sym is) (without_more (fails_to_call path x label here (codes "proc") g) (not_procedure (integer n) refl (λ v. ap (value v) same)))
    made (literal (Literal.Bool b)) same d is = subst IsMade (sym is) (without_more (fails_to_call path x label here (codes "proc") g) (not_procedure (boolean b) refl (λ v. ap (value v) same)))
    made (literal (Literal.Str cs)) same d is = subst IsMade (sym is) (without_more (fails_to_call path x label here (codes "proc") g) (not_procedure (text cs) refl (λ v. ap (value v) same)))
    made (literal (Literal.Kind k)) same d is = subst IsMade (sym is) (without_more (fails_to_call path x label here (codes "proc") g) (not_procedure (kind k) refl (λ v. ap (value v) same)))
    made (variable y) same d is = opened (variable y) same refl d is
    made (list_of ts) same d is = opened (list_of ts) same refl d is
    made (unary_of op t) same d is = opened (unary_of op t) same refl d is
    made (binary_of op t u) same d is = opened (binary_of op t u) same refl d is

    made_candidates : (ds : List (Candidate S)) → Calls path x label here p g ds → (d : Candidate S) × (IsMade d × (ds ≡ d ∷ []))
    made_candidates ds (d, (calls, one)) = (d, (made g.result.callee refl d calls, one))

  abbrev Next : PureGoodCase Called → Candidate S → Type 0
  Next g d = (more : List PureAtom) × MakesNext stands terms p m path c over at AreCalled AreCalledOver outcome go_on no_choice Own NoOwn cases evaluation does choice [] g more d

  call_candidates : (cs : List (Candidate S)) → AreOfCases path here (Calls path x label here p) cases cs → AreCandidates p m stands terms Own NoOwn path cs
  call_candidates =
      are_candidates stands terms p m path c over at AreCalled AreCalledOver outcome go_on no_choice Own NoOwn cases evaluation does choice [] (Calls path x label here p)
      (λ g ds is_good calls.
      let (d, ((more, (makes, met)), one)) = made_candidates g is_good ds calls in
      subst (Each (Next g)) (sym one)
      ((more, same_next stands terms p m path c over at AreCalled AreCalledOver outcome go_on no_choice Own NoOwn cases evaluation does choice g more d makes), tt))
      (λ g ds is_good calls inputs v s a is ok val conds.
      let (d, ((more, (makes, met)), one)) = made_candidates g is_good ds calls in
      subst (OneOf (Covered stands terms p m path c over at AreCalled AreCalledOver outcome go_on no_choice Own NoOwn cases evaluation does choice inputs v s)) (sym one)
      (inl (covered_same stands terms p m path c over at AreCalled AreCalledOver outcome go_on no_choice Own NoOwn cases evaluation does choice g more d is_good makes inputs v s is conds (met v s a is val))))

pub calls_keep_the_laws : {S : Type 0} (stands : S → List PureValue → Heap → Type 0) (terms : S → StateTerms) → CallsKeepTheLaws stands terms
calls_keep_the_laws stands terms p m path c x e es handler callee args cs over no_end at command evaluated all_evaluated = call_candidates stands terms p m path c x e es handler callee args over no_end at command evaluated all_evaluated cs
