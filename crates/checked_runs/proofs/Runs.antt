-- Runs of calls: how they begin and end, and what each state of a run keeps.
use Rattle.std.proofs.Common.{◌≡◌, ◌⊎◌, ⊎_elim, inl, inr, ℕ, zero, suc, ◌+◌, ◌≤◌, List, [], ◌∷◌, ◌++◌, Bool, true, false, ◌||◌, cond, Option, Some, None, Ok, Err, length, slice_get, refl, sym, ap, subst, ◌∙◌, arith}
use Rattle.std.specs.Prelude.{◌==◌, codes}
use Rattle.std.specs.Str.{bytes_eq}
use Rattle.std.specs.List.{flat_map}
use Rattle.std.proofs.lemmas.Grind.{flat_map-append}
use Rattle.std.proofs.lemmas.List.Folds.{list_any-append}
use Rattle.std.proofs.lemmas.Slice.Eq.{bytes_eq-Decides}
use Rattle.gil_values.specs.declared.kinds.Kind.{Kind}
use Rattle.gil_values.specs.declared.places.Place.{Place}
use Rattle.gil_values.specs.Equality.{same_kind}
use Rattle.gil_values.specs.Pure.{PureValue, integer, boolean, text, symbol, kind, procedure, list, kind_of}
use Rattle.gil_values.specs.Operators.{Outcome, unary, binary}
use Rattle.gil_syntax.specs.Pure.{PureExpr, literal, name, logical, list_of, unary_of, binary_of, PureExprs, no_exprs, expr_and, PureItem, pure, uses, PureCommand, assign, call, act, usym, isym, ifgoto, return, fail, throw, vanish, fold_use, unfold_use, assert_that, loop_invariant, PureNumberedCommand, PureProc, PureParts, PurePredDef}
use Rattle.gil_syntax.specs.Evaluation.{Store, value_of, set_or_fault, after_value, both, as_list, Outcomes, evaluate, evaluate_elements, evaluate_all}
use Rattle.gil_syntax.specs.Programs.{find_proc}
use Rattle.gil_syntax.specs.Subexpressions.{subexpressions, subexpressions_of_all, own_names, names_of}
use Rattle.gil_syntax.specs.Valid.{is_among}
use Rattle.gil_syntax.specs.WellMade.{is_well_made}
use Rattle.mem_model.specs.declared.keys.MemoryName.{MemoryName}
use Rattle.mem_model.specs.Actions.{Actions, IsMemory}
use Rattle.mem_model.specs.Heaps.{Heap}
use Rattle.gil_machine.specs.Proper.{IsProperState, IsProperStep}
use Rattle.gil_machine.specs.Run.{after, run, and_then, reached}
use Rattle.gil_machine.specs.State.{State, End, bad_input, Step, goes_on, ends, end_at}
use Rattle.gil_machine.specs.Step.{first_frame, assigned, fails_with, enter, with_value, with_values, handler_label, enter_found, enter_value, draw, command_at, do_command, step_at, step}
use Rattle.gil_machine.proofs.Proper.{stays_proper}
use Rattle.assert_logic.specs.Meets.{Meets, ItemMeets, HoldsSomewhere}
use Rattle.assert_logic.specs.Names.{named_among, named_by_item, named_by_items}
use Rattle.checked_runs.proofs.Forms.{Form, command_form, drawn_form}
use Rattle.checked_runs.proofs.Stores.{same_some, no_value, one_of_two}

-- ---- where a call begins

pub record Entering (p : PureParts) (var : List ℕ) (label : Option ℕ) (es : List PureExpr) (s t : State) : Type 0 where
  pub args : List PureValue
  pub args_are : evaluate_all es s.current.store ≡ Ok args
  pub proc : PureProc
  pub found : find_proc p.procs proc.name ≡ Some proc
  pub is : t ≡ record s { current = first_frame proc.name proc.params args; callers = record s.current { next = s.current.next + 1; waits = Some var; handler = label } ∷ s.callers }

same_state : (s t : State) → goes_on s ≡ goes_on t → s ≡ t
same_state s t is = cc

proc_named : (qs : List PureProc) (f : List ℕ) (q : PureProc) → find_proc qs f ≡ Some q → q.name ≡ f
proc_named [] f q is = no_value q is
proc_named (r ∷ rs) f q is = by (proc_named rs f q) (bytes_eq r.name f) refl is
  where
    by : (find_proc rs f ≡ Some q → q.name ≡ f) → (b : Bool) → bytes_eq r.name f ≡ b → cond b (Some r) (find_proc rs f) ≡ Some q → q.name ≡ f
    by later true same found = ap (λ x. x.name) (sym (same_some found)) ∙ (bytes_eq-Decides r.name f).0 same
    by later false other found = later found

module _ (p : PureParts) (m : Actions) (var : List ℕ) (label : Option ℕ) (es : List PureExpr) (here : Place) (s t : State) where
  by_arity : (args : List PureValue) (q : PureProc) → evaluate_all es s.current.store ≡ Ok args → find_proc p.procs q.name ≡ Some q → (b : Bool) → cond b (enter q var label args s) (fails_with (text (codes "arity")) here s) ≡ goes_on t → Entering p var label es s t
  by_arity args q args_are found true is = record { args = args; args_are = args_are; proc = q; found = found; is = sym (same_state _ t is) }
  by_arity args q args_are found false is = absurd (cc)

  by_found : (args : List PureValue) (f : List ℕ) → evaluate_all es s.current.store ≡ Ok args → (o : Option PureProc) → find_proc p.procs f ≡ o → enter_found o var label args here s ≡ goes_on t → Entering p var label es s t
  by_found args f args_are None found is = absurd (cc)
  by_found args f args_are (Some q) found is = by_arity args q args_are (ap (find_proc p.procs) (proc_named p.procs f q found) ∙ found) (length args == length q.params) is

  by_value : (args : List PureValue) (f : PureValue) → evaluate_all es s.current.store ≡ Ok args → enter_value p f var label args here s ≡ goes_on t → Entering p var label es s t
  by_value args (procedure f) args_are is = by_found args f args_are (find_proc p.procs f) refl is
  by_value args (integer n) args_are is = absurd (cc)
  by_value args (boolean b) args_are is = absurd (cc)
  by_value args (text cs) args_are is = absurd (cc)
  by_value args (symbol n) args_are is = absurd (cc)
  by_value args (kind k) args_are is = absurd (cc)
  by_value args (list vs) args_are is = absurd (cc)

pub call_enters : (p : PureParts) (m : Actions) (var : List ℕ) (e : PureExpr) (es : List PureExpr) (handler : _) (here : Place) (s t : State) → do_command p m [] (call var e es handler) here s ≡ goes_on t → Entering p var (handler_label handler) es s t
call_enters p m var e es handler here s t = by (evaluate e s.current.store) (evaluate_all es s.current.store) refl
  where
    by : (o : Outcome) (os : Outcomes) → evaluate_all es s.current.store ≡ os → with_value o here s (λ f. with_values os here s (λ args. enter_value p f var (handler_label handler) args here s)) ≡ goes_on t → Entering p var (handler_label handler) es s t
    by (Ok f) (Ok args) args_are is = by_value p m var (handler_label handler) es here s t args f args_are is
    by (Ok f) (Err fault) args_are is = absurd (cc)
    by (Err fault) os args_are is = absurd (cc)

-- ---- runs

module _ (p : PureParts) (m : Actions) (inputs : List PureValue) where
  draw-form : (s : State) (x : List ℕ) (k : Kind) (o : Option PureValue) → Form s (draw o x k (record s { draws = s.draws + 1 }))
  draw-form s x k None = inl (record { same_heap = refl; same_counter = refl })
  draw-form s x k (Some v) = by (same_kind (kind_of v) k)
    where
      by : (b : Bool) → Form s (cond b (assigned x v (record s { draws = s.draws + 1 })) (ends (end_at (record s { draws = s.draws + 1 }) (bad_input (s.draws + 1)))))
      by true = drawn_form x v s (s.draws + 1)
      by false = inl (record { same_heap = refl; same_counter = refl })

  any_form : (c : PureCommand) (here : Place) (s : State) → Form s (do_command p m inputs c here s)
  any_form (isym x k) here s = draw-form s x k (slice_get inputs s.draws)
  any_form (assign x e) here s = command_form p m inputs (assign x e) here s tt
  any_form (call x e es handler) here s = command_form p m inputs (call x e es handler) here s tt
  any_form (act x a es) here s = command_form p m inputs (act x a es) here s tt
  any_form (usym x) here s = command_form p m inputs (usym x) here s tt
  any_form (ifgoto e i) here s = command_form p m inputs (ifgoto e i) here s tt
  any_form (return e) here s = command_form p m inputs (return e) here s tt
  any_form (fail e) here s = command_form p m inputs (fail e) here s tt
  any_form (throw e) here s = command_form p m inputs (throw e) here s tt
  any_form vanish here s = command_form p m inputs vanish here s tt
  any_form (fold_use u) here s = command_form p m inputs (fold_use u) here s tt
  any_form (unfold_use u) here s = command_form p m inputs (unfold_use u) here s tt
  any_form (assert_that items) here s = command_form p m inputs (assert_that items) here s tt
  any_form (loop_invariant xs ps items) here s = command_form p m inputs (loop_invariant xs ps items) here s tt

  pub step_form : (s : State) → Form s (step p m inputs s)
  step_form s = by (command_at p s.current)
    where
      by : (o : Option PureNumberedCommand) → Form s (step_at p m inputs o s)
      by None = (inl (record { same_callers = refl; same_frame = refl }), omega arith)
      by (Some n) = any_form n.command (record { proc = s.current.procedure; at = n.at }) s

  pub reached_counter : (k : ℕ) (s t : State) → reached p m inputs k s ≡ Some t → s.counter ≤ t.counter
  reached_counter zero s t is = let same : s.counter ≡ t.counter = ap (λ x. x.counter) (same_some is) in omega (arith, same)
  reached_counter (suc k) s t is = by (step p m inputs s) (step_form s) (λ u later. reached_counter k u t later) is
    where
      by : (st : Step) → Form s st → ((u : State) → reached p m inputs k u ≡ Some t → u.counter ≤ t.counter) → and_then st (reached p m inputs k) ≡ Some t → s.counter ≤ t.counter
      by (goes_on u) form later there = let first = form.1 in let then = later u there in omega (arith, first, then)
      by (ends e) form later there = no_value t there

  pub reached_proper : (memory : MemoryName) → is_well_made p ≡ true → IsMemory memory m → (k : ℕ) (s t : State) → IsProperState memory s → reached p m inputs k s ≡ Some t → IsProperState memory t
  reached_proper memory made is_memory zero s t proper is = subst (IsProperState memory) (same_some is) proper
  reached_proper memory made is_memory (suc k) s t proper is = by (step p m inputs s) (stays_proper p memory m inputs s made is_memory proper) (λ u later. reached_proper memory made is_memory k u t later) is
    where
      by : (st : Step) → IsProperStep memory st → ((u : State) → IsProperState memory u → reached p m inputs k u ≡ Some t → IsProperState memory t) → and_then st (reached p m inputs k) ≡ Some t → IsProperState memory t
      by (goes_on u) next later there = later u next there
      by (ends e) next later there = no_value t there

  -- the run has ended after so many steps, with some left
  pub record IsFinished (k : ℕ) (s : State) : Type 0 where
    pub steps : ℕ
    pub left : ℕ
    pub sum : steps + suc left ≡ k
    pub state : State
    pub end : End
    pub reached_there : reached p m inputs steps s ≡ Some state
    pub ends_so : step p m inputs state ≡ ends end
    pub run_is : run p m inputs (suc steps) s ≡ end

  pub finishes : (k : ℕ) (s : State) → ((t : State) × (reached p m inputs k s ≡ Some t)) ⊎ IsFinished k s
  finishes zero s = inl (s, refl)
  finishes (suc k) s = by (step p m inputs s) refl (finishes k)
    where
      by : (st : Step) → step p m inputs s ≡ st → ((u : State) → ((t : State) × (reached p m inputs k u ≡ Some t)) ⊎ IsFinished k u) → ((t : State) × (reached p m inputs (suc k) s ≡ Some t)) ⊎ IsFinished (suc k) s
      by (ends e) is later = inr (record {
        steps = 0;
        left = k;
        sum = omega arith;
        state = s;
        end = e;
        reached_there = refl;
        ends_so = is;
        run_is = ap (λ st. after st (run p m inputs 0)) is;
      })
      by (goes_on u) is later =
          ⊎_elim (λ (t, there). inl (t, ap (λ st. and_then st (reached p m inputs k)) is ∙ there)) (λ f. inr (record {
            steps = suc f.steps;
            left = f.left;
            sum = let sum = f.sum in omega (arith, sum);
            state = f.state;
            end = f.end;
            reached_there = ap (λ st. and_then st (reached p m inputs f.steps)) is ∙ f.reached_there;
            ends_so = f.ends_so;
            run_is = ap (λ st. after st (run p m inputs (suc f.steps))) is ∙ f.run_is;
          })) (later u)

-- ---- names of what has a value have one

abbrev HasValue : Store → List ℕ → Type 0
HasValue s x = (v : PureValue) × (value_of s x ≡ Some v)

set_has : (s : Store) (x : List ℕ) (v : PureValue) → set_or_fault (value_of s x) ≡ Ok v → HasValue s x
set_has s x v = by (value_of s x) refl
  where
    by : (o : Option PureValue) → value_of s x ≡ o → set_or_fault o ≡ Ok v → HasValue s x
    by (Some w) at is = (w, at)
    by None at is = absurd (cc)

one_name : (s : Store) (x y : List ℕ) (v : PureValue) → set_or_fault (value_of s y) ≡ Ok v → is_among (y ∷ []) x ≡ true → HasValue s x
one_name s x y v is among = by (bytes_eq x y) refl among
  where
    by : (b : Bool) → bytes_eq x y ≡ b → (b || false) ≡ true → HasValue s x
    by true same any = subst (HasValue s) (sym ((bytes_eq-Decides x y).0 same)) (set_has s y v is)
    by false other any = absurd (cc)

among_parts : (ds es : List PureExpr) (x : List ℕ) → is_among (flat_map own_names (ds ++ es)) x ≡ true → (is_among (flat_map own_names ds) x ≡ true) ⊎ (is_among (flat_map own_names es) x ≡ true)
among_parts ds es x is =
    one_of_two (is_among (flat_map own_names ds) x) (is_among (flat_map own_names es) x)
    (sym (ap (λ xs. is_among xs x) (flat_map-append own_names ds es) ∙ list_any-append (bytes_eq x) (flat_map own_names ds) (flat_map own_names es)) ∙ is)

module _ (s : Store) (x : List ℕ) where
  after_has : (o : Outcome) (f : PureValue → Outcome) (v : PureValue) → after_value o f ≡ Ok v → (w : PureValue) × ((o ≡ Ok w) × (f w ≡ Ok v))
  after_has (Ok w) f v is = (w, (refl, is))
  after_has (Err fault) f v is = absurd (cc)

  both_has : (o : Outcome) (os : Outcomes) (vs : List PureValue) → both o os ≡ Ok vs → (w : PureValue) × ((ws : List PureValue) × ((o ≡ Ok w) × (os ≡ Ok ws)))
  both_has (Ok w) (Ok ws) vs is = (w, (ws, (refl, refl)))
  both_has (Ok w) (Err fault) vs is = absurd (cc)
  both_has (Err fault) os vs is = absurd (cc)

  list_has : (os : Outcomes) (v : PureValue) → as_list os ≡ Ok v → (ws : List PureValue) × (os ≡ Ok ws)
  list_has (Ok ws) v is = (ws, refl)
  list_has (Err fault) v is = absurd (cc)

  mutual
    expr_has : (e : PureExpr) (v : PureValue) → evaluate e s ≡ Ok v → is_among (names_of e) x ≡ true → HasValue s x
    expr_has (literal w) v is among = absurd (cc)
    expr_has (name y) v is among = one_name s x y v is among
    expr_has (logical y) v is among = one_name s x y v is among
    expr_has (list_of es) v is among = let (ws, values) = list_has (evaluate_elements es s) v is in elements_have es ws values among
    expr_has (unary_of op e) v is among = let (w, (value, rest)) = after_has (evaluate e s) (unary op) v is in expr_has e w value among
    expr_has (binary_of op d e) v is among =
        let (w, (value, rest)) = after_has (evaluate d s) (λ u. after_value (evaluate e s) (binary op u)) v is in
        let (u, (second, last)) = after_has (evaluate e s) (binary op w) v rest in
        ⊎_elim (expr_has d w value) (expr_has e u second) (among_parts (subexpressions d) (subexpressions e) x among)

    elements_have : (es : PureExprs) (vs : List PureValue) → evaluate_elements es s ≡ Ok vs → is_among (flat_map own_names (subexpressions_of_all es)) x ≡ true → HasValue s x
    elements_have no_exprs vs is among = absurd (cc)
    elements_have (expr_and e es) vs is among =
        let (w, (ws, (here, there))) = both_has (evaluate e s) (evaluate_elements es s) vs is in
        ⊎_elim (expr_has e w here) (elements_have es ws there) (among_parts (subexpressions e) (subexpressions_of_all es) x among)

  all_have : (es : List PureExpr) (vs : List PureValue) → evaluate_all es s ≡ Ok vs → named_among es x ≡ true → HasValue s x
  all_have [] vs is named = absurd (cc)
  all_have (e ∷ es) vs is named =
      let (w, (ws, (here, there))) = both_has (evaluate e s) (evaluate_all es s) vs is in
      ⊎_elim (expr_has e w here) (all_have es ws there) (one_of_two (is_among (names_of e) x) (named_among es x) named)

  item_has : (preds : List PurePredDef) (item : PureItem) (h : Heap) → ItemMeets (HoldsSomewhere preds) s item h → named_by_item item x ≡ true → HasValue s x
  item_has preds (pure e) h is named = expr_has e (boolean true) is.0 named
  item_has preds (uses u) h is named = ⊎_elim (all_have u.ins is.ins is.ins_are) (all_have u.outs is.outs is.outs_are) (one_of_two (named_among u.ins x) (named_among u.outs x) named)

  -- each name of an assertion that is met has a value
  pub named_has_value : (preds : List PurePredDef) (items : List PureItem) (h : Heap) → Meets (HoldsSomewhere preds) s items h → named_by_items items x ≡ true → (v : PureValue) × (value_of s x ≡ Some v)
  named_has_value preds [] h is named = absurd (cc)
  named_has_value preds (item ∷ items) h (part, (rest, (union, (here, there)))) named =
      ⊎_elim (item_has preds item part here) (named_has_value preds items rest there) (one_of_two (named_by_item item x) (named_by_items items x) named)
