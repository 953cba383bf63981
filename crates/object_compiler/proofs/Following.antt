-- The commands of expressions and simple statements of the object language do what these mean.
use Rattle.std.proofs.Common.{◌≡◌, ℕ, ◌+◌, ◌-◌, ◌≤◌, List, [], ◌∷◌, ◌++◌, true, false, Option, Some, None, Ok, length, slice_get, refl, ap, ◌∙◌, arith, length-append}
use Rattle.std.specs.Prelude.{ℤ, codes, pos, ◌&&◌}
use Rattle.std.specs.List.{list_all}
use Rattle.std.specs.Option.{option_map}
use Rattle.std.proofs.lemmas.Bool.{and_from, and_parts}
use Rattle.gil_values.specs.Pure.{PureValue, integer, boolean, text, symbol, kind, procedure as procedure_value, list}
use Rattle.gil_syntax.specs.Pure.{PureExpr, name, assign as assign_command, call as call_command, fail as fail_command, PureNumberedCommand, PureProc, PureParts}
use Rattle.gil_syntax.specs.Programs.{find_proc}
use Rattle.gil_syntax.specs.Evaluation.{Store, bind, set_or_fault, evaluate, evaluate_all}
use Rattle.mem_model.specs.Actions.{Actions}
use Rattle.gil_machine.specs.State.{Frame}
use Rattle.gil_machine.specs.Step as machine
use Rattle.gil_machine.specs.Run.{run}
use Rattle.source_language.specs.Completions.{Situation, Completion, normal, throws, unfinished, sets, fails, with_value, with_values}
use Rattle.source_language.specs.Names.{is_source_name, temporary, caught, IsExtendedBy}
use Rattle.source_language.specs.Procedures.{placed}
use Rattle.source_language.specs.Pure.{find_function}
use Rattle.source_language.proofs.Ends.{CallsFollow}
use Rattle.source_language.proofs.Following.{state_at, Here, Catcher, handler_of, Catches, leads, leads_on, Runs, at_place, value_matches, steps, one_step, matched, throw_runs, value_runs, values_run, stays}
use Rattle.source_language.proofs.Stores.{bound_value, extended_both, extended_more, extended_aside}
use Rattle.source_language.proofs.Stretches.{HasAt, has_front, has_back}
use Rattle.source_operators.specs.Codes.{uses, result, all_uses, results}
use Rattle.source_operators.specs.Names.{is_source_expression}
use Rattle.source_operators.specs.Operands.{Operand, read, read_all}
use Rattle.source_operators.proofs.Leaving.{OperatorsRun, Stands, stands_for, AllStand, all_stand_for, operand_leaves, operands_leave}
use Rattle.source_operators.proofs.Steps.{chooses}
use Rattle.source_statements.specs.Values.{Continuation, call_value}
use Rattle.source_statements.proofs.Following.{catcher_of, IsHandled, LanguageRuns}
use Rattle.source_statements.proofs.Values.{draw_runs, call_runs}
use Rattle.object_operators.specs.Codes.{codes_of_operators}
use Rattle.object_operators.specs.Meaning.{meanings}
use Rattle.object_operators.specs.Pure.{PureExpression}
use Rattle.object_lang.specs.Meaning.{Procedures, Calls, acts, gets, goes_on, simple, object_meanings}
use Rattle.object_lang.specs.Names.{is_source_simple}
use Rattle.object_lang.specs.Pure.{PureSimple, assign, input, create, proto, has as has_property, call, set, delete, set_proto, fail, throw}
use Rattle.object_compiler.specs.Compiled.{object_codes, first_code, first_codes, action_code, call_code, throw_code, simple_code}
use Rattle.object_compiler.proofs.Actions.{TakesForObjects, action_runs, creation_runs}
use Rattle.object_compiler.proofs.Lengths.{same_lengths}
use Rattle.object_compiler.proofs.Programs.{procedure, keeps_head}

module _ (p : PureParts) (m : Actions) (takes : TakesForObjects m) (inputs : List PureValue) (functions : Procedures) (loops : ℕ) (calls : Calls)
    (programs : (g : List ℕ) → find_proc p.procs g ≡ option_map procedure (find_function functions g)) (least : ℕ)
    (calls_follow : CallsFollow p m inputs functions calls (least - 1)) (f : List ℕ) (q : PureProc) (found : find_proc p.procs f ≡ Some q)
    (callers : List Frame)
    (operators : (catcher : Catcher) (some end : ℕ) → some ≤ least → OperatorsRun p m inputs f q callers catcher some end (meanings m loops) codes_of_operators) where
  module _ (catcher : Catcher) (end : ℕ) where
    abbrev RunsAt : ℕ → Store → Situation → Completion → Type 0
    RunsAt pc store s c = Runs (run p m inputs) catcher least f callers end (state_at f pc callers store s) c

    here_run : OperatorsRun p m inputs f q callers catcher least end (meanings m loops) codes_of_operators
    here_run = operators catcher least end (omega arith)

    -- a variable of the source has a value, at the end
    is_set : (pc : ℕ) (x : List ℕ) (v : PureValue) (more : Store) (t : Situation) → pc ≡ end → IsExtendedBy t.store more
        → RunsAt pc (bind x v more) t (gets x v t)
    is_set pc x v more t ends ext =
        at_place (run p m inputs) catcher least f callers pc end _ (normal (sets x v t)) ends
        (bind x v more, extended_both x v t.store more ext, stays (run p m inputs) _)

    -- a temporary has a value, at the end
    is_aside : (pc i : ℕ) (v : PureValue) (more : Store) (t : Situation) → pc ≡ end → IsExtendedBy t.store more
        → RunsAt pc (bind (temporary i) v more) t (goes_on v t)
    is_aside pc i v more t ends ext =
        at_place (run p m inputs) catcher least f callers pc end _ (normal t) ends
        (bind (temporary i) v more, extended_more i v t.store more ext, stays (run p m inputs) _)

    -- a variable of the source gets the value of an expression of the machine
    assigns : (pc at : ℕ) (x : List ℕ) (e : PureExpr) (o : _) (more : Store) (t : Situation) → pc + 1 ≡ end → IsExtendedBy t.store more
        → evaluate e more ≡ o → slice_get q.body pc ≡ Some (placed at (assign_command x e))
        → RunsAt pc more t (with_value o (Here f at) t (λ v. gets x v t))
    assigns pc at x e o more t ends ext is has =
        at_place (run p m inputs) catcher least f callers (pc + 1) end _ (with_value o (Here f at) t (λ v. normal (sets x v t))) ends
        (matched p m inputs f q found callers catcher least (pc + 1) (state_at f pc callers more t) _ (with_value o (Here f at) t (λ v. normal (sets x v t)))
        (steps p m inputs f q found callers catcher pc _ more t has
        ∙ ap (λ r. machine.with_value r (Here f at) (state_at f pc callers more t) (λ v. machine.assigned x v (state_at f pc callers more t))) is)
        (value_matches f callers pc (pc + 1) more t (Here f at) o _ _ (λ v. (bind x v more, extended_both x v t.store more ext, refl))))

    -- a failure with the value of an operand
    fails_with : (pc at : ℕ) (e : PureExpr) (o : _) (more : Store) (t : Situation) → evaluate e more ≡ o
        → slice_get q.body pc ≡ Some (placed at (fail_command e))
        → RunsAt pc more t (with_value o (Here f at) t (λ v. fails v (Here f at) t))
    fails_with pc at e o more t is has =
        value_runs p m inputs f q found callers catcher least pc end more t (Here f at) o _ _
        (steps p m inputs f q found callers catcher pc _ more t has
        ∙ ap (λ r. machine.with_value r (Here f at) (state_at f pc callers more t) (λ v. machine.fails_with v (Here f at) (state_at f pc callers more t))) is)
        (λ v stepped. (leads _ _ _ (one_step p m inputs f q found callers catcher _ _ stepped), tt))

    -- a call of a value
    module _ (pc at : ℕ) (x : List ℕ) (args : List PureValue) (more : Store) (t : Situation) (ext : IsExtendedBy t.store more) (catches : Catches catcher x)
        (go : Continuation)
        (next : (v : PureValue) (u : Situation) → RunsAt (pc + 1) (bind x v more) u (go v (record u { store = t.store }))) where
      no_procedure : (v : PureValue) → machine.step p m inputs (state_at f pc callers more t) ≡ machine.fails_with (text (codes "proc")) (Here f at) (state_at f pc callers more t)
          → RunsAt pc more t (fails (text (codes "proc")) (Here f at) t)
      no_procedure v is = (leads _ _ _ (one_step p m inputs f q found callers catcher _ _ is), tt)

      value_called : (v : PureValue) → machine.step p m inputs (state_at f pc callers more t)
          ≡ machine.enter_value p v x (handler_of catcher) args (Here f at) (state_at f pc callers more t)
          → RunsAt pc more t (call_value functions calls v args (Here f at) t go)
      value_called (procedure_value g) is =
          call_runs procedure keeps_head p m inputs functions calls least calls_follow f q found callers catcher end pc at x g
          (find_function functions g) args more t go refl ext catches
          (is ∙ ap (λ o. machine.enter_found o x (handler_of catcher) args (Here f at) (state_at f pc callers more t)) (programs g)) next
      value_called (integer n) is = no_procedure (integer n) is
      value_called (boolean b) is = no_procedure (boolean b) is
      value_called (text cs) is = no_procedure (text cs) is
      value_called (symbol n) is = no_procedure (symbol n) is
      value_called (kind k) is = no_procedure (kind k) is
      value_called (list vs) is = no_procedure (list vs) is

    -- a call at a command, of which the operands are known: the first is the value that is called
    call_at : (pc at : ℕ) (x : List ℕ) (label : Option ℤ) (e : PureExpr) (es : List PureExpr) (a : Operand) (all : List Operand) (k : ℕ) (more : Store) (t : Situation)
        (go : Continuation) → machine.handler_label label ≡ handler_of catcher → Catches catcher x → IsExtendedBy t.store more
        → Stands a e k more → AllStand all es k more → slice_get q.body pc ≡ Some (placed at (call_command x e es label))
        → ((v : PureValue) (u : Situation) → RunsAt (pc + 1) (bind x v more) u (go v (record u { store = t.store })))
        → RunsAt pc more t (with_value (read a t.store) (Here f at) t
        (λ v. with_values (read_all all t.store) (Here f at) t (λ args. call_value functions calls v args (Here f at) t go)))
    call_at pc at x label e es a all k more t go handler catches ext stands stand has next =
        value_runs p m inputs f q found callers catcher least pc end more t (Here f at) (read a t.store) _ _
        (steps p m inputs f q found callers catcher pc _ more t has
        ∙ ap (λ r. machine.with_value r (Here f at) (state_at f pc callers more t) (λ v. machine.with_values (evaluate_all es more) (Here f at)
        (state_at f pc callers more t) (λ args. machine.enter_value p v x (machine.handler_label label) args (Here f at) (state_at f pc callers more t))))
        (stands_for a e k t.store more ext stands))
        (λ v is. values_run p m inputs f q found callers catcher least pc end more t (Here f at) (read_all all t.store) _ _
        (is ∙ ap (λ r. machine.with_values r (Here f at) (state_at f pc callers more t)
        (λ args. machine.enter_value p v x (machine.handler_label label) args (Here f at) (state_at f pc callers more t)))
        (all_stand_for all es k t.store more ext stand))
        (λ args is'. value_called pc at x args more t ext catches go next v
        (is' ∙ ap (λ h. machine.enter_value p v x h args (Here f at) (state_at f pc callers more t)) handler)))

    -- what is done with the operands of a call
    abbrev pub called : ℕ → List ℕ → List Operand → Situation → Completion
    called at x [] u = unfinished
    called at x (a ∷ all) u =
        with_value (read a u.store) (Here f at) u
        (λ v. with_values (read_all all u.store) (Here f at) u (λ args. call_value functions calls v args (Here f at) u (gets x)))

  -- a call where throws leave the procedure, or lead to a handler
  call_follows : (h : Option ℕ) (pc end at : ℕ) (x : List ℕ) (all : List Operand) (e : PureExpr) (es : List PureExpr) (k : ℕ) (more : Store) (t : Situation)
      → pc + length (call_code h at x (e ∷ es)) ≡ end → IsExtendedBy t.store more → AllStand all (e ∷ es) k more
      → HasAt q.body pc (call_code h at x (e ∷ es))
      → Runs (run p m inputs) (catcher_of h) least f callers end (state_at f pc callers more t) (called (catcher_of h) end at x all t)
  call_follows h pc end at x [] e es k more t ends ext stand has = absurd stand
  call_follows None pc end at x (a ∷ all) e es k more t ends ext stand has =
      call_at None end pc at x None e es a all k more t (gets x) refl tt ext stand.0 stand.1 has.0
      (λ v u. is_set None end (pc + 1) x v more (record u { store = t.store }) ends ext)
  call_follows (Some label) pc end at x (a ∷ all) e es k more t ends ext stand has =
      call_at (Some (label, caught)) end pc at caught (Some (pos label)) e es a all k more t (gets x) refl (refl, refl) ext stand.0 stand.1 has.0
      (λ v u. assigns (Some (label, caught)) end (pc + 1) at x (name caught) (Ok v) (bind caught v more) (record u { store = t.store })
      (omega (arith, ends)) (extended_aside caught v t.store more refl ext) (ap set_or_fault (bound_value caught v more)) has.1.0)

  -- a throw of the value of an operand
  throw_follows : (h : Option ℕ) (pc end at : ℕ) (e : PureExpr) (o : _) (more : Store) (t : Situation) → IsExtendedBy t.store more → evaluate e more ≡ o
      → HasAt q.body pc (throw_code h at e)
      → Runs (run p m inputs) (catcher_of h) least f callers end (state_at f pc callers more t) (with_value o (Here f at) t (λ v. throws v (Here f at) t))
  throw_follows None pc end at e o more t ext is has =
      value_runs p m inputs f q found callers None least pc end more t (Here f at) o _ _
      (steps p m inputs f q found callers None pc _ more t has.0
      ∙ ap (λ r. machine.with_value r (Here f at) (state_at f pc callers more t)
      (λ v. machine.throw_to (machine.handling callers) v (Here f at) (state_at f pc callers more t))) is)
      (λ v stepped. throw_runs p m inputs f q found callers None pc more t v (Here f at) stepped)
  throw_follows (Some label) pc end at e o more t ext is has =
      value_runs p m inputs f q found callers (Some (label, caught)) least pc end more t (Here f at) o _ _
      (steps p m inputs f q found callers (Some (label, caught)) pc _ more t has.0
      ∙ ap (λ r. machine.with_value r (Here f at) (state_at f pc callers more t) (λ v. machine.assigned caught v (state_at f pc callers more t))) is)
      (λ v stepped. (
        bind caught v more,
        extended_aside caught v t.store more refl ext,
        bound_value caught v more,
        leads_on (run p m inputs) _ _ _ (leads _ _ _ (one_step p m inputs f q found callers (Some (label, caught)) _ _ stepped))
            (leads _ _ _ (one_step p m inputs f q found callers (Some (label, caught)) _ _
            (steps p m inputs f q found callers (Some (label, caught)) (pc + 1) _ (bind caught v more) t has.1.0))),
      ))

  -- behind one more command
  behind_one : (pc : ℕ) (front : List PureNumberedCommand) (c : PureNumberedCommand) → pc + length front + 1 ≡ pc + length (front ++ c ∷ [])
  behind_one pc front c = omega (arith, length-append front (c ∷ []))

  -- an action whose value a variable of the source gets, and one whose value is left aside
  got_runs : (h : Option ℕ) (pc at : ℕ) (x action : List ℕ) (es : List PureExpression) (store : Store) (s : Situation) → m.takes_symbol action ≡ false
      → IsExtendedBy s.store store → list_all is_source_expression es ≡ true → HasAt q.body pc (action_code pc at x action es)
      → Runs (run p m inputs) (catcher_of h) least f callers (pc + length (action_code pc at x action es)) (state_at f pc callers store s)
      (acts m loops action es (Here f at) s (gets x))
  got_runs h pc at x action es store s takes_none ext names has =
      action_runs p m inputs f q found callers (catcher_of h) least end loops (here_run (catcher_of h) end) pc at x action es store s (gets x) takes_none ext names has
      (λ v more t ext'. is_set (catcher_of h) end (pc + length (first_codes pc at es) + 1) x v more t (behind_one pc (first_codes pc at es) _) ext')
    where
      end : ℕ
      end = pc + length (action_code pc at x action es)

  aside_runs : (h : Option ℕ) (pc at i : ℕ) (action : List ℕ) (es : List PureExpression) (store : Store) (s : Situation) → m.takes_symbol action ≡ false
      → IsExtendedBy s.store store → list_all is_source_expression es ≡ true → HasAt q.body pc (action_code pc at (temporary i) action es)
      → Runs (run p m inputs) (catcher_of h) least f callers (pc + length (action_code pc at (temporary i) action es)) (state_at f pc callers store s)
      (acts m loops action es (Here f at) s goes_on)
  aside_runs h pc at i action es store s takes_none ext names has =
      action_runs p m inputs f q found callers (catcher_of h) least end loops (here_run (catcher_of h) end) pc at (temporary i) action es store s goes_on takes_none ext names has
      (λ v more t ext'. is_aside (catcher_of h) end (pc + length (first_codes pc at es) + 1) i v more t (behind_one pc (first_codes pc at es) _) ext')
    where
      end : ℕ
      end = pc + length (action_code pc at (temporary i) action es)

  -- what is named of one, two and three expressions
  named_two : (a b : PureExpression) → (is_source_expression a && is_source_expression b) ≡ true → list_all is_source_expression (a ∷ b ∷ []) ≡ true
  named_two a b names =
      let parts = and_parts (is_source_expression a) (is_source_expression b) names in
      and_from (is_source_expression a) (is_source_expression b && true) parts.0 (and_from (is_source_expression b) true parts.1 refl)

  named_three : (a b c : PureExpression) → (is_source_expression a && (is_source_expression b && is_source_expression c)) ≡ true
      → list_all is_source_expression (a ∷ b ∷ c ∷ []) ≡ true
  named_three a b c names =
      let parts = and_parts (is_source_expression a) (is_source_expression b && is_source_expression c) names in
      and_from (is_source_expression a) (list_all is_source_expression (b ∷ c ∷ [])) parts.0 (named_two b c parts.1)

  simple_runs : (h : Option ℕ) → IsHandled true h → (c : PureSimple) (pc at : ℕ) (store : Store) (s : Situation) → IsExtendedBy s.store store
      → is_source_simple c ≡ true → HasAt q.body pc (simple_code pc at h c)
      → Runs (run p m inputs) (catcher_of h) least f callers (pc + length (simple_code pc at h c)) (state_at f pc callers store s)
      (simple functions m inputs loops calls c (Here f at) s)
  simple_runs h handled (assign x e) pc at store s ext names has =
      operand_leaves p m inputs f q callers (catcher_of h) least end (meanings m loops) codes_of_operators (here_run (catcher_of h) end) e pc at 0
      (and_parts (is_source_name x) (is_source_expression e) names).1 (has_front q.body pc front (last ∷ []) has) store s _ ext
      (λ a more t ext' keeps stands. assigns (catcher_of h) end (pc + length front) at x (result codes_of_operators e 0) (read a t.store) more t
      (behind_one pc front last) ext' (stands_for a (result codes_of_operators e 0) (0 + uses codes_of_operators e) t.store more ext' stands)
      (has_back q.body pc front (last ∷ []) has).0)
    where
      front : List PureNumberedCommand
      front = first_code pc at e

      last : PureNumberedCommand
      last = placed at (assign_command x (result codes_of_operators e 0))

      end : ℕ
      end = pc + length (front ++ last ∷ [])
  simple_runs h handled (input x k) pc at store s ext names has =
      draw_runs p m inputs f q found callers (catcher_of h) least (pc + 1) pc at x k store s (gets x) has.0
      (λ v. is_set (catcher_of h) (pc + 1) (pc + 1) x v store (record s { draws = s.draws + 1 }) refl ext)
  simple_runs h handled (create x e) pc at store s ext names has =
      creation_runs p m inputs f q found callers (catcher_of h) least end loops (here_run (catcher_of h) end) pc at x e store s (gets x) takes.new ext
      (and_from (is_source_expression e) true (and_parts (is_source_name x) (is_source_expression e) names).1 refl) has
      (λ v more t ext'. is_set (catcher_of h) end (pc + length (first_codes pc at (e ∷ [])) + 1) x v more t (behind_one pc (first_codes pc at (e ∷ [])) _) ext')
    where
      end : ℕ
      end = pc + length (simple_code pc at h (create x e))
  simple_runs h handled (proto x e) pc at store s ext names has =
      got_runs h pc at x (codes "getproto") (e ∷ []) store s takes.getproto ext
      (and_from (is_source_expression e) true (and_parts (is_source_name x) (is_source_expression e) names).1 refl) has
  simple_runs h handled (has_property x a b) pc at store s ext names has =
      got_runs h pc at x (codes "has") (a ∷ b ∷ []) store s takes.has ext
      (named_two a b (and_parts (is_source_name x) (is_source_expression a && is_source_expression b) names).1) has
  simple_runs h handled (call x g es) pc at store s ext names has =
      operands_leave p m inputs f q callers (catcher_of h) least end (meanings m loops) codes_of_operators (here_run (catcher_of h) end) (g ∷ es) pc at 0
      (and_parts (is_source_name x) (list_all is_source_expression (g ∷ es)) names).1 (has_front q.body pc front back has) store s
      (called (catcher_of h) end at x) ext
      (λ all more t ext' keeps stand.
      call_follows h (pc + length front) end at x all (result codes_of_operators g 0) (results codes_of_operators es (0 + uses codes_of_operators g))
      (0 + all_uses codes_of_operators (g ∷ es)) more t (omega (arith, length-append front back)) ext' stand (has_back q.body pc front back has))
    where
      front : List PureNumberedCommand
      front = first_codes pc at (g ∷ es)

      back : List PureNumberedCommand
      back = call_code h at x (results codes_of_operators (g ∷ es) 0)

      end : ℕ
      end = pc + length (front ++ back)
  simple_runs h handled (set a b c) pc at store s ext names has =
      aside_runs h pc at _ (codes "set") (a ∷ b ∷ c ∷ []) store s takes.set ext (named_three a b c names) has
  simple_runs h handled (delete a b) pc at store s ext names has =
      aside_runs h pc at _ (codes "delete") (a ∷ b ∷ []) store s takes.delete ext (named_two a b names) has
  simple_runs h handled (set_proto a b) pc at store s ext names has =
      aside_runs h pc at _ (codes "setproto") (a ∷ b ∷ []) store s takes.setproto ext (named_two a b names) has
  simple_runs h handled (fail e) pc at store s ext names has =
      operand_leaves p m inputs f q callers (catcher_of h) least end (meanings m loops) codes_of_operators (here_run (catcher_of h) end) e pc at 0
      names (has_front q.body pc front last has) store s _ ext
      (λ a more t ext' keeps stands. fails_with (catcher_of h) end (pc + length front) at (result codes_of_operators e 0) (read a t.store) more t
      (stands_for a (result codes_of_operators e 0) (0 + uses codes_of_operators e) t.store more ext' stands) (has_back q.body pc front last has).0)
    where
      front : List PureNumberedCommand
      front = first_code pc at e

      last : List PureNumberedCommand
      last = placed at (fail_command (result codes_of_operators e 0)) ∷ []

      end : ℕ
      end = pc + length (front ++ last)
  simple_runs h handled (throw e) pc at store s ext names has =
      operand_leaves p m inputs f q callers (catcher_of h) least end (meanings m loops) codes_of_operators (here_run (catcher_of h) end) e pc at 0
      names (has_front q.body pc front back has) store s _ ext
      (λ a more t ext' keeps stands. throw_follows h (pc + length front) end at (result codes_of_operators e 0) (read a t.store) more t ext'
      (stands_for a (result codes_of_operators e 0) (0 + uses codes_of_operators e) t.store more ext' stands) (has_back q.body pc front back has))
    where
      front : List PureNumberedCommand
      front = first_code pc at e

      back : List PureNumberedCommand
      back = throw_code h at (result codes_of_operators e 0)

      end : ℕ
      end = pc + length (front ++ back)

  pub language_runs : LanguageRuns p m inputs f q found callers least (object_meanings functions m inputs loops calls) object_codes true is_source_expression is_source_simple
  language_runs = record {
    lengths = λ tries. same_lengths;
    tests = λ catcher some end le e pc at names label has_it has_jumps store s holds fails ext on off.
        operand_leaves p m inputs f q callers catcher some end (meanings m loops) codes_of_operators (operators catcher some end le) e pc at 0 names has_it store s _ ext
        (λ a more t ext' keeps stands.
        chooses p m inputs f q found callers catcher some end (pc + length (first_code pc at e)) label at (result codes_of_operators e 0) more t
        (read a t.store) holds fails has_jumps.0
        (stands_for a (result codes_of_operators e 0) (0 + uses codes_of_operators e) t.store more ext' stands) (on more t ext') (off more t ext'));
    values = λ catcher end e pc at names has_it store s go ext next.
        operand_leaves p m inputs f q callers catcher least end (meanings m loops) codes_of_operators (here_run catcher end) e pc at 0 names has_it store s _ ext
        (λ a more t ext' keeps stands.
        next (read a t.store) more t ext' (stands_for a (result codes_of_operators e 0) (0 + uses codes_of_operators e) t.store more ext' stands));
    simples = simple_runs;
  }
