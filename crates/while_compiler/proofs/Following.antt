-- The commands of each statement follow what the statement does.
use Rattle.std.proofs.Common.{◌≡◌, ℕ, suc, ◌+◌, ◌-◌, ◌≤◌, List, [], ◌∷◌, ◌++◌, Bool, true, false, cond, Option, Some, None, Ok, Err, length, slice_get, refl, sym, ap, subst, ◌∙◌, arith, length-append}
use Rattle.std.specs.Prelude.{codes, ◌==◌, ◌&&◌}
use Rattle.std.specs.Option.{option_map}
use Rattle.std.proofs.lemmas.Bool.{and_parts}
use Rattle.gil_values.specs.declared.places.Place.{Place}
use Rattle.gil_values.specs.Pure.{PureValue, text, symbol}
use Rattle.gil_values.specs.Operators.{Outcome}
use Rattle.gil_syntax.specs.Pure.{PureExpr, name, PureNumberedCommand, PureProc, PureParts, from_list}
use Rattle.gil_syntax.specs.Programs.{find_proc}
use Rattle.gil_syntax.specs.Evaluation.{Store, bind, both, evaluate, evaluate_all}
use Rattle.mem_model.specs.Actions.{Actions}
use Rattle.gil_machine.specs.State.{Frame, State, Step}
use Rattle.gil_machine.specs.Step as machine
use Rattle.gil_machine.specs.Run.{run}
use Rattle.source_language.specs.Code.{truth, jump}
use Rattle.source_language.specs.Compiled.{while_code}
use Rattle.source_language.specs.Calls.{call_found}
use Rattle.source_language.specs.Completions.{Situation, Completion, normal, fails, sets, with_value, after_action, draws_input, new_symbol, value_test, after_body, back_in, thrown_in}
use Rattle.source_language.specs.Names.{is_source_expr, is_source_name, has_source_invariant, temporary, temporaries_from, IsExtendedBy}
use Rattle.source_language.specs.Pure.{find_function}
use Rattle.source_language.proofs.Branches.{is_there, assert_runs, assume_runs, if_runs, invariant_leads, value_tests, loop_runs, logic_runs}
use Rattle.source_language.proofs.Ends.{CallsFollow}
use Rattle.source_language.proofs.Stores.{same_value, same_elements, extended_both, extended_more}
use Rattle.source_language.proofs.Stretches.{HasAt, has_front, has_back}
use Rattle.source_language.proofs.Following.{state_at, Here, leaves, leads, Runs, fewer, runs_then, at_place, call_runs, Matches, value_matches, input_matches, steps, one_step, matched, value_runs, values_run, outcome_runs}
use Rattle.while_lang.specs.Pure.{PureStatement, assign, input, symbol as new_symbol_in, new, lookup, call, mutate, dispose, assert, assume, if_else, while, return, fail, logic, PureBlock, no_statements, statement_and, PureFunction}
use Rattle.while_lang.specs.Meaning.{Calls, statement, block}
use Rattle.while_lang.specs.Names.{is_source_statement, is_source_block}
use Rattle.while_compiler.specs.Compiled.{block_temporaries, head_code, statement_code, block_code, compiled_function}
use Rattle.while_compiler.proofs.NewRecords.{TakesForNew, new_runs}

-- one value, and a first and a third one with a text between
one_value : (o : Outcome) (here : Place) (st : State) (then : List PureValue → Step)
    → machine.with_values (both o (Ok [])) here st then ≡ machine.with_value o here st (λ v. then (v ∷ []))
one_value (Ok v) here st then = refl
one_value (Err fault) here st then = refl

value_and_text : (o : Outcome) (cs : List ℕ) (here : Place) (st : State) (then : List PureValue → Step)
    → machine.with_values (both o (both (Ok (text cs)) (Ok []))) here st then ≡ machine.with_value o here st (λ v. then (v ∷ text cs ∷ []))
value_and_text (Ok v) cs here st then = refl
value_and_text (Err fault) cs here st then = refl

value_text_value : (o r : Outcome) (cs : List ℕ) (here : Place) (st : State) (then : List PureValue → Step)
    → machine.with_values (both o (both (Ok (text cs)) (both r (Ok [])))) here st then ≡ machine.with_value o here st
    (λ v. machine.with_value r here st (λ w. then (v ∷ text cs ∷ w ∷ [])))
value_text_value (Ok v) (Ok w) cs here st then = refl
value_text_value (Ok v) (Err fault) cs here st then = refl
value_text_value (Err fault) r cs here st then = refl

module _ (p : PureParts) (m : Actions) (takes : TakesForNew m) (inputs : List PureValue) (functions : List PureFunction) (loops : ℕ)
    (calls : Calls)
    (programs : (g : List ℕ) → find_proc p.procs g ≡ option_map compiled_function (find_function functions g)) where
  module _ (least : ℕ) (enough : least ≤ loops) (calls_follow : CallsFollow p m inputs functions calls (least - 1)) (f : List ℕ) (q : PureProc)
      (found : find_proc p.procs f ≡ Some q) (callers : List Frame) where
    -- one command that takes a value
    value_steps : (pc pc' at : ℕ) (store : Store) (s : Situation) (o : Outcome) (e : PureExpr) (then : PureValue → Completion)
        (then' : PureValue → Step) → IsExtendedBy s.store store → is_source_expr e ≡ true
        → machine.step p m inputs (state_at f pc callers store s) ≡ machine.with_value (evaluate e store) (Here f at) (state_at f pc callers store s) then'
        → ((v : PureValue) → Matches f callers pc' (then v) (then' v))
        → Runs (run p m inputs) None least f callers pc' (state_at f pc callers store s) (with_value (evaluate e s.store) (Here f at) s then)
    value_steps pc pc' at store s o e then then' ext names is match =
        matched p m inputs f q found callers None least pc' (state_at f pc callers store s) _ (with_value (evaluate e s.store) (Here f at) s then)
        (is ∙ ap (λ o. machine.with_value o (Here f at) (state_at f pc callers store s) then') (same_value e s.store store ext names))
        (value_matches f callers pc pc' store s (Here f at) (evaluate e s.store) then then' match)

    -- an action that takes no symbol
    act_runs : (pc pc' at : ℕ) (a x : List ℕ) (args : List PureValue) (store : Store) (s : Situation)
        (then : PureValue → Situation → Completion) → m.takes_symbol a ≡ false
        → machine.step p m inputs (state_at f pc callers store s) ≡ machine.do_action (m.takes_symbol a) m x a args (Here f at) (state_at f pc callers store s)
        → ((v : PureValue) (t : Situation) → t.store ≡ s.store → Runs (run p m inputs) None least f callers pc' (state_at f (pc + 1) callers (bind x v store) t) (then v t))
        → Runs (run p m inputs) None least f callers pc' (state_at f pc callers store s) (after_action (m.act a None args s.heap) (Here f at) s then)
    act_runs pc pc' at a x args store s then off is next =
        outcome_runs p m inputs f q found callers None least pc pc' x store (record s { heap = (m.act a None args s.heap).heap }) (Here f at)
        (state_at f pc callers store s) (m.act a None args s.heap).outcome then
        (is ∙ ap (λ b. machine.do_action b m x a args (Here f at) (state_at f pc callers store s)) off)
        (λ v. next v _ refl)

    -- a call of a function, of none, or with another number of arguments
    called : (pc at : ℕ) (x g : List ℕ) (o : Option PureFunction) (args : List PureValue) (store : Store) (s : Situation)
        → find_function functions g ≡ o → IsExtendedBy s.store store
        → machine.step p m inputs (state_at f pc callers store s) ≡ machine.enter_found (option_map compiled_function o) x None args (Here f at)
        (state_at f pc callers store s) → Runs (run p m inputs) None least f callers (pc + 1) (state_at f pc callers store s) (call_found calls o x args (Here f at) s)
    called pc at x g None args store s there ext is = (leads _ _ _ (one_step p m inputs f q found callers None _ _ is), tt)
    called pc at x g (Some h) args store s there ext is = by_arity (length args == length h.params) is
      where
        caller : Frame
        caller = record { procedure = f; next = pc + 1; store = store; waits = Some x; handler = None }

        by_arity : (b : Bool) → machine.step p m inputs (state_at f pc callers store s) ≡ cond b
            (machine.enter (compiled_function h) x None args (state_at f pc callers store s))
            (machine.fails_with (text (codes "arity")) (Here f at) (state_at f pc callers store s))
            → Runs (run p m inputs) None least f callers (pc + 1) (state_at f pc callers store s) (cond b (after_body (calls h args s) (back_in s x) (thrown_in s)) (fails (text (codes "arity"))
            (Here f at) s))
        by_arity true goes =
            fewer (run p m inputs) None least (suc (least - 1)) f callers (pc + 1) _ _ (omega arith)
            (call_runs (run p m inputs) None (least - 1) f x callers (pc + 1) store s (state_at f pc callers store s)
            (state_at h.name 0 (caller ∷ callers) (machine.bind_all h.params args) s) (calls h args s) ext tt
            (one_step p m inputs f q found callers None _ _ goes) (calls_follow g h args (caller ∷ callers) s there))
        by_arity false goes = (leads _ _ _ (one_step p m inputs f q found callers None _ _ goes), tt)

    mutual
      pub statement_runs : (c : PureStatement) (pc at : ℕ) (store : Store) (s : Situation) → IsExtendedBy s.store store
          → is_source_statement c ≡ true → HasAt q.body pc (statement_code pc at c)
          → Runs (run p m inputs) None least f callers (pc + length (statement_code pc at c)) (state_at f pc callers store s) (statement functions m inputs loops calls c (Here f at) s)
      statement_runs (assign x e) pc at store s ext names has =
          value_steps pc (pc + 1) at store s (evaluate e s.store) e _ _ ext (and_parts (is_source_name x) _ names).1
          (steps p m inputs f q found callers None pc _ store s has.0)
          (λ v. (bind x v store, extended_both x v s.store store ext, refl))
      statement_runs (input x k) pc at store s ext names has =
          matched p m inputs f q found callers None least (pc + 1) _ _ (draws_input inputs x k s)
          (steps p m inputs f q found callers None pc _ store s has.0)
          (input_matches f x k callers pc store (record s { draws = s.draws + 1 }) (slice_get inputs s.draws) ext)
      statement_runs (new_symbol_in x) pc at store s ext names has =
          matched p m inputs f q found callers None least (pc + 1) _ _ (normal (new_symbol x s))
          (steps p m inputs f q found callers None pc _ store s has.0)
          (bind x (symbol s.counter) store, extended_both x (symbol s.counter) s.store store ext, refl)
      statement_runs (new x fields) pc at store s ext names has =
          new_runs p m takes inputs f q found callers least pc at x fields store s ext (and_parts (is_source_name x) _ names).1 has
      statement_runs (lookup x y prop) pc at store s ext names has =
          value_runs p m inputs f q found callers None least pc (pc + 1) store s (Here f at) (evaluate (name y) s.store) _ _
          (steps p m inputs f q found callers None pc _ store s has.0
          ∙ value_and_text (evaluate (name y) store) prop (Here f at) (state_at f pc callers store s) _
          ∙ ap (λ o. machine.with_value o (Here f at) (state_at f pc callers store s)
          (λ v. machine.do_action (m.takes_symbol (codes "lookup")) m x (codes "lookup") (v ∷ text prop ∷ []) (Here f at)
          (state_at f pc callers store s))) (same_value (name y) s.store store ext (and_parts (is_source_name x) _ names).1))
          (λ l is. act_runs pc (pc + 1) at (codes "lookup") x (l ∷ text prop ∷ []) store s _ takes.lookup is
          (λ v t same. is_there p m inputs f q found callers None least (pc + 1) (bind x v store) (sets x v t)
          (extended_both x v t.store store (subst (λ st. IsExtendedBy st store) (sym same) ext))))
      statement_runs (call x g es) pc at store s ext names has =
          values_run p m inputs f q found callers None least pc (pc + 1) store s (Here f at) (evaluate_all es s.store) _ _
          (steps p m inputs f q found callers None pc _ store s has.0
          ∙ ap (λ o. machine.with_values o (Here f at) (state_at f pc callers store s)
          (λ args. machine.enter_found (find_proc p.procs g) x None args (Here f at) (state_at f pc callers store s)))
          (same_elements (from_list es) s.store store ext (and_parts (is_source_name x) _ names).1))
          (λ args is. called pc at x g (find_function functions g) args store s refl ext
          (is ∙ ap (λ o. machine.enter_found o x None args (Here f at) (state_at f pc callers store s)) (programs g)))
      statement_runs (mutate y prop e) pc at store s ext names has =
          value_runs p m inputs f q found callers None least pc (pc + 1) store s (Here f at) (evaluate (name y) s.store) _ _
          (steps p m inputs f q found callers None pc _ store s has.0
          ∙ value_text_value (evaluate (name y) store) (evaluate e store) prop (Here f at) (state_at f pc callers store s) _
          ∙ ap (λ o. machine.with_value o (Here f at) (state_at f pc callers store s)
          (λ v. machine.with_value (evaluate e store) (Here f at) (state_at f pc callers store s)
          (λ w. machine.do_action (m.takes_symbol (codes "mutate")) m (temporary 0) (codes "mutate") (v ∷ text prop ∷ w ∷ [])
          (Here f at) (state_at f pc callers store s)))) (same_value (name y) s.store store ext (and_parts (is_source_name y) _ names).0))
          (λ l is. value_runs p m inputs f q found callers None least pc (pc + 1) store s (Here f at) (evaluate e s.store) _ _
          (is ∙ ap (λ o. machine.with_value o (Here f at) (state_at f pc callers store s)
          (λ w. machine.do_action (m.takes_symbol (codes "mutate")) m (temporary 0) (codes "mutate") (l ∷ text prop ∷ w ∷ [])
          (Here f at) (state_at f pc callers store s))) (same_value e s.store store ext (and_parts (is_source_name y) _ names).1))
          (λ v is'. act_runs pc (pc + 1) at (codes "mutate") (temporary 0) (l ∷ text prop ∷ v ∷ []) store s _ takes.mutate is'
          (λ w t same. is_there p m inputs f q found callers None least (pc + 1) (bind (temporary 0) w store) t
          (extended_more 0 w t.store store (subst (λ st. IsExtendedBy st store) (sym same) ext)))))
      statement_runs (dispose e) pc at store s ext names has =
          value_runs p m inputs f q found callers None least pc (pc + 1) store s (Here f at) (evaluate e s.store) _ _
          (steps p m inputs f q found callers None pc _ store s has.0 ∙ one_value (evaluate e store) (Here f at) (state_at f pc callers store s) _
          ∙ ap (λ o. machine.with_value o (Here f at) (state_at f pc callers store s)
          (λ v. machine.do_action (m.takes_symbol (codes "dispose")) m (temporary 0) (codes "dispose") (v ∷ []) (Here f at)
          (state_at f pc callers store s))) (same_value e s.store store ext names))
          (λ l is. act_runs pc (pc + 1) at (codes "dispose") (temporary 0) (l ∷ []) store s _ takes.dispose is
          (λ w t same. is_there p m inputs f q found callers None least (pc + 1) (bind (temporary 0) w store) t
          (extended_more 0 w t.store store (subst (λ st. IsExtendedBy st store) (sym same) ext))))
      statement_runs (assert e) pc at store s ext names has =
          assert_runs p m inputs f q found callers None least pc at e store s (evaluate e s.store) (same_value e s.store store ext names) ext has
      statement_runs (assume e) pc at store s ext names has =
          assume_runs p m inputs f q found callers None least pc at e store s (evaluate e s.store) (same_value e s.store store ext names) ext has
      statement_runs (if_else e on off) pc at store s ext names has =
          if_runs p m inputs f q found callers None least pc at e off_code on_code store s (evaluate e s.store)
          (block functions m inputs loops calls f on) (block functions m inputs loops calls f off)
          (same_value e s.store store ext parts.0) has
          (λ at_on. block_runs on (pc + 1 + length off_code + 1) store s ext sides.0 at_on)
          (block_runs off (pc + 1) store s ext sides.1 (has_front q.body (pc + 1) off_code _ has.1))
        where
          off_code : List PureNumberedCommand
          off_code = block_code (pc + 1) off

          on_code : List PureNumberedCommand
          on_code = block_code (pc + 1 + length off_code + 1) on

          parts : (is_source_expr e ≡ true) × ((is_source_block on && is_source_block off) ≡ true)
          parts = and_parts _ _ names

          sides : (is_source_block on ≡ true) × (is_source_block off ≡ true)
          sides = and_parts _ _ parts.1
      statement_runs (while e invariant body) pc at store s ext names has =
          loop_runs p m inputs f q found callers None least pc at e front code (value_test (λ t. evaluate e t.store) (Here f at))
          (block functions m inputs loops calls f body) has
          (value_tests p m inputs f q found callers None least pc (pc + length front) start (pc + length (while_code pc at e front code)) at e parts.0 at_test.0
          (λ more t. invariant_leads p m inputs f q found callers None least pc at (temporaries_from 0 (block_temporaries body)) invariant more t (has_front q.body pc front _ has)))
          (λ more t ext'. block_runs body start more t ext' (and_parts (has_source_invariant invariant) _ parts.1).1 at_body)
          loops least enough (omega arith) store s ext
        where
          front : List PureNumberedCommand
          front = head_code at invariant body

          start : ℕ
          start = pc + length front + 1 + 1

          code : List PureNumberedCommand
          code = block_code start body

          parts : (is_source_expr e ≡ true) × ((has_source_invariant invariant && is_source_block body) ≡ true)
          parts = and_parts _ _ names

          at_test : HasAt q.body (pc + length front) (jump at e start ∷ jump at truth (start + length code + 1) ∷ (code ++ jump at truth pc ∷ []))
          at_test = has_back q.body pc front _ has

          at_body : HasAt q.body start code
          at_body = has_front q.body _ code _ at_test.1.1
      statement_runs (return e) pc at store s ext names has =
          value_steps pc (pc + 1) at store s (evaluate e s.store) e _ _ ext names (steps p m inputs f q found callers None pc _ store s has.0)
          (λ v. leaves callers callers f pc v store s)
      statement_runs (fail e) pc at store s ext names has =
          value_steps pc (pc + 1) at store s (evaluate e s.store) e _ _ ext names
          (steps p m inputs f q found callers None pc _ store s has.0) (λ v. (refl, tt))
      statement_runs (logic c) pc at store s ext names has = logic_runs p m inputs f q found callers None least pc at c store s ext has

      pub block_runs : (b : PureBlock) (pc : ℕ) (store : Store) (s : Situation) → IsExtendedBy s.store store → is_source_block b ≡ true
          → HasAt q.body pc (block_code pc b) → Runs (run p m inputs) None least f callers (pc + length (block_code pc b)) (state_at f pc callers store s)
          (block functions m inputs loops calls f b s)
      block_runs no_statements pc store s ext names has =
          at_place (run p m inputs) None least f callers pc (pc + 0) _ (normal s) (omega arith) (is_there p m inputs f q found callers None least pc store s ext)
      block_runs (statement_and at c rest) pc store s ext names has =
          at_place (run p m inputs) None least f callers _ _ _ _ ends
          (runs_then (run p m inputs) None least f callers (pc + length code)
          (pc + length code + length (block_code (pc + length code) rest)) _ _ _
          (statement_runs c pc at store s ext parts.0 (has_front q.body pc code _ has))
          (λ more t ext'. block_runs rest (pc + length code) more t ext' parts.1 (has_back q.body pc code _ has)))
        where
          code : List PureNumberedCommand
          code = statement_code pc at c

          parts : (is_source_statement c ≡ true) × (is_source_block rest ≡ true)
          parts = and_parts _ _ names

          ends : pc + length code + length (block_code (pc + length code) rest) ≡ pc + length (code ++ block_code (pc + length code) rest)
          ends = omega (arith, length-append code (block_code (pc + length code) rest))
