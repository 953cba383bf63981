-- The commands of C-like expressions and simple statements do what these mean.
use Rattle.std.proofs.Common.{◌≡◌, ℕ, ◌+◌, ◌-◌, List, [], ◌∷◌, ◌++◌, true, false, Option, Some, None, Ok, length, slice_get, refl, sym, ap, subst, true≢false, ◌∙◌, arith, length-append}
use Rattle.std.specs.Prelude.{codes, ◌&&◌}
use Rattle.std.specs.List.{list_all}
use Rattle.std.specs.Option.{option_map}
use Rattle.std.proofs.lemmas.Bool.{and_parts}
use Rattle.gil_values.specs.declared.kinds.Kind.TheVariants.{Int}
use Rattle.gil_values.specs.Pure.{PureValue, procedure}
use Rattle.gil_syntax.specs.Pure.{PureExpr, literal, name, assign as assign_command, call as call_command, act, PureNumberedCommand, PureProc, PureParts}
use Rattle.gil_syntax.specs.Programs.{find_proc}
use Rattle.gil_syntax.specs.Evaluation.{Store, bind, set_or_fault, evaluate}
use Rattle.mem_model.specs.Actions.{Actions}
use Rattle.gil_machine.specs.State.{Frame}
use Rattle.gil_machine.specs.Step as machine
use Rattle.gil_machine.specs.Run.{run}
use Rattle.source_language.specs.Completions.{Situation, Completion, normal, sets, with_value}
use Rattle.source_language.specs.Names.{is_source_name, temporary, IsExtendedBy}
use Rattle.source_language.specs.Procedures.{placed}
use Rattle.source_language.specs.Pure.{find_function}
use Rattle.source_language.proofs.Ends.{CallsFollow}
use Rattle.source_language.proofs.Following.{state_at, Here, Catcher, Runs, at_place, value_matches, steps, matched, values_run, stays}
use Rattle.source_language.proofs.Stores.{bound_value, extended_both, extended_more}
use Rattle.source_language.proofs.Stretches.{HasAt, has_front, has_back}
use Rattle.source_operators.specs.Codes.{uses, result, code, all_uses, results, all_code}
use Rattle.source_operators.specs.Names.{is_source_expression}
use Rattle.source_operators.specs.Operands.{read, read_all}
use Rattle.source_operators.proofs.Leaving.{OperatorsRun, keeps_itself, stands_for, stands_on, all_stand_for, operand_leaves, operands_leave}
use Rattle.source_operators.proofs.Steps.{at_label}
use Rattle.source_statements.proofs.Ends.{keeps_head}
use Rattle.source_statements.proofs.Following.{catcher_of, IsHandled, LanguageRuns}
use Rattle.source_statements.proofs.Values.{draw_runs, call_runs}
use Rattle.clike_operators.specs.declared.pieces.Beyond.TheVariants.{Vanishes}
use Rattle.clike_operators.specs.Codes.{codes_of_operators, range_code}
use Rattle.clike_operators.specs.Meaning.{meanings}
use Rattle.clike_operators.specs.Ranges.{ranged}
use Rattle.clike_operators.proofs.Ranges.{range_runs, tested_runs}
use Rattle.clike_lang.specs.Meaning.{Calls, gets, simple, clike_meanings}
use Rattle.clike_lang.specs.Names.{is_source_target, is_source_simple}
use Rattle.clike_lang.specs.Pure.{PureSimple, assign, input, malloc, call, free, store as store_in, PureFunction}
use Rattle.clike_compiler.specs.Compiled.{clike_codes, compiled_function, target, free_code, store_code, first_code, simple_code, expression_uses}
use Rattle.clike_compiler.proofs.Actions.{TakesForBlocks, alloc_runs, free_runs, store_runs}

module _ (p : PureParts) (m : Actions) (takes : TakesForBlocks m) (inputs : List PureValue) (functions : List PureFunction) (calls : Calls)
    (programs : (g : List ℕ) → find_proc p.procs g ≡ option_map compiled_function (find_function functions g)) (least : ℕ)
    (calls_follow : CallsFollow p m inputs functions calls (least - 1)) (f : List ℕ) (q : PureProc) (found : find_proc p.procs f ≡ Some q)
    (callers : List Frame)
    (operators : (catcher : Catcher) (some end : ℕ) → OperatorsRun p m inputs f q callers catcher some end (meanings m) codes_of_operators) where
  -- behind one more command
  behind_one : (pc : ℕ) (front : List PureNumberedCommand) (c : PureNumberedCommand) → pc + length front + 1 ≡ pc + length (front ++ c ∷ [])
  behind_one pc front c = omega (arith, length-append front (c ∷ []))

  -- a variable of the source gets the value of an expression of the machine
  assigns : (pc end at : ℕ) (x : List ℕ) (e : PureExpr) (o : _) (more : Store) (t : Situation) → pc + 1 ≡ end → IsExtendedBy t.store more
      → evaluate e more ≡ o → slice_get q.body pc ≡ Some (placed at (assign_command x e))
      → Runs (run p m inputs) None least f callers end (state_at f pc callers more t) (with_value o (Here f at) t (λ v. normal (sets x v t)))
  assigns pc end at x e o more t ends ext is has =
      at_place (run p m inputs) None least f callers (pc + 1) end _ (with_value o (Here f at) t (λ v. normal (sets x v t))) ends
      (matched p m inputs f q found callers None least (pc + 1) (state_at f pc callers more t) _ (with_value o (Here f at) t (λ v. normal (sets x v t)))
      (steps p m inputs f q found callers None pc _ more t has
      ∙ ap (λ r. machine.with_value r (Here f at) (state_at f pc callers more t) (λ v. machine.assigned x v (state_at f pc callers more t))) is)
      (value_matches f callers pc (pc + 1) more t (Here f at) o _ _ (λ v. (bind x v more, extended_both x v t.store more ext, refl))))

  -- a result goes to the variable of a call, or into a temporary
  got : (pc end i : ℕ) (x : Option (List ℕ)) (v : PureValue) (more : Store) (t u : Situation) → pc ≡ end → IsExtendedBy t.store more
      → Runs (run p m inputs) None least f callers end (state_at f pc callers (bind (target x i) v more) u) (gets x v (record u { store = t.store }))
  got pc end i None v more t u ends ext =
      at_place (run p m inputs) None least f callers pc end _ (normal (record u { store = t.store })) ends
      (bind (temporary i) v more, extended_more i v t.store more ext, stays (run p m inputs) _)
  got pc end i (Some x) v more t u ends ext =
      at_place (run p m inputs) None least f callers pc end _ (normal (sets x v (record u { store = t.store }))) ends
      (bind x v more, extended_both x v t.store more ext, stays (run p m inputs) _)

  simple_runs : (c : PureSimple) (pc at : ℕ) (store : Store) (s : Situation) → IsExtendedBy s.store store → is_source_simple c ≡ true
      → HasAt q.body pc (simple_code pc at c)
      → Runs (run p m inputs) None least f callers (pc + length (simple_code pc at c)) (state_at f pc callers store s)
      (simple functions m inputs calls c (Here f at) s)
  simple_runs (assign x e) pc at store s ext names has =
      operand_leaves p m inputs f q callers None least end (meanings m) codes_of_operators (operators None least end) e pc at 0
      (and_parts (is_source_name x) (is_source_expression e) names).1 (has_front q.body pc front _ has) store s _ ext
      (λ a more t ext' keeps stands. assigns (pc + length front) end at x (result codes_of_operators e 0) (read a t.store) more t
      (behind_one pc front last) ext' (stands_for a (result codes_of_operators e 0) (0 + uses codes_of_operators e) t.store more ext' stands)
      (has_back q.body pc front _ has).0)
    where
      front : List PureNumberedCommand
      front = first_code pc at e

      last : PureNumberedCommand
      last = placed at (assign_command x (result codes_of_operators e 0))

      end : ℕ
      end = pc + length (front ++ last ∷ [])
  simple_runs (input x) pc at store s ext names has =
      draw_runs p m inputs f q found callers None least end pc at (temporary 0) Int store s go has.0
      (λ v. range_runs p m inputs f q found callers None least end (pc + 1) at (name (temporary 0)) v Vanishes (bind (temporary 0) v store) then
      (λ w u. normal (sets x w u)) (ap set_or_fault (bound_value (temporary 0) v store)) (has_front q.body (pc + 1) range last has.1)
      (at_label p m inputs f q found callers None least end (pc + 1 + length range) (pc + 1 + 4) (bind (temporary 0) v store) then
      (normal (sets x v then)) refl
      (assigns (pc + 1 + length range) end at x (name (temporary 0)) (Ok v) (bind (temporary 0) v store) then ends
      (extended_more 0 v s.store store ext) (ap set_or_fault (bound_value (temporary 0) v store)) (has_back q.body (pc + 1) range last has.1).0)))
    where
      go : PureValue → Situation → Completion
      go v t = ranged v Vanishes (Here f at) t (λ w u. normal (sets x w u))

      then : Situation
      then = record s { draws = s.draws + 1 }

      last : List PureNumberedCommand
      last = placed at (assign_command x (name (temporary 0))) ∷ []

      range : List PureNumberedCommand
      range = range_code (pc + 1) at (name (temporary 0)) Vanishes

      end : ℕ
      end = pc + length (simple_code pc at (input x))

      ends : pc + 1 + length range + 1 ≡ end
      ends = omega (arith, length-append range last)
  simple_runs (malloc x e) pc at store s ext names has =
      operand_leaves p m inputs f q callers None least end (meanings m) codes_of_operators (operators None least end) e pc at 0
      (and_parts (is_source_name x) (is_source_expression e) names).1 (has_front q.body pc front _ has) store s _ ext
      (λ a more t ext' keeps stands. alloc_runs p m takes inputs f q found callers least end (pc + length front) at (0 + uses codes_of_operators e) x a
      (result codes_of_operators e 0) more t (λ l u. normal (sets x l u)) ext' stands (has_back q.body pc front _ has).0
      (λ l u same. at_place (run p m inputs) None least f callers (pc + length front + 1) end _ (normal (sets x l u)) (behind_one pc front last)
      (bind x l more, extended_both x l u.store more (subst (λ st. IsExtendedBy st more) (sym same) ext'), stays (run p m inputs) _)))
    where
      front : List PureNumberedCommand
      front = first_code pc at e

      last : PureNumberedCommand
      last = placed at (act x (codes "alloc") (result codes_of_operators e 0 ∷ []))

      end : ℕ
      end = pc + length (front ++ last ∷ [])
  simple_runs (call x g es) pc at store s ext names has =
      operands_leave p m inputs f q callers None least end (meanings m) codes_of_operators (operators None least end) es pc at 0
      (and_parts (is_source_target x) (list_all is_source_expression es) names).1 (has_front q.body pc front _ has) store s _ ext
      (λ all more t ext' keeps stand.
      values_run p m inputs f q found callers None least n end more t (Here f at) (read_all all t.store) _ _
      (steps p m inputs f q found callers None n _ more t (has_back q.body pc front _ has).0
      ∙ ap (λ o. machine.with_values o (Here f at) (state_at f n callers more t)
      (λ args. machine.enter_found (find_proc p.procs g) to None args (Here f at) (state_at f n callers more t)))
      (all_stand_for all (results codes_of_operators es 0) (0 + all_uses codes_of_operators es) t.store more ext' stand))
      (λ args is. call_runs compiled_function (keeps_head clike_codes) p m inputs functions calls least calls_follow f q found callers None end n at to g
      (find_function functions g) args more t (gets x) refl ext' tt
      (is ∙ ap (λ o. machine.enter_found o to None args (Here f at) (state_at f n callers more t)) (programs g))
      (λ v u. got (n + 1) end (all_uses codes_of_operators es) x v more t u (behind_one pc front last) ext')))
    where
      front : List PureNumberedCommand
      front = all_code codes_of_operators es pc at 0

      n : ℕ
      n = pc + length front

      to : List ℕ
      to = target x (all_uses codes_of_operators es)

      last : PureNumberedCommand
      last = placed at (call_command to (literal (procedure g)) (results codes_of_operators es 0) None)

      end : ℕ
      end = pc + length (front ++ last ∷ [])
  simple_runs (free e) pc at store s ext names has =
      operand_leaves p m inputs f q callers None least end (meanings m) codes_of_operators (operators None least end) e pc at 0
      names (has_front q.body pc front _ has) store s _ ext
      (λ a more t ext' keeps stands. free_runs p m takes inputs f q found callers least end (pc + length front) at (uses codes_of_operators e) a
      (result codes_of_operators e 0) more t (omega (arith, length-append front back)) ext'
      (stands_on a (result codes_of_operators e 0) (0 + uses codes_of_operators e) (uses codes_of_operators e) more more (omega arith)
      (keeps_itself (0 + uses codes_of_operators e) more) stands) (has_back q.body pc front _ has))
    where
      front : List PureNumberedCommand
      front = first_code pc at e

      back : List PureNumberedCommand
      back = free_code (pc + length front) at (uses codes_of_operators e) (result codes_of_operators e 0)

      end : ℕ
      end = pc + length (front ++ back)
  simple_runs (store_in a b c) pc at store s ext names has =
      operand_leaves p m inputs f q callers None least end (meanings m) codes_of_operators (operators None least end) a pc at 0 parts.0
      (has_front q.body pc first _ has) store s _ ext
      (λ x more t ext1 keeps1 stands1.
      operand_leaves p m inputs f q callers None least end (meanings m) codes_of_operators (operators None least end) b pc1 at i1 sides.0
      (has_front q.body pc1 second _ has1) more t _ ext1
      (λ y over u ext2 keeps2 stands2.
      operand_leaves p m inputs f q callers None least end (meanings m) codes_of_operators (operators None least end) c pc2 at i2 sides.1
      (has_front q.body pc2 third _ has2) over u _ ext2
      (λ z last r ext3 keeps3 stands3.
      store_runs p m takes inputs f q found callers least end pc3 at i3 x y z (result codes_of_operators a 0) (result codes_of_operators b i1)
      (result codes_of_operators c i2) last r ends ext3
      (stands_on x (result codes_of_operators a 0) i2 i3 over last (omega arith) keeps3
      (stands_on x (result codes_of_operators a 0) i1 i2 more over (omega arith) keeps2
      (stands_on x (result codes_of_operators a 0) (0 + uses codes_of_operators a) i1 more more (omega arith)
      (keeps_itself (0 + uses codes_of_operators a) more) stands1)))
      (stands_on y (result codes_of_operators b i1) i2 i3 over last (omega arith) keeps3 stands2)
      stands3 (has_back q.body pc2 third _ has2))))
    where
      i1 : ℕ
      i1 = expression_uses a

      i2 : ℕ
      i2 = expression_uses a + expression_uses b

      i3 : ℕ
      i3 = expression_uses a + expression_uses b + expression_uses c

      parts : (is_source_expression a ≡ true) × ((is_source_expression b && is_source_expression c) ≡ true)
      parts = and_parts (is_source_expression a) (is_source_expression b && is_source_expression c) names

      sides : (is_source_expression b ≡ true) × (is_source_expression c ≡ true)
      sides = and_parts (is_source_expression b) (is_source_expression c) parts.1

      first : List PureNumberedCommand
      first = first_code pc at a

      pc1 : ℕ
      pc1 = pc + length first

      second : List PureNumberedCommand
      second = code codes_of_operators b pc1 at i1

      pc2 : ℕ
      pc2 = pc1 + length second

      third : List PureNumberedCommand
      third = code codes_of_operators c pc2 at i2

      pc3 : ℕ
      pc3 = pc2 + length third

      back : List PureNumberedCommand
      back = store_code pc3 at i3 (result codes_of_operators a 0) (result codes_of_operators b i1) (result codes_of_operators c i2)

      has1 : HasAt q.body pc1 (second ++ (third ++ back))
      has1 = has_back q.body pc first _ has

      has2 : HasAt q.body pc2 (third ++ back)
      has2 = has_back q.body pc1 second _ has1

      end : ℕ
      end = pc + length (first ++ (second ++ (third ++ back)))

      ends : pc3 + length back ≡ end
      ends = omega (arith, length-append first (second ++ (third ++ back)), length-append second (third ++ back), length-append third back)

  -- no statement has a handler around it
  of_handler : (h : Option ℕ) → IsHandled false h → (c : PureSimple) (pc at : ℕ) (store : Store) (s : Situation) → IsExtendedBy s.store store
      → is_source_simple c ≡ true → HasAt q.body pc (simple_code pc at c)
      → Runs (run p m inputs) (catcher_of h) least f callers (pc + length (simple_code pc at c)) (state_at f pc callers store s)
      (simple functions m inputs calls c (Here f at) s)
  of_handler (Some label) handled c pc at store s ext names has = absurd (true≢false (sym handled))
  of_handler None handled c pc at store s ext names has = simple_runs c pc at store s ext names has

  pub language_runs : LanguageRuns p m inputs f q found callers least (clike_meanings functions m inputs calls) clike_codes false is_source_expression is_source_simple
  language_runs = record {
    lengths = λ tries. absurd (true≢false (sym tries));
    tests = λ catcher some end le e pc at names label has_front has_jumps store s holds fails ext on off.
        operand_leaves p m inputs f q callers catcher some end (meanings m) codes_of_operators (operators catcher some end) e pc at 0 names has_front store s _ ext
        (λ a more t ext' keeps stands.
        tested_runs p m inputs f q found callers catcher some end (pc + length (first_code pc at e)) at (0 + uses codes_of_operators e) label a
        (result codes_of_operators e 0) more t (fails t) (holds t) ext' stands has_jumps (off more t ext') (on more t ext'));
    values = λ catcher end e pc at names has_front store s go ext next.
        operand_leaves p m inputs f q callers catcher least end (meanings m) codes_of_operators (operators catcher least end) e pc at 0 names has_front store s _ ext
        (λ a more t ext' keeps stands.
        next (read a t.store) more t ext' (stands_for a (result codes_of_operators e 0) (0 + uses codes_of_operators e) t.store more ext' stands));
    simples = of_handler;
  }
