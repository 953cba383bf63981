-- The commands of statements follow what the statements do, where those of expressions and simple statements do.
use Rattle.std.proofs.Common.{◌≡◌, ℕ, ◌+◌, ◌≤◌, List, ◌∷◌, ◌++◌, Bool, true, Option, Some, None, is_some, length, refl, ap, subst, ◌∙◌, arith, length-append}
use Rattle.std.specs.Prelude.{codes, max, ◌&&◌}
use Rattle.std.proofs.lemmas.Bool.{and_parts}
use Rattle.gil_values.specs.Pure.{PureValue, text}
use Rattle.gil_values.specs.Operators.{Outcome}
use Rattle.gil_syntax.specs.Pure.{PureExpr, literal, name, assign as assign_command, fail, vanish, PureNumberedCommand, PureProc, PureParts}
use Rattle.gil_syntax.specs.Programs.{find_proc}
use Rattle.gil_syntax.specs.Evaluation.{Store, bind, value_of, set_or_fault, evaluate}
use Rattle.mem_model.specs.Actions.{Actions}
use Rattle.gil_machine.specs.State.{Frame, goes_on, vanished}
use Rattle.gil_machine.specs.Step as machine
use Rattle.gil_machine.specs.Run.{run}
use Rattle.source_language.specs.Completions.{Situation, Completion, normal, returns, over, end_of, sets, fails, with_value}
use Rattle.source_language.specs.Code.{truth, jump}
use Rattle.source_language.specs.Procedures.{placed}
use Rattle.source_language.specs.Names.{is_source_name, has_source_invariant, caught, own_names, IsExtendedBy}
use Rattle.source_language.proofs.Branches.{then_jumps, is_there, invariant_leads, logic_runs}
use Rattle.source_language.proofs.Following.{state_at, Here, Catcher, handler_of, Leads, leads, leaves, Runs, runs_after, runs_then, at_place, handled_runs, value_matches, steps, one_step, matched}
use Rattle.source_language.proofs.Stores.{extended_both}
use Rattle.source_language.proofs.Stretches.{HasAt, has_front, has_back}
use Rattle.source_statements.specs.Codes.{Codes, inside_label}
use Rattle.source_statements.specs.Compiled.{block_temporaries, block_throws, head_code, loop_code, handler_label, statement_code, block_code}
use Rattle.source_statements.specs.Lengths.{block_length}
use Rattle.source_statements.specs.Meaning.{Meanings, statement, block}
use Rattle.source_statements.specs.Names.{is_source_statement, is_source_block}
use Rattle.source_statements.specs.Pure.{PureStatement, simple, assert, assume, if_else, while, return, logic, try_catch, PureBlock, no_statements, statement_and}
use Rattle.source_statements.specs.Values.{Continuation}
use Rattle.source_statements.proofs.Lengths.{SameLengths, block-long}
use Rattle.source_statements.proofs.Tests.{JumpsLead, check_runs, if_runs, loop_runs}

-- where throws of commands go that have a handler at a label, or none
abbrev pub catcher_of : Option ℕ → Catcher
catcher_of (Some label) = Some (label, caught)
catcher_of None = None

pub same_handler : (h : Option ℕ) → handler_of (catcher_of h) ≡ h
same_handler (Some label) = refl
same_handler None = refl

-- throws are handled only in a language whose blocks may have handlers
abbrev pub IsHandled : Bool → Option ℕ → Type 0
IsHandled has_try (Some label) = has_try ≡ true
IsHandled has_try None = Unit {0}

module _ (p : PureParts) (m : Actions) (inputs : List PureValue) (f : List ℕ) (q : PureProc) (found : find_proc p.procs f ≡ Some q)
    (callers : List Frame) (least : ℕ) where
  -- The commands from a place on, and a command at another place that evaluates an expression, do what gives a value: where it goes on
  -- with a value, the machine is at that command, and the expression comes to the same.
  abbrev pub ValueLeads : Catcher → ℕ → ℕ → ℕ → ℕ → PureExpr → (Situation → Continuation → Completion) → Type 0
  ValueLeads catcher end pc pc' at e does = (store : Store) (s : Situation) (go : Continuation) → IsExtendedBy s.store store
      → ((o : Outcome) (more : Store) (t : Situation) → IsExtendedBy t.store more → evaluate e more ≡ o
      → Runs (run p m inputs) catcher least f callers end (state_at f pc' callers more t) (with_value o (Here f at) t (λ v. go v t)))
      → Runs (run p m inputs) catcher least f callers end (state_at f pc callers store s) (does s go)

  module _ {E S : Type 0} (k : Meanings E S) (c : Codes E S) (has_try : Bool) (is_source_expression : E → Bool) (is_source_simple : S → Bool) where
    -- what is to be shown of the expressions and simple statements of a language
    pub record LanguageRuns : Type 0 where
      pub lengths : has_try ≡ true → SameLengths c
      pub tests : (catcher : Catcher) (some end : ℕ) → some ≤ least → (e : E) (pc at : ℕ) → is_source_expression e ≡ true
          → JumpsLead p m inputs f q found callers catcher c.where_true some end pc at (c.front e pc at) (c.jumps (c.operand e)) (k.test e (Here f at))
      pub values : (catcher : Catcher) (end : ℕ) (e : E) (pc at : ℕ) → is_source_expression e ≡ true → HasAt q.body pc (c.front e pc at)
          → ValueLeads catcher end pc (pc + length (c.front e pc at)) at (c.operand e) (k.value e (Here f at))
      pub simples : (h : Option ℕ) → IsHandled has_try h → (x : S) (pc at : ℕ) (store : Store) (s : Situation) → IsExtendedBy s.store store
          → is_source_simple x ≡ true → HasAt q.body pc (c.simple_code h pc at x)
          → Runs (run p m inputs) (catcher_of h) least f callers (pc + length (c.simple_code h pc at x)) (state_at f pc callers store s) (k.simple x (Here f at) s)

    module _ (runs : LanguageRuns) (loops : ℕ) (enough : least ≤ loops) where
      abbrev Named : PureBlock E S → Type 0
      Named b = is_source_block has_try is_source_expression is_source_simple b ≡ true

      mutual
        pub statement_runs : (h : Option ℕ) → IsHandled has_try h → (x : PureStatement E S) (pc at : ℕ) (store : Store) (s : Situation) → IsExtendedBy s.store store
            → is_source_statement has_try is_source_expression is_source_simple x ≡ true → HasAt q.body pc (statement_code c h pc at x)
            → Runs (run p m inputs) (catcher_of h) least f callers (pc + length (statement_code c h pc at x)) (state_at f pc callers store s) (statement k loops x (Here f at) s)
        statement_runs h handled (simple x) pc at store s ext names has = runs.simples h handled x pc at store s ext names has
        statement_runs h handled (assert e) pc at store s ext names has =
            check_runs p m inputs f q found callers (catcher_of h) c.where_true least _ pc at (c.front e pc at) (c.jumps (c.operand e)) (fail (literal (text (codes "assert"))))
            (k.test e (Here f at)) (λ t. fails (text (codes "assert")) (Here f at) t) refl has (runs.tests (catcher_of h) least _ (omega arith) e pc at names) store s ext
            (λ n there more t. matched p m inputs f q found callers (catcher_of h) least (pc + length (statement_code c h pc at (assert e))) _ _ (fails (text (codes "assert")) (Here f at) t)
            (steps p m inputs f q found callers (catcher_of h) n _ more t there) (refl, tt))
        statement_runs h handled (assume e) pc at store s ext names has =
            check_runs p m inputs f q found callers (catcher_of h) c.where_true least _ pc at (c.front e pc at) (c.jumps (c.operand e)) vanish
            (k.test e (Here f at)) (λ t. over (end_of vanished t)) refl has (runs.tests (catcher_of h) least _ (omega arith) e pc at names) store s ext
            (λ n there more t. matched p m inputs f q found callers (catcher_of h) least (pc + length (statement_code c h pc at (assume e))) _ _ (over (end_of vanished t))
            (steps p m inputs f q found callers (catcher_of h) n _ more t there) (refl, tt))
        statement_runs h handled (if_else e on off) pc at store s ext names has =
            if_runs p m inputs f q found callers (catcher_of h) c.where_true least _ pc at (c.front e pc at) (c.jumps (c.operand e)) (λ n. block_code c h n on) (λ n. block_code c h n off)
            (k.test e (Here f at)) (block k loops f on) (block k loops f off) refl has (runs.tests (catcher_of h) least _ (omega arith) e pc at parts.0) store s ext
            (λ n there more t ext'. block_runs h handled on n more t ext' sides.0 there)
            (λ n there more t ext'. block_runs h handled off n more t ext' sides.1 there)
          where
            parts : (is_source_expression e ≡ true) × ((is_source_block has_try is_source_expression is_source_simple on && is_source_block has_try is_source_expression is_source_simple off) ≡ true)
            parts = and_parts _ _ names

            sides : Named on × Named off
            sides = and_parts _ _ parts.1
        statement_runs h handled (while e invariant body) pc at store s ext names has =
            loop_runs p m inputs f q found callers (catcher_of h) c.where_true least _ pc start at (c.front e start at) (c.jumps (c.operand e)) code
            (k.test e (Here f at)) (block k loops f body) ends (has_back q.body pc head _ has)
            (λ more t. invariant_leads p m inputs f q found callers (catcher_of h) least pc at (own_names (max (c.uses e) (block_temporaries c body)) (block_throws c (is_some h) body)) invariant more t (has_front q.body pc head _ has))
            (λ some le. runs.tests (catcher_of h) some _ le e start at parts.0)
            (λ there more t ext'. block_runs h handled body inside more t ext' (and_parts (has_source_invariant invariant) _ parts.1).1 there)
            loops least enough (omega arith) store s ext
          where
            head : List PureNumberedCommand
            head = head_code c h at e invariant body

            start : ℕ
            start = pc + length head

            inside : ℕ
            inside = inside_label c.where_true start (c.front e start at) (c.jumps (c.operand e))

            code : List PureNumberedCommand
            code = block_code c h inside body

            whole : List PureNumberedCommand
            whole = loop_code c pc at start e (λ n. block_code c h n body)

            ends : start + length whole ≡ pc + length (head ++ whole)
            ends = omega (arith, length-append head whole)

            parts : (is_source_expression e ≡ true) × ((has_source_invariant invariant && is_source_block has_try is_source_expression is_source_simple body) ≡ true)
            parts = and_parts _ _ names
        statement_runs h handled (return e) pc at store s ext names has =
            runs.values (catcher_of h) _ e pc at names (has_front q.body pc front _ has) store s (λ v t. returns v t) ext
            (λ o more t ext' is.
            matched p m inputs f q found callers (catcher_of h) least _ (state_at f (pc + length front) callers more t) _ (with_value o (Here f at) t (λ v. returns v t))
            (steps p m inputs f q found callers (catcher_of h) (pc + length front) _ more t (has_back q.body pc front _ has).0
            ∙ ap (λ r. machine.with_value r (Here f at) (state_at f (pc + length front) callers more t) (λ v. machine.leave callers v (state_at f (pc + length front) callers more t))) is)
            (value_matches f callers (pc + length front) (pc + length (statement_code c h pc at (return e))) more t (Here f at) o _ _ (λ v. leaves callers callers f (pc + length front) v more t)))
          where
            front : List PureNumberedCommand
            front = c.front e pc at
        statement_runs h handled (try_catch body y handler) pc at store s ext names has =
            handled_runs (run p m inputs) (catcher_of h) least f callers end start caught (state_at f pc callers store s) (block k loops f body s)
            (λ v t. block k loops f handler (sets y v t))
            (then_jumps p m inputs f q found callers (Some (start, caught)) least (pc + length inside) end at _ (block k loops f body s)
            (behind_inside.0 ∙ ap (λ n. Some (jump at truth n)) ends)
            (block_runs (Some start) parts.0 body pc store s ext sides.0 (has_front q.body pc inside _ has)))
            (λ v more t ext' is.
            runs_after (run p m inputs) (catcher_of h) least f callers end _ _ _ (gets v more t is)
            (at_place (run p m inputs) (catcher_of h) least f callers (start + 1 + length rest) end _ (block k loops f handler (sets y v t)) ends
            (block_runs h handled handler (start + 1) (bind y v more) (sets y v t) (extended_both y v t.store more ext') sides.1 at_handler.1)))
          where
            start : ℕ
            start = handler_label c pc body

            inside : List PureNumberedCommand
            inside = block_code c (Some start) pc body

            rest : List PureNumberedCommand
            rest = block_code c h (start + 1) handler

            behind : List PureNumberedCommand
            behind = placed at (assign_command y (name caught)) ∷ rest

            end : ℕ
            end = pc + length (statement_code c h pc at (try_catch body y handler))

            parts : (has_try ≡ true) × ((is_source_name y && (is_source_block has_try is_source_expression is_source_simple body && is_source_block has_try is_source_expression is_source_simple handler)) ≡ true)
            parts = and_parts _ _ names

            sides : Named body × Named handler
            sides = and_parts _ _ (and_parts (is_source_name y) _ parts.1).1

            long : length inside ≡ block_length c body
            long = block-long c (runs.lengths parts.0) body start pc

            behind_inside : HasAt q.body (pc + length inside) (jump at truth (start + 1 + length rest) ∷ behind)
            behind_inside = has_back q.body pc inside _ has

            at_handler : HasAt q.body start behind
            at_handler = subst (λ n. HasAt q.body n behind) (omega (arith, long)) behind_inside.1

            ends : start + 1 + length rest ≡ end
            ends = omega (arith, long, length-append inside (jump at truth (start + 1 + length rest) ∷ behind))

            -- the variable gets what is thrown
            gets : (v : PureValue) (more : Store) (t : Situation) → value_of more caught ≡ Some v
                → Leads (run p m inputs) (state_at f start callers more t) (goes_on (state_at f (start + 1) callers (bind y v more) (sets y v t)))
            gets v more t is = leads _ _ _ (one_step p m inputs f q found callers (catcher_of h) _ _
                (steps p m inputs f q found callers (catcher_of h) start _ more t at_handler.0
                ∙ ap (λ o. machine.with_value (set_or_fault o) (Here f at) (state_at f start callers more t)
                (λ w. machine.assigned y w (state_at f start callers more t))) is))
        statement_runs h handled (logic l) pc at store s ext names has = logic_runs p m inputs f q found callers (catcher_of h) least pc at l store s ext has

        pub block_runs : (h : Option ℕ) → IsHandled has_try h → (b : PureBlock E S) (pc : ℕ) (store : Store) (s : Situation) → IsExtendedBy s.store store → Named b
            → HasAt q.body pc (block_code c h pc b)
            → Runs (run p m inputs) (catcher_of h) least f callers (pc + length (block_code c h pc b)) (state_at f pc callers store s) (block k loops f b s)
        block_runs h handled no_statements pc store s ext names has =
            at_place (run p m inputs) (catcher_of h) least f callers pc (pc + 0) _ (normal s) (omega arith) (is_there p m inputs f q found callers (catcher_of h) least pc store s ext)
        block_runs h handled (statement_and at x rest) pc store s ext names has =
            at_place (run p m inputs) (catcher_of h) least f callers _ _ _ _ ends
            (runs_then (run p m inputs) (catcher_of h) least f callers (pc + length code) (pc + length code + length (block_code c h (pc + length code) rest)) _ _ _
            (statement_runs h handled x pc at store s ext parts.0 (has_front q.body pc code _ has))
            (λ more t ext'. block_runs h handled rest (pc + length code) more t ext' parts.1 (has_back q.body pc code _ has)))
          where
            code : List PureNumberedCommand
            code = statement_code c h pc at x

            parts : (is_source_statement has_try is_source_expression is_source_simple x ≡ true) × Named rest
            parts = and_parts _ _ names

            ends : pc + length code + length (block_code c h (pc + length code) rest) ≡ pc + length (code ++ block_code c h (pc + length code) rest)
            ends = omega (arith, length-append code (block_code c h (pc + length code) rest))
