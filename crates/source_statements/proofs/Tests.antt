-- The machine follows choices, checks and loops, whether the jumps of a condition are taken where it holds or where it doesn't.
use Rattle.std.proofs.Common.{◌≡◌, ℕ, zero, suc, ◌+◌, ◌-◌, ◌≤◌, List, [], ◌∷◌, ◌++◌, Bool, true, false, not, Some, length, slice_get, refl, ap, subst, ◌∙◌, arith, length-append}
use Rattle.gil_values.specs.Pure.{PureValue}
use Rattle.gil_syntax.specs.Pure.{PureExpr, PureCommand, PureNumberedCommand, PureProc, PureParts}
use Rattle.gil_syntax.specs.Programs.{find_proc}
use Rattle.gil_syntax.specs.Evaluation.{Store}
use Rattle.mem_model.specs.Actions.{Actions}
use Rattle.gil_machine.specs.State.{Frame, goes_on}
use Rattle.gil_machine.specs.Run.{run}
use Rattle.source_language.specs.Code.{truth, jump}
use Rattle.source_language.specs.Completions.{Situation, Completion, normal, then_do}
use Rattle.source_language.specs.Names.{IsExtendedBy}
use Rattle.source_language.specs.Procedures.{placed}
use Rattle.source_language.proofs.Branches.{jumps, then_jumps}
use Rattle.source_language.proofs.Following.{state_at, Catcher, Leads, stays, Runs, fewer, runs_after, runs_on, runs_then, at_place, steps, one_step}
use Rattle.source_language.proofs.Stretches.{HasAt, has_front, has_back}
use Rattle.source_statements.specs.Codes.{jumps_to, behind, inside_label, guarded_code, far_label, choice_code, if_code}
use Rattle.source_statements.specs.Tests.{Test, turns}
use Rattle.source_statements.proofs.Lengths.{jumps_length}

-- where a condition leads that holds, by whether its jumps are taken then, by where they lead, and by what stands behind them
abbrev pub holds_at : Bool → ℕ → ℕ → ℕ
holds_at true label next = label
holds_at false label next = next

-- the condition that holds where the other one doesn't
abbrev pub flipped : Test → Test
flipped test s holds fails = test s fails holds

module _ (p : PureParts) (m : Actions) (inputs : List PureValue) (f : List ℕ) (q : PureProc) (found : find_proc p.procs f ≡ Some q)
    (callers : List Frame) (catcher : Catcher) where
  -- The commands from a place on do what a test does: where it holds the machine comes to one place, and else to another.
  abbrev pub TestLeads : ℕ → ℕ → ℕ → ℕ → ℕ → Test → Type 0
  TestLeads some end pc on off test = (store : Store) (s : Situation) (holds fails : Situation → Completion) → IsExtendedBy s.store store
      → ((more : Store) (t : Situation) → IsExtendedBy t.store more
      → Runs (run p m inputs) catcher some f callers end (state_at f on callers more t) (holds t))
      → ((more : Store) (t : Situation) → IsExtendedBy t.store more
      → Runs (run p m inputs) catcher some f callers end (state_at f off callers more t) (fails t))
      → Runs (run p m inputs) catcher some f callers end (state_at f pc callers store s) (test s holds fails)

  turned : (some end pc on off : ℕ) (test : Test) → TestLeads some end pc on off test → TestLeads some end pc off on (flipped test)
  turned some end pc on off test lead store s holds fails ext a b = lead store s fails holds ext b a

  -- wherever its jumps lead, the test leads there or behind them
  abbrev pub JumpsLead : Bool → ℕ → ℕ → ℕ → ℕ → List PureNumberedCommand → List PureExpr → Test → Type 0
  JumpsLead taken some end pc at front es test = (label : ℕ) → HasAt q.body pc front → HasAt q.body (pc + length front) (jumps_to at es label)
      → TestLeads some end pc (holds_at taken label (behind pc front es)) (holds_at taken (behind pc front es) label) test

  turn : (taken : Bool) (some end pc at : ℕ) (front : List PureNumberedCommand) (es : List PureExpr) (test : Test)
      → JumpsLead taken some end pc at front es test → JumpsLead (not taken) some end pc at front es (flipped test)
  turn true some end pc at front es test lead label a b = turned some end pc label (behind pc front es) test (lead label a b)
  turn false some end pc at front es test lead label a b = turned some end pc (behind pc front es) label test (lead label a b)

  there : (end from : ℕ) (store : Store) (s : Situation) (some : ℕ) → from ≡ end → IsExtendedBy s.store store
      → Runs (run p m inputs) catcher some f callers end (state_at f from callers store s) (normal s)
  there end from store s some same ext =
      (store, ext, subst (λ n. Leads (run p m inputs) (state_at f from callers store s) (goes_on (state_at f n callers store s))) same (stays (run p m inputs) _))

  -- commands that are done where the test holds, and that are left out where it doesn't
  pub guarded_runs : (into : Bool) (some end pc at : ℕ) (front : List PureNumberedCommand) (es : List PureExpr) (inside : List PureNumberedCommand)
      (test : Test) (holds : Situation → Completion) → pc + length (guarded_code into pc at front es inside) ≡ end
      → HasAt q.body pc (guarded_code into pc at front es inside) → JumpsLead into some end pc at front es test
      → (store : Store) (s : Situation) → IsExtendedBy s.store store
      → (HasAt q.body (inside_label into pc front es) inside → (more : Store) (t : Situation) → IsExtendedBy t.store more
      → Runs (run p m inputs) catcher some f callers end (state_at f (inside_label into pc front es) callers more t) (holds t))
      → Runs (run p m inputs) catcher some f callers end (state_at f pc callers store s) (test s holds (λ t. normal t))
  guarded_runs true some end pc at front es inside test holds ends has lead store s ext follows =
      lead (n + 1) (has_front q.body pc front _ has) (has_front q.body (pc + length front) jumping _ at_exits) store s holds (λ t. normal t) ext
      (follows at_inside)
      (λ more t ext'. (
        more,
        ext',
        subst (λ k. Leads (run p m inputs) (state_at f n callers more t) (goes_on (state_at f k callers more t))) there_end
            (jumps p m inputs f q found callers catcher n (n + 1 + length inside) at more t at_jump.0),
      ))
    where
      n : ℕ
      n = behind pc front es

      jumping : List PureNumberedCommand
      jumping = jumps_to at es (n + 1)

      out : List PureNumberedCommand
      out = jump at truth (n + 1 + length inside) ∷ []

      at_exits : HasAt q.body (pc + length front) (jumping ++ out)
      at_exits = has_front q.body (pc + length front) (jumping ++ out) inside (has_back q.body pc front _ has)

      at_jump : HasAt q.body n out
      at_jump = subst (λ k. HasAt q.body k out) (omega (arith, jumps_length at (n + 1) es)) (has_back q.body (pc + length front) jumping out at_exits)

      at_inside : HasAt q.body (n + 1) inside
      at_inside = subst (λ k. HasAt q.body k inside) (omega (arith, jumps_length at (n + 1) es, length-append jumping out))
          (has_back q.body (pc + length front) (jumping ++ out) inside (has_back q.body pc front _ has))

      there_end : n + 1 + length inside ≡ end
      there_end = omega (arith, ends, jumps_length at (n + 1) es, length-append jumping out, length-append (jumping ++ out) inside, length-append front ((jumping ++ out) ++ inside))
  guarded_runs false some end pc at front es inside test holds ends has lead store s ext follows =
      lead (n + length inside) (has_front q.body pc front _ has) (has_front q.body (pc + length front) jumping _ at_exits) store s holds (λ t. normal t) ext
      (follows at_inside)
      (λ more t ext'. there end (n + length inside) more t some there_end ext')
    where
      n : ℕ
      n = behind pc front es

      jumping : List PureNumberedCommand
      jumping = jumps_to at es (n + length inside)

      at_exits : HasAt q.body (pc + length front) (jumping ++ inside)
      at_exits = has_back q.body pc front _ has

      at_inside : HasAt q.body n inside
      at_inside = subst (λ k. HasAt q.body k inside) (omega (arith, jumps_length at (n + length inside) es))
          (has_back q.body (pc + length front) jumping inside at_exits)

      there_end : n + length inside ≡ end
      there_end = omega (arith, ends, jumps_length at (n + length inside) es, length-append jumping inside, length-append front (jumping ++ inside))

  -- a command that is done where the test doesn't hold
  pub check_runs : (taken : Bool) (some end pc at : ℕ) (front : List PureNumberedCommand) (es : List PureExpr) (c : PureCommand)
      (test : Test) (fails : Situation → Completion) → pc + length (guarded_code (not taken) pc at front es (placed at c ∷ [])) ≡ end
      → HasAt q.body pc (guarded_code (not taken) pc at front es (placed at c ∷ [])) → JumpsLead taken some end pc at front es test
      → (store : Store) (s : Situation) → IsExtendedBy s.store store
      → ((k : ℕ) → slice_get q.body k ≡ Some (placed at c) → (more : Store) (t : Situation)
      → Runs (run p m inputs) catcher some f callers end (state_at f k callers more t) (fails t))
      → Runs (run p m inputs) catcher some f callers end (state_at f pc callers store s) (test s (λ t. normal t) fails)
  check_runs taken some end pc at front es c test fails ends has lead store s ext follows =
      guarded_runs (not taken) some end pc at front es (placed at c ∷ []) (flipped test) fails ends has
      (turn taken some end pc at front es test lead) store s ext
      (λ at_inside more t ext'. follows (inside_label (not taken) pc front es) at_inside.0 more t)

  -- two stretches of commands, the second of which the jumps lead to
  choice_runs : (some end pc at : ℕ) (front : List PureNumberedCommand) (es : List PureExpr) (near far : List PureNumberedCommand)
      (test : Test) (on off : Situation → Completion) → pc + length (choice_code pc at front es near far) ≡ end
      → HasAt q.body pc (choice_code pc at front es near far) → JumpsLead true some end pc at front es test
      → (store : Store) (s : Situation) → IsExtendedBy s.store store
      → (HasAt q.body (far_label pc front es near) far → (more : Store) (t : Situation) → IsExtendedBy t.store more
      → Runs (run p m inputs) catcher some f callers (far_label pc front es near + length far) (state_at f (far_label pc front es near) callers more t) (on t))
      → (HasAt q.body (behind pc front es) near → (more : Store) (t : Situation) → IsExtendedBy t.store more
      → Runs (run p m inputs) catcher some f callers (behind pc front es + length near) (state_at f (behind pc front es) callers more t) (off t))
      → Runs (run p m inputs) catcher some f callers end (state_at f pc callers store s) (test s on off)
  choice_runs some end pc at front es near far test on off ends has lead store s ext at_far at_near =
      lead label (has_front q.body pc front _ has) (has_front q.body (pc + length front) jumping _ behind_front) store s on off ext
      (λ more t ext'. at_place (run p m inputs) catcher some f callers (label + length far) end _ (on t) there_end
      (at_far (subst (λ k. HasAt q.body k far) (omega arith) behind_near.1) more t ext'))
      (λ more t ext'. then_jumps p m inputs f q found callers catcher some (n + length near) end at _ (off t)
      (behind_near.0 ∙ ap (λ k. Some (jump at truth k)) there_end) (at_near (has_front q.body n near _ at_sides) more t ext'))
    where
      n : ℕ
      n = behind pc front es

      label : ℕ
      label = far_label pc front es near

      jumping : List PureNumberedCommand
      jumping = jumps_to at es label

      sides : List PureNumberedCommand
      sides = near ++ (jump at truth (label + length far) ∷ far)

      behind_front : HasAt q.body (pc + length front) (jumping ++ sides)
      behind_front = has_back q.body pc front _ has

      at_sides : HasAt q.body n sides
      at_sides = subst (λ k. HasAt q.body k sides) (omega (arith, jumps_length at label es)) (has_back q.body (pc + length front) jumping sides behind_front)

      behind_near : HasAt q.body (n + length near) (jump at truth (label + length far) ∷ far)
      behind_near = has_back q.body n near _ at_sides

      there_end : label + length far ≡ end
      there_end = omega (
        arith,
        ends,
        jumps_length at label es,
        length-append near (jump at truth (label + length far) ∷ far),
        length-append jumping sides,
        length-append front (jumping ++ sides),
      )

  -- a choice, from where its two blocks lead
  pub if_runs : (taken : Bool) (some end pc at : ℕ) (front : List PureNumberedCommand) (es : List PureExpr) (on_code off_code : ℕ → List PureNumberedCommand)
      (test : Test) (on off : Situation → Completion) → pc + length (if_code taken pc at front es on_code off_code) ≡ end
      → HasAt q.body pc (if_code taken pc at front es on_code off_code) → JumpsLead taken some end pc at front es test
      → (store : Store) (s : Situation) → IsExtendedBy s.store store
      → ((n : ℕ) → HasAt q.body n (on_code n) → (more : Store) (t : Situation) → IsExtendedBy t.store more
      → Runs (run p m inputs) catcher some f callers (n + length (on_code n)) (state_at f n callers more t) (on t))
      → ((n : ℕ) → HasAt q.body n (off_code n) → (more : Store) (t : Situation) → IsExtendedBy t.store more
      → Runs (run p m inputs) catcher some f callers (n + length (off_code n)) (state_at f n callers more t) (off t))
      → Runs (run p m inputs) catcher some f callers end (state_at f pc callers store s) (test s on off)
  if_runs true some end pc at front es on_code off_code test on off ends has lead store s ext on_runs off_runs =
      choice_runs some end pc at front es (off_code (behind pc front es)) (on_code (far_label pc front es (off_code (behind pc front es)))) test on off
      ends has lead store s ext (on_runs _) (off_runs _)
  if_runs false some end pc at front es on_code off_code test on off ends has lead store s ext on_runs off_runs =
      choice_runs some end pc at front es (on_code (behind pc front es)) (off_code (far_label pc front es (on_code (behind pc front es)))) (flipped test) off on
      ends has (turn false some end pc at front es test lead) store s ext (off_runs _) (on_runs _)

  -- a loop, whose commands before the test do nothing
  pub loop_runs : (into : Bool) (least end pc start at : ℕ) (front : List PureNumberedCommand) (es : List PureExpr) (code : List PureNumberedCommand)
      (test : Test) (body : Situation → Completion)
      → start + length (guarded_code into start at front es (code ++ jump at truth pc ∷ [])) ≡ end
      → HasAt q.body start (guarded_code into start at front es (code ++ jump at truth pc ∷ []))
      → ((store : Store) (s : Situation) → Leads (run p m inputs) (state_at f pc callers store s) (goes_on (state_at f start callers store s)))
      → ((some : ℕ) → some ≤ least → JumpsLead into some end start at front es test)
      → (HasAt q.body (inside_label into start front es) code → (store : Store) (s : Situation) → IsExtendedBy s.store store
      → Runs (run p m inputs) catcher least f callers (inside_label into start front es + length code) (state_at f (inside_label into start front es) callers store s) (body s))
      → (n some : ℕ) → some ≤ n → some ≤ least → (store : Store) (s : Situation) → IsExtendedBy s.store store
      → Runs (run p m inputs) catcher some f callers end (state_at f pc callers store s) (turns n test body s)
  loop_runs into least end pc start at front es code test body ends has begin lead follows zero some le le' store s ext = (0, le, refl)
  loop_runs into least end pc start at front es code test body ends has begin lead follows (suc n) some le le' store s ext =
      runs_after (run p m inputs) catcher some f callers end _ _ _ (begin store s)
      (guarded_runs into some end start at front es (code ++ jump at truth pc ∷ []) test (λ t. then_do (body t) (turns n test body)) ends has (lead some le')
      store s ext
      (λ at_inside more t ext'. runs_then (run p m inputs) catcher some f callers (inside + length code) end _ (body t) _
      (fewer (run p m inputs) catcher some least f callers (inside + length code) _ (body t) le' (follows (has_front q.body inside code _ at_inside) more t ext'))
      (λ over u ext''. fewer (run p m inputs) catcher some (suc (some - 1)) f callers end _ _ (omega arith)
      (runs_on (run p m inputs) catcher (some - 1) f callers end _ (state_at f pc callers over u) _
      (one_step p m inputs f q found callers catcher _ _ (steps p m inputs f q found callers catcher (inside + length code) _ over u
      (has_back q.body inside code _ at_inside).0))
      (loop_runs into least end pc start at front es code test body ends has begin lead follows n (some - 1) (omega (arith, le)) (omega (arith, le')) over u ext'')))))
    where
      inside : ℕ
      inside = inside_label into start front es
