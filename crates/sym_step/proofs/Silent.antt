-- The paths of a step at the commands that ask nothing.
use Rattle.std.proofs.Common.{◌≡◌, ℕ, ℤ, List, [], ◌∷◌, false, Some, None, refl, sym, ap}
use Rattle.gil_values.specs.declared.kinds.Kind.{Kind}
use Rattle.gil_values.specs.Pure.{PureValue}
use Rattle.gil_syntax.specs.Pure.{PureParts, PureCommand, PureNumberedCommand, vanish, usym, isym, assign, call, act, ifgoto, return, fail, throw, fold_use, unfold_use, assert_that, loop_invariant}
use Rattle.gil_syntax.specs.Valid.{ends_body, IsValid}
use Rattle.mem_model.specs.declared.keys.MemoryName.{MemoryName}
use Rattle.mem_model.specs.Actions.{Actions}
use Rattle.mem_model.specs.Heaps.{Heap}
use Rattle.pure_terms.specs.declared.variables.Sort.{Sort}
use Rattle.pure_terms.specs.Pure.{PureTerm}
use Rattle.sym_engine.specs.Placed.{AreAtCommands}
use Rattle.sym_engine.proofs.Placing.{advanced_there}
use Rattle.sym_engine.proofs.SilentNarrow.{vanishing_narrow, passing_narrow, with_fresh_narrow, with_draw_narrow}
use Rattle.sym_engine.proofs.SilentPlain.{vanishing_plain, passing_plain, with_fresh_plain, with_draw_plain}
use Rattle.sym_evaluation.specs.Pure.{PureStore}
use Rattle.sym_model.specs.Laws.{IsMeaning}
use Rattle.sym_model.specs.Terms.{StateTerms}
use Rattle.sym_model.proofs.ListLaws.{not_none}
use Rattle.sym_paths.specs.Forms.{NeedsAt}
use Rattle.sym_paths.specs.Laws.{IsBound}
use Rattle.sym_paths.specs.Meaning.{IsOverTable, command_of_path}
use Rattle.sym_paths.specs.Moves.{IsLogic, AskNothing, draw_sort, running_store, vanishing, passing, next_variable, with_fresh, with_draw}
use Rattle.sym_paths.specs.Pure.{PurePath}
use Rattle.sym_paths.proofs.Forms.{needs_at}
use Rattle.sym_paths.proofs.Moving.{ask_nothing}
use Rattle.sym_step.specs.Next.{AreStepped}
use Rattle.sym_step.proofs.Next.{one_next, one_ended, one_placed, one_within, one_narrow}

logic_stays : (k : PureCommand) → IsLogic k → ends_body k ≡ false
logic_stays (fold_use u) logic = refl
logic_stays (unfold_use u) logic = refl
logic_stays (assert_that items) logic = refl
logic_stays (loop_invariant xs ps items) logic = refl
logic_stays vanish logic = absurd logic
logic_stays (usym x) logic = absurd logic
logic_stays (isym x k) logic = absurd logic
logic_stays (assign x e) logic = absurd logic
logic_stays (call x e es handler) logic = absurd logic
logic_stays (act x a es) logic = absurd logic
logic_stays (ifgoto e i) logic = absurd logic
logic_stays (return e) logic = absurd logic
logic_stays (fail e) logic = absurd logic
logic_stays (throw e) logic = absurd logic

module _ {S : Type 0} (memory : MemoryName) (stands : S → List PureValue → Heap → Type 0) (terms : S → StateTerms) (meaning : IsMeaning memory stands terms) (p : PureParts) (m : Actions) (asked : List ℕ → List PureTerm → List PureTerm × List PureTerm)
    (depends : S → List ℕ → List PureTerm → List PureValue → Heap → PureTerm → Type 0) (plain : S → ℤ → ℤ → Type 0) (keeps_plain keeps_narrow : Type 0) (path : PurePath S) (c : PureNumberedCommand) (over : IsOverTable terms path) (no_end : path.ending ≡ None) (at : command_of_path p path ≡ Some c) (valid : IsValid p) (placed : AreAtCommands p path.stack) where
  abbrev Stepped : List (PurePath S) → Type 0
  Stepped nexts = AreStepped p m stands terms asked depends plain keeps_plain keeps_narrow path nexts

  asks_nothing : AskNothing stands terms
  asks_nothing = ask_nothing memory stands terms meaning

  logic_needs : (next : PurePath S) (k : PureCommand) → IsLogic k → NeedsAt p stands depends path next k
  logic_needs next (fold_use u) logic = tt
  logic_needs next (unfold_use u) logic = tt
  logic_needs next (assert_that items) logic = tt
  logic_needs next (loop_invariant xs ps items) logic = tt
  logic_needs next vanish logic = tt
  logic_needs next (usym x) logic = tt
  logic_needs next (isym x k) logic = tt
  logic_needs next (assign x e) logic = tt
  logic_needs next (call x e es handler) logic = tt
  logic_needs next (act x a es) logic = absurd logic
  logic_needs next (ifgoto e i) logic = tt
  logic_needs next (return e) logic = tt
  logic_needs next (fail e) logic = tt
  logic_needs next (throw e) logic = tt

  pub vanish_steps : (next : PurePath S) → next ≡ vanishing path → c.command ≡ vanish → Stepped (next ∷ [])
  vanish_steps next is command = record {
    next = one_next p m stands terms asked path next (vanishing path) (next ∷ []) is refl (asks_nothing.vanish_ends p m path c over no_end at command);
    placed = one_ended p m stands terms asked path next (vanishing path) (next ∷ []) is refl (λ goes. not_none (sym goes));
    simple = λ keeps. one_within p m stands terms asked path next (vanishing path) (next ∷ []) is refl plain (λ b from. vanishing_plain plain b path from);
    narrow = λ keeps. one_narrow p m stands terms asked path next (vanishing path) (next ∷ []) is refl (λ b from. vanishing_narrow terms b path from);
    forms = (needs_at p stands depends path c vanish at command next tt, tt);
  }

  pub pass_steps : (next : PurePath S) → next ≡ passing path → IsLogic c.command → Stepped (next ∷ [])
  pass_steps next is logic = record {
    next = one_next p m stands terms asked path next (passing path) (next ∷ []) is refl (asks_nothing.logic_passes p m path c over no_end at logic);
    placed = one_placed p m stands terms asked path next (passing path) (next ∷ []) is refl (advanced_there p valid path.stack (running_store path.stack) c at (logic_stays c.command logic) placed);
    simple = λ keeps. one_within p m stands terms asked path next (passing path) (next ∷ []) is refl plain (λ b from. passing_plain plain b path from no_end);
    narrow = λ keeps. one_narrow p m stands terms asked path next (passing path) (next ∷ []) is refl (λ b from. passing_narrow terms b path from no_end);
    forms = (needs_at p stands depends path c c.command at refl next (logic_needs next c.command logic), tt);
  }

  pub fresh_steps : (next : PurePath S) (x : List ℕ) → (bs : PureStore) × (IsBound (running_store path.stack) x (next_variable path Sort.Fresh) bs × (next ≡ with_fresh path bs)) → c.command ≡ usym x → Stepped (next ∷ [])
  fresh_steps next x (bs, (bound, is)) command = record {
    next = one_next p m stands terms asked path next (with_fresh path bs) (next ∷ []) is refl (asks_nothing.usym_adds_a_symbol p m path c x bs over no_end at command bound);
    placed = one_placed p m stands terms asked path next (with_fresh path bs) (next ∷ []) is refl (advanced_there p valid path.stack bs c at (ap ends_body command) placed);
    simple = λ keeps. one_within p m stands terms asked path next (with_fresh path bs) (next ∷ []) is refl plain (λ b from. with_fresh_plain plain b path from x bs bound no_end);
    narrow = λ keeps. one_narrow p m stands terms asked path next (with_fresh path bs) (next ∷ []) is refl (λ b from. with_fresh_narrow terms b path from x bs bound no_end);
    forms = (needs_at p stands depends path c (usym x) at command next tt, tt);
  }

  pub draw_steps : (next : PurePath S) (x : List ℕ) (k : Kind) (sort : Sort) → draw_sort k ≡ Some sort → (bs : PureStore) × (IsBound (running_store path.stack) x (next_variable path sort) bs × (next ≡ with_draw path sort bs)) → c.command ≡ isym x k
      → Stepped (next ∷ [])
  draw_steps next x k sort drawn (bs, (bound, is)) command = record {
    next = one_next p m stands terms asked path next (with_draw path sort bs) (next ∷ []) is refl (asks_nothing.isym_adds_a_draw p m path c x k sort bs over no_end at command drawn bound);
    placed = one_placed p m stands terms asked path next (with_draw path sort bs) (next ∷ []) is refl (advanced_there p valid path.stack bs c at (ap ends_body command) placed);
    simple = λ keeps. one_within p m stands terms asked path next (with_draw path sort bs) (next ∷ []) is refl plain (λ b from. with_draw_plain plain b path from x k sort bs drawn bound no_end);
    narrow = λ keeps. one_narrow p m stands terms asked path next (with_draw path sort bs) (next ∷ []) is refl (λ b from. with_draw_narrow terms b path from x k sort bs drawn bound no_end);
    forms = (needs_at p stands depends path c (isym x k) at command next tt, tt);
  }
