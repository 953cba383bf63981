-- The commands that ask nothing lead to one path, without a new condition.
use Rattle.std.proofs.Common.{◌≡◌, ⊎_elim, ℕ, zero, suc, ◌+◌, ◌<◌, List, [], ◌∷◌, ◌++◌, length, slice_get, false, Option, Some, None, refl, sym, ap, subst, ◌∙◌, arith}
use Rattle.std.specs.List.{Contains}
use Rattle.std.proofs.lemmas.List.{append-nil, length_push}
use Rattle.std.proofs.lemmas.List.Elements.{Contains-append_cases, Contains-push_cases}
use Rattle.gil_values.specs.declared.places.Place.{Place}
use Rattle.gil_values.specs.declared.kinds.Kind.{Kind}
use Rattle.gil_values.specs.Pure.{PureValue, symbol, kind_of}
use Rattle.gil_values.specs.Symbols.{symbols, symbols_of_all, AreBelow}
use Rattle.gil_values.proofs.OperatorSymbols.{none_contained}
use Rattle.gil_syntax.specs.Evaluation.{Store, bind}
use Rattle.gil_syntax.specs.Pure.{PureParts, PureCommand, assign, call, act, usym, isym, ifgoto, return, fail, throw, vanish, fold_use, unfold_use, assert_that, loop_invariant, PureNumberedCommand}
use Rattle.gil_machine.specs.Choices.{choice_of}
use Rattle.gil_machine.specs.State.{Frame, State, end_at}
use Rattle.gil_machine.specs.State as machine
use Rattle.gil_machine.specs.Step.{command_at, step, do_command, to_next}
use Rattle.mem_model.specs.declared.keys.MemoryName.{MemoryName}
use Rattle.mem_model.specs.Actions.{Actions}
use Rattle.mem_model.specs.Heaps.{Heap}
use Rattle.pure_terms.specs.declared.variables.Sort.{Sort}
use Rattle.pure_terms.specs.declared.variables.Var.{Var}
use Rattle.pure_terms.specs.Meaning.{IsProper, IsOver}
use Rattle.pure_terms.specs.Pure.{PureTerm}
use Rattle.sym_evaluation.specs.Meaning.{StandsFor}
use Rattle.sym_evaluation.specs.Pure.{PureStore}
use Rattle.sym_model.specs.Laws.{IsMeaning}
use Rattle.sym_model.specs.Lists.{Each}
use Rattle.sym_model.specs.Terms.{StateTerms}
use Rattle.sym_model.proofs.ListLaws.{not_none, each_append}
use Rattle.sym_paths.specs.Laws.{with_more, IsBound}
use Rattle.sym_paths.specs.Meaning.{AreFrames, Stands, StandsForEnd, StandsForStep, OfEachName, IsOverTable, command_of_path}
use Rattle.sym_paths.specs.Moves.{NoOwn, IsLogic, running_store, advanced, draw_sort, vanishing, passing, next_variable, with_fresh, with_draw, AskNothing}
use Rattle.sym_paths.specs.Pure.{PureFrame, PureEnd, vanished, PurePath}
use Rattle.sym_paths.specs.Frames.{drawn_by}
use Rattle.sym_paths.specs.Steps.{HasInput, IsUnknown, AreNext, IsNext, new_sorts, makes_choice, AreNextPaths}
use Rattle.sym_paths.proofs.Binding.{agree_bound, each_bound}
use Rattle.sym_paths.proofs.Drawing.{drawn_is, new_sort, drawn_next, next_drawn, not_fresh, some_fits, fits_kind, kind_fits, no_symbols, no_symbol_below, draws_this, input_there}
use Rattle.sym_paths.proofs.Growing.{path_stands, path_over}
use Rattle.sym_paths.proofs.Origins.{advanced_moved, logic_moves, follows_ended, follows_going}
use Rattle.sym_paths.proofs.Recording.{records_by, same_records, ended_records}
use Rattle.sym_paths.proofs.Silent.{stands_at, step-is, choice-is, same_and_none, silent_step}
use Rattle.sym_paths.proofs.Valuations.{below_higher, below_next, next_fresh, later_variables_are_proper}

-- ---- values of new variables

pub none_next : (inputs : List PureValue) (n d : ℕ) (ws : List PureValue) → AreNext inputs n d [] ws → ws ≡ []
none_next inputs n d [] next = refl
none_next inputs n d (w ∷ ws) next = absurd next

one_next : (inputs : List PureValue) (n d : ℕ) (sort : Sort) (ws : List PureValue) → AreNext inputs n d (sort ∷ []) ws → (w : PureValue) × ((ws ≡ w ∷ []) × IsNext inputs n d sort w)
one_next inputs n d sort [] next = absurd next
one_next inputs n d sort (w ∷ []) next = (w, (refl, next.0))
one_next inputs n d sort (w ∷ u ∷ ws) next = absurd next.1

pub nothing_more : (v ws : List PureValue) → ws ≡ [] → v ≡ v ++ ws
nothing_more v ws none = sym (ap (λ us. v ++ us) none ∙ append-nil v)

proper_as_it_is : (vars : List Sort) (v : List PureValue) → IsProper vars v → IsProper (vars ++ []) (v ++ [])
proper_as_it_is vars v proper = subst (λ xs. IsProper xs (v ++ [])) (sym (append-nil vars)) (subst (IsProper vars) (sym (append-nil v)) proper)

pub above : (ns : List ℕ) → (b : ℕ) × ((n : ℕ) → Contains ns n → n < b)
above [] = (0, λ n has. absurd (none_contained n has))
above (k ∷ ns) =
    let (b, less) = above ns in (
      suc k + b,
      λ n has. ⊎_elim
          (λ here. ⊎_elim (λ none. absurd (none_contained n none)) (λ (is : k ≡ n). omega (arith, is)) (Contains-push_cases [] k n here))
          (λ later. let below : n < b = less n later in omega (arith, below))
          (Contains-append_cases (k ∷ []) ns n has),
    )

below_counted : (n : ℕ) → AreBelow (n + 1) (symbol n ∷ [])
below_counted n = below_higher (suc n) (n + 1) (symbol n ∷ []) (omega arith) (below_next n)

last_of : {X : Type 0} (xs : List X) (y : X) (n : ℕ) → n ≡ length xs → slice_get (xs ++ y ∷ []) n ≡ Some y
last_of [] y zero is = refl
last_of [] y (suc n) is = absurd (omega (arith, is))
last_of (x ∷ xs) y zero is = let no : zero ≡ suc (length xs) = is in absurd (omega (arith, no))
last_of (x ∷ xs) y (suc n) is = let same : suc n ≡ suc (length xs) = is in last_of xs y n (omega (arith, same))

-- ---- frames

pub advanced_frames : (v : List PureValue) (fs : List PureFrame) (g : Frame) (gs : List Frame) (bs : PureStore) (s : Store) → AreFrames v fs (g ∷ gs) → StandsFor v bs s
    → AreFrames v (advanced bs fs) (record g { next = g.next + 1; store = s } ∷ gs)
advanced_frames v [] g gs bs s are same = absurd are
advanced_frames v (f ∷ fs) g gs bs s are same = (
  record {
    procedure = are.0.procedure;
    next = ap (λ n. n + 1) are.0.next;
    store = same;
    waits = are.0.waits;
    handler = are.0.handler;
  },
  are.1,
)

pub running_stands : (v : List PureValue) (fs : List PureFrame) (g : Frame) (gs : List Frame) → AreFrames v fs (g ∷ gs) → StandsFor v (running_store fs) g.store
running_stands v [] g gs are = absurd are
running_stands v (f ∷ fs) g gs are = are.0.store

pub running_each : (P : PureTerm → Type 0) (fs : List PureFrame) → Each (λ f. OfEachName P f.store) fs → OfEachName P (running_store fs)
running_each P [] all x t is = not_none is
running_each P (f ∷ fs) all x t is = all.0 x t is

pub advanced_each : (P : PureTerm → Type 0) (fs : List PureFrame) (bs : PureStore) → Each (λ f. OfEachName P f.store) fs → OfEachName P bs → Each (λ f. OfEachName P f.store) (advanced bs fs)
advanced_each P [] bs all new = tt
advanced_each P (f ∷ fs) bs all new = (new, all.1)

-- ---- logic commands

logic_goes_on : (p : PureParts) (m : Actions) (inputs : List PureValue) (k : PureCommand) (here : Place) (s : State) → IsLogic k → do_command p m inputs k here s ≡ to_next s
logic_goes_on p m inputs (fold_use u) here s logic = refl
logic_goes_on p m inputs (unfold_use u) here s logic = refl
logic_goes_on p m inputs (assert_that items) here s logic = refl
logic_goes_on p m inputs (loop_invariant xs ps items) here s logic = refl
logic_goes_on p m inputs (assign x e) here s logic = absurd logic
logic_goes_on p m inputs (call x e es handler) here s logic = absurd logic
logic_goes_on p m inputs (act x a es) here s logic = absurd logic
logic_goes_on p m inputs (usym x) here s logic = absurd logic
logic_goes_on p m inputs (isym x k) here s logic = absurd logic
logic_goes_on p m inputs (ifgoto e i) here s logic = absurd logic
logic_goes_on p m inputs (return e) here s logic = absurd logic
logic_goes_on p m inputs (fail e) here s logic = absurd logic
logic_goes_on p m inputs (throw e) here s logic = absurd logic
logic_goes_on p m inputs vanish here s logic = absurd logic

logic_chooses_nothing : (p : PureParts) (m : Actions) (k : PureCommand) (s : State) → IsLogic k → choice_of p m k s ≡ None
logic_chooses_nothing p m (fold_use u) s logic = refl
logic_chooses_nothing p m (unfold_use u) s logic = refl
logic_chooses_nothing p m (assert_that items) s logic = refl
logic_chooses_nothing p m (loop_invariant xs ps items) s logic = refl
logic_chooses_nothing p m (assign x e) s logic = absurd logic
logic_chooses_nothing p m (call x e es handler) s logic = absurd logic
logic_chooses_nothing p m (act x a es) s logic = absurd logic
logic_chooses_nothing p m (usym x) s logic = absurd logic
logic_chooses_nothing p m (isym x k) s logic = absurd logic
logic_chooses_nothing p m (ifgoto e i) s logic = absurd logic
logic_chooses_nothing p m (return e) s logic = absurd logic
logic_chooses_nothing p m (fail e) s logic = absurd logic
logic_chooses_nothing p m (throw e) s logic = absurd logic
logic_chooses_nothing p m vanish s logic = absurd logic

-- they make no choice and add no variable
logic_is_quiet : (m : Actions) (k : PureCommand) → IsLogic k → (makes_choice k ≡ false) × (new_sorts m k ≡ [])
logic_is_quiet m (fold_use u) logic = (refl, refl)
logic_is_quiet m (unfold_use u) logic = (refl, refl)
logic_is_quiet m (assert_that items) logic = (refl, refl)
logic_is_quiet m (loop_invariant xs ps items) logic = (refl, refl)
logic_is_quiet m (assign x e) logic = absurd logic
logic_is_quiet m (call x e es handler) logic = absurd logic
logic_is_quiet m (act x a es) logic = absurd logic
logic_is_quiet m (usym x) logic = absurd logic
logic_is_quiet m (isym x k) logic = absurd logic
logic_is_quiet m (ifgoto e i) logic = absurd logic
logic_is_quiet m (return e) logic = absurd logic
logic_is_quiet m (fail e) logic = absurd logic
logic_is_quiet m (throw e) logic = absurd logic
logic_is_quiet m vanish logic = absurd logic

-- ---- paths

pub open_is_known : (o : Option PureEnd) → o ≡ None → ¬ IsUnknown o
open_is_known None no_end unknown = unknown
open_is_known (Some how) no_end unknown = not_none (sym no_end)

module _ {S : Type 0} (memory : MemoryName) (stands : S → List PureValue → Heap → Type 0) (terms : S → StateTerms) (meaning : IsMeaning memory stands terms) where
  module _ (p : PureParts) (m : Actions) (path : PurePath S) (c : PureNumberedCommand) (over : IsOverTable terms path) (no_end : path.ending ≡ None) (at : command_of_path p path ≡ Some c) where
    standing : (v : List PureValue) (s : State) → Stands stands path v s → command_at p s.current ≡ Some c
    standing v s is = sym (stands_at p v path.stack s is.frames) ∙ at

    -- ---- vanish

    vanished_leads : c.command ≡ vanish → (inputs v ws : List PureValue) (s : State) → Stands stands path v s → ws ≡ []
        → StandsForStep p m stands (vanishing path) (v ++ ws) s (Some vanished) (step p m inputs s)
    vanished_leads command inputs v ws s is none =
        subst (StandsForStep p m stands (vanishing path) (v ++ ws) s (Some vanished)) (sym (step-is p m inputs s c vanish (standing v s is) command))
        (subst (λ u. StandsForEnd p m stands (vanishing path) u s vanished (end_at s machine.vanished)) (nothing_more v ws none) (record {
          proper = is.proper;
          meets = is.meets;
          ending = refl;
          memory = is.memory;
          symbols_below = is.symbols_below;
          draws = is.draws;
        }))

    vanish_is : c.command ≡ vanish → AreNextPaths p m stands terms NoOwn NoOwn path (vanishing path ∷ [])
    vanish_is command = silent_step p m stands terms path (vanishing path) [] over
        (record {
          vars = same_and_none path.vars path.vars refl;
          sorts_are_new = tt;
          conds = refl;
          given = refl;
          choices = refl;
          drawn = same_and_none path.drawn path.drawn refl;
          steps = refl;
          over = record { conds = over.conds; given = over.given; stores = over.stores; memory = over.memory; drawn = over.drawn; ending = tt };
          known = λ unknown. unknown;
        })
        (record {
          leads = λ inputs v ws s is in_turn proper. vanished_leads command inputs v ws s is (none_next inputs s.counter s.draws ws in_turn);
          exists = λ inputs v s is has. ([], (tt, proper_as_it_is path.vars v is.proper));
          records = ended_records p m path (vanishing path) refl refl (λ none. none) vanished refl;
          chooses_nothing = λ v s is. choice-is p m [] s c vanish (standing v s is) command;
          may_follow = λ v proper. ([], proper_as_it_is path.vars v proper);
        })
        (follows_ended p m terms path (vanishing path) vanished refl refl refl)

    -- ---- logic commands

    passed_stands : (v : List PureValue) (s : State) → Stands stands path v s → Stands stands (passing path) v (record s { current = record s.current { next = s.current.next + 1 } })
    passed_stands v s is = record {
      proper = is.proper;
      meets = is.meets;
      frames = advanced_frames v path.stack s.current s.callers (running_store path.stack) s.current.store is.frames (running_stands v path.stack s.current s.callers is.frames);
      memory = is.memory;
      symbols_below = is.symbols_below;
      draws = is.draws;
    }

    passed_leads : IsLogic c.command → (inputs v ws : List PureValue) (s : State) → Stands stands path v s → ws ≡ []
        → StandsForStep p m stands (passing path) (v ++ ws) s path.ending (step p m inputs s)
    passed_leads logic inputs v ws s is none =
        subst (λ o. StandsForStep p m stands (passing path) (v ++ ws) s o (step p m inputs s)) (sym no_end)
        (subst (StandsForStep p m stands (passing path) (v ++ ws) s None) (sym (step-is p m inputs s c c.command (standing v s is) refl ∙ logic_goes_on p m inputs c.command (record { proc = s.current.procedure; at = c.at }) s logic))
        (subst (λ u. Stands stands (passing path) u (record s { current = record s.current { next = s.current.next + 1 } })) (nothing_more v ws none) (passed_stands v s is)))

    logic_is : IsLogic c.command → AreNextPaths p m stands terms NoOwn NoOwn path (passing path ∷ [])
    logic_is logic = silent_step p m stands terms path (passing path) [] over
        (record {
          vars = same_and_none path.vars path.vars refl;
          sorts_are_new = tt;
          conds = refl;
          given = refl;
          choices = refl;
          drawn = same_and_none path.drawn path.drawn refl;
          steps = refl;
          over = record {
            conds = over.conds;
            given = over.given;
            stores = advanced_each (IsOver path.vars) path.stack (running_store path.stack) over.stores (running_each (IsOver path.vars) path.stack over.stores);
            memory = over.memory;
            drawn = over.drawn;
            ending = over.ending;
          };
          known = open_is_known path.ending no_end;
        })
        (record {
          leads = λ inputs v ws s is in_turn proper. passed_leads logic inputs v ws s is (none_next inputs s.counter s.draws ws in_turn);
          exists = λ inputs v s is has. ([], (tt, proper_as_it_is path.vars v is.proper));
          records = let (choice, new) = logic_is_quiet m c.command logic in same_records p m path (passing path) c at new choice refl refl;
          chooses_nothing = λ v s is. choice-is p m [] s c c.command (standing v s is) refl ∙ logic_chooses_nothing p m c.command s logic;
          may_follow = λ v proper. ([], proper_as_it_is path.vars v proper);
        })
        (follows_going p m terms path (passing path) c at c.command refl no_end (logic_moves p m terms path (passing path) c.command logic refl (advanced_moved path.stack)))

    -- ---- new symbols

    next_over : (sort : Sort) → IsOver (path.vars ++ sort ∷ []) (next_variable path sort)
    next_over sort x has =
        ⊎_elim (λ none. absurd (none_contained x none))
        (λ (is : record { number = length path.vars; sort = sort } ≡ x). subst (λ (y : Var). slice_get (path.vars ++ sort ∷ []) y.number ≡ Some y.sort) is (last_of path.vars sort (length path.vars) (λ i. length path.vars)))
        (Contains-push_cases [] (record { number = length path.vars; sort = sort }) x has)

    module _ (x : List ℕ) (bs : PureStore) (bound : IsBound (running_store path.stack) x (next_variable path Sort.Fresh) bs) where
      symbol_stands : (v : List PureValue) (s : State) → Stands stands path v s → IsProper (path.vars ++ Sort.Fresh ∷ []) (v ++ symbol s.counter ∷ [])
          → Stands stands (with_fresh path bs) (v ++ symbol s.counter ∷ []) (record s { counter = s.counter + 1; current = record s.current { next = s.current.next + 1; store = bind x (symbol s.counter) s.current.store } })
      symbol_stands v s is proper =
          let w = v ++ symbol s.counter ∷ [] in
          let grown : Stands stands (with_more path (Sort.Fresh ∷ [])) w (record s { counter = s.counter + 1 }) =
          path_stands memory stands terms meaning path v s (Sort.Fresh ∷ []) (symbol s.counter ∷ []) (s.counter + 1) over is proper (omega arith) (below_counted s.counter) in
          record {
            proper = grown.proper;
            meets = grown.meets;
            frames = advanced_frames w path.stack s.current s.callers bs (bind x (symbol s.counter) s.current.store) grown.frames
                (agree_bound w (running_store path.stack) bs s.current.store x (next_variable path Sort.Fresh) (symbol s.counter) bound
                (last_of v (symbol s.counter) (length path.vars) (sym is.proper.one_each))
                (running_stands w path.stack s.current s.callers grown.frames));
            memory = grown.memory;
            symbols_below = grown.symbols_below;
            draws = grown.draws;
          }

      symbol_leads : c.command ≡ usym x → (inputs v ws : List PureValue) (s : State) → Stands stands path v s → AreNext inputs s.counter s.draws (Sort.Fresh ∷ []) ws
          → IsProper (path.vars ++ Sort.Fresh ∷ []) (v ++ ws) → StandsForStep p m stands (with_fresh path bs) (v ++ ws) s path.ending (step p m inputs s)
      symbol_leads command inputs v ws s is in_turn proper =
          let (w, (one, new)) = one_next inputs s.counter s.draws Sort.Fresh ws in_turn in
          let same : v ++ ws ≡ v ++ symbol s.counter ∷ [] = ap (λ us. v ++ us) (one ∙ ap (λ u. u ∷ []) new) in
          subst (λ o. StandsForStep p m stands (with_fresh path bs) (v ++ ws) s o (step p m inputs s)) (sym no_end)
          (subst (StandsForStep p m stands (with_fresh path bs) (v ++ ws) s None) (sym (step-is p m inputs s c (usym x) (standing v s is) command))
          (subst (λ u. Stands stands (with_fresh path bs) u (record s { counter = s.counter + 1; current = record s.current { next = s.current.next + 1; store = bind x (symbol s.counter) s.current.store } })) (sym same)
          (symbol_stands v s is (subst (IsProper (path.vars ++ Sort.Fresh ∷ [])) same proper))))

      symbol_over : IsOverTable terms (with_fresh path bs)
      symbol_over =
          let more : IsOverTable terms (with_more path (Sort.Fresh ∷ [])) = path_over terms path (Sort.Fresh ∷ []) over in
          let Over = IsOver (path.vars ++ Sort.Fresh ∷ []) in
          record {
            conds = more.conds;
            given = more.given;
            stores = advanced_each Over path.stack bs more.stores (each_bound Over (running_store path.stack) bs x (next_variable path Sort.Fresh) bound (next_over Sort.Fresh) (running_each Over path.stack more.stores));
            memory = more.memory;
            drawn = more.drawn;
            ending = more.ending;
          }

      usym_is : c.command ≡ usym x → AreNextPaths p m stands terms NoOwn NoOwn path (with_fresh path bs ∷ [])
      usym_is command = silent_step p m stands terms path (with_fresh path bs) (Sort.Fresh ∷ []) over
          (record {
            vars = refl;
            sorts_are_new = (tt, tt);
            conds = refl;
            given = refl;
            choices = refl;
            drawn = same_and_none path.drawn path.drawn refl;
            steps = refl;
            over = symbol_over;
            known = open_is_known path.ending no_end;
          })
          (record {
            leads = symbol_leads command;
            exists = λ inputs v s is has. (symbol s.counter ∷ [], ((refl, tt), (next_fresh path.vars v s.counter is.proper is.symbols_below).0));
            records = records_by p m path (with_fresh path bs) c at (Sort.Fresh ∷ []) None refl (sym (ap (new_sorts m) command)) (same_and_none path.choices path.choices refl) (λ n none. not_none none) (sym (ap makes_choice command));
            chooses_nothing = λ v s is. choice-is p m [] s c (usym x) (standing v s is) command;
            may_follow = λ v proper. let (n, below) = above (symbols_of_all v) in (symbol n ∷ [], (next_fresh path.vars v n proper below).0);
          })
          (follows_going p m terms path (with_fresh path bs) c at (usym x) command no_end (refl, (bs, (bound, refl))))

    -- ---- draws

    module _ (x : List ℕ) (k : Kind) (sort : Sort) (drawable : draw_sort k ≡ Some sort) (bs : PureStore) (bound : IsBound (running_store path.stack) x (next_variable path sort) bs) where
      draw_stands : (v : List PureValue) (w : PureValue) (s : State) → Stands stands path v s → symbols w ≡ [] → IsProper (path.vars ++ sort ∷ []) (v ++ w ∷ [])
          → Stands stands (with_draw path sort bs) (v ++ w ∷ []) (record s { draws = s.draws + 1; current = record s.current { next = s.current.next + 1; store = bind x w s.current.store } })
      draw_stands v w s is none proper =
          let u = v ++ w ∷ [] in
          let grown : Stands stands (with_more path (sort ∷ [])) u (record s { counter = s.counter }) =
          path_stands memory stands terms meaning path v s (sort ∷ []) (w ∷ []) s.counter over is proper (omega arith) (no_symbol_below s.counter w none) in
          record {
            proper = grown.proper;
            meets = grown.meets;
            frames = advanced_frames u path.stack s.current s.callers bs (bind x w s.current.store) grown.frames
                (agree_bound u (running_store path.stack) bs s.current.store x (next_variable path sort) w bound
                (last_of v w (length path.vars) (sym is.proper.one_each))
                (running_stands u path.stack s.current s.callers grown.frames));
            memory = grown.memory;
            symbols_below = grown.symbols_below;
            draws = ap (λ n. n + 1) is.draws ∙ sym (length_push path.drawn (next_variable path sort));
          }

      draw_fits : (v : List PureValue) (w : PureValue) → length v ≡ length path.vars → IsProper (path.vars ++ sort ∷ []) (v ++ w ∷ []) → kind_of w ≡ k
      draw_fits v w one_each proper =
          fits_kind k sort drawable w (proper.sorts (length path.vars) sort w (last_of path.vars sort (length path.vars) (λ i. length path.vars)) (last_of v w (length path.vars) (sym one_each)))

      draw_leads : c.command ≡ isym x k → (inputs v ws : List PureValue) (s : State) → Stands stands path v s → AreNext inputs s.counter s.draws (sort ∷ []) ws
          → IsProper (path.vars ++ sort ∷ []) (v ++ ws) → StandsForStep p m stands (with_draw path sort bs) (v ++ ws) s path.ending (step p m inputs s)
      draw_leads command inputs v ws s is in_turn proper =
          let (w, (one, new)) = one_next inputs s.counter s.draws sort ws in_turn in
          let same : v ++ ws ≡ v ++ w ∷ [] = ap (λ us. v ++ us) one in
          let proper_w : IsProper (path.vars ++ sort ∷ []) (v ++ w ∷ []) = subst (IsProper (path.vars ++ sort ∷ [])) same proper in
          let kind : kind_of w ≡ k = draw_fits v w is.proper.one_each proper_w in
          subst (λ o. StandsForStep p m stands (with_draw path sort bs) (v ++ ws) s o (step p m inputs s)) (sym no_end)
          (subst (StandsForStep p m stands (with_draw path sort bs) (v ++ ws) s None)
          (sym (step-is p m inputs s c (isym x k) (standing v s is) command ∙ draws_this (slice_get inputs s.draws) w x k (record s { draws = s.draws + 1 }) (drawn_next k sort drawable inputs s.counter s.draws w new) kind))
          (subst (λ u. Stands stands (with_draw path sort bs) u (record s { draws = s.draws + 1; current = record s.current { next = s.current.next + 1; store = bind x w s.current.store } })) (sym same)
          (draw_stands v w s is (no_symbols k sort drawable w kind) proper_w)))

      draw_exists : c.command ≡ isym x k → (inputs v : List PureValue) (s : State) → Stands stands path v s → HasInput (step p m inputs s)
          → (ws : List PureValue) × (AreNext inputs s.counter s.draws (sort ∷ []) ws × IsProper (path.vars ++ sort ∷ []) (v ++ ws))
      draw_exists command inputs v s is has =
          let (w, (there, kind)) = input_there (slice_get inputs s.draws) x k (record s { draws = s.draws + 1 }) (subst HasInput (step-is p m inputs s c (isym x k) (standing v s is) command) has) in (
            w ∷ [],
            (
              (next_drawn k sort drawable inputs s.counter s.draws w there, tt),
              later_variables_are_proper.drawn path.vars v sort w is.proper (not_fresh k sort drawable) (kind_fits k sort drawable w kind),
            ),
          )

      draw_over : IsOverTable terms (with_draw path sort bs)
      draw_over =
          let more : IsOverTable terms (with_more path (sort ∷ [])) = path_over terms path (sort ∷ []) over in
          let Over = IsOver (path.vars ++ sort ∷ []) in
          record {
            conds = more.conds;
            given = more.given;
            stores = advanced_each Over path.stack bs more.stores (each_bound Over (running_store path.stack) bs x (next_variable path sort) bound (next_over sort) (running_each Over path.stack more.stores));
            memory = more.memory;
            drawn = each_append Over path.drawn (next_variable path sort ∷ []) more.drawn (next_over sort, tt);
            ending = more.ending;
          }

      isym_is : c.command ≡ isym x k → AreNextPaths p m stands terms NoOwn NoOwn path (with_draw path sort bs ∷ [])
      isym_is command = silent_step p m stands terms path (with_draw path sort bs) (sort ∷ []) over
          (record {
            vars = refl;
            sorts_are_new = (new_sort k sort drawable, tt);
            conds = refl;
            given = refl;
            choices = refl;
            drawn = ap (λ ts. path.drawn ++ ts) (sym (drawn_is k sort drawable (length path.vars)));
            steps = refl;
            over = draw_over;
            known = open_is_known path.ending no_end;
          })
          (record {
            leads = draw_leads command;
            exists = draw_exists command;
            records = records_by p m path (with_draw path sort bs) c at (sort ∷ []) None refl (sym (ap (new_sorts m) command ∙ ap drawn_by drawable)) (same_and_none path.choices path.choices refl) (λ n none. not_none none) (sym (ap makes_choice command));
            chooses_nothing = λ v s is. choice-is p m [] s c (isym x k) (standing v s is) command;
            may_follow = λ v proper. let (w, fits) = some_fits k sort drawable in (w ∷ [], later_variables_are_proper.drawn path.vars v sort w proper (not_fresh k sort drawable) fits);
          })
          (follows_going p m terms path (with_draw path sort bs) c at (isym x k) command no_end (refl, (sort, (drawable, (bs, (bound, refl))))))

  pub ask_nothing : AskNothing stands terms
  ask_nothing = record {
    vanish_ends = vanish_is;
    logic_passes = logic_is;
    usym_adds_a_symbol = λ p m path c x bs over no_end at command bound. usym_is p m path c over no_end at x bs bound command;
    isym_adds_a_draw = λ p m path c x k sort bs over no_end at command drawable bound. isym_is p m path c over no_end at x k sort drawable bs bound command;
  }
