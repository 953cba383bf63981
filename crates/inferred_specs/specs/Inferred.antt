-- What is promised of specifications that are found from the code: runs return without a draw, or are cut, and postconditions are exact;
-- and of all of them together, that they cover the runs of a procedure. Bi-abduction is that of Calcagno, Distefano, O'Hearn, Yang,
-- POPL 2009.
use Rattle.std.specs.Prelude.{◌≡◌, ◌↔◌, ℕ, suc, ◌≤◌, List, [], ◌∷◌, ◌++◌, length, slice_get, Bool, true, false, not, Some, ⊤}
use Rattle.std.specs.FinMap.{empty, entries}
use Rattle.std.specs.List.{filter}
use Rattle.gil_values.specs.declared.places.Place.{Place}
use Rattle.gil_values.specs.Pure.{PureValue, symbol}
use Rattle.gil_syntax.specs.Evaluation.{Store, bind}
use Rattle.gil_syntax.specs.Pure.{PureItem, PureSpec, PureParts}
use Rattle.gil_syntax.specs.Valid.{param_names}
use Rattle.mem_model.specs.declared.keys.MemoryName.{MemoryName}
use Rattle.mem_model.specs.Actions.{Actions}
use Rattle.mem_model.specs.Heaps.{Heap, IsPartOf}
use Rattle.gil_machine.specs.Proper.{IsStoreBelow}
use Rattle.gil_machine.specs.Run.{run_of, IsProperStart}
use Rattle.gil_machine.specs.State.{Ending, returned, threw, failed, vanished, no_input, bad_input, cut, End}
use Rattle.assert_logic.specs.Meets.{Meets, HoldsSomewhere}
use Rattle.assert_logic.specs.Names.{named_by_items}
use Rattle.assert_logic.specs.Unions.{IsUnion}
use Rattle.checked_runs.specs.Specifications.{IsEntry, entry_store, result_name}

-- ---- how runs end

abbrev pub IsFinish : Ending → Type 0
IsFinish (returned v) = ⊤
IsFinish (threw v place) = ⊤
IsFinish (failed v place) = ⊥
IsFinish vanished = ⊥
IsFinish (no_input k) = ⊥
IsFinish (bad_input k) = ⊥
IsFinish cut = ⊥

-- the run returned or threw, and drew nothing
pub record Finishes (e : End) : Type 0 where
  pub finish : IsFinish e.ending
  pub no_draw : e.draws ≡ 0

-- the run was cut, and drew nothing
pub record IsCutOff (e : End) : Type 0 where
  pub is_cut : e.ending ≡ cut
  pub no_draw : e.draws ≡ 0

-- ---- one specification

-- the variables that the precondition doesn't name, in order
abbrev pub later_names : PureSpec → List (List ℕ)
later_names s = filter (λ x. not (named_by_items s.pre x)) (param_names s.logicals)

-- they have the symbols from the counter on
abbrev pub new_symbols : ℕ → List (List ℕ) → Store
new_symbols counter [] = []
new_symbols counter (x ∷ xs) = bind x (symbol counter) (new_symbols (suc counter) xs)

-- the store under which an exact postcondition is read
abbrev pub exact_store : PureSpec → List PureValue → Store → ℕ → PureValue → Store
exact_store s args variables counter result =
    bind result_name result (new_symbols counter (later_names s) ++ entry_store s args variables)

module _ (p : PureParts) (memory : MemoryName) (m : Actions) (s : PureSpec) where
  -- The runs of a specification start here: it is entered with these values, its own heap meets the precondition, which is beside a frame in
  -- the whole heap, and all symbols are below the counter.
  pub record StartsIn (args : List PureValue) (variables : Store) (own frame whole : Heap) (counter : ℕ) : Type 0 where
    pub entered : IsEntry s args variables
    pub meets : Meets (HoldsSomewhere p.preds) (entry_store s args variables) s.pre own
    pub union : IsUnion whole own frame
    pub proper : IsProperStart p memory s.name args whole counter
    pub variables_below : IsStoreBelow counter variables

  -- without a frame
  abbrev pub StartsAlone : List PureValue → Store → Heap → ℕ → Type 0
  StartsAlone args variables own counter = StartsIn args variables own empty own counter

  -- some run of it starts: so its precondition is met
  pub record IsMet : Type 0 where
    pub args : List PureValue
    pub variables : Store
    pub own : Heap
    pub counter : ℕ
    pub starts : StartsAlone args variables own counter

  -- what holds of the end of each run of at most n steps, whatever the frame
  abbrev pub EachRun : ℕ → (End → Type 0) → Type 0
  EachRun n Holds =
      (args : List PureValue) (variables : Store) (own frame whole : Heap) (counter : ℕ) (inputs : List PureValue)
      → StartsIn args variables own frame whole counter → Holds (run_of p m s.name args whole counter inputs n)

  -- some of these postconditions is met
  pub record IsMetBy (posts : List (List PureItem)) (store : Store) (h : Heap) : Type 0 where
    pub number : ℕ
    pub post : List PureItem
    pub is_post : slice_get posts number ≡ Some post
    pub meets : Meets (HoldsSomewhere p.preds) store post h

  pub record ReturnsWith (e : End) (result : PureValue) (h : Heap) : Type 0 where
    pub ending : e.ending ≡ returned result
    pub heap : e.heap ≡ h

  pub record ThrowsWith (e : End) (result : PureValue) (h : Heap) : Type 0 where
    pub place : Place
    pub ending : e.ending ≡ threw result place
    pub heap : e.heap ≡ h

  -- Exact: of a start without a frame, where the variables that the precondition doesn't name have the counter's symbol and those after it, a
  -- heap and a result meet a postcondition exactly where the run ends with them.
  abbrev pub IsExact : ℕ → Type 0
  IsExact n =
      (args : List PureValue) (variables : Store) (own : Heap) (counter : ℕ) (inputs : List PureValue) (result : PureValue) (h : Heap)
      → StartsAlone args variables own counter
      → (IsMetBy s.posts (exact_store s args variables counter result) h
      ↔ ReturnsWith (run_of p m s.name args own counter inputs n) result h)
      × (IsMetBy s.errors (exact_store s args variables counter result) h
      ↔ ThrowsWith (run_of p m s.name args own counter inputs n) result h)

  -- Within n steps each run of the specification returns or throws without a draw, and its postconditions are exact.
  pub record Returns (n : ℕ) : Type 0 where
    pub is_met : IsMet
    pub finishes : EachRun n Finishes
    pub exact : IsExact n

  -- After n steps each run of the specification is cut, without a draw.
  pub record Cuts (n : ℕ) : Type 0 where
    pub is_met : IsMet
    pub cut_off : EachRun n IsCutOff

-- ---- all that are found

-- a specification that is found: of runs that end, or of runs that are cut
pub record PureFound : Type 0 where
  pub spec : PureSpec
  pub cut : Bool

module _ (p : PureParts) (memory : MemoryName) (m : Actions) (f : List ℕ) where
  -- a part of the heap meets the precondition of the specification, for these arguments and some values of its variables
  pub record IsMetWith (args : List PureValue) (h : Heap) (s : PureSpec) : Type 0 where
    pub of_procedure : s.name ≡ f
    pub variables : Store
    pub entered : IsEntry s args variables
    pub own : Heap
    pub part : IsPartOf own h
    pub meets : Meets (HoldsSomewhere p.preds) (entry_store s args variables) s.pre own

  -- a specification of runs that are cut, or of those that aren't, is met
  pub record SomeIsMet (founds : List PureFound) (is_cut : Bool) (args : List PureValue) (h : Heap) : Type 0 where
    pub number : ℕ
    pub found : PureFound
    pub is_found : slice_get founds number ≡ Some found
    pub as_marked : found.cut ≡ is_cut
    pub met : IsMetWith args h found.spec

  -- Cover: take a run of the procedure that draws nothing and within n steps returns or throws, and does so too from a part of its heap with
  -- at most n keys. Then a specification that isn't marked cut is met. And where both are cut, one that is marked cut is met.
  abbrev pub Covers : List PureFound → ℕ → Type 0
  Covers founds n =
      (args : List PureValue) (h part : Heap) (counter : ℕ)
      → IsProperStart p memory f args h counter → IsPartOf part h → length (entries part) ≤ n
      → (Finishes (run_of p m f args h counter [] n) → Finishes (run_of p m f args part counter [] n) → SomeIsMet founds false args h)
      × (IsCutOff (run_of p m f args h counter [] n) → IsCutOff (run_of p m f args part counter [] n) → SomeIsMet founds true args h)
