-- Consuming the first of several assertions that leaves nothing, on values and on terms.
use Rattle.std.specs.Prelude.{◌≡◌, ℕ, List, [], ◌∷◌, Bool, true, false}
use Rattle.std.specs.List.{list_any}
use Rattle.gil_values.specs.Pure.{PureValue}
use Rattle.gil_syntax.specs.declared.assertions.Param.{Param}
use Rattle.gil_syntax.specs.Evaluation.{Store}
use Rattle.gil_syntax.specs.Pure.{PureItem}
use Rattle.mem_model.specs.Heaps.{Heap}
use Rattle.assert_logic.specs.LogicStates.{LogicState}
use Rattle.assert_logic.specs.Matching.{Cases, match_from}
use Rattle.checked_runs.specs.Checked.{is_nothing, leaves_nothing}
use Rattle.pure_terms.specs.Pure.{PureAtom}
use Rattle.sym_evaluation.specs.Pure.{PureStore}
use Rattle.sym_model.specs.Terms.{StateTerms}
use Rattle.sym_states.specs.Meaning.{Stands, Serves}
use Rattle.sym_states.specs.Pure.{PureState}
use Rattle.footprint.specs.Assertions.{ItemsGive, ItemsStop}
use Rattle.footprint.specs.Leaves.{Giving, Stopping, AreLeaves}
use Rattle.footprint.specs.Plainly.{ItemsStayPlain}
use Rattle.footprint.specs.Pure.{PureMatch, PureStop, PureLeaves}
use Rattle.footprint.specs.Spreading.{joined, all_stop, Gathers, IsRenewed}

-- ---- on values

abbrev pub is_whole : Cases → List Param → Store → LogicState → List PureItem → Bool
is_whole cases scope t l items = leaves_nothing (match_from cases scope 0 items t l)

-- the assertion is matched and leaves nothing, or not
abbrev pub WholeGives : Cases → List Param → List PureItem → Giving
WholeGives cases scope items v t l t' l' = is_whole cases scope t l items ≡ true

abbrev pub WholeStops : Cases → List Param → List PureItem → Stopping
WholeStops cases scope items v t l n = is_whole cases scope t l items ≡ false

-- one of several is
abbrev pub SomeGives : Cases → List Param → List (List PureItem) → Giving
SomeGives cases scope posts v t l t' l' = list_any (is_whole cases scope t l) posts ≡ true

abbrev pub SomeStops : Cases → List Param → List (List PureItem) → Stopping
SomeStops cases scope posts v t l n = list_any (is_whole cases scope t l) posts ≡ false

-- ---- on terms

-- whether what the state stands for is nothing
abbrev pub SaysNothing : {S : Type 0} → (S → List PureValue → Heap → Type 0) → PureState S → Bool → Type 0
SaysNothing stands s b = (v : List PureValue) (l : LogicState) → Stands stands s v l → is_nothing l ≡ b

-- the match counts where nothing is left
abbrev pub whole_where : {S : Type 0} → PureMatch S → Bool → PureLeaves S
whole_where m true = record { matched = m ∷ []; stopped = []; undecided = [] }
whole_where m false = all_stop 0 m.state

abbrev pub EndsWhole : {S : Type 0} → (S → List PureValue → Heap → Type 0) → PureMatch S → PureLeaves S → Type 0
EndsWhole stands m leaves = (b : Bool) × (SaysNothing stands m.state b × (leaves ≡ whole_where m b))

abbrev pub EndWhole : {S : Type 0} → (S → List PureValue → Heap → Type 0) → PureLeaves S → PureLeaves S → Type 0
EndWhole {S} stands before after =
    (next : PureLeaves S) × (Gathers (EndsWhole stands) before.matched next
    × (after ≡ joined (record { matched = []; stopped = before.stopped; undecided = before.undecided }) next))

module _ {S : Type 0} (stands : S → List PureValue → Heap → Type 0) (terms : S → StateTerms) (kept : S → Type 0) where
  -- the assertion is tried in the state, under these conditions; of the memories that are plain
  abbrev pub WholeTried : (ℕ → S → Type 0) → Cases → List Param → List PureItem → PureState S → PureStore → List PureAtom → PureLeaves S → Type 0
  WholeTried Plain cases scope items s bs conds leaves =
      (r : PureState S) × (IsRenewed stands terms kept s conds r × ((first : PureLeaves S)
      × ((AreLeaves stands terms kept r (Serves stands terms r bs) (ItemsGive cases scope items) (ItemsStop cases scope items) first
      × ItemsStayPlain Plain items (record { state = r; store = bs }) first)
      × EndWhole stands first leaves)))

  abbrev pub TriedAt : (ℕ → S → Type 0) → Cases → List Param → List PureItem → PureState S → PureStore → PureStop → PureLeaves S → Type 0
  TriedAt Plain cases scope items s bs c leaves = WholeTried Plain cases scope items s bs c.conds leaves

  -- where none before it is matched, it is tried
  abbrev pub NextWhole : (ℕ → S → Type 0) → Cases → List Param → List PureItem → PureState S → PureStore → PureLeaves S → PureLeaves S → Type 0
  NextWhole Plain cases scope items s bs before after =
      (next : PureLeaves S) × (Gathers (TriedAt Plain cases scope items s bs) before.stopped next
      × (after ≡ joined (record { matched = before.matched; stopped = []; undecided = before.undecided }) next))
