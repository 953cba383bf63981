-- What holds of every path and every valuation.
use Rattle.std.specs.Prelude.{◌≡◌, ℕ, suc, ◌≤◌, ℤ, List, [], ◌∷◌, ◌++◌, Some, IsTrue}
use Rattle.gil_values.specs.Pure.{PureValue, symbol}
use Rattle.gil_values.specs.Symbols.{AreBelow}
use Rattle.gil_syntax.specs.Evaluation.{Store, bind}
use Rattle.gil_syntax.specs.Pure.{PureParts}
use Rattle.gil_machine.specs.State.{State}
use Rattle.gil_machine.specs.Step.{command_at}
use Rattle.mem_model.specs.Heaps.{Heap}
use Rattle.pure_terms.specs.declared.variables.Sort.{Sort}
use Rattle.pure_terms.specs.Kinds.{has_sort}
use Rattle.pure_terms.specs.Meaning.{value, IsProper, IsOver}
use Rattle.pure_terms.specs.Pure.{PureTerm}
use Rattle.sym_evaluation.specs.Meaning.{StandsFor}
use Rattle.sym_evaluation.specs.Pure.{PureStore}
use Rattle.sym_model.specs.Laws.{IsPlainWithin}
use Rattle.sym_model.specs.Terms.{StateTerms}
pub use Rattle.sym_paths.specs.Frames.{IsBound}
use Rattle.sym_paths.specs.Meaning.{AreFrames, frames_of, Stands, command_of_frames, OfEachName, IsOverTable}
use Rattle.sym_paths.specs.Pure.{PureFrame, PurePath}
use Rattle.sym_paths.specs.Steps.{AreNext, counter_past, draws_past}

-- the path over a larger table
abbrev pub with_more : {S : Type 0} → PurePath S → List Sort → PurePath S
with_more path sorts = record path { vars = path.vars ++ sorts }

-- What a path stands for stays, and so does the table's word for it, where the table and the valuation grow and the counter rises.
pub record PathsMayGrow {S : Type 0} (stands : S → List PureValue → Heap → Type 0) (terms : S → StateTerms) : Type 0 where
  pub meaning : (path : PurePath S) (v : List PureValue) (s : State) (sorts : List Sort) (values : List PureValue) (counter : ℕ)
      → IsOverTable terms path → Stands stands path v s → IsProper (path.vars ++ sorts) (v ++ values) → s.counter ≤ counter
      → AreBelow counter values → Stands stands (with_more path sorts) (v ++ values) (record s { counter = counter })
  pub over : (path : PurePath S) (sorts : List Sort) → IsOverTable terms path → IsOverTable terms (with_more path sorts)

-- The command of the first frame is that at which the state stands.
abbrev pub PathsStandAtCommands : Type 0
PathsStandAtCommands =
    (p : PureParts) (v : List PureValue) (fs : List PureFrame) (s : State) → AreFrames v fs (frames_of s)
    → command_of_frames p fs ≡ command_at p s.current

-- Where a name gets a term on the one side and the term's value on the other, the stores still agree. Where the new term names only
-- variables of the table, or is plain within bounds, so it is of all terms that it was of before.
pub record BindingsKeepStores : Type 0 where
  pub agree : (v : List PureValue) (bs cs : PureStore) (s : Store) (x : List ℕ) (t : PureTerm) (w : PureValue) → IsBound bs x t cs
      → value v t ≡ Some w → StandsFor v bs s → StandsFor v cs (bind x w s)
  pub over : (vars : List Sort) (bs cs : PureStore) (x : List ℕ) (t : PureTerm) → IsBound bs x t cs → IsOver vars t
      → OfEachName (IsOver vars) bs → OfEachName (IsOver vars) cs
  pub plain : (low high : ℤ) (bs cs : PureStore) (x : List ℕ) (t : PureTerm) → IsBound bs x t cs → IsPlainWithin low high t
      → OfEachName (IsPlainWithin low high) bs → OfEachName (IsPlainWithin low high) cs

-- A valuation below the counter stays proper where a fresh variable with the counter's symbol is added, and any valuation where a
-- variable of another sort with a value of this sort is.
pub record LaterVariablesAreProper : Type 0 where
  pub fresh : (vars : List Sort) (v : List PureValue) (n : ℕ) → IsProper vars v → AreBelow n v
      → IsProper (vars ++ Sort.Fresh ∷ []) (v ++ symbol n ∷ []) × AreBelow (suc n) (v ++ symbol n ∷ [])
  pub drawn : (vars : List Sort) (v : List PureValue) (sort : Sort) (w : PureValue) → IsProper vars v → ¬ (sort ≡ Sort.Fresh)
      → IsTrue (has_sort sort w) → IsProper (vars ++ sort ∷ []) (v ++ w ∷ [])

-- The values of new variables in turn, and of those after them, are the values of all of them in turn.
abbrev pub VariablesFollowInTurn : Type 0
VariablesFollowInTurn =
    (inputs : List PureValue) (n d : ℕ) (sorts more : List Sort) (ws us : List PureValue) → AreNext inputs n d sorts ws
    → AreNext inputs (counter_past sorts n) (draws_past sorts d) more us → AreNext inputs n d (sorts ++ more) (ws ++ us)
