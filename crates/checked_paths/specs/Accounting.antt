-- Checked paths that account for checked runs: where each path that comes of the starts ends with nothing left to be looked at, no checked
-- run of the specification has a fault.
use Rattle.std.specs.Prelude.{ℕ, zero, suc, List, [], Bool, IsTrue, ⊤}
use Rattle.gil_values.specs.Pure.{PureValue}
use Rattle.gil_syntax.specs.Evaluation.{Store}
use Rattle.gil_syntax.specs.Pure.{PureParts}
use Rattle.gil_syntax.specs.Valid.{is_among}
use Rattle.mem_model.specs.declared.keys.MemoryName.{MemoryName}
use Rattle.mem_model.specs.Actions.{Actions}
use Rattle.mem_model.specs.Heaps.{Heap}
use Rattle.checked_runs.specs.Checked.{Checked, goes_on_to, Entry, IsAbove, IsStart, HasNoFault, UsesOnly}
use Rattle.sym_model.specs.Lists.{Each, OneOf}
use Rattle.checked_paths.specs.Covering.{CoversOutcome, CoversLeads, NamesUses}
use Rattle.checked_paths.specs.Meaning.{StandsForChecked}
use Rattle.checked_paths.specs.Pure.{PureEntry, PureChecking, PureNext, further, over, caused}

-- the entry of the specification with these values
abbrev pub entry_of : PureEntry → List PureValue → Store → Entry
entry_of e args variables = record { spec = e.spec; args = args; variables = variables }

-- what holds of a path that goes on, where nothing is a cause
abbrev pub OfFurther : {S : Type 0} → (PureChecking S → Type 0) → PureNext S → Type 0
OfFurther P (further x) = P x
OfFurther P over = ⊤
OfFurther P (caused cause) = ⊥

-- each of the names is chosen
abbrev pub AreChosen : (List ℕ → Bool) → List (List ℕ) → Type 0
AreChosen chosen names = (x : List ℕ) → IsTrue (is_among names x) → IsTrue (chosen x)

module _ {S : Type 0} (p : PureParts) (memory : MemoryName) (m : Actions) (stands : S → List PureValue → Heap → Type 0)
    (e : PureEntry) where
  -- Cover of the starts: each start of a checked run of the specification is covered by one of these.
  abbrev pub CoversStarts : List (PureNext S) → Type 0
  CoversStarts starts =
      (args : List PureValue) (variables : Store) (c : Checked) → IsStart p memory m (entry_of e args variables) c
      → OneOf (CoversOutcome stands e (entry_of e args variables) [] (goes_on_to c)) starts

  module _ (chosen : List ℕ → Bool) where
    -- a step of the path: it covers, it uses chosen specifications alone, and what goes on is accounted for
    pub record IsAccountedBy (Later : PureChecking S → Type 0) (x : PureChecking S) : Type 0 where
      pub names : List (List ℕ)
      pub nexts : List (PureNext S)
      pub cover : CoversLeads p memory m stands e x nexts
      pub uses : NamesUses p memory m stands e x names nexts
      pub names_chosen : AreChosen chosen names
      pub later : Each (OfFurther Later) nexts

    -- within so many steps nothing is left of the path
    abbrev pub IsAccounted : ℕ → PureChecking S → Type 0
    IsAccounted zero x = ⊥
    IsAccounted (suc n) x = IsAccountedBy (IsAccounted n) x

-- What a checked path stands for is above all symbols.
abbrev pub StandsAbove : {S : Type 0} → (S → List PureValue → Heap → Type 0) → Type 0
StandsAbove {S} stands =
    (e : PureEntry) (x : PureChecking S) (v : List PureValue) (entry : Entry) (c : Checked) → StandsForChecked stands e x v entry c → IsAbove c

-- Where starts cover those of a specification, none is a cause, and each path that goes on is accounted for, no checked run of the
-- specification has a fault, and each uses chosen specifications alone.
abbrev pub AccountedRunsHaveNoFault : {S : Type 0} → MemoryName → Actions → (S → List PureValue → Heap → Type 0) → Type 0
AccountedRunsHaveNoFault {S} memory m stands =
    (p : PureParts) (e : PureEntry) (chosen : List ℕ → Bool) (n : ℕ) (starts : List (PureNext S)) → CoversStarts p memory m stands e starts
    → Each (OfFurther (IsAccounted p memory m stands e chosen n)) starts
    → HasNoFault p memory m e.spec × UsesOnly p memory m chosen e.spec
