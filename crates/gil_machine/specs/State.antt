-- States of the machine and the ends of its runs. From Gillian, Part I (PLDI 2020).
use Rattle.std.specs.Prelude.{ℕ, List, Option, ⊤}
use Rattle.gil_values.specs.declared.places.Place.{Place}
use Rattle.gil_values.specs.Pure.{PureValue}
use Rattle.gil_syntax.specs.Evaluation.{Store}
use Rattle.mem_model.specs.Heaps.{Heap}

-- A call in progress: its procedure, the index of the command at which it stands, its store, and, where it has made a call,
-- the variable that waits for the result and the label of the call's handler, if it has one.
pub record Frame : Type 0 where
  pub procedure : List ℕ
  pub next : ℕ
  pub store : Store
  pub waits : Option (List ℕ)
  pub handler : Option ℕ

-- The frame that runs and those that wait for it, the latest first; the heap; the counter, which is the number of the
-- next new symbol; and how many draws were made.
pub record State : Type 0 where
  pub current : Frame
  pub callers : List Frame
  pub heap : Heap
  pub counter : ℕ
  pub draws : ℕ

-- A throw is an end where no call has a handler. Draws are numbered from 1. A run is cut where its bound of steps was
-- reached without an end.
pub data Ending : Type 0 where
  returned : PureValue → Ending
  threw : PureValue → Place → Ending
  failed : PureValue → Place → Ending
  vanished : Ending
  no_input : ℕ → Ending
  bad_input : ℕ → Ending
  cut : Ending

pub record End : Type 0 where
  pub ending : Ending
  pub heap : Heap
  pub counter : ℕ
  pub draws : ℕ

-- what a step leads to
pub data Step : Type 0 where
  goes_on : State → Step
  ends : End → Step

-- the run ends here
abbrev pub end_at : State → Ending → End
end_at s ending = record { ending = ending; heap = s.heap; counter = s.counter; draws = s.draws }

abbrev pub IsFailed : Ending → Type 0
IsFailed (returned v) = ⊥
IsFailed (threw v place) = ⊥
IsFailed (failed v place) = ⊤
IsFailed vanished = ⊥
IsFailed (no_input k) = ⊥
IsFailed (bad_input k) = ⊥
IsFailed cut = ⊥

-- the run reached an end within its bound
abbrev pub IsOver : Ending → Type 0
IsOver (returned v) = ⊤
IsOver (threw v place) = ⊤
IsOver (failed v place) = ⊤
IsOver vanished = ⊤
IsOver (no_input k) = ⊤
IsOver (bad_input k) = ⊤
IsOver cut = ⊥

-- How a test and a report tell an ending: a throw that no handler takes is a failure with its value at its place.
abbrev pub told : Ending → Ending
told (returned v) = returned v
told (threw v place) = failed v place
told (failed v place) = failed v place
told vanished = vanished
told (no_input k) = no_input k
told (bad_input k) = bad_input k
told cut = cut

abbrev pub told_end : End → End
told_end e = record e { ending = told e.ending }
