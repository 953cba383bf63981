-- The end of a call on a path, with a term that it returns or throws: what the path stands for then is what the machine makes of the
-- states that it stood for, where the call that runs returns or throws the term's value.
use Rattle.std.specs.Prelude.{◌≡◌, List, [], ◌∷◌, Some, ⊤}
use Rattle.gil_values.specs.declared.places.Place.{Place}
use Rattle.gil_values.specs.Pure.{PureValue}
use Rattle.gil_syntax.specs.Pure.{PureParts}
use Rattle.gil_syntax.specs.Valid.{IsValid}
use Rattle.gil_machine.specs.State.{State, threw, Step, goes_on, ends, end_at}
use Rattle.gil_machine.specs.Step.{leave, throw_to}
use Rattle.gil_machine.specs.Step as machine
use Rattle.mem_model.specs.Heaps.{Heap}
use Rattle.pure_terms.specs.Meaning.{value, IsOver}
use Rattle.pure_terms.specs.Pure.{PureTerm}
use Rattle.sym_engine.specs.Placed.{AreAtCommands}
use Rattle.sym_model.specs.Terms.{StateTerms}
use Rattle.sym_paths.specs.Frames.{Resumes}
use Rattle.sym_paths.specs.Meaning.{Stands, IsOverTable}
use Rattle.sym_paths.specs.Pure.{PureFrame, PurePath}

-- ---- frames

abbrev pub HasFrame : List PureFrame → Type 0
HasFrame [] = ⊥
HasFrame (f ∷ fs) = ⊤

-- a call waits for the one that runs
abbrev pub HasCaller : List PureFrame → Type 0
HasCaller [] = ⊥
HasCaller (f ∷ fs) = HasFrame fs

-- the frame that runs ends, and the next one goes on with the term
abbrev pub HandsDown : PureTerm → List PureFrame → List PureFrame → Type 0
HandsDown t [] nexts = ⊥
HandsDown t (f ∷ []) nexts = ⊥
HandsDown t (f ∷ caller ∷ callers) nexts = (r : PureFrame) × (Resumes t caller r × (nexts ≡ r ∷ callers))

-- ---- paths

-- the path stands for the state with which a step goes on
abbrev pub StandsWhereGoesOn : {S : Type 0} → (S → List PureValue → Heap → Type 0) → PurePath S → List PureValue → Step → Type 0
StandsWhereGoesOn stands path v (goes_on s) = Stands stands path v s
StandsWhereGoesOn stands path v (ends e) = ⊥

-- a throw leads to a path that goes on, or nothing catches it
pub data PureThrown (S : Type 0) : Type 0 where
  caught : PurePath S → PureThrown S
  uncaught : PurePath S → PureThrown S

module _ {S : Type 0} (stands : S → List PureValue → Heap → Type 0) (terms : S → StateTerms) (path : PurePath S) (t : PureTerm) where
  -- what a path that goes on keeps: all but frames is as it was, and these are over the table and stand at commands, as before
  pub record KeepsAllButFrames (next : PurePath S) : Type 0 where
    pub same_else : next ≡ record path { stack = next.stack }
    pub over : IsOverTable terms path → IsOver path.vars t → IsOverTable terms next
    pub placed : (p : PureParts) → IsValid p → AreAtCommands p path.stack → AreAtCommands p next.stack

  -- The call that runs returns the term: wherever it has a value, the path stands for the state in which the one that waits goes on
  -- with this value.
  pub record IsLeft (next : PurePath S) : Type 0 where
    pub keeps : KeepsAllButFrames next
    pub stands_for : (v : List PureValue) (s : State) (w : PureValue) → Stands stands path v s → value v t ≡ Some w
        → StandsWhereGoesOn stands next v (leave s.callers w s)

  -- The call that runs throws the term, and another one catches it.
  pub record IsCaught (next : PurePath S) : Type 0 where
    pub keeps : KeepsAllButFrames next
    pub stands_for : (v : List PureValue) (s : State) (w : PureValue) (here : Place) → Stands stands path v s → value v t ≡ Some w
        → StandsWhereGoesOn stands next v (throw_to (machine.handling s.callers) w here s)

  -- The call that runs throws, and no call has a handler.
  pub record IsUncaught (next : PurePath S) : Type 0 where
    pub no_frame : next ≡ record path { stack = [] }
    pub ends_there : (v : List PureValue) (s : State) (w : PureValue) (here : Place) → Stands stands path v s
        → throw_to (machine.handling s.callers) w here s ≡ ends (end_at s (threw w here))

  abbrev pub IsThrown : PureThrown S → Type 0
  IsThrown (caught next) = IsCaught next
  IsThrown (uncaught next) = IsUncaught next
