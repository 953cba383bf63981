-- Candidates for the next paths of a step, and what a decider makes of them: those that no valuation meets are dropped, those that it
-- can't decide or that need a literal form end as unknown, and the others stay.
use Rattle.std.specs.Prelude.{◌≡◌, ◌⊎◌, List, [], ◌∷◌, ◌++◌, false, Some, IsTrue}
use Rattle.gil_values.specs.declared.places.Place.{Place}
use Rattle.gil_values.specs.Pure.{PureValue}
use Rattle.gil_syntax.specs.Pure.{PureParts}
use Rattle.gil_machine.specs.State.{State}
use Rattle.gil_machine.specs.Step.{step}
use Rattle.mem_model.specs.Actions.{Actions}
use Rattle.mem_model.specs.Heaps.{Heap}
use Rattle.pure_terms.specs.declared.deciders.Reason.{Reason}
use Rattle.pure_terms.specs.Fragment.{InFragment}
use Rattle.pure_terms.specs.Meaning.{Satisfies, IsUnsatisfiable}
use Rattle.pure_terms.specs.Pure.{PureAtom}
use Rattle.sym_model.specs.Lists.{Each, OneOf, IsAmong}
use Rattle.sym_model.specs.Meaning.{has_open}
use Rattle.sym_model.specs.Terms.{StateTerms}
use Rattle.sym_paths.specs.Meaning.{StandsForStep, Stands}
use Rattle.sym_paths.specs.Origins.{Follows}
use Rattle.sym_paths.specs.Pure.{unknown, PurePath}
use Rattle.sym_paths.specs.Steps.{Extends, HasInput, IsUnknown, IsFirstOutside, IsPlaceOf, AsksMore, Grows, IsRecorded, AddsOwn, Assumes, IsExact, HoldsAlong, AreNextPaths}

-- a path that may come next, and what is assumed besides where it ends as unknown: that there is no fault at its command
pub record Candidate (S : Type 0) : Type 0 where
  pub path : PurePath S
  pub no_fault : List PureAtom

abbrev pub ended_unknown : {S : Type 0} → Candidate S → Place → Reason → PurePath S
ended_unknown c place reason = record c.path { given = c.path.given ++ c.no_fault; ending = Some (unknown place reason) }

-- ---- what becomes of a candidate

-- it stays: where some valuation meets the old path, some meets it, and it needs no literal form
pub record IsKept {S : Type 0} (path : PurePath S) (c : Candidate S) (next : PurePath S) : Type 0 where
  pub is : next ≡ c.path
  pub no_form : has_open c.path.conds ≡ false
  pub met : (v : List PureValue) → Satisfies path.vars v path.conds → (w : List PureValue) × Satisfies c.path.vars w c.path.conds

-- it ends as unknown: its list is outside the fragment, and something is asked
pub record IsLeftUnknown {S : Type 0} (p : PureParts) (path : PurePath S) (c : Candidate S) (next : PurePath S) : Type 0 where
  pub place : Place
  pub reason : Reason
  pub is : next ≡ ended_unknown c place reason
  pub outside : ¬ InFragment c.path.conds
  pub first : IsFirstOutside c.path.conds reason
  pub at : IsPlaceOf p path.stack place
  pub asks : AsksMore path c.path

abbrev pub Stays : {S : Type 0} → PureParts → PurePath S → Candidate S → PurePath S → Type 0
Stays p path c next = IsKept path c next ⊎ IsLeftUnknown p path c next

-- The paths are what becomes of the candidates, in order.
abbrev pub AreSettled : {S : Type 0} → PureParts → PurePath S → List (Candidate S) → List (PurePath S) → Type 0
AreSettled {S} p path [] nexts = nexts ≡ []
AreSettled {S} p path (c ∷ cs) nexts =
    (IsUnsatisfiable c.path.vars c.path.conds × AreSettled p path cs nexts)
    ⊎ ((next : PurePath S) × ((rest : List (PurePath S)) × ((nexts ≡ next ∷ rest) × Stays p path c next × AreSettled p path cs rest)))

-- ---- what candidates must do

module _ {S : Type 0} (p : PureParts) (m : Actions) (stands : S → List PureValue → Heap → Type 0) where
  -- Cover: what a state comes to that the path stands for, but for want of input, some candidate whose conditions are met stands for, or
  -- it needs a literal form.
  abbrev pub CandidatesCover : PurePath S → List (Candidate S) → Type 0
  CandidatesCover path cs =
      (inputs v : List PureValue) (s : State) → Stands stands path v s → HasInput (step p m inputs s)
      → OneOf (λ c. (w : List PureValue) × (Extends inputs s path c.path v w × Satisfies c.path.vars w c.path.conds
      × (StandsForStep p m stands c.path w s c.path.ending (step p m inputs s) ⊎ IsTrue (has_open c.path.conds)))) cs

-- What a candidate assumes may be assumed at its command, and so may what it assumes besides where it ends as unknown.
abbrev pub AssumesRightly : {S : Type 0} → PureParts → (PureAtom → Type 0) → (PureAtom → Type 0) → PurePath S → Candidate S → Type 0
AssumesRightly p own by_memory path c =
    Assumes p own by_memory path c.path × ((place : Place) (reason : Reason) → Assumes p own by_memory path (ended_unknown c place reason))

-- The laws of the paths of a step, before a decider is asked.
pub record AreCandidates {S : Type 0} (p : PureParts) (m : Actions) (stands : S → List PureValue → Heap → Type 0) (terms : S → StateTerms)
    (own by_memory : PureAtom → Type 0) (path : PurePath S) (cs : List (Candidate S)) : Type 0 where
  pub growth : Each (λ c. Grows terms path c.path × Each (λ a. IsAmong a c.path.conds) c.no_fault) cs
  pub recorded : Each (λ c. IsRecorded p m path c.path) cs
  pub known : Each (λ c. ¬ IsUnknown c.path.ending) cs
  pub cover : CandidatesCover p m stands path cs
  pub exact : Each (λ c. has_open c.path.conds ≡ false → IsExact p m stands path c.path) cs
  pub along : Each (λ c. HoldsAlong p m stands path c.path
      × ((place : Place) (reason : Reason) → HoldsAlong p m stands path (ended_unknown c place reason))) cs
  pub own_conditions : Each (λ c. AddsOwn own path c.path) cs
  pub assumes : Each (AssumesRightly p own by_memory path) cs
  pub origin : Each (λ c. has_open c.path.conds ≡ false → Follows p m terms path c.path) cs

-- What becomes of candidates are the paths of the step. `asked` are any conditions that the command may ask, and `of_memory` any that
-- its memory asks.
abbrev pub CandidatesSettle : {S : Type 0} → (S → List PureValue → Heap → Type 0) → (S → StateTerms) → Type 0
CandidatesSettle {S} stands terms =
    (p : PureParts) (m : Actions) (asked of_memory : List PureAtom) (path : PurePath S) (cs : List (Candidate S)) (nexts : List (PurePath S))
    → AreCandidates p m stands terms (λ a. IsAmong a asked) (λ a. IsAmong a of_memory) path cs → AreSettled p path cs nexts
    → AreNextPaths p m stands terms (λ a. IsAmong a asked) (λ a. IsAmong a of_memory) path nexts
