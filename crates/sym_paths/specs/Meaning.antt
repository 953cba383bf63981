-- What a path stands for under a valuation: states of the machine, and ends of its runs. Paths and what they stand for are those of
-- Gillian, Part I (PLDI 2020).
use Rattle.std.specs.FinMap.{empty}
use Rattle.std.specs.Prelude.{◌≡◌, ℕ, List, [], ◌∷◌, length, Option, Some, None, IsTrue, codes, ⊤}
use Rattle.gil_values.specs.declared.places.Place.{Place}
use Rattle.gil_values.specs.Pure.{PureValue, text}
use Rattle.gil_values.specs.Symbols.{AreBelow}
use Rattle.gil_syntax.specs.Pure.{PureParts, PureNumberedCommand}
use Rattle.gil_syntax.specs.Programs.{find_proc}
use Rattle.gil_machine.specs.Choices.{miss_at}
use Rattle.gil_machine.specs.State.{Frame, State, Ending, End, Step, goes_on, ends}
use Rattle.gil_machine.specs.State as machine
use Rattle.gil_machine.specs.Step.{command_of}
use Rattle.mem_model.specs.declared.keys.Key.{Key}
use Rattle.mem_model.specs.Actions.{Actions}
use Rattle.mem_model.specs.Heaps.{Heap}
use Rattle.pure_terms.specs.Meaning.{value, all_true, IsProper, IsOver}
use Rattle.pure_terms.specs.Pure.{PureTerm, term_of}
use Rattle.sym_evaluation.specs.Meaning.{StandsFor}
use Rattle.sym_evaluation.specs.Pure.{PureStore, term_at}
use Rattle.sym_model.specs.Lists.{Each}
use Rattle.sym_model.specs.Meaning.{key_value}
use Rattle.sym_model.specs.Pure.{sub_terms}
use Rattle.sym_model.specs.Terms.{StateTerms, no_state_terms, all_of, AreEachOver}
use Rattle.sym_paths.specs.Pure.{PureFrame, entry_frame, PureEnd, returned, failed, threw, missed, vanished, cut, unknown, PurePath}

-- ---- states

-- under the valuation the frame is this call: each name that has a term has the term's value
pub record IsFrame (v : List PureValue) (f : PureFrame) (g : Frame) : Type 0 where
  pub procedure : f.procedure ≡ g.procedure
  pub next : f.next ≡ g.next
  pub store : StandsFor v f.store g.store
  pub waits : f.waits ≡ g.waits
  pub handler : f.handler ≡ g.handler

abbrev pub AreFrames : List PureValue → List PureFrame → List Frame → Type 0
AreFrames v [] [] = ⊤
AreFrames v (f ∷ fs) (g ∷ gs) = IsFrame v f g × AreFrames v fs gs
AreFrames v _ _ = ⊥

-- the calls of a state, the latest first
abbrev pub frames_of : State → List Frame
frames_of s = s.current ∷ s.callers

-- The path stands for the state: the valuation is proper for the table and meets the conditions, the calls agree, the memory has
-- the state's heap, each symbol of the valuation is below the counter, and as many draws were made as are listed.
pub record Stands {S : Type 0} (stands : S → List PureValue → Heap → Type 0) (path : PurePath S) (v : List PureValue) (s : State)
    : Type 0 where
  pub proper : IsProper path.vars v
  pub meets : IsTrue (all_true v path.conds)
  pub frames : AreFrames v path.stack (frames_of s)
  pub memory : stands path.memory v s.heap
  pub symbols_below : AreBelow s.counter v
  pub draws : s.draws ≡ length path.drawn

-- the command at which the path stands
abbrev pub command_of_frames : PureParts → List PureFrame → Option PureNumberedCommand
command_of_frames p [] = None
command_of_frames p (f ∷ fs) = command_of (find_proc p.procs f.procedure) f.next

abbrev pub command_of_path : {S : Type 0} → PureParts → PurePath S → Option PureNumberedCommand
command_of_path p path = command_of_frames p path.stack

-- ---- ends

-- the path fails or throws at this place, or is unknown there
abbrev pub EndsAt : Place → PureEnd → Type 0
EndsAt place (failed t here) = here ≡ place
EndsAt place (threw t here) = here ≡ place
EndsAt place (missed k here) = here ≡ place
EndsAt place (unknown here reason) = here ≡ place
EndsAt place (returned t) = ⊥
EndsAt place vanished = ⊥
EndsAt place cut = ⊥

-- Under the valuation the end of a path is that of the run whose last step was done from the state s. The key of a miss is the one
-- that is missed there, and where a path fails nothing is missed.
abbrev pub IsEnding : PureParts → Actions → List PureValue → State → PureEnd → Ending → Type 0
IsEnding p m v s (returned t) e = (w : PureValue) × ((value v t ≡ Some w) × (e ≡ machine.returned w))
IsEnding p m v s (failed t place) e = (w : PureValue) × ((value v t ≡ Some w) × (miss_at p m s ≡ None) × (e ≡ machine.failed w place))
IsEnding p m v s (threw t place) e = (w : PureValue) × ((value v t ≡ Some w) × (e ≡ machine.threw w place))
IsEnding p m v s (missed k place) e =
    (q : Key) × ((key_value v k.loc k.sub ≡ Some q) × (miss_at p m s ≡ Some q) × (e ≡ machine.failed (text (codes "missing")) place))
IsEnding p m v s vanished e = e ≡ machine.vanished
IsEnding p m v s cut e = e ≡ machine.cut
IsEnding p m v s (unknown place reason) e = ⊥

pub record StandsForEnd {S : Type 0} (p : PureParts) (m : Actions) (stands : S → List PureValue → Heap → Type 0) (path : PurePath S)
    (v : List PureValue) (s : State) (how : PureEnd) (e : End) : Type 0 where
  pub proper : IsProper path.vars v
  pub meets : IsTrue (all_true v path.conds)
  pub ending : IsEnding p m v s how e.ending
  pub memory : stands path.memory v e.heap
  pub symbols_below : AreBelow e.counter v
  pub draws : e.draws ≡ length path.drawn

-- the path stands for what a step from the state s led to
abbrev pub StandsForStep : {S : Type 0} → PureParts → Actions → (S → List PureValue → Heap → Type 0) → PurePath S → List PureValue → State
    → Option PureEnd → Step → Type 0
StandsForStep p m stands path v s None (goes_on t) = Stands stands path v t
StandsForStep p m stands path v s (Some how) (ends e) = StandsForEnd p m stands path v s how e
StandsForStep p m stands path v s _ _ = ⊥

-- ---- the table

-- what holds of the term of each name
abbrev pub OfEachName : (PureTerm → Type 0) → PureStore → Type 0
OfEachName P bs = (x : List ℕ) (t : PureTerm) → term_at bs x ≡ Some t → P t

abbrev pub end_terms : Option PureEnd → List PureTerm
end_terms (Some (returned t)) = t ∷ []
end_terms (Some (failed t place)) = t ∷ []
end_terms (Some (threw t place)) = t ∷ []
end_terms (Some (missed k place)) = k.loc ∷ sub_terms k.sub
end_terms (Some vanished) = []
end_terms (Some cut) = []
end_terms (Some (unknown place reason)) = []
end_terms None = []

-- Conditions, stores, memory, draws and end of the path name only variables of its table.
pub record IsOverTable {S : Type 0} (terms : S → StateTerms) (path : PurePath S) : Type 0 where
  pub conds : Each (λ a. IsOver path.vars (term_of a)) path.conds
  pub given : Each (λ a. IsOver path.vars (term_of a)) path.given
  pub stores : Each (λ f. OfEachName (IsOver path.vars) f.store) path.stack
  pub memory : AreEachOver path.vars (all_of (terms path.memory))
  pub drawn : AreEachOver path.vars path.drawn
  pub ending : AreEachOver path.vars (end_terms path.ending)

-- ---- the first path

-- The path on which a procedure without parameters begins: at its first command, with nothing drawn, asked, assumed or chosen, over a memory
-- without terms, whose heap is empty.
pub record IsFirstPath {S : Type 0} (stands : S → List PureValue → Heap → Type 0) (terms : S → StateTerms) (f : List ℕ)
    (path : PurePath S) : Type 0 where
  pub stack : path.stack ≡ entry_frame f ∷ []
  pub vars : path.vars ≡ []
  pub drawn : path.drawn ≡ []
  pub conds : path.conds ≡ []
  pub given : path.given ≡ []
  pub choices : path.choices ≡ []
  pub steps : path.steps ≡ 0
  pub going : path.ending ≡ None
  pub heap : stands path.memory [] empty
  pub no_terms : terms path.memory ≡ no_state_terms
