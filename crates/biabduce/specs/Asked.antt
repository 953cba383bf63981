-- What is asked where inference leaves something undecided: which path the conditions are of, or which beginning, and why they are asked.
use Rattle.std.specs.Prelude.{◌≡◌, ◌⊎◌, ℕ, ◌≤◌, ℤ, List, [], ◌∷◌, ◌++◌, if◌then◌else◌, true, false, Option, Some, IfSome, codes, ⊤}
use Rattle.std.proofs.Common.{inl, inr}
use Rattle.std.specs.List.{list_all}
use Rattle.gil_values.specs.declared.places.Place.{Place}
use Rattle.gil_values.specs.Pure.{PureValue, text}
use Rattle.gil_syntax.specs.Pure.{PureProc, PureParts, PureNumberedCommand}
use Rattle.gil_syntax.specs.Simple.{is_narrow_command}
use Rattle.gil_syntax.specs.Valid.{is_among}
use Rattle.gil_machine.specs.Choices.{choices, with_choice}
use Rattle.gil_machine.specs.Run.{reached, run, start as start_state, IsProperStart}
use Rattle.gil_machine.specs.State.{State, Ending, End}
use Rattle.gil_machine.specs.State as machine
use Rattle.gil_machine.specs.Step.{command_at}
use Rattle.mem_model.specs.declared.keys.MemoryName.{MemoryName}
use Rattle.mem_model.specs.Actions.{Actions}
use Rattle.mem_model.specs.Heaps.{Heap}
use Rattle.checked_runs.specs.Specifications.{result_name}
use Rattle.pure_terms.specs.declared.deciders.Reason.{Reason}
use Rattle.pure_terms.specs.declared.variables.Sort.{Sort}
use Rattle.pure_terms.specs.Fragment.{has_fragment_form}
use Rattle.pure_terms.specs.Pure.{PureTerm, PureAtom, opening}
use Rattle.sym_step.specs.Exploring.{IsEndedFrom}
use Rattle.sym_step.specs.ExplorationLaws.{IsTraced}
use Rattle.sym_model.specs.Lists.{Each, OneOf, IsAmong}
use Rattle.sym_model.specs.Pure.{PureKey, sub_terms}
use Rattle.sym_model.specs.Terms.{StateTerms}
use Rattle.sym_paths.specs.Meaning.{command_of_path}
use Rattle.sym_paths.specs.Pure.{PureEnd, returned, failed, threw, missed, vanished, cut, unknown, PurePath}
use Rattle.sym_paths.specs.Steps.{MayChoose, IsPlaceOf}
use Rattle.bi_beginnings.specs.Beginnings.{PureBeginning, first_beginning, IsBeginning, BeginsExactly}
use Rattle.bi_beginnings.specs.Opening.{IsAskedThere}
use Rattle.bi_specifications.specs.Specified.{PureEntry, IsExplored}
use Rattle.biabduce.specs.Covering.{IsToldEnd}
use Rattle.biabduce.specs.Narrowly.{IsNarrowLeft}
use Rattle.biabduce.specs.Sound.{PureAsked, PureInference}

-- ---- lists

-- What is asked of a path with these conditions, which can't be said: the conditions; or where each of them has a form of the fragment, the
-- form of this term besides.
abbrev pub asked_of_end : List PureAtom → PureTerm → List PureAtom
asked_of_end conds t = if list_all has_fragment_form conds then conds ++ opening t ∷ [] else conds

-- table, conditions, what is assumed, choices and end are those of the path, which drew nothing
pub record IsOfPath {S : Type 0} (path : PurePath S) (vars : List Sort) (conds given : List PureAtom) (choices : List ℕ) : Type 0 where
  pub vars_same : vars ≡ path.vars
  pub conds_same : conds ≡ path.conds
  pub given_same : given ≡ path.given
  pub choices_same : choices ≡ path.choices
  pub no_draw : path.drawn ≡ []

-- where a path ends that returned, threw or was cut: at the place where it throws, or at the command of its first frame
abbrev pub IsPlaceOfEnd : {S : Type 0} → PureParts → PurePath S → Option PureEnd → Place → Type 0
IsPlaceOfEnd p path (Some (threw t here)) place = place ≡ here
IsPlaceOfEnd p path how place = IsPlaceOf p path.stack place

-- ---- why something is asked

module _ {S : Type 0} (path : PurePath S) (x : PureAsked) where
  -- the path is unknown at the place, and its conditions are asked
  pub record IsUnknownThere : Type 0 where
    pub reason : Reason
    pub ending : path.ending ≡ Some (unknown x.place reason)
    pub asks : x.conds ≡ path.conds

  -- the path missed a key at the place, and besides its conditions the form of a term of the key is asked
  pub record MissesThere : Type 0 where
    pub key : PureKey
    pub ending : path.ending ≡ Some (missed key x.place)
    pub term : PureTerm
    pub of_key : IsAmong term (key.loc ∷ sub_terms key.sub)
    pub asks : x.conds ≡ path.conds ++ opening term ∷ []

  -- The path returned, threw or was cut at the place. Its conditions are asked, and where a parameter has the name of the result, maybe the
  -- form of a term besides.
  pub record IsUnsaidThere (p : PureParts) (q : PureProc) : Type 0 where
    pub told : IsToldEnd path.ending
    pub at_place : IsPlaceOfEnd p path path.ending x.place
    pub asks : (x.conds ≡ path.conds)
        ⊎ ((is_among q.params result_name ≡ true) × ((term : PureTerm) × (x.conds ≡ path.conds ++ opening term ∷ [])))

  -- It is asked of the path, which drew nothing: with its variables, its choices, and what it assumes; since it is unknown, missed a key of
  -- which a term isn't known where it began, or can't be said.
  pub record IsAskedOf (p : PureParts) (q : PureProc) : Type 0 where
    pub no_draw : path.drawn ≡ []
    pub vars : x.vars ≡ path.vars
    pub choices : x.choices ≡ path.choices
    pub given : x.given ≡ path.given
    pub why : IsUnknownThere ⊎ (MissesThere ⊎ IsUnsaidThere p q)

-- The beginning comes of the path, which drew nothing and missed a key at the beginning's place. It has the choices of the path, and carries
-- some of its conditions.
pub record ComesOf {S : Type 0} (path : PurePath S) (b : PureBeginning) : Type 0 where
  pub no_draw : path.drawn ≡ []
  pub key : PureKey
  pub ending : path.ending ≡ Some (missed key b.place)
  pub choices : b.choices ≡ path.choices
  pub carried : Each (λ a. IsAmong a path.conds) b.conds

-- What the path adds: beginnings that come of it; and what is left undecided was so before, or is asked of the path.
pub record Adds {S : Type 0} (p : PureParts) (q : PureProc) (path : PurePath S) (i j : PureInference) : Type 0 where
  pub more : List PureBeginning
  pub left : j.left ≡ i.left ++ more
  pub each : Each (ComesOf path) more
  pub undecided : IfSome j.undecided (λ x. (i.undecided ≡ Some x) ⊎ IsAskedOf path x p q)

-- of each beginning that is left the first thing holds, and of what is undecided the second one
abbrev pub AllAre : (PureBeginning → Type 0) → (PureAsked → Type 0) → PureInference → Type 0
AllAre Left Asked i = Each Left i.left × IfSome i.undecided Asked

-- ---- runs

-- the state stands at the command of the place
abbrev pub StandsThere : PureParts → State → Place → Type 0
StandsThere p s place = (c : PureNumberedCommand) × ((command_at p s.current ≡ Some c) × (place ≡ record { proc = s.current.procedure; at = c.at }))

-- After k steps, at most n, a run of the procedure from some proper start has drawn nothing, and stands in this state. It has made these
-- choices, or all of them but the last, which is one that the command there has.
pub record IsComeTo (p : PureParts) (memory : MemoryName) (m : Actions) (f : List ℕ) (n : ℕ) (made : List ℕ) (state : State) : Type 0 where
  pub args : List PureValue
  pub heap : Heap
  pub counter : ℕ
  pub proper : IsProperStart p memory f args heap counter
  pub k : ℕ
  pub within : k ≤ n
  pub comes : reached p m [] k (start_state p f args heap counter) ≡ Some state
  pub no_draw : state.draws ≡ 0
  pub last : Option ℕ
  pub may : (c : PureNumberedCommand) → command_at p state.current ≡ Some c → MayChoose c.command last
  pub chosen : made ≡ choices p m [] k (start_state p f args heap counter) ++ with_choice last []

-- The run ends as the path does: where the path missed a key, it fails so at that place.
abbrev pub EndsAs : PureEnd → Ending → Type 0
EndsAs (returned t) e = (w : PureValue) × (e ≡ machine.returned w)
EndsAs (failed t place) e = (w : PureValue) × (e ≡ machine.failed w place)
EndsAs (threw t place) e = (w : PureValue) × (e ≡ machine.threw w place)
EndsAs (missed k place) e = e ≡ machine.failed (text (codes "missing")) place
EndsAs vanished e = e ≡ machine.vanished
EndsAs cut e = ⊤
EndsAs (unknown place reason) e = ⊤

-- Within n steps a run of the procedure from some proper start ends so, has drawn nothing, and has made these choices.
pub record IsEndedSo (p : PureParts) (memory : MemoryName) (m : Actions) (f : List ℕ) (n : ℕ) (made : List ℕ) (how : PureEnd) : Type 0 where
  pub args : List PureValue
  pub heap : Heap
  pub counter : ℕ
  pub proper : IsProperStart p memory f args heap counter
  pub k : ℕ
  pub within : k ≤ n
  pub end : End
  pub runs : run p m [] k (start_state p f args heap counter) ≡ end
  pub ending : EndsAs how end.ending
  pub no_draw : end.draws ≡ 0
  pub chosen : made ≡ choices p m [] k (start_state p f args heap counter)

-- ends that a run has too: any but those that are unknown
abbrev pub IsKnownEnd : PureEnd → Type 0
IsKnownEnd (unknown place reason) = ⊥
IsKnownEnd how = ⊤

-- ---- what is asked along paths

module _ {S : Type 0} (p : PureParts) (memory : MemoryName) (m : Actions) (stands : S → List PureValue → Heap → Type 0) (terms : S → StateTerms)
    (asked : List ℕ → List PureTerm → List PureTerm × List PureTerm) (depends : S → List ℕ → List PureTerm → List PureValue → Heap → PureTerm → Type 0)
    (plain : S → ℤ → ℤ → Type 0) (keeps_plain : Type 0) (kept : S → Type 0) (q : PureProc) (n : ℕ) where
  -- The path came of one on which runs of the procedure begin, has an end within n steps, and drew nothing.
  pub record IsWay (path : PurePath S) : Type 0 where
    pub entry : PureEntry
    pub explored : IsExplored memory m stands terms asked depends plain keeps_plain kept q entry path p n
    pub no_draw : path.drawn ≡ []

  -- the paths on the way to the end, the latest first
  abbrev pub earlier_of : (start path : PurePath S) → IsEndedFrom p m stands terms asked depends plain keeps_plain n start path → List (PurePath S)
  earlier_of start path (inl (from, some)) = from.earlier
  earlier_of start path (inr (last, (from, going, steps, is))) = from.earlier

  abbrev pub on_way : (path : PurePath S) → IsWay path → List (PurePath S)
  on_way path way = earlier_of way.explored.start path way.explored.ended

  -- it is asked along a path
  pub record IsAskedAlong (x : PureAsked) : Type 0 where
    pub path : PurePath S
    pub way : IsWay path
    pub asks : IsAskedOf path x p q

  -- the beginning comes of a path that missed a key
  pub record IsBegunAgain (b : PureBeginning) : Type 0 where
    pub path : PurePath S
    pub way : IsWay path
    pub comes : ComesOf path b

  -- It is asked of a beginning of the procedure that comes of a path which missed a key: at that place, and with the choices of that path.
  pub record IsAskedFirst (x : PureAsked) : Type 0 where
    pub beginning : PureBeginning
    pub of_procedure : IsBeginning memory q.params beginning
    pub again : IsBegunAgain beginning
    pub asks : IsAskedThere stands terms kept q.params beginning x.place x.choices x.vars x.given x.conds

  -- Each beginning that is left is the first one, or comes of a path that missed a key; and what is left undecided is asked along a path, or of
  -- such a beginning.
  abbrev pub IsLeftOf : PureBeginning → Type 0
  IsLeftOf b = (b ≡ first_beginning q) ⊎ IsBegunAgain b

  abbrev pub AsksRightly : PureInference → Type 0
  AsksRightly = AllAre IsLeftOf (λ x. IsAskedAlong x ⊎ IsAskedFirst x)

  -- ---- runs along paths

  -- Some run without a draw comes to the command of the last step of the path, by its choices, or all but the last: where the path is unknown,
  -- that is the command of the place; and where it is cut, that of its first frame. Where the path has another end, a run along the whole path
  -- ends as it does. Each condition of the path is one of those with which it began, or own to a command on its way.
  pub record IsRunAlong (path : PurePath S) (way : IsWay path) : Type 0 where
    pub traced : Each (IsTraced p m stands terms asked way.explored.start (on_way path way)) path.conds
    pub state : State
    pub come : IsComeTo p memory m q.name n path.choices state
    pub unknown_there : (place : Place) (reason : Reason) → path.ending ≡ Some (unknown place reason) → StandsThere p state place
    pub cut_there : (place : Place) → path.ending ≡ Some cut → IsPlaceOf p path.stack place → StandsThere p state place
    pub ends : (how : PureEnd) → path.ending ≡ Some how → IsKnownEnd how → (how ≡ cut) ⊎ IsEndedSo p memory m q.name n path.choices how

  -- it is asked along a path, or of a beginning that comes of one, and along that path comes a run
  abbrev pub IsAskedOfRun : PureAsked → Type 0
  IsAskedOfRun x =
      ((along : IsAskedAlong x) × IsRunAlong along.path along.way)
      ⊎ ((first : IsAskedFirst x) × IsRunAlong first.again.path first.again.way)

  -- ---- narrow commands

  -- some command on the way of the path isn't of narrow form
  abbrev pub MeetsOther : List (PurePath S) → Type 0
  MeetsOther earlier =
      OneOf (λ (path : PurePath S). (c : PureNumberedCommand) × ((command_of_path p path ≡ Some c) × (is_narrow_command c.command ≡ false))) earlier

  -- Such a command stands on the way of the path that missed the key which the beginning fixes last, or of one of those that missed the keys
  -- which it fixes besides.
  pub data IsOtherBegun : PureBeginning → Type 0 where
    last_way : {b : PureBeginning} (path : PurePath S) (way : IsWay path) → ComesOf path b → MeetsOther (on_way path way) → IsOtherBegun b
    earlier_way : {a b : PureBeginning} (path : PurePath S) (way : IsWay path) → ComesOf path b → BeginsExactly stands a way.explored.start
        → IsOtherBegun a → IsOtherBegun b

  -- It is asked along a path, on whose way some command isn't of narrow form, or that came of such a beginning; or it is asked of such a
  -- beginning.
  pub record IsOtherAlong (x : PureAsked) : Type 0 where
    pub path : PurePath S
    pub way : IsWay path
    pub asks : IsAskedOf path x p q
    pub other : MeetsOther (on_way path way) ⊎ ((a : PureBeginning) × (BeginsExactly stands a way.explored.start × IsOtherBegun a))

  pub record IsOtherFirst (x : PureAsked) : Type 0 where
    pub beginning : PureBeginning
    pub other : IsOtherBegun beginning
    pub asks : IsAskedThere stands terms kept q.params beginning x.place x.choices x.vars x.given x.conds

  abbrev pub IsOtherAsked : PureAsked → Type 0
  IsOtherAsked x = IsOtherAlong x ⊎ IsOtherFirst x

  -- each beginning that is left is narrow, or such a one; and what is left undecided is asked so
  abbrev pub AsksOthers : PureInference → Type 0
  AsksOthers = AllAre (λ b. IsNarrowLeft q n b ⊎ IsOtherBegun b) IsOtherAsked

  -- it is asked so, and along that path, or the one of which the beginning comes, comes a run
  abbrev pub IsOtherOfRun : PureAsked → Type 0
  IsOtherOfRun x =
      ((along : IsOtherAlong x) × IsRunAlong along.path along.way)
      ⊎ ((first : IsOtherFirst x) × ((again : IsBegunAgain first.beginning) × IsRunAlong again.path again.way))
