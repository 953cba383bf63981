-- What a verdict promises: a bug, clean, or undecided. Bugs and clean are those of Gillian, Part I (PLDI 2020).
use Rattle.std.specs.Prelude.{◌≡◌, ◌⊎◌, ℕ, suc, ◌<◌, ◌≤◌, ◌^◌, pos, neg_ℤ, List, [], ◌∷◌, ◌++◌, length, Bool, true, false, not, ◌&&◌, ◌||◌, Option, Some, IsTrue, ⊤}
use Rattle.std.specs.FinMap.{empty}
use Rattle.std.specs.List.{list_all}
use Rattle.gil_values.specs.declared.places.Place.{Place}
use Rattle.gil_values.specs.Pure.{PureValue}
use Rattle.gil_syntax.specs.Pure.{PureParts, PureCommand, PureNumberedCommand}
use Rattle.gil_syntax.specs.Simple.{is_simple_command}
use Rattle.gil_machine.specs.Choices.{choices, with_choice}
use Rattle.gil_machine.specs.Run.{reached, start, test_run, IsEntry, IsBug, IsClean}
use Rattle.gil_machine.specs.State.{State, End, failed, told, IsFailed, ends}
use Rattle.gil_machine.specs.Step.{command_at, step}
use Rattle.mem_model.specs.Actions.{Actions}
use Rattle.mem_model.specs.Heaps.{Heap}
use Rattle.pure_terms.specs.declared.deciders.Reason.{Reason}
use Rattle.pure_terms.specs.Deciding.{has_moderate_numbers}
use Rattle.pure_terms.specs.Fragment.{is_simple, has_literals_between, has_fragment_form, has_narrow_literals, InFragment}
use Rattle.pure_terms.specs.Meaning.{value, all_true}
use Rattle.pure_terms.specs.Pure.{PureTerm, PureAtom, opening}
use Rattle.pure_terms.specs.Wide.{has_wide_part}
use Rattle.sym_engine.specs.Lawful.{IsOwnAt}
use Rattle.sym_step.specs.Plain.{EachStep}
use Rattle.sym_step.specs.Trails.{IsNextPath, IsTrail, IsAssumedOn}
use Rattle.sym_model.specs.Lists.{Each, OneOf}
use Rattle.sym_model.specs.Meaning.{has_open}
use Rattle.sym_model.specs.Terms.{StateTerms}
use Rattle.sym_paths.specs.Forms.{NeedsWhatMatters}
use Rattle.sym_paths.specs.Meaning.{command_of_path, EndsAt, IsFirstPath}
use Rattle.sym_paths.specs.Origins.{IsFailing, IsThrown}
use Rattle.sym_paths.specs.Pure.{PureEnd, PurePath}
use Rattle.sym_paths.specs.Steps.{place_of, IsFirstOutside, MayChoose}
use Rattle.sym_test.specs.Bugs.{failure, IsFound}
use Rattle.sym_test.specs.Canonical.{HaveValuation, IsCanonical}
use Rattle.sym_test.specs.View.{PureQuery, PureVerdict, bug, clean, unknown}

-- ---- runs

-- the state in which a test begins
abbrev pub first_state : PureParts → List ℕ → State
first_state p f = start p f [] empty 0

module _ (p : PureParts) (m : Actions) (f : List ℕ) where
  -- after exactly k steps the run stands at this command
  pub record StandsAtCommand (inputs : List PureValue) (k : ℕ) (state : State) (c : PureNumberedCommand) : Type 0 where
    pub comes : reached p m inputs k (first_state p f) ≡ Some state
    pub at : command_at p state.current ≡ Some c

  -- After exactly k steps the run stands at the command of the place, and has made the choices, or all of them but the last, which is one
  -- that the command has.
  pub record ComesAlong (inputs : List PureValue) (k : ℕ) (place : Place) (path : List ℕ) : Type 0 where
    pub state : State
    pub command : PureNumberedCommand
    pub stands : StandsAtCommand inputs k state command
    pub at_place : place ≡ record { proc = state.current.procedure; at = command.at }
    pub last : Option ℕ
    pub may : MayChoose command.command last
    pub chosen : path ≡ choices p m inputs k (first_state p f) ++ with_choice last []

  -- the run does k steps, and with the choice of the command at which it stands then, if it makes one, these are its choices
  pub record IsAlong (inputs : List PureValue) (k : ℕ) (path : List ℕ) : Type 0 where
    pub state : State
    pub comes : reached p m inputs k (first_state p f) ≡ Some state
    pub chosen : choices p m inputs (suc k) (first_state p f) ≡ path

  -- one of the commands at which the run stands after at most k steps isn't of simple form
  pub record MeetsOther (inputs : List PureValue) (k : ℕ) : Type 0 where
    pub steps : ℕ
    pub within : steps ≤ k
    pub state : State
    pub command : PureNumberedCommand
    pub stands : StandsAtCommand inputs steps state command
    pub other : is_simple_command command.command ≡ false

  -- within the bound the run fails, and each command at which it stands is of simple form
  pub record FailsSimply (inputs : List PureValue) (n : ℕ) : Type 0 where
    pub fails : IsFailed (test_run p m f inputs n).ending
    pub simple : (k : ℕ) (state : State) (c : PureNumberedCommand) → StandsAtCommand inputs k state c → IsTrue (is_simple_command c.command)

-- ---- where atoms come from

-- a simple term with Int literals from -2^80 to 2^80
abbrev pub is_narrow_term : PureTerm → Bool
is_narrow_term t = is_simple t && has_literals_between (neg_ℤ (pos (2 ^ 80))) (pos (2 ^ 80)) t

-- the term with which a path fails at this command, or which it throws
abbrev pub IsFailingBy : {S : Type 0} → Bool → Actions → (S → StateTerms) → PurePath S → PureCommand → PureTerm → Type 0
IsFailingBy false m terms path c t = IsFailing m terms path c t
IsFailingBy true m terms path c t = IsThrown m terms path c t

module _ {S : Type 0} (p : PureParts) (m : Actions) (stands : S → List PureValue → Heap → Type 0) (terms : S → StateTerms)
    (asked : List ℕ → List PureTerm → List PureTerm × List PureTerm) (depends : S → List ℕ → List PureTerm → List PureValue → Heap → PureTerm → Type 0)
    (f : List ℕ) where
  -- The way of a query: k steps from the first path of the test lead to a path, and one more to the next path, which ends at the query's
  -- place, and whose variables and choices are the query's, as is what it assumes. At the actions on the way only literal forms are
  -- needed that matter to them.
  pub record IsWay (q : PureQuery) (k : ℕ) : Type 0 where
    pub start : PurePath S
    pub first : IsFirstPath stands terms f start
    pub earlier : List (PurePath S)
    pub last : PurePath S
    pub trail : IsTrail p m stands terms asked start earlier last
    pub steps : length earlier ≡ k
    pub next : PurePath S
    pub leads : IsNextPath p m stands terms asked last next
    pub how : PureEnd
    pub ending : next.ending ≡ Some how
    pub ends_there : EndsAt q.place how
    pub vars : q.vars ≡ next.vars
    pub choices : q.path ≡ next.choices
    pub given : q.given ≡ next.given
    pub forms : EachStep (NeedsWhatMatters p stands depends) (last ∷ earlier) next

  module _ (q : PureQuery) (k : ℕ) (way : IsWay q k) where
    -- Traced: the atom is own to a command of the way.
    abbrev pub IsTraced : PureAtom → Type 0
    IsTraced a = OneOf (λ path. IsOwnAt stands terms asked m p path a) (way.last ∷ way.earlier)

    -- the last command of the way may assume the atom, or the memory in an action before it
    abbrev pub IsAssumed : PureAtom → Type 0
    IsAssumed a = IsAssumedOn p m stands terms asked (way.last ∷ way.earlier) a

    -- The atom is that a failing value has its literal form. The next path fails at the place with the term of the expression of
    -- `fail`, or an action's answer, or throws that of `throw`; runs along the path fail there with its value; it isn't simple with narrow literals, and has a part
    -- which leaves 128 bits under a canonical valuation that meets the other conditions; these are in the fragment, and the valuation has
    -- numbers as a decider gives them there.
    pub record IsWideFailure (a : PureAtom) : Type 0 where
      pub term : PureTerm
      pub asks : a ≡ opening term
      pub thrown : Bool
      pub ending : way.next.ending ≡ Some (failure thrown term q.place)
      pub command : PureNumberedCommand
      pub at : command_of_path p way.last ≡ Some command
      pub from : IsFailingBy thrown m terms way.last command.command term
      pub fails : (inputs v : List PureValue) (s : State) → HaveValuation q.vars inputs v → IsTrue (all_true v q.query)
          → (reached p m inputs k (first_state p f) ≡ Some s)
          → (w : PureValue) × ((e : End) × ((value v term ≡ Some w) × (step p m inputs s ≡ ends e) × (told e.ending ≡ failed w q.place)))
      pub not_narrow : is_narrow_term term ≡ false
      pub inside : InFragment way.next.conds
      pub met : List PureValue
      pub canonical : IsCanonical q.vars way.next.conds met
      pub moderate : IsTrue (list_all has_moderate_numbers met)
      pub wide : IsTrue (has_wide_part met term)

    -- what is asked are the conditions of the next path, and maybe that a failing value has its literal form
    abbrev pub AsksAlong : Type 0
    AsksAlong =
        (q.query ≡ way.next.conds)
        ⊎ ((a : PureAtom) × ((q.query ≡ way.next.conds ++ a ∷ []) × IsWideFailure a))

-- the atom has no form of the fragment, or a literal outside its range
abbrev pub keeps_out : PureAtom → Bool
keeps_out a = not (has_fragment_form a) || not (has_narrow_literals a)

-- ---- undecided

-- the list isn't in the fragment, and this is the place of its first atom that by itself isn't
abbrev pub IsOutsideAt : List PureAtom → ℕ → Type 0
IsOutsideAt atoms i = (¬ InFragment atoms) × ((reason : Reason) × (IsFirstOutside atoms reason × (place_of reason ≡ i)))

-- Undecided: after exactly k steps, fewer than the bound, some run stands at the place along the path.
--   come: so no place or path is invented;
--   not_simple: so no program is left undecided whose commands are all of simple form;
--   given_suffices and leads: of runs that meet what is assumed, those along the path meet what is asked, and where no literal form is
--     asked no others do;
--   way: so each term comes from the commands on the way, and only parts of a guard may be replaced, which by themselves are no atoms of
--     the fragment and may be booleans; and no action needs a literal form on which what it comes to doesn't depend, wherever the
--     conditions are met;
--   asks and conds_traced: so no atom is asked that no command asks;
--   given_allowed: so nothing is assumed but what the last command may assume, or the memory in an action before it;
--   outside: so no list is handed out that every decider decides.
pub record IsUndecided {S : Type 0} (p : PureParts) (m : Actions) (stands : S → List PureValue → Heap → Type 0) (terms : S → StateTerms)
    (asked : List ℕ → List PureTerm → List PureTerm × List PureTerm) (depends : S → List ℕ → List PureTerm → List PureValue → Heap → PureTerm → Type 0)
    (keeps_plain : Type 0) (f : List ℕ) (n : ℕ) (q : PureQuery) : Type 0 where
  pub entry : IsEntry p f
  pub k : ℕ
  pub within : k < n
  pub inputs : List PureValue
  pub come : ComesAlong p m f inputs k q.place q.path
  pub not_simple : keeps_plain → MeetsOther p m f inputs k
  pub given_suffices : (inputs v : List PureValue) → HaveValuation q.vars inputs v → IsAlong p m f inputs k q.path
      → IsTrue (all_true v q.given) → IsTrue (all_true v q.query)
  pub leads : has_open q.query ≡ false → (inputs v : List PureValue) → HaveValuation q.vars inputs v → IsTrue (all_true v q.given)
      → IsTrue (all_true v q.query) → IsAlong p m f inputs k q.path
  pub way : IsWay p m stands terms asked depends f q k
  pub asks : AsksAlong p m stands terms asked depends f q k way
  pub conds_traced : Each (IsTraced p m stands terms asked depends f q k way) way.next.conds
  pub given_allowed : Each (IsAssumed p m stands terms asked depends f q k way) q.given
  pub outside : IsOutsideAt q.query q.outside

-- ---- verdicts

-- A bug is one, and comes from a path of the test; clean is clean for all inputs; and what is unknown is undecided.
abbrev pub IsRightVerdict : {S : Type 0} → PureParts → Actions → (S → List PureValue → Heap → Type 0) → (S → StateTerms)
    → (List ℕ → List PureTerm → List PureTerm × List PureTerm) → (S → List ℕ → List PureTerm → List PureValue → Heap → PureTerm → Type 0) → Type 0
    → List ℕ → ℕ → PureVerdict → Type 0
IsRightVerdict p m stands terms asked depends keeps_plain f n (bug place w inputs) =
    IsBug p m f n inputs w place × IsFound p m stands terms asked depends f n place w inputs
IsRightVerdict p m stands terms asked depends keeps_plain f n clean = IsClean p m f n
IsRightVerdict p m stands terms asked depends keeps_plain f n (unknown q) = IsUndecided p m stands terms asked depends keeps_plain f n q

-- Decided: in a simple program nothing is left unknown, and a bug is answered wherever some inputs fail by commands of simple form alone.
abbrev pub IsUnknownVerdict : PureVerdict → Type 0
IsUnknownVerdict (unknown q) = ⊤
IsUnknownVerdict _ = ⊥

abbrev pub IsBugVerdict : PureVerdict → Type 0
IsBugVerdict (bug place w inputs) = ⊤
IsBugVerdict _ = ⊥
