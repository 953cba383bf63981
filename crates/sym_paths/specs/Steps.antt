-- What a step of a path must do: the laws of the paths that it answers, of which each extends the old one.
use Rattle.std.specs.Prelude.{◌≡◌, ◌⊎◌, ℕ, suc, ◌+◌, ◌<◌, ◌≤◌, ◌^◌, ℤ, pos, neg_ℤ, ◌≤ℤ◌, List, [], ◌∷◌, ◌++◌, length, slice_get, Bool, true, false, Option, Some, None, IsTrue, ⊤}
use Rattle.std.specs.Option.{is_some}
use Rattle.gil_values.specs.declared.places.Place.{Place}
use Rattle.gil_values.specs.Pure.{PureValue, symbol}
use Rattle.gil_syntax.specs.Pure.{PureParts, PureCommand, assign, call, act, usym, isym, ifgoto, return, fail, throw, vanish, fold_use, unfold_use, assert_that, loop_invariant, PureNumberedCommand}
use Rattle.gil_machine.specs.Choices.{choice_at, with_choice}
use Rattle.gil_machine.specs.State.{State, Ending, no_input, bad_input, Step, goes_on, ends}
use Rattle.gil_machine.specs.State as machine
use Rattle.gil_machine.specs.Step.{step}
use Rattle.mem_model.specs.Actions.{Actions}
use Rattle.mem_model.specs.Heaps.{Heap}
use Rattle.pure_terms.specs.declared.deciders.Reason.{Reason}
use Rattle.pure_terms.specs.declared.variables.Sort.{Sort}
use Rattle.pure_terms.specs.Deciding.{IsReason}
use Rattle.pure_terms.specs.Fragment.{InFragment}
use Rattle.pure_terms.specs.Meaning.{all_true, Satisfies}
use Rattle.pure_terms.specs.Pure.{PureTerm, variable, PureAtom}
use Rattle.sym_evaluation.specs.Pure.{PureStore}
use Rattle.sym_evaluation.specs.Questions.{IsAsked, IsGuardTerm, AsksBoolean}
use Rattle.sym_model.specs.Laws.{IsPlainWithin, IsDecidedWithin}
use Rattle.sym_model.specs.Lists.{Each, OneOf, IsAmong}
use Rattle.sym_model.specs.Meaning.{has_open}
use Rattle.sym_model.specs.Terms.{StateTerms}
use Rattle.sym_paths.specs.Meaning.{StandsForStep, Stands, OfEachName, IsOverTable, end_terms, command_of_frames, command_of_path}
use Rattle.sym_paths.specs.Frames.{running_store, draw_sort, taken, drawn_by}
use Rattle.sym_paths.specs.Origins.{Follows}
use Rattle.sym_paths.specs.Pure.{PureFrame, PureEnd, returned, failed, threw, missed, vanished, cut, unknown, PurePath}

-- ---- new variables

-- the value of a new variable where the counter is n and d inputs are drawn: a fresh variable has the next symbol, and any other one
-- is a draw and has the next input
abbrev pub IsNext : List PureValue → ℕ → ℕ → Sort → PureValue → Type 0
IsNext inputs n d Sort.Fresh w = w ≡ symbol n
IsNext inputs n d sort w = slice_get inputs d ≡ Some w

-- the counter, and the number of draws, after a new variable
abbrev pub counter_after : Sort → ℕ → ℕ
counter_after Sort.Fresh n = suc n
counter_after sort n = n

abbrev pub draws_after : Sort → ℕ → ℕ
draws_after Sort.Fresh d = d
draws_after sort d = suc d

-- the same of several new variables
abbrev pub AreNext : List PureValue → ℕ → ℕ → List Sort → List PureValue → Type 0
AreNext inputs n d [] [] = ⊤
AreNext inputs n d (sort ∷ sorts) (w ∷ ws) =
    IsNext inputs n d sort w × AreNext inputs (counter_after sort n) (draws_after sort d) sorts ws
AreNext inputs n d _ _ = ⊥

abbrev pub counter_past : List Sort → ℕ → ℕ
counter_past [] n = n
counter_past (sort ∷ sorts) n = counter_past sorts (counter_after sort n)

abbrev pub draws_past : List Sort → ℕ → ℕ
draws_past [] d = d
draws_past (sort ∷ sorts) d = draws_past sorts (draws_after sort d)

-- the draws among new variables, of which the first has the number k
abbrev pub drawn_and : ℕ → Sort → List PureTerm → List PureTerm
drawn_and k Sort.Fresh later = later
drawn_and k sort later = variable (record { number = k; sort = sort }) ∷ later

abbrev pub drawn_from : ℕ → List Sort → List PureTerm
drawn_from k [] = []
drawn_from k (sort ∷ sorts) = drawn_and k sort (drawn_from (suc k) sorts)

-- From the state, the valuation w extends v by the variables that the next path has more than the old one.
pub record Extends {S : Type 0} (inputs : List PureValue) (s : State) (path next : PurePath S) (v w : List PureValue) : Type 0 where
  pub new_vars : List Sort
  pub new_values : List PureValue
  pub vars : next.vars ≡ path.vars ++ new_vars
  pub values : w ≡ v ++ new_values
  pub in_turn : AreNext inputs s.counter s.draws new_vars new_values

-- ---- words

-- the sorts of new variables: fresh, and those of draws
abbrev pub IsNewSort : Sort → Type 0
IsNewSort Sort.Fresh = ⊤
IsNewSort Sort.Int = ⊤
IsNewSort Sort.Bool = ⊤
IsNewSort Sort.Str = ⊤
IsNewSort sort = ⊥

abbrev pub IsInputFault : Ending → Type 0
IsInputFault (no_input k) = ⊤
IsInputFault (bad_input k) = ⊤
IsInputFault (machine.returned v) = ⊥
IsInputFault (machine.failed v place) = ⊥
IsInputFault (machine.threw v place) = ⊥
IsInputFault machine.vanished = ⊥
IsInputFault machine.cut = ⊥

-- the step doesn't end for want of a fitting input
abbrev pub HasInput : Step → Type 0
HasInput (goes_on s) = ⊤
HasInput (ends e) = ¬ IsInputFault e.ending

abbrev pub IsUnknown : Option PureEnd → Type 0
IsUnknown (Some (unknown place reason)) = ⊤
IsUnknown (Some (returned t)) = ⊥
IsUnknown (Some (failed t place)) = ⊥
IsUnknown (Some (threw t place)) = ⊥
IsUnknown (Some (missed k place)) = ⊥
IsUnknown (Some vanished) = ⊥
IsUnknown (Some cut) = ⊥
IsUnknown None = ⊥

-- where the path has no end, the step goes on
abbrev pub GoesOnAs : Option PureEnd → Step → Type 0
GoesOnAs None (goes_on s) = ⊤
GoesOnAs None (ends e) = ⊥
GoesOnAs (Some how) r = ⊤

-- the choice that the next path has more than the old one
abbrev pub IsChosen : {S : Type 0} → PurePath S → PurePath S → Option ℕ → Type 0
IsChosen path next chosen = next.choices ≡ path.choices ++ with_choice chosen []

-- how many of the variables are fresh
abbrev pub fresh_count : List Sort → ℕ
fresh_count vars = counter_past vars 0

-- the sorts of the variables that a command adds: one for a symbol that it takes, and one for a draw
abbrev pub new_sorts : Actions → PureCommand → List Sort
new_sorts m (usym x) = Sort.Fresh ∷ []
new_sorts m (isym x k) = drawn_by (draw_sort k)
new_sorts m (act x action es) = taken (m.takes_symbol action)
new_sorts m (assign x e) = []
new_sorts m (call x e es handler) = []
new_sorts m (ifgoto e i) = []
new_sorts m (return e) = []
new_sorts m (fail e) = []
new_sorts m (throw e) = []
new_sorts m vanish = []
new_sorts m (fold_use u) = []
new_sorts m (unfold_use u) = []
new_sorts m (assert_that items) = []
new_sorts m (loop_invariant xs ps items) = []

-- choices are made at guards and at actions
abbrev pub makes_choice : PureCommand → Bool
makes_choice (ifgoto e i) = true
makes_choice (act x action es) = true
makes_choice (assign x e) = false
makes_choice (call x e es handler) = false
makes_choice (usym x) = false
makes_choice (isym x k) = false
makes_choice (return e) = false
makes_choice (fail e) = false
makes_choice (throw e) = false
makes_choice vanish = false
makes_choice (fold_use u) = false
makes_choice (unfold_use u) = false
makes_choice (assert_that items) = false
makes_choice (loop_invariant xs ps items) = false

-- how many choices a command has: a guard is false or true, and an action is done, fails, or misses a key
abbrev pub choice_count : PureCommand → ℕ
choice_count (ifgoto e i) = 2
choice_count (act x action es) = 3
choice_count (assign x e) = 0
choice_count (call x e es handler) = 0
choice_count (usym x) = 0
choice_count (isym x k) = 0
choice_count (return e) = 0
choice_count (fail e) = 0
choice_count (throw e) = 0
choice_count vanish = 0
choice_count (fold_use u) = 0
choice_count (unfold_use u) = 0
choice_count (assert_that items) = 0
choice_count (loop_invariant xs ps items) = 0

-- no choice, or one of the command's
abbrev pub MayChoose : PureCommand → Option ℕ → Type 0
MayChoose k chosen = (n : ℕ) → chosen ≡ Some n → n < choice_count k

abbrev pub place_of : Reason → ℕ
place_of (Reason.Atom i) = i
place_of (Reason.Number i) = i

-- the reason names the first atom that isn't in the fragment by itself
pub record IsFirstOutside (atoms : List PureAtom) (reason : Reason) : Type 0 where
  pub named : IsReason atoms reason
  pub those_before : (i : ℕ) (a : PureAtom) → i < place_of reason → slice_get atoms i ≡ Some a → InFragment (a ∷ [])

-- the place of the command at which the first frame stands
abbrev pub IsPlaceOf : PureParts → List PureFrame → Place → Type 0
IsPlaceOf p [] place = ⊥
IsPlaceOf p (f ∷ fs) place =
    (c : PureNumberedCommand) × ((command_of_frames p (f ∷ fs) ≡ Some c) × (place ≡ record { proc = f.procedure; at = c.at }))

-- The next path has a condition more than the old one, where the old one needs no literal form.
abbrev pub AsksMore : {S : Type 0} → PurePath S → PurePath S → Type 0
AsksMore path next = has_open path.conds ≡ false → length path.conds < length next.conds

-- an unknown path's list isn't in the fragment, its end names the command and the first atom outside, and its last step asked something
abbrev pub IsRightlyUnknown : {S : Type 0} → PureParts → PurePath S → PurePath S → Option PureEnd → Type 0
IsRightlyUnknown p path next (Some (unknown place reason)) =
    (¬ InFragment next.conds) × IsFirstOutside next.conds reason × IsPlaceOf p path.stack place × AsksMore path next
IsRightlyUnknown p path next (Some (returned t)) = ⊤
IsRightlyUnknown p path next (Some (failed t place)) = ⊤
IsRightlyUnknown p path next (Some (threw t place)) = ⊤
IsRightlyUnknown p path next (Some (missed k place)) = ⊤
IsRightlyUnknown p path next (Some vanished) = ⊤
IsRightlyUnknown p path next (Some cut) = ⊤
IsRightlyUnknown p path next None = ⊤

-- by how much the numbers of a path may grow in one step
abbrev pub step_growth : ℕ
step_growth = 2 ^ 63 + 10000

-- the numbers of the fragment lie from -2^80 to 2^80
abbrev pub narrow_bound : ℕ
narrow_bound = 2 ^ 80

-- ---- the laws

-- Growth: everything is extended at its end; the draws that are listed are the new variables that are no fresh ones; what is newly
-- assumed is among the conditions.
pub record Grows {S : Type 0} (terms : S → StateTerms) (path next : PurePath S) : Type 0 where
  pub new_vars : List Sort
  pub vars : next.vars ≡ path.vars ++ new_vars
  pub sorts : Each IsNewSort new_vars
  pub drawn : next.drawn ≡ path.drawn ++ drawn_from (length path.vars) new_vars
  pub new_conds : List PureAtom
  pub conds : next.conds ≡ path.conds ++ new_conds
  pub new_given : List PureAtom
  pub given : next.given ≡ path.given ++ new_given
  pub assumed : Each (λ a. IsAmong a next.conds) new_given
  pub chosen : Option ℕ
  pub choices : IsChosen path next chosen
  pub steps : next.steps ≡ path.steps + 1
  pub over : IsOverTable terms next

-- Record: a path that goes on has the command's new variables. A path that ends has these or none. A path that goes on, or is the first to
-- need a literal form, has a choice more exactly where the command makes one; any other one has at most one choice more, which is one of
-- the command's.
pub record IsRecorded {S : Type 0} (p : PureParts) (m : Actions) (path next : PurePath S) : Type 0 where
  pub variables : (c : PureNumberedCommand) → command_of_path p path ≡ Some c
      → (next.vars ≡ path.vars ++ new_sorts m c.command) ⊎ ((next.vars ≡ path.vars) × ¬ (next.ending ≡ None))
  pub choice : (c : PureNumberedCommand) → command_of_path p path ≡ Some c
      → (chosen : Option ℕ) × (IsChosen path next chosen × MayChoose c.command chosen
      × ((next.ending ≡ None) ⊎ ((has_open path.conds ≡ false) × IsTrue (has_open next.conds)) → is_some chosen ≡ makes_choice c.command))

-- Own: each new condition is one that is the command's own.
pub record AddsOwn {S : Type 0} (own : PureAtom → Type 0) (path next : PurePath S) : Type 0 where
  pub added : List PureAtom
  pub conds : next.conds ≡ path.conds ++ added
  pub each : Each own added

-- What may be assumed at a command, where `own` are the conditions that are its own: at a guard what its expression asks, or that it is a
-- boolean, but never which way it goes; at a call what its expressions ask, but not that its callee has a literal form.
abbrev pub MayAssume : (PureAtom → Type 0) → PureStore → PureCommand → PureAtom → Type 0
MayAssume own bs (ifgoto e i) a = IsAsked bs e a ⊎ ((t : PureTerm) × (IsGuardTerm bs e t × AsksBoolean t a))
MayAssume own bs (call x e es handler) a = IsAsked bs e a ⊎ OneOf (λ d. IsAsked bs d a) es
MayAssume own bs (assign x e) a = own a
MayAssume own bs (act x action es) a = own a
MayAssume own bs (usym x) a = own a
MayAssume own bs (isym x k) a = own a
MayAssume own bs (return e) a = own a
MayAssume own bs (fail e) a = own a
MayAssume own bs (throw e) a = own a
MayAssume own bs vanish a = own a
MayAssume own bs (fold_use u) a = own a
MayAssume own bs (unfold_use u) a = own a
MayAssume own bs (assert_that items) a = own a
MayAssume own bs (loop_invariant xs ps items) a = own a

-- Assumed: what is newly assumed is what may be assumed at the command. Where the path goes on or has a choice more, it is what a memory
-- asks in an action: so nothing is at any other command.
pub record Assumes {S : Type 0} (p : PureParts) (own by_memory : PureAtom → Type 0) (path next : PurePath S) : Type 0 where
  pub added : List PureAtom
  pub given : next.given ≡ path.given ++ added
  pub each : (c : PureNumberedCommand) → command_of_path p path ≡ Some c
      → Each (MayAssume own (running_store path.stack) c.command) added
  pub kept : (next.ending ≡ None) ⊎ ¬ (next.choices ≡ path.choices) → Each by_memory added

module _ {S : Type 0} (p : PureParts) (m : Actions) (stands : S → List PureValue → Heap → Type 0) where
  -- Cover: what a state comes to that the path stands for, but for want of input, some answered path stands for, or is unknown with
  -- its whole list true.
  abbrev pub Covers : PurePath S → List (PurePath S) → Type 0
  Covers path nexts =
      (inputs v : List PureValue) (s : State) → Stands stands path v s → HasInput (step p m inputs s)
      → OneOf (λ next. (w : List PureValue) × (Extends inputs s path next v w
      × (StandsForStep p m stands next w s next.ending (step p m inputs s)
      ⊎ (IsUnknown next.ending × Satisfies next.vars w next.conds)))) nexts

  -- what an answered path says of a step from a state that the old path stands for
  abbrev pub IsStepOf : List PureValue → State → PurePath S → PurePath S → List PureValue → Type 0
  IsStepOf inputs s path next w =
      IsChosen path next (choice_at p m s) × StandsForStep p m stands next w s next.ending (step p m inputs s)

  -- Exactness: an answered path that isn't unknown, and whose conditions are met, stands for what the step comes to, with its choice.
  abbrev pub IsExact : PurePath S → PurePath S → Type 0
  IsExact path next =
      (inputs v w : List PureValue) (s : State) → Stands stands path v s → Extends inputs s path next v w → ¬ IsUnknown next.ending
      → Satisfies next.vars w next.conds → IsStepOf inputs s path next w

  -- Choice: where all conditions of an answered path are met, and none needs a literal form, the step makes its choice, whether the path
  -- is unknown or not.
  abbrev pub ChoosesAlike : PurePath S → PurePath S → Type 0
  ChoosesAlike path next =
      (inputs v w : List PureValue) (s : State) → Stands stands path v s → Extends inputs s path next v w → has_open next.conds ≡ false
      → Satisfies next.vars w next.conds → IsChosen path next (choice_at p m s)

  -- Along: where what is assumed is met, and the step makes the choice and goes on as the path does, all conditions are met.
  abbrev pub HoldsAlong : PurePath S → PurePath S → Type 0
  HoldsAlong path next =
      (inputs v w : List PureValue) (s : State) → Stands stands path v s → Extends inputs s path next v w
      → Satisfies next.vars w next.given → IsChosen path next (choice_at p m s) → GoesOnAs next.ending (step p m inputs s)
      → IsTrue (all_true w next.conds)

-- Known: a next path that isn't unknown needs no literal form, where the old one needs none.
abbrev pub NeedsNoForm : {S : Type 0} → PurePath S → PurePath S → Type 0
NeedsNoForm path next = has_open path.conds ≡ false → ¬ IsUnknown next.ending → has_open next.conds ≡ false

-- Satisfiable: where some valuation met the old conditions, some meets those of a next path that isn't unknown.
abbrev pub StaysSatisfiable : {S : Type 0} → PurePath S → PurePath S → Type 0
StaysSatisfiable path next =
    (v : List PureValue) → Satisfies path.vars v path.conds → ¬ IsUnknown next.ending
    → (w : List PureValue) × Satisfies next.vars w next.conds

-- The paths are those of one step, where `own` says which conditions are the command's own, and `by_memory` which ones a memory asks in
-- it, if it is an action.
pub record AreNextPaths {S : Type 0} (p : PureParts) (m : Actions) (stands : S → List PureValue → Heap → Type 0) (terms : S → StateTerms)
    (own by_memory : PureAtom → Type 0) (path : PurePath S) (nexts : List (PurePath S)) : Type 0 where
  pub growth : Each (Grows terms path) nexts
  pub recorded : Each (IsRecorded p m path) nexts
  pub cover : Covers p m stands path nexts
  pub exact : Each (IsExact p m stands path) nexts
  pub choices : Each (ChoosesAlike p m stands path) nexts
  pub along : Each (HoldsAlong p m stands path) nexts
  pub own_conditions : Each (AddsOwn own path) nexts
  pub assumes : Each (Assumes p own by_memory path) nexts
  pub origin : Each (Follows p m terms path) nexts
  pub no_form : Each (NeedsNoForm path) nexts
  pub satisfiable : Each (StaysSatisfiable path) nexts
  pub unknown_rightly : Each (λ next. IsRightlyUnknown p path next next.ending) nexts

-- ---- commands that keep paths in the fragment

-- A path that is plain with numbers from -b to b: its terms are plain, those of its end too, its memory is plain within these and all
-- wider bounds, its conditions have forms of the fragment, and it has at most one variable for each of its steps beside the 2^39 with which
-- it may have begun: after 10,000 steps they are still fewer than the 2^40 of the fragment.
pub record IsPlainPath {S : Type 0} (plain : S → ℤ → ℤ → Type 0) (b : ℕ) (path : PurePath S) : Type 0 where
  pub stores : Each (λ f. OfEachName (IsPlainWithin (neg_ℤ (pos b)) (pos b)) f.store) path.stack
  pub memory : (low high : ℤ) → low ≤ℤ neg_ℤ (pos b) → pos b ≤ℤ high → plain path.memory low high
  pub conds : Each (IsDecidedWithin (neg_ℤ (pos b)) (pos b)) path.conds
  pub ending : Each (IsPlainWithin (neg_ℤ (pos b)) (pos b)) (end_terms path.ending)
  pub few_variables : length path.vars ≤ path.steps + 2 ^ 39

-- Simple: at a command of the class, a path that is kept with numbers up to b leads to paths that are kept with larger ones, of which
-- none is unknown, as long as those are numbers of the fragment.
abbrev pub StaysWithin : {S : Type 0} → PureParts → (PureCommand → Type 0) → (ℕ → PurePath S → Type 0) → PurePath S
    → List (PurePath S) → Type 0
StaysWithin p class keeps path nexts =
    (c : PureNumberedCommand) (b : ℕ) → command_of_path p path ≡ Some c → class c.command → b + step_growth ≤ narrow_bound
    → keeps b path → Each (λ next. keeps (b + step_growth) next × ¬ IsUnknown next.ending) nexts
