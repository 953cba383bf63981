-- Checked states and their steps: runs of a procedure that take only what its specification's precondition gives, call others by
-- their specifications, and go through each loop once. Verification by matching assertions is that of Gillian, Part II (CAV 2021).
use Rattle.std.specs.Prelude.{◌≡◌, ◌⊎◌, ℕ, ◌+◌, ◌-◌, ◌≤◌, zero, suc, List, [], ◌∷◌, ◌++◌, map, drop, length, Bool, true, false, not, ◌&&◌, nat_lt, nat_eq, if◌then◌else◌, Option, Some, None, Ok, IsTrue, is_some, slice_get}
use Rattle.std.specs.List.{list_all, list_any, filter, All}
use Rattle.std.specs.FinMap.{len}
use Rattle.gil_values.specs.declared.kinds.Kind.{Kind}
use Rattle.gil_values.specs.declared.places.Place.{Place}
use Rattle.gil_values.specs.Pure.{PureValue, kind_of}
use Rattle.gil_values.specs.Equality.{same_kind, same_value}
use Rattle.gil_values.specs.Symbols.{AreBelow}
use Rattle.gil_syntax.specs.declared.assertions.Param.{Param}
use Rattle.gil_syntax.specs.Pure.{PureItem, PureCommand, call, isym, fold_use, unfold_use, assert_that, loop_invariant, PureNumberedCommand, PureSpec, PurePredDef, PureParts}
use Rattle.gil_syntax.specs.Programs.{find_spec, find_pred}
use Rattle.gil_syntax.specs.Evaluation.{Store, bind, value_of, Agrees, Outcomes, evaluate_all}
use Rattle.gil_syntax.specs.Valid.{param_names, is_among}
use Rattle.mem_model.specs.declared.cores.Core.{Core}
use Rattle.mem_model.specs.declared.keys.Key.{Key}
use Rattle.mem_model.specs.declared.keys.MemoryName.{MemoryName}
use Rattle.mem_model.specs.Actions.{Actions}
use Rattle.mem_model.specs.CoreNames.{core_of}
use Rattle.mem_model.specs.Heaps.{IsHeapBelow}
use Rattle.gil_machine.specs.Choices.{miss_at}
use Rattle.gil_machine.specs.Proper.{IsFrameBelow, IsStoreBelow}
use Rattle.gil_machine.specs.Run.{start}
use Rattle.gil_machine.specs.State.{Frame, State, Ending, returned, threw, failed, Step, goes_on, ends}
use Rattle.gil_machine.specs.Step.{command_at, handling, throw_to, leave, to_next, assigned, do_command, step}
use Rattle.assert_logic.specs.Adding.{IsAdding}
use Rattle.assert_logic.specs.LogicStates.{Fact, LogicState, nothing}
use Rattle.assert_logic.specs.Matching.{Match, Matching, matched, stops, CaseMatch, FoundFact, match_assertion, match_fold, first_fact, fits_fact, scope_of}
use Rattle.assert_logic.specs.Sorts.{has_sort, HasSorts, Extends}
use Rattle.checked_runs.specs.Specifications.{fit_params, IsEntry, entry_store, result_name, IsPostStore}

-- ---- states

-- an invariant that a frame passed: the index of its command, what it left of the state, and the values of the variables that it
-- doesn't list
pub record Passed : Type 0 where
  pub at : ℕ
  pub remainder : LogicState
  pub unlisted : Store

-- A state of the machine with its heap beside facts, and for each frame, the latest first, the invariants that it passed.
pub record Checked : Type 0 where
  pub machine : State
  pub facts : List Fact
  pub passed : List (List Passed)

pub data Fault : Type 0 where
  fails : PureValue → Fault
  missing : Fault
  post : Fault
  invariant : Fault
  call_precondition : Fault
  fold_body : Fault

-- what a step leads to: a further state, the end of what is to be looked at, or a fault
pub data Outcome : Type 0 where
  goes_on_to : Checked → Outcome
  is_over : Outcome
  has_fault : Fault → Outcome

abbrev pub logic_state : Checked → LogicState
logic_state c = record { heap = c.machine.heap; facts = c.facts }

-- the machine's state with another heap, and the checked state with another logic state and counter
abbrev pub with_logic : LogicState → ℕ → Checked → Checked
with_logic s counter c = record c { machine = record c.machine { heap = s.heap; counter = counter }; facts = s.facts }

-- a fact's values are below the counter
abbrev pub IsFactBelow : ℕ → Fact → Type 0
IsFactBelow counter f = AreBelow counter f.ins × AreBelow counter f.outs

-- the counter is above all symbols
pub record IsAbove (c : Checked) : Type 0 where
  pub heap_below : IsHeapBelow c.machine.counter c.machine.heap
  pub current_below : IsFrameBelow c.machine.counter c.machine.current
  pub callers_below : All (IsFrameBelow c.machine.counter) c.machine.callers
  pub facts_below : All (IsFactBelow c.machine.counter) c.facts

-- one list of passed invariants for each frame: a frame that began has passed none, and those that ended are forgotten
abbrev pub kept_for : List Frame → List (List Passed) → List (List Passed)
kept_for callers passed =
    if nat_lt (length passed) (length callers + 1) then [] ∷ passed else drop (length passed - (length callers + 1)) passed

abbrev pub moved : Checked → State → Checked
moved c s = record { machine = s; facts = c.facts; passed = kept_for s.callers c.passed }

-- ---- the values of names in logic commands

-- the specification whose runs are checked, with the values at its entry
pub record Entry : Type 0 where
  pub spec : PureSpec
  pub args : List PureValue
  pub variables : Store

-- Program variables have their current values. In the frame of the entry the precondition's variables have those that they had
-- at entry; other frames are of procedures without a specification, and have none.
abbrev pub variables_in : List Frame → Entry → Store
variables_in [] entry = entry.variables
variables_in (f ∷ fs) entry = []

abbrev pub logicals_in : List Frame → Entry → List Param
logicals_in [] entry = entry.spec.logicals
logicals_in (f ∷ fs) entry = []

abbrev pub names_at : Entry → Checked → Store
names_at entry c = c.machine.current.store ++ variables_in c.machine.callers entry

-- ---- the entry's return

-- no key and no fact
abbrev pub is_nothing : LogicState → Bool
is_nothing s = nat_eq (len s.heap) 0 && nat_eq (length s.facts) 0

abbrev pub leaves_nothing : Matching → Bool
leaves_nothing (matched found) = is_nothing found.state
leaves_nothing (stops n) = false

abbrev pub has_or_gets : Option PureValue → PureValue → Store → Option Store
has_or_gets (Some w) v s = if same_value w v then Some s else None
has_or_gets None v s = Some (bind result_name v s)

-- a parameter of the result's name is the result
abbrev pub result_store : Entry → PureValue → Option Store
result_store entry v =
    has_or_gets (value_of (entry_store entry.spec entry.args entry.variables) result_name) v
    (entry_store entry.spec entry.args entry.variables)

abbrev pub some_matches : PureParts → Entry → List (List PureItem) → Option Store → LogicState → Bool
some_matches p entry posts (Some t) s =
    list_any (λ items. leaves_nothing (match_assertion p.preds (entry.spec.params ++ entry.spec.logicals) items t s)) posts
some_matches p entry posts None s = false

abbrev pub over_or : Bool → Fault → Outcome
over_or true fault = is_over
over_or false fault = has_fault fault

-- ---- what invariants ask

abbrev pub has_all : List (List ℕ) → Store → Bool
has_all xs s = list_all (λ x. is_some (value_of s x)) xs

abbrev pub fits_if_known : Option PureValue → Param → Bool
fits_if_known (Some v) q = has_sort q.sort v
fits_if_known None q = true

-- names that are known and declared have their sorts
abbrev pub known_fit : Store → List Param → Bool
known_fit s ps = list_all (λ q. fits_if_known (value_of s q.name) q) ps

-- the values of the names that aren't listed
abbrev pub unlisted_in : List (List ℕ) → Store → Store
unlisted_in xs s = filter (λ b. not (is_among xs b.name)) s

abbrev pub AreSame : Store → Store → Type 0
AreSame s t = (x : List ℕ) → value_of s x ≡ value_of t x

abbrev pub match_of : Bool → Matching → Option Match
match_of true (matched found) = Some found
match_of _ _ = None

-- the invariant that a frame passed at a command
abbrev pub passed_at : ℕ → List Passed → Option Passed
passed_at i [] = None
passed_at i (q ∷ qs) = if nat_eq q.at i then Some q else passed_at i qs

abbrev pub current_passed : List (List Passed) → List Passed
current_passed (qs ∷ later) = qs
current_passed [] = []

abbrev pub with_passed : Passed → List (List Passed) → List (List Passed)
with_passed q (qs ∷ later) = (q ∷ qs) ∷ later
with_passed q [] = (q ∷ []) ∷ []

-- ---- steps of the machine

abbrev pub fails_or_misses : Option Key → PureValue → Outcome
fails_or_misses (Some k) v = has_fault missing
fails_or_misses None v = has_fault (fails v)

module _ (p : PureParts) (memory : MemoryName) (m : Actions) (entry : Entry) where
  abbrev pub ended : Checked → Ending → Outcome
  ended c (returned v) = over_or (some_matches p entry entry.spec.posts (result_store entry v) (logic_state c)) post
  ended c (threw v place) = over_or (some_matches p entry entry.spec.errors (result_store entry v) (logic_state c)) post
  ended c (failed v place) = fails_or_misses (miss_at p m c.machine) v
  ended c _ = is_over

  -- what a step of the machine leads to
  abbrev pub stepped : Checked → Step → Outcome
  stepped c (goes_on s) = goes_on_to (moved c s)
  stepped c (ends e) = ended c e.ending

  -- a draw is any value of its kind
  abbrev pub Draws : List ℕ → Kind → Checked → Outcome → Type 0
  Draws x k c out =
      (v : PureValue) × ((same_kind (kind_of v) k ≡ true)
      × (out ≡ stepped c (assigned x v (record c.machine { draws = c.machine.draws + 1 }))))

  -- ---- states to which an assertion is added

  -- The assertion is added to a state under a store. The counter may rise, and is above all symbols.
  pub record Adds (items : List PureItem) (t : Store) (s : LogicState) (counter : ℕ) (c next : Checked) : Type 0 where
    pub state : LogicState
    pub adding : IsAdding memory t items s state
    pub not_lower : c.machine.counter ≤ counter
    pub is_next : next ≡ with_logic state counter c
    pub above : IsAbove next

  -- ---- calls by specification

  -- the result or what was thrown is any value that some postcondition allows, the ok ones counted first
  pub record Comes (spec : PureSpec) (args : List PureValue) (known : Store) (left : LogicState) (posts : List (List PureItem))
      (after : PureValue → State → Step) (c : Checked) (out : Outcome) : Type 0 where
    pub number : ℕ
    pub items : List PureItem
    pub is_post : slice_get posts number ≡ Some items
    pub result : PureValue
    pub store : Store
    pub is_store : IsPostStore spec args known result store
    pub state : LogicState
    pub adding : IsAdding memory store items left state
    pub counter : ℕ
    pub not_lower : c.machine.counter ≤ counter
    pub below : IsAbove (with_logic state counter c)
    pub result_below : AreBelow counter (result ∷ [])
    pub leads : out ≡ stepped (with_logic state counter c) (after result (with_logic state counter c).machine)

  -- c is the state in the called procedure's first frame
  abbrev pub Called : PureSpec → List PureValue → Place → Matching → Checked → Outcome → Type 0
  Called spec args here (stops n) c out = out ≡ has_fault call_precondition
  Called spec args here (matched found) c out =
      Comes spec args found.store found.state spec.posts (leave c.machine.callers) c out
      ⊎ Comes spec args found.store found.state spec.errors (λ v. throw_to (handling c.machine.callers) v here) c out

  abbrev pub CalledIfFit : Bool → PureSpec → List PureValue → Place → Checked → Outcome → Type 0
  CalledIfFit false spec args here c out = out ≡ has_fault call_precondition
  CalledIfFit true spec args here c out =
      Called spec args here
      (match_assertion p.preds (spec.params ++ spec.logicals) spec.pre (entry_store spec args []) (logic_state c)) c out

  -- a procedure without a specification runs its body
  abbrev pub Entered : Option PureSpec → Outcomes → Place → Checked → State → Outcome → Type 0
  Entered (Some spec) (Ok args) here c s out = CalledIfFit (fit_params spec.params args) spec args here (moved c s) out
  Entered _ args here c s out = out ≡ stepped c (goes_on s)

  abbrev pub Calls : Outcomes → Place → Checked → Step → Outcome → Type 0
  Calls args here c (goes_on s) out = Entered (find_spec p.specs s.current.procedure) args here c s out
  Calls args here c (ends e) out = out ≡ stepped c (ends e)

  -- ---- fold and unfold

  abbrev pub folded : Option CaseMatch → Fact → Checked → Outcome
  folded (Some found) f c =
      stepped (with_logic (record found.state { facts = found.state.facts ++ f ∷ [] }) c.machine.counter c)
      (to_next (with_logic (record found.state { facts = found.state.facts ++ f ∷ [] }) c.machine.counter c).machine)
  folded None f c = has_fault fold_body

  abbrev pub fold_by : Option Core → List ℕ → Outcomes → Outcomes → Checked → Outcome
  fold_by None x (Ok ins) (Ok outs) c =
      folded (match_fold p.preds x ins outs (logic_state c)) (record { pred = x; ins = ins; outs = outs }) c
  fold_by _ x _ _ c = has_fault fold_body

  -- some case is added in place of the fact, with any values of its variables that agree with the fact's
  pub record Unfolds (d : PurePredDef) (f : Fact) (left : LogicState) (c : Checked) (out : Outcome) : Type 0 where
    pub number : ℕ
    pub items : List PureItem
    pub case : slice_get d.cases number ≡ Some items
    pub store : Store
    pub ins_agree : Agrees store (param_names d.ins) f.ins
    pub outs_agree : Agrees store (param_names d.outs) f.outs
    pub sorts : HasSorts (scope_of d) store
    pub counter : ℕ
    pub next : Checked
    pub adds : Adds items store left counter c next
    pub leads : out ≡ stepped next (to_next next.machine)

  abbrev pub UnfoldsFound : Option FoundFact → Option PurePredDef → Checked → Outcome → Type 0
  UnfoldsFound (Some found) (Some d) c out = Unfolds d found.fact (record (logic_state c) { facts = found.others }) c out
  UnfoldsFound _ _ c out = out ≡ has_fault fold_body

  abbrev pub UnfoldsBy : Option Core → List ℕ → Outcomes → Outcomes → Checked → Outcome → Type 0
  UnfoldsBy None x (Ok ins) (Ok outs) c out =
      UnfoldsFound (first_fact (fits_fact x ins (map Some outs)) c.facts) (find_pred p.preds x) c out
  UnfoldsBy _ x _ _ c out = out ≡ has_fault fold_body

  -- ---- assert

  abbrev pub asserted : Matching → Checked → Outcome
  asserted (matched found) c = stepped c (to_next c.machine)
  asserted (stops n) c = has_fault fold_body

  -- ---- invariants

  -- listed variables have values, names that are known and declared have their sorts, and the assertion is matched
  abbrev pub invariant_match : List (List ℕ) → List Param → List PureItem → Checked → Option Match
  invariant_match xs ps items c =
      match_of (has_all xs c.machine.current.store && known_fit (names_at entry c) (logicals_in c.machine.callers entry ++ ps))
      (match_assertion p.preds (logicals_in c.machine.callers entry ++ ps) items (names_at entry c) (logic_state c))

  -- the state at an invariant with these values of program variables, and with what the invariant leaves kept
  abbrev pub at_invariant : List (List ℕ) → LogicState → Store → Checked → Checked
  at_invariant xs left store c = record c {
    machine = record c.machine { current = record c.machine.current { store = store } };
    passed = with_passed (record {
      at = c.machine.current.next;
      remainder = left;
      unlisted = unlisted_in xs c.machine.current.store;
    }) c.passed;
  }

  -- The first visit: listed variables have any values, the others keep theirs, and the assertion is added to what is left.
  pub record PassesFirst (xs : List (List ℕ)) (ps : List Param) (items : List PureItem) (left : LogicState) (c : Checked) (out : Outcome)
      : Type 0 where
    pub store : Store
    pub listed_have_values : IsTrue (has_all xs store)
    pub others_stay : AreSame (unlisted_in xs store) (unlisted_in xs c.machine.current.store)
    pub names : Store
    pub known_stay : Extends (store ++ variables_in c.machine.callers entry) names
    pub sorts : HasSorts (logicals_in c.machine.callers entry ++ ps) names
    pub counter : ℕ
    pub next : Checked
    pub adds : Adds items names left counter (at_invariant xs left store c) next
    pub leads : out ≡ stepped next (to_next next.machine)

  -- the second visit: what is left and the variables that aren't listed are as at the first
  pub record IsAsBefore (xs : List (List ℕ)) (q : Passed) (left : LogicState) (c : Checked) : Type 0 where
    pub same_heap : left.heap ≡ q.remainder.heap
    pub same_facts : left.facts ≡ q.remainder.facts
    pub same_values : AreSame (unlisted_in xs c.machine.current.store) q.unlisted

  abbrev pub Visits : Option Passed → Option Match → List (List ℕ) → List Param → List PureItem → Checked → Outcome → Type 0
  Visits _ None xs ps items c out = out ≡ has_fault invariant
  Visits None (Some found) xs ps items c out = PassesFirst xs ps items found.state c out
  Visits (Some q) (Some found) xs ps items c out =
      (IsAsBefore xs q found.state c × (out ≡ is_over)) ⊎ (¬ IsAsBefore xs q found.state c × (out ≡ has_fault invariant))

  -- ---- the table

  abbrev pub LeadsBy : PureCommand → Place → Checked → Outcome → Type 0
  LeadsBy (isym x k) here c out = Draws x k c out
  LeadsBy (call x e es handler) here c out =
      Calls (evaluate_all es c.machine.current.store) here c (do_command p m [] (call x e es handler) here c.machine) out
  LeadsBy (fold_use u) here c out =
      out ≡ fold_by (core_of u.pred) u.pred (evaluate_all u.ins (names_at entry c)) (evaluate_all u.outs (names_at entry c)) c
  LeadsBy (unfold_use u) here c out =
      UnfoldsBy (core_of u.pred) u.pred (evaluate_all u.ins (names_at entry c)) (evaluate_all u.outs (names_at entry c)) c out
  LeadsBy (assert_that items) here c out =
      out ≡ asserted (match_assertion p.preds (logicals_in c.machine.callers entry) items (names_at entry c) (logic_state c)) c
  LeadsBy (loop_invariant xs ps items) here c out =
      Visits (passed_at c.machine.current.next (current_passed c.passed)) (invariant_match xs ps items c) xs ps items c out
  LeadsBy command here c out = out ≡ stepped c (do_command p m [] command here c.machine)

  abbrev pub LeadsAt : Option PureNumberedCommand → Checked → Outcome → Type 0
  LeadsAt (Some n) c out = LeadsBy n.command (record { proc = c.machine.current.procedure; at = n.at }) c out
  LeadsAt None c out = out ≡ stepped c (goes_on c.machine)

  -- what a step of a checked state may lead to
  abbrev pub Leads : Checked → Outcome → Type 0
  Leads c out = LeadsAt (command_at p c.machine.current) c out

  -- ---- runs

  -- the precondition is added to nothing, and the counter is above all symbols
  pub record IsStart (c : Checked) : Type 0 where
    pub entered : IsEntry entry.spec entry.args entry.variables
    pub state : LogicState
    pub adding : IsAdding memory (entry_store entry.spec entry.args entry.variables) entry.spec.pre nothing state
    pub counter : ℕ
    pub is_start : c ≡ record { machine = start p entry.spec.name entry.args state.heap counter; facts = state.facts; passed = [] ∷ [] }
    pub above : IsAbove c
    pub variables_below : IsStoreBelow counter entry.variables

  -- a state that is reached after so many steps
  abbrev pub IsReachedIn : ℕ → Checked → Type 0
  IsReachedIn zero c = IsStart c
  IsReachedIn (suc n) c = (before : Checked) × (IsReachedIn n before × Leads before (goes_on_to c))

-- no checked run of the specification has a fault
abbrev pub HasNoFault : PureParts → MemoryName → Actions → PureSpec → Type 0
HasNoFault p memory m spec =
    (args : List PureValue) (variables : Store) (n : ℕ) (c : Checked) (fault : Fault)
    → IsReachedIn p memory m (record { spec = spec; args = args; variables = variables }) n c
    → ¬ Leads p memory m (record { spec = spec; args = args; variables = variables }) c (has_fault fault)

abbrev pub is_call : PureCommand → Bool
is_call (call x e es handler) = true
is_call _ = false

-- the specification that the next step of a state uses
abbrev pub used_in : PureParts → Step → Option PureSpec
used_in p (goes_on s) = find_spec p.specs s.current.procedure
used_in p (ends e) = None

abbrev pub used_by : PureParts → Actions → Option PureNumberedCommand → State → Option PureSpec
used_by p m (Some n) s = if is_call n.command then used_in p (step p m [] s) else None
used_by p m None s = None

-- each specification that a checked run of the specification uses is one of those with these names
abbrev pub UsesOnly : PureParts → MemoryName → Actions → (List ℕ → Bool) → PureSpec → Type 0
UsesOnly p memory m chosen spec =
    (args : List PureValue) (variables : Store) (n : ℕ) (c : Checked) (used : PureSpec)
    → IsReachedIn p memory m (record { spec = spec; args = args; variables = variables }) n c
    → used_by p m (command_at p c.machine.current) c.machine ≡ Some used
    → IsTrue (chosen used.name)
