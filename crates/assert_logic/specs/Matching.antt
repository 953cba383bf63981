-- Matching an assertion against a logic state, on plain values: items are read from left to right, what they use is taken out
-- of the state, and names that aren't known yet get their values. It stops at the first item that isn't matched. No choice is
-- taken back. Matching of assertions is that of Gillian, Part II (CAV 2021).
use Rattle.std.specs.Prelude.{ℕ, ◌+◌, List, [], ◌∷◌, ◌++◌, map, Bool, true, false, ◌&&◌, if◌then◌else◌, Option, Some, None, Result, Ok, Err, is_some}
use Rattle.std.specs.List.{list_all}
use Rattle.std.specs.Option.{option_and_then, option_map}
use Rattle.std.specs.Str.{bytes_eq}
use Rattle.std.specs.FinMap.{get, remove}
use Rattle.gil_values.specs.declared.operators.BinOp.TheVariants.{Equal}
use Rattle.gil_values.specs.Pure.{PureValue, boolean}
use Rattle.gil_values.specs.Equality.{same_value, same_elements}
use Rattle.gil_values.specs.Operators.{Fault, Outcome}
use Rattle.gil_syntax.specs.declared.assertions.Param.{Param}
use Rattle.gil_syntax.specs.Pure.{PureExpr, name, logical, binary_of, PurePredUse, PureItem, pure, uses, PurePredDef}
use Rattle.gil_syntax.specs.Programs.{find_pred}
use Rattle.gil_syntax.specs.Subexpressions.{names_of}
use Rattle.gil_syntax.specs.Valid.{param_names, is_among}
use Rattle.gil_syntax.specs.Evaluation.{Store, bind, value_of, Outcomes, evaluate, evaluate_all}
use Rattle.mem_model.specs.declared.cores.Core.{Core}
use Rattle.mem_model.specs.declared.cores.Core.TheVariants.{Gone}
use Rattle.mem_model.specs.declared.keys.Key.{Key}
use Rattle.mem_model.specs.CoreNames.{core_of}
use Rattle.mem_model.specs.Cores.{entry_of}
use Rattle.mem_model.specs.KeyOrder.{key_eq}
use Rattle.assert_logic.specs.LogicStates.{Fact, LogicState}
use Rattle.assert_logic.specs.Sorts.{fits_sorts}

-- ---- values for names. A scope lists the names that may become known, or were known at first, with their sorts.

-- the name gets the value, where it may become known and the value has its sort
abbrev pub given : List Param → List ℕ → PureValue → Store → Option Store
given scope x v s = if is_among (param_names scope) x && fits_sorts scope x v then Some (bind x v s) else None

abbrev pub unless_known : Store → List ℕ → Option (List ℕ)
unless_known s x = if is_some (value_of s x) then None else Some x

-- the name that the expression is, where it has no value
abbrev pub unknown_name : Store → PureExpr → Option (List ℕ)
unknown_name s (name x) = unless_known s x
unknown_name s (logical x) = unless_known s x
unknown_name s _ = None

abbrev pub where_same : Outcome → PureValue → Store → Option Store
where_same (Ok w) v s = if same_value w v then Some s else None
where_same (Err f) v s = None

abbrev pub match_known_or : Option (List ℕ) → List Param → PureExpr → PureValue → Store → Option Store
match_known_or (Some x) scope e v s = given scope x v s
match_known_or None scope e v s = where_same (evaluate e s) v s

-- an unknown name gets the value, and anything else must have it
abbrev pub match_value : List Param → PureExpr → PureValue → Store → Option Store
match_value scope e v s = match_known_or (unknown_name s e) scope e v s

abbrev pub match_values : List Param → List PureExpr → List PureValue → Store → Option Store
match_values scope [] [] s = Some s
match_values scope (e ∷ es) (v ∷ vs) s = option_and_then (match_values scope es vs) (match_value scope e v s)
match_values scope _ _ s = None

-- ---- pure items

abbrev pub given_outcome : List Param → List ℕ → Outcome → Store → Option Store
given_outcome scope x (Ok v) s = given scope x v s
given_outcome scope x (Err f) s = None

abbrev pub match_equation : Option (List ℕ) → List Param → PureExpr → PureExpr → Store → Option Store
match_equation (Some x) scope d e s = given_outcome scope x (evaluate e s) s
match_equation None scope d e s = where_same (evaluate (binary_of Equal d e) s) (boolean true) s

-- an equality of an unknown name gives it its value, and anything else must be true
abbrev pub match_pure : List Param → PureExpr → Store → Option Store
match_pure scope (binary_of Equal d e) s = match_equation (unknown_name s d) scope d e s
match_pure scope e s = where_same (evaluate e s) (boolean true) s

-- ---- the outs that are known before an item

abbrev pub is_known : Store → PureExpr → Bool
is_known s e = list_all (λ x. is_some (value_of s x)) (names_of e)

abbrev pub known_and : Outcome → Result (List (Option PureValue)) Fault → Result (List (Option PureValue)) Fault
known_and (Ok v) (Ok rest) = Ok (Some v ∷ rest)
known_and (Ok v) (Err f) = Err f
known_and (Err f) rest = Err f

abbrev pub unknown_and : Result (List (Option PureValue)) Fault → Result (List (Option PureValue)) Fault
unknown_and (Ok rest) = Ok (None ∷ rest)
unknown_and (Err f) = Err f

abbrev pub known_outs : Store → List PureExpr → Result (List (Option PureValue)) Fault
known_outs s [] = Ok []
known_outs s (e ∷ es) = if is_known s e then known_and (evaluate e s) (known_outs s es) else unknown_and (known_outs s es)

abbrev pub agrees_with : Option PureValue → PureValue → Bool
agrees_with (Some w) v = same_value w v
agrees_with None v = true

abbrev pub all_agree : List (Option PureValue) → List PureValue → Bool
all_agree [] [] = true
all_agree (k ∷ ks) (v ∷ vs) = agrees_with k v && all_agree ks vs
all_agree _ _ = false

-- ---- facts

abbrev pub fits_fact : List ℕ → List PureValue → List (Option PureValue) → Fact → Bool
fits_fact x ins outs f = bytes_eq f.pred x && same_elements f.ins ins && all_agree outs f.outs

-- the first fact that fits, its place, and the other ones
pub record FoundFact : Type 0 where
  pub fact : Fact
  pub place : ℕ
  pub others : List Fact

abbrev pub found_after : Fact → FoundFact → FoundFact
found_after f found = record found { place = found.place + 1; others = f ∷ found.others }

abbrev pub first_fact : (Fact → Bool) → List Fact → Option FoundFact
first_fact fits [] = None
first_fact fits (f ∷ fs) =
    if fits f then Some (record { fact = f; place = 0; others = fs }) else option_map (found_after f) (first_fact fits fs)

-- ---- what items take

-- which fact a use took is told by its place in the list as it was then; a use without a fact took the items of a case, and its
-- uses took facts in their turn
pub data Taken : Type 0 where
  took_nothing : Taken
  took_key : Key → Taken
  took_fact : ℕ → Taken
  took_case : ℕ → List (Option ℕ) → Taken

pub record Match : Type 0 where
  pub store : Store
  pub state : LogicState
  pub taken : List Taken

pub record ItemMatch : Type 0 where
  pub store : Store
  pub state : LogicState
  pub taken : Taken

-- all items are matched, or the first one that isn't
pub data Matching : Type 0 where
  matched : Match → Matching
  stops : ℕ → Matching

abbrev pub place_taken : Taken → Option ℕ
place_taken (took_fact i) = Some i
place_taken _ = None

-- a use without a fact: the values of its outs, what is left, and what was taken
pub record CaseMatch : Type 0 where
  pub outs : List PureValue
  pub state : LogicState
  pub taken : Taken

-- how a use without a fact is matched: from its name, its ins, its known outs and the state
abbrev pub Cases : Type 0
Cases = List ℕ → List PureValue → List (Option PureValue) → LogicState → Option CaseMatch

abbrev pub no_cases : Cases
no_cases x ins outs s = None

-- ---- items

abbrev pub pure_match : LogicState → Option Store → Option ItemMatch
pure_match s (Some t) = Some (record { store = t; state = s; taken = took_nothing })
pure_match s None = None

-- what a key holds, as the outs of a core predicate
abbrev pub held : Core → PureValue → List PureValue
held Gone v = []
held _ v = v ∷ []

-- the key that the ins of a core predicate name, whatever it holds
abbrev pub key_of : Core → List PureValue → Option Key
key_of core ins = option_map (λ e. e.0) (entry_of core (ins ++ held core (boolean true)))

abbrev pub key_match : LogicState → Key → Option Store → Option ItemMatch
key_match s k (Some t) = Some (record { store = t; state = record s { heap = remove s.heap k }; taken = took_key k })
key_match s k None = None

-- the core predicate stands for this key with this value
abbrev pub where_entry_is : Option (Key × PureValue) → Key → PureValue → Option ItemMatch → Option ItemMatch
where_entry_is (Some e) k v found = if key_eq e.0 k && same_value e.1 v then found else None
where_entry_is None k v found = None

abbrev pub match_held : List Param → Core → List PureValue → List PureExpr → Key → Option PureValue → Store → LogicState → Option ItemMatch
match_held scope core ins outs k (Some v) t s =
    where_entry_is (entry_of core (ins ++ held core v)) k v (key_match s k (match_values scope outs (held core v) t))
match_held scope core ins outs k None t s = None

-- the key is taken out of the heap, and the outs are matched with what it held
abbrev pub match_core : List Param → Core → List PureValue → List PureExpr → Option Key → Store → LogicState → Option ItemMatch
match_core scope core ins outs (Some k) t s = match_held scope core ins outs k (get s.heap k) t s
match_core scope core ins outs None t s = None

abbrev pub fact_match : FoundFact → LogicState → Option Store → Option ItemMatch
fact_match found s (Some t) = Some (record { store = t; state = record s { facts = found.others }; taken = took_fact found.place })
fact_match found s None = None

abbrev pub case_match : CaseMatch → Option Store → Option ItemMatch
case_match found (Some t) = Some (record { store = t; state = found.state; taken = found.taken })
case_match found None = None

abbrev pub match_case : List Param → List PureExpr → Option CaseMatch → Store → Option ItemMatch
match_case scope outs (Some found) t = case_match found (match_values scope outs found.outs t)
match_case scope outs None t = None

abbrev pub taken_before : Taken → Matching → Matching
taken_before taken (matched m) = matched (record m { taken = taken ∷ m.taken })
taken_before taken (stops n) = stops n

abbrev pub go_on : Option ItemMatch → ℕ → (Store → LogicState → Matching) → Matching
go_on (Some m) n later = taken_before m.taken (later m.store m.state)
go_on None n later = stops n

module _ (cases : Cases) (scope : List Param) where
  -- the first fact that fits is taken; only where none does the cases are tried
  abbrev pub match_fact_or : Option FoundFact → PurePredUse → List PureValue → List (Option PureValue) → Store → LogicState
      → Option ItemMatch
  match_fact_or (Some found) u ins outs t s = fact_match found s (match_values scope u.outs found.fact.outs t)
  match_fact_or None u ins outs t s = match_case scope u.outs (cases u.pred ins outs s) t

  abbrev pub match_use : Option Core → PurePredUse → List PureValue → List (Option PureValue) → Store → LogicState → Option ItemMatch
  match_use (Some core) u ins outs t s = match_core scope core ins u.outs (key_of core ins) t s
  match_use None u ins outs t s = match_fact_or (first_fact (fits_fact u.pred ins outs) s.facts) u ins outs t s

  abbrev pub match_outcomes : Outcomes → Result (List (Option PureValue)) Fault → PurePredUse → Store → LogicState → Option ItemMatch
  match_outcomes (Ok ins) (Ok outs) u t s = match_use (core_of u.pred) u ins outs t s
  match_outcomes _ _ u t s = None

  abbrev pub match_item : PureItem → Store → LogicState → Option ItemMatch
  match_item (pure e) t s = pure_match s (match_pure scope e t)
  match_item (uses u) t s = match_outcomes (evaluate_all u.ins t) (known_outs t u.outs) u t s

  -- items from left to right, of which the first has the number n
  abbrev pub match_from : ℕ → List PureItem → Store → LogicState → Matching
  match_from n [] t s = matched (record { store = t; state = s; taken = [] })
  match_from n (item ∷ items) t s = go_on (match_item item t s) n (match_from (n + 1) items)

-- ---- cases of predicates

-- the parameters that have a value get it: one name gets one value, of all its sorts
abbrev pub bound_to : List Param → List Param → List (Option PureValue) → Store → Option Store
bound_to sorts [] [] t = Some t
bound_to sorts (q ∷ qs) (Some v ∷ vs) t =
    if fits_sorts sorts q.name v && agrees_with (value_of t q.name) v then bound_to sorts qs vs (bind q.name v t) else None
bound_to sorts (q ∷ qs) (None ∷ vs) t = bound_to sorts qs vs t
bound_to sorts _ _ t = None

abbrev pub values_of : Store → List (List ℕ) → Option (List PureValue)
values_of t [] = Some []
values_of t (x ∷ xs) = option_and_then (λ v. option_map (λ vs. v ∷ vs) (values_of t xs)) (value_of t x)

-- all names that a predicate declares
abbrev pub scope_of : PurePredDef → List Param
scope_of d = d.ins ++ d.outs ++ d.logicals

-- what is known at the beginning of a case
abbrev pub case_store : PurePredDef → List PureValue → List (Option PureValue) → Option Store
case_store d ins outs = option_and_then (bound_to (scope_of d) d.outs outs) (bound_to (scope_of d) d.ins (map Some ins) [])

abbrev pub case_from : ℕ → Match → Option (List PureValue) → Option CaseMatch
case_from number m (Some outs) = Some (record { outs = outs; state = m.state; taken = took_case number (map place_taken m.taken) })
case_from number m None = None

abbrev pub case_of : PurePredDef → ℕ → Matching → Option CaseMatch
case_of d number (matched m) = case_from number m (values_of m.store (param_names d.outs))
case_of d number (stops n) = None

abbrev pub first_of : Option CaseMatch → Option CaseMatch → Option CaseMatch
first_of (Some found) later = Some found
first_of None later = later

module _ (cases : Cases) where
  -- the first of these cases that matches, of which the first has the number n
  abbrev pub try_cases : PurePredDef → ℕ → List (List PureItem) → Store → LogicState → Option CaseMatch
  try_cases d n [] t s = None
  try_cases d n (items ∷ later) t s =
      first_of (case_of d n (match_from cases (scope_of d) 0 items t s)) (try_cases d (n + 1) later t s)

  abbrev pub try_pred : Option PurePredDef → List PureValue → List (Option PureValue) → LogicState → Option CaseMatch
  try_pred (Some d) ins outs s = option_and_then (λ t. try_cases d 0 d.cases t s) (case_store d ins outs)
  try_pred None ins outs s = None

-- the uses in a case match facts alone
abbrev pub once : List PurePredDef → Cases
once preds x ins outs s = try_pred no_cases (find_pred preds x) ins outs s

-- ---- whole assertions

abbrev pub match_assertion : List PurePredDef → List Param → List PureItem → Store → LogicState → Matching
match_assertion preds scope items t s = match_from (once preds) scope 0 items t s

-- `fold` matches the cases of a predicate as whole assertions
abbrev pub match_fold : List PurePredDef → List ℕ → List PureValue → List PureValue → LogicState → Option CaseMatch
match_fold preds x ins outs s = try_pred (once preds) (find_pred preds x) ins (map Some outs) s
