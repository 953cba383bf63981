-- What was matched can be read: from the names that had values, and those that the match gave one.
use Rattle.std.proofs.Common.{◌≡◌, ◌⊎◌, ⊎_elim, inl, inr, ℕ, ◌+◌, List, [], ◌∷◌, ◌++◌, map, Bool, true, false, not, ◌&&◌, ◌||◌, cond, Option, Some, None, IsSome, Result, Ok, Err, refl, sym, ap, ◌∙◌, true≢false}
use Rattle.std.specs.List.{list_all}
use Rattle.std.specs.Option.{option_and_then}
use Rattle.std.specs.FinMap.{get}
use Rattle.std.specs.Str.{bytes_eq}
use Rattle.std.proofs.lemmas.Bool.{and_parts}
use Rattle.std.proofs.lemmas.List.Folds.{list_any-append}
use Rattle.std.proofs.lemmas.Slice.Eq.{bytes_eq-Decides}
use Rattle.gil_values.specs.declared.operators.BinOp.TheVariants.{Equal}
use Rattle.gil_values.specs.Pure.{PureValue, boolean}
use Rattle.gil_values.specs.Equality.{same_value}
use Rattle.gil_values.specs.Operators.{Fault, Outcome}
use Rattle.gil_syntax.specs.declared.assertions.Param.{Param}
use Rattle.gil_syntax.specs.declared.assertions.SpecSort.TheVariants.{Any}
use Rattle.gil_syntax.specs.Evaluation.{Store, bind, value_of, Outcomes, both, evaluate, evaluate_all}
use Rattle.gil_syntax.specs.Pure.{PureExpr, name, logical, binary_of, PurePredUse, PureItem, pure, uses, PurePredDef}
use Rattle.gil_syntax.specs.Subexpressions.{names_of}
use Rattle.gil_syntax.specs.Valid.{param_names, is_among}
use Rattle.mem_model.specs.declared.cores.Core.{Core}
use Rattle.mem_model.specs.declared.keys.Key.{Key}
use Rattle.mem_model.specs.declared.keys.MemoryName.{MemoryName}
use Rattle.mem_model.specs.CoreNames.{core_of}
use Rattle.mem_model.specs.Cores.{entry_of}
use Rattle.mem_model.specs.KeyOrder.{key_eq}
use Rattle.assert_logic.specs.declared.checking.ModeKind.TheVariants.{In, Out, Core as OfMemory}
use Rattle.assert_logic.specs.Adding.{with_values, added}
use Rattle.assert_logic.specs.LogicStates.{LogicState, nothing}
use Rattle.assert_logic.specs.Matching.{given, unknown_name, match_known_or, match_value, match_values, given_outcome, match_equation, match_pure, known_outs, fits_fact, FoundFact, first_fact, Match, ItemMatch, Matching, matched, stops, CaseMatch, Cases, held, key_of, key_match, where_entry_is, match_held, match_core, fact_match, case_match, match_case, match_fact_or, match_use, match_outcomes, match_item, pure_match, taken_before, go_on, match_from, once, match_assertion}
use Rattle.assert_logic.specs.Modes.{Scope, case, either, fault_if, is_foreign, is_foreign_core, known_at_first, known_after, known_beside, may_become_known, outs_fit, gives_value, item_fault, items_fault, assertion_fault}
use Rattle.assert_logic.specs.Names.{Known, knows_all, named_among, named_by_item, named_by_items}
use Rattle.assert_logic.specs.Sorts.{fits_sorts}
use Rattle.assert_logic.proofs.GivenNames.{no_match, values_gain, items_gain}
use Rattle.assert_logic.proofs.Givings.{chosen, unless_goes, same_goes}
use Rattle.checked_runs.proofs.Stores.{no_value}
use Rattle.sym_model.specs.Lists.{Each}
use Rattle.sym_states.proofs.AddedNames.{added_known}
use Rattle.sym_states.proofs.Names.{one_of_two, or_left, or_right, same_name}
use Rattle.sym_states.specs.Producing.{FitsCore, MayAdd}

-- ---- a predicate whose ins are the names of a store, and whose outs those of a scope

abbrev pub ins_from : Store → List Param
ins_from t = map (λ b. record { name = b.name; sort = Any }) t

abbrev pub reader : Store → List Param → PurePredDef
reader t scope = record { name = []; ins = ins_from t; outs = scope; logicals = []; cases = [] }

pub reader_knows : (t : Store) (x : List ℕ) (v : PureValue) → value_of t x ≡ Some v → is_among (param_names (ins_from t)) x ≡ true
reader_knows [] x v at = no_value v at
reader_knows (b ∷ t) x v at = by (bytes_eq b.name x) refl at (reader_knows t x v)
  where
    by : (e : Bool) → bytes_eq b.name x ≡ e → cond e (Some b.value) (value_of t x) ≡ Some v → (value_of t x ≡ Some v → is_among (param_names (ins_from t)) x ≡ true) → (bytes_eq x b.name || is_among (param_names (ins_from t)) x) ≡ true
    by true same is later = or_left (bytes_eq x b.name) (is_among (param_names (ins_from t)) x) ((bytes_eq-Decides x b.name).1 (sym ((bytes_eq-Decides b.name x).0 same)))
    by false other is later = or_right (bytes_eq x b.name) (is_among (param_names (ins_from t)) x) (later is)

pub known_reader : (t : Store) (x : List ℕ) → is_among (param_names (ins_from t)) x ≡ true → (v : PureValue) × (value_of t x ≡ Some v)
known_reader [] x is = absurd (true≢false (sym is))
known_reader (b ∷ t) x is = by (bytes_eq b.name x) refl (known_reader t x)
  where
    after : bytes_eq b.name x ≡ false → (bytes_eq x b.name ≡ true) ⊎ (is_among (param_names (ins_from t)) x ≡ true) → is_among (param_names (ins_from t)) x ≡ true
    after other (inl same) = absurd (true≢false (sym ((bytes_eq-Decides b.name x).1 (sym ((bytes_eq-Decides x b.name).0 same))) ∙ other))
    after other (inr later) = later

    by : (e : Bool) → bytes_eq b.name x ≡ e → (is_among (param_names (ins_from t)) x ≡ true → (v : PureValue) × (value_of t x ≡ Some v)) → (v : PureValue) × (cond e (Some b.value) (value_of t x) ≡ Some v)
    by true same later = (b.value, refl)
    by false other later = later (after other (one_of_two (bytes_eq x b.name) (is_among (param_names (ins_from t)) x) is))

-- ---- expressions that have values

-- the names of expressions that have values have values
read_known : (t : Store) (es : List PureExpr) (vs : List PureValue) → evaluate_all es t ≡ Ok vs → (x : List ℕ) → named_among es x ≡ true → IsSome (value_of t x)
read_known t es vs is x named =
    let used : PurePredUse = record { pred = []; ins = es; outs = [] } in
    added_known t (uses used ∷ []) nothing (record nothing { facts = record { pred = []; ins = vs; outs = [] } ∷ [] })
    (ap (λ o. option_and_then (added t []) (with_values [] o (Ok []) nothing)) is) x
    (or_left (named_among es x || false) false (or_left (named_among es x) false named))

all_named : (known : Known) (xs : List (List ℕ)) → ((x : List ℕ) → is_among xs x ≡ true → known x ≡ true) → list_all known xs ≡ true
all_named known [] each = refl
all_named known (x ∷ xs) each =
    ap (λ b. b && list_all known xs) (each x (or_left (bytes_eq x x) (is_among xs x) (same_name x)))
    ∙ all_named known xs (λ y among. each y (or_right (bytes_eq y x) (is_among xs y) among))

-- each name with a value is known
abbrev pub Knows : Known → Store → Type 0
Knows known s = (x : List ℕ) (v : PureValue) → value_of s x ≡ Some v → known x ≡ true

some_known : (known : Known) (s : Store) (x : List ℕ) → Knows known s → IsSome (value_of s x) → known x ≡ true
some_known known s x knows is = by (value_of s x) refl is
  where
    by : (o : Option PureValue) → value_of s x ≡ o → IsSome o → known x ≡ true
    by (Some v) at is = knows x v at
    by None at is = absurd (true≢false (sym is))

expr_known : (known : Known) (s : Store) (e : PureExpr) (v : PureValue) → Knows known s → evaluate e s ≡ Ok v → knows_all known e ≡ true
expr_known known s e v knows is =
    all_named known (names_of e) (λ x among. some_known known s x knows (read_known s (e ∷ []) (v ∷ []) (ap (λ o. both o (Ok [])) is) x (or_left (is_among (names_of e) x) false among)))

exprs_known : (known : Known) (s : Store) (es : List PureExpr) (vs : List PureValue) → Knows known s → evaluate_all es s ≡ Ok vs → list_all (knows_all known) es ≡ true
exprs_known known s es vs knows is = each es (λ x named. some_known known s x knows (read_known s es vs is x named))
  where
    each : (ds : List PureExpr) → ((x : List ℕ) → named_among ds x ≡ true → known x ≡ true) → list_all (knows_all known) ds ≡ true
    each [] all = refl
    each (d ∷ ds) all =
        ap (λ b. b && list_all (knows_all known) ds) (all_named known (names_of d) (λ x among. all x (or_left (is_among (names_of d) x) (named_among ds x) among)))
        ∙ each ds (λ x named. all x (or_right (is_among (names_of d) x) (named_among ds x) named))

-- ---- items

module _ (scope : List Param) (start : Store) (memory : MemoryName) (cases : Cases) where
  abbrev here : Scope
  here = case (reader start scope)

  may_become : (d : PureExpr) (s : Store) (x : List ℕ) → unknown_name s d ≡ Some x → is_among (param_names scope) x ≡ true → may_become_known here d ≡ true
  may_become (name y) s x is among = ap (is_among (param_names scope)) (unless_goes scope s y x is).0 ∙ among
  may_become (logical y) s x is among = refl
  may_become e s x is among = no_value x is

  given_among : (x : List ℕ) (v : PureValue) (s t : Store) → given scope x v s ≡ Some t → is_among (param_names scope) x ≡ true
  given_among x v s t is = (and_parts (is_among (param_names scope) x) (fits_sorts scope x v) (chosen (is_among (param_names scope) x && fits_sorts scope x v) (bind x v s) t is).0).0

  both_true : (a b : Bool) → a ≡ true → b ≡ true → (a && b) ≡ true
  both_true a b first second = ap (λ c. c && b) first ∙ second

  equation_read : (known : Known) (s t : Store) (d e : PureExpr) → Knows known s → (o : Option (List ℕ)) → unknown_name s d ≡ o → match_equation o scope d e s ≡ Some t
      → (knows_all known (binary_of Equal d e) || gives_value here known (binary_of Equal d e)) ≡ true
  equation_read known s t d e knows None unknown is =
      or_left (knows_all known (binary_of Equal d e)) (gives_value here known (binary_of Equal d e))
      (expr_known known s (binary_of Equal d e) (boolean true) knows (same_goes scope (evaluate (binary_of Equal d e) s) (boolean true) s t is).0)
  equation_read known s t d e knows (Some x) unknown is = by (evaluate e s) refl is
    where
      by : (o : Outcome) → evaluate e s ≡ o → given_outcome scope x o s ≡ Some t → (knows_all known (binary_of Equal d e) || gives_value here known (binary_of Equal d e)) ≡ true
      by (Err f) at given_is = no_value t given_is
      by (Ok v) at given_is =
          or_right (knows_all known (binary_of Equal d e)) (gives_value here known (binary_of Equal d e))
          (both_true (may_become_known here d) (knows_all known e) (may_become d s x unknown (given_among x v s t given_is)) (expr_known known s e v knows at))

  pure_read : (known : Known) (s t : Store) (e : PureExpr) → Knows known s → match_pure scope e s ≡ Some t → (knows_all known e || gives_value here known e) ≡ true
  pure_read known s t (binary_of Equal d e) knows is = equation_read known s t d e knows (unknown_name s d) refl is
  pure_read known s t e knows is = or_left (knows_all known e) (gives_value here known e) (expr_known known s e (boolean true) knows (same_goes scope (evaluate e s) (boolean true) s t is).0)

  -- ---- outs

  beside_more : (known : Known) (before : List PureExpr) (e : PureExpr) (x : List ℕ) → (known_beside known before x ≡ true) ⊎ (named_among (e ∷ []) x ≡ true) → known_beside known (before ++ e ∷ []) x ≡ true
  beside_more known before e x = λ some. or_named (⊎_elim (λ was. ⊎_elim (λ named. inl (parts ∙ or_left (named_among before x) (named_among (e ∷ []) x) named)) (λ is. inr is) (one_of_two (named_among before x) (known x) was))
      (λ now. inl (parts ∙ or_right (named_among before x) (named_among (e ∷ []) x) now)) some)
    where
      parts : named_among (before ++ e ∷ []) x ≡ (named_among before x || named_among (e ∷ []) x)
      parts = list_any-append (λ d. is_among (names_of d) x) before (e ∷ [])

      or_named : (named_among (before ++ e ∷ []) x ≡ true) ⊎ (known x ≡ true) → (named_among (before ++ e ∷ []) x || known x) ≡ true
      or_named (inl named) = or_left (named_among (before ++ e ∷ []) x) (known x) named
      or_named (inr is) = or_right (named_among (before ++ e ∷ []) x) (known x) is

  one_out : (known : Known) (s t : Store) (e : PureExpr) (v : PureValue) → Knows known s → (o : Option (List ℕ)) → unknown_name s e ≡ o → match_known_or o scope e v s ≡ Some t → (knows_all known e || may_become_known here e) ≡ true
  one_out known s t e v knows None unknown is = or_left (knows_all known e) (may_become_known here e) (expr_known known s e v knows (same_goes scope (evaluate e s) v s t is).0)
  one_out known s t e v knows (Some x) unknown is = or_right (knows_all known e) (may_become_known here e) (may_become e s x unknown (given_among x v s t is))

  outs_read : (known : Known) (before outs : List PureExpr) (vs : List PureValue) (s t : Store) → Knows (known_beside known before) s → match_values scope outs vs s ≡ Some t → outs_fit here known before outs ≡ true
  outs_read known before [] vs s t knows is = refl
  outs_read known before (e ∷ es) [] s t knows is = no_value t is
  outs_read known before (e ∷ es) (v ∷ vs) s t knows is = by (λ u. outs_read known (before ++ e ∷ []) es vs u t) (match_value scope e v s) refl is
    where
      after : (u : Store) → match_value scope e v s ≡ Some u → Knows (known_beside known (before ++ e ∷ [])) u
      after u here_is x w at =
          beside_more known before e x
          (⊎_elim (λ was. inl (knows x w was)) (λ new. inr new.0)
          ((values_gain scope (e ∷ []) (v ∷ []) s u (ap (option_and_then (match_values scope [] [])) here_is)).from x w at))

      by : ((u : Store) → Knows (known_beside known (before ++ e ∷ [])) u → match_values scope es vs u ≡ Some t → outs_fit here known (before ++ e ∷ []) es ≡ true) → (o : Option Store) → match_value scope e v s ≡ o → option_and_then (match_values scope es vs) o ≡ Some t → outs_fit here known before (e ∷ es) ≡ true
      by later None here_is there = no_value t there
      by later (Some u) here_is there =
          both_true (knows_all (known_beside known before) e || may_become_known here e) (outs_fit here known (before ++ e ∷ []) es)
          (one_out (known_beside known before) s u e v knows (unknown_name s e) refl here_is) (later u (after u here_is) there)

  -- ---- uses

  -- the outs are matched with some values
  abbrev AreMatched : PurePredUse → Store → Type 0
  AreMatched u s = (vs : List PureValue) × ((t : Store) × (match_values scope u.outs vs s ≡ Some t))

  key_matched : (u : PurePredUse) (vs : List PureValue) (k : Key) (s : Store) (l : LogicState) (m : ItemMatch) (o : Option Store) → match_values scope u.outs vs s ≡ o → key_match l k o ≡ Some m → AreMatched u s
  key_matched u vs k s l m None matches is = no_value m is
  key_matched u vs k s l m (Some t) matches is = (vs, (t, matches))

  held_matched : (u : PurePredUse) (core : Core) (ins : List PureValue) (k : Key) (s : Store) (l : LogicState) (m : ItemMatch) (o : Option PureValue) → match_held scope core ins u.outs k o s l ≡ Some m → AreMatched u s
  held_matched u core ins k s l m None is = no_value m is
  held_matched u core ins k s l m (Some v) is = by_entry (entry_of core (ins ++ held core v)) is
    where
      by_test : (b : Bool) → cond b (key_match l k (match_values scope u.outs (held core v) s)) None ≡ Some m → AreMatched u s
      by_test false test_is = no_value m test_is
      by_test true test_is = key_matched u (held core v) k s l m (match_values scope u.outs (held core v) s) refl test_is

      by_entry : (o : Option (Key × PureValue)) → where_entry_is o k v (key_match l k (match_values scope u.outs (held core v) s)) ≡ Some m → AreMatched u s
      by_entry None entry_is = no_value m entry_is
      by_entry (Some e) entry_is = by_test (key_eq e.0 k && same_value e.1 v) entry_is

  core_matched : (u : PurePredUse) (core : Core) (ins : List PureValue) (s : Store) (l : LogicState) (m : ItemMatch) (o : Option Key) → match_core scope core ins u.outs o s l ≡ Some m → AreMatched u s
  core_matched u core ins s l m None is = no_value m is
  core_matched u core ins s l m (Some k) is = held_matched u core ins k s l m (get l.heap k) is

  fact_matched : (u : PurePredUse) (found : FoundFact) (s : Store) (l : LogicState) (m : ItemMatch) (o : Option Store) → match_values scope u.outs found.fact.outs s ≡ o → fact_match found l o ≡ Some m → AreMatched u s
  fact_matched u found s l m None matches is = no_value m is
  fact_matched u found s l m (Some t) matches is = (found.fact.outs, (t, matches))

  case_matched : (u : PurePredUse) (found : CaseMatch) (s : Store) (m : ItemMatch) (o : Option Store) → match_values scope u.outs found.outs s ≡ o → case_match found o ≡ Some m → AreMatched u s
  case_matched u found s m None matches is = no_value m is
  case_matched u found s m (Some t) matches is = (found.outs, (t, matches))

  cases_matched : (u : PurePredUse) (s : Store) (m : ItemMatch) (o : Option CaseMatch) → match_case scope u.outs o s ≡ Some m → AreMatched u s
  cases_matched u s m None is = no_value m is
  cases_matched u s m (Some found) is = case_matched u found s m (match_values scope u.outs found.outs s) refl is

  user_matched : (u : PurePredUse) (ins : List PureValue) (outs : List (Option PureValue)) (s : Store) (l : LogicState) (m : ItemMatch) (o : Option FoundFact) → match_fact_or cases scope o u ins outs s l ≡ Some m → AreMatched u s
  user_matched u ins outs s l m (Some found) is = fact_matched u found s l m (match_values scope u.outs found.fact.outs s) refl is
  user_matched u ins outs s l m None is = cases_matched u s m (cases u.pred ins outs l) is

  use_matched : (u : PurePredUse) (ins : List PureValue) (outs : List (Option PureValue)) (s : Store) (l : LogicState) (m : ItemMatch) (o : Option Core) → match_use cases scope o u ins outs s l ≡ Some m → AreMatched u s
  use_matched u ins outs s l m (Some core) is = core_matched u core ins s l m (key_of core ins) is
  use_matched u ins outs s l m None is = user_matched u ins outs s l m (first_fact (fits_fact u.pred ins outs) l.facts) is

  outcomes_matched : (u : PurePredUse) (s : Store) (l : LogicState) (m : ItemMatch) (ins : Outcomes) (outs : Result (List (Option PureValue)) Fault) → match_outcomes cases scope ins outs u s l ≡ Some m → ((vs : List PureValue) × (ins ≡ Ok vs)) × AreMatched u s
  outcomes_matched u s l m (Ok ins) (Ok outs) is = ((ins, refl), use_matched u ins outs s l m (core_of u.pred) is)
  outcomes_matched u s l m (Ok ins) (Err f) is = no_value m is
  outcomes_matched u s l m (Err f) outs is = no_value m is

  isnt_foreign : (u : PurePredUse) (o : Option Core) → FitsCore memory o u → is_foreign_core memory o ≡ false
  isnt_foreign u None fits = refl
  isnt_foreign u (Some core) fits = ap (λ b. not b) fits.0

  none_of_three : (a b c : Bool) → a ≡ true → b ≡ true → c ≡ false → either (fault_if (not a) In) (either (fault_if (not b) Out) (fault_if c OfMemory)) ≡ None
  none_of_three a b c first second third = λ i. either (fault_if (not (first i)) In) (either (fault_if (not (second i)) Out) (fault_if (third i) OfMemory))

  item_read : (known : Known) (item : PureItem) (s : Store) (l : LogicState) (m : ItemMatch) → MayAdd memory item → Knows known s → match_item cases scope item s l ≡ Some m → item_fault memory here known item ≡ None
  item_read known (pure e) s l m may knows is = by (match_pure scope e s) refl is
    where
      by : (o : Option Store) → match_pure scope e s ≡ o → pure_match l o ≡ Some m → item_fault memory here known (pure e) ≡ None
      by None matches none_is = no_value m none_is
      by (Some t) matches some_is = ap (λ b. fault_if (not b) In) (pure_read known s t e knows matches)
  item_read known (uses u) s l m may knows is =
      let ((ins, ins_are), (vs, (t, matches))) = outcomes_matched u s l m (evaluate_all u.ins s) (known_outs s u.outs) is in
      none_of_three (list_all (knows_all known) u.ins) (outs_fit here known [] u.outs) (is_foreign memory u.pred) (exprs_known known s u.ins ins knows ins_are) (outs_read known [] u.outs vs s t knows matches)
      (isnt_foreign u (core_of u.pred) may.1)

  -- ---- all items

  abbrev first : Known
  first = known_at_first here

  items_read : (n : ℕ) (before items : List PureItem) (s : Store) (l : LogicState) (m : Match) → Each (MayAdd memory) items → Knows (known_after first before) s → match_from cases scope n items s l ≡ matched m → items_fault memory here before items ≡ None
  items_read n before [] s l m may knows is = refl
  items_read n before (item ∷ items) s l m may knows is = by_item (λ u k x. items_read (n + 1) (before ++ item ∷ []) items u k x may.1) (match_item cases scope item s l) refl is
    where
      parts : (x : List ℕ) → named_by_items (before ++ item ∷ []) x ≡ (named_by_items before x || named_by_items (item ∷ []) x)
      parts x = list_any-append (λ i. named_by_item i x) before (item ∷ [])

      after_more : (x : List ℕ) → (known_after first before x ≡ true) ⊎ (named_by_items (item ∷ []) x ≡ true) → known_after first (before ++ item ∷ []) x ≡ true
      after_more x (inl was) = ⊎_elim
          (λ named. or_left (named_by_items (before ++ item ∷ []) x) (first x) (parts x ∙ or_left (named_by_items before x) (named_by_items (item ∷ []) x) named))
          (λ known. or_right (named_by_items (before ++ item ∷ []) x) (first x) known)
          (one_of_two (named_by_items before x) (first x) was)
      after_more x (inr now) = or_left (named_by_items (before ++ item ∷ []) x) (first x) (parts x ∙ or_right (named_by_items before x) (named_by_items (item ∷ []) x) now)

      after : (i : ItemMatch) → match_item cases scope item s l ≡ Some i → Knows (known_after first (before ++ item ∷ [])) i.store
      after i here_is x w at =
          after_more x
          (⊎_elim (λ was. inl (knows x w was)) (λ new. inr new.0)
          ((items_gain scope cases n (item ∷ []) s l (record { store = i.store; state = i.state; taken = i.taken ∷ [] }) (ap (λ o. go_on o n (match_from cases scope (n + 1) [])) here_is)).from x w at))

      by_later : ((u : Store) (k : LogicState) (x : Match) → Knows (known_after first (before ++ item ∷ [])) u → match_from cases scope (n + 1) items u k ≡ matched x → items_fault memory here (before ++ item ∷ []) items ≡ None)
          → (i : ItemMatch) → match_item cases scope item s l ≡ Some i → (o : Matching) → match_from cases scope (n + 1) items i.store i.state ≡ o → taken_before i.taken o ≡ matched m → items_fault memory here before (item ∷ items) ≡ None
      by_later each i here_is (stops k) later_is end_is = no_match m end_is
      by_later each i here_is (matched x) later_is end_is =
          let one = item_read (known_after first before) item s l i may.0 knows here_is in
          let rest = each i.store i.state x (after i here_is) later_is in
          λ j. either (one j) (rest j)

      by_item : ((u : Store) (k : LogicState) (x : Match) → Knows (known_after first (before ++ item ∷ [])) u → match_from cases scope (n + 1) items u k ≡ matched x → items_fault memory here (before ++ item ∷ []) items ≡ None)
          → (o : Option ItemMatch) → match_item cases scope item s l ≡ o → go_on o n (match_from cases scope (n + 1) items) ≡ matched m → items_fault memory here before (item ∷ items) ≡ None
      by_item each None here_is end_is = no_match m end_is
      by_item each (Some i) here_is end_is = by_later each i here_is (match_from cases scope (n + 1) items i.store i.state) refl end_is

-- what was matched has no fault of modes where the names with values are known, and those of the scope may become known
pub matched_reads : (memory : MemoryName) (preds : List PurePredDef) (scope : List Param) (items : List PureItem) (t : Store) (l : LogicState) (m : Match) → Each (MayAdd memory) items → match_assertion preds scope items t l ≡ matched m
    → assertion_fault memory (case (reader t scope)) items ≡ None
matched_reads memory preds scope items t l m may is = items_read scope t memory (once preds) 0 [] items t l m may (λ x v at. reader_knows t x v at) is
