-- What matching gives to names: only to those that the items have, and no symbol that the store and the state lack.
use Rattle.std.proofs.Common.{◌≡◌, ◌⊎◌, ⊎_elim, inl, inr, ℕ, ◌+◌, List, [], ◌∷◌, ◌++◌, Bool, true, false, ◌&&◌, ◌||◌, cond, Option, Some, None, Result, Ok, Err, refl, sym, ap, subst, ◌∙◌}
use Rattle.std.specs.Option.{option_and_then}
use Rattle.std.specs.FinMap.{get}
use Rattle.std.specs.Str.{bytes_eq}
use Rattle.std.proofs.lemmas.Bool.{and_parts}
use Rattle.std.proofs.lemmas.List.Folds.{list_all-append, list_any-append}
use Rattle.std.proofs.lemmas.Grind.{flat_map-append}
use Rattle.std.proofs.lemmas.Slice.Eq.{bytes_eq-Decides}
use Rattle.gil_values.specs.declared.operators.BinOp.TheVariants.{Equal}
use Rattle.gil_values.specs.Pure.{PureValue, boolean}
use Rattle.gil_values.specs.Equality.{same_value}
use Rattle.gil_values.specs.Operators.{Fault, Outcome}
use Rattle.gil_syntax.specs.declared.assertions.Param.{Param}
use Rattle.gil_syntax.specs.Pure.{PureExpr, name, logical, binary_of, PurePredUse, PureItem, pure, uses}
use Rattle.gil_syntax.specs.Subexpressions.{names_of, subexpressions, own_names}
use Rattle.gil_syntax.specs.Valid.{param_names, is_among}
use Rattle.gil_syntax.specs.WellMade.{is_well_made_node, is_well_made_expr}
use Rattle.gil_syntax.specs.Evaluation.{Store, bind, value_of, Outcomes, evaluate, evaluate_all}
use Rattle.mem_model.specs.declared.cores.Core.{Core}
use Rattle.mem_model.specs.declared.keys.Key.{Key}
use Rattle.mem_model.specs.CoreNames.{core_of}
use Rattle.mem_model.specs.Cores.{entry_of}
use Rattle.mem_model.specs.KeyOrder.{key_eq}
use Rattle.assert_logic.specs.Names.{Known, named_among, named_by_item, named_by_items}
use Rattle.assert_logic.specs.LogicStates.{LogicState}
use Rattle.assert_logic.specs.Sorts.{fits_sorts}
use Rattle.assert_logic.specs.Matching.{given, unknown_name, where_same, match_known_or, match_value, match_values, given_outcome, match_equation, match_pure, known_outs, fits_fact, FoundFact, first_fact, Match, ItemMatch, Matching, matched, stops, CaseMatch, Cases, pure_match, held, key_of, key_match, where_entry_is, match_held, match_core, fact_match, case_match, match_case, match_fact_or, match_use, match_outcomes, match_item, taken_before, go_on, match_from}
use Rattle.assert_logic.proofs.AddingLaws.{same_some, no_value}
use Rattle.assert_logic.proofs.Givings.{chosen, unless_goes, same_goes}

pub same_match : {x y : Match} → matched x ≡ matched y → x ≡ y
same_match is = cc

pub no_match : {P : Type 0} {n : ℕ} (m : Match) → stops n ≡ matched m → P
no_match m is = absurd (cc)

-- ---- names

-- the name is one of these, of the scope, and had no value
abbrev pub IsGiven : List Param → Known → Store → List ℕ → Type 0
IsGiven scope named s x = (named x ≡ true) × ((is_among (param_names scope) x ≡ true) × (value_of s x ≡ None))

-- the second store has the values of the first one, and further ones for some of these names alone
pub record Gains (scope : List Param) (named : Known) (s t : Store) : Type 0 where
  pub from : (x : List ℕ) (v : PureValue) → value_of t x ≡ Some v → (value_of s x ≡ Some v) ⊎ IsGiven scope named s x
  pub none : (x : List ℕ) → value_of t x ≡ None → value_of s x ≡ None

pub or_left : (a b : Bool) → a ≡ true → (a || b) ≡ true
or_left true b is = refl
or_left false b is = absurd (cc)

pub or_right : (a b : Bool) → b ≡ true → (a || b) ≡ true
or_right true b is = refl
or_right false b is = is

abbrev pub Within : Known → Known → Type 0
Within few many = (x : List ℕ) → few x ≡ true → many x ≡ true

module _ (scope : List Param) where
  pub gains_nothing : (named : Known) (s t : Store) → s ≡ t → Gains scope named s t
  gains_nothing named s t same = record { from = λ x v is. inl (ap (λ u. value_of u x) same ∙ is); none = λ x is. ap (λ u. value_of u x) same ∙ is }

  gains_one : (named : Known) (s t : Store) (x : List ℕ) (v : PureValue) → t ≡ bind x v s → IsGiven scope named s x → Gains scope named s t
  gains_one named s t x v is is_given = record {
    from = λ y w at. from y w (bytes_eq x y) refl (sym (ap (λ u. value_of u y) is) ∙ at);
    none = λ y at. none y (bytes_eq x y) refl (sym (ap (λ u. value_of u y) is) ∙ at);
  }
    where
      from : (y : List ℕ) (w : PureValue) (b : Bool) → bytes_eq x y ≡ b → cond b (Some v) (value_of s y) ≡ Some w → (value_of s y ≡ Some w) ⊎ IsGiven scope named s y
      from y w true same at = inr (subst (IsGiven scope named s) ((bytes_eq-Decides x y).0 same) is_given)
      from y w false other at = inl at

      none : (y : List ℕ) (b : Bool) → bytes_eq x y ≡ b → cond b (Some v) (value_of s y) ≡ None → value_of s y ≡ None
      none y true same at = no_value v (sym at)
      none y false other at = at

  gains_wider : (few many : Known) (s t : Store) → Within few many → Gains scope few s t → Gains scope many s t
  gains_wider few many s t within g = record { from = λ x v at. ⊎_elim inl (λ is. inr (within x is.0, is.1)) (g.from x v at); none = g.none }

  gains_then : (named : Known) (s t u : Store) → Gains scope named s t → Gains scope named t u → Gains scope named s u
  gains_then named s t u first second = record {
    from = λ x v at. ⊎_elim (first.from x v) (λ is. inr (is.0, (is.1.0, first.none x is.1.1))) (second.from x v at);
    none = λ x at. first.none x (second.none x at);
  }

  -- ---- a value, and what it is given to

  abbrev pub IsStep : PureExpr → PureValue → Store → Store → Type 0
  IsStep e v s t = (s ≡ t) ⊎ ((x : List ℕ) × ((t ≡ bind x v s) × IsGiven scope (is_among (names_of e)) s x))

  named_in : (e : PureExpr) (s : Store) (x : List ℕ) → unknown_name s e ≡ Some x → (value_of s x ≡ None) × (is_among (names_of e) x ≡ true)
  named_in (name y) s x is =
      let (same, none) = unless_goes scope s y x is in
      (ap (value_of s) (sym same) ∙ none, ap (λ b. b || false) ((bytes_eq-Decides x y).1 (sym same)))
  named_in (logical y) s x is =
      let (same, none) = unless_goes scope s y x is in
      (ap (value_of s) (sym same) ∙ none, ap (λ b. b || false) ((bytes_eq-Decides x y).1 (sym same)))
  named_in e s x is = no_value x is

  given_step : (e : PureExpr) (x : List ℕ) (v : PureValue) (s t : Store) → unknown_name s e ≡ Some x → given scope x v s ≡ Some t → IsStep e v s t
  given_step e x v s t unknown is =
      let (none, among) = named_in e s x unknown in
      let (test, same) = chosen (is_among (param_names scope) x && fits_sorts scope x v) (bind x v s) t is in
      inr (x, (sym same, (among, ((and_parts (is_among (param_names scope) x) (fits_sorts scope x v) test).0, none))))

  pub value_steps : (e : PureExpr) (v : PureValue) (s t : Store) → match_value scope e v s ≡ Some t → IsStep e v s t
  value_steps e v s t = by (unknown_name s e) refl
    where
      by : (o : Option (List ℕ)) → unknown_name s e ≡ o → match_known_or o scope e v s ≡ Some t → IsStep e v s t
      by (Some x) unknown is = given_step e x v s t unknown is
      by None known is = inl (same_goes scope (evaluate e s) v s t is).1

  step_gains : (e : PureExpr) (v : PureValue) (s t : Store) → IsStep e v s t → Gains scope (is_among (names_of e)) s t
  step_gains e v s t (inl same) = gains_nothing (is_among (names_of e)) s t same
  step_gains e v s t (inr (x, (is, is_given))) = gains_one (is_among (names_of e)) s t x v is is_given

  pub values_gain : (es : List PureExpr) (vs : List PureValue) (s t : Store) → match_values scope es vs s ≡ Some t → Gains scope (named_among es) s t
  values_gain [] [] s t is = gains_nothing (named_among []) s t (same_some is)
  values_gain [] (v ∷ vs) s t is = no_value t is
  values_gain (e ∷ es) [] s t is = no_value t is
  values_gain (e ∷ es) (v ∷ vs) s t is = by (λ u. values_gain es vs u t) (match_value scope e v s) refl is
    where
      by : ((u : Store) → match_values scope es vs u ≡ Some t → Gains scope (named_among es) u t) → (o : Option Store) → match_value scope e v s ≡ o → option_and_then (match_values scope es vs) o ≡ Some t → Gains scope (named_among (e ∷ es)) s t
      by later None none is = no_value t is
      by later (Some u) first is =
          gains_then (named_among (e ∷ es)) s u t
          (gains_wider (is_among (names_of e)) (named_among (e ∷ es)) s u (λ x. or_left (is_among (names_of e) x) (named_among es x)) (step_gains e v s u (value_steps e v s u first)))
          (gains_wider (named_among es) (named_among (e ∷ es)) u t (λ x. or_right (is_among (names_of e) x) (named_among es x)) (later u is))

  among_first : (d e : PureExpr) → Within (is_among (names_of d)) (is_among (names_of (binary_of Equal d e)))
  among_first d e x is =
      ap (λ xs. is_among xs x) (flat_map-append own_names (subexpressions d) (subexpressions e))
      ∙ list_any-append (bytes_eq x) (names_of d) (names_of e) ∙ or_left (is_among (names_of d) x) (is_among (names_of e) x) is

  made_second : (d e : PureExpr) → is_well_made_expr (binary_of Equal d e) ≡ true → is_well_made_expr e ≡ true
  made_second d e made = (and_parts (is_well_made_expr d) (is_well_made_expr e) (sym (list_all-append is_well_made_node (subexpressions d) (subexpressions e)) ∙ made)).1

  -- ---- pure items

  -- a name got the value of an expression
  pub record IsValueOf (whole : PureExpr) (s t : Store) : Type 0 where
    pub expr : PureExpr
    pub value : PureValue
    pub var : List ℕ
    pub is_value : evaluate expr s ≡ Ok value
    pub made : is_well_made_expr whole ≡ true → is_well_made_expr expr ≡ true
    pub bound : t ≡ bind var value s
    pub is_given : IsGiven scope (is_among (names_of whole)) s var

  abbrev pub IsPureStep : PureExpr → Store → Store → Type 0
  IsPureStep e s t = (s ≡ t) ⊎ IsValueOf e s t

  equation_steps : (d e : PureExpr) (s t : Store) (o : Option (List ℕ)) → unknown_name s d ≡ o → match_equation o scope d e s ≡ Some t → IsPureStep (binary_of Equal d e) s t
  equation_steps d e s t None unknown is = inl (same_goes scope (evaluate (binary_of Equal d e) s) (boolean true) s t is).1
  equation_steps d e s t (Some x) unknown is = by (evaluate e s) refl is
    where
      bound : (v : PureValue) → evaluate e s ≡ Ok v → IsStep d v s t → IsPureStep (binary_of Equal d e) s t
      bound v value (inl same) = inl same
      bound v value (inr (y, (is_bound, (among, others)))) = inr (record {
        expr = e;
        value = v;
        var = y;
        is_value = value;
        made = made_second d e;
        bound = is_bound;
        is_given = (among_first d e y among, others);
      })

      by : (o : Outcome) → evaluate e s ≡ o → given_outcome scope x o s ≡ Some t → IsPureStep (binary_of Equal d e) s t
      by (Err f) fault is = no_value t is
      by (Ok v) value is = bound v value (given_step d x v s t unknown is)

  guard_steps : (e : PureExpr) (s t : Store) → where_same (evaluate e s) (boolean true) s ≡ Some t → IsPureStep e s t
  guard_steps e s t is = inl (same_goes scope (evaluate e s) (boolean true) s t is).1

  pub pure_steps : (e : PureExpr) (s t : Store) → match_pure scope e s ≡ Some t → IsPureStep e s t
  pure_steps (binary_of Equal d e) s t is = equation_steps d e s t (unknown_name s d) refl is
  pure_steps e s t is = guard_steps e s t is

  pure_gains : (e : PureExpr) (s t : Store) → IsPureStep e s t → Gains scope (is_among (names_of e)) s t
  pure_gains e s t (inl same) = gains_nothing (is_among (names_of e)) s t same
  pure_gains e s t (inr is) = gains_one (is_among (names_of e)) s t is.var is.value is.bound is.is_given

  -- ---- items

  module _ (cases : Cases) where
    outs_gain : (u : PurePredUse) (vs : List PureValue) (t v : Store) → match_values scope u.outs vs t ≡ Some v → Gains scope (named_by_item (uses u)) t v
    outs_gain u vs t v is = gains_wider (named_among u.outs) (named_by_item (uses u)) t v (λ x. or_right (named_among u.ins x) (named_among u.outs x)) (values_gain u.outs vs t v is)

    pure_match_gains : (e : PureExpr) (t : Store) (s : LogicState) (m : ItemMatch) (o : Option Store) → match_pure scope e t ≡ o → pure_match s o ≡ Some m → Gains scope (named_by_item (pure e)) t m.store
    pure_match_gains e t s m None matches is = no_value m is
    pure_match_gains e t s m (Some v) matches is = subst (λ n. Gains scope (named_by_item (pure e)) t n.store) (same_some is) (pure_gains e t v (pure_steps e t v matches))

    key_gains : (u : PurePredUse) (vs : List PureValue) (k : Key) (t : Store) (s : LogicState) (m : ItemMatch) (o : Option Store) → match_values scope u.outs vs t ≡ o → key_match s k o ≡ Some m → Gains scope (named_by_item (uses u)) t m.store
    key_gains u vs k t s m None matches is = no_value m is
    key_gains u vs k t s m (Some v) matches is = subst (λ n. Gains scope (named_by_item (uses u)) t n.store) (same_some is) (outs_gain u vs t v matches)

    held_gains : (u : PurePredUse) (core : Core) (ins : List PureValue) (k : Key) (t : Store) (s : LogicState) (m : ItemMatch) (o : Option PureValue) → match_held scope core ins u.outs k o t s ≡ Some m → Gains scope (named_by_item (uses u)) t m.store
    held_gains u core ins k t s m None is = no_value m is
    held_gains u core ins k t s m (Some v) is = by_entry (entry_of core (ins ++ held core v)) is
      where
        by_test : (b : Bool) → cond b (key_match s k (match_values scope u.outs (held core v) t)) None ≡ Some m → Gains scope (named_by_item (uses u)) t m.store
        by_test false is = no_value m is
        by_test true is = key_gains u (held core v) k t s m (match_values scope u.outs (held core v) t) refl is

        by_entry : (o : Option (Key × PureValue)) → where_entry_is o k v (key_match s k (match_values scope u.outs (held core v) t)) ≡ Some m → Gains scope (named_by_item (uses u)) t m.store
        by_entry None is = no_value m is
        by_entry (Some e) is = by_test (key_eq e.0 k && same_value e.1 v) is

    core_gains : (u : PurePredUse) (core : Core) (ins : List PureValue) (t : Store) (s : LogicState) (m : ItemMatch) (o : Option Key) → match_core scope core ins u.outs o t s ≡ Some m → Gains scope (named_by_item (uses u)) t m.store
    core_gains u core ins t s m None is = no_value m is
    core_gains u core ins t s m (Some k) is = held_gains u core ins k t s m (get s.heap k) is

    fact_gains : (u : PurePredUse) (found : FoundFact) (t : Store) (s : LogicState) (m : ItemMatch) (o : Option Store) → match_values scope u.outs found.fact.outs t ≡ o → fact_match found s o ≡ Some m → Gains scope (named_by_item (uses u)) t m.store
    fact_gains u found t s m None matches is = no_value m is
    fact_gains u found t s m (Some v) matches is = subst (λ n. Gains scope (named_by_item (uses u)) t n.store) (same_some is) (outs_gain u found.fact.outs t v matches)

    case_gains : (u : PurePredUse) (found : CaseMatch) (t : Store) (m : ItemMatch) (o : Option Store) → match_values scope u.outs found.outs t ≡ o → case_match found o ≡ Some m → Gains scope (named_by_item (uses u)) t m.store
    case_gains u found t m None matches is = no_value m is
    case_gains u found t m (Some v) matches is = subst (λ n. Gains scope (named_by_item (uses u)) t n.store) (same_some is) (outs_gain u found.outs t v matches)

    cases_gain : (u : PurePredUse) (t : Store) (m : ItemMatch) (o : Option CaseMatch) → match_case scope u.outs o t ≡ Some m → Gains scope (named_by_item (uses u)) t m.store
    cases_gain u t m None is = no_value m is
    cases_gain u t m (Some found) is = case_gains u found t m (match_values scope u.outs found.outs t) refl is

    user_gains : (u : PurePredUse) (ins : List PureValue) (outs : List (Option PureValue)) (t : Store) (s : LogicState) (m : ItemMatch) (o : Option FoundFact) → match_fact_or cases scope o u ins outs t s ≡ Some m → Gains scope (named_by_item (uses u)) t m.store
    user_gains u ins outs t s m (Some found) is = fact_gains u found t s m (match_values scope u.outs found.fact.outs t) refl is
    user_gains u ins outs t s m None is = cases_gain u t m (cases u.pred ins outs s) is

    use_gains : (u : PurePredUse) (ins : List PureValue) (outs : List (Option PureValue)) (t : Store) (s : LogicState) (m : ItemMatch) (o : Option Core) → match_use cases scope o u ins outs t s ≡ Some m → Gains scope (named_by_item (uses u)) t m.store
    use_gains u ins outs t s m (Some core) is = core_gains u core ins t s m (key_of core ins) is
    use_gains u ins outs t s m None is = user_gains u ins outs t s m (first_fact (fits_fact u.pred ins outs) s.facts) is

    outcomes_gain : (u : PurePredUse) (t : Store) (s : LogicState) (m : ItemMatch) (ins : Outcomes) (outs : Result (List (Option PureValue)) Fault) → match_outcomes cases scope ins outs u t s ≡ Some m → Gains scope (named_by_item (uses u)) t m.store
    outcomes_gain u t s m (Ok ins) (Ok outs) is = use_gains u ins outs t s m (core_of u.pred) is
    outcomes_gain u t s m (Ok ins) (Err f) is = no_value m is
    outcomes_gain u t s m (Err f) outs is = no_value m is

    item_gains : (item : PureItem) (t : Store) (s : LogicState) (m : ItemMatch) → match_item cases scope item t s ≡ Some m → Gains scope (named_by_item item) t m.store
    item_gains (pure e) t s m is = pure_match_gains e t s m (match_pure scope e t) refl is
    item_gains (uses u) t s m is = outcomes_gain u t s m (evaluate_all u.ins t) (known_outs t u.outs) is

    pub items_gain : (n : ℕ) (items : List PureItem) (t : Store) (s : LogicState) (m : Match) → match_from cases scope n items t s ≡ matched m → Gains scope (named_by_items items) t m.store
    items_gain n [] t s m is = gains_nothing (named_by_items []) t m.store (ap (λ x. x.store) (same_match is))
    items_gain n (item ∷ items) t s m is = by_item (λ u v x. items_gain (n + 1) items u v x) (match_item cases scope item t s) refl is
      where
        by_later : ((u : Store) (v : LogicState) (x : Match) → match_from cases scope (n + 1) items u v ≡ matched x → Gains scope (named_by_items items) u x.store) → (i : ItemMatch) → match_item cases scope item t s ≡ Some i → (o : Matching) → match_from cases scope (n + 1) items i.store i.state ≡ o → taken_before i.taken o ≡ matched m → Gains scope (named_by_items (item ∷ items)) t m.store
        by_later each i here (stops k) later is = no_match m is
        by_later each i here (matched x) later is =
            subst (λ y. Gains scope (named_by_items (item ∷ items)) t y.store) (same_match is)
            (gains_then (named_by_items (item ∷ items)) t i.store x.store
            (gains_wider (named_by_item item) (named_by_items (item ∷ items)) t i.store (λ y. or_left (named_by_item item y) (named_by_items items y)) (item_gains item t s i here))
            (gains_wider (named_by_items items) (named_by_items (item ∷ items)) i.store x.store (λ y. or_right (named_by_item item y) (named_by_items items y)) (each i.store i.state x later)))

        by_item : ((u : Store) (v : LogicState) (x : Match) → match_from cases scope (n + 1) items u v ≡ matched x → Gains scope (named_by_items items) u x.store) → (o : Option ItemMatch) → match_item cases scope item t s ≡ o → go_on o n (match_from cases scope (n + 1) items) ≡ matched m → Gains scope (named_by_items (item ∷ items)) t m.store
        by_item each None here is = no_match m is
        by_item each (Some i) here is = by_later each i here (match_from cases scope (n + 1) items i.store i.state) refl is
