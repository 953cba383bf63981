-- On core predicates nothing is chosen: what a part of a heap meets is matched with it, and all else is left.
use Rattle.std.proofs.Common.{◌≡◌, ◌⊎◌, ⊎_elim, inl, inr, ℕ, suc, ◌+◌, List, [], ◌∷◌, ◌++◌, length, Bool, true, false, not, ◌&&◌, ◌||◌, cond, Option, Some, None, Ok, Err, is_some, refl, sym, ap, subst, ◌∙◌, true≢false, arith}
use Rattle.std.specs.Prelude.{nat_eq}
use Rattle.std.specs.List.{list_all, Contains}
use Rattle.std.specs.Option.{option_and_then, option_map, option_or}
use Rattle.std.specs.FinMap.{empty, get, remove, get-insert, get-remove, get-empty}
use Rattle.std.specs.Str.{bytes_eq}
use Rattle.std.proofs.lemmas.Bool.{and_parts}
use Rattle.std.proofs.lemmas.Bool.Decides.{Decides-eqb}
use Rattle.std.proofs.lemmas.Grind.{flat_map-append}
use Rattle.std.proofs.lemmas.List.Folds.{list_any-append}
use Rattle.std.proofs.lemmas.Slice.Eq.{bytes_eq-Decides}
use Rattle.gil_values.specs.declared.operators.BinOp.TheVariants.{Equal}
use Rattle.gil_values.specs.Pure.{PureValue, integer, boolean, text, symbol}
use Rattle.gil_values.specs.Equality.{same_value}
use Rattle.gil_values.specs.EqualityLaws.{same_value-same, same_value-refl}
use Rattle.gil_values.specs.Operators.{Outcome, binary}
use Rattle.gil_syntax.specs.declared.assertions.Param.{Param}
use Rattle.gil_syntax.specs.Pure.{PureExpr, name, logical, binary_of, PurePredUse, PureItem, pure, uses, PurePredDef}
use Rattle.gil_syntax.specs.Subexpressions.{subexpressions, own_names, names_of}
use Rattle.gil_syntax.specs.Valid.{param_names, is_among}
use Rattle.gil_syntax.specs.Evaluation.{Store, bind, value_of, set_or_fault, after_value, Outcomes, both, evaluate, evaluate_all}
use Rattle.gil_syntax.proofs.Names.{depends_on_its_names}
use Rattle.mem_model.specs.declared.cores.Core.{Core}
use Rattle.mem_model.specs.declared.keys.Key.{Key}
use Rattle.mem_model.specs.declared.keys.MemoryName.{MemoryName}
use Rattle.mem_model.specs.CoreNames.{core_of, ins_of}
use Rattle.mem_model.specs.Cores.{entry_of, entry_named, one_key, core_heap}
use Rattle.mem_model.specs.Heaps.{Heap, HasKey}
use Rattle.mem_model.specs.Keys.{key_cmp}
use Rattle.mem_model.specs.KeyOrder.{key_eq, key_cmp-total}
use Rattle.mem_model.proofs.Holding.{same_key, itself, inserted_holds}
use Rattle.mem_model.proofs.Joins.{same_heap, get-joined, has_key}
use Rattle.assert_logic.specs.Names.{Known, knows_all, named_among, named_by_item, named_by_items}
use Rattle.assert_logic.specs.declared.checking.ModeKind.TheVariants.{In, Out, Core as OfMemory}
use Rattle.assert_logic.specs.Laws.{is_core_use, is_core_item}
use Rattle.assert_logic.specs.LogicStates.{Fact, LogicState}
use Rattle.assert_logic.specs.Meets.{UseHolds, UseMeets, ItemMeets, Meets, HoldsSomewhere}
use Rattle.assert_logic.specs.Modes.{Scope, is_foreign, may_become_known, outs_fit, gives_value, either, fault_if, use_fault, item_fault, items_fault, known_at_first, known_after, known_beside}
use Rattle.assert_logic.specs.Sorts.{HasSorts, Extends}
use Rattle.assert_logic.specs.Unions.{IsUnion}
use Rattle.assert_logic.specs.Matching.{given, unless_known, unknown_name, where_same, match_known_or, match_value, match_values, given_outcome, match_equation, match_pure, is_known, known_and, unknown_and, known_outs, Match, ItemMatch, matched, Taken, Cases, pure_match, held, key_of, key_match, where_entry_is, match_held, match_core, match_use, match_outcomes, match_item, go_on, match_from, taken_before}
use Rattle.assert_logic.proofs.AddingLaws.{same_some, no_value}
use Rattle.assert_logic.proofs.AddedFacts.{each_known}
use Rattle.assert_logic.proofs.GivenNames.{Within, or_left, or_right}
use Rattle.assert_logic.proofs.InventionLaws.{each_known as known_of_contained}
use Rattle.assert_logic.proofs.UnionLaws.{only_second, ungrouped}

-- ---- the key of a core predicate

prop_entry : (a b : PureValue) (outs : List PureValue) (k : Key) (w : PureValue) → entry_of Core.Prop (a ∷ b ∷ outs) ≡ Some (k, w) → (key_of Core.Prop (a ∷ b ∷ []) ≡ Some k) × (outs ≡ w ∷ [])
prop_entry (symbol l) (text q) (v ∷ []) k w is = (ap (λ e. Some e.0) (same_some is), ap (λ e. e.1 ∷ []) (same_some is))
prop_entry a b outs k w is = no_value (k, w) is

cell_entry : (a b : PureValue) (outs : List PureValue) (k : Key) (w : PureValue) → entry_of Core.Cell (a ∷ b ∷ outs) ≡ Some (k, w) → (key_of Core.Cell (a ∷ b ∷ []) ≡ Some k) × (outs ≡ w ∷ [])
cell_entry (symbol l) (integer i) (v ∷ []) k w is = (ap (λ e. Some e.0) (same_some is), ap (λ e. e.1 ∷ []) (same_some is))
cell_entry a b outs k w is = no_value (k, w) is

shape_entry : (a : PureValue) (outs : List PureValue) (k : Key) (w : PureValue) → entry_of Core.Shape (a ∷ outs) ≡ Some (k, w) → (key_of Core.Shape (a ∷ []) ≡ Some k) × (outs ≡ w ∷ [])
shape_entry (symbol l) (v ∷ []) k w is = (ap (λ e. Some e.0) (same_some is), ap (λ e. e.1 ∷ []) (same_some is))
shape_entry a outs k w is = no_value (k, w) is

bound_entry : (a : PureValue) (outs : List PureValue) (k : Key) (w : PureValue) → entry_of Core.Bound (a ∷ outs) ≡ Some (k, w) → (key_of Core.Bound (a ∷ []) ≡ Some k) × (outs ≡ w ∷ [])
bound_entry (symbol l) (v ∷ []) k w is = (ap (λ e. Some e.0) (same_some is), ap (λ e. e.1 ∷ []) (same_some is))
bound_entry a outs k w is = no_value (k, w) is

dom_entry : (a : PureValue) (outs : List PureValue) (k : Key) (w : PureValue) → entry_of Core.Dom (a ∷ outs) ≡ Some (k, w) → (key_of Core.Dom (a ∷ []) ≡ Some k) × (outs ≡ w ∷ [])
dom_entry (symbol l) (v ∷ []) k w is = (ap (λ e. Some e.0) (same_some is), ap (λ e. e.1 ∷ []) (same_some is))
dom_entry a outs k w is = no_value (k, w) is

proto_entry : (a : PureValue) (outs : List PureValue) (k : Key) (w : PureValue) → entry_of Core.Proto (a ∷ outs) ≡ Some (k, w) → (key_of Core.Proto (a ∷ []) ≡ Some k) × (outs ≡ w ∷ [])
proto_entry (symbol l) (v ∷ []) k w is = (ap (λ e. Some e.0) (same_some is), ap (λ e. e.1 ∷ []) (same_some is))
proto_entry a outs k w is = no_value (k, w) is

gone_entry : (a : PureValue) (outs : List PureValue) (k : Key) (w : PureValue) → entry_of Core.Gone (a ∷ outs) ≡ Some (k, w) → (key_of Core.Gone (a ∷ []) ≡ Some k) × (outs ≡ [])
gone_entry (symbol l) [] k w is = (ap (λ e. Some e.0) (same_some is), refl)
gone_entry a outs k w is = no_value (k, w) is

one_in : (ins : List PureValue) → length ins ≡ 1 → (a : PureValue) × (ins ≡ a ∷ [])
one_in [] is = absurd (omega (arith, is))
one_in (a ∷ []) is = (a, refl)
one_in (a ∷ b ∷ ins) is = absurd (omega (arith, is))

two_ins : (ins : List PureValue) → length ins ≡ 2 → (a : PureValue) × ((b : PureValue) × (ins ≡ a ∷ b ∷ []))
two_ins [] is = absurd (omega (arith, is))
two_ins (a ∷ []) is = absurd (omega (arith, is))
two_ins (a ∷ b ∷ []) is = (a, (b, refl))
two_ins (a ∷ b ∷ c ∷ ins) is = absurd (omega (arith, is))

abbrev EntrySplits : Core → List PureValue → List PureValue → Key → PureValue → Type 0
EntrySplits core ins outs k w = entry_of core (ins ++ outs) ≡ Some (k, w) → (key_of core ins ≡ Some k) × (outs ≡ held core w)

pub entry_splits : (core : Core) (ins outs : List PureValue) (k : Key) (w : PureValue) → length ins ≡ ins_of core → EntrySplits core ins outs k w
entry_splits Core.Prop ins outs k w n = let (a, (b, is)) = two_ins ins n in subst (λ vs. EntrySplits Core.Prop vs outs k w) (sym is) (prop_entry a b outs k w)
entry_splits Core.Cell ins outs k w n = let (a, (b, is)) = two_ins ins n in subst (λ vs. EntrySplits Core.Cell vs outs k w) (sym is) (cell_entry a b outs k w)
entry_splits Core.Shape ins outs k w n = let (a, is) = one_in ins n in subst (λ vs. EntrySplits Core.Shape vs outs k w) (sym is) (shape_entry a outs k w)
entry_splits Core.Bound ins outs k w n = let (a, is) = one_in ins n in subst (λ vs. EntrySplits Core.Bound vs outs k w) (sym is) (bound_entry a outs k w)
entry_splits Core.Dom ins outs k w n = let (a, is) = one_in ins n in subst (λ vs. EntrySplits Core.Dom vs outs k w) (sym is) (dom_entry a outs k w)
entry_splits Core.Proto ins outs k w n = let (a, is) = one_in ins n in subst (λ vs. EntrySplits Core.Proto vs outs k w) (sym is) (proto_entry a outs k w)
entry_splits Core.Gone ins outs k w n = let (a, is) = one_in ins n in subst (λ vs. EntrySplits Core.Gone vs outs k w) (sym is) (gone_entry a outs k w)

evaluated_length : (s : Store) (es : List PureExpr) (vs : List PureValue) → evaluate_all es s ≡ Ok vs → length vs ≡ length es
evaluated_length s [] [] is = refl
evaluated_length s [] (v ∷ vs) is = absurd (cc)
evaluated_length s (e ∷ es) vs is = by (evaluate e s) (evaluate_all es s) refl is (evaluated_length s es)
  where
    by : (o : Outcome) (os : Outcomes) → evaluate_all es s ≡ os → both o os ≡ Ok vs → ((ws : List PureValue) → evaluate_all es s ≡ Ok ws → length ws ≡ length es) → length vs ≡ suc (length es)
    by (Ok v) (Ok ws) rest found each = let same : v ∷ ws ≡ vs = cc in ap length (sym same) ∙ ap suc (each ws rest)
    by (Ok v) (Err f) rest found each = absurd (cc)
    by (Err f) os rest found each = absurd (cc)

-- ---- a heap without the key

held_there : (h rest : Heap) (k : Key) (w : PureValue) → IsUnion h (one_key k w) rest → get h k ≡ Some w
held_there h rest k w u = ap (λ x. get x k) u.union ∙ get-joined (one_key k w) rest k ∙ ap (λ o. option_or o (get rest k)) (inserted_holds empty k w)

without_key : (h rest : Heap) (k : Key) (w : PureValue) → IsUnion h (one_key k w) rest → remove h k ≡ rest
without_key h rest k w u = same_heap (remove h k) rest (λ q. get-remove key_cmp-total h k q ∙ by q (key_eq q k) refl)
  where
    lacks : (q : Key) → q ≡ k → (o : Option PureValue) → get rest q ≡ o → o ≡ None
    lacks q same None at = refl
    lacks q same (Some v) at = absurd (u.disjoint k (has_key (one_key k w) k w (inserted_holds empty k w)) (subst (HasKey rest) same (has_key rest q v at)))

    by : (q : Key) (b : Bool) → key_eq q k ≡ b → cond b None (get h q) ≡ get rest q
    by q true same = sym (lacks q (same_key q k same) (get rest q) refl)
    by q false other =
        ap (λ x. get x q) u.union ∙ get-joined (one_key k w) rest q
        ∙ ap (λ o. option_or o (get rest q)) (get-insert key_cmp-total empty k w q ∙ ap (λ b. cond b (Some w) (get (empty {X = PureValue} {R = key_cmp}) q)) other ∙ get-empty key_cmp q)

-- ---- what is known

abbrev HasValue : Store → List ℕ → Type 0
HasValue t x = is_some (value_of t x) ≡ true

abbrev IsReady : Store → PureExpr → Type 0
IsReady t e = (x : List ℕ) → is_among (names_of e) x ≡ true → HasValue t x

no_none : (t : Store) (x : List ℕ) {P : Type 0} → HasValue t x → value_of t x ≡ None → P
no_none t x has none = absurd (true≢false (sym has ∙ ap is_some none))

among_contained : (xs : List (List ℕ)) (x : List ℕ) → Contains xs x → is_among xs x ≡ true
among_contained xs x has = known_of_contained (is_among xs) xs (each_known (is_among xs) xs (λ y is. is)) x has

one_of : (a b : Bool) → (a || b) ≡ true → (a ≡ true) ⊎ (b ≡ true)
one_of true b is = inl refl
one_of false b is = inr is

-- each name of the list passes
among_passes : (known : Known) (xs : List (List ℕ)) → list_all known xs ≡ true → Within (is_among xs) known
among_passes known [] all x is = absurd (true≢false (sym is))
among_passes known (y ∷ ys) all x is =
    let (here, there) = and_parts (known y) (list_all known ys) all in
    ⊎_elim (λ same. ap known ((bytes_eq-Decides x y).0 same) ∙ here) (among_passes known ys there x) (one_of (bytes_eq x y) (is_among ys x) is)

module _ (store : Store) (declared : List Param) (sorts : HasSorts declared store) (named : Known) where
  -- The store of the match has values of the whole one alone, and each name that it lacks may get one.
  pub record IsPart (t : Store) : Type 0 where
    pub within : Extends t store
    pub declares : (x : List ℕ) → named x ≡ true → value_of t x ≡ None → is_among (param_names declared) x ≡ true

  same_there : (t : Store) (e : PureExpr) → IsPart t → IsReady t e → evaluate e t ≡ evaluate e store
  same_there t e part ready = depends_on_its_names e t store (λ x has. same x (value_of t x) refl (ready x (among_contained (names_of e) x has)))
    where
      same : (x : List ℕ) (o : Option PureValue) → value_of t x ≡ o → HasValue t x → value_of t x ≡ value_of store x
      same x None at has = no_none t x has at
      same x (Some v) at has = at ∙ sym (part.within x v at)

  record IsFurther (s t : Store) : Type 0 where
    extends : Extends s t
    part : IsPart t

  nowhere : (t : Store) → IsPart t → IsFurther t t
  nowhere t part = record { extends = λ x v is. is; part = part }

  further : (s t u : Store) → IsFurther s t → IsFurther t u → IsFurther s u
  further s t u first second = record { extends = λ x v is. second.extends x v (first.extends x v is); part = second.part }

  stays_ready : (s t : Store) (e : PureExpr) → Extends s t → IsReady s e → IsReady t e
  stays_ready s t e extends ready x among = by (value_of s x) refl (ready x among)
    where
      by : (o : Option PureValue) → value_of s x ≡ o → HasValue s x → HasValue t x
      by None at has = no_none s x has at
      by (Some v) at has = ap is_some (extends x v at)

  -- ---- a value for a name

  record IsGivenTo (x : List ℕ) (v : PureValue) (s : Store) : Type 0 where
    after : Store
    is : given declared x v s ≡ Some after
    goes : IsFurther s after
    has : HasValue after x

  name_given : (x : List ℕ) (v : PureValue) (s : Store) → IsPart s → named x ≡ true → value_of s x ≡ None → value_of store x ≡ Some v → IsGivenTo x v s
  name_given x v s part among none at = record {
    after = bind x v s;
    is = (λ i. cond (part.declares x among none i && sorts x v at i) (Some (bind x v s)) None);
    goes = record {
      extends = λ y w is. old y w (bytes_eq x y) refl is;
      part = record { within = λ y w is. within y w (bytes_eq x y) refl is; declares = λ y is_named is. declares y (bytes_eq x y) is_named is };
    };
    has = ap (λ b. is_some (cond b (Some v) (value_of s x))) ((bytes_eq-Decides x x).1 refl);
  }
    where
      old : (y : List ℕ) (w : PureValue) (b : Bool) → bytes_eq x y ≡ b → value_of s y ≡ Some w → cond b (Some v) (value_of s y) ≡ Some w
      old y w true same is = no_value w (sym (ap (value_of s) (sym ((bytes_eq-Decides x y).0 same)) ∙ none) ∙ is)
      old y w false other is = is

      within : (y : List ℕ) (w : PureValue) (b : Bool) → bytes_eq x y ≡ b → cond b (Some v) (value_of s y) ≡ Some w → value_of store y ≡ Some w
      within y w true same is = ap (value_of store) (sym ((bytes_eq-Decides x y).0 same)) ∙ at ∙ is
      within y w false other is = part.within y w is

      declares : (y : List ℕ) (b : Bool) → named y ≡ true → cond b (Some v) (value_of s y) ≡ None → is_among (param_names declared) y ≡ true
      declares y true is_named is = no_value v (sym is)
      declares y false is_named is = part.declares y is_named is

  record IsMatchedValue (e : PureExpr) (v : PureValue) (s : Store) : Type 0 where
    after : Store
    is : match_value declared e v s ≡ Some after
    goes : IsFurther s after
    ready : IsReady after e

  -- what a name is, or has values throughout
  abbrev is_name : PureExpr → Bool
  is_name (name x) = true
  is_name (logical x) = true
  is_name _ = false

  same_outcome : (o : Outcome) (v : PureValue) (s : Store) → o ≡ Ok v → where_same o v s ≡ Some s
  same_outcome o v s is = ap (λ r. where_same r v s) is ∙ ap (λ b. cond b (Some s) None) (same_value-refl v)

  known_matched : (e : PureExpr) (v : PureValue) (s : Store) → IsPart s → IsReady s e → unknown_name s e ≡ None → evaluate e store ≡ Ok v → IsMatchedValue e v s
  known_matched e v s part ready known is = record {
    after = s;
    is = ap (λ o. match_known_or o declared e v s) known ∙ same_outcome (evaluate e s) v s (same_there s e part ready ∙ is);
    goes = nowhere s part;
    ready = ready;
  }

  set_value : (x : List ℕ) (v : PureValue) → set_or_fault (value_of store x) ≡ Ok v → value_of store x ≡ Some v
  set_value x v = by (value_of store x)
    where
      by : (o : Option PureValue) → set_or_fault o ≡ Ok v → o ≡ Some v
      by None is = absurd (cc)
      by (Some w) is = let same : w ≡ v = cc in ap Some same

  only_one : (x y : List ℕ) → is_among (x ∷ []) y ≡ true → y ≡ x
  only_one x y is = ⊎_elim (λ same. (bytes_eq-Decides y x).0 same) (λ none. absurd (true≢false (sym none))) (one_of (bytes_eq y x) false is)

  unless_none : (x : List ℕ) (s : Store) → HasValue s x → unless_known s x ≡ None
  unless_none x s has = ap (λ b. cond b None (Some x)) has

  unless_some : (x : List ℕ) (s : Store) → value_of s x ≡ None → unless_known s x ≡ Some x
  unless_some x s none = ap (λ o. cond (is_some o) None (Some x)) none

  -- a name, of which the expression says its one name and its value
  one_name_matched : (e : PureExpr) (x : List ℕ) (v : PureValue) (s : Store) → IsPart s → named x ≡ true → ((y : List ℕ) → is_among (names_of e) y ≡ true → y ≡ x) → unknown_name s e ≡ unless_known s x → value_of store x ≡ Some v → evaluate e store ≡ Ok v → IsMatchedValue e v s
  one_name_matched e x v s part among only unknown at is = by (value_of s x) refl
    where
      by : (o : Option PureValue) → value_of s x ≡ o → IsMatchedValue e v s
      by (Some w) value = known_matched e v s part (λ y is_in. ap is_some (ap (value_of s) (only y is_in) ∙ value)) (unknown ∙ unless_none x s (ap is_some value)) is
      by None value =
          let g = name_given x v s part among value at in
          record {
            after = g.after;
            is = ap (λ o. match_known_or o declared e v s) (unknown ∙ unless_some x s value) ∙ g.is;
            goes = g.goes;
            ready = λ y is_in. subst (HasValue g.after) (sym (only y is_in)) g.has;
          }

  value_matched : (e : PureExpr) (v : PureValue) (s : Store) → IsPart s → Within (is_among (names_of e)) named → (is_name e ≡ true) ⊎ IsReady s e → evaluate e store ≡ Ok v → IsMatchedValue e v s
  value_matched (name x) v s part among how is = one_name_matched (name x) x v s part (among x (ap (λ b. b || false) ((bytes_eq-Decides x x).1 refl))) (only_one x) refl (set_value x v is) is
  value_matched (logical x) v s part among how is = one_name_matched (logical x) x v s part (among x (ap (λ b. b || false) ((bytes_eq-Decides x x).1 refl))) (only_one x) refl (set_value x v is) is
  value_matched e v s part among (inr ready) is = known_matched e v s part ready refl is
  value_matched e v s part among (inl is_one) is = absurd (true≢false (sym is_one))

  -- ---- outs

  -- these names have values
  abbrev Knows : Store → Known → Type 0
  Knows t known = (x : List ℕ) → named x ≡ true → known x ≡ true → HasValue t x

  ready_if_known : (t : Store) (known : Known) (e : PureExpr) → Knows t known → Within (is_among (names_of e)) named → knows_all known e ≡ true → IsReady t e
  ready_if_known t known e knows among all x is = knows x (among x is) (among_passes known (names_of e) all x is)

  name_if_may : (scope : Scope) (e : PureExpr) → may_become_known scope e ≡ true → is_name e ≡ true
  name_if_may scope (name x) is = refl
  name_if_may scope (logical x) is = refl
  name_if_may scope e is = absurd (true≢false (sym is))

  knows_longer : (s t : Store) (known : Known) → Extends s t → Knows s known → Knows t known
  knows_longer s t known extends knows x is_named is = by (value_of s x) refl (knows x is_named is)
    where
      by : (o : Option PureValue) → value_of s x ≡ o → HasValue s x → HasValue t x
      by None at has = no_none s x has at
      by (Some v) at has = ap is_some (extends x v at)

  record AreMatched (es : List PureExpr) (vs : List PureValue) (s : Store) : Type 0 where
    after : Store
    is : match_values declared es vs s ≡ Some after
    goes : IsFurther s after
    ready : (x : List ℕ) → named_among es x ≡ true → HasValue after x

  same_head : (w v : PureValue) (ws vs : List PureValue) → ◌≡◌ {A = Outcomes} (Ok (w ∷ ws)) (Ok (v ∷ vs)) → (w ≡ v) × (ws ≡ vs)
  same_head w v ws vs is = (cc, cc)

  both_parts : (o : Outcome) (os : Outcomes) (v : PureValue) (vs : List PureValue) → both o os ≡ Ok (v ∷ vs) → (o ≡ Ok v) × (os ≡ Ok vs)
  both_parts (Ok w) (Ok ws) v vs is = let (first, later) = same_head w v ws vs is in (ap Ok first, ap Ok later)
  both_parts (Ok w) (Err f) v vs is = absurd (cc)
  both_parts (Err f) os v vs is = absurd (cc)

  none_empty : (o : Outcome) (os : Outcomes) → both o os ≡ Ok [] → ⊥
  none_empty (Ok w) (Ok ws) is = absurd (cc)
  none_empty (Ok w) (Err f) is = absurd (cc)
  none_empty (Err f) os is = absurd (cc)

  module _ (scope : Scope) (known : Known) where
    outs_matched : (before es : List PureExpr) (vs : List PureValue) (s : Store) → IsPart s → Within (named_among es) named → Knows s (known_beside known before) → outs_fit scope known before es ≡ true → evaluate_all es store ≡ Ok vs → AreMatched es vs s
    outs_matched before [] [] s part among knows fit is = record { after = s; is = refl; goes = nowhere s part; ready = λ x none. absurd (true≢false (sym none)) }
    outs_matched before [] (v ∷ vs) s part among knows fit is = absurd (cc)
    outs_matched before (e ∷ es) [] s part among knows fit is = absurd (none_empty (evaluate e store) (evaluate_all es store) is)
    outs_matched before (e ∷ es) (v ∷ vs) s part among knows fit is =
        let (here, there) = both_parts (evaluate e store) (evaluate_all es store) v vs is in
        let (fits, later) = and_parts (knows_all (known_beside known before) e || may_become_known scope e) (outs_fit scope known (before ++ e ∷ []) es) fit in
        let among_here : Within (is_among (names_of e)) named = λ x is_in. among x (or_left (is_among (names_of e) x) (named_among es x) is_in) in
        let how : (is_name e ≡ true) ⊎ IsReady s e =
        ⊎_elim (λ all. inr (ready_if_known s (known_beside known before) e knows among_here all)) (λ may. inl (name_if_may scope e may)) (one_of (knows_all (known_beside known before) e) (may_become_known scope e) fits) in
        let first = value_matched e v s part among_here how here in
        let rest = outs_matched (before ++ e ∷ []) es vs first.after first.goes.part (λ x is_in. among x (or_right (is_among (names_of e) x) (named_among es x) is_in)) (knows_more first) later there in
        record {
          after = rest.after;
          is = ap (λ o. option_and_then (match_values declared es vs) o) first.is ∙ rest.is;
          goes = further s first.after rest.after first.goes rest.goes;
          ready = λ x is_in. ⊎_elim (λ in_e. stays_ready first.after rest.after e rest.goes.extends first.ready x in_e) (rest.ready x) (one_of (is_among (names_of e) x) (named_among es x) is_in);
        }
      where
        before_parts : (x : List ℕ) → named_among (before ++ e ∷ []) x ≡ true → (named_among before x ≡ true) ⊎ (is_among (names_of e) x ≡ true)
        before_parts x is =
            ⊎_elim inl (λ last. ⊎_elim inr (λ none. absurd (true≢false (sym none))) (one_of (is_among (names_of e) x) false last))
            (one_of (named_among before x) (named_among (e ∷ []) x) (sym (list_any-append (λ d. is_among (names_of d) x) before (e ∷ [])) ∙ is))

        knows_more : (first : IsMatchedValue e v s) → Knows first.after (known_beside known (before ++ e ∷ []))
        knows_more first x is_named is =
            ⊎_elim (λ in_before. ⊎_elim (λ old. knows_longer s first.after (known_beside known before) first.goes.extends knows x is_named (or_left (named_among before x) (known x) old)) (first.ready x) (before_parts x in_before))
            (λ old. knows_longer s first.after (known_beside known before) first.goes.extends knows x is_named (or_right (named_among before x) (known x) old)) (one_of (named_among (before ++ e ∷ []) x) (known x) is)

  -- the outs that are known have values
  known_outs_are : (es : List PureExpr) (vs : List PureValue) (s : Store) → IsPart s → evaluate_all es store ≡ Ok vs → (ks : List (Option PureValue)) × (known_outs s es ≡ Ok ks)
  known_outs_are [] vs s part is = ([], refl)
  known_outs_are (e ∷ es) [] s part is = absurd (none_empty (evaluate e store) (evaluate_all es store) is)
  known_outs_are (e ∷ es) (v ∷ vs) s part is =
      let (here, there) = both_parts (evaluate e store) (evaluate_all es store) v vs is in
      let (ks, rest) = known_outs_are es vs s part there in
      by ks rest here (is_known s e) refl
    where
      by : (ks : List (Option PureValue)) → known_outs s es ≡ Ok ks → evaluate e store ≡ Ok v → (b : Bool) → is_known s e ≡ b → (js : List (Option PureValue)) × (cond b (known_and (evaluate e s) (known_outs s es)) (unknown_and (known_outs s es)) ≡ Ok js)
      by ks rest here false unknown = (None ∷ ks, ap unknown_and rest)
      by ks rest here true all =
          let value = same_there s e part (among_passes (λ x. is_some (value_of s x)) (names_of e) all) ∙ here in
          (Some v ∷ ks, λ i. known_and (value i) (rest i))

  ins_are : (es : List PureExpr) (vs : List PureValue) (s : Store) (known : Known) → IsPart s → Within (named_among es) named → Knows s known → list_all (knows_all known) es ≡ true → evaluate_all es store ≡ Ok vs → evaluate_all es s ≡ Ok vs
  ins_are [] vs s known part among knows all is = is
  ins_are (e ∷ es) [] s known part among knows all is = absurd (none_empty (evaluate e store) (evaluate_all es store) is)
  ins_are (e ∷ es) (v ∷ vs) s known part among knows all is =
      let (here, there) = both_parts (evaluate e store) (evaluate_all es store) v vs is in
      let (known_here, known_there) = and_parts (knows_all known e) (list_all (knows_all known) es) all in
      let first = same_there s e part (ready_if_known s known e knows (λ x is_in. among x (or_left (is_among (names_of e) x) (named_among es x) is_in)) known_here) ∙ here in
      let rest = ins_are es vs s known part (λ x is_in. among x (or_right (is_among (names_of e) x) (named_among es x) is_in)) knows known_there there in
      λ i. both (first i) (rest i)

  all_ready : (es : List PureExpr) (s : Store) (known : Known) → Within (named_among es) named → Knows s known → list_all (knows_all known) es ≡ true → (x : List ℕ) → named_among es x ≡ true → HasValue s x
  all_ready [] s known among knows all x is = absurd (true≢false (sym is))
  all_ready (e ∷ es) s known among knows all x is =
      let (known_here, known_there) = and_parts (knows_all known e) (list_all (knows_all known) es) all in
      ⊎_elim (ready_if_known s known e knows (λ y is_in. among y (or_left (is_among (names_of e) y) (named_among es y) is_in)) known_here x)
      (all_ready es s known (λ y is_in. among y (or_right (is_among (names_of e) y) (named_among es y) is_in)) knows known_there x) (one_of (is_among (names_of e) x) (named_among es x) is)

  -- ---- items

  record IsMatchedItem (cases : Cases) (item : PureItem) (s : Store) (whole rest : Heap) (facts : List Fact) : Type 0 where
    found : ItemMatch
    is : match_item cases declared item s (record { heap = whole; facts = facts }) ≡ Some found
    left : found.state ≡ record { heap = rest; facts = facts }
    goes : IsFurther s found.store
    ready : (x : List ℕ) → named_by_item item x ≡ true → HasValue found.store x

  no_fault_if : (b : Bool) (kind : _) → fault_if b kind ≡ None → b ≡ false
  no_fault_if true kind is = no_value kind (sym is)
  no_fault_if false kind is = refl

  isnt_not : (b : Bool) → not b ≡ false → b ≡ true
  isnt_not true is = refl
  isnt_not false is = absurd (true≢false is)

  either_none : (o later : Option _) → either o later ≡ None → (o ≡ None) × (later ≡ None)
  either_none (Some why) later is = no_value why (sym is)
  either_none None later is = (refl, is)

  module _ (cases : Cases) (scope : Scope) (memory : MemoryName) (known : Known) (s : Store) (part : IsPart s) (knows : Knows s known) (facts : List Fact) where
    use_matched : (preds : List PurePredDef) (u : PurePredUse) (core : Core) (whole heap rest : Heap) → core_of u.pred ≡ Some core → nat_eq (length u.ins) (ins_of core) ≡ true → use_fault memory scope known u ≡ None → Within (named_by_item (uses u)) named
        → UseMeets (HoldsSomewhere preds) store u heap → IsUnion whole heap rest → IsMatchedItem cases (uses u) s whole rest facts
    use_matched preds u core whole heap rest is_core as_many reads among m union = by_entry (entry_of core (m.ins ++ m.outs)) refl
      where
        stands : core_heap u.pred (m.ins ++ m.outs) ≡ Some heap
        stands = subst (λ o. UseHolds (HoldsSomewhere preds) o u.pred m.ins m.outs heap) is_core m.holds_there

        entry_heap : option_map (λ e. one_key e.0 e.1) (entry_of core (m.ins ++ m.outs)) ≡ Some heap
        entry_heap = sym (ap (λ o. option_map (λ e. one_key e.0 e.1) (entry_named o (m.ins ++ m.outs))) is_core) ∙ stands

        found_so : (k : Key) (w : PureValue) → entry_of core (m.ins ++ m.outs) ≡ Some (k, w) → IsMatchedItem cases (uses u) s whole rest facts
        found_so k w entry =
            let (no_in, others) = either_none (fault_if (not (list_all (knows_all known) u.ins)) In) (either (fault_if (not (outs_fit scope known [] u.outs)) Out) (fault_if (is_foreign memory u.pred) OfMemory)) reads in
            let (no_out, last) = either_none (fault_if (not (outs_fit scope known [] u.outs)) Out) (fault_if (is_foreign memory u.pred) OfMemory) others in
            let known_ins = isnt_not (list_all (knows_all known) u.ins) (no_fault_if (not (list_all (knows_all known) u.ins)) In no_in) in
            let fit_outs = isnt_not (outs_fit scope known [] u.outs) (no_fault_if (not (outs_fit scope known [] u.outs)) Out no_out) in
            let among_ins : Within (named_among u.ins) named = λ x is_in. among x (or_left (named_among u.ins x) (named_among u.outs x) is_in) in
            let among_outs : Within (named_among u.outs) named = λ x is_in. among x (or_right (named_among u.ins x) (named_among u.outs x) is_in) in
            let size : length m.ins ≡ ins_of core = evaluated_length store u.ins m.ins m.ins_are ∙ (Decides-eqb (length u.ins) (ins_of core)).0 as_many in
            let (key_is, outs_are) = entry_splits core m.ins m.outs k w size entry in
            let one : one_key k w ≡ heap = same_some (sym (ap (option_map (λ e. one_key e.0 e.1)) entry) ∙ entry_heap) in
            let only : IsUnion whole (one_key k w) rest = subst (λ h. IsUnion whole h rest) (sym one) union in
            let ins_here = ins_are u.ins m.ins s known part among_ins knows known_ins m.ins_are in
            let (ks, outs_here) = known_outs_are u.outs m.outs s part m.outs_are in
            let values = outs_matched scope known [] u.outs m.outs s part among_outs knows fit_outs m.outs_are in
            let st : LogicState = record { heap = whole; facts = facts } in
            let entry_again : entry_of core (m.ins ++ held core w) ≡ Some (k, w) = ap (λ vs. entry_of core (m.ins ++ vs)) (sym outs_are) ∙ entry in
            let held_values : match_values declared u.outs (held core w) s ≡ Some values.after = ap (λ vs. match_values declared u.outs vs s) (sym outs_are) ∙ values.is in
            let tests : (key_eq k k && same_value w w) ≡ true = (λ i. itself k i && same_value-refl w i) in
            record {
              found = record { store = values.after; state = record { heap = remove whole k; facts = facts }; taken = Taken.took_key k };
              is = (λ i. match_outcomes cases declared (ins_here i) (outs_here i) u s st)
                  ∙ ap (λ o. match_use cases declared o u m.ins ks s st) is_core
                  ∙ ap (λ o. match_core declared core m.ins u.outs o s st) key_is
                  ∙ ap (λ o. match_held declared core m.ins u.outs k o s st) (held_there whole rest k w only)
                  ∙ ap (λ o. where_entry_is o k w (key_match st k (match_values declared u.outs (held core w) s))) entry_again
                  ∙ ap (λ b. cond b (key_match st k (match_values declared u.outs (held core w) s)) None) tests
                  ∙ ap (key_match st k) held_values;
              left = λ i. record { heap = without_key whole rest k w only i; facts = facts };
              goes = values.goes;
              ready = λ x is_in. ⊎_elim (λ in_ins. knows_longer s values.after (named_among u.ins) values.goes.extends (λ y is_named in_them. all_ready u.ins s known among_ins knows known_ins y in_them) x (among_ins x in_ins) in_ins) (values.ready x)
                  (one_of (named_among u.ins x) (named_among u.outs x) is_in);
            }

        by_entry : (o : Option (Key × PureValue)) → entry_of core (m.ins ++ m.outs) ≡ o → IsMatchedItem cases (uses u) s whole rest facts
        by_entry None entry = no_value heap (sym (ap (option_map (λ e. one_key e.0 e.1)) entry) ∙ entry_heap)
        by_entry (Some e) entry = found_so e.0 e.1 entry

    -- ---- pure items

    whole_is_rest : (whole heap rest : Heap) → IsUnion whole heap rest → heap ≡ empty → whole ≡ rest
    whole_is_rest whole heap rest u none = only_second whole heap rest u none

    record IsMatchedPure (e : PureExpr) : Type 0 where
      after : Store
      is : match_pure declared e s ≡ Some after
      goes : IsFurther s after
      ready : IsReady after e

    guard_matched : (e : PureExpr) → match_pure declared e s ≡ where_same (evaluate e s) (boolean true) s → IsReady s e → evaluate e store ≡ Ok (boolean true) → IsMatchedPure e
    guard_matched e so ready is = record {
      after = s;
      is = so ∙ same_outcome (evaluate e s) (boolean true) s (same_there s e part ready ∙ is);
      goes = nowhere s part;
      ready = ready;
    }

    ready_known : (e : PureExpr) → Within (is_among (names_of e)) named → knows_all known e ≡ true → IsReady s e
    ready_known e among all = ready_if_known s known e knows among all

    sides : (d e : PureExpr) (t : Store) → IsReady t d → IsReady t e → IsReady t (binary_of Equal d e)
    sides d e t left right x is =
        ⊎_elim (left x) (right x) (one_of (is_among (names_of d) x) (is_among (names_of e) x) (sym (ap (λ xs. is_among xs x) (flat_map-append own_names (subexpressions d) (subexpressions e)) ∙ list_any-append (bytes_eq x) (names_of d) (names_of e)) ∙ is))

    in_left : (d e : PureExpr) → Within (is_among (names_of d)) (is_among (names_of (binary_of Equal d e)))
    in_left d e x is = ap (λ xs. is_among xs x) (flat_map-append own_names (subexpressions d) (subexpressions e)) ∙ list_any-append (bytes_eq x) (names_of d) (names_of e) ∙ or_left (is_among (names_of d) x) (is_among (names_of e) x) is

    in_right : (d e : PureExpr) → Within (is_among (names_of e)) (is_among (names_of (binary_of Equal d e)))
    in_right d e x is = ap (λ xs. is_among xs x) (flat_map-append own_names (subexpressions d) (subexpressions e)) ∙ list_any-append (bytes_eq x) (names_of d) (names_of e) ∙ or_right (is_among (names_of d) x) (is_among (names_of e) x) is

    equal_values : (o q : Outcome) → after_value o (λ v. after_value q (binary Equal v)) ≡ Ok (boolean true) → (v : PureValue) × ((o ≡ Ok v) × (q ≡ Ok v))
    equal_values (Ok v) (Ok w) is = (v, (refl, ap Ok (sym (same_value-same v w (same_test (same_value v w) is)))))
      where
        same_test : (b : Bool) → ◌≡◌ {A = Outcome} (Ok (boolean b)) (Ok (boolean true)) → b ≡ true
        same_test true is = refl
        same_test false is = absurd (cc)
    equal_values (Ok v) (Err f) is = absurd (cc)
    equal_values (Err f) q is = absurd (cc)

    -- a name that gets the value of the other side
    name_equals : (d e : PureExpr) (x : List ℕ) → Within (is_among (names_of (binary_of Equal d e))) named → unknown_name s d ≡ unless_known s x → ((y : List ℕ) → is_among (names_of d) y ≡ true → y ≡ x) → is_among (names_of d) x ≡ true
        → ((v : PureValue) → evaluate d store ≡ Ok v → value_of store x ≡ Some v) → IsReady s e → evaluate (binary_of Equal d e) store ≡ Ok (boolean true) → IsMatchedPure (binary_of Equal d e)
    name_equals d e x among unknown only has_x value_is ready is = by (value_of s x) refl
      where
        by : (o : Option PureValue) → value_of s x ≡ o → IsMatchedPure (binary_of Equal d e)
        by (Some w) value =
            guard_matched (binary_of Equal d e) (ap (λ o. match_equation o declared d e s) (unknown ∙ unless_none x s (ap is_some value)))
            (sides d e s (λ y is_in. ap is_some (ap (value_of s) (only y is_in) ∙ value)) ready) is
        by None value =
            let (v, (left, right)) = equal_values (evaluate d store) (evaluate e store) is in
            let g = name_given x v s part (among x (in_left d e x has_x)) value (value_is v left) in
            record {
              after = g.after;
              is = ap (λ o. match_equation o declared d e s) (unknown ∙ unless_some x s value) ∙ ap (λ o. given_outcome declared x o s) (same_there s e part ready ∙ right) ∙ g.is;
              goes = g.goes;
              ready = sides d e g.after (λ y is_in. subst (HasValue g.after) (sym (only y is_in)) g.has) (stays_ready s g.after e g.goes.extends ready);
            }

    right_ready : (d e : PureExpr) → Within (is_among (names_of (binary_of Equal d e))) named → (knows_all known (binary_of Equal d e) || (may_become_known scope d && knows_all known e)) ≡ true → IsReady s e
    right_ready d e among reads =
        ⊎_elim (λ all x is_in. ready_known (binary_of Equal d e) among all x (in_right d e x is_in))
        (λ gives. ready_known e (λ x is_in. among x (in_right d e x is_in)) (and_parts (may_become_known scope d) (knows_all known e) gives).1) (one_of (knows_all known (binary_of Equal d e)) (may_become_known scope d && knows_all known e) reads)

    no_name_gives : (d e : PureExpr) → is_name d ≡ false → (knows_all known (binary_of Equal d e) || (may_become_known scope d && knows_all known e)) ≡ true → knows_all known (binary_of Equal d e) ≡ true
    no_name_gives d e isnt reads =
        ⊎_elim (λ all. all) (λ gives. absurd (true≢false (sym (name_if_may scope d (and_parts (may_become_known scope d) (knows_all known e) gives).0) ∙ isnt)))
        (one_of (knows_all known (binary_of Equal d e)) (may_become_known scope d && knows_all known e) reads)

    equation_matched : (d e : PureExpr) → Within (is_among (names_of (binary_of Equal d e))) named → (knows_all known (binary_of Equal d e) || (may_become_known scope d && knows_all known e)) ≡ true → evaluate (binary_of Equal d e) store ≡ Ok (boolean true) → IsMatchedPure (binary_of Equal d e)
    equation_matched (name x) e among reads is =
        name_equals (name x) e x among refl (only_one x) (ap (λ b. b || false) ((bytes_eq-Decides x x).1 refl)) (set_value x) (right_ready (name x) e among reads) is
    equation_matched (logical x) e among reads is =
        name_equals (logical x) e x among refl (only_one x) (ap (λ b. b || false) ((bytes_eq-Decides x x).1 refl)) (set_value x) (right_ready (logical x) e among reads) is
    equation_matched d e among reads is = guard_matched (binary_of Equal d e) refl (ready_known (binary_of Equal d e) among (no_name_gives d e refl reads)) is

    only_known : (a : Bool) → (a || false) ≡ true → a ≡ true
    only_known true is = refl
    only_known false is = is

    pure_matched : (e : PureExpr) → Within (is_among (names_of e)) named → (knows_all known e || gives_value scope known e) ≡ true → evaluate e store ≡ Ok (boolean true) → IsMatchedPure e
    pure_matched (binary_of Equal d e) among reads is = equation_matched d e among reads is
    pure_matched e among reads is = guard_matched e refl (ready_known e among (only_known (knows_all known e) reads)) is

    item_matched : (preds : List PurePredDef) (item : PureItem) (whole heap rest : Heap) → is_core_item item ≡ true → item_fault memory scope known item ≡ None → Within (named_by_item item) named → ItemMeets (HoldsSomewhere preds) store item heap → IsUnion whole heap rest
        → IsMatchedItem cases item s whole rest facts
    item_matched preds (pure e) whole heap rest core reads among meets union =
        let m = pure_matched e among (isnt_not (knows_all known e || gives_value scope known e) (no_fault_if (not (knows_all known e || gives_value scope known e)) In reads)) meets.0 in
        record {
          found = record { store = m.after; state = record { heap = whole; facts = facts }; taken = Taken.took_nothing };
          is = ap (pure_match (record { heap = whole; facts = facts })) m.is;
          left = λ i. record { heap = whole_is_rest whole heap rest union meets.1 i; facts = facts };
          goes = m.goes;
          ready = m.ready;
        }
    item_matched preds (uses u) whole heap rest core reads among meets union = by (core_of u.pred) refl core
      where
        by : (o : Option Core) → core_of u.pred ≡ o → is_core_use o u ≡ true → IsMatchedItem cases (uses u) s whole rest facts
        by (Some k) named_so as_many = use_matched preds u k whole heap rest named_so as_many reads among meets union
        by None named_so none = absurd (true≢false (sym none))

  pub record AllMatched (cases : Cases) (n : ℕ) (items : List PureItem) (s : Store) (whole rest : Heap) (facts : List Fact) : Type 0 where
    pub found : Match
    pub is : match_from cases declared n items s (record { heap = whole; facts = facts }) ≡ matched found
    pub left : found.state ≡ record { heap = rest; facts = facts }
    pub part : IsPart found.store

  module _ (cases : Cases) (scope : Scope) (memory : MemoryName) (facts : List Fact) (preds : List PurePredDef) where
    pub items_matched : (n : ℕ) (before items : List PureItem) (s : Store) (whole heap rest : Heap) → IsPart s → Knows s (known_after (known_at_first scope) before) → list_all is_core_item items ≡ true → items_fault memory scope before items ≡ None → Within (named_by_items items) named
        → Meets (HoldsSomewhere preds) store items heap → IsUnion whole heap rest → AllMatched cases n items s whole rest facts
    items_matched n before [] s whole heap rest part knows core reads among none union = record {
      found = record { store = s; state = record { heap = whole; facts = facts }; taken = [] };
      is = refl;
      left = λ i. record { heap = only_second whole heap rest union none i; facts = facts };
      part = part;
    }
    items_matched n before (item ∷ items) s whole heap rest part knows core reads among (first, (later, (split, (here, there)))) union =
        let known : Known = known_after (known_at_first scope) before in
        let (core_here, core_there) = and_parts (is_core_item item) (list_all is_core_item items) core in
        let (reads_here, reads_there) = either_none (item_fault memory scope known item) (items_fault memory scope (before ++ item ∷ []) items) reads in
        let (e, (left_union, all)) = ungrouped whole heap rest first later union split in
        let m = item_matched cases scope memory known s part knows facts preds item whole first e core_here reads_here (λ x is_in. among x (or_left (named_by_item item x) (named_by_items items x) is_in)) here all in
        let r = items_matched (n + 1) (before ++ item ∷ []) items m.found.store e later rest m.goes.part (knows_more m.found.store m.goes.extends m.ready) core_there reads_there (λ x is_in. among x (or_right (named_by_item item x) (named_by_items items x) is_in)) there left_union in
        record {
          found = record r.found { taken = m.found.taken ∷ r.found.taken };
          is = ap (λ o. go_on o n (match_from cases declared (n + 1) items)) m.is ∙ ap (λ x. taken_before m.found.taken (match_from cases declared (n + 1) items m.found.store x)) m.left ∙ ap (taken_before m.found.taken) r.is;
          left = r.left;
          part = r.part;
        }
      where
        before_parts : (x : List ℕ) → named_by_items (before ++ item ∷ []) x ≡ true → (named_by_items before x ≡ true) ⊎ (named_by_item item x ≡ true)
        before_parts x is =
            ⊎_elim inl (λ last. ⊎_elim inr (λ none. absurd (true≢false (sym none))) (one_of (named_by_item item x) false last))
            (one_of (named_by_items before x) (named_by_items (item ∷ []) x) (sym (list_any-append (λ i. named_by_item i x) before (item ∷ [])) ∙ is))

        knows_more : (t : Store) → Extends s t → ((x : List ℕ) → named_by_item item x ≡ true → HasValue t x) → Knows t (known_after (known_at_first scope) (before ++ item ∷ []))
        knows_more t extends ready x is_named is =
            ⊎_elim (λ in_before. ⊎_elim (λ old. knows_longer s t (known_after (known_at_first scope) before) extends knows x is_named (or_left (named_by_items before x) (known_at_first scope x) old)) (ready x) (before_parts x in_before))
            (λ old. knows_longer s t (known_after (known_at_first scope) before) extends knows x is_named (or_right (named_by_items before x) (known_at_first scope x) old)) (one_of (named_by_items (before ++ item ∷ []) x) (known_at_first scope x) is)
