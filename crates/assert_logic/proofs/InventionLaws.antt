-- Meeting invents no symbol: where items can be read, what holds of each symbol of the known values and of the heap holds of
-- each symbol of the values that the items name.
use Rattle.std.proofs.Common.{◌≡◌, ◌⊎◌, ⊎_elim, inl, inr, ℕ, zero, suc, List, [], ◌∷◌, ◌++◌, Bool, true, false, not, ◌&&◌, ◌||◌, cond, Option, Some, None, Ok, Err, length, slice_get, refl, sym, ap, subst, ◌∙◌, true≢false, append_assoc, arith}
use Rattle.std.specs.List.{list_all, list_any, filter, Contains}
use Rattle.std.specs.Option.{option_and_then, option_map}
use Rattle.std.specs.FinMap.{empty}
use Rattle.std.specs.Str.{bytes_eq}
use Rattle.std.proofs.lemmas.Bool.{and_parts}
use Rattle.std.proofs.lemmas.Grind.{flat_map-append}
use Rattle.std.proofs.lemmas.List.Elements.{All-contains, Contains-push_cases}
use Rattle.std.proofs.lemmas.List.Folds.{list_all-append, list_any-append}
use Rattle.std.proofs.lemmas.List.Sums.{AllPass-from_list_all}
use Rattle.std.proofs.lemmas.Slice.Eq.{bytes_eq-Decides}
use Rattle.gil_values.specs.declared.operators.BinOp.{BinOp}
use Rattle.gil_values.specs.declared.operators.BinOp.TheVariants.{Equal}
use Rattle.gil_values.specs.Pure.{PureValue, integer, boolean, text, symbol}
use Rattle.gil_values.specs.Equality.{same_value}
use Rattle.gil_values.specs.EqualityLaws.{same_value-same}
use Rattle.gil_values.specs.Operators.{Outcome, binary}
use Rattle.gil_values.specs.Symbols.{OccursIn, OccursAmong}
use Rattle.gil_syntax.specs.declared.assertions.Param.{Param}
use Rattle.gil_syntax.specs.Pure.{PureExpr, name, logical, binary_of, PurePredUse, PureItem, pure, uses, PurePredDef, PureParts}
use Rattle.gil_syntax.specs.Programs.{find_pred}
use Rattle.gil_syntax.specs.Evaluation.{Store, value_of, Agrees, set_or_fault, after_value, Outcomes, both, evaluate, evaluate_all}
use Rattle.gil_syntax.specs.Laws.{AgreeOn}
use Rattle.gil_syntax.specs.Subexpressions.{subexpressions, own_names, names_of, exprs_of_item}
use Rattle.gil_syntax.specs.Valid.{is_among, param_names}
use Rattle.gil_syntax.specs.WellMade.{is_well_made_node, is_well_made_expr, is_well_made_assertion, is_well_made_proc, is_well_made_spec, is_well_made_pred, is_well_made, are_program_names, are_logical}
use Rattle.gil_syntax.proofs.Names.{depends_on_its_names}
use Rattle.gil_syntax.proofs.Symbols.{Holds, HoldsOfAll, none_contained, each-nil, each_of_all, all_of_each, invents_no_symbol}
use Rattle.mem_model.specs.declared.cores.Core.{Core}
use Rattle.mem_model.specs.declared.keys.Key.{Key}
use Rattle.mem_model.specs.CoreNames.{core_of}
use Rattle.mem_model.specs.Cores.{entry_of, entry_named, one_key}
use Rattle.mem_model.specs.Heaps.{Heap, Holds as HoldsAtKey, OccursInHeap}
use Rattle.mem_model.proofs.Compatible.{first_part, second_part}
use Rattle.mem_model.proofs.Holding.{inserted_holds}
use Rattle.mem_model.specs.declared.keys.MemoryName.{MemoryName}
use Rattle.assert_logic.specs.declared.checking.ModeKind.{ModeKind}
use Rattle.assert_logic.specs.declared.checking.ModeKind.TheVariants.{In, Out, Core as OfMemory}
use Rattle.assert_logic.specs.declared.checking.ModeItem.TheVariants.{Pred}
use Rattle.assert_logic.specs.Laws.{IsKnownSymbol}
use Rattle.assert_logic.specs.Meets.{Predicates, UseHolds, UseMeets, ItemMeets, Meets, HoldsAt, CaseHolds, HoldsSomewhere}
use Rattle.assert_logic.specs.Modes.{Scope, case, either, fault_if, first_fault, is_foreign, known_at_first, known_after, known_beside, may_become_known, outs_fit, gives_value, use_fault, item_fault, items_fault, assertion_fault, knows_outs, case_fault, pred_fault, HasModes}
use Rattle.assert_logic.specs.Names.{Known, knows_all, named_among, named_by_item, named_by_items}
use Rattle.assert_logic.specs.Unions.{IsUnion}
use Rattle.assert_logic.proofs.AddingLaws.{same_some, no_value}

append_nil : {X : Type 0} (xs : List X) → xs ++ [] ≡ xs
append_nil [] = refl
append_nil (x ∷ xs) = ap (λ ys. x ∷ ys) (append_nil xs)

-- ---- the part of a store that is known

abbrev pub kept : Known → Store → Store
kept known s = filter (λ b. known b.name) s

pub kept_value : (known : Known) (s : Store) (x : List ℕ) → value_of (kept known s) x ≡ cond (known x) (value_of s x) None
kept_value known [] x = by (known x)
  where
    by : (b : Bool) → ◌≡◌ {A = Option PureValue} None (cond b None None)
    by true = refl
    by false = refl
kept_value known (b ∷ s) x = by (known b.name) refl (bytes_eq b.name x) refl (kept_value known s x)
  where
    by : (k : Bool) → known b.name ≡ k → (n : Bool) → bytes_eq b.name x ≡ n → value_of (kept known s) x ≡ cond (known x) (value_of s x) None
        → value_of (cond k (b ∷ kept known s) (kept known s)) x ≡ cond (known x) (cond n (Some b.value) (value_of s x)) None
    by true here true named later =
        ap (λ n. cond n (Some b.value) (value_of (kept known s) x)) named
        ∙ ap (λ k. cond k (Some b.value) None) (sym here ∙ ap known ((bytes_eq-Decides b.name x).0 named))
    by true here false named later = ap (λ n. cond n (Some b.value) (value_of (kept known s) x)) named ∙ later
    by false here true named later =
        let unknown : known x ≡ false = ap known (sym ((bytes_eq-Decides b.name x).0 named)) ∙ here in
        later ∙ ap (λ k. cond k (value_of s x) None) unknown ∙ ap (λ k. cond k (Some b.value) None) (sym unknown)
    by false here false named later = later

pub from_cond : (k : Bool) (o : Option PureValue) (w : PureValue) → cond k o None ≡ Some w → (k ≡ true) × (o ≡ Some w)
from_cond true o w is = (refl, is)
from_cond false o w is = no_value w is

pub each_known : (known : Known) (xs : List (List ℕ)) → list_all known xs ≡ true → (x : List ℕ) → Contains xs x → known x ≡ true
each_known known xs all x has = All-contains (λ y. known y ≡ true) xs x (AllPass-from_list_all known xs all) has

module _ (P : ℕ → Type 0) where
  -- of each symbol in the value of a known name
  abbrev pub KnownHold : Known → Store → Type 0
  KnownHold known s = (x : List ℕ) (v : PureValue) → known x ≡ true → value_of s x ≡ Some v → Holds P v

  pub value_holds : (known : Known) (s : Store) (e : PureExpr) (v : PureValue) → is_well_made_expr e ≡ true → knows_all known e ≡ true → KnownHold known s → evaluate e s ≡ Ok v → Holds P v
  value_holds known s e v made knows hold is n occurs =
      let agree : AgreeOn (names_of e) s (kept known s) = λ x has. sym (kept_value known s x ∙ ap (λ k. cond k (value_of s x) None) (each_known known (names_of e) knows x has)) in
      let (x, (w, (at, within))) = invents_no_symbol e (kept known s) v n made (sym (depends_on_its_names e s (kept known s) agree) ∙ is) occurs in
      let (is_known, value) = from_cond (known x) (value_of s x) w (sym (kept_value known s x) ∙ at) in
      hold x w is_known value n within

  both_parts : (o : Outcome) (os : Outcomes) (vs : List PureValue) → both o os ≡ Ok vs → (v : PureValue) × ((ws : List PureValue) × ((o ≡ Ok v) × ((os ≡ Ok ws) × (v ∷ ws ≡ vs))))
  both_parts (Ok v) (Ok ws) vs is = (v, (ws, (refl, (refl, cc))))
  both_parts (Ok v) (Err f) vs is = absurd (cc)
  both_parts (Err f) os vs is = absurd (cc)

  pub values_hold : (known : Known) (s : Store) (es : List PureExpr) (vs : List PureValue) → list_all is_well_made_expr es ≡ true → list_all (knows_all known) es ≡ true → KnownHold known s → evaluate_all es s ≡ Ok vs → HoldsOfAll P vs
  values_hold known s [] [] made knows hold is = tt
  values_hold known s [] (v ∷ vs) made knows hold is = absurd (cc)
  values_hold known s (e ∷ es) vs made knows hold is =
      let (v, (ws, (here, (there, same)))) = both_parts (evaluate e s) (evaluate_all es s) vs is in
      let (made_here, made_there) = and_parts (is_well_made_expr e) (list_all is_well_made_expr es) made in
      let (knows_here, knows_there) = and_parts (knows_all known e) (list_all (knows_all known) es) knows in
      subst (HoldsOfAll P) same (value_holds known s e v made_here knows_here hold here, values_hold known s es ws made_there knows_there hold there)

  -- ---- core predicates

  one_symbol : (l : ℕ) → P l → Holds P (symbol l)
  one_symbol l is n has = ⊎_elim (λ none. absurd (none_contained n none)) (λ same. subst P same is) (Contains-push_cases [] l n has)

  pub entry_holds : (core : Core) (ws : List PureValue) (k : Key) (w : PureValue) → entry_of core ws ≡ Some (k, w) → P k.loc → Holds P w → HoldsOfAll P ws
  entry_holds Core.Prop (symbol l ∷ text p ∷ v ∷ []) k w is at value = (one_symbol l (subst P (ap (λ e. e.0.loc) (sym (same_some is))) at), (each-nil P, (subst (Holds P) (ap (λ e. e.1) (sym (same_some is))) value, tt)))
  entry_holds Core.Cell (symbol l ∷ integer i ∷ v ∷ []) k w is at value = (one_symbol l (subst P (ap (λ e. e.0.loc) (sym (same_some is))) at), (each-nil P, (subst (Holds P) (ap (λ e. e.1) (sym (same_some is))) value, tt)))
  entry_holds Core.Shape (symbol l ∷ d ∷ []) k w is at value = (one_symbol l (subst P (ap (λ e. e.0.loc) (sym (same_some is))) at), (subst (Holds P) (ap (λ e. e.1) (sym (same_some is))) value, tt))
  entry_holds Core.Bound (symbol l ∷ d ∷ []) k w is at value = (one_symbol l (subst P (ap (λ e. e.0.loc) (sym (same_some is))) at), (subst (Holds P) (ap (λ e. e.1) (sym (same_some is))) value, tt))
  entry_holds Core.Dom (symbol l ∷ d ∷ []) k w is at value = (one_symbol l (subst P (ap (λ e. e.0.loc) (sym (same_some is))) at), (subst (Holds P) (ap (λ e. e.1) (sym (same_some is))) value, tt))
  entry_holds Core.Proto (symbol l ∷ d ∷ []) k w is at value = (one_symbol l (subst P (ap (λ e. e.0.loc) (sym (same_some is))) at), (subst (Holds P) (ap (λ e. e.1) (sym (same_some is))) value, tt))
  entry_holds Core.Gone (symbol l ∷ []) k w is at value = (one_symbol l (subst P (ap (λ e. e.0.loc) (sym (same_some is))) at), tt)
  entry_holds core ws k w is at value = no_value (k, w) is

  all_right : (vs ws : List PureValue) → HoldsOfAll P (vs ++ ws) → HoldsOfAll P ws
  all_right [] ws h = h
  all_right (v ∷ vs) ws h = all_right vs ws h.1

  -- of each location of the heap, and each symbol of what it holds
  abbrev pub HeapHolds : Heap → Type 0
  HeapHolds h = (k : Key) (v : PureValue) → HoldsAtKey h k v → P k.loc × Holds P v

  pub part_holds : (h a b : Heap) → IsUnion h a b → HeapHolds h → HeapHolds a × HeapHolds b
  part_holds h a b u hold = (
    λ k v at. hold k v (subst (λ x. HoldsAtKey x k v) (sym u.union) (first_part a b u.disjoint k v at)),
    λ k v at. hold k v (subst (λ x. HoldsAtKey x k v) (sym u.union) (second_part a b u.disjoint k v at)),
  )

  -- outs of predicates for which it holds of the ins
  abbrev pub OutsHold : Predicates → Type 0
  OutsHold holds = (x : List ℕ) (ins outs : List PureValue) (h : Heap) → holds x ins outs h → HoldsOfAll P ins → HeapHolds h → HoldsOfAll P outs

  core_outs : (core : Core) (ins outs : List PureValue) (h : Heap) (o : Option (Key × PureValue)) → entry_of core (ins ++ outs) ≡ o → option_map (λ e. one_key e.0 e.1) o ≡ Some h → HeapHolds h → HoldsOfAll P outs
  core_outs core ins outs h None entry is hold = no_value h is
  core_outs core ins outs h (Some e) entry is hold =
      let there = hold e.0 e.1 (subst (λ x. HoldsAtKey x e.0 e.1) (same_some is) (inserted_holds empty e.0 e.1)) in
      all_right ins outs (entry_holds core (ins ++ outs) e.0 e.1 entry there.0 there.1)

  pub use_outs : (holds : Predicates) → OutsHold holds → (x : List ℕ) (ins outs : List PureValue) (h : Heap) (o : Option Core) → core_of x ≡ o → UseHolds holds o x ins outs h → HoldsOfAll P ins → HeapHolds h → HoldsOfAll P outs
  use_outs holds sound x ins outs h None named is hold heap = sound x ins outs h is hold heap
  use_outs holds sound x ins outs h (Some core) named is hold heap =
      core_outs core ins outs h (entry_of core (ins ++ outs)) refl (ap (λ o. option_map (λ e. one_key e.0 e.1) (entry_named o (ins ++ outs))) (sym named) ∙ is) heap

  -- ---- reading items

  not_both : (b : Bool) (why : ModeKind) → fault_if b why ≡ None → b ≡ false
  not_both true why is = absurd (cc)
  not_both false why is = refl

  isnt : (b : Bool) → not b ≡ false → b ≡ true
  isnt true is = refl
  isnt false is = absurd (true≢false is)

  either_parts : (o later : Option ModeKind) → either o later ≡ None → (o ≡ None) × (later ≡ None)
  either_parts (Some why) later is = absurd (cc)
  either_parts None later is = (refl, is)

  or_cases : (a b : Bool) → (a || b) ≡ true → (a ≡ true) ⊎ (b ≡ true)
  or_cases true b is = inl refl
  or_cases false b is = inr is

  among_append : (es ds : List PureExpr) (x : List ℕ) → named_among (es ++ ds) x ≡ true → (named_among es x ≡ true) ⊎ (named_among ds x ≡ true)
  among_append es ds x is = or_cases (named_among es x) (named_among ds x) (sym (list_any-append (λ e. is_among (names_of e) x) es ds) ∙ is)

  known_in : (known : Known) (e : PureExpr) (x : List ℕ) → knows_all known e ≡ true → is_among (names_of e) x ≡ true → known x ≡ true
  known_in known e x knows among = named_known (names_of e) knows among
    where
      named_known : (xs : List (List ℕ)) → list_all known xs ≡ true → list_any (bytes_eq x) xs ≡ true → known x ≡ true
      named_known [] all any = absurd (true≢false (sym any))
      named_known (y ∷ ys) all any =
          let (here, there) = and_parts (known y) (list_all known ys) all in
          ⊎_elim (λ same. ap known ((bytes_eq-Decides x y).0 same) ∙ here) (λ later. named_known ys there later) (or_cases (bytes_eq x y) (list_any (bytes_eq x) ys) any)

  known_among : (known : Known) (es : List PureExpr) (x : List ℕ) → list_all (knows_all known) es ≡ true → named_among es x ≡ true → known x ≡ true
  known_among known [] x all any = absurd (true≢false (sym any))
  known_among known (e ∷ es) x all any =
      let (here, there) = and_parts (knows_all known e) (list_all (knows_all known) es) all in
      ⊎_elim (λ in_e. known_in known e x here in_e) (λ later. known_among known es x there later) (or_cases (is_among (names_of e) x) (named_among es x) any)

  or_right : (a b : Bool) → b ≡ true → (a || b) ≡ true
  or_right true b is = refl
  or_right false b is = is

  or_left : (a b : Bool) → a ≡ true → (a || b) ≡ true
  or_left a b is = ap (λ c. c || b) is

  or_none : (a : Bool) → (a || false) ≡ true → a ≡ true
  or_none true is = refl
  or_none false is = is

  module _ (scope : Scope) (s : Store) where
    one_name : (x y : List ℕ) (v w : PureValue) → is_among (y ∷ []) x ≡ true → (o : Option PureValue) → value_of s y ≡ o → set_or_fault o ≡ Ok w → value_of s x ≡ Some v → v ≡ w
    one_name x y v w among None here is at = absurd (cc)
    one_name x y v w among (Some u) here is at =
        let same : x ≡ y = (bytes_eq-Decides x y).0 (or_none (bytes_eq x y) among) in
        let equal : u ≡ w = cc in
        same_some (sym at ∙ ap (value_of s) same ∙ here) ∙ equal

    -- what may become known is one name, which has the value of the expression
    single : (out : PureExpr) (x : List ℕ) (v w : PureValue) → may_become_known scope out ≡ true → is_among (names_of out) x ≡ true → evaluate out s ≡ Ok w → value_of s x ≡ Some v → v ≡ w
    single (logical y) x v w may among is at = one_name x y v w among (value_of s y) refl is at
    single (name y) x v w may among is at = one_name x y v w among (value_of s y) refl is at
    single out x v w may among is at = absurd (true≢false (sym may))

    out_holds : (known : Known) (out : PureExpr) (w : PureValue) → (knows_all known out || may_become_known scope out) ≡ true → KnownHold known s → evaluate out s ≡ Ok w → Holds P w
        → (x : List ℕ) (v : PureValue) → is_among (names_of out) x ≡ true → value_of s x ≡ Some v → Holds P v
    out_holds known out w fits hold is value x v among at =
        ⊎_elim (λ knows. hold x v (known_in known out x knows among) at) (λ may. subst (Holds P) (sym (single out x v w may among is at)) value) (or_cases (knows_all known out) (may_become_known scope out) fits)

    outs_hold : (known : Known) (before outs : List PureExpr) (vs : List PureValue) → outs_fit scope known before outs ≡ true → KnownHold (known_beside known before) s → evaluate_all outs s ≡ Ok vs → HoldsOfAll P vs
        → KnownHold (known_beside known (before ++ outs)) s
    outs_hold known before [] vs fits hold is value = subst (λ es. KnownHold (known_beside known es) s) (sym (append_nil before)) hold
    outs_hold known before (out ∷ outs) vs fits hold is value =
        let (v, (ws, (here, (there, same)))) = both_parts (evaluate out s) (evaluate_all outs s) vs is in
        let (fits_here, fits_there) = and_parts (knows_all (known_beside known before) out || may_become_known scope out) (outs_fit scope known (before ++ out ∷ []) outs) fits in
        let values = subst (HoldsOfAll P) (sym same) value in
        subst (λ es. KnownHold (known_beside known es) s) (append_assoc before (out ∷ []) outs)
        (outs_hold known (before ++ out ∷ []) outs ws fits_there (next v fits_here here values.0) there values.1)
      where
        next : (w : PureValue) → (knows_all (known_beside known before) out || may_become_known scope out) ≡ true → evaluate out s ≡ Ok w → Holds P w → KnownHold (known_beside known (before ++ out ∷ [])) s
        next w fits_here here value_here x v is_known at = ⊎_elim
            (λ among. ⊎_elim
            (λ earlier. hold x v (or_left (named_among before x) (known x) earlier) at)
            (λ in_out. out_holds (known_beside known before) out w fits_here hold here value_here x v (or_none (is_among (names_of out) x) in_out) at)
            (among_append before (out ∷ []) x among))
            (λ already. hold x v (or_right (named_among before x) (known x) already) at)
            (or_cases (named_among (before ++ out ∷ []) x) (known x) is_known)

    -- ---- equations

    abbrev truth : Outcome → Bool
    truth (Ok (boolean b)) = b
    truth o = false

    equal_values : (o p : Outcome) → after_value o (λ v. after_value p (binary Equal v)) ≡ Ok (boolean true) → (w : PureValue) × ((o ≡ Ok w) × (p ≡ Ok w))
    equal_values (Ok v) (Ok w) is = (w, (ap Ok (same_value-same v w same), refl))
      where
        same : same_value v w ≡ true
        same = ap truth is
    equal_values (Ok v) (Err f) is = absurd (cc)
    equal_values (Err f) p is = absurd (cc)

    names_of_both : (op : BinOp) (d e : PureExpr) (x : List ℕ) → is_among (names_of (binary_of op d e)) x ≡ true → (is_among (names_of d) x ≡ true) ⊎ (is_among (names_of e) x ≡ true)
    names_of_both op d e x among =
        or_cases (is_among (names_of d) x) (is_among (names_of e) x)
        (sym (ap (list_any (bytes_eq x)) (flat_map-append own_names (subexpressions d) (subexpressions e)) ∙ list_any-append (bytes_eq x) (names_of d) (names_of e)) ∙ among)

    pure_holds : (known : Known) (e : PureExpr) → is_well_made_expr e ≡ true → (knows_all known e || gives_value scope known e) ≡ true → KnownHold known s → evaluate e s ≡ Ok (boolean true)
        → (x : List ℕ) (v : PureValue) → is_among (names_of e) x ≡ true → value_of s x ≡ Some v → Holds P v
    pure_holds known (binary_of Equal d e) made fits hold is x v among at = ⊎_elim
        (λ knows. hold x v (known_in known (binary_of Equal d e) x knows among) at)
        (λ gives.
        let (may, knows) = and_parts (may_become_known scope d) (knows_all known e) gives in
        let (w, (left, right)) = equal_values (evaluate d s) (evaluate e s) is in
        ⊎_elim
        (λ in_d. subst (Holds P) (sym (single d x v w may in_d left at)) (value_holds known s e w (second_made d e made) knows hold right))
        (λ in_e. hold x v (known_in known e x knows in_e) at)
        (names_of_both Equal d e x among))
        (or_cases (knows_all known (binary_of Equal d e)) (gives_value scope known (binary_of Equal d e)) fits)
      where
        second_made : (d e : PureExpr) → is_well_made_expr (binary_of Equal d e) ≡ true → is_well_made_expr e ≡ true
        second_made d e made = (and_parts (is_well_made_expr d) (is_well_made_expr e) (sym (list_all-append is_well_made_node (subexpressions d) (subexpressions e)) ∙ made)).1
    pure_holds known e made fits hold is x v among at = hold x v (known_in known e x (or_none (knows_all known e) fits) among) at

    -- ---- items

    module _ (memory : MemoryName) (holds : Predicates) (sound : OutsHold holds) where
      use_holds : (known : Known) (u : PurePredUse) (h : Heap) → list_all is_well_made_expr (u.ins ++ u.outs) ≡ true → use_fault memory scope known u ≡ None → KnownHold known s → UseMeets holds s u h → HeapHolds h
          → (x : List ℕ) (v : PureValue) → named_by_item (uses u) x ≡ true → value_of s x ≡ Some v → Holds P v
      use_holds known u h made none hold is heap x v among at =
          let (no_in, later) = either_parts (fault_if (not (list_all (knows_all known) u.ins)) In) (either (fault_if (not (outs_fit scope known [] u.outs)) Out) (fault_if (is_foreign memory u.pred) OfMemory)) none in
          let (no_out, no_core) = either_parts (fault_if (not (outs_fit scope known [] u.outs)) Out) (fault_if (is_foreign memory u.pred) OfMemory) later in
          let ins_known = isnt (list_all (knows_all known) u.ins) (not_both (not (list_all (knows_all known) u.ins)) In no_in) in
          let fits = isnt (outs_fit scope known [] u.outs) (not_both (not (outs_fit scope known [] u.outs)) Out no_out) in
          let ins_made = (and_parts (list_all is_well_made_expr u.ins) (list_all is_well_made_expr u.outs) (sym (list_all-append is_well_made_expr u.ins u.outs) ∙ made)).0 in
          let ins_hold = values_hold known s u.ins is.ins ins_made ins_known hold is.ins_are in
          let outs_values = use_outs holds sound u.pred is.ins is.outs h (core_of u.pred) refl is.holds_there ins_hold heap in
          let after = outs_hold known [] u.outs is.outs fits hold is.outs_are outs_values in
          ⊎_elim
          (λ in_ins. hold x v (known_among known u.ins x ins_known in_ins) at)
          (λ in_outs. after x v (or_left (named_among u.outs x) (known x) in_outs) at)
          (or_cases (named_among u.ins x) (named_among u.outs x) among)

      item_holds : (known : Known) (item : PureItem) (h : Heap) → list_all is_well_made_expr (exprs_of_item item) ≡ true → item_fault memory scope known item ≡ None → KnownHold known s → ItemMeets holds s item h → HeapHolds h
          → (x : List ℕ) (v : PureValue) → named_by_item item x ≡ true → value_of s x ≡ Some v → Holds P v
      item_holds known (pure e) h made none hold is heap x v among at =
          let fits = isnt (knows_all known e || gives_value scope known e) (not_both (not (knows_all known e || gives_value scope known e)) In none) in
          pure_holds known e (and_parts (is_well_made_expr e) true made).0 fits hold is.0 x v among at
      item_holds known (uses u) h made none hold is heap x v among at = use_holds known u h made none hold is heap x v among at

      -- what holds of what is known before some items holds of what is known after them
      pub items_hold : (before items : List PureItem) (h : Heap) → is_well_made_assertion items ≡ true → items_fault memory scope before items ≡ None
          → KnownHold (known_after (known_at_first scope) before) s → Meets holds s items h → HeapHolds h → KnownHold (known_after (known_at_first scope) (before ++ items)) s
      items_hold before [] h made none hold is heap = subst (λ xs. KnownHold (known_after (known_at_first scope) xs) s) (sym (append_nil before)) hold
      items_hold before (item ∷ items) h made none hold (part, (rest, (union, (here, there)))) heap =
          let (fault_here, fault_there) = either_parts (item_fault memory scope (known_after (known_at_first scope) before) item) (items_fault memory scope (before ++ item ∷ []) items) none in
          let (made_here, made_there) = and_parts (list_all is_well_made_expr (exprs_of_item item)) (is_well_made_assertion items) made in
          let (part_heap, rest_heap) = part_holds h part rest union heap in
          subst (λ xs. KnownHold (known_after (known_at_first scope) xs) s) (append_assoc before (item ∷ []) items)
          (items_hold (before ++ item ∷ []) items rest made_there fault_there (next (item_holds (known_after (known_at_first scope) before) item part made_here fault_here hold here part_heap)) there rest_heap)
        where
          next : ((x : List ℕ) (v : PureValue) → named_by_item item x ≡ true → value_of s x ≡ Some v → Holds P v) → KnownHold (known_after (known_at_first scope) (before ++ item ∷ [])) s
          next here x v is_known at = ⊎_elim
              (λ among. ⊎_elim
              (λ earlier. hold x v (or_left (named_by_items before x) (known_at_first scope x) earlier) at)
              (λ in_item. here x v (or_none (named_by_item item x) in_item) at)
              (or_cases (named_by_items before x) (named_by_items (item ∷ []) x) (sym (list_any-append (λ i. named_by_item i x) before (item ∷ [])) ∙ among)))
              (λ already. hold x v (or_right (named_by_items before x) (known_at_first scope x) already) at)
              (or_cases (named_by_items (before ++ item ∷ []) x) (known_at_first scope x) is_known)

  -- ---- ranks

  module _ (memory : MemoryName) (preds : List PurePredDef)
      (each_made : (x : List ℕ) (d : PurePredDef) → find_pred preds x ≡ Some d → list_all is_well_made_assertion d.cases ≡ true)
      (each_read : (x : List ℕ) (d : PurePredDef) → find_pred preds x ≡ Some d → pred_fault memory d ≡ None) where
    case_made : (cases : List (List PureItem)) (i : ℕ) (items : List PureItem) → slice_get cases i ≡ Some items → list_all is_well_made_assertion cases ≡ true → is_well_made_assertion items ≡ true
    case_made [] i items at made = no_value items at
    case_made (c ∷ cs) zero items at made = ap is_well_made_assertion (sym (same_some at)) ∙ (and_parts (is_well_made_assertion c) (list_all is_well_made_assertion cs) made).0
    case_made (c ∷ cs) (suc i) items at made = case_made cs i items at (and_parts (is_well_made_assertion c) (list_all is_well_made_assertion cs) made).1

    case_read : (d : PurePredDef) (cases : List (List PureItem)) (i : ℕ) (items : List PureItem) → slice_get cases i ≡ Some items → first_fault (case_fault memory d) cases ≡ None → case_fault memory d items ≡ None
    case_read d [] i items at none = no_value items at
    case_read d (c ∷ cs) zero items at none = ap (case_fault memory d) (sym (same_some at)) ∙ (either_parts (case_fault memory d c) (first_fault (case_fault memory d) cs) none).0
    case_read d (c ∷ cs) (suc i) items at none = case_read d cs i items at (either_parts (case_fault memory d c) (first_fault (case_fault memory d) cs) none).1

    -- values of parameters, by their places
    named_values : (t : Store) (xs : List (List ℕ)) (vs : List PureValue) → Agrees t xs vs → length xs ≡ length vs → HoldsOfAll P vs → (x : List ℕ) (v : PureValue) → is_among xs x ≡ true → value_of t x ≡ Some v → Holds P v
    named_values t [] vs agrees as_many values x v among at = absurd (true≢false (sym among))
    named_values t (y ∷ ys) [] agrees as_many values x v among at = absurd (omega (arith, as_many))
    named_values t (y ∷ ys) (w ∷ ws) agrees as_many values x v among at = ⊎_elim
        (λ same. subst (Holds P) (same_some (sym (agrees zero y w refl refl) ∙ ap (value_of t) (sym ((bytes_eq-Decides x y).0 same)) ∙ at)) values.0)
        (λ later. named_values t ys ws (λ i z u called value. agrees (suc i) z u called value) (omega (arith, as_many)) values.1 x v later at)
        (or_cases (bytes_eq x y) (list_any (bytes_eq x) ys) among)

    all_values : (t : Store) (known : Known) (xs : List (List ℕ)) (vs : List PureValue) → KnownHold known t → list_all known xs ≡ true → Agrees t xs vs → length xs ≡ length vs → HoldsOfAll P vs
    all_values t known [] [] hold all agrees as_many = tt
    all_values t known [] (w ∷ ws) hold all agrees as_many = absurd (omega (arith, as_many))
    all_values t known (y ∷ ys) [] hold all agrees as_many = absurd (omega (arith, as_many))
    all_values t known (y ∷ ys) (w ∷ ws) hold all agrees as_many =
        let (here, there) = and_parts (known y) (list_all known ys) all in
        (hold y w here (agrees zero y w refl refl), all_values t known ys ws hold there (λ i z u called value. agrees (suc i) z u called value) (omega (arith, as_many)))

    names_length : (ps : List Param) → length (param_names ps) ≡ length ps
    names_length [] = refl
    names_length (q ∷ qs) = ap suc (names_length qs)

    case_outs : (holds : Predicates) → OutsHold holds → (x : List ℕ) (ins outs : List PureValue) (h : Heap) → CaseHolds preds holds x ins outs h → HoldsOfAll P ins → HeapHolds h → HoldsOfAll P outs
    case_outs holds sound x ins outs h c values heap =
        let made = case_made c.pred.cases c.number c.items c.case (each_made x c.pred c.found) in
        let read = case_read c.pred c.pred.cases c.number c.items c.case (each_read x c.pred c.found) in
        let (items_read, outs_read) = either_parts (assertion_fault memory (case c.pred) c.items) (fault_if (not (knows_outs c.pred c.items)) Out) read in
        let knows = isnt (knows_outs c.pred c.items) (not_both (not (knows_outs c.pred c.items)) Out outs_read) in
        let first : KnownHold (known_at_first (case c.pred)) c.store = named_values c.store (param_names c.pred.ins) ins c.ins_agree (names_length c.pred.ins ∙ c.as_many_ins) values in
        let after = items_hold (case c.pred) c.store memory holds sound [] c.items h made items_read first c.meets heap in
        all_values c.store (known_after (known_at_first (case c.pred)) c.items) (param_names c.pred.outs) outs after knows c.outs_agree (names_length c.pred.outs ∙ c.as_many_outs)

    pub ranks_hold : (k : ℕ) → OutsHold (HoldsAt preds k)
    ranks_hold zero x ins outs h is values heap = absurd is
    ranks_hold (suc k) x ins outs h is values heap = case_outs (HoldsAt preds k) (ranks_hold k) x ins outs h is values heap

    pub somewhere_holds : OutsHold (HoldsSomewhere preds)
    somewhere_holds x ins outs h is values heap = ranks_hold is.0 x ins outs h is.1 values heap

-- ---- programs

pub found_at : (ds : List PurePredDef) (x : List ℕ) (d : PurePredDef) → find_pred ds x ≡ Some d → (i : ℕ) × (slice_get ds i ≡ Some d)
found_at [] x d is = no_value d is
found_at (e ∷ es) x d is = by (found_at es x d) (bytes_eq e.name x) is
  where
    by : (find_pred es x ≡ Some d → (i : ℕ) × (slice_get es i ≡ Some d)) → (b : Bool) → cond b (Some e) (find_pred es x) ≡ Some d → (i : ℕ) × (slice_get (e ∷ es) i ≡ Some d)
    by later true found = (zero, found)
    by later false found = let (i, at) = later found in (suc i, at)

pub made_at : (ds : List PurePredDef) (i : ℕ) (d : PurePredDef) → slice_get ds i ≡ Some d → list_all is_well_made_pred ds ≡ true → is_well_made_pred d ≡ true
made_at [] i d at made = no_value d at
made_at (e ∷ es) zero d at made = ap is_well_made_pred (sym (same_some at)) ∙ (and_parts (is_well_made_pred e) (list_all is_well_made_pred es) made).0
made_at (e ∷ es) (suc i) d at made = made_at es i d at (and_parts (is_well_made_pred e) (list_all is_well_made_pred es) made).1

module _ (p : PureParts) (memory : MemoryName) (made : is_well_made p ≡ true) (modes : HasModes p memory) where
  preds_made : list_all is_well_made_pred p.preds ≡ true
  preds_made = (and_parts (list_all is_well_made_proc p.procs && list_all is_well_made_spec p.specs) (list_all is_well_made_pred p.preds) made).1

  cases_made : (x : List ℕ) (d : PurePredDef) → find_pred p.preds x ≡ Some d → list_all is_well_made_assertion d.cases ≡ true
  cases_made x d found =
      let (i, at) = found_at p.preds x d found in
      (and_parts (are_program_names d.ins && are_program_names d.outs && are_logical d.logicals) (list_all is_well_made_assertion d.cases) (made_at p.preds i d at preds_made)).1

  cases_read : (x : List ℕ) (d : PurePredDef) → find_pred p.preds x ≡ Some d → pred_fault memory d ≡ None
  cases_read x d found =
      let (i, at) = found_at p.preds x d found in
      sym (ap (option_and_then (pred_fault memory)) at) ∙ modes (Pred i)

  whole_heap : (h : Heap) (Q : ℕ → Type 0) → HeapHolds (λ n. Q n ⊎ OccursInHeap n h) h
  whole_heap h Q k v at = (inr (k, (v, (at, inl refl))), λ n occurs. inr (k, (v, (at, inr occurs))))

  pub predicates_invent_nothing : (x : List ℕ) (ins outs : List PureValue) (h : Heap) (n : ℕ) → HoldsSomewhere p.preds x ins outs h → OccursAmong n outs → OccursAmong n ins ⊎ OccursInHeap n h
  predicates_invent_nothing x ins outs h n is occurs =
      let Q : ℕ → Type 0 = λ m. OccursAmong m ins ⊎ OccursInHeap m h in
      each_of_all Q outs (somewhere_holds Q memory p.preds cases_made cases_read x ins outs h is (all_of_each Q ins (λ m among. inl among)) (whole_heap h (λ m. OccursAmong m ins))) n occurs

  pub meeting_invents_nothing : (scope : Scope) (items : List PureItem) (t : Store) (h : Heap) (x : List ℕ) (v : PureValue) (n : ℕ) → is_well_made_assertion items ≡ true → assertion_fault memory scope items ≡ None
      → Meets (HoldsSomewhere p.preds) t items h → named_by_items items x ≡ true → value_of t x ≡ Some v → OccursIn n v → IsKnownSymbol scope t n ⊎ OccursInHeap n h
  meeting_invents_nothing scope items t h x v n well read is among at occurs =
      let Q : ℕ → Type 0 = λ m. IsKnownSymbol scope t m ⊎ OccursInHeap m h in
      let first : KnownHold Q (known_at_first scope) t = λ y w known value m within. inl (y, (w, (known, (value, within)))) in
      items_hold Q scope t memory (HoldsSomewhere p.preds) (somewhere_holds Q memory p.preds cases_made cases_read) [] items h well read first is (whole_heap h (IsKnownSymbol scope t)) x v
      (or_left Q (named_by_items items x) (known_at_first scope x) among) at n occurs
