-- A run that misses a key, and doesn't beside the rest of its heap, is awaited by a beginning that fixes the key.
use Rattle.std.proofs.Common.{◌≡◌, ⊎_elim, inl, inr, ℕ, zero, suc, ◌+◌, ◌-◌, ◌<◌, ◌≤◌, List, [], ◌∷◌, ◌++◌, map, length, slice_get, Bool, true, false, cond, Option, Some, None, refl, sym, ap, subst, ◌∙◌, true≢false, append_assoc, append-nil, arith}
use Rattle.std.specs.FinMap.{insert, remove, entries, len, len-entries, len-remove, empty_of_len, contains_key}
use Rattle.std.specs.List.{list_all}
use Rattle.std.proofs.lemmas.Bool.{cases_lt, and_parts, and_from}
use Rattle.std.proofs.lemmas.List.{length-append}
use Rattle.std.proofs.lemmas.List.Elements.{Contains-push}
use Rattle.gil_values.specs.declared.places.Place.{Place}
use Rattle.gil_values.specs.Pure.{PureValue, symbol}
use Rattle.gil_syntax.proofs.Symbols.{HoldsOfAll, each_of_all}
use Rattle.mem_model.specs.declared.cores.Core.{Core}
use Rattle.mem_model.specs.declared.keys.Key.{Key}
use Rattle.mem_model.specs.declared.keys.MemoryName.{MemoryName}
use Rattle.mem_model.specs.Actions.{Actions}
use Rattle.mem_model.specs.CoreNames.{core_of}
use Rattle.mem_model.specs.Cores.{entry_named, one_key}
use Rattle.mem_model.specs.Heaps.{Heap, Holds, HasKey, joined}
use Rattle.mem_model.specs.KeyOrder.{key_cmp-total}
use Rattle.mem_model.proofs.Compatible.{second_part}
use Rattle.mem_model.proofs.CoreLaws.{one_key_more_is_union}
use Rattle.mem_model.proofs.Joins.{has_key, join_holds_both}
use Rattle.mem_model.proofs.Parts.{no_key}
use Rattle.assert_logic.specs.Unions.{IsUnion}
use Rattle.assert_logic.proofs.InventionLaws.{entry_holds}
use Rattle.assert_logic.proofs.SplitLaws.{key_splits}
use Rattle.assert_logic.proofs.UnionLaws.{union_commutes, regrouped}
use Rattle.fresh_atoms.specs.Laws.{is_any_or_list}
use Rattle.pure_terms.specs.declared.variables.Sort.{Sort}
use Rattle.pure_terms.specs.Meaning.{both, value, values, truth, all_true, IsProper, IsOver}
use Rattle.pure_terms.specs.Pure.{PureTerm, from_list, PureAtom, term_of}
use Rattle.pure_terms.proofs.VariableLaws.{slice_get-append, stay_when_tables_grow}
use Rattle.sym_model.specs.Cores.{TakesBoth}
use Rattle.sym_model.specs.Fixing.{HaveSorts, IsFixFor, IsFixOf, FixLaw}
use Rattle.sym_model.specs.Listing.{IsUse, AreUnion}
use Rattle.sym_model.specs.Lists.{Each, OneOf, IsAmong}
use Rattle.sym_model.specs.Pure.{PureKey, PureFix, PureUse}
use Rattle.sym_model.specs.Terms.{AreEachOver}
use Rattle.sym_model.proofs.ListLaws.{same_some, not_none, each_to, one_with}
use Rattle.sym_paths.specs.Steps.{AreNext, IsNext, counter_after, draws_after}
use Rattle.sym_paths.proofs.Valuations.{below_both, later_variables_are_proper}
use Rattle.sym_states.proofs.Values.{values_append}
use Rattle.bi_beginnings.specs.Beginnings.{any_for_each, variables_from, PureBeginning, IsBeginning, Awaits}
use Rattle.bi_beginnings.specs.Fixing.{IsFixOver, IsAtNewSymbol, IsKeyAtNewSymbol, with_fix, IsCarried, Carries, IsLed}
use Rattle.bi_beginnings.specs.Missing.{IsMissed}
use Rattle.bi_beginnings.proofs.Params.{all_at}
use Rattle.bi_beginnings.proofs.Tables.{get_back, params_over, carrying, with_use}
use Rattle.bi_beginnings.proofs.Unions.{union_with}

-- ---- keys of heaps

counted : (b : Bool) (n m : ℕ) → b ≡ true → m ≡ cond b (n - 1) n → 0 < n → m + 1 ≡ n
counted true n m is e some = omega (arith, e, some)
counted false n m is e some = absurd (true≢false (sym is))

some_or_none : (n : ℕ) → ¬ (n ≡ 0) → 0 < n
some_or_none zero isnt = absurd (isnt refl)
some_or_none (suc n) isnt = omega arith

not_empty : (h : Heap) (k : Key) (w : PureValue) → Holds h k w → 0 < len h
not_empty h k w is = some_or_none (len h) (λ none. no_key k (subst (λ g. HasKey g k) (empty_of_len h none) (has_key h k w is)))

-- without a key that it holds a heap has one key less
pub one_key_less : (h : Heap) (k : Key) (w : PureValue) → Holds h k w → length (entries (remove h k)) + 1 ≡ length (entries h)
one_key_less h k w is =
    ap (λ n. n + 1) (sym (len-entries (remove h k))) ∙ counted (contains_key h k) (len h) (len (remove h k)) (has_key h k w is) (len-remove key_cmp-total h k) (not_empty h k w is) ∙ len-entries h

-- ---- longer valuations

module _ (vars : List Sort) (v more : List PureValue) (one_each : length v ≡ length vars) where
  values_longer : (ts : List PureTerm) → AreEachOver vars ts → values (v ++ more) (from_list ts) ≡ values v (from_list ts)
  values_longer [] over = refl
  values_longer (t ∷ ts) over =
      let first = stay_when_tables_grow.values t vars v more over.0 one_each in
      let later = values_longer ts over.1 in
      λ i. both (first i) (later i)

  union_longer : (us : List PureUse) (h : Heap) → Each (λ u. AreEachOver vars (u.ins ++ u.outs)) us → AreUnion v us h → AreUnion (v ++ more) us h
  union_longer [] h over is = is
  union_longer (u ∷ us) h over (k, (w, (used, holds, rest))) =
      (k, (w, (record { ws = used.ws; have = values_longer (u.ins ++ u.outs) over.0 ∙ used.have; entry = used.entry }, holds, union_longer us (remove h k) over.1 rest)))

not_fresh : (s : Sort) → is_any_or_list s ≡ true → ¬ (s ≡ Sort.Fresh)
not_fresh s is same = true≢false (sym is ∙ ap is_any_or_list same)

-- values of variables of sorts any and list behind proper ones
sorts_proper : (vars : List Sort) (v : List PureValue) (sorts : List Sort) (us : List PureValue) → IsProper vars v → list_all is_any_or_list sorts ≡ true → HaveSorts sorts us → IsProper (vars ++ sorts) (v ++ us)
sorts_proper vars v [] [] proper all have = subst (λ xs. IsProper xs (v ++ [])) (sym (append-nil vars)) (subst (IsProper vars) (sym (append-nil v)) proper)
sorts_proper vars v [] (u ∷ us) proper all have = absurd have
sorts_proper vars v (s ∷ sorts) [] proper all have = absurd have
sorts_proper vars v (s ∷ sorts) (u ∷ us) proper all have =
    let (here, later) = and_parts (is_any_or_list s) (list_all is_any_or_list sorts) all in
    let next = later_variables_are_proper.drawn vars v s u proper (not_fresh s here) have.0 in
    subst (λ xs. IsProper xs (v ++ u ∷ us)) (append_assoc vars (s ∷ []) sorts)
    (subst (IsProper ((vars ++ s ∷ []) ++ sorts)) (append_assoc v (u ∷ []) us) (sorts_proper (vars ++ s ∷ []) (v ++ u ∷ []) sorts us next later have.1))

as_many_sorts : (sorts : List Sort) (us : List PureValue) → HaveSorts sorts us → length us ≡ length sorts
as_many_sorts [] [] have = refl
as_many_sorts [] (u ∷ us) have = absurd have
as_many_sorts (s ∷ sorts) [] have = absurd have
as_many_sorts (s ∷ sorts) (u ∷ us) have = ap suc (as_many_sorts sorts us have.1)

-- the variables from a number on have the values that stand there
last_have : (v ws : List PureValue) (n : ℕ) (sorts : List Sort) → length ws ≡ length sorts → ((i : ℕ) (w : PureValue) → slice_get ws i ≡ Some w → slice_get v (n + i) ≡ Some w) → values v (from_list (variables_from n sorts)) ≡ Some ws
last_have v [] n [] many at = refl
last_have v [] n (s ∷ sorts) many at = absurd (omega (arith, many))
last_have v (w ∷ ws) n [] many at = absurd (omega (arith, many))
last_have v (w ∷ ws) n (s ∷ sorts) many at =
    let here : n + 0 ≡ n = omega arith in
    let first : slice_get v n ≡ Some w = ap (slice_get v) (sym here) ∙ at 0 w refl in
    let rest = last_have v ws (suc n) sorts (omega (arith, many)) (λ i u is. let next : suc n + i ≡ n + suc i = omega arith in ap (slice_get v) next ∙ at (suc i) u is) in
    λ i. both (first i) (rest i)

-- ---- conditions

among_true : (v : List PureValue) (conds : List PureAtom) (a : PureAtom) → IsAmong a conds → all_true v conds ≡ true → truth v a ≡ true
among_true v [] a is all = absurd is
among_true v (c ∷ conds) a is all =
    let (here, later) = and_parts (truth v c) (all_true v conds) all in
    ⊎_elim (λ (same : c ≡ a). ap (truth v) (sym same) ∙ here) (λ further. among_true v conds a further later) is

carried_true : (vars : List Sort) (v more us : List PureValue) (conds cs : List PureAtom) → length v ≡ length vars → all_true (v ++ more) conds ≡ true → Each (IsCarried vars conds) cs → all_true (v ++ us) cs ≡ true
carried_true vars v more us conds [] one_each all carried = refl
carried_true vars v more us conds (a ∷ cs) one_each all carried =
    and_from (truth (v ++ us) a) (all_true (v ++ us) cs)
    (stay_when_tables_grow.truths a vars v us carried.0.0 one_each ∙ sym (stay_when_tables_grow.truths a vars v more carried.0.0 one_each) ∙ among_true (v ++ more) conds a carried.0.1 all)
    (carried_true vars v more us conds cs one_each all carried.1)

-- ---- new symbols

later_counter : (s : Sort) (n : ℕ) → n ≤ counter_after s n
later_counter Sort.Fresh n = omega arith
later_counter Sort.Int n = omega arith
later_counter Sort.Bool n = omega arith
later_counter Sort.Str n = omega arith
later_counter Sort.Sym n = omega arith
later_counter Sort.List n = omega arith
later_counter Sort.Any n = omega arith

abbrev IsSymbolFrom : ℕ → List PureValue → ℕ → Type 0
IsSymbolFrom n ws j = (i : ℕ) × ((slice_get ws j ≡ Some (symbol i)) × (n ≤ i))

new_symbol : (inputs : List PureValue) (n d : ℕ) (new : List Sort) (ws : List PureValue) (j : ℕ) → AreNext inputs n d new ws → slice_get new j ≡ Some Sort.Fresh → IsSymbolFrom n ws j
new_symbol inputs n d [] ws j are at = not_none at
new_symbol inputs n d (s ∷ new) [] j are at = absurd are
new_symbol inputs n d (s ∷ new) (w ∷ ws) zero are at = (n, (ap Some (subst (λ x. IsNext inputs n d x w) (same_some at) are.0), omega arith))
new_symbol inputs n d (s ∷ new) (w ∷ ws) (suc j) are at =
    let (i, (is, above)) = new_symbol inputs (counter_after s n) (draws_after s d) new ws j are.1 at in
    let more : n ≤ counter_after s n = later_counter s n in
    (i, (is, omega (arith, above, more)))

entry_sorts : (params : List (List ℕ)) (others : List Sort) → list_all is_any_or_list others ≡ true → list_all is_any_or_list (any_for_each params ++ others) ≡ true
entry_sorts [] others all = all
entry_sorts (x ∷ params) others all = entry_sorts params others all

first_value : (o : Option PureValue) (os : Option (List PureValue)) (ws : List PureValue) (w : PureValue) → both o os ≡ Some ws → o ≡ Some w → (later : List PureValue) × (ws ≡ w ∷ later)
first_value (Some u) (Some us) ws w is at = (us, sym (same_some is) ∙ ap (λ x. x ∷ us) (same_some at))
first_value (Some u) None ws w is at = not_none is
first_value None os ws w is at = not_none at

right_holds : (P : ℕ → Type 0) (vs ws : List PureValue) → HoldsOfAll P (vs ++ ws) → HoldsOfAll P ws
right_holds P [] ws all = all
right_holds P (v ∷ vs) ws all = right_holds P vs ws all.1

-- ---- keys at new symbols

-- each fix of one is at the symbol
pub each_at_new_symbol : (memory : MemoryName) (vars : List Sort) (key : PureKey) (fs : List PureFix) → IsKeyAtNewSymbol memory vars key → Each (IsFixOf memory key) fs → Each (IsAtNewSymbol vars) fs
each_at_new_symbol memory vars key fs at all =
    each_to (IsFixOf memory key) (IsAtNewSymbol vars) fs (λ f fix. (at.location, (fix.later_ins, (fix.loc_first ∙ ap (λ t. t ∷ fix.later_ins) at.is_location, at.taken)))) all

-- so the key is at none where they aren't all at one
pub not_at_new_symbol : (memory : MemoryName) (m : Actions) (vars : List Sort) (key : PureKey) (fs : List PureFix) → FixLaw memory m key fs → ¬ (Each (IsAtNewSymbol vars) fs) → ¬ IsKeyAtNewSymbol memory vars key
not_at_new_symbol memory m vars key fs laws some at = some (each_at_new_symbol memory vars key fs at (laws.uses at.of_memory))

-- ---- the key that is missed

module _ (memory : MemoryName) (m : Actions) (params : List (List ℕ)) (n : ℕ) (b : PureBeginning) (is : IsBeginning memory params b) (vars : List Sort) (conds : List PureAtom) (key : PureKey)
    (args : List PureValue) (whole : Heap) (counter : ℕ) (missed : IsMissed memory m params n b vars conds key args whole counter) where
  abbrev a : Awaits params args whole counter n b
  a = missed.awaited

  abbrev v : List PureValue
  v = a.values ++ missed.more

  abbrev IsFixed : PureFix → Type 0
  IsFixed f = IsFixFor v missed.heap (joined missed.heap a.rest) f

  one_each : length a.values ≡ length b.vars
  one_each = a.meets.proper.one_each

  module _ (f : PureFix) (fix : IsFixed f) where
    in_rest : Holds a.rest fix.k fix.w
    in_rest = ⊎_elim (λ here. absurd (fix.lacks (has_key missed.heap fix.k fix.w here))) (λ there. there) ((join_holds_both missed.heap a.rest missed.apart).nothing_else fix.k fix.w fix.holds)

    in_whole : Holds whole fix.k fix.w
    in_whole = subst (λ h. Holds h fix.k fix.w) (sym a.union.union) (second_part a.own a.rest a.union.disjoint fix.k fix.w in_rest)

    all_below : HoldsOfAll (λ i. i < counter) (fix.ws ++ fix.us)
    all_below = by (core_of f.core) fix.entry
      where
        by : (o : Option Core) → entry_named o (fix.ws ++ fix.us) ≡ Some (fix.k, fix.w) → HoldsOfAll (λ i. i < counter) (fix.ws ++ fix.us)
        by (Some core) entry = let (at, value) = missed.whole_below fix.k fix.w in_whole in entry_holds (λ i. i < counter) core (fix.ws ++ fix.us) fix.k fix.w entry at value
        by None entry = not_none entry

    -- its location is no new symbol
    at_new_symbol : ¬ IsAtNewSymbol vars f
    at_new_symbol (x, (later, (ins, fresh))) = ⊎_elim (λ below. early below) (λ past. late past) (cases_lt x.number (length b.vars))
      where
        there : slice_get (b.vars ++ missed.new) x.number ≡ Some Sort.Fresh
        there = ap (λ (xs : List Sort). slice_get xs x.number) (sym missed.table) ∙ fresh

        early : x.number < length b.vars → ⊥
        early below =
            let at : slice_get b.vars x.number ≡ Some Sort.Fresh = sym (slice_get-append b.vars missed.new x.number below) ∙ there in
            let all : list_all is_any_or_list b.vars ≡ true = ap (list_all is_any_or_list) is.table.table ∙ entry_sorts params is.table.others is.table.sorts in
            not_fresh Sort.Fresh (all_at is_any_or_list b.vars x.number Sort.Fresh at all) refl

        late : length b.vars ≤ x.number → ⊥
        late past =
            let j : ℕ = x.number - length b.vars in
            let in_table : x.number ≡ length b.vars + j = omega (arith, past) in
            let many = one_each in
            let in_values : x.number ≡ length a.values + j = omega (arith, in_table, many) in
            let (i, (symbol_is, above)) = new_symbol [] counter 0 missed.new missed.more j missed.in_turn (sym (get_back b.vars missed.new x.number j in_table) ∙ there) in
            let value_is : slice_get v x.number ≡ Some (symbol i) = get_back a.values missed.more x.number j in_values ∙ symbol_is in
            let (us, split) = first_value (slice_get v x.number) (values v (from_list later)) fix.ws (symbol i) (ap (λ ts. values v (from_list ts)) (sym ins) ∙ fix.have) value_is in
            let below : i < counter = (subst (λ ws. HoldsOfAll (λ k. k < counter) (ws ++ fix.us)) split all_below).0 i (Contains-push [] i) in
            omega (arith, above, below)

    -- and as many keys aren't fixed already
    not_all_fixed : ¬ (n ≤ length b.uses)
    not_all_fixed many =
        let few : length b.uses + length (entries a.rest) ≤ n = a.few in
        let less : length (entries (remove a.rest fix.k)) + 1 ≡ length (entries a.rest) = one_key_less a.rest fix.k fix.w in_rest in
        omega (arith, many, few, less)

    module _ (c : PureBeginning) (carries : Carries b conds c) (over : IsFixOver memory b.vars f) where
      abbrev outs : List PureTerm
      outs = variables_from (length b.vars) f.outs

      abbrev used : PureUse
      used = record { core = f.core; ins = f.ins; outs = outs }

      abbrev now : List PureValue
      now = a.values ++ fix.us

      abbrev next : PureBeginning
      next = record { vars = b.vars ++ f.outs; uses = b.uses ++ used ∷ []; conds = c.conds; place = c.place; choices = c.choices }

      lacks : ¬ HasKey a.own fix.k
      lacks has = a.union.disjoint fix.k has (has_key a.rest fix.k fix.w in_rest)

      union : IsUnion whole (insert a.own fix.k fix.w) (remove a.rest fix.k)
      union =
          let (e, (with, all)) = regrouped whole a.own a.rest (one_key fix.k fix.w) (remove a.rest fix.k) a.union (union_commutes a.rest (remove a.rest fix.k) (one_key fix.k fix.w) (key_splits a.rest fix.k fix.w in_rest)) in
          subst (λ h. IsUnion whole h (remove a.rest fix.k)) (with.union ∙ sym ((one_key_more_is_union memory a.own fix.k fix.w).union lacks)) all

      outs_have : values now (from_list outs) ≡ Some fix.us
      outs_have =
          let many = one_each in
          last_have now fix.us (length b.vars) f.outs (as_many_sorts f.outs fix.us fix.of_sorts)
          (λ i w at. get_back a.values fix.us (length b.vars + i) i (omega (arith, many)) ∙ at)

      ins_have : values now (from_list f.ins) ≡ Some fix.ws
      ins_have = values_longer b.vars a.values fix.us one_each f.ins over.ins_over ∙ sym (values_longer b.vars a.values missed.more one_each f.ins over.ins_over) ∙ fix.have

      use_is : IsUse now used fix.k fix.w
      use_is = record { ws = fix.ws ++ fix.us; have = values_append now f.ins outs fix.ws fix.us ins_have outs_have; entry = fix.entry }

      uses_each : Each (λ u. AreEachOver b.vars (u.ins ++ u.outs)) b.uses
      uses_each = each_to (λ u. TakesBoth memory u.core u.ins u.outs × AreEachOver b.vars (u.ins ++ u.outs)) (λ u. AreEachOver b.vars (u.ins ++ u.outs)) b.uses (λ u all. all.1) is.uses

      counted_uses : length (b.uses ++ used ∷ []) + length (entries (remove a.rest fix.k)) ≤ n
      counted_uses =
          let few : length b.uses + length (entries a.rest) ≤ n = a.few in
          let less : length (entries (remove a.rest fix.k)) + 1 ≡ length (entries a.rest) = one_key_less a.rest fix.k fix.w in_rest in
          let longer : length (b.uses ++ used ∷ []) ≡ length b.uses + 1 = length-append b.uses (used ∷ []) in
          omega (arith, few, less, longer)

      awaits_next : Awaits params args whole counter n next
      awaits_next = record {
        values = now;
        meets = record {
          proper = sorts_proper b.vars a.values f.outs fix.us a.meets.proper over.sorts fix.of_sorts;
          true_there = carried_true b.vars a.values missed.more fix.us conds c.conds one_each missed.meets.true_there carries.carried;
        };
        arguments = values_longer b.vars a.values fix.us one_each (variables_from 0 (any_for_each params)) (params_over params b.vars is.table) ∙ a.arguments;
        below = below_both counter a.values fix.us a.below (each_of_all (λ i. i < counter) fix.us (right_holds (λ i. i < counter) fix.ws fix.us all_below));
        own = insert a.own fix.k fix.w;
        rest = remove a.rest fix.k;
        union = union;
        uses = union_with now b.uses used a.own fix.k fix.w (union_longer b.vars a.values fix.us one_each b.uses a.own uses_each a.uses) lacks use_is;
        few = counted_uses;
      }

      is_next : with_fix c f ≡ next
      is_next i = record {
        vars = carries.table i ++ f.outs;
        uses = carries.same_uses i ++ record { core = f.core; ins = f.ins; outs = variables_from (length (carries.table i)) f.outs } ∷ [];
        conds = c.conds;
        place = c.place;
        choices = c.choices;
      }

      awaits_fixed : Awaits params args whole counter n (with_fix c f)
      awaits_fixed = subst (Awaits params args whole counter n) (sym is_next) awaits_next

  module _ (fs : List PureFix) (laws : FixLaw memory m key fs) where
    fixed : OneOf IsFixed fs
    fixed = laws.cover v missed.missed missed.heap (joined missed.heap a.rest) missed.named missed.done

    -- some key is missed that isn't at a new symbol
    pub none_new : ¬ (Each (IsAtNewSymbol vars) fs)
    none_new all = one_with (IsAtNewSymbol vars) IsFixed fs all fixed (λ f new fix. at_new_symbol f fix new)

    -- and fewer keys are fixed than may be
    pub fewer : ¬ (n ≤ length b.uses)
    fewer many = any_of fs fixed
      where
        any_of : (gs : List PureFix) → OneOf IsFixed gs → ⊥
        any_of [] one = one
        any_of (g ∷ gs) one = ⊎_elim (λ here. not_all_fixed g here many) (λ later. any_of gs later) one

    pub awaited_again : (c : PureBeginning) → Carries b conds c → Each (IsFixOver memory b.vars) fs → OneOf (Awaits params args whole counter n) (map (with_fix c) fs)
    awaited_again c carries over = each_awaits fs over fixed
      where
        each_awaits : (gs : List PureFix) → Each (IsFixOver memory b.vars) gs → OneOf IsFixed gs → OneOf (Awaits params args whole counter n) (map (with_fix c) gs)
        each_awaits [] all one = absurd one
        each_awaits (g ∷ gs) all one = ⊎_elim (λ here. inl (awaits_fixed g here c carries all.0)) (λ later. inr (each_awaits gs all.1 later)) one

-- ---- beginnings that fix a key are beginnings

module _ (memory : MemoryName) (params : List (List ℕ)) (b : PureBeginning) (conds : List PureAtom) (is : IsBeginning memory params b) (c : PureBeginning) (carries : Carries b conds c) where
  carrying_is : IsBeginning memory params c
  carrying_is = carrying memory params b is c carries.table carries.same_uses
      (each_to (IsCarried b.vars conds) (λ x. IsOver b.vars (term_of x)) c.conds (λ x carried. carried.0) carries.carried)

  pub fixed_are : (fs : List PureFix) → Each (IsFixOver memory b.vars) fs → Each (IsBeginning memory params) (map (with_fix c) fs)
  fixed_are [] over = tt
  fixed_are (f ∷ fs) over = (
    with_use memory params c carrying_is f (subst (λ (xs : List Sort). IsFixOver memory xs f) (sym carries.table) over.0) (with_fix c f) refl refl refl,
    fixed_are fs over.1,
  )

-- ---- place and choices

-- with a use more it has the same place and choices
pub each_led : (place : Place) (choices : List ℕ) (conds : List PureAtom) (b : PureBeginning) → IsLed place choices conds b → (fs : List PureFix)
    → Each (λ f. IsLed place choices conds (with_fix b f)) fs
each_led place choices conds b led [] = tt
each_led place choices conds b led (f ∷ fs) = (record { there = led.there; chosen = led.chosen; carried = led.carried }, each_led place choices conds b led fs)
