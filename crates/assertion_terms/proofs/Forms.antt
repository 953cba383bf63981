-- What assertions of named forms mean.
use Rattle.std.proofs.Common.{◌≡◌, ◌↔◌, ℕ, List, [], ◌∷◌, ◌++◌, map, Bool, true, false, ◌&&◌, if◌then◌else◌, Option, Some, None, Ok, Err, is_some, IsSome, refl, sym, ap, subst, ◌∙◌, true≢false}
use Rattle.std.specs.FinMap.{empty, remove}
use Rattle.std.specs.Option.{option_map}
use Rattle.std.specs.Result.{result_ok}
use Rattle.std.proofs.lemmas.Bool.{and_parts}
use Rattle.gil_values.specs.declared.operators.UnOp.TheVariants.{Not}
use Rattle.gil_values.specs.declared.operators.BinOp.TheVariants.{Equal}
use Rattle.gil_values.specs.Equality.{same_value}
use Rattle.gil_values.specs.EqualityLaws.{same_value-Decides}
use Rattle.gil_values.specs.Operators.{Outcome, unary, binary}
use Rattle.gil_values.specs.Pure.{PureValue, integer, boolean, text, symbol, kind, procedure, list}
use Rattle.gil_syntax.specs.Evaluation.{Store, after_value, evaluate, evaluate_all}
use Rattle.gil_syntax.specs.Pure.{PureExpr, PurePredDef, PureItem, pure, uses}
use Rattle.gil_syntax.specs.Pure as expr
use Rattle.mem_model.specs.declared.cores.Core.{Core}
use Rattle.mem_model.specs.declared.keys.Key.{Key}
use Rattle.mem_model.specs.CoreNames.{core_of}
use Rattle.mem_model.specs.Cores.{core_entry, core_heap, one_key}
use Rattle.mem_model.specs.Heaps.{Heap}
use Rattle.assert_logic.specs.Meets.{Predicates, Meets, ItemMeets, UseHolds, HoldsSomewhere}
use Rattle.assert_logic.specs.Unions.{IsUnion}
use Rattle.assert_logic.proofs.SplitLaws.{key_splits}
use Rattle.assert_logic.proofs.UnionLaws.{union_commutes, union_after_none, only_second}
use Rattle.gil_grammar.specs.Assertions.{may_be_item}
use Rattle.pure_terms.specs.declared.variables.Sort.{Sort}
use Rattle.pure_terms.specs.Meaning.{value, values, truth, all_true, is_that_boolean, IsOver}
use Rattle.pure_terms.specs.Meaning as term
use Rattle.pure_terms.specs.Pure.{PureTerm, from_list, PureAtom, positive, negative, opening, term_of}
use Rattle.sym_model.specs.Listing.{IsUse, AreUnion}
use Rattle.sym_model.specs.Pure.{PureUse}
use Rattle.sym_model.specs.Terms.{AreEachOver}
use Rattle.sym_model.proofs.ListLaws.{same_some, not_none, each_left, each_right}
use Rattle.assertion_terms.specs.Laws.{NamesValues, AreUsesOver, AreAtomsOver, NamedFormsAreRight}
use Rattle.assertion_terms.specs.Named.{expr_of, equal, item_of, use_item, assertion_of}
use Rattle.assertion_terms.proofs.Evaluated.{value_same, all_same, ok_to_some, some_to_ok}
use Rattle.assertion_terms.proofs.Keys.{key_first}

-- ---- booleans as outcomes

-- that an outcome is true, as the truth of its value
true_of : (r : Outcome) (o : Option PureValue) → result_ok r ≡ o → (r ≡ Ok (boolean true)) ↔ (is_that_boolean true o ≡ true)
true_of r o same = (
  (λ is. ap (is_that_boolean true) (sym same ∙ ok_to_some r (boolean true) is)),
  (λ holds. some_to_ok r (boolean true) (same ∙ that_true o holds)),
)
  where
    that_true : (o : Option PureValue) → is_that_boolean true o ≡ true → o ≡ Some (boolean true)
    that_true (Some (boolean b)) is = ap (λ c. Some (boolean c)) is
    that_true (Some (integer n)) is = absurd (true≢false (sym is))
    that_true (Some (text cs)) is = absurd (true≢false (sym is))
    that_true (Some (symbol n)) is = absurd (true≢false (sym is))
    that_true (Some (kind k)) is = absurd (true≢false (sym is))
    that_true (Some (procedure x)) is = absurd (true≢false (sym is))
    that_true (Some (list vs)) is = absurd (true≢false (sym is))
    that_true None is = absurd (true≢false (sym is))

-- an outcome that is equal to true
equal_true : (r : Outcome) → (after_value r (λ a. binary Equal a (boolean true)) ≡ Ok (boolean true)) ↔ (r ≡ Ok (boolean true))
equal_true (Ok a) = (
  (λ is. ap Ok ((same_value-Decides a (boolean true)).0 (same_boolean (same_value a (boolean true)) true is))),
  (λ is. ap (λ x. Ok (boolean x)) ((same_value-Decides a (boolean true)).1 (same_ok a (boolean true) is))),
)
  where
    same_boolean : (b c : Bool) → ◌≡◌ {A = Outcome} (Ok (boolean b)) (Ok (boolean c)) → b ≡ c
    same_boolean b c is = cc

    same_ok : (a w : PureValue) → ◌≡◌ {A = Outcome} (Ok a) (Ok w) → a ≡ w
    same_ok a w is = cc
equal_true (Err f) = ((λ is. absurd (cc)), (λ is. absurd (cc)))

not_true : (r : Outcome) (o : Option PureValue) → result_ok r ≡ o → (after_value r (unary Not) ≡ Ok (boolean true)) ↔ (is_that_boolean false o ≡ true)
not_true (Ok (boolean true)) o same = ((λ is. absurd (cc)), (λ holds. absurd (true≢false (sym (ap (is_that_boolean false) same ∙ holds)))))
not_true (Ok (boolean false)) o same = ((λ is. ap (is_that_boolean false) (sym same)), (λ holds. refl))
not_true (Ok (integer n)) o same = ((λ is. absurd (cc)), (λ holds. absurd (true≢false (sym (ap (is_that_boolean false) same ∙ holds)))))
not_true (Ok (text cs)) o same = ((λ is. absurd (cc)), (λ holds. absurd (true≢false (sym (ap (is_that_boolean false) same ∙ holds)))))
not_true (Ok (symbol n)) o same = ((λ is. absurd (cc)), (λ holds. absurd (true≢false (sym (ap (is_that_boolean false) same ∙ holds)))))
not_true (Ok (kind k)) o same = ((λ is. absurd (cc)), (λ holds. absurd (true≢false (sym (ap (is_that_boolean false) same ∙ holds)))))
not_true (Ok (procedure x)) o same = ((λ is. absurd (cc)), (λ holds. absurd (true≢false (sym (ap (is_that_boolean false) same ∙ holds)))))
not_true (Ok (list vs)) o same = ((λ is. absurd (cc)), (λ holds. absurd (true≢false (sym (ap (is_that_boolean false) same ∙ holds)))))
not_true (Err f) o same = ((λ is. absurd (cc)), (λ holds. absurd (true≢false (sym (ap (is_that_boolean false) same ∙ holds)))))

itself_true : (r : Outcome) (o : Option PureValue) → result_ok r ≡ o → (after_value r (λ a. after_value r (λ c. binary Equal a c)) ≡ Ok (boolean true)) ↔ (is_some o ≡ true)
itself_true (Ok a) o same = ((λ is. ap is_some (sym same)), (λ holds. ap (λ x. Ok (boolean x)) ((same_value-Decides a a).1 refl)))
itself_true (Err f) o same = ((λ is. absurd (cc)), (λ holds. absurd (true≢false (sym (ap is_some same ∙ holds)))))

-- ---- lists of values

value_first : (o : Option PureValue) (os : Option (List PureValue)) (ws : List PureValue) → term.both o os ≡ Some ws → (w : PureValue) × ((us : List PureValue) × ((o ≡ Some w) × (os ≡ Some us) × (ws ≡ w ∷ us)))
value_first (Some w) (Some us) ws is = (w, (us, (refl, refl, sym (same_some is))))
value_first (Some w) None ws is = not_none is
value_first None os ws is = not_none is

values_split : (v : List PureValue) (ts us : List PureTerm) (ws : List PureValue) → values v (from_list (ts ++ us)) ≡ Some ws
    → (a : List PureValue) × ((c : List PureValue) × ((values v (from_list ts) ≡ Some a) × (values v (from_list us) ≡ Some c) × (ws ≡ a ++ c)))
values_split v [] us ws is = ([], (ws, (refl, is, refl)))
values_split v (t ∷ ts) us ws is =
    let (w, (rest, (here, later, both))) = value_first (value v t) (values v (from_list (ts ++ us))) ws is in
    let (a, (c, (first, second, all))) = values_split v ts us rest later in
    (w ∷ a, (c, ((λ i. term.both (here i) (first i)), second, both ∙ ap (λ xs. w ∷ xs) all)))

values_joined : (v : List PureValue) (ts us : List PureTerm) (a c : List PureValue) → values v (from_list ts) ≡ Some a → values v (from_list us) ≡ Some c → values v (from_list (ts ++ us)) ≡ Some (a ++ c)
values_joined v [] us a c first second = second ∙ ap (λ xs. Some (xs ++ c)) (same_some first)
values_joined v (t ∷ ts) us a c first second =
    let (w, (rest, (here, later, both))) = value_first (value v t) (values v (from_list ts)) a first in
    (λ i. term.both (here i) (values_joined v ts us rest c later second i)) ∙ ap (λ xs. Some (xs ++ c)) (sym both)

entry_of_heap : (o : Option (Key × PureValue)) (part : Heap) → option_map (λ e. one_key e.0 e.1) o ≡ Some part → (k : Key) × ((w : PureValue) × ((o ≡ Some (k, w)) × (part ≡ one_key k w)))
entry_of_heap (Some e) part is = (e.0, (e.1, (refl, sym (same_some is))))
entry_of_heap None part is = not_none is

-- ---- items

module _ (vars : List Sort) (names : List (List ℕ)) (v : List PureValue) (store : Store) (have : NamesValues vars names v store) (preds : List PurePredDef) where
  abbrev holds : Predicates
  holds = HoldsSomewhere preds

  atom_item : (a : PureAtom) (h : Heap) → IsOver vars (term_of a) → ItemMeets holds store (item_of names a) h ↔ ((truth v a ≡ true) × (h ≡ empty))
  atom_item (positive t) h over = by (may_be_item (expr_of names t))
    where
      same : (evaluate (expr_of names t) store ≡ Ok (boolean true)) ↔ (truth v (positive t) ≡ true)
      same = true_of (evaluate (expr_of names t) store) (value v t) (value_same vars names v store have t over)

      by : (b : Bool) → ItemMeets holds store (if b then pure (expr_of names t) else pure (equal (expr_of names t) (expr.literal (boolean true)))) h ↔ ((truth v (positive t) ≡ true) × (h ≡ empty))
      by true = ((λ met. (same.0 met.0, met.1)), (λ is. (same.1 is.0, is.1)))
      by false = (
        (λ met. (same.0 ((equal_true (evaluate (expr_of names t) store)).0 met.0), met.1)),
        (λ is. ((equal_true (evaluate (expr_of names t) store)).1 (same.1 is.0), is.1)),
      )
  atom_item (negative t) h over =
      let same = not_true (evaluate (expr_of names t) store) (value v t) (value_same vars names v store have t over) in
      ((λ met. (same.0 met.0, met.1)), (λ is. (same.1 is.0, is.1)))
  atom_item (opening t) h over =
      let same = itself_true (evaluate (expr_of names t) store) (value v t) (value_same vars names v store have t over) in
      ((λ met. (same.0 met.0, met.1)), (λ is. (same.1 is.0, is.1)))

  atoms_to : (conds : List PureAtom) (h : Heap) → AreAtomsOver vars conds → Meets holds store (map (item_of names) conds) h → (h ≡ empty) × (all_true v conds ≡ true)
  atoms_to [] h over met = (met, refl)
  atoms_to (a ∷ conds) h over (part, (rest, (union, (item, later)))) =
      let (here, none) = (atom_item a part over.0).0 item in
      let (empty_rest, all) = atoms_to conds rest over.1 later in
      (only_second h part rest union none ∙ empty_rest, ap (λ b. b && all_true v conds) here ∙ all)

  atoms_from : (conds : List PureAtom) (h : Heap) → AreAtomsOver vars conds → h ≡ empty → all_true v conds ≡ true → Meets holds store (map (item_of names) conds) h
  atoms_from [] h over none all = none
  atoms_from (a ∷ conds) h over none all =
      let (here, later) = and_parts (truth v a) (all_true v conds) all in
      (empty, (h, (union_after_none h, ((atom_item a empty over.0).1 (here, refl), atoms_from conds h over.1 none later))))

  use_to : (u : PureUse) (part : Heap) → IsSome (core_of u.core) → AreEachOver vars (u.ins ++ u.outs) → ItemMeets holds store (use_item names u) part → (k : Key) × ((w : PureValue) × (IsUse v u k w × (part ≡ one_key k w)))
  use_to u part core over met =
      let (k, (w, (entry, is))) = entry_of_heap (core_entry u.core (met.ins ++ met.outs)) part (by (core_of u.core) core met.holds_there) in
      let ins = sym (all_same vars names v store have u.ins (each_left (IsOver vars) u.ins u.outs over)) ∙ ok_to_some (evaluate_all (map (expr_of names) u.ins) store) met.ins met.ins_are in
      let outs = sym (all_same vars names v store have u.outs (each_right (IsOver vars) u.ins u.outs over)) ∙ ok_to_some (evaluate_all (map (expr_of names) u.outs) store) met.outs met.outs_are in
      (k, (w, (record { ws = met.ins ++ met.outs; have = values_joined v u.ins u.outs met.ins met.outs ins outs; entry = entry }, is)))
    where
      by : (o : Option Core) → IsSome o → UseHolds holds o u.core met.ins met.outs part → core_heap u.core (met.ins ++ met.outs) ≡ Some part
      by (Some c) core there = there
      by None core there = absurd (true≢false (sym core))

  use_from : (u : PureUse) (k : Key) (w : PureValue) → IsSome (core_of u.core) → AreEachOver vars (u.ins ++ u.outs) → IsUse v u k w → ItemMeets holds store (use_item names u) (one_key k w)
  use_from u k w core over is =
      let (a, (c, (first, second, all))) = values_split v u.ins u.outs is.ws is.have in
      record {
        ins = a;
        outs = c;
        ins_are = some_to_ok (evaluate_all (map (expr_of names) u.ins) store) a (all_same vars names v store have u.ins (each_left (IsOver vars) u.ins u.outs over) ∙ first);
        outs_are = some_to_ok (evaluate_all (map (expr_of names) u.outs) store) c (all_same vars names v store have u.outs (each_right (IsOver vars) u.ins u.outs over) ∙ second);
        holds_there = by (core_of u.core) core a c (ap (option_map (λ e. one_key e.0 e.1)) (ap (core_entry u.core) (sym all) ∙ is.entry));
      }
    where
      by : (o : Option Core) → IsSome o → (a c : List PureValue) → core_heap u.core (a ++ c) ≡ Some (one_key k w) → UseHolds holds o u.core a c (one_key k w)
      by (Some core) some a c there = there
      by None some a c there = absurd (true≢false (sym some))

  pub meets_to : (us : List PureUse) (conds : List PureAtom) (h : Heap) → AreUsesOver vars us → AreAtomsOver vars conds → Meets holds store (assertion_of names us conds) h → AreUnion v us h × (all_true v conds ≡ true)
  meets_to [] conds h over atoms met = atoms_to conds h atoms met
  meets_to (u ∷ us) conds h over atoms (part, (rest, (union, (item, later)))) =
      let (k, (w, (is, one))) = use_to u part over.0.0 over.0.1 item in
      let (held, left) = key_first h rest k w (subst (λ g. IsUnion h g rest) one union) in
      let (there, all) = meets_to us conds rest over.1 atoms later in
      ((k, (w, (is, held, subst (AreUnion v us) (sym left) there))), all)

  pub meets_from : (us : List PureUse) (conds : List PureAtom) (h : Heap) → AreUsesOver vars us → AreAtomsOver vars conds → AreUnion v us h → all_true v conds ≡ true → Meets holds store (assertion_of names us conds) h
  meets_from [] conds h over atoms union all = atoms_from conds h atoms union all
  meets_from (u ∷ us) conds h over atoms (k, (w, (is, held, later))) all =
      (one_key k w, (remove h k, (union_commutes h (remove h k) (one_key k w) (key_splits h k w held), (use_from u k w over.0.0 over.0.1 is, meets_from us conds (remove h k) over.1 atoms later all))))

pub named_forms_are_right : NamedFormsAreRight
named_forms_are_right vars names v store have = record {
  values_are = λ t w over.
      let same = value_same vars names v store have t over in
      ((λ is. sym same ∙ ok_to_some (evaluate (expr_of names t) store) w is), (λ is. some_to_ok (evaluate (expr_of names t) store) w (same ∙ is)));
  meets = λ preds us conds h over atoms. (meets_to vars names v store have preds us conds h over atoms, (λ is. meets_from vars names v store have preds us conds h over atoms is.0 is.1));
}
