-- Names of what has a value have one.
use Rattle.std.proofs.Common.{◌≡◌, ◌⊎◌, ⊎_elim, ℕ, List, [], ◌∷◌, ◌++◌, Bool, true, false, ◌||◌, Option, Some, None, Ok, Err, bytes_eq, refl, sym, ap, subst, ◌∙◌}
use Rattle.std.specs.List.{flat_map}
use Rattle.std.proofs.lemmas.Grind.{flat_map-append}
use Rattle.std.specs.Option.{option_and_then}
use Rattle.std.proofs.lemmas.List.Folds.{list_any-append}
use Rattle.std.proofs.lemmas.Slice.Eq.{bytes_eq-Decides}
use Rattle.gil_values.specs.Operators.{Outcome, unary, binary}
use Rattle.gil_values.specs.Pure.{PureValue, integer, boolean, text, symbol, kind, procedure, list}
use Rattle.gil_syntax.specs.Evaluation.{Store, value_of, set_or_fault, after_value, Outcomes, both, as_list, evaluate, evaluate_elements, evaluate_all}
use Rattle.gil_syntax.specs.Pure.{PureExpr, literal, name, logical, list_of, unary_of, binary_of, PureExprs, no_exprs, expr_and, PureItem, pure, uses}
use Rattle.gil_syntax.specs.Subexpressions.{subexpressions, subexpressions_of_all, own_names, names_of}
use Rattle.gil_syntax.specs.Valid.{is_among}
use Rattle.assert_logic.specs.Adding.{where_true, with_values, with_item, added}
use Rattle.assert_logic.specs.LogicStates.{LogicState}
use Rattle.assert_logic.specs.Names.{named_among, named_by_item, named_by_items}
use Rattle.checked_runs.proofs.Stores.{one_of_two}

abbrev pub HasValue : Store → List ℕ → Type 0
HasValue s x = (v : PureValue) × (value_of s x ≡ Some v)

set_has : (s : Store) (x : List ℕ) (v : PureValue) → set_or_fault (value_of s x) ≡ Ok v → HasValue s x
set_has s x v = by (value_of s x) refl
  where
    by : (o : Option PureValue) → value_of s x ≡ o → set_or_fault o ≡ Ok v → HasValue s x
    by (Some w) at is = (w, at)
    by None at is = absurd (cc)

one_name : (s : Store) (x y : List ℕ) (v : PureValue) → set_or_fault (value_of s y) ≡ Ok v → is_among (y ∷ []) x ≡ true → HasValue s x
one_name s x y v is among = by (bytes_eq x y) refl among
  where
    by : (b : Bool) → bytes_eq x y ≡ b → (b || false) ≡ true → HasValue s x
    by true same any = subst (HasValue s) (sym ((bytes_eq-Decides x y).0 same)) (set_has s y v is)
    by false other any = absurd (cc)

among_parts : (ds es : List PureExpr) (x : List ℕ) → is_among (flat_map own_names (ds ++ es)) x ≡ true
    → (is_among (flat_map own_names ds) x ≡ true) ⊎ (is_among (flat_map own_names es) x ≡ true)
among_parts ds es x is =
    one_of_two (is_among (flat_map own_names ds) x) (is_among (flat_map own_names es) x)
    (sym (ap (λ xs. is_among xs x) (flat_map-append own_names ds es) ∙ list_any-append (bytes_eq x) (flat_map own_names ds) (flat_map own_names es)) ∙ is)

-- ---- what an item that was added shows

true_there : (o : Outcome) (l : LogicState) (r : LogicState) → where_true o l ≡ Some r → o ≡ Ok (boolean true)
true_there (Ok (integer n)) l r is = absurd (cc)
true_there (Ok (boolean true)) l r is = refl
true_there (Ok (boolean false)) l r is = absurd (cc)
true_there (Ok (text cs)) l r is = absurd (cc)
true_there (Ok (symbol n)) l r is = absurd (cc)
true_there (Ok (kind k)) l r is = absurd (cc)
true_there (Ok (procedure f)) l r is = absurd (cc)
true_there (Ok (list vs)) l r is = absurd (cc)
true_there (Err fault) l r is = absurd (cc)

values_there : (pred : List ℕ) (ins outs : Outcomes) (l r : LogicState) → with_values pred ins outs l ≡ Some r
    → (vs : List PureValue) × ((ws : List PureValue) × ((ins ≡ Ok vs) × (outs ≡ Ok ws)))
values_there pred (Ok vs) (Ok ws) l r is = (vs, (ws, (refl, refl)))
values_there pred (Ok vs) (Err fault) l r is = absurd (cc)
values_there pred (Err fault) (Ok ws) l r is = absurd (cc)
values_there pred (Err fault) (Err other) l r is = absurd (cc)

-- an item was added, and then the others
pub and_then_added : (o : Option LogicState) (f : LogicState → Option LogicState) (t : LogicState) → option_and_then f o ≡ Some t
    → (r : LogicState) × ((o ≡ Some r) × (f r ≡ Some t))
and_then_added (Some r) f t is = (r, (refl, is))
and_then_added None f t is = absurd (cc)

pub pure_true : (e : PureExpr) (s : Store) (l r : LogicState) → with_item s (pure e) l ≡ Some r → evaluate e s ≡ Ok (boolean true)
pure_true e s l r is = true_there (evaluate e s) l r is

module _ (s : Store) (x : List ℕ) where
  after_has : (o : Outcome) (f : PureValue → Outcome) (v : PureValue) → after_value o f ≡ Ok v → (w : PureValue) × ((o ≡ Ok w) × (f w ≡ Ok v))
  after_has (Ok w) f v is = (w, (refl, is))
  after_has (Err fault) f v is = absurd (cc)

  both_has : (o : Outcome) (os : Outcomes) (vs : List PureValue) → both o os ≡ Ok vs → (w : PureValue) × ((ws : List PureValue) × ((o ≡ Ok w) × (os ≡ Ok ws)))
  both_has (Ok w) (Ok ws) vs is = (w, (ws, (refl, refl)))
  both_has (Ok w) (Err fault) vs is = absurd (cc)
  both_has (Err fault) os vs is = absurd (cc)

  list_has : (os : Outcomes) (v : PureValue) → as_list os ≡ Ok v → (ws : List PureValue) × (os ≡ Ok ws)
  list_has (Ok ws) v is = (ws, refl)
  list_has (Err fault) v is = absurd (cc)

  mutual
    expr_has : (e : PureExpr) (v : PureValue) → evaluate e s ≡ Ok v → is_among (names_of e) x ≡ true → HasValue s x
    expr_has (literal w) v is among = absurd (cc)
    expr_has (name y) v is among = one_name s x y v is among
    expr_has (logical y) v is among = one_name s x y v is among
    expr_has (list_of es) v is among = let (ws, values) = list_has (evaluate_elements es s) v is in elements_have es ws values among
    expr_has (unary_of op e) v is among = let (w, (value, rest)) = after_has (evaluate e s) (unary op) v is in expr_has e w value among
    expr_has (binary_of op d e) v is among =
        let (w, (value, rest)) = after_has (evaluate d s) (λ u. after_value (evaluate e s) (binary op u)) v is in
        let (u, (second, last)) = after_has (evaluate e s) (binary op w) v rest in
        ⊎_elim (expr_has d w value) (expr_has e u second) (among_parts (subexpressions d) (subexpressions e) x among)

    elements_have : (es : PureExprs) (vs : List PureValue) → evaluate_elements es s ≡ Ok vs → is_among (flat_map own_names (subexpressions_of_all es)) x ≡ true → HasValue s x
    elements_have no_exprs vs is among = absurd (cc)
    elements_have (expr_and e es) vs is among =
        let (w, (ws, (here, there))) = both_has (evaluate e s) (evaluate_elements es s) vs is in
        ⊎_elim (expr_has e w here) (elements_have es ws there) (among_parts (subexpressions e) (subexpressions_of_all es) x among)

  all_have : (es : List PureExpr) (vs : List PureValue) → evaluate_all es s ≡ Ok vs → named_among es x ≡ true → HasValue s x
  all_have [] vs is named = absurd (cc)
  all_have (e ∷ es) vs is named =
      let (w, (ws, (here, there))) = both_has (evaluate e s) (evaluate_all es s) vs is in
      ⊎_elim (expr_has e w here) (all_have es ws there) (one_of_two (is_among (names_of e) x) (named_among es x) named)

  item_has : (item : PureItem) (l r : LogicState) → with_item s item l ≡ Some r → named_by_item item x ≡ true → HasValue s x
  item_has (pure e) l r is named = expr_has e (boolean true) (pure_true e s l r is) named
  item_has (uses u) l r is named =
      let (vs, (ws, (ins, outs))) = values_there u.pred (evaluate_all u.ins s) (evaluate_all u.outs s) l r is in
      ⊎_elim (all_have u.ins vs ins) (all_have u.outs ws outs) (one_of_two (named_among u.ins x) (named_among u.outs x) named)

  -- each name of an assertion that was added has a value
  pub named_added : (items : List PureItem) (l t : LogicState) → added s items l ≡ Some t → named_by_items items x ≡ true → HasValue s x
  named_added [] l t is named = absurd (cc)
  named_added (item ∷ items) l t is named =
      let (r, (first, later)) = and_then_added (with_item s item l) (added s items) t is in
      ⊎_elim (item_has item l r first) (named_added items r t later) (one_of_two (named_by_item item x) (named_by_items items x) named)
