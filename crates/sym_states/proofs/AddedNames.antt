-- Adding reads the values of the names that stand in the items.
use Rattle.std.proofs.Common.{◌≡◌, ◌⊎◌, ⊎_elim, ℕ, List, [], ◌∷◌, ◌++◌, true, Option, Some, None, is_some, IsSome, Ok, Err, refl, sym, ap, ◌∙◌, true≢false}
use Rattle.std.specs.List.{Contains, list_any, flat_map}
use Rattle.std.specs.Option.{option_and_then}
use Rattle.std.specs.Str.{bytes_eq}
use Rattle.std.proofs.lemmas.List.Elements.{Contains-push_cases, Contains-append_cases}
use Rattle.std.proofs.lemmas.List.Folds.{list_any-append}
use Rattle.std.proofs.lemmas.Grind.{flat_map-append}
use Rattle.gil_values.specs.Pure.{PureValue, boolean}
use Rattle.gil_values.specs.Operators.{Outcome, unary, binary}
use Rattle.gil_values.proofs.OperatorSymbols.{none_contained}
use Rattle.gil_syntax.specs.Evaluation.{Store, value_of, set_or_fault, after_value, Outcomes, both, as_list, evaluate, evaluate_elements, evaluate_all}
use Rattle.gil_syntax.specs.Pure.{PureExpr, literal, name, logical, list_of, unary_of, binary_of, PureExprs, no_exprs, expr_and, PureItem, pure, uses}
use Rattle.gil_syntax.specs.Subexpressions.{subexpressions, subexpressions_of_all, own_names, names_of}
use Rattle.gil_syntax.specs.Valid.{is_among}
use Rattle.gil_syntax.proofs.Names.{depends_on_its_names}
use Rattle.assert_logic.specs.Adding.{where_true, with_values, with_item, added}
use Rattle.assert_logic.specs.LogicStates.{LogicState}
use Rattle.assert_logic.specs.Names.{named_among, named_by_item, named_by_items}
use Rattle.sym_states.specs.NamingLaws.{AddingReadsNames}
use Rattle.sym_states.proofs.Names.{one_of_two, or_left, or_right, only_name, same_name}

-- ---- names of expressions

among_both : (xs ys : List PureExpr) (x : List ℕ) → is_among (flat_map own_names (xs ++ ys)) x ≡ true → (is_among (flat_map own_names xs) x ≡ true) ⊎ (is_among (flat_map own_names ys) x ≡ true)
among_both xs ys x among =
    one_of_two (is_among (flat_map own_names xs) x) (is_among (flat_map own_names ys) x)
    (sym (ap (list_any (bytes_eq x)) (flat_map-append own_names xs ys) ∙ list_any-append (bytes_eq x) (flat_map own_names xs) (flat_map own_names ys)) ∙ among)

set_there : (o : Option PureValue) (v : PureValue) → set_or_fault o ≡ Ok v → IsSome o
set_there (Some w) v is = refl
set_there None v is = absurd (cc)

first_ok : (o : Outcome) (f : PureValue → Outcome) (v : PureValue) → after_value o f ≡ Ok v → (w : PureValue) × ((o ≡ Ok w) × (f w ≡ Ok v))
first_ok (Ok w) f v is = (w, (refl, is))
first_ok (Err e) f v is = absurd (cc)

list_ok : (o : Outcomes) (v : PureValue) → as_list o ≡ Ok v → (vs : List PureValue) × (o ≡ Ok vs)
list_ok (Ok vs) v is = (vs, refl)
list_ok (Err e) v is = absurd (cc)

both_ok : (o : Outcome) (os : Outcomes) (vs : List PureValue) → both o os ≡ Ok vs → ((v : PureValue) × (o ≡ Ok v)) × ((ws : List PureValue) × (os ≡ Ok ws))
both_ok (Ok v) (Ok ws) vs is = ((v, refl), (ws, refl))
both_ok (Ok v) (Err e) vs is = absurd (cc)
both_ok (Err e) os vs is = absurd (cc)

module _ (t : Store) where
  one_known : (x y : List ℕ) (v : PureValue) → set_or_fault (value_of t x) ≡ Ok v → is_among (x ∷ []) y ≡ true → IsSome (value_of t y)
  one_known x y v is among = ap (λ z. is_some (value_of t z)) (only_name x y among) ∙ set_there (value_of t x) v is

  mutual
    names_known : (e : PureExpr) (v : PureValue) → evaluate e t ≡ Ok v → (x : List ℕ) → is_among (names_of e) x ≡ true → IsSome (value_of t x)
    names_known (literal l) v is x among = absurd (true≢false (sym among))
    names_known (name y) v is x among = one_known y x v is among
    names_known (logical y) v is x among = one_known y x v is among
    names_known (list_of es) v is x among = let (vs, all) = list_ok (evaluate_elements es t) v is in all_known es vs all x among
    names_known (unary_of op e) v is x among = let (w, (here, later)) = first_ok (evaluate e t) (unary op) v is in names_known e w here x among
    names_known (binary_of op d e) v is x among =
        let (w, (left, later)) = first_ok (evaluate d t) (λ u. after_value (evaluate e t) (binary op u)) v is in
        let (u, (right, last)) = first_ok (evaluate e t) (binary op w) v later in
        ⊎_elim (names_known d w left x) (names_known e u right x) (among_both (subexpressions d) (subexpressions e) x among)

    all_known : (es : PureExprs) (vs : List PureValue) → evaluate_elements es t ≡ Ok vs → (x : List ℕ) → is_among (flat_map own_names (subexpressions_of_all es)) x ≡ true → IsSome (value_of t x)
    all_known no_exprs vs is x among = absurd (true≢false (sym among))
    all_known (expr_and e es) vs is x among =
        let (first, rest) = both_ok (evaluate e t) (evaluate_elements es t) vs is in
        ⊎_elim (names_known e first.0 first.1 x) (all_known es rest.0 rest.1 x) (among_both (subexpressions e) (subexpressions_of_all es) x among)

  among_known : (es : List PureExpr) (vs : List PureValue) → evaluate_all es t ≡ Ok vs → (x : List ℕ) → named_among es x ≡ true → IsSome (value_of t x)
  among_known [] vs is x among = absurd (true≢false (sym among))
  among_known (e ∷ es) vs is x among =
      let (first, rest) = both_ok (evaluate e t) (evaluate_all es t) vs is in
      ⊎_elim (names_known e first.0 first.1 x) (among_known es rest.0 rest.1 x) (one_of_two (is_among (names_of e) x) (named_among es x) among)

  pub true_there : (o : Outcome) (l m : LogicState) → where_true o l ≡ Some m → (o ≡ Ok (boolean true)) × (l ≡ m)
  true_there (Ok (boolean true)) l m is = (refl, cc)
  true_there _ l m is = absurd (cc)

  pub values_there : (x : List ℕ) (ins outs : Outcomes) (l m : LogicState) → with_values x ins outs l ≡ Some m → ((ws : List PureValue) × (ins ≡ Ok ws)) × ((us : List PureValue) × (outs ≡ Ok us))
  values_there x (Ok ws) (Ok us) l m is = ((ws, refl), (us, refl))
  values_there x (Ok ws) (Err e) l m is = absurd (cc)
  values_there x (Err e) outs l m is = absurd (cc)

  item_known : (item : PureItem) (l m : LogicState) → with_item t item l ≡ Some m → (x : List ℕ) → named_by_item item x ≡ true → IsSome (value_of t x)
  item_known (pure e) l m is x named = names_known e (boolean true) (true_there (evaluate e t) l m is).0 x named
  item_known (uses u) l m is x named =
      let (ins, outs) = values_there u.pred (evaluate_all u.ins t) (evaluate_all u.outs t) l m is in
      ⊎_elim (among_known u.ins ins.0 ins.1 x) (among_known u.outs outs.0 outs.1 x) (one_of_two (named_among u.ins x) (named_among u.outs x) named)

  pub step_there : (item : PureItem) (items : List PureItem) (l m : LogicState) → added t (item ∷ items) l ≡ Some m → (k : LogicState) × ((with_item t item l ≡ Some k) × (added t items k ≡ Some m))
  step_there item items l m is = by (with_item t item l) refl is
    where
      by : (o : Option LogicState) → with_item t item l ≡ o → option_and_then (added t items) o ≡ Some m → (k : LogicState) × ((with_item t item l ≡ Some k) × (added t items k ≡ Some m))
      by (Some k) here there = (k, (here, there))
      by None here there = absurd (cc)

  pub added_known : (items : List PureItem) (l m : LogicState) → added t items l ≡ Some m → (x : List ℕ) → named_by_items items x ≡ true → IsSome (value_of t x)
  added_known [] l m is x named = absurd (true≢false (sym named))
  added_known (item ∷ items) l m is x named =
      let (k, (here, there)) = step_there item items l m is in
      ⊎_elim (item_known item l k here x) (added_known items k m there x) (one_of_two (named_by_item item x) (named_by_items items x) named)

-- ---- other names aren't read

contained : (xs : List (List ℕ)) (x : List ℕ) → Contains xs x → is_among xs x ≡ true
contained [] x has = absurd (none_contained x has)
contained (y ∷ ys) x has =
    ⊎_elim
    (λ here. ⊎_elim (λ none. absurd (none_contained x none)) (λ (is : y ≡ x). or_left (bytes_eq x y) (is_among ys x) (ap (bytes_eq x) is ∙ same_name x)) (Contains-push_cases [] y x here))
    (λ later. or_right (bytes_eq x y) (is_among ys x) (contained ys x later)) (Contains-append_cases (y ∷ []) ys x has)

module _ (s t : Store) where
  expr_same : (e : PureExpr) → ((x : List ℕ) → is_among (names_of e) x ≡ true → value_of s x ≡ value_of t x) → evaluate e s ≡ evaluate e t
  expr_same e agree = depends_on_its_names e s t (λ x has. agree x (contained (names_of e) x has))

  all_same : (es : List PureExpr) → ((x : List ℕ) → named_among es x ≡ true → value_of s x ≡ value_of t x) → evaluate_all es s ≡ evaluate_all es t
  all_same [] agree = refl
  all_same (e ∷ es) agree =
      let first = expr_same e (λ x among. agree x (or_left (is_among (names_of e) x) (named_among es x) among)) in
      let rest = all_same es (λ x among. agree x (or_right (is_among (names_of e) x) (named_among es x) among)) in
      λ i. both (first i) (rest i)

  item_same : (item : PureItem) (l : LogicState) → ((x : List ℕ) → named_by_item item x ≡ true → value_of s x ≡ value_of t x) → with_item s item l ≡ with_item t item l
  item_same (pure e) l agree = ap (λ o. where_true o l) (expr_same e agree)
  item_same (uses u) l agree =
      let ins = all_same u.ins (λ x among. agree x (or_left (named_among u.ins x) (named_among u.outs x) among)) in
      let outs = all_same u.outs (λ x among. agree x (or_right (named_among u.ins x) (named_among u.outs x) among)) in
      λ i. with_values u.pred (ins i) (outs i) l

  pub added_same : (items : List PureItem) (l : LogicState) → ((x : List ℕ) → named_by_items items x ≡ true → value_of s x ≡ value_of t x) → added s items l ≡ added t items l
  added_same [] l agree = refl
  added_same (item ∷ items) l agree =
      ap (option_and_then (added s items)) (item_same item l (λ x named. agree x (or_left (named_by_item item x) (named_by_items items x) named)))
      ∙ by (with_item t item l) (λ k. added_same items k (λ x named. agree x (or_right (named_by_item item x) (named_by_items items x) named)))
    where
      by : (o : Option LogicState) → ((k : LogicState) → added s items k ≡ added t items k) → option_and_then (added s items) o ≡ option_and_then (added t items) o
      by (Some k) each = each k
      by None each = refl

pub adding_reads_names : AddingReadsNames
adding_reads_names = record { known = added_known; same = added_same }
