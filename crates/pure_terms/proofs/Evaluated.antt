-- Steps of evaluation.
use Rattle.std.proofs.Common.{◌≡◌, ℕ, zero, suc, ◌+◌, ◌≤◌, List, [], ◌∷◌, ◌++◌, take, length, true, false, ◌||◌, Option, Some, None, Result, Ok, Err, slice_get, refl, sym, ap, ◌∙◌, add-one}
use Rattle.std.specs.Option.{option_map, option_and_then}
use Rattle.std.specs.Result.{result_ok}
use Rattle.std.proofs.lemmas.Bool.{or_left, or_right, or_from, or_parts}
use Rattle.std.proofs.lemmas.List.{take_all}
use Rattle.std.proofs.lemmas.List.Folds.{list_any-append}
use Rattle.gil_values.specs.declared.tree.Value.{Value}
use Rattle.gil_values.specs.declared.tree.Values.{Values}
use Rattle.gil_values.specs.Operators.{unary, binary}
use Rattle.gil_values.specs.View.{value_view, values_view}
use Rattle.gil_values.specs.Pure.{PureValue, list, from_list as list_elements}
use Rattle.pure_terms.specs.declared.truth.HoldsFault.{HoldsFault}
use Rattle.pure_terms.specs.declared.truth.HoldsFault.TheVariants.{Number, Memory}
use Rattle.pure_terms.specs.Meaning.{both, value, values}
use Rattle.pure_terms.specs.Pure.{PureTerm, list_of, unary_of, binary_of, PureTerms, from_list, subterms, subterms_of_all}
use Rattle.pure_terms.specs.Truth.{have_wide_parts, Evaluates, EvaluatesAll, IsDefined, with_last}
use Rattle.pure_terms.specs.Wide.{is_wide, has_wide_part}
use Rattle.gil_values.specs.declared.operators.UnOp.{UnOp}
use Rattle.gil_values.specs.declared.operators.BinOp.{BinOp}

list_never_wide : (o : Option (List PureValue)) → is_wide (option_map (λ ws. list (list_elements ws)) o) ≡ false
list_never_wide (Some ws) = refl
list_never_wide None = refl

pub wide-list : (v : List PureValue) (ts : PureTerms) → has_wide_part v (list_of ts) ≡ have_wide_parts v ts
wide-list v ts = ap (λ b. b || have_wide_parts v ts) (list_never_wide (values v ts))

pub wide-binary : (v : List PureValue) (op : BinOp) (s t : PureTerm) → has_wide_part v (binary_of op s t) ≡ (is_wide (value v (binary_of op s t)) || (has_wide_part v s || has_wide_part v t))
wide-binary v op s t = ap (λ b. is_wide (value v (binary_of op s t)) || b) (list_any-append (λ u. is_wide (value v u)) (subterms s) (subterms t))

-- ---- operators

abbrev pub ListAnswer : Result (Option Values) HoldsFault → Result (Option Value) HoldsFault → Type 0
ListAnswer (Ok a) (Ok b) = option_map value_view b ≡ option_map (λ ws. list (list_elements ws)) (option_map values_view a)
ListAnswer (Err Number) (Err Number) = Unit {0}
ListAnswer (Err Memory) (Err Memory) = Unit {0}
ListAnswer r o = ⊥

pub list_step : (v : List PureValue) (ts : PureTerms) (r : Result (Option Values) HoldsFault) (o : Result (Option Value) HoldsFault) → ListAnswer r o → EvaluatesAll v ts r → Evaluates v (list_of ts) o
list_step v ts (Ok a) (Ok b) is h = (is ∙ ap (option_map (λ ws. list (list_elements ws))) h.0, wide-list v ts ∙ h.1)
list_step v ts (Err Number) (Err Number) is h = wide-list v ts ∙ h
list_step v ts (Err Memory) (Err Memory) is h = tt
list_step v ts r o is h = absurd is

unary_value : (op : UnOp) (a : PureValue) (o : Option PureValue) → Some a ≡ o → result_ok (unary op a) ≡ option_and_then (λ u. result_ok (unary op u)) o
unary_value op a o e = ap (option_and_then (λ u. result_ok (unary op u))) e

binary_value : (op : BinOp) (a b : PureValue) (o p : Option PureValue) → Some a ≡ o → Some b ≡ p → result_ok (binary op a b) ≡ option_and_then (λ u. option_and_then (λ w. result_ok (binary op u w)) p) o
binary_value op a b o p e f = λ i. option_and_then (λ u. option_and_then (λ w. result_ok (binary op u w)) (f i)) (e i)

pub one_step : (v : List PureValue) (op : UnOp) (t : PureTerm) (a : Value) (r : Result (Option Value) HoldsFault) → Evaluates v t (Ok (Some a)) → IsDefined (unary op (value_view a)) r → Evaluates v (unary_of op t) r
one_step v op t a (Ok o) h is = let same = unary_value op (value_view a) (value v t) h.0 in (is.0 ∙ same, or_from _ _ (sym (ap is_wide same) ∙ is.1) h.1)
one_step v op t a (Err Number) h is = let same = unary_value op (value_view a) (value v t) h.0 in or_left _ _ (sym (ap is_wide same) ∙ is)
one_step v op t a (Err Memory) h is = tt

pub one_undefined : (v : List PureValue) (op : UnOp) (t : PureTerm) → Evaluates v t (Ok None) → Evaluates v (unary_of op t) (Ok None)
one_undefined v op t h =
    let same : None ≡ value v (unary_of op t) = ap (option_and_then (λ u. result_ok (unary op u))) h.0 in
    (same, or_from _ _ (sym (ap is_wide same)) h.1)

pub one_fault : (v : List PureValue) (op : UnOp) (t : PureTerm) (fault : HoldsFault) → Evaluates v t (Err fault) → Evaluates v (unary_of op t) (Err fault)
one_fault v op t Number h = or_right _ _ h
one_fault v op t Memory h = tt

pub two_step : (v : List PureValue) (op : BinOp) (s t : PureTerm) (a b : Value) (r : Result (Option Value) HoldsFault) → Evaluates v s (Ok (Some a)) → Evaluates v t (Ok (Some b)) → IsDefined (binary op (value_view a) (value_view b)) r → Evaluates v (binary_of op s t) r
two_step v op s t a b (Ok o) h k is =
    let same = binary_value op (value_view a) (value_view b) (value v s) (value v t) h.0 k.0 in
    (is.0 ∙ same, wide-binary v op s t ∙ or_from _ _ (sym (ap is_wide same) ∙ is.1) (or_from _ _ h.1 k.1))
two_step v op s t a b (Err Number) h k is =
    let same = binary_value op (value_view a) (value_view b) (value v s) (value v t) h.0 k.0 in
    wide-binary v op s t ∙ or_left _ _ (sym (ap is_wide same) ∙ is)
two_step v op s t a b (Err Memory) h k is = tt

pub left_fault : (v : List PureValue) (op : BinOp) (s t : PureTerm) (fault : HoldsFault) → Evaluates v s (Err fault) → Evaluates v (binary_of op s t) (Err fault)
left_fault v op s t Number h = wide-binary v op s t ∙ or_right _ _ (or_left _ _ h)
left_fault v op s t Memory h = tt

pub right_fault : (v : List PureValue) (op : BinOp) (s t : PureTerm) (fault : HoldsFault) → Evaluates v t (Err fault) → Evaluates v (binary_of op s t) (Err fault)
right_fault v op s t Number h = wide-binary v op s t ∙ or_right _ _ (or_right _ _ h)
right_fault v op s t Memory h = tt

pub left_undefined : (v : List PureValue) (op : BinOp) (s t : PureTerm) (o : Option Value) → Evaluates v s (Ok None) → Evaluates v t (Ok o) → Evaluates v (binary_of op s t) (Ok None)
left_undefined v op s t o h k =
    let same : None ≡ value v (binary_of op s t) = ap (option_and_then (λ u. option_and_then (λ w. result_ok (binary op u w)) (value v t))) h.0 in
    (same, wide-binary v op s t ∙ or_from _ _ (sym (ap is_wide same)) (or_from _ _ h.1 k.1))

pub right_undefined : (v : List PureValue) (op : BinOp) (s t : PureTerm) (a : Value) → Evaluates v s (Ok (Some a)) → Evaluates v t (Ok None) → Evaluates v (binary_of op s t) (Ok None)
right_undefined v op s t a h k =
    let same : None ≡ value v (binary_of op s t) = λ i. option_and_then (λ u. option_and_then (λ w. result_ok (binary op u w)) (k.0 i)) (h.0 i) in
    (same, wide-binary v op s t ∙ or_from _ _ (sym (ap is_wide same)) (or_from _ _ h.1 k.1))

-- ---- one more element

values_of_two : (a : Option PureValue) (b : Option (List PureValue)) (c : Option PureValue) → both a (with_last b c) ≡ with_last (both a b) c
values_of_two (Some w) (Some ws) (Some u) = refl
values_of_two (Some w) (Some ws) None = refl
values_of_two (Some w) None c = refl
values_of_two None b c = refl

only_one : (a : Option PureValue) → both a (Some []) ≡ with_last (Some []) a
only_one (Some w) = refl
only_one None = refl

values-push : (v : List PureValue) (us : List PureTerm) (u : PureTerm) → values v (from_list (us ++ u ∷ [])) ≡ with_last (values v (from_list us)) (value v u)
values-push v [] u = only_one (value v u)
values-push v (t ∷ us) u = ap (both (value v t)) (values-push v us u) ∙ values_of_two (value v t) (values v (from_list us)) (value v u)

wide-push : (v : List PureValue) (us : List PureTerm) (u : PureTerm) → have_wide_parts v (from_list us) ≡ false → has_wide_part v u ≡ false → have_wide_parts v (from_list (us ++ u ∷ [])) ≡ false
wide-push v [] u before now = list_any-append (λ s. is_wide (value v s)) (subterms u) [] ∙ or_from _ _ now refl
wide-push v (t ∷ us) u before now =
    let parts = or_parts (has_wide_part v t) (have_wide_parts v (from_list us)) (sym (list_any-append (λ s. is_wide (value v s)) (subterms t) (subterms_of_all (from_list us))) ∙ before) in
    list_any-append (λ s. is_wide (value v s)) (subterms t) (subterms_of_all (from_list (us ++ u ∷ [])))
    ∙ or_from _ _ parts.0 (wide-push v us u parts.1 now)

pub take-push : {X : Type 0} (us : List X) (i : ℕ) (u : X) → slice_get us i ≡ Some u → take (suc i) us ≡ take i us ++ u ∷ []
take-push [] i u is = cc
take-push (x ∷ us) zero u is = let here : x ≡ u = cc in ap (λ y. y ∷ []) here
take-push (x ∷ us) (suc i) u is = ap (λ rest. x ∷ rest) (take-push us i u is)

-- evaluation has come so far
pub record EvaluatedTo (v : List PureValue) (us : List PureTerm) (i : ℕ) (o : Option (List PureValue)) : Type 0 where
  pub so_far : o ≡ values v (from_list (take i us))
  pub narrow : have_wide_parts v (from_list (take i us)) ≡ false

pub evaluated_more : (v : List PureValue) (us : List PureTerm) (i : ℕ) (u : PureTerm) (o : Option (List PureValue)) (a : Option PureValue)
    → EvaluatedTo v us i o → slice_get us i ≡ Some u → a ≡ value v u → has_wide_part v u ≡ false → EvaluatedTo v us (i + 1) (with_last o a)
evaluated_more v us i u o a before is same now =
    let next : take (i + 1) us ≡ take i us ++ u ∷ [] = ap (λ n. take n us) (add-one i) ∙ take-push us i u is in
    record {
      so_far = (λ j. with_last (before.so_far j) (same j)) ∙ sym (values-push v (take i us) u) ∙ ap (λ ts. values v (from_list ts)) (sym next);
      narrow = ap (λ ts. have_wide_parts v (from_list ts)) next ∙ wide-push v (take i us) u before.narrow now;
    }

-- the same up to the next place of a list
pub wide-next : (v : List PureValue) (us : List PureTerm) (i : ℕ) (u : PureTerm) → have_wide_parts v (from_list (take i us)) ≡ false → slice_get us i ≡ Some u → has_wide_part v u ≡ false
    → have_wide_parts v (from_list (take (i + 1) us)) ≡ false
wide-next v us i u before is now =
    ap (λ ts. have_wide_parts v (from_list ts)) (ap (λ n. take n us) (add-one i) ∙ take-push us i u is) ∙ wide-push v (take i us) u before now

wide-element : (v : List PureValue) (us : List PureTerm) (i : ℕ) (u : PureTerm) → slice_get us i ≡ Some u → has_wide_part v u ≡ true → have_wide_parts v (from_list us) ≡ true
wide-element v [] i u is wide = cc
wide-element v (t ∷ us) zero u is wide =
    let here : t ≡ u = cc in
    list_any-append (λ s. is_wide (value v s)) (subterms t) (subterms_of_all (from_list us)) ∙ or_left _ _ (ap (has_wide_part v) here ∙ wide)
wide-element v (t ∷ us) (suc i) u is wide =
    list_any-append (λ s. is_wide (value v s)) (subterms t) (subterms_of_all (from_list us)) ∙ or_right _ _ (wide-element v us i u is wide)

pub element_fault : (v : List PureValue) (us : List PureTerm) (i : ℕ) (u : PureTerm) (fault : HoldsFault) → slice_get us i ≡ Some u → Evaluates v u (Err fault) → EvaluatesAll v (from_list us) (Err fault)
element_fault v us i u Number is wide = wide-element v us i u is wide
element_fault v us i u Memory is wide = tt

pub evaluated_whole : (v : List PureValue) (us : List PureTerm) (i : ℕ) (o : Option (List PureValue)) → length us ≤ i → EvaluatedTo v us i o → (o ≡ values v (from_list us)) × (have_wide_parts v (from_list us) ≡ false)
evaluated_whole v us i o past done =
    let all : take i us ≡ us = take_all i us past in
    (done.so_far ∙ ap (λ ts. values v (from_list ts)) all, ap (λ ts. have_wide_parts v (from_list ts)) (sym all) ∙ done.narrow)
