-- The values of list terms of names as names are added and taken out, and the places of changed chunks.
use Rattle.std.proofs.Common.{◌≡◌, ℕ, zero, suc, length, List, [], ◌∷◌, ◌++◌, Bool, true, false, not, ◌&&◌, ◌||◌, cond, Some, slice_get, refl, sym, ap, subst, ◌∙◌, true≢false}
use Rattle.std.specs.List.{filter, list_any}
use Rattle.std.specs.Option.{option_map}
use Rattle.std.proofs.lemmas.Bool.{and_parts}
use Rattle.std.proofs.lemmas.List.Folds.{list_any-append}
use Rattle.gil_values.specs.Equality.{same_value}
use Rattle.gil_values.specs.EqualityLaws.{same_value-Decides, same_value-equivalence}
use Rattle.gil_values.specs.Pure.{PureValue, text, list, from_list as list_values, to_list-from_list as values_back}
use Rattle.mem_model.specs.Names.{is_text, are_distinct_texts, is_name_list}
use Rattle.object_heap.specs.Table.{appended, without_name}
use Rattle.pure_terms.specs.Meaning.{both, value, values}
use Rattle.pure_terms.specs.Pure.{PureTerm, list_of, PureTerms, to_list, from_list, from_list-to_list}
use Rattle.sym_model.specs.Chunks.{with_held}
use Rattle.sym_model.specs.Pure.{PureChunk}
use Rattle.sym_model.proofs.Asking.{both_parts as value_parts}
use Rattle.sym_model.proofs.ListLaws.{same_some}

-- ---- values one after another

module _ (v : List PureValue) where
  pub values_append : (xs ys : List PureTerm) (us ws : List PureValue) → values v (from_list xs) ≡ Some us → values v (from_list ys) ≡ Some ws → values v (from_list (xs ++ ys)) ≡ Some (us ++ ws)
  values_append [] ys us ws first second = subst (λ zs. values v (from_list ys) ≡ Some (zs ++ ws)) (same_some first) second
  values_append (x ∷ xs) ys us ws first second =
      let (w, (more, (is_x, rest, whole))) = value_parts (value v x) (values v (from_list xs)) us first in
      let joined = values_append xs ys more ws rest second in
      (λ i. both (is_x i) (joined i)) ∙ ap (λ zs. Some (zs ++ ws)) (sym whole)

  pub values_split : (xs ys : List PureTerm) (zs : List PureValue) → values v (from_list (xs ++ ys)) ≡ Some zs → (us : List PureValue) × ((ws : List PureValue) × ((values v (from_list xs) ≡ Some us) × (values v (from_list ys) ≡ Some ws) × (zs ≡ us ++ ws)))
  values_split [] ys zs is = ([], (zs, (refl, is, refl)))
  values_split (x ∷ xs) ys zs is =
      let (w, (more, (is_x, rest, whole))) = value_parts (value v x) (values v (from_list (xs ++ ys))) zs is in
      let (us, (ws, (first, second, parts))) = values_split xs ys more rest in
      (w ∷ us, (ws, ((λ i. both (is_x i) (first i)), second, whole ∙ ap (λ rest. w ∷ rest) parts)))

  pub one_value : (t : PureTerm) (w : PureValue) → value v t ≡ Some w → values v (from_list (t ∷ [])) ≡ Some (w ∷ [])
  one_value t w is = ap (λ o. both o (Some [])) is

  pub list_is : (xs : List PureTerm) (us : List PureValue) → values v (from_list xs) ≡ Some us → value v (list_of (from_list xs)) ≡ Some (list (list_values us))
  list_is xs us is = ap (option_map (λ ws. list (list_values ws))) is

  pub given_values : (ts : PureTerms) (us : List PureValue) → values v ts ≡ Some us → values v (from_list (to_list ts)) ≡ Some us
  given_values ts us is = ap (values v) (from_list-to_list ts) ∙ is

-- ---- a name at the end, and a name taken out

pub appended_is : (us : List PureValue) (n : List ℕ) → list (list_values (us ++ text n ∷ [])) ≡ appended (list (list_values us)) n
appended_is us n = ap (λ ws. list (list_values (ws ++ text n ∷ []))) (sym (values_back us))

abbrev other : List ℕ → PureValue → Bool
other n w = not (same_value (text n) w)

or_false : (b c : Bool) → (b || c) ≡ false → (b ≡ false) × (c ≡ false)
or_false true c is = absurd (true≢false is)
or_false false c is = (refl, is)

not_is : (b : Bool) → not b ≡ true → b ≡ false
not_is true is = absurd (true≢false (sym is))
not_is false is = refl

kept_by : (b : Bool) (w : PureValue) (us : List PureValue) → b ≡ false → cond (not b) (w ∷ us) us ≡ w ∷ us
kept_by true w us is = absurd (true≢false is)
kept_by false w us is = refl

left_by : (b : Bool) (w : PureValue) (us : List PureValue) → b ≡ true → cond (not b) (w ∷ us) us ≡ us
left_by true w us is = refl
left_by false w us is = absurd (true≢false (sym is))

all_kept : (n : List ℕ) (us : List PureValue) → list_any (same_value (text n)) us ≡ false → filter (other n) us ≡ us
all_kept n [] is = refl
all_kept n (u ∷ us) is =
    let parts = or_false (same_value (text n) u) (list_any (same_value (text n)) us) is in
    kept_by (same_value (text n) u) u (filter (other n) us) parts.0 ∙ ap (λ rest. u ∷ rest) (all_kept n us parts.1)

distinct_parts : (u : PureValue) (us : List PureValue) → are_distinct_texts (u ∷ us) ≡ true → (list_any (same_value u) us ≡ false) × (are_distinct_texts us ≡ true)
distinct_parts u us is =
    let outer = and_parts (is_text u && not (list_any (same_value u) us)) (are_distinct_texts us) is in
    (not_is (list_any (same_value u) us) (and_parts (is_text u) (not (list_any (same_value u) us)) outer.0).1, outer.1)

pub one_left_out : (n : List ℕ) (us ws : List PureValue) → are_distinct_texts (us ++ text n ∷ ws) ≡ true → filter (other n) (us ++ text n ∷ ws) ≡ us ++ ws
one_left_out n [] ws is =
    let parts = distinct_parts (text n) ws is in
    left_by (same_value (text n) (text n)) (text n) (filter (other n) ws) ((same_value-Decides (text n) (text n)).1 refl) ∙ all_kept n ws parts.0
one_left_out n (u ∷ us) ws is =
    let parts = distinct_parts u (us ++ text n ∷ ws) is in
    let later = or_false (list_any (same_value u) us) (list_any (same_value u) (text n ∷ ws)) (sym (list_any-append (same_value u) us (text n ∷ ws)) ∙ parts.0) in
    let differs = (or_false (same_value u (text n)) (list_any (same_value u) ws) later.1).0 in
    kept_by (same_value (text n) u) u (filter (other n) (us ++ text n ∷ ws)) (same_value-equivalence.symm (text n) u ∙ differs) ∙ ap (λ rest. u ∷ rest) (one_left_out n us ws parts.1)

pub without_is : (n : List ℕ) (us ws : List PureValue) → is_name_list (list (list_values (us ++ text n ∷ ws))) ≡ true → list (list_values (us ++ ws)) ≡ without_name (list (list_values (us ++ text n ∷ ws))) n
without_is n us ws is =
    let zs = us ++ text n ∷ ws in
    ap (λ ks. list (list_values ks)) (sym (one_left_out n us ws (sym (ap are_distinct_texts (values_back zs)) ∙ is)))
    ∙ ap (λ ks. list (list_values (filter (other n) ks))) (sym (values_back zs))

-- ---- chunks that hold another term

pub held_elsewhere : (cs : List PureChunk) (i k : ℕ) (t : PureTerm) → ¬ (k ≡ i) → slice_get (with_held cs i t) k ≡ slice_get cs k
held_elsewhere [] i k t differ = refl
held_elsewhere (c ∷ cs) zero zero t differ = absurd (differ refl)
held_elsewhere (c ∷ cs) zero (suc k) t differ = refl
held_elsewhere (c ∷ cs) (suc i) zero t differ = refl
held_elsewhere (c ∷ cs) (suc i) (suc k) t differ = held_elsewhere cs i k t (λ e. differ (ap suc e))

pub held_length : (cs : List PureChunk) (i : ℕ) (t : PureTerm) → length (with_held cs i t) ≡ length cs
held_length [] i t = refl
held_length (c ∷ cs) zero t = refl
held_length (c ∷ cs) (suc i) t = ap suc (held_length cs i t)
