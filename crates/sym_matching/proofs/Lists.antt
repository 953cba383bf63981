-- Lists with one more element at their end: values, outs, and what matching does on them.
use Rattle.std.proofs.Common.{◌≡◌, ℕ, suc, ◌+◌, ◌<◌, List, [], ◌∷◌, ◌++◌, map, take, get_or, length, Bool, true, false, ◌&&◌, if◌then◌else◌, Option, Some, None, Result, Ok, Err, refl, sym, ap, ◌∙◌, arith}
use Rattle.std.specs.Option.{option_map, option_and_then}
use Rattle.std.specs.Result.{result_ok}
use Rattle.std.proofs.lemmas.List.{map-append, take_more}
use Rattle.gil_values.specs.Equality.{same_value, same_elements}
use Rattle.gil_values.specs.Operators.{Fault, Outcome}
use Rattle.gil_values.specs.Pure.{PureValue}
use Rattle.gil_syntax.specs.declared.assertions.Param.{Param}
use Rattle.gil_syntax.specs.Evaluation.{Store, bind, value_of, evaluate}
use Rattle.gil_syntax.specs.Pure.{PureExpr}
use Rattle.assert_logic.specs.Matching.{match_value, match_values, is_known, known_and, unknown_and, known_outs, agrees_with, all_agree, bound_to, values_of}
use Rattle.assert_logic.specs.Sorts.{fits_sorts}
use Rattle.pure_terms.specs.Meaning.{both, value, values}
use Rattle.pure_terms.specs.Pure.{PureTerm, from_list}
use Rattle.sym_evaluation.specs.Meaning.{AreSame}
use Rattle.sym_model.specs.Lists.{Each}
use Rattle.sym_model.proofs.Asking.{both_parts}
use Rattle.sym_model.proofs.ListLaws.{same_some, each_left, each_right}
use Rattle.sym_matching.specs.Meaning.{AreOuts}
use Rattle.sym_matching.specs.Parts.{one_out}
use Rattle.sym_matching.specs.Pure.{PureOuts}

pub taken_next : {X A : Type 0} (g : X → A) (xs : List X) (i : ℕ) (x : X) → i < length xs → x ≡ get_or xs i x → map g (take (i + 1) xs) ≡ map g (take i xs) ++ g x ∷ []
taken_next g xs i x below is =
    ap (map g) (take_more xs i x below) ∙ ap (λ y. map g (take i xs ++ y ∷ [])) (sym is) ∙ map-append g (take i xs) (x ∷ [])

pub each_last : {A : Type 0} (P : A → Type 0) (xs : List A) (x : A) → Each P (xs ++ x ∷ []) → Each P xs × P x
each_last P xs x all = (each_left P xs (x ∷ []) all, (each_right P xs (x ∷ []) all).0)

-- ---- values

module _ (v : List PureValue) where
  pub values_last : (ts : List PureTerm) (t : PureTerm) (ws : List PureValue) → values v (from_list (ts ++ t ∷ [])) ≡ Some ws
      → (us : List PureValue) × ((w : PureValue) × ((values v (from_list ts) ≡ Some us) × (value v t ≡ Some w) × (ws ≡ us ++ w ∷ [])))
  values_last [] t ws is =
      let (w, (rest, (first, nil, whole))) = both_parts (value v t) (Some []) ws is in
      ([], (w, (refl, first, whole ∙ ap (λ zs. w ∷ zs) (sym (same_some nil)))))
  values_last (x ∷ ts) t ws is =
      let (a, (rest, (first, later, whole))) = both_parts (value v x) (values v (from_list (ts ++ t ∷ []))) ws is in
      let (us, (w, (before, last, joined))) = values_last ts t rest later in
      (a ∷ us, (w, ((λ i. both (first i) (before i)), last, whole ∙ ap (λ zs. a ∷ zs) joined)))

  pub values_count : (ts : List PureTerm) (ws : List PureValue) → values v (from_list ts) ≡ Some ws → length ws ≡ length ts
  values_count [] ws is = ap length (sym (same_some is))
  values_count (t ∷ ts) ws is =
      let (w, (us, (first, rest, whole))) = both_parts (value v t) (values v (from_list ts)) ws is in
      ap length whole ∙ ap suc (values_count ts us rest)

  pub outs_last : (ks : PureOuts) (k : Option PureTerm) (os : List (Option PureValue)) → AreOuts v (ks ++ k ∷ []) os
      → (ps : List (Option PureValue)) × ((o : Option PureValue) × (AreOuts v ks ps × AreSame v k o × (os ≡ ps ++ o ∷ [])))
  outs_last [] k [] are = absurd are
  outs_last [] k (o ∷ []) are = ([], (o, (tt, are.0, refl)))
  outs_last [] k (o ∷ p ∷ os) are = absurd are.1
  outs_last (j ∷ ks) k [] are = absurd are
  outs_last (j ∷ ks) k (o ∷ os) are =
      let (ps, (q, (before, last, joined))) = outs_last ks k os are.1 in
      (o ∷ ps, (q, ((are.0, before), last, ap (λ zs. o ∷ zs) joined)))

  pub outs_more : (ks : PureOuts) (k : Option PureTerm) (os : List (Option PureValue)) (o : Option PureValue) → AreOuts v ks os → AreSame v k o → AreOuts v (ks ++ k ∷ []) (os ++ o ∷ [])
  outs_more [] k [] o are is = (is, tt)
  outs_more [] k (p ∷ os) o are is = absurd are
  outs_more (j ∷ ks) k [] o are is = absurd are
  outs_more (j ∷ ks) k (p ∷ os) o are is = (are.0, outs_more ks k os o are.1 is)

  pub outs_count : (ks : PureOuts) (os : List (Option PureValue)) → AreOuts v ks os → length os ≡ length ks
  outs_count [] [] are = refl
  outs_count [] (o ∷ os) are = absurd are
  outs_count (k ∷ ks) [] are = absurd are
  outs_count (k ∷ ks) (o ∷ os) are = ap suc (outs_count ks os are.1)

-- ---- tests

and_true : (b : Bool) → (b && true) ≡ (true && b)
and_true true = refl
and_true false = refl

and_assoc : (a b c : Bool) → (a && (b && c)) ≡ ((a && b) && c)
and_assoc true b c = refl
and_assoc false b c = refl

unlike_next : {m n : ℕ} → ¬ (suc m ≡ suc n) → ¬ (m ≡ n)
unlike_next differ is = differ (ap suc is)

and_none : (b : Bool) → (b && false) ≡ false
and_none true = refl
and_none false = refl

pub elements_more : (us ws : List PureValue) (a b : PureValue) → length us ≡ length ws → same_elements (us ++ a ∷ []) (ws ++ b ∷ []) ≡ (same_elements us ws && same_value a b)
elements_more [] [] a b same = and_true (same_value a b)
elements_more [] (w ∷ ws) a b same = absurd (omega (arith, same))
elements_more (u ∷ us) [] a b same = absurd (omega (arith, same))
elements_more (u ∷ us) (w ∷ ws) a b same =
    ap (λ c. same_value u w && c) (elements_more us ws a b (omega (arith, same))) ∙ and_assoc (same_value u w) (same_elements us ws) (same_value a b)

pub elements_differ : (us ws : List PureValue) → ¬ (length us ≡ length ws) → same_elements us ws ≡ false
elements_differ [] [] differ = absurd (differ refl)
elements_differ [] (w ∷ ws) differ = refl
elements_differ (u ∷ us) [] differ = refl
elements_differ (u ∷ us) (w ∷ ws) differ = ap (λ c. same_value u w && c) (elements_differ us ws (unlike_next differ)) ∙ and_none (same_value u w)

pub agreement_more : (os : List (Option PureValue)) (ws : List PureValue) (o : Option PureValue) (w : PureValue) → length os ≡ length ws
    → all_agree (os ++ o ∷ []) (ws ++ w ∷ []) ≡ (all_agree os ws && agrees_with o w)
agreement_more [] [] o w same = and_true (agrees_with o w)
agreement_more [] (u ∷ ws) o w same = absurd (omega (arith, same))
agreement_more (p ∷ os) [] o w same = absurd (omega (arith, same))
agreement_more (p ∷ os) (u ∷ ws) o w same =
    ap (λ c. agrees_with p u && c) (agreement_more os ws o w (omega (arith, same))) ∙ and_assoc (agrees_with p u) (all_agree os ws) (agrees_with o w)

pub agreement_differs : (os : List (Option PureValue)) (ws : List PureValue) → ¬ (length os ≡ length ws) → all_agree os ws ≡ false
agreement_differs [] [] differ = absurd (differ refl)
agreement_differs [] (w ∷ ws) differ = refl
agreement_differs (o ∷ os) [] differ = refl
agreement_differs (o ∷ os) (w ∷ ws) differ = ap (λ c. agrees_with o w && c) (agreement_differs os ws (unlike_next differ)) ∙ and_none (agrees_with o w)

-- ---- stores

module _ (scope : List Param) where
  alone : (o : Option Store) → option_and_then (match_values scope [] []) o ≡ o
  alone None = refl
  alone (Some s) = refl

  pub values_more : (es : List PureExpr) (us : List PureValue) (e : PureExpr) (w : PureValue) (s : Store) → length es ≡ length us
      → match_values scope (es ++ e ∷ []) (us ++ w ∷ []) s ≡ option_and_then (match_value scope e w) (match_values scope es us s)
  values_more [] [] e w s same = alone (match_value scope e w s)
  values_more [] (u ∷ us) e w s same = absurd (omega (arith, same))
  values_more (d ∷ es) [] e w s same = absurd (omega (arith, same))
  values_more (d ∷ es) (u ∷ us) e w s same = by (λ t. values_more es us e w t (omega (arith, same))) (match_value scope d u s)
    where
      by : ((t : Store) → match_values scope (es ++ e ∷ []) (us ++ w ∷ []) t ≡ option_and_then (match_value scope e w) (match_values scope es us t)) → (o : Option Store) → option_and_then (match_values scope (es ++ e ∷ []) (us ++ w ∷ [])) o ≡ option_and_then (match_value scope e w) (option_and_then (match_values scope es us) o)
      by later None = refl
      by later (Some t) = later t

  pub values_differ : (es : List PureExpr) (us : List PureValue) (s : Store) → ¬ (length es ≡ length us) → match_values scope es us s ≡ None
  values_differ [] [] s differ = absurd (differ refl)
  values_differ [] (u ∷ us) s differ = refl
  values_differ (e ∷ es) [] s differ = refl
  values_differ (e ∷ es) (u ∷ us) s differ = by (λ t. values_differ es us t (unlike_next differ)) (match_value scope e u s)
    where
      by : ((t : Store) → match_values scope es us t ≡ None) → (o : Option Store) → option_and_then (match_values scope es us) o ≡ None
      by later None = refl
      by later (Some t) = later t

  pub bound_more : (qs : List Param) (os : List (Option PureValue)) (q : Param) (o : Option PureValue) (s : Store) → length qs ≡ length os
      → bound_to scope (qs ++ q ∷ []) (os ++ o ∷ []) s ≡ option_and_then (bound_to scope (q ∷ []) (o ∷ [])) (bound_to scope qs os s)
  bound_more [] [] q o s same = refl
  bound_more [] (p ∷ os) q o s same = absurd (omega (arith, same))
  bound_more (r ∷ qs) [] q o s same = absurd (omega (arith, same))
  bound_more (r ∷ qs) (None ∷ os) q o s same = bound_more qs os q o s (omega (arith, same))
  bound_more (r ∷ qs) (Some u ∷ os) q o s same = by (bound_more qs os q o (bind r.name u s) (omega (arith, same))) (fits_sorts scope r.name u && agrees_with (value_of s r.name) u)
    where
      by : bound_to scope (qs ++ q ∷ []) (os ++ o ∷ []) (bind r.name u s) ≡ option_and_then (bound_to scope (q ∷ []) (o ∷ [])) (bound_to scope qs os (bind r.name u s)) → (b : Bool) → (if b then bound_to scope (qs ++ q ∷ []) (os ++ o ∷ []) (bind r.name u s) else None)
          ≡ option_and_then (bound_to scope (q ∷ []) (o ∷ [])) (if b then bound_to scope qs os (bind r.name u s) else None)
      by later true = later
      by later false = refl

  pub bound_differs : (qs : List Param) (os : List (Option PureValue)) (s : Store) → ¬ (length qs ≡ length os) → bound_to scope qs os s ≡ None
  bound_differs [] [] s differ = absurd (differ refl)
  bound_differs [] (o ∷ os) s differ = refl
  bound_differs (q ∷ qs) [] s differ = refl
  bound_differs (q ∷ qs) (None ∷ os) s differ = bound_differs qs os s (unlike_next differ)
  bound_differs (q ∷ qs) (Some u ∷ os) s differ = by (bound_differs qs os (bind q.name u s) (unlike_next differ)) (fits_sorts scope q.name u && agrees_with (value_of s q.name) u)
    where
      by : bound_to scope qs os (bind q.name u s) ≡ None → (b : Bool) → (if b then bound_to scope qs os (bind q.name u s) else None) ≡ None
      by later true = later
      by later false = refl

-- ---- outs and values of names

module _ (s : Store) where
  abbrev next_known : PureExpr → List (Option PureValue) → Option (List (Option PureValue))
  next_known e os = option_map (λ o. os ++ o ∷ []) (one_out s e)

  abbrev Known : Type 0
  Known = Result (List (Option PureValue)) Fault

  after_known : (o : Outcome) (r q : Known) (e : PureExpr) → result_ok q ≡ option_and_then (next_known e) (result_ok r)
      → result_ok (known_and o q) ≡ option_and_then (next_known e) (result_ok (known_and o r))
  after_known (Ok w) (Ok os) q e is = by (one_out s e) q is
    where
      by : (p : Option (Option PureValue)) (q : Known) → result_ok q ≡ option_map (λ o. os ++ o ∷ []) p → result_ok (known_and (Ok w) q) ≡ option_map (λ o. (Some w ∷ os) ++ o ∷ []) p
      by None (Ok ps) is = cc
      by None (Err f) is = refl
      by (Some o) (Ok ps) is = ap (λ zs. Some (Some w ∷ zs)) (same_some is)
      by (Some o) (Err f) is = cc
  after_known (Ok w) (Err f) (Ok ps) e is = cc
  after_known (Ok w) (Err f) (Err g) e is = refl
  after_known (Err f) r q e is = refl

  after_unknown : (r q : Known) (e : PureExpr) → result_ok q ≡ option_and_then (next_known e) (result_ok r)
      → result_ok (unknown_and q) ≡ option_and_then (next_known e) (result_ok (unknown_and r))
  after_unknown (Ok os) q e is = by (one_out s e) q is
    where
      by : (p : Option (Option PureValue)) (q : Known) → result_ok q ≡ option_map (λ o. os ++ o ∷ []) p → result_ok (unknown_and q) ≡ option_map (λ o. (None ∷ os) ++ o ∷ []) p
      by None (Ok ps) is = cc
      by None (Err f) is = refl
      by (Some o) (Ok ps) is = ap (λ zs. Some (None ∷ zs)) (same_some is)
      by (Some o) (Err f) is = cc
  after_unknown (Err f) (Ok ps) e is = cc
  after_unknown (Err f) (Err g) e is = refl

  one_known : (b : Bool) (o : Outcome) → result_ok (if b then known_and o (Ok []) else unknown_and (Ok [])) ≡ option_map (λ p. p ∷ []) (if b then option_map Some (result_ok o) else Some None)
  one_known true (Ok w) = refl
  one_known true (Err f) = refl
  one_known false o = refl

  pub known_more : (es : List PureExpr) (e : PureExpr) → result_ok (known_outs s (es ++ e ∷ [])) ≡ option_and_then (next_known e) (result_ok (known_outs s es))
  known_more [] e = one_known (is_known s e) (evaluate e s)
  known_more (d ∷ es) e = by (known_more es e) (is_known s d)
    where
      by : result_ok (known_outs s (es ++ e ∷ [])) ≡ option_and_then (next_known e) (result_ok (known_outs s es)) → (b : Bool) → result_ok (if b then known_and (evaluate d s) (known_outs s (es ++ e ∷ [])) else unknown_and (known_outs s (es ++ e ∷ [])))
          ≡ option_and_then (next_known e) (result_ok (if b then known_and (evaluate d s) (known_outs s es) else unknown_and (known_outs s es)))
      by later true = after_known (evaluate d s) (known_outs s es) (known_outs s (es ++ e ∷ [])) e later
      by later false = after_unknown (known_outs s es) (known_outs s (es ++ e ∷ [])) e later

  pub names_more : (xs : List (List ℕ)) (x : List ℕ) → values_of s (xs ++ x ∷ []) ≡ option_and_then (λ ws. option_map (λ w. ws ++ w ∷ []) (value_of s x)) (values_of s xs)
  names_more [] x = by (value_of s x)
    where
      by : (o : Option PureValue) → option_and_then (λ w. option_map (λ ws. w ∷ ws) (Some [])) o ≡ option_map (λ w. w ∷ []) o
      by None = refl
      by (Some w) = refl
  names_more (y ∷ xs) x = by (names_more xs x) (value_of s y)
    where
      inner : (u : PureValue) (o : Option PureValue) (p : Option (List PureValue)) → option_map (λ ws. u ∷ ws) (option_and_then (λ ws. option_map (λ w. ws ++ w ∷ []) o) p)
          ≡ option_and_then (λ ws. option_map (λ w. ws ++ w ∷ []) o) (option_map (λ ws. u ∷ ws) p)
      inner u o None = refl
      inner u None (Some ws) = refl
      inner u (Some w) (Some ws) = refl

      by : values_of s (xs ++ x ∷ []) ≡ option_and_then (λ ws. option_map (λ w. ws ++ w ∷ []) (value_of s x)) (values_of s xs) → (o : Option PureValue)
          → option_and_then (λ u. option_map (λ ws. u ∷ ws) (values_of s (xs ++ x ∷ []))) o
          ≡ option_and_then (λ ws. option_map (λ w. ws ++ w ∷ []) (value_of s x)) (option_and_then (λ u. option_map (λ ws. u ∷ ws) (values_of s xs)) o)
      by later None = refl
      by later (Some u) = ap (option_map (λ ws. u ∷ ws)) later ∙ inner u (value_of s x) (values_of s xs)
