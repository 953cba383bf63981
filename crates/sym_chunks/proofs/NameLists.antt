-- What the conditions on the elements of a list term of names say of its value.
use Rattle.std.proofs.Common.{◌≡◌, ◌⊎◌, ⊎_elim, inl, inr, ℕ, List, Bool, true, false, not, ◌||◌, ◌&&◌, Option, Some, None, IsTrue, refl, sym, ap, ◌∙◌, true≢false}
use Rattle.std.specs.Option.{option_map}
use Rattle.std.specs.List.{list_any}
use Rattle.gil_values.specs.declared.kinds.Kind.{Kind}
use Rattle.gil_values.specs.Equality.{same_value}
use Rattle.gil_values.specs.EqualityLaws.{same_value-Decides}
use Rattle.gil_values.specs.Pure.{PureValue, integer, boolean, text, symbol, kind, procedure, list, kind_of, from_list as list_values, to_list-from_list as values_back}
use Rattle.mem_model.specs.Names.{is_text, are_distinct_texts, lists_name}
use Rattle.pure_terms.specs.declared.variables.Sort.{Sort}
use Rattle.pure_terms.specs.Meaning.{value, values, all_true, IsProper, IsOver, AreVariablesOf}
use Rattle.pure_terms.specs.Pure.{PureTerm, list_of, PureTerms, no_terms, term_and, to_list, variables, variables_of_all}
use Rattle.pure_terms.proofs.KindLaws.{over_left, over_right}
use Rattle.sym_chunks.specs.NameTerms.{listed, unlisted, distinct_from}
use Rattle.sym_model.specs.Alternatives.{Alternatives, Hold, always, both, any, all_from, same, other, of_kind}
use Rattle.sym_model.specs.ConditionLaws.{HaveBoth}
use Rattle.sym_model.proofs.Combined.{both_from, both_parts, all_from_from, all_from_parts, always_true}
use Rattle.sym_model.proofs.Telling.{same_tells, other_tells, of_kind_tells}
use Rattle.sym_model.specs.Lists.{Each, OneOf}
use Rattle.sym_model.proofs.ListLaws.{same_some, not_none, one_flat, one_flattened}
use Rattle.sym_model.proofs.Asking.{both_parts as value_parts}

pub elements_over : (vars : List Sort) (ts : PureTerms) → AreVariablesOf vars (variables_of_all ts) → Each (IsOver vars) (to_list ts)
elements_over vars no_terms over = tt
elements_over vars (term_and t ts) over = (over_left vars (variables t) (variables_of_all ts) over, elements_over vars ts (over_right vars (variables t) (variables_of_all ts) over))

-- the value of a list term is the list of the values of its elements
list_from : (o : Option (List PureValue)) (w : PureValue) → option_map (λ ws. list (list_values ws)) o ≡ Some w → (ws : List PureValue) × ((o ≡ Some ws) × (w ≡ list (list_values ws)))
list_from (Some ws) w is = (ws, (refl, sym (same_some is)))
list_from None w is = not_none is

pub list_value : (v : List PureValue) (ts : PureTerms) (w : PureValue) → value v (list_of ts) ≡ Some w → (ws : List PureValue) × ((values v ts ≡ Some ws) × (w ≡ list (list_values ws)))
list_value v ts w is = list_from (values v ts) w is

pub names_in : (ws : List PureValue) (n : List ℕ) → lists_name (list (list_values ws)) n ≡ list_any (same_value (text n)) ws
names_in ws n = ap (list_any (same_value (text n))) (values_back ws)

or_true : (b c : Bool) → b ≡ true → (b || c) ≡ true
or_true true c is = refl
or_true false c is = absurd (true≢false (sym is))

or_later : (b c : Bool) → c ≡ true → (b || c) ≡ true
or_later true c is = refl
or_later false c is = is

or_either : (b c : Bool) → (b || c) ≡ true → (b ≡ true) ⊎ (c ≡ true)
or_either true c is = inl refl
or_either false c is = inr is

or_neither : (b c : Bool) → b ≡ false → c ≡ false → (b || c) ≡ false
or_neither true c first second = first
or_neither false c first second = second

or_false : (b c : Bool) → (b || c) ≡ false → (b ≡ false) × (c ≡ false)
or_false true c is = absurd (true≢false is)
or_false false c is = (refl, is)

not_equal : (a b : PureValue) → ¬ (a ≡ b) → same_value a b ≡ false
not_equal a b differ = by_value (same_value a b) refl
  where
    by_value : (c : Bool) → same_value a b ≡ c → same_value a b ≡ false
    by_value true is = absurd (differ ((same_value-Decides a b).0 is))
    by_value false is = is

differs : (a b : PureValue) → same_value a b ≡ false → ¬ (a ≡ b)
differs a b is e = true≢false (sym ((same_value-Decides a b).1 e) ∙ is)

module _ (vars : List Sort) (v : List PureValue) (proper : IsProper vars v) where
  -- ---- a term and the elements of a list

  module _ (s : PureTerm) (a : PureValue) (over : IsOver vars s) (is : value v s ≡ Some a) where
    with_element : (t : PureTerm) (b : PureValue) → IsOver vars t → value v t ≡ Some b → HaveBoth vars v s t a b
    with_element t b over_t is_t = record { proper = proper; first_over = over; second_over = over_t; first = is; second = is_t }

    pub one_equal : (ts : PureTerms) (ws : List PureValue) → values v ts ≡ Some ws → Each (IsOver vars) (to_list ts) → OneOf (λ t. Hold v (same s t)) (to_list ts) → list_any (same_value a) ws ≡ true
    one_equal no_terms ws have over_all one = absurd one
    one_equal (term_and t ts) ws have over_all one =
        let (w, (us, (first, rest, whole))) = value_parts (value v t) (values v ts) ws have in
        ap (list_any (same_value a)) whole
        ∙ ⊎_elim
        (λ here. or_true (same_value a w) (list_any (same_value a) us) ((same_value-Decides a w).1 ((same_tells vars v s t a w (with_element t w over_all.0 first)).0 here)))
        (λ later. or_later (same_value a w) (list_any (same_value a) us) (one_equal ts us rest over_all.1 later))
        one

    pub equal_one : (ts : PureTerms) (ws : List PureValue) → values v ts ≡ Some ws → Each (IsOver vars) (to_list ts) → list_any (same_value a) ws ≡ true → OneOf (λ t. Hold v (same s t)) (to_list ts)
    equal_one no_terms ws have over_all any_same = absurd (true≢false (sym any_same ∙ ap (list_any (same_value a)) (sym (same_some have))))
    equal_one (term_and t ts) ws have over_all any_same =
        let (w, (us, (first, rest, whole))) = value_parts (value v t) (values v ts) ws have in
        ⊎_elim
        (λ here. inl ((same_tells vars v s t a w (with_element t w over_all.0 first)).1 ((same_value-Decides a w).0 here)))
        (λ later. inr (equal_one ts us rest over_all.1 later))
        (or_either (same_value a w) (list_any (same_value a) us) (sym (ap (list_any (same_value a)) whole) ∙ any_same))

    pub each_other : (ts : PureTerms) (ws : List PureValue) → values v ts ≡ Some ws → Each (IsOver vars) (to_list ts) → Each (λ t. Hold v (other s t)) (to_list ts) → list_any (same_value a) ws ≡ false
    each_other no_terms ws have over_all each = ap (list_any (same_value a)) (sym (same_some have))
    each_other (term_and t ts) ws have over_all each =
        let (w, (us, (first, rest, whole))) = value_parts (value v t) (values v ts) ws have in
        ap (list_any (same_value a)) whole
        ∙ or_neither (same_value a w) (list_any (same_value a) us)
        (not_equal a w ((other_tells vars v s t a w (with_element t w over_all.0 first)).0 each.0))
        (each_other ts us rest over_all.1 each.1)

    pub other_each : (ts : PureTerms) (ws : List PureValue) → values v ts ≡ Some ws → Each (IsOver vars) (to_list ts) → list_any (same_value a) ws ≡ false → Each (λ t. Hold v (other s t)) (to_list ts)
    other_each no_terms ws have over_all none = tt
    other_each (term_and t ts) ws have over_all none =
        let (w, (us, (first, rest, whole))) = value_parts (value v t) (values v ts) ws have in
        let parts = or_false (same_value a w) (list_any (same_value a) us) (sym (ap (list_any (same_value a)) whole) ∙ none) in
        ((other_tells vars v s t a w (with_element t w over_all.0 first)).1 (differs a w parts.0), other_each ts us rest over_all.1 parts.1)

    pub some_equal : (ts : PureTerms) → Hold v (any (same s) (to_list ts)) → OneOf (λ t. Hold v (same s t)) (to_list ts)
    some_equal ts holds = one_flattened (λ conds. IsTrue (all_true v conds)) (same s) (to_list ts) holds

    pub equal_some : (ts : PureTerms) → OneOf (λ t. Hold v (same s t)) (to_list ts) → Hold v (any (same s) (to_list ts))
    equal_some ts one = one_flat (λ conds. IsTrue (all_true v conds)) (same s) (to_list ts) one

  -- ---- a name and a list term of names

  module _ (p : PureTerm) (n : List ℕ) (over : IsOver vars p) (is : value v p ≡ Some (text n)) (ts : PureTerms) (w : PureValue) (over_list : IsOver vars (list_of ts)) (is_list : value v (list_of ts) ≡ Some w) where
    pub listed_holds : Hold v (listed p (list_of ts)) → lists_name w n ≡ true
    listed_holds holds =
        let (ws, (have, whole)) = list_value v ts w is_list in
        ap (λ u. lists_name u n) whole ∙ names_in ws n ∙ one_equal p (text n) over is ts ws have (elements_over vars ts over_list) (some_equal p (text n) over is ts holds)

    pub holds_listed : lists_name w n ≡ true → Hold v (listed p (list_of ts))
    holds_listed named =
        let (ws, (have, whole)) = list_value v ts w is_list in
        equal_some p (text n) over is ts (equal_one p (text n) over is ts ws have (elements_over vars ts over_list) (sym (ap (λ u. lists_name u n) whole ∙ names_in ws n) ∙ named))

    pub unlisted_holds : Hold v (unlisted p (list_of ts)) → lists_name w n ≡ false
    unlisted_holds holds =
        let (ws, (have, whole)) = list_value v ts w is_list in
        ap (λ u. lists_name u n) whole ∙ names_in ws n ∙ each_other p (text n) over is ts ws have (elements_over vars ts over_list) (all_from_parts v (other p) (to_list ts) always holds).1

    pub holds_unlisted : lists_name w n ≡ false → Hold v (unlisted p (list_of ts))
    holds_unlisted unnamed =
        let (ws, (have, whole)) = list_value v ts w is_list in
        all_from_from v (other p) (to_list ts) always (always_true v) (other_each p (text n) over is ts ws have (elements_over vars ts over_list) (sym (ap (λ u. lists_name u n) whole ∙ names_in ws n) ∙ unnamed))

  -- ---- distinct texts

  pub text_of_kind : (w : PureValue) → kind_of w ≡ Kind.Str → is_text w ≡ true
  text_of_kind (text p) e = refl
  text_of_kind w e = cc

  pub kind_of_text : (w : PureValue) → is_text w ≡ true → kind_of w ≡ Kind.Str
  kind_of_text (text p) e = refl
  kind_of_text w e = absurd (true≢false (sym e))

  pub no_text : (w : PureValue) → ¬ (kind_of w ≡ Kind.Str) → is_text w ≡ false
  no_text (text p) differ = absurd (differ refl)
  no_text (integer i) differ = refl
  no_text (boolean b) differ = refl
  no_text (symbol m) differ = refl
  no_text (kind k) differ = refl
  no_text (procedure f) differ = refl
  no_text (list us) differ = refl

  pub not_distinct : (b c d : Bool) → (b ≡ false) ⊎ ((c ≡ true) ⊎ (d ≡ false)) → (b && not c && d) ≡ false
  not_distinct true true d why = refl
  not_distinct true false d why = ⊎_elim (λ e. absurd (true≢false e)) (λ rest. ⊎_elim (λ e. absurd (true≢false (sym e))) (λ e. e) rest) why
  not_distinct false c d why = refl

  pub why_not : (b c d : Bool) → (b && not c && d) ≡ false → (b ≡ false) ⊎ ((c ≡ true) ⊎ (d ≡ false))
  why_not true true d e = inr (inl refl)
  why_not true false d e = inr (inr e)
  why_not false c d e = inl refl

  all_distinct : (b c d : Bool) → b ≡ true → c ≡ false → d ≡ true → (b && not c && d) ≡ true
  all_distinct true true d first second third = absurd (true≢false second)
  all_distinct true false d first second third = third
  all_distinct false c d first second third = absurd (true≢false (sym first))

  pub distinct_parts : (b c d : Bool) → (b && not c && d) ≡ true → (b ≡ true) × (c ≡ false) × (d ≡ true)
  distinct_parts true true d e = absurd (true≢false (sym e))
  distinct_parts true false d e = (refl, refl, e)
  distinct_parts false c d e = absurd (true≢false (sym e))

  pub distinct_holds : (ts : PureTerms) (x : Alternatives) (ws : List PureValue) → values v ts ≡ Some ws → Each (IsOver vars) (to_list ts) → Hold v (distinct_from x (to_list ts)) → Hold v x × (are_distinct_texts ws ≡ true)
  distinct_holds no_terms x ws have over holds = (holds, ap are_distinct_texts (sym (same_some have)))
  distinct_holds (term_and t ts) x ws have over holds =
      let (w, (us, (first, rest, whole))) = value_parts (value v t) (values v ts) ws have in
      let later = distinct_holds ts (all_from (both x (of_kind t Kind.Str)) (other t) (to_list ts)) us rest over.1 holds in
      let others = all_from_parts v (other t) (to_list ts) (both x (of_kind t Kind.Str)) later.0 in
      let kinds = both_parts v x (of_kind t Kind.Str) others.0 in (
        kinds.0,
        ap are_distinct_texts whole
            ∙ all_distinct (is_text w) (list_any (same_value w) us) (are_distinct_texts us)
            (text_of_kind w ((of_kind_tells vars v t Kind.Str w proper over.0 first).0 kinds.1))
            (each_other t w over.0 first ts us rest over.1 others.1)
            later.1,
      )

  pub holds_distinct : (ts : PureTerms) (x : Alternatives) (ws : List PureValue) → values v ts ≡ Some ws → Each (IsOver vars) (to_list ts) → Hold v x → are_distinct_texts ws ≡ true → Hold v (distinct_from x (to_list ts))
  holds_distinct no_terms x ws have over holds distinct = holds
  holds_distinct (term_and t ts) x ws have over holds distinct =
      let (w, (us, (first, rest, whole))) = value_parts (value v t) (values v ts) ws have in
      let parts = distinct_parts (is_text w) (list_any (same_value w) us) (are_distinct_texts us) (sym (ap are_distinct_texts whole) ∙ distinct) in
      holds_distinct ts (all_from (both x (of_kind t Kind.Str)) (other t) (to_list ts)) us rest over.1
      (all_from_from v (other t) (to_list ts) (both x (of_kind t Kind.Str))
      (both_from v x (of_kind t Kind.Str) holds ((of_kind_tells vars v t Kind.Str w proper over.0 first).1 (kind_of_text w parts.0)))
      (other_each t w over.0 first ts us rest over.1 parts.1))
      parts.2
