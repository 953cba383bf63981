-- Where no rule has anything to add, all disequalities of simple terms are true in a model.
use Rattle.std.proofs.Common.{◌≡◌, ⊎_elim, ◌⊎◌, inl, inr, ℕ, zero, suc, ◌+◌, ◌<◌, ◌≤◌, List, [], length, Bool, true, false, not, ◌&&◌, ◌||◌, Some, slice_get, refl, sym, ap, ◌∙◌, subst, arith}
use Rattle.std.proofs.lemmas.Bool.{false≢true, true≢false, false_from_ne_true, and_parts, and_from, or_cases, both_ways, not-true}
use Rattle.std.proofs.lemmas.Option.{same_Some}
use Rattle.gil_values.specs.declared.kinds.Kind.{Kind}
use Rattle.gil_values.specs.declared.operators.BinOp.{BinOp}
use Rattle.gil_values.specs.Equality.{same_kind, same_value}
use Rattle.gil_values.specs.EqualityLaws.{same_value-refl, same_value-same}
use Rattle.gil_values.specs.Pure.{PureValue, kind_of}
use Rattle.pure_terms.specs.declared.literals.Literal.{Literal}
use Rattle.pure_terms.specs.declared.variables.Sort.{Sort}
use Rattle.pure_terms.specs.Fragment.{is_simple, is_flat, names_sort, is_integer_side, has_form, is_kind_test, any_is_a_side}
use Rattle.pure_terms.specs.Kinds.{same_sort, known_kind, is_of_kind, kind_of_sort}
use Rattle.pure_terms.specs.Meaning.{value, values, truth}
use Rattle.pure_terms.specs.Pure.{PureTerm, literal, variable, list_of, unary_of, binary_of, PureTerms, no_terms, term_and, to_list, PureAtom, positive, negative, size, sizes}
use Rattle.pure_terms.proofs.KindLaws.{known_kinds_are_right, same_kinds}
use Rattle.pure_terms.proofs.SimpleLaws.{simple_terms_have_values, simple_terms_have_kinds}
use Rattle.solver_proof.specs.Chains.{equals, equality_of}
use Rattle.solver_proof.specs.Closing.{HaveOneLength}
use Rattle.solver_proof.proofs.Truths.{false_equality, equality_false}
use Rattle.equality_core.specs.Classes.{PureClasses, given_list}
use Rattle.equality_core.specs.Valued.{MeetsApart}
use Rattle.solver_rules.specs.declared.rules.Rule.{Rule}
use Rattle.solver_rules.specs.Rules.{AreDone, AreKinds}
use Rattle.solver_rules.specs.Sides.{IsTableSide}
use Rattle.solver_rules.specs.Steps.{IsPlainAtom, IsNode}
use Rattle.solver_rules.proofs.Disequalities.{AreGathered, integers_differ, flat_differ, turned_differ}
use Rattle.solver_rules.proofs.KindsFit.{same_kind-refl}
use Rattle.solver_rules.proofs.Plain.{sides_of, element_side}
use Rattle.solver_rules.proofs.Sounding.{both_some, list_value, element_value, lists_same}

same_or_not : (m n : ℕ) → (m ≡ n) ⊎ ((m ≡ n) → ⊥)
same_or_not zero zero = inl refl
same_or_not zero (suc n) = inr (λ e. omega (arith, e))
same_or_not (suc m) zero = inr (λ e. omega (arith, e))
same_or_not (suc m) (suc n) = ⊎_elim (λ e. inl (ap suc e)) (λ h. inr (λ e. h (omega (arith, e)))) (same_or_not m n)

values_length : (v : List PureValue) (ts : PureTerms) (ws : List PureValue) → values v ts ≡ Some ws → length ws ≡ length (to_list ts)
values_length v no_terms ws is = ap length (sym (same_Some [] ws is))
values_length v (term_and t ts) ws is =
    let (w, (us, (first, (rest, same)))) = both_some (value v t) (values v ts) ws is in
    ap length (sym same) ∙ ap suc (values_length v ts us rest)

element_size : (ts : PureTerms) (i : ℕ) (t : PureTerm) → slice_get (to_list ts) i ≡ Some t → size t ≤ sizes ts
element_size no_terms i t is = cc
element_size (term_and u ts) zero t is = let here : size u ≡ size t = ap size (same_Some u t is) in omega (arith, here)
element_size (term_and u ts) (suc i) t is = let rest : size t ≤ sizes ts = element_size ts i t is in omega (arith, rest)

-- a simple term is a whole number, a list, or a variable or literal
by_form : (t : PureTerm) (k : Kind) → is_simple t ≡ true → known_kind t ≡ Some k → (k ≡ Kind.Int) ⊎ ((k ≡ Kind.List) ⊎ (is_flat t ≡ true))
by_form (literal l) k simple is = inr (inr refl)
by_form (variable x) k simple is = inr (inr refl)
by_form (list_of ts) k simple is = inr (inl (sym (same_Some Kind.List k is)))
by_form (unary_of op t) k simple is = absurd (false≢true simple)
by_form (binary_of BinOp.Add s t) k simple is = inl (sym (same_Some Kind.Int k is))
by_form (binary_of BinOp.Subtract s t) k simple is = inl (sym (same_Some Kind.Int k is))
by_form (binary_of op s t) k simple is = absurd (false≢true simple)

whole_side : (t : PureTerm) (k : Kind) → is_simple t ≡ true → known_kind t ≡ Some k → k ≡ Kind.Int → is_integer_side t ≡ true
whole_side t k simple is whole = and_from (is_simple t) (is_of_kind (known_kind t) Kind.Int) simple (ap (λ o. is_of_kind o Kind.Int) (is ∙ ap Some whole))

list_form : (t : PureTerm) → is_simple t ≡ true → names_sort Sort.List t ≡ false → known_kind t ≡ Some Kind.List → (ts : PureTerms) × (t ≡ list_of ts)
list_form (literal (Literal.Int n)) simple none is = let e : Kind.Int ≡ Kind.List = same_Some Kind.Int Kind.List is in absurd (false≢true (ap (λ k. same_kind k Kind.List) e))
list_form (literal (Literal.Bool b)) simple none is = let e : Kind.Bool ≡ Kind.List = same_Some Kind.Bool Kind.List is in absurd (false≢true (ap (λ k. same_kind k Kind.List) e))
list_form (literal (Literal.Str cs)) simple none is = let e : Kind.Str ≡ Kind.List = same_Some Kind.Str Kind.List is in absurd (false≢true (ap (λ k. same_kind k Kind.List) e))
list_form (literal (Literal.Kind k)) simple none is = let e : Kind.Kind ≡ Kind.List = same_Some Kind.Kind Kind.List is in absurd (false≢true (ap (λ k. same_kind k Kind.List) e))
list_form (literal (Literal.Proc p)) simple none is = let e : Kind.Proc ≡ Kind.List = same_Some Kind.Proc Kind.List is in absurd (false≢true (ap (λ k. same_kind k Kind.List) e))
list_form (variable x) simple none is = by_sort x.sort is none where
  other : (k : Kind) → same_kind k Kind.List ≡ false → Some k ≡ Some Kind.List → (ts : PureTerms) × (variable x ≡ list_of ts)
  other k apart e = absurd (both_ways (same_kind k Kind.List) apart (ap (λ l. same_kind l Kind.List) (same_Some k Kind.List e)))

  by_sort : (s : Sort) → kind_of_sort s ≡ Some Kind.List → same_sort s Sort.List ≡ false → (ts : PureTerms) × (variable x ≡ list_of ts)
  by_sort Sort.Bool e h = other Kind.Bool refl e
  by_sort Sort.Int e h = other Kind.Int refl e
  by_sort Sort.Str e h = other Kind.Str refl e
  by_sort Sort.Sym e h = other Kind.Sym refl e
  by_sort Sort.Fresh e h = other Kind.Sym refl e
  by_sort Sort.List e h = absurd (true≢false h)
  by_sort Sort.Any e h = cc
list_form (list_of ts) simple none is = (ts, refl)
list_form (unary_of op t) simple none is = absurd (false≢true simple)
list_form (binary_of BinOp.Add s t) simple none is = let e : Kind.Int ≡ Kind.List = same_Some Kind.Int Kind.List is in absurd (false≢true (ap (λ k. same_kind k Kind.List) e))
list_form (binary_of BinOp.Subtract s t) simple none is = let e : Kind.Int ≡ Kind.List = same_Some Kind.Int Kind.List is in absurd (false≢true (ap (λ k. same_kind k Kind.List) e))
list_form (binary_of op s t) simple none is = absurd (false≢true simple)

-- the sides of a disequality of simple terms, which are flat or name no variable of sort any
record ArePlainSides (vars : List Sort) (s t : PureTerm) : Type 0 where
  left : IsTableSide vars s
  right : IsTableSide vars t
  flat_or_known : ((is_flat s && is_flat t) || (not (names_sort Sort.Any s) && not (names_sort Sort.Any t))) ≡ true

plain_sides_of : (vars : List Sort) (s t : PureTerm) → IsPlainAtom vars (negative (equals s t)) → is_simple s ≡ true → ArePlainSides vars s t
plain_sides_of vars s t h simple = record { left = both.0; right = both.1; flat_or_known = any } where
  said : (s : PureTerm) → is_simple s ≡ true → equality_of (positive (equals s t)) ≡ Some (record { left = s; right = t })
  said (literal l) simple = refl
  said (variable x) simple = refl
  said (list_of ts) simple = refl
  said (unary_of op u) simple = absurd (false≢true simple)
  said (binary_of op u w) simple = refl

  both : IsTableSide vars s × IsTableSide vars t
  both = sides_of vars (positive (equals s t)) (record { left = s; right = t }) (record { over = h.over; form = h.form; literals = h.literals }) (said s simple)

  no_test : (s : PureTerm) → is_simple s ≡ true → is_kind_test (equals s t) ≡ false
  no_test (literal l) simple = refl
  no_test (variable x) simple = refl
  no_test (list_of ts) simple = refl
  no_test (unary_of op u) simple = absurd (false≢true simple)
  no_test (binary_of op u w) simple = refl

  any : ((is_flat s && is_flat t) || (not (names_sort Sort.Any s) && not (names_sort Sort.Any t))) ≡ true
  any =
      let rest = and_parts (has_form (equals s t)) (not (names_sort Sort.List (equals s t)) && (is_kind_test (equals s t) || any_is_a_side (equals s t))) h.form in
      let last = and_parts (not (names_sort Sort.List (equals s t))) (is_kind_test (equals s t) || any_is_a_side (equals s t)) rest.1 in
      ⊎_elim (λ test. absurd (both_ways (is_kind_test (equals s t)) (no_test s simple) test)) (λ e. e) (or_cases (is_kind_test (equals s t)) (any_is_a_side (equals s t)) last.1)

module _ (vars : List Sort) (list : List PureAtom) (c : PureClasses) (node : IsNode vars list c) (numbers : List PureValue) (kinds : List Kind) (are : AreKinds vars c kinds)
    (one : AreDone Rule.OneKind c numbers) (two : AreDone Rule.TwoKinds c numbers) (numbered : AreDone Rule.Numbers c numbers) (orders : AreDone Rule.Orders c numbers) (lists : AreDone Rule.Lists c numbers)
    (apart : List PureAtom) (gathered : AreGathered c apart) (v : List PureValue) (meets : MeetsApart vars (given_list c) numbers kinds apart v) where
  at_place : (i : ℕ) (a : PureAtom) → slice_get (given_list c) i ≡ Some a → IsPlainAtom vars a
  at_place i a at = node.plain i a (ap (λ l. slice_get l i) (sym node.given) ∙ at)

  of_other_kinds : (s t : PureTerm) (k l : Kind) → IsTableSide vars s → IsTableSide vars t → known_kind s ≡ Some k → known_kind t ≡ Some l → same_kind k l ≡ false → truth v (negative (equals s t)) ≡ true
  of_other_kinds s t k l side_s side_t known_s known_t apart_kinds =
      let (w, is_w) = simple_terms_have_values vars v s meets.proper side_s.over side_s.simple in
      let (x, is_x) = simple_terms_have_values vars v t meets.proper side_t.over side_t.simple in
      let kind_w : kind_of w ≡ k = known_kinds_are_right vars v s w k meets.proper side_s.over is_w known_s in
      let kind_x : kind_of x ≡ l = known_kinds_are_right vars v t x l meets.proper side_t.over is_x known_t in
      equality_false v s t w x is_w is_x (false_from_ne_true (same_value w x) (λ same.
      both_ways (same_kind k l) apart_kinds (ap (same_kind k) (sym kind_x ∙ ap kind_of (sym (same_value-same w x same)) ∙ kind_w) ∙ same_kind-refl k)))

  of_lists : (ts us : PureTerms) → IsTableSide vars (list_of ts) → IsTableSide vars (list_of us)
      → (HaveOneLength ts us → (j : ℕ) × ((s : PureTerm) × ((t : PureTerm) × ((slice_get (to_list ts) j ≡ Some s) × ((slice_get (to_list us) j ≡ Some t) × (truth v (negative (equals s t)) ≡ true))))))
      → truth v (negative (equals (list_of ts) (list_of us))) ≡ true
  of_lists ts us side_t side_u differ =
      let (w, is_w) = simple_terms_have_values vars v (list_of ts) meets.proper side_t.over side_t.simple in
      let (x, is_x) = simple_terms_have_values vars v (list_of us) meets.proper side_u.over side_u.simple in
      let (ws, (are_ws, from_ws)) = list_value v ts w is_w in
      let (xs, (are_xs, from_xs)) = list_value v us x is_x in
      equality_false v (list_of ts) (list_of us) w x is_w is_x (false_from_ne_true (same_value w x) (λ same.
      other ws xs are_ws are_xs (lists_same ws xs (sym from_ws ∙ same_value-same w x same ∙ from_xs)))) where
        other : (ws xs : List PureValue) → values v ts ≡ Some ws → values v us ≡ Some xs → ws ≡ xs → ⊥
        other ws xs are_ws are_xs same =
            let one_length : length (to_list ts) ≡ length (to_list us) = sym (values_length v ts ws are_ws) ∙ ap length same ∙ values_length v us xs are_xs in
            let (j, (s, (t, (at_s, (at_t, h))))) = differ one_length in
            let (u, (has_s, there_s)) = element_value v ts ws j s are_ws at_s in
            let (y, (has_t, there_t)) = element_value v us xs j t are_xs at_t in
            let o = false_equality v s t h in
            let first : o.first ≡ u = same_Some o.first u (sym o.left ∙ has_s) in
            let second : o.second ≡ y = same_Some o.second y (sym o.right ∙ has_t) in
            let equal : u ≡ y = same_Some u y (sym there_s ∙ ap (λ (zs : List PureValue). slice_get zs j) same ∙ there_t) in
            both_ways (same_value o.first o.second) o.differ (ap (same_value o.first) (second ∙ sym equal ∙ sym first) ∙ same_value-refl o.first)

  abbrev DifferBelow : ℕ → Type 0
  DifferBelow n = (i : ℕ) (s t : PureTerm) → slice_get (given_list c) i ≡ Some (negative (equals s t)) → is_simple s ≡ true → size s + size t < n → truth v (negative (equals s t)) ≡ true

  differ_next : (n : ℕ) → DifferBelow n → DifferBelow (suc n)
  differ_next n again i s t at simple below = by_flat (is_flat s && is_flat t) refl where
    sides : ArePlainSides vars s t
    sides = plain_sides_of vars s t (at_place i (negative (equals s t)) at) simple

    elements : (ts us : PureTerms) → s ≡ list_of ts → t ≡ list_of us → IsTableSide vars (list_of ts) → IsTableSide vars (list_of us) → HaveOneLength ts us
        → (j : ℕ) × ((x : PureTerm) × ((y : PureTerm) × ((slice_get (to_list ts) j ≡ Some x) × ((slice_get (to_list us) j ≡ Some y) × (truth v (negative (equals x y)) ≡ true)))))
    elements ts us is_s is_t side_s side_t one_length =
        let e = lists i (negative (equals s t)) at ts us (λ k. negative (equals (is_s k) (is_t k))) one_length in
        let left_size : size e.left ≤ sizes ts = element_size ts e.place e.left e.at_left in
        let right_size : size e.right ≤ sizes us = element_size us e.place e.right e.at_right in
        let first : size s ≡ suc (sizes ts) = ap size is_s in
        let second : size t ≡ suc (sizes us) = ap size is_t in
        let less : size e.left + size e.right < n = omega (arith, left_size, right_size, first, second, below) in
        let less_turned : size e.right + size e.left < n = omega (arith, left_size, right_size, first, second, below) in (
          e.place,
          (
            e.left,
            (
              e.right,
              (
                e.at_left,
                (
                  e.at_right,
                  ⊎_elim (λ there. again e.differ.place e.left e.right there (element_side vars ts e.place e.left side_s e.at_left).simple less)
                      (λ there. turned_differ v e.right e.left (again e.differ.place e.right e.left there (element_side vars us e.place e.right side_t e.at_right).simple less_turned)) e.differ.at,
                ),
              ),
            ),
          ),
        )

    of_one_kind : (k l : Kind) → known_kind s ≡ Some k → known_kind t ≡ Some l → k ≡ l → (is_flat s && is_flat t) ≡ false → truth v (negative (equals s t)) ≡ true
    of_one_kind k l known_s known_t same other = by_left (by_form s k simple known_s) (by_form t l sides.right.simple known_t) where
      numbers_differ : k ≡ Kind.Int → truth v (negative (equals s t)) ≡ true
      numbers_differ whole =
          integers_differ vars list c node numbers kinds are one two numbered orders apart gathered v meets i (negative (equals s t)) s t at refl (whole_side s k simple known_s whole) (whole_side t l sides.right.simple known_t (sym same ∙ whole))

      lists_differ : k ≡ Kind.List → truth v (negative (equals s t)) ≡ true
      lists_differ is_list =
          let (ts, is_s) = list_form s simple sides.left.no_list (known_s ∙ ap Some is_list) in
          let (us, is_t) = list_form t sides.right.simple sides.right.no_list (known_t ∙ ap Some (sym same ∙ is_list)) in
          let side_s = subst (IsTableSide vars) is_s sides.left in
          let side_t = subst (IsTableSide vars) is_t sides.right in
          (λ j. truth v (negative (equals (is_s j) (is_t j)))) ∙ of_lists ts us side_s side_t (elements ts us is_s is_t side_s side_t)

      by_left : (k ≡ Kind.Int) ⊎ ((k ≡ Kind.List) ⊎ (is_flat s ≡ true)) → (l ≡ Kind.Int) ⊎ ((l ≡ Kind.List) ⊎ (is_flat t ≡ true)) → truth v (negative (equals s t)) ≡ true
      by_left (inl whole) right = numbers_differ whole
      by_left (inr (inl is_list)) right = lists_differ is_list
      by_left (inr (inr flat)) (inl whole) = numbers_differ (same ∙ whole)
      by_left (inr (inr flat)) (inr (inl is_list)) = lists_differ (same ∙ is_list)
      by_left (inr (inr flat)) (inr (inr also)) = absurd (both_ways (is_flat s && is_flat t) other (and_from (is_flat s) (is_flat t) flat also))

    by_kinds : (is_flat s && is_flat t) ≡ false → (not (names_sort Sort.Any s) && not (names_sort Sort.Any t)) ≡ true → truth v (negative (equals s t)) ≡ true
    by_kinds other known =
        let names = and_parts (not (names_sort Sort.Any s)) (not (names_sort Sort.Any t)) known in
        let (k, known_s) = simple_terms_have_kinds s simple (not-true (names_sort Sort.Any s) names.0) in
        let (l, known_t) = simple_terms_have_kinds t sides.right.simple (not-true (names_sort Sort.Any t) names.1) in
        by_same k l known_s known_t (same_kind k l) refl where
          by_same : (k l : Kind) → known_kind s ≡ Some k → known_kind t ≡ Some l → (b : Bool) → same_kind k l ≡ b → truth v (negative (equals s t)) ≡ true
          by_same k l known_s known_t true same = of_one_kind k l known_s known_t (same_kinds k l same) other
          by_same k l known_s known_t false apart_kinds = of_other_kinds s t k l sides.left sides.right known_s known_t apart_kinds

    by_flat : (b : Bool) → (is_flat s && is_flat t) ≡ b → truth v (negative (equals s t)) ≡ true
    by_flat true both =
        let flat = and_parts (is_flat s) (is_flat t) both in
        flat_differ vars list c node numbers kinds are one two numbered orders apart gathered v meets i (negative (equals s t)) s t at refl flat.0 flat.1
    by_flat false other =
        ⊎_elim (λ flat. absurd (both_ways (is_flat s && is_flat t) other flat)) (λ known. by_kinds other known)
        (or_cases (is_flat s && is_flat t) (not (names_sort Sort.Any s) && not (names_sort Sort.Any t)) sides.flat_or_known)

  differ_below : (n : ℕ) → DifferBelow n
  differ_below zero i s t at simple below = absurd (omega (arith, below))
  differ_below (suc n) i s t at simple below = differ_next n (differ_below n) i s t at simple below

  pub simple_differ : (i : ℕ) (s t : PureTerm) → slice_get (given_list c) i ≡ Some (negative (equals s t)) → is_simple s ≡ true → truth v (negative (equals s t)) ≡ true
  simple_differ i s t at simple = differ_below (suc (size s + size t)) i s t at simple (omega arith)
