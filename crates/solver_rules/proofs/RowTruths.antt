-- What rows that are met say of the values of sides.
use Rattle.std.proofs.Common.{◌≡◌, ℕ, ◌-◌, ◌^◌, ◌<◌, ℤ, pos, neg_ℤ, ◌+ℤ◌, ◌-ℤ◌, ◌*ℤ◌, ◌≤ℤ◌, List, ◌++◌, Bool, true, false, ◌&&◌, if◌then◌else◌, Option, Some, None, slice_get, refl, sym, ap, ◌∙◌, subst, arith}
use Rattle.std.specs.Prelude.{int_le, IsSomeAnd}
use Rattle.std.specs.Option.{option_and_then}
use Rattle.std.proofs.lemmas.Bool.{false≢true, and_parts, and_from}
use Rattle.std.proofs.lemmas.Int.{ints}
use Rattle.std.proofs.lemmas.Option.{same_Some, slice_get_within}
use Rattle.gil_values.specs.declared.kinds.Kind.{Kind}
use Rattle.gil_values.specs.declared.operators.BinOp.{BinOp}
use Rattle.gil_values.specs.Pure.{PureValue, integer, boolean, text, symbol, kind, procedure, list}
use Rattle.pure_terms.specs.declared.literals.Literal.{Literal}
use Rattle.pure_terms.specs.declared.variables.Sort.{Sort}
use Rattle.pure_terms.specs.declared.variables.Var.{Var}
use Rattle.pure_terms.specs.Fragment.{are_simple, is_shift, is_variable_of, is_integer_literal, is_integer_side, has_literals_between}
use Rattle.pure_terms.specs.Kinds.{same_sort, kind_of_sort, is_of_kind, has_sort}
use Rattle.pure_terms.specs.Meaning.{value, IsProper, IsOver}
use Rattle.pure_terms.specs.Numbers.{is_between, is_held}
use Rattle.pure_terms.specs.Pure.{PureTerm, literal, variable, list_of, unary_of, binary_of, variables}
use Rattle.pure_terms.proofs.DirectLaws.{binary-value}
use Rattle.pure_terms.proofs.KindLaws.{over_left, over_variable}
use Rattle.pure_terms.proofs.SimpleLaws.{from_is_variable_of, from_is_integer_literal, found}
use Rattle.solver_proof.specs.Sums.{Side, Row, side_of, variable_side, integer_variable, shifted_side, difference}
use Rattle.linear_core.specs.declared.rows.Relation.{Relation}
use Rattle.linear_core.specs.Rows.{whole_number, number_at, scaled_and_added, sum_at, Relates, Meets}
use Rattle.solver_rules.specs.Rows.{part_of, linear_row, relation_of}
use Rattle.solver_rules.specs.Sides.{IsNarrow}

-- the number of a side: that of its variable, or 0, and what is added
abbrev pub base : List PureValue → Option ℕ → Option ℤ
base v (Some x) = number_at v x
base v None = Some (pos 0)

abbrev plus_number : ℤ → Option ℤ → Option ℤ
plus_number p (Some n) = Some (n +ℤ p)
plus_number p None = None

abbrev pub at_side : List PureValue → Side → Option ℤ
at_side v s = plus_number s.plus (base v s.of)

-- ---- sums of two sides

base_is : (v : List PureValue) (o : Option ℕ) (p a : ℤ) → plus_number p (base v o) ≡ Some a → (n : ℤ) × ((base v o ≡ Some n) × (n +ℤ p ≡ a))
base_is v o p a h = by_base (base v o) refl h where
  by_base : (b : Option ℤ) → base v o ≡ b → plus_number p b ≡ Some a → (n : ℤ) × ((base v o ≡ Some n) × (n +ℤ p ≡ a))
  by_base (Some n) is at = (n, (is, same_Some (n +ℤ p) a at))
  by_base None is at = let e : None ≡ Some a = at in cc

sum_of : (v : List PureValue) (o p : Option ℕ) (m n : ℤ) → base v o ≡ Some m → base v p ≡ Some n → (k : ℤ) × ((sum_at v (part_of (pos 1) o ++ part_of (neg_ℤ (pos 1)) p) ≡ Some k) × (k ≡ m -ℤ n))
sum_of v (Some x) (Some y) m n at_x at_y = ((pos 1 *ℤ m) +ℤ ((neg_ℤ (pos 1) *ℤ n) +ℤ pos 0), ((λ i. scaled_and_added (pos 1) (at_x i) (scaled_and_added (neg_ℤ (pos 1)) (at_y i) (Some (pos 0)))), omega (arith, ints)))
sum_of v (Some x) None m n at_x at_y = let e : pos 0 ≡ n = same_Some (pos 0) n at_y in ((pos 1 *ℤ m) +ℤ pos 0, ((λ i. scaled_and_added (pos 1) (at_x i) (Some (pos 0))), omega (arith, ints)))
sum_of v None (Some y) m n at_x at_y = let e : pos 0 ≡ m = same_Some (pos 0) m at_x in ((neg_ℤ (pos 1) *ℤ n) +ℤ pos 0, ((λ i. scaled_and_added (neg_ℤ (pos 1)) (at_y i) (Some (pos 0))), omega (arith, ints)))
sum_of v None None m n at_x at_y = let e : pos 0 ≡ m = same_Some (pos 0) m at_x in let f : pos 0 ≡ n = same_Some (pos 0) n at_y in (pos 0, (refl, omega (arith, ints)))

some_holds : {X : Type 0} (o : Option X) (x : X) (P : X → Type 0) → o ≡ Some x → IsSomeAnd o P → P x
some_holds o x P is h = subst (λ p. IsSomeAnd p P) is h

relates_along : (r : Relation) (m n : ℤ) → m ≡ n → Relates r m → Relates r n
relates_along r m n e h = subst (Relates r) e h

-- what a row says that is met
pub row_says : (v : List PureValue) (s t : Side) (a b more : ℤ) (is_equal : Bool) (r : Row) → difference (Some s) (Some t) more is_equal ≡ Some r → at_side v s ≡ Some a → at_side v t ≡ Some b → Meets v (linear_row r) → Relates (relation_of is_equal) ((a -ℤ b) +ℤ more)
row_says v s t a b more is_equal r is at_s at_t met =
    let (m, (base_s, sum_s)) = base_is v s.of s.plus a at_s in
    let (n, (base_t, sum_t)) = base_is v t.of t.plus b at_t in
    let (k, (sum, value_k)) = sum_of v s.of t.of m n base_s base_t in
    let row : Row = record { plus = s.of; minus = t.of; constant = (s.plus -ℤ t.plus) +ℤ more; is_equal = is_equal } in
    let here : Meets v (linear_row (record { plus = s.of; minus = t.of; constant = (s.plus -ℤ t.plus) +ℤ more; is_equal = is_equal })) = subst (λ (q : Row). Meets v (linear_row q)) (sym (same_Some (record { plus = s.of; minus = t.of; constant = (s.plus -ℤ t.plus) +ℤ more; is_equal = is_equal }) r is)) met in
    relates_along (relation_of is_equal) (k +ℤ ((s.plus -ℤ t.plus) +ℤ more)) ((a -ℤ b) +ℤ more) (same k m n a b s.plus t.plus more value_k sum_s sum_t)
    (some_holds (sum_at v (part_of (pos 1) s.of ++ part_of (neg_ℤ (pos 1)) t.of)) k (λ n. Relates (relation_of is_equal) (n +ℤ ((s.plus -ℤ t.plus) +ℤ more))) sum here) where
      same : (k m n a b p q more : ℤ) → k ≡ m -ℤ n → m +ℤ p ≡ a → n +ℤ q ≡ b → k +ℤ ((p -ℤ q) +ℤ more) ≡ (a -ℤ b) +ℤ more
      same k m n a b p q more e f g = omega (arith, ints, e, f, g)

-- ---- values of sides

pub record IsSideAt (v : List PureValue) (t : PureTerm) : Type 0 where
  pub side : Side
  pub number : ℤ
  pub is : side_of t ≡ Some side
  pub at : at_side v side ≡ Some number
  pub has : value v t ≡ Some (integer number)

narrow_held : (m : ℤ) → is_between (neg_ℤ (pos (2 ^ 80))) (pos (2 ^ 80)) m ≡ true → (is_held m ≡ true) × (is_held (neg_ℤ m) ≡ true)
narrow_held m h =
    let both = and_parts (int_le (neg_ℤ (pos (2 ^ 80))) m) (int_le m (pos (2 ^ 80))) h in
    let low : neg_ℤ (pos (2 ^ 80)) ≤ℤ m = known (neg_ℤ (pos (2 ^ 80))) m both.0 in
    let high : m ≤ℤ pos (2 ^ 80) = known m (pos (2 ^ 80)) both.1 in
    (and_from _ _ (tested (neg_ℤ (pos (2 ^ 127))) m (omega (arith, ints))) (tested m (pos (2 ^ 127 - 1)) (omega (arith, ints))), and_from _ _ (tested (neg_ℤ (pos (2 ^ 127))) (neg_ℤ m) (omega (arith, ints))) (tested (neg_ℤ m) (pos (2 ^ 127 - 1)) (omega (arith, ints)))) where
      tested : (m n : ℤ) → m ≤ℤ n → int_le m n ≡ true
      tested m n h = grind (arith, ints)

      known : (m n : ℤ) → int_le m n ≡ true → m ≤ℤ n
      known m n h = grind (arith, ints)

zero_plus : (m : ℤ) → pos 0 +ℤ m ≡ m
zero_plus m = omega (arith, ints)

plus_zero : (m : ℤ) → m +ℤ pos 0 ≡ m
plus_zero m = omega (arith, ints)

minus_is : (k m : ℤ) → k +ℤ neg_ℤ m ≡ k -ℤ m
minus_is k m = omega (arith, ints)

pub integer_of_sort : (w : PureValue) → has_sort Sort.Int w ≡ true → (n : ℤ) × (w ≡ integer n)
integer_of_sort (integer n) h = (n, refl)
integer_of_sort (boolean b) h = absurd (false≢true h)
integer_of_sort (text cs) h = absurd (false≢true h)
integer_of_sort (symbol n) h = absurd (false≢true h)
integer_of_sort (kind k) h = absurd (false≢true h)
integer_of_sort (procedure name) h = absurd (false≢true h)
integer_of_sort (list vs) h = absurd (false≢true h)

module _ (vars : List Sort) (v : List PureValue) (proper : IsProper vars v) where
  int_there : (x : Var) → slice_get vars x.number ≡ Some x.sort → x.sort ≡ Sort.Int → (n : ℤ) × (slice_get v x.number ≡ Some (integer n))
  int_there x there whole =
      let (w, at) = found v x.number (subst (λ n. x.number < n) (sym proper.one_each) (slice_get_within vars x.number x.sort there)) in
      let (n, is) = integer_of_sort w (proper.sorts x.number Sort.Int w (there ∙ ap Some whole) at) in
      (n, at ∙ ap Some is)

  int_variable : (x : Var) → x.sort ≡ Sort.Int → integer_variable (variable x) ≡ Some x.number
  int_variable x whole = ap (λ s. if same_sort s Sort.Int then Some x.number else None) whole

  variable_at : (x : Var) → slice_get vars x.number ≡ Some x.sort → x.sort ≡ Sort.Int → IsSideAt v (variable x)
  variable_at x there whole =
      let (n, at) = int_there x there whole in
      record {
        side = record { of = Some x.number; plus = pos 0 };
        number = n;
        is = ap variable_side (int_variable x whole);
        at = ap (λ o. plus_number (pos 0) (option_and_then whole_number o)) at ∙ ap Some (plus_zero n);
        has = at;
      }

  shift_at : (op : BinOp) → is_shift op ≡ true → (x : Var) (m : ℤ) → slice_get vars x.number ≡ Some x.sort → x.sort ≡ Sort.Int → is_between (neg_ℤ (pos (2 ^ 80))) (pos (2 ^ 80)) m ≡ true → IsSideAt v (binary_of op (variable x) (literal (Literal.Int m)))
  shift_at BinOp.Add shift x m there whole narrow =
      let (n, at) = int_there x there whole in
      record {
        side = record { of = Some x.number; plus = m };
        number = n +ℤ m;
        is = ap (λ o. shifted_side o (Some m)) (int_variable x whole) ∙ ap (λ b. if b then Some (record { of = Some x.number; plus = m }) else None) (narrow_held m narrow).0;
        at = ap (λ o. plus_number m (option_and_then whole_number o)) at;
        has = binary-value v BinOp.Add (variable x) (literal (Literal.Int m)) (integer n) (integer m) at refl;
      }
  shift_at BinOp.Subtract shift x m there whole narrow =
      let (n, at) = int_there x there whole in
      record {
        side = record { of = Some x.number; plus = neg_ℤ m };
        number = n -ℤ m;
        is = ap (λ o. shifted_side o (Some (neg_ℤ m))) (int_variable x whole) ∙ ap (λ b. if b then Some (record { of = Some x.number; plus = neg_ℤ m }) else None) (narrow_held m narrow).1;
        at = ap (λ o. plus_number (neg_ℤ m) (option_and_then whole_number o)) at ∙ ap Some (minus_is n m);
        has = binary-value v BinOp.Subtract (variable x) (literal (Literal.Int m)) (integer n) (integer m) at refl;
      }
  shift_at op shift x m there whole narrow = absurd (false≢true shift)

  int_sort : (s : Sort) → is_of_kind (kind_of_sort s) Kind.Int ≡ true → s ≡ Sort.Int
  int_sort Sort.Int h = refl
  int_sort Sort.Bool h = absurd (false≢true h)
  int_sort Sort.Str h = absurd (false≢true h)
  int_sort Sort.Sym h = absurd (false≢true h)
  int_sort Sort.Fresh h = absurd (false≢true h)
  int_sort Sort.List h = absurd (false≢true h)
  int_sort Sort.Any h = absurd (false≢true h)

  pub side_at : (t : PureTerm) → is_integer_side t ≡ true → IsOver vars t → IsNarrow t → IsSideAt v t
  side_at (literal (Literal.Int m)) whole over narrow = record { side = record { of = None; plus = m }; number = m; is = refl; at = ap Some (zero_plus m); has = refl }
  side_at (literal (Literal.Bool b)) whole over narrow = absurd (false≢true whole)
  side_at (literal (Literal.Str cs)) whole over narrow = absurd (false≢true whole)
  side_at (literal (Literal.Kind k)) whole over narrow = absurd (false≢true whole)
  side_at (literal (Literal.Proc name)) whole over narrow = absurd (false≢true whole)
  side_at (variable x) whole over narrow = variable_at x (over_variable vars x over) (int_sort x.sort whole)
  side_at (list_of ts) whole over narrow = absurd (false≢true (and_parts (are_simple ts) false whole).1)
  side_at (unary_of op t) whole over narrow = absurd (false≢true whole)
  side_at (binary_of op s t) whole over narrow =
      let form = (and_parts (is_shift op && (is_variable_of Sort.Int s && is_integer_literal t)) _ whole).0 in
      let shift = and_parts (is_shift op) _ form in
      let parts = and_parts (is_variable_of Sort.Int s) (is_integer_literal t) shift.1 in
      let (x, (is_s, sort)) = from_is_variable_of Sort.Int s parts.0 in
      let (m, is_t) = from_is_integer_literal t parts.1 in
      let over_x = over_variable vars x (subst (IsOver vars) is_s (over_left vars (variables s) (variables t) over)) in
      let narrow_m : is_between (neg_ℤ (pos (2 ^ 80))) (pos (2 ^ 80)) m ≡ true = subst IsNarrow is_t (and_parts (has_literals_between (neg_ℤ (pos (2 ^ 80))) (pos (2 ^ 80)) s) _ narrow).1 in
      subst (IsSideAt v) (λ i. binary_of op (sym is_s i) (sym is_t i)) (shift_at op shift.0 x m over_x sort narrow_m)
