-- A sum that closes a list shows that not all of its atoms are true.
use Rattle.std.proofs.Common.{◌||◌, ◌≡◌, ⊎_elim, ◌⊎◌, inl, inr, ℕ, zero, suc, ◌<◌, ◌≤◌, ℤ, pos, negsuc, neg_ℤ, ◌+ℤ◌, ◌-ℤ◌, ◌*ℤ◌, ◌≤ℤ◌, ◌<ℤ◌, List, [], ◌∷◌, length, Bool, true, false, if◌then◌else◌, Option, Some, None, slice_get, eqb, refl, sym, ap, ◌∙◌, subst, arith}
use Rattle.std.specs.Prelude.{int_lt, int_le}
use Rattle.std.specs.Option.{option_and_then}
use Rattle.std.specs.Result.{result_ok}
use Rattle.std.proofs.Math.IntN.{suc_ℤ-*ℤ, pred_ℤ-*ℤ, zero-*ℤ, *ℤ-zero, pos-*ℤ-negsuc}
use Rattle.std.proofs.lemmas.Bool.{false≢true, and_parts, or_cases, cases_eq, cases_lt, eq-eqb, ne_eqb}
use Rattle.std.proofs.lemmas.Int.{ints}
use Rattle.std.proofs.lemmas.Option.{slice_get_past, option_and_then_some}
use Rattle.gil_values.specs.declared.kinds.Kind.{Kind}
use Rattle.gil_values.specs.declared.operators.BinOp.{BinOp}
use Rattle.gil_values.specs.Equality.{same_value}
use Rattle.gil_values.specs.EqualityLaws.{same_value-refl}
use Rattle.gil_values.specs.Operators.{binary}
use Rattle.gil_values.specs.Pure.{PureValue, integer, boolean, text, symbol, kind, procedure, list, kind_of}
use Rattle.pure_terms.specs.declared.literals.Literal.{Literal}
use Rattle.pure_terms.specs.declared.variables.Sort.{Sort}
use Rattle.pure_terms.specs.declared.variables.Var.{Var}
use Rattle.pure_terms.specs.EqualityLaws.{same_sorts}
use Rattle.pure_terms.specs.Kinds.{same_sort, kind_of_sort}
use Rattle.pure_terms.specs.Meaning.{value, truth, is_that_boolean, all_true, IsProper, IsOver, AreOver}
use Rattle.pure_terms.specs.Numbers.{is_held}
use Rattle.pure_terms.specs.Pure.{PureTerm, literal, variable, list_of, unary_of, binary_of, PureAtom, positive, negative, opening, term_of}
use Rattle.pure_terms.proofs.KindLaws.{known_kinds_are_right}
use Rattle.solver_proof.specs.declared.proofs.Factor.{Factor}
use Rattle.solver_proof.specs.Sums.{Side, integer_variable, integer_of, shifted_side, opposite_of, variable_side, side_of, Row, difference, row_where_true, row_where_false, row_of, row_at, of_row, total, one_if_variable, coefficient, is_held_row, is_factor_of, are_factors, SumCloses}
use Rattle.solver_proof.proofs.Truths.{true_at, over_at, over_sides, false_is, SameValues, true_equality, false_equality}

-- ---- whole numbers

shuffle_up : (p q r b c : ℤ) → p ≡ q +ℤ r → p +ℤ (b +ℤ c) ≡ (q +ℤ b) +ℤ (r +ℤ c)
shuffle_up p q r b c e = omega (arith, ints, e)

shuffle_down : (p q r b c : ℤ) → p ≡ q +ℤ r → p -ℤ (b +ℤ c) ≡ (q -ℤ b) +ℤ (r -ℤ c)
shuffle_down p q r b c e = omega (arith, ints, e)

no_terms_left : (b c : ℤ) → pos 0 -ℤ (b +ℤ c) ≡ (pos 0 -ℤ b) +ℤ (pos 0 -ℤ c)
no_terms_left b c = omega (arith, ints)

times-sum : (a b c : ℤ) → a *ℤ (b +ℤ c) ≡ (a *ℤ b) +ℤ (a *ℤ c)
times-sum (pos zero) b c = zero-*ℤ (b +ℤ c) ∙ (λ i. sym (zero-*ℤ b) i +ℤ sym (zero-*ℤ c) i)
times-sum (pos (suc n)) b c =
    suc_ℤ-*ℤ (pos n) (b +ℤ c) ∙ shuffle_up (pos n *ℤ (b +ℤ c)) (pos n *ℤ b) (pos n *ℤ c) b c (times-sum (pos n) b c)
    ∙ (λ i. sym (suc_ℤ-*ℤ (pos n) b) i +ℤ sym (suc_ℤ-*ℤ (pos n) c) i)
times-sum (negsuc zero) b c =
    pred_ℤ-*ℤ (pos 0) (b +ℤ c) ∙ (λ i. zero-*ℤ (b +ℤ c) i -ℤ (b +ℤ c)) ∙ no_terms_left b c
    ∙ (λ i. (sym (zero-*ℤ b) i -ℤ b) +ℤ (sym (zero-*ℤ c) i -ℤ c))
    ∙ (λ i. sym (pred_ℤ-*ℤ (pos 0) b) i +ℤ sym (pred_ℤ-*ℤ (pos 0) c) i)
times-sum (negsuc (suc n)) b c =
    pred_ℤ-*ℤ (negsuc n) (b +ℤ c) ∙ shuffle_down (negsuc n *ℤ (b +ℤ c)) (negsuc n *ℤ b) (negsuc n *ℤ c) b c (times-sum (negsuc n) b c)
    ∙ (λ i. sym (pred_ℤ-*ℤ (negsuc n) b) i +ℤ sym (pred_ℤ-*ℤ (negsuc n) c) i)

times-not_positive : (a b : ℤ) → pos 0 <ℤ a → b ≤ℤ pos 0 → (a *ℤ b) ≤ℤ pos 0
times-not_positive (pos n) (negsuc m) above below = subst (λ z. z ≤ℤ pos 0) (sym (pos-*ℤ-negsuc n m)) (omega (arith, ints))
times-not_positive (pos n) (pos zero) above below = subst (λ z. z ≤ℤ pos 0) (sym (*ℤ-zero (pos n))) (omega (arith, ints))
times-not_positive (pos n) (pos (suc m)) above below = absurd (omega (arith, ints, below))
times-not_positive (negsuc n) b above below = absurd (omega (arith, ints, above))

-- ---- totals

module _ (atoms : List PureAtom) where
  add_rows : (f : ℤ) (p q : Row → ℤ) (o : Option Row) → of_row (λ r. p r +ℤ q r) f o ≡ of_row p f o +ℤ of_row q f o
  add_rows f p q (Some row) = times-sum f (p row) (q row)
  add_rows f p q None = refl

  regroup : (a b c d : ℤ) → (a +ℤ b) +ℤ (c +ℤ d) ≡ (a +ℤ c) +ℤ (b +ℤ d)
  regroup a b c d = omega (arith, ints)

  total-sum : (p q : Row → ℤ) (fs : List Factor) → total atoms (λ r. p r +ℤ q r) fs ≡ total atoms p fs +ℤ total atoms q fs
  total-sum p q [] = refl
  total-sum p q (f ∷ fs) =
      (λ i. add_rows f.factor p q (row_at atoms f.atom) i +ℤ total-sum p q fs i)
      ∙ regroup (of_row p f.factor (row_at atoms f.atom)) (of_row q f.factor (row_at atoms f.atom)) (total atoms p fs) (total atoms q fs)

  zero_row : (f : ℤ) (o : Option Row) → of_row (λ r. pos 0) f o ≡ pos 0
  zero_row f (Some row) = *ℤ-zero f
  zero_row f None = refl

  total-zero : (fs : List Factor) → total atoms (λ r. pos 0) fs ≡ pos 0
  total-zero [] = refl
  total-zero (f ∷ fs) = λ i. zero_row f.factor (row_at atoms f.atom) i +ℤ total-zero fs i

  -- ---- what numbers for the variables make of the rows

  abbrev at_variable : (ℕ → ℤ) → Option ℕ → ℤ
  at_variable g (Some x) = g x
  at_variable g None = pos 0

  abbrev linear : (ℕ → ℤ) → Row → ℤ
  linear g row = at_variable g row.plus -ℤ at_variable g row.minus

  apart_two : (a b c d : ℤ) → (a +ℤ b) -ℤ (c +ℤ d) ≡ (a -ℤ c) +ℤ (b -ℤ d)
  apart_two a b c d = omega (arith, ints)

  at_sum : (g h : ℕ → ℤ) (o : Option ℕ) → at_variable (λ x. g x +ℤ h x) o ≡ at_variable g o +ℤ at_variable h o
  at_sum g h (Some x) = refl
  at_sum g h None = refl

  linear-sum : (g h : ℕ → ℤ) (row : Row) → linear (λ x. g x +ℤ h x) row ≡ linear g row +ℤ linear h row
  linear-sum g h row = (λ i. at_sum g h row.plus i -ℤ at_sum g h row.minus i) ∙ apart_two (at_variable g row.plus) (at_variable h row.plus) (at_variable g row.minus) (at_variable h row.minus)

  abbrev total_linear : (ℕ → ℤ) → List Factor → ℤ
  total_linear g fs = total atoms (linear g) fs

  total_linear-sum : (g h : ℕ → ℤ) (fs : List Factor) → total_linear (λ x. g x +ℤ h x) fs ≡ total_linear g fs +ℤ total_linear h fs
  total_linear-sum g h fs = ap (λ (p : Row → ℤ). total atoms p fs) (λ i row. linear-sum g h row i) ∙ total-sum (linear g) (linear h) fs

  linear-zero : (row : Row) → linear (λ x. pos 0) row ≡ pos 0
  linear-zero row = (λ i. nothing row.plus i -ℤ nothing row.minus i) where
    nothing : (o : Option ℕ) → at_variable (λ x. pos 0) o ≡ pos 0
    nothing (Some x) = refl
    nothing None = refl

  total_linear-zero : (fs : List Factor) → total_linear (λ x. pos 0) fs ≡ pos 0
  total_linear-zero fs = ap (λ (p : Row → ℤ). total atoms p fs) (λ i row. linear-zero row i) ∙ total-zero fs

  -- a number for one variable, and 0 for the others
  abbrev alone : ℕ → ℤ → ℕ → ℤ
  alone x n y = if eqb x y then n else pos 0

  module _ (fs : List Factor) (vanish : (x : ℕ) → total atoms (coefficient x) fs ≡ pos 0) where
    one_alone : (x : ℕ) (o : Option ℕ) → at_variable (alone x (pos 1)) o ≡ one_if_variable x o
    one_alone x (Some y) = refl
    one_alone x None = refl

    one-vanishes : (x : ℕ) → total_linear (alone x (pos 1)) fs ≡ pos 0
    one-vanishes x = ap (λ (p : Row → ℤ). total atoms p fs) (λ i row. one_alone x row.plus i -ℤ one_alone x row.minus i) ∙ vanish x

    one_up : (x y : ℕ) (n : ℕ) → alone x (pos (suc n)) y ≡ alone x (pos n) y +ℤ alone x (pos 1) y
    one_up x y n = chosen (eqb x y) where
      chosen : (b : Bool) → (if b then pos (suc n) else pos 0) ≡ (if b then pos n else pos 0) +ℤ (if b then pos 1 else pos 0)
      chosen true = omega (arith, ints)
      chosen false = refl

    none_alone : (x y : ℕ) → alone x (pos 0) y ≡ pos 0
    none_alone x y = chosen (eqb x y) where
      chosen : (b : Bool) → (if b then pos 0 else pos 0) ≡ pos 0
      chosen true = refl
      chosen false = refl

    cancels : (x y : ℕ) (n : ℕ) → pos 0 ≡ alone x (negsuc n) y +ℤ alone x (pos (suc n)) y
    cancels x y n = chosen (eqb x y) where
      chosen : (b : Bool) → pos 0 ≡ (if b then negsuc n else pos 0) +ℤ (if b then pos (suc n) else pos 0)
      chosen true = omega (arith, ints)
      chosen false = refl

    sum_of_zeros : (a b c : ℤ) → a ≡ b +ℤ c → b ≡ pos 0 → c ≡ pos 0 → a ≡ pos 0
    sum_of_zeros a b c e f g = omega (arith, ints, e, f, g)

    other_zero : (a b c : ℤ) → a ≡ b +ℤ c → a ≡ pos 0 → c ≡ pos 0 → b ≡ pos 0
    other_zero a b c e f g = omega (arith, ints, e, f, g)

    positive-vanishes : (x n : ℕ) → total_linear (alone x (pos n)) fs ≡ pos 0
    positive-vanishes x zero = ap (λ (g : ℕ → ℤ). total_linear g fs) (λ i y. none_alone x y i) ∙ total_linear-zero fs
    positive-vanishes x (suc n) =
        sum_of_zeros (total_linear (alone x (pos (suc n))) fs) (total_linear (alone x (pos n)) fs) (total_linear (alone x (pos 1)) fs)
        (ap (λ (g : ℕ → ℤ). total_linear g fs) (λ i y. one_up x y n i) ∙ total_linear-sum (alone x (pos n)) (alone x (pos 1)) fs)
        (positive-vanishes x n) (one-vanishes x)

    alone-vanishes : (x : ℕ) (n : ℤ) → total_linear (alone x n) fs ≡ pos 0
    alone-vanishes x (pos n) = positive-vanishes x n
    alone-vanishes x (negsuc n) =
        other_zero (total_linear (λ y. pos 0) fs) (total_linear (alone x (negsuc n)) fs) (total_linear (alone x (pos (suc n))) fs)
        (ap (λ (g : ℕ → ℤ). total_linear g fs) (λ i y. cancels x y n i) ∙ total_linear-sum (alone x (negsuc n)) (alone x (pos (suc n))) fs)
        (total_linear-zero fs) (positive-vanishes x (suc n))

    -- the numbers of the variables below a bound
    abbrev below : ℕ → (ℕ → ℤ) → ℕ → ℤ
    below zero g y = pos 0
    below (suc n) g y = below n g y +ℤ alone n (g n) y

    below-vanishes : (n : ℕ) (g : ℕ → ℤ) → total_linear (below n g) fs ≡ pos 0
    below-vanishes zero g = total_linear-zero fs
    below-vanishes (suc n) g =
        sum_of_zeros (total_linear (below (suc n) g) fs) (total_linear (below n g) fs) (total_linear (alone n (g n)) fs)
        (total_linear-sum (below n g) (alone n (g n)) fs) (below-vanishes n g) (alone-vanishes n (g n))

    plus_zero : (a b c : ℤ) → a ≡ b → c ≡ pos 0 → a +ℤ c ≡ b
    plus_zero a b c e f = omega (arith, ints, e, f)

    zero_plus : (a b : ℤ) → a ≡ pos 0 → a +ℤ b ≡ b
    zero_plus a b e = omega (arith, ints, e)

    alone-other : (x y : ℕ) (n : ℤ) → (x ≡ y → ⊥) → alone x n y ≡ pos 0
    alone-other x y n differ = ap (λ (b : Bool). if b then n else pos 0) (ne_eqb x y differ)

    alone-same : (x y : ℕ) (n : ℤ) → x ≡ y → alone x n y ≡ n
    alone-same x y n same = ap (λ (b : Bool). if b then n else pos 0) (eq-eqb x y same)

    below-past : (n y : ℕ) (g : ℕ → ℤ) → n ≤ y → below n g y ≡ pos 0
    below-past zero y g le = refl
    below-past (suc n) y g le = plus_zero (below n g y) (pos 0) (alone n (g n) y) (below-past n y g (omega (arith, le))) (alone-other n y (g n) (λ e. omega (arith, le, e)))

    below-within : (n y : ℕ) (g : ℕ → ℤ) → y < n → below n g y ≡ g y
    below-within zero y g lt = absurd (omega (arith, lt))
    below-within (suc n) y g lt = ⊎_elim
        (λ same. zero_plus (below n g y) (alone n (g n) y) (below-past n y g (omega (arith, same))) ∙ alone-same n y (g n) same ∙ ap g same)
        (λ differ. plus_zero (below n g y) (g y) (alone n (g n) y) (below-within n y g (omega (arith, lt, differ))) (alone-other n y (g n) differ))
        (cases_eq n y)

    pub linear-vanishes : (n : ℕ) (g : ℕ → ℤ) → ((y : ℕ) → n ≤ y → g y ≡ pos 0) → total_linear g fs ≡ pos 0
    linear-vanishes n g past = ap (λ (h : ℕ → ℤ). total_linear h fs) (λ i y. whole y i) ∙ below-vanishes n g where
      whole : (y : ℕ) → g y ≡ below n g y
      whole y = ⊎_elim (λ lt. sym (below-within n y g lt)) (λ le. past y le ∙ sym (below-past n y g le)) (cases_lt y n)

-- ---- the rows of true atoms

-- the number that a variable has, and 0 where it has none
abbrev number_or_zero : Option PureValue → ℤ
number_or_zero (Some (integer n)) = n
number_or_zero _ = pos 0

abbrev numbers_of : List PureValue → ℕ → ℤ
numbers_of v x = number_or_zero (slice_get v x)

abbrev at_side : List PureValue → Side → ℤ
at_side v side = at_variable [] (numbers_of v) side.of +ℤ side.plus

module _ (vars : List Sort) (v : List PureValue) (proper : IsProper vars v) where
  integer_of_kind : (w : PureValue) → kind_of w ≡ Kind.Int → (n : ℤ) × (w ≡ integer n)
  integer_of_kind (integer n) is = (n, refl)
  integer_of_kind w is = cc

  -- the number that an Int variable has
  variable_has : (x : Var) → x.sort ≡ Sort.Int → IsOver vars (variable x) → (w : PureValue) → slice_get v x.number ≡ Some w → w ≡ integer (numbers_of v x.number)
  variable_has x sort over w has =
      let (n, is) = integer_of_kind w (known_kinds_are_right vars v (variable x) w Kind.Int proper over has (ap kind_of_sort sort)) in
      is ∙ ap integer (sym (ap number_or_zero (has ∙ ap Some is)))

  abbrev IsIntegerVariable : PureTerm → ℕ → Type 0
  IsIntegerVariable t x = (y : Var) × ((t ≡ variable y) × (y.sort ≡ Sort.Int) × (y.number ≡ x))

  chosen_number : (b : Bool) (m n : ℕ) → (if b then Some m else None) ≡ Some n → (b ≡ true) × (m ≡ n)
  chosen_number true m n e = (refl, cc)
  chosen_number false m n e = cc

  from_integer_variable : (t : PureTerm) (x : ℕ) → integer_variable t ≡ Some x → IsIntegerVariable t x
  from_integer_variable (variable y) x is =
      let (sort, number) = chosen_number (same_sort y.sort Sort.Int) y.number x is in
      (y, (refl, same_sorts y.sort Sort.Int sort, number))
  from_integer_variable (literal l) x is = cc
  from_integer_variable (list_of ts) x is = cc
  from_integer_variable (unary_of op t) x is = cc
  from_integer_variable (binary_of op s t) x is = cc

  from_integer : (t : PureTerm) (n : ℤ) → integer_of t ≡ Some n → t ≡ literal (Literal.Int n)
  from_integer (literal (Literal.Int m)) n is = let same : m ≡ n = cc in ap (λ k. literal (Literal.Int k)) same
  from_integer t n is = cc

  -- a variable of the table with this number has this value
  term_has : (t : PureTerm) (x : ℕ) → integer_variable t ≡ Some x → IsOver vars t → (w : PureValue) → value v t ≡ Some w → w ≡ integer (numbers_of v x)
  term_has t x is over w has =
      let (y, (same, sort, number)) = from_integer_variable t x is in
      variable_has y sort (subst (IsOver vars) same over) w (sym (ap (value v) same) ∙ has) ∙ ap (λ n. integer (numbers_of v n)) number

  abbrev after_both : BinOp → Option PureValue → Option PureValue → Option PureValue
  after_both op a b = option_and_then (λ u. option_and_then (λ w. result_ok (binary op u w)) b) a

  left_of : (op : BinOp) (a b : Option PureValue) (w : PureValue) → after_both op a b ≡ Some w → (u : PureValue) × (a ≡ Some u)
  left_of op (Some u) b w is = (u, refl)
  left_of op None b w is = cc

  add_side : (s t : PureTerm) (x : Option ℕ) (n : Option ℤ) (side : Side) → integer_variable s ≡ x → integer_of t ≡ n → shifted_side x n ≡ Some side → IsOver vars s
      → (w : PureValue) → after_both BinOp.Add (value v s) (value v t) ≡ Some w → w ≡ integer (at_side v side)
  add_side s t (Some x) (Some n) side is_x is_n is over w has =
      let (held, same) = chosen_side (is_held n) (record { of = Some x; plus = n }) side is in
      let (u, of_s) = left_of BinOp.Add (value v s) (value v t) w has in
      let number : u ≡ integer (numbers_of v x) = term_has s x is_x over u of_s in
      let sum : after_both BinOp.Add (Some (integer (numbers_of v x))) (Some (integer n)) ≡ Some w =
      (λ i. after_both BinOp.Add (sym (of_s ∙ ap Some number) i) (sym (ap (value v) (from_integer t n is_n)) i)) ∙ has in
      let whole : w ≡ integer (numbers_of v x +ℤ n) = cc in
      whole ∙ ap (λ (p : Side). integer (at_side v p)) same where
        chosen_side : (b : Bool) (p q : Side) → (if b then Some p else None) ≡ Some q → (b ≡ true) × (p ≡ q)
        chosen_side true p q e = (refl, cc)
        chosen_side false p q e = cc
  add_side s t (Some x) None side is_x is_n is over w has = cc
  add_side s t None n side is_x is_n is over w has = cc

  subtract_side : (s t : PureTerm) (x : Option ℕ) (n : Option ℤ) (side : Side) → integer_variable s ≡ x → integer_of t ≡ n → shifted_side x (opposite_of n) ≡ Some side → IsOver vars s
      → (w : PureValue) → after_both BinOp.Subtract (value v s) (value v t) ≡ Some w → w ≡ integer (at_side v side)
  subtract_side s t (Some x) (Some n) side is_x is_n is over w has =
      let (held, same) = chosen_side (is_held (neg_ℤ n)) (record { of = Some x; plus = neg_ℤ n }) side is in
      let (u, of_s) = left_of BinOp.Subtract (value v s) (value v t) w has in
      let number : u ≡ integer (numbers_of v x) = term_has s x is_x over u of_s in
      let sum : after_both BinOp.Subtract (Some (integer (numbers_of v x))) (Some (integer n)) ≡ Some w =
      (λ i. after_both BinOp.Subtract (sym (of_s ∙ ap Some number) i) (sym (ap (value v) (from_integer t n is_n)) i)) ∙ has in
      let whole : w ≡ integer (numbers_of v x -ℤ n) = cc in
      whole ∙ ap integer (turned_sign (numbers_of v x) n) ∙ ap (λ (p : Side). integer (at_side v p)) same where
        chosen_side : (b : Bool) (p q : Side) → (if b then Some p else None) ≡ Some q → (b ≡ true) × (p ≡ q)
        chosen_side true p q e = (refl, cc)
        chosen_side false p q e = cc

        turned_sign : (a n : ℤ) → a -ℤ n ≡ a +ℤ neg_ℤ n
        turned_sign a n = omega (arith, ints)
  subtract_side s t (Some x) None side is_x is_n is over w has = cc
  subtract_side s t None n side is_x is_n is over w has = cc

  plus_zero_is : (n : ℤ) → n ≡ n +ℤ pos 0
  plus_zero_is n = omega (arith, ints)

  zero_plus_is : (n : ℤ) → n ≡ pos 0 +ℤ n
  zero_plus_is n = omega (arith, ints)

  variable_has_side : (x : Var) (o : Option ℕ) (side : Side) → integer_variable (variable x) ≡ o → variable_side o ≡ Some side → IsOver vars (variable x) → (w : PureValue) → value v (variable x) ≡ Some w → w ≡ integer (at_side v side)
  variable_has_side x (Some n) side is_n is over w has =
      let same : record { of = Some n; plus = pos 0 } ≡ side = cc in
      term_has (variable x) n is_n over w has ∙ ap integer (plus_zero_is (numbers_of v n)) ∙ ap (λ (p : Side). integer (at_side v p)) same
  variable_has_side x None side is_n is over w has = cc

  -- the value of a term with a side is the number of the side
  pub side-value : (t : PureTerm) (side : Side) → side_of t ≡ Some side → IsOver vars t → (w : PureValue) → value v t ≡ Some w → w ≡ integer (at_side v side)
  side-value (literal (Literal.Int n)) side is over w has =
      let same : record { of = None; plus = n } ≡ side = cc in
      let number : w ≡ integer n = cc in
      number ∙ ap integer (zero_plus_is n) ∙ ap (λ (p : Side). integer (at_side v p)) same
  side-value (variable x) side is over w has = variable_has_side x (integer_variable (variable x)) side refl is over w has
  side-value (binary_of BinOp.Add s t) side is over w has = add_side s t (integer_variable s) (integer_of t) side refl refl is (over_sides vars BinOp.Add s t over).0 w has
  side-value (binary_of BinOp.Subtract s t) side is over w has = subtract_side s t (integer_variable s) (integer_of t) side refl refl is (over_sides vars BinOp.Subtract s t over).0 w has
  side-value t side is over w has = cc

  -- ---- rows

  abbrev row_value : Row → ℤ
  row_value row = (at_variable [] (numbers_of v) row.plus -ℤ at_variable [] (numbers_of v) row.minus) +ℤ row.constant

  abbrev RowHolds : Row → Type 0
  RowHolds row = (row_value row ≤ℤ pos 0) × (row.is_equal ≡ true → row_value row ≡ pos 0)

  -- two whole numbers that an operator compares with this answer
  abbrev Compared : (ℤ → ℤ → Bool) → Bool → Option PureValue → Option PureValue → Type 0
  Compared test b a c = (m : ℤ) × ((n : ℤ) × ((a ≡ Some (integer m)) × (c ≡ Some (integer n)) × (test m n ≡ b)))

  compared_less : (b : Bool) (a c : Option PureValue) → is_that_boolean b (after_both BinOp.Less a c) ≡ true → Compared int_lt b a c
  compared_less true (Some (integer m)) (Some (integer n)) h = (m, (n, (refl, refl, h)))
  compared_less false (Some (integer m)) (Some (integer n)) h = (m, (n, (refl, refl, false_is (int_lt m n) h)))
  compared_less true (Some (boolean x)) (Some w) h = absurd (false≢true h)
  compared_less true (Some (text x)) (Some w) h = absurd (false≢true h)
  compared_less true (Some (symbol x)) (Some w) h = absurd (false≢true h)
  compared_less true (Some (kind x)) (Some w) h = absurd (false≢true h)
  compared_less true (Some (procedure x)) (Some w) h = absurd (false≢true h)
  compared_less true (Some (list x)) (Some w) h = absurd (false≢true h)
  compared_less true a c h = absurd (false≢true h)
  compared_less false (Some (boolean x)) (Some w) h = absurd (false≢true h)
  compared_less false (Some (text x)) (Some w) h = absurd (false≢true h)
  compared_less false (Some (symbol x)) (Some w) h = absurd (false≢true h)
  compared_less false (Some (kind x)) (Some w) h = absurd (false≢true h)
  compared_less false (Some (procedure x)) (Some w) h = absurd (false≢true h)
  compared_less false (Some (list x)) (Some w) h = absurd (false≢true h)
  compared_less false a c h = absurd (false≢true h)

  compared_at_most : (b : Bool) (a c : Option PureValue) → is_that_boolean b (after_both BinOp.LessOrEqual a c) ≡ true → Compared int_le b a c
  compared_at_most true (Some (integer m)) (Some (integer n)) h = (m, (n, (refl, refl, h)))
  compared_at_most false (Some (integer m)) (Some (integer n)) h = (m, (n, (refl, refl, false_is (int_le m n) h)))
  compared_at_most true (Some (boolean x)) (Some w) h = absurd (false≢true h)
  compared_at_most true (Some (text x)) (Some w) h = absurd (false≢true h)
  compared_at_most true (Some (symbol x)) (Some w) h = absurd (false≢true h)
  compared_at_most true (Some (kind x)) (Some w) h = absurd (false≢true h)
  compared_at_most true (Some (procedure x)) (Some w) h = absurd (false≢true h)
  compared_at_most true (Some (list x)) (Some w) h = absurd (false≢true h)
  compared_at_most true a c h = absurd (false≢true h)
  compared_at_most false (Some (boolean x)) (Some w) h = absurd (false≢true h)
  compared_at_most false (Some (text x)) (Some w) h = absurd (false≢true h)
  compared_at_most false (Some (symbol x)) (Some w) h = absurd (false≢true h)
  compared_at_most false (Some (kind x)) (Some w) h = absurd (false≢true h)
  compared_at_most false (Some (procedure x)) (Some w) h = absurd (false≢true h)
  compared_at_most false (Some (list x)) (Some w) h = absurd (false≢true h)
  compared_at_most false a c h = absurd (false≢true h)

  -- the row of two sides, by the numbers that they have
  abbrev DifferenceIs : Row → ℤ → Bool → Type 0
  DifferenceIs row d is_equal = (row_value row ≡ d) × (row.is_equal ≡ is_equal)

  regrouped : (a b c d more : ℤ) → (a -ℤ b) +ℤ ((c -ℤ d) +ℤ more) ≡ ((a +ℤ c) -ℤ (b +ℤ d)) +ℤ more
  regrouped a b c d more = omega (arith, ints)

  from_difference : (s t : PureTerm) (o p : Option Side) (more : ℤ) (is_equal : Bool) (row : Row) (m n : ℤ) → side_of s ≡ o → side_of t ≡ p → difference o p more is_equal ≡ Some row
      → IsOver vars s → IsOver vars t → value v s ≡ Some (integer m) → value v t ≡ Some (integer n) → DifferenceIs row ((m -ℤ n) +ℤ more) is_equal
  from_difference s t (Some a) (Some b) more is_equal row m n is_a is_b is over_s over_t has_s has_t =
      let same : record { plus = a.of; minus = b.of; constant = (a.plus -ℤ b.plus) +ℤ more; is_equal = is_equal } ≡ row = cc in
      let of_s : integer m ≡ integer (at_side v a) = side-value s a is_a over_s (integer m) has_s in
      let of_t : integer n ≡ integer (at_side v b) = side-value t b is_b over_t (integer n) has_t in
      let left : at_side v a ≡ m = cc in
      let right : at_side v b ≡ n = cc in
      subst (λ (r : Row). DifferenceIs r ((m -ℤ n) +ℤ more) is_equal) same
      (regrouped (at_variable [] (numbers_of v) a.of) (at_variable [] (numbers_of v) b.of) a.plus b.plus more ∙ (λ i. (left i -ℤ right i) +ℤ more), refl)
  from_difference s t (Some a) None more is_equal row m n is_a is_b is over_s over_t has_s has_t = cc
  from_difference s t None p more is_equal row m n is_a is_b is over_s over_t has_s has_t = cc

  from_less : (m n : ℤ) → int_lt m n ≡ true → ((m -ℤ n) +ℤ pos 1) ≤ℤ pos 0
  from_less m n h = omega (arith, ints, h)

  from_at_most : (m n : ℤ) → int_le m n ≡ true → ((m -ℤ n) +ℤ pos 0) ≤ℤ pos 0
  from_at_most m n h = omega (arith, ints, h)

  from_not_less : (m n : ℤ) → int_lt m n ≡ false → ((n -ℤ m) +ℤ pos 0) ≤ℤ pos 0
  from_not_less m n h = omega (arith, ints, h)

  from_not_at_most : (m n : ℤ) → int_le m n ≡ false → ((n -ℤ m) +ℤ pos 1) ≤ℤ pos 0
  from_not_at_most m n h = omega (arith, ints, h)

  from_equal : (m n : ℤ) → m ≡ n → ((m -ℤ n) +ℤ pos 0) ≡ pos 0
  from_equal m n e = omega (arith, ints, e)

  inequality : (row : Row) (d : ℤ) → DifferenceIs row d false → d ≤ℤ pos 0 → RowHolds row
  inequality row d is le = (subst (λ z. z ≤ℤ pos 0) (sym is.0) le, λ equal. absurd (false≢true (sym is.1 ∙ equal)))

  zero_at_most : (d : ℤ) → d ≡ pos 0 → d ≤ℤ pos 0
  zero_at_most d e = omega (arith, ints, e)

  equality : (row : Row) (d : ℤ) → DifferenceIs row d true → d ≡ pos 0 → RowHolds row
  equality row d is zero_is = (zero_at_most (row_value row) (is.0 ∙ zero_is), λ equal. is.0 ∙ zero_is)

  -- the two sides of an equality are whole numbers
  equal_numbers : (s t : PureTerm) (o p : Option Side) (row : Row) → side_of s ≡ o → side_of t ≡ p → difference o p (pos 0) true ≡ Some row → IsOver vars s → IsOver vars t → SameValues v s t → RowHolds row
  equal_numbers s t (Some a) (Some b) row is_a is_b is over_s over_t same =
      let left : same.value_of_both ≡ integer (at_side v a) = side-value s a is_a over_s same.value_of_both same.left in
      let right : same.value_of_both ≡ integer (at_side v b) = side-value t b is_b over_t same.value_of_both same.right in
      let both : integer (at_side v a) ≡ integer (at_side v b) = sym left ∙ right in
      let numbers : at_side v a ≡ at_side v b = cc in
      equality row _ (from_difference s t (Some a) (Some b) (pos 0) true row (at_side v a) (at_side v b) is_a is_b is over_s over_t (same.left ∙ ap Some left) (same.right ∙ ap Some right)) (from_equal (at_side v a) (at_side v b) numbers)
  equal_numbers s t (Some a) None row is_a is_b is over_s over_t same = cc
  equal_numbers s t None p row is_a is_b is over_s over_t same = cc

  true_row : (t : PureTerm) (row : Row) → row_where_true t ≡ Some row → IsOver vars t → truth v (positive t) ≡ true → RowHolds row
  true_row (binary_of BinOp.LessOrEqual s t) row is over h =
      let (m, (n, (has_s, has_t, test))) = compared_at_most true (value v s) (value v t) h in
      let sides = over_sides vars BinOp.LessOrEqual s t over in
      inequality row _ (from_difference s t (side_of s) (side_of t) (pos 0) false row m n refl refl is sides.0 sides.1 has_s has_t) (from_at_most m n test)
  true_row (binary_of BinOp.Less s t) row is over h =
      let (m, (n, (has_s, has_t, test))) = compared_less true (value v s) (value v t) h in
      let sides = over_sides vars BinOp.Less s t over in
      inequality row _ (from_difference s t (side_of s) (side_of t) (pos 1) false row m n refl refl is sides.0 sides.1 has_s has_t) (from_less m n test)
  true_row (binary_of BinOp.Equal s t) row is over h =
      let sides = over_sides vars BinOp.Equal s t over in
      equal_numbers s t (side_of s) (side_of t) row refl refl is sides.0 sides.1 (true_equality v s t h)
  true_row t row is over h = cc

  false_row : (t : PureTerm) (row : Row) → row_where_false t ≡ Some row → IsOver vars t → truth v (negative t) ≡ true → RowHolds row
  false_row (binary_of BinOp.LessOrEqual s t) row is over h =
      let (m, (n, (has_s, has_t, test))) = compared_at_most false (value v s) (value v t) h in
      let sides = over_sides vars BinOp.LessOrEqual s t over in
      inequality row _ (from_difference t s (side_of t) (side_of s) (pos 1) false row n m refl refl is sides.1 sides.0 has_t has_s) (from_not_at_most m n test)
  false_row (binary_of BinOp.Less s t) row is over h =
      let (m, (n, (has_s, has_t, test))) = compared_less false (value v s) (value v t) h in
      let sides = over_sides vars BinOp.Less s t over in
      inequality row _ (from_difference t s (side_of t) (side_of s) (pos 0) false row n m refl refl is sides.1 sides.0 has_t has_s) (from_not_less m n test)
  false_row t row is over h = cc

  row-holds : (a : PureAtom) (row : Row) → row_of a ≡ Some row → IsOver vars (term_of a) → truth v a ≡ true → RowHolds row
  row-holds (positive t) row is over h = true_row t row is over h
  row-holds (negative t) row is over h = false_row t row is over h
  row-holds (opening t) row is over h = cc

  module _ (atoms : List PureAtom) (over : AreOver vars atoms) (all : all_true v atoms ≡ true) where
    row_holds_at : (i : ℕ) (row : Row) → row_at atoms i ≡ Some row → RowHolds row
    row_holds_at i row is =
        option_and_then_some row_of (slice_get atoms i) row is (λ a here found. row-holds a row found (over_at vars atoms i a over here) (true_at v atoms i a all here))

    from_factor : (f : ℤ) (row : Row) → RowHolds row → (row.is_equal ≡ true) ⊎ (int_lt (pos 0) f ≡ true) → (f *ℤ row_value row) ≤ℤ pos 0
    from_factor f row holds (inl equal) = zero_at_most (f *ℤ row_value row) (ap (λ z. f *ℤ z) (holds.1 equal) ∙ *ℤ-zero f)
    from_factor f row holds (inr above) = times-not_positive f (row_value row) (omega (arith, ints, above)) holds.0

    part_not_positive : (f : ℤ) (i : ℕ) (o : Option Row) → row_at atoms i ≡ o → is_factor_of f o ≡ true → of_row row_value f o ≤ℤ pos 0
    part_not_positive f i (Some row) is allowed = from_factor f row (row_holds_at i row is) (or_cases row.is_equal (int_lt (pos 0) f) (and_parts (is_held_row row) (row.is_equal || int_lt (pos 0) f) allowed).1)
    part_not_positive f i None is allowed = absurd (false≢true allowed)

    sum_not_positive : (a b : ℤ) → a ≤ℤ pos 0 → b ≤ℤ pos 0 → (a +ℤ b) ≤ℤ pos 0
    sum_not_positive a b h k = omega (arith, ints, h, k)

    total-not_positive : (fs : List Factor) → are_factors atoms fs ≡ true → total atoms row_value fs ≤ℤ pos 0
    total-not_positive [] allowed = omega (arith, ints)
    total-not_positive (f ∷ fs) allowed =
        let parts = and_parts _ _ allowed in
        sum_not_positive (of_row row_value f.factor (row_at atoms f.atom)) (total atoms row_value fs) (part_not_positive f.factor f.atom (row_at atoms f.atom) refl parts.0) (total-not_positive fs parts.1)

    contradiction : (t l c : ℤ) → t ≤ℤ pos 0 → t ≡ l +ℤ c → l ≡ pos 0 → pos 0 <ℤ c → ⊥
    contradiction t l c not_positive is vanishes above = absurd (omega (arith, ints, not_positive, is, vanishes, above))

    pub sum-closes : (fs : List Factor) → SumCloses atoms fs → ⊥
    sum-closes fs closes =
        contradiction (total atoms row_value fs) (total_linear atoms (numbers_of v) fs) (total atoms (λ row. row.constant) fs)
        (total-not_positive fs closes.factors)
        (total-sum atoms (linear atoms (numbers_of v)) (λ row. row.constant) fs)
        (linear-vanishes atoms fs closes.variables (length v) (numbers_of v) (λ y past. ap number_or_zero (slice_get_past v y past)))
        closes.constant

  -- `s <= t` and `t <= s` of whole numbers leave no difference
  pub meet_numbers : (s t : PureTerm) → truth v (positive (binary_of BinOp.LessOrEqual s t)) ≡ true → truth v (positive (binary_of BinOp.LessOrEqual t s)) ≡ true
      → (truth v (negative (binary_of BinOp.Equal s t)) ≡ true) ⊎ (truth v (negative (binary_of BinOp.Equal t s)) ≡ true) → ⊥
  meet_numbers s t first second differ =
      let (m, (n, (has_s, has_t, up))) = compared_at_most true (value v s) (value v t) first in
      let (k, (l, (has_t_too, has_s_too, down))) = compared_at_most true (value v t) (value v s) second in
      let of_t : Some (integer n) ≡ Some (integer k) = sym has_t ∙ has_t_too in
      let of_s : Some (integer m) ≡ Some (integer l) = sym has_s ∙ has_s_too in
      let n_is : n ≡ k = cc in
      let m_is : m ≡ l = cc in
      let same : m ≡ n = omega (arith, ints, up, down, n_is, m_is) in
      let never : (u w : PureTerm) → value v u ≡ value v w → truth v (negative (binary_of BinOp.Equal u w)) ≡ true → ⊥ = (λ u w e h.
      let other = false_equality v u w h in
      let alike : Some other.first ≡ Some other.second = sym other.left ∙ e ∙ other.right in
      let one : other.first ≡ other.second = cc in
      false≢true (sym other.differ ∙ ap (same_value other.first) (sym one) ∙ same_value-refl other.first)) in
      let equal : value v s ≡ value v t = has_s ∙ ap (λ z. Some (integer z)) same ∙ sym has_t in
      ⊎_elim (never s t equal) (never t s (sym equal)) differ
