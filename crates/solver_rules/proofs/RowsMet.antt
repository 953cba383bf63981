-- Rows of plain atoms: they are narrow differences over the table, and where they are met the atoms are true.
use Rattle.std.proofs.Common.{◌≡◌, ⊎_elim, ◌⊎◌, inl, inr, ℕ, ◌^◌, ℤ, pos, neg_ℤ, ◌+ℤ◌, ◌-ℤ◌, ◌≤ℤ◌, List, Bool, true, false, Some, slice_get, refl, sym, ap, ◌∙◌, subst, arith}
use Rattle.std.specs.Prelude.{int_le, int_lt}
use Rattle.std.proofs.lemmas.Bool.{false≢true, and_parts}
use Rattle.std.proofs.lemmas.Int.{ints}
use Rattle.std.proofs.lemmas.Option.{option_and_then_some}
use Rattle.gil_values.specs.declared.operators.BinOp.{BinOp}
use Rattle.gil_values.specs.Pure.{PureValue, integer, boolean}
use Rattle.pure_terms.specs.declared.variables.Sort.{Sort}
use Rattle.pure_terms.specs.Fragment.{is_integer_side, has_literals_between, has_narrow_literals, is_comparison}
use Rattle.pure_terms.specs.Meaning.{value, truth, is_that_boolean, IsProper, IsOver}
use Rattle.pure_terms.specs.Pure.{PureTerm, binary_of, PureAtom, positive, negative, term_of}
use Rattle.pure_terms.proofs.DirectLaws.{binary-value}
use Rattle.solver_proof.specs.Chains.{equals, Sides, equality_of}
use Rattle.solver_proof.specs.Sums.{Row, side_of, difference, row_of}
use Rattle.solver_proof.proofs.Truths.{over_sides}
use Rattle.linear_core.specs.Rows.{Meets, MeetsAll}
use Rattle.linear_core.proofs.Meeting.{all_at}
use Rattle.equality_core.specs.Classes.{PureClasses}
use Rattle.equality_core.proofs.Saying.{SaysEqual, SaysTruth, says}
use Rattle.solver_rules.specs.Rows.{linear_row, rows_from}
use Rattle.solver_rules.specs.Steps.{ArePlain}
use Rattle.solver_rules.proofs.Meeting.{AreRowsMet}
use Rattle.solver_rules.proofs.RowSums.{row_listed}
use Rattle.solver_rules.proofs.RowTruths.{IsSideAt, side_at, row_says}

less_is : (a b : ℤ) → ((a -ℤ b) +ℤ pos 1) ≤ℤ pos 0 → int_lt a b ≡ true
less_is a b h = grind (arith, ints)

at_most_is : (a b : ℤ) → ((a -ℤ b) +ℤ pos 0) ≤ℤ pos 0 → int_le a b ≡ true
at_most_is a b h = grind (arith, ints)

not_less_is : (a b : ℤ) → ((b -ℤ a) +ℤ pos 0) ≤ℤ pos 0 → int_lt a b ≡ false
not_less_is a b h = grind (arith, ints)

not_at_most_is : (a b : ℤ) → ((b -ℤ a) +ℤ pos 1) ≤ℤ pos 0 → int_le a b ≡ false
not_at_most_is a b h = grind (arith, ints)

same_is : (a b : ℤ) → (a -ℤ b) +ℤ pos 0 ≡ pos 0 → a ≡ b
same_is a b h = omega (arith, ints, h)

module _ (vars : List Sort) (list : List PureAtom) (plain : ArePlain vars list) (v : List PureValue) (proper : IsProper vars v) (met : MeetsAll v (rows_from list)) where
  row_met : (i : ℕ) (a : PureAtom) (r : Row) → slice_get list i ≡ Some a → row_of a ≡ Some r → Meets v (linear_row r)
  row_met i a r at is = let (k, there) = row_listed list i a r at is in all_at (Meets v) (rows_from list) k (linear_row r) there met

  record AreSidesAt (s t : PureTerm) : Type 0 where
    left : IsSideAt v s
    right : IsSideAt v t

  sides_at : (i : ℕ) (a : PureAtom) (op : BinOp) (s t : PureTerm) → slice_get list i ≡ Some a → (a ≡ positive (binary_of op s t)) ⊎ (a ≡ negative (binary_of op s t)) → is_integer_side s ≡ true → is_integer_side t ≡ true → AreSidesAt s t
  sides_at i a op s t at is whole_s whole_t =
      let h = plain i a at in
      let over = over_sides vars op s t (⊎_elim (λ e. subst (λ b. IsOver vars (term_of b)) e h.over) (λ e. subst (λ b. IsOver vars (term_of b)) e h.over) is) in
      let narrow = and_parts (has_literals_between (neg_ℤ (pos (2 ^ 80))) (pos (2 ^ 80)) s) (has_literals_between (neg_ℤ (pos (2 ^ 80))) (pos (2 ^ 80)) t) (⊎_elim (λ e. ap has_narrow_literals (sym e) ∙ h.literals) (λ e. ap has_narrow_literals (sym e) ∙ h.literals) is) in
      record { left = side_at vars v proper s whole_s over.0 narrow.0; right = side_at vars v proper t whole_t over.1 narrow.1 }

  row_between : (s t : PureTerm) (one : IsSideAt v s) (two : IsSideAt v t) (more : ℤ) (is_equal : Bool) → difference (side_of s) (side_of t) more is_equal ≡ difference (Some one.side) (Some two.side) more is_equal
  row_between s t one two more is_equal = λ i. difference (one.is i) (two.is i) more is_equal

  pub rows_are_met : (c : PureClasses) → c.list ≡ list → AreRowsMet c v
  rows_are_met c same i s t is whole_s whole_t =
      option_and_then_some equality_of (slice_get c.list i) (record { left = s; right = t }) is (λ a at said. from a (ap (λ l. slice_get l i) (sym same) ∙ at) (says a (record { left = s; right = t }) said)) where
        equal : (a : PureAtom) → slice_get list i ≡ Some a → a ≡ positive (equals s t) → value v s ≡ value v t
        equal a at form =
            let both = sides_at i a BinOp.Equal s t at (inl form) whole_s whole_t in
            let row : Row = record { plus = both.left.side.of; minus = both.right.side.of; constant = (both.left.side.plus -ℤ both.right.side.plus) +ℤ pos 0; is_equal = true } in
            let is_row : row_of a ≡ Some row = ap row_of form ∙ row_between s t both.left both.right (pos 0) true in
            let numbers = same_is both.left.number both.right.number (row_says v both.left.side both.right.side both.left.number both.right.number (pos 0) true row refl both.left.at both.right.at (row_met i a row at is_row)) in
            both.left.has ∙ ap (λ n. Some (integer n)) numbers ∙ sym both.right.has

        from : (a : PureAtom) → slice_get list i ≡ Some a → SaysEqual a (record { left = s; right = t }) ⊎ SaysTruth a (record { left = s; right = t }) → value v s ≡ value v t
        from a at (inl e) = equal a at e.is
        from a at (inr e) = absurd (false≢true (never ∙ whole_t)) where
          never : false ≡ is_integer_side t
          never = ap (λ (p : Sides). is_integer_side p.right) (sym e.are)

  -- orders are true
  pub order_true : (i : ℕ) (a : PureAtom) (t : PureTerm) → slice_get list i ≡ Some a → (a ≡ positive t) ⊎ (a ≡ negative t) → is_comparison t ≡ true → truth v a ≡ true
  order_true i a (binary_of BinOp.Less s t) at (inl is) h =
      let whole = and_parts (is_integer_side s) (is_integer_side t) h in
      let both = sides_at i a BinOp.Less s t at (inl is) whole.0 whole.1 in
      let row : Row = record { plus = both.left.side.of; minus = both.right.side.of; constant = (both.left.side.plus -ℤ both.right.side.plus) +ℤ pos 1; is_equal = false } in
      let numbers = row_says v both.left.side both.right.side both.left.number both.right.number (pos 1) false row refl both.left.at both.right.at (row_met i a row at (ap row_of is ∙ row_between s t both.left both.right (pos 1) false)) in
      ap (truth v) is ∙ ap (is_that_boolean true) (binary-value v BinOp.Less s t (integer both.left.number) (integer both.right.number) both.left.has both.right.has) ∙ less_is both.left.number both.right.number numbers
  order_true i a (binary_of BinOp.LessOrEqual s t) at (inl is) h =
      let whole = and_parts (is_integer_side s) (is_integer_side t) h in
      let both = sides_at i a BinOp.LessOrEqual s t at (inl is) whole.0 whole.1 in
      let row : Row = record { plus = both.left.side.of; minus = both.right.side.of; constant = (both.left.side.plus -ℤ both.right.side.plus) +ℤ pos 0; is_equal = false } in
      let numbers = row_says v both.left.side both.right.side both.left.number both.right.number (pos 0) false row refl both.left.at both.right.at (row_met i a row at (ap row_of is ∙ row_between s t both.left both.right (pos 0) false)) in
      ap (truth v) is ∙ ap (is_that_boolean true) (binary-value v BinOp.LessOrEqual s t (integer both.left.number) (integer both.right.number) both.left.has both.right.has) ∙ at_most_is both.left.number both.right.number numbers
  order_true i a (binary_of BinOp.Less s t) at (inr is) h =
      let whole = and_parts (is_integer_side s) (is_integer_side t) h in
      let both = sides_at i a BinOp.Less s t at (inr is) whole.0 whole.1 in
      let row : Row = record { plus = both.right.side.of; minus = both.left.side.of; constant = (both.right.side.plus -ℤ both.left.side.plus) +ℤ pos 0; is_equal = false } in
      let numbers = row_says v both.right.side both.left.side both.right.number both.left.number (pos 0) false row refl both.right.at both.left.at (row_met i a row at (ap row_of is ∙ row_between t s both.right both.left (pos 0) false)) in
      ap (truth v) is ∙ ap (is_that_boolean false) (binary-value v BinOp.Less s t (integer both.left.number) (integer both.right.number) both.left.has both.right.has) ∙ ap (λ b. is_that_boolean false (Some (boolean b))) (not_less_is both.left.number both.right.number numbers)
  order_true i a (binary_of BinOp.LessOrEqual s t) at (inr is) h =
      let whole = and_parts (is_integer_side s) (is_integer_side t) h in
      let both = sides_at i a BinOp.LessOrEqual s t at (inr is) whole.0 whole.1 in
      let row : Row = record { plus = both.right.side.of; minus = both.left.side.of; constant = (both.right.side.plus -ℤ both.left.side.plus) +ℤ pos 1; is_equal = false } in
      let numbers = row_says v both.right.side both.left.side both.right.number both.left.number (pos 1) false row refl both.right.at both.left.at (row_met i a row at (ap row_of is ∙ row_between t s both.right both.left (pos 1) false)) in
      ap (truth v) is ∙ ap (is_that_boolean false) (binary-value v BinOp.LessOrEqual s t (integer both.left.number) (integer both.right.number) both.left.has both.right.has) ∙ ap (λ b. is_that_boolean false (Some (boolean b))) (not_at_most_is both.left.number both.right.number numbers)
  order_true i a (binary_of op s t) at is h = absurd (false≢true h)
  order_true i a t at is h = absurd (false≢true h)
