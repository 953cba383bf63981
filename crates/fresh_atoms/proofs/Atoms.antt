-- Atoms of the fragment that name a fresh variable have one truth.
use Rattle.std.proofs.Common.{◌≡◌, ◌⊎◌, ⊎_elim, inl, inr, ℕ, ◌<◌, List, ◌++◌, Bool, true, false, not, ◌&&◌, ◌||◌, Option, Some, slice_get, refl, sym, ap, subst, ◌∙◌, true≢false}
use Rattle.std.specs.Option.{option_and_then}
use Rattle.std.specs.Result.{result_ok}
use Rattle.std.specs.List.{list_all}
use Rattle.std.proofs.lemmas.Bool.{false≢true, and_parts, or_cases, or_parts, or_from, not-true}
use Rattle.gil_values.specs.declared.kinds.Kind.{Kind}
use Rattle.gil_values.specs.declared.operators.UnOp.{UnOp}
use Rattle.gil_values.specs.declared.operators.BinOp.{BinOp}
use Rattle.gil_values.specs.Equality.{same_value}
use Rattle.gil_values.specs.Operators.{binary}
use Rattle.gil_values.specs.Pure.{PureValue, boolean, symbol}
use Rattle.gil_values.specs.Symbols.{OccursIn}
use Rattle.pure_terms.specs.declared.variables.Sort.{Sort}
use Rattle.pure_terms.specs.declared.variables.Var.{Var}
use Rattle.pure_terms.specs.EqualityLaws.{same_sorts}
use Rattle.pure_terms.specs.Fragment.{is_integer_literal, is_variable_of, is_shift, is_simple, are_simple, names_sort, name_sort, is_flat, is_kind_of_any, is_kind_literal, is_kind_test, is_simple_equality, is_integer_side, is_order, is_comparison, has_form, any_is_a_side, is_fragment_term, has_fragment_form}
use Rattle.pure_terms.specs.Kinds.{same_sort, kind_of_sort, is_of_kind, known_kind}
use Rattle.pure_terms.specs.Meaning.{value, is_that_boolean, truth, IsProper, AreVariablesOf, IsOver}
use Rattle.pure_terms.specs.Pure.{PureTerm, literal, variable, list_of, unary_of, binary_of, PureTerms, no_terms, term_and, PureAtom, positive, negative, opening, term_of, variables, variables_of_all}
use Rattle.pure_terms.proofs.KindLaws.{over_left, over_right, over_variable}
use Rattle.pure_terms.proofs.SimpleLaws.{IsVariableOf, from_is_variable_of, from_is_integer_literal, variable-has_value}
use Rattle.fresh_atoms.specs.Laws.{is_any_or_list, FreshAtomsAreConstant}
use Rattle.fresh_atoms.proofs.Shapes.{IsNew, AreNew, shape, value-shape, shapes_alike}
use Rattle.fresh_atoms.proofs.Tables.{table_sort, given_before, number_at, fresh_symbol, fresh_differs, fresh_apart, differs_from_symbol, symbol_differs}

-- ---- forms that name no fresh variable

variable_of_no_fresh : (s : Sort) (t : PureTerm) → same_sort s Sort.Fresh ≡ false → IsVariableOf s t → names_sort Sort.Fresh t ≡ false
variable_of_no_fresh s t other (x, (is, sort)) = ap (names_sort Sort.Fresh) is ∙ ap (λ r. same_sort r Sort.Fresh) sort ∙ other

integer_no_fresh : (s : Sort) → is_of_kind (kind_of_sort s) Kind.Int ≡ true → same_sort s Sort.Fresh ≡ false
integer_no_fresh Sort.Int h = refl
integer_no_fresh Sort.Bool h = refl
integer_no_fresh Sort.Str h = refl
integer_no_fresh Sort.Sym h = refl
integer_no_fresh Sort.Fresh h = absurd (false≢true h)
integer_no_fresh Sort.List h = refl
integer_no_fresh Sort.Any h = refl

shift_no_fresh : (op : BinOp) (s t : PureTerm) → is_simple (binary_of op s t) ≡ true → names_sort Sort.Fresh (binary_of op s t) ≡ false
shift_no_fresh op s t simple =
    let first = and_parts (is_shift op) (is_variable_of Sort.Int s && is_integer_literal t) simple in
    let second = and_parts (is_variable_of Sort.Int s) (is_integer_literal t) first.1 in
    or_from (names_sort Sort.Fresh s) (names_sort Sort.Fresh t)
    (variable_of_no_fresh Sort.Int s refl (from_is_variable_of Sort.Int s second.0))
    (ap (names_sort Sort.Fresh) (from_is_integer_literal t second.1).1)

side_no_fresh : (t : PureTerm) → is_integer_side t ≡ true → names_sort Sort.Fresh t ≡ false
side_no_fresh (literal l) side = refl
side_no_fresh (variable x) side = integer_no_fresh x.sort (and_parts (is_simple (variable x)) (is_of_kind (known_kind (variable x)) Kind.Int) side).1
side_no_fresh (list_of ts) side = absurd (false≢true (and_parts (is_simple (list_of ts)) (is_of_kind (known_kind (list_of ts)) Kind.Int) side).1)
side_no_fresh (unary_of op t) side = absurd (false≢true (and_parts (is_simple (unary_of op t)) (is_of_kind (known_kind (unary_of op t)) Kind.Int) side).0)
side_no_fresh (binary_of op s t) side = shift_no_fresh op s t (and_parts (is_simple (binary_of op s t)) (is_of_kind (known_kind (binary_of op s t)) Kind.Int) side).0

comparison_no_fresh : (t : PureTerm) → is_comparison t ≡ true → names_sort Sort.Fresh t ≡ false
comparison_no_fresh (binary_of op s t) h =
    let first = and_parts (is_order op) (is_integer_side s && is_integer_side t) h in
    let sides = and_parts (is_integer_side s) (is_integer_side t) first.1 in
    or_from (names_sort Sort.Fresh s) (names_sort Sort.Fresh t) (side_no_fresh s sides.0) (side_no_fresh t sides.1)
comparison_no_fresh (literal l) h = absurd (false≢true h)
comparison_no_fresh (variable x) h = absurd (false≢true h)
comparison_no_fresh (list_of ts) h = absurd (false≢true h)
comparison_no_fresh (unary_of op t) h = absurd (false≢true h)

kind_of_any_no_fresh : (t : PureTerm) → is_kind_of_any t ≡ true → names_sort Sort.Fresh t ≡ false
kind_of_any_no_fresh (unary_of UnOp.Kind t) h = variable_of_no_fresh Sort.Any t refl (from_is_variable_of Sort.Any t h)
kind_of_any_no_fresh t h = absurd (false≢true h)

kind_literal_no_fresh : (t : PureTerm) → is_kind_literal t ≡ true → names_sort Sort.Fresh t ≡ false
kind_literal_no_fresh (literal l) h = refl
kind_literal_no_fresh (variable x) h = absurd (false≢true h)
kind_literal_no_fresh (list_of ts) h = absurd (false≢true h)
kind_literal_no_fresh (unary_of op t) h = absurd (false≢true h)
kind_literal_no_fresh (binary_of op s t) h = absurd (false≢true h)

kind_test_no_fresh : (t : PureTerm) → is_kind_test t ≡ true → names_sort Sort.Fresh t ≡ false
kind_test_no_fresh (binary_of BinOp.Equal s t) h =
    let parts = and_parts (is_kind_of_any s) (is_kind_literal t) h in
    or_from (names_sort Sort.Fresh s) (names_sort Sort.Fresh t) (kind_of_any_no_fresh s parts.0) (kind_literal_no_fresh t parts.1)
kind_test_no_fresh t h = absurd (false≢true h)

-- a flat term that names a fresh variable is one
flat_fresh : (t : PureTerm) → is_flat t ≡ true → names_sort Sort.Fresh t ≡ true → IsVariableOf Sort.Fresh t
flat_fresh (literal l) flat names = absurd (false≢true names)
flat_fresh (variable x) flat names = (x, (refl, same_sorts x.sort Sort.Fresh names))
flat_fresh (list_of ts) flat names = absurd (false≢true flat)
flat_fresh (unary_of op t) flat names = absurd (false≢true flat)
flat_fresh (binary_of op s t) flat names = absurd (false≢true flat)

-- ---- terms over the table

given_sort : (s : Sort) → is_any_or_list s ≡ true → same_sort s Sort.List ≡ false → s ≡ Sort.Any
given_sort Sort.Any broad no_list = refl
given_sort Sort.List broad no_list = absurd (true≢false no_list)
given_sort s broad no_list = absurd (false≢true broad)

-- the test of an equality
test_of : (a b : Option PureValue) (u w : PureValue) → a ≡ Some u → b ≡ Some w → option_and_then (λ x. option_and_then (λ y. result_ok (binary BinOp.Equal x y)) b) a ≡ Some (boolean (same_value u w))
test_of a b u w left right = rw (left, right) refl

module _ (given new : List Sort) (all_given : list_all is_any_or_list given ≡ true) (all_new : list_all (same_sort Sort.Fresh) new ≡ true) where
  -- the variable is fresh in the table, or of sort any
  variable_sort : (x : Var) → IsOver (given ++ new) (variable x) → same_sort x.sort Sort.List ≡ false → IsNew (given ++ new) (variable x) ⊎ (x.sort ≡ Sort.Any)
  variable_sort x over no_list =
      let at = over_variable (given ++ new) x over in
      ⊎_elim (λ broad. inr (given_sort x.sort broad no_list)) (λ fresh. inl (at ∙ ap Some fresh)) (table_sort given new x.number x.sort all_given all_new at)

  no_integer : {G : Type 0} (t : PureTerm) → IsOver (given ++ new) t → IsVariableOf Sort.Int t → G
  no_integer t over (x, (is, sort)) =
      let over_x : IsOver (given ++ new) (variable x) = subst (IsOver (given ++ new)) is over in
      absurd (⊎_elim (λ broad. false≢true (ap is_any_or_list (sym sort) ∙ broad)) (λ fresh. true≢false (ap (λ s. same_sort s Sort.Int) (sym sort ∙ fresh)))
      (table_sort given new x.number x.sort all_given all_new (over_variable (given ++ new) x over_x)))

  mutual
    new_term : (t : PureTerm) → is_simple t ≡ true → IsOver (given ++ new) t → names_sort Sort.Any t ≡ false → names_sort Sort.List t ≡ false → IsNew (given ++ new) t
    new_term (literal l) simple over no_any no_list = tt
    new_term (variable x) simple over no_any no_list = ⊎_elim (λ fresh. fresh) (λ any. absurd (true≢false (sym (ap (λ s. same_sort s Sort.Any) any) ∙ no_any))) (variable_sort x over no_list)
    new_term (list_of ts) simple over no_any no_list = new_terms ts simple over no_any no_list
    new_term (unary_of op t) simple over no_any no_list = absurd (false≢true simple)
    new_term (binary_of op s t) simple over no_any no_list =
        let first = and_parts (is_shift op) (is_variable_of Sort.Int s && is_integer_literal t) simple in
        let second = and_parts (is_variable_of Sort.Int s) (is_integer_literal t) first.1 in
        no_integer s (over_left (given ++ new) (variables s) (variables t) over) (from_is_variable_of Sort.Int s second.0)

    new_terms : (ts : PureTerms) → are_simple ts ≡ true → AreVariablesOf (given ++ new) (variables_of_all ts) → name_sort Sort.Any ts ≡ false → name_sort Sort.List ts ≡ false → AreNew (given ++ new) ts
    new_terms no_terms simple over no_any no_list = tt
    new_terms (term_and t ts) simple over no_any no_list =
        let parts = and_parts (is_simple t) (are_simple ts) simple in
        let any_parts = or_parts (names_sort Sort.Any t) (name_sort Sort.Any ts) no_any in
        let list_parts = or_parts (names_sort Sort.List t) (name_sort Sort.List ts) no_list in (
          new_term t parts.0 (over_left (given ++ new) (variables t) (variables_of_all ts) over) any_parts.0 list_parts.0,
          new_terms ts parts.1 (over_right (given ++ new) (variables t) (variables_of_all ts) over) any_parts.1 list_parts.1,
        )

  -- a flat term is of a new kind, or a variable of sort any
  flat_form : (t : PureTerm) → is_flat t ≡ true → IsOver (given ++ new) t → names_sort Sort.List t ≡ false → IsNew (given ++ new) t ⊎ IsVariableOf Sort.Any t
  flat_form (literal l) flat over no_list = inl tt
  flat_form (variable x) flat over no_list = ⊎_elim (λ fresh. inl fresh) (λ any. inr (x, (refl, any))) (variable_sort x over no_list)
  flat_form (list_of ts) flat over no_list = absurd (false≢true flat)
  flat_form (unary_of op t) flat over no_list = absurd (false≢true flat)
  flat_form (binary_of op s t) flat over no_list = absurd (false≢true flat)

  -- ---- equalities

  -- a variable of sort any and a fresh one, which stands after it
  module _ (v : List PureValue) (proper : IsProper (given ++ new) v) where
    -- the value of the first, in which the symbol of the second doesn't occur
    abbrev Apart : PureTerm → PureTerm → Type 0
    Apart s t = (u : PureValue) × ((n : ℕ) × ((value v s ≡ Some u) × ((value v t ≡ Some (symbol n)) × ¬ OccursIn n u)))

    apart : (s t : PureTerm) → IsOver (given ++ new) s → IsOver (given ++ new) t → IsVariableOf Sort.Any s → IsVariableOf Sort.Fresh t → Apart s t
    apart s t over_s over_t (x, (is_x, any)) (y, (is_y, fresh)) =
        let over_x : IsOver (given ++ new) (variable x) = subst (IsOver (given ++ new)) is_x over_s in
        let over_y : IsOver (given ++ new) (variable y) = subst (IsOver (given ++ new)) is_y over_t in
        let at_y : slice_get (given ++ new) y.number ≡ Some Sort.Fresh = over_variable (given ++ new) y over_y ∙ ap Some fresh in
        let before : x.number < y.number = given_before given new x.number y.number x.sort all_given all_new (over_variable (given ++ new) x over_x) (ap is_any_or_list any) at_y in
        let (u, is_u) = variable-has_value (given ++ new) v x proper over_x in (
          u,
          (
            number_at v y.number,
            (
              ap (value v) is_x ∙ is_u,
              (
                ap (value v) is_y ∙ fresh_symbol (given ++ new) v proper y.number at_y,
                fresh_differs (given ++ new) v proper y.number x.number u before at_y is_u,
              ),
            ),
          ),
        )

    any_then_fresh : (s t : PureTerm) → Apart s t → value v (binary_of BinOp.Equal s t) ≡ Some (boolean false)
    any_then_fresh s t (u, (n, (left, (right, none)))) = test_of (value v s) (value v t) u (symbol n) left right ∙ ap (λ b. Some (boolean b)) (differs_from_symbol u n none)

    fresh_then_any : (s t : PureTerm) → Apart t s → value v (binary_of BinOp.Equal s t) ≡ Some (boolean false)
    fresh_then_any s t (u, (n, (right, (left, none)))) = test_of (value v s) (value v t) (symbol n) u left right ∙ ap (λ b. Some (boolean b)) (symbol_differs u n none)

  module _ (v w : List PureValue) (proper_v : IsProper (given ++ new) v) (proper_w : IsProper (given ++ new) w) where
    -- the two valuations give the term one value
    abbrev IsConstant : PureTerm → Type 0
    IsConstant t = value v t ≡ value w t

    new_constant : (s t : PureTerm) → IsNew (given ++ new) s → IsNew (given ++ new) t → IsConstant (binary_of BinOp.Equal s t)
    new_constant s t new_s new_t =
        let named_v = fresh_symbol (given ++ new) v proper_v in
        let named_w = fresh_symbol (given ++ new) w proper_w in
        let alike = shapes_alike (given ++ new) (number_at v) (number_at w) (λ x y fresh_x fresh_y. fresh_apart (given ++ new) v proper_v x y fresh_x fresh_y ∙ sym (fresh_apart (given ++ new) w proper_w x y fresh_x fresh_y)) s t new_s new_t in
        test_of (value v s) (value v t) (shape (number_at v) s) (shape (number_at v) t) (value-shape (given ++ new) v (number_at v) named_v s new_s) (value-shape (given ++ new) v (number_at v) named_v t new_t)
        ∙ ap (λ b. Some (boolean b)) alike
        ∙ sym (test_of (value w s) (value w t) (shape (number_at w) s) (shape (number_at w) t) (value-shape (given ++ new) w (number_at w) named_w s new_s) (value-shape (given ++ new) w (number_at w) named_w t new_t))

    -- a fresh variable is named, and not by the side of sort any
    other_names : (b c : Bool) → (b || c) ≡ true → b ≡ false → c ≡ true
    other_names true c names none = absurd (true≢false none)
    other_names false c names none = names

    flat_constant : (s t : PureTerm) → is_flat s ≡ true → is_flat t ≡ true → IsOver (given ++ new) s → IsOver (given ++ new) t → names_sort Sort.List s ≡ false → names_sort Sort.List t ≡ false
        → (names_sort Sort.Fresh s || names_sort Sort.Fresh t) ≡ true → IsConstant (binary_of BinOp.Equal s t)
    flat_constant s t flat_s flat_t over_s over_t list_s list_t names = by (flat_form s flat_s over_s list_s) (flat_form t flat_t over_t list_t)
      where
        no_fresh : (u : PureTerm) → IsVariableOf Sort.Any u → names_sort Sort.Fresh u ≡ false
        no_fresh u any = variable_of_no_fresh Sort.Any u refl any

        by : IsNew (given ++ new) s ⊎ IsVariableOf Sort.Any s → IsNew (given ++ new) t ⊎ IsVariableOf Sort.Any t → IsConstant (binary_of BinOp.Equal s t)
        by (inl new_s) (inl new_t) = new_constant s t new_s new_t
        by (inr any_s) (inl new_t) =
            let fresh_t = flat_fresh t flat_t (other_names (names_sort Sort.Fresh s) (names_sort Sort.Fresh t) names (no_fresh s any_s)) in
            any_then_fresh v proper_v s t (apart v proper_v s t over_s over_t any_s fresh_t) ∙ sym (any_then_fresh w proper_w s t (apart w proper_w s t over_s over_t any_s fresh_t))
        by (inl new_s) (inr any_t) =
            let fresh_s = flat_fresh s flat_s (⊎_elim (λ here. here) (λ there. absurd (true≢false (sym there ∙ no_fresh t any_t))) (or_cases (names_sort Sort.Fresh s) (names_sort Sort.Fresh t) names)) in
            fresh_then_any v proper_v s t (apart v proper_v t s over_t over_s any_t fresh_s) ∙ sym (fresh_then_any w proper_w s t (apart w proper_w t s over_t over_s any_t fresh_s))
        by (inr any_s) (inr any_t) = absurd (true≢false (sym names ∙ or_from (names_sort Sort.Fresh s) (names_sort Sort.Fresh t) (no_fresh s any_s) (no_fresh t any_t)))

    plain_constant : (s t : PureTerm) → is_simple s ≡ true → is_simple t ≡ true → IsOver (given ++ new) s → IsOver (given ++ new) t → names_sort Sort.List s ≡ false → names_sort Sort.List t ≡ false
        → names_sort Sort.Any s ≡ false → names_sort Sort.Any t ≡ false → IsConstant (binary_of BinOp.Equal s t)
    plain_constant s t simple_s simple_t over_s over_t list_s list_t any_s any_t =
        new_constant s t (new_term s simple_s over_s any_s list_s) (new_term t simple_t over_t any_t list_t)

    equality_constant : (t : PureTerm) → is_simple_equality t ≡ true → IsOver (given ++ new) t → names_sort Sort.List t ≡ false → any_is_a_side t ≡ true → names_sort Sort.Fresh t ≡ true → IsConstant t
    equality_constant (binary_of BinOp.Equal s t) h over no_list side names =
        let simple = and_parts (is_simple s) (is_simple t) h in
        let over_s = over_left (given ++ new) (variables s) (variables t) over in
        let over_t = over_right (given ++ new) (variables s) (variables t) over in
        let lists = or_parts (names_sort Sort.List s) (names_sort Sort.List t) no_list in
        ⊎_elim
        (λ both_flat. let flat = and_parts (is_flat s) (is_flat t) both_flat in flat_constant s t flat.0 flat.1 over_s over_t lists.0 lists.1 names)
        (λ none_any.
        let anys = and_parts (not (names_sort Sort.Any s)) (not (names_sort Sort.Any t)) none_any in
        plain_constant s t simple.0 simple.1 over_s over_t lists.0 lists.1 (not-true (names_sort Sort.Any s) anys.0) (not-true (names_sort Sort.Any t) anys.1))
        (or_cases (is_flat s && is_flat t) (not (names_sort Sort.Any s) && not (names_sort Sort.Any t)) side)
    equality_constant t h over no_list side names = absurd (false≢true h)

    -- ---- atoms

    -- a form that names no fresh variable isn't that of the term
    names_one : {G : Type 0} (t : PureTerm) → names_sort Sort.Fresh t ≡ true → names_sort Sort.Fresh t ≡ false → G
    names_one t names none = absurd (true≢false (sym names ∙ none))

    form_constant : (t : PureTerm) → has_form t ≡ true → IsOver (given ++ new) t → names_sort Sort.List t ≡ false → any_is_a_side t ≡ true → names_sort Sort.Fresh t ≡ true → IsConstant t
    form_constant t form over no_list side names =
        ⊎_elim (λ is. names_one t names (variable_of_no_fresh Sort.Bool t refl (from_is_variable_of Sort.Bool t is)))
        (λ rest. ⊎_elim (λ is. equality_constant t is over no_list side names)
        (λ more. ⊎_elim (λ is. names_one t names (comparison_no_fresh t is)) (λ is. names_one t names (kind_test_no_fresh t is))
        (or_cases (is_comparison t) (is_kind_test t) more))
        (or_cases (is_simple_equality t) (is_comparison t || is_kind_test t) rest))
        (or_cases (is_variable_of Sort.Bool t) (is_simple_equality t || (is_comparison t || is_kind_test t)) form)

    fragment_constant : (t : PureTerm) → is_fragment_term t ≡ true → IsOver (given ++ new) t → names_sort Sort.Fresh t ≡ true → IsConstant t
    fragment_constant t fragment over names =
        let first = and_parts (has_form t) (not (names_sort Sort.List t) && (is_kind_test t || any_is_a_side t)) fragment in
        let second = and_parts (not (names_sort Sort.List t)) (is_kind_test t || any_is_a_side t) first.1 in
        ⊎_elim (λ is. names_one t names (kind_test_no_fresh t is)) (λ side. form_constant t first.0 over (not-true (names_sort Sort.List t) second.0) side names)
        (or_cases (is_kind_test t) (any_is_a_side t) second.1)

    atom_constant : (a : PureAtom) → has_fragment_form a ≡ true → IsOver (given ++ new) (term_of a) → names_sort Sort.Fresh (term_of a) ≡ true → truth v a ≡ truth w a
    atom_constant (positive t) form over names = ap (is_that_boolean true) (fragment_constant t form over names)
    atom_constant (negative t) form over names = ap (is_that_boolean false) (fragment_constant t form over names)
    atom_constant (opening t) form over names = absurd (false≢true form)

pub fresh_atoms_are_constant : FreshAtomsAreConstant
fresh_atoms_are_constant given new a v w all_given all_new over form names proper_v proper_w =
    atom_constant given new all_given all_new v w proper_v proper_w a form over names
