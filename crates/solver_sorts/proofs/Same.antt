-- Terms over a sorted table have the same values, and the lists the same solutions.
use Rattle.std.proofs.Common.{◌≡◌, ⊎_elim, ℕ, zero, suc, ◌<◌, List, [], ◌∷◌, length, true, false, ◌&&◌, Option, Some, None, slice_get, refl, sym, ap, ◌∙◌, subst, arith}
use Rattle.std.specs.Option.{is_some, option_map, option_and_then}
use Rattle.std.specs.Result.{result_ok}
use Rattle.std.proofs.lemmas.Bool.{and_parts}
use Rattle.std.proofs.lemmas.Option.{same_Some, slice_get_within}
use Rattle.gil_values.specs.declared.kinds.Kind.{Kind}
use Rattle.gil_values.specs.declared.operators.UnOp.{UnOp}
use Rattle.gil_values.specs.declared.operators.BinOp.{BinOp}
use Rattle.gil_values.specs.Equality.{same_kind}
use Rattle.gil_values.specs.Operators.{unary, binary}
use Rattle.gil_values.specs.Pure.{PureValue, kind, list, from_list, kind_of}
use Rattle.pure_terms.specs.declared.variables.Sort.{Sort}
use Rattle.pure_terms.specs.declared.variables.Var.{Var}
use Rattle.pure_terms.specs.Kinds.{kind_of_sort, has_sort}
use Rattle.pure_terms.specs.Meaning.{both, value, values, truth, all_true, is_that_boolean, IsProper, IsOver, AreVariablesOf, AreOver, Satisfies}
use Rattle.pure_terms.specs.Pure.{PureTerm, literal, variable, list_of, unary_of, binary_of, PureTerms, no_terms, term_and, PureAtom, positive, negative, opening, term_of, variables, variables_of_all, variables_of_atoms}
use Rattle.pure_terms.proofs.KindLaws.{same_kinds, over_left, over_right, over_variable}
use Rattle.solver_proof.specs.Chains.{kind_is}
use Rattle.solver_sorts.specs.Laws.{SortedListsHaveTheSameSolutions, SortedListsAreOver}
use Rattle.solver_sorts.specs.Sorting.{sort_of_kind, IsSaid, IsSortedTable, told_kind, sorted_unary, sorted_term, sorted_terms, sorted_atom, sorted_atoms}
use Rattle.solver_sorts.proofs.Over.{at_place, term_over, atoms_over}

kind-reflexive : (k : Kind) → same_kind k k ≡ true
kind-reflexive Kind.Int = refl
kind-reflexive Kind.Bool = refl
kind-reflexive Kind.Str = refl
kind-reflexive Kind.Sym = refl
kind-reflexive Kind.Kind = refl
kind-reflexive Kind.Proc = refl
kind-reflexive Kind.List = refl
kind-reflexive Kind.Undef = refl
kind-reflexive Kind.Null = refl

same_kind-along : (k l : Kind) → k ≡ l → same_kind k l ≡ true
same_kind-along k l e = subst (λ m. same_kind k m ≡ true) e (kind-reflexive k)

-- the kind of a sort is that of its values
kind-told : (s : Sort) (k : Kind) (w : PureValue) → kind_of_sort s ≡ Some k → has_sort s w ≡ true → k ≡ kind_of w
kind-told Sort.Int k w is has = sym (same_Some Kind.Int k is) ∙ same_kinds Kind.Int (kind_of w) has
kind-told Sort.Bool k w is has = sym (same_Some Kind.Bool k is) ∙ same_kinds Kind.Bool (kind_of w) has
kind-told Sort.Str k w is has = sym (same_Some Kind.Str k is) ∙ same_kinds Kind.Str (kind_of w) has
kind-told Sort.Sym k w is has = sym (same_Some Kind.Sym k is) ∙ same_kinds Kind.Sym (kind_of w) has
kind-told Sort.Fresh k w is has = sym (same_Some Kind.Sym k is) ∙ same_kinds Kind.Sym (kind_of w) has
kind-told Sort.List k w is has = sym (same_Some Kind.List k is) ∙ same_kinds Kind.List (kind_of w) has
kind-told Sort.Any k w is has = cc

-- a value of the kind is one of the sort
sort-of-kind : (k : Kind) (s : Sort) (w : PureValue) → sort_of_kind k ≡ Some s → kind_of w ≡ k → has_sort s w ≡ true
sort-of-kind Kind.Int s w is of = subst (λ t. has_sort t w ≡ true) (same_Some Sort.Int s is) (same_kind-along Kind.Int (kind_of w) (sym of))
sort-of-kind Kind.Bool s w is of = subst (λ t. has_sort t w ≡ true) (same_Some Sort.Bool s is) (same_kind-along Kind.Bool (kind_of w) (sym of))
sort-of-kind Kind.Str s w is of = subst (λ t. has_sort t w ≡ true) (same_Some Sort.Str s is) (same_kind-along Kind.Str (kind_of w) (sym of))
sort-of-kind Kind.Sym s w is of = subst (λ t. has_sort t w ≡ true) (same_Some Sort.Sym s is) (same_kind-along Kind.Sym (kind_of w) (sym of))
sort-of-kind Kind.Kind s w is of = cc
sort-of-kind Kind.Proc s w is of = cc
sort-of-kind Kind.List s w is of = cc
sort-of-kind Kind.Undef s w is of = cc
sort-of-kind Kind.Null s w is of = cc

never_fresh : (k : Kind) → sort_of_kind k ≡ Some Sort.Fresh → ⊥
never_fresh Kind.Int is = cc
never_fresh Kind.Bool is = cc
never_fresh Kind.Str is = cc
never_fresh Kind.Sym is = cc
never_fresh Kind.Kind is = cc
never_fresh Kind.Proc is = cc
never_fresh Kind.List is = cc
never_fresh Kind.Undef is = cc
never_fresh Kind.Null is = cc

-- ---- values

module _ (sorted : List Sort) (v : List PureValue) (proper : IsProper sorted v) where
  kind_read : (x : Var) (k : Kind) (o : Option PureValue) → slice_get sorted x.number ≡ Some x.sort → kind_of_sort x.sort ≡ Some k → slice_get v x.number ≡ o → x.number < length v
      → Some (kind k) ≡ option_and_then (λ a. result_ok (unary UnOp.Kind a)) o
  kind_read x k (Some w) at is has within = ap (λ l. Some (kind l)) (kind-told x.sort k w is (proper.sorts x.number x.sort w at has))
  kind_read x k None at is has within = let found = at_place v x.number within in absurd (cc' found.0 (sym found.1 ∙ has)) where
    cc' : (w : PureValue) → Some w ≡ None → ⊥
    cc' w e = cc

  told_same : (x : Var) (k : Option Kind) → slice_get sorted x.number ≡ Some x.sort → kind_of_sort x.sort ≡ k → value v (told_kind k (variable x)) ≡ option_and_then (λ a. result_ok (unary UnOp.Kind a)) (slice_get v x.number)
  told_same x (Some k) at is =
      let within : x.number < length sorted = slice_get_within sorted x.number x.sort at in
      let long = proper.one_each in
      kind_read x k (slice_get v x.number) at is refl (omega (arith, within, long))
  told_same x None at is = refl

  unary_same : (op : UnOp) (t : PureTerm) → IsOver sorted t → value v (sorted_unary op t) ≡ option_and_then (λ a. result_ok (unary op a)) (value v t)
  unary_same UnOp.Kind (variable x) over = told_same x (kind_of_sort x.sort) (over_variable sorted x over) refl
  unary_same UnOp.Kind (literal l) over = refl
  unary_same UnOp.Kind (list_of ts) over = refl
  unary_same UnOp.Kind (unary_of op t) over = refl
  unary_same UnOp.Kind (binary_of op s t) over = refl
  unary_same UnOp.Not t over = refl
  unary_same UnOp.Neg t over = refl
  unary_same UnOp.Len t over = refl

  module _ (vars : List Sort) (one_each : length sorted ≡ length vars) where
    mutual
      value_same : (t : PureTerm) → IsOver vars t → value v (sorted_term sorted t) ≡ value v t
      value_same (literal l) over = refl
      value_same (variable x) over = refl
      value_same (list_of ts) over = ap (option_map (λ ws. list (from_list ws))) (values_same ts over)
      value_same (unary_of op t) over =
          unary_same op (sorted_term sorted t) (term_over vars sorted one_each t over) ∙ ap (option_and_then (λ a. result_ok (unary op a))) (value_same t over)
      value_same (binary_of op s t) over =
          let left = value_same s (over_left vars (variables s) (variables t) over) in
          let right = value_same t (over_right vars (variables s) (variables t) over) in
          λ i. option_and_then (λ a. option_and_then (λ b. result_ok (binary op a b)) (right i)) (left i)

      values_same : (ts : PureTerms) → AreVariablesOf vars (variables_of_all ts) → values v (sorted_terms sorted ts) ≡ values v ts
      values_same no_terms over = refl
      values_same (term_and t ts) over =
          let first = value_same t (over_left vars (variables t) (variables_of_all ts) over) in
          let rest = values_same ts (over_right vars (variables t) (variables_of_all ts) over) in
          λ i. both (first i) (rest i)

    truth_same : (a : PureAtom) → IsOver vars (term_of a) → truth v (sorted_atom sorted a) ≡ truth v a
    truth_same (positive t) over = ap (is_that_boolean true) (value_same t over)
    truth_same (negative t) over = ap (is_that_boolean false) (value_same t over)
    truth_same (opening t) over = ap is_some (value_same t over)

    pub truths_same : (atoms : List PureAtom) → AreOver vars atoms → all_true v (sorted_atoms sorted atoms) ≡ all_true v atoms
    truths_same [] over = refl
    truths_same (a ∷ atoms) over =
        let first = truth_same a (over_left vars (variables (term_of a)) (variables_of_atoms atoms) over) in
        let rest = truths_same atoms (over_right vars (variables (term_of a)) (variables_of_atoms atoms) over) in
        λ i. first i && rest i

-- ---- proper valuations

true_at : (v : List PureValue) (atoms : List PureAtom) (i : ℕ) (a : PureAtom) → all_true v atoms ≡ true → slice_get atoms i ≡ Some a → truth v a ≡ true
true_at v [] i a all at = cc
true_at v (b ∷ atoms) zero a all at = subst (λ c. truth v c ≡ true) (same_Some b a at) (and_parts (truth v b) (all_true v atoms) all).0
true_at v (b ∷ atoms) (suc i) a all at = true_at v atoms i a (and_parts (truth v b) (all_true v atoms) all).1 at

-- the kind that is said of a variable is that of its value
kind_found : (x : Var) (k : Kind) (v : List PureValue) (w : PureValue) → truth v (positive (kind_is (variable x) k)) ≡ true → slice_get v x.number ≡ Some w → kind_of w ≡ k
kind_found x k v w is at = same_kinds (kind_of w) k (subst (λ (o : Option PureValue). is_that_boolean true (option_and_then (λ a. option_and_then (λ b. result_ok (binary BinOp.Equal a b)) (Some (kind k))) (option_and_then (λ a. result_ok (unary UnOp.Kind a)) o)) ≡ true) at is)

module _ (vars sorted : List Sort) (atoms : List PureAtom) (over : AreOver vars atoms) (table : IsSortedTable vars atoms sorted) (v : List PureValue) where
  sorted_at : (x : ℕ) (s : Sort) → slice_get vars x ≡ Some s → (t : Sort) × (slice_get sorted x ≡ Some t)
  sorted_at x s at =
      let within : x < length vars = slice_get_within vars x s at in
      let long = table.one_each in
      at_place sorted x (omega (arith, within, long))

  vars_at : (x : ℕ) (t : Sort) → slice_get sorted x ≡ Some t → (s : Sort) × (slice_get vars x ≡ Some s)
  vars_at x t at =
      let within : x < length sorted = slice_get_within sorted x t at in
      let long = table.one_each in
      at_place vars x (omega (arith, within, long))

  said_right : all_true v atoms ≡ true → (x : ℕ) (t : Sort) (w : PureValue) → IsSaid atoms x t → slice_get v x ≡ Some w → has_sort t w ≡ true
  said_right all x t w said at =
      let says = said.says in
      let is : truth v (positive (kind_is (variable (record { number = x; sort = Sort.Any })) says.kind)) ≡ true = subst (λ a. truth v a ≡ true) says.is (true_at v atoms said.place said.atom all said.at) in
      sort-of-kind says.kind t w says.sort (kind_found (record { number = x; sort = Sort.Any }) says.kind v w is at)

  sorts_kept : IsProper vars v → all_true v atoms ≡ true → (x : ℕ) (t : Sort) (w : PureValue) → slice_get sorted x ≡ Some t → slice_get v x ≡ Some w → has_sort t w ≡ true
  sorts_kept proper all x t w at has =
      let was = vars_at x t at in
      ⊎_elim (λ same. subst (λ u. has_sort u w ≡ true) (sym same) (proper.sorts x was.0 w was.1 has)) (λ any. said_right all x t w any.1 has) (table.each x was.0 t was.1 at)

  fresh_before : (x : ℕ) → slice_get sorted x ≡ Some Sort.Fresh → slice_get vars x ≡ Some Sort.Fresh
  fresh_before x at =
      let was = vars_at x Sort.Fresh at in
      ⊎_elim (λ same. was.1 ∙ ap Some (sym same)) (λ any. absurd (never_fresh any.1.says.kind any.1.says.sort)) (table.each x was.0 Sort.Fresh was.1 at)

  pub proper_sorted : IsProper vars v → all_true v atoms ≡ true → IsProper sorted v
  proper_sorted proper all = record {
    one_each = proper.one_each ∙ sym table.one_each;
    sorts = sorts_kept proper all;
    fresh = λ x y n w at is below has. proper.fresh x y n w (fresh_before x at) is below has;
  }

  sorts_before : IsProper sorted v → (x : ℕ) (s : Sort) (w : PureValue) → slice_get vars x ≡ Some s → slice_get v x ≡ Some w → has_sort s w ≡ true
  sorts_before proper x s w at has =
      let now = sorted_at x s at in
      ⊎_elim (λ same. subst (λ u. has_sort u w ≡ true) same (proper.sorts x now.0 w now.1 has)) (λ any. subst (λ u. has_sort u w ≡ true) (sym any.0) refl) (table.each x s now.0 at now.1)

  not_fresh : Sort.Fresh ≡ Sort.Any → ⊥
  not_fresh e = cc

  fresh_sorted : (x : ℕ) → slice_get vars x ≡ Some Sort.Fresh → slice_get sorted x ≡ Some Sort.Fresh
  fresh_sorted x at =
      let now = sorted_at x Sort.Fresh at in
      ⊎_elim (λ same. now.1 ∙ ap Some same) (λ any. absurd (not_fresh any.0)) (table.each x Sort.Fresh now.0 at now.1)

  pub proper_before : IsProper sorted v → IsProper vars v
  proper_before proper = record {
    one_each = proper.one_each ∙ table.one_each;
    sorts = sorts_before proper;
    fresh = λ x y n w at is below has. proper.fresh x y n w (fresh_sorted x at) is below has;
  }

  pub met_sorted : Satisfies vars v atoms → Satisfies sorted v (sorted_atoms sorted atoms)
  met_sorted met =
      let proper = proper_sorted met.proper met.true_there in
      record { proper = proper; true_there = truths_same sorted v proper vars table.one_each atoms over ∙ met.true_there }

  pub met_before : Satisfies sorted v (sorted_atoms sorted atoms) → Satisfies vars v atoms
  met_before met = record { proper = proper_before met.proper; true_there = sym (truths_same sorted v met.proper vars table.one_each atoms over) ∙ met.true_there }

pub same_solutions : SortedListsHaveTheSameSolutions
same_solutions vars sorted atoms over table v = (met_sorted vars sorted atoms over table v, met_before vars sorted atoms over table v)

pub sorted_over : SortedListsAreOver
sorted_over vars sorted atoms over table = atoms_over vars sorted table.one_each atoms over
