-- Each table has a proper valuation, under which a narrow store stands for some store.
use Rattle.std.proofs.Common.{◌≡◌, ⊎_elim, ℕ, zero, suc, ◌+◌, pos, List, [], ◌∷◌, length, slice_get, Bool, true, false, if◌then◌else◌, Option, Some, None, refl, sym, ap, subst, ◌∙◌, arith}
use Rattle.std.specs.List.{Contains}
use Rattle.std.specs.Option.{option_map}
use Rattle.std.specs.Str.{bytes_eq}
use Rattle.std.proofs.lemmas.List.Elements.{Contains-push_cases}
use Rattle.gil_values.specs.Pure.{PureValue, integer, boolean, text, symbol, list, no_values}
use Rattle.gil_values.specs.Symbols.{OccursIn}
use Rattle.gil_values.proofs.OperatorSymbols.{none_contained}
use Rattle.gil_syntax.specs.Evaluation.{Store, value_of}
use Rattle.pure_terms.specs.declared.variables.Sort.{Sort}
use Rattle.pure_terms.specs.Kinds.{has_sort}
use Rattle.pure_terms.specs.Meaning.{value, IsProper}
use Rattle.pure_terms.specs.Pure.{PureTerm}
use Rattle.pure_terms.proofs.SimpleLaws.{HasValue}
use Rattle.sym_evaluation.specs.Meaning.{AreSame, StandsFor}
use Rattle.sym_evaluation.specs.Pure.{PureStore, term_at}
use Rattle.sym_evaluation.proofs.Replacing.{some_mapped}
use Rattle.sym_model.proofs.ListLaws.{same_some, not_none}

-- ---- a valuation

-- the value of the variable with a number
abbrev some_value : ℕ → Sort → PureValue
some_value n Sort.Int = integer (pos 0)
some_value n Sort.Bool = boolean true
some_value n Sort.Str = text []
some_value n Sort.Sym = symbol n
some_value n Sort.Fresh = symbol n
some_value n Sort.List = list no_values
some_value n Sort.Any = boolean true

abbrev pub some_values : ℕ → List Sort → List PureValue
some_values n [] = []
some_values n (s ∷ sorts) = some_value n s ∷ some_values (suc n) sorts

as_many : (n : ℕ) (sorts : List Sort) → length (some_values n sorts) ≡ length sorts
as_many n [] = refl
as_many n (s ∷ sorts) = ap suc (as_many (suc n) sorts)

value_there : (n : ℕ) (sorts : List Sort) (i : ℕ) → slice_get (some_values n sorts) i ≡ option_map (some_value (n + i)) (slice_get sorts i)
value_there n [] i = refl
value_there n (s ∷ sorts) zero = let same : n ≡ n + 0 = omega arith in ap (λ m. Some (some_value m s)) same
value_there n (s ∷ sorts) (suc i) = let same : suc n + i ≡ n + suc i = omega arith in value_there (suc n) sorts i ∙ ap (λ m. option_map (some_value m) (slice_get sorts i)) same

at_place : (sorts : List Sort) (i : ℕ) (w : PureValue) → slice_get (some_values 0 sorts) i ≡ Some w → (s : Sort) × ((slice_get sorts i ≡ Some s) × (some_value i s ≡ w))
at_place sorts i w is =
    let same : i ≡ 0 + i = omega arith in
    some_mapped (some_value i) (slice_get sorts i) w (ap (λ m. option_map (some_value m) (slice_get sorts i)) same ∙ sym (value_there 0 sorts i) ∙ is)

of_its_sort : (n : ℕ) (s : Sort) → has_sort s (some_value n s) ≡ true
of_its_sort n Sort.Int = refl
of_its_sort n Sort.Bool = refl
of_its_sort n Sort.Str = refl
of_its_sort n Sort.Sym = refl
of_its_sort n Sort.Fresh = refl
of_its_sort n Sort.List = refl
of_its_sort n Sort.Any = refl

one_symbol : (n m : ℕ) → Contains (n ∷ []) m → n ≡ m
one_symbol n m has = ⊎_elim (λ none. absurd (none_contained m none)) (λ is. is) (Contains-push_cases [] n m has)

occurs : (n : ℕ) (s : Sort) (m : ℕ) → OccursIn m (some_value n s) → n ≡ m
occurs n Sort.Sym m has = one_symbol n m has
occurs n Sort.Fresh m has = one_symbol n m has
occurs n Sort.Int m has = absurd (none_contained m has)
occurs n Sort.Bool m has = absurd (none_contained m has)
occurs n Sort.Str m has = absurd (none_contained m has)
occurs n Sort.List m has = absurd (none_contained m has)
occurs n Sort.Any m has = absurd (none_contained m has)

pub some_proper : (sorts : List Sort) → IsProper sorts (some_values 0 sorts)
some_proper sorts = record {
  one_each = as_many 0 sorts;
  sorts = λ x s w in_table at.
      let (found, (there, is)) = at_place sorts x w at in
      let same : found ≡ s = same_some (sym there ∙ in_table) in
      subst (λ u. has_sort s u ≡ true) is (subst (λ t. has_sort t (some_value x found) ≡ true) same (of_its_sort x found));
  fresh = λ x y n w in_table at less at_y has.
      let (found, (there, is)) = at_place sorts x (symbol n) at in
      let (other, (there_too, is_other)) = at_place sorts y w at_y in
      let first : x ≡ n = occurs x found n (subst (OccursIn n) (sym is) (zero, omega arith, refl)) in
      let second : y ≡ n = occurs y other n (subst (OccursIn n) (sym is_other) has) in
      absurd (omega (arith, less, first, second));
}

-- ---- a store

module _ (v : List PureValue) where
  abbrev value_or : Option PureValue → PureValue
  value_or None = boolean true
  value_or (Some w) = w

  abbrev pub valued : PureStore → Store
  valued [] = []
  valued (b ∷ bs) = record { name = b.name; value = value_or (value v b.term) } ∷ valued bs

  defined : (o : Option PureValue) → HasValue o → o ≡ Some (value_or o)
  defined None (w, is) = not_none is
  defined (Some w) has = refl

  by_name : (c : Bool) (t : PureTerm) (o : Option PureTerm) (u : Option PureValue) → ((w : PureTerm) → (if c then Some t else o) ≡ Some w → HasValue (value v w)) → (((w : PureTerm) → o ≡ Some w → HasValue (value v w)) → AreSame v o u)
      → AreSame v (if c then Some t else o) (if c then Some (value_or (value v t)) else u)
  by_name true t o u has later = defined (value v t) (has t refl)
  by_name false t o u has later = later has

  same_there : (bs : PureStore) (x : List ℕ) → ((t : PureTerm) → term_at bs x ≡ Some t → HasValue (value v t)) → AreSame v (term_at bs x) (value_of (valued bs) x)
  same_there [] x has = tt
  same_there (b ∷ bs) x has = by_name (bytes_eq b.name x) b.term (term_at bs x) (value_of (valued bs) x) has (same_there bs x)

  pub valued_stands : (bs : PureStore) → ((x : List ℕ) (t : PureTerm) → term_at bs x ≡ Some t → HasValue (value v t)) → StandsFor v bs (valued bs)
  valued_stands bs has x = same_there bs x (has x)
