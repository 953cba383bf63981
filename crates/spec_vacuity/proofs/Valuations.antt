-- The valuation of an entry: its arguments, and then the values of the declared variables that the precondition names.
use Rattle.std.proofs.Common.{◌≡◌, ℕ, zero, suc, ◌+◌, List, [], ◌∷◌, ◌++◌, length, slice_get, Bool, true, false, not, ◌||◌, if◌then◌else◌, Some, bytes_eq, filter, refl, sym, ap, subst, ◌∙◌, arith, true≢false}
use Rattle.std.specs.List.{list_all}
use Rattle.std.proofs.lemmas.Bool.{and_parts}
use Rattle.std.proofs.lemmas.Slice.Eq.{bytes_eq-Decides}
use Rattle.gil_values.specs.Pure.{PureValue, integer, boolean, text, symbol, kind, procedure, list}
use Rattle.gil_syntax.specs.declared.assertions.Param.{Param}
use Rattle.gil_syntax.specs.declared.assertions.SpecSort.{SpecSort}
use Rattle.gil_syntax.specs.Evaluation.{Store, value_of}
use Rattle.gil_syntax.specs.Valid.{param_names}
use Rattle.gil_machine.specs.Step.{bind_all}
use Rattle.assert_logic.specs.Sorts.{has_sort, fits_sorts}
use Rattle.checked_runs.specs.Specifications.{fit_params}
use Rattle.pure_terms.specs.declared.variables.Sort.{Sort}
use Rattle.pure_terms.specs.declared.variables.Var.{Var}
use Rattle.pure_terms.specs.Kinds.{has_sort as is_of_sort}
use Rattle.pure_terms.specs.Meaning.{IsProper}
use Rattle.spec_vacuity.specs.Translation.{sort_of, table_of, variable_from}

sort_kept : (t : SpecSort) (w : PureValue) → has_sort t w ≡ true → is_of_sort (sort_of t) w ≡ true
sort_kept SpecSort.Int (integer n) is = refl
sort_kept SpecSort.Int (boolean b) is = absurd (true≢false (sym is))
sort_kept SpecSort.Int (text cs) is = absurd (true≢false (sym is))
sort_kept SpecSort.Int (symbol n) is = absurd (true≢false (sym is))
sort_kept SpecSort.Int (kind k) is = absurd (true≢false (sym is))
sort_kept SpecSort.Int (procedure f) is = absurd (true≢false (sym is))
sort_kept SpecSort.Int (list vs) is = absurd (true≢false (sym is))
sort_kept SpecSort.Bool (integer n) is = absurd (true≢false (sym is))
sort_kept SpecSort.Bool (boolean b) is = refl
sort_kept SpecSort.Bool (text cs) is = absurd (true≢false (sym is))
sort_kept SpecSort.Bool (symbol n) is = absurd (true≢false (sym is))
sort_kept SpecSort.Bool (kind k) is = absurd (true≢false (sym is))
sort_kept SpecSort.Bool (procedure f) is = absurd (true≢false (sym is))
sort_kept SpecSort.Bool (list vs) is = absurd (true≢false (sym is))
sort_kept SpecSort.Str (integer n) is = absurd (true≢false (sym is))
sort_kept SpecSort.Str (boolean b) is = absurd (true≢false (sym is))
sort_kept SpecSort.Str (text cs) is = refl
sort_kept SpecSort.Str (symbol n) is = absurd (true≢false (sym is))
sort_kept SpecSort.Str (kind k) is = absurd (true≢false (sym is))
sort_kept SpecSort.Str (procedure f) is = absurd (true≢false (sym is))
sort_kept SpecSort.Str (list vs) is = absurd (true≢false (sym is))
sort_kept SpecSort.Sym (integer n) is = absurd (true≢false (sym is))
sort_kept SpecSort.Sym (boolean b) is = absurd (true≢false (sym is))
sort_kept SpecSort.Sym (text cs) is = absurd (true≢false (sym is))
sort_kept SpecSort.Sym (symbol n) is = refl
sort_kept SpecSort.Sym (kind k) is = absurd (true≢false (sym is))
sort_kept SpecSort.Sym (procedure f) is = absurd (true≢false (sym is))
sort_kept SpecSort.Sym (list vs) is = absurd (true≢false (sym is))
sort_kept SpecSort.List (integer n) is = absurd (true≢false (sym is))
sort_kept SpecSort.List (boolean b) is = absurd (true≢false (sym is))
sort_kept SpecSort.List (text cs) is = absurd (true≢false (sym is))
sort_kept SpecSort.List (symbol n) is = absurd (true≢false (sym is))
sort_kept SpecSort.List (kind k) is = absurd (true≢false (sym is))
sort_kept SpecSort.List (procedure f) is = absurd (true≢false (sym is))
sort_kept SpecSort.List (list vs) is = refl
sort_kept SpecSort.Any w is = refl

same_some : {A : Type 0} {x y : A} → Some x ≡ Some y → x ≡ y
same_some e = cc

-- ---- lists of values of sorts

abbrev pub AreOfSorts : List Sort → List PureValue → Type 0
AreOfSorts [] [] = Unit {0}
AreOfSorts (t ∷ ts) (w ∷ ws) = (is_of_sort t w ≡ true) × AreOfSorts ts ws
AreOfSorts _ _ = ⊥

as_many : (ts : List Sort) (ws : List PureValue) → AreOfSorts ts ws → length ws ≡ length ts
as_many [] [] are = refl
as_many [] (w ∷ ws) are = absurd are
as_many (t ∷ ts) [] are = absurd are
as_many (t ∷ ts) (w ∷ ws) are = ap suc (as_many ts ws are.1)

sort_at : (ts : List Sort) (ws : List PureValue) (k : ℕ) (t : Sort) (w : PureValue) → AreOfSorts ts ws → slice_get ts k ≡ Some t → slice_get ws k ≡ Some w
    → is_of_sort t w ≡ true
sort_at [] ws k t w are at_t at_w = absurd (cc)
sort_at (s ∷ ts) [] k t w are at_t at_w = absurd are
sort_at (s ∷ ts) (u ∷ ws) zero t w are at_t at_w =
    subst (λ (y : PureValue). is_of_sort t y ≡ true) (same_some at_w) (subst (λ (y : Sort). is_of_sort y u ≡ true) (same_some at_t) are.0)
sort_at (s ∷ ts) (u ∷ ws) (suc k) t w are at_t at_w = sort_at ts ws k t w are.1 at_t at_w

never_fresh : (t : SpecSort) → sort_of t ≡ Sort.Fresh → ⊥
never_fresh SpecSort.Int is = cc
never_fresh SpecSort.Bool is = cc
never_fresh SpecSort.Str is = cc
never_fresh SpecSort.Sym is = cc
never_fresh SpecSort.List is = cc
never_fresh SpecSort.Any is = cc

none_fresh : (qs : List Param) (k : ℕ) → slice_get (table_of qs) k ≡ Some Sort.Fresh → ⊥
none_fresh [] k is = cc
none_fresh (q ∷ qs) zero is = never_fresh q.sort (same_some is)
none_fresh (q ∷ qs) (suc k) is = none_fresh qs k is

pub proper : (qs : List Param) (ws : List PureValue) → AreOfSorts (table_of qs) ws → IsProper (table_of qs) ws
proper qs ws are = record {
  one_each = as_many (table_of qs) ws are;
  sorts = λ x t w at_t at_w. sort_at (table_of qs) ws x t w are at_t at_w;
  fresh = λ x y n w at_x symbol_x below at_y occurs. none_fresh qs x at_x;
}

-- ---- the values of declared variables

-- in order, each of its sort
abbrev pub AreValuesOf : Store → List Param → List PureValue → Type 0
AreValuesOf s [] [] = Unit {0}
AreValuesOf s (q ∷ qs) (w ∷ ws) = (value_of s q.name ≡ Some w) × (is_of_sort (sort_of q.sort) w ≡ true) × AreValuesOf s qs ws
AreValuesOf s _ _ = ⊥

-- a name that has a value has it of each sort that is declared for it
fits_declared : (qs : List Param) (i : ℕ) (q : Param) (w : PureValue) → slice_get qs i ≡ Some q → fits_sorts qs q.name w ≡ true → has_sort q.sort w ≡ true
fits_declared qs i q w at fits = by (bytes_eq q.name q.name) ((bytes_eq-Decides q.name q.name).1 refl) (each qs i at fits)
  where
    each : (rs : List Param) (j : ℕ) → slice_get rs j ≡ Some q → list_all (λ r. not (bytes_eq r.name q.name) || has_sort r.sort w) rs ≡ true
        → (not (bytes_eq q.name q.name) || has_sort q.sort w) ≡ true
    each [] j there all = absurd (cc)
    each (r ∷ rs) zero there all =
        let front = (and_parts (not (bytes_eq r.name q.name) || has_sort r.sort w) (list_all (λ r. not (bytes_eq r.name q.name) || has_sort r.sort w) rs) all).0 in
        subst (λ (y : Param). (not (bytes_eq y.name q.name) || has_sort y.sort w) ≡ true) (same_some there) front
    each (r ∷ rs) (suc j) there all =
        each rs j there (and_parts (not (bytes_eq r.name q.name) || has_sort r.sort w) (list_all (λ r. not (bytes_eq r.name q.name) || has_sort r.sort w) rs) all).1

    by : (b : Bool) → b ≡ true → (not b || has_sort q.sort w) ≡ true → has_sort q.sort w ≡ true
    by true same is = is
    by false other is = absurd (true≢false (sym other))

pub declared_sort : (ps qs : List Param) (i : ℕ) (q : Param) (w : PureValue) → slice_get qs i ≡ Some q → fits_sorts (ps ++ qs) q.name w ≡ true
    → is_of_sort (sort_of q.sort) w ≡ true
declared_sort [] qs i q w at fits = sort_kept q.sort w (fits_declared qs i q w at fits)
declared_sort (r ∷ ps) qs i q w at fits =
    declared_sort ps qs i q w at (and_parts (not (bytes_eq r.name q.name) || has_sort r.sort w) (list_all (λ r. not (bytes_eq r.name q.name) || has_sort r.sort w) (ps ++ qs)) fits).1

pub own_values : (s : Store) (f : Param → Bool) (qs : List Param)
    → ((i : ℕ) (q : Param) → slice_get qs i ≡ Some q → f q ≡ true → (w : PureValue) × ((value_of s q.name ≡ Some w) × (is_of_sort (sort_of q.sort) w ≡ true)))
    → (ws : List PureValue) × AreValuesOf s (filter f qs) ws
own_values s f [] each = ([], tt)
own_values s f (q ∷ qs) each = by (f q) refl (own_values s f qs (λ i r at is. each (suc i) r at is))
  where
    by : (b : Bool) → f q ≡ b → ((ws : List PureValue) × AreValuesOf s (filter f qs) ws)
        → (ws : List PureValue) × AreValuesOf s (if b then q ∷ filter f qs else filter f qs) ws
    by true is (ws, are) = let (w, (at, sorted)) = each 0 q refl is in (w ∷ ws, (at, sorted, are))
    by false is later = later

-- ---- both together

own_sorts : (s : Store) (qs : List Param) (ws : List PureValue) → AreValuesOf s qs ws → AreOfSorts (table_of qs) ws
own_sorts s [] [] are = tt
own_sorts s [] (w ∷ ws) are = absurd are
own_sorts s (q ∷ qs) [] are = absurd are
own_sorts s (q ∷ qs) (w ∷ ws) are = (are.1, own_sorts s qs ws are.2)

pub all_sorts : (s : Store) (ps : List Param) (args : List PureValue) (qs : List Param) (ws : List PureValue) → fit_params ps args ≡ true → AreValuesOf s qs ws
    → AreOfSorts (table_of (ps ++ qs)) (args ++ ws)
all_sorts s [] [] qs ws fit are = own_sorts s qs ws are
all_sorts s [] (a ∷ args) qs ws fit are = absurd (true≢false (sym fit))
all_sorts s (p ∷ ps) [] qs ws fit are = absurd (true≢false (sym fit))
all_sorts s (p ∷ ps) (a ∷ args) qs ws fit are =
    let parts = and_parts (has_sort p.sort a) (fit_params ps args) fit in (sort_kept p.sort a parts.0, all_sorts s ps args qs ws parts.1 are)

-- where the variable of a name stands, and which value it has there
pub record StandsThere (s : Store) (x : List ℕ) (n : ℕ) (vs : List PureValue) (y : Var) : Type 0 where
  pub place : ℕ
  pub number_is : y.number ≡ n + place
  pub value_is : value_of s x ≡ slice_get vs place

own_there : (s : Store) (x : List ℕ) (n : ℕ) (qs : List Param) (ws : List PureValue) (y : Var) → AreValuesOf s qs ws → variable_from n qs x ≡ Some y
    → StandsThere s x n ws y
own_there s x n [] ws y are is = absurd (cc)
own_there s x n (q ∷ qs) [] y are is = absurd are
own_there s x n (q ∷ qs) (w ∷ ws) y are is = by (bytes_eq q.name x) refl is (own_there s x (n + 1) qs ws y are.2)
  where
    by : (b : Bool) → bytes_eq q.name x ≡ b → (if b then Some (record { number = n; sort = sort_of q.sort }) else variable_from (n + 1) qs x) ≡ Some y
        → (variable_from (n + 1) qs x ≡ Some y → StandsThere s x (n + 1) ws y) → StandsThere s x n (w ∷ ws) y
    by true same first later = record {
      place = 0;
      number_is = let number : n ≡ y.number = ap (λ (z : Var). z.number) (same_some first) in omega (arith, number);
      value_is = ap (value_of s) (sym ((bytes_eq-Decides q.name x).0 same)) ∙ are.0;
    }
    by false other rest later =
        let found = later rest in
        let number : y.number ≡ (n + 1) + found.place = found.number_is in
        record { place = suc found.place; number_is = omega (arith, number); value_is = found.value_is }

pub all_there : (s : Store) (x : List ℕ) (n : ℕ) (ps : List Param) (args : List PureValue) (qs : List Param) (ws : List PureValue) (y : Var)
    → fit_params ps args ≡ true → AreValuesOf s qs ws → variable_from n (ps ++ qs) x ≡ Some y → StandsThere (bind_all (param_names ps) args ++ s) x n (args ++ ws) y
all_there s x n [] [] qs ws y fit are is = own_there s x n qs ws y are is
all_there s x n [] (a ∷ args) qs ws y fit are is = absurd (true≢false (sym fit))
all_there s x n (p ∷ ps) [] qs ws y fit are is = absurd (true≢false (sym fit))
all_there s x n (p ∷ ps) (a ∷ args) qs ws y fit are is =
    by (bytes_eq p.name x) refl is (all_there s x (n + 1) ps args qs ws y (and_parts (has_sort p.sort a) (fit_params ps args) fit).1 are)
  where
    by : (b : Bool) → bytes_eq p.name x ≡ b → (if b then Some (record { number = n; sort = sort_of p.sort }) else variable_from (n + 1) (ps ++ qs) x) ≡ Some y
        → (variable_from (n + 1) (ps ++ qs) x ≡ Some y → StandsThere (bind_all (param_names ps) args ++ s) x (n + 1) (args ++ ws) y)
        → StandsThere (bind_all (param_names (p ∷ ps)) (a ∷ args) ++ s) x n (a ∷ args ++ ws) y
    by true same first later = record {
      place = 0;
      number_is = let number : n ≡ y.number = ap (λ (z : Var). z.number) (same_some first) in omega (arith, number);
      value_is = ap (λ c. if c then Some a else value_of (bind_all (param_names ps) args ++ s) x) same;
    }
    by false other rest later =
        let found = later rest in
        let number : y.number ≡ (n + 1) + found.place = found.number_is in
        record {
          place = suc found.place;
          number_is = omega (arith, number);
          value_is = ap (λ c. if c then Some a else value_of (bind_all (param_names ps) args ++ s) x) other ∙ found.value_is;
        }

-- the variable of a name is one of the table
pub in_table_from : (n : ℕ) (qs : List Param) (x : List ℕ) (y : Var) → variable_from n qs x ≡ Some y
    → (k : ℕ) × ((y.number ≡ n + k) × (slice_get (table_of qs) k ≡ Some y.sort))
in_table_from n [] x y is = absurd (cc)
in_table_from n (q ∷ qs) x y is = by (bytes_eq q.name x) is (in_table_from (n + 1) qs x y)
  where
    by : (b : Bool) → (if b then Some (record { number = n; sort = sort_of q.sort }) else variable_from (n + 1) qs x) ≡ Some y
        → (variable_from (n + 1) qs x ≡ Some y → (k : ℕ) × ((y.number ≡ (n + 1) + k) × (slice_get (table_of qs) k ≡ Some y.sort)))
        → (k : ℕ) × ((y.number ≡ n + k) × (slice_get (table_of (q ∷ qs)) k ≡ Some y.sort))
    by true first later =
        let number : n ≡ y.number = ap (λ (z : Var). z.number) (same_some first) in
        (0, (omega (arith, number), ap Some (ap (λ (z : Var). z.sort) (same_some first))))
    by false rest later =
        let (k, (number, at)) = later rest in
        let number_is : y.number ≡ (n + 1) + k = number in
        (suc k, (omega (arith, number_is), at))
