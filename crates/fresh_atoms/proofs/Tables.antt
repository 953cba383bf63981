-- Tables of sorts any and list and then fresh variables alone, and the symbols of their fresh variables.
use Rattle.std.proofs.Common.{◌≡◌, ◌⊎◌, ⊎_elim, inl, inr, ℕ, zero, suc, ◌<◌, List, [], ◌∷◌, ◌++◌, length, true, false, eqb, Option, Some, slice_get, refl, sym, ap, subst, ◌∙◌, arith}
use Rattle.std.specs.List.{list_all}
use Rattle.std.proofs.lemmas.Bool.{and_parts, cases_order, eq-eqb, ne_eqb, false≢true}
use Rattle.std.proofs.lemmas.Option.{slice_get_within}
use Rattle.std.proofs.lemmas.List.Elements.{Contains-push}
use Rattle.gil_values.specs.declared.kinds.Kind.{Kind}
use Rattle.gil_values.specs.Equality.{same_value}
use Rattle.gil_values.specs.Pure.{PureValue, integer, boolean, text, symbol, kind, procedure, list, kind_of}
use Rattle.gil_values.specs.Symbols.{OccursIn}
use Rattle.pure_terms.specs.declared.variables.Sort.{Sort}
use Rattle.pure_terms.specs.EqualityLaws.{same_sorts}
use Rattle.pure_terms.specs.Kinds.{same_sort}
use Rattle.pure_terms.specs.Meaning.{IsProper}
use Rattle.pure_terms.proofs.FragmentLaws.{passes_at}
use Rattle.pure_terms.proofs.KindLaws.{same_kinds}
use Rattle.pure_terms.proofs.SimpleLaws.{found}
use Rattle.fresh_atoms.specs.Laws.{is_any_or_list}

-- ---- sorts

-- the sort is any or list, or fresh
abbrev pub MayStand : Sort → Type 0
MayStand s = (is_any_or_list s ≡ true) ⊎ (s ≡ Sort.Fresh)

not_fresh : {G : Type 0} (s : Sort) → is_any_or_list s ≡ true → s ≡ Sort.Fresh → G
not_fresh s given new = absurd (false≢true (ap is_any_or_list (sym new) ∙ given))

new_sort : (new : List Sort) (i : ℕ) (s : Sort) → list_all (same_sort Sort.Fresh) new ≡ true → slice_get new i ≡ Some s → s ≡ Sort.Fresh
new_sort new i s all is = sym (same_sorts Sort.Fresh s (passes_at (same_sort Sort.Fresh) new i s all is))

some_sort : (s t : Sort) → Some s ≡ Some t → s ≡ t
some_sort s t is = cc

pub table_sort : (given new : List Sort) (i : ℕ) (s : Sort) → list_all is_any_or_list given ≡ true → list_all (same_sort Sort.Fresh) new ≡ true → slice_get (given ++ new) i ≡ Some s → MayStand s
table_sort [] new i s all_given all_new is = inr (new_sort new i s all_new is)
table_sort (g ∷ given) new zero s all_given all_new is = inl (ap is_any_or_list (sym (some_sort g s is)) ∙ (and_parts (is_any_or_list g) (list_all is_any_or_list given) all_given).0)
table_sort (g ∷ given) new (suc i) s all_given all_new is = table_sort given new i s (and_parts (is_any_or_list g) (list_all is_any_or_list given) all_given).1 all_new is

-- what isn't fresh stands before what is
pub given_before : (given new : List Sort) (i j : ℕ) (s : Sort) → list_all is_any_or_list given ≡ true → list_all (same_sort Sort.Fresh) new ≡ true
    → slice_get (given ++ new) i ≡ Some s → is_any_or_list s ≡ true → slice_get (given ++ new) j ≡ Some Sort.Fresh → i < j
given_before [] new i j s all_given all_new is broad fresh = not_fresh s broad (new_sort new i s all_new is)
given_before (g ∷ given) new i zero s all_given all_new is broad fresh = not_fresh g (and_parts (is_any_or_list g) (list_all is_any_or_list given) all_given).0 (some_sort g Sort.Fresh fresh)
given_before (g ∷ given) new zero (suc j) s all_given all_new is broad fresh = omega arith
given_before (g ∷ given) new (suc i) (suc j) s all_given all_new is broad fresh =
    let below : i < j = given_before given new i j s (and_parts (is_any_or_list g) (list_all is_any_or_list given) all_given).1 all_new is broad fresh in
    omega (arith, below)

-- ---- the symbols of fresh variables

abbrev pub symbol_number : Option PureValue → ℕ
symbol_number (Some (symbol n)) = n
symbol_number _ = 0

-- the number of a variable's symbol
abbrev pub number_at : List PureValue → ℕ → ℕ
number_at v x = symbol_number (slice_get v x)

is_symbol : (w : PureValue) → kind_of w ≡ Kind.Sym → w ≡ symbol (symbol_number (Some w))
is_symbol (symbol n) is = refl
is_symbol (integer n) is = cc
is_symbol (boolean b) is = cc
is_symbol (text cs) is = cc
is_symbol (kind k) is = cc
is_symbol (procedure name) is = cc
is_symbol (list vs) is = cc

module _ (vars : List Sort) (v : List PureValue) (proper : IsProper vars v) where
  -- a fresh variable has a symbol
  pub fresh_symbol : (x : ℕ) → slice_get vars x ≡ Some Sort.Fresh → slice_get v x ≡ Some (symbol (number_at v x))
  fresh_symbol x fresh =
      let within : x < length vars = slice_get_within vars x Sort.Fresh fresh in
      let (w, is) = found v x (omega (arith, within, proper.one_each)) in
      let same : w ≡ symbol (symbol_number (Some w)) = is_symbol w (sym (same_kinds Kind.Sym (kind_of w) (proper.sorts x Sort.Fresh w fresh is))) in
      is ∙ ap Some same ∙ ap (λ o. Some (symbol (symbol_number o))) (sym is)

  -- which differs from the value of each variable before it
  pub fresh_differs : (x y : ℕ) (w : PureValue) → y < x → slice_get vars x ≡ Some Sort.Fresh → slice_get v y ≡ Some w → ¬ OccursIn (number_at v x) w
  fresh_differs x y w before fresh at_y = proper.fresh x y (number_at v x) w fresh (fresh_symbol x fresh) before at_y

  apart_before : (x y : ℕ) → y < x → slice_get vars x ≡ Some Sort.Fresh → slice_get vars y ≡ Some Sort.Fresh → ¬ (number_at v x ≡ number_at v y)
  apart_before x y before fresh_x fresh_y same =
      fresh_differs x y (symbol (number_at v y)) before fresh_x (fresh_symbol y fresh_y) (subst (λ n. OccursIn n (symbol (number_at v y))) (sym same) (Contains-push [] (number_at v y)))

  -- fresh variables have one symbol exactly where they are one
  pub fresh_apart : (x y : ℕ) → slice_get vars x ≡ Some Sort.Fresh → slice_get vars y ≡ Some Sort.Fresh → eqb (number_at v x) (number_at v y) ≡ eqb x y
  fresh_apart x y fresh_x fresh_y =
      ⊎_elim (λ same. eq-eqb (number_at v x) (number_at v y) (ap (number_at v) same) ∙ sym (eq-eqb x y same))
      (λ differ. ⊎_elim
      (λ before. ne_eqb (number_at v x) (number_at v y) (λ e. apart_before y x before fresh_y fresh_x (sym e)) ∙ sym (ne_eqb x y (λ e. absurd (omega (arith, before, e)))))
      (λ before. ne_eqb (number_at v x) (number_at v y) (λ e. apart_before x y before fresh_x fresh_y e) ∙ sym (ne_eqb x y (λ e. absurd (omega (arith, before, e)))))
      differ)
      (cases_order x y)

-- a symbol that doesn't occur in a value differs from it
pub differs_from_symbol : (w : PureValue) (n : ℕ) → ¬ OccursIn n w → same_value w (symbol n) ≡ false
differs_from_symbol (symbol m) n none = ne_eqb m n (λ e. none (subst (λ k. OccursIn k (symbol m)) e (Contains-push [] m)))
differs_from_symbol (integer m) n none = refl
differs_from_symbol (boolean b) n none = refl
differs_from_symbol (text cs) n none = refl
differs_from_symbol (kind k) n none = refl
differs_from_symbol (procedure name) n none = refl
differs_from_symbol (list vs) n none = refl

pub symbol_differs : (w : PureValue) (n : ℕ) → ¬ OccursIn n w → same_value (symbol n) w ≡ false
symbol_differs (symbol m) n none = ne_eqb n m (λ e. none (subst (λ k. OccursIn k (symbol m)) (sym e) (Contains-push [] m)))
symbol_differs (integer m) n none = refl
symbol_differs (boolean b) n none = refl
symbol_differs (text cs) n none = refl
symbol_differs (kind k) n none = refl
symbol_differs (procedure name) n none = refl
symbol_differs (list vs) n none = refl
