-- The symbols of values, and of values with other names for them.
use Rattle.std.proofs.Common.{◌≡◌, add-one, ℕ, ◌+◌, List, [], ◌∷◌, ◌++◌, map, take, slice_get, ◌&&◌, ℤ, Some, refl, sym, ap, ◌∙◌, append_assoc}
use Rattle.std.specs.List.{list_all}
use Rattle.std.proofs.lemmas.List.{append-nil, map-append}
use Rattle.gil_values.specs.Pure.{PureValue, integer, boolean, text, symbol, kind, procedure, list, PureValues, no_values, value_and, from_list}
use Rattle.gil_values.specs.Symbols.{symbols, symbols_of_elements, symbols_of_all}
use Rattle.pure_terms.specs.Deciding.{has_numbers_between, have_numbers_between}
use Rattle.pure_terms.specs.Renaming.{renamed, renamed_elements}
use Rattle.pure_terms.proofs.Evaluated.{take-push}

pub of_elements : (vs : List PureValue) → symbols_of_elements (from_list vs) ≡ symbols_of_all vs
of_elements [] = refl
of_elements (v ∷ vs) = ap (λ ns. symbols v ++ ns) (of_elements vs)

pub of_both : (vs ws : List PureValue) → symbols_of_all (vs ++ ws) ≡ symbols_of_all vs ++ symbols_of_all ws
of_both [] ws = refl
of_both (v ∷ vs) ws = ap (λ ns. symbols v ++ ns) (of_both vs ws) ∙ sym (append_assoc (symbols v) (symbols_of_all vs) (symbols_of_all ws))

pub of_next : (vs : List PureValue) (i : ℕ) (v : PureValue) (old before new : List ℕ) → slice_get vs i ≡ Some v → before ≡ old ++ symbols_of_all (take i vs) → new ≡ before ++ symbols v
    → new ≡ old ++ symbols_of_all (take (i + 1) vs)
of_next vs i v old before new at so_far is =
    let taken : take (i + 1) vs ≡ take i vs ++ v ∷ [] = ap (λ n. take n vs) (add-one i) ∙ take-push vs i v at in
    is ∙ ap (λ ns. ns ++ symbols v) so_far ∙ append_assoc old (symbols_of_all (take i vs)) (symbols v)
    ∙ ap (λ ns. old ++ (symbols_of_all (take i vs) ++ ns)) (sym (append-nil (symbols v)))
    ∙ ap (λ ns. old ++ ns) (sym (of_both (take i vs) (v ∷ [])))
    ∙ ap (λ us. old ++ symbols_of_all us) (sym taken)

-- ---- with other names

module _ (f : ℕ → ℕ) where
  mutual
    pub of_renamed : (v : PureValue) → symbols (renamed f v) ≡ map f (symbols v)
    of_renamed (symbol n) = refl
    of_renamed (list vs) = of_renamed_elements vs
    of_renamed (integer n) = refl
    of_renamed (boolean b) = refl
    of_renamed (text cs) = refl
    of_renamed (kind k) = refl
    of_renamed (procedure name) = refl

    of_renamed_elements : (vs : PureValues) → symbols_of_elements (renamed_elements f vs) ≡ map f (symbols_of_elements vs)
    of_renamed_elements no_values = refl
    of_renamed_elements (value_and v vs) = (λ i. of_renamed v i ++ of_renamed_elements vs i) ∙ sym (map-append f (symbols v) (symbols_of_elements vs))

  pub of_all_renamed : (vs : List PureValue) → symbols_of_all (map (renamed f) vs) ≡ map f (symbols_of_all vs)
  of_all_renamed [] = refl
  of_all_renamed (v ∷ vs) = (λ i. of_renamed v i ++ of_all_renamed vs i) ∙ sym (map-append f (symbols v) (symbols_of_all vs))

  pub elements_renamed : (vs : List PureValue) → renamed_elements f (from_list vs) ≡ from_list (map (renamed f) vs)
  elements_renamed [] = refl
  elements_renamed (v ∷ vs) = ap (value_and (renamed f v)) (elements_renamed vs)

module _ (f : ℕ → ℕ) (low high : ℤ) where
  mutual
    pub same_numbers : (v : PureValue) → has_numbers_between low high (renamed f v) ≡ has_numbers_between low high v
    same_numbers (integer n) = refl
    same_numbers (list vs) = all_same_numbers vs
    same_numbers (symbol n) = refl
    same_numbers (boolean b) = refl
    same_numbers (text cs) = refl
    same_numbers (kind k) = refl
    same_numbers (procedure name) = refl

    all_same_numbers : (vs : PureValues) → have_numbers_between low high (renamed_elements f vs) ≡ have_numbers_between low high vs
    all_same_numbers no_values = refl
    all_same_numbers (value_and v vs) = λ i. same_numbers v i && all_same_numbers vs i

  pub same_moderate : (vs : List PureValue) → list_all (has_numbers_between low high) (map (renamed f) vs) ≡ list_all (has_numbers_between low high) vs
  same_moderate [] = refl
  same_moderate (v ∷ vs) = λ i. same_numbers v i && same_moderate vs i

pub map_next : (f : PureValue → PureValue) (vs ws new : List PureValue) (i : ℕ) (v w : PureValue) → slice_get vs i ≡ Some v → ws ≡ map f (take i vs) → w ≡ f v → new ≡ ws ++ w ∷ [] → new ≡ map f (take (i + 1) vs)
map_next f vs ws new i v w at so_far same is =
    is ∙ (λ j. so_far j ++ same j ∷ []) ∙ sym (map-append f (take i vs) (v ∷ [])) ∙ ap (map f) (sym (ap (λ n. take n vs) (add-one i) ∙ take-push vs i v at))
