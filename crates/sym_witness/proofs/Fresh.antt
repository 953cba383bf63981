-- The symbols of fresh variables.
use Rattle.std.proofs.Common.{◌≡◌, ⊎_elim, add-one, ℕ, suc, ◌+◌, ◌<◌, ◌≤◌, List, [], ◌∷◌, ◌++◌, map, take, length, slice_get, Some, refl, sym, ap, ◌∙◌, append_assoc, arith}
use Rattle.std.specs.List.{Contains}
use Rattle.std.proofs.lemmas.List.{append-nil, map-append, length-take-le, take_all}
use Rattle.std.proofs.lemmas.Option.{slice_get_within}
use Rattle.std.proofs.lemmas.List.Elements.{Contains-append_cases}
use Rattle.gil_values.specs.Pure.{PureValue, integer, boolean, text, symbol, kind, procedure, list}
use Rattle.gil_values.proofs.OperatorSymbols.{none_contained}
use Rattle.pure_terms.specs.declared.variables.Sort.{Sort}
use Rattle.pure_terms.specs.Meaning.{IsProper}
use Rattle.pure_terms.specs.Renaming.{renamed}
use Rattle.pure_terms.proofs.Evaluated.{take-push}
use Rattle.sym_witness.specs.Numbering.{fresh_symbol, fresh_symbols, AreDifferent}
use Rattle.sym_witness.proofs.Places.{cons_cases, contains_head}

-- ---- one after the other

pub fresh_more : (sorts : List Sort) (ws : List PureValue) (sort : Sort) (w : PureValue) → length ws ≡ length sorts → fresh_symbols (sorts ++ sort ∷ []) (ws ++ w ∷ []) ≡ fresh_symbols sorts ws ++ fresh_symbol sort w
fresh_more [] [] sort w same = append-nil (fresh_symbol sort w)
fresh_more [] (u ∷ ws) sort w same = absurd (omega (arith, same))
fresh_more (s ∷ sorts) [] sort w same = absurd (omega (arith, same))
fresh_more (s ∷ sorts) (u ∷ ws) sort w same =
    ap (λ ns. fresh_symbol s u ++ ns) (fresh_more sorts ws sort w (omega (arith, same))) ∙ sym (append_assoc (fresh_symbol s u) (fresh_symbols sorts ws) (fresh_symbol sort w))

pub fresh_next : (sorts : List Sort) (ws : List PureValue) (found new : List ℕ) (i : ℕ) (sort : Sort) (w : PureValue) → length ws ≡ length sorts → found ≡ fresh_symbols (take i sorts) (take i ws)
    → slice_get sorts i ≡ Some sort → slice_get ws i ≡ Some w → new ≡ found ++ fresh_symbol sort w → new ≡ fresh_symbols (take (i + 1) sorts) (take (i + 1) ws)
fresh_next sorts ws found new i sort w same so_far in_table at is =
    let more_sorts : take (i + 1) sorts ≡ take i sorts ++ sort ∷ [] = ap (λ n. take n sorts) (add-one i) ∙ take-push sorts i sort in_table in
    let more_values : take (i + 1) ws ≡ take i ws ++ w ∷ [] = ap (λ n. take n ws) (add-one i) ∙ take-push ws i w at in
    let within : i < length sorts = slice_get_within sorts i sort in_table in
    let place : length (take i sorts) ≡ i = length-take-le i sorts (omega (arith, within)) in
    let value_place : length (take i ws) ≡ i = length-take-le i ws (omega (arith, within, same)) in
    is ∙ ap (λ ns. ns ++ fresh_symbol sort w) so_far ∙ sym (fresh_more (take i sorts) (take i ws) sort w (value_place ∙ sym place)) ∙ (λ j. fresh_symbols (sym more_sorts j) (sym more_values j))

pub fresh_whole : (sorts : List Sort) (ws : List PureValue) (found : List ℕ) (i : ℕ) → length ws ≡ length sorts → found ≡ fresh_symbols (take i sorts) (take i ws) → length sorts ≤ i → found ≡ fresh_symbols sorts ws
fresh_whole sorts ws found i same so_far past = so_far ∙ (λ j. fresh_symbols (take_all i sorts past j) (take_all i ws (omega (arith, same, past)) j))

-- ---- with other names

one_renamed : (f : ℕ → ℕ) (sort : Sort) (w : PureValue) → fresh_symbol sort (renamed f w) ≡ map f (fresh_symbol sort w)
one_renamed f Sort.Fresh (symbol n) = refl
one_renamed f Sort.Fresh (integer n) = refl
one_renamed f Sort.Fresh (boolean b) = refl
one_renamed f Sort.Fresh (text cs) = refl
one_renamed f Sort.Fresh (kind k) = refl
one_renamed f Sort.Fresh (procedure name) = refl
one_renamed f Sort.Fresh (list vs) = refl
one_renamed f Sort.Int w = refl
one_renamed f Sort.Bool w = refl
one_renamed f Sort.Str w = refl
one_renamed f Sort.Sym w = refl
one_renamed f Sort.List w = refl
one_renamed f Sort.Any w = refl

pub fresh_renamed : (f : ℕ → ℕ) (sorts : List Sort) (ws : List PureValue) → fresh_symbols sorts (map (renamed f) ws) ≡ map f (fresh_symbols sorts ws)
fresh_renamed f [] ws = refl
fresh_renamed f (sort ∷ sorts) [] = refl
fresh_renamed f (sort ∷ sorts) (w ∷ ws) = (λ i. one_renamed f sort w i ++ fresh_renamed f sorts ws i) ∙ sym (map-append f (fresh_symbol sort w) (fresh_symbols sorts ws))

-- ---- they differ

-- such a symbol is that of a fresh variable
abbrev IsOfFresh : List Sort → List PureValue → ℕ → Type 0
IsOfFresh sorts ws n = (x : ℕ) × ((slice_get sorts x ≡ Some Sort.Fresh) × (slice_get ws x ≡ Some (symbol n)))

later : (sort : Sort) (w : PureValue) (sorts : List Sort) (ws : List PureValue) (n : ℕ) → IsOfFresh sorts ws n → IsOfFresh (sort ∷ sorts) (w ∷ ws) n
later sort w sorts ws n (x, (in_table, at)) = (suc x, (in_table, at))

of_one : (sort : Sort) (w : PureValue) (sorts : List Sort) (ws : List PureValue) (n : ℕ) → Contains (fresh_symbol sort w) n → IsOfFresh (sort ∷ sorts) (w ∷ ws) n
of_one Sort.Fresh (symbol m) sorts ws n has = ⊎_elim (λ same. (0, (refl, ap (λ k. Some (symbol k)) same))) (λ none. absurd (none_contained n none)) (cons_cases m [] n has)
of_one Sort.Fresh (integer m) sorts ws n has = absurd (none_contained n has)
of_one Sort.Fresh (boolean b) sorts ws n has = absurd (none_contained n has)
of_one Sort.Fresh (text cs) sorts ws n has = absurd (none_contained n has)
of_one Sort.Fresh (kind k) sorts ws n has = absurd (none_contained n has)
of_one Sort.Fresh (procedure name) sorts ws n has = absurd (none_contained n has)
of_one Sort.Fresh (list vs) sorts ws n has = absurd (none_contained n has)
of_one Sort.Int w sorts ws n has = absurd (none_contained n has)
of_one Sort.Bool w sorts ws n has = absurd (none_contained n has)
of_one Sort.Str w sorts ws n has = absurd (none_contained n has)
of_one Sort.Sym w sorts ws n has = absurd (none_contained n has)
of_one Sort.List w sorts ws n has = absurd (none_contained n has)
of_one Sort.Any w sorts ws n has = absurd (none_contained n has)

of_fresh : (sorts : List Sort) (ws : List PureValue) (n : ℕ) → Contains (fresh_symbols sorts ws) n → IsOfFresh sorts ws n
of_fresh [] ws n has = absurd (none_contained n has)
of_fresh (sort ∷ sorts) [] n has = absurd (none_contained n has)
of_fresh (sort ∷ sorts) (w ∷ ws) n has =
    ⊎_elim (of_one sort w sorts ws n) (λ more. later sort w sorts ws n (of_fresh sorts ws n more)) (Contains-append_cases (fresh_symbol sort w) (fresh_symbols sorts ws) n has)

tail_proper : (sort : Sort) (sorts : List Sort) (u : PureValue) (us : List PureValue) → IsProper (sort ∷ sorts) (u ∷ us) → IsProper sorts us
tail_proper sort sorts u us proper = record {
  one_each = let both : suc (length us) ≡ suc (length sorts) = proper.one_each in omega (arith, both);
  sorts = λ x s w in_table at. proper.sorts (suc x) s w in_table at;
  fresh = λ x y n w in_table at less there. proper.fresh (suc x) (suc y) n w in_table at (omega (arith, less)) there;
}

-- the symbol of the first variable, if it is a fresh one, is no later one's
first_differs : (sort : Sort) (sorts : List Sort) (u : PureValue) (us : List PureValue) → IsProper (sort ∷ sorts) (u ∷ us) → AreDifferent (fresh_symbols sorts us) → AreDifferent (fresh_symbol sort u ++ fresh_symbols sorts us)
first_differs Sort.Fresh sorts (symbol n) us proper rest = (
  (λ has.
      let (x, (in_table, at)) = of_fresh sorts us n has in
      proper.fresh (suc x) 0 n (symbol n) in_table at (omega arith) refl (contains_head n [])),
  rest,
)
first_differs Sort.Fresh sorts (integer n) us proper rest = rest
first_differs Sort.Fresh sorts (boolean b) us proper rest = rest
first_differs Sort.Fresh sorts (text cs) us proper rest = rest
first_differs Sort.Fresh sorts (kind k) us proper rest = rest
first_differs Sort.Fresh sorts (procedure name) us proper rest = rest
first_differs Sort.Fresh sorts (list vs) us proper rest = rest
first_differs Sort.Int sorts u us proper rest = rest
first_differs Sort.Bool sorts u us proper rest = rest
first_differs Sort.Str sorts u us proper rest = rest
first_differs Sort.Sym sorts u us proper rest = rest
first_differs Sort.List sorts u us proper rest = rest
first_differs Sort.Any sorts u us proper rest = rest

pub fresh_differ : (sorts : List Sort) (ws : List PureValue) → IsProper sorts ws → AreDifferent (fresh_symbols sorts ws)
fresh_differ [] ws proper = tt
fresh_differ (sort ∷ sorts) [] proper = tt
fresh_differ (sort ∷ sorts) (w ∷ ws) proper = first_differs sort sorts w ws proper (fresh_differ sorts ws (tail_proper sort sorts w ws proper))
