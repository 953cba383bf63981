-- A valuation whose last variables are new symbols, with other names for its symbols: those of the new variables follow each other, above all
-- others.
use Rattle.std.proofs.Common.{◌≡◌, ◌⊎◌, ⊎_elim, inl, inr, ℕ, zero, suc, ◌+◌, ◌<◌, List, [], ◌∷◌, ◌++◌, map, length, slice_get, true, ◌&&◌, if◌then◌else◌, eqb, Some, refl, sym, ap, subst, ◌∙◌, true≢false, arith}
use Rattle.std.specs.List.{Contains, list_all}
use Rattle.std.proofs.lemmas.Bool.{and_parts, cases_eq, eq-eqb, ne_eqb}
use Rattle.std.proofs.lemmas.List.{append_assoc, length-append, map-append}
use Rattle.std.proofs.lemmas.List.Elements.{Contains-append_right, Contains-append_cases}
use Rattle.gil_values.specs.Pure.{PureValue, integer, boolean, text, symbol, kind, procedure, list, PureValues, no_values, value_and}
use Rattle.gil_values.specs.Symbols.{symbols, symbols_of_elements, symbols_of_all, OccursIn, OccursAmong, AreBelow}
use Rattle.gil_values.proofs.OperatorSymbols.{none_contained}
use Rattle.pure_terms.specs.declared.variables.Sort.{Sort}
use Rattle.pure_terms.specs.Kinds.{has_sort, same_sort}
use Rattle.pure_terms.specs.Meaning.{all_true, IsProper, Satisfies}
use Rattle.pure_terms.specs.Pure.{PureAtom}
use Rattle.pure_terms.specs.Renaming.{renamed, renamed_elements, IsOneToOneOn}
use Rattle.pure_terms.proofs.Renamed.{contains-map, renaming_keeps}
use Rattle.bi_specifications.proofs.RunsAlong.{symbols_from}

-- ---- places of numbers in a list

abbrev pub position : List ℕ → ℕ → ℕ
position [] m = 0
position (k ∷ ks) m = if eqb k m then 0 else suc (position ks m)

cons_cases : (k : ℕ) (ks : List ℕ) (m : ℕ) → Contains (k ∷ ks) m → (k ≡ m) ⊎ Contains ks m
cons_cases k ks m (zero, within, is) = inl is
cons_cases k ks m (suc i, within, is) = inr (i, omega (arith, within), is)

first_position : (k m : ℕ) (ks : List ℕ) → k ≡ m → position (k ∷ ks) m ≡ 0
first_position k m ks is = ap (λ b. if b then 0 else suc (position ks m)) (eq-eqb k m is)

later_position : (k m : ℕ) (ks : List ℕ) → ¬ (k ≡ m) → position (k ∷ ks) m ≡ suc (position ks m)
later_position k m ks unlike = ap (λ b. if b then 0 else suc (position ks m)) (ne_eqb k m unlike)

not_first : (k m : ℕ) (ks : List ℕ) → ¬ (k ≡ m) → Contains (k ∷ ks) m → Contains ks m
not_first k m ks unlike has = ⊎_elim (λ is. absurd (unlike is)) (λ later. later) (cons_cases k ks m has)

pub positions_apart : (ks : List ℕ) → IsOneToOneOn ks (position ks)
positions_apart [] m l of_m of_l same = absurd (none_contained m of_m)
positions_apart (k ∷ ks) m l of_m of_l same =
    ⊎_elim
    (λ (is_m : k ≡ m). ⊎_elim
    (λ (is_l : k ≡ l). sym is_m ∙ is_l)
    (λ (no_l : ¬ (k ≡ l)).
    let wrong : 0 ≡ suc (position ks l) = sym (first_position k m ks is_m) ∙ same ∙ later_position k l ks no_l in
    absurd (omega (arith, wrong)))
    (cases_eq k l))
    (λ (no_m : ¬ (k ≡ m)). ⊎_elim
    (λ (is_l : k ≡ l).
    let wrong : suc (position ks m) ≡ 0 = sym (later_position k m ks no_m) ∙ same ∙ first_position k l ks is_l in
    absurd (omega (arith, wrong)))
    (λ (no_l : ¬ (k ≡ l)).
    let next : suc (position ks m) ≡ suc (position ks l) = sym (later_position k m ks no_m) ∙ same ∙ later_position k l ks no_l in
    positions_apart ks m l (not_first k m ks no_m of_m) (not_first k l ks no_l of_l) (omega (arith, next)))
    (cases_eq k l))
    (cases_eq k m)

-- what stands in the first part has its place there
position_within : (ks ls : List ℕ) (m : ℕ) → Contains ks m → position (ks ++ ls) m < length ks
position_within [] ls m has = absurd (none_contained m has)
position_within (k ∷ ks) ls m has =
    ⊎_elim
    (λ (is : k ≡ m). let here : position (k ∷ ks ++ ls) m ≡ 0 = first_position k m (ks ++ ls) is in omega (arith, here))
    (λ (unlike : ¬ (k ≡ m)).
    let next : position (k ∷ ks ++ ls) m ≡ suc (position (ks ++ ls) m) = later_position k m (ks ++ ls) unlike in
    let within : position (ks ++ ls) m < length ks = position_within ks ls m (not_first k m ks unlike has) in
    omega (arith, next, within))
    (cases_eq k m)

-- what doesn't stand there, but next, has the place behind it
position_next : (ks ls : List ℕ) (m : ℕ) → ¬ (Contains ks m) → position (ks ++ m ∷ ls) m ≡ length ks
position_next [] ls m lacks = first_position m m ls refl
position_next (k ∷ ks) ls m lacks =
    ⊎_elim
    (λ (is : k ≡ m). absurd (lacks (zero, omega arith, is)))
    (λ (unlike : ¬ (k ≡ m)). later_position k m (ks ++ m ∷ ls) unlike ∙ ap suc (position_next ks ls m (λ has. lacks (Contains-append_right (k ∷ []) ks m has))))
    (cases_eq k m)

-- ---- symbols of values

symbols_both : (v w : List PureValue) → symbols_of_all (v ++ w) ≡ symbols_of_all v ++ symbols_of_all w
symbols_both [] w = refl
symbols_both (u ∷ v) w = ap (λ ns. symbols u ++ ns) (symbols_both v w) ∙ sym (append_assoc (symbols u) (symbols_of_all v) (symbols_of_all w))

mutual
  symbols_renamed : (f : ℕ → ℕ) (v : PureValue) → symbols (renamed f v) ≡ map f (symbols v)
  symbols_renamed f (symbol n) = refl
  symbols_renamed f (list vs) = elements_renamed f vs
  symbols_renamed f (integer n) = refl
  symbols_renamed f (boolean b) = refl
  symbols_renamed f (text cs) = refl
  symbols_renamed f (kind k) = refl
  symbols_renamed f (procedure name) = refl

  elements_renamed : (f : ℕ → ℕ) (vs : PureValues) → symbols_of_elements (renamed_elements f vs) ≡ map f (symbols_of_elements vs)
  elements_renamed f no_values = refl
  elements_renamed f (value_and v vs) = (λ i. symbols_renamed f v i ++ elements_renamed f vs i) ∙ sym (map-append f (symbols v) (symbols_of_elements vs))

all_renamed : (f : ℕ → ℕ) (v : List PureValue) → symbols_of_all (map (renamed f) v) ≡ map f (symbols_of_all v)
all_renamed f [] = refl
all_renamed f (w ∷ v) = (λ i. symbols_renamed f w i ++ all_renamed f v i) ∙ sym (map-append f (symbols w) (symbols_of_all v))

fresh_symbol : (w : PureValue) → has_sort Sort.Fresh w ≡ true → (m : ℕ) × (w ≡ symbol m)
fresh_symbol (symbol m) is = (m, refl)
fresh_symbol (integer n) is = absurd (true≢false (sym is))
fresh_symbol (boolean b) is = absurd (true≢false (sym is))
fresh_symbol (text cs) is = absurd (true≢false (sym is))
fresh_symbol (kind j) is = absurd (true≢false (sym is))
fresh_symbol (procedure name) is = absurd (true≢false (sym is))
fresh_symbol (list ws) is = absurd (true≢false (sym is))

-- a symbol of the list is one of some value
where_occurs : (v : List PureValue) (n : ℕ) → OccursAmong n v → (y : ℕ) × ((w : PureValue) × ((y < length v) × (slice_get v y ≡ Some w) × OccursIn n w))
where_occurs [] n occurs = absurd (none_contained n occurs)
where_occurs (u ∷ v) n occurs =
    ⊎_elim (λ here. (zero, (u, (omega arith, refl, here))))
    (λ later. let (y, (w, (less, at, in_w))) = where_occurs v n later in (suc y, (w, (omega (arith, less), at, in_w))))
    (Contains-append_cases (symbols u) (symbols_of_all v) n occurs)

-- ---- new symbols

-- each value is a symbol that doesn't stand among those before it
abbrev AreNew : List ℕ → List PureValue → Type 0
AreNew before [] = Unit {0}
AreNew before (w ∷ ws) = (k : ℕ) × ((w ≡ symbol k) × (¬ (Contains before k)) × AreNew (before ++ k ∷ []) ws)

at_end : {A : Type 0} (xs : List A) (y : A) (ys : List A) → slice_get (xs ++ y ∷ ys) (length xs) ≡ Some y
at_end [] y ys = refl
at_end (x ∷ xs) y ys = at_end xs y ys

at_before : {A : Type 0} (xs ys : List A) (i : ℕ) → i < length xs → slice_get (xs ++ ys) i ≡ slice_get xs i
at_before [] ys i less = absurd (omega (arith, less))
at_before (x ∷ xs) ys zero less = refl
at_before (x ∷ xs) ys (suc i) less = at_before xs ys i (omega (arith, less))

is_fresh : (s : Sort) → same_sort Sort.Fresh s ≡ true → s ≡ Sort.Fresh
is_fresh Sort.Fresh is = refl
is_fresh Sort.Int is = absurd (true≢false (sym is))
is_fresh Sort.Bool is = absurd (true≢false (sym is))
is_fresh Sort.Str is = absurd (true≢false (sym is))
is_fresh Sort.Sym is = absurd (true≢false (sym is))
is_fresh Sort.List is = absurd (true≢false (sym is))
is_fresh Sort.Any is = absurd (true≢false (sym is))

-- the symbols of a list with a symbol more
symbols_more : (v : List PureValue) (k : ℕ) → symbols_of_all (v ++ symbol k ∷ []) ≡ symbols_of_all v ++ k ∷ []
symbols_more v k = symbols_both v (symbol k ∷ [])

new_symbols : (vars new : List Sort) (v ws : List PureValue) → list_all (same_sort Sort.Fresh) new ≡ true → length v ≡ length vars → IsProper (vars ++ new) (v ++ ws) → AreNew (symbols_of_all v) ws
new_symbols vars new v [] fresh many proper = tt
new_symbols vars [] v (w ∷ ws) fresh many proper =
    let all : length (v ++ w ∷ ws) ≡ length (vars ++ []) = proper.one_each in
    let first = length-append v (w ∷ ws) in
    let second = length-append vars [] in
    absurd (omega (arith, all, first, second, many))
new_symbols vars (s ∷ new) v (w ∷ ws) fresh many proper =
    let (here, later) = and_parts (same_sort Sort.Fresh s) (list_all (same_sort Sort.Fresh) new) fresh in
    let sort = is_fresh s here in
    let in_table : slice_get (vars ++ s ∷ new) (length v) ≡ Some Sort.Fresh = ap (slice_get (vars ++ s ∷ new)) many ∙ at_end vars s new ∙ ap Some sort in
    let there : slice_get (v ++ w ∷ ws) (length v) ≡ Some w = at_end v w ws in
    let (k, is) = fresh_symbol w (proper.sorts (length v) Sort.Fresh w in_table there) in (
      k,
      (
        is,
        (λ has.
            let (y, (u, (less, at, in_u))) = where_occurs v k has in
            proper.fresh (length v) y k u in_table (there ∙ ap Some is) less (at_before v (w ∷ ws) y less ∙ at) in_u),
        subst (λ ns. AreNew ns ws) (ap (λ z. symbols_of_all (v ++ z ∷ [])) is ∙ symbols_more v k)
            (new_symbols (vars ++ s ∷ []) new (v ++ w ∷ []) ws later
            (length-append v (w ∷ []) ∙ ap (λ i. i + 1) many ∙ sym (length-append vars (s ∷ [])))
            (subst (λ xs. IsProper xs ((v ++ w ∷ []) ++ ws)) (sym (append_assoc vars (s ∷ []) new)) (subst (IsProper (vars ++ s ∷ new)) (sym (append_assoc v (w ∷ []) ws)) proper))),
      ),
    )

-- by their places they follow each other
follow_each_other : (before : List ℕ) (ws : List PureValue) → AreNew before ws → map (renamed (position (before ++ symbols_of_all ws))) ws ≡ symbols_from (length before) (length ws)
follow_each_other before [] new = refl
follow_each_other before (w ∷ ws) (k, (is, lacks, later)) =
    let whole : before ++ symbols_of_all (w ∷ ws) ≡ (before ++ k ∷ []) ++ symbols_of_all ws =
    ap (λ z. before ++ symbols_of_all (z ∷ ws)) is ∙ sym (append_assoc before (k ∷ []) (symbols_of_all ws)) in
    let first : position (before ++ symbols_of_all (w ∷ ws)) k ≡ length before =
    ap (λ z. position (before ++ symbols_of_all (z ∷ ws)) k) is ∙ position_next before (symbols_of_all ws) k lacks in
    let head : renamed (position (before ++ symbols_of_all (w ∷ ws))) w ≡ symbol (length before) =
    ap (renamed (position (before ++ symbols_of_all (w ∷ ws)))) is ∙ ap symbol first in
    let counted : length (before ++ k ∷ []) ≡ suc (length before) = length-append before (k ∷ []) ∙ omega arith in
    let rest : map (renamed (position (before ++ symbols_of_all (w ∷ ws)))) ws ≡ symbols_from (suc (length before)) (length ws) =
    ap (λ ns. map (renamed (position ns)) ws) whole ∙ follow_each_other (before ++ k ∷ []) ws later ∙ ap (λ n. symbols_from n (length ws)) counted in
    λ i. head i ∷ rest i

-- ---- the valuation

all_same : (f : ℕ → ℕ) (v : List PureValue) → IsOneToOneOn (symbols_of_all v) f → (atoms : List PureAtom) → all_true (map (renamed f) v) atoms ≡ all_true v atoms
all_same f v apart [] = refl
all_same f v apart (a ∷ atoms) = λ i. renaming_keeps.truths f v a apart i && all_same f v apart atoms i

-- The first values with other names for their symbols, and behind them the symbols from a counter on, which is above those of the first ones.
pub record IsNumbered (vars new : List Sort) (atoms : List PureAtom) : Type 0 where
  pub early : List PureValue
  pub counter : ℕ
  pub below : AreBelow counter early
  pub many : length early ≡ length vars
  pub meets : Satisfies (vars ++ new) (early ++ symbols_from counter (length new)) atoms

pub numbered_again : (vars new : List Sort) (v ws : List PureValue) (atoms : List PureAtom) → list_all (same_sort Sort.Fresh) new ≡ true → length v ≡ length vars
    → Satisfies (vars ++ new) (v ++ ws) atoms → IsNumbered vars new atoms
numbered_again vars new v ws atoms fresh many met = record {
  early = map (renamed f) v;
  counter = length (symbols_of_all v);
  below = λ n occurs.
      let (m, (has, is)) = contains-map f (symbols_of_all v) n (subst (λ ns. Contains ns n) (all_renamed f v) occurs) in
      let less : position (symbols_of_all v ++ symbols_of_all ws) m < length (symbols_of_all v) = position_within (symbols_of_all v) (symbols_of_all ws) m has in
      subst (λ k. k < length (symbols_of_all v)) is less;
  many = length-map-renamed v ∙ many;
  meets = subst (λ u. Satisfies (vars ++ new) u atoms) parts (record {
    proper = renaming_keeps.proper f (vars ++ new) (v ++ ws) apart met.proper;
    true_there = all_same f (v ++ ws) apart atoms ∙ met.true_there;
  });
}
  where
    f : ℕ → ℕ
    f = position (symbols_of_all v ++ symbols_of_all ws)

    apart : IsOneToOneOn (symbols_of_all (v ++ ws)) f
    apart = subst (λ ns. IsOneToOneOn ns f) (sym (symbols_both v ws)) (positions_apart (symbols_of_all v ++ symbols_of_all ws))

    length-map-renamed : (us : List PureValue) → length (map (renamed f) us) ≡ length us
    length-map-renamed [] = refl
    length-map-renamed (u ∷ us) = ap suc (length-map-renamed us)

    counted : length ws ≡ length new
    counted =
        let all : length (v ++ ws) ≡ length (vars ++ new) = met.proper.one_each in
        let first = length-append v ws in
        let second = length-append vars new in
        omega (arith, all, first, second, many)

    parts : map (renamed f) (v ++ ws) ≡ map (renamed f) v ++ symbols_from (length (symbols_of_all v)) (length new)
    parts =
        map-append (renamed f) v ws
        ∙ ap (λ us. map (renamed f) v ++ us) (follow_each_other (symbols_of_all v) ws (new_symbols vars new v ws fresh many met.proper) ∙ ap (symbols_from (length (symbols_of_all v))) counted)
