-- A valuation that meets atoms, with other symbols for its fresh variables and other values for the draws that unlike atom names, still meets them.
use Rattle.std.proofs.Common.{◌≡◌, take, add-one, ◌⊎◌, ⊎_elim, inl, inr, ℕ, zero, suc, ◌+◌, ◌<◌, ◌≤◌, List, [], ◌∷◌, ◌++◌, map, length, slice_get, Bool, true, false, ◌||◌, ◌&&◌, if◌then◌else◌, eqb, Some, IsTrue, refl, sym, ap, subst, ◌∙◌, arith, true≢false, zero-add}
use Rattle.std.specs.List.{Contains, list_all, list_any}
use Rattle.std.proofs.lemmas.Bool.{cases_eq, eq-eqb, ne_eqb, and_parts, and_from}
use Rattle.std.proofs.lemmas.List.{append_assoc, length_push, length-take-le, take_all}
use Rattle.std.proofs.lemmas.Option.{slice_get_within}
use Rattle.std.proofs.lemmas.List.Elements.{Contains-append_left, Contains-append_right, Contains-append_cases, Contains-push}
use Rattle.gil_values.specs.declared.kinds.Kind.{Kind}
use Rattle.gil_values.specs.Pure.{PureValue, integer, boolean, text, symbol, kind, procedure, list, kind_of}
use Rattle.gil_values.specs.Symbols.{symbols, symbols_of_all, OccursIn, OccursAmong}
use Rattle.gil_values.proofs.OperatorSymbols.{none_contained}
use Rattle.pure_terms.specs.declared.variables.Sort.{Sort}
use Rattle.pure_terms.specs.declared.variables.Var.{Var}
use Rattle.pure_terms.specs.Deciding.{has_moderate_numbers}
use Rattle.pure_terms.specs.Kinds.{has_sort}
use Rattle.pure_terms.specs.Laws.{AgreeOn}
use Rattle.pure_terms.specs.Meaning.{truth, all_true, IsProper, AreOver, Satisfies}
use Rattle.pure_terms.specs.Naming.{names_number}
use Rattle.pure_terms.specs.Pure.{PureAtom, term_of, variables, variables_of_atoms}
use Rattle.pure_terms.specs.Renaming.{renamed, IsOneToOneOn}
use Rattle.pure_terms.proofs.Evaluated.{take-push}
use Rattle.pure_terms.proofs.Renamed.{renaming_keeps}
use Rattle.pure_terms.proofs.VariableLaws.{depend_on_variables}
use Rattle.sym_model.specs.Lists.{Each}
use Rattle.sym_model.proofs.ListLaws.{same_some, not_none}
use Rattle.sym_paths.specs.Moves.{draw_sort}
use Rattle.sym_paths.specs.Steps.{AreNext, IsNewSort, counter_after, counter_past, drawn_from}
use Rattle.sym_paths.proofs.Drawing.{fits_kind, no_symbols}
use Rattle.sym_test.specs.Canonical.{blank, IsAt, is_named, draw_and, draws_among, IsCanonical}

-- ---- how the canonical valuation is made of another one

abbrev pub IsMade : (ℕ → Bool) → ℕ → List Sort → List PureValue → List PureValue → Type 0
IsMade named n [] [] [] = Unit {0}
IsMade named n (sort ∷ sorts) (u ∷ us) (w ∷ ws) = IsAt (named 0) n sort u w × IsMade (λ i. named (suc i)) (counter_after sort n) sorts us ws
IsMade named n _ _ _ = ⊥

pub made_more : (named : ℕ → Bool) (n : ℕ) (sorts : List Sort) (us ws : List PureValue) (sort : Sort) (u w : PureValue) → IsMade named n sorts us ws
    → IsAt (named (length sorts)) (counter_past sorts n) sort u w → IsMade named n (sorts ++ sort ∷ []) (us ++ u ∷ []) (ws ++ w ∷ [])
made_more named n [] [] [] sort u w made last = (last, tt)
made_more named n (s ∷ sorts) (v ∷ us) (z ∷ ws) sort u w made last = (made.0, made_more (λ i. named (suc i)) (counter_after s n) sorts us ws sort u w made.1 last)
made_more named n [] [] (z ∷ ws) sort u w made last = absurd made
made_more named n [] (v ∷ us) ws sort u w made last = absurd made
made_more named n (s ∷ sorts) [] ws sort u w made last = absurd made
made_more named n (s ∷ sorts) (v ∷ us) [] sort u w made last = absurd made

past_more : (sorts : List Sort) (n : ℕ) (sort : Sort) → counter_past (sorts ++ sort ∷ []) n ≡ counter_after sort (counter_past sorts n)
past_more [] n sort = refl
past_more (s ∷ sorts) n sort = past_more sorts (counter_after s n) sort

counter_steps : (sort : Sort) (n : ℕ) → counter_after sort n ≤ n + 1
counter_steps Sort.Fresh n = omega arith
counter_steps Sort.Int n = omega arith
counter_steps Sort.Bool n = omega arith
counter_steps Sort.Str n = omega arith
counter_steps Sort.Sym n = omega arith
counter_steps Sort.List n = omega arith
counter_steps Sort.Any n = omega arith

-- so many variables have their values
pub record IsMadeTo (named : ℕ → Bool) (sorts : List Sort) (us ws : List PureValue) (i next : ℕ) : Type 0 where
  pub made : IsMade named 0 (take i sorts) (take i us) ws
  pub counted : next ≡ counter_past (take i sorts) 0
  pub low : next ≤ i

pub made_next : (named : ℕ → Bool) (sorts : List Sort) (us ws : List PureValue) (i next : ℕ) (sort : Sort) (u w : PureValue) → IsMadeTo named sorts us ws i next → slice_get sorts i ≡ Some sort → slice_get us i ≡ Some u
    → IsAt (named i) next sort u w → IsMadeTo named sorts us (ws ++ w ∷ []) (i + 1) (counter_after sort next)
made_next named sorts us ws i next sort u w so_far in_table at is =
    let more_sorts : take (i + 1) sorts ≡ take i sorts ++ sort ∷ [] = ap (λ n. take n sorts) (add-one i) ∙ take-push sorts i sort in_table in
    let more_values : take (i + 1) us ≡ take i us ++ u ∷ [] = ap (λ n. take n us) (add-one i) ∙ take-push us i u at in
    let within : i < length sorts = slice_get_within sorts i sort in_table in
    let place : length (take i sorts) ≡ i = length-take-le i sorts (omega (arith, within)) in
    let steps : counter_after sort next ≤ next + 1 = counter_steps sort next in
    let before : next ≤ i = so_far.low in
    record {
      made = subst (λ ss. IsMade named 0 ss (take (i + 1) us) (ws ++ w ∷ [])) (sym more_sorts)
          (subst (λ vs. IsMade named 0 (take i sorts ++ sort ∷ []) vs (ws ++ w ∷ [])) (sym more_values)
          (made_more named 0 (take i sorts) (take i us) ws sort u w so_far.made
          (subst (λ n. IsAt (named (length (take i sorts))) n sort u w) so_far.counted (subst (λ n. IsAt (named n) next sort u w) (sym place) is))));
      counted = ap (counter_after sort) so_far.counted ∙ sym (past_more (take i sorts) 0 sort) ∙ ap (λ ss. counter_past ss 0) (sym more_sorts);
      low = omega (arith, steps, before);
    }

pub made_whole : (named : ℕ → Bool) (sorts : List Sort) (us ws : List PureValue) (i next : ℕ) → IsMadeTo named sorts us ws i next → length us ≡ length sorts → length sorts ≤ i → IsMade named 0 sorts us ws
made_whole named sorts us ws i next so_far same past =
    subst (λ ss. IsMade named 0 ss us ws) (take_all i sorts past)
    (subst (λ vs. IsMade named 0 (take i sorts) vs ws) (take_all i us (omega (arith, same, past))) so_far.made)

-- ---- sorts of new variables

abbrev IsDraw : Sort → Type 0
IsDraw sort = (k : Kind) × (draw_sort k ≡ Some sort)

fresh_or_draw : (sort : Sort) → IsNewSort sort → (sort ≡ Sort.Fresh) ⊎ IsDraw sort
fresh_or_draw Sort.Fresh is = inl refl
fresh_or_draw Sort.Int is = inr (Kind.Int, refl)
fresh_or_draw Sort.Bool is = inr (Kind.Bool, refl)
fresh_or_draw Sort.Str is = inr (Kind.Str, refl)
fresh_or_draw Sort.Sym is = absurd is
fresh_or_draw Sort.List is = absurd is
fresh_or_draw Sort.Any is = absurd is

by_draw : (P : Sort → Type 0) → P Sort.Int → P Sort.Bool → P Sort.Str → (sort : Sort) → IsDraw sort → P sort
by_draw P number truth characters sort (Kind.Int, is) = subst P (same_some is) number
by_draw P number truth characters sort (Kind.Bool, is) = subst P (same_some is) truth
by_draw P number truth characters sort (Kind.Str, is) = subst P (same_some is) characters
by_draw P number truth characters sort (Kind.Sym, is) = not_none is
by_draw P number truth characters sort (Kind.Kind, is) = not_none is
by_draw P number truth characters sort (Kind.Proc, is) = not_none is
by_draw P number truth characters sort (Kind.List, is) = not_none is
by_draw P number truth characters sort (Kind.Undef, is) = not_none is
by_draw P number truth characters sort (Kind.Null, is) = not_none is

draw_is : (named : Bool) (n : ℕ) (sort : Sort) (u w : PureValue) → IsDraw sort → IsAt named n sort u w → w ≡ (if named then u else blank sort)
draw_is named n sort u w draws = by_draw (λ s. IsAt named n s u w → w ≡ (if named then u else blank s)) (λ is. is) (λ is. is) (λ is. is) sort draws

fresh_is : (named : Bool) (n : ℕ) (sort : Sort) (u w : PureValue) → sort ≡ Sort.Fresh → IsAt named n sort u w → w ≡ symbol n
fresh_is named n sort u w fresh is = subst (λ s. IsAt named n s u w) fresh is

free : (sort : Sort) (w : PureValue) → IsDraw sort → IsTrue (has_sort sort w) → symbols w ≡ []
free sort w (k, draws) fits = no_symbols k sort draws w (fits_kind k sort draws w fits)

blank_fits : (sort : Sort) → IsDraw sort → IsTrue (has_sort sort (blank sort))
blank_fits = by_draw (λ s. IsTrue (has_sort s (blank s))) refl refl refl

-- a value without symbols of its own keeps its name
kept_name : (f : ℕ → ℕ) (w : PureValue) (k : Kind) (sort : Sort) → draw_sort k ≡ Some sort → kind_of w ≡ k → renamed f w ≡ w
kept_name f (integer n) k sort draws is = refl
kept_name f (boolean b) k sort draws is = refl
kept_name f (text cs) k sort draws is = refl
kept_name f (kind j) k sort draws is = refl
kept_name f (procedure name) k sort draws is = refl
kept_name f (symbol n) k sort draws is = not_none (subst (λ j. draw_sort j ≡ Some sort) (sym is) draws)
kept_name f (list ws) k sort draws is = not_none (subst (λ j. draw_sort j ≡ Some sort) (sym is) draws)

fresh_symbol : (w : PureValue) → IsTrue (has_sort Sort.Fresh w) → (m : ℕ) × (w ≡ symbol m)
fresh_symbol (symbol m) is = (m, refl)
fresh_symbol (integer n) is = absurd (true≢false (sym is))
fresh_symbol (boolean b) is = absurd (true≢false (sym is))
fresh_symbol (text cs) is = absurd (true≢false (sym is))
fresh_symbol (kind j) is = absurd (true≢false (sym is))
fresh_symbol (procedure name) is = absurd (true≢false (sym is))
fresh_symbol (list ws) is = absurd (true≢false (sym is))

-- ---- proper

tail_proper : (sort : Sort) (sorts : List Sort) (u : PureValue) (us : List PureValue) → IsProper (sort ∷ sorts) (u ∷ us) → IsProper sorts us
tail_proper sort sorts u us proper = record {
  one_each = let both : suc (length us) ≡ suc (length sorts) = proper.one_each in omega (arith, both);
  sorts = λ x s w in_table at. proper.sorts (suc x) s w in_table at;
  fresh = λ x y n w in_table at less there. proper.fresh (suc x) (suc y) n w in_table at (omega (arith, less)) there;
}

counter_grows : (sort : Sort) (n : ℕ) → n ≤ counter_after sort n
counter_grows Sort.Fresh n = omega arith
counter_grows Sort.Int n = omega arith
counter_grows Sort.Bool n = omega arith
counter_grows Sort.Str n = omega arith
counter_grows Sort.Sym n = omega arith
counter_grows Sort.List n = omega arith
counter_grows Sort.Any n = omega arith

same_symbol : (m n : ℕ) → symbol m ≡ symbol n → m ≡ n
same_symbol m n is = cc

only_symbol : (m n : ℕ) → OccursIn m (symbol n) → n ≡ m
only_symbol m n occurs = ⊎_elim (λ none. absurd (none_contained m none)) (λ is. is) (push_cases m n occurs) where
  push_cases : (m n : ℕ) → Contains (n ∷ []) m → Contains [] m ⊎ (n ≡ m)
  push_cases m n (zero, within, is) = inr is
  push_cases m n (suc k, within, is) = absurd (omega (arith, within))

-- a later fresh variable has a symbol from n on
from_counter : (named : ℕ → Bool) (n : ℕ) (sorts : List Sort) (us ws : List PureValue) → IsMade named n sorts us ws → (x m : ℕ) → slice_get sorts x ≡ Some Sort.Fresh → slice_get ws x ≡ Some (symbol m) → n ≤ m
from_counter named n [] us ws made x m fresh at = not_none fresh
from_counter named n (sort ∷ sorts) [] ws made x m fresh at = absurd made
from_counter named n (sort ∷ sorts) (u ∷ us) [] made x m fresh at = absurd made
from_counter named n (sort ∷ sorts) (u ∷ us) (w ∷ ws) made zero m fresh at =
    let same : symbol m ≡ symbol n = sym (same_some at) ∙ fresh_is (named 0) n sort u w (same_some fresh) made.0 in
    let is : m ≡ n = same_symbol m n same in
    omega (arith, is)
from_counter named n (sort ∷ sorts) (u ∷ us) (w ∷ ws) made (suc x) m fresh at =
    let later : counter_after sort n ≤ m = from_counter (λ i. named (suc i)) (counter_after sort n) sorts us ws made.1 x m fresh at in
    let grows : n ≤ counter_after sort n = counter_grows sort n in
    omega (arith, later, grows)

chosen_fits : (named : Bool) (sort : Sort) (u : PureValue) → IsDraw sort → IsTrue (has_sort sort u) → IsTrue (has_sort sort (if named then u else blank sort))
chosen_fits true sort u draws fits = fits
chosen_fits false sort u draws fits = blank_fits sort draws

head_fits : (named : Bool) (n : ℕ) (sort : Sort) (u w : PureValue) → IsNewSort sort → IsTrue (has_sort sort u) → IsAt named n sort u w → IsTrue (has_sort sort w)
head_fits named n sort u w new fits is =
    ⊎_elim
    (λ fresh. subst (λ s. IsTrue (has_sort s w)) (sym fresh) (subst (λ z. IsTrue (has_sort Sort.Fresh z)) (sym (fresh_is named n sort u w fresh is)) refl))
    (λ draws. subst (λ z. IsTrue (has_sort sort z)) (sym (draw_is named n sort u w draws is)) (chosen_fits named sort u draws fits))
    (fresh_or_draw sort new)

-- the symbols of the first value are below the counter after it
head_below : (named : Bool) (n : ℕ) (sort : Sort) (u w : PureValue) → IsNewSort sort → IsTrue (has_sort sort u) → IsAt named n sort u w → (m : ℕ) → OccursIn m w → m < counter_after sort n
head_below named n sort u w new fits is m occurs =
    ⊎_elim
    (λ fresh.
    let same : n ≡ m = only_symbol m n (subst (OccursIn m) (fresh_is named n sort u w fresh is) occurs) in
    subst (λ s. m < counter_after s n) (sym fresh) (omega (arith, same)))
    (λ draws. absurd (none_contained m (subst (λ ns. Contains ns m) (free sort w draws (head_fits named n sort u w new fits is)) occurs)))
    (fresh_or_draw sort new)

made_proper : (named : ℕ → Bool) (n : ℕ) (sorts : List Sort) (us ws : List PureValue) → Each IsNewSort sorts → IsProper sorts us → IsMade named n sorts us ws → IsProper sorts ws
made_proper named n [] [] [] new proper made = proper
made_proper named n [] [] (w ∷ ws) new proper made = absurd made
made_proper named n [] (u ∷ us) ws new proper made = absurd made
made_proper named n (sort ∷ sorts) [] ws new proper made = absurd made
made_proper named n (sort ∷ sorts) (u ∷ us) [] new proper made = absurd made
made_proper named n (sort ∷ sorts) (u ∷ us) (w ∷ ws) new proper made =
    let later : IsProper sorts ws = made_proper (λ i. named (suc i)) (counter_after sort n) sorts us ws new.1 (tail_proper sort sorts u us proper) made.1 in
    let fits : IsTrue (has_sort sort u) = proper.sorts 0 sort u refl refl in
    record {
      one_each = ap suc later.one_each;
      sorts = sorts_of later (head_fits (named 0) n sort u w new.0 fits made.0);
      fresh = fresh_of later (head_below (named 0) n sort u w new.0 fits made.0);
    } where
      sorts_of : IsProper sorts ws → IsTrue (has_sort sort w) → (x : ℕ) (s : Sort) (z : PureValue) → slice_get (sort ∷ sorts) x ≡ Some s → slice_get (w ∷ ws) x ≡ Some z → IsTrue (has_sort s z)
      sorts_of later here zero s z in_table at = subst (λ k. IsTrue (has_sort k z)) (same_some in_table) (subst (λ y. IsTrue (has_sort sort y)) (same_some at) here)
      sorts_of later here (suc x) s z in_table at = later.sorts x s z in_table at

      fresh_of : IsProper sorts ws → ((m : ℕ) → OccursIn m w → m < counter_after sort n) → (x y m : ℕ) (z : PureValue) → slice_get (sort ∷ sorts) x ≡ Some Sort.Fresh → slice_get (w ∷ ws) x ≡ Some (symbol m) → y < x
          → slice_get (w ∷ ws) y ≡ Some z → OccursIn m z → ⊥
      fresh_of later below zero y m z in_table at less at_y occurs = omega (arith, less)
      fresh_of later below (suc x) zero m z in_table at less at_y occurs =
          let low : m < counter_after sort n = below m (subst (OccursIn m) (sym (same_some at_y)) occurs) in
          let high : counter_after sort n ≤ m = from_counter (λ i. named (suc i)) (counter_after sort n) sorts us ws made.1 x m in_table at in
          omega (arith, low, high)
      fresh_of later below (suc x) (suc y) m z in_table at less at_y occurs = later.fresh x y m z in_table at (omega (arith, less)) at_y occurs

-- ---- the symbols of the old valuation, and where they stand in its list

abbrev position : ℕ → List ℕ → ℕ
position m [] = 0
position m (k ∷ ks) = if eqb k m then 0 else suc (position m ks)

cons_cases : {X : Type 0} (k : X) (ks : List X) (m : X) → Contains (k ∷ ks) m → (k ≡ m) ⊎ Contains ks m
cons_cases k ks m (zero, within, is) = inl is
cons_cases k ks m (suc i, within, is) = inr (i, omega (arith, within), is)

position-other : (k m : ℕ) (ks : List ℕ) → eqb k m ≡ false → position m (k ∷ ks) ≡ suc (position m ks)
position-other k m ks unlike = ap (λ b. if b then 0 else suc (position m ks)) unlike

position-first : (k m : ℕ) (ks : List ℕ) → eqb k m ≡ true → position m (k ∷ ks) ≡ 0
position-first k m ks chosen = ap (λ b. if b then 0 else suc (position m ks)) chosen

not_first : (k m : ℕ) (ks : List ℕ) → (k ≡ m → ⊥) → Contains (k ∷ ks) m → Contains ks m
not_first k m ks unlike has = ⊎_elim (λ is. absurd (unlike is)) (λ later. later) (cons_cases k ks m has)

positions_apart : (ks : List ℕ) (m l : ℕ) → Contains ks m → Contains ks l → position m ks ≡ position l ks → m ≡ l
positions_apart [] m l of_m of_l same = absurd (none_contained m of_m)
positions_apart (k ∷ ks) m l of_m of_l same =
    ⊎_elim
    (λ (is_m : k ≡ m). ⊎_elim
    (λ (is_l : k ≡ l). sym is_m ∙ is_l)
    (λ (no_l : k ≡ l → ⊥).
    let wrong : 0 ≡ suc (position l ks) = sym (position-first k m ks (eq-eqb k m is_m)) ∙ same ∙ position-other k l ks (ne_eqb k l no_l) in
    absurd (omega (arith, wrong)))
    (cases_eq k l))
    (λ (no_m : k ≡ m → ⊥). ⊎_elim
    (λ (is_l : k ≡ l).
    let wrong : suc (position m ks) ≡ 0 = sym (position-other k m ks (ne_eqb k m no_m)) ∙ same ∙ position-first k l ks (eq-eqb k l is_l) in
    absurd (omega (arith, wrong)))
    (λ (no_l : k ≡ l → ⊥).
    let next : suc (position m ks) ≡ suc (position l ks) = sym (position-other k m ks (ne_eqb k m no_m)) ∙ same ∙ position-other k l ks (ne_eqb k l no_l) in
    positions_apart ks m l (not_first k m ks no_m of_m) (not_first k l ks no_l of_l) (omega (arith, next)))
    (cases_eq k l))
    (cases_eq k m)

-- a symbol that occurs is that of a fresh variable
where_fresh : (sorts : List Sort) (us : List PureValue) → Each IsNewSort sorts → IsProper sorts us → (m : ℕ) → OccursAmong m us → (x : ℕ) × ((slice_get sorts x ≡ Some Sort.Fresh) × (slice_get us x ≡ Some (symbol m)))
where_fresh sorts [] new proper m occurs = absurd (none_contained m occurs)
where_fresh [] (u ∷ us) new proper m occurs = let unlike : suc (length us) ≡ 0 = proper.one_each in absurd (omega (arith, unlike))
where_fresh (sort ∷ sorts) (u ∷ us) new proper m occurs =
    let fits : IsTrue (has_sort sort u) = proper.sorts 0 sort u refl refl in
    ⊎_elim
    (λ here. ⊎_elim
    (λ (fresh : sort ≡ Sort.Fresh).
    let (k, is) = fresh_symbol u (subst (λ s. IsTrue (has_sort s u)) fresh fits) in
    let same : k ≡ m = only_symbol m k (subst (OccursIn m) is here) in
    (0, (ap Some fresh, ap Some (is ∙ ap symbol same))))
    (λ draws. absurd (none_contained m (subst (λ ns. Contains ns m) (free sort u draws fits) here)))
    (fresh_or_draw sort new.0))
    (λ later. let (x, (in_table, at)) = where_fresh sorts us new.1 (tail_proper sort sorts u us proper) m later in (suc x, (in_table, at)))
    (Contains-append_cases (symbols u) (symbols_of_all us) m occurs)

-- ---- named variables have their old values, with other names for the symbols

module _ (g : ℕ → ℕ) where
  abbrev Counts : ℕ → List PureValue → Type 0
  Counts n us = (m : ℕ) → OccursAmong m us → g m ≡ n + position m (symbols_of_all us)

  -- the first variable
  first_agrees : (named : Bool) (n : ℕ) (sort : Sort) (u w : PureValue) (us : List PureValue) → IsNewSort sort → IsTrue (has_sort sort u) → IsAt named n sort u w → Counts n (u ∷ us) → named ≡ true → w ≡ renamed g u
  first_agrees named n sort u w us new fits is counts chosen =
      ⊎_elim
      (λ (fresh : sort ≡ Sort.Fresh).
      let (m, of_m) = fresh_symbol u (subst (λ s. IsTrue (has_sort s u)) fresh fits) in
      let occurs : OccursAmong m (symbol m ∷ us) = Contains-append_left (m ∷ []) (symbols_of_all us) m (Contains-push [] m) in
      let at : g m ≡ n + position m (m ∷ symbols_of_all us) = (subst (λ z. Counts n (z ∷ us)) of_m counts) m occurs in
      let first : position m (m ∷ symbols_of_all us) ≡ 0 = position-first m m (symbols_of_all us) (eq-eqb m m refl) in
      let count : n ≡ g m = omega (arith, at, first) in
      fresh_is named n sort u w fresh is ∙ ap symbol count ∙ sym (ap (renamed g) of_m))
      (λ (k, draws). draw_is named n sort u w (k, draws) is ∙ ap (λ b. if b then u else blank sort) chosen ∙ sym (kept_name g u k sort draws (fits_kind k sort draws u fits)))
      (fresh_or_draw sort new)

  -- after the first variable
  counts_on : (n : ℕ) (sort : Sort) (sorts : List Sort) (u : PureValue) (us : List PureValue) → IsNewSort sort → Each IsNewSort sorts → IsProper (sort ∷ sorts) (u ∷ us) → Counts n (u ∷ us) → Counts (counter_after sort n) us
  counts_on n sort sorts u us new news proper counts m occurs =
      let fits : IsTrue (has_sort sort u) = proper.sorts 0 sort u refl refl in
      let at : g m ≡ n + position m (symbols u ++ symbols_of_all us) = counts m (Contains-append_right (symbols u) (symbols_of_all us) m occurs) in
      ⊎_elim
      (λ (fresh : sort ≡ Sort.Fresh).
      let (k, of_k) = fresh_symbol u (subst (λ s. IsTrue (has_sort s u)) fresh fits) in
      let (x, (in_table, found)) = where_fresh sorts us news (tail_proper sort sorts u us proper) m occurs in
      let other : eqb k m ≡ false = ne_eqb k m (λ is. proper.fresh (suc x) 0 m u in_table found (omega arith) refl (subst (OccursIn m) (sym of_k) (subst (λ j. Contains (k ∷ []) j) is (Contains-push [] k)))) in
      let at_k : g m ≡ n + position m (k ∷ symbols_of_all us) = subst (λ z. g m ≡ n + position m (symbols z ++ symbols_of_all us)) of_k at in
      let next : position m (k ∷ symbols_of_all us) ≡ suc (position m (symbols_of_all us)) = position-other k m (symbols_of_all us) other in
      subst (λ s. g m ≡ counter_after s n + position m (symbols_of_all us)) (sym fresh) (omega (arith, at_k, next)))
      (λ (draws : IsDraw sort).
      let kept : counter_after sort n ≡ n = by_draw (λ s. counter_after s n ≡ n) refl refl refl sort draws in
      subst (λ c. g m ≡ c + position m (symbols_of_all us)) (sym kept) (subst (λ ns. g m ≡ n + position m (ns ++ symbols_of_all us)) (free sort u draws fits) at))
      (fresh_or_draw sort new)

  agrees : (named : ℕ → Bool) (n : ℕ) (sorts : List Sort) (us ws : List PureValue) → Each IsNewSort sorts → IsProper sorts us → IsMade named n sorts us ws → Counts n us
      → (x : ℕ) (s : Sort) → slice_get sorts x ≡ Some s → named x ≡ true → slice_get ws x ≡ slice_get (map (renamed g) us) x
  agrees named n [] us ws new proper made counts x s in_table chosen = not_none in_table
  agrees named n (sort ∷ sorts) [] ws new proper made counts x s in_table chosen = absurd made
  agrees named n (sort ∷ sorts) (u ∷ us) [] new proper made counts x s in_table chosen = absurd made
  agrees named n (sort ∷ sorts) (u ∷ us) (w ∷ ws) new proper made counts zero s in_table chosen =
      ap Some (first_agrees (named 0) n sort u w us new.0 (proper.sorts 0 sort u refl refl) made.0 counts chosen)
  agrees named n (sort ∷ sorts) (u ∷ us) (w ∷ ws) new proper made counts (suc x) s in_table chosen =
      agrees (λ i. named (suc i)) (counter_after sort n) sorts us ws new.1 (tail_proper sort sorts u us proper) made.1 (counts_on n sort sorts u us new.0 new.1 proper counts) x s in_table chosen

-- ---- truth

or_left : (a b : Bool) → a ≡ true → (a || b) ≡ true
or_left true b is = refl
or_left false b is = absurd (true≢false (sym is))

or_right : (a b : Bool) → b ≡ true → (a || b) ≡ true
or_right true b is = refl
or_right false b is = is

number_named : (xs : List Var) (x : Var) → Contains xs x → list_any (λ y. eqb x.number y.number) xs ≡ true
number_named [] x has = absurd (none_contained x has)
number_named (y ∷ xs) x has =
    ⊎_elim
    (λ (is : y ≡ x). or_left (eqb x.number y.number) (list_any (λ z. eqb x.number z.number) xs) (eq-eqb x.number y.number (λ i. (sym is i).number)))
    (λ later. or_right (eqb x.number y.number) (list_any (λ z. eqb x.number z.number) xs) (number_named xs x later))
    (cons_cases y xs x has)

variables_named : (atoms : List PureAtom) (x : Var) → Contains (variables_of_atoms atoms) x → is_named atoms x.number ≡ true
variables_named [] x has = absurd (none_contained x has)
variables_named (a ∷ atoms) x has =
    ⊎_elim
    (λ here. or_left (names_number x.number (term_of a)) (is_named atoms x.number) (number_named (variables (term_of a)) x here))
    (λ later. or_right (names_number x.number (term_of a)) (is_named atoms x.number) (variables_named atoms x later))
    (Contains-append_cases (variables (term_of a)) (variables_of_atoms atoms) x has)

all_true-alike : (v w : List PureValue) (atoms : List PureAtom) → AgreeOn (variables_of_atoms atoms) v w → all_true v atoms ≡ all_true w atoms
all_true-alike v w [] agree = refl
all_true-alike v w (a ∷ atoms) agree = λ i.
    depend_on_variables.truths a v w (λ x has. agree x (Contains-append_left (variables (term_of a)) (variables_of_atoms atoms) x has)) i
    && all_true-alike v w atoms (λ x has. agree x (Contains-append_right (variables (term_of a)) (variables_of_atoms atoms) x has)) i

all_true-renamed : (f : ℕ → ℕ) (v : List PureValue) (atoms : List PureAtom) → IsOneToOneOn (symbols_of_all v) f → all_true (map (renamed f) v) atoms ≡ all_true v atoms
all_true-renamed f v [] apart = refl
all_true-renamed f v (a ∷ atoms) apart = λ i. renaming_keeps.truths f v a apart i && all_true-renamed f v atoms apart i

made_meets : (vars : List Sort) (atoms : List PureAtom) (v w : List PureValue) → Each IsNewSort vars → AreOver vars atoms → Satisfies vars v atoms → IsMade (is_named atoms) 0 vars v w → IsTrue (all_true w atoms)
made_meets vars atoms v w new over sat made =
    let g = λ (m : ℕ). position m (symbols_of_all v) in
    all_true-alike w (map (renamed g) v) atoms (λ x has.
    agrees g (is_named atoms) 0 vars v w new sat.proper made (λ m occurs. sym (zero-add (position m (symbols_of_all v)))) x.number x.sort (over x has) (variables_named atoms x has))
    ∙ all_true-renamed g v atoms (positions_apart (symbols_of_all v)) ∙ sat.true_there

-- ---- its own draws

pub at_length : {X : Type 0} (xs : List X) (y : X) (ys : List X) → slice_get (xs ++ y ∷ ys) (length xs) ≡ Some y
at_length [] y ys = refl
at_length (x ∷ xs) y ys = at_length xs y ys

drawn_here : (inputs before : List PureValue) (w : PureValue) (later : List PureValue) → inputs ≡ before ++ w ∷ later → slice_get inputs (length before) ≡ Some w
drawn_here inputs before w later is = ap (λ us. slice_get us (length before)) is ∙ at_length before w later

one_longer : (before : List PureValue) (w : PureValue) → length (before ++ w ∷ []) ≡ suc (length before)
one_longer before w = let pushed : length (before ++ w ∷ []) ≡ length before + 1 = length_push before w in omega (arith, pushed)

own_draws : (named : ℕ → Bool) (n : ℕ) (inputs before : List PureValue) (sorts : List Sort) (us ws : List PureValue) → Each IsNewSort sorts → IsMade named n sorts us ws → inputs ≡ before ++ draws_among sorts ws
    → AreNext inputs n (length before) sorts ws
own_draws named n inputs before [] [] [] new made is = tt
own_draws named n inputs before [] [] (w ∷ ws) new made is = absurd made
own_draws named n inputs before [] (u ∷ us) ws new made is = absurd made
own_draws named n inputs before (sort ∷ sorts) [] ws new made is = absurd made
own_draws named n inputs before (sort ∷ sorts) (u ∷ us) [] new made is = absurd made
own_draws named n inputs before (Sort.Fresh ∷ sorts) (u ∷ us) (w ∷ ws) new made is = (made.0, own_draws (λ i. named (suc i)) (suc n) inputs before sorts us ws new.1 made.1 is)
own_draws named n inputs before (Sort.Int ∷ sorts) (u ∷ us) (w ∷ ws) new made is = (
  drawn_here inputs before w (draws_among sorts ws) is,
  subst (λ d. AreNext inputs n d sorts ws) (one_longer before w)
      (own_draws (λ i. named (suc i)) n inputs (before ++ w ∷ []) sorts us ws new.1 made.1 (is ∙ sym (append_assoc before (w ∷ []) (draws_among sorts ws)))),
)
own_draws named n inputs before (Sort.Bool ∷ sorts) (u ∷ us) (w ∷ ws) new made is = (
  drawn_here inputs before w (draws_among sorts ws) is,
  subst (λ d. AreNext inputs n d sorts ws) (one_longer before w)
      (own_draws (λ i. named (suc i)) n inputs (before ++ w ∷ []) sorts us ws new.1 made.1 (is ∙ sym (append_assoc before (w ∷ []) (draws_among sorts ws)))),
)
own_draws named n inputs before (Sort.Str ∷ sorts) (u ∷ us) (w ∷ ws) new made is = (
  drawn_here inputs before w (draws_among sorts ws) is,
  subst (λ d. AreNext inputs n d sorts ws) (one_longer before w)
      (own_draws (λ i. named (suc i)) n inputs (before ++ w ∷ []) sorts us ws new.1 made.1 (is ∙ sym (append_assoc before (w ∷ []) (draws_among sorts ws)))),
)
own_draws named n inputs before (Sort.Sym ∷ sorts) (u ∷ us) (w ∷ ws) new made is = absurd new.0
own_draws named n inputs before (Sort.List ∷ sorts) (u ∷ us) (w ∷ ws) new made is = absurd new.0
own_draws named n inputs before (Sort.Any ∷ sorts) (u ∷ us) (w ∷ ws) new made is = absurd new.0

-- as many draws as are listed
pub as_many_draws : (k : ℕ) (sorts : List Sort) (ws : List PureValue) → length ws ≡ length sorts → length (draws_among sorts ws) ≡ length (drawn_from k sorts)
as_many_draws k [] [] same = refl
as_many_draws k [] (w ∷ ws) same = refl
as_many_draws k (sort ∷ sorts) [] same = absurd (omega (arith, same))
as_many_draws k (Sort.Fresh ∷ sorts) (w ∷ ws) same = as_many_draws (suc k) sorts ws (omega (arith, same))
as_many_draws k (Sort.Int ∷ sorts) (w ∷ ws) same = ap suc (as_many_draws (suc k) sorts ws (omega (arith, same)))
as_many_draws k (Sort.Bool ∷ sorts) (w ∷ ws) same = ap suc (as_many_draws (suc k) sorts ws (omega (arith, same)))
as_many_draws k (Sort.Str ∷ sorts) (w ∷ ws) same = ap suc (as_many_draws (suc k) sorts ws (omega (arith, same)))
as_many_draws k (Sort.Sym ∷ sorts) (w ∷ ws) same = ap suc (as_many_draws (suc k) sorts ws (omega (arith, same)))
as_many_draws k (Sort.List ∷ sorts) (w ∷ ws) same = ap suc (as_many_draws (suc k) sorts ws (omega (arith, same)))
as_many_draws k (Sort.Any ∷ sorts) (w ∷ ws) same = ap suc (as_many_draws (suc k) sorts ws (omega (arith, same)))

-- ---- blank where nothing is said

open_is_blank : (named : ℕ → Bool) (n : ℕ) (sorts : List Sort) (us ws : List PureValue) → Each IsNewSort sorts → IsMade named n sorts us ws → (x : ℕ) (sort : Sort) → slice_get sorts x ≡ Some sort → ¬ (sort ≡ Sort.Fresh) → named x ≡ false
    → slice_get ws x ≡ Some (blank sort)
open_is_blank named n [] us ws new made x s in_table other unlike = not_none in_table
open_is_blank named n (sort ∷ sorts) [] ws new made x s in_table other unlike = absurd made
open_is_blank named n (sort ∷ sorts) (u ∷ us) [] new made x s in_table other unlike = absurd made
open_is_blank named n (sort ∷ sorts) (u ∷ us) (w ∷ ws) new made zero s in_table other unlike =
    let same : sort ≡ s = same_some in_table in
    ⊎_elim
    (λ fresh. absurd (other (sym same ∙ fresh)))
    (λ draws. ap Some (draw_is (named 0) n sort u w draws made.0 ∙ ap (λ b. if b then u else blank sort) unlike ∙ ap blank same))
    (fresh_or_draw sort new.0)
open_is_blank named n (sort ∷ sorts) (u ∷ us) (w ∷ ws) new made (suc x) s in_table other unlike = open_is_blank (λ i. named (suc i)) (counter_after sort n) sorts us ws new.1 made.1 x s in_table other unlike

pub made_is_canonical : (vars : List Sort) (atoms : List PureAtom) (v w : List PureValue) → Each IsNewSort vars → AreOver vars atoms → Satisfies vars v atoms → IsMade (is_named atoms) 0 vars v w → IsCanonical vars atoms w
made_is_canonical vars atoms v w new over sat made = record {
  own = record { in_turn = own_draws (is_named atoms) 0 (draws_among vars w) [] vars v w new made refl; proper = made_proper (is_named atoms) 0 vars v w new sat.proper made };
  meets = made_meets vars atoms v w new over sat made;
  blank_where_open = open_is_blank (is_named atoms) 0 vars v w new made;
}

-- ---- there is one

some_value : (named : Bool) (n : ℕ) (sort : Sort) (u : PureValue) → (w : PureValue) × IsAt named n sort u w
some_value named n Sort.Fresh u = (symbol n, refl)
some_value named n Sort.Int u = ((if named then u else blank Sort.Int), refl)
some_value named n Sort.Bool u = ((if named then u else blank Sort.Bool), refl)
some_value named n Sort.Str u = ((if named then u else blank Sort.Str), refl)
some_value named n Sort.Sym u = ((if named then u else blank Sort.Sym), refl)
some_value named n Sort.List u = ((if named then u else blank Sort.List), refl)
some_value named n Sort.Any u = ((if named then u else blank Sort.Any), refl)

some_made : (named : ℕ → Bool) (n : ℕ) (sorts : List Sort) (us : List PureValue) → length us ≡ length sorts → (ws : List PureValue) × IsMade named n sorts us ws
some_made named n [] [] same = ([], tt)
some_made named n [] (u ∷ us) same = absurd (omega (arith, same))
some_made named n (sort ∷ sorts) [] same = absurd (omega (arith, same))
some_made named n (sort ∷ sorts) (u ∷ us) same =
    let (w, is) = some_value (named 0) n sort u in
    let (ws, made) = some_made (λ i. named (suc i)) (counter_after sort n) sorts us (omega (arith, same)) in
    (w ∷ ws, (is, made))

pub some_canonical : (vars : List Sort) (atoms : List PureAtom) (v : List PureValue) → Each IsNewSort vars → AreOver vars atoms → Satisfies vars v atoms → (w : List PureValue) × IsCanonical vars atoms w
some_canonical vars atoms v new over sat =
    let (w, made) = some_made (is_named atoms) 0 vars v sat.proper.one_each in
    (w, made_is_canonical vars atoms v w new over sat made)

-- ---- draws, one by one

draws_more : (sorts : List Sort) (ws : List PureValue) (sort : Sort) (w : PureValue) → length ws ≡ length sorts → draws_among (sorts ++ sort ∷ []) (ws ++ w ∷ []) ≡ draws_among sorts ws ++ draw_and sort w []
draws_more [] [] sort w same = refl
draws_more [] (v ∷ ws) sort w same = absurd (omega (arith, same))
draws_more (s ∷ sorts) [] sort w same = absurd (omega (arith, same))
draws_more (Sort.Fresh ∷ sorts) (v ∷ ws) sort w same = draws_more sorts ws sort w (omega (arith, same))
draws_more (Sort.Int ∷ sorts) (v ∷ ws) sort w same = ap (λ us. v ∷ us) (draws_more sorts ws sort w (omega (arith, same)))
draws_more (Sort.Bool ∷ sorts) (v ∷ ws) sort w same = ap (λ us. v ∷ us) (draws_more sorts ws sort w (omega (arith, same)))
draws_more (Sort.Str ∷ sorts) (v ∷ ws) sort w same = ap (λ us. v ∷ us) (draws_more sorts ws sort w (omega (arith, same)))
draws_more (Sort.Sym ∷ sorts) (v ∷ ws) sort w same = ap (λ us. v ∷ us) (draws_more sorts ws sort w (omega (arith, same)))
draws_more (Sort.List ∷ sorts) (v ∷ ws) sort w same = ap (λ us. v ∷ us) (draws_more sorts ws sort w (omega (arith, same)))
draws_more (Sort.Any ∷ sorts) (v ∷ ws) sort w same = ap (λ us. v ∷ us) (draws_more sorts ws sort w (omega (arith, same)))

pub draws_next : (sorts : List Sort) (ws inputs : List PureValue) (i : ℕ) (sort : Sort) (w : PureValue) → length ws ≡ length sorts → inputs ≡ draws_among (take i sorts) (take i ws) → slice_get sorts i ≡ Some sort → slice_get ws i ≡ Some w
    → inputs ++ draw_and sort w [] ≡ draws_among (take (i + 1) sorts) (take (i + 1) ws)
draws_next sorts ws inputs i sort w same so_far in_table at =
    let more_sorts : take (i + 1) sorts ≡ take i sorts ++ sort ∷ [] = ap (λ n. take n sorts) (add-one i) ∙ take-push sorts i sort in_table in
    let more_values : take (i + 1) ws ≡ take i ws ++ w ∷ [] = ap (λ n. take n ws) (add-one i) ∙ take-push ws i w at in
    let within : i < length sorts = slice_get_within sorts i sort in_table in
    let place : length (take i sorts) ≡ i = length-take-le i sorts (omega (arith, within)) in
    let value_place : length (take i ws) ≡ i = length-take-le i ws (omega (arith, within, same)) in
    ap (λ us. us ++ draw_and sort w []) so_far ∙ sym (draws_more (take i sorts) (take i ws) sort w (value_place ∙ sym place)) ∙ (λ j. draws_among (sym more_sorts j) (sym more_values j))

pub draws_whole : (sorts : List Sort) (ws inputs : List PureValue) (i : ℕ) → length ws ≡ length sorts → inputs ≡ draws_among (take i sorts) (take i ws) → length sorts ≤ i → inputs ≡ draws_among sorts ws
draws_whole sorts ws inputs i same so_far past = so_far ∙ (λ j. draws_among (take_all i sorts past j) (take_all i ws (omega (arith, same, past)) j))

-- ---- its numbers are those of the other one, or 0

value_moderate : (named : Bool) (n : ℕ) (sort : Sort) (u w : PureValue) → has_moderate_numbers u ≡ true → IsAt named n sort u w → has_moderate_numbers w ≡ true
value_moderate named n Sort.Fresh u w moderate is = ap has_moderate_numbers is
value_moderate true n Sort.Int u w moderate is = ap has_moderate_numbers is ∙ moderate
value_moderate false n Sort.Int u w moderate is = ap has_moderate_numbers is
value_moderate true n Sort.Bool u w moderate is = ap has_moderate_numbers is ∙ moderate
value_moderate false n Sort.Bool u w moderate is = ap has_moderate_numbers is
value_moderate true n Sort.Str u w moderate is = ap has_moderate_numbers is ∙ moderate
value_moderate false n Sort.Str u w moderate is = ap has_moderate_numbers is
value_moderate true n Sort.Sym u w moderate is = ap has_moderate_numbers is ∙ moderate
value_moderate false n Sort.Sym u w moderate is = ap has_moderate_numbers is
value_moderate true n Sort.List u w moderate is = ap has_moderate_numbers is ∙ moderate
value_moderate false n Sort.List u w moderate is = ap has_moderate_numbers is
value_moderate true n Sort.Any u w moderate is = ap has_moderate_numbers is ∙ moderate
value_moderate false n Sort.Any u w moderate is = ap has_moderate_numbers is

pub made_moderate : (named : ℕ → Bool) (n : ℕ) (sorts : List Sort) (us ws : List PureValue) → IsMade named n sorts us ws → IsTrue (list_all has_moderate_numbers us) → IsTrue (list_all has_moderate_numbers ws)
made_moderate named n [] [] [] made all = refl
made_moderate named n [] [] (w ∷ ws) made all = absurd made
made_moderate named n [] (u ∷ us) ws made all = absurd made
made_moderate named n (sort ∷ sorts) [] ws made all = absurd made
made_moderate named n (sort ∷ sorts) (u ∷ us) [] made all = absurd made
made_moderate named n (sort ∷ sorts) (u ∷ us) (w ∷ ws) made all =
    let parts = and_parts (has_moderate_numbers u) (list_all has_moderate_numbers us) all in
    and_from (has_moderate_numbers w) (list_all has_moderate_numbers ws) (value_moderate (named 0) n sort u w parts.0 made.0)
    (made_moderate (λ i. named (suc i)) (counter_after sort n) sorts us ws made.1 parts.1)
