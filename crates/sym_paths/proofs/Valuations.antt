-- Valuations that are extended: symbols below a counter, proper valuations, and values of new variables in turn.
use Rattle.std.proofs.Common.{◌≡◌, ◌⊎◌, ⊎_elim, inl, inr, ℕ, zero, suc, ◌+◌, ◌<◌, ◌≤◌, List, [], ◌∷◌, ◌++◌, length, slice_get, Some, IsTrue, refl, sym, ap, subst, ◌∙◌, arith}
use Rattle.std.proofs.lemmas.List.{length_push}
use Rattle.std.proofs.lemmas.List.Elements.{Contains-append_left, Contains-append_right, Contains-append_cases, Contains-push_cases}
use Rattle.std.proofs.lemmas.Option.{slice_get_within}
use Rattle.gil_values.specs.Pure.{PureValue, symbol}
use Rattle.gil_values.specs.Symbols.{symbols, symbols_of_all, OccursIn, OccursAmong, AreBelow}
use Rattle.gil_values.proofs.OperatorSymbols.{none_contained}
use Rattle.pure_terms.specs.declared.variables.Sort.{Sort}
use Rattle.pure_terms.specs.Kinds.{has_sort}
use Rattle.pure_terms.specs.Meaning.{IsProper}
use Rattle.sym_model.proofs.ListLaws.{same_some, not_none}
use Rattle.sym_paths.specs.Laws.{LaterVariablesAreProper, VariablesFollowInTurn}
use Rattle.sym_paths.specs.Steps.{counter_after, draws_after}

-- ---- symbols below a counter

pub below_both : (n : ℕ) (v w : List PureValue) → AreBelow n v → AreBelow n w → AreBelow n (v ++ w)
below_both n [] w first second m occurs = second m occurs
below_both n (u ∷ v) w first second m occurs =
    ⊎_elim
    (λ here. first m (Contains-append_left (symbols u) (symbols_of_all v) m here))
    (λ later. below_both n v w (λ k o. first k (Contains-append_right (symbols u) (symbols_of_all v) k o)) second m later)
    (Contains-append_cases (symbols u) (symbols_of_all (v ++ w)) m occurs)

pub below_higher : (n m : ℕ) (v : List PureValue) → n ≤ m → AreBelow n v → AreBelow m v
below_higher n m v higher below k occurs = let less : k < n = below k occurs in omega (arith, less, higher)

pub below_next : (n : ℕ) → AreBelow (suc n) (symbol n ∷ [])
below_next n m occurs = ⊎_elim (λ none. absurd (none_contained m none)) (λ (is : n ≡ m). omega (arith, is)) (Contains-push_cases [] n m occurs)

among : (v : List PureValue) (y : ℕ) (w : PureValue) (n : ℕ) → slice_get v y ≡ Some w → OccursIn n w → OccursAmong n v
among [] y w n at occurs = not_none at
among (u ∷ v) zero w n at occurs = Contains-append_left (symbols u) (symbols_of_all v) n (subst (OccursIn n) (sym (same_some at)) occurs)
among (u ∷ v) (suc y) w n at occurs = Contains-append_right (symbols u) (symbols_of_all v) n (among v y w n at occurs)

-- ---- one more variable

last_or_before : {X : Type 0} (xs : List X) (y : X) (i : ℕ) (z : X) → slice_get (xs ++ y ∷ []) i ≡ Some z → (slice_get xs i ≡ Some z) ⊎ ((i ≡ length xs) × (y ≡ z))
last_or_before [] y zero z is = inr (refl, same_some is)
last_or_before [] y (suc i) z is = not_none is
last_or_before (x ∷ xs) y zero z is = inl is
last_or_before (x ∷ xs) y (suc i) z is = ⊎_elim inl (λ (last : (i ≡ length xs) × (y ≡ z)). let at : i ≡ length xs = last.0 in inr (omega (arith, at), last.1)) (last_or_before xs y i z is)

apart : {X : Type 0} (k l i : ℕ) (xs : List X) (z : X) → k ≡ l → i ≡ k → length xs ≡ l → slice_get xs i ≡ Some z → ⊥
apart k l i xs z same last is at = let within : i < length xs = slice_get_within xs i z at in omega (arith, same, last, is, within)

abbrev AtBoth : List Sort → List PureValue → Sort → PureValue → ℕ → Sort → PureValue → Type 0
AtBoth vars v sort w x s u = ((slice_get vars x ≡ Some s) × (slice_get v x ≡ Some u)) ⊎ ((x ≡ length v) × (sort ≡ s) × (w ≡ u))

both_of : (vars : List Sort) (v : List PureValue) (sort : Sort) (w : PureValue) (x : ℕ) (s : Sort) (u : PureValue) → length v ≡ length vars
    → (slice_get vars x ≡ Some s) ⊎ ((x ≡ length vars) × (sort ≡ s)) → (slice_get v x ≡ Some u) ⊎ ((x ≡ length v) × (w ≡ u)) → AtBoth vars v sort w x s u
both_of vars v sort w x s u one_each (inl a) (inl b) = inl (a, b)
both_of vars v sort w x s u one_each (inr a) (inr b) = inr (b.0, a.1, b.1)
both_of vars v sort w x s u one_each (inl a) (inr b) = absurd (apart (length v) (length vars) x vars s one_each b.0 (λ i. length vars) a)
both_of vars v sort w x s u one_each (inr a) (inl b) = absurd (apart (length vars) (length v) x v u (sym one_each) a.0 (λ i. length v) b)

-- a place of both lists: an old one, or the new one
at_both : (vars : List Sort) (v : List PureValue) (sort : Sort) (w : PureValue) (x : ℕ) (s : Sort) (u : PureValue) → length v ≡ length vars
    → slice_get (vars ++ sort ∷ []) x ≡ Some s → slice_get (v ++ w ∷ []) x ≡ Some u → AtBoth vars v sort w x s u
at_both vars v sort w x s u one_each in_table at =
    both_of vars v sort w x s u one_each (last_or_before vars sort x s in_table) (last_or_before v w x u at)

-- a value of the last variable, below which no symbol of it occurs, if it is a fresh one
abbrev IsNewAbove : List PureValue → Sort → PureValue → Type 0
IsNewAbove v sort w = sort ≡ Sort.Fresh → (n : ℕ) → w ≡ symbol n → (y : ℕ) (u : PureValue) → slice_get v y ≡ Some u → OccursIn n u → ⊥

before_last : (v : List PureValue) (w : PureValue) (y : ℕ) (u : PureValue) → y < length v → slice_get (v ++ w ∷ []) y ≡ Some u → slice_get v y ≡ Some u
before_last v w y u below at =
    ⊎_elim (λ here. here) (λ (last : (y ≡ length v) × (w ≡ u)). let is : y ≡ length v = last.0 in absurd (omega (arith, is, below))) (last_or_before v w y u at)

fresh_kept : (vars : List Sort) (v : List PureValue) (sort : Sort) (w : PureValue) → IsProper vars v → IsNewAbove v sort w → (x y n : ℕ) (u : PureValue)
    → AtBoth vars v sort w x Sort.Fresh (symbol n) → y < x → slice_get (v ++ w ∷ []) y ≡ Some u → OccursIn n u → ⊥
fresh_kept vars v sort w proper new x y n u (inl old) less at occurs =
    let within : x < length v = slice_get_within v x (symbol n) old.1 in
    proper.fresh x y n u old.0 old.1 less (before_last v w y u (omega (arith, less, within)) at) occurs
fresh_kept vars v sort w proper new x y n u (inr last) less at occurs =
    let is : x ≡ length v = last.0 in
    new last.1 n last.2 y u (before_last v w y u (omega (arith, less, is)) at) occurs

sorts_kept : (vars : List Sort) (v : List PureValue) (sort : Sort) (w : PureValue) → IsProper vars v → IsTrue (has_sort sort w) → (x : ℕ) (s : Sort) (u : PureValue)
    → AtBoth vars v sort w x s u → IsTrue (has_sort s u)
sorts_kept vars v sort w proper fits x s u (inl old) = proper.sorts x s u old.0 old.1
sorts_kept vars v sort w proper fits x s u (inr last) = subst (λ k. IsTrue (has_sort k u)) last.1 (subst (λ z. IsTrue (has_sort sort z)) last.2 fits)

one_more : (vars : List Sort) (v : List PureValue) (sort : Sort) (w : PureValue) → IsProper vars v → IsTrue (has_sort sort w) → IsNewAbove v sort w
    → IsProper (vars ++ sort ∷ []) (v ++ w ∷ [])
one_more vars v sort w proper fits new = record {
  one_each = length_push v w ∙ ap (λ k. k + 1) proper.one_each ∙ sym (length_push vars sort);
  sorts = λ x s u in_table at. sorts_kept vars v sort w proper fits x s u (at_both vars v sort w x s u proper.one_each in_table at);
  fresh = λ x y n u in_table at less at_y occurs. fresh_kept vars v sort w proper new x y n u (at_both vars v sort w x Sort.Fresh (symbol n) proper.one_each in_table at) less at_y occurs;
}

same_symbol : (n m : ℕ) → symbol n ≡ symbol m → n ≡ m
same_symbol n m is = cc

counter_is_new : (v : List PureValue) (n : ℕ) → AreBelow n v → IsNewAbove v Sort.Fresh (symbol n)
counter_is_new v n below fresh m is y u at occurs =
    let same : n ≡ m = same_symbol n m is in
    let less : m < n = below m (among v y u m at occurs) in
    omega (arith, same, less)

pub next_fresh : (vars : List Sort) (v : List PureValue) (n : ℕ) → IsProper vars v → AreBelow n v
    → IsProper (vars ++ Sort.Fresh ∷ []) (v ++ symbol n ∷ []) × AreBelow (suc n) (v ++ symbol n ∷ [])
next_fresh vars v n proper below = (
  one_more vars v Sort.Fresh (symbol n) proper refl (counter_is_new v n below),
  below_both (suc n) v (symbol n ∷ []) (below_higher n (suc n) v (omega arith) below) (below_next n),
)

pub later_variables_are_proper : LaterVariablesAreProper
later_variables_are_proper = record {
  fresh = next_fresh;
  drawn = λ vars v sort w proper other fits. one_more vars v sort w proper fits (λ fresh. absurd (other fresh));
}

-- ---- variables in turn

pub variables_follow_in_turn : VariablesFollowInTurn
variables_follow_in_turn inputs n d [] more [] us first second = second
variables_follow_in_turn inputs n d (sort ∷ sorts) more (w ∷ ws) us first second =
    (first.0, variables_follow_in_turn inputs (counter_after sort n) (draws_after sort d) sorts more ws us first.1 second)
variables_follow_in_turn inputs n d [] more (w ∷ ws) us first second = absurd first
variables_follow_in_turn inputs n d (sort ∷ sorts) more [] us first second = absurd first
