-- Lists to which something is appended.
use Rattle.std.proofs.Common.{◌≡◌, ℕ, zero, suc, ◌+◌, ◌-◌, ◌≤◌, min, List, [], ◌∷◌, ◌++◌, length, Some, None, slice_get, refl, sym, ap, ◌∙◌, arith}
use Rattle.std.proofs.lemmas.Option.{slice_get_within}
use Rattle.pure_terms.specs.Pure.{PureTerm, from_list, positive, negative, to_list-from_list}
use Rattle.pure_terms.proofs.VariableLaws.{slice_get-append}
use Rattle.solver_proof.specs.Chains.{equals}
use Rattle.solver_proof.specs.Closing.{element_equalities, element_disequalities, HaveOneLength}

pub found_left : {X : Type 0} (xs ys : List X) (i : ℕ) (x : X) → slice_get xs i ≡ Some x → slice_get (xs ++ ys) i ≡ Some x
found_left xs ys i x is = slice_get-append xs ys i (slice_get_within xs i x is) ∙ is

pub found_right : {X : Type 0} (xs ys : List X) (i k : ℕ) → i ≡ length xs + k → slice_get (xs ++ ys) i ≡ slice_get ys k
found_right [] ys i k e = ap (slice_get ys) (omega (arith, e))
found_right (x ∷ xs) ys zero k e = absurd (omega (arith, e))
found_right (x ∷ xs) ys (suc i) k e = found_right xs ys i k (omega (arith, e))

pub past_end : {X : Type 0} (xs : List X) (i : ℕ) → slice_get xs i ≡ None → length xs ≤ i
past_end [] i is = omega arith
past_end (x ∷ xs) zero is = cc
past_end (x ∷ xs) (suc i) is = let rest : length xs ≤ i = past_end xs i is in omega (arith, rest)

pub length-equalities : (us ws : List PureTerm) → length (element_equalities (from_list us) (from_list ws)) ≡ min (length us) (length ws)
length-equalities [] ws = omega arith
length-equalities (u ∷ us) [] = omega arith
length-equalities (u ∷ us) (w ∷ ws) = let rest : length (element_equalities (from_list us) (from_list ws)) ≡ min (length us) (length ws) = length-equalities us ws in omega (arith, rest)

pub equality_found : (us ws : List PureTerm) (i : ℕ) (u w : PureTerm) → slice_get us i ≡ Some u → slice_get ws i ≡ Some w → slice_get (element_equalities (from_list us) (from_list ws)) i ≡ Some (positive (equals u w))
equality_found [] ws i u w is_u is_w = cc
equality_found (x ∷ us) [] i u w is_u is_w = cc
equality_found (x ∷ us) (y ∷ ws) zero u w is_u is_w =
    let left : x ≡ u = cc in
    let right : y ≡ w = cc in
    λ j. Some (positive (equals (left j) (right j)))
equality_found (x ∷ us) (y ∷ ws) (suc i) u w is_u is_w = equality_found us ws i u w is_u is_w

pub past_left : (us ws : List PureTerm) (i : ℕ) → slice_get us i ≡ None → i ≡ length (element_equalities (from_list us) (from_list ws)) + (i - min (length us) (length ws))
past_left us ws i is = omega (arith, past_end us i is, length-equalities us ws)

pub past_right : (us ws : List PureTerm) (i : ℕ) → slice_get ws i ≡ None → i ≡ length (element_equalities (from_list us) (from_list ws)) + (i - min (length us) (length ws))
past_right us ws i is = omega (arith, past_end ws i is, length-equalities us ws)

pub length-disequalities : (us ws : List PureTerm) → length (element_disequalities (from_list us) (from_list ws)) ≡ min (length us) (length ws)
length-disequalities [] ws = omega arith
length-disequalities (u ∷ us) [] = omega arith
length-disequalities (u ∷ us) (w ∷ ws) = let rest : length (element_disequalities (from_list us) (from_list ws)) ≡ min (length us) (length ws) = length-disequalities us ws in omega (arith, rest)

pub disequality_found : (us ws : List PureTerm) (i : ℕ) (u w : PureTerm) → slice_get us i ≡ Some u → slice_get ws i ≡ Some w → slice_get (element_disequalities (from_list us) (from_list ws)) i ≡ Some (negative (equals u w))
disequality_found [] ws i u w is_u is_w = cc
disequality_found (x ∷ us) [] i u w is_u is_w = cc
disequality_found (x ∷ us) (y ∷ ws) zero u w is_u is_w =
    let left : x ≡ u = cc in
    let right : y ≡ w = cc in
    λ j. Some (negative (equals (left j) (right j)))
disequality_found (x ∷ us) (y ∷ ws) (suc i) u w is_u is_w = disequality_found us ws i u w is_u is_w

pub nothing_left : (us ws : List PureTerm) (i : ℕ) → slice_get us i ≡ None → slice_get (element_disequalities (from_list us) (from_list ws)) i ≡ None
nothing_left [] ws i is = refl
nothing_left (x ∷ us) [] i is = refl
nothing_left (x ∷ us) (y ∷ ws) zero is = cc
nothing_left (x ∷ us) (y ∷ ws) (suc i) is = nothing_left us ws i is

pub nothing_right : (us ws : List PureTerm) (i : ℕ) → slice_get ws i ≡ None → slice_get (element_disequalities (from_list us) (from_list ws)) i ≡ None
nothing_right [] ws i is = refl
nothing_right (x ∷ us) [] i is = refl
nothing_right (x ∷ us) (y ∷ ws) zero is = cc
nothing_right (x ∷ us) (y ∷ ws) (suc i) is = nothing_right us ws i is

-- whether two list terms have one length, by the lengths of their elements
pub one_length : (us ws : List PureTerm) → length us ≡ length ws → HaveOneLength (from_list us) (from_list ws)
one_length us ws same = ap length (to_list-from_list us) ∙ same ∙ sym (ap length (to_list-from_list ws))

pub lengths_of : (us ws : List PureTerm) → HaveOneLength (from_list us) (from_list ws) → length us ≡ length ws
lengths_of us ws same = sym (ap length (to_list-from_list us)) ∙ same ∙ ap length (to_list-from_list ws)
