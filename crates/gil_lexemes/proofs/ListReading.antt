-- Reading things one after another, as a loop does.
use Rattle.std.proofs.Common.{◌≡◌, ℕ, suc, ◌-◌, ◌+◌, ◌≤◌, ◌<◌, true, false, List, [], ◌∷◌, ◌++◌, Some, None, refl, sym, ap, ◌∙◌, append_assoc, arith}
use Rattle.std.proofs.lemmas.List.{append-nil}
use Rattle.gil_lexer.specs.declared.signs.Sign.{Sign}
use Rattle.gil_lexemes.specs.declared.standing.Lexeme.{Lexeme}
use Rattle.gil_lexemes.specs.declared.stops.Stop.{Stop}
use Rattle.gil_lexemes.specs.declared.stops.Stop.TheVariants as stops
use Rattle.gil_lexemes.specs.Lists.{with_front, more_at, each_until}
use Rattle.gil_lexemes.specs.Reading.{Reading, Fails, behind, first_form, is_sign}

pub regroup : {X : Type 0} (front : List X) (x : X) (read : Reading (List X)) → with_front front (with_front (x ∷ []) read) ≡ with_front (front ++ x ∷ []) read
regroup front x (Some xs) = ap (λ ys. Some (ys, xs.1)) (simp append_assoc)
regroup front x None = refl

module _ {X : Type 0} (read : List Lexeme → Reading X) (front : List X) (n i : ℕ) (sign : Sign) (ls : List Lexeme) (total : Reading (List X)) where
  -- ---- things behind a separator

  pub more_goes_on : (x : X) (after : List Lexeme) → i < n → is_sign sign (first_form ls) ≡ true → read (behind ls) ≡ Some (x, after)
      → with_front front (more_at read (n - i) sign ls) ≡ total → with_front (front ++ x ∷ []) (more_at read (n - (i + 1)) sign after) ≡ total
  unfolding more_at
  more_goes_on x after lt test h so_far =
      let k : n - i ≡ suc (n - (i + 1)) = omega arith in
      let one : with_front front (more_at read (n - i) sign ls) ≡ with_front (front ++ x ∷ []) (more_at read (n - (i + 1)) sign after) = rw (k, test, h) (regroup front x (more_at read (n - (i + 1)) sign after)) in
      sym one ∙ so_far

  pub more_stops : (stop : Stop) → i < n → is_sign sign (first_form ls) ≡ true → Fails stop (read (behind ls))
      → with_front front (more_at read (n - i) sign ls) ≡ total → Fails stop total
  unfolding more_at
  more_stops stops.Memory lt test h so_far = tt
  more_stops (stops.Syntax left) lt test h so_far =
      let k : n - i ≡ suc (n - (i + 1)) = omega arith in
      let one : with_front front (more_at read (n - i) sign ls) ≡ None = rw (k, test, h) refl in
      sym so_far ∙ one

  pub more_ends : i < n → is_sign sign (first_form ls) ≡ false → with_front front (more_at read (n - i) sign ls) ≡ total → total ≡ Some (front, ls)
  unfolding more_at
  more_ends lt test so_far =
      let k : n - i ≡ suc (n - (i + 1)) = omega arith in
      let one : with_front front (more_at read (n - i) sign ls) ≡ Some (front, ls) = rw (k, test) (ap (λ xs. Some (xs, ls)) (append-nil front)) in
      sym so_far ∙ one

  pub more_is_done : n ≤ i → with_front front (more_at read (n - i) sign ls) ≡ total → total ≡ Some (front, ls)
  unfolding more_at
  more_is_done le so_far =
      let k : n - i ≡ 0 = omega arith in
      let one : with_front front (more_at read (n - i) sign ls) ≡ Some (front, ls) = rw k (ap (λ xs. Some (xs, ls)) (append-nil front)) in
      sym so_far ∙ one

  -- ---- things up to a closing sign

  pub each_goes_on : (x : X) (after : List Lexeme) → i < n → is_sign sign (first_form ls) ≡ false → read ls ≡ Some (x, after)
      → with_front front (each_until read (n - i) sign ls) ≡ total → with_front (front ++ x ∷ []) (each_until read (n - (i + 1)) sign after) ≡ total
  unfolding each_until
  each_goes_on x after lt test h so_far =
      let k : n - i ≡ suc (n - (i + 1)) = omega arith in
      let one : with_front front (each_until read (n - i) sign ls) ≡ with_front (front ++ x ∷ []) (each_until read (n - (i + 1)) sign after) = rw (k, test, h) (regroup front x (each_until read (n - (i + 1)) sign after)) in
      sym one ∙ so_far

  pub each_stops : (stop : Stop) → i < n → is_sign sign (first_form ls) ≡ false → Fails stop (read ls)
      → with_front front (each_until read (n - i) sign ls) ≡ total → Fails stop total
  unfolding each_until
  each_stops stops.Memory lt test h so_far = tt
  each_stops (stops.Syntax left) lt test h so_far =
      let k : n - i ≡ suc (n - (i + 1)) = omega arith in
      let one : with_front front (each_until read (n - i) sign ls) ≡ None = rw (k, test, h) refl in
      sym so_far ∙ one

  pub each_ends : i < n → is_sign sign (first_form ls) ≡ true → with_front front (each_until read (n - i) sign ls) ≡ total → total ≡ Some (front, ls)
  unfolding each_until
  each_ends lt test so_far =
      let k : n - i ≡ suc (n - (i + 1)) = omega arith in
      let one : with_front front (each_until read (n - i) sign ls) ≡ Some (front, ls) = rw (k, test) (ap (λ xs. Some (xs, ls)) (append-nil front)) in
      sym so_far ∙ one

  pub each_is_done : n ≤ i → with_front front (each_until read (n - i) sign ls) ≡ total → total ≡ Some (front, ls)
  unfolding each_until
  each_is_done le so_far =
      let k : n - i ≡ 0 = omega arith in
      let one : with_front front (each_until read (n - i) sign ls) ≡ Some (front, ls) = rw k (ap (λ xs. Some (xs, ls)) (append-nil front)) in
      sym so_far ∙ one
