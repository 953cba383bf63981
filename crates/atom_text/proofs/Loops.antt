-- Reading things to the end of the lexemes, as a loop does.
use Rattle.std.proofs.Common.{◌≡◌, ℕ, zero, suc, ◌-◌, ◌+◌, ◌≤◌, ◌<◌, List, [], ◌∷◌, ◌++◌, length, Option, Some, None, refl, sym, ap, ◌∙◌, append_assoc, arith}
use Rattle.std.proofs.lemmas.List.{append-nil}
use Rattle.gil_lexemes.specs.declared.standing.Lexeme.{Lexeme}
use Rattle.gil_lexemes.specs.declared.stops.Stop.{Stop}
use Rattle.gil_lexemes.specs.declared.stops.Stop.TheVariants as stops
use Rattle.gil_lexemes.specs.Reading.{Reading, Fails}
use Rattle.atom_text.specs.Reading.{with_read, all_at}

regroup : {X : Type 0} (front : List X) (x : X) (read : Option (List X)) → with_read front (with_read (x ∷ []) read) ≡ with_read (front ++ x ∷ []) read
regroup front x (Some xs) = ap Some (simp append_assoc)
regroup front x None = refl

pub nothing_before : {X : Type 0} (read : Option (List X)) → with_read [] read ≡ read
nothing_before (Some xs) = refl
nothing_before None = refl

module _ {X : Type 0} (read : List Lexeme → Reading X) (front : List X) (n i : ℕ) where
  pub all_goes_on : (ls after : List Lexeme) (x : X) (total : Option (List X)) → i < n → 0 < length ls → read ls ≡ Some (x, after)
      → with_read front (all_at read (n - i) ls) ≡ total → with_read (front ++ x ∷ []) (all_at read (n - (i + 1)) after) ≡ total
  unfolding all_at
  all_goes_on [] after x total lt some found so_far = absurd (omega arith)
  all_goes_on (l ∷ ls) after x total lt some found so_far =
      let k : n - i ≡ suc (n - (i + 1)) = omega arith in
      let step : with_read front (all_at read (n - i) (l ∷ ls)) ≡ with_read (front ++ x ∷ []) (all_at read (n - (i + 1)) after) =
      rw (k, found) (regroup front x (all_at read (n - (i + 1)) after)) in
      sym step ∙ so_far

  pub all_stops : (stop : Stop) (ls : List Lexeme) (total : Option (List X)) → i < n → 0 < length ls → Fails stop (read ls)
      → with_read front (all_at read (n - i) ls) ≡ total → Fails stop total
  unfolding all_at
  all_stops stops.Memory ls total lt some fails so_far = tt
  all_stops (stops.Syntax left) [] total lt some fails so_far = absurd (omega arith)
  all_stops (stops.Syntax left) (l ∷ ls) total lt some fails so_far =
      let k : n - i ≡ suc (n - (i + 1)) = omega arith in
      let none : with_read front (all_at read (n - i) (l ∷ ls)) ≡ None = rw (k, fails) refl in
      sym so_far ∙ none

  pub all_are_left : (ls : List Lexeme) (total : Option (List X)) → n ≤ i → 0 < length ls → with_read front (all_at read (n - i) ls) ≡ total → total ≡ None
  unfolding all_at
  all_are_left [] total past some so_far = absurd (omega arith)
  all_are_left (l ∷ ls) total past some so_far =
      let k : n - i ≡ 0 = omega arith in
      let none : with_read front (all_at read (n - i) (l ∷ ls)) ≡ None = rw k refl in
      sym so_far ∙ none

pub all_end : {X : Type 0} (read : List Lexeme → Reading X) (front : List X) (n : ℕ) (ls : List Lexeme) (total : Option (List X)) → length ls ≡ 0
    → with_read front (all_at read n ls) ≡ total → total ≡ Some front
unfolding all_at
all_end read front zero [] total end so_far = sym so_far ∙ ap Some (append-nil front)
all_end read front (suc n) [] total end so_far = sym so_far ∙ ap Some (append-nil front)
all_end read front n (l ∷ ls) total end so_far = absurd (omega arith)
