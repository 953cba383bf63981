-- Rows and sums that the code can hold.
use Rattle.std.proofs.Common.{◌≡◌, ℤ, pos, ◌*ℤ◌, Bool, true, false, ◌&&◌, ◌||◌, if◌then◌else◌, Option, Some, None, refl, sym, ap, ◌∙◌}
use Rattle.std.specs.Prelude.{int_lt}
use Rattle.solver_proof.specs.Rows.{held_row, held_number}
use Rattle.solver_proof.specs.Sums.{Row, is_held_row, is_factor_of, of_row}

-- the row is there, and held
abbrev pub IsHeld : Row → Option Row → Type 0
IsHeld r o = (o ≡ Some r) × (is_held_row r ≡ true)

chosen_held : (s r : Row) (b : Bool) → is_held_row s ≡ b → Some r ≡ (if b then Some s else None) → IsHeld r (Some s)
chosen_held s r true held e = let same : s ≡ r = cc in (ap Some same, ap is_held_row (sym same) ∙ held)
chosen_held s r false held e = cc

pub from_held : (r : Row) (o : Option Row) → Some r ≡ held_row o → IsHeld r o
from_held r (Some s) e = chosen_held s r (is_held_row s) refl e
from_held r None e = cc

pub factor_held : (f : ℤ) (r : Row) (o : Option Row) → Some r ≡ held_row o → (r.is_equal || int_lt (pos 0) f) ≡ is_factor_of f o
factor_held f r o e =
    let (same, held) = from_held r o e in
    sym (ap (is_factor_of f) same ∙ ap (λ b. b && (r.is_equal || int_lt (pos 0) f)) held)

chosen_lacking : (s : Row) (f : ℤ) (b : Bool) → None ≡ (if b then Some s else None) → false ≡ (b && (s.is_equal || int_lt (pos 0) f))
chosen_lacking s f true e = cc
chosen_lacking s f false e = refl

pub factor_lacking : (f : ℤ) (o : Option Row) → None ≡ held_row o → false ≡ is_factor_of f o
factor_lacking f (Some s) e = chosen_lacking s f (is_held_row s) e
factor_lacking f None e = refl

pub product_held : (part : Row → ℤ) (f : ℤ) (r : Row) (o : Option Row) → Some r ≡ held_row o → held_number (f *ℤ part r) ≡ held_number (of_row part f o)
product_held part f r o e = ap (λ p. held_number (of_row part f p)) (sym (from_held r o e).0)
