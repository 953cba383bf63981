-- Lists of terms as expressions, and their sizes.
use Rattle.std.proofs.Common.{◌≡◌, ℕ, zero, suc, ◌≤◌, List, [], ◌∷◌, map, Some, slice_get, refl, ap, arith}
use Rattle.gil_syntax.specs.Pure.{expr_and, from_list as list_exprs}
use Rattle.pure_terms.specs.Pure.{PureTerm, from_list, size, sizes}
use Rattle.assertion_terms.specs.Named.{expr_of, exprs_of}

pub exprs-from_list : (names : List (List ℕ)) (ts : List PureTerm) → exprs_of names (from_list ts) ≡ list_exprs (map (expr_of names) ts)
exprs-from_list names [] = refl
exprs-from_list names (t ∷ ts) = ap (expr_and (expr_of names t)) (exprs-from_list names ts)

pub size-element : (ts : List PureTerm) (i : ℕ) (t : PureTerm) → slice_get ts i ≡ Some t → size t ≤ sizes (from_list ts)
size-element [] i t is = cc
size-element (u ∷ ts) zero t is = let here : size u ≡ size t = (let e : u ≡ t = cc in ap size e) in omega (arith, here)
size-element (u ∷ ts) (suc i) t is = let rest : size t ≤ sizes (from_list ts) = size-element ts i t is in omega (arith, rest)
