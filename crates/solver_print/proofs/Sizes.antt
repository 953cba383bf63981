-- The expressions and the sizes of the elements of a list term, and the printed forms of a list of proofs.
use Rattle.std.proofs.Common.{◌≡◌, ℕ, zero, suc, ◌≤◌, List, [], ◌∷◌, ◌++◌, map, Some, slice_get, refl, ap, append_assoc, arith}
use Rattle.std.specs.Prelude.{codes}
use Rattle.std.specs.List.{join_by}
use Rattle.gil_syntax.specs.Pure.{expr_and, from_list as list_exprs}
use Rattle.pure_terms.specs.Pure.{PureTerm, from_list, size, sizes}
use Rattle.solver_proof.specs.Pure.{PureProof, from_list as proofs_from_list}
use Rattle.gil_values.proofs.Joined.{join_by-map}
use Rattle.solver_print.specs.Proofs.{printed_proof, printed_proofs, in_brackets}
use Rattle.solver_print.specs.Terms.{expr_of, exprs_of}

pub exprs-from_list : (names : List (List ℕ)) (ts : List PureTerm) → exprs_of names (from_list ts) ≡ list_exprs (map (expr_of names) ts)
exprs-from_list names [] = refl
exprs-from_list names (t ∷ ts) = ap (expr_and (expr_of names t)) (exprs-from_list names ts)

pub size-element : (ts : List PureTerm) (i : ℕ) (t : PureTerm) → slice_get ts i ≡ Some t → size t ≤ sizes (from_list ts)
size-element [] i t is = cc
size-element (u ∷ ts) zero t is = let here : size u ≡ size t = (let e : u ≡ t = cc in ap size e) in omega (arith, here)
size-element (u ∷ ts) (suc i) t is = let rest : size t ≤ sizes (from_list ts) = size-element ts i t is in omega (arith, rest)

printed_all : (names : List (List ℕ)) (ps : List PureProof) → printed_proofs names (proofs_from_list ps) ≡ map (printed_proof names) ps
printed_all names [] = refl
printed_all names (p ∷ ps) = ap (λ texts. printed_proof names p ∷ texts) (printed_all names ps)

-- a list of proofs between brackets, as its parts were added
pub branches_added : (names : List (List ℕ)) (ps : List PureProof) (start a b all : List ℕ) → a ≡ start ++ codes " [" → b ≡ a ++ join_by (printed_proof names) (codes ", ") ps → all ≡ b ++ codes "]"
    → all ≡ start ++ in_brackets (printed_proofs names (proofs_from_list ps))
branches_added names ps start a b all f g h = rw (h, g, f, printed_all names ps, join_by-map (printed_proof names) (codes ", ") ps) (simp append_assoc)
