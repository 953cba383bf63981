-- Lists of chunks of the code as lists of pure data.
use Rattle.std.proofs.Common.{◌≡◌, ℕ, zero, suc, ◌<◌, List, [], ◌∷◌, map, set, get_or, length, refl, ap, arith}
use Rattle.std.specs.List.{remove}
use Rattle.pure_terms.specs.declared.terms.Term.{Term}
use Rattle.pure_terms.specs.View.{term_view}
use Rattle.sym_model.specs.declared.chunks.Chunk.{Chunk}
use Rattle.sym_model.specs.Chunks.{with_held}
use Rattle.sym_model.specs.View.{chunk_view, chunks_view}

pub map-remove : {X Y : Type 0} (f : X → Y) (xs : List X) (i : ℕ) → map f (remove xs i) ≡ remove (map f xs) i
map-remove f [] zero = refl
map-remove f [] (suc i) = refl
map-remove f (x ∷ xs) zero = refl
map-remove f (x ∷ xs) (suc i) = ap (λ ys. f x ∷ ys) (map-remove f xs i)

pub held-set : (xs : List Chunk) (i : ℕ) (x : Chunk) (t : Term) → i < length xs → x ≡ get_or xs i x → chunks_view (set xs i (record { loc = x.loc; sub = x.sub; val = t })) ≡ with_held (chunks_view xs) i (term_view t)
held-set [] i x t below is = absurd (omega (arith, below))
held-set (y ∷ xs) zero x t below is = ap (λ (z : Chunk). chunk_view (record { loc = z.loc; sub = z.sub; val = t }) ∷ chunks_view xs) is
held-set (y ∷ xs) (suc i) x t below is = ap (λ cs. chunk_view y ∷ cs) (held-set xs i x t (omega (arith, below)) is)
