-- Commands that stand in a body from a place on.
use Rattle.std.proofs.Common.{◌≡◌, ℕ, ◌+◌, ◌<◌, List, [], ◌∷◌, ◌++◌, length, slice_get, Some, ap, ◌∙◌, subst, arith, append_assoc, length-append}
use Rattle.std.proofs.Math.Seq.{get_or-append_seam}
use Rattle.std.proofs.lemmas.Option.{slice_get-get_or}

module _ {X : Type 0} where
  abbrev pub HasAt : List X → ℕ → List X → Type 0
  HasAt body pc [] = Unit {0}
  HasAt body pc (c ∷ cs) = (slice_get body pc ≡ Some c) × HasAt body (pc + 1) cs

  pub has_front : (body : List X) (pc : ℕ) (a b : List X) → HasAt body pc (a ++ b) → HasAt body pc a
  has_front body pc [] b h = tt
  has_front body pc (c ∷ a) b h = (h.0, has_front body (pc + 1) a b h.1)

  pub has_back : (body : List X) (pc : ℕ) (a b : List X) → HasAt body pc (a ++ b) → HasAt body (pc + length a) b
  has_back body pc [] b h = let e : pc ≡ pc + 0 = omega arith in subst (λ n. HasAt body n b) e h
  has_back body pc (c ∷ a) b h =
      let e : pc + 1 + length a ≡ pc + length (c ∷ a) = omega arith in
      subst (λ n. HasAt body n b) e (has_back body (pc + 1) a b h.1)

  pub has_all : (cs pre : List X) → HasAt (pre ++ cs) (length pre) cs
  has_all [] pre = tt
  has_all (c ∷ cs) pre =
      let within : length pre < length (pre ++ c ∷ cs) = omega (arith, length-append pre (c ∷ cs)) in
      let here = slice_get-get_or (pre ++ c ∷ cs) (length pre) c within ∙ ap Some (get_or-append_seam pre c cs c) in
      let n : length (pre ++ c ∷ []) ≡ length pre + 1 = omega (arith, length-append pre (c ∷ [])) in
      let rest = has_all cs (pre ++ c ∷ []) in
      let rest' = subst (λ l. HasAt l (length (pre ++ c ∷ [])) cs) (append_assoc pre (c ∷ []) cs) rest in
      (here, subst (λ k. HasAt (pre ++ c ∷ cs) k cs) n rest')
