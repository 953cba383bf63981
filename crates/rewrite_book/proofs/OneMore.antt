-- What holds of each rule so far, with one rule more.
use Rattle.std.proofs.Common.{◌≡◌, ◌⊎◌, inl, inr, ℕ, ◌+◌, ◌<◌, List, [], ◌∷◌, ◌++◌, length, take, get_or, sym, ap, ◌∙◌, subst}
use Rattle.std.specs.List.{Contains}
use Rattle.std.proofs.lemmas.List.{take_more}
use Rattle.std.proofs.lemmas.List.Elements.{Contains-push_cases}

pub each_more : {X : Type 0} (P : X → Type 0) (xs : List X) (i : ℕ) (x : X) → i < length xs → x ≡ get_or xs i x
    → ((y : X) → Contains (take i xs) y → P y) → P x → (y : X) → Contains (take (i + 1) xs) y → P y
each_more P xs i x below is before now y has =
    let longer : take (i + 1) xs ≡ take i xs ++ x ∷ [] = take_more xs i x below ∙ ap (λ z. take i xs ++ z ∷ []) (sym is) in
    by (Contains-push_cases (take i xs) x y (subst (λ zs. Contains zs y) longer has))
  where
    by : Contains (take i xs) y ⊎ (x ≡ y) → P y
    by (inl among) = before y among
    by (inr same) = subst P same now
