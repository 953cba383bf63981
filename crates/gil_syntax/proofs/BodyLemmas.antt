-- The last command of a body.
use Rattle.std.proofs.Common.{◌≡◌, ℕ, zero, suc, ◌-◌, ◌||◌, List, [], ◌∷◌, map, length, Bool, Some, slice_get, refl, ap, arith}
use Rattle.std.specs.List.{list_any}
use Rattle.gil_syntax.specs.Pure.{PureNumberedCommand}
use Rattle.gil_syntax.specs.Valid.{ends_body, last_ends_body}

last_ends_body-at : (cs : List PureNumberedCommand) (n : ℕ) (c : PureNumberedCommand) → suc n ≡ length cs → slice_get cs n ≡ Some c → last_ends_body cs ≡ ends_body c.command
last_ends_body-at [] n c long is = absurd (omega arith)
last_ends_body-at (b ∷ []) zero c long is = let same : b ≡ c = cc in ap (λ d. ends_body d.command) same
last_ends_body-at (b ∷ []) (suc n) c long is = absurd (omega arith)
last_ends_body-at (b ∷ d ∷ cs) zero c long is = absurd (omega arith)
last_ends_body-at (b ∷ d ∷ cs) (suc n) c long is = last_ends_body-at (d ∷ cs) n c (omega arith) is

-- the command at the last place decides
pub last_ends_body-last : (cs : List PureNumberedCommand) (c : PureNumberedCommand) → slice_get cs (length cs - 1) ≡ Some c → last_ends_body cs ≡ ends_body c.command
last_ends_body-last [] c is = absurd (cc)
last_ends_body-last (b ∷ cs) c is = last_ends_body-at (b ∷ cs) (length (b ∷ cs) - 1) c (omega arith) is

pub list_any-map : {X Y : Type 0} (test : Y → Bool) (f : X → Y) (xs : List X) → list_any test (map f xs) ≡ list_any (λ x. test (f x)) xs
list_any-map test f [] = refl
list_any-map test f (x ∷ xs) = ap (λ b. test (f x) || b) (list_any-map test f xs)
