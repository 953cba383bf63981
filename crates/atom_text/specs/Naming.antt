-- Lists of names in which one stands twice or doesn't.
use Rattle.std.specs.Prelude.{◌≡◌, ℕ, ◌<◌, List, slice_get, Some}

-- no name stands at two places
abbrev pub IsDistinct : List (List ℕ) → Type 0
IsDistinct names = (i j : ℕ) (x : List ℕ) → slice_get names i ≡ Some x → slice_get names j ≡ Some x → i ≡ j

-- the name at this place stands before it too
pub record StandsBefore (names : List (List ℕ)) (i : ℕ) : Type 0 where
  pub name : List ℕ
  pub first : ℕ
  pub before : first < i
  pub there : slice_get names first ≡ Some name
  pub again : slice_get names i ≡ Some name
