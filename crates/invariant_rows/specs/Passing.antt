-- The invariants that frames passed.
use Rattle.std.specs.Prelude.{ℕ, nat_eq, List, [], ◌∷◌, if◌then◌else◌, Option, Some, None}
use Rattle.checked_paths.specs.Pure.{PurePassed}

-- the latest one with this index
abbrev pub former_at : {S : Type 0} → ℕ → List (PurePassed S) → Option (PurePassed S)
former_at i [] = None
former_at i (q ∷ qs) = if nat_eq q.at i then Some q else former_at i qs

-- those of the frame that runs
abbrev pub of_running : {A : Type 0} → List (List A) → List A
of_running [] = []
of_running (qs ∷ later) = qs

-- one more of the frame that runs
abbrev pub with_one : {A : Type 0} → A → List (List A) → List (List A)
with_one q [] = (q ∷ []) ∷ []
with_one q (qs ∷ later) = (q ∷ qs) ∷ later
