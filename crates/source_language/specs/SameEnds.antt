-- A source program and its compiled program come to the same ends.
use Rattle.std.specs.Prelude.{◌≡◌, ℕ, Option, Some}
use Rattle.gil_machine.specs.State.{End, IsOver}

-- The ends of the source, by how often loops turn and how deep calls nest at most, and those of the run of the program, by
-- its bound of steps. Each end of the source, with its value, place, heap, counter and number of draws, is that of the run
-- with some bound; and each end of a run, but for one that its bound cut, is that of the source with some turns.
pub record AreSameEnds (source : ℕ → Option End) (run : ℕ → End) : Type 0 where
  pub run_too : (n : ℕ) (e : End) → source n ≡ Some e → (steps : ℕ) × (run steps ≡ e)
  pub source_too : (steps : ℕ) → IsOver (run steps).ending → (n : ℕ) × (source n ≡ Some (run steps))
  pub is_over : (n : ℕ) (e : End) → source n ≡ Some e → IsOver e.ending
