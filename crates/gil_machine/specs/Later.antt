-- States that differ in their number of draws alone.
use Rattle.std.specs.Prelude.{ℕ, ◌+◌}
use Rattle.gil_machine.specs.State.{State, Ending, returned, threw, failed, vanished, no_input, bad_input, cut, End, Step, goes_on, ends}

-- the same after so many draws more
abbrev pub later : ℕ → State → State
later d s = record s { draws = d + s.draws }

abbrev pub later_ending : ℕ → Ending → Ending
later_ending d (returned v) = returned v
later_ending d (threw v place) = threw v place
later_ending d (failed v place) = failed v place
later_ending d vanished = vanished
later_ending d (no_input k) = no_input (d + k)
later_ending d (bad_input k) = bad_input (d + k)
later_ending d cut = cut

abbrev pub later_end : ℕ → End → End
later_end d e = record e { ending = later_ending d e.ending; draws = d + e.draws }

abbrev pub later_step : ℕ → Step → Step
later_step d (goes_on s) = goes_on (later d s)
later_step d (ends e) = ends (later_end d e)
