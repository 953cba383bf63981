-- How runs end, as answers.
use Rattle.std.specs.Prelude.{◌≡◌, ℕ, Option, Some}
use Rattle.gil_machine.specs.Held.{HeldEnd, ended as held_end, number as held_number}
use Rattle.gil_machine.specs.State.{End, Ending, returned as end_returned, threw as end_threw, failed as end_failed}
use Rattle.gil_machine.specs.State.{vanished as end_vanished}
use Rattle.gil_machine.specs.State.{no_input as end_no_input, bad_input as end_bad_input, cut as end_cut}
use Rattle.gil_report.specs.Pure.{PureAnswer, returned, failed, vanished, cut, no_input, bad_input, number}

-- How a run ended. A throw that no call has a handler for is a failure.
abbrev pub ending_answer : Ending → PureAnswer
ending_answer (end_returned v) = returned v
ending_answer (end_threw v place) = failed v place
ending_answer (end_failed v place) = failed v place
ending_answer end_vanished = vanished
ending_answer (end_no_input k) = no_input k
ending_answer (end_bad_input k) = bad_input k
ending_answer end_cut = cut

-- the end of a run, or the place of the first result that leaves 128 bits
abbrev pub end_answer : HeldEnd → PureAnswer
end_answer (held_end e) = ending_answer e.ending
end_answer (held_number place h) = number place

-- With some number of turns there is this end of a source, and the answer says it. Of the two answers that are no ends nothing is said.
abbrev pub IsEndOf : (ℕ → Option End) → PureAnswer → Type 0
IsEndOf end_within cut = Unit {0}
IsEndOf end_within (number place) = Unit {0}
IsEndOf end_within answer = (n : ℕ) × (e : End) × (end_within n ≡ Some e) × (answer ≡ ending_answer e.ending)
