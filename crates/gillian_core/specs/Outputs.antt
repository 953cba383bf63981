-- What is written of an accepted text.
use Rattle.std.specs.Prelude.{ℕ, List, Bool, true, false, not, if◌then◌else◌, ⊤}
use Rattle.std.specs.List.{list_all}
use Rattle.gil_syntax.specs.Pure.{PureParts}
use Rattle.syntax_print.specs.Programs.{printed_program}
use Rattle.gil_report.specs.Json.{report_json}
use Rattle.gil_report.specs.Lines.{report_text}
use Rattle.gil_report.specs.Pure.{PureAnswer, returned, failed, vanished, cut, no_input, bad_input, number, clean, bug, undecided}
use Rattle.gil_report.specs.Pure.{verified, vacuous, unproved, found, sat, unsat, unknown, bytes, PureReport}
use Rattle.report_text.specs.Writable.{IsWritable}
use Rattle.gillian_core.specs.declared.status.Status.{Status}
use Rattle.gillian_core.specs.declared.status.Status.TheVariants.{Good, Found}

-- a report, or a program
pub data PureOutput : Type 0 where
  a_report : PureReport → PureOutput
  a_program : PureParts → PureOutput

-- a report is one that some text has, so that both its forms are read back as it is
abbrev pub IsWritableOutput : PureOutput → Type 0
IsWritableOutput (a_report r) = IsWritable r
IsWritableOutput (a_program p) = ⊤

-- a report is written as JSON or as text, as is asked for; a program has one form
abbrev pub report_written : Bool → PureReport → List ℕ
report_written true r = report_json r
report_written false r = report_text r

abbrev pub output_text : Bool → PureOutput → List ℕ
output_text json (a_report r) = report_written json r
output_text json (a_program p) = printed_program p

-- A run that returned or vanished, a clean verdict, a specification that holds or is found whole, and a solution with values or a proof
-- are good. The length of a made text is no answer that could be bad.
abbrev pub is_good : PureAnswer → Bool
is_good (returned value) = true
is_good (failed value place) = false
is_good vanished = true
is_good cut = false
is_good (no_input draw) = false
is_good (bad_input draw) = false
is_good (number place) = false
is_good clean = true
is_good (bug place value inputs) = false
is_good (undecided query) = false
is_good (verified name) = true
is_good (vacuous name proof) = true
is_good (unproved name cause) = false
is_good (found spec is_cut) = not is_cut
is_good (sat bindings) = true
is_good (unsat proof) = true
is_good (unknown place) = false
is_good (bytes length) = true

abbrev pub answers_status : List PureAnswer → Status
answers_status answers = if list_all is_good answers then Good else Found

abbrev pub output_status : PureOutput → Status
output_status (a_report r) = answers_status r.answers
output_status (a_program p) = Good
