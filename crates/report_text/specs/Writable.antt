-- Reports that some text has. Names are names, reserved or not; values and expressions are such
-- as texts have; numbers have the bits of their places; a specification that was found is cut exactly where it has no postcondition.
use Rattle.std.specs.Prelude.{◌≡◌, ◌<◌, ◌^◌}
use Rattle.std.specs.List.{AllByRecursion}
use Rattle.gil_lexer.specs.Spelling.{IsName}
use Rattle.value_text.specs.Writable.{IsWritableValue}
use Rattle.report_parts.specs.Writable.{IsWritablePlace, IsWritableBinding, IsWritableQuestion, IsWritableCause}
use Rattle.specification_text.specs.Writable.{IsWritableSpec}
use Rattle.proof_text.specs.Writable.{IsWritableProof}
use Rattle.report_text.specs.Reading.{is_open}
use Rattle.gil_report.specs.declared.heads.Head.{Head}
use Rattle.gil_report.specs.Pure.{PureAnswer, returned, failed, vanished, cut, no_input, bad_input, number, clean, bug, undecided}
use Rattle.gil_report.specs.Pure.{verified, vacuous, unproved, found, sat, unsat, unknown, bytes, PureReport}

abbrev pub IsWritableHead : Head → Type 0
IsWritableHead (Head.Entry mode language entry bound) = IsName entry × (bound < 2 ^ 32)
IsWritableHead (Head.Check language bound) = bound < 2 ^ 32
IsWritableHead Head.Solve = Unit {0}
IsWritableHead (Head.Sweep size) = size < 2 ^ 32

abbrev pub IsWritableAnswer : PureAnswer → Type 0
IsWritableAnswer (returned v) = IsWritableValue v
IsWritableAnswer (failed v place) = IsWritableValue v × IsWritablePlace place
IsWritableAnswer vanished = Unit {0}
IsWritableAnswer cut = Unit {0}
IsWritableAnswer (no_input draw) = draw < 2 ^ 32
IsWritableAnswer (bad_input draw) = draw < 2 ^ 32
IsWritableAnswer (number place) = IsWritablePlace place
IsWritableAnswer clean = Unit {0}
IsWritableAnswer (bug place v inputs) = IsWritablePlace place × IsWritableValue v × AllByRecursion IsWritableValue inputs
IsWritableAnswer (undecided o) = IsWritableQuestion o
IsWritableAnswer (verified name) = IsName name
IsWritableAnswer (vacuous name proof) = IsName name × IsWritableProof proof
IsWritableAnswer (unproved name cause) = IsName name × IsWritableCause cause
IsWritableAnswer (found spec is_cut) = IsWritableSpec spec × (is_open spec ≡ is_cut)
IsWritableAnswer (sat bindings) = AllByRecursion IsWritableBinding bindings
IsWritableAnswer (unsat proof) = IsWritableProof proof
IsWritableAnswer (unknown place) = place < 2 ^ 64
IsWritableAnswer (bytes size) = size < 2 ^ 64

pub record IsWritable (r : PureReport) : Type 0 where
  pub head : IsWritableHead r.head
  pub answers : AllByRecursion IsWritableAnswer r.answers
