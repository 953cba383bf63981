-- The texts of reports: a head line, and a line for each answer.
use Rattle.std.specs.Prelude.{ℕ, List, [], ◌∷◌, ◌++◌, Bool, true, false, codes}
use Rattle.std.specs.List.{flat_map}
use Rattle.gil_values.specs.Pieces.{printed_list, printed_place}
use Rattle.gil_values.specs.Printed.{numeral, printed_value}
use Rattle.gillian_words.specs.Tasks.{language_word}
use Rattle.gil_report.specs.declared.heads.EntryMode.{EntryMode}
use Rattle.gil_report.specs.declared.heads.EntryMode.TheVariants.{Run, Test, Infer}
use Rattle.gil_report.specs.declared.heads.Head.{Head}
use Rattle.gil_report.specs.Printed.{bracketed, lack_word, printed_binding, printed_condition, printed_sort, printed_specification}
use Rattle.gil_report.specs.Proofs.{printed_proof}
use Rattle.gil_report.specs.Pure.{PureQuestion, PureWitness, PureCause, fails, lacks, undecided_cause, depends}
use Rattle.gil_report.specs.Pure.{PureAnswer, returned, failed, vanished, cut, no_input, bad_input, number, clean, bug, undecided}
use Rattle.gil_report.specs.Pure.{verified, vacuous, unproved, found, sat, unsat, unknown, bytes, PureReport}

-- each line ends with LF
abbrev pub line : List ℕ → List ℕ
line characters = characters ++ 10 ∷ []

-- ---- heads

abbrev pub mode_word : EntryMode → List ℕ
mode_word Run = codes "run"
mode_word Test = codes "test"
mode_word Infer = codes "infer"

-- `gillian test while entry main bound 1000`
abbrev pub head_line : Head → List ℕ
head_line (Head.Entry mode language entry bound) =
    line (codes "gillian " ++ mode_word mode ++ codes " " ++ language_word language ++ codes " entry " ++ entry ++ codes " bound "
    ++ numeral bound)
head_line (Head.Check language bound) = line (codes "gillian check " ++ language_word language ++ codes " bound " ++ numeral bound)
head_line Head.Solve = line (codes "gillian solve atoms")
head_line (Head.Sweep size) = line (codes "gillian sweep " ++ numeral size)

-- ---- answers

-- `main:2 path [1] vars [int, int] given [] query [((v0 * v1) = 6)] outside 0`
abbrev pub printed_question : PureQuestion → List ℕ
printed_question o =
    printed_place o.place ++ codes " path " ++ bracketed numeral o.path ++ codes " vars " ++ bracketed printed_sort o.vars
    ++ codes " given " ++ bracketed printed_condition o.given ++ codes " query " ++ bracketed printed_condition o.query
    ++ codes " outside " ++ numeral o.outside

-- `main:2 path [1] with [x = 7]`
abbrev pub printed_witness : PureWitness → List ℕ
printed_witness w =
    printed_place w.place ++ codes " path " ++ bracketed numeral w.path ++ codes " with " ++ bracketed printed_binding w.with

abbrev pub printed_cause : PureCause → List ℕ
printed_cause (fails v w) = codes "fails " ++ printed_value v ++ codes " " ++ printed_witness w
printed_cause (lacks lack w) = lack_word lack ++ codes " " ++ printed_witness w
printed_cause (undecided_cause o) = codes "unknown " ++ printed_question o
printed_cause (depends name) = codes "depends " ++ name

-- what stands behind a specification that is cut
abbrev pub cut_mark : Bool → List ℕ
cut_mark true = codes " cut"
cut_mark false = []

abbrev pub answer_line : PureAnswer → List ℕ
answer_line (returned v) = line (codes "returned " ++ printed_value v)
answer_line (failed v place) = line (codes "failed " ++ printed_value v ++ codes " " ++ printed_place place)
answer_line vanished = line (codes "vanished")
answer_line cut = line (codes "cut")
answer_line (no_input draw) = line (codes "no input " ++ numeral draw)
answer_line (bad_input draw) = line (codes "bad input " ++ numeral draw)
answer_line (number place) = line (codes "number " ++ printed_place place)
answer_line clean = line (codes "clean")
answer_line (bug place v inputs) =
    line (codes "bug " ++ printed_place place ++ codes " " ++ printed_value v ++ codes " inputs " ++ printed_list inputs)
answer_line (undecided o) = line (codes "unknown " ++ printed_question o)
answer_line (verified name) = line (name ++ codes " verified")
answer_line (vacuous name proof) = line (name ++ codes " vacuous " ++ printed_proof proof)
answer_line (unproved name cause) = line (name ++ codes " unproved " ++ printed_cause cause)
answer_line (found spec is_cut) = line (printed_specification spec ++ cut_mark is_cut)
answer_line (sat bindings) = line (codes "sat " ++ bracketed printed_binding bindings)
answer_line (unsat proof) = line (codes "unsat " ++ printed_proof proof)
answer_line (unknown place) = line (codes "unknown " ++ numeral place)
answer_line (bytes length) = line (codes "bytes " ++ numeral length)

-- ---- reports

abbrev pub report_text : PureReport → List ℕ
report_text r = head_line r.head ++ flat_map answer_line r.answers
