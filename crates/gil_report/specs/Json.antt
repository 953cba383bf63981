-- Reports as JSON: an object for the report and one for each answer, with the keys in the order of their bytes. Numbers are the lengths, the
-- bounds, the numbers of draws and commands and the places of atoms and conditions, and the choices of a path; `cut` is a boolean; the
-- rest are texts, as the lines have them, and lists of texts.
use Rattle.std.specs.Prelude.{ℕ, List, codes, map}
use Rattle.serde_json.specs.Data.{Data, number as number_data, unsigned, string, boolean, array, object, member, no_members}
use Rattle.serde_json.specs.View.{items_of}
use Rattle.serde_json.specs.Written.{compact_text}
use Rattle.gil_values.specs.Printed.{printed_value}
use Rattle.gillian_words.specs.Tasks.{language_word}
use Rattle.gil_report.specs.declared.heads.Head.{Head}
use Rattle.gil_report.specs.Lines.{line, mode_word}
use Rattle.gil_report.specs.Printed.{lack_word, printed_binding, printed_condition, printed_sort, printed_specification}
use Rattle.gil_report.specs.Proofs.{printed_proof}
use Rattle.gil_report.specs.Pure.{PureQuestion, PureCause, fails, lacks, undecided_cause, depends}
use Rattle.gil_report.specs.Pure.{PureAnswer, returned, failed, vanished, cut, no_input, bad_input, number, clean, bug, undecided}
use Rattle.gil_report.specs.Pure.{verified, vacuous, unproved, found, sat, unsat, unknown, bytes, PureReport}

-- ---- parts

abbrev pub count : ℕ → Data
count n = number_data (unsigned n)

-- a list of numbers
abbrev pub counts : List ℕ → Data
counts ns = array (items_of (map count ns))

-- a list of texts: its elements, as they are printed
abbrev pub texts : {X : Type 0} → (X → List ℕ) → List X → Data
texts printed xs = array (items_of (map (λ x. string (printed x)) xs))

-- ---- answers

-- {"at":4,"given":[..],"kind":"unknown","outside":0,"path":[..],"proc":"main","query":[..],"vars":[..]}
abbrev pub question_data : PureQuestion → Data
question_data o =
    object (member (codes "at") (count o.place.at) (member (codes "given") (texts printed_condition o.given)
    (member (codes "kind") (string (codes "unknown")) (member (codes "outside") (count o.outside)
    (member (codes "path") (counts o.path) (member (codes "proc") (string o.place.proc)
    (member (codes "query") (texts printed_condition o.query) (member (codes "vars") (texts printed_sort o.vars) no_members))))))))

abbrev pub unproved_data : List ℕ → PureCause → Data
unproved_data name (fails v w) =
    object (member (codes "at") (count w.place.at) (member (codes "kind") (string (codes "unproved")) (member (codes "name") (string name)
    (member (codes "path") (counts w.path) (member (codes "proc") (string w.place.proc) (member (codes "value") (string (printed_value v))
    (member (codes "why") (string (codes "fails")) (member (codes "with") (texts printed_binding w.with) no_members))))))))
unproved_data name (lacks lack w) =
    object (member (codes "at") (count w.place.at) (member (codes "kind") (string (codes "unproved")) (member (codes "name") (string name)
    (member (codes "path") (counts w.path) (member (codes "proc") (string w.place.proc)
    (member (codes "why") (string (lack_word lack)) (member (codes "with") (texts printed_binding w.with) no_members)))))))
unproved_data name (undecided_cause o) =
    object (member (codes "at") (count o.place.at) (member (codes "given") (texts printed_condition o.given)
    (member (codes "kind") (string (codes "unproved")) (member (codes "name") (string name) (member (codes "outside") (count o.outside)
    (member (codes "path") (counts o.path) (member (codes "proc") (string o.place.proc)
    (member (codes "query") (texts printed_condition o.query) (member (codes "vars") (texts printed_sort o.vars)
    (member (codes "why") (string (codes "unknown")) no_members))))))))))
unproved_data name (depends other) =
    object (member (codes "kind") (string (codes "unproved")) (member (codes "name") (string name) (member (codes "on") (string other)
    (member (codes "why") (string (codes "depends")) no_members))))

-- {"kind":"vanished"}
abbrev pub kind_alone : List ℕ → Data
kind_alone kind = object (member (codes "kind") (string kind) no_members)

abbrev pub draw_data : List ℕ → ℕ → Data
draw_data kind draw = object (member (codes "draw") (count draw) (member (codes "kind") (string kind) no_members))

abbrev pub answer_data : PureAnswer → Data
answer_data (returned v) =
    object (member (codes "kind") (string (codes "returned")) (member (codes "value") (string (printed_value v)) no_members))
answer_data (failed v place) =
    object (member (codes "at") (count place.at) (member (codes "kind") (string (codes "failed")) (member (codes "proc") (string place.proc)
    (member (codes "value") (string (printed_value v)) no_members))))
answer_data vanished = kind_alone (codes "vanished")
answer_data cut = kind_alone (codes "cut")
answer_data (no_input draw) = draw_data (codes "no-input") draw
answer_data (bad_input draw) = draw_data (codes "bad-input") draw
answer_data (number place) =
    object (member (codes "at") (count place.at) (member (codes "kind") (string (codes "number"))
    (member (codes "proc") (string place.proc) no_members)))
answer_data clean = kind_alone (codes "clean")
answer_data (bug place v inputs) =
    object (member (codes "at") (count place.at) (member (codes "inputs") (texts printed_value inputs)
    (member (codes "kind") (string (codes "bug")) (member (codes "proc") (string place.proc)
    (member (codes "value") (string (printed_value v)) no_members)))))
answer_data (undecided o) = question_data o
answer_data (verified name) =
    object (member (codes "kind") (string (codes "verified")) (member (codes "name") (string name) no_members))
answer_data (vacuous name proof) =
    object (member (codes "kind") (string (codes "vacuous")) (member (codes "name") (string name)
    (member (codes "proof") (string (printed_proof proof)) no_members)))
answer_data (unproved name cause) = unproved_data name cause
answer_data (found spec is_cut) =
    object (member (codes "cut") (boolean is_cut) (member (codes "kind") (string (codes "spec"))
    (member (codes "spec") (string (printed_specification spec)) no_members)))
answer_data (sat bindings) =
    object (member (codes "kind") (string (codes "sat")) (member (codes "with") (texts printed_binding bindings) no_members))
answer_data (unsat proof) =
    object (member (codes "kind") (string (codes "unsat")) (member (codes "proof") (string (printed_proof proof)) no_members))
answer_data (unknown place) =
    object (member (codes "kind") (string (codes "unknown-atoms")) (member (codes "outside") (count place) no_members))
answer_data (bytes length) =
    object (member (codes "bytes") (count length) (member (codes "kind") (string (codes "bytes")) no_members))

-- ---- reports

abbrev pub answers_data : List PureAnswer → Data
answers_data answers = array (items_of (map answer_data answers))

abbrev pub headed : Head → Data → Data
headed (Head.Entry mode language entry bound) answers =
    object (member (codes "answers") answers (member (codes "bound") (count bound) (member (codes "entry") (string entry)
    (member (codes "lang") (string (language_word language)) (member (codes "mode") (string (mode_word mode)) no_members)))))
headed (Head.Check language bound) answers =
    object (member (codes "answers") answers (member (codes "bound") (count bound) (member (codes "lang") (string (language_word language))
    (member (codes "mode") (string (codes "check")) no_members))))
headed Head.Solve answers =
    object (member (codes "answers") answers (member (codes "lang") (string (codes "atoms"))
    (member (codes "mode") (string (codes "solve")) no_members)))
headed (Head.Sweep size) answers =
    object (member (codes "answers") answers (member (codes "mode") (string (codes "sweep")) (member (codes "n") (count size) no_members)))

abbrev pub report_data : PureReport → Data
report_data r = headed r.head (answers_data r.answers)

-- the compact text, and LF
abbrev pub report_json : PureReport → List ℕ
report_json r = line (compact_text (report_data r))
