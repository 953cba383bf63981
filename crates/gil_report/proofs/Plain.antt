-- No number of a report is a float.
use Rattle.std.proofs.Common.{◌≡◌, ℕ, List, [], ◌∷◌, false, refl}
use Rattle.serde_json.specs.Data.{Data}
use Rattle.serde_json.specs.Written.{has_float}
use Rattle.gil_values.specs.Printed.{printed_value}
use Rattle.gil_report.specs.declared.heads.Head.{Head}
use Rattle.gil_report.specs.Json.{answer_data, answers_data, counts, headed, question_data, report_data, texts, unproved_data}
use Rattle.gil_report.specs.Printed.{printed_binding, printed_condition, printed_sort}
use Rattle.gil_report.specs.Pure.{PureQuestion, PureCause, fails, lacks, undecided_cause, depends}
use Rattle.gil_report.specs.Pure.{PureAnswer, returned, failed, vanished, cut, no_input, bad_input, number, clean, bug, undecided}
use Rattle.gil_report.specs.Pure.{verified, vacuous, unproved, found, sat, unsat, unknown, bytes, PureReport}

texts_plain : {X : Type 0} (printed : X → List ℕ) (xs : List X) → has_float (texts printed xs) ≡ false
texts_plain printed [] = refl
texts_plain printed (x ∷ xs) = texts_plain printed xs

counts_plain : (ns : List ℕ) → has_float (counts ns) ≡ false
counts_plain [] = refl
counts_plain (n ∷ ns) = counts_plain ns

question_plain : (o : PureQuestion) → has_float (question_data o) ≡ false
question_plain o =
    rw (texts_plain printed_condition o.given, counts_plain o.path, texts_plain printed_condition o.query, texts_plain printed_sort o.vars) refl

unproved_plain : (name : List ℕ) (cause : PureCause) → has_float (unproved_data name cause) ≡ false
unproved_plain name (fails v w) = rw (counts_plain w.path, texts_plain printed_binding w.with) refl
unproved_plain name (lacks lack w) = rw (counts_plain w.path, texts_plain printed_binding w.with) refl
unproved_plain name (undecided_cause o) =
    rw (texts_plain printed_condition o.given, counts_plain o.path, texts_plain printed_condition o.query, texts_plain printed_sort o.vars) refl
unproved_plain name (depends other) = refl

answer_plain : (a : PureAnswer) → has_float (answer_data a) ≡ false
answer_plain (returned v) = refl
answer_plain (failed v place) = refl
answer_plain vanished = refl
answer_plain cut = refl
answer_plain (no_input draw) = refl
answer_plain (bad_input draw) = refl
answer_plain (number place) = refl
answer_plain clean = refl
answer_plain (bug place v inputs) = rw (texts_plain printed_value inputs) refl
answer_plain (undecided o) = question_plain o
answer_plain (verified name) = refl
answer_plain (vacuous name proof) = refl
answer_plain (unproved name cause) = unproved_plain name cause
answer_plain (found spec is_cut) = refl
answer_plain (sat bindings) = rw (texts_plain printed_binding bindings) refl
answer_plain (unsat proof) = refl
answer_plain (unknown place) = refl
answer_plain (bytes length) = refl

answers_plain : (answers : List PureAnswer) → has_float (answers_data answers) ≡ false
answers_plain [] = refl
answers_plain (a ∷ answers) = rw (answer_plain a) (answers_plain answers)

headed_plain : (head : Head) (answers : Data) → has_float answers ≡ false → has_float (headed head answers) ≡ false
headed_plain (Head.Entry mode language entry bound) answers plain = rw plain refl
headed_plain (Head.Check language bound) answers plain = rw plain refl
headed_plain Head.Solve answers plain = rw plain refl
headed_plain (Head.Sweep size) answers plain = rw plain refl

pub report_plain : (r : PureReport) → has_float (report_data r) ≡ false
report_plain r = headed_plain r.head (answers_data r.answers) (answers_plain r.answers)
