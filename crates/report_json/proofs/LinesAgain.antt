-- The lines that are put together from the data of a report are those of the report.
use Rattle.std.proofs.Common.{◌≡◌, ℕ, suc, true, false, List, [], ◌∷◌, ◌++◌, map, Some, refl, sym, ap, ◌∙◌, append_assoc, append-nil}
use Rattle.std.specs.Prelude.{codes}
use Rattle.std.specs.List.{flat_map}
use Rattle.gil_values.specs.Pieces.{printed_list}
use Rattle.gil_values.specs.Printed.{numeral, printed_value}
use Rattle.gil_values.specs.Pure.{PureValue}
use Rattle.gil_values.proofs.Joined.{printed_list-joined}
use Rattle.serde_json.specs.Data.{Data, string}
use Rattle.serde_json.specs.View.{items_of}
use Rattle.gillian_words.specs.Tasks.{language_word}
use Rattle.gil_report.specs.declared.answers.Lack.{Lack}
use Rattle.gil_report.specs.declared.heads.EntryMode.{EntryMode}
use Rattle.gil_report.specs.declared.heads.Head.{Head}
use Rattle.gil_report.specs.Json.{count, counts, texts, question_data, unproved_data, answer_data, answers_data, headed, report_data}
use Rattle.gil_report.specs.Lines.{head_line, answer_line, printed_question, printed_witness, report_text}
use Rattle.gil_report.specs.Lines as lines
use Rattle.gil_report.specs.Printed.{bracketed, printed_binding, printed_condition, printed_sort, printed_specification}
use Rattle.gil_report.specs.Proofs.{printed_proof}
use Rattle.gil_report.specs.Pure.{PureQuestion, PureWitness, PureCause, fails, lacks, undecided_cause, depends}
use Rattle.gil_report.specs.Pure.{PureAnswer, returned, failed, vanished, cut, no_input, bad_input, number, clean, bug, undecided}
use Rattle.gil_report.specs.Pure.{verified, vacuous, unproved, found, sat, unsat, unknown, bytes, PureReport}
use Rattle.json_parts.specs.Lines as put
use Rattle.json_parts.specs.Lines.{pieces, line, question, head_of, unproved_question, unproved_why, specification_of, verdict_of, answer_of}
use Rattle.json_parts.specs.Parts.{joined_from, part}

-- ---- lists in brackets

module _ {X : Type 0} (printed : X → List ℕ) where
  later_texts : (xs : List X) (index : ℕ)
      → joined_from (suc index) (items_of (map (λ x. string (printed x)) xs)) ≡ Some (flat_map (λ x. codes ", " ++ printed x) xs)
  unfolding joined_from
  later_texts [] index = refl
  later_texts (x ∷ xs) index = rw (later_texts xs (suc index)) refl

  list_of_texts : (xs : List X) → part (texts printed xs) ≡ Some (bracketed printed xs)
  unfolding joined_from
  list_of_texts [] = refl
  list_of_texts (x ∷ xs) = rw (later_texts xs 0) refl

later_counts : (ns : List ℕ) (index : ℕ) → joined_from (suc index) (items_of (map count ns)) ≡ Some (flat_map (λ n. codes ", " ++ numeral n) ns)
unfolding joined_from
later_counts [] index = refl
later_counts (n ∷ ns) index = rw (later_counts ns (suc index)) refl

list_of_counts : (ns : List ℕ) → part (counts ns) ≡ Some (bracketed numeral ns)
unfolding joined_from
list_of_counts [] = refl
list_of_counts (n ∷ ns) = rw (later_counts ns 0) refl

list_of_values : (vs : List PureValue) → part (texts printed_value vs) ≡ Some (printed_list vs)
list_of_values vs = list_of_texts printed_value vs ∙ ap Some (sym (printed_list-joined vs))

-- ---- words and parts, in two groupings

module _ (end : List ℕ) where
  one : (w x : List ℕ) → ((w ++ x) ++ []) ++ end ≡ (w ++ x) ++ end
  one w x = simp (append_assoc, append-nil)

  two : (w x v y : List ℕ) → ((w ++ x) ++ ((v ++ y) ++ [])) ++ end ≡ (((w ++ x) ++ v) ++ y) ++ end
  two w x v y = simp (append_assoc, append-nil)

  -- behind a name and a word
  after_name : (name w v y : List ℕ) → (name ++ (((w ++ v) ++ y) ++ [])) ++ end ≡ ((name ++ w) ++ (v ++ y)) ++ end
  after_name name w v y = simp (append_assoc, append-nil)

  placed : (w proc colon at : List ℕ) → ((w ++ proc) ++ ((colon ++ at) ++ [])) ++ end ≡ (w ++ ((proc ++ colon) ++ at)) ++ end
  placed w proc colon at = simp (append_assoc, append-nil)

  failing : (w v b proc colon at : List ℕ) → ((w ++ v) ++ ((b ++ proc) ++ ((colon ++ at) ++ []))) ++ end ≡ (((w ++ v) ++ b) ++ ((proc ++ colon) ++ at)) ++ end
  failing w v b proc colon at = simp (append_assoc, append-nil)

  drawing : (w proc colon at b v i vs : List ℕ) → ((w ++ proc) ++ ((colon ++ at) ++ ((b ++ v) ++ ((i ++ vs) ++ [])))) ++ end
      ≡ (((((w ++ ((proc ++ colon) ++ at)) ++ b) ++ v) ++ i) ++ vs) ++ end
  drawing w proc colon at b v i vs = simp (append_assoc, append-nil)

  asking : (w proc colon at p path s vars g given q query o outside : List ℕ)
      → ((w ++ proc) ++ ((colon ++ at) ++ ((p ++ path) ++ ((s ++ vars) ++ ((g ++ given) ++ ((q ++ query) ++ ((o ++ outside) ++ []))))))) ++ end
      ≡ (w ++ ((((((((((((proc ++ colon) ++ at) ++ p) ++ path) ++ s) ++ vars) ++ g) ++ given) ++ q) ++ query) ++ o) ++ outside)) ++ end
  asking w proc colon at p path s vars g given q query o outside = simp (append_assoc, append-nil)

  behind_name : (name a b question : List ℕ) → name ++ (((a ++ b) ++ question) ++ end) ≡ ((name ++ a) ++ (b ++ question)) ++ end
  behind_name name a b question = simp append_assoc

  -- a path with its values, behind a name and two words
  walking : (name a f v b proc colon at p path w with : List ℕ)
      → (name ++ (((a ++ f) ++ v) ++ ((b ++ proc) ++ ((colon ++ at) ++ ((p ++ path) ++ ((w ++ with) ++ [])))))) ++ end
      ≡ ((name ++ a) ++ (((f ++ v) ++ b) ++ ((((((proc ++ colon) ++ at) ++ p) ++ path) ++ w) ++ with))) ++ end
  walking name a f v b proc colon at p path w with = simp (append_assoc, append-nil)

  asked : (g mode b language e entry n bound : List ℕ) → ((g ++ mode) ++ ((b ++ language) ++ ((e ++ entry) ++ ((n ++ bound) ++ [])))) ++ end
      ≡ (((((((g ++ mode) ++ b) ++ language) ++ e) ++ entry) ++ n) ++ bound) ++ end
  asked g mode b language e entry n bound = simp (append_assoc, append-nil)

-- a name, and words behind it up to the end
named : (name w end : List ℕ) → (name ++ []) ++ (w ++ end) ≡ (name ++ w) ++ end
named name w end = simp (append_assoc, append-nil)

-- ---- answers

abbrev lf : List ℕ
lf = codes "\n"

question_again : (o : PureQuestion) (words : List ℕ) → question words (question_data o) ≡ Some (lines.line (words ++ printed_question o))
unfolding pieces line question
question_again o words =
    rw (list_of_counts o.path, list_of_texts printed_sort o.vars, list_of_texts printed_condition o.given, list_of_texts printed_condition o.query)
    (ap Some (asking lf words o.place.proc (codes ":") (numeral o.place.at) (codes " path ") (bracketed numeral o.path) (codes " vars ") (bracketed printed_sort o.vars)
    (codes " given ") (bracketed printed_condition o.given) (codes " query ") (bracketed printed_condition o.query) (codes " outside ") (numeral o.outside)))

undecided_again : (name : List ℕ) (o : PureQuestion) → put.answer (unproved_data name (undecided_cause o)) ≡ Some (answer_line (unproved name (undecided_cause o)))
unfolding pieces line question unproved_question unproved_why specification_of verdict_of answer_of
undecided_again name o =
    rw (list_of_counts o.path, list_of_texts printed_sort o.vars, list_of_texts printed_condition o.given, list_of_texts printed_condition o.query)
    (ap Some (ap (λ rest. name ++ rest) (asking lf (codes " unproved unknown ") o.place.proc (codes ":") (numeral o.place.at) (codes " path ") (bracketed numeral o.path)
    (codes " vars ") (bracketed printed_sort o.vars) (codes " given ") (bracketed printed_condition o.given) (codes " query ") (bracketed printed_condition o.query)
    (codes " outside ") (numeral o.outside))
    ∙ behind_name lf name (codes " unproved ") (codes "unknown ") (printed_question o)))

-- what a path lacks, whatever word says it
walked : (name f v : List ℕ) (w : PureWitness)
    → (name ++ (((codes " unproved " ++ f) ++ v) ++ ((codes " " ++ w.place.proc) ++ ((codes ":" ++ numeral w.place.at) ++ ((codes " path " ++ bracketed numeral w.path)
    ++ ((codes " with " ++ bracketed printed_binding w.with) ++ [])))))) ++ lf
    ≡ lines.line (name ++ codes " unproved " ++ (f ++ v ++ codes " " ++ printed_witness w))
walked name f v w =
    walking lf name (codes " unproved ") f v (codes " ") w.place.proc (codes ":") (numeral w.place.at) (codes " path ") (bracketed numeral w.path)
    (codes " with ") (bracketed printed_binding w.with)

unproved_again : (name : List ℕ) (cause : PureCause) → put.answer (unproved_data name cause) ≡ Some (answer_line (unproved name cause))
unfolding pieces line unproved_why specification_of verdict_of answer_of
unproved_again name (fails v w) =
    rw (list_of_counts w.path, list_of_texts printed_binding w.with) (ap Some (walked name (codes "fails ") (printed_value v) w))
unproved_again name (lacks Lack.Missing w) = rw (list_of_counts w.path, list_of_texts printed_binding w.with) (ap Some (walked name [] (codes "missing") w))
unproved_again name (lacks Lack.Post w) = rw (list_of_counts w.path, list_of_texts printed_binding w.with) (ap Some (walked name [] (codes "post") w))
unproved_again name (lacks Lack.Invariant w) = rw (list_of_counts w.path, list_of_texts printed_binding w.with) (ap Some (walked name [] (codes "invariant") w))
unproved_again name (lacks Lack.CallPre w) = rw (list_of_counts w.path, list_of_texts printed_binding w.with) (ap Some (walked name [] (codes "callpre") w))
unproved_again name (lacks Lack.FoldBody w) = rw (list_of_counts w.path, list_of_texts printed_binding w.with) (ap Some (walked name [] (codes "foldbody") w))
unproved_again name (lacks Lack.Cut w) = rw (list_of_counts w.path, list_of_texts printed_binding w.with) (ap Some (walked name [] (codes "cut") w))
unproved_again name (undecided_cause o) = undecided_again name o
unproved_again name (depends other) = ap Some (after_name lf name (codes " unproved ") (codes "depends ") other)

answer_again : (x : PureAnswer) → put.answer (answer_data x) ≡ Some (answer_line x)
unfolding pieces line specification_of verdict_of answer_of
answer_again (returned v) = ap Some (one lf (codes "returned ") (printed_value v))
answer_again (failed v place) = ap Some (failing lf (codes "failed ") (printed_value v) (codes " ") place.proc (codes ":") (numeral place.at))
answer_again vanished = refl
answer_again cut = refl
answer_again (no_input draw) = ap Some (one lf (codes "no input ") (numeral draw))
answer_again (bad_input draw) = ap Some (one lf (codes "bad input ") (numeral draw))
answer_again (number place) = ap Some (placed lf (codes "number ") place.proc (codes ":") (numeral place.at))
answer_again clean = refl
answer_again (bug place v inputs) =
    rw (list_of_values inputs)
    (ap Some (drawing lf (codes "bug ") place.proc (codes ":") (numeral place.at) (codes " ") (printed_value v) (codes " inputs ") (printed_list inputs)))
answer_again (undecided o) = question_again o (codes "unknown ")
answer_again (verified name) = ap Some (named name (codes " verified") lf)
answer_again (vacuous name proof) = ap Some (two lf [] name (codes " vacuous ") (printed_proof proof))
answer_again (unproved name cause) = unproved_again name cause
answer_again (found spec true) = ap Some (named (printed_specification spec) (codes " cut") lf)
answer_again (found spec false) = refl
answer_again (sat bindings) = rw (list_of_texts printed_binding bindings) (ap Some (one lf (codes "sat ") (bracketed printed_binding bindings)))
answer_again (unsat proof) = ap Some (one lf (codes "unsat ") (printed_proof proof))
answer_again (unknown place) = ap Some (one lf (codes "unknown ") (numeral place))
answer_again (bytes length) = ap Some (one lf (codes "bytes ") (numeral length))

answers_again : (xs : List PureAnswer) → put.answers (items_of (map answer_data xs)) ≡ Some (flat_map answer_line xs)
unfolding put.answers
answers_again [] = refl
answers_again (x ∷ xs) = rw (answer_again x, answers_again xs) refl

-- ---- reports

head_again : (head : Head) (answers : Data) → put.head (headed head answers) ≡ Some (head_line head)
unfolding pieces line head_of
head_again (Head.Entry EntryMode.Run language entry bound) answers =
    ap Some (asked lf (codes "gillian ") (codes "run") (codes " ") (language_word language) (codes " entry ") entry (codes " bound ") (numeral bound))
head_again (Head.Entry EntryMode.Test language entry bound) answers =
    ap Some (asked lf (codes "gillian ") (codes "test") (codes " ") (language_word language) (codes " entry ") entry (codes " bound ") (numeral bound))
head_again (Head.Entry EntryMode.Infer language entry bound) answers =
    ap Some (asked lf (codes "gillian ") (codes "infer") (codes " ") (language_word language) (codes " entry ") entry (codes " bound ") (numeral bound))
head_again (Head.Check language bound) answers = ap Some (two lf (codes "gillian check ") (language_word language) (codes " bound ") (numeral bound))
head_again Head.Solve answers = refl
head_again (Head.Sweep size) answers = ap Some (one lf (codes "gillian sweep ") (numeral size))

answers_found : (head : Head) (answers : Data) → put.answers_at (headed head answers) ≡ put.list_of_answers answers
answers_found (Head.Entry mode language entry bound) answers = refl
answers_found (Head.Check language bound) answers = refl
answers_found Head.Solve answers = refl
answers_found (Head.Sweep size) answers = refl

pub lines_again : (r : PureReport) → put.lines (report_data r) ≡ Some (report_text r)
lines_again r =
    rw (head_again r.head (answers_data r.answers), answers_found r.head (answers_data r.answers), answers_again r.answers) refl
