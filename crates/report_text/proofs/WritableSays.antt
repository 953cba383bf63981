-- What is read as a report is writable.
use Rattle.std.proofs.Common.{◌≡◌, ℕ, List, length, Some, subst, inl, inr}
use Rattle.std.specs.Prelude.{codes}
use Rattle.std.specs.List.{AllByRecursion}
use Rattle.std.proofs.lemmas.Option.{same_Some}
use Rattle.value_text.specs.Reading.{Reading, ◌>>=◌, behind, behind_or, many_at, name_at, natural_at, any_value_at, bracketed_values_at}
use Rattle.value_text.proofs.Says.{step, branch, behind_or_says, natural_says, name_says, any_says, bracketed_says, many_says}
use Rattle.gil_lexer.specs.Bytes.{begins, is_name_start}
use Rattle.gil_lexer.specs.Spelling.{IsName}
use Rattle.std.proofs.Common.{true, false}
use Rattle.gil_syntax.specs.Pure.{PureSpec}
use Rattle.specification_text.specs.Reading as specifications
use Rattle.specification_text.specs.Writable.{IsWritableSpec}
use Rattle.specification_text.proofs.SpecificationSays.{specification_says as spec_says}
use Rattle.proof_text.specs.Reading.{any_proof_at}
use Rattle.proof_text.proofs.ProofSays.{only_writable_proofs}
use Rattle.report_parts.specs.Reading.{place_at, bindings_at, question_at, cause_at}
use Rattle.report_parts.proofs.PartSays.{place_says, bindings_say, question_says, cause_says}
use Rattle.gil_report.specs.declared.heads.Head.{Head}
use Rattle.gil_report.specs.Pure.{PureAnswer, returned, vanished, cut, no_input, bad_input, number, clean, undecided, verified, vacuous, unproved, found, sat, unsat, unknown, bytes as length_of, PureReport}
use Rattle.report_text.specs.Writable.{IsWritableHead, IsWritableAnswer, IsWritable}
use Rattle.report_text.specs.Reading.{language_at, mode_at, check_at, sweep_at, entry_at, asked_at, head_at, returned_at, failed_at, no_input_at, bad_input_at, number_at, bug_at, sat_at, unsat_at, is_open, marked_at, found_at, undecided_at, outside_at, unknown_at, length_at, solved_at, rarer_at, body_at, vacuous_at, unproved_at, status_at, specification_at, is_of_specification, any_at, answer_at, is_at_end, lines_at, answers_at, report_at}

-- ---- heads

abbrev OnlyHeads : Reading Head → Type 0
OnlyHeads r = (y : Head × List ℕ) → r ≡ Some y → IsWritableHead y.0

check_says : (bytes : List ℕ) → OnlyHeads (check_at bytes)
unfolding check_at
check_says bytes y e =
    let a = step (language_at bytes) _ y e in
    let b = step (behind (codes " bound ") a.first.1) _ y a.then_read in
    let c = step (natural_at 32 b.first) _ y b.then_read in
    let d = step (behind (codes "\n") c.first.1) _ y c.then_read in
    subst (λ p. IsWritableHead p.0) (same_Some _ _ d.then_read) (natural_says 32 b.first c.first c.read)

sweep_says : (bytes : List ℕ) → OnlyHeads (sweep_at bytes)
unfolding sweep_at
sweep_says bytes y e =
    let c = step (natural_at 32 bytes) _ y e in
    let d = step (behind (codes "\n") c.first.1) _ y c.then_read in
    subst (λ p. IsWritableHead p.0) (same_Some _ _ d.then_read) (natural_says 32 bytes c.first c.read)

entry_says : (bytes : List ℕ) → OnlyHeads (entry_at bytes)
unfolding entry_at
entry_says bytes y e =
    let a = step (mode_at bytes) _ y e in
    let b = step (behind (codes " ") a.first.1) _ y a.then_read in
    let c = step (language_at b.first) _ y b.then_read in
    let d = step (behind (codes " entry ") c.first.1) _ y c.then_read in
    let f = step (name_at d.first) _ y d.then_read in
    let g = step (behind (codes " bound ") f.first.1) _ y f.then_read in
    let h = step (natural_at 32 g.first) _ y g.then_read in
    let i = step (behind (codes "\n") h.first.1) _ y h.then_read in
    subst (λ p. IsWritableHead p.0) (same_Some _ _ i.then_read) (name_says d.first f.first f.read, natural_says 32 g.first h.first h.read)

solve_says : (rest : List ℕ) (y : Head × List ℕ) → Some (Head.Solve, rest) ≡ Some y → IsWritableHead y.0
solve_says rest y e = subst (λ p. IsWritableHead p.0) (same_Some (Head.Solve, rest) y e) tt

abbrev asked_last : List ℕ → Reading Head
asked_last bytes = behind_or (behind (codes "sweep ") bytes) sweep_at (entry_at bytes)

abbrev asked_rest : List ℕ → Reading Head
asked_rest bytes = behind_or (behind (codes "solve atoms\n") bytes) (λ rest. Some (Head.Solve, rest)) (asked_last bytes)

asked_says : (bytes : List ℕ) → OnlyHeads (asked_at bytes)
asked_says bytes y e = elim (behind_or_says {X = Head} (behind (codes "check ") bytes) check_at (asked_rest bytes) y e) [
  | inl (rest, is) ↦ check_says rest y is
  | inr other ↦ elim (behind_or_says {X = Head} (behind (codes "solve atoms\n") bytes) (λ rest. Some (Head.Solve, rest)) (asked_last bytes) y other) [
    | inl (rest, is) ↦ solve_says rest y is
    | inr another ↦ elim (behind_or_says {X = Head} (behind (codes "sweep ") bytes) sweep_at (entry_at bytes) y another) [
      | inl (rest, is) ↦ sweep_says rest y is
      | inr is ↦ entry_says bytes y is
    ]
  ]
]

head_says : (bytes : List ℕ) → OnlyHeads (head_at bytes)
unfolding head_at
head_says bytes y e = let a = step (behind (codes "gillian ") bytes) asked_at y e in asked_says a.first y a.then_read

-- ---- answers

abbrev OnlyWritable : Reading PureAnswer → Type 0
OnlyWritable r = (y : PureAnswer × List ℕ) → r ≡ Some y → IsWritableAnswer y.0

-- what is made of something that was read
made_says : {X : Type 0} (r : Reading X) (make : X → PureAnswer) → ((y : X × List ℕ) → r ≡ Some y → IsWritableAnswer (make y.0)) → OnlyWritable (r >>= λ x. Some (make x.0, x.1))
made_says r make each y e =
    let s = step r _ y e in subst (λ p. IsWritableAnswer p.0) (same_Some _ _ s.then_read) (each s.first s.read)

-- an answer of one word
alone_says : (x : PureAnswer) (rest : List ℕ) → IsWritableAnswer x → (y : PureAnswer × List ℕ) → Some (x, rest) ≡ Some y → IsWritableAnswer y.0
alone_says x rest is y e = subst (λ p. IsWritableAnswer p.0) (same_Some (x, rest) y e) is

returned_says : (bytes : List ℕ) → OnlyWritable (returned_at bytes)
unfolding returned_at
returned_says bytes y e = made_says (any_value_at bytes) returned (λ z f. any_says bytes z f) y e

failed_says : (bytes : List ℕ) → OnlyWritable (failed_at bytes)
unfolding failed_at
failed_says bytes y e =
    let a = step (any_value_at bytes) _ y e in
    let b = step (behind (codes " ") a.first.1) _ y a.then_read in
    let c = step (place_at b.first) _ y b.then_read in
    subst (λ p. IsWritableAnswer p.0) (same_Some _ _ c.then_read) (any_says bytes a.first a.read, place_says b.first c.first c.read)

no_input_says : (bytes : List ℕ) → OnlyWritable (no_input_at bytes)
unfolding no_input_at
no_input_says bytes y e = made_says (natural_at 32 bytes) no_input (λ z f. natural_says 32 bytes z f) y e

bad_input_says : (bytes : List ℕ) → OnlyWritable (bad_input_at bytes)
unfolding bad_input_at
bad_input_says bytes y e = made_says (natural_at 32 bytes) bad_input (λ z f. natural_says 32 bytes z f) y e

number_says : (bytes : List ℕ) → OnlyWritable (number_at bytes)
unfolding number_at
number_says bytes y e = made_says (place_at bytes) number (λ z f. place_says bytes z f) y e

length_says : (bytes : List ℕ) → OnlyWritable (length_at bytes)
unfolding length_at
length_says bytes y e = made_says (natural_at 64 bytes) length_of (λ z f. natural_says 64 bytes z f) y e

bug_says : (bytes : List ℕ) → OnlyWritable (bug_at bytes)
unfolding bug_at
bug_says bytes y e =
    let a = step (place_at bytes) _ y e in
    let b = step (behind (codes " ") a.first.1) _ y a.then_read in
    let c = step (any_value_at b.first) _ y b.then_read in
    let d = step (behind (codes " inputs ") c.first.1) _ y c.then_read in
    let f = step (bracketed_values_at d.first) _ y d.then_read in
    subst (λ p. IsWritableAnswer p.0) (same_Some _ _ f.then_read) (place_says bytes a.first a.read, any_says b.first c.first c.read, bracketed_says d.first f.first f.read)

sat_says : (bytes : List ℕ) → OnlyWritable (sat_at bytes)
unfolding sat_at
sat_says bytes y e = made_says (bindings_at bytes) sat (λ z f. bindings_say bytes z f) y e

unsat_says : (bytes : List ℕ) → OnlyWritable (unsat_at bytes)
unfolding unsat_at
unsat_says bytes y e = made_says (any_proof_at bytes) unsat (λ z f. only_writable_proofs bytes z.0 z.1 f) y e

marked_says : (s : PureSpec) (bytes : List ℕ) → IsWritableSpec s → OnlyWritable (marked_at s bytes)
marked_says s bytes written y e =
    elim (branch {A = PureAnswer × List ℕ} (is_open s) (behind (codes " cut") bytes >>= λ rest. Some (found s true, rest)) (Some (found s false, bytes)) y e) [
      | inl (test, is) ↦ let a = step (behind (codes " cut") bytes) _ y is in alone_says (found s true) a.first (written, test) y a.then_read
      | inr (test, is) ↦ alone_says (found s false) bytes (written, test) y is
    ]

found_says : (bytes : List ℕ) → OnlyWritable (found_at bytes)
unfolding found_at
found_says bytes y e =
    let a = step (specifications.specification_at bytes) _ y e in marked_says a.first.0 a.first.1 (spec_says bytes a.first a.read) y a.then_read

undecided_says : (bytes : List ℕ) → OnlyWritable (undecided_at bytes)
unfolding undecided_at
undecided_says bytes y e = made_says (question_at bytes) undecided (λ z f. question_says bytes z f) y e

outside_says : (bytes : List ℕ) → OnlyWritable (outside_at bytes)
unfolding outside_at
outside_says bytes y e = made_says (natural_at 64 bytes) unknown (λ z f. natural_says 64 bytes z f) y e

unknown_says : (bytes : List ℕ) → OnlyWritable (unknown_at bytes)
unknown_says bytes y e = elim (branch {A = PureAnswer × List ℕ} (begins is_name_start bytes) (undecided_at bytes) (outside_at bytes) y e) [
  | inl (test, is) ↦ undecided_says bytes y is
  | inr (test, is) ↦ outside_says bytes y is
]

-- what is read where none of the words so far stands at the front
abbrev after_spec : List ℕ → Reading PureAnswer
after_spec bytes = behind (codes "bytes ") bytes >>= length_at

abbrev after_unknown : List ℕ → Reading PureAnswer
after_unknown bytes = behind_or (behind (codes "spec ") bytes) found_at (after_spec bytes)

abbrev after_unsat : List ℕ → Reading PureAnswer
after_unsat bytes = behind_or (behind (codes "unknown ") bytes) unknown_at (after_unknown bytes)

abbrev after_sat : List ℕ → Reading PureAnswer
after_sat bytes = behind_or (behind (codes "unsat ") bytes) unsat_at (after_unsat bytes)

solved_says : (bytes : List ℕ) → OnlyWritable (solved_at bytes)
solved_says bytes y e = elim (behind_or_says {X = PureAnswer} (behind (codes "sat ") bytes) sat_at (after_sat bytes) y e) [
  | inl (rest, is) ↦ sat_says rest y is
  | inr e1 ↦ elim (behind_or_says {X = PureAnswer} (behind (codes "unsat ") bytes) unsat_at (after_unsat bytes) y e1) [
    | inl (rest, is) ↦ unsat_says rest y is
    | inr e2 ↦ elim (behind_or_says {X = PureAnswer} (behind (codes "unknown ") bytes) unknown_at (after_unknown bytes) y e2) [
      | inl (rest, is) ↦ unknown_says rest y is
      | inr e3 ↦ elim (behind_or_says {X = PureAnswer} (behind (codes "spec ") bytes) found_at (after_spec bytes) y e3) [
        | inl (rest, is) ↦ found_says rest y is
        | inr e4 ↦ let a = step (behind (codes "bytes ") bytes) length_at y e4 in length_says a.first y a.then_read
      ]
    ]
  ]
]

abbrev after_clean : List ℕ → Reading PureAnswer
after_clean bytes = behind_or (behind (codes "bug ") bytes) bug_at (solved_at bytes)

abbrev after_number : List ℕ → Reading PureAnswer
after_number bytes = behind_or (behind (codes "clean") bytes) (λ rest. Some (clean, rest)) (after_clean bytes)

abbrev after_bad_input : List ℕ → Reading PureAnswer
after_bad_input bytes = behind_or (behind (codes "number ") bytes) number_at (after_number bytes)

rarer_says : (bytes : List ℕ) → OnlyWritable (rarer_at bytes)
rarer_says bytes y e = elim (behind_or_says {X = PureAnswer} (behind (codes "bad input ") bytes) bad_input_at (after_bad_input bytes) y e) [
  | inl (rest, is) ↦ bad_input_says rest y is
  | inr e1 ↦ elim (behind_or_says {X = PureAnswer} (behind (codes "number ") bytes) number_at (after_number bytes) y e1) [
    | inl (rest, is) ↦ number_says rest y is
    | inr e2 ↦ elim (behind_or_says {X = PureAnswer} (behind (codes "clean") bytes) (λ rest. Some (clean, rest)) (after_clean bytes) y e2) [
      | inl (rest, is) ↦ alone_says clean rest tt y is
      | inr e3 ↦ elim (behind_or_says {X = PureAnswer} (behind (codes "bug ") bytes) bug_at (solved_at bytes) y e3) [
        | inl (rest, is) ↦ bug_says rest y is
        | inr is ↦ solved_says bytes y is
      ]
    ]
  ]
]

abbrev after_cut : List ℕ → Reading PureAnswer
after_cut bytes = behind_or (behind (codes "no input ") bytes) no_input_at (rarer_at bytes)

abbrev after_vanished : List ℕ → Reading PureAnswer
after_vanished bytes = behind_or (behind (codes "cut") bytes) (λ rest. Some (cut, rest)) (after_cut bytes)

abbrev after_failed : List ℕ → Reading PureAnswer
after_failed bytes = behind_or (behind (codes "vanished") bytes) (λ rest. Some (vanished, rest)) (after_vanished bytes)

abbrev after_returned : List ℕ → Reading PureAnswer
after_returned bytes = behind_or (behind (codes "failed ") bytes) failed_at (after_failed bytes)

body_says : (bytes : List ℕ) → OnlyWritable (body_at bytes)
body_says bytes y e = elim (behind_or_says {X = PureAnswer} (behind (codes "returned ") bytes) returned_at (after_returned bytes) y e) [
  | inl (rest, is) ↦ returned_says rest y is
  | inr e1 ↦ elim (behind_or_says {X = PureAnswer} (behind (codes "failed ") bytes) failed_at (after_failed bytes) y e1) [
    | inl (rest, is) ↦ failed_says rest y is
    | inr e2 ↦ elim (behind_or_says {X = PureAnswer} (behind (codes "vanished") bytes) (λ rest. Some (vanished, rest)) (after_vanished bytes) y e2) [
      | inl (rest, is) ↦ alone_says vanished rest tt y is
      | inr e3 ↦ elim (behind_or_says {X = PureAnswer} (behind (codes "cut") bytes) (λ rest. Some (cut, rest)) (after_cut bytes) y e3) [
        | inl (rest, is) ↦ alone_says cut rest tt y is
        | inr e4 ↦ elim (behind_or_says {X = PureAnswer} (behind (codes "no input ") bytes) no_input_at (rarer_at bytes) y e4) [
          | inl (rest, is) ↦ no_input_says rest y is
          | inr is ↦ rarer_says bytes y is
        ]
      ]
    ]
  ]
]

-- ---- specifications

unproved_says : (x bytes : List ℕ) → IsName x → OnlyWritable (unproved_at x bytes)
unfolding unproved_at
unproved_says x bytes named y e = made_says (cause_at bytes) (unproved x) (λ z f. (named, cause_says bytes z f)) y e

vacuous_says : (x bytes : List ℕ) → IsName x → OnlyWritable (vacuous_at x bytes)
unfolding vacuous_at
vacuous_says x bytes named y e = made_says (any_proof_at bytes) (vacuous x) (λ z f. (named, only_writable_proofs bytes z.0 z.1 f)) y e

abbrev after_vacuous : List ℕ → List ℕ → Reading PureAnswer
after_vacuous x bytes = behind (codes " unproved ") bytes >>= unproved_at x

abbrev after_verified : List ℕ → List ℕ → Reading PureAnswer
after_verified x bytes = behind_or (behind (codes " vacuous ") bytes) (vacuous_at x) (after_vacuous x bytes)

status_says : (x bytes : List ℕ) → IsName x → OnlyWritable (status_at x bytes)
status_says x bytes named y e =
    elim (behind_or_says {X = PureAnswer} (behind (codes " verified") bytes) (λ rest. Some (verified x, rest)) (after_verified x bytes) y e) [
      | inl (rest, is) ↦ alone_says (verified x) rest named y is
      | inr e1 ↦ elim (behind_or_says {X = PureAnswer} (behind (codes " vacuous ") bytes) (vacuous_at x) (after_vacuous x bytes) y e1) [
        | inl (rest, is) ↦ vacuous_says x rest named y is
        | inr e2 ↦ let a = step (behind (codes " unproved ") bytes) (unproved_at x) y e2 in unproved_says x a.first named y a.then_read
      ]
    ]

specification_says : (bytes : List ℕ) → OnlyWritable (specification_at bytes)
unfolding specification_at
specification_says bytes y e =
    let a = step (name_at bytes) _ y e in status_says a.first.0 a.first.1 (name_says bytes a.first a.read) y a.then_read

-- ---- lines

any_answer_says : (bytes : List ℕ) → OnlyWritable (any_at bytes)
any_answer_says bytes y e = elim (branch {A = PureAnswer × List ℕ} (is_of_specification bytes) (specification_at bytes) (body_at bytes) y e) [
  | inl (test, is) ↦ specification_says bytes y is
  | inr (test, is) ↦ body_says bytes y is
]

answer_says : (bytes : List ℕ) (y : PureAnswer × List ℕ) → answer_at bytes ≡ Some y → IsWritableAnswer y.0
unfolding answer_at
answer_says bytes y e =
    let a = step (any_at bytes) _ y e in
    let b = step (behind (codes "\n") a.first.1) _ y a.then_read in
    subst (λ p. IsWritableAnswer p.0) (same_Some _ _ b.then_read) (any_answer_says bytes a.first a.read)

-- ---- reports

lines_say : (bytes : List ℕ) (y : List PureAnswer × List ℕ) → lines_at bytes ≡ Some y → AllByRecursion IsWritableAnswer y.0
lines_say bytes y e =
    let a = step (many_at is_at_end answer_at (length bytes) bytes) _ y e in
    subst (λ p. AllByRecursion IsWritableAnswer p.0) (same_Some _ _ a.then_read)
    (many_says is_at_end answer_at IsWritableAnswer answer_says (length bytes) bytes a.first a.read)

answers_say : (bytes : List ℕ) (xs : List PureAnswer) → answers_at bytes ≡ Some xs → AllByRecursion IsWritableAnswer xs
answers_say bytes xs e =
    let a = step (lines_at bytes) _ xs e in subst (AllByRecursion IsWritableAnswer) (same_Some _ _ a.then_read) (lines_say bytes a.first a.read)

pub report_says : (bytes : List ℕ) (r : PureReport) → report_at bytes ≡ Some r → IsWritable r
unfolding report_at
report_says bytes r e =
    let a = step (head_at bytes) _ r e in
    let b = step (answers_at a.first.1) _ r a.then_read in
    subst IsWritable (same_Some _ _ b.then_read) (record { head = head_says bytes a.first a.read; answers = answers_say a.first.1 b.first b.read })
