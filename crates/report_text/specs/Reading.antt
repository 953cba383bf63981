-- Reading the lines of reports, as functions: what the readers answer.
use Rattle.std.specs.Prelude.{ℕ, Bool, true, false, ◌&&◌, ◌||◌, if◌then◌else◌, List, [], ◌∷◌, length, Option, Some, is_some, codes}
use Rattle.gil_lexer.specs.Bytes.{begins, is_name_start}
use Rattle.gil_syntax.specs.Pure.{PureSpec}
use Rattle.gillian_words.specs.declared.tasks.Language.{Language}
use Rattle.gillian_words.specs.declared.tasks.Language.TheVariants as languages
use Rattle.value_text.specs.Reading.{Reading, ◌>>=◌, ◌or_else◌, behind, behind_or, word_by, many_at, with_front, name_at, past_name, natural_at, any_value_at, bracketed_values_at}
use Rattle.proof_text.specs.Reading.{any_proof_at}
use Rattle.report_parts.specs.Reading.{place_at, bindings_at, question_at, cause_at}
use Rattle.specification_text.specs.Reading as specifications
use Rattle.gil_report.specs.declared.heads.EntryMode.{EntryMode}
use Rattle.gil_report.specs.declared.heads.EntryMode.TheVariants as modes
use Rattle.gil_report.specs.declared.heads.Head.{Head}
use Rattle.gil_report.specs.Pure.{PureAnswer, returned, failed, vanished, cut, no_input, bad_input, number, clean, bug, undecided, verified, vacuous, unproved, found, sat, unsat, unknown, bytes as length_of, PureReport}

-- ---- heads

abbrev pub language_at : List ℕ → Reading Language
language_at bytes =
    word_by (codes "gil-record") languages.GilRecord bytes or_else word_by (codes "gil-block") languages.GilBlock bytes
    or_else word_by (codes "gil-object") languages.GilObject bytes or_else word_by (codes "while") languages.While bytes
    or_else word_by (codes "clike") languages.Clike bytes or_else word_by (codes "object") languages.Object bytes

abbrev pub mode_at : List ℕ → Reading EntryMode
mode_at bytes =
    word_by (codes "run") modes.Run bytes or_else word_by (codes "test") modes.Test bytes or_else word_by (codes "infer") modes.Infer bytes

unfoldable pub check_at : List ℕ → Reading Head
check_at bytes = do
  language ← language_at bytes
  after ← behind (codes " bound ") language.1
  n ← natural_at 32 after
  rest ← behind (codes "\n") n.1
  Some (Head.Check language.0 n.0, rest)

unfoldable pub sweep_at : List ℕ → Reading Head
sweep_at bytes = do
  n ← natural_at 32 bytes
  rest ← behind (codes "\n") n.1
  Some (Head.Sweep n.0, rest)

unfoldable pub entry_at : List ℕ → Reading Head
entry_at bytes = do
  mode ← mode_at bytes
  after ← behind (codes " ") mode.1
  language ← language_at after
  before ← behind (codes " entry ") language.1
  entry ← name_at before
  count ← behind (codes " bound ") entry.1
  n ← natural_at 32 count
  rest ← behind (codes "\n") n.1
  Some (Head.Entry mode.0 language.0 entry.0 n.0, rest)

abbrev pub asked_at : List ℕ → Reading Head
asked_at bytes =
    behind_or (behind (codes "check ") bytes) check_at
    (behind_or (behind (codes "solve atoms\n") bytes) (λ rest. Some (Head.Solve, rest))
    (behind_or (behind (codes "sweep ") bytes) sweep_at
    (entry_at bytes)))

unfoldable pub head_at : List ℕ → Reading Head
head_at bytes = behind (codes "gillian ") bytes >>= asked_at

-- ---- answers

unfoldable pub returned_at : List ℕ → Reading PureAnswer
returned_at bytes = any_value_at bytes >>= λ v. Some (returned v.0, v.1)

unfoldable pub failed_at : List ℕ → Reading PureAnswer
failed_at bytes = do
  v ← any_value_at bytes
  after ← behind (codes " ") v.1
  place ← place_at after
  Some (failed v.0 place.0, place.1)

unfoldable pub no_input_at : List ℕ → Reading PureAnswer
no_input_at bytes = natural_at 32 bytes >>= λ n. Some (no_input n.0, n.1)

unfoldable pub bad_input_at : List ℕ → Reading PureAnswer
bad_input_at bytes = natural_at 32 bytes >>= λ n. Some (bad_input n.0, n.1)

unfoldable pub number_at : List ℕ → Reading PureAnswer
number_at bytes = place_at bytes >>= λ place. Some (number place.0, place.1)

unfoldable pub bug_at : List ℕ → Reading PureAnswer
bug_at bytes = do
  place ← place_at bytes
  after ← behind (codes " ") place.1
  v ← any_value_at after
  before ← behind (codes " inputs ") v.1
  inputs ← bracketed_values_at before
  Some (bug place.0 v.0 inputs.0, inputs.1)

unfoldable pub length_at : List ℕ → Reading PureAnswer
length_at bytes = natural_at 64 bytes >>= λ n. Some (length_of n.0, n.1)

unfoldable pub sat_at : List ℕ → Reading PureAnswer
sat_at bytes = bindings_at bytes >>= λ bound. Some (sat bound.0, bound.1)

unfoldable pub unsat_at : List ℕ → Reading PureAnswer
unsat_at bytes = any_proof_at bytes >>= λ p. Some (unsat p.0, p.1)

unfoldable pub undecided_at : List ℕ → Reading PureAnswer
undecided_at bytes = question_at bytes >>= λ o. Some (undecided o.0, o.1)

unfoldable pub outside_at : List ℕ → Reading PureAnswer
outside_at bytes = natural_at 64 bytes >>= λ n. Some (unknown n.0, n.1)

-- conditions begin with the name of a procedure, and the place of an atom is a number
abbrev pub unknown_at : List ℕ → Reading PureAnswer
unknown_at bytes = if begins is_name_start bytes then undecided_at bytes else outside_at bytes

abbrev pub has_none : {X : Type 0} → List X → Bool
has_none [] = true
has_none (x ∷ xs) = false

-- whether a specification doesn't say how its runs end
abbrev pub is_open : PureSpec → Bool
is_open s = has_none s.posts && has_none s.errors

-- such a specification, and no other, is marked as cut
abbrev pub marked_at : PureSpec → List ℕ → Reading PureAnswer
marked_at s bytes = if is_open s then (behind (codes " cut") bytes >>= λ rest. Some (found s true, rest)) else Some (found s false, bytes)

unfoldable pub found_at : List ℕ → Reading PureAnswer
found_at bytes = specifications.specification_at bytes >>= λ s. marked_at s.0 s.1

abbrev pub solved_at : List ℕ → Reading PureAnswer
solved_at bytes =
    behind_or (behind (codes "sat ") bytes) sat_at
    (behind_or (behind (codes "unsat ") bytes) unsat_at
    (behind_or (behind (codes "unknown ") bytes) unknown_at
    (behind_or (behind (codes "spec ") bytes) found_at
    (behind (codes "bytes ") bytes >>= length_at))))

abbrev pub rarer_at : List ℕ → Reading PureAnswer
rarer_at bytes =
    behind_or (behind (codes "bad input ") bytes) bad_input_at
    (behind_or (behind (codes "number ") bytes) number_at
    (behind_or (behind (codes "clean") bytes) (λ rest. Some (clean, rest))
    (behind_or (behind (codes "bug ") bytes) bug_at
    (solved_at bytes))))

abbrev pub body_at : List ℕ → Reading PureAnswer
body_at bytes =
    behind_or (behind (codes "returned ") bytes) returned_at
    (behind_or (behind (codes "failed ") bytes) failed_at
    (behind_or (behind (codes "vanished") bytes) (λ rest. Some (vanished, rest))
    (behind_or (behind (codes "cut") bytes) (λ rest. Some (cut, rest))
    (behind_or (behind (codes "no input ") bytes) no_input_at
    (rarer_at bytes)))))

-- ---- specifications

unfoldable pub unproved_at : List ℕ → List ℕ → Reading PureAnswer
unproved_at x bytes = cause_at bytes >>= λ k. Some (unproved x k.0, k.1)

unfoldable pub vacuous_at : List ℕ → List ℕ → Reading PureAnswer
vacuous_at x bytes = any_proof_at bytes >>= λ p. Some (vacuous x p.0, p.1)

abbrev pub status_at : List ℕ → List ℕ → Reading PureAnswer
status_at x bytes =
    behind_or (behind (codes " verified") bytes) (λ rest. Some (verified x, rest))
    (behind_or (behind (codes " vacuous ") bytes) (vacuous_at x)
    (behind (codes " unproved ") bytes >>= unproved_at x))

unfoldable pub specification_at : List ℕ → Reading PureAnswer
specification_at bytes = name_at bytes >>= λ x. status_at x.0 x.1

-- whether the status of a specification stands behind its name
abbrev pub tells : List ℕ → Bool
tells bytes = is_some (behind (codes " verified\n") bytes) || is_some (behind (codes " vacuous ") bytes) || is_some (behind (codes " unproved ") bytes)

abbrev pub is_of_specification : List ℕ → Bool
is_of_specification bytes = tells (past_name bytes)

-- ---- lines

abbrev pub any_at : List ℕ → Reading PureAnswer
any_at bytes = if is_of_specification bytes then specification_at bytes else body_at bytes

-- a whole line
unfoldable pub answer_at : List ℕ → Reading PureAnswer
answer_at bytes = do
  x ← any_at bytes
  rest ← behind (codes "\n") x.1
  Some (x.0, rest)

-- ---- reports

abbrev pub is_at_end : List ℕ → Bool
is_at_end [] = true
is_at_end (b ∷ bytes) = false

abbrev pub lines_at : List ℕ → Reading (List PureAnswer)
lines_at bytes = with_front [] (many_at is_at_end answer_at (length bytes) bytes)

abbrev pub answers_at : List ℕ → Option (List PureAnswer)
answers_at bytes = lines_at bytes >>= λ x. Some x.0

unfoldable pub report_at : List ℕ → Option PureReport
report_at bytes = do
  head ← head_at bytes
  answers ← answers_at head.1
  Some (record { head = head.0; answers = answers })
