-- Reports that were printed are read again.
use Rattle.std.proofs.Common.{◌≡◌, ℕ, ◌≤◌, false, List, [], ◌∷◌, ◌++◌, length, Some, None, refl, sym, ap, subst, ◌∙◌, arith, append-nil, length-append}
use Rattle.std.specs.Prelude.{codes}
use Rattle.std.specs.List.{AllByRecursion, flat_map}
use Rattle.std.proofs.lemmas.Option.{same_Some}
use Rattle.value_text.specs.declared.faults.ReadFault.{ReadFault}
use Rattle.value_text.specs.declared.faults.ReadFault.TheVariants as faults
use Rattle.value_text.specs.Reading.{Fails, many_at}
use Rattle.value_text.proofs.Many.{Again, many_again}
use Rattle.gil_lexer.specs.Spelling.{IsName}
use Rattle.gil_report.specs.Proofs.{printed_proof}
use Rattle.gil_report.specs.Lines.{answer_line, printed_cause, report_text}
use Rattle.gil_report.specs.Pure.{PureAnswer, returned, failed, vanished, cut, no_input, bad_input, number, clean, bug, undecided}
use Rattle.gil_report.specs.Pure.{verified, vacuous, unproved, found, sat, unsat, unknown, bytes as length_of, PureReport}
use Rattle.report_text.specs.Laws.{PrintingTellsReports}
use Rattle.report_text.specs.Writable.{IsWritableAnswer, IsWritable}
use Rattle.report_text.specs.Reading.{is_at_end, answer_at, report_at}
use Rattle.report_text.proofs.AnswerLaws.{answer_again}
use Rattle.report_text.proofs.HeadLaws.{head_again}

some_name : (x a b rest : List ℕ) → IsName x → is_at_end (((x ++ a) ++ b) ++ rest) ≡ false
some_name [] a b rest is = absurd (cc is.0)
some_name (c ∷ x) a b rest is = refl

some_more : (x a b c rest : List ℕ) → IsName x → is_at_end ((((x ++ a) ++ b) ++ c) ++ rest) ≡ false
some_more [] a b c rest is = absurd (cc is.0)
some_more (d ∷ x) a b c rest is = refl

some_line : (x : PureAnswer) (rest : List ℕ) → IsWritableAnswer x → is_at_end (answer_line x ++ rest) ≡ false
some_line (returned v) rest is = refl
some_line (failed v place) rest is = refl
some_line vanished rest is = refl
some_line cut rest is = refl
some_line (no_input n) rest is = refl
some_line (bad_input n) rest is = refl
some_line (number place) rest is = refl
some_line clean rest is = refl
some_line (bug place v inputs) rest is = refl
some_line (undecided o) rest is = refl
some_line (verified name) rest is = some_name name (codes " verified") (10 ∷ []) rest is
some_line (vacuous name proof) rest is = some_more name (codes " vacuous ") (printed_proof proof) (10 ∷ []) rest is.0
some_line (unproved name cause) rest is = some_more name (codes " unproved ") (printed_cause cause) (10 ∷ []) rest is.0
some_line (found spec is_cut) rest is = refl
some_line (sat bindings) rest is = refl
some_line (unsat proof) rest is = refl
some_line (unknown place) rest is = refl
some_line (length_of n) rest is = refl

all_again : (xs : List PureAnswer) → AllByRecursion IsWritableAnswer xs → AllByRecursion (Again is_at_end answer_at answer_line (λ r. Unit {0})) xs
all_again [] all = tt
all_again (x ∷ xs) all =
    ((λ rest follows. record { again = answer_again x rest all.0; some = some_line x rest all.0; follows = tt }), all_again xs all.1)

not_end : (bytes : List ℕ) → is_at_end bytes ≡ false → 1 ≤ length bytes
not_end [] e = absurd (cc e)
not_end (b ∷ bytes) e = omega arith

no_longer : (xs : List PureAnswer) → AllByRecursion IsWritableAnswer xs → length xs ≤ length (flat_map answer_line xs)
no_longer [] all = omega arith
no_longer (x ∷ xs) all =
    omega (
      arith,
      not_end (answer_line x ++ []) (some_line x [] all.0),
      length-append (answer_line x) [],
      no_longer xs all.1,
      length-append (answer_line x) (flat_map answer_line xs),
    )

answers_again : (xs : List PureAnswer) → AllByRecursion IsWritableAnswer xs
    → many_at is_at_end answer_at (length (flat_map answer_line xs)) (flat_map answer_line xs) ≡ Some (xs, [])
answers_again xs all =
    subst (λ lines. many_at is_at_end answer_at (length (flat_map answer_line xs)) lines ≡ Some (xs, [])) (append-nil (flat_map answer_line xs))
    (many_again is_at_end answer_at answer_line (λ r. Unit {0}) (length (flat_map answer_line xs)) xs [] (all_again xs all) tt refl (no_longer xs all))

report_again : (r : PureReport) → IsWritable r → report_at (report_text r) ≡ Some r
unfolding report_at
report_again r is = rw (head_again r.head (flat_map answer_line r.answers) is.head, answers_again r.answers is.answers) refl

pub printing_tells_reports : PrintingTellsReports
printing_tells_reports r s p q e = same_Some r s (sym (report_again r p) ∙ ap report_at e ∙ report_again s q)

-- what was read is the report whose lines the bytes are
pub read_again : (bytes : List ℕ) (seen r : PureReport) → report_at bytes ≡ Some seen → IsWritable r → bytes ≡ report_text r → Some r ≡ Some seen
read_again bytes seen r read is e = sym (report_again r is) ∙ ap report_at (sym e) ∙ read

pub unread_again : (bytes : List ℕ) (r : PureReport) → report_at bytes ≡ None → IsWritable r → bytes ≡ report_text r → Some r ≡ None
unread_again bytes r read is e = sym (report_again r is) ∙ ap report_at (sym e) ∙ read

pub refused_again : (fault : ReadFault) (bytes : List ℕ) (r : PureReport) → Fails fault (report_at bytes) → IsWritable r → bytes ≡ report_text r → Fails fault (Some r)
refused_again faults.Memory bytes r read is e = tt
refused_again faults.Form bytes r read is e = unread_again bytes r read is e

-- bytes that aren't the lines of what was read are those of no writable report
pub other_again : (bytes lines : List ℕ) (seen r : PureReport) → report_at bytes ≡ Some seen → lines ≡ report_text seen → (lines ≡ bytes → ⊥)
    → IsWritable r → bytes ≡ report_text r → Some r ≡ None
other_again bytes lines seen r read printed other is e =
    let same : r ≡ seen = same_Some r seen (read_again bytes seen r read is e) in
    absurd (other (printed ∙ ap report_text (sym same) ∙ sym e))
