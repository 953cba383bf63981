-- Head lines that were printed are read again.
use Rattle.std.proofs.Common.{◌≡◌, ℕ, ◌<◌, ◌^◌, List, [], ◌∷◌, ◌++◌, Some, refl, ap, ◌∙◌, arith, append_assoc}
use Rattle.std.specs.Prelude.{codes}
use Rattle.gil_values.specs.Printed.{numeral}
use Rattle.gillian_words.specs.declared.tasks.Language.{Language}
use Rattle.gillian_words.specs.declared.tasks.Language.TheVariants as languages
use Rattle.gillian_words.specs.Tasks.{language_word}
use Rattle.value_text.specs.Reading.{behind}
use Rattle.value_text.proofs.TextLaws.{name_again}
use Rattle.value_text.proofs.WordLaws.{behind_again}
use Rattle.report_parts.proofs.PartLaws.{small_again}
use Rattle.gil_report.specs.declared.heads.EntryMode.{EntryMode}
use Rattle.gil_report.specs.declared.heads.EntryMode.TheVariants as modes
use Rattle.gil_report.specs.declared.heads.Head.{Head}
use Rattle.gil_report.specs.Lines.{head_line, mode_word}
use Rattle.report_text.specs.Writable.{IsWritableHead}
use Rattle.report_text.specs.Reading.{language_at, mode_at, check_at, sweep_at, entry_at, asked_at, head_at}

language_again : (l : Language) (rest : List ℕ) → language_at (language_word l ++ rest) ≡ Some (l, rest)
unfolding behind
language_again languages.GilRecord rest = refl
language_again languages.GilBlock rest = refl
language_again languages.GilObject rest = refl
language_again languages.While rest = refl
language_again languages.Clike rest = refl
language_again languages.Object rest = refl

mode_again : (m : EntryMode) (rest : List ℕ) → mode_at (mode_word m ++ rest) ≡ Some (m, rest)
unfolding behind
mode_again modes.Run rest = refl
mode_again modes.Test rest = refl
mode_again modes.Infer rest = refl

asked_entry : (m : EntryMode) (rest : List ℕ) → asked_at (mode_word m ++ rest) ≡ entry_at (mode_word m ++ rest)
unfolding behind
asked_entry modes.Run rest = refl
asked_entry modes.Test rest = refl
asked_entry modes.Infer rest = refl

entry_parts : (m : EntryMode) (l : Language) (name rest : List ℕ) (n : ℕ) → IsWritableHead (Head.Entry m l name n)
    → entry_at (mode_word m ++ (codes " " ++ (language_word l ++ (codes " entry " ++ (name ++ (codes " bound " ++ (numeral n ++ (codes "\n" ++ rest))))))))
    ≡ Some (Head.Entry m l name n, rest)
unfolding entry_at
entry_parts m l name rest n is =
    let a = numeral n ++ (codes "\n" ++ rest) in
    let b = name ++ (codes " bound " ++ a) in
    let c = language_word l ++ (codes " entry " ++ b) in
    rw (
      mode_again m (codes " " ++ c),
      behind_again (codes " ") c,
      language_again l (codes " entry " ++ b),
      behind_again (codes " entry ") b,
      name_again name (codes " bound " ++ a) is.0 refl,
      behind_again (codes " bound ") a,
      small_again n (codes "\n" ++ rest) is.1 refl,
      behind_again (codes "\n") rest,
    ) refl

check_parts : (l : Language) (rest : List ℕ) (n : ℕ) → n < 2 ^ 32
    → check_at (language_word l ++ (codes " bound " ++ (numeral n ++ (codes "\n" ++ rest)))) ≡ Some (Head.Check l n, rest)
unfolding check_at
check_parts l rest n is =
    let a = numeral n ++ (codes "\n" ++ rest) in
    rw (language_again l (codes " bound " ++ a), behind_again (codes " bound ") a, small_again n (codes "\n" ++ rest) is refl, behind_again (codes "\n") rest) refl

sweep_parts : (rest : List ℕ) (n : ℕ) → n < 2 ^ 32 → sweep_at (numeral n ++ (codes "\n" ++ rest)) ≡ Some (Head.Sweep n, rest)
unfolding sweep_at
sweep_parts rest n is = rw (small_again n (codes "\n" ++ rest) is refl, behind_again (codes "\n") rest) refl

nine : (a b c d e f g h i rest : List ℕ) → ((((((((a ++ b) ++ c) ++ d) ++ e) ++ f) ++ g) ++ h) ++ i) ++ rest ≡ a ++ (b ++ (c ++ (d ++ (e ++ (f ++ (g ++ (h ++ (i ++ rest))))))))
nine a b c d e f g h i rest = simp append_assoc

five : (a b c d e rest : List ℕ) → ((((a ++ b) ++ c) ++ d) ++ e) ++ rest ≡ a ++ (b ++ (c ++ (d ++ (e ++ rest))))
five a b c d e rest = simp append_assoc

pub two : (a b c rest : List ℕ) → ((a ++ b) ++ c) ++ rest ≡ a ++ (b ++ (c ++ rest))
two a b c rest = simp append_assoc

heading : (rest : List ℕ) → head_at (codes "gillian " ++ rest) ≡ asked_at rest
unfolding head_at
heading rest = rw (behind_again (codes "gillian ") rest) refl

check_heading : (rest : List ℕ) → head_at (codes "gillian check " ++ rest) ≡ check_at rest
unfolding head_at behind
check_heading rest = refl

sweep_heading : (rest : List ℕ) → head_at (codes "gillian sweep " ++ rest) ≡ sweep_at rest
unfolding head_at behind
sweep_heading rest = refl

solve_heading : (rest : List ℕ) → head_at (codes "gillian solve atoms\n" ++ rest) ≡ Some (Head.Solve, rest)
unfolding head_at behind
solve_heading rest = refl

pub head_again : (h : Head) (rest : List ℕ) → IsWritableHead h → head_at (head_line h ++ rest) ≡ Some (h, rest)
head_again (Head.Entry m l name n) rest is =
    let a = codes " " ++ (language_word l ++ (codes " entry " ++ (name ++ (codes " bound " ++ (numeral n ++ (codes "\n" ++ rest)))))) in
    ap head_at (nine (codes "gillian ") (mode_word m) (codes " ") (language_word l) (codes " entry ") name (codes " bound ") (numeral n) (10 ∷ []) rest)
    ∙ heading (mode_word m ++ a) ∙ asked_entry m a ∙ entry_parts m l name rest n is
head_again (Head.Check l n) rest is =
    ap head_at (five (codes "gillian check ") (language_word l) (codes " bound ") (numeral n) (10 ∷ []) rest)
    ∙ check_heading (language_word l ++ (codes " bound " ++ (numeral n ++ (codes "\n" ++ rest)))) ∙ check_parts l rest n is
head_again Head.Solve rest is = solve_heading rest
head_again (Head.Sweep n) rest is =
    ap head_at (two (codes "gillian sweep ") (numeral n) (10 ∷ []) rest) ∙ sweep_heading (numeral n ++ (codes "\n" ++ rest)) ∙ sweep_parts rest n is
