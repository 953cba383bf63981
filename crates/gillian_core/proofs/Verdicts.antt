-- Verdicts of tests are right, for the text too.
use Rattle.std.proofs.Common.{ℕ, ℤ, List, refl}
use Rattle.gil_values.specs.Pure.{PureValue}
use Rattle.gil_syntax.specs.Pure.{PureParts}
use Rattle.mem_model.specs.declared.keys.MemoryName.{MemoryName}
use Rattle.mem_model.specs.Actions.{Actions}
use Rattle.mem_model.specs.Heaps.{Heap}
use Rattle.pure_terms.specs.Pure.{PureTerm}
use Rattle.sym_model.specs.Terms.{StateTerms}
use Rattle.sym_test.specs.Undecided.{FailsSimply, IsBugVerdict, IsRightVerdict as IsRight}
use Rattle.sym_test.specs.View.{PureVerdict}
use Rattle.sym_test.specs.View as verdict
use Rattle.gillian_words.specs.declared.tasks.Language.{Language}
use Rattle.gil_report.specs.Pure.{PureAnswer, returned, failed, vanished, cut, no_input, bad_input, number, clean, bug, undecided}
use Rattle.gil_report.specs.Pure.{verified, vacuous, unproved, found as found_spec, sat, unsat, unknown, bytes as length_of}
use Rattle.gillian_core.specs.Answers.{verdict_answer}
use Rattle.gillian_core.specs.Definitions.{memory_of}
use Rattle.gillian_core.specs.Languages.{definition_of}
use Rattle.gillian_core.specs.Right.{IsMeantVerdict, IsRightVerdict}
use Rattle.gillian_core.proofs.MeantTexts.{failure_is_meant}

-- what a test answers over the symbolic states of a memory is right
module _ {S : Type 0} (memory : MemoryName) (actions : Actions) (stands : S → List PureValue → Heap → Type 0) (terms : S → StateTerms)
    (asked : List ℕ → List PureTerm → List PureTerm × List PureTerm) (depends : S → List ℕ → List PureTerm → List PureValue → Heap → PureTerm → Type 0)
    (plain : S → ℤ → ℤ → Type 0) (kept : S → Type 0) (keeps_plain keeps_narrow : Type 0) where
  pub verdict_is_right : (p : PureParts) (entry : List ℕ) (bound : ℕ) (v : PureVerdict)
      → IsRight p actions stands terms asked depends keeps_plain entry bound v
      → (keeps_plain → (inputs : List PureValue) → FailsSimply p actions entry inputs bound → IsBugVerdict v)
      → IsRightVerdict (memory_of memory actions stands terms asked depends plain kept keeps_plain keeps_narrow) p entry bound (verdict_answer v)
  verdict_is_right p entry bound (verdict.bug place w inputs) right found = right
  verdict_is_right p entry bound verdict.clean right found = right
  verdict_is_right p entry bound (verdict.unknown q) right found = ((q, refl, right), found)

-- a verdict is meant where it is right
pub verdict_is_meant : (l : Language) (bytes : List ℕ) (p : PureParts) (entry : List ℕ) (bound : ℕ) (answer : PureAnswer)
    → (definition_of l).KeepsEnds bytes p → IsRightVerdict (definition_of l).memory p entry bound answer
    → IsMeantVerdict (definition_of l) bytes entry answer
verdict_is_meant l bytes p entry bound (bug place v inputs) keeps right =
    failure_is_meant l bytes p entry inputs bound v place keeps right.0.entry right.0.fails
verdict_is_meant l bytes p entry bound clean keeps right = tt
verdict_is_meant l bytes p entry bound (undecided q) keeps right = tt
verdict_is_meant l bytes p entry bound (returned v) keeps right = tt
verdict_is_meant l bytes p entry bound (failed v place) keeps right = tt
verdict_is_meant l bytes p entry bound vanished keeps right = tt
verdict_is_meant l bytes p entry bound cut keeps right = tt
verdict_is_meant l bytes p entry bound (no_input k) keeps right = tt
verdict_is_meant l bytes p entry bound (bad_input k) keeps right = tt
verdict_is_meant l bytes p entry bound (number place) keeps right = tt
verdict_is_meant l bytes p entry bound (sat bindings) keeps right = tt
verdict_is_meant l bytes p entry bound (unsat proof) keeps right = tt
verdict_is_meant l bytes p entry bound (unknown place) keeps right = tt
verdict_is_meant l bytes p entry bound (verified name) keeps right = tt
verdict_is_meant l bytes p entry bound (vacuous name proof) keeps right = tt
verdict_is_meant l bytes p entry bound (unproved name cause) keeps right = tt
verdict_is_meant l bytes p entry bound (found_spec spec is_cut) keeps right = tt
verdict_is_meant l bytes p entry bound (length_of length) keeps right = tt
