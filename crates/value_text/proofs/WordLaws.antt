-- Words at the front of bytes.
use Rattle.std.proofs.Common.{◌≡◌, ◌≢◌, ℕ, List, [], ◌∷◌, ◌++◌, Option, Some, None, Bor, refl, sym, ap, ◌∙◌, eqb, true, false, inl, inr}
use Rattle.std.specs.Prelude.{option_copied}
use Rattle.std.specs.Option.{MatchOption}
use Rattle.std.proofs.lemmas.Bool.{cases_Bool, eqb-true, eq-eqb}
use Rattle.value_text.specs.Reading.{behind}

-- a word that stands at the front is passed
pub behind_again : (word rest : List ℕ) → behind word (word ++ rest) ≡ Some rest
unfolding behind
behind_again [] rest = refl
behind_again (c ∷ word) rest = rw (eq-eqb c c refl) (behind_again word rest)

behind_none : (word bytes : List ℕ) → ((rest : List ℕ) → bytes ≢ word ++ rest) → behind word bytes ≡ None
unfolding behind
behind_none [] bytes apart = absurd (apart bytes refl)
behind_none (c ∷ word) [] apart = refl
behind_none (c ∷ word) (b ∷ bytes) apart =
    elim (cases_Bool (eqb b c)) [
      | inl same ↦ rw same (behind_none word bytes (λ rest e. apart rest (λ i. eqb-true b c same i ∷ e i)))
      | inr other ↦ rw other refl
    ]

-- what `strip_prefix` answers
pub behind_cases : (word bytes : List ℕ) (r : Option (Bor (List ℕ))) → MatchOption r ((rest : List ℕ) → bytes ≢ word ++ rest) (λ x. bytes ≡ word ++ x.now)
    → option_copied r ≡ behind word bytes
behind_cases word bytes None apart = sym (behind_none word bytes apart)
behind_cases word bytes (Some x) is = sym (ap (behind word) is ∙ behind_again word x.now)
