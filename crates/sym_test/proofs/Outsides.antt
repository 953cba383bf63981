-- The first atom that keeps a list out of the fragment.
use Rattle.std.proofs.Common.{◌≡◌, ◌⊎◌, ⊎_elim, inl, inr, ℕ, zero, suc, ◌+◌, ◌<◌, ◌≤◌, ◌^◌, List, [], ◌∷◌, length, Bool, true, false, not, ◌&&◌, ◌||◌, Some, slice_get, refl, sym, ap, ◌∙◌, subst, arith, true≢false}
use Rattle.std.specs.List.{Contains}
use Rattle.std.proofs.lemmas.Bool.{cases_lt}
use Rattle.std.proofs.lemmas.Option.{slice_get_within}
use Rattle.std.proofs.lemmas.List.Elements.{Contains-append_left, Contains-append_right, Contains-append_cases}
use Rattle.gil_values.proofs.OperatorSymbols.{none_contained}
use Rattle.pure_terms.specs.declared.deciders.Reason.{Reason}
use Rattle.pure_terms.specs.declared.variables.Sort.{Sort}
use Rattle.pure_terms.specs.Deciding.{has_wide_arithmetic}
use Rattle.pure_terms.specs.Fragment.{has_fragment_form, has_narrow_literals, variable_count, InFragment}
use Rattle.pure_terms.specs.Meaning.{AreOver}
use Rattle.pure_terms.specs.Pure.{PureAtom, term_of, variables, variables_of_atoms}
use Rattle.pure_terms.proofs.FragmentLaws.{all_pass}
use Rattle.pure_terms.proofs.NamingLaws.{count_bound}
use Rattle.sym_model.proofs.ListLaws.{same_some, not_none}
use Rattle.sym_paths.specs.Steps.{IsFirstOutside, place_of}
use Rattle.sym_test.specs.Undecided.{keeps_out, IsOutsideAt}

-- both tests pass, or one fails
pub both_pass : (b c : Bool) → (not b || not c) ≡ false → (b ≡ true) × (c ≡ true)
both_pass true true fails = (refl, refl)
both_pass true false fails = absurd (true≢false fails)
both_pass false c fails = absurd (true≢false fails)

over_element : (vars : List Sort) (atoms : List PureAtom) (i : ℕ) (a : PureAtom) → AreOver vars atoms → slice_get atoms i ≡ Some a → AreOver vars (a ∷ [])
over_element vars [] i a over at = not_none at
over_element vars (b ∷ atoms) zero a over at = λ x has.
    ⊎_elim
    (λ here. over x (Contains-append_left (variables (term_of b)) (variables_of_atoms atoms) x (subst (λ c. Contains (variables (term_of c)) x) (sym (same_some at)) here)))
    (λ none. absurd (none_contained x none))
    (Contains-append_cases (variables (term_of a)) [] x has)
over_element vars (b ∷ atoms) (suc i) a over at = over_element vars atoms i a (λ x has. over x (Contains-append_right (variables (term_of b)) (variables_of_atoms atoms) x has)) at

inside_alone : (vars : List Sort) (a : PureAtom) → AreOver vars (a ∷ []) → length vars < 2 ^ 40 → keeps_out a ≡ false → InFragment (a ∷ [])
inside_alone vars a over few passes =
    let parts = both_pass (has_fragment_form a) (has_narrow_literals a) passes in
    let count : variable_count (a ∷ []) ≤ length vars = count_bound vars (a ∷ []) over in
    record {
      forms = ap (λ b. b && true) parts.0;
      literals = ap (λ b. b && true) parts.1;
      few_variables = omega (arith, count, few);
    }

-- so many atoms of the list keep no list out
abbrev pub PassTo : List PureAtom → ℕ → Type 0
PassTo atoms n = (j : ℕ) (a : PureAtom) → j < n → slice_get atoms j ≡ Some a → keeps_out a ≡ false

pub pass_more : (atoms : List PureAtom) (n : ℕ) (a : PureAtom) → PassTo atoms n → slice_get atoms n ≡ Some a → keeps_out a ≡ false → PassTo atoms (n + 1)
pass_more atoms n a before at passes j b less at_j =
    ⊎_elim
    (λ (earlier : j < n). before j b earlier at_j)
    (λ (here : j ≡ n). subst (λ c. keeps_out c ≡ false) (same_some (sym at ∙ ap (slice_get atoms) (sym here) ∙ at_j)) passes)
    (earlier_or_here j n less) where
      earlier_or_here : (j n : ℕ) → j < n + 1 → (j < n) ⊎ (j ≡ n)
      earlier_or_here j n less = ⊎_elim inl (λ other. inr (omega (arith, less, other))) (cases_lt j n)

pub all_pass_inside : (vars : List Sort) (atoms : List PureAtom) → AreOver vars atoms → length vars < 2 ^ 40 → (n : ℕ) → length atoms ≤ n → PassTo atoms n → InFragment atoms
all_pass_inside vars atoms over few n past pass =
    let count : variable_count atoms ≤ length vars = count_bound vars atoms over in
    record {
      forms = all_pass has_fragment_form atoms (λ i a at. (both_pass (has_fragment_form a) (has_narrow_literals a) (pass i a (within i a at) at)).0);
      literals = all_pass has_narrow_literals atoms (λ i a at. (both_pass (has_fragment_form a) (has_narrow_literals a) (pass i a (within i a at) at)).1);
      few_variables = omega (arith, count, few);
    } where
      within : (i : ℕ) (a : PureAtom) → slice_get atoms i ≡ Some a → i < n
      within i a at = let inside : i < length atoms = slice_get_within atoms i a at in omega (arith, inside, past)

pub found_outside : (vars : List Sort) (atoms : List PureAtom) → AreOver vars atoms → length vars < 2 ^ 40 → ¬ InFragment atoms → (n : ℕ) (a : PureAtom) → PassTo atoms n → slice_get atoms n ≡ Some a → keeps_out a ≡ true → IsOutsideAt atoms n
found_outside vars atoms over few outside n a pass at keeps = (outside, by_form (has_fragment_form a) refl (has_narrow_literals a) refl keeps) where
  before : (i : ℕ) (b : PureAtom) → i < n → slice_get atoms i ≡ Some b → InFragment (b ∷ [])
  before i b less at_i = inside_alone vars b (over_element vars atoms i b over at_i) few (pass i b less at_i)

  by_form : (b : Bool) → has_fragment_form a ≡ b → (c : Bool) → has_narrow_literals a ≡ c → (not b || not c) ≡ true → (reason : Reason) × (IsFirstOutside atoms reason × (place_of reason ≡ n))
  by_form false form c narrow so = (Reason.Atom n, (record { named = (a, (at, form)); those_before = before }, refl))
  by_form true form false narrow so =
      (Reason.Number n, (record { named = (a, (at, ap (λ b. not b || has_wide_arithmetic a) narrow)); those_before = before }, refl))
  by_form true form true narrow so = absurd (true≢false (sym so))
