-- Lists with atoms outside the fragment.
use Rattle.std.proofs.Common.{◌≡◌, ◌⊎◌, ⊎_elim, inl, inr, ℕ, zero, suc, ◌+◌, ◌<◌, ◌≤◌, List, [], ◌∷◌, length, Bool, true, false, ◌||◌, slice_get, Some, refl, sym, ap, subst, ◌∙◌, true≢false, arith}
use Rattle.std.specs.List.{Contains, list_any, list_all}
use Rattle.std.proofs.lemmas.Bool.{and_parts}
use Rattle.std.proofs.lemmas.List.Elements.{Contains-append_left, Contains-append_right, Contains-append_cases}
use Rattle.std.proofs.lemmas.Option.{slice_get_within}
use Rattle.gil_values.proofs.OperatorSymbols.{none_contained}
use Rattle.pure_terms.specs.declared.atoms.Atom.{Atom}
use Rattle.pure_terms.specs.declared.deciders.Reason.{Reason}
use Rattle.pure_terms.specs.declared.variables.Sort.{Sort}
use Rattle.pure_terms.specs.Deciding.{IsReason}
use Rattle.pure_terms.specs.Fragment.{has_fragment_form, InFragment}
use Rattle.pure_terms.specs.Laws.{AreEachInFragment}
use Rattle.pure_terms.specs.Meaning.{IsOver, AreOver}
use Rattle.pure_terms.specs.Pure.{PureAtom, positive, negative, opening, term_of, variables, variables_of_atoms}
use Rattle.pure_terms.specs.View.{atom_view, atoms_view}
use Rattle.sym_model.specs.Lists.{Each}
use Rattle.sym_model.specs.Meaning.{is_open, has_open}
use Rattle.sym_model.proofs.ListLaws.{same_some, not_none}
use Rattle.sym_paths.specs.Steps.{IsFirstOutside, place_of}

-- ---- variables

pub over_alone : (vars : List Sort) (a : PureAtom) → IsOver vars (term_of a) → AreOver vars (a ∷ [])
over_alone vars a over x has = ⊎_elim (over x) (λ none. absurd (none_contained x none)) (Contains-append_cases (variables (term_of a)) [] x has)

pub over_at : (vars : List Sort) (atoms : List PureAtom) (i : ℕ) (a : PureAtom) → slice_get atoms i ≡ Some a → AreOver vars atoms → IsOver vars (term_of a)
over_at vars [] i a at over = not_none at
over_at vars (b ∷ atoms) zero a at over = λ x has. over x (Contains-append_left (variables (term_of b)) (variables_of_atoms atoms) x (subst (λ (d : PureAtom). Contains (variables (term_of d)) x) (sym (same_some at)) has))
over_at vars (b ∷ atoms) (suc i) a at over = over_at vars atoms i a at (λ x has. over x (Contains-append_right (variables (term_of b)) (variables_of_atoms atoms) x has))

pub each_over_all : (vars : List Sort) (atoms : List PureAtom) → Each (λ a. IsOver vars (term_of a)) atoms → AreOver vars atoms
each_over_all vars [] over x has = absurd (none_contained x has)
each_over_all vars (a ∷ atoms) over x has = ⊎_elim (over.0 x) (each_over_all vars atoms over.1 x) (Contains-append_cases (variables (term_of a)) (variables_of_atoms atoms) x has)

less_or_same : (j n : ℕ) → j < n + 1 → (j < n) ⊎ (j ≡ n)
less_or_same zero zero less = inr refl
less_or_same zero (suc n) less = inl (omega arith)
less_or_same (suc j) zero less = absurd (omega (arith, less))
less_or_same (suc j) (suc n) less = ⊎_elim (λ (lower : j < n). inl (omega (arith, lower))) (λ same. inr (ap suc same)) (less_or_same j n (omega (arith, less)))

-- ---- literal forms

-- an atom that needs a literal form has no form of the fragment
unformed : (a : PureAtom) → is_open a ≡ true → has_fragment_form a ≡ false
unformed (positive t) is = absurd (true≢false (sym is))
unformed (negative t) is = absurd (true≢false (sym is))
unformed (opening t) is = refl

open_parts : (a b : Bool) → (a || b) ≡ true → (a ≡ true) ⊎ (b ≡ true)
open_parts true b is = inl refl
open_parts false b is = inr is

open_unformed : (atoms : List PureAtom) → has_open atoms ≡ true → list_all has_fragment_form atoms ≡ true → ⊥
open_unformed [] needs formed = true≢false (sym needs)
open_unformed (a ∷ atoms) needs formed =
    let (first, rest) = and_parts (has_fragment_form a) (list_all has_fragment_form atoms) formed in
    ⊎_elim (λ here. true≢false (sym first ∙ unformed a here)) (λ later. open_unformed atoms later rest) (open_parts (is_open a) (has_open atoms) needs)

pub open_is_outside : (atoms : List PureAtom) → has_open atoms ≡ true → ¬ InFragment atoms
open_is_outside atoms needs within = open_unformed atoms needs within.forms

pub open_not_each : (atoms : List PureAtom) → has_open atoms ≡ true → AreEachInFragment atoms → ⊥
open_not_each [] needs each = true≢false (sym needs)
open_not_each (a ∷ atoms) needs each =
    ⊎_elim
    (λ here. open_unformed (a ∷ []) (ap (λ b. b || false) here) (each 0 a refl).forms)
    (λ later. open_not_each atoms later (λ i b at. each (suc i) b at))
    (open_parts (is_open a) (has_open atoms) needs)

pub open_seen : (atoms : List Atom) → list_any (λ a. is_open (atom_view a)) atoms ≡ has_open (atoms_view atoms)
open_seen [] = refl
open_seen (a ∷ atoms) = ap (λ b. is_open (atom_view a) || b) (open_seen atoms)

-- ---- the first atom outside

abbrev pub InsideBelow : List PureAtom → ℕ → Type 0
InsideBelow atoms n = (j : ℕ) (a : PureAtom) → j < n → slice_get atoms j ≡ Some a → InFragment (a ∷ [])

pub inside_more : (atoms : List PureAtom) (n : ℕ) (b : PureAtom) → slice_get atoms n ≡ Some b → InsideBelow atoms n → InFragment (b ∷ []) → InsideBelow atoms (n + 1)
inside_more atoms n b at below here j a less is =
    ⊎_elim (λ earlier. below j a earlier is) (λ (same : j ≡ n). subst (λ d. InFragment (d ∷ [])) (same_some (sym at ∙ sym (ap (slice_get atoms) same) ∙ is)) here) (less_or_same j n less)

pub inside_all : (atoms : List PureAtom) (n : ℕ) → length atoms ≤ n → InsideBelow atoms n → AreEachInFragment atoms
inside_all atoms n all below i a is = let within : i < length atoms = slice_get_within atoms i a is in below i a (omega (arith, within, all)) is

pub first_outside : (atoms : List PureAtom) (n : ℕ) (r : Reason) → place_of r ≡ n → IsReason atoms r → InsideBelow atoms n → IsFirstOutside atoms r
first_outside atoms n r place reason below = record { named = reason; those_before = λ i a less is. below i a (subst (λ k. i < k) place less) is }

-- the reason that was named, where each atom by itself is in the fragment
pub named_first : (atoms : List PureAtom) (named : Reason) → IsReason atoms named → AreEachInFragment atoms → IsFirstOutside atoms named
named_first atoms named is each = record { named = is; those_before = λ i a less at. each i a at }
