-- Lists that are of the fragment atom by atom, and atoms that keep one out.
use Rattle.std.proofs.Common.{◌≡◌, ⊎_elim, ℕ, zero, suc, ◌+◌, ◌<◌, ◌≤◌, List, [], ◌∷◌, length, true, false, Some, slice_get, Result, Ok, Err, refl, sym, ap, ◌∙◌, subst, arith}
use Rattle.std.specs.declared.alloc.AllocError.{AllocError}
use Rattle.std.specs.Result.{IfOk}
use Rattle.std.proofs.lemmas.Bool.{and_parts, both_ways, or_left, not_from_false, cases_lt}
use Rattle.std.proofs.lemmas.List.Elements.{Contains-append_cases}
use Rattle.std.proofs.lemmas.Option.{same_Some, slice_get_within}
use Rattle.std.proofs.lemmas.List.{length-map}
use Rattle.pure_terms.specs.declared.atoms.Atom.{Atom}
use Rattle.pure_terms.specs.declared.deciders.Reason.{Reason}
use Rattle.pure_terms.specs.declared.variables.Sort.{Sort}
use Rattle.pure_terms.specs.Fragment.{has_fragment_form, has_narrow_literals}
use Rattle.pure_terms.specs.Meaning.{AreOver, IsOver}
use Rattle.pure_terms.specs.Pure.{PureAtom, term_of, variables, variables_of_atoms}
use Rattle.pure_terms.specs.Pure.{PureTerm}
use Rattle.pure_terms.specs.Rewriting.{Replaces, NamesNoMore}
use Rattle.pure_terms.specs.View.{atom_view, atoms_view}
use Rattle.pure_terms.proofs.FragmentLaws.{passes_at}
use Rattle.pure_terms.proofs.KindLaws.{over_left, over_right}
use Rattle.solver_rules.specs.Steps.{IsPlainAtom, ArePlain}
use Rattle.path_solver.specs.Outside.{is_plain_atom, AreAllPlain, IsKeptOut}

pub over_at : (vars : List Sort) (atoms : List PureAtom) (i : ℕ) (a : PureAtom) → AreOver vars atoms → slice_get atoms i ≡ Some a → IsOver vars (term_of a)
over_at vars [] i a over at = cc
over_at vars (b ∷ atoms) zero a over at = subst (λ c. IsOver vars (term_of c)) (same_Some b a at) (over_left vars (variables (term_of b)) (variables_of_atoms atoms) over)
over_at vars (b ∷ atoms) (suc i) a over at = over_at vars atoms i a (over_right vars (variables (term_of b)) (variables_of_atoms atoms) over) at

pub over_all : (vars : List Sort) (atoms : List PureAtom) → ((i : ℕ) (a : PureAtom) → slice_get atoms i ≡ Some a → IsOver vars (term_of a)) → AreOver vars atoms
over_all vars [] each x (k, below, is) = absurd (omega (arith, below))
over_all vars (b ∷ atoms) each x has =
    ⊎_elim (λ here. each 0 b refl x here) (λ there. over_all vars atoms (λ i a at. each (suc i) a at) x there) (Contains-append_cases (variables (term_of b)) (variables_of_atoms atoms) x has)

pub plain_from : (vars : List Sort) (a : PureAtom) → IsOver vars (term_of a) → is_plain_atom a ≡ true → IsPlainAtom vars a
plain_from vars a over is =
    let both = and_parts (has_fragment_form a) (has_narrow_literals a) is in
    record { over = over; form = both.0; literals = both.1 }

pub all_plain : (vars : List Sort) (atoms : List PureAtom) → AreOver vars atoms → AreAllPlain atoms → ArePlain vars atoms
all_plain vars atoms over all i a at = plain_from vars a (over_at vars atoms i a over at) (all i a at)

pub kept_by_form : (atoms : List PureAtom) (i : ℕ) (a : PureAtom) → slice_get atoms i ≡ Some a → has_fragment_form a ≡ false → IsKeptOut atoms (Reason.Atom i)
kept_by_form atoms i a at is = ((λ within. both_ways (has_fragment_form a) is (passes_at has_fragment_form atoms i a within.forms at)), (a, (at, is)))

pub kept_by_number : (atoms : List PureAtom) (i : ℕ) (a : PureAtom) → slice_get atoms i ≡ Some a → has_narrow_literals a ≡ false → IsKeptOut atoms (Reason.Number i)
kept_by_number atoms i a at is = ((λ within. both_ways (has_narrow_literals a) is (passes_at has_narrow_literals atoms i a within.literals at)), (a, (at, or_left _ _ (not_from_false (has_narrow_literals a) is))))

-- ---- as the code goes over a list

module _ (P : PureAtom → Type 0) where
  pub next_too : (atoms : List PureAtom) (n : ℕ) (b : PureAtom) → ((i : ℕ) (a : PureAtom) → i < n → slice_get atoms i ≡ Some a → P a) → slice_get atoms n ≡ Some b → P b → (i : ℕ) (a : PureAtom) → i < n + 1 → slice_get atoms i ≡ Some a → P a
  next_too atoms n b before at is i a below there = ⊎_elim (λ less. before i a less there) (λ past. here past) (cases_lt i n) where
    here : n ≤ i → P a
    here past =
        let same : i ≡ n = omega (arith, past, below) in
        let e : a ≡ b = same_Some a b (sym there ∙ ap (slice_get atoms) same ∙ at) in
        subst P (sym e) is

  pub all_so_far : (atoms items : List Atom) (n : ℕ) → items ≡ atoms → length items ≤ n → ((i : ℕ) (a : PureAtom) → i < n → slice_get (atoms_view atoms) i ≡ Some a → P a) → (i : ℕ) (a : PureAtom) → slice_get (atoms_view atoms) i ≡ Some a → P a
  all_so_far atoms items n same past before i a at =
      let within : i < length (atoms_view atoms) = slice_get_within (atoms_view atoms) i a at in
      let long : length (atoms_view atoms) ≡ length atoms = length-map atoms atom_view in
      let also : length items ≡ length atoms = ap length same in
      before i a (omega (arith, within, long, also, past)) at

pub names_along : (s t w u : PureTerm) → Replaces s u → s ≡ t → t ≡ w → NamesNoMore w u
names_along s t w u replaces same also = subst (λ z. NamesNoMore z u) (same ∙ also) replaces.no_more_names

pub none_plain : (vars : List Sort) → ArePlain vars []
none_plain vars i a at = cc

pub plain_copy : (a : PureAtom) (r : Result Atom AllocError) → is_plain_atom a ≡ true → IfOk r (λ b. atom_view b ≡ a) → IfOk r (λ b. (vars : List Sort) → IsOver vars (term_of a) → IsPlainAtom vars (atom_view b))
plain_copy a (Ok b) is same = λ vars over. subst (IsPlainAtom vars) (sym same) (plain_from vars a over is)
plain_copy a (Err e) is same = tt

pub plain_always : (a : PureAtom) (r : Result Atom AllocError) → IfOk r (λ b. (vars : List Sort) → IsPlainAtom vars (atom_view b)) → IfOk r (λ b. (vars : List Sort) → IsOver vars (term_of a) → IsPlainAtom vars (atom_view b))
plain_always a (Ok b) plain = λ vars over. plain vars
plain_always a (Err e) plain = tt
