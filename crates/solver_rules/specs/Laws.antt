-- What holds of a list with its classes where no rule has anything to add.
use Rattle.std.specs.Prelude.{◌≡◌, ◌⊎◌, ℕ, List, map, slice_get, true, false, ◌&&◌, Some, None}
use Rattle.std.proofs.Common.{get_or}
use Rattle.gil_values.specs.declared.kinds.Kind.{Kind}
use Rattle.gil_values.specs.Pure.{PureValue}
use Rattle.pure_terms.specs.declared.variables.Sort.{Sort}
use Rattle.pure_terms.specs.Fragment.{is_flat, is_integer_side}
use Rattle.pure_terms.specs.Meaning.{Satisfies}
use Rattle.pure_terms.specs.Pure.{PureTerm, PureAtom, negative}
use Rattle.solver_proof.specs.declared.proofs.Factor.{Factor}
use Rattle.solver_proof.specs.Chains.{equals}
use Rattle.solver_proof.specs.Sums.{SumCloses}
use Rattle.linear_core.specs.Answers.{IsSolution}
use Rattle.linear_core.specs.Combining.{IsCombination}
use Rattle.equality_core.specs.declared.classes.Wanted.{Wanted}
use Rattle.equality_core.specs.Classes.{PureClasses, given_list}
use Rattle.equality_core.specs.Classified.{first_in_class}
use Rattle.equality_core.specs.Valued.{AreFragmentEqualities, FitNumbers, FitKinds, MayDiffer, MeetsApart}
use Rattle.solver_rules.specs.declared.rules.Rule.{Rule}
use Rattle.solver_rules.specs.Rows.{rows_from, places_from}
use Rattle.solver_rules.specs.Rules.{AreDone, AreKinds}
use Rattle.solver_rules.specs.Steps.{ArePlain, IsNode}

-- numbers that solve the rows, kinds that the classes tell, and no rule that has anything to add
pub record IsSettled (vars : List Sort) (list : List PureAtom) (c : PureClasses) (numbers : List PureValue) (kinds : List Kind) : Type 0 where
  pub node : IsNode vars list c
  pub solved : IsSolution vars (rows_from c.list) numbers
  pub are_kinds : AreKinds vars c kinds
  pub done : (rule : Rule) → AreDone rule c numbers

-- Values may be asked for: the equalities are of the fragment, and numbers and kinds fit them.
pub record MayBeValued (vars : List Sort) (c : PureClasses) (numbers : List PureValue) (kinds : List Kind) : Type 0 where
  pub fragment : AreFragmentEqualities vars (given_list c)
  pub numbers_fit : FitNumbers vars (given_list c) numbers
  pub kinds_fit : FitKinds vars (given_list c) kinds

abbrev pub SettledListsMayBeValued : Type 0
SettledListsMayBeValued =
    (vars : List Sort) (list : List PureAtom) (c : PureClasses) (numbers : List PureValue) (kinds : List Kind)
    → IsSettled vars list c numbers kinds → MayBeValued vars c numbers kinds

-- a disequality of a variable or a literal with another one, of which one side is equated with no number
pub record IsLoose (c : PureClasses) (a : PureAtom) (s t : PureTerm) : Type 0 where
  pub is : a ≡ negative (equals s t)
  pub left_flat : is_flat s ≡ true
  pub right_flat : is_flat t ≡ true
  pub free : (first_in_class c.nodes Wanted.Number s ≡ None) ⊎ (first_in_class c.nodes Wanted.Number t ≡ None)

-- Such a disequality may be asked for beside the classes.
abbrev pub LooseDisequalitiesMayBeMet : Type 0
LooseDisequalitiesMayBeMet =
    (vars : List Sort) (list : List PureAtom) (c : PureClasses) (numbers : List PureValue) (kinds : List Kind) (i : ℕ) (a : PureAtom)
    (s t : PureTerm) → IsSettled vars list c numbers kinds → slice_get (given_list c) i ≡ Some a → IsLoose c a s t
    → MayDiffer vars (given_list c) kinds a

-- those whose sides aren't both whole numbers are among these
abbrev pub HasLoose : PureClasses → List PureAtom → Type 0
HasLoose c apart =
    (i : ℕ) (a : PureAtom) (s t : PureTerm) → slice_get (given_list c) i ≡ Some a → IsLoose c a s t
    → (is_integer_side s && is_integer_side t) ≡ false → (j : ℕ) × (slice_get apart j ≡ Some a)

-- A valuation with these numbers and kinds that meets the equalities and these disequalities satisfies the whole list.
abbrev pub ModelsSatisfy : Type 0
ModelsSatisfy =
    (vars : List Sort) (list : List PureAtom) (c : PureClasses) (numbers : List PureValue) (kinds : List Kind) (apart : List PureAtom)
    (v : List PureValue) → IsSettled vars list c numbers kinds → HasLoose c apart → MeetsApart vars (given_list c) numbers kinds apart v
    → Satisfies vars v list

-- a factor of a row as one of the atom that has the row
abbrev pub at_atom : List ℕ → Factor → Factor
at_atom places f = record { atom = get_or places f.atom 0; factor = f.factor }

-- A combination of the rows of a list closes it, as a sum of the atoms that have them.
abbrev pub CombinationsClose : Type 0
CombinationsClose =
    (vars : List Sort) (list : List PureAtom) (fs : List Factor) → ArePlain vars list → IsCombination (rows_from list) fs
    → SumCloses list (map (at_atom (places_from 0 list)) fs)
