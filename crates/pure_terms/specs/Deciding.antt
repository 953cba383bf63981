-- What a decider answers.
use Rattle.std.specs.Prelude.{◌≡◌, ◌^◌, ℤ, pos, neg_ℤ, List, [], slice_get, Bool, true, false, not, ◌&&◌, ◌||◌, Some, IsTrue}
use Rattle.std.specs.List.{list_all}
use Rattle.gil_values.specs.Pure.{PureValue, integer, list, PureValues, no_values, value_and}
use Rattle.pure_terms.specs.declared.deciders.Reason.{Reason}
use Rattle.pure_terms.specs.declared.variables.Sort.{Sort}
use Rattle.pure_terms.specs.Fragment.{has_fragment_form, has_narrow_literals, InFragment}
use Rattle.pure_terms.specs.Meaning.{Satisfies, IsUnsatisfiable}
use Rattle.pure_terms.specs.Numbers.{is_between}
use Rattle.pure_terms.specs.Pure.{PureAtom, term_of}
use Rattle.pure_terms.specs.Wide.{has_wide_part}

pub data PureDecision : Type 0 where
  sat : List PureValue → PureDecision
  unsat : PureDecision
  unknown : Reason → PureDecision

-- each number in the value lies between the two numbers, these included
abbrev mutual
  pub has_numbers_between : ℤ → ℤ → PureValue → Bool
  has_numbers_between low high (integer n) = is_between low high n
  has_numbers_between low high (list vs) = have_numbers_between low high vs
  has_numbers_between low high _ = true

  pub have_numbers_between : ℤ → ℤ → PureValues → Bool
  have_numbers_between low high no_values = true
  have_numbers_between low high (value_and v vs) = has_numbers_between low high v && have_numbers_between low high vs

-- the numbers that a decider gives for a list of the fragment: -2^125 to 2^125
abbrev pub has_moderate_numbers : PureValue → Bool
has_moderate_numbers v = has_numbers_between (neg_ℤ (pos (2 ^ 125))) (pos (2 ^ 125)) v

-- operators on literals alone make a number that leaves 128 bits
abbrev pub has_wide_arithmetic : PureAtom → Bool
has_wide_arithmetic a = has_wide_part [] (term_of a)

-- the atom that the reason names is one that keeps the list out of the fragment
abbrev pub IsReason : List PureAtom → Reason → Type 0
IsReason atoms (Reason.Atom i) = (a : PureAtom) × ((slice_get atoms i ≡ Some a) × (has_fragment_form a ≡ false))
IsReason atoms (Reason.Number i) =
    (a : PureAtom) × ((slice_get atoms i ≡ Some a) × IsTrue (not (has_narrow_literals a) || has_wide_arithmetic a))

-- the laws of a decider
abbrev pub IsRight : List Sort → List PureAtom → PureDecision → Type 0
IsRight vars atoms (sat v) = Satisfies vars v atoms × (InFragment atoms → IsTrue (list_all has_moderate_numbers v))
IsRight vars atoms unsat = IsUnsatisfiable vars atoms
IsRight vars atoms (unknown reason) = (¬ InFragment atoms) × IsReason atoms reason
