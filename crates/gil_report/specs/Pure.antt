-- Reports as pure data, without addresses and capacities.
use Rattle.std.specs.Prelude.{ℕ, List, [], ◌∷◌, Bool}
use Rattle.gil_values.specs.declared.places.Place.{Place}
use Rattle.gil_values.specs.Pure.{PureValue}
use Rattle.gil_syntax.specs.Pure.{PureExpr, PureSpec}
use Rattle.pure_terms.specs.declared.variables.Sort.{Sort}
use Rattle.solver_proof.specs.declared.proofs.ChainEnd.{ChainEnd}
use Rattle.solver_proof.specs.declared.proofs.Factor.{Factor}
use Rattle.gil_report.specs.declared.answers.Lack.{Lack}
use Rattle.gil_report.specs.declared.heads.Head.{Head}

-- ---- proofs

-- numbers are places of atoms in the list; `parts_apart` is of list terms of other lengths
mutual
  pub data PureNamedProof : Type 0 where
    sum_of : List Factor → PureNamedProof
    false_at : ℕ → PureNamedProof
    chain : List ℕ → ChainEnd → PureNamedProof
    cases_of : PureExpr → PureNamedProofs → PureNamedProof
    values_at : ℕ → PureNamedProofs → PureNamedProof
    parts_apart : ℕ → PureNamedProof
    parts_at : ℕ → PureNamedProof → PureNamedProof
    differ_at : ℕ → PureNamedProofs → PureNamedProof
    split_on : PureExpr → PureNamedProof → PureNamedProof → PureNamedProof
    meet_at : ℕ → ℕ → ℕ → PureNamedProof

  pub data PureNamedProofs : Type 0 where
    no_proofs : PureNamedProofs
    proof_and : PureNamedProof → PureNamedProofs → PureNamedProofs

abbrev pub from_list : List PureNamedProof → PureNamedProofs
from_list [] = no_proofs
from_list (p ∷ ps) = proof_and p (from_list ps)

-- ---- answers

pub record PureBinding : Type 0 where
  pub name : List ℕ
  pub value : PureValue

-- an expression is true, or has a value in a place where its literal form would be needed
pub data PureCondition : Type 0 where
  holds : PureExpr → PureCondition
  has_value : PureExpr → PureCondition

-- what isn't decided: the place of a command, the choices that lead there, the sorts of the variables, what is assumed, what is asked, and
-- the place in that list of a condition that keeps it out of the fragment
pub record PureQuestion : Type 0 where
  pub place : Place
  pub path : List ℕ
  pub vars : List Sort
  pub given : List PureCondition
  pub query : List PureCondition
  pub outside : ℕ

-- the place at which a path ends, the choices that lead there, and values under which it is taken
pub record PureWitness : Type 0 where
  pub place : Place
  pub path : List ℕ
  pub with : List PureBinding

pub data PureCause : Type 0 where
  fails : PureValue → PureWitness → PureCause
  lacks : Lack → PureWitness → PureCause
  undecided_cause : PureQuestion → PureCause
  depends : List ℕ → PureCause

-- The first seven are how a run ends: draws are numbered from 1, and `number` has the place of the first result that leaves 128 bits. The
-- next three are verdicts of a test, and the next four are of specifications, each with its name; a specification that was found is cut
-- or not. Of a list of atoms there are values, a proof, or the place of an atom that keeps it out of the fragment. `bytes` is the
-- length of a made text.
pub data PureAnswer : Type 0 where
  returned : PureValue → PureAnswer
  failed : PureValue → Place → PureAnswer
  vanished : PureAnswer
  cut : PureAnswer
  no_input : ℕ → PureAnswer
  bad_input : ℕ → PureAnswer
  number : Place → PureAnswer
  clean : PureAnswer
  bug : Place → PureValue → List PureValue → PureAnswer
  undecided : PureQuestion → PureAnswer
  verified : List ℕ → PureAnswer
  vacuous : List ℕ → PureNamedProof → PureAnswer
  unproved : List ℕ → PureCause → PureAnswer
  found : PureSpec → Bool → PureAnswer
  sat : List PureBinding → PureAnswer
  unsat : PureNamedProof → PureAnswer
  unknown : ℕ → PureAnswer
  bytes : ℕ → PureAnswer

-- ---- reports

pub record PureReport : Type 0 where
  pub head : Head
  pub answers : List PureAnswer
