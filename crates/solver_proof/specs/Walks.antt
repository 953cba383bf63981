-- Walks along equalities: where the next equality leads, and where a chain begins.
use Rattle.std.specs.Prelude.{ℕ, List, [], ◌∷◌, Bool, false, ◌||◌, if◌then◌else◌, Option, Some, None}
use Rattle.std.specs.Option.{option_map, option_and_then}
use Rattle.pure_terms.specs.Equality.{same_term}
use Rattle.pure_terms.specs.Pure.{PureTerm, PureAtom}
use Rattle.solver_proof.specs.declared.proofs.ChainEnd.{ChainEnd}
use Rattle.solver_proof.specs.Chains.{Sides, equality_at, disequality_at, kind_fact_at, end_closes}

-- the side that isn't s, where one is s
abbrev pub other_side : PureTerm → Sides → Option PureTerm
other_side s sides = if same_term sides.left s then Some sides.right else (if same_term sides.right s then Some sides.left else None)

abbrev pub step_from : List PureAtom → PureTerm → ℕ → Option PureTerm
step_from atoms s i = option_and_then (other_side s) (equality_at atoms i)

abbrev pub walk_from : List PureAtom → List ℕ → PureTerm → Option PureTerm
walk_from atoms [] s = Some s
walk_from atoms (i ∷ is) s = option_and_then (walk_from atoms is) (step_from atoms s i)

abbrev pub closes_at : List PureAtom → ChainEnd → PureTerm → Option PureTerm → Bool
closes_at atoms end s (Some t) = end_closes atoms end s t
closes_at atoms end s None = false

abbrev pub closes_from : List PureAtom → List ℕ → ChainEnd → PureTerm → Bool
closes_from atoms is end s = closes_at atoms end s (walk_from atoms is s)

-- the one term from which a chain without equalities may lead to itself
abbrev pub start_of_end : List PureAtom → ChainEnd → Option PureTerm
start_of_end atoms (ChainEnd.Not j) = option_map (λ sides. sides.left) (disequality_at atoms j)
start_of_end atoms (ChainEnd.Kind j) = option_map (λ fact. fact.subject) (kind_fact_at atoms j)
start_of_end atoms (ChainEnd.BothKinds j k) = option_map (λ fact. fact.subject) (kind_fact_at atoms j)
start_of_end atoms end = None

abbrev pub closes_itself : List PureAtom → ChainEnd → Option PureTerm → Bool
closes_itself atoms end (Some s) = end_closes atoms end s s
closes_itself atoms end None = false

abbrev pub closes_from_either : List PureAtom → List ℕ → ChainEnd → Option Sides → Bool
closes_from_either atoms is end (Some sides) = closes_from atoms is end sides.left || closes_from atoms is end sides.right
closes_from_either atoms is end None = false

abbrev pub closes_chain : List PureAtom → List ℕ → ChainEnd → Bool
closes_chain atoms [] end = closes_itself atoms end (start_of_end atoms end)
closes_chain atoms (i ∷ is) end = closes_from_either atoms (i ∷ is) end (equality_at atoms i)
