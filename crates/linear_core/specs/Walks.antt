-- Walks along differences, and the numbers that nodes get by them.
use Rattle.std.specs.Prelude.{◌≡◌, ℕ, suc, ◌+◌, ◌-◌, ◌^◌, ◌<◌, ◌≤◌, ℤ, pos, negsuc, neg_ℤ, ◌+ℤ◌, ◌≤ℤ◌, ◌<ℤ◌, List, [], ◌∷◌, map, length, slice_get, Bool, true, false, ◌||◌, if◌then◌else◌, Option, Some, None, IsTrue, IsSomeAnd, nat_eq, int_lt}
use Rattle.std.specs.List.{list_any, list_all}
use Rattle.solver_proof.specs.declared.proofs.Factor.{Factor}
use Rattle.solver_proof.specs.Sums.{are_apart, DividesEach}
use Rattle.linear_core.specs.declared.differences.Difference.{Difference}
use Rattle.linear_core.specs.declared.relaxing.Relaxed.{Relaxed}
use Rattle.linear_core.specs.declared.settling.Passed.{Passed}
use Rattle.linear_core.specs.declared.walks.Reach.{Reach}
use Rattle.linear_core.specs.declared.walks.Step.{Step}
use Rattle.linear_core.specs.Combining.{total, is_held_total}
use Rattle.linear_core.specs.Nodes.{coefficient_at, tail_of, head_of, weight_of, may_go}

-- the step goes along a difference to a node, and gives it this number
pub record GoesTo (differences : List Difference) (step : Step) (to : ℕ) (n : ℤ) : Type 0 where
  pub along : Difference
  pub stands : slice_get differences step.row ≡ Some along
  pub allowed : IsTrue (may_go along step.backwards)
  pub tail : step.from ≡ tail_of along step.backwards
  pub head : to ≡ head_of along step.backwards
  pub sum : n ≡ step.before +ℤ weight_of along step.backwards

-- the steps, the last of them first, lead to a node from one with the number 0, and give it this number
abbrev pub IsWalk : List Difference → ℕ → List Step → ℤ → Type 0
IsWalk differences to [] n = n ≡ pos 0
IsWalk differences to (step ∷ steps) n = GoesTo differences step to n × IsWalk differences step.from steps step.before

abbrev pub number_of : Option Reach → ℤ
number_of (Some reach) = reach.number
number_of None = pos 0

-- the number of a node
abbrev pub number_at : List Reach → ℕ → ℤ
number_at reaches x = number_of (slice_get reaches x)

-- a step of the walk leaves the node
abbrev pub leaves : ℕ → List Step → Bool
leaves x steps = list_any (λ step. nat_eq step.from x) steps

-- the numbers of the nodes that a walk left are no greater today
abbrev pub AreAbove : List Reach → List Step → Type 0
AreAbove reaches [] = Unit {0}
AreAbove reaches (step ∷ steps) = (number_at reaches step.from ≤ℤ step.before) × AreAbove reaches steps

-- how a node got its number: by a walk that leaves it nowhere and that goes along no difference twice
pub record IsReached (differences : List Difference) (reaches : List Reach) (x : ℕ) (reach : Reach) : Type 0 where
  pub walk : IsWalk differences x reach.walk reach.number
  pub open_ended : leaves x reach.walk ≡ false
  pub apart : are_apart (map (λ step. step.row) reach.walk) ≡ true
  pub above : AreAbove reaches reach.walk
  pub short : length reach.walk ≤ 2 ^ 40

abbrev pub AreReached : List Difference → List Reach → Type 0
AreReached differences reaches = (x : ℕ) (reach : Reach) → slice_get reaches x ≡ Some reach → IsReached differences reaches x reach

-- the numbers of all nodes lie in -2^122 to 2^122
abbrev pub AreModerate : List Reach → Type 0
AreModerate reaches = (x : ℕ) → (neg_ℤ (pos (2 ^ 122)) ≤ℤ number_at reaches x) × (number_at reaches x ≤ℤ pos (2 ^ 122))

-- how far numbers are above -2^122 in all; it falls where a node gets a lesser number
abbrev pub above_least : ℤ → ℕ
above_least (pos n) = n + 2 ^ 122
above_least (negsuc n) = 2 ^ 122 - suc n

abbrev pub height : List Reach → ℕ
height [] = 0
height (reach ∷ reaches) = above_least reach.number + height reaches

-- ---- differences that the numbers meet

-- the difference can't be followed to a lesser number
abbrev pub IsStill : List Reach → Difference → Bool → Type 0
IsStill reaches d backwards = number_at reaches (head_of d backwards) ≤ℤ (number_at reaches (tail_of d backwards) +ℤ weight_of d backwards)

pub record IsMet (reaches : List Reach) (d : Difference) : Type 0 where
  pub forwards : IsStill reaches d false
  pub backwards : IsTrue d.is_equal → IsStill reaches d true

abbrev pub AreMet : List Difference → List Reach → ℕ → Type 0
AreMet differences reaches count = (k : ℕ) (d : Difference) → slice_get differences k ≡ Some d → k < count → IsMet reaches d

-- the row that is followed at a turn, counted from the first row or from the last
abbrev pub row_at_turn : ℕ → Bool → ℕ → ℕ
row_at_turn count from_last turn = if from_last then count - (turn + 1) else turn

-- ---- cycles

-- the steps of the walk, from the last up to the first of these that leaves the node
abbrev pub up_to : ℕ → List Step → List Step
up_to x [] = []
up_to x (step ∷ steps) = step ∷ (if nat_eq step.from x then [] else up_to x steps)

-- what a step adds to a sum
abbrev pub factor_of : Step → Factor
factor_of step = record { atom = step.row; factor = if step.backwards then neg_ℤ (pos 1) else pos 1 }

abbrev pub factors_up_to : ℕ → List Step → List Factor
factors_up_to x steps = map factor_of (up_to x steps)

abbrev pub is_difference_factor : ℤ → Option Difference → Bool
is_difference_factor f (Some d) = d.is_equal || int_lt (pos 0) f
is_difference_factor f None = false

-- different differences times their factors add to a positive constant without nodes, and the code can hold the numbers
-- on the way
pub record IsCycle (differences : List Difference) (fs : List Factor) : Type 0 where
  pub apart : IsTrue (are_apart (map (λ f. f.atom) fs))
  pub factors : IsTrue (list_all (λ f. is_difference_factor f.factor (slice_get differences f.atom)) fs)
  pub constant : pos 0 <ℤ total differences (λ d. d.constant) fs
  pub nodes : (x : ℕ) → total differences (coefficient_at x) fs ≡ pos 0
  pub no_divisor : (d : ℕ) → DividesEach d fs → d ≡ 1
  pub held_constant : IsTrue (is_held_total differences (λ d. d.constant) fs)
  pub held_nodes : (x : ℕ) → IsTrue (is_held_total differences (coefficient_at x) fs)

-- ---- what following differences gives

-- a walk that gives a node a lesser number
pub record IsGrown (differences : List Difference) (reaches : List Reach) (to : ℕ) (reach : Reach) : Type 0 where
  pub walk : IsWalk differences to reach.walk reach.number
  pub apart : are_apart (map (λ step. step.row) reach.walk) ≡ true
  pub above : AreAbove reaches reach.walk
  pub lesser : reach.number <ℤ number_at reaches to
  pub short : length reach.walk ≤ 2 ^ 40 + 1

-- some node has a lesser number, or there is a cycle
abbrev pub IsFollowed : List Difference → List Reach → List Reach → Relaxed → Type 0
IsFollowed differences old new Relaxed.Stays = ⊥
IsFollowed differences old new Relaxed.Moves = (length new ≡ length old) × AreReached differences new × height new < height old
IsFollowed differences old new (Relaxed.Returns fs) = IsCycle differences fs

-- the same, or the difference can't be followed to a lesser number, and nothing changed
abbrev pub IsRelaxed : List Difference → List Reach → List Reach → ℕ → Bool → Relaxed → Type 0
IsRelaxed differences old new row backwards Relaxed.Stays =
    (new ≡ old) × IsSomeAnd (slice_get differences row) (λ d. IsStill new d backwards)
IsRelaxed differences old new row backwards relaxed = IsFollowed differences old new relaxed

abbrev pub IsFollowedBothWays : List Difference → List Reach → List Reach → ℕ → Relaxed → Type 0
IsFollowedBothWays differences old new row Relaxed.Stays =
    (new ≡ old) × IsSomeAnd (slice_get differences row) (IsMet new)
IsFollowedBothWays differences old new row relaxed = IsFollowed differences old new relaxed

-- all differences are met, some node has a lesser number, or there is a cycle
abbrev pub HasPassed : List Difference → List Reach → List Reach → Passed → Type 0
HasPassed differences old new Passed.Settles =
    (length new ≡ length old) × AreReached differences new × AreMet differences new (length differences)
HasPassed differences old new Passed.Moves = (length new ≡ length old) × AreReached differences new × height new < height old
HasPassed differences old new (Passed.Returns fs) = IsCycle differences fs

abbrev pub HasSettled : List Difference → List Reach → List Reach → Option (List Factor) → Type 0
HasSettled differences old new None =
    (length new ≡ length old) × AreReached differences new × AreMet differences new (length differences)
HasSettled differences old new (Some fs) = IsCycle differences fs
