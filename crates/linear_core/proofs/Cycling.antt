-- A walk that comes back to a node with a lesser number is a cycle whose differences can't be met together.
use Prim.Native.Nat.{◌∣◌}
use Rattle.std.proofs.Common.{◌≡◌, ℕ, suc, ◌+◌, ◌-◌, ◌*◌, ◌^◌, ◌≤◌, ℤ, pos, neg_ℤ, ◌+ℤ◌, ◌-ℤ◌, ◌*ℤ◌, ◌≤ℤ◌, ◌<ℤ◌, List, [], ◌∷◌, map, length, Bool, true, false, not, ◌&&◌, ◌||◌, if◌then◌else◌, slice_get, eqb, refl, sym, ap, ◌∙◌, subst, arith, lit≤}
use Rattle.std.specs.Prelude.{int_le, int_lt, unsigned_abs}
use Rattle.std.specs.List.{list_any, list_all}
use Rattle.std.proofs.Math.IntN.{suc_ℤ-*ℤ, pred_ℤ-*ℤ, zero-*ℤ}
use Rattle.std.proofs.lemmas.Bool.{false≢true, and_parts, and_from, or_parts, or_from, eqb-true, not_from_false, not-true}
use Rattle.std.proofs.lemmas.Int.{ints}
use Rattle.std.proofs.lemmas.Nat.Gcd.{dvd_antisymm}
use Rattle.std.proofs.Math.Nat.{one-dvd}
use Rattle.pure_terms.specs.Numbers.{is_held}
use Rattle.solver_proof.specs.declared.proofs.Factor.{Factor}
use Rattle.solver_proof.specs.Sums.{are_apart, DividesEach}
use Rattle.linear_core.specs.declared.differences.Difference.{Difference}
use Rattle.linear_core.specs.declared.walks.Reach.{Reach}
use Rattle.linear_core.specs.declared.walks.Step.{Step}
use Rattle.linear_core.specs.Combining.{of_row, total, is_held_total}
use Rattle.linear_core.specs.Nodes.{AreNarrow, one_if, coefficient_at, tail_of, head_of, weight_of, may_go}
use Rattle.linear_core.specs.Walks.{GoesTo, IsWalk, number_at, leaves, AreAbove, up_to, factor_of, factors_up_to, is_difference_factor, IsGrown, IsCycle}
use Rattle.linear_core.proofs.Walking.{walk-between}

-- ---- products with 1 and -1

pub one-times : (n : ℤ) → pos 1 *ℤ n ≡ n
one-times n = suc_ℤ-*ℤ (pos 0) n ∙ (λ i. zero-*ℤ n i +ℤ n) ∙ from_zero n where
  from_zero : (n : ℤ) → pos 0 +ℤ n ≡ n
  from_zero n = omega (arith, ints)

pub minus_one-times : (n : ℤ) → neg_ℤ (pos 1) *ℤ n ≡ neg_ℤ n
minus_one-times n = pred_ℤ-*ℤ (pos 0) n ∙ (λ i. zero-*ℤ n i -ℤ n) ∙ from_zero n where
  from_zero : (n : ℤ) → pos 0 -ℤ n ≡ neg_ℤ n
  from_zero n = omega (arith, ints)

abbrev signed : Bool → ℤ → ℤ
signed true n = neg_ℤ n
signed false n = n

times-sign : (b : Bool) (n : ℤ) → (if b then neg_ℤ (pos 1) else pos 1) *ℤ n ≡ signed b n
times-sign true n = minus_one-times n
times-sign false n = one-times n

-- ---- what a step adds

-- the constant of a difference, as a step changes numbers
step-constant : (b : Bool) (d : Difference) (n before : ℤ) → n ≡ before +ℤ weight_of d b → signed b d.constant ≡ before -ℤ n
step-constant true d n before e = omega (arith, ints, e)
step-constant false d n before e = omega (arith, ints, e)

step-nodes : (b : Bool) (d : Difference) (x from to : ℕ) → from ≡ tail_of d b → to ≡ head_of d b → signed b (coefficient_at x d) ≡ one_if x to -ℤ one_if x from
step-nodes true d x from to tail head = opposite (one_if x d.plus) (one_if x d.minus) ∙ (λ i. one_if x (sym head i) -ℤ one_if x (sym tail i)) where
  opposite : (m n : ℤ) → neg_ℤ (m -ℤ n) ≡ n -ℤ m
  opposite m n = omega (arith, ints)
step-nodes false d x from to tail head = λ i. one_if x (sym head i) -ℤ one_if x (sym tail i)

held : (n : ℤ) → neg_ℤ (pos (2 ^ 126)) ≤ℤ n → n ≤ℤ pos (2 ^ 126) → is_held n ≡ true
held n low high = and_from _ _ (tested _ _ (wider_low n low)) (tested _ _ (wider_high n high)) where
  wider_low : (n : ℤ) → neg_ℤ (pos (2 ^ 126)) ≤ℤ n → neg_ℤ (pos (2 ^ 127)) ≤ℤ n
  wider_low n low = omega (arith, ints)

  wider_high : (n : ℤ) → n ≤ℤ pos (2 ^ 126) → n ≤ℤ pos (2 ^ 127 - 1)
  wider_high n high = omega (arith, ints)

  tested : (m n : ℤ) → m ≤ℤ n → int_le m n ≡ true
  tested m n h = grind (arith, ints)

one_if-between : (x y : ℕ) → (pos 0 ≤ℤ one_if x y) × (one_if x y ≤ℤ pos 1)
one_if-between x y = chosen (eqb x y) where
  chosen : (b : Bool) → (pos 0 ≤ℤ (if b then pos 1 else pos 0)) × ((if b then pos 1 else pos 0) ≤ℤ pos 1)
  chosen true = (omega (arith, ints), omega (arith, ints))
  chosen false = (omega (arith, ints), omega (arith, ints))

-- ---- sums over the steps back to a node

module _ (ds : List Difference) (count : ℕ) (narrow : AreNarrow count ds) (back : ℕ) where
  factor-allowed : (b : Bool) (d : Difference) → may_go d b ≡ true → (d.is_equal || int_lt (pos 0) (if b then neg_ℤ (pos 1) else pos 1)) ≡ true
  factor-allowed true d allowed = ap (λ e. e || false) allowed
  factor-allowed false d allowed = always d.is_equal where
    always : (e : Bool) → (e || true) ≡ true
    always true = refl
    always false = refl

  -- what a step adds to the sum of a part
  adds : (part : Difference → ℤ) (step : Step) (to : ℕ) (n : ℤ) (goes : GoesTo ds step to n) → of_row part (factor_of step).factor (slice_get ds step.row) ≡ signed step.backwards (part goes.along)
  adds part step to n goes = ap (of_row part (factor_of step).factor) goes.stands ∙ times-sign step.backwards (part goes.along)

  allowed_there : (step : Step) (to : ℕ) (n : ℤ) → GoesTo ds step to n → is_difference_factor (factor_of step).factor (slice_get ds step.row) ≡ true
  allowed_there step to n goes = ap (is_difference_factor (factor_of step).factor) goes.stands ∙ factor-allowed step.backwards goes.along goes.allowed

  allowed_each : (steps : List Step) (to : ℕ) (n : ℤ) → IsWalk ds to steps n → list_all (λ f. is_difference_factor f.factor (slice_get ds f.atom)) (factors_up_to back steps) ≡ true
  allowed_each [] to n walk = refl
  allowed_each (step ∷ steps) to n (goes, walk) = and_from _ _ (allowed_there step to n goes) (rest (eqb step.from back) (allowed_each steps step.from step.before walk)) where
    rest : (b : Bool) → list_all (λ f. is_difference_factor f.factor (slice_get ds f.atom)) (factors_up_to back steps) ≡ true → list_all (λ f. is_difference_factor f.factor (slice_get ds f.atom)) (map factor_of (if b then [] else up_to back steps)) ≡ true
    rest true again = refl
    rest false again = again

  -- the steps' sums are those of the numbers and nodes at their ends
  pub record Sums (reaches : List Reach) (fs : List Factor) (to : ℕ) (n : ℤ) (bound : ℕ) : Type 0 where
    pub last : ℤ
    pub above : number_at reaches back ≤ℤ last
    pub low : neg_ℤ (pos bound) ≤ℤ last
    pub high : last ≤ℤ pos bound
    pub constant : total ds (λ d. d.constant) fs ≡ last -ℤ n
    pub nodes : (x : ℕ) → total ds (coefficient_at x) fs ≡ one_if x to -ℤ one_if x back
    pub held_constant : is_held_total ds (λ d. d.constant) fs ≡ true
    pub held_nodes : (x : ℕ) → is_held_total ds (coefficient_at x) fs ≡ true

  shorter : (k bound : ℕ) → suc k * 2 ^ 82 ≤ bound → k * 2 ^ 82 ≤ bound
  shorter k bound h = omega arith

  within : (m bound : ℕ) (n : ℤ) → m ≤ bound → (neg_ℤ (pos m) ≤ℤ n) × (n ≤ℤ pos m) → (neg_ℤ (pos bound) ≤ℤ n) × (n ≤ℤ pos bound)
  within m bound n h (low, high) = (omega (arith, ints), omega (arith, ints))

  held-difference : (bound : ℕ) (m n : ℤ) → bound ≤ 2 ^ 124 → (neg_ℤ (pos bound) ≤ℤ m) × (m ≤ℤ pos bound) → (neg_ℤ (pos bound) ≤ℤ n) × (n ≤ℤ pos bound) → is_held (m -ℤ n) ≡ true
  held-difference bound m n small (low, high) (lower, higher) = held (m -ℤ n) (omega (arith, ints)) (omega (arith, ints))

  held-ends : (x y z : ℕ) → is_held (one_if x y -ℤ one_if x z) ≡ true
  held-ends x y z = between_ones (one_if x y) (one_if x z) (one_if-between x y) (one_if-between x z) where
    between_ones : (m n : ℤ) → (pos 0 ≤ℤ m) × (m ≤ℤ pos 1) → (pos 0 ≤ℤ n) × (n ≤ℤ pos 1) → is_held (m -ℤ n) ≡ true
    between_ones m n (low, high) (lower, higher) = held (m -ℤ n) (omega (arith, ints)) (omega (arith, ints))

  more_held : (a b s : ℤ) (rest : Bool) → is_held a ≡ true → a +ℤ b ≡ s → is_held s ≡ true → rest ≡ true → (is_held a && (is_held (a +ℤ b) && rest)) ≡ true
  more_held a b s rest first sum whole others = and_from _ _ first (and_from _ _ (ap is_held sum ∙ whole) others)

  telescope : (a b c d e : ℤ) → a ≡ b -ℤ c → d ≡ e -ℤ b → a +ℤ d ≡ e -ℤ c
  telescope a b c d e f g = omega (arith, ints)

  ending : (a b c : ℤ) → a ≡ b -ℤ c → a +ℤ pos 0 ≡ b -ℤ c
  ending a b c f = omega (arith, ints)

  join : (a b c d e : ℤ) → a ≡ c -ℤ b → d ≡ b -ℤ e → a +ℤ d ≡ c -ℤ e
  join a b c d e f g = omega (arith, ints)

  pub sums : (reaches : List Reach) (steps : List Step) (to : ℕ) (n : ℤ) (bound : ℕ) → IsWalk ds to steps n → AreAbove reaches steps → leaves back steps ≡ true → length steps * 2 ^ 82 ≤ bound → bound ≤ 2 ^ 124 → Sums reaches (factors_up_to back steps) to n bound
  sums reaches [] to n bound walk above returns long small = absurd (false≢true returns)
  sums reaches (step ∷ steps) to n bound (goes, walk) (first, others) returns long small = by_test (eqb step.from back) refl (λ r. sums reaches steps step.from step.before bound walk others r (shorter (length steps) bound long) small) where
    constant-is : of_row (λ d. d.constant) (factor_of step).factor (slice_get ds step.row) ≡ step.before -ℤ n
    constant-is = adds (λ d. d.constant) step to n goes ∙ step-constant step.backwards goes.along n step.before goes.sum

    nodes-are : (x : ℕ) → of_row (coefficient_at x) (factor_of step).factor (slice_get ds step.row) ≡ one_if x to -ℤ one_if x step.from
    nodes-are x = adds (coefficient_at x) step to n goes ∙ step-nodes step.backwards goes.along x step.from to goes.tail goes.head

    n-range : (neg_ℤ (pos bound) ≤ℤ n) × (n ≤ℤ pos bound)
    n-range = within (length (step ∷ steps) * 2 ^ 82) bound n long (walk-between ds count narrow (step ∷ steps) to n (goes, walk))

    before-range : (neg_ℤ (pos bound) ≤ℤ step.before) × (step.before ≤ℤ pos bound)
    before-range = within (length steps * 2 ^ 82) bound step.before (shorter (length steps) bound long) (walk-between ds count narrow steps step.from step.before walk)

    product-held : is_held (of_row (λ d. d.constant) (factor_of step).factor (slice_get ds step.row)) ≡ true
    product-held = ap is_held constant-is ∙ held-difference bound step.before n small before-range n-range

    node-held : (x : ℕ) → is_held (of_row (coefficient_at x) (factor_of step).factor (slice_get ds step.row)) ≡ true
    node-held x = ap is_held (nodes-are x) ∙ held-ends x to step.from

    by_test : (b : Bool) → eqb step.from back ≡ b → (leaves back steps ≡ true → Sums reaches (factors_up_to back steps) step.from step.before bound) → Sums reaches (map factor_of (step ∷ (if b then [] else up_to back steps))) to n bound
    by_test true is again =
        let same : step.from ≡ back = eqb-true step.from back is in
        let nodes : (x : ℕ) → of_row (coefficient_at x) (factor_of step).factor (slice_get ds step.row) +ℤ pos 0 ≡ one_if x to -ℤ one_if x back = λ x. ending (of_row (coefficient_at x) (factor_of step).factor (slice_get ds step.row)) (one_if x to) (one_if x back) (nodes-are x ∙ ap (λ y. one_if x to -ℤ one_if x y) same) in
        record {
          last = step.before;
          above = subst (λ y. number_at reaches y ≤ℤ step.before) same first;
          low = before-range.0;
          high = before-range.1;
          constant = ending (of_row (λ d. d.constant) (factor_of step).factor (slice_get ds step.row)) step.before n constant-is;
          nodes = nodes;
          held_constant = more_held (of_row (λ d. d.constant) (factor_of step).factor (slice_get ds step.row)) (pos 0) (step.before -ℤ n) true product-held (ending (of_row (λ d. d.constant) (factor_of step).factor (slice_get ds step.row)) step.before n constant-is) (held-difference bound step.before n small before-range n-range) refl;
          held_nodes = λ x. more_held (of_row (coefficient_at x) (factor_of step).factor (slice_get ds step.row)) (pos 0) (one_if x to -ℤ one_if x back) true (node-held x) (nodes x) (held-ends x to back) refl;
        }
    by_test false is again =
        let goes_on : leaves back steps ≡ true = ap (λ b. b || leaves back steps) (sym is) ∙ returns in
        let rest = again goes_on in
        let constant : of_row (λ d. d.constant) (factor_of step).factor (slice_get ds step.row) +ℤ total ds (λ d. d.constant) (factors_up_to back steps) ≡ rest.last -ℤ n = telescope (of_row (λ d. d.constant) (factor_of step).factor (slice_get ds step.row)) step.before n (total ds (λ d. d.constant) (factors_up_to back steps)) rest.last constant-is rest.constant in
        let nodes : (x : ℕ) → of_row (coefficient_at x) (factor_of step).factor (slice_get ds step.row) +ℤ total ds (coefficient_at x) (factors_up_to back steps) ≡ one_if x to -ℤ one_if x back = λ x. join (of_row (coefficient_at x) (factor_of step).factor (slice_get ds step.row)) (one_if x step.from) (one_if x to) (total ds (coefficient_at x) (factors_up_to back steps)) (one_if x back) (nodes-are x) (rest.nodes x) in
        record {
          last = rest.last;
          above = rest.above;
          low = rest.low;
          high = rest.high;
          constant = constant;
          nodes = nodes;
          held_constant = more_held (of_row (λ d. d.constant) (factor_of step).factor (slice_get ds step.row)) (total ds (λ d. d.constant) (factors_up_to back steps)) (rest.last -ℤ n) (is_held_total ds (λ d. d.constant) (factors_up_to back steps)) product-held constant (held-difference bound rest.last n small (rest.low, rest.high) n-range) rest.held_constant;
          held_nodes = λ x. more_held (of_row (coefficient_at x) (factor_of step).factor (slice_get ds step.row)) (total ds (coefficient_at x) (factors_up_to back steps)) (one_if x to -ℤ one_if x back) (is_held_total ds (coefficient_at x) (factors_up_to back steps)) (node-held x) (nodes x) (held-ends x to back) (rest.held_nodes x);
        }

  -- ---- the rest of what a cycle is

  none_among : (i : ℕ) (steps : List Step) → list_any (eqb i) (map (λ step. step.row) steps) ≡ false → list_any (eqb i) (map (λ f. f.atom) (factors_up_to back steps)) ≡ false
  none_among i [] none = refl
  none_among i (step ∷ steps) none =
      let parts = or_parts (eqb i step.row) (list_any (eqb i) (map (λ step. step.row) steps)) none in
      or_from _ _ parts.0 (rest (eqb step.from back) (none_among i steps parts.1)) where
        rest : (b : Bool) → list_any (eqb i) (map (λ f. f.atom) (factors_up_to back steps)) ≡ false → list_any (eqb i) (map (λ f. f.atom) (map factor_of (if b then [] else up_to back steps))) ≡ false
        rest true again = refl
        rest false again = again

  apart_up_to : (steps : List Step) → are_apart (map (λ step. step.row) steps) ≡ true → are_apart (map (λ f. f.atom) (factors_up_to back steps)) ≡ true
  apart_up_to [] apart = refl
  apart_up_to (step ∷ steps) apart =
      let parts = and_parts (not (list_any (eqb step.row) (map (λ step. step.row) steps))) (are_apart (map (λ step. step.row) steps)) apart in
      by_test (eqb step.from back) (not-true _ parts.0) (apart_up_to steps parts.1) where
        by_test : (b : Bool) → list_any (eqb step.row) (map (λ step. step.row) steps) ≡ false → are_apart (map (λ f. f.atom) (factors_up_to back steps)) ≡ true → are_apart (map (λ f. f.atom) (map factor_of (step ∷ (if b then [] else up_to back steps)))) ≡ true
        by_test true none again = refl
        by_test false none again = and_from _ _ (not_from_false _ (none_among step.row steps none)) again

  divides_sign : (d : ℕ) (b : Bool) → d ∣ unsigned_abs (if b then neg_ℤ (pos 1) else pos 1) → d ≡ 1
  divides_sign d true h = dvd_antisymm h (one-dvd d)
  divides_sign d false h = dvd_antisymm h (one-dvd d)

  no_divisor : (steps : List Step) → leaves back steps ≡ true → (d : ℕ) → DividesEach d (factors_up_to back steps) → d ≡ 1
  no_divisor [] returns d each = absurd (false≢true returns)
  no_divisor (step ∷ steps) returns d (first, others) = divides_sign d step.backwards first

  positive : (a b c : ℤ) → a ≡ b -ℤ c → c <ℤ b → pos 0 <ℤ a
  positive a b c e h = omega (arith, ints)

  below_last : (a b c : ℤ) → a <ℤ b → b ≤ℤ c → a <ℤ c
  below_last a b c f g = omega (arith, ints)

  cancels : (a b : ℤ) → a ≡ b -ℤ b → a ≡ pos 0
  cancels a b e = omega (arith, ints)

  pub cycle : (reaches : List Reach) (reach : Reach) → IsGrown ds reaches back reach → leaves back reach.walk ≡ true → IsCycle ds (factors_up_to back reach.walk)
  cycle reaches reach is returns =
      let all = sums reaches reach.walk back reach.number ((2 ^ 40 + 1) * 2 ^ 82) is.walk is.above returns (longest (length reach.walk) is.short) (lit≤ tt) in
      record {
        apart = apart_up_to reach.walk is.apart;
        factors = allowed_each reach.walk back reach.number is.walk;
        constant = positive _ all.last reach.number all.constant (below_last reach.number _ all.last is.lesser all.above);
        nodes = λ x. cancels _ (one_if x back) (all.nodes x);
        no_divisor = no_divisor reach.walk returns;
        held_constant = all.held_constant;
        held_nodes = all.held_nodes;
      } where
        longest : (k : ℕ) → k ≤ 2 ^ 40 + 1 → k * 2 ^ 82 ≤ (2 ^ 40 + 1) * 2 ^ 82
        longest k h = omega arith
