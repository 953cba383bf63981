-- What holds of walks: no difference is gone along twice, and numbers stay within bounds.
use Rattle.std.proofs.Common.{◌≡◌, ⊎_elim, ◌⊎◌, inl, inr, ℕ, zero, suc, ◌+◌, ◌-◌, ◌*◌, ◌^◌, ◌<◌, ◌≤◌, ℤ, pos, negsuc, neg_ℤ, ◌+ℤ◌, ◌≤ℤ◌, ◌<ℤ◌, List, [], ◌∷◌, map, length, set, Bool, true, false, ◌&&◌, if◌then◌else◌, Option, Some, None, slice_get, eqb, refl, sym, ap, ◌∙◌, subst, arith}
use Rattle.std.specs.Prelude.{int_le}
use Rattle.std.specs.List.{list_any}
use Rattle.std.proofs.lemmas.Bool.{false≢true, and_parts, or_parts, or_from, cases_eq, eq-eqb, ne_eqb, not_from_false}
use Rattle.std.proofs.lemmas.Int.{ints}
use Rattle.std.proofs.lemmas.Option.{same_Some}
use Rattle.pure_terms.specs.Numbers.{is_between}
use Rattle.linear_core.specs.declared.differences.Difference.{Difference}
use Rattle.linear_core.specs.declared.walks.Reach.{Reach}
use Rattle.linear_core.specs.declared.walks.Step.{Step}
use Rattle.linear_core.specs.Nodes.{AreNarrow, tail_of, head_of, weight_of, may_go}
use Rattle.linear_core.specs.Walks.{GoesTo, IsWalk, number_of, number_at, leaves, AreAbove, IsReached, AreReached, IsGrown, above_least, height}

-- ---- bounds

pub between : (low high n : ℤ) → is_between low high n ≡ true → (low ≤ℤ n) × (n ≤ℤ high)
between low high n h =
    let parts = and_parts (int_le low n) (int_le n high) h in
    (below low n parts.0, below n high parts.1) where
      below : (m n : ℤ) → int_le m n ≡ true → m ≤ℤ n
      below m n h = grind (arith, ints)

pub weight-between : (bound c : ℤ) (backwards : Bool) → neg_ℤ bound ≤ℤ c → c ≤ℤ bound → (neg_ℤ bound ≤ℤ (if backwards then c else neg_ℤ c)) × ((if backwards then c else neg_ℤ c) ≤ℤ bound)
weight-between bound c true low high = (low, high)
weight-between bound c false low high = (omega (arith, ints), omega (arith, ints))

-- a walk changes a number by at most 2^82 at each step
pub walk-between : (ds : List Difference) (count : ℕ) → AreNarrow count ds → (steps : List Step) (to : ℕ) (n : ℤ) → IsWalk ds to steps n → (neg_ℤ (pos (length steps * 2 ^ 82)) ≤ℤ n) × (n ≤ℤ pos (length steps * 2 ^ 82))
walk-between ds count narrow [] to n walk = (omega (arith, ints, walk), omega (arith, ints, walk))
walk-between ds count narrow (step ∷ steps) to n (goes, walk) =
    let rest = walk-between ds count narrow steps step.from step.before walk in
    let range = between _ _ goes.along.constant (narrow step.row goes.along goes.stands).constant in
    let weight = weight-between (pos (2 ^ 82)) goes.along.constant step.backwards range.0 range.1 in
    (lower (length steps) n step.before _ goes.sum rest.0 weight.0, higher (length steps) n step.before _ goes.sum rest.1 weight.1) where
      lower : (k : ℕ) (n b w : ℤ) → n ≡ b +ℤ w → neg_ℤ (pos (k * 2 ^ 82)) ≤ℤ b → neg_ℤ (pos (2 ^ 82)) ≤ℤ w → neg_ℤ (pos (suc k * 2 ^ 82)) ≤ℤ n
      lower k n b w e f g = omega (arith, ints)

      higher : (k : ℕ) (n b w : ℤ) → n ≡ b +ℤ w → b ≤ℤ pos (k * 2 ^ 82) → w ≤ℤ pos (2 ^ 82) → n ≤ℤ pos (suc k * 2 ^ 82)
      higher k n b w e f g = omega (arith, ints)

-- ---- rows stand apart

same_along : (ds : List Difference) (i : ℕ) (a d : Difference) → slice_get ds i ≡ Some a → slice_get ds i ≡ Some d → a ≡ d
same_along ds i a d stands is = cc

-- a walk that meets a node nowhere goes along no difference that has the node
module _ (ds : List Difference) (row x : ℕ) (d : Difference) (stands : slice_get ds row ≡ Some d) where
  ends : (b : Bool) (from to : ℕ) → (x ≡ d.plus) ⊎ (x ≡ d.minus) → from ≡ tail_of d b → to ≡ head_of d b → (x ≡ to) ⊎ (x ≡ from)
  ends true from to (inl e) tail head = inr (e ∙ sym tail)
  ends true from to (inr e) tail head = inl (e ∙ sym head)
  ends false from to (inl e) tail head = inl (e ∙ sym head)
  ends false from to (inr e) tail head = inr (e ∙ sym tail)

  not_along : (step : Step) (to : ℕ) (n : ℤ) → GoesTo ds step to n → (x ≡ d.plus) ⊎ (x ≡ d.minus) → (x ≡ to → ⊥) → (x ≡ step.from → ⊥) → row ≡ step.row → ⊥
  not_along step to n goes end other away same =
      let is : goes.along ≡ d = same_along ds step.row goes.along d goes.stands (subst (λ i. slice_get ds i ≡ Some d) same stands) in
      ⊎_elim other away
      (ends step.backwards step.from to end (subst (λ a. step.from ≡ tail_of a step.backwards) is goes.tail) (subst (λ a. to ≡ head_of a step.backwards) is goes.head))

  pub not_touched : (x ≡ d.plus) ⊎ (x ≡ d.minus) → (steps : List Step) (to : ℕ) (n : ℤ) → IsWalk ds to steps n → (x ≡ to → ⊥) → leaves x steps ≡ false → list_any (eqb row) (map (λ step. step.row) steps) ≡ false
  not_touched end [] to n walk other still = refl
  not_touched end (step ∷ steps) to n (goes, walk) other still =
      let parts = or_parts (eqb step.from x) (leaves x steps) still in
      let away : x ≡ step.from → ⊥ = λ e. false≢true (sym parts.0 ∙ eq-eqb step.from x (sym e)) in
      or_from _ _ (ne_eqb row step.row (not_along step to n goes end other away)) (not_touched end steps step.from step.before walk away parts.1)

has_tail : (d : Difference) (b : Bool) (x : ℕ) → x ≡ tail_of d b → (x ≡ d.plus) ⊎ (x ≡ d.minus)
has_tail d true x e = inl e
has_tail d false x e = inr e

-- the last step isn't undone: that would give no lesser number
module _ (ds : List Difference) (reaches : List Reach) (row from : ℕ) (n : ℤ) (d : Difference) (stands : slice_get ds row ≡ Some d) where
  undone : (b c : Bool) (left : ℕ) (before : ℤ) → from ≡ tail_of d b → (from ≡ left → ⊥) → left ≡ tail_of d c → n ≡ before +ℤ weight_of d c → number_at reaches left ≤ℤ before → (n +ℤ weight_of d b) <ℤ number_at reaches (head_of d b) → ⊥
  undone true true left before is away tail sum above lesser = away (is ∙ sym tail)
  undone false false left before is away tail sum above lesser = away (is ∙ sym tail)
  undone true false left before is away tail sum above lesser = back before d.constant (number_at reaches left) sum above (subst (λ x. (n +ℤ d.constant) <ℤ number_at reaches x) (sym tail) lesser) where
    back : (b c m : ℤ) → n ≡ b +ℤ neg_ℤ c → m ≤ℤ b → (n +ℤ c) <ℤ m → ⊥
    back b c m e f g = omega (arith, ints)
  undone false true left before is away tail sum above lesser = back before d.constant (number_at reaches left) sum above (subst (λ x. (n +ℤ neg_ℤ d.constant) <ℤ number_at reaches x) (sym tail) lesser) where
    back : (b c m : ℤ) → n ≡ b +ℤ c → m ≤ℤ b → (n +ℤ neg_ℤ c) <ℤ m → ⊥
    back b c m e f g = omega (arith, ints)

  pub not_again : (b : Bool) (steps : List Step) → from ≡ tail_of d b → IsWalk ds from steps n → leaves from steps ≡ false → AreAbove reaches steps → (n +ℤ weight_of d b) <ℤ number_at reaches (head_of d b) → list_any (eqb row) (map (λ step. step.row) steps) ≡ false
  not_again b [] is walk still above lesser = refl
  not_again b (step ∷ steps) is (goes, walk) still (first, rest) lesser =
      let parts = or_parts (eqb step.from from) (leaves from steps) still in
      let away : from ≡ step.from → ⊥ = λ e. false≢true (sym parts.0 ∙ eq-eqb step.from from (sym e)) in
      or_from _ _ (ne_eqb row step.row (other step goes away first)) (not_touched ds row from d stands (has_tail d b from is) steps step.from step.before walk away parts.1) where
        other : (step : Step) → GoesTo ds step from n → (from ≡ step.from → ⊥) → number_at reaches step.from ≤ℤ step.before → row ≡ step.row → ⊥
        other step goes away first same =
            let along : goes.along ≡ d = same_along ds step.row goes.along d goes.stands (subst (λ i. slice_get ds i ≡ Some d) same stands) in
            undone b step.backwards step.from step.before is away (subst (λ a. step.from ≡ tail_of a step.backwards) along goes.tail) (subst (λ a. n ≡ step.before +ℤ weight_of a step.backwards) along goes.sum) first lesser

-- ---- a walk with one more step

pub number-is : (reaches : List Reach) (x : ℕ) (reach : Reach) → slice_get reaches x ≡ Some reach → number_at reaches x ≡ reach.number
number-is reaches x reach is = ap number_of is

pub grown : (ds : List Difference) (reaches : List Reach) (row : ℕ) (d : Difference) (b : Bool) (start : Reach) → slice_get ds row ≡ Some d → may_go d b ≡ true → AreReached ds reaches → slice_get reaches (tail_of d b) ≡ Some start → (start.number +ℤ weight_of d b) <ℤ number_at reaches (head_of d b) → IsGrown ds reaches (head_of d b) (record { number = start.number +ℤ weight_of d b; walk = record { row = row; backwards = b; from = tail_of d b; before = start.number } ∷ start.walk })
grown ds reaches row d b start stands allowed reached is lesser =
    let from = reached (tail_of d b) start is in
    record {
      walk = (record { along = d; stands = stands; allowed = allowed; tail = refl; head = refl; sum = refl }, from.walk);
      apart = and_both (not_from_false _ (not_again ds reaches row (tail_of d b) start.number d stands b start.walk refl from.walk from.open_ended from.above lesser)) from.apart;
      above = (same (number_at reaches (tail_of d b)) start.number (number-is reaches (tail_of d b) start is), from.above);
      lesser = lesser;
      short = one_more (length start.walk) from.short;
    } where
      and_both : {a b : Bool} → a ≡ true → b ≡ true → (a && b) ≡ true
      and_both {a} {b} e f = (λ i. e i && b) ∙ f

      same : (m n : ℤ) → m ≡ n → m ≤ℤ n
      same m n e = omega (arith, ints)

      one_more : (k : ℕ) → k ≤ 2 ^ 40 → suc k ≤ 2 ^ 40 + 1
      one_more k h = omega arith

-- ---- a node that gets a lesser number

pub slice_get-set_same : {A : Type 0} (xs : List A) (i : ℕ) (a : A) → i < length xs → slice_get (set xs i a) i ≡ Some a
slice_get-set_same [] i a h = absurd (omega (arith, h))
slice_get-set_same (x ∷ xs) zero a h = refl
slice_get-set_same (x ∷ xs) (suc i) a h = slice_get-set_same xs i a (omega (arith, h))

pub slice_get-set_other : {A : Type 0} (xs : List A) (i j : ℕ) (a : A) → (j ≡ i → ⊥) → slice_get (set xs i a) j ≡ slice_get xs j
slice_get-set_other [] i j a other = refl
slice_get-set_other (x ∷ xs) zero zero a other = absurd (other refl)
slice_get-set_other (x ∷ xs) zero (suc j) a other = refl
slice_get-set_other (x ∷ xs) (suc i) zero a other = refl
slice_get-set_other (x ∷ xs) (suc i) (suc j) a other = slice_get-set_other xs i j a (λ e. other (ap suc e))

module _ (ds : List Difference) (reaches : List Reach) (to : ℕ) (reach : Reach) (placed : to < length reaches) (lesser : reach.number <ℤ number_at reaches to) where
  lowered : (x : ℕ) → number_at (set reaches to reach) x ≤ℤ number_at reaches x
  lowered x = ⊎_elim (here x) (elsewhere x) (cases_eq x to) where
    at_most : (m n k : ℤ) → m ≡ n → n <ℤ k → m ≤ℤ k
    at_most m n k e f = omega (arith, ints)

    same : (m n : ℤ) → m ≡ n → m ≤ℤ n
    same m n e = omega (arith, ints)

    here : (x : ℕ) → x ≡ to → number_at (set reaches to reach) x ≤ℤ number_at reaches x
    here x e = subst (λ y. number_at (set reaches to reach) y ≤ℤ number_at reaches y) (sym e) (at_most _ reach.number _ (ap number_of (slice_get-set_same reaches to reach placed)) lesser)

    elsewhere : (x : ℕ) → (x ≡ to → ⊥) → number_at (set reaches to reach) x ≤ℤ number_at reaches x
    elsewhere x other = same _ _ (ap number_of (slice_get-set_other reaches to x reach other))

  still_above : (steps : List Step) → AreAbove reaches steps → AreAbove (set reaches to reach) steps
  still_above [] above = tt
  still_above (step ∷ steps) (first, rest) = (chained _ _ _ (lowered step.from) first, still_above steps rest) where
    chained : (a b c : ℤ) → a ≤ℤ b → b ≤ℤ c → a ≤ℤ c
    chained a b c e f = omega (arith, ints)

  still_reached : (x : ℕ) (other : Reach) → IsReached ds reaches x other → IsReached ds (set reaches to reach) x other
  still_reached x other is = record { walk = is.walk; open_ended = is.open_ended; apart = is.apart; above = still_above other.walk is.above; short = is.short }

  pub moved : AreReached ds reaches → IsGrown ds reaches to reach → leaves to reach.walk ≡ false → length reach.walk ≤ 2 ^ 40 → AreReached ds (set reaches to reach)
  moved reached is still short x other there = ⊎_elim here elsewhere (cases_eq x to) where
    new : IsReached ds (set reaches to reach) to reach
    new = record { walk = is.walk; open_ended = still; apart = is.apart; above = still_above reach.walk is.above; short = short }

    here : x ≡ to → IsReached ds (set reaches to reach) x other
    here e =
        let there_now : slice_get (set reaches to reach) to ≡ Some other = subst (λ y. slice_get (set reaches to reach) y ≡ Some other) e there in
        let which : reach ≡ other = same_Some reach other (sym (slice_get-set_same reaches to reach placed) ∙ there_now) in
        subst (λ y. IsReached ds (set reaches to reach) y other) (sym e) (subst (IsReached ds (set reaches to reach) to) which new)

    elsewhere : (x ≡ to → ⊥) → IsReached ds (set reaches to reach) x other
    elsewhere apart = still_reached x other (reached x other (sym (slice_get-set_other reaches to x reach apart) ∙ there))

-- ---- numbers stay within 2^122

pub moderate : (ds : List Difference) (count : ℕ) (reaches : List Reach) → AreNarrow count ds → AreReached ds reaches → (x : ℕ) → (neg_ℤ (pos (2 ^ 122)) ≤ℤ number_at reaches x) × (number_at reaches x ≤ℤ pos (2 ^ 122))
moderate ds count reaches narrow reached x = by_cases (slice_get reaches x) refl where
  within_low : (k : ℕ) (n : ℤ) → k ≤ 2 ^ 40 → neg_ℤ (pos (k * 2 ^ 82)) ≤ℤ n → neg_ℤ (pos (2 ^ 122)) ≤ℤ n
  within_low k n h low = omega (arith, ints)

  within_high : (k : ℕ) (n : ℤ) → k ≤ 2 ^ 40 → n ≤ℤ pos (k * 2 ^ 82) → n ≤ℤ pos (2 ^ 122)
  within_high k n h high = omega (arith, ints)

  by_cases : (found : Option Reach) → slice_get reaches x ≡ found → (neg_ℤ (pos (2 ^ 122)) ≤ℤ number_of found) × (number_of found ≤ℤ pos (2 ^ 122))
  by_cases (Some reach) is =
      let there = reached x reach is in
      let range = walk-between ds count narrow reach.walk x reach.number there.walk in
      (within_low (length reach.walk) reach.number there.short range.0, within_high (length reach.walk) reach.number there.short range.1)
  by_cases None is = (omega (arith, ints), omega (arith, ints))

-- ---- numbers fall

above-least : (m n : ℤ) → neg_ℤ (pos (2 ^ 122)) ≤ℤ m → m <ℤ n → above_least m < above_least n
above-least (pos m) (pos n) low less = falls m n less where
  falls : (m n : ℕ) → pos m <ℤ pos n → m + 2 ^ 122 < n + 2 ^ 122
  falls m n less = omega (arith, ints)
above-least (pos m) (negsuc n) low less = absurd (omega (arith, ints, less))
above-least (negsuc m) (pos n) low less = falls m n low where
  falls : (m n : ℕ) → neg_ℤ (pos (2 ^ 122)) ≤ℤ negsuc m → 2 ^ 122 - suc m < n + 2 ^ 122
  falls m n low = omega (arith, ints)
above-least (negsuc m) (negsuc n) low less = falls m n low less where
  falls : (m n : ℕ) → neg_ℤ (pos (2 ^ 122)) ≤ℤ negsuc m → negsuc m <ℤ negsuc n → 2 ^ 122 - suc m < 2 ^ 122 - suc n
  falls m n low less = omega (arith, ints)

pub height-set : (reaches : List Reach) (to : ℕ) (reach : Reach) → to < length reaches → neg_ℤ (pos (2 ^ 122)) ≤ℤ reach.number → reach.number <ℤ number_at reaches to → height (set reaches to reach) < height reaches
height-set [] to reach placed low less = absurd (omega (arith, placed))
height-set (first ∷ rest) zero reach placed low less = falls _ _ (height rest) (above-least reach.number first.number low less) where
  falls : (m n k : ℕ) → m < n → m + k < n + k
  falls m n k h = omega arith
height-set (first ∷ rest) (suc to) reach placed low less = falls _ _ (above_least first.number) (height-set rest to reach (omega (arith, placed)) low less) where
  falls : (m n k : ℕ) → m < n → k + m < k + n
  falls m n k h = omega arith

-- the walk that gives a node a lesser number keeps it within bounds
pub least : (ds : List Difference) (count : ℕ) (to : ℕ) (reach : Reach) → AreNarrow count ds → IsWalk ds to reach.walk reach.number → length reach.walk ≤ 2 ^ 40 → neg_ℤ (pos (2 ^ 122)) ≤ℤ reach.number
least ds count to reach narrow walk short = within (length reach.walk) reach.number short (walk-between ds count narrow reach.walk to reach.number walk).0 where
  within : (k : ℕ) (n : ℤ) → k ≤ 2 ^ 40 → neg_ℤ (pos (k * 2 ^ 82)) ≤ℤ n → neg_ℤ (pos (2 ^ 122)) ≤ℤ n
  within k n h low = omega (arith, ints)
