-- What following a difference once gives.
use Rattle.std.proofs.Common.{◌≡◌, ⊎_elim, ℕ, zero, suc, ◌+◌, ◌^◌, ◌<◌, ℤ, pos, neg_ℤ, ◌+ℤ◌, ◌≤ℤ◌, ◌<ℤ◌, List, [], ◌∷◌, length, get_or, Bool, true, false, Option, Some, slice_get, refl, sym, ap, ◌∙◌, subst, arith}
use Rattle.std.specs.Prelude.{IsSomeAnd}
use Rattle.std.proofs.lemmas.Bool.{cases_eq}
use Rattle.std.proofs.lemmas.Int.{ints}
use Rattle.std.proofs.lemmas.Option.{same_Some}
use Rattle.linear_core.specs.declared.differences.Difference.{Difference}
use Rattle.linear_core.specs.declared.walks.Reach.{Reach}
use Rattle.linear_core.specs.declared.walks.Step.{Step}
use Rattle.linear_core.specs.Nodes.{AreNarrow, tail_of, head_of, weight_of, may_go}
use Rattle.linear_core.specs.declared.relaxing.Relaxed.TheVariants.{Stays, Moves, Returns}
use Rattle.linear_core.specs.declared.relaxing.Relaxed.{Relaxed}
use Rattle.linear_core.specs.Walks.{number_at, AreReached, IsGrown, IsStill, IsMet, AreMet, IsRelaxed, IsFollowedBothWays, height, row_at_turn}
use Rattle.linear_core.proofs.Walking.{between, weight-between, moderate, number-is, grown}

-- the element at a place where there is one
pub there : {A : Type 0} (xs : List A) (i : ℕ) (d : A) (P : A → Type 0) → IsSomeAnd (slice_get xs i) P → (slice_get xs i ≡ Some (get_or xs i d)) × P (get_or xs i d)
there [] i d P h = absurd h
there (x ∷ xs) zero d P h = (refl, h)
there (x ∷ xs) (suc i) d P h = there xs i d P h

pub some_and : {A : Type 0} (o : Option A) (x : A) (P : A → Type 0) → o ≡ Some x → P x → IsSomeAnd o P
some_and o x P is h = subst (λ p. IsSomeAnd p P) (sym is) h

module _ (ds : List Difference) (count row : ℕ) (d : Difference) (narrow : AreNarrow count ds) (stands : slice_get ds row ≡ Some d) where
  pub tail_placed : (b : Bool) → tail_of d b < count
  tail_placed true = (narrow row d stands).plus
  tail_placed false = (narrow row d stands).minus

  pub head_placed : (b : Bool) → head_of d b < count
  head_placed true = (narrow row d stands).minus
  head_placed false = (narrow row d stands).plus

  pub weight_range : (b : Bool) → (neg_ℤ (pos (2 ^ 82)) ≤ℤ weight_of d b) × (weight_of d b ≤ℤ pos (2 ^ 82))
  weight_range b =
      let range = between _ _ d.constant (narrow row d stands).constant in
      weight-between (pos (2 ^ 82)) d.constant b range.0 range.1

pub reach_range : (ds : List Difference) (count : ℕ) (reaches : List Reach) (x : ℕ) (reach : Reach) → AreNarrow count ds → AreReached ds reaches → slice_get reaches x ≡ Some reach → (neg_ℤ (pos (2 ^ 122)) ≤ℤ reach.number) × (reach.number ≤ℤ pos (2 ^ 122))
reach_range ds count reaches x reach narrow reached is =
    let range = moderate ds count reaches narrow reached x in
    let same = number-is reaches x reach is in
    (subst (λ n. neg_ℤ (pos (2 ^ 122)) ≤ℤ n) same range.0, subst (λ n. n ≤ℤ pos (2 ^ 122)) same range.1)

-- the same as a walk that has grown, by its parts
pub grown_by : (ds : List Difference) (reaches : List Reach) (row : ℕ) (d : Difference) (b : Bool) (start other : Reach) (number : ℤ) (from to : ℕ) (walk : List Step) → slice_get ds row ≡ Some d → may_go d b ≡ true → AreReached ds reaches → from ≡ tail_of d b → to ≡ head_of d b → slice_get reaches from ≡ Some start → slice_get reaches to ≡ Some other → number ≡ start.number +ℤ weight_of d b → number <ℤ other.number → walk ≡ record { row = row; backwards = b; from = from; before = start.number } ∷ start.walk → IsGrown ds reaches to (record { number = number; walk = walk })
grown_by ds reaches row d b start other number from to walk stands allowed reached tail head at_from at_to sum lesser steps =
    let at_tail : slice_get reaches (tail_of d b) ≡ Some start = subst (λ x. slice_get reaches x ≡ Some start) tail at_from in
    let at_head : slice_get reaches (head_of d b) ≡ Some other = subst (λ x. slice_get reaches x ≡ Some other) head at_to in
    let less : (start.number +ℤ weight_of d b) <ℤ number_at reaches (head_of d b) = moved_less number (start.number +ℤ weight_of d b) other.number (number_at reaches (head_of d b)) sum (number-is reaches (head_of d b) other at_head) lesser in
    let whole = grown ds reaches row d b start stands allowed reached at_tail less in
    let first : IsGrown ds reaches to (record { number = start.number +ℤ weight_of d b; walk = record { row = row; backwards = b; from = from; before = start.number } ∷ start.walk }) = subst (λ x. IsGrown ds reaches x (record { number = start.number +ℤ weight_of d b; walk = record { row = row; backwards = b; from = from; before = start.number } ∷ start.walk })) (sym head) (subst (λ x. IsGrown ds reaches (head_of d b) (record { number = start.number +ℤ weight_of d b; walk = record { row = row; backwards = b; from = x; before = start.number } ∷ start.walk })) (sym tail) whole) in
    subst (λ n. IsGrown ds reaches to (record { number = n; walk = walk })) (sym sum) (subst (λ w. IsGrown ds reaches to (record { number = start.number +ℤ weight_of d b; walk = w })) (sym steps) first) where
      moved_less : (m n k l : ℤ) → m ≡ n → l ≡ k → m <ℤ k → n <ℤ l
      moved_less m n k l e f h = omega (arith, ints)

pub still_at : (reaches : List Reach) (d : Difference) (b : Bool) (start other : Reach) (number : ℤ) (from to : ℕ) → from ≡ tail_of d b → to ≡ head_of d b → slice_get reaches from ≡ Some start → slice_get reaches to ≡ Some other → number ≡ start.number +ℤ weight_of d b → other.number ≤ℤ number → IsStill reaches d b
still_at reaches d b start other number from to tail head at_from at_to sum most =
    at_most (number_at reaches (head_of d b)) (number_at reaches (tail_of d b)) (weight_of d b) other.number start.number number (number-is reaches (head_of d b) other (subst (λ x. slice_get reaches x ≡ Some other) head at_to)) (number-is reaches (tail_of d b) start (subst (λ x. slice_get reaches x ≡ Some start) tail at_from)) sum most where
      at_most : (h t w o s n : ℤ) → h ≡ o → t ≡ s → n ≡ s +ℤ w → o ≤ℤ n → h ≤ℤ (t +ℤ w)
      at_most h t w o s n e f g k = omega (arith, ints)

pub met_both_ways : (ds : List Difference) (reaches : List Reach) (row : ℕ) (e : Difference) → IsSomeAnd (slice_get ds row) (λ d. IsStill reaches d false) → ((get_or ds row e).is_equal ≡ true → IsStill reaches (get_or ds row e) true) → IsSomeAnd (slice_get ds row) (IsMet reaches)
met_both_ways ds reaches row e forwards backwards =
    let is = there ds row e (λ d. IsStill reaches d false) forwards in
    some_and (slice_get ds row) (get_or ds row e) (IsMet reaches) is.0 (record { forwards = is.1; backwards = backwards })

-- what was met before a turn, and at it
pub met_more : (ds : List Difference) (reaches : List Reach) (rows : ℕ → ℕ) (turn : ℕ) → ((t : ℕ) (d : Difference) → t < turn → slice_get ds (rows t) ≡ Some d → IsMet reaches d) → IsSomeAnd (slice_get ds (rows turn)) (IsMet reaches) → (t : ℕ) (d : Difference) → t < turn + 1 → slice_get ds (rows t) ≡ Some d → IsMet reaches d
met_more ds reaches rows turn before here t d below at = ⊎_elim last earlier (cases_eq t turn) where
  last : t ≡ turn → IsMet reaches d
  last same =
      let is = there ds (rows turn) d (IsMet reaches) here in
      let which : get_or ds (rows turn) d ≡ d = same_Some (get_or ds (rows turn) d) d (sym is.0 ∙ subst (λ i. slice_get ds (rows i) ≡ Some d) same at) in
      subst (IsMet reaches) which is.1

  earlier : (t ≡ turn → ⊥) → IsMet reaches d
  earlier other = before t d (less t turn below other) at where
    less : (t turn : ℕ) → t < turn + 1 → (t ≡ turn → ⊥) → t < turn
    less t turn below other = omega arith

-- each row has a turn
turn_of : (count : ℕ) (from_last : Bool) (k : ℕ) → k < count → (row_at_turn count from_last (row_at_turn count from_last k) ≡ k) × (row_at_turn count from_last k < count)
turn_of count true k h = (omega (arith, h), omega (arith, h))
turn_of count false k h = (refl, h)

pub met_each : (ds : List Difference) (reaches : List Reach) (from_last : Bool) → ((t : ℕ) (d : Difference) → t < length ds → slice_get ds (row_at_turn (length ds) from_last t) ≡ Some d → IsMet reaches d) → AreMet ds reaches (length ds)
met_each ds reaches from_last all k d at below =
    let turn = turn_of (length ds) from_last k below in
    all (row_at_turn (length ds) from_last k) d turn.1 (ap (slice_get ds) turn.0 ∙ at)

-- a second way after the first one changed nothing
pub followed_both_ways : (ds : List Difference) (old middle new : List Reach) (row : ℕ) (e : Difference) (relaxed : Relaxed) → middle ≡ old → IsSomeAnd (slice_get ds row) (λ d. IsStill middle d false) → IsRelaxed ds middle new row true relaxed → IsFollowedBothWays ds old new row relaxed
followed_both_ways ds old middle new row e Stays unchanged forwards (same, backwards) =
    (same ∙ unchanged, met_both_ways ds new row e (subst (λ rs. IsSomeAnd (slice_get ds row) (λ d. IsStill rs d false)) (sym same) forwards) (λ _. (there ds row e (λ d. IsStill new d true) backwards).1))
followed_both_ways ds old middle new row e Moves unchanged forwards (len, reached, falls) = (len ∙ ap length unchanged, reached, subst (λ rs. height new < height rs) unchanged falls)
followed_both_ways ds old middle new row e (Returns fs) unchanged forwards cycle = cycle
