-- Tests of numbers and walks.
use Rattle.std.proofs.Common.{◌≡◌, ⊎_elim, ℕ, ◌+◌, ◌<◌, ◌≤◌, ◌≤ℤ◌, pos, neg_ℤ, ◌^◌, List, length, Some, slice_get, sym, ap, ◌∙◌, subst, arith}
use Rattle.std.proofs.lemmas.Bool.{cases_eq, cases_lt}
use Rattle.std.proofs.lemmas.Int.{ints}
use Rattle.std.proofs.lemmas.Option.{slice_get_past, same_Some}
use Rattle.linear_core.specs.declared.differences.Difference.{Difference}
use Rattle.linear_core.specs.declared.walks.Reach.{Reach}
use Rattle.linear_core.specs.Walks.{number_of, number_at, IsMet, AreMet, AreModerate}

-- a node that there isn't has the number 0
pub none-at : (reaches : List Reach) (x : ℕ) → length reaches ≤ x → number_at reaches x ≡ pos 0
none-at reaches x past = ap number_of (slice_get_past reaches x past)

-- one more difference is met
pub met_next : (ds : List Difference) (reaches : List Reach) (i : ℕ) (d : Difference) → slice_get ds i ≡ Some d → IsMet reaches d → AreMet ds reaches i → AreMet ds reaches (i + 1)
met_next ds reaches i d at met before k e there less = ⊎_elim last (λ other. before k e there (omega (arith, less, other))) (cases_eq k i) where
  last : k ≡ i → IsMet reaches e
  last same = subst (IsMet reaches) (same_Some d e (sym at ∙ ap (slice_get ds) (sym same) ∙ there)) met

abbrev pub IsModerate : List Reach → ℕ → Type 0
IsModerate reaches x = (neg_ℤ (pos (2 ^ 122)) ≤ℤ number_at reaches x) × (number_at reaches x ≤ℤ pos (2 ^ 122))

-- so is the number of one more node
pub moderate_next : (reaches : List Reach) (i : ℕ) → IsModerate reaches i → ((x : ℕ) → x < i → IsModerate reaches x) → (x : ℕ) → x < i + 1 → IsModerate reaches x
moderate_next reaches i here before x less = ⊎_elim (λ same. subst (IsModerate reaches) (sym same) here) (λ other. before x (omega (arith, less, other))) (cases_eq x i)

-- a node that there isn't has a moderate number
pub moderate_each : (reaches : List Reach) → ((x : ℕ) → x < length reaches → IsModerate reaches x) → AreModerate reaches
moderate_each reaches each x = ⊎_elim (each x) past (cases_lt x (length reaches)) where
  past : length reaches ≤ x → IsModerate reaches x
  past h = subst (λ n. (neg_ℤ (pos (2 ^ 122)) ≤ℤ n) × (n ≤ℤ pos (2 ^ 122))) (sym (none-at reaches x h)) (omega (arith, ints), omega (arith, ints))
