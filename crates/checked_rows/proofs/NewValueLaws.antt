-- The values of new variables are below the counter that counts them.
use Rattle.std.proofs.Common.{◌≡◌, ⊎_elim, ℕ, suc, ◌+◌, ◌<◌, ◌≤◌, List, [], ◌∷◌, refl, sym, subst, arith}
use Rattle.std.proofs.lemmas.List.Elements.{Contains-push_cases}
use Rattle.gil_values.proofs.OperatorSymbols.{none_contained}
use Rattle.gil_values.specs.Pure.{PureValue}
use Rattle.gil_values.specs.Symbols.{IsBelow, AreBelow}
use Rattle.pure_terms.specs.declared.variables.Sort.{Sort}
use Rattle.sym_model.specs.Lists.{Each}
use Rattle.sym_paths.proofs.Recording.{past_is}
use Rattle.sym_paths.specs.Steps.{counter_after, counter_past, fresh_count}
use Rattle.checked_paths.specs.Exactness.{IsNewValue, AreNewValues}
use Rattle.checked_rows.proofs.BelowLaws.{each_below, value_below}

new_value_below : (n : ℕ) (sort : Sort) (w : PureValue) → IsNewValue n sort w → IsBelow (counter_after sort n) w
new_value_below n Sort.Fresh w is =
    subst (IsBelow (suc n)) (sym is) (λ k occurs. ⊎_elim (λ none. absurd (none_contained k none)) (λ (same : n ≡ k). omega (arith, same)) (Contains-push_cases [] n k occurs))
new_value_below n Sort.Int w is = value_below n (w ∷ []) 0 w is refl
new_value_below n Sort.Bool w is = value_below n (w ∷ []) 0 w is refl
new_value_below n Sort.Str w is = value_below n (w ∷ []) 0 w is refl
new_value_below n Sort.Sym w is = value_below n (w ∷ []) 0 w is refl
new_value_below n Sort.List w is = value_below n (w ∷ []) 0 w is refl
new_value_below n Sort.Any w is = value_below n (w ∷ []) 0 w is refl

-- the counter doesn't fall
pub counter_rises : (sorts : List Sort) (n : ℕ) → n ≤ counter_past sorts n
counter_rises sorts n = let past : counter_past sorts n ≡ n + fresh_count sorts = past_is sorts n in omega (arith, past)

each_new_below : (sorts : List Sort) (ws : List PureValue) (n : ℕ) → AreNewValues n sorts ws → Each (IsBelow (counter_past sorts n)) ws
each_new_below [] [] n are = tt
each_new_below [] (w ∷ ws) n are = absurd are
each_new_below (s ∷ ss) [] n are = absurd are
each_new_below (s ∷ ss) (w ∷ ws) n are = (
  (λ k occurs.
      let less : k < counter_after s n = new_value_below n s w are.0 k occurs in
      let rises : counter_after s n ≤ counter_past ss (counter_after s n) = counter_rises ss (counter_after s n) in
      omega (arith, less, rises)),
  each_new_below ss ws (counter_after s n) are.1,
)

pub new_values_below : (sorts : List Sort) (ws : List PureValue) (n : ℕ) → AreNewValues n sorts ws → AreBelow (counter_past sorts n) ws
new_values_below sorts ws n are = each_below (counter_past sorts n) ws (each_new_below sorts ws n are)
