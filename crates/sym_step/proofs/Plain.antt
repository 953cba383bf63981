-- Plain trails stay plain.
use Rattle.std.proofs.Common.{◌≡◌, ℕ, suc, ◌+◌, ◌≤◌, ℤ, List, [], ◌∷◌, length, sym, subst, arith}
use Rattle.gil_values.specs.Pure.{PureValue}
use Rattle.gil_syntax.specs.Pure.{PureParts}
use Rattle.mem_model.specs.Actions.{Actions}
use Rattle.mem_model.specs.Heaps.{Heap}
use Rattle.pure_terms.specs.Pure.{PureTerm}
use Rattle.sym_step.specs.Plain.{EachStep, IsAtSimple, StaysPlain, grown, TrailsStayPlain}
use Rattle.sym_step.specs.Trails.{IsTrail}
use Rattle.sym_model.specs.Lists.{Each}
use Rattle.sym_model.specs.Terms.{StateTerms}
use Rattle.sym_paths.specs.Pure.{PurePath}
use Rattle.sym_paths.specs.Steps.{IsPlainPath, IsUnknown, step_growth, narrow_bound}

-- the bound of one step less
one_less : (n b : ℕ) → grown (suc n) b ≤ narrow_bound → (grown n b + step_growth ≤ narrow_bound) × (grown n b ≤ narrow_bound)
one_less n b within = (omega (arith, within), omega (arith, within))

one_more : (n b : ℕ) → grown n b + step_growth ≡ grown (suc n) b
one_more n b = omega arith

stays_narrow : (n : ℕ) → n ≤ 10000 → grown n 0 ≤ narrow_bound
stays_narrow n few = omega (arith, few)

module _ {S : Type 0} (p : PureParts) (m : Actions) (stands : S → List PureValue → Heap → Type 0) (terms : S → StateTerms)
    (asked : List ℕ → List PureTerm → List PureTerm × List PureTerm) (plain : S → ℤ → ℤ → Type 0) where
  stays_plain : (start path : PurePath S) (earlier : List (PurePath S)) (b : ℕ) → IsTrail p m stands terms asked start earlier path → EachStep (StaysPlain p plain) earlier path → Each (IsAtSimple p) earlier
      → grown (length earlier) b ≤ narrow_bound → IsPlainPath plain b start → IsPlainPath plain (grown (length earlier) b) path
  stays_plain start path [] b trail steps simple within is =
      let same : b ≡ grown 0 b = omega arith in
      subst (λ n. IsPlainPath plain n path) same (subst (IsPlainPath plain b) (sym trail) is)
  stays_plain start path (before ∷ earlier) b trail steps simple within is =
      let (next, so_far) = one_less (length earlier) b within in
      subst (λ n. IsPlainPath plain n path) (one_more (length earlier) b)
      (steps.0 (grown (length earlier) b) simple.0 next (stays_plain start before earlier b trail.1 steps.1 simple.1 so_far is)).0

  is_known : (start path : PurePath S) (earlier : List (PurePath S)) (b : ℕ) → IsTrail p m stands terms asked start earlier path → EachStep (StaysPlain p plain) earlier path → Each (IsAtSimple p) earlier
      → grown (length earlier) b ≤ narrow_bound → IsPlainPath plain b start → ¬ IsUnknown start.ending → ¬ IsUnknown path.ending
  is_known start path [] b trail steps simple within is clear = λ unknown. clear (subst (λ (q : PurePath S). IsUnknown q.ending) trail unknown)
  is_known start path (before ∷ earlier) b trail steps simple within is clear =
      let (next, so_far) = one_less (length earlier) b within in
      (steps.0 (grown (length earlier) b) simple.0 next (stays_plain start before earlier b trail.1 steps.1 simple.1 so_far is)).1

  pub trails_stay_plain : TrailsStayPlain p m stands terms asked plain
  trails_stay_plain = record { plain_path = stays_plain; known = is_known; narrow = stays_narrow }
