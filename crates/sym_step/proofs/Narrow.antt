-- Narrow trails stay narrow, and exploration keeps them.
use Rattle.std.proofs.Common.{◌≡◌, inr, ℕ, suc, ◌+◌, ◌<◌, ◌≤◌, ℤ, List, [], ◌∷◌, ◌++◌, length, None, IsTrue, refl, sym, subst, arith}
use Rattle.gil_values.specs.Pure.{PureValue}
use Rattle.gil_syntax.specs.Pure.{PureParts}
use Rattle.gil_syntax.specs.Simple.{is_simple_command}
use Rattle.mem_model.specs.Actions.{Actions}
use Rattle.mem_model.specs.Heaps.{Heap}
use Rattle.pure_terms.specs.Pure.{PureTerm}
use Rattle.sym_engine.specs.Lawful.{IsOwnAt, IsAskedByMemoryAt}
use Rattle.sym_engine.specs.Narrow.{narrow_growth, IsNarrowPath, StaysNarrow}
use Rattle.sym_evaluation.specs.Plainly.{text_bound}
use Rattle.sym_step.specs.Exploring.{MayGoOn, cut_off}
use Rattle.sym_step.specs.Narrow.{IsAtNarrow, LeadsNarrowly, grown_narrowly, TrailsStayNarrow, IsNarrowFrom, IsNarrowEndedFrom, KeepNarrowTrails}
use Rattle.sym_step.specs.Plain.{EachStep}
use Rattle.sym_step.specs.Trails.{IsTrail, IsNextPath}
use Rattle.sym_step.proofs.Exploring.{are_next, at_a_command, placed_last, rest_keeps, each_replaced}
use Rattle.sym_model.specs.Lists.{Each}
use Rattle.sym_model.specs.Terms.{StateTerms}
use Rattle.sym_paths.specs.Forms.{NeedsWhatMatters}
use Rattle.sym_paths.specs.Pure.{PurePath}
use Rattle.sym_paths.specs.Steps.{AreNextPaths, IsPlainPath, StaysWithin, IsUnknown, narrow_bound}

-- the bound of one step less
one_less : (n b : ℕ) → grown_narrowly (suc n) b ≤ narrow_bound → (grown_narrowly n b + narrow_growth ≤ narrow_bound) × (grown_narrowly n b ≤ narrow_bound)
one_less n b within = (omega (arith, within), omega (arith, within))

one_more : (n b : ℕ) → grown_narrowly n b + narrow_growth ≡ grown_narrowly (suc n) b
one_more n b = omega arith

still_enough : (n b : ℕ) → text_bound ≤ b → text_bound ≤ grown_narrowly n b
still_enough n b enough = omega (arith, enough)

module _ {S : Type 0} (p : PureParts) (m : Actions) (stands : S → List PureValue → Heap → Type 0) (terms : S → StateTerms)
    (asked : List ℕ → List PureTerm → List PureTerm × List PureTerm) where
  stays_narrow : (start path : PurePath S) (earlier : List (PurePath S)) (b : ℕ) → IsTrail p m stands terms asked start earlier path → EachStep (LeadsNarrowly p terms) earlier path → Each (IsAtNarrow p) earlier
      → text_bound ≤ b → grown_narrowly (length earlier) b ≤ narrow_bound → IsNarrowPath terms b start → IsNarrowPath terms (grown_narrowly (length earlier) b) path
  stays_narrow start path [] b trail steps narrow enough within is =
      let same : b ≡ grown_narrowly 0 b = omega arith in
      subst (λ n. IsNarrowPath terms n path) same (subst (IsNarrowPath terms b) (sym trail) is)
  stays_narrow start path (before ∷ earlier) b trail steps narrow enough within is =
      let (next, so_far) = one_less (length earlier) b within in
      subst (λ n. IsNarrowPath terms n path) (one_more (length earlier) b)
      (steps.0 (grown_narrowly (length earlier) b) narrow.0 (still_enough (length earlier) b enough) next (stays_narrow start before earlier b trail.1 steps.1 narrow.1 enough so_far is)).0

  is_known : (start path : PurePath S) (earlier : List (PurePath S)) (b : ℕ) → IsTrail p m stands terms asked start earlier path → EachStep (LeadsNarrowly p terms) earlier path → Each (IsAtNarrow p) earlier
      → text_bound ≤ b → grown_narrowly (length earlier) b ≤ narrow_bound → IsNarrowPath terms b start → ¬ IsUnknown start.ending → ¬ IsUnknown path.ending
  is_known start path [] b trail steps narrow enough within is clear = λ unknown. clear (subst (λ (q : PurePath S). IsUnknown q.ending) trail unknown)
  is_known start path (before ∷ earlier) b trail steps narrow enough within is clear =
      let (next, so_far) = one_less (length earlier) b within in
      (steps.0 (grown_narrowly (length earlier) b) narrow.0 (still_enough (length earlier) b enough) next (stays_narrow start before earlier b trail.1 steps.1 narrow.1 enough so_far is)).1

  pub trails_stay_narrow : TrailsStayNarrow p m stands terms asked
  trails_stay_narrow = record { narrow_path = stays_narrow; known = is_known }

-- ---- what exploration keeps

module _ {S : Type 0} (p : PureParts) (m : Actions) (stands : S → List PureValue → Heap → Type 0) (terms : S → StateTerms)
    (asked : List ℕ → List PureTerm → List PureTerm × List PureTerm) (depends : S → List ℕ → List PureTerm → List PureValue → Heap → PureTerm → Type 0) (plain : S → ℤ → ℤ → Type 0) (keeps_plain : Type 0) (bound : ℕ) where
  abbrev Comes : PurePath S → PurePath S → Type 0
  Comes = IsNarrowFrom p m stands terms asked depends plain keeps_plain bound

  abbrev Ended : PurePath S → PurePath S → Type 0
  Ended = IsNarrowEndedFrom p m stands terms asked depends plain keeps_plain bound

  abbrev Keep : List (PurePath S) → List (PurePath S) → List (PurePath S) → Type 0
  Keep = KeepNarrowTrails p m stands terms asked depends plain keeps_plain bound

  pub narrow_cut : (start path : PurePath S) → path.ending ≡ None → bound ≤ path.steps → Comes start path → Ended start (cut_off path)
  narrow_cut start path still past comes = let within : path.steps ≤ bound = comes.from.within in inr (path, (comes, still, omega (arith, within, past), refl))

  nexts_come : (path : PurePath S) (nexts : List (PurePath S)) → path.steps < bound → Each (IsNextPath p m stands terms asked path) nexts → (keeps_plain → StaysWithin p (λ c. IsTrue (is_simple_command c)) (IsPlainPath plain) path nexts)
      → Each (NeedsWhatMatters p stands depends path) nexts → StaysNarrow p terms path nexts → (start : PurePath S) → Comes start path → Each (Comes start) nexts
  nexts_come path [] below each stays needs narrow start comes = tt
  nexts_come path (next ∷ nexts) below each stays needs narrow start comes = (
    record {
      from = record {
        earlier = path ∷ comes.from.earlier;
        trail = (each.0, comes.from.trail);
        within = let more : next.steps ≡ path.steps + 1 = each.0.growth.steps in omega (arith, more, below);
        simple = λ keeps. ((λ b (c, (at, simple)) small is. (stays keeps c b at simple small is).0), comes.from.simple keeps);
        forms = (needs.0, comes.from.forms);
      };
      narrow = ((λ b (c, (at, form)) enough small is. (narrow c b at form enough small is).0), comes.narrow);
    },
    nexts_come path nexts below each.1 (λ keeps c b at simple small is. (stays keeps c b at simple small is).1) needs.1 (λ c b at form enough small is. (narrow c b at form enough small is).1) start comes,
  )

  module _ (old all rest : List (PurePath S)) (path : PurePath S) (is : all ≡ rest ++ path ∷ []) where
    pub narrow_handed : (ended : PurePath S) → ((start : PurePath S) → Comes start path → Ended start ended) → Keep old [] all → Keep old (ended ∷ []) rest
    narrow_handed ended become trails start from =
        let (before, last) = rest_keeps (Comes start) all rest path is (trails start from).1 in
        ((become start last, tt), before)

    -- a step of the path
    pub narrow_stepped : (nexts left : List (PurePath S)) → left ≡ rest ++ nexts → path.ending ≡ None → path.steps < bound → path.steps < 10000
        → AreNextPaths p m stands terms (IsOwnAt stands terms asked m p path) (IsAskedByMemoryAt stands terms asked m p path) path nexts
        → (keeps_plain → StaysWithin p (λ c. IsTrue (is_simple_command c)) (IsPlainPath plain) path nexts) → Each (NeedsWhatMatters p stands depends path) nexts → StaysNarrow p terms path nexts → Each (MayGoOn p terms) all → Keep old [] all → Keep old [] left
    narrow_stepped nexts left same going below early laws stays needs narrow may trails =
        let (command, at) = at_a_command p path.stack (placed_last p m stands terms asked depends plain keeps_plain bound old all rest path is may going early).placed in
        let each = are_next p m stands terms asked path nexts going command at laws in
        subst (Keep old []) (sym same)
        (λ start from. (tt, each_replaced (Comes start) all rest nexts path is (nexts_come path nexts below each stays needs narrow start) (trails start from).1))
