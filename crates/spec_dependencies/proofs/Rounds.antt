-- A round over the list, up to a place.
use Rattle.std.proofs.Common.{◌≡◌, ◌⊎◌, ⊎_elim, arith, ℕ, ◌+◌, ◌<◌, ◌≤◌, List, Bool, true, false, length, slice_get, Some, None, refl, sym, ap, subst, ◌∙◌, true≢false, eq-or-lt_of_le}
use Rattle.std.proofs.lemmas.Option.{slice_get_within}
use Rattle.spec_dependencies.specs.declared.entries.Entry.{Entry}
use Rattle.spec_dependencies.specs.Settling.{is_sound, unsound_use, AreNew, AreAfter, IsClosed, EndAtCauses, Marks, IsLeft, IsRound, IsSettling}
use Rattle.spec_dependencies.proofs.Names.{unsound_name, none_unsound, uses_none}
use Rattle.spec_dependencies.proofs.Steps.{after_itself, after_later, ends_marked, after_marked, new_ends}

-- nothing was marked so far: the list is as it was, and no entry before the place uses an unsound name
pub record IsLeftUntil (place : ℕ) (before now : List Entry) : Type 0 where
  pub as_before : now ≡ before
  pub uses_none : (k : ℕ) (e : Entry) → k < place → slice_get before k ≡ Some e → unsound_use before e ≡ None

pub record IsMarkedUntil (place : ℕ) (marked : Bool) (before now : List Entry) : Type 0 where
  pub after_each : AreAfter before now
  pub keeps_ends : EndAtCauses before → EndAtCauses now
  pub left : marked ≡ false → IsLeftUntil place before now

pub marked_none : (es : List Entry) → IsMarkedUntil 0 false es es
marked_none es = record {
  after_each = after_itself es;
  keeps_ends = λ ends. ends;
  left = λ isnt. record { as_before = refl; uses_none = λ k e below. absurd (omega (arith, below)) };
}

pub marked_more : (place : ℕ) (marked : Bool) (es fs gs : List Entry) → IsMarkedUntil place marked es fs → Marks place fs gs → IsMarkedUntil (place + 1) true es gs
marked_more place marked es fs gs until m = record {
  after_each = after_marked place fs gs m es until.after_each;
  keeps_ends = λ ends. ends_marked place fs gs m (until.keeps_ends ends);
  left = λ isnt. absurd (true≢false isnt);
}

pub left_more : (place : ℕ) (marked : Bool) (es fs gs : List Entry) → IsMarkedUntil place marked es fs → IsLeft place fs gs → IsMarkedUntil (place + 1) marked es gs
left_more place marked es fs gs until l = record {
  after_each = subst (λ (xs : List Entry). AreAfter es xs) (sym l.as_before) until.after_each;
  keeps_ends = λ ends. subst EndAtCauses (sym l.as_before) (until.keeps_ends ends);
  left = λ isnt.
      let was = until.left isnt in
      record {
        as_before = l.as_before ∙ was.as_before;
        uses_none = λ k e below at.
            ⊎_elim
            (λ (here : k ≡ place).
            subst (λ (xs : List Entry). unsound_use xs e ≡ None) was.as_before
            (l.uses_none e (ap (λ (xs : List Entry). slice_get xs place) was.as_before ∙ ap (slice_get es) (sym here) ∙ at)))
            (λ (earlier : k < place). was.uses_none k e earlier at) (last_or_before k place below);
      };
}
  where
    last_or_before : (k n : ℕ) → k < n + 1 → (k ≡ n) ⊎ (k < n)
    last_or_before k n below = eq-or-lt_of_le (omega (arith, below))

closed_by : (es : List Entry) → ((k : ℕ) (e : Entry) → slice_get es k ≡ Some e → unsound_use es e ≡ None) → IsClosed es
closed_by es none e f (k, at) sound (j, there) used = by (is_sound f.standing) refl where
  by : (b : Bool) → is_sound f.standing ≡ b → is_sound f.standing ≡ true
  by true is = is
  by false isnt =
      absurd (true≢false (sym (unsound_name es f j there isnt) ∙ none_unsound es e.uses f.name (uses_none es e (none k e at) sound) used))

pub round_done : (place : ℕ) (marked : Bool) (es fs : List Entry) → length fs ≤ place → IsMarkedUntil place marked es fs → IsRound marked es fs
round_done place marked es fs all until = record {
  after_each = until.after_each;
  keeps_ends = until.keeps_ends;
  closed = λ isnt.
      let left = until.left isnt in
      subst IsClosed (sym left.as_before)
      (closed_by es (λ k e at.
      let below : k < length es = slice_get_within es k e at in
      let same : length fs ≡ length es = ap length left.as_before in
      left.uses_none k e (omega (arith, below, same, all)) at));
}

-- ---- rounds until one marks nothing

pub settling_starts : (es : List Entry) → AreNew es → EndAtCauses es
settling_starts es new = new_ends es new

pub starts_after : (es fs : List Entry) → fs ≡ es → AreAfter es fs
starts_after es fs same = subst (λ (xs : List Entry). AreAfter es xs) (sym same) (after_itself es)

pub settling_goes_on : (marked : Bool) (es fs gs : List Entry) → AreAfter es fs → IsRound marked fs gs → AreAfter es gs
settling_goes_on marked es fs gs before round = after_later es fs gs before round.after_each

pub settling_done : (marked : Bool) (es fs gs : List Entry) → AreAfter es fs → EndAtCauses fs → IsRound marked fs gs → marked ≡ false → IsSettling es gs
settling_done marked es fs gs before ends round none = record {
  after_each = after_later es fs gs before round.after_each;
  closed = round.closed none;
  ends = round.keeps_ends ends;
}
