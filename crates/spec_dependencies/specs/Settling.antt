-- When the standing of specifications is settled: no sound one uses one that isn't, and what another depends on leads to a cause.
use Rattle.std.specs.Prelude.{◌≡◌, ℕ, List, [], ◌∷◌, length, set, Bool, true, false, not, ◌&&◌, if◌then◌else◌, Option, Some, None, IsTrue, slice_get, ⊤}
use Rattle.std.specs.List.{list_any}
use Rattle.std.specs.Str.{bytes_eq}
use Rattle.gil_syntax.specs.Valid.{is_among}
use Rattle.spec_dependencies.specs.declared.entries.Entry.{Entry}
use Rattle.spec_dependencies.specs.declared.entries.Standing.{Standing}

abbrev pub is_sound : Standing → Bool
is_sound Standing.Sound = true
is_sound _ = false

-- some specification of this name isn't sound
abbrev pub is_unsound : List Entry → List ℕ → Bool
is_unsound es x = list_any (λ e. bytes_eq e.name x && not (is_sound e.standing)) es

abbrev pub first_unsound : List Entry → List (List ℕ) → Option (List ℕ)
first_unsound es [] = None
first_unsound es (x ∷ xs) = if is_unsound es x then Some x else first_unsound es xs

abbrev pub unsound_use : List Entry → Entry → Option (List ℕ)
unsound_use es e = if is_sound e.standing then first_unsound es e.uses else None

-- the entry stands somewhere in the list
abbrev pub IsIn : List Entry → Entry → Type 0
IsIn es e = (k : ℕ) × (slice_get es k ≡ Some e)

-- ---- what comes in

-- whether no specification depends on another yet
abbrev pub is_new : Standing → Bool
is_new (Standing.Depends g) = false
is_new _ = true

abbrev pub AreNew : List Entry → Type 0
AreNew es = (e : Entry) → IsIn es e → IsTrue (is_new e.standing)

-- ---- what goes out

-- a sound specification stays so, or depends on one that it uses; others stand as they stood
abbrev pub StandsAfter : Standing → List (List ℕ) → Standing → Type 0
StandsAfter Standing.Sound uses Standing.Sound = ⊤
StandsAfter Standing.Sound uses (Standing.Depends g) = IsTrue (is_among uses g)
StandsAfter Standing.Sound uses Standing.Caused = ⊥
StandsAfter Standing.Caused uses s = s ≡ Standing.Caused
StandsAfter (Standing.Depends g) uses s = s ≡ Standing.Depends g

pub record IsAfter (before after : Entry) : Type 0 where
  pub same_name : after.name ≡ before.name
  pub same_uses : after.uses ≡ before.uses
  pub stands : StandsAfter before.standing before.uses after.standing

-- place by place
pub record AreAfter (before after : List Entry) : Type 0 where
  pub as_many : length after ≡ length before
  pub each_after : (k : ℕ) (d e : Entry) → slice_get before k ≡ Some d → slice_get after k ≡ Some e → IsAfter d e

-- no sound specification uses one that isn't
abbrev pub IsClosed : List Entry → Type 0
IsClosed es =
    (e f : Entry) → IsIn es e → IsTrue (is_sound e.standing) → IsIn es f → IsTrue (is_among e.uses f.name) → IsTrue (is_sound f.standing)

-- from this name on, what one depends on leads to one with a cause of its own
pub data EndsAtCause (es : List Entry) : List ℕ → Type 0 where
  at_cause : {g : List ℕ} (e : Entry) → IsIn es e → e.name ≡ g → e.standing ≡ Standing.Caused → EndsAtCause es g
  further : {g : List ℕ} (e : Entry) (h : List ℕ) → IsIn es e → e.name ≡ g → e.standing ≡ Standing.Depends h → EndsAtCause es h
      → EndsAtCause es g

abbrev pub EndAtCauses : List Entry → Type 0
EndAtCauses es = (e : Entry) (g : List ℕ) → IsIn es e → e.standing ≡ Standing.Depends g → EndsAtCause es g

pub record IsSettling (before after : List Entry) : Type 0 where
  pub after_each : AreAfter before after
  pub closed : IsClosed after
  pub ends : EndAtCauses after

-- the entry at a place uses a name of which one isn't sound, and is marked so, or doesn't, and nothing changes
pub record Marks (place : ℕ) (before after : List Entry) : Type 0 where
  pub entry : Entry
  pub stood : slice_get before place ≡ Some entry
  pub name : List ℕ
  pub uses_it : unsound_use before entry ≡ Some name
  pub is_after : after ≡ set before place (record entry { standing = Standing.Depends name })

pub record IsLeft (place : ℕ) (before after : List Entry) : Type 0 where
  pub uses_none : (e : Entry) → slice_get before place ≡ Some e → unsound_use before e ≡ None
  pub as_before : after ≡ before

abbrev pub IsMarking : ℕ → Bool → List Entry → List Entry → Type 0
IsMarking place true before after = Marks place before after
IsMarking place false before after = IsLeft place before after

-- a round over the list, after which nothing is marked or some are
pub record IsRound (marked : Bool) (before after : List Entry) : Type 0 where
  pub after_each : AreAfter before after
  pub keeps_ends : EndAtCauses before → EndAtCauses after
  pub closed : marked ≡ false → IsClosed after
