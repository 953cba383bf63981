-- Reading a property of an object: the object's own, or else that of the nearest of its prototypes that has it.
use Rattle.std.specs.Prelude.{ℕ, zero, suc, List, [], ◌∷◌, None, if◌then◌else◌, codes}
use Rattle.gil_values.specs.declared.kinds.Kind.TheVariants.{Undef, Null}
use Rattle.gil_values.specs.declared.places.Place.{Place}
use Rattle.gil_values.specs.Equality.{same_value}
use Rattle.gil_values.specs.Pure.{PureValue, kind}
use Rattle.mem_model.specs.Actions.{Actions}
use Rattle.source_language.specs.Completions.{Situation, Completion, returns, unfinished, choose, after_action}

-- the name of the procedure that reads properties, which no text can name
abbrev pub get_name : List ℕ
get_name = codes "get$"

-- where a property cannot be read, this is the place of the failure
abbrev pub get_place : Place
get_place = record { proc = get_name; at = 0 }

module _ (m : Actions) where
  -- The property p of the object o, where at most so many objects are asked: its own, or else that of its prototype, and Undef where the
  -- last prototype is Null.
  abbrev pub walk : ℕ → PureValue → PureValue → Situation → Completion
  walk zero o p s = unfinished
  walk (suc n) o p s =
      after_action (m.act (codes "has") None (o ∷ p ∷ []) s.heap) get_place s
      (λ own t. choose own get_place
      (λ u. after_action (m.act (codes "get") None (o ∷ p ∷ []) u.heap) get_place u (λ v r. returns v r))
      (λ u. after_action (m.act (codes "getproto") None (o ∷ []) u.heap) get_place u
      (λ q r. if same_value q (kind Null) then returns (kind Undef) r else walk n q p r)) t)
