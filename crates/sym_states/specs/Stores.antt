-- A store of terms to which a binding is added.
use Rattle.std.specs.Prelude.{◌≡◌, ℕ, List, Some, None, if◌then◌else◌}
use Rattle.std.specs.Option.{option_or}
use Rattle.std.specs.Str.{bytes_eq}
use Rattle.sym_evaluation.specs.Pure.{PureBinding, PureStore, term_at}

-- the name has the term of the binding, unless it had one before
abbrev pub AddsBinding : PureBinding → PureStore → PureStore → Type 0
AddsBinding b before after =
    (x : List ℕ) → term_at after x ≡ option_or (term_at before x) (if bytes_eq b.name x then Some b.term else None)
