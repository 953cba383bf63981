-- The names that an invariant lists, and the terms of the other ones.
use Rattle.std.specs.Prelude.{◌≡◌, ℕ, List, Bool, is_some, if◌then◌else◌, None, Some}
use Rattle.std.specs.List.{list_all}
use Rattle.std.specs.Str.{bytes_eq}
use Rattle.gil_syntax.specs.Valid.{is_among}
use Rattle.sym_evaluation.specs.Pure.{PureBinding, PureStore, term_at}

-- each of the names has a term
abbrev pub have_terms : List (List ℕ) → PureStore → Bool
have_terms xs bs = list_all (λ x. is_some (term_at bs x)) xs

-- each name that isn't among these has its term, and those have none
abbrev pub AreUnlisted : List (List ℕ) → PureStore → PureStore → Type 0
AreUnlisted xs bs cs = (y : List ℕ) → term_at cs y ≡ (if is_among xs y then None else term_at bs y)

-- the name of the binding has its term, unless it is among these; every other one stays as it was
abbrev pub KeepsUnlisted : List (List ℕ) → PureBinding → PureStore → PureStore → Type 0
KeepsUnlisted xs b before after =
    (y : List ℕ) → term_at after y ≡ (if is_among xs b.name then term_at before y else (if bytes_eq b.name y then Some b.term else term_at before y))
