-- A condition on each chunk of a location, asked once for each term that chunks have as their location.
use Rattle.std.specs.Prelude.{List, [], ◌∷◌, ◌++◌, if◌then◌else◌}
use Rattle.std.specs.List.{list_any}
use Rattle.pure_terms.specs.Equality.{same_term}
use Rattle.pure_terms.specs.Pure.{PureTerm}
use Rattle.sym_model.specs.Alternatives.{Alternatives, always, both, any, all, is_empty, same, other}
use Rattle.sym_model.specs.Pure.{PureChunk}

-- another location than l, or l and x; nothing is asked where x is sure
abbrev pub elsewhere_or : PureTerm → PureTerm → Alternatives → Alternatives
elsewhere_or l m x = if list_any is_empty x then always else other l m ++ both (same l m) x

-- the terms that are locations of chunks, each once
abbrev pub places_from : List PureTerm → List PureChunk → List PureTerm
places_from seen [] = seen
places_from seen (c ∷ cs) = places_from (if list_any (same_term c.loc) seen then seen else seen ++ c.loc ∷ []) cs

abbrev pub places_of : List PureChunk → List PureTerm
places_of cs = places_from [] cs

-- besides, f of each chunk whose location is this very term
abbrev pub all_at : Alternatives → (PureChunk → Alternatives) → PureTerm → List PureChunk → Alternatives
all_at x f m [] = x
all_at x f m (c ∷ cs) = all_at (if same_term c.loc m then both x (f c) else x) f m cs

abbrev pub all_there : PureTerm → (PureChunk → Alternatives) → List PureChunk → PureTerm → Alternatives
all_there l f cs m = elsewhere_or l m (all_at always f m cs)

-- each chunk is at another location than l, or f of it holds
abbrev pub all_by_place : PureTerm → (PureChunk → Alternatives) → List PureChunk → Alternatives
all_by_place l f cs = all (all_there l f cs) (places_of cs)

-- some chunk is at l, and f of it holds
abbrev pub any_at : PureTerm → (PureChunk → Alternatives) → List PureChunk → Alternatives
any_at l f cs = any (λ c. both (same l c.loc) (f c)) cs
