-- Taking the keys of a location one after another, until it is gone.
use Rattle.std.specs.Prelude.{ℕ, ◌+◌, List, [], ◌∷◌, ◌++◌, if◌then◌else◌, Option, Some, None}
use Rattle.std.specs.List.{flat_map, list_any, remove}
use Rattle.pure_terms.specs.Pure.{PureTerm}
use Rattle.sym_chunks.specs.ByPlace.{all_by_place}
use Rattle.sym_chunks.specs.Cases.{PureCase, case_of, true_term}
use Rattle.sym_chunks.specs.Keys.{other_sub, at_key}
use Rattle.sym_model.specs.Alternatives.{Alternatives, both, is_empty}
use Rattle.sym_model.specs.Pure.{PureSub, gone, PureChunk, done, missed}

-- a way in which keys were taken out of the chunks: when it is so, and the chunks that are left
pub record PureWay : Type 0 where
  pub when : Alternatives
  pub left : List PureChunk

abbrev pub way_of : Alternatives → List PureChunk → List PureWay
way_of [] left = []
way_of (conds ∷ x) left = record { when = conds ∷ x; left = left } ∷ []

-- the place of the first chunk that surely is that of the subkey s of l
abbrev pub sure_place : PureTerm → PureSub → ℕ → List PureChunk → Option ℕ
sure_place l s i [] = None
sure_place l s i (c ∷ cs) = if list_any is_empty (at_key l s c) then Some i else sure_place l s (i + 1) cs

-- the chunk at each place, if it is that of the subkey
abbrev pub ways_from : PureTerm → PureSub → PureWay → ℕ → List PureChunk → List PureWay
ways_from l s w i [] = []
ways_from l s w i (c ∷ rest) = way_of (both w.when (at_key l s c)) (remove w.left i) ++ ways_from l s w (i + 1) rest

abbrev pub ways_by : PureTerm → PureSub → PureWay → Option ℕ → List PureWay
ways_by l s w (Some i) = way_of w.when (remove w.left i)
ways_by l s w None = ways_from l s w 0 w.left

-- the ways after one more key: a chunk that surely is its own is the only one
abbrev pub next_ways : PureTerm → PureSub → PureWay → List PureWay
next_ways l s w = ways_by l s w (sure_place l s 0 w.left)

-- no chunk that is left is that of the subkey
abbrev pub missing_key : List PureChunk → PureTerm → PureSub → PureWay → List PureCase
missing_key cs l s w =
    case_of (both w.when (all_by_place l (λ c. other_sub s c.sub) w.left)) cs (missed (record { loc = l; sub = s }))

-- all keys were taken, and the location is gone then
abbrev pub all_taken : PureTerm → PureWay → List PureCase
all_taken l w = case_of w.when (w.left ++ record { loc = l; sub = gone; val = true_term } ∷ []) (done true_term)

-- the subkeys one after another: one that is missing is missed
abbrev pub walk : List PureChunk → PureTerm → List PureSub → List PureWay → List PureCase
walk cs l [] ws = flat_map (all_taken l) ws
walk cs l (s ∷ ss) ws = flat_map (missing_key cs l s) ws ++ walk cs l ss (flat_map (next_ways l s) ws)
