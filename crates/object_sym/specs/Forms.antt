-- Where what an action of objects comes to depends on a list of names that a term gives.
use Rattle.std.specs.Prelude.{◌≡◌, ℕ, List, [], ◌∷◌, Option, Some}
use Rattle.gil_values.specs.Pure.{PureValue}
use Rattle.mem_model.specs.declared.keys.Key.{Key}
use Rattle.mem_model.specs.Heaps.{Heap, HasKey}
use Rattle.object_heap.specs.declared.actions.ObjectAction.{ObjectAction}
use Rattle.pure_terms.specs.Meaning.{value}
use Rattle.pure_terms.specs.Pure.{PureTerm}
use Rattle.sym_model.specs.Lists.{OneOf}
use Rattle.sym_model.specs.Meaning.{location_of, key_value}
use Rattle.sym_model.specs.Pure.{named, dom, PureChunk}

-- a chunk has the names of the location as this term
abbrev pub ListNames : List PureValue → List PureChunk → ℕ → PureTerm → Type 0
ListNames v cs l t = OneOf (λ c. (c.sub ≡ dom) × (location_of (value v c.loc) ≡ Some l) × (c.val ≡ t)) cs

-- `get`, `set` and `has`: the heap lacks the name p of l, and a chunk has the names of l as the term
pub record LooksAmong (v : List PureValue) (cs : List PureChunk) (h : Heap) (l p t : PureTerm) : Type 0 where
  pub k : Key
  pub at : key_value v l (named p) ≡ Some k
  pub lacks : ¬ HasKey h k
  pub names : ListNames v cs k.loc t

-- `delete`: a chunk has the names of l as the term
pub record DeletesFrom (v : List PureValue) (cs : List PureChunk) (l t : PureTerm) : Type 0 where
  pub n : ℕ
  pub at : location_of (value v l) ≡ Some n
  pub names : ListNames v cs n t

-- what the action comes to depends on the names that the term gives
abbrev pub DependsOn : Option ObjectAction → List PureChunk → List PureTerm → List PureValue → Heap → PureTerm → Type 0
DependsOn (Some ObjectAction.Get) cs (l ∷ p ∷ []) v h t = LooksAmong v cs h l p t
DependsOn (Some ObjectAction.Set) cs (l ∷ p ∷ w ∷ []) v h t = LooksAmong v cs h l p t
DependsOn (Some ObjectAction.Has) cs (l ∷ p ∷ []) v h t = LooksAmong v cs h l p t
DependsOn (Some ObjectAction.Delete) cs (l ∷ p ∷ []) v h t = DeletesFrom v cs l t
DependsOn op cs args v h t = ⊥
