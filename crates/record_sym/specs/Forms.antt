-- Where what an action of records comes to depends on a list of names that a term gives.
use Rattle.std.specs.Prelude.{◌≡◌, ℕ, List, [], ◌∷◌, Option, Some}
use Rattle.gil_values.specs.declared.kinds.Kind.{Kind}
use Rattle.gil_values.specs.Pure.{PureValue, kind_of}
use Rattle.mem_model.specs.declared.keys.Key.{Key}
use Rattle.mem_model.specs.Heaps.{Heap, HasKey}
use Rattle.pure_terms.specs.Meaning.{value}
use Rattle.pure_terms.specs.Pure.{PureTerm}
use Rattle.record_heap.specs.declared.actions.RecordAction.{RecordAction}
use Rattle.sym_model.specs.Lists.{OneOf}
use Rattle.sym_model.specs.Meaning.{location_of, key_value}
use Rattle.sym_model.specs.Pure.{named, shape, PureChunk}

-- a chunk lists the names of the location by this term
abbrev pub ListNames : List PureValue → List PureChunk → ℕ → PureTerm → Type 0
ListNames v cs l t = OneOf (λ c. (c.sub ≡ shape) × (location_of (value v c.loc) ≡ Some l) × (c.val ≡ t)) cs

-- `new` is given the term, whose value is a list
pub record MakesFrom (v : List PureValue) (d t : PureTerm) : Type 0 where
  pub given : d ≡ t
  pub value_of : PureValue
  pub is : value v t ≡ Some value_of
  pub is_list : kind_of value_of ≡ Kind.List

-- `lookup` and `mutate`: the heap lacks the name p of l, and a chunk lists the names of l by the term
pub record LooksAmong (v : List PureValue) (cs : List PureChunk) (h : Heap) (l p t : PureTerm) : Type 0 where
  pub k : Key
  pub at : key_value v l (named p) ≡ Some k
  pub lacks : ¬ HasKey h k
  pub names : ListNames v cs k.loc t

-- `dispose`: a chunk lists the names of l by the term
pub record DisposesOf (v : List PureValue) (cs : List PureChunk) (l t : PureTerm) : Type 0 where
  pub n : ℕ
  pub at : location_of (value v l) ≡ Some n
  pub names : ListNames v cs n t

-- what the action comes to depends on the names that the term gives
abbrev pub DependsOn : Option RecordAction → List PureChunk → List PureTerm → List PureValue → Heap → PureTerm → Type 0
DependsOn (Some RecordAction.New) cs (d ∷ []) v h t = MakesFrom v d t
DependsOn (Some RecordAction.Lookup) cs (l ∷ p ∷ []) v h t = LooksAmong v cs h l p t
DependsOn (Some RecordAction.Mutate) cs (l ∷ p ∷ w ∷ []) v h t = LooksAmong v cs h l p t
DependsOn (Some RecordAction.Dispose) cs (l ∷ []) v h t = DisposesOf v cs l t
DependsOn op cs args v h t = ⊥
