-- What the actions of blocks ask about, and where what they come to depends on the literal form of a term.
use Rattle.std.specs.Prelude.{◌≡◌, ◌⊎◌, ℕ, pos, List, [], ◌∷◌, Bool, ◌&&◌, if◌then◌else◌, Option, Some, None}
use Rattle.gil_values.specs.declared.kinds.Kind.{Kind}
use Rattle.gil_values.specs.Pure.{PureValue, kind_of}
use Rattle.mem_model.specs.Heaps.{Heap}
use Rattle.block_heap.specs.declared.actions.BlockAction.{BlockAction}
use Rattle.block_heap.specs.Table.{address}
use Rattle.pure_terms.specs.Kinds.{allows, known_kind}
use Rattle.pure_terms.specs.Meaning.{value}
use Rattle.pure_terms.specs.Pure.{PureTerm, list_of, PureTerms, to_list}
use Rattle.sym_model.specs.Cores.{zero_term}
use Rattle.sym_model.specs.Lists.{OneOf}
use Rattle.sym_model.specs.Meaning.{location_of}
use Rattle.sym_model.specs.Pure.{bound, PureChunk}

-- the kinds of a location and an offset, where they are known
abbrev pub may_be_address : PureTerm → PureTerm → Bool
may_be_address l i = allows (known_kind l) Kind.Sym && allows (known_kind i) Kind.Int

-- Of an address it is asked, and 0 where it is a list term; nothing where a known kind or the number of its elements makes the
-- action fail.
abbrev pub asked_parts : PureTerms → List PureTerm → List PureTerm
asked_parts ts (l ∷ i ∷ []) = if may_be_address l i then list_of ts ∷ zero_term ∷ [] else []
asked_parts ts _ = []

abbrev pub asked_of_address : PureTerm → List PureTerm
asked_of_address (list_of ts) = asked_parts ts (to_list ts)
asked_of_address a = if allows (known_kind a) Kind.List then a ∷ [] else []

-- the value that `store` stores isn't asked about
abbrev pub asked_by : Option BlockAction → List PureTerm → List PureTerm
asked_by (Some BlockAction.Alloc) (n ∷ []) = if allows (known_kind n) Kind.Int then n ∷ [] else []
asked_by (Some BlockAction.Load) (a ∷ []) = asked_of_address a
asked_by (Some BlockAction.Store) (a ∷ t ∷ []) = asked_of_address a
asked_by (Some BlockAction.Free) (a ∷ []) = asked_of_address a
asked_by op args = []

-- those whose literal form may be needed: a size, and an address that is no list term
abbrev pub formed_of_address : PureTerm → List PureTerm
formed_of_address (list_of ts) = []
formed_of_address a = asked_of_address a

abbrev pub formed_by : Option BlockAction → List PureTerm → List PureTerm
formed_by (Some BlockAction.Alloc) args = asked_by (Some BlockAction.Alloc) args
formed_by (Some BlockAction.Load) (a ∷ []) = formed_of_address a
formed_by (Some BlockAction.Store) (a ∷ t ∷ []) = formed_of_address a
formed_by (Some BlockAction.Free) (a ∷ []) = formed_of_address a
formed_by op args = []

-- ---- literal forms

-- the term is what is given, and its value is of the kind
pub record IsGivenOf (k : Kind) (v : List PureValue) (d t : PureTerm) : Type 0 where
  pub given : d ≡ t
  pub value_of : PureValue
  pub is : value v t ≡ Some value_of
  pub of_kind : kind_of value_of ≡ k

-- the address is that of the first cell of a block whose bound the term is
pub record IsBoundOf (v : List PureValue) (cs : List PureChunk) (a t : PureTerm) : Type 0 where
  pub l : ℕ
  pub at : value v a ≡ Some (address l (pos 0))
  pub bounds : OneOf (λ c. (c.sub ≡ bound) × (location_of (value v c.loc) ≡ Some l) × (c.val ≡ t)) cs

-- what the action comes to depends on the literal form of the term
abbrev pub DependsOn : Option BlockAction → List PureChunk → List PureTerm → List PureValue → Heap → PureTerm → Type 0
DependsOn (Some BlockAction.Alloc) cs (n ∷ []) v h t = IsGivenOf Kind.Int v n t
DependsOn (Some BlockAction.Load) cs (a ∷ []) v h t = IsGivenOf Kind.List v a t
DependsOn (Some BlockAction.Store) cs (a ∷ w ∷ []) v h t = IsGivenOf Kind.List v a t
DependsOn (Some BlockAction.Free) cs (a ∷ []) v h t = IsGivenOf Kind.List v a t ⊎ IsBoundOf v cs a t
DependsOn op cs args v h t = ⊥
