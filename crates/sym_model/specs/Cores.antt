-- The uses of core predicates in terms: what they ask about, and where what comes of them depends on a literal form.
use Rattle.std.specs.Prelude.{◌≡◌, ℕ, ℤ, pos, List, [], ◌∷◌, ◌++◌, length, Option, Some, None, IsTrue, ⊤}
use Rattle.gil_values.specs.declared.kinds.Kind.{Kind}
use Rattle.gil_values.specs.Pure.{PureValue, kind_of}
use Rattle.mem_model.specs.declared.cores.Core.{Core}
use Rattle.mem_model.specs.declared.keys.Key.{Key}
use Rattle.mem_model.specs.declared.keys.MemoryName.{MemoryName}
use Rattle.mem_model.specs.CoreNames.{core_of, ins_of, outs_of, has_core}
use Rattle.mem_model.specs.Heaps.{Heap, HasKey}
use Rattle.pure_terms.specs.declared.literals.Literal.{Literal}
use Rattle.pure_terms.specs.Meaning.{value}
use Rattle.pure_terms.specs.Pure.{PureTerm, literal}
use Rattle.sym_model.specs.Lists.{OneOf, IsAmong}
use Rattle.sym_model.specs.Meaning.{location_of, key_value}
use Rattle.sym_model.specs.Pure.{PureSub, named, cell, shape, bound, dom, proto, gone, PureResult, done, failed, missed}
use Rattle.sym_model.specs.Terms.{StateTerms, nothing_asked}

-- the name is that of a core predicate of the memory
pub record IsCoreOf (memory : MemoryName) (name : List ℕ) (core : Core) : Type 0 where
  pub named : core_of name ≡ Some core
  pub has : IsTrue (has_core memory core)

-- with as many ins as it has
pub record TakesIns (memory : MemoryName) (name : List ℕ) (ins : List PureTerm) : Type 0 where
  pub core : Core
  pub of_memory : IsCoreOf memory name core
  pub ins_number : length ins ≡ ins_of core

-- and with as many outs
pub record TakesBoth (memory : MemoryName) (name : List ℕ) (ins outs : List PureTerm) : Type 0 where
  pub core : Core
  pub of_memory : IsCoreOf memory name core
  pub ins_number : length ins ≡ ins_of core
  pub outs_number : length outs ≡ outs_of core

-- the core predicate whose key has a subkey of this form
abbrev pub core_of_sub : PureSub → Core
core_of_sub (named p) = Core.Prop
core_of_sub (cell i) = Core.Cell
core_of_sub shape = Core.Shape
core_of_sub bound = Core.Bound
core_of_sub dom = Core.Dom
core_of_sub proto = Core.Proto
core_of_sub gone = Core.Gone

-- the memory has keys with subkeys of this form
abbrev pub IsSubOf : MemoryName → PureSub → Type 0
IsSubOf memory s = IsTrue (has_core memory (core_of_sub s))

-- what is missed, if a key is, is of the memory
abbrev pub MissesItsOwn : MemoryName → PureResult → Type 0
MissesItsOwn memory (done t) = ⊤
MissesItsOwn memory (failed t) = ⊤
MissesItsOwn memory (missed k) = IsSubOf memory k.sub

-- ---- what is asked about

abbrev pub zero_term : PureTerm
zero_term = literal (Literal.Int (pos 0))

-- Production asks about the ins. Besides it asks about the out of `shape` and `dom`, whose literal form it may need, and about that
-- of `bound`, which it compares with offsets; an offset is compared with 0. It doesn't ask about what is to be held elsewhere.
abbrev pub asked_of_core : Option Core → List PureTerm → List PureTerm → List PureTerm × List PureTerm
asked_of_core (Some Core.Prop) ins outs = (ins, [])
asked_of_core (Some Core.Cell) ins outs = (ins ++ zero_term ∷ [], [])
asked_of_core (Some Core.Shape) ins outs = (ins ++ outs, outs)
asked_of_core (Some Core.Bound) ins outs = (ins ++ (outs ++ zero_term ∷ []), [])
asked_of_core (Some Core.Dom) ins outs = (ins ++ outs, outs)
asked_of_core (Some Core.Proto) ins outs = (ins, [])
asked_of_core (Some Core.Gone) ins outs = (ins, [])
asked_of_core None ins outs = nothing_asked

abbrev pub produce_asks : List ℕ → List PureTerm → List PureTerm → List PureTerm × List PureTerm
produce_asks name ins outs = asked_of_core (core_of name) ins outs

-- consumption asks about the ins alone, and needs no literal form
abbrev pub consume_asks : List PureTerm → List PureTerm × List PureTerm
consume_asks ins = (ins, [])

-- ---- literal forms

-- a descriptor of the location holds the term
abbrev pub IsDescribedAt : List PureValue → StateTerms → ℕ → PureTerm → Type 0
IsDescribedAt v s l t = IsAmong t s.described × OneOf (λ p. (location_of (value v p.loc) ≡ Some l) × IsAmong t p.terms) s.located

-- a name is produced that the heap lacks, and a descriptor of its location holds the term
pub record NamesBeside (v : List PureValue) (s : StateTerms) (h : Heap) (l p t : PureTerm) : Type 0 where
  pub k : Key
  pub at : key_value v l (named p) ≡ Some k
  pub lacks : ¬ HasKey h k
  pub described : IsDescribedAt v s k.loc t

-- the term is the list of names that is produced, and its value is a list
pub record IsListProduced (v : List PureValue) (d t : PureTerm) : Type 0 where
  pub given : d ≡ t
  pub value_of : PureValue
  pub is : value v t ≡ Some value_of
  pub is_list : kind_of value_of ≡ Kind.List

-- what production comes to depends on the literal form of a term
abbrev pub DependsOnForm : Option Core → List PureTerm → List PureTerm → StateTerms → List PureValue → Heap → PureTerm → Type 0
DependsOnForm (Some Core.Prop) (l ∷ p ∷ []) outs s v h t = NamesBeside v s h l p t
DependsOnForm (Some Core.Shape) ins (d ∷ []) s v h t = IsListProduced v d t
DependsOnForm (Some Core.Dom) ins (d ∷ []) s v h t = IsListProduced v d t
DependsOnForm core ins outs s v h t = ⊥

abbrev pub produce_depends : List ℕ → List PureTerm → List PureTerm → StateTerms → List PureValue → Heap → PureTerm → Type 0
produce_depends name ins outs s v h t = DependsOnForm (core_of name) ins outs s v h t
