-- Fixing a missed key: what a larger heap may have on which the action is done. Bi-abduction is that of Calcagno, Distefano, O'Hearn,
-- Yang, POPL 2009; fixes of a memory are those of Gillian, Part II (CAV 2021).
use Rattle.std.specs.Prelude.{◌≡◌, ℕ, ℤ, List, [], ◌∷◌, ◌++◌, length, Option, Some, IsTrue, ⊤, codes}
use Rattle.std.specs.Str.{bytes_eq}
use Rattle.gil_values.specs.Pure.{PureValue}
use Rattle.mem_model.specs.declared.cores.Core.{Core}
use Rattle.mem_model.specs.declared.keys.Key.{Key}
use Rattle.mem_model.specs.declared.keys.MemoryName.{MemoryName}
use Rattle.mem_model.specs.Actions.{Actions, MayAct, IsDone}
use Rattle.mem_model.specs.CoreNames.{ins_of, outs_of}
use Rattle.mem_model.specs.Cores.{core_entry}
use Rattle.mem_model.specs.Heaps.{Heap, Holds, HasKey, IsHeapOf, IsPartOf}
use Rattle.mem_model.specs.Pure.{miss}
use Rattle.pure_terms.specs.declared.variables.Sort.{Sort}
use Rattle.pure_terms.specs.Kinds.{has_sort}
use Rattle.pure_terms.specs.Meaning.{values}
use Rattle.pure_terms.specs.Pure.{PureTerm, from_list}
use Rattle.sym_model.specs.Cores.{IsCoreOf, IsSubOf}
use Rattle.sym_model.specs.Lists.{Each, OneOf, IsAmong}
use Rattle.sym_model.specs.Meaning.{key_value}
use Rattle.sym_model.specs.Plain.{IsNarrowKey, IsNarrowWithin}
use Rattle.sym_model.specs.Pure.{PureKey, PureFix, sub_terms}

-- one value of each sort
abbrev pub HaveSorts : List Sort → List PureValue → Type 0
HaveSorts [] [] = ⊤
HaveSorts (s ∷ ss) (w ∷ ws) = IsTrue (has_sort s w) × HaveSorts ss ws
HaveSorts _ _ = ⊥

-- With some outs of its sorts the fix stands for a key and a value that the larger heap holds, and the heap lacks the key.
pub record IsFixFor (v : List PureValue) (h larger : Heap) (f : PureFix) : Type 0 where
  pub ws : List PureValue
  pub have : values v (from_list f.ins) ≡ Some ws
  pub us : List PureValue
  pub of_sorts : HaveSorts f.outs us
  pub k : Key
  pub w : PureValue
  pub entry : core_entry f.core (ws ++ us) ≡ Some (k, w)
  pub holds : Holds larger k w
  pub lacks : ¬ HasKey h k

-- An action misses the key on the heap, and is done on a larger one.
pub record MissesAndIsDone (memory : MemoryName) (m : Actions) (h larger : Heap) (k : Key) : Type 0 where
  pub action : List ℕ
  pub fresh : Option ℕ
  pub args : List PureValue
  pub is_heap : IsHeapOf memory h
  pub larger_is_heap : IsHeapOf memory larger
  pub part : IsPartOf h larger
  pub may : MayAct m action fresh args larger
  pub misses : (m.act action fresh args h).outcome ≡ miss k
  pub is_done : IsDone (m.act action fresh args larger).outcome

-- the fix is of a core predicate of the memory with its numbers, and its ins are terms of the key, of which the first is the location
pub record IsFixOf (memory : MemoryName) (key : PureKey) (f : PureFix) : Type 0 where
  pub core : Core
  pub of_memory : IsCoreOf memory f.core core
  pub ins : length f.ins ≡ ins_of core
  pub outs : length f.outs ≡ outs_of core
  pub among : Each (λ t. IsAmong t (key.loc ∷ sub_terms key.sub)) f.ins
  pub later_ins : List PureTerm
  pub loc_first : f.ins ≡ key.loc ∷ later_ins

-- The laws of fixes of a key: where an action misses it and is done on a larger heap, one of them stands for what the larger heap has
-- and the heap lacks. Those of a key of the memory are of its core predicates.
pub record FixLaw (memory : MemoryName) (m : Actions) (key : PureKey) (fs : List PureFix) : Type 0 where
  pub cover : (v : List PureValue) (k : Key) (h larger : Heap) → key_value v key.loc key.sub ≡ Some k
      → MissesAndIsDone memory m h larger k → OneOf (IsFixFor v h larger) fs
  pub uses : IsSubOf memory key.sub → Each (IsFixOf memory key) fs

-- Narrow: a key of a narrow name has fixes of `prop` alone, with narrow ins and an out of sort any.
abbrev pub FixesNarrowly : PureKey → List PureFix → Type 0
FixesNarrowly key fs =
    (low high : ℤ) → IsNarrowKey low high key.loc key.sub
    → Each (λ f. IsTrue (bytes_eq f.core (codes "prop")) × Each (IsNarrowWithin low high) f.ins × (f.outs ≡ Sort.Any ∷ [])) fs
