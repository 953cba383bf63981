-- Fixes for which a beginning may have a use.
use Rattle.std.specs.Prelude.{◌≡◌, ℕ, List, [], ◌∷◌, ◌++◌, length, slice_get, Some, IsTrue}
use Rattle.std.specs.List.{list_all}
use Rattle.fresh_atoms.specs.Laws.{is_any_or_list}
use Rattle.gil_values.specs.declared.places.Place.{Place}
use Rattle.mem_model.specs.declared.cores.Core.{Core}
use Rattle.mem_model.specs.declared.keys.MemoryName.{MemoryName}
use Rattle.mem_model.specs.CoreNames.{ins_of, outs_of}
use Rattle.pure_terms.specs.declared.variables.Sort.{Sort}
use Rattle.pure_terms.specs.declared.variables.Var.{Var}
use Rattle.pure_terms.specs.Meaning.{IsOver}
use Rattle.pure_terms.specs.Pure.{PureTerm, variable, PureAtom, term_of}
use Rattle.sym_model.specs.Cores.{IsCoreOf, IsSubOf}
use Rattle.sym_model.specs.Lists.{Each, IsAmong}
use Rattle.sym_model.specs.Pure.{PureKey, PureFix}
use Rattle.sym_model.specs.Terms.{AreEachOver}
use Rattle.bi_beginnings.specs.Beginnings.{variables_from, PureBeginning}

-- the fix is of a core predicate of the memory, with its numbers of ins and outs
pub record HasCoreNumbers (memory : MemoryName) (f : PureFix) : Type 0 where
  pub core : Core
  pub of_memory : IsCoreOf memory f.core core
  pub ins_number : length f.ins ≡ ins_of core
  pub outs_number : length f.outs ≡ outs_of core

-- besides, its ins name only variables of the table, and its outs have sorts any and list
pub record IsFixOver (memory : MemoryName) (vars : List Sort) (f : PureFix) : Type 0 where
  pub numbers : HasCoreNumbers memory f
  pub ins_over : AreEachOver vars f.ins
  pub sorts : IsTrue (list_all is_any_or_list f.outs)

-- the first in of the fix, which is the location, is a symbol that the run took
abbrev pub IsAtNewSymbol : List Sort → PureFix → Type 0
IsAtNewSymbol vars f =
    (x : Var) × ((later : List PureTerm) × ((f.ins ≡ variable x ∷ later) × (slice_get vars x.number ≡ Some Sort.Fresh)))

-- the key is one of the memory, and its location is a symbol that the run took
pub record IsKeyAtNewSymbol (memory : MemoryName) (vars : List Sort) (key : PureKey) : Type 0 where
  pub of_memory : IsSubOf memory key.sub
  pub location : Var
  pub is_location : key.loc ≡ variable location
  pub taken : slice_get vars location.number ≡ Some Sort.Fresh

-- ---- beginnings that fix a key

-- the beginning with a use more, which has new variables for the outs
abbrev pub with_fix : PureBeginning → PureFix → PureBeginning
with_fix b f = record b {
  vars = b.vars ++ f.outs;
  uses = b.uses ++ record { core = f.core; ins = f.ins; outs = variables_from (length b.vars) f.outs } ∷ [];
}

-- a condition that is carried is one of these, and names only variables of the table
abbrev pub IsCarried : List Sort → List PureAtom → PureAtom → Type 0
IsCarried vars conds a = IsOver vars (term_of a) × IsAmong a conds

-- the beginning has the same table and uses, and carries some of these conditions
pub record Carries (b : PureBeginning) (conds : List PureAtom) (c : PureBeginning) : Type 0 where
  pub table : c.vars ≡ b.vars
  pub same_uses : c.uses ≡ b.uses
  pub carried : Each (IsCarried b.vars conds) c.conds

-- the beginning has this place and these choices, and carries some of these conditions
pub record IsLed (place : Place) (choices : List ℕ) (conds : List PureAtom) (c : PureBeginning) : Type 0 where
  pub there : c.place ≡ place
  pub chosen : c.choices ≡ choices
  pub carried : Each (λ a. IsAmong a conds) c.conds
