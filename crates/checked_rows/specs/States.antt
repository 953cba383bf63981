-- Paths beside facts as symbolic states, and back.
use Rattle.std.specs.Prelude.{◌≡◌, List}
use Rattle.gil_values.specs.declared.places.Place.{Place}
use Rattle.gil_values.specs.Pure.{PureValue}
use Rattle.mem_model.specs.Heaps.{Heap}
use Rattle.sym_model.specs.Terms.{StateTerms}
use Rattle.sym_paths.specs.Pure.{PurePath}
use Rattle.sym_states.specs.Pure.{PureFact, PureState}

abbrev pub state_at : {S : Type 0} → PurePath S → List PureFact → S → Place → PureState S
state_at path facts memory here = record {
  vars = path.vars;
  conds = path.conds;
  memory = memory;
  facts = facts;
  given = path.given;
  place = here;
  path = path.choices;
}

-- the state of the path beside these facts, with a memory that stands for the same heaps
pub record IsStateOf {S : Type 0} (stands : S → List PureValue → Heap → Type 0) (terms : S → StateTerms) (path : PurePath S)
    (facts : List PureFact) (s : PureState S) : Type 0 where
  pub is : s ≡ state_at path facts s.memory s.place
  pub stands_for : (v : List PureValue) (h : Heap) → stands path.memory v h → stands s.memory v h
  pub same_terms : terms s.memory ≡ terms path.memory

-- the path with variables, conditions, memory and choices of a state
abbrev pub with_state : {S : Type 0} → PurePath S → PureState S → PurePath S
with_state path s = record path { vars = s.vars; conds = s.conds; memory = s.memory; choices = s.path }
