-- Paths of symbolic execution as pure data, over the states S of a memory.
use Rattle.std.specs.Prelude.{ℕ, List, [], Option, None}
use Rattle.gil_values.specs.declared.places.Place.{Place}
use Rattle.pure_terms.specs.declared.deciders.Reason.{Reason}
use Rattle.pure_terms.specs.declared.variables.Sort.{Sort}
use Rattle.pure_terms.specs.Pure.{PureTerm, PureAtom}
use Rattle.sym_evaluation.specs.Pure.{PureStore}
use Rattle.sym_model.specs.Pure.{PureKey}

-- a call in progress, with terms where a state has values; the handler is the label of that of the call that it made
pub record PureFrame : Type 0 where
  pub procedure : List ℕ
  pub next : ℕ
  pub store : PureStore
  pub waits : Option (List ℕ)
  pub handler : Option ℕ

-- the frame of a procedure without parameters that begins
abbrev pub entry_frame : List ℕ → PureFrame
entry_frame f = record { procedure = f; next = 0; store = []; waits = None; handler = None }

pub data PureEnd : Type 0 where
  returned : PureTerm → PureEnd
  failed : PureTerm → Place → PureEnd
  threw : PureTerm → Place → PureEnd
  missed : PureKey → Place → PureEnd
  vanished : PureEnd
  cut : PureEnd
  unknown : Place → Reason → PureEnd

-- The table of the variables; the conditions; what was assumed; the choices; the frame that runs and those that wait for it, the
-- latest first; the memory; the variables of the draws; how many steps were done; and the end, where there is one.
pub record PurePath (S : Type 0) : Type 0 where
  pub vars : List Sort
  pub conds : List PureAtom
  pub given : List PureAtom
  pub choices : List ℕ
  pub stack : List PureFrame
  pub memory : S
  pub drawn : List PureTerm
  pub steps : ℕ
  pub ending : Option PureEnd
