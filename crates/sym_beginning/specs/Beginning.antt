-- Where the checked runs of a specification begin, in terms.
use Rattle.std.specs.Prelude.{◌≡◌, ◌⊎◌, List, ◌++◌, length, Some, IsTrue, false}
use Rattle.gil_values.specs.Pure.{PureValue}
use Rattle.gil_syntax.specs.Evaluation.{Store}
use Rattle.gil_syntax.specs.Programs.{find_proc}
use Rattle.gil_syntax.specs.Pure.{PureProc, PureSpec, PureParts}
use Rattle.mem_model.specs.declared.keys.MemoryName.{MemoryName}
use Rattle.mem_model.specs.Actions.{Actions}
use Rattle.mem_model.specs.Heaps.{Heap}
use Rattle.assert_logic.specs.Adding.{IsAdding}
use Rattle.assert_logic.specs.LogicStates.{LogicState, nothing}
use Rattle.checked_runs.specs.Checked.{Checked, IsStart}
use Rattle.checked_runs.specs.Specifications.{IsEntry, entry_store}
use Rattle.pure_terms.specs.declared.variables.Sort.{Sort}
use Rattle.pure_terms.specs.Meaning.{all_true, IsProper}
use Rattle.pure_terms.specs.Pure.{PureTerm}
use Rattle.sym_evaluation.specs.Meaning.{HaveValues, StandsFor, IsStoreOver}
use Rattle.sym_evaluation.specs.Pure.{PureStore}
use Rattle.sym_model.specs.Lists.{Each, OneOf}
use Rattle.sym_model.specs.Meaning.{has_open}
use Rattle.sym_model.specs.Terms.{StateTerms, AreEachOver}
use Rattle.sym_paths.specs.Beginning.{Begins}
use Rattle.sym_paths.specs.Meaning.{Stands, IsOverTable}
use Rattle.sym_paths.specs.Pure.{PurePath}
use Rattle.sym_states.specs.Meaning.{AreFacts}
use Rattle.sym_states.specs.Pure.{PureFact}

-- a path with facts
pub record PureStart (S : Type 0) : Type 0 where
  pub path : PurePath S
  pub facts : List PureFact

-- The table; the terms of the parameters, and those of the variables that the precondition names; and the paths.
pub record PureBeginnings (S : Type 0) : Type 0 where
  pub vars : List Sort
  pub args : List PureTerm
  pub variables : PureStore
  pub starts : List (PureStart S)

module _ {S : Type 0} (b : PureBeginnings S) where
  -- the valuation is proper, and gives the terms the values of the entry
  pub record IsEntryUnder (v : List PureValue) (args : List PureValue) (variables : Store) : Type 0 where
    pub proper : IsProper b.vars v
    pub args_are : HaveValues v b.args args
    pub variables_are : StandsFor v b.variables variables

  module _ (p : PureParts) (memory : MemoryName) (m : Actions) (stands : S → List PureValue → Heap → Type 0) (spec : PureSpec) where
    -- All conditions of the path are true, and it stands with its facts for the checked state; or one of them is that a literal form is
    -- needed.
    pub record IsBegunFrom (v : List PureValue) (c : Checked) (s : PureStart S) : Type 0 where
      pub meets : IsTrue (all_true v s.path.conds)
      pub stands_for : IsTrue (has_open s.path.conds) ⊎ (Stands stands s.path v c.machine × AreFacts v s.facts c.facts)

    -- Cover: each checked run of the specification begins on one of the paths.
    abbrev pub CoversStarts : Type 0
    CoversStarts =
        (args : List PureValue) (variables : Store) (c : Checked)
        → IsStart p memory m (record { spec = spec; args = args; variables = variables }) c
        → (v : List PureValue) × (IsEntryUnder v args variables × OneOf (IsBegunFrom v c) b.starts)

  -- Exactness: wherever the conditions of a path are true, and none of them is that a literal form is needed, the terms have values with
  -- which the specification may be entered, and memory and facts are those of its precondition added to nothing.
  pub record IsRealStart (memory : MemoryName) (stands : S → List PureValue → Heap → Type 0) (spec : PureSpec) (v : List PureValue)
      (s : PureStart S) : Type 0 where
    pub args : List PureValue
    pub variables : Store
    pub under : IsEntryUnder v args variables
    pub entered : IsEntry spec args variables
    pub state : LogicState
    pub adding : IsAdding memory (entry_store spec args variables) spec.pre nothing state
    pub memory_is : stands s.path.memory v state.heap
    pub facts_are : AreFacts v s.facts state.facts

  abbrev pub AreStarts : MemoryName → (S → List PureValue → Heap → Type 0) → PureSpec → Type 0
  AreStarts memory stands spec =
      Each (λ s. (v : List PureValue) → IsProper b.vars v → IsTrue (all_true v s.path.conds) → has_open s.path.conds ≡ false
      → IsRealStart memory stands spec v s) b.starts

  -- a path on which the procedure begins with the terms of its parameters, over the table
  pub record IsBeginning (q : PureProc) (terms : S → StateTerms) (kept : S → Type 0) (s : PureStart S) : Type 0 where
    pub as_many : length b.args ≡ length q.params
    pub begins : Begins q b.args b.vars s.path.conds s.path.memory s.path
    pub path_over : IsOverTable terms s.path
    pub facts_over : Each (λ f. AreEachOver b.vars (f.ins ++ f.outs)) s.facts
    pub still_kept : kept s.path.memory

  pub record AreBeginnings (p : PureParts) (terms : S → StateTerms) (kept : S → Type 0) (spec : PureSpec) : Type 0 where
    pub args_over : AreEachOver b.vars b.args
    pub variables_over : IsStoreOver b.vars b.variables
    pub proc : PureProc
    pub found : find_proc p.procs spec.name ≡ Some proc
    pub each : Each (IsBeginning proc terms kept) b.starts
