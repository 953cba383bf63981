-- The assertions of a program can be added to states of terms: a text may spell their literals, and each use of a core predicate is
-- of one that the memory has, with its numbers of ins and outs.
use Rattle.std.specs.Prelude.{◌≡◌, ℕ, List, ◌++◌, length, slice_get, Some, None, IsTrue, ⊤}
use Rattle.gil_syntax.specs.Programs.{find_proc, find_spec, find_pred}
use Rattle.gil_syntax.specs.Pure.{PurePredUse, PureCommand, fold_use, unfold_use, assert_that, loop_invariant, PureNumberedCommand, PureProc, PureSpec, PurePredDef, PureParts}
use Rattle.gil_syntax.specs.Valid.{param_names, IsValid}
use Rattle.gil_syntax.specs.WellMade.{is_well_made}
use Rattle.mem_model.specs.declared.keys.MemoryName.{MemoryName}
use Rattle.mem_model.specs.CoreNames.{core_of}
use Rattle.assert_logic.specs.Modes.{HasModes}
use Rattle.sym_model.specs.Lists.{Each}
use Rattle.sym_states.specs.Producing.{are_spelled, MayAdd}

-- what is asked of the assertion or the use of a logic command; a use of a predicate of the program has its numbers of ins and outs
abbrev pub IsAddableUse : PureParts → PurePredUse → Type 0
IsAddableUse p u =
    IsTrue (are_spelled (u.ins ++ u.outs)) × ((d : PurePredDef) → find_pred p.preds u.pred ≡ Some d → core_of u.pred ≡ None
    → (length u.ins ≡ length d.ins) × (length u.outs ≡ length d.outs))

abbrev pub IsAddableCommand : PureParts → MemoryName → PureCommand → Type 0
IsAddableCommand p memory (fold_use u) = IsAddableUse p u
IsAddableCommand p memory (unfold_use u) = IsAddableUse p u
IsAddableCommand p memory (assert_that items) = Each (MayAdd memory) items
IsAddableCommand p memory (loop_invariant xs ps items) = Each (MayAdd memory) items
IsAddableCommand p memory _ = ⊤

pub record IsAddableSpec (memory : MemoryName) (s : PureSpec) : Type 0 where
  pub pre : Each (MayAdd memory) s.pre
  pub posts : Each (Each (MayAdd memory)) s.posts
  pub errors : Each (Each (MayAdd memory)) s.errors

-- Each specification is of a procedure with its parameters, and can be added; so can each case of a predicate, and each assertion of
-- a logic command.
pub record IsAddable (p : PureParts) (memory : MemoryName) : Type 0 where
  pub procs : (s : PureSpec) (f : List ℕ) → find_spec p.specs f ≡ Some s
      → (q : PureProc) × ((find_proc p.procs f ≡ Some q) × (q.params ≡ param_names s.params))
  pub specs : (s : PureSpec) (f : List ℕ) → find_spec p.specs f ≡ Some s → IsAddableSpec memory s
  pub preds : (d : PurePredDef) (x : List ℕ) → find_pred p.preds x ≡ Some d → Each (Each (MayAdd memory)) d.cases
  pub cases : Each (λ d. Each (Each (MayAdd memory)) d.cases) p.preds
  pub commands : (q : PureProc) (f : List ℕ) (i : ℕ) (c : PureNumberedCommand) → find_proc p.procs f ≡ Some q → slice_get q.body i ≡ Some c
      → IsAddableCommand p memory c.command

abbrev pub ProgramsAreAddable : Type 0
ProgramsAreAddable =
    (p : PureParts) (memory : MemoryName) → IsTrue (is_well_made p) → IsValid p → HasModes p memory → IsAddable p memory
