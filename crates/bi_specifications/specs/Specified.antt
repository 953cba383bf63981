-- Specifications of ended paths: what is told of one is true of all runs.
use Rattle.std.specs.Prelude.{◌≡◌, ◌++◌, ◌<◌, ◌≤◌, ℕ, ℤ, List, [], length, take, Bool, true, false, Some, IsTrue, ⊤}
use Rattle.gil_values.specs.Pure.{PureValue}
use Rattle.gil_syntax.specs.Evaluation.{Store}
use Rattle.gil_syntax.specs.Programs.{find_proc}
use Rattle.gil_syntax.specs.Pure.{PureProc, PureSpec, PureParts}
use Rattle.gil_syntax.specs.Valid.{IsValid}
use Rattle.gil_syntax.specs.WellMade.{is_well_made}
use Rattle.mem_model.specs.declared.keys.MemoryName.{MemoryName}
use Rattle.mem_model.specs.Actions.{Actions}
use Rattle.mem_model.specs.Heaps.{Heap}
use Rattle.assert_logic.specs.Meets.{Meets, HoldsSomewhere}
use Rattle.checked_runs.specs.Specifications.{SpecHolds, IsEntry, entry_store}
use Rattle.inferred_specs.specs.Inferred.{Returns, Cuts, PureFound}
use Rattle.pure_terms.specs.Meaning.{Satisfies}
use Rattle.pure_terms.specs.Pure.{PureTerm}
use Rattle.sym_evaluation.specs.Meaning.{HaveValues}
use Rattle.sym_step.specs.Exploring.{IsEndedFrom}
use Rattle.sym_model.specs.Cores.{TakesBoth}
use Rattle.sym_model.specs.Listing.{AreUnion}
use Rattle.sym_model.specs.Lists.{Each}
use Rattle.sym_model.specs.Pure.{PureUse}
use Rattle.sym_model.specs.Terms.{StateTerms, AreEachOver}
use Rattle.sym_paths.specs.Pure.{PureEnd, returned, failed, threw, missed, vanished, cut, unknown, PurePath}
use Rattle.bi_beginnings.specs.Beginnings.{any_for_each, variables_from, IsOpening, is_named_by}

-- Of a specification that is marked cut: each of its runs is cut after n steps. Of one that isn't: it holds of each run, whatever else the
-- heap has, and its runs return or throw within n steps, draw nothing, and end as its postconditions exactly say. Of both: some heap meets
-- the precondition.
abbrev pub IsAsMarked : PureParts → MemoryName → Actions → PureSpec → ℕ → Bool → Type 0
IsAsMarked p memory m s n true = Cuts p memory m s n
IsAsMarked p memory m s n false = SpecHolds p memory m s × Returns p memory m s n

-- the specification is one of the procedure, and what its mark says holds
pub record IsTrulyFound (p : PureParts) (memory : MemoryName) (m : Actions) (f : List ℕ) (n : ℕ) (found : PureFound) : Type 0 where
  pub of_procedure : found.spec.name ≡ f
  pub as_marked : IsAsMarked p memory m found.spec n found.cut

-- ---- ends

-- ends of which a specification is told: returned, threw, or cut
abbrev pub IsTold : PureEnd → Type 0
IsTold (returned t) = ⊤
IsTold (threw t place) = ⊤
IsTold cut = ⊤
IsTold (failed t place) = ⊥
IsTold (missed k place) = ⊥
IsTold vanished = ⊥
IsTold (unknown place reason) = ⊥

-- the specification is marked cut where the path is cut
abbrev pub IsMarkedAs : PureEnd → Bool → Type 0
IsMarkedAs cut is_cut = is_cut ≡ true
IsMarkedAs how is_cut = is_cut ≡ false

-- ---- what is known of the path

-- what is told of where a path begins: how many variables it has, and its heap as uses of core predicates
pub record PureEntry : Type 0 where
  pub count : ℕ
  pub uses : List PureUse

-- The path has so many variables, and where its conditions are true it begins with exactly the heap that the uses say. They are of core
-- predicates of the memory, name only its variables, and name each of them that isn't of a parameter.
pub record IsEntryOf (memory : MemoryName) {S : Type 0} (stands : S → List PureValue → Heap → Type 0) (params : List (List ℕ))
    (start : PurePath S) (e : PureEntry) : Type 0 where
  pub count : e.count ≡ length start.vars
  pub uses : Each (λ u. TakesBoth memory u.core u.ins u.outs × AreEachOver start.vars (u.ins ++ u.outs)) e.uses
  pub named : (k : ℕ) → length params ≤ k → k < e.count → IsTrue (is_named_by e.uses k)
  pub lists : (v : List PureValue) (own : Heap) → Satisfies start.vars v start.conds → stands start.memory v own → AreUnion v e.uses own
  pub back : (v : List PureValue) (own : Heap) → Satisfies start.vars v start.conds → AreUnion v e.uses own → stands start.memory v own

module _ {S : Type 0} (memory : MemoryName) (m : Actions) (stands : S → List PureValue → Heap → Type 0) (terms : S → StateTerms)
    (asked : List ℕ → List PureTerm → List PureTerm × List PureTerm) (depends : S → List ℕ → List PureTerm → List PureValue → Heap → PureTerm → Type 0)
    (plain : S → ℤ → ℤ → Type 0) (keeps_plain : Type 0) (kept : S → Type 0) (q : PureProc) (e : PureEntry) (path : PurePath S) where
  -- In a valid program the path came of one on which runs of the procedure begin, and has an end within n steps.
  pub record IsExplored (p : PureParts) (n : ℕ) : Type 0 where
    pub well_made : IsTrue (is_well_made p)
    pub valid : IsValid p
    pub found : find_proc p.procs q.name ≡ Some q
    pub start : PurePath S
    pub opening : IsOpening stands terms kept q start
    pub entry : IsEntryOf memory stands q.params start e
    pub ended : IsEndedFrom p m stands terms asked depends plain keeps_plain n start path

  -- whatever program and bound it was explored with, the specification is truly found
  abbrev pub IsTrulyTold : PureFound → Type 0
  IsTrulyTold found = (p : PureParts) (n : ℕ) → IsExplored p n → IsTrulyFound p memory m q.name n found

  -- ---- cover

  -- The specification is marked as the path ends. Under each valuation that meets the conditions of the path, the heap with which the path
  -- begins meets the precondition.
  pub record IsMetAlong (f : PureFound) : Type 0 where
    pub marked : (how : PureEnd) → path.ending ≡ Some how → IsTold how × IsMarkedAs how f.cut
    pub of_procedure : f.spec.name ≡ q.name
    pub met : (p : PureParts) (n : ℕ) (explored : IsExplored p n) (v args : List PureValue) (own : Heap) → Satisfies path.vars v path.conds
        → HaveValues (take e.count v) (variables_from 0 (any_for_each q.params)) args → stands explored.start.memory (take e.count v) own
        → (variables : Store) × (IsEntry f.spec args variables
        × Meets (HoldsSomewhere p.preds) (entry_store f.spec args variables) f.spec.pre own)

  -- a path of which nothing is told drew, or has another end
  abbrev pub TellsNothing : Type 0
  TellsNothing =
      (p : PureParts) (n : ℕ) (how : PureEnd) → IsExplored p n → path.drawn ≡ [] → path.ending ≡ Some how → ¬ IsTold how
