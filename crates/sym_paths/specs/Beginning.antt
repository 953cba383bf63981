-- Paths on which a procedure begins with any arguments, conditions and memory, and the states for which they stand.
use Rattle.std.specs.Prelude.{◌≡◌, ◌↔◌, ℕ, ◌^◌, ◌≤◌, ℤ, pos, neg_ℤ, ◌≤ℤ◌, List, [], ◌∷◌, length, Some, None, IsTrue}
use Rattle.gil_values.specs.Pure.{PureValue}
use Rattle.gil_values.specs.Symbols.{AreBelow}
use Rattle.gil_syntax.specs.Evaluation.{value_of}
use Rattle.gil_syntax.specs.Programs.{find_proc}
use Rattle.gil_syntax.specs.Pure.{PureProc, PureParts}
use Rattle.gil_machine.specs.Run.{start}
use Rattle.gil_machine.specs.State.{Frame, State}
use Rattle.mem_model.specs.Heaps.{Heap}
use Rattle.pure_terms.specs.declared.variables.Sort.{Sort}
use Rattle.pure_terms.specs.Meaning.{all_true, IsProper, IsOver}
use Rattle.pure_terms.specs.Pure.{PureTerm, PureAtom, term_of}
use Rattle.sym_evaluation.specs.Meaning.{HaveValues}
use Rattle.sym_evaluation.specs.Pure.{PureStore}
use Rattle.sym_model.specs.Laws.{IsPlainWithin, IsDecidedWithin}
use Rattle.sym_model.specs.Lists.{Each}
use Rattle.sym_model.specs.Terms.{StateTerms, all_of, AreEachOver}
use Rattle.sym_paths.specs.Frames.{IsFirstStore, called_frame}
use Rattle.sym_paths.specs.Meaning.{Stands, IsOverTable}
use Rattle.sym_paths.specs.Pure.{PurePath}
use Rattle.sym_paths.specs.Steps.{IsPlainPath}

-- the path at the first command of a procedure, where nothing was drawn, assumed or chosen
abbrev pub beginning : {S : Type 0} → PureProc → PureStore → List Sort → List PureAtom → S → PurePath S
beginning q bs vars conds memory = record {
  vars = vars;
  conds = conds;
  given = [];
  choices = [];
  stack = called_frame q bs ∷ [];
  memory = memory;
  drawn = [];
  steps = 0;
  ending = None;
}

-- The procedure begins on the path with these terms for its parameters, over the table, under the conditions and with the memory.
pub record Begins {S : Type 0} (q : PureProc) (args : List PureTerm) (vars : List Sort) (conds : List PureAtom) (memory : S)
    (path : PurePath S) : Type 0 where
  pub store : PureStore
  pub first : IsFirstStore q.params args store
  pub is : path ≡ beginning q store vars conds memory

-- the same call, where each name has the same value
pub record IsSameCall (f g : Frame) : Type 0 where
  pub procedure : f.procedure ≡ g.procedure
  pub next : f.next ≡ g.next
  pub store : (x : List ℕ) → value_of f.store x ≡ value_of g.store x
  pub waits : f.waits ≡ g.waits
  pub handler : f.handler ≡ g.handler

-- In the state the procedure begins with these values, without callers or draws; the valuation is proper, meets the conditions and gives
-- the memory the state's heap, and its symbols are below the counter.
pub record BeginsIn {S : Type 0} (p : PureParts) (stands : S → List PureValue → Heap → Type 0) (q : PureProc) (args : List PureValue)
    (vars : List Sort) (conds : List PureAtom) (memory : S) (v : List PureValue) (s : State) : Type 0 where
  pub proper : IsProper vars v
  pub meets : IsTrue (all_true v conds)
  pub heap : stands memory v s.heap
  pub symbols_below : AreBelow s.counter v
  pub call : IsSameCall s.current (start p q.name args s.heap s.counter).current
  pub callers : s.callers ≡ []
  pub draws : s.draws ≡ 0

-- What holds of a path on which a procedure of a program begins.
--   states: under a valuation that gives the arguments these values, it stands for exactly the states in which the procedure begins
--     with them;
--   starts: so it stands for the start of the machine with them;
--   over, plain: it is over its table, and plain, where what it is made of is.
pub record BeginningsStand {S : Type 0} (stands : S → List PureValue → Heap → Type 0) (terms : S → StateTerms) (plain : S → ℤ → ℤ → Type 0)
    : Type 0 where
  pub states : (p : PureParts) (q : PureProc) (args : List PureTerm) (vars : List Sort) (conds : List PureAtom) (memory : S) (path : PurePath S)
      → Begins q args vars conds memory path → find_proc p.procs q.name ≡ Some q → (v ws : List PureValue) (s : State)
      → HaveValues v args ws → Stands stands path v s ↔ BeginsIn p stands q ws vars conds memory v s
  pub starts : (p : PureParts) (q : PureProc) (args : List PureTerm) (vars : List Sort) (conds : List PureAtom) (memory : S) (path : PurePath S)
      → Begins q args vars conds memory path → find_proc p.procs q.name ≡ Some q → (v ws : List PureValue) (h : Heap) (counter : ℕ)
      → HaveValues v args ws → IsProper vars v → IsTrue (all_true v conds) → stands memory v h → AreBelow counter v
      → Stands stands path v (start p q.name ws h counter)
  pub over : (q : PureProc) (args : List PureTerm) (vars : List Sort) (conds : List PureAtom) (memory : S) (path : PurePath S)
      → Begins q args vars conds memory path → AreEachOver vars args → Each (λ a. IsOver vars (term_of a)) conds
      → AreEachOver vars (all_of (terms memory)) → IsOverTable terms path
  pub plain_path : (q : PureProc) (args : List PureTerm) (vars : List Sort) (conds : List PureAtom) (memory : S) (path : PurePath S) (b : ℕ)
      → Begins q args vars conds memory path → Each (IsPlainWithin (neg_ℤ (pos b)) (pos b)) args
      → Each (IsDecidedWithin (neg_ℤ (pos b)) (pos b)) conds
      → ((low high : ℤ) → low ≤ℤ neg_ℤ (pos b) → pos b ≤ℤ high → plain memory low high) → length vars ≤ 2 ^ 39
      → IsPlainPath plain b path
