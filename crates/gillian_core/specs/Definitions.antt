-- What a language is to the program: its texts, their first fault, their ends, and the memory of its programs.
use Rattle.std.specs.Prelude.{◌≡◌, ℕ, ℤ, List, Some}
use Rattle.gil_values.specs.declared.places.Place.{Place}
use Rattle.gil_values.specs.Pure.{PureValue}
use Rattle.gil_syntax.specs.Programs.{find_proc}
use Rattle.gil_syntax.specs.Pure.{PureProc, PureParts}
use Rattle.gil_text.specs.declared.refused.RefusedKind.{RefusedKind}
use Rattle.mem_model.specs.declared.keys.MemoryName.{MemoryName}
use Rattle.mem_model.specs.Actions.{Actions}
use Rattle.mem_model.specs.Heaps.{Heap}
use Rattle.pure_terms.specs.Pure.{PureTerm}
use Rattle.sym_model.specs.Terms.{StateTerms}
use Rattle.sym_test.specs.Bugs.{IsFound}
use Rattle.sym_test.specs.Undecided.{IsUndecided}
use Rattle.sym_test.specs.View.{PureQuery}
use Rattle.biabduce.specs.Asked.{IsAskedOfRun, IsOtherOfRun}
use Rattle.biabduce.specs.Narrowly.{IsNarrowEntry}
use Rattle.biabduce.specs.Sound.{PureAsked}
use Rattle.gil_report.specs.Pure.{PureAnswer}

-- what is asked by a query, besides the place of an atom that keeps it out of the fragment
abbrev pub asked_of : PureQuery → PureAsked
asked_of q = record { place = q.place; choices = q.path; vars = q.vars; given = q.given; conds = q.query }

-- A memory: its name; what its actions do to a heap; and, over its symbolic states, where a bug comes from in a test, and what isn't decided in
-- one; what isn't where specifications are inferred of a procedure, and where a command that isn't of narrow form stands on the way of it; and
-- whether they keep the law of plain memories, by which a command of simple form is always decided, and the law of narrow memories, by which one
-- of narrow form is, over values of which nothing is known too.
pub record Memory : Type 1 where
  pub name : MemoryName
  pub actions : Actions
  pub FindsBug : PureParts → List ℕ → ℕ → Place → PureValue → List PureValue → Type 0
  pub LeavesOpen : PureParts → List ℕ → ℕ → PureQuery → Type 0
  pub LeavesUnsaid : PureParts → List ℕ → ℕ → PureQuery → Type 0
  pub MeetsOthers : PureParts → List ℕ → ℕ → PureQuery → Type 0
  pub keeps_plain : Type 0
  pub keeps_narrow : Type 0

-- the memory of this name, with these actions and symbolic states
module _ {S : Type 0} (name : MemoryName) (actions : Actions) (stands : S → List PureValue → Heap → Type 0) (terms : S → StateTerms)
    (asked : List ℕ → List PureTerm → List PureTerm × List PureTerm) (depends : S → List ℕ → List PureTerm → List PureValue → Heap → PureTerm → Type 0)
    (plain : S → ℤ → ℤ → Type 0) (kept : S → Type 0) (keeps_plain keeps_narrow : Type 0) where
  abbrev pub memory_of : Memory
  memory_of = record {
    name = name;
    actions = actions;
    FindsBug = λ p entry bound place value inputs. IsFound p actions stands terms asked depends entry bound place value inputs;
    LeavesOpen = λ p entry bound query. IsUndecided p actions stands terms asked depends keeps_plain entry bound query;
    LeavesUnsaid = λ p f n query. (q : PureProc) → find_proc p.procs f ≡ Some q
        → IsAskedOfRun p name actions stands terms asked depends plain keeps_plain kept q n (asked_of query);
    MeetsOthers = λ p f n query. (q : PureProc) → find_proc p.procs f ≡ Some q → IsNarrowEntry name q
        → IsOtherOfRun p name actions stands terms asked depends plain keeps_plain kept q n (asked_of query);
    keeps_plain = keeps_plain;
    keeps_narrow = keeps_narrow;
  }

pub record Definition : Type 1 where
  -- the bytes are a text of the language, and this is its program
  pub IsText : List ℕ → PureParts → Type 0
  -- the bytes are no text of the language, and this is the first fault that applies, at its byte
  pub IsFault : List ℕ → ℕ → RefusedKind → Type 0
  -- what the program has of the text itself, where the language is compiled: the same ends
  pub KeepsEnds : List ℕ → PureParts → Type 0
  -- what the answer of a run of an entry on inputs says of the text itself, where the language is compiled
  pub IsMeant : List ℕ → List ℕ → List PureValue → PureAnswer → Type 0
  -- the memory that the actions of its programs are those of
  pub memory : Memory
