-- The state to which a precondition is added, and the paths that begin in the states which that gives.
use Rattle.std.specs.Prelude.{◌≡◌, List, [], ◌∷◌, ⊤}
use Rattle.std.specs.FinMap.{empty}
use Rattle.gil_values.specs.Pure.{PureValue}
use Rattle.gil_syntax.specs.Pure.{PureItem, PureProc}
use Rattle.mem_model.specs.declared.keys.MemoryName.{MemoryName}
use Rattle.mem_model.specs.Heaps.{Heap}
use Rattle.pure_terms.specs.declared.variables.Sort.{Sort}
use Rattle.pure_terms.specs.Pure.{PureTerm}
use Rattle.sym_model.specs.Terms.{StateTerms, no_state_terms}
use Rattle.sym_paths.specs.Beginning.{Begins}
use Rattle.sym_states.specs.Laws.{CoversAddings, AreAddings, ComeFromItems, StayOverTable, AreKept}
use Rattle.sym_states.specs.Pure.{PureState}
use Rattle.sym_beginning.specs.Beginning.{PureStart, PureBeginnings}
use Rattle.sym_beginning.specs.Entering.{PureEntryTerms}

-- no condition, no key and no fact
pub record IsFirstState {S : Type 0} (stands : S → List PureValue → Heap → Type 0) (terms : S → StateTerms) (kept : S → Type 0)
    (vars : List Sort) (s : PureState S) : Type 0 where
  pub table : s.vars ≡ vars
  pub conds : s.conds ≡ []
  pub given : s.given ≡ []
  pub facts : s.facts ≡ []
  pub heap : (v : List PureValue) → stands s.memory v empty
  pub no_terms : terms s.memory ≡ no_state_terms
  pub still_kept : kept s.memory

-- the procedure begins with the table, the conditions, the memory and the facts of the state
pub record StartsFrom {S : Type 0} (q : PureProc) (args : List PureTerm) (s : PureState S) (start : PureStart S) : Type 0 where
  pub begins : Begins q args s.vars s.conds s.memory start.path
  pub facts : start.facts ≡ s.facts

-- as many elements, and each pair of them is related
abbrev pub EachWith : {A B : Type 0} → (A → B → Type 0) → List A → List B → Type 0
EachWith R [] [] = ⊤
EachWith R (x ∷ xs) (y ∷ ys) = R x y × EachWith R xs ys
EachWith R _ _ = ⊥

abbrev pub BeginsEach : {S : Type 0} → PureProc → List PureTerm → List (PureState S) → List (PureStart S) → Type 0
BeginsEach q args states starts = EachWith (StartsFrom q args) states starts

-- no beginning, and no terms
abbrev pub no_beginnings : {S : Type 0} → PureBeginnings S
no_beginnings = record { vars = []; args = []; variables = []; starts = [] }

-- The beginnings are over the terms of the entry: they are in the states that adding the precondition to a state without conditions,
-- keys and facts gives.
pub record BeginsWith {S : Type 0} (memory : MemoryName) (stands : S → List PureValue → Heap → Type 0) (terms : S → StateTerms)
    (kept : S → Type 0) (q : PureProc) (pre : List PureItem) (e : PureEntryTerms) (b : PureBeginnings S) : Type 0 where
  pub table : b.vars ≡ e.vars
  pub args : b.args ≡ e.args
  pub variables : b.variables ≡ e.variables
  pub first : PureState S
  pub is_first : IsFirstState stands terms kept e.vars first
  pub states : List (PureState S)
  pub cover : CoversAddings memory stands terms e.store pre first states
  pub exact : AreAddings memory stands terms e.store pre first states
  pub origin : ComeFromItems stands terms e.store pre first states
  pub over : StayOverTable terms e.store first states
  pub still_kept : AreKept kept states
  pub starts : BeginsEach q e.args states b.starts
