-- What a checked path stands for under a valuation: checked states of plain values.
use Rattle.std.specs.Prelude.{◌≡◌, ℕ, ◌-◌, List, [], ◌∷◌, ◌++◌, length, drop, nat_lt, if◌then◌else◌, None, ⊤}
use Rattle.gil_values.specs.Pure.{PureValue}
use Rattle.gil_syntax.specs.Pure.{PureParts}
use Rattle.mem_model.specs.Heaps.{Heap}
use Rattle.checked_runs.specs.Checked.{Checked, Entry, Passed}
use Rattle.pure_terms.specs.declared.variables.Sort.{Sort}
use Rattle.sym_evaluation.specs.Meaning.{HaveValues, IsStoreOver, StandsFor}
use Rattle.sym_model.specs.Lists.{Each}
use Rattle.sym_model.specs.Terms.{StateTerms, all_of, AreEachOver}
use Rattle.sym_paths.specs.Meaning.{Stands, IsOverTable}
use Rattle.sym_states.specs.Meaning.{AreFacts}
use Rattle.sym_states.specs.Pure.{PureFact}
use Rattle.sym_step.specs.Stepping.{AreAtCommands}
use Rattle.checked_paths.specs.Pure.{PureEntry, PurePassed, PureChecking}

-- the entry is one of this specification, and has the values of the terms
pub record IsEntered (v : List PureValue) (e : PureEntry) (entry : Entry) : Type 0 where
  pub spec : entry.spec ≡ e.spec
  pub args : HaveValues v e.args entry.args
  pub variables : StandsFor v e.variables entry.variables

-- as many elements, and each pair of them is related
abbrev pub EachWith : {A B : Type 0} → (A → B → Type 0) → List A → List B → Type 0
EachWith R [] [] = ⊤
EachWith R (x ∷ xs) (y ∷ ys) = R x y × EachWith R xs ys
EachWith R _ _ = ⊥

module _ {S : Type 0} (stands : S → List PureValue → Heap → Type 0) (v : List PureValue) where
  -- the same command, memory and facts of what was left, and terms of what was left and of the variables that weren't listed
  pub record IsPassed (q : PurePassed S) (r : Passed) : Type 0 where
    pub at : q.at ≡ r.at
    pub memory : stands q.memory v r.remainder.heap
    pub facts : AreFacts v q.facts r.remainder.facts
    pub unlisted : StandsFor v q.unlisted r.unlisted

  abbrev pub ArePassed : List (PurePassed S) → List Passed → Type 0
  ArePassed qs rs = EachWith IsPassed qs rs

  -- the same of each frame
  abbrev pub ArePassedBy : List (List (PurePassed S)) → List (List Passed) → Type 0
  ArePassedBy later others = EachWith ArePassed later others

-- The checked path stands for the checked state: the terms of the entry have its values, the path stands for the machine's state, and
-- facts and passed invariants are those of the state.
pub record StandsForChecked {S : Type 0} (stands : S → List PureValue → Heap → Type 0) (e : PureEntry) (x : PureChecking S)
    (v : List PureValue) (entry : Entry) (c : Checked) : Type 0 where
  pub entered : IsEntered v e entry
  pub path : Stands stands x.path v c.machine
  pub facts : AreFacts v x.facts c.facts
  pub passed : ArePassedBy stands v x.passed c.passed

-- ---- the table

abbrev pub AreFactsOver : List Sort → List PureFact → Type 0
AreFactsOver vars facts = Each (λ f. AreEachOver vars (f.ins ++ f.outs)) facts

-- each parameter has a term, and the terms name only variables of the table
pub record IsEntryOver (vars : List Sort) (e : PureEntry) : Type 0 where
  pub as_many : length e.args ≡ length e.spec.params
  pub args : AreEachOver vars e.args
  pub variables : IsStoreOver vars e.variables

pub record IsPassedOver {S : Type 0} (terms : S → StateTerms) (vars : List Sort) (q : PurePassed S) : Type 0 where
  pub memory : AreEachOver vars (all_of (terms q.memory))
  pub facts : AreFactsOver vars q.facts
  pub unlisted : IsStoreOver vars q.unlisted

-- All that the checked path and the entry name is in the path's table.
pub record IsCheckedOver {S : Type 0} (terms : S → StateTerms) (e : PureEntry) (x : PureChecking S) : Type 0 where
  pub entry : IsEntryOver x.path.vars e
  pub path : IsOverTable terms x.path
  pub facts : AreFactsOver x.path.vars x.facts
  pub passed : Each (Each (IsPassedOver terms x.path.vars)) x.passed

-- The checked path may go on: it has no end, its frames stand at commands, and all that it names is in its table.
pub record MayGoOn {S : Type 0} (p : PureParts) (terms : S → StateTerms) (e : PureEntry) (x : PureChecking S) : Type 0 where
  pub no_end : x.path.ending ≡ None
  pub placed : AreAtCommands p x.path.stack
  pub over : IsCheckedOver terms e x

-- ---- what is kept of passed invariants

-- one list for each of so many frames: a frame that began has passed none, and those that ended are forgotten
abbrev pub kept_by : {A : Type 0} → ℕ → List (List A) → List (List A)
kept_by n passed = if nat_lt (length passed) n then [] ∷ passed else drop (length passed - n) passed

-- Passed invariants of a frame, and of all frames, that say of every valuation what others say.
pub record SaySame {S : Type 0} (stands : S → List PureValue → Heap → Type 0) (terms : S → StateTerms) (ps qs : List (PurePassed S))
    : Type 0 where
  pub stand : (v : List PureValue) (rs : List Passed) → ArePassed stands v ps rs → ArePassed stands v qs rs
  pub over : (vars : List Sort) → Each (IsPassedOver terms vars) ps → Each (IsPassedOver terms vars) qs

pub record SayTheSame {S : Type 0} (stands : S → List PureValue → Heap → Type 0) (terms : S → StateTerms)
    (ps qs : List (List (PurePassed S))) : Type 0 where
  pub stand : (v : List PureValue) (rs : List (List Passed)) → ArePassedBy stands v ps rs → ArePassedBy stands v qs rs
  pub over : (vars : List Sort) → Each (Each (IsPassedOver terms vars)) ps → Each (Each (IsPassedOver terms vars)) qs
