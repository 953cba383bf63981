-- The laws of a symbolic memory, over its meaning: the relation `stands` of a state, a valuation and a heap. Symbolic memories
-- with their soundness are those of Gillian, Part I (PLDI 2020).
use Rattle.std.specs.Prelude.{◌≡◌, ◌⊎◌, ◌↔◌, ℕ, ℤ, pos, ◌-ℤ◌, ◌+ℤ◌, ◌≤ℤ◌, List, ◌++◌, slice_get, false, Option, Some, IsSome, IsTrue, codes}
use Rattle.std.specs.List.{Contains}
use Rattle.std.specs.Str.{bytes_eq}
use Rattle.gil_values.specs.Pure.{PureValue}
use Rattle.gil_values.specs.Symbols.{OccursIn}
use Rattle.mem_model.specs.declared.keys.MemoryName.{MemoryName}
use Rattle.mem_model.specs.Actions.{Actions, ActionResult}
use Rattle.mem_model.specs.Heaps.{Heap, IsHeapOf, OccursInHeap}
use Rattle.pure_terms.specs.declared.variables.Sort.{Sort}
use Rattle.pure_terms.specs.declared.variables.Var.{Var}
use Rattle.pure_terms.specs.Fragment.{is_plain, has_literals_between, has_fragment_form}
use Rattle.pure_terms.specs.Laws.{AgreeOn}
use Rattle.pure_terms.specs.Meaning.{values, all_true, IsProper, IsOver}
use Rattle.pure_terms.specs.Naming.{names_only_below}
use Rattle.pure_terms.specs.Pure.{PureTerm, from_list, PureAtom, term_of, variables}
use Rattle.sym_model.specs.Lists.{Each, OneOf, IsAmong}
use Rattle.sym_model.specs.Meaning.{fresh_symbol, has_open, IsBranchFor}
use Rattle.sym_model.specs.Pure.{PureBranch, result_terms}
use Rattle.sym_model.specs.Terms.{StateTerms, all_of, AreEachOver, IsFreshOver, is_literal, IsMadeOf, Asked, asked_of, IsOwnCondition}

-- ---- the meaning of states

-- the symbol occurs in the value of a variable of the term
abbrev pub ComesFrom : List PureValue → ℕ → PureTerm → Type 0
ComesFrom v n t = (x : Var) × ((w : PureValue) × (Contains (variables t) x × (slice_get v x.number ≡ Some w) × OccursIn n w))

-- Locality of meaning: what a state stands for depends only on the values of the variables of its terms. It has one heap at
-- most, which is one of the memory, and whose symbols all come from those variables. The offsets are among the terms.
pub record IsMeaning (memory : MemoryName) {S : Type 0} (stands : S → List PureValue → Heap → Type 0) (terms : S
    → StateTerms) : Type 0 where
  pub local : (s : S) (v w : List PureValue) (h : Heap) → Each (λ t. AgreeOn (variables t) v w) (all_of (terms s)) → stands s v h
      → stands s w h
  pub one_heap : (s : S) (v : List PureValue) (g h : Heap) → stands s v g → stands s v h → g ≡ h
  pub of_memory : (s : S) (v : List PureValue) (h : Heap) → stands s v h → IsHeapOf memory h
  pub symbols : (s : S) (v : List PureValue) (h : Heap) (n : ℕ) → stands s v h → OccursInHeap n h → OneOf (ComesFrom v n) (all_of (terms s))
  pub offsets_placed : (s : S) → Each (λ t. IsAmong t (terms s).placed) (terms s).offsets

-- A copy stands for the same heaps, has the same terms, is as plain, and its actions depend on the same literal forms.
pub record IsCopy {S : Type 0} (stands : S → List PureValue → Heap → Type 0) (terms : S → StateTerms)
    (depends : S → List ℕ → List PureTerm → List PureValue → Heap → PureTerm → Type 0) (plain : S → ℤ → ℤ → Type 0)
    (s copy : S) : Type 0 where
  pub stands_for : (v : List PureValue) (h : Heap) → stands s v h ↔ stands copy v h
  pub same_terms : terms copy ≡ terms s
  pub as_plain : (low high : ℤ) → plain s low high → plain copy low high
  pub same_forms : (action : List ℕ) (args : List PureTerm) (v : List PureValue) (h : Heap) (t : PureTerm)
      → depends s action args v h t ↔ depends copy action args v h t

-- ---- asking

-- An action asks about some of its arguments, of nothing else that is handed to it, and about literals. It may need the form of some
-- arguments that it asks about.
abbrev pub AsksItsArguments : (List ℕ → List PureTerm → List PureTerm × List PureTerm) → Type 0
AsksItsArguments asked =
    (action : List ℕ) (args : List PureTerm)
    → Each (λ t. IsAmong t args ⊎ IsTrue (is_literal t)) (asked action args).0
    × Each (λ t. IsAmong t args × IsAmong t (asked action args).0) (asked action args).1

-- The condition under which an action may be asked: the fresh variable is there exactly where the concrete action takes a new
-- symbol, it is of sort Fresh, and its number is above those of all variables of the arguments and of the state.
pub record MayBeAsked (m : Actions) (action : List ℕ) (fresh : Option Var) (args : List PureTerm) (terms : StateTerms) : Type 0 where
  pub fresh_where_taken : IsSome fresh ↔ IsTrue (m.takes_symbol action)
  pub of_sort : (x : Var) → fresh ≡ Some x → x.sort ≡ Sort.Fresh
  pub above : (x : Var) → fresh ≡ Some x → Each (λ t. IsTrue (names_only_below x.number t)) (args ++ all_of terms)

-- A valuation that is proper for a table with all the variables, under which the arguments have values and the state a heap.
pub record Serves {S : Type 0} (stands : S → List PureValue → Heap → Type 0) (terms : S → StateTerms) (vars : List Sort)
    (v : List PureValue) (fresh : Option Var) (args : List PureTerm) (s : S) (args' : List PureValue) (h : Heap) : Type 0 where
  pub proper : IsProper vars v
  pub over : AreEachOver vars (args ++ all_of (terms s))
  pub fresh_over : IsFreshOver vars fresh
  pub have_values : values v (from_list args) ≡ Some args'
  pub has_heap : stands s v h

-- ---- the parts of the laws that speak of conditions and terms alone, for every call that answers branches

-- what holds of each term of a branch's state and result
abbrev pub EachTerm : {S : Type 0} → (S → StateTerms) → (PureTerm → Type 0) → PureBranch S → Type 0
EachTerm terms P b = Each P (all_of (terms b.state)) × Each P (result_terms b.result)

-- Variables: conditions, results and new states name only variables of these terms, and the fresh one.
abbrev pub NameNoOthers : {S : Type 0} → (S → StateTerms) → List PureTerm → Option Var → List (PureBranch S) → Type 0
NameNoOthers terms ts fresh bs =
    (vars : List Sort) → AreEachOver vars ts → IsFreshOver vars fresh
    → Each (λ b. Each (λ a. IsOver vars (term_of a)) b.conds × EachTerm terms (IsOver vars) b) bs

-- Own conditions: each condition has one of the forms that a memory may give.
abbrev pub HaveOwnConditions : {S : Type 0} → Asked → List (PureBranch S) → Type 0
HaveOwnConditions asked bs = Each (λ b. Each (IsOwnCondition asked) b.conds) bs

-- Terms: those of new states and results are made of these terms.
abbrev pub AreMade : {S : Type 0} → (S → StateTerms) → List PureTerm → Option Var → List (PureBranch S) → Type 0
AreMade terms ts fresh bs = Each (EachTerm terms (IsMadeOf ts fresh)) bs

-- plain, with literals between two bounds
abbrev pub IsPlainWithin : ℤ → ℤ → PureTerm → Type 0
IsPlainWithin low high t = IsTrue (is_plain t) × IsTrue (has_literals_between low high t)

-- the condition has a form of the fragment, so that it is no `Open`, with literals between two bounds
abbrev pub IsDecidedWithin : ℤ → ℤ → PureAtom → Type 0
IsDecidedWithin low high a = IsTrue (has_fragment_form a) × IsTrue (has_literals_between low high (term_of a))

-- how far the literals of one call may leave the bounds
abbrev pub growth : ℤ
growth = pos 10000

-- Plain: conditions have forms of the fragment, and results and new states are plain, within bounds that are a little wider.
abbrev pub ArePlain : {S : Type 0} → (S → ℤ → ℤ → Type 0) → ℤ → ℤ → List (PureBranch S) → Type 0
ArePlain plain low high bs =
    Each (λ b. Each (IsDecidedWithin (low -ℤ growth) (high +ℤ growth)) b.conds
    × (plain b.state (low -ℤ growth) (high +ℤ growth) × Each (IsPlainWithin (low -ℤ growth) (high +ℤ growth)) (result_terms b.result))) bs

-- The arguments of an action from which it answers plainly: they are plain, and `alloc` has a literal.
pub record ArePlainArguments (action : List ℕ) (args : List PureTerm) (low high : ℤ) : Type 0 where
  pub around_zero : (low ≤ℤ pos 0) × (pos 0 ≤ℤ high)
  pub plain : Each (IsPlainWithin low high) args
  pub literal_size : IsTrue (bytes_eq action (codes "alloc")) → Each (λ t. IsTrue (is_literal t)) args

-- ---- the laws of an action

module _ {S : Type 0} (stands : S → List PureValue → Heap → Type 0) (terms : S → StateTerms) (m : Actions) where
  -- what the concrete action makes of the heap, with the symbol of the fresh variable
  abbrev pub acted : List ℕ → List PureValue → Option Var → List PureValue → Heap → ActionResult
  acted action v fresh args' h = m.act action (fresh_symbol v fresh) args' h

  -- Cover: some branch has only true conditions and stands for what the action comes to, or has an `Open` among them.
  abbrev pub Covers : List ℕ → Option Var → List PureTerm → S → List (PureBranch S) → Type 0
  Covers action fresh args s bs =
      (vars : List Sort) (v args' : List PureValue) (h : Heap) → Serves stands terms vars v fresh args s args' h
      → OneOf (λ b. IsTrue (all_true v b.conds) × (IsTrue (has_open b.conds) ⊎ IsBranchFor stands v (acted action v fresh args' h) b)) bs

  -- Exactness: a branch without `Open` whose conditions are true stands for what the action comes to.
  abbrev pub AreExact : List ℕ → Option Var → List PureTerm → S → List (PureBranch S) → Type 0
  AreExact action fresh args s bs =
      (vars : List Sort) (v args' : List PureValue) (h : Heap) → Serves stands terms vars v fresh args s args' h
      → Each (λ b. IsTrue (all_true v b.conds) → has_open b.conds ≡ false → IsBranchFor stands v (acted action v fresh args' h) b) bs

-- The laws that hold of the branches of every action: `asked` are the arguments that it asks about, and not those that it only
-- stores, and those whose literal form it may need.
pub record ActLaw {S : Type 0} (stands : S → List PureValue → Heap → Type 0) (terms : S → StateTerms) (m : Actions) (action : List ℕ)
    (fresh : Option Var) (args : List PureTerm) (asked : List PureTerm × List PureTerm) (s : S) (bs : List (PureBranch S)) : Type 0 where
  pub cover : Covers stands terms m action fresh args s bs
  pub exact : AreExact stands terms m action fresh args s bs
  pub variables : NameNoOthers terms (args ++ all_of (terms s)) fresh bs
  pub own : HaveOwnConditions (asked_of asked (terms s)) bs
  pub made : AreMade terms (args ++ all_of (terms s)) fresh bs

-- The law of plain memories: from a plain state and plain arguments the answers are plain, and so no literal form is needed.
abbrev pub ActsPlainly : {S : Type 0} → (S → ℤ → ℤ → Type 0) → List ℕ → List PureTerm → S → List (PureBranch S) → Type 0
ActsPlainly plain action args s bs =
    (low high : ℤ) → plain s low high → ArePlainArguments action args low high → ArePlain plain low high bs
