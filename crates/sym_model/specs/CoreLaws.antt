-- The laws of production and consumption. Core predicates that are produced and consumed are those of Gillian, Part II (CAV 2021).
use Rattle.std.specs.Prelude.{◌≡◌, ◌⊎◌, ℕ, ℤ, ◌-ℤ◌, ◌+ℤ◌, ◌≤ℤ◌, pos, List, [], ◌++◌, true, false, Option, Some, None, IsTrue, codes}
use Rattle.std.specs.FinMap.{insert, remove}
use Rattle.std.specs.Str.{bytes_eq}
use Rattle.gil_values.specs.Pure.{PureValue}
use Rattle.mem_model.specs.declared.keys.Key.{Key}
use Rattle.mem_model.specs.declared.keys.MemoryName.{MemoryName}
use Rattle.mem_model.specs.Cores.{core_entry}
use Rattle.mem_model.specs.Heaps.{Heap, Holds, HasKey, IsHeapOf}
use Rattle.pure_terms.specs.declared.literals.Literal.{Literal}
use Rattle.pure_terms.specs.declared.variables.Sort.{Sort}
use Rattle.pure_terms.specs.Meaning.{values, all_true}
use Rattle.pure_terms.specs.Pure.{PureTerm, literal, list_of, from_list, to_list}
use Rattle.sym_model.specs.Cores.{produce_asks, consume_asks, produce_depends}
use Rattle.sym_model.specs.Forms.{OpensOnly}
use Rattle.sym_model.specs.Laws.{Serves, NameNoOthers, HaveOwnConditions, AreMade, IsPlainWithin, IsDecidedWithin, ArePlain, growth}
use Rattle.sym_model.specs.Lists.{Each, OneOf}
use Rattle.sym_model.specs.Meaning.{has_open, key_value}
use Rattle.sym_model.specs.Plain.{IsNarrowWithin, IsNarrowState, AreNarrow}
use Rattle.sym_model.specs.Pure.{PureResult, done, failed, missed, PureBranch}
use Rattle.sym_model.specs.Terms.{StateTerms, all_of, asked_of, is_literal}

module _ {S : Type 0} (memory : MemoryName) (stands : S → List PureValue → Heap → Type 0) (terms : S → StateTerms) where
  -- ---- production

  -- the core predicate stands for this key and value, the heap lacks the key, and with it is a heap of the memory
  pub record MayBeAdded (name : List ℕ) (ws : List PureValue) (h : Heap) (k : Key) (w : PureValue) : Type 0 where
    pub entry : core_entry name ws ≡ Some (k, w)
    pub lacks : ¬ HasKey h k
    pub is_heap : IsHeapOf memory (insert h k w)

  -- the state stands for the heap with what the core predicate stands for, where that may be added
  pub record IsAdded (name : List ℕ) (v ws : List PureValue) (h : Heap) (s : S) : Type 0 where
    pub k : Key
    pub w : PureValue
    pub may : MayBeAdded name ws h k w
    pub stands_for : stands s v (insert h k w)

  -- The laws of production, of the terms of ins and outs:
  --   cover: where the core predicate may be added, some branch has only true conditions and stands for the heap with it, or has an
  --     `Open` among them;
  --   exact: a branch without `Open` whose conditions are true stands for that heap, and the core predicate may be added;
  --   each is done with true; and the laws of conditions and terms are those of actions.
  pub record ProduceLaw (name : List ℕ) (ins outs : List PureTerm) (s : S) (bs : List (PureBranch S)) : Type 0 where
    pub cover : (vars : List Sort) (v ws : List PureValue) (h : Heap) (k : Key) (w : PureValue)
        → Serves stands terms vars v None (ins ++ outs) s ws h → MayBeAdded name ws h k w
        → OneOf (λ b. IsTrue (all_true v b.conds) × (IsTrue (has_open b.conds) ⊎ stands b.state v (insert h k w))) bs
    pub exact : (vars : List Sort) (v ws : List PureValue) (h : Heap) → Serves stands terms vars v None (ins ++ outs) s ws h
        → Each (λ b. IsTrue (all_true v b.conds) → has_open b.conds ≡ false → IsAdded name v ws h b.state) bs
    pub results : Each (λ b. b.result ≡ done (literal (Literal.Bool true))) bs
    pub variables : NameNoOthers terms ((ins ++ outs) ++ all_of (terms s)) None bs
    pub own : HaveOwnConditions (asked_of (produce_asks name ins outs) (terms s)) bs
    pub made : AreMade terms ((ins ++ outs) ++ all_of (terms s)) None bs

  -- Forms: where the conditions of a branch are true, production depends on each term whose literal form they need.
  abbrev pub ProducesWhatMatters : List ℕ → List PureTerm → List PureTerm → S → List (PureBranch S) → Type 0
  ProducesWhatMatters name ins outs s bs =
      (vars : List Sort) (v ws : List PureValue) (h : Heap) → Serves stands terms vars v None (ins ++ outs) s ws h
      → Each (λ b. IsTrue (all_true v b.conds) → Each (OpensOnly (produce_depends name ins outs (terms s) v h)) b.conds) bs

  -- ---- consumption

  -- Done with outs: they are what the heap holds at the key that the core predicate stands for with them, and the new state stands
  -- for the heap without it.
  pub record IsTaken (name : List ℕ) (v ws : List PureValue) (h : Heap) (s : S) (t : PureTerm) : Type 0 where
    pub outs : List PureTerm
    pub are : t ≡ list_of (from_list outs)
    pub us : List PureValue
    pub have : values v (from_list outs) ≡ Some us
    pub k : Key
    pub w : PureValue
    pub entry : core_entry name (ws ++ us) ≡ Some (k, w)
    pub holds : Holds h k w
    pub stands_for : stands s v (remove h k)

  -- Missed: whatever the outs, the heap lacks the key, which is the one that is missed; and the state stands for the heap.
  pub record IsLacking (name : List ℕ) (v ws : List PureValue) (h : Heap) (s : S) (missing : Option Key) : Type 0 where
    pub lacks : (us : List PureValue) (k : Key) (w : PureValue) → core_entry name (ws ++ us) ≡ Some (k, w)
        → ¬ HasKey h k × (missing ≡ Some k)
    pub stands_for : stands s v h

  abbrev pub IsConsumed : List ℕ → List PureValue → List PureValue → Heap → S → PureResult → Type 0
  IsConsumed name v ws h s (done t) = IsTaken name v ws h s t
  IsConsumed name v ws h s (failed t) = ⊥
  IsConsumed name v ws h s (missed k) = IsLacking name v ws h s (key_value v k.loc k.sub)

  abbrev pub IsNoFailure : PureResult → Type 0
  IsNoFailure (done t) = IsTrue true
  IsNoFailure (failed t) = ⊥
  IsNoFailure (missed k) = IsTrue true

  -- The laws of consumption, of the terms of ins: some branch has only true conditions; none is a failure or needs a literal form; one
  -- whose conditions are true takes the key out of the heap and is done with the outs, or misses the key, which the heap lacks. The
  -- laws of conditions and terms are those of actions.
  pub record ConsumeLaw (name : List ℕ) (ins : List PureTerm) (s : S) (bs : List (PureBranch S)) : Type 0 where
    pub cover : (vars : List Sort) (v ws : List PureValue) (h : Heap) → Serves stands terms vars v None ins s ws h
        → OneOf (λ b. IsTrue (all_true v b.conds)) bs
    pub exact : (vars : List Sort) (v ws : List PureValue) (h : Heap) → Serves stands terms vars v None ins s ws h
        → Each (λ b. IsTrue (all_true v b.conds) → IsConsumed name v ws h b.state b.result) bs
    pub no_failure : Each (λ b. IsNoFailure b.result) bs
    pub no_open : Each (λ b. has_open b.conds ≡ false) bs
    pub variables : NameNoOthers terms (ins ++ all_of (terms s)) None bs
    pub own : HaveOwnConditions (asked_of (consume_asks ins) (terms s)) bs
    pub made : AreMade terms (ins ++ all_of (terms s)) None bs

-- ---- plain

-- ins and outs from which production answers plainly: they are plain, and `bound` has a literal
pub record ArePlainUses (name : List ℕ) (ins outs : List PureTerm) (low high : ℤ) : Type 0 where
  pub around_zero : (low ≤ℤ pos 0) × (pos 0 ≤ℤ high)
  pub plain_ins : Each (IsPlainWithin low high) ins
  pub plain_outs : Each (IsPlainWithin low high) outs
  pub literal_bound : IsTrue (bytes_eq name (codes "bound")) → Each (λ t. IsTrue (is_literal t)) outs

abbrev pub ProducesPlainly : {S : Type 0} → (S → ℤ → ℤ → Type 0) → List ℕ → List PureTerm → List PureTerm → S → List (PureBranch S)
    → Type 0
ProducesPlainly plain name ins outs s bs =
    (low high : ℤ) → plain s low high → ArePlainUses name ins outs low high → ArePlain plain low high bs

abbrev pub ConsumesPlainly : {S : Type 0} → (S → ℤ → ℤ → Type 0) → List PureTerm → S → List (PureBranch S) → Type 0
ConsumesPlainly plain ins s bs =
    (low high : ℤ) → plain s low high → (low ≤ℤ pos 0) × (pos 0 ≤ℤ high) → Each (IsPlainWithin low high) ins → ArePlain plain low high bs

-- ---- narrow

-- `prop` is produced and consumed narrowly; the outs that are listed are narrow
abbrev pub ProducesNarrowly : {S : Type 0} → (S → StateTerms) → List ℕ → List PureTerm → List PureTerm → S → List (PureBranch S)
    → Type 0
ProducesNarrowly terms name ins outs s bs =
    (low high : ℤ) → IsTrue (bytes_eq name (codes "prop")) → (low ≤ℤ pos 0) × (pos 0 ≤ℤ high) → IsNarrowState (terms s) low high
    → Each (IsNarrowWithin low high) (ins ++ outs) → AreNarrow terms low high bs

-- the outs that consumption lists
abbrev pub outs_listed : PureResult → List PureTerm
outs_listed (done (list_of us)) = to_list us
outs_listed _ = []

abbrev pub ConsumesNarrowly : {S : Type 0} → (S → StateTerms) → List ℕ → List PureTerm → S → List (PureBranch S) → Type 0
ConsumesNarrowly terms name ins s bs =
    (low high : ℤ) → IsTrue (bytes_eq name (codes "prop")) → (low ≤ℤ pos 0) × (pos 0 ≤ℤ high) → IsNarrowState (terms s) low high
    → Each (IsNarrowWithin low high) ins
    → Each (λ b. Each (IsDecidedWithin (low -ℤ growth) (high +ℤ growth)) b.conds
    × (IsNarrowState (terms b.state) (low -ℤ growth) (high +ℤ growth)
    × Each (IsNarrowWithin (low -ℤ growth) (high +ℤ growth)) (outs_listed b.result))) bs
