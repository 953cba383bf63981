-- What adding an item to a state may give: where its conditions and terms come from, and what it then stands for.
use Rattle.std.specs.Prelude.{◌≡◌, ◌⊎◌, ℕ, ◌+◌, List, [], ◌∷◌, ◌++◌, length, drop, Bool, true, false, if◌then◌else◌, Option, Some, None, Ok, IsTrue, ⊤}
use Rattle.std.specs.List.{list_all, flat_map}
use Rattle.gil_values.specs.Pure.{PureValue}
use Rattle.gil_syntax.specs.Evaluation.{Store, evaluate_all}
use Rattle.gil_syntax.specs.Pure.{PureExpr, PurePredUse, PureItem, pure, uses}
use Rattle.gil_syntax.specs.Subexpressions.{literals_of, exprs_of_item}
use Rattle.gil_syntax.specs.WellMade.{is_spellable}
use Rattle.mem_model.specs.declared.cores.Core.{Core}
use Rattle.mem_model.specs.declared.keys.MemoryName.{MemoryName}
use Rattle.mem_model.specs.CoreNames.{core_of, ins_of, outs_of, has_core}
use Rattle.mem_model.specs.Heaps.{Heap, IsHeapOf}
use Rattle.assert_logic.specs.Adding.{with_item}
use Rattle.assert_logic.specs.LogicStates.{LogicState}
use Rattle.pure_terms.specs.declared.variables.Sort.{Sort}
use Rattle.pure_terms.specs.Meaning.{all_true, IsOver}
use Rattle.pure_terms.specs.Pure.{PureTerm, PureAtom, term_of}
use Rattle.sym_evaluation.specs.Meaning.{HaveValues, IsStoreOver, Serves as StoreServes}
use Rattle.sym_evaluation.specs.Plainly.{text_bound}
use Rattle.sym_evaluation.specs.Pure.{PureStore, PureGoodCase}
use Rattle.sym_evaluation.specs.Questions.{IsAsked, IsTermOf, AreTermsOf, IsGuardCondition}
use Rattle.sym_model.specs.CoreLaws.{ProduceLaw, ProducesWhatMatters, ProducesNarrowly}
use Rattle.sym_model.specs.Cores.{produce_asks, produce_depends, TakesBoth}
use Rattle.sym_model.specs.Forms.{OpensOnly}
use Rattle.sym_model.specs.Lists.{Each, OneOf}
use Rattle.sym_model.specs.Meaning.{has_open}
use Rattle.sym_model.specs.Pure.{PureBranch}
use Rattle.sym_model.specs.Terms.{StateTerms, all_of, asked_of, IsOwnCondition, IsMadeOf, AreEachOver}
use Rattle.sym_paths.specs.PlainLaws.{IsPlainOver}
use Rattle.sym_paths.specs.Plain.{IsPlainItem}
use Rattle.sym_states.specs.Meaning.{Stands, Serves, IsOverTable}
use Rattle.sym_states.specs.Narrowly.{StaysNarrow}
use Rattle.sym_states.specs.Plainly.{ArePlainArguments, ProducesPlainStates, StaysPlain}
use Rattle.sym_states.specs.Pure.{PureFact, PureState, PureArguments}

-- ---- items that may be added

-- a text may spell each literal
abbrev pub are_spelled : List PureExpr → Bool
are_spelled es = list_all (λ e. list_all is_spellable (literals_of e)) es

-- A use of a core predicate is of one that the memory has, with its numbers of ins and outs.
abbrev pub FitsCore : MemoryName → Option Core → PurePredUse → Type 0
FitsCore memory (Some core) u = IsTrue (has_core memory core) × (length u.ins ≡ ins_of core) × (length u.outs ≡ outs_of core)
FitsCore memory None u = ⊤

abbrev pub IsOfMemory : MemoryName → PureItem → Type 0
IsOfMemory memory (pure e) = ⊤
IsOfMemory memory (uses u) = FitsCore memory (core_of u.pred) u

-- what an item must be, so that it can be added to a state of this memory
abbrev pub MayAdd : MemoryName → PureItem → Type 0
MayAdd memory item = IsTrue (are_spelled (exprs_of_item item)) × IsOfMemory memory item

-- ---- arguments

-- the condition is one that evaluating one of the expressions asks
abbrev pub IsAskedAmong : PureStore → List PureExpr → PureAtom → Type 0
IsAskedAmong bs es a = OneOf (λ e. IsAsked bs e a) es

-- the terms of ins and outs, which have the arguments' values wherever the conditions are true
pub record AreArguments (bs : PureStore) (u : PurePredUse) (a : PureArguments) : Type 0 where
  pub have : (vars : List Sort) (v : List PureValue) (t : Store) (ws us : List PureValue) → StoreServes vars v bs t
      → evaluate_all u.ins t ≡ Ok ws → evaluate_all u.outs t ≡ Ok us
      → IsTrue (all_true v a.conds) × HaveValues v a.ins ws × HaveValues v a.outs us
  pub are : (vars : List Sort) (v : List PureValue) (t : Store) → StoreServes vars v bs t → IsTrue (all_true v a.conds)
      → (ws : List PureValue) × ((us : List PureValue)
      × ((evaluate_all u.ins t ≡ Ok ws) × (evaluate_all u.outs t ≡ Ok us) × HaveValues v a.ins ws × HaveValues v a.outs us))
  pub ins_terms : AreTermsOf bs u.ins a.ins
  pub outs_terms : AreTermsOf bs u.outs a.outs
  pub asked : Each (IsAskedAmong bs (u.ins ++ u.outs)) a.conds
  pub over : (vars : List Sort) → IsStoreOver vars bs
      → Each (λ c. IsOver vars (term_of c)) a.conds × AreEachOver vars a.ins × AreEachOver vars a.outs
  pub plain : (vars : List Sort) (b : ℕ) → IsPlainOver vars b bs → IsPlainItem (uses u) → ArePlainArguments u (b + text_bound) a

-- some argument has surely no value
abbrev pub HaveNoValues : PureStore → PurePredUse → Type 0
HaveNoValues bs u =
    (vars : List Sort) (v : List PureValue) (t : Store) (ws us : List PureValue) → StoreServes vars v bs t
    → evaluate_all u.ins t ≡ Ok ws → ¬ (evaluate_all u.outs t ≡ Ok us)

abbrev pub AreArgumentsIfAny : PureStore → PurePredUse → Option PureArguments → Type 0
AreArgumentsIfAny bs u (Some a) = AreArguments bs u a
AreArgumentsIfAny bs u None = HaveNoValues bs u

abbrev pub arguments_of : Option (PureGoodCase (List PureTerm)) → Option (PureGoodCase (List PureTerm)) → Option PureArguments
arguments_of (Some g) (Some h) = Some (record { conds = g.conds ++ h.conds; ins = g.result; outs = h.result })
arguments_of _ _ = None

-- ---- where conditions and terms come from

-- the condition is one that producing the core predicate may give, of a memory with these terms
abbrev pub IsProductionCondition : PureStore → PurePredUse → StateTerms → PureAtom → Type 0
IsProductionCondition bs u terms a =
    (ins : List PureTerm) × ((outs : List PureTerm)
    × (AreTermsOf bs u.ins ins × AreTermsOf bs u.outs outs × IsOwnCondition (asked_of (produce_asks u.pred ins outs) terms) a))

-- A condition of an item, which is added to a memory with these terms: its expressions ask it, it is one of a guard whose term is that of a
-- pure item, or producing a core predicate gives it.
abbrev pub IsOwnTo : PureStore → PureItem → StateTerms → PureAtom → Type 0
IsOwnTo bs (pure e) terms a = IsAsked bs e a ⊎ ((t : PureTerm) × (IsTermOf bs e t × IsGuardCondition t a))
IsOwnTo bs (uses u) terms a = IsAskedAmong bs (u.ins ++ u.outs) a ⊎ IsProductionCondition bs u terms a

-- a fact of the use, with the terms of its arguments
pub record IsFactOf (bs : PureStore) (u : PurePredUse) (c : PureFact) : Type 0 where
  pub pred : c.pred ≡ u.pred
  pub ins : AreTermsOf bs u.ins c.ins
  pub outs : AreTermsOf bs u.outs c.outs

-- the terms of a memory after production are made of those of the arguments and of the memory before it
abbrev pub IsMemoryMade : PureStore → PurePredUse → StateTerms → StateTerms → Type 0
IsMemoryMade bs u before after =
    (ins : List PureTerm) × ((outs : List PureTerm)
    × (AreTermsOf bs u.ins ins × AreTermsOf bs u.outs outs × Each (IsMadeOf ((ins ++ outs) ++ all_of before) None) (all_of after)))

-- what becomes of memory and facts: a core predicate changes the memory, another use is a fact behind the others
abbrev pub IsUseAdded : {S : Type 0} → (S → StateTerms) → PureStore → PurePredUse → Option Core → PureState S → PureState S → Type 0
IsUseAdded terms bs u (Some core) s r = (r.facts ≡ s.facts) × IsMemoryMade bs u (terms s.memory) (terms r.memory)
IsUseAdded terms bs u None s r = (r.memory ≡ s.memory) × ((c : PureFact) × ((r.facts ≡ s.facts ++ c ∷ []) × IsFactOf bs u c))

abbrev pub IsItemAdded : {S : Type 0} → (S → StateTerms) → PureStore → PureItem → PureState S → PureState S → Type 0
IsItemAdded terms bs (pure e) s r = (r.memory ≡ s.memory) × (r.facts ≡ s.facts)
IsItemAdded terms bs (uses u) s r = IsUseAdded terms bs u (core_of u.pred) s r

-- A state that adding an item gives: conditions of the item are added at the end, and all but conditions, memory and facts is as it was.
pub record IsNext {S : Type 0} (terms : S → StateTerms) (bs : PureStore) (item : PureItem) (s r : PureState S) : Type 0 where
  pub more : List PureAtom
  pub conds : r.conds ≡ s.conds ++ more
  pub own : Each (IsOwnTo bs item (terms s.memory)) more
  pub added : IsItemAdded terms bs item s r
  pub same_else : r ≡ record s { conds = r.conds; memory = r.memory; facts = r.facts }

-- A state to which these items were added, one after another, from a state that may be a copy of the first one.
pub data IsProduced {S : Type 0} (terms : S → StateTerms) (bs : PureStore) (s : PureState S) : List PureItem → PureState S → Type 0 where
  is_begun : {r : PureState S} → r ≡ record s { memory = r.memory } → terms r.memory ≡ terms s.memory → IsProduced terms bs s [] r
  is_added : {items : List PureItem} {item : PureItem} {q r : PureState S} → IsProduced terms bs s items q → IsNext terms bs item q r
      → IsProduced terms bs s (items ++ item ∷ []) r

-- the conditions that a later state has beside those of the state
abbrev pub added_conds : {S : Type 0} → PureState S → PureState S → List PureAtom
added_conds s r = drop (length s.conds) r.conds

-- ---- literal forms

-- what adding an item to a memory with these terms and this heap comes to depends on the literal form of a term
abbrev pub DependsOn : PureStore → PureItem → StateTerms → List PureValue → Heap → PureTerm → Type 0
DependsOn bs (pure e) terms v h t = ⊥
DependsOn bs (uses u) terms v h t =
    (ins : List PureTerm) × ((outs : List PureTerm)
    × (AreTermsOf bs u.ins ins × AreTermsOf bs u.outs outs × produce_depends u.pred ins outs terms v h t))

-- A literal form is needed: a condition that was added says so, and where the conditions are true, adding the item depends on each form
-- of which they say it.
pub record NeedsForm {S : Type 0} (stands : S → List PureValue → Heap → Type 0) (terms : S → StateTerms) (bs : PureStore) (item : PureItem)
    (s r : PureState S) : Type 0 where
  pub needed : IsTrue (has_open (added_conds s r))
  pub matters : (v : List PureValue) (t : Store) (l : LogicState) → Serves stands terms s bs v t l → IsTrue (all_true v r.conds)
      → Each (OpensOnly (DependsOn bs item (terms s.memory) v l.heap)) (added_conds s r)

-- the items were added up to one at which a literal form is needed, and no further
pub record IsStopped {S : Type 0} (stands : S → List PureValue → Heap → Type 0) (terms : S → StateTerms) (bs : PureStore) (s : PureState S)
    (items : List PureItem) (r : PureState S) : Type 0 where
  pub before : List PureItem
  pub item : PureItem
  pub later : List PureItem
  pub are : items ≡ before ++ item ∷ later
  pub at : PureState S
  pub produced : IsProduced terms bs s before at
  pub last : IsNext terms bs item at r
  pub needs : NeedsForm stands terms bs item at r

-- ---- one item

-- states to which everything so far was added, and those at which a literal form is needed
pub record PureProduction (S : Type 0) : Type 0 where
  pub whole : List (PureState S)
  pub stopped : List (PureState S)

abbrev pub placed : {S : Type 0} → Bool → PureState S → PureProduction S → PureProduction S
placed true r p = record p { stopped = p.stopped ++ r ∷ [] }
placed false r p = record p { whole = p.whole ++ r ∷ [] }

abbrev pub joined : {S : Type 0} → PureProduction S → PureProduction S → PureProduction S
joined p q = record { whole = p.whole ++ q.whole; stopped = p.stopped ++ q.stopped }

module _ {S : Type 0} (memory : MemoryName) (stands : S → List PureValue → Heap → Type 0) (terms : S → StateTerms)
    (kept : S → Type 0) (keeps narrows : Type 0) (bs : PureStore) (item : PureItem) where
  -- a state that adding the item to another one gives
  pub record IsAfter (s r : PureState S) : Type 0 where
    pub next : IsNext terms bs item s r
    pub over : IsOverTable terms s → IsStoreOver s.vars bs → IsOverTable terms r
    pub still_kept : kept s.memory → kept r.memory
    pub still_plain : keeps → StaysPlain memory terms bs item s r
    pub still_narrow : narrows → StaysNarrow terms bs item s r
    pub exact : (v : List PureValue) (t : Store) (l : LogicState) → Serves stands terms s bs v t l → IsTrue (all_true v r.conds)
        → has_open (added_conds s r) ≡ false → (m : LogicState) × ((with_item t item l ≡ Some m) × Stands stands r v m)

  -- some state stands for it, or a literal form is needed
  abbrev pub IsCovered : List PureValue → LogicState → PureProduction S → Type 0
  IsCovered v m p = OneOf (λ r. Stands stands r v m) p.whole ⊎ OneOf (λ r. IsTrue (all_true v r.conds)) p.stopped

  -- what adding the item to each of these states gives
  pub record AddsToEach (ss : List (PureState S)) (p : PureProduction S) : Type 0 where
    pub cover : (v : List PureValue) (t : Store) (l m : LogicState) → OneOf (λ s. Serves stands terms s bs v t l) ss
        → with_item t item l ≡ Some m → IsHeapOf memory m.heap → IsCovered v m p
    pub whole : Each (λ r. OneOf (λ s. IsAfter s r) ss) p.whole
    pub stopped : Each (λ r. OneOf (λ s. IsAfter s r × NeedsForm stands terms bs item s r) ss) p.stopped

  -- the item is added to each state to which those before it were, and the stopped ones stay
  abbrev pub AddsNext : PureProduction S → PureProduction S → Type 0
  AddsNext p q =
      (added : PureProduction S) × (AddsToEach p.whole added × (q ≡ record { whole = added.whole; stopped = p.stopped ++ added.stopped }))

-- no state, and the one in which a pure item is true
abbrev pub no_states : {S : Type 0} → PureProduction S
no_states = record { whole = []; stopped = [] }

abbrev pub assumed_where : {S : Type 0} → PureState S → PureGoodCase PureTerm → Option (List PureAtom) → PureProduction S
assumed_where s g (Some side) = record { whole = record s { conds = (s.conds ++ g.conds) ++ side } ∷ []; stopped = [] }
assumed_where s g None = no_states

-- the state with a fact more, under the conditions of its arguments
abbrev pub added_fact : {S : Type 0} → PureState S → List ℕ → PureArguments → PureProduction S
added_fact s name a = record {
  whole = record s { conds = s.conds ++ a.conds; facts = s.facts ++ record { pred = name; ins = a.ins; outs = a.outs } ∷ [] } ∷ [];
  stopped = [];
}

-- ---- branches of production

module _ {S : Type 0} (s : PureState S) (a : PureArguments) where
  -- the state as a branch leaves it
  abbrev pub branch_state : PureBranch S → PureState S
  branch_state b = record s { conds = s.conds ++ (a.conds ++ b.conds); memory = b.state }

  abbrev pub unless_open : PureBranch S → List (PureState S)
  unless_open b = if has_open b.conds then [] else (branch_state b ∷ [])

  abbrev pub where_open : PureBranch S → List (PureState S)
  where_open b = if has_open b.conds then (branch_state b ∷ []) else []

  -- those of the branches that need no literal form, and of those that do
  abbrev pub divided : List (PureBranch S) → PureProduction S
  divided bs = record { whole = flat_map unless_open bs; stopped = flat_map where_open bs }

-- the states of branches that keep the laws of production
pub record AddsKey {S : Type 0} (memory : MemoryName) (stands : S → List PureValue → Heap → Type 0) (terms : S → StateTerms)
    (kept : S → Type 0) (keeps narrows : Type 0) (core : List ℕ) (s : PureState S) (a : PureArguments) (p : PureProduction S) : Type 0 where
  pub branches : List (PureBranch S)
  pub are : p ≡ divided s a branches
  pub laws : ProduceLaw memory stands terms core a.ins a.outs s.memory branches
  pub forms : ProducesWhatMatters memory stands terms core a.ins a.outs s.memory branches
  pub still_kept : kept s.memory → Each (λ b. kept b.state) branches
  pub still_plain : keeps → ProducesPlainStates memory terms core a s.memory branches
  pub still_narrow : narrows → ProducesNarrowly terms core a.ins a.outs s.memory branches

-- where the name is that of a core predicate, it takes these ins and outs
abbrev pub TakesBothIfCore : MemoryName → List ℕ → List PureTerm → List PureTerm → Type 0
TakesBothIfCore memory name ins outs = (core : Core) → core_of name ≡ Some core → TakesBoth memory name ins outs

-- a core predicate is produced, and any other one is a fact
abbrev pub AddsByName : {S : Type 0} → MemoryName → (S → List PureValue → Heap → Type 0) → (S → StateTerms) → (S → Type 0) → Type 0
    → Type 0 → Option Core → List ℕ → PureState S → PureArguments → PureProduction S → Type 0
AddsByName memory stands terms kept keeps narrows (Some core) name s a p = AddsKey memory stands terms kept keeps narrows name s a p
AddsByName memory stands terms kept keeps narrows None name s a p = p ≡ added_fact s name a
