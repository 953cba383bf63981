-- What is told of the conditions under which there is no fact, and what unfolding a fact that was found gives.
use Rattle.std.specs.Prelude.{◌≡◌, ℕ, List, ◌++◌, map, slice_get, Option, Some, None, IsTrue}
use Rattle.gil_values.specs.Pure.{PureValue}
use Rattle.gil_syntax.specs.Evaluation.{Store}
use Rattle.gil_syntax.specs.Pure.{PureItem, PurePredDef}
use Rattle.mem_model.specs.declared.keys.MemoryName.{MemoryName}
use Rattle.mem_model.specs.Heaps.{Heap}
use Rattle.assert_logic.specs.LogicStates.{LogicState}
use Rattle.assert_logic.specs.Matching.{FoundFact}
use Rattle.pure_terms.specs.declared.deciders.Reason.{Reason}
use Rattle.pure_terms.specs.declared.variables.Sort.{Sort}
use Rattle.pure_terms.specs.Meaning.{all_true, IsUnsatisfiable, IsOver}
use Rattle.pure_terms.specs.Pure.{PureTerm, PureAtom, term_of}
use Rattle.sym_paths.specs.Asking.{IsSolution, IsOutside}
use Rattle.sym_evaluation.specs.Pure.{PureStore}
use Rattle.sym_matching.specs.Origins.{AsksCase, IsStoreOfCase}
use Rattle.sym_model.specs.Alternatives.{Alternatives}
use Rattle.sym_model.specs.Lists.{Each, OneOf, IsAmong}
use Rattle.sym_model.specs.Terms.{StateTerms}
use Rattle.sym_states.specs.Meaning.{IsOverTable}
use Rattle.sym_states.specs.Pure.{PureFact, PureState}
use Rattle.sym_unfolding.specs.Further.{IsFurther}
use Rattle.sym_unfolding.specs.Origins.{IsAddedFrom}
use Rattle.sym_unfolding.specs.Searching.{PureFound}
use Rattle.sym_unfolding.specs.Unfolding as undecided
use Rattle.sym_unfolding.specs.Unfolding.{PureUnfoldedCase, PureUnfolding, unmatched, IsMetAfter, IsCaseAdded, HasArguments, IsFound, StandsForCase, IsUnfoldingOf}

pub data PureTold : Type 0 where
  met : List PureAtom → List PureValue → PureTold
  unknown : List PureAtom → Reason → PureTold

-- the answer of unfolding where this is told of the conditions under which there is no such fact
abbrev pub answer_told : {S : Type 0} → PureTold → PureUnfolding S
answer_told (met conds v) = unmatched conds v
answer_told (unknown conds reason) = undecided.unknown conds reason

-- what is told of the conditions with further ones
abbrev pub ToldOf : List Sort → List PureAtom → List PureAtom → Option PureTold → Type 0
ToldOf vars conds more None = IsUnsatisfiable vars (conds ++ more)
ToldOf vars conds more (Some (met atoms v)) = (atoms ≡ conds ++ more) × IsSolution vars atoms v
ToldOf vars conds more (Some (unknown atoms reason)) = (atoms ≡ conds ++ more) × IsOutside atoms reason

-- none of the alternatives may be met, or this is told of one of them
abbrev pub ToldOfAll : List Sort → List PureAtom → Alternatives → Option PureTold → Type 0
ToldOfAll vars conds x None = Each (λ more. ToldOf vars conds more None) x
ToldOfAll vars conds x (Some told) = OneOf (λ more. ToldOf vars conds more (Some told)) x

-- a case with its number, added to the state without the fact at the place, where the parameters have the fact's terms
pub record IsUnfoldedAt {S : Type 0} (terms : S → StateTerms) (d : PurePredDef) (s : PureState S) (found : PureFound) (r : PureUnfoldedCase S)
    : Type 0 where
  pub fact : PureFact
  pub at : slice_get s.facts found.place ≡ Some fact
  pub others : List PureFact
  pub some_facts : Each (λ c. IsAmong c s.facts) others
  pub items : List PureItem
  pub case : slice_get d.cases r.number ≡ Some items
  pub store : PureStore
  pub store_is : IsStoreOfCase d fact.ins (map Some fact.outs) store
  pub more : List PureAtom
  pub asked : Each (AsksCase d fact.ins (map Some fact.outs)) more
  pub added : IsAddedFrom terms store (found.conds ++ more) items (record s { facts = others }) r.state

module _ {S : Type 0} (memory : MemoryName) (stands : S → List PureValue → Heap → Type 0) (terms : S → StateTerms)
    (kept : S → Type 0) (d : PurePredDef) (ins outs : List PureTerm) (s : PureState S) where
  -- where the conditions are true, the first fact that fits stands at the place
  abbrev pub FindsFirst : PureFound → List PureValue → LogicState → List PureValue → List PureValue → Type 0
  FindsFirst found v l ws us =
      IsTrue (all_true v found.conds) → (g : FoundFact) × (IsFound memory stands terms kept d ins outs s l ws us g × (g.place ≡ found.place))

  -- where the fact at the place is the first one, each case in its place is stood for, and no other thing
  pub record UnfoldsAt (found : PureFound) (rs : List (PureUnfoldedCase S)) : Type 0 where
    pub cover : IsOverTable terms s → Each (λ a. IsOver s.vars (term_of a)) found.conds
        → (v : List PureValue) (l : LogicState) (ws us : List PureValue) (g : FoundFact) (number : ℕ) (t : Store) (next : LogicState)
        → HasArguments memory stands terms kept d ins outs s v l ws us → IsTrue (all_true v found.conds)
        → IsFound memory stands terms kept d ins outs s l ws us g → g.place ≡ found.place
        → IsCaseAdded memory d g.fact (record l { facts = g.others }) number t next
        → OneOf (StandsForCase memory stands terms kept d ins outs s v number t next) rs
    pub exact : IsOverTable terms s → Each (λ a. IsOver s.vars (term_of a)) found.conds
        → (v values : List PureValue) (l : LogicState) (ws us : List PureValue) → HasArguments memory stands terms kept d ins outs s v l ws us
        → FindsFirst found v l ws us
        → Each (λ r. IsMetAfter s r.state (v ++ values) → IsUnfoldingOf memory stands terms kept d ins outs s l ws us (v ++ values) r) rs
    pub follow : IsOverTable terms s → Each (λ a. IsOver s.vars (term_of a)) found.conds
        → Each (λ r. IsFurther terms kept s r.state) rs
    pub origin : Each (IsUnfoldedAt terms d s found) rs

  -- the same of each place that was found
  pub record UnfoldsEach (found : List PureFound) (rs : List (PureUnfoldedCase S)) : Type 0 where
    pub cover : IsOverTable terms s → Each (λ f. Each (λ a. IsOver s.vars (term_of a)) f.conds) found
        → (v : List PureValue) (l : LogicState) (ws us : List PureValue) (g : FoundFact) (number : ℕ) (t : Store) (next : LogicState)
        → HasArguments memory stands terms kept d ins outs s v l ws us
        → OneOf (λ f. IsTrue (all_true v f.conds) × (g.place ≡ f.place)) found
        → IsFound memory stands terms kept d ins outs s l ws us g
        → IsCaseAdded memory d g.fact (record l { facts = g.others }) number t next
        → OneOf (StandsForCase memory stands terms kept d ins outs s v number t next) rs
    pub exact : IsOverTable terms s → Each (λ f. Each (λ a. IsOver s.vars (term_of a)) f.conds) found
        → (v values : List PureValue) (l : LogicState) (ws us : List PureValue) → HasArguments memory stands terms kept d ins outs s v l ws us
        → Each (λ f. FindsFirst f v l ws us) found
        → Each (λ r. IsMetAfter s r.state (v ++ values) → IsUnfoldingOf memory stands terms kept d ins outs s l ws us (v ++ values) r) rs
    pub follow : IsOverTable terms s → Each (λ f. Each (λ a. IsOver s.vars (term_of a)) f.conds) found
        → Each (λ r. IsFurther terms kept s r.state) rs
    pub origin : Each (λ r. OneOf (λ f. IsUnfoldedAt terms d s f r) found) rs
