-- Unfolding a predicate in a state of terms: what stands for each unfolding of values.
use Rattle.std.specs.Prelude.{◌≡◌, ◌⊎◌, ℕ, List, ◌++◌, map, slice_get, false, Some, None, IsTrue}
use Rattle.gil_values.specs.Pure.{PureValue}
use Rattle.gil_syntax.specs.Evaluation.{Store, value_of, Agrees}
use Rattle.gil_syntax.specs.Pure.{PureItem, PurePredDef}
use Rattle.gil_syntax.specs.Valid.{param_names}
use Rattle.mem_model.specs.declared.keys.MemoryName.{MemoryName}
use Rattle.mem_model.specs.Heaps.{Heap}
use Rattle.assert_logic.specs.Adding.{IsAdding}
use Rattle.assert_logic.specs.LogicStates.{Fact, LogicState}
use Rattle.assert_logic.specs.Matching.{FoundFact, first_fact, fits_fact, scope_of}
use Rattle.assert_logic.specs.Names.{named_by_items}
use Rattle.assert_logic.specs.Sorts.{HasSorts}
use Rattle.pure_terms.specs.declared.deciders.Reason.{Reason}
use Rattle.pure_terms.specs.Meaning.{all_true, Satisfies, IsProper, IsOver}
use Rattle.pure_terms.specs.Pure.{PureTerm, PureAtom, term_of}
use Rattle.sym_paths.specs.Asking.{IsOutside}
use Rattle.sym_evaluation.specs.Meaning.{HaveValues}
use Rattle.sym_model.specs.Lists.{Each, OneOf}
use Rattle.sym_model.specs.Meaning.{has_open}
use Rattle.sym_model.specs.Terms.{StateTerms}
use Rattle.sym_states.specs.Meaning.{Stands}
use Rattle.sym_states.specs.Producing.{added_conds}
use Rattle.sym_states.specs.Pure.{PureState}
use Rattle.sym_unfolding.specs.Further.{IsFurther}

pub record PureUnfoldedCase (S : Type 0) : Type 0 where
  pub number : ℕ
  pub state : PureState S

pub data PureUnfolding (S : Type 0) : Type 0 where
  unfolded : List (PureUnfoldedCase S) → PureUnfolding S
  unmatched : List PureAtom → List PureValue → PureUnfolding S
  unknown : List PureAtom → Reason → PureUnfolding S

-- The valuation meets the conditions of a later state, and none that it has beside those of the state is that a literal form is needed.
pub record IsMetAfter {S : Type 0} (s r : PureState S) (w : List PureValue) : Type 0 where
  pub meets : Satisfies r.vars w r.conds
  pub no_form : has_open (added_conds s r) ≡ false

-- A case of the predicate is added to what is left, under a store that gives its parameters the values of the fact.
pub record IsCaseAdded (memory : MemoryName) (d : PurePredDef) (f : Fact) (left : LogicState) (number : ℕ) (t : Store) (next : LogicState)
    : Type 0 where
  pub items : List PureItem
  pub case : slice_get d.cases number ≡ Some items
  pub ins_agree : Agrees t (param_names d.ins) f.ins
  pub outs_agree : Agrees t (param_names d.outs) f.outs
  pub sorts : HasSorts (scope_of d) t
  pub adding : IsAdding memory t items left next

-- the value is that of a name that stands in a case of the predicate
abbrev pub IsNamedValue : PurePredDef → Store → PureValue → Type 0
IsNamedValue d t w =
    (x : List ℕ) × (OneOf (λ items. IsTrue (named_by_items items x)) d.cases × (value_of t x ≡ Some w))

module _ {S : Type 0} (memory : MemoryName) (stands : S → List PureValue → Heap → Type 0) (terms : S → StateTerms)
    (kept : S → Type 0) (d : PurePredDef) (ins outs : List PureTerm) (s : PureState S) where
  -- the state stands for the logic state, and the terms have these values
  pub record HasArguments (v : List PureValue) (l : LogicState) (ws us : List PureValue) : Type 0 where
    pub stands_for : Stands stands s v l
    pub ins_are : HaveValues v ins ws
    pub outs_are : HaveValues v outs us

  -- the fact that is unfolded
  abbrev pub IsFound : LogicState → List PureValue → List PureValue → FoundFact → Type 0
  IsFound l ws us found = first_fact (fits_fact d.name ws (map Some us)) l.facts ≡ Some found

  -- With values of new variables all conditions of the state are true, and it stands for the logic state; or an added one is that a
  -- literal form is needed.
  pub record StandsForCase (v : List PureValue) (number : ℕ) (t : Store) (next : LogicState) (r : PureUnfoldedCase S) : Type 0 where
    pub same_number : r.number ≡ number
    pub values : List PureValue
    pub come : Each (IsNamedValue d t) values
    pub proper : IsProper r.state.vars (v ++ values)
    pub meets : IsTrue (all_true (v ++ values) r.state.conds)
    pub is : IsTrue (has_open (added_conds s r.state)) ⊎ Stands stands r.state (v ++ values) next

  -- Cover: there is such a fact under each valuation, and each adding of a case in its place is what some answered state stands for.
  abbrev pub CoversUnfoldings : List (PureUnfoldedCase S) → Type 0
  CoversUnfoldings rs =
      (v : List PureValue) (l : LogicState) (ws us : List PureValue) → HasArguments v l ws us
      → (found : FoundFact) × (IsFound l ws us found × ((number : ℕ) (t : Store) (next : LogicState)
      → IsCaseAdded memory d found.fact (record l { facts = found.others }) number t next
      → OneOf (StandsForCase v number t next) rs))

  -- Under the longer valuation the state stands for a case that was added in place of the fact.
  pub record IsUnfoldingOf (l : LogicState) (ws us w : List PureValue) (r : PureUnfoldedCase S) : Type 0 where
    pub found : FoundFact
    pub is_found : IsFound l ws us found
    pub store : Store
    pub next : LogicState
    pub added : IsCaseAdded memory d found.fact (record l { facts = found.others }) r.number store next
    pub stands_for : Stands stands r.state w next

  -- Exactness: an answered state whose conditions a longer valuation meets, and in which no literal form is needed, stands for an unfolding.
  abbrev pub StandForUnfoldings : List (PureUnfoldedCase S) → Type 0
  StandForUnfoldings rs =
      (v values : List PureValue) (l : LogicState) (ws us : List PureValue) → HasArguments v l ws us
      → Each (λ r. IsMetAfter s r.state (v ++ values) → IsUnfoldingOf l ws us (v ++ values) r) rs

  -- conditions that begin with those of the state
  abbrev pub AreFurther : List PureAtom → Type 0
  AreFurther conds = (more : List PureAtom) × (conds ≡ s.conds ++ more)

  -- conditions under which there is no such fact, which the valuation meets, and none of which needs a literal form
  pub record IsUnmatched (conds : List PureAtom) (v : List PureValue) : Type 0 where
    pub further : AreFurther conds
    pub over : Each (λ a. IsOver s.vars (term_of a)) conds
    pub meets : Satisfies s.vars v conds
    pub no_form : has_open conds ≡ false
    pub none : (w : List PureValue) (l : LogicState) (ws us : List PureValue) → HasArguments w l ws us → IsTrue (all_true w conds)
        → first_fact (fits_fact d.name ws (map Some us)) l.facts ≡ None

  -- such conditions that aren't in the fragment
  pub record IsUndecided (conds : List PureAtom) (reason : Reason) : Type 0 where
    pub further : AreFurther conds
    pub outside : IsOutside conds reason

  abbrev pub IsUnfolded : PureUnfolding S → Type 0
  IsUnfolded (unfolded rs) = CoversUnfoldings rs × Each (λ r. IsFurther terms kept s r.state) rs × StandForUnfoldings rs
  IsUnfolded (unmatched conds v) = IsUnmatched conds v
  IsUnfolded (unknown conds reason) = IsUndecided conds reason
