-- The laws of leaves: what matching on terms comes to says, under every valuation, what matching on values does. Matching of
-- assertions on symbolic states is that of Gillian, Part II (CAV 2021).
use Rattle.std.specs.Prelude.{◌≡◌, ◌⊎◌, ℕ, List, ◌++◌, false, IsTrue}
use Rattle.gil_values.specs.Pure.{PureValue}
use Rattle.gil_syntax.specs.Evaluation.{Store}
use Rattle.mem_model.specs.Heaps.{Heap}
use Rattle.assert_logic.specs.LogicStates.{LogicState}
use Rattle.pure_terms.specs.Meaning.{all_true, IsOver, Satisfies}
use Rattle.pure_terms.specs.Pure.{PureAtom, term_of}
use Rattle.sym_paths.specs.Asking.{IsOutside}
use Rattle.sym_evaluation.specs.Meaning.{IsStoreOver}
use Rattle.sym_model.specs.Lists.{Each, OneOf}
use Rattle.sym_model.specs.Meaning.{has_open}
use Rattle.sym_model.specs.Terms.{StateTerms}
use Rattle.sym_states.specs.Meaning.{Serves, IsOverTable}
use Rattle.sym_states.specs.Pure.{PureState}
use Rattle.footprint.specs.Pure.{PureMatch, PureStop, PureUndecided, PureLeaves, PureMatching, all_match, unmatched, unknown}

-- conditions that are these with others behind them
abbrev pub IsLonger : List PureAtom → List PureAtom → Type 0
IsLonger conds longer = (more : List PureAtom) × (longer ≡ conds ++ more)

-- Of a valuation, a store and a logic state: a premise.
abbrev pub Premise : Type 1
Premise = List PureValue → Store → LogicState → Type 0

-- And of the store and the logic state that matching gives, or of the number of the item at which it stops.
abbrev pub Giving : Type 1
Giving = List PureValue → Store → LogicState → Store → LogicState → Type 0

abbrev pub Stopping : Type 1
Stopping = List PureValue → Store → LogicState → ℕ → Type 0

module _ {S : Type 0} (stands : S → List PureValue → Heap → Type 0) (terms : S → StateTerms) (kept : S → Type 0) where
  -- the state may have further conditions at the end, another memory and other facts; all else is as it was
  pub record IsLater (s r : PureState S) : Type 0 where
    pub longer : IsLonger s.conds r.conds
    pub same_else : r ≡ record s { conds = r.conds; memory = r.memory; facts = r.facts }
    pub over : IsOverTable terms r
    pub still_kept : kept s.memory → kept r.memory

  module _ (s : PureState S) (If : Premise) where
    -- where its conditions are true, the match stands for what is given
    pub record IsMatch (Gives : Giving) (m : PureMatch S) : Type 0 where
      pub later : IsLater s m.state
      pub store_over : IsStoreOver s.vars m.store
      pub exact : (v : List PureValue) (t : Store) (l : LogicState) → If v t l → IsTrue (all_true v m.state.conds)
          → (t' : Store) × ((l' : LogicState) × (Gives v t l t' l' × Serves stands terms m.state m.store v t' l'))

    -- where its conditions are true, matching stops
    pub record IsStop (Stops : Stopping) (c : PureStop) : Type 0 where
      pub longer : IsLonger s.conds c.conds
      pub over : Each (λ a. IsOver s.vars (term_of a)) c.conds
      pub exact : (v : List PureValue) (t : Store) (l : LogicState) → If v t l → IsTrue (all_true v c.conds) → Stops v t l c.item

    pub record IsUndecided (u : PureUndecided) : Type 0 where
      pub longer : IsLonger s.conds u.conds
      pub outside : IsOutside u.conds u.reason

    -- the conditions of some leaf are true
    abbrev pub IsCovered : List PureValue → PureLeaves S → Type 0
    IsCovered v leaves =
        OneOf (λ m. IsTrue (all_true v m.state.conds)) leaves.matched
        ⊎ (OneOf (λ c. IsTrue (all_true v c.conds)) leaves.stopped ⊎ OneOf (λ u. IsTrue (all_true v u.conds)) leaves.undecided)

    -- Some leaf has true conditions, and each of them that has says what there is.
    pub record AreLeaves (Gives : Giving) (Stops : Stopping) (leaves : PureLeaves S) : Type 0 where
      pub cover : (v : List PureValue) (t : Store) (l : LogicState) → If v t l → IsCovered v leaves
      pub matched : Each (IsMatch Gives) leaves.matched
      pub stopped : Each (IsStop Stops) leaves.stopped
      pub undecided : Each IsUndecided leaves.undecided

    -- ---- what is answered

    -- every valuation matches, as one of these says
    pub record AreAll (Gives : Giving) (ms : List (PureMatch S)) : Type 0 where
      pub cover : (v : List PureValue) (t : Store) (l : LogicState) → If v t l → OneOf (λ m. IsTrue (all_true v m.state.conds)) ms
      pub matched : Each (IsMatch Gives) ms

    -- the valuation meets the conditions of the stop, none of which needs a literal form: whatever the state and the store stand for
    -- there isn't matched
    pub record IsUnmatched (Stops : Stopping) (c : PureStop) (v : List PureValue) : Type 0 where
      pub stop : IsStop Stops c
      pub meets : Satisfies s.vars v c.conds
      pub no_form : has_open c.conds ≡ false

    abbrev pub IsAnswer : Giving → Stopping → PureMatching S → Type 0
    IsAnswer Gives Stops (all_match ms) = AreAll Gives ms
    IsAnswer Gives Stops (unmatched c v) = IsUnmatched Stops c v
    IsAnswer Gives Stops (unknown conds reason) = IsLonger s.conds conds × IsOutside conds reason
