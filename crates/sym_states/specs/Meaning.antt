-- What a symbolic state stands for under a valuation: a logic state of plain values.
use Rattle.std.specs.Prelude.{◌≡◌, List, [], ◌∷◌, ◌++◌, Some, IsTrue, ⊤}
use Rattle.gil_values.specs.Pure.{PureValue}
use Rattle.gil_syntax.specs.Evaluation.{Store}
use Rattle.mem_model.specs.Heaps.{Heap}
use Rattle.assert_logic.specs.LogicStates.{Fact, LogicState}
use Rattle.pure_terms.specs.Meaning.{values, all_true, IsProper, IsOver}
use Rattle.pure_terms.specs.Pure.{from_list, term_of}
use Rattle.sym_evaluation.specs.Meaning.{StandsFor, IsStoreOver}
use Rattle.sym_evaluation.specs.Pure.{PureStore}
use Rattle.sym_model.specs.Lists.{Each}
use Rattle.sym_model.specs.Terms.{StateTerms, all_of, AreEachOver}
use Rattle.sym_states.specs.Pure.{PureFact, PureState}

-- the terms have the fact's values
pub record IsFact (v : List PureValue) (c : PureFact) (f : Fact) : Type 0 where
  pub pred : c.pred ≡ f.pred
  pub ins : values v (from_list c.ins) ≡ Some f.ins
  pub outs : values v (from_list c.outs) ≡ Some f.outs

-- the facts are these, in this order
abbrev pub AreFacts : List PureValue → List PureFact → List Fact → Type 0
AreFacts v [] [] = ⊤
AreFacts v (c ∷ cs) (f ∷ fs) = IsFact v c f × AreFacts v cs fs
AreFacts v _ _ = ⊥

-- The state stands for the logic state: the valuation is proper for the table and meets the conditions, the memory has that heap,
-- and the facts have those values.
pub record Stands {S : Type 0} (stands : S → List PureValue → Heap → Type 0) (s : PureState S) (v : List PureValue) (l : LogicState)
    : Type 0 where
  pub proper : IsProper s.vars v
  pub meets : IsTrue (all_true v s.conds)
  pub memory : stands s.memory v l.heap
  pub facts : AreFacts v s.facts l.facts

-- Conditions, memory and facts name only variables of the table.
pub record IsOverTable {S : Type 0} (terms : S → StateTerms) (s : PureState S) : Type 0 where
  pub conds : Each (λ a. IsOver s.vars (term_of a)) s.conds
  pub given : Each (λ a. IsOver s.vars (term_of a)) s.given
  pub memory : AreEachOver s.vars (all_of (terms s.memory))
  pub facts : Each (λ c. AreEachOver s.vars (c.ins ++ c.outs)) s.facts

-- A valuation under which the state stands for the logic state, and a store of terms for a store of values. State and store name only
-- variables of the table.
pub record Serves {S : Type 0} (stands : S → List PureValue → Heap → Type 0) (terms : S → StateTerms) (s : PureState S) (bs : PureStore)
    (v : List PureValue) (t : Store) (l : LogicState) : Type 0 where
  pub over : IsOverTable terms s
  pub store_over : IsStoreOver s.vars bs
  pub store : StandsFor v bs t
  pub state : Stands stands s v l
