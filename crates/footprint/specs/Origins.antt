-- Where the conditions, the stores and the memories of matching come from: from the items of the assertion that is matched, and of the cases
-- of predicates that are tried for its uses, each in a store in which names have the terms that they were given.
use Rattle.std.specs.Prelude.{◌≡◌, ◌⊎◌, ℕ, List, [], ◌∷◌, ◌++◌, map, Some, None}
use Rattle.gil_syntax.specs.declared.assertions.Param.{Param}
use Rattle.gil_syntax.specs.Programs.{find_pred}
use Rattle.gil_syntax.specs.Pure.{PureExpr, PurePredUse, PureItem, pure, uses, PurePredDef}
use Rattle.gil_syntax.specs.Valid.{param_names}
use Rattle.assert_logic.specs.Matching.{scope_of}
use Rattle.pure_terms.specs.Pure.{PureTerm, list_of, from_list, PureAtom}
use Rattle.sym_evaluation.specs.Pure.{PureStore}
use Rattle.sym_evaluation.specs.Questions.{AreTermsOf}
use Rattle.sym_model.specs.Cores.{consume_asks}
use Rattle.sym_model.specs.Lists.{Each, OneOf, IsAmong}
use Rattle.sym_model.specs.Terms.{StateTerms, all_of, asked_of, IsOwnCondition, IsMadeOf}
use Rattle.sym_states.specs.Producing.{IsAskedAmong}
use Rattle.sym_states.specs.Pure.{PureFact, PureState}
use Rattle.sym_matching.specs.Origins.{AsksElements, AsksOuts, AsksValues, AsksPure, AsksCase, AddsOnlyTo, IsGivenAmong, IsDefinedBy, AreKnownOuts, IsStoreOfCase, terms_at}
use Rattle.sym_matching.specs.Pure.{PureOuts}
use Rattle.footprint.specs.Pure.{PureMatch, PureLeaves, PureMatching, all_match, unmatched, unknown}

-- How far matching came: an item of the assertion may be matched in this store; a use of it is given these terms as its outs; or the cases of a
-- predicate are tried with these ins and known outs.
pub data Stage : Type 0 where
  stands : PureStore → Stage
  gives : PureStore → PurePredUse → List PureTerm → Stage
  opens : List ℕ → List PureTerm → PureOuts → Stage

-- the names of the assertion with their sorts, its items, how far matching came, and the terms of the memory there
pub record Reached : Type 0 where
  pub scope : List Param
  pub items : List PureItem
  pub stage : Stage
  pub held : StateTerms

-- What matching begins with: the predicates of the program, the facts of the state, and the assertions that are tried.
pub record Origin : Type 0 where
  pub preds : List PurePredDef
  pub facts : List PureFact
  pub starts : List Reached

-- the terms of a use: those of its ins, and those of its outs that are known
pub record AreAskedTerms (bs : PureStore) (u : PurePredUse) (ins : List PureTerm) (known : PureOuts) : Type 0 where
  pub ins_are : AreTermsOf bs u.ins ins
  pub known_are : AreKnownOuts bs u.outs known

-- what is taken out of a memory is made of the ins and of what it held, and so is what it holds then
pub record IsTakenOut (ins : List PureTerm) (before : StateTerms) (outs : List PureTerm) (after : StateTerms) : Type 0 where
  pub outs_made : IsMadeOf (ins ++ all_of before) None (list_of (from_list outs))
  pub rest_made : Each (IsMadeOf (ins ++ all_of before) None) (all_of after)

-- How far matching may come.
pub data MayReach (o : Origin) : Reached → Type 0 where
  -- it begins
  begins : {r : Reached} → IsAmong r o.starts → MayReach o r
  -- a pure item gives a name a term
  defines : {scope : List Param} {items : List PureItem} {bs after : PureStore} {held : StateTerms} {e : PureExpr}
      → MayReach o (record { scope = scope; items = items; stage = stands bs; held = held })
      → IsAmong (pure e) items → AddsOnlyTo (IsDefinedBy e bs) bs after
      → MayReach o (record { scope = scope; items = items; stage = stands after; held = held })
  -- a use takes a fact of its predicate
  takes_fact : {scope : List Param} {items : List PureItem} {bs : PureStore} {held : StateTerms} {u : PurePredUse} (c : PureFact)
      → MayReach o (record { scope = scope; items = items; stage = stands bs; held = held })
      → IsAmong (uses u) items → IsAmong c o.facts → c.pred ≡ u.pred
      → MayReach o (record { scope = scope; items = items; stage = gives bs u c.outs; held = held })
  -- or a key of the memory
  takes_key : {scope : List Param} {items : List PureItem} {bs : PureStore} {held after : StateTerms} {u : PurePredUse} {ins outs : List PureTerm}
      → MayReach o (record { scope = scope; items = items; stage = stands bs; held = held })
      → IsAmong (uses u) items → AreTermsOf bs u.ins ins → IsTakenOut ins held outs after
      → MayReach o (record { scope = scope; items = items; stage = gives bs u outs; held = after })
  -- or cases of its predicate are tried
  tries : {scope : List Param} {items : List PureItem} {bs : PureStore} {held : StateTerms} {u : PurePredUse} {ins : List PureTerm} {known : PureOuts}
      → MayReach o (record { scope = scope; items = items; stage = stands bs; held = held })
      → IsAmong (uses u) items → AreAskedTerms bs u ins known
      → MayReach o (record { scope = scope; items = items; stage = opens u.pred ins known; held = held })
  enters : {scope : List Param} {items : List PureItem} {x : List ℕ} {ins : List PureTerm} {known : PureOuts} {held : StateTerms} {d : PurePredDef} {body : List PureItem} {bs : PureStore}
      → MayReach o (record { scope = scope; items = items; stage = opens x ins known; held = held })
      → find_pred o.preds x ≡ Some d → IsAmong body d.cases → IsStoreOfCase d ins known bs
      → MayReach o (record { scope = scope_of d; items = body; stage = stands bs; held = held })
  -- and a case that is matched gives the outs of its predicate
  leaves_case : {scope : List Param} {items : List PureItem} {bs : PureStore} {held : StateTerms} {u : PurePredUse} {d : PurePredDef} {body : List PureItem} {inner : PureStore} {outs : List PureTerm} {after : StateTerms}
      → MayReach o (record { scope = scope; items = items; stage = stands bs; held = held })
      → IsAmong (uses u) items → find_pred o.preds u.pred ≡ Some d → IsAmong body d.cases
      → MayReach o (record { scope = scope_of d; items = body; stage = stands inner; held = after })
      → terms_at inner (param_names d.outs) ≡ Some outs
      → MayReach o (record { scope = scope; items = items; stage = gives bs u outs; held = after })
  -- names among the outs of a use are given their terms
  goes_on : {scope : List Param} {items : List PureItem} {bs after : PureStore} {held : StateTerms} {u : PurePredUse} {ts : List PureTerm}
      → MayReach o (record { scope = scope; items = items; stage = gives bs u ts; held = held })
      → AddsOnlyTo (IsGivenAmong u.outs ts) bs after
      → MayReach o (record { scope = scope; items = items; stage = stands after; held = held })

-- ---- conditions

-- that a fact of the use's predicate has its ins and the outs that are known
abbrev pub AsksFacts : List PureFact → PurePredUse → List PureTerm → PureOuts → PureAtom → Type 0
AsksFacts facts u ins known a = OneOf (λ c. (c.pred ≡ u.pred) × (AsksElements c.ins ins a ⊎ AsksOuts known c.outs a)) facts

-- what matching an item may ask in a store
abbrev pub AsksItem : Origin → List Param → PureStore → StateTerms → PureAtom → PureItem → Type 0
AsksItem o scope bs held a (pure e) = AsksPure scope e bs a
AsksItem o scope bs held a (uses u) =
    IsAskedAmong bs (u.ins ++ u.outs) a
    ⊎ ((ins : List PureTerm) × (AreTermsOf bs u.ins ins
    × (IsOwnCondition (asked_of (consume_asks ins) held) a
    ⊎ ((known : PureOuts) × (AreKnownOuts bs u.outs known × AsksFacts o.facts u ins known a)))))

abbrev pub AsksStage : Origin → List Param → List PureItem → StateTerms → PureAtom → Stage → Type 0
AsksStage o scope items held a (stands bs) = OneOf (AsksItem o scope bs held a) items
AsksStage o scope items held a (gives bs u ts) = AsksValues scope u.outs ts bs a
AsksStage o scope items held a (opens x ins known) =
    (d : PurePredDef) × ((find_pred o.preds x ≡ Some d) × AsksCase d ins known a)

-- The condition is own to an item: it is one that matching may ask where it may come.
abbrev pub IsOwnToMatching : Origin → PureAtom → Type 0
IsOwnToMatching o a = (r : Reached) × (MayReach o r × AsksStage o r.scope r.items r.held a r.stage)

-- ---- leaves and answers

-- conditions that are these with own ones behind them
abbrev pub AddsOwn : Origin → List PureAtom → List PureAtom → Type 0
AddsOwn o conds longer = (more : List PureAtom) × ((longer ≡ conds ++ more) × Each (IsOwnToMatching o) more)

module _ {S : Type 0} (terms : S → StateTerms) (o : Origin) where
  -- the match has own conditions more, some of the facts, and a store and a memory that matching these items may reach
  pub record MatchComesFrom (scope : List Param) (items : List PureItem) (conds : List PureAtom) (m : PureMatch S) : Type 0 where
    pub own : AddsOwn o conds m.state.conds
    pub facts : Each (λ c. IsAmong c o.facts) m.state.facts
    pub reached : MayReach o (record { scope = scope; items = items; stage = stands m.store; held = terms m.state.memory })

-- Each match has the property, and the conditions of all else are these with own ones behind them.
pub record LeavesAdd {S : Type 0} (o : Origin) (conds : List PureAtom) (IsGood : PureMatch S → Type 0) (leaves : PureLeaves S) : Type 0 where
  pub matched : Each IsGood leaves.matched
  pub stopped : Each (λ c. AddsOwn o conds c.conds) leaves.stopped
  pub undecided : Each (λ u. AddsOwn o conds u.conds) leaves.undecided

abbrev pub LeavesComeFrom : {S : Type 0} → (S → StateTerms) → Origin → List Param → List PureItem → List PureAtom → PureLeaves S → Type 0
LeavesComeFrom terms o scope items conds leaves = LeavesAdd o conds (MatchComesFrom terms o scope items conds) leaves

-- The names with their sorts, and the items, of an assertion that may be matched whole.
abbrev pub Ends : Type 1
Ends = List Param → List PureItem → Type 0

-- the match is one of such an assertion
abbrev pub EndComesFrom : {S : Type 0} → (S → StateTerms) → Origin → Ends → List PureAtom → PureMatch S → Type 0
EndComesFrom terms o IsEnd conds m =
    (scope : List Param) × ((items : List PureItem) × (IsEnd scope items × MatchComesFrom terms o scope items conds m))

-- What is answered of a state with these conditions: each match is one of such an assertion.
abbrev pub AnswerComesFrom : {S : Type 0} → (S → StateTerms) → Origin → Ends → List PureAtom → PureMatching S → Type 0
AnswerComesFrom terms o IsEnd conds (all_match ms) = Each (EndComesFrom terms o IsEnd conds) ms
AnswerComesFrom terms o IsEnd conds (unmatched c v) = AddsOwn o conds c.conds
AnswerComesFrom terms o IsEnd conds (unknown asked reason) = AddsOwn o conds asked

-- one of these assertions, with these names
abbrev pub IsOneOf : List Param → List (List PureItem) → List Param → List PureItem → Type 0
IsOneOf names posts scope items = (scope ≡ names) × IsAmong items posts

-- a case of the predicate
abbrev pub IsCaseOf : List PurePredDef → List ℕ → List Param → List PureItem → Type 0
IsCaseOf preds x scope items = (d : PurePredDef) × ((find_pred preds x ≡ Some d) × (scope ≡ scope_of d) × IsAmong items d.cases)

-- matching begins with these items in this store and state
abbrev pub beginning : {S : Type 0} → (S → StateTerms) → List Param → PureStore → PureState S → List PureItem → Reached
beginning terms scope bs s items = record { scope = scope; items = items; stage = stands bs; held = terms s.memory }

-- ... with one of several assertions
abbrev pub origin_of : {S : Type 0} → (S → StateTerms) → List PurePredDef → List Param → List (List PureItem) → PureStore → PureState S → Origin
origin_of terms preds scope posts bs s = record {
  preds = preds;
  facts = s.facts;
  starts = map (beginning terms scope bs s) posts;
}

-- ... or with the cases of a predicate, which is folded
abbrev pub fold_origin : {S : Type 0} → (S → StateTerms) → List PurePredDef → List ℕ → List PureTerm → List PureTerm → PureState S → Origin
fold_origin terms preds x ins outs s = record {
  preds = preds;
  facts = s.facts;
  starts = record { scope = []; items = []; stage = opens x ins (map Some outs); held = terms s.memory } ∷ [];
}
