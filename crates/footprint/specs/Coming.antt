-- Where the leaves of each part of matching come from, wherever matching may have come to its beginning.
use Rattle.std.specs.Prelude.{◌≡◌, ◌⊎◌, ◌++◌, ℕ, List, [], slice_get, Option, Some, None}
use Rattle.gil_syntax.specs.declared.assertions.Param.{Param}
use Rattle.gil_syntax.specs.Programs.{find_pred}
use Rattle.gil_syntax.specs.Pure.{PureExpr, PurePredUse, PureItem, pure, uses, PurePredDef}
use Rattle.assert_logic.specs.Matching.{scope_of}
use Rattle.pure_terms.specs.Pure.{PureTerm, PureAtom}
use Rattle.sym_evaluation.specs.Pure.{PureStore}
use Rattle.sym_evaluation.specs.Questions.{AreTermsOf}
use Rattle.sym_model.specs.Lists.{Each, OneOf, IsAmong}
use Rattle.sym_model.specs.Terms.{StateTerms}
use Rattle.sym_states.specs.Producing.{IsAskedAmong}
use Rattle.sym_states.specs.Pure.{PureFact, PureState}
use Rattle.sym_matching.specs.Origins.{AsksElements, AsksOuts, TestComesFrom, SplitComesFrom}
use Rattle.sym_matching.specs.Pure.{PureTest, PureSplit, PureOuts}
use Rattle.footprint.specs.Choosing.{PureChoice}
use Rattle.footprint.specs.Origins.{opens, Origin, AreAskedTerms, MayReach, beginning, LeavesAdd, LeavesComeFrom, EndComesFrom, IsOneOf, IsCaseOf, fold_origin}
use Rattle.footprint.specs.Pure.{PureMatch, PureStop, PureLeaves}
use Rattle.footprint.specs.Spreading.{joined, Gathers}
use Rattle.footprint.specs.Uses.{PureAsked}

-- ---- what is asked of a use

-- each condition is one that evaluating ins and outs asks, and what is found are the terms of the use
abbrev pub AskedComesFrom : PureStore → PurePredUse → PureSplit PureAsked → Type 0
AskedComesFrom bs u split = SplitComesFrom (IsAskedAmong bs (u.ins ++ u.outs)) (λ a. AreAskedTerms bs u a.ins a.known) split

-- ---- facts

-- that this fact of the predicate has the ins and the outs that are known
abbrev pub AsksFact : List ℕ → List PureTerm → PureOuts → PureAtom → PureFact → Type 0
AsksFact x ins known a c = (c.pred ≡ x) × (AsksElements c.ins ins a ⊎ AsksOuts known c.outs a)

-- what holds where the test can be met
abbrev pub WhereMet : Type 0 → Option (List PureAtom) → Type 0
WhereMet P None = Unit {0}
WhereMet P (Some conds) = P

-- the conditions of testing a fact, which is one of the predicate where it may fit
pub record FactComesFrom (c : PureFact) (x : List ℕ) (ins : List PureTerm) (known : PureOuts) (test : PureTest) : Type 0 where
  pub conditions : TestComesFrom (λ a. AsksFact x ins known a c) test
  pub named : WhereMet (c.pred ≡ x) test.when

-- a fact of the predicate has the place
abbrev pub HasPlace : List PureFact → List ℕ → ℕ → Type 0
HasPlace cs x place = (c : PureFact) × ((slice_get cs place ≡ Some c) × (c.pred ≡ x))

abbrev pub AsksFactOf : List PureFact → List ℕ → List PureTerm → PureOuts → PureAtom → Type 0
AsksFactOf cs x ins known a = OneOf (AsksFact x ins known a) cs

-- the conditions of the choice of a fact, and the facts that are chosen
pub record ChoiceComesFrom (cs : List PureFact) (x : List ℕ) (ins : List PureTerm) (known : PureOuts) (choice : PureChoice) : Type 0 where
  pub found : Each (λ f. Each (AsksFactOf cs x ins known) f.conds × HasPlace cs x f.place) choice.found
  pub none : Each (Each (AsksFactOf cs x ins known)) choice.none

module _ {S : Type 0} (terms : S → StateTerms) where
  -- ---- where a part of matching begins

  -- the state's facts are some of those at the beginning
  abbrev pub HasFactsOf : Origin → PureState S → Type 0
  HasFactsOf o s = Each (λ c. IsAmong c o.facts) s.facts

  -- matching these items may have come to this store and the state's memory
  abbrev pub MayStand : Origin → List Param → List PureItem → PureStore → PureState S → Type 0
  MayStand o scope items bs s = MayReach o (beginning terms scope bs s items)

  -- matching them may have come to the cases of a predicate
  abbrev pub MayOpen : Origin → List Param → List PureItem → List ℕ → PureAsked → PureState S → Type 0
  MayOpen o scope items x a s = MayReach o (record { scope = scope; items = items; stage = opens x a.ins a.known; held = terms s.memory })

  -- ---- items

  abbrev pub GuardComesFrom : List Param → PureExpr → PureStore → PureState S → PureLeaves S → Type 0
  GuardComesFrom scope e bs s leaves =
      (o : Origin) (whole : List PureItem) → HasFactsOf o s → IsAmong (pure e) whole → MayStand o scope whole bs s
      → LeavesComeFrom terms o scope whole s.conds leaves

  abbrev pub CoreComesFrom : List Param → PurePredUse → List PureTerm → PureStore → PureState S → PureLeaves S → Type 0
  CoreComesFrom scope u ins bs s leaves =
      (o : Origin) (whole : List PureItem) → HasFactsOf o s → IsAmong (uses u) whole → AreTermsOf bs u.ins ins → MayStand o scope whole bs s
      → LeavesComeFrom terms o scope whole s.conds leaves

  module _ (preds : List PurePredDef) where
    abbrev pub ItemComesFrom : List Param → PureItem → PureMatch S → PureLeaves S → Type 0
    ItemComesFrom scope item m leaves =
        (o : Origin) (whole : List PureItem) → o.preds ≡ preds → HasFactsOf o m.state → IsAmong item whole
        → MayStand o scope whole m.store m.state → LeavesComeFrom terms o scope whole m.state.conds leaves

    abbrev pub ItemsComeFrom : List Param → List PureItem → PureMatch S → PureLeaves S → Type 0
    ItemsComeFrom scope items m leaves =
        (o : Origin) (whole : List PureItem) → o.preds ≡ preds → HasFactsOf o m.state → Each (λ i. IsAmong i whole) items
        → MayStand o scope whole m.store m.state → LeavesComeFrom terms o scope whole m.state.conds leaves

    -- what comes of going on with an item
    abbrev pub NextComesFrom : List Param → PureItem → PureLeaves S → PureLeaves S → Type 0
    NextComesFrom scope item before after =
        (o : Origin) (whole : List PureItem) (conds : List PureAtom) → o.preds ≡ preds → IsAmong item whole
        → LeavesComeFrom terms o scope whole conds before → LeavesComeFrom terms o scope whole conds after

    -- ---- uses

    abbrev pub UseComesFrom : List Param → PurePredUse → PureStore → PureAsked → PureState S → PureLeaves S → Type 0
    UseComesFrom scope u bs a s leaves =
        (o : Origin) (whole : List PureItem) → o.preds ≡ preds → HasFactsOf o s → IsAmong (uses u) whole → AreAskedTerms bs u a.ins a.known
        → MayStand o scope whole bs s → LeavesComeFrom terms o scope whole s.conds leaves

    -- of a use of this predicate
    abbrev pub PredComesFrom : List Param → PurePredDef → PurePredUse → PureStore → PureAsked → PureState S → PureLeaves S → Type 0
    PredComesFrom scope d u bs a s leaves =
        (o : Origin) (whole : List PureItem) → o.preds ≡ preds → HasFactsOf o s → IsAmong (uses u) whole → find_pred o.preds u.pred ≡ Some d
        → AreAskedTerms bs u a.ins a.known → MayStand o scope whole bs s → LeavesComeFrom terms o scope whole s.conds leaves

    -- ---- one of several assertions

    -- one assertion is tried, under these conditions
    abbrev pub TryComesFrom : List Param → List PureItem → PureState S → PureStore → List PureAtom → PureLeaves S → Type 0
    TryComesFrom scope items s bs conds leaves =
        (o : Origin) → o.preds ≡ preds → HasFactsOf o s → MayStand o scope items bs s → LeavesComeFrom terms o scope items conds leaves

    -- under those of a stop
    abbrev pub RetryComesFrom : List Param → List PureItem → PureState S → PureStore → PureStop → PureLeaves S → Type 0
    RetryComesFrom scope items s bs c leaves = TryComesFrom scope items s bs c.conds leaves

    -- it is tried where none before it is matched; what matched or isn't decided stays
    abbrev pub NextTryComesFrom : List Param → List PureItem → PureState S → PureStore → PureLeaves S → PureLeaves S → Type 0
    NextTryComesFrom scope items s bs before after =
        (next : PureLeaves S) × (Gathers (RetryComesFrom scope items s bs) before.stopped next
        × (after ≡ joined (record { matched = before.matched; stopped = []; undecided = before.undecided }) next))

    -- several are tried
    abbrev pub TriesComeFrom : List Param → List (List PureItem) → PureState S → PureStore → PureLeaves S → Type 0
    TriesComeFrom scope bodies s bs leaves =
        (o : Origin) → o.preds ≡ preds → HasFactsOf o s → Each (λ items. MayStand o scope items bs s) bodies
        → LeavesAdd o s.conds (EndComesFrom terms o (IsOneOf scope bodies) s.conds) leaves

    -- the cases of a predicate are
    abbrev pub CasesComeFrom : PurePredDef → PureAsked → PureState S → PureLeaves S → Type 0
    CasesComeFrom d a s leaves =
        (o : Origin) (scope : List Param) (items : List PureItem) (x : List ℕ) → o.preds ≡ preds → HasFactsOf o s → find_pred o.preds x ≡ Some d
        → MayOpen o scope items x a s → LeavesAdd o s.conds (EndComesFrom terms o (IsOneOf (scope_of d) d.cases) s.conds) leaves

    -- ---- folding

    abbrev pub FoldComesFrom : List ℕ → List PureTerm → List PureTerm → PureState S → PureLeaves S → Type 0
    FoldComesFrom x ins outs s leaves =
        LeavesAdd (fold_origin terms preds x ins outs s) s.conds (EndComesFrom terms (fold_origin terms preds x ins outs s) (IsCaseOf preds x) s.conds) leaves
