-- What reading, matching and unfolding in a state ask.
use Rattle.std.proofs.Common.{⊎_elim, inl, inr, ℕ, List, Option, Some, None, refl, ap, subst}
use Rattle.gil_values.specs.declared.places.Place.{Place}
use Rattle.gil_values.specs.Pure.{PureValue}
use Rattle.gil_syntax.specs.declared.assertions.Param.{Param}
use Rattle.gil_syntax.specs.Pure.{PureExpr, PureItem, PurePredUse, PurePredDef}
use Rattle.mem_model.specs.Heaps.{Heap}
use Rattle.pure_terms.specs.Pure.{PureTerm, PureAtom}
use Rattle.sym_evaluation.specs.Pure.{PureStore, PureGoodCase}
use Rattle.sym_evaluation.specs.Questions.{AreTermsOf, OnResult, OnConditions}
use Rattle.sym_model.specs.Lists.{Each}
use Rattle.sym_model.specs.Terms.{StateTerms}
use Rattle.sym_model.proofs.ListLaws.{each_to}
use Rattle.sym_states.specs.Producing.{IsAskedAmong}
use Rattle.sym_states.specs.Pure.{PureFact, PureState}
use Rattle.sym_unfolding.specs.Origins.{AsksTaking, AsksUnfolding, IsUnfoldedFrom}
use Rattle.sym_unfolding.specs.Unfolding.{PureUnfoldedCase}
use Rattle.sym_unfolding.proofs.OriginLaws.{unfolded_asks}
use Rattle.footprint.specs.Origins.{IsOwnToMatching, MatchComesFrom, Ends, AnswerComesFrom, IsCaseOf, fold_origin, origin_of}
use Rattle.footprint.specs.Pure.{PureMatch, PureMatching}
use Rattle.checked_paths.proofs.Lists.{each_across}
use Rattle.checked_paths.specs.declared.nexts.FaultKind.{FaultKind}
use Rattle.checked_paths.specs.Exactness.{HaveMoreOf}
use Rattle.checked_paths.specs.Meaning.{EachWith}
use Rattle.checked_paths.specs.Pure.{PureChecking, PureNext}
use Rattle.checked_rows.specs.Asked.{HasConds, AddsIn, DoubtAdds, ReadingAsks, AsksAfterIns, AsksUnfoldingAny}
use Rattle.checked_rows.specs.Asking.{origin_in, AsksFolding}
use Rattle.checked_rows.specs.Doubts.{PureDoubt, IsDoubtAlone}
use Rattle.checked_rows.specs.Reading.{taken}
use Rattle.checked_rows.specs.States.{IsStateOf}
use Rattle.checked_rows.proofs.AskedLaws.{more_to, adds_to, same_adds, adds_since, doubts_in, doubt_to}
use Rattle.checked_rows.proofs.StateLaws.{state_conds}

-- ---- reading

pub taken_asks : {S : Type 0} (s : PureState S) (bs : PureStore) (es : List PureExpr) (g : Option (PureGoodCase (List PureTerm))) → OnConditions (IsAskedAmong bs es) g → OnResult (AreTermsOf bs es) g → ReadingAsks s.conds bs es (taken s g)
taken_asks s bs es None conds are = tt
taken_asks s bs es (Some g) conds are = ((g.conds, (refl, conds)), are)

-- ---- matching where a path stands

module _ {S : Type 0} (stands : S → List PureValue → Heap → Type 0) (terms : S → StateTerms) (x : PureChecking S) (s : PureState S) (is : IsStateOf stands terms x.path x.facts s) where
  pub origin_there : (preds : List PurePredDef) (scope : List Param) (bs : PureStore) (posts : List (List PureItem)) (IsEnd : Ends) (r : PureMatching S) → AnswerComesFrom terms (origin_of terms preds scope posts bs s) IsEnd s.conds r
      → AnswerComesFrom terms (origin_in preds x.facts (terms x.path.memory) scope bs posts) IsEnd x.path.conds r
  origin_there preds scope bs posts IsEnd r comes =
      subst (λ cs. AnswerComesFrom terms (origin_in preds x.facts (terms x.path.memory) scope bs posts) IsEnd cs r) (state_conds stands terms x.path x.facts s is)
      (subst (λ ts. AnswerComesFrom terms (origin_in preds x.facts ts scope bs posts) IsEnd s.conds r) is.same_terms
      (subst (λ fs. AnswerComesFrom terms (origin_in preds fs (terms s.memory) scope bs posts) IsEnd s.conds r) (ap (λ (q : PureState S). q.facts) is.is) comes))

-- ---- folding

module _ {S : Type 0} (terms : S → StateTerms) (preds : List PurePredDef) (name : List ℕ) (ins outs : List PureTerm) (x : PureChecking S) (s : PureState S) where
  pub own_folds : (a : PureAtom) → IsOwnToMatching (fold_origin terms preds name ins outs s) a → AsksFolding preds name ins outs a
  own_folds a own = (s.facts, (terms s.memory, own))

  folded_in : (m : PureMatch S) (n : PureNext S) → HasConds m.state.conds n
      → (scope : List Param) × ((items : List PureItem) × (IsCaseOf preds name scope items × MatchComesFrom terms (fold_origin terms preds name ins outs s) scope items s.conds m)) → AddsIn (AsksFolding preds name ins outs) x s n
  folded_in m n same (scope, (items, (case, comes))) =
      inr (same_adds (AsksFolding preds name ins outs) s.conds m.state.conds n (more_to (IsOwnToMatching (fold_origin terms preds name ins outs s)) (AsksFolding preds name ins outs) s.conds m.state.conds own_folds comes.own) same)

  pub all_folded : (ms : List (PureMatch S)) (ns : List (PureNext S)) → EachWith (λ m n. HasConds m.state.conds n) ms ns
      → Each (λ m. (scope : List Param) × ((items : List PureItem) × (IsCaseOf preds name scope items × MatchComesFrom terms (fold_origin terms preds name ins outs s) scope items s.conds m))) ms → Each (AddsIn (AsksFolding preds name ins outs) x s) ns
  all_folded ms ns same come =
      each_across (λ m n. HasConds m.state.conds n)
      (λ m. (scope : List Param) × ((items : List PureItem) × (IsCaseOf preds name scope items × MatchComesFrom terms (fold_origin terms preds name ins outs s) scope items s.conds m))) (AddsIn (AsksFolding preds name ins outs) x s) ms ns same
      folded_in come

-- ---- unfolding

module _ {S : Type 0} (terms : S → StateTerms) (d : PurePredDef) (ins outs : List PureTerm) (x : PureChecking S) (s : PureState S) where
  pub taking_unfolds : (a : PureAtom) → AsksTaking d ins outs s.facts a → AsksUnfolding d ins outs s.facts a
  taking_unfolds a asks = inl asks

  unfolded_in : (r : PureUnfoldedCase S) (n : PureNext S) → HasConds r.state.conds n → IsUnfoldedFrom terms d ins outs s r → AddsIn (AsksUnfolding d ins outs s.facts) x s n
  unfolded_in r n same comes = inr (same_adds (AsksUnfolding d ins outs s.facts) s.conds r.state.conds n (unfolded_asks terms d ins outs s r comes) same)

  pub all_unfolded : (rs : List (PureUnfoldedCase S)) (ns : List (PureNext S)) → EachWith (λ r n. HasConds r.state.conds n) rs ns → Each (IsUnfoldedFrom terms d ins outs s) rs → Each (AddsIn (AsksUnfolding d ins outs s.facts) x s) ns
  all_unfolded rs ns same come = each_across (λ r n. HasConds r.state.conds n) (IsUnfoldedFrom terms d ins outs s) (AddsIn (AsksUnfolding d ins outs s.facts) x s) rs ns same unfolded_in come

-- ---- outs

out_asks : (Asks : List ℕ → List PureTerm → List PureTerm → PureAtom → Type 0) (bs : PureStore) (u : PurePredUse) (ins : List PureTerm) (a : PureAtom) → IsAskedAmong bs u.outs a → AsksAfterIns Asks bs u ins a
out_asks Asks bs u ins a asked = inl asked

module _ {S : Type 0} (Asks : List ℕ → List PureTerm → List PureTerm → PureAtom → Type 0) (bs : PureStore) (u : PurePredUse) (ins : List PureTerm) where
  -- the outs were read, and what follows is asked of the terms
  pub outs_asked : (outs : List PureTerm) (x : PureChecking S) (s r : PureState S) → HaveMoreOf (IsAskedAmong bs u.outs) s.conds r.conds → AreTermsOf bs u.outs outs → (ns : List (PureNext S)) → Each (AddsIn (Asks u.pred ins outs) x r) ns
      → Each (AddsIn (AsksAfterIns Asks bs u ins) x s) ns
  outs_asked outs x s r more are ns each =
      each_to (AddsIn (Asks u.pred ins outs) x r) (AddsIn (AsksAfterIns Asks bs u ins) x s) ns
      (adds_since (IsAskedAmong bs u.outs) (Asks u.pred ins outs) (AsksAfterIns Asks bs u ins) (out_asks Asks bs u ins) (λ a asks. inr (outs, (are, asks))) x s r more) each

  -- the outs may have no values
  pub outs_doubted : (x : PureChecking S) (s : PureState S) (kind : FaultKind) (here : Place) (doubt : PureDoubt) → DoubtAdds (IsAskedAmong bs u.outs) s.conds doubt → (ns : List (PureNext S)) → IsDoubtAlone kind here x.path doubt ns
      → Each (AddsIn (AsksAfterIns Asks bs u ins) x s) ns
  outs_doubted x s kind here doubt adds ns alone =
      doubts_in kind here x (AsksAfterIns Asks bs u ins) s doubt (doubt_to (IsAskedAmong bs u.outs) (AsksAfterIns Asks bs u ins) (out_asks Asks bs u ins) s.conds doubt adds) ns alone

-- beside these facts, or beside any
pub any_unfolded : {S : Type 0} (d : PurePredDef) (name : List ℕ) (ins outs : List PureTerm) (facts : List PureFact) (x : PureChecking S) (s : PureState S) (ns : List (PureNext S)) → Each (AddsIn (AsksUnfolding d ins outs facts) x s) ns
    → Each (AddsIn (AsksUnfoldingAny d name ins outs) x s) ns
any_unfolded d name ins outs facts x s ns each =
    each_to (AddsIn (AsksUnfolding d ins outs facts) x s) (AddsIn (AsksUnfoldingAny d name ins outs) x s) ns
    (λ n adds. ⊎_elim inl (λ further. inr (adds_to (AsksUnfolding d ins outs facts) (AsksUnfoldingAny d name ins outs) (λ a asks. (facts, asks)) s.conds n further)) adds) each
