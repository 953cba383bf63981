-- Which conditions answers have: those of the path or of a state, and what was asked behind them.
use Rattle.std.specs.Prelude.{◌≡◌, ◌⊎◌, ℕ, List, [], ◌∷◌, Option, Some, None, ⊤}
use Rattle.gil_syntax.specs.declared.assertions.Param.{Param}
use Rattle.gil_syntax.specs.Pure.{PureExpr, PureParts, PureItem, PurePredUse, PurePredDef}
use Rattle.pure_terms.specs.Pure.{PureTerm, PureAtom}
use Rattle.sym_evaluation.specs.Pure.{PureStore}
use Rattle.sym_evaluation.specs.Questions.{AreTermsOf}
use Rattle.sym_model.specs.Terms.{StateTerms}
use Rattle.sym_paths.specs.Pure.{PurePath}
use Rattle.sym_states.specs.Producing.{IsAskedAmong}
use Rattle.sym_states.specs.Pure.{PureFact, PureState}
use Rattle.sym_unfolding.specs.Origins.{AsksUnfolding}
use Rattle.footprint.specs.Origins.{IsOneOf, AnswerComesFrom}
use Rattle.footprint.specs.Pure.{PureMatching}
use Rattle.checked_paths.specs.Causes.{cause_view, shown_in}
use Rattle.checked_paths.specs.Exactness.{HaveMoreOf}
use Rattle.checked_paths.specs.Meaning.{EachWith}
use Rattle.checked_paths.specs.Pure.{PureEntry, PureChecking, PureNext, further, over, caused}
use Rattle.checked_rows.specs.Asking.{origin_in, AsksEntryEnd, AddsTo}
use Rattle.checked_rows.specs.Doubts.{PureDoubt, always, under, beyond}
use Rattle.checked_rows.specs.Ending.{PureFinish, by_return, by_throw, finish_at}
use Rattle.checked_rows.specs.Names.{AreNames}
use Rattle.checked_rows.specs.Reading.{PureReading, values, never, doubted}

-- ---- answers

-- the answer has these conditions, if it has any
abbrev pub HasConds : {S : Type 0} → List PureAtom → PureNext S → Type 0
HasConds conds (further y) = y.path.conds ≡ conds
HasConds conds over = ⊤
HasConds conds (caused cause) = (shown_in (cause_view cause)).conds ≡ conds

-- the answer has the path's conditions, or those of the state and such ones behind them
abbrev pub AddsIn : {S : Type 0} → (PureAtom → Type 0) → PureChecking S → PureState S → PureNext S → Type 0
AddsIn own x s n = HasConds x.path.conds n ⊎ AddsTo own s.conds n

-- the conditions of the doubt, if it has its own, are these and such ones behind them
abbrev pub DoubtAdds : (PureAtom → Type 0) → List PureAtom → PureDoubt → Type 0
DoubtAdds own conds always = ⊤
DoubtAdds own conds (under more u) = HaveMoreOf own conds more
DoubtAdds own conds (beyond more reason) = HaveMoreOf own conds more

-- ---- reading

-- What is read are the terms of the expressions, and what is added is what these ask.
abbrev pub ReadingAsks : {S : Type 0} → List PureAtom → PureStore → List PureExpr → PureReading S → Type 0
ReadingAsks conds bs es (values r ts) = HaveMoreOf (IsAskedAmong bs es) conds r.conds × AreTermsOf bs es ts
ReadingAsks conds bs es never = ⊤
ReadingAsks conds bs es (doubted doubt) = DoubtAdds (IsAskedAmong bs es) conds doubt

-- what a use asks after its ins were read: what its outs ask, and what then is asked of the terms
abbrev pub AsksAfterIns : (List ℕ → List PureTerm → List PureTerm → PureAtom → Type 0) → PureStore → PurePredUse → List PureTerm → PureAtom
    → Type 0
AsksAfterIns Asks bs u ins a = IsAskedAmong bs u.outs a ⊎ ((outs : List PureTerm) × (AreTermsOf bs u.outs outs × Asks u.pred ins outs a))

-- what unfolding a predicate asks, beside some facts
abbrev pub AsksUnfoldingAny : PurePredDef → List ℕ → List PureTerm → List PureTerm → PureAtom → Type 0
AsksUnfoldingAny d x ins outs a = (facts : List PureFact) × AsksUnfolding d ins outs facts a

-- ---- matching

-- What is answered of an assertion that is matched where the path stands comes from matching it there.
abbrev pub MatchingAsks : {S : Type 0} → (S → StateTerms) → PureEntry → PureChecking S → List PurePredDef → List Param → List PureItem
    → PureMatching S → Type 0
MatchingAsks terms e x preds scope items r =
    (bs : PureStore) × (AreNames x.path.stack e.variables bs
    × AnswerComesFrom terms (origin_in preds x.facts (terms x.path.memory) scope bs (items ∷ [])) (IsOneOf scope (items ∷ [])) x.path.conds r)

-- ---- ends of the entry

module _ {S : Type 0} (p : PureParts) (e : PureEntry) where
  -- What is answered of a next path has its conditions, and where the entry ends with it, what that asks.
  abbrev pub EndAsksBy : PurePath S → Option PureFinish → PureNext S → Type 0
  EndAsksBy next (Some (by_return t)) k = AddsTo (AsksEntryEnd p e e.spec.posts) next.conds k
  EndAsksBy next (Some (by_throw t)) k = AddsTo (AsksEntryEnd p e e.spec.errors) next.conds k
  EndAsksBy next None k = HasConds next.conds k

  abbrev pub EndAsks : PurePath S → PureNext S → Type 0
  EndAsks next k = EndAsksBy next (finish_at next.ending) k

  abbrev pub EachEndAsks : List (PurePath S) → List (PureNext S) → Type 0
  EachEndAsks nexts ks = EachWith EndAsks nexts ks
