-- What the answers of a call by specification add to the conditions of a path: what matching the precondition asks where the parameters have
-- the arguments' terms, what adding a postcondition to what it left asks, and what the entry's end does, where nothing catches what is thrown.
use Rattle.std.specs.Prelude.{◌≡◌, ◌⊎◌, ℕ, List, [], ◌∷◌, Option, Some, None}
use Rattle.gil_syntax.specs.declared.assertions.Param.{Param}
use Rattle.gil_syntax.specs.Pure.{PureParts, PureItem, PureSpec}
use Rattle.footprint.specs.Pure.{PureMatch}
use Rattle.pure_terms.specs.Pure.{PureTerm, PureAtom}
use Rattle.sym_evaluation.specs.Pure.{PureStore, term_at}
use Rattle.sym_matching.specs.Origins.{AsksSorts}
use Rattle.sym_model.specs.Lists.{Each, OneOf}
use Rattle.sym_paths.specs.Frames.{running_store}
use Rattle.sym_paths.specs.Pure.{PurePath}
use Rattle.sym_states.specs.Pure.{PureState}
use Rattle.sym_unfolding.specs.Origins.{AsksAdding}
use Rattle.checked_paths.specs.Pure.{PureEntry, PureNext}
use Rattle.checked_rows.specs.Asking.{AddsTo, AsksEntryEnd, AsksMatching, MayBeMatched}
use Rattle.call_rows.specs.declared.leaving.Completion.{Completion}
use Rattle.call_rows.specs.Calling.{called_by}
use Rattle.call_rows.specs.Matches.{scope_of}

-- each condition that the answer has more than the state is such a one
abbrev pub AddsToState : {S : Type 0} → (PureAtom → Type 0) → PureState S → PureNext S → Type 0
AddsToState own r k = AddsTo own r.conds k

-- ---- where the procedure ends

-- what is thrown may end the entry
abbrev pub AsksCompleting : PureParts → PureEntry → Completion → PureAtom → Type 0
AsksCompleting p e Completion.Returns a = ⊥
AsksCompleting p e Completion.Throws a = AsksEntryEnd p e e.spec.errors a

-- what adding the postcondition asks, and then the end
abbrev pub AsksPost : PureParts → PureEntry → Completion → PureStore → List PureItem → PureAtom → Type 0
AsksPost p e how bs items a = AsksAdding bs items a ⊎ AsksCompleting p e how a

-- ... one of them
abbrev pub AsksPosts : PureParts → PureEntry → Completion → PureStore → List (List PureItem) → PureAtom → Type 0
AsksPosts p e how bs posts a = OneOf (λ items. AsksPost p e how bs items a) posts

-- ---- where it begins

-- what both lists of postconditions ask, in the store of a match
abbrev pub AsksMatched : PureParts → PureEntry → PureSpec → PureStore → PureAtom → Type 0
AsksMatched p e used bs a =
    AsksPosts p e Completion.Returns bs used.posts a ⊎ AsksPosts p e Completion.Throws bs used.errors a

-- the answers have only such conditions more than the match
abbrev pub AddsToMatch : {S : Type 0} → PureParts → PureEntry → PureSpec → PureMatch S → List (PureNext S) → Type 0
AddsToMatch p e used m ks = Each (AddsTo (AsksMatched p e used m.store) m.state.conds) ks

-- what matching the precondition asks, where parameters have the terms of this store, and what comes then
abbrev pub AsksFitting : PureParts → PureEntry → PureSpec → PureStore → PureAtom → Type 0
AsksFitting p e used bs a =
    AsksMatching p.preds (scope_of used) bs (used.pre ∷ []) a
    ⊎ ((after : PureStore) × (MayBeMatched p.preds (scope_of used) bs used.pre after × AsksMatched p e used after a))

-- that a parameter's term has its sorts
abbrev pub AsksParams : List Param → PureStore → PureAtom → Type 0
AsksParams qs bs a = (x : List ℕ) × ((t : PureTerm) × ((term_at bs x ≡ Some t) × AsksSorts qs x t a))

abbrev pub AsksSpecified : PureParts → PureEntry → PureSpec → PureStore → PureAtom → Type 0
AsksSpecified p e used bs a = AsksParams used.params bs a ⊎ AsksFitting p e used bs a

-- where a specification calls the procedure, if one does
abbrev pub AsksFurther : PureParts → PureEntry → Option PureSpec → PureStore → PureAtom → Type 0
AsksFurther p e None bs a = ⊥
AsksFurther p e (Some used) bs a = AsksSpecified p e used bs a

-- the answers have only such conditions more than the next path
abbrev pub AddsToNext : {S : Type 0} → PureParts → PureEntry → PurePath S → List (PureNext S) → Type 0
AddsToNext p e next ks =
    Each (AddsTo (AsksFurther p e (called_by p next.ending next.stack) (running_store next.stack)) next.conds) ks
