-- Which conditions adding assertions, and unfolding, put behind those of the state.
use Rattle.std.proofs.Common.{◌≡◌, inl, inr, List, [], ◌∷◌, ◌++◌, map, Some, sym, ap, subst, ◌∙◌, append_assoc}
use Rattle.std.proofs.lemmas.List.{append-nil}
use Rattle.gil_syntax.specs.Pure.{PureItem, PurePredDef}
use Rattle.pure_terms.specs.Pure.{PureTerm, PureAtom}
use Rattle.sym_evaluation.specs.Pure.{PureStore}
use Rattle.sym_matching.specs.Origins.{IsStoreOfCase}
use Rattle.sym_model.specs.Lists.{OneOf}
use Rattle.sym_model.specs.Terms.{StateTerms}
use Rattle.sym_model.proofs.ListLaws.{each_append, each_to, one_left, one_right, one_at, one_to}
use Rattle.sym_states.specs.Producing.{IsOwnTo, IsProduced, is_begun, is_added}
use Rattle.sym_states.specs.Pure.{PureFact, PureState}
use Rattle.sym_unfolding.specs.Origins.{AsksAdding, IsAddedFrom, AsksTaking, AsksUnfolding, AddsSuch, IsUnfoldedFrom}
use Rattle.sym_unfolding.specs.Unfolding.{PureUnfoldedCase}

-- ---- adding

-- the condition is own to one of the items
abbrev pub IsOwnToSome : PureStore → List PureItem → PureAtom → Type 0
IsOwnToSome after items a = (held : StateTerms) × OneOf (λ item. IsOwnTo after item held a) items

own_before : (after : PureStore) (items more : List PureItem) (a : PureAtom) → IsOwnToSome after items a → IsOwnToSome after (items ++ more) a
own_before after items more a own = (own.0, one_left (λ item. IsOwnTo after item own.0 a) items more own.1)

pub produced_adds : {S : Type 0} (terms : S → StateTerms) (after : PureStore) (s : PureState S) (items : List PureItem) (r : PureState S) → IsProduced terms after s items r → AddsSuch (IsOwnToSome after items) s.conds r.conds
produced_adds {S} terms after s items r (is_begun is same) = ([], (ap (λ (x : PureState S). x.conds) is ∙ sym (append-nil s.conds), tt))
produced_adds {S} terms after s items r (is_added {items = xs} {item = item} {q = q} before next) =
    let (more, (are, all)) = produced_adds terms after s xs q before in (
      more ++ next.more,
      (
        next.conds ∙ ap (λ cs. cs ++ next.more) are ∙ append_assoc s.conds more next.more,
        each_append (IsOwnToSome after (xs ++ item ∷ [])) more next.more
            (each_to (IsOwnToSome after xs) (IsOwnToSome after (xs ++ item ∷ [])) more (own_before after xs (item ∷ [])) all)
            (each_to (IsOwnTo after item (terms q.memory)) (IsOwnToSome after (xs ++ item ∷ [])) next.more
            (λ a own. (terms q.memory, one_right (λ x. IsOwnTo after x (terms q.memory) a) xs (item ∷ []) (inl own))) next.own),
      ),
    )

-- behind the conditions of the state and these further ones, each is own to one of the items
pub added_asks : {S : Type 0} (terms : S → StateTerms) (bs : PureStore) (conds : List PureAtom) (items : List PureItem) (s r : PureState S) → IsAddedFrom terms bs conds items s r → AddsSuch (AsksAdding bs items) (s.conds ++ conds) r.conds
added_asks terms bs conds items s r (after, (vars, (names, upto))) =
    let (more, (are, all)) = produced_adds terms after (record s { vars = vars; conds = s.conds ++ conds }) upto.done r upto.produced in (
      more,
      (
        are,
        each_to (IsOwnToSome after upto.done) (AsksAdding bs items) more
            (λ a own.
            let whole = subst (λ xs. IsOwnToSome after xs a) (sym upto.are) (own_before after upto.done upto.later a own) in
            (after, (whole.0, (names, whole.1)))) all,
      ),
    )

-- ---- unfolding

-- adding a case in place of the fact asks it, where the parameters have the fact's terms
abbrev AsksCaseOf : PurePredDef → PureAtom → PureFact → Type 0
AsksCaseOf d a c = (c.pred ≡ d.name) × ((bs : PureStore) × (IsStoreOfCase d c.ins (map Some c.outs) bs × OneOf (λ items. AsksAdding bs items a) d.cases))

-- behind the conditions of the state, each is one that taking the fact asks, or that adding a case in its place does
pub unfolded_asks : {S : Type 0} (terms : S → StateTerms) (d : PurePredDef) (ins outs : List PureTerm) (s : PureState S) (r : PureUnfoldedCase S) → IsUnfoldedFrom terms d ins outs s r → AddsSuch (AsksUnfolding d ins outs s.facts) s.conds r.state.conds
unfolded_asks {S} terms d ins outs s r is =
    let (more, (are, all)) = added_asks terms is.store is.taken is.items (record s { facts = is.others }) r.state is.added in (
      is.taken ++ more,
      (
        are ∙ append_assoc s.conds is.taken more,
        each_append (AsksUnfolding d ins outs s.facts) is.taken more
            (each_to (AsksTaking d ins outs s.facts) (AsksUnfolding d ins outs s.facts) is.taken (λ a asks. inl asks) is.asked)
            (each_to (AsksAdding is.store is.items) (AsksUnfolding d ins outs s.facts) more (λ a asks. inr (by_case a asks)) all),
      ),
    )
  where
    by_case : (a : PureAtom) → AsksAdding is.store is.items a → OneOf (AsksCaseOf d a) s.facts
    by_case a asks =
        one_to (λ c. c ≡ is.fact) (AsksCaseOf d a) s.facts
        (λ c same. subst (AsksCaseOf d a) (sym same) (is.of_pred, (is.store, (is.store_is, one_at (λ items. AsksAdding is.store items a) d.cases r.number is.items is.case asks)))) is.among
