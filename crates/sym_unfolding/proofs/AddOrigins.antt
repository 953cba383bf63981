-- States to which items were added come of the state before them.
use Rattle.std.proofs.Common.{◌≡◌, ◌⊎◌, ⊎_elim, inl, inr, ℕ, List, [], ◌∷◌, ◌++◌, drop, length, IsTrue, refl, sym, ap, subst, ◌∙◌, append_assoc}
use Rattle.std.proofs.lemmas.List.{append-nil}
use Rattle.gil_values.specs.Pure.{PureValue}
use Rattle.gil_syntax.specs.declared.assertions.Param.{Param}
use Rattle.gil_syntax.specs.Pure.{PureItem}
use Rattle.mem_model.specs.declared.keys.MemoryName.{MemoryName}
use Rattle.mem_model.specs.Heaps.{Heap}
use Rattle.pure_terms.specs.declared.variables.Sort.{Sort}
use Rattle.pure_terms.specs.Pure.{PureAtom}
use Rattle.sym_evaluation.specs.Pure.{PureStore}
use Rattle.sym_matching.specs.Origins.{AddsOnlyTo}
use Rattle.sym_model.specs.Lists.{Each}
use Rattle.sym_model.specs.Meaning.{has_open}
use Rattle.sym_model.specs.Terms.{StateTerms}
use Rattle.sym_model.proofs.ListLaws.{each_to}
use Rattle.sym_states.specs.Naming.{PureNamed, IsNaming}
use Rattle.sym_states.specs.Producing.{IsProduced, is_begun, is_added, IsStopped, added_conds}
use Rattle.sym_states.specs.Pure.{PureState}
use Rattle.sym_unfolding.specs.Adding.{AddsOver}
use Rattle.sym_unfolding.specs.Origins.{IsVariableOf, IsProducedUpTo, IsAddedFrom}
use Rattle.sym_unfolding.proofs.AddLaws.{drop_front, open_later}
use Rattle.sym_unfolding.proofs.OriginLaws.{produced_adds}

-- names have the terms that they had, or variables
names_added : (ps : List Param) (xs : List (List ℕ)) (vars : List Sort) (bs : PureStore) (named : PureNamed) → IsNaming ps xs vars bs named → AddsOnlyTo IsVariableOf bs named.store
names_added ps xs vars bs named naming x t at = ⊎_elim inl (λ is. inr (record { number = is.number; sort = is.sort }, is.is)) (naming.variables x t at)

-- ---- what comes of a copy comes of the state

module _ {S : Type 0} (terms : S → StateTerms) (bs : PureStore) (s copy : PureState S) (is : copy ≡ record s { memory = copy.memory }) (same : terms copy.memory ≡ terms s.memory) where
  produced_again : (items : List PureItem) (r : PureState S) → IsProduced terms bs copy items r → IsProduced terms bs s items r
  produced_again items r (is_begun begun same_terms) = is_begun (begun ∙ ap (λ (x : PureState S). record x { memory = r.memory }) is) (same_terms ∙ same)
  produced_again items r (is_added {items = xs} {q = q} before next) = is_added (produced_again xs q before) next

  pub up_to_again : (items : List PureItem) (r : PureState S) → IsProducedUpTo terms bs copy items r → IsProducedUpTo terms bs s items r
  up_to_again items r come = record {
    done = come.done;
    later = come.later;
    are = come.are;
    produced = produced_again come.done r come.produced;
    whole = ⊎_elim inl (λ form. inr (subst (λ (cs : List PureAtom). IsTrue (has_open (drop (length cs) r.conds))) (ap (λ (x : PureState S). x.conds) is) form)) come.whole;
  }

-- ---- all items, or those up to one at which a literal form is needed

module _ {S : Type 0} (stands : S → List PureValue → Heap → Type 0) (terms : S → StateTerms) (bs : PureStore) (s : PureState S) (items : List PureItem) (r : PureState S) where
  stopped_up_to : IsStopped stands terms bs s items r → IsProducedUpTo terms bs s items r
  stopped_up_to stopped =
      let last = stopped.last in
      let (rest, (earlier, own)) = produced_adds terms bs s stopped.before stopped.at stopped.produced in
      let whole : r.conds ≡ s.conds ++ (rest ++ last.more) = last.conds ∙ ap (λ cs. cs ++ last.more) earlier ∙ append_assoc s.conds rest last.more in
      let since : added_conds s r ≡ rest ++ last.more = ap (drop (length s.conds)) whole ∙ drop_front s.conds (rest ++ last.more) in
      let at_last : added_conds stopped.at r ≡ last.more = ap (drop (length stopped.at.conds)) last.conds ∙ drop_front stopped.at.conds last.more in
      record {
        done = stopped.before ++ stopped.item ∷ [];
        later = stopped.later;
        are = stopped.are ∙ sym (append_assoc stopped.before (stopped.item ∷ []) stopped.later);
        produced = is_added stopped.produced last;
        whole = inr (subst (λ (cs : List PureAtom). IsTrue (has_open cs)) (sym since) (open_later rest last.more (subst (λ (cs : List PureAtom). IsTrue (has_open cs)) at_last stopped.needs.needed)));
      }

  pub up_to : IsProduced terms bs s items r ⊎ IsStopped stands terms bs s items r → IsProducedUpTo terms bs s items r
  up_to come = ⊎_elim (λ whole. record { done = items; later = []; are = sym (append-nil items); produced = whole; whole = inl refl }) stopped_up_to come

pub items_come : {S : Type 0} (memory : MemoryName) (stands : S → List PureValue → Heap → Type 0) (terms : S → StateTerms) (kept : S → Type 0) (ps : List Param) (bs : PureStore) (more : List PureAtom) (items : List PureItem) (s : PureState S) (xs : List (List ℕ)) (named : PureNamed)
    → IsNaming ps xs s.vars bs named → (rs : List (PureState S)) → AddsOver memory stands terms kept named more items s rs → Each (IsAddedFrom terms bs more items s) rs
items_come {S} memory stands terms kept ps bs more items s xs named naming rs adds =
    each_to (λ r. IsProduced terms named.store adds.first items r ⊎ IsStopped stands terms named.store adds.first items r) (IsAddedFrom terms bs more items s) rs
    (λ r come. (
      named.store,
      (
        named.vars,
        (
          names_added ps xs s.vars bs named naming,
          up_to_again terms named.store (record s { vars = named.vars; conds = s.conds ++ more }) adds.first adds.is adds.same_memory.same_terms items r (up_to stands terms named.store adds.first items r come),
        ),
      ),
    )) adds.origin
