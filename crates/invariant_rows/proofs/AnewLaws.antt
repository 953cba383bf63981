-- What adding the invariant asks in the loop: names have the terms that they have there, and the listed ones new variables.
use Rattle.std.proofs.Common.{◌≡◌, ◌⊎◌, inl, inr, ℕ, List, [], ◌∷◌, ◌++◌, Bool, true, false, cond, Option, Some, None, IsSome, refl, sym, ap, subst, ◌∙◌, true≢false}
use Rattle.std.proofs.lemmas.List.{append-nil}
use Rattle.std.specs.Str.{bytes_eq}
use Rattle.gil_values.specs.Pure.{PureValue}
use Rattle.gil_syntax.specs.declared.assertions.Param.{Param}
use Rattle.gil_syntax.specs.Pure.{PureItem}
use Rattle.gil_syntax.specs.Valid.{is_among}
use Rattle.mem_model.specs.Heaps.{Heap}
use Rattle.pure_terms.specs.declared.variables.Sort.{Sort}
use Rattle.pure_terms.specs.Pure.{PureTerm, PureAtom}
use Rattle.sym_evaluation.specs.Pure.{PureStore, term_at}
use Rattle.sym_matching.specs.Origins.{AddsOnlyTo}
use Rattle.sym_model.proofs.ListLaws.{each_to, not_none, same_some}
use Rattle.sym_model.specs.Lists.{Each}
use Rattle.sym_model.specs.Terms.{StateTerms}
use Rattle.sym_paths.specs.Frames.{running_store}
use Rattle.sym_paths.specs.Pure.{PureFrame, PurePath}
use Rattle.sym_states.specs.Naming.{PureNamed, IsNaming, IsVariableFor}
use Rattle.sym_states.specs.Pure.{PureState}
use Rattle.sym_unfolding.proofs.OriginLaws.{added_asks}
use Rattle.sym_unfolding.specs.Origins.{IsVariableOf, AsksAdding, IsAddedFrom}
use Rattle.checked_paths.proofs.Lists.{each_across}
use Rattle.checked_paths.specs.Exactness.{HaveMoreOf}
use Rattle.checked_paths.specs.Meaning.{EachWith}
use Rattle.checked_paths.specs.Pure.{PureEntry, PureChecking, PureNext}
use Rattle.checked_rows.specs.Asked.{HasConds}
use Rattle.checked_rows.specs.Asking.{AddsTo}
use Rattle.checked_rows.specs.Names.{variables_there, AreNames}
use Rattle.invariant_rows.specs.Asked.{AsksAddingThere, AsksAddingAnew}
use Rattle.invariant_rows.specs.Entering.{running_with, IsInLoop}
use Rattle.invariant_rows.specs.Listed.{AreUnlisted}
use Rattle.invariant_rows.proofs.AskedLaws.{more_to, adds_to, same_adds}

-- ---- the states to which the items were added

pub added_adds : {S : Type 0} (terms : S → StateTerms) (e : PureEntry) (y : PureChecking S) (bs : PureStore) (conds : List PureAtom) (items : List PureItem) (s : PureState S) (rs : List (PureState S)) (nexts : List (PureNext S))
    → AreNames y.path.stack e.variables bs → s.conds ≡ y.path.conds → conds ≡ [] → Each (IsAddedFrom terms bs conds items s) rs → EachWith (λ r. HasConds r.conds) rs nexts → Each (AddsTo (AsksAddingThere e y items) y.path.conds) nexts
added_adds {S} terms e y bs conds items s rs nexts names same none all answered =
    each_across (λ (r : PureState S). HasConds r.conds) (IsAddedFrom terms bs conds items s) (AddsTo (AsksAddingThere e y items) y.path.conds) rs nexts answered
    (λ r k has added. same_adds (AsksAddingThere e y items) y.path.conds r.conds k
    (subst (λ cs. HaveMoreOf (AsksAddingThere e y items) cs r.conds) ((ap (λ cs. s.conds ++ cs) none ∙ append-nil s.conds) ∙ same)
    (more_to (AsksAdding bs items) (AsksAddingThere e y items) (s.conds ++ conds) r.conds (λ a asks. (bs, (names, asks))) (added_asks terms bs conds items s r added))) has) all

-- ---- names in the loop

-- the term of a name in two stores, one before the other
first_at : (bs cs : PureStore) (x : List ℕ) (t : PureTerm) → term_at bs x ≡ Some t → term_at (bs ++ cs) x ≡ Some t
first_at [] cs x t is = not_none is
first_at (b ∷ bs) cs x t is = by (bytes_eq b.name x) (first_at bs cs x t) is
  where
    by : (l : Bool) → (term_at bs x ≡ Some t → term_at (bs ++ cs) x ≡ Some t) → cond l (Some b.term) (term_at bs x) ≡ Some t → cond l (Some b.term) (term_at (bs ++ cs) x) ≡ Some t
    by true later at = at
    by false later at = later at

second_at : (bs cs : PureStore) (x : List ℕ) → term_at bs x ≡ None → term_at (bs ++ cs) x ≡ term_at cs x
second_at [] cs x none = refl
second_at (b ∷ bs) cs x none = by (bytes_eq b.name x) (second_at bs cs x) none
  where
    by : (l : Bool) → (term_at bs x ≡ None → term_at (bs ++ cs) x ≡ term_at cs x) → cond l (Some b.term) (term_at bs x) ≡ None → cond l (Some b.term) (term_at (bs ++ cs) x) ≡ term_at cs x
    by true later at = not_none (sym at)
    by false later at = later at

module _ (ps : List Param) (xs : List (List ℕ)) (vars : List Sort) (running bs variables : PureStore) (named : PureNamed) (unlisted : AreUnlisted xs running bs) (naming : IsNaming ps xs vars bs named) where
  -- a name that isn't listed has the term that it had
  had_there : (z : List ℕ) (t : PureTerm) → term_at bs z ≡ Some t → term_at running z ≡ Some t
  had_there z t is = by (is_among xs z) (sym (unlisted z) ∙ is)
    where
      by : (l : Bool) → cond l None (term_at running z) ≡ Some t → term_at running z ≡ Some t
      by true none = not_none none
      by false there = there

  had_none : (z : List ℕ) → is_among xs z ≡ false → term_at bs z ≡ None → term_at running z ≡ None
  had_none z isnt none = sym (ap (λ l. cond l None (term_at running z)) isnt) ∙ (sym (unlisted z) ∙ none)

  new_or_had : (z : List ℕ) (t : PureTerm) → term_at (named.store ++ variables) z ≡ Some t → (term_at (running ++ variables) z ≡ Some t) ⊎ IsVariableOf z t
  new_or_had z t is = by (term_at named.store z) refl
    where
      of_named : (u : PureTerm) → u ≡ t → (term_at bs z ≡ Some u) ⊎ IsVariableFor ps z u → (term_at (running ++ variables) z ≡ Some t) ⊎ IsVariableOf z t
      of_named u same (inl had) = inl (first_at running variables z t (had_there z t (had ∙ ap Some same)))
      of_named u same (inr new) = inr (record { number = new.number; sort = new.sort }, sym same ∙ new.is)

      of_others : term_at named.store z ≡ None → (l : Bool) → is_among xs z ≡ l → (term_at (running ++ variables) z ≡ Some t) ⊎ IsVariableOf z t
      of_others none true listed = absurd (true≢false (sym (subst IsSome none (naming.all_named z listed))))
      of_others none false isnt =
          inl (second_at running variables z (had_none z isnt (sym (naming.others_stay z isnt) ∙ none)) ∙ (sym (second_at named.store variables z none) ∙ is))

      by : (o : Option PureTerm) → term_at named.store z ≡ o → (term_at (running ++ variables) z ≡ Some t) ⊎ IsVariableOf z t
      by (Some u) has = of_named u (same_some (sym (first_at named.store variables z u has) ∙ is)) (naming.variables z u has)
      by None none = of_others none (is_among xs z) refl

-- of the names where the frame that runs has another store
names_with : (ps : List Param) (xs : List (List ℕ)) (vars : List Sort) (bs variables : PureStore) (named : PureNamed) (fs : List PureFrame) → AreUnlisted xs (running_store fs) bs → IsNaming ps xs vars bs named
    → AddsOnlyTo IsVariableOf (running_store fs ++ variables_there fs variables) (running_store (running_with named.store fs) ++ variables_there (running_with named.store fs) variables)
names_with ps xs vars bs variables named [] unlisted naming z t is = not_none is
names_with ps xs vars bs variables named (f ∷ []) unlisted naming z t is = new_or_had ps xs vars f.store bs variables named unlisted naming z t is
names_with ps xs vars bs variables named (f ∷ g ∷ fs) unlisted naming z t is = new_or_had ps xs vars f.store bs [] named unlisted naming z t is

module _ {S : Type 0} (stands : S → List PureValue → Heap → Type 0) (terms : S → StateTerms) (e : PureEntry) (ps : List Param) (xs : List (List ℕ)) (bs : PureStore) (x : PureChecking S) (s : PureState S) (y : PureChecking S)
    (unlisted : AreUnlisted xs (running_store x.path.stack) bs) (inside : IsInLoop stands terms ps xs bs x s y) where
  -- what adding the items asks in the loop
  adding_anew : (items : List PureItem) (a : PureAtom) → AsksAddingThere e y items a → AsksAddingAnew e x items a
  adding_anew items a (after, (names, asks)) = (
    running_store x.path.stack ++ variables_there x.path.stack e.variables,
    (
      λ z. refl,
      (after, (λ z t is. names_with ps xs s.vars bs e.variables inside.named x.path.stack unlisted inside.naming z t (sym (there z) ∙ is), asks)),
    ),
  )
    where
      there : AreNames (running_with inside.named.store x.path.stack) e.variables after
      there = subst (λ fs. AreNames fs e.variables after) (ap (λ (q : PurePath S). q.stack) inside.same_path) names

  -- the answers in the loop have the conditions of the state, and behind them what is asked there
  pub loop_adds : (items : List PureItem) (nexts : List (PureNext S)) → Each (AddsTo (AsksAddingThere e y items) y.path.conds) nexts → Each (AddsTo (AsksAddingAnew e x items) s.conds) nexts
  loop_adds items nexts all =
      each_to (AddsTo (AsksAddingThere e y items) y.path.conds) (AddsTo (AsksAddingAnew e x items) s.conds) nexts
      (λ k adds. subst (λ cs. AddsTo (AsksAddingAnew e x items) cs k) (ap (λ (q : PurePath S). q.conds) inside.same_path)
      (adds_to (AsksAddingThere e y items) (AsksAddingAnew e x items) y.path.conds k (adding_anew items) adds)) all
