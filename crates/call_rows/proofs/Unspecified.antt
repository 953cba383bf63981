-- Calls of procedures without a specification.
use Rattle.std.proofs.Common.{◌≡◌, ℕ, List, [], ◌∷◌, ◌++◌, Option, Some, None, refl, sym, ap, subst, ◌∙◌}
use Rattle.std.proofs.lemmas.List.{append-nil}
use Rattle.gil_values.specs.declared.places.Place.{Place}
use Rattle.gil_values.specs.Pure.{PureValue, integer, boolean, text, symbol, kind, procedure, list}
use Rattle.gil_syntax.specs.Programs.{find_proc, find_spec}
use Rattle.gil_syntax.specs.Pure.{PureParts, PureExpr, literal, PureCommand, call, PureSpec}
use Rattle.gil_machine.proofs.Placed.{found_name}
use Rattle.mem_model.specs.Actions.{Actions}
use Rattle.mem_model.specs.declared.keys.MemoryName.{MemoryName}
use Rattle.mem_model.specs.Heaps.{Heap}
use Rattle.pure_terms.specs.declared.literals.Literal.{Literal}
use Rattle.pure_terms.specs.Pure.{PureTerm, literal as literal_term}
use Rattle.sym_evaluation.specs.Pure.{PureStore}
use Rattle.sym_evaluation.specs.Questions.{IsTermOf}
use Rattle.sym_model.specs.Lists.{Each}
use Rattle.sym_model.specs.Terms.{StateTerms}
use Rattle.sym_model.proofs.ListLaws.{same_some, not_none, each_left, each_right}
use Rattle.sym_paths.specs.Frames.{running_store}
use Rattle.sym_paths.specs.Origins.{HandsOver, GoesOnFrom, Follows}
use Rattle.sym_paths.specs.Pure.{PureEnd, PurePath}
use Rattle.sym_states.specs.Pure.{PureFact}
use Rattle.checked_paths.specs.Following.{IsAnswered, OfGoing}
use Rattle.checked_paths.specs.Plainly.{OfNext}
use Rattle.checked_paths.specs.Pure.{PureEntry, PurePassed, PureNext, further, over, caused}
use Rattle.checked_paths.proofs.Going.{answer_goes}
use Rattle.checked_paths.proofs.Plainness.{IsSurePath, answer_sure}
use Rattle.call_rows.specs.Calling.{spec_there, called_by, name_of, CallsUnspecified, IsUnspecified, AnswersNext, IsCalled, EachIsCalled}
use Rattle.call_rows.proofs.GatheringLaws.{each_gathered}

-- a literal of a procedure names that one
same_procedure : {f g : List ℕ} → literal_term (Literal.Proc f) ≡ literal_term (Literal.Proc g) → f ≡ g
same_procedure is = cc

pub named_so : (bs : PureStore) (w : PureValue) (g : List ℕ) → IsTermOf bs (literal w) (literal_term (Literal.Proc g)) → w ≡ procedure g
named_so bs (procedure f) g is = ap procedure (same_procedure (same_some is))
named_so bs (integer n) g is = cc
named_so bs (boolean b) g is = cc
named_so bs (text cs) g is = cc
named_so bs (kind k) g is = cc
named_so bs (symbol n) g is = not_none is
named_so bs (list ws) g is = not_none is

module _ {S : Type 0} (p : PureParts) (m : Actions) (terms : S → StateTerms) (path : PurePath S) (calls : CallsUnspecified p path) where
  none_there : (next : PurePath S) → HandsOver p m terms path next calls.variable (literal calls.value) calls.args calls.handler → spec_there p next.stack ≡ None
  none_there next handed =
      ap (spec_there p) handed.stack ∙ ap (find_spec p.specs) (found_name p.procs handed.callee handed.procedure handed.found)
      ∙ calls.unspecified handed.callee (named_so (running_store path.stack) calls.value handed.callee handed.named)

  pub is_unspecified : (next : PurePath S) → Follows p m terms path next → IsUnspecified p next
  is_unspecified next follows = by next.ending refl
    where
      by : (o : Option PureEnd) → next.ending ≡ o → called_by p o next.stack ≡ None
      by (Some how) is = refl
      by None is =
          let going : GoesOnFrom p m terms path next (call calls.variable (literal calls.value) calls.args calls.handler) =
          subst (GoesOnFrom p m terms path next) calls.command (follows.going calls.numbered calls.there is) in
          none_there next going.1

module _ {S : Type 0} (p : PureParts) (memory : MemoryName) (stands : S → List PureValue → Heap → Type 0) (terms : S → StateTerms) (kept : S → Type 0) (e : PureEntry) (here : Place)
    (facts : List PureFact) (passed : List (List (PurePassed S))) (P : PurePath S → Type 0) where
  one_goes : (next : PurePath S) (ks : List (PureNext S)) → IsCalled p memory stands terms kept e here facts passed next ks → IsUnspecified p next × P next → Each (OfGoing P) ks
  one_goes next ks (k, (answer, shows, answers)) (none, holds) =
      by k (answer_goes P stands terms facts passed next k answer holds) (subst (λ (o : Option PureSpec). AnswersNext p memory stands terms kept e here o k ks) none answers)
    where
      by : (k : PureNext S) → OfGoing P k → AnswersNext p memory stands terms kept e here None k ks → Each (OfGoing P) ks
      by (further y) goes is = subst (Each (OfGoing P)) (sym is) (goes, tt)
      by over goes is = subst (Each (OfGoing P)) (sym is) (tt, tt)
      by (caused cause) goes is = subst (Each (OfGoing P)) (sym is) (tt, tt)

  pub calls_go : (nexts : List (PurePath S)) (ks : List (PureNext S)) → EachIsCalled p memory stands terms kept e here facts passed nexts ks → Each (λ next. IsUnspecified p next × P next) nexts → Each (OfGoing P) ks
  calls_go nexts ks are holds = each_gathered (IsCalled p memory stands terms kept e here facts passed) (λ next. IsUnspecified p next × P next) (OfGoing P) nexts ks are one_goes holds

  -- the same of paths that are plain, and of causes that are sure
  one_sure : (next : PurePath S) (ks : List (PureNext S)) → IsCalled p memory stands terms kept e here facts passed next ks → IsUnspecified p next × IsSurePath P next → Each (OfNext P) ks
  one_sure next ks (k, (answer, shows, answers)) (none, sure) =
      by k (answer_sure P here stands terms facts passed next k answer shows sure) (subst (λ (o : Option PureSpec). AnswersNext p memory stands terms kept e here o k ks) none answers)
    where
      by : (k : PureNext S) → OfNext P k → AnswersNext p memory stands terms kept e here None k ks → Each (OfNext P) ks
      by (further y) holds is = subst (Each (OfNext P)) (sym is) (holds, tt)
      by over holds is = subst (Each (OfNext P)) (sym is) (tt, tt)
      by (caused cause) holds is = subst (Each (OfNext P)) (sym is) (holds, tt)

  pub calls_sure : (nexts : List (PurePath S)) (ks : List (PureNext S)) → EachIsCalled p memory stands terms kept e here facts passed nexts ks → Each (λ next. IsUnspecified p next × IsSurePath P next) nexts → Each (OfNext P) ks
  calls_sure nexts ks are holds = each_gathered (IsCalled p memory stands terms kept e here facts passed) (λ next. IsUnspecified p next × IsSurePath P next) (OfNext P) nexts ks are one_sure holds

pub each_both : {A : Type 0} (P Q : A → Type 0) (xs : List A) → Each P xs → Each Q xs → Each (λ x. P x × Q x) xs
each_both P Q [] first second = tt
each_both P Q (x ∷ xs) first second = ((first.0, second.0), each_both P Q xs first.1 second.1)

-- ---- names

pub names_none : {S : Type 0} (p : PureParts) (names more : List (List ℕ)) (before : List (PurePath S)) (next : PurePath S) → (Each (IsUnspecified p) before → names ≡ []) → more ≡ names ++ name_of (called_by p next.ending next.stack)
    → Each (IsUnspecified p) (before ++ next ∷ []) → more ≡ []
names_none p names more before next so_far is all =
    let none = (each_right (IsUnspecified p) before (next ∷ []) all).0 in
    is ∙ ap (λ o. names ++ name_of o) none ∙ append-nil names ∙ so_far (each_left (IsUnspecified p) before (next ∷ []) all)
