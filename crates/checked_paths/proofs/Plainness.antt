-- What is answered of the next paths of a plain path.
use Rattle.std.proofs.Common.{◌≡◌, ℕ, ◌+◌, ◌<◌, ◌≤◌, ◌^◌, ℤ, List, [], ◌∷◌, Option, Some, None, IsTrue, sym, subst, arith}
use Rattle.gil_values.specs.declared.places.Place.{Place}
use Rattle.gil_values.specs.Pure.{PureValue}
use Rattle.gil_syntax.specs.Pure.{PureParts, PureCommand, PureNumberedCommand}
use Rattle.gil_syntax.specs.Simple.{is_simple_command}
use Rattle.mem_model.specs.Heaps.{Heap}
use Rattle.pure_terms.specs.Fragment.{InFragment}
use Rattle.sym_engine.proofs.Fragments.{each_over_all}
use Rattle.sym_engine.proofs.SettledPlain.{plain_in_fragment}
use Rattle.sym_model.specs.Lists.{Each}
use Rattle.sym_model.specs.Terms.{StateTerms}
use Rattle.sym_model.proofs.ListLaws.{same_some, not_none}
use Rattle.sym_paths.specs.Meaning.{command_of_path}
use Rattle.sym_paths.specs.Pure.{PureEnd, returned, failed, threw, missed, vanished, cut, unknown, PurePath}
use Rattle.sym_paths.specs.Steps.{Grows, IsUnknown, IsPlainPath, StaysWithin, step_growth, narrow_bound}
use Rattle.sym_states.specs.Pure.{PureFact}
use Rattle.checked_paths.specs.Causes.{PureCause, failure, fault, bound, caused_by, cause_of_end, shown_of, ShowsStop, ShowsEnd, EachShowsEnd}
use Rattle.checked_paths.specs.declared.nexts.FaultKind.{FaultKind}
use Rattle.checked_paths.specs.Following.{IsAnswerTo, IsAnswered, EachIsAnswered}
use Rattle.checked_paths.specs.Meaning.{EachWith}
use Rattle.checked_paths.specs.Plainly.{IsSureCause, OfNext, LeadsPlainly}
use Rattle.checked_paths.specs.Pure.{PurePassed, PureNext, further, over, caused}

-- a next path that is plain, isn't unknown, and whose conditions are in the fragment
abbrev pub IsSurePath : {S : Type 0} → (PurePath S → Type 0) → PurePath S → Type 0
IsSurePath P next = (P next × ¬ IsUnknown next.ending) × InFragment next.conds

module _ {S : Type 0} (P : PurePath S → Type 0) (here : Place) where
  pub sure_caused : (k : PureNext S) (cause : PureCause) → caused_by k ≡ Some cause → IsSureCause cause → OfNext P k
  sure_caused (caused c) cause is sure = subst IsSureCause (sym (same_some is)) sure
  sure_caused (further y) cause is sure = not_none is
  sure_caused over cause is sure = not_none is

  module _ (stands : S → List PureValue → Heap → Type 0) (terms : S → StateTerms) (facts : List PureFact) (passed : List (List (PurePassed S))) where
    pub answer_sure : (next : PurePath S) (k : PureNext S) → IsAnswered stands terms facts passed next k → ShowsEnd here next k → IsSurePath P next → OfNext P k
    answer_sure next k answer shows ((holds, known), decided) = by next.ending answer shows known
      where
        by : (o : Option PureEnd) → IsAnswerTo stands terms facts passed next o k → ShowsStop o (shown_of here next) (Some k) → ¬ IsUnknown o → OfNext P k
        by None (y, (is, with_it)) shown sure = subst (OfNext P) (sym is) (subst P (sym with_it.same_path) holds)
        by (Some vanished) stop shown sure = subst (OfNext P) (sym stop) tt
        by (Some (returned t)) stop shown sure = sure_caused k (fault FaultKind.Post (shown_of here next)) shown decided
        by (Some (failed t place)) stop shown sure = sure_caused k (failure t (shown_of here next)) shown decided
        by (Some (threw t place)) stop shown sure = sure_caused k (fault FaultKind.Post (shown_of here next)) shown decided
        by (Some (missed l place)) stop shown sure = sure_caused k (fault FaultKind.Missing (shown_of here next)) shown decided
        by (Some cut) stop shown sure = sure_caused k (bound (shown_of here next)) shown decided
        by (Some (unknown place reason)) stop shown sure = absurd (sure tt)

    pub answers_sure : (nexts : List (PurePath S)) (ks : List (PureNext S)) → EachIsAnswered stands terms facts passed nexts ks → EachShowsEnd here nexts ks → Each (IsSurePath P) nexts → Each (OfNext P) ks
    answers_sure [] [] are shows sure = tt
    answers_sure (next ∷ nexts) (k ∷ ks) are shows sure = (answer_sure next k are.0 shows.0 sure.0, answers_sure nexts ks are.1 shows.1 sure.1)
    answers_sure [] (k ∷ ks) are shows sure = absurd are
    answers_sure (next ∷ nexts) [] are shows sure = absurd are

-- ---- the next paths of a step

module _ {S : Type 0} (p : PureParts) (plain : S → ℤ → ℤ → Type 0) (terms : S → StateTerms) (path : PurePath S) (early : path.steps < 10000) (nexts : List (PurePath S))
    (growth : Each (Grows terms path) nexts) (within : StaysWithin p (λ c. IsTrue (is_simple_command c)) (IsPlainPath plain) path nexts) where
  few : (next : PurePath S) → Grows terms path next → next.steps < 2 ^ 39
  few next grown = let steps : next.steps ≡ path.steps + 1 = grown.steps in omega (arith, steps, early)

  one_sure : (b : ℕ) → b ≤ narrow_bound → (next : PurePath S) → Grows terms path next → IsPlainPath plain b next × ¬ IsUnknown next.ending → IsSurePath (IsPlainPath plain b) next
  one_sure b narrow next grown from = (from, plain_in_fragment plain b next narrow (few next grown) (each_over_all next.vars next.conds grown.over.conds) from.0)

  all_sure : (b : ℕ) → b ≤ narrow_bound → (qs : List (PurePath S)) → Each (Grows terms path) qs → Each (λ next. IsPlainPath plain b next × ¬ IsUnknown next.ending) qs → Each (IsSurePath (IsPlainPath plain b)) qs
  all_sure b narrow [] grown from = tt
  all_sure b narrow (q ∷ qs) grown from = (one_sure b narrow q grown.0 from.0, all_sure b narrow qs grown.1 from.1)

  -- at a command of simple form
  pub nexts_sure : (c : PureNumberedCommand) (b : ℕ) → command_of_path p path ≡ Some c → IsTrue (is_simple_command c.command) → b + step_growth ≤ narrow_bound → IsPlainPath plain b path
      → Each (IsSurePath (IsPlainPath plain (b + step_growth))) nexts
  nexts_sure c b at simple narrow from = all_sure (b + step_growth) narrow nexts growth (within c b at simple narrow from)

  pub leads_plainly : (here : Place) (stands : S → List PureValue → Heap → Type 0) (facts : List PureFact) (passed : List (List (PurePassed S))) (ks : List (PureNext S)) → EachIsAnswered stands terms facts passed nexts ks → EachShowsEnd here nexts ks
      → LeadsPlainly p plain path ks
  leads_plainly here stands facts passed ks are shows c b at simple narrow from =
      answers_sure (IsPlainPath plain (b + step_growth)) here stands terms facts passed nexts ks are shows (nexts_sure c b at simple narrow from)
