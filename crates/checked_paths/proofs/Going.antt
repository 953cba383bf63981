-- What holds of next paths holds of those that go on.
use Rattle.std.proofs.Common.{◌≡◌, List, Option, Some, None, sym, subst}
use Rattle.gil_values.specs.Pure.{PureValue}
use Rattle.mem_model.specs.Heaps.{Heap}
use Rattle.sym_model.specs.Lists.{Each}
use Rattle.sym_model.specs.Terms.{StateTerms}
use Rattle.sym_paths.specs.Pure.{PureEnd, returned, failed, threw, missed, vanished, cut, unknown, PurePath}
use Rattle.sym_states.specs.Pure.{PureFact}
use Rattle.checked_paths.specs.Covering.{IsCaused}
use Rattle.checked_paths.specs.Following.{IsAnswerTo, IsAnswered, EachIsAnswered, OfGoing}
use Rattle.checked_paths.specs.Pure.{PurePassed, PureNext, further, over, caused}
use Rattle.checked_paths.proofs.Lists.{each_across}

module _ {S : Type 0} (P : PurePath S → Type 0) where
  pub caused_goes : (k : PureNext S) → IsCaused k → OfGoing P k
  caused_goes (caused cause) is = tt
  caused_goes (further y) is = absurd is
  caused_goes over is = absurd is

  pub over_goes : (k : PureNext S) → k ≡ over → OfGoing P k
  over_goes k is = subst (OfGoing P) (sym is) tt

  module _ (stands : S → List PureValue → Heap → Type 0) (terms : S → StateTerms) (facts : List PureFact) (passed : List (List (PurePassed S))) where
    pub answer_goes : (next : PurePath S) (k : PureNext S) → IsAnswered stands terms facts passed next k → P next → OfGoing P k
    answer_goes next k answer holds = by next.ending answer
      where
        by : (o : Option PureEnd) → IsAnswerTo stands terms facts passed next o k → OfGoing P k
        by None (y, (is, with_it)) = subst (OfGoing P) (sym is) (subst P (sym with_it.same_path) holds)
        by (Some vanished) stop = over_goes k stop
        by (Some (returned t)) stop = caused_goes k stop
        by (Some (failed t place)) stop = caused_goes k stop
        by (Some (threw t place)) stop = caused_goes k stop
        by (Some (missed l place)) stop = caused_goes k stop
        by (Some cut) stop = caused_goes k stop
        by (Some (unknown place reason)) stop = caused_goes k stop

    pub answers_go : (nexts : List (PurePath S)) (ks : List (PureNext S)) → EachIsAnswered stands terms facts passed nexts ks → Each P nexts → Each (OfGoing P) ks
    answers_go nexts ks are holds = each_across (IsAnswered stands terms facts passed) P (OfGoing P) nexts ks are (λ next k answer. answer_goes next k answer) holds
