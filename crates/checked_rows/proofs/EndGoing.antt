-- What holds of next paths holds of those that go on where the entry may end.
use Rattle.std.proofs.Common.{◌≡◌, ⊎_elim, List, Option, Some, None}
use Rattle.gil_values.specs.Pure.{PureValue}
use Rattle.gil_syntax.specs.Pure.{PureParts}
use Rattle.mem_model.specs.Heaps.{Heap}
use Rattle.sym_model.specs.Lists.{Each}
use Rattle.sym_model.specs.Terms.{StateTerms}
use Rattle.sym_paths.specs.Pure.{PurePath}
use Rattle.sym_states.specs.Pure.{PureFact, PureState}
use Rattle.checked_paths.specs.Following.{OfGoing}
use Rattle.checked_paths.specs.Pure.{PureEntry, PurePassed, PureNext}
use Rattle.checked_paths.proofs.Going.{answer_goes, caused_goes, over_goes}
use Rattle.checked_paths.proofs.Lists.{each_across}
use Rattle.checked_rows.specs.Ending.{EachIsEnded, IsEnded, IsEndedBy, PureFinish, by_return, by_throw, finish_at}

module _ {S : Type 0} (p : PureParts) (stands : S → List PureValue → Heap → Type 0) (terms : S → StateTerms) (e : PureEntry) (s : PureState S) (facts : List PureFact) (passed : List (List (PurePassed S)))
    (P : PurePath S → Type 0) where
  end_goes : (next : PurePath S) (k : PureNext S) → IsEnded p stands terms e s facts passed next k → P next → OfGoing P k
  end_goes next k ended holds = by (finish_at next.ending) ended
    where
      by : (o : Option PureFinish) → IsEndedBy p stands terms e s facts passed next o k → OfGoing P k
      by (Some (by_return t)) finishes = ⊎_elim (λ is. caused_goes P k is) (λ done. over_goes P k done.0) finishes
      by (Some (by_throw t)) finishes = ⊎_elim (λ is. caused_goes P k is) (λ done. over_goes P k done.0) finishes
      by None answer = answer_goes P stands terms facts passed next k answer holds

  pub ends_go : (nexts : List (PurePath S)) (ks : List (PureNext S)) → EachIsEnded p stands terms e s facts passed nexts ks → Each P nexts → Each (OfGoing P) ks
  ends_go nexts ks are holds = each_across (IsEnded p stands terms e s facts passed) P (OfGoing P) nexts ks are end_goes holds
