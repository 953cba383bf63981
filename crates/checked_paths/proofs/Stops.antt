-- What is answered of a path without an end.
use Rattle.std.proofs.Common.{◌≡◌, List, false, Option, Some, None, is_some, refl, sym, subst, true≢false}
use Rattle.std.specs.Option.{option_map}
use Rattle.gil_values.specs.Pure.{PureValue}
use Rattle.mem_model.specs.Heaps.{Heap}
use Rattle.sym_model.specs.Terms.{StateTerms}
use Rattle.sym_paths.specs.Pure.{PurePath}
use Rattle.sym_states.specs.Pure.{PureFact}
use Rattle.checked_paths.specs.Following.{GoesOnWith, IsAnswerTo, IsAnswered}
use Rattle.checked_paths.specs.Pure.{PurePassed, PureChecking, further}

pub no_end : {A B : Type 0} (f : A → B) (o : Option A) → is_some o ≡ false → option_map f o ≡ None
no_end f None is = refl
no_end f (Some x) is = absurd (true≢false is)

pub answered_further : {S : Type 0} (stands : S → List PureValue → Heap → Type 0) (terms : S → StateTerms) (facts : List PureFact) (passed : List (List (PurePassed S)))
    (path : PurePath S) (y : PureChecking S) → path.ending ≡ None → GoesOnWith stands terms facts passed path y → IsAnswered stands terms facts passed path (further y)
answered_further stands terms facts passed path y is goes = subst (λ o. IsAnswerTo stands terms facts passed path o (further y)) (sym is) (y, (refl, goes))
