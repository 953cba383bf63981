use Rattle.std.proofs.Common.{subst}
use Rattle.gil_syntax.specs.View.{parts_view}
use Rattle.gil_syntax.specs.Valid.{IsValid}
use Rattle.gil_syntax.specs.declared.validity.InvalidKind.TheVariants.{TooMany}
use Rattle.gil_syntax.specs.ByName.{parts_of}
use Rattle.gil_syntax.specs.First.{HasNone}
use Rattle.gil_syntax.proofs.CheckLemmas.{distinct, valid, on_ok}
use Rattle.gil_syntax.proofs.checking.check.Goals as goal

pub refuse-requires-5-clause-distinct : goal.refuse-requires-5-clause-distinct
refuse-requires-5-clause-distinct c = λ arity. distinct (parts_of c.in_ok-program.program) c.in_ok-refuse.ensures.none

pub returns-clause-valid : goal.returns-clause-valid
returns-clause-valid c = on_ok c.refuse-6.result (HasNone (parts_of c.in_ok-program.program) TooMany) (IsValid (parts_view c.args.parts.now))
    (λ f. subst (λ q. IsValid (parts_view q)) c.in_ok-program.ensures.parts
    (valid (parts_of c.in_ok-program.program) c.in_ok-refuse.ensures.none c.in_ok-refuse-2.ensures.none c.in_ok-refuse-3.ensures.none c.in_ok-refuse-4.ensures.none c.in_ok-refuse-5.ensures.none f))
    c.refuse-6.ensures.none
