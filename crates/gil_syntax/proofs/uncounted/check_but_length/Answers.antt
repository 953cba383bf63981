use Rattle.std.proofs.Common.{◌≢◌}
use Rattle.gil_syntax.specs.declared.validity.InvalidKind.TheVariants.{TooMany, Memory}
use Rattle.gil_syntax.specs.View.{parts_view}
use Rattle.gil_syntax.proofs.UncountedLemmas.{valid_but_length, named_otherwise, named_past, none_past}
use Rattle.gil_syntax.proofs.uncounted.check_but_length.Goals as goal

no_memory : TooMany ≢ Memory
no_memory e = absurd cc

pub returns-in-Ok-clause-valid : goal.returns-in-Ok-clause-valid
returns-in-Ok-clause-valid c = valid_but_length (parts_view c.args.parts.now) c.in-Ok.ensures.valid

pub returns-in-Some-clause-named : goal.returns-in-Some-clause-named
returns-in-Some-clause-named c =
    let named = rw c.in-TooMany.is at c.in-Err.ensures.named in
    let found = rw c.in-Some.is at c.in_ok-item-in-TooMany.ensures in
    λ other. named_past (parts_view c.args.parts.now) c.in-Err.invalid.item c.in-Some.item (named no_memory) found

pub returns-in-None-clause-valid : goal.returns-in-None-clause-valid
returns-in-None-clause-valid c =
    let named = rw c.in-TooMany.is at c.in-Err.ensures.named in
    let found = rw c.in-None.is at c.in_ok-item-in-TooMany.ensures in
    none_past (parts_view c.args.parts.now) c.in-Err.invalid.item (named no_memory) found

pub returns-in_default : goal.returns-in_default
returns-in_default c = record {
  valid = tt;
  named = λ known. named_otherwise (parts_view c.args.parts.now) c.in-Err.invalid.kind c.in-Err.invalid.item c.in_default.not-TooMany (c.in-Err.ensures.named known);
}
