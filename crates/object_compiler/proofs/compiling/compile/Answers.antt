use Rattle.std.proofs.Common.{sym, subst, ◌∙◌}
use Rattle.gil_syntax.specs.Valid.{IsNamedFault}
use Rattle.object_compiler.specs.SameEnds.{HasSameEnds}
use Rattle.object_compiler.specs.Source.{source_view}
use Rattle.object_compiler.proofs.Ends.{has_same_ends}
use Rattle.object_compiler.proofs.Fitting.{none_named}
use Rattle.object_compiler.proofs.compiling.compile.Goals as goal

pub unreachable-requires : goal.unreachable-requires
unreachable-requires c =
    none_named (source_view c.args.source.now) c.args.source.now.named c.args.source.now.valid c.in_ok-parts.ensures.short c.in-Err.invalid.kind
    c.in-Err.invalid.item
    (subst (λ p. IsNamedFault p c.in-Err.invalid.kind c.in-Err.invalid.item) c.in_ok-parts.ensures.parts
    (c.in-Err.ensures.invalid c.in_default.not-Memory))

pub returns-in-Ok-clause-same_ends : goal.returns-in-Ok-clause-same_ends
returns-in-Ok-clause-same_ends c =
    subst (λ p. HasSameEnds (source_view c.args.source.now) p) (sym (c.in-Ok.ensures.program ∙ c.in_ok-parts.ensures.parts))
    (has_same_ends (source_view c.args.source.now) c.args.source.now.named)
