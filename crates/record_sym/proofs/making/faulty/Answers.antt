use Rattle.std.proofs.Common.{sym, ◌∙◌}
use Rattle.pure_terms.specs.View.{term_view}
use Rattle.record_sym.proofs.LiteralLaws.{never_faulty}
use Rattle.record_sym.proofs.making.faulty.Goals as goal

pub returns-then-branch : goal.returns-then-branch
returns-then-branch c = c.never.ensures ∙ never_faulty term_view c.args.names.now (sym c.in_ok-are_distinct_literals.ensures ∙ c.if-branch.true)
