use Rattle.std.proofs.Common.{sym, ◌∙◌}
use Rattle.pure_terms.specs.View.{term_view}
use Rattle.sym_model.specs.Alternatives.{always}
use Rattle.record_sym.proofs.LiteralLaws.{surely_distinct}
use Rattle.record_sym.proofs.making.distinct.Goals as goal

pub returns-then-branch : goal.returns-then-branch
returns-then-branch c =
    c.in_ok-first.ensures ∙ surely_distinct term_view always c.args.names.now (sym c.in_ok-are_distinct_literals.ensures ∙ c.if-branch.true)
