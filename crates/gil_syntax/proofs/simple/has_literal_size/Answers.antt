use Rattle.std.proofs.Common.{sym, ap, ◌∙◌}
use Rattle.std.specs.Prelude.{codes}
use Rattle.std.specs.Str.{bytes_eq}
use Rattle.gil_syntax.specs.Simple.{is_literal}
use Rattle.gil_syntax.specs.View.{exprs_view}
use Rattle.gil_syntax.proofs.SimpleLemmas.{literal_size, any_size}
use Rattle.gil_syntax.proofs.simple.has_literal_size.Goals as goal

pub returns-then-eq : goal.returns-then-eq
returns-then-eq c = c.are_literals.ensures ∙ literal_size is_literal (bytes_eq c.args.action.now (codes "alloc")) (exprs_view c.args.arguments.now)
    (ap (λ a. bytes_eq a (codes "alloc")) (sym c.as_str.ensures.characters) ∙ sym c.if-eq.ensures)

pub returns : goal.returns
returns c = any_size is_literal (bytes_eq c.args.action.now (codes "alloc")) (exprs_view c.args.arguments.now)
    (ap (λ a. bytes_eq a (codes "alloc")) (sym c.as_str.ensures.characters) ∙ sym c.if-eq.ensures)
