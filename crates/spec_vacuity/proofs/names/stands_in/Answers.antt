use Rattle.std.proofs.Common.{ap, ◌∙◌}
use Rattle.std.specs.Prelude.{not}
use Rattle.gil_syntax.specs.Subexpressions.{names_of}
use Rattle.gil_syntax.specs.View.{expr_view}
use Rattle.assert_logic.proofs.NameLemmas.{stands_among}
use Rattle.spec_vacuity.proofs.names.stands_in.Goals as goal

pub returns : goal.returns
returns c = ap not c.all_others.ensures ∙ stands_among c.args.name.now (names_of (expr_view c.args.expression.now))
