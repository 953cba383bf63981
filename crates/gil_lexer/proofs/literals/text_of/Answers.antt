use Rattle.std.specs.String.{string_bytes}
use Rattle.std.proofs.lemmas.Result.{IfOk-weaker}
use Rattle.gil_lexer.proofs.LiteralLaws.{quoted, text_said, text_unsaid}
use Rattle.gil_lexer.proofs.literals.text_of.Goals as goal

pub returns-clause-some : goal.returns-clause-some
returns-clause-some c =
    let literal = c.args.literal.now in
    let is = quoted literal (c.is_quoted.ensures.0 c.if-not-is_quoted.false) in
    IfOk-weaker c.unescaped.result _ _ (λ found e. text_said string_bytes literal _ found is e) c.unescaped.ensures

pub returns-clause-none : goal.returns-clause-none
returns-clause-none c =
    let literal = c.args.literal.now in
    let is = quoted literal (c.is_quoted.ensures.0 c.if-not-is_quoted.false) in
    IfOk-weaker c.unescaped.result _ _ (λ found e. text_unsaid string_bytes literal _ found is e) c.unescaped.ensures
