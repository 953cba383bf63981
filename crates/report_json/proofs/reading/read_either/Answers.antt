use Rattle.std.proofs.Common.{◌∙◌, ◌==◌, ap, sym}
use Rattle.std.proofs.lemmas.Bool.{true≢false}
use Rattle.gil_lexer.specs.Bytes.{begins}
use Rattle.report_json.proofs.ReadAgain.{json_begins, lines_begin, or_json, or_lines}
use Rattle.report_json.proofs.reading.read_either.Goals as goal

pub returns-then-begins_with-clause-form : goal.returns-then-begins_with-clause-form
returns-then-begins_with-clause-form c = or_json c.read_json.result c.args.bytes.now c.read_json.ensures.json

pub returns-then-begins_with-clause-lines : goal.returns-then-begins_with-clause-lines
returns-then-begins_with-clause-lines c = λ r written is.
    absurd (true≢false (sym c.if-begins_with.true ∙ c.begins_with.ensures ∙ ap (begins (λ b. b == 123)) is ∙ lines_begin r))

pub returns-else-begins_with-clause-form : goal.returns-else-begins_with-clause-form
returns-else-begins_with-clause-form c = or_lines c.read_report.result c.args.bytes.now c.read_report.ensures.lines

pub returns-else-begins_with-clause-json : goal.returns-else-begins_with-clause-json
returns-else-begins_with-clause-json c = λ r written is.
    absurd (true≢false (sym (json_begins r) ∙ ap (begins (λ b. b == 123)) (sym is) ∙ sym c.begins_with.ensures ∙ c.if-begins_with.false))
