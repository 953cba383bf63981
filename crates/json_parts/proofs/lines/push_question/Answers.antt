use Rattle.json_parts.specs.Lines.{question}
use Rattle.json_parts.proofs.lines.push_question.Goals as goal

pub returns : goal.returns
unfolding question
returns c = c.push_line.ensures
