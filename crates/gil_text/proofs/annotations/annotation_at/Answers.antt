use Rattle.gil_text.proofs.AnnotationLemmas.{read_spelled, read_longest, read_none, read_shorter, read_behind}
use Rattle.gil_text.proofs.annotations.annotation_at.Goals as goal

pub returns-clause-spelled : goal.returns-clause-spelled
returns-clause-spelled c = read_spelled c.longest_at.result c.args.cursor c.longest_at.ensures

pub returns-clause-longest : goal.returns-clause-longest
returns-clause-longest c = read_longest c.longest_at.result c.args.cursor c.longest_at.ensures

pub returns-clause-none : goal.returns-clause-none
returns-clause-none c = read_none c.longest_at.result c.args.cursor c.longest_at.ensures

pub returns-clause-shorter : goal.returns-clause-shorter
returns-clause-shorter c = read_shorter c.longest_at.result c.args.cursor c.longest_at.ensures

pub returns-clause-behind : goal.returns-clause-behind
returns-clause-behind c = read_behind c.longest_at.result c.args.cursor c.longest_at.ensures
