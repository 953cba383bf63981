use Rattle.object_text.proofs.OnlySource.{only_source}
use Rattle.object_text.proofs.texts.read_trees.Goals as goal

pub returns-clause-only : goal.returns-clause-only
returns-clause-only c =
    only_source c.args.bytes.now c.read_located.result c.read_located.ensures.ok c.read_located.ensures.refused
