use Rattle.gil_text.proofs.AnnotationLemmas.{slices_behind, stands_behind, left_behind}
use Rattle.gil_text.proofs.annotations.cursor_at.Goals as goal

pub new-requires : goal.new-requires
new-requires c = rw c.as_slice.ensures (slices_behind c.args.bytes.now c.args.tokens.now c.args.from c.requires.tokens)

pub returns-clause-behind : goal.returns-clause-behind
returns-clause-behind c = λ lexemes stand. stands_behind c.args.bytes.now c.args.tokens.now c.args.from c.new.result lexemes (rw c.as_slice.ensures at c.new.ensures) stand

pub returns-clause-left : goal.returns-clause-left
returns-clause-left c = left_behind c.args.bytes.now c.args.tokens.now c.args.from c.new.result c.requires.within (rw c.as_slice.ensures at c.new.ensures)
