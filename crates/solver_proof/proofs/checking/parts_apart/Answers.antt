use Rattle.pure_terms.specs.View.{terms_view}
use Rattle.solver_proof.specs.Closing.{equal_lists_at}
use Rattle.solver_proof.specs.Lists.{list_view}
use Rattle.solver_proof.proofs.CloseLaws.{apart_of}
use Rattle.solver_proof.proofs.checking.parts_apart.Goals as goal

pub returns-in-Some : goal.returns-in-Some
returns-in-Some c vars = apart_of (terms_view c.in-Some.lists.left.now) (terms_view c.in-Some.lists.right.now) c.len.result c.len-in-Some.result c.len.ensures c.len-in-Some.ensures (equal_lists_at (list_view c.args.list.now) c.args.place) c.in-Some.ensures
