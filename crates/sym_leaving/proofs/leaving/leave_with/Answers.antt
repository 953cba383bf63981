use Rattle.pure_terms.specs.View.{term_view}
use Rattle.sym_leaving.proofs.ReturnLaws.{is_left}
use Rattle.sym_leaving.proofs.leaving.leave_with.Goals as goal
use Rattle.sym_paths.specs.View.{frames_view, path_view}

pub returns : goal.returns
returns g c = is_left g.M.SymMemory.stands g.M.SymMemory.terms (path_view c.args.path) (term_view c.args.returned) (frames_view c.hand_down.new.frames) c.in_ok-hand_down.ensures
