use Rattle.std.proofs.Common.{None, subst}
use Rattle.gil_syntax.specs.View.{proc_view}
use Rattle.pure_terms.specs.View.{terms_view, atoms_view}
use Rattle.sym_model.specs.View.{path_view as conditions_view}
use Rattle.sym_paths.specs.Frames.{IsFirstStore}
use Rattle.sym_paths.proofs.path.Path.begin.Goals as goal

pub returns : goal.returns
returns g c =
    let (store, (first, stack)) = c.in_ok-stack.ensures in
    record {
      store = store;
      first = subst (λ ts. IsFirstStore (proc_view c.args.proc.now).params ts store) c.as_slice.ensures first;
      is = λ i. record {
        vars = c.args.vars;
        conds = conditions_view c.args.conds;
        given = atoms_view (c.new.ensures i);
        choices = c.new-2.ensures i;
        stack = stack i;
        memory = c.args.memory;
        drawn = c.new-3.ensures i;
        steps = 0;
        ending = None;
      };
    }
