use Rattle.std.proofs.Common.{map, None, ap, subst}
use Rattle.pure_terms.specs.View.{term_view}
use Rattle.sym_engine.proofs.calling.first_frame.Goals as goal
use Rattle.sym_evaluation.specs.View.{store_view}
use Rattle.sym_paths.specs.Calls.{IsFirstStore}

pub returns : goal.returns
returns c =
    let store = store_view c.in_ok-first_store.field-0 in (
      store,
      (
        subst (λ params. IsFirstStore params (map term_view c.args.args.now) store) c.as_slice.ensures c.in_ok-first_store.ensures,
        ap (λ name. record { procedure = name; next = 0; store = store; waits = None; handler = None }) c.in_ok-copy.ensures,
      ),
    )
