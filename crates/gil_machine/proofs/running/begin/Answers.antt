-- The entry is found by its name.
use Rattle.std.proofs.Common.{◌≡◌, [], reverse, Some, refl, sym, ap, subst, ◌∙◌}
use Rattle.std.specs.Option.{option_map}
use Rattle.gil_values.specs.View.{values_view}
use Rattle.gil_syntax.specs.Programs.{find_proc}
use Rattle.gil_syntax.specs.View.{proc_view}
use Rattle.gil_syntax.specs.Program.{prog_view}
use Rattle.gil_machine.specs.Kept.{Keeps}
use Rattle.gil_machine.specs.ResolvedWhole.{proc_slots}
use Rattle.gil_machine.specs.Run.{params_of}
use Rattle.gil_machine.specs.Standing.{FramesStand}
use Rattle.gil_machine.specs.Step.{bind_all}
use Rattle.gil_machine.specs.StoreView.{store_view}
use Rattle.gil_machine.proofs.Placed.{found_name}
use Rattle.gil_machine.proofs.running.begin.Goals as goal

pub returns-clause-stands : goal.returns-clause-stands
returns-clause-stands c = λ h.
    let found : find_proc (prog_view c.args.prog.now.prog.now).procs c.args.proc.now ≡ Some (proc_view c.in-Some.proc.now.proc.now) = sym c.proc.ensures.found ∙ ap (option_map (λ q. proc_view q.now.proc.now)) c.in-Some.is in
    (record {
      current = record {
        name = sym (found_name (prog_view c.args.prog.now.prog.now).procs c.args.proc.now (proc_view c.in-Some.proc.now.proc.now) found);
        procedure = found;
        next = refl;
        store = subst (λ q. Keeps (proc_slots c.in-Some.proc.now) (store_view c.in_ok-store-in-Some.store) (bind_all (params_of q) (values_view c.args.args.now))) (sym found) c.in_ok-store-in-Some.ensures;
        waits = refl;
        handler = refl;
        placed = tt;
        resolved = c.in-Some.ensures.resolved;
      };
      callers = subst (λ cs. FramesStand (prog_view c.args.prog.now.prog.now) (reverse cs) []) (sym c.new.ensures.items) tt;
      counter = refl;
      draws = refl;
    })
