use Rattle.std.proofs.Common.{◌≡◌, ◌+◌, Some, map, take, slice_get, sym, ap, subst, ◌∙◌}
use Rattle.std.specs.List.{All}
use Rattle.std.specs.Option.{option_map}
use Rattle.std.proofs.lemmas.List.Elements.{All-push}
use Rattle.gil_syntax.specs.Program.{prog_view}
use Rattle.gil_syntax.specs.View.{proc_view}
use Rattle.gil_machine.specs.ResolvedWhole.{IsResolvedProc}
use Rattle.gil_machine.proofs.Resolutions.{seen_more}
use Rattle.gil_machine.proofs.resolving.resolve_prog.Goals as goal

pub loop-place-preserved : goal.loop-place-preserved
loop-place-preserved c =
    let procs = (prog_view c.args.prog.now).procs in
    let here : slice_get procs c.loop-place.place ≡ Some (proc_view c.in-Some.proc.now) = sym c.proc_at.ensures ∙ ap (option_map (λ q. proc_view q.now)) c.in-Some.is in
    record {
      seen = subst (λ qs. map (λ q. proc_view q.proc.now) qs ≡ take (c.loop-place.place + 1) procs) (sym c.in_ok-push.ensures.ok)
          (seen_more (λ q. proc_view q.proc.now) c.loop-place.procs c.in_ok-resolve_proc.field-0 procs c.loop-place.place (proc_view c.in-Some.proc.now) c.loop-place.invariant.seen here (ap proc_view c.in_ok-resolve_proc.ensures.proc));
      resolved = subst (All IsResolvedProc) (sym c.in_ok-push.ensures.ok) (All-push IsResolvedProc c.loop-place.procs c.in_ok-resolve_proc.field-0 c.loop-place.invariant.resolved c.in_ok-resolve_proc.ensures.resolved);
    }
