use Rattle.std.proofs.Common.{◌≡◌, None, Some, map, sym, ap, ◌∙◌}
use Rattle.std.specs.Option.{option_map, option_copied}
use Rattle.gil_syntax.specs.Names.{place_of, first_place}
use Rattle.gil_syntax.specs.Programs.{find_proc}
use Rattle.gil_syntax.specs.View.{proc_view}
use Rattle.gil_syntax.proofs.ByNameLemmas.{map-seen, not_found, found, found_proc}
use Rattle.gil_machine.specs.declared.resolved.ResolvedProc.{ResolvedProc}
use Rattle.gil_machine.proofs.resolved.ResolvedProg.proc.Goals as goal

pub returns-in_err-place-clause-found : goal.returns-in_err-place-clause-found
returns-in_err-place-clause-found c =
    let procs = c.args.self.now.procs in
    let seen : ResolvedProc → _ = λ q. proc_view q.proc.now in
    let place : first_place (map (λ q. q.name) (map seen procs)) c.args.name.now ≡ None
    = ap (λ names. first_place names c.args.name.now) (map-seen seen (λ q. q.name) procs) ∙ sym (ap (λ f. f c.args.name.now) c.requires.places)
    ∙ ap (place_of c.args.self.now.places) (sym c.as_str.ensures.characters) ∙ sym c.get.ensures.value ∙ ap option_copied c.in_err-place.was in
    ap (option_map (λ q. proc_view q.now.proc.now)) c.from_residual.ensures
    ∙ found_proc (map seen procs) c.args.name.now None (sym (not_found (λ q. q.name) (map seen procs) c.args.name.now place))
    ∙ ap (λ qs. find_proc qs c.args.name.now) c.requires.procs_seen

pub returns-clause-found : goal.returns-clause-found
returns-clause-found c =
    let procs = c.args.self.now.procs in
    let seen : ResolvedProc → _ = λ q. proc_view q.proc.now in
    let place : first_place (map (λ q. q.name) (map seen procs)) c.args.name.now ≡ Some c.in_ok-place.place.now
    = ap (λ names. first_place names c.args.name.now) (map-seen seen (λ q. q.name) procs) ∙ sym (ap (λ f. f c.args.name.now) c.requires.places)
    ∙ ap (place_of c.args.self.now.places) (sym c.as_str.ensures.characters) ∙ sym c.get.ensures.value ∙ ap option_copied c.in_ok-place.was in
    found_proc (map seen procs) c.args.name.now _ (found seen (λ q. q.name) procs c.args.name.now c.in_ok-place.place.now c.get-2.result place c.get-2.ensures)
    ∙ ap (λ qs. find_proc qs c.args.name.now) c.requires.procs_seen
