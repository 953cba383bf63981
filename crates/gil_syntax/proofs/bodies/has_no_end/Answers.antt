use Rattle.std.proofs.Common.{not, map, sym, ap, ◌∙◌, slice_get, length, ◌-◌}
use Rattle.std.specs.Option.{option_map, option_copied}
use Rattle.std.proofs.lemmas.List.{length-map}
use Rattle.std.proofs.lemmas.Option.{slice_get-map}
use Rattle.gil_syntax.specs.View.{numbered_command_view}
use Rattle.gil_syntax.proofs.BodyLemmas.{last_ends_body-last}
use Rattle.gil_syntax.proofs.bodies.has_no_end.Goals as goal

pub returns-in-Some : goal.returns-in-Some
returns-in-Some c =
    let body = c.args.proc.now.body in
    let seen = map numbered_command_view body in
    ap not (c.ends_body.ensures ∙ sym (last_ends_body-last seen (numbered_command_view c.in-Some.last.now)
    (ap (λ n. slice_get seen (n - 1)) (length-map body numbered_command_view)
    ∙ slice_get-map numbered_command_view body (length body - 1)
    ∙ ap (option_map numbered_command_view) (ap (λ xs. slice_get xs (length xs - 1)) (sym c.as_slice.ensures) ∙ sym c.last.ensures.value ∙ ap option_copied c.in-Some.is))))
