use Rattle.std.proofs.Common.{length, map, sym, ap, ◌∙◌}
use Rattle.std.specs.List.{list_any}
use Rattle.std.proofs.lemmas.List.{length-map}
use Rattle.gil_syntax.specs.Valid.{is_bad_jump}
use Rattle.gil_syntax.specs.View.{command_view, numbered_command_view}
use Rattle.gil_syntax.proofs.BodyLemmas.{list_any-map}
use Rattle.gil_syntax.proofs.bodies.has_bad_label.Goals as goal

pub returns : goal.returns
returns c =
    let body = c.args.proc.now.body in
    c.has_bad_jump.ensures
    ∙ ap (λ xs. list_any (λ x. is_bad_jump (length xs) (command_view x.command)) xs) c.as_slice.ensures
    ∙ ap (λ n. list_any (λ x. is_bad_jump n (command_view x.command)) body) (sym (length-map body numbered_command_view))
    ∙ sym (list_any-map (λ x. is_bad_jump (length (map numbered_command_view body)) x.command) numbered_command_view body)
