use Rattle.std.proofs.Common.{ℕ, List, Bool, map, ap, ◌∙◌}
use Rattle.gil_syntax.specs.Valid.{is_among}
use Rattle.gil_syntax.specs.View.{command_view, numbered_command_view}
use Rattle.gil_syntax.specs.ByName.{parts_of}
use Rattle.gil_syntax.specs.Found.{stands_in_command}
use Rattle.gil_syntax.specs.Names.{has_name}
use Rattle.gil_syntax.specs.Sought.{is_undeclared, is_unknown_use}
use Rattle.gil_syntax.proofs.UnknownLemmas.{or_none, none_named, named_in_invariant, named_in_logic, named_elsewhere}
use Rattle.gil_syntax.proofs.unknown.command_has_unknown_name.Goals as goal

pub returns-in-LoopInvariant : goal.returns-in-LoopInvariant
returns-in-LoopInvariant c =
    let found = λ (f : List ℕ → Bool). stands_in_command (is_undeclared f) (is_unknown_use (parts_of c.args.program.now)) (numbered_command_view c.args.numbered.now) in
    c.in_command.ensures ∙ ap found (named_in_invariant (has_name c.args.declared.now) c.in_ok-own-in-LoopInvariant.own (command_view c.args.numbered.now.command) _ c.in-LoopInvariant.params _
    (ap command_view c.in-LoopInvariant.is) (c.in_ok-own-in-LoopInvariant.ensures ∙ ap (λ ps. is_among (map (λ p. p.name) ps)) c.as_slice.ensures))

pub returns-in-Fold : goal.returns-in-Fold
returns-in-Fold c =
    let found = λ (f : List ℕ → Bool). stands_in_command (is_undeclared f) (is_unknown_use (parts_of c.args.program.now)) (numbered_command_view c.args.numbered.now) in
    c.in_command-in-Fold.ensures ∙ ap found (or_none (has_name c.args.declared.now) c.new-none.result c.new-none.ensures.empty ∙ named_in_logic (has_name c.args.declared.now) c.args.numbered.now.command c.in-Fold.is)

pub returns : goal.returns
returns c =
    let found = λ (f : List ℕ → Bool). stands_in_command (is_undeclared f) (is_unknown_use (parts_of c.args.program.now)) (numbered_command_view c.args.numbered.now) in
    c.in_command-in_default.ensures ∙ ap found (or_none (has_name c.new-none.result) c.new-none.result c.new-none.ensures.empty ∙ none_named c.new-none.result c.new-none.ensures.empty
    ∙ named_elsewhere (has_name c.args.declared.now) c.args.numbered.now.command c.in_default.not-Fold c.in_default.not-Unfold c.in_default.not-AssertThat c.in_default.not-LoopInvariant)
