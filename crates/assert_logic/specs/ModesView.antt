-- Scopes and what is known at a place, of the code, as those of the definitions.
use Rattle.std.specs.Prelude.{map}
use Rattle.std.specs.Option.{option_map}
use Rattle.gil_syntax.specs.View.{expr_view, item_view, spec_view, pred_def_view}
use Rattle.assert_logic.specs.declared.scopes.Scope as code
use Rattle.assert_logic.specs.declared.reading.Here.{Here}
use Rattle.assert_logic.specs.Names.{Known}
use Rattle.assert_logic.specs.Modes.{Scope, known_at_first, known_after, known_beside, precondition, postcondition, case, logic_command}

abbrev pub scope_view : code.Scope → Scope
scope_view (code.Scope.Precondition s) = precondition (spec_view s.now)
scope_view (code.Scope.Postcondition s) = postcondition (spec_view s.now)
scope_view (code.Scope.Case d) = case (pred_def_view d.now)
scope_view (code.Scope.LogicCommand s) = logic_command (option_map (λ x. spec_view x.now) s)

abbrev pub known_here : Here → Known
known_here h = known_beside (known_after (known_at_first (scope_view h.scope)) (map item_view h.items.now)) (map expr_view h.outs.now)
