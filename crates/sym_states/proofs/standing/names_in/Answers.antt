use Rattle.std.proofs.Common.{ap, ◌∙◌}
use Rattle.std.proofs.lemmas.List.{take_all}
use Rattle.std.specs.List.{flat_map}
use Rattle.gil_syntax.specs.Valid.{is_among}
use Rattle.gil_syntax.specs.View.{assertion_view}
use Rattle.sym_states.specs.Standing.{names_of_item}
use Rattle.sym_states.proofs.NameLists.{among_items}
use Rattle.sym_states.proofs.standing.names_in.Goals as goal

pub returns : goal.returns
returns c x =
    let all = take_all c.loop-item.item-index c.as_slice-item-items.result.now c.loop-item-test.false ∙ c.as_slice-item-items.ensures in
    ap (λ names. is_among names x) (c.loop-item.invariant ∙ ap (λ items. flat_map names_of_item (assertion_view items)) all) ∙ among_items (assertion_view c.args.items.now) x
