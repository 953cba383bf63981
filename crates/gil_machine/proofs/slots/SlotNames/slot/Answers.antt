use Rattle.std.proofs.Common.{◌≡◌, Some, sym, ap, ◌∙◌}
use Rattle.std.specs.Option.{option_copied}
use Rattle.gil_syntax.specs.Names.{place_of, first_place}
use Rattle.gil_machine.specs.SlotNames.{names_of}
use Rattle.gil_machine.proofs.SlotLemmas.{place_found}
use Rattle.gil_machine.proofs.slots.SlotNames.slot.Goals as goal

pub returns-in-Some-clause-below : goal.returns-in-Some-clause-below
returns-in-Some-clause-below c =
    let found : first_place (names_of c.args.self.now.names.items) c.args.name.now ≡ Some c.in-Some.slot.now
    = sym (c.requires.places c.args.name.now) ∙ ap (place_of c.args.self.now.slots) (sym c.as_str.ensures.characters) ∙ sym c.get.ensures.value ∙ ap option_copied c.in-Some.is in
    (place_found (names_of c.args.self.now.names.items) c.args.name.now c.in-Some.slot.now found).0

pub returns-in-Some-clause-name : goal.returns-in-Some-clause-name
returns-in-Some-clause-name c =
    let found : first_place (names_of c.args.self.now.names.items) c.args.name.now ≡ Some c.in-Some.slot.now
    = sym (c.requires.places c.args.name.now) ∙ ap (place_of c.args.self.now.slots) (sym c.as_str.ensures.characters) ∙ sym c.get.ensures.value ∙ ap option_copied c.in-Some.is in
    (place_found (names_of c.args.self.now.names.items) c.args.name.now c.in-Some.slot.now found).1
