use Rattle.std.proofs.Common.{◌≡◌, [], ◌∷◌, ◌++◌, cond, length, Some, sym, ap, subst, ◌∙◌, rules}
use Rattle.std.specs.Str.{bytes_eq}
use Rattle.std.proofs.lemmas.List.{length-map, map-append}
use Rattle.gil_syntax.specs.Names.{place_of, first_place}
use Rattle.gil_machine.specs.SlotNames.{IsTable, names_of}
use Rattle.gil_machine.proofs.SlotLemmas.{key_of, table-push, places-push}
use Rattle.gil_machine.proofs.slots.SlotNames.add.Goals as goal

pub returns-clause-names : goal.returns-clause-names
returns-clause-names c =
    let old = names_of c.args.self.now.names.items in
    let seen : names_of c.push.new.self.items ≡ old ++ c.args.name.now ∷ [] = ap names_of c.in_ok-push.ensures.items ∙ map-append (λ text. text.now) c.args.self.now.names.items (c.args.name ∷ []) in
    let slots = c.args.self.now.slots in
    let len : c.len-slot.result ≡ length c.args.self.now.names.items = search (rules, c.len-slot.ensures) in
    record {
      table = subst IsTable (sym seen) (table-push old c.args.name.now c.requires.names.table c.requires.absent c.as_str-characters.ensures.text);
      places = λ y.
          c.in_ok-insert.ensures.updates.0 (key_of y)
          ∙ ap (λ z. cond (bytes_eq z y) (Some c.len-slot.result) (place_of slots y)) c.as_str-characters.ensures.characters
          ∙ ap (cond (bytes_eq c.args.name.now y) (Some c.len-slot.result)) (c.requires.names.places y)
          ∙ ap (λ n. cond (bytes_eq c.args.name.now y) (Some n) (first_place old y)) (len ∙ sym (length-map c.args.self.now.names.items (λ text. text.now)))
          ∙ places-push old c.args.name.now y c.requires.absent
          ∙ ap (λ names. first_place names y) (sym seen);
    }
