use Rattle.std.proofs.Common.{◌≡◌, Some, None, slice_get, sym, ap, ◌∙◌, arith}
use Rattle.std.proofs.lemmas.Option.{slice_get-get_or}
use Rattle.gil_syntax.proofs.NameLemmas.{none_there}
use Rattle.atom_text.specs.Resolving.{variable_in}
use Rattle.atom_text.proofs.NamingLemmas.{finds_more, found_again, some_there}
use Rattle.atom_text.proofs.naming.variables_of.Goals as goal

pub returns-then-is_some-clause-twice : goal.returns-then-is_some-clause-twice
returns-then-is_some-clause-twice c =
    let ds = c.args.declarations.now in
    let i = c.loop-place.place in
    let d = c.index-declarations-place.result in
    let here : slice_get ds i ≡ Some d = slice_get-get_or ds i d (omega arith) ∙ ap Some (sym c.index-declarations-place.is) in
    let old = some_there c.in_ok-insert.field-0 (sym c.is_some.ensures ∙ c.if-is_some.true) in
    found_again ds i d c.as_str.result c.loop-place.variables c.insert.new.self here c.as_str.ensures.characters c.loop-place.invariant old.0
    (sym c.in_ok-insert.ensures.old ∙ old.1)

pub loop-place-preserved : goal.loop-place-preserved
loop-place-preserved c =
    let ds = c.args.declarations.now in
    let i = c.loop-place.place in
    let d = c.index-declarations-place.result in
    let here : slice_get ds i ≡ Some d = slice_get-get_or ds i d (omega arith) ∙ ap Some (sym c.index-declarations-place.is) in
    let none = none_there c.in_ok-insert.field-0 (sym c.is_some.ensures ∙ c.if-is_some.false) in
    let new : variable_in c.loop-place.variables d.name ≡ None = ap (variable_in c.loop-place.variables) (sym c.as_str.ensures.characters) ∙ sym c.in_ok-insert.ensures.old ∙ none in
    finds_more ds i d c.as_str.result c.loop-place.variables c.insert.new.self here c.as_str.ensures.characters c.loop-place.invariant new c.in_ok-insert.ensures.updates
