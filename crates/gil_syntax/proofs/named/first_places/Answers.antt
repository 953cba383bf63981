use Rattle.std.proofs.Common.{◌≡◌, is_some, ap, map, sym, ◌∙◌, arith}
use Rattle.std.proofs.lemmas.List.{take_all}
use Rattle.gil_syntax.specs.Names.{place_of, first_place}
use Rattle.gil_syntax.proofs.NameLemmas.{places_more, places_same, none_there}
use Rattle.gil_syntax.proofs.named.first_places.Goals as goal
use Rattle.gil_syntax.proofs.named.first_places.Goals.{then-not-contains_key+in_ok-insert, else-not-contains_key}

pub loop-place-preserved : goal.loop-place-preserved
loop-place-preserved g c =
    let there : c.contains_key.result ≡ is_some (place_of c.loop-place.places (g.T.Named.name_of c.index-items-place.result)) = c.contains_key.ensures ∙ ap (λ x. is_some (place_of c.loop-place.places x)) c.name.ensures in
    elim c.if-not-contains_key.branch [
      | then-not-contains_key+in_ok-insert w ↦ λ y. ap (λ m. place_of m y) w.places-is ∙ places_more g.T.Named.name_of c.args.items.now c.loop-place.place c.index-items-place.result w.name-then-not-contains_key.result c.loop-place.places w.insert.new.self (omega arith) c.index-items-place.is w.name-then-not-contains_key.ensures (none_there _ (sym there ∙ w.if-not-contains_key.true)) w.in_ok-insert.ensures.updates c.loop-place.invariant y
      | else-not-contains_key w ↦ λ y. ap (λ m. place_of m y) w.places-is ∙ places_same g.T.Named.name_of c.args.items.now c.loop-place.place c.index-items-place.result c.loop-place.places (omega arith) c.index-items-place.is (sym there ∙ w.if-not-contains_key.false) c.loop-place.invariant y
    ]

pub returns : goal.returns
returns g c = λ i x. (c.loop-place.invariant x ∙ ap (λ xs. first_place (map g.T.Named.name_of xs) x) (take_all c.loop-place.place c.args.items.now (omega arith))) i
