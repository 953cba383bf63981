use Rattle.std.proofs.Common.{◌≡◌, ℕ, List, is_some, ap, map, sym, ◌∙◌, arith}
use Rattle.std.proofs.lemmas.List.{take_all}
use Rattle.gil_syntax.specs.Names.{place_of, first_place}
use Rattle.gil_syntax.proofs.NameLemmas.{places_more, places_same, none_there}
use Rattle.gil_machine.specs.declared.resolved.ResolvedProc.{ResolvedProc}
use Rattle.gil_machine.proofs.resolving.places_of.Goals as goal
use Rattle.gil_machine.proofs.resolving.places_of.Goals.{then-not-contains_key+in_ok-insert, else-not-contains_key}

abbrev name : ResolvedProc → List ℕ
name q = q.proc.now.name

pub loop-place-preserved : goal.loop-place-preserved
loop-place-preserved c =
    let there : c.contains_key.result ≡ is_some (place_of c.loop-place.places (name c.index-procs-place.result)) = c.contains_key.ensures ∙ ap (λ x. is_some (place_of c.loop-place.places x)) c.as_str-name.ensures.characters in
    elim c.if-not-contains_key.branch [
      | then-not-contains_key+in_ok-insert w ↦ λ y. ap (λ m. place_of m y) w.places-is ∙ places_more name c.args.procs.now c.loop-place.place c.index-procs-place.result c.as_str-name.result c.loop-place.places w.insert.new.self (omega arith) c.index-procs-place.is c.as_str-name.ensures.characters (none_there _ (sym there ∙ w.if-not-contains_key.true)) w.in_ok-insert.ensures.updates c.loop-place.invariant y
      | else-not-contains_key w ↦ λ y. ap (λ m. place_of m y) w.places-is ∙ places_same name c.args.procs.now c.loop-place.place c.index-procs-place.result c.loop-place.places (omega arith) c.index-procs-place.is (sym there ∙ w.if-not-contains_key.false) c.loop-place.invariant y
    ]

pub returns : goal.returns
returns c = λ i x. (c.loop-place.invariant x ∙ ap (λ qs. first_place (map name qs) x) (take_all c.loop-place.place c.args.procs.now (omega arith))) i
