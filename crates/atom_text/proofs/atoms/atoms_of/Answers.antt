use Rattle.std.proofs.Common.{map, take, Some, refl, sym, ap, ◌∙◌, arith}
use Rattle.std.specs.Option.{option_map}
use Rattle.std.proofs.lemmas.List.{map_push}
use Rattle.std.proofs.lemmas.Option.{slice_get-map}
use Rattle.gil_values.proofs.Lists.{slice_get-read}
use Rattle.gil_syntax.proofs.NameLemmas.{map-take_read}
use Rattle.pure_terms.specs.View.{atom_view, atoms_view}
use Rattle.atom_text.specs.Resolving.{variable_in, atoms_of}
use Rattle.atom_text.specs.Sources.{stated_view}
use Rattle.atom_text.proofs.Lists.{atoms_push, each_made, slice_get-take}
use Rattle.atom_text.proofs.atoms.atoms_of.Goals as goal

pub returns-in-Err-Unknown-clause-unmade : goal.returns-in-Err-Unknown-clause-unmade
returns-in-Err-Unknown-clause-unmade c = record {
  place = c.loop-one.one-index;
  one = stated_view c.one-item.result;
  there = slice_get-read stated_view c.args.stated.now c.loop-one.one-index c.one-item.result (omega arith) c.one-item.is;
  byte = refl;
  unmade = rw c.in-Err-Unknown.field-0-is at c.in-Err-Unknown.ensures;
  first = λ j s below here.
      each_made (variable_in c.args.variables.now) (map stated_view (take c.loop-one.one-index c.args.stated.now)) (atoms_view c.loop-one.atoms) j s c.loop-one.invariant
      (slice_get-map stated_view (take c.loop-one.one-index c.args.stated.now) j
      ∙ ap (option_map stated_view) (slice_get-take c.args.stated.now c.loop-one.one-index j below)
      ∙ sym (slice_get-map stated_view c.args.stated.now j) ∙ here);
}

pub loop-one-preserved : goal.loop-one-preserved
loop-one-preserved c =
    let find = variable_in c.args.variables.now in
    let more = map-take_read stated_view c.args.stated.now c.loop-one.one-index c.one-item.result (omega arith) c.one-item.is in
    let pushed = ap atoms_view c.in_ok-push-in-Ok.ensures.ok ∙ map_push atom_view c.loop-one.atoms c.in-Ok.atom in
    ap (atoms_of find) more
    ∙ atoms_push find (map stated_view (take c.loop-one.one-index c.args.stated.now)) (atoms_view c.loop-one.atoms) (stated_view c.one-item.result) (atom_view c.in-Ok.atom) c.loop-one.invariant c.in-Ok.ensures
    ∙ ap Some (sym pushed)
