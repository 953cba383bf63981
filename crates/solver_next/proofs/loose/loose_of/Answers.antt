use Rattle.std.proofs.Common.{◌≡◌, ℕ, List, Some, map, slice_get, sym, ap, ◌∙◌, subst}
use Rattle.pure_terms.specs.declared.atoms.Atom.{Atom}
use Rattle.pure_terms.specs.Pure.{PureAtom}
use Rattle.pure_terms.specs.View.{atom_view, atoms_view}
use Rattle.equality_core.specs.Classes.{given_list}
use Rattle.equality_core.proofs.Finding.{each_more, each_all}
use Rattle.solver_rules.specs.Nodes.{classes_of}
use Rattle.solver_rules.proofs.RowLists.{atom_there}
use Rattle.solver_next.specs.Loose.{IsLooseAtom, StandsIn}
use Rattle.solver_next.proofs.Listing.{pushed_some, pushed_still, pushed_here}
use Rattle.solver_next.proofs.loose.loose_of.Goals as goal

pub loop-atom-preserved : goal.loop-atom-preserved
loop-atom-preserved c =
    let a : PureAtom = atom_view c.atom-item.result in
    let there : slice_get (atoms_view c.as_slice-atoms.result.now) c.loop-atom.atom-index ≡ Some a = atom_there c.as_slice-atoms.result.now c.loop-atom.atom-index c.atom-item.result c.loop-atom-test.true c.atom-item.is in
    let given : slice_get (given_list (classes_of c.args.node.now)) c.loop-atom.atom-index ≡ Some a =
    ap (λ l. slice_get l c.loop-atom.atom-index) c.requires.given ∙ ap (λ (xs : List Atom). slice_get (map atom_view xs) c.loop-atom.atom-index) (sym c.as_slice-atoms.ensures) ∙ there in
    let pushed = c.in_ok-push_loose.ensures in
    record {
      some = pushed_some (classes_of c.args.node.now) a (atoms_view c.loop-atom.apart) (atoms_view c.push_loose.new.apart) (record { place = c.loop-atom.atom-index; at = given }) c.loop-atom.invariant.some pushed;
      all = each_more atom_view c.as_slice-atoms.result.now (λ i b. IsLooseAtom (classes_of c.args.node.now) b → StandsIn (atoms_view c.push_loose.new.apart) b) c.loop-atom.atom-index c.atom-item.result c.loop-atom-test.true c.atom-item.is
          (λ i b less at loose. pushed_still (classes_of c.args.node.now) a (atoms_view c.loop-atom.apart) (atoms_view c.push_loose.new.apart) b pushed (c.loop-atom.invariant.all i b less at loose))
          (pushed_here (classes_of c.args.node.now) a (atoms_view c.loop-atom.apart) (atoms_view c.push_loose.new.apart) pushed);
    }

pub returns : goal.returns
returns c = record {
  some = c.loop-atom.invariant.some;
  all = λ i b at. subst (λ (xs : List Atom). (i : ℕ) (b : PureAtom) → slice_get (map atom_view xs) i ≡ Some b → IsLooseAtom (classes_of c.args.node.now) b → StandsIn (atoms_view c.loop-atom.apart) b) c.as_slice-atoms.ensures
      (each_all atom_view c.as_slice-atoms.result.now (λ i b. IsLooseAtom (classes_of c.args.node.now) b → StandsIn (atoms_view c.loop-atom.apart) b) c.loop-atom.atom-index c.loop-atom-test.false c.loop-atom.invariant.all) i b
      (ap (λ l. slice_get l i) (sym c.requires.given) ∙ at);
}
