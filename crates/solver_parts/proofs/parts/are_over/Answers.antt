use Rattle.std.proofs.Common.{◌≡◌, ◌∷◌, [], length, take, sym, ap, subst, ◌∙◌, arith}
use Rattle.std.proofs.lemmas.List.{take_all, length-map}
use Rattle.pure_terms.specs.Meaning.{AreOver, IsOver}
use Rattle.pure_terms.specs.Pure.{term_of}
use Rattle.pure_terms.specs.View.{atom_view, atoms_view}
use Rattle.solver_guess.proofs.Trying.{item_at}
use Rattle.solver_proof.proofs.Truths.{over_more, over_one}
use Rattle.solver_parts.proofs.Sizes.{one_more}
use Rattle.solver_parts.proofs.parts.are_over.Goals as goal

pub loop-atom-init : goal.loop-atom-init
loop-atom-init c = search (arith)

pub loop-atom-preserved : goal.loop-atom-preserved
loop-atom-preserved c =
    let atoms = atoms_view c.args.atoms.now in
    let i = c.loop-atom.atom-index in
    let a = atom_view c.atom-item.result in
    let vars = c.args.vars.now in
    let at = item_at c.args.atoms.now c.as_slice-atom-items.result.now i c.atom-item.result c.as_slice-atom-items.ensures c.loop-atom-test.true c.atom-item.is in
    let over : IsOver vars (term_of a) = subst (IsOver vars) c.term.ensures (c.is_over.ensures.0 c.if-not-is_over.false) in
    subst (AreOver vars) (sym (one_more atoms i a at)) (over_more vars (take i atoms) (a ∷ []) c.loop-atom.invariant (over_one vars a over))

pub returns : goal.returns
returns c true_now =
    let atoms = atoms_view c.args.atoms.now in
    let same : length atoms ≡ length c.as_slice-atom-items.result.now = length-map c.args.atoms.now atom_view ∙ ap length (sym c.as_slice-atom-items.ensures) in
    subst (AreOver c.args.vars.now) (take_all c.loop-atom.atom-index atoms (omega (arith, same, c.loop-atom-test.false))) c.loop-atom.invariant
