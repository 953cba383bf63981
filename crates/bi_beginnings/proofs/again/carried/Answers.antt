use Rattle.std.proofs.Common.{◌≡◌, List, map, sym, ap, subst, refl, ◌∙◌}
use Rattle.gil_values.proofs.Joined.{element_read}
use Rattle.pure_terms.specs.declared.atoms.Atom.{Atom}
use Rattle.pure_terms.specs.View.{atom_view, atoms_view}
use Rattle.sym_model.specs.Lists.{Each}
use Rattle.sym_model.proofs.ListLaws.{one_at}
use Rattle.bi_beginnings.specs.Fixing.{IsCarried}
use Rattle.bi_beginnings.proofs.Tables.{each_pushed}
use Rattle.bi_beginnings.proofs.again.carried.Goals.{then-may_be_carried+then-not-stands_among+in_ok-copy+in_ok-push, else-may_be_carried}
use Rattle.bi_beginnings.proofs.again.carried.Goals as goal

pub loop-atom-preserved : goal.loop-atom-preserved
loop-atom-preserved c =
    let conds = atoms_view c.args.conds.now in
    let Is = IsCarried c.args.vars.now conds in
    let Are = λ (atoms : List Atom). Each Is (atoms_view atoms) in
    elim c.if-may_be_carried.branch [
      | then-may_be_carried+then-not-stands_among+in_ok-copy+in_ok-push w ↦
          let at = element_read atom_view _ _ c.loop-atom.atom-index _ (ap (map atom_view) c.as_slice-atom-items.ensures) c.loop-atom-test.true c.atom-item.is in
          subst Are (sym (w.atoms-is ∙ w.in_ok-push.ensures.ok))
          (each_pushed Is atom_view c.loop-atom.atoms w.in_ok-copy.field-0 c.loop-atom.invariant
          (subst Is (sym w.in_ok-copy.ensures) (c.may_be_carried.ensures w.if-may_be_carried.true, one_at (λ b. b ≡ _) conds c.loop-atom.atom-index _ at refl)))
      | else-may_be_carried w ↦ subst Are (sym w.atoms-is) c.loop-atom.invariant
    ]
