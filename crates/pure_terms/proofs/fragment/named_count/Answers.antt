use Rattle.std.proofs.Common.{◌≡◌, ◌≤◌, length, sym, ◌∙◌, ap, arith}
use Rattle.pure_terms.specs.View.{atoms_view}
use Rattle.pure_terms.proofs.Counting.{standing_below, standing_below-bound}
use Rattle.pure_terms.proofs.FragmentLaws.{numbers_of}
use Rattle.pure_terms.proofs.NamingLaws.{count_standing, counted_more, not_counted_more}
use Rattle.pure_terms.proofs.fragment.named_count.Goals as goal
use Rattle.pure_terms.proofs.fragment.named_count.Goals.{then-some_atom_names, else-some_atom_names}

pub overflow_add-count : goal.overflow_add-count
overflow_add-count c =
    let bound : standing_below c.loop-number.number (numbers_of (atoms_view c.args.atoms.now)) ≤ c.loop-number.number = standing_below-bound c.loop-number.number (numbers_of (atoms_view c.args.atoms.now)) in
    omega (arith, bound, c.loop-number.invariant)

pub loop-number-preserved : goal.loop-number-preserved
loop-number-preserved c = elim c.if-some_atom_names.branch [
  | then-some_atom_names w ↦ w.count-is ∙ counted_more c.loop-number.number c.loop-number.count c.args.atoms.now _ c.some_atom_names.ensures w.if-some_atom_names.true c.loop-number.invariant
  | else-some_atom_names w ↦ w.count-is ∙ not_counted_more c.loop-number.number c.loop-number.count c.args.atoms.now _ c.some_atom_names.ensures w.if-some_atom_names.false c.loop-number.invariant
]

pub returns : goal.returns
returns c =
    let end : c.loop-number.number ≡ length c.args.vars.now = omega arith in
    c.loop-number.invariant ∙ ap (λ n. standing_below n (numbers_of (atoms_view c.args.atoms.now))) end ∙ sym (count_standing c.args.vars.now (atoms_view c.args.atoms.now) c.requires)
