use Rattle.std.proofs.Common.{subst, IfSome, IfNone}
use Rattle.pure_terms.specs.Laws.{AreEachInFragment}
use Rattle.pure_terms.specs.View.{atoms_view}
use Rattle.sym_paths.specs.Steps.{IsFirstOutside}
use Rattle.sym_paths.proofs.AskedFragments.{open_not_each}
use Rattle.sym_paths.proofs.asking.first_needing.Goals as goal

pub returns : goal.returns
returns c = subst (λ o. IfSome o (IsFirstOutside (atoms_view c.args.atoms.now))) c.in-Some.is c.in_ok-reason.ensures.first

pub unreachable-requires : goal.unreachable-requires
unreachable-requires c =
    open_not_each (atoms_view c.args.atoms.now) c.requires.needs (subst (λ o. IfNone o (AreEachInFragment (atoms_view c.args.atoms.now))) c.in-None.is c.in_ok-reason.ensures.none)
