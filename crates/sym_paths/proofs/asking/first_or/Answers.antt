use Rattle.std.proofs.Common.{subst, IfSome, IfNone}
use Rattle.pure_terms.specs.Laws.{AreEachInFragment}
use Rattle.pure_terms.specs.View.{atoms_view}
use Rattle.sym_paths.specs.Steps.{IsFirstOutside}
use Rattle.sym_paths.proofs.AskedFragments.{named_first}
use Rattle.sym_paths.proofs.asking.first_or.Goals as goal

pub returns-in-Some : goal.returns-in-Some
returns-in-Some c = subst (λ o. IfSome o (IsFirstOutside (atoms_view c.args.atoms.now))) c.in-Some.is c.in_ok-first.ensures.first

pub returns-in-None : goal.returns-in-None
returns-in-None c =
    named_first (atoms_view c.args.atoms.now) c.args.named c.requires.named (subst (λ o. IfNone o (AreEachInFragment (atoms_view c.args.atoms.now))) c.in-None.is c.in_ok-first.ensures.none)
