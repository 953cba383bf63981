use Rattle.std.proofs.Common.{◌++◌, sym, subst}
use Rattle.pure_terms.specs.Meaning.{IsOver, AreOver}
use Rattle.pure_terms.specs.Pure.{term_of}
use Rattle.pure_terms.specs.View.{atoms_view}
use Rattle.sym_paths.proofs.AskedFragments.{each_over_all}
use Rattle.sym_paths.specs.Asking.{IsRightly}
use Rattle.sym_paths.specs.AskingView.{satisfiability_view}
use Rattle.sym_model.proofs.ListLaws.{each_append}
use Rattle.checked_rows.proofs.reading.doubt_there.Goals as goal

pub ask-requires : goal.ask-requires
ask-requires g c =
    subst (AreOver c.args.vars.now) (sym c.in_ok-atoms.ensures)
    (each_over_all c.args.vars.now (atoms_view c.args.conds.now ++ atoms_view c.args.more.now)
    (each_append (λ a. IsOver c.args.vars.now (term_of a)) (atoms_view c.args.conds.now) (atoms_view c.args.more.now) c.requires.conds c.requires.more))

pub returns-in-Satisfiable-clause-doubt : goal.returns-in-Satisfiable-clause-doubt
returns-in-Satisfiable-clause-doubt g c =
    let atoms = atoms_view c.in_ok-atoms.atoms in
    let told = subst (λ k. IsRightly c.args.vars.now atoms (satisfiability_view k)) c.in-Satisfiable.is c.in_ok-ask.ensures in
    (c.in_ok-atoms.ensures, told.meets)

pub returns-in-Undecided-clause-doubt : goal.returns-in-Undecided-clause-doubt
returns-in-Undecided-clause-doubt g c =
    let atoms = atoms_view c.in_ok-atoms.atoms in
    let told = subst (λ k. IsRightly c.args.vars.now atoms (satisfiability_view k)) c.in-Undecided.is c.in_ok-ask.ensures in
    (c.in_ok-atoms.ensures, told)
