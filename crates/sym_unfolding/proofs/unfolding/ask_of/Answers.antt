use Rattle.std.proofs.Common.{sym, subst}
use Rattle.pure_terms.specs.Meaning.{IsOver}
use Rattle.pure_terms.specs.Pure.{term_of}
use Rattle.pure_terms.specs.View.{atoms_view}
use Rattle.sym_paths.proofs.AskedFragments.{each_over_all}
use Rattle.sym_model.specs.Lists.{Each}
use Rattle.sym_model.specs.View.{path_view}
use Rattle.sym_model.proofs.ListLaws.{each_append}
use Rattle.sym_unfolding.proofs.unfolding.ask_of.Goals as goal

pub ask-requires : goal.ask-requires
ask-requires g c =
    each_over_all c.args.vars.now (atoms_view c.in_ok-conds.conds)
    (subst (Each (λ a. IsOver c.args.vars.now (term_of a))) (sym c.in_ok-conds.ensures)
    (each_append (λ a. IsOver c.args.vars.now (term_of a)) (path_view c.args.conds.now) (atoms_view c.args.more.now) c.requires.conds c.requires.more))
