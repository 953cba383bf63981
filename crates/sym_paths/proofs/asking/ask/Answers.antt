use Rattle.std.proofs.Common.{sym, subst, ◌∙◌}
use Rattle.pure_terms.specs.Deciding.{IsRight}
use Rattle.pure_terms.specs.View.{atoms_view, decision_view}
use Rattle.sym_paths.proofs.AskedFragments.{open_seen, open_is_outside}
use Rattle.sym_paths.proofs.asking.ask.Goals as goal

pub first_needing-requires : goal.first_needing-requires
first_needing-requires g c = record { over = c.requires; needs = sym (open_seen c.args.atoms.now) ∙ sym c.needs_form-open.ensures ∙ c.if-open.true }

pub returns-then-open : goal.returns-then-open
returns-then-open g c = record {
  outside = open_is_outside (atoms_view c.args.atoms.now) (sym (open_seen c.args.atoms.now) ∙ sym c.needs_form-open.ensures ∙ c.if-open.true);
  first = c.in_ok-first_needing-in-Sat.ensures;
}

pub returns-else-open : goal.returns-else-open
returns-else-open g c =
    let right = subst (λ d. IsRight c.args.vars.now (atoms_view c.args.atoms.now) (decision_view d)) c.in-Sat.is c.in_ok-decide.ensures in
    record { meets = right.0; no_form = sym (open_seen c.args.atoms.now) ∙ sym c.needs_form-open.ensures ∙ c.if-open.false; moderate = right.1 }

pub first_or-requires : goal.first_or-requires
first_or-requires g c =
    let right = subst (λ d. IsRight c.args.vars.now (atoms_view c.args.atoms.now) (decision_view d)) c.in-Unknown.is c.in_ok-decide.ensures in
    record { over = c.requires; named = right.1 }

pub returns-in_ok-first_or-in-Unknown : goal.returns-in_ok-first_or-in-Unknown
returns-in_ok-first_or-in-Unknown g c =
    let right = subst (λ d. IsRight c.args.vars.now (atoms_view c.args.atoms.now) (decision_view d)) c.in-Unknown.is c.in_ok-decide.ensures in
    record { outside = right.0; first = c.in_ok-first_or-in-Unknown.ensures }
