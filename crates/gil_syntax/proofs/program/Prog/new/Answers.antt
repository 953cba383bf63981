use Rattle.std.proofs.Common.{IsTrue, subst, sym, ap, ◌∙◌}
use Rattle.gil_syntax.specs.declared.validity.InvalidKind.TheVariants.{Duplicate}
use Rattle.gil_syntax.specs.Valid.{has_twice, IsValid}
use Rattle.gil_syntax.specs.View.{proc_view, parts_view}
use Rattle.gil_syntax.specs.WellMade.{is_well_made}
use Rattle.gil_syntax.proofs.ByNameLemmas.{map-seen}
use Rattle.gil_syntax.proofs.CheckLemmas.{procs_distinct}
use Rattle.gil_syntax.proofs.ProgramLemmas.{beside_named, beside_seen}
use Rattle.gil_syntax.proofs.program.Prog.new.Goals as goal

pub procs_by_name-requires : goal.procs_by_name-requires
procs_by_name-requires c = ap has_twice (sym (map-seen proc_view (λ q. q.name) c.args.parts.procs)) ∙ procs_distinct (parts_view c.args.parts) (c.in_ok-check.ensures.valid Duplicate)

pub invariant_of-result : goal.invariant_of-result
invariant_of-result c =
    let seen = beside_seen c.in_ok-procs.procs.entries c.args.parts c.in_ok-procs.ensures in
    record {
      named = beside_named c.in_ok-procs.procs.entries c.args.parts.procs c.in_ok-procs.ensures;
      valid = subst IsValid (sym seen) c.in_ok-check.ensures.valid;
      well_made = subst (λ p. IsTrue (is_well_made p)) (sym seen) c.requires;
    }

pub returns-clause-program : goal.returns-clause-program
returns-clause-program c = beside_seen c.in_ok-procs.procs.entries c.args.parts c.in_ok-procs.ensures
