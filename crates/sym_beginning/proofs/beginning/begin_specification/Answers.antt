use Rattle.std.proofs.Common.{length, IfSome, sym, ap, subst, ◌∙◌}
use Rattle.std.specs.Option.{option_map}
use Rattle.gil_syntax.specs.Program.{prog_view}
use Rattle.gil_syntax.specs.Programs.{find_proc}
use Rattle.gil_syntax.specs.Valid.{param_names}
use Rattle.gil_syntax.specs.View.{proc_view, spec_view}
use Rattle.checked_runs.proofs.Stores.{good_spec}
use Rattle.addable_programs.proofs.AddableLaws.{programs_are_addable}
use Rattle.sym_paths.proofs.Beginning.{beginnings_stand}
use Rattle.sym_beginning.specs.Beginning.{CoversStarts, AreStarts, AreBeginnings}
use Rattle.sym_beginning.specs.Entering.{Enters, EntersIfAny}
use Rattle.sym_beginning.specs.Plainly.{IsPlainEntry, ArePlainBeginnings}
use Rattle.sym_beginning.specs.View.{entry_view, beginnings_view}
use Rattle.sym_beginning.proofs.EntryLaws.{names_length}
use Rattle.sym_beginning.proofs.Plainness.{plain_beginnings, none_begin_plainly}
use Rattle.sym_beginning.specs.Origins.{AreOfPrecondition}
use Rattle.sym_beginning.proofs.Origins.{are_of_precondition}
use Rattle.sym_beginning.proofs.StartLaws.{ok_to, found_there, proc_params, not_found, covers_starts, are_starts, are_beginnings, none_covers}
use Rattle.sym_beginning.proofs.beginning.begin_specification.Goals as goal

pub unreachable-requires : goal.unreachable-requires
unreachable-requires g c =
    let p = prog_view c.args.prog.now in
    let s = spec_view c.args.spec.now in
    let memory = g.M.Local.LocalMemory.memory in
    let addable = programs_are_addable p memory c.args.prog.now.well_made c.args.prog.now.valid c.requires.modes in
    let (q, (found, same)) = addable.procs s s.name c.requires.found in
    not_found (λ r. proc_view r.now) c.proc.result q (find_proc p.procs s.name) c.proc.ensures c.in-None.is found

pub entry_terms-requires-clause-once : goal.entry_terms-requires-clause-once
entry_terms-requires-clause-once g c =
    let s = spec_view c.args.spec.now in
    (good_spec (prog_view c.args.prog.now) g.M.Local.LocalMemory.memory s.name s c.args.prog.now.well_made c.args.prog.now.valid c.requires.modes c.requires.found).distinct

pub entry_terms-requires-clause-names : goal.entry_terms-requires-clause-names
entry_terms-requires-clause-names g c =
    let s = spec_view c.args.spec.now in
    (good_spec (prog_view c.args.prog.now) g.M.Local.LocalMemory.memory s.name s c.args.prog.now.well_made c.args.prog.now.valid c.requires.modes c.requires.found).program_names

pub begin_with-requires-clause-arguments : goal.begin_with-requires-clause-arguments
begin_with-requires-clause-arguments g c =
    let p = prog_view c.args.prog.now in
    let s = spec_view c.args.spec.now in
    let memory = g.M.Local.LocalMemory.memory in
    let addable = programs_are_addable p memory c.args.prog.now.well_made c.args.prog.now.valid c.requires.modes in
    let there = found_there (λ r. proc_view r.now) c.proc.result c.in-Some.proc (find_proc p.procs s.name) c.proc.ensures c.in-Some.is in
    let same = proc_params (find_proc p.procs s.name) (proc_view c.in-Some.proc.now) (param_names s.params) there (addable.procs s s.name c.requires.found) in
    let enters : Enters s (entry_view c.in-Some-2.entry) = subst (λ o. EntersIfAny s (option_map entry_view o)) c.in-Some-2.is c.in_ok-entry.ensures.enters in
    enters.as_many ∙ sym (names_length s.params) ∙ ap length (sym same)

pub begin_with-requires-clause-addable : goal.begin_with-requires-clause-addable
begin_with-requires-clause-addable g c =
    let s = spec_view c.args.spec.now in
    ((programs_are_addable (prog_view c.args.prog.now) g.M.Local.LocalMemory.memory c.args.prog.now.well_made c.args.prog.now.valid c.requires.modes).specs s s.name c.requires.found).pre

pub returns-in-Some-2-clause-cover : goal.returns-in-Some-2-clause-cover
returns-in-Some-2-clause-cover g c =
    let p = prog_view c.args.prog.now in
    let s = spec_view c.args.spec.now in
    let memory = g.M.Local.LocalMemory.memory in
    let addable = programs_are_addable p memory c.args.prog.now.well_made c.args.prog.now.valid c.requires.modes in
    let good = good_spec p memory s.name s c.args.prog.now.well_made c.args.prog.now.valid c.requires.modes c.requires.found in
    let q = proc_view c.in-Some.proc.now in
    let there = found_there (λ r. proc_view r.now) c.proc.result c.in-Some.proc (find_proc p.procs s.name) c.proc.ensures c.in-Some.is in
    let same = proc_params (find_proc p.procs s.name) q (param_names s.params) there (addable.procs s s.name c.requires.found) in
    let enters : Enters s (entry_view c.in-Some-2.entry) = subst (λ o. EntersIfAny s (option_map entry_view o)) c.in-Some-2.is c.in_ok-entry.ensures.enters in
    ok_to c.begin_with.result _ (λ b. CoversStarts (beginnings_view b) p memory g.M.Local.LocalMemory.actions g.M.SymMemory.stands s)
    (λ b begins. covers_starts memory g.M.SymMemory.stands g.M.SymMemory.terms g.M.SymMemory.kept g.M.SymMemory.plain (beginnings_stand g.M.SymMemory.stands g.M.SymMemory.terms g.M.SymMemory.plain) p g.M.Local.LocalMemory.actions q s there same good.distinct good.program_names (entry_view c.in-Some-2.entry) enters (beginnings_view b) begins) c.begin_with.ensures.begins

pub returns-in-Some-2-clause-exact : goal.returns-in-Some-2-clause-exact
returns-in-Some-2-clause-exact g c =
    let p = prog_view c.args.prog.now in
    let s = spec_view c.args.spec.now in
    let memory = g.M.Local.LocalMemory.memory in
    let addable = programs_are_addable p memory c.args.prog.now.well_made c.args.prog.now.valid c.requires.modes in
    let good = good_spec p memory s.name s c.args.prog.now.well_made c.args.prog.now.valid c.requires.modes c.requires.found in
    let q = proc_view c.in-Some.proc.now in
    let there = found_there (λ r. proc_view r.now) c.proc.result c.in-Some.proc (find_proc p.procs s.name) c.proc.ensures c.in-Some.is in
    let same = proc_params (find_proc p.procs s.name) q (param_names s.params) there (addable.procs s s.name c.requires.found) in
    let enters : Enters s (entry_view c.in-Some-2.entry) = subst (λ o. EntersIfAny s (option_map entry_view o)) c.in-Some-2.is c.in_ok-entry.ensures.enters in
    ok_to c.begin_with.result _ (λ b. AreStarts (beginnings_view b) memory g.M.SymMemory.stands s)
    (λ b begins. are_starts memory g.M.SymMemory.stands g.M.SymMemory.terms g.M.SymMemory.kept g.M.SymMemory.plain (beginnings_stand g.M.SymMemory.stands g.M.SymMemory.terms g.M.SymMemory.plain) p g.M.Local.LocalMemory.actions q s there same good.distinct good.program_names (entry_view c.in-Some-2.entry) enters (beginnings_view b) begins) c.begin_with.ensures.begins

pub returns-in-Some-2-clause-begin : goal.returns-in-Some-2-clause-begin
returns-in-Some-2-clause-begin g c =
    let p = prog_view c.args.prog.now in
    let s = spec_view c.args.spec.now in
    let memory = g.M.Local.LocalMemory.memory in
    let addable = programs_are_addable p memory c.args.prog.now.well_made c.args.prog.now.valid c.requires.modes in
    let good = good_spec p memory s.name s c.args.prog.now.well_made c.args.prog.now.valid c.requires.modes c.requires.found in
    let q = proc_view c.in-Some.proc.now in
    let there = found_there (λ r. proc_view r.now) c.proc.result c.in-Some.proc (find_proc p.procs s.name) c.proc.ensures c.in-Some.is in
    let same = proc_params (find_proc p.procs s.name) q (param_names s.params) there (addable.procs s s.name c.requires.found) in
    let enters : Enters s (entry_view c.in-Some-2.entry) = subst (λ o. EntersIfAny s (option_map entry_view o)) c.in-Some-2.is c.in_ok-entry.ensures.enters in
    ok_to c.begin_with.result _ (λ b. AreBeginnings (beginnings_view b) p g.M.SymMemory.terms g.M.SymMemory.kept s)
    (λ b begins. are_beginnings memory g.M.SymMemory.stands g.M.SymMemory.terms g.M.SymMemory.kept g.M.SymMemory.plain (beginnings_stand g.M.SymMemory.stands g.M.SymMemory.terms g.M.SymMemory.plain) p g.M.Local.LocalMemory.actions q s there same good.distinct good.program_names (entry_view c.in-Some-2.entry) enters (beginnings_view b) begins) c.begin_with.ensures.begins

pub returns-in-Some-2-clause-origin : goal.returns-in-Some-2-clause-origin
returns-in-Some-2-clause-origin g c =
    let s = spec_view c.args.spec.now in
    let q = proc_view c.in-Some.proc.now in
    let enters : Enters s (entry_view c.in-Some-2.entry) = subst (λ o. EntersIfAny s (option_map entry_view o)) c.in-Some-2.is c.in_ok-entry.ensures.enters in
    ok_to c.begin_with.result _ (λ b. AreOfPrecondition (beginnings_view b) s)
    (λ b begins. are_of_precondition g.M.Local.LocalMemory.memory g.M.SymMemory.stands g.M.SymMemory.terms g.M.SymMemory.kept q s (entry_view c.in-Some-2.entry) enters (beginnings_view b) begins) c.begin_with.ensures.begins

pub returns-in-None-2-clause-cover : goal.returns-in-None-2-clause-cover
returns-in-None-2-clause-cover g c =
    let p = prog_view c.args.prog.now in
    let s = spec_view c.args.spec.now in
    let memory = g.M.Local.LocalMemory.memory in
    let good = good_spec p memory s.name s c.args.prog.now.well_made c.args.prog.now.valid c.requires.modes c.requires.found in
    let q = proc_view c.in-Some.proc.now in
    let there = found_there (λ r. proc_view r.now) c.proc.result c.in-Some.proc (find_proc p.procs s.name) c.proc.ensures c.in-Some.is in
    let never = subst (λ o. EntersIfAny s (option_map entry_view o)) c.in-None-2.is c.in_ok-entry.ensures.enters in
    subst (λ b. CoversStarts b p memory g.M.Local.LocalMemory.actions g.M.SymMemory.stands s) (sym c.begin_nowhere.ensures)
    (none_covers memory g.M.SymMemory.stands g.M.SymMemory.terms g.M.SymMemory.kept p g.M.Local.LocalMemory.actions q s there good.program_names never)

pub returns-in-Some-2-clause-plain : goal.returns-in-Some-2-clause-plain
returns-in-Some-2-clause-plain g c keeps plainly =
    let s = spec_view c.args.spec.now in
    let e = entry_view c.in-Some-2.entry in
    let enters : Enters s e = subst (λ o. EntersIfAny s (option_map entry_view o)) c.in-Some-2.is c.in_ok-entry.ensures.enters in
    let entry : IsPlainEntry e = subst (λ o. IfSome o (λ x. IsPlainEntry (entry_view x))) c.in-Some-2.is (c.in_ok-entry.ensures.plain plainly.sorts) in
    ok_to c.begin_with.result _ (λ b. ArePlainBeginnings g.M.SymMemory.plain s (beginnings_view b))
    (λ b begins. plain_beginnings g.M.Local.LocalMemory.memory g.M.SymMemory.stands g.M.SymMemory.terms g.M.SymMemory.kept g.M.SymMemory.plain g.met.M.SymMemory.plain_is_said
    (beginnings_stand g.M.SymMemory.stands g.M.SymMemory.terms g.M.SymMemory.plain) (proc_view c.in-Some.proc.now) s e enters entry plainly.items (beginnings_view b) begins)
    (c.begin_with.ensures.plain keeps)

pub returns-in-None-2-clause-plain : goal.returns-in-None-2-clause-plain
returns-in-None-2-clause-plain g c keeps plainly =
    let s = spec_view c.args.spec.now in
    subst (λ b. ArePlainBeginnings g.M.SymMemory.plain s b) (sym c.begin_nowhere.ensures) (none_begin_plainly g.M.SymMemory.plain s)
