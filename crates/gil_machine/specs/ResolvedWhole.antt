-- Procedures and programs whose variables are slots: what they have of those that they stand for.
use Rattle.std.specs.Prelude.{◌≡◌, ◌<◌, map, length}
use Rattle.std.specs.List.{All}
use Rattle.gil_syntax.specs.Names.{place_of, first_place}
use Rattle.gil_syntax.specs.Program.{prog_view}
use Rattle.gil_syntax.specs.View.{numbered_command_view, proc_view}
use Rattle.gil_machine.specs.declared.resolved.ResolvedProc.{ResolvedProc}
use Rattle.gil_machine.specs.declared.resolved.ResolvedProg.{ResolvedProg}
use Rattle.gil_machine.specs.ResolvedView.{IsOverSlots, resolved_numbered_view}
use Rattle.gil_machine.specs.SlotNames.{Names, IsTable, name_at, names_of}

abbrev pub proc_slots : ResolvedProc → Names
proc_slots q = names_of q.names.items

-- each slot has a name of its own, and the parameters and commands are those of the procedure
pub record IsResolvedProc (q : ResolvedProc) : Type 0 where
  pub table : IsTable (proc_slots q)
  pub params_seen : map (name_at (proc_slots q)) q.params.items ≡ q.proc.now.params
  pub params_placed : All (λ slot. slot < length (proc_slots q)) q.params.items
  pub body_seen : map (resolved_numbered_view (proc_slots q)) q.body.items ≡ map numbered_command_view q.proc.now.body
  pub body_placed : All (IsOverSlots (proc_slots q)) q.body.items

-- the procedures are those of the program, each found at the first place of its name
pub record IsResolvedProg (r : ResolvedProg) : Type 0 where
  pub procs_seen : map (λ q. proc_view q.proc.now) r.procs ≡ (prog_view r.prog.now).procs
  pub places : place_of r.places ≡ first_place (map (λ q. q.proc.now.name) r.procs)
  pub resolved : All IsResolvedProc r.procs
