-- The frame theorem.
use Rattle.std.proofs.Common.{refl, arith}
use Rattle.gil_machine.specs.Run.{start}
use Rattle.gil_machine.proofs.Proper.{starts_proper}
use Rattle.checked_runs.specs.Checked.{Entry}
use Rattle.checked_runs.proofs.Stores.{good_spec}
use Rattle.checked_runs.proofs.Realized.{start_realized, all_simulated}
use Rattle.checked_runs.specs.Laws.{VerifiedSpecificationsHold}

pub verified_specifications_hold : VerifiedSpecificationsHold
verified_specifications_hold p memory m chosen made valid modes is_memory verified s is_chosen args variables own frame whole counter inputs n entered meets union proper variables_below =
    let entry : Entry = record { spec = s; args = args; variables = variables } in
    let (d, (starts, realized)) =
    start_realized p memory entry (good_spec p memory s.name s made valid modes is_chosen.found) own frame (start p s.name args whole counter) entered meets union refl refl (starts_proper p memory s.name args whole counter proper) proper.arguments_below variables_below m in
    all_simulated p memory m chosen inputs made valid modes is_memory verified n n (omega arith) entry 0 d frame (start p s.name args whole counter) is_chosen starts realized
