-- A list whose elements are seen as they are.
use Rattle.std.proofs.Common.{◌≡◌, List, map, Option, Some, Result, Ok, Err, sym, ap, ◌∙◌}
use Rattle.value_text.specs.declared.faults.ReadFault.{ReadFault}
use Rattle.value_text.specs.Reading.{Gives}

pub gives_same : {X Y : Type 0} (f g : X → Y) (same : (x : X) → f x ≡ g x) (r : Result X ReadFault) (read : Option Y) → Gives f r read → Gives g r read
gives_same f g same (Ok x) read is = is ∙ ap Some (same x)
gives_same f g same (Err fault) read is = is
