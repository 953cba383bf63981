use Rattle.std.proofs.Common.{◌≡◌, drop}
use Rattle.std.specs.List.{list_any}
use Rattle.std.specs.Str.{bytes_eq}
use Rattle.object_lang.proofs.assigning.is_parameter.Given as goal

abbrev pub invariant-loop-parameter : goal.invariant-loop-parameter
invariant-loop-parameter l = list_any (λ y. bytes_eq y l.name) l.params ≡ list_any (λ y. bytes_eq y l.name) (drop l.parameter-index l.parameter-items)
