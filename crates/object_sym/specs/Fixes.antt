-- What fixes a key of objects that is missed.
use Rattle.std.specs.Prelude.{List, [], ◌∷◌}
use Rattle.core_uses.specs.Uses.{fix_of}
use Rattle.mem_model.specs.declared.cores.Core.{Core}
use Rattle.mem_model.specs.CoreNames.{core_name}
use Rattle.pure_terms.specs.declared.variables.Sort.{Sort}
use Rattle.pure_terms.specs.Pure.{PureTerm}
use Rattle.sym_model.specs.Pure.{PureSub, named, PureKey, PureFix}

-- the names of the object at a location, which are a list
abbrev pub names_fix : PureTerm → PureFix
names_fix loc = record { core = core_name Core.Dom; ins = loc ∷ []; outs = Sort.List ∷ [] }

abbrev pub names_beside : PureTerm → PureSub → List PureFix
names_beside loc (named p) = names_fix loc ∷ []
names_beside loc _ = []

-- the core predicate of the key; of a name also the names of its object, for the object may have no such name
abbrev pub object_fixes : PureKey → List PureFix
object_fixes k = fix_of k ∷ names_beside k.loc k.sub
