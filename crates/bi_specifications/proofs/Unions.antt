-- Uses that have a heap are of core predicates.
use Rattle.std.proofs.Common.{◌≡◌, List, [], ◌∷◌, ◌++◌, Option, Some, None, IsSome, refl}
use Rattle.std.specs.FinMap.{remove}
use Rattle.gil_values.specs.Pure.{PureValue}
use Rattle.mem_model.specs.declared.cores.Core.{Core}
use Rattle.mem_model.specs.declared.keys.Key.{Key}
use Rattle.mem_model.specs.CoreNames.{core_of}
use Rattle.mem_model.specs.Cores.{entry_named}
use Rattle.mem_model.specs.Heaps.{Heap}
use Rattle.assertion_terms.specs.Laws.{AreUsesOver}
use Rattle.pure_terms.specs.declared.variables.Sort.{Sort}
use Rattle.sym_model.specs.Listing.{AreUnion}
use Rattle.sym_model.specs.Lists.{Each}
use Rattle.sym_model.specs.Pure.{PureUse}
use Rattle.sym_model.specs.Terms.{AreEachOver}
use Rattle.sym_model.proofs.ListLaws.{not_none}

-- a core predicate that stands for a key is one
entry_core : (o : Option Core) (ws : List PureValue) (b : Key × PureValue) → entry_named o ws ≡ Some b → IsSome o
entry_core (Some core) ws b is = refl
entry_core None ws b is = not_none is

pub union_uses : (v : List PureValue) (vars : List Sort) (us : List PureUse) (h : Heap) → AreUnion v us h → Each (λ u. AreEachOver vars (u.ins ++ u.outs)) us → AreUsesOver vars us
union_uses v vars [] h union over = tt
union_uses v vars (u ∷ us) h (k, (w, (is, holds, rest))) over =
    ((entry_core (core_of u.core) is.ws (k, w) is.entry, over.0), union_uses v vars us (remove h k) rest over.1)
