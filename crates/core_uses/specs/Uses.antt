-- Chunks as uses of core predicates, one key each, and the fixes of a key.
use Rattle.std.specs.Prelude.{◌≡◌, List, [], ◌∷◌, map}
use Rattle.mem_model.specs.CoreNames.{core_name}
use Rattle.pure_terms.specs.declared.variables.Sort.{Sort}
use Rattle.pure_terms.specs.Pure.{PureTerm}
use Rattle.sym_model.specs.Cores.{core_of_sub}
use Rattle.sym_model.specs.Pure.{PureSub, gone, sub_terms, PureKey, PureChunk, PureUse, PureFix}

-- what a key holds is the out of its core predicate; `gone` has none
abbrev pub outs_at : {A : Type 0} → PureSub → A → List A
outs_at gone t = []
outs_at s t = t ∷ []

abbrev pub use_of : PureChunk → PureUse
use_of c = record { core = core_name (core_of_sub c.sub); ins = c.loc ∷ sub_terms c.sub; outs = outs_at c.sub c.val }

abbrev pub listed_uses : List PureChunk → List PureUse
listed_uses cs = map use_of cs

-- the core predicate of the key, with an out of any sort
abbrev pub fix_of : PureKey → PureFix
fix_of k = record { core = core_name (core_of_sub k.sub); ins = k.loc ∷ sub_terms k.sub; outs = outs_at k.sub Sort.Any }
