-- The conditions under which a chunk's key is one that is asked for.
use Rattle.pure_terms.specs.Pure.{PureTerm}
use Rattle.sym_model.specs.Alternatives.{Alternatives, never, always, both, same, other}
use Rattle.sym_model.specs.Pure.{PureSub, named, cell, shape, bound, dom, proto, gone, PureChunk}

-- two subkeys of one location are the same
abbrev pub same_sub : PureSub → PureSub → Alternatives
same_sub (named p) (named q) = same p q
same_sub (cell i) (cell j) = same i j
same_sub shape shape = always
same_sub bound bound = always
same_sub dom dom = always
same_sub proto proto = always
same_sub gone gone = always
same_sub _ _ = never

-- they are different
abbrev pub other_sub : PureSub → PureSub → Alternatives
other_sub (named p) (named q) = other p q
other_sub (cell i) (cell j) = other i j
other_sub shape shape = never
other_sub bound bound = never
other_sub dom dom = never
other_sub proto proto = never
other_sub gone gone = never
other_sub _ _ = always

-- the chunk is that of the subkey s of l
abbrev pub at_key : PureTerm → PureSub → PureChunk → Alternatives
at_key l s c = both (same l c.loc) (same_sub s c.sub)
