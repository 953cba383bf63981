-- The conditions that a chunk of objects is asked about: what it says of the name p of its location.
use Rattle.std.specs.Prelude.{List}
use Rattle.pure_terms.specs.Pure.{PureTerm, list_of}
use Rattle.sym_chunks.specs.ByPlace.{all_by_place}
use Rattle.sym_chunks.specs.Forms.{form_of}
use Rattle.sym_chunks.specs.Keys.{other_sub}
use Rattle.sym_chunks.specs.NameTerms.{listed, unlisted, unheld}
use Rattle.sym_model.specs.Alternatives.{Alternatives, never, always, both, any, same, other}
use Rattle.sym_model.specs.Pure.{PureSub, named, dom, PureChunk}

-- the chunk lists the names of its location by a list term, and p is one of them, or none of them
abbrev pub listed_there : PureTerm → PureSub → PureTerm → Alternatives
listed_there p dom val = listed p val
listed_there p _ val = never

abbrev pub lists : PureTerm → PureChunk → Alternatives
lists p c = listed_there p c.sub c.val

abbrev pub unlisted_there : PureTerm → PureSub → PureTerm → Alternatives
unlisted_there p dom val = unlisted p val
unlisted_there p _ val = never

abbrev pub lists_not : PureTerm → PureChunk → Alternatives
lists_not p c = unlisted_there p c.sub c.val

-- the chunk has the names of l, whose list isn't known: they are a term whose literal form is needed
abbrev pub opened_there : PureTerm → PureTerm → PureSub → PureTerm → Alternatives
opened_there l loc dom val = form_of val (same l loc)
opened_there l loc _ val = never

abbrev pub opened_at : PureTerm → PureChunk → Alternatives
opened_at l c = opened_there l c.loc c.sub c.val

-- some chunk has the names of l, whose list isn't known, and none is that of p
abbrev pub opened : PureTerm → PureTerm → List PureChunk → Alternatives
opened l p cs = both (any (opened_at l) cs) (all_by_place l (λ c. other_sub (named p) c.sub) cs)

-- the chunk doesn't list the names of its location by a list term
abbrev pub untold_there : PureSub → PureTerm → Alternatives
untold_there dom (list_of ds) = never
untold_there _ val = always

abbrev pub untold : PureChunk → Alternatives
untold c = untold_there c.sub c.val

-- the chunk neither has the names of its location nor is that of p
abbrev pub unknown_there : PureTerm → PureSub → Alternatives
unknown_there p dom = never
unknown_there p s = other_sub (named p) s

abbrev pub knows_not : PureTerm → PureChunk → Alternatives
knows_not p c = unknown_there p c.sub

-- the chunk doesn't tell of p: it is of another name; or it lists the names of its location, and p among them
abbrev pub tells_not : PureTerm → List PureChunk → PureTerm → PureSub → PureTerm → Alternatives
tells_not p cs loc (named q) val = other p q
tells_not p cs loc dom val = unheld p loc cs val
tells_not p cs loc _ val = always

abbrev pub lacks : PureTerm → List PureChunk → PureChunk → Alternatives
lacks p cs c = tells_not p cs c.loc c.sub c.val
