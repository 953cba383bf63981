use Rattle.std.proofs.Common.{◌≡◌, ◌++◌, take, map}
use Rattle.pure_terms.specs.View.{term_view, terms_view}
use Rattle.object_sym.proofs.deleting.with_terms.Given as goal

abbrev pub invariant-loop-term : goal.invariant-loop-term
invariant-loop-term l = terms_view l.terms ≡ terms_view l.fn.terms ++ map term_view (take l.term-index l.more)
