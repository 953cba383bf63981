-- The views, level by level.
use Rattle.std.proofs.Common.{◌≡◌, map, rules}
use Rattle.pure_terms.specs.View.{term_view, terms_view}
use Rattle.pure_terms.specs.declared.terms.Term.{the_lemmas}
use Rattle.pure_terms.specs.declared.terms.Terms.{Terms}

pub terms_view-items : (ts : Terms) → terms_view ts ≡ map term_view ts.items.items
terms_view-items ts = search (rules, the_lemmas)
