use Rattle.std.proofs.Common.{to_z, ◌≡◌, length, pos, ap, sym, ◌∙◌, rules}
use Rattle.std.specs.Int.{w128}
use Rattle.pure_terms.specs.declared.literals.Literal.{Literal}
use Rattle.pure_terms.specs.declared.terms.Term.{Term, the_lemmas}
use Rattle.pure_terms.specs.Pure.{to_list-from_list}
use Rattle.pure_terms.specs.View.{term_view, terms_view}
use Rattle.rewrite_book.specs.Forms.{number}
use Rattle.rewrite_book.proofs.lists.count_of.Goals as goal

pub returns : goal.returns
returns c =
    let fits : to_z w128 c.len.result ≡ pos c.len.result = search rules in
    let seen : term_view (Term.Lit (Literal.Int (to_z w128 c.len.result))) ≡ number (to_z w128 c.len.result) = search (rules, the_lemmas) in
    seen ∙ ap number (fits ∙ ap pos (c.len.ensures ∙ ap length (sym (to_list-from_list (terms_view c.args.terms.now)))))
