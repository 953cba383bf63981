use Rattle.std.proofs.Common.{◌≡◌, ◌<◌, ◌^◌, pos, length, to_z, ap, sym, ◌∙◌, arith}
use Rattle.std.proofs.lemmas.Int.{to_z_pos}
use Rattle.std.specs.Int.{w128}
use Rattle.pure_terms.specs.declared.literals.Literal.{Literal}
use Rattle.pure_terms.specs.Pure.{literal, to_list-from_list}
use Rattle.pure_terms.specs.View.{term_view, terms_view}
use Rattle.sym_evaluation.specs.Checks.{length_of}
use Rattle.sym_evaluation.proofs.Views.{term_view-Lit, term_view-List}
use Rattle.sym_evaluation.proofs.checks.length_of.Goals as goal

pub returns-in-List : goal.returns-in-List
returns-in-List c =
    let small : c.len.result < 2 ^ 127 = omega (arith, c.len.type_inv) in
    let count : to_z w128 c.len.result ≡ pos (length (terms_view c.in-List.elements)) = to_z_pos w128 c.len.result small ∙ ap pos c.len.ensures in
    term_view-Lit (Literal.Int (to_z w128 c.len.result))
    ∙ ap (λ n. literal (Literal.Int n)) (count ∙ ap (λ ts. pos (length ts)) (sym (to_list-from_list (terms_view c.in-List.elements))))
    ∙ sym (ap (λ t. length_of (term_view t)) c.in-List.is ∙ ap length_of (term_view-List c.in-List.elements))
