use Rattle.std.proofs.Common.{sym, ◌∙◌, true≢false}
use Rattle.gil_values.proofs.Joined.{element_read}
use Rattle.pure_terms.specs.Meaning.{IsOver}
use Rattle.pure_terms.specs.View.{term_view, terms_view}
use Rattle.sym_model.proofs.ListLaws.{each_at}
use Rattle.bi_beginnings.proofs.again.are_over.Goals as goal

pub returns-then-not-is_over : goal.returns-then-not-is_over
returns-then-not-is_over c = (
  λ no. absurd (true≢false (sym no)),
  λ all.
      let here = element_read term_view _ _ c.loop-term.term-index _ c.as_slice-term-items.ensures c.loop-term-test.true c.term-item.is in
      let at = each_at (IsOver c.args.vars.now) (terms_view c.args.terms.now) c.loop-term.term-index _ all here in
      absurd (true≢false (sym (c.is_over.ensures.1 at) ∙ c.if-not-is_over.true)),
)
