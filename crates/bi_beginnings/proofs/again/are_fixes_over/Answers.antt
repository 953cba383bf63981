use Rattle.std.proofs.Common.{map, sym, ap, ◌∙◌, true≢false}
use Rattle.gil_values.proofs.Joined.{element_read}
use Rattle.sym_model.specs.View.{fix_view, fixes_view}
use Rattle.sym_model.proofs.ListLaws.{each_at}
use Rattle.bi_beginnings.specs.Fixing.{IsFixOver}
use Rattle.bi_beginnings.proofs.again.are_fixes_over.Goals as goal

pub returns-then-not-is_fix_over : goal.returns-then-not-is_fix_over
returns-then-not-is_fix_over c = (
  λ no. absurd (true≢false (sym no)),
  λ all.
      let here = element_read fix_view _ _ c.loop-fix.fix-index _ (ap (map fix_view) c.as_slice-fix-items.ensures) c.loop-fix-test.true c.fix-item.is in
      let at = each_at (IsFixOver c.args.memory c.args.vars.now) (fixes_view c.args.fixes.now) c.loop-fix.fix-index _ all here in
      absurd (true≢false (sym (c.is_fix_over.ensures.1 at) ∙ c.if-not-is_fix_over.true)),
)
