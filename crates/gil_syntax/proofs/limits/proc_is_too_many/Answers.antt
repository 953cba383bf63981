use Rattle.std.proofs.Common.{◌≡◌, ◌||◌, leb, sym, ap, ◌∙◌, arith}
use Rattle.std.proofs.lemmas.Bool.Decides.{nat_tests}
use Rattle.gil_syntax.specs.Valid.{most_items, is_large, has_wide_literal, a_proc}
use Rattle.gil_syntax.specs.View.{proc_view}
use Rattle.gil_syntax.proofs.LimitLemmas.{proc_too_many}
use Rattle.gil_syntax.proofs.limits.proc_is_too_many.Goals as goal
use Rattle.gil_syntax.proofs.limits.proc_is_too_many.Goals.{then-place-ge-MOST_ITEMS, else-place-ge-MOST_ITEMS}

pub returns-then-is_large_proc : goal.returns-then-is_large_proc
returns-then-is_large_proc c p below =
    let item = a_proc (proc_view c.args.proc.now) in
    let value : c.if-place-ge-MOST_ITEMS.value ≡ (leb most_items c.args.place || is_large item) = elim c.if-place-ge-MOST_ITEMS.branch [
      | then-place-ge-MOST_ITEMS w ↦ grind (arith, nat_tests)
      | else-place-ge-MOST_ITEMS w ↦ grind (arith, nat_tests)
    ] in
    c.if-is_large_proc.true ∙ ap (λ b. b || has_wide_literal p item) (sym c.if-is_large_proc.true ∙ value) ∙ proc_too_many p c.args.place (proc_view c.args.proc.now) below

pub returns-else-is_large_proc : goal.returns-else-is_large_proc
returns-else-is_large_proc c p below =
    let item = a_proc (proc_view c.args.proc.now) in
    let value : c.if-place-ge-MOST_ITEMS.value ≡ (leb most_items c.args.place || is_large item) = elim c.if-place-ge-MOST_ITEMS.branch [
      | then-place-ge-MOST_ITEMS w ↦ grind (arith, nat_tests)
      | else-place-ge-MOST_ITEMS w ↦ grind (arith, nat_tests)
    ] in
    c.proc_has_wide_literal.ensures p ∙ ap (λ b. b || has_wide_literal p item) (sym c.if-is_large_proc.false ∙ value) ∙ proc_too_many p c.args.place (proc_view c.args.proc.now) below
