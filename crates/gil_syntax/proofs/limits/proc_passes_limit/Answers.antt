use Rattle.std.proofs.Common.{◌≡◌, ◌||◌, leb, sym, ap, ◌∙◌, arith}
use Rattle.std.proofs.lemmas.Bool.Decides.{nat_tests}
use Rattle.gil_syntax.specs.Valid.{most_items, has_many_names, has_wide_literal, a_proc}
use Rattle.gil_syntax.specs.View.{proc_view}
use Rattle.gil_syntax.proofs.LimitLemmas.{proc_past_limit}
use Rattle.gil_syntax.proofs.limits.proc_passes_limit.Goals as goal
use Rattle.gil_syntax.proofs.limits.proc_passes_limit.Goals.{then-place-ge-MOST_ITEMS, else-place-ge-MOST_ITEMS}

pub returns-then-has_many_names : goal.returns-then-has_many_names
returns-then-has_many_names c p below =
    let item = a_proc (proc_view c.args.proc.now) in
    let value : c.if-place-ge-MOST_ITEMS.value ≡ (leb most_items c.args.place || has_many_names item) = elim c.if-place-ge-MOST_ITEMS.branch [
      | then-place-ge-MOST_ITEMS w ↦ grind (arith, nat_tests)
      | else-place-ge-MOST_ITEMS w ↦ grind (arith, nat_tests)
    ] in
    c.if-has_many_names.true ∙ ap (λ b. b || has_wide_literal p item) (sym c.if-has_many_names.true ∙ value) ∙ proc_past_limit p c.args.place (proc_view c.args.proc.now) below

pub returns-else-has_many_names : goal.returns-else-has_many_names
returns-else-has_many_names c p below =
    let item = a_proc (proc_view c.args.proc.now) in
    let value : c.if-place-ge-MOST_ITEMS.value ≡ (leb most_items c.args.place || has_many_names item) = elim c.if-place-ge-MOST_ITEMS.branch [
      | then-place-ge-MOST_ITEMS w ↦ grind (arith, nat_tests)
      | else-place-ge-MOST_ITEMS w ↦ grind (arith, nat_tests)
    ] in
    c.proc_has_wide_literal.ensures p ∙ ap (λ b. b || has_wide_literal p item) (sym c.if-has_many_names.false ∙ value) ∙ proc_past_limit p c.args.place (proc_view c.args.proc.now) below
