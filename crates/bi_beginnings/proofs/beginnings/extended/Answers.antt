use Rattle.std.proofs.Common.{◌+◌, [], ◌∷◌, ◌++◌, length, take, get_or, ap, ◌∙◌}
use Rattle.std.proofs.lemmas.List.{take_more, length-append}
use Rattle.pure_terms.specs.declared.variables.Sort.{Sort}
use Rattle.pure_terms.specs.View.{terms_view}
use Rattle.bi_beginnings.proofs.Tables.{variable_seen, table_more, variables_more}
use Rattle.bi_beginnings.proofs.beginnings.extended.Goals as goal

pub loop-sort-preserved : goal.loop-sort-preserved
loop-sort-preserved c =
    let old = c.args.vars.now in
    let xs = c.as_slice-sort-items.result.now in
    let i = c.loop-sort.sort-index in
    let sort = get_or xs i Sort.Int in
    let counted = c.len-number.ensures ∙ ap length c.loop-sort.invariant.0 ∙ length-append old (take i xs) in
    let pushed = c.in_ok-push-2.ensures.ok ∙ ap (λ t. terms_view c.loop-sort.added ++ t ∷ []) (variable_seen (record { number = c.len-number.result; sort = sort })) in (
      table_more old c.loop-sort.vars c.push.new.self (take i xs) (take (i + 1) xs) sort c.loop-sort.invariant.0 c.in_ok-push.ensures.ok (take_more xs i Sort.Int c.loop-sort-test.true),
      variables_more (length old) c.len-number.result (terms_view c.loop-sort.added) (terms_view c.push-in-loop-sort.new.self) (take i xs) (take (i + 1) xs) sort c.loop-sort.invariant.1 pushed counted (take_more xs i Sort.Int c.loop-sort-test.true),
    )
