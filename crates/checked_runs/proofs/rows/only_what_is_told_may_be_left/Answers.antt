use Rattle.std.proofs.Common.{◌≡◌, ◌+◌, ℕ, true, false, cond, is_some, sym, ap, ◌∙◌}
use Rattle.std.specs.Prelude.{◌&&◌, ◌||◌, nat_eq}
use Rattle.std.specs.FinMap.{empty, len, get-empty, len-empty, len-insert}
use Rattle.gil_values.specs.Pure.{PureValue, boolean}
use Rattle.mem_model.specs.declared.keys.Sub.TheVariants.{Gone}
use Rattle.mem_model.specs.Keys.{key, key_cmp}
use Rattle.mem_model.specs.KeyOrder.{key_cmp-total}
use Rattle.checked_runs.specs.Checked.{Outcome, over_or, post}
use Rattle.checked_runs.specs.Rows.{gone_heap}
use Rattle.checked_runs.proofs.rows.only_what_is_told_may_be_left.Goals as goal

-- what a return leads to where so many keys are left
abbrev with_keys : ℕ → Outcome
with_keys n = over_or ((nat_eq n 0 && true) || false) post

one_key : len gone_heap ≡ 1
one_key =
    len-insert key_cmp-total empty (key 3 Gone) (boolean true)
    ∙ ap (λ o. cond (is_some o) (len (empty {X = PureValue} {R = key_cmp})) (len (empty {X = PureValue} {R = key_cmp}) + 1)) (get-empty key_cmp (key 3 Gone))
    ∙ ap (λ n. n + 1) (len-empty key_cmp PureValue)

pub returns-clause-returns : goal.returns-clause-returns
returns-clause-returns c = ap with_keys (sym (len-empty key_cmp PureValue))

pub returns-clause-key_left : goal.returns-clause-key_left
returns-clause-key_left c = sym (ap with_keys one_key)

pub returns-clause-throws : goal.returns-clause-throws
returns-clause-throws c = ap with_keys (sym (len-empty key_cmp PureValue))
