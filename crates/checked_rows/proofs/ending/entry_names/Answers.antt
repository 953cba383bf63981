use Rattle.std.proofs.Common.{◌≡◌, ◌++◌, ℕ, List, subst}
use Rattle.gil_syntax.specs.View.{proc_view}
use Rattle.pure_terms.specs.View.{terms_view}
use Rattle.sym_evaluation.specs.Pure.{term_at}
use Rattle.sym_evaluation.specs.View.{store_view}
use Rattle.sym_paths.specs.Frames.{IsFirstStore}
use Rattle.sym_paths.specs.Pure.{PureFrame}
use Rattle.checked_rows.proofs.EndLaws.{entry_named}
use Rattle.checked_rows.proofs.ending.entry_names.Goals as goal

pub returns : goal.returns
returns c =
    let params = (proc_view c.args.proc.now).params in
    let args = terms_view c.args.entered.now.args in
    let variables = store_view c.args.entered.now.variables in
    let names = store_view c.set_all.new.names in
    let (bs, (first, is)) = c.in_ok-frame.ensures in
    let of_args : IsFirstStore params args bs = subst (λ ts. IsFirstStore params ts bs) c.as_slice.ensures first in
    let named : (x : List ℕ) → term_at names x ≡ term_at (bs ++ variables) x =
    λ x. subst (λ vs. term_at names x ≡ term_at (bs ++ vs) x) c.in_ok-names.ensures
    (subst (λ (f : PureFrame). term_at names x ≡ term_at (f.store ++ store_view c.in_ok-names.names) x) is (c.in_ok-set_all.ensures x)) in
    entry_named params args variables bs names of_args named
