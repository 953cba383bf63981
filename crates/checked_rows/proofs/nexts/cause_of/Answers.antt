use Rattle.std.proofs.Common.{◌≡◌, Some, ap, sym, subst}
use Rattle.gil_values.specs.View.{values_view}
use Rattle.pure_terms.specs.View.{atoms_view}
use Rattle.sym_paths.specs.View.{path_view}
use Rattle.checked_paths.specs.Causes.{PureCause, fault, undecided, shown_of, shown_view}
use Rattle.checked_rows.specs.Doubts.{doubt_cause}
use Rattle.checked_rows.specs.View.{doubt_view}
use Rattle.checked_rows.proofs.nexts.cause_of.Goals as goal

pub returns-in-Always : goal.returns-in-Always
returns-in-Always g c =
    let k : PureCause = fault c.args.kind (shown_view c.in_ok-shown.shown) in
    subst (λ d. k ≡ doubt_cause c.args.kind (shown_of c.args.here.now (path_view c.args.path.now)) (doubt_view d)) (sym c.in-Always.is)
    (ap (λ s. fault c.args.kind s) c.in_ok-shown.ensures)

pub returns-in-Under : goal.returns-in-Under
returns-in-Under g c =
    let conds = atoms_view c.in-Under.conds in
    let v = Some (values_view c.in-Under.valuation) in
    let k : PureCause = fault c.args.kind (record (shown_view c.in_ok-shown.shown) { conds = conds; valuation = v }) in
    subst (λ d. k ≡ doubt_cause c.args.kind (shown_of c.args.here.now (path_view c.args.path.now)) (doubt_view d)) (sym c.in-Under.is)
    (ap (λ s. fault c.args.kind (record s { conds = conds; valuation = v })) c.in_ok-shown.ensures)

pub returns-in-Undecided : goal.returns-in-Undecided
returns-in-Undecided g c =
    let conds = atoms_view c.in-Undecided.conds in
    let k : PureCause = undecided c.in-Undecided.reason (record (shown_view c.in_ok-shown.shown) { conds = conds }) in
    subst (λ d. k ≡ doubt_cause c.args.kind (shown_of c.args.here.now (path_view c.args.path.now)) (doubt_view d)) (sym c.in-Undecided.is)
    (ap (λ s. undecided c.in-Undecided.reason (record s { conds = conds })) c.in_ok-shown.ensures)
