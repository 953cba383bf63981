use Rattle.std.proofs.Common.{true, false, ◌&&◌, ap}
use Rattle.std.specs.List.{list_all}
use Rattle.gil_syntax.specs.View.{proc_view, spec_view, pred_def_view, parts_view}
use Rattle.gil_syntax.specs.WellMade.{is_well_made_proc, is_well_made_spec, is_well_made_pred}
use Rattle.gil_syntax.proofs.WellMadeLemmas.{made_seen}
use Rattle.gil_syntax.proofs.well_made.is_well_made.Goals as goal

pub returns-then-not-are_well_made_procs : goal.returns-then-not-are_well_made_procs
returns-then-not-are_well_made_procs c =
    let p = parts_view c.args.parts.now in
    let procs = made_seen is_well_made_proc proc_view c.as_slice.result.now c.args.parts.now.procs false c.as_slice.ensures c.if-not-are_well_made_procs.ensures in
    ap (λ b. b && list_all is_well_made_spec p.specs && list_all is_well_made_pred p.preds) procs

pub returns-then-not-are_well_made_specs : goal.returns-then-not-are_well_made_specs
returns-then-not-are_well_made_specs c =
    let p = parts_view c.args.parts.now in
    let procs = made_seen is_well_made_proc proc_view c.as_slice.result.now c.args.parts.now.procs true c.as_slice.ensures c.if-not-are_well_made_procs.ensures in
    let specs = made_seen is_well_made_spec spec_view c.as_slice-2.result.now c.args.parts.now.specs false c.as_slice-2.ensures c.if-not-are_well_made_specs.ensures in
    λ j. procs j && specs j && list_all is_well_made_pred p.preds

pub returns : goal.returns
returns c =
    let p = parts_view c.args.parts.now in
    let procs = made_seen is_well_made_proc proc_view c.as_slice.result.now c.args.parts.now.procs true c.as_slice.ensures c.if-not-are_well_made_procs.ensures in
    let specs = made_seen is_well_made_spec spec_view c.as_slice-2.result.now c.args.parts.now.specs true c.as_slice-2.ensures c.if-not-are_well_made_specs.ensures in
    let preds = made_seen is_well_made_pred pred_def_view c.as_slice-3.result.now c.args.parts.now.preds c.are_well_made_preds.result c.as_slice-3.ensures c.are_well_made_preds.ensures in
    λ j. procs j && specs j && preds j
