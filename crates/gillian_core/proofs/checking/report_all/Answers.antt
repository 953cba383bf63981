use Rattle.std.proofs.Common.{◌<◌, map, length, slice_get, sym, ap, ◌∙◌, arith}
use Rattle.std.proofs.lemmas.List.{map_push}
use Rattle.gil_report.specs.View.{answer_view}
use Rattle.gil_syntax.specs.View.{spec_view}
use Rattle.spec_checker.proofs.Found.{spec_read}
use Rattle.gillian_core.proofs.Checked.{read_at, reports_more}
use Rattle.gillian_core.proofs.checking.report_all.Goals as goal

pub report-requires : goal.report-requires
report-requires c =
    let ss = map spec_view c.args.specs.now in
    let place = c.loop-place.place in
    let specs = c.as_slice-specs.result.now in
    let items = c.as_slice-items.result.now in
    let below = c.loop-place-test.true in
    let as_many = c.requires.as_many in
    let all_specs = ap length c.as_slice-specs.ensures in
    let all_items = ap length c.as_slice-items.ensures in
    let inside : place < length items = omega (arith, below, as_many, all_specs, all_items) in
    let spec_there = spec_read specs ss place c.index-specs-place.result (ap (map spec_view) c.as_slice-specs.ensures) below c.index-specs-place.is in
    let item_there = sym (ap (λ xs. slice_get xs place) c.as_slice-items.ensures) ∙ read_at items place c.index-items-place.result inside c.index-items-place.is in
    c.requires.told place (spec_view c.index-specs-place.result) c.index-items-place.result spec_there item_there

pub loop-place-preserved : goal.loop-place-preserved
loop-place-preserved c =
    let ss = map spec_view c.args.specs.now in
    let place = c.loop-place.place in
    let specs = c.as_slice-specs.result.now in
    let items = c.as_slice-items.result.now in
    let below = c.loop-place-test.true in
    let as_many = c.requires.as_many in
    let all_specs = ap length c.as_slice-specs.ensures in
    let all_items = ap length c.as_slice-items.ensures in
    let inside : place < length items = omega (arith, below, as_many, all_specs, all_items) in
    let spec_there = spec_read specs ss place c.index-specs-place.result (ap (map spec_view) c.as_slice-specs.ensures) below c.index-specs-place.is in
    let item_there = sym (ap (λ xs. slice_get xs place) c.as_slice-items.ensures) ∙ read_at items place c.index-items-place.result inside c.index-items-place.is in
    reports_more ss c.args.answers.now place (map answer_view c.loop-place.reported) (map answer_view c.push.new.self) (answer_view c.in_ok-answer.answer)
    (spec_view c.index-specs-place.result) c.index-items-place.result c.loop-place.invariant spec_there item_there c.in_ok-answer.ensures
    (ap (map answer_view) c.in_ok-push.ensures.ok ∙ map_push answer_view c.loop-place.reported c.in_ok-answer.answer)
