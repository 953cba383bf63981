use Rattle.std.proofs.Common.{◌≡◌, ◌-◌, ◌≤◌, length, slice_get, Some, sym, ap, ◌∙◌, arith}
use Rattle.std.specs.Option.{option_map}
use Rattle.std.proofs.lemmas.List.{length-map}
use Rattle.std.proofs.lemmas.Option.{slice_get_within, slice_get-map}
use Rattle.gil_syntax.specs.View.{proc_view, spec_view, pred_def_view, parts_view}
use Rattle.gil_syntax.proofs.ItemLemmas.{slice_get_none, proc_stands, spec_stands, pred_stands, no_item}
use Rattle.gil_syntax.proofs.items.item_at.Goals as goal

pub returns-in-Some-clause-there : goal.returns-in-Some-clause-there
returns-in-Some-clause-there c =
    let p = parts_view c.args.parts.now in
    let there : slice_get p.procs c.args.item ≡ Some (proc_view c.in-Some.proc.now) = slice_get-map proc_view c.args.parts.now.procs c.args.item ∙ ap (option_map proc_view) (sym c.in-Some.ensures) in
    let stands = proc_stands p c.args.item _ there in
    record { item = stands.0; before = stands.1; within = slice_get_within p.procs c.args.item _ there }

pub overflow_sub-place : goal.overflow_sub-place
overflow_sub-place c =
    let past : length c.args.parts.now.procs ≤ c.args.item = slice_get_none c.args.parts.now.procs c.args.item (sym c.in_default.ensures) in
    omega (arith, past)

pub returns-in-Some-get-clause-there : goal.returns-in-Some-get-clause-there
returns-in-Some-get-clause-there c =
    let p = parts_view c.args.parts.now in
    let place = c.args.item - c.len-procs.result in
    let past : length c.args.parts.now.procs ≤ c.args.item = slice_get_none c.args.parts.now.procs c.args.item (sym c.in_default.ensures) in
    let there : slice_get p.specs place ≡ Some (spec_view c.in-Some-get.spec.now) = slice_get-map spec_view c.args.parts.now.specs place ∙ ap (option_map spec_view) (sym c.in-Some-get.ensures) in
    let stands = spec_stands p c.args.item _ place there (omega (arith, past, length-map c.args.parts.now.procs proc_view)) in
    record { item = stands.0; before = stands.1; within = slice_get_within p.specs place _ there }

pub overflow_sub-place-2 : goal.overflow_sub-place-2
overflow_sub-place-2 c =
    let past : length c.args.parts.now.specs ≤ c.args.item - c.len-procs.result = slice_get_none c.args.parts.now.specs (c.args.item - c.len-procs.result) (sym c.in_default-get.ensures) in
    omega (arith, past)

pub returns-in-Some-get-2-clause-there : goal.returns-in-Some-get-2-clause-there
returns-in-Some-get-2-clause-there c =
    let p = parts_view c.args.parts.now in
    let place = c.args.item - c.len-procs.result - c.len.result in
    let past : length c.args.parts.now.procs ≤ c.args.item = slice_get_none c.args.parts.now.procs c.args.item (sym c.in_default.ensures) in
    let past_too : length c.args.parts.now.specs ≤ c.args.item - c.len-procs.result = slice_get_none c.args.parts.now.specs (c.args.item - c.len-procs.result) (sym c.in_default-get.ensures) in
    let there : slice_get p.preds place ≡ Some (pred_def_view c.in-Some-get-2.pred.now) = slice_get-map pred_def_view c.args.parts.now.preds place ∙ ap (option_map pred_def_view) (sym c.in-Some-get-2.ensures) in
    let stands = pred_stands p c.args.item _ place there (omega (arith, past, past_too, length-map c.args.parts.now.procs proc_view, length-map c.args.parts.now.specs spec_view)) in
    record { item = stands.0; before = stands.1; within = slice_get_within p.preds place _ there }

pub returns-in-None-clause-past : goal.returns-in-None-clause-past
returns-in-None-clause-past c =
    let p = parts_view c.args.parts.now in
    let place = c.args.item - c.len-procs.result - c.len.result in
    let past : length c.args.parts.now.procs ≤ c.args.item = slice_get_none c.args.parts.now.procs c.args.item (sym c.in_default.ensures) in
    let past_too : length c.args.parts.now.specs ≤ c.args.item - c.len-procs.result = slice_get_none c.args.parts.now.specs (c.args.item - c.len-procs.result) (sym c.in_default-get.ensures) in
    let past_all : length c.args.parts.now.preds ≤ place = slice_get_none c.args.parts.now.preds place (sym c.in-None.ensures) in
    no_item p c.args.item (omega (arith, past, past_too, past_all, length-map c.args.parts.now.procs proc_view, length-map c.args.parts.now.specs spec_view, length-map c.args.parts.now.preds pred_def_view))
