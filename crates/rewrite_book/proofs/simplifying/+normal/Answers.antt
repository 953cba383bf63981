use Rattle.std.proofs.Common.{◌≡◌, ◌<◌, ◌≤◌, IsNone, IfOk, IfSome, length, map, take, refl, sym, subst, ◌∙◌, arith}
use Rattle.std.specs.List.{All, AllZip}
use Rattle.std.proofs.lemmas.List.Elements.{all_zip_more}
use Rattle.pure_terms.specs.Pure.{from_list, size, sizes, to_list}
use Rattle.pure_terms.specs.View.{term_view}
use Rattle.rewrite_book.specs.Answers.{Simplifies}
use Rattle.rewrite_book.specs.Normals.{AreForms, IsForm, IsFormBelow}
use Rattle.rewrite_book.proofs.NormalForms.{forms-kept, keeps-then, zip-kept, forms-noted, root_smaller, root_done, composed, answer_smaller, answered_form, normal_already, part_smaller, part_below, whole_smaller, parts_kept, rebuilt_form, forms_below, still_below, names-only, as_many, if_ok}
use Rattle.rewrite_book.proofs.simplifying.+normal.Goals as goal
use Rattle.term_table.proofs.CallerLemmas.{named_below, all_below}
use Rattle.term_table.specs.Tables.{Names, NamesBelow, parts_of, term_at, terms_of, with_parts}

pub normal-with_normal_parts-requires : goal.normal-with_normal_parts-requires
normal-with_normal_parts-requires g t c κs within = (omega (arith, c.decreases), (within, (c.requires.known, c.requires.named)))

pub normal-normal_at_root-requires : goal.normal-normal_at_root-requires
normal-normal_at_root-requires g t c κs within =
    let P = g.B.Asked.has_none c.args.book.now in
    let table = c.with_normal_parts.new.normals.table in
    let less : size (term_at (terms_of table) c.in_ok-whole.whole) ≤ size (term_at (terms_of c.args.normals.now.table) c.args.id)
    = root_smaller P c.args.normals.now.table table c.args.id c.in_ok-whole.whole c.in_ok-whole.ensures.kept c.requires.named c.in_ok-whole.ensures.form in (
      omega (arith, less, c.decreases),
      (
        within,
        (
          c.in_ok-whole.ensures.known,
          (
            named_below table c.in_ok-whole.whole c.in_ok-whole.ensures.form.form c.in_ok-whole.ensures.form.formed,
            root_done P (terms_of table) c.args.id c.in_ok-whole.whole c.in_ok-whole.ensures.form,
          ),
        ),
      ),
    )

pub normal-returns-in_err-note-clause-known : goal.normal-returns-in_err-note-clause-known
normal-returns-in_err-note-clause-known g t c =
    let P = g.B.Asked.has_none c.args.book.now in
    let table = c.normal_at_root.new.normals.table in
    let form = composed P (terms_of c.with_normal_parts.new.normals.table) (terms_of table) c.args.id c.in_ok-whole.whole c.in_ok-form.form c.in_ok-form.ensures.kept c.in_ok-whole.ensures.form c.in_ok-form.ensures.form in
    subst (λ tb. AreForms P (terms_of tb) c.note.new.self.forms.items) (sym c.note.ensures.table)
    (forms-noted P (terms_of table) c.normal_at_root.new.normals.forms.items c.note.new.self.forms.items c.args.id c.in_ok-form.form c.note.ensures.known c.in_ok-form.ensures.known form)

pub normal-returns-clause-known : goal.normal-returns-clause-known
normal-returns-clause-known g t c =
    let P = g.B.Asked.has_none c.args.book.now in
    let table = c.normal_at_root.new.normals.table in
    let form = composed P (terms_of c.with_normal_parts.new.normals.table) (terms_of table) c.args.id c.in_ok-whole.whole c.in_ok-form.form c.in_ok-form.ensures.kept c.in_ok-whole.ensures.form c.in_ok-form.ensures.form in
    subst (λ tb. AreForms P (terms_of tb) c.note.new.self.forms.items) (sym c.note.ensures.table)
    (forms-noted P (terms_of table) c.normal_at_root.new.normals.forms.items c.note.new.self.forms.items c.args.id c.in_ok-form.form c.note.ensures.known c.in_ok-form.ensures.known form)

pub normal-returns-clause-form : goal.normal-returns-clause-form
normal-returns-clause-form g t c =
    let P = g.B.Asked.has_none c.args.book.now in
    let table = c.normal_at_root.new.normals.table in
    subst (λ tb. IsForm P (terms_of tb) c.args.id c.in_ok-form.form) (sym c.note.ensures.table)
    (composed P (terms_of c.with_normal_parts.new.normals.table) (terms_of table) c.args.id c.in_ok-whole.whole c.in_ok-form.form c.in_ok-form.ensures.kept c.in_ok-whole.ensures.form c.in_ok-form.ensures.form)

pub normal_at_root-returns-in_err-id-in-Some-clause-known : goal.normal_at_root-returns-in_err-id-in-Some-clause-known
normal_at_root-returns-in_err-id-in-Some-clause-known g t c =
    forms-kept (g.B.Asked.has_none c.args.book.now) (terms_of c.args.normals.now.table) (terms_of c.put.new.self) c.args.normals.now.forms.items c.put.ensures.kept c.requires.known

pub normal_at_root-normal-requires : goal.normal_at_root-normal-requires
normal_at_root-normal-requires g t c κs within =
    let here = term_view c.get.result.now in
    let simpler : Simplifies here (term_view c.in-Some.smaller) = subst (λ o. IfSome o (λ u. Simplifies here (term_view u))) c.in-Some.is c.in_ok-smaller.ensures.well in
    let less : size (term_at (terms_of c.put.new.self) c.in_ok-id-in-Some.id) < size (term_at (terms_of c.args.normals.now.table) c.args.whole)
    = answer_smaller (terms_of c.args.normals.now.table) (terms_of c.put.new.self) c.args.whole c.in_ok-id-in-Some.id here (term_view c.in-Some.smaller) c.get.ensures c.in_ok-id-in-Some.ensures.named simpler in (
      omega (arith, less, c.decreases),
      (
        within,
        (
          forms-kept (g.B.Asked.has_none c.args.book.now) (terms_of c.args.normals.now.table) (terms_of c.put.new.self) c.args.normals.now.forms.items c.put.ensures.kept c.requires.known,
          named_below c.put.new.self c.in_ok-id-in-Some.id (term_view c.in-Some.smaller) c.in_ok-id-in-Some.ensures.named,
        ),
      ),
    )

pub normal_at_root-returns-in_ok-id-in-Some-clause-form : goal.normal_at_root-returns-in_ok-id-in-Some-clause-form
normal_at_root-returns-in_ok-id-in-Some-clause-form g t c =
    let P = g.B.Asked.has_none c.args.book.now in
    let here = term_view c.get.result.now in
    let last = terms_of c.normal.new.normals.table in
    let simpler : Simplifies here (term_view c.in-Some.smaller) = subst (λ o. IfSome o (λ u. Simplifies here (term_view u))) c.in-Some.is c.in_ok-smaller.ensures.well in
    if_ok c.normal.result (IsForm P last c.in_ok-id-in-Some.id) (IsForm P last c.args.whole)
    (λ form h. answered_form P (terms_of c.args.normals.now.table) (terms_of c.put.new.self) last c.args.whole c.in_ok-id-in-Some.id form here (term_view c.in-Some.smaller) c.get.ensures c.put.ensures.kept c.normal.ensures.kept c.in_ok-id-in-Some.ensures.named simpler h)
    c.normal.ensures.form

pub normal_at_root-returns-in-None-clause-form : goal.normal_at_root-returns-in-None-clause-form
normal_at_root-returns-in-None-clause-form g t c =
    normal_already (g.B.Asked.has_none c.args.book.now) (terms_of c.args.normals.now.table) c.args.whole (term_view c.get.result.now) c.get.ensures
    (c.in_ok-smaller.ensures.none (subst IsNone (sym c.in-None.is) refl)) c.requires.done

pub normal_parts-normal-requires : goal.normal_parts-normal-requires
normal_parts-normal-requires g t c κs within =
    let old = c.args.normals.now.table in
    let table = c.loop-part.normals.table in
    let below : c.loop-part.part-index < length c.args.parts.now = omega (arith, c.loop-part-test.true) in
    let less : size (term_at (terms_of table) c.part-item.result) ≤ sizes (from_list (map (term_at (terms_of old)) c.args.parts.now))
    = part_smaller old table c.args.parts.now c.loop-part.part-index c.part-item.result c.loop-part.invariant.kept c.requires.named below c.part-item.is in (
      omega (arith, less, c.decreases),
      (
        within,
        (
          c.loop-part.invariant.known,
          part_below old table c.args.parts.now c.loop-part.part-index c.part-item.result c.loop-part.invariant.kept c.requires.named below c.part-item.is,
        ),
      ),
    )

pub normal_parts-loop-part-preserved : goal.normal_parts-loop-part-preserved
normal_parts-loop-part-preserved g t c =
    let P = g.B.Asked.has_none c.args.book.now in
    let before = terms_of c.loop-part.normals.table in
    let after = terms_of c.normal.new.normals.table in
    let below : c.loop-part.part-index < length c.args.parts.now = omega (arith, c.loop-part-test.true) in
    record {
      known = c.in_ok-form.ensures.known;
      kept = keeps-then (terms_of c.args.normals.now.table) before after c.loop-part.invariant.kept c.in_ok-form.ensures.kept;
      forms = rw c.in_ok-push.ensures.items
          (all_zip_more (IsForm P after) c.args.parts.now c.loop-part.forms.items c.loop-part.part-index c.part-item.result c.in_ok-form.form below c.part-item.is
          (zip-kept P before after (take c.loop-part.part-index c.args.parts.now) c.loop-part.forms.items c.in_ok-form.ensures.kept c.loop-part.invariant.forms) c.in_ok-form.ensures.form);
    }

pub with_normal_parts-normal_parts-requires : goal.with_normal_parts-normal_parts-requires
with_normal_parts-normal_parts-requires g t c κs within =
    let old = c.args.normals.now.table in
    let parts : AllZip (NamesBelow (terms_of old) c.args.id) c.as_slice.result.now (to_list (parts_of (term_at (terms_of old) c.args.id)))
    = subst (λ ps. AllZip (NamesBelow (terms_of old) c.args.id) ps (to_list (parts_of (term_at (terms_of old) c.args.id)))) (sym (c.as_slice.ensures.value ∙ c.in_ok-parts.ensures)) c.parts.ensures in
    let less : sizes (from_list (map (term_at (terms_of old)) c.as_slice.result.now)) < size (term_at (terms_of old) c.args.id)
    = whole_smaller (terms_of old) c.args.id c.args.id c.as_slice.result.now parts in (
      omega (arith, less, c.decreases),
      (
        within,
        (
          c.requires.known,
          all_below old c.as_slice.result.now (to_list (parts_of (term_at (terms_of old) c.args.id))) (names-only (terms_of old) c.args.id c.as_slice.result.now (to_list (parts_of (term_at (terms_of old) c.args.id))) parts),
        ),
      ),
    )

pub with_normal_parts-rebuilt-requires-clause-named : goal.with_normal_parts-rebuilt-requires-clause-named
with_normal_parts-rebuilt-requires-clause-named g t c =
    still_below c.args.normals.now.table c.normal_parts.new.normals.table c.args.id c.in_ok-forms.ensures.kept c.requires.named

pub with_normal_parts-rebuilt-requires-clause-parts_named : goal.with_normal_parts-rebuilt-requires-clause-parts_named
with_normal_parts-rebuilt-requires-clause-parts_named g t c =
    let table = c.normal_parts.new.normals.table in
    subst (λ ms. All (λ m. m < length table) ms) (sym c.as_slice-2.ensures.value)
    (forms_below (g.B.Asked.has_none c.args.book.now) table c.as_slice.result.now c.in_ok-forms.forms.items c.in_ok-forms.ensures.forms)

pub with_normal_parts-rebuilt-requires-clause-one_each : goal.with_normal_parts-rebuilt-requires-clause-one_each
with_normal_parts-rebuilt-requires-clause-one_each g t c =
    let old = c.args.normals.now.table in
    let table = c.normal_parts.new.normals.table in
    let parts : AllZip (NamesBelow (terms_of old) c.args.id) c.as_slice.result.now (to_list (parts_of (term_at (terms_of old) c.args.id)))
    = subst (λ ps. AllZip (NamesBelow (terms_of old) c.args.id) ps (to_list (parts_of (term_at (terms_of old) c.args.id)))) (sym (c.as_slice.ensures.value ∙ c.in_ok-parts.ensures)) c.parts.ensures in
    subst (λ ms. length ms ≡ length (to_list (parts_of (term_at (terms_of table) c.args.id)))) (sym c.as_slice-2.ensures.value)
    (as_many (g.B.Asked.has_none c.args.book.now) (terms_of table) c.as_slice.result.now c.in_ok-forms.forms.items (to_list (parts_of (term_at (terms_of table) c.args.id))) c.in_ok-forms.ensures.forms
    (parts_kept old table c.args.id c.args.id c.as_slice.result.now c.in_ok-forms.ensures.kept c.requires.named parts))

pub with_normal_parts-returns-clause-known : goal.with_normal_parts-returns-clause-known
with_normal_parts-returns-clause-known g t c =
    forms-kept (g.B.Asked.has_none c.args.book.now) (terms_of c.normal_parts.new.normals.table) (terms_of c.rebuilt.new.self) c.normal_parts.new.normals.forms.items c.rebuilt.ensures.kept c.in_ok-forms.ensures.known

pub with_normal_parts-returns-clause-form : goal.with_normal_parts-returns-clause-form
with_normal_parts-returns-clause-form g t c =
    let P = g.B.Asked.has_none c.args.book.now in
    let old = c.args.normals.now.table in
    let table = c.normal_parts.new.normals.table in
    let last = terms_of c.rebuilt.new.self in
    let parts : AllZip (NamesBelow (terms_of old) c.args.id) c.as_slice.result.now (to_list (parts_of (term_at (terms_of old) c.args.id)))
    = subst (λ ps. AllZip (NamesBelow (terms_of old) c.args.id) ps (to_list (parts_of (term_at (terms_of old) c.args.id)))) (sym (c.as_slice.ensures.value ∙ c.in_ok-parts.ensures)) c.parts.ensures in
    let named = subst (λ ms. IfOk c.rebuilt.result (λ new. Names last new (with_parts (term_at (terms_of table) c.args.id) (map (term_at (terms_of table)) ms)))) c.as_slice-2.ensures.value c.rebuilt.ensures.named in
    if_ok c.rebuilt.result (λ new. Names last new (with_parts (term_at (terms_of table) c.args.id) (map (term_at (terms_of table)) c.in_ok-forms.forms.items))) (IsFormBelow P last c.args.id)
    (λ new h. rebuilt_form P table last c.args.id new c.as_slice.result.now c.in_ok-forms.forms.items (still_below old table c.args.id c.in_ok-forms.ensures.kept c.requires.named) c.rebuilt.ensures.kept
    c.in_ok-forms.ensures.forms (parts_kept old table c.args.id c.args.id c.as_slice.result.now c.in_ok-forms.ensures.kept c.requires.named parts) h)
    named
