use Rattle.std.proofs.Common.{◌≡◌, ◌+◌, [], ◌∷◌, ◌++◌, take, not, sym, ap, ◌∙◌}
use Rattle.std.proofs.lemmas.List.{map_push}
use Rattle.gil_syntax.proofs.NameLemmas.{map-take_read}
use Rattle.pure_terms.specs.Naming.{names_only_below}
use Rattle.pure_terms.specs.Pure.{PureAtom}
use Rattle.pure_terms.specs.View.{atom_view, atoms_view}
use Rattle.bi_specifications.specs.Shape.{is_early, late_conds}
use Rattle.bi_specifications.proofs.Once.{one_more, one_again, one_dropped}
use Rattle.bi_specifications.proofs.conditions.late_conditions.Goals.{then-not-names_only_below+then-not-stands_among+in_ok-copy+in_ok-push, else-not-names_only_below, else-not-names_only_below-via-then-not-names_only_below+else-not-stands_among, else-not-names_only_below-via-else-not-names_only_below}
use Rattle.bi_specifications.proofs.conditions.late_conditions.Goals as goal

pub loop-condition-preserved : goal.loop-condition-preserved
loop-condition-preserved c =
    let items = c.as_slice-condition-items.result.now in
    let i = c.loop-condition.condition-index in
    let before = atoms_view (take i items) in
    let one = atom_view c.condition-item.result in
    let kept = atoms_view c.loop-condition.late in
    let passes = λ (a : PureAtom). not (is_early c.args.count a) in
    let read = ap (names_only_below c.args.count) (sym c.term.ensures) ∙ sym c.names_only_below.ensures in
    let there =
    ap (late_conds c.args.count) (sym (map-take_read atom_view items i c.condition-item.result c.loop-condition-test.true c.condition-item.is)) in
    elim c.if-not-names_only_below.branch [
      | then-not-names_only_below+then-not-stands_among+in_ok-copy+in_ok-push w ↦
          ap atoms_view (w.late-is ∙ w.in_ok-push.ensures.ok) ∙ map_push atom_view c.loop-condition.late w.in_ok-copy.field-0
          ∙ ap (λ (a : PureAtom). kept ++ a ∷ []) w.in_ok-copy.ensures
          ∙ one_more passes before one kept c.loop-condition.invariant (ap not (read ∙ w.if-not-names_only_below.true))
          (sym w.stands_among.ensures ∙ w.if-not-stands_among.true) ∙ there
      | else-not-names_only_below w ↦
          let stays : kept ≡ late_conds c.args.count (atoms_view (take (i + 1) items)) = elim w.else-not-names_only_below.branch [
            | else-not-names_only_below-via-then-not-names_only_below+else-not-stands_among u ↦
                one_again passes before one kept c.loop-condition.invariant (ap not (read ∙ u.if-not-names_only_below.true))
                (sym u.stands_among.ensures ∙ u.if-not-stands_among.false) ∙ there
            | else-not-names_only_below-via-else-not-names_only_below u ↦
                one_dropped passes before one kept c.loop-condition.invariant (ap not (read ∙ u.if-not-names_only_below.false)) ∙ there
          ] in
          ap atoms_view w.late-is ∙ stays
    ]
