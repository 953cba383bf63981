use Rattle.std.proofs.Common.{◌≡◌, ◌+◌, [], ◌∷◌, ◌++◌, take, sym, ap, ◌∙◌}
use Rattle.std.proofs.lemmas.List.{map_push}
use Rattle.gil_syntax.proofs.NameLemmas.{map-take_read}
use Rattle.pure_terms.specs.Naming.{names_only_below}
use Rattle.pure_terms.specs.Pure.{PureAtom}
use Rattle.pure_terms.specs.View.{atom_view, atoms_view}
use Rattle.bi_specifications.specs.Shape.{is_early, early_conds}
use Rattle.bi_specifications.proofs.Once.{one_more, one_again, one_dropped}
use Rattle.bi_specifications.proofs.conditions.early_conditions.Goals.{then-names_only_below+then-not-stands_among+in_ok-copy+in_ok-push, else-names_only_below, else-names_only_below-via-then-names_only_below+else-not-stands_among, else-names_only_below-via-else-names_only_below}
use Rattle.bi_specifications.proofs.conditions.early_conditions.Goals as goal

pub loop-condition-preserved : goal.loop-condition-preserved
loop-condition-preserved c =
    let items = c.as_slice-condition-items.result.now in
    let i = c.loop-condition.condition-index in
    let before = atoms_view (take i items) in
    let one = atom_view c.condition-item.result in
    let kept = atoms_view c.loop-condition.early in
    let passes = λ (a : PureAtom). is_early c.args.count a in
    let read = ap (names_only_below c.args.count) (sym c.term.ensures) ∙ sym c.names_only_below.ensures in
    let there =
    ap (early_conds c.args.count) (sym (map-take_read atom_view items i c.condition-item.result c.loop-condition-test.true c.condition-item.is)) in
    elim c.if-names_only_below.branch [
      | then-names_only_below+then-not-stands_among+in_ok-copy+in_ok-push w ↦
          ap atoms_view (w.early-is ∙ w.in_ok-push.ensures.ok) ∙ map_push atom_view c.loop-condition.early w.in_ok-copy.field-0
          ∙ ap (λ (a : PureAtom). kept ++ a ∷ []) w.in_ok-copy.ensures
          ∙ one_more passes before one kept c.loop-condition.invariant (read ∙ w.if-names_only_below.true)
          (sym w.stands_among.ensures ∙ w.if-not-stands_among.true) ∙ there
      | else-names_only_below w ↦
          let stays : kept ≡ early_conds c.args.count (atoms_view (take (i + 1) items)) = elim w.else-names_only_below.branch [
            | else-names_only_below-via-then-names_only_below+else-not-stands_among u ↦
                one_again passes before one kept c.loop-condition.invariant (read ∙ u.if-names_only_below.true)
                (sym u.stands_among.ensures ∙ u.if-not-stands_among.false) ∙ there
            | else-names_only_below-via-else-names_only_below u ↦
                one_dropped passes before one kept c.loop-condition.invariant (read ∙ u.if-names_only_below.false) ∙ there
          ] in
          ap atoms_view w.early-is ∙ stays
    ]
