use Rattle.std.proofs.Common.{◌≡◌, take, add-one, [], Some, slice_get, get_or, sym, ap, subst, ◌∙◌}
use Rattle.std.proofs.lemmas.Option.{slice_get-get_or}
use Rattle.pure_terms.proofs.Evaluated.{take-push}
use Rattle.sym_witness.specs.Numbering.{AreOthers}
use Rattle.sym_witness.proofs.Others.{none_yet}
use Rattle.sym_witness.proofs.numbering.others.Goals as goal

pub loop-place-init : goal.loop-place-init
loop-place-init c = subst (AreOthers [] c.args.fresh.now) (sym c.new-free.ensures.items) (none_yet c.args.fresh.now)

pub loop-place-preserved : goal.loop-place-preserved
loop-place-preserved c =
    let symbols = c.args.symbols.now in
    let i = c.loop-place.place in
    let at : slice_get symbols i ≡ Some (get_or symbols i 0) = slice_get-get_or symbols i 0 c.loop-place-test.true in
    subst (λ seen. AreOthers seen c.args.fresh.now c.add_other.new.free.items) (sym (ap (λ n. take n symbols) (add-one i) ∙ take-push symbols i (get_or symbols i 0) at))
    (c.in_ok-add_other.ensures (take i symbols) c.loop-place.invariant)
