use Rattle.std.proofs.Common.{◌≡◌, ℕ, Some, length, sym, ap, ◌∙◌}
use Rattle.std.specs.Option.{option_map}
use Rattle.gil_syntax.specs.Pure.{PurePredDef}
use Rattle.gil_syntax.specs.Valid.{core_predicates}
use Rattle.gil_syntax.specs.declared.by_name.Arity.{Arity}
use Rattle.gil_syntax.specs.ByName.{parts_of, find_signature}
use Rattle.gil_syntax.proofs.ByNameLemmas.{own_shape, no_shape}
use Rattle.gil_syntax.proofs.by_name.PartsByName.arity.Goals as goal

lengths : PurePredDef → ℕ × ℕ
lengths d = (length d.ins, length d.outs)

numbers : Arity → ℕ × ℕ
numbers a = (a.ins, a.outs)

pub returns-in_err-pred : goal.returns-in_err-pred
unfolding lengths numbers
returns-in_err-pred c =
    ap (option_map numbers) c.from_residual.ensures
    ∙ ap (option_map lengths) c.in_err-pred.ensures
    ∙ sym (own_shape core_predicates (parts_of c.args.self.now).preds c.args.name.now (no_shape (find_signature core_predicates c.args.name.now) c.in_default.ensures))

pub returns : goal.returns
unfolding lengths
returns c =
    let counted : Some (c.len.result, c.len-2.result) ≡ Some (length c.in_ok-pred.pred.now.ins, length c.in_ok-pred.pred.now.outs) = λ i. Some (c.len.ensures i, c.len-2.ensures i) in
    counted
    ∙ ap (option_map lengths) c.in_ok-pred.ensures
    ∙ sym (own_shape core_predicates (parts_of c.args.self.now).preds c.args.name.now (no_shape (find_signature core_predicates c.args.name.now) c.in_default.ensures))
