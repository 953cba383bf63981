use Rattle.std.proofs.Common.{◌≡◌, ◌||◌, is_some, sym, ap, ◌∙◌}
use Rattle.gil_syntax.specs.Valid.{core_predicates, is_named, is_core_name, a_pred}
use Rattle.gil_syntax.specs.View.{pred_def_view}
use Rattle.gil_syntax.specs.ByName.{parts_of, shape, find_signature}
use Rattle.gil_syntax.proofs.ByNameLemmas.{is_named-find, is_some-map}
use Rattle.gil_syntax.proofs.DuplicateLemmas.{preds_before, told}
use Rattle.gil_syntax.proofs.duplicates.pred_stands_again.Goals as goal

pub returns-then-stands_before : goal.returns-then-stands_before
returns-then-stands_before c =
    let core = is_core_name (a_pred (pred_def_view c.args.pred.now)) in
    c.if-stands_before.true
    ∙ ap (λ b. b || core) (sym c.if-stands_before.true ∙ c.stands_before.ensures
    ∙ told _ _ c.args.pred.now.name c.as_str-name.result.now c.args.place c.requires.preds c.as_str-name.ensures.characters
    ∙ preds_before (parts_of c.args.program.now) (pred_def_view c.args.pred.now) c.args.place)

pub returns-else-stands_before : goal.returns-else-stands_before
returns-else-stands_before c =
    let core : c.is_some.result ≡ is_named core_predicates c.args.pred.now.name =
    c.is_some.ensures ∙ sym (is_some-map (λ a. (a.ins, a.outs)) c.core_arity.result) ∙ ap is_some c.core_arity.ensures ∙ is_some-map shape (find_signature core_predicates c.as_str-name.result.now)
    ∙ sym (is_named-find core_predicates c.as_str-name.result.now) ∙ ap (is_named core_predicates) c.as_str-name.ensures.characters in
    core
    ∙ ap (λ b. b || is_core_name (a_pred (pred_def_view c.args.pred.now))) (sym c.if-stands_before.false ∙ c.stands_before.ensures
    ∙ told _ _ c.args.pred.now.name c.as_str-name.result.now c.args.place c.requires.preds c.as_str-name.ensures.characters
    ∙ preds_before (parts_of c.args.program.now) (pred_def_view c.args.pred.now) c.args.place)
