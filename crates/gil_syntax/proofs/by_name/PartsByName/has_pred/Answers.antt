use Rattle.std.proofs.Common.{is_some, sym, ap, ◌∙◌}
use Rattle.gil_syntax.specs.Valid.{predicates_of}
use Rattle.gil_syntax.specs.ByName.{parts_of, shape, find_signature}
use Rattle.gil_syntax.proofs.ByNameLemmas.{is_named-find, is_some-map}
use Rattle.gil_syntax.proofs.by_name.PartsByName.has_pred.Goals as goal

pub returns : goal.returns
returns c =
    let gs = predicates_of (parts_of c.args.self.now) in
    c.is_some.ensures ∙ sym (is_some-map (λ a. (a.ins, a.outs)) c.arity.result) ∙ ap is_some c.arity.ensures ∙ is_some-map shape (find_signature gs c.args.name.now) ∙ sym (is_named-find gs c.args.name.now)
