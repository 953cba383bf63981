use Rattle.std.proofs.Common.{◌≡◌, ◌++◌, ◌∷◌, [], length, ap, ◌∙◌}
use Rattle.std.proofs.lemmas.List.{map-append}
use Rattle.pure_terms.specs.View.{terms_view}
use Rattle.sym_model.specs.Pure.{PureUse}
use Rattle.sym_model.specs.View.{use_view, uses_view, fix_view}
use Rattle.bi_beginnings.specs.Beginnings.{variables_from}
use Rattle.bi_beginnings.specs.View.{beginning_view}
use Rattle.bi_beginnings.proofs.again.with_use.Goals as goal

pub returns : goal.returns
returns c =
    let b = beginning_view c.args.beginning.now in
    let f = fix_view c.args.fix.now in
    let made : PureUse = record { core = c.in_ok-core.core; ins = terms_view c.in_ok-ins.ins; outs = terms_view c.in_ok-extended.extended.added } in
    let wanted : PureUse = record { core = f.core; ins = f.ins; outs = variables_from (length b.vars) f.outs } in
    let same : made ≡ wanted = λ i. record { core = c.in_ok-core.ensures i; ins = c.in_ok-ins.ensures i; outs = c.in_ok-extended.ensures.added i } in
    let pushed : uses_view c.push.new.self ≡ uses_view c.in_ok-uses.uses ++ made ∷ [] = ap uses_view c.in_ok-push.ensures.ok ∙ map-append use_view c.in_ok-uses.uses (_ ∷ []) in
    let uses : uses_view c.push.new.self ≡ b.uses ++ wanted ∷ [] = pushed ∙ (λ i. c.in_ok-uses.ensures i ++ same i ∷ []) in
    λ i. record {
      vars = c.in_ok-extended.ensures.vars i;
      uses = uses i;
      conds = c.in_ok-conds.ensures i;
      place = c.in_ok-place.ensures i;
      choices = c.in_ok-choices.ensures i;
    }
