use Rattle.std.proofs.Common.{not, map, length, refl, sym, ap, ◌∙◌, arith}
use Rattle.std.specs.Str.{bytes_eq}
use Rattle.std.proofs.lemmas.List.{take_all}
use Rattle.std.proofs.lemmas.Option.{slice_get_read}
use Rattle.gil_syntax.proofs.ExpressionLemmas.{read_seen}
use Rattle.gil_syntax.proofs.PieceLemmas.{names_same, names_differ, names_next}
use Rattle.gil_syntax.proofs.arities.are_names_of.Goals as goal

pub returns-then-ne : goal.returns-then-ne
returns-then-ne c = names_differ c.args.texts.now (map (λ q. q.name) c.args.params.now) c.loop-place.place c.index-texts-place.result c.index-params-place.result.name
    (slice_get_read c.args.texts.now (length c.args.texts.now) c.loop-place.place c.index-texts-place.result refl c.loop-place-test.true c.index-texts-place.is)
    (read_seen (λ q. q.name) c.args.params.now c.args.params.now c.loop-place.place c.index-params-place.result refl (omega arith) c.index-params-place.is)
    (c.if-ne.ensures ∙ ap (λ q. not (bytes_eq c.index-texts-place.result q.name)) (sym c.index-params-place.is))

pub returns : goal.returns
returns c = names_same c.args.texts.now (map (λ q. q.name) c.args.params.now)
    (sym (take_all c.loop-place.place c.args.texts.now (omega arith)) ∙ c.loop-place.invariant ∙ ap (map (λ q. q.name)) (take_all c.loop-place.place c.args.params.now (omega arith)))

pub loop-place-preserved : goal.loop-place-preserved
loop-place-preserved c = names_next (λ q. q.name) c.args.texts.now c.args.params.now c.loop-place.place c.index-texts-place.result c.index-params-place.result (omega arith) (omega arith)
    c.index-texts-place.is c.index-params-place.is c.loop-place.invariant
    (c.if-ne.ensures ∙ ap (λ q. not (bytes_eq c.index-texts-place.result q.name)) (sym c.index-params-place.is))
