use Rattle.std.proofs.Common.{◌+◌, ◌∷◌, ◌++◌, [], take, drop, Some, None, sym, ap, subst, ◌∙◌}
use Rattle.std.specs.Option.{option_map}
use Rattle.std.proofs.lemmas.List.{take_more, take-append-drop}
use Rattle.sym_evaluation.specs.View.{store_view}
use Rattle.sym_states.specs.Naming.{IsNaming, NamesAll}
use Rattle.sym_states.specs.NamingView.{named_view}
use Rattle.sym_states.proofs.NamingLaws.{nothing_named, names_more, none_of_all}
use Rattle.sym_states.proofs.naming.with_variables.Goals as goal

pub loop-name-init : goal.loop-name-init
loop-name-init c = nothing_named c.args.params.now c.args.vars (store_view c.args.store)

pub loop-name-preserved : goal.loop-name-preserved
loop-name-preserved c =
    let xs = c.as_slice-name-items.result.now in
    let i = c.loop-name.name-index in
    let x = c.name-item.result in
    subst (λ names. IsNaming c.args.params.now names c.args.vars (store_view c.args.store) (named_view c.in-Some.next))
    (sym (take_more xs i x c.loop-name-test.true ∙ ap (λ y. take i xs ++ y ∷ []) (sym c.name-item.is)))
    (names_more c.args.params.now (take i xs) x c.args.vars (store_view c.args.store) (named_view c.loop-name.named) c.loop-name.invariant (Some (named_view c.in-Some.next))
    (subst (λ o. NamesAll c.args.params.now (x ∷ []) c.loop-name.named.vars (store_view c.loop-name.named.store) (option_map named_view o)) c.in-Some.is c.in_ok-next.ensures))

pub returns-in-None : goal.returns-in-None
returns-in-None c =
    let xs = c.as_slice-name-items.result.now in
    let i = c.loop-name.name-index in
    let x = c.name-item.result in
    let here = names_more c.args.params.now (take i xs) x c.args.vars (store_view c.args.store) (named_view c.loop-name.named) c.loop-name.invariant None
    (subst (λ o. NamesAll c.args.params.now (x ∷ []) c.loop-name.named.vars (store_view c.loop-name.named.store) (option_map named_view o)) c.in-None.is c.in_ok-next.ensures) in
    let read = take_more xs i x c.loop-name-test.true ∙ ap (λ y. take i xs ++ y ∷ []) (sym c.name-item.is) in
    let all = none_of_all c.args.params.now (take (i + 1) xs) (drop (i + 1) xs) c.args.vars (store_view c.args.store) (subst (λ names. NamesAll c.args.params.now names c.args.vars (store_view c.args.store) None) (sym read) here) in
    subst (λ names. NamesAll c.args.params.now names c.args.vars (store_view c.args.store) None) (take-append-drop (i + 1) xs ∙ c.as_slice-name-items.ensures) all
