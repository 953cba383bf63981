use Rattle.std.proofs.Common.{[], take, sym, subst, ◌∙◌}
use Rattle.std.proofs.lemmas.List.{take_all}
use Rattle.gil_syntax.specs.View.{item_view, assertion_view}
use Rattle.sym_evaluation.specs.View.{store_view}
use Rattle.sym_model.specs.Lists.{Each}
use Rattle.sym_states.specs.Laws.{CoversAddings, AreAddings, ComeFromItems, StayOverTable, AreKept}
use Rattle.sym_states.specs.Narrowly.{StayNarrow}
use Rattle.sym_states.specs.Plainly.{StayPlain}
use Rattle.sym_states.specs.Producing.{MayAdd}
use Rattle.sym_states.specs.View.{state_view, states_view, production_view}
use Rattle.sym_states.proofs.Produced.{item_more, each_item, Produces, nothing_produced, produces_more, covers_all, all_exact, all_come, all_over, all_kept, all_plain, all_narrow}
use Rattle.sym_states.proofs.Values.{ok_to}
use Rattle.sym_states.proofs.producing.produce_items.Goals as goal

pub loop-item-init : goal.loop-item-init
loop-item-init g c =
    let bs = store_view c.args.store.now in
    let s = state_view c.args.state in
    subst (Produces g.M.Local.LocalMemory.memory g.M.SymMemory.stands g.M.SymMemory.terms g.M.SymMemory.kept g.M.SymMemory.keeps_plain g.M.SymMemory.keeps_narrow g.met.M.SymMemory.meaning bs s []) (sym c.in_ok-production.ensures) (nothing_produced g.M.Local.LocalMemory.memory g.M.SymMemory.stands g.M.SymMemory.terms g.M.SymMemory.kept g.M.SymMemory.keeps_plain g.M.SymMemory.keeps_narrow g.met.M.SymMemory.meaning bs s)

pub add_next-requires : goal.add_next-requires
add_next-requires g c =
    each_item (MayAdd g.M.Local.LocalMemory.memory) c.as_slice-item-items.result.now c.loop-item.item-index c.item-item.result c.loop-item-test.true c.item-item.is
    (subst (λ xs. Each (MayAdd g.M.Local.LocalMemory.memory) (assertion_view xs)) (sym c.as_slice-item-items.ensures) c.requires)

pub loop-item-preserved : goal.loop-item-preserved
loop-item-preserved g c =
    let bs = store_view c.args.store.now in
    let s = state_view c.args.state in
    let xs = c.as_slice-item-items.result.now in
    let i = c.loop-item.item-index in
    let item = c.item-item.result in
    subst (λ items. Produces g.M.Local.LocalMemory.memory g.M.SymMemory.stands g.M.SymMemory.terms g.M.SymMemory.kept g.M.SymMemory.keeps_plain g.M.SymMemory.keeps_narrow g.met.M.SymMemory.meaning bs s items (production_view c.in_ok-next.next)) (sym (item_more xs i item c.loop-item-test.true c.item-item.is))
    (produces_more g.M.Local.LocalMemory.memory g.M.SymMemory.stands g.M.SymMemory.terms g.M.SymMemory.kept g.M.SymMemory.keeps_plain g.M.SymMemory.keeps_narrow g.met.M.SymMemory.meaning bs s (assertion_view (take i xs)) (item_view item) (production_view c.loop-item.production) (production_view c.in_ok-next.next) c.loop-item.invariant c.in_ok-next.ensures)

pub returns-clause-cover : goal.returns-clause-cover
returns-clause-cover g c =
    let bs = store_view c.args.store.now in
    let s = state_view c.args.state in
    let items = assertion_view c.args.items.now in
    let p = production_view c.loop-item.production in
    let all : Produces g.M.Local.LocalMemory.memory g.M.SymMemory.stands g.M.SymMemory.terms g.M.SymMemory.kept g.M.SymMemory.keeps_plain g.M.SymMemory.keeps_narrow g.met.M.SymMemory.meaning bs s items p = subst (λ xs. Produces g.M.Local.LocalMemory.memory g.M.SymMemory.stands g.M.SymMemory.terms g.M.SymMemory.kept g.M.SymMemory.keeps_plain g.M.SymMemory.keeps_narrow g.met.M.SymMemory.meaning bs s (assertion_view xs) p) (take_all c.loop-item.item-index c.as_slice-item-items.result.now c.loop-item-test.false ∙ c.as_slice-item-items.ensures) c.loop-item.invariant in
    ok_to c.push_all.result _ (λ rs. CoversAddings g.M.Local.LocalMemory.memory g.M.SymMemory.stands g.M.SymMemory.terms bs items s (states_view rs)) (λ rs is_rs. subst (CoversAddings g.M.Local.LocalMemory.memory g.M.SymMemory.stands g.M.SymMemory.terms bs items s) (sym is_rs) (covers_all g.M.Local.LocalMemory.memory g.M.SymMemory.stands g.M.SymMemory.terms g.M.SymMemory.kept g.M.SymMemory.keeps_plain g.M.SymMemory.keeps_narrow g.met.M.SymMemory.meaning bs s items p all)) c.push_all.ensures

pub returns-clause-exact : goal.returns-clause-exact
returns-clause-exact g c =
    let bs = store_view c.args.store.now in
    let s = state_view c.args.state in
    let items = assertion_view c.args.items.now in
    let p = production_view c.loop-item.production in
    let all : Produces g.M.Local.LocalMemory.memory g.M.SymMemory.stands g.M.SymMemory.terms g.M.SymMemory.kept g.M.SymMemory.keeps_plain g.M.SymMemory.keeps_narrow g.met.M.SymMemory.meaning bs s items p = subst (λ xs. Produces g.M.Local.LocalMemory.memory g.M.SymMemory.stands g.M.SymMemory.terms g.M.SymMemory.kept g.M.SymMemory.keeps_plain g.M.SymMemory.keeps_narrow g.met.M.SymMemory.meaning bs s (assertion_view xs) p) (take_all c.loop-item.item-index c.as_slice-item-items.result.now c.loop-item-test.false ∙ c.as_slice-item-items.ensures) c.loop-item.invariant in
    ok_to c.push_all.result _ (λ rs. AreAddings g.M.Local.LocalMemory.memory g.M.SymMemory.stands g.M.SymMemory.terms bs items s (states_view rs)) (λ rs is_rs. subst (AreAddings g.M.Local.LocalMemory.memory g.M.SymMemory.stands g.M.SymMemory.terms bs items s) (sym is_rs) (all_exact g.M.Local.LocalMemory.memory g.M.SymMemory.stands g.M.SymMemory.terms g.M.SymMemory.kept g.M.SymMemory.keeps_plain g.M.SymMemory.keeps_narrow g.met.M.SymMemory.meaning bs s items p all)) c.push_all.ensures

pub returns-clause-origin : goal.returns-clause-origin
returns-clause-origin g c =
    let bs = store_view c.args.store.now in
    let s = state_view c.args.state in
    let items = assertion_view c.args.items.now in
    let p = production_view c.loop-item.production in
    let all : Produces g.M.Local.LocalMemory.memory g.M.SymMemory.stands g.M.SymMemory.terms g.M.SymMemory.kept g.M.SymMemory.keeps_plain g.M.SymMemory.keeps_narrow g.met.M.SymMemory.meaning bs s items p = subst (λ xs. Produces g.M.Local.LocalMemory.memory g.M.SymMemory.stands g.M.SymMemory.terms g.M.SymMemory.kept g.M.SymMemory.keeps_plain g.M.SymMemory.keeps_narrow g.met.M.SymMemory.meaning bs s (assertion_view xs) p) (take_all c.loop-item.item-index c.as_slice-item-items.result.now c.loop-item-test.false ∙ c.as_slice-item-items.ensures) c.loop-item.invariant in
    ok_to c.push_all.result _ (λ rs. ComeFromItems g.M.SymMemory.stands g.M.SymMemory.terms bs items s (states_view rs)) (λ rs is_rs. subst (ComeFromItems g.M.SymMemory.stands g.M.SymMemory.terms bs items s) (sym is_rs) (all_come g.M.Local.LocalMemory.memory g.M.SymMemory.stands g.M.SymMemory.terms g.M.SymMemory.kept g.M.SymMemory.keeps_plain g.M.SymMemory.keeps_narrow g.met.M.SymMemory.meaning bs s items p all)) c.push_all.ensures

pub returns-clause-over : goal.returns-clause-over
returns-clause-over g c =
    let bs = store_view c.args.store.now in
    let s = state_view c.args.state in
    let items = assertion_view c.args.items.now in
    let p = production_view c.loop-item.production in
    let all : Produces g.M.Local.LocalMemory.memory g.M.SymMemory.stands g.M.SymMemory.terms g.M.SymMemory.kept g.M.SymMemory.keeps_plain g.M.SymMemory.keeps_narrow g.met.M.SymMemory.meaning bs s items p = subst (λ xs. Produces g.M.Local.LocalMemory.memory g.M.SymMemory.stands g.M.SymMemory.terms g.M.SymMemory.kept g.M.SymMemory.keeps_plain g.M.SymMemory.keeps_narrow g.met.M.SymMemory.meaning bs s (assertion_view xs) p) (take_all c.loop-item.item-index c.as_slice-item-items.result.now c.loop-item-test.false ∙ c.as_slice-item-items.ensures) c.loop-item.invariant in
    ok_to c.push_all.result _ (λ rs. StayOverTable g.M.SymMemory.terms bs s (states_view rs)) (λ rs is_rs. subst (StayOverTable g.M.SymMemory.terms bs s) (sym is_rs) (all_over g.M.Local.LocalMemory.memory g.M.SymMemory.stands g.M.SymMemory.terms g.M.SymMemory.kept g.M.SymMemory.keeps_plain g.M.SymMemory.keeps_narrow g.met.M.SymMemory.meaning bs s items p all)) c.push_all.ensures

pub returns-clause-kept : goal.returns-clause-kept
returns-clause-kept g c is =
    let bs = store_view c.args.store.now in
    let s = state_view c.args.state in
    let items = assertion_view c.args.items.now in
    let p = production_view c.loop-item.production in
    let all : Produces g.M.Local.LocalMemory.memory g.M.SymMemory.stands g.M.SymMemory.terms g.M.SymMemory.kept g.M.SymMemory.keeps_plain g.M.SymMemory.keeps_narrow g.met.M.SymMemory.meaning bs s items p = subst (λ xs. Produces g.M.Local.LocalMemory.memory g.M.SymMemory.stands g.M.SymMemory.terms g.M.SymMemory.kept g.M.SymMemory.keeps_plain g.M.SymMemory.keeps_narrow g.met.M.SymMemory.meaning bs s (assertion_view xs) p) (take_all c.loop-item.item-index c.as_slice-item-items.result.now c.loop-item-test.false ∙ c.as_slice-item-items.ensures) c.loop-item.invariant in
    ok_to c.push_all.result _ (λ rs. AreKept g.M.SymMemory.kept (states_view rs)) (λ rs is_rs. subst (AreKept g.M.SymMemory.kept) (sym is_rs) (all_kept g.M.Local.LocalMemory.memory g.M.SymMemory.stands g.M.SymMemory.terms g.M.SymMemory.kept g.M.SymMemory.keeps_plain g.M.SymMemory.keeps_narrow g.met.M.SymMemory.meaning bs s items p all is)) c.push_all.ensures

pub returns-clause-plain : goal.returns-clause-plain
returns-clause-plain g c is =
    let bs = store_view c.args.store.now in
    let s = state_view c.args.state in
    let items = assertion_view c.args.items.now in
    let p = production_view c.loop-item.production in
    let all : Produces g.M.Local.LocalMemory.memory g.M.SymMemory.stands g.M.SymMemory.terms g.M.SymMemory.kept g.M.SymMemory.keeps_plain g.M.SymMemory.keeps_narrow g.met.M.SymMemory.meaning bs s items p = subst (λ xs. Produces g.M.Local.LocalMemory.memory g.M.SymMemory.stands g.M.SymMemory.terms g.M.SymMemory.kept g.M.SymMemory.keeps_plain g.M.SymMemory.keeps_narrow g.met.M.SymMemory.meaning bs s (assertion_view xs) p) (take_all c.loop-item.item-index c.as_slice-item-items.result.now c.loop-item-test.false ∙ c.as_slice-item-items.ensures) c.loop-item.invariant in
    ok_to c.push_all.result _ (λ rs. StayPlain g.M.Local.LocalMemory.memory g.M.SymMemory.terms bs items s (states_view rs)) (λ rs is_rs. subst (StayPlain g.M.Local.LocalMemory.memory g.M.SymMemory.terms bs items s) (sym is_rs) (all_plain g.M.Local.LocalMemory.memory g.M.SymMemory.stands g.M.SymMemory.terms g.M.SymMemory.kept g.M.SymMemory.keeps_plain g.M.SymMemory.keeps_narrow g.met.M.SymMemory.meaning bs s items p all is)) c.push_all.ensures

pub returns-clause-narrow : goal.returns-clause-narrow
returns-clause-narrow g c is =
    let bs = store_view c.args.store.now in
    let s = state_view c.args.state in
    let items = assertion_view c.args.items.now in
    let p = production_view c.loop-item.production in
    let all : Produces g.M.Local.LocalMemory.memory g.M.SymMemory.stands g.M.SymMemory.terms g.M.SymMemory.kept g.M.SymMemory.keeps_plain g.M.SymMemory.keeps_narrow g.met.M.SymMemory.meaning bs s items p = subst (λ xs. Produces g.M.Local.LocalMemory.memory g.M.SymMemory.stands g.M.SymMemory.terms g.M.SymMemory.kept g.M.SymMemory.keeps_plain g.M.SymMemory.keeps_narrow g.met.M.SymMemory.meaning bs s (assertion_view xs) p) (take_all c.loop-item.item-index c.as_slice-item-items.result.now c.loop-item-test.false ∙ c.as_slice-item-items.ensures) c.loop-item.invariant in
    ok_to c.push_all.result _ (λ rs. StayNarrow g.M.SymMemory.terms bs items s (states_view rs)) (λ rs is_rs. subst (StayNarrow g.M.SymMemory.terms bs items s) (sym is_rs) (all_narrow g.M.Local.LocalMemory.memory g.M.SymMemory.stands g.M.SymMemory.terms g.M.SymMemory.kept g.M.SymMemory.keeps_plain g.M.SymMemory.keeps_narrow g.met.M.SymMemory.meaning bs s items p all is)) c.push_all.ensures
