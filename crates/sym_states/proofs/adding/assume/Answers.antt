use Rattle.std.proofs.Common.{[], ◌∷◌, true, refl, sym, ap, subst}
use Rattle.std.specs.List.{list_all}
use Rattle.std.specs.Option.{option_map}
use Rattle.std.proofs.lemmas.Bool.{and_parts}
use Rattle.gil_syntax.specs.Pure.{pure}
use Rattle.gil_syntax.specs.Subexpressions.{literals_of}
use Rattle.gil_syntax.specs.View.{expr_view}
use Rattle.gil_syntax.specs.WellMade.{is_spellable}
use Rattle.pure_terms.specs.View.{term_view}
use Rattle.sym_evaluation.specs.View.{store_view, cases_view, good_view, sides_view}
use Rattle.sym_states.specs.Producing.{AddsToEach}
use Rattle.sym_states.specs.View.{state_view, production_view}
use Rattle.sym_states.proofs.Plainness.{form_asks}
use Rattle.sym_states.proofs.PureItems.{never_good, assumes_where}
use Rattle.sym_states.proofs.Values.{ok_to}
use Rattle.sym_states.proofs.adding.assume.Goals as goal

pub evaluate-requires : goal.evaluate-requires
evaluate-requires g c = (and_parts (list_all is_spellable (literals_of (expr_view c.args.expression.now))) true c.requires).0

pub returns-in-None : goal.returns-in-None
returns-in-None g c =
    let bs = store_view c.args.store.now in
    let e = expr_view c.args.expression.now in
    let s = state_view c.args.state in
    subst (AddsToEach g.M.Local.LocalMemory.memory g.M.SymMemory.stands g.M.SymMemory.terms g.M.SymMemory.kept g.M.SymMemory.keeps_plain g.M.SymMemory.keeps_narrow bs (pure e) (s ∷ [])) (sym c.new.ensures)
    (never_good g.M.Local.LocalMemory.memory g.M.SymMemory.stands g.M.SymMemory.terms g.M.SymMemory.kept g.M.SymMemory.keeps_plain g.M.SymMemory.keeps_narrow bs e (cases_view c.in_ok-good.field-0) c.in_ok-good.ensures.cases c.in_ok-good.ensures.origin c.in_ok-good.ensures.names (form_asks c.plain_expressions_ask_nothing.ensures bs e (cases_view c.in_ok-good.field-0) c.in_ok-good.ensures.cases c.in_ok-good.ensures.origin c.requires) s
    (ap (option_map (good_view term_view)) c.in-None.is))

pub returns-in_ok-sides-in-Some : goal.returns-in_ok-sides-in-Some
returns-in_ok-sides-in-Some g c =
    let bs = store_view c.args.store.now in
    let e = expr_view c.args.expression.now in
    let s = state_view c.args.state in
    let sides = sides_view c.in_ok-sides-in-Some.sides in
    ok_to c.take_side.result _ (λ p. AddsToEach g.M.Local.LocalMemory.memory g.M.SymMemory.stands g.M.SymMemory.terms g.M.SymMemory.kept g.M.SymMemory.keeps_plain g.M.SymMemory.keeps_narrow bs (pure e) (s ∷ []) (production_view p))
    (λ p is. subst (AddsToEach g.M.Local.LocalMemory.memory g.M.SymMemory.stands g.M.SymMemory.terms g.M.SymMemory.kept g.M.SymMemory.keeps_plain g.M.SymMemory.keeps_narrow bs (pure e) (s ∷ [])) (sym is)
    (assumes_where g.M.Local.LocalMemory.memory g.M.SymMemory.stands g.M.SymMemory.terms g.M.SymMemory.kept g.M.SymMemory.keeps_plain g.M.SymMemory.keeps_narrow bs e (cases_view c.in_ok-good.field-0) c.in_ok-good.ensures.cases c.in_ok-good.ensures.origin c.in_ok-good.ensures.names (form_asks c.plain_expressions_ask_nothing.ensures bs e (cases_view c.in_ok-good.field-0) c.in_ok-good.ensures.cases c.in_ok-good.ensures.origin c.requires) s
    (good_view term_view c.in-Some.good) (ap (option_map (good_view term_view)) c.in-Some.is) sides c.in_ok-sides-in-Some.ensures.sides c.in_ok-sides-in-Some.ensures.origin c.in_ok-sides-in-Some.ensures.decided sides.when_true refl))
    c.take_side.ensures
