use Rattle.std.proofs.Common.{◌≡◌, length, IsTrue, sym, subst, ◌∙◌, true≢false, arith}
use Rattle.std.specs.Prelude.{IfNone, IfSome}
use Rattle.gil_syntax.specs.View.{proc_view}
use Rattle.pure_terms.specs.declared.variables.Sort.{Sort}
use Rattle.pure_terms.specs.Fragment.{has_fragment_form, names_sort}
use Rattle.pure_terms.specs.Pure.{term_of}
use Rattle.pure_terms.specs.View.{atoms_view}
use Rattle.sym_model.specs.Lists.{Each}
use Rattle.sym_paths.specs.View.{path_view}
use Rattle.bi_specifications.specs.Shape.{early_conds, late_conds}
use Rattle.bi_specifications.specs.View.{entry_view}
use Rattle.bi_specifications.proofs.Saying.{late_are_said}
use Rattle.bi_specifications.proofs.Telling.{may_from, nothing_of_others, none_there}
use Rattle.bi_specifications.proofs.specifying.specify.Goals as goal

pub tell-requires-clause-may : goal.tell-requires-clause-may
tell-requires-clause-may g c =
    let q = proc_view c.args.proc.now in
    let e = entry_view c.args.beginning.now in
    let path = path_view c.args.path.now in
    let late_is = c.in_ok-late.ensures ∙ (λ i. late_conds (c.len-3.ensures i) (c.atoms-2.ensures i)) in
    let none : length path.drawn ≡ 0 = omega (arith, c.len.ensures, c.if-len-gt0.false) in
    may_from q e path (atoms_view c.in_ok-late.late) c.in_default-result_parameter.ensures.none (none_there path.drawn none) (c.grew_by_symbols.ensures.0 c.if-not-grew_by_symbols.false)
    c.requires.named late_is
    (subst (λ o. IfNone o (Each (λ a. IsTrue (has_fragment_form a) × IsTrue (names_sort Sort.Fresh (term_of a))) (atoms_view c.in_ok-late.late))) c.in_default-2.is c.in_ok-term.ensures.none)

pub tell-requires-clause-early : goal.tell-requires-clause-early
tell-requires-clause-early g c = c.in_ok-early.ensures ∙ (λ i. early_conds (c.len-2.ensures i) (c.atoms.ensures i))

pub tell-requires-clause-late : goal.tell-requires-clause-late
tell-requires-clause-late g c = c.in_ok-late.ensures ∙ (λ i. late_conds (c.len-3.ensures i) (c.atoms-2.ensures i))

pub returns-then-not-grew_by_symbols-clause-cover : goal.returns-then-not-grew_by_symbols-clause-cover
returns-then-not-grew_by_symbols-clause-cover g c =
    nothing_of_others g.M.Local.LocalMemory.memory g.M.Local.LocalMemory.actions g.M.SymMemory.stands g.M.SymMemory.terms g.M.SymMemory.asked g.M.SymMemory.depends g.M.SymMemory.plain g.M.SymMemory.keeps_plain
    g.M.SymMemory.kept (proc_view c.args.proc.now) (entry_view c.args.beginning.now) (path_view c.args.path.now)
    (λ grown. true≢false (sym (c.grew_by_symbols.ensures.1 grown) ∙ c.if-not-grew_by_symbols.true))

pub returns-in-Some-result_parameter-clause-said : goal.returns-in-Some-result_parameter-clause-said
returns-in-Some-result_parameter-clause-said g c = λ may unsaid. true≢false (sym c.in-Some-result_parameter.ensures.some.1 ∙ may.no_result)

pub returns-in-Some-2-clause-said : goal.returns-in-Some-2-clause-said
returns-in-Some-2-clause-said g c = λ may unsaid.
    let e = entry_view c.args.beginning.now in
    let path = path_view c.args.path.now in
    let grown = c.grew_by_symbols.ensures.0 c.if-not-grew_by_symbols.false in
    let late_is = c.in_ok-late.ensures ∙ (λ i. late_conds (c.len-3.ensures i) (c.atoms-2.ensures i)) in
    subst (λ o. IfSome o (λ t. ¬ Each (λ a. IsTrue (has_fragment_form a) × IsTrue (names_sort Sort.Fresh (term_of a))) (atoms_view c.in_ok-late.late))) c.in-Some-2.is c.in_ok-term.ensures.some
    (subst (Each (λ a. IsTrue (has_fragment_form a) × IsTrue (names_sort Sort.Fresh (term_of a)))) (sym late_is) (late_are_said path.vars e.count grown.new_symbols path.conds may.over may.forms))
