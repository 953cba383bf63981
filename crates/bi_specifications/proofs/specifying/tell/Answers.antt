use Rattle.std.proofs.Common.{◌≡◌, ◌∷◌, [], map, true, false, Some, refl, ap, ◌∙◌}
use Rattle.gil_syntax.specs.View.{proc_view, spec_view, assertion_view}
use Rattle.pure_terms.specs.View.{term_view}
use Rattle.sym_paths.specs.Pure.{returned, cut}
use Rattle.sym_paths.specs.View.{end_view, path_view}
use Rattle.bi_specifications.specs.Shape.{post_of, spec_of}
use Rattle.bi_specifications.specs.View.{entry_view, found_view}
use Rattle.bi_specifications.proofs.Telling.{tells_returned, tells_threw, tells_cut, is_met_along}
use Rattle.bi_specifications.proofs.specifying.tell.Goals as goal

pub returns-in_ok-spec-in-Returned-clause-found : goal.returns-in_ok-spec-in-Returned-clause-found
returns-in_ok-spec-in-Returned-clause-found g c =
    let q = proc_view c.args.proc.now in
    let e = entry_view c.args.beginning.now in
    let path = path_view c.args.path.now in
    let t = c.in-Returned.term in
    let (us, (listed, says)) = c.in_ok-posts-in-Returned.ensures in
    let spec = c.in_ok-spec-in-Returned.spec in
    let is : spec_view spec ≡ spec_of q e path (post_of q e path us (term_view t) ∷ []) [] =
    c.in_ok-spec-in-Returned.ensures ∙ (λ i. spec_of q e path (says e.count e.uses c.requires.late i) (map assertion_view (c.new-errors.ensures i)))
    in
    tells_returned g.M.Local.LocalMemory.memory g.M.Local.LocalMemory.actions g.met.M.Local.LocalMemory.laws g.M.SymMemory.stands g.M.SymMemory.terms g.met.M.SymMemory.meaning g.M.SymMemory.asked g.M.SymMemory.depends g.M.SymMemory.plain g.M.SymMemory.keeps_plain
    g.M.SymMemory.kept q e path c.requires.may (term_view t) us (found_view (record { spec = spec; cut = false })) (c.requires.ends ∙ ap (λ x. Some (end_view x)) c.in-Returned.is) listed (λ i. record { spec = is i; cut = false })

pub returns-in_ok-spec-in-Threw-clause-found : goal.returns-in_ok-spec-in-Threw-clause-found
returns-in_ok-spec-in-Threw-clause-found g c =
    let q = proc_view c.args.proc.now in
    let e = entry_view c.args.beginning.now in
    let path = path_view c.args.path.now in
    let t = c.in-Threw.term in
    let (us, (listed, says)) = c.in_ok-errors-in-Threw.ensures in
    let spec = c.in_ok-spec-in-Threw.spec in
    let is : spec_view spec ≡ spec_of q e path [] (post_of q e path us (term_view t) ∷ []) =
    c.in_ok-spec-in-Threw.ensures ∙ (λ i. spec_of q e path (map assertion_view (c.new-posts.ensures i)) (says e.count e.uses c.requires.late i))
    in
    tells_threw g.M.Local.LocalMemory.memory g.M.Local.LocalMemory.actions g.met.M.Local.LocalMemory.laws g.M.SymMemory.stands g.M.SymMemory.terms g.met.M.SymMemory.meaning g.M.SymMemory.asked g.M.SymMemory.depends g.M.SymMemory.plain g.M.SymMemory.keeps_plain
    g.M.SymMemory.kept q e path c.requires.may (term_view t) _ us (found_view (record { spec = spec; cut = false })) (c.requires.ends ∙ ap (λ x. Some (end_view x)) c.in-Threw.is) listed (λ i. record { spec = is i; cut = false })

pub returns-in_ok-spec-in-Cut-clause-found : goal.returns-in_ok-spec-in-Cut-clause-found
returns-in_ok-spec-in-Cut-clause-found g c =
    let q = proc_view c.args.proc.now in
    let e = entry_view c.args.beginning.now in
    let path = path_view c.args.path.now in
    let spec = c.in_ok-spec-in-Cut.spec in
    let is : spec_view spec ≡ spec_of q e path [] [] =
    c.in_ok-spec-in-Cut.ensures ∙ (λ i. spec_of q e path (map assertion_view (c.new-posts-in-Cut.ensures i)) (map assertion_view (c.new-errors-in-Cut.ensures i)))
    in
    tells_cut g.M.Local.LocalMemory.memory g.M.Local.LocalMemory.actions g.met.M.Local.LocalMemory.laws g.M.SymMemory.stands g.M.SymMemory.terms g.met.M.SymMemory.meaning g.M.SymMemory.asked g.M.SymMemory.depends g.M.SymMemory.plain g.M.SymMemory.keeps_plain
    g.M.SymMemory.kept q e path c.requires.may (found_view (record { spec = spec; cut = true })) (c.requires.ends ∙ ap (λ x. Some (end_view x)) c.in-Cut.is) (λ i. record { spec = is i; cut = true })

pub returns-in_ok-spec-in-Returned-clause-cover : goal.returns-in_ok-spec-in-Returned-clause-cover
returns-in_ok-spec-in-Returned-clause-cover g c =
    let q = proc_view c.args.proc.now in
    let e = entry_view c.args.beginning.now in
    let path = path_view c.args.path.now in
    let spec = c.in_ok-spec-in-Returned.spec in
    is_met_along g.M.Local.LocalMemory.memory g.M.Local.LocalMemory.actions g.met.M.Local.LocalMemory.laws g.M.SymMemory.stands g.M.SymMemory.terms g.met.M.SymMemory.meaning g.M.SymMemory.asked g.M.SymMemory.depends g.M.SymMemory.plain g.M.SymMemory.keeps_plain
    g.M.SymMemory.kept q e path c.requires.may (returned (term_view c.in-Returned.term)) (map assertion_view c.in_ok-posts-in-Returned.posts) (map assertion_view c.new-errors.result) (found_view (record { spec = spec; cut = false }))
    (c.requires.ends ∙ ap (λ x. Some (end_view x)) c.in-Returned.is) tt refl c.in_ok-spec-in-Returned.ensures

pub returns-in_ok-spec-in-Threw-clause-cover : goal.returns-in_ok-spec-in-Threw-clause-cover
returns-in_ok-spec-in-Threw-clause-cover g c =
    let q = proc_view c.args.proc.now in
    let e = entry_view c.args.beginning.now in
    let path = path_view c.args.path.now in
    let spec = c.in_ok-spec-in-Threw.spec in
    is_met_along g.M.Local.LocalMemory.memory g.M.Local.LocalMemory.actions g.met.M.Local.LocalMemory.laws g.M.SymMemory.stands g.M.SymMemory.terms g.met.M.SymMemory.meaning g.M.SymMemory.asked g.M.SymMemory.depends g.M.SymMemory.plain g.M.SymMemory.keeps_plain
    g.M.SymMemory.kept q e path c.requires.may _ (map assertion_view c.new-posts.result) (map assertion_view c.in_ok-errors-in-Threw.errors) (found_view (record { spec = spec; cut = false }))
    (c.requires.ends ∙ ap (λ x. Some (end_view x)) c.in-Threw.is) tt refl c.in_ok-spec-in-Threw.ensures

pub returns-in_ok-spec-in-Cut-clause-cover : goal.returns-in_ok-spec-in-Cut-clause-cover
returns-in_ok-spec-in-Cut-clause-cover g c =
    let q = proc_view c.args.proc.now in
    let e = entry_view c.args.beginning.now in
    let path = path_view c.args.path.now in
    let spec = c.in_ok-spec-in-Cut.spec in
    is_met_along g.M.Local.LocalMemory.memory g.M.Local.LocalMemory.actions g.met.M.Local.LocalMemory.laws g.M.SymMemory.stands g.M.SymMemory.terms g.met.M.SymMemory.meaning g.M.SymMemory.asked g.M.SymMemory.depends g.M.SymMemory.plain g.M.SymMemory.keeps_plain
    g.M.SymMemory.kept q e path c.requires.may cut (map assertion_view c.new-posts-in-Cut.result) (map assertion_view c.new-errors-in-Cut.result) (found_view (record { spec = spec; cut = true }))
    (c.requires.ends ∙ ap (λ x. Some (end_view x)) c.in-Cut.is) tt refl c.in_ok-spec-in-Cut.ensures
