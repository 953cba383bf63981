use Rattle.std.proofs.Common.{◌≡◌, List, [], ◌∷◌, ◌++◌, sym, ap, ◌∙◌, subst, arith}
use Rattle.pure_terms.specs.declared.atoms.Atom.{Atom}
use Rattle.pure_terms.specs.Pure.{PureTerm, positive, negative}
use Rattle.pure_terms.specs.View.{term_view, atom_view, atoms_view}
use Rattle.solver_proof.specs.Closing.{Closes}
use Rattle.solver_proof.specs.View.{proof_view, proofs_view}
use Rattle.solver_rules.specs.Rules.{IsUndecided}
use Rattle.solver_rules.specs.Steps.{IsPlainAtom, ArePlain}
use Rattle.path_solver.specs.Falling.{left_to_say, Falls}
use Rattle.path_solver.specs.Searching.{IsBranch}
use Rattle.path_solver.proofs.Appending.{item_at, pushed_view, plain_pushed, each_next}
use Rattle.path_solver.proofs.Branching.{denied}
use Rattle.path_solver.proofs.Falling.{true_falls, false_falls}
use Rattle.path_solver.proofs.searching.+search.Goals as goal

pub search_each-search_with-requires : goal.search_each-search_with-requires
search_each-search_with-requires t c =
    let at = item_at c.args.more.now c.as_slice-atom-items.result.now c.loop-atom.atom-index c.atom-item.result c.as_slice-atom-items.ensures c.loop-atom-test.true c.atom-item.is in
    let falls : Falls c.args.vars.now (atoms_view c.loop-atom.list) (atom_view c.in_ok-appended.appended) =
    subst (λ (list : List Atom). Falls c.args.vars.now (atoms_view list) (atom_view c.in_ok-appended.appended)) (sym c.loop-atom.invariant.same)
    (subst (Falls c.args.vars.now (atoms_view c.args.list.now)) (sym c.in_ok-appended.ensures) (c.requires.falls c.loop-atom.atom-index (atom_view c.atom-item.result) at)) in
    let same : left_to_say c.args.vars.now (atoms_view c.loop-atom.list) ≡ left_to_say c.args.vars.now (atoms_view c.args.list.now) = ap (λ (list : List Atom). left_to_say c.args.vars.now (atoms_view list)) c.loop-atom.invariant.same in (
      omega (arith, falls, same),
      (
        subst (λ (list : List Atom). ArePlain c.args.vars.now (atoms_view list)) (sym c.loop-atom.invariant.same) c.requires.plain,
        (
          subst (IsPlainAtom c.args.vars.now) (sym c.in_ok-appended.ensures) (c.requires.more c.loop-atom.atom-index (atom_view c.atom-item.result) at),
          falls,
        ),
      ),
    )

pub search_each-loop-atom-preserved : goal.search_each-loop-atom-preserved
search_each-loop-atom-preserved t c =
    let at = item_at c.args.more.now c.as_slice-atom-items.result.now c.loop-atom.atom-index c.atom-item.result c.as_slice-atom-items.ensures c.loop-atom-test.true c.atom-item.is in
    let there : Closes c.args.vars.now (atoms_view c.loop-atom.list ++ atom_view c.in_ok-appended.appended ∷ []) (proof_view c.in-Under.proof) =
    subst (IsBranch c.args.vars.now (atoms_view c.loop-atom.list) (atom_view c.in_ok-appended.appended)) c.in-Under.is c.in_ok-found.ensures.branch in
    let closes = subst (λ (list : List Atom). Closes c.args.vars.now (atoms_view list ++ atom_view c.in_ok-appended.appended ∷ []) (proof_view c.in-Under.proof)) c.loop-atom.invariant.same there in
    record {
      same = c.in_ok-found.ensures.same ∙ c.loop-atom.invariant.same;
      closed = each_next c.args.vars.now (atoms_view c.args.list.now) (atoms_view c.args.more.now) c.loop-atom.atom-index (atom_view c.atom-item.result) (atom_view c.in_ok-appended.appended) (proofs_view c.loop-atom.proofs) (proofs_view c.push.new.self) (proof_view c.in-Under.proof)
          at c.in_ok-appended.ensures c.loop-atom.invariant.closed closes c.in_ok-push-in-Under.ensures.ok;
    }

pub search_split-search_with-requires : goal.search_split-search_with-requires
search_split-search_with-requires t c =
    let falls : Falls c.args.vars.now (atoms_view c.args.list.now) (positive (term_view c.in_ok-copy.field-0)) =
    subst (λ (u : PureTerm). Falls c.args.vars.now (atoms_view c.args.list.now) (positive u)) (sym c.in_ok-copy.ensures) (true_falls c.args.vars.now (atoms_view c.args.list.now) (term_view c.args.term) c.requires.split c.requires.undecided) in (
      omega (arith, falls),
      (c.requires.plain, (subst (λ (u : PureTerm). IsPlainAtom c.args.vars.now (positive u)) (sym c.in_ok-copy.ensures) c.requires.split.true_there, falls)),
    )

pub search_second-search_with-requires : goal.search_second-search_with-requires
search_second-search_with-requires t c =
    let falls : Falls c.args.vars.now (atoms_view c.args.list.now) (negative (term_view c.in_ok-copy.field-0)) =
    subst (λ (u : PureTerm). Falls c.args.vars.now (atoms_view c.args.list.now) (negative u)) (sym c.in_ok-copy.ensures) (false_falls c.args.vars.now (atoms_view c.args.list.now) (term_view c.args.term) c.requires.split c.requires.undecided) in (
      omega (arith, falls),
      (c.requires.plain, (subst (λ (u : PureTerm). IsPlainAtom c.args.vars.now (negative u)) (sym c.in_ok-copy.ensures) (denied c.args.vars.now (term_view c.args.term) c.requires.split.true_there), falls)),
    )

pub search_split-search_second-requires : goal.search_split-search_second-requires
search_split-search_second-requires t c =
    let there : Closes c.args.vars.now (atoms_view c.args.list.now ++ positive (term_view c.in_ok-copy.field-0) ∷ []) (proof_view c.in-Under.first) =
    subst (IsBranch c.args.vars.now (atoms_view c.args.list.now) (positive (term_view c.in_ok-copy.field-0))) c.in-Under.is c.in_ok-found.ensures.branch in
    let closes = subst (λ (u : PureTerm). Closes c.args.vars.now (atoms_view c.args.list.now ++ positive u ∷ []) (proof_view c.in-Under.first)) c.in_ok-copy.ensures there in
    let same : left_to_say c.args.vars.now (atoms_view c.search_with.new.list) ≡ left_to_say c.args.vars.now (atoms_view c.args.list.now) = ap (λ (list : List Atom). left_to_say c.args.vars.now (atoms_view list)) c.in_ok-found.ensures.same in (
      omega (arith, same),
      (
        subst (λ (list : List Atom). ArePlain c.args.vars.now (atoms_view list)) (sym c.in_ok-found.ensures.same) c.requires.plain,
        (
          c.requires.split,
          (
            subst (λ (list : List Atom). IsUndecided (atoms_view list) (term_view c.args.term)) (sym c.in_ok-found.ensures.same) c.requires.undecided,
            subst (λ (list : List Atom). Closes c.args.vars.now (atoms_view list ++ positive (term_view c.args.term) ∷ []) (proof_view c.in-Under.first)) (sym c.in_ok-found.ensures.same) closes,
          ),
        ),
      ),
    )

pub search_with-search-requires : goal.search_with-search-requires
search_with-search-requires t c =
    let same : left_to_say c.args.vars.now (atoms_view c.push.new.self) ≡ left_to_say c.args.vars.now (atoms_view c.args.list.now ++ atom_view c.args.atom ∷ []) =
    ap (left_to_say c.args.vars.now) (pushed_view c.args.list.now c.push.new.self c.args.atom c.in_ok-push.ensures.ok) in
    (omega (arith, same), plain_pushed c.args.vars.now c.args.list.now c.push.new.self c.args.atom c.requires.plain c.requires.atom c.in_ok-push.ensures.ok)
