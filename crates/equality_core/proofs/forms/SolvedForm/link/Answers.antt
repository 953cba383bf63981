use Rattle.std.proofs.Common.{◌≡◌, Option, ap, ◌∙◌, subst}
use Rattle.std.specs.Option.{option_map}
use Rattle.pure_terms.specs.View.{term_view, atoms_view}
use Rattle.solver_proof.specs.declared.proofs.Proof.{Proof}
use Rattle.solver_proof.specs.View.{proof_view}
use Rattle.equality_core.specs.declared.closing.Closing.{Closing}
use Rattle.equality_core.specs.Classes.{classes_view, IsClosing}
use Rattle.equality_core.specs.Linking.{IsLinkedIn}
use Rattle.equality_core.specs.Solved.{equalities, IsLinked}
use Rattle.equality_core.proofs.Answering.{differing, apart_not_clear, link_from}
use Rattle.equality_core.proofs.Finding.{ok_then}
use Rattle.equality_core.proofs.forms.SolvedForm.link.Goals as goal

pub returns-in-Whole : goal.returns-in-Whole
returns-in-Whole c =
    let list : atoms_view c.push_disequality.new.list ≡ differing (equalities c.args.self.now) (term_view c.args.s.now) (term_view c.args.t.now) = c.in_ok-push_disequality.ensures ∙ ap (λ l. differing l (term_view c.args.s.now) (term_view c.args.t.now)) c.in_ok-list.ensures in
    let closed : IsClosing (atoms_view c.push_disequality.new.list) (Closing.Whole c.in-Whole.classes) = subst (IsClosing (atoms_view c.push_disequality.new.list)) c.in-Whole.is c.in_ok-classes.ensures in
    ok_then c.linked.result (λ (found : Option Proof). IsLinkedIn (classes_view c.in-Whole.classes) (term_view c.args.s.now) (term_view c.args.t.now) (option_map proof_view found)) (λ (found : Option Proof). IsLinked (equalities c.args.self.now) (term_view c.args.s.now) (term_view c.args.t.now) (option_map proof_view found))
    (λ found h. link_from (classes_view c.in-Whole.classes) (equalities c.args.self.now) (term_view c.args.s.now) (term_view c.args.t.now) (closed.0 ∙ list) c.args.self.now.no_clash (option_map proof_view found) h) c.linked.ensures

pub returns : goal.returns
returns c = λ forms e.
    let list : atoms_view c.push_disequality.new.list ≡ differing (equalities c.args.self.now) (term_view c.args.s.now) (term_view c.args.t.now) = c.in_ok-push_disequality.ensures ∙ ap (λ l. differing l (term_view c.args.s.now) (term_view c.args.t.now)) c.in_ok-list.ensures in
    let closed : IsClosing (atoms_view c.push_disequality.new.list) (Closing.Clash c.in-Clash.field-0) = subst (IsClosing (atoms_view c.push_disequality.new.list)) c.in-Clash.is c.in_ok-classes.ensures in
    let apart : IsClosing (differing (equalities c.args.self.now) (term_view c.args.s.now) (term_view c.args.t.now)) (Closing.Clash c.in-Clash.field-0) = subst (λ l. IsClosing l (Closing.Clash c.in-Clash.field-0)) list closed in
    apart_not_clear (equalities c.args.self.now) (term_view c.args.s.now) (term_view c.args.t.now) (c.args.self.now.no_clash forms) apart.1
