use Rattle.std.proofs.Common.{◌≡◌, Some, slice_get, sym, ap, ◌∙◌, subst}
use Rattle.std.proofs.lemmas.Bool.{true≢false}
use Rattle.pure_terms.specs.Pure.{negative}
use Rattle.pure_terms.specs.View.{term_view}
use Rattle.solver_proof.specs.Chains.{equals}
use Rattle.equality_core.specs.declared.classes.Wanted.{Wanted}
use Rattle.equality_core.specs.Classified.{IsEquating}
use Rattle.equality_core.specs.Equating.{turned, joined}
use Rattle.solver_rules.specs.Nodes.{vars_of, list_of_node, classes_of}
use Rattle.solver_rules.specs.Rules.{IsUndecided}
use Rattle.solver_rules.specs.Steps.{IsPlainAtom, IsSplit}
use Rattle.solver_rules.proofs.Given.{disequality_ends}
use Rattle.solver_rules.proofs.KindsApart.{first_found, first_side}
use Rattle.solver_rules.proofs.Ordering.{numbers_split}
use Rattle.solver_rules.proofs.Plain.{flat_sides}
use Rattle.solver_rules.proofs.Unsaid.{different_there, not_said_equal}
use Rattle.solver_rules.proofs.numbering.numbers.Goals as goal

pub closed_by-requires : goal.closed_by-requires
closed_by-requires c =
    let vars = vars_of c.args.node.now in
    let list = list_of_node c.args.node.now in
    let classes = classes_of c.args.node.now in
    let first = term_view c.in-Some-first_in_class.first.now in
    let second = term_view c.in-Some-first_in_class-2.second.now in
    let at : slice_get list c.args.place ≡ Some (negative (equals (term_view c.in-Some.pair.left.now) (term_view c.in-Some.pair.right.now))) = c.requires.at ∙ ap Some c.in-Some.ensures.found in
    let found_first = first_found vars list classes c.requires.node Wanted.Number (term_view c.in-Some.pair.left.now) first (sym c.in-Some-first_in_class.ensures) in
    let found_second = first_found vars list classes c.requires.node Wanted.Number (term_view c.in-Some.pair.right.now) second (sym c.in-Some-first_in_class-2.ensures) in
    record {
      node = c.requires.node;
      equated = joined found_first.equated (joined (subst (IsEquating classes first second) c.if-equates.true c.equates.ensures) (turned found_second.equated));
      ends = disequality_ends vars list classes c.requires.node c.args.place (term_view c.in-Some.pair.left.now) (term_view c.in-Some.pair.right.now) at;
    }

pub returns-in_ok-joined-in-Some-first_in_class-2 : goal.returns-in_ok-joined-in-Some-first_in_class-2
returns-in_ok-joined-in-Some-first_in_class-2 c =
    let vars = vars_of c.args.node.now in
    let list = list_of_node c.args.node.now in
    let classes = classes_of c.args.node.now in
    let first = term_view c.in-Some-first_in_class.first.now in
    let second = term_view c.in-Some-first_in_class-2.second.now in
    let sides = flat_sides vars (term_view c.in-Some.pair.left.now) (term_view c.in-Some.pair.right.now) (subst (IsPlainAtom vars) c.in-Some.ensures.found (c.requires.node.plain c.args.place _ c.requires.at)) c.in-Some.ensures.left c.in-Some.ensures.right in (
      subst (IsSplit vars) (sym c.in_ok-joined-in-Some-first_in_class-2.ensures)
          (numbers_split vars list classes c.requires.node (term_view c.in-Some.pair.left.now) (term_view c.in-Some.pair.right.now) first second sides.0 sides.1 (sym c.in-Some-first_in_class.ensures) (sym c.in-Some-first_in_class-2.ensures)),
      subst (IsUndecided list) (sym c.in_ok-joined-in-Some-first_in_class-2.ensures) (record {
        not_true = not_said_equal vars list classes c.requires.node first second (first_side vars list classes c.requires.node Wanted.Number (term_view c.in-Some.pair.left.now) first sides.0 (sym c.in-Some-first_in_class.ensures)).simple
            (subst (IsEquating classes first second) c.if-equates.false c.equates.ensures);
        not_false = λ i at. true≢false (sym (c.says_different.ensures.1 (different_there list first second i at)) ∙ c.if-says_different.false);
      }),
    )
