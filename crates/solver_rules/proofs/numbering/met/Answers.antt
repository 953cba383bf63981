use Rattle.std.proofs.Common.{inr, List, sym, ◌∙◌, subst}
use Rattle.std.proofs.lemmas.Bool.{true≢false}
use Rattle.pure_terms.specs.Pure.{PureAtom}
use Rattle.pure_terms.specs.View.{term_view}
use Rattle.equality_core.specs.declared.classes.Wanted.{Wanted}
use Rattle.equality_core.specs.Equating.{turned, joined}
use Rattle.equality_core.proofs.Seeking.{first-none}
use Rattle.solver_rules.specs.Nodes.{vars_of, list_of_node, classes_of}
use Rattle.solver_rules.specs.Rules.{IsUndecided, SaysPositive}
use Rattle.solver_rules.specs.Steps.{IsSplit}
use Rattle.solver_rules.proofs.Given.{given_there, disequality_ends}
use Rattle.solver_rules.proofs.KindsApart.{first_found, first_side, forms_given, clear_given}
use Rattle.solver_rules.proofs.Ordering.{says_equal_from, number_split}
use Rattle.solver_rules.proofs.Unsaid.{positive_there}
use Rattle.solver_rules.proofs.numbering.met.Goals as goal

pub returns-then-says_equal : goal.returns-then-says_equal
returns-then-says_equal c = λ any number.
    let side = first_side (vars_of c.args.node.now) (list_of_node c.args.node.now) (classes_of c.args.node.now) c.requires.node Wanted.Number (term_view c.args.variable.now) (term_view c.in-Some.first.now) c.requires.left (sym c.in-Some.ensures) in (
      term_view c.in-Some.first.now,
      (
        sym c.in-Some.ensures,
        inr (says_equal_from (classes_of c.args.node.now).list (term_view c.in-Some.first.now) (term_view c.args.number.now) side.simple c.requires.right.simple
            (subst (λ (l : List PureAtom). SaysPositive l (term_view c.in-Some.first.now) (term_view c.args.number.now)) c.list.ensures (c.says_equal.ensures.0 c.if-says_equal.true))),
      ),
    )

pub unreachable-requires : goal.unreachable-requires
unreachable-requires c =
    true≢false (c.if-not-is_number.ensures ∙ first-none (classes_of c.args.node.now) c.requires.node.whole
    (forms_given (vars_of c.args.node.now) (list_of_node c.args.node.now) (classes_of c.args.node.now) c.requires.node) (clear_given (vars_of c.args.node.now) (list_of_node c.args.node.now) (classes_of c.args.node.now) c.requires.node)
    Wanted.Number (term_view c.args.variable.now) (sym c.in-None.ensures) (term_view c.args.number.now) c.requires.equated)

pub closed_by-requires : goal.closed_by-requires
closed_by-requires c =
    let vars = vars_of c.args.node.now in
    let list = list_of_node c.args.node.now in
    let classes = classes_of c.args.node.now in
    record {
      node = c.requires.node;
      equated = joined (turned (first_found vars list classes c.requires.node Wanted.Number (term_view c.args.variable.now) (term_view c.in-Some.first.now) (sym c.in-Some.ensures)).equated) c.requires.equated;
      ends = disequality_ends vars list classes c.requires.node c.in-Some-find_said.other (term_view c.in-Some.first.now) (term_view c.args.number.now) c.in-Some-find_said.ensures.found;
    }

pub returns-in_ok-joined-in-None-find_said : goal.returns-in_ok-joined-in-None-find_said
returns-in_ok-joined-in-None-find_said c =
    let vars = vars_of c.args.node.now in
    let list = list_of_node c.args.node.now in
    let classes = classes_of c.args.node.now in (
      subst (IsSplit vars) (sym c.in_ok-joined-in-None-find_said.ensures)
          (number_split vars list classes c.requires.node (term_view c.args.variable.now) (term_view c.args.number.now) (term_view c.in-Some.first.now) c.requires.left c.requires.right (sym c.in-Some.ensures) (sym c.if-not-is_number.ensures)),
      subst (IsUndecided list) (sym c.in_ok-joined-in-None-find_said.ensures) (record {
        not_true = λ i at. true≢false (sym (c.says_equal.ensures.1
            (subst (λ (l : List PureAtom). SaysPositive l (term_view c.in-Some.first.now) (term_view c.args.number.now)) (sym c.list.ensures)
            (positive_there classes.list (term_view c.in-Some.first.now) (term_view c.args.number.now) i (given_there vars list classes c.requires.node i _ at)))) ∙ c.if-says_equal.false);
        not_false = c.in-None-find_said.ensures.none;
      }),
    )
