use Rattle.std.proofs.Common.{◌≡◌, inl, inr, List, true, false, refl, sym, ◌∙◌, subst, ℤ}
use Rattle.std.proofs.lemmas.Bool.{false≢true, and_parts, or_cases}
use Rattle.gil_values.specs.declared.operators.BinOp.{BinOp}
use Rattle.pure_terms.specs.declared.literals.Literal.{Literal}
use Rattle.pure_terms.specs.declared.variables.Sort.{Sort}
use Rattle.pure_terms.specs.declared.variables.Var.{Var}
use Rattle.pure_terms.specs.Fragment.{is_integer_side, is_comparison, has_form}
use Rattle.pure_terms.specs.Pure.{PureTerm, literal, variable, positive}
use Rattle.solver_proof.specs.Closing.{at_most}
use Rattle.solver_rules.specs.Nodes.{vars_of, list_of_node}
use Rattle.solver_rules.specs.Rules.{IsUndecided}
use Rattle.solver_rules.specs.Steps.{IsPlainAtom, IsSplit}
use Rattle.solver_next.proofs.choosing.split_at.Goals as goal

compared : (x : Var) (n : ℤ) → has_form (at_most (variable x) (literal (Literal.Int n))) ≡ true → is_comparison (at_most (variable x) (literal (Literal.Int n))) ≡ true
compared x n h = elim (or_cases (is_comparison (at_most (variable x) (literal (Literal.Int n)))) false h) [ inl is ↦ is | inr never ↦ absurd (false≢true never) ]

bound_split : (vars : List Sort) (x : Var) (n : ℤ) → IsPlainAtom vars (positive (at_most (variable x) (literal (Literal.Int n)))) → IsSplit vars (at_most (variable x) (literal (Literal.Int n)))
bound_split vars x n plain =
    let is = compared x n (and_parts (has_form (at_most (variable x) (literal (Literal.Int n)))) _ plain.form).0 in
    let sides = and_parts (is_integer_side (variable x)) (is_integer_side (literal (Literal.Int n))) is in
    record {
      may = is;
      true_there = plain;
      basic = inr (record { op = BinOp.LessOrEqual; left = variable x; right = literal (Literal.Int n); is = refl; form = inr refl; whole_left = sides.0; whole_right = sides.1 });
    }

pub returns-then-is_plain : goal.returns-then-is_plain
returns-then-is_plain c =
    let is = c.in_ok-bound.ensures in
    let plain = subst (λ (t : PureTerm). IsPlainAtom (vars_of c.args.node.now) (positive t)) (c.in_ok-copy.ensures ∙ is) (c.if-is_plain.ensures.0 refl) in (
      subst (IsSplit (vars_of c.args.node.now)) (sym is) (bound_split (vars_of c.args.node.now) c.args.variable _ plain),
      subst (IsUndecided (list_of_node c.args.node.now)) (sym is) (c.if-not-is_bound_undecided.ensures refl),
    )
