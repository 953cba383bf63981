-- Terms, atoms and proofs with names for their variables. A name is that at the variable's place of the list, and `v` and its number where
-- the list has none. A variable whose name begins with `#` is a logical one.
use Rattle.std.specs.Prelude.{ℕ, List, if◌then◌else◌}
use Rattle.gil_syntax.specs.Pure.{PureExpr, PureExprs, no_exprs, expr_and}
use Rattle.gil_syntax.specs.Pure as expr
use Rattle.gil_syntax.specs.WellMade.{has_hash}
use Rattle.gil_values.specs.declared.operators.UnOp.TheVariants.{Not}
use Rattle.pure_terms.specs.Meaning.{literal_value}
use Rattle.pure_terms.specs.Pure.{PureTerm, literal, variable, list_of, unary_of, binary_of, PureTerms, no_terms, term_and, PureAtom, positive, negative, opening}
use Rattle.solver_print.specs.Terms.{name_of}
use Rattle.solver_proof.specs.Pure.{PureProof, sum_of, false_at, chain, cases_of, values_at, parts_apart, parts_at, differ_at, split_on, meet_at}
use Rattle.solver_proof.specs.Pure.{PureProofs, no_proofs, proof_and}
use Rattle.gil_report.specs.Pure as report
use Rattle.gil_report.specs.Pure.{PureCondition, PureNamedProof, PureNamedProofs, holds, has_value}

-- the variable with this name
abbrev pub named : List ℕ → PureExpr
named x = if has_hash x then expr.logical x else expr.name x

-- the expression that a term is, with these names for the variables 0, 1, 2 and so on
abbrev mutual
  pub expression_of : List (List ℕ) → PureTerm → PureExpr
  expression_of names (literal l) = expr.literal (literal_value l)
  expression_of names (variable x) = named (name_of names x.number)
  expression_of names (list_of ts) = expr.list_of (expressions_of names ts)
  expression_of names (unary_of op t) = expr.unary_of op (expression_of names t)
  expression_of names (binary_of op s t) = expr.binary_of op (expression_of names s) (expression_of names t)

  pub expressions_of : List (List ℕ) → PureTerms → PureExprs
  expressions_of names no_terms = no_exprs
  expressions_of names (term_and t ts) = expr_and (expression_of names t) (expressions_of names ts)

-- that a term is false is said as that its `not` is true
abbrev pub condition_of : List (List ℕ) → PureAtom → PureCondition
condition_of names (positive t) = holds (expression_of names t)
condition_of names (negative t) = holds (expr.unary_of Not (expression_of names t))
condition_of names (opening t) = has_value (expression_of names t)

abbrev mutual
  pub proof_of : List (List ℕ) → PureProof → PureNamedProof
  proof_of names (sum_of fs) = report.sum_of fs
  proof_of names (false_at i) = report.false_at i
  proof_of names (chain is end) = report.chain is end
  proof_of names (cases_of t ps) = report.cases_of (expression_of names t) (proofs_of names ps)
  proof_of names (values_at i ps) = report.values_at i (proofs_of names ps)
  proof_of names (parts_apart i) = report.parts_apart i
  proof_of names (parts_at i p) = report.parts_at i (proof_of names p)
  proof_of names (differ_at i ps) = report.differ_at i (proofs_of names ps)
  proof_of names (split_on t p q) = report.split_on (expression_of names t) (proof_of names p) (proof_of names q)
  proof_of names (meet_at i j k) = report.meet_at i j k

  pub proofs_of : List (List ℕ) → PureProofs → PureNamedProofs
  proofs_of names no_proofs = report.no_proofs
  proofs_of names (proof_and p ps) = report.proof_and (proof_of names p) (proofs_of names ps)
