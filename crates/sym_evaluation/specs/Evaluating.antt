-- The cases of an expression after what came before it, as the code finds them.
use Rattle.std.specs.Prelude.{List, [], ◌∷◌, ◌++◌, Option, Some, None}
use Rattle.gil_values.specs.Operators.{Fault, unset_variable}
use Rattle.gil_values.specs.Pure.{PureValue, integer, boolean, text, kind, procedure}
use Rattle.gil_syntax.specs.Pure.{PureExpr, literal as value_literal, name, logical, list_of as list_expr, unary_of as unary_expr, binary_of as binary_expr, PureExprs, no_exprs, expr_and}
use Rattle.pure_terms.specs.declared.literals.Literal.{Literal}
use Rattle.pure_terms.specs.Folding.{folded_unary, folded_binary}
use Rattle.pure_terms.specs.Pure.{PureTerm, literal, list_of, from_list, PureAtom}
use Rattle.sym_evaluation.specs.Checks.{PureStage, unary_required, binary_required}
use Rattle.sym_evaluation.specs.Pure.{PureStore, term_at, PureFaultCase, PureGoodCase, PureCases}

-- the literal that is the value, where a text may spell it
abbrev pub spelled : PureValue → Option Literal
spelled (integer n) = Some (Literal.Int n)
spelled (boolean b) = Some (Literal.Bool b)
spelled (text cs) = Some (Literal.Str cs)
spelled (kind k) = Some (Literal.Kind k)
spelled (procedure p) = Some (Literal.Proc p)
spelled _ = None

abbrev pub literal_term : Option Literal → Option PureTerm
literal_term (Some l) = Some (literal l)
literal_term None = None

abbrev pub result_given : {X : Type 0} → List PureFaultCase → List PureAtom → X → PureCases X
result_given faults conds x = record { faults = faults; good = Some (record { conds = conds; result = x }) }

abbrev pub sure_fault : {X : Type 0} → List PureFaultCase → List PureAtom → Fault → PureCases X
sure_fault faults conds f = record { faults = faults ++ record { conds = conds; fault = f } ∷ []; good = None }

abbrev pub given_or : {X : Type 0} → Fault → List PureFaultCase → List PureAtom → Option X → PureCases X
given_or f faults conds (Some x) = result_given faults conds x
given_or f faults conds None = sure_fault faults conds f

abbrev pub finished_by : {X : Type 0} → List PureFaultCase → Option (List PureAtom) → X → PureCases X
finished_by faults (Some conds) x = result_given faults conds x
finished_by faults None x = record { faults = faults; good = None }

-- the result at a stage
abbrev pub finished : {X : Type 0} → PureStage → X → PureCases X
finished st x = finished_by st.faults st.conds x

abbrev pub followed_by : {X Y : Type 0} → List PureFaultCase → Option (PureGoodCase X)
    → (List PureFaultCase → List PureAtom → X → PureCases Y) → PureCases Y
followed_by faults None go_on = record { faults = faults; good = None }
followed_by faults (Some g) go_on = go_on faults g.conds g.result

-- what goes on with the result, where there is one
abbrev pub followed : {X Y : Type 0} → PureCases X → (List PureFaultCase → List PureAtom → X → PureCases Y) → PureCases Y
followed cases go_on = followed_by cases.faults cases.good go_on

abbrev pub at_stage : List PureFaultCase → List PureAtom → PureStage
at_stage faults conds = record { faults = faults; conds = Some conds }

abbrev mutual
  pub cases_after : PureStore → List PureFaultCase → List PureAtom → PureExpr → PureCases PureTerm
  cases_after bs fs cs (value_literal v) = given_or unset_variable fs cs (literal_term (spelled v))
  cases_after bs fs cs (name x) = given_or unset_variable fs cs (term_at bs x)
  cases_after bs fs cs (logical x) = given_or unset_variable fs cs (term_at bs x)
  cases_after bs fs cs (list_expr es) = followed (all_cases_after bs fs cs es) (λ gs ds ts. result_given gs ds (list_of (from_list ts)))
  cases_after bs fs cs (unary_expr op e) =
      followed (cases_after bs fs cs e) (λ gs ds t. finished (unary_required op t (at_stage gs ds)) (folded_unary op t))
  cases_after bs fs cs (binary_expr op d e) =
      followed (cases_after bs fs cs d) (λ gs ds s.
      followed (cases_after bs gs ds e) (λ hs es t. finished (binary_required op s t (at_stage hs es)) (folded_binary op s t)))

  pub all_cases_after : PureStore → List PureFaultCase → List PureAtom → PureExprs → PureCases (List PureTerm)
  all_cases_after bs fs cs no_exprs = result_given fs cs []
  all_cases_after bs fs cs (expr_and e es) =
      followed (cases_after bs fs cs e) (λ gs ds t.
      followed (all_cases_after bs gs ds es) (λ hs cs' ts. result_given hs cs' (t ∷ ts)))
