-- Evaluation in 128 bits is evaluation by the table, but for results that leave them.
use Rattle.std.proofs.Common.{◌≡◌, Bool, true, false, cond, Option, Some, None, Result, Ok, Err, refl, sym, ap, subst, ◌∙◌}
use Rattle.std.proofs.lemmas.Option.{same_Some}
use Rattle.gil_values.specs.Pure.{PureValue}
use Rattle.gil_values.specs.Operators.{Fault, Outcome, unary, binary}
use Rattle.gil_syntax.specs.Pure.{PureExpr, literal, name, logical, list_of, unary_of, binary_of, PureExprs, no_exprs, expr_and}
use Rattle.gil_syntax.specs.Evaluation.{Store, value_of, set_or_fault, after_value, Outcomes, both, as_list, evaluate, evaluate_elements}
use Rattle.gil_machine.specs.Held.{HeldFault, of_table, too_wide, HeldOutcome, HeldOutcomes, is_held, held, held_or_unset, after_held, both_held, as_held_list, evaluate_held, evaluate_held_elements}
use Rattle.gil_machine.specs.Laws.{as_table, HeldValuesAreValues}

-- the second is what the first says, unless the first is too wide
abbrev pub Tells : {X : Type 0} → Result X HeldFault → Result X Fault → Type 0
Tells (Ok x) r = r ≡ Ok x
Tells (Err (of_table fault)) r = r ≡ Err fault
Tells (Err too_wide) r = Unit {0}

held-tells_by : (b : Bool) (v : PureValue) → Tells (cond b (Ok v) (Err too_wide)) (Ok v)
held-tells_by true v = refl
held-tells_by false v = tt

held-tells : (o : Outcome) → Tells (held o) o
held-tells (Ok v) = held-tells_by (is_held v) v
held-tells (Err fault) = refl

unset-tells : (o : Option PureValue) → Tells (held_or_unset o) (set_or_fault o)
unset-tells (Some v) = refl
unset-tells None = refl

after-tells : (h : HeldOutcome) (o : Outcome) (f : PureValue → HeldOutcome) (g : PureValue → Outcome)
    → Tells h o → ((v : PureValue) → Tells (f v) (g v)) → Tells (after_held h f) (after_value o g)
after-tells (Ok v) o f g told k = subst (λ r. Tells (f v) (after_value r g)) (sym told) (k v)
after-tells (Err (of_table fault)) o f g told k = ap (λ r. after_value r g) told
after-tells (Err too_wide) o f g told k = tt

both-tells : (h : HeldOutcome) (o : Outcome) (hs : HeldOutcomes) (os : Outcomes) → Tells h o → Tells hs os → Tells (both_held h hs) (both o os)
both-tells (Ok v) o (Ok vs) os told tolds = rw (told, tolds) refl
both-tells (Ok v) o (Err (of_table fault)) os told tolds = rw (told, tolds) refl
both-tells (Ok v) o (Err too_wide) os told tolds = tt
both-tells (Err (of_table fault)) o hs os told tolds = rw told refl
both-tells (Err too_wide) o hs os told tolds = tt

list-tells : (hs : HeldOutcomes) (os : Outcomes) → Tells hs os → Tells (as_held_list hs) (as_list os)
list-tells (Ok vs) os told = ap as_list told
list-tells (Err (of_table fault)) os told = ap as_list told
list-tells (Err too_wide) os told = tt

mutual
  pub evaluate-tells : (e : PureExpr) (s : Store) → Tells (evaluate_held e s) (evaluate e s)
  evaluate-tells (literal v) s = refl
  evaluate-tells (name x) s = unset-tells (value_of s x)
  evaluate-tells (logical x) s = unset-tells (value_of s x)
  evaluate-tells (list_of es) s = list-tells (evaluate_held_elements es s) (evaluate_elements es s) (elements-tell es s)
  evaluate-tells (unary_of op e) s = after-tells (evaluate_held e s) (evaluate e s) _ _ (evaluate-tells e s) (λ v. held-tells (unary op v))
  evaluate-tells (binary_of op d e) s =
      after-tells (evaluate_held d s) (evaluate d s) _ _ (evaluate-tells d s)
      (λ v. after-tells (evaluate_held e s) (evaluate e s) _ _ (evaluate-tells e s) (λ w. held-tells (binary op v w)))

  pub elements-tell : (es : PureExprs) (s : Store) → Tells (evaluate_held_elements es s) (evaluate_elements es s)
  elements-tell no_exprs s = refl
  elements-tell (expr_and e es) s = both-tells (evaluate_held e s) (evaluate e s) (evaluate_held_elements es s) (evaluate_elements es s) (evaluate-tells e s) (elements-tell es s)

table_tells : (h : HeldOutcome) (o r : Outcome) → Tells h o → as_table h ≡ Some r → o ≡ r
table_tells (Ok v) o r told is = told ∙ same_Some _ _ is
table_tells (Err (of_table fault)) o r told is = told ∙ same_Some _ _ is
table_tells (Err too_wide) o r told is = absurd (cc)

pub held_values_are_values : HeldValuesAreValues
held_values_are_values e s r is = table_tells (evaluate_held e s) (evaluate e s) r (evaluate-tells e s) is
