use Rattle.std.proofs.Common.{◌≡◌, ℤ, pos, List, length, Ok, sym, ap, ◌∙◌}
use Rattle.gil_values.specs.declared.operators.UnOp.TheVariants.{Len}
use Rattle.gil_values.specs.Operators.{Outcome, unary}
use Rattle.gil_values.specs.Pure.{PureValue, integer, list, from_list, to_list-from_list}
use Rattle.gil_values.proofs.laws.len_counts.Goals as goal

-- the number of elements, as the table has it
counted : (vs : List PureValue) → unary Len (list (from_list vs)) ≡ Ok (integer (pos (length vs)))
counted vs = ap (λ xs. Ok (integer (pos (length xs)))) (to_list-from_list vs)

same_number : (m n : ℤ) → ◌≡◌ {A = Outcome} (Ok (integer m)) (Ok (integer n)) → n ≡ m
same_number m n e = cc

pub returns-clause-elements : goal.returns-clause-elements
returns-clause-elements c = λ vs n.
    ((λ e. same_number (pos (length vs)) n (sym (counted vs) ∙ e)), (λ e. counted vs ∙ ap (λ r. Ok (integer r)) (sym e)))
