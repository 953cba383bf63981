-- The values that are told are those with which the run begins that is entered with the terms' values.
use Rattle.std.proofs.Common.{◌≡◌, ℕ, List, [], ◌∷◌, ◌++◌, Option, Some, None, refl, sym, ap, ◌∙◌}
use Rattle.std.specs.Option.{option_and_then}
use Rattle.gil_values.specs.Pure.{PureValue}
use Rattle.gil_syntax.specs.declared.assertions.Param.{Param}
use Rattle.gil_syntax.specs.Evaluation.{value_of}
use Rattle.gil_syntax.specs.Pure.{PureSpec}
use Rattle.gil_syntax.specs.Valid.{param_names}
use Rattle.checked_runs.specs.Checked.{Entry}
use Rattle.gil_report.specs.Pure.{PureBinding}
use Rattle.pure_terms.specs.Meaning.{both, value, values}
use Rattle.pure_terms.specs.Pure.{PureTerm, from_list}
use Rattle.sym_evaluation.specs.Meaning.{AreSame}
use Rattle.sym_evaluation.specs.Pure.{term_at}
use Rattle.checked_paths.specs.Meaning.{IsEntered}
use Rattle.checked_paths.specs.Pure.{PureEntry}
use Rattle.report_causes.specs.Causes.{binding_of, bindings_in_turn, bindings_by, shown_values}
use Rattle.report_causes.specs.Names.{own_variables}
use Rattle.report_causes.specs.Telling.{value_at, told_arguments, told_values}

-- ---- arguments

-- the first value and the others, where all are defined
record AreParts (one : Option PureValue) (others : Option (List PureValue)) (ws : List PureValue) : Type 0 where
  pub first : PureValue
  pub rest : List PureValue
  pub first_is : one ≡ Some first
  pub rest_is : others ≡ Some rest
  pub whole : ws ≡ first ∷ rest

parts_of : (one : Option PureValue) (others : Option (List PureValue)) (ws : List PureValue) → both one others ≡ Some ws → AreParts one others ws
parts_of (Some w) (Some us) ws is = record { first = w; rest = us; first_is = refl; rest_is = refl; whole = cc }
parts_of (Some w) None ws is = absurd (let no : ⊥ = cc in no)
parts_of None others ws is = absurd (let no : ⊥ = cc in no)

none_in_turn : (ws : List PureValue) → bindings_in_turn [] ws ≡ []
none_in_turn [] = refl
none_in_turn (w ∷ ws) = refl

arguments_told : (v : List PureValue) (xs : List (List ℕ)) (ts : List PureTerm) (ws : List PureValue) → values v (from_list ts) ≡ Some ws → told_arguments v xs ts ≡ bindings_in_turn xs ws
arguments_told v xs [] ws is = let none : [] ≡ ws = cc in ap (bindings_in_turn xs) none
arguments_told v [] (t ∷ ts) ws is = sym (none_in_turn ws)
arguments_told v (x ∷ xs) (t ∷ ts) ws is =
    let parts : AreParts (value v t) (values v (from_list ts)) ws = parts_of (value v t) (values v (from_list ts)) ws is in
    let here : PureBinding = record { name = x; value = parts.first } in
    ap (λ o. binding_of x o ++ told_arguments v xs ts) parts.first_is
    ∙ ap (λ bs. here ∷ bs) (arguments_told v xs ts parts.rest parts.rest_is)
    ∙ ap (bindings_in_turn (x ∷ xs)) (sym parts.whole)

-- ---- variables

by_same : (f g : List ℕ → Option PureValue) → ((x : List ℕ) → f x ≡ g x) → (qs : List Param) → bindings_by f qs ≡ bindings_by g qs
by_same f g same [] = refl
by_same f g same (q ∷ qs) = ap (λ o. binding_of q.name o ++ bindings_by f qs) (same q.name) ∙ ap (λ bs. binding_of q.name (g q.name) ++ bs) (by_same f g same qs)

same_value : (v : List PureValue) (o : Option PureTerm) (found : Option PureValue) → AreSame v o found → option_and_then (value v) o ≡ found
same_value v (Some t) (Some w) same = same
same_value v None None same = refl
same_value v (Some t) None same = absurd same
same_value v None (Some w) same = absurd same

-- ---- both

pub values_told : (v : List PureValue) (s : PureSpec) (e : PureEntry) (entry : Entry) → IsEntered v e entry → told_values v s e ≡ shown_values s entry
values_told v s e entry entered =
    ap (λ bs. bs ++ bindings_by (value_at v e.variables) (own_variables s)) (arguments_told v (param_names s.params) e.args entry.args entered.args)
    ∙ ap (λ bs. bindings_in_turn (param_names s.params) entry.args ++ bs)
    (by_same (value_at v e.variables) (value_of entry.variables) (λ x. same_value v (term_at e.variables x) (value_of entry.variables x) (entered.variables x)) (own_variables s))
