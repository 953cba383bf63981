-- What a While program does, statement by statement, over its tree. The actions of records are those of the memory: `new` takes
-- the next symbol, and `lookup`, `mutate` and `dispose` take none. A failure has the byte at which its statement begins as its
-- place.
use Rattle.std.specs.Prelude.{ℕ, ◌+◌, List, [], ◌∷◌, map, Option, Some, None, codes}
use Rattle.gil_values.specs.declared.places.Place.{Place}
use Rattle.gil_values.specs.Pure.{PureValue, text, list, from_list}
use Rattle.gil_syntax.specs.Pure.{PureExpr, name}
use Rattle.gil_syntax.specs.Evaluation.{evaluate, evaluate_all}
use Rattle.mem_model.specs.Heaps.{Heap}
use Rattle.mem_model.specs.Actions.{Actions}
use Rattle.gil_machine.specs.State.{vanished, End}
use Rattle.source_language.specs.Calls as calls
use Rattle.source_language.specs.Calls.{call_found}
use Rattle.source_language.specs.Completions.{Situation, Completion, normal, returns, over, then_do, end_of, fails, sets, with_value, with_values, choose, after_action, draws_input, new_symbol, turns, value_test}
use Rattle.source_language.specs.Pure.{find_function}
use Rattle.while_lang.specs.Pure.{PureField, PureStatement, assign, input, symbol, new, lookup, call, mutate, dispose, assert, assume, if_else, while, return, fail, logic, PureBlock, no_statements, statement_and, PureFunction, PureSource}

abbrev pub field_names : List PureField → List PureValue
field_names fields = map (λ field. text field.name) fields

abbrev pub field_values : List PureField → List PureExpr
field_values fields = map (λ field. field.value) fields

abbrev pub Calls : Type 0
Calls = calls.Calls PureBlock

module _ (m : Actions) where
  -- the record's fields have their first values, one after the other
  abbrev pub fill : PureValue → List PureField → List PureValue → Place → Situation → (Situation → Completion) → Completion
  fill l (field ∷ fields) (v ∷ vs) here s go_on =
      after_action (m.act (codes "mutate") None (l ∷ text field.name ∷ v ∷ []) s.heap) here s (λ w t. fill l fields vs here t go_on)
  fill l _ _ here s go_on = go_on s

module _ (functions : List PureFunction) (m : Actions) (inputs : List PureValue) (loops : ℕ) (calls : Calls) where
  abbrev mutual
    -- what a statement comes to
    pub statement : PureStatement → Place → Situation → Completion
    statement (assign x e) here s = with_value (evaluate e s.store) here s (λ v. normal (sets x v s))
    statement (input x k) here s = draws_input inputs x k s
    statement (symbol x) here s = normal (new_symbol x s)
    statement (new x fields) here s =
        with_values (evaluate_all (field_values fields) s.store) here s
        (λ vs. after_action (m.act (codes "new") (Some s.counter) (list (from_list (field_names fields)) ∷ []) s.heap) here
        (record s { counter = s.counter + 1 })
        (λ l t. fill m l fields vs here t (λ u. normal (sets x l u))))
    statement (lookup x y p) here s =
        with_value (evaluate (name y) s.store) here s
        (λ l. after_action (m.act (codes "lookup") None (l ∷ text p ∷ []) s.heap) here s (λ v t. normal (sets x v t)))
    statement (call x f es) here s = with_values (evaluate_all es s.store) here s
        (λ args. call_found calls (find_function functions f) x args here s)
    statement (mutate y p e) here s =
        with_value (evaluate (name y) s.store) here s
        (λ l. with_value (evaluate e s.store) here s
        (λ v. after_action (m.act (codes "mutate") None (l ∷ text p ∷ v ∷ []) s.heap) here s (λ w t. normal t)))
    statement (dispose e) here s =
        with_value (evaluate e s.store) here s
        (λ l. after_action (m.act (codes "dispose") None (l ∷ []) s.heap) here s (λ w t. normal t))
    statement (assert e) here s =
        with_value (evaluate e s.store) here s (λ v. choose v here (λ t. normal t) (λ t. fails (text (codes "assert")) here t) s)
    statement (assume e) here s =
        with_value (evaluate e s.store) here s (λ v. choose v here (λ t. normal t) (λ t. over (end_of vanished t)) s)
    statement (if_else e on off) here s =
        with_value (evaluate e s.store) here s (λ v. choose v here (block here.proc on) (block here.proc off) s)
    statement (while e invariant body) here s = turns loops (value_test (λ t. evaluate e t.store) here) here (block here.proc body) s
    statement (return e) here s = with_value (evaluate e s.store) here s (λ v. returns v s)
    statement (fail e) here s = with_value (evaluate e s.store) here s (λ v. fails v here s)
    statement (logic c) here s = normal s

    -- what the statements of a block in the function f come to
    pub block : List ℕ → PureBlock → Situation → Completion
    block f no_statements s = normal s
    block f (statement_and at c rest) s = then_do (statement c (record { proc = f; at = at }) s) (block f rest)

-- The end of the program from the function f, where each loop tests its condition at most n times and calls nest at most n deep; where more is
-- needed there is none.
abbrev pub source_end : PureSource → Actions → List ℕ → List PureValue → Heap → ℕ → List PureValue → ℕ → Option End
source_end source m f args h counter inputs n = calls.source_end (block source.functions m inputs) source f args h counter n
