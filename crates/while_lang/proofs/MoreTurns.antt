-- An end of a While program is its end with more turns too.
use Rattle.std.proofs.Common.{ℕ, ◌≤◌, List, refl}
use Rattle.gil_values.specs.declared.places.Place.{Place}
use Rattle.gil_values.specs.Pure.{PureValue}
use Rattle.gil_syntax.specs.Evaluation.{evaluate, evaluate_all}
use Rattle.mem_model.specs.Actions.{Actions}
use Rattle.source_language.specs.Completions.{Situation}
use Rattle.source_language.specs.Pure.{find_function}
use Rattle.source_language.proofs.Longer.{Extends, extends_itself, then-extends, value-extends, values-extend, choice-extends, value_test-extends, turns-extend}
use Rattle.source_language.proofs.MoreTurns as calls
use Rattle.source_language.proofs.MoreTurns.{CallsExtend, call-extends}
use Rattle.while_lang.specs.Laws.{EndsStay}
use Rattle.while_lang.specs.Pure.{PureStatement, assign, input, symbol, new, lookup, call, mutate, dispose, assert, assume, if_else, while, return, fail, logic, PureBlock, no_statements, statement_and, PureFunction}
use Rattle.while_lang.specs.Meaning.{Calls, statement, block}

module _ (functions : List PureFunction) (m : Actions) (inputs : List PureValue) where
  module _ (n k : ℕ) (le : n ≤ k) (calls deeper : Calls)
      (more : CallsExtend calls deeper) where
    mutual
      statement-extends : (c : PureStatement) (here : Place) (s : Situation)
          → Extends (statement functions m inputs n calls c here s) (statement functions m inputs k deeper c here s)
      statement-extends (assign x e) here s = extends_itself _
      statement-extends (input x drawn) here s = extends_itself _
      statement-extends (symbol x) here s = refl
      statement-extends (new x fields) here s = extends_itself _
      statement-extends (lookup x y p) here s = extends_itself _
      statement-extends (call x f es) here s =
          values-extend (evaluate_all es s.store) here s _ _
          (λ args. call-extends calls deeper more (find_function functions f) x args here s)
      statement-extends (mutate y p e) here s = extends_itself _
      statement-extends (dispose e) here s = extends_itself _
      statement-extends (assert e) here s = extends_itself _
      statement-extends (assume e) here s = extends_itself _
      statement-extends (if_else e body other) here s =
          value-extends (evaluate e s.store) here s _ _
          (λ v. choice-extends v here _ _ _ _ s (block-extends here.proc body s) (block-extends here.proc other s))
      statement-extends (while e invariant body) here s =
          turns-extend _ _ here _ _ (value_test-extends (λ t. evaluate e t.store) here) (λ t. block-extends here.proc body t) n k le s
      statement-extends (return e) here s = extends_itself _
      statement-extends (fail e) here s = extends_itself _
      statement-extends (logic c) here s = refl

      pub block-extends : (f : List ℕ) (b : PureBlock) (s : Situation)
          → Extends (block functions m inputs n calls f b s) (block functions m inputs k deeper f b s)
      block-extends f no_statements s = refl
      block-extends f (statement_and at c rest) s =
          then-extends _ _ _ _ (statement-extends c (record { proc = f; at = at }) s) (λ t. block-extends f rest t)

pub ends_stay : EndsStay
ends_stay source m f args h counter inputs n k e le is =
    calls.ends_stay (block source.functions m inputs) (block-extends source.functions m inputs) source f args h counter n k e le is
