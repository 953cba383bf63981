-- An end of a program of the object language is its end with more turns too.
use Rattle.std.proofs.Common.{ℕ, ◌≤◌, List, [], ◌∷◌, refl}
use Rattle.std.specs.Prelude.{codes}
use Rattle.gil_values.specs.declared.places.Place.{Place}
use Rattle.gil_values.specs.Pure.{PureValue}
use Rattle.gil_syntax.specs.Evaluation.{value_of, set_or_fault}
use Rattle.mem_model.specs.Actions.{Actions}
use Rattle.source_language.specs.Completions.{Situation, Completion}
use Rattle.source_language.proofs.Longer.{Extends, extends_itself, value-extends, values-extend, choice-extends}
use Rattle.source_language.proofs.MoreTurns as calls
use Rattle.source_language.proofs.MoreTurns.{CallsExtend}
use Rattle.source_operators.specs.Operands.{read, read_all}
use Rattle.source_operators.proofs.Extending.{operand_extends, all_operands_extend}
use Rattle.source_statements.specs.Values.{Continuation, function_of}
use Rattle.source_statements.proofs.Longer.{MeaningsExtend, block-extends}
use Rattle.source_statements.proofs.Values.{function-extends}
use Rattle.object_operators.specs.Meaning.{meanings}
use Rattle.object_operators.specs.Pure.{PureExpression}
use Rattle.object_operators.specs.Walk.{get_place}
use Rattle.object_operators.proofs.Extending.{walk-extends, operators_extend}
use Rattle.object_lang.specs.Laws.{EndsStay}
use Rattle.object_lang.specs.Meaning.{PureBody, statements, reads_property, Procedures, Calls, with_operand, with_operands, acts, gets, goes_on, simple, object_meanings, reads, body, with_library}
use Rattle.object_lang.specs.Pure.{PureSimple, assign, input, create, proto, has, call, set, delete, set_proto, fail, throw}

module _ (m : Actions) (n k : ℕ) (le : n ≤ k) where
  with-extends : (e : PureExpression) (here : Place) (s : Situation) (go go' : Continuation) → ((v : PureValue) (t : Situation) → Extends (go v t) (go' v t))
      → Extends (with_operand m n e here s go) (with_operand m k e here s go')
  with-extends e here s go go' goes =
      operand_extends (meanings m n) (meanings m k) (operators_extend m n k le) e here s _ _
      (λ a t. value-extends (read a t.store) here t _ _ (λ v. goes v t))

  all-extend : (es : List PureExpression) (here : Place) (s : Situation) (go go' : List PureValue → Situation → Completion)
      → ((vs : List PureValue) (t : Situation) → Extends (go vs t) (go' vs t)) → Extends (with_operands m n es here s go) (with_operands m k es here s go')
  all-extend es here s go go' goes =
      all_operands_extend (meanings m n) (meanings m k) (operators_extend m n k le) es here s _ _
      (λ all t. values-extend (read_all all t.store) here t _ _ (λ vs. goes vs t))

  acts-extend : (action : List ℕ) (es : List PureExpression) (here : Place) (s : Situation) (go : Continuation)
      → Extends (acts m n action es here s go) (acts m k action es here s go)
  acts-extend action es here s go = all-extend es here s _ _ (λ vs t. extends_itself _)

  reads-extends : (s : Situation) → Extends (reads m n s) (reads m k s)
  reads-extends s =
      value-extends (set_or_fault (value_of s.store (codes "o"))) get_place s _ _
      (λ o. value-extends (set_or_fault (value_of s.store (codes "p"))) get_place s _ _ (λ p. walk-extends m n k le o p s))

  module _ (functions : Procedures) (inputs : List PureValue) (calls deeper : Calls) (more : CallsExtend calls deeper) where
    simple-extends : (c : PureSimple) (here : Place) (s : Situation)
        → Extends (simple functions m inputs n calls c here s) (simple functions m inputs k deeper c here s)
    simple-extends (assign x e) here s = with-extends e here s _ _ (λ v t. refl)
    simple-extends (input x sort) here s = extends_itself _
    simple-extends (create x e) here s = all-extend (e ∷ []) here s _ _ (λ vs t. extends_itself _)
    simple-extends (proto x e) here s = acts-extend (codes "getproto") (e ∷ []) here s (gets x)
    simple-extends (has x a b) here s = acts-extend (codes "has") (a ∷ b ∷ []) here s (gets x)
    simple-extends (call x f es) here s =
        operand_extends (meanings m n) (meanings m k) (operators_extend m n k le) f here s _ _
        (λ a t. all_operands_extend (meanings m n) (meanings m k) (operators_extend m n k le) es here t _ _
        (λ all u. value-extends (read a u.store) here u _ _
        (λ callee. values-extend (read_all all u.store) here u _ _
        (λ args. function-extends calls deeper more (gets x) (gets x) (λ v w. refl) (function_of functions callee) args here u))))
    simple-extends (set a b c) here s = acts-extend (codes "set") (a ∷ b ∷ c ∷ []) here s goes_on
    simple-extends (delete a b) here s = acts-extend (codes "delete") (a ∷ b ∷ []) here s goes_on
    simple-extends (set_proto a b) here s = acts-extend (codes "setproto") (a ∷ b ∷ []) here s goes_on
    simple-extends (fail e) here s = with-extends e here s _ _ (λ v t. refl)
    simple-extends (throw e) here s = with-extends e here s _ _ (λ v t. refl)

    meanings-extend : MeaningsExtend (object_meanings functions m inputs n calls) (object_meanings functions m inputs k deeper)
    meanings-extend = record {
      test = λ e here s on on' off off' holds fails.
          with-extends e here s _ _ (λ v t. choice-extends v here on off on' off' t (holds t) (fails t));
      value = with-extends;
      simple = simple-extends;
    }

    body-extends : (f : List ℕ) (b : PureBody) (s : Situation) → Extends (body functions m inputs n calls f b s) (body functions m inputs k deeper f b s)
    body-extends f (statements b) s =
        block-extends (object_meanings functions m inputs n calls) (object_meanings functions m inputs k deeper) meanings-extend n k le f b s
    body-extends f reads_property s = reads-extends s

pub ends_stay : EndsStay
ends_stay source m f args h counter inputs n k e le is =
    calls.ends_stay (body (with_library source).functions m inputs)
    (λ n k le calls deeper more f b s. body-extends m n k le (with_library source).functions inputs calls deeper more f b s)
    (with_library source) f args h counter n k e le is
