-- An end of a C-like program is its end with more turns too.
use Rattle.std.proofs.Common.{List, Bool, true, false, cond}
use Rattle.gil_values.specs.declared.places.Place.{Place}
use Rattle.gil_values.specs.Pure.{PureValue}
use Rattle.mem_model.specs.Actions.{Actions}
use Rattle.source_language.specs.Completions.{Situation, Completion}
use Rattle.source_language.specs.Pure.{find_function}
use Rattle.source_language.proofs.Longer.{Extends, extends_itself, value-extends, values-extend}
use Rattle.source_language.proofs.MoreTurns as calls
use Rattle.source_language.proofs.MoreTurns.{CallsExtend}
use Rattle.source_operators.specs.Operands.{read, read_all}
use Rattle.source_operators.proofs.Extending.{operand_extends, all_operands_extend}
use Rattle.source_statements.specs.Values.{Continuation}
use Rattle.source_statements.proofs.Longer.{MeaningsExtend, block-extends}
use Rattle.source_statements.proofs.Values.{function-extends}
use Rattle.clike_operators.specs.Meaning.{meanings}
use Rattle.clike_operators.specs.Pure.{PureExpression}
use Rattle.clike_operators.specs.Ranges.{is_false}
use Rattle.clike_operators.proofs.Extending.{operators_extend}
use Rattle.clike_lang.specs.Laws.{EndsStay}
use Rattle.clike_lang.specs.Meaning.{Calls, with_operand, simple, clike_meanings, body}
use Rattle.clike_lang.specs.Pure.{PureSimple, assign, input, malloc, call, free, store, PureFunction}

module _ (m : Actions) where
  with-extends : (e : PureExpression) (here : Place) (s : Situation) (go go' : Continuation) → ((v : PureValue) (t : Situation) → Extends (go v t) (go' v t))
      → Extends (with_operand m e here s go) (with_operand m e here s go')
  with-extends e here s go go' k =
      operand_extends (meanings m) (meanings m) (operators_extend m) e here s _ _
      (λ a t. value-extends (read a t.store) here t _ _ (λ v. k v t))

  choice-extends : (b : Bool) (on_false on_true on_false' on_true' : Completion) → Extends on_false on_false' → Extends on_true on_true'
      → Extends (cond b on_false on_true) (cond b on_false' on_true')
  choice-extends true on_false on_true on_false' on_true' h k = h
  choice-extends false on_false on_true on_false' on_true' h k = k

  module _ (functions : List PureFunction) (inputs : List PureValue) (calls deeper : Calls) (more : CallsExtend calls deeper) where
    simple-extends : (c : PureSimple) (here : Place) (s : Situation) → Extends (simple functions m inputs calls c here s) (simple functions m inputs deeper c here s)
    simple-extends (assign x e) here s = extends_itself _
    simple-extends (input x) here s = extends_itself _
    simple-extends (malloc x e) here s = extends_itself _
    simple-extends (call x f es) here s =
        all_operands_extend (meanings m) (meanings m) (operators_extend m) es here s _ _
        (λ all t. values-extend (read_all all t.store) here t _ _
        (λ args. function-extends calls deeper more _ _ (λ v u. extends_itself _) (find_function functions f) args here t))
    simple-extends (free e) here s = extends_itself _
    simple-extends (store a b c) here s = extends_itself _

    meanings-extend : MeaningsExtend (clike_meanings functions m inputs calls) (clike_meanings functions m inputs deeper)
    meanings-extend = record {
      test = λ e here s on on' off off' h k.
          operand_extends (meanings m) (meanings m) (operators_extend m) e here s _ _
          (λ a t. value-extends (read a t.store) here t _ _
          (λ v. choice-extends (is_false v) (off t) (on t) (off' t) (on' t) (k t) (h t)));
      value = with-extends;
      simple = simple-extends;
    }

pub ends_stay : EndsStay
ends_stay source m f args h counter inputs n k e le is =
    calls.ends_stay (body source.functions m inputs)
    (λ n k le calls deeper more f b s. block-extends (clike_meanings source.functions m inputs calls) (clike_meanings source.functions m inputs deeper)
    (meanings-extend m source.functions inputs calls deeper more) n k le f b s)
    source f args h counter n k e le is
