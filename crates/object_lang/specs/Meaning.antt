-- What a program of the object language does, statement by statement, over its tree in which names of functions are procedures. Expressions
-- are done from left to right into operands; an operand that is a variable is read when something is done with it. The actions of objects
-- are those of the memory: `new` takes the next symbol, and the others take none.
use Rattle.std.specs.Prelude.{ℕ, ◌+◌, List, [], ◌∷◌, ◌++◌, map, Option, Some, None, codes}
use Rattle.gil_values.specs.declared.places.Place.{Place}
use Rattle.gil_values.specs.Pure.{PureValue}
use Rattle.gil_syntax.specs.Evaluation.{value_of, set_or_fault}
use Rattle.mem_model.specs.Actions.{Actions}
use Rattle.mem_model.specs.Heaps.{Heap}
use Rattle.gil_machine.specs.State.{End}
use Rattle.source_language.specs.Calls as calls
use Rattle.source_language.specs.Completions.{Situation, Completion, normal, throws, fails, sets, with_value, with_values, choose, after_action}
use Rattle.source_language.specs.Pure as trees
use Rattle.source_operators.specs.Operands.{read, read_all, operand, all_operands}
use Rattle.source_statements.specs.Meaning as blocks
use Rattle.source_statements.specs.Meaning.{Meanings}
use Rattle.source_statements.specs.Values.{Continuation, draws_value, call_value}
use Rattle.object_operators.specs.Meaning.{meanings}
use Rattle.object_operators.specs.Pure.{PureExpression}
use Rattle.object_operators.specs.Walk.{get_name, get_place, walk}
use Rattle.object_lang.specs.Pure.{PureSimple, assign, input, create, proto, has, call, set, delete, set_proto, fail, throw, PureBlock, PureFunction, PureSource}
use Rattle.object_lang.specs.Resolved.{resolved}

-- what a function does: its statements, or the reading of the property p of the object o, which are its parameters
pub data PureBody : Type 0 where
  statements : PureBlock → PureBody
  reads_property : PureBody

abbrev pub Procedures : Type 0
Procedures = List (trees.PureFunction PureBody)

abbrev pub Calls : Type 0
Calls = calls.Calls PureBody

module _ (m : Actions) (loops : ℕ) where
  -- what is done with the value of an expression, and with those of several
  abbrev pub with_operand : PureExpression → Place → Situation → Continuation → Completion
  with_operand e here s go = operand (meanings m loops) e here s (λ a t. with_value (read a t.store) here t (λ v. go v t))

  abbrev pub with_operands : List PureExpression → Place → Situation → (List PureValue → Situation → Completion) → Completion
  with_operands es here s go =
      all_operands (meanings m loops) es here s (λ all t. with_values (read_all all t.store) here t (λ vs. go vs t))

  -- an action of the memory
  abbrev pub acts : List ℕ → List PureExpression → Place → Situation → Continuation → Completion
  acts action es here s go = with_operands es here s (λ vs t. after_action (m.act action None vs t.heap) here t go)

  -- an object whose prototype is the value of an expression
  abbrev pub creates : PureExpression → Place → Situation → Continuation → Completion
  creates e here s go =
      with_operands (e ∷ []) here s
      (λ vs t. after_action (m.act (codes "new") (Some t.counter) vs t.heap) here (record t { counter = t.counter + 1 }) go)

-- a variable gets the value, and the value is forgotten
abbrev pub gets : List ℕ → Continuation
gets x v s = normal (sets x v s)

abbrev pub goes_on : Continuation
goes_on v s = normal s

module _ (functions : Procedures) (m : Actions) (inputs : List PureValue) (loops : ℕ) (calls : Calls) where
  -- a call of the value of an expression; the arguments are done before it is read
  abbrev pub calls_value : PureExpression → List PureExpression → Place → Situation → Continuation → Completion
  calls_value f es here s go =
      operand (meanings m loops) f here s
      (λ a t. all_operands (meanings m loops) es here t
      (λ all u. with_value (read a u.store) here u
      (λ callee. with_values (read_all all u.store) here u (λ args. call_value functions calls callee args here u go))))

  -- what a statement without statements in it comes to
  abbrev pub simple : PureSimple → Place → Situation → Completion
  simple (assign x e) here s = with_operand m loops e here s (gets x)
  simple (input x k) here s = draws_value inputs k s (gets x)
  simple (create x e) here s = creates m loops e here s (gets x)
  simple (proto x e) here s = acts m loops (codes "getproto") (e ∷ []) here s (gets x)
  simple (has x a b) here s = acts m loops (codes "has") (a ∷ b ∷ []) here s (gets x)
  simple (call x f es) here s = calls_value f es here s (gets x)
  simple (set a b c) here s = acts m loops (codes "set") (a ∷ b ∷ c ∷ []) here s goes_on
  simple (delete a b) here s = acts m loops (codes "delete") (a ∷ b ∷ []) here s goes_on
  simple (set_proto a b) here s = acts m loops (codes "setproto") (a ∷ b ∷ []) here s goes_on
  simple (fail e) here s = with_operand m loops e here s (λ v t. fails v here t)
  simple (throw e) here s = with_operand m loops e here s (λ v t. throws v here t)

  -- conditions are booleans
  abbrev pub object_meanings : Meanings PureExpression PureSimple
  object_meanings = record {
    test = λ e here s on off. with_operand m loops e here s (λ v t. choose v here on off t);
    value = with_operand m loops;
    simple = simple;
  }

-- the property of which the object and the name are the values of the parameters
abbrev pub reads : Actions → ℕ → Situation → Completion
reads m loops s =
    with_value (set_or_fault (value_of s.store (codes "o"))) get_place s
    (λ o. with_value (set_or_fault (value_of s.store (codes "p"))) get_place s (λ p. walk m loops o p s))

-- what a body comes to, where each loop is tested at most so many times, and each property is sought in at most so many objects
abbrev pub body : Procedures → Actions → List PureValue → calls.Bodies PureBody
body functions m inputs loops calls f (statements b) s = blocks.block (object_meanings functions m inputs loops calls) loops f b s
body functions m inputs loops calls f reads_property s = reads m loops s

-- ---- programs

abbrev pub of_statements : PureFunction → trees.PureFunction PureBody
of_statements f = record { name = f.name; params = f.params; body = statements f.body; at = f.at }

-- the function that reads properties
abbrev pub get_function : trees.PureFunction PureBody
get_function = record { name = get_name; params = codes "o" ∷ codes "p" ∷ []; body = reads_property; at = 0 }

-- the program with that function, the last one, in which names of functions are procedures
abbrev pub with_library : PureSource → trees.PureSource (trees.PureFunction PureBody)
with_library source = record {
  functions = map of_statements (resolved source).functions ++ get_function ∷ [];
  specs = source.specs;
  preds = source.preds;
}

-- The end of the program from the function f, where each loop tests its condition at most n times, each property is sought in at most n
-- objects, and calls nest at most n deep; where more is needed there is none.
abbrev pub source_end : PureSource → Actions → List ℕ → List PureValue → Heap → ℕ → List PureValue → ℕ → Option End
source_end source m f args h counter inputs n =
    calls.source_end (body (with_library source).functions m inputs) (with_library source) f args h counter n
