-- What a C-like program does, statement by statement, over its tree. Expressions are done from left to right into operands; an operand that
-- is a variable is read when something is done with it. The actions of blocks are those of the memory: `alloc` takes the next symbol, and
-- `load`, `store` and `free` take none.
use Rattle.std.specs.Prelude.{ℕ, ◌+◌, List, [], ◌∷◌, Option, Some, None, if◌then◌else◌, codes}
use Rattle.gil_values.specs.declared.kinds.Kind.TheVariants.{Int, Null}
use Rattle.gil_values.specs.declared.places.Place.{Place}
use Rattle.gil_values.specs.Equality.{same_value}
use Rattle.gil_values.specs.Pure.{PureValue, kind, procedure}
use Rattle.mem_model.specs.Actions.{Actions}
use Rattle.mem_model.specs.Heaps.{Heap}
use Rattle.gil_machine.specs.State.{End}
use Rattle.source_language.specs.Calls as calls
use Rattle.source_language.specs.Completions.{Situation, Completion, normal, sets, with_value, with_values, after_action}
use Rattle.source_operators.specs.Operands.{Operand, read, read_all, operand, all_operands}
use Rattle.source_statements.specs.Meaning as statements
use Rattle.source_statements.specs.Meaning.{Meanings}
use Rattle.source_statements.specs.Values.{draws_value, call_value}
use Rattle.clike_operators.specs.declared.pieces.Beyond.TheVariants.{Vanishes}
use Rattle.clike_operators.specs.Meaning.{meanings, tested, cell_of, address}
use Rattle.clike_operators.specs.Pure.{PureExpression}
use Rattle.clike_operators.specs.Ranges.{ranged}
use Rattle.clike_lang.specs.Pure.{PureSimple, assign, input, malloc, call, free, store, PureBlock, PureFunction, PureSource}

abbrev pub Calls : Type 0
Calls = calls.Calls PureBlock

-- the variable of a call gets its result, where it has one
abbrev pub gets : Option (List ℕ) → PureValue → Situation → Completion
gets None v s = normal s
gets (Some x) v s = normal (sets x v s)

module _ (m : Actions) where
  -- what is done with the value of an operand
  abbrev pub with_operand : PureExpression → Place → Situation → (PureValue → Situation → Completion) → Completion
  with_operand e here s go = operand (meanings m) e here s (λ a t. with_value (read a t.store) here t (λ v. go v t))

  -- a block with so many cells
  abbrev pub allocates : PureValue → Place → Situation → (PureValue → Situation → Completion) → Completion
  allocates size here s go =
      after_action (m.act (codes "alloc") (Some s.counter) (size ∷ []) s.heap) here (record s { counter = s.counter + 1 }) go

  -- NULL is freed without doing anything
  abbrev pub frees : PureValue → Place → Situation → Completion
  frees pointer here s =
      if same_value pointer (kind Null) then normal s
      else after_action (m.act (codes "free") None (pointer ∷ []) s.heap) here s (λ w t. normal t)

  -- the value is read when the cell is known
  abbrev pub stores : Operand → Operand → Operand → Place → Situation → Completion
  stores a b c here s =
      cell_of a b here s
      (λ block cell. with_value (read c s.store) here s
      (λ v. after_action (m.act (codes "store") None (address block cell ∷ v ∷ []) s.heap) here s (λ w t. normal t)))

module _ (functions : List PureFunction) (m : Actions) (inputs : List PureValue) (calls : Calls) where
  -- what a statement without statements in it comes to
  abbrev pub simple : PureSimple → Place → Situation → Completion
  simple (assign x e) here s = with_operand m e here s (λ v t. normal (sets x v t))
  simple (input x) here s = draws_value inputs Int s (λ v t. ranged v Vanishes here t (λ w u. normal (sets x w u)))
  simple (malloc x e) here s = with_operand m e here s (λ size t. allocates m size here t (λ l u. normal (sets x l u)))
  simple (call x f es) here s =
      all_operands (meanings m) es here s
      (λ all t. with_values (read_all all t.store) here t (λ args. call_value functions calls (procedure f) args here t (gets x)))
  simple (free e) here s = with_operand m e here s (λ pointer t. frees m pointer here t)
  simple (store a b c) here s =
      operand (meanings m) a here s
      (λ x t. operand (meanings m) b here t (λ y u. operand (meanings m) c here u (λ z r. stores m x y z here r)))

  abbrev pub clike_meanings : Meanings PureExpression PureSimple
  clike_meanings = record {
    test = λ e here s on off. operand (meanings m) e here s (λ a t. tested a here t (off t) (on t));
    value = with_operand m;
    simple = simple;
  }

-- the statements of a body, where each loop is tested at most so many times
abbrev pub body : List PureFunction → Actions → List PureValue → calls.Bodies PureBlock
body functions m inputs loops calls f b s = statements.block (clike_meanings functions m inputs calls) loops f b s

-- The end of the program from the function f, where each loop tests its condition at most n times and calls nest at most n deep; where more is
-- needed there is none.
abbrev pub source_end : PureSource → Actions → List ℕ → List PureValue → Heap → ℕ → List PureValue → ℕ → Option End
source_end source m f args h counter inputs n = calls.source_end (body source.functions m inputs) source f args h counter n
