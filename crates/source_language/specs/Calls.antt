-- What calls and programs come to, the same for every language but for what the statements of a body come to, whose type is any.
use Rattle.std.specs.Prelude.{◌≡◌, ℕ, zero, suc, List, [], length, ◌==◌, if◌then◌else◌, Option, Some, None, codes}
use Rattle.gil_values.specs.declared.places.Place.{Place}
use Rattle.gil_values.specs.Pure.{PureValue, text}
use Rattle.gil_values.specs.Symbols.{AreBelow}
use Rattle.mem_model.specs.declared.keys.MemoryName.{MemoryName}
use Rattle.mem_model.specs.Heaps.{Heap, IsHeapOf, IsHeapBelow}
use Rattle.gil_machine.specs.State.{End}
use Rattle.gil_machine.specs.Step.{bind_all}
use Rattle.source_language.specs.Completions.{Situation, Completion, unfinished, fails, after_body, back_in, thrown_in, returned_from_entry, thrown_from_entry, end_if_over}
use Rattle.source_language.specs.Pure.{PureFunction, PureSource, find_function}

-- what the body of a function comes to with these arguments, from the heap, counter and draws of the caller
abbrev pub Calls : Type 0 → Type 0
Calls B = PureFunction B → List PureValue → Situation → Completion

-- what the statements of a body come to in the function of this name, where each loop is tested at most so many times and calls come to
-- what is given
abbrev pub Bodies : Type 0 → Type 0
Bodies B = ℕ → Calls B → List ℕ → B → Situation → Completion

-- a run begins without variables and draws
abbrev pub at_entry : Heap → ℕ → Situation
at_entry h counter = record { store = []; heap = h; counter = counter; draws = 0 }

module _ {B : Type 0} where
  -- a function that there is, with as many arguments as it has parameters
  abbrev pub call_found : Calls B → Option (PureFunction B) → List ℕ → List PureValue → Place → Situation → Completion
  call_found calls None x args here s = fails (text (codes "proc")) here s
  call_found calls (Some f) x args here s =
      if length args == length f.params then after_body (calls f args s) (back_in s x) (thrown_in s) else fails (text (codes "arity")) here s

  -- what calls come to that nest at most so deep
  abbrev pub calls_within : Bodies B → ℕ → ℕ → Calls B
  calls_within body loops zero f args s = unfinished
  calls_within body loops (suc depth) f args s =
      body loops (calls_within body loops depth) f.name f.body (record s { store = bind_all f.params args })

  abbrev pub entered : Bodies B → ℕ → Option (PureFunction B) → List PureValue → Situation → Completion
  entered body n None args s = unfinished
  entered body n (Some f) args s = after_body (calls_within body n n f args s) returned_from_entry thrown_from_entry

  -- The end of the program from the function f, where each loop is tested at most n times and calls nest at most n deep; where more is
  -- needed there is none.
  abbrev pub source_end : Bodies B → PureSource (PureFunction B) → List ℕ → List PureValue → Heap → ℕ → ℕ → Option End
  source_end body source f args h counter n =
      end_if_over (entered body n (find_function source.functions f) args (at_entry h counter))

-- A start is proper where the function takes that many arguments, the heap is one of the memory, and each symbol of the arguments and of
-- the heap is below the counter.
pub record IsProperStart {B : Type 0} (memory : MemoryName) (source : PureSource (PureFunction B)) (f : List ℕ) (args : List PureValue)
    (h : Heap) (counter : ℕ) : Type 0 where
  pub function : (g : PureFunction B) × ((find_function source.functions f ≡ Some g) × (length g.params ≡ length args))
  pub heap : IsHeapOf memory h
  pub arguments_below : AreBelow counter args
  pub heap_below : IsHeapBelow counter h
