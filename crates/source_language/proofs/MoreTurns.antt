-- An end of a program is its end with more turns of its loops and deeper calls too, where this holds of what bodies come to.
use Rattle.std.proofs.Common.{◌≡◌, ℕ, zero, suc, ◌≤◌, List, length, Bool, true, false, cond, Option, Some, None, refl, arith}
use Rattle.std.specs.Prelude.{codes, ◌==◌}
use Rattle.gil_values.specs.declared.places.Place.{Place}
use Rattle.gil_values.specs.Pure.{PureValue, text}
use Rattle.gil_machine.specs.State.{End}
use Rattle.gil_machine.specs.Step.{bind_all}
use Rattle.mem_model.specs.Heaps.{Heap}
use Rattle.source_language.specs.Calls.{Calls, Bodies, at_entry, call_found, calls_within, entered, source_end}
use Rattle.source_language.specs.Completions.{Situation, Completion, fails, after_body, back_in, thrown_in, returned_from_entry, thrown_from_entry}
use Rattle.source_language.specs.Pure.{PureFunction, PureSource, find_function}
use Rattle.source_language.proofs.Longer.{Extends, body-extends, end-extends}

arity-extends : (b : Bool) (c d : Completion) (x : List ℕ) (here : Place) (s : Situation) → Extends c d
    → Extends (cond b (after_body c (back_in s x) (thrown_in s)) (fails (text (codes "arity")) here s))
    (cond b (after_body d (back_in s x) (thrown_in s)) (fails (text (codes "arity")) here s))
arity-extends true c d x here s h = body-extends c d (back_in s x) (thrown_in s) h
arity-extends false c d x here s h = refl

module _ {B : Type 0} where
  -- what the second calls come to extends what the first come to
  abbrev pub CallsExtend : Calls B → Calls B → Type 0
  CallsExtend calls deeper = (f : PureFunction B) (args : List PureValue) (s : Situation) → Extends (calls f args s) (deeper f args s)

  -- what bodies come to with more turns and calls that extend others extends what they come to with those
  abbrev pub BodiesExtend : Bodies B → Type 0
  BodiesExtend body = (n k : ℕ) → n ≤ k → (calls deeper : Calls B) → CallsExtend calls deeper → (f : List ℕ) (b : B) (s : Situation)
      → Extends (body n calls f b s) (body k deeper f b s)

  pub call-extends : (calls deeper : Calls B) → CallsExtend calls deeper
      → (o : Option (PureFunction B)) (x : List ℕ) (args : List PureValue) (here : Place) (s : Situation)
      → Extends (call_found calls o x args here s) (call_found deeper o x args here s)
  call-extends calls deeper more None x args here s = refl
  call-extends calls deeper more (Some f) x args here s =
      arity-extends (length args == length f.params) (calls f args s) (deeper f args s) x here s (more f args s)

  module _ (body : Bodies B) (more : BodiesExtend body) where
    calls-extend : (n k : ℕ) → n ≤ k → (depth deeper : ℕ) → depth ≤ deeper → CallsExtend (calls_within body n depth) (calls_within body k deeper)
    calls-extend n k le zero deeper le' f args s = tt
    calls-extend n k le (suc depth) zero le' f args s = absurd (omega arith)
    calls-extend n k le (suc depth) (suc deeper) le' f args s =
        more n k le (calls_within body n depth) (calls_within body k deeper) (calls-extend n k le depth deeper (omega arith)) f.name f.body
        (record s { store = bind_all f.params args })

    entry-extends : (n k : ℕ) → n ≤ k → (o : Option (PureFunction B)) (args : List PureValue) (s : Situation)
        → Extends (entered body n o args s) (entered body k o args s)
    entry-extends n k le None args s = tt
    entry-extends n k le (Some f) args s =
        body-extends (calls_within body n n f args s) (calls_within body k k f args s) returned_from_entry thrown_from_entry (calls-extend n k le n k le f args s)

    pub ends_stay : (source : PureSource (PureFunction B)) (f : List ℕ) (args : List PureValue) (h : Heap) (counter n k : ℕ) (e : End) → n ≤ k
        → source_end body source f args h counter n ≡ Some e → source_end body source f args h counter k ≡ Some e
    ends_stay source f args h counter n k e le is =
        end-extends (entered body n (find_function source.functions f) args (at_entry h counter))
        (entered body k (find_function source.functions f) args (at_entry h counter)) e
        (entry-extends n k le (find_function source.functions f) args (at_entry h counter)) is
