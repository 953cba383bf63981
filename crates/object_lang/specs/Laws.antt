-- What holds of every program of the object language.
use Rattle.std.specs.Prelude.{◌≡◌, ℕ, ◌≤◌, List, Some}
use Rattle.gil_values.specs.Pure.{PureValue}
use Rattle.mem_model.specs.Heaps.{Heap}
use Rattle.mem_model.specs.Actions.{Actions}
use Rattle.gil_machine.specs.State.{End}
use Rattle.object_lang.specs.Pure.{PureSource}
use Rattle.object_lang.specs.Meaning.{source_end}

-- an end of a program is its end with more turns and deeper calls too, whatever the memory
abbrev pub EndsStay : Type 0
EndsStay =
    (source : PureSource) (m : Actions) (f : List ℕ) (args : List PureValue) (h : Heap) (counter : ℕ) (inputs : List PureValue)
    (n k : ℕ) (e : End) → n ≤ k → source_end source m f args h counter inputs n ≡ Some e
    → source_end source m f args h counter inputs k ≡ Some e
