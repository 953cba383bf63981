-- States beside a rest of the heap, which a step leaves as it is: locality of a step. Locality is that of Calcagno, O'Hearn,
-- Yang, LICS 2007.
use Rattle.std.specs.Prelude.{◌≡◌}
use Rattle.mem_model.specs.Heaps.{Heap, joined, IsCompatible}
use Rattle.gil_machine.specs.State.{State, End, Step, goes_on, ends}

-- the state with a rest in its heap
abbrev pub beside : Heap → State → State
beside rest s = record s { heap = joined s.heap rest }

abbrev pub end_beside : Heap → End → End
end_beside rest e = record e { heap = joined e.heap rest }

abbrev pub step_beside : Heap → Step → Step
step_beside rest (goes_on s) = goes_on (beside rest s)
step_beside rest (ends e) = ends (end_beside rest e)

abbrev pub heap_after : Step → Heap
heap_after (goes_on s) = s.heap
heap_after (ends e) = e.heap

-- the larger step is the smaller one but for the rest, which it has besides
pub record IsSameStepBeside (rest : Heap) (small large : Step) : Type 0 where
  pub same : large ≡ step_beside rest small
  pub compatible : IsCompatible (heap_after small) rest
