-- Heaps that are the union of parts without a common key. From Calcagno, O'Hearn, Yang, LICS 2007.
use Rattle.std.specs.Prelude.{◌≡◌}
use Rattle.mem_model.specs.Heaps.{Heap, IsDisjoint, joined}

-- the first heap is the union of the two others, which have no key in common
pub record IsUnion (h g f : Heap) : Type 0 where
  pub disjoint : IsDisjoint g f
  pub union : h ≡ joined g f
