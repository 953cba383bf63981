-- Compatible heaps.
use Rattle.std.proofs.Common.{◌⊎◌, ⊎_elim, inl, inr, subst}
use Rattle.mem_model.specs.declared.keys.Key.{Key}
use Rattle.mem_model.specs.Heaps.{Heap, HasKey, IsWellFormed, IsDisjoint, IsPartOf, joined}
use Rattle.mem_model.specs.Laws.{KeysAreOrdered, CompatibleCommutes, JoinIsHeap, CompatibleAssociates}
use Rattle.mem_model.specs.KeyOrder.{key_cmp-total, key_cmp-IsAntisymmetric}
use Rattle.mem_model.proofs.Joins.{value_at, has_key, join_commutes, join_associates, join_holds_both}
use Rattle.mem_model.proofs.Parts.{part_has, part_well_formed}

pub keys_are_ordered : KeysAreOrdered
keys_are_ordered = record { total = key_cmp-total; ties_are_equal = key_cmp-IsAntisymmetric }

-- each of two disjoint heaps is a part of their union
pub first_part : (g h : Heap) → IsDisjoint g h → IsPartOf g (joined g h)
first_part g h apart = (join_holds_both g h apart).first

pub second_part : (g h : Heap) → IsDisjoint g h → IsPartOf h (joined g h)
second_part g h apart = (join_holds_both g h apart).second

-- a key of the union is one of either heap
pub key_of_union : (g h : Heap) (k : Key) → IsDisjoint g h → HasKey (joined g h) k → HasKey g k ⊎ HasKey h k
key_of_union g h k apart has =
    let at = value_at (joined g h) k has in
    ⊎_elim (λ is. inl (has_key g k at.0 is)) (λ is. inr (has_key h k at.0 is)) ((join_holds_both g h apart).nothing_else k at.0 at.1)

disjoint_commutes : (g h : Heap) → IsDisjoint g h → IsDisjoint h g
disjoint_commutes g h apart k in_h in_g = apart k in_g in_h

pub compatible_commutes : CompatibleCommutes
compatible_commutes g h c = record {
  disjoint = disjoint_commutes g h c.disjoint;
  union_well_formed = subst IsWellFormed (join_commutes g h c.disjoint) c.union_well_formed;
}

pub join_is_heap : JoinIsHeap
join_is_heap memory g h is_g is_h c = record {
  subkeys = λ k has. ⊎_elim (is_g.subkeys k) (is_h.subkeys k) (key_of_union g h k c.disjoint has);
  well_formed = c.union_well_formed;
}

pub compatible_associates : CompatibleAssociates
compatible_associates f g h c d =
    let second : IsPartOf g (joined f g) = second_part f g c.disjoint in
    let apart : IsDisjoint g h = λ k in_g in_h. d.disjoint k (part_has g (joined f g) second k in_g) in_h in
    let away : IsDisjoint f (joined g h) = λ k in_f in_union. ⊎_elim
    (λ in_g. c.disjoint k in_f in_g)
    (λ in_h. d.disjoint k (part_has f (joined f g) (first_part f g c.disjoint) k in_f) in_h)
    (key_of_union g h k apart in_union) in
    let whole : IsWellFormed (joined f (joined g h)) = subst IsWellFormed (join_associates f g h) d.union_well_formed in (
      record { disjoint = apart; union_well_formed = part_well_formed (joined g h) (joined f (joined g h)) (second_part f (joined g h) away) whole },
      record { disjoint = away; union_well_formed = whole },
    )
