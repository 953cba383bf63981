-- Unions of disjoint heaps, in any order and grouping.
use Rattle.std.proofs.Common.{◌≡◌, ◌⊎◌, ⊎_elim, sym, ap, subst, ◌∙◌}
use Rattle.std.specs.FinMap.{empty}
use Rattle.mem_model.specs.declared.keys.Key.{Key}
use Rattle.mem_model.specs.Heaps.{Heap, HasKey, joined}
use Rattle.mem_model.proofs.Compatible.{first_part, second_part, key_of_union}
use Rattle.mem_model.proofs.Joins.{join_commutes, join_associates, join_has_unit}
use Rattle.mem_model.proofs.Parts.{part_has, no_key}
use Rattle.assert_logic.specs.Unions.{IsUnion}

pub union_commutes : (h g f : Heap) → IsUnion h g f → IsUnion h f g
union_commutes h g f u = record { disjoint = λ k there here. u.disjoint k here there; union = u.union ∙ join_commutes g f u.disjoint }

pub union_with_none : (h : Heap) → IsUnion h h empty
union_with_none h = record { disjoint = λ k here there. no_key k there; union = sym (join_has_unit h).1 }

pub union_after_none : (h : Heap) → IsUnion h empty h
union_after_none h = record { disjoint = λ k here there. no_key k here; union = sym (join_has_unit h).0 }

-- the union with the empty heap is the other one
pub only_second : (h g f : Heap) → IsUnion h g f → g ≡ empty → h ≡ f
only_second h g f u none = u.union ∙ ap (λ x. joined x f) none ∙ (join_has_unit f).0

pub in_first : (h g f : Heap) (k : Key) → IsUnion h g f → HasKey g k → HasKey h k
in_first h g f k u has = subst (λ x. HasKey x k) (sym u.union) (part_has g (joined g f) (first_part g f u.disjoint) k has)

pub in_second : (h g f : Heap) (k : Key) → IsUnion h g f → HasKey f k → HasKey h k
in_second h g f k u has = subst (λ x. HasKey x k) (sym u.union) (part_has f (joined g f) (second_part g f u.disjoint) k has)

pub in_either : (h g f : Heap) (k : Key) → IsUnion h g f → HasKey h k → HasKey g k ⊎ HasKey f k
in_either h g f k u has = key_of_union g f k u.disjoint (subst (λ x. HasKey x k) u.union has)

-- h = a + b and b = c + d give h = (a + c) + d
pub regrouped : (h a b c d : Heap) → IsUnion h a b → IsUnion b c d → (e : Heap) × (IsUnion e a c × IsUnion h e d)
regrouped h a b c d u w = (joined a c, (first, second))
  where
    first : IsUnion (joined a c) a c
    first = record { disjoint = λ k here there. u.disjoint k here (in_first b c d k w there); union = λ i. joined a c }

    second : IsUnion h (joined a c) d
    second = record {
      disjoint = λ k here there. ⊎_elim (λ in_a. u.disjoint k in_a (in_second b c d k w there)) (λ in_c. w.disjoint k in_c there) (in_either (joined a c) a c k first here);
      union = u.union ∙ ap (joined a) w.union ∙ sym (join_associates a c d);
    }

-- h = a + b and a = c + d give h = c + (d + b)
pub ungrouped : (h a b c d : Heap) → IsUnion h a b → IsUnion a c d → (e : Heap) × (IsUnion e d b × IsUnion h c e)
ungrouped h a b c d u w =
    let (e, (v, x)) = regrouped h b a d c (union_commutes h a b u) (union_commutes a c d w) in
    (e, (union_commutes e b d v, union_commutes h e c x))

-- h = a + b and a = c + d give h = (c + b) + d
pub exchanged : (h a b c d : Heap) → IsUnion h a b → IsUnion a c d → (e : Heap) × (IsUnion e c b × IsUnion h e d)
exchanged h a b c d u w =
    let (e, (v, x)) = ungrouped h a b d c u (union_commutes a c d w) in
    (e, (v, union_commutes h d e x))

-- unions of equal heaps
pub union_at : (h g f p q : Heap) → IsUnion h g f → g ≡ p → f ≡ q → IsUnion h p q
union_at h g f p q u e d = subst (λ x. IsUnion h p x) d (subst (λ x. IsUnion h x f) e u)
