-- Keys are totally ordered, and only equal keys tie.
use Rattle.std.proofs.Common.{◌≡◌, ℕ, zero, suc, ℤ, pos, nat_abs, ◌<◌, ◌<ℤ◌, Bool, List, [], ◌∷◌, map, Some, refl, sym, ap, ◌∙◌, arith}
use Rattle.std.proofs.lemmas.Cmp.{on_total, lists_total, int_cmp_total}
use Rattle.std.proofs.lemmas.Int.{ints}
use Rattle.std.specs.Cmp.{IsTotalOrder, IsEquivalence, IsPartialOrder, eq_by_cmp_equiv, po, int_cmp_is, ranks}
use Rattle.std.specs.Cmp.Lexicographic.{slice_cmp}
use Rattle.std.specs.Ordering.{eq_by_cmp, int_cmp, nat_cmp, ordering_then, MatchOrdering}
use Rattle.std.specs.FinMap.{IsAntisymmetric, slice_cmp-IsAntisymmetric, int_cmp-IsAntisymmetric}
use Rattle.std.specs.declared.cmp.Ordering.{Ordering}
use Rattle.std.specs.declared.cmp.Ordering.TheVariants.{Less, Equal, Greater}
use Rattle.mem_model.specs.declared.keys.Key.{Key}
use Rattle.mem_model.specs.declared.keys.Sub.{Sub}
use Rattle.mem_model.specs.declared.keys.Sub.TheVariants.{Name, At, Shape, Bound, Dom, Proto, Gone}
use Rattle.mem_model.specs.Keys.{key, key_numbers, sub_numbers, key_cmp}

pub key_cmp-total : IsTotalOrder key_cmp
key_cmp-total = on_total key_numbers (lists_total int_cmp_total)

-- the key that has these numbers
first : List ℤ → ℤ
first [] = pos 0
first (n ∷ ns) = n

abbrev sub_of : ℕ → List ℤ → Sub
sub_of zero ns = Name (map nat_abs ns)
sub_of (suc zero) [] = Gone
sub_of (suc zero) (n ∷ ns) = At n
sub_of (suc (suc zero)) ns = Shape
sub_of (suc (suc (suc zero))) ns = Bound
sub_of (suc (suc (suc (suc zero)))) ns = Dom
sub_of (suc (suc (suc (suc (suc zero))))) ns = Proto
sub_of (suc (suc (suc (suc (suc (suc t)))))) ns = Gone

abbrev sub_of_numbers : List ℤ → Sub
sub_of_numbers [] = Gone
sub_of_numbers (n ∷ ns) = sub_of (nat_abs n) ns

abbrev key_of : List ℤ → Key
key_of [] = key 0 Gone
key_of (n ∷ ns) = key (nat_abs n) (sub_of_numbers ns)

nat_abs-pos : (ns : List ℕ) → map nat_abs (map pos ns) ≡ ns
nat_abs-pos [] = refl
nat_abs-pos (n ∷ ns) = ap (λ ms. n ∷ ms) (nat_abs-pos ns)

sub_back : (s : Sub) → sub_of_numbers (sub_numbers s) ≡ s
sub_back (Name p) = ap Name (nat_abs-pos p)
sub_back (At i) = refl
sub_back Shape = refl
sub_back Bound = refl
sub_back Dom = refl
sub_back Proto = refl
sub_back Gone = refl

key_back : (k : Key) → key_of (key_numbers k) ≡ k
key_back k = ap (key k.loc) (sub_back k.sub)

pub key_cmp-IsAntisymmetric : IsAntisymmetric key_cmp
key_cmp-IsAntisymmetric x y e =
    sym (key_back x) ∙ ap key_of (slice_cmp-IsAntisymmetric int_cmp-IsAntisymmetric (key_numbers x) (key_numbers y) e) ∙ key_back y

-- keys are equal where they tie
abbrev pub key_eq : Key → Key → Bool
key_eq = eq_by_cmp key_cmp

pub key_cmp-equivalence : IsEquivalence key_eq
key_cmp-equivalence = eq_by_cmp_equiv key_cmp-total

pub key_cmp-partial_order : IsPartialOrder key_eq (λ k l. Some (key_cmp k l))
key_cmp-partial_order = po key_cmp-total (λ k l. refl)

-- ---- the order of subkeys by their variant, and then by what they hold

abbrev pub variant_number : Sub → ℕ
variant_number (Name p) = 0
variant_number (At i) = 1
variant_number Shape = 2
variant_number Bound = 3
variant_number Dom = 4
variant_number Proto = 5
variant_number Gone = 6

abbrev pub held_cmp : Sub → Sub → Ordering
held_cmp (Name p) (Name q) = slice_cmp nat_cmp p q
held_cmp (At i) (At j) = int_cmp i j
held_cmp s t = Equal

-- whole numbers from 0 are in the order of unsigned numbers
pos_rank : (m n : ℕ) (r : Ordering) → MatchOrdering r (m < n) (m ≡ n) (n < m)
    → MatchOrdering r (pos m <ℤ pos n) (pos m ≡ pos n) (pos n <ℤ pos m)
pos_rank m n Less h = omega (arith, ints)
pos_rank m n Equal h = ap pos h
pos_rank m n Greater h = omega (arith, ints)

pub pos_cmp : (m n : ℕ) → nat_cmp m n ≡ int_cmp (pos m) (pos n)
pos_cmp m n = int_cmp_is (pos m) (pos n) (nat_cmp m n) (pos_rank m n (nat_cmp m n) (ranks m n))

pub names_cmp : (p q : List ℕ) → slice_cmp nat_cmp p q ≡ slice_cmp int_cmp (map pos p) (map pos q)
names_cmp [] [] = refl
names_cmp [] (n ∷ q) = refl
names_cmp (m ∷ p) [] = refl
names_cmp (m ∷ p) (n ∷ q) = λ i. ordering_then (pos_cmp m n i) (names_cmp p q i)

then_equal : (r : Ordering) → r ≡ ordering_then r Equal
then_equal Less = refl
then_equal Equal = refl
then_equal Greater = refl

pub sub_cmp-variants : (s t : Sub)
    → ordering_then (nat_cmp (variant_number s) (variant_number t)) (held_cmp s t) ≡ slice_cmp int_cmp (sub_numbers s) (sub_numbers t)
sub_cmp-variants (Name p) (Name q) = names_cmp p q
sub_cmp-variants (At i) (At j) = then_equal (int_cmp i j)
sub_cmp-variants Shape Gone = refl
sub_cmp-variants Bound Gone = refl
sub_cmp-variants Dom Gone = refl
sub_cmp-variants Proto Gone = refl
sub_cmp-variants Gone Gone = refl
sub_cmp-variants s t = refl

-- what is decided before stays, and else the rest decides
pub then_decided : (r s : Ordering) → (r ≡ Equal → ⊥) → r ≡ ordering_then r s
then_decided Less s h = refl
then_decided Equal s h = absurd (h refl)
then_decided Greater s h = refl

pub then_tied : (r s : Ordering) → r ≡ Equal → s ≡ ordering_then r s
then_tied r s h = ap (λ o. ordering_then o s) (sym h)
