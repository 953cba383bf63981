-- A test of the entries of a heap that tells that the heap is well formed.
use Rattle.std.proofs.Common.{◌≡◌, ℕ, ℤ, pos, Bool, true, false, cond, ◌&&◌, ◌==◌, T, List, [], ◌∷◌, Option, Some, refl, sym, ap, subst, ◌∙◌, true≢false}
use Rattle.std.proofs.lemmas.Bool.Decides.{Decides-eqb}
use Rattle.std.proofs.lemmas.Map.Views.{tells_apart}
use Rattle.std.specs.Int.Signed.{le_z, lt_z}
use Rattle.std.proofs.lemmas.Bool.{and_parts}
use Rattle.std.specs.List.{list_all}
use Rattle.std.specs.Ordering.{eq_by_cmp}
use Rattle.std.specs.FinMap.{find, from_entries, get-from_entries}
use Rattle.gil_values.specs.EqualityLaws.{same_value-Decides}
use Rattle.gil_values.specs.Equality.{same_value}
use Rattle.gil_values.specs.Pure.{PureValue, integer, boolean}
use Rattle.mem_model.specs.declared.keys.Key.{Key}
use Rattle.mem_model.specs.declared.keys.Sub.{Sub}
use Rattle.mem_model.specs.declared.keys.Sub.TheVariants.{Name, At, Shape, Bound, Dom, Gone}
use Rattle.mem_model.specs.declared.keys.MemoryName.{MemoryName}
use Rattle.mem_model.specs.Keys.{key, key_cmp, has_subkey}
use Rattle.mem_model.specs.Names.{is_name_list, lists_name}
use Rattle.mem_model.specs.Heaps.{Heap, Holds, HasKey, HoldsNames, IsDescriptor, IsWellFormed, IsHeapOf}
use Rattle.mem_model.specs.KeyOrder.{key_cmp-total, key_cmp-IsAntisymmetric}
use Rattle.mem_model.proofs.Joins.{value_at, has_key}

-- what the entries list is what the heap holds
pub held : (es : List (Key × PureValue)) (k : Key) (v : PureValue) → find key_cmp k es ≡ Some v → Holds (from_entries es) k v
held es k v is = get-from_entries key_cmp-total es k ∙ is

pub kept : (es : List (Key × PureValue)) (k : Key) (v : PureValue) → find key_cmp k es ≡ Some v → HasKey (from_entries es) k
kept es k v is = has_key (from_entries es) k v (held es k v is)

-- ---- a test of all entries

same_some : {X : Type 0} {x y : X} → Some x ≡ Some y → x ≡ y
same_some e = cc

-- a test with two outcomes, and what is found at each of them
found_where : {X : Type 0} (P : X → Type 0) (b : Bool) (x : X) (o : Option X) (v : X) → cond b (Some x) o ≡ Some v → (b ≡ true → P x) → (o ≡ Some v → P v) → P v
found_where P true x o v is here there = subst P (same_some is) (here refl)
found_where P false x o v is here there = there is

-- what passes at each entry passes at each key that the heap holds
passes : (test : Key → PureValue → Bool) (es : List (Key × PureValue)) → list_all (λ e. test e.0 e.1) es ≡ true → (k : Key) (v : PureValue) → find key_cmp k es ≡ Some v → test k v ≡ true
passes test [] all k v is = absurd (cc)
passes test (e ∷ es) all k v is =
    let both = and_parts (test e.0 e.1) (list_all (λ f. test f.0 f.1) es) all in
    found_where (λ w. test k w ≡ true) (eq_by_cmp key_cmp k e.0) e.1 (find key_cmp k es) v is
    (λ tied. ap (λ l. test l e.1) (tells_apart key_cmp-IsAntisymmetric k e.0 tied) ∙ both.0)
    (passes test es both.1 k v)

-- what the heap holds is among its entries
listed : (es : List (Key × PureValue)) (k : Key) (v : PureValue) → Holds (from_entries es) k v → find key_cmp k es ≡ Some v
listed es k v is = sym (get-from_entries key_cmp-total es k) ∙ is

-- ---- the rules, as a test of two entries of one location

abbrev is_number : PureValue → Bool
is_number (integer n) = true
is_number _ = false

abbrev is_within : PureValue → ℤ → Bool
is_within (integer n) i = le_z (pos 0) i && lt_z i n
is_within _ i = true

abbrev fits_at : Sub → PureValue → Sub → PureValue → Bool
fits_at Gone v Gone w = same_value v (boolean true)
fits_at Gone v s w = false
fits_at Shape d (Name p) w = lists_name d p
fits_at Shape d Shape w = is_name_list d
fits_at Shape d Bound w = false
fits_at Shape d Dom w = false
fits_at Dom d (Name p) w = lists_name d p
fits_at Dom d Dom w = is_name_list d
fits_at Dom d Bound w = false
fits_at Dom d Shape w = false
fits_at Bound v Bound w = is_number v
fits_at Bound v (At i) w = is_within v i
fits_at Bound v Shape w = false
fits_at Bound v Dom w = false
fits_at s v t w = true

abbrev fits : Key → PureValue → Key → PureValue → Bool
fits k v l w = cond (k.loc == l.loc) (fits_at k.sub v l.sub w) true

abbrev pub all_fit : List (Key × PureValue) → Bool
all_fit es = list_all (λ e. list_all (λ f. fits e.0 e.1 f.0 f.1) es) es

same_place : (l : ℕ) (b : Bool) → cond (l == l) b true ≡ true → b ≡ true
same_place l b e = sym (ap (λ t. cond t b true) ((Decides-eqb l l).1 refl)) ∙ e

number_of : (v : PureValue) → is_number v ≡ true → (n : ℤ) × (v ≡ integer n)
number_of (integer n) e = (n, refl)
number_of v e = absurd (true≢false (sym e))

gone_alone_at : (v w : PureValue) (s : Sub) → fits_at Gone v s w ≡ true → s ≡ Gone
gone_alone_at v w Gone e = refl
gone_alone_at v w s e = absurd (true≢false (sym e))

name_list_at : (s : Sub) (d : PureValue) → HoldsNames s → fits_at s d s d ≡ true → is_name_list d ≡ true
name_list_at Shape d names e = e
name_list_at Dom d names e = e
name_list_at s d names e = absurd names

listed_at : (s : Sub) (d w : PureValue) (p : List ℕ) → HoldsNames s → fits_at s d (Name p) w ≡ true → lists_name d p ≡ true
listed_at Shape d w p names e = e
listed_at Dom d w p names e = e
listed_at s d w p names e = absurd names

one_descriptor_at : (s t : Sub) (v w : PureValue) → IsDescriptor s → IsDescriptor t → fits_at s v t w ≡ true → s ≡ t
one_descriptor_at Shape Shape v w a b e = refl
one_descriptor_at Bound Bound v w a b e = refl
one_descriptor_at Dom Dom v w a b e = refl
one_descriptor_at Shape Bound v w a b e = absurd (true≢false (sym e))
one_descriptor_at Shape Dom v w a b e = absurd (true≢false (sym e))
one_descriptor_at Bound Shape v w a b e = absurd (true≢false (sym e))
one_descriptor_at Bound Dom v w a b e = absurd (true≢false (sym e))
one_descriptor_at Dom Shape v w a b e = absurd (true≢false (sym e))
one_descriptor_at Dom Bound v w a b e = absurd (true≢false (sym e))
one_descriptor_at Shape t v w a b e = absurd b
one_descriptor_at Bound t v w a b e = absurd b
one_descriptor_at Dom t v w a b e = absurd b
one_descriptor_at s t v w a b e = absurd a

pub tested_well_formed : (es : List (Key × PureValue)) → all_fit es ≡ true → IsWellFormed (from_entries es)
tested_well_formed es all = record {
  gone_alone = λ l s gone has. let a = value_at h _ gone in let b = value_at h _ has in gone_alone_at a.0 b.0 s (fit l Gone s a.0 b.0 a.1 b.1);
  gone_is_true = λ l v is. (same_value-Decides v (boolean true)).0 (fit l Gone Gone v v is is);
  name_lists = λ l s d names is. name_list_at s d names (fit l s s d d is is);
  names_listed = λ l s d names is p has. let b = value_at h _ has in listed_at s d b.0 p names (fit l s (Name p) d b.0 is b.1);
  bound_is_number = λ l v is. number_of v (fit l Bound Bound v v is is);
  cells_in_bound = λ l n i is has.
      let b = value_at h _ has in
      let both = and_parts _ _ (fit l Bound (At i) (integer n) b.0 is b.1) in
      (record { le = subst T (sym both.0) tt }, record { lt = subst T (sym both.1) tt });
  one_descriptor = λ l s t a b has also. let v = value_at h _ has in let w = value_at h _ also in one_descriptor_at s t v.0 w.0 a b (fit l s t v.0 w.0 v.1 w.1);
}
  where
    h : Heap
    h = from_entries es

    fit : (l : ℕ) (s t : Sub) (v w : PureValue) → Holds (from_entries es) (key l s) v → Holds (from_entries es) (key l t) w → fits_at s v t w ≡ true
    fit l s t v w is also =
        let first = passes (λ k x. list_all (λ f. fits k x f.0 f.1) es) es all (key l s) v (listed es _ v is) in
        same_place l _ (passes (λ k x. fits (key l s) v k x) es first (key l t) w (listed es _ w also))

abbrev pub of_memory : MemoryName → List (Key × PureValue) → Bool
of_memory memory es = list_all (λ e. has_subkey memory e.0.sub) es

pub tested_heap : (memory : MemoryName) (es : List (Key × PureValue)) → of_memory memory es ≡ true → all_fit es ≡ true → IsHeapOf memory (from_entries es)
tested_heap memory es own all = record {
  subkeys = λ k has. let v = value_at (from_entries es) k has in passes (λ l x. has_subkey memory l.sub) es own k v.0 (listed es k v.0 v.1);
  well_formed = tested_well_formed es all;
}
