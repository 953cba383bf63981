-- The keys of a record: `Shape`, and those of its names.
use Rattle.std.proofs.Common.{◌≡◌, ⊎_elim, ℕ, Bool, true, false, if◌then◌else◌, List, ◌∷◌, Result, Ok, Err, IsTrue, refl, sym, ap, subst, ◌∙◌, true≢false}
use Rattle.gil_values.specs.Pure.{PureValue, list, from_list, to_list-from_list}
use Rattle.mem_model.specs.declared.keys.Key.{Key}
use Rattle.mem_model.specs.declared.keys.Sub.{Sub}
use Rattle.mem_model.specs.declared.keys.Sub.TheVariants.{Name, At, Shape, Bound, Dom, Proto, Gone}
use Rattle.mem_model.specs.declared.keys.MemoryName.TheVariants.{Record}
use Rattle.mem_model.specs.declared.failures.Failure.{Failure}
use Rattle.mem_model.specs.Keys.{key, has_subkey}
use Rattle.mem_model.specs.KeyOrder.{key_eq}
use Rattle.mem_model.specs.Names.{are_distinct_texts}
use Rattle.mem_model.specs.Heaps.{Heap, Holds, HasKey, IsHeapOf}
use Rattle.mem_model.specs.Arguments.{and_then, one_of}
use Rattle.mem_model.specs.Tables.{is_among, texts_of, names_of, name_keys, IsWhole}
use Rattle.mem_model.proofs.Joins.{has_key}
use Rattle.mem_model.proofs.Holding.{same_key, itself}
use Rattle.mem_model.proofs.Formed.{PartFits}
use Rattle.mem_model.proofs.NameKeys.{or_first, or_second, or_of, among_listed, listed_among}
use Rattle.record_heap.specs.Table.{name_list_of, name_list_in}

-- ---- the argument of `new`

pub names_read : (args : List PureValue) (v : PureValue) (vs : List PureValue) (b : Bool) → one_of args ≡ Ok v
    → v ≡ list (from_list vs) → b ≡ are_distinct_texts vs → name_list_in args ≡ (if b then Ok (list (from_list vs)) else Err Failure.Kind)
names_read args v vs b one is distinct =
    ap (λ r. and_then r name_list_of) (one ∙ ap Ok is)
    ∙ ap (λ ws. answer (are_distinct_texts ws)) (to_list-from_list vs)
    ∙ ap answer (sym distinct)
  where
    answer : Bool → Result PureValue Failure
    answer c = if c then Ok (list (from_list vs)) else Err Failure.Kind

pub names_of_list : (vs : List PureValue) → names_of (list (from_list vs)) ≡ texts_of vs
names_of_list vs = ap texts_of (to_list-from_list vs)

-- ---- the keys of a record's names

pub names_fit : (l : ℕ) (d : PureValue) (q : Key) → IsTrue (is_among q (name_keys l (names_of d))) → (q.loc ≡ l) × PartFits Shape d q.sub
names_fit l d q among =
    let p = listed_among l d q among in
    (ap (λ (k : Key). k.loc) p.1, subst (λ (k : Key). PartFits Shape d k.sub) (sym p.1) p.2)

pub names_own : (l : ℕ) (d : PureValue) (q : Key) → IsTrue (is_among q (name_keys l (names_of d))) → IsTrue (has_subkey Record q.sub)
names_own l d q among = let p = listed_among l d q among in subst (λ (k : Key). IsTrue (has_subkey Record k.sub)) (sym p.1) refl

not_true : (b : Bool) → ¬ (b ≡ true) → b ≡ false
not_true true other = absurd (other refl)
not_true false other = refl

no_gone_name : (p : List ℕ) (l : ℕ) → ¬ (key l Gone ≡ key l (Name p))
no_gone_name p l same = let sub : ◌≡◌ {A = Sub} Gone (Name p) = ap (λ (k : Key). k.sub) same in absurd (cc)

no_gone_shape : (l : ℕ) → ¬ (key l Gone ≡ key l Shape)
no_gone_shape l same = let sub : ◌≡◌ {A = Sub} Gone Shape = ap (λ (k : Key). k.sub) same in absurd (cc)

module _ (h : Heap) (l : ℕ) (d : PureValue) (is : IsHeapOf Record h) (at : Holds h (key l Shape) d) where
  all_keys : (s : Sub) → HasKey h (key l s) → IsTrue (is_among (key l s) (key l Shape ∷ name_keys l (names_of d)))
  all_keys (Name p) has =
      or_second (key_eq (key l (Name p)) (key l Shape)) _ (among_listed l d p (is.well_formed.names_listed l Shape d tt at p has))
  all_keys Shape has = or_first (key_eq (key l Shape) (key l Shape)) _ (itself (key l Shape))
  all_keys Gone has = let same : ◌≡◌ {A = Sub} Shape Gone =
      is.well_formed.gone_alone l Shape has (has_key h (key l Shape) d at) in absurd (cc)
  all_keys (At i) has = absurd (true≢false (sym (is.subkeys (key l (At i)) has)))
  all_keys Bound has = absurd (true≢false (sym (is.subkeys (key l Bound) has)))
  all_keys Dom has = absurd (true≢false (sym (is.subkeys (key l Dom) has)))
  all_keys Proto has = absurd (true≢false (sym (is.subkeys (key l Proto) has)))

  pub record_whole : IsWhole h l (key l Shape) (name_keys l (names_of d))
  record_whole = record {
    all_keys = all_keys;
    of_location =
        λ q among. ⊎_elim (λ shape. ap (λ (k : Key). k.loc) (same_key q (key l Shape) shape)) (λ name. (names_fit l d q name).0)
        (or_of (key_eq q (key l Shape)) _ among);
    not_gone = not_true _
        (λ among. ⊎_elim (λ shape. no_gone_shape l (same_key (key l Gone) (key l Shape) shape))
        (λ name. let p = listed_among l d (key l Gone) name in no_gone_name p.0 l p.1) (or_of (key_eq (key l Gone) (key l Shape)) _ among));
  }
