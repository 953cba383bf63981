-- The keys of the names of a list.
use Rattle.std.proofs.Common.{◌≡◌, ◌⊎◌, ⊎_elim, inl, inr, ℕ, Bool, true, false, ◌||◌, List, [], ◌∷◌, IsTrue, refl, sym, subst, true≢false}
use Rattle.std.specs.List.{list_any}
use Rattle.gil_values.specs.Pure.{PureValue, integer, boolean, text, symbol, kind, procedure, list, to_list}
use Rattle.gil_values.specs.Equality.{same_value}
use Rattle.gil_values.specs.EqualityLaws.{same_value-Decides}
use Rattle.mem_model.specs.declared.keys.Key.{Key}
use Rattle.mem_model.specs.declared.keys.Sub.TheVariants.{Name}
use Rattle.mem_model.specs.Keys.{key}
use Rattle.mem_model.specs.KeyOrder.{key_eq}
use Rattle.mem_model.specs.Names.{lists_name}
use Rattle.mem_model.specs.Tables.{is_among, text_and, texts_of, names_of, name_keys}
use Rattle.mem_model.proofs.Holding.{same_key, itself}

pub or_first : (b c : Bool) → b ≡ true → (b || c) ≡ true
or_first true c is = refl
or_first false c is = absurd (true≢false (sym is))

pub or_second : (b c : Bool) → c ≡ true → (b || c) ≡ true
or_second true c is = refl
or_second false c is = is

pub or_of : (b c : Bool) → (b || c) ≡ true → (b ≡ true) ⊎ (c ≡ true)
or_of true c is = inl refl
or_of false c is = inr is

module _ (l : ℕ) where
  -- a text among the values is a name
  listed_key : (vs : List PureValue) (p : List ℕ) → list_any (same_value (text p)) vs ≡ true → IsTrue (is_among (key l (Name p)) (name_keys l (texts_of vs)))
  listed_key [] p is = absurd (true≢false (sym is))
  listed_key (v ∷ vs) p is = ⊎_elim
      (λ here. subst (λ w. IsTrue (is_among (key l (Name p)) (name_keys l (text_and w (texts_of vs))))) ((same_value-Decides (text p) v).0 here) (or_first _ _ (itself (key l (Name p)))))
      (λ later. with_text v (texts_of vs) (listed_key vs p later))
      (or_of (same_value (text p) v) (list_any (same_value (text p)) vs) is)
    where
      with_text : (w : PureValue) (ps : List (List ℕ)) → IsTrue (is_among (key l (Name p)) (name_keys l ps)) → IsTrue (is_among (key l (Name p)) (name_keys l (text_and w ps)))
      with_text (text q) ps among = or_second (key_eq (key l (Name p)) (key l (Name q))) _ among
      with_text (integer n) ps among = among
      with_text (boolean b) ps among = among
      with_text (symbol n) ps among = among
      with_text (kind k) ps among = among
      with_text (procedure f) ps among = among
      with_text (list ws) ps among = among

  pub among_listed : (d : PureValue) (p : List ℕ) → lists_name d p ≡ true → IsTrue (is_among (key l (Name p)) (name_keys l (names_of d)))
  among_listed (list vs) p is = listed_key (to_list vs) p is
  among_listed d p is = absurd (true≢false (sym is))

  abbrev IsListedKey : List PureValue → Key → Type 0
  IsListedKey vs q = (p : List ℕ) × (q ≡ key l (Name p)) × (list_any (same_value (text p)) vs ≡ true)

  of_value : (v : PureValue) (vs : List PureValue) (q : Key) → IsTrue (is_among q (name_keys l (text_and v (texts_of vs)))) → (IsTrue (is_among q (name_keys l (texts_of vs))) → IsListedKey vs q) → IsListedKey (v ∷ vs) q
  of_value v vs q among later = by_value v among
    where
      more : (w : PureValue) → IsListedKey vs q → IsListedKey (w ∷ vs) q
      more w n = (n.0, n.1, or_second (same_value (text n.0) w) (list_any (same_value (text n.0)) vs) n.2)

      by_value : (w : PureValue) → IsTrue (is_among q (name_keys l (text_and w (texts_of vs)))) → IsListedKey (w ∷ vs) q
      by_value (text p) in_keys = ⊎_elim
          (λ here. (p, same_key q (key l (Name p)) here, or_first (same_value (text p) (text p)) (list_any (same_value (text p)) vs) ((same_value-Decides (text p) (text p)).1 refl)))
          (λ rest. more (text p) (later rest))
          (or_of (key_eq q (key l (Name p))) (is_among q (name_keys l (texts_of vs))) in_keys)
      by_value (integer n) in_keys = more (integer n) (later in_keys)
      by_value (boolean b) in_keys = more (boolean b) (later in_keys)
      by_value (symbol n) in_keys = more (symbol n) (later in_keys)
      by_value (kind k) in_keys = more (kind k) (later in_keys)
      by_value (procedure f) in_keys = more (procedure f) (later in_keys)
      by_value (list ws) in_keys = more (list ws) (later in_keys)

  key_listed : (vs : List PureValue) (q : Key) → IsTrue (is_among q (name_keys l (texts_of vs))) → IsListedKey vs q
  key_listed [] q among = absurd (true≢false (sym among))
  key_listed (v ∷ vs) q among = of_value v vs q among (key_listed vs q)

  pub listed_among : (d : PureValue) (q : Key) → IsTrue (is_among q (name_keys l (names_of d))) → (p : List ℕ) × (q ≡ key l (Name p)) × IsTrue (lists_name d p)
  listed_among (list vs) q among = key_listed (to_list vs) q among
  listed_among d q among = absurd (true≢false (sym among))
