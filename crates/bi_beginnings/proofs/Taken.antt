-- Keys that name a symbol which the run took: no heap has one whose part it names.
use Rattle.std.proofs.Common.{◌≡◌, ◌⊎◌, ⊎_elim, inl, inr, ℕ, pos, neg_ℤ, List, [], ◌∷◌, slice_get, true, Option, Some, None, refl, sym, ap, subst, ◌∙◌, true≢false}
use Rattle.gil_values.specs.Pure.{PureValue, integer, boolean, text, symbol, kind, procedure, list}
use Rattle.mem_model.specs.declared.keys.Key.{Key}
use Rattle.mem_model.specs.declared.keys.MemoryName.{MemoryName}
use Rattle.mem_model.specs.declared.keys.Sub.{Sub}
use Rattle.pure_terms.specs.declared.variables.Sort.{Sort}
use Rattle.pure_terms.specs.Kinds.{has_sort}
use Rattle.pure_terms.specs.Meaning.{value, IsProper, IsOver}
use Rattle.pure_terms.specs.Pure.{PureTerm, PureAtom}
use Rattle.sym_model.specs.Cores.{IsSubOf}
use Rattle.sym_model.specs.Lists.{Each, OneOf}
use Rattle.sym_model.specs.Meaning.{location_of, name_of, cell_of, sub_value, key_of, key_value}
use Rattle.sym_model.specs.Plain.{IsNarrowKey}
use Rattle.sym_model.specs.Pure.{PureSub, named, cell, shape, bound, dom, proto, gone, PureKey, sub_terms}
use Rattle.sym_model.specs.Terms.{AreEachOver}
use Rattle.sym_model.proofs.ListLaws.{not_none}
use Rattle.bi_beginnings.specs.Beginnings.{PureBeginning}
use Rattle.bi_beginnings.specs.Fixing.{IsKeyAtNewSymbol}
use Rattle.bi_beginnings.specs.Narrowly.{IsKeyOver, IsSymbolTaken, MissesNarrowly}

-- ---- names

no_name : (w : PureValue) → has_sort Sort.Fresh w ≡ true → (s : Sub) → name_of (Some w) ≡ Some s → ⊥
no_name (text p) fits s at = true≢false (sym fits)
no_name (integer i) fits s at = not_none at
no_name (boolean b) fits s at = not_none at
no_name (symbol n) fits s at = not_none at
no_name (kind k) fits s at = not_none at
no_name (procedure f) fits s at = not_none at
no_name (list ws) fits s at = not_none at

no_cell : (w : PureValue) → has_sort Sort.Fresh w ≡ true → (s : Sub) → cell_of (Some w) ≡ Some s → ⊥
no_cell (integer i) fits s at = true≢false (sym fits)
no_cell (text p) fits s at = not_none at
no_cell (boolean b) fits s at = not_none at
no_cell (symbol n) fits s at = not_none at
no_cell (kind k) fits s at = not_none at
no_cell (procedure f) fits s at = not_none at
no_cell (list ws) fits s at = not_none at

module _ (vars : List Sort) (v : List PureValue) (proper : IsProper vars v) where
  -- a symbol that was taken names neither a property nor a cell
  taken_name : (t : PureTerm) → IsSymbolTaken vars t → (s : Sub) → name_of (value v t) ≡ Some s → ⊥
  taken_name t (x, (is, taken)) s at = by (slice_get v x.number) refl (subst (λ u. name_of (value v u) ≡ Some s) is at)
    where
      by : (o : Option PureValue) → slice_get v x.number ≡ o → name_of o ≡ Some s → ⊥
      by (Some w) there named_so = no_name w (proper.sorts x.number Sort.Fresh w taken there) s named_so
      by None there named_so = not_none named_so

  taken_cell : (t : PureTerm) → IsSymbolTaken vars t → (s : Sub) → cell_of (value v t) ≡ Some s → ⊥
  taken_cell t (x, (is, taken)) s at = by (slice_get v x.number) refl (subst (λ u. cell_of (value v u) ≡ Some s) is at)
    where
      by : (o : Option PureValue) → slice_get v x.number ≡ o → cell_of o ≡ Some s → ⊥
      by (Some w) there named_so = no_cell w (proper.sorts x.number Sort.Fresh w taken there) s named_so
      by None there named_so = not_none named_so

  no_sub : (sub : PureSub) → OneOf (IsSymbolTaken vars) (sub_terms sub) → (s : Sub) → sub_value v sub ≡ Some s → ⊥
  no_sub (named t) one s at = ⊎_elim (λ taken. taken_name t taken s at) (λ none. none) one
  no_sub (cell t) one s at = ⊎_elim (λ taken. taken_cell t taken s at) (λ none. none) one
  no_sub shape one s at = one
  no_sub bound one s at = one
  no_sub dom one s at = one
  no_sub proto one s at = one
  no_sub gone one s at = one

  no_key : (l : Option ℕ) (o : Option Sub) (q : Key) → ((s : Sub) → o ≡ Some s → ⊥) → key_of l o ≡ Some q → ⊥
  no_key (Some n) (Some s) q none is = none s refl
  no_key (Some n) None q none is = not_none is
  no_key None o q none is = not_none is

  -- a key whose part is named so stands for none
  pub none_named : (key : PureKey) → OneOf (IsSymbolTaken vars) (sub_terms key.sub) → (q : Key) → key_value v key.loc key.sub ≡ Some q → ⊥
  none_named key one q is = no_key (location_of (value v key.loc)) (sub_value v key.sub) q (no_sub key.sub one) is

-- ---- narrow names

-- a narrow name whose part isn't named so is at a symbol that was taken, or names only what was there at the beginning
pub key_placed : (memory : MemoryName) (n : ℕ) (b : PureBeginning) (vars : List Sort) (conds : List PureAtom) (key : PureKey) → MissesNarrowly memory n b vars conds key
    → ¬ (OneOf (IsSymbolTaken vars) (sub_terms key.sub)) → IsKeyAtNewSymbol memory vars key ⊎ IsKeyOver b.vars key
key_placed memory n b vars conds key misses none = by key.sub refl
  where
    by : (s : PureSub) → key.sub ≡ s → IsKeyAtNewSymbol memory vars key ⊎ IsKeyOver b.vars key
    by (named p) is =
        let all = subst (λ u. Each (λ t. IsOver b.vars t ⊎ IsSymbolTaken vars t) (key.loc ∷ sub_terms u)) is misses.placed in
        ⊎_elim
        (λ loc_over. ⊎_elim (λ name_over. inr (subst (λ u. AreEachOver b.vars (key.loc ∷ sub_terms u)) (sym is) (loc_over, (name_over, tt))))
        (λ taken. absurd (none (subst (λ u. OneOf (IsSymbolTaken vars) (sub_terms u)) (sym is) (inl taken)))) all.1.0)
        (λ taken. inl (record { of_memory = subst (IsSubOf memory) (sym is) misses.has_names; location = taken.0; is_location = taken.1.0; taken = taken.1.1 })) all.0
    by (cell p) is = absurd (subst (IsNarrowKey (neg_ℤ (pos n)) (pos n) key.loc) is misses.narrow_key)
    by shape is = absurd (subst (IsNarrowKey (neg_ℤ (pos n)) (pos n) key.loc) is misses.narrow_key)
    by bound is = absurd (subst (IsNarrowKey (neg_ℤ (pos n)) (pos n) key.loc) is misses.narrow_key)
    by dom is = absurd (subst (IsNarrowKey (neg_ℤ (pos n)) (pos n) key.loc) is misses.narrow_key)
    by proto is = absurd (subst (IsNarrowKey (neg_ℤ (pos n)) (pos n) key.loc) is misses.narrow_key)
    by gone is = absurd (subst (IsNarrowKey (neg_ℤ (pos n)) (pos n) key.loc) is misses.narrow_key)

-- the key is one of the memory
pub narrow_sub : (memory : MemoryName) (n : ℕ) (b : PureBeginning) (vars : List Sort) (conds : List PureAtom) (key : PureKey) → MissesNarrowly memory n b vars conds key → IsSubOf memory key.sub
narrow_sub memory n b vars conds key misses = by key.sub misses.narrow_key
  where
    by : (s : PureSub) → IsNarrowKey (neg_ℤ (pos n)) (pos n) key.loc s → IsSubOf memory s
    by (named p) narrow = misses.has_names
    by (cell p) narrow = absurd narrow
    by shape narrow = absurd narrow
    by bound narrow = absurd narrow
    by dom narrow = absurd narrow
    by proto narrow = absurd narrow
    by gone narrow = absurd narrow
