-- The conditions on a new chunk tell whether its key may stand by itself, and beside the key of another chunk.
use Rattle.std.proofs.Common.{◌≡◌, ◌⊎◌, ⊎_elim, ℕ, nat_eq, ℤ, pos, List, Bool, true, false, if◌then◌else◌, Some, IsTrue, refl, sym, ap, subst, ◌∙◌, true≢false}
use Rattle.std.specs.Prelude.{⊤}
use Rattle.std.specs.FinMap.{empty}
use Rattle.std.proofs.lemmas.Bool.Decides.{Decides-eqb}
use Rattle.gil_values.specs.declared.kinds.Kind.{Kind}
use Rattle.gil_values.specs.Pure.{PureValue, symbol, text, integer, boolean, list, kind_of, to_list-from_list as values_back}
use Rattle.core_production.specs.Producing.{are_names, is_right, needs_form, listed_unless_open, fits, has_open_names}
use Rattle.sym_chunks.proofs.NameLists.{list_value, listed_holds, holds_listed, distinct_holds, holds_distinct}
use Rattle.core_uses.proofs.ListingLaws.{key_parts}
use Rattle.mem_model.specs.declared.keys.Key.{Key}
use Rattle.mem_model.specs.declared.keys.Sub.{Sub}
use Rattle.mem_model.specs.declared.keys.Sub.TheVariants.{Name, At, Shape, Bound, Dom, Proto, Gone}
use Rattle.mem_model.specs.Cores.{one_key, IsWithin, FitTogether}
use Rattle.mem_model.specs.Heaps.{Heap, Holds, HasKey, HoldsNames, IsWellFormed}
use Rattle.mem_model.specs.Keys.{key}
use Rattle.mem_model.specs.KeyOrder.{variant_number}
use Rattle.mem_model.specs.Names.{is_name_list, are_distinct_texts, lists_name}
use Rattle.mem_model.proofs.Holding.{held_inserted, inserted_holds}
use Rattle.mem_model.proofs.Joins.{value_at, has_key}
use Rattle.mem_model.proofs.Parts.{no_key}
use Rattle.pure_terms.specs.declared.literals.Literal.{Literal}
use Rattle.pure_terms.specs.declared.variables.Sort.{Sort}
use Rattle.pure_terms.specs.Meaning.{value, IsProper, IsOver}
use Rattle.pure_terms.specs.Pure.{PureTerm, literal, variable, list_of, unary_of, binary_of}
use Rattle.sym_chunks.specs.NameTerms.{listed}
use Rattle.sym_chunks.specs.Ordering.{at_most, less, inside}
use Rattle.sym_chunks.proofs.Facts.{name_from, cell_from, same_names, same_cells, same_texts, same_integers}
use Rattle.sym_chunks.proofs.OrderLaws.{less_tells, at_most_tells}
use Rattle.sym_chunks.proofs.Readings.{over_elements, over_literal}
use Rattle.sym_model.specs.Alternatives.{Alternatives, Hold, always, same, other, of_kind}
use Rattle.sym_model.specs.ConditionLaws.{HaveBoth}
use Rattle.sym_model.proofs.Combined.{both_from, both_parts, always_true}
use Rattle.sym_model.proofs.Telling.{other_tells, of_kind_tells}
use Rattle.sym_model.specs.Cores.{zero_term}
use Rattle.sym_model.specs.Lists.{Each}
use Rattle.sym_model.specs.Meaning.{location_of, name_of, cell_of, sub_value, key_of, key_value}
use Rattle.sym_model.specs.Pure.{PureSub, named, cell, shape, bound, dom, proto, gone, sub_terms}
use Rattle.sym_model.proofs.Asking.{symbol_of_kind}
use Rattle.sym_model.proofs.ListLaws.{same_some}

pub not_same : (m n : ℕ) → nat_eq m n ≡ false → ¬ (m ≡ n)
not_same m n differ e = true≢false (sym ((Decides-eqb m n).1 e) ∙ differ)

-- a name beside a list of names whose literal form is needed
abbrev pub is_open_beside : PureSub → PureSub → PureTerm → Bool
is_open_beside (named p) u x = has_open_names u x
is_open_beside s u x = false

-- ---- one key by itself

-- what a key holds, whatever else the heap has
abbrev pub IsAlone : Sub → PureValue → Type 0
IsAlone Shape w = IsTrue (is_name_list w)
IsAlone Bound w = (n : ℤ) × (w ≡ integer n)
IsAlone Dom w = IsTrue (is_name_list w)
IsAlone Gone w = w ≡ boolean true
IsAlone s w = ⊤

pub held_alone : (h : Heap) (k : Key) (w : PureValue) → IsWellFormed h → Holds h k w → IsAlone k.sub w
held_alone h k w well held = by k.sub held
  where
    by : (s : Sub) → Holds h (key k.loc s) w → IsAlone s w
    by Shape is = well.name_lists k.loc Shape w tt is
    by Bound is = well.bound_is_number k.loc w is
    by Dom is = well.name_lists k.loc Dom w tt is
    by Gone is = well.gone_is_true k.loc w is
    by (Name p) is = tt
    by (At i) is = tt
    by Proto is = tt

module _ (k : Key) (w : PureValue) where
  single : (q : Key) (u : PureValue) → Holds (one_key k w) q u → (q ≡ k) × (u ≡ w)
  single q u is = ⊎_elim (λ new. new) (λ none. absurd (no_key q (has_key empty q u none.1))) (held_inserted empty k q w u is)

  pub at_key : (q : Key) → HasKey (one_key k w) q → q ≡ k
  at_key q has = let (u, held) = value_at (one_key k w) q has in (single q u held).0

  same_sub_of : (l : ℕ) (s t : Sub) → key l s ≡ k → key l t ≡ k → s ≡ t
  same_sub_of l s t first second = ap (λ (q : Key). q.sub) (first ∙ sym second)

  sub_is : (l : ℕ) (s : Sub) → key l s ≡ k → k.sub ≡ s
  sub_is l s e = ap (λ (q : Key). q.sub) (sym e)

  holds_no_name : (s : Sub) (p : List ℕ) → HoldsNames s → s ≡ Name p → ⊥
  holds_no_name Shape p names e = not_same 2 0 refl (ap variant_number e)
  holds_no_name Dom p names e = not_same 4 0 refl (ap variant_number e)
  holds_no_name s p names e = absurd names

  names_alone : (s : Sub) (d : PureValue) → HoldsNames s → k.sub ≡ s → d ≡ w → IsAlone k.sub w → IsTrue (is_name_list d)
  names_alone Shape d names e same alone = ap is_name_list same ∙ subst (λ s. IsAlone s w) e alone
  names_alone Dom d names e same alone = ap is_name_list same ∙ subst (λ s. IsAlone s w) e alone
  names_alone s d names e same alone = absurd names

  pub alone_well_formed : IsAlone k.sub w → IsWellFormed (one_key k w)
  alone_well_formed alone = record {
    gone_alone = λ l s is_gone has. same_sub_of l s Gone (at_key (key l s) has) (at_key (key l Gone) is_gone);
    gone_is_true = λ l u is. let one = single (key l Gone) u is in one.1 ∙ subst (λ s. IsAlone s w) (sub_is l Gone one.0) alone;
    name_lists = λ l s d names is. let one = single (key l s) d is in names_alone s d names (sub_is l s one.0) one.1 alone;
    names_listed = λ l s d names is p has. absurd (holds_no_name s p names (same_sub_of l s (Name p) (single (key l s) d is).0 (at_key (key l (Name p)) has)));
    bound_is_number = λ l u is.
        let one = single (key l Bound) u is in
        let (n, e) = subst (λ s. IsAlone s w) (sub_is l Bound one.0) alone in
        (n, one.1 ∙ e);
    cells_in_bound = λ l n i is has. absurd (not_same 3 1 refl (ap variant_number (same_sub_of l Bound (At i) (single (key l Bound) (integer n) is).0 (at_key (key l (At i)) has))));
    one_descriptor = λ l s t a b has also. same_sub_of l s t (at_key (key l s) has) (at_key (key l t) also);
  }

  pub well_formed_alone : IsWellFormed (one_key k w) → IsAlone k.sub w
  well_formed_alone well = held_alone (one_key k w) k w well (inserted_holds empty k w)

-- ---- literals hold no names

no_names : (k : Literal) (v : List PureValue) (w : PureValue) (n : List ℕ) → value v (literal k) ≡ Some w → lists_name w n ≡ false
no_names (Literal.Int m) v w n is = ap (λ u. lists_name u n) (sym (same_some is))
no_names (Literal.Bool m) v w n is = ap (λ u. lists_name u n) (sym (same_some is))
no_names (Literal.Str m) v w n is = ap (λ u. lists_name u n) (sym (same_some is))
no_names (Literal.Kind m) v w n is = ap (λ u. lists_name u n) (sym (same_some is))
no_names (Literal.Proc m) v w n is = ap (λ u. lists_name u n) (sym (same_some is))

pub no_list_literal : (k : Literal) (v : List PureValue) → Hold v (of_kind (literal k) Kind.List) → ⊥
no_list_literal (Literal.Int n) v holds = holds
no_list_literal (Literal.Bool n) v holds = holds
no_list_literal (Literal.Str n) v holds = holds
no_list_literal (Literal.Kind n) v holds = holds
no_list_literal (Literal.Proc n) v holds = holds

text_is : (w : PureValue) → kind_of w ≡ Kind.Str → (n : List ℕ) × (w ≡ text n)
text_is (text n) e = (n, refl)
text_is w e = cc

number_is : (w : PureValue) → kind_of w ≡ Kind.Int → (n : ℤ) × (w ≡ integer n)
number_is (integer n) e = (n, refl)
number_is w e = cc

names_are_list : (w : PureValue) → is_name_list w ≡ true → kind_of w ≡ Kind.List
names_are_list (list ws) e = refl
names_are_list w e = absurd (true≢false (sym e))

-- ---- subkeys with what they stand for

module _ (vars : List Sort) (v : List PureValue) (proper : IsProper vars v) where
  -- the values of a subkey's terms
  abbrev pub Told : PureSub → Type 0
  Told (named p) = (n : List ℕ) × (IsOver vars p × (value v p ≡ Some (text n)))
  Told (cell i) = (n : ℤ) × (IsOver vars i × (value v i ≡ Some (integer n)))
  Told s = ⊤

  abbrev pub sub_told : (s : PureSub) → Told s → Sub
  sub_told (named p) d = Name d.0
  sub_told (cell i) d = At d.0
  sub_told shape d = Shape
  sub_told bound d = Bound
  sub_told dom d = Dom
  sub_told proto d = Proto
  sub_told gone d = Gone

  pub told_of : (s : PureSub) (k : Sub) → Each (IsOver vars) (sub_terms s) → sub_value v s ≡ Some k → (d : Told s) × (sub_told s d ≡ k)
  told_of (named p) k over is = let (n, (has, e)) = name_from v (value v p) k is in ((n, (over.0, has)), sym e)
  told_of (cell i) k over is = let (n, (has, e)) = cell_from v (value v i) k is in ((n, (over.0, has)), sym e)
  told_of shape k over is = (tt, same_some is)
  told_of bound k over is = (tt, same_some is)
  told_of dom k over is = (tt, same_some is)
  told_of proto k over is = (tt, same_some is)
  told_of gone k over is = (tt, same_some is)

  -- ---- a name and a list of names

  name_listed : (p : PureTerm) (d : Told (named p)) (x : PureTerm) (y : PureValue) → IsOver vars x → value v x ≡ Some y → needs_form x ≡ false → Hold v (listed p x) → IsTrue (lists_name y d.0)
  name_listed p d (list_of ts) y over is closed holds = listed_holds vars v proper p d.0 d.1.0 d.1.1 ts y over is holds
  name_listed p d x y over is closed holds = absurd holds

  listed_by : (p : PureTerm) (d : Told (named p)) (x : PureTerm) (y : PureValue) → IsOver vars x → value v x ≡ Some y → (b : Bool) → needs_form x ≡ b → b ≡ false → Hold v (if b then always else listed p x) → IsTrue (lists_name y d.0)
  listed_by p d x y over is true form closed holds = absurd (true≢false closed)
  listed_by p d x y over is false form closed holds = name_listed p d x y over is form holds

  listed_told : (p : PureTerm) (d : Told (named p)) (x : PureTerm) (y : PureValue) → IsOver vars x → value v x ≡ Some y → needs_form x ≡ false → Hold v (listed_unless_open p x) → IsTrue (lists_name y d.0)
  listed_told p d x y over is closed holds = listed_by p d x y over is (needs_form x) refl closed holds

  told_listed : (p : PureTerm) (d : Told (named p)) (x : PureTerm) (y : PureValue) → IsOver vars x → value v x ≡ Some y → IsTrue (lists_name y d.0) → Hold v (listed_unless_open p x)
  told_listed p d (list_of ts) y over is has = holds_listed vars v proper p d.0 d.1.0 d.1.1 ts y over is has
  told_listed p d (literal k) y over is has = absurd (true≢false (sym has ∙ no_names k v y d.0 is))
  told_listed p d (variable x) y over is has = always_true v
  told_listed p d (unary_of op x) y over is has = always_true v
  told_listed p d (binary_of op x z) y over is has = always_true v

  -- ---- an offset and a bound

  module _ (i : PureTerm) (d : Told (cell i)) (x : PureTerm) (y : PureValue) (over : IsOver vars x) (is : value v x ≡ Some y) where
    from_zero : HaveBoth vars v zero_term i (integer (pos 0)) (integer d.0)
    from_zero = record { proper = proper; first_over = over_literal vars (Literal.Int (pos 0)); second_over = d.1.0; first = refl; second = d.1.1 }

    up_to : (m : ℤ) → y ≡ integer m → HaveBoth vars v i x (integer d.0) (integer m)
    up_to m e = record { proper = proper; first_over = d.1.0; second_over = over; first = d.1.1; second = is ∙ ap Some e }

    inside_told : IsAlone Bound y → Hold v (inside i x) → IsWithin y d.0
    inside_told (m, e) holds =
        let parts = both_parts v (at_most zero_term i) (less i x) holds in
        subst (λ z. IsWithin z d.0) (sym e) (
          (at_most_tells vars v zero_term i (pos 0) d.0 from_zero).0 parts.0,
          (less_tells vars v i x d.0 m (up_to m e)).0 parts.1,
        )

    told_inside : IsAlone Bound y → IsWithin y d.0 → Hold v (inside i x)
    told_inside (m, e) fit =
        let within = subst (λ z. IsWithin z d.0) e fit in
        both_from v (at_most zero_term i) (less i x)
        ((at_most_tells vars v zero_term i (pos 0) d.0 from_zero).1 within.0)
        ((less_tells vars v i x d.0 m (up_to m e)).1 within.1)

  -- ---- two names, two cells

  two_names : (p q : PureTerm) (d : Told (named p)) (e : Told (named q)) → HaveBoth vars v p q (text d.0) (text e.0)
  two_names p q d e = record { proper = proper; first_over = d.1.0; second_over = e.1.0; first = d.1.1; second = e.1.1 }

  names_differ : (p q : PureTerm) (d : Told (named p)) (e : Told (named q)) → Hold v (other p q) → ¬ (Name d.0 ≡ Name e.0)
  names_differ p q d e holds same = (other_tells vars v p q (text d.0) (text e.0) (two_names p q d e)).0 holds (ap text (same_names same))

  differ_names : (p q : PureTerm) (d : Told (named p)) (e : Told (named q)) → ¬ (Name d.0 ≡ Name e.0) → Hold v (other p q)
  differ_names p q d e differ = (other_tells vars v p q (text d.0) (text e.0) (two_names p q d e)).1 (λ same. differ (ap Name (same_texts same)))

  two_cells : (p q : PureTerm) (d : Told (cell p)) (e : Told (cell q)) → HaveBoth vars v p q (integer d.0) (integer e.0)
  two_cells p q d e = record { proper = proper; first_over = d.1.0; second_over = e.1.0; first = d.1.1; second = e.1.1 }

  cells_differ : (p q : PureTerm) (d : Told (cell p)) (e : Told (cell q)) → Hold v (other p q) → ¬ (At d.0 ≡ At e.0)
  cells_differ p q d e holds same = (other_tells vars v p q (integer d.0) (integer e.0) (two_cells p q d e)).0 holds (ap integer (same_cells same))

  differ_cells : (p q : PureTerm) (d : Told (cell p)) (e : Told (cell q)) → ¬ (At d.0 ≡ At e.0) → Hold v (other p q)
  differ_cells p q d e differ = (other_tells vars v p q (integer d.0) (integer e.0) (two_cells p q d e)).1 (λ same. differ (ap At (same_integers same)))

  -- ---- two chunks of one location

  module _ (t x : PureTerm) (w y : PureValue) (over_t : IsOver vars t) (over_x : IsOver vars x) (is_t : value v t ≡ Some w) (is_x : value v x ≡ Some y) where
    -- they have different keys
    pub fits_differ : (s u : PureSub) (d : Told s) (e : Told u) → Hold v (fits s t u x) → ¬ (sub_told s d ≡ sub_told u e)
    fits_differ (named p) (named q) d e holds = names_differ p q d e holds
    fits_differ (named p) (cell q) d e holds = (λ same. not_same 0 1 refl (ap variant_number same))
    fits_differ (named p) shape d e holds = (λ same. not_same 0 2 refl (ap variant_number same))
    fits_differ (named p) bound d e holds = (λ same. not_same 0 3 refl (ap variant_number same))
    fits_differ (named p) dom d e holds = (λ same. not_same 0 4 refl (ap variant_number same))
    fits_differ (named p) proto d e holds = (λ same. not_same 0 5 refl (ap variant_number same))
    fits_differ (named p) gone d e holds = absurd holds
    fits_differ (cell p) (named q) d e holds = (λ same. not_same 1 0 refl (ap variant_number same))
    fits_differ (cell p) (cell q) d e holds = cells_differ p q d e holds
    fits_differ (cell p) shape d e holds = (λ same. not_same 1 2 refl (ap variant_number same))
    fits_differ (cell p) bound d e holds = (λ same. not_same 1 3 refl (ap variant_number same))
    fits_differ (cell p) dom d e holds = (λ same. not_same 1 4 refl (ap variant_number same))
    fits_differ (cell p) proto d e holds = (λ same. not_same 1 5 refl (ap variant_number same))
    fits_differ (cell p) gone d e holds = absurd holds
    fits_differ shape (named q) d e holds = (λ same. not_same 2 0 refl (ap variant_number same))
    fits_differ shape (cell q) d e holds = (λ same. not_same 2 1 refl (ap variant_number same))
    fits_differ shape shape d e holds = absurd holds
    fits_differ shape bound d e holds = absurd holds
    fits_differ shape dom d e holds = absurd holds
    fits_differ shape proto d e holds = (λ same. not_same 2 5 refl (ap variant_number same))
    fits_differ shape gone d e holds = absurd holds
    fits_differ bound (named q) d e holds = (λ same. not_same 3 0 refl (ap variant_number same))
    fits_differ bound (cell q) d e holds = (λ same. not_same 3 1 refl (ap variant_number same))
    fits_differ bound shape d e holds = absurd holds
    fits_differ bound bound d e holds = absurd holds
    fits_differ bound dom d e holds = absurd holds
    fits_differ bound proto d e holds = (λ same. not_same 3 5 refl (ap variant_number same))
    fits_differ bound gone d e holds = absurd holds
    fits_differ dom (named q) d e holds = (λ same. not_same 4 0 refl (ap variant_number same))
    fits_differ dom (cell q) d e holds = (λ same. not_same 4 1 refl (ap variant_number same))
    fits_differ dom shape d e holds = absurd holds
    fits_differ dom bound d e holds = absurd holds
    fits_differ dom dom d e holds = absurd holds
    fits_differ dom proto d e holds = (λ same. not_same 4 5 refl (ap variant_number same))
    fits_differ dom gone d e holds = absurd holds
    fits_differ proto (named q) d e holds = (λ same. not_same 5 0 refl (ap variant_number same))
    fits_differ proto (cell q) d e holds = (λ same. not_same 5 1 refl (ap variant_number same))
    fits_differ proto shape d e holds = (λ same. not_same 5 2 refl (ap variant_number same))
    fits_differ proto bound d e holds = (λ same. not_same 5 3 refl (ap variant_number same))
    fits_differ proto dom d e holds = (λ same. not_same 5 4 refl (ap variant_number same))
    fits_differ proto proto d e holds = absurd holds
    fits_differ proto gone d e holds = absurd holds
    fits_differ gone (named q) d e holds = absurd holds
    fits_differ gone (cell q) d e holds = absurd holds
    fits_differ gone shape d e holds = absurd holds
    fits_differ gone bound d e holds = absurd holds
    fits_differ gone dom d e holds = absurd holds
    fits_differ gone proto d e holds = absurd holds
    fits_differ gone gone d e holds = absurd holds

    -- which stand together, where no list of names is left open
    pub fits_together : (s u : PureSub) (d : Told s) (e : Told u) → IsAlone (sub_told s d) w → IsAlone (sub_told u e) y → has_open_names s t ≡ false → is_open_beside s u x ≡ false → Hold v (fits s t u x) → FitTogether (sub_told s d) w (sub_told u e) y
    fits_together (named p) (named q) d e alone_t alone_x closed_t closed_x holds = tt
    fits_together (named p) (cell q) d e alone_t alone_x closed_t closed_x holds = tt
    fits_together (named p) shape d e alone_t alone_x closed_t closed_x holds = listed_told p d x y over_x is_x closed_x holds
    fits_together (named p) bound d e alone_t alone_x closed_t closed_x holds = tt
    fits_together (named p) dom d e alone_t alone_x closed_t closed_x holds = listed_told p d x y over_x is_x closed_x holds
    fits_together (named p) proto d e alone_t alone_x closed_t closed_x holds = tt
    fits_together (named p) gone d e alone_t alone_x closed_t closed_x holds = absurd holds
    fits_together (cell p) (named q) d e alone_t alone_x closed_t closed_x holds = tt
    fits_together (cell p) (cell q) d e alone_t alone_x closed_t closed_x holds = tt
    fits_together (cell p) shape d e alone_t alone_x closed_t closed_x holds = tt
    fits_together (cell p) bound d e alone_t alone_x closed_t closed_x holds = inside_told p d x y over_x is_x alone_x holds
    fits_together (cell p) dom d e alone_t alone_x closed_t closed_x holds = tt
    fits_together (cell p) proto d e alone_t alone_x closed_t closed_x holds = tt
    fits_together (cell p) gone d e alone_t alone_x closed_t closed_x holds = absurd holds
    fits_together shape (named q) d e alone_t alone_x closed_t closed_x holds = listed_told q e t w over_t is_t closed_t holds
    fits_together shape (cell q) d e alone_t alone_x closed_t closed_x holds = tt
    fits_together shape shape d e alone_t alone_x closed_t closed_x holds = absurd holds
    fits_together shape bound d e alone_t alone_x closed_t closed_x holds = absurd holds
    fits_together shape dom d e alone_t alone_x closed_t closed_x holds = absurd holds
    fits_together shape proto d e alone_t alone_x closed_t closed_x holds = tt
    fits_together shape gone d e alone_t alone_x closed_t closed_x holds = absurd holds
    fits_together bound (named q) d e alone_t alone_x closed_t closed_x holds = tt
    fits_together bound (cell q) d e alone_t alone_x closed_t closed_x holds = inside_told q e t w over_t is_t alone_t holds
    fits_together bound shape d e alone_t alone_x closed_t closed_x holds = absurd holds
    fits_together bound bound d e alone_t alone_x closed_t closed_x holds = absurd holds
    fits_together bound dom d e alone_t alone_x closed_t closed_x holds = absurd holds
    fits_together bound proto d e alone_t alone_x closed_t closed_x holds = tt
    fits_together bound gone d e alone_t alone_x closed_t closed_x holds = absurd holds
    fits_together dom (named q) d e alone_t alone_x closed_t closed_x holds = listed_told q e t w over_t is_t closed_t holds
    fits_together dom (cell q) d e alone_t alone_x closed_t closed_x holds = tt
    fits_together dom shape d e alone_t alone_x closed_t closed_x holds = absurd holds
    fits_together dom bound d e alone_t alone_x closed_t closed_x holds = absurd holds
    fits_together dom dom d e alone_t alone_x closed_t closed_x holds = absurd holds
    fits_together dom proto d e alone_t alone_x closed_t closed_x holds = tt
    fits_together dom gone d e alone_t alone_x closed_t closed_x holds = absurd holds
    fits_together proto (named q) d e alone_t alone_x closed_t closed_x holds = tt
    fits_together proto (cell q) d e alone_t alone_x closed_t closed_x holds = tt
    fits_together proto shape d e alone_t alone_x closed_t closed_x holds = tt
    fits_together proto bound d e alone_t alone_x closed_t closed_x holds = tt
    fits_together proto dom d e alone_t alone_x closed_t closed_x holds = tt
    fits_together proto proto d e alone_t alone_x closed_t closed_x holds = absurd holds
    fits_together proto gone d e alone_t alone_x closed_t closed_x holds = absurd holds
    fits_together gone (named q) d e alone_t alone_x closed_t closed_x holds = absurd holds
    fits_together gone (cell q) d e alone_t alone_x closed_t closed_x holds = absurd holds
    fits_together gone shape d e alone_t alone_x closed_t closed_x holds = absurd holds
    fits_together gone bound d e alone_t alone_x closed_t closed_x holds = absurd holds
    fits_together gone dom d e alone_t alone_x closed_t closed_x holds = absurd holds
    fits_together gone proto d e alone_t alone_x closed_t closed_x holds = absurd holds
    fits_together gone gone d e alone_t alone_x closed_t closed_x holds = absurd holds

    -- and the conditions hold where they do
    pub fits_from : (s u : PureSub) (d : Told s) (e : Told u) → IsAlone (sub_told s d) w → IsAlone (sub_told u e) y → ¬ (sub_told s d ≡ sub_told u e) → FitTogether (sub_told s d) w (sub_told u e) y → Hold v (fits s t u x)
    fits_from (named p) (named q) d e alone_t alone_x differ fit = differ_names p q d e differ
    fits_from (named p) (cell q) d e alone_t alone_x differ fit = always_true v
    fits_from (named p) shape d e alone_t alone_x differ fit = told_listed p d x y over_x is_x fit
    fits_from (named p) bound d e alone_t alone_x differ fit = always_true v
    fits_from (named p) dom d e alone_t alone_x differ fit = told_listed p d x y over_x is_x fit
    fits_from (named p) proto d e alone_t alone_x differ fit = always_true v
    fits_from (named p) gone d e alone_t alone_x differ fit = absurd fit
    fits_from (cell p) (named q) d e alone_t alone_x differ fit = always_true v
    fits_from (cell p) (cell q) d e alone_t alone_x differ fit = differ_cells p q d e differ
    fits_from (cell p) shape d e alone_t alone_x differ fit = always_true v
    fits_from (cell p) bound d e alone_t alone_x differ fit = told_inside p d x y over_x is_x alone_x fit
    fits_from (cell p) dom d e alone_t alone_x differ fit = always_true v
    fits_from (cell p) proto d e alone_t alone_x differ fit = always_true v
    fits_from (cell p) gone d e alone_t alone_x differ fit = absurd fit
    fits_from shape (named q) d e alone_t alone_x differ fit = told_listed q e t w over_t is_t fit
    fits_from shape (cell q) d e alone_t alone_x differ fit = always_true v
    fits_from shape shape d e alone_t alone_x differ fit = absurd (differ refl)
    fits_from shape bound d e alone_t alone_x differ fit = absurd fit
    fits_from shape dom d e alone_t alone_x differ fit = absurd fit
    fits_from shape proto d e alone_t alone_x differ fit = always_true v
    fits_from shape gone d e alone_t alone_x differ fit = absurd fit
    fits_from bound (named q) d e alone_t alone_x differ fit = always_true v
    fits_from bound (cell q) d e alone_t alone_x differ fit = told_inside q e t w over_t is_t alone_t fit
    fits_from bound shape d e alone_t alone_x differ fit = absurd fit
    fits_from bound bound d e alone_t alone_x differ fit = absurd (differ refl)
    fits_from bound dom d e alone_t alone_x differ fit = absurd fit
    fits_from bound proto d e alone_t alone_x differ fit = always_true v
    fits_from bound gone d e alone_t alone_x differ fit = absurd fit
    fits_from dom (named q) d e alone_t alone_x differ fit = told_listed q e t w over_t is_t fit
    fits_from dom (cell q) d e alone_t alone_x differ fit = always_true v
    fits_from dom shape d e alone_t alone_x differ fit = absurd fit
    fits_from dom bound d e alone_t alone_x differ fit = absurd fit
    fits_from dom dom d e alone_t alone_x differ fit = absurd (differ refl)
    fits_from dom proto d e alone_t alone_x differ fit = always_true v
    fits_from dom gone d e alone_t alone_x differ fit = absurd fit
    fits_from proto (named q) d e alone_t alone_x differ fit = always_true v
    fits_from proto (cell q) d e alone_t alone_x differ fit = always_true v
    fits_from proto shape d e alone_t alone_x differ fit = always_true v
    fits_from proto bound d e alone_t alone_x differ fit = always_true v
    fits_from proto dom d e alone_t alone_x differ fit = always_true v
    fits_from proto proto d e alone_t alone_x differ fit = absurd (differ refl)
    fits_from proto gone d e alone_t alone_x differ fit = absurd fit
    fits_from gone (named q) d e alone_t alone_x differ fit = absurd fit
    fits_from gone (cell q) d e alone_t alone_x differ fit = absurd fit
    fits_from gone shape d e alone_t alone_x differ fit = absurd fit
    fits_from gone bound d e alone_t alone_x differ fit = absurd fit
    fits_from gone dom d e alone_t alone_x differ fit = absurd fit
    fits_from gone proto d e alone_t alone_x differ fit = absurd fit
    fits_from gone gone d e alone_t alone_x differ fit = absurd fit

  -- ---- a chunk by itself

  module _ (l t : PureTerm) (a w : PureValue) (over_l : IsOver vars l) (over_t : IsOver vars t) (is_l : value v l ≡ Some a) (is_t : value v t ≡ Some w) where
    -- the key, and what it holds
    abbrev pub Right : PureSub → Type 0
    Right s = (k : Key) × ((key_value v l s ≡ Some k) × IsAlone k.sub w)

    place : Hold v (of_kind l Kind.Sym) → (n : ℕ) × (value v l ≡ Some (symbol n))
    place holds =
        let (n, e) = symbol_of_kind a ((of_kind_tells vars v l Kind.Sym a proper over_l is_l).0 holds) in
        (n, is_l ∙ ap Some e)

    right_names : (x : Alternatives) (ds : PureTerm) → IsOver vars ds → value v ds ≡ Some w → needs_form ds ≡ false → Hold v (are_names x ds) → Hold v x × IsTrue (is_name_list w)
    right_names x (list_of ds) over is closed holds =
        let (ws, (have, whole)) = list_value v ds w is in
        let parts = distinct_holds vars v proper ds x ws have (over_elements vars ds over) holds in
        (parts.0, ap is_name_list whole ∙ ap are_distinct_texts (values_back ws) ∙ parts.1)
    right_names x (literal k) over is closed holds = absurd (no_list_literal k v (both_parts v x (of_kind (literal k) Kind.List) holds).1)
    right_names x (variable y) over is closed holds = absurd (true≢false closed)
    right_names x (unary_of op y) over is closed holds = absurd (true≢false closed)
    right_names x (binary_of op y z) over is closed holds = absurd (true≢false closed)

    plain_key : (s : PureSub) (u : Sub) → sub_value v s ≡ Some u → IsAlone u w → Hold v (of_kind l Kind.Sym) → Right s
    plain_key s u is alone holds = let (n, at) = place holds in (key n u, ((λ i. key_of (location_of (at i)) (is i)), alone))

    pub right_gives : (s : PureSub) → Each (IsOver vars) (sub_terms s) → Each (λ u. (b : PureValue) × (value v u ≡ Some b)) (sub_terms s) → (s ≡ gone → w ≡ boolean true) → has_open_names s t ≡ false → Hold v (is_right l s t) → Right s
    right_gives (named p) over have gone_true closed holds =
        let parts = both_parts v (of_kind l Kind.Sym) (of_kind p Kind.Str) holds in
        let (b, has) = have.0 in
        let (n, e) = text_is b ((of_kind_tells vars v p Kind.Str b proper over.0 has).0 parts.1) in
        plain_key (named p) (Name n) (ap name_of (has ∙ ap Some e)) tt parts.0
    right_gives (cell p) over have gone_true closed holds =
        let parts = both_parts v (of_kind l Kind.Sym) (of_kind p Kind.Int) holds in
        let (b, has) = have.0 in
        let (n, e) = number_is b ((of_kind_tells vars v p Kind.Int b proper over.0 has).0 parts.1) in
        plain_key (cell p) (At n) (ap cell_of (has ∙ ap Some e)) tt parts.0
    right_gives shape over have gone_true closed holds = let parts = right_names (of_kind l Kind.Sym) t over_t is_t closed holds in plain_key shape Shape refl parts.1 parts.0
    right_gives bound over have gone_true closed holds =
        let parts = both_parts v (of_kind l Kind.Sym) (of_kind t Kind.Int) holds in
        plain_key bound Bound refl (number_is w ((of_kind_tells vars v t Kind.Int w proper over_t is_t).0 parts.1)) parts.0
    right_gives dom over have gone_true closed holds = let parts = right_names (of_kind l Kind.Sym) t over_t is_t closed holds in plain_key dom Dom refl parts.1 parts.0
    right_gives proto over have gone_true closed holds = plain_key proto Proto refl tt holds
    right_gives gone over have gone_true closed holds = plain_key gone Gone refl (gone_true refl) holds

    names_right : (x : Alternatives) (ds : PureTerm) → IsOver vars ds → value v ds ≡ Some w → Hold v x → IsTrue (is_name_list w) → Hold v (are_names x ds)
    names_right x (list_of ds) over is holds names =
        let (ws, (have, whole)) = list_value v ds w is in
        holds_distinct vars v proper ds x ws have (over_elements vars ds over) holds (sym (ap is_name_list whole ∙ ap are_distinct_texts (values_back ws)) ∙ names)
    names_right x (literal k) over is holds names = both_from v x (of_kind (literal k) Kind.List) holds ((of_kind_tells vars v (literal k) Kind.List w proper over is).1 (names_are_list w names))
    names_right x (variable y) over is holds names = both_from v x (of_kind (variable y) Kind.List) holds ((of_kind_tells vars v (variable y) Kind.List w proper over is).1 (names_are_list w names))
    names_right x (unary_of op y) over is holds names = both_from v x (of_kind (unary_of op y) Kind.List) holds ((of_kind_tells vars v (unary_of op y) Kind.List w proper over is).1 (names_are_list w names))
    names_right x (binary_of op y z) over is holds names = both_from v x (of_kind (binary_of op y z) Kind.List) holds ((of_kind_tells vars v (binary_of op y z) Kind.List w proper over is).1 (names_are_list w names))

    placed : (n : ℕ) → value v l ≡ Some (symbol n) → Hold v (of_kind l Kind.Sym)
    placed n at = (of_kind_tells vars v l Kind.Sym (symbol n) proper over_l at).1 refl

    pub right_from : (s : PureSub) (k : Key) → Each (IsOver vars) (sub_terms s) → key_value v l s ≡ Some k → IsAlone k.sub w → Hold v (is_right l s t)
    right_from (named p) k over is alone =
        let parts = key_parts v l (named p) k is in
        let (n, (has, e)) = name_from v (value v p) k.sub parts.sub in
        both_from v (of_kind l Kind.Sym) (of_kind p Kind.Str) (placed k.loc parts.at) ((of_kind_tells vars v p Kind.Str (text n) proper over.0 has).1 refl)
    right_from (cell p) k over is alone =
        let parts = key_parts v l (cell p) k is in
        let (n, (has, e)) = cell_from v (value v p) k.sub parts.sub in
        both_from v (of_kind l Kind.Sym) (of_kind p Kind.Int) (placed k.loc parts.at) ((of_kind_tells vars v p Kind.Int (integer n) proper over.0 has).1 refl)
    right_from shape k over is alone = let parts = key_parts v l shape k is in names_right (of_kind l Kind.Sym) t over_t is_t (placed k.loc parts.at) (subst (λ s. IsAlone s w) (sym (same_some parts.sub)) alone)
    right_from bound k over is alone =
        let parts = key_parts v l bound k is in
        let (n, e) = subst (λ s. IsAlone s w) (sym (same_some parts.sub)) alone in
        both_from v (of_kind l Kind.Sym) (of_kind t Kind.Int) (placed k.loc parts.at) ((of_kind_tells vars v t Kind.Int w proper over_t is_t).1 (ap kind_of e))
    right_from dom k over is alone = let parts = key_parts v l dom k is in names_right (of_kind l Kind.Sym) t over_t is_t (placed k.loc parts.at) (subst (λ s. IsAlone s w) (sym (same_some parts.sub)) alone)
    right_from proto k over is alone = placed k.loc (key_parts v l proto k is).at
    right_from gone k over is alone = placed k.loc (key_parts v l gone k is).at
