-- What the conditions on a chunk say of its key, under a valuation that serves.
use Rattle.std.proofs.Common.{◌≡◌, ◌↔◌, ℕ, ℤ, List, Option, Some, None, refl, sym, ap, ◌∙◌, arith}
use Rattle.gil_values.specs.Pure.{PureValue, symbol, text, integer}
use Rattle.mem_model.specs.declared.keys.Key.{Key}
use Rattle.mem_model.specs.declared.keys.Sub.{Sub}
use Rattle.mem_model.specs.declared.keys.Sub.TheVariants.{Name, At}
use Rattle.mem_model.specs.Keys.{key}
use Rattle.mem_model.specs.KeyOrder.{variant_number}
use Rattle.mem_model.specs.Heaps.{Heap, Holds}
use Rattle.pure_terms.specs.declared.variables.Sort.{Sort}
use Rattle.pure_terms.specs.Meaning.{value, IsProper, IsOver}
use Rattle.pure_terms.specs.Pure.{PureTerm}
use Rattle.sym_chunks.specs.Keys.{same_sub, other_sub, at_key}
use Rattle.sym_chunks.specs.Laws.{IsLocation, IsKeyOf, KeysAreTold}
use Rattle.sym_model.specs.Alternatives.{Hold, same}
use Rattle.sym_model.specs.ConditionLaws.{HaveBoth}
use Rattle.sym_model.proofs.Combined.{both_from, both_parts, always_true}
use Rattle.sym_model.proofs.Telling.{same_tells, other_tells}
use Rattle.sym_model.specs.Chunks.{IsEntry, IsUnion}
use Rattle.sym_model.specs.Lists.{Each}
use Rattle.sym_model.specs.Meaning.{location_of, name_of, cell_of, sub_value, key_of}
use Rattle.sym_model.specs.Pure.{PureSub, named, cell, shape, bound, dom, proto, gone, PureChunk, sub_terms}
use Rattle.sym_model.proofs.ListLaws.{same_some, not_none, each_by_place, each_at}
use Rattle.sym_model.proofs.ChunkMeaning.{ChunkTerms, loc_value}
use Rattle.sym_model.proofs.Unions.{chunk_entry}

pub same_symbols : {m n : ℕ} → symbol m ≡ symbol n → m ≡ n
same_symbols e = cc

pub same_texts : {p q : List ℕ} → text p ≡ text q → p ≡ q
same_texts e = cc

pub same_names : {p q : List ℕ} → Name p ≡ Name q → p ≡ q
same_names e = cc

pub same_integers : {m n : ℤ} → integer m ≡ integer n → m ≡ n
same_integers e = cc

pub same_cells : {m n : ℤ} → At m ≡ At n → m ≡ n
same_cells e = cc

-- the number of a symbolic subkey's variant, as that of a subkey
abbrev pub kind_number : PureSub → ℕ
kind_number (named t) = 0
kind_number (cell t) = 1
kind_number shape = 2
kind_number bound = 3
kind_number dom = 4
kind_number proto = 5
kind_number gone = 6

-- a chunk with its key, its value, and its terms in the table
pub record Fact (vars : List Sort) (v : List PureValue) (h : Heap) (c : PureChunk) : Type 0 where
  pub k : Key
  pub w : PureValue
  pub entry : IsEntry v c k w
  pub held : Holds h k w
  pub over : ChunkTerms (IsOver vars) c

pub keys_equal : (k : Key) (l : ℕ) (s : Sub) → k.loc ≡ l → k.sub ≡ s → k ≡ key l s
keys_equal k l s locs subs = λ i. record { loc = locs i; sub = subs i }

module _ (v : List PureValue) where
  pub sub_of_key : (a : Option ℕ) (b : Option Sub) (k : Key) → key_of a b ≡ Some k → b ≡ Some k.sub
  sub_of_key (Some l) (Some s) k is = let alike : key l s ≡ k = same_some is in ap Some (ap (λ (q : Key). q.sub) alike)
  sub_of_key (Some l) None k is = not_none is
  sub_of_key None b k is = not_none is

  pub name_from : (o : Option PureValue) (s : Sub) → name_of o ≡ Some s → (m : List ℕ) × ((o ≡ Some (text m)) × (s ≡ Name m))
  name_from (Some (text m)) s is = (m, (refl, sym (same_some is)))
  name_from (Some w) s is = not_none is
  name_from None s is = not_none is

  pub cell_from : (o : Option PureValue) (s : Sub) → cell_of o ≡ Some s → (m : ℤ) × ((o ≡ Some (integer m)) × (s ≡ At m))
  cell_from (Some (integer m)) s is = (m, (refl, sym (same_some is)))
  cell_from (Some w) s is = not_none is
  cell_from None s is = not_none is

  pub number_by : (s : PureSub) (t : Sub) → sub_value v s ≡ Some t → variant_number t ≡ kind_number s
  number_by (named q) t is = let (m, (has, e)) = name_from (value v q) t is in ap variant_number e
  number_by (cell q) t is = let (m, (has, e)) = cell_from (value v q) t is in ap variant_number e
  number_by shape t is = sym (ap variant_number (same_some is))
  number_by bound t is = sym (ap variant_number (same_some is))
  number_by dom t is = sym (ap variant_number (same_some is))
  number_by proto t is = sym (ap variant_number (same_some is))
  number_by gone t is = sym (ap variant_number (same_some is))

  pub sub_of_entry : (c : PureChunk) (k : Key) (w : PureValue) → IsEntry v c k w → sub_value v c.sub ≡ Some k.sub
  sub_of_entry c k w entry = sub_of_key (location_of (value v c.loc)) (sub_value v c.sub) k entry.at

  alike_numbers : (s u : PureSub) (t x : Sub) → sub_value v s ≡ Some t → sub_value v u ≡ Some x → t ≡ x → kind_number s ≡ kind_number u
  alike_numbers s u t x is_s is_u e = sym (number_by s t is_s) ∙ ap variant_number e ∙ number_by u x is_u

  module _ (vars : List Sort) (proper : IsProper vars v) where
    pub subs_same : (s u : PureSub) (t x : Sub) → Each (IsOver vars) (sub_terms s) → Each (IsOver vars) (sub_terms u) → sub_value v s ≡ Some t → sub_value v u ≡ Some x → Hold v (same_sub s u) → t ≡ x
    subs_same (named p) (named q) t x over_s over_u is_s is_u holds =
        let (m, (has_p, e)) = name_from (value v p) t is_s in
        let (n, (has_q, f)) = name_from (value v q) x is_u in
        e ∙ ap Name (same_texts ((same_tells vars v p q (text m) (text n) (record { proper = proper; first_over = over_s.0; second_over = over_u.0; first = has_p; second = has_q })).0 holds)) ∙ sym f
    subs_same (cell p) (cell q) t x over_s over_u is_s is_u holds =
        let (m, (has_p, e)) = cell_from (value v p) t is_s in
        let (n, (has_q, f)) = cell_from (value v q) x is_u in
        e ∙ ap At (same_integers ((same_tells vars v p q (integer m) (integer n) (record { proper = proper; first_over = over_s.0; second_over = over_u.0; first = has_p; second = has_q })).0 holds)) ∙ sym f
    subs_same shape shape t x over_s over_u is_s is_u holds = same_some (sym is_s ∙ is_u)
    subs_same bound bound t x over_s over_u is_s is_u holds = same_some (sym is_s ∙ is_u)
    subs_same dom dom t x over_s over_u is_s is_u holds = same_some (sym is_s ∙ is_u)
    subs_same proto proto t x over_s over_u is_s is_u holds = same_some (sym is_s ∙ is_u)
    subs_same gone gone t x over_s over_u is_s is_u holds = same_some (sym is_s ∙ is_u)
    subs_same s u t x over_s over_u is_s is_u holds = absurd holds

    pub same_subs : (s u : PureSub) (t x : Sub) → Each (IsOver vars) (sub_terms s) → Each (IsOver vars) (sub_terms u) → sub_value v s ≡ Some t → sub_value v u ≡ Some x → t ≡ x → Hold v (same_sub s u)
    same_subs (named p) (named q) t x over_s over_u is_s is_u alike =
        let (m, (has_p, e)) = name_from (value v p) t is_s in
        let (n, (has_q, f)) = name_from (value v q) x is_u in
        (same_tells vars v p q (text m) (text n) (record { proper = proper; first_over = over_s.0; second_over = over_u.0; first = has_p; second = has_q })).1 (ap text (same_names (sym e ∙ alike ∙ f)))
    same_subs (cell p) (cell q) t x over_s over_u is_s is_u alike =
        let (m, (has_p, e)) = cell_from (value v p) t is_s in
        let (n, (has_q, f)) = cell_from (value v q) x is_u in
        (same_tells vars v p q (integer m) (integer n) (record { proper = proper; first_over = over_s.0; second_over = over_u.0; first = has_p; second = has_q })).1 (ap integer (same_cells (sym e ∙ alike ∙ f)))
    same_subs shape shape t x over_s over_u is_s is_u alike = always_true v
    same_subs bound bound t x over_s over_u is_s is_u alike = always_true v
    same_subs dom dom t x over_s over_u is_s is_u alike = always_true v
    same_subs proto proto t x over_s over_u is_s is_u alike = always_true v
    same_subs gone gone t x over_s over_u is_s is_u alike = always_true v
    same_subs s u t x over_s over_u is_s is_u alike = absurd (omega (arith, alike_numbers s u t x is_s is_u alike))

    pub subs_other : (s u : PureSub) (t x : Sub) → Each (IsOver vars) (sub_terms s) → Each (IsOver vars) (sub_terms u) → sub_value v s ≡ Some t → sub_value v u ≡ Some x → Hold v (other_sub s u) → ¬ (t ≡ x)
    subs_other (named p) (named q) t x over_s over_u is_s is_u holds alike =
        let (m, (has_p, e)) = name_from (value v p) t is_s in
        let (n, (has_q, f)) = name_from (value v q) x is_u in
        (other_tells vars v p q (text m) (text n) (record { proper = proper; first_over = over_s.0; second_over = over_u.0; first = has_p; second = has_q })).0 holds (ap text (same_names (sym e ∙ alike ∙ f)))
    subs_other (cell p) (cell q) t x over_s over_u is_s is_u holds alike =
        let (m, (has_p, e)) = cell_from (value v p) t is_s in
        let (n, (has_q, f)) = cell_from (value v q) x is_u in
        (other_tells vars v p q (integer m) (integer n) (record { proper = proper; first_over = over_s.0; second_over = over_u.0; first = has_p; second = has_q })).0 holds (ap integer (same_cells (sym e ∙ alike ∙ f)))
    subs_other shape shape t x over_s over_u is_s is_u holds alike = holds
    subs_other bound bound t x over_s over_u is_s is_u holds alike = holds
    subs_other dom dom t x over_s over_u is_s is_u holds alike = holds
    subs_other proto proto t x over_s over_u is_s is_u holds alike = holds
    subs_other gone gone t x over_s over_u is_s is_u holds alike = holds
    subs_other s u t x over_s over_u is_s is_u holds alike = absurd (omega (arith, alike_numbers s u t x is_s is_u alike))

    pub others_sub : (s u : PureSub) (t x : Sub) → Each (IsOver vars) (sub_terms s) → Each (IsOver vars) (sub_terms u) → sub_value v s ≡ Some t → sub_value v u ≡ Some x → ¬ (t ≡ x) → Hold v (other_sub s u)
    others_sub (named p) (named q) t x over_s over_u is_s is_u differ =
        let (m, (has_p, e)) = name_from (value v p) t is_s in
        let (n, (has_q, f)) = name_from (value v q) x is_u in
        (other_tells vars v p q (text m) (text n) (record { proper = proper; first_over = over_s.0; second_over = over_u.0; first = has_p; second = has_q })).1 (λ alike. differ (e ∙ ap Name (same_texts alike) ∙ sym f))
    others_sub (cell p) (cell q) t x over_s over_u is_s is_u differ =
        let (m, (has_p, e)) = cell_from (value v p) t is_s in
        let (n, (has_q, f)) = cell_from (value v q) x is_u in
        (other_tells vars v p q (integer m) (integer n) (record { proper = proper; first_over = over_s.0; second_over = over_u.0; first = has_p; second = has_q })).1 (λ alike. differ (e ∙ ap At (same_integers alike) ∙ sym f))
    others_sub shape shape t x over_s over_u is_s is_u differ = absurd (differ (same_some (sym is_s ∙ is_u)))
    others_sub bound bound t x over_s over_u is_s is_u differ = absurd (differ (same_some (sym is_s ∙ is_u)))
    others_sub dom dom t x over_s over_u is_s is_u differ = absurd (differ (same_some (sym is_s ∙ is_u)))
    others_sub proto proto t x over_s over_u is_s is_u differ = absurd (differ (same_some (sym is_s ∙ is_u)))
    others_sub gone gone t x over_s over_u is_s is_u differ = absurd (differ (same_some (sym is_s ∙ is_u)))
    others_sub s u t x over_s over_u is_s is_u differ = always_true v

-- ---- keys

module _ (vars : List Sort) (v : List PureValue) (proper : IsProper vars v) (l : PureTerm) (s : PureSub) (k : Key) (asked : IsKeyOf vars v l s k) (m : PureTerm) (u : PureSub) (q : Key) (there : IsKeyOf vars v m u q) where
  locs : HaveBoth vars v l m (symbol k.loc) (symbol q.loc)
  locs = record { proper = proper; first_over = asked.over_loc; second_over = there.over_loc; first = loc_value v l s k asked.is; second = loc_value v m u q there.is }

  sub_is : sub_value v s ≡ Some k.sub
  sub_is = sub_of_key v (location_of (value v l)) (sub_value v s) k asked.is

  sub_there : sub_value v u ≡ Some q.sub
  sub_there = sub_of_key v (location_of (value v m)) (sub_value v u) q there.is

  pub key_told : (Hold v (same l m) × Hold v (same_sub s u)) ↔ (q ≡ k)
  key_told = (
    λ holds. keys_equal q k.loc k.sub (same_symbols (sym ((same_tells vars v l m (symbol k.loc) (symbol q.loc) locs).0 holds.0))) (sym (subs_same v vars proper s u k.sub q.sub asked.over_sub there.over_sub sub_is sub_there holds.1)),
    λ e. (
      (same_tells vars v l m (symbol k.loc) (symbol q.loc) locs).1 (ap (λ (x : Key). symbol x.loc) (sym e)),
      same_subs v vars proper s u k.sub q.sub asked.over_sub there.over_sub sub_is sub_there (ap (λ (x : Key). x.sub) (sym e)),
    ),
  )

  pub other_told : Hold v (other_sub s u) ↔ (¬ (q.sub ≡ k.sub))
  other_told = (
    λ holds e. subs_other v vars proper s u k.sub q.sub asked.over_sub there.over_sub sub_is sub_there holds (sym e),
    λ differ. others_sub v vars proper s u k.sub q.sub asked.over_sub there.over_sub sub_is sub_there (λ e. differ (sym e)),
  )

pub told_keys : KeysAreTold
told_keys = record {
  same = λ vars v l s k c q proper asked there.
      let told = key_told vars v proper l s k asked c.loc c.sub q there in
      (λ holds. told.0 (both_parts v (same l c.loc) (same_sub s c.sub) holds), λ e. let both = told.1 e in both_from v (same l c.loc) (same_sub s c.sub) both.0 both.1);
  other = λ vars v l s k c q proper asked there. other_told vars v proper l s k asked c.loc c.sub q there;
}

-- ---- facts of chunks

module _ (vars : List Sort) (v : List PureValue) (h : Heap) where
  pub each_fact : (cs : List PureChunk) → IsUnion v cs h → Each (ChunkTerms (IsOver vars)) cs → Each (Fact vars v h) cs
  each_fact cs union over =
      each_by_place (Fact vars v h) cs (λ i c at.
      let (k, (w, (entry, held))) = chunk_entry v cs h i c union at in
      record { k = k; w = w; entry = entry; held = held; over = each_at (ChunkTerms (IsOver vars)) cs i c over at })

  pub fact_key : (c : PureChunk) (f : Fact vars v h c) → IsKeyOf vars v c.loc c.sub f.k
  fact_key c f = record { over_loc = f.over.places.0; over_sub = f.over.places.1; is = f.entry.at }

  pub fact_loc : (c : PureChunk) (f : Fact vars v h c) → IsLocation vars v c.loc f.k.loc
  fact_loc c f = record { over = f.over.places.0; is = loc_value v c.loc c.sub f.k f.entry.at }

  pub fact_sub : (c : PureChunk) (f : Fact vars v h c) → sub_value v c.sub ≡ Some f.k.sub
  fact_sub c f = sub_of_entry v c f.k f.w f.entry

  -- the subkey of the chunk's key is of the chunk's variant
  pub fact_number : (c : PureChunk) (f : Fact vars v h c) → variant_number f.k.sub ≡ kind_number c.sub
  fact_number c f = number_by v c.sub f.k.sub (fact_sub c f)

module _ (vars : List Sort) (v : List PureValue) (h : Heap) (proper : IsProper vars v) (c : PureChunk) (f : Fact vars v h c) where
  pub key_tells : (l : PureTerm) (s : PureSub) (k : Key) → IsKeyOf vars v l s k → Hold v (at_key l s c) ↔ (f.k ≡ k)
  key_tells l s k asked = told_keys.same vars v l s k c f.k proper asked (fact_key vars v h c f)

  pub sub_tells : (l : PureTerm) (s : PureSub) (k : Key) → IsKeyOf vars v l s k → Hold v (other_sub s c.sub) ↔ (¬ (f.k.sub ≡ k.sub))
  sub_tells l s k asked = told_keys.other vars v l s k c f.k proper asked (fact_key vars v h c f)

  module _ (l : PureTerm) (a : ℕ) (asked : IsLocation vars v l a) where
    loc_both : HaveBoth vars v l c.loc (symbol a) (symbol f.k.loc)
    loc_both = let there = fact_loc vars v h c f in record { proper = proper; first_over = asked.over; second_over = there.over; first = asked.is; second = there.is }

    pub loc_tells : Hold v (same l c.loc) ↔ (f.k.loc ≡ a)
    loc_tells = (
      λ holds. sym (same_symbols ((same_tells vars v l c.loc (symbol a) (symbol f.k.loc) loc_both).0 holds)),
      λ e. (same_tells vars v l c.loc (symbol a) (symbol f.k.loc) loc_both).1 (ap symbol (sym e)),
    )
