-- A key that is given and the keys of chunks, where the terms of the key have values, be they of the right kinds or not.
use Rattle.std.proofs.Common.{◌≡◌, ◌⊎◌, ⊎_elim, inl, inr, ℕ, ℤ, List, [], ◌∷◌, ◌++◌, Bool, true, false, if◌then◌else◌, Option, Some, None, IsTrue, refl, sym, ap, subst, ◌∙◌}
use Rattle.std.specs.List.{list_any}
use Rattle.gil_values.specs.Pure.{PureValue, symbol, text, integer, boolean, list, kind, procedure}
use Rattle.core_uses.proofs.ListingLaws.{key_parts}
use Rattle.mem_model.specs.declared.keys.Key.{Key}
use Rattle.mem_model.specs.declared.keys.Sub.{Sub}
use Rattle.mem_model.specs.declared.keys.Sub.TheVariants.{Name, At}
use Rattle.mem_model.specs.Heaps.{Heap}
use Rattle.mem_model.specs.Keys.{key}
use Rattle.pure_terms.specs.declared.variables.Sort.{Sort}
use Rattle.pure_terms.specs.Meaning.{value, all_true, IsProper, IsOver}
use Rattle.pure_terms.specs.Pure.{PureTerm}
use Rattle.sym_chunks.specs.ByPlace.{elsewhere_or, places_of, all_at, all_there, all_by_place}
use Rattle.sym_chunks.specs.Keys.{same_sub, other_sub, at_key}
use Rattle.sym_chunks.specs.Laws.{IsLocation}
use Rattle.sym_chunks.proofs.Facts.{Fact, fact_loc, fact_sub, name_from, cell_from}
use Rattle.sym_chunks.proofs.FoundLaws.{by_place_from}
use Rattle.sym_chunks.proofs.PlaceLaws.{each_place}
use Rattle.sym_model.specs.Alternatives.{Alternatives, Hold, always, both, is_empty, same, other}
use Rattle.sym_model.specs.ConditionLaws.{HaveBoth}
use Rattle.sym_model.proofs.Combined.{all_from_from, both_parts, always_true}
use Rattle.sym_model.proofs.Telling.{same_tells, other_tells}
use Rattle.sym_model.specs.Chunks.{IsUnion}
use Rattle.sym_model.specs.Lists.{Each}
use Rattle.sym_model.specs.Meaning.{location_of, name_of, cell_of, sub_value, key_of, key_value}
use Rattle.sym_model.specs.Pure.{PureSub, named, cell, shape, bound, dom, proto, gone, PureChunk, sub_terms}
use Rattle.sym_model.proofs.ListLaws.{same_some, not_none, each_to, one_left}

-- the terms of a subkey have values
abbrev pub HaveValues : List PureValue → List PureTerm → Type 0
HaveValues v ts = Each (λ t. (w : PureValue) × (value v t ≡ Some w)) ts

module _ (vars : List Sort) (v : List PureValue) (proper : IsProper vars v) where
  -- ---- a chunk of the key

  sub_told : (s u : PureSub) (x : Sub) → Each (IsOver vars) (sub_terms s) → Each (IsOver vars) (sub_terms u) → HaveValues v (sub_terms s) → sub_value v u ≡ Some x → Hold v (same_sub s u) → sub_value v s ≡ Some x
  sub_told (named p) (named q) x over_s over_u ((w, has), nil) is holds =
      let (m, (has_q, e)) = name_from v (value v q) x is in
      let told = (same_tells vars v p q w (text m) (record { proper = proper; first_over = over_s.0; second_over = over_u.0; first = has; second = has_q })).0 holds in
      ap name_of (has ∙ ap Some told) ∙ ap Some (sym e)
  sub_told (cell p) (cell q) x over_s over_u ((w, has), nil) is holds =
      let (m, (has_q, e)) = cell_from v (value v q) x is in
      let told = (same_tells vars v p q w (integer m) (record { proper = proper; first_over = over_s.0; second_over = over_u.0; first = has; second = has_q })).0 holds in
      ap cell_of (has ∙ ap Some told) ∙ ap Some (sym e)
  sub_told shape shape x over_s over_u have is holds = is
  sub_told bound bound x over_s over_u have is holds = is
  sub_told dom dom x over_s over_u have is holds = is
  sub_told proto proto x over_s over_u have is holds = is
  sub_told gone gone x over_s over_u have is holds = is
  sub_told s u x over_s over_u have is holds = absurd holds

  -- the key that is given is that of the chunk
  pub told_key : (h : Heap) (c : PureChunk) (f : Fact vars v h c) (l : PureTerm) (s : PureSub) (w : PureValue) → IsOver vars l → value v l ≡ Some w → Each (IsOver vars) (sub_terms s) → HaveValues v (sub_terms s) → Hold v (at_key l s c) → key_value v l s ≡ Some f.k
  told_key h c f l s w over_l has over_s have holds =
      let parts = both_parts v (same l c.loc) (same_sub s c.sub) holds in
      let there = fact_loc vars v h c f in
      let told = (same_tells vars v l c.loc w (symbol f.k.loc) (record { proper = proper; first_over = over_l; second_over = there.over; first = has; second = there.is })).0 parts.0 in
      (λ i. key_of (location_of ((has ∙ ap Some told) i)) (sub_told s c.sub f.k.sub over_s f.over.places.1 have (fact_sub vars v h c f) parts.1 i))

  -- ---- no key is given

  sub_others : (s u : PureSub) (x : Sub) → Each (IsOver vars) (sub_terms s) → Each (IsOver vars) (sub_terms u) → HaveValues v (sub_terms s) → sub_value v u ≡ Some x → ¬ (sub_value v s ≡ Some x) → Hold v (other_sub s u)
  sub_others (named p) (named q) x over_s over_u ((w, has), nil) is differ =
      let (m, (has_q, e)) = name_from v (value v q) x is in
      (other_tells vars v p q w (text m) (record { proper = proper; first_over = over_s.0; second_over = over_u.0; first = has; second = has_q })).1 (λ told. differ (ap name_of (has ∙ ap Some told) ∙ ap Some (sym e)))
  sub_others (cell p) (cell q) x over_s over_u ((w, has), nil) is differ =
      let (m, (has_q, e)) = cell_from v (value v q) x is in
      (other_tells vars v p q w (integer m) (record { proper = proper; first_over = over_s.0; second_over = over_u.0; first = has; second = has_q })).1 (λ told. differ (ap cell_of (has ∙ ap Some told) ∙ ap Some (sym e)))
  sub_others shape shape x over_s over_u have is differ = absurd (differ is)
  sub_others bound bound x over_s over_u have is differ = absurd (differ is)
  sub_others dom dom x over_s over_u have is differ = absurd (differ is)
  sub_others proto proto x over_s over_u have is differ = absurd (differ is)
  sub_others gone gone x over_s over_u have is differ = absurd (differ is)
  sub_others s u x over_s over_u have is differ = always_true v

  module _ (h : Heap) (cs : List PureChunk) (union : IsUnion v cs h) (facts : Each (Fact vars v h) cs) (l : PureTerm) (s : PureSub) (over_l : IsOver vars l) (over_s : Each (IsOver vars) (sub_terms s)) (have : HaveValues v (sub_terms s)) where
    -- the location is none
    module _ (w : PureValue) (has : value v l ≡ Some w) (no_symbol : (a : ℕ) → ¬ (w ≡ symbol a)) (f : PureChunk → Alternatives) where
      abbrev IsSomewhere : PureTerm → Type 0
      IsSomewhere m = (b : ℕ) × IsLocation vars v m b

      elsewhere_by : (m : PureTerm) (x : Alternatives) → Hold v (other l m) → (b : Bool) → Hold v (if b then always else other l m ++ both (same l m) x)
      elsewhere_by m x holds true = always_true v
      elsewhere_by m x holds false = one_left (λ conds. IsTrue (all_true v conds)) (other l m) (both (same l m) x) holds

      place_elsewhere : (m : PureTerm) → IsSomewhere m → Hold v (all_there l f cs m)
      place_elsewhere m (b, there) =
          elsewhere_by m (all_at always f m cs)
          ((other_tells vars v l m w (symbol b) (record { proper = proper; first_over = over_l; second_over = there.over; first = has; second = there.is })).1 (no_symbol b))
          (list_any is_empty (all_at always f m cs))

      all_elsewhere : Hold v (all_by_place l f cs)
      all_elsewhere =
          all_from_from v (all_there l f cs) (places_of cs) always (always_true v)
          (each_to IsSomewhere (λ m. Hold v (all_there l f cs m)) (places_of cs) place_elsewhere
          (each_place IsSomewhere [] cs tt (each_to (Fact vars v h) (λ c. IsSomewhere c.loc) cs (λ c fact. (fact.k.loc, fact_loc vars v h c fact)) facts)))

    abbrev lacking : Alternatives
    lacking = all_by_place l (λ c. other_sub s c.sub) cs

    at_symbol : (a : ℕ) → value v l ≡ Some (symbol a) → key_value v l s ≡ None → Hold v (all_by_place l (λ c. other_sub s c.sub) cs)
    at_symbol a is none =
        by_place_from vars v h proper cs union facts l a (record { over = over_l; is = is }) (λ c. other_sub s c.sub) (λ i c f there e.
        sub_others s c.sub f.k.sub over_s f.over.places.1 have (fact_sub vars v h c f) (λ same. not_none (sym none ∙ (λ j. key_of (location_of (is j)) (same j)))))

    by_location : (w : PureValue) → value v l ≡ Some w → key_value v l s ≡ None → Hold v (all_by_place l (λ c. other_sub s c.sub) cs)
    by_location (symbol a) has none = at_symbol a has none
    by_location (integer n) has none = all_elsewhere (integer n) has (λ a e. cc) (λ c. other_sub s c.sub)
    by_location (boolean b) has none = all_elsewhere (boolean b) has (λ a e. cc) (λ c. other_sub s c.sub)
    by_location (text n) has none = all_elsewhere (text n) has (λ a e. cc) (λ c. other_sub s c.sub)
    by_location (list ws) has none = all_elsewhere (list ws) has (λ a e. cc) (λ c. other_sub s c.sub)
    by_location (kind k) has none = all_elsewhere (kind k) has (λ a e. cc) (λ c. other_sub s c.sub)
    by_location (procedure p) has none = all_elsewhere (procedure p) has (λ a e. cc) (λ c. other_sub s c.sub)

    -- where the terms stand for no key, no chunk is that of the key
    pub no_key_lacks : (w : PureValue) → value v l ≡ Some w → key_value v l s ≡ None → Hold v (all_by_place l (λ c. other_sub s c.sub) cs)
    no_key_lacks w has none = by_location w has none
