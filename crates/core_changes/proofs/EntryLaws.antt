-- The key and the value that a core predicate stands for, by the key that it is given.
use Rattle.std.proofs.Common.{◌≡◌, ℕ, ℤ, List, [], ◌∷◌, ◌++◌, length, true, Option, Some, None, refl, sym, ap, ◌∙◌, arith}
use Rattle.gil_values.specs.Pure.{PureValue, symbol, text, integer, boolean}
use Rattle.core_changes.specs.Consuming.{key_given}
use Rattle.core_uses.specs.Uses.{outs_at}
use Rattle.core_uses.proofs.ListingLaws.{one_of, two_of, key_parts}
use Rattle.mem_model.specs.declared.cores.Core.{Core}
use Rattle.mem_model.specs.declared.keys.Key.{Key}
use Rattle.mem_model.specs.declared.keys.Sub.{Sub}
use Rattle.mem_model.specs.declared.keys.Sub.TheVariants.{Name, At, Shape, Bound, Dom, Proto, Gone}
use Rattle.mem_model.specs.CoreNames.{ins_of}
use Rattle.mem_model.specs.Cores.{entry_of}
use Rattle.mem_model.specs.Keys.{key}
use Rattle.pure_terms.specs.Meaning.{value, values, both}
use Rattle.pure_terms.specs.Pure.{PureTerm, from_list}
use Rattle.sym_chunks.proofs.Facts.{keys_equal, name_from, cell_from}
use Rattle.sym_model.specs.Cores.{core_of_sub}
use Rattle.sym_model.specs.Meaning.{location_of, name_of, cell_of, sub_value, key_of, key_value}
use Rattle.sym_model.specs.Pure.{PureSub, named, cell, shape, bound, dom, proto, gone, PureKey, sub_terms}
use Rattle.sym_model.proofs.ListLaws.{same_some, not_none}

-- ---- the key that is given

pub record GivesKey (core : Core) (ins : List PureTerm) : Type 0 where
  pub k : PureKey
  pub given : key_given core ins ≡ Some k
  pub are : ins ≡ k.loc ∷ sub_terms k.sub
  pub of_core : core ≡ core_of_sub k.sub

-- as many ins as the core predicate has give a key
pub gives_key : (core : Core) (ins : List PureTerm) → length ins ≡ ins_of core → GivesKey core ins
gives_key Core.Prop (l ∷ p ∷ []) e = record { k = record { loc = l; sub = named p }; given = refl; are = refl; of_core = refl }
gives_key Core.Prop [] e = absurd (omega (arith, e))
gives_key Core.Prop (l ∷ []) e = absurd (omega (arith, e))
gives_key Core.Prop (l ∷ p ∷ q ∷ more) e = absurd (omega (arith, e))
gives_key Core.Cell (l ∷ p ∷ []) e = record { k = record { loc = l; sub = cell p }; given = refl; are = refl; of_core = refl }
gives_key Core.Cell [] e = absurd (omega (arith, e))
gives_key Core.Cell (l ∷ []) e = absurd (omega (arith, e))
gives_key Core.Cell (l ∷ p ∷ q ∷ more) e = absurd (omega (arith, e))
gives_key Core.Shape (l ∷ []) e = record { k = record { loc = l; sub = shape }; given = refl; are = refl; of_core = refl }
gives_key Core.Shape [] e = absurd (omega (arith, e))
gives_key Core.Shape (l ∷ p ∷ more) e = absurd (omega (arith, e))
gives_key Core.Bound (l ∷ []) e = record { k = record { loc = l; sub = bound }; given = refl; are = refl; of_core = refl }
gives_key Core.Bound [] e = absurd (omega (arith, e))
gives_key Core.Bound (l ∷ p ∷ more) e = absurd (omega (arith, e))
gives_key Core.Dom (l ∷ []) e = record { k = record { loc = l; sub = dom }; given = refl; are = refl; of_core = refl }
gives_key Core.Dom [] e = absurd (omega (arith, e))
gives_key Core.Dom (l ∷ p ∷ more) e = absurd (omega (arith, e))
gives_key Core.Proto (l ∷ []) e = record { k = record { loc = l; sub = proto }; given = refl; are = refl; of_core = refl }
gives_key Core.Proto [] e = absurd (omega (arith, e))
gives_key Core.Proto (l ∷ p ∷ more) e = absurd (omega (arith, e))
gives_key Core.Gone (l ∷ []) e = record { k = record { loc = l; sub = gone }; given = refl; are = refl; of_core = refl }
gives_key Core.Gone [] e = absurd (omega (arith, e))
gives_key Core.Gone (l ∷ p ∷ more) e = absurd (omega (arith, e))

-- ---- its entry

module _ (v : List PureValue) where
  one_more : (core : Core) (q : Key) (s : Sub) (w : PureValue) → ◌≡◌ {A = Option (Key × PureValue)} (entry_of core (symbol q.loc ∷ w ∷ [])) (Some (key q.loc s, w)) → q.sub ≡ s → entry_of core (symbol q.loc ∷ w ∷ []) ≡ Some (q, w)
  one_more core q s w is e = is ∙ ap (λ r. Some (r, w)) (sym (keys_equal q q.loc s refl e))

  located : (core : Core) (l : PureTerm) (us : List PureValue) (q : Key) (w : PureValue) (ws : List PureValue) → values v (from_list (l ∷ [])) ≡ Some ws → value v l ≡ Some (symbol q.loc) → entry_of core (symbol q.loc ∷ us) ≡ Some (q, w) → entry_of core (ws ++ us) ≡ Some (q, w)
  located core l us q w ws have at is =
      let p = one_of v l ws have in
      ap (λ xs. entry_of core (xs ++ us)) (p.whole ∙ ap (λ a. a ∷ []) (same_some (sym p.is ∙ at))) ∙ is

  two_located : (core : Core) (l p : PureTerm) (b : PureValue) (us : List PureValue) (q : Key) (w : PureValue) (ws : List PureValue) → values v (from_list (l ∷ p ∷ [])) ≡ Some ws → value v l ≡ Some (symbol q.loc) → value v p ≡ Some b → entry_of core (symbol q.loc ∷ b ∷ us) ≡ Some (q, w) → entry_of core (ws ++ us) ≡ Some (q, w)
  two_located core l p b us q w ws have at has is =
      let pair = two_of v l p ws have in
      ap (λ xs. entry_of core (xs ++ us)) (pair.whole ∙ (λ i. same_some (sym pair.is_a ∙ at) i ∷ same_some (sym pair.is_b ∙ has) i ∷ [])) ∙ is

  -- the core predicate of the key stands for it with what it holds
  pub entry_at : (l : PureTerm) (s : PureSub) (q : Key) (w : PureValue) (ws : List PureValue) → values v (from_list (l ∷ sub_terms s)) ≡ Some ws → key_value v l s ≡ Some q → (s ≡ gone → w ≡ boolean true) → entry_of (core_of_sub s) (ws ++ outs_at s w) ≡ Some (q, w)
  entry_at l (named p) q w ws have is true_there =
      let parts = key_parts v l (named p) q is in
      let (n, (has, e)) = name_from v (value v p) q.sub parts.sub in
      two_located Core.Prop l p (text n) (w ∷ []) q w ws have parts.at has (ap (λ r. Some (r, w)) (sym (keys_equal q q.loc (Name n) refl e)))
  entry_at l (cell p) q w ws have is true_there =
      let parts = key_parts v l (cell p) q is in
      let (n, (has, e)) = cell_from v (value v p) q.sub parts.sub in
      two_located Core.Cell l p (integer n) (w ∷ []) q w ws have parts.at has (ap (λ r. Some (r, w)) (sym (keys_equal q q.loc (At n) refl e)))
  entry_at l shape q w ws have is true_there = let parts = key_parts v l shape q is in located Core.Shape l (w ∷ []) q w ws have parts.at (one_more Core.Shape q Shape w refl (sym (same_some parts.sub)))
  entry_at l bound q w ws have is true_there = let parts = key_parts v l bound q is in located Core.Bound l (w ∷ []) q w ws have parts.at (one_more Core.Bound q Bound w refl (sym (same_some parts.sub)))
  entry_at l dom q w ws have is true_there = let parts = key_parts v l dom q is in located Core.Dom l (w ∷ []) q w ws have parts.at (one_more Core.Dom q Dom w refl (sym (same_some parts.sub)))
  entry_at l proto q w ws have is true_there = let parts = key_parts v l proto q is in located Core.Proto l (w ∷ []) q w ws have parts.at (one_more Core.Proto q Proto w refl (sym (same_some parts.sub)))
  entry_at l gone q w ws have is true_there =
      let parts = key_parts v l gone q is in
      located Core.Gone l [] q w ws have parts.at (λ i. Some (sym (keys_equal q q.loc Gone refl (sym (same_some parts.sub))) i, sym (true_there refl) i))

  -- ---- the key of an entry

  first_of : {k q : Key} {w u : PureValue} → ◌≡◌ {A = Option (Key × PureValue)} (Some (k, w)) (Some (q, u)) → ◌≡◌ {A = Option Key} (Some k) (Some q)
  first_of is = ap (λ (e : Key × PureValue). Some e.0) (same_some is)

  prop_key : (a b : PureValue) (us : List PureValue) (q : Key) (w : PureValue) → entry_of Core.Prop (a ∷ b ∷ us) ≡ Some (q, w) → key_of (location_of (Some a)) (name_of (Some b)) ≡ Some q
  prop_key (symbol l) (text n) (c ∷ []) q w is = first_of is
  prop_key (symbol l) (text n) [] q w is = not_none is
  prop_key (symbol l) (text n) (c ∷ d ∷ more) q w is = not_none is
  prop_key (symbol l) b us q w is = not_none is
  prop_key a b us q w is = not_none is

  cell_key : (a b : PureValue) (us : List PureValue) (q : Key) (w : PureValue) → entry_of Core.Cell (a ∷ b ∷ us) ≡ Some (q, w) → key_of (location_of (Some a)) (cell_of (Some b)) ≡ Some q
  cell_key (symbol l) (integer n) (c ∷ []) q w is = first_of is
  cell_key (symbol l) (integer n) [] q w is = not_none is
  cell_key (symbol l) (integer n) (c ∷ d ∷ more) q w is = not_none is
  cell_key (symbol l) b us q w is = not_none is
  cell_key a b us q w is = not_none is

  shape_key : (a : PureValue) (us : List PureValue) (q : Key) (w : PureValue) → entry_of Core.Shape (a ∷ us) ≡ Some (q, w) → key_of (location_of (Some a)) (Some Shape) ≡ Some q
  shape_key (symbol l) (c ∷ []) q w is = first_of is
  shape_key (symbol l) [] q w is = not_none is
  shape_key (symbol l) (c ∷ d ∷ more) q w is = not_none is
  shape_key a us q w is = not_none is

  bound_key : (a : PureValue) (us : List PureValue) (q : Key) (w : PureValue) → entry_of Core.Bound (a ∷ us) ≡ Some (q, w) → key_of (location_of (Some a)) (Some Bound) ≡ Some q
  bound_key (symbol l) (c ∷ []) q w is = first_of is
  bound_key (symbol l) [] q w is = not_none is
  bound_key (symbol l) (c ∷ d ∷ more) q w is = not_none is
  bound_key a us q w is = not_none is

  dom_key : (a : PureValue) (us : List PureValue) (q : Key) (w : PureValue) → entry_of Core.Dom (a ∷ us) ≡ Some (q, w) → key_of (location_of (Some a)) (Some Dom) ≡ Some q
  dom_key (symbol l) (c ∷ []) q w is = first_of is
  dom_key (symbol l) [] q w is = not_none is
  dom_key (symbol l) (c ∷ d ∷ more) q w is = not_none is
  dom_key a us q w is = not_none is

  proto_key : (a : PureValue) (us : List PureValue) (q : Key) (w : PureValue) → entry_of Core.Proto (a ∷ us) ≡ Some (q, w) → key_of (location_of (Some a)) (Some Proto) ≡ Some q
  proto_key (symbol l) (c ∷ []) q w is = first_of is
  proto_key (symbol l) [] q w is = not_none is
  proto_key (symbol l) (c ∷ d ∷ more) q w is = not_none is
  proto_key a us q w is = not_none is

  gone_key : (a : PureValue) (us : List PureValue) (q : Key) (w : PureValue) → entry_of Core.Gone (a ∷ us) ≡ Some (q, w) → key_of (location_of (Some a)) (Some Gone) ≡ Some q
  gone_key (symbol l) [] q w is = first_of is
  gone_key (symbol l) (c ∷ more) q w is = not_none is
  gone_key a us q w is = not_none is

  from_one : (core : Core) (s : Sub) (l : PureTerm) (ws us : List PureValue) (q : Key) (w : PureValue) → ((a : PureValue) → entry_of core (a ∷ us) ≡ Some (q, w) → key_of (location_of (Some a)) (Some s) ≡ Some q) → values v (from_list (l ∷ [])) ≡ Some ws → entry_of core (ws ++ us) ≡ Some (q, w) → key_of (location_of (value v l)) (Some s) ≡ Some q
  from_one core s l ws us q w by have is =
      let p = one_of v l ws have in
      ap (λ o. key_of (location_of o) (Some s)) p.is ∙ by p.a (sym (ap (λ xs. entry_of core (xs ++ us)) p.whole) ∙ is)

  -- what the core predicate of the key stands for, whatever its outs, is the key
  pub entry_key : (l : PureTerm) (s : PureSub) (ws us : List PureValue) (q : Key) (w : PureValue) → values v (from_list (l ∷ sub_terms s)) ≡ Some ws → entry_of (core_of_sub s) (ws ++ us) ≡ Some (q, w) → key_value v l s ≡ Some q
  entry_key l (named p) ws us q w have is =
      let pair = two_of v l p ws have in
      (λ i. key_of (location_of (pair.is_a i)) (name_of (pair.is_b i))) ∙ prop_key pair.a pair.b us q w (sym (ap (λ xs. entry_of Core.Prop (xs ++ us)) pair.whole) ∙ is)
  entry_key l (cell p) ws us q w have is =
      let pair = two_of v l p ws have in
      (λ i. key_of (location_of (pair.is_a i)) (cell_of (pair.is_b i))) ∙ cell_key pair.a pair.b us q w (sym (ap (λ xs. entry_of Core.Cell (xs ++ us)) pair.whole) ∙ is)
  entry_key l shape ws us q w have is = from_one Core.Shape Shape l ws us q w (λ a. shape_key a us q w) have is
  entry_key l bound ws us q w have is = from_one Core.Bound Bound l ws us q w (λ a. bound_key a us q w) have is
  entry_key l dom ws us q w have is = from_one Core.Dom Dom l ws us q w (λ a. dom_key a us q w) have is
  entry_key l proto ws us q w have is = from_one Core.Proto Proto l ws us q w (λ a. proto_key a us q w) have is
  entry_key l gone ws us q w have is = from_one Core.Gone Gone l ws us q w (λ a. gone_key a us q w) have is

  -- the outs have values
  pub outs_have : (s : PureSub) (t : PureTerm) (w : PureValue) → value v t ≡ Some w → values v (from_list (outs_at s t)) ≡ Some (outs_at s w)
  outs_have (named p) t w is = ap (λ o. both o (Some [])) is
  outs_have (cell p) t w is = ap (λ o. both o (Some [])) is
  outs_have shape t w is = ap (λ o. both o (Some [])) is
  outs_have bound t w is = ap (λ o. both o (Some [])) is
  outs_have dom t w is = ap (λ o. both o (Some [])) is
  outs_have proto t w is = ap (λ o. both o (Some [])) is
  outs_have gone t w is = refl
