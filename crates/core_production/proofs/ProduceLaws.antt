-- The branches of producing a chunk keep the laws of production.
use Rattle.std.proofs.Common.{◌≡◌, ◌⊎◌, ⊎_elim, inl, inr, ℕ, nat_eq, ℤ, pos, ◌-ℤ◌, ◌+ℤ◌, ◌≤ℤ◌, int_le, List, [], ◌∷◌, ◌++◌, length, Bool, true, false, if◌then◌else◌, Some, None, IsTrue, slice_get, codes, refl, sym, ap, subst, ◌∙◌, true≢false, arith}
use Rattle.std.specs.Prelude.{⊤}
use Rattle.std.specs.FinMap.{insert}
use Rattle.std.specs.List.{list_any}
use Rattle.std.specs.Str.{bytes_eq}
use Rattle.std.specs.Option.{option_map}
use Rattle.std.proofs.lemmas.Bool.{and_from}
use Rattle.std.proofs.lemmas.Bool.Decides.{Decides-eqb}
use Rattle.std.proofs.lemmas.Int.{ints}
use Rattle.gil_values.specs.declared.kinds.Kind.{Kind}
use Rattle.gil_values.specs.Pure.{PureValue, symbol, boolean}
use Rattle.core_changes.proofs.EntryLaws.{gives_key}
use Rattle.core_changes.proofs.KeyLaws.{HaveValues}
use Rattle.core_production.specs.Producing.{held_by, are_names, is_right, needs_form, fits_beside, has_open_names, fits_closed, opened_there, opened_at, may_stand, added, opened_unless_list, produced_at, produced, chunk_of, produced_if, chunk_given, produced_by, ProduceChunks, Produce}
use Rattle.core_production.proofs.FitLaws.{is_open_beside, IsAlone, held_alone, alone_well_formed, well_formed_alone, at_key, no_list_literal, not_same, Told, sub_told, told_of, fits_differ, fits_together, fits_from, right_gives, right_from}
use Rattle.core_production.proofs.ProduceNarrow.{produces_narrowly}
use Rattle.core_production.proofs.ProduceShapes.{asked_of_new, ZeroOrders, NamesOpen, stand_shaped, stand_closed_shaped, same_places, produced_shaped, none_at_shape}
use Rattle.core_uses.specs.Kept.{IsKept, AreKept}
use Rattle.core_uses.specs.Uses.{outs_at}
use Rattle.core_uses.proofs.ListingLaws.{by_name, key_parts, entry_use, use_entry}
use Rattle.mem_model.specs.declared.cores.Core.{Core}
use Rattle.mem_model.specs.declared.keys.Key.{Key}
use Rattle.mem_model.specs.declared.keys.MemoryName.{MemoryName}
use Rattle.mem_model.specs.declared.keys.MemoryName.TheVariants.{Record, Block, Object}
use Rattle.mem_model.specs.CoreNames.{core_of, core_name, outs_of, has_core}
use Rattle.mem_model.specs.Cores.{entry_of, entry_named, core_entry, one_key, FitTogether}
use Rattle.mem_model.specs.Heaps.{Heap, Holds, HasKey, IsHeapOf}
use Rattle.mem_model.specs.Keys.{key, has_subkey}
use Rattle.mem_model.proofs.CoreLaws.{one_key_more_is_heap, cores_stand_for_keys}
use Rattle.mem_model.proofs.Joins.{value_at, has_key}
use Rattle.pure_terms.specs.declared.literals.Literal.{Literal}
use Rattle.pure_terms.specs.declared.variables.Sort.{Sort}
use Rattle.pure_terms.specs.Meaning.{value, values, all_true, IsOver}
use Rattle.pure_terms.specs.Numbers.{is_between}
use Rattle.pure_terms.specs.Pure.{PureTerm, literal, variable, list_of, unary_of, binary_of, from_list, opening}
use Rattle.sym_chunks.specs.ByPlace.{all_by_place}
use Rattle.sym_chunks.specs.Cases.{true_term}
use Rattle.sym_chunks.specs.Forms.{form_of}
use Rattle.sym_chunks.specs.Laws.{IsLocation}
use Rattle.sym_chunks.proofs.CaseLaws.{Branch, where_taken, each_every, AreOpen, needed_open, form_holds, any_open, both_open}
use Rattle.sym_chunks.proofs.Facts.{kind_number, Fact, each_fact, fact_loc, fact_sub, same_symbols}
use Rattle.sym_chunks.proofs.FoundLaws.{at_chunk, by_place_parts, by_place_from}
use Rattle.sym_chunks.proofs.Opening.{OpenFor, Opens, closed_open, branches_open}
use Rattle.sym_chunks.proofs.Opening.{both_open as opens_both, form_open as opens_form}
use Rattle.sym_chunks.proofs.Readings.{own_reading, made_state, own_sides, own_forms, over_reading, over_state, over_sides, over_forms, over_literal, no_list_kind, plain_reading, plain_state, plain_sides, plain_forms, state_plain, AnyAtom, KeptAt, loose_state, loose_sides, loose_forms, kept_reading, any_term, closed_reading, closed_sides, NoOpen, positive_closed, negative_closed, shaped_terms, shaped_conds, shaped_named}
use Rattle.sym_chunks.proofs.Shapes.{Reading, IsFine, IsFineState, Shaped, EachAtom, fine_terms, fine_chunk}
use Rattle.sym_model.specs.Alternatives.{Alternatives, Hold, never, always, both, any, is_empty, settled, same, of_kind}
use Rattle.sym_model.proofs.Combined.{both_from, both_parts, settled_from}
use Rattle.sym_model.proofs.Telling.{same_tells, of_kind_tells}
use Rattle.sym_model.specs.Chunks.{IsEntry, StandFor, value_where_described, located_in, terms_of}
use Rattle.sym_model.specs.CoreLaws.{IsAdded, ProduceLaw, ProducesWhatMatters, ArePlainUses, ProducesPlainly}
use Rattle.sym_model.specs.Cores.{core_of_sub, IsSubOf, zero_term, asked_of_core, NamesBeside, IsListProduced, DependsOnForm}
use Rattle.sym_model.specs.Forms.{OpensOnly}
use Rattle.sym_model.specs.Laws.{Serves, IsPlainWithin, growth, HaveOwnConditions}
use Rattle.sym_model.specs.Lists.{Each, OneOf, IsAmong}
use Rattle.sym_model.specs.Meaning.{location_of, has_open, key_value}
use Rattle.sym_model.specs.Plain.{is_plain_description, IsPlainState}
use Rattle.sym_model.specs.Pure.{PureSub, named, cell, shape, bound, dom, proto, gone, PureKey, PureChunk, sub_terms, done}
use Rattle.sym_model.specs.Terms.{all_of, AreEachOver, IsMadeOf, IsListed, is_given, is_literal, is_list_term, asked_of, IsLimit, AreOrdered}
use Rattle.sym_model.proofs.Asking.{both_parts as both_values}
use Rattle.sym_model.proofs.ChunkMeaning.{chunk_by_chunk, chunk_val}
use Rattle.sym_model.proofs.ListLaws.{same_some, not_none, each_append, each_to, each_map, each_at, each_left, each_right, each_flat, each_flattened, each_is_among, one_left, one_right, one_to, one_map, one_with, one_flat, one_at, each_by_place}
use Rattle.sym_model.proofs.MadeLaws.{made_of_given}
use Rattle.sym_model.proofs.PlainLaws.{plain_wider}
use Rattle.sym_model.proofs.Unions.{put_last}

-- ---- the terms of a new chunk

-- what holds of the outs holds of what the chunk holds
out_holds : (P : PureTerm → Type 0) (s : PureSub) (t : PureTerm) → (s ≡ gone → t ≡ true_term) → P true_term → Each P (outs_at s t) → P t
out_holds P (named p) t is_true held outs = outs.0
out_holds P (cell i) t is_true held outs = outs.0
out_holds P shape t is_true held outs = outs.0
out_holds P bound t is_true held outs = outs.0
out_holds P dom t is_true held outs = outs.0
out_holds P proto t is_true held outs = outs.0
out_holds P gone t is_true held outs = subst P (sym (is_true refl)) held

asked_hold : (P : PureTerm → Type 0) (s : PureSub) (t : PureTerm) → Each P (sub_terms s) → P t → P zero_term → Each P (asked_of_new s t)
asked_hold P (named p) t subs held zero = (subs.0, tt)
asked_hold P (cell i) t subs held zero = (subs.0, (zero, tt))
asked_hold P shape t subs held zero = (held, tt)
asked_hold P bound t subs held zero = (held, (zero, tt))
asked_hold P dom t subs held zero = (held, tt)
asked_hold P proto t subs held zero = tt
asked_hold P gone t subs held zero = tt

names_open : (g : Reading) (s : PureSub) (d : PureTerm) → (is_list_term d ≡ false → is_literal d ≡ false → g.Q (opening d)) → NamesOpen g s d
names_open g (named p) d opens = tt
names_open g (cell i) d opens = tt
names_open g shape d opens = opens
names_open g bound d opens = tt
names_open g dom d opens = opens
names_open g proto d opens = tt
names_open g gone d opens = tt

zero_orders : (g : Reading) (s : PureSub) → ((t : PureTerm) → g.Given t → g.Ordered t zero_term × g.Ordered zero_term t) → ZeroOrders g s
zero_orders g (named p) orders = tt
zero_orders g (cell i) orders = orders
zero_orders g shape orders = tt
zero_orders g bound orders = tt
zero_orders g dom orders = tt
zero_orders g proto orders = tt
zero_orders g gone orders = tt

-- the location and what is asked about are what production asks about
about_is : (s : PureSub) (l t : PureTerm) → (asked_of_core (Some (core_of_sub s)) (l ∷ sub_terms s) (outs_at s t)).0 ≡ l ∷ asked_of_new s t
about_is (named p) l t = refl
about_is (cell i) l t = refl
about_is shape l t = refl
about_is bound l t = refl
about_is dom l t = refl
about_is proto l t = refl
about_is gone l t = refl

each_has : (v : List PureValue) (ts : List PureTerm) (ws : List PureValue) → values v (from_list ts) ≡ Some ws → HaveValues v ts
each_has v [] ws have = tt
each_has v (t ∷ ts) ws have = let (a, (us, (first, rest, whole))) = both_values (value v t) (values v (from_list ts)) ws have in ((a, first), each_has v ts us rest)

-- ---- branches of one list of alternatives

module _ (v : List PureValue) where
  no_open_sure : (x : Alternatives) → AreOpen x → list_any is_empty x ≡ true → ⊥
  no_open_sure [] opens sure = true≢false (sym sure)
  no_open_sure ([] ∷ x) opens sure = true≢false (sym opens.0)
  no_open_sure ((a ∷ conds) ∷ x) opens sure = no_open_sure x opens.1 sure

  settled_open : (b : Bool) (x : Alternatives) → list_any is_empty x ≡ b → AreOpen x → AreOpen (if b then always else x)
  settled_open true x sure opens = absurd (no_open_sure x opens sure)
  settled_open false x sure opens = opens

  module _ (P : List PureChunk → Type 0) (n : PureChunk) (cs : List PureChunk) where
    abbrev Exact : Branch → Type 0
    Exact b = IsTrue (all_true v b.conds) → has_open b.conds ≡ false → P b.state

    abbrev Covers : Branch → Type 0
    Covers b = IsTrue (all_true v b.conds) × (IsTrue (has_open b.conds) ⊎ P b.state)

    exact_added : (when : Alternatives) → (Hold v when → P (cs ++ n ∷ [])) → Each Exact (added n cs when)
    exact_added when is = where_taken v (λ b. has_open b.conds ≡ false → P b.state) when (cs ++ n ∷ []) (done true_term) (λ holds conds no_open. is holds)

    open_exact : (when : Alternatives) → AreOpen when → Each Exact (added n cs when)
    open_exact when opens =
        each_map Exact (λ conds. record { conds = conds; state = cs ++ n ∷ []; result = done true_term }) (settled when)
        (each_to (λ conds. has_open conds ≡ true) (λ conds. IsTrue (all_true v conds) → has_open conds ≡ false → P (cs ++ n ∷ [])) (settled when)
        (λ conds is taken no_open. absurd (true≢false (sym is ∙ no_open)))
        (settled_open (list_any is_empty when) when refl opens))

    covered_added : (when : Alternatives) → Hold v when → P (cs ++ n ∷ []) → OneOf Covers (added n cs when)
    covered_added when holds is =
        one_map Covers (λ conds. record { conds = conds; state = cs ++ n ∷ []; result = done true_term }) (settled when)
        (one_to (λ conds. IsTrue (all_true v conds)) (λ conds. IsTrue (all_true v conds) × (IsTrue (has_open conds) ⊎ P (cs ++ n ∷ []))) (settled when) (λ conds taken. (taken, inr is)) (settled_from v when holds))

    one_both : (xs : Alternatives) → AreOpen xs → OneOf (λ conds. IsTrue (all_true v conds)) xs → OneOf (λ conds. IsTrue (all_true v conds) × (IsTrue (has_open conds) ⊎ P (cs ++ n ∷ []))) xs
    one_both [] opens one = absurd one
    one_both (conds ∷ xs) opens one = ⊎_elim (λ here. inl (here, inl opens.0)) (λ later. inr (one_both xs opens.1 later)) one

    open_added : (when : Alternatives) → AreOpen when → Hold v when → OneOf Covers (added n cs when)
    open_added when opens holds =
        one_map Covers (λ conds. record { conds = conds; state = cs ++ n ∷ []; result = done true_term }) (settled when)
        (one_both (settled when) (settled_open (list_any is_empty when) when refl opens) (settled_from v when holds))

    unless_exact : (d : PureTerm) (x : Alternatives) → (needs_form d ≡ false → Hold v x → P (cs ++ n ∷ [])) → Each Exact (added n cs (opened_unless_list d x))
    unless_exact (list_of ds) x is = exact_added x (is refl)
    unless_exact (literal k) x is = tt
    unless_exact (variable y) x is = open_exact (form_of (variable y) x) (needed_open v (variable y) x)
    unless_exact (unary_of op y) x is = open_exact (form_of (unary_of op y) x) (needed_open v (unary_of op y) x)
    unless_exact (binary_of op y z) x is = open_exact (form_of (binary_of op y z) x) (needed_open v (binary_of op y z) x)

    -- the term has a value, and is no literal
    unless_covered : (d : PureTerm) (w : PureValue) (x : Alternatives) → value v d ≡ Some w → ((k : Literal) → ¬ (d ≡ literal k)) → Hold v x → P (cs ++ n ∷ []) → OneOf Covers (added n cs (opened_unless_list d x))
    unless_covered (list_of ds) w x has no_literal holds is = covered_added x holds is
    unless_covered (literal k) w x has no_literal holds is = absurd (no_literal k refl)
    unless_covered (variable y) w x has no_literal holds is = open_added (form_of (variable y) x) (needed_open v (variable y) x) (form_holds v (variable y) w x has holds)
    unless_covered (unary_of op y) w x has no_literal holds is = open_added (form_of (unary_of op y) x) (needed_open v (unary_of op y) x) (form_holds v (unary_of op y) w x has holds)
    unless_covered (binary_of op y z) w x has no_literal holds is = open_added (form_of (binary_of op y z) x) (needed_open v (binary_of op y z) x) (form_holds v (binary_of op y z) w x has holds)

    there_open : (l loc : PureTerm) (s : PureSub) (d : PureTerm) → AreOpen (opened_there l loc s d)
    there_open l loc shape d = needed_open v d (same l loc)
    there_open l loc dom d = needed_open v d (same l loc)
    there_open l loc (named p) d = tt
    there_open l loc (cell p) d = tt
    there_open l loc bound d = tt
    there_open l loc proto d = tt
    there_open l loc gone d = tt

    all_open : (y : Alternatives) → AreOpen (both (any (opened_at n.loc) cs) y)
    all_open y = both_open v (any (opened_at n.loc) cs) y (any_open v (opened_at n.loc) cs (λ c. there_open n.loc c.loc c.sub c.val))

-- an opened list of names asks for its form
opens_there : (v : List PureValue) (l loc : PureTerm) (s : PureSub) (d : PureTerm) (w : PureValue) → has_open_names s d ≡ true → value v d ≡ Some w → Hold v (same l loc) → Hold v (opened_there l loc s d)
opens_there v l loc s d w = by s d
  where
    names : (d : PureTerm) → needs_form d ≡ true → value v d ≡ Some w → Hold v (same l loc) → Hold v (form_of d (same l loc))
    names (list_of ds) opened has holds = absurd (true≢false (sym opened))
    names (literal k) opened has holds = absurd (true≢false (sym opened))
    names (variable y) opened has holds = form_holds v (variable y) w (same l loc) has holds
    names (unary_of op y) opened has holds = form_holds v (unary_of op y) w (same l loc) has holds
    names (binary_of op y z) opened has holds = form_holds v (binary_of op y z) w (same l loc) has holds

    by : (s : PureSub) (d : PureTerm) → has_open_names s d ≡ true → value v d ≡ Some w → Hold v (same l loc) → Hold v (opened_there l loc s d)
    by shape d opened has holds = names d opened has holds
    by dom d opened has holds = names d opened has holds
    by (named p) d opened has holds = absurd (true≢false (sym opened))
    by (cell p) d opened has holds = absurd (true≢false (sym opened))
    by bound d opened has holds = absurd (true≢false (sym opened))
    by proto d opened has holds = absurd (true≢false (sym opened))
    by gone d opened has holds = absurd (true≢false (sym opened))

closed_parts : (v : List PureValue) (b : Bool) (x : Alternatives) → Hold v (if b then never else x) → (b ≡ false) × Hold v x
closed_parts v true x holds = absurd holds
closed_parts v false x holds = (refl, holds)

closed_from : (v : List PureValue) (b : Bool) (x : Alternatives) → b ≡ false → Hold v x → Hold v (if b then never else x)
closed_from v true x closed holds = absurd (true≢false closed)
closed_from v false x closed holds = holds

abbrev is_name : PureSub → Bool
is_name (named p) = true
is_name s = false

-- beside nothing but a name is anything opened
nothing_open : (s : PureSub) → is_name s ≡ false → (u : PureSub) (x : PureTerm) → is_open_beside s u x ≡ false
nothing_open (named p) no_name u x = absurd (true≢false no_name)
nothing_open (cell i) no_name u x = refl
nothing_open shape no_name u x = refl
nothing_open bound no_name u x = refl
nothing_open dom no_name u x = refl
nothing_open proto no_name u x = refl
nothing_open gone no_name u x = refl

-- 0 lies within wider bounds
zero_between : (low high : ℤ) → (low ≤ℤ pos 0) × (pos 0 ≤ℤ high) → is_between (low -ℤ growth) (high +ℤ growth) (pos 0) ≡ true
zero_between low high around =
    and_from (int_le (low -ℤ growth) (pos 0)) (int_le (pos 0) (high +ℤ growth))
    (le_from (low -ℤ growth) (pos 0) (omega (arith, ints, around.0))) (le_from (pos 0) (high +ℤ growth) (omega (arith, ints, around.1)))
  where
    le_from : (m n : ℤ) → m ≤ℤ n → int_le m n ≡ true
    le_from m n h = grind (arith, ints)

abbrev is_bound_core : Core → Bool
is_bound_core Core.Bound = true
is_bound_core core = false

named_by : (a b c d e f g : Bool)
    → (if a then Some Core.Prop else if b then Some Core.Cell else if c then Some Core.Shape else if d then Some Core.Bound else if e then Some Core.Dom else if f then Some Core.Proto else if g then Some Core.Gone else None) ≡ Some Core.Bound
    → d ≡ true
named_by true b c d e f g is = absurd (true≢false (sym (ap is_bound_core (same_some is))))
named_by false true c d e f g is = absurd (true≢false (sym (ap is_bound_core (same_some is))))
named_by false false true d e f g is = absurd (true≢false (sym (ap is_bound_core (same_some is))))
named_by false false false true e f g is = refl
named_by false false false false true f g is = absurd (true≢false (sym (ap is_bound_core (same_some is))))
named_by false false false false false true g is = absurd (true≢false (sym (ap is_bound_core (same_some is))))
named_by false false false false false false true is = absurd (true≢false (sym (ap is_bound_core (same_some is))))
named_by false false false false false false false is = not_none is

named_bound : (name : List ℕ) → core_of name ≡ Some Core.Bound → IsTrue (bytes_eq name (codes "bound"))
named_bound name is = named_by (bytes_eq name (codes "prop")) (bytes_eq name (codes "cell")) (bytes_eq name (codes "shape")) (bytes_eq name (codes "bound")) (bytes_eq name (codes "dom")) (bytes_eq name (codes "proto")) (bytes_eq name (codes "gone")) is

-- ---- a chunk

module _ (memory : MemoryName) (name : List ℕ) (n : PureChunk) (cs : List PureChunk) (is_core : core_of name ≡ Some (core_of_sub n.sub)) (of_memory : IsSubOf memory n.sub) (is_true : n.sub ≡ gone → n.val ≡ true_term) where
  abbrev ins : List PureTerm
  ins = n.loc ∷ sub_terms n.sub

  abbrev outs : List PureTerm
  outs = outs_at n.sub n.val

  abbrev after : List PureChunk
  after = cs ++ n ∷ []

  abbrev stand : Alternatives
  stand = may_stand n (fits_beside n) cs

  module _ (vars : List Sort) (v ws : List PureValue) (h : Heap) (serves : Serves (StandFor memory) terms_of vars v None ((n.loc ∷ sub_terms n.sub) ++ outs_at n.sub n.val) cs ws h) where
    over_new : Each (IsOver vars) (ins ++ outs)
    over_new = each_left (IsOver vars) (ins ++ outs) (all_of (terms_of cs)) serves.over

    over_ins : Each (IsOver vars) ins
    over_ins = each_left (IsOver vars) ins outs over_new

    over_val : IsOver vars n.val
    over_val = out_holds (IsOver vars) n.sub n.val is_true (over_literal vars (Literal.Bool true)) (each_right (IsOver vars) ins outs over_new)

    have_new : HaveValues v (ins ++ outs)
    have_new = each_has v (ins ++ outs) ws serves.have_values

    have_ins : HaveValues v ins
    have_ins = each_left (λ t. (w : PureValue) × (value v t ≡ Some w)) ins outs have_new

    have_val : (w : PureValue) × (value v n.val ≡ Some w)
    have_val = out_holds (λ t. (w : PureValue) × (value v t ≡ Some w)) n.sub n.val is_true (boolean true, refl) (each_right (λ t. (w : PureValue) × (value v t ≡ Some w)) ins outs have_new)

    abbrev w : PureValue
    w = have_val.0

    facts : Each (Fact vars v h) cs
    facts = each_fact vars v h cs serves.has_heap.union (chunk_by_chunk (IsOver vars) cs (each_right (IsOver vars) (ins ++ outs) (all_of (terms_of cs)) serves.over))

    entry_is : (us : List PureValue) → core_entry name us ≡ entry_of (core_of_sub n.sub) us
    entry_is us = ap (λ o. entry_named o us) is_core

    held_true : (u : PureValue) → value v n.val ≡ Some u → n.sub ≡ gone → u ≡ boolean true
    held_true u has e = same_some (sym has ∙ ap (value v) (is_true e))

    from_entry : (k : Key) (u : PureValue) → core_entry name ws ≡ Some (k, u) → IsEntry v n k u
    from_entry k u is = use_entry v n.loc n.sub n.val k u is_true (record { ws = ws; have = serves.have_values; entry = by_name (core_of_sub n.sub) ws ∙ sym (entry_is ws) ∙ is })

    to_entry : (k : Key) (u : PureValue) → IsEntry v n k u → core_entry name ws ≡ Some (k, u)
    to_entry k u entry =
        let use_is = entry_use v n.loc n.sub n.val k u (key_parts v n.loc n.sub k entry.at) entry.holds (held_true u entry.holds) in
        entry_is ws ∙ sym (by_name (core_of_sub n.sub) ws) ∙ ap (core_entry (core_name (core_of_sub n.sub))) (same_some (sym serves.have_values ∙ use_is.have)) ∙ use_is.entry

    -- ---- beside the chunks

    module _ (k : Key) (at : key_value v n.loc n.sub ≡ Some k) where
      loc_is : IsLocation vars v n.loc k.loc
      loc_is = record { over = over_ins.0; is = (key_parts v n.loc n.sub k at).at }

      told_new : (d : Told vars v serves.proper n.sub) × (sub_told vars v serves.proper n.sub d ≡ k.sub)
      told_new = told_of vars v serves.proper n.sub k.sub over_ins.1 (key_parts v n.loc n.sub k at).sub

      told_chunk : (c : PureChunk) (f : Fact vars v h c) → (d : Told vars v serves.proper c.sub) × (sub_told vars v serves.proper c.sub d ≡ f.k.sub)
      told_chunk c f = told_of vars v serves.proper c.sub f.k.sub f.over.places.1 (fact_sub vars v h c f)

      alone_chunk : (c : PureChunk) (f : Fact vars v h c) → IsAlone f.k.sub f.w
      alone_chunk c f = held_alone h f.k f.w serves.has_heap.is_heap.well_formed f.held

      differs : (c : PureChunk) (f : Fact vars v h c) → Hold v (fits_beside n c) → ¬ (k.sub ≡ f.k.sub)
      differs c f holds e =
          fits_differ vars v serves.proper n.val c.val w f.w over_val (chunk_val (IsOver vars) c f.over) have_val.1 f.entry.holds n.sub c.sub told_new.0 (told_chunk c f).0 holds
          (told_new.1 ∙ e ∙ sym (told_chunk c f).1)

      together : IsAlone k.sub w → has_open_names n.sub n.val ≡ false → (c : PureChunk) (f : Fact vars v h c) → is_open_beside n.sub c.sub c.val ≡ false → Hold v (fits_beside n c) → FitTogether k.sub w f.k.sub f.w
      together alone closed c f beside holds =
          subst (λ s. FitTogether s w f.k.sub f.w) told_new.1
          (subst (λ s. FitTogether (sub_told vars v serves.proper n.sub told_new.0) w s f.w) (told_chunk c f).1
          (fits_together vars v serves.proper n.val c.val w f.w over_val (chunk_val (IsOver vars) c f.over) have_val.1 f.entry.holds n.sub c.sub told_new.0 (told_chunk c f).0
          (subst (λ s. IsAlone s w) (sym told_new.1) alone) (subst (λ s. IsAlone s f.w) (sym (told_chunk c f).1) (alone_chunk c f)) closed beside holds))

      beside_from : IsAlone k.sub w → (c : PureChunk) (f : Fact vars v h c) → ¬ (k.sub ≡ f.k.sub) → FitTogether k.sub w f.k.sub f.w → Hold v (fits_beside n c)
      beside_from alone c f differ fit =
          fits_from vars v serves.proper n.val c.val w f.w over_val (chunk_val (IsOver vars) c f.over) have_val.1 f.entry.holds n.sub c.sub told_new.0 (told_chunk c f).0
          (subst (λ s. IsAlone s w) (sym told_new.1) alone) (subst (λ s. IsAlone s f.w) (sym (told_chunk c f).1) (alone_chunk c f))
          (λ e. differ (sym told_new.1 ∙ e ∙ (told_chunk c f).1))
          (subst (λ s. FitTogether s w (sub_told vars v serves.proper c.sub (told_chunk c f).0) f.w) (sym told_new.1) (subst (λ s. FitTogether k.sub w s f.w) (sym (told_chunk c f).1) fit))

      -- each chunk of the location fits
      abbrev Beside : Type 0
      Beside = (i : ℕ) (c : PureChunk) (f : Fact vars v h c) → slice_get cs i ≡ Some c → f.k.loc ≡ k.loc → Hold v (fits_beside n c)

      beside_parts : Hold v (all_by_place n.loc (fits_beside n) cs) → Beside
      beside_parts holds i c f there e = by_place_parts vars v h serves.proper cs serves.has_heap.union facts n.loc k.loc loc_is (fits_beside n) holds i c f there e

      lacks_key : Beside → ¬ HasKey h k
      lacks_key beside has =
          let (u, held) = value_at h k has in
          at_chunk vars v h serves.proper cs serves.has_heap.union facts k u held (λ i c f there e is. differs c f (beside i c f there (ap (λ (q : Key). q.loc) e)) (ap (λ (q : Key). q.sub) (sym e)))

      abbrev ClosedBeside : Type 0
      ClosedBeside = (i : ℕ) (c : PureChunk) (f : Fact vars v h c) → slice_get cs i ≡ Some c → f.k.loc ≡ k.loc → is_open_beside n.sub c.sub c.val ≡ false

      may_be_added : IsAlone k.sub w → has_open_names n.sub n.val ≡ false → Beside → ClosedBeside → IsAdded memory (StandFor memory) terms_of name v ws h after
      may_be_added alone closed beside closed_beside =
          let entry : IsEntry v n k w = record { at = at; holds = have_val.1 } in
          let lacks = lacks_key beside in
          let of_key : IsTrue (has_subkey memory k.sub) = sym ((cores_stand_for_keys (core_of_sub n.sub)).memories memory ws k w (sym (entry_is ws) ∙ to_entry k w entry)) ∙ of_memory in
          let is_heap = (one_key_more_is_heap memory h k w lacks).1 (
            serves.has_heap.is_heap,
            record { subkeys = λ q has. subst (λ (r : Key). IsTrue (has_subkey memory r.sub)) (sym (at_key k w q has)) of_key; well_formed = alone_well_formed k w alone },
            λ q u held here. at_chunk vars v h serves.proper cs serves.has_heap.union facts q u held (λ i c f there e is.
                let lies : f.k.loc ≡ k.loc = ap (λ (r : Key). r.loc) e ∙ sym here in
                subst (λ x. FitTogether k.sub w q.sub x) is (subst (λ (r : Key). FitTogether k.sub w r.sub f.w) e (together alone closed c f (closed_beside i c f there lies) (beside i c f there lies)))),
          ) in
          record {
            k = k;
            w = w;
            may = record { entry = to_entry k w entry; lacks = lacks; is_heap = is_heap };
            stands_for = record { union = put_last v cs h n k w serves.has_heap.union entry lacks; is_heap = is_heap };
          }

    -- the key of a chunk that is right by itself
    abbrev RightKey : Type 0
    RightKey = (k : Key) × ((key_value v n.loc n.sub ≡ Some k) × IsAlone k.sub w)

    right_key : has_open_names n.sub n.val ≡ false → Hold v (is_right n.loc n.sub n.val) → RightKey
    right_key closed holds =
        right_gives vars v serves.proper n.loc n.val have_ins.0.0 w over_ins.0 over_val have_ins.0.1 have_val.1 n.sub over_ins.1 have_ins.1 (held_true w have_val.1) closed holds

    abbrev Added : List PureChunk → Type 0
    Added ds = IsAdded memory (StandFor memory) terms_of name v ws h ds

    added_if : has_open_names n.sub n.val ≡ false → is_name n.sub ≡ false → Hold v stand → Added after
    added_if closed no_name holds =
        let parts = both_parts v (is_right n.loc n.sub n.val) (all_by_place n.loc (fits_beside n) cs) holds in
        let (k, (at, alone)) = right_key closed parts.0 in
        may_be_added k at alone closed (beside_parts k at parts.1) (λ i c f there e. nothing_open n.sub no_name c.sub c.val)

    closed_added : has_open_names n.sub n.val ≡ false → ((u : PureSub) (x : PureTerm) → is_open_beside n.sub u x ≡ has_open_names u x) → Hold v (may_stand n (fits_closed n) cs) → Added after
    closed_added closed is_named holds =
        let parts = both_parts v (is_right n.loc n.sub n.val) (all_by_place n.loc (fits_closed n) cs) holds in
        let (k, (at, alone)) = right_key closed parts.0 in
        let each : (i : ℕ) (c : PureChunk) (f : Fact vars v h c) → slice_get cs i ≡ Some c → f.k.loc ≡ k.loc → (has_open_names c.sub c.val ≡ false) × Hold v (fits_beside n c) =
        (λ i c f there e. closed_parts v (has_open_names c.sub c.val) (fits_beside n c) (by_place_parts vars v h serves.proper cs serves.has_heap.union facts n.loc k.loc (loc_is k at) (fits_closed n) parts.1 i c f there e)) in
        may_be_added k at alone closed (λ i c f there e. (each i c f there e).1) (λ i c f there e. is_named c.sub c.val ∙ (each i c f there e).0)

    -- ---- exactness

    abbrev IsExact : Branch → Type 0
    IsExact b = IsTrue (all_true v b.conds) → has_open b.conds ≡ false → Added b.state

    exact_at : (s : PureSub) → n.sub ≡ s → Each IsExact (produced_at s n cs)
    exact_at (named p) e =
        each_append IsExact (added n cs (may_stand n (fits_closed n) cs)) (added n cs (both (any (opened_at n.loc) cs) stand))
        (exact_added v Added n cs (may_stand n (fits_closed n) cs) (closed_added (ap (λ s. has_open_names s n.val) e) (λ u x. ap (λ s. is_open_beside s u x) e)))
        (open_exact v Added n cs (both (any (opened_at n.loc) cs) stand) (all_open v Added n cs stand))
    exact_at shape e = unless_exact v Added n cs n.val stand (λ closed holds. added_if (ap (λ s. has_open_names s n.val) e ∙ closed) (ap is_name e) holds)
    exact_at dom e = unless_exact v Added n cs n.val stand (λ closed holds. added_if (ap (λ s. has_open_names s n.val) e ∙ closed) (ap is_name e) holds)
    exact_at (cell i) e = exact_added v Added n cs stand (added_if (ap (λ s. has_open_names s n.val) e) (ap is_name e))
    exact_at bound e = exact_added v Added n cs stand (added_if (ap (λ s. has_open_names s n.val) e) (ap is_name e))
    exact_at proto e = exact_added v Added n cs stand (added_if (ap (λ s. has_open_names s n.val) e) (ap is_name e))
    exact_at gone e = exact_added v Added n cs stand (added_if (ap (λ s. has_open_names s n.val) e) (ap is_name e))

    -- ---- cover

    module _ (k : Key) (u : PureValue) (is : core_entry name ws ≡ Some (k, u)) (lacks : ¬ HasKey h k) (is_heap : IsHeapOf memory (insert h k u)) where
      entry : IsEntry v n k u
      entry = from_entry k u is

      same_held : u ≡ w
      same_held = same_some (sym entry.holds ∙ have_val.1)

      heap_parts : IsHeapOf memory h × IsHeapOf memory (one_key k u) × ((q : Key) (x : PureValue) → Holds h q x → k.loc ≡ q.loc → FitTogether k.sub u q.sub x)
      heap_parts = (one_key_more_is_heap memory h k u lacks).0 is_heap

      alone : IsAlone k.sub w
      alone = subst (IsAlone k.sub) same_held (well_formed_alone k u heap_parts.1.well_formed)

      is_stand : Hold v (is_right n.loc n.sub n.val)
      is_stand = right_from vars v serves.proper n.loc n.val have_ins.0.0 w over_ins.0 over_val have_ins.0.1 have_val.1 n.sub k over_ins.1 entry.at alone

      beside : Beside k entry.at
      beside i c f there e =
          beside_from k entry.at alone c f
          (λ same. lacks (subst (HasKey h) (λ j. key (e j) (sym same j)) (has_key h f.k f.w f.held)))
          (subst (λ x. FitTogether k.sub x f.k.sub f.w) same_held (heap_parts.2 f.k f.w f.held (sym e)))

      stands_there : StandFor memory after v (insert h k u)
      stands_there = record { union = put_last v cs h n k u serves.has_heap.union entry lacks; is_heap = is_heap }

      may : Hold v stand
      may = both_from v (is_right n.loc n.sub n.val) (all_by_place n.loc (fits_beside n) cs) is_stand (by_place_from vars v h serves.proper cs serves.has_heap.union facts n.loc k.loc (loc_is k entry.at) (fits_beside n) beside)

      abbrev Stands : List PureChunk → Type 0
      Stands ds = StandFor memory ds v (insert h k u)

      abbrev IsCovered : Branch → Type 0
      IsCovered b = IsTrue (all_true v b.conds) × (IsTrue (has_open b.conds) ⊎ StandFor memory b.state v (insert h k u))

      -- a literal is no list of names
      no_literal : (s : PureSub) → n.sub ≡ s → (has_open_names s n.val ≡ needs_form n.val) → (are_names (of_kind n.loc Kind.Sym) n.val ≡ is_right n.loc s n.val) → (m : Literal) → ¬ (n.val ≡ literal m)
      no_literal s e opened names m same =
          let holds : Hold v (are_names (of_kind n.loc Kind.Sym) n.val) = subst (Hold v) (ap (λ r. is_right n.loc r n.val) e ∙ sym names) is_stand in
          no_list_literal m v (both_parts v (of_kind n.loc Kind.Sym) (of_kind (literal m) Kind.List) (subst (λ d. Hold v (are_names (of_kind n.loc Kind.Sym) d)) same holds)).1

      -- some list of names beside it is opened, or each is closed
      abbrev OpenThere : PureChunk → Type 0
      OpenThere c = Hold v (opened_at n.loc c)

      abbrev ClosedThere : PureChunk → Type 0
      ClosedThere c = value v c.loc ≡ Some (symbol k.loc) → has_open_names c.sub c.val ≡ false

      same_there : (c : PureChunk) (f : Fact vars v h c) → f.k.loc ≡ k.loc → Hold v (same n.loc c.loc)
      same_there c f e =
          let place = loc_is k entry.at in
          let there = fact_loc vars v h c f in
          (same_tells vars v n.loc c.loc (symbol k.loc) (symbol f.k.loc) (record { proper = serves.proper; first_over = place.over; second_over = there.over; first = place.is; second = there.is })).1 (ap symbol (sym e))

      open_by : (c : PureChunk) (f : Fact vars v h c) → (b test : Bool) → has_open_names c.sub c.val ≡ b → nat_eq f.k.loc k.loc ≡ test → OpenThere c ⊎ ClosedThere c
      open_by c f false test opened tested = inr (λ lies. opened)
      open_by c f true true opened tested = inl (opens_there v n.loc c.loc c.sub c.val f.w opened f.entry.holds (same_there c f ((Decides-eqb f.k.loc k.loc).0 tested)))
      open_by c f true false opened tested = inr (λ lies. absurd (true≢false (sym ((Decides-eqb f.k.loc k.loc).1 (same_symbols (same_some (sym (fact_loc vars v h c f).is ∙ lies)))) ∙ tested)))

      open_or_closed : (ds : List PureChunk) → Each (Fact vars v h) ds → OneOf OpenThere ds ⊎ Each ClosedThere ds
      open_or_closed [] all_facts = inr tt
      open_or_closed (c ∷ ds) all_facts =
          ⊎_elim (λ here. inl (inl here))
          (λ closed. ⊎_elim (λ later. inl (inr later)) (λ rest. inr (closed, rest)) (open_or_closed ds all_facts.1))
          (open_by c all_facts.0 (has_open_names c.sub c.val) (nat_eq all_facts.0.k.loc k.loc) refl refl)

      name_covered : OneOf IsCovered (added n cs (may_stand n (fits_closed n) cs) ++ added n cs (both (any (opened_at n.loc) cs) stand))
      name_covered =
          ⊎_elim
          (λ opened. one_right IsCovered (added n cs (may_stand n (fits_closed n) cs)) (added n cs (both (any (opened_at n.loc) cs) stand))
          (open_added v Stands n cs (both (any (opened_at n.loc) cs) stand) (all_open v Stands n cs stand)
          (both_from v (any (opened_at n.loc) cs) stand (one_flat (λ conds. IsTrue (all_true v conds)) (opened_at n.loc) cs opened) may)))
          (λ closed. one_left IsCovered (added n cs (may_stand n (fits_closed n) cs)) (added n cs (both (any (opened_at n.loc) cs) stand))
          (covered_added v Stands n cs (may_stand n (fits_closed n) cs)
          (both_from v (is_right n.loc n.sub n.val) (all_by_place n.loc (fits_closed n) cs) is_stand
          (by_place_from vars v h serves.proper cs serves.has_heap.union facts n.loc k.loc (loc_is k entry.at) (fits_closed n)
          (λ i c f there e. closed_from v (has_open_names c.sub c.val) (fits_beside n c)
          (each_at ClosedThere cs i c closed there ((fact_loc vars v h c f).is ∙ ap (λ m. Some (symbol m)) e)) (beside i c f there e))))
          stands_there))
          (open_or_closed cs facts)

      cover_at : (s : PureSub) → n.sub ≡ s → OneOf IsCovered (produced_at s n cs)
      cover_at (named p) e = name_covered
      cover_at shape e = unless_covered v Stands n cs n.val w stand have_val.1 (no_literal shape e refl refl) may stands_there
      cover_at dom e = unless_covered v Stands n cs n.val w stand have_val.1 (no_literal dom e refl refl) may stands_there
      cover_at (cell i) e = covered_added v Stands n cs stand may stands_there
      cover_at bound e = covered_added v Stands n cs stand may stands_there
      cover_at proto e = covered_added v Stands n cs stand may stands_there
      cover_at gone e = covered_added v Stands n cs stand may stands_there

    -- ---- literal forms

    closed_state : IsFineState closed_reading cs
    closed_state = loose_state NoOpen positive_closed negative_closed (λ s t. ⊤) (λ s. ⊤) cs (each_every (λ c. ⊤) (λ c. tt) cs)

    asked_all : Each (λ t. ⊤) (asked_of_new n.sub n.val)
    asked_all = any_term (asked_of_new n.sub n.val)

    closed_stand : EachAtom NoOpen stand
    closed_stand = stand_shaped closed_reading n tt asked_all (zero_orders closed_reading n.sub (λ t given. (tt, tt))) cs (closed_sides cs)

    closed_known : EachAtom NoOpen (may_stand n (fits_closed n) cs)
    closed_known = stand_closed_shaped closed_reading n tt asked_all (zero_orders closed_reading n.sub (λ t given. (tt, tt))) cs (closed_sides cs)

    closed_places : Each (λ c. EachAtom NoOpen (same n.loc c.loc)) cs
    closed_places = same_places closed_reading n tt asked_all (zero_orders closed_reading n.sub (λ t given. (tt, tt))) cs (closed_sides cs)

    -- a descriptor holds the term at the value of the location
    record DescribedThere (t : PureTerm) : Type 0 where
      described : IsAmong t (terms_of cs).described
      located : OneOf (λ p. (location_of (value v p.loc) ≡ location_of (value v n.loc)) × IsAmong t p.terms) (terms_of cs).located

    described_each : Each (λ c. Each (λ t. IsAmong t (terms_of cs).described) (value_where_described c.sub c.val)) cs
    described_each = each_flattened (λ t. IsAmong t (terms_of cs).described) (λ (c : PureChunk). value_where_described c.sub c.val) cs (each_is_among (terms_of cs).described)

    same_location : (c : PureChunk) (f : Fact vars v h c) → Hold v (same n.loc c.loc) → location_of (value v c.loc) ≡ location_of (value v n.loc)
    same_location c f holds =
        let there = fact_loc vars v h c f in
        ap location_of (there.is ∙ ap Some (sym ((same_tells vars v n.loc c.loc have_ins.0.0 (symbol f.k.loc) (record { proper = serves.proper; first_over = over_ins.0; second_over = there.over; first = have_ins.0.1; second = there.is })).0 holds)) ∙ sym have_ins.0.1)

    described_at : (i : ℕ) (c : PureChunk) → slice_get cs i ≡ Some c → Fact vars v h c → (t : PureTerm) → IsAmong t (value_where_described c.sub c.val) → Hold v (same n.loc c.loc) → DescribedThere t
    described_at i c there f t among holds = record {
      described = one_with (λ y. IsAmong y (terms_of cs).described) (λ y. y ≡ t) (value_where_described c.sub c.val) (each_at (λ d. Each (λ y. IsAmong y (terms_of cs).described) (value_where_described d.sub d.val)) cs i c described_each there) among (λ y is e. subst (λ z. IsAmong z (terms_of cs).described) e is);
      located =
          one_map (λ p. (location_of (value v p.loc) ≡ location_of (value v n.loc)) × IsAmong t p.terms) located_in cs
          (one_at (λ d. (location_of (value v d.loc) ≡ location_of (value v n.loc)) × IsAmong t (located_in d).terms) cs i c there
          (same_location c f holds, one_right (λ y. y ≡ t) (sub_terms c.sub) (value_where_described c.sub c.val) among));
    }

    opened_for : (c : PureChunk) → ((t : PureTerm) → IsAmong t (value_where_described c.sub c.val) → Hold v (same n.loc c.loc) → DescribedThere t) → EachAtom NoOpen (same n.loc c.loc) → (s : PureSub) → c.sub ≡ s → OpenFor v DescribedThere (opened_there n.loc c.loc s c.val)
    opened_for c is closed shape e = opens_form v DescribedThere c.val (same n.loc c.loc) (λ holds. is c.val (subst (λ s. IsAmong c.val (value_where_described s c.val)) (sym e) (inl refl)) holds) closed
    opened_for c is closed dom e = opens_form v DescribedThere c.val (same n.loc c.loc) (λ holds. is c.val (subst (λ s. IsAmong c.val (value_where_described s c.val)) (sym e) (inl refl)) holds) closed
    opened_for c is closed (named p) e = tt
    opened_for c is closed (cell p) e = tt
    opened_for c is closed bound e = tt
    opened_for c is closed proto e = tt
    opened_for c is closed gone e = tt

    some_opened : OpenFor v DescribedThere (any (opened_at n.loc) cs)
    some_opened =
        each_flat (λ conds. IsTrue (all_true v conds) → Each (OpensOnly DescribedThere) conds) (opened_at n.loc) cs
        (each_by_place (λ c. OpenFor v DescribedThere (opened_at n.loc c)) cs
        (λ i c there. opened_for c (described_at i c there (each_at (Fact vars v h) cs i c facts there)) (each_at (λ d. EachAtom NoOpen (same n.loc d.loc)) cs i c closed_places there) c.sub refl))

    -- where the alternatives hold, D gives D'
    open_to : (D D' : PureTerm → Type 0) (x : Alternatives) → (Hold v x → (t : PureTerm) → D t → D' t) → OpenFor v D x → OpenFor v D' x
    open_to D D' [] f opens = tt
    open_to D D' (conds ∷ x) f opens = (
      (λ taken. each_to (OpensOnly D) (OpensOnly D') conds (λ a only t e. f (inl taken) t (only t e)) (opens.0 taken)),
      open_to D D' x (λ holds. f (inr holds)) opens.1,
    )

    abbrev Depends : PureSub → PureTerm → Type 0
    Depends s t = DependsOnForm (Some (core_of_sub s)) (n.loc ∷ sub_terms s) (outs_at s n.val) (terms_of cs) v h t

    opens_closed : (D : PureTerm → Type 0) (x : Alternatives) → EachAtom NoOpen x → Each (Opens v D) (added n cs x)
    opens_closed D x closed = branches_open v D x after (done true_term) (closed_open v D x closed)

    -- where a list is produced whose form is needed, its value is a list
    list_produced : (d : PureTerm) → n.val ≡ d → (holds : Hold v stand → Hold v (of_kind d Kind.List)) → Hold v stand → IsListProduced v n.val d
    list_produced d e kind holds = record {
      given = e;
      value_of = w;
      is = ap (value v) (sym e) ∙ have_val.1;
      is_list = (of_kind_tells vars v d Kind.List w serves.proper (subst (IsOver vars) e over_val) (ap (value v) (sym e) ∙ have_val.1)).0 (kind holds);
    }

    unless_opens : (D : PureTerm → Type 0) (d : PureTerm) → n.val ≡ d → (s : PureSub) → n.sub ≡ s → (is_right n.loc s n.val ≡ are_names (of_kind n.loc Kind.Sym) n.val) → ((t : PureTerm) → IsListProduced v n.val t → D t) → Each (Opens v D) (added n cs (opened_unless_list d stand))
    unless_opens D d same s e names gives = by d same
      where
        kind_holds : (d : PureTerm) → n.val ≡ d → (are_names (of_kind n.loc Kind.Sym) d ≡ both (of_kind n.loc Kind.Sym) (of_kind d Kind.List)) → Hold v stand → Hold v (of_kind d Kind.List)
        kind_holds d same is holds =
            (both_parts v (of_kind n.loc Kind.Sym) (of_kind d Kind.List)
            (subst (Hold v) ((λ i. is_right n.loc (e i) n.val) ∙ names ∙ ap (are_names (of_kind n.loc Kind.Sym)) same ∙ is) (both_parts v (is_right n.loc n.sub n.val) (all_by_place n.loc (fits_beside n) cs) holds).0)).1

        needed : (d : PureTerm) → n.val ≡ d → (are_names (of_kind n.loc Kind.Sym) d ≡ both (of_kind n.loc Kind.Sym) (of_kind d Kind.List)) → Each (Opens v D) (added n cs (form_of d stand))
        needed d same is = branches_open v D (form_of d stand) after (done true_term) (opens_form v D d stand (λ holds. gives d (list_produced d same (kind_holds d same is) holds)) closed_stand)

        by : (d : PureTerm) → n.val ≡ d → Each (Opens v D) (added n cs (opened_unless_list d stand))
        by (list_of ds) same = opens_closed D stand closed_stand
        by (literal k) same = tt
        by (variable y) same = needed (variable y) same refl
        by (unary_of op y) same = needed (unary_of op y) same refl
        by (binary_of op y z) same = needed (binary_of op y z) same refl

    -- where a name is produced beside a list whose form is needed, the heap lacks it
    name_beside : (p : PureTerm) → n.sub ≡ named p → Hold v (both (any (opened_at n.loc) cs) stand) → (t : PureTerm) → DescribedThere t → NamesBeside v (terms_of cs) h n.loc p t
    name_beside p e holds t there =
        let parts = both_parts v (is_right n.loc n.sub n.val) (all_by_place n.loc (fits_beside n) cs) (both_parts v (any (opened_at n.loc) cs) stand holds).1 in
        let (k, (at, alone)) = right_key (ap (λ s. has_open_names s n.val) e) parts.0 in
        record {
          k = k;
          at = subst (λ s. key_value v n.loc s ≡ Some k) e at;
          lacks = lacks_key k at (beside_parts k at parts.1);
          described = (
            there.described,
            one_to (λ q. (location_of (value v q.loc) ≡ location_of (value v n.loc)) × IsAmong t q.terms) (λ q. (location_of (value v q.loc) ≡ Some k.loc) × IsAmong t q.terms) (terms_of cs).located
                (λ q (is, among). (is ∙ ap location_of (loc_is k at).is, among)) there.located,
          );
        }

    forms_at : (s : PureSub) → n.sub ≡ s → Each (Opens v (Depends s)) (produced_at s n cs)
    forms_at (named p) e =
        each_append (Opens v (Depends (named p))) (added n cs (may_stand n (fits_closed n) cs)) (added n cs (both (any (opened_at n.loc) cs) stand))
        (opens_closed (Depends (named p)) (may_stand n (fits_closed n) cs) closed_known)
        (branches_open v (Depends (named p)) (both (any (opened_at n.loc) cs) stand) after (done true_term)
        (open_to DescribedThere (Depends (named p)) (both (any (opened_at n.loc) cs) stand) (name_beside p e)
        (opens_both v DescribedThere (any (opened_at n.loc) cs) stand some_opened (λ holds. closed_open v DescribedThere stand closed_stand))))
    forms_at shape e = unless_opens (Depends shape) n.val refl shape e refl (λ t is. is)
    forms_at dom e = unless_opens (Depends dom) n.val refl dom e refl (λ t is. is)
    forms_at (cell i) e = opens_closed (Depends (cell i)) stand closed_stand
    forms_at bound e = opens_closed (Depends bound) stand closed_stand
    forms_at proto e = opens_closed (Depends proto) stand closed_stand
    forms_at gone e = opens_closed (Depends gone) stand closed_stand

  -- ---- results

  abbrev IsTrueDone : Branch → Type 0
  IsTrueDone b = b.result ≡ done true_term

  added_done : (x : Alternatives) → Each IsTrueDone (added n cs x)
  added_done x = each_map IsTrueDone (λ conds. record { conds = conds; state = after; result = done true_term }) (settled x) (each_every (λ conds. done true_term ≡ done true_term) (λ conds. refl) (settled x))

  results_at : (s : PureSub) → Each IsTrueDone (produced_at s n cs)
  results_at (named p) = each_append IsTrueDone (added n cs (may_stand n (fits_closed n) cs)) (added n cs (both (any (opened_at n.loc) cs) stand)) (added_done (may_stand n (fits_closed n) cs)) (added_done (both (any (opened_at n.loc) cs) stand))
  results_at shape = added_done (opened_unless_list n.val stand)
  results_at dom = added_done (opened_unless_list n.val stand)
  results_at (cell i) = added_done stand
  results_at bound = added_done stand
  results_at proto = added_done stand
  results_at gone = added_done stand

  -- ---- terms and conditions

  abbrev all_given : List PureTerm
  all_given = (ins ++ outs) ++ all_of (terms_of cs)

  -- the chunk is fine where its ins and outs are
  module _ (g : Reading) (r_new : Each g.R (ins ++ outs)) (n_new : g.N n.sub n.val) where
    fine_new : IsFine g n
    fine_new =
        let r_ins = each_left g.R ins outs r_new in
        fine_chunk g n r_ins.0 r_ins.1 (out_holds g.R n.sub n.val is_true g.r_true (each_right g.R ins outs r_new)) n_new

  abbrev asked : List PureTerm × List PureTerm
  asked = asked_of_core (Some (core_of_sub n.sub)) ins outs

  abbrev own : Reading
  own = own_reading asked all_given None cs

  own_asked : Each (IsListed asked.0) (n.loc ∷ asked_of_new n.sub n.val)
  own_asked = subst (λ ts. Each (IsListed asked.0) ts) (about_is n.sub n.loc n.val) (each_to (λ t. IsAmong t asked.0) (IsListed asked.0) asked.0 (λ t is. is_given is) (each_is_among asked.0))

  literal_limit : IsAmong zero_term asked.0 → IsLimit (asked_of asked (terms_of cs)) zero_term
  literal_limit among = inr (among, refl)

  ordered_zero : IsAmong zero_term asked.0 → (t : PureTerm) → IsListed asked.0 t → AreOrdered (asked_of asked (terms_of cs)) t zero_term × AreOrdered (asked_of asked (terms_of cs)) zero_term t
  ordered_zero among t listed = let limit = literal_limit among in (inl (inl listed, limit), inr (inl (limit, listed)))

  own_zero : (s : PureSub) → n.sub ≡ s → ZeroOrders own s
  own_zero (cell i) e = ordered_zero (subst (λ ts. IsAmong zero_term ts) (sym (about_is n.sub n.loc n.val)) (subst (λ s. IsAmong zero_term (n.loc ∷ asked_of_new s n.val)) (sym e) (inr (inr (inl refl)))))
  own_zero (named p) e = tt
  own_zero shape e = tt
  own_zero bound e = tt
  own_zero dom e = tt
  own_zero proto e = tt
  own_zero gone e = tt

  own_names : (s : PureSub) → n.sub ≡ s → NamesOpen own s n.val
  own_names shape e = λ no_list no_literal. (inl (subst (λ s. IsAmong n.val (asked_of_core (Some (core_of_sub s)) (n.loc ∷ sub_terms s) (outs_at s n.val)).1) (sym e) (inl refl)), no_list, no_literal)
  own_names dom e = λ no_list no_literal. (inl (subst (λ s. IsAmong n.val (asked_of_core (Some (core_of_sub s)) (n.loc ∷ sub_terms s) (outs_at s n.val)).1) (sym e) (inl refl)), no_list, no_literal)
  own_names (named p) e = tt
  own_names (cell i) e = tt
  own_names bound e = tt
  own_names proto e = tt
  own_names gone e = tt

  made_new : Each (IsMadeOf all_given None) (ins ++ outs)
  made_new = each_to (λ t. IsAmong t all_given) (IsMadeOf all_given None) (ins ++ outs) (λ t is. made_of_given all_given None t (is_given is)) (each_left (λ t. IsAmong t all_given) (ins ++ outs) (all_of (terms_of cs)) (each_is_among all_given))

  own_shaped : Each (Shaped own) (produced n cs)
  own_shaped =
      produced_shaped own n own_asked.0 own_asked.1 (own_zero n.sub refl) cs (own_sides asked all_given None cs)
      (made_state asked all_given None cs (each_right (λ t. IsAmong t all_given) (ins ++ outs) (all_of (terms_of cs)) (each_is_among all_given)))
      (fine_new own made_new tt) (own_forms asked all_given None cs) (own_names n.sub refl)

  over_shaped : (vars : List Sort) → AreEachOver vars all_given → Each (Shaped (over_reading vars)) (produced n cs)
  over_shaped vars over =
      let new = each_left (IsOver vars) (ins ++ outs) (all_of (terms_of cs)) over in
      let news = each_left (IsOver vars) ins outs new in
      let val = out_holds (IsOver vars) n.sub n.val is_true (over_literal vars (Literal.Bool true)) (each_right (IsOver vars) ins outs new) in
      let all_over = each_right (IsOver vars) (ins ++ outs) (all_of (terms_of cs)) over in
      let zero = over_literal vars (Literal.Int (pos 0)) in
      produced_shaped (over_reading vars) n news.0 (asked_hold (IsOver vars) n.sub n.val news.1 val zero) (zero_orders (over_reading vars) n.sub (λ t given. ((given, zero), (zero, given)))) cs (over_sides vars cs all_over) (over_state vars cs all_over)
      (fine_new (over_reading vars) new tt) (over_forms vars cs all_over) (names_open (over_reading vars) n.sub n.val (λ no_list no_literal. val))

  chunk_law : ProduceLaw memory (StandFor memory) terms_of name (n.loc ∷ sub_terms n.sub) (outs_at n.sub n.val) cs (produced n cs)
  chunk_law = record {
    cover = λ vars v ws h k u serves may. cover_at vars v ws h serves k u may.entry may.lacks may.is_heap n.sub refl;
    exact = λ vars v ws h serves. exact_at vars v ws h serves n.sub refl;
    results = results_at n.sub;
    variables = λ vars over fresh_over. shaped_named (produced n cs) vars (over_shaped vars over);
    own = subst (λ o. HaveOwnConditions (asked_of (asked_of_core o ins outs) (terms_of cs)) (produced n cs)) (sym is_core) (shaped_conds (produced n cs) own own_shaped);
    made = shaped_terms (produced n cs) own own_shaped;
  }

  chunk_forms : ProducesWhatMatters memory (StandFor memory) terms_of name (n.loc ∷ sub_terms n.sub) (outs_at n.sub n.val) cs (produced n cs)
  chunk_forms vars v ws h serves =
      subst (λ o. Each (Opens v (DependsOnForm o ins outs (terms_of cs) v h)) (produced n cs)) (sym is_core) (forms_at vars v ws h serves n.sub refl)

  -- ---- plain

  module _ (low high : ℤ) (around_zero : (low ≤ℤ pos 0) × (pos 0 ≤ℤ high)) (plain : IsPlainState memory (terms_of cs) low high) (plain_new : Each (IsPlainWithin low high) (ins ++ outs)) where
    abbrev wide : Reading
    wide = plain_reading memory (low -ℤ growth) (high +ℤ growth)

    abbrev IsWide : PureTerm → Type 0
    IsWide t = IsPlainWithin (low -ℤ growth) (high +ℤ growth) t

    wider : IsPlainState memory (terms_of cs) (low -ℤ growth) (high +ℤ growth)
    wider = record { plain = each_to (IsPlainWithin low high) IsWide (all_of (terms_of cs)) (plain_wider low high) plain.plain; described = plain.described }

    wide_new : Each IsWide (ins ++ outs)
    wide_new = each_to (IsPlainWithin low high) IsWide (ins ++ outs) (plain_wider low high) plain_new

    wide_ins : Each IsWide ins
    wide_ins = each_left IsWide ins outs wide_new

    wide_val : IsWide n.val
    wide_val = out_holds IsWide n.sub n.val is_true (refl, refl) (each_right IsWide ins outs wide_new)

    wide_zero : IsWide zero_term
    wide_zero = (refl, zero_between low high around_zero)

    plain_shaped : Each (λ u. IsTrue (is_plain_description memory u)) (value_where_described n.sub n.val) → NamesOpen wide n.sub n.val → Each (Shaped wide) (produced n cs)
    plain_shaped described names =
        produced_shaped wide n wide_ins.0 (asked_hold IsWide n.sub n.val wide_ins.1 wide_val wide_zero) (zero_orders wide n.sub (λ t given. ((given, wide_zero), (wide_zero, given)))) cs
        (plain_sides memory (low -ℤ growth) (high +ℤ growth) cs wider) (plain_state memory (low -ℤ growth) (high +ℤ growth) cs wider)
        (fine_new wide wide_new described) (plain_forms memory (low -ℤ growth) (high +ℤ growth) cs wider) names

    -- names that are a list term, or surely no list
    names_by : (s : PureSub) → n.sub ≡ s → (produced_at s n cs ≡ added n cs (opened_unless_list n.val stand)) → (is_right n.loc s n.val ≡ are_names (of_kind n.loc Kind.Sym) n.val) → (is_list_term n.val ≡ true → Each (λ u. IsTrue (is_plain_description memory u)) (value_where_described n.sub n.val)) → (b : Bool) → is_list_term n.val ≡ b → Each (Shaped wide) (produced n cs)
    names_by s e is right described true is_list = plain_shaped (described is_list) (names_open wide n.sub n.val (λ no_list no_literal. absurd (true≢false (sym is_list ∙ no_list))))
    names_by s e is right described false no_list =
        subst (Each (Shaped wide))
        (sym (ap (λ r. produced_at r n cs) e ∙ is ∙ ap (λ x. added n cs (opened_unless_list n.val (both x (all_by_place n.loc (fits_beside n) cs)))) (ap (λ r. is_right n.loc r n.val) e ∙ right) ∙ none_at_shape wide n cs no_list (no_list_kind (low -ℤ growth) (high +ℤ growth) n.val wide_val no_list)))
        tt

    -- what the memory's descriptors hold in a plain state
    shape_described : (m : MemoryName) → IsTrue (has_core m Core.Shape) → is_list_term n.val ≡ true → IsTrue (is_plain_description m n.val)
    shape_described Record has is = is
    shape_described Block has is = absurd (true≢false (sym has))
    shape_described Object has is = absurd (true≢false (sym has))

    dom_described : (m : MemoryName) → IsTrue (has_core m Core.Dom) → is_list_term n.val ≡ true → IsTrue (is_plain_description m n.val)
    dom_described Object has is = is
    dom_described Record has is = absurd (true≢false (sym has))
    dom_described Block has is = absurd (true≢false (sym has))

    bound_described : (m : MemoryName) → IsTrue (has_core m Core.Bound) → IsTrue (is_literal n.val) → IsTrue (is_plain_description m n.val)
    bound_described Block has is = is
    bound_described Record has is = absurd (true≢false (sym has))
    bound_described Object has is = absurd (true≢false (sym has))

    described_from : (s : PureSub) → n.sub ≡ s → Each (λ u. IsTrue (is_plain_description memory u)) (value_where_described s n.val) → Each (λ u. IsTrue (is_plain_description memory u)) (value_where_described n.sub n.val)
    described_from s e is = subst (λ r. Each (λ u. IsTrue (is_plain_description memory u)) (value_where_described r n.val)) (sym e) is

    no_names : (s : PureSub) → n.sub ≡ s → NamesOpen wide s n.val → NamesOpen wide n.sub n.val
    no_names s e is = subst (λ r. NamesOpen wide r n.val) (sym e) is

    plain_at : (s : PureSub) → n.sub ≡ s → (n.sub ≡ bound → IsTrue (is_literal n.val)) → Each (Shaped wide) (produced n cs)
    plain_at shape e is_bound = names_by shape e refl refl (λ is. described_from shape e (shape_described memory (subst (IsSubOf memory) e of_memory) is, tt)) (is_list_term n.val) refl
    plain_at dom e is_bound = names_by dom e refl refl (λ is. described_from dom e (dom_described memory (subst (IsSubOf memory) e of_memory) is, tt)) (is_list_term n.val) refl
    plain_at bound e is_bound = plain_shaped (described_from bound e (bound_described memory (subst (IsSubOf memory) e of_memory) (is_bound e), tt)) (no_names bound e tt)
    plain_at (named p) e is_bound = plain_shaped (described_from (named p) e tt) (no_names (named p) e tt)
    plain_at (cell i) e is_bound = plain_shaped (described_from (cell i) e tt) (no_names (cell i) e tt)
    plain_at proto e is_bound = plain_shaped (described_from proto e tt) (no_names proto e tt)
    plain_at gone e is_bound = plain_shaped (described_from gone e tt) (no_names gone e tt)

  literal_bound : (low high : ℤ) → ArePlainUses name (n.loc ∷ sub_terms n.sub) (outs_at n.sub n.val) low high → n.sub ≡ bound → IsTrue (is_literal n.val)
  literal_bound low high uses e =
      (subst (λ s. Each (λ t. IsTrue (is_literal t)) (outs_at s n.val)) e (uses.literal_bound (named_bound name (is_core ∙ ap (λ s. Some (core_of_sub s)) e)))).0

  chunk_plain : ProducesPlainly (λ ds. IsPlainState memory (terms_of ds)) name (n.loc ∷ sub_terms n.sub) (outs_at n.sub n.val) cs (produced n cs)
  chunk_plain low high plain uses =
      each_to (Shaped (plain_reading memory (low -ℤ growth) (high +ℤ growth))) _ (produced n cs)
      (λ b fine. (fine.conds, (state_plain memory (low -ℤ growth) (high +ℤ growth) b.state fine.state, fine_terms (plain_reading memory (low -ℤ growth) (high +ℤ growth)) b.result fine.result)))
      (plain_at low high uses.around_zero plain (each_append (IsPlainWithin low high) ins outs uses.plain_ins uses.plain_outs) n.sub refl (literal_bound low high uses))

  chunk_kept : AreKept memory cs → Each (λ b. AreKept memory b.state) (produced n cs)
  chunk_kept kept =
      each_to (Shaped (kept_reading memory)) (λ b. AreKept memory b.state) (produced n cs)
      (λ b is. each_to (IsFine (kept_reading memory)) (IsKept memory) b.state (λ c fine. record { of_memory = fine.holds.0; gone_is_true = fine.holds.1 }) is.state)
      (produced_shaped (kept_reading memory) n tt (any_term (asked_of_new n.sub n.val)) (zero_orders (kept_reading memory) n.sub (λ t given. (tt, tt))) cs
      (loose_sides AnyAtom (λ t. tt) (λ t. tt) (KeptAt memory) (IsSubOf memory) cs)
      (loose_state AnyAtom (λ t. tt) (λ t. tt) (KeptAt memory) (IsSubOf memory) cs (each_to (IsKept memory) (λ c. KeptAt memory c.sub c.val) cs (λ c is. (is.of_memory, is.gone_is_true)) kept))
      (fine_new (kept_reading memory) (any_term (ins ++ outs)) (of_memory, is_true))
      (loose_forms AnyAtom (λ t. tt) (λ t. tt) (KeptAt memory) (IsSubOf memory) (λ t. tt) cs)
      (names_open (kept_reading memory) n.sub n.val (λ no_list no_literal. tt)))

  chunk_produced : ProduceChunks memory name (n.loc ∷ sub_terms n.sub) (outs_at n.sub n.val) cs (produced n cs)
  chunk_produced = record { laws = chunk_law; forms = chunk_forms; plain = chunk_plain; narrow = produces_narrowly name n cs is_core; kept = chunk_kept }

-- ---- by name, ins and outs

-- the chunk that is given, with its outs
record GivesChunk (k : PureKey) (outs : List PureTerm) : Type 0 where
  val : PureTerm
  held : held_by k.sub outs ≡ Some val
  are : outs ≡ outs_at k.sub val
  is_true : k.sub ≡ gone → val ≡ true_term

module _ (loc : PureTerm) where
  gives_chunk : (s : PureSub) (outs : List PureTerm) → length outs ≡ outs_of (core_of_sub s) → GivesChunk (record { loc = loc; sub = s }) outs
  gives_chunk gone [] e = record { val = true_term; held = refl; are = refl; is_true = λ is. refl }
  gives_chunk gone (t ∷ ts) e = absurd (omega (arith, e))
  gives_chunk (named p) (t ∷ []) e = record { val = t; held = refl; are = refl; is_true = λ is. absurd (not_same 0 6 refl (ap kind_number is)) }
  gives_chunk (named p) [] e = absurd (omega (arith, e))
  gives_chunk (named p) (t ∷ u ∷ ts) e = absurd (omega (arith, e))
  gives_chunk (cell i) (t ∷ []) e = record { val = t; held = refl; are = refl; is_true = λ is. absurd (not_same 1 6 refl (ap kind_number is)) }
  gives_chunk (cell i) [] e = absurd (omega (arith, e))
  gives_chunk (cell i) (t ∷ u ∷ ts) e = absurd (omega (arith, e))
  gives_chunk shape (t ∷ []) e = record { val = t; held = refl; are = refl; is_true = λ is. absurd (not_same 2 6 refl (ap kind_number is)) }
  gives_chunk shape [] e = absurd (omega (arith, e))
  gives_chunk shape (t ∷ u ∷ ts) e = absurd (omega (arith, e))
  gives_chunk bound (t ∷ []) e = record { val = t; held = refl; are = refl; is_true = λ is. absurd (not_same 3 6 refl (ap kind_number is)) }
  gives_chunk bound [] e = absurd (omega (arith, e))
  gives_chunk bound (t ∷ u ∷ ts) e = absurd (omega (arith, e))
  gives_chunk dom (t ∷ []) e = record { val = t; held = refl; are = refl; is_true = λ is. absurd (not_same 4 6 refl (ap kind_number is)) }
  gives_chunk dom [] e = absurd (omega (arith, e))
  gives_chunk dom (t ∷ u ∷ ts) e = absurd (omega (arith, e))
  gives_chunk proto (t ∷ []) e = record { val = t; held = refl; are = refl; is_true = λ is. absurd (not_same 5 6 refl (ap kind_number is)) }
  gives_chunk proto [] e = absurd (omega (arith, e))
  gives_chunk proto (t ∷ u ∷ ts) e = absurd (omega (arith, e))

pub chunks_produced : (name : List ℕ) (ins outs : List PureTerm) (cs : List PureChunk) → Produce name ins outs cs (produced_by (core_of name) ins outs cs)
chunks_produced name ins outs cs memory takes =
    let g = gives_key takes.core ins takes.ins_number in
    let c = gives_chunk g.k.loc g.k.sub outs (takes.outs_number ∙ ap outs_of g.of_core) in
    let n = chunk_of g.k c.val in
    subst (ProduceChunks memory name ins outs cs)
    (sym (ap (λ o. produced_by o ins outs cs) takes.of_memory.named ∙ ap (λ o. produced_if (chunk_given o outs) cs) g.given ∙ ap (λ o. produced_if (option_map (chunk_of g.k) o) cs) c.held))
    (subst (λ xs. ProduceChunks memory name xs outs cs (produced n cs)) (sym g.are)
    (subst (λ ys. ProduceChunks memory name (g.k.loc ∷ sub_terms g.k.sub) ys cs (produced n cs)) (sym c.are)
    (chunk_produced memory name n cs (takes.of_memory.named ∙ ap Some g.of_core) (subst (λ core. IsTrue (has_core memory core)) g.of_core takes.of_memory.has) c.is_true)))
