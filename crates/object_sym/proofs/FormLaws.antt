-- A branch needs the literal form of a term only where the action depends on it.
use Rattle.std.proofs.Common.{◌≡◌, ⊎_elim, inl, inr, ℕ, List, [], ◌∷◌, ◌++◌, Option, Some, None, IsTrue, refl, ap, ◌∙◌}
use Rattle.std.specs.Prelude.{⊤}
use Rattle.std.specs.FinMap.{get}
use Rattle.gil_values.specs.declared.kinds.Kind.{Kind}
use Rattle.gil_values.specs.Pure.{PureValue, text, kind_of}
use Rattle.mem_model.specs.declared.failures.Failure.{Failure}
use Rattle.mem_model.specs.declared.keys.MemoryName.TheVariants.{Object}
use Rattle.mem_model.specs.declared.keys.Sub.TheVariants.{Name}
use Rattle.mem_model.specs.Heaps.{Heap}
use Rattle.mem_model.specs.Keys.{key}
use Rattle.mem_model.proofs.Joins.{value_at}
use Rattle.object_heap.specs.declared.actions.ObjectAction.{ObjectAction}
use Rattle.object_sym.specs.Forms.{ListNames, LooksAmong, DeletesFrom, DependsOn}
use Rattle.object_sym.specs.Places.{opened_there, opened_at, opened}
use Rattle.object_sym.specs.Table.{get_cases, set_cases, delete_cases, has_cases, prototype_cases, new_cases, is_prototype, is_no_prototype, table}
use Rattle.pure_terms.specs.declared.variables.Sort.{Sort}
use Rattle.pure_terms.specs.declared.variables.Var.{Var}
use Rattle.pure_terms.specs.Meaning.{value, values, all_true, IsProper, IsOver}
use Rattle.pure_terms.specs.Pure.{PureTerm, from_list}
use Rattle.sym_chunks.specs.ByPlace.{all_by_place}
use Rattle.sym_chunks.specs.Cases.{PureCase, PureAccess, reads, writes, ChunkBranches, branches_of, case_of, choose, failure, true_term, missed_name}
use Rattle.sym_chunks.specs.Forms.{form_of}
use Rattle.sym_chunks.specs.Keys.{other_sub}
use Rattle.sym_chunks.specs.Laws.{IsLocation, IsKeyOf}
use Rattle.sym_model.specs.Alternatives.{Alternatives, Hold, any, both, same, of_kind, not_of_kind}
use Rattle.sym_model.proofs.Combined.{both_parts}
use Rattle.sym_model.proofs.Telling.{of_kind_tells}
use Rattle.sym_model.specs.Chunks.{StandFor, terms_of}
use Rattle.sym_model.specs.Forms.{OpensOnly}
use Rattle.sym_model.specs.Laws.{Serves}
use Rattle.sym_model.specs.Lists.{Each, OneOf}
use Rattle.sym_model.specs.Meaning.{location_of, name_of, key_of}
use Rattle.sym_model.specs.Pure.{PureSub, named, cell, shape, bound, dom, proto, gone, PureChunk, done}
use Rattle.sym_model.specs.Terms.{all_of}
use Rattle.sym_model.proofs.Asking.{both_parts as value_parts, symbol_of_kind}
use Rattle.sym_model.proofs.ChunkMeaning.{ChunkTerms, chunk_by_chunk, loc_value}
use Rattle.sym_model.proofs.ListLaws.{each_append, each_flat, each_left, each_right, each_to}
use Rattle.sym_chunks.proofs.CaseLaws.{each_every}
use Rattle.sym_chunks.proofs.Facts.{Fact, each_fact, loc_tells}
use Rattle.sym_chunks.proofs.FoundLaws.{lacks_key}
use Rattle.sym_chunks.proofs.Opening.{OpenFor, Opens, closed_open, both_open, form_open, branches_open, case_open, chosen_open}
use Rattle.sym_chunks.proofs.Readings.{NoOpen, positive_closed, negative_closed, closed_reading, closed_sides, loose_state, any_term}
use Rattle.sym_chunks.proofs.Shapes.{EachAtom, IsFineState, IsFineCase, IsFineAccess, Shaped, both_shaped, or_shaped, same_shaped, kind_shaped, not_kind_shaped}
use Rattle.sym_chunks.specs.Arguments.{no_property, is_property, checked, wrong_number, unknown_action}
use Rattle.object_sym.proofs.HeapLaws.{not_both}
use Rattle.object_sym.proofs.ObjectShapes.{OfObjects, get_fine, set_fine, has_fine, delete_fine, prototype_fine, others_shaped, number_fine, unknown_fine, new_fine, prototype_shaped}

closed_objects : OfObjects closed_reading
closed_objects = record {
  r_list = λ ts all. tt;
  r_elements = λ ts is. any_term _;
  r_false = tt;
  r_undef = tt;
  n_name = λ q t. tt;
  n_list = λ ts. tt;
  n_proto = λ t. tt;
  m_name = λ q. tt;
  m_dom = tt;
  m_proto = tt;
}

closed_state : (cs : List PureChunk) → IsFineState closed_reading cs
closed_state cs = loose_state NoOpen positive_closed negative_closed (λ s t. ⊤) (λ s. ⊤) cs (each_every (λ c. ⊤) (λ c. tt) cs)

-- ---- alternatives

-- where the alternatives hold, D gives D'
open_to : (v : List PureValue) (D D' : PureTerm → Type 0) (x : Alternatives) → (Hold v x → (t : PureTerm) → D t → D' t) → OpenFor v D x → OpenFor v D' x
open_to v D D' [] f opens = tt
open_to v D D' (conds ∷ x) f opens = (
  (λ taken. each_to (OpensOnly D) (OpensOnly D') conds (λ a only t e. f (inl taken) t (only t e)) (opens.0 taken)),
  open_to v D D' x (λ holds. f (inr holds)) opens.1,
)

each_own : {A B : Type 0} (F : A → B → Type 0) (xs : List A) → Each (λ x. (t : B) → F x t → OneOf (λ y. F y t) xs) xs
each_own F [] = tt
each_own F (x ∷ xs) = ((λ t is. inl is), each_to _ _ xs (λ y f t is. inr (f t is)) (each_own F xs))

one_with_each : {A : Type 0} (P Q R : A → Type 0) (xs : List A) → Each P xs → OneOf Q xs → ((x : A) → P x → Q x → R x) → OneOf R xs
one_with_each P Q R [] every one f = absurd one
one_with_each P Q R (x ∷ xs) every one f = ⊎_elim (λ here. inl (f x every.0 here)) (λ later. inr (one_with_each P Q R xs every.1 later f)) one

-- a chunk that may be that of l has its names as this term
abbrev Lists : List PureValue → PureTerm → PureChunk → PureTerm → Type 0
Lists v l c t = (c.sub ≡ dom) × (Hold v (same l c.loc)) × (c.val ≡ t)

abbrev SomeLists : List PureValue → PureTerm → List PureChunk → PureTerm → Type 0
SomeLists v l cs t = OneOf (λ c. Lists v l c t) cs

module _ (v : List PureValue) (l : PureTerm) (cs : List PureChunk) where
  same_closed : (m : PureTerm) → EachAtom NoOpen (same l m)
  same_closed m = same_shaped closed_reading l m tt

  opened_by : (c : PureChunk) → ((t : PureTerm) → Lists v l c t → SomeLists v l cs t) → (s : PureSub) → c.sub ≡ s → OpenFor v (SomeLists v l cs) (opened_there l c.loc s c.val)
  opened_by c own dom is = form_open v (SomeLists v l cs) c.val (same l c.loc) (λ holds. own c.val (is, holds, refl)) (same_closed c.loc)
  opened_by c own (named q) is = tt
  opened_by c own (cell q) is = tt
  opened_by c own shape is = tt
  opened_by c own bound is = tt
  opened_by c own proto is = tt
  opened_by c own gone is = tt

  some_lists : OpenFor v (SomeLists v l cs) (any (opened_at l) cs)
  some_lists =
      each_flat (λ conds. IsTrue (all_true v conds) → Each (OpensOnly (SomeLists v l cs)) conds) (opened_at l) cs
      (each_to (λ c. (t : PureTerm) → Lists v l c t → SomeLists v l cs t) (λ c. OpenFor v (SomeLists v l cs) (opened_at l c)) cs (λ c own. opened_by c own c.sub refl) (each_own (Lists v l) cs))

  -- the forms that `delete` needs
  needed_lists : (D : PureTerm → Type 0) → ((t : PureTerm) → SomeLists v l cs t → D t) → Each (λ c. c.sub ≡ dom → Each (λ k. OpenFor v D k.when) (case_of (form_of c.val (same l c.loc)) cs (done true_term))) cs
  needed_lists D gives =
      each_to (λ c. (t : PureTerm) → Lists v l c t → SomeLists v l cs t) _ cs
      (λ c own is. case_open v D (form_of c.val (same l c.loc)) cs (done true_term) (form_open v D c.val (same l c.loc) (λ holds. gives c.val (own c.val (is, holds, refl))) (same_closed c.loc)))
      (each_own (Lists v l) cs)

-- ---- branches

module _ (v : List PureValue) (D : PureTerm → Type 0) (cs : List PureChunk) where
  -- fine cases need no form
  fine_open : (c : PureCase) → IsFineCase closed_reading c → OpenFor v D c.when
  fine_open c fine = closed_open v D c.when fine.when

  shaped_open : (bs : ChunkBranches) → Each (Shaped closed_reading) bs → Each (Opens v D) bs
  shaped_open bs shaped = each_to (Shaped closed_reading) (Opens v D) bs (λ b fine taken. each_to NoOpen (OpensOnly D) b.conds (λ a no t e. absurd (no t e)) fine.conds) shaped

  checked_open : (wrong right : Alternatives) (cases : List PureCase) → EachAtom NoOpen wrong → EachAtom NoOpen right → (Hold v right → Each (λ c. OpenFor v D c.when) cases) → Each (Opens v D) (checked wrong right cs cases)
  checked_open wrong right cases closed_wrong closed_right opens =
      each_append (Opens v D) (branches_of wrong cs (failure Failure.Kind)) (choose right cases) (branches_open v D wrong cs (failure Failure.Kind) (closed_open v D wrong closed_wrong))
      (chosen_open v D right (closed_open v D right closed_right) cases opens)

  number_open : Each (Opens v D) (wrong_number cs)
  number_open = shaped_open (wrong_number cs) (number_fine closed_reading closed_objects cs (closed_sides cs) (closed_state cs))

  property_open : (l p : PureTerm) (cases : List PureCase) → (Hold v (is_property l p) → Each (λ c. OpenFor v D c.when) cases) → Each (Opens v D) (checked (no_property l p) (is_property l p) cs cases)
  property_open l p cases opens =
      checked_open (no_property l p) (is_property l p) cases
      (or_shaped closed_reading (not_of_kind l Kind.Sym) (not_of_kind p Kind.Str) (not_kind_shaped closed_reading l Kind.Sym tt refl) (not_kind_shaped closed_reading p Kind.Str tt refl))
      (both_shaped closed_reading (of_kind l Kind.Sym) (of_kind p Kind.Str) (kind_shaped closed_reading l Kind.Sym tt refl) (kind_shaped closed_reading p Kind.Str tt refl)) opens

-- ---- what the action depends on

module _ (vars : List Sort) (v : List PureValue) (h : Heap) (cs : List PureChunk) (proper : IsProper vars v) (stands : StandFor Object cs v h) (over : Each (ChunkTerms (IsOver vars)) cs) where
  facts : Each (Fact vars v h) cs
  facts = each_fact vars v h cs stands.union over

  -- a term and its value, where it has one
  abbrev HasValue : PureTerm → Type 0
  HasValue t = (x : PureValue) × (value v t ≡ Some x)

  module _ (l p : PureTerm) (over_l : IsOver vars l) (over_p : IsOver vars p) (has_l : HasValue l) (has_p : HasValue p) (right : Hold v (is_property l p)) where
    location : (a : ℕ) × IsLocation vars v l a
    location =
        let kinds = (both_parts v (of_kind l Kind.Sym) (of_kind p Kind.Str) right).0 in
        let (a, e) = symbol_of_kind has_l.0 ((of_kind_tells vars v l Kind.Sym has_l.0 proper over_l has_l.1).0 kinds) in
        (a, record { over = over_l; is = has_l.1 ∙ ap Some e })

    name : (n : List ℕ) × (value v p ≡ Some (text n))
    name =
        let kinds = (both_parts v (of_kind l Kind.Sym) (of_kind p Kind.Str) right).1 in
        let (n, e) = text_of_kind has_p.0 ((of_kind_tells vars v p Kind.Str has_p.0 proper over_p has_p.1).0 kinds) in
        (n, has_p.1 ∙ ap Some e)
      where
        text_of_kind : (w : PureValue) → kind_of w ≡ Kind.Str → (n : List ℕ) × (w ≡ text n)
        text_of_kind (text n) is = (n, refl)
        text_of_kind w is = cc

    lists_of : (t : PureTerm) → SomeLists v l cs t → ListNames v cs location.0 t
    lists_of t some =
        one_with_each (Fact vars v h) (λ c. Lists v l c t) _ cs facts some
        (λ c f (is_dom, holds, is_t). (is_dom, ap location_of (loc_value v c.loc c.sub f.k f.entry.at) ∙ ap Some ((loc_tells vars v h proper c f l location.0 location.1).0 holds), is_t))

    key_asked : IsKeyOf vars v l (named p) (key location.0 (Name name.0))
    key_asked = record { over_loc = over_l; over_sub = (over_p, tt); is = λ i. key_of (location_of (location.1.is i)) (name_of (name.1 i)) }

    looks_among : Hold v (opened l p cs) → (t : PureTerm) → SomeLists v l cs t → LooksAmong v cs h l p t
    looks_among holds t some =
        let none = lacks_key vars v h proper cs stands.union facts l (named p) (key location.0 (Name name.0)) key_asked (both_parts v (any (opened_at l) cs) (all_by_place l (λ c. other_sub (named p) c.sub) cs) holds).1 in
        record {
          k = key location.0 (Name name.0);
          at = key_asked.is;
          lacks = λ has. let (w, held) = value_at h (key location.0 (Name name.0)) has in not_both (get h (key location.0 (Name name.0))) none held;
          names = lists_of t some;
        }

    deletes_from : (t : PureTerm) → SomeLists v l cs t → DeletesFrom v cs l t
    deletes_from t some = record { n = location.0; at = ap location_of location.1.is; names = lists_of t some }

    opened_open : OpenFor v (LooksAmong v cs h l p) (opened l p cs)
    opened_open =
        open_to v (SomeLists v l cs) (LooksAmong v cs h l p) (opened l p cs) looks_among
        (both_open v (SomeLists v l cs) (any (opened_at l) cs) (all_by_place l (λ c. other_sub (named p) c.sub) cs) (some_lists v l cs)
        (λ holds. closed_open v (SomeLists v l cs) (all_by_place l (λ c. other_sub (named p) c.sub) cs)
        (others_shaped closed_reading closed_objects cs (closed_sides cs) (closed_state cs) (λ c. ⊤) (λ c fine. tt) l tt tt tt (named p) (tt, tt))))

    abbrev OpenCase : PureCase → Type 0
    OpenCase c = OpenFor v (LooksAmong v cs h l p) c.when

    get_open : Each OpenCase (get_cases l p cs)
    get_open = get_fine closed_reading closed_objects cs (closed_sides cs) (closed_state cs) OpenCase (fine_open v (LooksAmong v cs h l p) cs) l tt tt tt p tt tt (case_open v (LooksAmong v cs h l p) (opened l p cs) cs (missed_name l p) opened_open)

    has_open : Each OpenCase (has_cases l p cs)
    has_open = has_fine closed_reading closed_objects cs (closed_sides cs) (closed_state cs) OpenCase (fine_open v (LooksAmong v cs h l p) cs) l tt tt tt p tt tt (case_open v (LooksAmong v cs h l p) (opened l p cs) cs (done true_term) opened_open)

    set_open : (t : PureTerm) → Each OpenCase (set_cases l p t cs)
    set_open t = set_fine closed_reading closed_objects cs (closed_sides cs) (closed_state cs) OpenCase (fine_open v (LooksAmong v cs h l p) cs) l tt tt tt p tt tt t tt (case_open v (LooksAmong v cs h l p) (opened l p cs) cs (missed_name l p) opened_open)

    delete_open : Each (λ c. OpenFor v (DeletesFrom v cs l) c.when) (delete_cases l p cs)
    delete_open = delete_fine closed_reading closed_objects cs (closed_sides cs) (closed_state cs) (λ c. OpenFor v (DeletesFrom v cs l) c.when) (fine_open v (DeletesFrom v cs l) cs) l tt tt tt p tt tt (needed_lists v l cs (DeletesFrom v cs l) deletes_from)

  -- ---- every action

  has_values : (args : List PureTerm) (args' : List PureValue) → values v (from_list args) ≡ Some args' → Each HasValue args
  has_values [] args' have = tt
  has_values (t ∷ ts) args' have = let (x, (xs, (first, rest, whole))) = value_parts (value v t) (values v (from_list ts)) args' have in ((x, first), has_values ts xs rest)

  module _ (D : PureTerm → Type 0) where
    prototypes_open : (wrong right : Alternatives) (a : PureAccess) (l : PureTerm) → EachAtom NoOpen wrong → EachAtom NoOpen right → IsFineAccess closed_reading a proto → Each (Opens v D) (checked wrong right cs (prototype_cases a l cs))
    prototypes_open wrong right a l closed_wrong closed_right fine_a =
        checked_open v D cs wrong right (prototype_cases a l cs) closed_wrong closed_right
        (λ holds. each_to (IsFineCase closed_reading) (λ c. OpenFor v D c.when) (prototype_cases a l cs) (fine_open v D cs)
        (prototype_fine closed_reading closed_objects cs (closed_sides cs) (closed_state cs) (IsFineCase closed_reading) (λ c is. is) l tt tt tt a fine_a))

    prototype_closed : (t : PureTerm) → EachAtom NoOpen (is_prototype t) × EachAtom NoOpen (is_no_prototype t)
    prototype_closed t = prototype_shaped closed_reading closed_objects cs (closed_sides cs) (closed_state cs) t tt tt

    symbol_closed : (l : PureTerm) → EachAtom NoOpen (of_kind l Kind.Sym) × EachAtom NoOpen (not_of_kind l Kind.Sym)
    symbol_closed l = (kind_shaped closed_reading l Kind.Sym tt refl, not_kind_shaped closed_reading l Kind.Sym tt refl)

    new_open : (x : Var) (t : PureTerm) → Each (Opens v D) (checked (is_no_prototype t) (is_prototype t) cs (new_cases x t cs))
    new_open x t =
        checked_open v D cs (is_no_prototype t) (is_prototype t) (new_cases x t cs) (prototype_closed t).1 (prototype_closed t).0
        (λ holds. each_to (IsFineCase closed_reading) (λ c. OpenFor v D c.when) (new_cases x t cs) (fine_open v D cs) (new_fine closed_reading closed_objects cs (closed_sides cs) (closed_state cs) x tt t tt))

    getproto_open : (l : PureTerm) → Each (Opens v D) (checked (not_of_kind l Kind.Sym) (of_kind l Kind.Sym) cs (prototype_cases reads l cs))
    getproto_open l = prototypes_open (not_of_kind l Kind.Sym) (of_kind l Kind.Sym) reads l (symbol_closed l).1 (symbol_closed l).0 tt

    setproto_open : (l t : PureTerm) → Each (Opens v D) (checked (not_of_kind l Kind.Sym ++ is_no_prototype t) (both (of_kind l Kind.Sym) (is_prototype t)) cs (prototype_cases (writes t) l cs))
    setproto_open l t =
        prototypes_open (not_of_kind l Kind.Sym ++ is_no_prototype t) (both (of_kind l Kind.Sym) (is_prototype t)) (writes t) l
        (or_shaped closed_reading (not_of_kind l Kind.Sym) (is_no_prototype t) (symbol_closed l).1 (prototype_closed t).1)
        (both_shaped closed_reading (of_kind l Kind.Sym) (is_prototype t) (symbol_closed l).0 (prototype_closed t).0) (tt, λ c. inr tt)

    wrong : Each (Opens v D) (wrong_number cs)
    wrong = number_open v D cs

  by_action : (o : Option ObjectAction) (fresh : Option Var) (args : List PureTerm) → Each (IsOver vars) args → Each HasValue args → Each (Opens v (DependsOn o cs args v h)) (table o fresh args cs)
  by_action None fresh args over_args have = shaped_open v (DependsOn None cs args v h) cs (unknown_action cs) (unknown_fine closed_reading closed_objects cs (closed_sides cs) (closed_state cs))
  by_action (Some ObjectAction.Get) fresh (l ∷ p ∷ []) over_args have = property_open v (LooksAmong v cs h l p) cs l p (get_cases l p cs) (get_open l p over_args.0 over_args.1.0 have.0 have.1.0)
  by_action (Some ObjectAction.Has) fresh (l ∷ p ∷ []) over_args have = property_open v (LooksAmong v cs h l p) cs l p (has_cases l p cs) (has_open l p over_args.0 over_args.1.0 have.0 have.1.0)
  by_action (Some ObjectAction.Delete) fresh (l ∷ p ∷ []) over_args have = property_open v (DeletesFrom v cs l) cs l p (delete_cases l p cs) (delete_open l p over_args.0 over_args.1.0 have.0 have.1.0)
  by_action (Some ObjectAction.Get) fresh [] over_args have = wrong (DependsOn (Some ObjectAction.Get) cs ([]) v h)
  by_action (Some ObjectAction.Get) fresh (l ∷ []) over_args have = wrong (DependsOn (Some ObjectAction.Get) cs (l ∷ []) v h)
  by_action (Some ObjectAction.Get) fresh (l ∷ p ∷ t ∷ more) over_args have = wrong (DependsOn (Some ObjectAction.Get) cs (l ∷ p ∷ t ∷ more) v h)
  by_action (Some ObjectAction.Has) fresh [] over_args have = wrong (DependsOn (Some ObjectAction.Has) cs ([]) v h)
  by_action (Some ObjectAction.Has) fresh (l ∷ []) over_args have = wrong (DependsOn (Some ObjectAction.Has) cs (l ∷ []) v h)
  by_action (Some ObjectAction.Has) fresh (l ∷ p ∷ t ∷ more) over_args have = wrong (DependsOn (Some ObjectAction.Has) cs (l ∷ p ∷ t ∷ more) v h)
  by_action (Some ObjectAction.Delete) fresh [] over_args have = wrong (DependsOn (Some ObjectAction.Delete) cs ([]) v h)
  by_action (Some ObjectAction.Delete) fresh (l ∷ []) over_args have = wrong (DependsOn (Some ObjectAction.Delete) cs (l ∷ []) v h)
  by_action (Some ObjectAction.Delete) fresh (l ∷ p ∷ t ∷ more) over_args have = wrong (DependsOn (Some ObjectAction.Delete) cs (l ∷ p ∷ t ∷ more) v h)
  by_action (Some ObjectAction.Set) fresh (l ∷ p ∷ t ∷ []) over_args have = property_open v (LooksAmong v cs h l p) cs l p (set_cases l p t cs) (λ right. set_open l p over_args.0 over_args.1.0 have.0 have.1.0 right t)
  by_action (Some ObjectAction.Set) fresh [] over_args have = wrong (DependsOn (Some ObjectAction.Set) cs ([]) v h)
  by_action (Some ObjectAction.Set) fresh (l ∷ []) over_args have = wrong (DependsOn (Some ObjectAction.Set) cs (l ∷ []) v h)
  by_action (Some ObjectAction.Set) fresh (l ∷ p ∷ []) over_args have = wrong (DependsOn (Some ObjectAction.Set) cs (l ∷ p ∷ []) v h)
  by_action (Some ObjectAction.Set) fresh (l ∷ p ∷ t ∷ s ∷ more) over_args have = wrong (DependsOn (Some ObjectAction.Set) cs (l ∷ p ∷ t ∷ s ∷ more) v h)
  by_action (Some ObjectAction.New) (Some x) (t ∷ []) over_args have = new_open (DependsOn (Some ObjectAction.New) cs (t ∷ []) v h) x t
  by_action (Some ObjectAction.New) None (t ∷ []) over_args have = tt
  by_action (Some ObjectAction.New) (Some x) [] over_args have = wrong (DependsOn (Some ObjectAction.New) cs ([]) v h)
  by_action (Some ObjectAction.New) None [] over_args have = wrong (DependsOn (Some ObjectAction.New) cs ([]) v h)
  by_action (Some ObjectAction.New) (Some x) (t ∷ u ∷ more) over_args have = wrong (DependsOn (Some ObjectAction.New) cs (t ∷ u ∷ more) v h)
  by_action (Some ObjectAction.New) None (t ∷ u ∷ more) over_args have = wrong (DependsOn (Some ObjectAction.New) cs (t ∷ u ∷ more) v h)
  by_action (Some ObjectAction.GetProto) fresh (l ∷ []) over_args have = getproto_open (DependsOn (Some ObjectAction.GetProto) cs (l ∷ []) v h) l
  by_action (Some ObjectAction.GetProto) fresh [] over_args have = wrong (DependsOn (Some ObjectAction.GetProto) cs ([]) v h)
  by_action (Some ObjectAction.GetProto) fresh (l ∷ p ∷ more) over_args have = wrong (DependsOn (Some ObjectAction.GetProto) cs (l ∷ p ∷ more) v h)
  by_action (Some ObjectAction.SetProto) fresh (l ∷ t ∷ []) over_args have = setproto_open (DependsOn (Some ObjectAction.SetProto) cs (l ∷ t ∷ []) v h) l t
  by_action (Some ObjectAction.SetProto) fresh [] over_args have = wrong (DependsOn (Some ObjectAction.SetProto) cs ([]) v h)
  by_action (Some ObjectAction.SetProto) fresh (l ∷ []) over_args have = wrong (DependsOn (Some ObjectAction.SetProto) cs (l ∷ []) v h)
  by_action (Some ObjectAction.SetProto) fresh (l ∷ t ∷ s ∷ more) over_args have = wrong (DependsOn (Some ObjectAction.SetProto) cs (l ∷ t ∷ s ∷ more) v h)

module _ (o : Option ObjectAction) (fresh : Option Var) (args : List PureTerm) (cs : List PureChunk) where
  pub table_depends : (vars : List Sort) (v args' : List PureValue) (h : Heap) → Serves (StandFor Object) terms_of vars v fresh args cs args' h → Each (Opens v (DependsOn o cs args v h)) (table o fresh args cs)
  table_depends vars v args' h serves =
      by_action vars v h cs serves.proper serves.has_heap (chunk_by_chunk (IsOver vars) cs (each_right (IsOver vars) args (all_of (terms_of cs)) serves.over)) o fresh args
      (each_left (IsOver vars) args (all_of (terms_of cs)) serves.over)
      (has_values vars v h cs serves.proper serves.has_heap (chunk_by_chunk (IsOver vars) cs (each_right (IsOver vars) args (all_of (terms_of cs)) serves.over)) args args' serves.have_values)
