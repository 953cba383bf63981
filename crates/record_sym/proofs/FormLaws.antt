-- A branch needs the literal form of a term only where the action depends on it.
use Rattle.std.proofs.Common.{◌≡◌, inr, ℕ, List, [], ◌∷◌, ◌++◌, Option, Some, None, IsTrue, refl, ap, ◌∙◌}
use Rattle.std.specs.Prelude.{⊤}
use Rattle.std.specs.FinMap.{get}
use Rattle.gil_values.specs.declared.kinds.Kind.{Kind}
use Rattle.gil_values.specs.Pure.{PureValue, text, kind_of}
use Rattle.mem_model.specs.declared.failures.Failure.{Failure}
use Rattle.mem_model.specs.declared.keys.MemoryName.TheVariants.{Record}
use Rattle.mem_model.specs.declared.keys.Sub.TheVariants.{Name}
use Rattle.mem_model.specs.Heaps.{Heap}
use Rattle.mem_model.specs.Keys.{key}
use Rattle.mem_model.proofs.Joins.{value_at}
use Rattle.pure_terms.specs.declared.variables.Sort.{Sort}
use Rattle.pure_terms.specs.declared.variables.Var.{Var}
use Rattle.pure_terms.specs.Meaning.{value, values, all_true, IsProper, IsOver}
use Rattle.pure_terms.specs.Pure.{PureTerm, literal, variable, list_of, unary_of, binary_of, from_list, to_list}
use Rattle.record_heap.specs.declared.actions.RecordAction.{RecordAction}
use Rattle.record_sym.specs.Forms.{ListNames, MakesFrom, LooksAmong, DisposesOf, DependsOn}
use Rattle.record_sym.specs.Places.{opened_there, opened_at, opened}
use Rattle.record_sym.specs.Table.{name_cases, faulty, created, make, dispose_cases, table}
use Rattle.sym_chunks.specs.Arguments.{no_property, is_property, checked}
use Rattle.sym_chunks.specs.ByPlace.{all_by_place}
use Rattle.sym_chunks.specs.Cases.{PureAccess, reads, writes, branches_of, case_of, failure, true_term, missed_name}
use Rattle.sym_chunks.specs.Forms.{form_of}
use Rattle.sym_chunks.specs.Keys.{other_sub}
use Rattle.sym_chunks.specs.Laws.{IsLocation, IsKeyOf}
use Rattle.sym_chunks.specs.NameTerms.{distinct_from}
use Rattle.sym_model.specs.Alternatives.{Hold, always, any, same, of_kind, not_of_kind}
use Rattle.sym_model.proofs.Combined.{both_parts}
use Rattle.sym_model.proofs.Telling.{of_kind_tells}
use Rattle.sym_model.specs.Chunks.{StandFor, terms_of}
use Rattle.sym_model.specs.Forms.{OpensOnly}
use Rattle.sym_model.specs.Laws.{Serves}
use Rattle.sym_model.specs.Lists.{Each, OneOf}
use Rattle.sym_model.specs.Meaning.{location_of}
use Rattle.sym_model.specs.Pure.{PureSub, named, cell, shape, bound, dom, proto, gone, PureChunk, done}
use Rattle.sym_model.specs.Terms.{all_of}
use Rattle.sym_model.proofs.Asking.{both_parts as value_parts, symbol_of_kind}
use Rattle.sym_model.proofs.ChunkMeaning.{ChunkTerms, chunk_by_chunk, loc_value}
use Rattle.sym_model.proofs.ListLaws.{each_append, each_flat, each_left, each_right, each_to}
use Rattle.sym_chunks.proofs.ArgumentShapes.{closed_state, fine_open, checked_open, property_open, number_open, unknown_open}
use Rattle.sym_chunks.proofs.Facts.{Fact, each_fact, loc_tells}
use Rattle.sym_chunks.proofs.FoundLaws.{lacks_key}
use Rattle.sym_chunks.proofs.HeapFacts.{not_both}
use Rattle.sym_chunks.proofs.NamesHeld.{name_asked}
use Rattle.sym_chunks.proofs.Opening.{OpenFor, Opens, closed_open, both_open, form_open, branches_open, case_open, open_to, each_own, one_with_each}
use Rattle.sym_chunks.proofs.Readings.{NoOpen, closed_reading, closed_sides, any_term}
use Rattle.sym_chunks.proofs.Shapes.{EachAtom, IsFineAccess, same_shaped, kind_shaped, not_kind_shaped, distinct_shaped}
use Rattle.record_sym.proofs.RecordShapes.{OfRecords, others_shaped, name_fine, dispose_fine, faulty_shaped}

closed_records : OfRecords closed_reading
closed_records = record {
  r_elements = λ ts is. any_term (to_list ts);
  r_null = tt;
  n_name = λ q t. tt;
  n_list = λ ts. tt;
  n_gone = tt;
  m_name = λ q. tt;
  m_shape = tt;
}

-- ---- chunks that have the names of a location

-- a chunk that may be that of l has its names as this term
abbrev Lists : List PureValue → PureTerm → PureChunk → PureTerm → Type 0
Lists v l c t = (c.sub ≡ shape) × (Hold v (same l c.loc)) × (c.val ≡ t)

abbrev SomeLists : List PureValue → PureTerm → List PureChunk → PureTerm → Type 0
SomeLists v l cs t = OneOf (λ c. Lists v l c t) cs

module _ (v : List PureValue) (l : PureTerm) (cs : List PureChunk) where
  same_closed : (m : PureTerm) → EachAtom NoOpen (same l m)
  same_closed m = same_shaped closed_reading l m tt

  opened_by : (c : PureChunk) → ((t : PureTerm) → Lists v l c t → SomeLists v l cs t) → (s : PureSub) → c.sub ≡ s → OpenFor v (SomeLists v l cs) (opened_there l c.loc s c.val)
  opened_by c own shape is = form_open v (SomeLists v l cs) c.val (same l c.loc) (λ holds. own c.val (is, holds, refl)) (same_closed c.loc)
  opened_by c own (named q) is = tt
  opened_by c own (cell q) is = tt
  opened_by c own bound is = tt
  opened_by c own dom is = tt
  opened_by c own proto is = tt
  opened_by c own gone is = tt

  some_lists : OpenFor v (SomeLists v l cs) (any (opened_at l) cs)
  some_lists =
      each_flat (λ conds. IsTrue (all_true v conds) → Each (OpensOnly (SomeLists v l cs)) conds) (opened_at l) cs
      (each_to (λ c. (t : PureTerm) → Lists v l c t → SomeLists v l cs t) (λ c. OpenFor v (SomeLists v l cs) (opened_at l c)) cs (λ c own. opened_by c own c.sub refl) (each_own (Lists v l) cs))

  -- the forms that `dispose` needs
  needed_lists : (D : PureTerm → Type 0) → ((t : PureTerm) → SomeLists v l cs t → D t) → Each (λ c. c.sub ≡ shape → Each (λ k. OpenFor v D k.when) (case_of (form_of c.val (same l c.loc)) cs (done true_term))) cs
  needed_lists D gives =
      each_to (λ c. (t : PureTerm) → Lists v l c t → SomeLists v l cs t) _ cs
      (λ c own is. case_open v D (form_of c.val (same l c.loc)) cs (done true_term) (form_open v D c.val (same l c.loc) (λ holds. gives c.val (own c.val (is, holds, refl))) (same_closed c.loc)))
      (each_own (Lists v l) cs)

-- ---- what the action depends on

module _ (vars : List Sort) (v : List PureValue) (h : Heap) (cs : List PureChunk) (proper : IsProper vars v) (stands : StandFor Record cs v h) (over : Each (ChunkTerms (IsOver vars)) cs) where
  facts : Each (Fact vars v h) cs
  facts = each_fact vars v h cs stands.union over

  -- a term and its value, where it has one
  abbrev HasValue : PureTerm → Type 0
  HasValue t = (x : PureValue) × (value v t ≡ Some x)

  module _ (l : PureTerm) (over_l : IsOver vars l) (has_l : HasValue l) (right : Hold v (of_kind l Kind.Sym)) where
    location : (a : ℕ) × IsLocation vars v l a
    location =
        let (a, e) = symbol_of_kind has_l.0 ((of_kind_tells vars v l Kind.Sym has_l.0 proper over_l has_l.1).0 right) in
        (a, record { over = over_l; is = has_l.1 ∙ ap Some e })

    lists_of : (t : PureTerm) → SomeLists v l cs t → ListNames v cs location.0 t
    lists_of t some =
        one_with_each (Fact vars v h) (λ c. Lists v l c t) _ cs facts some
        (λ c f (is_shape, holds, is_t). (is_shape, ap location_of (loc_value v c.loc c.sub f.k f.entry.at) ∙ ap Some ((loc_tells vars v h proper c f l location.0 location.1).0 holds), is_t))

    disposes_of : (t : PureTerm) → SomeLists v l cs t → DisposesOf v cs l t
    disposes_of t some = record { n = location.0; at = ap location_of location.1.is; names = lists_of t some }

    dispose_open : Each (λ c. OpenFor v (DisposesOf v cs l) c.when) (dispose_cases l cs)
    dispose_open =
        dispose_fine closed_reading closed_records cs (closed_sides cs) (closed_state cs) (λ c. OpenFor v (DisposesOf v cs l) c.when) (fine_open v (DisposesOf v cs l) cs) l tt tt tt
        (needed_lists v l cs (DisposesOf v cs l) disposes_of)

    module _ (p : PureTerm) (over_p : IsOver vars p) (has_p : HasValue p) (texts : Hold v (of_kind p Kind.Str)) where
      name : (n : List ℕ) × (value v p ≡ Some (text n))
      name = let (n, e) = text_of_kind has_p.0 ((of_kind_tells vars v p Kind.Str has_p.0 proper over_p has_p.1).0 texts) in (n, has_p.1 ∙ ap Some e)
        where
          text_of_kind : (w : PureValue) → kind_of w ≡ Kind.Str → (n : List ℕ) × (w ≡ text n)
          text_of_kind (text n) is = (n, refl)
          text_of_kind w is = cc

      key_asked : IsKeyOf vars v l (named p) (key location.0 (Name name.0))
      key_asked = name_asked vars v h proper cs facts l location.0 location.1 p name.0 over_p name.1

      looks_among : Hold v (opened l p cs) → (t : PureTerm) → SomeLists v l cs t → LooksAmong v cs h l p t
      looks_among holds t some =
          let none = lacks_key vars v h proper cs stands.union facts l (named p) (key location.0 (Name name.0)) key_asked (both_parts v (any (opened_at l) cs) (all_by_place l (λ c. other_sub (named p) c.sub) cs) holds).1 in
          record {
            k = key location.0 (Name name.0);
            at = key_asked.is;
            lacks = λ has. let (w, held) = value_at h (key location.0 (Name name.0)) has in not_both (get h (key location.0 (Name name.0))) none held;
            names = lists_of t some;
          }

      opened_open : OpenFor v (LooksAmong v cs h l p) (opened l p cs)
      opened_open =
          open_to v (SomeLists v l cs) (LooksAmong v cs h l p) (opened l p cs) looks_among
          (both_open v (SomeLists v l cs) (any (opened_at l) cs) (all_by_place l (λ c. other_sub (named p) c.sub) cs) (some_lists v l cs)
          (λ holds. closed_open v (SomeLists v l cs) (all_by_place l (λ c. other_sub (named p) c.sub) cs)
          (others_shaped closed_reading closed_records cs (closed_sides cs) (closed_state cs) (λ c. ⊤) (λ c fine. tt) l tt tt tt p tt tt)))

      name_open : (a : PureAccess) → IsFineAccess closed_reading a (named p) → Each (λ c. OpenFor v (LooksAmong v cs h l p) c.when) (name_cases a l p cs)
      name_open a fine =
          name_fine closed_reading closed_records cs (closed_sides cs) (closed_state cs) (λ c. OpenFor v (LooksAmong v cs h l p) c.when) (fine_open v (LooksAmong v cs h l p) cs) l tt tt tt p tt tt a fine
          (case_open v (LooksAmong v cs h l p) (opened l p cs) cs (missed_name l p) opened_open)

  -- ---- `new`

  makes_from : (d : PureTerm) → IsOver vars d → HasValue d → Hold v (of_kind d Kind.List) → MakesFrom v d d
  makes_from d over_d has_d holds = record { given = refl; value_of = has_d.0; is = has_d.1; is_list = (of_kind_tells vars v d Kind.List has_d.0 proper over_d has_d.1).0 holds }

  unlisted_open : (x : Var) (d : PureTerm) → IsOver vars d → HasValue d → Each (Opens v (MakesFrom v d)) (branches_of (not_of_kind d Kind.List) cs (failure Failure.Kind) ++ branches_of (form_of d (of_kind d Kind.List)) cs (done (variable x)))
  unlisted_open x d over_d has_d =
      each_append (Opens v (MakesFrom v d)) (branches_of (not_of_kind d Kind.List) cs (failure Failure.Kind)) (branches_of (form_of d (of_kind d Kind.List)) cs (done (variable x)))
      (branches_open v (MakesFrom v d) (not_of_kind d Kind.List) cs (failure Failure.Kind) (closed_open v (MakesFrom v d) (not_of_kind d Kind.List) (not_kind_shaped closed_reading d Kind.List tt refl)))
      (branches_open v (MakesFrom v d) (form_of d (of_kind d Kind.List)) cs (done (variable x)) (form_open v (MakesFrom v d) d (of_kind d Kind.List) (makes_from d over_d has_d) (kind_shaped closed_reading d Kind.List tt refl)))

  make_open : (x : Var) (d : PureTerm) → IsOver vars d → HasValue d → Each (Opens v (MakesFrom v d)) (make x d cs)
  make_open x (list_of ts) over_d has_d =
      each_append (Opens v (MakesFrom v (list_of ts))) (branches_of (faulty (to_list ts)) cs (failure Failure.Kind)) (branches_of (distinct_from always (to_list ts)) (created x (list_of ts) (to_list ts) cs) (done (variable x)))
      (branches_open v (MakesFrom v (list_of ts)) (faulty (to_list ts)) cs (failure Failure.Kind) (closed_open v (MakesFrom v (list_of ts)) (faulty (to_list ts)) (faulty_shaped closed_reading closed_records cs (closed_sides cs) (closed_state cs) (to_list ts) (any_term (to_list ts)))))
      (branches_open v (MakesFrom v (list_of ts)) (distinct_from always (to_list ts)) (created x (list_of ts) (to_list ts) cs) (done (variable x)) (closed_open v (MakesFrom v (list_of ts)) (distinct_from always (to_list ts)) (distinct_shaped closed_reading always (to_list ts) (tt, tt) (any_term (to_list ts)))))
  make_open x (literal k) over_d has_d = unlisted_open x (literal k) over_d has_d
  make_open x (variable y) over_d has_d = unlisted_open x (variable y) over_d has_d
  make_open x (unary_of op t) over_d has_d = unlisted_open x (unary_of op t) over_d has_d
  make_open x (binary_of op s t) over_d has_d = unlisted_open x (binary_of op s t) over_d has_d

  -- ---- every action

  has_values : (args : List PureTerm) (args' : List PureValue) → values v (from_list args) ≡ Some args' → Each HasValue args
  has_values [] args' have = tt
  has_values (t ∷ ts) args' have = let (x, (xs, (first, rest, whole))) = value_parts (value v t) (values v (from_list ts)) args' have in ((x, first), has_values ts xs rest)

  wrong : (D : PureTerm → Type 0) → Each (Opens v D) (branches_of always cs (failure Failure.Arity))
  wrong D = number_open v D cs

  looked_open : (a : PureAccess) (l p : PureTerm) → IsFineAccess closed_reading a (named p) → IsOver vars l → IsOver vars p → HasValue l → HasValue p → Each (Opens v (LooksAmong v cs h l p)) (checked (no_property l p) (is_property l p) cs (name_cases a l p cs))
  looked_open a l p fine over_l over_p has_l has_p =
      property_open v (LooksAmong v cs h l p) cs l p (name_cases a l p cs)
      (λ right. let parts = both_parts v (of_kind l Kind.Sym) (of_kind p Kind.Str) right in name_open l over_l has_l parts.0 p over_p has_p parts.1 a fine)

  by_action : (o : Option RecordAction) (fresh : Option Var) (args : List PureTerm) → Each (IsOver vars) args → Each HasValue args → Each (Opens v (DependsOn o cs args v h)) (table o fresh args cs)
  by_action None fresh args over_args have = unknown_open v (DependsOn None cs args v h) cs
  by_action (Some RecordAction.New) (Some x) (d ∷ []) over_args have = make_open x d over_args.0 have.0
  by_action (Some RecordAction.New) None (d ∷ []) over_args have = tt
  by_action (Some RecordAction.New) (Some x) [] over_args have = wrong (DependsOn (Some RecordAction.New) cs ([]) v h)
  by_action (Some RecordAction.New) None [] over_args have = wrong (DependsOn (Some RecordAction.New) cs ([]) v h)
  by_action (Some RecordAction.New) (Some x) (d ∷ e ∷ more) over_args have = wrong (DependsOn (Some RecordAction.New) cs (d ∷ e ∷ more) v h)
  by_action (Some RecordAction.New) None (d ∷ e ∷ more) over_args have = wrong (DependsOn (Some RecordAction.New) cs (d ∷ e ∷ more) v h)
  by_action (Some RecordAction.Lookup) fresh (l ∷ p ∷ []) over_args have = looked_open reads l p tt over_args.0 over_args.1.0 have.0 have.1.0
  by_action (Some RecordAction.Lookup) fresh [] over_args have = wrong (DependsOn (Some RecordAction.Lookup) cs ([]) v h)
  by_action (Some RecordAction.Lookup) fresh (l ∷ []) over_args have = wrong (DependsOn (Some RecordAction.Lookup) cs (l ∷ []) v h)
  by_action (Some RecordAction.Lookup) fresh (l ∷ p ∷ t ∷ more) over_args have = wrong (DependsOn (Some RecordAction.Lookup) cs (l ∷ p ∷ t ∷ more) v h)
  by_action (Some RecordAction.Mutate) fresh (l ∷ p ∷ t ∷ []) over_args have = looked_open (writes t) l p (tt, λ c. inr tt) over_args.0 over_args.1.0 have.0 have.1.0
  by_action (Some RecordAction.Mutate) fresh [] over_args have = wrong (DependsOn (Some RecordAction.Mutate) cs ([]) v h)
  by_action (Some RecordAction.Mutate) fresh (l ∷ []) over_args have = wrong (DependsOn (Some RecordAction.Mutate) cs (l ∷ []) v h)
  by_action (Some RecordAction.Mutate) fresh (l ∷ p ∷ []) over_args have = wrong (DependsOn (Some RecordAction.Mutate) cs (l ∷ p ∷ []) v h)
  by_action (Some RecordAction.Mutate) fresh (l ∷ p ∷ t ∷ s ∷ more) over_args have = wrong (DependsOn (Some RecordAction.Mutate) cs (l ∷ p ∷ t ∷ s ∷ more) v h)
  by_action (Some RecordAction.Dispose) fresh (l ∷ []) over_args have =
      checked_open v (DisposesOf v cs l) cs (not_of_kind l Kind.Sym) (of_kind l Kind.Sym) (dispose_cases l cs) (not_kind_shaped closed_reading l Kind.Sym tt refl) (kind_shaped closed_reading l Kind.Sym tt refl) (dispose_open l over_args.0 have.0)
  by_action (Some RecordAction.Dispose) fresh [] over_args have = wrong (DependsOn (Some RecordAction.Dispose) cs ([]) v h)
  by_action (Some RecordAction.Dispose) fresh (l ∷ p ∷ more) over_args have = wrong (DependsOn (Some RecordAction.Dispose) cs (l ∷ p ∷ more) v h)

module _ (o : Option RecordAction) (fresh : Option Var) (args : List PureTerm) (cs : List PureChunk) where
  pub table_depends : (vars : List Sort) (v args' : List PureValue) (h : Heap) → Serves (StandFor Record) terms_of vars v fresh args cs args' h → Each (Opens v (DependsOn o cs args v h)) (table o fresh args cs)
  table_depends vars v args' h serves =
      let over_chunks = chunk_by_chunk (IsOver vars) cs (each_right (IsOver vars) args (all_of (terms_of cs)) serves.over) in
      by_action vars v h cs serves.proper serves.has_heap over_chunks o fresh args (each_left (IsOver vars) args (all_of (terms_of cs)) serves.over)
      (has_values vars v h cs serves.proper serves.has_heap over_chunks args args' serves.have_values)
