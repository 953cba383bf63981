-- The forms of the conditions that the actions of objects ask, and what their states and results are made of, for every reading of
-- conditions and terms.
use Rattle.std.proofs.Common.{◌≡◌, ◌⊎◌, ⊎_elim, inl, inr, ℕ, zero, suc, ◌+◌, List, [], ◌∷◌, ◌++◌, Bool, true, false, not, ◌&&◌, ◌||◌, Option, Some, None, if◌then◌else◌, slice_get, refl, sym, ap, subst, ◌∙◌, true≢false, arith}
use Rattle.std.specs.List.{remove, list_any}
use Rattle.gil_values.specs.declared.kinds.Kind.{Kind}
use Rattle.mem_model.specs.declared.failures.Failure.{Failure}
use Rattle.mem_model.specs.Tables.{failure_text}
use Rattle.object_heap.specs.declared.actions.ObjectAction.{ObjectAction}
use Rattle.object_sym.specs.Places.{listed_there, lists, unlisted_there, lists_not, opened_there, opened_at, opened, untold_there, untold, unknown_there, knows_not, tells_not, lacks}
use Rattle.object_sym.specs.Table.{false_term, undef_term, no_names, is_prototype, is_no_prototype, created, new_cases, without_name, get_cases, with_name, added_there, added_from, set_cases, taken_from, taken, relisted, taken_each, deleted_there, deleted_from, delete_cases, told_cases, held_case, unknown_cases, has_cases, prototype_cases, of_property, branches_by, table, may_be_prototype, asked_of_property, asked_by}
use Rattle.pure_terms.specs.declared.variables.Var.{Var}
use Rattle.pure_terms.specs.Equality.{same_term}
use Rattle.pure_terms.specs.EqualityLaws.{same_term-same}
use Rattle.pure_terms.specs.Kinds.{allows, known_kind}
use Rattle.pure_terms.specs.Pure.{PureTerm, literal, variable, list_of, unary_of, binary_of, PureTerms, to_list, from_list, positive, negative, opening}
use Rattle.sym_chunks.specs.ByPlace.{all_by_place, any_at}
use Rattle.sym_chunks.specs.Cases.{PureCase, PureAccess, reads, writes, case_of, branches_of, choose, found, failure, true_term, null_term, missed_key, missed_name}
use Rattle.sym_chunks.specs.Forms.{form_of}
use Rattle.sym_chunks.specs.Keys.{same_sub, other_sub, at_key}
use Rattle.sym_chunks.specs.NameTerms.{unlisted, holds_name, unheld_name, unheld}
use Rattle.sym_model.specs.declared.comparing.Comparison.{Comparison}
use Rattle.sym_model.specs.Comparing.{compared}
use Rattle.sym_model.specs.Alternatives.{Alternatives, never, always, given, both, any, is_empty, equal, same, other, by_comparison, of_kind, not_of_kind}
use Rattle.sym_model.specs.Chunks.{with_held, value_where_described}
use Rattle.sym_model.specs.Lists.{Each}
use Rattle.sym_model.specs.Pure.{PureSub, named, cell, shape, bound, dom, proto, gone, PureChunk, sub_terms, done}
use Rattle.sym_model.specs.Terms.{is_literal, is_list_term, are_other_kinds, are_apart}
use Rattle.sym_model.proofs.ChunkMeaning.{chunk_val}
use Rattle.sym_model.proofs.ListLaws.{each_append, each_to}
use Rattle.sym_chunks.proofs.CaseLaws.{none_chosen}
use Rattle.sym_chunks.proofs.WalkLaws.{each_removed}
use Rattle.sym_chunks.proofs.Shapes.{EachAtom, Reading, ChunkSides, ChunkForms, IsFine, IsFineState, IsFineResult, Shaped, both_shaped, or_shaped, form_shaped, form_never, same_shaped, other_shaped, kind_shaped, not_kind_shaped, wrong_kind, any_shaped, both_never, ends_always, listed_shaped, unlisted_shaped, unheld_shaped, side_sub, loc_near_or_never, loc_same, where_same, key_shaped, by_place_shaped, any_at_shaped, IsFineCase, fine_case, failure_shaped, surely_shaped, chosen_shaped, fine_chunk, fine_held, IsFineAccess, found_shaped}
use Rattle.sym_chunks.specs.Arguments.{wrong_number, checked, no_property, is_property, unknown_action, may_be_symbol, may_be_property}

-- What a reading of objects says besides: list terms are made of fine terms, and fine chunks are held and missed.
pub record OfObjects (g : Reading) : Type 0 where
  pub r_list : (ts : List PureTerm) → Each g.R ts → g.R (list_of (from_list ts))
  pub r_elements : (ts : PureTerms) → g.R (list_of ts) → Each g.R (to_list ts)
  pub r_false : g.R false_term
  pub r_undef : g.R undef_term
  pub n_name : (q t : PureTerm) → g.N (named q) t
  pub n_list : (ts : PureTerms) → g.N dom (list_of ts)
  pub n_proto : (t : PureTerm) → g.N proto t
  pub m_name : (q : PureTerm) → g.Missed (named q)
  pub m_dom : g.Missed dom
  pub m_proto : g.Missed proto

module _ (g : Reading) (o : OfObjects g) where
  always_fine : EachAtom g.Q always
  always_fine = (tt, tt)

  -- ---- one chunk whose location is near

  module _ (p : PureTerm) (side_p : g.Side p) (c : PureChunk) (sides : ChunkSides g c) (near : g.Near c.loc) where
    side_val : c.sub ≡ dom → g.Side c.val
    side_val is = (subst (λ s. Each g.Side (value_where_described s c.val)) is (sides.described near)).0

    side_name : (q : PureTerm) → c.sub ≡ named q → g.Side q
    side_name q is = (subst (λ s. Each g.Side (sub_terms s)) is (sides.places near)).0

    lists_by : (s : PureSub) → c.sub ≡ s → EachAtom g.Q (listed_there p s c.val)
    lists_by dom is = listed_shaped g p c.val side_p (side_val is)
    lists_by s is = tt

    lists_shaped : EachAtom g.Q (lists p c)
    lists_shaped = lists_by c.sub refl

    lists_not_by : (s : PureSub) → c.sub ≡ s → EachAtom g.Q (unlisted_there p s c.val)
    lists_not_by dom is = unlisted_shaped g p c.val side_p (side_val is)
    lists_not_by s is = tt

    lists_not_shaped : EachAtom g.Q (lists_not p c)
    lists_not_shaped = lists_not_by c.sub refl

    knows_not_by : (s : PureSub) → c.sub ≡ s → EachAtom g.Q (unknown_there p s)
    knows_not_by dom is = tt
    knows_not_by (named q) is = other_shaped g p q (g.sides p q side_p (side_name q is))
    knows_not_by (cell q) is = always_fine
    knows_not_by shape is = always_fine
    knows_not_by bound is = always_fine
    knows_not_by proto is = always_fine
    knows_not_by gone is = always_fine

    knows_not_shaped : EachAtom g.Q (knows_not p c)
    knows_not_shaped = knows_not_by c.sub refl

    lacks_by : (cs : List PureChunk) (s : PureSub) → c.sub ≡ s → EachAtom g.Q (tells_not p cs c.loc s c.val)
    lacks_by cs (named q) is = other_shaped g p q (g.sides p q side_p (side_name q is))
    lacks_by cs dom is = unheld_shaped g p c.loc cs c.val side_p (side_val is)
    lacks_by cs (cell q) is = always_fine
    lacks_by cs shape is = always_fine
    lacks_by cs bound is = always_fine
    lacks_by cs proto is = always_fine
    lacks_by cs gone is = always_fine

    lacks_shaped : (cs : List PureChunk) → EachAtom g.Q (lacks p cs c)
    lacks_shaped cs = lacks_by cs c.sub refl

  untold_by : (s : PureSub) (t : PureTerm) → EachAtom g.Q (untold_there s t)
  untold_by dom (list_of ts) = tt
  untold_by dom (literal k) = always_fine
  untold_by dom (variable y) = always_fine
  untold_by dom (unary_of op t) = always_fine
  untold_by dom (binary_of op t u) = always_fine
  untold_by (named q) t = always_fine
  untold_by (cell q) t = always_fine
  untold_by shape t = always_fine
  untold_by bound t = always_fine
  untold_by proto t = always_fine
  untold_by gone t = always_fine

  -- ---- all chunks

  module _ (cs : List PureChunk) (all_sides : Each (ChunkSides g) cs) (state : IsFineState g cs) where
    -- P of fine cases, and of those that need a literal form
    module _ (P : PureCase → Type 0) (fine_p : (c : PureCase) → IsFineCase g c → P c) (l : PureTerm) (side_l : g.Side l) (near_l : g.Near l) (r_l : g.R l) where
      all_p : (cases : List PureCase) → Each (IsFineCase g) cases → Each P cases
      all_p cases fine = each_to (IsFineCase g) P cases fine_p fine

      -- chunks of another subkey
      pub others_shaped : (s : PureSub) → Each g.Side (sub_terms s) → EachAtom g.Q (all_by_place l (λ c. other_sub s c.sub) cs)
      others_shaped s side_s = by_place_shaped g l side_l near_l (λ c. other_sub s c.sub) (λ c sides near. (side_sub g s side_s c sides near).1) cs all_sides

      missing_fine : (s : PureSub) → Each g.Side (sub_terms s) → Each g.R (sub_terms s) → g.Missed s → Each (IsFineCase g) (case_of (all_by_place l (λ c. other_sub s c.sub) cs) cs (missed_key l s))
      missing_fine s side_s r_s m = fine_case g (all_by_place l (λ c. other_sub s c.sub) cs) cs (missed_key l s) (others_shaped s side_s) state (r_l, (r_s, m))

      opened_by : (c : PureChunk) → ChunkSides g c → ChunkForms g c → (s : PureSub) → c.sub ≡ s → EachAtom g.Q (opened_there l c.loc s c.val)
      opened_by c sides forms dom is =
          ⊎_elim
          (λ near. form_shaped g c.val (same l c.loc) (subst (λ s. Each (λ t. is_list_term t ≡ false → is_literal t ≡ false → g.Q (opening t)) (value_where_described s c.val)) is (forms near)).0 (loc_same g l side_l near_l c sides))
          (λ e. subst (λ x. EachAtom g.Q (form_of c.val x)) (sym e) (subst (EachAtom g.Q) (sym (form_never g c.val)) tt))
          (loc_near_or_never g l side_l near_l c sides)
      opened_by c sides forms s is = tt

      forms_shaped : (ds : List PureChunk) → Each (ChunkSides g) ds → Each (ChunkForms g) ds → Each (λ c. EachAtom g.Q (opened_at l c)) ds
      forms_shaped [] sides forms = tt
      forms_shaped (c ∷ ds) sides forms = (opened_by c sides.0 forms.0 c.sub refl, forms_shaped ds sides.1 forms.1)

      module _ (p : PureTerm) (side_p : g.Side p) (r_p : g.R p) where
        opened_shaped : Each (ChunkForms g) cs → EachAtom g.Q (opened l p cs)
        opened_shaped forms =
            both_shaped g (any (opened_at l) cs) (all_by_place l (λ c. other_sub (named p) c.sub) cs) (any_shaped g (opened_at l) cs (forms_shaped cs all_sides forms)) (others_shaped (named p) (side_p, tt))

        miss_fine : IsFineResult g (missed_name l p)
        miss_fine = (r_l, ((r_p, tt), o.m_name p))

        without_fine : Each P (case_of (opened l p cs) cs (missed_name l p)) → Each P (without_name l p cs)
        without_fine opens =
            each_append P (case_of (opened l p cs) cs (missed_name l p)) (case_of (all_by_place l (lacks p cs) cs) cs (missed_name l p)) opens
            (all_p _ (fine_case g (all_by_place l (lacks p cs) cs) cs (missed_name l p) (by_place_shaped g l side_l near_l (lacks p cs) (λ c sides near. lacks_shaped p side_p c sides near cs) cs all_sides) state miss_fine))

        unlisted_fine : (t : PureTerm) → g.R t → Each (IsFineCase g) (case_of (any_at l (lists_not p) cs) cs (done t))
        unlisted_fine t r_t = fine_case g (any_at l (lists_not p) cs) cs (done t) (any_at_shaped g l side_l near_l (lists_not p) (lists_not_shaped p side_p) cs all_sides) state r_t

        -- ---- `get`, where the case whose form is needed is fine

        pub get_fine : Each P (case_of (opened l p cs) cs (missed_name l p)) → Each P (get_cases l p cs)
        get_fine opens =
            each_append P (found reads l (named p) cs) (case_of (any_at l (lists_not p) cs) cs (done undef_term) ++ without_name l p cs)
            (all_p (found reads l (named p) cs) (found_shaped g reads l (named p) side_l near_l (side_sub g (named p) (side_p, tt)) tt cs state all_sides))
            (each_append P (case_of (any_at l (lists_not p) cs) cs (done undef_term)) (without_name l p cs) (all_p _ (unlisted_fine undef_term o.r_undef)) (without_fine opens))

        -- ---- `has`

        told_fine : Each (IsFineCase g) (told_cases l p cs)
        told_fine =
            each_append (IsFineCase g) (case_of (any_at l (lists p) cs) cs (done true_term)) (case_of (any_at l (lists_not p) cs) cs (done false_term))
            (fine_case g (any_at l (lists p) cs) cs (done true_term) (any_at_shaped g l side_l near_l (lists p) (lists_shaped p side_p) cs all_sides) state g.r_true)
            (unlisted_fine false_term o.r_false)

        held_fine : Each (IsFineCase g) (held_case l p cs)
        held_fine =
            fine_case g (both (all_by_place l untold cs) (any_at l (λ c. same_sub (named p) c.sub) cs)) cs (done true_term)
            (both_shaped g (all_by_place l untold cs) (any_at l (λ c. same_sub (named p) c.sub) cs)
            (by_place_shaped g l side_l near_l untold (λ c sides near. untold_by c.sub c.val) cs all_sides)
            (any_at_shaped g l side_l near_l (λ c. same_sub (named p) c.sub) (λ c sides near. (side_sub g (named p) (side_p, tt) c sides near).0) cs all_sides))
            state g.r_true

        pub has_fine : Each P (case_of (opened l p cs) cs (done true_term)) → Each P (has_cases l p cs)
        has_fine opens =
            each_append P (told_cases l p cs) (held_case l p cs ++ unknown_cases l p cs) (all_p (told_cases l p cs) told_fine)
            (each_append P (held_case l p cs) (unknown_cases l p cs) (all_p (held_case l p cs) held_fine)
            (each_append P (case_of (opened l p cs) cs (done true_term)) (case_of (all_by_place l (knows_not p) cs) cs (missed_name l p)) opens
            (all_p _ (fine_case g (all_by_place l (knows_not p) cs) cs (missed_name l p) (by_place_shaped g l side_l near_l (knows_not p) (knows_not_shaped p side_p) cs all_sides) state miss_fine))))

        -- ---- `set`

        module _ (t : PureTerm) (r_t : g.R t) where
          added_by : (i : ℕ) (c : PureChunk) → slice_get cs i ≡ Some c → ChunkSides g c → IsFine g c → (s : PureSub) → c.sub ≡ s → (w : PureTerm) → c.val ≡ w → Each (IsFineCase g) (added_there l p t cs i c.loc s w)
          added_by i c there sides fine dom is (list_of ts) is_w =
              fine_case g (both (same l c.loc) (unlisted p (list_of ts))) (with_name cs i c.loc (to_list ts) p t) (done t)
              (where_same g l side_l near_l c sides (unlisted p (list_of ts)) (λ near. unlisted_shaped g p (list_of ts) side_p (subst g.Side is_w (side_val p side_p c sides near is))))
              (each_append (IsFine g) (with_held cs i (list_of (from_list (to_list ts ++ p ∷ [])))) (record { loc = c.loc; sub = named p; val = t } ∷ [])
              (fine_held g cs i (list_of (from_list (to_list ts ++ p ∷ []))) c there (o.r_list (to_list ts ++ p ∷ []) (each_append g.R (to_list ts) (p ∷ []) (o.r_elements ts (subst g.R is_w (chunk_val g.R c fine.terms))) (r_p, tt)))
              (subst (λ u. g.N u (list_of (from_list (to_list ts ++ p ∷ [])))) (sym is) (o.n_list (from_list (to_list ts ++ p ∷ [])))) state)
              (fine_chunk g (record { loc = c.loc; sub = named p; val = t }) fine.terms.places.0 (r_p, tt) r_t (o.n_name p t), tt))
              r_t
          added_by i c there sides fine dom is (literal k) is_w = tt
          added_by i c there sides fine dom is (variable y) is_w = tt
          added_by i c there sides fine dom is (unary_of op w) is_w = tt
          added_by i c there sides fine dom is (binary_of op w u) is_w = tt
          added_by i c there sides fine (named q) is w is_w = tt
          added_by i c there sides fine (cell q) is w is_w = tt
          added_by i c there sides fine shape is w is_w = tt
          added_by i c there sides fine bound is w is_w = tt
          added_by i c there sides fine proto is w is_w = tt
          added_by i c there sides fine gone is w is_w = tt

          added_fine : (i : ℕ) (ds : List PureChunk) → Each (ChunkSides g) ds → IsFineState g ds → ((j : ℕ) (c : PureChunk) → slice_get ds j ≡ Some c → slice_get cs (i + j) ≡ Some c) → Each (IsFineCase g) (added_from l p t cs i ds)
          added_fine i [] sides fine places = tt
          added_fine i (c ∷ ds) sides fine places =
              each_append (IsFineCase g) (added_there l p t cs i c.loc c.sub c.val) (added_from l p t cs (i + 1) ds)
              (added_by i c (ap (slice_get cs) (omega arith) ∙ places 0 c refl) sides.0 fine.0 c.sub refl c.val refl)
              (added_fine (i + 1) ds sides.1 fine.1 (λ j d at. ap (slice_get cs) (omega arith) ∙ places (suc j) d at))

          write_name : (c : PureChunk) → (same_sub (named p) c.sub ≡ never) ⊎ g.N c.sub t
          write_name c = by c.sub
            where
              by : (s : PureSub) → (same_sub (named p) s ≡ never) ⊎ g.N s t
              by (named q) = inr (o.n_name q t)
              by (cell q) = inl refl
              by shape = inl refl
              by bound = inl refl
              by dom = inl refl
              by proto = inl refl
              by gone = inl refl

          pub set_fine : Each P (case_of (opened l p cs) cs (missed_name l p)) → Each P (set_cases l p t cs)
          set_fine opens =
              each_append P (found (writes t) l (named p) cs) (added_from l p t cs 0 cs ++ without_name l p cs)
              (all_p (found (writes t) l (named p) cs) (found_shaped g (writes t) l (named p) side_l near_l (side_sub g (named p) (side_p, tt)) (r_t, write_name) cs state all_sides))
              (each_append P (added_from l p t cs 0 cs) (without_name l p cs) (all_p (added_from l p t cs 0 cs) (added_fine 0 cs all_sides state (λ j c at. ap (slice_get cs) (omega arith) ∙ at))) (without_fine opens))

        -- ---- `delete`

        module _ (i : ℕ) (c : PureChunk) (there : slice_get cs i ≡ Some c) (sides : ChunkSides g c) (is : c.sub ≡ dom) where
          taken_fine : (y : Alternatives) → EachAtom g.Q y → g.Near c.loc → (less : List PureChunk) → IsFineState g less → (e : PureTerm) → g.Side e → (k : ℕ) (ds : List PureChunk) → Each (ChunkSides g) ds → Each (IsFineCase g) (taken_from y c.loc (named e) less k ds)
          taken_fine y shaped near less fine e side_e k [] of_ds = tt
          taken_fine y shaped near less fine e side_e k (d ∷ ds) of_ds =
              each_append (IsFineCase g) (case_of (both y (at_key c.loc (named e) d)) (remove less k) (done true_term)) (taken_from y c.loc (named e) less (k + 1) ds)
              (fine_case g (both y (at_key c.loc (named e) d)) (remove less k) (done true_term)
              (both_shaped g y (at_key c.loc (named e) d) shaped (key_shaped g c.loc (sides.loc near) near d of_ds.0 (named e) (side_sub g (named e) (side_e, tt))))
              (each_removed (IsFine g) less k fine) g.r_true)
              (taken_fine y shaped near less fine e side_e (k + 1) ds of_ds.1)

          element_fine : (y : Alternatives) → EachAtom g.Q y → g.Near c.loc → (less : List PureChunk) → IsFineState g less → (e : PureTerm) → g.Side e → Each (IsFineCase g) (taken y l p cs less c.loc e)
          element_fine [] shaped near less fine e side_e = tt
          element_fine (conds ∷ y) shaped near less fine e side_e =
              each_append (IsFineCase g) (taken_from (conds ∷ y) c.loc (named e) less 0 cs) (case_of (both (conds ∷ y) (all_by_place c.loc (λ d. other_sub (named e) d.sub) cs)) cs (missed_name l p))
              (taken_fine (conds ∷ y) shaped near less fine e side_e 0 cs all_sides)
              (fine_case g (both (conds ∷ y) (all_by_place c.loc (λ d. other_sub (named e) d.sub) cs)) cs (missed_name l p)
              (both_shaped g (conds ∷ y) (all_by_place c.loc (λ d. other_sub (named e) d.sub) cs) shaped
              (by_place_shaped g c.loc (sides.loc near) near (λ d. other_sub (named e) d.sub) (λ d d_sides d_near. (side_sub g (named e) (side_e, tt) d d_sides d_near).1) cs all_sides))
              state miss_fine)

          less_fine : (ds : List PureTerm) → Each g.R ds → IsFineState g (relisted cs i ds)
          less_fine ds r_ds = fine_held g cs i (list_of (from_list ds)) c there (o.r_list ds r_ds) (subst (λ u. g.N u (list_of (from_list ds))) (sym is) (o.n_list (from_list ds))) state

          each_fine : (before es : List PureTerm) → Each g.R before → Each g.R es → (g.Near c.loc → Each g.Side es) → Each (IsFineCase g) (taken_each l p cs i c.loc before es)
          each_fine before [] r_before r_es sides_es = tt
          each_fine before (e ∷ es) r_before r_es sides_es =
              each_append (IsFineCase g) (taken (both (same l c.loc) (same p e)) l p cs (relisted cs i (before ++ es)) c.loc e) (taken_each l p cs i c.loc (before ++ e ∷ []) es)
              (⊎_elim
              (λ near. element_fine (both (same l c.loc) (same p e)) (where_same g l side_l near_l c sides (same p e) (λ n. same_shaped g p e (g.sides p e side_p (sides_es near).0))) near (relisted cs i (before ++ es)) (less_fine (before ++ es) (each_append g.R before es r_before r_es.1)) e (sides_es near).0)
              (λ none. subst (λ x. Each (IsFineCase g) (taken (both x (same p e)) l p cs (relisted cs i (before ++ es)) c.loc e)) (sym none) tt)
              (loc_near_or_never g l side_l near_l c sides))
              (each_fine (before ++ e ∷ []) es (each_append g.R before (e ∷ []) r_before (r_es.0, tt)) r_es.1 (λ near. (sides_es near).1))

        -- where the cases whose form is needed are fine
        abbrev NeededFine : List PureChunk → Type 0
        NeededFine ds = Each (λ c. c.sub ≡ dom → Each P (case_of (form_of c.val (same l c.loc)) cs (done true_term))) ds

        deleted_by : (i : ℕ) (c : PureChunk) → slice_get cs i ≡ Some c → ChunkSides g c → IsFine g c → (c.sub ≡ dom → Each P (case_of (form_of c.val (same l c.loc)) cs (done true_term))) → (s : PureSub) → c.sub ≡ s → (w : PureTerm) → c.val ≡ w → Each P (deleted_there l p cs i c.loc s w)
        deleted_by i c there sides fine needed dom is (list_of ts) is_w =
            each_append P (case_of (both (same l c.loc) (unlisted p (list_of ts))) cs (done true_term)) (taken_each l p cs i c.loc [] (to_list ts))
            (all_p _ (fine_case g (both (same l c.loc) (unlisted p (list_of ts))) cs (done true_term)
            (where_same g l side_l near_l c sides (unlisted p (list_of ts)) (λ near. unlisted_shaped g p (list_of ts) side_p (subst g.Side is_w (side_val p side_p c sides near is)))) state g.r_true))
            (all_p (taken_each l p cs i c.loc [] (to_list ts)) (each_fine i c there sides is [] (to_list ts) tt (o.r_elements ts (subst g.R is_w (chunk_val g.R c fine.terms))) (λ near. g.side_elements ts (subst g.Side is_w (side_val p side_p c sides near is)))))
        deleted_by i c there sides fine needed dom is (literal k) is_w = subst (λ w. Each P (case_of (form_of w (same l c.loc)) cs (done true_term))) is_w (needed is)
        deleted_by i c there sides fine needed dom is (variable y) is_w = subst (λ w. Each P (case_of (form_of w (same l c.loc)) cs (done true_term))) is_w (needed is)
        deleted_by i c there sides fine needed dom is (unary_of op w) is_w = subst (λ w. Each P (case_of (form_of w (same l c.loc)) cs (done true_term))) is_w (needed is)
        deleted_by i c there sides fine needed dom is (binary_of op w u) is_w = subst (λ w. Each P (case_of (form_of w (same l c.loc)) cs (done true_term))) is_w (needed is)
        deleted_by i c there sides fine needed (named q) is w is_w = tt
        deleted_by i c there sides fine needed (cell q) is w is_w = tt
        deleted_by i c there sides fine needed shape is w is_w = tt
        deleted_by i c there sides fine needed bound is w is_w = tt
        deleted_by i c there sides fine needed proto is w is_w = tt
        deleted_by i c there sides fine needed gone is w is_w = tt

        deleted_fine : (i : ℕ) (ds : List PureChunk) → Each (ChunkSides g) ds → IsFineState g ds → NeededFine ds → ((j : ℕ) (c : PureChunk) → slice_get ds j ≡ Some c → slice_get cs (i + j) ≡ Some c) → Each P (deleted_from l p cs i ds)
        deleted_fine i [] sides fine needed places = tt
        deleted_fine i (c ∷ ds) sides fine needed places =
            each_append P (deleted_there l p cs i c.loc c.sub c.val) (deleted_from l p cs (i + 1) ds)
            (deleted_by i c (ap (slice_get cs) (omega arith) ∙ places 0 c refl) sides.0 fine.0 needed.0 c.sub refl c.val refl)
            (deleted_fine (i + 1) ds sides.1 fine.1 needed.1 (λ j d at. ap (slice_get cs) (omega arith) ∙ places (suc j) d at))

        pub delete_fine : NeededFine cs → Each P (delete_cases l p cs)
        delete_fine needed =
            each_append P (deleted_from l p cs 0 cs) (case_of (all_by_place l (λ c. other_sub dom c.sub) cs) cs (missed_key l dom))
            (deleted_fine 0 cs all_sides state needed (λ j c at. ap (slice_get cs) (omega arith) ∙ at))
            (all_p _ (missing_fine dom tt tt o.m_dom))

      -- ---- prototypes

      write_proto : (t : PureTerm) (c : PureChunk) → (same_sub proto c.sub ≡ never) ⊎ g.N c.sub t
      write_proto t c = by c.sub
        where
          by : (s : PureSub) → (same_sub proto s ≡ never) ⊎ g.N s t
          by proto = inr (o.n_proto t)
          by (named q) = inl refl
          by (cell q) = inl refl
          by shape = inl refl
          by bound = inl refl
          by dom = inl refl
          by gone = inl refl

      pub prototype_fine : (a : PureAccess) → IsFineAccess g a proto → Each (IsFineCase g) (prototype_cases a l cs)
      prototype_fine a fine_a =
          each_append (IsFineCase g) (found a l proto cs) (case_of (all_by_place l (λ c. other_sub proto c.sub) cs) cs (missed_key l proto))
          (found_shaped g a l proto side_l near_l (side_sub g proto tt) fine_a cs state all_sides)
          (missing_fine proto tt tt o.m_proto)

    -- ---- arguments of wrong kinds

    -- the arguments are surely of wrong kinds
    wrong_fine : (wrong right : Alternatives) (cases : List PureCase) → list_any is_empty wrong ≡ true → right ≡ never → Each (Shaped g) (checked wrong right cs cases)
    wrong_fine wrong right cases sure none =
        each_append (Shaped g) (branches_of wrong cs (failure Failure.Kind)) (choose right cases)
        (surely_shaped g wrong cs (failure Failure.Kind) sure state (g.r_text (failure_text Failure.Kind)))
        (subst (λ x. Each (Shaped g) (choose x cases)) (sym none) (none_chosen (Shaped g) cases))

    right_fine : (wrong right : Alternatives) (cases : List PureCase) → EachAtom g.Q wrong → EachAtom g.Q right → Each (IsFineCase g) cases → Each (Shaped g) (checked wrong right cs cases)
    right_fine wrong right cases shaped_wrong shaped_right fine =
        each_append (Shaped g) (branches_of wrong cs (failure Failure.Kind)) (choose right cases) (failure_shaped g wrong cs Failure.Kind shaped_wrong state) (chosen_shaped g right shaped_right cases fine)

    pub number_fine : Each (Shaped g) (wrong_number cs)
    number_fine = failure_shaped g always cs Failure.Arity always_fine state

    pub unknown_fine : Each (Shaped g) (unknown_action cs)
    unknown_fine = failure_shaped g always cs Failure.Action always_fine state

    -- a location
    symbol_fine : (l : PureTerm) (cases : List PureCase) (b : Bool) → may_be_symbol l ≡ b → Each g.Given (if b then l ∷ [] else []) → (g.Given l → Each (IsFineCase g) cases) → Each (Shaped g) (checked (not_of_kind l Kind.Sym) (of_kind l Kind.Sym) cs cases)
    symbol_fine l cases true is asked fine = right_fine (not_of_kind l Kind.Sym) (of_kind l Kind.Sym) cases (not_kind_shaped g l Kind.Sym asked.0 refl) (kind_shaped g l Kind.Sym asked.0 refl) (fine asked.0)
    symbol_fine l cases false is asked fine = let wrong = wrong_kind g l Kind.Sym is in wrong_fine (not_of_kind l Kind.Sym) (of_kind l Kind.Sym) cases (ap (list_any is_empty) wrong.1) wrong.0

    -- a location and a name
    both_wrong : (l p : PureTerm) (a b : Bool) → may_be_symbol l ≡ a → allows (known_kind p) Kind.Str ≡ b → (a && b) ≡ false → (list_any is_empty (no_property l p) ≡ true) × (is_property l p ≡ never)
    both_wrong l p false b is_a is_b wrong = (
      ap (λ x. list_any is_empty (x ++ not_of_kind p Kind.Str)) (wrong_kind g l Kind.Sym is_a).1,
      ap (λ x. both x (of_kind p Kind.Str)) (wrong_kind g l Kind.Sym is_a).0,
    )
    both_wrong l p true false is_a is_b wrong = (
      ap (λ x. list_any is_empty (not_of_kind l Kind.Sym ++ x)) (wrong_kind g p Kind.Str is_b).1 ∙ ends_always g (not_of_kind l Kind.Sym),
      ap (both (of_kind l Kind.Sym)) (wrong_kind g p Kind.Str is_b).0 ∙ both_never g (of_kind l Kind.Sym),
    )
    both_wrong l p true true is_a is_b wrong = absurd (true≢false wrong)

    property_fine : (l p : PureTerm) (cases : List PureCase) (b : Bool) → may_be_property l p ≡ b → Each g.Given (if b then l ∷ p ∷ [] else []) → (g.Given l → g.Given p → Each (IsFineCase g) cases) → Each (Shaped g) (checked (no_property l p) (is_property l p) cs cases)
    property_fine l p cases true is asked fine =
        right_fine (no_property l p) (is_property l p) cases
        (or_shaped g (not_of_kind l Kind.Sym) (not_of_kind p Kind.Str) (not_kind_shaped g l Kind.Sym asked.0 refl) (not_kind_shaped g p Kind.Str asked.1.0 refl))
        (both_shaped g (of_kind l Kind.Sym) (of_kind p Kind.Str) (kind_shaped g l Kind.Sym asked.0 refl) (kind_shaped g p Kind.Str asked.1.0 refl))
        (fine asked.0 asked.1.0)
    property_fine l p cases false is asked fine =
        let wrong = both_wrong l p (may_be_symbol l) (allows (known_kind p) Kind.Str) refl refl is in wrong_fine (no_property l p) (is_property l p) cases wrong.0 wrong.1

    -- a prototype
    pub prototype_shaped : (t : PureTerm) → g.Given t → g.Given null_term → EachAtom g.Q (is_prototype t) × EachAtom g.Q (is_no_prototype t)
    prototype_shaped t given null =
        let may = g.sides t null_term (g.given_side t given) (g.given_side null_term null) in (
          or_shaped g (of_kind t Kind.Sym) (same t null_term) (kind_shaped g t Kind.Sym given refl) (same_shaped g t null_term may),
          both_shaped g (not_of_kind t Kind.Sym) (other t null_term) (not_kind_shaped g t Kind.Sym given refl) (other_shaped g t null_term may),
        )

    or_false : (b c : Bool) → (b || c) ≡ false → (b ≡ false) × (c ≡ false)
    or_false true c is = absurd (true≢false is)
    or_false false c is = (refl, is)

    other_kinds : (k : Option Kind) → allows k Kind.Kind ≡ false → are_other_kinds k (Some Kind.Kind) ≡ true
    other_kinds (Some k) is = ap not is
    other_kinds None is = absurd (true≢false is)

    second_of : (a b c : Bool) → b ≡ true → (a || (b || c)) ≡ true
    second_of true b c is = refl
    second_of false true c is = refl
    second_of false false c is = absurd (true≢false (sym is))

    not_null : (t : PureTerm) (b : Bool) → same_term t null_term ≡ b → allows (known_kind t) Kind.Kind ≡ false → same_term t null_term ≡ false
    not_null t false is wrong = is
    not_null t true is wrong = absurd (true≢false (sym (ap (λ u. allows (known_kind u) Kind.Kind) (same_term-same t null_term is)) ∙ wrong))

    apart_from_null : (t : PureTerm) → allows (known_kind t) Kind.Kind ≡ false → compared t null_term ≡ Comparison.Different
    apart_from_null t wrong =
        let differ = not_null t (same_term t null_term) refl wrong in
        let apart : are_apart t null_term ≡ true = second_of (is_literal t && true) (are_other_kinds (known_kind t) (Some Kind.Kind)) _ (other_kinds (known_kind t) wrong) in
        (λ i. if differ i then Comparison.Same else if apart i then Comparison.Different else Comparison.Unsure)

    no_null : (t : PureTerm) → allows (known_kind t) Kind.Kind ≡ false → (same t null_term ≡ never) × (other t null_term ≡ always)
    no_null t wrong = (
      ap (λ k. by_comparison k always never (given (positive (equal t null_term)))) (apart_from_null t wrong),
      ap (λ k. by_comparison k never always (given (negative (equal t null_term)))) (apart_from_null t wrong),
    )

    wrong_prototype : (t : PureTerm) → may_be_prototype t ≡ false → (is_prototype t ≡ never) × (is_no_prototype t ≡ always)
    wrong_prototype t is =
        let parts = or_false (may_be_symbol t) (allows (known_kind t) Kind.Kind) is in
        let no_symbol = wrong_kind g t Kind.Sym parts.0 in
        let apart = no_null t parts.1 in (
          (λ i. no_symbol.0 i ++ apart.0 i),
          (λ i. both (no_symbol.1 i) (apart.1 i)),
        )

    pub new_fine : (x : Var) → g.R (variable x) → (t : PureTerm) → g.R t → Each (IsFineCase g) (new_cases x t cs)
    new_fine x r_x t r_t =
        fine_case g always (created x t cs) (done (variable x)) always_fine
        (each_append (IsFine g) (cs ++ record { loc = variable x; sub = dom; val = no_names } ∷ []) (record { loc = variable x; sub = proto; val = t } ∷ [])
        (each_append (IsFine g) cs (record { loc = variable x; sub = dom; val = no_names } ∷ []) state (fine_chunk g (record { loc = variable x; sub = dom; val = no_names }) r_x tt (o.r_list [] tt) (o.n_list (from_list [])), tt))
        (fine_chunk g (record { loc = variable x; sub = proto; val = t }) r_x tt r_t (o.n_proto t), tt))
        r_x

    made_fine : (x : Var) → g.R (variable x) → (t : PureTerm) (b : Bool) → may_be_prototype t ≡ b → Each g.Given (if b then t ∷ null_term ∷ [] else []) → g.R t → Each (Shaped g) (checked (is_no_prototype t) (is_prototype t) cs (new_cases x t cs))
    made_fine x r_x t true is asked r_t = let shapes = prototype_shaped t asked.0 asked.1.0 in right_fine (is_no_prototype t) (is_prototype t) (new_cases x t cs) shapes.1 shapes.0 (new_fine x r_x t r_t)
    made_fine x r_x t false is asked r_t = let wrong = wrong_prototype t is in wrong_fine (is_no_prototype t) (is_prototype t) (new_cases x t cs) (ap (list_any is_empty) wrong.1) wrong.0

    pair_wrong : (l t : PureTerm) (a b : Bool) → may_be_symbol l ≡ a → may_be_prototype t ≡ b → (a && b) ≡ false → (list_any is_empty (not_of_kind l Kind.Sym ++ is_no_prototype t) ≡ true) × (both (of_kind l Kind.Sym) (is_prototype t) ≡ never)
    pair_wrong l t false b is_a is_b wrong = (
      ap (λ x. list_any is_empty (x ++ is_no_prototype t)) (wrong_kind g l Kind.Sym is_a).1,
      ap (λ x. both x (is_prototype t)) (wrong_kind g l Kind.Sym is_a).0,
    )
    pair_wrong l t true false is_a is_b wrong = (
      ap (λ x. list_any is_empty (not_of_kind l Kind.Sym ++ x)) (wrong_prototype t is_b).1 ∙ ends_always g (not_of_kind l Kind.Sym),
      ap (both (of_kind l Kind.Sym)) (wrong_prototype t is_b).0 ∙ both_never g (of_kind l Kind.Sym),
    )
    pair_wrong l t true true is_a is_b wrong = absurd (true≢false wrong)

    put_fine : (l t : PureTerm) (cases : List PureCase) (b : Bool) → (may_be_symbol l && may_be_prototype t) ≡ b → Each g.Given (if b then l ∷ t ∷ null_term ∷ [] else []) → (g.Given l → Each (IsFineCase g) cases) → Each (Shaped g) (checked (not_of_kind l Kind.Sym ++ is_no_prototype t) (both (of_kind l Kind.Sym) (is_prototype t)) cs cases)
    put_fine l t cases true is asked fine =
        let shapes = prototype_shaped t asked.1.0 asked.1.1.0 in
        right_fine (not_of_kind l Kind.Sym ++ is_no_prototype t) (both (of_kind l Kind.Sym) (is_prototype t)) cases
        (or_shaped g (not_of_kind l Kind.Sym) (is_no_prototype t) (not_kind_shaped g l Kind.Sym asked.0 refl) shapes.1)
        (both_shaped g (of_kind l Kind.Sym) (is_prototype t) (kind_shaped g l Kind.Sym asked.0 refl) shapes.0) (fine asked.0)
    put_fine l t cases false is asked fine =
        let wrong = pair_wrong l t (may_be_symbol l) (may_be_prototype t) refl refl is in
        wrong_fine (not_of_kind l Kind.Sym ++ is_no_prototype t) (both (of_kind l Kind.Sym) (is_prototype t)) cases wrong.0 wrong.1

    -- ---- every action

    module _ (forms : Each (ChunkForms g) cs) where
      opened_fine : (l p : PureTerm) → g.Given l → g.Given p → g.R l → g.R p → (r : _) → IsFineResult g r → Each (IsFineCase g) (case_of (opened l p cs) cs r)
      opened_fine l p given_l given_p r_l r_p r fine_r =
          fine_case g (opened l p cs) cs r (opened_shaped (IsFineCase g) (λ c is. is) l (g.given_side l given_l) (g.given_near l given_l) r_l p (g.given_side p given_p) r_p forms) state fine_r

      of_property_fine : (cases : PureTerm → PureTerm → List PureCase) → ((l p : PureTerm) → g.Given l → g.Given p → g.R l → g.R p → Each (IsFineCase g) (cases l p)) → (args : List PureTerm) → Each g.Given (asked_of_property args) → Each g.R args → Each (Shaped g) (of_property args cs cases)
      of_property_fine cases fine (l ∷ p ∷ []) asked r_args = property_fine l p (cases l p) (may_be_property l p) refl asked (λ given_l given_p. fine l p given_l given_p r_args.0 r_args.1.0)
      of_property_fine cases fine [] asked r_args = number_fine
      of_property_fine cases fine (l ∷ []) asked r_args = number_fine
      of_property_fine cases fine (l ∷ p ∷ t ∷ more) asked r_args = number_fine

      needed_fine : (l : PureTerm) → g.Given l → g.R l → (ds : List PureChunk) → Each (ChunkSides g) ds → Each (ChunkForms g) ds → Each (λ c. c.sub ≡ dom → Each (IsFineCase g) (case_of (form_of c.val (same l c.loc)) cs (done true_term))) ds
      needed_fine l given_l r_l [] sides of_ds = tt
      needed_fine l given_l r_l (c ∷ ds) sides of_ds = (
        (λ is. fine_case g (form_of c.val (same l c.loc)) cs (done true_term) (opened_by (IsFineCase g) (λ c is. is) l (g.given_side l given_l) (g.given_near l given_l) r_l c sides.0 of_ds.0 dom is) state g.r_true),
        needed_fine l given_l r_l ds sides.1 of_ds.1,
      )

      pub branches_fine : (op : ObjectAction) (fresh : Option Var) (args : List PureTerm) → ((x : Var) → fresh ≡ Some x → g.R (variable x)) → Each g.Given (asked_by (Some op) args) → Each g.R args → Each (Shaped g) (branches_by op fresh args cs)
      branches_fine ObjectAction.New (Some x) (t ∷ []) r_x asked r_args = made_fine x (r_x x refl) t (may_be_prototype t) refl asked r_args.0
      branches_fine ObjectAction.New None (t ∷ []) r_x asked r_args = tt
      branches_fine ObjectAction.New (Some x) [] r_x asked r_args = number_fine
      branches_fine ObjectAction.New None [] r_x asked r_args = number_fine
      branches_fine ObjectAction.New (Some x) (t ∷ u ∷ more) r_x asked r_args = number_fine
      branches_fine ObjectAction.New None (t ∷ u ∷ more) r_x asked r_args = number_fine
      branches_fine ObjectAction.Get fresh args r_x asked r_args =
          of_property_fine (λ l p. get_cases l p cs)
          (λ l p given_l given_p r_l r_p. get_fine (IsFineCase g) (λ c is. is) l (g.given_side l given_l) (g.given_near l given_l) r_l p (g.given_side p given_p) r_p (opened_fine l p given_l given_p r_l r_p (missed_name l p) (r_l, ((r_p, tt), o.m_name p))))
          args asked r_args
      branches_fine ObjectAction.Has fresh args r_x asked r_args =
          of_property_fine (λ l p. has_cases l p cs)
          (λ l p given_l given_p r_l r_p. has_fine (IsFineCase g) (λ c is. is) l (g.given_side l given_l) (g.given_near l given_l) r_l p (g.given_side p given_p) r_p (opened_fine l p given_l given_p r_l r_p (done true_term) g.r_true))
          args asked r_args
      branches_fine ObjectAction.Delete fresh args r_x asked r_args =
          of_property_fine (λ l p. delete_cases l p cs)
          (λ l p given_l given_p r_l r_p. delete_fine (IsFineCase g) (λ c is. is) l (g.given_side l given_l) (g.given_near l given_l) r_l p (g.given_side p given_p) r_p (needed_fine l given_l r_l cs all_sides forms))
          args asked r_args
      branches_fine ObjectAction.Set fresh (l ∷ p ∷ t ∷ []) r_x asked r_args =
          property_fine l p (set_cases l p t cs) (may_be_property l p) refl asked
          (λ given_l given_p. set_fine (IsFineCase g) (λ c is. is) l (g.given_side l given_l) (g.given_near l given_l) r_args.0 p (g.given_side p given_p) r_args.1.0 t r_args.1.1.0
          (opened_fine l p given_l given_p r_args.0 r_args.1.0 (missed_name l p) (r_args.0, ((r_args.1.0, tt), o.m_name p))))
      branches_fine ObjectAction.Set fresh [] r_x asked r_args = number_fine
      branches_fine ObjectAction.Set fresh (l ∷ []) r_x asked r_args = number_fine
      branches_fine ObjectAction.Set fresh (l ∷ p ∷ []) r_x asked r_args = number_fine
      branches_fine ObjectAction.Set fresh (l ∷ p ∷ t ∷ s ∷ more) r_x asked r_args = number_fine
      branches_fine ObjectAction.GetProto fresh (l ∷ []) r_x asked r_args =
          symbol_fine l (prototype_cases reads l cs) (may_be_symbol l) refl asked (λ given_l. prototype_fine (IsFineCase g) (λ c is. is) l (g.given_side l given_l) (g.given_near l given_l) r_args.0 reads tt)
      branches_fine ObjectAction.GetProto fresh [] r_x asked r_args = number_fine
      branches_fine ObjectAction.GetProto fresh (l ∷ p ∷ more) r_x asked r_args = number_fine
      branches_fine ObjectAction.SetProto fresh (l ∷ t ∷ []) r_x asked r_args =
          put_fine l t (prototype_cases (writes t) l cs) (may_be_symbol l && may_be_prototype t) refl asked
          (λ given_l. prototype_fine (IsFineCase g) (λ c is. is) l (g.given_side l given_l) (g.given_near l given_l) r_args.0 (writes t) (r_args.1.0, write_proto (IsFineCase g) (λ c is. is) l (g.given_side l given_l) (g.given_near l given_l) r_args.0 t))
      branches_fine ObjectAction.SetProto fresh [] r_x asked r_args = number_fine
      branches_fine ObjectAction.SetProto fresh (l ∷ []) r_x asked r_args = number_fine
      branches_fine ObjectAction.SetProto fresh (l ∷ t ∷ s ∷ more) r_x asked r_args = number_fine

      pub table_fine : (op : Option ObjectAction) (fresh : Option Var) (args : List PureTerm) → ((x : Var) → fresh ≡ Some x → g.R (variable x)) → Each g.Given (asked_by op args) → Each g.R args → Each (Shaped g) (table op fresh args cs)
      table_fine None fresh args r_x asked r_args = unknown_fine
      table_fine (Some op) fresh args r_x asked r_args = branches_fine op fresh args r_x asked r_args
