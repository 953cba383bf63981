-- The forms of the conditions that the actions of records ask, and what their states and results are made of, for every reading of
-- conditions and terms.
use Rattle.std.proofs.Common.{◌≡◌, ◌⊎◌, ⊎_elim, inl, inr, ℕ, ◌+◌, List, [], ◌∷◌, ◌++◌, map, Bool, true, false, Option, Some, None, if◌then◌else◌, refl, sym, ap, subst, ◌∙◌, true≢false}
use Rattle.std.specs.List.{remove, list_any}
use Rattle.std.specs.Prelude.{⊤}
use Rattle.gil_values.specs.declared.kinds.Kind.{Kind}
use Rattle.mem_model.specs.declared.failures.Failure.{Failure}
use Rattle.mem_model.specs.Tables.{failure_text}
use Rattle.pure_terms.specs.declared.variables.Var.{Var}
use Rattle.pure_terms.specs.Kinds.{allows, known_kind}
use Rattle.pure_terms.specs.Pure.{PureTerm, literal, variable, list_of, unary_of, binary_of, PureTerms, to_list, opening}
use Rattle.record_heap.specs.declared.actions.RecordAction.{RecordAction}
use Rattle.record_sym.specs.Places.{unlisted_there, lists_not, opened_there, opened_at, opened, tells_not, lacks, undescribed_there, undescribed}
use Rattle.record_sym.specs.Table.{without_name, name_cases, faulty, name_chunk, created, make, disposed_there, disposed_from, dispose_cases, asked_by, branches_by, table}
use Rattle.sym_chunks.specs.Arguments.{may_be_symbol, may_be_property}
use Rattle.sym_chunks.specs.ByPlace.{all_by_place, any_at}
use Rattle.sym_chunks.specs.Cases.{PureCase, PureAccess, reads, writes, case_of, branches_of, found, gone_case, failure, true_term, null_term, missed_key, missed_name}
use Rattle.sym_chunks.specs.Forms.{form_of}
use Rattle.sym_chunks.specs.Keys.{same_sub, other_sub}
use Rattle.sym_chunks.specs.NameTerms.{distinct_from}
use Rattle.sym_chunks.specs.Walking.{way_of, walk}
use Rattle.sym_model.specs.Alternatives.{Alternatives, never, always, any, is_empty, same, of_kind, not_of_kind}
use Rattle.sym_model.specs.Chunks.{value_where_described}
use Rattle.sym_model.specs.Lists.{Each}
use Rattle.sym_model.specs.Pure.{PureSub, named, cell, shape, bound, dom, proto, gone, PureChunk, sub_terms, done}
use Rattle.sym_model.specs.Terms.{is_literal, is_list_term}
use Rattle.sym_model.proofs.ChunkMeaning.{chunk_val}
use Rattle.sym_model.proofs.ListLaws.{each_append, each_to}
use Rattle.sym_chunks.proofs.ArgumentShapes.{number_fine, unknown_fine, symbol_fine, property_fine}
use Rattle.sym_chunks.proofs.GoneLaws.{gone_fine}
use Rattle.sym_chunks.proofs.Shapes.{EachAtom, Reading, ChunkSides, ChunkForms, IsFine, IsFineState, IsFineResult, Shaped, both_shaped, or_shaped, form_shaped, form_never, other_shaped, kind_shaped, not_kind_shaped, wrong_kind, any_shaped, same_each, unlisted_shaped, unheld_shaped, distinct_shaped, side_sub, loc_near_or_never, loc_same, by_place_shaped, any_at_shaped, IsFineCase, fine_case, branches_shaped, failure_shaped, surely_shaped, fine_chunk, IsFineAccess, found_shaped, IsFineSub, way_without, walk_shaped, no_ways_walk}

-- What a reading of records says besides: the elements of fine list terms are fine, and fine chunks are held and missed.
pub record OfRecords (g : Reading) : Type 0 where
  pub r_elements : (ts : PureTerms) → g.R (list_of ts) → Each g.R (to_list ts)
  pub r_null : g.R null_term
  pub n_name : (q t : PureTerm) → g.N (named q) t
  pub n_list : (ts : PureTerms) → g.N shape (list_of ts)
  pub n_gone : g.N gone true_term
  pub m_name : (q : PureTerm) → g.Missed (named q)
  pub m_shape : g.Missed shape

-- where the literal form of a term that may be a list is needed
abbrev pub OpenIf : Reading → PureTerm → Type 0
OpenIf g d = is_list_term d ≡ false → is_literal d ≡ false → (allows (known_kind d) Kind.List ≡ false) ⊎ g.Q (opening d)

-- the literal form of the names that `new` is given may be needed
abbrev pub FormOf : Reading → Option RecordAction → List PureTerm → Type 0
FormOf g (Some RecordAction.New) (d ∷ []) = OpenIf g d
FormOf g op args = ⊤

pub form_given : (g : Reading) (op : Option RecordAction) (args : List PureTerm) → ((d : PureTerm) → op ≡ Some RecordAction.New → args ≡ d ∷ [] → OpenIf g d) → FormOf g op args
form_given g (Some RecordAction.New) (d ∷ []) f = f d refl refl
form_given g (Some RecordAction.New) [] f = tt
form_given g (Some RecordAction.New) (d ∷ e ∷ more) f = tt
form_given g (Some RecordAction.Lookup) args f = tt
form_given g (Some RecordAction.Mutate) args f = tt
form_given g (Some RecordAction.Dispose) args f = tt
form_given g None args f = tt

module _ (g : Reading) (o : OfRecords g) where
  abbrev EachQ : Alternatives → Type 0
  EachQ x = EachAtom g.Q x

  -- ---- one chunk whose location is near

  module _ (p : PureTerm) (side_p : g.Side p) (c : PureChunk) (sides : ChunkSides g c) (near : g.Near c.loc) where
    side_val : c.sub ≡ shape → g.Side c.val
    side_val is = (subst (λ s. Each g.Side (value_where_described s c.val)) is (sides.described near)).0

    side_name : (q : PureTerm) → c.sub ≡ named q → g.Side q
    side_name q is = (subst (λ s. Each g.Side (sub_terms s)) is (sides.places near)).0

    lists_not_by : (s : PureSub) → c.sub ≡ s → EachQ (unlisted_there p s c.val)
    lists_not_by shape is = unlisted_shaped g p c.val side_p (side_val is)
    lists_not_by s is = tt

    lists_not_shaped : EachQ (lists_not p c)
    lists_not_shaped = lists_not_by c.sub refl

    lacks_by : (cs : List PureChunk) (s : PureSub) → c.sub ≡ s → EachQ (tells_not p cs c.loc s c.val)
    lacks_by cs (named q) is = other_shaped g p q (g.sides p q side_p (side_name q is))
    lacks_by cs gone is = tt
    lacks_by cs shape is = unheld_shaped g p c.loc cs c.val side_p (side_val is)
    lacks_by cs (cell q) is = (tt, tt)
    lacks_by cs bound is = (tt, tt)
    lacks_by cs dom is = (tt, tt)
    lacks_by cs proto is = (tt, tt)

    lacks_shaped : (cs : List PureChunk) → EachQ (lacks p cs c)
    lacks_shaped cs = lacks_by cs c.sub refl

  undescribed_by : (s : PureSub) → EachQ (undescribed_there s)
  undescribed_by shape = tt
  undescribed_by gone = tt
  undescribed_by (named q) = (tt, tt)
  undescribed_by (cell q) = (tt, tt)
  undescribed_by bound = (tt, tt)
  undescribed_by dom = (tt, tt)
  undescribed_by proto = (tt, tt)

  -- ---- all chunks

  module _ (cs : List PureChunk) (all_sides : Each (ChunkSides g) cs) (state : IsFineState g cs) where
    abbrev Fine : List PureCase → Type 0
    Fine cases = Each (IsFineCase g) cases

    -- P of fine cases, and of those that need a literal form
    module _ (P : PureCase → Type 0) (fine_p : (c : PureCase) → IsFineCase g c → P c) (l : PureTerm) (side_l : g.Side l) (near_l : g.Near l) (r_l : g.R l) where
      all_p : (cases : List PureCase) → Each (IsFineCase g) cases → Each P cases
      all_p cases fine = each_to (IsFineCase g) P cases fine_p fine

      failed : (when : Alternatives) (why : Failure) → EachQ when → Each P (case_of when cs (failure why))
      failed when why conds = all_p _ (fine_case g when cs (failure why) conds state (g.r_text (failure_text why)))

      gone_p : Each P (gone_case l cs)
      gone_p = all_p _ (gone_fine g cs all_sides state l side_l near_l)

      pub opened_by : (c : PureChunk) → ChunkSides g c → ChunkForms g c → (s : PureSub) → c.sub ≡ s → EachQ (opened_there l c.loc s c.val)
      opened_by c sides forms shape is =
          ⊎_elim
          (λ near. form_shaped g c.val (same l c.loc) (subst (λ s. Each (λ t. is_list_term t ≡ false → is_literal t ≡ false → g.Q (opening t)) (value_where_described s c.val)) is (forms near)).0 (loc_same g l side_l near_l c sides))
          (λ e. subst (λ x. EachQ (form_of c.val x)) (sym e) (subst EachQ (sym (form_never g c.val)) tt))
          (loc_near_or_never g l side_l near_l c sides)
      opened_by c sides forms s is = tt

      forms_shaped : (ds : List PureChunk) → Each (ChunkSides g) ds → Each (ChunkForms g) ds → Each (λ c. EachQ (opened_at l c)) ds
      forms_shaped [] sides forms = tt
      forms_shaped (c ∷ ds) sides forms = (opened_by c sides.0 forms.0 c.sub refl, forms_shaped ds sides.1 forms.1)

      -- ---- `lookup` and `mutate`, where the case whose form is needed is fine

      module _ (p : PureTerm) (side_p : g.Side p) (r_p : g.R p) where
        pub others_shaped : EachQ (all_by_place l (λ c. other_sub (named p) c.sub) cs)
        others_shaped = by_place_shaped g l side_l near_l (λ c. other_sub (named p) c.sub) (λ c sides near. (side_sub g (named p) (side_p, tt) c sides near).1) cs all_sides

        opened_shaped : Each (ChunkForms g) cs → EachQ (opened l p cs)
        opened_shaped forms = both_shaped g (any (opened_at l) cs) (all_by_place l (λ c. other_sub (named p) c.sub) cs) (any_shaped g (opened_at l) cs (forms_shaped cs all_sides forms)) others_shaped

        miss_fine : IsFineResult g (missed_name l p)
        miss_fine = (r_l, ((r_p, tt), o.m_name p))

        without_fine : Each P (case_of (opened l p cs) cs (missed_name l p)) → Each P (without_name l p cs)
        without_fine opens =
            each_append P (gone_case l cs) _ gone_p
            (each_append P (case_of (any_at l (lists_not p) cs) cs (failure Failure.Absent)) _
            (failed (any_at l (lists_not p) cs) Failure.Absent (any_at_shaped g l side_l near_l (lists_not p) (lists_not_shaped p side_p) cs all_sides))
            (each_append P (case_of (opened l p cs) cs (missed_name l p)) (case_of (all_by_place l (lacks p cs) cs) cs (missed_name l p)) opens
            (all_p _ (fine_case g (all_by_place l (lacks p cs) cs) cs (missed_name l p) (by_place_shaped g l side_l near_l (lacks p cs) (λ c sides near. lacks_shaped p side_p c sides near cs) cs all_sides) state miss_fine))))

        pub name_fine : (a : PureAccess) → IsFineAccess g a (named p) → Each P (case_of (opened l p cs) cs (missed_name l p)) → Each P (name_cases a l p cs)
        name_fine a fine_a opens =
            each_append P (found a l (named p) cs) (without_name l p cs)
            (all_p (found a l (named p) cs) (found_shaped g a l (named p) side_l near_l (side_sub g (named p) (side_p, tt)) fine_a cs state all_sides))
            (without_fine opens)

      -- ---- `dispose`

      subs_fine : (ds : List PureTerm) → Each g.Side ds → Each g.R ds → Each (IsFineSub g) (map named ds)
      subs_fine [] side r = tt
      subs_fine (d ∷ ds) side r = ((side_sub g (named d) (side.0, tt), ((r.0, tt), o.m_name d)), subs_fine ds side.1 r.1)

      taken_by : (i : ℕ) (c : PureChunk) → ChunkSides g c → IsFine g c → c.sub ≡ shape → (ts : PureTerms) → c.val ≡ list_of ts → Fine (walk cs c.loc (map named (to_list ts)) (way_of (same l c.loc) (remove cs i)))
      taken_by i c c_sides fine is ts val =
          ⊎_elim
          (λ near. walk_shaped g o.n_gone cs state c.loc (c_sides.loc near) near fine.terms.places.0 (map named (to_list ts))
          (subs_fine (to_list ts)
          (g.side_elements ts (subst g.Side val (subst (λ s. Each g.Side (value_where_described s c.val)) is (c_sides.described near)).0))
          (o.r_elements ts (subst g.R val (chunk_val g.R c fine.terms))))
          (way_of (same l c.loc) (remove cs i)) (way_without g cs i (same l c.loc) (loc_same g l side_l near_l c c_sides) state all_sides))
          (λ e. subst (λ x. Fine (walk cs c.loc (map named (to_list ts)) (way_of x (remove cs i)))) (sym e) (subst Fine (sym (no_ways_walk g cs c.loc (map named (to_list ts)))) tt))
          (loc_near_or_never g l side_l near_l c c_sides)

      -- the case of each chunk whose form is needed is fine
      abbrev Needed : PureChunk → Type 0
      Needed c = c.sub ≡ shape → Each P (case_of (form_of c.val (same l c.loc)) cs (done true_term))

      there_fine : (i : ℕ) (c : PureChunk) → ChunkSides g c → IsFine g c → Needed c → (s : PureSub) → c.sub ≡ s → (t : PureTerm) → c.val ≡ t → Each P (disposed_there l cs i c.loc s t)
      there_fine i c c_sides fine needs shape is (list_of ts) val = all_p _ (taken_by i c c_sides fine is ts val)
      there_fine i c c_sides fine needs shape is (literal k) val = tt
      there_fine i c c_sides fine needs shape is (variable x) val = subst (λ t. Each P (case_of (form_of t (same l c.loc)) cs (done true_term))) val (needs is)
      there_fine i c c_sides fine needs shape is (unary_of op t) val = subst (λ u. Each P (case_of (form_of u (same l c.loc)) cs (done true_term))) val (needs is)
      there_fine i c c_sides fine needs shape is (binary_of op t u) val = subst (λ w. Each P (case_of (form_of w (same l c.loc)) cs (done true_term))) val (needs is)
      there_fine i c c_sides fine needs (named p) is t val = tt
      there_fine i c c_sides fine needs (cell p) is t val = tt
      there_fine i c c_sides fine needs bound is t val = tt
      there_fine i c c_sides fine needs dom is t val = tt
      there_fine i c c_sides fine needs proto is t val = tt
      there_fine i c c_sides fine needs gone is t val = tt

      from_fine : (i : ℕ) (ds : List PureChunk) → Each (ChunkSides g) ds → Each (IsFine g) ds → Each Needed ds → Each P (disposed_from l cs i ds)
      from_fine i [] sides fine needs = tt
      from_fine i (c ∷ ds) sides fine needs =
          each_append P (disposed_there l cs i c.loc c.sub c.val) (disposed_from l cs (i + 1) ds)
          (there_fine i c sides.0 fine.0 needs.0 c.sub refl c.val refl) (from_fine (i + 1) ds sides.1 fine.1 needs.1)

      pub dispose_fine : Each Needed cs → Each P (dispose_cases l cs)
      dispose_fine needs =
          each_append P (gone_case l cs) _ gone_p
          (each_append P (disposed_from l cs 0 cs) _ (from_fine 0 cs all_sides state needs)
          (all_p _ (fine_case g (all_by_place l undescribed cs) cs (missed_key l shape) (by_place_shaped g l side_l near_l undescribed (λ c sides near. undescribed_by c.sub) cs all_sides) state (r_l, (tt, o.m_shape)))))

    -- ---- `new`

    pub faulty_shaped : (ds : List PureTerm) → Each g.Given ds → EachQ (faulty ds)
    faulty_shaped [] given = tt
    faulty_shaped (d ∷ ds) given =
        or_shaped g (not_of_kind d Kind.Str) (any (same d) ds ++ faulty ds) (not_kind_shaped g d Kind.Str given.0 refl)
        (or_shaped g (any (same d) ds) (faulty ds) (same_each g d ds (g.given_side d given.0) (each_to g.Given g.Side ds g.given_side given.1)) (faulty_shaped ds given.1))

    module _ (x : Var) (r_x : g.R (variable x)) where
      names_fine : (ds : List PureTerm) → Each g.R ds → Each (IsFine g) (map (name_chunk x) ds)
      names_fine [] r = tt
      names_fine (d ∷ ds) r = (fine_chunk g (name_chunk x d) r_x (r.0, tt) o.r_null (o.n_name d null_term), names_fine ds r.1)

      created_fine : (ts : PureTerms) → g.R (list_of ts) → IsFineState g (created x (list_of ts) (to_list ts) cs)
      created_fine ts r =
          each_append (IsFine g) (cs ++ map (name_chunk x) (to_list ts)) (record { loc = variable x; sub = shape; val = list_of ts } ∷ [])
          (each_append (IsFine g) cs (map (name_chunk x) (to_list ts)) state (names_fine (to_list ts) (o.r_elements ts r)))
          (fine_chunk g (record { loc = variable x; sub = shape; val = list_of ts }) r_x tt r (o.n_list ts), tt)

      listed_fine : (ts : PureTerms) → g.Given (list_of ts) → g.R (list_of ts) → Each (Shaped g) (make x (list_of ts) cs)
      listed_fine ts given r =
          let all_given = g.given_elements ts given in
          each_append (Shaped g) (branches_of (faulty (to_list ts)) cs (failure Failure.Kind)) (branches_of (distinct_from always (to_list ts)) (created x (list_of ts) (to_list ts) cs) (done (variable x)))
          (failure_shaped g (faulty (to_list ts)) cs Failure.Kind (faulty_shaped (to_list ts) all_given) state)
          (branches_shaped g (distinct_from always (to_list ts)) (created x (list_of ts) (to_list ts) cs) (done (variable x)) (distinct_shaped g always (to_list ts) (tt, tt) all_given) (created_fine ts r) r_x)

      unlisted_by : (d : PureTerm) (b : Bool) → allows (known_kind d) Kind.List ≡ b → Each g.Given (if b then d ∷ [] else []) → OpenIf g d
          → Each (Shaped g) (branches_of (not_of_kind d Kind.List) cs (failure Failure.Kind) ++ branches_of (form_of d (of_kind d Kind.List)) cs (done (variable x)))
      unlisted_by d true may asked form =
          each_append (Shaped g) (branches_of (not_of_kind d Kind.List) cs (failure Failure.Kind)) (branches_of (form_of d (of_kind d Kind.List)) cs (done (variable x)))
          (failure_shaped g (not_of_kind d Kind.List) cs Failure.Kind (not_kind_shaped g d Kind.List asked.0 refl) state)
          (branches_shaped g (form_of d (of_kind d Kind.List)) cs (done (variable x))
          (form_shaped g d (of_kind d Kind.List) (λ no_list no_literal. ⊎_elim (λ never_list. absurd (true≢false (sym may ∙ never_list))) (λ q. q) (form no_list no_literal)) (kind_shaped g d Kind.List asked.0 refl)) state r_x)
      unlisted_by d false may asked form =
          let wrong = wrong_kind g d Kind.List may in
          each_append (Shaped g) (branches_of (not_of_kind d Kind.List) cs (failure Failure.Kind)) (branches_of (form_of d (of_kind d Kind.List)) cs (done (variable x)))
          (surely_shaped g (not_of_kind d Kind.List) cs (failure Failure.Kind) (ap (list_any is_empty) wrong.1) state (g.r_text (failure_text Failure.Kind)))
          (subst (λ y. Each (Shaped g) (branches_of (form_of d y) cs (done (variable x)))) (sym wrong.0) (subst (λ y. Each (Shaped g) (branches_of y cs (done (variable x)))) (sym (form_never g d)) tt))

      make_fine : (d : PureTerm) → Each g.Given (if allows (known_kind d) Kind.List then d ∷ [] else []) → g.R d → OpenIf g d → Each (Shaped g) (make x d cs)
      make_fine (list_of ts) asked r form = listed_fine ts asked.0 r
      make_fine (literal k) asked r form = unlisted_by (literal k) _ refl asked form
      make_fine (variable y) asked r form = unlisted_by (variable y) _ refl asked form
      make_fine (unary_of op t) asked r form = unlisted_by (unary_of op t) _ refl asked form
      make_fine (binary_of op s t) asked r form = unlisted_by (binary_of op s t) _ refl asked form

    -- ---- every action

    writes_name : (p t : PureTerm) → g.R t → IsFineAccess g (writes t) (named p)
    writes_name p t r = (r, λ c. by_sub c.sub)
      where
        by_sub : (s : PureSub) → (same_sub (named p) s ≡ never) ⊎ g.N s t
        by_sub (named q) = inr (o.n_name q t)
        by_sub (cell q) = inl refl
        by_sub shape = inl refl
        by_sub bound = inl refl
        by_sub dom = inl refl
        by_sub proto = inl refl
        by_sub gone = inl refl

    number : Each (Shaped g) (branches_of always cs (failure Failure.Arity))
    number = number_fine g cs state

    module _ (forms : Each (ChunkForms g) cs) where
      names_of_property : (a : PureAccess) (l p : PureTerm) → IsFineAccess g a (named p) → g.R l → g.R p → g.Given l → g.Given p → Fine (name_cases a l p cs)
      names_of_property a l p fine_a r_l r_p given_l given_p =
          let side_l = g.given_side l given_l in
          let near_l = g.given_near l given_l in
          let side_p = g.given_side p given_p in
          name_fine (IsFineCase g) (λ c is. is) l side_l near_l r_l p side_p r_p a fine_a
          (fine_case g (opened l p cs) cs (missed_name l p) (opened_shaped (IsFineCase g) (λ c is. is) l side_l near_l r_l p side_p r_p forms) state (r_l, ((r_p, tt), o.m_name p)))

      needed : (l : PureTerm) → g.Given l → g.R l → (ds : List PureChunk) → Each (ChunkSides g) ds → Each (ChunkForms g) ds → Each (λ c. c.sub ≡ shape → Fine (case_of (form_of c.val (same l c.loc)) cs (done true_term))) ds
      needed l given r_l [] sides of_ds = tt
      needed l given r_l (c ∷ ds) sides of_ds = (
        (λ is. fine_case g (form_of c.val (same l c.loc)) cs (done true_term) (opened_by (IsFineCase g) (λ c is. is) l (g.given_side l given) (g.given_near l given) r_l c sides.0 of_ds.0 shape is) state g.r_true),
        needed l given r_l ds sides.1 of_ds.1,
      )

      branches_fine : (op : RecordAction) (fresh : Option Var) (args : List PureTerm) → ((x : Var) → fresh ≡ Some x → g.R (variable x)) → Each g.Given (asked_by (Some op) args) → Each g.R args → FormOf g (Some op) args → Each (Shaped g) (branches_by op fresh args cs)
      branches_fine RecordAction.New (Some x) (d ∷ []) r_x asked r_args form = make_fine x (r_x x refl) d asked r_args.0 form
      branches_fine RecordAction.New None (d ∷ []) r_x asked r_args form = tt
      branches_fine RecordAction.New (Some x) [] r_x asked r_args form = number
      branches_fine RecordAction.New None [] r_x asked r_args form = number
      branches_fine RecordAction.New (Some x) (d ∷ e ∷ more) r_x asked r_args form = number
      branches_fine RecordAction.New None (d ∷ e ∷ more) r_x asked r_args form = number
      branches_fine RecordAction.Lookup fresh (l ∷ p ∷ []) r_x asked r_args form =
          property_fine g cs state l p (name_cases reads l p cs) (may_be_property l p) refl asked (names_of_property reads l p tt r_args.0 r_args.1.0)
      branches_fine RecordAction.Lookup fresh [] r_x asked r_args form = number
      branches_fine RecordAction.Lookup fresh (l ∷ []) r_x asked r_args form = number
      branches_fine RecordAction.Lookup fresh (l ∷ p ∷ t ∷ more) r_x asked r_args form = number
      branches_fine RecordAction.Mutate fresh (l ∷ p ∷ t ∷ []) r_x asked r_args form =
          property_fine g cs state l p (name_cases (writes t) l p cs) (may_be_property l p) refl asked (names_of_property (writes t) l p (writes_name p t r_args.1.1.0) r_args.0 r_args.1.0)
      branches_fine RecordAction.Mutate fresh [] r_x asked r_args form = number
      branches_fine RecordAction.Mutate fresh (l ∷ []) r_x asked r_args form = number
      branches_fine RecordAction.Mutate fresh (l ∷ p ∷ []) r_x asked r_args form = number
      branches_fine RecordAction.Mutate fresh (l ∷ p ∷ t ∷ s ∷ more) r_x asked r_args form = number
      branches_fine RecordAction.Dispose fresh (l ∷ []) r_x asked r_args form =
          symbol_fine g cs state l (dispose_cases l cs) (may_be_symbol l) refl asked
          (λ given. dispose_fine (IsFineCase g) (λ c is. is) l (g.given_side l given) (g.given_near l given) r_args.0 (needed l given r_args.0 cs all_sides forms))
      branches_fine RecordAction.Dispose fresh [] r_x asked r_args form = number
      branches_fine RecordAction.Dispose fresh (l ∷ p ∷ more) r_x asked r_args form = number

      pub table_fine : (op : Option RecordAction) (fresh : Option Var) (args : List PureTerm) → ((x : Var) → fresh ≡ Some x → g.R (variable x)) → Each g.Given (asked_by op args) → Each g.R args → FormOf g op args → Each (Shaped g) (table op fresh args cs)
      table_fine None fresh args r_x asked r_args form = unknown_fine g cs state
      table_fine (Some op) fresh args r_x asked r_args form = branches_fine op fresh args r_x asked r_args form
