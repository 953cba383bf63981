-- The forms of the conditions that production asks, and what its states are made of, for every reading.
use Rattle.std.proofs.Common.{◌≡◌, ◌⊎◌, ⊎_elim, List, [], ◌∷◌, ◌++◌, Bool, true, false, if◌then◌else◌, refl, sym, ap, subst, ◌∙◌, true≢false}
use Rattle.std.specs.Prelude.{⊤}
use Rattle.gil_values.specs.declared.kinds.Kind.{Kind}
use Rattle.core_production.specs.Producing.{are_names, is_right, needs_form, listed_unless_open, fits, fits_beside, has_open_names, fits_closed, opened_there, opened_at, may_stand, added, opened_unless_list, produced_at, produced}
use Rattle.pure_terms.specs.Kinds.{allows, known_kind}
use Rattle.pure_terms.specs.Pure.{PureTerm, literal, variable, list_of, unary_of, binary_of, to_list, opening}
use Rattle.sym_chunks.specs.ByPlace.{all_by_place}
use Rattle.sym_chunks.specs.Cases.{true_term}
use Rattle.sym_chunks.specs.Forms.{form_of}
use Rattle.sym_chunks.specs.NameTerms.{listed}
use Rattle.sym_chunks.proofs.Shapes.{Reading, ChunkSides, ChunkForms, IsFine, IsFineState, Shaped, EachAtom, limits_of, both_shaped, form_shaped, form_never, other_shaped, inside_shaped, kind_shaped, wrong_kind, any_shaped, both_never, listed_shaped, distinct_shaped, loc_near_or_never, loc_same, by_place_shaped, branches_shaped}
use Rattle.sym_model.specs.Alternatives.{Alternatives, never, always, both, any, same, of_kind}
use Rattle.sym_model.specs.Chunks.{value_where_described}
use Rattle.sym_model.specs.Cores.{zero_term}
use Rattle.sym_model.specs.Lists.{Each}
use Rattle.sym_model.specs.Pure.{PureSub, named, cell, shape, bound, dom, proto, gone, PureChunk, sub_terms, done}
use Rattle.sym_model.specs.Terms.{is_literal, is_list_term}
use Rattle.sym_model.proofs.ListLaws.{each_append, each_to}

-- beside its location, what is asked about of a new chunk
abbrev pub asked_of_new : PureSub → PureTerm → List PureTerm
asked_of_new (named p) t = p ∷ []
asked_of_new (cell i) t = i ∷ zero_term ∷ []
asked_of_new shape d = d ∷ []
asked_of_new bound n = n ∷ zero_term ∷ []
asked_of_new dom d = d ∷ []
asked_of_new proto t = []
asked_of_new gone t = []

-- 0 is ordered with what is given
abbrev pub ZeroOrders : Reading → PureSub → Type 0
ZeroOrders g (cell i) = (t : PureTerm) → g.Given t → g.Ordered t zero_term × g.Ordered zero_term t
ZeroOrders g s = ⊤

-- the literal form of the names may be needed
abbrev pub NamesOpen : Reading → PureSub → PureTerm → Type 0
NamesOpen g shape d = is_list_term d ≡ false → is_literal d ≡ false → g.Q (opening d)
NamesOpen g dom d = is_list_term d ≡ false → is_literal d ≡ false → g.Q (opening d)
NamesOpen g s d = ⊤

module _ (g : Reading) where
  abbrev EachQ : Alternatives → Type 0
  EachQ x = EachAtom g.Q x

  always_shaped : EachQ always
  always_shaped = (tt, tt)

  -- ---- beside a chunk

  listed_by : (p d : PureTerm) (b : Bool) → g.Side p → g.Side d → EachQ (if b then always else listed p d)
  listed_by p d true side_p side_d = always_shaped
  listed_by p d false side_p side_d = listed_shaped g p d side_p side_d

  unless_open : (p d : PureTerm) → g.Side p → g.Side d → EachQ (listed_unless_open p d)
  unless_open p d side_p side_d = listed_by p d (needs_form d) side_p side_d

  abbrev Limits : PureSub → PureTerm → Type 0
  Limits u x = Each (λ z. (t : PureTerm) → g.Given t → g.Ordered t z × g.Ordered z t) (limits_of u x)

  fits_by : (s u : PureSub) (t x : PureTerm) → Each g.Given (asked_of_new s t) → ZeroOrders g s → Each g.Side (sub_terms u) → Each g.Side (value_where_described u x) → Limits u x → EachQ (fits s t u x)
  fits_by (named p) (named q) t x given zero places described limits = other_shaped g p q (g.sides p q (g.given_side p given.0) places.0)
  fits_by (named p) (cell q) t x given zero places described limits = always_shaped
  fits_by (named p) shape t x given zero places described limits = unless_open p x (g.given_side p given.0) described.0
  fits_by (named p) bound t x given zero places described limits = always_shaped
  fits_by (named p) dom t x given zero places described limits = unless_open p x (g.given_side p given.0) described.0
  fits_by (named p) proto t x given zero places described limits = always_shaped
  fits_by (named p) gone t x given zero places described limits = tt
  fits_by (cell p) (named q) t x given zero places described limits = always_shaped
  fits_by (cell p) (cell q) t x given zero places described limits = other_shaped g p q (g.sides p q (g.given_side p given.0) places.0)
  fits_by (cell p) shape t x given zero places described limits = always_shaped
  fits_by (cell p) bound t x given zero places described limits = inside_shaped g p x (zero p given.0).1 (limits.0 p given.0).0
  fits_by (cell p) dom t x given zero places described limits = always_shaped
  fits_by (cell p) proto t x given zero places described limits = always_shaped
  fits_by (cell p) gone t x given zero places described limits = tt
  fits_by shape (named q) t x given zero places described limits = unless_open q t places.0 (g.given_side t given.0)
  fits_by shape (cell q) t x given zero places described limits = always_shaped
  fits_by shape shape t x given zero places described limits = tt
  fits_by shape bound t x given zero places described limits = tt
  fits_by shape dom t x given zero places described limits = tt
  fits_by shape proto t x given zero places described limits = always_shaped
  fits_by shape gone t x given zero places described limits = tt
  fits_by bound (named q) t x given zero places described limits = always_shaped
  fits_by bound (cell q) t x given zero places described limits = inside_shaped g q t (limits.0 zero_term given.1.0).0 (limits.0 t given.0).1
  fits_by bound shape t x given zero places described limits = tt
  fits_by bound bound t x given zero places described limits = tt
  fits_by bound dom t x given zero places described limits = tt
  fits_by bound proto t x given zero places described limits = always_shaped
  fits_by bound gone t x given zero places described limits = tt
  fits_by dom (named q) t x given zero places described limits = unless_open q t places.0 (g.given_side t given.0)
  fits_by dom (cell q) t x given zero places described limits = always_shaped
  fits_by dom shape t x given zero places described limits = tt
  fits_by dom bound t x given zero places described limits = tt
  fits_by dom dom t x given zero places described limits = tt
  fits_by dom proto t x given zero places described limits = always_shaped
  fits_by dom gone t x given zero places described limits = tt
  fits_by proto (named q) t x given zero places described limits = always_shaped
  fits_by proto (cell q) t x given zero places described limits = always_shaped
  fits_by proto shape t x given zero places described limits = always_shaped
  fits_by proto bound t x given zero places described limits = always_shaped
  fits_by proto dom t x given zero places described limits = always_shaped
  fits_by proto proto t x given zero places described limits = tt
  fits_by proto gone t x given zero places described limits = tt
  fits_by gone (named q) t x given zero places described limits = tt
  fits_by gone (cell q) t x given zero places described limits = tt
  fits_by gone shape t x given zero places described limits = tt
  fits_by gone bound t x given zero places described limits = tt
  fits_by gone dom t x given zero places described limits = tt
  fits_by gone proto t x given zero places described limits = tt
  fits_by gone gone t x given zero places described limits = tt

  module _ (n : PureChunk) (given_l : g.Given n.loc) (given : Each g.Given (asked_of_new n.sub n.val)) (zero : ZeroOrders g n.sub) where
    side_l : g.Side n.loc
    side_l = g.given_side n.loc given_l

    near_l : g.Near n.loc
    near_l = g.given_near n.loc given_l

    beside_shaped : (c : PureChunk) → ChunkSides g c → g.Near c.loc → EachQ (fits_beside n c)
    beside_shaped c sides near = fits_by n.sub c.sub n.val c.val given zero (sides.places near) (sides.described near) (sides.limits near)

    if_shaped : (b : Bool) (x : Alternatives) → EachQ x → EachQ (if b then never else x)
    if_shaped true x all = tt
    if_shaped false x all = all

    closed_shaped : (c : PureChunk) → ChunkSides g c → g.Near c.loc → EachQ (fits_closed n c)
    closed_shaped c sides near = if_shaped (has_open_names c.sub c.val) (fits_beside n c) (beside_shaped c sides near)

    -- ---- by itself

    names_shaped : (x : Alternatives) (d : PureTerm) → EachQ x → g.Given d → EachQ (are_names x d)
    names_shaped x (list_of ds) first given_d = distinct_shaped g x (to_list ds) first (g.given_elements ds given_d)
    names_shaped x (literal k) first given_d = both_shaped g x (of_kind (literal k) Kind.List) first (kind_shaped g (literal k) Kind.List given_d refl)
    names_shaped x (variable y) first given_d = both_shaped g x (of_kind (variable y) Kind.List) first (kind_shaped g (variable y) Kind.List given_d refl)
    names_shaped x (unary_of op y) first given_d = both_shaped g x (of_kind (unary_of op y) Kind.List) first (kind_shaped g (unary_of op y) Kind.List given_d refl)
    names_shaped x (binary_of op y z) first given_d = both_shaped g x (of_kind (binary_of op y z) Kind.List) first (kind_shaped g (binary_of op y z) Kind.List given_d refl)

    place_shaped : EachQ (of_kind n.loc Kind.Sym)
    place_shaped = kind_shaped g n.loc Kind.Sym given_l refl

    right_by : (s : PureSub) (t : PureTerm) → Each g.Given (asked_of_new s t) → EachQ (is_right n.loc s t)
    right_by (named p) t given_t = both_shaped g (of_kind n.loc Kind.Sym) (of_kind p Kind.Str) place_shaped (kind_shaped g p Kind.Str given_t.0 refl)
    right_by (cell i) t given_t = both_shaped g (of_kind n.loc Kind.Sym) (of_kind i Kind.Int) place_shaped (kind_shaped g i Kind.Int given_t.0 refl)
    right_by shape t given_t = names_shaped (of_kind n.loc Kind.Sym) t place_shaped given_t.0
    right_by bound t given_t = both_shaped g (of_kind n.loc Kind.Sym) (of_kind t Kind.Int) place_shaped (kind_shaped g t Kind.Int given_t.0 refl)
    right_by dom t given_t = names_shaped (of_kind n.loc Kind.Sym) t place_shaped given_t.0
    right_by proto t given_t = place_shaped
    right_by gone t given_t = place_shaped

    -- ---- branches

    module _ (cs : List PureChunk) (sides : Each (ChunkSides g) cs) where
      pub stand_shaped : EachQ (may_stand n (fits_beside n) cs)
      stand_shaped = both_shaped g (is_right n.loc n.sub n.val) (all_by_place n.loc (fits_beside n) cs) (right_by n.sub n.val given) (by_place_shaped g n.loc side_l near_l (fits_beside n) beside_shaped cs sides)

      pub stand_closed_shaped : EachQ (may_stand n (fits_closed n) cs)
      stand_closed_shaped = both_shaped g (is_right n.loc n.sub n.val) (all_by_place n.loc (fits_closed n) cs) (right_by n.sub n.val given) (by_place_shaped g n.loc side_l near_l (fits_closed n) closed_shaped cs sides)

      pub same_places : Each (λ c. EachQ (same n.loc c.loc)) cs
      same_places = each_to (ChunkSides g) (λ c. EachQ (same n.loc c.loc)) cs (λ c c_sides. loc_same g n.loc side_l near_l c c_sides) sides

      form_by : (c : PureChunk) → ChunkSides g c → (d : PureTerm) → (g.Near c.loc → is_list_term d ≡ false → is_literal d ≡ false → g.Q (opening d)) → EachQ (form_of d (same n.loc c.loc))
      form_by c c_sides d form =
          ⊎_elim
          (λ near. form_shaped g d (same n.loc c.loc) (form near) (loc_same g n.loc side_l near_l c c_sides))
          (λ e. subst (λ x. EachQ (form_of d x)) (sym e) (subst EachQ (sym (form_never g d)) tt))
          (loc_near_or_never g n.loc side_l near_l c c_sides)

      opened_by : (c : PureChunk) → ChunkSides g c → (s : PureSub) (d : PureTerm) → (g.Near c.loc → Each (λ t. is_list_term t ≡ false → is_literal t ≡ false → g.Q (opening t)) (value_where_described s d)) → EachQ (opened_there n.loc c.loc s d)
      opened_by c c_sides shape d forms = form_by c c_sides d (λ near. (forms near).0)
      opened_by c c_sides dom d forms = form_by c c_sides d (λ near. (forms near).0)
      opened_by c c_sides (named p) d forms = tt
      opened_by c c_sides (cell p) d forms = tt
      opened_by c c_sides bound d forms = tt
      opened_by c c_sides proto d forms = tt
      opened_by c c_sides gone d forms = tt

      each_opened : (ds : List PureChunk) → Each (ChunkSides g) ds → Each (ChunkForms g) ds → Each (λ c. EachQ (opened_at n.loc c)) ds
      each_opened [] all_sides forms = tt
      each_opened (c ∷ ds) all_sides forms = (opened_by c all_sides.0 c.sub c.val forms.0, each_opened ds all_sides.1 forms.1)

      unless_list_shaped : (d : PureTerm) (x : Alternatives) → (is_list_term d ≡ false → is_literal d ≡ false → g.Q (opening d)) → EachQ x → EachQ (opened_unless_list d x)
      unless_list_shaped (list_of ds) x form all = all
      unless_list_shaped (literal k) x form all = tt
      unless_list_shaped (variable y) x form all = form_shaped g (variable y) x form all
      unless_list_shaped (unary_of op y) x form all = form_shaped g (unary_of op y) x form all
      unless_list_shaped (binary_of op y z) x form all = form_shaped g (binary_of op y z) x form all

      module _ (state : IsFineState g cs) (fine_n : IsFine g n) (forms : Each (ChunkForms g) cs) (names : NamesOpen g n.sub n.val) where
        added_shaped : (x : Alternatives) → EachQ x → Each (Shaped g) (added n cs x)
        added_shaped x all = branches_shaped g x (cs ++ n ∷ []) (done true_term) all (each_append (IsFine g) cs (n ∷ []) state (fine_n, tt)) g.r_true

        at_shaped : (s : PureSub) → NamesOpen g s n.val → Each (Shaped g) (produced_at s n cs)
        at_shaped (named p) opens =
            each_append (Shaped g) (added n cs (may_stand n (fits_closed n) cs)) (added n cs (both (any (opened_at n.loc) cs) (may_stand n (fits_beside n) cs)))
            (added_shaped (may_stand n (fits_closed n) cs) stand_closed_shaped)
            (added_shaped (both (any (opened_at n.loc) cs) (may_stand n (fits_beside n) cs))
            (both_shaped g (any (opened_at n.loc) cs) (may_stand n (fits_beside n) cs) (any_shaped g (opened_at n.loc) cs (each_opened cs sides forms)) stand_shaped))
        at_shaped shape opens = added_shaped (opened_unless_list n.val (may_stand n (fits_beside n) cs)) (unless_list_shaped n.val (may_stand n (fits_beside n) cs) opens stand_shaped)
        at_shaped dom opens = added_shaped (opened_unless_list n.val (may_stand n (fits_beside n) cs)) (unless_list_shaped n.val (may_stand n (fits_beside n) cs) opens stand_shaped)
        at_shaped (cell i) opens = added_shaped (may_stand n (fits_beside n) cs) stand_shaped
        at_shaped bound opens = added_shaped (may_stand n (fits_beside n) cs) stand_shaped
        at_shaped proto opens = added_shaped (may_stand n (fits_beside n) cs) stand_shaped
        at_shaped gone opens = added_shaped (may_stand n (fits_beside n) cs) stand_shaped

        pub produced_shaped : Each (Shaped g) (produced n cs)
        produced_shaped = at_shaped n.sub names

-- ---- a term that surely is no list of names

module _ (g : Reading) (n : PureChunk) (cs : List PureChunk) where
  none_by : (d : PureTerm) → is_list_term d ≡ false → allows (known_kind d) Kind.List ≡ false → (l : PureTerm) (y : Alternatives) → opened_unless_list d (both (are_names (of_kind l Kind.Sym) d) y) ≡ never
  none_by (list_of ds) no_list wrong l y = absurd (true≢false no_list)
  none_by (literal k) no_list wrong l y = refl
  none_by (variable x) no_list wrong l y = ap (λ z. form_of (variable x) (both (both (of_kind l Kind.Sym) z) y)) (wrong_kind g (variable x) Kind.List wrong).0 ∙ ap (λ z. form_of (variable x) (both z y)) (both_never g (of_kind l Kind.Sym)) ∙ form_never g (variable x)
  none_by (unary_of op x) no_list wrong l y = ap (λ z. form_of (unary_of op x) (both (both (of_kind l Kind.Sym) z) y)) (wrong_kind g (unary_of op x) Kind.List wrong).0 ∙ ap (λ z. form_of (unary_of op x) (both z y)) (both_never g (of_kind l Kind.Sym)) ∙ form_never g (unary_of op x)
  none_by (binary_of op x z) no_list wrong l y = ap (λ u. form_of (binary_of op x z) (both (both (of_kind l Kind.Sym) u) y)) (wrong_kind g (binary_of op x z) Kind.List wrong).0 ∙ ap (λ u. form_of (binary_of op x z) (both u y)) (both_never g (of_kind l Kind.Sym)) ∙ form_never g (binary_of op x z)

  pub none_at_shape : is_list_term n.val ≡ false → allows (known_kind n.val) Kind.List ≡ false → added n cs (opened_unless_list n.val (both (are_names (of_kind n.loc Kind.Sym) n.val) (all_by_place n.loc (fits_beside n) cs))) ≡ []
  none_at_shape no_list wrong = ap (added n cs) (none_by n.val no_list wrong n.loc (all_by_place n.loc (fits_beside n) cs))
