-- The forms of the conditions that the actions of blocks ask, and what states and results are made of, for every reading.
use Rattle.std.proofs.Common.{◌≡◌, ◌⊎◌, ⊎_elim, inl, inr, ℕ, zero, suc, ◌+◌, ◌<◌, ◌≤◌, ℤ, pos, negsuc, List, [], ◌∷◌, ◌++◌, Bool, true, false, ◌&&◌, if◌then◌else◌, Option, Some, None, IsTrue, slice_get, refl, sym, ap, subst, ◌∙◌, true≢false, arith}
use Rattle.std.specs.List.{remove, list_any}
use Rattle.std.specs.Prelude.{⊤}
use Rattle.std.specs.Int.Signed.{le_z}
use Rattle.std.proofs.lemmas.Bool.{and_parts}
use Rattle.std.proofs.lemmas.Int.{ints}
use Rattle.gil_values.specs.declared.kinds.Kind.{Kind}
use Rattle.gil_values.specs.Pure.{integer}
use Rattle.mem_model.specs.declared.failures.Failure.{Failure}
use Rattle.mem_model.specs.Tables.{failure_text}
use Rattle.block_heap.specs.declared.actions.BlockAction.{BlockAction}
use Rattle.block_heap.specs.Table.{is_size, count_of}
use Rattle.block_sym.specs.Asking.{may_be_address, asked_parts, asked_of_address, asked_by}
use Rattle.block_sym.specs.Table.{number, is_whole, elsewhere, taken_whole, taken_by_bound, lacks_there, lacks, past_there, past, gone_case, cell_cases, unbounded_there, unbounded, cell_subs, bounded_there, bounded_from, free_cases, PureAction, at_cell, frees, act_there, by_parts, by_address, address_term, new_cells, created, make, wrong_number, branches_by, unknown_action, table}
use Rattle.pure_terms.specs.declared.literals.Literal.{Literal}
use Rattle.pure_terms.specs.declared.variables.Var.{Var}
use Rattle.pure_terms.specs.Kinds.{allows, known_kind}
use Rattle.pure_terms.specs.Pure.{PureTerm, literal, variable, list_of, unary_of, binary_of, PureTerms, to_list, opening}
use Rattle.sym_chunks.specs.ByPlace.{all_by_place, any_at}
use Rattle.sym_chunks.specs.Cases.{ChunkBranches, failure, true_term, PureCase, case_of, branches_of, choose, PureAccess, reads, writes, takes, found}
use Rattle.sym_chunks.specs.Forms.{form_of}
use Rattle.sym_chunks.specs.Keys.{same_sub, at_key}
use Rattle.sym_chunks.specs.Ordering.{inside}
use Rattle.sym_chunks.specs.Walking.{way_of, walk}
use Rattle.sym_model.specs.Alternatives.{Alternatives, never, always, both, any, is_empty, same, other, of_kind, not_of_kind}
use Rattle.sym_model.specs.Chunks.{value_where_described}
use Rattle.sym_model.specs.Cores.{zero_term}
use Rattle.sym_model.specs.Lists.{Each}
use Rattle.sym_model.specs.Pure.{PureSub, named, cell, shape, bound, dom, proto, gone, PureChunk, sub_terms, done, missed}
use Rattle.sym_model.specs.Terms.{is_literal, is_list_term}
use Rattle.sym_model.proofs.ChunkMeaning.{chunk_val}
use Rattle.sym_model.proofs.ListLaws.{each_append, each_to}
use Rattle.sym_chunks.proofs.CaseLaws.{none_chosen}
use Rattle.sym_chunks.proofs.Shapes.{Reading, ChunkSides, ChunkForms, IsFine, IsFineState, IsFineSub, IsFineWay, Shaped, EachAtom, limits_of, both_shaped, or_shaped, form_shaped, form_never, same_shaped, other_shaped, outside_shaped, inside_shaped, kind_shaped, not_kind_shaped, wrong_kind, any_shaped, both_never, ends_always, side_sub, literal_cell, loc_near_or_never, loc_same, key_shaped, by_place_shaped, any_at_shaped, IsFineCase, fine_case, branches_shaped, failure_shaped, surely_shaped, chosen_shaped, found_shaped, fine_chunk, way_without, walk_shaped, no_ways_walk}
use Rattle.block_sym.proofs.WholeBlocks.{each_elsewhere}

-- what a reading needs for the table of blocks
pub record FitsBlocks (g : Reading) : Type 0 where
  pub n_cell : (i t : PureTerm) → g.N (cell i) t
  pub n_bound : (n : ℤ) → g.N bound (number n)
  pub n_gone : g.N gone true_term
  pub m_cell : (i : PureTerm) → g.Missed (cell i)
  pub m_bound : g.Missed bound
  pub r_below : (n : ℤ) (k : ℕ) → g.R (number n) → k < count_of (integer n) → g.R (number (pos k))
  pub r_size : (k : ℕ) → k ≤ 10000 → g.R (number (pos k))
  pub r_address : (x : Var) → g.R (variable x) → g.R (address_term x)
  pub r_elements : (ts : PureTerms) → g.R (list_of ts) → Each g.R (to_list ts)

-- a size is a number from 0 up to the greatest
le_pos : (n : ℤ) → le_z (pos 0) n ≡ true → le_z n (pos 10000) ≡ true → (k : ℕ) × ((n ≡ pos k) × (k ≤ 10000))
le_pos (pos k) low high = (k, (refl, grind (arith, ints)))
le_pos (negsuc k) low high = absurd (true≢false (sym low))

pub size_number : (n : ℤ) → is_size n ≡ true → (k : ℕ) × ((n ≡ pos k) × (k ≤ 10000))
size_number n is = let parts = and_parts (le_z (pos 0) n) (le_z n (pos 10000)) is in le_pos n parts.0 parts.1

module _ (g : Reading) (fits : FitsBlocks g) where
  -- what is asked about: it is given, and ordered with what is given where it is a literal
  abbrev pub IsAsked : PureTerm → Type 0
  IsAsked z = g.Given z × (IsTrue (is_literal z) → (t : PureTerm) → g.Given t → g.Ordered t z × g.Ordered z t)

  module _ (cs : List PureChunk) (sides : Each (ChunkSides g) cs) (state : IsFineState g cs) where
    abbrev EachQ : Alternatives → Type 0
    EachQ x = EachAtom g.Q x

    abbrev Fine : List PureCase → Type 0
    Fine cases = Each (IsFineCase g) cases

    abbrev Shapes : ChunkBranches → Type 0
    Shapes bs = Each (Shaped g) bs

    each_at : (f : PureChunk → Alternatives) → ((c : PureChunk) → ChunkSides g c → EachQ (f c)) → EachQ (any f cs)
    each_at f is = any_shaped g f cs (each_to (ChunkSides g) (λ c. EachQ (f c)) cs is sides)

    failed_case : (when : Alternatives) (why : Failure) → EachQ when → Fine (case_of when cs (failure why))
    failed_case when why conds = fine_case g when cs (failure why) conds state (g.r_text (failure_text why))

    failed : (when : Alternatives) (why : Failure) → EachQ when → Shapes (branches_of when cs (failure why))
    failed when why conds = failure_shaped g when cs why conds state

    module _ (l : PureTerm) (given_l : g.Given l) (r_l : g.R l) where
      side_l : g.Side l
      side_l = g.given_side l given_l

      near_l : g.Near l
      near_l = g.given_near l given_l

      pub gone_shaped : Fine (gone_case l cs)
      gone_shaped = failed_case (any (at_key l gone) cs) Failure.Gone (each_at (at_key l gone) (λ c c_sides. key_shaped g l side_l near_l c c_sides gone (side_sub g gone tt)))

      -- ---- a cell

      module _ (i : PureTerm) (given_i : g.Given i) (r_i : g.R i) (zero_orders : (t : PureTerm) → g.Given t → g.Ordered t zero_term × g.Ordered zero_term t) where
        unless_shaped : (b : Bool) (x : Alternatives) → EachQ x → EachQ (if b then never else x)
        unless_shaped true x is = tt
        unless_shaped false x is = is

        lacks_by : (m : PureTerm) (s : PureSub) (t : PureTerm) → Each g.Side (sub_terms s) → Each (λ u. (w : PureTerm) → g.Given w → g.Ordered w u × g.Ordered u w) (limits_of s t) → EachQ (lacks_there cs m i s t)
        lacks_by m (cell o) t places limits = other_shaped g i o (g.sides i o (g.given_side i given_i) places.0)
        lacks_by m gone t places limits = tt
        lacks_by m bound t places limits = unless_shaped (is_whole m t cs) (inside i t) (inside_shaped g i t (zero_orders i given_i).1 (limits.0 i given_i).0)
        lacks_by m (named p) t places limits = (tt, tt)
        lacks_by m shape t places limits = (tt, tt)
        lacks_by m dom t places limits = (tt, tt)
        lacks_by m proto t places limits = (tt, tt)

        past_by : (s : PureSub) (t : PureTerm) → Each (λ u. (w : PureTerm) → g.Given w → g.Ordered w u × g.Ordered u w) (limits_of s t) → EachQ (past_there i s t)
        past_by bound t limits = outside_shaped g i t (zero_orders i given_i).0 (limits.0 i given_i).1
        past_by (cell o) t limits = tt
        past_by gone t limits = tt
        past_by (named p) t limits = tt
        past_by shape t limits = tt
        past_by dom t limits = tt
        past_by proto t limits = tt

        writes_by : (t : PureTerm) (s : PureSub) → (same_sub (cell i) s ≡ never) ⊎ g.N s t
        writes_by t (cell o) = inr (fits.n_cell o t)
        writes_by t (named p) = inl refl
        writes_by t shape = inl refl
        writes_by t bound = inl refl
        writes_by t dom = inl refl
        writes_by t proto = inl refl
        writes_by t gone = inl refl

        -- the cell is read, or written with a fine term
        abbrev IsFineUse : PureAccess → Type 0
        IsFineUse reads = Unit {0}
        IsFineUse (writes t) = g.R t
        IsFineUse takes = ⊥

        found_by : (a : PureAccess) → IsFineUse a → Fine (found a l (cell i) cs)
        found_by reads fine = found_shaped g reads l (cell i) side_l near_l (side_sub g (cell i) (g.given_side i given_i, tt)) tt cs state sides
        found_by (writes t) fine = found_shaped g (writes t) l (cell i) side_l near_l (side_sub g (cell i) (g.given_side i given_i, tt)) (fine, λ c. writes_by t c.sub) cs state sides
        found_by takes fine = absurd fine

        pub cell_shaped : (a : PureAccess) → IsFineUse a → Fine (cell_cases a l i cs)
        cell_shaped a fine =
            each_append (IsFineCase g) (found a l (cell i) cs) _ (found_by a fine)
            (each_append (IsFineCase g) (gone_case l cs) _ gone_shaped
            (each_append (IsFineCase g) (case_of (any_at l (past i) cs) cs (failure Failure.Bound)) _
            (failed_case (any_at l (past i) cs) Failure.Bound (any_at_shaped g l side_l near_l (past i) (λ c c_sides near. past_by c.sub c.val (c_sides.limits near)) cs sides))
            (fine_case g (all_by_place l (lacks cs i) cs) cs (missed (record { loc = l; sub = cell i }))
            (by_place_shaped g l side_l near_l (lacks cs i) (λ c c_sides near. lacks_by c.loc c.sub c.val (c_sides.places near) (c_sides.limits near)) cs sides)
            state (r_l, ((r_i, tt), fits.m_cell i)))))

      -- ---- `free`

      subs_fine : (n : ℤ) → g.R (number n) → (k m : ℕ) → k + m ≤ count_of (integer n) → Each (IsFineSub g) (cell_subs k m)
      subs_fine n r k zero within = tt
      subs_fine n r k (suc m) within =
          let r_k = fits.r_below n k r (omega (arith, within)) in
          ((literal_cell g (pos k) r_k, ((r_k, tt), fits.m_cell (number (pos k)))), subs_fine n r (k + 1) m (omega (arith, within)))

      opened_by : (c : PureChunk) → ChunkSides g c → ChunkForms g c → c.sub ≡ bound → Fine (case_of (form_of c.val (same l c.loc)) cs (done true_term))
      opened_by c c_sides c_forms is =
          ⊎_elim
          (λ near. fine_case g (form_of c.val (same l c.loc)) cs (done true_term) (form_shaped g c.val (same l c.loc) (bound_form c.sub is (c_forms near)) (loc_same g l side_l near_l c c_sides)) state g.r_true)
          (λ e. subst (λ x. Fine (case_of x cs (done true_term))) (sym (ap (form_of c.val) e ∙ form_never g c.val)) tt)
          (loc_near_or_never g l side_l near_l c c_sides)
        where
          bound_form : (s : PureSub) → s ≡ bound → Each (λ t. is_list_term t ≡ false → is_literal t ≡ false → g.Q (opening t)) (value_where_described s c.val) → is_list_term c.val ≡ false → is_literal c.val ≡ false → g.Q (opening c.val)
          bound_form bound e all = all.0
          bound_form (named p) e all = absurd (cc)
          bound_form (cell p) e all = absurd (cc)
          bound_form shape e all = absurd (cc)
          bound_form dom e all = absurd (cc)
          bound_form proto e all = absurd (cc)
          bound_form gone e all = absurd (cc)

      whole_taken : (c : PureChunk) → ChunkSides g c → IsFine g c → Fine (taken_whole l c.loc cs)
      whole_taken c c_sides fine =
          fine_case g (same l c.loc) (elsewhere c.loc cs ++ record { loc = c.loc; sub = gone; val = true_term } ∷ []) (done true_term) (loc_same g l side_l near_l c c_sides)
          (each_append (IsFine g) (elsewhere c.loc cs) (record { loc = c.loc; sub = gone; val = true_term } ∷ []) (each_elsewhere (IsFine g) c.loc cs state)
          (fine_chunk g (record { loc = c.loc; sub = gone; val = true_term }) fine.terms.places.0 tt g.r_true fits.n_gone, tt))
          g.r_true

      taken_by : (i : ℕ) (c : PureChunk) → ChunkSides g c → IsFine g c → (n : ℤ) → c.val ≡ number n → Fine (walk cs c.loc (cell_subs 0 (count_of (integer n))) (way_of (same l c.loc) (remove cs i)))
      taken_by i c c_sides fine n is =
          ⊎_elim
          (λ near. walk_shaped g fits.n_gone cs state c.loc (c_sides.loc near) near fine.terms.places.0 (cell_subs 0 (count_of (integer n)))
          (subs_fine n (subst g.R is (chunk_val g.R c fine.terms)) 0 (count_of (integer n)) (omega arith))
          (way_of (same l c.loc) (remove cs i)) (way_without g cs i (same l c.loc) (loc_same g l side_l near_l c c_sides) state sides))
          (λ e. subst (λ x. Fine (walk cs c.loc (cell_subs 0 (count_of (integer n))) (way_of x (remove cs i)))) (sym e) (subst Fine (sym (no_ways_walk g cs c.loc (cell_subs 0 (count_of (integer n))))) tt))
          (loc_near_or_never g l side_l near_l c c_sides)

      pub literal_taken : (i : ℕ) (c : PureChunk) → ChunkSides g c → IsFine g c → (n : ℤ) → c.val ≡ number n → (t : Bool) → Fine (taken_by_bound t l cs i c.loc n)
      literal_taken i c c_sides fine n is true = whole_taken c c_sides fine
      literal_taken i c c_sides fine n is false = taken_by i c c_sides fine n is

      there_shaped : (i : ℕ) (c : PureChunk) → ChunkSides g c → ChunkForms g c → IsFine g c → (s : PureSub) → c.sub ≡ s → (n : PureTerm) → c.val ≡ n → Fine (bounded_there l cs i c.loc s n)
      there_shaped i c c_sides c_forms fine bound is (literal (Literal.Int n)) val = literal_taken i c c_sides fine n val (is_whole c.loc (number n) cs)
      there_shaped i c c_sides c_forms fine bound is (literal (Literal.Bool n)) val = tt
      there_shaped i c c_sides c_forms fine bound is (literal (Literal.Str n)) val = tt
      there_shaped i c c_sides c_forms fine bound is (literal (Literal.Kind n)) val = tt
      there_shaped i c c_sides c_forms fine bound is (literal (Literal.Proc n)) val = tt
      there_shaped i c c_sides c_forms fine bound is (list_of ts) val = tt
      there_shaped i c c_sides c_forms fine bound is (variable x) val = subst (λ t. Fine (case_of (form_of t (same l c.loc)) cs (done true_term))) val (opened_by c c_sides c_forms is)
      there_shaped i c c_sides c_forms fine bound is (unary_of op t) val = subst (λ u. Fine (case_of (form_of u (same l c.loc)) cs (done true_term))) val (opened_by c c_sides c_forms is)
      there_shaped i c c_sides c_forms fine bound is (binary_of op t u) val = subst (λ w. Fine (case_of (form_of w (same l c.loc)) cs (done true_term))) val (opened_by c c_sides c_forms is)
      there_shaped i c c_sides c_forms fine (named p) is n val = tt
      there_shaped i c c_sides c_forms fine (cell p) is n val = tt
      there_shaped i c c_sides c_forms fine shape is n val = tt
      there_shaped i c c_sides c_forms fine dom is n val = tt
      there_shaped i c c_sides c_forms fine proto is n val = tt
      there_shaped i c c_sides c_forms fine gone is n val = tt

      from_shaped : (i : ℕ) (ds : List PureChunk) → Each (ChunkSides g) ds → Each (ChunkForms g) ds → Each (IsFine g) ds → Fine (bounded_from l cs i ds)
      from_shaped i [] all_sides all_forms fine = tt
      from_shaped i (c ∷ ds) all_sides all_forms fine =
          each_append (IsFineCase g) (bounded_there l cs i c.loc c.sub c.val) (bounded_from l cs (i + 1) ds)
          (there_shaped i c all_sides.0 all_forms.0 fine.0 c.sub refl c.val refl) (from_shaped (i + 1) ds all_sides.1 all_forms.1 fine.1)

      pub unbounded_by : (s : PureSub) → EachQ (unbounded_there s)
      unbounded_by bound = tt
      unbounded_by gone = tt
      unbounded_by (cell o) = (tt, tt)
      unbounded_by (named p) = (tt, tt)
      unbounded_by shape = (tt, tt)
      unbounded_by dom = (tt, tt)
      unbounded_by proto = (tt, tt)

      pub free_shaped : Each (ChunkForms g) cs → Fine (free_cases l cs)
      free_shaped forms =
          each_append (IsFineCase g) (gone_case l cs) _ gone_shaped
          (each_append (IsFineCase g) (bounded_from l cs 0 cs) _ (from_shaped 0 cs sides forms state)
          (fine_case g (all_by_place l unbounded cs) cs (missed (record { loc = l; sub = bound }))
          (by_place_shaped g l side_l near_l unbounded (λ c c_sides near. unbounded_by c.sub) cs sides) state (r_l, (tt, fits.m_bound))))

      -- ---- at an address

      module _ (i : PureTerm) (given_i : g.Given i) (r_i : g.R i) (zero_asked : IsAsked zero_term) (when : Alternatives) (conds : EachQ when) where
        abbrev IsFineAction : PureAction → Type 0
        IsFineAction (at_cell a) = IsFineUse i given_i r_i (zero_asked.1 refl) a
        IsFineAction frees = Unit {0}

        pub act_shaped : Each (ChunkForms g) cs → (action : PureAction) → IsFineAction action → Shapes (act_there action when l i cs)
        act_shaped forms (at_cell a) fine = chosen_shaped g when conds (cell_cases a l i cs) (cell_shaped i given_i r_i (zero_asked.1 refl) a fine)
        act_shaped forms frees fine =
            let may = g.sides i zero_term (g.given_side i given_i) (g.given_side zero_term zero_asked.0) in
            each_append (Shaped g) (branches_of (both when (other i zero_term)) cs (failure Failure.Free)) (choose (both when (same i zero_term)) (free_cases l cs))
            (failed (both when (other i zero_term)) Failure.Free (both_shaped g when (other i zero_term) conds (other_shaped g i zero_term may)))
            (chosen_shaped g (both when (same i zero_term)) (both_shaped g when (same i zero_term) conds (same_shaped g i zero_term may)) (free_cases l cs) (free_shaped forms))

    -- an action that stores a fine term, or none
    abbrev Stores : PureAction → Type 0
    Stores (at_cell reads) = Unit {0}
    Stores (at_cell (writes t)) = g.R t
    Stores (at_cell takes) = ⊥
    Stores frees = Unit {0}

    never_there : (action : PureAction) (l i : PureTerm) → Shapes (act_there action never l i cs)
    never_there (at_cell a) l i = none_chosen (Shaped g) (cell_cases a l i cs)
    never_there frees l i = none_chosen (Shaped g) (free_cases l cs)

    wrong_parts : (l i : PureTerm) (a b : Bool) → allows (known_kind l) Kind.Sym ≡ a → allows (known_kind i) Kind.Int ≡ b → (a && b) ≡ false
        → (both (of_kind l Kind.Sym) (of_kind i Kind.Int) ≡ never) × (list_any is_empty (not_of_kind l Kind.Sym ++ not_of_kind i Kind.Int) ≡ true)
    wrong_parts l i false b is_a is_b wrong =
        (ap (λ x. both x (of_kind i Kind.Int)) (wrong_kind g l Kind.Sym is_a).0, ap (λ x. list_any is_empty (x ++ not_of_kind i Kind.Int)) (wrong_kind g l Kind.Sym is_a).1)
    wrong_parts l i true false is_a is_b wrong = (
      ap (both (of_kind l Kind.Sym)) (wrong_kind g i Kind.Int is_b).0 ∙ both_never g (of_kind l Kind.Sym),
      ap (λ x. list_any is_empty (not_of_kind l Kind.Sym ++ x)) (wrong_kind g i Kind.Int is_b).1 ∙ ends_always g (not_of_kind l Kind.Sym),
    )
    wrong_parts l i true true is_a is_b wrong = absurd (true≢false wrong)

    module _ (forms : Each (ChunkForms g) cs) (action : PureAction) (stores : Stores action) where
      fine_action : (l : PureTerm) (given_l : g.Given l) (r_l : g.R l) (i : PureTerm) (given_i : g.Given i) (r_i : g.R i) (zero_asked : IsAsked zero_term) (when : Alternatives) (conds : EachQ when) (a : PureAction) → Stores a → Shapes (act_there a when l i cs)
      fine_action l given_l r_l i given_i r_i zero_asked when conds (at_cell reads) is = act_shaped l given_l r_l i given_i r_i zero_asked when conds forms (at_cell reads) tt
      fine_action l given_l r_l i given_i r_i zero_asked when conds (at_cell (writes t)) is = act_shaped l given_l r_l i given_i r_i zero_asked when conds forms (at_cell (writes t)) is
      fine_action l given_l r_l i given_i r_i zero_asked when conds (at_cell takes) is = absurd is
      fine_action l given_l r_l i given_i r_i zero_asked when conds frees is = act_shaped l given_l r_l i given_i r_i zero_asked when conds forms frees tt

      parts_by : (us : PureTerms) (l i : PureTerm) → Each g.Given (l ∷ i ∷ []) → Each g.R (l ∷ i ∷ []) → IsAsked zero_term
          → Shapes (branches_of (not_of_kind l Kind.Sym ++ not_of_kind i Kind.Int) cs (failure Failure.Kind) ++ act_there action (both (of_kind l Kind.Sym) (of_kind i Kind.Int)) l i cs)
      parts_by us l i all_given all_r zero_asked =
          each_append (Shaped g) (branches_of (not_of_kind l Kind.Sym ++ not_of_kind i Kind.Int) cs (failure Failure.Kind)) (act_there action (both (of_kind l Kind.Sym) (of_kind i Kind.Int)) l i cs)
          (failed (not_of_kind l Kind.Sym ++ not_of_kind i Kind.Int) Failure.Kind (or_shaped g (not_of_kind l Kind.Sym) (not_of_kind i Kind.Int) (not_kind_shaped g l Kind.Sym all_given.0 refl) (not_kind_shaped g i Kind.Int all_given.1.0 refl)))
          (fine_action l all_given.0 all_r.0 i all_given.1.0 all_r.1.0 zero_asked (both (of_kind l Kind.Sym) (of_kind i Kind.Int))
          (both_shaped g (of_kind l Kind.Sym) (of_kind i Kind.Int) (kind_shaped g l Kind.Sym all_given.0 refl) (kind_shaped g i Kind.Int all_given.1.0 refl)) action stores)

      two_parts : (us : PureTerms) (l i : PureTerm) → to_list us ≡ l ∷ i ∷ [] → (b : Bool) → may_be_address l i ≡ b → Each IsAsked (if b then list_of us ∷ zero_term ∷ [] else []) → Each g.R (l ∷ i ∷ [])
          → Shapes (branches_of (not_of_kind l Kind.Sym ++ not_of_kind i Kind.Int) cs (failure Failure.Kind) ++ act_there action (both (of_kind l Kind.Sym) (of_kind i Kind.Int)) l i cs)
      two_parts us l i e true may asked all_r = parts_by us l i (subst (Each g.Given) e (g.given_elements us asked.0.0)) all_r asked.1.0
      two_parts us l i e false may asked all_r =
          let wrong = wrong_parts l i (allows (known_kind l) Kind.Sym) (allows (known_kind i) Kind.Int) refl refl may in
          each_append (Shaped g) (branches_of (not_of_kind l Kind.Sym ++ not_of_kind i Kind.Int) cs (failure Failure.Kind)) (act_there action (both (of_kind l Kind.Sym) (of_kind i Kind.Int)) l i cs)
          (surely_shaped g (not_of_kind l Kind.Sym ++ not_of_kind i Kind.Int) cs (failure Failure.Kind) wrong.1 state (g.r_text (failure_text Failure.Kind)))
          (subst (λ x. Shapes (act_there action x l i cs)) (sym wrong.0) (never_there action l i))

      parts_shaped : (us : PureTerms) (ts : List PureTerm) → to_list us ≡ ts → Each IsAsked (asked_parts us ts) → Each g.R ts → Shapes (by_parts action ts cs)
      parts_shaped us (l ∷ i ∷ []) e asked all_r = two_parts us l i e (may_be_address l i) refl asked all_r
      parts_shaped us [] e asked all_r = failed always Failure.Kind (tt, tt)
      parts_shaped us (l ∷ []) e asked all_r = failed always Failure.Kind (tt, tt)
      parts_shaped us (l ∷ i ∷ t ∷ more) e asked all_r = failed always Failure.Kind (tt, tt)

      -- an address that is no list term
      unknown_by : (a : PureTerm) (b : Bool) → allows (known_kind a) Kind.List ≡ b → Each IsAsked (if b then a ∷ [] else []) → (is_list_term a ≡ false → is_literal a ≡ false → (allows (known_kind a) Kind.List ≡ false) ⊎ g.Q (opening a))
          → Shapes (branches_of (not_of_kind a Kind.List) cs (failure Failure.Kind) ++ branches_of (form_of a (of_kind a Kind.List)) cs (done true_term))
      unknown_by a true may asked form =
          each_append (Shaped g) (branches_of (not_of_kind a Kind.List) cs (failure Failure.Kind)) (branches_of (form_of a (of_kind a Kind.List)) cs (done true_term))
          (failed (not_of_kind a Kind.List) Failure.Kind (not_kind_shaped g a Kind.List asked.0.0 refl))
          (branches_shaped g (form_of a (of_kind a Kind.List)) cs (done true_term)
          (form_shaped g a (of_kind a Kind.List) (λ no_list no_literal. ⊎_elim (λ never_list. absurd (true≢false (sym may ∙ never_list))) (λ q. q) (form no_list no_literal)) (kind_shaped g a Kind.List asked.0.0 refl)) state g.r_true)
      unknown_by a false may asked form =
          let wrong = wrong_kind g a Kind.List may in
          each_append (Shaped g) (branches_of (not_of_kind a Kind.List) cs (failure Failure.Kind)) (branches_of (form_of a (of_kind a Kind.List)) cs (done true_term))
          (surely_shaped g (not_of_kind a Kind.List) cs (failure Failure.Kind) (ap (list_any is_empty) wrong.1) state (g.r_text (failure_text Failure.Kind)))
          (subst (λ x. Shapes (branches_of (form_of a x) cs (done true_term))) (sym wrong.0) (subst (λ x. Shapes (branches_of x cs (done true_term))) (sym (form_never g a)) tt))

      pub address_shaped : (a : PureTerm) → Each IsAsked (asked_of_address a) → g.R a → (is_list_term a ≡ false → is_literal a ≡ false → (allows (known_kind a) Kind.List ≡ false) ⊎ g.Q (opening a)) → Shapes (by_address action a cs)
      address_shaped (list_of ts) asked r form = parts_shaped ts (to_list ts) refl asked (fits.r_elements ts r)
      address_shaped (literal k) asked r form = unknown_by (literal k) (allows (known_kind (literal k)) Kind.List) refl asked form
      address_shaped (variable x) asked r form = unknown_by (variable x) (allows (known_kind (variable x)) Kind.List) refl asked form
      address_shaped (unary_of op t) asked r form = unknown_by (unary_of op t) (allows (known_kind (unary_of op t)) Kind.List) refl asked form
      address_shaped (binary_of op s t) asked r form = unknown_by (binary_of op s t) (allows (known_kind (binary_of op s t)) Kind.List) refl asked form

    -- ---- `alloc`

    cells_fine : (x : Var) → g.R (variable x) → (k m : ℕ) → k + m ≤ 10000 → Each (IsFine g) (new_cells x k m)
    cells_fine x r_x k zero within = tt
    cells_fine x r_x k (suc m) within = (
      fine_chunk g (record { loc = variable x; sub = cell (number (pos k)); val = zero_term }) r_x (fits.r_size k (omega (arith, within)), tt) (fits.r_size 0 (omega arith)) (fits.n_cell (number (pos k)) zero_term),
      cells_fine x r_x (k + 1) m (omega (arith, within)),
    )

    created_fine : (x : Var) → g.R (variable x) → (n : ℤ) → is_size n ≡ true → IsFineState g (created x n cs)
    created_fine x r_x n is =
        let (k, (e, within)) = size_number n is in
        each_append (IsFine g) (cs ++ new_cells x 0 (count_of (integer n))) (record { loc = variable x; sub = bound; val = number n } ∷ [])
        (each_append (IsFine g) cs (new_cells x 0 (count_of (integer n))) state (subst (λ z. Each (IsFine g) (new_cells x 0 (count_of (integer z)))) (sym e) (cells_fine x r_x 0 k (omega (arith, within)))))
        (fine_chunk g (record { loc = variable x; sub = bound; val = number n }) r_x tt (subst (λ z. g.R (number z)) (sym e) (fits.r_size k within)) (fits.n_bound n), tt)

    sized_by : (x : Var) → g.R (variable x) → (n : ℤ) (b : Bool) → is_size n ≡ b → Shapes (if b then branches_of always (created x n cs) (done (address_term x)) else branches_of always cs (failure Failure.Size))
    sized_by x r_x n true is = branches_shaped g always (created x n cs) (done (address_term x)) (tt, tt) (created_fine x r_x n is) (fits.r_address x r_x)
    sized_by x r_x n false is = failed always Failure.Size (tt, tt)

    unsized_by : (x : Var) → g.R (variable x) → (n : PureTerm) (b : Bool) → allows (known_kind n) Kind.Int ≡ b → Each IsAsked (if b then n ∷ [] else []) → (is_list_term n ≡ false → is_literal n ≡ false → (allows (known_kind n) Kind.Int ≡ false) ⊎ g.Q (opening n))
        → Shapes (branches_of (not_of_kind n Kind.Int) cs (failure Failure.Kind) ++ branches_of (form_of n (of_kind n Kind.Int)) cs (done (address_term x)))
    unsized_by x r_x n true may asked form =
        each_append (Shaped g) (branches_of (not_of_kind n Kind.Int) cs (failure Failure.Kind)) (branches_of (form_of n (of_kind n Kind.Int)) cs (done (address_term x)))
        (failed (not_of_kind n Kind.Int) Failure.Kind (not_kind_shaped g n Kind.Int asked.0.0 refl))
        (branches_shaped g (form_of n (of_kind n Kind.Int)) cs (done (address_term x))
        (form_shaped g n (of_kind n Kind.Int) (λ no_list no_literal. ⊎_elim (λ never_number. absurd (true≢false (sym may ∙ never_number))) (λ q. q) (form no_list no_literal)) (kind_shaped g n Kind.Int asked.0.0 refl)) state (fits.r_address x r_x))
    unsized_by x r_x n false may asked form =
        let wrong = wrong_kind g n Kind.Int may in
        each_append (Shaped g) (branches_of (not_of_kind n Kind.Int) cs (failure Failure.Kind)) (branches_of (form_of n (of_kind n Kind.Int)) cs (done (address_term x)))
        (surely_shaped g (not_of_kind n Kind.Int) cs (failure Failure.Kind) (ap (list_any is_empty) wrong.1) state (g.r_text (failure_text Failure.Kind)))
        (subst (λ y. Shapes (branches_of (form_of n y) cs (done (address_term x)))) (sym wrong.0) (subst (λ y. Shapes (branches_of y cs (done (address_term x)))) (sym (form_never g n)) tt))

    make_shaped : (x : Var) → g.R (variable x) → (n : PureTerm) → Each IsAsked (if allows (known_kind n) Kind.Int then n ∷ [] else []) → (is_list_term n ≡ false → is_literal n ≡ false → (allows (known_kind n) Kind.Int ≡ false) ⊎ g.Q (opening n)) → Shapes (make x n cs)
    make_shaped x r_x (literal (Literal.Int n)) asked form = sized_by x r_x n (is_size n) refl
    make_shaped x r_x (literal (Literal.Bool b)) asked form = unsized_by x r_x (literal (Literal.Bool b)) _ refl asked form
    make_shaped x r_x (literal (Literal.Str b)) asked form = unsized_by x r_x (literal (Literal.Str b)) _ refl asked form
    make_shaped x r_x (literal (Literal.Kind b)) asked form = unsized_by x r_x (literal (Literal.Kind b)) _ refl asked form
    make_shaped x r_x (literal (Literal.Proc b)) asked form = unsized_by x r_x (literal (Literal.Proc b)) _ refl asked form
    make_shaped x r_x (variable y) asked form = unsized_by x r_x (variable y) _ refl asked form
    make_shaped x r_x (list_of ts) asked form = unsized_by x r_x (list_of ts) _ refl asked form
    make_shaped x r_x (unary_of op t) asked form = unsized_by x r_x (unary_of op t) _ refl asked form
    make_shaped x r_x (binary_of op s t) asked form = unsized_by x r_x (binary_of op s t) _ refl asked form

    -- ---- every action

    number_shaped : Shapes (wrong_number cs)
    number_shaped = failed always Failure.Arity (tt, tt)

    -- the literal form of an argument, where it may be of the kind
    abbrev pub OpenIf : Kind → PureTerm → Type 0
    OpenIf k a = is_list_term a ≡ false → is_literal a ≡ false → (allows (known_kind a) k ≡ false) ⊎ g.Q (opening a)

    abbrev pub FormOf : Option BlockAction → List PureTerm → Type 0
    FormOf (Some BlockAction.Alloc) (n ∷ []) = OpenIf Kind.Int n
    FormOf (Some BlockAction.Load) (a ∷ []) = OpenIf Kind.List a
    FormOf (Some BlockAction.Store) (a ∷ t ∷ []) = OpenIf Kind.List a
    FormOf (Some BlockAction.Free) (a ∷ []) = OpenIf Kind.List a
    FormOf o args = ⊤

    by_action : Each (ChunkForms g) cs → (op : BlockAction) (fresh : Option Var) (args : List PureTerm) → ((x : Var) → fresh ≡ Some x → g.R (variable x)) → Each IsAsked (asked_by (Some op) args) → Each g.R args → FormOf (Some op) args → Shapes (branches_by op fresh args cs)
    by_action forms BlockAction.Alloc (Some x) (n ∷ []) r_x asked all_r form = make_shaped x (r_x x refl) n asked form
    by_action forms BlockAction.Alloc None (n ∷ []) r_x asked all_r form = tt
    by_action forms BlockAction.Alloc (Some x) [] r_x asked all_r form = number_shaped
    by_action forms BlockAction.Alloc None [] r_x asked all_r form = number_shaped
    by_action forms BlockAction.Alloc (Some x) (n ∷ t ∷ more) r_x asked all_r form = number_shaped
    by_action forms BlockAction.Alloc None (n ∷ t ∷ more) r_x asked all_r form = number_shaped
    by_action forms BlockAction.Load fresh (a ∷ []) r_x asked all_r form = address_shaped forms (at_cell reads) tt a asked all_r.0 form
    by_action forms BlockAction.Load fresh [] r_x asked all_r form = number_shaped
    by_action forms BlockAction.Load fresh (a ∷ t ∷ more) r_x asked all_r form = number_shaped
    by_action forms BlockAction.Store fresh (a ∷ t ∷ []) r_x asked all_r form = address_shaped forms (at_cell (writes t)) all_r.1.0 a asked all_r.0 form
    by_action forms BlockAction.Store fresh [] r_x asked all_r form = number_shaped
    by_action forms BlockAction.Store fresh (a ∷ []) r_x asked all_r form = number_shaped
    by_action forms BlockAction.Store fresh (a ∷ t ∷ s ∷ more) r_x asked all_r form = number_shaped
    by_action forms BlockAction.Free fresh (a ∷ []) r_x asked all_r form = address_shaped forms frees tt a asked all_r.0 form
    by_action forms BlockAction.Free fresh [] r_x asked all_r form = number_shaped
    by_action forms BlockAction.Free fresh (a ∷ t ∷ more) r_x asked all_r form = number_shaped

    pub table_shaped : Each (ChunkForms g) cs → (o : Option BlockAction) (fresh : Option Var) (args : List PureTerm) → ((x : Var) → fresh ≡ Some x → g.R (variable x)) → Each IsAsked (asked_by o args) → Each g.R args → FormOf o args → Shapes (table o fresh args cs)
    table_shaped forms None fresh args r_x asked all_r form = failed always Failure.Action (tt, tt)
    table_shaped forms (Some op) fresh args r_x asked all_r form = by_action forms op fresh args r_x asked all_r form
