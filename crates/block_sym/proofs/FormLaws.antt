-- A branch needs the literal form of a term only where the action depends on it.
use Rattle.std.proofs.Common.{◌≡◌, ◌⊎◌, ⊎_elim, inl, inr, ℕ, zero, suc, ◌+◌, ℤ, pos, List, [], ◌∷◌, ◌++◌, map, Bool, true, false, if◌then◌else◌, Option, Some, None, IsTrue, slice_get, refl, sym, ap, subst, ◌∙◌, arith}
use Rattle.std.specs.List.{remove}
use Rattle.std.specs.Prelude.{⊤}
use Rattle.std.specs.Option.{option_map}
use Rattle.gil_values.specs.declared.kinds.Kind.{Kind}
use Rattle.gil_values.specs.Pure.{PureValue, integer, symbol, list, from_list as list_values, kind_of}
use Rattle.gil_values.proofs.OperatorSymbols.{none_contained}
use Rattle.mem_model.specs.declared.failures.Failure.{Failure}
use Rattle.mem_model.specs.declared.keys.MemoryName.TheVariants.{Block}
use Rattle.mem_model.specs.Heaps.{Heap}
use Rattle.block_heap.specs.declared.actions.BlockAction.{BlockAction}
use Rattle.block_heap.specs.Table.{address, is_size, count_of}
use Rattle.block_sym.specs.Asking.{IsGivenOf, IsBoundOf, DependsOn}
use Rattle.block_sym.specs.Table.{number, is_whole, taken_by_bound, lacks_there, lacks, past_there, past, gone_case, unfound_cases, cell_cases, unbounded_there, unbounded, cell_subs, bounded_there, bounded_from, free_cases, PureAction, at_cell, frees, act_there, by_parts, by_address, address_term, created, make, wrong_number, branches_by, table}
use Rattle.pure_terms.specs.declared.literals.Literal.{Literal}
use Rattle.pure_terms.specs.declared.variables.Sort.{Sort}
use Rattle.pure_terms.specs.declared.variables.Var.{Var}
use Rattle.pure_terms.specs.Meaning.{both as value_and, value, values, IsProper, IsOver}
use Rattle.pure_terms.specs.Pure.{PureTerm, literal, variable, list_of, unary_of, binary_of, PureTerms, no_terms, term_and, to_list, from_list, PureAtom}
use Rattle.sym_chunks.specs.ByPlace.{all_by_place, any_at}
use Rattle.sym_chunks.specs.Cases.{failure, true_term, PureCase, case_of, branches_of, choose, PureAccess, reads, writes, takes, found_from, found, accessed, given_back}
use Rattle.sym_chunks.specs.Forms.{form_of}
use Rattle.sym_chunks.specs.Keys.{other_sub, at_key}
use Rattle.sym_chunks.specs.Laws.{IsLocation}
use Rattle.sym_chunks.specs.Walking.{way_of, walk}
use Rattle.sym_model.specs.Alternatives.{Alternatives, Hold, always, both, any, same, other, of_kind, not_of_kind}
use Rattle.sym_model.specs.ConditionLaws.{HaveBoth}
use Rattle.sym_model.proofs.Combined.{both_parts}
use Rattle.sym_model.proofs.Telling.{same_tells, of_kind_tells}
use Rattle.sym_model.specs.Chunks.{StandFor, with_held, terms_of}
use Rattle.sym_model.specs.Cores.{zero_term}
use Rattle.sym_model.specs.Forms.{OpensOnly, OpenWhatMatters}
use Rattle.sym_model.specs.Laws.{Serves}
use Rattle.sym_model.specs.Lists.{Each, OneOf}
use Rattle.sym_model.specs.Meaning.{location_of}
use Rattle.sym_model.specs.Pure.{PureSub, named, cell, shape, bound, dom, proto, gone, PureChunk, PureResult, done, missed}
use Rattle.sym_model.specs.Terms.{all_of}
use Rattle.sym_model.proofs.Asking.{both_parts as value_parts}
use Rattle.sym_model.proofs.ChunkMeaning.{ChunkTerms, chunk_by_chunk}
use Rattle.sym_model.proofs.ListLaws.{same_some, not_none, each_append, each_left, each_right, each_to, each_at, one_at}
use Rattle.sym_chunks.proofs.CaseLaws.{each_every}
use Rattle.sym_chunks.proofs.Facts.{Fact, each_fact, fact_loc, loc_tells, same_integers}
use Rattle.sym_chunks.proofs.Opening.{OpenFor, Opens, closed_open, form_open, branches_open, case_open, chosen_open}
use Rattle.sym_chunks.proofs.Readings.{NoOpen, positive_closed, negative_closed, loose_state, closed_reading, closed_sides, over_elements}
use Rattle.sym_chunks.proofs.Shapes.{EachAtom, IsFineCase, IsFineState, IsFine, IsFineSub, IsFineWay, both_shaped, or_shaped, same_shaped, other_shaped, kind_shaped, not_kind_shaped, by_place_shaped}
use Rattle.block_sym.proofs.Arguments.{values_one, values_two, symbol_or_not, number_or_not}
use Rattle.block_sym.proofs.BlockShapes.{FitsBlocks, cell_shaped, gone_shaped, literal_taken, unbounded_by}

-- ---- what needs no form

fits_closed : FitsBlocks closed_reading
fits_closed = record {
  n_cell = λ i t. tt;
  n_bound = λ n. tt;
  n_gone = tt;
  m_cell = λ i. tt;
  m_bound = tt;
  r_below = λ n k r below. tt;
  r_size = λ k within. tt;
  r_address = λ x r. tt;
  r_elements = λ ts r. each_every (λ t. ⊤) (λ t. tt) (to_list ts);
}

closed_state : (cs : List PureChunk) → IsFineState closed_reading cs
closed_state cs = loose_state NoOpen positive_closed negative_closed (λ s t. ⊤) (λ s. ⊤) cs (each_every (λ c. ⊤) (λ c. tt) cs)

module _ (v : List PureValue) (D : PureTerm → Type 0) (cs : List PureChunk) where
  from_fine : (cases : List PureCase) → Each (IsFineCase closed_reading) cases → Each (λ c. OpenFor v D c.when) cases
  from_fine cases fine = each_to (IsFineCase closed_reading) (λ c. OpenFor v D c.when) cases (λ c is. closed_open v D c.when is.when) fine

  closed_branches : (when : Alternatives) (r : PureResult) → EachAtom NoOpen when → Each (Opens v D) (branches_of when cs r)
  closed_branches when r closed = branches_open v D when cs r (closed_open v D when closed)

  cell_open : (l i : PureTerm) (a : PureAccess) → ¬ (a ≡ takes) → Each (λ c. OpenFor v D c.when) (cell_cases a l i cs)
  cell_open l i reads differ = from_fine (cell_cases reads l i cs) (cell_shaped closed_reading fits_closed cs (closed_sides cs) (closed_state cs) l tt tt i tt tt (λ t given. (tt, tt)) reads tt)
  cell_open l i (writes t) differ = from_fine (cell_cases (writes t) l i cs) (cell_shaped closed_reading fits_closed cs (closed_sides cs) (closed_state cs) l tt tt i tt tt (λ t given. (tt, tt)) (writes t) tt)
  cell_open l i takes differ = absurd (differ refl)

  gone_open : (l : PureTerm) → Each (λ c. OpenFor v D c.when) (gone_case l cs)
  gone_open l = from_fine (gone_case l cs) (gone_shaped closed_reading fits_closed cs (closed_sides cs) (closed_state cs) l tt tt)

  -- ---- `free`

  module _ (l : PureTerm) (is_bound : (i : ℕ) (c : PureChunk) → slice_get cs i ≡ Some c → c.sub ≡ bound → Hold v (same l c.loc) → D c.val) where
    opened_here : (i : ℕ) (c : PureChunk) → slice_get cs i ≡ Some c → c.sub ≡ bound → (n : PureTerm) → c.val ≡ n → Each (λ d. OpenFor v D d.when) (case_of (form_of n (same l c.loc)) cs (done true_term))
    opened_here i c there is n val =
        case_open v D (form_of n (same l c.loc)) cs (done true_term)
        (form_open v D n (same l c.loc) (λ holds. subst D val (is_bound i c there is holds)) (same_shaped closed_reading l c.loc tt))

    there_open : (i : ℕ) (c : PureChunk) → slice_get cs i ≡ Some c → (s : PureSub) → c.sub ≡ s → (n : PureTerm) → c.val ≡ n → Each (λ d. OpenFor v D d.when) (bounded_there l cs i c.loc s n)
    there_open i c there bound is (literal (Literal.Int n)) val = from_fine (taken_by_bound (is_whole c.loc (number n) cs) l cs i c.loc n) (literal_taken closed_reading fits_closed cs (closed_sides cs) (closed_state cs) l tt tt i c (each_at _ cs i c (closed_sides cs) there) (each_at _ cs i c (closed_state cs) there) n val (is_whole c.loc (number n) cs))
    there_open i c there bound is (literal (Literal.Bool n)) val = tt
    there_open i c there bound is (literal (Literal.Str n)) val = tt
    there_open i c there bound is (literal (Literal.Kind n)) val = tt
    there_open i c there bound is (literal (Literal.Proc n)) val = tt
    there_open i c there bound is (list_of ts) val = tt
    there_open i c there bound is (variable x) val = opened_here i c there is (variable x) val
    there_open i c there bound is (unary_of op t) val = opened_here i c there is (unary_of op t) val
    there_open i c there bound is (binary_of op s t) val = opened_here i c there is (binary_of op s t) val
    there_open i c there (named p) is n val = tt
    there_open i c there (cell p) is n val = tt
    there_open i c there shape is n val = tt
    there_open i c there dom is n val = tt
    there_open i c there proto is n val = tt
    there_open i c there gone is n val = tt

    from_open : (i : ℕ) (ds : List PureChunk) → ((j : ℕ) (c : PureChunk) → slice_get ds j ≡ Some c → slice_get cs (i + j) ≡ Some c) → Each (λ d. OpenFor v D d.when) (bounded_from l cs i ds)
    from_open i [] places = tt
    from_open i (c ∷ ds) places =
        each_append (λ d. OpenFor v D d.when) (bounded_there l cs i c.loc c.sub c.val) (bounded_from l cs (i + 1) ds)
        (there_open i c (ap (slice_get cs) (omega arith) ∙ places 0 c refl) c.sub refl c.val refl)
        (from_open (i + 1) ds (λ j d at_j. ap (slice_get cs) (omega arith) ∙ places (suc j) d at_j))

    free_open : Each (λ d. OpenFor v D d.when) (free_cases l cs)
    free_open =
        each_append (λ d. OpenFor v D d.when) (gone_case l cs) _ (gone_open l)
        (each_append (λ d. OpenFor v D d.when) (bounded_from l cs 0 cs) _ (from_open 0 cs (λ j c at_j. ap (slice_get cs) (omega arith) ∙ at_j))
        (case_open v D (all_by_place l unbounded cs) cs (missed (record { loc = l; sub = bound }))
        (closed_open v D (all_by_place l unbounded cs) (by_place_shaped closed_reading l tt tt unbounded (λ c c_sides near. unbounded_by closed_reading fits_closed cs (closed_sides cs) (closed_state cs) l tt tt c.sub) cs (closed_sides cs)))))

  -- ---- at an address

  kinds_closed : (l i : PureTerm) → EachAtom NoOpen (both (of_kind l Kind.Sym) (of_kind i Kind.Int)) × EachAtom NoOpen (not_of_kind l Kind.Sym ++ not_of_kind i Kind.Int)
  kinds_closed l i = (
    both_shaped closed_reading (of_kind l Kind.Sym) (of_kind i Kind.Int) (kind_shaped closed_reading l Kind.Sym tt refl) (kind_shaped closed_reading i Kind.Int tt refl),
    or_shaped closed_reading (not_of_kind l Kind.Sym) (not_of_kind i Kind.Int) (not_kind_shaped closed_reading l Kind.Sym tt refl) (not_kind_shaped closed_reading i Kind.Int tt refl),
  )

  cell_there : (l i : PureTerm) (a : PureAccess) → ¬ (a ≡ takes) → Each (Opens v D) (act_there (at_cell a) (both (of_kind l Kind.Sym) (of_kind i Kind.Int)) l i cs)
  cell_there l i a differ = chosen_open v D (both (of_kind l Kind.Sym) (of_kind i Kind.Int)) (closed_open v D _ (kinds_closed l i).0) (cell_cases a l i cs) (λ holds. cell_open l i a differ)

  free_there : (l i : PureTerm) → (Hold v (both (both (of_kind l Kind.Sym) (of_kind i Kind.Int)) (same i zero_term)) → (j : ℕ) (c : PureChunk) → slice_get cs j ≡ Some c → c.sub ≡ bound → Hold v (same l c.loc) → D c.val) → Each (Opens v D) (act_there frees (both (of_kind l Kind.Sym) (of_kind i Kind.Int)) l i cs)
  free_there l i is_bound =
      let when = both (of_kind l Kind.Sym) (of_kind i Kind.Int) in
      each_append (Opens v D) (branches_of (both when (other i zero_term)) cs (failure Failure.Free)) (choose (both when (same i zero_term)) (free_cases l cs))
      (closed_branches (both when (other i zero_term)) (failure Failure.Free) (both_shaped closed_reading when (other i zero_term) (kinds_closed l i).0 (other_shaped closed_reading i zero_term tt)))
      (chosen_open v D (both when (same i zero_term)) (closed_open v D (both when (same i zero_term)) (both_shaped closed_reading when (same i zero_term) (kinds_closed l i).0 (same_shaped closed_reading i zero_term tt))) (free_cases l cs) (λ holds. free_open l (is_bound holds)))

  always_open : (r : PureResult) → Each (Opens v D) (branches_of always cs r)
  always_open r = closed_branches always r (tt, tt)

  parts_open : (action : PureAction) (ts : PureTerms) → ((l i : PureTerm) → ts ≡ from_list (l ∷ i ∷ []) → Each (Opens v D) (act_there action (both (of_kind l Kind.Sym) (of_kind i Kind.Int)) l i cs)) → Each (Opens v D) (by_parts action (to_list ts) cs)
  parts_open action (term_and l (term_and i no_terms)) there_opens =
      each_append (Opens v D) (branches_of (not_of_kind l Kind.Sym ++ not_of_kind i Kind.Int) cs (failure Failure.Kind)) (act_there action (both (of_kind l Kind.Sym) (of_kind i Kind.Int)) l i cs)
      (closed_branches (not_of_kind l Kind.Sym ++ not_of_kind i Kind.Int) (failure Failure.Kind) (kinds_closed l i).1) (there_opens l i refl)
  parts_open action no_terms there_opens = always_open (failure Failure.Kind)
  parts_open action (term_and l no_terms) there_opens = always_open (failure Failure.Kind)
  parts_open action (term_and l (term_and i (term_and t ts))) there_opens = always_open (failure Failure.Kind)

  unknown_open : (a : PureTerm) → (Hold v (of_kind a Kind.List) → D a) → Each (Opens v D) (branches_of (not_of_kind a Kind.List) cs (failure Failure.Kind) ++ branches_of (form_of a (of_kind a Kind.List)) cs (done true_term))
  unknown_open a is =
      each_append (Opens v D) (branches_of (not_of_kind a Kind.List) cs (failure Failure.Kind)) (branches_of (form_of a (of_kind a Kind.List)) cs (done true_term))
      (closed_branches (not_of_kind a Kind.List) (failure Failure.Kind) (not_kind_shaped closed_reading a Kind.List tt refl))
      (branches_open v D (form_of a (of_kind a Kind.List)) cs (done true_term) (form_open v D a (of_kind a Kind.List) is (kind_shaped closed_reading a Kind.List tt refl)))

  address_open : (action : PureAction) (a : PureTerm) → (Hold v (of_kind a Kind.List) → D a) → ((l i : PureTerm) → a ≡ list_of (from_list (l ∷ i ∷ [])) → Each (Opens v D) (act_there action (both (of_kind l Kind.Sym) (of_kind i Kind.Int)) l i cs)) → Each (Opens v D) (by_address action a cs)
  address_open action (list_of ts) is there_opens = parts_open action ts (λ l i e. there_opens l i (ap list_of e))
  address_open action (literal k) is there_opens = unknown_open (literal k) is
  address_open action (variable x) is there_opens = unknown_open (variable x) is
  address_open action (unary_of op t) is there_opens = unknown_open (unary_of op t) is
  address_open action (binary_of op s t) is there_opens = unknown_open (binary_of op s t) is

  -- ---- `alloc`

  unsized_open : (x : Var) (n : PureTerm) → (Hold v (of_kind n Kind.Int) → D n) → Each (Opens v D) (branches_of (not_of_kind n Kind.Int) cs (failure Failure.Kind) ++ branches_of (form_of n (of_kind n Kind.Int)) cs (done (address_term x)))
  unsized_open x n is =
      each_append (Opens v D) (branches_of (not_of_kind n Kind.Int) cs (failure Failure.Kind)) (branches_of (form_of n (of_kind n Kind.Int)) cs (done (address_term x)))
      (closed_branches (not_of_kind n Kind.Int) (failure Failure.Kind) (not_kind_shaped closed_reading n Kind.Int tt refl))
      (branches_open v D (form_of n (of_kind n Kind.Int)) cs (done (address_term x)) (form_open v D n (of_kind n Kind.Int) is (kind_shaped closed_reading n Kind.Int tt refl)))

  sized_open : (x : Var) (n : ℤ) (b : Bool) → Each (Opens v D) (if b then branches_of always (created x n cs) (done (address_term x)) else branches_of always cs (failure Failure.Size))
  sized_open x n true = branches_open v D always (created x n cs) (done (address_term x)) ((λ taken. tt), tt)
  sized_open x n false = always_open (failure Failure.Size)

  make_open : (x : Var) (n : PureTerm) → (Hold v (of_kind n Kind.Int) → D n) → Each (Opens v D) (make x n cs)
  make_open x (literal (Literal.Int n)) is = sized_open x n (is_size n)
  make_open x (literal (Literal.Bool n)) is = unsized_open x (literal (Literal.Bool n)) is
  make_open x (literal (Literal.Str n)) is = unsized_open x (literal (Literal.Str n)) is
  make_open x (literal (Literal.Kind n)) is = unsized_open x (literal (Literal.Kind n)) is
  make_open x (literal (Literal.Proc n)) is = unsized_open x (literal (Literal.Proc n)) is
  make_open x (variable y) is = unsized_open x (variable y) is
  make_open x (list_of ts) is = unsized_open x (list_of ts) is
  make_open x (unary_of op t) is = unsized_open x (unary_of op t) is
  make_open x (binary_of op s t) is = unsized_open x (binary_of op s t) is

-- ---- every action

module _ (vars : List Sort) (v : List PureValue) (h : Heap) (cs : List PureChunk) (proper : IsProper vars v) (stands : StandFor Block cs v h) (over : Each (ChunkTerms (IsOver vars)) cs) where
  given_of : (k : Kind) (t : PureTerm) (w : PureValue) → IsOver vars t → value v t ≡ Some w → Hold v (of_kind t k) → IsGivenOf k v t t
  given_of k t w over_t is holds = record { given = refl; value_of = w; is = is; of_kind = (of_kind_tells vars v t k w proper over_t is).0 holds }

  -- the bound at the location of an address whose offset is 0
  bound_of : (l i : PureTerm) (x y : PureValue) → IsOver vars l → IsOver vars i → value v l ≡ Some x → value v i ≡ Some y → Hold v (both (both (of_kind l Kind.Sym) (of_kind i Kind.Int)) (same i zero_term)) → (j : ℕ) (c : PureChunk) → slice_get cs j ≡ Some c → c.sub ≡ bound → Hold v (same l c.loc) → IsBoundOf v cs (list_of (from_list (l ∷ i ∷ []))) c.val
  bound_of l i x y over_l over_i is_l is_i holds j c there is here =
      let parts = both_parts v (both (of_kind l Kind.Sym) (of_kind i Kind.Int)) (same i zero_term) holds in
      let kinds = both_parts v (of_kind l Kind.Sym) (of_kind i Kind.Int) parts.0 in
      ⊎_elim
      (λ (a, is_a). ⊎_elim
      (λ (n, is_n).
      let value_l : value v l ≡ Some (symbol a) = is_l ∙ ap Some is_a in
      let value_i : value v i ≡ Some (integer n) = is_i ∙ ap Some is_n in
      let zero_is : integer n ≡ integer (pos 0) = (same_tells vars v i zero_term (integer n) (integer (pos 0)) (record { proper = proper; first_over = over_i; second_over = (λ z has. absurd (none_contained z has)); first = value_i; second = refl })).0 parts.1 in
      let f = each_at (Fact vars v h) cs j c (each_fact vars v h cs stands.union over) there in
      let at_a : f.k.loc ≡ a = (loc_tells vars v h proper c f l a (record { over = over_l; is = value_l })).0 here in
      record {
        l = a;
        at = (λ q. option_map (λ us. list (list_values us)) (value_and (value_l q) (value_and ((value_i ∙ ap Some zero_is) q) (Some []))));
        bounds = one_at _ cs j c there (is, ap location_of (fact_loc vars v h c f).is ∙ ap Some at_a, refl);
      })
      (λ (fails_it, differ). absurd (differ ((of_kind_tells vars v i Kind.Int y proper over_i is_i).0 kinds.1)))
      (number_or_not y))
      (λ (fails_it, differ). absurd (differ ((of_kind_tells vars v l Kind.Sym x proper over_l is_l).0 kinds.0)))
      (symbol_or_not x)

  list_from : (o : Option (List PureValue)) (w : PureValue) → option_map (λ ws. list (list_values ws)) o ≡ Some w → (ws : List PureValue) × (o ≡ Some ws)
  list_from (Some ws) w is = (ws, refl)
  list_from None w is = not_none is

  free_depends : (a : PureTerm) (w : PureValue) → IsOver vars a → value v a ≡ Some w → Each (Opens v (λ t. IsGivenOf Kind.List v a t ⊎ IsBoundOf v cs a t)) (by_address frees a cs)
  free_depends a w over_a is_a =
      address_open v (λ t. IsGivenOf Kind.List v a t ⊎ IsBoundOf v cs a t) cs frees a (λ holds. inl (given_of Kind.List a w over_a is_a holds))
      (λ l i e.
      let (ws, have) = list_from (values v (from_list (l ∷ i ∷ []))) w (ap (value v) (sym e) ∙ is_a) in
      let (x, (y, (is_l, is_i, whole))) = values_two v l i ws have in
      let over_both : Each (IsOver vars) (l ∷ i ∷ []) = over_elements vars (from_list (l ∷ i ∷ [])) (subst (IsOver vars) e over_a) in
      free_there v (λ t. IsGivenOf Kind.List v a t ⊎ IsBoundOf v cs a t) cs l i
      (λ holds j c there is here. inr (subst (λ b. IsBoundOf v cs b c.val) (sym e) (bound_of l i x y over_both.0 over_both.1.0 is_l is_i holds j c there is here))))

  cell_depends : (x : PureAccess) → ¬ (x ≡ takes) → (a : PureTerm) (w : PureValue) → IsOver vars a → value v a ≡ Some w → Each (Opens v (IsGivenOf Kind.List v a)) (by_address (at_cell x) a cs)
  cell_depends x differ a w over_a is_a = address_open v (IsGivenOf Kind.List v a) cs (at_cell x) a (λ holds. given_of Kind.List a w over_a is_a holds) (λ l i e. cell_there v (IsGivenOf Kind.List v a) cs l i x differ)

  wrong : (D : PureTerm → Type 0) → Each (Opens v D) (wrong_number cs)
  wrong D = always_open v D cs (failure Failure.Arity)

  by_action : (o : Option BlockAction) (fresh : Option Var) (args : List PureTerm) (args' : List PureValue) → Each (IsOver vars) args → values v (from_list args) ≡ Some args' → Each (Opens v (DependsOn o cs args v h)) (table o fresh args cs)
  by_action None fresh args args' over_args have = always_open v (DependsOn None cs args v h) cs (failure Failure.Action)
  by_action (Some BlockAction.Alloc) (Some x) (n ∷ []) args' over_args have = let (w, (is, whole)) = values_one v n args' have in make_open v (IsGivenOf Kind.Int v n) cs x n (λ holds. given_of Kind.Int n w over_args.0 is holds)
  by_action (Some BlockAction.Alloc) None (n ∷ []) args' over_args have = tt
  by_action (Some BlockAction.Alloc) (Some x) [] args' over_args have = wrong (DependsOn (Some BlockAction.Alloc) cs [] v h)
  by_action (Some BlockAction.Alloc) None [] args' over_args have = wrong (DependsOn (Some BlockAction.Alloc) cs [] v h)
  by_action (Some BlockAction.Alloc) (Some x) (n ∷ t ∷ more) args' over_args have = wrong (DependsOn (Some BlockAction.Alloc) cs (n ∷ t ∷ more) v h)
  by_action (Some BlockAction.Alloc) None (n ∷ t ∷ more) args' over_args have = wrong (DependsOn (Some BlockAction.Alloc) cs (n ∷ t ∷ more) v h)
  by_action (Some BlockAction.Load) fresh (a ∷ []) args' over_args have = let (w, (is, whole)) = values_one v a args' have in cell_depends reads (λ e. cc) a w over_args.0 is
  by_action (Some BlockAction.Load) fresh [] args' over_args have = wrong (DependsOn (Some BlockAction.Load) cs [] v h)
  by_action (Some BlockAction.Load) fresh (a ∷ t ∷ more) args' over_args have = wrong (DependsOn (Some BlockAction.Load) cs (a ∷ t ∷ more) v h)
  by_action (Some BlockAction.Store) fresh (a ∷ t ∷ []) args' over_args have = let (w, (u, (is, is_t, whole))) = values_two v a t args' have in cell_depends (writes t) (λ e. cc) a w over_args.0 is
  by_action (Some BlockAction.Store) fresh [] args' over_args have = wrong (DependsOn (Some BlockAction.Store) cs [] v h)
  by_action (Some BlockAction.Store) fresh (a ∷ []) args' over_args have = wrong (DependsOn (Some BlockAction.Store) cs (a ∷ []) v h)
  by_action (Some BlockAction.Store) fresh (a ∷ t ∷ s ∷ more) args' over_args have = wrong (DependsOn (Some BlockAction.Store) cs (a ∷ t ∷ s ∷ more) v h)
  by_action (Some BlockAction.Free) fresh (a ∷ []) args' over_args have = let (w, (is, whole)) = values_one v a args' have in free_depends a w over_args.0 is
  by_action (Some BlockAction.Free) fresh [] args' over_args have = wrong (DependsOn (Some BlockAction.Free) cs [] v h)
  by_action (Some BlockAction.Free) fresh (a ∷ t ∷ more) args' over_args have = wrong (DependsOn (Some BlockAction.Free) cs (a ∷ t ∷ more) v h)

pub table_depends : (o : Option BlockAction) (fresh : Option Var) (args : List PureTerm) (cs : List PureChunk) (vars : List Sort) (v args' : List PureValue) (h : Heap)
    → Serves (StandFor Block) terms_of vars v fresh args cs args' h → Each (Opens v (DependsOn o cs args v h)) (table o fresh args cs)
table_depends o fresh args cs vars v args' h serves =
    by_action vars v h cs serves.proper serves.has_heap (chunk_by_chunk (IsOver vars) cs (each_right (IsOver vars) args (all_of (terms_of cs)) serves.over)) o fresh args args'
    (each_left (IsOver vars) args (all_of (terms_of cs)) serves.over) serves.have_values
