-- The branches of `alloc` are right.
use Rattle.std.proofs.Common.{◌≡◌, ◌⊎◌, ⊎_elim, inl, inr, ℕ, zero, suc, ◌+◌, ℤ, pos, List, [], ◌∷◌, ◌++◌, Bool, true, false, ◌||◌, cond, if◌then◌else◌, Option, Some, IsTrue, refl, sym, ap, subst, ◌∙◌, true≢false, arith}
use Rattle.std.specs.FinMap.{get, insert, get-insert}
use Rattle.std.specs.Option.{option_map}
use Rattle.std.proofs.lemmas.List.{append_assoc, append-nil}
use Rattle.gil_values.specs.declared.kinds.Kind.{Kind}
use Rattle.gil_values.specs.Pure.{PureValue, integer, symbol, list, from_list as list_values, kind_of}
use Rattle.gil_values.proofs.OperatorSymbols.{none_contained}
use Rattle.mem_model.specs.declared.failures.Failure.{Failure}
use Rattle.mem_model.specs.declared.keys.Key.{Key}
use Rattle.mem_model.specs.declared.keys.Sub.{Sub}
use Rattle.mem_model.specs.declared.keys.Sub.TheVariants.{At, Bound}
use Rattle.mem_model.specs.declared.keys.MemoryName.TheVariants.{Block}
use Rattle.mem_model.specs.Actions.{ActionResult}
use Rattle.mem_model.specs.Heaps.{Heap, HasKey, IsHeapOf}
use Rattle.mem_model.specs.Keys.{key}
use Rattle.mem_model.specs.KeyOrder.{key_cmp-total, key_eq, variant_number}
use Rattle.mem_model.specs.Tables.{does, fails, read_or_fail, is_among, with_all, created as created_heap}
use Rattle.mem_model.proofs.Changes.{get-with_all, with_none}
use Rattle.mem_model.proofs.Joins.{same_heap, value_at, has_key}
use Rattle.mem_model.proofs.Holding.{held_inserted, held_with_all}
use Rattle.block_heap.specs.Cells.{cell_among}
use Rattle.block_heap.specs.Table.{address, number_in, cells_from, cell_keys, count_of, is_size, alloc_block}
use Rattle.block_sym.specs.Table.{number, address_term, new_cells, created, make}
use Rattle.pure_terms.specs.declared.literals.Literal.{Literal}
use Rattle.pure_terms.specs.declared.variables.Sort.{Sort}
use Rattle.pure_terms.specs.declared.variables.Var.{Var}
use Rattle.pure_terms.specs.Meaning.{both as value_and, value, IsProper, IsOver}
use Rattle.pure_terms.specs.Pure.{PureTerm, literal, variable, list_of, unary_of, binary_of}
use Rattle.sym_chunks.specs.Cases.{failure, branches_of}
use Rattle.sym_chunks.specs.Forms.{form_of}
use Rattle.sym_model.specs.Alternatives.{Alternatives, Hold, always, of_kind, not_of_kind}
use Rattle.sym_model.proofs.Combined.{always_true}
use Rattle.sym_model.proofs.Telling.{of_kind_tells, not_of_kind_tells}
use Rattle.sym_model.specs.Chunks.{IsUnion, StandFor}
use Rattle.sym_model.specs.Cores.{zero_term}
use Rattle.sym_model.specs.Lists.{Each, OneOf}
use Rattle.sym_model.specs.Meaning.{location_of, key_of}
use Rattle.sym_model.specs.Pure.{cell, bound, PureChunk, done}
use Rattle.sym_model.proofs.ListLaws.{same_some, each_append, one_left, one_right}
use Rattle.sym_model.proofs.Unions.{put_last}
use Rattle.sym_chunks.proofs.CaseLaws.{IsFor, IsRight, IsTaken, Exact, exact_cases, open_cases, taken_case, needed_open, form_holds}
use Rattle.block_sym.proofs.Arguments.{number_or_not}

or_cond : {X : Type 0} (b c : Bool) (x : X) (o : Option X) → cond (b || c) (Some x) o ≡ cond c (Some x) (cond b (Some x) o)
or_cond true true x o = refl
or_cond true false x o = refl
or_cond false c x o = refl

-- the first of the keys put first
with_all_first : (k : Key) (ks : List Key) (w : PureValue) (h : Heap) → with_all (k ∷ ks) w h ≡ with_all ks w (insert h k w)
with_all_first k ks w h = same_heap _ _ (λ q.
    get-with_all (k ∷ ks) w h q
    ∙ or_cond (key_eq q k) (is_among q ks) w (get h q)
    ∙ ap (cond (is_among q ks) (Some w)) (sym (get-insert key_cmp-total h k w q))
    ∙ sym (get-with_all ks w (insert h k w) q))

same_sub : (q r : Key) → q ≡ r → q.sub ≡ r.sub
same_sub q r e = ap (λ (m : Key). m.sub) e

same_offset : (i j : ℕ) → At (pos i) ≡ At (pos j) → i ≡ j
same_offset i j e = cc

no_bound_cell : (j : ℕ) → ¬ (Bound ≡ At (pos j))
no_bound_cell j e = absurd (omega (arith, ap variant_number e))

module _ (v : List PureValue) (x : Var) (m : ℕ) (is_x : value v (variable x) ≡ Some (symbol m)) where
  -- the cells added at the end put the cells into the heap
  cells_added : (n i : ℕ) (cs : List PureChunk) (h : Heap) → IsUnion v cs h → ((j : ℕ) → ¬ HasKey h (key m (At (pos (i + j))))) → IsUnion v (cs ++ new_cells x i n) (with_all (cells_from m i n) (integer (pos 0)) h)
  cells_added zero i cs h union lacks =
      subst (λ ds. IsUnion v ds (with_all [] (integer (pos 0)) h)) (sym (append-nil cs)) (subst (IsUnion v cs) (with_none (integer (pos 0)) h) union)
  cells_added (suc n) i cs h union lacks =
      let k : Key = key m (At (pos i)) in
      let c : PureChunk = record { loc = variable x; sub = cell (number (pos i)); val = zero_term } in
      let here : ¬ HasKey h k = (λ has. lacks 0 (subst (λ q. HasKey h (key m (At (pos q)))) (omega arith) has)) in
      let added : IsUnion v (cs ++ c ∷ []) (insert h k (integer (pos 0))) = put_last v cs h c k (integer (pos 0)) union (record { at = ap (λ o. key_of (location_of o) (Some (At (pos i)))) is_x; holds = refl }) here in
      let more : IsUnion v ((cs ++ c ∷ []) ++ new_cells x (i + 1) n) (with_all (cells_from m (i + 1) n) (integer (pos 0)) (insert h k (integer (pos 0)))) =
      cells_added n (i + 1) (cs ++ c ∷ []) (insert h k (integer (pos 0))) added
      (λ j has.
      let (w, held) = value_at (insert h k (integer (pos 0))) (key m (At (pos (i + 1 + j)))) has in
      ⊎_elim
      (λ put. let o = same_offset (i + 1 + j) i (same_sub (key m (At (pos (i + 1 + j)))) k put.0) in absurd (omega (arith, o)))
      (λ kept. lacks (1 + j) (subst (λ q. HasKey h (key m (At (pos q)))) (omega arith) (has_key h (key m (At (pos (i + 1 + j)))) w kept.1)))
      (held_inserted h k (key m (At (pos (i + 1 + j)))) (integer (pos 0)) w held)) in
      let joined : IsUnion v (cs ++ (c ∷ new_cells x (i + 1) n)) (with_all (cells_from m (i + 1) n) (integer (pos 0)) (insert h k (integer (pos 0)))) = subst (λ ds. IsUnion v ds (with_all (cells_from m (i + 1) n) (integer (pos 0)) (insert h k (integer (pos 0))))) (append_assoc cs (c ∷ []) (new_cells x (i + 1) n)) more in
      subst (IsUnion v (cs ++ (c ∷ new_cells x (i + 1) n))) (sym (with_all_first k (cells_from m (i + 1) n) (integer (pos 0)) h)) joined

  -- the new block's chunks stand for the heap with the new block
  block_added : (n : ℤ) (cs : List PureChunk) (h : Heap) → IsUnion v cs h → ((s : Sub) → ¬ HasKey h (key m s)) → IsUnion v (created x n cs) (created_heap (key m Bound) (integer n) (cell_keys m (count_of (integer n))) (integer (pos 0)) h)
  block_added n cs h union lacks =
      let parts = cell_keys m (count_of (integer n)) in
      put_last v (cs ++ new_cells x 0 (count_of (integer n))) (with_all parts (integer (pos 0)) h) (record { loc = variable x; sub = bound; val = number n }) (key m Bound) (integer n)
      (cells_added (count_of (integer n)) 0 cs h union (λ j. lacks (At (pos (0 + j)))))
      (record { at = ap (λ o. key_of (location_of o) (Some Bound)) is_x; holds = refl })
      (λ has. let (w, held) = value_at (with_all parts (integer (pos 0)) h) (key m Bound) has in
      ⊎_elim
      (λ put. let c = cell_among m (count_of (integer n)) 0 (key m Bound) put.0 in no_bound_cell c.0 (same_sub (key m Bound) (key m (At (pos c.0))) c.1))
      (λ kept. lacks Bound (has_key h (key m Bound) w kept))
      (held_with_all parts h (key m Bound) (integer (pos 0)) w held))

module _ (vars : List Sort) (v : List PureValue) (h : Heap) (cs : List PureChunk) (proper : IsProper vars v) (stands : StandFor Block cs v h) (x : Var) (m : ℕ) (is_x : value v (variable x) ≡ Some (symbol m)) (lacks : (s : Sub) → ¬ HasKey h (key m s)) where
  abbrev pub allocates : List PureValue → ActionResult
  allocates args' = read_or_fail (number_in args') (λ n. alloc_block (Some m) n h) h

  fails_for : (r : ActionResult) (why : Failure) → r ≡ fails why h → IsFor Block v r cs (failure why)
  fails_for r why e = subst (λ q. IsFor Block v q cs (failure why)) (sym e) (refl, stands)

  address_is : value v (address_term x) ≡ Some (address m (pos 0))
  address_is = (λ i. option_map (λ us. list (list_values us)) (value_and (is_x i) (value_and (Some (integer (pos 0))) (Some []))))

  sized_by : (n : ℤ) (b : Bool) → is_size n ≡ b → IsHeapOf Block (allocates (integer n ∷ [])).heap → IsRight Block v (allocates (integer n ∷ [])) (if b then branches_of always (created x n cs) (done (address_term x)) else branches_of always cs (failure Failure.Size))
  sized_by n true is keeps =
      let r = allocates (integer n ∷ []) in
      let e : r ≡ does (address m (pos 0)) (created_heap (key m Bound) (integer n) (cell_keys m (count_of (integer n))) (integer (pos 0)) h) = ap (λ b. if b then does (address m (pos 0)) (created_heap (key m Bound) (integer n) (cell_keys m (count_of (integer n))) (integer (pos 0)) h) else fails Failure.Size h) is in
      let for : IsFor Block v r (created x n cs) (done (address_term x)) = subst (λ q. IsFor Block v q (created x n cs) (done (address_term x))) (sym e) (
        address_is,
        record { union = block_added v x m is_x n cs h stands.union lacks; is_heap = subst (λ (q : ActionResult). IsHeapOf Block q.heap) e keeps },
      ) in
      record { exact = exact_cases Block v r always (created x n cs) (done (address_term x)) (λ holds. for); taken = taken_case v always (created x n cs) (done (address_term x)) (always_true v) }
  sized_by n false is keeps =
      let r = allocates (integer n ∷ []) in
      let e : r ≡ fails Failure.Size h = ap (λ b. if b then does (address m (pos 0)) (created_heap (key m Bound) (integer n) (cell_keys m (count_of (integer n))) (integer (pos 0)) h) else fails Failure.Size h) is in
      record { exact = exact_cases Block v r always cs (failure Failure.Size) (λ holds. fails_for r Failure.Size e); taken = taken_case v always cs (failure Failure.Size) (always_true v) }

  -- a size that is no number literal
  unsized_right : (n : PureTerm) (w : PureValue) → IsOver vars n → value v n ≡ Some w → ((k : Kind) → kind_of w ≡ Kind.Int → Hold v (of_kind n Kind.Int) → Hold v (form_of n (of_kind n Kind.Int)))
      → IsRight Block v (allocates (w ∷ [])) (branches_of (not_of_kind n Kind.Int) cs (failure Failure.Kind) ++ branches_of (form_of n (of_kind n Kind.Int)) cs (done (address_term x)))
  unsized_right n w over_n is_n opens =
      let r = allocates (w ∷ []) in
      record {
        exact = each_append (Exact Block v r) (branches_of (not_of_kind n Kind.Int) cs (failure Failure.Kind)) (branches_of (form_of n (of_kind n Kind.Int)) cs (done (address_term x)))
            (exact_cases Block v r (not_of_kind n Kind.Int) cs (failure Failure.Kind) (λ holds. ⊎_elim
            (λ (k, is_k). absurd ((not_of_kind_tells vars v n Kind.Int w proper over_n is_n).0 holds (ap kind_of is_k)))
            (λ (fails_it, differ). fails_for r Failure.Kind (ap (λ o. read_or_fail o (λ n. alloc_block (Some m) n h) h) fails_it))
            (number_or_not w)))
            (open_cases Block v r (form_of n (of_kind n Kind.Int)) cs (done (address_term x)) (needed_open v n (of_kind n Kind.Int)));
        taken = ⊎_elim
            (λ (k, is_k). one_right (IsTaken v) (branches_of (not_of_kind n Kind.Int) cs (failure Failure.Kind)) (branches_of (form_of n (of_kind n Kind.Int)) cs (done (address_term x)))
            (taken_case v (form_of n (of_kind n Kind.Int)) cs (done (address_term x)) (opens Kind.Int (ap kind_of is_k) ((of_kind_tells vars v n Kind.Int w proper over_n is_n).1 (ap kind_of is_k)))))
            (λ (fails_it, differ). one_left (IsTaken v) (branches_of (not_of_kind n Kind.Int) cs (failure Failure.Kind)) (branches_of (form_of n (of_kind n Kind.Int)) cs (done (address_term x)))
            (taken_case v (not_of_kind n Kind.Int) cs (failure Failure.Kind) ((not_of_kind_tells vars v n Kind.Int w proper over_n is_n).1 differ)))
            (number_or_not w);
      }

  pub make_right : (n : PureTerm) (w : PureValue) → IsOver vars n → value v n ≡ Some w → IsHeapOf Block (allocates (w ∷ [])).heap → IsRight Block v (allocates (w ∷ [])) (make x n cs)
  make_right (literal (Literal.Int n)) w over_n is_n keeps =
      let e : integer n ≡ w = same_some is_n in
      subst (λ u. IsRight Block v (allocates (u ∷ [])) (make x (literal (Literal.Int n)) cs)) e (sized_by n (is_size n) refl (subst (λ u. IsHeapOf Block (allocates (u ∷ [])).heap) (sym e) keeps))
  make_right (literal (Literal.Bool b)) w over_n is_n keeps = unsized_right (literal (Literal.Bool b)) w over_n is_n (λ k is holds. absurd holds)
  make_right (literal (Literal.Str b)) w over_n is_n keeps = unsized_right (literal (Literal.Str b)) w over_n is_n (λ k is holds. absurd holds)
  make_right (literal (Literal.Kind b)) w over_n is_n keeps = unsized_right (literal (Literal.Kind b)) w over_n is_n (λ k is holds. absurd holds)
  make_right (literal (Literal.Proc b)) w over_n is_n keeps = unsized_right (literal (Literal.Proc b)) w over_n is_n (λ k is holds. absurd holds)
  make_right (variable y) w over_n is_n keeps = unsized_right (variable y) w over_n is_n (λ k is holds. form_holds v (variable y) w (of_kind (variable y) Kind.Int) is_n holds)
  make_right (list_of ts) w over_n is_n keeps = unsized_right (list_of ts) w over_n is_n (λ k is holds. absurd holds)
  make_right (unary_of op t) w over_n is_n keeps = unsized_right (unary_of op t) w over_n is_n (λ k is holds. form_holds v (unary_of op t) w (of_kind (unary_of op t) Kind.Int) is_n holds)
  make_right (binary_of op s t) w over_n is_n keeps = unsized_right (binary_of op s t) w over_n is_n (λ k is holds. form_holds v (binary_of op s t) w (of_kind (binary_of op s t) Kind.Int) is_n holds)
