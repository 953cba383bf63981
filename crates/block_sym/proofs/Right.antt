-- The branches of each action are right, wherever the action may be asked.
use Rattle.std.proofs.Common.{◌≡◌, ◌⊎◌, ⊎_elim, inl, inr, ℕ, ℤ, pos, List, [], ◌∷◌, ◌++◌, Bool, true, false, if◌then◌else◌, Option, Some, None, IsTrue, Ok, Err, refl, sym, ap, subst, ◌∙◌, true≢false, arith}
use Rattle.std.specs.FinMap.{insert}
use Rattle.std.specs.Option.{option_map}
use Rattle.std.specs.Ordering.{int_eq}
use Rattle.std.specs.Int.Signed.{le_z}
use Rattle.std.proofs.lemmas.Int.{ints}
use Rattle.gil_values.specs.declared.kinds.Kind.{Kind}
use Rattle.gil_values.specs.Pure.{PureValue, integer, boolean, text, symbol, kind, procedure, list, kind_of, from_list as list_values, to_list as listed_values, to_list-from_list as values_back}
use Rattle.gil_values.proofs.OperatorSymbols.{none_contained}
use Rattle.mem_model.specs.declared.failures.Failure.{Failure}
use Rattle.mem_model.specs.declared.keys.Sub.TheVariants.{At}
use Rattle.mem_model.specs.declared.keys.MemoryName.TheVariants.{Block}
use Rattle.mem_model.specs.Actions.{ActionResult, MayAct}
use Rattle.mem_model.specs.Arguments.{and_then, one_of, two_of, symbol_of}
use Rattle.mem_model.specs.Heaps.{Heap, Holds, HasKey, IsHeapOf}
use Rattle.mem_model.specs.Keys.{key}
use Rattle.mem_model.specs.Tables.{does, fails, read_or_fail}
use Rattle.mem_model.proofs.Joins.{value_at}
use Rattle.block_heap.specs.declared.actions.BlockAction.{BlockAction}
use Rattle.block_heap.specs.BlockLaws.{block_is_memory}
use Rattle.block_heap.specs.Names.{action_of, takes_symbol_of}
use Rattle.block_heap.specs.Table.{number_of, address_parts, address_of, address_in, address_and_value_in, load, store, free, act_of, block_actions}
use Rattle.block_sym.specs.Laws.{AreRight, IsRightAction}
use Rattle.block_sym.specs.Table.{cell_cases, free_cases, PureAction, at_cell, frees, act_there, by_parts, by_address, make, wrong_number, act_load, act_store, act_free, branches_by}
use Rattle.pure_terms.specs.declared.literals.Literal.{Literal}
use Rattle.pure_terms.specs.declared.variables.Sort.{Sort}
use Rattle.pure_terms.specs.declared.variables.Var.{Var}
use Rattle.pure_terms.specs.Meaning.{value, values, all_true, IsProper, IsOver}
use Rattle.pure_terms.specs.Pure.{PureTerm, literal, variable, list_of, unary_of, binary_of, PureTerms, no_terms, term_and, to_list, from_list}
use Rattle.sym_chunks.specs.Cases.{ChunkBranches, failure, true_term, branches_of, choose, PureAccess, reads, writes, takes}
use Rattle.sym_chunks.specs.Forms.{form_of}
use Rattle.sym_chunks.specs.Laws.{IsLocation}
use Rattle.sym_model.specs.Alternatives.{Alternatives, Hold, always, both, same, other, of_kind, not_of_kind}
use Rattle.sym_model.specs.ConditionLaws.{HaveBoth}
use Rattle.sym_model.proofs.Combined.{both_from, both_parts, always_true}
use Rattle.sym_model.proofs.Telling.{same_tells, other_tells, of_kind_tells, not_of_kind_tells}
use Rattle.sym_model.specs.Chunks.{IsUnion, StandFor, with_held, terms_of}
use Rattle.sym_model.specs.Cores.{zero_term}
use Rattle.sym_model.specs.Laws.{MayBeAsked, Serves}
use Rattle.sym_model.specs.Lists.{Each, OneOf}
use Rattle.sym_model.specs.Meaning.{location_of, fresh_symbol}
use Rattle.sym_model.specs.Pure.{PureChunk, done}
use Rattle.sym_model.specs.Terms.{all_of}
use Rattle.sym_model.proofs.Asking.{serving_may_act, fresh_value, both_parts as value_parts}
use Rattle.sym_model.proofs.ChunkMeaning.{ChunkTerms, chunk_by_chunk, chunks_have_meaning}
use Rattle.sym_model.proofs.ListLaws.{same_some, not_none, each_append, each_left, each_right, one_left, one_right, one_parts}
use Rattle.sym_model.proofs.Unions.{held_changes}
use Rattle.sym_chunks.proofs.CaseLaws.{IsFor, IsRight, IsTaken, Exact, exact_cases, open_cases, taken_case, chosen_exact, chosen_taken, covered, needed_open, form_holds}
use Rattle.sym_chunks.proofs.Facts.{same_integers}
use Rattle.sym_chunks.proofs.Readings.{over_elements}
use Rattle.block_sym.proofs.AllocRight.{make_right}
use Rattle.block_sym.proofs.Arguments.{if_true, if_false, symbol_or_not, number_or_not, values_one, values_two, IsLong, values_long}
use Rattle.block_sym.proofs.CellRight.{found_result, cell_exact, cell_comes}
use Rattle.block_sym.proofs.FreeRight.{free_exact, free_comes}

eq_to : (n : ℤ) → int_eq n (pos 0) ≡ true → n ≡ pos 0
eq_to n e = grind (arith, ints)

eq_from : (n : ℤ) → n ≡ pos 0 → int_eq n (pos 0) ≡ true
eq_from n e = grind (arith, ints)

not_eq : (n : ℤ) → ¬ (n ≡ pos 0) → int_eq n (pos 0) ≡ false
not_eq n differ = by (int_eq n (pos 0)) refl
  where
    by : (b : Bool) → int_eq n (pos 0) ≡ b → b ≡ false
    by true is = absurd (differ (eq_to n is))
    by false is = refl

list_or_not : (w : PureValue) → (kind_of w ≡ Kind.List) ⊎ ((address_of w ≡ Err Failure.Kind) × (¬ (kind_of w ≡ Kind.List)))
list_or_not (list vs) = inl refl
list_or_not (integer i) = inr (refl, λ e. cc)
list_or_not (boolean b) = inr (refl, λ e. cc)
list_or_not (text cs) = inr (refl, λ e. cc)
list_or_not (symbol m) = inr (refl, λ e. cc)
list_or_not (kind k) = inr (refl, λ e. cc)
list_or_not (procedure f) = inr (refl, λ e. cc)

module _ (vars : List Sort) (v : List PureValue) (h : Heap) (cs : List PureChunk) (proper : IsProper vars v) (over : Each (ChunkTerms (IsOver vars)) cs) (stands : StandFor Block cs v h) where
  failed_for : (r : ActionResult) (why : Failure) → r ≡ fails why h → IsFor Block v r cs (failure why)
  failed_for r why e = subst (λ x. IsFor Block v x cs (failure why)) (sym e) (refl, stands)

  pub fails_always : (r : ActionResult) (why : Failure) → r ≡ fails why h → IsRight Block v r (branches_of always cs (failure why))
  fails_always r why e = record { exact = exact_cases Block v r always cs (failure why) (λ holds. failed_for r why e); taken = taken_case v always cs (failure why) (always_true v) }

  -- what an action does at an address, by the values of what it stores
  abbrev DoesThere : PureAction → (ℕ → ℤ → Heap → ActionResult) → Type 0
  DoesThere (at_cell reads) row = (a : ℕ) (n : ℤ) → row a n h ≡ load a n h
  DoesThere (at_cell (writes t)) row = (u : PureValue) × ((value v t ≡ Some u) × ((a : ℕ) (n : ℤ) → row a n h ≡ store a n u h))
  DoesThere (at_cell takes) row = ⊥
  DoesThere frees row = (a : ℕ) (n : ℤ) → row a n h ≡ free a n h

  module _ (row : ℕ → ℤ → Heap → ActionResult) where
    -- ---- a location and an offset

    module _ (l i : PureTerm) (a : ℕ) (n : ℤ) (asked : IsLocation vars v l a) (over_i : IsOver vars i) (is_i : value v i ≡ Some (integer n)) (r : ActionResult) (is_r : r ≡ row a n h) (keeps : IsHeapOf Block r.heap) (when : Alternatives) where
      -- exactness, and cover where `when` holds
      abbrev IsRightThere : PureAction → Type 0
      IsRightThere action = Each (Exact Block v r) (act_there action when l i cs) × (Hold v when → OneOf (IsTaken v) (act_there action when l i cs))

      read_there : ((b : ℕ) (m : ℤ) → row b m h ≡ load b m h) → IsRightThere (at_cell reads)
      read_there is =
          let e : r ≡ load a n h = is_r ∙ is a n in (
            subst (λ x. Each (Exact Block v x) (choose when (cell_cases reads l i cs))) (sym e)
                (chosen_exact Block v (load a n h) when (cell_cases reads l i cs) (λ holds. cell_exact vars v h cs proper over stands l a asked i n over_i is_i (λ w. does w h) reads (λ j c f there same. (f.entry.holds, stands)))),
            λ holds. chosen_taken v when (cell_cases reads l i cs) holds (cell_comes vars v h cs proper over stands l a asked i n over_i is_i (λ w. does w h) reads),
          )

      write_there : (t : PureTerm) (u : PureValue) → value v t ≡ Some u → ((b : ℕ) (m : ℤ) → row b m h ≡ store b m u h) → IsRightThere (at_cell (writes t))
      write_there t u is_t is =
          let e : r ≡ store a n u h = is_r ∙ is a n in
          let k = key a (At n) in (
            subst (λ x. Each (Exact Block v x) (choose when (cell_cases (writes t) l i cs))) (sym e)
                (chosen_exact Block v (store a n u h) when (cell_cases (writes t) l i cs) (λ holds. cell_exact vars v h cs proper over stands l a asked i n over_i is_i (λ w. does u (insert h k u)) (writes t)
                (λ j c f there same. (
                  is_t,
                  record {
                    union = subst (λ q. IsUnion v (with_held cs j t) (insert h q u)) same (held_changes v cs h j c f.k f.w t u stands.union there f.entry is_t);
                    is_heap = written_heap u e f.w (subst (λ q. Holds h q f.w) same f.held);
                  },
                )))),
            λ holds. chosen_taken v when (cell_cases (writes t) l i cs) holds (cell_comes vars v h cs proper over stands l a asked i n over_i is_i (λ w. does u (insert h k u)) (writes t)),
          )
        where
          written_heap : (u : PureValue) → r ≡ store a n u h → (w : PureValue) → Holds h (key a (At n)) w → IsHeapOf Block (insert h (key a (At n)) u)
          written_heap u e w held = subst (λ (x : ActionResult). IsHeapOf Block x.heap) (e ∙ found_result vars v h cs proper over stands l a asked i n over_i is_i (λ w. does u (insert h (key a (At n)) u)) w held) keeps

      offset_zero : HaveBoth vars v i zero_term (integer n) (integer (pos 0))
      offset_zero = record { proper = proper; first_over = over_i; second_over = (λ x has. absurd (none_contained x has)); first = is_i; second = refl }

      free_there : ((b : ℕ) (m : ℤ) → row b m h ≡ free b m h) → IsRightThere frees
      free_there is =
          let e : r ≡ free a n h = is_r ∙ is a n in (
            each_append (Exact Block v r) (branches_of (both when (other i zero_term)) cs (failure Failure.Free)) (choose (both when (same i zero_term)) (free_cases l cs))
                (exact_cases Block v r (both when (other i zero_term)) cs (failure Failure.Free) (λ holds. failed_for r Failure.Free (e ∙ if_false (int_eq n (pos 0)) _ (fails Failure.Free h) (not_eq n (λ z. (other_tells vars v i zero_term (integer n) (integer (pos 0)) offset_zero).0 (both_parts v when (other i zero_term) holds).1 (ap integer z))))))
                (chosen_exact Block v r (both when (same i zero_term)) (free_cases l cs)
                (λ holds. let z = same_integers ((same_tells vars v i zero_term (integer n) (integer (pos 0)) offset_zero).0 (both_parts v when (same i zero_term) holds).1) in
                free_exact vars v h cs proper over stands l a asked r (e ∙ ap (λ m. free a m h) z) keeps)),
            λ holds. by_zero e holds (int_eq n (pos 0)) refl,
          )
        where
          by_zero : r ≡ free a n h → Hold v when → (b : Bool) → int_eq n (pos 0) ≡ b → OneOf (IsTaken v) (act_there frees when l i cs)
          by_zero e holds true zero_is =
              let z = eq_to n zero_is in
              one_right (IsTaken v) (branches_of (both when (other i zero_term)) cs (failure Failure.Free)) (choose (both when (same i zero_term)) (free_cases l cs))
              (chosen_taken v (both when (same i zero_term)) (free_cases l cs) (both_from v when (same i zero_term) holds ((same_tells vars v i zero_term (integer n) (integer (pos 0)) offset_zero).1 (ap integer z)))
              (free_comes vars v h cs proper over stands l a asked r (e ∙ ap (λ m. free a m h) z) keeps))
          by_zero e holds false no_zero =
              one_left (IsTaken v) (branches_of (both when (other i zero_term)) cs (failure Failure.Free)) (choose (both when (same i zero_term)) (free_cases l cs))
              (taken_case v (both when (other i zero_term)) cs (failure Failure.Free) (both_from v when (other i zero_term) holds
              ((other_tells vars v i zero_term (integer n) (integer (pos 0)) offset_zero).1 (λ same_number. true≢false (sym (eq_from n (same_integers same_number)) ∙ no_zero)))))

      there_right : (action : PureAction) → DoesThere action row → IsRightThere action
      there_right (at_cell reads) is = read_there is
      there_right (at_cell (writes t)) (u, (is_t, is)) = write_there t u is_t is
      there_right (at_cell takes) is = absurd is
      there_right frees is = free_there is

    -- ---- addresses

    -- what an action makes of the value of an address
    abbrev at_address : PureValue → ActionResult
    at_address w = read_or_fail (address_of w) (λ (b, m). row b m h) h

    module _ (action : PureAction) (is_row : DoesThere action row) where
      vain : (r : ActionResult) (when : Alternatives) (l i : PureTerm) → ¬ Hold v when → Each (Exact Block v r) (act_there action when l i cs)
      vain r when l i never_holds = by action
        where
          by : (b : PureAction) → Each (Exact Block v r) (act_there b when l i cs)
          by (at_cell x) = chosen_exact Block v r when (cell_cases x l i cs) (λ holds. absurd (never_holds holds))
          by frees =
              each_append (Exact Block v r) (branches_of (both when (other i zero_term)) cs (failure Failure.Free)) (choose (both when (same i zero_term)) (free_cases l cs))
              (exact_cases Block v r (both when (other i zero_term)) cs (failure Failure.Free) (λ holds. absurd (never_holds (both_parts v when (other i zero_term) holds).0)))
              (chosen_exact Block v r (both when (same i zero_term)) (free_cases l cs) (λ holds. absurd (never_holds (both_parts v when (same i zero_term) holds).0)))

      module _ (l i : PureTerm) (x y : PureValue) (over_l : IsOver vars l) (over_i : IsOver vars i) (is_l : value v l ≡ Some x) (is_i : value v i ≡ Some y) (r : ActionResult) (keeps : IsHeapOf Block r.heap) where
        abbrev right_kinds : Alternatives
        right_kinds = both (of_kind l Kind.Sym) (of_kind i Kind.Int)

        abbrev wrong_kinds : Alternatives
        wrong_kinds = not_of_kind l Kind.Sym ++ not_of_kind i Kind.Int

        abbrev two_branches : ChunkBranches
        two_branches = branches_of wrong_kinds cs (failure Failure.Kind) ++ act_there action right_kinds l i cs

        wrong_right : Hold v wrong_kinds → ¬ Hold v right_kinds → r ≡ fails Failure.Kind h → IsRight Block v r two_branches
        wrong_right wrong never_right e = record {
          exact = each_append (Exact Block v r) (branches_of wrong_kinds cs (failure Failure.Kind)) (act_there action right_kinds l i cs)
              (exact_cases Block v r wrong_kinds cs (failure Failure.Kind) (λ holds. failed_for r Failure.Kind e)) (vain r right_kinds l i never_right);
          taken = one_left (IsTaken v) (branches_of wrong_kinds cs (failure Failure.Kind)) (act_there action right_kinds l i cs) (taken_case v wrong_kinds cs (failure Failure.Kind) wrong);
        }

        right_right : (a : ℕ) (n : ℤ) → x ≡ symbol a → y ≡ integer n → r ≡ row a n h → IsRight Block v r two_branches
        right_right a n is_a is_n e =
            let there = there_right l i a n (record { over = over_l; is = is_l ∙ ap Some is_a }) over_i (is_i ∙ ap Some is_n) r e keeps right_kinds action is_row in
            record {
              exact = each_append (Exact Block v r) (branches_of wrong_kinds cs (failure Failure.Kind)) (act_there action right_kinds l i cs)
                  (exact_cases Block v r wrong_kinds cs (failure Failure.Kind)
                  (λ holds. absurd (⊎_elim
                  (λ no_symbol. (not_of_kind_tells vars v l Kind.Sym x proper over_l is_l).0 no_symbol (ap kind_of is_a))
                  (λ no_number. (not_of_kind_tells vars v i Kind.Int y proper over_i is_i).0 no_number (ap kind_of is_n))
                  (one_parts (λ conds. IsTrue (all_true v conds)) (not_of_kind l Kind.Sym) (not_of_kind i Kind.Int) holds))))
                  there.0;
              taken = one_right (IsTaken v) (branches_of wrong_kinds cs (failure Failure.Kind)) (act_there action right_kinds l i cs)
                  (there.1 (both_from v (of_kind l Kind.Sym) (of_kind i Kind.Int) ((of_kind_tells vars v l Kind.Sym x proper over_l is_l).1 (ap kind_of is_a)) ((of_kind_tells vars v i Kind.Int y proper over_i is_i).1 (ap kind_of is_n))));
            }

        -- by the kinds of the values
        two_right : r ≡ read_or_fail (address_parts (x ∷ y ∷ [])) (λ (b, m). row b m h) h → IsRight Block v r two_branches
        two_right is =
            ⊎_elim
            (λ (a, is_a). ⊎_elim
            (λ (n, is_n). right_right a n is_a is_n (is ∙ (λ j. read_or_fail (address_parts (is_a j ∷ is_n j ∷ [])) (λ (b, m). row b m h) h)))
            (λ (fails_it, differ). wrong_right
            (one_right (λ conds. IsTrue (all_true v conds)) (not_of_kind l Kind.Sym) (not_of_kind i Kind.Int) ((not_of_kind_tells vars v i Kind.Int y proper over_i is_i).1 differ))
            (λ holds. differ ((of_kind_tells vars v i Kind.Int y proper over_i is_i).0 (both_parts v (of_kind l Kind.Sym) (of_kind i Kind.Int) holds).1))
            (is ∙ ap (λ z. read_or_fail (address_parts (z ∷ y ∷ [])) (λ (b, m). row b m h) h) is_a ∙ ap (λ o. read_or_fail (and_then o (λ m. Ok (a, m))) (λ (b, m). row b m h) h) fails_it))
            (number_or_not y))
            (λ (fails_it, differ). wrong_right
            (one_left (λ conds. IsTrue (all_true v conds)) (not_of_kind l Kind.Sym) (not_of_kind i Kind.Int) ((not_of_kind_tells vars v l Kind.Sym x proper over_l is_l).1 differ))
            (λ holds. differ ((of_kind_tells vars v l Kind.Sym x proper over_l is_l).0 (both_parts v (of_kind l Kind.Sym) (of_kind i Kind.Int) holds).0))
            (is ∙ ap (λ o. read_or_fail (and_then o (λ b. and_then (number_of y) (λ m. Ok (b, m)))) (λ (b, m). row b m h) h) fails_it))
            (symbol_or_not x)

      -- the elements of a list term
      elements_right : (ts : PureTerms) (ws : List PureValue) → values v ts ≡ Some ws → Each (IsOver vars) (to_list ts) → (r : ActionResult) → r ≡ read_or_fail (address_parts ws) (λ (b, m). row b m h) h → IsHeapOf Block r.heap → IsRight Block v r (by_parts action (to_list ts) cs)
      elements_right (term_and l (term_and i no_terms)) ws have over_ts r is keeps =
          let (x, (us, (first, rest, whole))) = value_parts (value v l) (values v (term_and i no_terms)) ws have in
          let (y, (zs, (second, last, more))) = value_parts (value v i) (values v no_terms) us rest in
          two_right l i x y over_ts.0 over_ts.1.0 first second r keeps (is ∙ ap (λ us. read_or_fail (address_parts us) (λ (b, m). row b m h) h) (whole ∙ ap (λ xs. x ∷ xs) (more ∙ ap (λ xs. y ∷ xs) (sym (same_some last)))))
      elements_right no_terms ws have over_ts r is keeps = fails_always r Failure.Kind (is ∙ ap (λ us. read_or_fail (address_parts us) (λ (b, m). row b m h) h) (sym (same_some have)))
      elements_right (term_and l no_terms) ws have over_ts r is keeps =
          let (x, (us, (first, rest, whole))) = value_parts (value v l) (values v no_terms) ws have in
          fails_always r Failure.Kind (is ∙ ap (λ us. read_or_fail (address_parts us) (λ (b, m). row b m h) h) (whole ∙ ap (λ xs. x ∷ xs) (sym (same_some rest))))
      elements_right (term_and l (term_and i (term_and t ts))) ws have over_ts r is keeps =
          let (x, (us, (first, rest, whole))) = value_parts (value v l) (values v (term_and i (term_and t ts))) ws have in
          let (y, (zs, (second, others, next))) = value_parts (value v i) (values v (term_and t ts)) us rest in
          let (z, (qs, (third, last, end))) = value_parts (value v t) (values v ts) zs others in
          fails_always r Failure.Kind (is ∙ ap (λ us. read_or_fail (address_parts us) (λ (b, m). row b m h) h) (whole ∙ ap (λ xs. x ∷ xs) (next ∙ ap (λ xs. y ∷ xs) end)))

      list_from : (o : Option (List PureValue)) (w : PureValue) → option_map (λ ws. list (list_values ws)) o ≡ Some w → (ws : List PureValue) × ((o ≡ Some ws) × (w ≡ list (list_values ws)))
      list_from (Some ws) w is = (ws, (refl, sym (same_some is)))
      list_from None w is = not_none is

      unknown_right : (t : PureTerm) (w : PureValue) → IsOver vars t → value v t ≡ Some w → (Hold v (of_kind t Kind.List) → Hold v (form_of t (of_kind t Kind.List)))
          → IsRight Block v (at_address w) (branches_of (not_of_kind t Kind.List) cs (failure Failure.Kind) ++ branches_of (form_of t (of_kind t Kind.List)) cs (done true_term))
      unknown_right t w over_t is_t opens =
          let r = at_address w in
          record {
            exact = each_append (Exact Block v r) (branches_of (not_of_kind t Kind.List) cs (failure Failure.Kind)) (branches_of (form_of t (of_kind t Kind.List)) cs (done true_term))
                (exact_cases Block v r (not_of_kind t Kind.List) cs (failure Failure.Kind) (λ holds. ⊎_elim
                (λ is_list. absurd ((not_of_kind_tells vars v t Kind.List w proper over_t is_t).0 holds is_list))
                (λ (fails_it, differ). failed_for r Failure.Kind (ap (λ o. read_or_fail o (λ (b, m). row b m h) h) fails_it))
                (list_or_not w)))
                (open_cases Block v r (form_of t (of_kind t Kind.List)) cs (done true_term) (needed_open v t (of_kind t Kind.List)));
            taken = ⊎_elim
                (λ is_list. one_right (IsTaken v) (branches_of (not_of_kind t Kind.List) cs (failure Failure.Kind)) (branches_of (form_of t (of_kind t Kind.List)) cs (done true_term))
                (taken_case v (form_of t (of_kind t Kind.List)) cs (done true_term) (opens ((of_kind_tells vars v t Kind.List w proper over_t is_t).1 is_list))))
                (λ (fails_it, differ). one_left (IsTaken v) (branches_of (not_of_kind t Kind.List) cs (failure Failure.Kind)) (branches_of (form_of t (of_kind t Kind.List)) cs (done true_term))
                (taken_case v (not_of_kind t Kind.List) cs (failure Failure.Kind) ((not_of_kind_tells vars v t Kind.List w proper over_t is_t).1 differ)))
                (list_or_not w);
          }

      pub address_right : (t : PureTerm) (w : PureValue) → IsOver vars t → value v t ≡ Some w → IsHeapOf Block (at_address w).heap → IsRight Block v (at_address w) (by_address action t cs)
      address_right (list_of ts) w over_t is_t keeps =
          let (ws, (have, whole)) = list_from (values v ts) w is_t in
          elements_right ts ws have (over_elements vars ts over_t) (at_address w) (ap at_address whole ∙ ap (λ us. read_or_fail (address_parts us) (λ (b, m). row b m h) h) (values_back ws)) keeps
      address_right (literal (Literal.Int k)) w over_t is_t keeps = unknown_right (literal (Literal.Int k)) w over_t is_t (λ holds. absurd holds)
      address_right (literal (Literal.Bool k)) w over_t is_t keeps = unknown_right (literal (Literal.Bool k)) w over_t is_t (λ holds. absurd holds)
      address_right (literal (Literal.Str k)) w over_t is_t keeps = unknown_right (literal (Literal.Str k)) w over_t is_t (λ holds. absurd holds)
      address_right (literal (Literal.Kind k)) w over_t is_t keeps = unknown_right (literal (Literal.Kind k)) w over_t is_t (λ holds. absurd holds)
      address_right (literal (Literal.Proc k)) w over_t is_t keeps = unknown_right (literal (Literal.Proc k)) w over_t is_t (λ holds. absurd holds)
      address_right (variable y) w over_t is_t keeps = unknown_right (variable y) w over_t is_t (λ holds. form_holds v (variable y) w (of_kind (variable y) Kind.List) is_t holds)
      address_right (unary_of op t) w over_t is_t keeps = unknown_right (unary_of op t) w over_t is_t (λ holds. form_holds v (unary_of op t) w (of_kind (unary_of op t) Kind.List) is_t holds)
      address_right (binary_of op s t) w over_t is_t keeps = unknown_right (binary_of op s t) w over_t is_t (λ holds. form_holds v (binary_of op s t) w (of_kind (binary_of op s t) Kind.List) is_t holds)

  -- ---- the arguments

  abbrev with_address : (ℕ → ℤ → Heap → ActionResult) → List PureValue → ActionResult
  with_address row args' = read_or_fail (address_in args') (λ (b, m). row b m h) h

  one_address : (action : PureAction) (row : ℕ → ℤ → Heap → ActionResult) → DoesThere action row → (t : PureTerm) (args' : List PureValue) → IsOver vars t → values v (from_list (t ∷ [])) ≡ Some args' → IsHeapOf Block (with_address row args').heap → IsRight Block v (with_address row args') (by_address action t cs)
  one_address action row is t args' over_t have keeps =
      let (w, (is_t, whole)) = values_one v t args' have in
      subst (λ us. IsRight Block v (with_address row us) (by_address action t cs)) (sym whole) (address_right row action is t w over_t is_t (subst (λ us. IsHeapOf Block (with_address row us).heap) whole keeps))

  load_right : (args : List PureTerm) (args' : List PureValue) → Each (IsOver vars) args → values v (from_list args) ≡ Some args' → IsHeapOf Block (with_address load args').heap → IsRight Block v (with_address load args') (act_load args cs)
  load_right (t ∷ []) args' over_args have keeps = one_address (at_cell reads) load (λ a n. refl) t args' over_args.0 have keeps
  load_right [] args' over_args have keeps = fails_always (with_address load args') Failure.Arity (ap (with_address load) (sym (same_some have)))
  load_right (s ∷ t ∷ more) args' over_args have keeps = by more have
    where
      by : (more : List PureTerm) → values v (from_list (s ∷ t ∷ more)) ≡ Some args' → IsRight Block v (with_address load args') (wrong_number cs)
      by [] have_them = let (x, (y, (is_s, is_t, whole))) = values_two v s t args' have_them in fails_always (with_address load args') Failure.Arity (ap (with_address load) whole)
      by (u ∷ rest) have_them = let long = values_long v s t u rest args' have_them in fails_always (with_address load args') Failure.Arity (ap (with_address load) long.whole)

  free_right : (args : List PureTerm) (args' : List PureValue) → Each (IsOver vars) args → values v (from_list args) ≡ Some args' → IsHeapOf Block (with_address free args').heap → IsRight Block v (with_address free args') (act_free args cs)
  free_right (t ∷ []) args' over_args have keeps = one_address frees free (λ a n. refl) t args' over_args.0 have keeps
  free_right [] args' over_args have keeps = fails_always (with_address free args') Failure.Arity (ap (with_address free) (sym (same_some have)))
  free_right (s ∷ t ∷ more) args' over_args have keeps = by more have
    where
      by : (more : List PureTerm) → values v (from_list (s ∷ t ∷ more)) ≡ Some args' → IsRight Block v (with_address free args') (wrong_number cs)
      by [] have_them = let (x, (y, (is_s, is_t, whole))) = values_two v s t args' have_them in fails_always (with_address free args') Failure.Arity (ap (with_address free) whole)
      by (u ∷ rest) have_them = let long = values_long v s t u rest args' have_them in fails_always (with_address free args') Failure.Arity (ap (with_address free) long.whole)

  abbrev stores_at : List PureValue → ActionResult
  stores_at args' = read_or_fail (address_and_value_in args') (λ (b, m, u). store b m u h) h

  store_reads : (w u : PureValue) → stores_at (w ∷ u ∷ []) ≡ read_or_fail (address_of w) (λ (b, m). store b m u h) h
  store_reads w u = by (address_of w)
    where
      by : (o : _) → read_or_fail (and_then o (λ (b, m). Ok (b, m, u))) (λ (b, m, u). store b m u h) h ≡ read_or_fail o (λ (b, m). store b m u h) h
      by (Ok (b, m)) = refl
      by (Err e) = refl

  store_right : (args : List PureTerm) (args' : List PureValue) → Each (IsOver vars) args → values v (from_list args) ≡ Some args' → IsHeapOf Block (stores_at args').heap → IsRight Block v (stores_at args') (act_store args cs)
  store_right (a ∷ t ∷ []) args' over_args have keeps =
      let (w, (u, (is_a, is_t, whole))) = values_two v a t args' have in
      let e = ap stores_at whole ∙ store_reads w u in
      subst (λ r. IsRight Block v r (by_address (at_cell (writes t)) a cs)) (sym e)
      (address_right (λ b m g. store b m u g) (at_cell (writes t)) (u, (is_t, λ b m. refl)) a w over_args.0 is_a (subst (λ (r : ActionResult). IsHeapOf Block r.heap) e keeps))
  store_right [] args' over_args have keeps = fails_always (stores_at args') Failure.Arity (ap stores_at (sym (same_some have)))
  store_right (a ∷ []) args' over_args have keeps = let (w, (is_a, whole)) = values_one v a args' have in fails_always (stores_at args') Failure.Arity (ap stores_at whole)
  store_right (a ∷ t ∷ s ∷ more) args' over_args have keeps = let long = values_long v a t s more args' have in fails_always (stores_at args') Failure.Arity (ap stores_at long.whole)

-- ---- every action

pub record Given (vars : List Sort) (v : List PureValue) (fresh : Option Var) (args : List PureTerm) (cs : List PureChunk) (args' : List PureValue) (h : Heap) (op : BlockAction) : Type 0 where
  pub over_args : Each (IsOver vars) args
  pub over_chunks : Each (ChunkTerms (IsOver vars)) cs
  pub keeps : IsHeapOf Block (act_of (Some op) (fresh_symbol v fresh) args' h).heap

module _ (op : BlockAction) (action : List ℕ) (fresh : Option Var) (args : List PureTerm) (cs : List PureChunk) (is_op : action_of action ≡ Some op) (asked : MayBeAsked block_actions action fresh args (terms_of cs)) where
  module _ (vars : List Sort) (v args' : List PureValue) (h : Heap) (serves : Serves (StandFor Block) terms_of vars v fresh args cs args' h) where
    may : MayAct block_actions action (fresh_symbol v fresh) args' h
    may = serving_may_act Block (StandFor Block) terms_of block_actions (chunks_have_meaning Block) action fresh args cs vars v args' h asked serves

    result_is : block_actions.act action (fresh_symbol v fresh) args' h ≡ act_of (Some op) (fresh_symbol v fresh) args' h
    result_is = ap (λ o. act_of o (fresh_symbol v fresh) args' h) is_op

    what_is_given : Given vars v fresh args cs args' h op
    what_is_given = record {
      over_args = each_left (IsOver vars) args (all_of (terms_of cs)) serves.over;
      over_chunks = chunk_by_chunk (IsOver vars) cs (each_right (IsOver vars) args (all_of (terms_of cs)) serves.over);
      keeps = subst (λ (q : ActionResult). IsHeapOf Block q.heap) result_is (block_is_memory.keeps_heaps action (fresh_symbol v fresh) args' h serves.has_heap.is_heap may);
    }

  are_right : ((vars : List Sort) (v args' : List PureValue) (h : Heap) → Serves (StandFor Block) terms_of vars v fresh args cs args' h → IsRight Block v (act_of (Some op) (fresh_symbol v fresh) args' h) (branches_by op fresh args cs)) → AreRight action fresh args cs (branches_by op fresh args cs)
  are_right is = record {
    cover = λ vars v args' h serves.
        let r = block_actions.act action (fresh_symbol v fresh) args' h in
        let right = is vars v args' h serves in
        covered Block v r (branches_by op fresh args cs) (subst (λ q. Each (Exact Block v q) (branches_by op fresh args cs)) (sym (result_is vars v args' h serves)) right.exact) right.taken;
    exact = λ vars v args' h serves.
        subst (λ q. Each (Exact Block v q) (branches_by op fresh args cs)) (sym (result_is vars v args' h serves)) (is vars v args' h serves).exact;
  }

pub load_is_right : IsRightAction BlockAction.Load
load_is_right action fresh args cs is_op asked =
    are_right BlockAction.Load action fresh args cs is_op asked (λ vars v args' h serves.
    let given = what_is_given BlockAction.Load action fresh args cs is_op asked vars v args' h serves in
    load_right vars v h cs serves.proper given.over_chunks serves.has_heap args args' given.over_args serves.have_values given.keeps)

pub store_is_right : IsRightAction BlockAction.Store
store_is_right action fresh args cs is_op asked =
    are_right BlockAction.Store action fresh args cs is_op asked (λ vars v args' h serves.
    let given = what_is_given BlockAction.Store action fresh args cs is_op asked vars v args' h serves in
    store_right vars v h cs serves.proper given.over_chunks serves.has_heap args args' given.over_args serves.have_values given.keeps)

pub free_is_right : IsRightAction BlockAction.Free
free_is_right action fresh args cs is_op asked =
    are_right BlockAction.Free action fresh args cs is_op asked (λ vars v args' h serves.
    let given = what_is_given BlockAction.Free action fresh args cs is_op asked vars v args' h serves in
    free_right vars v h cs serves.proper given.over_chunks serves.has_heap args args' given.over_args serves.have_values given.keeps)

taken_by_alloc : (action : List ℕ) → action_of action ≡ Some BlockAction.Alloc → block_actions.takes_symbol action ≡ true
taken_by_alloc action is = ap takes_symbol_of is

module _ (action : List ℕ) (cs : List PureChunk) (is_op : action_of action ≡ Some BlockAction.Alloc) (x : Var) where
  alloc_by : (args : List PureTerm) (asked : MayBeAsked block_actions action (Some x) args (terms_of cs)) (vars : List Sort) (v args' : List PureValue) (h : Heap) (serves : Serves (StandFor Block) terms_of vars v (Some x) args cs args' h) → IsRight Block v (act_of (Some BlockAction.Alloc) (fresh_symbol v (Some x)) args' h) (branches_by BlockAction.Alloc (Some x) args cs)
  alloc_by args asked vars v args' h serves =
      let given = what_is_given BlockAction.Alloc action (Some x) args cs is_op asked vars v args' h serves in
      let (m, is_x) = fresh_value vars v serves.proper x (asked.of_sort x refl) serves.fresh_over in
      let at_m : fresh_symbol v (Some x) ≡ Some m = ap location_of is_x in
      let allowed = may BlockAction.Alloc action (Some x) args cs is_op asked vars v args' h serves in
      subst (λ s. IsRight Block v (act_of (Some BlockAction.Alloc) s args' h) (branches_by BlockAction.Alloc (Some x) args cs)) (sym at_m)
      (by_args m args args' given.over_args serves.have_values (subst (λ s. IsHeapOf Block (act_of (Some BlockAction.Alloc) s args' h).heap) at_m given.keeps) is_x
      (λ s has. let (w, held) = value_at h (key m s) has in allowed.new_in_heap m at_m (key m s, (w, (held, inl refl)))) given.over_chunks)
    where
      by_args : (m : ℕ) (args : List PureTerm) (args' : List PureValue) → Each (IsOver vars) args → values v (from_list args) ≡ Some args' → IsHeapOf Block (act_of (Some BlockAction.Alloc) (Some m) args' h).heap → value v (variable x) ≡ Some (symbol m) → ((s : _) → ¬ HasKey h (key m s)) → Each (ChunkTerms (IsOver vars)) cs
          → IsRight Block v (act_of (Some BlockAction.Alloc) (Some m) args' h) (branches_by BlockAction.Alloc (Some x) args cs)
      by_args m (n ∷ []) args' over_args have keeps is_x lacks over =
          let (w, (is_n, whole)) = values_one v n args' have in
          subst (λ us. IsRight Block v (act_of (Some BlockAction.Alloc) (Some m) us h) (make x n cs)) (sym whole)
          (make_right vars v h cs serves.proper serves.has_heap x m is_x lacks n w over_args.0 is_n (subst (λ us. IsHeapOf Block (act_of (Some BlockAction.Alloc) (Some m) us h).heap) whole keeps))
      by_args m [] args' over_args have keeps is_x lacks over = fails_always vars v h cs serves.proper over serves.has_heap (act_of (Some BlockAction.Alloc) (Some m) args' h) Failure.Arity (ap (λ us. act_of (Some BlockAction.Alloc) (Some m) us h) (sym (same_some have)))
      by_args m (n ∷ t ∷ []) args' over_args have keeps is_x lacks over = let (w, (u, (is_n, is_t, whole))) = values_two v n t args' have in fails_always vars v h cs serves.proper over serves.has_heap (act_of (Some BlockAction.Alloc) (Some m) args' h) Failure.Arity (ap (λ us. act_of (Some BlockAction.Alloc) (Some m) us h) whole)
      by_args m (n ∷ t ∷ s ∷ more) args' over_args have keeps is_x lacks over = let long = values_long v n t s more args' have in fails_always vars v h cs serves.proper over serves.has_heap (act_of (Some BlockAction.Alloc) (Some m) args' h) Failure.Arity (ap (λ us. act_of (Some BlockAction.Alloc) (Some m) us h) long.whole)

with_fresh : (action : List ℕ) (args : List PureTerm) (cs : List PureChunk) → action_of action ≡ Some BlockAction.Alloc → (fresh : Option Var) → MayBeAsked block_actions action fresh args (terms_of cs) → AreRight action fresh args cs (branches_by BlockAction.Alloc fresh args cs)
with_fresh action args cs is_op None asked = absurd (true≢false (sym (asked.fresh_where_taken.1 (taken_by_alloc action is_op))))
with_fresh action args cs is_op (Some x) asked = are_right BlockAction.Alloc action (Some x) args cs is_op asked (alloc_by action cs is_op x args asked)

pub alloc_is_right : IsRightAction BlockAction.Alloc
alloc_is_right action fresh args cs is_op asked = with_fresh action args cs is_op fresh asked
