-- Each heap that is what the uses of a beginning say is one with which some path begins, and each path begins with exactly that.
use Rattle.std.proofs.Common.{◌≡◌, ⊎_elim, inl, inr, ℕ, zero, suc, ◌+◌, ◌<◌, List, [], ◌∷◌, ◌++◌, length, slice_get, Bool, true, false, if◌then◌else◌, ◌||◌, Option, Some, None, is_some, IsSome, refl, sym, ap, subst, ◌∙◌, true≢false, arith}
use Rattle.std.specs.FinMap.{empty}
use Rattle.std.specs.List.{list_all}
use Rattle.std.specs.Option.{option_or}
use Rattle.std.specs.Str.{bytes_eq}
use Rattle.std.proofs.lemmas.Bool.{cases_lt}
use Rattle.std.proofs.lemmas.List.{length-append}
use Rattle.std.proofs.lemmas.Option.{slice_get_within}
use Rattle.std.proofs.lemmas.Slice.Eq.{bytes_eq-Decides}
use Rattle.gil_values.specs.Pure.{PureValue}
use Rattle.gil_syntax.specs.Evaluation.{value_of}
use Rattle.gil_syntax.specs.Pure.{PureProc}
use Rattle.gil_syntax.specs.Valid.{is_among, has_twice}
use Rattle.gil_syntax.specs.WellMade.{is_program_name}
use Rattle.mem_model.specs.declared.cores.Core.{Core}
use Rattle.mem_model.specs.declared.keys.MemoryName.{MemoryName}
use Rattle.mem_model.specs.CoreNames.{core_of}
use Rattle.mem_model.specs.Heaps.{Heap, IsHeapOf}
use Rattle.assert_logic.specs.Adding.{IsAdding}
use Rattle.assert_logic.specs.LogicStates.{Fact, LogicState, nothing, FactsHold}
use Rattle.assert_logic.specs.Meets.{Meets, HoldsAt, HoldsSomewhere}
use Rattle.assert_logic.proofs.AddingLaws.{adding_is_complete}
use Rattle.assert_logic.proofs.UnionLaws.{union_commutes, union_with_none, union_after_none, only_second}
use Rattle.assertion_terms.specs.Laws.{NamesValues, AreUsesOver}
use Rattle.assertion_terms.specs.Named.{numbered_from, table_names, assertion_of}
use Rattle.assertion_terms.proofs.Evaluated.{there_is}
use Rattle.assertion_terms.proofs.Forms.{named_forms_are_right}
use Rattle.assertion_terms.proofs.Tables.{tables_are_named}
use Rattle.pure_terms.specs.declared.variables.Sort.{Sort}
use Rattle.pure_terms.specs.Meaning.{IsProper, Satisfies, IsUnsatisfiable}
use Rattle.pure_terms.specs.Pure.{PureTerm, variable}
use Rattle.sym_evaluation.specs.Meaning.{AreSame}
use Rattle.sym_evaluation.specs.Pure.{PureStore, term_at}
use Rattle.sym_model.specs.Cores.{TakesBoth}
use Rattle.sym_model.specs.Listing.{AreUnion}
use Rattle.sym_model.specs.Lists.{Each, OneOf}
use Rattle.sym_model.specs.Meaning.{has_open}
use Rattle.sym_model.specs.Terms.{AreEachOver}
use Rattle.sym_model.proofs.ListLaws.{same_some, not_none, each_to, one_with, one_left, one_right}
use Rattle.sym_paths.specs.Beginning.{beginning, Begins}
use Rattle.sym_paths.specs.Pure.{PurePath}
use Rattle.sym_states.specs.Pure.{PureState}
use Rattle.bi_beginnings.specs.Beginnings.{PureBeginning, IsBeginning, BeginsWith, BeginsExactly, CoversBeginning}
use Rattle.bi_beginnings.specs.Opening.{HasVariables, named_further, IsNamedFurther, AreNamed, IsEnteredWith, AreEntered, IsEnteredExactly, IsOpenedBy}
use Rattle.bi_beginnings.proofs.Added.{uses_added}
use Rattle.bi_beginnings.proofs.Entering.{store_of_values, variables_stand}

-- ---- names that differ

among_at : (xs : List (List ℕ)) (i : ℕ) (x : List ℕ) → slice_get xs i ≡ Some x → is_among xs x ≡ true
among_at [] i x at = not_none at
among_at (y ∷ ys) zero x at = ap (λ b. b || is_among ys x) ((bytes_eq-Decides x y).1 (sym (same_some at)))
among_at (y ∷ ys) (suc i) x at = by (bytes_eq x y) (among_at ys i x at)
  where
    by : (b : Bool) → is_among ys x ≡ true → (b || is_among ys x) ≡ true
    by true is = refl
    by false is = is

none_of_two : (a b : Bool) → (a || b) ≡ false → (a ≡ false) × (b ≡ false)
none_of_two true b is = absurd (true≢false is)
none_of_two false b is = (refl, is)

apart : (xs : List (List ℕ)) (i j : ℕ) (x y : List ℕ) → has_twice xs ≡ false → i < j → slice_get xs i ≡ Some x → slice_get xs j ≡ Some y → ¬ (x ≡ y)
apart [] i j x y once less at_x at_y same = not_none at_x
apart (z ∷ zs) i zero x y once less at_x at_y same = absurd (omega (arith, less))
apart (z ∷ zs) zero (suc j) x y once less at_x at_y same =
    let (lacks, later) = none_of_two (is_among zs z) (has_twice zs) once in
    true≢false (sym (among_at zs j z (at_y ∙ ap Some (sym same ∙ sym (same_some at_x)))) ∙ lacks)
apart (z ∷ zs) (suc i) (suc j) x y once less at_x at_y same =
    let (lacks, later) = none_of_two (is_among zs z) (has_twice zs) once in
    apart zs i j x y later (omega (arith, less)) at_x at_y same

not_same : (x y : List ℕ) → ¬ (x ≡ y) → bytes_eq x y ≡ false
not_same x y other = by (bytes_eq x y) refl
  where
    by : (b : Bool) → bytes_eq x y ≡ b → b ≡ false
    by true same = absurd (other ((bytes_eq-Decides x y).0 same))
    by false isnt = refl

-- ---- names that have their variables

other_kept : (o : Option Sort) (n : ℕ) (x : List ℕ) (before : PureStore) (y : List ℕ) → bytes_eq x y ≡ false → named_further o n x before y ≡ term_at before y
other_kept (Some sort) n x before y other = ap (λ b. if b then Some (variable (record { number = n; sort = sort })) else term_at before y) other
other_kept None n x before y other = refl

this_named : (sort : Sort) (n : ℕ) (x : List ℕ) (before : PureStore) (y : List ℕ) → bytes_eq x y ≡ true → named_further (Some sort) n x before y ≡ Some (variable (record { number = n; sort = sort }))
this_named sort n x before y same = ap (λ b. if b then Some (variable (record { number = n; sort = sort })) else term_at before y) same

pub none_named : (names : List (List ℕ)) (vars : List Sort) (bs : PureStore) → AreNamed names vars 0 bs
none_named names vars bs i x sort less at in_table = absurd (omega (arith, less))

pub one_more_named : (names : List (List ℕ)) (vars : List Sort) (n : ℕ) (x : List ℕ) (before after : PureStore) → has_twice names ≡ false → slice_get names n ≡ Some x
    → IsNamedFurther vars n x before after → AreNamed names vars n before → AreNamed names vars (n + 1) after
one_more_named names vars n x before after once at_n further named i y sort less at_y in_table = ⊎_elim (λ below. earlier below) (λ past. last (omega (arith, less, past))) (cases_lt i n)
  where
    earlier : i < n → term_at after y ≡ Some (variable (record { number = i; sort = sort }))
    earlier below =
        further y ∙ other_kept (slice_get vars n) n x before y (not_same x y (λ same. apart names i n y x once below at_y at_n (sym same)))
        ∙ named i y sort below at_y in_table

    last : i ≡ n → term_at after y ≡ Some (variable (record { number = i; sort = sort }))
    last is =
        further y ∙ ap (λ o. named_further o n x before y) (ap (slice_get vars) (sym is) ∙ in_table)
        ∙ this_named sort n x before y ((bytes_eq-Decides x y).1 (same_some (sym at_n ∙ ap (slice_get names) (sym is) ∙ at_y)))
        ∙ ap (λ k. Some (variable (record { number = k; sort = sort }))) (sym is)

-- ---- no fact of a predicate that isn't there

no_pred : (k : ℕ) (name : List ℕ) (ins outs : List PureValue) (h : Heap) → HoldsAt [] k name ins outs h → ⊥
no_pred zero name ins outs h holds = holds
no_pred (suc k) name ins outs h holds = not_none holds.found

no_facts : (fs : List Fact) (h : Heap) → FactsHold (HoldsSomewhere []) fs h → h ≡ empty
no_facts [] h is = is
no_facts (f ∷ fs) h (part, (rest, (union, (holds, later)))) = absurd (no_pred holds.0 f.pred f.ins f.outs part holds.1)

-- ---- what is added

numbered_many : (n count : ℕ) → length (numbered_from n count) ≡ count
numbered_many n zero = refl
numbered_many n (suc count) = ap suc (numbered_many (suc n) count)

core_there : (o : Option Core) (core : Core) → o ≡ Some core → IsSome o
core_there o core is = ap is_some is

module _ (memory : MemoryName) (params : List (List ℕ)) (b : PureBeginning) (is : IsBeginning memory params b) (others : ℕ) (counted : length params + others ≡ length b.vars) (names : List (List ℕ))
    (are : names ≡ table_names params others) (bs : PureStore) (has : HasVariables b.vars bs) (named : AreNamed names b.vars (length names) bs) where
  as_many : length names ≡ length b.vars
  as_many = ap length are ∙ length-append params (numbered_from (length params) others) ∙ ap (λ n. length params + n) (numbered_many (length params) others) ∙ counted

  valued : (v : List PureValue) (i : ℕ) (sort : Sort) (w : PureValue) (o : Option PureValue) → AreSame v (Some (variable (record { number = i; sort = sort }))) o → slice_get v i ≡ Some w → o ≡ Some w
  valued v i sort w (Some u) same at = sym same ∙ at
  valued v i sort w None same at = absurd same

  names_values : (v : List PureValue) → IsProper b.vars v → NamesValues b.vars names v (store_of_values v bs)
  names_values v proper = record {
    names_each = as_many;
    values_each = proper.one_each;
    agrees = λ i x w at_x at_w.
        let less : i < length names = slice_get_within names i x at_x in
        let many = as_many in
        let (sort, in_table) = there_is b.vars i (omega (arith, less, many)) in
        valued v i sort w (value_of (store_of_values v bs) x)
        (subst (λ o. AreSame v o (value_of (store_of_values v bs) x)) (named i x sort less at_x in_table) (variables_stand b.vars v bs proper has x)) at_w;
  }

  uses_over : AreUsesOver b.vars b.uses
  uses_over = each_to (λ u. TakesBoth memory u.core u.ins u.outs × AreEachOver b.vars (u.ins ++ u.outs)) (λ u. IsSome (core_of u.core) × AreEachOver b.vars (u.ins ++ u.outs)) b.uses
      (λ u both. (core_there (core_of u.core) both.0.core both.0.of_memory.named, both.1)) is.uses

  -- what the items of the uses come to, added to nothing, has the heap that the uses say
  pub adds_uses : (v : List PureValue) (m : LogicState) → IsProper b.vars v → IsAdding memory (store_of_values v bs) (assertion_of names b.uses []) nothing m → AreUnion v b.uses m.heap
  adds_uses v m proper adding = uses_added b.vars names v (store_of_values v bs) (names_values v proper) [] b.uses nothing m uses_over refl adding.added_is

  -- a heap that is what the uses say is added to nothing
  pub is_added : (v : List PureValue) (own : Heap) → Satisfies b.vars v b.conds → AreUnion v b.uses own → IsHeapOf memory own
      → (m : LogicState) × (IsAdding memory (store_of_values v bs) (assertion_of names b.uses b.conds) nothing m × (m.heap ≡ own))
  is_added v own meets union is_heap =
      let met : Meets (HoldsSomewhere []) (store_of_values v bs) (assertion_of names b.uses b.conds) own =
      ((named_forms_are_right b.vars names v (store_of_values v bs) (names_values v meets.proper)).meets [] b.uses b.conds own uses_over is.conds).1 (union, meets.true_there)
      in
      let (t, (added_is, realizes)) = adding_is_complete [] (store_of_values v bs) (assertion_of names b.uses b.conds) nothing empty own own (record { own = empty; union = union_with_none empty; facts = refl }) (union_after_none own) met in
      let same : own ≡ t.heap = only_second own realizes.own t.heap (union_commutes own t.heap realizes.own realizes.union) (no_facts t.facts realizes.own realizes.facts) in
      (t, (record { added_is = added_is; well_formed = subst (IsHeapOf memory) same is_heap }, sym same))

-- the names of a table of a procedure of a program are different
pub different_names : (params : List (List ℕ)) (others : ℕ) (names : List (List ℕ)) → names ≡ table_names params others → list_all is_program_name params ≡ true → has_twice params ≡ false → has_twice names ≡ false
different_names params others names are programs once = ap has_twice are ∙ (tables_are_named params others).distinct programs once

-- ---- what comes of states

module _ {S : Type 0} (stands : S → List PureValue → Heap → Type 0) where
  begins_so : (q : PureProc) (args : List PureTerm) (s : PureState S) (path : PurePath S) → Begins q args s.vars s.conds s.memory path → has_open s.conds ≡ false
      → (vars : List Sort) (v : List PureValue) (own : Heap) → IsEnteredWith stands vars v own s → BeginsWith stands vars v own path
  begins_so q args s path begins no_form vars v own entered =
      let first : BeginsWith stands vars v own (beginning q begins.store s.vars s.conds s.memory) = record {
        table = entered.table;
        meets = entered.meets;
        heap = ⊎_elim (λ needed. absurd (true≢false (sym needed ∙ no_form))) (λ there. there) entered.heap;
      } in
      subst (BeginsWith stands vars v own) (sym begins.is) first

  -- a path that begins in a state begins with exactly what that is entered with
  pub begins_exactly : (q : PureProc) (args : List PureTerm) (b : PureBeginning) (s : PureState S) (path : PurePath S) → Begins q args s.vars s.conds s.memory path → has_open s.conds ≡ false
      → IsEnteredExactly stands b s → BeginsExactly stands b path
  begins_exactly q args b s path begins no_form exact =
      let first : BeginsExactly stands b (beginning q begins.store s.vars s.conds s.memory) = record {
        table = exact.table;
        lists = λ v own meets. (exact.heaps no_form v own meets).0;
        back = λ v own meets. (exact.heaps no_form v own meets).1;
      } in
      subst (BeginsExactly stands b) (sym begins.is) first

  pub opened_start : (q : PureProc) (args : List PureTerm) (s : PureState S) (path : PurePath S) (U : Type 0) → Begins q args s.vars s.conds s.memory path → has_open s.conds ≡ false
      → IsOpenedBy stands s U (path ∷ [])
  opened_start q args s path U begins no_form vars v own entered = inr (inl (begins_so q args s path begins no_form vars v own entered))

  pub opened_nowhere : (s : PureState S) (U : Type 0) → IsUnsatisfiable s.vars s.conds → IsOpenedBy stands s U []
  opened_nowhere s U unsat vars v own entered = absurd (unsat v entered.meets)

  pub opened_undecided : (s : PureState S) (U : Type 0) (starts : List (PurePath S)) → U → IsOpenedBy stands s U starts
  opened_undecided s U starts there vars v own entered = inl there

  -- with further paths, and a list that is left undecided or was before
  pub opened_more : (s : PureState S) (U W : Type 0) (before more after : List (PurePath S)) → (U → W) → after ≡ before ++ more → IsOpenedBy stands s U before → IsOpenedBy stands s W after
  opened_more s U W before more after still is opened vars v own entered =
      ⊎_elim (λ u. inl (still u)) (λ one. inr (subst (OneOf (BeginsWith stands vars v own)) (sym is) (one_left (BeginsWith stands vars v own) before more one))) (opened vars v own entered)

  pub opened_last : (s : PureState S) (U W : Type 0) (before more after : List (PurePath S)) → (U → W) → after ≡ before ++ more → IsOpenedBy stands s U more → IsOpenedBy stands s W after
  opened_last s U W before more after still is opened vars v own entered =
      ⊎_elim (λ u. inl (still u)) (λ one. inr (subst (OneOf (BeginsWith stands vars v own)) (sym is) (one_right (BeginsWith stands vars v own) before more one))) (opened vars v own entered)

  -- states that are entered with each heap, of which each is opened
  pub all_opened : (memory : MemoryName) (b : PureBeginning) (ss : List (PureState S)) (U : Type 0) (starts : List (PurePath S)) → AreEntered memory stands b ss → Each (λ s. IsOpenedBy stands s U starts) ss
      → CoversBeginning memory stands b U starts
  all_opened memory b ss U starts entered opened v own meets union is_heap =
      one_with (λ s. IsOpenedBy stands s U starts) (IsEnteredWith stands b.vars v own) ss opened (entered v own meets union is_heap) (λ s by entered. by b.vars v own entered)

-- a list that was left, or is left now
pub some_first : {A : Type 0} (o p after : Option A) → after ≡ option_or o p → IsSome o → IsSome after
some_first o p after is there = subst IsSome (sym is) (by o there)
  where
    by : (r : Option _) → IsSome r → IsSome (option_or r p)
    by (Some x) here = refl
    by None here = absurd (true≢false (sym here))

pub some_second : {A : Type 0} (o p after : Option A) → after ≡ option_or o p → IsSome p → IsSome after
some_second o p after is there = subst IsSome (sym is) (by o)
  where
    by : (r : Option _) → IsSome (option_or r p)
    by (Some x) = refl
    by None = there
