-- The paths that begin in the states that adding a precondition gives.
use Rattle.std.proofs.Common.{◌≡◌, ◌⊎◌, ⊎_elim, inl, inr, ℕ, zero, suc, List, [], ◌∷◌, ◌++◌, length, drop, slice_get, Bool, true, false, Option, Some, None, Result, Ok, Err, IfOk, is_some, IsTrue, refl, sym, ap, subst, ◌∙◌, true≢false, if◌then◌else◌, arith}
use Rattle.std.specs.Option.{option_map}
use Rattle.std.specs.Str.{bytes_eq}
use Rattle.std.proofs.lemmas.Bool.{and_parts}
use Rattle.std.proofs.lemmas.List.Elements.{Contains-append_cases}
use Rattle.std.proofs.lemmas.Slice.Eq.{bytes_eq-Decides}
use Rattle.gil_values.specs.Pure.{PureValue}
use Rattle.gil_values.specs.Symbols.{symbols, symbols_of_all, IsBelow, AreBelow}
use Rattle.gil_values.proofs.OperatorSymbols.{none_contained}
use Rattle.gil_syntax.specs.Evaluation.{Store, value_of}
use Rattle.gil_syntax.specs.Programs.{find_proc}
use Rattle.gil_syntax.specs.Pure.{PureItem, PureProc, PureSpec, PureParts}
use Rattle.gil_syntax.specs.Valid.{param_names, is_among, has_twice}
use Rattle.gil_syntax.specs.WellMade.{has_hash, are_program_names}
use Rattle.gil_machine.specs.Proper.{IsStoreBelow}
use Rattle.gil_machine.specs.Run.{start, params_of}
use Rattle.gil_machine.specs.Step.{bind_all}
use Rattle.mem_model.specs.declared.keys.MemoryName.{MemoryName}
use Rattle.mem_model.specs.Actions.{Actions}
use Rattle.mem_model.specs.Heaps.{Heap}
use Rattle.assert_logic.specs.Adding.{IsAdding}
use Rattle.assert_logic.specs.LogicStates.{LogicState, nothing}
use Rattle.assert_logic.specs.Names.{named_by_items}
use Rattle.checked_runs.specs.Checked.{Checked, IsStart}
use Rattle.checked_runs.specs.Specifications.{IsEntry, entry_store}
use Rattle.checked_runs.proofs.Stores.{second_value, args_agree, fit_length, program_name}
use Rattle.pure_terms.specs.declared.variables.Sort.{Sort}
use Rattle.pure_terms.specs.Meaning.{all_true, IsProper, IsOver}
use Rattle.pure_terms.specs.Pure.{PureTerm, PureAtom, term_of}
use Rattle.sym_evaluation.specs.Meaning.{HaveValues, StandsFor, IsStoreOver}
use Rattle.sym_evaluation.specs.Pure.{PureStore}
use Rattle.sym_model.specs.Lists.{Each, OneOf, IsAmong}
use Rattle.sym_model.specs.Meaning.{has_open}
use Rattle.sym_model.specs.Terms.{StateTerms, all_of, AreEachOver}
use Rattle.sym_model.proofs.ListLaws.{same_some, not_none, each_to}
use Rattle.sym_states.proofs.AddedNames.{added_known}
use Rattle.sym_paths.specs.Beginning.{Begins, BeginningsStand}
use Rattle.sym_paths.specs.Meaning.{Stands as PathStands}
use Rattle.sym_paths.specs.Pure.{PurePath}
use Rattle.sym_states.specs.Laws.{ComeFromItems}
use Rattle.sym_states.specs.Meaning.{Stands, Serves, IsOverTable, AreFacts}
use Rattle.sym_states.specs.Producing.{IsProduced, is_begun, is_added, IsStopped, added_conds}
use Rattle.sym_states.specs.Pure.{PureFact, PureState}
use Rattle.sym_beginning.specs.Beginning.{PureStart, PureBeginnings, IsEntryUnder, IsBegunFrom, CoversStarts, IsRealStart, AreStarts, IsBeginning, AreBeginnings}
use Rattle.sym_beginning.specs.Entering.{PureEntryTerms, IsFullEntry, AreEntryValues, IsValueOfEntry, Enters}
use Rattle.sym_beginning.specs.Starting.{StartsFrom, EachWith, BeginsWith, no_beginnings}
use Rattle.sym_beginning.proofs.EntryLaws.{names_length, nothing_over, unbound}

-- ---- pairs of elements

one_with_pair : {A B : Type 0} (R : A → B → Type 0) (P : A → Type 0) (Q : B → Type 0) (xs : List A) (ys : List B) → EachWith R xs ys → OneOf P xs → ((x : A) (y : B) → R x y → P x → Q y) → OneOf Q ys
one_with_pair R P Q [] ys pairs one f = absurd one
one_with_pair R P Q (x ∷ xs) [] pairs one f = absurd pairs
one_with_pair R P Q (x ∷ xs) (y ∷ ys) pairs (inl here) f = inl (f x y pairs.0 here)
one_with_pair R P Q (x ∷ xs) (y ∷ ys) pairs (inr later) f = inr (one_with_pair R P Q xs ys pairs.1 later f)

pub each_with_pair : {A B : Type 0} (R : A → B → Type 0) (P : A → Type 0) (Q : B → Type 0) (xs : List A) (ys : List B) → EachWith R xs ys → Each P xs → ((x : A) (y : B) → R x y → P x → Q y) → Each Q ys
each_with_pair R P Q [] [] pairs all f = tt
each_with_pair R P Q [] (y ∷ ys) pairs all f = absurd pairs
each_with_pair R P Q (x ∷ xs) [] pairs all f = absurd pairs
each_with_pair R P Q (x ∷ xs) (y ∷ ys) pairs all f = (f x y pairs.0 all.0, each_with_pair R P Q xs ys pairs.1 all.1 f)

pub pairs_more : {A B : Type 0} (R : A → B → Type 0) (xs : List A) (ys : List B) (x : A) (y : B) → EachWith R xs ys → R x y → EachWith R (xs ++ x ∷ []) (ys ++ y ∷ [])
pairs_more R [] [] x y pairs is = (is, tt)
pairs_more R [] (z ∷ ys) x y pairs is = absurd pairs
pairs_more R (w ∷ xs) [] x y pairs is = absurd pairs
pairs_more R (w ∷ xs) (z ∷ ys) x y pairs is = (pairs.0, pairs_more R xs ys x y pairs.1 is)

each_under : {V A : Type 0} (Q : V → A → Type 0) (xs : List A) → ((v : V) → Each (Q v) xs) → Each (λ x. (v : V) → Q v x) xs
each_under Q [] all = tt
each_under Q (x ∷ xs) all = ((λ v. (all v).0), each_under Q xs (λ v. (all v).1))

pub each_both : {A : Type 0} (P Q R : A → Type 0) (xs : List A) → ((x : A) → P x → Q x → R x) → Each P xs → Each Q xs → Each R xs
each_both P Q R [] f first second = tt
each_both P Q R (x ∷ xs) f first second = (f x first.0 second.0, each_both P Q R xs f first.1 second.1)

-- ---- symbols below a counter

pub all_below : (counter : ℕ) (v : List PureValue) → Each (IsBelow counter) v → AreBelow counter v
all_below counter [] all n occurs = absurd (none_contained n occurs)
all_below counter (w ∷ v) all n occurs = ⊎_elim (all.0 n) (all_below counter v all.1 n) (Contains-append_cases (symbols w) (symbols_of_all v) n occurs)

found_name : (qs : List PureProc) (f : List ℕ) (q : PureProc) → find_proc qs f ≡ Some q → q.name ≡ f
found_name [] f q is = not_none is
found_name (r ∷ qs) f q is = by (bytes_eq r.name f) refl (found_name qs f q) is
  where
    by : (b : Bool) → bytes_eq r.name f ≡ b → (find_proc qs f ≡ Some q → q.name ≡ f) → (if b then Some r else find_proc qs f) ≡ Some q → q.name ≡ f
    by true same later found = ap (λ (x : PureProc). x.name) (sym (same_some found)) ∙ (bytes_eq-Decides r.name f).0 same
    by false other later found = later found

-- a value among the arguments is that of a parameter
named_argument : (xs : List (List ℕ)) (ws : List PureValue) (w : PureValue) → length xs ≡ length ws → IsAmong w ws → (i : ℕ) × ((x : List ℕ) × ((slice_get xs i ≡ Some x) × (slice_get ws i ≡ Some w)))
named_argument xs [] w as_many among = absurd among
named_argument [] (u ∷ ws) w as_many among = absurd (omega (arith, as_many))
named_argument (x ∷ xs) (u ∷ ws) w as_many (inl is) = (zero, (x, (refl, ap Some is)))
named_argument (x ∷ xs) (u ∷ ws) w as_many (inr later) = let (i, (y, (name, at))) = named_argument xs ws w (omega (arith, as_many)) later in (suc i, (y, (name, at)))

module _ {S : Type 0} (memory : MemoryName) (stands : S → List PureValue → Heap → Type 0) (terms : S → StateTerms) (kept : S → Type 0) (bs : PureStore) (s : PureState S) where
  same_table : (items : List PureItem) (r : PureState S) → IsProduced terms bs s items r → r.vars ≡ s.vars
  same_table items r (is_begun is same) = ap (λ (x : PureState S). x.vars) is
  same_table items r (is_added {items = xs} {q = q} before next) = ap (λ (x : PureState S). x.vars) next.same_else ∙ same_table xs q before

  pub still_table : (items : List PureItem) (rs : List (PureState S)) → ComeFromItems stands terms bs items s rs → Each (λ r. r.vars ≡ s.vars) rs
  still_table items [] come = tt
  still_table items (r ∷ rs) come = (
    ⊎_elim (λ whole. same_table items r whole) (λ (half : IsStopped stands terms bs s items r). ap (λ (x : PureState S). x.vars) half.last.same_else ∙ same_table half.before half.at half.produced) come.0,
    still_table items rs come.1,
  )

module _ {S : Type 0} (memory : MemoryName) (stands : S → List PureValue → Heap → Type 0) (terms : S → StateTerms) (kept : S → Type 0) (plain : _)
    (paths : BeginningsStand stands terms plain) (p : PureParts) (m : Actions) (q : PureProc) (spec : PureSpec)
    (found : find_proc p.procs spec.name ≡ Some q) (same_params : q.params ≡ param_names spec.params) (once : has_twice (param_names spec.params) ≡ false)
    (program : are_program_names spec.params ≡ true) (e : PureEntryTerms) (enters : Enters spec e) (b : PureBeginnings S) (begins : BeginsWith memory stands terms kept q spec.pre e b) where
  named : q.name ≡ spec.name
  named = found_name p.procs spec.name q found

  first : PureState S
  first = begins.first

  is_over : IsOverTable terms begins.first
  is_over = record {
    conds = subst (λ (cs : List PureAtom). Each (λ a. IsOver begins.first.vars (term_of a)) cs) (sym begins.is_first.conds) tt;
    given = subst (λ (cs : List PureAtom). Each (λ a. IsOver begins.first.vars (term_of a)) cs) (sym begins.is_first.given) tt;
    memory = subst (λ (ts : StateTerms). AreEachOver begins.first.vars (all_of ts)) (sym begins.is_first.no_terms) tt;
    facts = subst (λ (cs : List PureFact). Each (λ c. AreEachOver begins.first.vars (c.ins ++ c.outs)) cs) (sym begins.is_first.facts) tt;
  }

  store_over : IsStoreOver begins.first.vars e.store
  store_over = subst (λ (vars : List Sort). IsStoreOver vars e.store) (sym begins.is_first.table) enters.store_over

  serves : (v : List PureValue) (args : List PureValue) (variables : Store) → IsProper e.vars v → AreEntryValues e spec v args variables → Serves stands terms begins.first e.store v (entry_store spec args variables) nothing
  serves v args variables proper values = record {
    over = is_over;
    store_over = store_over;
    store = values.store_is;
    state = record {
      proper = subst (λ (vars : List Sort). IsProper vars v) (sym begins.is_first.table) proper;
      meets = subst (λ (cs : List PureAtom). IsTrue (all_true v cs)) (sym begins.is_first.conds) refl;
      memory = begins.is_first.heap v;
      facts = subst (λ (cs : List PureFact). AreFacts v cs []) (sym begins.is_first.facts) tt;
    };
  }

  tables : Each (λ r. r.vars ≡ e.vars) begins.states
  tables = each_to (λ r. r.vars ≡ begins.first.vars) (λ r. r.vars ≡ e.vars) begins.states (λ r same. same ∙ begins.is_first.table) (still_table memory stands terms kept e.store begins.first spec.pre begins.states begins.origin)

  all_are_new : (r : PureState S) → added_conds begins.first r ≡ r.conds
  all_are_new r = ap (λ (cs : List PureAtom). drop (length cs) r.conds) begins.is_first.conds

  -- the parts of a path that begins
  conds_are : (r : PureState S) (t : PureStart S) → StartsFrom q e.args r t → t.path.conds ≡ r.conds
  conds_are r t from = ap (λ (x : PurePath S). x.conds) from.begins.is

  memory_is : (r : PureState S) (t : PureStart S) → StartsFrom q e.args r t → t.path.memory ≡ r.memory
  memory_is r t from = ap (λ (x : PurePath S). x.memory) from.begins.is

  under : (v : List PureValue) (args : List PureValue) (variables : Store) → IsProper e.vars v → AreEntryValues e spec v args variables → IsEntryUnder b v args variables
  under v args variables proper values = record {
    proper = subst (λ (vars : List Sort). IsProper vars v) (sym begins.table) proper;
    args_are = subst (λ (ts : List PureTerm). HaveValues v ts args) (sym begins.args) values.args_are;
    variables_are = subst (λ (bs : PureStore). StandsFor v bs variables) (sym begins.variables) values.variables_are;
  }

  module _ (args : List PureValue) (variables : Store) (c : Checked) (is_start : IsStart p memory m (record { spec = spec; args = args; variables = variables }) c) where
    full : IsFullEntry spec args variables
    full = record {
      entered = is_start.entered;
      known = λ x is.
          let (hash, among) = and_parts (has_hash x) (named_by_items spec.pre x) is in
          let other : is_among (param_names spec.params) x ≡ false = not_param x hash (is_among (param_names spec.params) x) refl in
          let there = added_known (entry_store spec args variables) spec.pre nothing is_start.state is_start.adding.added_is x among in
          ap is_some (sym (second_value (bind_all (param_names spec.params) args) variables x (unbound (param_names spec.params) args x other))) ∙ there;
    }
      where
        not_param : (x : List ℕ) → has_hash x ≡ true → (b : Bool) → is_among (param_names spec.params) x ≡ b → b ≡ false
        not_param x hash true among = absurd (true≢false (sym hash ∙ program_name spec.params x program among))
        not_param x hash false other = refl

    -- the machine's state at the start, by the procedure
    machine_is : c.machine ≡ start p q.name args is_start.state.heap is_start.counter
    machine_is = ap (λ (x : Checked). x.machine) is_start.is_start ∙ ap (λ f. start p f args is_start.state.heap is_start.counter) (sym named)

    args_below : (w : PureValue) → IsAmong w args → IsBelow is_start.counter w
    args_below w among =
        let (i, (x, (name, at))) = named_argument (param_names spec.params) args w (fit_length spec.params args is_start.entered.arguments_fit) among in
        let bound : value_of (bind_all (param_names spec.params) args) x ≡ Some w = args_agree (param_names spec.params) args once i x w name at in
        let params_are : params_of (find_proc p.procs spec.name) ≡ param_names spec.params = ap params_of found ∙ same_params in
        let there : value_of (bind_all (params_of (find_proc p.procs spec.name)) args) x ≡ Some w = ap (λ xs. value_of (bind_all xs args) x) params_are ∙ bound in
        current_below x w there
      where
        current_below : IsStoreBelow is_start.counter (bind_all (params_of (find_proc p.procs spec.name)) args)
        current_below x w at =
            let P : Checked → Type 0 = λ (d : Checked). value_of d.machine.current.store x ≡ Some w → IsBelow d.machine.counter w in
            subst P is_start.is_start (is_start.above.current_below x w) at

    module _ (v : List PureValue) (proper : IsProper e.vars v) (values : AreEntryValues e spec v args variables) (come : Each (IsValueOfEntry args variables) v) where
      below : AreBelow is_start.counter v
      below = all_below is_start.counter v (each_below v come)
        where
          each_below : (ws : List PureValue) → Each (IsValueOfEntry args variables) ws → Each (IsBelow is_start.counter) ws
          each_below [] all = tt
          each_below (w ∷ ws) all = (⊎_elim (args_below w) (λ (one : (x : List ℕ) × (value_of variables x ≡ Some w)). is_start.variables_below one.0 w one.1) all.0, each_below ws all.1)

      begun : (r : PureState S) (t : PureStart S) → StartsFrom q e.args r t → IsTrue (all_true v r.conds) × (IsTrue (has_open (added_conds begins.first r)) ⊎ Stands stands r v is_start.state) → IsBegunFrom b p memory m stands spec v c t
      begun r t from is = record {
        meets = subst (λ (cs : List PureAtom). IsTrue (all_true v cs)) (sym (conds_are r t from)) is.0;
        stands_for = ⊎_elim
            (λ form. inl (subst (λ (cs : List PureAtom). IsTrue (has_open cs)) (all_are_new r ∙ sym (conds_are r t from)) form))
            (λ there. inr (
              subst (PathStands stands t.path v) (sym machine_is) (paths.starts p q e.args r.vars r.conds r.memory t.path from.begins (ap (find_proc p.procs) named ∙ found) v args is_start.state.heap is_start.counter values.args_are there.proper there.meets there.memory below),
              subst (AreFacts v t.facts) (sym (ap (λ (x : Checked). x.facts) is_start.is_start)) (subst (λ (cs : List PureFact). AreFacts v cs is_start.state.facts) (sym from.facts) there.facts),
            )) is.1;
      }

      one_begun : OneOf (IsBegunFrom b p memory m stands spec v c) b.starts
      one_begun =
          one_with_pair (StartsFrom q e.args) (λ r. IsTrue (all_true v r.conds) × (IsTrue (has_open (added_conds begins.first r)) ⊎ Stands stands r v is_start.state)) (IsBegunFrom b p memory m stands spec v c)
          begins.states b.starts begins.starts (begins.cover v (entry_store spec args variables) nothing is_start.state (serves v args variables proper values) is_start.adding) begun

  pub covers_starts : CoversStarts b p memory m stands spec
  covers_starts args variables c is_start =
      let (v, (proper, (values, come))) = enters.cover args variables (full args variables c is_start) in
      (v, (under v args variables proper values, one_begun args variables c is_start v proper values come))

  module _ (v : List PureValue) (proper : IsProper e.vars v) where
    real : (args : List PureValue) (variables : Store) → IsEntry spec args variables → AreEntryValues e spec v args variables → (r : PureState S) (t : PureStart S) → StartsFrom q e.args r t
        → (IsTrue (all_true v r.conds) → has_open (added_conds begins.first r) ≡ false → (l : LogicState) × (IsAdding memory (entry_store spec args variables) spec.pre nothing l × Stands stands r v l))
        → IsTrue (all_true v t.path.conds) → has_open t.path.conds ≡ false → IsRealStart b memory stands spec v t
    real args variables entered values r t from exact met none =
        let (l, (adding, there)) = exact (subst (λ (cs : List PureAtom). IsTrue (all_true v cs)) (conds_are r t from) met) (ap has_open (all_are_new r ∙ sym (conds_are r t from)) ∙ none) in
        record {
          args = args;
          variables = variables;
          under = under v args variables proper values;
          entered = entered;
          state = l;
          adding = adding;
          memory_is = subst (λ (x : S). stands x v l.heap) (sym (memory_is r t from)) there.memory;
          facts_are = subst (λ (cs : List PureFact). AreFacts v cs l.facts) (sym from.facts) there.facts;
        }

    all_real : Each (λ t. IsTrue (all_true v t.path.conds) → has_open t.path.conds ≡ false → IsRealStart b memory stands spec v t) b.starts
    all_real =
        let (args, (variables, (entered, values))) = enters.exact v proper in
        each_with_pair (StartsFrom q e.args)
        (λ r. IsTrue (all_true v r.conds) → has_open (added_conds begins.first r) ≡ false → (l : LogicState) × (IsAdding memory (entry_store spec args variables) spec.pre nothing l × Stands stands r v l))
        (λ t. IsTrue (all_true v t.path.conds) → has_open t.path.conds ≡ false → IsRealStart b memory stands spec v t)
        begins.states b.starts begins.starts (begins.exact v (entry_store spec args variables) nothing (serves v args variables proper values)) (real args variables entered values)

  pub are_starts : AreStarts b memory stands spec
  are_starts =
      each_to (λ t. (w : (v : List PureValue) × IsProper b.vars v) → IsTrue (all_true w.0 t.path.conds) → has_open t.path.conds ≡ false → IsRealStart b memory stands spec w.0 t)
      (λ t. (v : List PureValue) → IsProper b.vars v → IsTrue (all_true v t.path.conds) → has_open t.path.conds ≡ false → IsRealStart b memory stands spec v t)
      b.starts (λ t each v proper. each (v, proper))
      (each_under (λ (w : (v : List PureValue) × IsProper b.vars v) t. IsTrue (all_true w.0 t.path.conds) → has_open t.path.conds ≡ false → IsRealStart b memory stands spec w.0 t) b.starts
      (λ w. all_real w.0 (subst (λ (vars : List Sort). IsProper vars w.0) begins.table w.1)))

  abbrev IsRight : PureState S → Type 0
  IsRight r = (r.vars ≡ e.vars) × IsOverTable terms r × kept r.memory

  all_right : Each IsRight begins.states
  all_right =
      each_both (λ r. r.vars ≡ e.vars) (λ r. IsOverTable terms r × kept r.memory) IsRight begins.states (λ r same rest. (same, rest.0, rest.1)) tables
      (each_both (λ r. IsOverTable terms r) (λ r. kept r.memory) (λ r. IsOverTable terms r × kept r.memory) begins.states (λ r over is. (over, is)) (begins.over is_over store_over) begins.still_kept)

  is_beginning : (r : PureState S) (t : PureStart S) → StartsFrom q e.args r t → IsRight r → IsBeginning b q terms kept t
  is_beginning r t from right =
      let table : r.vars ≡ b.vars = right.0 ∙ sym begins.table in
      record {
        as_many = ap length begins.args ∙ enters.as_many ∙ sym (names_length spec.params) ∙ ap length (sym same_params);
        begins =
            subst (λ (cs : List PureAtom). Begins q b.args b.vars cs t.path.memory t.path) (sym (conds_are r t from))
            (subst (λ (x : S). Begins q b.args b.vars r.conds x t.path) (sym (memory_is r t from))
            (subst (λ (vars : List Sort). Begins q b.args vars r.conds r.memory t.path) table
            (subst (λ (ts : List PureTerm). Begins q ts r.vars r.conds r.memory t.path) (sym begins.args) from.begins)));
        path_over = paths.over q e.args r.vars r.conds r.memory t.path from.begins (subst (λ (vars : List Sort). AreEachOver vars e.args) (sym right.0) enters.args_over) right.1.conds right.1.memory;
        facts_over =
            subst (λ (vars : List Sort). Each (λ f. AreEachOver vars (f.ins ++ f.outs)) t.facts) table
            (subst (λ (cs : List PureFact). Each (λ f. AreEachOver r.vars (f.ins ++ f.outs)) cs) (sym from.facts) right.1.facts);
        still_kept = subst kept (sym (memory_is r t from)) right.2;
      }

  pub are_beginnings : AreBeginnings b p terms kept spec
  are_beginnings = record {
    args_over = subst (λ (vars : List Sort). AreEachOver vars b.args) (sym begins.table) (subst (λ (ts : List PureTerm). AreEachOver e.vars ts) (sym begins.args) enters.args_over);
    variables_over = subst (λ (vars : List Sort). IsStoreOver vars b.variables) (sym begins.table) (subst (λ (bs : PureStore). IsStoreOver e.vars bs) (sym begins.variables) enters.variables_over);
    proc = q;
    found = found;
    each = each_with_pair (StartsFrom q e.args) IsRight (IsBeginning b q terms kept) begins.states b.starts begins.starts all_right is_beginning;
  }

-- ---- no beginning

module _ {S : Type 0} (memory : MemoryName) (stands : S → List PureValue → Heap → Type 0) (terms : S → StateTerms) (kept : S → Type 0) (p : PureParts) (m : Actions) (q : PureProc) (spec : PureSpec)
    (found : find_proc p.procs spec.name ≡ Some q) (program : are_program_names spec.params ≡ true)
    (never : (args : List PureValue) (variables : Store) → ¬ IsFullEntry spec args variables) where
  pub none_covers : CoversStarts {S = S} no_beginnings p memory m stands spec
  none_covers args variables c is_start = absurd (never args variables (record {
    entered = is_start.entered;
    known = λ x is.
        let (hash, among) = and_parts (has_hash x) (named_by_items spec.pre x) is in
        let other : is_among (param_names spec.params) x ≡ false = not_param x hash (is_among (param_names spec.params) x) refl in
        let there = added_known (entry_store spec args variables) spec.pre nothing is_start.state is_start.adding.added_is x among in
        ap is_some (sym (second_value (bind_all (param_names spec.params) args) variables x (unbound (param_names spec.params) args x other))) ∙ there;
  }))
    where
      not_param : (x : List ℕ) → has_hash x ≡ true → (b : Bool) → is_among (param_names spec.params) x ≡ b → b ≡ false
      not_param x hash true among = absurd (true≢false (sym hash ∙ program_name spec.params x program among))
      not_param x hash false other = refl

  pub none_begin : AreBeginnings {S = S} no_beginnings p terms kept spec
  none_begin = record { args_over = tt; variables_over = nothing_over []; proc = q; found = found; each = tt }

pub ok_to : {A E : Type 0} (r : Result A E) (P Q : A → Type 0) → ((a : A) → P a → Q a) → IfOk r P → IfOk r Q
ok_to (Ok a) P Q f is = f a is
ok_to (Err e) P Q f is = tt

-- ---- the procedure that was found

pub found_there : {A B : Type 0} (f : A → B) (o : Option A) (a : A) (p : Option B) → option_map f o ≡ p → o ≡ Some a → p ≡ Some (f a)
found_there f o a p seen is = sym seen ∙ ap (option_map f) is

pub not_found : {A B : Type 0} (f : A → B) (o : Option A) (b : B) (p : Option B) → option_map f o ≡ p → o ≡ None → p ≡ Some b → ⊥
not_found f o b p seen is there = not_none (sym (ap (option_map f) is) ∙ seen ∙ there)

pub proc_params : (o : Option PureProc) (q : PureProc) (xs : List (List ℕ)) → o ≡ Some q → (r : PureProc) × ((o ≡ Some r) × (r.params ≡ xs)) → q.params ≡ xs
proc_params o q xs there found = ap (λ (x : PureProc). x.params) (same_some (sym there ∙ found.1.0)) ∙ found.1.1
