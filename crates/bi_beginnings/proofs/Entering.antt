-- The states that the uses and conditions of a beginning give.
use Rattle.std.proofs.Common.{◌≡◌, ◌⊎◌, ⊎_elim, inl, inr, ℕ, zero, suc, ◌<◌, List, [], ◌∷◌, ◌++◌, map, length, drop, slice_get, Bool, true, false, if◌then◌else◌, ◌&&◌, Option, Some, None, Result, Ok, Err, IfOk, IsSome, IsTrue, refl, sym, ap, subst, ◌∙◌, true≢false, arith}
use Rattle.std.specs.FinMap.{empty}
use Rattle.std.specs.List.{list_all, flat_map}
use Rattle.std.specs.Str.{bytes_eq}
use Rattle.std.proofs.lemmas.Bool.{and_parts}
use Rattle.std.proofs.lemmas.List.{length-map}
use Rattle.std.proofs.lemmas.Option.{slice_get_within}
use Rattle.gil_values.specs.declared.places.Place.{Place}
use Rattle.gil_values.specs.Pure.{PureValue, boolean}
use Rattle.gil_syntax.specs.Evaluation.{Store, bind, value_of}
use Rattle.gil_syntax.specs.Pure.{PureExpr, literal, name, logical, list_of, unary_of, binary_of, PureItem, pure}
use Rattle.gil_syntax.specs.Subexpressions.{subexpressions, own_literals, exprs_of_item}
use Rattle.gil_syntax.specs.WellMade.{is_spellable, is_well_made_node, is_well_made_expr, is_well_made_assertion}
use Rattle.gil_grammar.specs.Assertions.{may_be_item}
use Rattle.mem_model.specs.declared.cores.Core.{Core}
use Rattle.mem_model.specs.declared.keys.MemoryName.{MemoryName}
use Rattle.mem_model.specs.Heaps.{Heap}
use Rattle.assert_logic.specs.Adding.{added, IsAdding}
use Rattle.assert_logic.specs.LogicStates.{LogicState, nothing}
use Rattle.assertion_terms.specs.Named.{table_names, expr_of, equal, true_item, item_of, use_item, assertion_of}
use Rattle.assertion_terms.proofs.Tables.{tables_are_named}
use Rattle.pure_terms.specs.declared.variables.Sort.{Sort}
use Rattle.pure_terms.specs.declared.variables.Var.{Var}
use Rattle.pure_terms.specs.Meaning.{value, all_true, IsProper, IsOver}
use Rattle.pure_terms.specs.Pure.{PureTerm, variable, PureAtom, positive, negative, opening, term_of}
use Rattle.sym_evaluation.specs.Meaning.{AreSame, StandsFor, IsStoreOver}
use Rattle.sym_evaluation.specs.Pure.{PureStore, term_at}
use Rattle.sym_model.specs.Cores.{TakesBoth}
use Rattle.sym_model.specs.Laws.{IsMeaning}
use Rattle.sym_model.specs.Listing.{AreUnion}
use Rattle.sym_model.specs.Lists.{Each, OneOf}
use Rattle.sym_model.specs.Meaning.{has_open}
use Rattle.sym_model.specs.Pure.{PureUse}
use Rattle.sym_model.specs.Terms.{StateTerms, all_of, AreEachOver}
use Rattle.sym_model.proofs.ListLaws.{same_some, not_none, each_append, each_to}
use Rattle.sym_states.specs.Laws.{CoversAddings, AreAddings, ComeFromItems, StayOverTable, AreKept}
use Rattle.sym_states.specs.Meaning.{Stands, Serves, IsOverTable, AreFacts}
use Rattle.sym_states.specs.Producing.{are_spelled, FitsCore, IsOfMemory, MayAdd, IsProduced, is_begun, is_added, IsStopped, added_conds}
use Rattle.sym_states.specs.Pure.{PureFact, PureState, with_conditions}
use Rattle.sym_states.proofs.Conditions.{met_parts, met_both, open_left, none_open}
use Rattle.bi_beginnings.specs.Beginnings.{IsEntryTable, PureBeginning, IsBeginning}
use Rattle.bi_beginnings.specs.Opening.{IsVariableOf, HasVariables, IsFirstState, IsEntryState, IsBareState, IsEnteredWith, AreEntered, IsEnteredExactly, IsAskedThere, carrying, without_conditions}
use Rattle.bi_beginnings.proofs.Tables.{over_variable}
use Rattle.bi_beginnings.proofs.Unions.{one_heap}

-- ---- items that may be added

spelled_nodes : (ns : List PureExpr) → list_all is_well_made_node ns ≡ true → list_all is_spellable (flat_map own_literals ns) ≡ true
spelled_nodes [] made = refl
spelled_nodes (e ∷ es) made = let (here, later) = and_parts (is_well_made_node e) (list_all is_well_made_node es) made in by e here (spelled_nodes es later)
  where
    by : (d : PureExpr) → is_well_made_node d ≡ true → list_all is_spellable (flat_map own_literals es) ≡ true → list_all is_spellable (own_literals d ++ flat_map own_literals es) ≡ true
    by (literal v) here later = ap (λ b. b && list_all is_spellable (flat_map own_literals es)) here ∙ later
    by (name x) here later = later
    by (logical x) here later = later
    by (list_of ds) here later = later
    by (unary_of op d) here later = later
    by (binary_of op c d) here later = later

spelled : (es : List PureExpr) → list_all is_well_made_expr es ≡ true → are_spelled es ≡ true
spelled [] made = refl
spelled (e ∷ es) made =
    let (here, later) = and_parts (is_well_made_expr e) (list_all is_well_made_expr es) made in
    (λ i. spelled_nodes (subexpressions e) here i && are_spelled es) ∙ spelled es later

may_add_each : (memory : MemoryName) (items : List PureItem) → is_well_made_assertion items ≡ true → Each (IsOfMemory memory) items → Each (MayAdd memory) items
may_add_each memory [] made of_memory = tt
may_add_each memory (item ∷ items) made of_memory =
    let (here, later) = and_parts (list_all is_well_made_expr (exprs_of_item item)) (is_well_made_assertion items) made in
    ((spelled (exprs_of_item item) here, of_memory.0), may_add_each memory items later of_memory.1)

true_item_pure : (memory : MemoryName) (e : PureExpr) → IsOfMemory memory (true_item e)
true_item_pure memory e = by (may_be_item e)
  where
    by : (b : Bool) → IsOfMemory memory (if b then pure e else pure (equal e (literal (boolean true))))
    by true = tt
    by false = tt

item_pure : (memory : MemoryName) (names : List (List ℕ)) (a : PureAtom) → IsOfMemory memory (item_of names a)
item_pure memory names (positive t) = true_item_pure memory (expr_of names t)
item_pure memory names (negative t) = tt
item_pure memory names (opening t) = tt

atoms_of_memory : (memory : MemoryName) (names : List (List ℕ)) (conds : List PureAtom) → Each (IsOfMemory memory) (map (item_of names) conds)
atoms_of_memory memory names [] = tt
atoms_of_memory memory names (a ∷ conds) = (item_pure memory names a, atoms_of_memory memory names conds)

use_of_memory : (memory : MemoryName) (names : List (List ℕ)) (u : PureUse) → TakesBoth memory u.core u.ins u.outs → IsOfMemory memory (use_item names u)
use_of_memory memory names u takes =
    subst (λ (o : Option Core). FitsCore memory o (record { pred = u.core; ins = map (expr_of names) u.ins; outs = map (expr_of names) u.outs })) (sym takes.of_memory.named)
    (takes.of_memory.has, length-map u.ins (expr_of names) ∙ takes.ins_number, length-map u.outs (expr_of names) ∙ takes.outs_number)

module _ (memory : MemoryName) (b : PureBeginning) where
  uses_of_memory : (names : List (List ℕ)) (us : List PureUse) → Each (λ u. TakesBoth memory u.core u.ins u.outs × AreEachOver b.vars (u.ins ++ u.outs)) us → Each (IsOfMemory memory) (map (use_item names) us)
  uses_of_memory names [] all = tt
  uses_of_memory names (u ∷ us) all = (use_of_memory memory names u all.0.0, uses_of_memory names us all.1)

  -- the items of a beginning may be added
  pub may_add : (params : List (List ℕ)) (others : ℕ) (names : List (List ℕ)) → names ≡ table_names params others → IsBeginning memory params b → Each (MayAdd memory) (assertion_of names b.uses b.conds)
  may_add params others names are is =
      may_add_each memory (assertion_of names b.uses b.conds)
      (subst (λ (xs : List (List ℕ)). is_well_made_assertion (assertion_of xs b.uses b.conds) ≡ true) (sym are) ((tables_are_named params others).well_made b.uses b.conds))
      (each_append (IsOfMemory memory) (map (use_item names) b.uses) (map (item_of names) b.conds) (uses_of_memory names b.uses is.uses) (atoms_of_memory memory names b.conds))

-- a beginning that carries no condition
pub without : (memory : MemoryName) (params : List (List ℕ)) (b : PureBeginning) → IsBeginning memory params b → IsBeginning memory params (without_conditions b)
without memory params b is = record { table = is.table; uses = is.uses; conds = tt; named = is.named }

-- ---- stores of variables

pub no_variables : (vars : List Sort) → HasVariables vars []
no_variables vars x t at = not_none at

pub one_more_variable : (vars : List Sort) (before after : PureStore) (x : List ℕ) (k : Var) → HasVariables vars before → slice_get vars k.number ≡ Some k.sort
    → ((y : List ℕ) → term_at after y ≡ (if bytes_eq x y then Some (variable k) else term_at before y)) → HasVariables vars after
one_more_variable vars before after x k has in_table bound y t at = by (bytes_eq x y) (sym (bound y) ∙ at)
  where
    by : (b : Bool) → (if b then Some (variable k) else term_at before y) ≡ Some t → IsVariableOf vars t
    by true is = (k, (sym (same_some is), in_table))
    by false is = has y t is

variables_over : (vars : List Sort) (bs : PureStore) → HasVariables vars bs → IsStoreOver vars bs
variables_over vars bs has x t at =
    let (k, (is, in_table)) = has x t at in
    subst (IsOver vars) (sym is) (over_variable vars k in_table)

-- the store of the values
abbrev pub value_or_true : Option PureValue → PureValue
value_or_true (Some w) = w
value_or_true None = boolean true

abbrev pub store_of_values : List PureValue → PureStore → Store
store_of_values v [] = []
store_of_values v (b ∷ bs) = bind b.name (value_or_true (value v b.term)) (store_of_values v bs)

has_that : (o : Option PureValue) → IsSome o → o ≡ Some (value_or_true o)
has_that (Some w) there = refl
has_that None there = absurd (true≢false (sym there))

stands_at : (v : List PureValue) (bs : PureStore) (x : List ℕ) → ((t : PureTerm) → term_at bs x ≡ Some t → IsSome (value v t)) → AreSame v (term_at bs x) (value_of (store_of_values v bs) x)
stands_at v [] x valued = tt
stands_at v (b ∷ bs) x valued = by (bytes_eq b.name x) valued (stands_at v bs x)
  where
    by : (c : Bool) → ((t : PureTerm) → (if c then Some b.term else term_at bs x) ≡ Some t → IsSome (value v t))
        → (((t : PureTerm) → term_at bs x ≡ Some t → IsSome (value v t)) → AreSame v (term_at bs x) (value_of (store_of_values v bs) x))
        → AreSame v (if c then Some b.term else term_at bs x) (if c then Some (value_or_true (value v b.term)) else value_of (store_of_values v bs) x)
    by true there later = has_that (value v b.term) (there b.term refl)
    by false there later = later there

get_within : {X : Type 0} (xs : List X) (i : ℕ) → i < length xs → IsSome (slice_get xs i)
get_within [] i less = absurd (omega (arith, less))
get_within (x ∷ xs) zero less = refl
get_within (x ∷ xs) (suc i) less = get_within xs i (omega (arith, less))

pub variables_stand : (vars : List Sort) (v : List PureValue) (bs : PureStore) → IsProper vars v → HasVariables vars bs → StandsFor v bs (store_of_values v bs)
variables_stand vars v bs proper has x = stands_at v bs x (λ t at.
    let (k, (is, in_table)) = has x t at in
    let less : k.number < length vars = slice_get_within vars k.number k.sort in_table in
    subst (λ u. IsSome (value v u)) (sym is) (get_within v k.number (omega (arith, less, proper.one_each))))

-- ---- the states

pub ok_of_four : {A E : Type 0} (r : Result A E) (P Q R T U : A → Type 0) → ((a : A) → P a → Q a → R a → T a → U a) → IfOk r P → IfOk r Q → IfOk r R → IfOk r T → IfOk r U
ok_of_four (Ok a) P Q R T U f p q r t = f a p q r t
ok_of_four (Err e) P Q R T U f p q r t = tt

pub ok_of_five : {A E : Type 0} (r : Result A E) (P Q R T V U : A → Type 0) → ((a : A) → P a → Q a → R a → T a → V a → U a) → IfOk r P → IfOk r Q → IfOk r R → IfOk r T → IfOk r V → IfOk r U
ok_of_five (Ok a) P Q R T V U f p q r t v = f a p q r t v
ok_of_five (Err e) P Q R T V U f p q r t v = tt

each_under : {V A : Type 0} (Q : V → A → Type 0) (xs : List A) → ((v : V) → Each (Q v) xs) → Each (λ x. (v : V) → Q v x) xs
each_under Q [] all = tt
each_under Q (x ∷ xs) all = ((λ v. (all v).0), each_under Q xs (λ v. (all v).1))

each_both : {A : Type 0} (P Q R : A → Type 0) (xs : List A) → ((x : A) → P x → Q x → R x) → Each P xs → Each Q xs → Each R xs
each_both P Q R [] f first second = tt
each_both P Q R (x ∷ xs) f first second = (f x first.0 second.0, each_both P Q R xs f first.1 second.1)

pub one_of_each : {A : Type 0} (P Q R : A → Type 0) (xs : List A) → ((x : A) → P x → Q x → R x) → Each P xs → OneOf Q xs → OneOf R xs
one_of_each P Q R [] f all one = absurd one
one_of_each P Q R (x ∷ xs) f all one = ⊎_elim (λ here. inl (f x all.0 here)) (λ later. inr (one_of_each P Q R xs f all.1 later)) one

some_there : {A : Type 0} (xs : List A) (x : A) (ys : List A) → ¬ (xs ++ x ∷ ys ≡ [])
some_there [] x ys none = cc
some_there (y ∷ xs) x ys none = cc

module _ {S : Type 0} (stands : S → List PureValue → Heap → Type 0) (terms : S → StateTerms) (bs : PureStore) (s : PureState S) where
  same_table : (items : List PureItem) (r : PureState S) → IsProduced terms bs s items r → r.vars ≡ s.vars
  same_table items r (is_begun is same) = ap (λ (x : PureState S). x.vars) is
  same_table items r (is_added {items = xs} {q = q} before next) = ap (λ (x : PureState S). x.vars) next.same_else ∙ same_table xs q before

  -- a state to which nothing was added
  record IsUnchanged (r : PureState S) : Type 0 where
    vars : r.vars ≡ s.vars
    conds : r.conds ≡ s.conds
    same_terms : terms r.memory ≡ terms s.memory

  nothing_added : (items : List PureItem) (r : PureState S) → IsProduced terms bs s items r → items ≡ [] → IsUnchanged r
  nothing_added items r (is_begun is same) none = record { vars = ap (λ (x : PureState S). x.vars) is; conds = ap (λ (x : PureState S). x.conds) is; same_terms = same }
  nothing_added items r (is_added {items = xs} {item = item} before next) none = absurd (some_there xs item [] none)

  unchanged : (items : List PureItem) (rs : List (PureState S)) → items ≡ [] → ComeFromItems stands terms bs items s rs → Each IsUnchanged rs
  unchanged items [] none come = tt
  unchanged items (r ∷ rs) none come = (
    ⊎_elim (λ whole. nothing_added items r whole none) (λ (half : IsStopped stands terms bs s items r). absurd (some_there half.before half.item half.later (sym half.are ∙ none))) come.0,
    unchanged items rs none come.1,
  )

  pub none_added : (items : List PureItem) (r : PureState S) → items ≡ [] → IsProduced terms bs s items r ⊎ IsStopped stands terms bs s items r → r.conds ≡ s.conds
  none_added items r none comes =
      ⊎_elim (λ whole. (nothing_added items r whole none).conds)
      (λ (half : IsStopped stands terms bs s items r). absurd (some_there half.before half.item half.later (sym half.are ∙ none))) comes

  pub still_table : (items : List PureItem) (rs : List (PureState S)) → ComeFromItems stands terms bs items s rs → Each (λ r. r.vars ≡ s.vars) rs
  still_table items [] come = tt
  still_table items (r ∷ rs) come = (
    ⊎_elim (λ whole. same_table items r whole) (λ (half : IsStopped stands terms bs s items r). ap (λ (x : PureState S). x.vars) half.last.same_else ∙ same_table half.before half.at half.produced) come.0,
    still_table items rs come.1,
  )

module _ {S : Type 0} (memory : MemoryName) (stands : S → List PureValue → Heap → Type 0) (terms : S → StateTerms) (kept : S → Type 0)
    (params : List (List ℕ)) (vars : List Sort) (table : IsEntryTable params vars) (bs : PureStore) (has : HasVariables vars bs) (s : PureState S) (first : IsFirstState stands terms kept vars s)
    (items : List PureItem) (rs : List (PureState S)) (exact : AreAddings memory stands terms bs items s rs) (origin : ComeFromItems stands terms bs items s rs)
    (over : StayOverTable terms bs s rs) (still_kept : AreKept kept rs) where
  is_over : IsOverTable terms s
  is_over = record {
    conds = subst (λ (cs : List PureAtom). Each (λ a. IsOver s.vars (term_of a)) cs) (sym first.conds) tt;
    given = subst (λ (cs : List PureAtom). Each (λ a. IsOver s.vars (term_of a)) cs) (sym first.given) tt;
    memory = subst (λ (ts : StateTerms). AreEachOver s.vars (all_of ts)) (sym first.no_terms) tt;
    facts = subst (λ (cs : List PureFact). Each (λ c. AreEachOver s.vars (c.ins ++ c.outs)) cs) (sym first.facts) tt;
  }

  store_over : IsStoreOver s.vars bs
  store_over = subst (λ (all : List Sort). IsStoreOver all bs) (sym first.table) (variables_over vars bs has)

  serves : (v : List PureValue) → IsProper vars v → Serves stands terms s bs v (store_of_values v bs) nothing
  serves v proper = record {
    over = is_over;
    store_over = store_over;
    store = variables_stand vars v bs proper has;
    state = record {
      proper = subst (λ (all : List Sort). IsProper all v) (sym first.table) proper;
      meets = subst (λ (cs : List PureAtom). IsTrue (all_true v cs)) (sym first.conds) refl;
      memory = first.heap v;
      facts = subst (λ (cs : List PureFact). AreFacts v cs []) (sym first.facts) tt;
    };
  }

  -- the memory has the heap of what the items come to, added to nothing
  abbrev HasAdded : List PureValue → PureState S → Type 0
  HasAdded v r = (m : LogicState) × (IsAdding memory (store_of_values v bs) items nothing m × stands r.memory v m.heap)

  -- it has under each valuation that meets the conditions, unless one of them is that a literal form is needed
  abbrev HasEachAdded : PureState S → Type 0
  HasEachAdded r = (w : (v : List PureValue) × IsProper vars v) → IsTrue (all_true w.0 r.conds) → has_open r.conds ≡ false → HasAdded w.0 r

  all_new : (r : PureState S) → added_conds s r ≡ r.conds
  all_new r = ap (λ (cs : List PureAtom). drop (length cs) r.conds) first.conds

  added_of : (v : List PureValue) (r : PureState S) → (IsTrue (all_true v r.conds) → has_open (added_conds s r) ≡ false → (m : LogicState) × (IsAdding memory (store_of_values v bs) items nothing m × Stands stands r v m))
      → IsTrue (all_true v r.conds) → has_open r.conds ≡ false → HasAdded v r
  added_of v r is met none = let (m, (adding, there)) = is met (ap has_open (all_new r) ∙ none) in (m, (adding, there.memory))

  each_added : Each HasEachAdded rs
  each_added = each_under (λ (w : (v : List PureValue) × IsProper vars v) r. IsTrue (all_true w.0 r.conds) → has_open r.conds ≡ false → HasAdded w.0 r) rs
      (λ w. each_to _ (λ r. IsTrue (all_true w.0 r.conds) → has_open r.conds ≡ false → HasAdded w.0 r) rs (added_of w.0) (exact w.0 (store_of_values w.0 bs) nothing (serves w.0 w.1)))

  abbrev IsRight : PureState S → Type 0
  IsRight r = (r.vars ≡ vars) × IsOverTable terms r × kept r.memory

  all_right : Each IsRight rs
  all_right =
      each_both (λ r. r.vars ≡ s.vars) (λ r. IsOverTable terms r × kept r.memory) IsRight rs (λ r same rest. (same ∙ first.table, rest.0, rest.1)) (still_table stands terms bs s items rs origin)
      (each_both (λ r. IsOverTable terms r) (λ r. kept r.memory) (λ r. IsOverTable terms r × kept r.memory) rs (λ r here there. (here, there)) (over is_over store_over) still_kept)

  is_entry : (r : PureState S) → HasEachAdded r → IsRight r → IsEntryState stands terms kept params r
  is_entry r has_added right = record {
    table = subst (IsEntryTable params) (sym right.0) table;
    over = right.1;
    has_heap = λ none v meets. let (m, (adding, there)) = has_added (v, subst (λ (all : List Sort). IsProper all v) right.0 meets.proper) meets.true_there none in (m.heap, there);
    still_kept = right.2;
  }

  pub same_tables : Each (λ r. r.vars ≡ vars) rs
  same_tables = each_to (λ r. r.vars ≡ s.vars) (λ r. r.vars ≡ vars) rs (λ r same. same ∙ first.table) (still_table stands terms bs s items rs origin)

  pub are_entries : Each (IsEntryState stands terms kept params) rs
  are_entries = each_both HasEachAdded IsRight (IsEntryState stands terms kept params) rs is_entry each_added all_right

  -- ---- exactness

  -- where what the items come to has the heap that the uses say, each state is entered with exactly that
  pub are_exact : (b : PureBeginning) → b.vars ≡ vars → IsMeaning memory stands terms
      → ((v : List PureValue) (m : LogicState) → IsProper vars v → IsAdding memory (store_of_values v bs) items nothing m → AreUnion v b.uses m.heap) → Each (IsEnteredExactly stands b) rs
  are_exact b same meaning said = each_both HasEachAdded IsRight (IsEnteredExactly stands b) rs is_exact each_added all_right
    where
      is_exact : (r : PureState S) → HasEachAdded r → IsRight r → IsEnteredExactly stands b r
      is_exact r has_added right = record {
        table = right.0 ∙ sym same;
        heaps = λ none v own meets.
            let proper : IsProper vars v = subst (λ (all : List Sort). IsProper all v) right.0 meets.proper in
            let (m, (adding, there)) = has_added (v, proper) meets.true_there none in
            let union : AreUnion v b.uses m.heap = said v m proper adding in (
              (λ (is : stands r.memory v own). subst (AreUnion v b.uses) (meaning.one_heap r.memory v m.heap own there is) union),
              (λ (is : AreUnion v b.uses own). subst (stands r.memory v) (one_heap v b.uses m.heap own union is) there),
            );
      }

  -- ---- cover

  -- what an adding comes to is what some state is entered with
  pub are_entered : CoversAddings memory stands terms bs items s rs → (v : List PureValue) (m : LogicState) → IsProper vars v
      → IsAdding memory (store_of_values v bs) items nothing m → OneOf (IsEnteredWith stands vars v m.heap) rs
  are_entered cover v m proper adding =
      one_of_each IsRight (λ r. IsTrue (all_true v r.conds) × (IsTrue (has_open (added_conds s r)) ⊎ Stands stands r v m)) (IsEnteredWith stands vars v m.heap) rs is_entered all_right
      (cover v (store_of_values v bs) nothing m (serves v proper) adding)
    where
      is_entered : (r : PureState S) → IsRight r → IsTrue (all_true v r.conds) × (IsTrue (has_open (added_conds s r)) ⊎ Stands stands r v m) → IsEnteredWith stands vars v m.heap r
      is_entered r right (met, there) = record {
        table = right.0;
        meets = record { proper = subst (λ (all : List Sort). IsProper all v) (sym right.0) proper; true_there = met };
        heap = ⊎_elim (λ needed. inl (subst (λ (cs : List PureAtom). IsTrue (has_open cs)) (all_new r) needed)) (λ (is : Stands stands r v m). inr is.memory) there;
      }

  -- ---- where there is nothing

  none_proper : vars ≡ [] → IsProper vars []
  none_proper none = record {
    one_each = ap length (sym none);
    sorts = λ x sort w in_table at. not_none at;
    fresh = λ x y n w in_table at less at_y. not_none at;
  }

  pub are_bare : vars ≡ [] → items ≡ [] → Each (IsBareState stands terms) rs
  are_bare none no_item =
      each_both (IsUnchanged stands terms bs s) _ (IsBareState stands terms) rs bare (unchanged stands terms bs s items rs no_item origin)
      (exact [] (store_of_values [] bs) nothing (serves [] (none_proper none)))
    where
      bare : (r : PureState S) → IsUnchanged stands terms bs s r
          → (IsTrue (all_true [] r.conds) → has_open (added_conds s r) ≡ false → (m : LogicState) × (IsAdding memory (store_of_values [] bs) items nothing m × Stands stands r [] m))
          → IsBareState stands terms r
      bare r same stands_so =
          let no_condition : r.conds ≡ [] = same.conds ∙ first.conds in
          let (m, (adding, there)) = stands_so (subst (λ (cs : List PureAtom). IsTrue (all_true [] cs)) (sym no_condition) refl) (ap has_open (all_new r ∙ no_condition)) in
          let is : nothing ≡ m = same_some (subst (λ xs. added (store_of_values [] bs) xs nothing ≡ Some m) no_item adding.added_is) in
          record {
            no_variable = same.vars ∙ first.table ∙ none;
            no_condition = no_condition;
            no_key = subst (λ (l : LogicState). stands r.memory [] l.heap) (sym is) there.memory;
            no_terms = same.same_terms ∙ first.no_terms;
          }

-- ---- with the conditions that are carried

module _ {S : Type 0} (memory : MemoryName) (stands : S → List PureValue → Heap → Type 0) (terms : S → StateTerms) (kept : S → Type 0) (params : List (List ℕ)) (conds : List PureAtom) where
  -- what holds of the state as it is, and with the conditions, holds of what is carried
  pub of_carrying : (P : PureState S → Type 0) (s : PureState S) → P s → P (with_conditions conds s) → P (carrying conds s)
  of_carrying P s here there = by (has_open s.conds)
    where
      by : (b : Bool) → P (if b then s else with_conditions conds s)
      by true = here
      by false = there

  carried_entry : (s : PureState S) → Each (λ a. IsOver s.vars (term_of a)) conds → IsEntryState stands terms kept params s → IsEntryState stands terms kept params (carrying conds s)
  carried_entry s over entry = of_carrying (IsEntryState stands terms kept params) s entry (record {
    table = entry.table;
    over = record {
      conds = each_append (λ a. IsOver s.vars (term_of a)) s.conds conds entry.over.conds over;
      given = entry.over.given;
      memory = entry.over.memory;
      facts = entry.over.facts;
    };
    has_heap = λ none v meets. entry.has_heap (none_open s.conds conds none).0 v (record { proper = meets.proper; true_there = (met_parts v s.conds conds meets.true_there).0 });
    still_kept = entry.still_kept;
  })

  pub carried_entries : (vars : List Sort) → Each (λ a. IsOver vars (term_of a)) conds → (ss : List (PureState S)) → Each (λ s. s.vars ≡ vars) ss → Each (IsEntryState stands terms kept params) ss
      → Each (IsEntryState stands terms kept params) (map (carrying conds) ss)
  carried_entries vars over [] same all = tt
  carried_entries vars over (s ∷ ss) same all = (carried_entry s (subst (λ (xs : List Sort). Each (λ a. IsOver xs (term_of a)) conds) (sym same.0) over) all.0, carried_entries vars over ss same.1 all.1)

  carried_one : (vars : List Sort) (v : List PureValue) (own : Heap) → IsTrue (all_true v conds) → (ss : List (PureState S)) → OneOf (IsEnteredWith stands vars v own) ss
      → OneOf (IsEnteredWith stands vars v own) (map (carrying conds) ss)
  carried_one vars v own met [] one = absurd one
  carried_one vars v own met (s ∷ ss) one =
      ⊎_elim
      (λ (here : IsEnteredWith stands vars v own s). inl (of_carrying (IsEnteredWith stands vars v own) s here (record {
        table = here.table;
        meets = record { proper = here.meets.proper; true_there = met_both v s.conds conds here.meets.true_there met };
        heap = ⊎_elim (λ needed. inl (open_left s.conds conds needed)) (λ there. inr there) here.heap;
      })))
      (λ later. inr (carried_one vars v own met ss later)) one

  carried_exact : (b : PureBeginning) (s : PureState S) → IsEnteredExactly stands b s → IsEnteredExactly stands b (carrying conds s)
  carried_exact b s exact = of_carrying (IsEnteredExactly stands b) s exact (record {
    table = exact.table;
    heaps = λ none v own meets. exact.heaps (none_open s.conds conds none).0 v own (record { proper = meets.proper; true_there = (met_parts v s.conds conds meets.true_there).0 });
  })

  pub carried_all_exact : (b : PureBeginning) (ss : List (PureState S)) → Each (IsEnteredExactly stands b) ss → Each (IsEnteredExactly stands b) (map (carrying conds) ss)
  carried_all_exact b [] all = tt
  carried_all_exact b (s ∷ ss) all = (carried_exact b s all.0, carried_all_exact b ss all.1)

  -- with no conditions the states are as they were
  carried_bare : (s : PureState S) → conds ≡ [] → IsBareState stands terms s → IsBareState stands terms (carrying conds s)
  carried_bare s none bare = of_carrying (IsBareState stands terms) s bare (record {
    no_variable = bare.no_variable;
    no_condition = (λ i. bare.no_condition i ++ none i);
    no_key = bare.no_key;
    no_terms = bare.no_terms;
  })

  pub carried_all_bare : conds ≡ [] → (ss : List (PureState S)) → Each (IsBareState stands terms) ss → Each (IsBareState stands terms) (map (carrying conds) ss)
  carried_all_bare none [] all = tt
  carried_all_bare none (s ∷ ss) all = (carried_bare s none all.0, carried_all_bare none ss all.1)

pub carried_entered : {S : Type 0} (memory : MemoryName) (stands : S → List PureValue → Heap → Type 0) (terms : S → StateTerms) (kept : S → Type 0) (b : PureBeginning) (ss : List (PureState S))
    → AreEntered memory stands (without_conditions b) ss → AreEntered memory stands b (map (carrying b.conds) ss)
carried_entered memory stands terms kept b ss entered v own meets union is_heap =
    carried_one memory stands terms kept [] b.conds b.vars v own meets.true_there ss (entered v own (record { proper = meets.proper; true_there = refl }) union is_heap)

pub carried_table : {S : Type 0} (conds : List PureAtom) (s : PureState S) {vars : List Sort} → s.vars ≡ vars → (carrying conds s).vars ≡ vars
carried_table conds s {vars = vars} same = by (has_open s.conds)
  where
    by : (b : Bool) → (if b then s else with_conditions conds s).vars ≡ vars
    by true = same
    by false = same

-- nothing is asked of a beginning that fixes and assumes nothing
pub nothing_asked : {S : Type 0} (stands : S → List PureValue → Heap → Type 0) (terms : S → StateTerms) (kept : S → Type 0) (params : List (List ℕ)) (b : PureBeginning) → b.uses ≡ [] → b.conds ≡ []
    → (place : Place) (choices : List ℕ) (vars : List Sort) (given conds : List PureAtom) → IsAskedThere stands terms kept params b place choices vars given conds → conds ≡ []
nothing_asked {S = S} stands terms kept params b no_use no_condition place choices vars given conds there =
    let begun = there.begun in
    let none : assertion_of begun.names b.uses [] ≡ [] = ap (λ us. assertion_of begun.names us []) no_use in
    let before : there.state.conds ≡ [] = none_added stands terms begun.store begun.first (assertion_of begun.names b.uses []) there.state none begun.comes ∙ begun.is_first.conds in
    there.asks ∙ by (has_open there.state.conds) before
  where
    by : (needs : Bool) → there.state.conds ≡ [] → (if needs then there.state else with_conditions b.conds there.state).conds ≡ []
    by true before = before
    by false before = λ i. before i ++ no_condition i
