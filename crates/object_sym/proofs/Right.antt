-- The branches of each action are right, wherever the action may be asked.
use Rattle.std.proofs.Common.{◌≡◌, ◌⊎◌, ⊎_elim, inl, inr, ℕ, List, [], ◌∷◌, ◌++◌, true, Option, Some, None, IsTrue, Ok, Err, refl, sym, ap, subst, ◌∙◌, true≢false, arith}
use Rattle.std.specs.FinMap.{insert}
use Rattle.gil_values.specs.declared.kinds.Kind.{Kind}
use Rattle.gil_values.specs.Pure.{PureValue, integer, boolean, text, symbol, kind, procedure, list, no_values, kind_of}
use Rattle.mem_model.specs.declared.failures.Failure.{Failure}
use Rattle.mem_model.specs.declared.keys.Key.{Key}
use Rattle.mem_model.specs.declared.keys.Sub.{Sub}
use Rattle.mem_model.specs.declared.keys.Sub.TheVariants.{Dom, Proto}
use Rattle.mem_model.specs.declared.keys.MemoryName.TheVariants.{Object}
use Rattle.mem_model.specs.Actions.{ActionResult, MayAct}
use Rattle.mem_model.specs.Arguments.{and_then, symbol_of, text_of, location_in, property_in, property_and_value_in}
use Rattle.mem_model.specs.Heaps.{Heap, HasKey, IsHeapOf}
use Rattle.mem_model.specs.Keys.{key}
use Rattle.mem_model.specs.KeyOrder.{variant_number}
use Rattle.mem_model.specs.Tables.{fails, read_or_fail, created as created_heap}
use Rattle.mem_model.proofs.Holding.{held_inserted}
use Rattle.mem_model.proofs.Joins.{has_key, value_at}
use Rattle.object_heap.specs.declared.actions.ObjectAction.{ObjectAction}
use Rattle.object_heap.specs.Names.{action_of, takes_symbol_of}
use Rattle.object_heap.specs.ObjectLaws.{object_is_memory}
use Rattle.object_heap.specs.Table.{prototype_of, prototype_in, location_and_prototype_in, new, get_property, set_property, delete_property, has_property, get_prototype, set_prototype, act_of, object_actions}
use Rattle.object_sym.specs.Laws.{AreRight, IsRightAction}
use Rattle.object_sym.specs.Table.{no_names, is_prototype, is_no_prototype, created, new_cases, get_cases, set_cases, delete_cases, has_cases, prototype_cases, of_property, branches_by}
use Rattle.pure_terms.specs.declared.literals.Literal.{Literal}
use Rattle.pure_terms.specs.declared.variables.Sort.{Sort}
use Rattle.pure_terms.specs.declared.variables.Var.{Var}
use Rattle.pure_terms.specs.Meaning.{value, values, all_true, IsProper, IsOver}
use Rattle.pure_terms.specs.Pure.{PureTerm, variable, from_list}
use Rattle.sym_chunks.specs.Cases.{PureCase, reads, writes, branches_of, choose, failure, null_term}
use Rattle.sym_chunks.specs.Laws.{IsLocation}
use Rattle.sym_model.specs.Alternatives.{Alternatives, Hold, always, both, same, other, of_kind, not_of_kind}
use Rattle.sym_model.specs.ConditionLaws.{HaveBoth}
use Rattle.sym_model.proofs.Combined.{both_from, both_parts, always_true}
use Rattle.sym_model.proofs.Telling.{same_tells, other_tells, of_kind_tells, not_of_kind_tells}
use Rattle.sym_model.specs.Chunks.{IsUnion, StandFor, terms_of}
use Rattle.sym_model.specs.Laws.{MayBeAsked, Serves}
use Rattle.sym_model.specs.Lists.{Each, OneOf}
use Rattle.sym_model.specs.Meaning.{location_of, fresh_symbol, key_of}
use Rattle.sym_model.specs.Pure.{dom, proto, PureChunk, done}
use Rattle.sym_model.specs.Terms.{all_of}
use Rattle.sym_model.proofs.Asking.{both_parts as value_parts, serving_may_act, fresh_value}
use Rattle.sym_model.proofs.ChunkMeaning.{ChunkTerms, chunk_by_chunk, chunks_have_meaning}
use Rattle.sym_model.proofs.ListLaws.{same_some, each_append, each_left, each_right, one_left, one_right, one_parts}
use Rattle.sym_model.proofs.Unions.{put_last}
use Rattle.sym_chunks.proofs.CaseLaws.{IsFor, Exact, IsTaken, IsExactCase, IsRight, exact_cases, taken_case, chosen_exact, chosen_taken, made_exact, made_comes, covered}
use Rattle.sym_chunks.proofs.Facts.{Fact, each_fact}
use Rattle.sym_chunks.proofs.Readings.{over_literal}
use Rattle.sym_chunks.specs.Arguments.{checked, no_property, is_property}
use Rattle.object_sym.proofs.DeleteLaws.{delete_exact, delete_comes}
use Rattle.object_sym.proofs.GetLaws.{get_exact, get_comes, has_exact, has_comes, getproto_exact, setproto_exact, prototype_comes}
use Rattle.object_sym.proofs.HeapLaws.{insert_comm, made_heap}
use Rattle.object_sym.proofs.PropertyLaws.{Comes}
use Rattle.object_sym.proofs.SetLaws.{set_exact, set_comes}

-- ---- what values are

-- a value is a symbol, or reading a symbol fails
symbol_or_not : (x : PureValue) → ((a : ℕ) × (x ≡ symbol a)) ⊎ ((symbol_of x ≡ Err Failure.Kind) × (¬ (kind_of x ≡ Kind.Sym)))
symbol_or_not (symbol a) = inl (a, refl)
symbol_or_not (integer i) = inr (refl, λ e. cc)
symbol_or_not (boolean b) = inr (refl, λ e. cc)
symbol_or_not (text cs) = inr (refl, λ e. cc)
symbol_or_not (kind k) = inr (refl, λ e. cc)
symbol_or_not (procedure f) = inr (refl, λ e. cc)
symbol_or_not (list vs) = inr (refl, λ e. cc)

text_or_not : (x : PureValue) → ((n : List ℕ) × (x ≡ text n)) ⊎ ((text_of x ≡ Err Failure.Kind) × (¬ (kind_of x ≡ Kind.Str)))
text_or_not (text n) = inl (n, refl)
text_or_not (integer i) = inr (refl, λ e. cc)
text_or_not (boolean b) = inr (refl, λ e. cc)
text_or_not (symbol a) = inr (refl, λ e. cc)
text_or_not (kind k) = inr (refl, λ e. cc)
text_or_not (procedure f) = inr (refl, λ e. cc)
text_or_not (list vs) = inr (refl, λ e. cc)

abbrev IsPrototype : PureValue → Type 0
IsPrototype x = (kind_of x ≡ Kind.Sym) ⊎ (x ≡ kind Kind.Null)

-- a value is a symbol or Null, or reading a prototype fails
prototype_or_not : (x : PureValue) → ((prototype_of x ≡ Ok x) × IsPrototype x) ⊎ ((prototype_of x ≡ Err Failure.Kind) × (¬ IsPrototype x))
prototype_or_not (symbol a) = inl (refl, inl refl)
prototype_or_not (kind Kind.Null) = inl (refl, inr refl)
prototype_or_not (kind Kind.Undef) = inr (refl, ⊎_elim (λ e. cc) (λ e. cc))
prototype_or_not (kind Kind.Int) = inr (refl, ⊎_elim (λ e. cc) (λ e. cc))
prototype_or_not (kind Kind.Bool) = inr (refl, ⊎_elim (λ e. cc) (λ e. cc))
prototype_or_not (kind Kind.Str) = inr (refl, ⊎_elim (λ e. cc) (λ e. cc))
prototype_or_not (kind Kind.Sym) = inr (refl, ⊎_elim (λ e. cc) (λ e. cc))
prototype_or_not (kind Kind.Kind) = inr (refl, ⊎_elim (λ e. cc) (λ e. cc))
prototype_or_not (kind Kind.Proc) = inr (refl, ⊎_elim (λ e. cc) (λ e. cc))
prototype_or_not (kind Kind.List) = inr (refl, ⊎_elim (λ e. cc) (λ e. cc))
prototype_or_not (integer i) = inr (refl, ⊎_elim (λ e. cc) (λ e. cc))
prototype_or_not (boolean b) = inr (refl, ⊎_elim (λ e. cc) (λ e. cc))
prototype_or_not (text cs) = inr (refl, ⊎_elim (λ e. cc) (λ e. cc))
prototype_or_not (procedure f) = inr (refl, ⊎_elim (λ e. cc) (λ e. cc))
prototype_or_not (list vs) = inr (refl, ⊎_elim (λ e. cc) (λ e. cc))

-- one argument, two and three, with their values
values_one : (v : List PureValue) (t : PureTerm) (us : List PureValue) → values v (from_list (t ∷ [])) ≡ Some us → (x : PureValue) × ((value v t ≡ Some x) × (us ≡ x ∷ []))
values_one v t us is =
    let (x, (ws, (first, rest, whole))) = value_parts (value v t) (values v (from_list [])) us is in
    (x, (first, whole ∙ ap (λ xs. x ∷ xs) (sym (same_some rest))))

values_two : (v : List PureValue) (s t : PureTerm) (us : List PureValue) → values v (from_list (s ∷ t ∷ [])) ≡ Some us → (x : PureValue) × ((y : PureValue) × ((value v s ≡ Some x) × (value v t ≡ Some y) × (us ≡ x ∷ y ∷ [])))
values_two v s t us is =
    let (x, (ws, (first, rest, whole))) = value_parts (value v s) (values v (from_list (t ∷ []))) us is in
    let (y, (second, more)) = values_one v t ws rest in
    (x, (y, (first, second, whole ∙ ap (λ xs. x ∷ xs) more)))

values_three : (v : List PureValue) (s t u : PureTerm) (us : List PureValue) → values v (from_list (s ∷ t ∷ u ∷ [])) ≡ Some us → (x : PureValue) × ((y : PureValue) × ((z : PureValue) × ((value v s ≡ Some x) × (value v t ≡ Some y) × (value v u ≡ Some z) × (us ≡ x ∷ y ∷ z ∷ []))))
values_three v s t u us is =
    let (x, (ws, (first, rest, whole))) = value_parts (value v s) (values v (from_list (t ∷ u ∷ []))) us is in
    let (y, (z, (second, third, more))) = values_two v t u ws rest in
    (x, (y, (z, (first, second, third, whole ∙ ap (λ xs. x ∷ xs) more))))

-- as many values as terms
values_none : (v : List PureValue) (us : List PureValue) → values v (from_list []) ≡ Some us → us ≡ []
values_none v us is = sym (same_some is)

values_first : (v : List PureValue) (t : PureTerm) (ts : List PureTerm) (us : List PureValue) → values v (from_list (t ∷ ts)) ≡ Some us → (x : PureValue) × ((xs : List PureValue) × ((values v (from_list ts) ≡ Some xs) × (us ≡ x ∷ xs)))
values_first v t ts us is = let (x, (xs, (first, rest, whole))) = value_parts (value v t) (values v (from_list ts)) us is in (x, (xs, (rest, whole)))

module _ (vars : List Sort) (v : List PureValue) (h : Heap) (cs : List PureChunk) (proper : IsProper vars v) (over : Each (ChunkTerms (IsOver vars)) cs) (stands : StandFor Object cs v h) where
  facts : Each (Fact vars v h) cs
  facts = each_fact vars v h cs stands.union over

  failure_for : (r : ActionResult) (why : Failure) → r ≡ fails why h → IsFor Object v r cs (failure why)
  failure_for r why e = subst (λ x. IsFor Object v x cs (failure why)) (sym e) (refl, stands)

  pub fails_always : (r : ActionResult) (why : Failure) → r ≡ fails why h → IsRight Object v r (branches_of always cs (failure why))
  fails_always r why e = record { exact = exact_cases Object v r always cs (failure why) (λ holds. failure_for r why e); taken = taken_case v always cs (failure why) (always_true v) }

  -- the arguments are of wrong kinds, or the cases come
  checked_right : (r : ActionResult) (wrong right : Alternatives) (cases : List PureCase) → (Hold v wrong → r ≡ fails Failure.Kind h) → (Hold v right → Each (IsExactCase Object v r) cases) → (Hold v wrong ⊎ (Hold v right × OneOf (Comes v) cases)) → IsRight Object v r (checked wrong right cs cases)
  checked_right r wrong right cases refused exact comes = record {
    exact = each_append (Exact Object v r) (branches_of wrong cs (failure Failure.Kind)) (choose right cases)
        (exact_cases Object v r wrong cs (failure Failure.Kind) (λ holds. failure_for r Failure.Kind (refused holds)))
        (chosen_exact Object v r right cases exact);
    taken = ⊎_elim
        (λ holds. one_left (IsTaken v) (branches_of wrong cs (failure Failure.Kind)) (choose right cases) (taken_case v wrong cs (failure Failure.Kind) holds))
        (λ (holds, one). one_right (IsTaken v) (branches_of wrong cs (failure Failure.Kind)) (choose right cases) (chosen_taken v right cases holds one))
        comes;
  }

  -- ---- kinds of arguments

  module _ (l : PureTerm) (x : PureValue) (over_l : IsOver vars l) (is_l : value v l ≡ Some x) where
    symbol_holds : (a : ℕ) → x ≡ symbol a → Hold v (of_kind l Kind.Sym)
    symbol_holds a e = (of_kind_tells vars v l Kind.Sym x proper over_l is_l).1 (ap kind_of e)

    symbol_stays : (a : ℕ) → x ≡ symbol a → ¬ Hold v (not_of_kind l Kind.Sym)
    symbol_stays a e holds = (not_of_kind_tells vars v l Kind.Sym x proper over_l is_l).0 holds (ap kind_of e)

    location_of_symbol : (a : ℕ) → x ≡ symbol a → IsLocation vars v l a
    location_of_symbol a e = record { over = over_l; is = is_l ∙ ap Some e }

    null_both : HaveBoth vars v l null_term x (kind Kind.Null)
    null_both = record { proper = proper; first_over = over_l; second_over = over_literal vars (Literal.Kind Kind.Null); first = is_l; second = refl }

    prototype_holds : IsPrototype x → Hold v (is_prototype l)
    prototype_holds is =
        ⊎_elim
        (λ symbols. one_left (λ conds. IsTrue (all_true v conds)) (of_kind l Kind.Sym) (same l null_term) ((of_kind_tells vars v l Kind.Sym x proper over_l is_l).1 symbols))
        (λ null. one_right (λ conds. IsTrue (all_true v conds)) (of_kind l Kind.Sym) (same l null_term) ((same_tells vars v l null_term x (kind Kind.Null) null_both).1 null))
        is

    holds_prototype : Hold v (is_prototype l) → IsPrototype x
    holds_prototype holds =
        ⊎_elim
        (λ symbols. inl ((of_kind_tells vars v l Kind.Sym x proper over_l is_l).0 symbols))
        (λ null. inr ((same_tells vars v l null_term x (kind Kind.Null) null_both).0 null))
        (one_parts (λ conds. IsTrue (all_true v conds)) (of_kind l Kind.Sym) (same l null_term) holds)

    no_prototype_holds : ¬ IsPrototype x → Hold v (is_no_prototype l)
    no_prototype_holds isnt =
        both_from v (not_of_kind l Kind.Sym) (other l null_term) ((not_of_kind_tells vars v l Kind.Sym x proper over_l is_l).1 (λ e. isnt (inl e)))
        ((other_tells vars v l null_term x (kind Kind.Null) null_both).1 (λ e. isnt (inr e)))

    holds_no_prototype : Hold v (is_no_prototype l) → ¬ IsPrototype x
    holds_no_prototype holds is =
        let parts = both_parts v (not_of_kind l Kind.Sym) (other l null_term) holds in
        ⊎_elim
        (λ symbols. (not_of_kind_tells vars v l Kind.Sym x proper over_l is_l).0 parts.0 symbols)
        (λ null. (other_tells vars v l null_term x (kind Kind.Null) null_both).0 parts.1 null)
        is

  -- a location: where it is no symbol, or by the cases
  location_right : (l : PureTerm) (x : PureValue) → IsOver vars l → value v l ≡ Some x → (r : ActionResult) (cases : List PureCase) → (symbol_of x ≡ Err Failure.Kind → r ≡ fails Failure.Kind h)
      → ((a : ℕ) → x ≡ symbol a → Each (IsExactCase Object v r) cases × OneOf (Comes v) cases) → IsRight Object v r (checked (not_of_kind l Kind.Sym) (of_kind l Kind.Sym) cs cases)
  location_right l x over_l is_l r cases no_symbol is =
      ⊎_elim
      (λ (a, e). let parts = is a e in
      checked_right r (not_of_kind l Kind.Sym) (of_kind l Kind.Sym) cases (λ holds. absurd (symbol_stays l x over_l is_l a e holds)) (λ holds. parts.0) (inr (symbol_holds l x over_l is_l a e, parts.1)))
      (λ (refused, differ).
      checked_right r (not_of_kind l Kind.Sym) (of_kind l Kind.Sym) cases (λ holds. no_symbol refused)
      (λ holds. absurd (differ ((of_kind_tells vars v l Kind.Sym x proper over_l is_l).0 holds)))
      (inl ((not_of_kind_tells vars v l Kind.Sym x proper over_l is_l).1 differ)))
      (symbol_or_not x)

  -- a location and a name
  property_right : (l p : PureTerm) (x y : PureValue) → IsOver vars l → IsOver vars p → value v l ≡ Some x → value v p ≡ Some y → (r : ActionResult) (cases : List PureCase) → (symbol_of x ≡ Err Failure.Kind → r ≡ fails Failure.Kind h)
      → ((a : ℕ) → x ≡ symbol a → text_of y ≡ Err Failure.Kind → r ≡ fails Failure.Kind h) → ((a : ℕ) (n : List ℕ) → x ≡ symbol a → y ≡ text n → Each (IsExactCase Object v r) cases × OneOf (Comes v) cases)
      → IsRight Object v r (checked (no_property l p) (is_property l p) cs cases)
  property_right l p x y over_l over_p is_l is_p r cases no_symbol no_text is =
      ⊎_elim
      (λ (a, e). ⊎_elim
      (λ (n, f). let parts = is a n e f in
      checked_right r (no_property l p) (is_property l p) cases
      (λ holds. absurd (⊎_elim (symbol_stays l x over_l is_l a e) (λ texts. (not_of_kind_tells vars v p Kind.Str y proper over_p is_p).0 texts (ap kind_of f)) (one_parts (λ conds. IsTrue (all_true v conds)) (not_of_kind l Kind.Sym) (not_of_kind p Kind.Str) holds)))
      (λ holds. parts.0)
      (inr (both_from v (of_kind l Kind.Sym) (of_kind p Kind.Str) (symbol_holds l x over_l is_l a e) ((of_kind_tells vars v p Kind.Str y proper over_p is_p).1 (ap kind_of f)), parts.1)))
      (λ (refused, differ).
      checked_right r (no_property l p) (is_property l p) cases (λ holds. no_text a e refused)
      (λ holds. absurd (differ ((of_kind_tells vars v p Kind.Str y proper over_p is_p).0 (both_parts v (of_kind l Kind.Sym) (of_kind p Kind.Str) holds).1)))
      (inl (one_right (λ conds. IsTrue (all_true v conds)) (not_of_kind l Kind.Sym) (not_of_kind p Kind.Str) ((not_of_kind_tells vars v p Kind.Str y proper over_p is_p).1 differ))))
      (text_or_not y))
      (λ (refused, differ).
      checked_right r (no_property l p) (is_property l p) cases (λ holds. no_symbol refused)
      (λ holds. absurd (differ ((of_kind_tells vars v l Kind.Sym x proper over_l is_l).0 (both_parts v (of_kind l Kind.Sym) (of_kind p Kind.Str) holds).0)))
      (inl (one_left (λ conds. IsTrue (all_true v conds)) (not_of_kind l Kind.Sym) (not_of_kind p Kind.Str) ((not_of_kind_tells vars v l Kind.Sym x proper over_l is_l).1 differ))))
      (symbol_or_not x)

  -- ---- actions on a location and a name

  abbrev acts_on : (ℕ → List ℕ → Heap → ActionResult) → List PureValue → ActionResult
  acts_on does_it args' = read_or_fail (property_in args') (λ (l, p). does_it l p h) h

  module _ (does_it : ℕ → List ℕ → Heap → ActionResult) (cases : PureTerm → PureTerm → List PureCase)
      (is : (l p : PureTerm) (a : ℕ) (n : List ℕ) → IsLocation vars v l a → IsOver vars p → value v p ≡ Some (text n) → IsHeapOf Object (does_it a n h).heap → Each (IsExactCase Object v (does_it a n h)) (cases l p) × OneOf (Comes v) (cases l p)) where
    abbrev acts : List PureValue → ActionResult
    acts args' = acts_on does_it args'

    two_right : (l p : PureTerm) (x y : PureValue) → IsOver vars l → IsOver vars p → value v l ≡ Some x → value v p ≡ Some y → IsHeapOf Object (acts (x ∷ y ∷ [])).heap → IsRight Object v (acts (x ∷ y ∷ [])) (checked (no_property l p) (is_property l p) cs (cases l p))
    two_right l p x y over_l over_p is_l is_p keeps =
        property_right l p x y over_l over_p is_l is_p (acts (x ∷ y ∷ [])) (cases l p)
        (λ refused. ap (λ o. read_or_fail (and_then o (λ l. and_then (text_of y) (λ p. Ok (l, p)))) (λ (l, p). does_it l p h) h) refused)
        (λ a e refused. ap (λ z. acts (z ∷ y ∷ [])) e ∙ ap (λ o. read_or_fail (and_then o (λ p. Ok (a, p))) (λ (l, p). does_it l p h) h) refused)
        (λ a n e f.
        let same_result : acts (x ∷ y ∷ []) ≡ does_it a n h = (λ i. acts (e i ∷ f i ∷ [])) in
        let kept : IsHeapOf Object (does_it a n h).heap = subst (λ (q : ActionResult). IsHeapOf Object q.heap) same_result keeps in
        let parts = is l p a n (location_of_symbol l x over_l is_l a e) over_p (is_p ∙ ap Some f) kept in
        (subst (λ q. Each (IsExactCase Object v q) (cases l p)) (sym same_result) parts.0, parts.1))

    named_right : (args : List PureTerm) (args' : List PureValue) → Each (IsOver vars) args → values v (from_list args) ≡ Some args' → IsHeapOf Object (acts args').heap → IsRight Object v (acts args') (of_property args cs cases)
    named_right (l ∷ p ∷ []) args' over_args have keeps =
        let (x, (y, (is_l, is_p, whole))) = values_two v l p args' have in
        subst (λ us. IsRight Object v (acts us) (checked (no_property l p) (is_property l p) cs (cases l p))) (sym whole)
        (two_right l p x y over_args.0 over_args.1.0 is_l is_p (subst (λ us. IsHeapOf Object (acts us).heap) whole keeps))
    named_right [] args' over_args have keeps = fails_always (acts args') Failure.Arity (ap acts (values_none v args' have))
    named_right (l ∷ []) args' over_args have keeps =
        let (x, (is_l, whole)) = values_one v l args' have in
        fails_always (acts args') Failure.Arity (ap acts whole)
    named_right (l ∷ p ∷ t ∷ more) args' over_args have keeps =
        let (x, (us, (rest, whole))) = values_first v l (p ∷ t ∷ more) args' have in
        let (y, (ws, (others, next))) = values_first v p (t ∷ more) us rest in
        let (z, (zs, (last, end))) = values_first v t more ws others in
        fails_always (acts args') Failure.Arity (ap acts (whole ∙ ap (λ xs. x ∷ xs) (next ∙ ap (λ xs. y ∷ xs) end)))

  pub get_right : (args : List PureTerm) (args' : List PureValue) (fresh : Option Var) → Each (IsOver vars) args → values v (from_list args) ≡ Some args' → IsHeapOf Object (acts_on get_property args').heap → IsRight Object v (acts_on get_property args') (branches_by ObjectAction.Get fresh args cs)
  get_right args args' fresh over_args have keeps =
      named_right get_property (λ l p. get_cases l p cs)
      (λ l p a n asked over_p is_p keeps. (get_exact vars v h proper cs stands.union facts stands.is_heap l a asked p n over_p is_p, get_comes vars v h proper cs stands.union facts stands.is_heap l a asked p n over_p is_p))
      args args' over_args have keeps

  pub has_right : (args : List PureTerm) (args' : List PureValue) (fresh : Option Var) → Each (IsOver vars) args → values v (from_list args) ≡ Some args' → IsHeapOf Object (acts_on has_property args').heap → IsRight Object v (acts_on has_property args') (branches_by ObjectAction.Has fresh args cs)
  has_right args args' fresh over_args have keeps =
      named_right has_property (λ l p. has_cases l p cs)
      (λ l p a n asked over_p is_p keeps. (has_exact vars v h proper cs stands.union facts stands.is_heap l a asked p n over_p is_p, has_comes vars v h proper cs stands.union facts stands.is_heap l a asked p n over_p is_p))
      args args' over_args have keeps

  pub delete_right : (args : List PureTerm) (args' : List PureValue) (fresh : Option Var) → Each (IsOver vars) args → values v (from_list args) ≡ Some args' → IsHeapOf Object (acts_on delete_property args').heap → IsRight Object v (acts_on delete_property args') (branches_by ObjectAction.Delete fresh args cs)
  delete_right args args' fresh over_args have keeps =
      named_right delete_property (λ l p. delete_cases l p cs)
      (λ l p a n asked over_p is_p keeps. (delete_exact vars v h proper cs stands.union facts stands.is_heap l a asked p n over_p is_p keeps, delete_comes vars v h proper cs stands.union facts stands.is_heap l a asked p n over_p is_p keeps))
      args args' over_args have keeps

  -- ---- `set`

  abbrev sets : List PureValue → ActionResult
  sets args' = read_or_fail (property_and_value_in args') (λ (l, p, t). set_property l p t h) h

  set_three : (l p t : PureTerm) (x y u : PureValue) → IsOver vars l → IsOver vars p → value v l ≡ Some x → value v p ≡ Some y → value v t ≡ Some u → IsHeapOf Object (sets (x ∷ y ∷ u ∷ [])).heap → IsRight Object v (sets (x ∷ y ∷ u ∷ [])) (checked (no_property l p) (is_property l p) cs (set_cases l p t cs))
  set_three l p t x y u over_l over_p is_l is_p is_t keeps =
      property_right l p x y over_l over_p is_l is_p (sets (x ∷ y ∷ u ∷ [])) (set_cases l p t cs)
      (λ refused. ap (λ o. read_or_fail (and_then o (λ l. and_then (text_of y) (λ p. Ok (l, p, u)))) (λ (l, p, t). set_property l p t h) h) refused)
      (λ a e refused. ap (λ z. sets (z ∷ y ∷ u ∷ [])) e ∙ ap (λ o. read_or_fail (and_then o (λ p. Ok (a, p, u))) (λ (l, p, t). set_property l p t h) h) refused)
      (λ a n e f.
      let same_result : sets (x ∷ y ∷ u ∷ []) ≡ set_property a n u h = (λ i. sets (e i ∷ f i ∷ u ∷ [])) in
      let kept : IsHeapOf Object (set_property a n u h).heap = subst (λ (q : ActionResult). IsHeapOf Object q.heap) same_result keeps in
      let asked = location_of_symbol l x over_l is_l a e in
      let named = is_p ∙ ap Some f in (
        subst (λ q. Each (IsExactCase Object v q) (set_cases l p t cs)) (sym same_result) (set_exact vars v h proper cs stands.union facts stands.is_heap l a asked p n over_p named t u is_t kept),
        set_comes vars v h proper cs stands.union facts stands.is_heap l a asked p n over_p named t u is_t kept,
      ))

  pub set_right : (args : List PureTerm) (args' : List PureValue) (fresh : Option Var) → Each (IsOver vars) args → values v (from_list args) ≡ Some args' → IsHeapOf Object (sets args').heap → IsRight Object v (sets args') (branches_by ObjectAction.Set fresh args cs)
  set_right (l ∷ p ∷ t ∷ []) args' fresh over_args have keeps =
      let (x, (y, (u, (is_l, is_p, is_t, whole)))) = values_three v l p t args' have in
      subst (λ us. IsRight Object v (sets us) (checked (no_property l p) (is_property l p) cs (set_cases l p t cs))) (sym whole)
      (set_three l p t x y u over_args.0 over_args.1.0 is_l is_p is_t (subst (λ us. IsHeapOf Object (sets us).heap) whole keeps))
  set_right [] args' fresh over_args have keeps = fails_always (sets args') Failure.Arity (ap sets (values_none v args' have))
  set_right (l ∷ []) args' fresh over_args have keeps =
      let (x, (is_l, whole)) = values_one v l args' have in
      fails_always (sets args') Failure.Arity (ap sets whole)
  set_right (l ∷ p ∷ []) args' fresh over_args have keeps =
      let (x, (y, (is_l, is_p, whole))) = values_two v l p args' have in
      fails_always (sets args') Failure.Arity (ap sets whole)
  set_right (l ∷ p ∷ t ∷ s ∷ more) args' fresh over_args have keeps =
      let (x, (us, (rest, whole))) = values_first v l (p ∷ t ∷ s ∷ more) args' have in
      let (y, (ws, (others, next))) = values_first v p (t ∷ s ∷ more) us rest in
      let (z, (zs, (last, end))) = values_first v t (s ∷ more) ws others in
      let (q, (qs, (final, stop))) = values_first v s more zs last in
      fails_always (sets args') Failure.Arity (ap sets (whole ∙ ap (λ xs. x ∷ xs) (next ∙ ap (λ xs. y ∷ xs) (end ∙ ap (λ xs. z ∷ xs) stop))))

  -- ---- `getproto`

  abbrev gets_proto : List PureValue → ActionResult
  gets_proto args' = read_or_fail (location_in args') (λ l. get_prototype l h) h

  getproto_one : (l : PureTerm) (x : PureValue) → IsOver vars l → value v l ≡ Some x → IsRight Object v (gets_proto (x ∷ [])) (checked (not_of_kind l Kind.Sym) (of_kind l Kind.Sym) cs (prototype_cases reads l cs))
  getproto_one l x over_l is_l =
      location_right l x over_l is_l (gets_proto (x ∷ [])) (prototype_cases reads l cs)
      (λ refused. ap (λ o. read_or_fail o (λ l. get_prototype l h) h) refused)
      (λ a e.
      let same_result : gets_proto (x ∷ []) ≡ get_prototype a h = ap (λ z. gets_proto (z ∷ [])) e in
      let asked = location_of_symbol l x over_l is_l a e in (
        subst (λ q. Each (IsExactCase Object v q) (prototype_cases reads l cs)) (sym same_result) (getproto_exact vars v h proper cs stands.union facts stands.is_heap l a asked),
        prototype_comes vars v h proper cs stands.union facts stands.is_heap l a asked reads,
      ))

  pub getproto_right : (args : List PureTerm) (args' : List PureValue) (fresh : Option Var) → Each (IsOver vars) args → values v (from_list args) ≡ Some args' → IsRight Object v (gets_proto args') (branches_by ObjectAction.GetProto fresh args cs)
  getproto_right (l ∷ []) args' fresh over_args have =
      let (x, (is_l, whole)) = values_one v l args' have in
      subst (λ us. IsRight Object v (gets_proto us) (checked (not_of_kind l Kind.Sym) (of_kind l Kind.Sym) cs (prototype_cases reads l cs))) (sym whole) (getproto_one l x over_args.0 is_l)
  getproto_right [] args' fresh over_args have = fails_always (gets_proto args') Failure.Arity (ap gets_proto (values_none v args' have))
  getproto_right (l ∷ p ∷ more) args' fresh over_args have =
      let (x, (us, (rest, whole))) = values_first v l (p ∷ more) args' have in
      let (y, (ws, (others, next))) = values_first v p more us rest in
      fails_always (gets_proto args') Failure.Arity (ap gets_proto (whole ∙ ap (λ xs. x ∷ xs) next))

  -- ---- `setproto`

  abbrev sets_proto : List PureValue → ActionResult
  sets_proto args' = read_or_fail (location_and_prototype_in args') (λ (l, w). set_prototype l w h) h

  abbrev no_pair : PureTerm → PureTerm → Alternatives
  no_pair l t = not_of_kind l Kind.Sym ++ is_no_prototype t

  abbrev is_pair : PureTerm → PureTerm → Alternatives
  is_pair l t = both (of_kind l Kind.Sym) (is_prototype t)

  setproto_two : (l t : PureTerm) (x u : PureValue) → IsOver vars l → IsOver vars t → value v l ≡ Some x → value v t ≡ Some u → IsHeapOf Object (sets_proto (x ∷ u ∷ [])).heap → IsRight Object v (sets_proto (x ∷ u ∷ [])) (checked (no_pair l t) (is_pair l t) cs (prototype_cases (writes t) l cs))
  setproto_two l t x u over_l over_t is_l is_t keeps =
      ⊎_elim
      (λ (a, e). ⊎_elim
      (λ (reads_it, is).
      let same_result : sets_proto (x ∷ u ∷ []) ≡ set_prototype a u h = ap (λ z. sets_proto (z ∷ u ∷ [])) e ∙ ap (λ o. read_or_fail (and_then o (λ w. Ok (a, w))) (λ (l, w). set_prototype l w h) h) reads_it in
      let kept : IsHeapOf Object (set_prototype a u h).heap = subst (λ (q : ActionResult). IsHeapOf Object q.heap) same_result keeps in
      let asked = location_of_symbol l x over_l is_l a e in
      checked_right (sets_proto (x ∷ u ∷ [])) (no_pair l t) (is_pair l t) (prototype_cases (writes t) l cs)
      (λ holds. absurd (⊎_elim (symbol_stays l x over_l is_l a e) (λ isnt. holds_no_prototype t u over_t is_t isnt is) (one_parts (λ conds. IsTrue (all_true v conds)) (not_of_kind l Kind.Sym) (is_no_prototype t) holds)))
      (λ holds. subst (λ q. Each (IsExactCase Object v q) (prototype_cases (writes t) l cs)) (sym same_result) (setproto_exact vars v h proper cs stands.union facts stands.is_heap l a asked t u is_t kept))
      (inr (both_from v (of_kind l Kind.Sym) (is_prototype t) (symbol_holds l x over_l is_l a e) (prototype_holds t u over_t is_t is), prototype_comes vars v h proper cs stands.union facts stands.is_heap l a asked (writes t))))
      (λ (refused, isnt).
      checked_right (sets_proto (x ∷ u ∷ [])) (no_pair l t) (is_pair l t) (prototype_cases (writes t) l cs)
      (λ holds. ap (λ z. sets_proto (z ∷ u ∷ [])) e ∙ ap (λ o. read_or_fail (and_then o (λ w. Ok (a, w))) (λ (l, w). set_prototype l w h) h) refused)
      (λ holds. absurd (isnt (holds_prototype t u over_t is_t (both_parts v (of_kind l Kind.Sym) (is_prototype t) holds).1)))
      (inl (one_right (λ conds. IsTrue (all_true v conds)) (not_of_kind l Kind.Sym) (is_no_prototype t) (no_prototype_holds t u over_t is_t isnt))))
      (prototype_or_not u))
      (λ (refused, differ).
      checked_right (sets_proto (x ∷ u ∷ [])) (no_pair l t) (is_pair l t) (prototype_cases (writes t) l cs)
      (λ holds. ap (λ o. read_or_fail (and_then o (λ l. and_then (prototype_of u) (λ w. Ok (l, w)))) (λ (l, w). set_prototype l w h) h) refused)
      (λ holds. absurd (differ ((of_kind_tells vars v l Kind.Sym x proper over_l is_l).0 (both_parts v (of_kind l Kind.Sym) (is_prototype t) holds).0)))
      (inl (one_left (λ conds. IsTrue (all_true v conds)) (not_of_kind l Kind.Sym) (is_no_prototype t) ((not_of_kind_tells vars v l Kind.Sym x proper over_l is_l).1 differ))))
      (symbol_or_not x)

  pub setproto_right : (args : List PureTerm) (args' : List PureValue) (fresh : Option Var) → Each (IsOver vars) args → values v (from_list args) ≡ Some args' → IsHeapOf Object (sets_proto args').heap → IsRight Object v (sets_proto args') (branches_by ObjectAction.SetProto fresh args cs)
  setproto_right (l ∷ t ∷ []) args' fresh over_args have keeps =
      let (x, (u, (is_l, is_t, whole))) = values_two v l t args' have in
      subst (λ us. IsRight Object v (sets_proto us) (checked (no_pair l t) (is_pair l t) cs (prototype_cases (writes t) l cs))) (sym whole)
      (setproto_two l t x u over_args.0 over_args.1.0 is_l is_t (subst (λ us. IsHeapOf Object (sets_proto us).heap) whole keeps))
  setproto_right [] args' fresh over_args have keeps = fails_always (sets_proto args') Failure.Arity (ap sets_proto (values_none v args' have))
  setproto_right (l ∷ []) args' fresh over_args have keeps =
      let (x, (is_l, whole)) = values_one v l args' have in
      fails_always (sets_proto args') Failure.Arity (ap sets_proto whole)
  setproto_right (l ∷ t ∷ s ∷ more) args' fresh over_args have keeps =
      let (x, (us, (rest, whole))) = values_first v l (t ∷ s ∷ more) args' have in
      let (y, (ws, (others, next))) = values_first v t (s ∷ more) us rest in
      let (z, (zs, (last, end))) = values_first v s more ws others in
      fails_always (sets_proto args') Failure.Arity (ap sets_proto (whole ∙ ap (λ xs. x ∷ xs) (next ∙ ap (λ xs. y ∷ xs) end)))

  -- ---- `new`

  module _ (z : Var) (n : ℕ) (is_z : value v (variable z) ≡ Some (symbol n)) (lacks : (s : Sub) → ¬ HasKey h (key n s)) where
    abbrev makes : List PureValue → ActionResult
    makes args' = read_or_fail (prototype_in args') (λ w. new (Some n) w h) h

    created_union : (t : PureTerm) (u : PureValue) → value v t ≡ Some u → IsUnion v (created z t cs) (created_heap (key n Dom) (list no_values) (key n Proto ∷ []) u h)
    created_union t u is_t =
        let listed : IsUnion v (cs ++ record { loc = variable z; sub = dom; val = no_names } ∷ []) (insert h (key n Dom) (list no_values)) =
        put_last v cs h (record { loc = variable z; sub = dom; val = no_names }) (key n Dom) (list no_values) stands.union (record { at = ap (λ o. key_of (location_of o) (Some Dom)) is_z; holds = refl }) (lacks Dom) in
        let still : ¬ HasKey (insert h (key n Dom) (list no_values)) (key n Proto) = (λ has.
        let (w, held) = value_at (insert h (key n Dom) (list no_values)) (key n Proto) has in
        ⊎_elim (λ put. other_subs put.0) (λ kept. lacks Proto (has_key h (key n Proto) w kept.1)) (held_inserted h (key n Dom) (key n Proto) (list no_values) w held)) in
        let whole = put_last v (cs ++ record { loc = variable z; sub = dom; val = no_names } ∷ []) (insert h (key n Dom) (list no_values)) (record { loc = variable z; sub = proto; val = t }) (key n Proto) u listed
        (record { at = ap (λ o. key_of (location_of o) (Some Proto)) is_z; holds = is_t }) still in
        subst (IsUnion v (created z t cs)) (insert_comm h (key n Proto) (key n Dom) u (list no_values) other_subs ∙ sym (made_heap n h u)) whole
      where
        other_subs : ¬ (key n Proto ≡ key n Dom)
        other_subs e = absurd (omega (arith, ap (λ (q : Key). variant_number q.sub) e))

    new_one : (t : PureTerm) (u : PureValue) → IsOver vars t → value v t ≡ Some u → IsHeapOf Object (makes (u ∷ [])).heap → IsRight Object v (makes (u ∷ [])) (checked (is_no_prototype t) (is_prototype t) cs (new_cases z t cs))
    new_one t u over_t is_t keeps =
        ⊎_elim
        (λ (reads_it, is).
        let same_result : makes (u ∷ []) ≡ new (Some n) u h = ap (λ o. read_or_fail o (λ w. new (Some n) w h) h) reads_it in
        checked_right (makes (u ∷ [])) (is_no_prototype t) (is_prototype t) (new_cases z t cs)
        (λ holds. absurd (holds_no_prototype t u over_t is_t holds is))
        (λ holds. made_exact Object v (makes (u ∷ [])) always (created z t cs) (done (variable z)) (inr (λ sure.
        subst (λ q. IsFor Object v q (created z t cs) (done (variable z))) (sym same_result) (
          is_z,
          record { union = created_union t u is_t; is_heap = subst (λ (q : ActionResult). IsHeapOf Object q.heap) same_result keeps },
        ))))
        (inr (prototype_holds t u over_t is_t is, made_comes v always (created z t cs) (done (variable z)) (always_true v))))
        (λ (refused, isnt).
        checked_right (makes (u ∷ [])) (is_no_prototype t) (is_prototype t) (new_cases z t cs)
        (λ holds. ap (λ o. read_or_fail o (λ w. new (Some n) w h) h) refused)
        (λ holds. absurd (isnt (holds_prototype t u over_t is_t holds)))
        (inl (no_prototype_holds t u over_t is_t isnt)))
        (prototype_or_not u)

    pub new_right : (args : List PureTerm) (args' : List PureValue) → Each (IsOver vars) args → values v (from_list args) ≡ Some args' → IsHeapOf Object (makes args').heap → IsRight Object v (makes args') (branches_by ObjectAction.New (Some z) args cs)
    new_right (t ∷ []) args' over_args have keeps =
        let (u, (is_t, whole)) = values_one v t args' have in
        subst (λ us. IsRight Object v (makes us) (checked (is_no_prototype t) (is_prototype t) cs (new_cases z t cs))) (sym whole) (new_one t u over_args.0 is_t (subst (λ us. IsHeapOf Object (makes us).heap) whole keeps))
    new_right [] args' over_args have keeps = fails_always (makes args') Failure.Arity (ap makes (values_none v args' have))
    new_right (l ∷ p ∷ more) args' over_args have keeps =
        let (x, (us, (rest, whole))) = values_first v l (p ∷ more) args' have in
        let (y, (ws, (others, next))) = values_first v p more us rest in
        fails_always (makes args') Failure.Arity (ap makes (whole ∙ ap (λ xs. x ∷ xs) next))

-- ---- the laws

-- what the proofs of the actions are given
record Given (vars : List Sort) (v : List PureValue) (fresh : Option Var) (args : List PureTerm) (cs : List PureChunk) (args' : List PureValue) (h : Heap) (op : ObjectAction) : Type 0 where
  over_args : Each (IsOver vars) args
  over_chunks : Each (ChunkTerms (IsOver vars)) cs
  keeps : IsHeapOf Object (act_of (Some op) (fresh_symbol v fresh) args' h).heap

module _ (op : ObjectAction) (action : List ℕ) (fresh : Option Var) (args : List PureTerm) (cs : List PureChunk) (is_op : action_of action ≡ Some op) (asked : MayBeAsked object_actions action fresh args (terms_of cs)) where
  module _ (vars : List Sort) (v args' : List PureValue) (h : Heap) (serves : Serves (StandFor Object) terms_of vars v fresh args cs args' h) where
    may : MayAct object_actions action (fresh_symbol v fresh) args' h
    may = serving_may_act Object (StandFor Object) terms_of object_actions (chunks_have_meaning Object) action fresh args cs vars v args' h asked serves

    result_is : object_actions.act action (fresh_symbol v fresh) args' h ≡ act_of (Some op) (fresh_symbol v fresh) args' h
    result_is = ap (λ o. act_of o (fresh_symbol v fresh) args' h) is_op

    what_is_given : Given vars v fresh args cs args' h op
    what_is_given = record {
      over_args = each_left (IsOver vars) args (all_of (terms_of cs)) serves.over;
      over_chunks = chunk_by_chunk (IsOver vars) cs (each_right (IsOver vars) args (all_of (terms_of cs)) serves.over);
      keeps = subst (λ (q : ActionResult). IsHeapOf Object q.heap) result_is (object_is_memory.keeps_heaps action (fresh_symbol v fresh) args' h serves.has_heap.is_heap may);
    }

  are_right : ((vars : List Sort) (v args' : List PureValue) (h : Heap) → Serves (StandFor Object) terms_of vars v fresh args cs args' h → IsRight Object v (act_of (Some op) (fresh_symbol v fresh) args' h) (branches_by op fresh args cs)) → AreRight action fresh args cs (branches_by op fresh args cs)
  are_right is = record {
    cover = λ vars v args' h serves.
        let r = object_actions.act action (fresh_symbol v fresh) args' h in
        let right = is vars v args' h serves in
        covered Object v r (branches_by op fresh args cs) (subst (λ q. Each (Exact Object v q) (branches_by op fresh args cs)) (sym (result_is vars v args' h serves)) right.exact) right.taken;
    exact = λ vars v args' h serves.
        subst (λ q. Each (Exact Object v q) (branches_by op fresh args cs)) (sym (result_is vars v args' h serves)) (is vars v args' h serves).exact;
  }

pub get_is_right : IsRightAction ObjectAction.Get
get_is_right action fresh args cs is_op asked =
    are_right ObjectAction.Get action fresh args cs is_op asked (λ vars v args' h serves.
    let given = what_is_given ObjectAction.Get action fresh args cs is_op asked vars v args' h serves in
    get_right vars v h cs serves.proper given.over_chunks serves.has_heap args args' fresh given.over_args serves.have_values given.keeps)

pub has_is_right : IsRightAction ObjectAction.Has
has_is_right action fresh args cs is_op asked =
    are_right ObjectAction.Has action fresh args cs is_op asked (λ vars v args' h serves.
    let given = what_is_given ObjectAction.Has action fresh args cs is_op asked vars v args' h serves in
    has_right vars v h cs serves.proper given.over_chunks serves.has_heap args args' fresh given.over_args serves.have_values given.keeps)

pub delete_is_right : IsRightAction ObjectAction.Delete
delete_is_right action fresh args cs is_op asked =
    are_right ObjectAction.Delete action fresh args cs is_op asked (λ vars v args' h serves.
    let given = what_is_given ObjectAction.Delete action fresh args cs is_op asked vars v args' h serves in
    delete_right vars v h cs serves.proper given.over_chunks serves.has_heap args args' fresh given.over_args serves.have_values given.keeps)

pub set_is_right : IsRightAction ObjectAction.Set
set_is_right action fresh args cs is_op asked =
    are_right ObjectAction.Set action fresh args cs is_op asked (λ vars v args' h serves.
    let given = what_is_given ObjectAction.Set action fresh args cs is_op asked vars v args' h serves in
    set_right vars v h cs serves.proper given.over_chunks serves.has_heap args args' fresh given.over_args serves.have_values given.keeps)

pub getproto_is_right : IsRightAction ObjectAction.GetProto
getproto_is_right action fresh args cs is_op asked =
    are_right ObjectAction.GetProto action fresh args cs is_op asked (λ vars v args' h serves.
    let given = what_is_given ObjectAction.GetProto action fresh args cs is_op asked vars v args' h serves in
    getproto_right vars v h cs serves.proper given.over_chunks serves.has_heap args args' fresh given.over_args serves.have_values)

pub setproto_is_right : IsRightAction ObjectAction.SetProto
setproto_is_right action fresh args cs is_op asked =
    are_right ObjectAction.SetProto action fresh args cs is_op asked (λ vars v args' h serves.
    let given = what_is_given ObjectAction.SetProto action fresh args cs is_op asked vars v args' h serves in
    setproto_right vars v h cs serves.proper given.over_chunks serves.has_heap args args' fresh given.over_args serves.have_values given.keeps)

taken_by_new : (action : List ℕ) → action_of action ≡ Some ObjectAction.New → object_actions.takes_symbol action ≡ true
taken_by_new action is = ap takes_symbol_of is

module _ (action : List ℕ) (args : List PureTerm) (cs : List PureChunk) (is_op : action_of action ≡ Some ObjectAction.New) where
  with_fresh : (fresh : Option Var) → MayBeAsked object_actions action fresh args (terms_of cs) → AreRight action fresh args cs (branches_by ObjectAction.New fresh args cs)
  with_fresh None asked = absurd (true≢false (sym (asked.fresh_where_taken.1 (taken_by_new action is_op))))
  with_fresh (Some x) asked =
      are_right ObjectAction.New action (Some x) args cs is_op asked (λ vars v args' h serves.
      let given = what_is_given ObjectAction.New action (Some x) args cs is_op asked vars v args' h serves in
      let (n, is_x) = fresh_value vars v serves.proper x (asked.of_sort x refl) serves.fresh_over in
      let at_n : fresh_symbol v (Some x) ≡ Some n = ap location_of is_x in
      let allowed = may ObjectAction.New action (Some x) args cs is_op asked vars v args' h serves in
      subst (λ s. IsRight Object v (act_of (Some ObjectAction.New) s args' h) (branches_by ObjectAction.New (Some x) args cs)) (sym at_n)
      (new_right vars v h cs serves.proper given.over_chunks serves.has_heap x n is_x
      (λ s has. let (w, held) = value_at h (key n s) has in allowed.new_in_heap n at_n (key n s, (w, (held, inl refl))))
      args args' given.over_args serves.have_values
      (subst (λ s. IsHeapOf Object (act_of (Some ObjectAction.New) s args' h).heap) at_n given.keeps)))

pub new_is_right : IsRightAction ObjectAction.New
new_is_right action fresh args cs is_op asked = with_fresh action args cs is_op fresh asked
