-- The branches of each action are right, wherever the action may be asked.
use Rattle.std.proofs.Common.{◌≡◌, ℕ, List, [], ◌∷◌, true, Option, Some, None, Ok, refl, sym, ap, subst, ◌∙◌, true≢false, inl}
use Rattle.gil_values.specs.declared.kinds.Kind.{Kind}
use Rattle.gil_values.specs.Pure.{PureValue}
use Rattle.mem_model.specs.declared.failures.Failure.{Failure}
use Rattle.mem_model.specs.declared.keys.MemoryName.TheVariants.{Record}
use Rattle.mem_model.specs.Actions.{ActionResult, MayAct}
use Rattle.mem_model.specs.Arguments.{and_then, text_of, location_in, property_in, property_and_value_in}
use Rattle.mem_model.specs.Heaps.{Heap, IsHeapOf}
use Rattle.mem_model.specs.Keys.{key}
use Rattle.mem_model.specs.Tables.{read_or_fail}
use Rattle.mem_model.proofs.Joins.{value_at}
use Rattle.pure_terms.specs.declared.variables.Sort.{Sort}
use Rattle.pure_terms.specs.declared.variables.Var.{Var}
use Rattle.pure_terms.specs.Meaning.{value, values, IsProper, IsOver}
use Rattle.pure_terms.specs.Pure.{PureTerm, from_list}
use Rattle.record_heap.specs.declared.actions.RecordAction.{RecordAction}
use Rattle.record_heap.specs.Names.{action_of, takes_symbol_of}
use Rattle.record_heap.specs.RecordLaws.{record_is_memory}
use Rattle.record_heap.specs.Table.{lookup, mutate, dispose, act_of, record_actions}
use Rattle.record_sym.specs.Laws.{AreRight, IsRightAction}
use Rattle.record_sym.specs.Table.{name_cases, dispose_cases, act_lookup, act_mutate, act_dispose, branches_by}
use Rattle.sym_chunks.specs.Arguments.{checked, no_property, is_property}
use Rattle.sym_chunks.specs.Cases.{reads, writes}
use Rattle.sym_model.specs.Alternatives.{of_kind, not_of_kind}
use Rattle.sym_model.specs.Chunks.{StandFor, terms_of}
use Rattle.sym_model.specs.Laws.{MayBeAsked, Serves}
use Rattle.sym_model.specs.Lists.{Each}
use Rattle.sym_model.specs.Meaning.{location_of, fresh_symbol}
use Rattle.sym_model.specs.Pure.{PureChunk}
use Rattle.sym_model.specs.Terms.{all_of}
use Rattle.sym_model.proofs.Asking.{serving_may_act, fresh_value}
use Rattle.sym_model.proofs.ChunkMeaning.{ChunkTerms, chunk_by_chunk, chunks_have_meaning}
use Rattle.sym_model.proofs.ListLaws.{each_left, each_right}
use Rattle.sym_chunks.proofs.ArgumentLaws.{values_none, values_first, values_one, values_two, values_three, fails_always, location_of_symbol, location_right, property_right}
use Rattle.sym_chunks.proofs.CaseLaws.{IsRight, Exact, IsExactCase, covered}
use Rattle.sym_chunks.proofs.Facts.{Fact, each_fact}
use Rattle.record_sym.proofs.DisposeRight.{dispose_exact, dispose_comes}
use Rattle.record_sym.proofs.NameRight.{lookup_exact, mutate_exact, name_comes}
use Rattle.record_sym.proofs.NewLaws.{new_right}

module _ (vars : List Sort) (v : List PureValue) (h : Heap) (cs : List PureChunk) (proper : IsProper vars v) (over : Each (ChunkTerms (IsOver vars)) cs) (stands : StandFor Record cs v h) where
  facts : Each (Fact vars v h) cs
  facts = each_fact vars v h cs stands.union over

  -- ---- `lookup`

  abbrev looks_up : List PureValue → ActionResult
  looks_up args' = read_or_fail (property_in args') (λ (l, p). lookup l p h) h

  lookup_two : (l p : PureTerm) (x y : PureValue) → IsOver vars l → IsOver vars p → value v l ≡ Some x → value v p ≡ Some y → IsRight Record v (looks_up (x ∷ y ∷ [])) (checked (no_property l p) (is_property l p) cs (name_cases reads l p cs))
  lookup_two l p x y over_l over_p is_l is_p =
      property_right Record vars v h cs proper stands l p x y over_l over_p is_l is_p (looks_up (x ∷ y ∷ [])) (name_cases reads l p cs)
      (λ refused. ap (λ o. read_or_fail (and_then o (λ l. and_then (text_of y) (λ p. Ok (l, p)))) (λ (l, p). lookup l p h) h) refused)
      (λ a e refused. ap (λ z. looks_up (z ∷ y ∷ [])) e ∙ ap (λ o. read_or_fail (and_then o (λ p. Ok (a, p))) (λ (l, p). lookup l p h) h) refused)
      (λ a n e f.
      let same_result : looks_up (x ∷ y ∷ []) ≡ lookup a n h = (λ i. looks_up (e i ∷ f i ∷ [])) in
      let asked = location_of_symbol Record vars v h cs proper stands l x over_l is_l a e in
      let named_is = is_p ∙ ap Some f in (
        subst (λ q. Each (IsExactCase Record v q) (name_cases reads l p cs)) (sym same_result) (lookup_exact vars v h proper cs stands facts l a asked p n over_p named_is),
        name_comes vars v h proper cs stands facts l a asked p n over_p named_is reads,
      ))

  pub lookup_right : (args : List PureTerm) (args' : List PureValue) → Each (IsOver vars) args → values v (from_list args) ≡ Some args' → IsRight Record v (looks_up args') (act_lookup args cs)
  lookup_right (l ∷ p ∷ []) args' over_args have =
      let (x, (y, (is_l, is_p, whole))) = values_two v l p args' have in
      subst (λ us. IsRight Record v (looks_up us) (act_lookup (l ∷ p ∷ []) cs)) (sym whole) (lookup_two l p x y over_args.0 over_args.1.0 is_l is_p)
  lookup_right [] args' over_args have = fails_always Record vars v h cs proper stands (looks_up args') Failure.Arity (ap looks_up (values_none v args' have))
  lookup_right (l ∷ []) args' over_args have =
      let (x, (is_l, whole)) = values_one v l args' have in
      fails_always Record vars v h cs proper stands (looks_up args') Failure.Arity (ap looks_up whole)
  lookup_right (l ∷ p ∷ t ∷ more) args' over_args have =
      let (x, (us, (rest, whole))) = values_first v l (p ∷ t ∷ more) args' have in
      let (y, (ws, (others, next))) = values_first v p (t ∷ more) us rest in
      let (z, (zs, (last, end))) = values_first v t more ws others in
      fails_always Record vars v h cs proper stands (looks_up args') Failure.Arity (ap looks_up (whole ∙ ap (λ xs. x ∷ xs) (next ∙ ap (λ xs. y ∷ xs) end)))

  -- ---- `mutate`

  abbrev mutates : List PureValue → ActionResult
  mutates args' = read_or_fail (property_and_value_in args') (λ (l, p, t). mutate l p t h) h

  mutate_three : (l p t : PureTerm) (x y u : PureValue) → IsOver vars l → IsOver vars p → value v l ≡ Some x → value v p ≡ Some y → value v t ≡ Some u → IsHeapOf Record (mutates (x ∷ y ∷ u ∷ [])).heap → IsRight Record v (mutates (x ∷ y ∷ u ∷ [])) (checked (no_property l p) (is_property l p) cs (name_cases (writes t) l p cs))
  mutate_three l p t x y u over_l over_p is_l is_p is_t keeps =
      property_right Record vars v h cs proper stands l p x y over_l over_p is_l is_p (mutates (x ∷ y ∷ u ∷ [])) (name_cases (writes t) l p cs)
      (λ refused. ap (λ o. read_or_fail (and_then o (λ l. and_then (text_of y) (λ p. Ok (l, p, u)))) (λ (l, p, t). mutate l p t h) h) refused)
      (λ a e refused. ap (λ z. mutates (z ∷ y ∷ u ∷ [])) e ∙ ap (λ o. read_or_fail (and_then o (λ p. Ok (a, p, u))) (λ (l, p, t). mutate l p t h) h) refused)
      (λ a n e f.
      let same_result : mutates (x ∷ y ∷ u ∷ []) ≡ mutate a n u h = (λ i. mutates (e i ∷ f i ∷ u ∷ [])) in
      let kept : IsHeapOf Record (mutate a n u h).heap = subst (λ (q : ActionResult). IsHeapOf Record q.heap) same_result keeps in
      let asked = location_of_symbol Record vars v h cs proper stands l x over_l is_l a e in
      let named_is = is_p ∙ ap Some f in (
        subst (λ q. Each (IsExactCase Record v q) (name_cases (writes t) l p cs)) (sym same_result) (mutate_exact vars v h proper cs stands facts l a asked p n over_p named_is t u is_t kept),
        name_comes vars v h proper cs stands facts l a asked p n over_p named_is (writes t),
      ))

  pub mutate_right : (args : List PureTerm) (args' : List PureValue) → Each (IsOver vars) args → values v (from_list args) ≡ Some args' → IsHeapOf Record (mutates args').heap → IsRight Record v (mutates args') (act_mutate args cs)
  mutate_right (l ∷ p ∷ t ∷ []) args' over_args have keeps =
      let (x, (y, (u, (is_l, is_p, is_t, whole)))) = values_three v l p t args' have in
      subst (λ us. IsRight Record v (mutates us) (act_mutate (l ∷ p ∷ t ∷ []) cs)) (sym whole)
      (mutate_three l p t x y u over_args.0 over_args.1.0 is_l is_p is_t (subst (λ us. IsHeapOf Record (mutates us).heap) whole keeps))
  mutate_right [] args' over_args have keeps = fails_always Record vars v h cs proper stands (mutates args') Failure.Arity (ap mutates (values_none v args' have))
  mutate_right (l ∷ []) args' over_args have keeps =
      let (x, (is_l, whole)) = values_one v l args' have in
      fails_always Record vars v h cs proper stands (mutates args') Failure.Arity (ap mutates whole)
  mutate_right (l ∷ p ∷ []) args' over_args have keeps =
      let (x, (y, (is_l, is_p, whole))) = values_two v l p args' have in
      fails_always Record vars v h cs proper stands (mutates args') Failure.Arity (ap mutates whole)
  mutate_right (l ∷ p ∷ t ∷ s ∷ more) args' over_args have keeps =
      let (x, (us, (rest, whole))) = values_first v l (p ∷ t ∷ s ∷ more) args' have in
      let (y, (ws, (others, next))) = values_first v p (t ∷ s ∷ more) us rest in
      let (z, (zs, (last, end))) = values_first v t (s ∷ more) ws others in
      let (q, (qs, (final, stop))) = values_first v s more zs last in
      fails_always Record vars v h cs proper stands (mutates args') Failure.Arity (ap mutates (whole ∙ ap (λ xs. x ∷ xs) (next ∙ ap (λ xs. y ∷ xs) (end ∙ ap (λ xs. z ∷ xs) stop))))

  -- ---- `dispose`

  abbrev disposes : List PureValue → ActionResult
  disposes args' = read_or_fail (location_in args') (λ l. dispose l h) h

  dispose_one : (l : PureTerm) (x : PureValue) → IsOver vars l → value v l ≡ Some x → IsHeapOf Record (disposes (x ∷ [])).heap → IsRight Record v (disposes (x ∷ [])) (checked (not_of_kind l Kind.Sym) (of_kind l Kind.Sym) cs (dispose_cases l cs))
  dispose_one l x over_l is_l keeps =
      location_right Record vars v h cs proper stands l x over_l is_l (disposes (x ∷ [])) (dispose_cases l cs)
      (λ refused. ap (λ o. read_or_fail o (λ l. dispose l h) h) refused)
      (λ a e.
      let is : disposes (x ∷ []) ≡ dispose a h = ap (λ z. disposes (z ∷ [])) e in
      let asked = location_of_symbol Record vars v h cs proper stands l x over_l is_l a e in
      (dispose_exact vars v h cs proper over stands facts l a asked (disposes (x ∷ [])) is keeps, dispose_comes vars v h cs proper over stands facts l a asked (disposes (x ∷ [])) is keeps))

  pub dispose_right : (args : List PureTerm) (args' : List PureValue) → Each (IsOver vars) args → values v (from_list args) ≡ Some args' → IsHeapOf Record (disposes args').heap → IsRight Record v (disposes args') (act_dispose args cs)
  dispose_right (l ∷ []) args' over_args have keeps =
      let (x, (is_l, whole)) = values_one v l args' have in
      subst (λ us. IsRight Record v (disposes us) (act_dispose (l ∷ []) cs)) (sym whole) (dispose_one l x over_args.0 is_l (subst (λ us. IsHeapOf Record (disposes us).heap) whole keeps))
  dispose_right [] args' over_args have keeps = fails_always Record vars v h cs proper stands (disposes args') Failure.Arity (ap disposes (values_none v args' have))
  dispose_right (l ∷ p ∷ more) args' over_args have keeps =
      let (x, (us, (rest, whole))) = values_first v l (p ∷ more) args' have in
      let (y, (ws, (others, next))) = values_first v p more us rest in
      fails_always Record vars v h cs proper stands (disposes args') Failure.Arity (ap disposes (whole ∙ ap (λ xs. x ∷ xs) next))

-- ---- the laws

-- what the proofs of the actions are given
record Given (vars : List Sort) (v : List PureValue) (fresh : Option Var) (args : List PureTerm) (cs : List PureChunk) (args' : List PureValue) (h : Heap) (op : RecordAction) : Type 0 where
  over_args : Each (IsOver vars) args
  over_chunks : Each (ChunkTerms (IsOver vars)) cs
  keeps : IsHeapOf Record (act_of (Some op) (fresh_symbol v fresh) args' h).heap

module _ (op : RecordAction) (action : List ℕ) (fresh : Option Var) (args : List PureTerm) (cs : List PureChunk) (is_op : action_of action ≡ Some op) (asked : MayBeAsked record_actions action fresh args (terms_of cs)) where
  module _ (vars : List Sort) (v args' : List PureValue) (h : Heap) (serves : Serves (StandFor Record) terms_of vars v fresh args cs args' h) where
    may : MayAct record_actions action (fresh_symbol v fresh) args' h
    may = serving_may_act Record (StandFor Record) terms_of record_actions (chunks_have_meaning Record) action fresh args cs vars v args' h asked serves

    result_is : record_actions.act action (fresh_symbol v fresh) args' h ≡ act_of (Some op) (fresh_symbol v fresh) args' h
    result_is = ap (λ o. act_of o (fresh_symbol v fresh) args' h) is_op

    what_is_given : Given vars v fresh args cs args' h op
    what_is_given = record {
      over_args = each_left (IsOver vars) args (all_of (terms_of cs)) serves.over;
      over_chunks = chunk_by_chunk (IsOver vars) cs (each_right (IsOver vars) args (all_of (terms_of cs)) serves.over);
      keeps = subst (λ (q : ActionResult). IsHeapOf Record q.heap) result_is (record_is_memory.keeps_heaps action (fresh_symbol v fresh) args' h serves.has_heap.is_heap may);
    }

  are_right : ((vars : List Sort) (v args' : List PureValue) (h : Heap) → Serves (StandFor Record) terms_of vars v fresh args cs args' h → IsRight Record v (act_of (Some op) (fresh_symbol v fresh) args' h) (branches_by op fresh args cs)) → AreRight action fresh args cs (branches_by op fresh args cs)
  are_right is = record {
    cover = λ vars v args' h serves.
        let r = record_actions.act action (fresh_symbol v fresh) args' h in
        let right = is vars v args' h serves in
        covered Record v r (branches_by op fresh args cs) (subst (λ q. Each (Exact Record v q) (branches_by op fresh args cs)) (sym (result_is vars v args' h serves)) right.exact) right.taken;
    exact = λ vars v args' h serves.
        subst (λ q. Each (Exact Record v q) (branches_by op fresh args cs)) (sym (result_is vars v args' h serves)) (is vars v args' h serves).exact;
  }

pub lookup_is_right : IsRightAction RecordAction.Lookup
lookup_is_right action fresh args cs is_op asked =
    are_right RecordAction.Lookup action fresh args cs is_op asked (λ vars v args' h serves.
    let given = what_is_given RecordAction.Lookup action fresh args cs is_op asked vars v args' h serves in
    lookup_right vars v h cs serves.proper given.over_chunks serves.has_heap args args' given.over_args serves.have_values)

pub mutate_is_right : IsRightAction RecordAction.Mutate
mutate_is_right action fresh args cs is_op asked =
    are_right RecordAction.Mutate action fresh args cs is_op asked (λ vars v args' h serves.
    let given = what_is_given RecordAction.Mutate action fresh args cs is_op asked vars v args' h serves in
    mutate_right vars v h cs serves.proper given.over_chunks serves.has_heap args args' given.over_args serves.have_values given.keeps)

taken_by_new : (action : List ℕ) → action_of action ≡ Some RecordAction.New → record_actions.takes_symbol action ≡ true
taken_by_new action is = ap takes_symbol_of is

module _ (action : List ℕ) (args : List PureTerm) (cs : List PureChunk) (is_op : action_of action ≡ Some RecordAction.New) where
  with_fresh : (fresh : Option Var) → MayBeAsked record_actions action fresh args (terms_of cs) → AreRight action fresh args cs (branches_by RecordAction.New fresh args cs)
  with_fresh None asked = absurd (true≢false (sym (asked.fresh_where_taken.1 (taken_by_new action is_op))))
  with_fresh (Some x) asked =
      are_right RecordAction.New action (Some x) args cs is_op asked (λ vars v args' h serves.
      let given = what_is_given RecordAction.New action (Some x) args cs is_op asked vars v args' h serves in
      let (n, is_x) = fresh_value vars v serves.proper x (asked.of_sort x refl) serves.fresh_over in
      let at_n : fresh_symbol v (Some x) ≡ Some n = ap location_of is_x in
      let allowed = may RecordAction.New action (Some x) args cs is_op asked vars v args' h serves in
      subst (λ s. IsRight Record v (act_of (Some RecordAction.New) s args' h) (branches_by RecordAction.New (Some x) args cs)) (sym at_n)
      (new_right vars v h cs serves.proper serves.has_heap x n is_x
      (λ s has. let (w, held) = value_at h (key n s) has in allowed.new_in_heap n at_n (key n s, (w, (held, inl refl))))
      args args' given.over_args serves.have_values
      (subst (λ s. IsHeapOf Record (act_of (Some RecordAction.New) s args' h).heap) at_n given.keeps)))

pub new_is_right : IsRightAction RecordAction.New
new_is_right action fresh args cs is_op asked = with_fresh action args cs is_op fresh asked

pub dispose_is_right : IsRightAction RecordAction.Dispose
dispose_is_right action fresh args cs is_op asked =
    are_right RecordAction.Dispose action fresh args cs is_op asked (λ vars v args' h serves.
    let given = what_is_given RecordAction.Dispose action fresh args cs is_op asked vars v args' h serves in
    dispose_right vars v h cs serves.proper given.over_chunks serves.has_heap args args' given.over_args serves.have_values given.keeps)
