-- The cases of `lookup` and `mutate` are right.
use Rattle.std.proofs.Common.{◌≡◌, ℕ, List, Option, Some, None, slice_get, refl, sym, subst}
use Rattle.std.specs.FinMap.{get, insert}
use Rattle.gil_values.specs.Pure.{PureValue, text}
use Rattle.mem_model.specs.declared.keys.Sub.TheVariants.{Name}
use Rattle.mem_model.specs.declared.keys.MemoryName.TheVariants.{Record}
use Rattle.mem_model.specs.Actions.{ActionResult}
use Rattle.mem_model.specs.Heaps.{Heap, Holds, IsHeapOf}
use Rattle.mem_model.specs.Keys.{key}
use Rattle.mem_model.specs.Tables.{does}
use Rattle.mem_model.proofs.Joins.{value_at}
use Rattle.pure_terms.specs.declared.variables.Sort.{Sort}
use Rattle.pure_terms.specs.Meaning.{value, IsProper, IsOver}
use Rattle.pure_terms.specs.Pure.{PureTerm}
use Rattle.record_heap.specs.Table.{no_property, lookup, mutate}
use Rattle.record_sym.specs.Table.{without_name, name_cases}
use Rattle.sym_chunks.specs.Cases.{PureAccess, reads, writes, accessed, given_back, found}
use Rattle.sym_chunks.specs.Laws.{IsLocation, IsKeyOf}
use Rattle.sym_model.specs.Alternatives.{Hold}
use Rattle.sym_model.specs.Chunks.{IsUnion, StandFor, with_held}
use Rattle.sym_model.specs.Lists.{Each, OneOf}
use Rattle.sym_model.specs.Pure.{named, PureChunk, done}
use Rattle.sym_model.proofs.ListLaws.{each_append, one_left, one_right}
use Rattle.sym_model.proofs.Unions.{held_changes}
use Rattle.sym_chunks.proofs.CaseLaws.{IsFor, IsExactCase}
use Rattle.sym_chunks.proofs.Facts.{Fact}
use Rattle.sym_chunks.proofs.FoundLaws.{held_at, found_exact, found_comes}
use Rattle.sym_chunks.proofs.HeapFacts.{not_both}
use Rattle.sym_chunks.proofs.NamesHeld.{name_asked}
use Rattle.record_sym.proofs.HeapLaws.{lookup_found, lookup_without, mutate_found, mutate_without}
use Rattle.record_sym.proofs.PropertyLaws.{without_exact, without_comes}

module _ (vars : List Sort) (v : List PureValue) (h : Heap) (proper : IsProper vars v) (cs : List PureChunk) (stands : StandFor Record cs v h) (facts : Each (Fact vars v h) cs)
    (l : PureTerm) (a : ℕ) (asked : IsLocation vars v l a) (p : PureTerm) (n : List ℕ) (over_p : IsOver vars p) (is_p : value v p ≡ Some (text n)) where
  asked_name : IsKeyOf vars v l (named p) (key a (Name n))
  asked_name = name_asked vars v h proper cs facts l a asked p n over_p is_p

  holds_name : (c : PureChunk) (f : Fact vars v h c) → f.k ≡ key a (Name n) → Holds h (key a (Name n)) f.w
  holds_name c f e = held_at vars v h proper cs stands.union facts c f (key a (Name n)) e

  -- by what comes of a chunk that is found, and where the heap lacks the name
  cases_exact : (act : PureAccess) (r : ActionResult) → ((i : ℕ) (c : PureChunk) (f : Fact vars v h c) → slice_get cs i ≡ Some c → f.k ≡ key a (Name n) → IsFor Record v r (accessed act cs i) (given_back act c))
      → (get h (key a (Name n)) ≡ None → r ≡ no_property a n h) → Each (IsExactCase Record v r) (name_cases act l p cs)
  cases_exact act r found_is without_is =
      each_append (IsExactCase Record v r) (found act l (named p) cs) (without_name l p cs)
      (found_exact vars v h proper cs stands.union facts l (named p) (key a (Name n)) asked_name Record r act found_is)
      (without_exact vars v h proper cs stands.union facts stands.is_heap l a asked p n over_p is_p r without_is)

  by_name : (act : PureAccess) (o : Option PureValue) → get h (key a (Name n)) ≡ o → OneOf (λ c. Hold v c.when) (name_cases act l p cs)
  by_name act (Some w) is = one_left (λ c. Hold v c.when) (found act l (named p) cs) (without_name l p cs) (found_comes vars v h proper cs stands.union facts l (named p) (key a (Name n)) asked_name act w is)
  by_name act None is =
      one_right (λ c. Hold v c.when) (found act l (named p) cs) (without_name l p cs)
      (without_comes vars v h proper cs stands.union facts stands.is_heap l a asked p n over_p is_p (λ has. let (w, held) = value_at h (key a (Name n)) has in not_both (get h (key a (Name n))) is held))

  pub name_comes : (act : PureAccess) → OneOf (λ c. Hold v c.when) (name_cases act l p cs)
  name_comes act = by_name act (get h (key a (Name n))) refl

  pub lookup_exact : Each (IsExactCase Record v (lookup a n h)) (name_cases reads l p cs)
  lookup_exact =
      cases_exact reads (lookup a n h)
      (λ i c f there e. subst (λ x. IsFor Record v x cs (done c.val)) (sym (lookup_found a h n f.w (holds_name c f e))) (f.entry.holds, stands))
      (lookup_without a h n)

  pub mutate_exact : (t : PureTerm) (u : PureValue) → value v t ≡ Some u → IsHeapOf Record (mutate a n u h).heap → Each (IsExactCase Record v (mutate a n u h)) (name_cases (writes t) l p cs)
  mutate_exact t u is_t keeps =
      cases_exact (writes t) (mutate a n u h)
      (λ i c f there e.
      let is : mutate a n u h ≡ does u (insert h (key a (Name n)) u) = mutate_found a h n u f.w (holds_name c f e) in
      let changed : IsUnion v (with_held cs i t) (insert h (key a (Name n)) u) = subst (λ q. IsUnion v (with_held cs i t) (insert h q u)) e (held_changes v cs h i c f.k f.w t u stands.union there f.entry is_t) in
      subst (λ x. IsFor Record v x (with_held cs i t) (done t)) (sym is) (is_t, record { union = changed; is_heap = subst (λ (x : ActionResult). IsHeapOf Record x.heap) is keeps }))
      (mutate_without a h n u)
