-- What conditions on some chunk of a location say of the heap.
use Rattle.std.proofs.Common.{◌≡◌, ℕ, List, Some, IsTrue, slice_get, sym, ap, subst, ◌∙◌}
use Rattle.gil_values.specs.Pure.{PureValue, symbol}
use Rattle.mem_model.specs.declared.keys.Key.{Key}
use Rattle.mem_model.specs.declared.keys.Sub.{Sub}
use Rattle.mem_model.specs.Heaps.{Heap}
use Rattle.mem_model.specs.Keys.{key}
use Rattle.mem_model.specs.KeyOrder.{variant_number}
use Rattle.pure_terms.specs.declared.variables.Sort.{Sort}
use Rattle.pure_terms.specs.Meaning.{value, all_true, IsProper, IsOver}
use Rattle.pure_terms.specs.Pure.{PureTerm}
use Rattle.sym_chunks.specs.ByPlace.{any_at}
use Rattle.sym_chunks.specs.Laws.{IsLocation}
use Rattle.sym_model.specs.Alternatives.{Alternatives, Hold, both, same}
use Rattle.sym_model.proofs.Combined.{both_from, both_parts}
use Rattle.sym_model.specs.Lists.{Each}
use Rattle.sym_model.specs.Meaning.{sub_value}
use Rattle.sym_model.specs.Pure.{PureSub, PureChunk}
use Rattle.sym_model.proofs.ChunkMeaning.{chunk_val}
use Rattle.sym_model.proofs.ListLaws.{same_some, one_with, one_at, one_flat, one_flattened}
use Rattle.sym_chunks.proofs.Facts.{Fact, same_symbols, keys_equal, kind_number, fact_loc, fact_sub, fact_number, loc_tells}

module _ (vars : List Sort) (v : List PureValue) (h : Heap) (proper : IsProper vars v) (l : PureTerm) (a : ℕ) (asked : IsLocation vars v l a) where
  module _ (c : PureChunk) (f : Fact vars v h c) where
    -- the key of a chunk at the location, by its subkey
    pub key_at : (s : PureSub) (t : Sub) → c.sub ≡ s → sub_value v s ≡ Some t → f.k.loc ≡ a → f.k ≡ key a t
    key_at s t is is_t e = keys_equal f.k a t e (same_some (sym (fact_sub vars v h c f) ∙ ap (sub_value v) is ∙ is_t))

    pub lies_at : f.k.loc ≡ a → value v c.loc ≡ Some (symbol a)
    lies_at e = (fact_loc vars v h c f).is ∙ ap (λ n. Some (symbol n)) e

    pub lies_there : value v c.loc ≡ Some (symbol a) → f.k.loc ≡ a
    lies_there is = same_symbols (same_some (sym (fact_loc vars v h c f).is ∙ is))

  module _ (test : PureChunk → Alternatives) (cs : List PureChunk) where
    pub somewhere_parts : {X : Type 0} → Each (Fact vars v h) cs → Hold v (any_at l test cs) → ((c : PureChunk) (f : Fact vars v h c) → f.k.loc ≡ a → Hold v (test c) → X) → X
    somewhere_parts facts holds use_it =
        one_with (Fact vars v h) (λ c. Hold v (both (same l c.loc) (test c))) cs facts
        (one_flattened (λ conds. IsTrue (all_true v conds)) (λ (c : PureChunk). both (same l c.loc) (test c)) cs holds)
        (λ c f here. let parts = both_parts v (same l c.loc) (test c) here in use_it c f ((loc_tells vars v h proper c f l a asked).0 parts.0) parts.1)

    pub somewhere_from : (i : ℕ) (c : PureChunk) (f : Fact vars v h c) → slice_get cs i ≡ Some c → f.k.loc ≡ a → Hold v (test c) → Hold v (any_at l test cs)
    somewhere_from i c f there e here =
        one_flat (λ conds. IsTrue (all_true v conds)) (λ (d : PureChunk). both (same l d.loc) (test d)) cs
        (one_at (λ d. Hold v (both (same l d.loc) (test d))) cs i c there (both_from v (same l c.loc) (test c) ((loc_tells vars v h proper c f l a asked).1 e) here))

-- ---- what a chunk holds

module _ (vars : List Sort) (v : List PureValue) (h : Heap) (c : PureChunk) (f : Fact vars v h c) where
  pub val_over : (t : PureTerm) → c.val ≡ t → IsOver vars t
  val_over t is = subst (IsOver vars) is (chunk_val (IsOver vars) c f.over)

  pub val_is : (t : PureTerm) → c.val ≡ t → value v t ≡ Some f.w
  val_is t is = ap (value v) (sym is) ∙ f.entry.holds

  pub key_number : (s : PureSub) (a : ℕ) (t : Sub) → c.sub ≡ s → f.k ≡ key a t → variant_number t ≡ kind_number s
  key_number s a t is e = sym (ap (λ (q : Key). variant_number q.sub) e) ∙ fact_number vars v h c f ∙ ap kind_number is
