-- What `lookup`, `mutate` and `dispose` come to on a heap, by what the heap has at the keys that they look at.
use Rattle.std.proofs.Common.{◌≡◌, ℕ, List, true, false, Option, Some, None, if◌then◌else◌, refl, ap, ◌∙◌}
use Rattle.std.specs.FinMap.{get, insert}
use Rattle.gil_values.specs.Pure.{PureValue}
use Rattle.mem_model.specs.declared.failures.Failure.{Failure}
use Rattle.mem_model.specs.declared.keys.Sub.TheVariants.{Name, Shape, Gone}
use Rattle.mem_model.specs.Heaps.{Heap, Holds}
use Rattle.mem_model.specs.Keys.{key}
use Rattle.mem_model.specs.Names.{lists_name}
use Rattle.mem_model.specs.Tables.{does, fails, misses}
use Rattle.record_heap.specs.Table.{no_property, lookup, mutate}
use Rattle.sym_chunks.proofs.HeapFacts.{at_some, at_none}

module _ (a : ℕ) (h : Heap) (n : List ℕ) where
  -- where the location's names are known, the name is one of them
  abbrev pub IsListedHere : Type 0
  IsListedHere = (d : PureValue) → Holds h (key a Shape) d → lists_name d n ≡ true

  pub gone_result : (w : PureValue) → Holds h (key a Gone) w → no_property a n h ≡ fails Failure.Gone h
  gone_result w held = at_some h (key a Gone) w _ _ held

  pub absent_result : (d : PureValue) → get h (key a Gone) ≡ None → Holds h (key a Shape) d → lists_name d n ≡ false → no_property a n h ≡ fails Failure.Absent h
  absent_result d no_gone held unnamed =
      at_none h (key a Gone) _ _ no_gone ∙ at_some h (key a Shape) d _ _ held ∙ ap (λ b. if b then misses (key a (Name n)) h else fails Failure.Absent h) unnamed

  by_shape : (o : Option PureValue) → get h (key a Shape) ≡ o → get h (key a Gone) ≡ None → IsListedHere → no_property a n h ≡ misses (key a (Name n)) h
  by_shape None is no_gone listed = at_none h (key a Gone) _ _ no_gone ∙ at_none h (key a Shape) _ _ is
  by_shape (Some d) is no_gone listed =
      at_none h (key a Gone) _ _ no_gone ∙ at_some h (key a Shape) d _ _ is ∙ ap (λ b. if b then misses (key a (Name n)) h else fails Failure.Absent h) (listed d is)

  pub missed_result : get h (key a Gone) ≡ None → IsListedHere → no_property a n h ≡ misses (key a (Name n)) h
  missed_result no_gone listed = by_shape (get h (key a Shape)) refl no_gone listed

  pub lookup_found : (w : PureValue) → Holds h (key a (Name n)) w → lookup a n h ≡ does w h
  lookup_found w held = at_some h (key a (Name n)) w _ _ held

  pub lookup_without : get h (key a (Name n)) ≡ None → lookup a n h ≡ no_property a n h
  lookup_without none = at_none h (key a (Name n)) _ _ none

  pub mutate_found : (u w : PureValue) → Holds h (key a (Name n)) w → mutate a n u h ≡ does u (insert h (key a (Name n)) u)
  mutate_found u w held = at_some h (key a (Name n)) w _ _ held

  pub mutate_without : (u : PureValue) → get h (key a (Name n)) ≡ None → mutate a n u h ≡ no_property a n h
  mutate_without u none = at_none h (key a (Name n)) _ _ none
