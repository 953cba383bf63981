-- What an action on blocks misses on a heap, a larger heap has on which it is done.
use Rattle.std.proofs.Common.{◌≡◌, ◌⊎◌, ⊎_elim, inl, inr, ℕ, ℤ, pos, List, Bool, true, false, if◌then◌else◌, Option, Some, None, sym, ap, subst, ◌∙◌}
use Rattle.std.specs.FinMap.{insert}
use Rattle.std.specs.Ordering.{int_eq}
use Rattle.gil_values.specs.Pure.{PureValue}
use Rattle.block_heap.specs.declared.actions.BlockAction.{BlockAction}
use Rattle.block_heap.specs.declared.actions.BlockAction.TheVariants.{Alloc, Load, Store, Free}
use Rattle.block_heap.specs.Names.{action_of}
use Rattle.block_heap.specs.Table.{number_in, address_in, address_and_value_in, cell_keys, count_of, is_outside, is_size, allocated, alloc_block, bounded, load, store, free, act_of, block_actions}
use Rattle.core_production.proofs.FixLaws.{FindsMissed, same_missed, missed_found, read_both, whole_done, whole_misses}
use Rattle.mem_model.specs.declared.failures.Failure.{Failure}
use Rattle.mem_model.specs.declared.keys.Key.{Key}
use Rattle.mem_model.specs.declared.keys.MemoryName.TheVariants.{Block}
use Rattle.mem_model.specs.declared.keys.Sub.TheVariants.{At, Bound, Gone}
use Rattle.mem_model.specs.Actions.{ActionResult, IsDone}
use Rattle.mem_model.specs.Heaps.{Heap, Holds, HasKey, IsPartOf}
use Rattle.mem_model.specs.Keys.{key}
use Rattle.mem_model.specs.Pure.{miss}
use Rattle.mem_model.specs.Tables.{does, fails, misses, at, dispose_whole, first_missing}
use Rattle.mem_model.proofs.Cases.{at_cases}
use Rattle.mem_model.proofs.Joins.{has_key}
use Rattle.sym_model.proofs.ListLaws.{same_some}

if_bound : (P : ActionResult → Type 0) (b : Bool) (r s : ActionResult) → P r → P s → P (if b then r else s)
if_bound P true r s first second = first
if_bound P false r s first second = second

-- outside a bound, or the cases that follow
bounded_cases : (P : ActionResult → Type 0) (h : Heap) (l : ℕ) (i : ℤ) (r : ActionResult) → P (fails Failure.Bound h) → P r → P (bounded h l i r)
bounded_cases P h l i r outside otherwise =
    at_cases P h (key l Bound) (λ n. if is_outside n i then fails Failure.Bound h else r) r (λ n held. if_bound P (is_outside n i) (fails Failure.Bound h) r outside otherwise) (λ lacks. otherwise)

module _ (k : Key) where
  abbrev Misses : ActionResult → Type 0
  Misses r = r.outcome ≡ miss k

  -- ---- a cell

  -- `load` and `store`, by what they make of the value
  abbrev at_cell : ℕ → ℤ → (PureValue → ActionResult) → Heap → ActionResult
  at_cell l i f h = at h (key l Gone) (λ _. fails Failure.Gone h) (bounded h l i (at h (key l (At i)) f (misses (key l (At i)) h)))

  cell_misses : (l : ℕ) (i : ℤ) (f : PureValue → ActionResult) (h : Heap) → ((w : PureValue) → ¬ Misses (f w)) → Misses (at_cell l i f h) → key l (At i) ≡ k
  cell_misses l i f h never =
      at_cases (λ r. Misses r → key l (At i) ≡ k) h (key l Gone) (λ _. fails Failure.Gone h) (bounded h l i (at h (key l (At i)) f (misses (key l (At i)) h)))
      (λ v held missed. absurd (cc))
      (λ lacks. bounded_cases (λ r. Misses r → key l (At i) ≡ k) h l i (at h (key l (At i)) f (misses (key l (At i)) h)) (λ missed. absurd (cc))
      (at_cases (λ r. Misses r → key l (At i) ≡ k) h (key l (At i)) f (misses (key l (At i)) h) (λ w held missed. absurd (never w missed)) (λ none. same_missed)))

  cell_done : (l : ℕ) (i : ℤ) (f : PureValue → ActionResult) (h : Heap) → IsDone (at_cell l i f h).outcome → HasKey h (key l (At i))
  cell_done l i f h =
      at_cases (λ r. IsDone r.outcome → HasKey h (key l (At i))) h (key l Gone) (λ _. fails Failure.Gone h) (bounded h l i (at h (key l (At i)) f (misses (key l (At i)) h)))
      (λ v held is. absurd is)
      (λ lacks. bounded_cases (λ r. IsDone r.outcome → HasKey h (key l (At i))) h l i (at h (key l (At i)) f (misses (key l (At i)) h)) (λ is. absurd is)
      (at_cases (λ r. IsDone r.outcome → HasKey h (key l (At i))) h (key l (At i)) f (misses (key l (At i)) h) (λ w held is. has_key h (key l (At i)) w held) (λ none is. absurd is)))

  cell_found : (l : ℕ) (i : ℤ) (f g : PureValue → ActionResult) (h larger : Heap) → ((w : PureValue) → ¬ Misses (f w)) → Misses (at_cell l i f h) → IsDone (at_cell l i g larger).outcome → HasKey larger k
  cell_found l i f g h larger never missed is_done = subst (HasKey larger) (cell_misses l i f h never missed) (cell_done l i g larger is_done)

  -- ---- a whole block

  abbrev cells : ℕ → PureValue → List Key
  cells l n = cell_keys l (count_of n)

  abbrev freed : ℕ → Heap → ActionResult
  freed l h = at h (key l Gone) (λ _. fails Failure.Gone h) (at h (key l Bound) (λ n. dispose_whole l (cells l n) h) (misses (key l Bound) h))

  freed_done : (l : ℕ) (h : Heap) → IsDone (freed l h).outcome → (n : PureValue) × (Holds h (key l Bound) n × (first_missing h (cells l n) ≡ None))
  freed_done l h =
      at_cases (λ r. IsDone r.outcome → (n : PureValue) × (Holds h (key l Bound) n × (first_missing h (cells l n) ≡ None))) h (key l Gone) (λ _. fails Failure.Gone h) (at h (key l Bound) (λ n. dispose_whole l (cells l n) h) (misses (key l Bound) h))
      (λ v held is. absurd is)
      (λ lacks. at_cases (λ r. IsDone r.outcome → (n : PureValue) × (Holds h (key l Bound) n × (first_missing h (cells l n) ≡ None))) h (key l Bound) (λ n. dispose_whole l (cells l n) h) (misses (key l Bound) h)
      (λ n held is. (n, (held, whole_done l (cells l n) h is)))
      (λ none is. absurd is))

  abbrev MissedThere : ℕ → Heap → Type 0
  MissedThere l h = (key l Bound ≡ k) ⊎ ((n : PureValue) × (Holds h (key l Bound) n × (first_missing h (cells l n) ≡ Some k)))

  freed_misses : (l : ℕ) (h : Heap) → Misses (freed l h) → MissedThere l h
  freed_misses l h =
      at_cases (λ r. Misses r → MissedThere l h) h (key l Gone) (λ _. fails Failure.Gone h) (at h (key l Bound) (λ n. dispose_whole l (cells l n) h) (misses (key l Bound) h))
      (λ v held missed. absurd (cc))
      (λ lacks. at_cases (λ r. Misses r → MissedThere l h) h (key l Bound) (λ n. dispose_whole l (cells l n) h) (misses (key l Bound) h)
      (λ n held missed. inr (n, (held, whole_misses l (cells l n) h k missed)))
      (λ none missed. inl (same_missed missed)))

  block_found : (l : ℕ) (h larger : Heap) → IsPartOf h larger → Misses (freed l h) → IsDone (freed l larger).outcome → HasKey larger k
  block_found l h larger part missed is_done =
      let (n, (held, none)) = freed_done l larger is_done in
      ⊎_elim
      (λ is. subst (HasKey larger) is (has_key larger (key l Bound) n held))
      (λ (u, (there, first)). missed_found h larger k (cells l u) first (ap (λ x. first_missing larger (cells l x)) (same_some (sym (part (key l Bound) u there) ∙ held)) ∙ none))
      (freed_misses l h missed)

  free_found : (l : ℕ) (b : Bool) (h larger : Heap) → IsPartOf h larger → Misses (if b then freed l h else fails Failure.Free h) → IsDone (if b then freed l larger else fails Failure.Free larger).outcome → HasKey larger k
  free_found l true h larger part missed is_done = block_found l h larger part missed is_done
  free_found l false h larger part missed is_done = absurd is_done

  -- ---- each action

  never_allocated : (fresh : Option ℕ) (n : ℤ) (h : Heap) → ¬ Misses (allocated fresh n h)
  never_allocated (Some l) n h missed = absurd (cc)
  never_allocated None n h missed = absurd (cc)

  never_made : (b : Bool) (fresh : Option ℕ) (n : ℤ) (h : Heap) → ¬ Misses (if b then allocated fresh n h else fails Failure.Size h)
  never_made true fresh n h missed = never_allocated fresh n h missed
  never_made false fresh n h missed = absurd (cc)

  done_is_no_miss : (w : PureValue) (g : Heap) → ¬ Misses (does w g)
  done_is_no_miss w g missed = absurd (cc)

  found : (a : Option BlockAction) (fresh : Option ℕ) (args : List PureValue) (h larger : Heap) → IsPartOf h larger → Misses (act_of a fresh args h) → IsDone (act_of a fresh args larger).outcome → HasKey larger k
  found None fresh args h larger part missed is_done = absurd is_done
  found (Some Alloc) fresh args h larger part missed is_done = read_both h larger k (number_in args) (λ n. alloc_block fresh n h) (λ n. alloc_block fresh n larger) (λ n none is. absurd (never_made (is_size n) fresh n h none)) missed is_done
  found (Some Load) fresh args h larger part missed is_done =
      read_both h larger k (address_in args) (λ (l, i). load l i h) (λ (l, i). load l i larger) (λ x. cell_found x.0 x.1 (λ w. does w h) (λ w. does w larger) h larger (λ w. done_is_no_miss w h)) missed is_done
  found (Some Store) fresh args h larger part missed is_done =
      read_both h larger k (address_and_value_in args) (λ (l, i, v). store l i v h) (λ (l, i, v). store l i v larger)
      (λ x. cell_found x.0 x.1 (λ w. does x.2 (insert h (key x.0 (At x.1)) x.2)) (λ w. does x.2 (insert larger (key x.0 (At x.1)) x.2)) h larger (λ w. done_is_no_miss x.2 (insert h (key x.0 (At x.1)) x.2))) missed is_done
  found (Some Free) fresh args h larger part missed is_done = read_both h larger k (address_in args) (λ (l, i). free l i h) (λ (l, i). free l i larger) (λ x. free_found x.0 (int_eq x.1 (pos 0)) h larger part) missed is_done

pub blocks_find_missed : FindsMissed Block block_actions
blocks_find_missed h larger k is = found k (action_of is.action) is.fresh is.args h larger is.part is.misses is.is_done
