-- The actions of blocks keep the laws of memories.
use Rattle.std.proofs.Common.{◌≡◌, ◌⊎◌, ⊎_elim, inl, inr, ℕ, ℤ, pos, negsuc, ◌≤ℤ◌, ◌<ℤ◌, Bool, true, false, ◌&&◌, ◌||◌, if◌then◌else◌, T, List, [], ◌∷◌, Option, Some, None, Result, Ok, refl, sym, ap, subst, ◌∙◌, true≢false, arith, append-nil}
use Rattle.std.proofs.lemmas.Int.{ints}
use Rattle.std.proofs.lemmas.Bool.{and_parts, and_from}
use Rattle.std.proofs.lemmas.List.Elements.{Contains-append_left}
use Rattle.std.specs.List.{Contains}
use Rattle.std.specs.Int.Signed.{le_z, lt_z}
use Rattle.std.specs.Ordering.{int_eq}
use Rattle.std.specs.FinMap.{insert}
use Rattle.gil_values.specs.Pure.{PureValue, PureValues, no_values, value_and, integer, list}
use Rattle.gil_values.specs.Symbols.{symbols, symbols_of_elements, OccursIn, OccursAmong}
use Rattle.mem_model.specs.declared.keys.Key.{Key}
use Rattle.mem_model.specs.declared.keys.Sub.TheVariants.{At, Bound, Gone}
use Rattle.mem_model.specs.declared.keys.MemoryName.TheVariants.{Block}
use Rattle.mem_model.specs.declared.failures.Failure.{Failure}
use Rattle.mem_model.specs.Keys.{key}
use Rattle.mem_model.specs.Heaps.{Heap, Holds, HasKey, IsHeapOf, IsCompatible, joined, OccursInHeap}
use Rattle.mem_model.specs.Actions.{ActionResult, IsMemory, MissesWhatLacks}
use Rattle.mem_model.specs.Arguments.{and_then, one_of, two_of, symbol_of}
use Rattle.mem_model.specs.Tables.{does, fails, misses, found_or, at, created, dispose_whole}
use Rattle.mem_model.proofs.Joins.{has_key}
use Rattle.mem_model.proofs.Compatible.{join_is_heap, second_part}
use Rattle.mem_model.proofs.Holding.{held_inserted, has_overwritten, insert-joined}
use Rattle.mem_model.proofs.Formed.{overwritten_heap, overwritten_well_formed}
use Rattle.mem_model.proofs.ArgumentSymbols.{then_ok, same_ok, one_symbols, first_symbols, second_symbols, symbol_alone, symbol_is, symbol_itself}
use Rattle.mem_model.proofs.Making.{new_location, keeps_creates, same_creates}
use Rattle.mem_model.proofs.Disposing.{keeps_disposes, changes_disposes, same_disposes}
use Rattle.mem_model.proofs.Cases.{Keeps, IsAllowed, ChangesWhenDone, IsSameWhenSettled, at_cases, read_cases, at_both, read_both, keeps_fails, keeps_misses, keeps_tells, keeps_does, allowed_held, allowed_in, same_fails, same_tells, same_misses, same_does, none_contained, in_union, held_in_union, gone_there}
use Rattle.block_heap.specs.declared.actions.BlockAction.{BlockAction}
use Rattle.block_heap.specs.declared.actions.BlockAction.TheVariants.{Alloc, Load, Store, Free}
use Rattle.block_heap.specs.Names.{action_of}
use Rattle.block_heap.specs.Table.{number_of, address, address_of, number_in, address_in, address_and_value_in, cell_keys, count_of, is_size, is_outside, allocated, alloc_block, bounded, load, store, free, act_of, block_actions}
use Rattle.block_heap.specs.Rows.{SizesAreGiven, OtherSizesFail}
use Rattle.block_heap.specs.Cells.{cells_fit, cells_own, block_whole}

-- the new symbol isn't in the heap
abbrev IsNew : Option ℕ → Heap → Type 0
IsNew fresh h = (n : ℕ) → fresh ≡ Some n → ¬ OccursInHeap n h

-- ---- what is read

first_symbol : (a b : PureValue) (rest : PureValues) (l : ℕ) (i : ℤ)
    → ◌≡◌ {A = Result (ℕ × ℤ) Failure} (and_then (symbol_of a) (λ m. and_then (number_of b) (λ j. Ok (m, j)))) (Ok (l, i))
    → OccursIn l (list (value_and a (value_and b rest)))
first_symbol a b rest l i is =
    let m = then_ok (symbol_of a) _ (l, i) is in
    let j = then_ok (number_of b) _ (l, i) m.2 in
    let same : m.0 ≡ l = ap (λ (r : ℕ × ℤ). r.0) (same_ok (m.0, j.0) (l, i) j.2) in
    Contains-append_left (symbols a) (symbols_of_elements (value_and b rest)) l (subst (OccursIn l) (sym (symbol_is a l (m.1
    ∙ ap Ok same))) (symbol_itself l))

address_symbol : (v : PureValue) (l : ℕ) (i : ℤ) → address_of v ≡ Ok (l, i) → OccursIn l v
address_symbol (list (value_and a (value_and b no_values))) l i is = first_symbol a b no_values l i is
address_symbol (list (value_and a (value_and b (value_and c rest)))) l i is = absurd (cc)
address_symbol (list (value_and a no_values)) l i is = absurd (cc)
address_symbol (list no_values) l i is = absurd (cc)
address_symbol v l i is = absurd (cc)

address_occurs : (args : List PureValue) (l : ℕ) (i : ℤ) → address_in args ≡ Ok (l, i) → OccursAmong l args
address_occurs args l i is =
    let a = then_ok (one_of args) address_of (l, i) is in
    one_symbols args a.0 a.1 l (address_symbol a.0 l i a.2)

address_and_value_occur : (args : List PureValue) (l : ℕ) (i : ℤ) (v : PureValue) → address_and_value_in args ≡ Ok (l, i, v)
    → OccursAmong l args × ((n : ℕ) → OccursIn n v → OccursAmong n args)
address_and_value_occur args l i v is =
    let av = then_ok (two_of args) _ (l, i, v) is in
    let p = then_ok (address_of av.0.0) _ (l, i, v) av.2 in
    let all = same_ok (p.0.0, p.0.1, av.0.1) (l, i, v) p.2 in
    let location : p.0.0 ≡ l = ap (λ (r : ℕ × ℤ × PureValue). r.0) all in
    let value : av.0.1 ≡ v = ap (λ (r : ℕ × ℤ × PureValue). r.2) all in (
      first_symbols args av.0.0 av.0.1 av.1 l (subst (λ m. OccursIn m av.0.0) location (address_symbol av.0.0 p.0.0 p.0.1 p.1)),
      λ n occurs. second_symbols args av.0.0 av.0.1 av.1 n (subst (OccursIn n) (sym value) occurs),
    )

-- the only symbol of an address is its location
address_alone : (l n : ℕ) (i : ℤ) → OccursIn n (address l i) → l ≡ n
address_alone l n i occurs = symbol_alone l n (subst (λ ns. Contains ns n) (append-nil (l ∷ [])) occurs)

-- a size is a count
size_is : (n : ℤ) → is_size n ≡ true → n ≡ pos (count_of (integer n))
size_is (pos n) is = refl
size_is (negsuc n) is = absurd (true≢false (sym (and_parts (le_z (pos 0) (negsuc n)) (le_z (negsuc n) (pos 10000)) is).0))

if_cases : (P : ActionResult → Type 0) (b : Bool) (r s : ActionResult) → (b ≡ true → P r) → (b ≡ false → P s) → P (if b then r else s)
if_cases P true r s yes_case no_case = yes_case refl
if_cases P false r s yes_case no_case = no_case refl

-- by the bound of a location: an offset outside of it, or what follows
bounded_cases : (P : ActionResult → Type 0) (h : Heap) (l : ℕ) (i : ℤ) (r : ActionResult)
    → ((d : PureValue) → Holds h (key l Bound) d → is_outside d i ≡ true → P (fails Failure.Bound h)) → P r → P (bounded h l i r)
bounded_cases P h l i r outside otherwise = at_cases P h (key l Bound) (λ n. if is_outside n i then fails Failure.Bound h else r) r
    (λ d held. if_cases P (is_outside d i) (fails Failure.Bound h) r (outside d held) (λ within. otherwise))
    (λ lacks. otherwise)

-- ---- no invention, and a heap stays a heap

module _ (fresh : Option ℕ) (args : List PureValue) (h : Heap) (is : IsHeapOf Block h) where
  abbrev Kept : ActionResult → Type 0
  Kept = Keeps Block fresh args h

  among_arguments : (n : ℕ) → OccursAmong n args → IsAllowed fresh args h n
  among_arguments n occurs = inr (inl occurs)

  keeps_failed : (f : Failure) → Kept (fails f h)
  keeps_failed f = keeps_fails Block fresh args h f is

  keeps_allocated : (n : ℤ) → IsNew fresh h → is_size n ≡ true → Kept (allocated fresh n h)
  keeps_allocated n is_new size = by_symbol fresh refl
    where
      by_symbol : (f : Option ℕ) → fresh ≡ f → Kept (allocated f n h)
      by_symbol None none = keeps_failed Failure.Action
      by_symbol (Some l) some =
          subst (λ m. Kept
          (does (address l (pos 0)) (created (key l Bound) (integer m) (cell_keys l (count_of (integer n))) (integer (pos 0)) h)))
          (sym (size_is n size))
          (keeps_creates l Bound (integer (pos (count_of (integer n)))) (cell_keys l (count_of (integer n))) (integer (pos 0)) (
            pos (count_of (integer n)),
            refl,
          ) (cells_fit l (count_of (integer n))) Block fresh args h (address l (pos 0)) refl (cells_own l (count_of (integer n)))
          (new_location fresh l h some is_new) is (inl some)
          (λ m occurs. absurd (none_contained m occurs))
          (λ m occurs. absurd (none_contained m occurs))
          (λ m occurs. inl (some ∙ ap Some (address_alone l m (pos 0) occurs))))

  keeps_alloc : (n : ℤ) → IsNew fresh h → Kept (alloc_block fresh n h)
  keeps_alloc n is_new =
      if_cases Kept (is_size n) (allocated fresh n h) (fails Failure.Size h) (keeps_allocated n is_new) (λ other. keeps_failed Failure.Size)

  keeps_load : (l : ℕ) (i : ℤ) → OccursAmong l args → Kept (load l i h)
  keeps_load l i occurs =
      at_cases Kept h (key l Gone) (λ _. fails Failure.Gone h)
      (bounded h l i (at h (key l (At i)) (λ v. does v h) (misses (key l (At i)) h)))
      (λ v gone. keeps_failed Failure.Gone)
      (λ there. bounded_cases Kept h l i (at h (key l (At i)) (λ v. does v h) (misses (key l (At i)) h))
      (λ d held outside. keeps_failed Failure.Bound)
      (at_cases Kept h (key l (At i)) (λ v. does v h) (misses (key l (At i)) h)
      (λ v held. keeps_tells Block fresh args h v is (allowed_held Block fresh args h (key l (At i)) v held))
      (λ lacks. keeps_misses Block fresh args h (key l (At i)) is (among_arguments l occurs) lacks refl)))

  keeps_store : (l : ℕ) (i : ℤ) (v : PureValue) → OccursAmong l args → ((n : ℕ) → OccursIn n v → OccursAmong n args) → Kept (store l i v h)
  keeps_store l i v occurs of_value =
      at_cases Kept h (key l Gone) (λ _. fails Failure.Gone h)
      (bounded h l i (at h (key l (At i)) (λ _. does v (insert h (key l (At i)) v)) (misses (key l (At i)) h)))
      (λ w gone. keeps_failed Failure.Gone)
      (λ there. bounded_cases Kept h l i (at h (key l (At i)) (λ _. does v (insert h (key l (At i)) v)) (misses (key l (At i)) h))
      (λ d held outside. keeps_failed Failure.Bound)
      (at_cases Kept h (key l (At i)) (λ _. does v (insert h (key l (At i)) v)) (misses (key l (At i)) h)
      (λ w held. keeps_does Block fresh args h v (insert h (key l (At i)) v)
      (overwritten_heap Block h (key l (At i)) v tt (has_key h (key l (At i)) w held) is)
      (λ n in_value. among_arguments n (of_value n in_value))
      (allowed_in Block fresh args h (insert h (key l (At i)) v) (λ q u at_q. ⊎_elim
      (λ put. inr (
        subst (λ (k : Key). IsAllowed fresh args h k.loc) (sym put.0) (among_arguments l occurs),
        λ n in_value. among_arguments n (of_value n (subst (OccursIn n) put.1 in_value)),
      ))
      (λ kept. inl kept.1)
      (held_inserted h (key l (At i)) q v u at_q))))
      (λ lacks. keeps_misses Block fresh args h (key l (At i)) is (among_arguments l occurs) lacks refl)))

  keeps_free : (l : ℕ) (i : ℤ) → OccursAmong l args → Kept (free l i h)
  keeps_free l i occurs =
      if_cases Kept (int_eq i (pos 0))
      (at h (key l Gone) (λ _. fails Failure.Gone h)
      (at h (key l Bound) (λ n. dispose_whole l (cell_keys l (count_of n)) h) (misses (key l Bound) h))) (fails Failure.Free h)
      (λ first. at_cases Kept h (key l Gone) (λ _. fails Failure.Gone h)
      (at h (key l Bound) (λ n. dispose_whole l (cell_keys l (count_of n)) h) (misses (key l Bound) h))
      (λ v gone. keeps_failed Failure.Gone)
      (λ there. at_cases Kept h (key l Bound) (λ n. dispose_whole l (cell_keys l (count_of n)) h) (misses (key l Bound) h)
      (λ d held. keeps_disposes l (key l Bound) (cell_keys l (count_of d)) Block fresh args h d refl (cells_own l (count_of d)) is
      (among_arguments l occurs) (block_whole h l d is held))
      (λ lacks. keeps_misses Block fresh args h (key l Bound) is (among_arguments l occurs) lacks refl)))
      (λ other. keeps_failed Failure.Free)

  pub keeps_act : (a : Option BlockAction) → IsNew fresh h → Kept (act_of a fresh args h)
  keeps_act None is_new = keeps_failed Failure.Action
  keeps_act (Some Alloc) is_new =
      read_cases Kept (number_in args) (λ n. alloc_block fresh n h) h (λ n read. keeps_alloc n is_new) keeps_failed
  keeps_act (Some Load) is_new =
      read_cases Kept (address_in args) (λ (l, i). load l i h) h (λ r read. keeps_load r.0 r.1 (address_occurs args r.0 r.1 read))
      keeps_failed
  keeps_act (Some Store) is_new = read_cases Kept (address_and_value_in args) (λ (l, i, v). store l i v h) h
      (λ r read. let occur = address_and_value_occur args r.0 r.1 r.2 read in keeps_store r.0 r.1 r.2 occur.0 occur.1) keeps_failed
  keeps_act (Some Free) is_new =
      read_cases Kept (address_in args) (λ (l, i). free l i h) h (λ r read. keeps_free r.0 r.1 (address_occurs args r.0 r.1 read))
      keeps_failed

-- ---- only what is done changes the heap

module _ (fresh : Option ℕ) (args : List PureValue) (h : Heap) where
  abbrev Unchanged : ActionResult → Type 0
  Unchanged = ChangesWhenDone h

  done_or_missed : (k : Key) (f : PureValue → ActionResult) (r : ActionResult) → ((v : PureValue) → Unchanged (f v)) → Unchanged r
      → Unchanged (at h k f r)
  done_or_missed k f r there missing = at_cases Unchanged h k f r (λ v held. there v) (λ lacks. missing)

  changes_allocated : (f : Option ℕ) (n : ℤ) → Unchanged (allocated f n h)
  changes_allocated (Some l) n undone = absurd (undone tt)
  changes_allocated None n undone = refl

  changes_load : (l : ℕ) (i : ℤ) → Unchanged (load l i h)
  changes_load l i =
      done_or_missed (key l Gone) _ _ (λ v undone. refl)
      (bounded_cases Unchanged h l i _ (λ d held outside undone. refl)
      (done_or_missed (key l (At i)) _ _ (λ v undone. refl) (λ undone. refl)))

  changes_store : (l : ℕ) (i : ℤ) (v : PureValue) → Unchanged (store l i v h)
  changes_store l i v =
      done_or_missed (key l Gone) _ _ (λ w undone. refl)
      (bounded_cases Unchanged h l i _ (λ d held outside undone. refl)
      (done_or_missed (key l (At i)) _ _ (λ w undone. absurd (undone tt)) (λ undone. refl)))

  changes_free : (l : ℕ) (i : ℤ) → Unchanged (free l i h)
  changes_free l i = if_cases Unchanged (int_eq i (pos 0)) _ (fails Failure.Free h)
      (λ first. done_or_missed (key l Gone) _ _ (λ v undone. refl)
      (done_or_missed (key l Bound) _ _ (λ d. changes_disposes l (key l Bound) (cell_keys l (count_of d)) h) (λ undone. refl)))
      (λ other undone. refl)

  pub changes_act : (a : Option BlockAction) → Unchanged (act_of a fresh args h)
  changes_act None = λ undone. refl
  changes_act (Some Alloc) =
      read_cases Unchanged (number_in args) (λ n. alloc_block fresh n h) h
      (λ n read. if_cases Unchanged (is_size n) (allocated fresh n h) (fails Failure.Size h) (λ size. changes_allocated fresh n)
      (λ other undone. refl)) (λ e undone. refl)
  changes_act (Some Load) =
      read_cases Unchanged (address_in args) (λ (l, i). load l i h) h (λ r read. changes_load r.0 r.1) (λ e undone. refl)
  changes_act (Some Store) =
      read_cases Unchanged (address_and_value_in args) (λ (l, i, v). store l i v h) h (λ r read. changes_store r.0 r.1 r.2)
      (λ e undone. refl)
  changes_act (Some Free) =
      read_cases Unchanged (address_in args) (λ (l, i). free l i h) h (λ r read. changes_free r.0 r.1) (λ e undone. refl)

-- ---- locality

module _ (h rest : Heap) (compatible : IsCompatible h rest) (is : IsHeapOf Block (joined h rest)) where
  abbrev Same : ActionResult → ActionResult → Type 0
  Same = IsSameWhenSettled rest

  abbrev whole : Heap
  whole = joined h rest

  same_allocated : (f : Option ℕ) (n : ℤ) → IsNew f whole → is_size n ≡ true → Same (allocated f n h) (allocated f n whole)
  same_allocated None n is_new size = same_fails Failure.Action h rest compatible
  same_allocated (Some l) n is_new size =
      subst (λ m. Same
      (does (address l (pos 0)) (created (key l Bound) (integer m) (cell_keys l (count_of (integer n))) (integer (pos 0)) h))
      (does (address l (pos 0))
      (created (key l Bound) (integer m) (cell_keys l (count_of (integer n))) (integer (pos 0)) whole))) (sym (size_is n size))
      (same_creates l Bound (integer (pos (count_of (integer n)))) (cell_keys l (count_of (integer n))) (integer (pos 0)) (
        pos (count_of (integer n)),
        refl,
      ) (cells_fit l (count_of (integer n))) (address l (pos 0)) h rest compatible (new_location (Some l) l whole refl is_new))

  both_if : (b : Bool) (r s t u : ActionResult) → (b ≡ true → Same r t) → (b ≡ false → Same s u)
      → Same (if b then r else s) (if b then t else u)
  both_if true r s t u first second = first refl
  both_if false r s t u first second = second refl

  -- a cell of the heap is in the bound that the rest has
  not_outside : (l : ℕ) (i : ℤ) (d v : PureValue) → Holds rest (key l Bound) d → Holds h (key l (At i)) v → is_outside d i ≡ false
  not_outside l i d v bound held =
      let in_whole : HasKey whole (key l (At i)) = in_union h rest compatible (key l (At i)) (has_key h (key l (At i)) v held) in
      let d_whole : Holds whole (key l Bound) d = second_part h rest compatible.disjoint (key l Bound) d bound in
      let n = is.well_formed.bound_is_number l d d_whole in
      let within = is.well_formed.cells_in_bound l n.0 i (subst (Holds whole (key l Bound)) n.1 d_whole) in_whole in
      ap (λ e. is_outside e i) n.1 ∙ neither (lt_z i (pos 0)) (le_z n.0 i) (below_none i within.0) (above_none n.0 i within.1)
    where
      neither : (b c : Bool) → b ≡ false → c ≡ false → (b || c) ≡ false
      neither true c no_b no_c = absurd (true≢false no_b)
      neither false c no_b no_c = no_c

      not_true : (b : Bool) → ¬ T b → b ≡ false
      not_true true other = absurd (other tt)
      not_true false other = refl

      below_none : (j : ℤ) → pos 0 ≤ℤ j → lt_z j (pos 0) ≡ false
      below_none j low = not_true (lt_z j (pos 0)) (λ t. let b : j <ℤ pos 0 = record { lt = t } in absurd (omega (arith, ints)))

      above_none : (n j : ℤ) → j <ℤ n → le_z n j ≡ false
      above_none n j high = not_true (le_z n j) (λ t. let b : n ≤ℤ j = record { le = t } in absurd (omega (arith, ints)))

  -- a cell that may be loaded or stored
  module _ (l : ℕ) (i : ℤ) (f g : PureValue → ActionResult) (found : (v : PureValue) → Holds h (key l (At i)) v → Same (f v) (g v)) where
    abbrev small_cell : ActionResult
    small_cell = at h (key l (At i)) f (misses (key l (At i)) h)

    abbrev large_cell : ActionResult
    large_cell = at whole (key l (At i)) g (misses (key l (At i)) whole)

    same_cell : Same small_cell large_cell
    same_cell = at_both Same h rest (key l (At i)) f (misses (key l (At i)) h) g (misses (key l (At i)) whole)
        found
        (λ no no_there. same_misses (key l (At i)) h rest (misses (key l (At i)) whole))
        (λ v no there. same_misses (key l (At i)) h rest (g v))

    same_bounded : Same (bounded h l i small_cell) (bounded whole l i large_cell)
    same_bounded =
        at_both Same h rest (key l Bound) (λ n. if is_outside n i then fails Failure.Bound h else small_cell) small_cell
        (λ n. if is_outside n i then fails Failure.Bound whole else large_cell) large_cell
        (λ d held. both_if (is_outside d i) (fails Failure.Bound h) small_cell (fails Failure.Bound whole) large_cell
        (λ outside. same_fails Failure.Bound h rest compatible) (λ within. same_cell))
        (λ no no_there. same_cell)
        (λ d no bound. at_cases (λ r. Same r (if is_outside d i then fails Failure.Bound whole else large_cell)) h (key l (At i))
        f (misses (key l (At i)) h)
        (λ v held. subst (λ b. Same (f v) (if b then fails Failure.Bound whole else large_cell))
        (sym (not_outside l i d v bound held))
        (subst (λ o. Same (f v) (found_or o g (misses (key l (At i)) whole)))
        (sym (held_in_union h rest compatible (key l (At i)) v held)) (found v held)))
        (λ lacks. same_misses (key l (At i)) h rest (if is_outside d i then fails Failure.Bound whole else large_cell)))

    -- where the rest has the key of a location that is gone
    same_bounded_gone : (large : ActionResult) → HasKey rest (key l Gone) → Same (bounded h l i small_cell) large
    same_bounded_gone large gone =
        at_cases (λ r. Same r large) h (key l Bound) (λ n. if is_outside n i then fails Failure.Bound h else small_cell) small_cell
        (λ d held. absurd (gone_there h rest compatible l Bound gone (has_key h (key l Bound) d held)))
        (λ no. at_cases (λ r. Same r large) h (key l (At i)) f (misses (key l (At i)) h)
        (λ v held. absurd (gone_there h rest compatible l (At i) gone (has_key h (key l (At i)) v held)))
        (λ lacks. same_misses (key l (At i)) h rest large))

    pub same_guarded : Same (at h (key l Gone) (λ _. fails Failure.Gone h) (bounded h l i small_cell))
        (at whole (key l Gone) (λ _. fails Failure.Gone whole) (bounded whole l i large_cell))
    same_guarded =
        at_both Same h rest (key l Gone) (λ _. fails Failure.Gone h) (bounded h l i small_cell) (λ _. fails Failure.Gone whole)
        (bounded whole l i large_cell)
        (λ v gone. same_fails Failure.Gone h rest compatible)
        (λ no no_there. same_bounded)
        (λ v no gone. same_bounded_gone (fails Failure.Gone whole) (has_key rest (key l Gone) v gone))

  same_load : (l : ℕ) (i : ℤ) → Same (load l i h) (load l i whole)
  same_load l i = same_guarded l i (λ v. does v h) (λ v. does v whole) (λ v held. same_tells v h rest compatible)

  same_store : (l : ℕ) (i : ℤ) (v : PureValue) → Same (store l i v h) (store l i v whole)
  same_store l i v = same_guarded l i (λ _. does v (insert h (key l (At i)) v)) (λ _. does v (insert whole (key l (At i)) v)) (λ w held.
      let there : HasKey h (key l (At i)) = has_key h (key l (At i)) w held in
      same_does v (insert h (key l (At i)) v) rest (insert whole (key l (At i)) v)
      (insert-joined h rest (key l (At i)) v)
      (λ q has in_rest. compatible.disjoint q (has_overwritten h (key l (At i)) q v there has) in_rest)
      (overwritten_well_formed whole (key l (At i)) v tt (in_union h rest compatible (key l (At i)) there) is.well_formed))

  same_free : (l : ℕ) (i : ℤ) → Same (free l i h) (free l i whole)
  same_free l i = both_if (int_eq i (pos 0)) _ (fails Failure.Free h) _ (fails Failure.Free whole)
      (λ first. at_both Same h rest (key l Gone) (λ _. fails Failure.Gone h)
      (at h (key l Bound) (λ n. dispose_whole l (cell_keys l (count_of n)) h) (misses (key l Bound) h))
      (λ _. fails Failure.Gone whole)
      (at whole (key l Bound) (λ n. dispose_whole l (cell_keys l (count_of n)) whole) (misses (key l Bound) whole))
      (λ v gone. same_fails Failure.Gone h rest compatible)
      (λ no no_there. at_both Same h rest (key l Bound) (λ n. dispose_whole l (cell_keys l (count_of n)) h)
      (misses (key l Bound) h) (λ n. dispose_whole l (cell_keys l (count_of n)) whole) (misses (key l Bound) whole)
      (λ d held. same_disposes l (key l Bound) (cell_keys l (count_of d)) h rest compatible (has_key h (key l Bound) d held)
      (block_whole whole l d is (held_in_union h rest compatible (key l Bound) d held)))
      (λ lacks lacks_there. same_misses (key l Bound) h rest (misses (key l Bound) whole))
      (λ d lacks there. same_misses (key l Bound) h rest _))
      (λ v no gone. at_cases (λ r. Same r (fails Failure.Gone whole)) h (key l Bound) _ (misses (key l Bound) h)
      (λ d held. absurd (gone_there h rest compatible l Bound (has_key rest (key l Gone) v gone) (has_key h (key l Bound) d held)))
      (λ lacks. same_misses (key l Bound) h rest (fails Failure.Gone whole))))
      (λ other. same_fails Failure.Free h rest compatible)

  pub same_act : (a : Option BlockAction) (fresh : Option ℕ) (args : List PureValue) → IsNew fresh whole
      → Same (act_of a fresh args h) (act_of a fresh args whole)
  same_act None fresh args is_new = same_fails Failure.Action h rest compatible
  same_act (Some Alloc) fresh args is_new =
      read_both Same (number_in args) (λ n. alloc_block fresh n h) h (λ n. alloc_block fresh n whole) whole
      (λ n read. both_if (is_size n) (allocated fresh n h) (fails Failure.Size h) (allocated fresh n whole)
      (fails Failure.Size whole) (same_allocated fresh n is_new) (λ other. same_fails Failure.Size h rest compatible))
      (λ e. same_fails e h rest compatible)
  same_act (Some Load) fresh args is_new =
      read_both Same (address_in args) (λ (l, i). load l i h) h (λ (l, i). load l i whole) whole (λ r read. same_load r.0 r.1)
      (λ e. same_fails e h rest compatible)
  same_act (Some Store) fresh args is_new =
      read_both Same (address_and_value_in args) (λ (l, i, v). store l i v h) h (λ (l, i, v). store l i v whole) whole
      (λ r read. same_store r.0 r.1 r.2) (λ e. same_fails e h rest compatible)
  same_act (Some Free) fresh args is_new =
      read_both Same (address_in args) (λ (l, i). free l i h) h (λ (l, i). free l i whole) whole (λ r read. same_free r.0 r.1)
      (λ e. same_fails e h rest compatible)

-- ---- the laws

pub block_is_memory : IsMemory Block block_actions
block_is_memory = record {
  locality = λ action fresh args h rest is is_rest compatible may settled. same_act h rest compatible
      (join_is_heap Block h rest is is_rest compatible) (action_of action) fresh args may.new_in_heap settled;
  no_invention = λ action fresh args h is may n occurs. (keeps_act fresh args h is (action_of action) may.new_in_heap).invents n occurs;
  keeps_heaps = λ action fresh args h is may. (keeps_act fresh args h is (action_of action) may.new_in_heap).is_heap;
  changes_only_when_done = λ action fresh args h. changes_act fresh args h (action_of action);
}

pub block_misses_what_lacks : MissesWhatLacks Block block_actions
block_misses_what_lacks action fresh args h k is may missed = (keeps_act fresh args h is (action_of action) may.new_in_heap).lacks k missed

-- ---- sizes

test_true : (b : Bool) → T b → b ≡ true
test_true true is = refl
test_true false is = absurd is

test_false : (b : Bool) → ¬ T b → b ≡ false
test_false true other = absurd (other tt)
test_false false other = refl

first_false : (b c : Bool) → b ≡ false → (b && c) ≡ false
first_false true c is = absurd (true≢false is)
first_false false c is = refl

second_false : (b c : Bool) → c ≡ false → (b && c) ≡ false
second_false true c is = is
second_false false c is = refl

pub sizes_are_given : SizesAreGiven
sizes_are_given l n h low high =
    ap (λ b. (if b then allocated (Some l) n h else fails Failure.Size h).outcome)
    (and_from (le_z (pos 0) n) (le_z n (pos 10000)) (test_true (le_z (pos 0) n) low.le) (test_true (le_z n (pos 10000)) high.le))

pub other_sizes_fail : OtherSizesFail
other_sizes_fail fresh n h outside = ap (λ b. if b then allocated fresh n h else fails Failure.Size h) (no_size outside)
  where
    no_size : (n <ℤ pos 0) ⊎ (pos 10000 <ℤ n) → is_size n ≡ false
    no_size (inl low) =
        first_false (le_z (pos 0) n) (le_z n (pos 10000))
        (test_false (le_z (pos 0) n) (λ t. let b : pos 0 ≤ℤ n = record { le = t } in absurd (omega (arith, ints))))
    no_size (inr high) =
        second_false (le_z (pos 0) n) (le_z n (pos 10000))
        (test_false (le_z n (pos 10000)) (λ t. let b : n ≤ℤ pos 10000 = record { le = t } in absurd (omega (arith, ints))))
