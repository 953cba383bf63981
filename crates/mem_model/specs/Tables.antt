-- What the tables of actions are written with: the results of cases, the cases in order, and what several memories do
-- in the same way.
use Rattle.std.specs.Prelude.{◌≡◌, ℕ, List, [], ◌∷◌, map, find, not, nat_eq, Bool, true, false, if◌then◌else◌, IsTrue, Option, Some, None, Result, Ok, Err, codes}
use Rattle.std.specs.List.{list_any}
use Rattle.std.specs.FinMap.{get, insert, contains_key, retain_keys, from_entries}
use Rattle.std.specs.declared.alloc.AllocError.{AllocError}
use Rattle.gil_values.specs.Pure.{PureValue, boolean, text, list, to_list}
use Rattle.mem_model.specs.declared.keys.Key.{Key}
use Rattle.mem_model.specs.declared.keys.Sub.{Sub}
use Rattle.mem_model.specs.declared.keys.Sub.TheVariants.{Name, Gone}
use Rattle.mem_model.specs.declared.failures.Failure.{Failure}
use Rattle.mem_model.specs.declared.memory.Outcome.{Outcome}
use Rattle.mem_model.specs.Pure.{done, failed, miss}
use Rattle.mem_model.specs.View.{outcome_view}
use Rattle.mem_model.specs.Keys.{key}
use Rattle.mem_model.specs.KeyOrder.{key_eq}
use Rattle.mem_model.specs.Heaps.{Heap, HasKey, joined}
use Rattle.mem_model.specs.Names.{lists_name}
use Rattle.mem_model.specs.Actions.{ActionResult}

-- the text with which an action fails
abbrev pub failure_text : Failure → List ℕ
failure_text Failure.Action = codes "action"
failure_text Failure.Arity = codes "arity"
failure_text Failure.Kind = codes "type"
failure_text Failure.Gone = codes "gone"
failure_text Failure.Absent = codes "absent"
failure_text Failure.Size = codes "size"
failure_text Failure.Bound = codes "bound"
failure_text Failure.Free = codes "free"

-- ---- results of cases

abbrev pub does : PureValue → Heap → ActionResult
does v h = record { outcome = done v; heap = h }

abbrev pub fails : Failure → Heap → ActionResult
fails f h = record { outcome = failed (text (failure_text f)); heap = h }

abbrev pub misses : Key → Heap → ActionResult
misses k h = record { outcome = miss k; heap = h }

-- ---- cases in order

abbrev pub found_or : Option PureValue → (PureValue → ActionResult) → ActionResult → ActionResult
found_or (Some v) found otherwise = found v
found_or None found otherwise = otherwise

-- where the heap has the key, by the value that it holds, and else the cases that follow
abbrev pub at : Heap → Key → (PureValue → ActionResult) → ActionResult → ActionResult
at h k found otherwise = found_or (get h k) found otherwise

-- where the heap has a list of names at the key, and the name is none of them, by that list, and else the cases that
-- follow
abbrev pub unlisted_at : Heap → Key → List ℕ → (PureValue → ActionResult) → ActionResult → ActionResult
unlisted_at h k p found otherwise = at h k (λ d. if lists_name d p then otherwise else found d) otherwise

-- by what is read of the arguments, and else the failure, before the heap is looked at
abbrev pub read_or_fail : {X : Type 0} → Result X Failure → (X → ActionResult) → Heap → ActionResult
read_or_fail (Ok x) found h = found x
read_or_fail (Err f) found h = fails f h

-- ---- keys of one location

-- the texts among the values
abbrev pub text_and : PureValue → List (List ℕ) → List (List ℕ)
text_and (text p) ps = p ∷ ps
text_and _ ps = ps

abbrev pub texts_of : List PureValue → List (List ℕ)
texts_of [] = []
texts_of (v ∷ vs) = text_and v (texts_of vs)

-- the names of a list at `Shape` or `Dom`
abbrev pub names_of : PureValue → List (List ℕ)
names_of (list vs) = texts_of (to_list vs)
names_of _ = []

abbrev pub name_keys : ℕ → List (List ℕ) → List Key
name_keys l ps = map (λ p. key l (Name p)) ps

abbrev pub is_among : Key → List Key → Bool
is_among k ks = list_any (key_eq k) ks

-- the heap has none of the keys
abbrev pub LacksAll : Heap → List Key → Type 0
LacksAll h ks = (k : Key) → IsTrue (is_among k ks) → ¬ HasKey h k

-- the heap with this value at each of the keys
abbrev pub with_all : List Key → PureValue → Heap → Heap
with_all ks v h = joined (from_entries (map (λ k. (k, v)) ks)) h

-- the heap with one value at each of the parts of a new location, and with the descriptor that tells of them
abbrev pub created : Key → PureValue → List Key → PureValue → Heap → Heap
created k d parts v h = insert (with_all parts v h) k d

-- the heap without these keys
abbrev pub without_keys : List Key → Heap → Heap
without_keys ks h = retain_keys h (λ k. not (is_among k ks))

-- the heap without the keys of a location
abbrev pub without_location : ℕ → Heap → Heap
without_location l h = retain_keys h (λ k. not (nat_eq k.loc l))

-- all keys of the location go, and `Gone` holds true
abbrev pub disposed : ℕ → Heap → Heap
disposed l h = insert (without_location l h) (key l Gone) (boolean true)

-- the first of the keys that the heap lacks
abbrev pub first_missing : Heap → List Key → Option Key
first_missing h ks = find (λ k. not (contains_key h k)) ks

abbrev pub missed_or : Option Key → Heap → ActionResult → ActionResult
missed_or (Some k) h otherwise = misses k h
missed_or None h otherwise = otherwise

-- The keys of a location of which a descriptor tells: the heap has no other keys there.
pub record IsWhole (h : Heap) (l : ℕ) (k : Key) (parts : List Key) : Type 0 where
  pub all_keys : (s : Sub) → HasKey h (key l s) → IsTrue (is_among (key l s) (k ∷ parts))
  pub of_location : (q : Key) → IsTrue (is_among q (k ∷ parts)) → q.loc ≡ l
  pub not_gone : is_among (key l Gone) (k ∷ parts) ≡ false

-- Where some part of the location is missing, a miss at the first. Else all its keys go, `Gone` holds true, and it is
-- done with true.
abbrev pub dispose_whole : ℕ → List Key → Heap → ActionResult
dispose_whole l parts h = missed_or (first_missing h parts) h (does (boolean true) (disposed l h))

-- ---- what code answers

-- The code answers as the table, and its heap goes from the old one to the new one of the table. After want of memory
-- it is as before.
abbrev pub Answers : Result Outcome AllocError → Heap → Heap → ActionResult → Type 0
Answers (Ok o) old new r = (outcome_view o ≡ r.outcome) × (new ≡ r.heap)
Answers (Err e) old new r = new ≡ old

-- as a row of the table does on the old heap
abbrev pub Does : Result Outcome AllocError → Heap → Heap → (Heap → ActionResult) → Type 0
Does result old new row = Answers result old new (row old)

-- as a row does with what is read of the arguments, or else as they fail
abbrev pub DoesWith : {X : Type 0} → Result Outcome AllocError → Heap → Heap → Result X Failure → (X → Heap → ActionResult) → Type 0
DoesWith result old new read row = Answers result old new (read_or_fail read (λ x. row x old) old)
