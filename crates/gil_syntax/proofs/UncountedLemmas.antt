-- Faults of parts whose procedures may have any number of commands are faults.
use Rattle.std.proofs.Common.{◌≢◌, ℕ, List, length, filter, leb, take, slice_get, Bool, true, false, ◌||◌, Option, Some, None, IsTrue, refl, arith}
use Rattle.gil_syntax.specs.declared.validity.InvalidKind.{InvalidKind}
use Rattle.gil_syntax.specs.declared.validity.InvalidKind.TheVariants.{Duplicate, BadLabel, NoEnd, UnknownName, Arity, TooMany, Memory}
use Rattle.gil_syntax.specs.Pure.{PureParts}
use Rattle.gil_syntax.specs.Valid.{ProgramItem, items_of, most_items, same_list, has_many_commands, has_many_names, has_wide_literal, has_fault_if_there, IsAtFault, IsNamedFault, IsValid}
use Rattle.gil_syntax.specs.First.{IsFirst}
use Rattle.gil_syntax.specs.Uncounted.{has_fault_but_length_if_there, fault_but_length_at, IsValidButLength, IsNamedButLength}

among_more : (a b c d : Bool) → IsTrue (a || b || d) → IsTrue (a || (c || b) || d)
among_more true b c d h = refl
among_more false true true d h = refl
among_more false true false d h = refl
among_more false false true d h = refl
among_more false false false d h = h

module _ (p : PureParts) where
  there : (kind : InvalidKind) (before : List ProgramItem) (o : Option ProgramItem) → IsTrue (has_fault_but_length_if_there kind p before o) → IsTrue (has_fault_if_there kind p before o)
  there kind before None h = absurd cc
  there Duplicate before (Some item) h = h
  there BadLabel before (Some item) h = h
  there NoEnd before (Some item) h = h
  there UnknownName before (Some item) h = h
  there Arity before (Some item) h = h
  there TooMany before (Some item) h = among_more (leb most_items (length (filter (same_list item) before))) (has_many_names item) (has_many_commands item) (has_wide_literal p item) h
  there Memory before (Some item) h = h

  back : (kind : InvalidKind) (before : List ProgramItem) (o : Option ProgramItem) → kind ≢ TooMany → IsTrue (has_fault_if_there kind p before o) → IsTrue (has_fault_but_length_if_there kind p before o)
  back kind before None other h = absurd cc
  back Duplicate before (Some item) other h = h
  back BadLabel before (Some item) other h = h
  back NoEnd before (Some item) other h = h
  back UnknownName before (Some item) other h = h
  back Arity before (Some item) other h = h
  back TooMany before (Some item) other h = absurd (other refl)
  back Memory before (Some item) other h = h

  is_fault : (kind : InvalidKind) (i : ℕ) → IsTrue (fault_but_length_at p kind i) → IsAtFault p kind i
  is_fault kind i h = there kind (take i (items_of p)) (slice_get (items_of p) i) h

  pub valid_but_length : IsValid p → IsValidButLength p
  valid_but_length valid kind i h = valid kind i (is_fault kind i h)

  pub named_otherwise : (kind : InvalidKind) (i : ℕ) → kind ≢ TooMany → IsNamedFault p kind i → IsNamedButLength p kind i
  named_otherwise kind i other named = record {
    at_fault = back kind (take i (items_of p)) (slice_get (items_of p) i) other named.at_fault;
    lowest = λ k j h. named.lowest k j (is_fault k j h);
    first = λ j h. named.first j (is_fault kind j h);
  }

  pub named_past : (i j : ℕ) → IsNamedFault p TooMany i → IsFirst (fault_but_length_at p TooMany) (Some j) → IsNamedButLength p TooMany j
  named_past i j named found = record {
    at_fault = found.0;
    lowest = λ k n h. named.lowest k n (is_fault k n h);
    first = found.1;
  }

  pub none_past : (i : ℕ) → IsNamedFault p TooMany i → IsFirst (fault_but_length_at p TooMany) None → IsValidButLength p
  none_past i named none Duplicate j h = absurd (let le = named.lowest Duplicate j (is_fault Duplicate j h) in omega (arith, le))
  none_past i named none BadLabel j h = absurd (let le = named.lowest BadLabel j (is_fault BadLabel j h) in omega (arith, le))
  none_past i named none NoEnd j h = absurd (let le = named.lowest NoEnd j (is_fault NoEnd j h) in omega (arith, le))
  none_past i named none UnknownName j h = absurd (let le = named.lowest UnknownName j (is_fault UnknownName j h) in omega (arith, le))
  none_past i named none Arity j h = absurd (let le = named.lowest Arity j (is_fault Arity j h) in omega (arith, le))
  none_past i named none TooMany j h = none j h
  none_past i named none Memory j h = no_memory (slice_get (items_of p) j) h
    where
      no_memory : (o : Option ProgramItem) → IsTrue (has_fault_but_length_if_there Memory p (take j (items_of p)) o) → ⊥
      no_memory None e = absurd cc
      no_memory (Some item) e = absurd cc
