-- Consuming a name from a narrow list of chunks.
use Rattle.std.proofs.Common.{◌≡◌, ℕ, ℤ, ◌-ℤ◌, ◌+ℤ◌, List, [], ◌∷◌, ◌++◌, Bool, true, Option, Some, IsTrue, if◌then◌else◌, codes, refl, sym, ap, subst, ◌∙◌}
use Rattle.std.specs.Str.{bytes_eq}
use Rattle.core_changes.specs.Consuming.{consumed_cases, consumed}
use Rattle.mem_model.specs.declared.cores.Core.{Core}
use Rattle.mem_model.specs.CoreNames.{core_of}
use Rattle.pure_terms.specs.Pure.{PureTerm}
use Rattle.sym_chunks.specs.ByPlace.{all_by_place}
use Rattle.sym_chunks.specs.Cases.{takes, case_of, found, outs_term}
use Rattle.sym_chunks.specs.Keys.{other_sub}
use Rattle.sym_chunks.proofs.Narrow.{IsNarrow, IsNarrowChunk, IsNarrowCase, IsNarrowBranch, narrow_wider, state_wider, narrow_chunks, held_at_name, other_sub_decided, by_place_decided, narrow_case, narrow_chosen, found_narrow}
use Rattle.sym_chunks.proofs.WalkLaws.{each_removed}
use Rattle.sym_model.specs.Alternatives.{always}
use Rattle.sym_model.specs.Chunks.{terms_of}
use Rattle.sym_model.specs.CoreLaws.{outs_listed, ConsumesNarrowly}
use Rattle.sym_model.specs.Cores.{core_of_sub}
use Rattle.sym_model.specs.Laws.{growth}
use Rattle.sym_model.specs.Lists.{Each}
use Rattle.sym_model.specs.Plain.{IsNarrowWithin}
use Rattle.sym_model.specs.Pure.{PureSub, named, cell, shape, bound, dom, proto, gone, PureChunk, PureKey, PureResult, sub_terms, done, missed}
use Rattle.sym_model.proofs.ListLaws.{same_some, each_append, each_to}

first_choice : {X : Type 0} (b : Bool) (x y : X) → b ≡ true → (if b then x else y) ≡ x
first_choice b x y is = ap (λ c. if c then x else y) is

-- the core predicate of names
pub named_prop : (name : List ℕ) → IsTrue (bytes_eq name (codes "prop")) → core_of name ≡ Some Core.Prop
named_prop name is = first_choice (bytes_eq name (codes "prop")) (Some Core.Prop) _ is

module _ (low high : ℤ) (cs : List PureChunk) (all : Each (IsNarrowChunk low high) cs) where
  -- the outs that are listed are narrow
  abbrev pub ListsNarrowly : PureResult → Type 0
  ListsNarrowly r = Each (IsNarrow low high) (outs_listed r)

  name_consumed : (l p : PureTerm) → IsNarrow low high l → IsNarrow low high p → Each (IsNarrowBranch low high ListsNarrowly) (consumed (Some (record { loc = l; sub = named p })) cs)
  name_consumed l p narrow_l narrow_p =
      let name : PureKey = record { loc = l; sub = named p } in
      narrow_chosen low high ListsNarrowly always (tt, tt) (consumed_cases name cs)
      (each_append (IsNarrowCase low high ListsNarrowly) (found takes l (named p) cs) (case_of (all_by_place l (λ c. other_sub (named p) c.sub) cs) cs (missed name))
      (found_narrow low high ListsNarrowly takes l p narrow_l narrow_p cs
      (λ i c q there e is. (each_removed (IsNarrowChunk low high) cs i all, subst (λ s. ListsNarrowly (done (outs_term s c.val))) (sym e) (held_at_name low high c q e is, tt))) all)
      (narrow_case low high ListsNarrowly (all_by_place l (λ c. other_sub (named p) c.sub) cs) cs (missed name)
      (by_place_decided low high l narrow_l (λ c. other_sub (named p) c.sub) (other_sub_decided low high (named p) (narrow_p, tt)) cs all) all tt))

  by_sub : (l : PureTerm) (s : PureSub) → core_of_sub s ≡ Core.Prop → Each (IsNarrow low high) (l ∷ sub_terms s) → Each (IsNarrowBranch low high ListsNarrowly) (consumed (Some (record { loc = l; sub = s })) cs)
  by_sub l (named p) is narrow = name_consumed l p narrow.0 narrow.1.0
  by_sub l (cell i) is narrow = absurd (cc)
  by_sub l shape is narrow = absurd (cc)
  by_sub l bound is narrow = absurd (cc)
  by_sub l dom is narrow = absurd (cc)
  by_sub l proto is narrow = absurd (cc)
  by_sub l gone is narrow = absurd (cc)

-- `prop` is consumed narrowly
pub consumes_narrowly : (name : List ℕ) (k : PureKey) (cs : List PureChunk) → core_of name ≡ Some (core_of_sub k.sub) → ConsumesNarrowly terms_of name (k.loc ∷ sub_terms k.sub) cs (consumed (Some k) cs)
consumes_narrowly name k cs is_core low high is_prop around_zero state narrow =
    by_sub (low -ℤ growth) (high +ℤ growth) cs (narrow_chunks (low -ℤ growth) (high +ℤ growth) cs (state_wider low high (terms_of cs) state)) k.loc k.sub
    (same_some (sym is_core ∙ named_prop name is_prop))
    (each_to (IsNarrowWithin low high) (IsNarrowWithin (low -ℤ growth) (high +ℤ growth)) (k.loc ∷ sub_terms k.sub) (narrow_wider low high) narrow)
