-- The steps of loops over lists.
use Rattle.std.proofs.Common.{◌≡◌, ℕ, suc, ◌+◌, ◌<◌, List, [], ◌∷◌, ◌++◌, map, take, drop, get_or, length, Bool, true, false, if◌then◌else◌, Some, refl, sym, ap, ◌∙◌, arith}
use Rattle.std.specs.List.{flat_map, list_any}
use Rattle.std.proofs.lemmas.List.{append_assoc, drop_more}
use Rattle.pure_terms.specs.declared.atoms.Atom.{Atom}
use Rattle.pure_terms.specs.Pure.{PureTerm}
use Rattle.sym_chunks.specs.Keys.{at_key}
use Rattle.sym_chunks.specs.Walking.{sure_place}
use Rattle.sym_model.specs.Alternatives.{Alternatives, alternatives_view, never, both, is_empty}
use Rattle.sym_model.proofs.Stepping.{flat_step}
use Rattle.sym_model.specs.Pure.{PureSub, PureChunk}
use Rattle.sym_model.proofs.ListLaws.{same_some, not_none}

module _ {X A B : Type 0} (view : X → A) where
  -- what is added for each item, after what there was at first
  pub flat_on : (f : A → List B) (items : List X) (i : ℕ) (x : X) (first out next : List B) → i < length items → x ≡ get_or items i x → out ≡ first ++ flat_map f (map view (take i items)) → next ≡ out ++ f (view x) → next ≡ first ++ flat_map f (map view (take (i + 1) items))
  flat_on f items i x first out next below is so_far added =
      added ∙ ap (λ y. y ++ f (view x)) so_far
      ∙ append_assoc first (flat_map f (map view (take i items))) (f (view x))
      ∙ ap (λ y. first ++ y) (flat_step view f items i x (flat_map f (map view (take i items))) (flat_map f (map view (take i items)) ++ f (view x)) below is refl refl)

  -- what is added for each item by its place
  pub from_on : (rest : ℕ → List A → List B) (head : ℕ → A → List B) → ((i : ℕ) (a : A) (more : List A) → rest i (a ∷ more) ≡ head i a ++ rest (i + 1) more) → (items : List X) (i : ℕ) (x : X) (out next whole : List B) → i < length items → x ≡ get_or items i x → out ++ rest i (map view (drop i items)) ≡ whole → next ≡ out ++ head i (view x) → next ++ rest (i + 1) (map view (drop (i + 1) items)) ≡ whole
  from_on rest head step items i x out next whole below is so_far added =
      ap (λ y. y ++ rest (i + 1) (map view (drop (i + 1) items))) added
      ∙ append_assoc out (head i (view x)) (rest (i + 1) (map view (drop (i + 1) items)))
      ∙ ap (λ y. out ++ y) (sym (step i (view x) (map view (drop (i + 1) items))))
      ∙ ap (λ xs. out ++ rest i (map view xs)) (ap (λ y. y ∷ drop (i + 1) items) is ∙ sym (drop_more items i x below))
      ∙ so_far

-- no alternative is left
pub nothing_left : (x : Alternatives) → both x never ≡ never
nothing_left [] = refl
nothing_left (conds ∷ x) = nothing_left x

pub nothing : (x : List (List Atom)) → length x ≡ 0 → alternatives_view x ≡ never
nothing [] is = refl
nothing (a ∷ x) is = absurd (omega (arith, is))

-- a place that is found is one of the list
sure_if : (l : PureTerm) (s : PureSub) (i j : ℕ) (cs : List PureChunk) (b : Bool) → (sure_place l s (i + 1) cs ≡ Some j → j < (i + 1) + length cs) → (if b then Some i else sure_place l s (i + 1) cs) ≡ Some j → j < i + suc (length cs)
sure_if l s i j cs true later is = let e : i ≡ j = same_some is in omega (arith, e)
sure_if l s i j cs false later is = omega (arith, later is)

pub sure_below : (l : PureTerm) (s : PureSub) (i j : ℕ) (cs : List PureChunk) → sure_place l s i cs ≡ Some j → j < i + length cs
sure_below l s i j [] is = not_none is
sure_below l s i j (c ∷ cs) is = sure_if l s i j cs (list_any is_empty (at_key l s c)) (sure_below l s (i + 1) j cs) is
