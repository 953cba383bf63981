use Rattle.std.proofs.Common.{◌≡◌, ℕ, zero, suc, ◌+◌, ◌≤◌, List, [], ◌∷◌, ◌++◌, take, Some, slice_get, sym, ap, ◌∙◌, subst, arith, add-one}
use Rattle.std.proofs.lemmas.Option.{same_Some}
use Rattle.gil_values.proofs.Lists.{slice_get-read}
use Rattle.pure_terms.specs.declared.variables.Sort.{Sort}
use Rattle.pure_terms.specs.Pure.{PureTerm, no_terms, term_and, from_list, size, sizes}
use Rattle.pure_terms.specs.View.{term_view, terms_view}
use Rattle.solver_sorts.specs.Sorting.{sorted_term, sorted_terms}
use Rattle.solver_sorts.proofs.terms.+sorting.Goals as goal

size-element : (us : List PureTerm) (i : ℕ) (u : PureTerm) → slice_get us i ≡ Some u → size u ≤ sizes (from_list us)
size-element [] i u is = cc
size-element (t ∷ us) zero u is = let same : size u ≡ size t = (let e : u ≡ t = cc in ap size e) in omega (arith, same)
size-element (t ∷ us) (suc i) u is = let rest : size u ≤ sizes (from_list us) = size-element us i u is in omega (arith, rest)

sorted_next : (sorted : List Sort) (ts us : List PureTerm) (i : ℕ) (t u : PureTerm) → slice_get ts i ≡ Some t → from_list us ≡ sorted_terms sorted (from_list (take i ts)) → u ≡ sorted_term sorted t
    → from_list (us ++ u ∷ []) ≡ sorted_terms sorted (from_list (take (i + 1) ts))
sorted_next sorted ts us i t u at before now = rw add-one (next ts us i at before) where
  next : (ts us : List PureTerm) (i : ℕ) → slice_get ts i ≡ Some t → from_list us ≡ sorted_terms sorted (from_list (take i ts)) → from_list (us ++ u ∷ []) ≡ sorted_terms sorted (from_list (take (suc i) ts))
  next [] us i at before = cc
  next (y ∷ ys) [] zero at before = ap (λ w. term_and w no_terms) (now ∙ ap (sorted_term sorted) (sym (same_Some y t at)))
  next (y ∷ ys) (w ∷ us) zero at before = cc
  next (y ∷ ys) [] (suc i) at before = cc
  next (y ∷ ys) (w ∷ us) (suc i) at before =
      let first : w ≡ sorted_term sorted y = cc in
      let rest : from_list us ≡ sorted_terms sorted (from_list (take i ys)) = cc in
      let more = next ys us i at rest in
      λ j. term_and (first j) (more j)

pub sorted_terms-sorted_term-requires : goal.sorted_terms-sorted_term-requires
sorted_terms-sorted_term-requires t c =
    let here : slice_get (terms_view c.args.terms.now) c.loop-term.term-index ≡ Some (term_view c.term-item.result)
    = subst (λ us. slice_get us c.loop-term.term-index ≡ Some (term_view c.term-item.result)) c.as_slice-term-items.ensures (slice_get-read term_view c.as_slice-term-items.result.now c.loop-term.term-index c.term-item.result (omega arith) c.term-item.is) in
    let small : size (term_view c.term-item.result) ≤ sizes (from_list (terms_view c.args.terms.now)) = size-element _ _ _ here in
    (omega (arith, small, c.decreases), tt)

pub sorted_terms-loop-term-preserved : goal.sorted_terms-loop-term-preserved
sorted_terms-loop-term-preserved t c =
    let here : slice_get (terms_view c.args.terms.now) c.loop-term.term-index ≡ Some (term_view c.term-item.result)
    = subst (λ us. slice_get us c.loop-term.term-index ≡ Some (term_view c.term-item.result)) c.as_slice-term-items.ensures (slice_get-read term_view c.as_slice-term-items.result.now c.loop-term.term-index c.term-item.result (omega arith) c.term-item.is) in
    rw c.in_ok-push.ensures.ok (sorted_next c.args.sorted.now (terms_view c.args.terms.now) (terms_view c.loop-term.items) c.loop-term.term-index (term_view c.term-item.result) (term_view c.in_ok-sorted_term.field-0) here c.loop-term.invariant c.in_ok-sorted_term.ensures)
