-- Tests of each term of a list, as a loop over the list makes them.
use Rattle.std.proofs.Common.{◌≡◌, ℕ, zero, suc, ◌+◌, ◌<◌, ◌≤◌, List, [], ◌∷◌, take, length, map, get_or, Bool, true, false, ◌&&◌, ◌||◌, Some, slice_get, refl, sym, ap, ◌∙◌, add-one}
use Rattle.std.specs.List.{list_all, list_any}
use Rattle.std.proofs.lemmas.Bool.{and_from, and_parts, and_left, and_right, or_left, or_right, or_from, or_parts}
use Rattle.std.proofs.lemmas.List.{take_all, length-map}
use Rattle.gil_values.proofs.Lists.{slice_get-read}
use Rattle.pure_terms.specs.declared.terms.Term.{Term}
use Rattle.pure_terms.specs.Pure.{PureTerm, PureTerms, no_terms, term_and, from_list}
use Rattle.pure_terms.specs.View.{term_view, terms_view}
use Rattle.pure_terms.specs.declared.terms.Terms.{Terms}
use Rattle.pure_terms.proofs.Views.{terms_view-items}

-- the term at a place of the items, as pure data
pub term_at : (terms : Terms) (items : List Term) (i : ℕ) (t : Term) → items ≡ terms.items.items → i < length items → t ≡ get_or items i t → slice_get (terms_view terms) i ≡ Some (term_view t)
term_at terms items i t same below is =
    ap (λ us. slice_get us i) (terms_view-items terms ∙ ap (map term_view) (sym same)) ∙ slice_get-read term_view items i t below is

pub length_of : (terms : Terms) → length (terms_view terms) ≡ length terms.items.items
length_of terms = ap length (terms_view-items terms) ∙ length-map terms.items.items term_view

module _ {X : Type 0} (f : X → Bool) where
  pub all_more : (us : List X) (i : ℕ) (u : X) → list_all f (take i us) ≡ true → slice_get us i ≡ Some u → f u ≡ true → list_all f (take (i + 1) us) ≡ true
  all_more us i u before is passes = rw add-one (at_next us i before is) where
    at_next : (us : List X) (i : ℕ) → list_all f (take i us) ≡ true → slice_get us i ≡ Some u → list_all f (take (suc i) us) ≡ true
    at_next [] i before is = cc
    at_next (x ∷ us) zero before is = let here : x ≡ u = cc in and_from (f x) true (ap f here ∙ passes) refl
    at_next (x ∷ us) (suc i) before is =
        let parts = and_parts (f x) (list_all f (take i us)) before in
        and_from (f x) (list_all f (take (suc i) us)) parts.0 (at_next us i parts.1 is)

  pub all_fails : (us : List X) (i : ℕ) (u : X) → slice_get us i ≡ Some u → f u ≡ false → list_all f us ≡ false
  all_fails [] i u is fails = cc
  all_fails (x ∷ us) zero u is fails = let here : x ≡ u = cc in and_left (f x) (list_all f us) (ap f here ∙ fails)
  all_fails (x ∷ us) (suc i) u is fails = and_right (f x) (list_all f us) (all_fails us i u is fails)

  pub all_whole : (us : List X) (i : ℕ) → length us ≤ i → list_all f (take i us) ≡ true → list_all f us ≡ true
  all_whole us i past before = ap (list_all f) (sym (take_all i us past)) ∙ before

  pub any_more : (us : List X) (i : ℕ) (u : X) → list_any f (take i us) ≡ false → slice_get us i ≡ Some u → f u ≡ false → list_any f (take (i + 1) us) ≡ false
  any_more us i u before is fails = rw add-one (at_next us i before is) where
    at_next : (us : List X) (i : ℕ) → list_any f (take i us) ≡ false → slice_get us i ≡ Some u → list_any f (take (suc i) us) ≡ false
    at_next [] i before is = cc
    at_next (x ∷ us) zero before is = let here : x ≡ u = cc in or_from (f x) false (ap f here ∙ fails) refl
    at_next (x ∷ us) (suc i) before is =
        let parts = or_parts (f x) (list_any f (take i us)) before in
        or_from (f x) (list_any f (take (suc i) us)) parts.0 (at_next us i parts.1 is)

  pub any_found : (us : List X) (i : ℕ) (u : X) → slice_get us i ≡ Some u → f u ≡ true → list_any f us ≡ true
  any_found [] i u is passes = cc
  any_found (x ∷ us) zero u is passes = let here : x ≡ u = cc in or_left (f x) (list_any f us) (ap f here ∙ passes)
  any_found (x ∷ us) (suc i) u is passes = or_right (f x) (list_any f us) (any_found us i u is passes)

  pub any_whole : (us : List X) (i : ℕ) → length us ≤ i → list_any f (take i us) ≡ false → list_any f us ≡ false
  any_whole us i past before = ap (list_any f) (sym (take_all i us past)) ∙ before

-- a test of a list term's elements, by a recursion over these
pub tests_all : (f : PureTerm → Bool) (fs : PureTerms → Bool) → fs no_terms ≡ true → ((t : PureTerm) (ts : PureTerms) → fs (term_and t ts) ≡ (f t && fs ts)) → (us : List PureTerm) → fs (from_list us) ≡ list_all f us
tests_all f fs nil cons [] = nil
tests_all f fs nil cons (u ∷ us) = cons u (from_list us) ∙ ap (λ b. f u && b) (tests_all f fs nil cons us)

pub tests_any : (f : PureTerm → Bool) (fs : PureTerms → Bool) → fs no_terms ≡ false → ((t : PureTerm) (ts : PureTerms) → fs (term_and t ts) ≡ (f t || fs ts)) → (us : List PureTerm) → fs (from_list us) ≡ list_any f us
tests_any f fs nil cons [] = nil
tests_any f fs nil cons (u ∷ us) = cons u (from_list us) ∙ ap (λ b. f u || b) (tests_any f fs nil cons us)
