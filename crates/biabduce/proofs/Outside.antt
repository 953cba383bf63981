-- Lists that aren't in the fragment.
use Rattle.std.proofs.Common.{◌≡◌, inl, inr, ℕ, ℤ, List, [], ◌∷◌, ◌++◌, true, Some, None, sym, ap, ◌∙◌, true≢false, subst}
use Rattle.std.specs.List.{list_all}
use Rattle.std.proofs.lemmas.Bool.{and_parts}
use Rattle.gil_values.specs.declared.places.Place.{Place}
use Rattle.gil_values.specs.Pure.{PureValue}
use Rattle.gil_syntax.specs.Pure.{PureParts}
use Rattle.mem_model.specs.Actions.{Actions}
use Rattle.mem_model.specs.Heaps.{Heap}
use Rattle.pure_terms.specs.declared.deciders.Reason.{Reason}
use Rattle.pure_terms.specs.Fragment.{has_fragment_form, InFragment}
use Rattle.pure_terms.specs.Pure.{PureTerm, PureAtom, opening}
use Rattle.sym_step.specs.Exploring.{IsEndedFrom}
use Rattle.sym_step.specs.Trails.{IsTrail}
use Rattle.sym_model.specs.Terms.{StateTerms}
use Rattle.sym_model.proofs.ListLaws.{not_none}
use Rattle.sym_paths.specs.Pure.{cut, unknown, PurePath}
use Rattle.sym_paths.specs.Steps.{IsRightlyUnknown}
use Rattle.biabduce.specs.Sound.{IsUndecidedIfUnknown}

no_form : (atoms : List PureAtom) (t : PureTerm) → list_all has_fragment_form (atoms ++ opening t ∷ []) ≡ true → ⊥
no_form [] t all = true≢false (sym all)
no_form (a ∷ atoms) t all = no_form atoms t (and_parts (has_fragment_form a) (list_all has_fragment_form (atoms ++ opening t ∷ [])) all).1

-- a list that needs a literal form
pub open_outside : (atoms : List PureAtom) (t : PureTerm) → ¬ InFragment (atoms ++ opening t ∷ [])
open_outside atoms t inside = no_form atoms t inside.forms

cut_is_known : {A : Type 0} (place : Place) (reason : Reason) → Some cut ≡ Some (unknown place reason) → A
cut_is_known place reason is = cc

module _ {S : Type 0} (p : PureParts) (m : Actions) (stands : S → List PureValue → Heap → Type 0) (terms : S → StateTerms)
    (asked : List ℕ → List PureTerm → List PureTerm × List PureTerm) (depends : S → List ℕ → List PureTerm → List PureValue → Heap → PureTerm → Type 0)
    (plain : S → ℤ → ℤ → Type 0) (keeps_plain : Type 0) (n : ℕ) (start path : PurePath S) (going : start.ending ≡ None) where
  by_trail : (earlier : List (PurePath S)) → IsTrail p m stands terms asked start earlier path → IsUndecidedIfUnknown path.ending path.conds
  by_trail [] trail place reason is = not_none (sym going ∙ ap (λ (x : PurePath S). x.ending) (sym trail) ∙ is)
  by_trail (before ∷ earlier) trail place reason is = (subst (IsRightlyUnknown p before path) is trail.0.unknown_rightly).0

  -- an unknown path that came of one without an end
  pub unknown_outside : IsEndedFrom p m stands terms asked depends plain keeps_plain n start path → IsUndecidedIfUnknown path.ending path.conds
  unknown_outside (inl (from, some)) = by_trail from.earlier from.trail
  unknown_outside (inr (last, (from, none, steps, is))) = λ place reason unknown. cut_is_known place reason (ap (λ (x : PurePath S). x.ending) (sym is) ∙ unknown)
