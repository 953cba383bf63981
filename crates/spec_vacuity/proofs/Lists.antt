-- Terms that are made one after another, as loops do.
use Rattle.std.proofs.Common.{◌≡◌, ℕ, zero, suc, ◌+◌, List, [], ◌∷◌, ◌++◌, drop, length, slice_get, Option, Some, None, refl, sym, ap, ◌∙◌, add-one, arith}
use Rattle.gil_lexemes.specs.Reading.{◌>>=◌}
use Rattle.gil_syntax.specs.Pure.{PureExpr}
use Rattle.gil_syntax.specs.Pure as expr
use Rattle.pure_terms.specs.declared.variables.Var.{Var}
use Rattle.pure_terms.specs.Pure.{PureTerm, PureTerms, no_terms, term_and, from_list}
use Rattle.spec_vacuity.specs.declared.terms.NoTerm.{NoTerm}
use Rattle.spec_vacuity.specs.declared.terms.NoTerm.TheVariants as stops
use Rattle.spec_vacuity.specs.Translation.{Lacks, term_of, terms_of}

same_some : {A : Type 0} (x y : A) → Some x ≡ Some y → x ≡ y
same_some x y e = cc

-- what is left of a list from a place on
dropped : {X : Type 0} (xs : List X) (i : ℕ) (x : X) → slice_get xs i ≡ Some x → drop i xs ≡ x ∷ drop (suc i) xs
dropped [] i x is = absurd (cc is)
dropped (y ∷ xs) zero x is = ap (λ z. z ∷ xs) (same_some y x is)
dropped (y ∷ xs) (suc i) x is = dropped xs i x is

pub dropped_at : {X : Type 0} (xs : List X) (i : ℕ) (x : X) → slice_get xs i ≡ Some x → drop i xs ≡ x ∷ drop (i + 1) xs
dropped_at xs i x is = dropped xs i x is ∙ ap (λ k. x ∷ drop k xs) (sym (add-one i))

-- terms in front of others
abbrev in_front : List PureTerm → PureTerms → PureTerms
in_front [] us = us
in_front (t ∷ ts) us = term_and t (in_front ts us)

in_front-push : (ts : List PureTerm) (t : PureTerm) (us : PureTerms) → in_front (ts ++ t ∷ []) us ≡ in_front ts (term_and t us)
in_front-push [] t us = refl
in_front-push (s ∷ ts) t us = ap (term_and s) (in_front-push ts t us)

in_front-none : (ts : List PureTerm) → in_front ts no_terms ≡ from_list ts
in_front-none [] = refl
in_front-none (t ∷ ts) = ap (term_and t) (in_front-none ts)

abbrev with_terms : List PureTerm → Option PureTerms → Option PureTerms
with_terms ts made = made >>= λ us. Some (in_front ts us)

module _ (find : List ℕ → Option Var) where
  -- the terms that were made, and those that are still made
  abbrev pub rest_of : List PureTerm → List PureExpr → Option PureTerms
  rest_of ts es = with_terms ts (terms_of find (expr.from_list es))

  pub terms_begin : (es : List PureExpr) → rest_of [] es ≡ terms_of find (expr.from_list es)
  terms_begin es = whole (terms_of find (expr.from_list es))
    where
      whole : (made : Option PureTerms) → with_terms [] made ≡ made
      whole (Some us) = refl
      whole None = refl

  regroup : (ts : List PureTerm) (t : PureTerm) (made : Option PureTerms) → with_terms ts (made >>= λ us. Some (term_and t us)) ≡ with_terms (ts ++ t ∷ []) made
  regroup ts t (Some us) = ap Some (sym (in_front-push ts t us))
  regroup ts t None = refl

  pub terms_go_on : (ts : List PureTerm) (e : PureExpr) (es : List PureExpr) (t : PureTerm) (whole : Option PureTerms) → term_of find e ≡ Some t
      → rest_of ts (e ∷ es) ≡ whole → rest_of (ts ++ t ∷ []) es ≡ whole
  terms_go_on ts e es t whole made so_far =
      let step : rest_of ts (e ∷ es) ≡ rest_of (ts ++ t ∷ []) es = rw made (regroup ts t (terms_of find (expr.from_list es))) in
      sym step ∙ so_far

  pub terms_stop : (stop : NoTerm) (ts : List PureTerm) (e : PureExpr) (es : List PureExpr) (whole : Option PureTerms) → Lacks stop (term_of find e)
      → rest_of ts (e ∷ es) ≡ whole → Lacks stop whole
  terms_stop stops.Memory ts e es whole none so_far = tt
  terms_stop stops.Unknown ts e es whole none so_far =
      let step : rest_of ts (e ∷ es) ≡ None = rw none refl in
      sym so_far ∙ step

  pub terms_end : (ts : List PureTerm) (es : List PureExpr) (whole : Option PureTerms) → length es ≡ 0 → rest_of ts es ≡ whole → whole ≡ Some (from_list ts)
  terms_end ts [] whole end so_far = sym so_far ∙ ap Some (in_front-none ts)
  terms_end ts (e ∷ es) whole end so_far = absurd (omega arith)

-- what follows a step that gave nothing
pub bind_stops : {A B : Type 0} (stop : NoTerm) (o : Option A) (f : A → Option B) → Lacks stop o → Lacks stop (o >>= f)
bind_stops stops.Memory o f lacks = tt
bind_stops stops.Unknown o f lacks = ap (λ r. r >>= f) lacks
