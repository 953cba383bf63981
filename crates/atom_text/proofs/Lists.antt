-- Terms and atoms that are made one after another, as loops do.
use Rattle.std.proofs.Common.{◌≡◌, ℕ, zero, suc, ◌+◌, ◌<◌, List, [], ◌∷◌, ◌++◌, drop, take, length, slice_get, Option, Some, None, refl, sym, ap, ◌∙◌, add-one, arith}
use Rattle.gil_lexemes.specs.Reading.{◌>>=◌}
use Rattle.gil_lexemes.proofs.ReadingLaws.{bind_some}
use Rattle.gil_syntax.specs.Pure.{PureExpr}
use Rattle.gil_syntax.specs.Pure as expr
use Rattle.pure_terms.specs.declared.variables.Var.{Var}
use Rattle.pure_terms.specs.Pure.{PureTerm, PureTerms, no_terms, term_and, from_list, PureAtom}
use Rattle.atom_text.specs.declared.terms.NoTerm.{NoTerm}
use Rattle.atom_text.specs.declared.terms.NoTerm.TheVariants as stops
use Rattle.atom_text.specs.Resolving.{Lacks, term_of, terms_of, atom_of, atoms_of}
use Rattle.atom_text.specs.Sources.{PureStated}
use Rattle.atom_text.proofs.NamingLemmas.{same_some}

-- what is left of a list from a place on
dropped : {X : Type 0} (xs : List X) (i : ℕ) (x : X) → slice_get xs i ≡ Some x → drop i xs ≡ x ∷ drop (suc i) xs
dropped [] i x is = absurd (cc is)
dropped (y ∷ xs) zero x is = ap (λ z. z ∷ xs) (same_some y x is)
dropped (y ∷ xs) (suc i) x is = dropped xs i x is

pub dropped_at : {X : Type 0} (xs : List X) (i : ℕ) (x : X) → slice_get xs i ≡ Some x → drop i xs ≡ x ∷ drop (i + 1) xs
dropped_at xs i x is = dropped xs i x is ∙ ap (λ k. x ∷ drop k xs) (sym (add-one i))

-- terms in front of others
abbrev in_front : List PureTerm → PureTerms → PureTerms
in_front [] us = us
in_front (t ∷ ts) us = term_and t (in_front ts us)

in_front-push : (ts : List PureTerm) (t : PureTerm) (us : PureTerms) → in_front (ts ++ t ∷ []) us ≡ in_front ts (term_and t us)
in_front-push [] t us = refl
in_front-push (s ∷ ts) t us = ap (term_and s) (in_front-push ts t us)

in_front-none : (ts : List PureTerm) → in_front ts no_terms ≡ from_list ts
in_front-none [] = refl
in_front-none (t ∷ ts) = ap (term_and t) (in_front-none ts)

abbrev with_terms : List PureTerm → Option PureTerms → Option PureTerms
with_terms ts made = made >>= λ us. Some (in_front ts us)

module _ (find : List ℕ → Option Var) where
  -- the terms that were made, and those that are still made
  abbrev pub rest_of : List PureTerm → List PureExpr → Option PureTerms
  rest_of ts es = with_terms ts (terms_of find (expr.from_list es))

  pub terms_begin : (es : List PureExpr) → rest_of [] es ≡ terms_of find (expr.from_list es)
  terms_begin es = whole (terms_of find (expr.from_list es))
    where
      whole : (made : Option PureTerms) → with_terms [] made ≡ made
      whole (Some us) = refl
      whole None = refl

  regroup : (ts : List PureTerm) (t : PureTerm) (made : Option PureTerms) → with_terms ts (made >>= λ us. Some (term_and t us)) ≡ with_terms (ts ++ t ∷ []) made
  regroup ts t (Some us) = ap Some (sym (in_front-push ts t us))
  regroup ts t None = refl

  pub terms_go_on : (ts : List PureTerm) (e : PureExpr) (es : List PureExpr) (t : PureTerm) (whole : Option PureTerms) → term_of find e ≡ Some t
      → rest_of ts (e ∷ es) ≡ whole → rest_of (ts ++ t ∷ []) es ≡ whole
  terms_go_on ts e es t whole made so_far =
      let step : rest_of ts (e ∷ es) ≡ rest_of (ts ++ t ∷ []) es = rw made (regroup ts t (terms_of find (expr.from_list es))) in
      sym step ∙ so_far

  pub terms_stop : (stop : NoTerm) (ts : List PureTerm) (e : PureExpr) (es : List PureExpr) (whole : Option PureTerms) → Lacks stop (term_of find e)
      → rest_of ts (e ∷ es) ≡ whole → Lacks stop whole
  terms_stop stops.Memory ts e es whole none so_far = tt
  terms_stop stops.Unknown ts e es whole none so_far =
      let step : rest_of ts (e ∷ es) ≡ None = rw none refl in
      sym so_far ∙ step

  pub terms_end : (ts : List PureTerm) (es : List PureExpr) (whole : Option PureTerms) → length es ≡ 0 → rest_of ts es ≡ whole → whole ≡ Some (from_list ts)
  terms_end ts [] whole end so_far = sym so_far ∙ ap Some (in_front-none ts)
  terms_end ts (e ∷ es) whole end so_far = absurd (omega arith)

  -- ---- atoms

  pub atoms_push : (stated : List PureStated) (atoms : List PureAtom) (s : PureStated) (a : PureAtom) → atoms_of find stated ≡ Some atoms → atom_of find s.expression ≡ Some a
      → atoms_of find (stated ++ s ∷ []) ≡ Some (atoms ++ a ∷ [])
  atoms_push [] atoms s a made one = let none : [] ≡ atoms = same_some _ atoms made in rw one (ap (λ xs. Some (xs ++ a ∷ [])) none)
  atoms_push (r ∷ stated) atoms s a made one =
      let b = bind_some (atom_of find r.expression) _ atoms made in
      let others = bind_some (atoms_of find stated) _ atoms b.2 in
      let more = atoms_push stated others.0 s a others.1 one in
      rw (b.1, more) (ap (λ xs. Some (xs ++ a ∷ [])) (same_some (b.0 ∷ others.0) atoms others.2))

  -- each expression of a list of which atoms are made has one
  pub each_made : (stated : List PureStated) (atoms : List PureAtom) (i : ℕ) (s : PureStated) → atoms_of find stated ≡ Some atoms → slice_get stated i ≡ Some s
      → (a : PureAtom) × (atom_of find s.expression ≡ Some a)
  each_made [] atoms i s made here = absurd (cc here)
  each_made (r ∷ stated) atoms zero s made here =
      let b = bind_some (atom_of find r.expression) _ atoms made in
      (b.0, ap (λ (k : PureStated). atom_of find k.expression) (sym (same_some r s here)) ∙ b.1)
  each_made (r ∷ stated) atoms (suc i) s made here =
      let b = bind_some (atom_of find r.expression) _ atoms made in
      let others = bind_some (atoms_of find stated) _ atoms b.2 in
      each_made stated others.0 i s others.1 here

-- the first elements of a list stand where they stand in the list
pub slice_get-take : {X : Type 0} (xs : List X) (n i : ℕ) → i < n → slice_get (take n xs) i ≡ slice_get xs i
slice_get-take [] zero i below = refl
slice_get-take [] (suc n) i below = refl
slice_get-take (x ∷ xs) zero i below = absurd (omega arith)
slice_get-take (x ∷ xs) (suc n) zero below = refl
slice_get-take (x ∷ xs) (suc n) (suc i) below = slice_get-take xs n i (omega arith)
