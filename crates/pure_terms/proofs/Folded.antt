-- Steps of folding, as the code makes them.
use Rattle.std.proofs.Common.{◌≡◌, ℕ, ℤ, pos, negsuc, ◌≤ℤ◌, ◌<ℤ◌, List, length, Option, None, Result, Ok, Err, IfOk, slice_get, refl, sym, ap, ◌∙◌, subst, arith}
use Rattle.std.proofs.lemmas.Int.{ints}
use lib.IntN.{nat_abs}
use Rattle.std.proofs.lemmas.Option.{slice_get_past}
use Rattle.gil_values.specs.declared.operators.BinOp.{BinOp}
use Rattle.pure_terms.specs.declared.literals.Literal.{Literal}
use Rattle.pure_terms.specs.declared.terms.Term.{Term}
use Rattle.pure_terms.specs.Folding.{term_or, element_term, folded_with_literal}
use Rattle.pure_terms.specs.Pure.{PureTerm, literal, list_of, binary_of, from_list, to_list, to_list-from_list}
use Rattle.pure_terms.specs.View.{term_view}

-- a call that answers one term answers an equal one
pub answers_equal : {E : Type 0} (r : Result Term E) (t u : PureTerm) → t ≡ u → IfOk r (λ w. term_view w ≡ t) → IfOk r (λ w. term_view w ≡ u)
answers_equal (Ok w) t u e h = h ∙ e
answers_equal (Err x) t u e h = tt

element_found : (us : List PureTerm) (i : ℕ) → slice_get us i ≡ slice_get (to_list (from_list us)) i
element_found us i = ap (λ ts. slice_get ts i) (sym (to_list-from_list us))

pub element_at : (us : List PureTerm) (z : ℤ) → pos 0 ≤ℤ z → slice_get us (nat_abs z) ≡ element_term (from_list us) z
element_at us (pos i) above = element_found us i
element_at us (negsuc i) above = absurd (omega (arith, ints, above))

pub element_past : (us : List PureTerm) (z : ℤ) → pos (length us) ≤ℤ z → None ≡ element_term (from_list us) z
element_past us (pos i) past = sym (sym (element_found us i) ∙ slice_get_past us i (omega (arith, ints, past)))
element_past us (negsuc i) past = refl

pub element_below : (us : List PureTerm) (z : ℤ) → z <ℤ pos 0 → None ≡ element_term (from_list us) z
element_below us (pos i) below = absurd (omega (arith, ints, below))
element_below us (negsuc i) below = refl

-- `nth` of a list term at a literal
pub nth_folds : (us : List PureTerm) (op : BinOp) (l : Literal) (z : ℤ) (o : Option PureTerm) → op ≡ BinOp.Nth → l ≡ Literal.Int z → o ≡ element_term (from_list us) z
    → term_or (binary_of op (list_of (from_list us)) (literal l)) o ≡ folded_with_literal op (list_of (from_list us)) l
nth_folds us op l z o is_nth is_integer e =
    let Folds : BinOp → Literal → Type 0 = λ p k. term_or (binary_of p (list_of (from_list us)) (literal k)) o ≡ folded_with_literal p (list_of (from_list us)) k in
    subst (λ p. Folds p l) (sym is_nth)
    (subst (λ k. Folds BinOp.Nth k) (sym is_integer) (ap (term_or (binary_of BinOp.Nth (list_of (from_list us)) (literal (Literal.Int z)))) e))
