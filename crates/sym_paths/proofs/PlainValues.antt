-- A table has a proper valuation, under which a store of plain terms stands for one of values.
use Rattle.std.proofs.Common.{◌≡◌, ◌⊎◌, ⊎_elim, inl, inr, ℕ, pos, List, [], ◌∷◌, ◌++◌, Bool, true, false, cond, Option, Some, None, refl, sym, ap, subst, ◌∙◌, append_assoc, append-nil}
use Rattle.std.specs.Prelude.{IsTrue}
use Rattle.std.specs.Str.{bytes_eq}
use Rattle.gil_values.specs.Pure.{PureValue, integer, boolean, text, symbol, list, no_values}
use Rattle.gil_values.specs.Symbols.{symbols_of_all}
use Rattle.gil_syntax.specs.Evaluation.{Store, bind, value_of}
use Rattle.pure_terms.specs.declared.variables.Sort.{Sort}
use Rattle.pure_terms.specs.Kinds.{has_sort}
use Rattle.pure_terms.specs.Meaning.{value, IsProper}
use Rattle.pure_terms.specs.Pure.{PureTerm}
use Rattle.pure_terms.proofs.SimpleLaws.{simple_terms_have_values}
use Rattle.sym_evaluation.specs.Meaning.{AreSame, Serves}
use Rattle.sym_evaluation.specs.Pure.{PureStore, term_at}
use Rattle.sym_evaluation.proofs.PlainTerms.{plain_parts}
use Rattle.sym_model.proofs.ListLaws.{not_none}
use Rattle.sym_paths.proofs.Moving.{above}
use Rattle.sym_paths.proofs.Valuations.{later_variables_are_proper}
use Rattle.sym_paths.specs.PlainLaws.{IsPlainOver}

-- ---- valuations

sort_value : (sort : Sort) → ¬ (sort ≡ Sort.Fresh) → (w : PureValue) × IsTrue (has_sort sort w)
sort_value Sort.Int other = (integer (pos 0), refl)
sort_value Sort.Bool other = (boolean false, refl)
sort_value Sort.Str other = (text [], refl)
sort_value Sort.Sym other = (symbol 0, refl)
sort_value Sort.Fresh other = absurd (other refl)
sort_value Sort.List other = (list no_values, refl)
sort_value Sort.Any other = (boolean false, refl)

other_sort : (sort : Sort) → (sort ≡ Sort.Fresh) ⊎ ¬ (sort ≡ Sort.Fresh)
other_sort Sort.Fresh = inl refl
other_sort Sort.Int = inr (λ e. cc)
other_sort Sort.Bool = inr (λ e. cc)
other_sort Sort.Str = inr (λ e. cc)
other_sort Sort.Sym = inr (λ e. cc)
other_sort Sort.List = inr (λ e. cc)
other_sort Sort.Any = inr (λ e. cc)

one_more : (vars : List Sort) (v : List PureValue) (sort : Sort) → IsProper vars v → (w : PureValue) × IsProper (vars ++ sort ∷ []) (v ++ w ∷ [])
one_more vars v sort proper =
    ⊎_elim
    (λ fresh. let (n, below) = above (symbols_of_all v) in (symbol n, subst (λ s. IsProper (vars ++ s ∷ []) (v ++ symbol n ∷ [])) (sym fresh) (later_variables_are_proper.fresh vars v n proper below).0))
    (λ other. let (w, fits) = sort_value sort other in (w, later_variables_are_proper.drawn vars v sort w proper other fits))
    (other_sort sort)

from_here : (sorts vars : List Sort) (v : List PureValue) → IsProper vars v → (w : List PureValue) × IsProper (vars ++ sorts) w
from_here [] vars v proper = (v, subst (λ xs. IsProper xs v) (sym (append-nil vars)) proper)
from_here (sort ∷ sorts) vars v proper =
    let (w, first) = one_more vars v sort proper in
    let (ws, rest) = from_here sorts (vars ++ sort ∷ []) (v ++ w ∷ []) first in
    (ws, subst (λ xs. IsProper xs ws) (append_assoc vars (sort ∷ []) sorts) rest)

none_proper : IsProper [] []
none_proper = record { one_each = refl; sorts = λ x s w at. not_none at; fresh = λ x y n w at. not_none at }

pub some_proper : (vars : List Sort) → (v : List PureValue) × IsProper vars v
some_proper vars = from_here vars [] [] none_proper

-- ---- stores

abbrev value_or : Option PureValue → PureValue
value_or (Some w) = w
value_or None = boolean false

abbrev under : List PureValue → PureStore → Store
under v [] = []
under v (b ∷ bs) = bind b.name (value_or (value v b.term)) (under v bs)

stands_at : (v : List PureValue) (bs : PureStore) (x : List ℕ) → ((t : PureTerm) → term_at bs x ≡ Some t → (w : PureValue) × (value v t ≡ Some w)) → AreSame v (term_at bs x) (value_of (under v bs) x)
stands_at v [] x each = tt
stands_at v (b ∷ bs) x each = by (stands_at v bs x) (bytes_eq b.name x) each
  where
    by : (((t : PureTerm) → term_at bs x ≡ Some t → (w : PureValue) × (value v t ≡ Some w)) → AreSame v (term_at bs x) (value_of (under v bs) x)) → (c : Bool) → ((t : PureTerm) → cond c (Some b.term) (term_at bs x) ≡ Some t → (w : PureValue) × (value v t ≡ Some w))
        → AreSame v (cond c (Some b.term) (term_at bs x)) (cond c (Some (value_or (value v b.term))) (value_of (under v bs) x))
    by later true has = let (w, is) = has b.term refl in is ∙ ap Some (ap value_or (sym is))
    by later false has = later has

-- a valuation and a store of values for a plain store
pub some_values : (vars : List Sort) (b : ℕ) (bs : PureStore) → IsPlainOver vars b bs → (v : List PureValue) × ((s : Store) × Serves vars v bs s)
some_values vars b bs plain =
    let (v, proper) = some_proper vars in (
      v,
      (
        under v bs,
        record {
          proper = proper;
          over = plain.over;
          stands = λ x. stands_at v bs x (λ t at. simple_terms_have_values vars v t proper (plain.over x t at) (plain_parts t (plain.plain x t at).0).0);
        },
      ),
    )
