-- A valuation whose symbols are given their places among those that no fresh variable has, and after them those of the fresh variables, is
-- numbered.
use Rattle.std.proofs.Common.{◌≡◌, ⊎_elim, ℕ, zero, suc, ◌<◌, ◌≤◌, [], ◌∷◌, ◌&&◌, pos, neg_ℤ, ◌^◌, List, ◌++◌, map, length, slice_get, Some, refl, sym, ap, subst, ◌∙◌, arith}
use Rattle.std.specs.List.{Contains}
use Rattle.std.proofs.lemmas.List.{length-map}
use Rattle.std.proofs.lemmas.List.Elements.{Contains-append_left, Contains-append_right}
use Rattle.gil_values.specs.Pure.{PureValue}
use Rattle.gil_values.specs.Symbols.{symbols_of_all, OccursAmong}
use Rattle.pure_terms.specs.declared.variables.Sort.{Sort}
use Rattle.pure_terms.specs.Meaning.{all_true, IsProper}
use Rattle.pure_terms.specs.Pure.{PureAtom}
use Rattle.pure_terms.specs.Renaming.{renamed, IsOneToOneOn}
use Rattle.pure_terms.proofs.Renamed.{renaming_keeps}
use Rattle.sym_witness.specs.Numbering.{fresh_symbols, numbers_from, place_in, AreOthers, IsNumbered}
use Rattle.sym_witness.proofs.Fresh.{fresh_renamed, fresh_differ}
use Rattle.gil_values.proofs.OperatorSymbols.{none_contained}
use Rattle.sym_witness.proofs.Places.{cons_cases, contains_mapped, unmapped, one_place, early_place, own_place, got_at, places_after}
use Rattle.sym_witness.proofs.SymbolLaws.{of_all_renamed, same_moderate}

some_at : (xs : List ℕ) (n : ℕ) → n < length xs → (m : ℕ) × (slice_get xs n ≡ Some m)
some_at [] n within = absurd (omega (arith, within))
some_at (x ∷ xs) zero within = (x, refl)
some_at (x ∷ xs) (suc n) within = some_at xs n (omega (arith, within))

module _ (vars : List Sort) (v : List PureValue) (free : List ℕ) (proper : IsProper vars v) (are : AreOthers (symbols_of_all v) (fresh_symbols vars v) free) where
  abbrev f : ℕ → ℕ
  f = place_in (free ++ fresh_symbols vars v)

  abbrev w : List PureValue
  w = map (renamed f) v

  named : (n : ℕ) → OccursAmong n v → Contains (free ++ fresh_symbols vars v) n
  named n occurs = ⊎_elim (Contains-append_left free (fresh_symbols vars v) n) (Contains-append_right free (fresh_symbols vars v) n) (are.all n occurs)

  one_to_one : IsOneToOneOn (symbols_of_all v) f
  one_to_one m n first second same = one_place (free ++ fresh_symbols vars v) m n (named m first) (named n second) same

  fresh_are : fresh_symbols vars w ≡ map f (fresh_symbols vars v)
  fresh_are = fresh_renamed f vars v

  fresh_from : fresh_symbols vars w ≡ numbers_from (length free) (length (fresh_symbols vars v))
  fresh_from = fresh_are ∙ places_after free (fresh_symbols vars v) (λ n has there. are.apart n there has) (fresh_differ vars v proper)

  follow : fresh_symbols vars w ≡ numbers_from (length free) (length (fresh_symbols vars w))
  follow = fresh_from ∙ ap (numbers_from (length free)) (sym (ap length fresh_are ∙ length-map (fresh_symbols vars v) f))

  below : (n : ℕ) → OccursAmong n w → ¬ Contains (fresh_symbols vars w) n → n < length free
  below n occurs other =
      let (m, (there, is)) = unmapped f (symbols_of_all v) n (subst (λ ns. Contains ns n) (of_all_renamed f v) occurs) in
      ⊎_elim
      (λ (has : Contains free m). subst (λ k. k < length free) is (early_place free (fresh_symbols vars v) m has))
      (λ (has : Contains (fresh_symbols vars v) m). absurd (other (subst (λ ns. Contains ns n) (sym fresh_are) (subst (Contains (map f (fresh_symbols vars v))) is (contains_mapped f (fresh_symbols vars v) m has)))))
      (are.all m there)

  from_or_more : (k n from : ℕ) → Contains (numbers_from from k) n → from ≤ n
  from_or_more zero n from has = absurd (none_contained n has)
  from_or_more (suc k) n from has =
      ⊎_elim (λ (same : from ≡ n). omega (arith, same)) (λ later. let more : suc from ≤ n = from_or_more k n (suc from) later in omega (arith, more)) (cons_cases from (numbers_from (suc from) k) n has)

  each : (n : ℕ) → n < length free → OccursAmong n w × ¬ Contains (fresh_symbols vars w) n
  each n less =
      let (m, at) = some_at free n less in
      let has : Contains free m = got_at free n m at in
      let is : f m ≡ n = own_place free (fresh_symbols vars v) n m are.different at in (
        subst (λ ns. Contains ns n) (sym (of_all_renamed f v)) (subst (Contains (map f (symbols_of_all v))) is (contains_mapped f (symbols_of_all v) m (are.among m has))),
        (λ there. let more : length free ≤ n = from_or_more (length (fresh_symbols vars v)) n (length free) (subst (λ ns. Contains ns n) fresh_from there) in absurd (omega (arith, less, more))),
      )

  all_kept : (atoms : List PureAtom) → all_true w atoms ≡ all_true v atoms
  all_kept [] = refl
  all_kept (a ∷ atoms) = λ i. renaming_keeps.truths f v a one_to_one i && all_kept atoms i

  pub is_numbered : IsNumbered vars (length free) v w
  is_numbered = record {
    names = f;
    one_to_one = one_to_one;
    same_but_for_names = refl;
    fresh_follow = follow;
    others_below = below;
    each_below = each;
    meets = λ atoms sat. record { proper = renaming_keeps.proper f vars v one_to_one sat.proper; true_there = all_kept atoms ∙ sat.true_there };
    moderate = λ all. same_moderate f (neg_ℤ (pos (2 ^ 125))) (pos (2 ^ 125)) v ∙ all;
  }
