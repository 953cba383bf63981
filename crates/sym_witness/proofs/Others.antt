-- Symbols that no fresh variable has.
use Rattle.std.proofs.Common.{◌≡◌, ◌⊎◌, ⊎_elim, inl, inr, ℕ, List, [], ◌∷◌, ◌++◌, Bool, true, false, ◌||◌, ◌==◌, refl, sym, subst, ◌∙◌, true≢false}
use Rattle.std.specs.List.{Contains, list_any}
use Rattle.std.proofs.lemmas.Bool.{eqb-true, eq-eqb}
use Rattle.std.proofs.lemmas.List.Elements.{Contains-append_left, Contains-push, Contains-push_cases}
use Rattle.gil_values.proofs.OperatorSymbols.{none_contained}
use Rattle.sym_witness.specs.Numbering.{AreDifferent, AreOthers}
use Rattle.sym_witness.proofs.Places.{cons_cases, contains_head, contains_tail}

-- ---- whether a list contains a number

abbrev pub seen : List ℕ → ℕ → Bool
seen ns n = list_any (λ m. m == n) ns

pub seen_there : (ns : List ℕ) (n : ℕ) → seen ns n ≡ true → Contains ns n
seen_there [] n is = absurd (true≢false (sym is))
seen_there (m ∷ ns) n is = by (m == n) refl is (λ k. seen_there ns n k) where
  by : (b : Bool) → (m == n) ≡ b → (b || seen ns n) ≡ true → (seen ns n ≡ true → Contains ns n) → Contains (m ∷ ns) n
  by true same is later = subst (Contains (m ∷ ns)) (eqb-true m n same) (contains_head m ns)
  by false other is later = contains_tail m ns n (later is)

pub not_seen : (ns : List ℕ) (n : ℕ) → seen ns n ≡ false → ¬ Contains ns n
not_seen [] n is has = none_contained n has
not_seen (m ∷ ns) n is has = by (m == n) refl is (λ k. not_seen ns n k) where
  by : (b : Bool) → (m == n) ≡ b → (b || seen ns n) ≡ false → (seen ns n ≡ false → ¬ Contains ns n) → ⊥
  by true same is later = true≢false is
  by false other is later = ⊎_elim (λ same. true≢false (sym (eq-eqb m n same) ∙ other)) (later is) (cons_cases m ns n has)

-- ---- one symbol more

different_more : (ns : List ℕ) (n : ℕ) → AreDifferent ns → ¬ Contains ns n → AreDifferent (ns ++ n ∷ [])
different_more [] n different new = ((λ has. none_contained n has), tt)
different_more (m ∷ ns) n different new = (
  (λ has. ⊎_elim different.0 (λ same. new (subst (Contains (m ∷ ns)) (sym same) (contains_head m ns))) (Contains-push_cases ns n m has)),
  different_more ns n different.1 (λ has. new (contains_tail m ns n has)),
)

module _ (symbols fresh free : List ℕ) (n : ℕ) (so_far : AreOthers symbols fresh free) where
  pub known_more : Contains free n ⊎ Contains fresh n → AreOthers (symbols ++ n ∷ []) fresh free
  known_more known = record {
    different = so_far.different;
    apart = so_far.apart;
    among = λ k has. Contains-append_left symbols (n ∷ []) k (so_far.among k has);
    all = λ k has. ⊎_elim (so_far.all k) (λ same. subst (λ j. Contains free j ⊎ Contains fresh j) same known) (Contains-push_cases symbols n k has);
  }

  pub new_more : ¬ Contains fresh n → ¬ Contains free n → AreOthers (symbols ++ n ∷ []) fresh (free ++ n ∷ [])
  new_more not_fresh new = record {
    different = different_more free n so_far.different new;
    apart = λ k has. ⊎_elim (so_far.apart k) (λ same. subst (λ j. ¬ Contains fresh j) same not_fresh) (Contains-push_cases free n k has);
    among = λ k has. ⊎_elim (λ before. Contains-append_left symbols (n ∷ []) k (so_far.among k before)) (λ same. subst (Contains (symbols ++ n ∷ [])) same (Contains-push symbols n)) (Contains-push_cases free n k has);
    all = λ k has. ⊎_elim
        (λ before. ⊎_elim (λ there. inl (Contains-append_left free (n ∷ []) k there)) inr (so_far.all k before))
        (λ same. inl (subst (Contains (free ++ n ∷ [])) same (Contains-push free n)))
        (Contains-push_cases symbols n k has);
  }

pub none_yet : (fresh : List ℕ) → AreOthers [] fresh []
none_yet fresh = record {
  different = tt;
  apart = λ n has. absurd (none_contained n has);
  among = λ n has. has;
  all = λ n has. absurd (none_contained n has);
}
