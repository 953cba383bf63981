-- Steps of the checker.
use Rattle.std.proofs.Common.{◌≡◌, ℕ, zero, suc, ◌+◌, ◌≤◌, List, [], ◌∷◌, ◌++◌, take, length, slice_get, Bool, true, false, not, IsTrue, nat_eq, Option, Some, refl, sym, ap, ◌∙◌, subst, add-one, arith, ◌↔◌}
use Rattle.std.specs.Option.{IsSomeAnd}
use Rattle.std.proofs.lemmas.List.{take_all}
use Rattle.pure_terms.specs.declared.variables.Sort.{Sort}
use Rattle.pure_terms.specs.Pure.{PureTerm, from_list, PureAtom}
use Rattle.solver_proof.specs.Closing.{Closes, CloseEach, Lists, HaveOneLength}
use Rattle.solver_proof.specs.Pure.{PureProof, PureProofs, proof_and}
use Rattle.solver_proof.specs.Pure as proofs
use Rattle.solver_proof.proofs.Growing.{one_length, lengths_of}

pub never : {X : Type 0} → ¬ X → IsTrue false ↔ X
never nothing = ((λ told. absurd (false-true told)), (λ x. absurd (nothing x))) where
  false-true : IsTrue false → ⊥
  false-true told = cc

pub always : {X : Type 0} → X → IsTrue true ↔ X
always x = ((λ _. x), (λ _. refl))

pub fails : {X : Type 0} (b : Bool) → b ≡ false → IsTrue b ↔ X → ¬ X
fails b is decides x = let told : b ≡ true = decides.1 x in cc

pub passes : {X : Type 0} (b : Bool) → b ≡ true → IsTrue b ↔ X → X
passes b is decides = decides.0 is

module _ (vars : List Sort) (atoms : List PureAtom) where
  pub each_length : (more : List PureAtom) (ps : List PureProof) → CloseEach vars atoms more (proofs.from_list ps) → length more ≡ length ps
  each_length [] [] each = refl
  each_length [] (p ∷ ps) each = absurd each
  each_length (a ∷ more) [] each = absurd each
  each_length (a ∷ more) (p ∷ ps) each = ap suc (each_length more ps each.1)

  swapped : (a b : PureAtom) (p q : PureProof) → a ≡ b → p ≡ q → Closes vars (atoms ++ a ∷ []) p → Closes vars (atoms ++ b ∷ []) q
  swapped a b p q same alike closes = subst (λ x. Closes vars (atoms ++ x ∷ []) q) same (subst (Closes vars (atoms ++ a ∷ [])) alike closes)

  pub each_at : (more : List PureAtom) (ps : List PureProof) (i : ℕ) (a : PureAtom) (p : PureProof) → slice_get more i ≡ Some a → slice_get ps i ≡ Some p → CloseEach vars atoms more (proofs.from_list ps) → Closes vars (atoms ++ a ∷ []) p
  each_at [] ps i a p is_a is_p each = cc
  each_at (b ∷ more) [] i a p is_a is_p each = cc
  each_at (b ∷ more) (q ∷ ps) zero a p is_a is_p each =
      let same : b ≡ a = cc in
      let alike : q ≡ p = cc in
      swapped b a q p same alike each.0
  each_at (b ∷ more) (q ∷ ps) (suc i) a p is_a is_p each = each_at more ps i a p is_a is_p each.1

  pub each_more : (more : List PureAtom) (ps : List PureProof) (i : ℕ) (a : PureAtom) (p : PureProof) → slice_get more i ≡ Some a → slice_get ps i ≡ Some p → CloseEach vars atoms (take i more) (proofs.from_list (take i ps)) → Closes vars (atoms ++ a ∷ []) p → CloseEach vars atoms (take (i + 1) more) (proofs.from_list (take (i + 1) ps))
  each_more more ps i a p is_a is_p before closes = rw add-one (at_next more ps i is_a is_p before) where
    at_next : (more : List PureAtom) (ps : List PureProof) (i : ℕ) → slice_get more i ≡ Some a → slice_get ps i ≡ Some p → CloseEach vars atoms (take i more) (proofs.from_list (take i ps)) → CloseEach vars atoms (take (suc i) more) (proofs.from_list (take (suc i) ps))
    at_next [] ps i is_a is_p before = cc
    at_next (b ∷ more) [] i is_a is_p before = cc
    at_next (b ∷ more) (q ∷ ps) zero is_a is_p before =
        let same : a ≡ b = cc in
        let alike : p ≡ q = cc in
        (swapped a b p q same alike closes, tt)
    at_next (b ∷ more) (q ∷ ps) (suc i) is_a is_p before = (before.0, at_next more ps i is_a is_p before.1)

  pub each_whole : (more : List PureAtom) (ps : List PureProof) (i : ℕ) → length more ≤ i → length ps ≤ i → CloseEach vars atoms (take i more) (proofs.from_list (take i ps)) → CloseEach vars atoms more (proofs.from_list ps)
  each_whole more ps i past ended before =
      subst (λ xs. CloseEach vars atoms xs (proofs.from_list ps)) (take_all i more past) (subst (λ qs. CloseEach vars atoms (take i more) (proofs.from_list qs)) (take_all i ps ended) before)

-- what is asked of two list terms that an atom names, where that doesn't depend on more than their lengths
module _ (us ws : List PureTerm) (n m : ℕ) (n-is : n ≡ length us) (m-is : m ≡ length ws) (found : Option Lists) (is : Some (record { left = from_list us; right = from_list ws }) ≡ found) where
  pub apart_of : IsTrue (not (nat_eq n m)) ↔ IsSomeAnd found (λ lists. ¬ HaveOneLength lists.left lists.right)
  apart_of = subst (λ f. IsTrue (not (nat_eq n m)) ↔ IsSomeAnd f (λ lists. ¬ HaveOneLength lists.left lists.right)) is (forth, back) where
    forth : IsTrue (not (nat_eq n m)) → ¬ HaveOneLength (from_list us) (from_list ws)
    forth apart same = let lengths : length us ≡ length ws = lengths_of us ws same in absurd (grind (arith, apart, lengths, n-is, m-is))

    back : (¬ HaveOneLength (from_list us) (from_list ws)) → IsTrue (not (nat_eq n m))
    back apart = let others : ¬ (length us ≡ length ws) = (λ same. apart (one_length us ws same)) in grind (arith, others, n-is, m-is)

  pub not_of_lengths : (Rest : Lists → Type 0) → ¬ (n ≡ m) → IsTrue false ↔ IsSomeAnd found (λ lists. HaveOneLength lists.left lists.right × Rest lists)
  not_of_lengths Rest apart = subst (λ f. IsTrue false ↔ IsSomeAnd f (λ lists. HaveOneLength lists.left lists.right × Rest lists)) is (never (λ here. apart (n-is ∙ lengths_of us ws here.0 ∙ sym m-is)))

  pub of_lengths : (Rest : Lists → Type 0) (b : Bool) → n ≡ m → (IsTrue b ↔ Rest (record { left = from_list us; right = from_list ws })) → IsTrue b ↔ IsSomeAnd found (λ lists. HaveOneLength lists.left lists.right × Rest lists)
  of_lengths Rest b same decides = subst (λ f. IsTrue b ↔ IsSomeAnd f (λ lists. HaveOneLength lists.left lists.right × Rest lists)) is ((λ told. (one_length us ws (sym n-is ∙ same ∙ m-is), decides.0 told)), (λ here. decides.1 here.1))
