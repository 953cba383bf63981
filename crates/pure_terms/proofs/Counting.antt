-- How many different numbers stand in a list: as many as there are numbers below a bound that stand in it.
use Rattle.std.proofs.Common.{◌≡◌, ⊎_elim, ℕ, zero, suc, ◌+◌, ◌<◌, ◌≤◌, List, [], ◌∷◌, Bool, true, false, ◌||◌, not, if◌then◌else◌, eqb, refl, sym, ap, ◌∙◌, arith}
use Rattle.std.specs.List.{list_any}
use Rattle.std.proofs.lemmas.Bool.{cases_eq, eq-eqb, ne_eqb, eqb-true, false≢true, or_cases, or_right}
use Rattle.pure_terms.specs.Fragment.{different}

-- whether a number stands in a list
abbrev pub stands_in : ℕ → List ℕ → Bool
stands_in n ns = list_any (eqb n) ns

abbrev pub one_if : Bool → ℕ
one_if true = 1
one_if false = 0

-- how many numbers below a bound stand in a list
abbrev pub standing_below : ℕ → List ℕ → ℕ
standing_below zero ns = 0
standing_below (suc m) ns = one_if (stands_in m ns) + standing_below m ns

abbrev pub AreBelow : ℕ → List ℕ → Type 0
AreBelow m ns = (n : ℕ) → stands_in n ns ≡ true → n < m

bounded : (b : Bool) (m n : ℕ) → n ≤ m → one_if b + n ≤ suc m
bounded true m n h = omega (arith, h)
bounded false m n h = omega (arith, h)

pub standing_below-bound : (m : ℕ) (ns : List ℕ) → standing_below m ns ≤ m
standing_below-bound zero ns = omega arith
standing_below-bound (suc m) ns = bounded (stands_in m ns) m (standing_below m ns) (standing_below-bound m ns)

standing_below-nil : (m : ℕ) → standing_below m [] ≡ 0
standing_below-nil zero = refl
standing_below-nil (suc m) = omega (arith, standing_below-nil m)

-- ---- one more number in front

-- it changes nothing below itself
unchanged : (m n : ℕ) (ns : List ℕ) → m ≤ n → standing_below m (n ∷ ns) ≡ standing_below m ns
unchanged zero n ns le = refl
unchanged (suc m) n ns le =
    let differ : eqb m n ≡ false = ne_eqb m n (λ e. omega (arith, e, le)) in
    let rest : standing_below m (n ∷ ns) ≡ standing_below m ns = unchanged m n ns (omega (arith, le)) in
    λ i. one_if (differ i || stands_in m ns) + rest i

counted : (b : Bool) (s : ℕ) → 1 + s ≡ one_if (not b) + (one_if b + s)
counted true s = omega arith
counted false s = omega arith

moved : (a b s t : ℕ) → s ≡ a + t → b + s ≡ a + (b + t)
moved a b s t e = omega (arith, e)

-- what one more number in front adds below m
abbrev AddsOne : ℕ → ℕ → List ℕ → Type 0
AddsOne m n ns = standing_below m (n ∷ ns) ≡ one_if (not (stands_in n ns)) + standing_below m ns

at_itself : (m n : ℕ) (ns : List ℕ) → m ≡ n → AddsOne (suc m) n ns
at_itself m n ns e =
    let same : eqb m n ≡ true = eq-eqb m n e in
    let rest : standing_below m (n ∷ ns) ≡ standing_below m ns = unchanged m n ns (omega (arith, e)) in
    (λ i. one_if (same i || stands_in m ns) + rest i)
    ∙ counted (stands_in m ns) (standing_below m ns)
    ∙ ap (λ k. one_if (not (stands_in k ns)) + (one_if (stands_in m ns) + standing_below m ns)) e

past_itself : (m n : ℕ) (ns : List ℕ) → (m ≡ n → ⊥) → AddsOne m n ns → AddsOne (suc m) n ns
past_itself m n ns differ before =
    let other : eqb m n ≡ false = ne_eqb m n differ in
    (λ i. one_if (other i || stands_in m ns) + standing_below m (n ∷ ns))
    ∙ moved (one_if (not (stands_in n ns))) (one_if (stands_in m ns)) (standing_below m (n ∷ ns)) (standing_below m ns) before

-- it counts once, unless it stands in the rest
one_more : (m n : ℕ) (ns : List ℕ) → n < m → AddsOne m n ns
one_more zero n ns below = absurd (omega (arith, below))
one_more (suc m) n ns below =
    ⊎_elim (at_itself m n ns)
    (λ differ. past_itself m n ns differ (one_more m n ns (omega (arith, below, differ))))
    (cases_eq m n)

choose : (b : Bool) (d s : ℕ) → d ≡ s → (if b then d else suc d) ≡ one_if (not b) + s
choose true d s e = omega (arith, e)
choose false d s e = omega (arith, e)

pub different-standing : (m : ℕ) (ns : List ℕ) → AreBelow m ns → different ns ≡ standing_below m ns
different-standing m [] below = sym (standing_below-nil m)
different-standing m (n ∷ ns) below =
    let here : stands_in n (n ∷ ns) ≡ true = ap (λ b. b || stands_in n ns) (eq-eqb n n refl) in
    let rest : different ns ≡ standing_below m ns = different-standing m ns (λ k is. below k (or_right (eqb k n) (stands_in k ns) is)) in
    choose (stands_in n ns) (different ns) (standing_below m ns) rest ∙ sym (one_more m n ns (below n here))

-- ---- lists within lists

abbrev pub AreAmong : List ℕ → List ℕ → Type 0
AreAmong ms ns = (n : ℕ) → stands_in n ms ≡ true → stands_in n ns ≡ true

fewer : (b c : Bool) (s t : ℕ) → (b ≡ true → c ≡ true) → s ≤ t → one_if b + s ≤ one_if c + t
fewer true true s t h le = omega (arith, le)
fewer true false s t h le = absurd (false≢true (h refl))
fewer false c s t h le = omega (arith, le)

standing_below-among : (m : ℕ) (ms ns : List ℕ) → AreAmong ms ns → standing_below m ms ≤ standing_below m ns
standing_below-among zero ms ns among = omega arith
standing_below-among (suc m) ms ns among = fewer (stands_in m ms) (stands_in m ns) _ _ (among m) (standing_below-among m ms ns among)

-- a number above all of a list
above_all : List ℕ → ℕ
above_all [] = 0
above_all (n ∷ ns) = suc n + above_all ns

above_all-above : (ns : List ℕ) → AreBelow (above_all ns) ns
unfolding above_all
above_all-above [] k is = absurd (false≢true is)
above_all-above (n ∷ ns) k is =
    ⊎_elim (λ same. let e : k ≡ n = eqb-true k n same in omega (arith, e))
    (λ later. let below : k < above_all ns = above_all-above ns k later in omega (arith, below))
    (or_cases (eqb k n) (stands_in k ns) is)

pub different-among : (ms ns : List ℕ) → AreAmong ms ns → different ms ≤ different ns
different-among ms ns among =
    let m = above_all ns in
    let first : different ms ≡ standing_below m ms = different-standing m ms (λ k is. above_all-above ns k (among k is)) in
    let second : different ns ≡ standing_below m ns = different-standing m ns (above_all-above ns) in
    let le : standing_below m ms ≤ standing_below m ns = standing_below-among m ms ns among in
    omega (arith, first, second, le)

-- numbers below a bound are no more than the bound
pub different-bound : (m : ℕ) (ns : List ℕ) → AreBelow m ns → different ns ≤ m
different-bound m ns below = omega (arith, different-standing m ns below, standing_below-bound m ns)
