-- The values of classes are proper and moderate, and differ where they may.
use Rattle.std.proofs.Common.{◌≡◌, ⊎_elim, ◌⊎◌, inl, inr, ℕ, zero, suc, ◌+◌, ◌^◌, ◌<◌, ◌≤◌, ℤ, pos, neg_ℤ, ◌≤ℤ◌, List, [], ◌∷◌, length, true, false, Some, slice_get, refl, sym, ap, ◌∙◌, subst, arith, length-append}
use Rattle.std.specs.Prelude.{int_le}
use Rattle.std.specs.Option.{is_some}
use Rattle.std.proofs.lemmas.Bool.{true≢false, and_parts, and_from}
use Rattle.std.proofs.lemmas.Int.{ints}
use Rattle.std.proofs.lemmas.Option.{option_and_then_some, same_Some}
use Rattle.gil_values.specs.declared.kinds.Kind.{Kind}
use Rattle.gil_values.specs.Pure.{integer}
use Rattle.pure_terms.specs.declared.literals.Literal.{Literal}
use Rattle.pure_terms.specs.declared.variables.Sort.{Sort}
use Rattle.pure_terms.specs.declared.variables.Var.{Var}
use Rattle.pure_terms.specs.Fragment.{has_literals_between, have_literals_between, has_narrow_literals}
use Rattle.pure_terms.specs.Meaning.{literal_value}
use Rattle.pure_terms.specs.Numbers.{is_between}
use Rattle.pure_terms.specs.Pure.{PureTerm, literal, variable, list_of, PureTerms, no_terms, term_and, to_list, PureAtom}
use Rattle.solver_proof.specs.Chains.{Sides, equality_of, is_empty_kind}
use Rattle.equality_core.specs.Equating.{Equates, itself, by_atom, turned, joined, by_elements}
use Rattle.equality_core.specs.Valued.{AreFragmentEqualities, is_small_kind}
use Rattle.equality_core.specs.Values.{letters_of, letters, new_value}
use Rattle.equality_core.proofs.Saying.{SaysEqual, SaysTruth, says}

-- ---- ranges

abbrev pub IsNarrow : PureTerm → Type 0
IsNarrow t = has_literals_between (neg_ℤ (pos (2 ^ 80))) (pos (2 ^ 80)) t ≡ true

tested : (m n : ℤ) → m ≤ℤ n → int_le m n ≡ true
tested m n h = grind (arith, ints)

known : (m n : ℤ) → int_le m n ≡ true → m ≤ℤ n
known m n h = grind (arith, ints)

wider : (a b c d n : ℤ) → c ≤ℤ a → b ≤ℤ d → is_between a b n ≡ true → is_between c d n ≡ true
wider a b c d n low high h =
    let both = and_parts (int_le a n) (int_le n b) h in
    let above : a ≤ℤ n = known a n both.0 in
    let below : n ≤ℤ b = known n b both.1 in
    and_from _ _ (tested c n (omega (arith, ints))) (tested n d (omega (arith, ints)))

pub from_narrow : (n : ℤ) → is_between (neg_ℤ (pos (2 ^ 80))) (pos (2 ^ 80)) n ≡ true → is_between (neg_ℤ (pos (2 ^ 125))) (pos (2 ^ 125)) n ≡ true
from_narrow n h = wider (neg_ℤ (pos (2 ^ 80))) (pos (2 ^ 80)) (neg_ℤ (pos (2 ^ 125))) (pos (2 ^ 125)) n (omega (arith, ints)) (omega (arith, ints)) h

pub from_moderate : (n : ℤ) → is_between (neg_ℤ (pos (2 ^ 124))) (pos (2 ^ 124)) n ≡ true → is_between (neg_ℤ (pos (2 ^ 125))) (pos (2 ^ 125)) n ≡ true
from_moderate n h = wider (neg_ℤ (pos (2 ^ 124))) (pos (2 ^ 124)) (neg_ℤ (pos (2 ^ 125))) (pos (2 ^ 125)) n (omega (arith, ints)) (omega (arith, ints)) h

pub small_between : (k : ℕ) → k < 2 ^ 64 → is_between (neg_ℤ (pos (2 ^ 125))) (pos (2 ^ 125)) (pos k) ≡ true
small_between k h = and_from _ _ (tested (neg_ℤ (pos (2 ^ 125))) (pos k) (omega (arith, ints))) (tested (pos k) (pos (2 ^ 125)) (omega (arith, ints)))

pub new_between : (k : ℕ) → k < 2 ^ 64 → is_between (neg_ℤ (pos (2 ^ 125))) (pos (2 ^ 125)) (pos (2 ^ 124 + 1 + k)) ≡ true
new_between k h = and_from _ _ (tested (neg_ℤ (pos (2 ^ 125))) (pos (2 ^ 124 + 1 + k)) (omega (arith, ints))) (tested (pos (2 ^ 124 + 1 + k)) (pos (2 ^ 125)) (omega (arith, ints)))

narrow_not_new : (k : ℕ) → is_between (neg_ℤ (pos (2 ^ 80))) (pos (2 ^ 80)) (pos (2 ^ 124 + 1 + k)) ≡ true → ⊥
narrow_not_new k h =
    let below : pos (2 ^ 124 + 1 + k) ≤ℤ pos (2 ^ 80) = known (pos (2 ^ 124 + 1 + k)) (pos (2 ^ 80)) (and_parts (int_le (neg_ℤ (pos (2 ^ 80))) (pos (2 ^ 124 + 1 + k))) _ h).1 in
    omega (arith, ints, below)

moderate_not_new : (k : ℕ) → is_between (neg_ℤ (pos (2 ^ 124))) (pos (2 ^ 124)) (pos (2 ^ 124 + 1 + k)) ≡ true → ⊥
moderate_not_new k h =
    let below : pos (2 ^ 124 + 1 + k) ≤ℤ pos (2 ^ 124) = known (pos (2 ^ 124 + 1 + k)) (pos (2 ^ 124)) (and_parts (int_le (neg_ℤ (pos (2 ^ 124))) (pos (2 ^ 124 + 1 + k))) _ h).1 in
    omega (arith, ints, below)

-- ---- new values

pub length-letters : (n : ℕ) → length (letters n) ≡ n
length-letters zero = refl
length-letters (suc n) = length-append (letters n) (97 ∷ []) ∙ ap (λ m. m + 1) (length-letters n) ∙ one_more n where
  one_more : (n : ℕ) → n + 1 ≡ suc n
  one_more n = omega arith

too_long : (long k : ℕ) (cs : List ℕ) → length cs ≤ long → cs ≡ letters (long + 1 + k) → ⊥
too_long long k cs h e =
    let size : length cs ≡ long + 1 + k = ap length e ∙ length-letters (long + 1 + k) in
    omega (arith, h, size)

pub literal_not_new : (long : ℕ) (l : Literal) (k : Kind) (n : ℕ) → IsNarrow (literal l) → letters_of l ≤ long → is_empty_kind k ≡ false → is_small_kind k ≡ false → literal_value l ≡ new_value long k n → ⊥
literal_not_new long (Literal.Int m) Kind.Int n narrow short inhabited large e =
    let is : m ≡ pos (2 ^ 124 + 1 + n) = cc in
    narrow_not_new n (subst (λ z. is_between (neg_ℤ (pos (2 ^ 80))) (pos (2 ^ 80)) z ≡ true) is narrow)
literal_not_new long (Literal.Int m) k n narrow short inhabited large e = cc
literal_not_new long (Literal.Bool b) Kind.Bool n narrow short inhabited large e = true≢false large
literal_not_new long (Literal.Bool b) Kind.Undef n narrow short inhabited large e = true≢false inhabited
literal_not_new long (Literal.Bool b) Kind.Null n narrow short inhabited large e = true≢false inhabited
literal_not_new long (Literal.Bool b) k n narrow short inhabited large e = cc
literal_not_new long (Literal.Str cs) Kind.Str n narrow short inhabited large e = too_long long n cs short cc
literal_not_new long (Literal.Str cs) k n narrow short inhabited large e = cc
literal_not_new long (Literal.Kind m) Kind.Kind n narrow short inhabited large e = true≢false large
literal_not_new long (Literal.Kind m) k n narrow short inhabited large e = cc
literal_not_new long (Literal.Proc name) Kind.Proc n narrow short inhabited large e = too_long long n name short cc
literal_not_new long (Literal.Proc name) k n narrow short inhabited large e = cc

pub number_not_new : (long : ℕ) (m : ℤ) (k : Kind) (n : ℕ) → is_between (neg_ℤ (pos (2 ^ 124))) (pos (2 ^ 124)) m ≡ true → integer m ≡ new_value long k n → ⊥
number_not_new long m Kind.Int n moderate e =
    let is : m ≡ pos (2 ^ 124 + 1 + n) = cc in
    moderate_not_new n (subst (λ z. is_between (neg_ℤ (pos (2 ^ 124))) (pos (2 ^ 124)) z ≡ true) is moderate)
number_not_new long m k n moderate e = cc

pub new_same : (long : ℕ) (k : Kind) (m n : ℕ) → is_empty_kind k ≡ false → is_small_kind k ≡ false → new_value long k m ≡ new_value long k n → m ≡ n
new_same long Kind.Int m n inhabited large e =
    let is : 2 ^ 124 + 1 + m ≡ 2 ^ 124 + 1 + n = cc in
    omega (arith, is)
new_same long Kind.Bool m n inhabited large e = absurd (true≢false large)
new_same long Kind.Str m n inhabited large e =
    let same : letters (long + 1 + m) ≡ letters (long + 1 + n) = cc in
    let sizes : long + 1 + m ≡ long + 1 + n = sym (length-letters (long + 1 + m)) ∙ ap length same ∙ length-letters (long + 1 + n) in
    omega (arith, sizes)
new_same long Kind.Sym m n inhabited large e = cc
new_same long Kind.Kind m n inhabited large e = absurd (true≢false large)
new_same long Kind.Proc m n inhabited large e =
    let same : letters (long + 1 + m) ≡ letters (long + 1 + n) = cc in
    let sizes : long + 1 + m ≡ long + 1 + n = sym (length-letters (long + 1 + m)) ∙ ap length same ∙ length-letters (long + 1 + n) in
    omega (arith, sizes)
new_same long Kind.List m n inhabited large e = cc
new_same long Kind.Undef m n inhabited large e = absurd (true≢false inhabited)
new_same long Kind.Null m n inhabited large e = absurd (true≢false inhabited)

-- ---- literals of equated terms

element_narrow : (ts : PureTerms) (j : ℕ) (s : PureTerm) → have_literals_between (neg_ℤ (pos (2 ^ 80))) (pos (2 ^ 80)) ts ≡ true → slice_get (to_list ts) j ≡ Some s → IsNarrow s
element_narrow no_terms j s all at = cc
element_narrow (term_and t ts) zero s all at = subst IsNarrow (same_Some t s at) (and_parts (has_literals_between (neg_ℤ (pos (2 ^ 80))) (pos (2 ^ 80)) t) _ all).0
element_narrow (term_and t ts) (suc j) s all at = element_narrow ts j s (and_parts (has_literals_between (neg_ℤ (pos (2 ^ 80))) (pos (2 ^ 80)) t) _ all).1 at

abbrev AreNarrow : PureTerm → PureTerm → Type 0
AreNarrow s t = IsNarrow s × IsNarrow t

sides_narrow : (a : PureAtom) (sides : Sides) → equality_of a ≡ Some sides → has_narrow_literals a ≡ true → AreNarrow sides.left sides.right
sides_narrow a sides is narrow = ⊎_elim equal truth_sides (says a sides is) where
  equal : SaysEqual a sides → AreNarrow sides.left sides.right
  equal e = and_parts (has_literals_between (neg_ℤ (pos (2 ^ 80))) (pos (2 ^ 80)) sides.left) (has_literals_between (neg_ℤ (pos (2 ^ 80))) (pos (2 ^ 80)) sides.right) (ap has_narrow_literals (sym e.is) ∙ narrow)

  truth_sides : SaysTruth a sides → AreNarrow sides.left sides.right
  truth_sides e = subst (λ (p : Sides). AreNarrow p.left p.right) (sym e.are) (refl, refl)

same_lists : (ts us : PureTerms) → list_of ts ≡ list_of us → ts ≡ us
same_lists ts us e = cc

module _ (vars : List Sort) (atoms : List PureAtom) (fragment : AreFragmentEqualities vars atoms) where
  pub equated_narrow : (s t : PureTerm) → Equates atoms s t → (s ≡ t) ⊎ AreNarrow s t
  equated_narrow s t itself = inl refl
  equated_narrow s t (by_atom i e) = inr (option_and_then_some equality_of (slice_get atoms i) (record { left = s; right = t }) e (λ a at said. sides_narrow a (record { left = s; right = t }) said (fragment.literals i a at (ap is_some said))))
  equated_narrow s t (turned e) = ⊎_elim (λ same. inl (sym same)) (λ both. inr (both.1, both.0)) (equated_narrow t s e)
  equated_narrow s t (joined {t = u} e f) = along (equated_narrow s u e) (equated_narrow u t f) where
    along : (s ≡ u) ⊎ AreNarrow s u → (u ≡ t) ⊎ AreNarrow u t → (s ≡ t) ⊎ AreNarrow s t
    along (inl a) (inl b) = inl (a ∙ b)
    along (inl a) (inr b) = inr (subst IsNarrow (sym a) b.0, b.1)
    along (inr a) (inl b) = inr (a.0, subst IsNarrow b a.1)
    along (inr a) (inr b) = inr (a.0, b.1)
  equated_narrow s t (by_elements {ts = ts} {us = us} i e at_s at_t) = inside (equated_narrow (list_of ts) (list_of us) e) where
    inside : (list_of ts ≡ list_of us) ⊎ AreNarrow (list_of ts) (list_of us) → (s ≡ t) ⊎ AreNarrow s t
    inside (inl same) = inl (same_Some s t (sym at_s ∙ ap (λ xs. slice_get (to_list xs) i) (same_lists ts us same) ∙ at_t))
    inside (inr both) = inr (element_narrow ts i s both.0 at_s, element_narrow us i t both.1 at_t)

  pub literal_narrow : (x : Var) (l : Literal) → Equates atoms (variable x) (literal l) → IsNarrow (literal l)
  literal_narrow x l e = ⊎_elim (λ same. absurd (other same)) (λ both. both.1) (equated_narrow (variable x) (literal l) e) where
    other : variable x ≡ literal l → ⊥
    other same = cc
