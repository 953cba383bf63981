-- A program is valid, or one fault is named.
use Rattle.std.proofs.Common.{◌≡◌, ◌⊎◌, inl, inr, ⊎_elim, ℕ, zero, suc, ◌+◌, ◌<◌, ◌≤◌, Bool, true, false, length, take, refl, sym, ap, subst, ◌∙◌, true≢false, arith}
use Rattle.std.proofs.lemmas.Bool.{cases_lt}
use Rattle.std.proofs.lemmas.Option.{slice_get_past}
use Rattle.std.proofs.Math.Nat.{eq-or-lt_of_le}
use Rattle.gil_syntax.specs.declared.validity.InvalidKind.{InvalidKind}
use Rattle.gil_syntax.specs.declared.validity.InvalidKind.TheVariants.{Duplicate, BadLabel, NoEnd, UnknownName, Arity, TooMany, Memory}
use Rattle.gil_syntax.specs.Pure.{PureParts}
use Rattle.gil_syntax.specs.Valid.{items_of, has_fault_if_there, fault_at, IsAtFault, rank, IsNamedFault, IsValid}
use Rattle.gil_syntax.specs.Laws.{ValidOrNamed, NamesOneFault}

kind_with : ℕ → InvalidKind
kind_with zero = Duplicate
kind_with (suc zero) = Duplicate
kind_with (suc (suc zero)) = BadLabel
kind_with (suc (suc (suc zero))) = NoEnd
kind_with (suc (suc (suc (suc zero)))) = UnknownName
kind_with (suc (suc (suc (suc (suc zero))))) = Arity
kind_with (suc (suc (suc (suc (suc (suc zero)))))) = TooMany
kind_with (suc (suc (suc (suc (suc (suc (suc n))))))) = Memory

kind_with-rank : (k : InvalidKind) → kind_with (rank k) ≡ k
unfolding kind_with
kind_with-rank Duplicate = refl
kind_with-rank BadLabel = refl
kind_with-rank NoEnd = refl
kind_with-rank UnknownName = refl
kind_with-rank Arity = refl
kind_with-rank TooMany = refl
kind_with-rank Memory = refl

rank_in_range : (k : InvalidKind) → (1 ≤ rank k) × (rank k ≤ 7)
rank_in_range Duplicate = (omega arith, omega arith)
rank_in_range BadLabel = (omega arith, omega arith)
rank_in_range NoEnd = (omega arith, omega arith)
rank_in_range UnknownName = (omega arith, omega arith)
rank_in_range Arity = (omega arith, omega arith)
rank_in_range TooMany = (omega arith, omega arith)
rank_in_range Memory = (omega arith, omega arith)

same_rank : (k l : InvalidKind) → rank k ≡ rank l → k ≡ l
same_rank k l e = sym (kind_with-rank k) ∙ ap kind_with e ∙ kind_with-rank l

pub names_one_fault : NamesOneFault
names_one_fault p kind other i j a b =
    let below : rank kind ≤ rank other = a.lowest other j b.at_fault in
    let above : rank other ≤ rank kind = b.lowest kind i a.at_fault in
    let same : kind ≡ other = same_rank kind other (omega (arith, below, above)) in
    let first : i ≤ j = a.first j (subst (λ k. IsAtFault p k j) (sym same) b.at_fault) in
    let later : j ≤ i = b.first i (subst (λ k. IsAtFault p k i) same a.at_fault) in
    (same, omega (arith, first, later))

-- the least number that passes a test, if there is one below n
abbrev IsLeast : (ℕ → Bool) → ℕ → Type 0
IsLeast f i = (f i ≡ true) × ((j : ℕ) → f j ≡ true → i ≤ j)

abbrev NoneBelow : (ℕ → Bool) → ℕ → Type 0
NoneBelow f n = (j : ℕ) → j < n → ¬ (f j ≡ true)

at_next : (f : ℕ → Bool) (n : ℕ) (b : Bool) → f n ≡ b → NoneBelow f n → NoneBelow f (suc n) ⊎ ((i : ℕ) × IsLeast f i)
at_next f n true e none = inr (n, (e, λ j is. ⊎_elim (λ lt. absurd (none j lt is)) (λ le. le) (cases_lt j n)))
at_next f n false e none = inl (λ j lt is. ⊎_elim
    (λ same. true≢false (sym is ∙ ap f same ∙ e))
    (λ below. none j below is)
    (eq-or-lt_of_le (let le : j ≤ n = omega (arith, lt) in le)))

least : (f : ℕ → Bool) (n : ℕ) → NoneBelow f n ⊎ ((i : ℕ) × IsLeast f i)
least f zero = inl (λ j lt. absurd (omega (arith, lt)))
least f (suc n) = ⊎_elim (at_next f n (f n) refl) inr (least f n)

module _ (p : PureParts) where
  none_there : (kind : InvalidKind) (i : ℕ) → length (items_of p) ≤ i → fault_at p kind i ≡ false
  none_there kind i past = ap (has_fault_if_there kind p (take i (items_of p))) (slice_get_past (items_of p) i past)

  abbrev HasNone : InvalidKind → Type 0
  HasNone kind = (i : ℕ) → ¬ IsAtFault p kind i

  none_at_all : (kind : InvalidKind) → NoneBelow (fault_at p kind) (length (items_of p)) → HasNone kind
  none_at_all kind none i is = ⊎_elim
      (λ lt. none i lt is)
      (λ past. true≢false (sym is ∙ none_there kind i past))
      (cases_lt i (length (items_of p)))

  named : (kind : InvalidKind) (i : ℕ) → IsLeast (fault_at p kind) i → ((k : InvalidKind) → rank k < rank kind → HasNone k) → IsNamedFault p kind i
  named kind i is lower = record {
    at_fault = is.0;
    lowest = λ k j fault. ⊎_elim (λ lt. absurd (lower k lt j fault)) (λ le. le) (cases_lt (rank k) (rank kind));
    first = λ j fault. is.1 j fault;
  }

  abbrev Answer : Type 0
  Answer = IsValid p ⊎ ((kind : InvalidKind) × ((i : ℕ) × IsNamedFault p kind i))

  rank_back : (r : ℕ) → 1 ≤ r → r ≤ 7 → rank (kind_with r) ≡ r
  unfolding kind_with
  rank_back zero lo hi = absurd (omega (arith, lo))
  rank_back (suc zero) lo hi = refl
  rank_back (suc (suc zero)) lo hi = refl
  rank_back (suc (suc (suc zero))) lo hi = refl
  rank_back (suc (suc (suc (suc zero)))) lo hi = refl
  rank_back (suc (suc (suc (suc (suc zero))))) lo hi = refl
  rank_back (suc (suc (suc (suc (suc (suc zero)))))) lo hi = refl
  rank_back (suc (suc (suc (suc (suc (suc (suc zero))))))) lo hi = refl
  rank_back (suc (suc (suc (suc (suc (suc (suc (suc r)))))))) lo hi = absurd (omega (arith, hi))

  -- of the kinds below r no item is at fault, and those from r on are looked at in turn
  from_kind : (m r : ℕ) → m + r ≡ 8 → 1 ≤ r → ((k : InvalidKind) → rank k < r → HasNone k) → Answer
  from_kind zero r e lo lower = inl (λ k. let hi = (rank_in_range k).1 in lower k (omega (arith, hi, e)))
  from_kind (suc m) r e lo lower =
      let is : rank (kind_with r) ≡ r = rank_back r lo (omega (arith, e)) in
      ⊎_elim
      (λ none. from_kind m (suc r) (omega (arith, e)) (omega arith) (λ k lt. ⊎_elim
      (λ same. subst HasNone (ap kind_with (sym same) ∙ kind_with-rank k) (none_at_all (kind_with r) none))
      (λ below. lower k below)
      (eq-or-lt_of_le (let le : rank k ≤ r = omega (arith, lt) in le))))
      (λ found. inr (kind_with r, (found.0, named (kind_with r) found.0 found.1 (λ k lt. lower k (omega (arith, lt, is))))))
      (least (fault_at p (kind_with r)) (length (items_of p)))

pub valid_or_named : ValidOrNamed
valid_or_named p = from_kind p 7 1 refl (omega arith) (λ k lt. let lo = (rank_in_range k).0 in absurd (omega (arith, lt, lo)))
