-- Laws of the operator table on equality and lists.
use Rattle.std.proofs.Common.{◌≡◌, ◌⊎◌, inl, inr, ℕ, zero, suc, ◌<◌, ◌≤◌, ℤ, pos, negsuc, ◌≤ℤ◌, ◌<ℤ◌, Bool, List, [], ◌∷◌, ◌++◌, length, take, drop, get_or, Option, Some, None, slice_get, Ok, Err, refl, sym, ap, ◌∙◌, arith}
use Rattle.std.proofs.Math.Seq.{split_at}
use Rattle.std.proofs.lemmas.Bool.{false_from_ne_true, false≢true}
use Rattle.std.proofs.lemmas.Int.{ints}
use Rattle.std.proofs.lemmas.List.{length-take-le}
use Rattle.std.proofs.lemmas.Option.{slice_get_within}
use Rattle.gil_values.specs.EqualityLaws.{same_value-Decides}
use Rattle.gil_values.specs.Laws.{EqualTells, AppendJoinsLists, StandsAt, NthCounts, RangeIsOfLists}
use Rattle.gil_values.specs.Operators.{Outcome, element_at, element_or_fault, out_of_range}
use Rattle.gil_values.specs.Pure.{PureValue, boolean, list, from_list, to_list, to_list-from_list}
use Rattle.gil_values.proofs.Lists.{get_or-found}
use Rattle.gil_values.proofs.Rows.{element_at-outside}

-- ---- equality

abbrev truth : Bool → Outcome
truth b = Ok (boolean b)

truth-same : (a b : Bool) → truth a ≡ truth b → a ≡ b
truth-same a b e = cc

pub equal_tells : EqualTells
equal_tells v w =
    let decides = same_value-Decides v w in (
      (λ e. decides.0 (truth-same _ _ e), λ e. ap truth (decides.1 e)),
      (
        λ e same. false≢true (sym (truth-same _ _ e) ∙ decides.1 same),
        λ differ. ap truth (false_from_ne_true _ (λ e. differ (decides.0 e))),
      ),
    )

-- ---- lists

abbrev of_list : List PureValue → Outcome
of_list vs = Ok (list (from_list vs))

of_list-same : (vs ws : List PureValue) → of_list vs ≡ of_list ws → vs ≡ ws
of_list-same vs ws e =
    let same : from_list vs ≡ from_list ws = cc in
    sym (to_list-from_list vs) ∙ ap to_list same ∙ to_list-from_list ws

pub append_joins_lists : AppendJoinsLists
append_joins_lists vs ws us =
    let joined : of_list (to_list (from_list vs) ++ to_list (from_list ws)) ≡ of_list (vs ++ ws) = rw (to_list-from_list vs, to_list-from_list ws) refl in
    (λ e. of_list-same us (vs ++ ws) (sym e ∙ joined), λ e. joined ∙ ap of_list (sym e))

-- the element after those before it
after_front : (front back : List PureValue) (v : PureValue) → slice_get (front ++ v ∷ back) (length front) ≡ Some v
after_front [] back v = refl
after_front (w ∷ front) back v = after_front front back v

found : (o : Option PureValue) (v : PureValue) → element_or_fault o ≡ Ok v → o ≡ Some v
found None v e = absurd (cc)
found (Some w) v e = cc

stands : (vs : List PureValue) (i : ℤ) (v : PureValue) → element_at vs i ≡ Ok v → StandsAt vs i v
stands vs (pos i) v e =
    let here : slice_get vs i ≡ Some v = found (slice_get vs i) v e in
    let within : i < length vs = slice_get_within vs i v here in
    let same : get_or vs i v ≡ v = get_or-found vs i v v here in
    (take i vs, drop (suc i) vs, (split_at vs i v within ∙ ap (λ w. take i vs ++ w ∷ drop (suc i) vs) same, ap pos (sym (length-take-le i vs (omega arith)))))
stands vs (negsuc i) v e = absurd (cc)

found_at : (vs : List PureValue) (i : ℤ) (v : PureValue) → StandsAt vs i v → element_at vs i ≡ Ok v
found_at vs i v (front, back, (whole, place)) = rw (whole, place) (ap element_or_fault (after_front front back v))

pub nth_counts : NthCounts
nth_counts vs i v = (λ e. stands vs i v (ap (λ ws. element_at ws i) (sym (to_list-from_list vs)) ∙ e), λ h. ap (λ ws. element_at ws i) (to_list-from_list vs) ∙ found_at vs i v h)

missing : (o : Option PureValue) → element_or_fault o ≡ Err out_of_range → o ≡ None
missing None e = refl
missing (Some v) e = absurd (cc)

past : (vs : List PureValue) (i : ℕ) → slice_get vs i ≡ None → length vs ≤ i
past [] i e = omega arith
past (v ∷ vs) zero e = absurd (cc)
past (v ∷ vs) (suc i) e = let rest = past vs i e in omega arith

outside : (vs : List PureValue) (i : ℤ) → element_at vs i ≡ Err out_of_range → (i <ℤ pos 0) ⊎ (pos (length vs) ≤ℤ i)
outside vs (pos i) e = let far = past vs i (missing (slice_get vs i) e) in inr (omega (arith, ints))
outside vs (negsuc i) e = inl (omega (arith, ints))

pub range_is_of_lists : RangeIsOfLists
range_is_of_lists vs i = (λ e. outside vs i (ap (λ ws. element_at ws i) (sym (to_list-from_list vs)) ∙ e), λ h. ap (λ ws. element_at ws i) (to_list-from_list vs) ∙ sym (element_at-outside vs i h))
