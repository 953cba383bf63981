-- What is read as a proof is writable.
use Rattle.std.proofs.Common.{◌≡◌, ℕ, zero, suc, ◌+◌, List, [], ◌∷◌, length, Some, refl, subst, inl, inr}
use Rattle.std.specs.Prelude.{codes}
use Rattle.std.specs.List.{AllByRecursion}
use Rattle.std.proofs.lemmas.Option.{same_Some}
use Rattle.solver_proof.specs.declared.proofs.ChainEnd.{ChainEnd}
use Rattle.solver_proof.specs.declared.proofs.Factor.{Factor}
use Rattle.value_text.specs.Reading.{Reading, ◌>>=◌, behind, behind_or, natural_at, integer_at, bracketed_at}
use Rattle.value_text.proofs.Says.{step, behind_or_says, natural_says, integer_says}
use Rattle.list_text.proofs.ListLaws.{bracketed_says}
use Rattle.expression_text.specs.Reading.{any_expression_at}
use Rattle.expression_text.proofs.ExpressionSays.{only_writable_expressions}
use Rattle.gil_report.specs.Pure as pure
use Rattle.gil_report.specs.Pure.{PureNamedProof, sum_of, chain, cases_of, parts_apart, split_on, from_list}
use Rattle.proof_text.specs.Laws.{OnlyWritableProofs}
use Rattle.proof_text.specs.Reading.{factor_at, factors_at, places_at, sum_at, false_at, not_at, both_at, kinds_at, kind_at, end_at, chain_at, meet_at, branches_at, cases_at, values_at, differ_at, from_elements_at, elements_of, parts_at, split_at, parted_at, worded_at, proof_at}
use Rattle.proof_text.specs.Writable.{IsPlaceOfAtom, IsWritableFactor, IsWritableEnd, IsWritableProof, AreWritableProofs}

abbrev Only : {X : Type 0} → (X → Type 0) → Reading X → Type 0
Only {X = X} P r = (y : X × List ℕ) → r ≡ Some y → P y.0

known : {X : Type 0} (P : X → Type 0) (x : X) (rest : List ℕ) → P x → Only P (Some (x, rest))
known P x rest is y same = subst (λ p. P p.0) (same_Some (x, rest) y same) is

-- ---- leaves

factor_says : (bytes : List ℕ) → Only IsWritableFactor (factor_at bytes)
unfolding factor_at
factor_says bytes y e =
    let a = step (natural_at 64 bytes) _ y e in
    let b = step (behind (codes ":") a.first.1) _ y a.then_read in
    let c = step (integer_at b.first) _ y b.then_read in
    known IsWritableFactor (record { atom = a.first.0; factor = c.first.0 }) c.first.1 (natural_says 64 bytes a.first a.read, integer_says b.first c.first c.read) y c.then_read

sum_says : (bytes : List ℕ) → Only IsWritableProof (sum_at bytes)
unfolding sum_at
sum_says bytes y e =
    let a = step (factors_at bytes) _ y e in
    known IsWritableProof (sum_of a.first.0) a.first.1 (bracketed_says factor_at IsWritableFactor factor_says bytes a.first a.read) y a.then_read

false_says : (bytes : List ℕ) → Only IsWritableProof (false_at bytes)
unfolding false_at
false_says bytes y e =
    let a = step (natural_at 64 bytes) _ y e in known IsWritableProof (pure.false_at a.first.0) a.first.1 (natural_says 64 bytes a.first a.read) y a.then_read

not_says : (bytes : List ℕ) → Only IsWritableEnd (not_at bytes)
unfolding not_at
not_says bytes y e =
    let a = step (natural_at 64 bytes) _ y e in known IsWritableEnd (ChainEnd.Not a.first.0) a.first.1 (natural_says 64 bytes a.first a.read) y a.then_read

both_says : (n : ℕ) (bytes : List ℕ) → IsPlaceOfAtom n → Only IsWritableEnd (both_at n bytes)
unfolding both_at
both_says n bytes is y e =
    let a = step (natural_at 64 bytes) _ y e in
    known IsWritableEnd (ChainEnd.BothKinds n a.first.0) a.first.1 (is, natural_says 64 bytes a.first a.read) y a.then_read

kinds_say : (n : ℕ) (bytes : List ℕ) → IsPlaceOfAtom n → Only IsWritableEnd (kinds_at n bytes)
kinds_say n bytes small y e = elim (behind_or_says {X = ChainEnd} (behind (codes " ") bytes) (both_at n) (Some (ChainEnd.Kind n, bytes)) y e) [
  | inl (rest, is) ↦ both_says n rest small y is
  | inr is ↦ known IsWritableEnd (ChainEnd.Kind n) bytes small y is
]

kind_says : (bytes : List ℕ) → Only IsWritableEnd (kind_at bytes)
unfolding kind_at
kind_says bytes y e =
    let a = step (natural_at 64 bytes) _ y e in kinds_say a.first.0 a.first.1 (natural_says 64 bytes a.first a.read) y a.then_read

abbrev after_fresh : List ℕ → Reading ChainEnd
after_fresh bytes = behind_or (behind (codes "not ") bytes) not_at (behind (codes "kind ") bytes >>= kind_at)

abbrev after_kinds : List ℕ → Reading ChainEnd
after_kinds bytes = behind_or (behind (codes "fresh") bytes) (λ rest. Some (ChainEnd.Fresh, rest)) (after_fresh bytes)

abbrev after_literals : List ℕ → Reading ChainEnd
after_literals bytes = behind_or (behind (codes "kinds") bytes) (λ rest. Some (ChainEnd.Kinds, rest)) (after_kinds bytes)

end_says : (bytes : List ℕ) → Only IsWritableEnd (end_at bytes)
end_says bytes y e =
    elim (behind_or_says {X = ChainEnd} (behind (codes "literals") bytes) (λ rest. Some (ChainEnd.Literals, rest)) (after_literals bytes) y e) [
      | inl (rest, is) ↦ known IsWritableEnd ChainEnd.Literals rest tt y is
      | inr e1 ↦ elim (behind_or_says {X = ChainEnd} (behind (codes "kinds") bytes) (λ rest. Some (ChainEnd.Kinds, rest)) (after_kinds bytes) y e1) [
        | inl (rest, is) ↦ known IsWritableEnd ChainEnd.Kinds rest tt y is
        | inr e2 ↦ elim (behind_or_says {X = ChainEnd} (behind (codes "fresh") bytes) (λ rest. Some (ChainEnd.Fresh, rest)) (after_fresh bytes) y e2) [
          | inl (rest, is) ↦ known IsWritableEnd ChainEnd.Fresh rest tt y is
          | inr e3 ↦ elim (behind_or_says {X = ChainEnd} (behind (codes "not ") bytes) not_at (behind (codes "kind ") bytes >>= kind_at) y e3) [
            | inl (rest, is) ↦ not_says rest y is
            | inr e4 ↦ let a = step (behind (codes "kind ") bytes) kind_at y e4 in kind_says a.first y a.then_read
          ]
        ]
      ]
    ]

chain_says : (bytes : List ℕ) → Only IsWritableProof (chain_at bytes)
unfolding chain_at
chain_says bytes y e =
    let a = step (places_at bytes) _ y e in
    let b = step (behind (codes " ") a.first.1) _ y a.then_read in
    let c = step (end_at b.first) _ y b.then_read in
    known IsWritableProof (chain a.first.0 c.first.0) c.first.1
    (bracketed_says (natural_at 64) IsPlaceOfAtom (natural_says 64) bytes a.first a.read, end_says b.first c.first c.read) y c.then_read

meet_says : (bytes : List ℕ) → Only IsWritableProof (meet_at bytes)
unfolding meet_at
meet_says bytes y e =
    let a = step (natural_at 64 bytes) _ y e in
    let b = step (behind (codes " ") a.first.1) _ y a.then_read in
    let c = step (natural_at 64 b.first) _ y b.then_read in
    let d = step (behind (codes " ") c.first.1) _ y c.then_read in
    let f = step (natural_at 64 d.first) _ y d.then_read in
    known IsWritableProof (pure.meet_at a.first.0 c.first.0 f.first.0) f.first.1
    (natural_says 64 bytes a.first a.read, natural_says 64 b.first c.first c.read, natural_says 64 d.first f.first f.read) y f.then_read

-- ---- proofs with parts

are_writable : (ps : List PureNamedProof) → AllByRecursion IsWritableProof ps → AreWritableProofs (from_list ps)
are_writable [] all = tt
are_writable (p ∷ ps) all = (all.0, are_writable ps all.1)

module _ (read : List ℕ → Reading PureNamedProof) (each : (bytes : List ℕ) → Only IsWritableProof (read bytes)) where
  branches_say : (bytes : List ℕ) → Only (AllByRecursion IsWritableProof) (branches_at read bytes)
  unfolding branches_at
  branches_say bytes y e =
      let a = step (behind (codes " ") bytes) _ y e in bracketed_says read IsWritableProof each a.first y a.then_read

  cases_say : (bytes : List ℕ) → Only IsWritableProof (cases_at read bytes)
  unfolding cases_at
  cases_say bytes y e =
      let a = step (any_expression_at bytes) _ y e in
      let b = step (branches_at read a.first.1) _ y a.then_read in
      known IsWritableProof (cases_of a.first.0 (from_list b.first.0)) b.first.1
      (only_writable_expressions bytes a.first.0 a.first.1 a.read, are_writable b.first.0 (branches_say a.first.1 b.first b.read)) y b.then_read

  values_say : (bytes : List ℕ) → Only IsWritableProof (values_at read bytes)
  unfolding values_at
  values_say bytes y e =
      let a = step (natural_at 64 bytes) _ y e in
      let b = step (branches_at read a.first.1) _ y a.then_read in
      known IsWritableProof (pure.values_at a.first.0 (from_list b.first.0)) b.first.1
      (natural_says 64 bytes a.first a.read, are_writable b.first.0 (branches_say a.first.1 b.first b.read)) y b.then_read

  differ_says : (bytes : List ℕ) → Only IsWritableProof (differ_at read bytes)
  unfolding differ_at
  differ_says bytes y e =
      let a = step (natural_at 64 bytes) _ y e in
      let b = step (branches_at read a.first.1) _ y a.then_read in
      known IsWritableProof (pure.differ_at a.first.0 (from_list b.first.0)) b.first.1
      (natural_says 64 bytes a.first a.read, are_writable b.first.0 (branches_say a.first.1 b.first b.read)) y b.then_read

  from_elements_say : (n : ℕ) (bytes : List ℕ) → IsPlaceOfAtom n → Only IsWritableProof (from_elements_at read n bytes)
  unfolding from_elements_at
  from_elements_say n bytes small y e =
      let a = step (read bytes) _ y e in known IsWritableProof (pure.parts_at n a.first.0) a.first.1 (small, each bytes a.first a.read) y a.then_read

  elements_say : (n : ℕ) (bytes : List ℕ) → IsPlaceOfAtom n → Only IsWritableProof (elements_of read n bytes)
  elements_say n bytes small y e =
      elim (behind_or_says {X = PureNamedProof} (behind (codes " ") bytes) (from_elements_at read n) (Some (parts_apart n, bytes)) y e) [
        | inl (rest, is) ↦ from_elements_say n rest small y is
        | inr is ↦ known IsWritableProof (parts_apart n) bytes small y is
      ]

  parts_say : (bytes : List ℕ) → Only IsWritableProof (parts_at read bytes)
  unfolding parts_at
  parts_say bytes y e =
      let a = step (natural_at 64 bytes) _ y e in elements_say a.first.0 a.first.1 (natural_says 64 bytes a.first a.read) y a.then_read

  split_says : (bytes : List ℕ) → Only IsWritableProof (split_at read bytes)
  unfolding split_at
  split_says bytes y e =
      let a = step (any_expression_at bytes) _ y e in
      let b = step (behind (codes " (") a.first.1) _ y a.then_read in
      let c = step (read b.first) _ y b.then_read in
      let d = step (behind (codes ") (") c.first.1) _ y c.then_read in
      let f = step (read d.first) _ y d.then_read in
      let g = step (behind (codes ")") f.first.1) _ y f.then_read in
      known IsWritableProof (split_on a.first.0 c.first.0 f.first.0) g.first
      (only_writable_expressions bytes a.first.0 a.first.1 a.read, each b.first c.first c.read, each d.first f.first f.read) y g.then_read

  abbrev after_parts : List ℕ → Reading PureNamedProof
  after_parts bytes = behind_or (behind (codes "differ ") bytes) (differ_at read) (behind (codes "split ") bytes >>= split_at read)

  abbrev after_values : List ℕ → Reading PureNamedProof
  after_values bytes = behind_or (behind (codes "parts ") bytes) (parts_at read) (after_parts bytes)

  abbrev after_cases : List ℕ → Reading PureNamedProof
  after_cases bytes = behind_or (behind (codes "values ") bytes) (values_at read) (after_values bytes)

  parted_says : (bytes : List ℕ) → Only IsWritableProof (parted_at read bytes)
  parted_says bytes y e = elim (behind_or_says {X = PureNamedProof} (behind (codes "cases ") bytes) (cases_at read) (after_cases bytes) y e) [
    | inl (rest, is) ↦ cases_say rest y is
    | inr e1 ↦ elim (behind_or_says {X = PureNamedProof} (behind (codes "values ") bytes) (values_at read) (after_values bytes) y e1) [
      | inl (rest, is) ↦ values_say rest y is
      | inr e2 ↦ elim (behind_or_says {X = PureNamedProof} (behind (codes "parts ") bytes) (parts_at read) (after_parts bytes) y e2) [
        | inl (rest, is) ↦ parts_say rest y is
        | inr e3 ↦ elim (behind_or_says {X = PureNamedProof} (behind (codes "differ ") bytes) (differ_at read) (behind (codes "split ") bytes >>= split_at read) y e3) [
          | inl (rest, is) ↦ differ_says rest y is
          | inr e4 ↦ let a = step (behind (codes "split ") bytes) (split_at read) y e4 in split_says a.first y a.then_read
        ]
      ]
    ]
  ]

  abbrev after_chain : List ℕ → Reading PureNamedProof
  after_chain bytes = behind_or (behind (codes "meet ") bytes) meet_at (parted_at read bytes)

  abbrev after_false : List ℕ → Reading PureNamedProof
  after_false bytes = behind_or (behind (codes "chain ") bytes) chain_at (after_chain bytes)

  abbrev after_sum : List ℕ → Reading PureNamedProof
  after_sum bytes = behind_or (behind (codes "false ") bytes) false_at (after_false bytes)

  worded_says : (bytes : List ℕ) → Only IsWritableProof (worded_at read bytes)
  worded_says bytes y e = elim (behind_or_says {X = PureNamedProof} (behind (codes "sum ") bytes) sum_at (after_sum bytes) y e) [
    | inl (rest, is) ↦ sum_says rest y is
    | inr e1 ↦ elim (behind_or_says {X = PureNamedProof} (behind (codes "false ") bytes) false_at (after_false bytes) y e1) [
      | inl (rest, is) ↦ false_says rest y is
      | inr e2 ↦ elim (behind_or_says {X = PureNamedProof} (behind (codes "chain ") bytes) chain_at (after_chain bytes) y e2) [
        | inl (rest, is) ↦ chain_says rest y is
        | inr e3 ↦ elim (behind_or_says {X = PureNamedProof} (behind (codes "meet ") bytes) meet_at (parted_at read bytes) y e3) [
          | inl (rest, is) ↦ meet_says rest y is
          | inr is ↦ parted_says bytes y is
        ]
      ]
    ]
  ]

proof_says : (n : ℕ) (bytes : List ℕ) → Only IsWritableProof (proof_at n bytes)
unfolding proof_at
proof_says zero bytes y e = absurd (cc e)
proof_says (suc n) bytes y e = worded_says (proof_at n) (proof_says n) bytes y e

pub only_writable_proofs : OnlyWritableProofs
only_writable_proofs bytes p rest is = proof_says (length bytes + 1) bytes (p, rest) is
