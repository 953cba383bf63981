-- Reading proofs from the front of bytes, as functions: what the readers answer.
use Rattle.std.specs.Prelude.{ℕ, zero, suc, ◌+◌, List, length, Some, None, codes}
use Rattle.solver_proof.specs.declared.proofs.ChainEnd.{ChainEnd}
use Rattle.solver_proof.specs.declared.proofs.Factor.{Factor}
use Rattle.value_text.specs.Reading.{Reading, ◌>>=◌, behind, behind_or, natural_at, integer_at, bracketed_at}
use Rattle.expression_text.specs.Reading.{any_expression_at}
use Rattle.gil_report.specs.Pure as pure
use Rattle.gil_report.specs.Pure.{PureNamedProof, from_list}

-- ---- leaves, behind their first words

-- `2:-1`
unfoldable pub factor_at : List ℕ → Reading Factor
factor_at bytes = do
  n ← natural_at 64 bytes
  after ← behind (codes ":") n.1
  z ← integer_at after
  Some (record { atom = n.0; factor = z.0 }, z.1)

abbrev pub factors_at : List ℕ → Reading (List Factor)
factors_at bytes = bracketed_at factor_at bytes

abbrev pub places_at : List ℕ → Reading (List ℕ)
places_at bytes = bracketed_at (natural_at 64) bytes

unfoldable pub sum_at : List ℕ → Reading PureNamedProof
sum_at bytes = factors_at bytes >>= λ fs. Some (pure.sum_of fs.0, fs.1)

unfoldable pub false_at : List ℕ → Reading PureNamedProof
false_at bytes = natural_at 64 bytes >>= λ n. Some (pure.false_at n.0, n.1)

unfoldable pub not_at : List ℕ → Reading ChainEnd
not_at bytes = natural_at 64 bytes >>= λ n. Some (ChainEnd.Not n.0, n.1)

unfoldable pub both_at : ℕ → List ℕ → Reading ChainEnd
both_at i bytes = natural_at 64 bytes >>= λ n. Some (ChainEnd.BothKinds i n.0, n.1)

abbrev pub kinds_at : ℕ → List ℕ → Reading ChainEnd
kinds_at i bytes = behind_or (behind (codes " ") bytes) (both_at i) (Some (ChainEnd.Kind i, bytes))

unfoldable pub kind_at : List ℕ → Reading ChainEnd
kind_at bytes = natural_at 64 bytes >>= λ n. kinds_at n.0 n.1

abbrev pub end_at : List ℕ → Reading ChainEnd
end_at bytes =
    behind_or (behind (codes "literals") bytes) (λ rest. Some (ChainEnd.Literals, rest))
    (behind_or (behind (codes "kinds") bytes) (λ rest. Some (ChainEnd.Kinds, rest))
    (behind_or (behind (codes "fresh") bytes) (λ rest. Some (ChainEnd.Fresh, rest))
    (behind_or (behind (codes "not ") bytes) not_at
    (behind (codes "kind ") bytes >>= kind_at))))

unfoldable pub chain_at : List ℕ → Reading PureNamedProof
chain_at bytes = do
  places ← places_at bytes
  after ← behind (codes " ") places.1
  end ← end_at after
  Some (pure.chain places.0 end.0, end.1)

unfoldable pub meet_at : List ℕ → Reading PureNamedProof
meet_at bytes = do
  i ← natural_at 64 bytes
  before_second ← behind (codes " ") i.1
  j ← natural_at 64 before_second
  before_third ← behind (codes " ") j.1
  k ← natural_at 64 before_third
  Some (pure.meet_at i.0 j.0 k.0, k.1)

-- ---- proofs with proofs as parts, behind their first words

module _ (read : List ℕ → Reading PureNamedProof) where
  -- proofs in brackets, behind a blank
  unfoldable pub branches_at : List ℕ → Reading (List PureNamedProof)
  branches_at bytes = behind (codes " ") bytes >>= bracketed_at read

  unfoldable pub cases_at : List ℕ → Reading PureNamedProof
  cases_at bytes = do
    e ← any_expression_at bytes
    ps ← branches_at e.1
    Some (pure.cases_of e.0 (from_list ps.0), ps.1)

  unfoldable pub values_at : List ℕ → Reading PureNamedProof
  values_at bytes = do
    n ← natural_at 64 bytes
    ps ← branches_at n.1
    Some (pure.values_at n.0 (from_list ps.0), ps.1)

  unfoldable pub differ_at : List ℕ → Reading PureNamedProof
  differ_at bytes = do
    n ← natural_at 64 bytes
    ps ← branches_at n.1
    Some (pure.differ_at n.0 (from_list ps.0), ps.1)

  unfoldable pub from_elements_at : ℕ → List ℕ → Reading PureNamedProof
  from_elements_at i bytes = read bytes >>= λ p. Some (pure.parts_at i p.0, p.1)

  abbrev pub elements_of : ℕ → List ℕ → Reading PureNamedProof
  elements_of i bytes = behind_or (behind (codes " ") bytes) (from_elements_at i) (Some (pure.parts_apart i, bytes))

  unfoldable pub parts_at : List ℕ → Reading PureNamedProof
  parts_at bytes = natural_at 64 bytes >>= λ n. elements_of n.0 n.1

  unfoldable pub split_at : List ℕ → Reading PureNamedProof
  split_at bytes = do
    e ← any_expression_at bytes
    before_first ← behind (codes " (") e.1
    p ← read before_first
    before_second ← behind (codes ") (") p.1
    q ← read before_second
    rest ← behind (codes ")") q.1
    Some (pure.split_on e.0 p.0 q.0, rest)

  abbrev pub parted_at : List ℕ → Reading PureNamedProof
  parted_at bytes =
      behind_or (behind (codes "cases ") bytes) cases_at
      (behind_or (behind (codes "values ") bytes) values_at
      (behind_or (behind (codes "parts ") bytes) parts_at
      (behind_or (behind (codes "differ ") bytes) differ_at
      (behind (codes "split ") bytes >>= split_at))))

  abbrev pub worded_at : List ℕ → Reading PureNamedProof
  worded_at bytes =
      behind_or (behind (codes "sum ") bytes) sum_at
      (behind_or (behind (codes "false ") bytes) false_at
      (behind_or (behind (codes "chain ") bytes) chain_at
      (behind_or (behind (codes "meet ") bytes) meet_at
      (parted_at bytes))))

-- a proof in which fewer than so many are nested
unfoldable pub proof_at : ℕ → List ℕ → Reading PureNamedProof
proof_at zero bytes = None
proof_at (suc n) bytes = worded_at (proof_at n) bytes

abbrev pub any_proof_at : List ℕ → Reading PureNamedProof
any_proof_at bytes = proof_at (length bytes + 1) bytes
