-- Proofs that some text has: places have 64 bits, factors 128, and expressions are such as texts have.
use Rattle.std.specs.Prelude.{ℕ, ◌<◌, ◌^◌, FitsSigned}
use Rattle.std.specs.Int.{w128}
use Rattle.std.specs.List.{AllByRecursion}
use Rattle.solver_proof.specs.declared.proofs.ChainEnd.{ChainEnd}
use Rattle.solver_proof.specs.declared.proofs.Factor.{Factor}
use Rattle.expression_text.specs.Writable.{IsWritableExpr}
use Rattle.gil_report.specs.Pure.{PureNamedProof, sum_of, false_at, chain, cases_of, values_at, parts_apart, parts_at, differ_at, split_on, meet_at}
use Rattle.gil_report.specs.Pure.{PureNamedProofs, no_proofs, proof_and}

abbrev pub IsPlaceOfAtom : ℕ → Type 0
IsPlaceOfAtom n = n < 2 ^ 64

abbrev pub IsWritableFactor : Factor → Type 0
IsWritableFactor f = IsPlaceOfAtom f.atom × FitsSigned w128 f.factor

abbrev pub IsWritableEnd : ChainEnd → Type 0
IsWritableEnd ChainEnd.Literals = Unit {0}
IsWritableEnd ChainEnd.Kinds = Unit {0}
IsWritableEnd ChainEnd.Fresh = Unit {0}
IsWritableEnd (ChainEnd.Not i) = IsPlaceOfAtom i
IsWritableEnd (ChainEnd.Kind i) = IsPlaceOfAtom i
IsWritableEnd (ChainEnd.BothKinds i j) = IsPlaceOfAtom i × IsPlaceOfAtom j

abbrev mutual
  pub IsWritableProof : PureNamedProof → Type 0
  IsWritableProof (sum_of fs) = AllByRecursion IsWritableFactor fs
  IsWritableProof (false_at i) = IsPlaceOfAtom i
  IsWritableProof (chain is end) = AllByRecursion IsPlaceOfAtom is × IsWritableEnd end
  IsWritableProof (cases_of e ps) = IsWritableExpr e × AreWritableProofs ps
  IsWritableProof (values_at i ps) = IsPlaceOfAtom i × AreWritableProofs ps
  IsWritableProof (parts_apart i) = IsPlaceOfAtom i
  IsWritableProof (parts_at i p) = IsPlaceOfAtom i × IsWritableProof p
  IsWritableProof (differ_at i ps) = IsPlaceOfAtom i × AreWritableProofs ps
  IsWritableProof (split_on e p q) = IsWritableExpr e × IsWritableProof p × IsWritableProof q
  IsWritableProof (meet_at i j k) = IsPlaceOfAtom i × IsPlaceOfAtom j × IsPlaceOfAtom k

  pub AreWritableProofs : PureNamedProofs → Type 0
  AreWritableProofs no_proofs = Unit {0}
  AreWritableProofs (proof_and p ps) = IsWritableProof p × AreWritableProofs ps
