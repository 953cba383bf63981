-- The views, level by level.
use Rattle.std.proofs.Common.{◌≡◌, map, rules}
use Rattle.gil_report.specs.declared.proofs.NamedProof.{the_lemmas}
use Rattle.gil_report.specs.declared.proofs.NamedProofs.{NamedProofs}
use Rattle.gil_report.specs.View.{named_proof_view, named_proofs_view}

pub named_proofs_view-items : (ps : NamedProofs) → named_proofs_view ps ≡ map named_proof_view ps.items.items
named_proofs_view-items ps = search (rules, the_lemmas)
