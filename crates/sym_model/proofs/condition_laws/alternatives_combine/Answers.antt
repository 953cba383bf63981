use Rattle.std.proofs.Common.{⊎_elim}
use Rattle.std.proofs.Common.{IsTrue}
use Rattle.pure_terms.specs.Meaning.{all_true}
use Rattle.sym_model.specs.Alternatives.{always}
use Rattle.sym_model.proofs.ListLaws.{one_left, one_right, one_parts, one_flat, one_flattened}
use Rattle.sym_model.proofs.Combined.{both_from, both_parts, all_from_from, all_from_parts, always_true, settled_from, settled_parts}
use Rattle.sym_model.proofs.condition_laws.alternatives_combine.Goals as goal

pub returns : goal.returns
returns g c = record {
  always_holds = always_true;
  never_holds = λ v holds. holds;
  either_holds = λ v x y. (one_parts (λ conds. IsTrue (all_true v conds)) x y, ⊎_elim (one_left (λ conds. IsTrue (all_true v conds)) x y) (one_right (λ conds. IsTrue (all_true v conds)) x y));
  both_hold = λ v x y. (both_parts v x y, λ parts. both_from v x y parts.0 parts.1);
  any_holds = λ v f es. (one_flattened (λ conds. IsTrue (all_true v conds)) f es, one_flat (λ conds. IsTrue (all_true v conds)) f es);
  all_hold = λ v f es. (λ holds. (all_from_parts v f es always holds).1, λ each. all_from_from v f es always (always_true v) each);
  settled_holds = λ v x. (settled_parts v x, settled_from v x);
}
