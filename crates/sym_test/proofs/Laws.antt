-- What is known of trails.
use Rattle.std.proofs.Common.{ℕ, ℤ, List}
use Rattle.gil_values.specs.Pure.{PureValue}
use Rattle.gil_syntax.specs.Pure.{PureParts}
use Rattle.mem_model.specs.Actions.{Actions}
use Rattle.mem_model.specs.Heaps.{Heap}
use Rattle.pure_terms.specs.Pure.{PureTerm}
use Rattle.sym_step.specs.Plain.{TrailsStayPlain}
use Rattle.sym_step.proofs.Plain.{trails_stay_plain}
use Rattle.sym_step.proofs.Kept.{trails_keep, trails_replay, trails_hold_along, trails_may_end_before, ends_of_runs}
use Rattle.sym_model.specs.Terms.{StateTerms}
use Rattle.sym_test.proofs.Trailing.{TrailLaws}

pub trail_laws : {S : Type 0} (p : PureParts) (m : Actions) (stands : S → List PureValue → Heap → Type 0) (terms : S → StateTerms) (asked : List ℕ → List PureTerm → List PureTerm × List PureTerm) → TrailLaws p m stands terms asked
trail_laws p m stands terms asked = record {
  keep = trails_keep p m stands terms asked;
  replay = trails_replay p m stands terms asked;
  hold_along = trails_hold_along p m stands terms asked;
  end_before = trails_may_end_before p m stands terms asked;
  ends = ends_of_runs;
}

pub plain_laws : {S : Type 0} (p : PureParts) (m : Actions) (stands : S → List PureValue → Heap → Type 0) (terms : S → StateTerms) (asked : List ℕ → List PureTerm → List PureTerm × List PureTerm) (plain : S → ℤ → ℤ → Type 0) → TrailsStayPlain p m stands terms asked plain
plain_laws p m stands terms asked plain = trails_stay_plain p m stands terms asked plain
