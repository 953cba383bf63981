use Rattle.std.proofs.Common.{◌≡◌, ◌∷◌, []}
use Rattle.sym_paths.specs.View.{path_view}
use Rattle.sym_states.proofs.Values.{ok_to}
use Rattle.checked_paths.specs.Pure.{caused}
use Rattle.checked_paths.specs.View.{nexts_view}
use Rattle.checked_rows.specs.Doubts.{IsDoubtAlone}
use Rattle.checked_rows.specs.Rows.{IsCauseAlone}
use Rattle.checked_rows.specs.View.{doubt_view}
use Rattle.checked_rows.proofs.nexts.doubted.Goals as goal

pub returns-clause-alone : goal.returns-clause-alone
returns-clause-alone g c = ok_to c.alone.result (λ ns. nexts_view ns ≡ caused c.in_ok-cause_of.field-0 ∷ []) (λ ns. IsCauseAlone (nexts_view ns)) (λ ns is. (c.in_ok-cause_of.field-0, is)) c.alone.ensures

pub returns-clause-shows : goal.returns-clause-shows
returns-clause-shows g c =
    ok_to c.alone.result (λ ns. nexts_view ns ≡ caused c.in_ok-cause_of.field-0 ∷ []) (λ ns. IsDoubtAlone c.args.kind c.args.here.now (path_view c.args.path.now) (doubt_view c.args.doubt) (nexts_view ns))
    (λ ns is. (c.in_ok-cause_of.field-0, (is, c.in_ok-cause_of.ensures))) c.alone.ensures
