-- The parts that procedures beside their names, specifications and predicates make.
use Rattle.std.specs.Prelude.{ℕ, List, map}
use Rattle.gil_syntax.specs.declared.parts.PredDef.{PredDef}
use Rattle.gil_syntax.specs.declared.parts.Proc.{Proc}
use Rattle.gil_syntax.specs.declared.parts.Spec.{Spec}
use Rattle.gil_syntax.specs.Pure.{PureParts}
use Rattle.gil_syntax.specs.View.{proc_view, spec_view, pred_def_view}

abbrev pub parts_seen : List (List ℕ × Proc) → List Spec → List PredDef → PureParts
parts_seen procs specs preds =
    record { procs = map (λ e. proc_view e.1) procs; specs = map spec_view specs; preds = map pred_def_view preds }
