use Rattle.std.proofs.Common.{◌≡◌, drop, map}
use Rattle.sym_chunks.specs.View.{case_view}
use Rattle.sym_model.specs.Alternatives.{is_empty}
use Rattle.std.specs.List.{list_any}
use Rattle.sym_chunks.specs.Cases.{PureCase}
use Rattle.sym_chunks.proofs.cases.has_sure_case.Given as goal

abbrev pub invariant-loop-case : goal.invariant-loop-case
invariant-loop-case l = list_any (λ (c : PureCase). list_any is_empty c.when) (map case_view (drop l.case-index l.case-items)) ≡ list_any (λ (c : PureCase). list_any is_empty c.when) (map case_view l.case-items)
