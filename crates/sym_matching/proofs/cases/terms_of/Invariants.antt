use Rattle.std.proofs.Common.{take}
use Rattle.std.specs.Option.{option_map}
use Rattle.gil_syntax.specs.Valid.{param_names}
use Rattle.pure_terms.specs.View.{terms_view}
use Rattle.sym_evaluation.specs.View.{store_view}
use Rattle.sym_matching.proofs.KnownLaws.{AreTerms}
use Rattle.sym_matching.proofs.cases.terms_of.Given as goal

abbrev pub invariant-loop-param : goal.invariant-loop-param
invariant-loop-param l = AreTerms (store_view l.store) (param_names (take l.param-index l.param-items)) (option_map terms_view l.terms)
