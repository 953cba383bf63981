-- The pure data of tests and splits.
use Rattle.std.specs.Prelude.{List, map, Option}
use Rattle.std.specs.Option.{option_map}
use Rattle.pure_terms.specs.declared.terms.Term.{Term}
use Rattle.pure_terms.specs.View.{term_view, atoms_view}
use Rattle.sym_model.specs.Alternatives.{alternatives_view}
use Rattle.sym_evaluation.specs.declared.store.SymStore.{SymStore}
use Rattle.sym_evaluation.specs.Pure.{PureStore}
use Rattle.sym_evaluation.specs.View.{good_view, store_view}
use Rattle.sym_matching.specs.declared.splits.Split.{Split}
use Rattle.sym_matching.specs.declared.splits.Test.{Test}
use Rattle.sym_matching.specs.Pure.{PureTest, PureSplit, PureOuts}

abbrev pub test_view : Test → PureTest
test_view x = record { when = option_map atoms_view x.when; otherwise = alternatives_view x.otherwise }

abbrev pub split_by : {T X : Type 0} → (T → X) → Split T → PureSplit X
split_by seen x = record { found = option_map (good_view seen) x.found; none = alternatives_view x.none }

abbrev pub stores_view : Split SymStore → PureSplit PureStore
stores_view x = split_by store_view x

abbrev pub outs_view : List (Option Term) → PureOuts
outs_view outs = map (option_map term_view) outs

abbrev pub known_view : Split (List (Option Term)) → PureSplit PureOuts
known_view x = split_by outs_view x
