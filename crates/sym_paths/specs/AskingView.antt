-- The pure data of what is known of conditions.
use Rattle.gil_values.specs.View.{values_view}
use Rattle.sym_paths.specs.declared.asking.Satisfiability.{Satisfiability}
use Rattle.sym_paths.specs.Asking.{PureSatisfiability, satisfiable, unsatisfiable, undecided}

abbrev pub satisfiability_view : Satisfiability → PureSatisfiability
satisfiability_view (Satisfiability.Satisfiable v) = satisfiable (values_view v)
satisfiability_view Satisfiability.Unsatisfiable = unsatisfiable
satisfiability_view (Satisfiability.Undecided reason) = undecided reason
