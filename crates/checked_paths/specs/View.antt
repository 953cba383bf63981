-- The pure data of entries, checked paths and of what a step of one answers.
use Rattle.std.specs.Prelude.{List, map}
use Rattle.gil_syntax.specs.declared.parts.Spec.{Spec}
use Rattle.gil_syntax.specs.View.{spec_view}
use Rattle.pure_terms.specs.View.{terms_view}
use Rattle.sym_evaluation.specs.View.{store_view}
use Rattle.sym_paths.specs.View.{path_view}
use Rattle.sym_states.specs.View.{facts_view}
use Rattle.checked_paths.specs.declared.checking.Checking.{Checking}
use Rattle.checked_paths.specs.declared.checking.Entered.{Entered}
use Rattle.checked_paths.specs.declared.checking.Passed.{Passed}
use Rattle.checked_paths.specs.declared.nexts.Next.{Next}
use Rattle.checked_paths.specs.Pure.{PureEntry, PurePassed, PureChecking, PureNext, further, over, caused}

abbrev pub entry_view : Spec → Entered → PureEntry
entry_view spec e = record { spec = spec_view spec; args = terms_view e.args; variables = store_view e.variables }

abbrev pub passed_view : {S : Type 0} → Passed S → PurePassed S
passed_view q = record { at = q.at; memory = q.memory; facts = facts_view q.preds; unlisted = store_view q.unlisted }

abbrev pub all_passed_view : {S : Type 0} → List (Passed S) → List (PurePassed S)
all_passed_view qs = map passed_view qs

abbrev pub passed_by_view : {S : Type 0} → List (List (Passed S)) → List (List (PurePassed S))
passed_by_view frames = map all_passed_view frames

abbrev pub checking_view : {S : Type 0} → Checking S → PureChecking S
checking_view x = record { path = path_view x.path; facts = facts_view x.preds; passed = passed_by_view x.passed }

abbrev pub next_view : {S : Type 0} → Next S → PureNext S
next_view (Next.Further x) = further (checking_view x)
next_view Next.Over = over
next_view (Next.Caused cause) = caused cause

abbrev pub nexts_view : {S : Type 0} → List (Next S) → List (PureNext S)
nexts_view nexts = map next_view nexts
