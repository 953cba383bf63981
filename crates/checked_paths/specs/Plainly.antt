-- Steps from plain paths: what they answer is plain too, and nothing of it is left undecided.
use Rattle.std.specs.Prelude.{◌≡◌, ℕ, ◌+◌, ◌≤◌, ℤ, List, Some, IsTrue, ⊤}
use Rattle.gil_syntax.specs.Pure.{PureParts, PureNumberedCommand}
use Rattle.gil_syntax.specs.Simple.{is_simple_command}
use Rattle.pure_terms.specs.Fragment.{InFragment}
use Rattle.sym_model.specs.Lists.{Each}
use Rattle.sym_paths.specs.Meaning.{command_of_path}
use Rattle.sym_paths.specs.Pure.{PurePath}
use Rattle.sym_paths.specs.Steps.{IsPlainPath, step_growth, narrow_bound}
use Rattle.checked_paths.specs.Causes.{PureCause, failure, fault, bound, undecided, cause_view}
use Rattle.checked_paths.specs.Pure.{PureNext, further, over, caused}

-- the cause isn't that something isn't decided, and its conditions are in the fragment
abbrev pub IsSureCause : PureCause → Type 0
IsSureCause (failure t shown) = InFragment shown.conds
IsSureCause (fault kind shown) = InFragment shown.conds
IsSureCause (bound shown) = InFragment shown.conds
IsSureCause (undecided reason shown) = ⊥

-- where a path goes on, this holds of it, and each cause is sure
abbrev pub OfNext : {S : Type 0} → (PurePath S → Type 0) → PureNext S → Type 0
OfNext P (further y) = P y.path
OfNext P over = ⊤
OfNext P (caused cause) = IsSureCause (cause_view cause)

-- At a command of simple form, a path that is plain with numbers up to b leads to paths that are plain with larger ones, and to causes that
-- are sure, as long as those are numbers of the fragment.
abbrev pub LeadsPlainly : {S : Type 0} → PureParts → (S → ℤ → ℤ → Type 0) → PurePath S → List (PureNext S) → Type 0
LeadsPlainly p plain path ns =
    (c : PureNumberedCommand) (b : ℕ) → command_of_path p path ≡ Some c → IsTrue (is_simple_command c.command) → b + step_growth ≤ narrow_bound
    → IsPlainPath plain b path → Each (OfNext (IsPlainPath plain (b + step_growth))) ns
