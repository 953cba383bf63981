-- The names of a precondition's variables, and the place that a reason names.
use Rattle.std.specs.Prelude.{ℕ, List, ◌++◌, map}
use Rattle.std.specs.List.{filter}
use Rattle.gil_syntax.specs.declared.assertions.Param.{Param}
use Rattle.gil_syntax.specs.Pure.{PureSpec}
use Rattle.gil_syntax.specs.Valid.{param_names}
use Rattle.pure_terms.specs.declared.deciders.Reason.{Reason}
use Rattle.spec_vacuity.specs.Translation.{is_own_variable}

-- the declared variables that the precondition names
abbrev pub own_variables : PureSpec → List Param
own_variables s = filter (is_own_variable s) s.logicals

-- the names of the variables of a precondition: those of the parameters, and then of the declared variables that it names
abbrev pub variable_names : PureSpec → List (List ℕ)
variable_names s = param_names s.params ++ map (λ q. q.name) (own_variables s)

-- the place of the atom that a reason names
abbrev pub place_of : Reason → ℕ
place_of (Reason.Atom i) = i
place_of (Reason.Number i) = i
