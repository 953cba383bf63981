-- The names in logic commands: program variables, and in the frame of the entry the variables of the precondition.
use Rattle.std.specs.Prelude.{◌≡◌, ℕ, List, [], ◌∷◌, ◌++◌}
use Rattle.gil_syntax.specs.declared.assertions.Param.{Param}
use Rattle.sym_evaluation.specs.Pure.{PureStore, term_at}
use Rattle.sym_paths.specs.Frames.{running_store}
use Rattle.sym_paths.specs.Pure.{PureFrame}

-- only the frame of the entry runs alone
abbrev pub variables_there : List PureFrame → PureStore → PureStore
variables_there [] bs = []
variables_there (f ∷ []) bs = bs
variables_there (f ∷ g ∷ fs) bs = []

abbrev pub logicals_there : List PureFrame → List Param → List Param
logicals_there [] ps = []
logicals_there (f ∷ []) ps = ps
logicals_there (f ∷ g ∷ fs) ps = []

-- a program variable has its term in the frame that runs
abbrev pub AreNames : List PureFrame → PureStore → PureStore → Type 0
AreNames fs variables bs = (x : List ℕ) → term_at bs x ≡ term_at (running_store fs ++ variables_there fs variables) x
