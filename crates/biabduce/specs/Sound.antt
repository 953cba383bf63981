-- What holds of inference under way.
use Rattle.std.specs.Prelude.{◌≡◌, ℕ, List, Option, Some, None, IfSome}
use Rattle.gil_values.specs.declared.places.Place.{Place}
use Rattle.gil_syntax.specs.Pure.{PureProc, PureParts}
use Rattle.mem_model.specs.declared.keys.MemoryName.{MemoryName}
use Rattle.mem_model.specs.Actions.{Actions}
use Rattle.bi_beginnings.specs.Beginnings.{PureBeginning, IsBeginning}
use Rattle.bi_specifications.specs.Specified.{IsTrulyFound}
use Rattle.inferred_specs.specs.Inferred.{PureFound}
use Rattle.pure_terms.specs.declared.deciders.Reason.{Reason}
use Rattle.pure_terms.specs.declared.variables.Sort.{Sort}
use Rattle.pure_terms.specs.Fragment.{InFragment}
use Rattle.pure_terms.specs.Pure.{PureAtom}
use Rattle.sym_model.specs.Lists.{Each}
use Rattle.sym_paths.specs.Pure.{PureEnd, unknown}

-- What isn't decided: the place of a command, the choices that lead there, the variables, what is assumed, and what is asked.
pub record PureAsked : Type 0 where
  pub place : Place
  pub choices : List ℕ
  pub vars : List Sort
  pub given : List PureAtom
  pub conds : List PureAtom

-- the beginnings that are left, what is found, and what wasn't decided first, if anything
pub record PureInference : Type 0 where
  pub left : List PureBeginning
  pub founds : List PureFound
  pub undecided : Option PureAsked

-- Each beginning that is left is one of the procedure, each specification is truly found, and what is undecided isn't in the fragment.
pub record IsSound (p : PureParts) (memory : MemoryName) (m : Actions) (q : PureProc) (n : ℕ) (i : PureInference) : Type 0 where
  pub left : Each (IsBeginning memory q.params) i.left
  pub founds : Each (IsTrulyFound p memory m q.name n) i.founds
  pub undecided : IfSome i.undecided (λ x. ¬ InFragment x.conds)

-- what is kept, or else this
abbrev pub first_asked : Option PureAsked → PureAsked → Option PureAsked
first_asked None x = Some x
first_asked (Some kept) x = Some kept

-- if a path is unknown, its conditions aren't in the fragment
abbrev pub IsUndecidedIfUnknown : Option PureEnd → List PureAtom → Type 0
IsUndecidedIfUnknown ending conds = (place : Place) (reason : Reason) → ending ≡ Some (unknown place reason) → ¬ InFragment conds
