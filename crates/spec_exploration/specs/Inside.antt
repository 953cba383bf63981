-- Explorations of contained specifications: they stay inside the procedures that may run, none of which has a specification to be used.
use Rattle.std.specs.Prelude.{◌≡◌, List, [], ⊤}
use Rattle.gil_syntax.specs.Pure.{PureParts, PureSpec}
use Rattle.plain_specs.specs.Contained.{MayRun}
use Rattle.sym_model.specs.Lists.{Each}
use Rattle.sym_paths.specs.Pure.{PurePath}
use Rattle.checked_paths.specs.Pure.{PureChecking, PureNext, further, over, caused}
use Rattle.spec_exploration.specs.Exploring.{PureExploration}

module _ {S : Type 0} (p : PureParts) (s : PureSpec) where
  -- each frame is one of a procedure that may run
  abbrev pub IsInside : PurePath S → Type 0
  IsInside path = Each (λ f. MayRun p s.name f.procedure) path.stack

  -- the same of a path that goes on
  abbrev pub IsNextInside : PureNext S → Type 0
  IsNextInside (further y) = IsInside y.path
  IsNextInside over = ⊤
  IsNextInside (caused cause) = ⊤

  -- and of each path that is left; and no specification was used
  pub record StaysInside (x : PureExploration S) : Type 0 where
    pub left : Each (λ y. IsInside y.path) x.left
    pub none_used : x.uses ≡ []
