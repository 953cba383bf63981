-- Plain specifications, and their explorations: these stay plain, and nothing of them is left undecided.
use Rattle.std.specs.Prelude.{◌≡◌, ℕ, ◌+◌, ◌*◌, ◌≤◌, ℤ, List, length, IfSome, IsTrue}
use Rattle.gil_syntax.specs.Pure.{PureParts, PureSpec, PureCommand}
use Rattle.gil_syntax.specs.Simple.{is_simple_command}
use Rattle.plain_specs.specs.Contained.{HasCommand, MayRun, IsContained}
use Rattle.sym_paths.specs.Plain.{IsPlainItem}
use Rattle.sym_beginning.specs.Plainly.{BeginsPlainly, first_bound}
use Rattle.sym_evaluation.specs.Plainly.{IsPlain, IsPlainStore}
use Rattle.sym_model.specs.Lists.{Each}
use Rattle.sym_paths.specs.Pure.{PurePath}
use Rattle.sym_paths.specs.Steps.{IsPlainPath, step_growth}
use Rattle.footprint.specs.Plainly.{item_count}
use Rattle.checked_paths.specs.Causes.{cause_view}
use Rattle.checked_paths.specs.Plainly.{IsSureCause, OfNext}
use Rattle.checked_paths.specs.Pure.{PureEntry, PureNext}
use Rattle.spec_exploration.specs.Exploring.{PureExploration}

-- A contained specification all of whose commands have a simple form. It begins plainly, its postconditions have plain items alone, which may
-- use core predicates, and all its items are 10,000 at most.
pub record IsPlainSpec (p : PureParts) (s : PureSpec) : Type 0 where
  pub contained : IsContained p s
  pub simple : (f : List ℕ) (c : PureCommand) → MayRun p s.name f → HasCommand p f c → IsTrue (is_simple_command c)
  pub begins : BeginsPlainly s
  pub posts : Each (Each IsPlainItem) s.posts
  pub errors : Each (Each IsPlainItem) s.errors
  pub few_items : length s.pre + (item_count s.posts + item_count s.errors) ≤ 10000

-- the bound of the numbers after so many steps
abbrev pub bound_after : PureSpec → ℕ → ℕ
bound_after s n = first_bound s + n * step_growth

-- the terms of the entry are plain, without numbers
pub record HasPlainTerms (e : PureEntry) : Type 0 where
  pub args : Each (IsPlain 0) e.args
  pub variables : IsPlainStore 0 e.variables

module _ {S : Type 0} (plain : S → ℤ → ℤ → Type 0) (s : PureSpec) where
  -- the path is plain, with the numbers of its steps
  abbrev pub IsPlainAt : PurePath S → Type 0
  IsPlainAt path = IsPlainPath plain (bound_after s path.steps) path

  -- the same of an answer that goes on, and each cause is sure
  abbrev pub IsPlainNext : PureNext S → Type 0
  IsPlainNext n = OfNext IsPlainAt n

  -- from such a path come such answers
  abbrev pub StepsPlainly : PurePath S → List (PureNext S) → Type 0
  StepsPlainly path ns = IsPlainAt path → Each (OfNext (IsPlainPath plain (bound_after s (path.steps + 1)))) ns

  -- each path that is left is plain, and the cause that was found is sure
  pub record StaysPlain (x : PureExploration S) : Type 0 where
    pub left : Each (λ y. IsPlainAt y.path) x.left
    pub cause : IfSome x.cause (λ c. IsSureCause (cause_view c))
