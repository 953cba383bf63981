-- Entries that plain paths leave: whether a postcondition of plain items is met is never left undecided.
use Rattle.std.specs.Prelude.{◌≡◌, ℕ, ◌+◌, ◌^◌, ◌<◌, ◌≤◌, ℤ, List, length, Some, IsTrue, ⊤}
use Rattle.gil_syntax.specs.Pure.{PureParts, PureItem, PureNumberedCommand}
use Rattle.gil_syntax.specs.Simple.{is_simple_command}
use Rattle.pure_terms.specs.Fragment.{InFragment}
use Rattle.pure_terms.specs.Pure.{PureTerm}
use Rattle.sym_evaluation.specs.Plainly.{IsPlain, IsPlainStore}
use Rattle.sym_model.specs.Lists.{Each}
use Rattle.sym_paths.specs.Meaning.{command_of_path}
use Rattle.sym_paths.specs.Pure.{PurePath}
use Rattle.sym_paths.specs.Steps.{IsPlainPath, IsUnknown, step_growth, narrow_bound}
use Rattle.sym_paths.specs.Plain.{IsPlainItem}
use Rattle.sym_states.specs.Pure.{PureState}
use Rattle.sym_matching.specs.Plainly.{AreDecided}
use Rattle.footprint.specs.Plainly.{widened, item_count}
use Rattle.checked_paths.specs.Causes.{cause_view}
use Rattle.checked_paths.specs.Meaning.{EachWith}
use Rattle.checked_paths.specs.Plainly.{IsSureCause, OfNext}
use Rattle.checked_paths.specs.Pure.{PureEntry, PureNext, further, over, caused}

-- The terms of the entry are plain with numbers from -b to b, and the assertions have plain items, few enough that the numbers stay
-- those of the fragment.
pub record MayLeavePlainly (b : ℕ) (e : PureEntry) (posts : List (List PureItem)) : Type 0 where
  pub args : Each (IsPlain b) e.args
  pub variables : IsPlainStore b e.variables
  pub items : Each (Each IsPlainItem) posts
  pub narrow : widened (item_count posts) b ≤ narrow_bound

-- The same with a plain result, in a state with decided conditions over few variables. Plain says which memories are plain with numbers up to
-- a bound.
pub record MayFinishPlainly {S : Type 0} (Plain : ℕ → S → Type 0) (b : ℕ) (e : PureEntry) (posts : List (List PureItem)) (t : PureTerm)
    (s : PureState S) : Type 0 where
  pub leaves : MayLeavePlainly b e posts
  pub term : IsPlain b t
  pub decided : AreDecided b s.conds
  pub plain_memory : Plain b s.memory
  pub few : length s.vars < 2 ^ 40

-- nothing is left to be looked at, or the cause is sure
abbrev pub IsSureEnd : {S : Type 0} → PureNext S → Type 0
IsSureEnd (further y) = ⊥
IsSureEnd over = ⊤
IsSureEnd (caused cause) = IsSureCause (cause_view cause)

abbrev pub FinishesPlainly : {S : Type 0} → (ℕ → S → Type 0) → PureEntry → List (List PureItem) → PureTerm → PureState S → PureNext S → Type 0
FinishesPlainly Plain e posts t s k = (b : ℕ) → MayFinishPlainly Plain b e posts t s → IsSureEnd k

-- a next path that is plain, isn't unknown, and over few variables, and whose conditions are in the fragment
pub record IsSureNext {S : Type 0} (plain : S → ℤ → ℤ → Type 0) (b : ℕ) (next : PurePath S) : Type 0 where
  pub from : IsPlainPath plain b next
  pub known : ¬ IsUnknown next.ending
  pub decided : InFragment next.conds
  pub few : length next.vars < 2 ^ 40

-- from the state before the step
abbrev pub EndsSurely : {S : Type 0} → (S → ℤ → ℤ → Type 0) → (ℕ → S → Type 0) → PureState S → PureEntry → PurePath S → PureNext S → Type 0
EndsSurely plain Plain s e next k =
    (b : ℕ) → IsSureNext plain b next → Plain b s.memory → MayLeavePlainly b e e.spec.posts → MayLeavePlainly b e e.spec.errors → OfNext (IsPlainPath plain b) k

abbrev pub EachEndsSurely : {S : Type 0} → (S → ℤ → ℤ → Type 0) → (ℕ → S → Type 0) → PureState S → PureEntry → List (PurePath S)
    → List (PureNext S) → Type 0
EachEndsSurely plain Plain s e nexts ks = EachWith (EndsSurely plain Plain s e) nexts ks

-- Plain: at a return or a throw of simple form, a plain path leads to plain paths and to causes that are sure, where its entry has plain terms
-- and postconditions of plain items.
abbrev pub EndsPlainly : {S : Type 0} → PureParts → (S → ℤ → ℤ → Type 0) → PureEntry → PurePath S → List (PureNext S) → Type 0
EndsPlainly p plain e path ks =
    (c : PureNumberedCommand) (b : ℕ) → command_of_path p path ≡ Some c → IsTrue (is_simple_command c.command) → b + step_growth ≤ narrow_bound
    → IsPlainPath plain b path → MayLeavePlainly (b + step_growth) e e.spec.posts → MayLeavePlainly (b + step_growth) e e.spec.errors
    → Each (OfNext (IsPlainPath plain (b + step_growth))) ks
