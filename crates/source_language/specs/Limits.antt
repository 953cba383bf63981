-- Functions that give too many commands.
use Rattle.std.specs.Prelude.{◌≡◌, ℕ, suc, List, [], ◌∷◌, length, Bool, nat_lt, if◌then◌else◌, Option, Some, None, ⊤}
use Rattle.std.specs.Option.{option_map}
use Rattle.gil_syntax.specs.Pure.{PureProc}
use Rattle.gil_syntax.specs.Valid.{most_items}
use Rattle.source_language.specs.declared.limits.TooMany.{TooMany}
use Rattle.source_language.specs.declared.limits.TooMany.TheVariants.{Limit, Memory}

abbrev pub is_too_long : PureProc → Bool
is_too_long q = nat_lt most_items (length q.body)

-- the number of the first procedure that has more than 1,000 commands
abbrev pub first_long : List PureProc → Option ℕ
first_long [] = None
first_long (q ∷ qs) = if is_too_long q then Some 0 else option_map suc (first_long qs)

-- the limit is passed by this function; want of memory says nothing
abbrev pub IsLimitOf : Option ℕ → TooMany → Type 0
IsLimitOf first (Limit at) = first ≡ Some at
IsLimitOf first Memory = ⊤

-- functions, each with the byte at which it begins and the procedure that it is compiled to
module _ {F : Type 0} (begins : F → ℕ) (compiled : F → PureProc) where
  -- the byte at which the first function begins that gives more than 1,000 commands
  abbrev pub first_too_long : List F → Option ℕ
  first_too_long [] = None
  first_too_long (f ∷ fs) = if is_too_long (compiled f) then Some (begins f) else first_too_long fs
