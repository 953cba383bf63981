-- Programs: their procedures, specifications and predicates by name, and the numbers of their commands.
use Rattle.std.specs.Prelude.{ℕ, ◌+◌, List, [], ◌∷◌, map, Option, Some, None, if◌then◌else◌}
use Rattle.std.specs.Str.{bytes_eq}
use Rattle.gil_syntax.specs.Pure.{PureCommand, PureNumberedCommand, PureProc, PureSpec, PurePredDef, PureParts}

-- of two of one name the first counts, but a valid program has no two
abbrev pub find_proc : List PureProc → List ℕ → Option PureProc
find_proc [] f = None
find_proc (q ∷ qs) f = if bytes_eq q.name f then Some q else find_proc qs f

abbrev pub find_spec : List PureSpec → List ℕ → Option PureSpec
find_spec [] f = None
find_spec (s ∷ ss) f = if bytes_eq s.name f then Some s else find_spec ss f

abbrev pub find_pred : List PurePredDef → List ℕ → Option PurePredDef
find_pred [] p = None
find_pred (d ∷ ds) p = if bytes_eq d.name p then Some d else find_pred ds p

-- commands with their indices, from n on, as numbers
abbrev pub numbered_from : ℕ → List PureCommand → List PureNumberedCommand
numbered_from n [] = []
numbered_from n (c ∷ cs) = record { command = c; at = n } ∷ numbered_from (n + 1) cs

-- a program but for the numbers of its commands: each has its index
abbrev pub renumbered_proc : PureProc → PureProc
renumbered_proc q = record q { body = numbered_from 0 (map (λ c. c.command) q.body) }

abbrev pub renumbered : PureParts → PureParts
renumbered p = record p { procs = map renumbered_proc p.procs }
