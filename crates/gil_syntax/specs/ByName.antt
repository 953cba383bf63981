-- The parts of a program by name.
use Rattle.std.specs.Prelude.{◌≡◌, ℕ, List, map, Option, false}
use Rattle.std.specs.List.{find}
use Rattle.std.specs.Str.{bytes_eq}
use Rattle.gil_syntax.specs.Pure.{PureParts}
use Rattle.gil_syntax.specs.Valid.{Signature, predicates_of, has_twice}
use Rattle.gil_syntax.specs.View.{parts_view}
use Rattle.gil_syntax.specs.declared.by_name.PartsByName.{PartsByName}
use Rattle.gil_syntax.specs.Names.{place_of, first_place}

abbrev pub parts_of : PartsByName → PureParts
parts_of b = parts_view b.parts.now

-- the tables tell the first place of each name
pub record IsIndexed (b : PartsByName) : Type 0 where
  pub procs : place_of b.procs ≡ first_place (map (λ q. q.name) (parts_of b).procs)
  pub specs : place_of b.specs ≡ first_place (map (λ s. s.name) (parts_of b).specs)
  pub preds : place_of b.preds ≡ first_place (map (λ d. d.name) (parts_of b).preds)

abbrev pub find_signature : List Signature → List ℕ → Option Signature
find_signature gs x = find (λ g. bytes_eq g.name x) gs

-- the numbers of ins and outs
abbrev pub shape : Signature → ℕ × ℕ
shape g = (g.ins, g.outs)

-- no two predicates, core predicates among them, have one name
abbrev pub AreDistinct : PureParts → Type 0
AreDistinct p = has_twice (map (λ g. g.name) (predicates_of p)) ≡ false
