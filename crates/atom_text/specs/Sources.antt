-- The pure data of what a text of atoms holds as it is written.
use Rattle.std.specs.Prelude.{ℕ, List, map}
use Rattle.gil_syntax.specs.Pure.{PureExpr}
use Rattle.gil_syntax.specs.View.{expr_view}
use Rattle.pure_terms.specs.declared.variables.Sort.{Sort}
use Rattle.atom_text.specs.declared.sources.AtomSource.{AtomSource}
use Rattle.atom_text.specs.declared.sources.Declaration.{Declaration}
use Rattle.atom_text.specs.declared.sources.Stated.{Stated}

-- an expression, and the byte at which it begins
pub record PureStated : Type 0 where
  pub expression : PureExpr
  pub at : ℕ

pub record PureSource : Type 0 where
  pub declarations : List Declaration
  pub stated : List PureStated

abbrev pub stated_view : Stated → PureStated
stated_view s = record { expression = expr_view s.expression; at = s.at }

abbrev pub source_view : AtomSource → PureSource
source_view s = record { declarations = s.declarations; stated = map stated_view s.stated }

-- the names and the sorts of declarations, in their order
abbrev pub names_of : List Declaration → List (List ℕ)
names_of ds = map (λ d. d.name) ds

abbrev pub sorts_of : List Declaration → List Sort
sorts_of ds = map (λ d. d.sort) ds
