-- The procedure that reads properties.
use Rattle.std.specs.Prelude.{List, [], ◌∷◌, ◌++◌, codes}
use Rattle.gil_values.specs.declared.kinds.Kind.TheVariants.{Undef}
use Rattle.gil_values.specs.declared.operators.BinOp.TheVariants.{Equal}
use Rattle.gil_values.specs.Pure.{kind}
use Rattle.gil_syntax.specs.Pure.{PureExpr, literal, name, binary_of, act, return, PureNumberedCommand, PureProc}
use Rattle.source_language.specs.Code.{truth, jump}
use Rattle.source_language.specs.Procedures.{null, placed}
use Rattle.object_operators.specs.Walk.{get_name}

abbrev pub object : PureExpr
object = name (codes "o")

abbrev pub property : PureExpr
property = name (codes "p")

-- an object is asked, and then its prototype
abbrev pub asking : List PureNumberedCommand
asking =
    placed 0 (act (codes "b") (codes "has") (object ∷ property ∷ []))
    ∷ jump 0 (name (codes "b")) 5
    ∷ placed 0 (act (codes "o") (codes "getproto") (object ∷ []))
    ∷ jump 0 (binary_of Equal object null) 7
    ∷ jump 0 truth 0
    ∷ []

abbrev pub get_proc : PureProc
get_proc = record {
  name = get_name;
  params = codes "o" ∷ codes "p" ∷ [];
  body =
      asking
      ++ (placed 0 (act (codes "v") (codes "get") (object ∷ property ∷ []))
      ∷ placed 0 (return (name (codes "v")))
      ∷ placed 0 (return (literal (kind Undef)))
      ∷ []);
}
