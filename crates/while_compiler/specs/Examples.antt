-- A function with every statement, and the commands that it is compiled to.
use Rattle.std.specs.Prelude.{ℕ, pos, List, [], ◌∷◌, codes, Some, None}
use Rattle.gil_values.specs.declared.kinds.Kind.TheVariants.{Int}
use Rattle.gil_values.specs.Pure.{integer, text, procedure}
use Rattle.gil_syntax.specs.Pure.{PureExpr, literal, name, list_of, from_list, PurePredUse, assign, call, act, usym, isym, return, fail, vanish, fold_use, loop_invariant, PureNumberedCommand}
use Rattle.source_language.specs.Code.{truth, jump}
use Rattle.source_language.specs.Names.{temporary}
use Rattle.source_language.specs.Pure as trees
use Rattle.source_language.specs.Procedures.{null, placed}
use Rattle.while_lang.specs.Pure as while
use Rattle.while_lang.specs.Pure.{no_statements, statement_and, PurePlacedStatement, PureFunction, PureSource}

abbrev pub b : PureExpr
b = name (codes "b")

abbrev pub x : PureExpr
x = name (codes "x")

abbrev pub y : PureExpr
y = name (codes "y")

abbrev pub one : PureExpr
one = literal (integer (pos 1))

abbrev pub words : List ℕ → PureExpr
words cs = literal (text cs)

abbrev pub used : PurePredUse
used = record { pred = codes "gone"; ins = x ∷ []; outs = [] }

-- return 1;
abbrev pub placed_return : PurePlacedStatement
placed_return = record { at = 14; statement = while.return one }

-- func main() { return 1; }
abbrev pub returns_one : PureFunction
returns_one = record { name = codes "main"; params = []; body = statement_and 14 (while.return one) no_statements; at = 0 }

abbrev pub main_returns_one : PureSource
main_returns_one = record { functions = returns_one ∷ []; specs = []; preds = [] }

-- func f(y) { x = new {p: 1, q: y}; y.p = x; while (b) invariant (x) [] {emp} { dispose y; } if (b) { return 1; } else
-- { assume(b); } x = y.p; assert(b); x = f(y); x = input int; x = symbol; x = y; fold gone(x;); fail y; }
abbrev pub every_statement : PureFunction
every_statement = record {
  name = codes "f";
  params = codes "y" ∷ [];
  body =
      statement_and 1 (while.new (codes "x") (record { name = codes "p"; value = one } ∷ record { name = codes "q"; value = y } ∷ []))
      (statement_and 2 (while.mutate (codes "y") (codes "p") x)
      (statement_and 3 (while.while b (Some (record { names = codes "x" ∷ []; logicals = []; items = [] }))
      (statement_and 4 (while.dispose y) no_statements))
      (statement_and 5 (while.if_else b (statement_and 6 (while.return one) no_statements) (statement_and 7 (while.assume b) no_statements))
      (statement_and 8 (while.lookup (codes "x") (codes "y") (codes "p"))
      (statement_and 9 (while.assert b)
      (statement_and 10 (while.call (codes "x") (codes "f") (y ∷ []))
      (statement_and 11 (while.input (codes "x") Int)
      (statement_and 12 (while.symbol (codes "x"))
      (statement_and 13 (while.assign (codes "x") y)
      (statement_and 14 (while.logic (trees.fold_use used))
      (statement_and 15 (while.fail y) no_statements)))))))))));
  at = 0;
}

abbrev pub its_commands : List PureNumberedCommand
its_commands =
    placed 0 (assign (temporary 0) null)
    ∷ placed 0 (assign (temporary 1) null)
    ∷ placed 0 (assign (temporary 2) null)
    ∷ placed 0 (assign (temporary 3) null)
    ∷ placed 1 (assign (temporary 0) one)
    ∷ placed 1 (assign (temporary 1) y)
    ∷ placed 1 (act (temporary 2) (codes "new") (list_of (from_list (words (codes "p") ∷ words (codes "q") ∷ [])) ∷ []))
    ∷ placed 1 (act (temporary 3) (codes "mutate") (name (temporary 2) ∷ words (codes "p") ∷ name (temporary 0) ∷ []))
    ∷ placed 1 (act (temporary 3) (codes "mutate") (name (temporary 2) ∷ words (codes "q") ∷ name (temporary 1) ∷ []))
    ∷ placed 1 (assign (codes "x") (name (temporary 2)))
    ∷ placed 2 (act (temporary 0) (codes "mutate") (y ∷ words (codes "p") ∷ x ∷ []))
    ∷ placed 3 (loop_invariant (codes "x" ∷ temporary 0 ∷ []) [] [])
    ∷ jump 3 b 14
    ∷ jump 3 truth 16
    ∷ placed 4 (act (temporary 0) (codes "dispose") (y ∷ []))
    ∷ jump 3 truth 11
    ∷ jump 5 b 20
    ∷ jump 7 b 19
    ∷ placed 7 vanish
    ∷ jump 5 truth 21
    ∷ placed 6 (return one)
    ∷ placed 8 (act (codes "x") (codes "lookup") (y ∷ words (codes "p") ∷ []))
    ∷ jump 9 b 24
    ∷ placed 9 (fail (words (codes "assert")))
    ∷ placed 10 (call (codes "x") (literal (procedure (codes "f"))) (y ∷ []) None)
    ∷ placed 11 (isym (codes "x") Int)
    ∷ placed 12 (usym (codes "x"))
    ∷ placed 13 (assign (codes "x") y)
    ∷ placed 14 (fold_use used)
    ∷ placed 15 (fail y)
    ∷ placed 0 (return null)
    ∷ []
