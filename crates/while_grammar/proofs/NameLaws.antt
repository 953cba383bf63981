-- A function that lexemes without '$' spell names only what a source text can name.
use Rattle.std.proofs.Common.{◌≡◌, ℕ, List, [], ◌∷◌, refl, subst, inl, inr}
use Rattle.std.specs.Prelude.{◌&&◌, IsTrue}
use Rattle.std.specs.List.{list_all}
use Rattle.std.proofs.lemmas.Bool.{and_from}
use Rattle.gil_values.specs.declared.operators.BinOp.{BinOp}
use Rattle.gil_values.specs.declared.operators.BinOp.TheVariants as binary
use Rattle.gil_lexemes.specs.declared.standing.Lexeme.{Lexeme}
use Rattle.gil_lexemes.specs.declared.standing.Lexeme.TheVariants as lexemes
use Rattle.gil_syntax.specs.Pure.{PureExpr, literal, name, logical, list_of, unary_of, binary_of, PureExprs, no_exprs, expr_and, from_list}
use Rattle.gil_grammar.specs.declared.positions.Position.TheVariants.{Command}
use Rattle.gil_grammar.specs.Expressions.{SpellsExpr, SpellsElements, SpellsMoreElements, SpellsExprs}
use Rattle.gil_grammar.specs.Lists.{SpellsMore, SpellsSeparated}
use Rattle.gil_grammar.specs.Vocabulary.{opening_parenthesis, closing_parenthesis, closing_bracket, closing_brace, comma, semicolon, colon, before_operands, between_operands}
use Rattle.source_language.specs.Names.{is_source_name, is_source_expr, are_source_exprs, has_source_invariant}
use Rattle.source_text.specs.Vocabulary.{equals, dot}
use Rattle.source_text.proofs.NameLaws.{Kept, tail, named, past, names_named, logic_kept, invariant_named}
use Rattle.while_lang.specs.Meaning.{field_values}
use Rattle.while_lang.specs.Names.{is_source_statement, is_source_block, is_source_function}
use Rattle.while_lang.specs.Pure.{PureField, PureStatement, assign, input, symbol, new, lookup, call, mutate, dispose, assert, assume, if_else, while, return, fail, logic, PureBlock, no_statements, statement_and, PureFunction}
use Rattle.while_grammar.specs.Statements.{SpellsField, SpellsStatement, SpellsElse, SpellsStatements, SpellsFunction}

-- ---- expressions

past_operands : (op : BinOp) (ls left : List Lexeme) → ls ≡ before_operands op left → Kept ls → Kept left
past_operands binary.Nth ls left is k = subst Kept is k
past_operands _ ls left is k = subst Kept is k

mutual
  expr_named : (e : PureExpr) (ls rest : List Lexeme) → SpellsExpr Command e ls rest → Kept ls → IsTrue (is_source_expr e) × Kept rest
  expr_named (literal v) ls rest (l, says, is) k = (refl, tail l rest (subst Kept is k))
  expr_named (name x) ls rest (l, inl says, is) k =
      let whole : Kept (lexemes.Name x ∷ rest) = subst (λ (m : Lexeme). Kept (m ∷ rest)) says (subst Kept is k) in
      (named x rest whole, past x rest whole)
  expr_named (name x) ls rest (l, inr (word, says, serves), is) k = absurd (cc says)
  expr_named (logical x) ls rest (there, is) k = absurd (cc there)
  expr_named (list_of es) ls rest (inner, is, h) k = elements_named es inner (closing_bracket ∷ rest) h (subst Kept is k)
  expr_named (unary_of op e) ls rest (inner, is, h) k = expr_named e inner (closing_parenthesis ∷ rest) h (subst Kept is k)
  expr_named (binary_of op d e) ls rest (left, right, is, h, j) k =
      let p = expr_named d left (between_operands op ∷ right) h (past_operands op ls left is k) in
      let q = expr_named e right (closing_parenthesis ∷ rest) j (tail (between_operands op) right p.1) in
      (and_from (is_source_expr d) (is_source_expr e) p.0 q.0, q.1)

  elements_named : (es : PureExprs) (ls rest : List Lexeme) → SpellsElements Command es ls rest → Kept ls → IsTrue (are_source_exprs es) × Kept rest
  elements_named no_exprs ls rest is k = (refl, subst Kept is k)
  elements_named (expr_and e es) ls rest (after, h, j) k =
      let p = expr_named e ls after h k in
      let q = more_elements_named es after rest j p.1 in
      (and_from (is_source_expr e) (are_source_exprs es) p.0 q.0, q.1)

  more_elements_named : (es : PureExprs) (ls rest : List Lexeme) → SpellsMoreElements Command es ls rest → Kept ls → IsTrue (are_source_exprs es) × Kept rest
  more_elements_named no_exprs ls rest is k = (refl, subst Kept is k)
  more_elements_named (expr_and e es) ls rest (inner, after, is, h, j) k =
      let p = expr_named e inner after h (subst Kept is k) in
      let q = more_elements_named es after rest j p.1 in
      (and_from (is_source_expr e) (are_source_exprs es) p.0 q.0, q.1)

-- ---- lists

more_exprs_named : (es : List PureExpr) (ls rest : List Lexeme) → SpellsMore (SpellsExpr Command) comma es ls rest → Kept ls → IsTrue (are_source_exprs (from_list es)) × Kept rest
more_exprs_named [] ls rest is k = (refl, subst Kept is k)
more_exprs_named (e ∷ es) ls rest (inner, after, is, h, j) k =
    let p = expr_named e inner after h (subst Kept is k) in
    let q = more_exprs_named es after rest j p.1 in
    (and_from (is_source_expr e) (are_source_exprs (from_list es)) p.0 q.0, q.1)

exprs_named : (es : List PureExpr) (ls rest : List Lexeme) → SpellsExprs Command es ls rest → Kept ls → IsTrue (are_source_exprs (from_list es)) × Kept rest
exprs_named [] ls rest is k = (refl, subst Kept is k)
exprs_named (e ∷ es) ls rest (after, h, j) k =
    let p = expr_named e ls after h k in
    let q = more_exprs_named es after rest j p.1 in
    (and_from (is_source_expr e) (are_source_exprs (from_list es)) p.0 q.0, q.1)

abbrev ValuesAreNamed : List PureField → Type 0
ValuesAreNamed fields = IsTrue (are_source_exprs (from_list (field_values fields)))

more_fields_named : (fields : List PureField) (ls rest : List Lexeme) → SpellsMore SpellsField comma fields ls rest → Kept ls → ValuesAreNamed fields × Kept rest
more_fields_named [] ls rest is k = (refl, subst Kept is k)
more_fields_named (f ∷ fields) ls rest (inner, after, is, (value, begins, h), j) k =
    let p = expr_named f.value value after h (past f.name (colon ∷ value) (subst Kept begins (subst Kept is k))) in
    let q = more_fields_named fields after rest j p.1 in
    (and_from (is_source_expr f.value) (are_source_exprs (from_list (field_values fields))) p.0 q.0, q.1)

fields_named : (fields : List PureField) (ls rest : List Lexeme) → SpellsSeparated SpellsField comma fields ls rest → Kept ls → ValuesAreNamed fields × Kept rest
fields_named [] ls rest is k = (refl, subst Kept is k)
fields_named (f ∷ fields) ls rest (after, (value, begins, h), j) k =
    let p = expr_named f.value value after h (past f.name (colon ∷ value) (subst Kept begins k)) in
    let q = more_fields_named fields after rest j p.1 in
    (and_from (is_source_expr f.value) (are_source_exprs (from_list (field_values fields))) p.0 q.0, q.1)

-- ---- statements

module _ (place : ℕ → ℕ) where
  mutual
    statement_named : (c : PureStatement) (ls rest : List Lexeme) → SpellsStatement place c ls rest → Kept ls → IsTrue (is_source_statement c) × Kept rest
    statement_named (assign x e) ls rest (value, is, h) k =
        let whole = subst Kept is k in
        let p = expr_named e value (semicolon ∷ rest) h (past x (equals ∷ value) whole) in
        (and_from (is_source_name x) (is_source_expr e) (named x (equals ∷ value) whole) p.0, p.1)
    statement_named (input x kind) ls rest (word, says, is) k = let whole = subst Kept is k in (named x rest whole, past x rest whole)
    statement_named (symbol x) ls rest is k = let whole = subst Kept is k in (named x rest whole, past x rest whole)
    statement_named (new x fields) ls rest (inner, is, h) k =
        let whole = subst Kept is k in
        let p = fields_named fields inner (closing_brace ∷ semicolon ∷ rest) h (past x inner whole) in
        (and_from (is_source_name x) (are_source_exprs (from_list (field_values fields))) (named x inner whole) p.0, p.1)
    statement_named (lookup x y q) ls rest is k =
        let whole = subst Kept is k in
        let second = past x (lexemes.Name y ∷ dot ∷ lexemes.Name q ∷ semicolon ∷ rest) whole in
        let third = past y (lexemes.Name q ∷ semicolon ∷ rest) second in (
          and_from (is_source_name x) (is_source_name y) (named x (lexemes.Name y ∷ dot ∷ lexemes.Name q ∷ semicolon ∷ rest) whole) (named y (lexemes.Name q ∷ semicolon ∷ rest) second),
          past q rest third,
        )
    statement_named (call x f es) ls rest (arguments, is, h) k =
        let whole = subst Kept is k in
        let second = past x (lexemes.Name f ∷ opening_parenthesis ∷ arguments) whole in
        let p = exprs_named es arguments (closing_parenthesis ∷ semicolon ∷ rest) h (past f arguments second) in
        (and_from (is_source_name x) (are_source_exprs (from_list es)) (named x (lexemes.Name f ∷ opening_parenthesis ∷ arguments) whole) p.0, p.1)
    statement_named (mutate y q e) ls rest (value, is, h) k =
        let whole = subst Kept is k in
        let second = past y (lexemes.Name q ∷ equals ∷ value) whole in
        let p = expr_named e value (semicolon ∷ rest) h (past q value second) in
        (and_from (is_source_name y) (is_source_expr e) (named y (lexemes.Name q ∷ equals ∷ value) whole) p.0, p.1)
    statement_named (dispose e) ls rest (value, is, h) k = expr_named e value (semicolon ∷ rest) h (subst Kept is k)
    statement_named (assert e) ls rest (guard, is, h) k = expr_named e guard (closing_parenthesis ∷ semicolon ∷ rest) h (subst Kept is k)
    statement_named (assume e) ls rest (guard, is, h) k = expr_named e guard (closing_parenthesis ∷ semicolon ∷ rest) h (subst Kept is k)
    statement_named (if_else e on off) ls rest (guard, block, after, is, h, (inner, opens, a), b) k =
        let p = expr_named e guard (closing_parenthesis ∷ block) h (subst Kept is k) in
        let q = statements_named on inner (closing_brace ∷ after) a (subst Kept opens p.1) in
        let r = otherwise_named off after rest b q.1 in
        (and_from (is_source_expr e) (is_source_block on && is_source_block off) p.0 (and_from (is_source_block on) (is_source_block off) q.0 r.0), r.1)
    statement_named (while e i body) ls rest (guard, after, block, is, h, a, (inner, opens, b)) k =
        let p = expr_named e guard (closing_parenthesis ∷ after) h (subst Kept is k) in
        let q = invariant_named i after block a p.1 in
        let r = statements_named body inner (closing_brace ∷ rest) b (subst Kept opens q.1) in
        (and_from (is_source_expr e) (has_source_invariant i && is_source_block body) p.0 (and_from (has_source_invariant i) (is_source_block body) q.0 r.0), r.1)
    statement_named (return e) ls rest (value, is, h) k = expr_named e value (semicolon ∷ rest) h (subst Kept is k)
    statement_named (fail e) ls rest (value, is, h) k = expr_named e value (semicolon ∷ rest) h (subst Kept is k)
    statement_named (logic c) ls rest h k = (refl, logic_kept c ls rest h k)

    otherwise_named : (off : PureBlock) (ls rest : List Lexeme) → SpellsElse place off ls rest → Kept ls → IsTrue (is_source_block off) × Kept rest
    otherwise_named no_statements ls rest (inl (none, is, ends)) k = (refl, subst Kept is k)
    otherwise_named no_statements ls rest (inr (block, is, (inner, opens, h))) k = (refl, subst Kept h (subst Kept opens (subst Kept is k)))
    otherwise_named (statement_and at c body) ls rest (inl (none, is, ends)) k = absurd (cc none)
    otherwise_named (statement_and at c body) ls rest (inr (block, is, (inner, opens, (after, e, one, more)))) k =
        let p = statement_named c inner after one (subst Kept opens (subst Kept is k)) in
        let q = statements_named body after (closing_brace ∷ rest) more p.1 in
        (and_from (is_source_statement c) (is_source_block body) p.0 q.0, q.1)

    statements_named : (body : PureBlock) (ls rest : List Lexeme) → SpellsStatements place body ls rest → Kept ls → IsTrue (is_source_block body) × Kept rest
    statements_named no_statements ls rest is k = (refl, subst Kept is k)
    statements_named (statement_and at c body) ls rest (after, e, one, more) k =
        let p = statement_named c ls after one k in
        let q = statements_named body after rest more p.1 in
        (and_from (is_source_statement c) (is_source_block body) p.0 q.0, q.1)

  pub function_named : (f : PureFunction) (ls rest : List Lexeme) → SpellsFunction place f ls rest → Kept ls → IsTrue (is_source_function f) × Kept rest
  function_named f ls rest (params, body, at, is, a, (inner, opens, b)) k =
      let p = names_named f.params params (closing_parenthesis ∷ body) a (past f.name (opening_parenthesis ∷ params) (subst Kept is k)) in
      let q = statements_named f.body inner (closing_brace ∷ rest) b (subst Kept opens p.1) in
      (and_from (list_all is_source_name f.params) (is_source_block f.body) p.0 q.0, q.1)
