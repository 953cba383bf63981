-- Texts name only what source texts can name.
use Rattle.std.proofs.Common.{ℕ, List, ◌∷◌, ◌&&◌, subst}
use Rattle.std.specs.Prelude.{IsTrue}
use Rattle.std.specs.List.{list_all}
use Rattle.std.proofs.lemmas.Bool.{and_from}
use Rattle.gil_lexer.specs.declared.words.Word.TheVariants as words
use Rattle.gil_lexemes.specs.declared.standing.Lexeme.{Lexeme}
use Rattle.gil_lexemes.specs.declared.standing.Lexeme.TheVariants as lexemes
use Rattle.gil_grammar.specs.Texts.{byte_before}
use Rattle.gil_grammar.specs.Vocabulary.{opening_parenthesis, closing_parenthesis, closing_brace}
use Rattle.source_language.specs.Names.{is_source_name}
use Rattle.source_operators.specs.Names.{is_source_expression}
use Rattle.source_statements.specs.Names as statements
use Rattle.source_text.proofs.NameLaws.{Kept, tail, named, past, names_named, items_named}
use Rattle.statement_text.proofs.StatementNames.{statements_named}
use Rattle.object_lang.specs.Names.{is_source_simple, is_source_function}
use Rattle.object_lang.specs.Pure.{PureFunction, PureSource}
use Rattle.object_grammar.specs.Functions.{object_spellings, SpellsFunction}
use Rattle.object_grammar.specs.Texts.{SpellSource}
use Rattle.object_grammar.proofs.NameLaws.{expression_named, simple_named}

pub function_named : (place : ℕ → ℕ) (f : PureFunction) (ls rest : List Lexeme) → SpellsFunction place f ls rest → Kept ls
    → IsTrue (is_source_function f) × Kept rest
function_named place f ls rest (params, body, at, is, a, (inner, opens, b)) k =
    let head : Kept (lexemes.Name f.name ∷ opening_parenthesis ∷ params) =
    tail (lexemes.Word words.Function) (lexemes.Name f.name ∷ opening_parenthesis ∷ params) (subst Kept is k) in
    let p = names_named f.params params (closing_parenthesis ∷ body) a (past f.name (opening_parenthesis ∷ params) head) in
    let q = statements_named object_spellings is_source_expression is_source_simple expression_named simple_named place f.body inner (closing_brace ∷ rest) b
    (subst Kept opens p.1) in (
      and_from (is_source_name f.name) (list_all is_source_name f.params && statements.is_source_block object_spellings.has_try is_source_expression is_source_simple f.body)
          (named f.name (opening_parenthesis ∷ params) head)
          (and_from (list_all is_source_name f.params) (statements.is_source_block object_spellings.has_try is_source_expression is_source_simple f.body) p.0 q.0),
      q.1,
    )

pub source_named : (bytes : List ℕ) (source : PureSource) → SpellSource bytes source → IsTrue (list_all (λ f. is_source_function f) source.functions)
source_named bytes source (items, s, is) =
    subst (λ (p : PureSource). IsTrue (list_all (λ f. is_source_function f) p.functions)) is
    (items_named SpellsFunction (byte_before s.tokens) (λ f. is_source_function f) (function_named (byte_before s.tokens)) items s.lexemes s.spelled s.names)
