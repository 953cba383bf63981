-- Texts name only what source texts can name.
use Rattle.std.proofs.Common.{ℕ, List, [], ◌∷◌, refl, subst}
use Rattle.std.specs.Prelude.{IsTrue}
use Rattle.std.specs.List.{list_all}
use Rattle.std.proofs.lemmas.Bool.{and_from}
use Rattle.gil_lexer.specs.declared.words.Word.TheVariants as words
use Rattle.gil_lexemes.specs.declared.standing.Lexeme.{Lexeme}
use Rattle.gil_lexemes.specs.declared.standing.Lexeme.TheVariants as lexemes
use Rattle.gil_grammar.specs.Lists.{SpellsMore, SpellsSeparated}
use Rattle.gil_grammar.specs.Texts.{byte_before}
use Rattle.gil_grammar.specs.Vocabulary.{opening_parenthesis, closing_parenthesis, closing_brace, comma}
use Rattle.source_language.specs.Names.{is_source_name}
use Rattle.source_operators.specs.Names.{is_source_expression}
use Rattle.source_statements.specs.Names as statements
use Rattle.source_text.proofs.NameLaws.{Kept, tail, named, past, items_named}
use Rattle.statement_text.proofs.StatementNames.{statements_named}
use Rattle.clike_lang.specs.Names.{is_source_simple, is_source_function}
use Rattle.clike_lang.specs.Pure.{PureFunction, PureSource}
use Rattle.clike_grammar.specs.Functions.{clike_spellings, SpellsFunction}
use Rattle.clike_grammar.specs.Statements.{stars, SpellsDeclared}
use Rattle.clike_grammar.specs.Texts.{SpellSource}
use Rattle.clike_grammar.proofs.NameLaws.{expression_named, simple_named}
use Rattle.clike_grammar.proofs.Rests.{stars_keep, declared_keeps}

declared_named : (x : List ℕ) (ls rest : List Lexeme) → SpellsDeclared x ls rest → Kept ls → IsTrue (is_source_name x) × Kept rest
declared_named x ls rest (n, is) k =
    let whole = stars_keep Kept tail n (lexemes.Name x ∷ rest) (tail (lexemes.Word words.Int) (stars n (lexemes.Name x ∷ rest)) (subst Kept is k)) in
    (named x rest whole, past x rest whole)

more_named : (xs : List (List ℕ)) (ls rest : List Lexeme) → SpellsMore SpellsDeclared comma xs ls rest → Kept ls
    → IsTrue (list_all is_source_name xs) × Kept rest
more_named [] ls rest is k = (refl, subst Kept is k)
more_named (x ∷ xs) ls rest (inner, after, is, one, more) k =
    let p = declared_named x inner after one (subst Kept is k) in
    let q = more_named xs after rest more p.1 in
    (and_from (is_source_name x) (list_all is_source_name xs) p.0 q.0, q.1)

params_named : (xs : List (List ℕ)) (ls rest : List Lexeme) → SpellsSeparated SpellsDeclared comma xs ls rest → Kept ls
    → IsTrue (list_all is_source_name xs) × Kept rest
params_named [] ls rest is k = (refl, subst Kept is k)
params_named (x ∷ xs) ls rest (after, one, more) k =
    let p = declared_named x ls after one k in
    let q = more_named xs after rest more p.1 in
    (and_from (is_source_name x) (list_all is_source_name xs) p.0 q.0, q.1)

pub function_named : (place : ℕ → ℕ) (f : PureFunction) (ls rest : List Lexeme) → SpellsFunction place f ls rest → Kept ls
    → IsTrue (is_source_function f) × Kept rest
function_named place f ls rest (params, body, at, h, a, (inner, opens, b)) k =
    let p = params_named f.params params (closing_parenthesis ∷ body) a (declared_keeps Kept tail f.name ls (opening_parenthesis ∷ params) h k) in
    let q = statements_named clike_spellings is_source_expression is_source_simple
    (λ e ls rest h k. expression_named e 0 ls rest h k) simple_named place f.body inner (closing_brace ∷ rest) b (subst Kept opens p.1) in
    (and_from (list_all is_source_name f.params) (statements.is_source_block clike_spellings.has_try is_source_expression is_source_simple f.body) p.0 q.0, q.1)

pub source_named : (bytes : List ℕ) (source : PureSource) → SpellSource bytes source → IsTrue (list_all (λ f. is_source_function f) source.functions)
source_named bytes source (items, s, is) =
    subst (λ (p : PureSource). IsTrue (list_all (λ f. is_source_function f) p.functions)) is
    (items_named SpellsFunction (byte_before s.tokens) (λ f. is_source_function f) (function_named (byte_before s.tokens)) items s.lexemes s.spelled s.names)
