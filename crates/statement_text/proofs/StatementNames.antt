-- Statements that lexemes without '$' spell name only what a source text can name, where expressions and simple statements do.
use Rattle.std.proofs.Common.{ℕ, List, ◌∷◌, Bool, refl, subst, inl, inr}
use Rattle.std.specs.Prelude.{◌&&◌, IsTrue}
use Rattle.std.proofs.lemmas.Bool.{and_from}
use Rattle.gil_lexer.specs.declared.words.Word.TheVariants as words
use Rattle.gil_lexemes.specs.declared.standing.Lexeme.{Lexeme}
use Rattle.gil_lexemes.specs.declared.standing.Lexeme.TheVariants as lexemes
use Rattle.gil_grammar.specs.Vocabulary.{opening_parenthesis, closing_parenthesis, closing_brace, semicolon}
use Rattle.source_language.specs.Names.{is_source_name, has_source_invariant}
use Rattle.source_text.proofs.NameLaws.{Kept, named, past, logic_kept, invariant_named}
use Rattle.source_statements.specs.Names.{is_source_statement, is_source_block}
use Rattle.source_statements.specs.Pure.{PureStatement, simple, assert, assume, if_else, while, return, logic, try_catch, PureBlock, no_statements, statement_and}
use Rattle.statement_text.specs.Grammar.{Spelling, Spellings, SpellsStatement, SpellsElse, SpellsStatements}

-- what is spelled passes a test where its lexemes are those of a source text, and so are those behind it
abbrev pub AreNamed : {X : Type 0} → Spelling X → (X → Bool) → Type 0
AreNamed {X} spells test = (x : X) (ls rest : List Lexeme) → spells x ls rest → Kept ls → IsTrue (test x) × Kept rest

module _ {E S : Type 0} (g : Spellings E S) (is_source_expression : E → Bool) (is_source_simple : S → Bool)
    (expressions : AreNamed g.expression is_source_expression) (simples : AreNamed g.simple is_source_simple) (place : ℕ → ℕ) where
  abbrev is_named_block : PureBlock E S → Bool
  is_named_block b = is_source_block g.has_try is_source_expression is_source_simple b

  abbrev is_named : PureStatement E S → Bool
  is_named c = is_source_statement g.has_try is_source_expression is_source_simple c

  mutual
    statement_named : (c : PureStatement E S) (ls rest : List Lexeme) → SpellsStatement g place c ls rest → Kept ls → IsTrue (is_named c) × Kept rest
    statement_named (simple c) ls rest h k = simples c ls rest h k
    statement_named (assert e) ls rest (guard, is, h) k = expressions e guard (closing_parenthesis ∷ semicolon ∷ rest) h (subst Kept is k)
    statement_named (assume e) ls rest (guard, is, h) k = expressions e guard (closing_parenthesis ∷ semicolon ∷ rest) h (subst Kept is k)
    statement_named (if_else e on off) ls rest (guard, block, after, is, h, (inner, opens, a), b) k =
        let p = expressions e guard (closing_parenthesis ∷ block) h (subst Kept is k) in
        let q = statements_named on inner (closing_brace ∷ after) a (subst Kept opens p.1) in
        let r = otherwise_named off after rest b q.1 in
        (and_from (is_source_expression e) (is_named_block on && is_named_block off) p.0 (and_from (is_named_block on) (is_named_block off) q.0 r.0), r.1)
    statement_named (while e i body) ls rest (guard, after, block, is, h, a, (inner, opens, b)) k =
        let p = expressions e guard (closing_parenthesis ∷ after) h (subst Kept is k) in
        let q = invariant_named i after block a p.1 in
        let r = statements_named body inner (closing_brace ∷ rest) b (subst Kept opens q.1) in
        (and_from (is_source_expression e) (has_source_invariant i && is_named_block body) p.0 (and_from (has_source_invariant i) (is_named_block body) q.0 r.0), r.1)
    statement_named (return e) ls rest (value, is, h) k = expressions e value (semicolon ∷ rest) h (subst Kept is k)
    statement_named (logic c) ls rest h k = (refl, logic_kept c ls rest h k)
    statement_named (try_catch body x handler) ls rest (block, other, has, is, (inner, opens, a), (inner', opens', b)) k =
        let p = statements_named body inner (closing_brace ∷ lexemes.Word words.Catch ∷ opening_parenthesis ∷ lexemes.Name x ∷ closing_parenthesis ∷ other) a
        (subst Kept opens (subst Kept is k)) in
        let q = statements_named handler inner' (closing_brace ∷ rest) b (subst Kept opens' (past x (closing_parenthesis ∷ other) p.1)) in (
          and_from g.has_try (is_source_name x && (is_named_block body && is_named_block handler)) has
              (and_from (is_source_name x) (is_named_block body && is_named_block handler) (named x (closing_parenthesis ∷ other) p.1)
              (and_from (is_named_block body) (is_named_block handler) p.0 q.0)),
          q.1,
        )

    otherwise_named : (off : PureBlock E S) (ls rest : List Lexeme) → SpellsElse g place off ls rest → Kept ls → IsTrue (is_named_block off) × Kept rest
    otherwise_named no_statements ls rest (inl (none, is, ends)) k = (refl, subst Kept is k)
    otherwise_named no_statements ls rest (inr (block, is, (inner, opens, h))) k = (refl, subst Kept h (subst Kept opens (subst Kept is k)))
    otherwise_named (statement_and at c body) ls rest (inl (none, is, ends)) k = absurd (cc none)
    otherwise_named (statement_and at c body) ls rest (inr (block, is, (inner, opens, (after, e, one, more)))) k =
        let p = statement_named c inner after one (subst Kept opens (subst Kept is k)) in
        let q = statements_named body after (closing_brace ∷ rest) more p.1 in
        (and_from (is_named c) (is_named_block body) p.0 q.0, q.1)

    pub statements_named : (body : PureBlock E S) (ls rest : List Lexeme) → SpellsStatements g place body ls rest → Kept ls → IsTrue (is_named_block body) × Kept rest
    statements_named no_statements ls rest is k = (refl, subst Kept is k)
    statements_named (statement_and at c body) ls rest (after, e, one, more) k =
        let p = statement_named c ls after one k in
        let q = statements_named body after rest more p.1 in
        (and_from (is_named c) (is_named_block body) p.0 q.0, q.1)
