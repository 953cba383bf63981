use Rattle.std.proofs.Common.{◌≡◌, ◌≤◌, length, sym, subst, arith, ◌∙◌, List}
use Rattle.gil_lexemes.specs.declared.standing.Lexeme.{Lexeme}
use Rattle.gil_grammar.specs.Annotations.{SpellsAnnotation}
use Rattle.gil_grammar.specs.Nesting.{IsNestedFrom}
use Rattle.gil_text.proofs.AnnotationLemmas.{nested_drop}
use Rattle.gil_text.proofs.annotations.read_assertions.Goals as goal

pub returns-in-Ok-clause-longest : goal.returns-in-Ok-clause-longest
returns-in-Ok-clause-longest c = λ lexemes other left stand nested spelled.
    let same = sym (c.cursor_at-cursor.ensures.behind lexemes stand) in
    let behind = nested_drop 0 lexemes c.args.from nested in
    let nested' = subst (IsNestedFrom behind.0) same behind.1 in
    let spelled' = subst (λ (ls : List Lexeme). SpellsAnnotation other ls left) same spelled in
    let past = c.in-Ok.ensures.longest behind.0 other left nested' spelled' in
    omega (arith, past, c.len.ensures, c.left.ensures, c.in-Ok.ensures.shorter, c.cursor_at-cursor.ensures.left)

pub returns-in-Err-Syntax-clause-none : goal.returns-in-Err-Syntax-clause-none
returns-in-Err-Syntax-clause-none c = λ lexemes a left stand nested spelled.
    let same = sym (c.cursor_at-cursor.ensures.behind lexemes stand) in
    let behind = nested_drop 0 lexemes c.args.from nested in
    let nested' = subst (IsNestedFrom behind.0) same behind.1 in
    let spelled' = subst (λ (ls : List Lexeme). SpellsAnnotation a ls left) same spelled in
    let memory = sym c.in-Err-Syntax.field-0-is ∙ c.in-Err-Syntax.ensures.none behind.0 a left nested' spelled' in
    absurd (cc memory)
