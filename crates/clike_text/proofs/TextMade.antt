-- What a text spells compiles to a well made program.
use Rattle.std.proofs.Common.{◌≡◌, ℕ, true, List, ◌∷◌, subst}
use Rattle.std.proofs.lemmas.Bool.{and_from}
use Rattle.gil_lexemes.specs.declared.standing.Lexeme.TheVariants as lexemes
use Rattle.gil_syntax.specs.WellMade.{is_program_name, is_well_made_proc, is_well_made}
use Rattle.gil_grammar.specs.Vocabulary.{opening_parenthesis, closing_parenthesis, closing_brace, comma}
use Rattle.gil_grammar.proofs.MadeLaws.{AreProper, Makes, after, separated_make, program_name}
use Rattle.operator_text.specs.Few.{IsNestedWithFew}
use Rattle.source_operators.proofs.Making.{is_made_expression}
use Rattle.source_text.proofs.MadeLaws.{text_makes}
use Rattle.statement_text.proofs.StatementsMade.{statements_made}
use Rattle.clike_lang.specs.Pure.{PureSource}
use Rattle.clike_compiler.specs.Compiled.{compiled_function, compiled}
use Rattle.clike_compiler.proofs.WellMade.{is_made_simple, made_function}
use Rattle.clike_grammar.specs.Functions.{clike_spellings, SpellsFunction}
use Rattle.clike_grammar.specs.Statements.{SpellsDeclared}
use Rattle.clike_grammar.specs.Texts.{SpellSource}
use Rattle.clike_text.proofs.SimpleMade.{behind_stars, expression_makes, simple_makes}

declared_makes : Makes SpellsDeclared is_program_name
declared_makes x ls rest p (n, is) =
    let front = behind_stars n (lexemes.Name x ∷ rest) (subst AreProper is p).1 in
    record { is = program_name x front.0; proper = front.1 }

function_makes : (place : ℕ → ℕ) → Makes (SpellsFunction place) (λ f. is_well_made_proc (compiled_function f))
function_makes place f ls rest p (params, block, at, h, a, (inner, opens, b)) =
    let head = declared_makes f.name ls (opening_parenthesis ∷ params) p h in
    let names = separated_make SpellsDeclared is_program_name declared_makes comma f.params params (closing_parenthesis ∷ block) head.proper.1 a in
    let body = statements_made clike_spellings is_made_expression is_made_simple expression_makes simple_makes place f.body inner (closing_brace ∷ rest)
    (after _ block inner opens names.proper.1) b in
    record { is = made_function f (and_from _ _ names.is body.is); proper = body.proper.1 }

-- what a text spells compiles to a well made program
pub source_makes : (bytes : List ℕ) (source : PureSource) → SpellSource bytes source → is_well_made (compiled source) ≡ true
source_makes bytes source (items, s, is) =
    let made = text_makes SpellsFunction compiled_function function_makes IsNestedWithFew bytes items s in
    subst (λ (written : PureSource). is_well_made (compiled written) ≡ true) is (and_from _ _ (and_from _ _ made.functions made.specs) made.preds)
