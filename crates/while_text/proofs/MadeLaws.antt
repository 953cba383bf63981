-- What a text spells compiles to a well made program: what it holds of names, kinds and literals is well made, and the names of
-- temporaries, which the compiled commands have besides, begin with no `#`.
use Rattle.std.proofs.Common.{◌≡◌, ℕ, ◌+◌, true, List, [], ◌∷◌, ◌++◌, length, refl, subst, inl, inr, None}
use Rattle.std.specs.Prelude.{codes}
use Rattle.std.specs.List.{list_all}
use Rattle.std.proofs.lemmas.Bool.{and_from, and_parts}
use Rattle.gil_values.specs.Pure.{procedure}
use Rattle.gil_lexemes.specs.declared.standing.Lexeme.{Lexeme}
use Rattle.gil_syntax.specs.Pure.{PureExpr, literal, name, list_of, from_list, assign, call, act, usym, isym, return, fail, PureNumberedCommand}
use Rattle.gil_syntax.specs.Subexpressions.{subexpressions_of_all}
use Rattle.gil_syntax.specs.WellMade.{is_program_name, is_well_made_node, is_well_made_expr, is_well_made_command, is_well_made_proc, is_well_made}
use Rattle.gil_grammar.specs.declared.positions.Position.TheVariants.{Command}
use Rattle.gil_grammar.specs.Commands.{SpellsName}
use Rattle.gil_grammar.specs.Nesting.{IsNested}
use Rattle.gil_grammar.specs.Vocabulary.{comma}
use Rattle.gil_grammar.proofs.MadeLaws.{AreProper, Makes, after, separated_make, program_name, expr_makes, exprs_make, input_makes, name_makes}
use Rattle.source_language.specs.Names.{temporary, temporaries_from}
use Rattle.source_language.specs.Procedures.{placed}
use Rattle.source_language.proofs.Made.{AreMade, one_expr, made_one, made_append, made_assert, made_assume, made_if, made_while, made_temporaries, made_procedure}
use Rattle.source_text.proofs.MadeLaws.{Spelled, invariant_makes, logic_makes, text_makes}
use Rattle.while_lang.specs.Pure as while
use Rattle.while_lang.specs.Pure.{PureField, PureStatement, PureBlock, no_statements, statement_and, PureSource}
use Rattle.while_grammar.specs.Statements.{SpellsField, SpellsStatement, SpellsElse, SpellsStatements, SpellsFunction}
use Rattle.while_grammar.specs.Texts.{SpellSource}
use Rattle.while_compiler.specs.Compiled.{block_temporaries, function_names, head_code, name_literals, field_values_code, fill_code, new_code, property, statement_code, block_code, compiled_function, compiled}

-- ---- the commands of a statement

named : (x : List ℕ) → is_program_name x ≡ true → is_well_made_expr (name x) ≡ true
named x h = and_from _ true h refl

made-names : (fields : List PureField) → list_all is_well_made_node (subexpressions_of_all (from_list (name_literals fields))) ≡ true
made-names [] = refl
made-names (field ∷ fields) = made-names fields

abbrev HaveMadeValues : List PureField → Type 0
HaveMadeValues fields = list_all (λ field. is_well_made_expr field.value) fields ≡ true

made-values : (at i : ℕ) (fields : List PureField) → HaveMadeValues fields → AreMade (field_values_code at i fields)
made-values at i [] h = refl
made-values at i (field ∷ fields) h =
    let parts = and_parts (is_well_made_expr field.value) _ h in
    and_from (is_well_made_command (assign (temporary i) field.value)) _ (one_expr field.value parts.0) (made-values at (i + 1) fields parts.1)

made-filling : (at made written i : ℕ) (fields : List PureField) → AreMade (fill_code at made written i fields)
made-filling at made written i [] = refl
made-filling at made written i (field ∷ fields) = made-filling at made written (i + 1) fields

made-new : (at : ℕ) (x : List ℕ) (fields : List PureField) → is_program_name x ≡ true → HaveMadeValues fields → AreMade (new_code at x fields)
made-new at x fields h values = made_append (field_values_code at 0 fields) (made ∷ (filling ++ last)) (made-values at 0 fields values)
    (and_from (is_well_made_command made.command) _ (and_from (is_well_made_expr literals) true (made-names fields) refl)
    (made_append filling last (made-filling at (length fields) (length fields + 1) 0 fields)
    (made_one at (assign x (name (temporary (length fields)))) (and_from (is_program_name x) _ h refl))))
  where
    literals : PureExpr
    literals = list_of (from_list (name_literals fields))

    made : PureNumberedCommand
    made = placed at (act (temporary (length fields)) (codes "new") (literals ∷ []))

    filling : List PureNumberedCommand
    filling = fill_code at (length fields) (length fields + 1) 0 fields

    last : List PureNumberedCommand
    last = placed at (assign x (name (temporary (length fields)))) ∷ []

-- ---- what lexemes spell

-- wherever its commands stand
abbrev StatementIsMade : PureStatement → Type 0
StatementIsMade c = (pc at : ℕ) → AreMade (statement_code pc at c)

abbrev BlockIsMade : PureBlock → Type 0
BlockIsMade body = (pc : ℕ) → AreMade (block_code pc body)

field_makes : Makes SpellsField (λ field. is_well_made_expr field.value)
field_makes field ls rest p (value, is, h) = expr_makes Command field.value value rest (subst AreProper is p).1.1 h

module _ (place : ℕ → ℕ) where
  mutual
    statement_makes : (c : PureStatement) (ls rest : List Lexeme) → AreProper ls → SpellsStatement place c ls rest → Spelled (StatementIsMade c) rest
    statement_makes (while.assign x e) ls rest p (value, is, h) =
        let front = subst AreProper is p in
        let read = expr_makes Command e value _ front.1.1 h in
        record { is = λ pc at. made_one at (assign x e) (and_from _ _ (program_name x front.0) (one_expr e read.is)); proper = read.proper.1 }
    statement_makes (while.input x k) ls rest p (word, says, is) =
        let front = subst AreProper is p in
        record { is = λ pc at. made_one at (isym x k) (and_from _ _ (and_from _ _ (program_name x front.0) (input_makes k word says)) refl); proper = front.1.1.1.1.1 }
    statement_makes (while.symbol x) ls rest p is =
        let front = subst AreProper is p in
        record { is = λ pc at. made_one at (usym x) (and_from _ _ (program_name x front.0) refl); proper = front.1.1.1.1 }
    statement_makes (while.new x fields) ls rest p (inner, is, h) =
        let front = subst AreProper is p in
        let read = separated_make SpellsField (λ field. is_well_made_expr field.value) field_makes comma fields inner _ front.1.1.1.1 h in
        record { is = λ pc at. made-new at x fields (program_name x front.0) read.is; proper = read.proper.1.1 }
    statement_makes (while.lookup x y q) ls rest p is =
        let front = subst AreProper is p in
        record {
          is = λ pc at. made_one at (act x (codes "lookup") (name y ∷ property q ∷ [])) (and_from (is_program_name x) _ (program_name x front.0)
              (and_from (is_well_made_expr (name y)) _ (named y (program_name y front.1.1.0)) refl));
          proper = front.1.1.1.1.1.1;
        }
    statement_makes (while.call x f es) ls rest p (arguments, is, h) =
        let front = subst AreProper is p in
        let read = exprs_make Command es arguments _ front.1.1.1.1 h in
        record { is = λ pc at. made_one at (call x (literal (procedure f)) es None) (and_from _ _ (program_name x front.0) read.is); proper = read.proper.1.1 }
    statement_makes (while.mutate y q e) ls rest p (value, is, h) =
        let front = subst AreProper is p in
        let read = expr_makes Command e value _ front.1.1.1.1 h in
        record {
          is = λ pc at. made_one at (act (temporary 0) (codes "mutate") (name y ∷ property q ∷ e ∷ []))
              (and_from (is_well_made_expr (name y)) _ (named y (program_name y front.0)) (one_expr e read.is));
          proper = read.proper.1;
        }
    statement_makes (while.dispose e) ls rest p (value, is, h) =
        let read = expr_makes Command e value _ (after _ ls value is p) h in
        record { is = λ pc at. made_one at (act (temporary 0) (codes "dispose") (e ∷ [])) (one_expr e read.is); proper = read.proper.1 }
    statement_makes (while.assert e) ls rest p (guard, is, h) =
        let read = expr_makes Command e guard _ (subst AreProper is p).1.1 h in
        record { is = λ pc at. made_assert pc at e read.is; proper = read.proper.1.1 }
    statement_makes (while.assume e) ls rest p (guard, is, h) =
        let read = expr_makes Command e guard _ (subst AreProper is p).1.1 h in
        record { is = λ pc at. made_assume pc at e read.is; proper = read.proper.1.1 }
    statement_makes (while.if_else e on off) ls rest p (guard, block, behind, is, h, (inner, opens, a), b) =
        let first = expr_makes Command e guard _ (subst AreProper is p).1.1 h in
        let second = statements_make on inner _ (after _ block inner opens first.proper.1) a in
        let third = otherwise_makes off behind rest second.proper.1 b in
        record {
          is = λ pc at. made_if pc at e (block_code (pc + 1) off) (block_code (pc + 1 + length (block_code (pc + 1) off) + 1) on) first.is (third.is (pc + 1))
              (second.is (pc + 1 + length (block_code (pc + 1) off) + 1));
          proper = third.proper;
        }
    statement_makes (while.while e i body) ls rest p (guard, behind, block, is, h, a, (inner, opens, b)) =
        let first = expr_makes Command e guard _ (subst AreProper is p).1.1 h in
        let second = invariant_makes i behind block first.proper.1 a in
        let third = statements_make body inner _ (after _ block inner opens second.proper) b in
        record {
          is = λ pc at. made_while pc at e (head_code at i body) (block_code (pc + length (head_code at i body) + 1 + 1) body) first.is
              (second.is at (temporaries_from 0 (block_temporaries body)) (made_temporaries (block_temporaries body)))
              (third.is (pc + length (head_code at i body) + 1 + 1));
          proper = third.proper.1;
        }
    statement_makes (while.return e) ls rest p (value, is, h) =
        let read = expr_makes Command e value _ (after _ ls value is p) h in
        record { is = λ pc at. made_one at (return e) (one_expr e read.is); proper = read.proper.1 }
    statement_makes (while.fail e) ls rest p (value, is, h) =
        let read = expr_makes Command e value _ (after _ ls value is p) h in
        record { is = λ pc at. made_one at (fail e) (one_expr e read.is); proper = read.proper.1 }
    statement_makes (while.logic c) ls rest p h =
        let read = logic_makes c ls rest p h in
        record { is = λ pc at. read.is at; proper = read.proper }

    otherwise_makes : (off : PureBlock) (ls rest : List Lexeme) → AreProper ls → SpellsElse place off ls rest → Spelled (BlockIsMade off) rest
    otherwise_makes no_statements ls rest p (inl (none, is, ends)) = record { is = λ pc. refl; proper = subst AreProper is p }
    otherwise_makes no_statements ls rest p (inr (block, is, (inner, opens, h))) =
        record { is = λ pc. refl; proper = (subst AreProper h (after _ block inner opens (after _ ls block is p))).1 }
    otherwise_makes (statement_and at c body) ls rest p (inl (none, is, ends)) = absurd (cc none)
    otherwise_makes (statement_and at c body) ls rest p (inr (block, is, (inner, opens, (behind, e, one, more)))) =
        let first = statement_makes c inner behind (after _ block inner opens (after _ ls block is p)) one in
        let others = statements_make body behind _ first.proper more in
        record {
          is = λ pc. made_append (statement_code pc at c) (block_code (pc + length (statement_code pc at c)) body) (first.is pc at) (others.is (pc + length (statement_code pc at c)));
          proper = others.proper.1;
        }

    statements_make : (body : PureBlock) (ls rest : List Lexeme) → AreProper ls → SpellsStatements place body ls rest → Spelled (BlockIsMade body) rest
    statements_make no_statements ls rest p is = record { is = λ pc. refl; proper = subst AreProper is p }
    statements_make (statement_and at c body) ls rest p (behind, e, one, more) =
        let first = statement_makes c ls behind p one in
        let others = statements_make body behind rest first.proper more in
        record {
          is = λ pc. made_append (statement_code pc at c) (block_code (pc + length (statement_code pc at c)) body) (first.is pc at) (others.is (pc + length (statement_code pc at c)));
          proper = others.proper;
        }

  -- ---- items

  function_makes : Makes (SpellsFunction place) (λ f. is_well_made_proc (compiled_function f))
  function_makes f ls rest p (params, block, at, is, a, (inner, opens, b)) =
      let names = separated_make SpellsName is_program_name name_makes comma f.params params _ (subst AreProper is p).1.1.1 a in
      let body = statements_make f.body inner _ (after _ block inner opens names.proper.1) b in
      record {
        is = made_procedure f.name f.params f.at (function_names f) (λ pc. block_code pc f.body) names.is (made_temporaries (block_temporaries f.body))
            (body.is (length (function_names f)));
        proper = body.proper.1;
      }

-- what a text spells compiles to a well made program
pub source_makes : (bytes : List ℕ) (source : PureSource) → SpellSource bytes source → is_well_made (compiled source) ≡ true
source_makes bytes source (items, s, is) =
    let made = text_makes SpellsFunction compiled_function function_makes IsNested bytes items s in
    subst (λ (written : PureSource). is_well_made (compiled written) ≡ true) is (and_from _ _ (and_from _ _ made.functions made.specs) made.preds)
