-- What statements hold is well made where proper lexemes spell them, if expressions and simple statements are.
use Rattle.std.proofs.Common.{ℕ, List, Bool, ◌&&◌, Some, None, refl, subst, inl, inr}
use Rattle.std.proofs.lemmas.Bool.{and_from}
use Rattle.gil_lexemes.specs.declared.standing.Lexeme.{Lexeme}
use Rattle.gil_syntax.specs.Pure as gil
use Rattle.gil_syntax.specs.WellMade.{is_program_name}
use Rattle.gil_grammar.proofs.MadeLaws.{AreProper, Made, Makes, after, command_makes, program_name}
use Rattle.source_language.specs.Compiled.{logic_command}
use Rattle.source_text.specs.Logic.{SpellsLogic, SpellsInvariant}
use Rattle.source_statements.specs.Pure.{PureStatement, simple, assert, assume, if_else, while, return, logic, try_catch, PureBlock, no_statements, statement_and}
use Rattle.source_statements.specs.WellMade.{is_well_made_logic, is_well_made_invariant, is_well_made_statement, is_well_made_block}
use Rattle.statement_text.specs.Grammar.{Spellings, SpellsStatement, SpellsElse, SpellsStatements}

logic_made : Makes SpellsLogic is_well_made_logic
logic_made c ls rest p h = let read = command_makes (logic_command c) ls _ p h in record { is = read.is; proper = read.proper.1 }

invariant_made : Makes SpellsInvariant is_well_made_invariant
invariant_made None ls rest p is = record { is = refl; proper = subst AreProper is p }
invariant_made (Some i) ls rest p h = command_makes (gil.loop_invariant i.names i.logicals i.items) ls rest p h

module _ {E S : Type 0} (g : Spellings E S) (is_made_expression : E → Bool) (is_made_simple : S → Bool)
    (expressions : Makes g.expression is_made_expression) (simples : Makes g.simple is_made_simple) (place : ℕ → ℕ) where
  abbrev is_made_block : PureBlock E S → Bool
  is_made_block b = is_well_made_block is_made_expression is_made_simple b

  abbrev is_made : PureStatement E S → Bool
  is_made c = is_well_made_statement is_made_expression is_made_simple c

  mutual
    statement_made : Makes (SpellsStatement g place) is_made
    statement_made (simple c) ls rest p h = simples c ls rest p h
    statement_made (assert e) ls rest p (guard, is, h) =
        let read = expressions e guard _ (subst AreProper is p).1.1 h in
        record { is = read.is; proper = read.proper.1.1 }
    statement_made (assume e) ls rest p (guard, is, h) =
        let read = expressions e guard _ (subst AreProper is p).1.1 h in
        record { is = read.is; proper = read.proper.1.1 }
    statement_made (if_else e on off) ls rest p (guard, block, behind, is, h, (inner, opens, a), b) =
        let first = expressions e guard _ (subst AreProper is p).1.1 h in
        let second = statements_made on inner _ (after _ block inner opens first.proper.1) a in
        let third = otherwise_made off behind rest second.proper.1 b in
        record {
          is = and_from (is_made_expression e) (is_made_block on && is_made_block off) first.is (and_from (is_made_block on) (is_made_block off) second.is third.is);
          proper = third.proper;
        }
    statement_made (while e i body) ls rest p (guard, behind, block, is, h, a, (inner, opens, b)) =
        let first = expressions e guard _ (subst AreProper is p).1.1 h in
        let second = invariant_made i behind block first.proper.1 a in
        let third = statements_made body inner _ (after _ block inner opens second.proper) b in
        record {
          is = and_from (is_made_expression e) (is_well_made_invariant i && is_made_block body) first.is (and_from (is_well_made_invariant i) (is_made_block body) second.is third.is);
          proper = third.proper.1;
        }
    statement_made (return e) ls rest p (value, is, h) =
        let read = expressions e value _ (after _ ls value is p) h in
        record { is = read.is; proper = read.proper.1 }
    statement_made (logic c) ls rest p h = logic_made c ls rest p h
    statement_made (try_catch body x handler) ls rest p (block, other, has, is, (inner, opens, a), (inner', opens', b)) =
        let first = statements_made body inner _ (after _ block inner opens (after _ ls block is p)) a in
        let behind_brace = first.proper.1 in
        let second = statements_made handler inner' _ (after _ other inner' opens' behind_brace.1.1.1.1) b in
        record {
          is = and_from (is_program_name x) (is_made_block body && is_made_block handler) (program_name x behind_brace.1.1.0)
              (and_from (is_made_block body) (is_made_block handler) first.is second.is);
          proper = second.proper.1;
        }

    otherwise_made : (off : PureBlock E S) (ls rest : List Lexeme) → AreProper ls → SpellsElse g place off ls rest → Made (is_made_block off) rest
    otherwise_made no_statements ls rest p (inl (none, is, ends)) = record { is = refl; proper = subst AreProper is p }
    otherwise_made no_statements ls rest p (inr (block, is, (inner, opens, h))) =
        record { is = refl; proper = (subst AreProper h (after _ block inner opens (after _ ls block is p))).1 }
    otherwise_made (statement_and at c body) ls rest p (inl (none, is, ends)) = absurd (cc none)
    otherwise_made (statement_and at c body) ls rest p (inr (block, is, (inner, opens, (behind, e, one, more)))) =
        let first = statement_made c inner behind (after _ block inner opens (after _ ls block is p)) one in
        let others = statements_made body behind _ first.proper more in
        record { is = and_from (is_made c) (is_made_block body) first.is others.is; proper = others.proper.1 }

    pub statements_made : Makes (SpellsStatements g place) is_made_block
    statements_made no_statements ls rest p is = record { is = refl; proper = subst AreProper is p }
    statements_made (statement_and at c body) ls rest p (behind, e, one, more) =
        let first = statement_made c ls behind p one in
        let others = statements_made body behind rest first.proper more in
        record { is = and_from (is_made c) (is_made_block body) first.is others.is; proper = others.proper }
