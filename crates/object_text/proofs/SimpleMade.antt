-- The names and constants of expressions and statements of the object language are well made where proper lexemes spell them.
use Rattle.std.proofs.Common.{◌≡◌, ℕ, List, ◌∷◌, true, false, ◌&&◌, Some, refl, subst, inl, inr}
use Rattle.std.specs.List.{list_all}
use Rattle.std.proofs.lemmas.Bool.{and_from, and_parts}
use Rattle.gil_values.specs.declared.kinds.Kind.TheVariants.{Undef, Null}
use Rattle.gil_values.specs.Pure.{PureValue, integer, boolean, text, kind}
use Rattle.gil_lexer.specs.declared.words.Word.TheVariants as words
use Rattle.gil_lexemes.specs.declared.standing.Lexeme.{Lexeme}
use Rattle.gil_lexemes.specs.declared.standing.Lexeme.TheVariants as lexemes
use Rattle.gil_syntax.specs.WellMade.{is_spellable, is_drawable, is_program_name}
use Rattle.gil_grammar.specs.Vocabulary.{opening_parenthesis, semicolon}
use Rattle.gil_grammar.proofs.MadeLaws.{AreProper, Made, Makes, after, program_name, input_makes}
use Rattle.source_operators.specs.Operands.{Operand, known, named}
use Rattle.source_operators.specs.Pure.{joined}
use Rattle.source_operators.proofs.Making.{is_made_expression}
use Rattle.source_text.specs.Vocabulary.{equals}
use Rattle.operator_text.specs.Signs.{tight}
use Rattle.operator_text.proofs.Making as making
use Rattle.object_operators.specs.declared.trees.Joint.TheVariants.{Property}
use Rattle.object_operators.specs.Pure.{PureExpression}
use Rattle.object_lang.specs.Pure.{assign, input, create, proto, has, call, set, delete, set_proto, fail, throw}
use Rattle.object_compiler.proofs.WellMade.{is_made_simple}
use Rattle.object_grammar.specs.Signs.{object_signs, leaf}
use Rattle.object_grammar.specs.Statements.{SpellsExpression, SpellsTarget, SpellsSimple}
use Rattle.object_grammar.proofs.Leaves.{leaf_is_name}

abbrev IsSpellable : Operand → Type 0
IsSpellable (known v) = is_spellable v ≡ true
IsSpellable (named x) = Unit {0}

found_is : {X : Type 0} (x y : X) → Some x ≡ Some y → x ≡ y
found_is x y e = cc

leaf_spellable : (l : Lexeme) (a : Operand) → leaf l ≡ Some a → IsSpellable a
leaf_spellable (lexemes.Name y) a e = subst IsSpellable (found_is (named y) a e) tt
leaf_spellable (lexemes.Number n) a e = subst IsSpellable (found_is (known (integer n)) a e) refl
leaf_spellable (lexemes.Literal t) a e = subst IsSpellable (found_is (known (text t)) a e) refl
leaf_spellable (lexemes.Word words.True) a e = subst IsSpellable (found_is (known (boolean true)) a e) refl
leaf_spellable (lexemes.Word words.False) a e = subst IsSpellable (found_is (known (boolean false)) a e) refl
leaf_spellable (lexemes.Word words.Undefined) a e = subst IsSpellable (found_is (known (kind Undef)) a e) refl
leaf_spellable (lexemes.Word words.Null) a e = subst IsSpellable (found_is (known (kind Null)) a e) refl
leaf_spellable (lexemes.Word _) a e = absurd (cc)
leaf_spellable (lexemes.Logical y) a e = absurd (cc)
leaf_spellable (lexemes.Procedure f) a e = absurd (cc)
leaf_spellable (lexemes.Sign s) a e = absurd (cc)

constants : (l : Lexeme) (v : PureValue) → leaf l ≡ Some (known v) → is_spellable v ≡ true
constants l v e = leaf_spellable l (known v) e

pub expression_makes : Makes SpellsExpression is_made_expression
expression_makes e ls rest p h = making.expression_makes object_signs constants leaf_is_name e ls rest p h

-- ---- statements

target_makes : (x : List ℕ) (ls value : List Lexeme) → AreProper ls → SpellsTarget x ls value → Made (is_program_name x) value
target_makes x ls value p (inl is) = let front = subst AreProper is p in record { is = program_name x front.0; proper = front.1.1 }
target_makes x ls value p (inr is) = let front = subst AreProper is p in record { is = program_name x front.1.0; proper = front.1.1.1 }

pub simple_makes : Makes SpellsSimple is_made_simple
simple_makes (assign x e) ls rest p (value, target, h) =
    let first = target_makes x ls value p target in
    let read = making.value_makes object_signs constants leaf_is_name e value rest first.proper h in
    record { is = and_from (is_program_name x) (is_made_expression e) first.is read.is; proper = read.proper }
simple_makes (input x k) ls rest p (sort, says, target) =
    let first = target_makes x ls (lexemes.Word words.Input ∷ lexemes.Word sort ∷ semicolon ∷ rest) p target in
    record { is = and_from (is_program_name x) (is_drawable k) first.is (input_makes k sort says); proper = first.proper.1.1.1 }
simple_makes (create x e) ls rest p (value, target, h) =
    let first = target_makes x ls (lexemes.Word words.Create ∷ value) p target in
    let read = making.argument_makes object_signs constants leaf_is_name e value rest first.proper.1 h in
    record { is = and_from (is_program_name x) (is_made_expression e) first.is read.is; proper = read.proper }
simple_makes (proto x e) ls rest p (value, target, h) =
    let first = target_makes x ls (lexemes.Word words.Proto ∷ value) p target in
    let read = making.argument_makes object_signs constants leaf_is_name e value rest first.proper.1 h in
    record { is = and_from (is_program_name x) (is_made_expression e) first.is read.is; proper = read.proper }
simple_makes (has x a b) ls rest p (value, target, h) =
    let first = target_makes x ls (lexemes.Word words.Has ∷ value) p target in
    let read = making.pair_makes object_signs constants leaf_is_name a b value rest first.proper.1 h in
    record { is = and_from (is_program_name x) (is_made_expression a && is_made_expression b) first.is read.is; proper = read.proper }
simple_makes (call x f es) ls rest p (value, inner, target, h, i) =
    let first = target_makes x ls value p target in
    let callee = expression_makes f value (opening_parenthesis ∷ inner) first.proper h in
    let read = making.arguments_make object_signs constants leaf_is_name es inner rest callee.proper.1 i in
    record {
      is = and_from (is_program_name x) (is_made_expression f && list_all is_made_expression es) first.is
          (and_from (is_made_expression f) (list_all is_made_expression es) callee.is read.is);
      proper = read.proper;
    }
simple_makes (set a b c) ls rest p (value, h, i) =
    let first = making.expression_makes_at object_signs constants leaf_is_name (joined Property a b) tight ls (equals ∷ value) p h in
    let read = making.value_makes object_signs constants leaf_is_name c value rest first.proper.1 i in
    let parts = and_parts (is_made_expression a) (is_made_expression b) first.is in
    record {
      is = and_from (is_made_expression a) (is_made_expression b && is_made_expression c) parts.0 (and_from (is_made_expression b) (is_made_expression c) parts.1 read.is);
      proper = read.proper;
    }
simple_makes (delete a b) ls rest p (place, is, h) =
    let first = making.expression_makes_at object_signs constants leaf_is_name (joined Property a b) tight place (semicolon ∷ rest) (after _ ls place is p) h in
    record { is = first.is; proper = first.proper.1 }
simple_makes (set_proto a b) ls rest p (pair, is, h) =
    making.pair_makes object_signs constants leaf_is_name a b pair rest (after _ ls pair is p) h
simple_makes (fail e) ls rest p (value, is, h) = making.value_makes object_signs constants leaf_is_name e value rest (after _ ls value is p) h
simple_makes (throw e) ls rest p (value, is, h) = making.value_makes object_signs constants leaf_is_name e value rest (after _ ls value is p) h
