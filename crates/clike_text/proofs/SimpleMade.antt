-- The names and constants of C-like expressions and simple statements are well made where proper lexemes spell them.
use Rattle.std.proofs.Common.{◌≡◌, ℕ, zero, suc, List, ◌∷◌, Bool, true, false, cond, ◌&&◌, Some, None, refl, subst, inl, inr}
use Rattle.std.specs.List.{list_all}
use Rattle.std.proofs.lemmas.Bool.{and_from, and_parts}
use Rattle.gil_values.specs.declared.kinds.Kind.TheVariants.{Null}
use Rattle.gil_values.specs.Pure.{PureValue, integer, kind}
use Rattle.gil_lexer.specs.declared.words.Word.TheVariants.{NullPointer, Input, Malloc}
use Rattle.gil_lexemes.specs.declared.standing.Lexeme.{Lexeme}
use Rattle.gil_lexemes.specs.declared.standing.Lexeme.TheVariants as lexemes
use Rattle.gil_syntax.specs.WellMade.{is_spellable, is_program_name}
use Rattle.gil_grammar.specs.Vocabulary.{opening_parenthesis, closing_parenthesis, semicolon}
use Rattle.gil_grammar.proofs.MadeLaws.{AreProper, Made, Makes, after, program_name}
use Rattle.source_operators.specs.Operands.{Operand, known, named}
use Rattle.source_operators.specs.Pure.{constant, variable, brackets, prefixed, joined, skipping}
use Rattle.source_operators.proofs.Making.{is_made_expression}
use Rattle.source_text.specs.Vocabulary.{equals}
use Rattle.operator_text.specs.Signs.{tight}
use Rattle.operator_text.proofs.Making as making
use Rattle.clike_operators.specs.declared.trees.Prefix.TheVariants.{Minus, Not, Pointee}
use Rattle.clike_operators.specs.declared.trees.Joint.TheVariants.{Operation, Cell, Address}
use Rattle.clike_operators.specs.Pure.{PureExpression}
use Rattle.clike_operators.specs.Ranges.{is_int}
use Rattle.clike_lang.specs.Pure.{assign, input, malloc, call, free, store}
use Rattle.clike_compiler.proofs.WellMade.{is_made_simple}
use Rattle.clike_grammar.specs.Signs.{clike_signs, leaf}
use Rattle.clike_grammar.specs.Statements.{SpellsExpression, stars, SpellsTarget, place_parts, SpellsSimple}
use Rattle.clike_grammar.proofs.NameLaws.{leaf_is_name}

found_is : {X : Type 0} (x y : X) → Some x ≡ Some y → x ≡ y
found_is x y e = cc

abbrev IsSpellable : Operand → Type 0
IsSpellable (known v) = is_spellable v ≡ true
IsSpellable (named x) = Unit {0}

number_spellable : (b : Bool) (n : _) (a : Operand) → cond b (Some (known (integer n))) None ≡ Some a → IsSpellable a
number_spellable true n a e = subst IsSpellable (found_is (known (integer n)) a e) refl
number_spellable false n a e = absurd (cc)

leaf_spellable : (l : Lexeme) (a : Operand) → leaf l ≡ Some a → IsSpellable a
leaf_spellable (lexemes.Name y) a e = subst IsSpellable (found_is (named y) a e) tt
leaf_spellable (lexemes.Number n) a e = number_spellable (is_int n) n a e
leaf_spellable (lexemes.Word NullPointer) a e = subst IsSpellable (found_is (known (kind Null)) a e) refl
leaf_spellable (lexemes.Word _) a e = absurd (cc)
leaf_spellable (lexemes.Logical y) a e = absurd (cc)
leaf_spellable (lexemes.Procedure f) a e = absurd (cc)
leaf_spellable (lexemes.Literal t) a e = absurd (cc)
leaf_spellable (lexemes.Sign s) a e = absurd (cc)

constants : (l : Lexeme) (v : PureValue) → leaf l ≡ Some (known v) → is_spellable v ≡ true
constants l v e = leaf_spellable l (known v) e

pub expression_makes : Makes SpellsExpression is_made_expression
expression_makes e ls rest p h = making.expression_makes clike_signs constants leaf_is_name e ls rest p h

-- ---- statements

pub behind_stars : (n : ℕ) (ls : List Lexeme) → AreProper (stars n ls) → AreProper ls
behind_stars zero ls p = p
behind_stars (suc n) ls p = behind_stars n ls p.1

target_makes : (x : List ℕ) (ls value : List Lexeme) → AreProper ls → SpellsTarget x ls value → Made (is_program_name x) value
target_makes x ls value p (inl is) = let front = subst AreProper is p in record { is = program_name x front.0; proper = front.1.1 }
target_makes x ls value p (inr (n, is)) =
    let front = behind_stars n (lexemes.Name x ∷ equals ∷ value) (subst AreProper is p).1 in
    record { is = program_name x front.0; proper = front.1.1 }

abbrev BothMade : PureExpression × PureExpression → Type 0
BothMade parts = (is_made_expression parts.0 ≡ true) × (is_made_expression parts.1 ≡ true)

parts_made : (place : PureExpression) (parts : PureExpression × PureExpression) → place_parts place ≡ Some parts → is_made_expression place ≡ true → BothMade parts
parts_made (prefixed Pointee a) parts e h = subst BothMade (found_is _ parts e) (h, refl)
parts_made (joined Cell a b) parts e h = subst BothMade (found_is _ parts e) (and_parts (is_made_expression a) (is_made_expression b) h)
parts_made (constant v) parts e h = absurd (cc)
parts_made (variable x) parts e h = absurd (cc)
parts_made (brackets a) parts e h = absurd (cc)
parts_made (prefixed Minus a) parts e h = absurd (cc)
parts_made (prefixed Not a) parts e h = absurd (cc)
parts_made (joined (Operation op) a b) parts e h = absurd (cc)
parts_made (joined Address a b) parts e h = absurd (cc)
parts_made (skipping c a b) parts e h = absurd (cc)

pub simple_makes : Makes SpellsSimple is_made_simple
simple_makes (assign x e) ls rest p (value, target, h) =
    let first = target_makes x ls value p target in
    let read = expression_makes e value (semicolon ∷ rest) first.proper h in
    record { is = and_from (is_program_name x) (is_made_expression e) first.is read.is; proper = read.proper.1 }
simple_makes (input x) ls rest p target =
    let first = target_makes x ls (lexemes.Word Input ∷ opening_parenthesis ∷ closing_parenthesis ∷ semicolon ∷ rest) p target in
    record { is = first.is; proper = first.proper.1.1.1.1 }
simple_makes (malloc x e) ls rest p (value, target, (inner, is, h)) =
    let first = target_makes x ls (lexemes.Word Malloc ∷ value) p target in
    let read = expression_makes e inner (closing_parenthesis ∷ semicolon ∷ rest) (after _ value inner is first.proper.1) h in
    record { is = and_from (is_program_name x) (is_made_expression e) first.is read.is; proper = read.proper.1.1 }
simple_makes (call (Some x) f es) ls rest p (value, target, (inner, is, h)) =
    let first = target_makes x ls value p target in
    let read = making.arguments_make clike_signs constants leaf_is_name es inner rest (subst AreProper is first.proper).1.1 h in
    record { is = and_from (is_program_name x) (list_all is_made_expression es) first.is read.is; proper = read.proper }
simple_makes (call None f es) ls rest p (inner, is, h) =
    let read = making.arguments_make clike_signs constants leaf_is_name es inner rest (subst AreProper is p).1.1 h in
    record { is = read.is; proper = read.proper }
simple_makes (free e) ls rest p (value, is, (inner, opens, h)) =
    let read = expression_makes e inner (closing_parenthesis ∷ semicolon ∷ rest) (after _ value inner opens (after _ ls value is p)) h in
    record { is = read.is; proper = read.proper.1.1 }
simple_makes (store a b c) ls rest p (place, value, parts, h, j) =
    let first = making.expression_makes_at clike_signs constants leaf_is_name place tight ls (equals ∷ value) p h in
    let read = expression_makes c value (semicolon ∷ rest) first.proper.1 j in
    let both = parts_made place (a, b) parts first.is in
    record {
      is = and_from (is_made_expression a) (is_made_expression b && is_made_expression c) both.0 (and_from (is_made_expression b) (is_made_expression c) both.1 read.is);
      proper = read.proper.1;
    }
