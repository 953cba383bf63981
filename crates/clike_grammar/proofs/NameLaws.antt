-- C-like expressions and simple statements that lexemes without '$' spell name only what a source text can name.
use Rattle.std.proofs.Common.{◌≡◌, ℕ, zero, suc, List, ◌∷◌, Bool, true, false, cond, Some, None, refl, ap, subst, inl, inr}
use Rattle.std.specs.Prelude.{◌&&◌, IsTrue}
use Rattle.std.specs.List.{list_all}
use Rattle.std.proofs.lemmas.Bool.{and_from, and_parts}
use Rattle.gil_values.specs.Pure.{PureValue, integer}
use Rattle.gil_lexer.specs.declared.words.Word.TheVariants.{NullPointer, Input, Malloc}
use Rattle.gil_lexemes.specs.declared.standing.Lexeme.{Lexeme}
use Rattle.gil_lexemes.specs.declared.standing.Lexeme.TheVariants as lexemes
use Rattle.gil_grammar.specs.Vocabulary.{opening_parenthesis, closing_parenthesis, semicolon}
use Rattle.source_language.specs.Names.{is_source_name}
use Rattle.source_operators.specs.Names.{is_source_expression}
use Rattle.source_operators.specs.Operands.{known, named as a_name}
use Rattle.source_operators.specs.Pure.{constant, variable, brackets, prefixed, joined, skipping}
use Rattle.source_text.specs.Vocabulary.{equals}
use Rattle.source_text.proofs.NameLaws.{Kept, tail, named, past}
use Rattle.operator_text.specs.Pieces.{SpellsArguments}
use Rattle.operator_text.specs.Signs.{tight}
use Rattle.operator_text.proofs.Rests as rests
use Rattle.clike_operators.specs.declared.trees.Prefix.TheVariants.{Minus, Not, Pointee}
use Rattle.clike_operators.specs.declared.trees.Joint.TheVariants.{Operation, Cell, Address}
use Rattle.clike_operators.specs.Pure.{PureExpression}
use Rattle.clike_operators.specs.Ranges.{is_int}
use Rattle.clike_lang.specs.Names.{is_source_simple}
use Rattle.clike_lang.specs.Pure.{PureSimple, assign, input, malloc, call, free, store}
use Rattle.clike_grammar.specs.Signs.{clike_signs, leaf}
use Rattle.clike_grammar.specs.Statements.{SpellsExpressionAt, stars, SpellsTarget, place_parts, SpellsSimple}

number_no_name : (b : Bool) (v : PureValue) (x : List ℕ) → cond b (Some (known v)) None ≡ Some (a_name x) → ⊥
number_no_name true v x e = cc
number_no_name false v x e = cc

-- a variable stands as its name
pub leaf_is_name : (l : Lexeme) (x : List ℕ) → leaf l ≡ Some (a_name x) → l ≡ lexemes.Name x
leaf_is_name (lexemes.Name y) x e = let same : y ≡ x = cc in ap lexemes.Name same
leaf_is_name (lexemes.Number n) x e = absurd (number_no_name (is_int n) (integer n) x e)
leaf_is_name (lexemes.Word NullPointer) x e = absurd (cc)
leaf_is_name (lexemes.Word _) x e = absurd (cc)
leaf_is_name (lexemes.Logical y) x e = absurd (cc)
leaf_is_name (lexemes.Procedure f) x e = absurd (cc)
leaf_is_name (lexemes.Literal t) x e = absurd (cc)
leaf_is_name (lexemes.Sign s) x e = absurd (cc)

-- ---- expressions

pub expression_named : (e : PureExpression) (m : ℕ) (ls rest : List Lexeme) → SpellsExpressionAt m e ls rest → Kept ls
    → IsTrue (is_source_expression e) × Kept rest
expression_named e m ls rest h k = (
  rests.expression_named clike_signs Kept tail leaf_is_name named e m ls rest h k,
  rests.expression_keeps clike_signs Kept tail e m ls rest h k,
)

expressions_named : (es : List PureExpression) (ls rest : List Lexeme) → SpellsArguments clike_signs es ls rest → Kept ls
    → IsTrue (list_all is_source_expression es) × Kept rest
expressions_named es ls rest h k = (
  rests.arguments_named clike_signs Kept tail leaf_is_name named es ls rest h k,
  rests.arguments_keep clike_signs Kept tail es ls rest h k,
)

-- ---- statements

behind_stars : (n : ℕ) (ls : List Lexeme) → Kept (stars n ls) → Kept ls
behind_stars zero ls k = k
behind_stars (suc n) ls k = behind_stars n ls k

target_named : (x : List ℕ) (ls value : List Lexeme) → SpellsTarget x ls value → Kept ls → IsTrue (is_source_name x) × Kept value
target_named x ls value (inl is) k = let whole = subst Kept is k in (named x (equals ∷ value) whole, past x (equals ∷ value) whole)
target_named x ls value (inr (n, is)) k =
    let whole = behind_stars n (lexemes.Name x ∷ equals ∷ value) (subst Kept is k) in
    (named x (equals ∷ value) whole, past x (equals ∷ value) whole)

abbrev BothNamed : PureExpression × PureExpression → Type 0
BothNamed parts = IsTrue (is_source_expression parts.0) × IsTrue (is_source_expression parts.1)

found_is : {X : Type 0} (x y : X) → Some x ≡ Some y → x ≡ y
found_is x y e = cc

parts_named : (place : PureExpression) (parts : PureExpression × PureExpression) → place_parts place ≡ Some parts
    → IsTrue (is_source_expression place) → BothNamed parts
parts_named (prefixed Pointee a) parts e h = subst BothNamed (found_is _ parts e) (h, refl)
parts_named (joined Cell a b) parts e h = subst BothNamed (found_is _ parts e) (and_parts (is_source_expression a) (is_source_expression b) h)
parts_named (constant v) parts e h = absurd (cc)
parts_named (variable x) parts e h = absurd (cc)
parts_named (brackets a) parts e h = absurd (cc)
parts_named (prefixed Minus a) parts e h = absurd (cc)
parts_named (prefixed Not a) parts e h = absurd (cc)
parts_named (joined (Operation op) a b) parts e h = absurd (cc)
parts_named (joined Address a b) parts e h = absurd (cc)
parts_named (skipping c a b) parts e h = absurd (cc)

pub simple_named : (c : PureSimple) (ls rest : List Lexeme) → SpellsSimple c ls rest → Kept ls → IsTrue (is_source_simple c) × Kept rest
simple_named (assign x e) ls rest (value, target, h) k =
    let p = target_named x ls value target k in
    let q = expression_named e 0 value (semicolon ∷ rest) h p.1 in
    (and_from (is_source_name x) (is_source_expression e) p.0 q.0, q.1)
simple_named (input x) ls rest target k =
    let p = target_named x ls (lexemes.Word Input ∷ opening_parenthesis ∷ closing_parenthesis ∷ semicolon ∷ rest) target k in (p.0, p.1)
simple_named (malloc x e) ls rest (value, target, (inner, is, h)) k =
    let p = target_named x ls (lexemes.Word Malloc ∷ value) target k in
    let q = expression_named e 0 inner (closing_parenthesis ∷ semicolon ∷ rest) h (subst Kept is p.1) in
    (and_from (is_source_name x) (is_source_expression e) p.0 q.0, q.1)
simple_named (call (Some x) f es) ls rest (value, target, (inner, is, h)) k =
    let p = target_named x ls value target k in
    let q = expressions_named es inner rest h (past f (opening_parenthesis ∷ inner) (subst Kept is p.1)) in
    (and_from (is_source_name x) (list_all is_source_expression es) p.0 q.0, q.1)
simple_named (call None f es) ls rest (inner, is, h) k =
    expressions_named es inner rest h (past f (opening_parenthesis ∷ inner) (subst Kept is k))
simple_named (free e) ls rest (value, is, (inner, opens, h)) k =
    expression_named e 0 inner (closing_parenthesis ∷ semicolon ∷ rest) h (subst Kept opens (subst Kept is k))
simple_named (store a b c) ls rest (place, value, parts, h, j) k =
    let p = expression_named place tight ls (equals ∷ value) h k in
    let q = expression_named c 0 value (semicolon ∷ rest) j p.1 in
    let both = parts_named place (a, b) parts p.0 in
    (and_from (is_source_expression a) (is_source_expression b && is_source_expression c) both.0 (and_from (is_source_expression b) (is_source_expression c) both.1 q.0), q.1)
