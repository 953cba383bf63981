-- What is read as parameters and assertions is spelled so, and what is spelled so is read.
use Rattle.std.proofs.Common.{◌≡◌, ◌⊎◌, ℕ, true, false, List, [], ◌∷◌, length, Some, None, refl, sym, ap, ◌∙◌, subst, inl, inr}
use Rattle.gil_values.specs.declared.operators.UnOp.TheVariants as unary
use Rattle.gil_values.specs.declared.operators.BinOp.TheVariants as binary
use Rattle.gil_values.specs.Pure.{PureValue, integer, boolean, text, symbol, kind, procedure, list}
use Rattle.gil_values.specs.declared.kinds.Kind.TheVariants as kinds
use Rattle.gil_lexer.specs.declared.words.Word.{Word}
use Rattle.gil_lexer.specs.declared.words.Word.TheVariants as words
use Rattle.gil_lexer.specs.declared.signs.Sign.{Sign}
use Rattle.gil_lexer.specs.declared.signs.Sign.TheVariants as signs
use Rattle.gil_lexemes.specs.declared.standing.Lexeme.{Lexeme}
use Rattle.gil_lexemes.specs.declared.standing.Lexeme.TheVariants as lexemes
use Rattle.gil_lexemes.specs.Lists.{more_at}
use Rattle.gil_lexemes.specs.Reading.{◌>>=◌, behind, first_form, is_sign, is_word, sign_at}
use Rattle.gil_lexemes.proofs.ReadingLaws.{bind_some, sign_takes, at_sign_is, at_word_is, name_takes, logical_takes}
use Rattle.gil_syntax.specs.declared.assertions.SpecSort.{SpecSort}
use Rattle.gil_syntax.specs.declared.assertions.SpecSort.TheVariants.{Any}
use Rattle.gil_syntax.specs.Pure.{PureExpr, literal, name, logical, list_of, unary_of, binary_of, PureItem, pure, uses}
use Rattle.gil_grammar.specs.declared.positions.Position.{Position}
use Rattle.gil_grammar.specs.declared.positions.Position.TheVariants.{Assertion, Predicate}
use Rattle.gil_grammar.specs.declared.positions.Naming.{Naming}
use Rattle.gil_grammar.specs.declared.positions.Naming.TheVariants.{Program, Logical}
use Rattle.gil_grammar.specs.Assertions.{SpellsParam, SpellsVariables, SpellsUse, may_be_item, SpellsItem, SpellsAssertion, SpellsBlock}
use Rattle.gil_grammar.specs.Expressions.{SpellsExpr, SpellsExprs}
use Rattle.gil_grammar.specs.Lists.{SpellsSeparated}
use Rattle.gil_grammar.specs.Vocabulary.{literal_lexeme, comma, sort_word, word_name, IsNameAt}
use Rattle.gil_grammar.specs.Reading.Vocabulary.{sort_of_word, word_of, named_at}
use Rattle.gil_grammar.specs.Reading.Expressions.{expr_at}
use Rattle.gil_grammar.specs.Reading.Assertions.{variable_at, sort_at, param_at, params_at, variables_at, expression_at, expressions_at, use_at, item_at, assertion_at, block_at}
use Rattle.gil_grammar.specs.Nesting.{most_open}
use Rattle.gil_grammar.proofs.ListLaws.{Takes, found_is, cond_cases, more_takes, separated_takes}
use Rattle.gil_grammar.proofs.VocabularyLaws.{sort_takes, named_takes}
use Rattle.gil_grammar.proofs.ExpressionLaws.{expr_takes}

-- ---- what is read is spelled

-- the thing that was found, in place of its parts
pub in_place : {X : Type 0} (spells : X → List Lexeme → List Lexeme → Type 0) (ls : List Lexeme) (x : X) (rest : List Lexeme) (found : X × List Lexeme)
    → Some (x, rest) ≡ Some found → spells x ls rest → spells found.0 ls found.1
in_place {X} spells ls x rest found is h = subst (λ (f : X × List Lexeme). spells f.0 ls f.1) (found_is (x, rest) found is) h

pub word_of_takes : (ls : List Lexeme) (word : Word) → word_of (first_form ls) ≡ Some word → ls ≡ lexemes.Word word ∷ behind ls
word_of_takes [] word e = absurd cc
word_of_takes (lexemes.Word w ∷ ls) word e = ap (λ v. lexemes.Word v ∷ ls) (found_is w word e)
word_of_takes (_ ∷ ls) word e = absurd cc

-- the lexeme of a variable
abbrev pub named_as : Naming → List ℕ → Lexeme
named_as Program x = lexemes.Name x
named_as Logical x = lexemes.Logical x

variable_takes : (naming : Naming) (ls : List Lexeme) (found : List ℕ × List Lexeme) → variable_at naming ls ≡ Some found → ls ≡ named_as naming found.0 ∷ found.1
variable_takes Program ls found e = name_takes ls found e
variable_takes Logical ls found e = logical_takes ls found e

-- a sort behind its colon, or none
abbrev IsSort : SpecSort → List Lexeme → List Lexeme → Type 0
IsSort sort ls rest = (ls ≡ lexemes.Sign signs.Colon ∷ lexemes.Word (sort_word sort) ∷ rest) ⊎ ((sort ≡ Any) × (ls ≡ rest))

sort_at_takes : Takes IsSort sort_at
unfolding sort_at
sort_at_takes ls found e =
    cond_cases (is_sign signs.Colon (first_form ls)) _ _ found e
    (λ test named.
    let word = bind_some (word_of (first_form (behind ls))) _ found named in
    let sort = bind_some (sort_of_word word.0) _ found word.2 in
    in_place IsSort ls sort.0 (behind (behind ls)) found sort.2
    (inl (at_sign_is signs.Colon ls test
    ∙ ap (λ (l : List Lexeme). lexemes.Sign signs.Colon ∷ l) (word_of_takes (behind ls) word.0 word.1)
    ∙ ap (λ w. lexemes.Sign signs.Colon ∷ lexemes.Word w ∷ behind (behind ls)) (sym (sort_takes word.0 sort.0 sort.1)))))
    (λ test any. in_place IsSort ls Any ls found any (inr (refl, refl)))

param_of : (naming : Naming) (x : List ℕ) (sort : SpecSort) (ls after rest : List Lexeme) → ls ≡ named_as naming x ∷ after → IsSort sort after rest
    → SpellsParam (named_as naming) (record { name = x; sort = sort }) ls rest
param_of naming x sort ls after rest is (inl says) = inl (is ∙ ap (λ (l : List Lexeme). named_as naming x ∷ l) says)
param_of naming x sort ls after rest is (inr (any, says)) = inr (any, is ∙ ap (λ (l : List Lexeme). named_as naming x ∷ l) says)

pub param_takes : (naming : Naming) → Takes (SpellsParam (named_as naming)) (param_at naming)
unfolding param_at
param_takes naming ls found e =
    let x = bind_some (variable_at naming ls) _ found e in
    let sort = bind_some (sort_at x.0.1) _ found x.2 in
    in_place (SpellsParam (named_as naming)) ls (record { name = x.0.0; sort = sort.0.0 }) sort.0.1 found sort.2
    (param_of naming x.0.0 sort.0.0 ls x.0.1 sort.0.1 (variable_takes naming ls x.0 x.1) (sort_at_takes x.0.1 sort.0 sort.1))

pub params_take : (naming : Naming) (closing : Sign) → Takes (SpellsSeparated (SpellsParam (named_as naming)) comma) (params_at naming closing)
params_take naming closing = separated_takes (SpellsParam (named_as naming)) (param_at naming) (param_takes naming) closing signs.Comma

pub variables_take : Takes SpellsVariables variables_at
unfolding variables_at
variables_take ls found e =
    let a = bind_some (sign_at signs.LeftBracket ls) _ found e in
    let ps = bind_some (params_at Logical signs.RightBracket a.0) _ found a.2 in
    let r = bind_some (sign_at signs.RightBracket ps.0.1) _ found ps.2 in
    in_place SpellsVariables ls ps.0.0 r.0 found r.2 (
      a.0,
      sign_takes signs.LeftBracket ls a.0 a.1,
      subst (SpellsSeparated (SpellsParam (named_as Logical)) comma ps.0.0 a.0) (sign_takes signs.RightBracket ps.0.1 r.0 r.1) (params_take Logical signs.RightBracket a.0 ps.0 ps.1),
    )

pub expression_takes : (position : Position) → Takes (SpellsExpr position) (expression_at position)
expression_takes position = expr_takes most_open position

pub expressions_take : (position : Position) (closing : Sign) → Takes (SpellsExprs position) (expressions_at position closing)
expressions_take position closing = separated_takes (SpellsExpr position) (expr_at most_open position) (expr_takes most_open position) closing signs.Comma

pub use_takes : Takes SpellsUse use_at
unfolding use_at
use_takes ls found e =
    let x = bind_some (named_at Predicate ls) _ found e in
    let a = bind_some (sign_at signs.LeftParenthesis x.0.1) _ found x.2 in
    let ins = bind_some (expressions_at Assertion signs.Semicolon a.0) _ found a.2 in
    let b = bind_some (sign_at signs.Semicolon ins.0.1) _ found ins.2 in
    let outs = bind_some (expressions_at Assertion signs.RightParenthesis b.0) _ found b.2 in
    let r = bind_some (sign_at signs.RightParenthesis outs.0.1) _ found outs.2 in
    let says = named_takes Predicate ls x.0 x.1 in
    in_place SpellsUse ls (record { pred = x.0.0; ins = ins.0.0; outs = outs.0.0 }) r.0 found r.2 (
      says.0,
      a.0,
      b.0,
      says.1,
      says.2 ∙ ap (λ (l : List Lexeme). says.0 ∷ l) (sign_takes signs.LeftParenthesis x.0.1 a.0 a.1),
      subst (SpellsExprs Assertion ins.0.0 a.0) (sign_takes signs.Semicolon ins.0.1 b.0 b.1) (expressions_take Assertion signs.Semicolon a.0 ins.0 ins.1),
      subst (SpellsExprs Assertion outs.0.0 b.0) (sign_takes signs.RightParenthesis outs.0.1 r.0 r.1) (expressions_take Assertion signs.RightParenthesis b.0 outs.0 outs.1),
    )

-- ---- which expressions are items

literal_no_bracket : (v : PureValue) (lexeme : Lexeme) → literal_lexeme v ≡ Some lexeme → lexeme ≡ lexemes.Sign signs.LeftParenthesis → ⊥
literal_no_bracket (integer n) lexeme e is = cc
literal_no_bracket (boolean b) lexeme e is = cc
literal_no_bracket (text t) lexeme e is = cc
literal_no_bracket (symbol n) lexeme e is = cc
literal_no_bracket (kind k) lexeme e is = cc
literal_no_bracket (procedure f) lexeme e is = cc
literal_no_bracket (list vs) lexeme e is = cc

literal_no_not : (v : PureValue) (lexeme : Lexeme) → literal_lexeme v ≡ Some lexeme → lexeme ≡ lexemes.Word words.Not → ⊥
literal_no_not (integer n) lexeme e is = cc
literal_no_not (boolean true) lexeme e is = cc
literal_no_not (boolean false) lexeme e is = cc
literal_no_not (text t) lexeme e is = cc
literal_no_not (symbol n) lexeme e is = cc
literal_no_not (kind kinds.Int) lexeme e is = cc
literal_no_not (kind kinds.Bool) lexeme e is = cc
literal_no_not (kind kinds.Str) lexeme e is = cc
literal_no_not (kind kinds.Sym) lexeme e is = cc
literal_no_not (kind kinds.Kind) lexeme e is = cc
literal_no_not (kind kinds.Proc) lexeme e is = cc
literal_no_not (kind kinds.List) lexeme e is = cc
literal_no_not (kind kinds.Undef) lexeme e is = cc
literal_no_not (kind kinds.Null) lexeme e is = cc
literal_no_not (procedure f) lexeme e is = cc
literal_no_not (list vs) lexeme e is = cc

named_no_bracket : (x : List ℕ) (lexeme : Lexeme) → IsNameAt Assertion x lexeme → lexeme ≡ lexemes.Sign signs.LeftParenthesis → ⊥
named_no_bracket x lexeme (inl says) is = cc
named_no_bracket x lexeme (inr (word, says, named)) is = cc

named_no_not : (x : List ℕ) (lexeme : Lexeme) → IsNameAt Assertion x lexeme → lexeme ≡ lexemes.Word words.Not → ⊥
named_no_not x lexeme (inl says) is = cc
named_no_not x lexeme (inr (word, says, named)) is =
    let same : word ≡ words.Not = cc in
    let none : None ≡ Some x = subst (λ w. word_name Assertion w ≡ Some x) same says in
    cc none

-- an expression that begins with a parenthesis has its operator between its operands
bracket_item : (e : PureExpr) (ls inner rest : List Lexeme) → ls ≡ lexemes.Sign signs.LeftParenthesis ∷ inner → SpellsExpr Assertion e ls rest → may_be_item e ≡ true
bracket_item (literal v) ls inner rest begins (lexeme, says, is) = absurd (literal_no_bracket v lexeme says (let both = sym is ∙ begins in cc both))
bracket_item (name x) ls inner rest begins (lexeme, says, is) = absurd (named_no_bracket x lexeme says (let both = sym is ∙ begins in cc both))
bracket_item (logical x) ls inner rest begins (there, is) = absurd (let both = sym is ∙ begins in cc both)
bracket_item (list_of es) ls inner rest begins (elements, is, h) = absurd (let both = sym is ∙ begins in cc both)
bracket_item (unary_of op e) ls inner rest begins (operand, is, h) = absurd (let both = sym is ∙ begins in cc both)
bracket_item (binary_of binary.Nth d e) ls inner rest begins (left, right, is, h, k) = absurd (let both = sym is ∙ begins in cc both)
bracket_item (binary_of _ d e) ls inner rest begins (left, right, is, h, k) = refl

-- so does `not`
not_item : (e : PureExpr) (ls inner rest : List Lexeme) → ls ≡ lexemes.Word words.Not ∷ inner → SpellsExpr Assertion e ls rest → may_be_item e ≡ true
not_item (literal v) ls inner rest begins (lexeme, says, is) = absurd (literal_no_not v lexeme says (let both = sym is ∙ begins in cc both))
not_item (name x) ls inner rest begins (lexeme, says, is) = absurd (named_no_not x lexeme says (let both = sym is ∙ begins in cc both))
not_item (logical x) ls inner rest begins (there, is) = absurd (let both = sym is ∙ begins in cc both)
not_item (list_of es) ls inner rest begins (elements, is, h) = absurd (let both = sym is ∙ begins in cc both)
not_item (unary_of unary.Not e) ls inner rest begins (operand, is, h) = refl
not_item (unary_of unary.Neg e) ls inner rest begins (operand, is, h) = absurd (let both = sym is ∙ begins in cc both)
not_item (unary_of unary.Len e) ls inner rest begins (operand, is, h) = absurd (let both = sym is ∙ begins in cc both)
not_item (unary_of unary.Kind e) ls inner rest begins (operand, is, h) = absurd (let both = sym is ∙ begins in cc both)
not_item (binary_of binary.Nth d e) ls inner rest begins (left, right, is, h, k) = absurd (let both = sym is ∙ begins in cc both)
not_item (binary_of _ d e) ls inner rest begins (left, right, is, h, k) = absurd (let both = sym is ∙ begins in cc both)

uses_item : (ls : List Lexeme) (found : PureItem × List Lexeme) → (use_at ls >>= λ u. Some (uses u.0, u.1)) ≡ Some found → SpellsItem found.0 ls found.1
uses_item ls found e =
    let u = bind_some (use_at ls) _ found e in
    in_place SpellsItem ls (uses u.0.0) u.0.1 found u.2 (use_takes ls u.0 u.1)

pub item_takes : Takes SpellsItem item_at
unfolding item_at
item_takes (lexemes.Sign signs.LeftParenthesis ∷ ls) found e =
    let d = bind_some (expression_at Assertion (lexemes.Sign signs.LeftParenthesis ∷ ls)) _ found e in
    let h = expression_takes Assertion _ d.0 d.1 in
    in_place SpellsItem _ (pure d.0.0) d.0.1 found d.2 (bracket_item d.0.0 _ ls d.0.1 refl h, h)
item_takes (lexemes.Word words.Not ∷ ls) found e =
    let d = bind_some (expression_at Assertion (lexemes.Word words.Not ∷ ls)) _ found e in
    let h = expression_takes Assertion _ d.0 d.1 in
    in_place SpellsItem _ (pure d.0.0) d.0.1 found d.2 (not_item d.0.0 _ ls d.0.1 refl h, h)
item_takes [] found e = uses_item [] found e
item_takes (l ∷ ls) found e = uses_item (l ∷ ls) found e

pub assertion_takes : Takes SpellsAssertion assertion_at
unfolding assertion_at
assertion_takes ls found e =
    cond_cases (is_word words.Emp (first_form ls)) _ _ found e
    (λ test empty. in_place SpellsAssertion ls [] (behind ls) found empty (at_word_is words.Emp ls test))
    (λ test some.
    let item = bind_some (item_at ls) _ found some in
    let items = bind_some (more_at item_at (length item.0.1) signs.Star item.0.1) _ found item.2 in
    in_place SpellsAssertion ls (item.0.0 ∷ items.0.0) items.0.1 found items.2
    (item.0.1, item_takes ls item.0 item.1, more_takes SpellsItem item_at item_takes (length item.0.1) signs.Star item.0.1 items.0 items.1))

pub block_takes : Takes SpellsBlock block_at
unfolding block_at
block_takes ls found e =
    let a = bind_some (sign_at signs.LeftBrace ls) _ found e in
    let items = bind_some (assertion_at a.0) _ found a.2 in
    let r = bind_some (sign_at signs.RightBrace items.0.1) _ found items.2 in
    in_place SpellsBlock ls items.0.0 r.0 found r.2
    (a.0, sign_takes signs.LeftBrace ls a.0 a.1, subst (SpellsAssertion items.0.0 a.0) (sign_takes signs.RightBrace items.0.1 r.0 r.1) (assertion_takes a.0 items.0 items.1))
