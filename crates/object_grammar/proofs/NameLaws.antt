-- What is spelled as a statement without statements in it leaves what holds of lexemes, and names only what a source text can name.
use Rattle.std.proofs.Common.{inl, inr, ℕ, List, ◌∷◌, subst}
use Rattle.std.specs.Prelude.{◌&&◌, IsTrue}
use Rattle.std.specs.List.{list_all}
use Rattle.std.proofs.lemmas.Bool.{and_from, and_parts}
use Rattle.gil_lexer.specs.declared.words.Word.TheVariants as words
use Rattle.gil_lexemes.specs.declared.standing.Lexeme.{Lexeme}
use Rattle.gil_lexemes.specs.declared.standing.Lexeme.TheVariants as lexemes
use Rattle.gil_grammar.specs.Vocabulary.{opening_parenthesis, semicolon}
use Rattle.source_language.specs.Names.{is_source_name}
use Rattle.source_operators.specs.Names.{is_source_expression}
use Rattle.source_operators.specs.Pure.{joined}
use Rattle.source_text.specs.Vocabulary.{equals}
use Rattle.source_text.proofs.NameLaws.{Kept, tail, named}
use Rattle.operator_text.specs.Signs.{tight}
use Rattle.operator_text.proofs.Rests as rests
use Rattle.object_operators.specs.declared.trees.Joint.TheVariants.{Property}
use Rattle.object_operators.specs.Pure.{PureExpression}
use Rattle.object_lang.specs.Names.{is_source_simple}
use Rattle.object_lang.specs.Pure.{PureSimple, assign, input, create, proto, has, call, set, delete, set_proto, fail, throw}
use Rattle.object_grammar.specs.Signs.{object_signs}
use Rattle.object_grammar.specs.Statements.{SpellsExpression, SpellsTarget, SpellsPlace, SpellsSimple}
use Rattle.object_grammar.proofs.Leaves.{leaf_is_name}

-- ---- what is kept

module _ (Q : List Lexeme → Type 0) (drop : (l : Lexeme) (ls : List Lexeme) → Q (l ∷ ls) → Q ls) where
  pub expression_keeps : (e : PureExpression) (ls rest : List Lexeme) → SpellsExpression e ls rest → Q ls → Q rest
  expression_keeps e ls rest h q = rests.expression_keeps object_signs Q drop e 0 ls rest h q

  place_keeps : (a b : PureExpression) (ls rest : List Lexeme) → SpellsPlace a b ls rest → Q ls → Q rest
  place_keeps a b ls rest h q = rests.expression_keeps object_signs Q drop (joined Property a b) tight ls rest h q

  target_keeps : (x : List ℕ) (ls value : List Lexeme) → SpellsTarget x ls value → Q ls → Q value
  target_keeps x ls value (inl is) q = rests.two object_signs Q drop (lexemes.Name x) equals value (subst Q is q)
  target_keeps x ls value (inr is) q =
      rests.two object_signs Q drop (lexemes.Name x) equals value (drop (lexemes.Word words.Let) (lexemes.Name x ∷ equals ∷ value) (subst Q is q))

  pub simple_keeps : (c : PureSimple) (ls rest : List Lexeme) → SpellsSimple c ls rest → Q ls → Q rest
  simple_keeps (assign x e) ls rest (value, target, h) q =
      drop semicolon rest (expression_keeps e value (semicolon ∷ rest) h (target_keeps x ls value target q))
  simple_keeps (input x k) ls rest (sort, says, target) q =
      drop semicolon rest (rests.two object_signs Q drop (lexemes.Word words.Input) (lexemes.Word sort) (semicolon ∷ rest)
      (target_keeps x ls (lexemes.Word words.Input ∷ lexemes.Word sort ∷ semicolon ∷ rest) target q))
  simple_keeps (create x e) ls rest (value, target, h) q =
      rests.argument_keeps object_signs Q drop e value rest h (drop (lexemes.Word words.Create) value (target_keeps x ls (lexemes.Word words.Create ∷ value) target q))
  simple_keeps (proto x e) ls rest (value, target, h) q =
      rests.argument_keeps object_signs Q drop e value rest h (drop (lexemes.Word words.Proto) value (target_keeps x ls (lexemes.Word words.Proto ∷ value) target q))
  simple_keeps (has x a b) ls rest (value, target, h) q =
      rests.pair_keeps object_signs Q drop a b value rest h (drop (lexemes.Word words.Has) value (target_keeps x ls (lexemes.Word words.Has ∷ value) target q))
  simple_keeps (call x f es) ls rest (value, inner, target, h, i) q =
      rests.arguments_keep object_signs Q drop es inner rest i
      (drop opening_parenthesis inner (expression_keeps f value (opening_parenthesis ∷ inner) h (target_keeps x ls value target q)))
  simple_keeps (set a b c) ls rest (value, h, i) q =
      drop semicolon rest (expression_keeps c value (semicolon ∷ rest) i (drop equals value (place_keeps a b ls (equals ∷ value) h q)))
  simple_keeps (delete a b) ls rest (place, is, h) q =
      drop semicolon rest (place_keeps a b place (semicolon ∷ rest) h (drop (lexemes.Word words.Delete) place (subst Q is q)))
  simple_keeps (set_proto a b) ls rest (pair, is, h) q =
      rests.pair_keeps object_signs Q drop a b pair rest h (drop (lexemes.Word words.Setproto) pair (subst Q is q))
  simple_keeps (fail e) ls rest (value, is, h) q =
      drop semicolon rest (expression_keeps e value (semicolon ∷ rest) h (drop (lexemes.Word words.Fail) value (subst Q is q)))
  simple_keeps (throw e) ls rest (value, is, h) q =
      drop semicolon rest (expression_keeps e value (semicolon ∷ rest) h (drop (lexemes.Word words.Throw) value (subst Q is q)))

-- ---- names

whole_named : (e : PureExpression) (ls rest : List Lexeme) → SpellsExpression e ls rest → Kept ls → IsTrue (is_source_expression e)
whole_named e ls rest h k = rests.expression_named object_signs Kept tail leaf_is_name named e 0 ls rest h k

pub expression_named : (e : PureExpression) (ls rest : List Lexeme) → SpellsExpression e ls rest → Kept ls → IsTrue (is_source_expression e) × Kept rest
expression_named e ls rest h k = (whole_named e ls rest h k, expression_keeps Kept tail e ls rest h k)

target_named : (x : List ℕ) (ls value : List Lexeme) → SpellsTarget x ls value → Kept ls → IsTrue (is_source_name x)
target_named x ls value (inl is) k = named x (equals ∷ value) (subst Kept is k)
target_named x ls value (inr is) k = named x (equals ∷ value) (tail (lexemes.Word words.Let) (lexemes.Name x ∷ equals ∷ value) (subst Kept is k))

simple_is_named : (c : PureSimple) (ls rest : List Lexeme) → SpellsSimple c ls rest → Kept ls → IsTrue (is_source_simple c)
simple_is_named (assign x e) ls rest (value, target, h) k =
    and_from (is_source_name x) (is_source_expression e) (target_named x ls value target k)
    (whole_named e value (semicolon ∷ rest) h (target_keeps Kept tail x ls value target k))
simple_is_named (input x s) ls rest (sort, says, target) k = target_named x ls _ target k
simple_is_named (create x e) ls rest (value, target, h) k =
    and_from (is_source_name x) (is_source_expression e) (target_named x ls (lexemes.Word words.Create ∷ value) target k)
    (rests.argument_named object_signs Kept tail leaf_is_name named e value rest h
    (target_keeps Kept tail x ls (lexemes.Word words.Create ∷ value) target k))
simple_is_named (proto x e) ls rest (value, target, h) k =
    and_from (is_source_name x) (is_source_expression e) (target_named x ls (lexemes.Word words.Proto ∷ value) target k)
    (rests.argument_named object_signs Kept tail leaf_is_name named e value rest h
    (target_keeps Kept tail x ls (lexemes.Word words.Proto ∷ value) target k))
simple_is_named (has x a b) ls rest (value, target, h) k =
    and_from (is_source_name x) (is_source_expression a && is_source_expression b) (target_named x ls (lexemes.Word words.Has ∷ value) target k)
    (rests.pair_named object_signs Kept tail leaf_is_name named a b value rest h
    (target_keeps Kept tail x ls (lexemes.Word words.Has ∷ value) target k))
simple_is_named (call x f es) ls rest (value, inner, target, h, i) k =
    let k' = target_keeps Kept tail x ls value target k in
    and_from (is_source_name x) (is_source_expression f && list_all is_source_expression es) (target_named x ls value target k)
    (and_from (is_source_expression f) (list_all is_source_expression es) (whole_named f value (opening_parenthesis ∷ inner) h k')
    (rests.arguments_named object_signs Kept tail leaf_is_name named es inner rest i
    (tail opening_parenthesis inner (expression_keeps Kept tail f value (opening_parenthesis ∷ inner) h k'))))
simple_is_named (set a b c) ls rest (value, h, i) k =
    let both = rests.expression_named object_signs Kept tail leaf_is_name named (joined Property a b) tight ls (equals ∷ value) h k in
    let parts = and_parts (is_source_expression a) (is_source_expression b) both in
    and_from (is_source_expression a) (is_source_expression b && is_source_expression c) parts.0
    (and_from (is_source_expression b) (is_source_expression c) parts.1
    (whole_named c value (semicolon ∷ rest) i (tail equals value (place_keeps Kept tail a b ls (equals ∷ value) h k))))
simple_is_named (delete a b) ls rest (place, is, h) k =
    rests.expression_named object_signs Kept tail leaf_is_name named (joined Property a b) tight place (semicolon ∷ rest) h
    (tail (lexemes.Word words.Delete) place (subst Kept is k))
simple_is_named (set_proto a b) ls rest (pair, is, h) k =
    rests.pair_named object_signs Kept tail leaf_is_name named a b pair rest h (tail (lexemes.Word words.Setproto) pair (subst Kept is k))
simple_is_named (fail e) ls rest (value, is, h) k = whole_named e value (semicolon ∷ rest) h (tail (lexemes.Word words.Fail) value (subst Kept is k))
simple_is_named (throw e) ls rest (value, is, h) k = whole_named e value (semicolon ∷ rest) h (tail (lexemes.Word words.Throw) value (subst Kept is k))

pub simple_named : (c : PureSimple) (ls rest : List Lexeme) → SpellsSimple c ls rest → Kept ls → IsTrue (is_source_simple c) × Kept rest
simple_named c ls rest h k = (simple_is_named c ls rest h k, simple_keeps Kept tail c ls rest h k)
