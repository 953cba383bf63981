-- What is spelled as a statement of the object language without statements in it is read so.
use Rattle.std.proofs.Common.{◌≡◌, inl, inr, ◌<◌, ℕ, List, ◌∷◌, length, Some, refl, ap, ◌∙◌, arith}
use Rattle.gil_values.specs.declared.kinds.Kind.{Kind}
use Rattle.gil_lexer.specs.declared.signs.Sign.TheVariants as signs
use Rattle.gil_lexer.specs.declared.words.Word.{Word}
use Rattle.gil_lexer.specs.declared.words.Word.TheVariants as words
use Rattle.gil_lexemes.specs.declared.standing.Lexeme.{Lexeme}
use Rattle.gil_lexemes.specs.declared.standing.Lexeme.TheVariants as lexemes
use Rattle.gil_lexemes.specs.Reading.{◌>>=◌, same_sign}
use Rattle.gil_lexemes.proofs.ReadingLaws.{same_sign-refl}
use Rattle.gil_grammar.specs.Vocabulary.{opening_parenthesis, semicolon, input_word}
use Rattle.gil_grammar.proofs.VocabularyLaws.{input_again}
use Rattle.source_operators.specs.Pure.{variable, joined}
use Rattle.source_text.specs.Vocabulary.{equals}
use Rattle.operator_text.specs.Pieces.{SpellsValue, SpellsArguments}
use Rattle.operator_text.specs.Signs.{tight}
use Rattle.operator_text.proofs.ExpressionReads.{shorter}
use Rattle.operator_text.proofs.PieceReads.{IsRead, Ends, expression_reads, value_reads, argument_reads, pair_reads, arguments_read}
use Rattle.object_operators.specs.declared.trees.Joint.TheVariants.{Property}
use Rattle.object_operators.specs.Pure.{PureExpression}
use Rattle.object_lang.specs.Pure.{PureSimple, assign, input, create, proto, has, call, set, delete, set_proto, fail, throw}
use Rattle.object_grammar.specs.Reading.{value_at, pair_at, input_at, behind_value, assigned_at, target_at, place_at, set_at, delete_at, begun_by, simple_at}
use Rattle.object_grammar.specs.Signs.{object_signs}
use Rattle.object_grammar.specs.Statements.{SpellsExpression, SpellsTarget, SpellsPlace, SpellsSimple}
use Rattle.object_grammar.proofs.Beginnings.{object_apart, expression_begins, given_so, begun_so, never_closes}

-- ---- what is assigned

given_reads : (x : List ℕ) (e : PureExpression) (ls rest : List Lexeme) → SpellsValue object_signs e ls rest → assigned_at x ls ≡ Some (assign x e, rest)
unfolding behind_value same_sign
given_reads x e ls rest h =
    let read = expression_reads object_signs object_apart 0 e semicolon ls rest refl h in
    given_so x ls (expression_begins e 0 ls (semicolon ∷ rest) h) ∙ ap (λ r. r >>= λ f. behind_value x f.0 f.1) read.is

called_reads : (x : List ℕ) (f : PureExpression) (es : List PureExpression) (ls inner rest : List Lexeme) → SpellsExpression f ls (opening_parenthesis ∷ inner)
    → SpellsArguments object_signs es inner rest → assigned_at x ls ≡ Some (call x f es, rest)
unfolding behind_value same_sign
called_reads x f es ls inner rest h i =
    let read = expression_reads object_signs object_apart 0 f opening_parenthesis ls inner refl h in
    given_so x ls (expression_begins f 0 ls (opening_parenthesis ∷ inner) h) ∙ ap (λ r. r >>= λ e. behind_value x e.0 e.1) read.is
    ∙ ap (λ r. r >>= λ a. Some (call x f a.0, a.1)) (arguments_read object_signs object_apart never_closes es inner rest i).is

input_reads : (x : List ℕ) (k : Kind) (sort : Word) (rest : List Lexeme) → input_word k ≡ Some sort
    → input_at x (lexemes.Word sort ∷ semicolon ∷ rest) ≡ Some (input x k, rest)
unfolding input_at
input_reads x k sort rest says = rw (input_again k sort says, same_sign-refl signs.Semicolon) refl

-- ---- how a statement begins

target_shorter : (x : List ℕ) (ls value : List Lexeme) → SpellsTarget x ls value → length value < length ls
target_shorter x ls value (inl is) = omega (arith, ap length is)
target_shorter x ls value (inr is) = omega (arith, ap length is)

equals_read : (x : List ℕ) (value : List Lexeme) → target_at x (equals ∷ value) ≡ assigned_at x value
equals_read x value = rw (same_sign-refl signs.Equal) refl

name_reads : (x : List ℕ) (value : List Lexeme) → place_at (lexemes.Name x ∷ equals ∷ value) ≡ Some (variable x, equals ∷ value)
name_reads x value =
    (expression_reads object_signs object_apart tight (variable x) equals (lexemes.Name x ∷ equals ∷ value) value refl (lexemes.Name x, refl, refl)).is

target_reads : (x : List ℕ) (ls value : List Lexeme) → SpellsTarget x ls value → simple_at ls ≡ assigned_at x value
unfolding simple_at
target_reads x ls value (inl is) =
    ap simple_at is ∙ ap (λ r. r >>= λ e. begun_by e.0 e.1) (name_reads x value) ∙ equals_read x value
target_reads x ls value (inr is) = ap simple_at is ∙ equals_read x value

-- ---- places

place_reads : (a b : PureExpression) (l : Lexeme) (ls rest : List Lexeme) → Ends object_signs l → SpellsPlace a b ls (l ∷ rest)
    → place_at ls ≡ Some (joined Property a b, l ∷ rest)
place_reads a b l ls rest ends h = (expression_reads object_signs object_apart tight (joined Property a b) l ls rest ends h).is

sets : (a b c : PureExpression) (value rest : List Lexeme) → value_at value ≡ Some (c, rest)
    → set_at (joined Property a b) (equals ∷ value) ≡ Some (set a b c, rest)
unfolding set_at
sets a b c value rest read = rw (same_sign-refl signs.Equal, read) refl

set_reads : (a b c : PureExpression) (ls value rest : List Lexeme) → SpellsPlace a b ls (equals ∷ value) → value_at value ≡ Some (c, rest)
    → simple_at ls ≡ Some (set a b c, rest)
unfolding simple_at
set_reads a b c ls value rest h read =
    begun_so ls (expression_begins (joined Property a b) tight ls (equals ∷ value) h)
    ∙ ap (λ r. r >>= λ e. begun_by e.0 e.1) (place_reads a b equals ls value refl h) ∙ sets a b c value rest read

deletes : (a b : PureExpression) (place rest : List Lexeme) → place_at place ≡ Some (joined Property a b, semicolon ∷ rest)
    → delete_at place ≡ Some (delete a b, rest)
unfolding delete_at
deletes a b place rest read = rw (read, same_sign-refl signs.Semicolon) refl

-- ---- statements that begin with a word

delete_reads : (a b : PureExpression) (ls place rest : List Lexeme) → ls ≡ lexemes.Word words.Delete ∷ place → SpellsPlace a b place (semicolon ∷ rest)
    → simple_at ls ≡ Some (delete a b, rest)
unfolding simple_at
delete_reads a b ls place rest is h = ap simple_at is ∙ deletes a b place rest (place_reads a b semicolon place rest refl h)

set_proto_reads : (a b : PureExpression) (ls pair rest : List Lexeme) → ls ≡ lexemes.Word words.Setproto ∷ pair → pair_at pair ≡ Some ((a, b), rest)
    → simple_at ls ≡ Some (set_proto a b, rest)
unfolding simple_at
set_proto_reads a b ls pair rest is read = ap simple_at is ∙ ap (λ r. r >>= λ p. Some (set_proto p.0.0 p.0.1, p.1)) read

fail_reads : (e : PureExpression) (ls value rest : List Lexeme) → ls ≡ lexemes.Word words.Fail ∷ value → value_at value ≡ Some (e, rest)
    → simple_at ls ≡ Some (fail e, rest)
unfolding simple_at
fail_reads e ls value rest is read = ap simple_at is ∙ ap (λ r. r >>= λ f. Some (fail f.0, f.1)) read

throw_reads : (e : PureExpression) (ls value rest : List Lexeme) → ls ≡ lexemes.Word words.Throw ∷ value → value_at value ≡ Some (e, rest)
    → simple_at ls ≡ Some (throw e, rest)
unfolding simple_at
throw_reads e ls value rest is read = ap simple_at is ∙ ap (λ r. r >>= λ f. Some (throw f.0, f.1)) read

pub simple_reads : (c : PureSimple) (ls rest : List Lexeme) → SpellsSimple c ls rest → IsRead simple_at c ls rest
simple_reads (assign x e) ls rest (value, target, h) = record {
  is = target_reads x ls value target ∙ given_reads x e value rest h;
  shorter = omega (arith, target_shorter x ls value target, shorter object_signs e 0 value (semicolon ∷ rest) h);
}
simple_reads (input x k) ls rest (sort, says, target) = record {
  is = target_reads x ls _ target ∙ input_reads x k sort rest says;
  shorter = omega (arith, target_shorter x ls _ target);
}
simple_reads (create x e) ls rest (value, target, h) =
    let read = argument_reads object_signs object_apart e value rest h in
    record {
      is = target_reads x ls (lexemes.Word words.Create ∷ value) target ∙ ap (λ r. r >>= λ f. Some (create x f.0, f.1)) read.is;
      shorter = omega (arith, target_shorter x ls (lexemes.Word words.Create ∷ value) target, read.shorter);
    }
simple_reads (proto x e) ls rest (value, target, h) =
    let read = argument_reads object_signs object_apart e value rest h in
    record {
      is = target_reads x ls (lexemes.Word words.Proto ∷ value) target ∙ ap (λ r. r >>= λ f. Some (proto x f.0, f.1)) read.is;
      shorter = omega (arith, target_shorter x ls (lexemes.Word words.Proto ∷ value) target, read.shorter);
    }
simple_reads (has x a b) ls rest (value, target, h) =
    let read = pair_reads object_signs object_apart a b value rest h in
    record {
      is = target_reads x ls (lexemes.Word words.Has ∷ value) target ∙ ap (λ r. r >>= λ p. Some (has x p.0.0 p.0.1, p.1)) read.is;
      shorter = omega (arith, target_shorter x ls (lexemes.Word words.Has ∷ value) target, read.shorter);
    }
simple_reads (call x f es) ls rest (value, inner, target, h, i) = record {
  is = target_reads x ls value target ∙ called_reads x f es value inner rest h i;
  shorter = omega (
    arith,
    target_shorter x ls value target,
    shorter object_signs f 0 value (opening_parenthesis ∷ inner) h,
    (arguments_read object_signs object_apart never_closes es inner rest i).shorter,
  );
}
simple_reads (set a b c) ls rest (value, h, i) =
    let read = value_reads object_signs object_apart c value rest i in
    record {
      is = set_reads a b c ls value rest h read.is;
      shorter = omega (arith, shorter object_signs (joined Property a b) tight ls (equals ∷ value) h, read.shorter);
    }
simple_reads (delete a b) ls rest (place, is, h) = record {
  is = delete_reads a b ls place rest is h;
  shorter = omega (arith, ap length is, shorter object_signs (joined Property a b) tight place (semicolon ∷ rest) h);
}
simple_reads (set_proto a b) ls rest (pair, is, h) =
    let read = pair_reads object_signs object_apart a b pair rest h in
    record { is = set_proto_reads a b ls pair rest is read.is; shorter = omega (arith, ap length is, read.shorter) }
simple_reads (fail e) ls rest (value, is, h) =
    let read = value_reads object_signs object_apart e value rest h in
    record { is = fail_reads e ls value rest is read.is; shorter = omega (arith, ap length is, read.shorter) }
simple_reads (throw e) ls rest (value, is, h) =
    let read = value_reads object_signs object_apart e value rest h in
    record { is = throw_reads e ls value rest is read.is; shorter = omega (arith, ap length is, read.shorter) }
