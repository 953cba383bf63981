-- Words, signs and names that are read are spelled so, and the other way round.
use Rattle.std.proofs.Common.{◌≡◌, ℕ, false, List, [], ◌∷◌, Some, None, refl, sym, ap, subst, inl, inr}
use Rattle.gil_values.specs.declared.kinds.Kind.{Kind}
use Rattle.gil_values.specs.declared.kinds.Kind.TheVariants as kinds
use Rattle.gil_values.specs.declared.operators.UnOp.{UnOp}
use Rattle.gil_values.specs.declared.operators.UnOp.TheVariants as unary
use Rattle.gil_values.specs.declared.operators.BinOp.{BinOp}
use Rattle.gil_values.specs.Pure.{PureValue}
use Rattle.gil_lexer.specs.declared.words.Word.{Word}
use Rattle.gil_lexer.specs.declared.words.Word.TheVariants as words
use Rattle.gil_lexer.specs.declared.signs.Sign.{Sign}
use Rattle.gil_lexer.specs.declared.signs.Sign.TheVariants as signs
use Rattle.gil_lexemes.specs.declared.standing.Lexeme.{Lexeme}
use Rattle.gil_lexemes.specs.declared.standing.Lexeme.TheVariants as lexemes
use Rattle.gil_lexemes.specs.Reading.{behind, first_form}
use Rattle.gil_lexemes.proofs.ReadingLaws.{bind_some, name_takes}
use Rattle.gil_syntax.specs.declared.assertions.SpecSort.{SpecSort}
use Rattle.gil_syntax.specs.declared.assertions.SpecSort.TheVariants as sorts
use Rattle.gil_grammar.specs.declared.positions.Position.{Position}
use Rattle.gil_grammar.specs.declared.positions.Position.TheVariants as positions
use Rattle.gil_grammar.specs.Vocabulary.{literal_lexeme, unary_word, between_operands, before_operands, sort_word, input_word, word_name, IsNameAt}
use Rattle.gil_grammar.specs.Reading.Vocabulary.{word_value, unary_of_word, operator_of_sign, operator_of_word, operator_of, sort_of_word, input_of_word, named_at}
use Rattle.gil_grammar.specs.Reading.Expressions.{word_opens}
use Rattle.gil_grammar.proofs.ListLaws.{found_is}

-- ---- values

pub word_value_takes : (word : Word) (v : PureValue) → word_value word ≡ Some v → literal_lexeme v ≡ Some (lexemes.Word word)
word_value_takes words.True v e = rw (sym (found_is _ v e)) refl
word_value_takes words.False v e = rw (sym (found_is _ v e)) refl
word_value_takes words.IntKind v e = rw (sym (found_is _ v e)) refl
word_value_takes words.BoolKind v e = rw (sym (found_is _ v e)) refl
word_value_takes words.StrKind v e = rw (sym (found_is _ v e)) refl
word_value_takes words.SymKind v e = rw (sym (found_is _ v e)) refl
word_value_takes words.KindKind v e = rw (sym (found_is _ v e)) refl
word_value_takes words.ProcKind v e = rw (sym (found_is _ v e)) refl
word_value_takes words.ListKind v e = rw (sym (found_is _ v e)) refl
word_value_takes words.UndefKind v e = rw (sym (found_is _ v e)) refl
word_value_takes words.NullKind v e = rw (sym (found_is _ v e)) refl
word_value_takes _ v e = absurd cc

-- ---- operators

pub unary_takes : (word : Word) (op : UnOp) → unary_of_word word ≡ Some op → unary_word op ≡ word
unary_takes words.Not op e = rw (sym (found_is _ op e)) refl
unary_takes words.Neg op e = rw (sym (found_is _ op e)) refl
unary_takes words.Len op e = rw (sym (found_is _ op e)) refl
unary_takes words.Kind op e = rw (sym (found_is _ op e)) refl
unary_takes _ op e = absurd cc

pub unary_again : (op : UnOp) → unary_of_word (unary_word op) ≡ Some op
unary_again unary.Not = refl
unary_again unary.Neg = refl
unary_again unary.Len = refl
unary_again unary.Kind = refl

-- an operator that stands between its operands
abbrev pub IsBetween : BinOp → Lexeme → Type 0
IsBetween op lexeme = (between_operands op ≡ lexeme) × ((rest : List Lexeme) → before_operands op rest ≡ lexemes.Sign signs.LeftParenthesis ∷ rest)

between : (found op : BinOp) (lexeme : Lexeme) → Some found ≡ Some op → IsBetween found lexeme → IsBetween op lexeme
between found op lexeme e h = subst (λ o. IsBetween o lexeme) (found_is found op e) h

operator_of_sign_takes : (sign : Sign) (op : BinOp) → operator_of_sign sign ≡ Some op → IsBetween op (lexemes.Sign sign)
operator_of_sign_takes signs.Plus op e = between _ op _ e (refl, λ rest. refl)
operator_of_sign_takes signs.Minus op e = between _ op _ e (refl, λ rest. refl)
operator_of_sign_takes signs.Star op e = between _ op _ e (refl, λ rest. refl)
operator_of_sign_takes signs.Slash op e = between _ op _ e (refl, λ rest. refl)
operator_of_sign_takes signs.Percent op e = between _ op _ e (refl, λ rest. refl)
operator_of_sign_takes signs.Equal op e = between _ op _ e (refl, λ rest. refl)
operator_of_sign_takes signs.Less op e = between _ op _ e (refl, λ rest. refl)
operator_of_sign_takes signs.LessEqual op e = between _ op _ e (refl, λ rest. refl)
operator_of_sign_takes signs.PlusPlus op e = between _ op _ e (refl, λ rest. refl)
operator_of_sign_takes _ op e = absurd cc

operator_of_word_takes : (word : Word) (op : BinOp) → operator_of_word word ≡ Some op → IsBetween op (lexemes.Word word)
operator_of_word_takes words.And op e = between _ op _ e (refl, λ rest. refl)
operator_of_word_takes words.Or op e = between _ op _ e (refl, λ rest. refl)
operator_of_word_takes _ op e = absurd cc

pub operator_takes : (ls : List Lexeme) (op : BinOp) → operator_of (first_form ls) ≡ Some op
    → (ls ≡ between_operands op ∷ behind ls) × ((rest : List Lexeme) → before_operands op rest ≡ lexemes.Sign signs.LeftParenthesis ∷ rest)
operator_takes [] op e = absurd cc
operator_takes (lexemes.Sign s ∷ ls) op e = let h = operator_of_sign_takes s op e in (ap (λ l. l ∷ ls) (sym h.0), h.1)
operator_takes (lexemes.Word w ∷ ls) op e = let h = operator_of_word_takes w op e in (ap (λ l. l ∷ ls) (sym h.0), h.1)
operator_takes (_ ∷ ls) op e = absurd cc

-- ---- sorts and inputs

pub sort_takes : (word : Word) (sort : SpecSort) → sort_of_word word ≡ Some sort → sort_word sort ≡ word
sort_takes words.Int sort e = rw (sym (found_is _ sort e)) refl
sort_takes words.Bool sort e = rw (sym (found_is _ sort e)) refl
sort_takes words.Str sort e = rw (sym (found_is _ sort e)) refl
sort_takes words.Sym sort e = rw (sym (found_is _ sort e)) refl
sort_takes words.List sort e = rw (sym (found_is _ sort e)) refl
sort_takes words.Any sort e = rw (sym (found_is _ sort e)) refl
sort_takes _ sort e = absurd cc

pub sort_again : (sort : SpecSort) → sort_of_word (sort_word sort) ≡ Some sort
sort_again sorts.Int = refl
sort_again sorts.Bool = refl
sort_again sorts.Str = refl
sort_again sorts.Sym = refl
sort_again sorts.List = refl
sort_again sorts.Any = refl

pub input_takes : (word : Word) (k : Kind) → input_of_word word ≡ Some k → input_word k ≡ Some word
input_takes words.Int k e = rw (sym (found_is _ k e)) refl
input_takes words.Bool k e = rw (sym (found_is _ k e)) refl
input_takes words.Str k e = rw (sym (found_is _ k e)) refl
input_takes _ k e = absurd cc

pub input_again : (k : Kind) (word : Word) → input_word k ≡ Some word → input_of_word word ≡ Some k
input_again kinds.Int word e = rw (sym (found_is _ word e)) refl
input_again kinds.Bool word e = rw (sym (found_is _ word e)) refl
input_again kinds.Str word e = rw (sym (found_is _ word e)) refl
input_again _ word e = absurd cc

-- ---- names

pub named_takes : (position : Position) (ls : List Lexeme) (found : List ℕ × List Lexeme) → named_at position ls ≡ Some found
    → (lexeme : Lexeme) × IsNameAt position found.0 lexeme × (ls ≡ lexeme ∷ found.1)
named_takes position [] found e = absurd cc
named_takes position (lexemes.Name x ∷ ls) found e =
    let is = name_takes (lexemes.Name x ∷ ls) found e in (lexemes.Name found.0, inl refl, is)
named_takes position (lexemes.Word w ∷ ls) found e =
    let x = bind_some (word_name position w) _ found e in
    let is = found_is (x.0, ls) found x.2 in
    subst (λ (f : List ℕ × List Lexeme). (lexeme : Lexeme) × IsNameAt position f.0 lexeme × (lexemes.Word w ∷ ls ≡ lexeme ∷ f.1)) is
    (lexemes.Word w, inr (w, x.1, refl), refl)
named_takes position (_ ∷ ls) found e = absurd cc

pub named_again : (position : Position) (x : List ℕ) (lexeme : Lexeme) (rest : List Lexeme) → IsNameAt position x lexeme → named_at position (lexeme ∷ rest) ≡ Some (x, rest)
named_again position x lexeme rest (inl is) = rw is refl
named_again position x lexeme rest (inr (word, says, is)) = rw (is, says) refl

-- a word that serves as a name stands for no value and begins no expression with brackets
pub serving_word : (position : Position) (word : Word) (x : List ℕ) → word_name position word ≡ Some x → (word_value word ≡ None) × (word_opens word ≡ false)
serving_word positions.Assertion words.Ret x e = (refl, refl)
serving_word positions.Predicate words.List x e = (refl, refl)
serving_word positions.Predicate words.Proto x e = (refl, refl)
serving_word positions.Action words.New x e = (refl, refl)
serving_word positions.Action words.Has x e = (refl, refl)
serving_word positions.Action words.Free x e = (refl, refl)
serving_word positions.Action words.Dispose x e = (refl, refl)
serving_word positions.Action words.Delete x e = (refl, refl)
serving_word positions.Action words.Setproto x e = (refl, refl)
serving_word _ _ x e = absurd cc
