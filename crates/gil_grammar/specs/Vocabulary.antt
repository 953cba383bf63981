-- The words, signs and names of GIL, as lexemes.
use Rattle.std.specs.Prelude.{◌≡◌, ◌⊎◌, ℕ, Bool, true, false, List, ◌∷◌, Option, Some, None, codes}
use Rattle.gil_values.specs.declared.kinds.Kind.{Kind}
use Rattle.gil_values.specs.declared.kinds.Kind.TheVariants as kinds
use Rattle.gil_values.specs.declared.operators.UnOp.{UnOp}
use Rattle.gil_values.specs.declared.operators.UnOp.TheVariants as unary
use Rattle.gil_values.specs.declared.operators.BinOp.{BinOp}
use Rattle.gil_values.specs.declared.operators.BinOp.TheVariants as binary
use Rattle.gil_values.specs.Pure.{PureValue, integer, boolean, text, symbol, kind, procedure, list}
use Rattle.gil_lexer.specs.declared.words.Word.{Word}
use Rattle.gil_lexer.specs.declared.words.Word.TheVariants as words
use Rattle.gil_lexer.specs.declared.signs.Sign.TheVariants as signs
use Rattle.gil_lexemes.specs.declared.standing.Lexeme.{Lexeme}
use Rattle.gil_lexemes.specs.declared.standing.Lexeme.TheVariants.{Name, Word as OfWord, Procedure, Number, Literal, Sign}
use Rattle.gil_syntax.specs.declared.assertions.SpecSort.{SpecSort}
use Rattle.gil_syntax.specs.declared.assertions.SpecSort.TheVariants as sorts
use Rattle.gil_grammar.specs.declared.positions.Position.{Position}
use Rattle.gil_grammar.specs.declared.positions.Position.TheVariants.{Assertion, Predicate, Action}

abbrev pub opening_parenthesis : Lexeme
opening_parenthesis = Sign signs.LeftParenthesis

abbrev pub closing_parenthesis : Lexeme
closing_parenthesis = Sign signs.RightParenthesis

abbrev pub opening_bracket : Lexeme
opening_bracket = Sign signs.LeftBracket

abbrev pub closing_bracket : Lexeme
closing_bracket = Sign signs.RightBracket

abbrev pub opening_brace : Lexeme
opening_brace = Sign signs.LeftBrace

abbrev pub closing_brace : Lexeme
closing_brace = Sign signs.RightBrace

abbrev pub comma : Lexeme
comma = Sign signs.Comma

abbrev pub semicolon : Lexeme
semicolon = Sign signs.Semicolon

abbrev pub colon : Lexeme
colon = Sign signs.Colon

abbrev pub becomes : Lexeme
becomes = Sign signs.ColonEqual

-- ---- values

abbrev pub boolean_word : Bool → Word
boolean_word true = words.True
boolean_word false = words.False

abbrev pub kind_word : Kind → Word
kind_word kinds.Int = words.IntKind
kind_word kinds.Bool = words.BoolKind
kind_word kinds.Str = words.StrKind
kind_word kinds.Sym = words.SymKind
kind_word kinds.Kind = words.KindKind
kind_word kinds.Proc = words.ProcKind
kind_word kinds.List = words.ListKind
kind_word kinds.Undef = words.UndefKind
kind_word kinds.Null = words.NullKind

-- the lexeme of a literal; symbols and lists have none
abbrev pub literal_lexeme : PureValue → Option Lexeme
literal_lexeme (integer n) = Some (Number n)
literal_lexeme (boolean b) = Some (OfWord (boolean_word b))
literal_lexeme (text characters) = Some (Literal characters)
literal_lexeme (symbol n) = None
literal_lexeme (kind k) = Some (OfWord (kind_word k))
literal_lexeme (procedure f) = Some (Procedure f)
literal_lexeme (list vs) = None

-- ---- operators

abbrev pub unary_word : UnOp → Word
unary_word unary.Not = words.Not
unary_word unary.Neg = words.Neg
unary_word unary.Len = words.Len
unary_word unary.Kind = words.Kind

-- what stands before the operands, with what follows: `nth` is written before its brackets, the others between their
-- operands
abbrev pub before_operands : BinOp → List Lexeme → List Lexeme
before_operands binary.Nth rest = OfWord words.Nth ∷ opening_parenthesis ∷ rest
before_operands _ rest = opening_parenthesis ∷ rest

-- what stands between the operands
abbrev pub between_operands : BinOp → Lexeme
between_operands binary.Add = Sign signs.Plus
between_operands binary.Subtract = Sign signs.Minus
between_operands binary.Multiply = Sign signs.Star
between_operands binary.Divide = Sign signs.Slash
between_operands binary.Remainder = Sign signs.Percent
between_operands binary.Equal = Sign signs.Equal
between_operands binary.Less = Sign signs.Less
between_operands binary.LessOrEqual = Sign signs.LessEqual
between_operands binary.And = OfWord words.And
between_operands binary.Or = OfWord words.Or
between_operands binary.Append = Sign signs.PlusPlus
between_operands binary.Nth = comma

-- ---- sorts

abbrev pub sort_word : SpecSort → Word
sort_word sorts.Int = words.Int
sort_word sorts.Bool = words.Bool
sort_word sorts.Str = words.Str
sort_word sorts.Sym = words.Sym
sort_word sorts.List = words.List
sort_word sorts.Any = words.Any

-- the kinds that an input may have
abbrev pub input_word : Kind → Option Word
input_word kinds.Int = Some words.Int
input_word kinds.Bool = Some words.Bool
input_word kinds.Str = Some words.Str
input_word _ = None

-- ---- names

-- the name for which a reserved word serves at a position
abbrev pub word_name : Position → Word → Option (List ℕ)
word_name Assertion words.Ret = Some (codes "ret")
word_name Predicate words.List = Some (codes "list")
word_name Predicate words.Proto = Some (codes "proto")
word_name Action words.New = Some (codes "new")
word_name Action words.Has = Some (codes "has")
word_name Action words.Free = Some (codes "free")
word_name Action words.Dispose = Some (codes "dispose")
word_name Action words.Delete = Some (codes "delete")
word_name Action words.Setproto = Some (codes "setproto")
word_name _ _ = None

-- the lexeme is the name x at this position
abbrev pub IsNameAt : Position → List ℕ → Lexeme → Type 0
IsNameAt position x lexeme = (lexeme ≡ Name x) ⊎ ((word : Word) × (word_name position word ≡ Some x) × (lexeme ≡ OfWord word))
