-- The reserved words.
use Rattle.std.proofs.Common.{◌≡◌, ◌≢◌, ℕ, List, Option, Some, None, refl, sym, IfSome, IfNone}
use Rattle.std.specs.Str.{bytes_eq}
use Rattle.std.proofs.lemmas.Slice.Eq.{bytes_eq-Decides}
use Rattle.gil_lexer.proofs.Finding.{find_passes}
use Rattle.gil_lexer.specs.Words.{word_bytes, all_words}
use Rattle.gil_lexer.specs.Spelling.{IsName}
use Rattle.gil_lexer.specs.Reading.{word_of}
use Rattle.gil_lexer.specs.declared.words.Word.{Word}
use Rattle.gil_lexer.specs.declared.words.Word.TheVariants as the

-- each word is the one that its bytes spell
pub word_of-spelling : (word : Word) → word_of (word_bytes word) ≡ Some word
unfolding word_of word_bytes all_words
word_of-spelling the.Proc = refl
word_of-spelling the.Spec = refl
word_of-spelling the.Pred = refl
word_of-spelling the.Ifgoto = refl
word_of-spelling the.Call = refl
word_of-spelling the.Do = refl
word_of-spelling the.Usym = refl
word_of-spelling the.Isym = refl
word_of-spelling the.Return = refl
word_of-spelling the.Fail = refl
word_of-spelling the.Vanish = refl
word_of-spelling the.Fold = refl
word_of-spelling the.Unfold = refl
word_of-spelling the.Invariant = refl
word_of-spelling the.Assert = refl
word_of-spelling the.Assume = refl
word_of-spelling the.Emp = refl
word_of-spelling the.True = refl
word_of-spelling the.False = refl
word_of-spelling the.Not = refl
word_of-spelling the.Neg = refl
word_of-spelling the.Len = refl
word_of-spelling the.Kind = refl
word_of-spelling the.Nth = refl
word_of-spelling the.And = refl
word_of-spelling the.Or = refl
word_of-spelling the.Ret = refl
word_of-spelling the.IntKind = refl
word_of-spelling the.BoolKind = refl
word_of-spelling the.StrKind = refl
word_of-spelling the.SymKind = refl
word_of-spelling the.KindKind = refl
word_of-spelling the.ProcKind = refl
word_of-spelling the.ListKind = refl
word_of-spelling the.UndefKind = refl
word_of-spelling the.NullKind = refl
word_of-spelling the.Int = refl
word_of-spelling the.Bool = refl
word_of-spelling the.Str = refl
word_of-spelling the.Sym = refl
word_of-spelling the.List = refl
word_of-spelling the.Any = refl
word_of-spelling the.Vars = refl
word_of-spelling the.Func = refl
word_of-spelling the.Function = refl
word_of-spelling the.New = refl
word_of-spelling the.Input = refl
word_of-spelling the.Symbol = refl
word_of-spelling the.Dispose = refl
word_of-spelling the.If = refl
word_of-spelling the.Else = refl
word_of-spelling the.While = refl
word_of-spelling the.Let = refl
word_of-spelling the.Create = refl
word_of-spelling the.Setproto = refl
word_of-spelling the.Proto = refl
word_of-spelling the.Has = refl
word_of-spelling the.Delete = refl
word_of-spelling the.Undefined = refl
word_of-spelling the.Null = refl
word_of-spelling the.Malloc = refl
word_of-spelling the.Free = refl
word_of-spelling the.NullPointer = refl
word_of-spelling the.Throw = refl
word_of-spelling the.Catch = refl
word_of-spelling the.Try = refl
word_of-spelling the.Lemma = refl

-- what is found spells the bytes
pub word_of_some : (text : List ℕ) (word : Word) → word_of text ≡ Some word → word_bytes word ≡ text
unfolding word_of
word_of_some text word e = sym ((bytes_eq-Decides text (word_bytes word)).0 (find_passes (λ w. bytes_eq text (word_bytes w)) all_words word e))

-- where none is found, no word spells the bytes
pub word_of_none : (text : List ℕ) → word_of text ≡ None → (word : Word) → word_bytes word ≢ text
word_of_none text e word same = let found = word_of-spelling word in let at_text : word_of text ≡ Some word = rw (← same) found in cc

pub spelled : (found : Option Word) (text : List ℕ) → found ≡ word_of text → IfSome found (λ word. word_bytes word ≡ text)
spelled None text e = tt
spelled (Some word) text e = word_of_some text word (sym e)

pub unspelled : (found : Option Word) (text : List ℕ) → found ≡ word_of text → IfNone found ((word : Word) → word_bytes word ≢ text)
unspelled None text e = word_of_none text (sym e)
unspelled (Some word) text e = tt

-- a word is a name
pub word_is_name : (word : Word) → IsName (word_bytes word)
unfolding word_bytes
word_is_name the.Proc = (refl, refl)
word_is_name the.Spec = (refl, refl)
word_is_name the.Pred = (refl, refl)
word_is_name the.Ifgoto = (refl, refl)
word_is_name the.Call = (refl, refl)
word_is_name the.Do = (refl, refl)
word_is_name the.Usym = (refl, refl)
word_is_name the.Isym = (refl, refl)
word_is_name the.Return = (refl, refl)
word_is_name the.Fail = (refl, refl)
word_is_name the.Vanish = (refl, refl)
word_is_name the.Fold = (refl, refl)
word_is_name the.Unfold = (refl, refl)
word_is_name the.Invariant = (refl, refl)
word_is_name the.Assert = (refl, refl)
word_is_name the.Assume = (refl, refl)
word_is_name the.Emp = (refl, refl)
word_is_name the.True = (refl, refl)
word_is_name the.False = (refl, refl)
word_is_name the.Not = (refl, refl)
word_is_name the.Neg = (refl, refl)
word_is_name the.Len = (refl, refl)
word_is_name the.Kind = (refl, refl)
word_is_name the.Nth = (refl, refl)
word_is_name the.And = (refl, refl)
word_is_name the.Or = (refl, refl)
word_is_name the.Ret = (refl, refl)
word_is_name the.IntKind = (refl, refl)
word_is_name the.BoolKind = (refl, refl)
word_is_name the.StrKind = (refl, refl)
word_is_name the.SymKind = (refl, refl)
word_is_name the.KindKind = (refl, refl)
word_is_name the.ProcKind = (refl, refl)
word_is_name the.ListKind = (refl, refl)
word_is_name the.UndefKind = (refl, refl)
word_is_name the.NullKind = (refl, refl)
word_is_name the.Int = (refl, refl)
word_is_name the.Bool = (refl, refl)
word_is_name the.Str = (refl, refl)
word_is_name the.Sym = (refl, refl)
word_is_name the.List = (refl, refl)
word_is_name the.Any = (refl, refl)
word_is_name the.Vars = (refl, refl)
word_is_name the.Func = (refl, refl)
word_is_name the.Function = (refl, refl)
word_is_name the.New = (refl, refl)
word_is_name the.Input = (refl, refl)
word_is_name the.Symbol = (refl, refl)
word_is_name the.Dispose = (refl, refl)
word_is_name the.If = (refl, refl)
word_is_name the.Else = (refl, refl)
word_is_name the.While = (refl, refl)
word_is_name the.Let = (refl, refl)
word_is_name the.Create = (refl, refl)
word_is_name the.Setproto = (refl, refl)
word_is_name the.Proto = (refl, refl)
word_is_name the.Has = (refl, refl)
word_is_name the.Delete = (refl, refl)
word_is_name the.Undefined = (refl, refl)
word_is_name the.Null = (refl, refl)
word_is_name the.Malloc = (refl, refl)
word_is_name the.Free = (refl, refl)
word_is_name the.NullPointer = (refl, refl)
word_is_name the.Throw = (refl, refl)
word_is_name the.Catch = (refl, refl)
word_is_name the.Try = (refl, refl)
word_is_name the.Lemma = (refl, refl)
