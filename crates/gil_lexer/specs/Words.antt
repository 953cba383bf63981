-- The reserved words and their spellings.
use Rattle.std.specs.Prelude.{ℕ, List, [], ◌∷◌, codes}
use Rattle.gil_lexer.specs.declared.words.Word.{Word}
use Rattle.gil_lexer.specs.declared.words.Word.TheVariants as the

-- the ASCII bytes of a word
unfoldable pub word_bytes : Word → List ℕ
word_bytes the.Proc = codes "proc"
word_bytes the.Spec = codes "spec"
word_bytes the.Pred = codes "pred"
word_bytes the.Ifgoto = codes "ifgoto"
word_bytes the.Call = codes "call"
word_bytes the.Do = codes "do"
word_bytes the.Usym = codes "usym"
word_bytes the.Isym = codes "isym"
word_bytes the.Return = codes "return"
word_bytes the.Fail = codes "fail"
word_bytes the.Vanish = codes "vanish"
word_bytes the.Fold = codes "fold"
word_bytes the.Unfold = codes "unfold"
word_bytes the.Invariant = codes "invariant"
word_bytes the.Assert = codes "assert"
word_bytes the.Assume = codes "assume"
word_bytes the.Emp = codes "emp"
word_bytes the.True = codes "true"
word_bytes the.False = codes "false"
word_bytes the.Not = codes "not"
word_bytes the.Neg = codes "neg"
word_bytes the.Len = codes "len"
word_bytes the.Kind = codes "kind"
word_bytes the.Nth = codes "nth"
word_bytes the.And = codes "and"
word_bytes the.Or = codes "or"
word_bytes the.Ret = codes "ret"
word_bytes the.IntKind = codes "Int"
word_bytes the.BoolKind = codes "Bool"
word_bytes the.StrKind = codes "Str"
word_bytes the.SymKind = codes "Sym"
word_bytes the.KindKind = codes "Kind"
word_bytes the.ProcKind = codes "Proc"
word_bytes the.ListKind = codes "List"
word_bytes the.UndefKind = codes "Undef"
word_bytes the.NullKind = codes "Null"
word_bytes the.Int = codes "int"
word_bytes the.Bool = codes "bool"
word_bytes the.Str = codes "str"
word_bytes the.Sym = codes "sym"
word_bytes the.List = codes "list"
word_bytes the.Any = codes "any"
word_bytes the.Vars = codes "vars"
word_bytes the.Func = codes "func"
word_bytes the.Function = codes "function"
word_bytes the.New = codes "new"
word_bytes the.Input = codes "input"
word_bytes the.Symbol = codes "symbol"
word_bytes the.Dispose = codes "dispose"
word_bytes the.If = codes "if"
word_bytes the.Else = codes "else"
word_bytes the.While = codes "while"
word_bytes the.Let = codes "let"
word_bytes the.Create = codes "create"
word_bytes the.Setproto = codes "setproto"
word_bytes the.Proto = codes "proto"
word_bytes the.Has = codes "has"
word_bytes the.Delete = codes "delete"
word_bytes the.Undefined = codes "undefined"
word_bytes the.Null = codes "null"
word_bytes the.Malloc = codes "malloc"
word_bytes the.Free = codes "free"
word_bytes the.NullPointer = codes "NULL"
word_bytes the.Throw = codes "throw"
word_bytes the.Catch = codes "catch"
word_bytes the.Try = codes "try"
word_bytes the.Lemma = codes "lemma"

-- each word
unfoldable pub all_words : List Word
all_words =
    the.Proc ∷ the.Spec ∷ the.Pred ∷ the.Ifgoto ∷ the.Call ∷ the.Do ∷ the.Usym ∷ the.Isym ∷
    the.Return ∷ the.Fail ∷ the.Vanish ∷ the.Fold ∷ the.Unfold ∷ the.Invariant ∷ the.Assert ∷
    the.Assume ∷ the.Emp ∷ the.True ∷ the.False ∷ the.Not ∷ the.Neg ∷ the.Len ∷ the.Kind ∷
    the.Nth ∷ the.And ∷ the.Or ∷ the.Ret ∷ the.IntKind ∷ the.BoolKind ∷ the.StrKind ∷
    the.SymKind ∷ the.KindKind ∷ the.ProcKind ∷ the.ListKind ∷ the.UndefKind ∷ the.NullKind ∷
    the.Int ∷ the.Bool ∷ the.Str ∷ the.Sym ∷ the.List ∷ the.Any ∷ the.Vars ∷ the.Func ∷
    the.Function ∷ the.New ∷ the.Input ∷ the.Symbol ∷ the.Dispose ∷ the.If ∷ the.Else ∷
    the.While ∷ the.Let ∷ the.Create ∷ the.Setproto ∷ the.Proto ∷ the.Has ∷ the.Delete ∷
    the.Undefined ∷ the.Null ∷ the.Malloc ∷ the.Free ∷ the.NullPointer ∷ the.Throw ∷ the.Catch ∷
    the.Try ∷ the.Lemma ∷ []
