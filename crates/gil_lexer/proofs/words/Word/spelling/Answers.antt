use Rattle.std.proofs.Common.{◌≡◌, refl, ◌∙◌}
use Rattle.gil_lexer.specs.declared.words.Word.TheVariants as the
use Rattle.gil_lexer.specs.Words.{word_bytes}
use Rattle.gil_lexer.proofs.words.Word.spelling.Goals as goal

-- the table has the spelling of each word at the word's place
pub returns : goal.returns
unfolding word_bytes
returns c =
    elim c.args.self as (λ w. c.args.self ≡ w → c.as_bytes.result.now ≡ word_bytes c.args.self) [
      | the.Proc ↦ λ e. c.as_bytes.ensures.value ∙ rw e refl
      | the.Spec ↦ λ e. c.as_bytes.ensures.value ∙ rw e refl
      | the.Pred ↦ λ e. c.as_bytes.ensures.value ∙ rw e refl
      | the.Ifgoto ↦ λ e. c.as_bytes.ensures.value ∙ rw e refl
      | the.Call ↦ λ e. c.as_bytes.ensures.value ∙ rw e refl
      | the.Do ↦ λ e. c.as_bytes.ensures.value ∙ rw e refl
      | the.Usym ↦ λ e. c.as_bytes.ensures.value ∙ rw e refl
      | the.Isym ↦ λ e. c.as_bytes.ensures.value ∙ rw e refl
      | the.Return ↦ λ e. c.as_bytes.ensures.value ∙ rw e refl
      | the.Fail ↦ λ e. c.as_bytes.ensures.value ∙ rw e refl
      | the.Vanish ↦ λ e. c.as_bytes.ensures.value ∙ rw e refl
      | the.Fold ↦ λ e. c.as_bytes.ensures.value ∙ rw e refl
      | the.Unfold ↦ λ e. c.as_bytes.ensures.value ∙ rw e refl
      | the.Invariant ↦ λ e. c.as_bytes.ensures.value ∙ rw e refl
      | the.Assert ↦ λ e. c.as_bytes.ensures.value ∙ rw e refl
      | the.Assume ↦ λ e. c.as_bytes.ensures.value ∙ rw e refl
      | the.Emp ↦ λ e. c.as_bytes.ensures.value ∙ rw e refl
      | the.True ↦ λ e. c.as_bytes.ensures.value ∙ rw e refl
      | the.False ↦ λ e. c.as_bytes.ensures.value ∙ rw e refl
      | the.Not ↦ λ e. c.as_bytes.ensures.value ∙ rw e refl
      | the.Neg ↦ λ e. c.as_bytes.ensures.value ∙ rw e refl
      | the.Len ↦ λ e. c.as_bytes.ensures.value ∙ rw e refl
      | the.Kind ↦ λ e. c.as_bytes.ensures.value ∙ rw e refl
      | the.Nth ↦ λ e. c.as_bytes.ensures.value ∙ rw e refl
      | the.And ↦ λ e. c.as_bytes.ensures.value ∙ rw e refl
      | the.Or ↦ λ e. c.as_bytes.ensures.value ∙ rw e refl
      | the.Ret ↦ λ e. c.as_bytes.ensures.value ∙ rw e refl
      | the.IntKind ↦ λ e. c.as_bytes.ensures.value ∙ rw e refl
      | the.BoolKind ↦ λ e. c.as_bytes.ensures.value ∙ rw e refl
      | the.StrKind ↦ λ e. c.as_bytes.ensures.value ∙ rw e refl
      | the.SymKind ↦ λ e. c.as_bytes.ensures.value ∙ rw e refl
      | the.KindKind ↦ λ e. c.as_bytes.ensures.value ∙ rw e refl
      | the.ProcKind ↦ λ e. c.as_bytes.ensures.value ∙ rw e refl
      | the.ListKind ↦ λ e. c.as_bytes.ensures.value ∙ rw e refl
      | the.UndefKind ↦ λ e. c.as_bytes.ensures.value ∙ rw e refl
      | the.NullKind ↦ λ e. c.as_bytes.ensures.value ∙ rw e refl
      | the.Int ↦ λ e. c.as_bytes.ensures.value ∙ rw e refl
      | the.Bool ↦ λ e. c.as_bytes.ensures.value ∙ rw e refl
      | the.Str ↦ λ e. c.as_bytes.ensures.value ∙ rw e refl
      | the.Sym ↦ λ e. c.as_bytes.ensures.value ∙ rw e refl
      | the.List ↦ λ e. c.as_bytes.ensures.value ∙ rw e refl
      | the.Any ↦ λ e. c.as_bytes.ensures.value ∙ rw e refl
      | the.Vars ↦ λ e. c.as_bytes.ensures.value ∙ rw e refl
      | the.Func ↦ λ e. c.as_bytes.ensures.value ∙ rw e refl
      | the.Function ↦ λ e. c.as_bytes.ensures.value ∙ rw e refl
      | the.New ↦ λ e. c.as_bytes.ensures.value ∙ rw e refl
      | the.Input ↦ λ e. c.as_bytes.ensures.value ∙ rw e refl
      | the.Symbol ↦ λ e. c.as_bytes.ensures.value ∙ rw e refl
      | the.Dispose ↦ λ e. c.as_bytes.ensures.value ∙ rw e refl
      | the.If ↦ λ e. c.as_bytes.ensures.value ∙ rw e refl
      | the.Else ↦ λ e. c.as_bytes.ensures.value ∙ rw e refl
      | the.While ↦ λ e. c.as_bytes.ensures.value ∙ rw e refl
      | the.Let ↦ λ e. c.as_bytes.ensures.value ∙ rw e refl
      | the.Create ↦ λ e. c.as_bytes.ensures.value ∙ rw e refl
      | the.Setproto ↦ λ e. c.as_bytes.ensures.value ∙ rw e refl
      | the.Proto ↦ λ e. c.as_bytes.ensures.value ∙ rw e refl
      | the.Has ↦ λ e. c.as_bytes.ensures.value ∙ rw e refl
      | the.Delete ↦ λ e. c.as_bytes.ensures.value ∙ rw e refl
      | the.Undefined ↦ λ e. c.as_bytes.ensures.value ∙ rw e refl
      | the.Null ↦ λ e. c.as_bytes.ensures.value ∙ rw e refl
      | the.Malloc ↦ λ e. c.as_bytes.ensures.value ∙ rw e refl
      | the.Free ↦ λ e. c.as_bytes.ensures.value ∙ rw e refl
      | the.NullPointer ↦ λ e. c.as_bytes.ensures.value ∙ rw e refl
      | the.Throw ↦ λ e. c.as_bytes.ensures.value ∙ rw e refl
      | the.Catch ↦ λ e. c.as_bytes.ensures.value ∙ rw e refl
      | the.Try ↦ λ e. c.as_bytes.ensures.value ∙ rw e refl
      | the.Lemma ↦ λ e. c.as_bytes.ensures.value ∙ rw e refl
    ] refl
