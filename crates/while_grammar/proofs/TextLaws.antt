-- Functions of While are read as they are spelled, and texts name only what source texts can name.
use Rattle.std.proofs.Common.{◌≡◌, ℕ, false, List, refl, sym, ap, ◌∙◌, subst}
use Rattle.std.specs.Prelude.{IsTrue}
use Rattle.std.specs.List.{list_all}
use Rattle.gil_lexer.specs.declared.words.Word.TheVariants as words
use Rattle.gil_lexemes.specs.declared.standing.Lexeme.{Lexeme}
use Rattle.gil_lexemes.specs.Reading.{first_form, behind, same_word, is_word}
use Rattle.gil_lexemes.proofs.ReadingLaws.{at_word_is, same_word-refl}
use Rattle.gil_grammar.specs.Texts.{byte_before}
use Rattle.source_text.specs.Grammar.{HasReading}
use Rattle.source_text.proofs.NameLaws.{items_named}
use Rattle.while_lang.specs.Names.{is_source_function}
use Rattle.while_lang.specs.Pure.{PureSource}
use Rattle.while_grammar.specs.Reading.Statements.{function_at}
use Rattle.while_grammar.specs.Statements.{SpellsFunction}
use Rattle.while_grammar.specs.Texts.{SpellSource}
use Rattle.while_grammar.proofs.NameLaws.{function_named}
use Rattle.while_grammar.proofs.StatementReads.{function_again}
use Rattle.while_grammar.proofs.StatementTakes.{function_takes}

no_spec : same_word words.Spec words.Func ≡ false
unfolding same_word
no_spec = refl

no_pred : same_word words.Pred words.Func ≡ false
unfolding same_word
no_pred = refl

no_throw : same_word words.Func words.Throw ≡ false
unfolding same_word
no_throw = refl

pub functions_read : HasReading words.Func SpellsFunction function_at
functions_read = record {
  no_spec = no_spec;
  no_pred = no_pred;
  no_throw = no_throw;
  begins = λ place f ls rest h. ap (λ (l : List Lexeme). is_word words.Func (first_form l)) (h.3) ∙ same_word-refl words.Func;
  takes = λ place ls found test e.
      let is = at_word_is words.Func ls test in
      subst (λ (l : List Lexeme). SpellsFunction place found.0 l found.1) (sym is)
      (function_takes place (behind ls) found (sym (ap (function_at place) is) ∙ e));
  again = λ place f ls rest count nested h.
      let read = function_again place f ls rest (record { count = count; nested = nested }) h in
      (read.is, (read.under.count, read.under.nested), read.shorter);
}

pub source_named : (bytes : List ℕ) (source : PureSource) → SpellSource bytes source → IsTrue (list_all (λ f. is_source_function f) source.functions)
source_named bytes source (items, s, is) =
    subst (λ (p : PureSource). IsTrue (list_all (λ f. is_source_function f) p.functions)) is
    (items_named SpellsFunction (byte_before s.tokens) (λ f. is_source_function f) (function_named (byte_before s.tokens)) items s.lexemes s.spelled s.names)
