-- Reading what texts of other languages hold of GIL.
use Rattle.std.specs.Prelude.{List, Option, Some}
use Rattle.gil_lexer.specs.declared.forms.Form.{Form}
use Rattle.gil_lexer.specs.declared.forms.Form.TheVariants as forms
use Rattle.gil_lexer.specs.declared.words.Word.{Word}
use Rattle.gil_lexer.specs.declared.words.Word.TheVariants as words
use Rattle.gil_lexemes.specs.declared.standing.Lexeme.{Lexeme}
use Rattle.gil_lexemes.specs.Reading.{Reading, ◌>>=◌, first_form, behind}
use Rattle.gil_grammar.specs.declared.positions.Position.TheVariants.{Command}
use Rattle.gil_grammar.specs.declared.positions.Extent.TheVariants.{Longest}
use Rattle.gil_grammar.specs.Annotations.{PureAnnotation, specification, predicate, logic, expression}
use Rattle.gil_grammar.specs.Reading.Assertions.{expression_at}
use Rattle.gil_grammar.specs.Reading.Commands.{logic_by}
use Rattle.gil_grammar.specs.Reading.Programs.{spec_at, pred_at}

abbrev pub specification_at : List Lexeme → Reading PureAnnotation
specification_at ls = spec_at Longest (behind ls) >>= λ s. Some (specification s.0, s.1)

abbrev pub predicate_at : List Lexeme → Reading PureAnnotation
predicate_at ls = pred_at Longest (behind ls) >>= λ d. Some (predicate d.0, d.1)

abbrev pub logic_at : Word → List Lexeme → Reading PureAnnotation
logic_at word ls = logic_by word ls >>= λ c. Some (logic c.0, c.1)

abbrev pub value_at : List Lexeme → Reading PureAnnotation
value_at ls = expression_at Command ls >>= λ e. Some (expression e.0, e.1)

abbrev pub worded_annotation : Word → List Lexeme → Reading PureAnnotation
worded_annotation words.Spec ls = specification_at ls
worded_annotation words.Pred ls = predicate_at ls
worded_annotation words.Fold ls = logic_at words.Fold ls
worded_annotation words.Unfold ls = logic_at words.Unfold ls
worded_annotation words.Assert ls = logic_at words.Assert ls
worded_annotation words.Invariant ls = logic_at words.Invariant ls
worded_annotation _ ls = value_at ls

abbrev pub annotation_by : Option Form → List Lexeme → Reading PureAnnotation
annotation_by (Some (forms.Word word)) ls = worded_annotation word ls
annotation_by _ ls = value_at ls

unfoldable pub annotation_at : List Lexeme → Reading PureAnnotation
annotation_at ls = annotation_by (first_form ls) ls
