-- What holds of the cases of plain expressions.
use Rattle.std.specs.Prelude.{ℕ, ◌+◌, ◌^◌, ◌<◌, List, IsTrue}
use Rattle.std.specs.List.{list_all}
use Rattle.gil_syntax.specs.Pure.{PureExpr}
use Rattle.gil_syntax.specs.Subexpressions.{literals_of}
use Rattle.gil_syntax.specs.WellMade.{is_spellable}
use Rattle.pure_terms.specs.declared.variables.Sort.{Sort}
use Rattle.pure_terms.specs.Pure.{PureTerm}
use Rattle.sym_evaluation.specs.Meaning.{IsStoreOver, AreCasesOf, AreCasesOfAll}
use Rattle.sym_evaluation.specs.Plainly.{IsPlain, IsPlainStore, IsPlainGuard, text_bound, has_text_numbers}
use Rattle.sym_evaluation.specs.Pure.{PureStore, PureCases}
use Rattle.sym_evaluation.specs.Questions.{ComesFrom, AllComeFrom}
use Rattle.sym_model.specs.Lists.{Each}
use Rattle.sym_paths.specs.Plain.{is_plain_argument, is_plain_form, AsksNothing}

-- a store of plain terms over a table, with numbers up to b
pub record IsPlainOver (vars : List Sort) (b : ℕ) (bs : PureStore) : Type 0 where
  pub over : IsStoreOver vars bs
  pub plain : IsPlainStore b bs
  pub small : b + text_bound < 2 ^ 127

-- Over a plain store: cases that are right and whose conditions the expression asks have no condition, and the term of a plain argument is
-- plain, that of a plain form a plain guard, with numbers that are at most 2^63 wider.
pub record PlainExpressionsAskNothing : Type 0 where
  pub argument : (bs : PureStore) (e : PureExpr) (cases : PureCases PureTerm) (vars : List Sort) (b : ℕ)
      → AreCasesOf bs e cases → ComesFrom bs e cases → IsPlainOver vars b bs → IsTrue (is_plain_argument e) → IsTrue (has_text_numbers e)
      → IsTrue (list_all is_spellable (literals_of e)) → AsksNothing (IsPlain (b + text_bound)) cases
  pub arguments : (bs : PureStore) (es : List PureExpr) (cases : PureCases (List PureTerm)) (vars : List Sort) (b : ℕ)
      → AreCasesOfAll bs es cases → AllComeFrom bs es cases → IsPlainOver vars b bs → IsTrue (list_all is_plain_argument es)
      → IsTrue (list_all has_text_numbers es) → IsTrue (list_all (λ e. list_all is_spellable (literals_of e)) es)
      → AsksNothing (Each (IsPlain (b + text_bound))) cases
  pub form : (bs : PureStore) (e : PureExpr) (cases : PureCases PureTerm) (vars : List Sort) (b : ℕ)
      → AreCasesOf bs e cases → ComesFrom bs e cases → IsPlainOver vars b bs → IsTrue (is_plain_form e) → IsTrue (has_text_numbers e)
      → IsTrue (list_all is_spellable (literals_of e)) → AsksNothing (IsPlainGuard (b + text_bound)) cases
