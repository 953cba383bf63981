-- Simple expressions over plain terms: nothing is asked, and what comes is sure.
use Rattle.std.specs.Prelude.{◌≡◌, ◌⊎◌, ℕ, ◌+◌, ◌^◌, ◌<◌, pos, neg_ℤ, List, [], ◌∷◌, Bool, true, false, ◌&&◌, ◌||◌, Some, None, IsTrue}
use Rattle.std.specs.List.{list_all}
use Rattle.gil_values.specs.declared.operators.UnOp.{UnOp}
use Rattle.gil_values.specs.declared.operators.BinOp.{BinOp}
use Rattle.gil_values.specs.Operators.{Fault}
use Rattle.gil_values.specs.Pure.{PureValue, integer}
use Rattle.gil_syntax.specs.Pure.{PureExpr}
use Rattle.gil_syntax.specs.Simple.{is_simple_value, is_simple_guard}
use Rattle.gil_syntax.specs.Subexpressions.{literals_of}
use Rattle.pure_terms.specs.declared.literals.Literal.{Literal}
use Rattle.pure_terms.specs.declared.variables.Sort.{Sort}
use Rattle.pure_terms.specs.Fragment.{is_plain, is_variable_of, is_order, is_integer_side, has_literals_between}
use Rattle.pure_terms.specs.Numbers.{is_between}
use Rattle.pure_terms.specs.Pure.{PureTerm, literal, unary_of, binary_of}
use Rattle.sym_evaluation.specs.Pure.{PureStore, term_at, PureCases, PureSides}
use Rattle.sym_evaluation.specs.Questions.{EachSide}
use Rattle.sym_model.specs.Laws.{IsPlainWithin, IsDecidedWithin}
use Rattle.sym_model.specs.Lists.{Each}

-- plain, with literals from -B to B
abbrev pub IsPlain : ℕ → PureTerm → Type 0
IsPlain b t = IsPlainWithin (neg_ℤ (pos b)) (pos b) t

abbrev pub IsPlainStore : ℕ → PureStore → Type 0
IsPlainStore b bs = (x : List ℕ) (t : PureTerm) → term_at bs x ≡ Some t → IsPlain b t

-- the literals of program texts lie from -2^63 to 2^63
abbrev pub text_bound : ℕ
text_bound = 2 ^ 63

abbrev pub is_text_number : PureValue → Bool
is_text_number (integer n) = is_between (neg_ℤ (pos text_bound)) (pos text_bound) n
is_text_number _ = true

abbrev pub has_text_numbers : PureExpr → Bool
has_text_numbers e = list_all is_text_number (literals_of e)

-- one fault is sure
abbrev pub IsSureFault : {X : Type 0} → PureCases X → Type 0
IsSureFault cases = (f : Fault) × (cases ≡ record { faults = record { conds = []; fault = f } ∷ []; good = None })

-- there is no fault, and the result, of which P holds, has no condition
abbrev pub IsSureResult : {X : Type 0} → (X → Type 0) → PureCases X → Type 0
IsSureResult {X} P cases = (x : X) × ((cases ≡ record { faults = []; good = Some (record { conds = []; result = x }) }) × P x)

-- From a plain store a simple expression comes to a sure fault, or to a plain term, with numbers that are at most 2^63 wider.
abbrev pub AnswersPlainly : PureStore → PureExpr → PureCases PureTerm → Type 0
AnswersPlainly bs e cases =
    (b : ℕ) → b + text_bound < 2 ^ 127 → IsPlainStore b bs → IsTrue (is_simple_value e) → IsTrue (has_text_numbers e)
    → IsSureFault cases ⊎ IsSureResult (IsPlain (b + text_bound)) cases

abbrev pub AllAnswerPlainly : PureStore → List PureExpr → PureCases (List PureTerm) → Type 0
AllAnswerPlainly bs es cases =
    (b : ℕ) → b + text_bound < 2 ^ 127 → IsPlainStore b bs → IsTrue (list_all is_simple_value es) → IsTrue (list_all has_text_numbers es)
    → IsSureFault cases ⊎ IsSureResult (Each (IsPlain (b + text_bound))) cases

-- ---- guards

abbrev pub is_equal : BinOp → Bool
is_equal BinOp.Equal = true
is_equal _ = false

-- `=` of two plain terms, or `<` or `<=` of two plain whole numbers
abbrev pub is_plain_comparison : PureTerm → Bool
is_plain_comparison (binary_of op s t) =
    (is_plain s && is_plain t) && (is_equal op || (is_order op && (is_integer_side s && is_integer_side t)))
is_plain_comparison _ = false

abbrev pub is_bare_guard : PureTerm → Bool
is_bare_guard t = is_plain t || is_plain_comparison t

-- a plain term or a comparison of such, or a boolean variable or a comparison under `not`
abbrev pub is_plain_guard : PureTerm → Bool
is_plain_guard (unary_of UnOp.Not t) = is_variable_of Sort.Bool t || is_plain_comparison t
is_plain_guard t = is_bare_guard t

abbrev pub IsPlainGuard : ℕ → PureTerm → Type 0
IsPlainGuard b t = IsTrue (is_plain_guard t) × IsTrue (has_literals_between (neg_ℤ (pos b)) (pos b) t)

-- From a plain store a simple guard comes to a sure fault, or to the term of a plain guard.
abbrev pub GuardsPlainly : PureStore → PureExpr → PureCases PureTerm → Type 0
GuardsPlainly bs e cases =
    (b : ℕ) → b + text_bound < 2 ^ 127 → IsPlainStore b bs → IsTrue (is_simple_guard e) → IsTrue (has_text_numbers e)
    → IsSureFault cases ⊎ IsSureResult (IsPlainGuard (b + text_bound)) cases

-- The sides of a plain guard have conditions of the fragment's forms, with its literals; those of a literal have none.
pub record AreDecided (t : PureTerm) (sides : PureSides) : Type 0 where
  pub conditions : (b : ℕ) → IsPlainGuard b t → EachSide (IsDecidedWithin (neg_ℤ (pos b)) (pos b)) sides
  pub none_of_literals : (l : Literal) → t ≡ literal l → EachSide (λ a. ⊥) sides
