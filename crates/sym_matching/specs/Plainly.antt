-- Matching over plain terms: each condition has a form of the fragment, so that a decider decides it.
use Rattle.std.specs.Prelude.{ℕ, ◌+◌, pos, neg_ℤ, List, Option, Some, None, IsTrue, ⊤}
use Rattle.std.specs.List.{list_all}
use Rattle.gil_syntax.specs.Pure.{PureExpr, pure}
use Rattle.pure_terms.specs.declared.variables.Sort.{Sort}
use Rattle.pure_terms.specs.Pure.{PureTerm, PureAtom}
use Rattle.sym_evaluation.specs.Plainly.{IsPlain, IsPlainStore, IsPlainGuard, text_bound, has_text_numbers}
use Rattle.sym_evaluation.specs.Pure.{PureStore, PureGoodCase}
use Rattle.sym_evaluation.specs.Questions.{AreEachOver}
use Rattle.sym_model.specs.Laws.{IsDecidedWithin}
use Rattle.sym_model.specs.Lists.{Each}
use Rattle.sym_paths.specs.PlainLaws.{IsPlainOver}
use Rattle.sym_paths.specs.Plain.{is_plain_argument, IsPlainItem}
use Rattle.sym_matching.specs.Pure.{PureTest, PureSplit, PureOuts}

-- each condition has a form of the fragment, with literals from -b to b
abbrev pub AreDecided : ℕ → List PureAtom → Type 0
AreDecided b conds = Each (IsDecidedWithin (neg_ℤ (pos b)) (pos b)) conds

abbrev pub AreDecidedIfAny : ℕ → Option (List PureAtom) → Type 0
AreDecidedIfAny b None = Unit {0}
AreDecidedIfAny b (Some conds) = AreDecided b conds

pub record IsTestDecided (b : ℕ) (x : PureTest) : Type 0 where
  pub when : AreDecidedIfAny b x.when
  pub otherwise : Each (AreDecided b) x.otherwise

abbrev pub IsFoundDecided : {X : Type 0} → (X → Type 0) → ℕ → Option (PureGoodCase X) → Type 0
IsFoundDecided P b None = Unit {0}
IsFoundDecided P b (Some g) = AreDecided b g.conds × P g.result

-- the same of a split; of what is found this holds
pub record IsSplitDecided {X : Type 0} (P : X → Type 0) (b : ℕ) (x : PureSplit X) : Type 0 where
  pub found : IsFoundDecided P b x.found
  pub none : Each (AreDecided b) x.none

-- Of the term of a plain guard, as each plain term is one, the test has decided conditions.
abbrev pub TermStaysDecided : PureTerm → PureTest → Type 0
TermStaysDecided t test = (b : ℕ) → IsPlainGuard b t → IsTestDecided b test

-- Matching a plain pure item from a plain store: each condition is decided, and the store that is found is plain, with numbers that are at
-- most 2^63 wider.
abbrev pub PureStaysPlain : PureExpr → PureStore → PureSplit PureStore → Type 0
PureStaysPlain e bs split =
    (vars : List Sort) (b : ℕ) → IsPlainOver vars b bs → IsPlainItem (pure e)
    → IsSplitDecided (IsPlainStore (b + text_bound)) (b + text_bound) split

-- Matching a plain argument with a plain term, from a plain store: each condition is decided, and the store that is found is as plain.
abbrev pub TermStaysPlain : PureExpr → PureTerm → PureStore → PureSplit PureStore → Type 0
TermStaysPlain e t bs split =
    (vars : List Sort) (b : ℕ) → IsPlainOver vars b bs → IsPlain b t → IsTrue (is_plain_argument e) → IsTrue (has_text_numbers e)
    → IsSplitDecided (IsPlainStore b) (b + text_bound) split

-- the same of several, with terms over the table
abbrev pub TermsStayPlain : List PureExpr → List PureTerm → PureStore → PureSplit PureStore → Type 0
TermsStayPlain es ts bs split =
    (vars : List Sort) (b : ℕ) → IsPlainOver vars b bs → AreEachOver vars ts → Each (IsPlain b) ts → IsTrue (list_all is_plain_argument es)
    → IsTrue (list_all has_text_numbers es) → IsSplitDecided (IsPlainStore b) (b + text_bound) split

-- Which of plain arguments are known, in a plain store: each condition is decided.
abbrev pub OutsStayDecided : PureStore → List PureExpr → PureSplit PureOuts → Type 0
OutsStayDecided bs es split =
    (vars : List Sort) (b : ℕ) → IsPlainOver vars b bs → IsTrue (list_all is_plain_argument es) → IsTrue (list_all has_text_numbers es)
    → IsSplitDecided (λ outs. ⊤) (b + text_bound) split
