-- What the parts of matching answer.
use Rattle.std.specs.Prelude.{◌≡◌, ◌⊎◌, ℕ, ◌+◌, List, [], ◌∷◌, ◌++◌, Bool, ◌&&◌, if◌then◌else◌, Option, Some, None, IsTrue, ⊤}
use Rattle.std.specs.Option.{option_map}
use Rattle.std.specs.Result.{result_ok}
use Rattle.std.specs.Str.{bytes_eq}
use Rattle.gil_values.specs.Pure.{PureValue}
use Rattle.gil_syntax.specs.declared.assertions.Param.{Param}
use Rattle.gil_syntax.specs.Evaluation.{Store, bind, value_of, evaluate}
use Rattle.gil_syntax.specs.Pure.{PureExpr}
use Rattle.assert_logic.specs.Matching.{given, match_value, is_known, agrees_with, bound_to}
use Rattle.assert_logic.specs.Sorts.{fits_sorts}
use Rattle.pure_terms.specs.declared.variables.Sort.{Sort}
use Rattle.pure_terms.specs.Meaning.{IsOver}
use Rattle.pure_terms.specs.Pure.{PureTerm, PureAtom}
use Rattle.sym_model.specs.Alternatives.{Alternatives}
use Rattle.sym_evaluation.specs.Meaning.{AreSame, HasValue, StandsFor, Serves, IsStoreOver}
use Rattle.sym_evaluation.specs.Plainly.{IsPlain, IsPlainStore, IsPlainGuard, text_bound, has_text_numbers}
use Rattle.sym_evaluation.specs.Pure.{PureStore, term_at, PureGoodCase}
use Rattle.sym_evaluation.specs.Questions.{IsAsked, IsTermOf}
use Rattle.sym_paths.specs.PlainLaws.{IsPlainOver}
use Rattle.sym_paths.specs.Plain.{is_plain_argument, is_plain_form}
use Rattle.sym_matching.specs.Matching.{TestsTerm, TermStaysOver}
use Rattle.sym_matching.specs.Meaning.{SaysSplit, IsSplitOver, AreOuts, IsOutOver, AreOutsOver}
use Rattle.sym_matching.specs.Origins.{SplitComesFrom, AsksSorts, AsksEqual, AddsOnlyTo, IsNameOf, AsksValue, PureComesFrom, AreKnownOuts, IsParamGiven}
use Rattle.sym_matching.specs.Plainly.{IsSplitDecided, TermStaysDecided, TermStaysPlain}
use Rattle.sym_matching.specs.Pure.{PureTest, PureSplit, PureOuts}
use Rattle.sym_matching.specs.Splitting.{nothing, behind}

-- whether the value of a term is such a one
pub record IsTestOf (f : PureValue → Bool) (t : PureTerm) (test : PureTest) : Type 0 where
  pub says : TestsTerm f t test
  pub over : TermStaysOver t test
  pub decided : TermStaysDecided t test

-- the value of an expression
pub record AreValues (bs : PureStore) (e : PureExpr) (split : PureSplit PureTerm) : Type 0 where
  pub says : (vars : List Sort) (v : List PureValue) (s : Store) → Serves vars v bs s → SaysSplit v (HasValue v) split (result_ok (evaluate e s))
  pub over : (vars : List Sort) → IsStoreOver vars bs → IsSplitOver (IsOver vars) vars split
  pub argument : (vars : List Sort) (b : ℕ) → IsPlainOver vars b bs → IsTrue (is_plain_argument e) → IsTrue (has_text_numbers e)
      → IsSplitDecided (IsPlain (b + text_bound)) (b + text_bound) split
  pub form : (vars : List Sort) (b : ℕ) → IsPlainOver vars b bs → IsTrue (is_plain_form e) → IsTrue (has_text_numbers e)
      → IsSplitDecided (IsPlainGuard (b + text_bound)) (b + text_bound) split
  pub from : SplitComesFrom (IsAsked bs e) (IsTermOf bs e) split

-- The stores that f gives from a store and what terms stand for.
pub record AreStores {A : Type 0} (Over : List Sort → Type 0) (Has : List PureValue → A → Type 0) (f : A → Store → Option Store)
    (bs : PureStore) (split : PureSplit PureStore) : Type 0 where
  pub says : (vars : List Sort) (v : List PureValue) (s : Store) (a : A) → Serves vars v bs s → Over vars → Has v a
      → SaysSplit v (StandsFor v) split (f a s)
  pub over : (vars : List Sort) → IsStoreOver vars bs → Over vars → IsSplitOver (IsStoreOver vars) vars split

abbrev pub ByTerm : PureTerm → (PureValue → Store → Option Store) → PureStore → PureSplit PureStore → Type 0
ByTerm t f bs split = AreStores (λ vars. IsOver vars t) (λ v w. HasValue v t w) f bs split

-- the name is this one, and the term is this one
abbrev pub IsThis : List ℕ → PureTerm → List ℕ → PureTerm → Type 0
IsThis x t y u = IsTrue (bytes_eq x y) × (u ≡ t)

-- that a term which a name is given has the sorts of the name, where the name alone is new
abbrev pub GivenComesFrom : List Param → List ℕ → PureTerm → PureStore → PureSplit PureStore → Type 0
GivenComesFrom scope x t bs split = SplitComesFrom (AsksSorts scope x t) (AddsOnlyTo (IsThis x t) bs) split

-- A name that may become known gets the term. Where store and term are plain, so is the store that is found, and each condition is decided.
pub record GivesTerm (scope : List Param) (x : List ℕ) (t : PureTerm) (bs : PureStore) (split : PureSplit PureStore) : Type 0 where
  pub gives : ByTerm t (given scope x) bs split
  pub plain : (b : ℕ) → IsPlainStore b bs → IsPlain b t → IsSplitDecided (IsPlainStore b) b split
  pub from : GivenComesFrom scope x t bs split

-- what matching an expression with a term asks, where a name that the expression is may be given the term
abbrev pub TermComesFrom : List Param → PureExpr → PureTerm → PureStore → PureSplit PureStore → Type 0
TermComesFrom scope e t bs split =
    SplitComesFrom (λ a. AsksValue scope bs a e t) (AddsOnlyTo (λ x u. IsNameOf x e × (u ≡ t)) bs) split

-- the same, whatever sorts names have
abbrev pub KnownComesFrom : PureExpr → PureTerm → PureStore → PureSplit PureStore → Type 0
KnownComesFrom e t bs split = (scope : List Param) → TermComesFrom scope e t bs split

-- an expression is matched with a term
abbrev pub MatchesTerm : List Param → PureExpr → PureTerm → PureStore → PureSplit PureStore → Type 0
MatchesTerm scope e t bs split =
    ByTerm t (match_value scope e) bs split × TermStaysPlain e t bs split × TermComesFrom scope e t bs split

-- What giving terms to names in a store asks: that a term which a name is given has the sorts of the name, or that it is equal to another
-- one that the name has or is given.
abbrev pub AsksBound : List Param → (List ℕ → PureTerm → Type 0) → PureStore → PureAtom → Type 0
AsksBound sorts Given bs a =
    (x : List ℕ) × ((t : PureTerm) × (Given x t
    × (AsksSorts sorts x t a ⊎ ((s : PureTerm) × (((term_at bs x ≡ Some s) ⊎ Given x s) × AsksEqual s t a)))))

abbrev pub BoundComesFrom : List Param → (List ℕ → PureTerm → Type 0) → PureStore → PureSplit PureStore → Type 0
BoundComesFrom sorts Given bs split = SplitComesFrom (AsksBound sorts Given bs) (AddsOnlyTo Given bs) split

-- a parameter gets a term, where there is one
abbrev pub BindsParam : List Param → Param → Option PureTerm → PureStore → PureSplit PureStore → Type 0
BindsParam sorts q k bs split =
    AreStores (λ vars. IsOutOver vars k) (λ v o. AreSame v k o) (λ o s. bound_to sorts (q ∷ []) (o ∷ []) s) bs split
    × BoundComesFrom sorts (IsParamGiven (q ∷ []) (k ∷ [])) bs split

abbrev pub bound_where : List Param → List ℕ → PureValue → Store → Option Store
bound_where sorts x w s = if fits_sorts sorts x w && agrees_with (value_of s x) w then Some (bind x w s) else None

-- a name gets the term, which agrees with one that it has
abbrev pub BindsTerm : List Param → List ℕ → PureTerm → PureStore → PureSplit PureStore → Type 0
BindsTerm sorts x t bs split = ByTerm t (bound_where sorts x) bs split × BoundComesFrom sorts (IsThis x t) bs split

-- parameters get terms, where there are any
abbrev pub BindsParams : List Param → List Param → PureOuts → PureStore → PureSplit PureStore → Type 0
BindsParams sorts qs ks bs split =
    AreStores (λ vars. AreOutsOver vars ks) (λ v os. AreOuts v ks os) (bound_to sorts qs) bs split
    × BoundComesFrom sorts (IsParamGiven qs ks) bs split

-- what comes after a result, where one is found
abbrev pub Continues : {X Y : Type 0} → (X → PureSplit Y → Type 0) → Option (PureGoodCase X) → Alternatives → PureSplit Y → Type 0
Continues {X} {Y} Is None none whole = whole ≡ nothing none
Continues {X} {Y} Is (Some g) none whole = (next : PureSplit Y) × (Is g.result next × (whole ≡ behind g.conds none next))

-- the values of outs, and then of one more
abbrev pub one_out : Store → PureExpr → Option (Option PureValue)
one_out s e = if is_known s e then option_map Some (result_ok (evaluate e s)) else Some None

-- the outs are those of expressions before this one, and its own
abbrev pub KnowsOneMore : PureStore → PureExpr → PureOuts → PureOuts → Type 0
KnowsOneMore bs e outs more = (es : List PureExpr) → AreKnownOuts bs es outs → AreKnownOuts bs (es ++ e ∷ []) more

-- an out behind the others
pub record AddsOut (bs : PureStore) (e : PureExpr) (outs : PureOuts) (split : PureSplit PureOuts) : Type 0 where
  pub says : (vars : List Sort) (v : List PureValue) (s : Store) (os : List (Option PureValue)) → Serves vars v bs s → AreOuts v outs os
      → SaysSplit v (AreOuts v) split (option_map (λ o. os ++ o ∷ []) (one_out s e))
  pub over : (vars : List Sort) → IsStoreOver vars bs → AreOutsOver vars outs → IsSplitOver (AreOutsOver vars) vars split
  pub decided : (vars : List Sort) (b : ℕ) → IsPlainOver vars b bs → IsTrue (is_plain_argument e) → IsTrue (has_text_numbers e)
      → IsSplitDecided (λ more. ⊤) (b + text_bound) split
  pub from : SplitComesFrom (IsAsked bs e) (KnowsOneMore bs e outs) split

-- the stores that f gives from a store alone
pub record Alone (f : Store → Option Store) (bs : PureStore) (split : PureSplit PureStore) : Type 0 where
  pub says : (vars : List Sort) (v : List PureValue) (s : Store) → Serves vars v bs s → SaysSplit v (StandsFor v) split (f s)
  pub over : (vars : List Sort) → IsStoreOver vars bs → IsSplitOver (IsStoreOver vars) vars split

-- A name gets the term of a plain argument: each condition is decided, and the store that is found is plain.
abbrev pub DefinesPlainly : PureExpr → PureStore → PureSplit PureStore → Type 0
DefinesPlainly e bs split =
    (vars : List Sort) (b : ℕ) → IsPlainOver vars b bs → IsTrue (is_plain_argument e) → IsTrue (has_text_numbers e)
    → IsSplitDecided (IsPlainStore (b + text_bound)) (b + text_bound) split

-- What giving a name the term of an expression asks: what the expression asks, or that its term has the sorts of the name.
abbrev pub DefinitionComesFrom : List Param → List ℕ → PureExpr → PureStore → PureSplit PureStore → Type 0
DefinitionComesFrom scope x e bs split =
    SplitComesFrom (λ a. IsAsked bs e a ⊎ ((t : PureTerm) × (IsTermOf bs e t × AsksSorts scope x t a)))
    (AddsOnlyTo (λ y t. IsTrue (bytes_eq x y) × IsTermOf bs e t) bs) split

-- what a pure item asks, whatever sorts names have
abbrev pub TruthComesFrom : PureExpr → PureStore → PureSplit PureStore → Type 0
TruthComesFrom e bs split = (scope : List Param) → PureComesFrom scope e bs split
