-- Where the conditions and the terms of matching come from. A condition is one that an expression asks, that a term which is given to a name
-- has a sort that is declared for it, or that two terms which are matched are equal; and a name has the term that it had or is given.
use Rattle.std.specs.Prelude.{◌≡◌, ◌⊎◌, ℕ, List, [], ◌∷◌, map, Option, Some, None, IsTrue, ⊤}
use Rattle.std.specs.Option.{option_map, option_and_then}
use Rattle.std.specs.Str.{bytes_eq}
use Rattle.gil_values.specs.declared.kinds.Kind.{Kind}
use Rattle.gil_values.specs.declared.operators.BinOp.{BinOp}
use Rattle.gil_syntax.specs.declared.assertions.Param.{Param}
use Rattle.gil_syntax.specs.declared.assertions.SpecSort.{SpecSort}
use Rattle.gil_syntax.specs.Pure.{PureExpr, name, logical, binary_of, PurePredDef}
use Rattle.assert_logic.specs.Matching.{scope_of}
use Rattle.pure_terms.specs.Pure.{PureTerm, PureAtom}
use Rattle.sym_evaluation.specs.Pure.{PureStore, term_at, PureGoodCase}
use Rattle.sym_evaluation.specs.Questions.{IsAsked, IsTermOf, IsAbout, AsksKind, IsGuardCondition}
use Rattle.sym_model.specs.declared.comparing.Comparison.{Comparison}
use Rattle.sym_model.specs.Alternatives.{equal}
use Rattle.sym_model.specs.Comparing.{compared}
use Rattle.sym_model.specs.Lists.{Each, OneOf}
use Rattle.sym_matching.specs.Pure.{PureTest, PureSplit, PureOuts}

-- ---- tests and splits

abbrev pub OnEachIfAny : (PureAtom → Type 0) → Option (List PureAtom) → Type 0
OnEachIfAny P None = Unit {0}
OnEachIfAny P (Some conds) = Each P conds

-- each condition of the test is such a one
pub record TestComesFrom (P : PureAtom → Type 0) (x : PureTest) : Type 0 where
  pub when : OnEachIfAny P x.when
  pub otherwise : Each (Each P) x.otherwise

abbrev pub FoundComesFrom : {X : Type 0} → (PureAtom → Type 0) → (X → Type 0) → Option (PureGoodCase X) → Type 0
FoundComesFrom P Q None = Unit {0}
FoundComesFrom P Q (Some g) = Each P g.conds × Q g.result

-- each condition of the split is such a one, and this holds of what is found
pub record SplitComesFrom {X : Type 0} (P : PureAtom → Type 0) (Q : X → Type 0) (x : PureSplit X) : Type 0 where
  pub found : FoundComesFrom P Q x.found
  pub none : Each (Each P) x.none

-- ---- sorts, and equal terms

-- this holds of two elements at the same place
abbrev pub OneOfBoth : {A B : Type 0} → (A → B → Type 0) → List A → List B → Type 0
OneOfBoth P (x ∷ xs) (y ∷ ys) = P x y ⊎ OneOfBoth P xs ys
OneOfBoth P _ _ = ⊥

abbrev pub kind_of_sort : SpecSort → Option Kind
kind_of_sort SpecSort.Int = Some Kind.Int
kind_of_sort SpecSort.Bool = Some Kind.Bool
kind_of_sort SpecSort.Str = Some Kind.Str
kind_of_sort SpecSort.Sym = Some Kind.Sym
kind_of_sort SpecSort.List = Some Kind.List
kind_of_sort SpecSort.Any = None

-- that the term has the sort, where form and sorts leave its kind open
abbrev pub AsksSort : SpecSort → PureTerm → PureAtom → Type 0
AsksSort sort t a = (k : Kind) × ((kind_of_sort sort ≡ Some k) × AsksKind k t a)

-- that the term has a sort that is declared for the name
abbrev pub AsksSorts : List Param → List ℕ → PureTerm → PureAtom → Type 0
AsksSorts scope x t a = OneOf (λ q. IsTrue (bytes_eq q.name x) × AsksSort q.sort t a) scope

-- that two terms are equal, where their forms leave it open
abbrev pub AsksEqual : PureTerm → PureTerm → PureAtom → Type 0
AsksEqual s t a = (compared s t ≡ Comparison.Unsure) × IsAbout (equal s t) a

-- that two terms at the same place are equal
abbrev pub AsksElements : List PureTerm → List PureTerm → PureAtom → Type 0
AsksElements ss ts a = OneOfBoth (λ s t. AsksEqual s t a) ss ts

-- that an out that is known is equal to the term at its place
abbrev pub AsksOuts : PureOuts → List PureTerm → PureAtom → Type 0
AsksOuts (Some s ∷ ks) (t ∷ ts) a = AsksEqual s t a ⊎ AsksOuts ks ts a
AsksOuts (None ∷ ks) (t ∷ ts) a = AsksOuts ks ts a
AsksOuts _ _ a = ⊥

-- ---- stores

-- of the terms that names have there, those are new that are given so
abbrev pub AddsOnlyTo : (List ℕ → PureTerm → Type 0) → PureStore → PureStore → Type 0
AddsOnlyTo Given bs after =
    (x : List ℕ) (t : PureTerm) → term_at after x ≡ Some t → (term_at bs x ≡ Some t) ⊎ Given x t

-- the expression is the name
abbrev pub IsNameOf : List ℕ → PureExpr → Type 0
IsNameOf x (name y) = IsTrue (bytes_eq y x)
IsNameOf x (logical y) = IsTrue (bytes_eq y x)
IsNameOf x _ = ⊥

-- an expression that is the name stands at the term's place
abbrev pub IsGivenAmong : List PureExpr → List PureTerm → List ℕ → PureTerm → Type 0
IsGivenAmong es us x t = OneOfBoth (λ e u. IsNameOf x e × (t ≡ u)) es us

-- ---- matching expressions with terms

-- What matching an expression with a term asks, in a store: what the expression asks, that its term is equal to this one, or, where it is a
-- name, that this one has its sorts.
abbrev pub AsksValue : List Param → PureStore → PureAtom → PureExpr → PureTerm → Type 0
AsksValue scope bs a e t =
    IsAsked bs e a ⊎ (((u : PureTerm) × (IsTermOf bs e u × AsksEqual u t a)) ⊎ ((x : List ℕ) × (IsNameOf x e × AsksSorts scope x t a)))

-- ... of several, in a store in which those before may have been given their terms
abbrev pub AsksValues : List Param → List PureExpr → List PureTerm → PureStore → PureAtom → Type 0
AsksValues scope es ts bs a =
    (after : PureStore) × (AddsOnlyTo (IsGivenAmong es ts) bs after × OneOfBoth (AsksValue scope after a) es ts)

abbrev pub ValuesComeFrom : List Param → List PureExpr → List PureTerm → PureStore → PureSplit PureStore → Type 0
ValuesComeFrom scope es ts bs split = SplitComesFrom (AsksValues scope es ts bs) (AddsOnlyTo (IsGivenAmong es ts) bs) split

-- ---- pure items

-- the expression says that the name has the value of another one
abbrev pub IsDefinition : PureExpr → List ℕ → PureExpr → Type 0
IsDefinition e x d = (left : PureExpr) × (IsNameOf x left × (e ≡ binary_of BinOp.Equal left d))

-- the name is given the term of the expression's right side
abbrev pub IsDefinedBy : PureExpr → PureStore → List ℕ → PureTerm → Type 0
IsDefinedBy e bs x t = (d : PureExpr) × (IsDefinition e x d × IsTermOf bs d t)

-- What matching a pure item asks: what it or its right side asks; of its term, which way it goes; or that the term which a name is given has
-- its sorts.
abbrev pub AsksPure : List Param → PureExpr → PureStore → PureAtom → Type 0
AsksPure scope e bs a =
    IsAsked bs e a
    ⊎ (((t : PureTerm) × (IsTermOf bs e t × IsGuardCondition t a))
    ⊎ ((x : List ℕ) × ((t : PureTerm) × (IsDefinedBy e bs x t × AsksSorts scope x t a))))

abbrev pub PureComesFrom : List Param → PureExpr → PureStore → PureSplit PureStore → Type 0
PureComesFrom scope e bs split = SplitComesFrom (AsksPure scope e bs) (AddsOnlyTo (IsDefinedBy e bs) bs) split

-- ---- outs that are known

-- an out that is known has the term of its expression
abbrev pub AreKnownOuts : PureStore → List PureExpr → PureOuts → Type 0
AreKnownOuts bs [] [] = ⊤
AreKnownOuts bs (e ∷ es) (Some t ∷ ks) = IsTermOf bs e t × AreKnownOuts bs es ks
AreKnownOuts bs (e ∷ es) (None ∷ ks) = AreKnownOuts bs es ks
AreKnownOuts bs _ _ = ⊥

abbrev pub OutsComeFrom : PureStore → List PureExpr → PureSplit PureOuts → Type 0
OutsComeFrom bs es split = SplitComesFrom (λ a. OneOf (λ e. IsAsked bs e a) es) (AreKnownOuts bs es) split

-- ---- cases of predicates

-- the parameter of this name is given the term
abbrev pub IsParamGiven : List Param → PureOuts → List ℕ → PureTerm → Type 0
IsParamGiven qs ks x t = OneOfBoth (λ q k. IsTrue (bytes_eq q.name x) × (k ≡ Some t)) qs ks

-- ... as an in or as an out
abbrev pub IsGivenToCase : PurePredDef → List PureTerm → PureOuts → List ℕ → PureTerm → Type 0
IsGivenToCase d ins known x t = IsParamGiven d.ins (map Some ins) x t ⊎ IsParamGiven d.outs known x t

-- What the beginning of a case asks: that a term which a parameter is given has its sorts, or that two terms which it is given are equal.
abbrev pub AsksCase : PurePredDef → List PureTerm → PureOuts → PureAtom → Type 0
AsksCase d ins known a =
    (x : List ℕ) × ((t : PureTerm) × (IsGivenToCase d ins known x t
    × (AsksSorts (scope_of d) x t a ⊎ ((s : PureTerm) × (IsGivenToCase d ins known x s × AsksEqual s t a)))))

-- the store at the beginning of a case has only the terms that its parameters are given
abbrev pub IsStoreOfCase : PurePredDef → List PureTerm → PureOuts → PureStore → Type 0
IsStoreOfCase d ins known bs = (x : List ℕ) (t : PureTerm) → term_at bs x ≡ Some t → IsGivenToCase d ins known x t

abbrev pub CaseComesFrom : PurePredDef → List PureTerm → PureOuts → PureSplit PureStore → Type 0
CaseComesFrom d ins known split = SplitComesFrom (AsksCase d ins known) (IsStoreOfCase d ins known) split

-- the terms of names, where all have one
abbrev pub terms_at : PureStore → List (List ℕ) → Option (List PureTerm)
terms_at bs [] = Some []
terms_at bs (x ∷ xs) = option_and_then (λ t. option_map (λ ts. t ∷ ts) (terms_at bs xs)) (term_at bs x)
