-- What holds of an atom where a rule has nothing to add.
use Rattle.std.specs.Prelude.{◌≡◌, ◌⊎◌, ℕ, List, length, slice_get, Bool, true, false, ◌&&◌, Some}
use Rattle.std.specs.Option.{is_some}
use Rattle.gil_values.specs.declared.kinds.Kind.{Kind}
use Rattle.gil_values.specs.Pure.{PureValue}
use Rattle.pure_terms.specs.declared.variables.Sort.{Sort}
use Rattle.pure_terms.specs.declared.variables.Var.{Var}
use Rattle.pure_terms.specs.Fragment.{is_simple, is_flat, is_variable_of, is_integer_side}
use Rattle.pure_terms.specs.Kinds.{known_kind}
use Rattle.pure_terms.specs.Meaning.{truth}
use Rattle.pure_terms.specs.Pure.{PureTerm, variable, list_of, PureTerms, to_list, PureAtom, positive, negative}
use Rattle.solver_proof.specs.Chains.{equals, kind_is, KindFact, kind_fact_of, kind_fact_at, AreEqualAt, is_against, are_facts_apart}
use Rattle.solver_proof.specs.Closing.{HaveOneLength, at_most}
use Rattle.equality_core.specs.declared.classes.Wanted.{Wanted}
use Rattle.equality_core.specs.Classes.{PureClasses, given_list}
use Rattle.equality_core.specs.Classified.{is_wanted, first_in_class}
use Rattle.equality_core.specs.Equating.{Equates}
use Rattle.equality_core.specs.Valued.{is_small_kind}
use Rattle.solver_rules.specs.declared.rules.Rule.{Rule}

-- what is said where a term is true, and where it is false
abbrev pub said : Bool → PureTerm → PureAtom
said true t = positive t
said false t = negative t

-- the atom doesn't stand in the list
abbrev pub IsUnsaid : List PureAtom → PureAtom → Type 0
IsUnsaid list a = (i : ℕ) → slice_get list i ≡ Some a → ⊥

-- the list says neither that the term is true nor that it is false
pub record IsUndecided (list : List PureAtom) (t : PureTerm) : Type 0 where
  pub not_true : IsUnsaid list (positive t)
  pub not_false : IsUnsaid list (negative t)

-- the list says that the term is false
pub record IsDenied (list : List PureAtom) (t : PureTerm) : Type 0 where
  pub place : ℕ
  pub at : slice_get list place ≡ Some (negative t)

-- the list says that the terms differ, either way round
pub record SaysDifferent (list : List PureAtom) (s t : PureTerm) : Type 0 where
  pub place : ℕ
  pub at : (slice_get list place ≡ Some (negative (equals s t))) ⊎ (slice_get list place ≡ Some (negative (equals t s)))

-- an atom of the list is the equality of the terms, either way round
pub record SaysPositive (list : List PureAtom) (s t : PureTerm) : Type 0 where
  pub place : ℕ
  pub at : (slice_get list place ≡ Some (positive (equals s t))) ⊎ (slice_get list place ≡ Some (positive (equals t s)))

-- the atom at the place says that the terms differ, either way round
abbrev pub AreApartAt : List PureAtom → ℕ → PureTerm → PureTerm → Type 0
AreApartAt list i s t = (slice_get list i ≡ Some (negative (equals s t))) ⊎ (slice_get list i ≡ Some (negative (equals t s)))

-- the list denies that one of the terms is at most the other one
abbrev pub IsOrderSaid : List PureAtom → PureTerm → PureTerm → Type 0
IsOrderSaid list s t = IsDenied list (at_most s t) ⊎ IsDenied list (at_most t s)

-- the list says that they are equal, either way round
pub record SaysEqual (list : List PureAtom) (s t : PureTerm) : Type 0 where
  pub place : ℕ
  pub at : AreEqualAt list place s t

-- some elements of two list terms are said to differ
pub record ElementsDiffer (list : List PureAtom) (ts us : PureTerms) : Type 0 where
  pub place : ℕ
  pub left : PureTerm
  pub right : PureTerm
  pub at_left : slice_get (to_list ts) place ≡ Some left
  pub at_right : slice_get (to_list us) place ≡ Some right
  pub differ : SaysDifferent list left right

-- where the first term of known kind in the class is a Bool variable, there is a literal
abbrev pub IsSettledSide : PureClasses → PureTerm → Type 0
IsSettledSide c t = (u : PureTerm) → first_in_class c.nodes Wanted.KnownKind t ≡ Some u → is_variable_of Sort.Bool u ≡ true → is_some (first_in_class c.nodes Wanted.Literal t) ≡ true

-- an equality of a variable of sort any, and an Int variable or a number
abbrev pub IsMet : PureClasses → PureTerm → PureTerm → Type 0
IsMet c u w = is_variable_of Sort.Any u ≡ true → is_wanted Wanted.Number w ≡ true
    → (n : PureTerm) × ((first_in_class c.nodes Wanted.Number u ≡ Some n) × ((n ≡ w) ⊎ SaysEqual c.list n w))

-- what two atoms say of kinds can both be so, where the subjects are equated
abbrev pub IsPairDone : PureClasses → KindFact → PureAtom → Type 0
IsPairDone c f a = (g : KindFact) → kind_fact_of a ≡ Some g → Equates (given_list c) f.subject g.subject → are_facts_apart f g ≡ false

abbrev pub ArePairsDone : PureClasses → List PureAtom → KindFact → Type 0
ArePairsDone c list f = (j : ℕ) (a : PureAtom) → slice_get list j ≡ Some a → IsPairDone c f a

abbrev pub IsDone : Rule → PureClasses → List PureValue → PureAtom → Type 0
IsDone Rule.Lists c v a = (ts us : PureTerms) → a ≡ negative (equals (list_of ts) (list_of us)) → HaveOneLength ts us → ElementsDiffer (given_list c) ts us
IsDone Rule.Linked c v a = (s t : PureTerm) → a ≡ negative (equals s t) → Equates (given_list c) s t → ⊥
IsDone Rule.OneKind c v a = (f : KindFact) → kind_fact_of a ≡ Some f → (u : PureTerm) → Equates (given_list c) f.subject u → is_against (Some f) f.subject u ≡ false
IsDone Rule.TwoKinds c v a = (f : KindFact) → kind_fact_of a ≡ Some f → ArePairsDone c (given_list c) f
IsDone Rule.SmallFact c v a = (x : Var) (k : Kind) → a ≡ positive (kind_is (variable x) k) → is_small_kind k ≡ true → is_some (first_in_class c.nodes Wanted.Literal (variable x)) ≡ true
IsDone Rule.SmallSide c v a = (s t : PureTerm) → a ≡ negative (equals s t) → is_flat s ≡ true → is_flat t ≡ true → IsSettledSide c s × IsSettledSide c t
IsDone Rule.Meeting c v a = (s t : PureTerm) → a ≡ positive (equals s t) → is_simple s ≡ true → IsMet c s t × IsMet c t s
IsDone Rule.Numbers c v a = (s t m n : PureTerm) → a ≡ negative (equals s t) → is_flat s ≡ true → is_flat t ≡ true → (is_integer_side s && is_integer_side t) ≡ false
    → first_in_class c.nodes Wanted.Number s ≡ Some m → first_in_class c.nodes Wanted.Number t ≡ Some n → SaysDifferent (given_list c) m n
IsDone Rule.Orders c v a = (s t : PureTerm) → a ≡ negative (equals s t) → is_integer_side s ≡ true → is_integer_side t ≡ true → truth v a ≡ true

abbrev pub AreDone : Rule → PureClasses → List PureValue → Type 0
AreDone rule c v = (i : ℕ) (a : PureAtom) → slice_get (given_list c) i ≡ Some a → IsDone rule c v a

-- what tells the kind of a term: a term of known kind, or what an atom says, in its class
pub record HasKindTerm (c : PureClasses) (t : PureTerm) (k : Kind) : Type 0 where
  pub of : PureTerm
  pub equated : Equates (given_list c) t of
  pub known : known_kind of ≡ Some k

pub record HasKindFact (c : PureClasses) (t : PureTerm) (k : Kind) : Type 0 where
  pub place : ℕ
  pub fact : KindFact
  pub at : kind_fact_at (given_list c) place ≡ Some fact
  pub so : fact.is_so ≡ true
  pub kind : fact.kind ≡ k
  pub equated : Equates (given_list c) t fact.subject

abbrev pub HasKind : PureClasses → PureTerm → Kind → Type 0
HasKind c t k = HasKindTerm c t k ⊎ HasKindFact c t k

-- one kind for each variable of the table, which its class tells
pub record AreKinds (vars : List Sort) (c : PureClasses) (kinds : List Kind) : Type 0 where
  pub one_each : length kinds ≡ length vars
  pub each : (x : Var) (k : Kind) → slice_get vars x.number ≡ Some x.sort → slice_get kinds x.number ≡ Some k → HasKind c (variable x) k
