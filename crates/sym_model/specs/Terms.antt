-- Terms of states, arguments, conditions and results: which variables they name, and where they come from.
use Rattle.std.specs.Prelude.{◌≡◌, ◌⊎◌, ℤ, pos, List, [], ◌∷◌, ◌++◌, map, Bool, true, false, not, ◌&&◌, ◌||◌, Option, Some, None, IsTrue, ⊤}
use Rattle.gil_values.specs.declared.kinds.Kind.{Kind}
use Rattle.gil_values.specs.declared.operators.UnOp.{UnOp}
use Rattle.gil_values.specs.declared.operators.BinOp.{BinOp}
use Rattle.gil_values.specs.Equality.{same_kind}
use Rattle.pure_terms.specs.declared.literals.Literal.{Literal}
use Rattle.pure_terms.specs.declared.variables.Sort.{Sort}
use Rattle.pure_terms.specs.declared.variables.Var.{Var}
use Rattle.pure_terms.specs.Equality.{same_term}
use Rattle.pure_terms.specs.Folding.{folded_binary}
use Rattle.pure_terms.specs.Fragment.{is_shift}
use Rattle.pure_terms.specs.Kinds.{same_sort, allows, known_kind}
use Rattle.pure_terms.specs.Meaning.{IsOver}
use Rattle.pure_terms.specs.Naming.{names_only_below}
use Rattle.pure_terms.specs.Pure.{PureTerm, literal, variable, list_of, unary_of, binary_of, PureTerms, no_terms, term_and, to_list, PureAtom, positive, negative, opening}
use Rattle.sym_model.specs.Lists.{Each, OneOf, IsAmong}

-- what a state says of a location: the terms of a name, an offset or a descriptor
pub record LocatedTerms : Type 0 where
  pub loc : PureTerm
  pub terms : List PureTerm

-- The terms of a state: its locations, names and offsets; what its descriptors hold, the lists of names and the bounds; what
-- its other keys hold; the offsets by themselves; and the locations with the names, the offsets and what descriptors hold there.
pub record StateTerms : Type 0 where
  pub placed : List PureTerm
  pub described : List PureTerm
  pub held : List PureTerm
  pub offsets : List PureTerm
  pub located : List LocatedTerms

abbrev pub no_state_terms : StateTerms
no_state_terms = record { placed = []; described = []; held = []; offsets = []; located = [] }

abbrev pub all_of : StateTerms → List PureTerm
all_of s = s.placed ++ (s.described ++ s.held)

-- each term names only variables of the table
abbrev pub AreEachOver : List Sort → List PureTerm → Type 0
AreEachOver vars ts = Each (IsOver vars) ts

-- the fresh variable, where there is one, is in the table
abbrev pub IsFreshOver : List Sort → Option Var → Type 0
IsFreshOver vars None = ⊤
IsFreshOver vars (Some x) = IsOver vars (variable x)

-- one of these terms, or an element of a list term that is
pub data IsListed (ts : List PureTerm) : PureTerm → Type 0 where
  is_given : {t : PureTerm} → IsAmong t ts → IsListed ts t
  is_element : {us : PureTerms} {t : PureTerm} → IsListed ts (list_of us) → IsAmong t (to_list us) → IsListed ts t

abbrev pub is_literal : PureTerm → Bool
is_literal (literal l) = true
is_literal _ = false

abbrev pub is_list_term : PureTerm → Bool
is_list_term (list_of ts) = true
is_list_term _ = false

-- ---- where the terms of new states and results come from

-- such a term, a literal, or the fresh variable
abbrev pub IsPart : List PureTerm → Option Var → PureTerm → Type 0
IsPart ts fresh t = IsListed ts t ⊎ (IsTrue (is_literal t) ⊎ ((x : Var) × ((fresh ≡ Some x) × (t ≡ variable x))))

-- such a term plus or minus a literal, folded
pub record IsShifted (ts : List PureTerm) (fresh : Option Var) (t : PureTerm) : Type 0 where
  pub op : BinOp
  pub part : PureTerm
  pub by : ℤ
  pub shifts : IsTrue (is_shift op)
  pub given : IsPart ts fresh part
  pub folded : folded_binary op part (literal (Literal.Int by)) ≡ t

-- such a term, or a list term of such
abbrev mutual
  pub IsMadeOf : List PureTerm → Option Var → PureTerm → Type 0
  IsMadeOf ts fresh (list_of us) = IsPart ts fresh (list_of us) ⊎ AreMadeOf ts fresh us
  IsMadeOf ts fresh (literal l) = ⊤
  IsMadeOf ts fresh (variable x) = IsPart ts fresh (variable x)
  IsMadeOf ts fresh (unary_of op t) = IsPart ts fresh (unary_of op t)
  IsMadeOf ts fresh (binary_of op s t) = IsPart ts fresh (binary_of op s t) ⊎ IsShifted ts fresh (binary_of op s t)

  pub AreMadeOf : List PureTerm → Option Var → PureTerms → Type 0
  AreMadeOf ts fresh no_terms = ⊤
  AreMadeOf ts fresh (term_and u us) = IsMadeOf ts fresh u × AreMadeOf ts fresh us

-- ---- terms that surely differ

abbrev pub are_other_kinds : Option Kind → Option Kind → Bool
are_other_kinds (Some k) (Some l) = not (same_kind k l)
are_other_kinds _ _ = false

-- a Fresh variable, and a term over variables with lower numbers
abbrev pub is_fresh_above : PureTerm → PureTerm → Bool
is_fresh_above (variable x) t = same_sort x.sort Sort.Fresh && names_only_below x.number t
is_fresh_above _ t = false

-- two terms that aren't the same have different values: both are literals, their kinds are known and differ, or one is a Fresh
-- variable and the other names lower variables alone
abbrev pub are_apart : PureTerm → PureTerm → Bool
are_apart s t = (is_literal s && is_literal t) || (are_other_kinds (known_kind s) (known_kind t) ||
    (is_fresh_above s t || is_fresh_above t s))

-- ---- the forms of conditions

-- What conditions may speak of: what an action asks about, the arguments whose literal form it may need by itself, and the terms of
-- the state.
pub record Asked : Type 0 where
  pub about : List PureTerm
  pub formed : List PureTerm
  pub state : StateTerms

-- of what is asked about and of the arguments whose form may be needed, as two lists
abbrev pub asked_of : List PureTerm × List PureTerm → StateTerms → Asked
asked_of asked s = record { about = asked.0; formed = asked.1; state = s }

-- nothing is asked about
abbrev pub nothing_asked : List PureTerm × List PureTerm
nothing_asked = ([], [])

-- The terms that may be compared: of the state everything but what its other keys hold.
abbrev pub compared_terms : Asked → List PureTerm
compared_terms g = g.about ++ (g.state.placed ++ g.state.described)

-- two terms that are the same or don't surely differ
abbrev pub may_be_same : PureTerm → PureTerm → Bool
may_be_same s t = same_term s t || not (are_apart s t)

abbrev pub locations_of : Asked → List PureTerm
locations_of g = map (λ p. p.loc) g.state.located

-- what is asked about, a location that may be the same as that, and so on along locations
pub data IsNear (g : Asked) : PureTerm → Type 0 where
  is_asked : {t : PureTerm} → IsListed g.about t → IsNear g t
  is_next : {s t : PureTerm} → IsNear g s → IsAmong t (locations_of g) → IsTrue (may_be_same s t) → IsNear g t

-- A side of `=` is a term that may be compared: one that is asked about, a location that is near, or one that stands there.
pub record IsSide (g : Asked) (t : PureTerm) : Type 0 where
  pub compared : IsListed (compared_terms g) t
  pub near : IsListed g.about t ⊎ OneOf (λ p. IsNear g p.loc × IsListed (p.loc ∷ p.terms) t) g.state.located

-- the term stands at a location that is near
abbrev pub StandsNear : Asked → PureTerm → Type 0
StandsNear g t = OneOf (λ p. IsNear g p.loc × IsAmong t p.terms) g.state.located

abbrev pub one : PureTerm
one = literal (Literal.Int (pos 1))

-- an offset plus 1
abbrev pub IsNextOffset : Asked → PureTerm → Type 0
IsNextOffset g t = OneOf (λ u. StandsNear g u × (folded_binary BinOp.Add u one ≡ t)) g.state.offsets

-- an offset or what a descriptor holds, as a bound; or a literal that is asked about
abbrev pub IsLimit : Asked → PureTerm → Type 0
IsLimit g t = (IsAmong t (g.state.offsets ++ g.state.described) × StandsNear g t) ⊎ (IsAmong t g.about × IsTrue (is_literal t))

-- an offset plus 1, and a limit
abbrev pub IsNextToLimit : Asked → PureTerm → PureTerm → Type 0
IsNextToLimit g s t = (IsNextOffset g s × IsLimit g t) ⊎ (IsLimit g s × IsNextOffset g t)

-- the kind of each, where it is known, is that of numbers
abbrev pub may_be_ordered : PureTerm → PureTerm → Bool
may_be_ordered s t = allows (known_kind s) Kind.Int && allows (known_kind t) Kind.Int

-- a limit and what is asked about, two limits, or an offset plus 1 and a limit
abbrev pub AreOrdered : Asked → PureTerm → PureTerm → Type 0
AreOrdered g s t =
    ((IsListed g.about s ⊎ IsLimit g s) × IsLimit g t) ⊎ ((IsLimit g s × IsListed g.about t) ⊎ IsNextToLimit g s t)

-- a literal, and an offset that stands near: the place of a cell, counted from 0
abbrev pub IsPlaceOfCell : Asked → PureTerm → PureTerm → Type 0
IsPlaceOfCell g s t = IsTrue (is_literal s) × (IsAmong t g.state.offsets × StandsNear g t)

-- the sides of `=`, and of `<` and `<=`, which may be numbers
abbrev pub AreSides : Asked → BinOp → PureTerm → PureTerm → Type 0
AreSides g BinOp.Equal s t = (IsSide g s × IsSide g t) ⊎ (IsNextToLimit g s t ⊎ IsPlaceOfCell g s t)
AreSides g BinOp.Less s t = IsTrue (may_be_ordered s t) × AreOrdered g s t
AreSides g BinOp.LessOrEqual s t = IsTrue (may_be_ordered s t) × AreOrdered g s t
AreSides g _ s t = ⊥

-- two different terms, which don't surely differ
abbrev pub AreCompared : Asked → BinOp → PureTerm → PureTerm → Type 0
AreCompared g op s t = ¬ (s ≡ t) × (are_apart s t ≡ false) × AreSides g op s t

-- the kinds of locations, names, numbers and lists
abbrev pub is_asked_kind : PureTerm → Bool
is_asked_kind (literal (Literal.Kind Kind.Sym)) = true
is_asked_kind (literal (Literal.Kind Kind.Str)) = true
is_asked_kind (literal (Literal.Kind Kind.Int)) = true
is_asked_kind (literal (Literal.Kind Kind.List)) = true
is_asked_kind _ = false

-- that a term that is asked about has such a kind, where its form and its variables' sorts leave its kind open
abbrev pub IsKindQuestion : Asked → PureTerm → PureTerm → Type 0
IsKindQuestion g (unary_of UnOp.Kind u) t = IsListed g.about u × (known_kind u ≡ None) × IsTrue (is_asked_kind t)
IsKindQuestion g _ t = ⊥

abbrev pub IsQuestion : Asked → PureTerm → Type 0
IsQuestion g (binary_of op s t) = AreCompared g op s t ⊎ ((op ≡ BinOp.Equal) × IsKindQuestion g s t)
IsQuestion g _ = ⊥

-- a term whose literal form may be needed: an argument whose form the action may need by itself, or what a descriptor holds at a
-- location that is near
abbrev pub MayNeedForm : Asked → PureTerm → Type 0
MayNeedForm g t = IsAmong t g.formed ⊎ (IsAmong t g.state.described × StandsNear g t)

-- such a term that is no list term and no literal, where its literal form is needed
abbrev pub IsFormAsked : Asked → PureTerm → Type 0
IsFormAsked g t = MayNeedForm g t × (is_list_term t ≡ false) × (is_literal t ≡ false)

-- The conditions that a memory may give: comparisons, kinds, and terms whose literal form is needed. Each speaks of what is asked
-- about or near to it, so that there is none where nothing is asked about.
abbrev pub IsOwnCondition : Asked → PureAtom → Type 0
IsOwnCondition g (positive t) = IsQuestion g t
IsOwnCondition g (negative t) = IsQuestion g t
IsOwnCondition g (opening t) = IsFormAsked g t
