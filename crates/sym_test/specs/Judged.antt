-- The start of a test, and what is said of one path that has ended.
use Rattle.std.specs.Prelude.{◌≡◌, ◌⊎◌, ℕ, ℤ, List, [], ◌∷◌, ◌++◌, length, slice_get, Bool, Option, Some, None, IsTrue}
use Rattle.std.specs.List.{list_all}
use Rattle.gil_values.specs.declared.places.Place.{Place}
use Rattle.gil_values.specs.Pure.{PureValue}
use Rattle.gil_values.specs.View.{value_view, values_view}
use Rattle.gil_syntax.specs.Pure.{PureParts}
use Rattle.gil_machine.specs.Run.{test_run, IsBug}
use Rattle.gil_machine.specs.State.{IsFailed}
use Rattle.mem_model.specs.Actions.{Actions}
use Rattle.mem_model.specs.Heaps.{Heap}
use Rattle.pure_terms.specs.Deciding.{has_moderate_numbers}
use Rattle.pure_terms.specs.Fragment.{InFragment}
use Rattle.pure_terms.specs.declared.variables.Sort.{Sort}
use Rattle.pure_terms.specs.Meaning.{value, AreOver, Satisfies}
use Rattle.pure_terms.specs.Pure.{PureTerm, PureAtom, opening}
use Rattle.pure_terms.specs.Wide.{has_wide_part}
use Rattle.sym_step.specs.Runs.{AccountsFor}
use Rattle.sym_model.specs.Lists.{Each}
use Rattle.sym_model.specs.Terms.{StateTerms}
use Rattle.sym_paths.specs.Meaning.{Stands, IsOverTable, IsFirstPath}
use Rattle.sym_paths.specs.Pure.{PureEnd, returned, failed, threw, missed, vanished, cut, unknown, PurePath}
use Rattle.sym_paths.specs.Steps.{IsNewSort, IsUnknown, place_of, IsPlainPath}
use Rattle.pure_terms.specs.View.{atoms_view}
use Rattle.sym_test.specs.declared.judging.Judgement.{Judgement}
use Rattle.sym_test.specs.declared.judging.Lists.{Lists}
use Rattle.sym_test.specs.Bugs.{failure, FailsWith, IsFound}
use Rattle.sym_test.specs.Canonical.{draws_among, IsCanonical}
use Rattle.sym_test.specs.Undecided.{first_state, keeps_out, IsOutsideAt, IsUndecided}
use Rattle.sym_test.specs.View.{PureQuery, query_view, PureVerdict, clean}
use Rattle.sym_test.specs.View as verdict

-- the path on which the test of a procedure begins
pub record Begins {S : Type 0} (p : PureParts) (stands : S → List PureValue → Heap → Type 0) (terms : S → StateTerms)
    (plain : S → ℤ → ℤ → Type 0) (f : List ℕ) (path : PurePath S) : Type 0 where
  pub stands_for : Stands stands path [] (first_state p f)
  pub over : IsOverTable terms path
  pub first : IsFirstPath stands terms f path
  pub starts_plain : IsPlainPath plain 0 path

-- ---- what is said of a path

pub data PureJudgement : Type 0 where
  harmless : PureJudgement
  fails : Place → PureValue → List PureValue → PureJudgement
  undecided : PureQuery → PureJudgement

abbrev pub judgement_view : Judgement → PureJudgement
judgement_view Judgement.Harmless = harmless
judgement_view (Judgement.Bug place value inputs) = fails place (value_view value) (values_view inputs)
judgement_view (Judgement.Undecided q) = undecided (query_view q)

-- The path names only variables of its table, which are fresh ones and draws; unless it is unknown some valuation meets its conditions; and
-- where it fails, it does so with a value.
pub record MayBeJudged {S : Type 0} (terms : S → StateTerms) (path : PurePath S) : Type 0 where
  pub over : IsOverTable terms path
  pub sorts : Each IsNewSort path.vars
  pub met : ¬ IsUnknown path.ending → (v : List PureValue) × Satisfies path.vars v path.conds
  pub defined : (thrown : Bool) (t : PureTerm) (place : Place) (v : List PureValue) → path.ending ≡ Some (failure thrown t place)
      → IsCanonical path.vars path.conds v
      → (w : PureValue) × (value v t ≡ Some w)

-- what a query is made of: the variables of a path, its choices, what is assumed, and its conditions
pub record PureLists : Type 0 where
  pub vars : List Sort
  pub choices : List ℕ
  pub given : List PureAtom
  pub conds : List PureAtom

abbrev pub lists_of : {S : Type 0} → PurePath S → PureLists
lists_of path = record { vars = path.vars; choices = path.choices; given = path.given; conds = path.conds }

abbrev pub lists_view : Lists → PureLists
lists_view l = record { vars = l.vars; choices = l.choices; given = atoms_view l.given; conds = atoms_view l.conds }

-- Some valuation meets the conditions, which name only variables of the table, and these are fresh ones and draws.
pub record AreMet (l : PureLists) : Type 0 where
  pub sorts : Each IsNewSort l.vars
  pub over : AreOver l.vars l.conds
  pub met : (v : List PureValue) × Satisfies l.vars v l.conds

-- the query is about a path, at this place
pub record IsAbout (l : PureLists) (place : Place) (q : PureQuery) : Type 0 where
  pub place_is : q.place ≡ place
  pub choices : q.path ≡ l.choices
  pub vars : q.vars ≡ l.vars
  pub given : q.given ≡ l.given

-- the query is whether the path goes on, which no decider must know
pub record IsListOutside (l : PureLists) (q : PureQuery) : Type 0 where
  pub query : q.query ≡ l.conds
  pub outside : IsOutsideAt l.conds q.outside
  pub keeps : (a : PureAtom) × ((slice_get l.conds q.outside ≡ Some a) × IsTrue (keeps_out a))

-- under a valuation that a decider gives, if the conditions are in the fragment, a part of the term leaves 128 bits
pub record LeavesHeld (l : PureLists) (t : PureTerm) : Type 0 where
  pub valuation : List PureValue
  pub canonical : IsCanonical l.vars l.conds valuation
  pub moderate : InFragment l.conds → IsTrue (list_all has_moderate_numbers valuation)
  pub wide : IsTrue (has_wide_part valuation t)

-- the query is whether a failing value has a form, where the conditions are in the fragment
pub record IsWide (l : PureLists) (t : PureTerm) (q : PureQuery) : Type 0 where
  pub query : q.query ≡ l.conds ++ opening t ∷ []
  pub outside : q.outside ≡ length l.conds
  pub inside : InFragment l.conds
  pub leaves : LeavesHeld l t

-- a bug with the inputs of a canonical valuation
pub record IsFoundBug (l : PureLists) (how : PureEnd) (w : PureValue) (inputs : List PureValue) : Type 0 where
  pub valuation : List PureValue
  pub canonical : IsCanonical l.vars l.conds valuation
  pub draws : inputs ≡ draws_among l.vars valuation
  pub value_is : FailsWith valuation how w

-- a question about a path
abbrev pub IsQuestion : PureLists → Place → (PureQuery → Type 0) → PureJudgement → Type 0
IsQuestion l place Is (undecided q) = IsAbout l place q × Is q
IsQuestion l place Is harmless = ⊥
IsQuestion l place Is (fails here w inputs) = ⊥

-- what may be said of a failing path
abbrev pub IsFailureJudged : PureLists → PureEnd → Place → (PureQuery → Type 0) → PureJudgement → Type 0
IsFailureJudged l how place May harmless = ⊥
IsFailureJudged l how place May (fails here w inputs) = (here ≡ place) × IsFoundBug l how w inputs
IsFailureJudged l how place May (undecided q) = IsAbout l place q × (IsListOutside l q ⊎ May q)

-- what may be said of an unknown path
abbrev pub IsUnknownJudged : PureLists → Place → ℕ → PureJudgement → Type 0
IsUnknownJudged l place i (undecided q) = IsAbout l place q × (q.query ≡ l.conds) × (q.outside ≡ i)
IsUnknownJudged l place i harmless = ⊥
IsUnknownJudged l place i (fails here w inputs) = ⊥

abbrev pub IsJudgedEnd : {S : Type 0} → PurePath S → Option PureEnd → PureJudgement → Type 0
IsJudgedEnd path (Some (failed t place)) j = IsFailureJudged (lists_of path) (failed t place) place (IsWide (lists_of path) t) j
IsJudgedEnd path (Some (threw t place)) j = IsFailureJudged (lists_of path) (threw t place) place (IsWide (lists_of path) t) j
IsJudgedEnd path (Some (missed k place)) j = IsFailureJudged (lists_of path) (missed k place) place (λ q. ⊥) j
IsJudgedEnd path (Some (unknown place reason)) j = IsUnknownJudged (lists_of path) place (place_of reason) j
IsJudgedEnd path (Some (returned t)) j = j ≡ harmless
IsJudgedEnd path (Some vanished) j = j ≡ harmless
IsJudgedEnd path (Some cut) j = j ≡ harmless
IsJudgedEnd path None j = j ≡ harmless

-- ---- when it is right

-- no run that fails within the bound is one for which the path accounts
abbrev pub AccountsForNoFailure : {S : Type 0} → PureParts → Actions → (S → List PureValue → Heap → Type 0) → List ℕ → ℕ → PurePath S
    → PurePath S → Type 0
AccountsForNoFailure p m stands f n start path =
    (inputs : List PureValue) → IsFailed (test_run p m f inputs n).ending → ¬ AccountsFor p m stands inputs (first_state p f) start [] path

abbrev pub IsRightlyJudged : {S : Type 0} → PureParts → Actions → (S → List PureValue → Heap → Type 0) → (S → StateTerms)
    → (List ℕ → List PureTerm → List PureTerm × List PureTerm) → (S → List ℕ → List PureTerm → List PureValue → Heap → PureTerm → Type 0) → Type 0
    → List ℕ → ℕ → PurePath S → PurePath S → PureJudgement → Type 0
IsRightlyJudged p m stands terms asked depends keeps_plain f n start path harmless = AccountsForNoFailure p m stands f n start path
IsRightlyJudged p m stands terms asked depends keeps_plain f n start path (fails place w inputs) =
    IsBug p m f n inputs w place × IsFound p m stands terms asked depends f n place w inputs
IsRightlyJudged p m stands terms asked depends keeps_plain f n start path (undecided q) = IsUndecided p m stands terms asked depends keeps_plain f n q

-- ---- queries

-- the query that is kept, or else this one
abbrev pub first_query : Option PureQuery → PureQuery → Option PureQuery
first_query None q = Some q
first_query (Some kept) q = Some kept

-- what is answered where no path is left
abbrev pub verdict_of : Option PureQuery → PureVerdict
verdict_of None = clean
verdict_of (Some q) = verdict.unknown q
