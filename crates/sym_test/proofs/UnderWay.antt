-- A test under way: each failing run is accounted for by a path that is left, unless a query is kept.
use Rattle.std.proofs.Common.{◌≡◌, ℤ, ⊎_elim, inl, inr, ℕ, ◌≤◌, List, [], ◌∷◌, Option, Some, None, IsTrue, true≢false, refl, sym, subst, ◌∙◌, arith}
use Rattle.std.proofs.lemmas.List.{append-nil}
use Rattle.gil_values.specs.declared.places.Place.{Place}
use Rattle.gil_values.specs.Pure.{PureValue}
use Rattle.gil_syntax.specs.Pure.{PureParts}
use Rattle.gil_syntax.specs.Simple.{is_simple}
use Rattle.gil_machine.specs.Run.{test_run, IsEntry, IsBug, run}
use Rattle.gil_machine.specs.State.{State, Ending, IsFailed, told}
use Rattle.gil_machine.specs.State as machine
use Rattle.mem_model.specs.Actions.{Actions}
use Rattle.mem_model.specs.Heaps.{Heap}
use Rattle.pure_terms.specs.Pure.{PureTerm}
use Rattle.sym_step.specs.Exploring.{MayGoOn, IsFrom, IsEndedFrom, KeepTrails, KeepAccounts}
use Rattle.sym_step.specs.Plain.{TrailsStayPlain}
use Rattle.sym_step.specs.Runs.{StandsAfter, AccountsFor}
use Rattle.sym_model.specs.Lists.{Each, OneOf}
use Rattle.sym_model.specs.Terms.{StateTerms}
use Rattle.sym_model.proofs.ListLaws.{not_none}
use Rattle.sym_paths.specs.Meaning.{IsOverTable}
use Rattle.sym_paths.specs.Pure.{failed, cut, PurePath}
use Rattle.sym_paths.specs.Steps.{IsInputFault, IsUnknown}
use Rattle.sym_test.specs.Bugs.{IsFound}
use Rattle.sym_test.specs.Judged.{Begins, MayBeJudged, PureJudgement, harmless, fails, undecided, IsJudgedEnd, IsRightlyJudged, first_query, verdict_of}
use Rattle.sym_test.specs.Undecided.{first_state, FailsSimply, IsUndecided, IsRightVerdict, IsUnknownVerdict}
use Rattle.sym_test.specs.View.{PureQuery, PureVerdict, bug, clean, unknown}
use Rattle.sym_test.proofs.Plainly.{simple_at}
use Rattle.sym_test.proofs.Replaying.{failure_has_value}
use Rattle.sym_test.proofs.Saying.{judged_right, simple_is_decided}
use Rattle.sym_test.proofs.Trailing.{TrailLaws, new_sorts, is_over, is_met}
use Rattle.sym_test.proofs.Failures.{cut_is_no_failure_end}

abbrev pub OnSome : {X : Type 0} → (X → Type 0) → Option X → Type 0
OnSome P (Some x) = P x
OnSome P None = Unit {0}

-- a failing run doesn't end for want of a fitting input
failed_has_input : (e : Ending) → IsFailed (told e) → ¬ IsInputFault e
failed_has_input (machine.failed w place) is fault = fault
failed_has_input (machine.threw w place) is fault = fault
failed_has_input (machine.returned w) is fault = is
failed_has_input machine.vanished is fault = is
failed_has_input (machine.no_input k) is fault = is
failed_has_input (machine.bad_input k) is fault = is
failed_has_input machine.cut is fault = is

pub record IsUnderWay {S : Type 0} (p : PureParts) (m : Actions) (stands : S → List PureValue → Heap → Type 0) (terms : S → StateTerms) (asked : List ℕ → List PureTerm → List PureTerm × List PureTerm)
    (depends : S → List ℕ → List PureTerm → List PureValue → Heap → PureTerm → Type 0) (plain : S → ℤ → ℤ → Type 0) (keeps_plain : Type 0) (f : List ℕ) (n : ℕ)
    (left : List (PurePath S)) (kept : Option PureQuery) : Type 0 where
  pub start : PurePath S
  pub begins : Begins p stands terms plain f start
  pub may : Each (MayGoOn p terms) left
  pub from : Each (IsFrom p m stands terms asked depends plain keeps_plain n start) left
  pub cover : kept ≡ None → (inputs : List PureValue) → IsFailed (test_run p m f inputs n).ending → OneOf (AccountsFor p m stands inputs (first_state p f) start []) left
  pub simple_cover : keeps_plain → (inputs : List PureValue) → FailsSimply p m f inputs n → OneOf (AccountsFor p m stands inputs (first_state p f) start []) left
  pub asks : OnSome (IsUndecided p m stands terms asked depends keeps_plain f n) kept

module _ {S : Type 0} (p : PureParts) (m : Actions) (stands : S → List PureValue → Heap → Type 0) (terms : S → StateTerms) (asked : List ℕ → List PureTerm → List PureTerm × List PureTerm)
    (depends : S → List ℕ → List PureTerm → List PureValue → Heap → PureTerm → Type 0) (plain : S → ℤ → ℤ → Type 0) (laws : TrailLaws p m stands terms asked) (keeps_plain : Type 0) (stays : TrailsStayPlain p m stands terms asked plain) (f : List ℕ) (n : ℕ) (entry : IsEntry p f) (few : n ≤ 10000) where
  abbrev UnderWay : List (PurePath S) → Option PureQuery → Type 0
  UnderWay = IsUnderWay p m stands terms asked depends plain keeps_plain f n

  abbrev s0 : State
  s0 = first_state p f

  abbrev Accounts : PurePath S → List PureValue → PurePath S → Type 0
  Accounts start inputs path = AccountsFor p m stands inputs s0 start [] path

  -- the start accounts for every run
  start_accounts : (start : PurePath S) → Begins p stands terms plain f start → (inputs : List PureValue) → Accounts start inputs start
  start_accounts start begins inputs = (
    [],
    (
      record { new_vars = []; new_values = []; vars = sym (append-nil start.vars); values = refl; in_turn = tt },
      inl (subst (λ k. StandsAfter p m stands inputs s0 start start [] k start.ending) (sym begins.first.steps)
          (subst (StandsAfter p m stands inputs s0 start start [] 0) (sym begins.first.going)
          (s0, record { comes_to = refl; stands_for = begins.stands_for; symbols = refl; draws = refl }))),
    ),
  )

  pub begins_so : (start : PurePath S) → Begins p stands terms plain f start → MayGoOn p terms start → UnderWay (start ∷ []) None
  begins_so start begins may = record {
    start = start;
    begins = begins;
    may = (may, tt);
    from = (record { earlier = []; trail = refl; within = (let none : start.steps ≡ 0 = begins.first.steps in omega (arith, none)); simple = λ keeps. tt; forms = tt }, tt);
    cover = λ none inputs fails_there. inl (start_accounts start begins inputs);
    simple_cover = λ keeps inputs fails_so. inl (start_accounts start begins inputs);
    asks = tt;
  }

  -- ---- a path is handed out

  pub may_be_judged : (start : PurePath S) → Begins p stands terms plain f start → (path : PurePath S) → IsEndedFrom p m stands terms asked depends plain keeps_plain n start path → MayBeJudged terms path
  may_be_judged start begins path (inl (from, some)) = record {
    over = is_over p m stands terms asked plain laws f start begins from.earlier path from.trail;
    sorts = new_sorts p m stands terms asked plain laws f start begins from.earlier path from.trail;
    met = is_met p m stands terms asked plain laws f start begins from.earlier path from.trail;
    defined = λ thrown t place v ending canonical. failure_has_value p m stands terms asked plain laws f start begins n entry from.earlier path from.trail from.within v canonical thrown t place ending;
  }
  may_be_judged start begins path (inr (last, (from, going, steps, is))) =
      let over : IsOverTable terms last = is_over p m stands terms asked plain laws f start begins from.earlier last from.trail in
      subst (MayBeJudged terms) (sym is) (record {
        over = record { conds = over.conds; given = over.given; stores = over.stores; memory = over.memory; drawn = over.drawn; ending = tt };
        sorts = new_sorts p m stands terms asked plain laws f start begins from.earlier last from.trail;
        met = λ known. is_met p m stands terms asked plain laws f start begins from.earlier last from.trail (λ holds. subst IsUnknown going holds);
        defined = λ thrown t place v ending canonical. cut_is_no_failure_end thrown t place ending;
      })

  -- what is left, after a path was handed out of which this is said
  abbrev pub AfterJudgement : List (PurePath S) → Option PureQuery → PureJudgement → Type 0
  AfterJudgement rest kept harmless = UnderWay rest kept
  AfterJudgement rest kept (fails place w inputs) = IsBug p m f n inputs w place × IsFound p m stands terms asked depends f n place w inputs
  AfterJudgement rest kept (undecided q) = UnderWay rest (first_query kept q)

  -- an undecided path accounts for no run that fails by simple commands alone
  abbrev Undeciding : PurePath S → PurePath S → PureJudgement → Type 0
  Undeciding start path (undecided q) = keeps_plain → (inputs : List PureValue) → FailsSimply p m f inputs n → Accounts start inputs path → ⊥
  Undeciding start path _ = Unit {0}

  undeciding : (start : PurePath S) → Begins p stands terms plain f start → (path : PurePath S) (j : PureJudgement) → IsEndedFrom p m stands terms asked depends plain keeps_plain n start path → IsJudgedEnd path path.ending j → Undeciding start path j
  undeciding start begins path harmless ended judged = tt
  undeciding start begins path (fails place w inputs) ended judged = tt
  undeciding start begins path (undecided q) ended judged = simple_is_decided p m stands terms asked plain laws f start begins n entry few keeps_plain stays depends path q ended judged

  -- the query that is kept from one end to the next
  after : (left rest : List (PurePath S)) (path : PurePath S) (kept : Option PureQuery) (so : UnderWay left kept) → Each (IsFrom p m stands terms asked depends plain keeps_plain n so.start) rest → KeepAccounts p m stands n left (path ∷ rest) → Each (MayGoOn p terms) rest
      → (j : PureJudgement) → IsRightlyJudged p m stands terms asked depends keeps_plain f n so.start path j → Undeciding so.start path j → AfterJudgement rest kept j
  after left rest path kept so from accounts may harmless right decided = record {
    start = so.start;
    begins = so.begins;
    may = may;
    from = from;
    cover = λ none inputs fails_there.
        ⊎_elim (λ here. absurd (right inputs fails_there here)) (λ later. later)
        (accounts so.start inputs [] s0 (failed_has_input (run p m inputs n s0).ending fails_there) (so.cover none inputs fails_there));
    simple_cover = λ keeps inputs fails_so.
        ⊎_elim (λ here. absurd (right inputs fails_so.fails here)) (λ later. later)
        (accounts so.start inputs [] s0 (failed_has_input (run p m inputs n s0).ending fails_so.fails) (so.simple_cover keeps inputs fails_so));
    asks = so.asks;
  }
  after left rest path kept so from accounts may (fails place w inputs) right decided = right
  after left rest path None so from accounts may (undecided q) right decided = record {
    start = so.start;
    begins = so.begins;
    may = may;
    from = from;
    cover = λ none. not_none (sym none);
    simple_cover = λ keeps inputs fails_so.
        ⊎_elim (λ here. absurd (decided keeps inputs fails_so here)) (λ later. later)
        (accounts so.start inputs [] s0 (failed_has_input (run p m inputs n s0).ending fails_so.fails) (so.simple_cover keeps inputs fails_so));
    asks = right;
  }
  after left rest path (Some q0) so from accounts may (undecided q) right decided = record {
    start = so.start;
    begins = so.begins;
    may = may;
    from = from;
    cover = λ none. not_none (sym none);
    simple_cover = λ keeps inputs fails_so.
        ⊎_elim (λ here. absurd (decided keeps inputs fails_so here)) (λ later. later)
        (accounts so.start inputs [] s0 (failed_has_input (run p m inputs n s0).ending fails_so.fails) (so.simple_cover keeps inputs fails_so));
    asks = so.asks;
  }

  pub goes_on : (left rest : List (PurePath S)) (path : PurePath S) (kept : Option PureQuery) (j : PureJudgement) → UnderWay left kept → KeepTrails p m stands terms asked depends plain keeps_plain n left (path ∷ []) rest
      → KeepAccounts p m stands n left (path ∷ rest) → Each (MayGoOn p terms) rest → IsJudgedEnd path path.ending j → AfterJudgement rest kept j
  goes_on left rest path kept j so trails accounts may judged =
      let (ended, from) = trails so.start so.from in
      after left rest path kept so from accounts may j (judged_right p m stands terms asked plain laws f so.start so.begins n entry few keeps_plain stays depends path j ended.0 judged)
      (undeciding so.start so.begins path j ended.0 judged)

  pub handed_out : (left rest : List (PurePath S)) (path : PurePath S) (kept : Option PureQuery) → UnderWay left kept → KeepTrails p m stands terms asked depends plain keeps_plain n left (path ∷ []) rest → MayBeJudged terms path
  handed_out left rest path kept so trails = may_be_judged so.start so.begins path (trails so.start so.from).0.0

  -- ---- no path is left

  pub concludes : (left rest : List (PurePath S)) (kept : Option PureQuery) → UnderWay left kept → KeepAccounts p m stands n left rest → rest ≡ [] → IsRightVerdict p m stands terms asked depends keeps_plain f n (verdict_of kept)
  concludes left rest (Some q) so accounts none = so.asks
  concludes left rest None so accounts none = record {
    entry = entry;
    never_fails = λ inputs fails_there.
        subst (OneOf (Accounts so.start inputs)) none (accounts so.start inputs [] s0 (failed_has_input (run p m inputs n s0).ending fails_there) (so.cover refl inputs fails_there));
  }

  -- so no run fails by simple commands alone
  pub no_simple_failure : (left rest : List (PurePath S)) (kept : Option PureQuery) → UnderWay left kept → KeepAccounts p m stands n left rest → rest ≡ [] → keeps_plain → (inputs : List PureValue) → FailsSimply p m f inputs n → ⊥
  no_simple_failure left rest kept so accounts none keeps inputs fails_so =
      subst (OneOf (Accounts so.start inputs)) none
      (accounts so.start inputs [] s0 (failed_has_input (run p m inputs n s0).ending fails_so.fails) (so.simple_cover keeps inputs fails_so))

-- In a simple program nothing is left unknown.
pub simple_decides : {S : Type 0} (p : PureParts) (m : Actions) (stands : S → List PureValue → Heap → Type 0) (terms : S → StateTerms) (asked : List ℕ → List PureTerm → List PureTerm × List PureTerm) (depends : S → List ℕ → List PureTerm → List PureValue → Heap → PureTerm → Type 0) (keeps_plain : Type 0) (f : List ℕ) (n : ℕ) (verdict : PureVerdict)
    → IsRightVerdict p m stands terms asked depends keeps_plain f n verdict → keeps_plain → IsTrue (is_simple p) → ¬ IsUnknownVerdict verdict
simple_decides p m stands terms asked depends keeps_plain f n (bug place w inputs) right keeps simple holds = holds
simple_decides p m stands terms asked depends keeps_plain f n clean right keeps simple holds = holds
simple_decides p m stands terms asked depends keeps_plain f n (unknown q) right keeps simple holds =
    let other = right.not_simple keeps in
    true≢false (sym (simple_at p simple other.state.current other.command other.stands.at) ∙ other.other)
