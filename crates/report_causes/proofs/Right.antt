-- A reported cause that tells a cause of the specification says of its checked runs what is so; and each cause can be told.
use Rattle.std.proofs.Common.{◌≡◌, ◌⊎◌, ⊎_elim, inl, inr, ℕ, List, [], ◌∷◌, Some, refl, sym, ap, subst, ◌∙◌}
use Rattle.gil_values.specs.Pure.{PureValue}
use Rattle.gil_syntax.specs.Pure.{PureParts, PureSpec}
use Rattle.mem_model.specs.declared.keys.MemoryName.{MemoryName}
use Rattle.mem_model.specs.Actions.{Actions}
use Rattle.checked_runs.specs.Checked.{Outcome, has_fault}
use Rattle.checked_runs.specs.Checked as runs
use Rattle.pure_terms.specs.declared.deciders.Reason.{Reason}
use Rattle.pure_terms.specs.Meaning.{value}
use Rattle.pure_terms.specs.Pure.{PureTerm}
use Rattle.sym_model.specs.Lists.{Each, IsAmong}
use Rattle.sym_model.proofs.ListLaws.{each_to}
use Rattle.checked_paths.specs.Causes.{PureShown, PureCause, failure, fault, bound, undecided, shown_in, fault_of}
use Rattle.checked_paths.specs.declared.nexts.FaultKind.{FaultKind}
use Rattle.checked_paths.specs.Exactness.{FailsWith}
use Rattle.checked_paths.specs.Pure.{PureEntry}
use Rattle.checked_paths.specs.Trails.{Runs, StandsAt, RunsInto, IsDecided}
use Rattle.spec_causes.specs.Causes.{MeetsAbove, ShowsMeeting, ComesSurely, ComesToBound, IsCauseOf}
use Rattle.gil_report.specs.declared.answers.Lack.{Lack}
use Rattle.gil_report.specs.Pure.{PureQuestion, PureWitness}
use Rattle.gil_report.specs.Pure as report
use Rattle.report_causes.specs.Causes.{wide_question, entry_terms, telling_terms, ComesTo, IsCutOff, LacksThere, IsTooWide, IsRightCause}
use Rattle.report_causes.specs.Names.{place_of}
use Rattle.report_causes.specs.Telling.{TellsShown, AsksOfWide, IsAskedOfWide, lack_of, TellsFailure, TellsLack, TellsOpen, TellsCause, CanBeTold}
use Rattle.report_causes.proofs.Told.{values_told}

same_valuation : (shown : PureShown) (shows : ShowsMeeting shown) (v : List PureValue) → shown.valuation ≡ Some v → shows.valuation ≡ v
same_valuation shown shows v is = let both : Some shows.valuation ≡ Some v = sym shows.is_shown ∙ is in cc

meets_shown : (shown : PureShown) (shows : ShowsMeeting shown) (v : List PureValue) → shown.valuation ≡ Some v → MeetsAbove shows.counter shown.vars shown.conds v
meets_shown shown shows v is = subst (λ u. MeetsAbove shows.counter shown.vars shown.conds u) (same_valuation shown shows v is) shows.meets

-- no cause that was met is told as a dependence
pub no_dependence_told : (s : PureSpec) (e : PureEntry) (cause : PureCause) (g : List ℕ) → TellsCause s e cause (report.depends g) → ⊥
no_dependence_told s e (failure t shown) g told = told
no_dependence_told s e (fault kind shown) g told = told
no_dependence_told s e (bound shown) g told = told
no_dependence_told s e (undecided reason shown) g told = told

each_itself : (ts : List PureTerm) → Each (λ t. IsAmong t ts) ts
each_itself [] = tt
each_itself (t ∷ ts) = (inl refl, each_to (λ u. IsAmong u ts) (λ u. IsAmong u (t ∷ ts)) ts (λ u among. inr among) (each_itself ts))

-- a cause that asks of wide terms of the entry tells what is lacking, or the failure
pub lack_asked : (lack : Lack) (s : PureSpec) (e : PureEntry) (shown : PureShown) (told : report.PureCause) → IsAskedOfWide (entry_terms s e) shown told → TellsLack lack s e shown told
lack_asked lack s e shown (report.undecided_cause q) asks = asks
lack_asked lack s e shown (report.fails r w) asks = absurd asks
lack_asked lack s e shown (report.lacks l w) asks = absurd asks
lack_asked lack s e shown (report.depends name) asks = absurd asks

pub failure_asked : (t : PureTerm) (s : PureSpec) (e : PureEntry) (shown : PureShown) (told : report.PureCause) → IsAskedOfWide (t ∷ []) shown told ⊎ IsAskedOfWide (entry_terms s e) shown told → TellsFailure t s e shown told
failure_asked t s e shown (report.undecided_cause q) asks = asks
failure_asked t s e shown (report.fails r w) asks = ⊎_elim (λ no. absurd no) (λ no. absurd no) asks
failure_asked t s e shown (report.lacks l w) asks = ⊎_elim (λ no. absurd no) (λ no. absurd no) asks
failure_asked t s e shown (report.depends name) asks = ⊎_elim (λ no. absurd no) (λ no. absurd no) asks

module _ (p : PureParts) (memory : MemoryName) (m : Actions) (s : PureSpec) (most : ℕ) where
  -- another class of outcomes
  comes_also : (Is Are : Outcome → Type 0) (w : PureWitness) → ((out : Outcome) → Is out → Are out) → ComesTo p memory m s most Is w → ComesTo p memory m s most Are w
  comes_also Is Are w also comes = record {
    entry = comes.entry;
    of_spec = comes.of_spec;
    values = comes.values;
    start = comes.start;
    is_start = comes.is_start;
    steps = comes.steps;
    within = comes.within;
    runs = record {
      state = comes.runs.state;
      there = comes.runs.there;
      earlier = comes.runs.earlier;
      runs = comes.runs.runs;
      chosen = comes.runs.chosen;
      outcome = comes.runs.outcome;
      leads = comes.runs.leads;
      choices_are = comes.runs.choices_are;
      is = also comes.runs.outcome comes.runs.is;
    };
  }

  module _ (e : PureEntry) (of_spec : e.spec ≡ s) (shown : PureShown) (w : PureWitness) (told : TellsShown s e shown w) (shows : ShowsMeeting shown) where
    comes_there : (Is : List PureValue → Outcome → Type 0) → ComesSurely p memory m e most Is shown → ComesTo p memory m s most (Is told.valuation) w
    comes_there Is surely =
        let v : List PureValue = told.valuation in
        let (entry, (first, (under, into))) = surely.runs shows.counter v (meets_shown shown shows v told.is_shown) in
        record {
          entry = entry;
          of_spec = under.entered.spec ∙ of_spec;
          values = told.tells.values ∙ values_told v s e entry under.entered;
          start = first;
          is_start = under.is_start;
          steps = surely.steps;
          within = surely.within;
          runs = subst (λ place. RunsInto p memory m entry first surely.steps w.path place (Is v)) (sym told.tells.place)
              (subst (λ choices. RunsInto p memory m entry first surely.steps choices shown.place (Is v)) (sym told.tells.path) into);
        }

    cut_there : ComesToBound p memory m e most shown → IsCutOff p memory m s most w
    cut_there comes =
        let v : List PureValue = told.valuation in
        let (entry, (first, (under, (c, (runs, there))))) = comes shows.counter v (meets_shown shown shows v told.is_shown) in
        record {
          entry = entry;
          of_spec = under.entered.spec ∙ of_spec;
          values = told.tells.values ∙ values_told v s e entry under.entered;
          start = first;
          is_start = under.is_start;
          state = c;
          runs = subst (λ choices. Runs p memory m entry first most choices c) (sym told.tells.path) runs;
          there = subst (λ place. StandsAt p memory m entry place c) (sym told.tells.place) there;
        }

  -- what fails with the value of a term fails with that value
  fails_there : (t : PureTerm) (v : List PureValue) (r : PureValue) (w : PureWitness) → value v t ≡ Some r → ComesTo p memory m s most (FailsWith t v) w → ComesTo p memory m s most (λ out. out ≡ has_fault (runs.fails r)) w
  fails_there t v r w is comes = comes_also (FailsWith t v) (λ out. out ≡ has_fault (runs.fails r)) w (λ out fails. fails.1.1 ∙ ap (λ y. has_fault (runs.fails y)) (same fails.0 fails.1.0)) comes
    where
      same : (x : PureValue) → value v t ≡ Some x → x ≡ r
      same x has = let both : Some x ≡ Some r = sym has ∙ is in cc

  lacks_there : (kind : FaultKind) (w : PureWitness) → ComesTo p memory m s most (λ out. out ≡ has_fault (fault_of kind)) w → LacksThere p memory m s most (lack_of kind) w
  lacks_there FaultKind.Missing w comes = comes
  lacks_there FaultKind.Post w comes = comes
  lacks_there FaultKind.Invariant w comes = comes
  lacks_there FaultKind.CallPrecondition w comes = comes
  lacks_there FaultKind.FoldBody w comes = comes

  module _ (e : PureEntry) where
    too_wide : (cause : PureCause) (shown : PureShown) → shown_in cause ≡ shown → (ts : List PureTerm) (q : PureQuestion) → IsCauseOf p memory m s most e cause → IsDecided cause → AsksOfWide ts shown q
        → Each (λ t. IsAmong t (telling_terms s e cause)) ts → IsTooWide p memory m s most q
    too_wide cause shown same ts q is decided asks telling = record {
      entry = e;
      cause = cause;
      is_cause = is;
      decided = decided;
      terms = ts;
      telling = telling;
      asked = asks.asked ∙ ap (λ u. wide_question u ts) (sym same);
      valuation = asks.valuation;
      is_shown = ap (λ (u : PureShown). u.valuation) same ∙ asks.is_shown;
      wide = asks.wide;
    }

    failure_right : (t : PureTerm) (shown : PureShown) (told : report.PureCause) → IsCauseOf p memory m s most e (failure t shown) → TellsFailure t s e shown told → IsRightCause p memory m s most told
    failure_right t shown (report.fails r w) is (told, has) = fails_there t told.valuation r w has (comes_there e is.of_spec shown w told is.shows (FailsWith t) is.runs)
    failure_right t shown (report.undecided_cause q) is (inl asks) = inr (too_wide (failure t shown) shown refl (t ∷ []) q is tt asks (inl refl, tt))
    failure_right t shown (report.undecided_cause q) is (inr asks) =
        inr (too_wide (failure t shown) shown refl (entry_terms s e) q is tt asks (each_to (λ u. IsAmong u (entry_terms s e)) (λ u. IsAmong u (t ∷ entry_terms s e)) (entry_terms s e) (λ u among. inr among) (each_itself (entry_terms s e))))
    failure_right t shown (report.lacks lack w) is none = absurd none
    failure_right t shown (report.depends name) is none = absurd none

    fault_right : (kind : FaultKind) (shown : PureShown) (told : report.PureCause) → IsCauseOf p memory m s most e (fault kind shown) → TellsLack (lack_of kind) s e shown told → IsRightCause p memory m s most told
    fault_right kind shown (report.lacks lack w) is (same, told) =
        subst (λ l. LacksThere p memory m s most l w) (sym same) (lacks_there kind w (comes_there e is.of_spec shown w told is.shows (λ v out. out ≡ has_fault (fault_of kind)) is.runs))
    fault_right kind shown (report.undecided_cause q) is asks = inr (too_wide (fault kind shown) shown refl (entry_terms s e) q is tt asks (each_itself (entry_terms s e)))
    fault_right kind shown (report.fails r w) is none = absurd none
    fault_right kind shown (report.depends name) is none = absurd none

    bound_right : (shown : PureShown) (told : report.PureCause) → IsCauseOf p memory m s most e (bound shown) → TellsLack Lack.Cut s e shown told → IsRightCause p memory m s most told
    bound_right shown (report.lacks lack w) is (same, told) = subst (λ l. LacksThere p memory m s most l w) (sym same) (cut_there e is.of_spec shown w told is.shows is.runs)
    bound_right shown (report.undecided_cause q) is asks = inr (too_wide (bound shown) shown refl (entry_terms s e) q is tt asks (each_itself (entry_terms s e)))
    bound_right shown (report.fails r w) is none = absurd none
    bound_right shown (report.depends name) is none = absurd none

    open_right : (reason : Reason) (shown : PureShown) (told : report.PureCause) → IsCauseOf p memory m s most e (undecided reason shown) → TellsOpen (place_of reason) shown told → IsRightCause p memory m s most told
    open_right reason shown (report.undecided_cause q) is asked = inl (record {
      entry = e;
      of_spec = is.of_spec;
      reason = reason;
      shown = shown;
      asked = asked;
      is_open = is.runs;
    })
    open_right reason shown (report.fails r w) is none = absurd none
    open_right reason shown (report.lacks lack w) is none = absurd none
    open_right reason shown (report.depends name) is none = absurd none

    -- ---- the laws

    -- what tells a cause of the specification is right
    pub told_right : (cause : PureCause) (told : report.PureCause) → IsCauseOf p memory m s most e cause → TellsCause s e cause told → IsRightCause p memory m s most told
    told_right (failure t shown) told is tells = failure_right t shown told is tells
    told_right (fault kind shown) told is tells = fault_right kind shown told is tells
    told_right (bound shown) told is tells = bound_right shown told is tells
    told_right (undecided reason shown) told is tells = open_right reason shown told is tells

    -- a cause of the specification can be told
    pub can_be_told : (cause : PureCause) → IsCauseOf p memory m s most e cause → CanBeTold cause
    can_be_told (failure t shown) is =
        let (entry, (first, (under, into))) = is.runs.runs is.shows.counter is.shows.valuation is.shows.meets in
        record { valuation = is.shows.valuation; is_shown = is.shows.is_shown; result = into.is.0; has = into.is.1.0 }
    can_be_told (fault kind shown) is = (is.shows.valuation, is.shows.is_shown)
    can_be_told (bound shown) is = (is.shows.valuation, is.shows.is_shown)
    can_be_told (undecided reason shown) is = tt
