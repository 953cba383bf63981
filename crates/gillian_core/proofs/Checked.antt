-- Answers to specifications as they are reported.
use Rattle.std.proofs.Common.{◌≡◌, ◌⊎◌, inl, inr, ⊎_elim, ℕ, zero, suc, ◌+◌, ◌<◌, get_or, List, [], ◌∷◌, ◌++◌, length, slice_get, Some, None, Bool, true, false, ◌&&◌, ◌||◌, refl, sym, ap, subst, ◌∙◌, arith, length-append, bytes_eq}
use Rattle.std.specs.List.{list_any}
use Rattle.std.proofs.lemmas.Slice.Eq.{bytes_eq-Decides}
use Rattle.gil_syntax.specs.Pure.{PureSpec, PureParts}
use Rattle.gil_syntax.specs.Valid.{IsValid}
use Rattle.mem_model.specs.declared.keys.MemoryName.{MemoryName}
use Rattle.mem_model.specs.Actions.{Actions}
use Rattle.assert_logic.specs.declared.checking.ModeItem.{ModeItem}
use Rattle.assert_logic.specs.declared.checking.ModeKind.{ModeKind}
use Rattle.assert_logic.specs.Modes.{HasModes, IsNamedModeFault}
use Rattle.checked_paths.specs.Causes.{PureCause as PureMet, failure, fault, bound as cut_off, undecided, cause_view}
use Rattle.checked_paths.specs.Plainly.{IsSureCause}
use Rattle.checked_paths.specs.Pure.{PureEntry}
use Rattle.checked_runs.specs.Specifications.{SpecHolds}
use Rattle.solver_proof.specs.View.{proof_view}
use Rattle.spec_answers.specs.declared.answers.SpecAnswer.{SpecAnswer}
use Rattle.spec_answers.specs.declared.answers.Verdict.{Verdict}
use Rattle.spec_answers.specs.Holding as holding
use Rattle.spec_answers.specs.Holding.{AreTrue, is_verified, is_verified_name}
use Rattle.spec_causes.specs.declared.meeting.Met.{Met}
use Rattle.spec_causes.specs.Causes.{entry_for, IsCauseOf}
use Rattle.spec_checker.specs.Answers.{AnswerEach, AreCauses, AreFaultless, HasNoFaultUnlessUnproved, IsCauseIfUnproved, IsVacuous as IsVerdictVacuous, Shows}
use Rattle.spec_checker.specs.Deciding.{IsDoubt, ShowsNoFault, AreDecided, IsProved as IsVerdictProved, IsSureIfUnproved, AreSettled}
use Rattle.spec_checker.proofs.Found.{found_at}
use Rattle.gil_report.specs.Pure.{PureAnswer, unproved, PureCause, fails, lacks, undecided_cause, depends}
use Rattle.report_causes.specs.Telling.{TellsCause}
use Rattle.report_causes.proofs.Right.{can_be_told, told_right, no_dependence_told}
use Rattle.gillian_core.specs.Checked.{IsProved, AreRightAnswers, CanEachBeTold, CanVerdictBeTold, HasNoFaultUnlessCaused, IsLed, IsOwn, IsRightAnswer, IsReportOf, IsVacuous, LeadsToCause, has_cause, depends_on, ReportsEach, TellsNoDoubt, TellsNoFault}
use Rattle.gillian_core.proofs.Wide.{sure_asks_of_wide}

some_not_none : {A : Type 0} {x : A} → Some x ≡ None → ⊥
some_not_none is = cc

same_some : {A : Type 0} {x y : A} → Some x ≡ Some y → x ≡ y
same_some is = cc

-- where an item has a fault, not all can be read
pub no_modes : (p : PureParts) (memory : MemoryName) (kind : ModeKind) (item : ModeItem) → IsNamedModeFault p memory kind item → HasModes p memory → ⊥
no_modes p memory kind item named modes = some_not_none (sym named.at_fault ∙ modes item)

-- what was read at a place stands there
pub read_at : {A : Type 0} (xs : List A) (i : ℕ) (x : A) → i < length xs → x ≡ get_or xs i x → slice_get xs i ≡ Some x
read_at [] i x below is = absurd (omega (arith, below))
read_at (y ∷ ys) zero x below is = ap Some (sym is)
read_at (y ∷ ys) (suc i) x below is = read_at ys i x (omega (arith, below)) is

-- ---- one after another

last_or_before : {A : Type 0} (xs : List A) (x : A) (k : ℕ) (y : A) → slice_get (xs ++ x ∷ []) k ≡ Some y
    → (slice_get xs k ≡ Some y) ⊎ ((k ≡ length xs) × (x ≡ y))
last_or_before [] x zero y at = inr (refl, same_some at)
last_or_before [] x (suc k) y at = cc
last_or_before (z ∷ zs) x zero y at = inl at
last_or_before (z ∷ zs) x (suc k) y at = ⊎_elim (λ before. inl before) (λ (last, same). inr (ap suc last, same)) (last_or_before zs x k y at)

module _ (ss : List PureSpec) (answers : List (SpecAnswer Met)) where
  -- the answers before a place are reported
  pub record ReportsUntil (place : ℕ) (reported : List PureAnswer) : Type 0 where
    pub as_many : length reported ≡ place
    pub each_reported : (k : ℕ) (s : PureSpec) (x : SpecAnswer Met) (a : PureAnswer) → slice_get ss k ≡ Some s → slice_get answers k ≡ Some x
        → slice_get reported k ≡ Some a → IsReportOf s x.name x.verdict a

  pub reports_none : ReportsUntil 0 []
  reports_none = record { as_many = refl; each_reported = λ k s x a at_s at_x at_a. cc }

  pub reports_more : (place : ℕ) (before after : List PureAnswer) (a : PureAnswer) (s : PureSpec) (x : SpecAnswer Met) → ReportsUntil place before
      → slice_get ss place ≡ Some s → slice_get answers place ≡ Some x → IsReportOf s x.name x.verdict a → after ≡ before ++ a ∷ [] → ReportsUntil (place + 1) after
  reports_more place before after a s x until at_s at_x is grown =
      let many : length before ≡ place = until.as_many in
      let longer : length after ≡ length before + 1 = ap length grown ∙ length-append before (a ∷ []) in
      record {
        as_many = omega (arith, many, longer);
        each_reported = λ k t y b at_t at_y at_b.
            ⊎_elim (λ (earlier : slice_get before k ≡ Some b). until.each_reported k t y b at_t at_y earlier)
            (λ ((last, same) : (k ≡ length before) × (a ≡ b)).
            let here : k ≡ place = last ∙ many in
            let same_spec : s ≡ t = same_some (sym at_s ∙ ap (slice_get ss) (sym here) ∙ at_t) in
            let same_answer : x ≡ y = same_some (sym at_x ∙ ap (slice_get answers) (sym here) ∙ at_y) in
            subst (λ (r : PureSpec). IsReportOf r y.name y.verdict b) same_spec
            (subst (λ (z : SpecAnswer Met). IsReportOf s z.name z.verdict b) same_answer
            (subst (λ (c : PureAnswer). IsReportOf s x.name x.verdict c) same is)))
            (last_or_before before a k b (ap (λ (cs : List PureAnswer). slice_get cs k) (sym grown) ∙ at_b));
      }

  pub reports_all : (place : ℕ) (reported : List PureAnswer) → place ≡ length ss → ReportsUntil place reported → ReportsEach ss answers reported
  reports_all place reported all until = record { as_many = until.as_many ∙ all; each_reported = until.each_reported }

-- ---- what holds of what is reported

at_place : {A B : Type 0} (xs : List A) (ys : List B) (k : ℕ) (y : B) → length xs ≡ length ys → slice_get ys k ≡ Some y → (x : A) × (slice_get xs k ≡ Some x)
at_place [] [] k y many is = cc
at_place [] (y ∷ ys) k z many is = absurd (omega arith)
at_place (x ∷ xs) [] k y many is = cc
at_place (x ∷ xs) (y ∷ ys) zero z many is = (x, refl)
at_place (x ∷ xs) (y ∷ ys) (suc k) z many is = at_place xs ys k z (omega arith) is

or_right : (b : Bool) {c : Bool} → c ≡ true → (b || c) ≡ true
or_right true is = refl
or_right false is = is

any_at : {A : Type 0} (f : A → Bool) (xs : List A) (k : ℕ) (x : A) → slice_get xs k ≡ Some x → f x ≡ true → list_any f xs ≡ true
any_at f [] k x is holds = cc
any_at f (y ∷ ys) zero x is holds = ap (λ b. b || list_any f ys) (ap f (same_some is) ∙ holds)
any_at f (y ∷ ys) (suc k) x is holds = or_right (f y) (any_at f ys k x is holds)

both_true : (b c : Bool) → b ≡ true → c ≡ true → (b && c) ≡ true
both_true true c b_is c_is = c_is
both_true false c b_is c_is = cc

-- an answer that is verified makes its name verified
verified_name : (answers : List (SpecAnswer Met)) (k : ℕ) (x : SpecAnswer Met) (name : List ℕ) → slice_get answers k ≡ Some x → x.name ≡ name
    → is_verified x.verdict ≡ true → is_verified_name answers name ≡ true
verified_name answers k x name at named is =
    any_at (λ (a : SpecAnswer Met). bytes_eq a.name name && is_verified a.verdict) answers k x at
    (both_true (bytes_eq x.name name) (is_verified x.verdict) ((bytes_eq-Decides x.name name).1 named) is)

-- ---- why specifications aren't verified

-- a cause that is told is no dependence
own_told : (s : PureSpec) (e : PureEntry) (met : PureMet) (cause : PureCause) → TellsCause s e met cause → IsOwn cause
own_told s e met (fails v w) tells = tt
own_told s e met (lacks l w) tells = tt
own_told s e met (undecided_cause q) tells = tt
own_told s e met (depends g) tells = absurd (no_dependence_told s e met g tells)

led_told : (answers : List PureAnswer) (cause : PureCause) → IsOwn cause → IsLed answers cause
led_told answers (fails v w) own = tt
led_told answers (lacks l w) own = tt
led_told answers (undecided_cause q) own = tt
led_told answers (depends g) own = absurd own

-- where causes are of checked runs, each can be told
told_verdict : (p : PureParts) (memory : MemoryName) (m : Actions) (bound : ℕ) (s : PureSpec) (v : Verdict Met)
    → IsCauseIfUnproved p memory m bound s v → CanVerdictBeTold v
told_verdict p memory m bound s Verdict.Verified is = tt
told_verdict p memory m bound s (Verdict.Vacuous proof) is = tt
told_verdict p memory m bound s (Verdict.Unproved met) is =
    can_be_told p memory m s bound (entry_for s met.entered) (cause_view met.cause) is
told_verdict p memory m bound s (Verdict.DependsOn g) is = tt

pub all_told : (p : PureParts) (memory : MemoryName) (m : Actions) (bound : ℕ) (answers : List (SpecAnswer Met)) → AreCauses p memory m bound answers
    → CanEachBeTold p.specs answers
all_told p memory m bound answers causes k s x at_s at_x = told_verdict p memory m bound s x.verdict (causes.each_right k s x at_s at_x)

module _ (ss : List PureSpec) (answers : List (SpecAnswer Met)) (many : length answers ≡ length ss) (reported : List PureAnswer)
    (reports : ReportsEach ss answers reported) where
  -- what is reported at the place of an answer
  pub record ReportsAt (x : SpecAnswer Met) (k : ℕ) : Type 0 where
    pub spec : PureSpec
    pub answer : PureAnswer
    pub there : slice_get reported k ≡ Some answer
    pub is_report : IsReportOf spec x.name x.verdict answer

  report_at : (k : ℕ) (x : SpecAnswer Met) → slice_get answers k ≡ Some x → ReportsAt x k
  report_at k x at_x =
      let (s, at_s) = at_place ss answers k x (sym many) at_x in
      let (a, at_a) = at_place reported answers k x (reports.as_many ∙ sym many) at_x in
      record { spec = s; answer = a; there = at_a; is_report = reports.each_reported k s x a at_s at_x at_a }

  caused_there : (k : ℕ) (s : PureSpec) (name : List ℕ) (a : PureAnswer) (met : Met) → slice_get reported k ≡ Some a
      → IsReportOf s name (Verdict.Unproved met) a → LeadsToCause reported name
  caused_there k s name a met there (cause, (is, tells)) =
      has_cause k cause (there ∙ ap Some is) (own_told s (entry_for s met.entered) (cause_view met.cause) cause tells)

  depends_there : (k : ℕ) (s : PureSpec) (name h : List ℕ) (a : PureAnswer) → slice_get reported k ≡ Some a
      → IsReportOf s name (Verdict.DependsOn h) a → LeadsToCause reported h → LeadsToCause reported name
  depends_there k s name h a there is leads = depends_on k h (there ∙ ap Some is) leads

  pub led_reported : (g : List ℕ) → holding.LeadsToCause answers g → LeadsToCause reported g
  led_reported g (holding.has_cause k x met at_x named is) =
      let r = report_at k x at_x in
      subst (λ (n : List ℕ). LeadsToCause reported n) named
      (caused_there k r.spec x.name r.answer met r.there (subst (λ (v : Verdict Met). IsReportOf r.spec x.name v r.answer) is r.is_report))
  led_reported g (holding.depends k x h at_x named is leads) =
      let r = report_at k x at_x in
      subst (λ (n : List ℕ). LeadsToCause reported n) named
      (depends_there k r.spec x.name h r.answer r.there (subst (λ (v : Verdict Met). IsReportOf r.spec x.name v r.answer) is r.is_report)
      (led_reported h leads))

-- ---- what is reported is right

module _ (memory : MemoryName) (m : Actions) (keeps : Type 0) (bound : ℕ) (p : PureParts) (valid : IsValid p) (answers : List (SpecAnswer Met))
    (answered : AnswerEach p.specs answers) (true_ones : AreTrue p memory m answers) (faultless : AreFaultless p memory m answers) (causes : AreCauses p memory m bound answers)
    (decided : AreDecided p memory m bound answers) (settled : keeps → AreSettled p memory m bound answers) where
  holds_at : (k : ℕ) (s : PureSpec) (x : SpecAnswer Met) → slice_get p.specs k ≡ Some s → slice_get answers k ≡ Some x → is_verified x.verdict ≡ true
      → SpecHolds p memory m s
  holds_at k s x at_s at_x is =
      true_ones.holds s (found_at p valid k s at_s)
      (verified_name answers k x s.name at_x (answered.each_answered k s x at_s at_x).same_name is)

  module _ (reported : List PureAnswer) (reports : ReportsEach p.specs answers reported) where
    abbrev IsRight : PureSpec → PureAnswer → Type 0
    IsRight s a = IsRightAnswer memory m bound p reported s a

    right_by : (s : PureSpec) (name : List ℕ) (v : Verdict Met) (a : PureAnswer) → name ≡ s.name
        → (is_verified v ≡ true → SpecHolds p memory m s) → Shows answers s v → IsCauseIfUnproved p memory m bound s v → IsReportOf s name v a → IsRight s a
    right_by s name Verdict.Verified a same holds shows cause is = subst (λ (b : PureAnswer). IsRight s b) (sym is) (same, holds refl)
    right_by s name (Verdict.Vacuous proof) a same holds shows cause is =
        subst (λ (b : PureAnswer). IsRight s b) (sym is) (same, holds refl, (proof_view proof, refl, shows))
    right_by s name (Verdict.Unproved met) a same holds shows cause (told, (is, tells)) =
        let e = entry_for s met.entered in
        let c = cause_view met.cause in
        subst (λ (b : PureAnswer). IsRight s b) (sym is)
        (same, told_right p memory m s bound e c told cause tells, led_told reported told (own_told s e c told tells))
    right_by s name (Verdict.DependsOn g) a same holds shows cause is =
        subst (λ (b : PureAnswer). IsRight s b) (sym is) (same, tt, led_reported p.specs answers answered.as_many reported reports g shows)

    abbrev NoFault : PureSpec → PureAnswer → Type 0
    NoFault s a = TellsNoFault memory m bound p reported s a

    doubt_told : (s : PureSpec) (name : List ℕ) (e : PureEntry) (met : PureMet) (told : PureCause) → IsDoubt met → IsCauseOf p memory m s bound e met → TellsCause s e met told
        → NoFault s (unproved name told)
    doubt_told s name e (undecided reason shown) (undecided_cause q) doubt cause asked =
        record { entry = e; of_spec = cause.of_spec; reason = reason; shown = shown; asked = asked; is_open = cause.runs }
    doubt_told s name e (undecided reason shown) (fails v w) doubt cause tells = absurd tells
    doubt_told s name e (undecided reason shown) (lacks lack w) doubt cause tells = absurd tells
    doubt_told s name e (undecided reason shown) (depends g) doubt cause tells = absurd tells
    doubt_told s name e (failure t shown) told doubt cause tells = absurd doubt
    doubt_told s name e (fault kind shown) told doubt cause tells = absurd doubt
    doubt_told s name e (cut_off shown) told doubt cause tells = absurd doubt

    no_fault_by : (s : PureSpec) (name : List ℕ) (v : Verdict Met) (a : PureAnswer) → ShowsNoFault v → IsCauseIfUnproved p memory m bound s v → IsReportOf s name v a → NoFault s a
    no_fault_by s name Verdict.Verified a shows cause is = subst (λ (b : PureAnswer). NoFault s b) (sym is) tt
    no_fault_by s name (Verdict.Vacuous proof) a shows cause is = subst (λ (b : PureAnswer). NoFault s b) (sym is) tt
    no_fault_by s name (Verdict.Unproved met) a shows cause (told, (is, tells)) =
        subst (λ (b : PureAnswer). NoFault s b) (sym is) (doubt_told s name (entry_for s met.entered) (cause_view met.cause) told shows cause tells)
    no_fault_by s name (Verdict.DependsOn g) a shows cause is = absurd shows

    proved_by : (s : PureSpec) (name : List ℕ) (v : Verdict Met) (a : PureAnswer) → IsVerdictProved v → IsReportOf s name v a → IsProved a
    proved_by s name Verdict.Verified a proved is = subst IsProved (sym is) tt
    proved_by s name (Verdict.Vacuous proof) a proved is = subst IsProved (sym is) tt
    proved_by s name (Verdict.Unproved met) a proved is = absurd proved
    proved_by s name (Verdict.DependsOn g) a proved is = absurd proved

    vacuous_by : (s : PureSpec) (name : List ℕ) (v : Verdict Met) (a : PureAnswer) → IsVerdictVacuous v → IsReportOf s name v a → IsVacuous a
    vacuous_by s name Verdict.Verified a none is = absurd none
    vacuous_by s name (Verdict.Vacuous proof) a none is = subst IsVacuous (sym is) tt
    vacuous_by s name (Verdict.Unproved met) a none is = absurd none
    vacuous_by s name (Verdict.DependsOn g) a none is = absurd none

    abbrev Faultless : PureSpec → PureAnswer → Type 0
    Faultless s a = HasNoFaultUnlessCaused p memory m s a

    caused_told : (s : PureSpec) (name : List ℕ) (told : PureCause) → IsOwn told → Faultless s (unproved name told)
    caused_told s name (fails v w) own = tt
    caused_told s name (lacks lack w) own = tt
    caused_told s name (undecided_cause q) own = tt
    caused_told s name (depends g) own = absurd own

    faultless_by : (s : PureSpec) (name : List ℕ) (v : Verdict Met) (a : PureAnswer) → HasNoFaultUnlessUnproved p memory m s v → IsReportOf s name v a → Faultless s a
    faultless_by s name Verdict.Verified a none is = subst (λ (b : PureAnswer). Faultless s b) (sym is) none
    faultless_by s name (Verdict.Vacuous proof) a none is = subst (λ (b : PureAnswer). Faultless s b) (sym is) none
    faultless_by s name (Verdict.Unproved met) a none (told, (is, tells)) =
        subst (λ (b : PureAnswer). Faultless s b) (sym is) (caused_told s name told (own_told s (entry_for s met.entered) (cause_view met.cause) told tells))
    faultless_by s name (Verdict.DependsOn g) a none is = subst (λ (b : PureAnswer). Faultless s b) (sym is) none

    abbrev NoDoubt : PureSpec → PureAnswer → Type 0
    NoDoubt s a = TellsNoDoubt memory m bound p reported s a

    sure_told : (s : PureSpec) (name : List ℕ) (e : PureEntry) (met : PureMet) (told : PureCause) → IsSureCause met → IsCauseOf p memory m s bound e met → TellsCause s e met told
        → NoDoubt s (unproved name told)
    sure_told s name e met (fails v w) sure cause tells = tt
    sure_told s name e met (lacks lack w) sure cause tells = tt
    sure_told s name e met (undecided_cause q) sure cause tells = sure_asks_of_wide p memory m s bound e met q sure cause tells
    sure_told s name e met (depends g) sure cause tells = tt

    sure_by : (s : PureSpec) (name : List ℕ) (v : Verdict Met) (a : PureAnswer) → IsSureIfUnproved v → IsCauseIfUnproved p memory m bound s v → IsReportOf s name v a → NoDoubt s a
    sure_by s name Verdict.Verified a sure cause is = subst (λ (b : PureAnswer). NoDoubt s b) (sym is) tt
    sure_by s name (Verdict.Vacuous proof) a sure cause is = subst (λ (b : PureAnswer). NoDoubt s b) (sym is) tt
    sure_by s name (Verdict.Unproved met) a sure cause (told, (is, tells)) =
        subst (λ (b : PureAnswer). NoDoubt s b) (sym is) (sure_told s name (entry_for s met.entered) (cause_view met.cause) told sure cause tells)
    sure_by s name (Verdict.DependsOn g) a sure cause is = subst (λ (b : PureAnswer). NoDoubt s b) (sym is) tt

    pub right_answers : AreRightAnswers memory m keeps bound p reported
    right_answers = record {
      as_many = reports.as_many;
      each_right = λ k s a at_s at_a.
          let (x, at_x) = at_place answers p.specs k s answered.as_many at_s in
          let answer = answered.each_answered k s x at_s at_x in
          right_by s x.name x.verdict a answer.same_name (λ is. holds_at k s x at_s at_x is) answer.shows (causes.each_right k s x at_s at_x)
          (reports.each_reported k s x a at_s at_x at_a);
      refuted = λ k s a at_s at_a refutable.
          let (x, at_x) = at_place answers p.specs k s answered.as_many at_s in
          vacuous_by s x.name x.verdict a ((answered.each_answered k s x at_s at_x).refuted refutable) (reports.each_reported k s x a at_s at_x at_a);
      faultless = λ k s a at_s at_a.
          let (x, at_x) = at_place answers p.specs k s answered.as_many at_s in
          faultless_by s x.name x.verdict a (faultless.each_faultless k s x at_s at_x) (reports.each_reported k s x a at_s at_x at_a);
      contained = λ k s a at_s at_a contained alone.
          let (x, at_x) = at_place answers p.specs k s answered.as_many at_s in
          no_fault_by s x.name x.verdict a (decided.each_decided k s x at_s at_x contained alone) (causes.each_right k s x at_s at_x) (reports.each_reported k s x a at_s at_x at_a);
      plain = λ kept k s a at_s at_a plain alone.
          let (x, at_x) = at_place answers p.specs k s answered.as_many at_s in
          proved_by s x.name x.verdict a ((settled kept).each_proved k s x at_s at_x plain alone) (reports.each_reported k s x a at_s at_x at_a);
      sure = λ kept k s a at_s at_a plain.
          let (x, at_x) = at_place answers p.specs k s answered.as_many at_s in
          sure_by s x.name x.verdict a ((settled kept).each_sure k s x at_s at_x plain) (causes.each_right k s x at_s at_x) (reports.each_reported k s x a at_s at_x at_a);
    }
