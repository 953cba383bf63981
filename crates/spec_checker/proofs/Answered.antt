-- The answers to what was found out of a program's specifications.
use Rattle.std.proofs.Common.{◌≡◌, ℕ, zero, suc, List, [], ◌∷◌, map, length, slice_get, Bool, true, false, ◌||◌, Some, IsTrue, bytes_eq, refl, sym, ap, subst, ◌∙◌, true≢false, arith}
use Rattle.std.proofs.lemmas.Slice.Eq.{bytes_eq-Decides}
use Rattle.gil_syntax.specs.Programs.{find_spec}
use Rattle.gil_syntax.specs.Pure.{PureSpec, PureParts}
use Rattle.gil_syntax.specs.Valid.{IsValid, is_among}
use Rattle.gil_syntax.specs.WellMade.{is_well_made}
use Rattle.mem_model.specs.declared.keys.MemoryName.{MemoryName}
use Rattle.mem_model.specs.Actions.{Actions, IsMemory}
use Rattle.assert_logic.specs.Modes.{HasModes}
use Rattle.plain_specs.specs.Contained.{IsContained}
use Rattle.spec_answers.specs.declared.answers.Examined.{Examined}
use Rattle.spec_answers.specs.declared.answers.Finding.{Finding}
use Rattle.spec_answers.specs.declared.answers.SpecAnswer.{SpecAnswer}
use Rattle.spec_answers.specs.declared.answers.Verdict.{Verdict}
use Rattle.spec_answers.specs.Holding.{FindingHolds, Fits, AreFindings, AreTrue, AnswersAreRight}
use Rattle.spec_causes.specs.declared.meeting.Met.{Met}
use Rattle.spec_checker.specs.Answers.{Shows, IsVacuous, AnswerEach, IsCauseIfUnproved, AreCauses, HasNoFaultUnlessUnproved, AreFaultless, NoneIsCutUnlessUnproved, AreEnded, IsUsedIfDependent, AreUsed}
use Rattle.spec_checker.specs.Deciding.{IsOwn, IsSureIfUnproved}
use Rattle.spec_exploration.specs.Calls.{IsUsedByRuns}
use Rattle.spec_exploration.specs.Plain.{IsPlainSpec}
use Rattle.spec_checker.specs.Examining.{ShowsProof, IsVacuousFinding, IsCauseIfCaused, IsSureIfCaused, IsExamined, AreExamined, UsesNone, NoneIsCutUnlessCaused, NamesUsedByRuns}
use Rattle.spec_checker.proofs.Found.{found_at}
use Rattle.sym_model.specs.Lists.{Each}

at_place : {A B : Type 0} (xs : List A) (ys : List B) (k : ℕ) (y : B) → length xs ≡ length ys → slice_get ys k ≡ Some y → (x : A) × (slice_get xs k ≡ Some x)
at_place [] [] k y many is = cc
at_place [] (y ∷ ys) k z many is = absurd (omega arith)
at_place (x ∷ xs) [] k y many is = cc
at_place (x ∷ xs) (y ∷ ys) zero z many is = (x, refl)
at_place (x ∷ xs) (y ∷ ys) (suc k) z many is = at_place xs ys k z (omega arith) is

same_names : (xs : List (Examined Met)) (ss : List PureSpec) → length xs ≡ length ss
    → ((k : ℕ) (s : PureSpec) (x : Examined Met) → slice_get ss k ≡ Some s → slice_get xs k ≡ Some x → x.name ≡ s.name)
    → map (λ (x : Examined Met). x.name) xs ≡ map (λ (s : PureSpec). s.name) ss
same_names [] [] many each = refl
same_names [] (s ∷ ss) many each = absurd (omega arith)
same_names (x ∷ xs) [] many each = absurd (omega arith)
same_names (x ∷ xs) (s ∷ ss) many each =
    ap (λ n. n ∷ map (λ (y : Examined Met). y.name) xs) (each 0 s x refl refl)
    ∙ ap (λ ns. s.name ∷ ns) (same_names xs ss (omega arith) (λ k t y at_t at_y. each (suc k) t y at_t at_y))

shows_by : (answers : List (SpecAnswer Met)) (s : PureSpec) (f : Finding Met) (v : Verdict Met) → Fits answers f v → ShowsProof s f → Shows answers s v
shows_by answers s (Finding.Clean xs) Verdict.Verified fits shows = tt
shows_by answers s (Finding.Clean xs) (Verdict.Vacuous proof) fits shows = absurd fits
shows_by answers s (Finding.Clean xs) (Verdict.Unproved c) fits shows = absurd fits
shows_by answers s (Finding.Clean xs) (Verdict.DependsOn g) fits shows = fits.1
shows_by answers s (Finding.Vacuous proof) v fits shows = subst (λ (w : Verdict Met). Shows answers s w) (sym fits) shows
shows_by answers s (Finding.Caused c) v fits shows = subst (λ (w : Verdict Met). Shows answers s w) (sym fits) tt

vacuous_by : (answers : List (SpecAnswer Met)) (f : Finding Met) (v : Verdict Met) → Fits answers f v → IsVacuousFinding f → IsVacuous v
vacuous_by answers (Finding.Clean xs) v fits vacuous = absurd vacuous
vacuous_by answers (Finding.Vacuous proof) v fits vacuous = subst IsVacuous (sym fits) tt
vacuous_by answers (Finding.Caused c) v fits vacuous = absurd vacuous

faultless_by : (p : PureParts) (memory : MemoryName) (m : Actions) (answers : List (SpecAnswer Met)) (s : PureSpec) (f : Finding Met) (v : Verdict Met) → Fits answers f v
    → FindingHolds p memory m s f → HasNoFaultUnlessUnproved p memory m s v
faultless_by p memory m answers s (Finding.Clean xs) Verdict.Verified fits holds = holds.0
faultless_by p memory m answers s (Finding.Clean xs) (Verdict.Vacuous proof) fits holds = absurd fits
faultless_by p memory m answers s (Finding.Clean xs) (Verdict.Unproved c) fits holds = tt
faultless_by p memory m answers s (Finding.Clean xs) (Verdict.DependsOn g) fits holds = holds.0
faultless_by p memory m answers s (Finding.Vacuous proof) v fits holds = subst (λ (w : Verdict Met). HasNoFaultUnlessUnproved p memory m s w) (sym fits) holds.0
faultless_by p memory m answers s (Finding.Caused c) v fits holds = subst (λ (w : Verdict Met). HasNoFaultUnlessUnproved p memory m s w) (sym fits) tt

ended_by : (p : PureParts) (memory : MemoryName) (m : Actions) (most : ℕ) (answers : List (SpecAnswer Met)) (s : PureSpec) (f : Finding Met) (v : Verdict Met) → Fits answers f v
    → NoneIsCutUnlessCaused p memory m most s f → NoneIsCutUnlessUnproved p memory m most s v
ended_by p memory m most answers s (Finding.Clean xs) Verdict.Verified fits ended = ended
ended_by p memory m most answers s (Finding.Clean xs) (Verdict.Vacuous proof) fits ended = absurd fits
ended_by p memory m most answers s (Finding.Clean xs) (Verdict.Unproved c) fits ended = tt
ended_by p memory m most answers s (Finding.Clean xs) (Verdict.DependsOn g) fits ended = ended
ended_by p memory m most answers s (Finding.Vacuous proof) v fits ended = subst (λ (w : Verdict Met). NoneIsCutUnlessUnproved p memory m most s w) (sym fits) ended
ended_by p memory m most answers s (Finding.Caused c) v fits ended = subst (λ (w : Verdict Met). NoneIsCutUnlessUnproved p memory m most s w) (sym fits) tt

-- what holds of each name holds of one that is among them
each_name : (P : List ℕ → Type 0) (xs : List (List ℕ)) (g : List ℕ) → Each P xs → IsTrue (is_among xs g) → P g
each_name P [] g each among = absurd (true≢false (sym among))
each_name P (x ∷ xs) g each among = by (bytes_eq g x) refl among (λ later. each_name P xs g each.1 later)
  where
    by : (b : Bool) → bytes_eq g x ≡ b → (b || is_among xs g) ≡ true → (IsTrue (is_among xs g) → P g) → P g
    by true same is rest = subst P (sym ((bytes_eq-Decides g x).0 same)) each.0
    by false other is rest = rest is

used_by : (p : PureParts) (memory : MemoryName) (m : Actions) (most : ℕ) (answers : List (SpecAnswer Met)) (s : PureSpec) (f : Finding Met) (v : Verdict Met) → Fits answers f v
    → NamesUsedByRuns p memory m most s f → IsUsedIfDependent p memory m most s v
used_by p memory m most answers s (Finding.Clean xs) Verdict.Verified fits used = tt
used_by p memory m most answers s (Finding.Clean xs) (Verdict.Vacuous proof) fits used = tt
used_by p memory m most answers s (Finding.Clean xs) (Verdict.Unproved c) fits used = tt
used_by p memory m most answers s (Finding.Clean xs) (Verdict.DependsOn g) fits used = each_name (IsUsedByRuns p memory m s most) xs g used fits.0
used_by p memory m most answers s (Finding.Vacuous proof) v fits used = subst (λ (w : Verdict Met). IsUsedIfDependent p memory m most s w) (sym fits) tt
used_by p memory m most answers s (Finding.Caused c) v fits used = subst (λ (w : Verdict Met). IsUsedIfDependent p memory m most s w) (sym fits) tt

cause_by : (p : PureParts) (memory : MemoryName) (m : Actions) (most : ℕ) (answers : List (SpecAnswer Met)) (s : PureSpec) (f : Finding Met) (v : Verdict Met) → Fits answers f v
    → IsCauseIfCaused p memory m most s f → IsCauseIfUnproved p memory m most s v
cause_by p memory m most answers s (Finding.Clean xs) Verdict.Verified fits right = tt
cause_by p memory m most answers s (Finding.Clean xs) (Verdict.Vacuous proof) fits right = tt
cause_by p memory m most answers s (Finding.Clean xs) (Verdict.Unproved c) fits right = absurd fits
cause_by p memory m most answers s (Finding.Clean xs) (Verdict.DependsOn g) fits right = tt
cause_by p memory m most answers s (Finding.Vacuous proof) v fits right = subst (λ (w : Verdict Met). IsCauseIfUnproved p memory m most s w) (sym fits) tt
cause_by p memory m most answers s (Finding.Caused c) v fits right = subst (λ (w : Verdict Met). IsCauseIfUnproved p memory m most s w) (sym fits) right

own_by : (answers : List (SpecAnswer Met)) (f : Finding Met) (v : Verdict Met) → Fits answers f v → UsesNone f → IsOwn v
own_by answers (Finding.Clean xs) Verdict.Verified fits none = tt
own_by answers (Finding.Clean xs) (Verdict.Vacuous proof) fits none = tt
own_by answers (Finding.Clean xs) (Verdict.Unproved c) fits none = tt
own_by answers (Finding.Clean xs) (Verdict.DependsOn g) fits none = true≢false (sym (subst (λ (ys : List (List ℕ)). IsTrue (is_among ys g)) none fits.0))
own_by answers (Finding.Vacuous proof) v fits none = subst (λ (w : Verdict Met). IsOwn w) (sym fits) tt
own_by answers (Finding.Caused c) v fits none = subst (λ (w : Verdict Met). IsOwn w) (sym fits) tt

surely_by : (answers : List (SpecAnswer Met)) (f : Finding Met) (v : Verdict Met) → Fits answers f v → IsSureIfCaused f → IsSureIfUnproved v
surely_by answers (Finding.Clean xs) Verdict.Verified fits sure = tt
surely_by answers (Finding.Clean xs) (Verdict.Vacuous proof) fits sure = tt
surely_by answers (Finding.Clean xs) (Verdict.Unproved c) fits sure = absurd fits
surely_by answers (Finding.Clean xs) (Verdict.DependsOn g) fits sure = tt
surely_by answers (Finding.Vacuous proof) v fits sure = subst (λ (w : Verdict Met). IsSureIfUnproved w) (sym fits) tt
surely_by answers (Finding.Caused c) v fits sure = subst (λ (w : Verdict Met). IsSureIfUnproved w) (sym fits) sure

module _ (p : PureParts) (memory : MemoryName) (m : Actions) (keeps : Type 0) (most : ℕ) (xs : List (Examined Met)) (examined : AreExamined p memory m keeps most p.specs xs)
    (answers : List (SpecAnswer Met)) (right : AnswersAreRight xs answers) where
  pub answered_each : AnswerEach p.specs answers
  answered_each = record {
    as_many = right.as_many ∙ examined.as_many;
    each_answered = λ k s a at_s at_a.
        let (x, at_x) = at_place xs p.specs k s examined.as_many at_s in
        let is = examined.each_examined k s x at_s at_x in
        let answer = right.each_answers k x a at_x at_a in
        record {
          same_name = answer.same_name ∙ is.same_name;
          shows = shows_by answers s x.finding a.verdict answer.fits is.found.shows;
          refuted = λ refutable. vacuous_by answers x.finding a.verdict answer.fits (is.found.refuted refutable);
        };
  }

  pub answered_causes : AreCauses p memory m most answers
  answered_causes = record {
    each_right = λ k s a at_s at_a.
        let (x, at_x) = at_place xs p.specs k s examined.as_many at_s in
        let is = examined.each_examined k s x at_s at_x in
        let answer = right.each_answers k x a at_x at_a in
        cause_by p memory m most answers s x.finding a.verdict answer.fits is.found.cause;
  }

  pub answered_faultless : AreFaultless p memory m answers
  answered_faultless = record {
    each_faultless = λ k s a at_s at_a.
        let (x, at_x) = at_place xs p.specs k s examined.as_many at_s in
        faultless_by p memory m answers s x.finding a.verdict (right.each_answers k x a at_x at_a).fits (examined.each_examined k s x at_s at_x).found.holds;
  }

  pub answered_ended : AreEnded p memory m most answers
  answered_ended = record {
    each_ended = λ k s a at_s at_a.
        let (x, at_x) = at_place xs p.specs k s examined.as_many at_s in
        ended_by p memory m most answers s x.finding a.verdict (right.each_answers k x a at_x at_a).fits (examined.each_examined k s x at_s at_x).found.ended;
  }

  pub answered_used : AreUsed p memory m most answers
  answered_used = record {
    each_used = λ k s a at_s at_a.
        let (x, at_x) = at_place xs p.specs k s examined.as_many at_s in
        used_by p memory m most answers s x.finding a.verdict (right.each_answers k x a at_x at_a).fits (examined.each_examined k s x at_s at_x).found.used;
  }

  -- a contained specification depends on none
  pub answered_own : (k : ℕ) (s : PureSpec) (a : SpecAnswer Met) → slice_get p.specs k ≡ Some s → slice_get answers k ≡ Some a → IsContained p s → IsOwn a.verdict
  answered_own k s a at_s at_a contained =
      let (x, at_x) = at_place xs p.specs k s examined.as_many at_s in
      own_by answers x.finding a.verdict (right.each_answers k x a at_x at_a).fits ((examined.each_examined k s x at_s at_x).found.contained contained)

  -- a cause of a plain specification isn't that something isn't decided
  pub answered_surely : keeps → (k : ℕ) (s : PureSpec) (a : SpecAnswer Met) → slice_get p.specs k ≡ Some s → slice_get answers k ≡ Some a → IsPlainSpec p s → IsSureIfUnproved a.verdict
  answered_surely keeps k s a at_s at_a plain =
      let (x, at_x) = at_place xs p.specs k s examined.as_many at_s in
      surely_by answers x.finding a.verdict (right.each_answers k x a at_x at_a).fits ((examined.each_examined k s x at_s at_x).found.plain keeps plain)

  module _ (valid : IsValid p) where
    are_findings : AreFindings p memory m xs
    are_findings = record {
      names = same_names xs p.specs examined.as_many (λ k s x at_s at_x. (examined.each_examined k s x at_s at_x).same_name);
      holds = λ k x at_x.
          let (s, at_s) = at_place p.specs xs k x (sym examined.as_many) at_x in
          let is = examined.each_examined k s x at_s at_x in
          (s, (ap (find_spec p.specs) is.same_name ∙ found_at p valid k s at_s, is.found.holds));
    }

    pub answers_hold : is_well_made p ≡ true → HasModes p memory → IsMemory memory m → AreTrue p memory m answers
    answers_hold made modes is_memory = right.are_true p memory m made valid modes is_memory are_findings
