-- What is found out of specifications, one after another.
use Rattle.std.proofs.Common.{◌≡◌, ◌⊎◌, inl, inr, ⊎_elim, ℕ, zero, suc, ◌+◌, ◌≤◌, List, [], ◌∷◌, ◌++◌, length, slice_get, Option, Some, None, IfNone, IfSome, refl, sym, ap, subst, ◌∙◌, arith, length-append}
use Rattle.gil_values.specs.Pure.{PureValue}
use Rattle.gil_syntax.specs.Evaluation.{Store}
use Rattle.gil_syntax.specs.Pure.{PureSpec, PureParts}
use Rattle.gil_syntax.specs.Valid.{is_among}
use Rattle.mem_model.specs.declared.keys.MemoryName.{MemoryName}
use Rattle.mem_model.specs.Actions.{Actions}
use Rattle.checked_paths.specs.Causes.{cause_view}
use Rattle.checked_paths.specs.Plainly.{IsSureCause}
use Rattle.checked_runs.specs.Checked.{Checked, HasNoFault, IsReachedIn, UsesOnly}
use Rattle.plain_specs.specs.Contained.{IsContained}
use Rattle.solver_proof.specs.declared.proofs.Proof.{Proof}
use Rattle.solver_proof.specs.Closing.{Closes}
use Rattle.solver_proof.specs.Refuting.{RefutesRightly}
use Rattle.solver_proof.specs.View.{proof_view}
use Rattle.spec_answers.specs.declared.answers.Examined.{Examined}
use Rattle.spec_answers.specs.declared.answers.Finding.{Finding}
use Rattle.spec_causes.specs.Causes.{IsCauseOf, entry_for}
use Rattle.spec_causes.specs.declared.meeting.Met.{Met}
use Rattle.spec_exploration.specs.Calls.{IsUsedByRuns}
use Rattle.spec_exploration.specs.Ending.{NoneIsCut}
use Rattle.spec_exploration.specs.Plain.{IsPlainSpec}
use Rattle.spec_checker.specs.Examining.{finding_by, IsRefutable, IsFound, IsExamined, AreExamined}
use Rattle.spec_vacuity.specs.Translation.{precondition_table, precondition_atoms}
use Rattle.spec_vacuity.specs.Vacuity.{HasNoStart, VacuousSpecificationsHaveNoRun}
use Rattle.sym_model.specs.Lists.{Each}

same_some : {A : Type 0} {x y : A} → Some x ≡ Some y → x ≡ y
same_some is = cc

-- what a refuter gives no proof of can't be refuted
not_refutable : (s : PureSpec) → RefutesRightly (precondition_table s) (precondition_atoms s) None → IsRefutable s → ⊥
not_refutable s (inl outside) refutable = outside refutable.inside
not_refutable s (inr (v, satisfies)) refutable = refutable.unsatisfiable v satisfies

-- where no run begins, none is under way
none_begun : (p : PureParts) (memory : MemoryName) (m : Actions) (s : PureSpec) → HasNoStart s → (args : List PureValue) (variables : Store) (n : ℕ) (c : Checked)
    → ¬ IsReachedIn p memory m (record { spec = s; args = args; variables = variables }) n c
none_begun p memory m s none args variables zero c is = none p memory m args variables c is
none_begun p memory m s none args variables (suc n) c (before, (there, leads)) = none_begun p memory m s none args variables n before there

module _ (p : PureParts) (memory : MemoryName) (m : Actions) (keeps : Type 0) (most : ℕ) (s : PureSpec) where
  pub vacuous_found : VacuousSpecificationsHaveNoRun → (proof : Proof) → HasNoStart s → Closes (precondition_table s) (precondition_atoms s) (proof_view proof)
      → IsFound p memory m keeps most s (Finding.Vacuous proof)
  vacuous_found law proof none closes = let run = law s none p memory m in record { holds = (run.0, run.1 (is_among [])); shows = closes; refuted = λ refutable. tt; cause = tt; ended = λ args variables c. none_begun p memory m s none args variables most c; used = tt; contained = λ inside. tt; plain = λ keeps plain. tt }

  pub explored_found : RefutesRightly (precondition_table s) (precondition_atoms s) None → (cause : Option Met) (uses : List (List ℕ)) (finding : Finding Met) → finding ≡ finding_by cause uses
      → IfNone cause (HasNoFault p memory m s × UsesOnly p memory m (is_among uses) s) → IfSome cause (λ met. IsCauseOf p memory m s most (entry_for s met.entered) (cause_view met.cause))
      → IfNone cause (NoneIsCut p memory m most s) → Each (IsUsedByRuns p memory m s most) uses
      → (IsContained p s → uses ≡ []) → (keeps → IsPlainSpec p s → IfSome cause (λ met. IsSureCause (cause_view met.cause))) → IsFound p memory m keeps most s finding
  explored_found rightly (Some met) uses finding is none right ended used no_uses sure =
      subst (λ (f : Finding Met). IsFound p memory m keeps most s f) (sym is)
      (record { holds = tt; shows = tt; refuted = λ refutable. absurd (not_refutable s rightly refutable); cause = right; ended = tt; used = tt; contained = λ inside. tt; plain = sure })
  explored_found rightly None uses finding is holds none ended used no_uses sure =
      subst (λ (f : Finding Met). IsFound p memory m keeps most s f) (sym is)
      (record { holds = holds; shows = tt; refuted = λ refutable. absurd (not_refutable s rightly refutable); cause = tt; ended = ended; used = used; contained = no_uses; plain = λ keeps plain. tt })

-- the last of a list, or one before it
last_or_before : {A : Type 0} (xs : List A) (x : A) (k : ℕ) (y : A) → slice_get (xs ++ x ∷ []) k ≡ Some y
    → (slice_get xs k ≡ Some y) ⊎ ((k ≡ length xs) × (x ≡ y))
last_or_before [] x zero y at = inr (refl, same_some at)
last_or_before [] x (suc k) y at = cc
last_or_before (z ∷ zs) x zero y at = inl at
last_or_before (z ∷ zs) x (suc k) y at = ⊎_elim (λ before. inl before) (λ (last, same). inr (ap suc last, same)) (last_or_before zs x k y at)

module _ (p : PureParts) (memory : MemoryName) (m : Actions) (keeps : Type 0) (most : ℕ) (ss : List PureSpec) where
  -- the specifications before a place were examined
  pub record ExaminedUntil (place : ℕ) (xs : List (Examined Met)) : Type 0 where
    pub as_many : length xs ≡ place
    pub each_examined : (k : ℕ) (s : PureSpec) (x : Examined Met) → slice_get ss k ≡ Some s → slice_get xs k ≡ Some x → IsExamined p memory m keeps most s x

  pub examined_none : ExaminedUntil 0 []
  examined_none = record { as_many = refl; each_examined = λ k s x at_s at_x. cc }

  pub examined_more : (place : ℕ) (xs ys : List (Examined Met)) (x : Examined Met) (s : PureSpec) → ExaminedUntil place xs → slice_get ss place ≡ Some s
      → IsExamined p memory m keeps most s x → ys ≡ xs ++ x ∷ [] → ExaminedUntil (place + 1) ys
  examined_more place xs ys x s until at is grown =
      let many : length xs ≡ place = until.as_many in
      let longer : length ys ≡ length xs + 1 = ap length grown ∙ length-append xs (x ∷ []) in
      record {
        as_many = omega (arith, many, longer);
        each_examined = λ k t y at_t at_y.
            ⊎_elim (λ (before : slice_get xs k ≡ Some y). until.each_examined k t y at_t before)
            (λ ((last, same) : (k ≡ length xs) × (x ≡ y)).
            let same_spec : s ≡ t = same_some (sym at ∙ ap (slice_get ss) (sym (last ∙ many)) ∙ at_t) in
            subst (λ (r : PureSpec). IsExamined p memory m keeps most r y) same_spec (subst (λ (z : Examined Met). IsExamined p memory m keeps most s z) same is))
            (last_or_before xs x k y (ap (λ (zs : List (Examined Met)). slice_get zs k) (sym grown) ∙ at_y));
      }

  pub examined_all : (place : ℕ) (xs : List (Examined Met)) → place ≡ length ss → ExaminedUntil place xs → AreExamined p memory m keeps most ss xs
  examined_all place xs all until = record { as_many = until.as_many ∙ all; each_examined = until.each_examined }
