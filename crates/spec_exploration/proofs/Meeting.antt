-- The cause that was found, with a valuation that is shown, beside the terms of the entry.
use Rattle.std.proofs.Common.{ℕ, Option, Some, None, IfSome, IfNone, refl, sym, subst}
use Rattle.gil_syntax.specs.Pure.{PureParts, PureSpec}
use Rattle.mem_model.specs.declared.keys.MemoryName.{MemoryName}
use Rattle.mem_model.specs.Actions.{Actions}
use Rattle.checked_paths.specs.Causes.{cause_view, shown_in}
use Rattle.checked_paths.specs.declared.checking.Entered.{Entered}
use Rattle.checked_paths.specs.declared.nexts.Cause.{Cause}
use Rattle.checked_paths.specs.Pure.{PureEntry}
use Rattle.spec_causes.specs.Causes.{IsCauseOf, entry_for}
use Rattle.spec_causes.specs.declared.meeting.Met.{Met}
use Rattle.spec_causes.specs.Reaching.{IsFoundCause, IsKnown}
use Rattle.spec_causes.proofs.Shown.{cause_shown}
use Rattle.spec_exploration.specs.Exploring.{IsMetOf}

pub met_none : (cause : Option Cause) (entered : Entered) (o : Option Met) (P : Type 0) → IsMetOf cause entered o → IfNone cause P → IfNone o P
met_none (Some c) entered (Some x) P is holds = tt
met_none (Some c) entered None P is holds = absurd is
met_none None entered (Some x) P is holds = absurd is
met_none None entered None P is holds = holds

module _ (p : PureParts) (memory : MemoryName) (m : Actions) (most : ℕ) where
  pub found_known : (e : PureEntry) (cause : Option Cause) → IfSome cause (λ c. IsFoundCause p memory m e most (cause_view c)) → IfSome cause (λ c. IsKnown (shown_in (cause_view c)))
  found_known e (Some c) found = found.known
  found_known e None found = tt

  module _ (spec : PureSpec) (entered : Entered) where
    pub met_right : (cause : Option Cause) (o : Option Met) → IsMetOf cause entered o → IfSome cause (λ c. IsFoundCause p memory m (entry_for spec entered) most (cause_view c))
        → IfSome o (λ x. IsCauseOf p memory m spec most (entry_for spec x.entered) (cause_view x.cause))
    met_right (Some c) (Some x) (same, shown) found =
        subst (λ t. IsCauseOf p memory m spec most (entry_for spec t) (cause_view x.cause)) (sym same)
        (cause_shown p memory m (entry_for spec entered) most spec refl (cause_view c) (cause_view x.cause) found shown)
    met_right (Some c) None is found = absurd is
    met_right None (Some x) is found = absurd is
    met_right None None is found = tt
