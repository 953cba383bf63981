-- Values have decidable equality, so that what a rule keeps of its answers is a fact with one proof at most.
use Rattle.std.specs.Prelude.{◌≡◌, Bool, true, false, Option, Some, None, refl}
use Rattle.std.specs.Bool.{Decides}
use Rattle.std.proofs.Common.{ap, ◌∙◌, sym}
use Rattle.std.proofs.lemmas.Bool.{false≢true}
use mathlib.Core.HLevel.{Discrete, hedberg}
use Rattle.gil_values.specs.Equality.{same_value}
use Rattle.gil_values.specs.EqualityLaws.{same_value-Decides}
use Rattle.gil_values.specs.Pure.{PureValue}

same_by : (v w : PureValue) (b : Bool) → same_value v w ≡ b → Decides (same_value v w) (v ≡ w) → Dec (v ≡ w)
same_by v w true is decides = yes (decides.0 is)
same_by v w false is decides = no (λ e. false≢true (sym is ∙ decides.1 e))

same_some : (v w : PureValue) → Dec (v ≡ w) → Dec (Some v ≡ Some w)
same_some v w (yes e) = yes (ap Some e)
same_some v w (no ne) = no (λ e. ne (cc))

value-discrete : Discrete (Option PureValue)
value-discrete (Some v) (Some w) = same_some v w (same_by v w (same_value v w) refl (same_value-Decides v w))
value-discrete None None = yes refl
value-discrete (Some v) None = no (λ e. cc)
value-discrete None (Some w) = no (λ e. cc)

pub value-set : IsSet (Option PureValue)
value-set = hedberg value-discrete
