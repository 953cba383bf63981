-- The ends by which a path fails: a failure, and a throw that nothing catches.
use Rattle.std.proofs.Common.{◌≡◌, List, [], ◌∷◌, Bool, true, false, Some, refl}
use Rattle.gil_values.specs.declared.places.Place.{Place}
use Rattle.gil_values.specs.Pure.{PureValue}
use Rattle.gil_syntax.specs.Pure.{PureParts}
use Rattle.gil_machine.specs.State.{State, Ending, IsOver, told}
use Rattle.gil_machine.specs.State as machine
use Rattle.mem_model.specs.Actions.{Actions}
use Rattle.pure_terms.specs.Meaning.{value}
use Rattle.pure_terms.specs.Pure.{PureTerm}
use Rattle.sym_paths.specs.Meaning.{EndsAt, IsEnding, end_terms}
use Rattle.sym_paths.specs.Pure.{PureEnd, returned, failed, threw, missed, vanished, cut, unknown}
use Rattle.sym_paths.specs.Steps.{IsUnknown}
use Rattle.sym_test.specs.Bugs.{failure, FailsWith}

abbrev pub is_cut : PureEnd → Bool
is_cut cut = true
is_cut (returned t) = false
is_cut (failed t place) = false
is_cut (threw t place) = false
is_cut (missed k place) = false
is_cut vanished = false
is_cut (unknown place reason) = false

pub failure_no_cut : (thrown : Bool) (t : PureTerm) (place : Place) → is_cut (failure thrown t place) ≡ false
failure_no_cut true t place = refl
failure_no_cut false t place = refl

pub failure_known : (thrown : Bool) (t : PureTerm) (place : Place) → ¬ IsUnknown (Some (failure thrown t place))
failure_known true t place holds = holds
failure_known false t place holds = holds

pub failure_there : (thrown : Bool) (t : PureTerm) (place : Place) → EndsAt place (failure thrown t place)
failure_there true t place = refl
failure_there false t place = refl

pub failure_terms : (thrown : Bool) (t : PureTerm) (place : Place) → end_terms (Some (failure thrown t place)) ≡ t ∷ []
failure_terms true t place = refl
failure_terms false t place = refl

pub failure_value : (thrown : Bool) (v : List PureValue) (t : PureTerm) (place : Place) (w : PureValue) → FailsWith v (failure thrown t place) w → value v t ≡ Some w
failure_value true v t place w is = is
failure_value false v t place w is = is

-- a run along the path fails with the value of the term
pub failure_ends : (thrown : Bool) (p : PureParts) (m : Actions) (v : List PureValue) (s : State) (t : PureTerm) (place : Place) (e : Ending) → IsEnding p m v s (failure thrown t place) e → (w : PureValue) × ((value v t ≡ Some w) × (told e ≡ machine.failed w place))
failure_ends true p m v s t place e (w, (val, is)) = (w, (val, λ i. told (is i)))
failure_ends false p m v s t place e (w, (val, none, is)) = (w, (val, λ i. told (is i)))

pub cut_is_no_failure_end : (thrown : Bool) (t : PureTerm) (place : Place) → Some cut ≡ Some (failure thrown t place) → {X : Type 0} → X
cut_is_no_failure_end true t place unlike = cc
cut_is_no_failure_end false t place unlike = cc

cut_unlike : (w : PureValue) (place : Place) → machine.cut ≡ machine.failed w place → ⊥
cut_unlike w place unlike = cc

-- an end that is taken for a failure is over
pub over_where_failed : (e : Ending) (w : PureValue) (place : Place) → told e ≡ machine.failed w place → IsOver e
over_where_failed machine.cut w place is = cut_unlike w place is
over_where_failed (machine.returned v) w place is = tt
over_where_failed (machine.failed v at) w place is = tt
over_where_failed (machine.threw v at) w place is = tt
over_where_failed machine.vanished w place is = tt
over_where_failed (machine.no_input k) w place is = tt
over_where_failed (machine.bad_input k) w place is = tt
