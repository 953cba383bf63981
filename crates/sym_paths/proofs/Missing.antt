-- Where no choice is made, nothing is missed.
use Rattle.std.proofs.Common.{◌≡◌, Option, Some, None, refl, sym, ap}
use Rattle.std.specs.Option.{option_and_then, option_map}
use Rattle.gil_syntax.specs.Pure.{PureCommand, assign, call, act, usym, isym, ifgoto, return, fail, throw, vanish, fold_use, unfold_use, assert_that, loop_invariant, PureNumberedCommand, PureParts}
use Rattle.gil_machine.specs.Choices.{choice_at, choice_of, missed_key, miss_at, outcome_choice, result_of}
use Rattle.gil_machine.specs.State.{State}
use Rattle.gil_machine.specs.Step.{command_at}
use Rattle.mem_model.specs.Actions.{Actions, ActionResult}
use Rattle.sym_model.proofs.ListLaws.{not_none}

none_before : {A B : Type 0} (f : A → B) (o : Option A) → option_map f o ≡ None → o ≡ None
none_before f None is = refl
none_before f (Some a) is = not_none (sym is)

module _ (p : PureParts) (m : Actions) where
  no_result : (k : PureCommand) (s : State) → choice_of p m k s ≡ None → result_of p m k s ≡ None
  no_result (act x a es) s is = none_before (λ (r : ActionResult). outcome_choice r.outcome) (result_of p m (act x a es) s) is
  no_result (assign x e) s is = refl
  no_result (call x e es handler) s is = refl
  no_result (usym x) s is = refl
  no_result (isym x k) s is = refl
  no_result (ifgoto e i) s is = refl
  no_result (return e) s is = refl
  no_result (fail e) s is = refl
  no_result (throw e) s is = refl
  no_result vanish s is = refl
  no_result (fold_use u) s is = refl
  no_result (unfold_use u) s is = refl
  no_result (assert_that items) s is = refl
  no_result (loop_invariant xs ps items) s is = refl

  no_miss : (o : Option PureNumberedCommand) (s : State) → option_and_then (λ (c : PureNumberedCommand). choice_of p m c.command s) o ≡ None
      → option_and_then (λ (r : ActionResult). missed_key r.outcome) (option_and_then (λ (c : PureNumberedCommand). result_of p m c.command s) o) ≡ None
  no_miss None s is = refl
  no_miss (Some c) s is = ap (option_and_then (λ (r : ActionResult). missed_key r.outcome)) (no_result c.command s is)

  pub misses_nothing : (s : State) → choice_at p m s ≡ None → miss_at p m s ≡ None
  misses_nothing s is = no_miss (command_at p s.current) s is
