use Rattle.std.proofs.Common.{◌≡◌, ℕ, zero, suc, Bool, true, false, cond, codes, Some, None, refl, sym, subst, ◌∙◌, true≢false}
use Rattle.std.specs.Str.{bytes_eq}
use Rattle.gil_syntax.specs.declared.validity.InvalidKind.{InvalidKind}
use Rattle.gil_syntax.specs.declared.validity.InvalidKind.TheVariants.{Duplicate, BadLabel, NoEnd, UnknownName, Arity, TooMany, Memory}
use Rattle.gil_syntax.specs.Pure.{PureSpec}
use Rattle.gil_syntax.specs.Valid.{fault_at, IsValid}
use Rattle.mem_model.specs.declared.keys.MemoryName.TheVariants.{Record}
use Rattle.mem_model.specs.Actions.{no_memory}
use Rattle.mem_model.specs.NoMemory.{no_memory_is_one}
use Rattle.assert_logic.specs.declared.checking.ModeItem.TheVariants.{Spec, Pred, Proc}
use Rattle.assert_logic.specs.Modes.{HasModes}
use Rattle.checked_runs.specs.Checked.{HasNoFault}
use Rattle.checked_runs.specs.Laws.{IsChosen}
use Rattle.checked_runs.specs.Programs.{asks_itself, says_zero}
use Rattle.checked_runs.proofs.Cycles.{cycle_has_no_fault}
use Rattle.checked_runs.proofs.FrameTheorem.{verified_specifications_hold}
use Rattle.checked_runs.proofs.Stores.{same_some, no_value}
use Rattle.checked_runs.proofs.programs.what_is_verified_holds.Goals as goal

-- neither the procedure nor the specification has a fault, and there is no further item
sound : (i : ℕ) (kind : InvalidKind) → fault_at asks_itself kind i ≡ false
sound zero Duplicate = refl
sound zero BadLabel = refl
sound zero NoEnd = refl
sound zero UnknownName = refl
sound zero Arity = refl
sound zero TooMany = refl
sound zero Memory = refl
sound (suc zero) Duplicate = refl
sound (suc zero) BadLabel = refl
sound (suc zero) NoEnd = refl
sound (suc zero) UnknownName = refl
sound (suc zero) Arity = refl
sound (suc zero) TooMany = refl
sound (suc zero) Memory = refl
sound (suc (suc i)) kind = refl

valid : IsValid asks_itself
valid kind i is = true≢false (sym is ∙ sound i kind)

modes : HasModes asks_itself Record
modes (Spec zero) = refl
modes (Spec (suc i)) = refl
modes (Pred i) = refl
modes (Proc zero) = refl
modes (Proc (suc i)) = refl

only_one : (s : PureSpec) → IsChosen asks_itself (λ f. true) s → s ≡ says_zero
only_one s is = by (bytes_eq (codes "f") s.name) is.found
  where
    by : (b : Bool) → cond b (Some says_zero) None ≡ Some s → s ≡ says_zero
    by true found = sym (same_some found)
    by false found = no_value s found

pub returns : goal.returns
returns c =
    verified_specifications_hold asks_itself Record no_memory (λ f. true) refl valid modes (no_memory_is_one Record) (record {
      no_fault = λ s is. subst (HasNoFault asks_itself Record no_memory) (sym (only_one s is)) cycle_has_no_fault;
      uses_only = λ s is args variables k d used reached uses. refl;
    }) says_zero (record { found = refl; is_chosen = refl })
