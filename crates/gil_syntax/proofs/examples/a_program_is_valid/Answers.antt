use Rattle.std.proofs.Common.{◌≡◌, ℕ, zero, suc, false, refl, sym, ◌∙◌, true≢false}
use Rattle.gil_syntax.specs.declared.validity.InvalidKind.{InvalidKind}
use Rattle.gil_syntax.specs.declared.validity.InvalidKind.TheVariants.{Duplicate, BadLabel, NoEnd, UnknownName, Arity, TooMany, Memory}
use Rattle.gil_syntax.specs.Valid.{fault_at}
use Rattle.gil_syntax.specs.Examples.{compares_input}
use Rattle.gil_syntax.proofs.examples.a_program_is_valid.Goals as goal

no_fault : (kind : InvalidKind) (i : ℕ) → fault_at compares_input kind i ≡ false
no_fault Duplicate zero = refl
no_fault BadLabel zero = refl
no_fault NoEnd zero = refl
no_fault UnknownName zero = refl
no_fault Arity zero = refl
no_fault TooMany zero = refl
no_fault Memory zero = refl
no_fault kind (suc i) = refl

pub returns : goal.returns
returns c kind i at = true≢false (sym at ∙ no_fault kind i)
