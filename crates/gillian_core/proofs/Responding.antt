-- The responses of outputs and of refusals.
use Rattle.std.proofs.Common.{◌≡◌, ◌≢◌, inl, inr, ℕ, List, Result, Ok, Err, IfOk, OnOk}
use Rattle.gil_text.specs.declared.refused.Refused.{Refused}
use Rattle.gil_text.specs.declared.refused.RefusedKind.TheVariants as kinds
use Rattle.gillian_words.specs.Tasks.{PureRequest}
use Rattle.gillian_core.specs.declared.rendering.Response.{Response}
use Rattle.gillian_core.specs.declared.status.Status.TheVariants.{Text}
use Rattle.gillian_core.specs.Finishing.{IsNoOutput, IsResponse}
use Rattle.gillian_core.specs.Outputs.{PureOutput, IsWritableOutput, output_status, output_text}
use Rattle.gillian_core.specs.Refusals.{refusal_line}
use Rattle.gillian_core.specs.Right.{IsRightOutput}

pub response_of_output : {E : Type 0} (q : PureRequest) (bytes : List ℕ) (o : PureOutput) (r : Result Response E) → IsRightOutput q.task bytes o
    → OnOk r (IsWritableOutput o) → IfOk r (λ x. x.status ≡ output_status o) → IfOk r (λ x. x.text.items ≡ output_text q.json o)
    → IfOk r (λ x. IsResponse q bytes x.status x.text.items)
response_of_output q bytes o (Ok x) right writable status text = inr (o, right, writable, status, text)
response_of_output q bytes o (Err e) right writable status text = tt

pub response_of_refusal : {E : Type 0} (q : PureRequest) (bytes : List ℕ) (refused : Refused) (r : Result Response E) → IsNoOutput q.task bytes refused
    → IfOk r (λ x. x.status ≡ Text) → IfOk r (λ x. x.text.items ≡ refusal_line refused) → OnOk r (refused.kind ≢ kinds.Memory)
    → IfOk r (λ x. IsResponse q bytes x.status x.text.items)
response_of_refusal q bytes refused (Ok x) none status text refusal = inl (refused, none refusal, status, text)
response_of_refusal q bytes refused (Err e) none status text refusal = tt
