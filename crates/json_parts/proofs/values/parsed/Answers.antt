use Rattle.std.proofs.Common.{◌∙◌, ap, sym}
use Rattle.serde_json.specs.Errors.{IsMemory}
use Rattle.serde_json.specs.Read.{read}
use Rattle.json_parts.proofs.Again.{kept_again, kept_fails}
use Rattle.json_parts.proofs.values.parsed.Goals as goal

pub returns-in-Ok-clause-again : goal.returns-in-Ok-clause-again
returns-in-Ok-clause-again c = λ d kept is. sym (kept_again d kept).1 ∙ ap read (sym is) ∙ c.in-Ok.ensures.ok.1

pub returns-in-Err-clause-again : goal.returns-in-Err-clause-again
returns-in-Err-clause-again c = λ d kept is.
    kept_fails c.fault_of.result (IsMemory c.in-Err.error) c.args.text.now d c.fault_of.ensures c.in-Err.ensures.err kept is
