-- Reports are read again from their JSON text.
use Rattle.std.proofs.Common.{◌≡◌, ◌==◌, ◌⊎◌, inl, inr, IfOk, ℕ, true, false, List, Some, Result, Ok, Err, refl, sym, ap, ◌∙◌}
use Rattle.std.proofs.lemmas.Option.{same_Some}
use Rattle.gil_lexer.specs.Bytes.{begins}
use Rattle.value_text.specs.declared.faults.ReadFault.{ReadFault}
use Rattle.value_text.specs.declared.faults.ReadFault.TheVariants as faults
use Rattle.value_text.specs.Reading.{Fails, Gives}
use Rattle.serde_json.specs.Data.{Data}
use Rattle.gil_report.specs.declared.heads.Head.{Head}
use Rattle.gil_report.specs.declared.reports.Report.{Report}
use Rattle.gil_report.specs.Json.{report_data, report_json}
use Rattle.gil_report.specs.Lines.{report_text}
use Rattle.gil_report.specs.Pure.{PureReport}
use Rattle.gil_report.specs.View.{report_view}
use Rattle.json_parts.specs.Lines as put
use Rattle.report_json.proofs.LinesAgain.{lines_again}

-- what fails on some result fails on any
pub fails_alike : {X Y : Type 0} (fault : ReadFault) (x : X) (y : Y) → Fails fault (Some x) → Fails fault (Some y)
fails_alike faults.Memory x y fails = tt
fails_alike faults.Form x y fails = absurd (cc fails)

-- the lines that are put together from what was read
pub lines_from : {X : Type 0} (see : X → List ℕ) (result : Result X ReadFault) (d : Data) (r : PureReport) → Some (report_data r) ≡ Some d
    → Gives see result (put.lines d) → Gives see result (Some (report_text r))
lines_from see (Ok x) d r is gives = sym (lines_again r) ∙ ap put.lines (same_Some (report_data r) d is) ∙ gives
lines_from see (Err faults.Memory) d r is gives = tt
lines_from see (Err faults.Form) d r is gives = sym (lines_again r) ∙ ap put.lines (same_Some (report_data r) d is) ∙ gives

-- a JSON text that differs from the bytes is that of another report
pub other_again : (bytes text : List ℕ) (seen r : PureReport) → Some r ≡ Some seen → text ≡ report_json seen → (text ≡ bytes → ⊥) → bytes ≡ report_json r → ⊥
other_again bytes text seen r same printed other is = other (printed ∙ ap report_json (sym (same_Some r seen same)) ∙ sym is)

-- the two forms begin with other bytes
pub lines_begin : (r : PureReport) → begins (λ b. b == 123) (report_text r) ≡ false
lines_begin r = begin r.head
  where
    begin : (head : Head) → begins (λ b. b == 123) (report_text (record r { head = head })) ≡ false
    begin (Head.Entry mode language entry bound) = refl
    begin (Head.Check language bound) = refl
    begin Head.Solve = refl
    begin (Head.Sweep size) = refl

pub json_begins : (r : PureReport) → begins (λ b. b == 123) (report_json r) ≡ true
json_begins r = begin r.head
  where
    begin : (head : Head) → begins (λ b. b == 123) (report_json (record r { head = head })) ≡ true
    begin (Head.Entry mode language entry bound) = refl
    begin (Head.Check language bound) = refl
    begin Head.Solve = refl
    begin (Head.Sweep size) = refl

pub or_json : (result : Result Report ReadFault) (bytes : List ℕ) → IfOk result (λ report. bytes ≡ report_json (report_view report))
    → IfOk result (λ report. (bytes ≡ report_text (report_view report)) ⊎ (bytes ≡ report_json (report_view report)))
or_json (Ok report) bytes is = inr is
or_json (Err fault) bytes is = tt

pub or_lines : (result : Result Report ReadFault) (bytes : List ℕ) → IfOk result (λ report. bytes ≡ report_text (report_view report))
    → IfOk result (λ report. (bytes ≡ report_text (report_view report)) ⊎ (bytes ≡ report_json (report_view report)))
or_lines (Ok report) bytes is = inl is
or_lines (Err fault) bytes is = tt
