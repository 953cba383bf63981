-- How a call of the program may end, and what it has then written.
use Rattle.std.specs.Prelude.{◌≡◌, ◌≤◌, ◌<◌, ℕ, List, ◌⊎◌, length, Bool, true, false, Option, IfSome, codes}
use Rattle.std.specs.Io.KnownBytes.{Appends, IsAtEnd}
use Rattle.gil_io.specs.Faults.{FaultRose}
use Rattle.gil_io.specs.Reading.{Takes}
use Rattle.gil_io.specs.Writing.{IsUsedUp, TakesPart}
use Rattle.gil_text.specs.declared.refused.Refused.{Refused}
use Rattle.gillian_words.specs.Asked.{AskFor}
use Rattle.gillian_words.specs.Tasks.{PureRequest, reads_source}
use Rattle.gillian_core.specs.declared.status.Status.{Status}
use Rattle.gillian_core.specs.declared.status.Status.TheVariants.{Good, Found, Words, Text, ReadFault, WriteFault, Memory, TooLarge}
use Rattle.gillian_core.specs.Outputs.{PureOutput, IsWritableOutput, output_status, output_text}
use Rattle.gillian_core.specs.Refusals.{IsRefusal, refusal_line}
use Rattle.gil_report.specs.Lines.{line}
use Rattle.gillian_core.specs.Right.{IsRightOutput}

-- the words ask for something
abbrev pub WordsFit : List (List ℕ) → Type 0
WordsFit words = (q : PureRequest) × AskFor words q

-- the most bytes that a source may give
abbrev pub most_bytes : ℕ
most_bytes = 1048576

-- the lines that answer words and sizes that are refused
abbrev pub usage_line : List ℕ
usage_line = line (codes "usage: gillian MODE LANG [--bound N] [--entry NAME] [--inputs LIST] [--json]")

abbrev pub refused_size : List ℕ
refused_size = line (codes "refused size")

-- ---- calls

-- a call: its words; what the source tells that it has left and its count of faults, before and after; what the sink tells
-- that it has taken and its count of faults, before and after; and its room, where it tells it
pub record Call : Type 0 where
  pub words : List (List ℕ)
  pub left : Option (List ℕ)
  pub left_after : Option (List ℕ)
  pub read_faults : ℕ
  pub read_faults_after : ℕ
  pub taken : Option (List ℕ)
  pub taken_after : Option (List ℕ)
  pub write_faults : ℕ
  pub write_faults_after : ℕ
  pub room : Option ℕ

-- the call with these words on a source and a sink, each before and after, of which this is told
module _ {S K : Type 0} (left : S → Option (List ℕ)) (read_faults : S → ℕ) (taken : K → Option (List ℕ)) (write_faults : K → ℕ)
    (room : K → Option ℕ) where
  abbrev pub call_of : List (List ℕ) → S → S → K → K → Call
  call_of words source source_after sink sink_after = record {
    words = words;
    left = left source;
    left_after = left source_after;
    read_faults = read_faults source;
    read_faults_after = read_faults source_after;
    taken = taken sink;
    taken_after = taken sink_after;
    write_faults = write_faults sink;
    write_faults_after = write_faults sink_after;
    room = room sink_after;
  }

-- The source was read to its end: the bytes that it gave are all that it had, and no more than it may have.
pub record IsRead (c : Call) : Type 0 where
  pub fit : WordsFit c.words
  pub end : IsAtEnd c.left_after
  pub within : IfSome c.left (λ bytes. length bytes ≤ most_bytes)

-- What becomes of the source: it is read to its end for what is done with its text, and is left as it was for what is done without.
abbrev pub IsReadFor : Bool → Call → Type 0
IsReadFor true c = IsRead c
IsReadFor false c = (c.left_after ≡ c.left) × (c.read_faults_after ≡ c.read_faults)

-- P holds of some bytes, which are those of the source where it tells them.
abbrev pub OfBytes : Call → (List ℕ → Type 0) → Type 0
OfBytes c P = (bytes : List ℕ) × IfSome c.left (λ left. bytes ≡ left) × P bytes

-- ---- outputs

-- The output is right for the bytes, and is what the words ask for, which is this. A report is writable.
abbrev pub IsRight : List (List ℕ) → List ℕ → PureRequest → PureOutput → Type 0
IsRight words bytes q output = AskFor words q × IsRightOutput q.task bytes output × IsWritableOutput output

-- The text isn't accepted where what the words ask for is asked, and is refused so.
abbrev pub IsRefused : List (List ℕ) → List ℕ → Refused → Type 0
IsRefused words bytes r = (q : PureRequest) × AskFor words q × IsRefusal q.task bytes r

-- ---- ends

-- an output is written
abbrev pub IsReported : Status → Type 0
IsReported status = (status ≡ Good) ⊎ (status ≡ Found)

-- The text is that of an output with this status, in the form that is asked for, which is right for the bytes and the words.
pub record Reports (c : Call) (status : Status) (text : List ℕ) : Type 0 where
  pub request : PureRequest
  pub output : PureOutput
  pub source : IsReadFor (reads_source request.task) c
  pub written : text ≡ output_text request.json output
  pub ends : status ≡ output_status output
  pub right : OfBytes c (λ bytes. IsRight c.words bytes request output)

-- The text is the refusal of the bytes for the words.
pub record Refuses (c : Call) (text : List ℕ) : Type 0 where
  pub refusal : Refused
  pub written : text ≡ refusal_line refusal
  pub right : OfBytes c (λ bytes. IsRefused c.words bytes refusal)

-- The text that a call may write with a status.
abbrev pub MayWrite : Call → Status → List ℕ → Type 0
MayWrite c Words text = (WordsFit c.words → ⊥) × (text ≡ usage_line)
MayWrite c TooLarge text = WordsFit c.words × Takes c.left c.left_after (λ gave. most_bytes < length gave) × (text ≡ refused_size)
MayWrite c Text text = IsRead c × Refuses c text
MayWrite c Good text = Reports c Good text
MayWrite c Found text = Reports c Found text
MayWrite c ReadFault text = ⊥
MayWrite c WriteFault text = ⊥
MayWrite c Memory text = ⊥

-- A call ends in one of four ways: it has written what it may with its status; the sink met a fault and took a part of
-- that, and has its room used up where it tells that; the source met a fault and nothing is written; or memory ran out and nothing is written.
pub data Ends (c : Call) : Status → Type 0 where
  written : (status : Status) (text : List ℕ) → MayWrite c status text → Appends c.taken c.taken_after text → Ends c status
  write_failed : (status : Status) (text : List ℕ) → MayWrite c status text → FaultRose c.write_faults c.write_faults_after
      → TakesPart c.taken c.taken_after text → IsUsedUp c.room c.taken_after → Ends c WriteFault
  read_failed : FaultRose c.read_faults c.read_faults_after → c.taken_after ≡ c.taken → Ends c ReadFault
  out_of_memory : c.taken_after ≡ c.taken → Ends c Memory
