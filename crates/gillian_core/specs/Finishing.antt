-- What the stages of a call leave to those before them.
use Rattle.std.specs.Prelude.{◌≡◌, ◌≢◌, ◌⊎◌, ℕ, List, Option}
use Rattle.std.specs.Io.KnownBytes.{Appends}
use Rattle.gil_io.specs.Faults.{FaultRose}
use Rattle.gil_io.specs.Writing.{IsUsedUp, TakesPart}
use Rattle.gil_syntax.specs.Pure.{PureParts}
use Rattle.gil_text.specs.declared.refused.Refused.{Refused}
use Rattle.gil_text.specs.declared.refused.RefusedKind.{RefusedKind}
use Rattle.gil_text.specs.declared.refused.RefusedKind.TheVariants as kinds
use Rattle.gillian_words.specs.Tasks.{PureTask, PureRequest}
use Rattle.gillian_core.specs.declared.status.Status.{Status}
use Rattle.gillian_core.specs.declared.status.Status.TheVariants.{Text, WriteFault, Memory}
use Rattle.gillian_core.specs.Accepted.{HasProgram, HasProgramThat, HasReadable}
use Rattle.gillian_core.specs.Definitions.{Definition}
use Rattle.gillian_core.specs.Outputs.{PureOutput, IsWritableOutput, output_status, output_text}
use Rattle.gillian_core.specs.Refusals.{IsFaultOfEntry, IsFaultOfModes, IsRefusal, refusal_line}
use Rattle.gillian_core.specs.Right.{IsRightOutput}

-- what a sink tells: what it has taken and its count of faults, before and after, and its room
pub record Told : Type 0 where
  pub taken : Option (List ℕ)
  pub taken_after : Option (List ℕ)
  pub faults : ℕ
  pub faults_after : ℕ
  pub room : Option ℕ

module _ {K : Type 0} (taken : K → Option (List ℕ)) (faults : K → ℕ) (room : K → Option ℕ) where
  abbrev pub told : K → K → Told
  told sink sink_after = record {
    taken = taken sink;
    taken_after = taken sink_after;
    faults = faults sink;
    faults_after = faults sink_after;
    room = room sink_after;
  }

-- The text is written and the status given; or the sink met a fault and took a part, and its room is used up where it tells that.
abbrev pub Finishes : Told → List ℕ → Status → Status → Type 0
Finishes k text status result =
    ((result ≡ status) × Appends k.taken k.taken_after text)
    ⊎ ((result ≡ WriteFault) × FaultRose k.faults k.faults_after × TakesPart k.taken k.taken_after text × IsUsedUp k.room k.taken_after)

-- The text isn't what is looked for, and this is the first fault that applies. Want of memory says nothing.
pub record IsCause (looked_for : Type 0) (IsFault : ℕ → RefusedKind → Type 0) (r : Refused) : Type 0 where
  pub never : r.kind ≢ kinds.Memory → looked_for → ⊥
  pub fault : r.kind ≢ kinds.Memory → IsFault r.at r.kind

-- why there is no program, why there is none with the entry that is wanted, and why there is none whose assertions can be read
abbrev pub IsNoProgram : Definition → List ℕ → Refused → Type 0
IsNoProgram d bytes r = IsCause (HasProgram d bytes) (d.IsFault bytes) r

abbrev pub IsNoEntry : Definition → (PureParts → Type 0) → List ℕ → Refused → Type 0
IsNoEntry d IsWanted bytes r = IsCause (HasProgramThat d IsWanted bytes) (IsFaultOfEntry d IsWanted bytes) r

abbrev pub IsNoReadable : Definition → List ℕ → Refused → Type 0
IsNoReadable d bytes r = IsCause (HasReadable d bytes) (IsFaultOfModes d bytes) r

-- why there is no output: the text is refused so; want of memory says nothing
abbrev pub IsNoOutput : PureTask → List ℕ → Refused → Type 0
IsNoOutput t bytes r = r.kind ≢ kinds.Memory → IsRefusal t bytes r

-- the text and the status of a right output that is writable, in the form that is asked for, or of the refusal of the text
abbrev pub IsResponse : PureRequest → List ℕ → Status → List ℕ → Type 0
IsResponse q bytes status text =
    ((r : Refused) × IsRefusal q.task bytes r × (status ≡ Text) × (text ≡ refusal_line r))
    ⊎ ((o : PureOutput) × IsRightOutput q.task bytes o × IsWritableOutput o × (status ≡ output_status o) × (text ≡ output_text q.json o))

-- The response is finished, or memory ran out before anything was written.
abbrev pub Answers : PureRequest → List ℕ → Told → Status → Type 0
Answers q bytes k result =
    ((result ≡ Memory) × (k.taken_after ≡ k.taken))
    ⊎ ((status : Status) × (text : List ℕ) × IsResponse q bytes status text × Finishes k text status result)
