-- Languages whose texts are sources that are compiled.
use Rattle.std.specs.Prelude.{◌≡◌, ◌≢◌, ◌⊎◌, ℕ, List, Option, Some, None}
use Rattle.gil_values.specs.Pure.{PureValue}
use Rattle.gil_syntax.specs.Pure.{PureParts}
use Rattle.gil_machine.specs.State.{End}
use Rattle.gil_text.specs.declared.refused.Refused.{Refused}
use Rattle.gil_text.specs.declared.refused.RefusedKind.{RefusedKind}
use Rattle.gil_text.specs.declared.refused.RefusedKind.TheVariants as kinds
use Rattle.source_language.specs.declared.limits.TooMany.{TooMany}
use Rattle.gillian_core.specs.Definitions.{Definition, Memory}
use Rattle.gillian_core.specs.Ends.{IsEndOf}
use Rattle.gil_report.specs.Pure.{PureAnswer}

pub record SourceLanguage : Type 1 where
  pub Source : Type 0
  -- the bytes are a text of this source
  pub Spells : List ℕ → Source → Type 0
  -- the source has no fault
  pub IsValid : Source → Type 0
  -- the byte at which the first function begins that gives more than 1,000 commands
  pub first_too_long : Source → Option ℕ
  -- the first fault of the bytes, the length of functions left aside
  pub IsRefusedFor : List ℕ → ℕ → RefusedKind → Type 0
  pub compiled : Source → PureParts
  -- the end of an entry on inputs with some number of turns and calls, by the meaning of the source's statements, from the empty heap
  -- and the counter 0
  pub end_within : Source → List ℕ → List PureValue → ℕ → Option End
  -- source and program have the same ends
  pub HasSameEnds : Source → PureParts → Type 0
  pub memory : Memory

module _ (l : SourceLanguage) where
  -- The bytes are a text of a source without a fault, no function of which gives more than 1,000 commands, and it is compiled to this
  -- program.
  pub record IsSourceOf (bytes : List ℕ) (p : PureParts) : Type 0 where
    pub source : l.Source
    pub spelled : l.Spells bytes source
    pub valid : l.IsValid source
    pub short : l.first_too_long source ≡ None
    pub program : l.compiled source ≡ p

  -- the bytes are a text of a source without a fault, and its first function that gives more than 1,000 commands begins at this byte
  abbrev pub IsTooLong : List ℕ → ℕ → Type 0
  IsTooLong bytes at = (s : l.Source) × l.Spells bytes s × l.IsValid s × (l.first_too_long s ≡ Some at)

  abbrev pub IsSourceFault : List ℕ → ℕ → RefusedKind → Type 0
  IsSourceFault bytes at kind =
      ((kind ≢ kinds.Memory) × l.IsRefusedFor bytes at kind) ⊎ ((kind ≡ kinds.Limit) × IsTooLong bytes at)

  abbrev pub KeepsEnds : List ℕ → PureParts → Type 0
  KeepsEnds bytes p = (s : l.Source) × l.Spells bytes s × l.HasSameEnds s p

  abbrev pub IsMeantBySource : List ℕ → List ℕ → List PureValue → PureAnswer → Type 0
  IsMeantBySource bytes entry inputs answer = (s : l.Source) × l.Spells bytes s × IsEndOf (l.end_within s entry inputs) answer

  abbrev pub definition_by_source : Definition
  definition_by_source = record {
    IsText = IsSourceOf;
    IsFault = IsSourceFault;
    KeepsEnds = KeepsEnds;
    IsMeant = IsMeantBySource;
    memory = l.memory;
  }

-- what a function of too many commands is refused as; want of memory is told as such
abbrev pub limit_refusal : TooMany → Refused
limit_refusal (TooMany.Limit at) = record { at = at; kind = kinds.Limit }
limit_refusal TooMany.Memory = record { at = 0; kind = kinds.Memory }
