-- GIL, over any memory.
use Rattle.std.specs.Prelude.{◌≢◌, ℕ, List}
use Rattle.gil_syntax.specs.Pure.{PureParts}
use Rattle.gil_syntax.specs.Valid.{IsValid}
use Rattle.gil_grammar.specs.Texts.{SpellProgram}
use Rattle.gil_text.specs.declared.refused.RefusedKind.TheVariants as kinds
use Rattle.gil_text.specs.Refusals.{IsRefusedFor}
use Rattle.gillian_core.specs.Definitions.{Definition, Memory}
use Rattle.gillian_core.specs.Memories.{record_memory, block_memory, object_memory}

-- the bytes are a text of this program, which is valid
pub record IsTextOf (bytes : List ℕ) (p : PureParts) : Type 0 where
  pub spelled : SpellProgram bytes p
  pub valid : IsValid p

-- A text is its program: of the text itself nothing more is said.
abbrev pub gil_over : Memory → Definition
gil_over m = record {
  IsText = IsTextOf;
  IsFault = λ bytes at kind. (kind ≢ kinds.Memory) × IsRefusedFor bytes at kind;
  KeepsEnds = λ bytes p. Unit {0};
  IsMeant = λ bytes entry inputs answer. Unit {0};
  memory = m;
}

abbrev pub gil_record : Definition
gil_record = gil_over record_memory

abbrev pub gil_block : Definition
gil_block = gil_over block_memory

abbrev pub gil_object : Definition
gil_object = gil_over object_memory
