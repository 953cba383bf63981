-- Why a text is refused.
use Rattle.std.specs.Prelude.{ℕ, List, []}
use Rattle.gil_text.specs.declared.refused.Refused.{Refused}
use Rattle.gil_text.specs.declared.refused.RefusedKind.{RefusedKind}
use Rattle.gil_grammar.specs.Nesting.{IsNested}
use Rattle.source_text.specs.Refusals as refusals
use Rattle.while_grammar.specs.Statements.{SpellsFunction}
use Rattle.while_compiler.specs.Compiled.{compiled}

-- a program of While has no procedures besides those of its functions
abbrev pub IsRefusedFor : List ℕ → ℕ → RefusedKind → Type 0
IsRefusedFor bytes at kind = refusals.IsRefusedFor IsNested SpellsFunction compiled [] bytes at kind

abbrev pub IsRefused : List ℕ → Refused → Type 0
IsRefused bytes refused = refusals.IsRefused IsNested SpellsFunction compiled [] bytes refused
