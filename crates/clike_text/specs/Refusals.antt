-- Why a text is refused.
use Rattle.std.specs.Prelude.{ℕ, List, []}
use Rattle.gil_text.specs.declared.refused.Refused.{Refused}
use Rattle.gil_text.specs.declared.refused.RefusedKind.{RefusedKind}
use Rattle.operator_text.specs.Few.{IsNestedWithFew}
use Rattle.source_text.specs.Refusals as refusals
use Rattle.clike_compiler.specs.Compiled.{compiled}
use Rattle.clike_grammar.specs.Functions.{SpellsFunction}

-- a program of the C-like language has no procedures besides those of its functions
abbrev pub IsRefusedFor : List ℕ → ℕ → RefusedKind → Type 0
IsRefusedFor bytes at kind = refusals.IsRefusedFor IsNestedWithFew SpellsFunction compiled [] bytes at kind

abbrev pub IsRefused : List ℕ → Refused → Type 0
IsRefused bytes refused = refusals.IsRefused IsNestedWithFew SpellsFunction compiled [] bytes refused
