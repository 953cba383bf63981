-- Why a text is refused.
use Rattle.std.specs.Prelude.{ℕ, List, [], ◌∷◌, length}
use Rattle.gil_text.specs.declared.refused.Refused.{Refused}
use Rattle.gil_text.specs.declared.refused.RefusedKind.{RefusedKind}
use Rattle.operator_text.specs.Few.{IsNestedWithFew}
use Rattle.source_text.specs.Refusals as refusals
use Rattle.object_compiler.specs.Compiled.{compiled}
use Rattle.object_grammar.specs.Functions.{SpellsFunction}

-- The procedure that reads properties is the one that a program of the object language has besides those of its functions. A fault of it is
-- at the end of the text.
abbrev pub IsRefusedFor : List ℕ → ℕ → RefusedKind → Type 0
IsRefusedFor bytes at kind = refusals.IsRefusedFor IsNestedWithFew SpellsFunction compiled (length bytes ∷ []) bytes at kind

abbrev pub IsRefused : List ℕ → Refused → Type 0
IsRefused bytes refused = refusals.IsRefused IsNestedWithFew SpellsFunction compiled (length bytes ∷ []) bytes refused
