-- Programs that texts have, and that their printed text spells them.
use Rattle.std.specs.Prelude.{◌≡◌, ℕ, List}
use Rattle.gil_syntax.specs.Pure.{PureParts}
use Rattle.gil_syntax.specs.Programs.{renumbered}
use Rattle.gil_grammar.specs.Texts.{SpellProgram}
use Rattle.syntax_print.specs.Programs.{printed_program}

-- But for the numbers of its commands some text spells the program. Programs in which brackets are nested too deep, for
-- example, have no text.
abbrev pub IsWritable : PureParts → Type 0
IsWritable p = (bytes : List ℕ) × SpellProgram bytes (renumbered p)

-- The printed text of a writable program spells it, with each command's index as its number.
abbrev pub PrintedTextsSpell : Type 0
PrintedTextsSpell = (p : PureParts) → IsWritable p → SpellProgram (printed_program p) (renumbered p)

-- A program that a text spells is spelled by its printed text too: what is read and printed is read again as the same.
abbrev pub PrintedAgain : Type 0
PrintedAgain = (bytes : List ℕ) (p : PureParts) → SpellProgram bytes p → SpellProgram (printed_program p) p

-- Two writable programs that are printed alike are the same but for the numbers of their commands.
abbrev pub PrintingTellsPrograms : Type 0
PrintingTellsPrograms =
    (p q : PureParts) → IsWritable p → IsWritable q → printed_program p ≡ printed_program q → renumbered p ≡ renumbered q
