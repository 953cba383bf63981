-- The signs that source languages have besides those of GIL, as lexemes, and the names that a source text may have.
use Rattle.std.specs.Prelude.{Bool, true, List}
use Rattle.std.specs.List.{list_all}
use Rattle.gil_lexer.specs.declared.signs.Sign.TheVariants as signs
use Rattle.gil_lexemes.specs.declared.standing.Lexeme.{Lexeme}
use Rattle.gil_lexemes.specs.declared.standing.Lexeme.TheVariants.{Name, Logical, Procedure, Sign}
use Rattle.source_language.specs.Names.{is_source_name}

abbrev pub equals : Lexeme
equals = Sign signs.Equal

abbrev pub dot : Lexeme
dot = Sign signs.Dot

-- No name, logical name or procedure literal of a source text has a '$'.
abbrev pub is_source_lexeme : Lexeme → Bool
is_source_lexeme (Name x) = is_source_name x
is_source_lexeme (Logical x) = is_source_name x
is_source_lexeme (Procedure f) = is_source_name f
is_source_lexeme _ = true

abbrev pub are_source_lexemes : List Lexeme → Bool
are_source_lexemes ls = list_all is_source_lexeme ls
