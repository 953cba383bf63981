-- Names at the front of lexemes.
use Rattle.std.specs.Prelude.{Bool, false, not, List, [], ◌∷◌}
use Rattle.gil_lexemes.specs.declared.standing.Lexeme.{Lexeme}
use Rattle.source_text.specs.Vocabulary.{is_source_lexeme}

-- the first lexeme is one that a source text can't have
abbrev pub is_foreign : List Lexeme → Bool
is_foreign [] = false
is_foreign (l ∷ ls) = not (is_source_lexeme l)
