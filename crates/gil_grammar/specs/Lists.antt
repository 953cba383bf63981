-- Things one after another. A relation `spells` of this shape says that the lexemes `from` begin with the lexemes of a
-- thing, and that the lexemes `rest` follow.
use Rattle.std.specs.Prelude.{◌≡◌, List, [], ◌∷◌}
use Rattle.gil_lexemes.specs.declared.standing.Lexeme.{Lexeme}

module _ {X : Type 0} (spells : X → List Lexeme → List Lexeme → Type 0) where
  -- one directly after another, any number of them
  abbrev pub SpellsEach : List X → List Lexeme → List Lexeme → Type 0
  SpellsEach [] from rest = from ≡ rest
  SpellsEach (x ∷ xs) from rest = (after : List Lexeme) × spells x from after × SpellsEach xs after rest

  -- one directly after another, at least one
  abbrev pub SpellsSome : List X → List Lexeme → List Lexeme → Type 0
  SpellsSome [] from rest = ⊥
  SpellsSome (x ∷ xs) from rest = SpellsEach (x ∷ xs) from rest

  -- any number of them, each behind the separator
  abbrev pub SpellsMore : Lexeme → List X → List Lexeme → List Lexeme → Type 0
  SpellsMore separator [] from rest = from ≡ rest
  SpellsMore separator (x ∷ xs) from rest =
      (inner after : List Lexeme) × (from ≡ separator ∷ inner) × spells x inner after × SpellsMore separator xs after rest

  -- any number of them, with the separator between one and the next
  abbrev pub SpellsSeparated : Lexeme → List X → List Lexeme → List Lexeme → Type 0
  SpellsSeparated separator [] from rest = from ≡ rest
  SpellsSeparated separator (x ∷ xs) from rest =
      (after : List Lexeme) × spells x from after × SpellsMore separator xs after rest
