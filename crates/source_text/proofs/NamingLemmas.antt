-- Going over lexemes in search of a name with a '$'.
use Rattle.std.proofs.Common.{◌≡◌, ℕ, ◌+◌, ◌<◌, ◌≤◌, Bool, true, false, List, [], ◌∷◌, length, refl, arith}
use Rattle.std.specs.Prelude.{not, IsTrue}
use Rattle.std.proofs.lemmas.Bool.{and_from, and_parts}
use Rattle.gil_lexemes.specs.declared.standing.Lexeme.{Lexeme}
use Rattle.gil_lexemes.specs.Reading.{behind}
use Rattle.source_text.specs.Vocabulary.{is_source_lexeme, are_source_lexemes}
use Rattle.source_text.specs.Naming.{is_foreign}

-- so many lexemes were gone over, none of them foreign
pub record SoFar (whole rest : List Lexeme) (count : ℕ) : Type 0 where
  pub all : IsTrue (are_source_lexemes rest) → IsTrue (are_source_lexemes whole)
  pub back : IsTrue (are_source_lexemes whole) → IsTrue (are_source_lexemes rest)
  pub counted : length rest + count ≡ length whole

foreign_front : (b : Bool) → not b ≡ true → IsTrue b → ⊥
foreign_front true e h = absurd cc
foreign_front false e h = absurd cc

source_front : (b : Bool) → not b ≡ false → IsTrue b
source_front true e = refl
source_front false e = absurd cc

pub found : (whole rest : List Lexeme) (count : ℕ) → SoFar whole rest count → is_foreign rest ≡ true → IsTrue (are_source_lexemes whole) → ⊥
found whole [] count h e all = absurd cc
found whole (l ∷ rest) count h e all = foreign_front (is_source_lexeme l) e (and_parts (is_source_lexeme l) (are_source_lexemes rest) (h.back all)).0

pub goes_on : (whole rest : List Lexeme) (count : ℕ) → SoFar whole rest count → is_foreign rest ≡ false → count < length whole → SoFar whole (behind rest) (count + 1)
goes_on whole [] count h e lt = absurd (let counted = h.counted in omega arith)
goes_on whole (l ∷ rest) count h e lt = record {
  all = λ rest_all. h.all (and_from (is_source_lexeme l) (are_source_lexemes rest) (source_front (is_source_lexeme l) e) rest_all);
  back = λ all. (and_parts (is_source_lexeme l) (are_source_lexemes rest) (h.back all)).1;
  counted = let counted = h.counted in omega arith;
}

pub ends : (whole rest : List Lexeme) (count : ℕ) → SoFar whole rest count → length whole ≤ count → IsTrue (are_source_lexemes whole)
ends whole [] count h e = h.all refl
ends whole (l ∷ rest) count h e = absurd (let counted = h.counted in omega arith)
