-- Names are texts, and texts are ASCII.
use Rattle.std.proofs.Common.{◌≡◌, ◌<◌, ◌≤◌, ℕ, zero, suc, List, [], ◌∷◌, true, get_or, arith, lit<, lit≤, inl, inr}
use Rattle.std.proofs.lemmas.Bool.Decides.{nat_tests}
use Rattle.std.proofs.lemmas.Bool.{and_parts}
use Rattle.std.specs.List.{list_all}
use Rattle.std.specs.Str.{IsUtf8}
use Rattle.std.proofs.lemmas.Str.{IsUtf8-from_ascii}
use Rattle.gil_values.specs.Characters.{IsTextCharacter, IsText}
use Rattle.gil_lexer.specs.Bytes.{hash, is_name_byte}
use Rattle.gil_lexer.specs.Spelling.{IsName, IsMarkedName}
use Rattle.std.proofs.lemmas.List.Elements.{All-cons, All-nil, All-tail}

name_byte_character : (b : ℕ) → is_name_byte b ≡ true → (32 ≤ b) × (b ≤ 126)
name_byte_character b e = grind (arith, nat_tests)

pub name_bytes_are_text : (text : List ℕ) → list_all is_name_byte text ≡ true → IsText text
name_bytes_are_text [] e = All-nil IsTextCharacter
name_bytes_are_text (b ∷ text) e =
    let parts = and_parts (is_name_byte b) (list_all is_name_byte text) e in
    All-cons IsTextCharacter b text (inl (name_byte_character b parts.0)) (name_bytes_are_text text parts.1)

-- a name is a text
pub name_is_text : (text : List ℕ) → IsName text → IsText text
name_is_text text h = name_bytes_are_text text h.1

-- so is a name with its mark
pub logical_is_text : (text : List ℕ) → IsMarkedName hash text → IsText text
logical_is_text text (name, is_name, is) =
    rw is (All-cons IsTextCharacter hash name (inl (lit≤ tt, lit≤ tt)) (name_is_text name is_name))

character_ascii : (b : ℕ) → IsTextCharacter b → b < 128
character_ascii b (inl range) = omega (arith, range.1)
character_ascii b (inr is) = omega (arith, is)

text_ascii : (text : List ℕ) → IsText text → (i : ℕ) → get_or text i 0 < 128
text_ascii [] h i = lit< tt
text_ascii (b ∷ text) h zero = character_ascii b (h zero 0 (omega arith))
text_ascii (b ∷ text) h (suc i) = text_ascii text (All-tail IsTextCharacter b text h) i

-- a text is ASCII
pub is_utf8_text : (text : List ℕ) → IsText text → IsUtf8 text
is_utf8_text text h = IsUtf8-from_ascii text (text_ascii text h)
