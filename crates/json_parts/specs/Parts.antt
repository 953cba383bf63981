-- Parts of JSON values, as texts: what the functions of src/ answer.
use Rattle.std.specs.Prelude.{◌≡◌, ℕ, suc, List, [], ◌++◌, Bool, false, Option, Some, None, Result, Ok, Err, codes, option_and_then, option_map}
use Rattle.gil_values.specs.Pieces.{separator_before}
use Rattle.gil_values.specs.Printed.{numeral}
use Rattle.serde_json.specs.Data.{Data, Items, no_items, item}
use Rattle.serde_json.specs.Find.{get, as_array, as_bool, as_number, as_str, as_u64}
use Rattle.value_text.specs.Reading.{◌>>=◌, ◌or_else◌, Fails}
use Rattle.value_text.specs.declared.faults.ReadFault.{ReadFault}

-- What a function added to a text is what reading gives, unless memory ran out.
abbrev pub Adds : Option (List ℕ) → Result (Unit {0}) ReadFault → List ℕ → List ℕ → Type 0
Adds read (Ok u) old new = option_map (λ added. old ++ added) read ≡ Some new
Adds read (Err fault) old new = Fails fault read

-- one text behind the other
infixr 12 ◌followed_by◌
abbrev pub ◌followed_by◌ : Option (List ℕ) → Option (List ℕ) → Option (List ℕ)
first followed_by second = first >>= λ x. second >>= λ y. Some (x ++ y)

-- a text, or the digits of a number
abbrev pub leaf : Data → Option (List ℕ)
leaf d = as_str d or_else (option_and_then as_u64 (as_number d) >>= λ n. Some (numeral n))

-- elements with commas between them, from the one with this number on
unfoldable pub joined_from : ℕ → Items → Option (List ℕ)
joined_from index no_items = Some []
joined_from index (item d ds) = leaf d >>= λ x. joined_from (suc index) ds >>= λ xs. Some (separator_before (codes ", ") index ++ x ++ xs)

-- the same in brackets
abbrev pub listed : Items → Option (List ℕ)
listed ds = joined_from 0 ds >>= λ xs. Some (codes "[" ++ xs ++ codes "]")

abbrev pub list_or_leaf : Option Items → Option (List ℕ) → Option (List ℕ)
list_or_leaf (Some ds) other = listed ds
list_or_leaf None other = other

abbrev pub part : Data → Option (List ℕ)
part d = list_or_leaf (as_array d) (leaf d)

-- the part of an object with this key
abbrev pub part_at : List ℕ → Data → Option (List ℕ)
part_at key d = get key d >>= part

abbrev pub text_at : List ℕ → Data → Option (List ℕ)
text_at key d = get key d >>= as_str

abbrev pub is_true : Option Bool → Bool
is_true None = false
is_true (Some b) = b

-- whether the member of an object with this key is true
abbrev pub is_marked : List ℕ → Data → Bool
is_marked key d = is_true (get key d >>= as_bool)
