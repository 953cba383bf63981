-- The command line of the program, by the definitions of clap: two required words, three options with one value each,
-- and a flag.
use Rattle.std.specs.Prelude.{◌≡◌, ℕ, List, [], true, Option, Some, map, codes, String, string_bytes, Vec}
use Rattle.std.specs.declared.alloc.Global.{Global}
use Rattle.clap.specs.Words.{App, Rule, first_of, fault_of, matches_of, new_app, new_rule, with_rule}
use Rattle.clap.specs.declared.builder.ArgAction.TheVariants.{Set, SetTrue}

-- the words as they are spelled
abbrev pub spelled : Vec (String Global) Global → List (List ℕ)
spelled words = map string_bytes words.items

abbrev pub required_word : List ℕ → Rule
required_word id = record (new_rule id) { required = true; action = Some Set }

abbrev pub with_one_value : List ℕ → Rule
with_one_value id = record (new_rule id) { long = Some id; action = Some Set }

abbrev pub flag : List ℕ → Rule
flag id = record (new_rule id) { long = Some id; action = Some SetTrue }

abbrev pub two_words : App
two_words = with_rule (with_rule (new_app (codes "gillian")) (required_word (codes "mode"))) (required_word (codes "second"))

abbrev pub line : App
line = with_rule
    (with_rule (with_rule (with_rule two_words (with_one_value (codes "bound"))) (with_one_value (codes "entry")))
    (with_one_value (codes "inputs"))) (flag (codes "json"))

-- clap takes the words
abbrev pub AreTaken : List (List ℕ) → Type 0
AreTaken words = fault_of line words ≡ []

-- the first value that clap matches to a name
abbrev pub matched : List (List ℕ) → List ℕ → Option (List ℕ)
matched words id = first_of id (matches_of line words)
