-- What a case wants to be written.
use Rattle.std.specs.Prelude.{◌≡◌, ℕ, List, nat_eq, IsTrue, string_bytes}
use Rattle.std.specs.List.{starts_with}
use Rattle.row_cases.specs.declared.cases.Output.{Output}
use Rattle.row_cases.specs.declared.cases.Output.TheVariants.{Text, Begins}

-- exactly the text, or some text with the beginning
abbrev pub IsWanted : Output → List ℕ → Type 0
IsWanted (Text text) written = written ≡ string_bytes text
IsWanted (Begins b) written = IsTrue (starts_with nat_eq written (string_bytes b.begins))
