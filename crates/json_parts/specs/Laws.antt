-- What holds of all data that their compact text keeps.
use Rattle.std.specs.Prelude.{◌≡◌, Some, IsUtf8}
use Rattle.serde_json.specs.Data.{Data}
use Rattle.serde_json.specs.Read.{read, max_depth}
use Rattle.serde_json.specs.Written.{compact_text}
use Rattle.json_parts.specs.Kept.{IsKept}

-- Their compact text is UTF-8, and what is read from it are the data.
abbrev pub KeptDataAgain : Type 0
KeptDataAgain = (d : Data) → IsKept d max_depth → IsUtf8 (compact_text d) × (read (compact_text d) ≡ Some d)
