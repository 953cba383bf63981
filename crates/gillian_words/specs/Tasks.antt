-- What can be asked for: a mode, with what it works on and its options.
use Rattle.std.specs.Prelude.{ℕ, List, Bool, true, false, codes}
use Rattle.gil_values.specs.Pure.{PureValue}
use Rattle.gillian_words.specs.declared.tasks.Language.{Language}
use Rattle.gillian_words.specs.declared.tasks.Language.TheVariants.{GilRecord, GilBlock, GilObject, While, Clike, Object}

-- A run of an entry within a bound on inputs, a test of an entry within a bound, a check of specifications within a
-- bound, the specifications of an entry within a bound, the program of a text, the solution of a list of atoms, and a test of a made program
-- of a size.
pub data PureTask : Type 0 where
  run : Language → List ℕ → ℕ → List PureValue → PureTask
  test : Language → List ℕ → ℕ → PureTask
  check : Language → ℕ → PureTask
  infer : Language → List ℕ → ℕ → PureTask
  compile : Language → PureTask
  solve : PureTask
  sweep : ℕ → PureTask

-- what is asked for, and whether its report is to be JSON
pub record PureRequest : Type 0 where
  pub task : PureTask
  pub json : Bool

-- a program is no report
abbrev pub has_report : PureTask → Bool
has_report (run language entry bound inputs) = true
has_report (test language entry bound) = true
has_report (check language bound) = true
has_report (infer language entry bound) = true
has_report (compile language) = false
has_report solve = true
has_report (sweep size) = true

-- a made program is none that a source gives
abbrev pub reads_source : PureTask → Bool
reads_source (run language entry bound inputs) = true
reads_source (test language entry bound) = true
reads_source (check language bound) = true
reads_source (infer language entry bound) = true
reads_source (compile language) = true
reads_source solve = true
reads_source (sweep size) = false

abbrev pub language_word : Language → List ℕ
language_word GilRecord = codes "gil-record"
language_word GilBlock = codes "gil-block"
language_word GilObject = codes "gil-object"
language_word While = codes "while"
language_word Clike = codes "clike"
language_word Object = codes "object"

-- the first word
abbrev pub mode_word : PureTask → List ℕ
mode_word (run language entry bound inputs) = codes "run"
mode_word (test language entry bound) = codes "test"
mode_word (check language bound) = codes "check"
mode_word (infer language entry bound) = codes "infer"
mode_word (compile language) = codes "compile"
mode_word solve = codes "solve"
mode_word (sweep size) = codes "sweep"
