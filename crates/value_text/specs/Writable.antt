-- Values as programs have them: whole numbers have 128 bits, symbols 64; the characters of texts are 0x20 to 0x7E and LF; the name of a
-- procedure is a name, reserved or not.
use Rattle.std.specs.Prelude.{ℕ, ◌<◌, ◌^◌, FitsSigned, Bool}
use Rattle.std.specs.Int.{w128}
use Rattle.gil_values.specs.Characters.{IsText}
use Rattle.gil_values.specs.Pure.{PureValue, integer, boolean, text, symbol, kind, procedure, list, PureValues, no_values, value_and}
use Rattle.gil_lexer.specs.Spelling.{IsName}

abbrev mutual
  pub IsWritableValue : PureValue → Type 0
  IsWritableValue (integer n) = FitsSigned w128 n
  IsWritableValue (boolean b) = Unit {0}
  IsWritableValue (text cs) = IsText cs
  IsWritableValue (symbol n) = n < 2 ^ 64
  IsWritableValue (kind k) = Unit {0}
  IsWritableValue (procedure name) = IsName name
  IsWritableValue (list vs) = AreWritableValues vs

  pub AreWritableValues : PureValues → Type 0
  AreWritableValues no_values = Unit {0}
  AreWritableValues (value_and v vs) = IsWritableValue v × AreWritableValues vs
