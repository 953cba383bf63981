-- The text that a term stands for, where it is a literal.
use Rattle.gil_values.specs.declared.kinds.Kind.{Kind}
use Rattle.gil_values.specs.Pure.{PureValue, kind}
use Rattle.pure_terms.specs.Meaning.{literal_value}
use Rattle.pure_terms.specs.Pure.{PureTerm, literal}

-- a literal's value, and of other terms a value that is no text
abbrev pub name_value : PureTerm → PureValue
name_value (literal l) = literal_value l
name_value _ = kind Kind.Null
