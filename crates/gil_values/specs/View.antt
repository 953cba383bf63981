-- The pure data of values and of lists of values.
use Rattle.std.specs.Prelude.{List}
use Rattle.gil_values.specs.Pure.{PureValue, integer, boolean, text, symbol, kind, procedure, list, from_list}
use Rattle.gil_values.specs.declared.tree.Value.{Value, fold-Value}
use Rattle.gil_values.specs.declared.tree.Values.{Values, fold-Values}
use Rattle.gil_values.specs.declared.tree.Value.TheOpen.{Value-F, Values-F}

-- one level, with each part already seen as its pure data
abbrev pub value_step : Value-F PureValue (List PureValue) → PureValue
value_step (Value-F.Int n) = integer n
value_step (Value-F.Bool b) = boolean b
value_step (Value-F.Str t) = text t
value_step (Value-F.Sym n) = symbol n
value_step (Value-F.Kind k) = kind k
value_step (Value-F.Proc t) = procedure t
value_step (Value-F.List vs) = list (from_list vs)

abbrev pub values_step : Values-F PureValue (List PureValue) → List PureValue
values_step vs = vs.items.items

abbrev pub value_view : Value → PureValue
value_view = fold-Value PureValue (List PureValue) value_step values_step

abbrev pub values_view : Values → List PureValue
values_view = fold-Values PureValue (List PureValue) value_step values_step
