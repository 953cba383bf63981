-- The pure data of stores.
use Rattle.std.specs.Prelude.{map}
use Rattle.std.specs.Option.{option_map}
use Rattle.gil_values.specs.View.{value_view}
use Rattle.gil_machine.specs.declared.store.Store.{Store}
use Rattle.gil_machine.specs.Kept.{Kept}

abbrev pub store_view : Store → Kept
store_view s = map (option_map value_view) s.values.items
