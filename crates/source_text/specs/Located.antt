-- The lists of a source as they are read, with the byte at which each item begins.
use Rattle.std.specs.Prelude.{List}
use Rattle.gil_syntax.specs.View.{spec_view, pred_def_view}
use Rattle.gil_text.specs.declared.located.TextItem.{TextItem}
use Rattle.gil_text.specs.declared.located.TextItem.TheVariants as items
use Rattle.gil_text.specs.Located.{PureLocated, lists_of}
use Rattle.source_text.specs.Texts.{SourceItem, a_function, a_spec, a_pred, PlacedItem, as_function, as_spec, as_pred}

abbrev pub source_item_view : {F P : Type 0} → (F → P) → TextItem F → SourceItem P
source_item_view view (items.Function f) = a_function (view f)
source_item_view view (items.Spec s) = a_spec (spec_view s)
source_item_view view (items.Pred d) = a_pred (pred_def_view d)

-- the lists of the items, each in the order of the text
abbrev pub located_of : {P : Type 0} → List (PlacedItem P) → PureLocated P
located_of is = lists_of (λ i. as_function i.item) (λ i. as_spec i.item) (λ i. as_pred i.item) (λ i. i.at) is
