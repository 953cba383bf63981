-- The pure data of what is told of conditions.
use Rattle.gil_values.specs.View.{values_view}
use Rattle.spec_causes.specs.declared.showing.Telling.{Telling}
use Rattle.spec_causes.specs.Showing.{PureTelling, met, left_open}

abbrev pub telling_view : Telling → PureTelling
telling_view (Telling.Met v) = met (values_view v)
telling_view (Telling.Open reason) = left_open reason
