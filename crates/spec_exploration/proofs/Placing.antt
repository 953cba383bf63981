-- The place of the command at which frames stand.
use Rattle.std.proofs.Common.{◌≡◌, List, ◌∷◌, Some, sym, subst}
use Rattle.gil_values.specs.declared.places.Place.{Place}
use Rattle.gil_syntax.specs.Pure.{PureNumberedCommand, PureParts}
use Rattle.sym_paths.specs.Meaning.{command_of_frames}
use Rattle.sym_paths.specs.Pure.{PureFrame}
use Rattle.sym_paths.specs.Steps.{IsPlaceOf}

pub placed_at : (p : PureParts) (fs : List PureFrame) (n : PureNumberedCommand) (place : Place) (f : PureFrame) (waiting : List PureFrame) → fs ≡ f ∷ waiting → place ≡ record { proc = f.procedure; at = n.at }
    → command_of_frames p fs ≡ Some n → IsPlaceOf p fs place
placed_at p fs n place f waiting is placed at = subst (λ gs. IsPlaceOf p gs place) (sym is) (n, (subst (λ gs. command_of_frames p gs ≡ Some n) is at, placed))
