-- The frame that runs is the last one of the code's list.
use Rattle.std.proofs.Common.{◌≡◌, ◌-◌, ◌<◌, ◌≤◌, List, [], ◌∷◌, map, reverse, length, get_or, slice_get, Some, ap, subst, ◌∙◌, arith}
use Rattle.std.specs.Option.{option_map}
use Rattle.std.proofs.lemmas.List.{length-map, length-reverse, get_or-reverse}
use Rattle.std.proofs.lemmas.Option.{slice_get-map, get_or_from_slice_get}
use Rattle.sym_paths.specs.declared.frames.Frame.{Frame}
use Rattle.sym_paths.specs.Pure.{PureFrame}
use Rattle.sym_paths.specs.View.{frame_view, frames_view}

head_of : {X : Type 0} (ys : List X) (y : X) → 0 < length ys → get_or ys 0 y ≡ y → (rest : List X) × (ys ≡ y ∷ rest)
head_of [] y some is = absurd (omega (arith, some))
head_of (x ∷ ys) y some is = (ys, ap (λ z. z ∷ ys) is)

pub runs_first : (fs : List Frame) (f : Frame) → 1 ≤ length fs → slice_get fs (length fs - 1) ≡ Some f → (waiting : List PureFrame) × (frames_view fs ≡ frame_view f ∷ waiting)
runs_first fs f some at =
    let seen : List PureFrame = map frame_view fs in
    let count : length seen ≡ length fs = length-map fs frame_view in
    let found : slice_get seen (length fs - 1) ≡ Some (frame_view f) = slice_get-map frame_view fs (length fs - 1) ∙ ap (option_map frame_view) at in
    let place : length fs - 1 ≡ length seen - 1 - 0 = omega (arith, count) in
    head_of (reverse seen) (frame_view f) (omega (arith, some, count, length-reverse seen))
    (get_or-reverse seen 0 (frame_view f) (omega (arith, some, count)) ∙ get_or_from_slice_get seen (length seen - 1 - 0) (frame_view f) (frame_view f) (subst (λ i. slice_get seen i ≡ Some (frame_view f)) place found))
