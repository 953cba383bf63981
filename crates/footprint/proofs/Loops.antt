-- Loops that take the elements of a list.
use Rattle.std.proofs.Common.{◌≡◌, ℕ, ◌+◌, ◌<◌, get_or, List, [], ◌∷◌, ◌++◌, length, map, drop, cond, Some, sym, ap, subst, ◌∙◌, append_assoc}
use Rattle.std.proofs.lemmas.List.{append-nil, nil_from_length, map-append, drop_more}
use Rattle.std.specs.Str.{bytes_eq}
use Rattle.gil_syntax.specs.declared.parts.PredDef.{PredDef}
use Rattle.gil_syntax.specs.Programs.{find_pred}
use Rattle.gil_syntax.specs.View.{pred_def_view}
use Rattle.sym_model.specs.Lists.{Each}
use Rattle.sym_model.proofs.ListLaws.{each_right, each_at}
use Rattle.gil_values.proofs.Lists.{slice_get-read}

-- an element more is taken
pub taken_more : {X : Type 0} (all done left now : List X) (x : X) → all ≡ done ++ left → left ≡ x ∷ now → all ≡ (done ++ x ∷ []) ++ now
taken_more all done left now x is next = is ∙ ap (λ ys. done ++ ys) next ∙ sym (append_assoc done (x ∷ []) now)

-- all are taken
pub taken_all : {X : Type 0} (all done left : List X) → all ≡ done ++ left → length left ≡ 0 → all ≡ done
taken_all all done left is none = is ∙ ap (λ ys. done ++ ys) (nil_from_length left none) ∙ append-nil done

-- what holds of each holds of the one that is taken
pub taken_has : {X Y : Type 0} (P : Y → Type 0) (f : X → Y) (all done left now : List X) (x : X) → all ≡ done ++ left → left ≡ x ∷ now → Each P (map f all) → P (f x)
taken_has P f all done left now x is next each =
    let split : map f all ≡ map f done ++ map f (x ∷ now) = ap (map f) (is ∙ ap (λ ys. done ++ ys) next) ∙ map-append f done (x ∷ now) in
    (each_right P (map f done) (map f (x ∷ now)) (subst (Each P) split each)).0

-- what holds of each holds of the one that is read
pub each_read : {X Y : Type 0} (P : Y → Type 0) (f : X → Y) (xs : List X) (i : ℕ) (x : X) → i < length xs → x ≡ get_or xs i x → Each P (map f xs) → P (f x)
each_read P f xs i x below is each = each_at P (map f xs) i (f x) each (slice_get-read f xs i x below is)

-- the first predicate of a name, from a place on
pub pred_at : (xs : List PredDef) (i : ℕ) (x : PredDef) (n : List ℕ) → i < length xs → x ≡ get_or xs i x
    → find_pred (map pred_def_view (drop i xs)) n ≡ cond (bytes_eq x.name n) (Some (pred_def_view x)) (find_pred (map pred_def_view (drop (i + 1) xs)) n)
pred_at xs i x n below is = ap (λ ys. find_pred (map pred_def_view ys) n) (drop_more xs i x below ∙ ap (λ y. y ∷ drop (i + 1) xs) (sym is))
