-- Names that stand before an item, by the first places of names.
use Rattle.std.proofs.Common.{◌≡◌, ℕ, List, [], ◌∷◌, ◌++◌, map, take, Option, Bool, true, false, ◌||◌, nat_lt, refl, sym, ap, ◌∙◌}
use Rattle.std.specs.List.{list_any}
use Rattle.std.specs.Option.{option_map_or}
use Rattle.std.specs.Str.{bytes_eq}
use Rattle.std.proofs.lemmas.List.{take-map}
use Rattle.std.proofs.lemmas.List.Folds.{list_any-append}
use Rattle.gil_syntax.specs.Pure.{PureProc, PureSpec, PurePredDef, PureParts}
use Rattle.gil_syntax.specs.Valid.{is_among, ProgramItem, a_proc, a_spec, a_pred, same_name}
use Rattle.gil_syntax.specs.Items.{before_proc, before_spec, before_pred}
use Rattle.gil_syntax.specs.Names.{first_place}
use Rattle.gil_syntax.proofs.BodyLemmas.{list_any-map}
use Rattle.gil_syntax.proofs.NameLemmas.{is_among-take}
use Rattle.gil_syntax.proofs.PieceLemmas.{list_any-never}

pub map-itself : {X : Type 0} (xs : List X) → map (λ x. x) xs ≡ xs
map-itself [] = refl
map-itself (x ∷ xs) = ap (λ ys. x ∷ ys) (map-itself xs)

pub or_true : (a b : Bool) → b ≡ true → (a || b) ≡ true
or_true true b is = refl
or_true false b is = is

-- the names among those before a place, of items that are named alike
before_names : {X : Type 0} (named : X → List ℕ) (item : X → ProgramItem) (x : List ℕ) (again : ProgramItem → Bool) (xs : List X) (k : ℕ)
    → ((y : X) → again (item y) ≡ bytes_eq x (named y))
    → option_map_or (λ j. nat_lt j k) (first_place (map named xs) x) false ≡ list_any again (map item (take k xs))
before_names named item x again xs k alike =
    sym (is_among-take (map named xs) k x)
    ∙ ap (list_any (bytes_eq x)) (take-map named k xs)
    ∙ list_any-map (bytes_eq x) named (take k xs)
    ∙ (λ j. list_any (λ y. sym (alike y) j) (take k xs))
    ∙ sym (list_any-map again item (take k xs))

-- none of the items of another list
none_alike : {X : Type 0} (item : X → ProgramItem) (again : ProgramItem → Bool) (xs : List X) → ((y : X) → again (item y) ≡ false) → list_any again (map item xs) ≡ false
none_alike item again xs other = list_any-map again item xs ∙ (λ j. list_any (λ y. other y j) xs) ∙ list_any-never xs

pub procs_before : (p : PureParts) (q : PureProc) (k : ℕ)
    → option_map_or (λ j. nat_lt j k) (first_place (map (λ r. r.name) p.procs) q.name) false ≡ list_any (same_name (a_proc q)) (before_proc p k)
procs_before p q k = before_names (λ r. r.name) a_proc q.name (same_name (a_proc q)) p.procs k (λ y. refl)

pub specs_before : (p : PureParts) (s : PureSpec) (k : ℕ)
    → option_map_or (λ j. nat_lt j k) (first_place (map (λ r. r.name) p.specs) s.name) false ≡ list_any (same_name (a_spec s)) (before_spec p k)
specs_before p s k =
    before_names (λ r. r.name) a_spec s.name (same_name (a_spec s)) p.specs k (λ y. refl)
    ∙ ap (λ b. b || list_any (same_name (a_spec s)) (map a_spec (take k p.specs))) (sym (none_alike a_proc (same_name (a_spec s)) p.procs (λ y. refl)))
    ∙ sym (list_any-append (same_name (a_spec s)) (map a_proc p.procs) (map a_spec (take k p.specs)))

pub preds_before : (p : PureParts) (d : PurePredDef) (k : ℕ)
    → option_map_or (λ j. nat_lt j k) (first_place (map (λ r. r.name) p.preds) d.name) false ≡ list_any (same_name (a_pred d)) (before_pred p k)
preds_before p d k =
    let test = same_name (a_pred d) in
    let others : list_any test (map a_proc p.procs ++ map a_spec p.specs) ≡ false =
    list_any-append test (map a_proc p.procs) (map a_spec p.specs) ∙ (λ j. none_alike a_proc test p.procs (λ y. refl) j || none_alike a_spec test p.specs (λ y. refl) j) in
    before_names (λ r. r.name) a_pred d.name test p.preds k (λ y. refl)
    ∙ ap (λ b. b || list_any test (map a_pred (take k p.preds))) (sym others)
    ∙ sym (list_any-append test (map a_proc p.procs ++ map a_spec p.specs) (map a_pred (take k p.preds)))

-- what a table of places tells of a name before a place
pub told : (table : List ℕ → Option ℕ) (names : List (List ℕ)) (x y : List ℕ) (k : ℕ) → table ≡ first_place names → y ≡ x
    → option_map_or (λ j. nat_lt j k) (table y) false ≡ option_map_or (λ j. nat_lt j k) (first_place names x) false
told table names x y k same is j = option_map_or (λ i. nat_lt i k) (same j (is j)) false

-- the names of the predicates before a place, and the items of their names
pub preds_before_among : (p : PureParts) (d : PurePredDef) (k : ℕ) → is_among (take k (map (λ r. r.name) p.preds)) d.name ≡ list_any (same_name (a_pred d)) (before_pred p k)
preds_before_among p d k = is_among-take (map (λ r. r.name) p.preds) k d.name ∙ preds_before p d k

pub procs_before_among : (p : PureParts) (q : PureProc) (k : ℕ) → is_among (take k (map (λ r. r.name) p.procs)) q.name ≡ list_any (same_name (a_proc q)) (before_proc p k)
procs_before_among p q k = is_among-take (map (λ r. r.name) p.procs) k q.name ∙ procs_before p q k
