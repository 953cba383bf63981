-- Lists of atoms of the fragment with atoms appended, and what is found of them.
use Rattle.std.proofs.Common.{◌≡◌, ⊎_elim, ℕ, zero, suc, ◌+◌, ◌-◌, ◌<◌, ◌≤◌, List, [], ◌∷◌, ◌++◌, length, get_or, take, true, Some, slice_get, refl, sym, ap, ◌∙◌, subst, add-one, arith}
use Rattle.std.proofs.lemmas.List.{map-append, take-map}
use Rattle.std.proofs.lemmas.Bool.{and_parts, and_from, cases_lt}
use Rattle.std.proofs.lemmas.List.Folds.{list_all-append}
use Rattle.std.proofs.lemmas.Option.{same_Some}
use Rattle.gil_values.specs.Pure.{PureValue}
use Rattle.gil_values.proofs.Lists.{slice_get-read}
use Rattle.pure_terms.specs.declared.atoms.Atom.{Atom}
use Rattle.pure_terms.specs.declared.variables.Sort.{Sort}
use Rattle.pure_terms.specs.Meaning.{truth, all_true}
use Rattle.pure_terms.specs.Pure.{PureAtom}
use Rattle.pure_terms.specs.View.{atom_view, atoms_view}
use Rattle.pure_terms.proofs.VariableLaws.{slice_get-append}
use Rattle.solver_proof.specs.Closing.{Closes, CloseEach}
use Rattle.solver_proof.specs.Pure.{PureProof, from_list}
use Rattle.solver_proof.proofs.Growing.{found_right}
use Rattle.solver_rules.specs.Steps.{IsPlainAtom, ArePlain}
use Rattle.path_solver.specs.Searching.{Meets}

pub plain_more : (vars : List Sort) (list more : List PureAtom) → ArePlain vars list → ArePlain vars more → ArePlain vars (list ++ more)
plain_more vars list more all also i a at =
    ⊎_elim (λ below. all i a (sym (slice_get-append list more i below) ∙ at)) (λ past. also (i - length list) a (sym (found_right list more i (i - length list) (apart past)) ∙ at)) (cases_lt i (length list)) where
      apart : length list ≤ i → i ≡ length list + (i - length list)
      apart h = omega (arith, h)

pub plain_one : (vars : List Sort) (a : PureAtom) → IsPlainAtom vars a → ArePlain vars (a ∷ [])
plain_one vars a h zero b at = subst (IsPlainAtom vars) (same_Some a b at) h
plain_one vars a h (suc i) b at = cc

-- what satisfies the longer list satisfies the list
pub meets_less : (vars : List Sort) (list : List PureAtom) (a : PureAtom) (v : List PureValue) → Meets vars (list ++ a ∷ []) v → Meets vars list v
meets_less vars list a v h =
    let both = and_parts (all_true v list) (all_true v (a ∷ [])) (sym (list_all-append (truth v) list (a ∷ [])) ∙ h.0.true_there) in
    (record { proper = h.0.proper; true_there = both.0 }, h.1)

-- one more atom with its proof
pub each_and_one : (vars : List Sort) (list more : List PureAtom) (ps : List PureProof) (a : PureAtom) (p : PureProof) → CloseEach vars list more (from_list ps) → Closes vars (list ++ a ∷ []) p → CloseEach vars list (more ++ a ∷ []) (from_list (ps ++ p ∷ []))
each_and_one vars list [] [] a p each closes = (closes, tt)
each_and_one vars list [] (q ∷ ps) a p each closes = absurd each
each_and_one vars list (b ∷ more) [] a p each closes = absurd each
each_and_one vars list (b ∷ more) (q ∷ ps) a p each closes = (each.0, each_and_one vars list more ps a p each.1 closes)

-- ---- as the code goes over lists

-- what stands at a place of the items
pub item_at : (atoms items : List Atom) (i : ℕ) (x : Atom) → items ≡ atoms → i < length items → x ≡ get_or items i x → slice_get (atoms_view atoms) i ≡ Some (atom_view x)
item_at atoms items i x same below is = ap (λ (xs : List Atom). slice_get (atoms_view xs) i) (sym same) ∙ slice_get-read atom_view items i x below is

pub got_at : (atoms : List Atom) (i : ℕ) (x : Atom) → Some x ≡ slice_get atoms i → slice_get (atoms_view atoms) i ≡ Some (atom_view x)
got_at [] i x at = cc
got_at (y ∷ ys) zero x at = ap (λ (z : Atom). Some (atom_view z)) (same_Some y x (sym at))
got_at (y ∷ ys) (suc i) x at = got_at ys i x at

-- one more of the first items
pub take_at : {X : Type 0} (xs : List X) (i : ℕ) (x : X) → slice_get xs i ≡ Some x → take (i + 1) xs ≡ take i xs ++ x ∷ []
take_at xs i x at = rw add-one (at_next xs i x at) where
  at_next : {X : Type 0} (xs : List X) (i : ℕ) (x : X) → slice_get xs i ≡ Some x → take (suc i) xs ≡ take i xs ++ x ∷ []
  at_next [] i x at = cc
  at_next (y ∷ ys) zero x at = ap (λ z. z ∷ []) (same_Some y x at)
  at_next (y ∷ ys) (suc i) x at = ap (λ zs. y ∷ zs) (at_next ys i x at)

pub pushed_view : (atoms new : List Atom) (x : Atom) → new ≡ atoms ++ x ∷ [] → atoms_view new ≡ atoms_view atoms ++ atom_view x ∷ []
pushed_view atoms new x is = ap atoms_view is ∙ map-append atom_view atoms (x ∷ [])

pub taken_more : (ds : List PureAtom) (atoms new : List Atom) (i : ℕ) (x : Atom) → atoms_view atoms ≡ take i ds → slice_get ds i ≡ Some (atom_view x) → new ≡ atoms ++ x ∷ [] → atoms_view new ≡ take (i + 1) ds
taken_more ds atoms new i x before at is =
    pushed_view atoms new x is ∙ ap (λ (ys : List PureAtom). ys ++ atom_view x ∷ []) before ∙ sym (take_at ds i (atom_view x) at)

pub plain_pushed : (vars : List Sort) (atoms new : List Atom) (x : Atom) → ArePlain vars (atoms_view atoms) → IsPlainAtom vars (atom_view x) → new ≡ atoms ++ x ∷ [] → ArePlain vars (atoms_view new)
plain_pushed vars atoms new x all plain is =
    subst (ArePlain vars) (sym (pushed_view atoms new x is)) (plain_more vars (atoms_view atoms) (atom_view x ∷ []) all (plain_one vars (atom_view x) plain))

pub each_next : (vars : List Sort) (list more : List PureAtom) (i : ℕ) (a b : PureAtom) (ps new : List PureProof) (p : PureProof) → slice_get more i ≡ Some a → b ≡ a → CloseEach vars list (take i more) (from_list ps) → Closes vars (list ++ b ∷ []) p → new ≡ ps ++ p ∷ [] → CloseEach vars list (take (i + 1) more) (from_list new)
each_next vars list more i a b ps new p at same before closes is =
    let here : Closes vars (list ++ a ∷ []) p = subst (λ c. Closes vars (list ++ c ∷ []) p) same closes in
    subst (λ (qs : List PureProof). CloseEach vars list (take (i + 1) more) (from_list qs)) (sym is)
    (subst (λ (bs : List PureAtom). CloseEach vars list bs (from_list (ps ++ p ∷ []))) (sym (take_at more i a at)) (each_and_one vars list (take i more) ps a p before here))

pub true_next : (v : List PureValue) (atoms : List PureAtom) (i : ℕ) (a : PureAtom) → slice_get atoms i ≡ Some a → all_true v (take i atoms) ≡ true → truth v a ≡ true → all_true v (take (i + 1) atoms) ≡ true
true_next v atoms i a at before is =
    ap (all_true v) (take_at atoms i a at) ∙ list_all-append (truth v) (take i atoms) (a ∷ []) ∙ and_from (all_true v (take i atoms)) (all_true v (a ∷ [])) before (and_from (truth v a) true is refl)

-- ---- lists that are cut

pub take_pop : {X : Type 0} (ys xs : List X) (x : X) → ys ++ x ∷ [] ≡ take (length (ys ++ x ∷ [])) xs → ys ≡ take (length ys) xs
take_pop [] [] x h = refl
take_pop [] (z ∷ xs) x h = refl
take_pop (y ∷ ys) [] x h = cc
take_pop (y ∷ ys) (z ∷ xs) x h =
    let first : y ≡ z = cc in
    let rest : ys ++ x ∷ [] ≡ take (length (ys ++ x ∷ [])) xs = cc in
    let more = take_pop ys xs x rest in
    λ i. first i ∷ more i

-- both lists begin alike, one atom further
pub take_same : (left right : List PureAtom) (i : ℕ) (a : PureAtom) → take i left ≡ take i right → slice_get left i ≡ Some a → slice_get right i ≡ Some a → take (i + 1) left ≡ take (i + 1) right
take_same left right i a same at_left at_right = take_at left i a at_left ∙ ap (λ (xs : List PureAtom). xs ++ a ∷ []) same ∙ sym (take_at right i a at_right)

pub split_last : {X : Type 0} (xs : List X) → 1 ≤ length xs → (ys : List X) × ((x : X) × (xs ≡ ys ++ x ∷ []))
split_last [] long = absurd (omega (arith, long))
split_last (x ∷ []) long = ([], (x, refl))
split_last (x ∷ y ∷ xs) long = let (ys, (z, is)) = split_last (y ∷ xs) (omega arith) in (x ∷ ys, (z, ap (λ zs. x ∷ zs) is))

pub length-last : {X : Type 0} (ys : List X) (x : X) → length (ys ++ x ∷ []) ≡ length ys + 1
length-last [] x = refl
length-last (y ∷ ys) x = let rest = length-last ys x in omega (arith, rest)

pub views_taken : (n : ℕ) (atoms new : List Atom) → new ≡ take n atoms → atoms_view new ≡ take n (atoms_view atoms)
views_taken n atoms new is = ap atoms_view is ∙ sym (take-map atom_view n atoms)
