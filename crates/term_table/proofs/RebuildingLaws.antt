-- Terms that get the parts that numbers name.
use Rattle.std.proofs.Common.{◌≡◌, ℕ, ◌+◌, ◌<◌, List, [], ◌∷◌, ◌++◌, map, take, length, slice_get, get_or, Some, refl, sym, ◌∙◌, ap, subst, arith, suc}
use Rattle.std.proofs.lemmas.List.{length-map, map-append}
use Rattle.std.proofs.lemmas.List.Elements.{All-head, All-tail}
use Rattle.std.proofs.lemmas.Option.{get_or_from_slice_get, slice_get-get_or, slice_get_read}
use Rattle.std.specs.List.{All, AllZip}
use Rattle.gil_values.proofs.Lists.{slice_get-read}
use Rattle.gil_values.specs.declared.operators.BinOp.{BinOp}
use Rattle.gil_values.specs.declared.operators.UnOp.{UnOp}
use Rattle.pure_terms.proofs.Evaluated.{take-push}
use Rattle.pure_terms.specs.declared.terms.Term.{Term}
use Rattle.pure_terms.specs.Pure.{PureTerm, literal, variable, list_of, unary_of, binary_of, to_list}
use Rattle.pure_terms.specs.View.{term_view}
use Rattle.term_table.specs.declared.nodes.Root.{Root}
use Rattle.term_table.specs.Nodes.{no_part, root_from}
use Rattle.term_table.specs.Tables.{IsBuilt, NamesBelow, parts_of, term_at, with_parts}

-- a term that was read
pub term_read : (ts : List Term) (i : ℕ) (t : Term) → i < length ts → t ≡ get_or ts i t → term_at (map term_view ts) i ≡ term_view t
term_read ts i t below is = get_or_from_slice_get (map term_view ts) i (term_view t) no_part (slice_get-read term_view ts i t below is)

-- one term more
pub map-next : {A B : Type 0} (f : A → B) (xs : List A) (i : ℕ) (x : A) → slice_get xs i ≡ Some x → map f (take (i + 1) xs) ≡ map f (take i xs) ++ f x ∷ []
map-next f xs i x at =
    let step : i + 1 ≡ suc i = omega arith in
    ap (λ n. map f (take n xs)) step ∙ (ap (map f) (take-push xs i x at) ∙ map-append f (take i xs) (x ∷ []))

pub copied_next : (ts : List Term) (ps : List ℕ) (i p j : ℕ) (t : Term) (old new : List PureTerm) (u : PureTerm) → All (λ q. q < length ts) ps
    → i < length ps → p ≡ get_or ps i p → j ≡ p → t ≡ get_or ts j t → u ≡ term_view t → old ≡ map (term_at (map term_view ts)) (take i ps)
    → new ≡ old ++ u ∷ [] → new ≡ map (term_at (map term_view ts)) (take (i + 1) ps)
copied_next ts ps i p j t old new u all below part place is same before push =
    let within : p < length ts = subst (λ q. q < length ts) (sym part) (all i p below) in
    let term : term_at (map term_view ts) p ≡ term_view t = term_read ts p t within (subst (λ k. t ≡ get_or ts k t) place is) in
    let next = map-next (term_at (map term_view ts)) ps i p (slice_get_read ps (length ps) i p refl below part) in
    push ∙ (λ k. before k ++ (same ∙ sym term) k ∷ []) ∙ sym next

abbrev parts_list : PureTerm → List PureTerm
parts_list t = to_list (parts_of t)

one_item : (ps : List ℕ) (p : ℕ) → length ps ≡ 1 → p ≡ get_or ps 0 p → ps ≡ p ∷ []
one_item [] p many is = absurd (omega (arith, many))
one_item (q ∷ []) p many is = λ i. sym is i ∷ []
one_item (q ∷ r ∷ ps) p many is = absurd (omega (arith, many))

two_items : (ps : List ℕ) (p q : ℕ) → length ps ≡ 2 → p ≡ get_or ps 0 p → q ≡ get_or ps 1 q → ps ≡ p ∷ q ∷ []
two_items [] p q many first second = absurd (omega (arith, many))
two_items (r ∷ []) p q many first second = absurd (omega (arith, many))
two_items (r ∷ s ∷ []) p q many first second = λ i. sym first i ∷ sym second i ∷ []
two_items (r ∷ s ∷ w ∷ ps) p q many first second = absurd (omega (arith, many))

pub with_one : (ts : List PureTerm) (t u : PureTerm) (op : UnOp) (ps : List ℕ) (p : ℕ) → t ≡ unary_of op u → length ps ≡ length (parts_list t)
    → p ≡ get_or ps 0 p → unary_of op (term_at ts p) ≡ with_parts t (map (term_at ts) ps)
with_one ts t u op ps p is many first =
    let one = one_item ps p (many ∙ ap (λ s. length (parts_list s)) is) first in
    λ i. with_parts (sym is i) (map (term_at ts) (sym one i))

pub with_two : (ts : List PureTerm) (t u w : PureTerm) (op : BinOp) (ps : List ℕ) (p q : ℕ) → t ≡ binary_of op u w
    → length ps ≡ length (parts_list t) → p ≡ get_or ps 0 p → q ≡ get_or ps 1 q
    → binary_of op (term_at ts p) (term_at ts q) ≡ with_parts t (map (term_at ts) ps)
with_two ts t u w op ps p q is many first second =
    let two = two_items ps p q (many ∙ ap (λ s. length (parts_list s)) is) first second in
    λ i. with_parts (sym is i) (map (term_at ts) (sym two i))

-- a term is built from its root and its new parts
built_with : (t : PureTerm) (us : List PureTerm) → length us ≡ length (parts_list t) → IsBuilt (root_from (with_parts t us)) us (with_parts t us)
built_with (literal l) [] many = (refl, refl)
built_with (literal l) (u ∷ us) many = absurd (omega (arith, many))
built_with (variable x) [] many = (refl, refl)
built_with (variable x) (u ∷ us) many = absurd (omega (arith, many))
built_with (list_of ts) us many = refl
built_with (unary_of op t) [] many = absurd (omega (arith, many))
built_with (unary_of op t) (u ∷ []) many = (u, refl, refl)
built_with (unary_of op t) (u ∷ w ∷ us) many = absurd (omega (arith, many))
built_with (binary_of op s t) [] many = absurd (omega (arith, many))
built_with (binary_of op s t) (u ∷ []) many = absurd (omega (arith, many))
built_with (binary_of op s t) (u ∷ w ∷ []) many = (u, w, refl, refl)
built_with (binary_of op s t) (u ∷ w ∷ v ∷ us) many = absurd (omega (arith, many))

all_named : (ts : List PureTerm) (n : ℕ) → n ≡ length ts → (ps : List ℕ) → All (λ p. p < n) ps → AllZip (NamesBelow ts (length ts)) ps (map (term_at ts) ps)
all_named ts n e [] all = tt
all_named ts n e (p ∷ ps) all =
    let below : p < length ts = subst (λ m. p < m) e (All-head (λ q. q < n) p ps all) in
    ((below, slice_get-get_or ts p no_part below), all_named ts n e ps (All-tail (λ q. q < n) p ps all))

pub rebuilt_built : (ts : List PureTerm) (n : ℕ) (s t : PureTerm) (root : Root) (ps : List ℕ) → n ≡ length ts → t ≡ with_parts s (map (term_at ts) ps)
    → root ≡ root_from t → length ps ≡ length (parts_list s) → All (λ p. p < n) ps
    → (us : List PureTerm) × IsBuilt root us t × AllZip (NamesBelow ts (length ts)) ps us
rebuilt_built ts n s t root ps e is at_root many all = (
  map (term_at ts) ps,
  subst (λ r. IsBuilt r (map (term_at ts) ps) t) (sym at_root)
      (subst (λ u. IsBuilt (root_from u) (map (term_at ts) ps) u) (sym is)
      (built_with s (map (term_at ts) ps) (length-map ps (term_at ts) ∙ many))),
  all_named ts n e ps all,
)
