-- Nodes as the code has them.
use Rattle.std.proofs.Common.{◌≡◌, ⊎_elim, ℕ, zero, suc, ◌+◌, ◌<◌, ◌≤◌, List, [], ◌∷◌, ◌++◌, map, drop, length, get_or, Bool, true, if◌then◌else◌, Result, Ok, Err, Some, None, slice_get, refl, sym, ap, ◌∙◌, subst, arith}
use Rattle.std.specs.Prelude.{IfOk}
use Rattle.std.specs.Option.{option_map}
use Rattle.std.proofs.lemmas.Bool.{cases_eq}
use Rattle.std.proofs.lemmas.List.{length-map, map-append}
use Rattle.std.proofs.lemmas.Option.{slice_get-map, slice_get_read, slice_get_within, same_Some}
use Rattle.pure_terms.specs.Equality.{same_term}
use Rattle.pure_terms.specs.EqualityLaws.{same_term-same}
use Rattle.pure_terms.specs.Pure.{PureTerm}
use Rattle.pure_terms.specs.View.{term_view}
use Rattle.equality_core.specs.declared.nodes.Node.{Node}
use Rattle.equality_core.specs.Nodes.{PureNode, node_view, root_of, IsFound, alone}
use Rattle.equality_core.proofs.Noding.{last_found}

pub view_at : (items : List Node) (i : ℕ) (node : Node) → i < length items → node ≡ get_or items i node → slice_get (map node_view items) i ≡ Some (node_view node)
view_at items i node below is = slice_get-map node_view items i ∙ ap (option_map node_view) (slice_get_read items (length items) i node refl below is)

root-first : (nodes : List PureNode) (i : ℕ) (node : PureNode) (t : PureTerm) → slice_get nodes i ≡ Some node → same_term node.term t ≡ true → root_of (drop i nodes) t ≡ Some node.root
root-first [] i node t at same = cc
root-first (n ∷ ns) zero node t at same = ap (λ (b : Bool). if b then Some n.root else root_of ns t) (ap (λ m. same_term m.term t) (same_Some n node at) ∙ same) ∙ ap (λ m. Some m.root) (same_Some n node at)
root-first (n ∷ ns) (suc i) node t at same = root-first ns i node t at same

map-drop : (items : List Node) (i : ℕ) → map node_view (drop i items) ≡ drop i (map node_view items)
map-drop items zero = refl
map-drop [] (suc i) = refl
map-drop (x ∷ xs) (suc i) = map-drop xs i

pub found_at : (items : List Node) (i : ℕ) (node : Node) (t : PureTerm) → i < length items → node ≡ get_or items i node → same_term (term_view node.term) t ≡ true → root_of (map node_view items) t ≡ root_of (map node_view (drop i items)) t → IsFound (map node_view items) t i
found_at items i node t below is same before =
    let at = view_at items i node below is in
    record {
      node = node_view node;
      at = at;
      term = same_term-same (term_view node.term) t same;
      root = before ∙ ap (λ ns. root_of ns t) (map-drop items i) ∙ root-first (map node_view items) i (node_view node) t at same;
    }

pub less_items : (items : List Node) (i : ℕ) → i < length (map node_view items) → i < length items
less_items items i h = subst (λ n. i < n) (length-map items node_view) h

pub same_read : (items : List Node) (i : ℕ) (x y : Node) → i < length items → x ≡ get_or items i x → y ≡ get_or items i y → x ≡ y
same_read items i x y below at_x at_y = same_Some x y (sym (slice_get_read items (length items) i x refl below at_x) ∙ slice_get_read items (length items) i y refl below at_y)

-- what follows of the value in an Ok
pub ok_then : {T E : Type 0} (r : Result T E) (P Q : T → Type 0) → ((x : T) → P x → Q x) → IfOk r P → IfOk r Q
ok_then (Ok x) P Q each h = each x h
ok_then (Err e) P Q each h = h

-- a node behind the others is found where there was none
pub found_new : (old new : List Node) (node : Node) (t : PureTerm) (place : ℕ) → new ≡ old ++ node ∷ [] → term_view node.term ≡ t → node.root ≡ length old → node.chain.items ≡ [] → place ≡ length old → root_of (map node_view old) t ≡ None → IsFound (map node_view new) t place
found_new old new node t place pushed term root chain last none =
    let size : length old ≡ length (map node_view old) = sym (length-map old node_view) in
    let is : map node_view new ≡ map node_view old ++ alone (length (map node_view old)) t ∷ [] =
    ap (map node_view) pushed ∙ map-append node_view old (node ∷ []) ∙ (λ i. map node_view old ++ record { term = term i; root = (root ∙ size) i; chain = chain i } ∷ []) in
    subst (λ ns. IsFound ns t place) (sym is) (subst (IsFound (map node_view old ++ alone (length (map node_view old)) t ∷ []) t) (sym (last ∙ size)) (last_found (map node_view old) t none))

-- the node at a place is what the code has there
pub node_is : (items : List Node) (i : ℕ) (node : Node) (n : PureNode) → slice_get (map node_view items) i ≡ Some n → node ≡ get_or items i node → n ≡ node_view node
node_is items i node n at is = same_Some n (node_view node) (sym at ∙ view_at items i node (less_items items i (slice_get_within (map node_view items) i n at)) is)

pub below_items : (items : List Node) (i : ℕ) (n : PureNode) → slice_get (map node_view items) i ≡ Some n → i < length items
below_items items i n at = less_items items i (slice_get_within (map node_view items) i n at)

-- ---- what holds of each item, as a loop goes over them

module _ {X Y : Type 0} (view : X → Y) (items : List X) (P : ℕ → Y → Type 0) (i : ℕ) where
  abbrev pub EachBefore : ℕ → Type 0
  EachBefore n = (k : ℕ) (y : Y) → k < n → slice_get (map view items) k ≡ Some y → P k y

  pub each_more : (x : X) → i < length items → x ≡ get_or items i x → EachBefore i → P i (view x) → EachBefore (i + 1)
  each_more x below is before here k y less at = ⊎_elim (λ e. last e) (λ other. before k y (omega (arith, less, other)) at) (cases_eq k i) where
    last : k ≡ i → P k y
    last e =
        let there : slice_get (map view items) i ≡ Some (view x) = slice_get-map view items i ∙ ap (option_map view) (slice_get_read items (length items) i x refl below is) in
        subst (λ n. P n y) (sym e) (subst (P i) (same_Some (view x) y (sym there ∙ ap (slice_get (map view items)) (sym e) ∙ at)) here)

  pub each_all : length items ≤ i → EachBefore i → (k : ℕ) (y : Y) → slice_get (map view items) k ≡ Some y → P k y
  each_all past before k y at =
      let within : k < length (map view items) = slice_get_within (map view items) k y at in
      let size : length (map view items) ≡ length items = length-map items view in
      before k y (omega (arith, within, size, past)) at
