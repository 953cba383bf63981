-- The names that stand in items, as a list and as a test.
use Rattle.std.proofs.Common.{◌≡◌, ℕ, List, [], ◌∷◌, ◌++◌, ◌||◌, refl, sym, ap, ◌∙◌, append_assoc}
use Rattle.std.specs.List.{flat_map}
use Rattle.std.specs.Str.{bytes_eq}
use Rattle.std.proofs.lemmas.List.Folds.{list_any-append}
use Rattle.gil_values.specs.declared.operators.BinOp.{BinOp}
use Rattle.gil_syntax.specs.Pure.{PureExpr, binary_of, list_of, from_list, PureItem, pure, uses}
use Rattle.gil_syntax.specs.Subexpressions.{subexpressions, subexpressions_of_all, own_names, names_of}
use Rattle.gil_syntax.specs.Valid.{is_among}
use Rattle.assert_logic.specs.Names.{named_among, named_by_item, named_by_items}
use Rattle.sym_states.specs.Standing.{names_of_item}

flat_append : {X Y : Type 0} (f : X → List Y) (xs ys : List X) → flat_map f (xs ++ ys) ≡ flat_map f xs ++ flat_map f ys
flat_append f [] ys = refl
flat_append f (x ∷ xs) ys = ap (λ zs. f x ++ zs) (flat_append f xs ys) ∙ sym (append_assoc (f x) (flat_map f xs) (flat_map f ys))

pub names_of_pair : (op : BinOp) (d e : PureExpr) → names_of (binary_of op d e) ≡ names_of d ++ names_of e
names_of_pair op d e = flat_append own_names (subexpressions d) (subexpressions e)

pub names_of_elements : (es : List PureExpr) → names_of (list_of (from_list es)) ≡ flat_map names_of es
names_of_elements [] = refl
names_of_elements (e ∷ es) = flat_append own_names (subexpressions e) (subexpressions_of_all (from_list es)) ∙ ap (λ xs. names_of e ++ xs) (names_of_elements es)

among_all : (es : List PureExpr) (x : List ℕ) → is_among (flat_map names_of es) x ≡ named_among es x
among_all [] x = refl
among_all (e ∷ es) x = list_any-append (bytes_eq x) (names_of e) (flat_map names_of es) ∙ ap (λ b. is_among (names_of e) x || b) (among_all es x)

among_item : (item : PureItem) (x : List ℕ) → is_among (names_of_item item) x ≡ named_by_item item x
among_item (pure e) x = refl
among_item (uses u) x =
    list_any-append (bytes_eq x) (flat_map names_of u.ins) (flat_map names_of u.outs) ∙ (λ i. among_all u.ins x i || among_all u.outs x i)

pub among_items : (items : List PureItem) (x : List ℕ) → is_among (flat_map names_of_item items) x ≡ named_by_items items x
among_items [] x = refl
among_items (item ∷ items) x =
    list_any-append (bytes_eq x) (names_of_item item) (flat_map names_of_item items) ∙ (λ i. among_item item x i || among_items items x i)
