-- What stands in an expression, level by level, and how many nodes it has.
use Rattle.std.proofs.Common.{◌≡◌, ◌<◌, ◌≤◌, ◌+◌, ℕ, zero, suc, List, [], ◌∷◌, ◌++◌, map, take, get_or, slice_get, length, Bool, true, false, ◌||◌, Some, refl, sym, ap, ◌∙◌, subst, rules, arith, true≢false}
use Rattle.std.specs.List.{list_any, flat_map}
use Rattle.std.proofs.lemmas.List.{length-append, take_all}
use Rattle.gil_syntax.proofs.NameLemmas.{map-take_read}
use Rattle.std.proofs.lemmas.List.Folds.{list_any-append, list_any_at}
use Rattle.std.proofs.lemmas.Option.{slice_get_within}
use Rattle.gil_values.proofs.Lists.{slice_get-read, get_or-found}
use Rattle.gil_values.specs.declared.operators.BinOp.{BinOp}
use Rattle.gil_values.specs.declared.tree.Value.{Value}
use Rattle.gil_values.specs.View.{value_view}
use Rattle.gil_syntax.specs.declared.expressions.Expr
use Rattle.gil_syntax.specs.declared.expressions.Expr.{Expr, the_lemmas}
use Rattle.gil_syntax.specs.declared.expressions.Exprs.{Exprs}
use Rattle.gil_syntax.specs.Pure.{PureExpr, literal, name, logical, list_of, binary_of, from_list, PurePredUse, PureItem}
use Rattle.gil_syntax.specs.View.{expr_view, exprs_view}
use Rattle.gil_syntax.specs.Subexpressions.{subexpressions, subexpressions_of_all, exprs_of_item, uses_of_item}
use Rattle.gil_syntax.specs.Found.{stands_in, stands_among}

pub expr_view-Lit : (v : Value) → expr_view (Expr.Lit v) ≡ literal (value_view v)
expr_view-Lit v = search (rules, the_lemmas)

pub expr_view-Name : (x : List ℕ) → expr_view (Expr.Name x) ≡ name x
expr_view-Name x = search (rules, the_lemmas)

pub expr_view-Logical : (x : List ℕ) → expr_view (Expr.Logical x) ≡ logical x
expr_view-Logical x = search (rules, the_lemmas)

pub expr_view-List : (es : Exprs) → expr_view (Expr.List es) ≡ list_of (from_list (exprs_view es))
expr_view-List es = search (rules, the_lemmas)

-- how many nodes an expression has, and those of a list
abbrev pub node_count : PureExpr → ℕ
node_count e = length (subexpressions e)

abbrev pub nodes_count : List PureExpr → ℕ
nodes_count es = length (subexpressions_of_all (from_list es))

-- what stands in the elements of a list
pub stands_in-elements : (node : PureExpr → Bool) (es : List PureExpr) → list_any node (subexpressions_of_all (from_list es)) ≡ list_any (stands_in node) es
stands_in-elements node [] = refl
stands_in-elements node (e ∷ es) = list_any-append node (subexpressions e) (subexpressions_of_all (from_list es)) ∙ ap (λ b. list_any node (subexpressions e) || b) (stands_in-elements node es)

-- an element has no more nodes than its list
pub node_count-element : (es : List PureExpr) (i : ℕ) (e : PureExpr) → slice_get es i ≡ Some e → node_count e ≤ nodes_count es
node_count-element [] i e is = absurd (cc)
node_count-element (d ∷ es) zero e is =
    let same : d ≡ e = cc in
    subst (λ f. node_count f ≤ nodes_count (d ∷ es)) same (omega (arith, length-append (subexpressions d) (subexpressions_of_all (from_list es))))
node_count-element (d ∷ es) (suc i) e is =
    omega (arith, node_count-element es i e is, length-append (subexpressions d) (subexpressions_of_all (from_list es)))

-- the element that was read from a list of expressions, as its pure data
pub element_read : (items : List Expr) (es : List PureExpr) (i : ℕ) (e : Expr) → map expr_view items ≡ es → i < length items → e ≡ get_or items i e → slice_get es i ≡ Some (expr_view e)
element_read items es i e seen below is = subst (λ ds. slice_get ds i ≡ Some (expr_view e)) seen (slice_get-read expr_view items i e below is)

-- what stands in an element stands in the list
pub list_any-element : {X : Type 0} (test : X → Bool) (xs : List X) (i : ℕ) (x : X) → slice_get xs i ≡ Some x → test x ≡ true → list_any test xs ≡ true
list_any-element test xs i x is holds = list_any_at test xs i x (slice_get_within xs i x is) (ap test (get_or-found xs i x x is) ∙ holds)

-- a node that isn't sought, and what stands in its parts
module _ (node : PureExpr → Bool) (whole : Expr) (isnt : node (expr_view whole) ≡ false) where
  pub stands_in-list : (es : Exprs) → whole ≡ Expr.List es → stands_in node (expr_view whole) ≡ list_any (stands_in node) (exprs_view es)
  stands_in-list es is =
      let seen : expr_view whole ≡ list_of (from_list (exprs_view es)) = ap expr_view is ∙ expr_view-List es in
      ap (stands_in node) seen ∙ ap (λ b. b || list_any node (subexpressions_of_all (from_list (exprs_view es)))) (ap node (sym seen) ∙ isnt) ∙ stands_in-elements node (exprs_view es)

  pub stands_in-pair : (op : BinOp) (d e : PureExpr) → expr_view whole ≡ binary_of op d e → stands_in node (expr_view whole) ≡ (stands_in node d || stands_in node e)
  stands_in-pair op d e seen =
      ap (stands_in node) seen ∙ ap (λ b. b || list_any node (subexpressions d ++ subexpressions e)) (ap node (sym seen) ∙ isnt) ∙ list_any-append node (subexpressions d) (subexpressions e)

pub list_any-flat_map : {X Y : Type 0} (test : Y → Bool) (f : X → List Y) (xs : List X) → list_any test (flat_map f xs) ≡ list_any (λ x. list_any test (f x)) xs
list_any-flat_map test f [] = refl
list_any-flat_map test f (x ∷ xs) = list_any-append test (f x) (flat_map f xs) ∙ ap (λ b. list_any test (f x) || b) (list_any-flat_map test f xs)

or_left : (a b : Bool) → a ≡ true → (a || b) ≡ true
or_left a b is = ap (λ c. c || b) is

or_right : (a b : Bool) → b ≡ true → (a || b) ≡ true
or_right true b is = refl
or_right false b is = is

-- what stands in an item stands in the assertion
pub stands_among-item : (node : PureExpr → Bool) (used : PurePredUse → Bool) (items : List PureItem) (i : ℕ) (item : PureItem) → slice_get items i ≡ Some item
    → stands_among node used (exprs_of_item item) (uses_of_item item) ≡ true → stands_among node used (flat_map exprs_of_item items) (flat_map uses_of_item items) ≡ true
stands_among-item node used items i item is holds = by (list_any used (uses_of_item item)) (list_any (stands_in node) (exprs_of_item item)) refl refl holds
  where
    by : (a b : Bool) → list_any used (uses_of_item item) ≡ a → list_any (stands_in node) (exprs_of_item item) ≡ b → (a || b) ≡ true
        → stands_among node used (flat_map exprs_of_item items) (flat_map uses_of_item items) ≡ true
    by true b e f h = or_left _ _ (list_any-flat_map used uses_of_item items ∙ list_any-element (λ x. list_any used (uses_of_item x)) items i item is e)
    by false true e f h = or_right (list_any used (flat_map uses_of_item items)) _ (list_any-flat_map (stands_in node) exprs_of_item items ∙ list_any-element (λ x. list_any (stands_in node) (exprs_of_item x)) items i item is f)
    by false false e f h = absurd (true≢false (sym h))

-- the item that was read from a slice of a list, as its pure data
pub read_seen : {X Y : Type 0} (f : X → Y) (slice xs : List X) (i : ℕ) (x : X) → slice ≡ xs → i < length slice → x ≡ get_or slice i x → slice_get (map f xs) i ≡ Some (f x)
read_seen f slice xs i x same below is = subst (λ ys. slice_get (map f ys) i ≡ Some (f x)) same (slice_get-read f slice i x below is)

-- a test that fails of the first items, and of the next one
pub list_any-next : {X Y : Type 0} (test : Y → Bool) (f : X → Y) (slice : List X) (i : ℕ) (x : X) → i < length slice → x ≡ get_or slice i x
    → list_any test (map f (take i slice)) ≡ false → test (f x) ≡ false → list_any test (map f (take (i + 1) slice)) ≡ false
list_any-next test f slice i x below is before fails =
    ap (list_any test) (map-take_read f slice i x below is)
    ∙ list_any-append test (map f (take i slice)) (f x ∷ [])
    ∙ (λ j. before j || (fails j || false))

-- and of all
pub list_any-all : {X Y : Type 0} (test : Y → Bool) (f : X → Y) (slice xs : List X) (i : ℕ) → slice ≡ xs → length slice ≤ i
    → list_any test (map f (take i slice)) ≡ false → list_any test (map f xs) ≡ false
list_any-all test f slice xs i same past before = ap (λ ys. list_any test (map f ys)) (sym same ∙ sym (take_all i slice past)) ∙ before
