-- Where nothing that is ill made stands, all is well made.
use Rattle.std.proofs.Common.{◌≡◌, List, [], ◌∷◌, map, Bool, true, false, not, ◌||◌, ◌&&◌, refl, sym, ap, ◌∙◌}
use Rattle.std.specs.List.{list_any, list_all, flat_map}
use Rattle.std.proofs.lemmas.List.Folds.{list_all-append, list_all-map}
use Rattle.gil_syntax.specs.Pure.{PureExpr, PurePredUse, PureItem}
use Rattle.gil_syntax.specs.Subexpressions.{subexpressions, exprs_of_item, uses_of_item}
use Rattle.gil_syntax.specs.WellMade.{is_well_made_node, is_well_made_expr, is_well_made_assertion}
use Rattle.gil_syntax.specs.Found.{stands_in, stands_among, stands_in_assertion}
use Rattle.gil_syntax.specs.Sought.{is_ill_made, no_use}
use Rattle.gil_syntax.proofs.PieceLemmas.{list_any-never}

not_any : {X : Type 0} (test : X → Bool) (xs : List X) → not (list_any (λ x. not (test x)) xs) ≡ list_all test xs
not_any test [] = refl
not_any test (x ∷ xs) = by (test x) (not_any test xs)
  where
    by : (b : Bool) → not (list_any (λ y. not (test y)) xs) ≡ list_all test xs → not (not b || list_any (λ y. not (test y)) xs) ≡ (b && list_all test xs)
    by true rest = rest
    by false rest = refl

turned : (a b : Bool) → not a ≡ b → a ≡ not b
turned true b is = ap not is
turned false b is = ap not is

expr_made : (e : PureExpr) → stands_in is_ill_made e ≡ not (is_well_made_expr e)
expr_made e = turned (stands_in is_ill_made e) (is_well_made_expr e) (not_any is_well_made_node (subexpressions e))

pub all_made : (es : List PureExpr) (us : List PurePredUse) → not (stands_among is_ill_made no_use es us) ≡ list_all is_well_made_expr es
all_made es us =
    (λ j. not (list_any-never us j || list_any (λ e. expr_made e j) es))
    ∙ not_any is_well_made_expr es

list_all-flat_map : {X Y : Type 0} (test : Y → Bool) (f : X → List Y) (xs : List X) → list_all test (flat_map f xs) ≡ list_all (λ x. list_all test (f x)) xs
list_all-flat_map test f [] = refl
list_all-flat_map test f (x ∷ xs) = list_all-append test (f x) (flat_map f xs) ∙ ap (λ b. list_all test (f x) && b) (list_all-flat_map test f xs)

assertion_made : (items : List PureItem) → not (stands_in_assertion is_ill_made no_use items) ≡ is_well_made_assertion items
assertion_made items = all_made (flat_map exprs_of_item items) (flat_map uses_of_item items) ∙ list_all-flat_map is_well_made_expr exprs_of_item items

pub assertions_made : (ass : List (List PureItem)) → not (list_any (stands_in_assertion is_ill_made no_use) ass) ≡ list_all is_well_made_assertion ass
assertions_made ass =
    (λ j. not (list_any (λ items. turned (stands_in_assertion is_ill_made no_use items) (is_well_made_assertion items) (assertion_made items) j) ass))
    ∙ not_any is_well_made_assertion ass

-- a list of a program, seen or not
pub made_seen : {X Y : Type 0} (test : Y → Bool) (view : X → Y) (slice xs : List X) (b : Bool) → slice ≡ xs → b ≡ list_all (λ x. test (view x)) slice → b ≡ list_all test (map view xs)
made_seen test view slice xs b same is = is ∙ ap (list_all (λ x. test (view x))) same ∙ sym (list_all-map test view xs)
