-- Wide literals, and predicates used with other numbers of ins and outs, in the pieces of items.
use Rattle.std.proofs.Common.{◌≡◌, ◌<◌, ◌+◌, ℕ, List, [], ◌∷◌, ◌++◌, map, take, get_or, length, Bool, true, false, not, ◌||◌, ◌&&◌, ◌==◌, cond, Option, Some, None, is_some, slice_get, refl, sym, ap, ◌∙◌, true≢false}
use Rattle.std.specs.List.{list_any}
use Rattle.std.specs.Option.{option_map}
use Rattle.std.specs.Str.{bytes_eq}
use Rattle.std.specs.Bool.{Decides}
use Rattle.std.specs.Cmp.Lexicographic.{pointwise}
use Rattle.std.proofs.Math.Bool.{or-false}
use Rattle.std.proofs.lemmas.List.{take_more}
use Rattle.std.proofs.lemmas.Slice.Eq.{bytes_eq-Decides, slice_eq-Decides}
use Rattle.gil_syntax.specs.declared.assertions.Param.{Param}
use Rattle.gil_syntax.specs.Pure.{PureExpr, literal, name, logical, list_of, unary_of, binary_of, PurePredUse, PureItem, PureNumberedCommand, PureParts}
use Rattle.gil_syntax.specs.Subexpressions.{subexpressions, own_literals, literals_of}
use Rattle.gil_syntax.specs.Valid.{is_among, has_twice, Signature, predicates_of, Piece, piece_of_assertion, piece_of_command, fits, misuses, is_wide}
use Rattle.gil_syntax.specs.ByName.{find_signature, shape, AreDistinct}
use Rattle.gil_syntax.specs.Found.{stands_in, stands_among, stands_in_assertion, stands_in_command}
use Rattle.gil_syntax.specs.Sought.{is_wide_literal, no_node, no_use}
use Rattle.gil_syntax.proofs.BodyLemmas.{list_any-map}
use Rattle.gil_syntax.proofs.ByNameLemmas.{is_named-find, no_shape}
use Rattle.gil_syntax.proofs.ExpressionLemmas.{list_any-flat_map}
use Rattle.gil_syntax.proofs.NameLemmas.{bytes_eq-sym, map-take_read}

pub list_any-never : {X : Type 0} (xs : List X) → list_any (λ x. false) xs ≡ false
list_any-never [] = refl
list_any-never (x ∷ xs) = list_any-never xs

-- ---- literals

own_wide : (n : PureExpr) → list_any is_wide (own_literals n) ≡ is_wide_literal n
own_wide (literal v) = or-false (is_wide v)
own_wide (name x) = refl
own_wide (logical x) = refl
own_wide (list_of es) = refl
own_wide (unary_of op e) = refl
own_wide (binary_of op d e) = refl

wide_in : (e : PureExpr) → stands_in is_wide_literal e ≡ list_any is_wide (literals_of e)
wide_in e = (λ j. list_any (λ n. sym (own_wide n) j) (subexpressions e)) ∙ sym (list_any-flat_map is_wide own_literals (subexpressions e))

abbrev has_wide : Piece → Bool
has_wide c = list_any (λ e. list_any is_wide (literals_of e)) c.exprs

wide_piece : (c : Piece) → stands_among is_wide_literal no_use c.exprs c.used ≡ has_wide c
wide_piece c = (λ j. list_any-never c.used j || list_any (λ e. wide_in e j) c.exprs)

pub wide_assertions : (ls : List Param) (ass : List (List PureItem)) → list_any (stands_in_assertion is_wide_literal no_use) ass ≡ list_any has_wide (map (piece_of_assertion ls) ass)
wide_assertions ls ass = (λ j. list_any (λ items. wide_piece (piece_of_assertion ls items) j) ass) ∙ sym (list_any-map has_wide (piece_of_assertion ls) ass)

pub wide_commands : (logicals : List (List ℕ)) (cs : List PureNumberedCommand)
    → list_any (stands_in_command is_wide_literal no_use) cs ≡ list_any has_wide (map (λ c. piece_of_command logicals c.command) cs)
wide_commands logicals cs = (λ j. list_any (λ c. wide_piece (piece_of_command logicals c.command) j) cs) ∙ sym (list_any-map has_wide (λ c. piece_of_command logicals c.command) cs)

-- ---- uses

no_node_in : (e : PureExpr) → stands_in no_node e ≡ false
no_node_in e = list_any-never (subexpressions e)

module _ (p : PureParts) where
  abbrev has_misuse : Piece → Bool
  has_misuse c = list_any (misuses (predicates_of p)) c.used

  misuse_piece : (c : Piece) → stands_among no_node (misuses (predicates_of p)) c.exprs c.used ≡ has_misuse c
  misuse_piece c = (λ j. has_misuse c || (ap (λ (f : PureExpr → Bool). list_any f c.exprs) (λ i e. no_node_in e i) ∙ list_any-never c.exprs) j) ∙ or-false (has_misuse c)

  pub misused_assertions : (ls : List Param) (ass : List (List PureItem)) → list_any (stands_in_assertion no_node (misuses (predicates_of p))) ass ≡ list_any has_misuse (map (piece_of_assertion ls) ass)
  misused_assertions ls ass = (λ j. list_any (λ items. misuse_piece (piece_of_assertion ls items) j) ass) ∙ sym (list_any-map has_misuse (piece_of_assertion ls) ass)

  pub misused_commands : (logicals : List (List ℕ)) (cs : List PureNumberedCommand)
      → list_any (stands_in_command no_node (misuses (predicates_of p))) cs ≡ list_any has_misuse (map (λ c. piece_of_command logicals c.command) cs)
  misused_commands logicals cs = (λ j. list_any (λ c. misuse_piece (piece_of_command logicals c.command) j) cs) ∙ sym (list_any-map has_misuse (λ c. piece_of_command logicals c.command) cs)

-- ---- one signature for a name

abbrev names_of_signatures : List Signature → List (List ℕ)
names_of_signatures gs = map (λ g. g.name) gs

pub either_false : (a b : Bool) → (a || b) ≡ false → (a ≡ false) × (b ≡ false)
either_false true b is = absurd (true≢false is)
either_false false b is = (refl, is)

-- where no signature has the name, none fits
none_fits : (u : PurePredUse) (gs : List Signature) → is_among (names_of_signatures gs) u.pred ≡ false → list_any (fits u) gs ≡ false
none_fits u [] none = refl
none_fits u (g ∷ gs) none =
    let parts = either_false (bytes_eq u.pred g.name) (is_among (names_of_signatures gs) u.pred) none in
    (λ j. (ap (λ b. b && g.ins == length u.ins && g.outs == length u.outs) (bytes_eq-sym g.name u.pred ∙ parts.0)) j || none_fits u gs parts.1 j)

-- of distinct ones the first that has the name decides
pub first_fits : (u : PurePredUse) (gs : List Signature) (g : Signature) → has_twice (names_of_signatures gs) ≡ false → find_signature gs u.pred ≡ Some g
    → list_any (fits u) gs ≡ (g.ins == length u.ins && g.outs == length u.outs)
first_fits u [] g once found = absurd (cc)
first_fits u (h ∷ hs) g once found = by (bytes_eq h.name u.pred) refl (first_fits u hs g) found
  where
    alone : (is_among (names_of_signatures hs) h.name ≡ false) × (has_twice (names_of_signatures hs) ≡ false)
    alone = either_false (is_among (names_of_signatures hs) h.name) (has_twice (names_of_signatures hs)) once

    by : (b : Bool) → bytes_eq h.name u.pred ≡ b
        → (has_twice (names_of_signatures hs) ≡ false → find_signature hs u.pred ≡ Some g → list_any (fits u) hs ≡ (g.ins == length u.ins && g.outs == length u.outs))
        → cond b (Some h) (find_signature hs u.pred) ≡ Some g
        → ((bytes_eq h.name u.pred && h.ins == length u.ins && h.outs == length u.outs) || list_any (fits u) hs) ≡ (g.ins == length u.ins && g.outs == length u.outs)
    by true e rest found =
        let same : h ≡ g = cc in
        let named : h.name ≡ u.pred = (bytes_eq-Decides h.name u.pred).0 e in
        (λ j. (e j && h.ins == length u.ins && h.outs == length u.outs) || none_fits u hs (ap (is_among (names_of_signatures hs)) (sym named) ∙ alone.0) j)
        ∙ or-false (h.ins == length u.ins && h.outs == length u.outs)
        ∙ ap (λ k. k.ins == length u.ins && k.outs == length u.outs) same
    by false e rest found = ap (λ b. (b && h.ins == length u.ins && h.outs == length u.outs) || list_any (fits u) hs) e ∙ rest alone.1 found

pub misuses-found : (p : PureParts) (u : PurePredUse) (g : Signature) → AreDistinct p → find_signature (predicates_of p) u.pred ≡ Some g
    → misuses (predicates_of p) u ≡ not (g.ins == length u.ins && g.outs == length u.outs)
misuses-found p u g distinct found =
    ap (λ b. b && not (list_any (fits u) (predicates_of p))) (is_named-find (predicates_of p) u.pred ∙ ap is_some found)
    ∙ ap not (first_fits u (predicates_of p) g distinct found)

pub misuses-unknown : (p : PureParts) (u : PurePredUse) → find_signature (predicates_of p) u.pred ≡ None → misuses (predicates_of p) u ≡ false
misuses-unknown p u none = ap (λ b. b && not (list_any (fits u) (predicates_of p))) (is_named-find (predicates_of p) u.pred ∙ ap is_some none)

pub misuses-shape : (p : PureParts) (u : PurePredUse) (x : List ℕ) (ins outs : ℕ) → AreDistinct p → x ≡ u.pred → Some (ins, outs) ≡ option_map shape (find_signature (predicates_of p) x)
    → misuses (predicates_of p) u ≡ not (ins == length u.ins && outs == length u.outs)
misuses-shape p u x ins outs distinct named is = by (find_signature (predicates_of p) u.pred) refl (is ∙ ap (λ y. option_map shape (find_signature (predicates_of p) y)) named)
  where
    by : (o : Option Signature) → find_signature (predicates_of p) u.pred ≡ o → Some (ins, outs) ≡ option_map shape o → misuses (predicates_of p) u ≡ not (ins == length u.ins && outs == length u.outs)
    by None found is = absurd (cc)
    by (Some g) found is =
        let pair : (ins, outs) ≡ (g.ins, g.outs) = cc in
        misuses-found p u g distinct found ∙ ap (λ (q : ℕ × ℕ). not (q.0 == length u.ins && q.1 == length u.outs)) (sym pair)

pub misuses-no_shape : (p : PureParts) (u : PurePredUse) (x : List ℕ) → x ≡ u.pred → None ≡ option_map shape (find_signature (predicates_of p) x) → misuses (predicates_of p) u ≡ false
misuses-no_shape p u x named is = misuses-unknown p u (no_shape (find_signature (predicates_of p) u.pred) (is ∙ ap (λ y. option_map shape (find_signature (predicates_of p) y)) named))

-- ---- lists of names

names_are : (xs ys : List (List ℕ)) → Decides (pointwise bytes_eq xs ys) (xs ≡ ys)
names_are xs ys = slice_eq-Decides bytes_eq-Decides xs ys (pointwise bytes_eq xs ys) refl

pub names_same : (xs ys : List (List ℕ)) → xs ≡ ys → true ≡ pointwise bytes_eq xs ys
names_same xs ys same = sym ((names_are xs ys).1 same)

pub names_differ : (xs ys : List (List ℕ)) (i : ℕ) (x y : List ℕ) → slice_get xs i ≡ Some x → slice_get ys i ≡ Some y → true ≡ not (bytes_eq x y) → false ≡ pointwise bytes_eq xs ys
names_differ xs ys i x y here there differ = by (pointwise bytes_eq xs ys) refl
  where
    by : (b : Bool) → pointwise bytes_eq xs ys ≡ b → false ≡ b
    by false e = refl
    by true e =
        let same : Some x ≡ Some y = sym here ∙ ap (λ zs. slice_get zs i) ((names_are xs ys).0 e) ∙ there in
        let equal : x ≡ y = cc in
        absurd (true≢false (differ ∙ ap not ((bytes_eq-Decides x y).1 equal)))

back_from_not : (b : Bool) → false ≡ not b → b ≡ true
back_from_not true e = refl
back_from_not false e = absurd (true≢false (sym e))

-- one name more that is the same
pub names_next : {X : Type 0} (named : X → List ℕ) (texts : List (List ℕ)) (qs : List X) (i : ℕ) (t : List ℕ) (q : X) → i < length texts → i < length qs
    → t ≡ get_or texts i t → q ≡ get_or qs i q → take i texts ≡ map named (take i qs) → false ≡ not (bytes_eq t (named q))
    → take (i + 1) texts ≡ map named (take (i + 1) qs)
names_next named texts qs i t q below below_too is is_too before same =
    let equal : get_or texts i t ≡ named q = sym is ∙ (bytes_eq-Decides t (named q)).0 (back_from_not (bytes_eq t (named q)) same) in
    take_more texts i t below ∙ (λ j. before j ++ equal j ∷ []) ∙ sym (map-take_read named qs i q below_too is_too)
