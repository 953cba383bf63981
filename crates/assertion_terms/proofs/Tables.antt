-- The names of a table differ, and assertions of named forms are well made.
use Rattle.std.proofs.Common.{◌≡◌, ℕ, zero, suc, ◌<◌, List, [], ◌∷◌, ◌++◌, map, length, drop, slice_get, Bool, true, false, not, ◌&&◌, ◌||◌, if◌then◌else◌, refl, sym, ap, ◌∙◌, true≢false, arith}
use Rattle.std.specs.List.{list_all}
use Rattle.std.specs.Str.Parse.{digits_value}
use Rattle.std.specs.Str.{bytes_eq}
use Rattle.std.proofs.lemmas.Bool.{and_parts}
use Rattle.std.proofs.lemmas.List.Folds.{list_all-append}
use Rattle.std.proofs.lemmas.Slice.Eq.{bytes_eq-Decides}
use Rattle.gil_values.specs.Pure.{boolean}
use Rattle.gil_values.proofs.Numerals.{numerals_tell}
use Rattle.gil_syntax.specs.Pure.{PureExpr, PureItem, pure, uses}
use Rattle.gil_syntax.specs.Pure as expr
use Rattle.gil_syntax.specs.Subexpressions.{subexpressions, subexpressions_of_all, exprs_of_item}
use Rattle.gil_syntax.specs.Valid.{is_among, has_twice}
use Rattle.gil_syntax.specs.WellMade.{has_hash, is_program_name, is_well_made_node, is_well_made_expr, is_well_made_assertion, is_spellable}
use Rattle.gil_grammar.specs.Assertions.{may_be_item}
use Rattle.pure_terms.specs.declared.literals.Literal.{Literal}
use Rattle.pure_terms.specs.Meaning.{literal_value}
use Rattle.pure_terms.specs.Pure.{PureTerm, literal, variable, list_of, unary_of, binary_of, PureTerms, no_terms, term_and, PureAtom, positive, negative, opening}
use Rattle.sym_model.specs.Pure.{PureUse}
use Rattle.assertion_terms.specs.Laws.{TablesAreNamed}
use Rattle.assertion_terms.specs.Named.{numbered, numbered_from, table_names, named, name_or_none, expr_of, exprs_of, equal, item_of, assertion_of}

-- ---- numbers

same_numeral : (n m : ℕ) → numbered n ≡ numbered m → n ≡ m
same_numeral n m is = sym (numerals_tell.value n) ∙ ap (λ xs. digits_value 10 (drop 2 xs)) is ∙ numerals_tell.value m

other_number : (n m : ℕ) → ¬ (n ≡ m) → bytes_eq (numbered n) (numbered m) ≡ false
other_number n m other = by (bytes_eq (numbered n) (numbered m)) refl
  where
    by : (b : Bool) → bytes_eq (numbered n) (numbered m) ≡ b → b ≡ false
    by true same = absurd (other (same_numeral n m ((bytes_eq-Decides (numbered n) (numbered m)).0 same)))
    by false isnt = refl

lacks_earlier : (n k count : ℕ) → n < k → is_among (numbered_from k count) (numbered n) ≡ false
lacks_earlier n k zero less = refl
lacks_earlier n k (suc count) less =
    ap (λ b. b || is_among (numbered_from (suc k) count) (numbered n)) (other_number n k (λ same. let is : n ≡ k = same in omega (arith, less, is))) ∙ lacks_earlier n (suc k) count (omega (arith, less))

numbered_once : (n count : ℕ) → has_twice (numbered_from n count) ≡ false
numbered_once n zero = refl
numbered_once n (suc count) = ap (λ b. b || has_twice (numbered_from (suc n) count)) (lacks_earlier n (suc n) count (omega arith)) ∙ numbered_once (suc n) count

all_hashed : (n count : ℕ) (x : List ℕ) → has_hash x ≡ false → is_among (numbered_from n count) x ≡ false
all_hashed n zero x none = refl
all_hashed n (suc count) x none = ap (λ b. b || is_among (numbered_from (suc n) count) x) (by (bytes_eq x (numbered n)) refl) ∙ all_hashed (suc n) count x none
  where
    by : (b : Bool) → bytes_eq x (numbered n) ≡ b → b ≡ false
    by true same = absurd (true≢false (sym (ap has_hash ((bytes_eq-Decides x (numbered n)).0 same)) ∙ none))
    by false isnt = refl

among_append : (xs ys : List (List ℕ)) (x : List ℕ) → is_among xs x ≡ false → is_among ys x ≡ false → is_among (xs ++ ys) x ≡ false
among_append [] ys x first second = second
among_append (z ∷ xs) ys x first second = by (bytes_eq x z) first (λ lacks. among_append xs ys x lacks second)
  where
    by : (b : Bool) → (b || is_among xs x) ≡ false → (is_among xs x ≡ false → is_among (xs ++ ys) x ≡ false) → (b || is_among (xs ++ ys) x) ≡ false
    by true is later = absurd (true≢false is)
    by false is later = later is

no_hash : (x : List ℕ) → is_program_name x ≡ true → has_hash x ≡ false
no_hash x is = by (has_hash x) is
  where
    by : (b : Bool) → not b ≡ true → b ≡ false
    by true isnt = absurd (true≢false (sym isnt))
    by false isnt = refl

names_once : (xs : List (List ℕ)) (n count : ℕ) → list_all is_program_name xs ≡ true → has_twice xs ≡ false → has_twice (xs ++ numbered_from n count) ≡ false
names_once [] n count program once = numbered_once n count
names_once (x ∷ xs) n count program once =
    let (named, later) = and_parts (is_program_name x) (list_all is_program_name xs) program in
    by (is_among xs x) refl once named (names_once xs n count later)
  where
    by : (b : Bool) → is_among xs x ≡ b → (b || has_twice xs) ≡ false → is_program_name x ≡ true → (has_twice xs ≡ false → has_twice (xs ++ numbered_from n count) ≡ false) → (is_among (xs ++ numbered_from n count) x || has_twice (xs ++ numbered_from n count)) ≡ false
    by true among is named later = absurd (true≢false is)
    by false lacks is named later =
        ap (λ b. b || has_twice (xs ++ numbered_from n count)) (among_append xs (numbered_from n count) x lacks (all_hashed n count x (no_hash x named))) ∙ later is

-- ---- well made

named_made : (x : List ℕ) → is_well_made_expr (named x) ≡ true
named_made x = by (has_hash x) refl
  where
    by : (b : Bool) → has_hash x ≡ b → is_well_made_expr (if b then expr.logical x else expr.name x) ≡ true
    by true hash = ap (λ b. b && true) hash
    by false none = ap (λ b. not b && true) none

both_made : (ds es : List PureExpr) → list_all is_well_made_node ds ≡ true → list_all is_well_made_node es ≡ true → list_all is_well_made_node (ds ++ es) ≡ true
both_made ds es first second = list_all-append is_well_made_node ds es ∙ ap (λ b. b && list_all is_well_made_node es) first ∙ second

spelled : (l : Literal) → is_spellable (literal_value l) ≡ true
spelled (Literal.Int n) = refl
spelled (Literal.Bool b) = refl
spelled (Literal.Str cs) = refl
spelled (Literal.Kind k) = refl
spelled (Literal.Proc x) = refl

mutual
  term_made : (names : List (List ℕ)) (t : PureTerm) → is_well_made_expr (expr_of names t) ≡ true
  term_made names (literal l) = ap (λ b. b && true) (spelled l)
  term_made names (variable y) = named_made (name_or_none (slice_get names y.number))
  term_made names (list_of ts) = terms_made names ts
  term_made names (unary_of op t) = term_made names t
  term_made names (binary_of op s t) = both_made (subexpressions (expr_of names s)) (subexpressions (expr_of names t)) (term_made names s) (term_made names t)

  terms_made : (names : List (List ℕ)) (ts : PureTerms) → list_all is_well_made_node (subexpressions_of_all (exprs_of names ts)) ≡ true
  terms_made names no_terms = refl
  terms_made names (term_and t ts) = both_made (subexpressions (expr_of names t)) (subexpressions_of_all (exprs_of names ts)) (term_made names t) (terms_made names ts)

list_made : (names : List (List ℕ)) (ts us : List PureTerm) → list_all is_well_made_expr (map (expr_of names) ts ++ map (expr_of names) us) ≡ true
list_made names [] [] = refl
list_made names [] (u ∷ us) = ap (λ b. b && list_all is_well_made_expr (map (expr_of names) us)) (term_made names u) ∙ list_made names [] us
list_made names (t ∷ ts) us = ap (λ b. b && list_all is_well_made_expr (map (expr_of names) ts ++ map (expr_of names) us)) (term_made names t) ∙ list_made names ts us

item_made : (names : List (List ℕ)) (a : PureAtom) → list_all is_well_made_expr (exprs_of_item (item_of names a)) ≡ true
item_made names (positive t) = by (may_be_item (expr_of names t))
  where
    by : (b : Bool) → list_all is_well_made_expr (exprs_of_item (if b then pure (expr_of names t) else pure (equal (expr_of names t) (expr.literal (boolean true))))) ≡ true
    by true = ap (λ b. b && true) (term_made names t)
    by false = ap (λ b. b && true) (both_made (subexpressions (expr_of names t)) (expr.literal (boolean true) ∷ []) (term_made names t) refl)
item_made names (negative t) = ap (λ b. b && true) (term_made names t)
item_made names (opening t) = ap (λ b. b && true) (both_made (subexpressions (expr_of names t)) (subexpressions (expr_of names t)) (term_made names t) (term_made names t))

all_made : (names : List (List ℕ)) (us : List PureUse) (conds : List PureAtom) → is_well_made_assertion (assertion_of names us conds) ≡ true
all_made names [] [] = refl
all_made names [] (a ∷ conds) = ap (λ b. b && is_well_made_assertion (assertion_of names [] conds)) (item_made names a) ∙ all_made names [] conds
all_made names (u ∷ us) conds = ap (λ b. b && is_well_made_assertion (assertion_of names us conds)) (list_made names u.ins u.outs) ∙ all_made names us conds

pub tables_are_named : TablesAreNamed
tables_are_named params others = record {
  well_made = λ us conds. all_made (table_names params others) us conds;
  distinct = λ program once. names_once params (length params) others program once;
}
