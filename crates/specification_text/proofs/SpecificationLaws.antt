-- Specifications that were printed are read again.
use Rattle.std.proofs.Common.{◌≡◌, ◌≢◌, ℕ, ◌≤◌, Bool, true, false, not, ◌||◌, eqb, List, [], ◌∷◌, ◌++◌, length, Option, Some, None, refl, sym, ap, subst, ◌∙◌, arith, append_assoc, append-nil, length-append, inl, inr}
use Rattle.std.specs.Prelude.{codes, is_some}
use Rattle.std.specs.Str.{bytes_eq}
use Rattle.std.specs.List.{AllByRecursion, flat_map, join_by, list_all}
use Rattle.std.proofs.lemmas.Slice.Eq.{bytes_eq-Decides}
use Rattle.std.proofs.lemmas.Bool.{true≢false, and_parts, cases_Bool, eqb-true, or_cases, or_left, or_right}
use Rattle.gil_values.specs.declared.kinds.Kind.TheVariants as kinds
use Rattle.gil_values.specs.declared.operators.UnOp.TheVariants as unary
use Rattle.gil_values.specs.declared.operators.BinOp.TheVariants as binary
use Rattle.gil_values.specs.Printed.{printed_value, signed_numeral}
use Rattle.gil_values.specs.Pure.{PureValue, integer, boolean, text, symbol, kind, procedure, list}
use Rattle.gil_lexer.specs.Bytes.{begins, is_name_start, is_name_byte}
use Rattle.gil_lexer.specs.Spelling.{IsName}
use Rattle.gil_syntax.specs.declared.assertions.Param.{Param}
use Rattle.gil_syntax.specs.declared.assertions.SpecSort.{SpecSort}
use Rattle.gil_syntax.specs.declared.assertions.SpecSort.TheVariants as sorts
use Rattle.gil_syntax.specs.Pure.{PureExpr, literal, name, logical, list_of, unary_of, binary_of, PurePredUse, PureItem, pure, uses, PureSpec}
use Rattle.syntax_print.specs.Assertions.{printed_sort, printed_param, printed_params, printed_variables, behind_semicolon, printed_use, printed_item, printed_block, printed_error, printed_posts}
use Rattle.syntax_print.specs.Expressions.{printed_expr, printed_exprs}
use Rattle.value_text.specs.Laws.{EndsWord}
use Rattle.value_text.specs.Reading.{Reading, behind, many_at, before_no_comma, behind_comma, is_number_start}
use Rattle.value_text.proofs.Many.{IsAgain, Again, many_again, many_follow}
use Rattle.value_text.proofs.NumberLaws.{integer_starts}
use Rattle.value_text.proofs.TextLaws.{name_again}
use Rattle.value_text.proofs.WordLaws.{behind_again}
use Rattle.list_text.proofs.ListLaws.{EndsElement, IsReadAgain, bracketed_again, comma_or_bracket, element_ends}
use Rattle.expression_text.specs.Reading.{marked_name_at, any_expression_at}
use Rattle.expression_text.specs.Writable.{IsWritableExpr}
use Rattle.expression_text.proofs.ExpressionLaws.{expressions_again, marked_again, name_first_not}
use Rattle.specification_text.specs.Reading.{elements_until, sort_at, param_at, logical_at, params_at, logicals_at, may_be_item, is_negation, is_written_between, pure_at, outs_at, handed_at, use_at, item_at, before_no_star, behind_star, some_items_at, items_at, nothing_at, block_at, before_no_post, post_at, before_no_error, error_at, posts_at, errors_at, specification_at}
use Rattle.specification_text.specs.Writable.{IsWritableParam, IsWritableLogical, IsWritableUse, IsWritableItem, IsWritableAssertion, IsWritableSpec}

-- ---- elements up to a byte

each : {X : Type 0} (P Q : X → Type 0) (step : (x : X) → P x → Q x) (xs : List X) → AllByRecursion P xs → AllByRecursion Q xs
each P Q step [] all = tt
each P Q step (x ∷ xs) all = (step x all.0, each P Q step xs all.1)

abbrev EndsAt : ℕ → List ℕ → Type 0
EndsAt stop rest = begins (λ b. eqb b 44 || eqb b stop) rest ≡ true

at_stop : (stop b : ℕ) (P : ℕ → Type 0) → (eqb b 44 || eqb b stop) ≡ true → P 44 → P stop → P b
at_stop stop b P e comma stopped =
    elim (or_cases (eqb b 44) (eqb b stop) e) [
      | inl is ↦ subst P (sym (eqb-true b 44 is)) comma
      | inr is ↦ subst P (sym (eqb-true b stop is)) stopped
    ]

ends_word : (stop : ℕ) (rest : List ℕ) → is_name_byte stop ≡ false → EndsAt stop rest → EndsWord rest
ends_word stop [] other ends = refl
ends_word stop (b ∷ rest) other ends = at_stop stop b (λ c. is_name_byte c ≡ false) ends refl other

ends_no : (c stop : ℕ) (rest : List ℕ) → eqb 44 c ≡ false → eqb stop c ≡ false → EndsAt stop rest → begins (λ b. eqb b c) rest ≡ false
ends_no c stop [] comma other ends = refl
ends_no c stop (b ∷ rest) comma other ends = at_stop stop b (λ d. eqb d c ≡ false) ends comma other

closes : (stop : ℕ) (rest : List ℕ) → begins (λ b. eqb b stop) rest ≡ true → EndsAt stop rest
closes stop [] e = absurd (cc e)
closes stop (b ∷ rest) e = or_right (eqb b 44) (eqb b stop) e

no_comma_at : (stop : ℕ) (rest : List ℕ) → eqb stop 44 ≡ false → begins (λ b. eqb b stop) rest ≡ true → before_no_comma rest ≡ true
no_comma_at stop [] other e = absurd (cc e)
no_comma_at stop (b ∷ rest) other e = rw (eqb-true b stop e, other) refl

module _ {X : Type 0} (stop : ℕ) (read : List ℕ → Reading X) (printed : X → List ℕ) where
  record IsReadUntil (x : X) : Type 0 where
    pub again : (rest : List ℕ) → EndsAt stop rest → read (printed x ++ rest) ≡ Some (x, rest)
    pub opens : (rest : List ℕ) → begins (λ b. eqb b stop) (printed x ++ rest) ≡ false

  abbrev next_printed : X → List ℕ
  next_printed x = codes ", " ++ printed x

  next_until : (x : X) (rest : List ℕ) → IsReadUntil x → EndsAt stop rest → IsAgain before_no_comma (behind_comma read) next_printed (EndsAt stop) x rest
  next_until x rest is ends = record { again = rw (behind_again (codes ", ") (printed x ++ rest)) (is.again rest ends); some = refl; follows = refl }

  all_until : (xs : List X) → AllByRecursion IsReadUntil xs → AllByRecursion (Again before_no_comma (behind_comma read) next_printed (EndsAt stop)) xs
  all_until [] all = tt
  all_until (x ∷ xs) all = ((λ rest ends. next_until x rest all.0 ends), all_until xs all.1)

  no_longer : (xs : List X) (rest : List ℕ) → length xs ≤ length (flat_map next_printed xs ++ rest)
  no_longer [] rest = omega arith
  no_longer (x ∷ xs) rest =
      omega (
        arith,
        no_longer xs rest,
        length-append (codes ", ") (printed x),
        length-append (next_printed x) (flat_map next_printed xs),
        length-append (next_printed x ++ flat_map next_printed xs) rest,
        length-append (flat_map next_printed xs) rest,
      )

  until_again : (xs : List X) (rest : List ℕ) → AllByRecursion IsReadUntil xs → eqb stop 44 ≡ false → begins (λ b. eqb b stop) rest ≡ true
      → elements_until stop read (join_by printed (codes ", ") xs ++ rest) ≡ Some (xs, rest)
  until_again [] rest all other closed = rw closed refl
  until_again (x ∷ xs) rest all other closed =
      let more = flat_map next_printed xs ++ rest in
      let ends = closes stop rest closed in
      let many = all_until xs all.1 in
      let enough = no_longer xs rest in
      let follow = many_follow before_no_comma (behind_comma read) next_printed (EndsAt stop) (length more) xs rest many ends (no_comma_at stop rest other closed) enough in
      let again = many_again before_no_comma (behind_comma read) next_printed (EndsAt stop) (length more) xs rest many ends (no_comma_at stop rest other closed) enough in
      rw (append_assoc (printed x) (flat_map next_printed xs) rest, all.0.opens more, all.0.again more follow, again) refl

-- ---- with which bytes expressions begin

abbrev is_mark : ℕ → Bool
is_mark b = eqb b 34 || (eqb b 64 || (eqb b 35 || (eqb b 91 || eqb b 40)))

abbrev starts : ℕ → Bool
starts b = is_name_start b || (is_number_start b || is_mark b)

named_starts : (x rest : List ℕ) → IsName x → begins starts (x ++ rest) ≡ true
named_starts [] rest is = absurd (cc is.0)
named_starts (b ∷ x) rest is = or_left (is_name_start b) (is_number_start b || is_mark b) is.0

number_starts : (bytes : List ℕ) → begins is_number_start bytes ≡ true → begins starts bytes ≡ true
number_starts [] e = absurd (cc e)
number_starts (b ∷ bytes) e = or_right (is_name_start b) (is_number_start b || is_mark b) (or_left (is_number_start b) (is_mark b) e)

literal_starts : (v : PureValue) (rest : List ℕ) → IsWritableExpr (literal v) → begins starts (printed_value v ++ rest) ≡ true
literal_starts (integer n) rest is = number_starts (signed_numeral n ++ rest) (integer_starts n rest)
literal_starts (boolean true) rest is = refl
literal_starts (boolean false) rest is = refl
literal_starts (text cs) rest is = refl
literal_starts (symbol n) rest is = absurd (true≢false (sym is.1))
literal_starts (kind kinds.Int) rest is = refl
literal_starts (kind kinds.Bool) rest is = refl
literal_starts (kind kinds.Str) rest is = refl
literal_starts (kind kinds.Sym) rest is = refl
literal_starts (kind kinds.Kind) rest is = refl
literal_starts (kind kinds.Proc) rest is = refl
literal_starts (kind kinds.List) rest is = refl
literal_starts (kind kinds.Undef) rest is = refl
literal_starts (kind kinds.Null) rest is = refl
literal_starts (procedure x) rest is = refl
literal_starts (list vs) rest is = absurd (true≢false (sym is.1))

expression_starts : (e : PureExpr) (rest : List ℕ) → IsWritableExpr e → begins starts (printed_expr e ++ rest) ≡ true
expression_starts (literal v) rest is = literal_starts v rest is
expression_starts (name x) rest is = named_starts x rest is.0
expression_starts (logical x) rest (inner, named, is) = rw is refl
expression_starts (list_of es) rest is = refl
expression_starts (unary_of unary.Not e) rest is = refl
expression_starts (unary_of unary.Neg e) rest is = refl
expression_starts (unary_of unary.Len e) rest is = refl
expression_starts (unary_of unary.Kind e) rest is = refl
expression_starts (binary_of binary.Add d e) rest is = refl
expression_starts (binary_of binary.Subtract d e) rest is = refl
expression_starts (binary_of binary.Multiply d e) rest is = refl
expression_starts (binary_of binary.Divide d e) rest is = refl
expression_starts (binary_of binary.Remainder d e) rest is = refl
expression_starts (binary_of binary.Equal d e) rest is = refl
expression_starts (binary_of binary.Less d e) rest is = refl
expression_starts (binary_of binary.LessOrEqual d e) rest is = refl
expression_starts (binary_of binary.And d e) rest is = refl
expression_starts (binary_of binary.Or d e) rest is = refl
expression_starts (binary_of binary.Append d e) rest is = refl
expression_starts (binary_of binary.Nth d e) rest is = refl

starts_no : (c : ℕ) (bytes : List ℕ) → starts c ≡ false → begins starts bytes ≡ true → begins (λ b. eqb b c) bytes ≡ false
starts_no c [] other e = refl
starts_no c (b ∷ bytes) other e =
    elim (cases_Bool (eqb b c)) [
      | inl same ↦ absurd (true≢false (sym e ∙ ap starts (eqb-true b c same) ∙ other))
      | inr different ↦ different
    ]

expression_until : (stop : ℕ) (e : PureExpr) → is_name_byte stop ≡ false → starts stop ≡ false → IsWritableExpr e → IsReadUntil stop any_expression_at printed_expr e
expression_until stop e other apart is = record {
  again = λ rest ends. expressions_again e rest is (ends_word stop rest other ends);
  opens = λ rest. starts_no stop (printed_expr e ++ rest) apart (expression_starts e rest is);
}

-- ---- parameters

module _ (c : ℕ) (word : List ℕ) where
  other_first : (bytes : List ℕ) → begins (λ b. eqb b c) bytes ≡ false → behind (c ∷ word) bytes ≡ None
  unfolding behind
  other_first [] e = refl
  other_first (b ∷ bytes) e = rw e refl

sort_again : (s : SpecSort) (rest : List ℕ) → begins (λ b. eqb b 58) rest ≡ false → sort_at (printed_sort s ++ rest) ≡ Some (s, rest)
unfolding behind
sort_again sorts.Int rest no_colon = refl
sort_again sorts.Bool rest no_colon = refl
sort_again sorts.Str rest no_colon = refl
sort_again sorts.Sym rest no_colon = refl
sort_again sorts.List rest no_colon = refl
sort_again sorts.Any rest no_colon = rw (other_first 58 (codes " ") rest no_colon) refl

sort_ends : (s : SpecSort) (rest : List ℕ) → EndsWord rest → EndsWord (printed_sort s ++ rest)
sort_ends sorts.Int rest ends = refl
sort_ends sorts.Bool rest ends = refl
sort_ends sorts.Str rest ends = refl
sort_ends sorts.Sym rest ends = refl
sort_ends sorts.List rest ends = refl
sort_ends sorts.Any rest ends = ends

param_parts : (q : Param) (rest : List ℕ) → IsName q.name → EndsWord rest → begins (λ b. eqb b 58) rest ≡ false
    → param_at (q.name ++ (printed_sort q.sort ++ rest)) ≡ Some (q, rest)
unfolding param_at
param_parts q rest is ends no_colon = rw (name_again q.name (printed_sort q.sort ++ rest) is (sort_ends q.sort rest ends), sort_again q.sort rest no_colon) refl

param_again : (q : Param) → IsWritableParam q → IsReadUntil 41 param_at printed_param q
param_again q is = record {
  again = λ rest ends. ap param_at (append_assoc q.name (printed_sort q.sort) rest) ∙ param_parts q rest is (ends_word 41 rest refl ends) (ends_no 58 41 rest refl refl ends);
  opens = λ rest. ap (begins (λ b. eqb b 41)) (append_assoc q.name (printed_sort q.sort) rest) ∙ name_first_not 41 q.name (printed_sort q.sort ++ rest) is refl;
}

params_again : (ps : List Param) (rest : List ℕ) → AllByRecursion IsWritableParam ps → begins (λ b. eqb b 41) rest ≡ true → params_at (printed_params ps ++ rest) ≡ Some (ps, rest)
params_again ps rest all closed = until_again 41 param_at printed_param ps rest (each IsWritableParam (IsReadUntil 41 param_at printed_param) param_again ps all) refl closed

logical_parts : (inner : List ℕ) (s : SpecSort) (rest : List ℕ) → IsName inner → EndsWord rest → begins (λ b. eqb b 58) rest ≡ false
    → logical_at (35 ∷ (inner ++ (printed_sort s ++ rest))) ≡ Some (record { name = 35 ∷ inner; sort = s }, rest)
unfolding logical_at
logical_parts inner s rest is ends no_colon = rw (marked_again inner (printed_sort s ++ rest) is (sort_ends s rest ends), sort_again s rest no_colon) refl

logical_read : (q : Param) (rest : List ℕ) → IsWritableLogical q → EndsElement rest → logical_at (printed_param q ++ rest) ≡ Some (q, rest)
logical_read q rest (inner, named, is) ends =
    ap logical_at (append_assoc q.name (printed_sort q.sort) rest)
    ∙ rw is (logical_parts inner q.sort rest named (element_ends rest ends) (ends_no 58 93 rest refl refl ends))

logical_opens : (q : Param) (rest : List ℕ) → IsWritableLogical q → begins (λ b. eqb b 93) (printed_param q ++ rest) ≡ false
logical_opens q rest (inner, named, is) = ap (λ x. begins (λ b. eqb b 93) ((x ++ printed_sort q.sort) ++ rest)) is

logical_again : (q : Param) → IsWritableLogical q → IsReadAgain logical_at printed_param q
logical_again q is = record { again = λ rest ends. logical_read q rest is ends; opens = λ rest. logical_opens q rest is }

logicals_again : (ps : List Param) (rest : List ℕ) → AllByRecursion IsWritableLogical ps → logicals_at (printed_variables ps ++ rest) ≡ Some (ps, rest)
logicals_again ps rest all = bracketed_again logical_at printed_param ps rest (each IsWritableLogical (IsReadAgain logical_at printed_param) logical_again ps all)

-- ---- items

expressions_until : (stop : ℕ) (es : List PureExpr) (rest : List ℕ) → is_name_byte stop ≡ false → starts stop ≡ false → eqb stop 44 ≡ false
    → AllByRecursion IsWritableExpr es → begins (λ b. eqb b stop) rest ≡ true → elements_until stop any_expression_at (printed_exprs es ++ rest) ≡ Some (es, rest)
expressions_until stop es rest other apart no_comma all closed =
    until_again stop any_expression_at printed_expr es rest
    (each IsWritableExpr (IsReadUntil stop any_expression_at printed_expr) (λ e is. expression_until stop e other apart is) es all) no_comma closed

outs_again : (es : List PureExpr) (rest : List ℕ) → AllByRecursion IsWritableExpr es → outs_at (behind_semicolon printed_exprs es ++ (41 ∷ rest)) ≡ Some (es, 41 ∷ rest)
unfolding behind
outs_again [] rest all = refl
outs_again (e ∷ es) rest all = expressions_until 41 (e ∷ es) (41 ∷ rest) refl refl refl all refl

handed_parts : (u : PurePredUse) (rest : List ℕ) → IsWritableUse u
    → handed_at u.pred (40 ∷ (printed_exprs u.ins ++ (59 ∷ (behind_semicolon printed_exprs u.outs ++ (41 ∷ rest))))) ≡ Some (uses u, rest)
unfolding handed_at
handed_parts u rest is =
    let a = behind_semicolon printed_exprs u.outs ++ (41 ∷ rest) in
    let b = printed_exprs u.ins ++ (59 ∷ a) in
    rw (
      behind_again (40 ∷ []) b,
      expressions_until 59 u.ins (59 ∷ a) refl refl refl is.ins refl,
      behind_again (59 ∷ []) a,
      outs_again u.outs rest is.outs,
      behind_again (41 ∷ []) rest,
    ) refl

six : (a b c d e f rest : List ℕ) → (((((a ++ b) ++ c) ++ d) ++ e) ++ f) ++ rest ≡ a ++ (b ++ (c ++ (d ++ (e ++ (f ++ rest)))))
six a b c d e f rest = simp append_assoc

name_byte_apart : (b c : ℕ) → is_name_byte b ≡ true → is_name_byte c ≡ false → eqb b c ≡ false
name_byte_apart b c e apart =
    elim (cases_Bool (eqb b c)) [
      | inl same ↦ absurd (true≢false (sym e ∙ ap is_name_byte (eqb-true b c same) ∙ apart))
      | inr other ↦ other
    ]

apart_name_byte : (b c : ℕ) → is_name_byte b ≡ false → is_name_byte c ≡ true → eqb b c ≡ false
apart_name_byte b c apart e =
    elim (cases_Bool (eqb b c)) [
      | inl same ↦ absurd (true≢false (sym e ∙ ap is_name_byte (sym (eqb-true b c same)) ∙ apart))
      | inr other ↦ other
    ]

-- another name before a parenthesis doesn't begin so
name_other : (word x t : List ℕ) → list_all is_name_byte word ≡ true → list_all is_name_byte x ≡ true → x ≢ word → behind (word ++ 40 ∷ []) (x ++ (40 ∷ t)) ≡ None
unfolding behind
name_other [] [] t all named other = absurd (other refl)
name_other [] (b ∷ x) t all named other = rw (name_byte_apart b 40 (and_parts _ _ named).0 refl) refl
name_other (c ∷ word) [] t all named other = rw (apart_name_byte 40 c refl (and_parts _ _ all).0) refl
name_other (c ∷ word) (b ∷ x) t all named other =
    elim (cases_Bool (eqb b c)) [
      | inl same ↦ rw same (name_other word x t (and_parts _ _ all).1 (and_parts _ _ named).1 (λ e. other (λ i. eqb-true b c same i ∷ e i)))
      | inr different ↦ rw different refl
    ]

-- a name before a parenthesis doesn't begin with this word and a blank
name_no_word : (word x t : List ℕ) → list_all is_name_byte word ≡ true → list_all is_name_byte x ≡ true → behind (word ++ 32 ∷ []) (x ++ (40 ∷ t)) ≡ None
unfolding behind
name_no_word [] [] t all named = refl
name_no_word [] (b ∷ x) t all named = rw (name_byte_apart b 32 (and_parts _ _ named).0 refl) refl
name_no_word (c ∷ word) [] t all named = rw (apart_name_byte 40 c refl (and_parts _ _ all).0) refl
name_no_word (c ∷ word) (b ∷ x) t all named =
    elim (cases_Bool (eqb b c)) [
      | inl same ↦ rw same (name_no_word word x t (and_parts _ _ all).1 (and_parts _ _ named).1)
      | inr different ↦ rw different refl
    ]

no_word_not : (x : List ℕ) → x ≢ codes "not" → bytes_eq x (codes "not") ≡ false
no_word_not x other =
    elim (cases_Bool (bytes_eq x (codes "not"))) [
      | inl same ↦ absurd (other ((bytes_eq-Decides x (codes "not")).0 same))
      | inr different ↦ different
    ]

use_parts : (u : PurePredUse) (t : List ℕ) → IsWritableUse u → use_at (u.pred ++ (40 ∷ t)) ≡ handed_at u.pred (40 ∷ t)
unfolding use_at
use_parts u t is = rw (name_again u.pred (40 ∷ t) is.named refl, no_word_not u.pred is.other) refl

use_item : (u : PurePredUse) (t : List ℕ) → IsWritableUse u → item_at (u.pred ++ (40 ∷ t)) ≡ use_at (u.pred ++ (40 ∷ t))
use_item u t is = rw (name_first_not 40 u.pred (40 ∷ t) is.named refl, name_other (codes "not") u.pred t refl is.named.1 is.other) refl

pure_parts : (e : PureExpr) (rest : List ℕ) → IsWritableItem (pure e) → EndsWord rest → pure_at (printed_expr e ++ rest) ≡ Some (pure e, rest)
unfolding pure_at
pure_parts e rest is ends = rw (expressions_again e rest is.0 ends, is.1) refl

pure_item : (e : PureExpr) (rest : List ℕ) → may_be_item e ≡ true → item_at (printed_expr e ++ rest) ≡ pure_at (printed_expr e ++ rest)
unfolding behind
pure_item (literal v) rest is = absurd (true≢false (sym is))
pure_item (name x) rest is = absurd (true≢false (sym is))
pure_item (logical x) rest is = absurd (true≢false (sym is))
pure_item (list_of es) rest is = absurd (true≢false (sym is))
pure_item (unary_of unary.Not e) rest is = refl
pure_item (unary_of unary.Neg e) rest is = absurd (true≢false (sym is))
pure_item (unary_of unary.Len e) rest is = absurd (true≢false (sym is))
pure_item (unary_of unary.Kind e) rest is = absurd (true≢false (sym is))
pure_item (binary_of binary.Add d e) rest is = refl
pure_item (binary_of binary.Subtract d e) rest is = refl
pure_item (binary_of binary.Multiply d e) rest is = refl
pure_item (binary_of binary.Divide d e) rest is = refl
pure_item (binary_of binary.Remainder d e) rest is = refl
pure_item (binary_of binary.Equal d e) rest is = refl
pure_item (binary_of binary.Less d e) rest is = refl
pure_item (binary_of binary.LessOrEqual d e) rest is = refl
pure_item (binary_of binary.And d e) rest is = refl
pure_item (binary_of binary.Or d e) rest is = refl
pure_item (binary_of binary.Append d e) rest is = refl
pure_item (binary_of binary.Nth d e) rest is = absurd (true≢false (sym is))

abbrev BeginsBlank : List ℕ → Type 0
BeginsBlank rest = begins (λ b. eqb b 32) rest ≡ true

blank_ends : (rest : List ℕ) → BeginsBlank rest → EndsWord rest
blank_ends [] e = refl
blank_ends (b ∷ rest) e = rw (eqb-true b 32 e) refl

grouped_use : (u : PurePredUse) (rest : List ℕ)
    → printed_use u ++ rest ≡ u.pred ++ (40 ∷ (printed_exprs u.ins ++ (59 ∷ (behind_semicolon printed_exprs u.outs ++ (41 ∷ rest)))))
grouped_use u rest = six u.pred (codes "(") (printed_exprs u.ins) (codes ";") (behind_semicolon printed_exprs u.outs) (codes ")") rest

item_again : (item : PureItem) (rest : List ℕ) → IsWritableItem item → BeginsBlank rest → item_at (printed_item item ++ rest) ≡ Some (item, rest)
item_again (pure e) rest is blank = pure_item e rest is.1 ∙ pure_parts e rest is (blank_ends rest blank)
item_again (uses u) rest is blank =
    let t = printed_exprs u.ins ++ (59 ∷ (behind_semicolon printed_exprs u.outs ++ (41 ∷ rest))) in
    ap item_at (grouped_use u rest) ∙ use_item u t is ∙ use_parts u t is ∙ handed_parts u rest is

item_no_emp : (item : PureItem) (rest : List ℕ) → IsWritableItem item → behind (codes "emp ") (printed_item item ++ rest) ≡ None
unfolding behind
item_no_emp (pure (literal v)) rest is = absurd (true≢false (sym is.1))
item_no_emp (pure (name x)) rest is = absurd (true≢false (sym is.1))
item_no_emp (pure (logical x)) rest is = absurd (true≢false (sym is.1))
item_no_emp (pure (list_of es)) rest is = absurd (true≢false (sym is.1))
item_no_emp (pure (unary_of unary.Not e)) rest is = refl
item_no_emp (pure (unary_of unary.Neg e)) rest is = refl
item_no_emp (pure (unary_of unary.Len e)) rest is = refl
item_no_emp (pure (unary_of unary.Kind e)) rest is = refl
item_no_emp (pure (binary_of binary.Add d e)) rest is = refl
item_no_emp (pure (binary_of binary.Subtract d e)) rest is = refl
item_no_emp (pure (binary_of binary.Multiply d e)) rest is = refl
item_no_emp (pure (binary_of binary.Divide d e)) rest is = refl
item_no_emp (pure (binary_of binary.Remainder d e)) rest is = refl
item_no_emp (pure (binary_of binary.Equal d e)) rest is = refl
item_no_emp (pure (binary_of binary.Less d e)) rest is = refl
item_no_emp (pure (binary_of binary.LessOrEqual d e)) rest is = refl
item_no_emp (pure (binary_of binary.And d e)) rest is = refl
item_no_emp (pure (binary_of binary.Or d e)) rest is = refl
item_no_emp (pure (binary_of binary.Append d e)) rest is = refl
item_no_emp (pure (binary_of binary.Nth d e)) rest is = refl
item_no_emp (uses u) rest is =
    ap (behind (codes "emp ")) (grouped_use u rest)
    ∙ name_no_word (codes "emp") u.pred (printed_exprs u.ins ++ (59 ∷ (behind_semicolon printed_exprs u.outs ++ (41 ∷ rest)))) refl is.named.1

-- ---- assertions

abbrev starred : PureItem → List ℕ
starred item = codes " * " ++ printed_item item

star_again : (item : PureItem) (rest : List ℕ) → IsWritableItem item → BeginsBlank rest → IsAgain before_no_star behind_star starred BeginsBlank item rest
unfolding behind
star_again item rest is blank = record { again = item_again item rest is blank; some = refl; follows = refl }

all_stars : (items : List PureItem) → AllByRecursion IsWritableItem items → AllByRecursion (Again before_no_star behind_star starred BeginsBlank) items
all_stars [] all = tt
all_stars (item ∷ items) all = ((λ rest blank. star_again item rest all.0 blank), all_stars items all.1)

no_longer_by : {X : Type 0} (printed : X → List ℕ) (some : (x : X) → 1 ≤ length (printed x)) (xs : List X) (rest : List ℕ) → length xs ≤ length (flat_map printed xs ++ rest)
no_longer_by printed some [] rest = omega arith
no_longer_by printed some (x ∷ xs) rest =
    omega (
      arith,
      some x,
      no_longer_by printed some xs rest,
      length-append (printed x) (flat_map printed xs),
      length-append (printed x ++ flat_map printed xs) rest,
      length-append (flat_map printed xs) rest,
    )

no_more_stars : (rest : List ℕ) → before_no_star (codes " }" ++ rest) ≡ true
unfolding behind
no_more_stars rest = refl

some_items_again : (item : PureItem) (items : List PureItem) (rest : List ℕ) → IsWritableItem item → IsWritableAssertion items
    → some_items_at (printed_item item ++ (flat_map starred items ++ (codes " }" ++ rest))) ≡ Some (item ∷ items, codes " }" ++ rest)
unfolding some_items_at
some_items_again item items rest is all =
    let end = codes " }" ++ rest in
    let more = flat_map starred items ++ end in
    let many = all_stars items all in
    let enough = no_longer_by starred (λ i. omega arith) items end in
    let follow = many_follow before_no_star behind_star starred BeginsBlank (length more) items end many refl (no_more_stars rest) enough in
    let again = many_again before_no_star behind_star starred BeginsBlank (length more) items end many refl (no_more_stars rest) enough in
    rw (item_again item more is follow, again) refl

items_again : (item : PureItem) (items : List PureItem) (rest : List ℕ) → IsWritableItem item → IsWritableAssertion items
    → items_at (printed_item item ++ (flat_map starred items ++ (codes " }" ++ rest))) ≡ Some (item ∷ items, rest)
unfolding items_at
items_again item items rest is all = rw (some_items_again item items rest is all, behind_again (codes " }") rest) refl

empty_block : (rest : List ℕ) → block_at (codes "{ emp }" ++ rest) ≡ Some ([], rest)
unfolding behind nothing_at
empty_block rest = refl

block_opens : (item : PureItem) (t : List ℕ) → IsWritableItem item → block_at (codes "{ " ++ (printed_item item ++ t)) ≡ items_at (printed_item item ++ t)
unfolding behind
block_opens item t is = rw (item_no_emp item t is) refl

grouped_items : (item : PureItem) (items : List PureItem) (rest : List ℕ)
    → ((printed_item item ++ flat_map starred items) ++ codes " }") ++ rest ≡ printed_item item ++ (flat_map starred items ++ (codes " }" ++ rest))
grouped_items item items rest = simp append_assoc

block_again : (items : List PureItem) (rest : List ℕ) → IsWritableAssertion items → block_at (printed_block items ++ rest) ≡ Some (items, rest)
block_again [] rest all = empty_block rest
block_again (item ∷ items) rest all =
    ap (λ t. block_at (codes "{ " ++ t)) (grouped_items item items rest)
    ∙ block_opens item (flat_map starred items ++ (codes " }" ++ rest)) all.0 ∙ items_again item items rest all.0 all.1

-- ---- postconditions

abbrev posted : List PureItem → List ℕ
posted items = codes " " ++ printed_block items

abbrev thrown : List PureItem → List ℕ
thrown items = codes " " ++ printed_error items

abbrev Any : List ℕ → Type 0
Any rest = Unit {0}

post_again : (items : List PureItem) (rest : List ℕ) → IsWritableAssertion items → IsAgain before_no_post post_at posted Any items rest
unfolding behind
post_again items rest is = record { again = block_again items rest is; some = refl; follows = tt }

all_posts : (posts : List (List PureItem)) → AllByRecursion IsWritableAssertion posts → AllByRecursion (Again before_no_post post_at posted Any) posts
all_posts [] all = tt
all_posts (post ∷ posts) all = ((λ rest follows. post_again post rest all.0), all_posts posts all.1)

error_again : (items : List PureItem) (rest : List ℕ) → IsWritableAssertion items → IsAgain before_no_error error_at thrown Any items rest
unfolding behind
error_again items rest is = record { again = block_again items rest is; some = refl; follows = tt }

all_errors : (errors : List (List PureItem)) → AllByRecursion IsWritableAssertion errors → AllByRecursion (Again before_no_error error_at thrown Any) errors
all_errors [] all = tt
all_errors (e ∷ errors) all = ((λ rest follows. error_again e rest all.0), all_errors errors all.1)

posts_again : (posts : List (List PureItem)) (rest : List ℕ) → AllByRecursion IsWritableAssertion posts → before_no_post rest ≡ true
    → posts_at (flat_map posted posts ++ rest) ≡ Some (posts, rest)
posts_again posts rest all no_more =
    rw (many_again before_no_post post_at posted Any (length (flat_map posted posts ++ rest)) posts rest (all_posts posts all) tt no_more
    (no_longer_by posted (λ i. omega arith) posts rest)) refl

errors_again : (errors : List (List PureItem)) (rest : List ℕ) → AllByRecursion IsWritableAssertion errors → before_no_error rest ≡ true
    → errors_at (flat_map thrown errors ++ rest) ≡ Some (errors, rest)
errors_again errors rest all no_more =
    rw (many_again before_no_error error_at thrown Any (length (flat_map thrown errors ++ rest)) errors rest (all_errors errors all) tt no_more
    (no_longer_by thrown (λ i. omega arith) errors rest)) refl

no_post_there : (errors : List (List PureItem)) (rest : List ℕ) → before_no_post rest ≡ true → before_no_post (flat_map thrown errors ++ rest) ≡ true
unfolding behind
no_post_there [] rest no_more = no_more
no_post_there (e ∷ errors) rest no_more = refl

-- ---- specifications

-- neither a postcondition nor an error postcondition follows
pub record EndsSpec (rest : List ℕ) : Type 0 where
  pub no_post : before_no_post rest ≡ true
  pub no_error : before_no_error rest ≡ true

specification_parts : (s : PureSpec) (rest : List ℕ) → IsWritableSpec s → EndsSpec rest
    → specification_at (s.name ++ (codes "(" ++ (printed_params s.params ++ (codes ") " ++ (printed_variables s.logicals ++ (codes " " ++ (printed_block s.pre
    ++ (flat_map posted s.posts ++ (flat_map thrown s.errors ++ rest))))))))) ≡ Some (s, rest)
unfolding specification_at
specification_parts s rest is ends =
    let a = flat_map thrown s.errors ++ rest in
    let b = flat_map posted s.posts ++ a in
    let c = printed_block s.pre ++ b in
    let d = printed_variables s.logicals ++ (codes " " ++ c) in
    let e = printed_params s.params ++ (codes ") " ++ d) in
    rw (
      name_again s.name (codes "(" ++ e) is.named refl,
      behind_again (codes "(") e,
      params_again s.params (codes ") " ++ d) is.params refl,
      behind_again (codes ") ") d,
      logicals_again s.logicals (codes " " ++ c) is.logicals,
      behind_again (codes " ") c,
      block_again s.pre b is.pre,
      posts_again s.posts a is.posts (no_post_there s.errors rest ends.no_post),
      errors_again s.errors rest is.errors ends.no_error,
    ) refl

grouped_spec : (a b c d e f g h i rest : List ℕ)
    → ((((((((a ++ b) ++ c) ++ d) ++ e) ++ f) ++ g) ++ (h ++ i)) ++ rest) ≡ a ++ (b ++ (c ++ (d ++ (e ++ (f ++ (g ++ (h ++ (i ++ rest))))))))
grouped_spec a b c d e f g h i rest = simp append_assoc

-- a specification as it is printed behind its first word
abbrev pub specification_rest : PureSpec → List ℕ
specification_rest s =
    s.name ++ codes "(" ++ printed_params s.params ++ codes ") " ++ printed_variables s.logicals ++ codes " " ++ printed_block s.pre ++ printed_posts s.posts s.errors

grouped_rest : (s : PureSpec) (rest : List ℕ)
    → specification_rest s ++ rest ≡ s.name ++ (codes "(" ++ (printed_params s.params ++ (codes ") " ++ (printed_variables s.logicals ++ (codes " " ++ (printed_block s.pre
    ++ (flat_map posted s.posts ++ (flat_map thrown s.errors ++ rest))))))))
grouped_rest s rest =
    grouped_spec s.name (codes "(") (printed_params s.params) (codes ") ") (printed_variables s.logicals) (codes " ") (printed_block s.pre)
    (flat_map posted s.posts) (flat_map thrown s.errors) rest

-- it begins with a name and an opening parenthesis
pub named_first : (s : PureSpec) (rest : List ℕ) → (t : List ℕ) × (specification_rest s ++ rest ≡ s.name ++ (40 ∷ t))
named_first s rest = (
  printed_params s.params ++ (codes ") " ++ (printed_variables s.logicals ++ (codes " " ++ (printed_block s.pre
      ++ (flat_map posted s.posts ++ (flat_map thrown s.errors ++ rest)))))),
  grouped_rest s rest,
)

pub specification_again : (s : PureSpec) (rest : List ℕ) → IsWritableSpec s → EndsSpec rest → specification_at (specification_rest s ++ rest) ≡ Some (s, rest)
specification_again s rest is ends = ap specification_at (grouped_rest s rest) ∙ specification_parts s rest is ends
