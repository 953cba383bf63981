-- Values that were printed are read again.
use Rattle.std.proofs.Common.{◌≡◌, ℕ, zero, suc, ◌+◌, ◌<◌, ◌≤◌, ◌^◌, Bool, true, false, not, ◌||◌, eqb, max, List, [], ◌∷◌, ◌++◌, length, Some, None, refl, sym, ap, ◌∙◌, arith, append_assoc, length-append, inl, inr}
use Rattle.std.specs.Prelude.{codes}
use Rattle.std.specs.Char.{is_ascii_digit}
use Rattle.std.specs.List.{AllByRecursion, flat_map, join_by}
use Rattle.std.proofs.lemmas.Bool.{true≢false, cases_Bool, eqb-true, or_left, or_right}
use Rattle.gil_values.specs.declared.kinds.Kind.{Kind}
use Rattle.gil_values.specs.declared.kinds.Kind.TheVariants as kinds
use Rattle.gil_values.specs.Pieces.{printed_list}
use Rattle.gil_values.specs.Printed.{printed_value, printed_values, kind_name}
use Rattle.gil_values.specs.Pure.{PureValue, integer, boolean, text, symbol, kind, procedure, list, PureValues, no_values, value_and, from_list, to_list, from_list-to_list, to_list-from_list}
use Rattle.gil_lexer.specs.Bytes.{begins, is_name_start, is_name_byte}
use Rattle.value_text.specs.Laws.{EndsWord, ValuesAgain}
use Rattle.value_text.specs.Reading.{behind, many_at, before_no_comma, behind_comma, elements_at, kind_at, rarer_kind_at, leaf_at, list_at, value_at, bracketed_at, bracketed_values_at}
use Rattle.value_text.specs.Writable.{IsWritableValue, AreWritableValues}
use Rattle.value_text.proofs.Many.{IsAgain, Again, many_again, many_follow}
use Rattle.value_text.proofs.NumberLaws.{integer_again, integer_first_not, integer_starts, natural_again}
use Rattle.value_text.proofs.TextLaws.{name_again, text_again}
use Rattle.value_text.proofs.WordLaws.{behind_again}

-- ---- what follows

pub digit_ends : (rest : List ℕ) → EndsWord rest → begins is_ascii_digit rest ≡ false
digit_ends [] ends = refl
digit_ends (b ∷ rest) ends =
    elim (cases_Bool (is_ascii_digit b)) [
      | inl digit ↦ absurd (true≢false (sym (or_left (is_name_start b || is_ascii_digit b) (eqb b 36) (or_right (is_name_start b) (is_ascii_digit b) digit)) ∙ ends))
      | inr apart ↦ apart
    ]

-- ---- how deep lists are nested in a value

abbrev mutual
  depth : PureValue → ℕ
  depth (list vs) = 1 + depths vs
  depth (integer n) = 0
  depth (boolean b) = 0
  depth (text cs) = 0
  depth (symbol n) = 0
  depth (kind k) = 0
  depth (procedure name) = 0

  depths : PureValues → ℕ
  depths no_values = 0
  depths (value_and v vs) = depth v + depths vs

-- ---- kinds and other words

kind_again : (k : Kind) (rest : List ℕ) → kind_at (kind_name k ++ rest) ≡ Some (k, rest)
unfolding behind
kind_again kinds.Int rest = refl
kind_again kinds.Bool rest = refl
kind_again kinds.Str rest = refl
kind_again kinds.Sym rest = refl
kind_again kinds.Kind rest = refl
kind_again kinds.Proc rest = refl
kind_again kinds.List rest = refl
kind_again kinds.Undef rest = refl
kind_again kinds.Null rest = refl

kind_leaf : (k : Kind) (rest : List ℕ) → leaf_at (kind_name k ++ rest) ≡ Some (kind k, rest)
unfolding behind
kind_leaf kinds.Int rest = refl
kind_leaf kinds.Bool rest = refl
kind_leaf kinds.Str rest = refl
kind_leaf kinds.Sym rest = refl
kind_leaf kinds.Kind rest = refl
kind_leaf kinds.Proc rest = refl
kind_leaf kinds.List rest = refl
kind_leaf kinds.Undef rest = refl
kind_leaf kinds.Null rest = refl

truth_leaf : (b : Bool) (rest : List ℕ) → leaf_at (printed_value (boolean b) ++ rest) ≡ Some (boolean b, rest)
unfolding behind
truth_leaf true rest = refl
truth_leaf false rest = refl

-- ---- values that are no lists

symbol_leaf : (n : ℕ) (rest : List ℕ) → n < 2 ^ 64 → EndsWord rest → leaf_at (printed_value (symbol n) ++ rest) ≡ Some (symbol n, rest)
unfolding behind
symbol_leaf n rest fits ends = rw (natural_again 64 n rest fits (omega arith) (digit_ends rest ends)) refl

procedure_leaf : (name rest : List ℕ) → IsWritableValue (procedure name) → EndsWord rest → leaf_at (printed_value (procedure name) ++ rest) ≡ Some (procedure name, rest)
unfolding behind
procedure_leaf name rest is ends = ap (λ r. r) (rw (name_again name rest is ends) refl)

text_leaf : (cs rest : List ℕ) → IsWritableValue (text cs) → leaf_at (printed_value (text cs) ++ rest) ≡ Some (text cs, rest)
text_leaf cs rest is = rw (text_again cs rest is) refl

-- ---- the first byte

-- a value begins as no list does
record IsLeaf (v : PureValue) (rest : List ℕ) : Type 0 where
  pub no_list : begins (λ b. eqb b 91) (printed_value v ++ rest) ≡ false
  pub leaf : leaf_at (printed_value v ++ rest) ≡ Some (v, rest)

leaf_again : (n : ℕ) (v : PureValue) (rest : List ℕ) → IsLeaf v rest → value_at n (printed_value v ++ rest) ≡ Some (v, rest)
unfolding value_at
leaf_again zero v rest is = rw (is.no_list) is.leaf
leaf_again (suc n) v rest is = rw (is.no_list) is.leaf

-- no value begins with the bracket that closes a list
pub open_bracket : (v : PureValue) (rest : List ℕ) → begins (λ b. eqb b 93) (printed_value v ++ rest) ≡ false
open_bracket (integer n) rest = integer_first_not 93 n rest refl refl
open_bracket (boolean true) rest = refl
open_bracket (boolean false) rest = refl
open_bracket (text cs) rest = refl
open_bracket (symbol n) rest = refl
open_bracket (kind kinds.Int) rest = refl
open_bracket (kind kinds.Bool) rest = refl
open_bracket (kind kinds.Str) rest = refl
open_bracket (kind kinds.Sym) rest = refl
open_bracket (kind kinds.Kind) rest = refl
open_bracket (kind kinds.Proc) rest = refl
open_bracket (kind kinds.List) rest = refl
open_bracket (kind kinds.Undef) rest = refl
open_bracket (kind kinds.Null) rest = refl
open_bracket (procedure name) rest = refl
open_bracket (list vs) rest = refl

kind_no_list : (k : Kind) (rest : List ℕ) → begins (λ b. eqb b 91) (kind_name k ++ rest) ≡ false
kind_no_list kinds.Int rest = refl
kind_no_list kinds.Bool rest = refl
kind_no_list kinds.Str rest = refl
kind_no_list kinds.Sym rest = refl
kind_no_list kinds.Kind rest = refl
kind_no_list kinds.Proc rest = refl
kind_no_list kinds.List rest = refl
kind_no_list kinds.Undef rest = refl
kind_no_list kinds.Null rest = refl

truth_no_list : (b : Bool) (rest : List ℕ) → begins (λ c. eqb c 91) (printed_value (boolean b) ++ rest) ≡ false
truth_no_list true rest = refl
truth_no_list false rest = refl

-- ---- lists

abbrev printed_next : PureValue → List ℕ
printed_next v = codes ", " ++ printed_value v

more_printed : (vs : PureValues) → flat_map (λ text. codes ", " ++ text) (printed_values vs) ≡ flat_map printed_next (to_list vs)
more_printed no_values = refl
more_printed (value_and v vs) = ap (λ rest. printed_next v ++ rest) (more_printed vs)

no_longer : (vs : List PureValue) (rest : List ℕ) → length vs ≤ length (flat_map printed_next vs ++ rest)
no_longer [] rest = omega arith
no_longer (v ∷ vs) rest =
    omega (
      arith,
      no_longer vs rest,
      length-append (codes ", ") (printed_value v),
      length-append (printed_next v) (flat_map printed_next vs),
      length-append (printed_next v ++ flat_map printed_next vs) rest,
      length-append (flat_map printed_next vs) rest,
    )

-- one element behind its comma
next_again : (n : ℕ) (v : PureValue) (rest : List ℕ) → value_at n (printed_value v ++ rest) ≡ Some (v, rest)
    → IsAgain before_no_comma (behind_comma (value_at n)) printed_next EndsWord v rest
next_again n v rest read = record {
  again = rw (behind_again (codes ", ") (printed_value v ++ rest)) read;
  some = refl;
  follows = refl;
}

pub no_comma : (rest : List ℕ) → begins (λ b. eqb b 93) rest ≡ true → before_no_comma rest ≡ true
no_comma [] closes = absurd (cc closes)
no_comma (b ∷ rest) closes = rw (eqb-true b 93 closes) refl

some_again : (n : ℕ) (v : PureValue) (vs : PureValues) (rest : List ℕ)
    → (EndsWord (flat_map printed_next (to_list vs) ++ rest)
    → value_at n (printed_value v ++ (flat_map printed_next (to_list vs) ++ rest)) ≡ Some (v, flat_map printed_next (to_list vs) ++ rest))
    → AllByRecursion (Again before_no_comma (behind_comma (value_at n)) printed_next EndsWord) (to_list vs)
    → begins (λ b. eqb b 93) rest ≡ true → EndsWord rest
    → elements_at (value_at n) (join_by (λ printed. printed) (codes ", ") (printed_values (value_and v vs)) ++ rest) ≡ Some (v ∷ to_list vs, rest)
some_again n v vs rest first all closes ends =
    let more = flat_map printed_next (to_list vs) ++ rest in
    let length_is = no_longer (to_list vs) rest in
    let follow = many_follow before_no_comma (behind_comma (value_at n)) printed_next EndsWord (length more) (to_list vs) rest all ends (no_comma rest closes) length_is in
    let again = many_again before_no_comma (behind_comma (value_at n)) printed_next EndsWord (length more) (to_list vs) rest all ends (no_comma rest closes) length_is in
    rw (more_printed vs, append_assoc (printed_value v) (flat_map printed_next (to_list vs)) rest, open_bracket v more, first follow, again) refl

list_again : (n : ℕ) (vs : PureValues) (rest : List ℕ) → depths vs ≤ n
    → elements_at (value_at n) (join_by (λ printed. printed) (codes ", ") (printed_values vs) ++ 93 ∷ rest) ≡ Some (to_list vs, 93 ∷ rest)
    → value_at (suc n) (printed_value (list vs) ++ rest) ≡ Some (list vs, rest)
unfolding value_at list_at
list_again n vs rest le read =
    let joined = join_by (λ printed. printed) (codes ", ") (printed_values vs) in
    let grouped : (joined ++ 93 ∷ []) ++ rest ≡ joined ++ 93 ∷ rest = append_assoc joined (93 ∷ []) rest in
    rw grouped (rw (behind_again (91 ∷ []) (joined ++ 93 ∷ rest), read, behind_again (93 ∷ []) rest, from_list-to_list vs) refl)

mutual
  pub value_again : (n : ℕ) (v : PureValue) (rest : List ℕ) → depth v ≤ n → IsWritableValue v → EndsWord rest → value_at n (printed_value v ++ rest) ≡ Some (v, rest)
  value_again n (integer z) rest le is ends =
      leaf_again n (integer z) rest (record {
        no_list = integer_first_not 91 z rest refl refl;
        leaf = rw (integer_starts z rest, integer_again z rest is (digit_ends rest ends)) refl;
      })
  value_again n (boolean b) rest le is ends = leaf_again n (boolean b) rest (record { no_list = truth_no_list b rest; leaf = truth_leaf b rest })
  value_again n (text cs) rest le is ends = leaf_again n (text cs) rest (record { no_list = refl; leaf = text_leaf cs rest is })
  value_again n (symbol k) rest le is ends = leaf_again n (symbol k) rest (record { no_list = refl; leaf = symbol_leaf k rest is ends })
  value_again n (kind k) rest le is ends = leaf_again n (kind k) rest (record { no_list = kind_no_list k rest; leaf = kind_leaf k rest })
  value_again n (procedure name) rest le is ends = leaf_again n (procedure name) rest (record { no_list = refl; leaf = procedure_leaf name rest is ends })
  value_again zero (list vs) rest le is ends = absurd (omega arith)
  value_again (suc n) (list vs) rest le is ends = list_again n vs rest (omega arith) (elements_again n vs (93 ∷ rest) (omega arith) is refl refl)

  elements_again : (n : ℕ) (vs : PureValues) (rest : List ℕ) → depths vs ≤ n → AreWritableValues vs → begins (λ b. eqb b 93) rest ≡ true → EndsWord rest
      → elements_at (value_at n) (join_by (λ printed. printed) (codes ", ") (printed_values vs) ++ rest) ≡ Some (to_list vs, rest)
  elements_again n no_values rest le is closes ends = rw closes refl
  elements_again n (value_and v vs) rest le is closes ends =
      some_again n v vs rest (value_again n v (flat_map printed_next (to_list vs) ++ rest) (omega arith) is.0) (all_again n vs (omega arith) is.1) closes ends

  all_again : (n : ℕ) (vs : PureValues) → depths vs ≤ n → AreWritableValues vs
      → AllByRecursion (Again before_no_comma (behind_comma (value_at n)) printed_next EndsWord) (to_list vs)
  all_again n no_values le is = tt
  all_again n (value_and v vs) le is =
      ((λ rest ends. next_again n v rest (value_again n v rest (omega arith) is.0 ends)), all_again n vs (omega arith) is.1)

-- ---- as deep as the bytes are many

length_joined : (v : PureValue) (vs : PureValues) → length (printed_value v) ≤ length (join_by (λ printed. printed) (codes ", ") (printed_values (value_and v vs)))
length_joined v vs = omega (arith, length-append (printed_value v) (flat_map (λ text. codes ", " ++ text) (printed_values vs)))

mutual
  depth_length : (v : PureValue) → depth v ≤ length (printed_value v)
  depth_length (integer n) = omega arith
  depth_length (boolean b) = omega arith
  depth_length (text cs) = omega arith
  depth_length (symbol n) = omega arith
  depth_length (kind k) = omega arith
  depth_length (procedure name) = omega arith
  depth_length (list no_values) = omega arith
  depth_length (list (value_and v vs)) =
      omega (
        arith,
        depth_length v,
        depths_length vs,
        length-append (printed_value v) (flat_map (λ text. codes ", " ++ text) (printed_values vs)),
        length-append (join_by (λ printed. printed) (codes ", ") (printed_values (value_and v vs))) (codes "]"),
      )

  depths_length : (vs : PureValues) → depths vs ≤ length (flat_map (λ text. codes ", " ++ text) (printed_values vs))
  depths_length no_values = omega arith
  depths_length (value_and v vs) =
      omega (
        arith,
        depth_length v,
        depths_length vs,
        length-append (codes ", ") (printed_value v),
        length-append (codes ", " ++ printed_value v) (flat_map (λ text. codes ", " ++ text) (printed_values vs)),
      )

pub values_again : ValuesAgain
values_again v rest is ends =
    value_again (length (printed_value v ++ rest)) v rest (omega (arith, depth_length v, length-append (printed_value v) rest)) is ends

pub are_writable : (vs : List PureValue) → AllByRecursion IsWritableValue vs → AreWritableValues (from_list vs)
are_writable [] all = tt
are_writable (v ∷ vs) all = (all.0, are_writable vs all.1)

bracketed_parts : (n : ℕ) (vs : List PureValue) (rest : List ℕ)
    → elements_at (value_at n) (join_by (λ printed. printed) (codes ", ") (printed_values (from_list vs)) ++ 93 ∷ rest) ≡ Some (to_list (from_list vs), 93 ∷ rest)
    → bracketed_at (value_at n) (printed_list vs ++ rest) ≡ Some (vs, rest)
unfolding bracketed_at
bracketed_parts n vs rest read =
    let joined = join_by (λ printed. printed) (codes ", ") (printed_values (from_list vs)) in
    let grouped : (joined ++ 93 ∷ []) ++ rest ≡ joined ++ 93 ∷ rest = append_assoc joined (93 ∷ []) rest in
    rw grouped (rw (behind_again (91 ∷ []) (joined ++ 93 ∷ rest), read, behind_again (93 ∷ []) rest, to_list-from_list vs) refl)

pub bracketed_again : (vs : List PureValue) (rest : List ℕ) → AllByRecursion IsWritableValue vs → bracketed_values_at (printed_list vs ++ rest) ≡ Some (vs, rest)
bracketed_again vs rest all =
    let n = length (printed_list vs ++ rest) in
    let deep : depths (from_list vs) ≤ n = omega (arith, depth_length (list (from_list vs)), length-append (printed_list vs) rest) in
    bracketed_parts n vs rest (elements_again n (from_list vs) (93 ∷ rest) deep (are_writable vs all) refl refl)
