-- What is read as a value is writable.
use Rattle.std.proofs.Common.{◌≡◌, ◌⊎◌, ℕ, zero, suc, ◌+◌, ◌<◌, ◌≤◌, ◌^◌, ℤ, pos, neg_ℤ, Bool, true, false, ◌&&◌, ◌||◌, not, cond, eqb, leb, ltb, List, [], ◌∷◌, ◌++◌, length, take, drop, Option, Some, None, refl, sym, ap, subst, ◌∙◌, arith, inl, inr}
use Rattle.std.specs.Prelude.{FitsSigned, codes}
use Rattle.std.specs.Char.{is_ascii_digit}
use Rattle.std.specs.Int.{w128}
use Rattle.std.specs.List.{AllByRecursion, list_all, prefix_len}
use Rattle.std.specs.Str.Parse.{digits_value}
use Rattle.std.proofs.lemmas.Bool.{and_parts, cases_Bool, leb-true, ltb-true, or_left}
use Rattle.std.proofs.lemmas.Int.{ints}
use Rattle.std.proofs.lemmas.Option.{same_Some}
use Rattle.gil_values.specs.declared.kinds.Kind.{Kind}
use Rattle.gil_values.specs.Pure.{PureValue, integer, boolean, text, symbol, kind, procedure, list}
use Rattle.gil_lexer.specs.Bytes.{begins, is_name_start, is_name_byte}
use Rattle.gil_lexer.specs.Spelling.{IsName}
use Rattle.gil_lexer.proofs.RunLemmas.{run_passes, take_one_more}
use Rattle.value_text.specs.Laws.{OnlyWritable}
use Rattle.value_text.specs.Reading.{Reading, ◌>>=◌, ◌or_else◌, behind, behind_or, with_front, many_at, magnitude, number_at, natural_at, positive_at, negative_at, integer_at, name_at, characters_at, text_at, kind_at, word_at, marked_at, leaf_at, before_no_comma, behind_comma, elements_at, list_at, value_at, any_value_at, bracketed_at, bracketed_values_at, before_quote, is_number_start}
use Rattle.value_text.specs.Writable.{IsWritableValue, AreWritableValues}
use Rattle.value_text.proofs.TextLaws.{characters_say}
use Rattle.value_text.proofs.ValueLaws.{are_writable}

-- ---- steps

pub record Step {A B : Type 0} (r : Option A) (f : A → Option B) (y : B) : Type 0 where
  pub first : A
  pub read : r ≡ Some first
  pub then_read : f first ≡ Some y

pub step : {A B : Type 0} (r : Option A) (f : A → Option B) (y : B) → (r >>= f) ≡ Some y → Step r f y
step None f y e = absurd (cc e)
step (Some x) f y e = record { first = x; read = refl; then_read = e }

pub either : {A : Type 0} (a b : Option A) (y : A) → (a or_else b) ≡ Some y → (a ≡ Some y) ⊎ (b ≡ Some y)
either (Some x) b y e = inl e
either None b y e = inr e

pub branch : {A : Type 0} (b : Bool) (x y : Option A) (z : A) → cond b x y ≡ Some z → ((b ≡ true) × (x ≡ Some z)) ⊎ ((b ≡ false) × (y ≡ Some z))
branch true x y z e = inl (refl, e)
branch false x y z e = inr (refl, e)

pub behind_or_says : {X : Type 0} (o : Option (List ℕ)) (f : List ℕ → Reading X) (other : Reading X) (y : X × List ℕ) → behind_or o f other ≡ Some y
    → ((rest : List ℕ) × (f rest ≡ Some y)) ⊎ (other ≡ Some y)
behind_or_says (Some rest) f other y e = inl (rest, e)
behind_or_says None f other y e = inr e

-- ---- numbers

magnitude_says : (ds : List ℕ) (n : ℕ) → magnitude ds ≡ Some n → n ≤ 2 ^ 127
magnitude_says ds n e =
    elim (cases_Bool (list_all is_ascii_digit ds && not (eqb (length ds) 0) && leb (digits_value 10 ds) (2 ^ 127))) [
      | inl test ↦
          let outer = and_parts (list_all is_ascii_digit ds && not (eqb (length ds) 0)) (leb (digits_value 10 ds) (2 ^ 127)) test in
          let is : Some (digits_value 10 ds) ≡ Some n = rw test at e in
          let same : digits_value 10 ds ≡ n = same_Some (digits_value 10 ds) n is in
          let small = leb-true _ _ outer.1 in
          rw (sym same) small
      | inr test ↦ let is = rw test at e in cc
    ]

number_says : (bytes : List ℕ) (y : ℕ × List ℕ) → number_at bytes ≡ Some y → y.0 ≤ 2 ^ 127
unfolding number_at
number_says bytes y e =
    let s = step (magnitude (take (prefix_len is_ascii_digit bytes) bytes)) _ y e in
    subst (λ p. p.0 ≤ 2 ^ 127) (same_Some _ _ s.then_read) (magnitude_says (take (prefix_len is_ascii_digit bytes) bytes) s.first s.read)

pub natural_says : (bits : ℕ) (bytes : List ℕ) (y : ℕ × List ℕ) → natural_at bits bytes ≡ Some y → y.0 < 2 ^ bits
unfolding natural_at
natural_says bits bytes y e =
    let s = step (number_at bytes) _ y e in
    elim (branch {A = ℕ × List ℕ} (ltb s.first.0 (2 ^ bits)) (Some s.first) None y s.then_read) [
      | inl (test, is) ↦ subst (λ p. p.0 < 2 ^ bits) (same_Some _ _ is) (ltb-true _ _ test)
      | inr (test, is) ↦ absurd (cc is)
    ]

fits_positive : (n : ℕ) → n < 2 ^ 127 → FitsSigned w128 (pos n)
fits_positive n small = omega (arith, ints)

fits_negative : (n : ℕ) → n ≤ 2 ^ 127 → FitsSigned w128 (neg_ℤ (pos n))
fits_negative n small = omega (arith, ints)

positive_says : (bytes : List ℕ) (y : ℤ × List ℕ) → positive_at bytes ≡ Some y → FitsSigned w128 y.0
unfolding positive_at
positive_says bytes y e =
    let s = step (number_at bytes) _ y e in
    elim (branch {A = ℤ × List ℕ} (ltb s.first.0 (2 ^ 127)) (Some (pos s.first.0, s.first.1)) None y s.then_read) [
      | inl (test, is) ↦ subst (λ p. FitsSigned w128 p.0) (same_Some _ _ is) (fits_positive s.first.0 (ltb-true _ _ test))
      | inr (test, is) ↦ absurd (cc is)
    ]

negative_says : (bytes : List ℕ) (y : ℤ × List ℕ) → negative_at bytes ≡ Some y → FitsSigned w128 y.0
unfolding negative_at
negative_says bytes y e =
    let a = step (behind (codes "-") bytes) _ y e in
    let s = step (number_at a.first) _ y a.then_read in
    subst (λ p. FitsSigned w128 p.0) (same_Some _ _ s.then_read) (fits_negative s.first.0 (number_says a.first s.first s.read))

pub integer_says : (bytes : List ℕ) (y : ℤ × List ℕ) → integer_at bytes ≡ Some y → FitsSigned w128 y.0
integer_says bytes y e = elim (branch {A = ℤ × List ℕ} (begins (λ b. eqb b 45) bytes) (negative_at bytes) (positive_at bytes) y e) [
  | inl (test, is) ↦ negative_says bytes y is
  | inr (test, is) ↦ positive_says bytes y is
]

-- ---- names

name_run : (bytes : List ℕ) → begins is_name_start bytes ≡ true → IsName (take (prefix_len is_name_byte bytes) bytes)
name_run [] e = absurd (cc e)
name_run (b ∷ bs) e =
    let first : is_name_byte b ≡ true = or_left (is_name_start b || is_ascii_digit b) (eqb b 36) (or_left (is_name_start b) (is_ascii_digit b) e) in
    (rw (first, take_one_more b bs (prefix_len is_name_byte bs)) e, run_passes is_name_byte (b ∷ bs))

pub name_says : (bytes : List ℕ) (y : List ℕ × List ℕ) → name_at bytes ≡ Some y → IsName y.0
name_says bytes y e = elim (branch {A = List ℕ × List ℕ} (begins is_name_start bytes) (Some (take (prefix_len is_name_byte bytes) bytes, drop (prefix_len is_name_byte bytes) bytes)) None y e) [
  | inl (test, is) ↦ subst (λ p. IsName p.0) (same_Some _ _ is) (name_run bytes test)
  | inr (test, is) ↦ absurd (cc is)
]

-- ---- things one after another

module _ {X : Type 0} (stops : List ℕ → Bool) (read : List ℕ → Reading X) (P : X → Type 0) (each : (bytes : List ℕ) (y : X × List ℕ) → read bytes ≡ Some y → P y.0) where
  pub many_says : (n : ℕ) (bytes : List ℕ) (y : List X × List ℕ) → many_at stops read n bytes ≡ Some y → AllByRecursion P y.0
  unfolding many_at
  many_says zero bytes y e = subst (λ p. AllByRecursion P p.0) (same_Some _ _ e) tt
  many_says (suc n) bytes y e =
      elim (branch {A = List X × List ℕ} (stops bytes) (Some ([], bytes)) (read bytes >>= λ x. with_front (x.0 ∷ []) (many_at stops read n x.1)) y e) [
        | inl (test, is) ↦ subst (λ p. AllByRecursion P p.0) (same_Some _ _ is) tt
        | inr (test, is) ↦
            let s = step (read bytes) _ y is in
            let more = step (many_at stops read n s.first.1) _ y s.then_read in
            subst (λ p. AllByRecursion P p.0) (same_Some _ _ more.then_read) (each bytes s.first s.read, many_says n s.first.1 more.first more.read)
      ]

-- ---- values

text_says : (bytes : List ℕ) (y : List ℕ × List ℕ) → text_at bytes ≡ Some y → IsWritableValue (text y.0)
unfolding text_at
text_says bytes y e =
    let a = step (behind (codes "\"") bytes) _ y e in
    let b = step (characters_at a.first) _ y a.then_read in
    let c = step (behind (codes "\"") b.first.1) _ y b.then_read in
    subst (λ p. IsWritableValue (text p.0)) (same_Some _ _ c.then_read) (characters_say a.first b.first.0 b.first.1 b.read)

abbrev OnlyThese : Option (PureValue × List ℕ) → Type 0
OnlyThese r = (y : PureValue × List ℕ) → r ≡ Some y → IsWritableValue y.0

-- what is made of something that was read
made_says : {X : Type 0} (r : Reading X) (make : X → PureValue) → ((y : X × List ℕ) → r ≡ Some y → IsWritableValue (make y.0)) → OnlyThese (r >>= λ x. Some (make x.0, x.1))
made_says r make each y e =
    let s = step r _ y e in subst (λ p. IsWritableValue p.0) (same_Some _ _ s.then_read) (each s.first s.read)

truth_says : (bytes : List ℕ) (word : List ℕ) (b : Bool) → OnlyThese (behind word bytes >>= λ rest. Some (boolean b, rest))
truth_says bytes word b y e =
    let s = step (behind word bytes) _ y e in subst (λ p. IsWritableValue p.0) (same_Some _ _ s.then_read) tt

abbrev word_rest : List ℕ → Reading PureValue
word_rest bytes =
    (behind (codes "false") bytes >>= λ rest. Some (boolean false, rest)) or_else (kind_at bytes >>= λ k. Some (kind k.0, k.1))

word_says : (bytes : List ℕ) → OnlyThese (word_at bytes)
word_says bytes y e = elim (either {A = PureValue × List ℕ} (behind (codes "true") bytes >>= λ rest. Some (boolean true, rest)) (word_rest bytes) y e) [
  | inl is ↦ truth_says bytes (codes "true") true y is
  | inr other ↦ elim (either {A = PureValue × List ℕ} (behind (codes "false") bytes >>= λ rest. Some (boolean false, rest)) (kind_at bytes >>= λ k. Some (kind k.0, k.1)) y other) [
    | inl is ↦ truth_says bytes (codes "false") false y is
    | inr is ↦ made_says (kind_at bytes) kind (λ z f. tt) y is
  ]
]

abbrev symbol_rest : List ℕ → Reading PureValue
symbol_rest rest = natural_at 64 rest >>= λ n. Some (symbol n.0, n.1)

abbrev procedure_rest : List ℕ → Reading PureValue
procedure_rest rest = name_at rest >>= λ x. Some (procedure x.0, x.1)

abbrev marked_rest : List ℕ → Reading PureValue
marked_rest bytes = behind_or (behind (codes "@") bytes) procedure_rest (word_at bytes)

marked_says : (bytes : List ℕ) → OnlyThese (marked_at bytes)
marked_says bytes y e = elim (behind_or_says {X = PureValue} (behind (codes "$") bytes) symbol_rest (marked_rest bytes) y e) [
  | inl (rest, is) ↦ made_says (natural_at 64 rest) symbol (λ z f. natural_says 64 rest z f) y is
  | inr other ↦ elim (behind_or_says {X = PureValue} (behind (codes "@") bytes) procedure_rest (word_at bytes) y other) [
    | inl (rest, is) ↦ made_says (name_at rest) procedure (λ z f. name_says rest z f) y is
    | inr is ↦ word_says bytes y is
  ]
]

abbrev leaf_rest : List ℕ → Reading PureValue
leaf_rest bytes = cond (before_quote bytes) (text_at bytes >>= λ x. Some (text x.0, x.1)) (marked_at bytes)

leaf_says : (bytes : List ℕ) → OnlyThese (leaf_at bytes)
leaf_says bytes y e = elim (branch {A = PureValue × List ℕ} (begins is_number_start bytes) (integer_at bytes >>= λ n. Some (integer n.0, n.1)) (leaf_rest bytes) y e) [
  | inl (test, is) ↦ made_says (integer_at bytes) integer (λ z f. integer_says bytes z f) y is
  | inr (test, other) ↦ elim (branch {A = PureValue × List ℕ} (before_quote bytes) (text_at bytes >>= λ x. Some (text x.0, x.1)) (marked_at bytes) y other) [
    | inl (more, is) ↦ made_says (text_at bytes) text (λ z f. text_says bytes z f) y is
    | inr (more, is) ↦ marked_says bytes y is
  ]
]

comma_says : (read : List ℕ → Reading PureValue) → ((bytes : List ℕ) → OnlyThese (read bytes)) → (bytes : List ℕ) → OnlyThese (behind_comma read bytes)
comma_says read each bytes y e = let s = step (behind (codes ", ") bytes) read y e in each s.first y s.then_read

abbrev elements_rest : (List ℕ → Reading PureValue) → List ℕ → Reading (List PureValue)
elements_rest read bytes = read bytes >>= λ x. with_front (x.0 ∷ []) (many_at before_no_comma (behind_comma read) (length x.1) x.1)

elements_say : (read : List ℕ → Reading PureValue) → ((bytes : List ℕ) → OnlyThese (read bytes)) → (bytes : List ℕ) (y : List PureValue × List ℕ)
    → elements_at read bytes ≡ Some y → AllByRecursion IsWritableValue y.0
elements_say read each bytes y e = elim (branch {A = List PureValue × List ℕ} (begins (λ b. eqb b 93) bytes) (Some ([], bytes)) (elements_rest read bytes) y e) [
  | inl (test, is) ↦ subst (λ p. AllByRecursion IsWritableValue p.0) (same_Some _ _ is) tt
  | inr (test, is) ↦
      let s = step (read bytes) _ y is in
      let more = step (many_at before_no_comma (behind_comma read) (length s.first.1) s.first.1) _ y s.then_read in
      subst (λ p. AllByRecursion IsWritableValue p.0) (same_Some _ _ more.then_read)
      (each bytes s.first s.read, many_says before_no_comma (behind_comma read) IsWritableValue (comma_says read each) (length s.first.1) s.first.1 more.first more.read)
]

list_says : (read : List ℕ → Reading PureValue) → ((bytes : List ℕ) → OnlyThese (read bytes)) → (bytes : List ℕ) → OnlyThese (list_at read bytes)
unfolding list_at
list_says read each bytes y e =
    let a = step (behind (codes "[") bytes) _ y e in
    let b = step (elements_at read a.first) _ y a.then_read in
    let c = step (behind (codes "]") b.first.1) _ y b.then_read in
    subst (λ p. IsWritableValue p.0) (same_Some _ _ c.then_read) (are_writable b.first.0 (elements_say read each a.first b.first b.read))

value_says : (n : ℕ) (bytes : List ℕ) → OnlyThese (value_at n bytes)
unfolding value_at
value_says zero bytes y e = elim (branch {A = PureValue × List ℕ} (begins (λ b. eqb b 91) bytes) None (leaf_at bytes) y e) [
  | inl (test, is) ↦ absurd (cc is)
  | inr (test, is) ↦ leaf_says bytes y is
]
value_says (suc n) bytes y e = elim (branch {A = PureValue × List ℕ} (begins (λ b. eqb b 91) bytes) (list_at (value_at n) bytes) (leaf_at bytes) y e) [
  | inl (test, is) ↦ list_says (value_at n) (value_says n) bytes y is
  | inr (test, is) ↦ leaf_says bytes y is
]

pub only_writable : OnlyWritable
only_writable n bytes v rest e = value_says n bytes (v, rest) e

bracket_says : (read : List ℕ → Reading PureValue) → ((bytes : List ℕ) → OnlyThese (read bytes)) → (bytes : List ℕ) (y : List PureValue × List ℕ)
    → bracketed_at read bytes ≡ Some y → AllByRecursion IsWritableValue y.0
unfolding bracketed_at
bracket_says read each bytes y e =
    let a = step (behind (codes "[") bytes) _ y e in
    let b = step (elements_at read a.first) _ y a.then_read in
    let c = step (behind (codes "]") b.first.1) _ y b.then_read in
    subst (λ p. AllByRecursion IsWritableValue p.0) (same_Some _ _ c.then_read) (elements_say read each a.first b.first b.read)

pub bracketed_says : (bytes : List ℕ) (y : List PureValue × List ℕ) → bracketed_values_at bytes ≡ Some y → AllByRecursion IsWritableValue y.0
bracketed_says bytes y e = bracket_says (value_at (length bytes)) (value_says (length bytes)) bytes y e

pub any_says : (bytes : List ℕ) (y : PureValue × List ℕ) → any_value_at bytes ≡ Some y → IsWritableValue y.0
any_says bytes y e = value_says (length bytes) bytes y e
