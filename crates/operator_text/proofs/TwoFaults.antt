-- The earlier of two lexemes behind which lexemes break one of two rules.
use Rattle.std.proofs.Common.{◌≡◌, ℕ, ◌≤◌, List, [], ◌∷◌, ◌++◌, length, Option, Some, None, refl, sym, ap, subst, ◌∙◌, arith, length-append}
use Rattle.std.specs.Prelude.{IfSome, IfNone}
use Rattle.gil_lexemes.specs.declared.standing.Lexeme.{Lexeme}
use Rattle.gil_grammar.specs.Nesting.{open_behind, IsNestedFrom, IsNested}
use Rattle.gil_text.specs.Refusals.{IsTooDeep}
use Rattle.operator_text.specs.Few.{operators_behind, AreFewFrom, IsNestedWithFew}

few_front : (count : ℕ) (a b : List Lexeme) → AreFewFrom count (a ++ b) → AreFewFrom count a
few_front count [] b h = tt
few_front count (l ∷ a) b h = (h.0, few_front (operators_behind count l) a b h.1)

nested_front : (count : ℕ) (a b : List Lexeme) → IsNestedFrom count (a ++ b) → IsNestedFrom count a
nested_front count [] b h = tt
nested_front count (l ∷ a) b h = (h.0, nested_front (open_behind count l) a b h.1)

-- of two fronts of the same lexemes the longer one begins with the other
front_of : (a b c d : List Lexeme) → a ++ b ≡ c ++ d → length a ≤ length c → (more : List Lexeme) × (c ≡ a ++ more)
front_of [] b c d is le = (c, refl)
front_of (x ∷ a) b [] d is le = absurd (omega (arith, le))
front_of (x ∷ a) b (y ∷ c) d is le =
    let same : x ≡ y = cc in
    let rest : a ++ b ≡ c ++ d = cc in
    let h = front_of a b c d rest (omega (arith, le)) in
    (h.0, λ k. sym same k ∷ h.1 k)

module _ (all : List Lexeme) where
  -- more brackets are open than may be, and up to there are few operators
  brackets_first : (left : ℕ) (deep : IsTooDeep IsNested all left) → AreFewFrom 0 deep.front → IsTooDeep IsNestedWithFew all left
  brackets_first left deep few = record {
    whole = λ h. deep.whole h.0;
    front = deep.front;
    lexeme = deep.lexeme;
    rest = deep.rest;
    is = deep.is;
    before = (deep.before, few);
    behind = λ h. deep.behind h.0;
    many = deep.many;
  }

  operators_first : (left : ℕ) (many : IsTooDeep (AreFewFrom 0) all left) → IsNested many.front → IsTooDeep IsNestedWithFew all left
  operators_first left many nested = record {
    whole = λ h. many.whole h.1;
    front = many.front;
    lexeme = many.lexeme;
    rest = many.rest;
    is = many.is;
    before = (nested, many.before);
    behind = λ h. many.behind h.1;
    many = many.many;
  }

  pub only_brackets : (left : ℕ) → IsTooDeep IsNested all left → AreFewFrom 0 all → IsTooDeep IsNestedWithFew all left
  only_brackets left deep few = brackets_first left deep (few_front 0 deep.front (deep.lexeme ∷ deep.rest) (subst (AreFewFrom 0) deep.is few))

  pub only_operators : (left : ℕ) → IsTooDeep (AreFewFrom 0) all left → IsNested all → IsTooDeep IsNestedWithFew all left
  only_operators left many nested = operators_first left many (nested_front 0 many.front (many.lexeme ∷ many.rest) (subst IsNested many.is nested))

  pub brackets_earlier : (left right : ℕ) → IsTooDeep IsNested all left → IsTooDeep (AreFewFrom 0) all right → right ≤ left → IsTooDeep IsNestedWithFew all left
  brackets_earlier left right deep many le =
      let shorter : length deep.front ≤ length many.front = omega (
        arith,
        le,
        deep.many,
        many.many,
        ap length (sym deep.is ∙ many.is),
        length-append deep.front (deep.lexeme ∷ deep.rest),
        length-append many.front (many.lexeme ∷ many.rest),
      ) in
      let part = front_of deep.front (deep.lexeme ∷ deep.rest) many.front (many.lexeme ∷ many.rest) (sym deep.is ∙ many.is) shorter in
      brackets_first left deep (few_front 0 deep.front part.0 (subst (AreFewFrom 0) part.1 many.before))

  pub operators_earlier : (left right : ℕ) → IsTooDeep IsNested all left → IsTooDeep (AreFewFrom 0) all right → left ≤ right → IsTooDeep IsNestedWithFew all right
  operators_earlier left right deep many le =
      let shorter : length many.front ≤ length deep.front = omega (
        arith,
        le,
        deep.many,
        many.many,
        ap length (sym deep.is ∙ many.is),
        length-append deep.front (deep.lexeme ∷ deep.rest),
        length-append many.front (many.lexeme ∷ many.rest),
      ) in
      let part = front_of many.front (many.lexeme ∷ many.rest) deep.front (deep.lexeme ∷ deep.rest) (sym many.is ∙ deep.is) shorter in
      operators_first right many (nested_front 0 many.front part.0 (subst IsNested part.1 deep.before))

-- what a test of lexemes that are the same says
pub some_fault : (is_nested : List Lexeme → Type 0) (o : Option ℕ) (left : ℕ) (all other : List Lexeme) → other ≡ all → o ≡ Some left
    → IfSome o (IsTooDeep is_nested other) → IsTooDeep is_nested all left
some_fault is_nested o left all other same some h =
    subst (λ ls. IsTooDeep is_nested ls left) same (subst (λ x. IfSome x (IsTooDeep is_nested other)) some h)

pub no_fault : (is_nested : List Lexeme → Type 0) (o : Option ℕ) (all other : List Lexeme) → other ≡ all → o ≡ None
    → IfNone o (is_nested other) → is_nested all
no_fault is_nested o all other same none h = subst is_nested same (subst (λ x. IfNone x (is_nested other)) none h)
