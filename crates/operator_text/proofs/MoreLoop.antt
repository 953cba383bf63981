-- What follows a left side, as a loop reads it.
use Rattle.std.proofs.Common.{◌≡◌, ℕ, zero, suc, ◌+◌, ◌-◌, ◌<◌, ◌≤◌, List, cond, Option, Some, None, sym, ap, ◌∙◌, arith}
use Rattle.std.proofs.lemmas.Bool.{lt-ltb, le-ltb}
use Rattle.gil_lexemes.specs.declared.standing.Lexeme.{Lexeme}
use Rattle.gil_lexemes.specs.declared.stops.Stop.{Stop}
use Rattle.gil_lexemes.specs.declared.stops.Stop.TheVariants as stops
use Rattle.gil_lexemes.specs.Reading.{Reading, ◌>>=◌, behind, Fails}
use Rattle.source_operators.specs.Pure.{PureExpression}
use Rattle.operator_text.specs.declared.strengths.After.{After}
use Rattle.operator_text.specs.Grammar.{first_after}
use Rattle.operator_text.specs.Reading.{side_at, joined_by, more_at}
use Rattle.operator_text.specs.Signs.{Signs, strength, join}

fails_so : {A B : Type 0} (stop : Stop) (read : Option A) (other : Option B) → (read ≡ None → other ≡ None) → Fails stop read → Fails stop other
fails_so stops.Memory read other so h = tt
fails_so (stops.Syntax left) read other so h = so h

module _ {P J : Type 0} (g : Signs P J) (at : ℕ → List Lexeme → Reading (PureExpression P J)) where
  pub one_more : (t k : ℕ) (left : PureExpression P J) (rest : List Lexeme) (a : After) → first_after g rest ≡ Some a → k ≤ strength a
      → more_at g at (suc t) k left rest ≡ (side_at g at a (behind rest) >>= λ e. more_at g at t k (join g a left e.0) e.1)
  one_more t k left rest a is le =
      ap (λ o. joined_by g at o k left rest (λ e more. more_at g at t k e more)) is
      ∙ ap (λ b. cond b (Some (left, rest)) (side_at g at a (behind rest) >>= λ e. more_at g at t k (join g a left e.0) e.1)) (le-ltb (strength a) k le)

  -- nothing follows
  pub nothing_follows : (t k : ℕ) (left : PureExpression P J) (rest : List Lexeme) (whole : Reading (PureExpression P J)) → first_after g rest ≡ None
      → more_at g at t k left rest ≡ whole → whole ≡ Some (left, rest)
  nothing_follows zero k left rest whole is so = sym so
  nothing_follows (suc t) k left rest whole is so = sym so ∙ ap (λ o. joined_by g at o k left rest (λ e more. more_at g at t k e more)) is

  -- what follows is too weak
  pub weak_follows : (t k : ℕ) (left : PureExpression P J) (rest : List Lexeme) (whole : Reading (PureExpression P J)) (a : After)
      → first_after g rest ≡ Some a → strength a < k → more_at g at t k left rest ≡ whole → whole ≡ Some (left, rest)
  weak_follows zero k left rest whole a is lt so = sym so
  weak_follows (suc t) k left rest whole a is lt so =
      sym so ∙ ap (λ o. joined_by g at o k left rest (λ e more. more_at g at t k e more)) is
      ∙ ap (λ b. cond b (Some (left, rest)) (side_at g at a (behind rest) >>= λ e. more_at g at t k (join g a left e.0) e.1)) (lt-ltb (strength a) k lt)

  module _ (most i k : ℕ) (left : PureExpression P J) (rest : List Lexeme) (whole : Reading (PureExpression P J)) (a : After)
      (within : i < most) (is : first_after g rest ≡ Some a) (le : k ≤ strength a) (so : more_at g at (most - i) k left rest ≡ whole) where
    turns : most - i ≡ suc (most - (i + 1))
    turns = omega (arith, within)

    pub side_fails : (stop : Stop) → Fails stop (side_at g at a (behind rest)) → Fails stop whole
    side_fails stop h = fails_so stop (side_at g at a (behind rest)) whole
        (λ none. sym so ∙ ap (λ t. more_at g at t k left rest) turns ∙ one_more (most - (i + 1)) k left rest a is le
        ∙ ap (λ r. r >>= λ e. more_at g at (most - (i + 1)) k (join g a left e.0) e.1) none) h

    pub side_follows : (e : PureExpression P J) (more : List Lexeme) → side_at g at a (behind rest) ≡ Some (e, more)
        → more_at g at (most - (i + 1)) k (join g a left e) more ≡ whole
    side_follows e more found =
        sym (sym so ∙ ap (λ t. more_at g at t k left rest) turns ∙ one_more (most - (i + 1)) k left rest a is le
        ∙ ap (λ r. r >>= λ x. more_at g at (most - (i + 1)) k (join g a left x.0) x.1) found)

  pub all_followed : (most i k : ℕ) (left : PureExpression P J) (rest : List Lexeme) (whole : Reading (PureExpression P J)) → most ≤ i
      → more_at g at (most - i) k left rest ≡ whole → whole ≡ Some (left, rest)
  all_followed most i k left rest whole past so =
      let none : most - i ≡ 0 = omega (arith, past) in
      sym so ∙ ap (λ t. more_at g at t k left rest) none
