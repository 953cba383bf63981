-- Reading expressions from left to right, as functions: what the functions of a reader answer. What lexemes spell is said apart from it, and
-- the two are proved to agree.
use Rattle.std.specs.Prelude.{ℕ, zero, suc, List, [], ◌∷◌, length, nat_lt, Option, Some, None, if◌then◌else◌}
use Rattle.gil_values.specs.Pure.{text}
use Rattle.gil_lexer.specs.declared.forms.Form.{Form}
use Rattle.gil_lexer.specs.declared.signs.Sign.TheVariants.{LeftParenthesis, RightParenthesis, RightBracket, Ampersand}
use Rattle.gil_lexemes.specs.declared.standing.Lexeme.{Lexeme}
use Rattle.gil_lexemes.specs.Reading.{Reading, ◌>>=◌, first_form, behind, is_sign, sign_at, name_at}
use Rattle.source_operators.specs.Pure.{PureExpression, constant, brackets, prefixed, joined}
use Rattle.operator_text.specs.declared.strengths.After.{After}
use Rattle.operator_text.specs.declared.strengths.After.TheVariants.{Infix, Connects, Bracketed, Dotted}
use Rattle.operator_text.specs.Grammar.{first_after}
use Rattle.operator_text.specs.Signs.{Signs, tight, strength, leaf_tree, join}

module _ {P J : Type 0} (g : Signs P J) where
  abbrev pub Reads : Type 0
  Reads = Reading (PureExpression P J)

  -- what stands by itself
  abbrev pub leaf_at : List Lexeme → Reads
  leaf_at [] = None
  leaf_at (l ∷ ls) = g.leaf l >>= λ a. Some (leaf_tree a, ls)

  abbrev pub prefix_of : Option Form → Option P
  prefix_of (Some form) = g.prefix form
  prefix_of None = None

  -- an operator of two operands behind `&`
  abbrev pub addressed : PureExpression P J → Option (PureExpression P J)
  addressed (joined i d e) = g.taken i >>= λ j. Some (joined j d e)
  addressed _ = None

  -- a name, behind a dot
  abbrev pub named_at : List Lexeme → Reads
  named_at ls = name_at ls >>= λ p. Some (constant (text p.0), p.1)

  -- the expressions at each strength are read by `at`
  module _ (at : ℕ → List Lexeme → Reads) where
    unfoldable pub bracketed_at : List Lexeme → Reads
    bracketed_at ls = do
      e ← at 0 ls
      rest ← sign_at RightParenthesis e.1
      Some (brackets e.0, rest)

    unfoldable pub address_at : List Lexeme → Reads
    address_at ls = do
      e ← at tight ls
      tree ← addressed e.0
      Some (tree, e.1)

    abbrev pub prefixed_at : P → List Lexeme → Reads
    prefixed_at u ls = at tight ls >>= λ e. Some (prefixed u e.0, e.1)

    abbrev pub by_prefix : Option P → List Lexeme → Reads
    by_prefix (Some u) ls = prefixed_at u (behind ls)
    by_prefix None ls = leaf_at ls

    -- what no operator joins
    unfoldable pub single_at : List Lexeme → Reads
    single_at ls =
        if is_sign LeftParenthesis (first_form ls) then bracketed_at (behind ls)
        else if is_sign Ampersand (first_form ls) then address_at (behind ls) else by_prefix (prefix_of (first_form ls)) ls

    unfoldable pub index_at : List Lexeme → Reads
    index_at ls = do
      e ← at 0 ls
      rest ← sign_at RightBracket e.1
      Some (e.0, rest)

    abbrev pub side_at : After → List Lexeme → Reads
    side_at (Infix op) ls = at (suc (strength (Infix op))) ls
    side_at (Connects c) ls = at (suc (strength (Connects c))) ls
    side_at Bracketed ls = index_at ls
    side_at Dotted ls = named_at ls

    abbrev pub joined_by : Option After → ℕ → PureExpression P J → List Lexeme → (PureExpression P J → List Lexeme → Reads) → Reads
    joined_by None k left ls go_on = Some (left, ls)
    joined_by (Some a) k left ls go_on =
        if nat_lt (strength a) k then Some (left, ls) else (side_at a (behind ls) >>= λ e. go_on (join g a left e.0) e.1)

    -- what follows the left side, as long as it is strong enough, at most so often
    abbrev pub more_at : ℕ → ℕ → PureExpression P J → List Lexeme → Reads
    more_at zero k left ls = Some (left, ls)
    more_at (suc t) k left ls = joined_by (first_after g ls) k left ls (λ e rest. more_at t k e rest)

    unfoldable pub expression_by : ℕ → List Lexeme → Reads
    expression_by k ls = do
      e ← single_at ls
      more_at (length e.1) k e.0 e.1

  -- an expression where only operators of at least a strength may stand, in which so many stand within one another at most
  abbrev pub expression_at : ℕ → ℕ → List Lexeme → Reads
  expression_at zero k ls = None
  expression_at (suc n) k ls = expression_by (expression_at n) k ls
