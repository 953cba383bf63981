-- Which lexemes spell an expression, by the strengths of its operators, which all join to the left.
use Rattle.std.specs.Prelude.{◌≡◌, ◌⊎◌, ℕ, suc, ◌≤◌, List, [], ◌∷◌, Option, Some, None}
use Rattle.gil_values.specs.Pure.{text}
use Rattle.gil_lexer.specs.declared.signs.Sign.TheVariants.{Ampersand}
use Rattle.gil_lexemes.specs.declared.standing.Lexeme.{Lexeme}
use Rattle.gil_lexemes.specs.declared.standing.Lexeme.TheVariants.{Name, Sign}
use Rattle.gil_lexemes.specs.Reading.{form_of}
use Rattle.gil_grammar.specs.Vocabulary.{opening_parenthesis, closing_parenthesis, closing_bracket}
use Rattle.source_operators.specs.Operands.{known, named}
use Rattle.source_operators.specs.Pure.{PureExpression, constant, variable, brackets, prefixed, joined, skipping}
use Rattle.operator_text.specs.declared.strengths.After.{After}
use Rattle.operator_text.specs.declared.strengths.After.TheVariants.{Infix, Connects, Bracketed, Dotted}
use Rattle.operator_text.specs.Signs.{Signs, after, tight, strength, join}

abbrev pub ampersand : Lexeme
ampersand = Sign Ampersand

-- what is spelled where only operators of at least a strength may stand
abbrev pub SpellsAt : Type 1
SpellsAt = ℕ → List Lexeme → List Lexeme → Type 0

module _ {P J : Type 0} (g : Signs P J) where
  -- the right side e of what follows a left side, where spells says what spells e
  abbrev pub SpellsSide : After → PureExpression P J → SpellsAt → List Lexeme → List Lexeme → Type 0
  SpellsSide (Infix op) e spells right rest = spells (suc (strength (Infix op))) right rest
  SpellsSide (Connects c) e spells right rest = spells (suc (strength (Connects c))) right rest
  SpellsSide Bracketed e spells right rest = spells 0 right (closing_bracket ∷ rest)
  SpellsSide Dotted e spells right rest = (p : List ℕ) × (e ≡ constant (text p)) × (right ≡ Name p ∷ rest)

  -- A left side d, what follows it, and a right side e, which together are a tree. Left sides bind as strongly at least as what follows
  -- them, and right sides more strongly.
  abbrev pub SpellsJoined : ℕ → PureExpression P J → PureExpression P J → PureExpression P J → SpellsAt → SpellsAt → List Lexeme → List Lexeme → Type 0
  SpellsJoined k tree d e spells_d spells_e from rest =
      (l : Lexeme) × (right : List Lexeme) × (a : After) × (after g.dots (form_of l) ≡ Some a) × (join g a d e ≡ tree) × (k ≤ strength a)
      × spells_d (strength a) from (l ∷ right) × SpellsSide a e spells_e right rest

  -- the lexemes `from` begin with the expression, which stands where only operators of at least this strength may, and `rest` follows
  abbrev pub SpellsExpression : ℕ → PureExpression P J → List Lexeme → List Lexeme → Type 0
  SpellsExpression k (constant v) from rest = (l : Lexeme) × (g.leaf l ≡ Some (known v)) × (from ≡ l ∷ rest)
  SpellsExpression k (variable x) from rest = (l : Lexeme) × (g.leaf l ≡ Some (named x)) × (from ≡ l ∷ rest)
  SpellsExpression k (brackets e) from rest =
      (inner : List Lexeme) × (from ≡ opening_parenthesis ∷ inner) × SpellsExpression 0 e inner (closing_parenthesis ∷ rest)
  SpellsExpression k (prefixed u e) from rest =
      (l : Lexeme) × (inner : List Lexeme) × (k ≤ tight) × (g.prefix (form_of l) ≡ Some u) × (from ≡ l ∷ inner) × SpellsExpression tight e inner rest
  SpellsExpression k (joined j d e) from rest =
      SpellsJoined k (joined j d e) d e (λ m more left. SpellsExpression m d more left) (λ m more left. SpellsExpression m e more left) from rest
      ⊎ ((i : J) × (inner : List Lexeme) × (g.taken i ≡ Some j) × (k ≤ tight) × (from ≡ ampersand ∷ inner)
      × SpellsJoined tight (joined i d e) d e (λ m more left. SpellsExpression m d more left) (λ m more left. SpellsExpression m e more left) inner rest)
  SpellsExpression k (skipping c d e) from rest =
      SpellsJoined k (skipping c d e) d e (λ m more left. SpellsExpression m d more left) (λ m more left. SpellsExpression m e more left) from rest

  -- what a lexeme at the front begins behind an expression
  abbrev pub first_after : List Lexeme → Option After
  first_after [] = None
  first_after (l ∷ ls) = after g.dots (form_of l)

  -- nothing that is so strong stands at the front
  abbrev pub Stops : ℕ → List Lexeme → Type 0
  Stops k ls = (a : After) → first_after ls ≡ Some a → suc (strength a) ≤ k
