-- What is spelled as an expression is read so.
use Rattle.std.proofs.Common.{◌≡◌, inl, inr, ℕ, zero, suc, ◌<◌, ◌≤◌, List, ◌∷◌, length, cond, Option, Some, None, refl, sym, ap, subst, ◌∙◌, arith}
use Rattle.std.proofs.lemmas.Bool.{lt-ltb}
use Rattle.gil_lexer.specs.declared.signs.Sign.TheVariants.{LeftParenthesis, RightParenthesis, RightBracket}
use Rattle.gil_lexemes.specs.declared.standing.Lexeme.{Lexeme}
use Rattle.gil_lexemes.specs.Reading.{Reading, ◌>>=◌, form_of, behind, same_sign}
use Rattle.gil_lexemes.proofs.ReadingLaws.{same_sign-refl}
use Rattle.gil_grammar.specs.Vocabulary.{opening_parenthesis, closing_parenthesis, closing_bracket}
use Rattle.source_operators.specs.declared.trees.Connective.{Connective}
use Rattle.source_operators.specs.declared.trees.Connective.TheVariants.{And, Or}
use Rattle.source_operators.specs.declared.trees.Operator.{Operator}
use Rattle.source_operators.specs.declared.trees.Operator.TheVariants.{Equal, Unequal, Less, LessOrEqual, Greater, GreaterOrEqual, Add, Subtract, Multiply, Divide, Remainder}
use Rattle.source_operators.specs.Operands.{Operand, known, named}
use Rattle.source_operators.specs.Pure.{PureExpression, constant, variable, brackets, prefixed, joined, skipping}
use Rattle.operator_text.specs.declared.strengths.After.{After}
use Rattle.operator_text.specs.declared.strengths.After.TheVariants.{Infix, Connects, Bracketed, Dotted}
use Rattle.operator_text.specs.Apart.{AreApart}
use Rattle.operator_text.specs.Grammar.{ampersand, SpellsSide, SpellsJoined, SpellsExpression, first_after, Stops}
use Rattle.operator_text.specs.Reading.{addressed, bracketed_at, address_at, single_at, index_at, named_at, side_at, joined_by, more_at, expression_by, expression_at}
use Rattle.operator_text.specs.Signs.{Signs, after, tight, tightest, strength, leaf_tree, join}
use Rattle.operator_text.proofs.MoreLoop.{one_more}

pub weak_operator : (op : Operator) → strength (Infix op) < tight
weak_operator Equal = omega arith
weak_operator Unequal = omega arith
weak_operator Less = omega arith
weak_operator LessOrEqual = omega arith
weak_operator Greater = omega arith
weak_operator GreaterOrEqual = omega arith
weak_operator Add = omega arith
weak_operator Subtract = omega arith
weak_operator Multiply = omega arith
weak_operator Divide = omega arith
weak_operator Remainder = omega arith

pub weak_connective : (c : Connective) → strength (Connects c) < tight
weak_connective And = omega arith
weak_connective Or = omega arith

pub at_most_tightest : (a : After) → strength a ≤ tightest
at_most_tightest (Infix op) = omega (arith, weak_operator op)
at_most_tightest (Connects c) = omega (arith, weak_connective c)
at_most_tightest Bracketed = omega arith
at_most_tightest Dotted = omega arith

-- no operator is as strong as a prefix
not_tight : (a : After) → strength a ≤ tight → strength a < tight
not_tight (Infix op) le = weak_operator op
not_tight (Connects c) le = weak_connective c
not_tight Bracketed le = absurd (omega (arith, le))
not_tight Dotted le = absurd (omega (arith, le))

module _ {P J : Type 0} (g : Signs P J) where
  abbrev pub SpelledSide : After → PureExpression P J → List Lexeme → List Lexeme → Type 0
  SpelledSide a e right rest = SpellsSide g a e (λ m from' rest'. SpellsExpression g m e from' rest') right rest

  abbrev pub SpelledJoined : ℕ → PureExpression P J → PureExpression P J → PureExpression P J → List Lexeme → List Lexeme → Type 0
  SpelledJoined k tree d e from rest =
      SpellsJoined g k tree d e (λ m from' rest'. SpellsExpression g m d from' rest') (λ m from' rest'. SpellsExpression g m e from' rest') from rest

  -- ---- what is spelled takes a lexeme

  abbrev Shorter : PureExpression P J → Type 0
  Shorter e = (k : ℕ) (from rest : List Lexeme) → SpellsExpression g k e from rest → length rest < length from

  pub side_shorter : (a : After) (e : PureExpression P J) (right rest : List Lexeme) → Shorter e → SpelledSide a e right rest → length rest < length right
  side_shorter (Infix op) e right rest again h = again (suc (strength (Infix op))) right rest h
  side_shorter (Connects c) e right rest again h = again (suc (strength (Connects c))) right rest h
  side_shorter Bracketed e right rest again h = omega (arith, again 0 right (closing_bracket ∷ rest) h)
  side_shorter Dotted e right rest again (p, same, is) = omega (arith, ap length is)

  joined_shorter : (k : ℕ) (tree d e : PureExpression P J) (from rest : List Lexeme) → Shorter d → Shorter e → SpelledJoined k tree d e from rest
      → length rest < length from
  joined_shorter k tree d e from rest again again' (l, right, a, says, same, le, h, side) =
      omega (arith, again (strength a) from (l ∷ right) h, side_shorter a e right rest again' side)

  pub shorter : (e : PureExpression P J) → Shorter e
  shorter (constant v) k from rest (l, says, is) = omega (arith, ap length is)
  shorter (variable x) k from rest (l, says, is) = omega (arith, ap length is)
  shorter (brackets e) k from rest (inner, is, h) = omega (arith, ap length is, shorter e 0 inner (closing_parenthesis ∷ rest) h)
  shorter (prefixed u e) k from rest (l, inner, le, says, is, h) = omega (arith, ap length is, shorter e tight inner rest h)
  shorter (joined j d e) k from rest (inl h) =
      joined_shorter k (joined j d e) d e from rest (λ m f r i. shorter d m f r i) (λ m f r i. shorter e m f r i) h
  shorter (joined j d e) k from rest (inr (i, inner, taken, le, is, h)) =
      omega (arith, ap length is, joined_shorter tight (joined i d e) d e inner rest (λ m f r x. shorter d m f r x) (λ m f r x. shorter e m f r x) h)
  shorter (skipping c d e) k from rest h =
      joined_shorter k (skipping c d e) d e from rest (λ m f r i. shorter d m f r i) (λ m f r i. shorter e m f r i) h

  -- ---- the pieces

  single_brackets : (at : ℕ → List Lexeme → Reading (PureExpression P J)) (e : PureExpression P J) (ls rest : List Lexeme)
      → at 0 ls ≡ Some (e, closing_parenthesis ∷ rest) → single_at g at (opening_parenthesis ∷ ls) ≡ Some (brackets e, rest)
  unfolding single_at bracketed_at
  single_brackets at e ls rest read = rw (same_sign-refl LeftParenthesis, read, same_sign-refl RightParenthesis) refl

  single_address : (at : ℕ → List Lexeme → Reading (PureExpression P J)) (e tree : PureExpression P J) (ls rest : List Lexeme)
      → at tight ls ≡ Some (e, rest) → addressed g e ≡ Some tree → single_at g at (ampersand ∷ ls) ≡ Some (tree, rest)
  unfolding single_at address_at same_sign
  single_address at e tree ls rest read says = rw (read, says) refl

  index_reads : (at : ℕ → List Lexeme → Reading (PureExpression P J)) (e : PureExpression P J) (ls rest : List Lexeme)
      → at 0 ls ≡ Some (e, closing_bracket ∷ rest) → index_at g at ls ≡ Some (e, rest)
  unfolding index_at
  index_reads at e ls rest read = rw (read, same_sign-refl RightBracket) refl

  -- where nothing is strong enough, nothing is added to the left side
  pub stays : (at : ℕ → List Lexeme → Reading (PureExpression P J)) (t k : ℕ) (e : PureExpression P J) (rest : List Lexeme) → Stops g k rest
      → more_at g at t k e rest ≡ Some (e, rest)
  stays at zero k e rest stops = refl
  stays at (suc t) k e rest stops = by (first_after g rest) refl
    where
      by : (o : Option After) → first_after g rest ≡ o → joined_by g at o k e rest (λ f more. more_at g at t k f more) ≡ Some (e, rest)
      by None is = refl
      by (Some a) is = ap (λ b. cond b (Some (e, rest)) (side_at g at a (behind rest) >>= λ f. more_at g at t k (join g a e f.0) f.1))
          (lt-ltb (strength a) k (omega (arith, stops a is)))

  -- reading comes to where the expression is the left side of what follows
  pub record Arrives (n k : ℕ) (e : PureExpression P J) (from rest : List Lexeme) : Type 0 where
    pub turns : ℕ
    pub enough : length rest ≤ turns
    pub is : expression_at g (suc n) k from ≡ more_at g (expression_at g n) turns k e rest

  finished : (n k : ℕ) (e : PureExpression P J) (from rest : List Lexeme) → Arrives n k e from rest → Stops g k rest
      → expression_at g (suc n) k from ≡ Some (e, rest)
  finished n k e from rest a stops = a.is ∙ stays (expression_at g n) a.turns k e rest stops

  begun : (n k : ℕ) (e : PureExpression P J) (from other rest : List Lexeme) → from ≡ other → single_at g (expression_at g n) other ≡ Some (e, rest)
      → Arrives n k e from rest
  unfolding expression_by
  begun n k e from other rest is read = record {
    turns = length rest;
    enough = omega arith;
    is = ap (λ ls. expression_at g (suc n) k ls) is ∙ ap (λ r. r >>= λ f. more_at g (expression_at g n) (length f.1) k f.0 f.1) read;
  }

  stops_none : (k : ℕ) (c : Lexeme) (rest : List Lexeme) → after g.dots (form_of c) ≡ None → Stops g k (c ∷ rest)
  stops_none k c rest none a is = absurd (cc)

  stops_more : (k m : ℕ) (rest : List Lexeme) → k ≤ m → Stops g k rest → Stops g m rest
  stops_more k m rest le stops a is = omega (arith, le, stops a is)

  behind_it : (l : Lexeme) (right : List Lexeme) (a : After) → after g.dots (form_of l) ≡ Some a → Stops g (suc (strength a)) (l ∷ right)
  behind_it l right a says other is = let same : a ≡ other = cc in subst (λ o. suc (strength o) ≤ suc (strength a)) same (omega arith)

  -- where so many lexemes are left, an expression is read as it is spelled
  abbrev Again : PureExpression P J → Type 0
  Again e = (n k m : ℕ) (from rest : List Lexeme) → SpellsExpression g m e from rest → k ≤ m → Stops g (suc m) rest → length from ≤ suc n
      → Arrives n k e from rest

  whole : (e : PureExpression P J) (n k : ℕ) (from rest : List Lexeme) → Again e → SpellsExpression g k e from rest → Stops g k rest → length from ≤ n
      → expression_at g n k from ≡ Some (e, rest)
  whole e zero k from rest again h stops within = absurd (omega (arith, shorter e k from rest h, within))
  whole e (suc n) k from rest again h stops within =
      finished n k e from rest (again n k k from rest h (omega arith) (stops_more k (suc k) rest (omega arith) stops) within) stops

  side_reads : (a : After) (e : PureExpression P J) (n m : ℕ) (right rest : List Lexeme) → Again e → SpelledSide a e right rest → m ≤ strength a
      → Stops g (suc m) rest → length right ≤ n → side_at g (expression_at g n) a right ≡ Some (e, rest)
  side_reads (Infix op) e n m right rest again h le stops within =
      whole e n (suc (strength (Infix op))) right rest again h (stops_more (suc m) (suc (strength (Infix op))) rest (omega (arith, le)) stops) within
  side_reads (Connects c) e n m right rest again h le stops within =
      whole e n (suc (strength (Connects c))) right rest again h (stops_more (suc m) (suc (strength (Connects c))) rest (omega (arith, le)) stops) within
  side_reads Bracketed e n m right rest again h le stops within =
      index_reads (expression_at g n) e right rest
      (whole e n 0 right (closing_bracket ∷ rest) again h (stops_none 0 closing_bracket rest refl) within)
  side_reads Dotted e n m right rest again (p, same, is) le stops within =
      ap (λ ls. named_at g ls) is ∙ ap (λ f. Some (f, rest)) (sym same)

  joined_turns : (n k t : ℕ) (a : After) (d e : PureExpression P J) (from : List Lexeme) (l : Lexeme) (right rest : List Lexeme)
      → after g.dots (form_of l) ≡ Some a → k ≤ strength a
      → side_at g (expression_at g n) a right ≡ Some (e, rest) → length rest < length right → length (l ∷ right) ≤ t
      → expression_at g (suc n) k from ≡ more_at g (expression_at g n) t k d (l ∷ right) → Arrives n k (join g a d e) from rest
  joined_turns n k zero a d e from l right rest says le read fewer enough is = absurd (omega (arith, enough))
  joined_turns n k (suc t) a d e from l right rest says le read fewer enough is = record {
    turns = t;
    enough = omega (arith, fewer, enough);
    is =
        is ∙ one_more g (expression_at g n) t k d (l ∷ right) a says le
        ∙ ap (λ r. r >>= λ f. more_at g (expression_at g n) t k (join g a d f.0) f.1) read;
  }

  joins_arrive : (tree d e : PureExpression P J) (n k m : ℕ) (from rest : List Lexeme) → Again d → Again e → SpelledJoined m tree d e from rest
      → k ≤ m → Stops g (suc m) rest → length from ≤ suc n → Arrives n k tree from rest
  joins_arrive tree d e n k m from rest again again' (l, right, a, says, same, m_le, h, side) le stops room =
      let first = again n k (strength a) from (l ∷ right) h (omega (arith, le, m_le)) (behind_it l right a says) room in
      let left = shorter d (strength a) from (l ∷ right) h in
      subst (λ t. Arrives n k t from rest) same
      (joined_turns n k first.turns a d e from l right rest says (omega (arith, le, m_le))
      (side_reads a e n m right rest again' side m_le stops (omega (arith, left, room)))
      (side_shorter a e right rest (λ j f r i. shorter e j f r i) side) first.enough first.is)

  whole_joined : (tree d e : PureExpression P J) (n k : ℕ) (from rest : List Lexeme) → Again d → Again e → SpelledJoined k tree d e from rest
      → Stops g k rest → length from ≤ n → expression_at g n k from ≡ Some (tree, rest)
  whole_joined tree d e zero k from rest again again' h stops within =
      absurd (omega (arith, joined_shorter k tree d e from rest (λ m f r i. shorter d m f r i) (λ m f r i. shorter e m f r i) h, within))
  whole_joined tree d e (suc n) k from rest again again' h stops within =
      finished n k tree from rest
      (joins_arrive tree d e n k k from rest again again' h (omega arith) (stops_more k (suc k) rest (omega arith) stops) within) stops

  module _ (apart : AreApart g) where
    single_prefix : (at : ℕ → List Lexeme → Reading (PureExpression P J)) (l : Lexeme) (u : P) (e : PureExpression P J) (ls rest : List Lexeme)
        → g.prefix (form_of l) ≡ Some u → at tight ls ≡ Some (e, rest) → single_at g at (l ∷ ls) ≡ Some (prefixed u e, rest)
    unfolding single_at
    single_prefix at l u e ls rest says read =
        rw (apart.prefix_opens (form_of l) u says, apart.prefix_takes (form_of l) u says, says, read) refl

    single_leaf : (at : ℕ → List Lexeme → Reading (PureExpression P J)) (l : Lexeme) (a : Operand) (rest : List Lexeme)
        → g.leaf l ≡ Some a → single_at g at (l ∷ rest) ≡ Some (leaf_tree a, rest)
    unfolding single_at
    single_leaf at l a rest says = rw (apart.leaf_opens l a says, apart.leaf_takes l a says, apart.leaf_prefix l a says, says) refl

    pub arrives : (e : PureExpression P J) → Again e
    arrives (constant v) n k m from rest (l, says, is) le stops room =
        begun n k (constant v) from (l ∷ rest) rest is (single_leaf (expression_at g n) l (known v) rest says)
    arrives (variable x) n k m from rest (l, says, is) le stops room =
        begun n k (variable x) from (l ∷ rest) rest is (single_leaf (expression_at g n) l (named x) rest says)
    arrives (brackets e) n k m from rest (inner, is, h) le stops room =
        begun n k (brackets e) from (opening_parenthesis ∷ inner) rest is
        (single_brackets (expression_at g n) e inner rest
        (whole e n 0 inner (closing_parenthesis ∷ rest) (λ n' k' m' f r i. arrives e n' k' m' f r i) h (stops_none 0 closing_parenthesis rest refl)
        (omega (arith, ap length is, room))))
    arrives (prefixed u e) n k m from rest (l, inner, tight_le, says, is, h) le stops room =
        begun n k (prefixed u e) from (l ∷ inner) rest is
        (single_prefix (expression_at g n) l u e inner rest says
        (whole e n tight inner rest (λ n' k' m' f r i. arrives e n' k' m' f r i) h
        (λ a first. not_tight a (omega (arith, stops a first, tight_le))) (omega (arith, ap length is, room))))
    arrives (joined j d e) n k m from rest (inl h) le stops room =
        joins_arrive (joined j d e) d e n k m from rest (λ n' k' m' f r i. arrives d n' k' m' f r i) (λ n' k' m' f r i. arrives e n' k' m' f r i) h le stops room
    arrives (joined j d e) n k m from rest (inr (i, inner, taken, tight_le, is, h)) le stops room =
        begun n k (joined j d e) from (ampersand ∷ inner) rest is
        (single_address (expression_at g n) (joined i d e) (joined j d e) inner rest
        (whole_joined (joined i d e) d e n tight inner rest (λ n' k' m' f r x. arrives d n' k' m' f r x) (λ n' k' m' f r x. arrives e n' k' m' f r x) h
        (λ a first. not_tight a (omega (arith, stops a first, tight_le))) (omega (arith, ap length is, room)))
        (ap (λ o. o >>= λ x. Some (joined x d e)) taken))
    arrives (skipping c d e) n k m from rest h le stops room =
        joins_arrive (skipping c d e) d e n k m from rest (λ n' k' m' f r i. arrives d n' k' m' f r i) (λ n' k' m' f r i. arrives e n' k' m' f r i) h le stops room

    -- what is spelled where nothing goes on is read so, where so many lexemes are left at most
    pub spelled_is_read : (e : PureExpression P J) (n k : ℕ) (from rest : List Lexeme) → SpellsExpression g k e from rest → Stops g k rest
        → length from ≤ n → expression_at g n k from ≡ Some (e, rest)
    spelled_is_read e n k from rest h stops within = whole e n k from rest (arrives e) h stops within
