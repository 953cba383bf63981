-- What is read as an expression is spelled so.
use Rattle.std.proofs.Common.{◌≡◌, inl, inr, ℕ, zero, suc, ◌≤◌, List, [], ◌∷◌, length, Bool, true, false, cond, Option, Some, None, refl, sym, subst, arith}
use Rattle.std.specs.Prelude.{nat_lt}
use Rattle.std.proofs.lemmas.Bool.Decides.{nat_tests}
use Rattle.gil_values.specs.Pure.{text}
use Rattle.gil_lexer.specs.declared.signs.Sign.TheVariants.{LeftParenthesis, RightParenthesis, RightBracket, Ampersand}
use Rattle.gil_lexemes.specs.declared.standing.Lexeme.{Lexeme}
use Rattle.gil_lexemes.specs.Reading.{Reading, ◌>>=◌, form_of, first_form, behind, is_sign, sign_at, name_at}
use Rattle.gil_lexemes.proofs.ReadingLaws.{bind_some, at_sign_is, sign_takes, name_takes}
use Rattle.gil_grammar.specs.Vocabulary.{opening_parenthesis}
use Rattle.source_operators.specs.Operands.{Operand, known, named}
use Rattle.source_operators.specs.Pure.{PureExpression, constant, variable, brackets, prefixed, joined, skipping}
use Rattle.operator_text.specs.declared.strengths.After.{After}
use Rattle.operator_text.specs.declared.strengths.After.TheVariants.{Infix, Connects, Bracketed, Dotted}
use Rattle.operator_text.specs.Apart.{AreApart}
use Rattle.operator_text.specs.Grammar.{ampersand, SpellsExpression, Stops}
use Rattle.operator_text.specs.Reading.{addressed, leaf_at, prefix_of, bracketed_at, address_at, by_prefix, single_at, index_at, side_at, joined_by, more_at, expression_by, expression_at}
use Rattle.operator_text.specs.Signs.{Signs, after, tight, tightest, strength, leaf_tree, join}
use Rattle.operator_text.proofs.ExpressionReads.{weak_operator, weak_connective, at_most_tightest, SpelledSide, SpelledJoined, side_shorter, shorter}

module _ {P J : Type 0} (g : Signs P J) (apart : AreApart g) where
  abbrev Found : Type 0
  Found = PureExpression P J × List Lexeme

  as_found : (spells : Found → Type 0) (x y : Found) → Some x ≡ Some y → spells x → spells y
  as_found spells x y same h = let e : x ≡ y = cc in subst spells e h

  -- at a strength, and nothing that is so strong comes next
  abbrev pub TakesAt : ℕ → Found → List Lexeme → Type 0
  TakesAt k found ls = SpellsExpression g k found.0 ls found.1 × Stops g k found.1

  -- what `at` takes is spelled
  abbrev pub AtTakes : (ℕ → List Lexeme → Reading (PureExpression P J)) → Type 0
  AtTakes at = (k : ℕ) (ls : List Lexeme) (found : Found) → k ≤ tight → at k ls ≡ Some found → TakesAt k found ls

  -- what is spelled where something stronger must stand is spelled where something weaker may
  weaker_joined : (k m : ℕ) (tree d e : PureExpression P J) (from rest : List Lexeme) → k ≤ m → SpelledJoined g m tree d e from rest
      → SpelledJoined g k tree d e from rest
  weaker_joined k m tree d e from rest le (l, right, a, says, same, m_le, h, side) = (l, right, a, says, same, omega (arith, le, m_le), h, side)

  pub weaker : (k m : ℕ) (e : PureExpression P J) (from rest : List Lexeme) → k ≤ m → SpellsExpression g m e from rest → SpellsExpression g k e from rest
  weaker k m (constant v) from rest le h = h
  weaker k m (variable x) from rest le h = h
  weaker k m (brackets e) from rest le h = h
  weaker k m (prefixed u e) from rest le (l, inner, tight_le, says, is, h) = (l, inner, omega (arith, le, tight_le), says, is, h)
  weaker k m (joined j d e) from rest le (inl h) = inl (weaker_joined k m (joined j d e) d e from rest le h)
  weaker k m (joined j d e) from rest le (inr (i, inner, taken, tight_le, is, h)) = inr (i, inner, taken, omega (arith, le, tight_le), is, h)
  weaker k m (skipping c d e) from rest le h = weaker_joined k m (skipping c d e) d e from rest le h

  no_more : (m : ℕ) (rest : List Lexeme) → tightest ≤ m → Stops g (suc m) rest
  no_more m rest le a first = omega (arith, le, at_most_tightest a)

  -- ---- what no operator joins

  abbrev Single : Found → List Lexeme → Type 0
  Single found ls = (m : ℕ) × (tight ≤ m) × SpellsExpression g m found.0 ls found.1 × Stops g (suc m) found.1

  -- an operator of two operands is no `&`
  joined_in : (d e : PureExpression P J) (i j : J) (ls rest : List Lexeme) → g.taken i ≡ Some j → SpellsExpression g tight (joined i d e) ls rest
      → SpelledJoined g tight (joined i d e) d e ls rest
  joined_in d e i j ls rest takes (inl h) = h
  joined_in d e i j ls rest takes (inr (o, inner, taken, le, is, h)) = absurd (let none = apart.taken_once o i taken in cc)

  address_takes : (at : ℕ → List Lexeme → Reading (PureExpression P J)) → AtTakes at → (ls : List Lexeme) (found : Found) → address_at g at ls ≡ Some found
      → Single found (ampersand ∷ ls)
  unfolding address_at
  address_takes at takes ls found is =
      let a = bind_some (at tight ls) _ found is in
      let t = bind_some (addressed g a.0.0) _ found a.2 in
      as_found (λ f. Single f (ampersand ∷ ls)) (t.0, a.0.1) found t.2 (by a.0.0 t.0 a.0.1 t.1 (takes tight ls a.0 (omega arith) a.1))
    where
      by : (e tree : PureExpression P J) (rest : List Lexeme) → addressed g e ≡ Some tree → TakesAt tight (e, rest) ls → Single (tree, rest) (ampersand ∷ ls)
      by (joined i d e) tree rest says inner =
          let j = bind_some (g.taken i) _ tree says in
          let same : joined j.0 d e ≡ tree = cc (j.2) in
          subst (λ t. Single (t, rest) (ampersand ∷ ls)) same
          (tight, omega arith, inr (i, ls, j.1, omega arith, refl, joined_in d e i j.0 ls rest j.1 inner.0), λ b first. omega (arith, inner.1 b first))
      by (constant v) tree rest says inner = absurd (cc says)
      by (variable x) tree rest says inner = absurd (cc says)
      by (brackets e) tree rest says inner = absurd (cc says)
      by (prefixed u e) tree rest says inner = absurd (cc says)
      by (skipping c d e) tree rest says inner = absurd (cc says)

  brackets_take : (at : ℕ → List Lexeme → Reading (PureExpression P J)) → AtTakes at → (ls : List Lexeme) (found : Found) → bracketed_at g at ls ≡ Some found
      → Single found (opening_parenthesis ∷ ls)
  unfolding bracketed_at
  brackets_take at takes ls found is =
      let a = bind_some (at 0 ls) _ found is in
      let r = bind_some (sign_at RightParenthesis a.0.1) _ found a.2 in
      as_found (λ f. Single f (opening_parenthesis ∷ ls)) (brackets a.0.0, r.0) found r.2 (
        tightest,
        omega arith,
        (ls, refl, subst (SpellsExpression g 0 a.0.0 ls) (sign_takes RightParenthesis a.0.1 r.0 r.1) (takes 0 ls a.0 (omega arith) a.1).0),
        no_more tightest r.0 (omega arith),
      )

  leaf_takes : (ls : List Lexeme) (found : Found) → leaf_at g ls ≡ Some found → Single found ls
  leaf_takes [] found is = absurd (cc is)
  leaf_takes (l ∷ ls) found is =
      let a = bind_some (g.leaf l) _ found is in
      as_found (λ f. Single f (l ∷ ls)) (leaf_tree a.0, ls) found a.2 (by a.0 a.1)
    where
      by : (a : Operand) → g.leaf l ≡ Some a → Single (leaf_tree a, ls) (l ∷ ls)
      by (known v) says = (tightest, omega arith, (l, says, refl), no_more tightest ls (omega arith))
      by (named x) says = (tightest, omega arith, (l, says, refl), no_more tightest ls (omega arith))

  prefix_takes : (at : ℕ → List Lexeme → Reading (PureExpression P J)) → AtTakes at → (o : Option P) (ls : List Lexeme) (found : Found)
      → prefix_of g (first_form ls) ≡ o → by_prefix g at o ls ≡ Some found → Single found ls
  prefix_takes at takes None ls found says is = leaf_takes ls found is
  prefix_takes at takes (Some u) [] found says is = absurd (cc says)
  prefix_takes at takes (Some u) (l ∷ ls) found says is =
      let a = bind_some (at tight ls) _ found is in
      let inner = takes tight ls a.0 (omega arith) a.1 in
      as_found (λ f. Single f (l ∷ ls)) (prefixed u a.0.0, a.0.1) found a.2
      (tight, omega arith, (l, ls, omega arith, says, refl, inner.0), λ b first. omega (arith, inner.1 b first))

  single_takes : (at : ℕ → List Lexeme → Reading (PureExpression P J)) → AtTakes at → (ls : List Lexeme) (found : Found) → single_at g at ls ≡ Some found
      → Single found ls
  unfolding single_at
  single_takes at takes ls found is = by_bracket (is_sign LeftParenthesis (first_form ls)) refl is
    where
      by_ampersand : (b : Bool) → is_sign Ampersand (first_form ls) ≡ b
          → cond b (address_at g at (behind ls)) (by_prefix g at (prefix_of g (first_form ls)) ls) ≡ Some found → Single found ls
      by_ampersand true here read =
          subst (Single found) (sym (at_sign_is Ampersand ls here)) (address_takes at takes (behind ls) found read)
      by_ampersand false here read = prefix_takes at takes (prefix_of g (first_form ls)) ls found refl read

      by_bracket : (b : Bool) → is_sign LeftParenthesis (first_form ls) ≡ b
          → cond b (bracketed_at g at (behind ls)) (cond (is_sign Ampersand (first_form ls)) (address_at g at (behind ls)) (by_prefix g at (prefix_of g (first_form ls)) ls)) ≡ Some found
          → Single found ls
      by_bracket true here read =
          subst (Single found) (sym (at_sign_is LeftParenthesis ls here)) (brackets_take at takes (behind ls) found read)
      by_bracket false here read = by_ampersand (is_sign Ampersand (first_form ls)) refl read

  -- ---- what follows it

  abbrev Side : After → Found → List Lexeme → Type 0
  Side a found ls = SpelledSide g a found.0 ls found.1 × Stops g (suc (strength a)) found.1

  side_takes : (at : ℕ → List Lexeme → Reading (PureExpression P J)) → AtTakes at → (a : After) (ls : List Lexeme) (found : Found)
      → side_at g at a ls ≡ Some found → Side a found ls
  unfolding index_at
  side_takes at takes (Infix op) ls found read = takes (suc (strength (Infix op))) ls found (omega (arith, weak_operator op)) read
  side_takes at takes (Connects c) ls found read = takes (suc (strength (Connects c))) ls found (omega (arith, weak_connective c)) read
  side_takes at takes Bracketed ls found read =
      let a = bind_some (at 0 ls) _ found read in
      let r = bind_some (sign_at RightBracket a.0.1) _ found a.2 in
      as_found (λ f. Side Bracketed f ls) (a.0.0, r.0) found r.2
      (subst (SpellsExpression g 0 a.0.0 ls) (sign_takes RightBracket a.0.1 r.0 r.1) (takes 0 ls a.0 (omega arith) a.1).0, no_more tightest r.0 (omega arith))
  side_takes at takes Dotted ls found read =
      let p = bind_some (name_at ls) _ found read in
      as_found (λ f. Side Dotted f ls) (constant (text p.0.0), p.0.1) found p.2
      ((p.0.0, refl, name_takes ls p.0 p.1), no_more tightest p.0.1 (omega arith))

  more_takes : (at : ℕ → List Lexeme → Reading (PureExpression P J)) → AtTakes at → (t k m : ℕ) (left : PureExpression P J) (from ls : List Lexeme)
      (found : Found) → length ls ≤ t → k ≤ m → SpellsExpression g m left from ls → Stops g (suc m) ls → more_at g at t k left ls ≡ Some found
      → TakesAt k found from
  more_takes at takes zero k m left from [] found fits le h stops read =
      as_found (λ f. TakesAt k f from) (left, []) found read (weaker k m left from [] le h, λ a is. absurd (cc))
  more_takes at takes zero k m left from (l ∷ ls) found fits le h stops read = absurd (omega (arith, fits))
  more_takes at takes (suc t) k m left from [] found fits le h stops read =
      as_found (λ f. TakesAt k f from) (left, []) found read (weaker k m left from [] le h, λ a is. absurd (cc))
  more_takes at takes (suc t) k m left from (l ∷ ls) found fits le h stops read = by_after (after g.dots (form_of l)) refl read
      (λ m' e more fits' le' h' stops' read'. more_takes at takes t k m' e from more found fits' le' h' stops' read')
    where
      More : Type 0
      More = (m' : ℕ) (e : PureExpression P J) (more : List Lexeme) → length more ≤ t → k ≤ m' → SpellsExpression g m' e from more → Stops g (suc m') more
          → more_at g at t k e more ≡ Some found → TakesAt k found from

      joins : (a : After) (e : PureExpression P J) (rest : List Lexeme) → after g.dots (form_of l) ≡ Some a → strength a ≤ m → SpelledSide g a e ls rest
          → SpellsExpression g (strength a) (join g a left e) from rest
      joins (Infix op) e rest says below side =
          inl (l, ls, Infix op, says, refl, omega arith, weaker (strength (Infix op)) m left from (l ∷ ls) below h, side)
      joins (Connects c) e rest says below side =
          (l, ls, Connects c, says, refl, omega arith, weaker (strength (Connects c)) m left from (l ∷ ls) below h, side)
      joins Bracketed e rest says below side =
          inl (l, ls, Bracketed, says, refl, omega arith, weaker (strength Bracketed) m left from (l ∷ ls) below h, side)
      joins Dotted e rest says below side =
          inl (l, ls, Dotted, says, refl, omega arith, weaker (strength Dotted) m left from (l ∷ ls) below h, side)

      by_after : (o : Option After) → after g.dots (form_of l) ≡ o → joined_by g at o k left (l ∷ ls) (λ e rest. more_at g at t k e rest) ≡ Some found → More
          → TakesAt k found from
      by_after None says read' more =
          as_found (λ f. TakesAt k f from) (left, l ∷ ls) found read' (weaker k m left from (l ∷ ls) le h, λ a is. absurd (cc))
      by_after (Some a) says read' more = by_strength (nat_lt (strength a) k) refl read'
        where
          by_strength : (b : Bool) → nat_lt (strength a) k ≡ b
              → cond b (Some (left, l ∷ ls)) (side_at g at a ls >>= λ e. more_at g at t k (join g a left e.0) e.1) ≡ Some found → TakesAt k found from
          by_strength false strong read'' =
              let r = bind_some (side_at g at a ls) _ found read'' in
              let side = side_takes at takes a ls r.0 r.1 in
              let below : suc (strength a) ≤ suc m = stops a says in
              let above : k ≤ strength a = grind (arith, nat_tests, strong) in
              let fewer = side_shorter g a r.0.0 ls r.0.1 (λ n f rest i. shorter g r.0.0 n f rest i) side.0 in
              more (strength a) (join g a left r.0.0) r.0.1 (omega (arith, fits, fewer)) above
              (joins a r.0.0 r.0.1 says (omega (arith, below)) side.0) side.1 r.2
          by_strength true strong read'' =
              as_found (λ f. TakesAt k f from) (left, l ∷ ls) found read'' (
                weaker k m left from (l ∷ ls) le h,
                λ other is. let same : a ≡ other = cc in
                    subst (λ o. suc (strength o) ≤ k) same (let weak : suc (strength a) ≤ k = grind (arith, nat_tests, strong) in weak),
              )

  pub read_is_spelled : (n : ℕ) → AtTakes (expression_at g n)
  unfolding expression_by
  read_is_spelled zero k ls found le read = absurd (cc)
  read_is_spelled (suc n) k ls found le read =
      let a = bind_some (single_at g (expression_at g n) ls) _ found read in
      let s = single_takes (expression_at g n) (λ j more f le' read'. read_is_spelled n j more f le' read') ls a.0 a.1 in
      more_takes (expression_at g n) (λ j more f le' read'. read_is_spelled n j more f le' read') (length a.0.1) k s.0 a.0.0 ls a.0.1 found
      (omega arith) (omega (arith, le, s.1)) s.2 s.3 a.2
