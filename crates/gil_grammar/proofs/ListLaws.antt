-- What reading things one after another gives is spelled so, and what is spelled so is read.
use Rattle.std.proofs.Common.{◌≡◌, ◌≤◌, ◌<◌, ℕ, zero, suc, Bool, true, false, cond, List, [], ◌∷◌, length, Option, Some, refl, ap, subst, arith}
use Rattle.gil_lexer.specs.declared.signs.Sign.{Sign}
use Rattle.gil_lexemes.specs.declared.standing.Lexeme.{Lexeme}
use Rattle.gil_lexemes.specs.declared.standing.Lexeme.TheVariants as lexemes
use Rattle.gil_lexemes.specs.Lists.{more_at, separated_at, each_until}
use Rattle.gil_lexemes.specs.Reading.{Reading, behind, first_form, is_sign}
use Rattle.gil_lexemes.proofs.ReadingLaws.{bind_some, at_sign_is, same_sign-refl}
use Rattle.gil_grammar.specs.Lists.{SpellsEach, SpellsMore, SpellsSeparated}

-- what is read by a function is spelled by a relation
abbrev pub Takes : {X : Type 0} → (X → List Lexeme → List Lexeme → Type 0) → (List Lexeme → Reading X) → Type 0
Takes {X} spells read = (ls : List Lexeme) (found : X × List Lexeme) → read ls ≡ Some found → spells found.0 ls found.1

-- x is read from the lexemes ls, of which rest are left, fewer ones, and what P says of the former it says of the latter
pub record Reads {X : Type 0} (P : List Lexeme → Type 0) (read : List Lexeme → Reading X) (x : X) (ls rest : List Lexeme) : Type 0 where
  pub is : read ls ≡ Some (x, rest)
  pub under : P rest
  pub shorter : length rest < length ls

-- what is spelled by a relation is read by a function, where P holds
abbrev pub Again : {X : Type 0} → (List Lexeme → Type 0) → (X → List Lexeme → List Lexeme → Type 0) → (List Lexeme → Reading X) → Type 0
Again {X} P spells read = (x : X) (ls rest : List Lexeme) → P ls → spells x ls rest → Reads P read x ls rest

-- none of these things begins with the sign
abbrev pub NeverBegins : {X : Type 0} → (X → List Lexeme → List Lexeme → Type 0) → Sign → Type 0
NeverBegins {X} spells sign = (x : X) (ls rest : List Lexeme) → spells x ls rest → is_sign sign (first_form ls) ≡ false

pub found_is : {A : Type 0} (x y : A) → Some x ≡ Some y → x ≡ y
found_is x y e = cc

-- a test that let one of two pass
pub cond_cases : {A : Type 0} (b : Bool) (r t : Option A) (y : A) {P : Type 0} → cond b r t ≡ Some y → (b ≡ true → r ≡ Some y → P) → (b ≡ false → t ≡ Some y → P) → P
cond_cases true r t y e h k = h refl e
cond_cases false r t y e h k = k refl e

module _ {X : Type 0} (spells : X → List Lexeme → List Lexeme → Type 0) (read : List Lexeme → Reading X) (takes : Takes spells read) where
  pub more_takes : (n : ℕ) (separator : Sign) (ls : List Lexeme) (found : List X × List Lexeme) → more_at read n separator ls ≡ Some found
      → SpellsMore spells (lexemes.Sign separator) found.0 ls found.1
  unfolding more_at
  more_takes zero separator ls found e = subst (λ (f : List X × List Lexeme). SpellsMore spells (lexemes.Sign separator) f.0 ls f.1) (found_is ([], ls) found e) refl
  more_takes (suc n) separator ls found e =
      cond_cases (is_sign separator (first_form ls)) _ _ found e
      (λ test read_more.
      let x = bind_some (read (behind ls)) _ found read_more in
      let xs = bind_some (more_at read n separator x.0.1) _ found x.2 in
      subst (λ (f : List X × List Lexeme). SpellsMore spells (lexemes.Sign separator) f.0 ls f.1) (found_is (x.0.0 ∷ xs.0.0, xs.0.1) found xs.2)
      (behind ls, x.0.1, at_sign_is separator ls test, takes (behind ls) x.0 x.1, more_takes n separator x.0.1 xs.0 xs.1))
      (λ test ends. subst (λ (f : List X × List Lexeme). SpellsMore spells (lexemes.Sign separator) f.0 ls f.1) (found_is ([], ls) found ends) refl)

  pub separated_takes : (closing separator : Sign) → Takes (SpellsSeparated spells (lexemes.Sign separator)) (separated_at read closing separator)
  separated_takes closing separator ls found e =
      cond_cases (is_sign closing (first_form ls)) _ _ found e
      (λ test ends. subst (λ (f : List X × List Lexeme). SpellsSeparated spells (lexemes.Sign separator) f.0 ls f.1) (found_is ([], ls) found ends) refl)
      (λ test read_some.
      let x = bind_some (read ls) _ found read_some in
      let xs = bind_some (more_at read (length x.0.1) separator x.0.1) _ found x.2 in
      subst (λ (f : List X × List Lexeme). SpellsSeparated spells (lexemes.Sign separator) f.0 ls f.1) (found_is (x.0.0 ∷ xs.0.0, xs.0.1) found xs.2)
      (x.0.1, takes ls x.0 x.1, more_takes (length x.0.1) separator x.0.1 xs.0 xs.1))

  pub each_takes : (n : ℕ) (closing : Sign) → Takes (SpellsEach spells) (each_until read n closing)
  unfolding each_until
  each_takes zero closing ls found e = subst (λ (f : List X × List Lexeme). SpellsEach spells f.0 ls f.1) (found_is ([], ls) found e) refl
  each_takes (suc n) closing ls found e =
      cond_cases (is_sign closing (first_form ls)) _ _ found e
      (λ test ends. subst (λ (f : List X × List Lexeme). SpellsEach spells f.0 ls f.1) (found_is ([], ls) found ends) refl)
      (λ test read_some.
      let x = bind_some (read ls) _ found read_some in
      let xs = bind_some (each_until read n closing x.0.1) _ found x.2 in
      subst (λ (f : List X × List Lexeme). SpellsEach spells f.0 ls f.1) (found_is (x.0.0 ∷ xs.0.0, xs.0.1) found xs.2)
      (x.0.1, takes ls x.0 x.1, each_takes n closing x.0.1 xs.0 xs.1))

-- x is read from the lexemes ls, of which rest are left
pub record ReadsList {X : Type 0} (P : List Lexeme → Type 0) (read : List Lexeme → Reading X) (x : X) (ls rest : List Lexeme) : Type 0 where
  pub is : read ls ≡ Some (x, rest)
  pub under : P rest
  pub shorter : length rest ≤ length ls

module _ {X : Type 0} (P : List Lexeme → Type 0) (tails : (l : Lexeme) (ls : List Lexeme) → P (l ∷ ls) → P ls)
    (spells : X → List Lexeme → List Lexeme → Type 0) (read : List Lexeme → Reading X) (again : Again P spells read) where
  pub more_again : (n : ℕ) (separator : Sign) (xs : List X) (ls rest : List Lexeme) → length ls ≤ n → P ls → SpellsMore spells (lexemes.Sign separator) xs ls rest
      → is_sign separator (first_form rest) ≡ false → ReadsList P (more_at read n separator) xs ls rest
  unfolding more_at
  more_again zero separator [] ls rest within p h ends = record { is = ap (λ (l : List Lexeme). Some ([], l)) h; under = subst P h p; shorter = omega (arith, ap length h) }
  more_again zero separator (x ∷ xs) ls rest within p (inner, after, is, one, more) ends = absurd (let count = ap length is in omega arith)
  more_again (suc n) separator [] ls rest within p h ends = record { is = rw (h, ends) refl; under = subst P h p; shorter = omega (arith, ap length h) }
  more_again (suc n) separator (x ∷ xs) ls rest within p (inner, after, is, one, more) ends =
      let count = ap length is in
      let first = again x inner after (tails (lexemes.Sign separator) inner (subst P is p)) one in
      let others = more_again n separator xs after rest (omega (arith, first.shorter)) first.under more ends in
      record {
        is = rw (is, same_sign-refl separator, first.is, others.is) refl;
        under = others.under;
        shorter = omega (arith, first.shorter, others.shorter);
      }

  pub separated_again : (closing separator : Sign) → NeverBegins spells closing → (xs : List X) (ls rest : List Lexeme) → P ls → SpellsSeparated spells (lexemes.Sign separator) xs ls rest
      → is_sign closing (first_form rest) ≡ true → is_sign separator (first_form rest) ≡ false → ReadsList P (separated_at read closing separator) xs ls rest
  separated_again closing separator never [] ls rest p h closes ends = record { is = rw (h, closes) refl; under = subst P h p; shorter = omega (arith, ap length h) }
  separated_again closing separator never (x ∷ xs) ls rest p (after, one, more) closes ends =
      let first = again x ls after p one in
      let others = more_again (length after) separator xs after rest (omega arith) first.under more ends in
      record {
        is = rw (never x ls after one, first.is, others.is) refl;
        under = others.under;
        shorter = omega (arith, first.shorter, others.shorter);
      }

  pub each_again : (n : ℕ) (closing : Sign) → NeverBegins spells closing → (xs : List X) (ls rest : List Lexeme) → length ls ≤ n → P ls → SpellsEach spells xs ls rest
      → is_sign closing (first_form rest) ≡ true → ReadsList P (each_until read n closing) xs ls rest
  unfolding each_until
  each_again zero closing never [] ls rest within p h closes = record { is = ap (λ (l : List Lexeme). Some ([], l)) h; under = subst P h p; shorter = omega (arith, ap length h) }
  each_again zero closing never (x ∷ xs) ls rest within p (after, one, more) closes = absurd (let first = again x ls after p one in omega (arith, first.shorter))
  each_again (suc n) closing never [] ls rest within p h closes = record { is = rw (h, closes) refl; under = subst P h p; shorter = omega (arith, ap length h) }
  each_again (suc n) closing never (x ∷ xs) ls rest within p (after, one, more) closes =
      let first = again x ls after p one in
      let others = each_again n closing never xs after rest (omega (arith, first.shorter)) first.under more closes in
      record {
        is = rw (never x ls after one, first.is, others.is) refl;
        under = others.under;
        shorter = omega (arith, first.shorter, others.shorter);
      }
