-- Assertions in braces, one after another: what is read is spelled so, and what is spelled so is read.
use Rattle.std.proofs.Common.{◌≡◌, ◌≤◌, ℕ, zero, suc, true, false, List, [], ◌∷◌, length, Some, None, refl, ap, ◌∙◌, subst, arith}
use Rattle.gil_lexer.specs.declared.words.Word.TheVariants as words
use Rattle.gil_lexer.specs.declared.signs.Sign.TheVariants as signs
use Rattle.gil_lexemes.specs.declared.standing.Lexeme.{Lexeme}
use Rattle.gil_lexemes.specs.declared.standing.Lexeme.TheVariants as lexemes
use Rattle.gil_lexemes.specs.Reading.{Reading, first_form, is_sign, is_word, word_at}
use Rattle.gil_lexemes.proofs.ReadingLaws.{bind_some, same_sign-refl, same_word-refl, word_takes}
use Rattle.gil_syntax.specs.Pure.{PureItem}
use Rattle.gil_grammar.specs.declared.positions.Extent.{Extent}
use Rattle.gil_grammar.specs.declared.positions.Extent.TheVariants.{Whole, Longest}
use Rattle.gil_grammar.specs.declared.positions.Opening.{Opening}
use Rattle.gil_grammar.specs.declared.positions.Opening.TheVariants.{Brace, Throw}
use Rattle.gil_grammar.specs.Assertions.{SpellsBlock, SpellsBlocks, SpellsError, SpellsPosts}
use Rattle.gil_grammar.specs.Lists.{SpellsEach, SpellsSome}
use Rattle.gil_grammar.specs.Reading.Assertions.{block_at, error_at, opens_by, opened_at, block_and, more_blocks, blocks_at, posts_at}
use Rattle.gil_grammar.proofs.ListLaws.{Takes, Again, Reads, ReadsList, cond_cases}
use Rattle.gil_grammar.proofs.NestingLaws.{Nested, nested_tail}
use Rattle.gil_grammar.proofs.AssertionLaws.{in_place, block_takes}
use Rattle.gil_grammar.proofs.AssertionReads.{block_again}

-- ---- one assertion in braces

abbrev pub SpellsOpened : Opening → List PureItem → List Lexeme → List Lexeme → Type 0
SpellsOpened Brace = SpellsBlock
SpellsOpened Throw = SpellsError

error_takes : Takes SpellsError error_at
unfolding error_at
error_takes ls found e =
    let a = bind_some (word_at words.Throw ls) _ found e in
    (a.0, word_takes words.Throw ls a.0 a.1, block_takes a.0 found a.2)

pub opened_takes : (opening : Opening) → Takes (SpellsOpened opening) (opened_at opening)
opened_takes Brace ls found e = block_takes ls found e
opened_takes Throw ls found e = error_takes ls found e

error_again : Again Nested SpellsError error_at
unfolding error_at
error_again items ls rest p (block, is, h) =
    let read = block_again items block rest (nested_tail _ block (subst Nested is p)) h in
    record { is = rw (is, same_word-refl words.Throw) read.is; under = read.under; shorter = omega (arith, ap length is, read.shorter) }

pub opened_again : (opening : Opening) → Again Nested (SpellsOpened opening) (opened_at opening)
opened_again Brace items ls rest p h = block_again items ls rest p h
opened_again Throw items ls rest p h = error_again items ls rest p h

-- it begins with its brace or its word, and with that alone
pub opened_opens : (opening : Opening) (items : List PureItem) (ls rest : List Lexeme) → SpellsOpened opening items ls rest → opens_by opening (first_form ls) ≡ true
opened_opens Brace items ls rest h = rw (h.1) (same_sign-refl signs.LeftBrace)
opened_opens Throw items ls rest h = rw (h.1) (same_word-refl words.Throw)

pub brace_is_no_throw : (items : List PureItem) (ls rest : List Lexeme) → SpellsBlock items ls rest → opens_by Throw (first_form ls) ≡ false
brace_is_no_throw items ls rest h = rw (h.1) refl

pub throw_is_no_brace : (items : List PureItem) (ls rest : List Lexeme) → SpellsError items ls rest → opens_by Brace (first_form ls) ≡ false
throw_is_no_brace items ls rest h = rw (h.1) refl

-- ---- what is read is spelled

module _ (opening : Opening) where
  block_and_takes : (extent : Extent) (ls : List Lexeme) (read : Reading (List PureItem)) (more : List Lexeme → Reading (List (List PureItem))) (found : List (List PureItem) × List Lexeme)
      → opened_at opening ls ≡ read → Takes (SpellsEach (SpellsOpened opening)) more → block_and extent ls read more ≡ Some found → SpellsEach (SpellsOpened opening) found.0 ls found.1
  block_and_takes Whole ls None more found is takes e = absurd cc
  block_and_takes Longest ls None more found is takes e = in_place (SpellsEach (SpellsOpened opening)) ls [] ls found e refl
  block_and_takes extent ls (Some block) more found is takes e =
      let xs = bind_some (more block.1) _ found e in
      in_place (SpellsEach (SpellsOpened opening)) ls (block.0 ∷ xs.0.0) xs.0.1 found xs.2
      (block.1, opened_takes opening ls block is, takes block.1 xs.0 xs.1)

  more_blocks_take : (extent : Extent) (n : ℕ) → Takes (SpellsEach (SpellsOpened opening)) (more_blocks opening extent n)
  unfolding more_blocks
  more_blocks_take extent zero ls found e = in_place (SpellsEach (SpellsOpened opening)) ls [] ls found e refl
  more_blocks_take extent (suc n) ls found e =
      cond_cases (opens_by opening (first_form ls)) _ _ found e
      (λ test read. block_and_takes extent ls (opened_at opening ls) (more_blocks opening extent n) found refl (more_blocks_take extent n) read)
      (λ test ends. in_place (SpellsEach (SpellsOpened opening)) ls [] ls found ends refl)

  pub blocks_take : (extent : Extent) → Takes (SpellsSome (SpellsOpened opening)) (blocks_at opening extent)
  unfolding blocks_at
  blocks_take extent ls found e =
      let block = bind_some (opened_at opening ls) _ found e in
      let xs = bind_some (more_blocks opening extent (length block.0.1) block.0.1) _ found block.2 in
      in_place (SpellsSome (SpellsOpened opening)) ls (block.0.0 ∷ xs.0.0) xs.0.1 found xs.2
      (block.0.1, opened_takes opening ls block.0 block.1, more_blocks_take extent (length block.0.1) block.0.1 xs.0 xs.1)

  -- ---- what is spelled is read, up to what doesn't begin another

  pub more_blocks_again : (extent : Extent) (n : ℕ) (xs : List (List PureItem)) (ls rest : List Lexeme) → length ls ≤ n → Nested ls → SpellsEach (SpellsOpened opening) xs ls rest
      → opens_by opening (first_form rest) ≡ false → ReadsList Nested (more_blocks opening extent n) xs ls rest
  unfolding more_blocks
  more_blocks_again extent zero [] ls rest within p h ends = record { is = ap (λ (l : List Lexeme). Some ([], l)) h; under = subst Nested h p; shorter = omega (arith, ap length h) }
  more_blocks_again extent zero (x ∷ xs) ls rest within p (after, one, more) ends = absurd (let first = opened_again opening x ls after p one in omega (arith, first.shorter))
  more_blocks_again extent (suc n) [] ls rest within p h ends = record { is = rw (h, ends) refl; under = subst Nested h p; shorter = omega (arith, ap length h) }
  more_blocks_again extent (suc n) (x ∷ xs) ls rest within p (after, one, more) ends =
      let first = opened_again opening x ls after p one in
      let others = more_blocks_again extent n xs after rest (omega (arith, first.shorter)) first.under more ends in
      record {
        is = rw (opened_opens opening x ls after one, first.is, others.is) refl;
        under = others.under;
        shorter = omega (arith, first.shorter, others.shorter);
      }

  pub blocks_again : (extent : Extent) (xs : List (List PureItem)) (ls rest : List Lexeme) → Nested ls → SpellsSome (SpellsOpened opening) xs ls rest
      → opens_by opening (first_form rest) ≡ false → Reads Nested (blocks_at opening extent) xs ls rest
  unfolding blocks_at
  blocks_again extent [] ls rest p h ends = absurd h
  blocks_again extent (x ∷ xs) ls rest p (after, one, more) ends =
      let first = opened_again opening x ls after p one in
      let others = more_blocks_again extent (length after) xs after rest (omega arith) first.under more ends in
      record {
        is = rw (first.is, others.is) refl;
        under = others.under;
        shorter = omega (arith, first.shorter, others.shorter);
      }

-- ---- postconditions, and then error postconditions

abbrev pub SpellsBoth : List (List PureItem) × List (List PureItem) → List Lexeme → List Lexeme → Type 0
SpellsBoth both ls rest = SpellsPosts both.0 both.1 ls rest

posts_join : (posts errors : List (List PureItem)) (ls middle rest : List Lexeme) → SpellsBlocks posts ls middle → SpellsEach SpellsError errors middle rest → SpellsPosts posts errors ls rest
posts_join [] errors ls middle rest h k = absurd h
posts_join (x ∷ xs) errors ls middle rest h k = (middle, h, k)

pub posts_take : (extent : Extent) → Takes SpellsBoth (posts_at extent)
unfolding posts_at
posts_take extent ls found e =
    cond_cases (opens_by Throw (first_form ls)) _ _ found e
    (λ test read.
    let errors = bind_some (blocks_at Throw extent ls) _ found read in
    in_place SpellsBoth ls ([], errors.0.0) errors.0.1 found errors.2 (blocks_take Throw extent ls errors.0 errors.1))
    (λ test read.
    let posts = bind_some (blocks_at Brace extent ls) _ found read in
    let errors = bind_some (more_blocks Throw extent (length posts.0.1) posts.0.1) _ found posts.2 in
    in_place SpellsBoth ls (posts.0.0, errors.0.0) errors.0.1 found errors.2
    (posts_join posts.0.0 errors.0.0 ls posts.0.1 errors.0.1 (blocks_take Brace extent ls posts.0 posts.1)
    (more_blocks_take Throw extent (length posts.0.1) posts.0.1 errors.0 errors.1)))

-- no postcondition begins with these lexemes
abbrev pub NoPost : List Lexeme → Type 0
NoPost ls = (opening : Opening) → opens_by opening (first_form ls) ≡ false

-- error postconditions begin with no brace, where what follows them doesn't
pub errors_first : (errors : List (List PureItem)) (ls rest : List Lexeme) → SpellsEach SpellsError errors ls rest → opens_by Brace (first_form rest) ≡ false → opens_by Brace (first_form ls) ≡ false
errors_first [] ls rest is ends = rw is ends
errors_first (x ∷ xs) ls rest (after, one, more) ends = throw_is_no_brace x ls after one

pub posts_again : (extent : Extent) (posts errors : List (List PureItem)) (ls rest : List Lexeme) → Nested ls → SpellsPosts posts errors ls rest → NoPost rest
    → Reads Nested (posts_at extent) (posts, errors) ls rest
unfolding posts_at
posts_again extent [] [] ls rest p h ends = absurd h
posts_again extent [] (x ∷ xs) ls rest p h ends =
    let read = blocks_again Throw extent (x ∷ xs) ls rest p h (ends Throw) in
    record { is = rw (opened_opens Throw x ls _ h.1, read.is) refl; under = read.under; shorter = read.shorter }
posts_again extent (x ∷ xs) errors ls rest p (middle, h, k) ends =
    let posts = blocks_again Brace extent (x ∷ xs) ls middle p h (errors_first errors middle rest k (ends Brace)) in
    let others = more_blocks_again Throw extent (length middle) errors middle rest (omega arith) posts.under k (ends Throw) in
    record {
      is = rw (brace_is_no_throw x ls _ h.1, posts.is, others.is) refl;
      under = others.under;
      shorter = omega (arith, posts.shorter, others.shorter);
    }
