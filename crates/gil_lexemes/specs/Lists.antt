-- Reading things one after another, each by the same function.
use Rattle.std.specs.Prelude.{ℕ, zero, suc, List, [], ◌∷◌, ◌++◌, length, Some, if◌then◌else◌}
use Rattle.gil_lexer.specs.declared.signs.Sign.{Sign}
use Rattle.gil_lexemes.specs.declared.standing.Lexeme.{Lexeme}
use Rattle.gil_lexemes.specs.Reading.{Reading, ◌>>=◌, is_sign, first_form, behind}

-- what was read before, and what is still read
abbrev pub with_front : {X : Type 0} → List X → Reading (List X) → Reading (List X)
with_front front read = read >>= λ xs. Some (front ++ xs.0, xs.1)

module _ {X : Type 0} (read : List Lexeme → Reading X) where
  -- as many as there are, up to n, each behind the separator
  unfoldable pub more_at : ℕ → Sign → List Lexeme → Reading (List X)
  more_at zero separator ls = Some ([], ls)
  more_at (suc n) separator ls =
      if is_sign separator (first_form ls)
      then (read (behind ls) >>= λ x. with_front (x.0 ∷ []) (more_at n separator x.1))
      else Some ([], ls)

  -- none where the closing sign comes next, and else as many as there are, with the separator between one and the next
  abbrev pub separated_at : Sign → Sign → List Lexeme → Reading (List X)
  separated_at closing separator ls =
      if is_sign closing (first_form ls)
      then Some ([], ls)
      else (read ls >>= λ x. with_front (x.0 ∷ []) (more_at (length x.1) separator x.1))

  -- as many as there are up to the closing sign, at most n
  unfoldable pub each_until : ℕ → Sign → List Lexeme → Reading (List X)
  each_until zero closing ls = Some ([], ls)
  each_until (suc n) closing ls =
      if is_sign closing (first_form ls)
      then Some ([], ls)
      else (read ls >>= λ x. with_front (x.0 ∷ []) (each_until n closing x.1))
