-- The signs and their spellings.
use Rattle.std.specs.Prelude.{ℕ, List, [], ◌∷◌, codes}
use Rattle.gil_lexer.specs.declared.signs.Sign.{Sign}
use Rattle.gil_lexer.specs.declared.signs.Sign.TheVariants as the

-- the ASCII bytes of a sign
unfoldable pub sign_bytes : Sign → List ℕ
sign_bytes the.ColonEqual = codes ":="
sign_bytes the.EqualEqual = codes "=="
sign_bytes the.NotEqual = codes "!="
sign_bytes the.LessEqual = codes "<="
sign_bytes the.GreaterEqual = codes ">="
sign_bytes the.AndAnd = codes "&&"
sign_bytes the.OrOr = codes "||"
sign_bytes the.PlusPlus = codes "++"
sign_bytes the.LeftParenthesis = codes "("
sign_bytes the.RightParenthesis = codes ")"
sign_bytes the.LeftBracket = codes "["
sign_bytes the.RightBracket = codes "]"
sign_bytes the.LeftBrace = codes "{"
sign_bytes the.RightBrace = codes "}"
sign_bytes the.Comma = codes ","
sign_bytes the.Semicolon = codes ";"
sign_bytes the.Colon = codes ":"
sign_bytes the.Dot = codes "."
sign_bytes the.Plus = codes "+"
sign_bytes the.Minus = codes "-"
sign_bytes the.Star = codes "*"
sign_bytes the.Slash = codes "/"
sign_bytes the.Percent = codes "%"
sign_bytes the.Equal = codes "="
sign_bytes the.Less = codes "<"
sign_bytes the.Greater = codes ">"
sign_bytes the.Bang = codes "!"
sign_bytes the.Ampersand = codes "&"

-- each sign, the longer first
unfoldable pub all_signs : List Sign
all_signs =
    the.ColonEqual ∷ the.EqualEqual ∷ the.NotEqual ∷ the.LessEqual ∷ the.GreaterEqual ∷
    the.AndAnd ∷ the.OrOr ∷ the.PlusPlus ∷ the.LeftParenthesis ∷ the.RightParenthesis ∷
    the.LeftBracket ∷ the.RightBracket ∷ the.LeftBrace ∷ the.RightBrace ∷ the.Comma ∷
    the.Semicolon ∷ the.Colon ∷ the.Dot ∷ the.Plus ∷ the.Minus ∷ the.Star ∷ the.Slash ∷
    the.Percent ∷ the.Equal ∷ the.Less ∷ the.Greater ∷ the.Bang ∷ the.Ampersand ∷ []
