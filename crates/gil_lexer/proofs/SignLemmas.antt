-- The signs.
use Rattle.std.proofs.Common.{◌≡◌, ℕ, ◌<◌, ◌≤◌, Bool, true, false, not, ◌&&◌, eqb, List, ◌++◌, length, take, drop, Option, Some, None, refl, lit<, nat_eq, sym, ap, ◌∙◌, arith}
use Rattle.std.specs.List.{starts_with}
use Rattle.std.proofs.lemmas.Bool.Decides.{Decides-eqb}
use Rattle.std.proofs.lemmas.Slice.Eq.{starts_is}
use Rattle.std.proofs.lemmas.List.Prefix.{front_fits}
use Rattle.gil_lexer.proofs.Finding.{find_passes, Among, find_among, find_none, descending, find_largest}
use Rattle.std.proofs.lemmas.List.{take_at}
use Rattle.gil_lexer.specs.Spelling.{IsLongestSign}
use Rattle.gil_lexer.specs.Signs.{sign_bytes, all_signs}
use Rattle.std.specs.Char.{is_ascii_digit}
use Rattle.gil_lexer.specs.Bytes.{quote, hash, at_sign, is_blank, is_name_start, begins}
use Rattle.gil_lexer.specs.Reading.{sign_of}
use Rattle.gil_lexer.specs.declared.signs.Sign.{Sign}
use Rattle.gil_lexer.specs.declared.signs.Sign.TheVariants as the

-- a sign has a byte
pub sign_nonempty : (sign : Sign) → 0 < length (sign_bytes sign)
unfolding sign_bytes
sign_nonempty the.ColonEqual = lit< tt
sign_nonempty the.EqualEqual = lit< tt
sign_nonempty the.NotEqual = lit< tt
sign_nonempty the.LessEqual = lit< tt
sign_nonempty the.GreaterEqual = lit< tt
sign_nonempty the.AndAnd = lit< tt
sign_nonempty the.OrOr = lit< tt
sign_nonempty the.PlusPlus = lit< tt
sign_nonempty the.LeftParenthesis = lit< tt
sign_nonempty the.RightParenthesis = lit< tt
sign_nonempty the.LeftBracket = lit< tt
sign_nonempty the.RightBracket = lit< tt
sign_nonempty the.LeftBrace = lit< tt
sign_nonempty the.RightBrace = lit< tt
sign_nonempty the.Comma = lit< tt
sign_nonempty the.Semicolon = lit< tt
sign_nonempty the.Colon = lit< tt
sign_nonempty the.Dot = lit< tt
sign_nonempty the.Plus = lit< tt
sign_nonempty the.Minus = lit< tt
sign_nonempty the.Star = lit< tt
sign_nonempty the.Slash = lit< tt
sign_nonempty the.Percent = lit< tt
sign_nonempty the.Equal = lit< tt
sign_nonempty the.Less = lit< tt
sign_nonempty the.Greater = lit< tt
sign_nonempty the.Bang = lit< tt
sign_nonempty the.Ampersand = lit< tt

-- a prefix by `starts_with` and the bytes behind it
pub starts_splits : (text front : List ℕ) → starts_with nat_eq text front ≡ true → text ≡ front ++ drop (length front) text
starts_splits text front e = (starts_is Decides-eqb text front _ refl).0 e

pub starts_from : (text front rest : List ℕ) → text ≡ front ++ rest → starts_with nat_eq text front ≡ true
starts_from text front rest e = (starts_is Decides-eqb text front _ refl).1 rest e

-- the text begins with the sign that is found
pub sign_of_some : (text : List ℕ) (sign : Sign) → sign_of text ≡ Some sign → text ≡ sign_bytes sign ++ drop (length (sign_bytes sign)) text
unfolding sign_of
sign_of_some text sign e = starts_splits text (sign_bytes sign) (find_passes (λ s. starts_with nat_eq text (sign_bytes s)) all_signs sign e)

pub sign_of_within : (text : List ℕ) (sign : Sign) → sign_of text ≡ Some sign → length (sign_bytes sign) ≤ length text
sign_of_within text sign e = front_fits text (sign_bytes sign) _ (sign_of_some text sign e)

-- each sign is the longest in its own bytes
pub sign_known : (sign : Sign) → sign_of (sign_bytes sign) ≡ Some sign
unfolding sign_of sign_bytes all_signs
sign_known the.ColonEqual = refl
sign_known the.EqualEqual = refl
sign_known the.NotEqual = refl
sign_known the.LessEqual = refl
sign_known the.GreaterEqual = refl
sign_known the.AndAnd = refl
sign_known the.OrOr = refl
sign_known the.PlusPlus = refl
sign_known the.LeftParenthesis = refl
sign_known the.RightParenthesis = refl
sign_known the.LeftBracket = refl
sign_known the.RightBracket = refl
sign_known the.LeftBrace = refl
sign_known the.RightBrace = refl
sign_known the.Comma = refl
sign_known the.Semicolon = refl
sign_known the.Colon = refl
sign_known the.Dot = refl
sign_known the.Plus = refl
sign_known the.Minus = refl
sign_known the.Star = refl
sign_known the.Slash = refl
sign_known the.Percent = refl
sign_known the.Equal = refl
sign_known the.Less = refl
sign_known the.Greater = refl
sign_known the.Bang = refl
sign_known the.Ampersand = refl

sign_among : (sign : Sign) → Among all_signs sign
unfolding sign_of
sign_among sign = find_among (λ s. starts_with nat_eq (sign_bytes sign) (sign_bytes s)) all_signs sign (sign_known sign)

longer_first : descending (λ s. length (sign_bytes s)) all_signs ≡ true
unfolding sign_bytes all_signs
longer_first = refl

pub sign_of_longest : (text : List ℕ) (sign : Sign) → sign_of text ≡ Some sign → IsLongestSign sign text
unfolding sign_of
sign_of_longest text sign e other fits = find_largest (λ s. length (sign_bytes s)) (λ s. starts_with nat_eq text (sign_bytes s)) all_signs sign other longer_first e (sign_among other) fits

pub sign_of_none : (text : List ℕ) → sign_of text ≡ None → (sign : Sign) → starts_with nat_eq text (sign_bytes sign) ≡ false
unfolding sign_of
sign_of_none text e sign = find_none (λ s. starts_with nat_eq text (sign_bytes s)) all_signs sign e (sign_among sign)

-- two fronts of one text that are as long are equal
same_front : (front other rest : List ℕ) (text : List ℕ) → text ≡ front ++ rest → (rest' : List ℕ) → text ≡ other ++ rest' → length front ≡ length other → front ≡ other
same_front front other rest text e rest' e' same =
    sym (take_at front rest (length front) refl) ∙ ap (take (length front)) (sym e ∙ e') ∙ take_at other rest' (length front) (sym same)

-- a sign at the front of a text is found, where no longer one stands there
pub sign_of_reads : (sign : Sign) (rest : List ℕ) → IsLongestSign sign (sign_bytes sign ++ rest) → sign_of (sign_bytes sign ++ rest) ≡ Some sign
sign_of_reads sign rest longest = go (sign_of (sign_bytes sign ++ rest)) refl
  where
    go : (found : Option Sign) → sign_of (sign_bytes sign ++ rest) ≡ found → found ≡ Some sign
    go None e =
        let none = sign_of_none (sign_bytes sign ++ rest) e sign in
        let fits = starts_from (sign_bytes sign ++ rest) (sign_bytes sign) rest refl in
        absurd (cc (none, fits))
    go (Some other) e =
        let splits = sign_of_some (sign_bytes sign ++ rest) other e in
        let fits = starts_from (sign_bytes sign ++ rest) (sign_bytes sign) rest refl in
        let above = sign_of_longest (sign_bytes sign ++ rest) other e sign fits in
        let below = longest other (starts_from (sign_bytes sign ++ rest) (sign_bytes other) _ splits) in
        let same = same_front (sign_bytes sign) (sign_bytes other) rest (sign_bytes sign ++ rest) refl _ splits (omega arith) in
        let first = sign_known sign in
        let second = sign_known other in
        let joined : sign_of (sign_bytes sign) ≡ sign_of (sign_bytes other) = ap sign_of same in
        sym second ∙ sym joined ∙ first

-- what a sign may begin with
abbrev pub begins_sign : ℕ → Bool
begins_sign b = not (eqb b quote) && not (eqb b hash) && not (eqb b at_sign) && not (is_ascii_digit b) && not (is_name_start b) && not (is_blank b)

pub sign_begins : (sign : Sign) → begins begins_sign (sign_bytes sign) ≡ true
unfolding sign_bytes
sign_begins the.ColonEqual = refl
sign_begins the.EqualEqual = refl
sign_begins the.NotEqual = refl
sign_begins the.LessEqual = refl
sign_begins the.GreaterEqual = refl
sign_begins the.AndAnd = refl
sign_begins the.OrOr = refl
sign_begins the.PlusPlus = refl
sign_begins the.LeftParenthesis = refl
sign_begins the.RightParenthesis = refl
sign_begins the.LeftBracket = refl
sign_begins the.RightBracket = refl
sign_begins the.LeftBrace = refl
sign_begins the.RightBrace = refl
sign_begins the.Comma = refl
sign_begins the.Semicolon = refl
sign_begins the.Colon = refl
sign_begins the.Dot = refl
sign_begins the.Plus = refl
sign_begins the.Minus = refl
sign_begins the.Star = refl
sign_begins the.Slash = refl
sign_begins the.Percent = refl
sign_begins the.Equal = refl
sign_begins the.Less = refl
sign_begins the.Greater = refl
sign_begins the.Bang = refl
sign_begins the.Ampersand = refl
