-- What a step of reading gives says of the lexemes, and the other way round.
use Rattle.std.proofs.Common.{◌≡◌, ℕ, ℤ, Bool, true, false, cond, List, [], ◌∷◌, Option, Some, None, refl, ap, ◌∙◌}
use denote.Enum.Bare.{same_true, true_same}
use Rattle.gil_lexer.specs.declared.signs.Sign.{Sign}
use Rattle.gil_lexer.specs.declared.words.Word.{Word}
use Rattle.gil_lexer.specs.contracts.signs.Sign.{the_type as sign_type}
use Rattle.gil_lexer.specs.contracts.words.Word.{the_type as word_type}
use Rattle.gil_lexemes.specs.declared.standing.Lexeme.{Lexeme}
use Rattle.gil_lexemes.specs.declared.standing.Lexeme.TheVariants as lexemes
use Rattle.gil_lexemes.specs.Reading.{◌>>=◌, behind, first_form, same_sign, is_sign, same_word, is_word, sign_at, word_at, name_at, logical_at, procedure_at, number_at, characters_at}

-- the value of a step that gave something
pub bind_some : {A B : Type 0} (r : Option A) (f : A → Option B) (y : B) → (r >>= f) ≡ Some y → (x : A) × (r ≡ Some x) × (f x ≡ Some y)
bind_some (Some x) f y e = (x, refl, e)
bind_some None f y e = absurd cc

-- a test that let something pass
pub if_some : {A : Type 0} (b : Bool) (r : Option A) (y : A) → cond b r None ≡ Some y → (b ≡ true) × (r ≡ Some y)
if_some true r y e = (refl, e)
if_some false r y e = absurd cc

-- ---- signs and words

pub same_sign-true : (s t : Sign) → same_sign s t ≡ true → s ≡ t
unfolding same_sign
same_sign-true s t e = same_true sign_type tt s t e

pub same_sign-refl : (s : Sign) → same_sign s s ≡ true
unfolding same_sign
same_sign-refl s = true_same sign_type s s refl

pub same_word-true : (v w : Word) → same_word v w ≡ true → v ≡ w
unfolding same_word
same_word-true v w e = same_true word_type tt v w e

pub same_word-refl : (w : Word) → same_word w w ≡ true
unfolding same_word
same_word-refl w = true_same word_type w w refl

pub at_sign_is : (sign : Sign) (ls : List Lexeme) → is_sign sign (first_form ls) ≡ true → ls ≡ lexemes.Sign sign ∷ behind ls
at_sign_is sign [] e = absurd cc
at_sign_is sign (lexemes.Sign s ∷ ls) e = ap (λ t. lexemes.Sign t ∷ ls) (same_sign-true s sign e)
at_sign_is sign (lexemes.Name x ∷ ls) e = absurd cc
at_sign_is sign (lexemes.Word w ∷ ls) e = absurd cc
at_sign_is sign (lexemes.Logical x ∷ ls) e = absurd cc
at_sign_is sign (lexemes.Procedure x ∷ ls) e = absurd cc
at_sign_is sign (lexemes.Number n ∷ ls) e = absurd cc
at_sign_is sign (lexemes.Literal x ∷ ls) e = absurd cc

pub at_word_is : (word : Word) (ls : List Lexeme) → is_word word (first_form ls) ≡ true → ls ≡ lexemes.Word word ∷ behind ls
at_word_is word [] e = absurd cc
at_word_is word (lexemes.Word w ∷ ls) e = ap (λ v. lexemes.Word v ∷ ls) (same_word-true w word e)
at_word_is word (lexemes.Sign s ∷ ls) e = absurd cc
at_word_is word (lexemes.Name x ∷ ls) e = absurd cc
at_word_is word (lexemes.Logical x ∷ ls) e = absurd cc
at_word_is word (lexemes.Procedure x ∷ ls) e = absurd cc
at_word_is word (lexemes.Number n ∷ ls) e = absurd cc
at_word_is word (lexemes.Literal x ∷ ls) e = absurd cc

pub sign_takes : (sign : Sign) (ls rest : List Lexeme) → sign_at sign ls ≡ Some rest → ls ≡ lexemes.Sign sign ∷ rest
sign_takes sign ls rest e =
    let found = if_some (is_sign sign (first_form ls)) (Some (behind ls)) rest e in
    let same : behind ls ≡ rest = cc (found.1) in
    at_sign_is sign ls found.0 ∙ ap (λ r. lexemes.Sign sign ∷ r) same

pub sign_again : (sign : Sign) (rest : List Lexeme) → sign_at sign (lexemes.Sign sign ∷ rest) ≡ Some rest
sign_again sign rest = rw (same_sign-refl sign) refl

pub word_takes : (word : Word) (ls rest : List Lexeme) → word_at word ls ≡ Some rest → ls ≡ lexemes.Word word ∷ rest
word_takes word ls rest e =
    let found = if_some (is_word word (first_form ls)) (Some (behind ls)) rest e in
    let same : behind ls ≡ rest = cc (found.1) in
    at_word_is word ls found.0 ∙ ap (λ r. lexemes.Word word ∷ r) same

pub word_again : (word : Word) (rest : List Lexeme) → word_at word (lexemes.Word word ∷ rest) ≡ Some rest
word_again word rest = rw (same_word-refl word) refl

-- ---- lexemes with something in them

pub name_takes : (ls : List Lexeme) (found : List ℕ × List Lexeme) → name_at ls ≡ Some found → ls ≡ lexemes.Name found.0 ∷ found.1
name_takes [] found e = absurd cc
name_takes (lexemes.Name x ∷ ls) found e = let same : ◌≡◌ {A = List ℕ × List Lexeme} (x, ls) found = cc in ap (λ (p : List ℕ × List Lexeme). lexemes.Name p.0 ∷ p.1) same
name_takes (lexemes.Word w ∷ ls) found e = absurd cc
name_takes (lexemes.Sign s ∷ ls) found e = absurd cc
name_takes (lexemes.Logical x ∷ ls) found e = absurd cc
name_takes (lexemes.Procedure x ∷ ls) found e = absurd cc
name_takes (lexemes.Number n ∷ ls) found e = absurd cc
name_takes (lexemes.Literal x ∷ ls) found e = absurd cc

pub logical_takes : (ls : List Lexeme) (found : List ℕ × List Lexeme) → logical_at ls ≡ Some found → ls ≡ lexemes.Logical found.0 ∷ found.1
logical_takes [] found e = absurd cc
logical_takes (lexemes.Logical x ∷ ls) found e = let same : ◌≡◌ {A = List ℕ × List Lexeme} (x, ls) found = cc in ap (λ (p : List ℕ × List Lexeme). lexemes.Logical p.0 ∷ p.1) same
logical_takes (lexemes.Word w ∷ ls) found e = absurd cc
logical_takes (lexemes.Sign s ∷ ls) found e = absurd cc
logical_takes (lexemes.Name x ∷ ls) found e = absurd cc
logical_takes (lexemes.Procedure x ∷ ls) found e = absurd cc
logical_takes (lexemes.Number n ∷ ls) found e = absurd cc
logical_takes (lexemes.Literal x ∷ ls) found e = absurd cc

pub procedure_takes : (ls : List Lexeme) (found : List ℕ × List Lexeme) → procedure_at ls ≡ Some found → ls ≡ lexemes.Procedure found.0 ∷ found.1
procedure_takes [] found e = absurd cc
procedure_takes (lexemes.Procedure x ∷ ls) found e = let same : ◌≡◌ {A = List ℕ × List Lexeme} (x, ls) found = cc in ap (λ (p : List ℕ × List Lexeme). lexemes.Procedure p.0 ∷ p.1) same
procedure_takes (lexemes.Word w ∷ ls) found e = absurd cc
procedure_takes (lexemes.Sign s ∷ ls) found e = absurd cc
procedure_takes (lexemes.Name x ∷ ls) found e = absurd cc
procedure_takes (lexemes.Logical x ∷ ls) found e = absurd cc
procedure_takes (lexemes.Number n ∷ ls) found e = absurd cc
procedure_takes (lexemes.Literal x ∷ ls) found e = absurd cc

pub number_takes : (ls : List Lexeme) (found : ℤ × List Lexeme) → number_at ls ≡ Some found → ls ≡ lexemes.Number found.0 ∷ found.1
number_takes [] found e = absurd cc
number_takes (lexemes.Number n ∷ ls) found e = let same : ◌≡◌ {A = ℤ × List Lexeme} (n, ls) found = cc in ap (λ (p : ℤ × List Lexeme). lexemes.Number p.0 ∷ p.1) same
number_takes (lexemes.Word w ∷ ls) found e = absurd cc
number_takes (lexemes.Sign s ∷ ls) found e = absurd cc
number_takes (lexemes.Name x ∷ ls) found e = absurd cc
number_takes (lexemes.Logical x ∷ ls) found e = absurd cc
number_takes (lexemes.Procedure x ∷ ls) found e = absurd cc
number_takes (lexemes.Literal x ∷ ls) found e = absurd cc

pub characters_take : (ls : List Lexeme) (found : List ℕ × List Lexeme) → characters_at ls ≡ Some found → ls ≡ lexemes.Literal found.0 ∷ found.1
characters_take [] found e = absurd cc
characters_take (lexemes.Literal x ∷ ls) found e = let same : ◌≡◌ {A = List ℕ × List Lexeme} (x, ls) found = cc in ap (λ (p : List ℕ × List Lexeme). lexemes.Literal p.0 ∷ p.1) same
characters_take (lexemes.Word w ∷ ls) found e = absurd cc
characters_take (lexemes.Sign s ∷ ls) found e = absurd cc
characters_take (lexemes.Name x ∷ ls) found e = absurd cc
characters_take (lexemes.Logical x ∷ ls) found e = absurd cc
characters_take (lexemes.Procedure x ∷ ls) found e = absurd cc
characters_take (lexemes.Number n ∷ ls) found e = absurd cc
