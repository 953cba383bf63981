-- Bytes and the lexemes that they read as, from left to right: tokens and blanks on one side, and on the other what is known
-- of lexemes that some text has.
use Rattle.std.proofs.Common.{◌≡◌, ℕ, ◌+◌, ◌≤◌, true, ℤ, pos, negsuc, List, [], ◌∷◌, ◌++◌, length, Option, Some, None, refl, sym, ap, ◌∙◌, subst, inl, inr}
use Rattle.gil_lexer.specs.Bytes.{is_blank}
use Rattle.gil_lexer.specs.Spelling.{Spells, IsToken, SpellsNumber, takes_minus}
use Rattle.gil_lexer.specs.Texts.{Place, start, Passes, Lead, AreBlanks, AreLastBlanks, AreTokensOf}
use Rattle.gil_lexer.specs.declared.forms.Form.{Form}
use Rattle.gil_lexer.specs.declared.forms.Form.TheVariants as forms
use Rattle.gil_lexer.specs.declared.forms.Token.{Token}
use Rattle.gil_lexer.proofs.RunLemmas.{begins_append}
use Rattle.gil_lexer.proofs.TextLaws.{Follows, follows_start, slice_text}
use Rattle.gil_lexemes.specs.declared.standing.Lexeme.{Lexeme}
use Rattle.gil_lexemes.specs.declared.standing.Lexeme.TheVariants as lexemes
use Rattle.gil_lexemes.specs.Lexemes.{StandsFor, StandForAll}
use Rattle.gil_lexemes.specs.Reading.{form_of}
use Rattle.gil_grammar.specs.Nesting.{most_open, open_behind, IsNestedFrom, IsNested}

-- ---- lexemes that some text has

-- some token stands for the lexeme
abbrev pub IsSpelled : Lexeme → Type 0
IsSpelled l = (text : List ℕ) × Spells (form_of l) text × StandsFor (form_of l) text l

-- a number below 0 has its `-`, which belongs to it behind some tokens alone
abbrev pub MayStand : Option Form → Lexeme → Type 0
MayStand b (lexemes.Number (negsuc n)) = takes_minus b ≡ true
MayStand b _ = Unit {0}

-- a lexeme of a text, behind a token of the form b and where so many brackets are open
pub record Stands (b : Option Form) (count : ℕ) (l : Lexeme) : Type 0 where
  pub spelled : IsSpelled l
  pub may : MayStand b l
  pub within : open_behind count l ≤ most_open

abbrev pub Written : Option Form → ℕ → List Lexeme → Type 0
Written b count [] = Unit {0}
Written b count (l ∷ ls) = Stands b count l × Written (Some (form_of l)) (open_behind count l) ls

-- ---- bytes that read as lexemes

-- the bytes begin with blanks and a token that stands for the lexeme
pub record Reads (b : Option Form) (count : ℕ) (l : Lexeme) (bytes after : List ℕ) : Type 0 where
  pub gap : List ℕ
  pub text : List ℕ
  pub split : bytes ≡ gap ++ (text ++ after)
  pub blanks : AreBlanks gap
  pub token : IsToken b (form_of l) text after
  pub stands : StandsFor (form_of l) text l
  pub within : open_behind count l ≤ most_open

abbrev pub Lexes : Option Form → ℕ → List ℕ → List Lexeme → Type 0
Lexes b count bytes [] = AreLastBlanks bytes
Lexes b count bytes (l ∷ ls) = (after : List ℕ) × Reads b count l bytes after × Lexes (Some (form_of l)) (open_behind count l) after ls

-- the same behind every token
abbrev pub Anywhere : ℕ → List ℕ → List Lexeme → Type 0
Anywhere count bytes ls = (b : Option Form) → Lexes b count bytes ls

-- ---- steps

pub no_blanks : AreBlanks []
no_blanks = ([], tt, refl)

blank_and : (c : ℕ) (gap : List ℕ) → is_blank c ≡ true → AreBlanks gap → AreBlanks (c ∷ gap)
blank_and c gap is (pieces, all, same) = ((c ∷ []) ∷ pieces, (inl (c, is, refl), all), ap (λ x. c ∷ x) same)

last_blank_and : (c : ℕ) (gap : List ℕ) → is_blank c ≡ true → AreLastBlanks gap → AreLastBlanks (c ∷ gap)
last_blank_and c gap is (inl blanks) = inl (blank_and c gap is blanks)
last_blank_and c gap is (inr (blanks, inside, are, line, same)) = inr (c ∷ blanks, inside, blank_and c blanks is are, line, ap (λ x. c ∷ x) same)

-- a blank more
pub lexes_blank : (c : ℕ) (b : Option Form) (count : ℕ) (bytes : List ℕ) (ls : List Lexeme) → is_blank c ≡ true → Lexes b count bytes ls → Lexes b count (c ∷ bytes) ls
lexes_blank c b count bytes [] is h = last_blank_and c bytes is h
lexes_blank c b count bytes (l ∷ ls) is (after, r, h) =
    (after, record { gap = c ∷ r.gap; text = r.text; split = ap (λ x. c ∷ x) r.split; blanks = blank_and c r.gap is r.blanks; token = r.token; stands = r.stands; within = r.within }, h)

pub lexes_end : Lexes None 0 [] []
lexes_end = inl no_blanks

-- a token more
pub lexes_token : (b : Option Form) (count : ℕ) (l : Lexeme) (text after : List ℕ) (ls : List Lexeme) → IsToken b (form_of l) text after → StandsFor (form_of l) text l
    → open_behind count l ≤ most_open → Lexes (Some (form_of l)) (open_behind count l) after ls → Lexes b count (text ++ after) (l ∷ ls)
lexes_token b count l text after ls token stands within h =
    (after, record { gap = []; text = text; split = refl; blanks = no_blanks; token = token; stands = stands; within = within }, h)

-- ---- from tokens

form_stands : (form : Form) (text : List ℕ) (l : Lexeme) → StandsFor form text l → form ≡ form_of l
form_stands forms.Name text l s = rw s refl
form_stands (forms.Word word) text l s = rw s refl
form_stands forms.Logical text l s = rw s refl
form_stands forms.Procedure text l (x, is, s) = rw s refl
form_stands forms.Number text l (n, is, s) = rw s refl
form_stands forms.Text text l (characters, is, s) = rw s refl
form_stands (forms.Sign sign) text l s = rw s refl

may_number : (b : Option Form) (text after : List ℕ) (z : ℤ) → SpellsNumber text z → IsToken b forms.Number text after → MayStand b (lexemes.Number z)
may_number b text after (pos n) h token = tt
may_number b text after (negsuc n) (digits, are, inl (is, value)) token = absurd (cc value)
may_number b text after (negsuc n) (digits, are, inr (is, value)) (spelled, (ends, may)) = (rw is at may) (begins_append _ digits after are.0)

may_stand : (b : Option Form) (text after : List ℕ) (l : Lexeme) → IsToken b (form_of l) text after → StandsFor (form_of l) text l → MayStand b l
may_stand b text after (lexemes.Name x) token s = tt
may_stand b text after (lexemes.Word word) token s = tt
may_stand b text after (lexemes.Logical x) token s = tt
may_stand b text after (lexemes.Procedure x) token s = tt
may_stand b text after (lexemes.Number z) token (n, is, s) = let same : n ≡ z = cc s in may_number b text after z (subst (SpellsNumber text) same is) token
may_stand b text after (lexemes.Literal characters) token s = tt
may_stand b text after (lexemes.Sign sign) token s = tt

stands_here : (b : Option Form) (count : ℕ) (text after : List ℕ) (l : Lexeme) → IsToken b (form_of l) text after → StandsFor (form_of l) text l → open_behind count l ≤ most_open → Stands b count l
stands_here b count text after l token s within = record { spelled = (text, token.0, s); may = may_stand b text after l token s; within = within }

written_from : (bytes : List ℕ) (p q : Place) (tokens : List Token) (ls : List Lexeme) (count : ℕ) → Follows bytes p → Lead p tokens q → StandForAll bytes tokens ls → IsNestedFrom count ls
    → Written p.before count ls
written_from bytes p q [] [] count f lead s n = tt
written_from bytes p q [] (l ∷ ls) count f lead s n = absurd s
written_from bytes p q (t ∷ tokens) [] count f lead s n = tt
written_from bytes p q (t ∷ tokens) (l ∷ ls) count f (next, first, others) s n =
    let sliced = slice_text bytes p next t f first in
    let same = form_stands t.form _ l s.0 in
    let stands : StandsFor (form_of l) first.text l = subst (λ form. StandsFor form first.text l) same (subst (λ text. StandsFor t.form text l) sliced.text s.0) in
    let token : IsToken p.before (form_of l) first.text next.rest = subst (λ form. IsToken p.before form first.text next.rest) same first.spelled in
    let rest = written_from bytes next q tokens ls (open_behind count l) sliced.follows others s.1 n.1 in
    (stands_here p.before count first.text next.rest l token stands n.0, subst (λ b. Written b (open_behind count l) ls) (first.before ∙ ap Some same) rest)

-- the lexemes of a text
pub written : (bytes : List ℕ) (tokens : List Token) (ls : List Lexeme) → AreTokensOf tokens bytes → StandForAll bytes tokens ls → IsNested ls → Written None 0 ls
written bytes tokens ls (end, lead, last) s n = written_from bytes (start bytes) end tokens ls 0 (follows_start bytes) lead s n

-- ---- to tokens

pub record Tokenized (bytes : List ℕ) (p : Place) (count : ℕ) (ls : List Lexeme) : Type 0 where
  pub tokens : List Token
  pub end : Place
  pub lead : Lead p tokens end
  pub last : AreLastBlanks end.rest
  pub stand : StandForAll bytes tokens ls
  pub nested : IsNestedFrom count ls

pub tokenized : (bytes : List ℕ) (p : Place) (count : ℕ) (ls : List Lexeme) → Follows bytes p → Lexes p.before count p.rest ls → Tokenized bytes p count ls
tokenized bytes p count [] f h = record { tokens = []; end = p; lead = refl; last = h; stand = tt; nested = tt }
tokenized bytes p count (l ∷ ls) f (after, r, h) =
    let from = p.at + length r.gap in
    let t : Token = record { form = form_of l; from = from; to = from + length r.text } in
    let next : Place = record { before = Some (form_of l); at = from + length r.text; rest = after } in
    let pass : Passes p t next = record { gap = r.gap; text = r.text; bytes = r.split; blanks = r.blanks; spelled = r.token; from = refl; to = refl; at = refl; before = refl } in
    let sliced = slice_text bytes p next t f pass in
    let rest = tokenized bytes next (open_behind count l) ls sliced.follows h in
    record {
      tokens = t ∷ rest.tokens;
      end = rest.end;
      lead = (next, pass, rest.lead);
      last = rest.last;
      stand = (subst (λ text. StandsFor (form_of l) text l) (sym sliced.text) r.stands, rest.stand);
      nested = (r.within, rest.nested);
    }
