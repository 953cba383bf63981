-- What tokens stand for, token by token.
use Rattle.std.proofs.Common.{◌≡◌, ◌+◌, ◌<◌, ℕ, List, [], ◌∷◌, ◌++◌, length, take, get_or, refl, sym, ap, ◌∙◌}
use Rattle.std.specs.List.{slice_range}
use Rattle.gil_lexer.proofs.LiteralLaws.{literal_once}
use Rattle.gil_lexer.proofs.NumberLemmas.{spells_one}
use Rattle.gil_lexer.specs.declared.forms.Form.{Form}
use Rattle.gil_lexer.specs.declared.forms.Form.TheVariants as forms
use Rattle.gil_lexemes.specs.declared.standing.Lexeme.TheVariants as lexemes
use Rattle.std.proofs.lemmas.List.{take_more}
use Rattle.gil_lexer.specs.declared.forms.Token.{Token}
use Rattle.gil_lexemes.specs.declared.standing.Lexeme.{Lexeme}
use Rattle.gil_lexemes.specs.Lexemes.{StandsFor, StandForAll}

stand_more : (bytes : List ℕ) (tokens : List Token) (ls : List Lexeme) (token : Token) (lexeme : Lexeme) → StandForAll bytes tokens ls
    → StandsFor token.form (slice_range bytes token.from token.to) lexeme → StandForAll bytes (tokens ++ token ∷ []) (ls ++ lexeme ∷ [])
stand_more bytes [] [] token lexeme h s = (s, tt)
stand_more bytes (t ∷ tokens) (l ∷ ls) token lexeme h s = (h.0, stand_more bytes tokens ls token lexeme h.1 s)
stand_more bytes [] (l ∷ ls) token lexeme h s = absurd h
stand_more bytes (t ∷ tokens) [] token lexeme h s = absurd h

pub stand_take : (bytes : List ℕ) (tokens : List Token) (i : ℕ) (ls : List Lexeme) (d : Token) (lexeme : Lexeme) → i < length tokens
    → StandForAll bytes (take i tokens) ls → StandsFor (get_or tokens i d).form (slice_range bytes (get_or tokens i d).from (get_or tokens i d).to) lexeme
    → StandForAll bytes (take (i + 1) tokens) (ls ++ lexeme ∷ [])
stand_take bytes tokens i ls d lexeme within h s =
    rw (take_more tokens i d within) (stand_more bytes (take i tokens) ls (get_or tokens i d) lexeme h s)

pub stands_once : (form : Form) (text : List ℕ) (l k : Lexeme) → StandsFor form text l → StandsFor form text k → l ≡ k
stands_once forms.Name text l k h g = h ∙ sym g
stands_once (forms.Word word) text l k h g = h ∙ sym g
stands_once forms.Logical text l k h g = h ∙ sym g
stands_once forms.Procedure text l k h g = let both = sym h.1 ∙ g.1 in h.2 ∙ ap lexemes.Procedure (let same : h.0 ≡ g.0 = cc both in same) ∙ sym g.2
stands_once forms.Number text l k h g = h.2 ∙ ap lexemes.Number (spells_one text h.0 g.0 h.1 g.1) ∙ sym g.2
stands_once forms.Text text l k h g = h.2 ∙ ap lexemes.Literal (literal_once text h.0 g.0 h.1 g.1) ∙ sym g.2
stands_once (forms.Sign sign) text l k h g = h ∙ sym g

-- tokens stand for one list of lexemes
pub stand_once : (bytes : List ℕ) (tokens : List Token) (ls ks : List Lexeme) → StandForAll bytes tokens ls → StandForAll bytes tokens ks → ls ≡ ks
stand_once bytes [] [] [] h g = refl
stand_once bytes [] [] (k ∷ ks) h g = absurd g
stand_once bytes [] (l ∷ ls) ks h g = absurd h
stand_once bytes (t ∷ tokens) [] ks h g = absurd h
stand_once bytes (t ∷ tokens) (l ∷ ls) [] h g = absurd g
stand_once bytes (t ∷ tokens) (l ∷ ls) (k ∷ ks) h g =
    let first = stands_once t.form _ l k h.0 g.0 in
    let rest = stand_once bytes tokens ls ks h.1 g.1 in
    rw (first, rest) refl
