-- What is read as declarations and expressions is spelled so, and what is spelled so is read; so one text has one reading.
use Rattle.std.proofs.Common.{◌≡◌, ◌≤◌, ℕ, zero, suc, false, List, [], ◌∷◌, length, Some, refl, sym, ap, ◌∙◌, subst, arith}
use Rattle.gil_lexer.proofs.TextLaws.{one_list}
use Rattle.gil_lexer.specs.Texts.{AreTokensOf}
use Rattle.gil_lexer.specs.declared.forms.Token.{Token}
use Rattle.gil_lexer.specs.declared.signs.Sign.TheVariants as signs
use Rattle.gil_lexer.specs.declared.words.Word.{Word}
use Rattle.gil_lexer.specs.declared.words.Word.TheVariants as words
use Rattle.gil_lexemes.proofs.ReadingLaws.{bind_some, name_takes, sign_takes, word_takes, same_sign-refl, same_word-refl}
use Rattle.gil_lexemes.proofs.StandingLemmas.{stand_once}
use Rattle.gil_lexemes.specs.Lexemes.{StandForAll}
use Rattle.gil_lexemes.specs.Lists.{more_at}
use Rattle.gil_lexemes.specs.Reading.{behind, first_form, name_at, same_sign, sign_at, word_at}
use Rattle.gil_lexemes.specs.declared.standing.Lexeme.{Lexeme}
use Rattle.gil_lexemes.specs.declared.standing.Lexeme.TheVariants as lexemes
use Rattle.gil_grammar.proofs.AssertionLaws.{in_place, word_of_takes}
use Rattle.gil_grammar.proofs.ExpressionLaws.{expr_takes}
use Rattle.gil_grammar.proofs.ListLaws.{Takes, Again, found_is, more_takes, more_again}
use Rattle.gil_grammar.proofs.NestingLaws.{Nested, nested_tail, expression_again}
use Rattle.gil_grammar.specs.Lists.{SpellsEach}
use Rattle.gil_grammar.specs.Nesting.{IsNested, most_open}
use Rattle.gil_grammar.specs.Reading.Assertions.{expression_at}
use Rattle.gil_grammar.specs.Reading.Vocabulary.{word_of}
use Rattle.gil_grammar.specs.Texts.{byte_before}
use Rattle.gil_grammar.specs.Vocabulary.{semicolon}
use Rattle.gil_grammar.specs.declared.positions.Position.TheVariants.{Command}
use Rattle.pure_terms.specs.declared.variables.Sort.{Sort}
use Rattle.pure_terms.specs.declared.variables.Sort.TheVariants as sorts
use Rattle.atom_text.specs.declared.sources.Declaration.{Declaration}
use Rattle.atom_text.specs.Grammar.{sort_word, SpellsDeclaration, SpellsDeclarations, SpellsStated, SpellsSource, Spell}
use Rattle.atom_text.specs.Reading.{sort_of_word, declaration_at, declarations_at, stated_at, all_at, source_at}
use Rattle.atom_text.specs.Sources.{PureStated, PureSource}

-- ---- sorts

sort_takes : (word : Word) (sort : Sort) → sort_of_word word ≡ Some sort → sort_word sort ≡ Some word
sort_takes words.Int sort e = rw (sym (found_is _ sort e)) refl
sort_takes words.Bool sort e = rw (sym (found_is _ sort e)) refl
sort_takes words.Str sort e = rw (sym (found_is _ sort e)) refl
sort_takes words.Sym sort e = rw (sym (found_is _ sort e)) refl
sort_takes words.Any sort e = rw (sym (found_is _ sort e)) refl
sort_takes _ sort e = absurd cc

sort_again : (sort : Sort) (word : Word) → sort_word sort ≡ Some word → sort_of_word word ≡ Some sort
sort_again sorts.Int word e = rw (sym (found_is _ word e)) refl
sort_again sorts.Bool word e = rw (sym (found_is _ word e)) refl
sort_again sorts.Str word e = rw (sym (found_is _ word e)) refl
sort_again sorts.Sym word e = rw (sym (found_is _ word e)) refl
sort_again sorts.Any word e = rw (sym (found_is _ word e)) refl
sort_again _ word e = absurd cc

-- ---- what is read is spelled

declaration_takes : (tokens : List Token) → Takes (SpellsDeclaration tokens) (declaration_at tokens)
unfolding declaration_at
declaration_takes tokens ls found e =
    let x = bind_some (name_at ls) _ found e in
    let sorted = bind_some (sign_at signs.Colon x.0.1) _ found x.2 in
    let word = bind_some (word_of (first_form sorted.0)) _ found sorted.2 in
    let sort = bind_some (sort_of_word word.0) _ found word.2 in
    let begins : ls ≡ lexemes.Name x.0.0 ∷ x.0.1 = name_takes ls x.0 x.1 in
    let colon : x.0.1 ≡ lexemes.Sign signs.Colon ∷ sorted.0 = sign_takes signs.Colon x.0.1 sorted.0 sorted.1 in
    let worded : sorted.0 ≡ lexemes.Word word.0 ∷ behind sorted.0 = word_of_takes sorted.0 word.0 word.1 in
    let whole : ls ≡ lexemes.Name x.0.0 ∷ lexemes.Sign signs.Colon ∷ lexemes.Word word.0 ∷ behind sorted.0 =
    begins ∙ ap (λ r. lexemes.Name x.0.0 ∷ r) (colon ∙ ap (λ r. lexemes.Sign signs.Colon ∷ r) worded) in
    in_place (SpellsDeclaration tokens) ls _ _ found sort.2 (word.0, sort_takes word.0 sort.0 sort.1, whole, refl)

declarations_take : (tokens : List Token) → Takes (SpellsDeclarations tokens) (declarations_at tokens)
unfolding declarations_at
declarations_take tokens ls found e =
    let d = bind_some (declaration_at tokens ls) _ found e in
    let ds = bind_some (more_at (declaration_at tokens) (length d.0.1) signs.Comma d.0.1) _ found d.2 in
    in_place (SpellsDeclarations tokens) ls (d.0.0 ∷ ds.0.0) ds.0.1 found ds.2
    (d.0.1, declaration_takes tokens ls d.0 d.1, more_takes (SpellsDeclaration tokens) (declaration_at tokens) (declaration_takes tokens) (length d.0.1) signs.Comma d.0.1 ds.0 ds.1)

stated_takes : (tokens : List Token) → Takes (SpellsStated tokens) (stated_at tokens)
unfolding stated_at
stated_takes tokens ls found e =
    let x = bind_some (expression_at Command ls) _ found e in
    let rest = bind_some (sign_at signs.Semicolon x.0.1) _ found x.2 in
    let ends : x.0.1 ≡ semicolon ∷ rest.0 = sign_takes signs.Semicolon x.0.1 rest.0 rest.1 in
    in_place (SpellsStated tokens) ls _ _ found rest.2 (rw (sym ends) (expr_takes most_open Command ls x.0 x.1), refl)

all_take : (tokens : List Token) (n : ℕ) (ls : List Lexeme) (stated : List PureStated) → all_at (stated_at tokens) n ls ≡ Some stated → SpellsEach (SpellsStated tokens) stated ls []
unfolding all_at
all_take tokens zero [] stated e = subst (λ ss. SpellsEach (SpellsStated tokens) ss [] []) (found_is [] stated e) refl
all_take tokens (suc n) [] stated e = subst (λ ss. SpellsEach (SpellsStated tokens) ss [] []) (found_is [] stated e) refl
all_take tokens zero (l ∷ ls) stated e = absurd cc
all_take tokens (suc n) (l ∷ ls) stated e =
    let x = bind_some (stated_at tokens (l ∷ ls)) _ stated e in
    let others = bind_some (all_at (stated_at tokens) n x.0.1) _ stated x.2 in
    subst (λ ss. SpellsEach (SpellsStated tokens) ss (l ∷ ls) []) (found_is _ stated others.2)
    (x.0.1, stated_takes tokens (l ∷ ls) x.0 x.1, all_take tokens n x.0.1 others.0 others.1)

pub source_takes : (tokens : List Token) (ls : List Lexeme) (source : PureSource) → source_at tokens ls ≡ Some source → SpellsSource tokens source ls
unfolding source_at
source_takes tokens ls source e =
    let inner = bind_some (word_at words.Vars ls) _ source e in
    let ds = bind_some (declarations_at tokens inner.0) _ source inner.2 in
    let after = bind_some (sign_at signs.Semicolon ds.0.1) _ source ds.2 in
    let stated = bind_some (all_at (stated_at tokens) (length after.0) after.0) _ source after.2 in
    let ends : ds.0.1 ≡ semicolon ∷ after.0 = sign_takes signs.Semicolon ds.0.1 after.0 after.1 in
    subst (λ s. SpellsSource tokens s ls) (found_is _ source stated.2)
    (inner.0, after.0, word_takes words.Vars ls inner.0 inner.1, rw (sym ends) (declarations_take tokens inner.0 ds.0 ds.1), all_take tokens (length after.0) after.0 stated.0 stated.1)

-- ---- what is spelled is read

declaration_again : (tokens : List Token) → Again Nested (SpellsDeclaration tokens) (declaration_at tokens)
unfolding declaration_at
declaration_again tokens d ls rest p (word, sort, is, at) = record {
  is = rw (is, same_sign-refl signs.Colon, sort_again d.sort word sort) (ap (λ k. Some (record { name = d.name; sort = d.sort; at = k }, rest)) (sym (at ∙ ap (λ l. byte_before tokens (length l)) is)));
  under = nested_tail _ rest (nested_tail _ _ (nested_tail _ _ (subst Nested is p)));
  shorter = omega (arith, ap length is);
}

semicolon_is_no_comma : same_sign signs.Semicolon signs.Comma ≡ false
unfolding same_sign
semicolon_is_no_comma = refl

-- declarations behind which a `;` follows
declarations_again : (tokens : List Token) (ds : List Declaration) (ls after : List Lexeme) → Nested ls → SpellsDeclarations tokens ds ls (semicolon ∷ after)
    → (declarations_at tokens ls ≡ Some (ds, semicolon ∷ after)) × Nested (semicolon ∷ after)
unfolding declarations_at
declarations_again tokens [] ls after p h = absurd h
declarations_again tokens (d ∷ ds) ls after p (between, one, more) =
    let first = declaration_again tokens d ls between p one in
    let others = more_again Nested nested_tail (SpellsDeclaration tokens) (declaration_at tokens) (declaration_again tokens) (length between) signs.Comma ds between (semicolon ∷ after) (omega arith) first.under more semicolon_is_no_comma in
    (rw (first.is, others.is) refl, others.under)

stated_again : (tokens : List Token) → Again Nested (SpellsStated tokens) (stated_at tokens)
unfolding stated_at
stated_again tokens s ls rest p (spells, at) =
    let e = expression_again Command s.expression ls (semicolon ∷ rest) p spells in
    record {
      is = rw (e.is, same_sign-refl signs.Semicolon) (ap (λ k. Some (record { expression = s.expression; at = k }, rest)) (sym at));
      under = nested_tail _ rest e.under;
      shorter = omega (arith, e.shorter);
    }

some_left : (l : Lexeme) (ls : List Lexeme) → length (l ∷ ls) ≤ 0 → ⊥
some_left l ls h = omega arith

all_again : (tokens : List Token) (stated : List PureStated) (n : ℕ) (ls : List Lexeme) → length ls ≤ n → Nested ls → SpellsEach (SpellsStated tokens) stated ls []
    → all_at (stated_at tokens) n ls ≡ Some stated
unfolding all_at
all_again tokens [] zero ls within p is = rw is refl
all_again tokens [] (suc n) ls within p is = rw is refl
all_again tokens (s ∷ stated) n [] within p (after, one, more) = absurd (let read = stated_again tokens s [] after p one in omega (arith, read.shorter))
all_again tokens (s ∷ stated) zero (l ∷ ls) within p (after, one, more) = absurd (some_left l ls within)
all_again tokens (s ∷ stated) (suc n) (l ∷ ls) within p (after, one, more) =
    let read = stated_again tokens s (l ∷ ls) after p one in
    let others = all_again tokens stated n after (omega (arith, read.shorter)) read.under more in
    rw (read.is, others) refl

nested_whole : (ls : List Lexeme) → IsNested ls → Nested ls
nested_whole ls h = record { count = 0; nested = h }

pub source_again : (tokens : List Token) (ls : List Lexeme) (source : PureSource) → IsNested ls → SpellsSource tokens source ls → source_at tokens ls ≡ Some source
unfolding source_at
source_again tokens ls source nested (inner, after, is, declares, states) =
    let p : Nested inner = nested_tail _ inner (subst Nested is (nested_whole ls nested)) in
    let ds = declarations_again tokens source.declarations inner after p declares in
    let stated = all_again tokens source.stated (length after) after (omega arith) (nested_tail _ after ds.1) states in
    rw (is, same_word-refl words.Vars, ds.0, same_sign-refl signs.Semicolon, stated) refl

-- ---- one text has one reading

-- a text that is spelled has that spelling's tokens and lexemes, whatever tokens and lexemes were read of it
pub spelled_as_read : (bytes : List ℕ) (tokens : List Token) (ls : List Lexeme) (source : PureSource) → AreTokensOf tokens bytes → StandForAll bytes tokens ls → Spell bytes source
    → IsNested ls × SpellsSource tokens source ls
spelled_as_read bytes tokens ls source text stand s =
    let same_tokens : s.tokens ≡ tokens = one_list s.tokens tokens bytes s.text text in
    let again : StandForAll bytes tokens s.lexemes = subst (λ ts. StandForAll bytes ts s.lexemes) same_tokens s.stand in
    let same : s.lexemes ≡ ls = stand_once bytes tokens s.lexemes ls again stand in
    let spelled : SpellsSource tokens source s.lexemes = subst (λ ts. SpellsSource ts source s.lexemes) same_tokens s.spelled in
    (subst IsNested same s.nested, subst (SpellsSource tokens source) same spelled)

pub one_reading : (bytes : List ℕ) (source other : PureSource) → Spell bytes source → Spell bytes other → source ≡ other
one_reading bytes source other s t =
    let again = spelled_as_read bytes s.tokens s.lexemes other s.text s.stand t in
    found_is source other (sym (source_again s.tokens s.lexemes source s.nested s.spelled) ∙ source_again s.tokens s.lexemes other s.nested again.1)
