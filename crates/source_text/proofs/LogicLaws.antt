-- What is read as what only proofs look at is spelled so, and what is spelled so is read.
use Rattle.std.proofs.Common.{◌≡◌, true, List, [], ◌∷◌, length, Option, Some, None, refl, sym, ap, ◌∙◌, subst, arith}
use Rattle.gil_lexer.specs.declared.words.Word.{Word}
use Rattle.gil_lexer.specs.declared.words.Word.TheVariants as words
use Rattle.gil_lexer.specs.declared.signs.Sign.TheVariants as signs
use Rattle.gil_lexemes.specs.declared.standing.Lexeme.{Lexeme}
use Rattle.gil_lexemes.specs.declared.standing.Lexeme.TheVariants as lexemes
use Rattle.gil_lexemes.specs.Reading.{behind, first_form, same_sign, is_sign, is_word, sign_at}
use Rattle.gil_lexemes.proofs.ReadingLaws.{bind_some, sign_takes, at_word_is, same_word-refl}
use Rattle.gil_syntax.specs.Pure as gil
use Rattle.gil_grammar.specs.Commands.{SpellsCommand}
use Rattle.gil_grammar.specs.Vocabulary.{semicolon}
use Rattle.gil_grammar.specs.Reading.Commands.{command_at, logic_by}
use Rattle.gil_grammar.proofs.AssertionLaws.{in_place}
use Rattle.gil_grammar.proofs.CommandLaws.{logic_takes as command_takes}
use Rattle.gil_grammar.proofs.CommandReads.{command_again}
use Rattle.gil_grammar.proofs.ListLaws.{Takes, Reads, ReadsList, found_is, cond_cases}
use Rattle.gil_grammar.proofs.NestingLaws.{Nested, nested_tail}
use Rattle.source_language.specs.Compiled.{logic_command}
use Rattle.source_language.specs.Pure.{PureLogic, fold_use, unfold_use, assert_that, invariant_by_itself, PureInvariant}
use Rattle.source_text.specs.Logic.{SpellsLogic, SpellsInvariant, logic_of, logic_at, invariant_of, one_invariant_at, invariant_at}

-- ---- what is read is spelled

invariant_is : (c : gil.PureCommand) (i : PureInvariant) → invariant_of c ≡ Some i → c ≡ gil.loop_invariant i.names i.logicals i.items
invariant_is (gil.loop_invariant xs ps items) i e = let same = found_is _ i e in ap (λ (j : PureInvariant). gil.loop_invariant j.names j.logicals j.items) same
invariant_is _ i e = absurd cc

logic_is : (c : gil.PureCommand) (l : PureLogic) → logic_of c ≡ Some l → c ≡ logic_command l
logic_is (gil.fold_use u) l e = ap logic_command (found_is _ l e)
logic_is (gil.unfold_use u) l e = ap logic_command (found_is _ l e)
logic_is (gil.assert_that items) l e = ap logic_command (found_is _ l e)
logic_is (gil.loop_invariant xs ps items) l e = ap logic_command (found_is _ l e)
logic_is _ l e = absurd cc

one_invariant_takes : (ls : List Lexeme) (found : Option PureInvariant × List Lexeme) → one_invariant_at (lexemes.Word words.Invariant ∷ ls) ≡ Some found
    → SpellsInvariant found.0 (lexemes.Word words.Invariant ∷ ls) found.1
unfolding one_invariant_at
one_invariant_takes ls found e =
    let c = bind_some (logic_by words.Invariant (lexemes.Word words.Invariant ∷ ls)) _ found e in
    let i = bind_some (invariant_of c.0.0) _ found c.2 in
    in_place SpellsInvariant _ (Some i.0) c.0.1 found i.2
    (subst (λ (d : gil.PureCommand). SpellsCommand d (lexemes.Word words.Invariant ∷ ls) c.0.1) (invariant_is c.0.0 i.0 i.1) (command_takes words.Invariant ls c.0 c.1))

pub invariant_takes : Takes SpellsInvariant invariant_at
unfolding invariant_at
invariant_takes ls found e =
    cond_cases (is_word words.Invariant (first_form ls)) _ _ found e
    (λ test one.
    let is = at_word_is words.Invariant ls test in
    subst (λ (l : List Lexeme). SpellsInvariant found.0 l found.1) (sym is)
    (one_invariant_takes (behind ls) found (subst (λ (l : List Lexeme). one_invariant_at l ≡ Some found) is one)))
    (λ test none. in_place SpellsInvariant ls None ls found none refl)

-- behind the word
pub logic_takes : (word : Word) (ls : List Lexeme) (found : PureLogic × List Lexeme) → logic_at word (lexemes.Word word ∷ ls) ≡ Some found
    → SpellsLogic found.0 (lexemes.Word word ∷ ls) found.1
unfolding logic_at
logic_takes word ls found e =
    let c = bind_some (logic_by word (lexemes.Word word ∷ ls)) _ found e in
    let l = bind_some (logic_of c.0.0) _ found c.2 in
    let r = bind_some (sign_at signs.Semicolon c.0.1) _ found l.2 in
    let says : SpellsCommand (logic_command l.0) (lexemes.Word word ∷ ls) c.0.1 =
    subst (λ (d : gil.PureCommand). SpellsCommand d (lexemes.Word word ∷ ls) c.0.1) (logic_is c.0.0 l.0 l.1) (command_takes word ls c.0 c.1) in
    in_place SpellsLogic _ l.0 r.0 found r.2 (subst (SpellsCommand (logic_command l.0) (lexemes.Word word ∷ ls)) (sign_takes signs.Semicolon c.0.1 r.0 r.1) says)

-- ---- what is spelled is read

-- the word with which it begins
abbrev pub logic_word : PureLogic → Word
logic_word (fold_use u) = words.Fold
logic_word (unfold_use u) = words.Unfold
logic_word (assert_that items) = words.Assert
logic_word (invariant_by_itself i) = words.Invariant

pub logic_again : (c : PureLogic) (ls rest : List Lexeme) → Nested ls → SpellsLogic c ls rest → Reads Nested (logic_at (logic_word c)) c ls rest
unfolding logic_at command_at same_sign
logic_again (fold_use u) ls rest p (inner, is, h) =
    let read = command_again (gil.fold_use u) ls _ p (inner, is, h) tt in
    let read_is = subst (λ (l : List Lexeme). command_at l ≡ Some (gil.fold_use u, semicolon ∷ rest)) is read.is in
    record { is = rw (is, read_is) refl; under = nested_tail _ rest read.under; shorter = omega (arith, read.shorter) }
logic_again (unfold_use u) ls rest p (inner, is, h) =
    let read = command_again (gil.unfold_use u) ls _ p (inner, is, h) tt in
    let read_is = subst (λ (l : List Lexeme). command_at l ≡ Some (gil.unfold_use u, semicolon ∷ rest)) is read.is in
    record { is = rw (is, read_is) refl; under = nested_tail _ rest read.under; shorter = omega (arith, read.shorter) }
logic_again (assert_that items) ls rest p (block, is, (inner, braced, h)) =
    let read = command_again (gil.assert_that items) ls _ p (block, is, (inner, braced, h)) tt in
    let whole = is ∙ ap (λ (l : List Lexeme). lexemes.Word words.Assert ∷ l) braced in
    let read_is = subst (λ (l : List Lexeme). command_at l ≡ Some (gil.assert_that items, semicolon ∷ rest)) whole read.is in
    record { is = rw (whole, read_is) refl; under = nested_tail _ rest read.under; shorter = omega (arith, read.shorter) }
logic_again (invariant_by_itself i) ls rest p (names, variables, block, is, a, b, d) =
    let c = gil.loop_invariant i.names i.logicals i.items in
    let read = command_again c ls _ p (names, variables, block, is, a, b, d) tt in
    let read_is = subst (λ (l : List Lexeme). command_at l ≡ Some (c, semicolon ∷ rest)) is read.is in
    record { is = rw (is, read_is) refl; under = nested_tail _ rest read.under; shorter = omega (arith, read.shorter) }

-- before an opening brace
pub invariant_again : (i : Option PureInvariant) (ls rest : List Lexeme) → Nested ls → SpellsInvariant i ls rest → is_sign signs.LeftBrace (first_form rest) ≡ true
    → ReadsList Nested invariant_at i ls rest
unfolding invariant_at one_invariant_at command_at
invariant_again None ls [] p is braced = absurd (cc braced)
invariant_again None ls (lexemes.Sign s ∷ rest) p is braced = record { is = rw is refl; under = subst Nested is p; shorter = omega (arith, ap length is) }
invariant_again None ls (lexemes.Name x ∷ rest) p is braced = absurd (cc braced)
invariant_again None ls (lexemes.Word w ∷ rest) p is braced = absurd (cc braced)
invariant_again None ls (lexemes.Logical x ∷ rest) p is braced = absurd (cc braced)
invariant_again None ls (lexemes.Procedure x ∷ rest) p is braced = absurd (cc braced)
invariant_again None ls (lexemes.Number n ∷ rest) p is braced = absurd (cc braced)
invariant_again None ls (lexemes.Literal x ∷ rest) p is braced = absurd (cc braced)
invariant_again (Some i) ls rest p (names, variables, block, is, a, b, d) braced =
    let c = gil.loop_invariant i.names i.logicals i.items in
    let read = command_again c ls rest p (names, variables, block, is, a, b, d) tt in
    let read_is = subst (λ (l : List Lexeme). command_at l ≡ Some (c, rest)) is read.is in
    record { is = rw (is, same_word-refl words.Invariant, read_is) refl; under = read.under; shorter = omega (arith, read.shorter) }
