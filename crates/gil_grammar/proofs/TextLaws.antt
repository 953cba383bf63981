-- What is read as a text's items is spelled so, and what is spelled so is read; so one text has one reading.
use Rattle.std.proofs.Common.{◌≡◌, ◌≤◌, max, ℕ, zero, suc, true, false, List, [], ◌∷◌, length, Some, refl, sym, ap, ◌∙◌, subst, arith}
use Rattle.gil_lexer.specs.declared.forms.Token.{Token}
use Rattle.gil_lexer.specs.declared.words.Word.TheVariants as words
use Rattle.gil_lexer.specs.Texts.{AreTokensOf}
use Rattle.gil_lexer.proofs.TextLaws.{one_list}
use Rattle.gil_lexemes.specs.declared.standing.Lexeme.{Lexeme}
use Rattle.gil_lexemes.specs.declared.standing.Lexeme.TheVariants as lexemes
use Rattle.gil_lexemes.specs.Lexemes.{StandForAll}
use Rattle.gil_lexemes.specs.Reading.{◌>>=◌, behind, first_form, is_word}
use Rattle.gil_lexemes.proofs.ReadingLaws.{bind_some, if_some, at_word_is, same_word-refl}
use Rattle.gil_lexemes.proofs.StandingLemmas.{stand_once}
use Rattle.gil_syntax.specs.Pure.{PureExpr, PureProc, PureParts}
use Rattle.gil_syntax.specs.Valid.{ProgramItem, a_proc, a_spec, a_pred}
use Rattle.gil_grammar.specs.declared.positions.Opening.TheVariants.{Brace, Throw}
use Rattle.gil_grammar.specs.declared.positions.Position.{Position}
use Rattle.gil_grammar.specs.Expressions.{SpellsExpr}
use Rattle.gil_grammar.specs.Nesting.{IsNested}
use Rattle.gil_grammar.specs.Programs.{SpellsProgramItem}
use Rattle.gil_grammar.specs.Texts.{PlacedItem, SpellsItems, BeginsWithProc, Spell, parts_of, SpellProgram}
use Rattle.gil_grammar.specs.Reading.Programs.{proc_at, item_at}
use Rattle.gil_grammar.specs.Reading.Texts.{items_at, program_at}
use Rattle.gil_grammar.proofs.ListLaws.{found_is}
use Rattle.gil_grammar.proofs.ExpressionLaws.{depth, expr_again}
use Rattle.gil_grammar.proofs.NestingLaws.{Nested}
use Rattle.gil_grammar.proofs.BlockLaws.{NoPost}
use Rattle.gil_grammar.proofs.ProgramLaws.{item_takes, item_again, item_never}

-- ---- items

pub items_take : (tokens : List Token) (n : ℕ) (ls : List Lexeme) (items : List PlacedItem) → items_at tokens n ls ≡ Some items → SpellsItems tokens items ls
unfolding items_at
items_take tokens zero [] items e = subst (λ is. SpellsItems tokens is []) (found_is [] items e) refl
items_take tokens (suc n) [] items e = subst (λ is. SpellsItems tokens is []) (found_is [] items e) refl
items_take tokens zero (l ∷ ls) items e = absurd cc
items_take tokens (suc n) (l ∷ ls) items e =
    let x = bind_some (item_at (l ∷ ls)) _ items e in
    let others = bind_some (items_at tokens n x.0.1) _ items x.2 in
    subst (λ is. SpellsItems tokens is (l ∷ ls)) (found_is _ items others.2)
    (x.0.1, item_takes (l ∷ ls) x.0 x.1, refl, items_take tokens n x.0.1 others.0 others.1)

no_lexeme_never : NoPost []
no_lexeme_never Brace = refl
no_lexeme_never Throw = refl

items_never : (tokens : List Token) (items : List PlacedItem) (ls : List Lexeme) → SpellsItems tokens items ls → NoPost ls
items_never tokens [] ls is = subst NoPost (sym is) no_lexeme_never
items_never tokens (i ∷ items) ls (after, one, at, more) = item_never i.item ls after one

some_left : (l : Lexeme) (ls : List Lexeme) → length (l ∷ ls) ≤ 0 → ⊥
some_left l ls h = omega arith

pub items_again : (tokens : List Token) (items : List PlacedItem) (n : ℕ) (ls : List Lexeme) → length ls ≤ n → Nested ls → SpellsItems tokens items ls → items_at tokens n ls ≡ Some items
unfolding items_at
items_again tokens [] zero ls within p is = rw is refl
items_again tokens [] (suc n) ls within p is = rw is refl
items_again tokens (i ∷ items) n [] within p (after, one, at, more) =
    absurd (let read = item_again i.item [] after p one (items_never tokens items after more) in omega (arith, read.shorter))
items_again tokens (i ∷ items) zero (l ∷ ls) within p (after, one, at, more) = absurd (some_left l ls within)
items_again tokens (i ∷ items) (suc n) (l ∷ ls) within p (after, one, at, more) =
    let read = item_again i.item (l ∷ ls) after p one (items_never tokens items after more) in
    let others = items_again tokens items n after (omega (arith, read.shorter)) read.under more in
    rw (read.is, others) (ap (λ k. Some (record { item = i.item; at = k } ∷ items)) (sym at))

-- ---- programs

-- an item behind the word `proc` is a procedure
proc_first : (tokens : List Token) (n : ℕ) (ls : List Lexeme) (items : List PlacedItem) → items_at tokens n (lexemes.Word words.Proc ∷ ls) ≡ Some items → BeginsWithProc items
unfolding items_at item_at
proc_first tokens zero ls items e = absurd cc
proc_first tokens (suc n) ls items e =
    let x = bind_some (proc_at ls >>= λ q. Some (a_proc q.0, q.1)) _ items e in
    let q = bind_some (proc_at ls) _ x.0 x.1 in
    let others = bind_some (items_at tokens n x.0.1) _ items x.2 in
    subst BeginsWithProc (found_is _ items others.2) (q.0.0, ap (λ (p : ProgramItem × List Lexeme). p.0) (sym (found_is _ x.0 q.2)))

pub program_takes : (tokens : List Token) (ls : List Lexeme) (items : List PlacedItem) → program_at tokens ls ≡ Some items → SpellsItems tokens items ls × BeginsWithProc items
unfolding program_at
program_takes tokens ls items e =
    let read = if_some (is_word words.Proc (first_form ls)) _ items e in
    let is = at_word_is words.Proc ls read.0 in
    let again : items_at tokens (length ls) (lexemes.Word words.Proc ∷ behind ls) ≡ Some items = subst (λ (l : List Lexeme). items_at tokens (length ls) l ≡ Some items) is read.1 in
    (items_take tokens (length ls) ls items read.1, proc_first tokens (length ls) (behind ls) items again)

is_at_proc : (item : ProgramItem) (q : PureProc) (ls rest : List Lexeme) → item ≡ a_proc q → SpellsProgramItem item ls rest → is_word words.Proc (first_form ls) ≡ true
is_at_proc (a_proc r) q ls rest is h = rw (h.2) (same_word-refl words.Proc)
is_at_proc (a_spec s) q ls rest is h = absurd (cc is)
is_at_proc (a_pred d) q ls rest is h = absurd (cc is)

pub program_again : (tokens : List Token) (ls : List Lexeme) (items : List PlacedItem) → Nested ls → SpellsItems tokens items ls → BeginsWithProc items → program_at tokens ls ≡ Some items
unfolding program_at
program_again tokens ls [] p h first = absurd first
program_again tokens ls (i ∷ items) p h first =
    rw (is_at_proc i.item first.0 ls _ first.1 h.1) (items_again tokens (i ∷ items) (length ls) ls (omega arith) p h)

-- ---- one text has one reading

pub nested_whole : (ls : List Lexeme) → IsNested ls → Nested ls
nested_whole ls h = record { count = 0; nested = h }

-- a text that is spelled has that spelling's tokens and lexemes, whatever tokens and lexemes were read of it
pub spelled_as_read : (bytes : List ℕ) (tokens : List Token) (ls : List Lexeme) (items : List PlacedItem) → AreTokensOf tokens bytes → StandForAll bytes tokens ls → Spell bytes items
    → IsNested ls × SpellsItems tokens items ls × BeginsWithProc items
spelled_as_read bytes tokens ls items text stand s =
    let same_tokens : s.tokens ≡ tokens = one_list s.tokens tokens bytes s.text text in
    let stand' : StandForAll bytes tokens s.lexemes = subst (λ ts. StandForAll bytes ts s.lexemes) same_tokens s.stand in
    let same : s.lexemes ≡ ls = stand_once bytes tokens s.lexemes ls stand' stand in
    let spelled : SpellsItems tokens items s.lexemes = subst (λ ts. SpellsItems ts items s.lexemes) same_tokens s.spelled in
    (subst IsNested same s.nested, subst (SpellsItems tokens items) same spelled, s.first)

pub one_reading : (bytes : List ℕ) (items others : List PlacedItem) → Spell bytes items → Spell bytes others → items ≡ others
one_reading bytes items others s t =
    let again = spelled_as_read bytes s.tokens s.lexemes others s.text s.stand t in
    let p = nested_whole s.lexemes s.nested in
    found_is items others
    (sym (program_again s.tokens s.lexemes items p s.spelled s.first) ∙ program_again s.tokens s.lexemes others p again.1 again.2)

pub one_program : (bytes : List ℕ) (program other : PureParts) → SpellProgram bytes program → SpellProgram bytes other → program ≡ other
one_program bytes program other (items, s, is) (others, t, are) = sym is ∙ ap parts_of (one_reading bytes items others s t) ∙ are

-- no expression's lexemes begin another's
pub one_expression : (position : Position) (d e : PureExpr) (from rest left : List Lexeme) → SpellsExpr position d from rest → SpellsExpr position e from left → (d ≡ e) × (rest ≡ left)
one_expression position d e from rest left h k =
    let n = max (depth d) (depth e) in
    let a = expr_again n position d from rest (omega arith, h) in
    let b = expr_again n position e from left (omega arith, k) in
    let both : ◌≡◌ {A = PureExpr × List Lexeme} (d, rest) (e, left) = found_is (d, rest) (e, left) (sym a ∙ b) in
    (ap (λ (p : PureExpr × List Lexeme). p.0) both, ap (λ (p : PureExpr × List Lexeme). p.1) both)
