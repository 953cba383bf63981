-- What is read as a text's items is spelled so, and what is spelled so is read; so one text has one reading.
use Rattle.std.proofs.Common.{◌≡◌, ◌≤◌, ℕ, zero, suc, true, false, cond, List, [], ◌∷◌, length, Some, refl, sym, ap, ◌∙◌, subst, arith}
use Rattle.gil_lexer.specs.declared.forms.Token.{Token}
use Rattle.gil_lexer.specs.declared.words.Word.{Word}
use Rattle.gil_lexer.specs.declared.words.Word.TheVariants as words
use Rattle.gil_lexer.specs.Texts.{AreTokensOf}
use Rattle.gil_lexer.proofs.TextLaws.{one_list}
use Rattle.gil_lexemes.specs.declared.standing.Lexeme.{Lexeme}
use Rattle.gil_lexemes.specs.declared.standing.Lexeme.TheVariants as lexemes
use Rattle.gil_lexemes.specs.Lexemes.{StandForAll}
use Rattle.gil_lexemes.specs.Reading.{Reading, behind, first_form, same_word, is_word}
use Rattle.gil_lexemes.proofs.ReadingLaws.{bind_some, if_some, at_word_is, same_word-refl}
use Rattle.gil_lexemes.proofs.StandingLemmas.{stand_once}
use Rattle.gil_syntax.specs.Pure.{PureSpec, PurePredDef}
use Rattle.gil_grammar.specs.declared.positions.Extent.TheVariants.{Whole}
use Rattle.gil_grammar.specs.declared.positions.Opening.TheVariants.{Brace, Throw}
use Rattle.gil_grammar.specs.Nesting.{IsNested}
use Rattle.gil_grammar.specs.Reading.Programs.{spec_at, pred_at}
use Rattle.gil_grammar.specs.Programs.{SpellsSpec, SpellsPred}
use Rattle.gil_grammar.specs.Texts.{byte_before}
use Rattle.gil_grammar.proofs.AssertionLaws.{in_place}
use Rattle.gil_grammar.proofs.ListLaws.{Takes, Reads, found_is, cond_cases}
use Rattle.gil_grammar.proofs.NestingLaws.{Nested}
use Rattle.gil_grammar.proofs.BlockLaws.{NoPost}
use Rattle.gil_grammar.proofs.ProgramLaws.{spec_takes, pred_takes, spec_again, pred_again}
use Rattle.source_text.specs.Grammar.{HasReading}
use Rattle.source_text.specs.Reading.{a_function_at, logical_by, logical_item_at, item_at, items_at, source_at}
use Rattle.source_text.specs.Texts.{SourceItem, a_function, a_spec, a_pred, SpellsSourceItem, PlacedItem, SpellsItems, BeginsWithFunction, SpellItems}
use Rattle.source_text.specs.Vocabulary.{are_source_lexemes}
use Rattle.std.specs.Prelude.{IsTrue}

-- ---- what goes on no specification

word_goes_on_none : (word : Word) → same_word word words.Throw ≡ false → (ls inner : List Lexeme) → ls ≡ lexemes.Word word ∷ inner → NoPost ls
word_goes_on_none word other ls inner is Brace = rw is refl
word_goes_on_none word other ls inner is Throw = rw is other

spec_goes_on_none : (s : PureSpec) (ls rest : List Lexeme) → SpellsSpec s ls rest → NoPost ls
unfolding same_word
spec_goes_on_none s ls rest h = word_goes_on_none words.Spec refl ls _ h.4

pred_goes_on_none : (d : PurePredDef) (ls rest : List Lexeme) → SpellsPred d ls rest → NoPost ls
unfolding same_word
pred_goes_on_none d ls rest h = word_goes_on_none words.Pred refl ls _ h.6

no_lexeme_never : NoPost []
no_lexeme_never Brace = refl
no_lexeme_never Throw = refl

pub nested_whole : (ls : List Lexeme) → IsNested ls → Nested ls
nested_whole ls h = record { count = 0; nested = h }

module _ {F : Type 0} (first : Word) (spells : (ℕ → ℕ) → F → List Lexeme → List Lexeme → Type 0)
    (function_at : (ℕ → ℕ) → List Lexeme → Reading F) (reading : HasReading first spells function_at) where
  module _ (place : ℕ → ℕ) where
    abbrev Spells : SourceItem F → List Lexeme → List Lexeme → Type 0
    Spells = SpellsSourceItem spells place

    -- ---- one item

    logical_by_takes : (word : Word) (ls : List Lexeme) (found : SourceItem F × List Lexeme) → logical_by word (lexemes.Word word ∷ ls) ≡ Some found
        → Spells found.0 (lexemes.Word word ∷ ls) found.1
    logical_by_takes words.Spec ls found e =
        let s = bind_some (spec_at Whole ls) _ found e in
        in_place Spells _ (a_spec s.0.0) s.0.1 found s.2 (spec_takes Whole ls s.0 s.1)
    logical_by_takes words.Pred ls found e =
        let d = bind_some (pred_at Whole ls) _ found e in
        in_place Spells _ (a_pred d.0.0) d.0.1 found d.2 (pred_takes Whole ls d.0 d.1)
    logical_by_takes _ ls found e = absurd cc

    logical_takes : (ls : List Lexeme) (found : SourceItem F × List Lexeme) → logical_item_at ls ≡ Some found → Spells found.0 ls found.1
    unfolding logical_item_at
    logical_takes (lexemes.Word word ∷ ls) found e = logical_by_takes word ls found e
    logical_takes _ found e = absurd cc

    item_takes : Takes Spells (item_at first function_at place)
    unfolding item_at
    item_takes ls found e =
        cond_cases (is_word first (first_form ls)) _ _ found e
        (λ test is_function.
        let f = bind_some (function_at place ls) _ found is_function in
        in_place Spells ls (a_function f.0.0) f.0.1 found f.2 (reading.takes place ls f.0 test f.1))
        (λ test other. logical_takes ls found other)

    -- an item behind which no postcondition follows
    item_again : (item : SourceItem F) (ls rest : List Lexeme) → Nested ls → Spells item ls rest → NoPost rest
        → Reads Nested (item_at first function_at place) item ls rest
    unfolding item_at logical_item_at
    item_again (a_function f) ls rest p h ends =
        let read = reading.again place f ls rest p.count p.nested h in
        record {
          is = rw (reading.begins place f ls rest h, read.0) refl;
          under = record { count = read.1.0; nested = read.1.1 };
          shorter = read.2;
        }
    item_again (a_spec s) ls rest p h ends =
        let read = spec_again Whole s ls rest p h ends in
        record { is = rw (read.1, reading.no_spec, read.2.is) refl; under = read.2.under; shorter = omega (arith, ap length (read.1), read.2.shorter) }
    item_again (a_pred d) ls rest p h ends =
        let read = pred_again Whole d ls rest p h (ends Brace) in
        record { is = rw (read.1, reading.no_pred, read.2.is) refl; under = read.2.under; shorter = omega (arith, ap length (read.1), read.2.shorter) }

    -- an item goes on no specification
    item_never : (item : SourceItem F) (ls rest : List Lexeme) → Spells item ls rest → NoPost ls
    item_never (a_function f) ls rest h = word_goes_on_none first reading.no_throw ls (behind ls) (at_word_is first ls (reading.begins place f ls rest h))
    item_never (a_spec s) ls rest h = spec_goes_on_none s ls rest h
    item_never (a_pred d) ls rest h = pred_goes_on_none d ls rest h

    -- ---- items

    pub items_take : (n : ℕ) (ls : List Lexeme) (items : List (PlacedItem F)) → items_at first function_at place n ls ≡ Some items → SpellsItems spells place items ls
    unfolding items_at
    items_take zero [] items e = subst (λ is. SpellsItems spells place is []) (found_is [] items e) refl
    items_take (suc n) [] items e = subst (λ is. SpellsItems spells place is []) (found_is [] items e) refl
    items_take zero (l ∷ ls) items e = absurd cc
    items_take (suc n) (l ∷ ls) items e =
        let x = bind_some (item_at first function_at place (l ∷ ls)) _ items e in
        let others = bind_some (items_at first function_at place n x.0.1) _ items x.2 in
        subst (λ is. SpellsItems spells place is (l ∷ ls)) (found_is _ items others.2)
        (x.0.1, item_takes (l ∷ ls) x.0 x.1, refl, items_take n x.0.1 others.0 others.1)

    items_never : (items : List (PlacedItem F)) (ls : List Lexeme) → SpellsItems spells place items ls → NoPost ls
    items_never [] ls is = subst NoPost (sym is) no_lexeme_never
    items_never (i ∷ items) ls (after, one, at, more) = item_never i.item ls after one

    some_left : (l : Lexeme) (ls : List Lexeme) → length (l ∷ ls) ≤ 0 → ⊥
    some_left l ls h = omega arith

    pub items_again : (items : List (PlacedItem F)) (n : ℕ) (ls : List Lexeme) → length ls ≤ n → Nested ls → SpellsItems spells place items ls → items_at first function_at place n ls ≡ Some items
    unfolding items_at
    items_again [] zero ls within p is = rw is refl
    items_again [] (suc n) ls within p is = rw is refl
    items_again (i ∷ items) n [] within p (after, one, at, more) =
        absurd (let read = item_again i.item [] after p one (items_never items after more) in omega (arith, read.shorter))
    items_again (i ∷ items) zero (l ∷ ls) within p (after, one, at, more) = absurd (some_left l ls within)
    items_again (i ∷ items) (suc n) (l ∷ ls) within p (after, one, at, more) =
        let read = item_again i.item (l ∷ ls) after p one (items_never items after more) in
        let others = items_again items n after (omega (arith, read.shorter)) read.under more in
        rw (read.is, others) (ap (λ k. Some (record { item = i.item; at = k } ∷ items)) (sym at))

    -- ---- texts

    function_found : (ls : List Lexeme) → item_at first function_at place (lexemes.Word first ∷ ls) ≡ a_function_at first function_at place (lexemes.Word first ∷ ls)
    unfolding item_at
    function_found ls = ap (λ b. cond b (a_function_at first function_at place (lexemes.Word first ∷ ls)) (logical_item_at (lexemes.Word first ∷ ls))) (same_word-refl first)

    function_first : (n : ℕ) (ls : List Lexeme) (items : List (PlacedItem F)) → items_at first function_at place n (lexemes.Word first ∷ ls) ≡ Some items → BeginsWithFunction items
    unfolding items_at
    function_first zero ls items e = absurd cc
    function_first (suc n) ls items e =
        let x = bind_some (item_at first function_at place (lexemes.Word first ∷ ls)) _ items e in
        let f = bind_some (function_at place (lexemes.Word first ∷ ls)) _ x.0 (sym (function_found ls) ∙ x.1) in
        let others = bind_some (items_at first function_at place n x.0.1) _ items x.2 in
        subst BeginsWithFunction (found_is _ items others.2) (f.0.0, ap (λ (p : SourceItem F × List Lexeme). p.0) (sym (found_is _ x.0 f.2)))

    pub source_takes : (ls : List Lexeme) (items : List (PlacedItem F)) → source_at first function_at place ls ≡ Some items → SpellsItems spells place items ls × BeginsWithFunction items
    unfolding source_at
    source_takes ls items e =
        let read = if_some (is_word first (first_form ls)) _ items e in
        let is = at_word_is first ls read.0 in
        let again : items_at first function_at place (length ls) (lexemes.Word first ∷ behind ls) ≡ Some items =
        subst (λ (l : List Lexeme). items_at first function_at place (length ls) l ≡ Some items) is read.1 in
        (items_take (length ls) ls items read.1, function_first (length ls) (behind ls) items again)

    is_at_function : (item : SourceItem F) (f : F) (ls rest : List Lexeme) → item ≡ a_function f → Spells item ls rest → is_word first (first_form ls) ≡ true
    is_at_function (a_function g) f ls rest is h = reading.begins place g ls rest h
    is_at_function (a_spec s) f ls rest is h = absurd (cc is)
    is_at_function (a_pred d) f ls rest is h = absurd (cc is)

    pub source_again : (ls : List Lexeme) (items : List (PlacedItem F)) → Nested ls → SpellsItems spells place items ls → BeginsWithFunction items
        → source_at first function_at place ls ≡ Some items
    unfolding source_at
    source_again ls [] p h begins = absurd begins
    source_again ls (i ∷ items) p h begins =
        rw (is_at_function i.item begins.0 ls _ begins.1 h.1) (items_again (i ∷ items) (length ls) ls (omega arith) p h)

-- ---- one text has one reading

module _ {F : Type 0} (is_nested : List Lexeme → Type 0) (spells : (ℕ → ℕ) → F → List Lexeme → List Lexeme → Type 0) where
  -- a text that is spelled has that spelling's tokens and lexemes, whatever tokens and lexemes were read of it
  pub record IsSpelledSo (tokens : List Token) (ls : List Lexeme) (items : List (PlacedItem F)) : Type 0 where
    pub nested : is_nested ls
    pub names : IsTrue (are_source_lexemes ls)
    pub spelled : SpellsItems spells (byte_before tokens) items ls
    pub first : BeginsWithFunction items

  pub spelled_as_read : (bytes : List ℕ) (tokens : List Token) (ls : List Lexeme) (items : List (PlacedItem F)) → AreTokensOf tokens bytes → StandForAll bytes tokens ls
      → SpellItems is_nested spells bytes items → IsSpelledSo tokens ls items
  spelled_as_read bytes tokens ls items text stand s =
      let same_tokens : s.tokens ≡ tokens = one_list s.tokens tokens bytes s.text text in
      let stand' : StandForAll bytes tokens s.lexemes = subst (λ ts. StandForAll bytes ts s.lexemes) same_tokens s.stand in
      let same : s.lexemes ≡ ls = stand_once bytes tokens s.lexemes ls stand' stand in
      let spelled : SpellsItems spells (byte_before tokens) items s.lexemes = subst (λ ts. SpellsItems spells (byte_before ts) items s.lexemes) same_tokens s.spelled in
      record {
        nested = subst is_nested same s.nested;
        names = subst (λ l. IsTrue (are_source_lexemes l)) same s.names;
        spelled = subst (SpellsItems spells (byte_before tokens) items) same spelled;
        first = s.first;
      }

  pub one_reading : ((ls : List Lexeme) → is_nested ls → IsNested ls) → (first : Word) (function_at : (ℕ → ℕ) → List Lexeme → Reading F) → HasReading first spells function_at
      → (bytes : List ℕ) (items others : List (PlacedItem F)) → SpellItems is_nested spells bytes items → SpellItems is_nested spells bytes others → items ≡ others
  one_reading bracketed first function_at reading bytes items others s t =
      let again = spelled_as_read bytes s.tokens s.lexemes others s.text s.stand t in
      let p = nested_whole s.lexemes (bracketed s.lexemes s.nested) in
      found_is items others
      (sym (source_again first spells function_at reading (byte_before s.tokens) s.lexemes items p s.spelled s.first)
      ∙ source_again first spells function_at reading (byte_before s.tokens) s.lexemes others p again.spelled again.first)
