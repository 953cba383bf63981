-- What is read at a token, as an annotation.
use Rattle.std.proofs.Common.{◌≡◌, ◌≤◌, ◌<◌, ◌+◌, ℕ, zero, suc, List, [], ◌∷◌, length, take, drop, Option, Some, None, Result, Ok, Err, refl, sym, ap, ◌∙◌, subst, arith, ◌-◌, length-drop}
use Rattle.std.specs.Prelude.{IfOk, IfErr}
use Rattle.std.specs.List.{All}
use Rattle.std.proofs.lemmas.List.{take_all}
use Rattle.std.proofs.lemmas.List.Elements.{All-drop}
use Rattle.gil_lexer.specs.Texts.{AreTokensOf, IsSlice}
use Rattle.gil_lexer.proofs.TextLaws.{slices}
use Rattle.gil_grammar.proofs.RestLaws.{annotation_leaves, rest_is}
use Rattle.gil_lexer.specs.declared.forms.Token.{Token}
use Rattle.gil_lexemes.specs.declared.standing.Lexeme.{Lexeme}
use Rattle.gil_lexemes.specs.declared.stops.Stop.{Stop}
use Rattle.gil_lexemes.specs.declared.stops.Stop.TheVariants as stops
use Rattle.gil_lexemes.specs.Lexemes.{StandForAll}
use Rattle.gil_lexemes.specs.Reading.{Gives}
use Rattle.gil_lexemes.proofs.StandingLemmas.{stand_once}
use Rattle.gil_grammar.specs.Annotations.{PureAnnotation, SpellsAnnotation}
use Rattle.gil_grammar.specs.Nesting.{open_behind, IsNestedFrom, IsNested}
use Rattle.gil_grammar.specs.Reading.Annotations.{annotation_at}
use Rattle.gil_grammar.proofs.NestingLaws.{Nested}
use Rattle.gil_grammar.proofs.AnnotationLaws.{annotation_takes, annotation_past}
use Rattle.gil_text.specs.declared.annotations.Annotation.{Annotation}
use Rattle.gil_text.specs.Annotated.{annotation_view}

abbrev Answer : Type 0
Answer = Result (Annotation × List Lexeme) Stop

abbrev pub Read : Answer → List Lexeme → Type 0
Read answer ls = Gives (λ (found : Annotation × List Lexeme). (annotation_view found.0, found.1)) answer (annotation_at ls)

pub read_spelled : (answer : Answer) (ls : List Lexeme) → Read answer ls → IfOk answer (λ found. SpellsAnnotation (annotation_view found.0) ls found.1)
read_spelled (Ok found) ls h = annotation_takes ls (annotation_view found.0, found.1) h
read_spelled (Err stop) ls h = tt

pub read_longest : (answer : Answer) (ls : List Lexeme) → Read answer ls
    → IfOk answer (λ found. (count : ℕ) (other : PureAnnotation) (left : List Lexeme) → IsNestedFrom count ls → SpellsAnnotation other ls left → length found.1 ≤ length left)
read_longest (Ok found) ls h = λ count other left nested spelled.
    let past = annotation_past other ls left (record { count = count; nested = nested }) spelled in
    let both : Some past.found ≡ Some (annotation_view found.0, found.1) = sym past.is ∙ h in
    let same : past.found.1 ≡ found.1 = cc both in
    omega (arith, past.past, ap length same)
read_longest (Err stop) ls h = tt

pub read_none : (answer : Answer) (ls : List Lexeme) → Read answer ls
    → IfErr answer (λ stop. (count : ℕ) (a : PureAnnotation) (left : List Lexeme) → IsNestedFrom count ls → SpellsAnnotation a ls left → stop ≡ stops.Memory)
read_none (Ok found) ls h = tt
read_none (Err stops.Memory) ls h = λ count a left nested spelled. refl
read_none (Err (stops.Syntax rest)) ls h = λ count a left nested spelled.
    let past = annotation_past a ls left (record { count = count; nested = nested }) spelled in
    absurd (let both = sym past.is ∙ h in cc both)

-- ---- from a token on

pub stand_drop : (bytes : List ℕ) (tokens : List Token) (ls : List Lexeme) (i : ℕ) → StandForAll bytes tokens ls → StandForAll bytes (drop i tokens) (drop i ls)
stand_drop bytes tokens ls zero h = h
stand_drop bytes [] [] (suc i) h = tt
stand_drop bytes [] (l ∷ ls) (suc i) h = absurd h
stand_drop bytes (t ∷ tokens) [] (suc i) h = absurd h
stand_drop bytes (t ∷ tokens) (l ∷ ls) (suc i) h = stand_drop bytes tokens ls i h.1

pub stand_length : (bytes : List ℕ) (tokens : List Token) (ls : List Lexeme) → StandForAll bytes tokens ls → length ls ≡ length tokens
stand_length bytes [] [] h = refl
stand_length bytes [] (l ∷ ls) h = absurd h
stand_length bytes (t ∷ tokens) [] h = absurd h
stand_length bytes (t ∷ tokens) (l ∷ ls) h = ap suc (stand_length bytes tokens ls h.1)

-- what follows in a nested text is nested
pub nested_drop : (count : ℕ) (ls : List Lexeme) (i : ℕ) → IsNestedFrom count ls → (behind : ℕ) × IsNestedFrom behind (drop i ls)
nested_drop count ls zero h = (count, h)
nested_drop count [] (suc i) h = (count, h)
nested_drop count (l ∷ ls) (suc i) h = nested_drop (open_behind count l) ls i h.1

-- ---- what is left

pub read_shorter : (answer : Answer) (ls : List Lexeme) → Read answer ls → IfOk answer (λ found. length found.1 ≤ length ls)
read_shorter (Ok found) ls h = (rest_is ls found.1 (annotation_leaves (annotation_view found.0) ls found.1 (annotation_takes ls (annotation_view found.0, found.1) h))).0
read_shorter (Err stop) ls h = tt

pub read_behind : (answer : Answer) (ls : List Lexeme) → Read answer ls → IfOk answer (λ found. found.1 ≡ drop (length ls - length found.1) ls)
read_behind (Ok found) ls h = (rest_is ls found.1 (annotation_leaves (annotation_view found.0) ls found.1 (annotation_takes ls (annotation_view found.0, found.1) h))).1
read_behind (Err stop) ls h = tt

-- the tokens from one on
pub slice_from : (tokens : List Token) (from : ℕ) → take (length tokens - from) (drop from tokens) ≡ drop from tokens
slice_from tokens from = take_all (length tokens - from) (drop from tokens) (omega (arith, length-drop from tokens))

pub slices_behind : (bytes : List ℕ) (tokens : List Token) (from : ℕ) → AreTokensOf tokens bytes → All (IsSlice bytes) (take (length tokens - from) (drop from tokens))
slices_behind bytes tokens from text = rw (slice_from tokens from) (All-drop (IsSlice bytes) from tokens (slices tokens bytes text))

pub stands_behind : (bytes : List ℕ) (tokens : List Token) (from : ℕ) (cursor lexemes : List Lexeme) → StandForAll bytes (take (length tokens - from) (drop from tokens)) cursor
    → StandForAll bytes tokens lexemes → cursor ≡ drop from lexemes
stands_behind bytes tokens from cursor lexemes h k =
    stand_once bytes (drop from tokens) cursor (drop from lexemes) (rw (slice_from tokens from) at h) (stand_drop bytes tokens lexemes from k)

pub left_behind : (bytes : List ℕ) (tokens : List Token) (from : ℕ) (cursor : List Lexeme) → from ≤ length tokens → StandForAll bytes (take (length tokens - from) (drop from tokens)) cursor
    → from + length cursor ≡ length tokens
left_behind bytes tokens from cursor within h =
    let count = stand_length bytes (drop from tokens) cursor (rw (slice_from tokens from) at h) in
    omega (arith, count, length-drop from tokens)
