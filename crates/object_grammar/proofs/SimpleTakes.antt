-- What is read as a statement of the object language without statements in it is spelled so.
use Rattle.std.proofs.Common.{◌≡◌, inl, inr, ℕ, Bool, true, false, cond, List, [], ◌∷◌, Some, refl, ap, subst, ◌∙◌, arith}
use Rattle.gil_lexer.specs.declared.signs.Sign.TheVariants as signs
use Rattle.gil_lexer.specs.declared.words.Word.TheVariants as words
use Rattle.gil_lexemes.specs.declared.standing.Lexeme.{Lexeme}
use Rattle.gil_lexemes.specs.declared.standing.Lexeme.TheVariants as lexemes
use Rattle.gil_lexemes.specs.Reading.{◌>>=◌, first_form, behind, is_sign, sign_at, name_at}
use Rattle.gil_lexemes.proofs.ReadingLaws.{bind_some, at_sign_is, sign_takes, name_takes}
use Rattle.gil_grammar.specs.Reading.Vocabulary.{word_of, input_of_word}
use Rattle.gil_grammar.proofs.AssertionLaws.{in_place}
use Rattle.gil_grammar.proofs.ListLaws.{Takes, found_is}
use Rattle.gil_grammar.proofs.VocabularyLaws.{input_takes}
use Rattle.source_operators.specs.Pure.{variable, constant, brackets, prefixed, joined, skipping}
use Rattle.source_text.specs.Vocabulary.{equals}
use Rattle.operator_text.specs.Grammar as operators
use Rattle.operator_text.specs.Signs.{tight}
use Rattle.operator_text.proofs.PieceTakes.{from_takes, whole_takes, value_takes, argument_takes, pair_takes, arguments_take}
use Rattle.object_operators.specs.declared.trees.Joint.TheVariants.{Operation, Property}
use Rattle.object_operators.specs.Pure.{PureExpression}
use Rattle.object_lang.specs.Pure.{PureSimple, assign, input, create, proto, has, call, set, delete, set_proto, fail, throw}
use Rattle.object_grammar.specs.Reading.{expression_at, value_at, argument_at, pair_at, arguments_at, input_at, call_at, assign_at, behind_value, given_at, assigned_at, target_at, place_parts, place_at, set_at, delete_at, begun_by, begun_at, simple_at}
use Rattle.object_grammar.specs.Signs.{object_signs}
use Rattle.object_grammar.specs.Statements.{SpellsExpression, SpellsTarget, SpellsPlace, SpellsSimple}
use Rattle.object_grammar.proofs.Beginnings.{object_apart}
use Rattle.object_grammar.proofs.Leaves.{leaf_is_name}

pub expression_takes : Takes SpellsExpression expression_at
expression_takes ls found is = whole_takes object_signs object_apart ls found is

-- ---- what is assigned

abbrev Assigned : List ℕ → PureSimple → List Lexeme → List Lexeme → Type 0
Assigned x c value rest = (ls : List Lexeme) → SpellsTarget x ls value → SpellsSimple c ls rest

-- the word of a sort, and `;`
sort_takes : (ls : List Lexeme) (word : _) → word_of (first_form ls) ≡ Some word → ls ≡ lexemes.Word word ∷ behind ls
sort_takes [] word is = absurd (cc is)
sort_takes (lexemes.Word found ∷ ls) word is = ap (λ w. lexemes.Word w ∷ ls) (found_is found word is)
sort_takes (lexemes.Name x ∷ ls) word is = absurd (cc is)
sort_takes (lexemes.Logical x ∷ ls) word is = absurd (cc is)
sort_takes (lexemes.Procedure x ∷ ls) word is = absurd (cc is)
sort_takes (lexemes.Number n ∷ ls) word is = absurd (cc is)
sort_takes (lexemes.Literal t ∷ ls) word is = absurd (cc is)
sort_takes (lexemes.Sign s ∷ ls) word is = absurd (cc is)

inputs_take : (x : List ℕ) (ls : List Lexeme) (found : PureSimple × List Lexeme) → input_at x ls ≡ Some found
    → Assigned x found.0 (lexemes.Word words.Input ∷ ls) found.1
unfolding input_at
inputs_take x ls found is =
    let word = bind_some (word_of (first_form ls)) _ found is in
    let k = bind_some (input_of_word word.0) _ found word.2 in
    let r = bind_some (sign_at signs.Semicolon (behind ls)) _ found k.2 in
    let whole = sort_takes ls word.0 word.1 ∙ ap (λ (m : List Lexeme). lexemes.Word word.0 ∷ m) (sign_takes signs.Semicolon (behind ls) r.0 r.1) in
    in_place (Assigned x) (lexemes.Word words.Input ∷ ls) (input x k.0) r.0 found r.2
    (λ front target.
    (word.0, input_takes word.0 k.0 k.1, subst (λ (m : List Lexeme). SpellsTarget x front (lexemes.Word words.Input ∷ m)) whole target))

creates_take : (x : List ℕ) (ls : List Lexeme) (found : PureSimple × List Lexeme) → (argument_at ls >>= λ e. Some (create x e.0, e.1)) ≡ Some found
    → Assigned x found.0 (lexemes.Word words.Create ∷ ls) found.1
creates_take x ls found is =
    let e = bind_some (argument_at ls) _ found is in
    in_place (Assigned x) (lexemes.Word words.Create ∷ ls) (create x e.0.0) e.0.1 found e.2
    (λ front target. (ls, target, argument_takes object_signs object_apart ls e.0 e.1))

protos_take : (x : List ℕ) (ls : List Lexeme) (found : PureSimple × List Lexeme) → (argument_at ls >>= λ e. Some (proto x e.0, e.1)) ≡ Some found
    → Assigned x found.0 (lexemes.Word words.Proto ∷ ls) found.1
protos_take x ls found is =
    let e = bind_some (argument_at ls) _ found is in
    in_place (Assigned x) (lexemes.Word words.Proto ∷ ls) (proto x e.0.0) e.0.1 found e.2
    (λ front target. (ls, target, argument_takes object_signs object_apart ls e.0 e.1))

has_takes : (x : List ℕ) (ls : List Lexeme) (found : PureSimple × List Lexeme) → (pair_at ls >>= λ p. Some (has x p.0.0 p.0.1, p.1)) ≡ Some found
    → Assigned x found.0 (lexemes.Word words.Has ∷ ls) found.1
has_takes x ls found is =
    let p = bind_some (pair_at ls) _ found is in
    in_place (Assigned x) (lexemes.Word words.Has ∷ ls) (has x p.0.0.0 p.0.0.1) p.0.1 found p.2
    (λ front target. (ls, target, pair_takes object_signs object_apart ls p.0 p.1))

given_takes : (x : List ℕ) (ls : List Lexeme) (found : PureSimple × List Lexeme) → given_at x ls ≡ Some found → Assigned x found.0 ls found.1
unfolding behind_value
given_takes x ls found is =
    let e = bind_some (expression_at ls) _ found is in
    by e.0 (expression_takes ls e.0 e.1) (is_sign signs.LeftParenthesis (first_form e.0.1)) refl e.2
  where
    by : (e : PureExpression × List Lexeme) → SpellsExpression e.0 ls e.1 → (b : Bool) → is_sign signs.LeftParenthesis (first_form e.1) ≡ b
        → cond b (call_at x e.0 (behind e.1)) (assign_at x e.0 e.1) ≡ Some found → Assigned x found.0 ls found.1
    by e spelled true here read =
        let es = bind_some (arguments_at (behind e.1)) _ found read in
        in_place (Assigned x) ls (call x e.0 es.0.0) es.0.1 found es.2
        (λ all target. (
          ls,
          behind e.1,
          target,
          subst (SpellsExpression e.0 ls) (at_sign_is signs.LeftParenthesis e.1 here) spelled,
          arguments_take object_signs object_apart (behind e.1) es.0 es.1,
        ))
    by e spelled false here read =
        let r = bind_some (sign_at signs.Semicolon e.1) _ found read in
        in_place (Assigned x) ls (assign x e.0) r.0 found r.2
        (λ all target. (ls, target, subst (SpellsExpression e.0 ls) (sign_takes signs.Semicolon e.1 r.0 r.1) spelled))

-- by the first lexeme
assigned_takes : (x : List ℕ) (ls : List Lexeme) (found : PureSimple × List Lexeme) → assigned_at x ls ≡ Some found → Assigned x found.0 ls found.1
assigned_takes x (lexemes.Word words.Input ∷ ls) found is = inputs_take x ls found is
assigned_takes x (lexemes.Word words.Create ∷ ls) found is = creates_take x ls found is
assigned_takes x (lexemes.Word words.Proto ∷ ls) found is = protos_take x ls found is
assigned_takes x (lexemes.Word words.Has ∷ ls) found is = has_takes x ls found is
assigned_takes x ls found is = given_takes x ls found is

target_takes : (x : List ℕ) (ls : List Lexeme) (found : PureSimple × List Lexeme) (front : List Lexeme)
    → ((value : List Lexeme) → ls ≡ equals ∷ value → SpellsTarget x front value) → target_at x ls ≡ Some found → SpellsSimple found.0 front found.1
target_takes x ls found front target is =
    let value = bind_some (sign_at signs.Equal ls) _ found is in
    assigned_takes x value.0 found value.2 front (target value.0 (sign_takes signs.Equal ls value.0 value.1))

-- ---- places

abbrev Spelled : PureExpression → List Lexeme → List Lexeme → Type 0
Spelled e ls rest = operators.SpellsExpression object_signs tight e ls rest

place_takes : Takes Spelled place_at
place_takes ls found is = from_takes object_signs object_apart tight (omega arith) ls found is

parts_take : (e : PureExpression) (parts : PureExpression × PureExpression) → place_parts e ≡ Some parts → e ≡ joined Property parts.0 parts.1
parts_take (joined Property a b) parts says = ap (λ p. joined Property p.0 p.1) (found_is (a, b) parts says)
parts_take (joined (Operation op) a b) parts says = absurd (cc says)
parts_take (constant v) parts says = absurd (cc says)
parts_take (variable x) parts says = absurd (cc says)
parts_take (brackets e) parts says = absurd (cc says)
parts_take (prefixed u e) parts says = absurd (cc says)
parts_take (skipping c d e) parts says = absurd (cc says)

set_takes : (e : PureExpression) (ls rest : List Lexeme) (found : PureSimple × List Lexeme) → Spelled e ls rest → set_at e rest ≡ Some found
    → SpellsSimple found.0 ls found.1
unfolding set_at
set_takes e ls rest found spelled is =
    let parts = bind_some (place_parts e) _ found is in
    let value = bind_some (sign_at signs.Equal rest) _ found parts.2 in
    let c = bind_some (value_at value.0) _ found value.2 in
    let place : SpellsPlace parts.0.0 parts.0.1 ls rest = subst (λ d. Spelled d ls rest) (parts_take e parts.0 parts.1) spelled in
    in_place SpellsSimple ls (set parts.0.0 parts.0.1 c.0.0) c.0.1 found c.2 (
      value.0,
      subst (SpellsPlace parts.0.0 parts.0.1 ls) (sign_takes signs.Equal rest value.0 value.1) place,
      value_takes object_signs object_apart value.0 c.0 c.1,
    )

delete_takes : (ls : List Lexeme) (found : PureSimple × List Lexeme) → delete_at ls ≡ Some found → SpellsSimple found.0 (lexemes.Word words.Delete ∷ ls) found.1
unfolding delete_at
delete_takes ls found is =
    let e = bind_some (place_at ls) _ found is in
    let parts = bind_some (place_parts e.0.0) _ found e.2 in
    let r = bind_some (sign_at signs.Semicolon e.0.1) _ found parts.2 in
    let place : SpellsPlace parts.0.0 parts.0.1 ls e.0.1 =
    subst (λ d. Spelled d ls e.0.1) (parts_take e.0.0 parts.0 parts.1) (place_takes ls e.0 e.1) in
    in_place SpellsSimple (lexemes.Word words.Delete ∷ ls) (delete parts.0.0 parts.0.1) r.0 found r.2
    (ls, refl, subst (SpellsPlace parts.0.0 parts.0.1 ls) (sign_takes signs.Semicolon e.0.1 r.0 r.1) place)

-- ---- statements

variable_spelled : (x : List ℕ) (ls rest : List Lexeme) → Spelled (variable x) ls rest → ls ≡ lexemes.Name x ∷ rest
variable_spelled x ls rest (l, says, is) = is ∙ ap (λ (m : Lexeme). m ∷ rest) (leaf_is_name l x says)

begun_takes : (ls : List Lexeme) (found : PureSimple × List Lexeme) → begun_at ls ≡ Some found → SpellsSimple found.0 ls found.1
begun_takes ls found is =
    let e = bind_some (place_at ls) _ found is in
    by e.0.0 e.0.1 (place_takes ls e.0 e.1) e.2
  where
    by : (e : PureExpression) (rest : List Lexeme) → Spelled e ls rest → begun_by e rest ≡ Some found → SpellsSimple found.0 ls found.1
    by (variable x) rest spelled read =
        target_takes x rest found ls
        (λ value is'. inl (variable_spelled x ls rest spelled ∙ ap (λ (m : List Lexeme). lexemes.Name x ∷ m) is')) read
    by (constant v) rest spelled read = set_takes (constant v) ls rest found spelled read
    by (brackets e) rest spelled read = set_takes (brackets e) ls rest found spelled read
    by (prefixed u e) rest spelled read = set_takes (prefixed u e) ls rest found spelled read
    by (joined j d e) rest spelled read = set_takes (joined j d e) ls rest found spelled read
    by (skipping c d e) rest spelled read = set_takes (skipping c d e) ls rest found spelled read

declared_takes : (ls : List Lexeme) (found : PureSimple × List Lexeme) → (name_at ls >>= λ x. target_at x.0 x.1) ≡ Some found
    → SpellsSimple found.0 (lexemes.Word words.Let ∷ ls) found.1
declared_takes ls found is =
    let x = bind_some (name_at ls) _ found is in
    target_takes x.0.0 x.0.1 found (lexemes.Word words.Let ∷ ls)
    (λ value is'. inr (ap (λ (m : List Lexeme). lexemes.Word words.Let ∷ m) (name_takes ls x.0 x.1 ∙ ap (λ (m : List Lexeme). lexemes.Name x.0.0 ∷ m) is'))) x.2

set_proto_takes : (ls : List Lexeme) (found : PureSimple × List Lexeme) → (pair_at ls >>= λ p. Some (set_proto p.0.0 p.0.1, p.1)) ≡ Some found
    → SpellsSimple found.0 (lexemes.Word words.Setproto ∷ ls) found.1
set_proto_takes ls found is =
    let p = bind_some (pair_at ls) _ found is in
    in_place SpellsSimple (lexemes.Word words.Setproto ∷ ls) (set_proto p.0.0.0 p.0.0.1) p.0.1 found p.2 (ls, refl, pair_takes object_signs object_apart ls p.0 p.1)

fail_takes : (ls : List Lexeme) (found : PureSimple × List Lexeme) → (value_at ls >>= λ e. Some (fail e.0, e.1)) ≡ Some found
    → SpellsSimple found.0 (lexemes.Word words.Fail ∷ ls) found.1
fail_takes ls found is =
    let e = bind_some (value_at ls) _ found is in
    in_place SpellsSimple (lexemes.Word words.Fail ∷ ls) (fail e.0.0) e.0.1 found e.2 (ls, refl, value_takes object_signs object_apart ls e.0 e.1)

throw_takes : (ls : List Lexeme) (found : PureSimple × List Lexeme) → (value_at ls >>= λ e. Some (throw e.0, e.1)) ≡ Some found
    → SpellsSimple found.0 (lexemes.Word words.Throw ∷ ls) found.1
throw_takes ls found is =
    let e = bind_some (value_at ls) _ found is in
    in_place SpellsSimple (lexemes.Word words.Throw ∷ ls) (throw e.0.0) e.0.1 found e.2 (ls, refl, value_takes object_signs object_apart ls e.0 e.1)

pub simple_takes : Takes SpellsSimple simple_at
unfolding simple_at
simple_takes (lexemes.Word words.Let ∷ ls) found is = declared_takes ls found is
simple_takes (lexemes.Word words.Delete ∷ ls) found is = delete_takes ls found is
simple_takes (lexemes.Word words.Setproto ∷ ls) found is = set_proto_takes ls found is
simple_takes (lexemes.Word words.Fail ∷ ls) found is = fail_takes ls found is
simple_takes (lexemes.Word words.Throw ∷ ls) found is = throw_takes ls found is
simple_takes ls found is = begun_takes ls found is
