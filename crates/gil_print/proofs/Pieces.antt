-- A thing that is spelled by lexemes of some text is spelled by the lexemes that its printed text reads as.
use Rattle.std.proofs.Common.{◌≡◌, ℕ, true, List, [], ◌∷◌, ◌++◌, Option, Some, refl, sym, subst, append_assoc}
use Rattle.std.specs.List.{flat_map, join_by}
use Rattle.gil_lexer.specs.Spelling.{takes_minus}
use Rattle.gil_lexer.specs.declared.forms.Form.{Form}
use Rattle.gil_lexemes.specs.declared.standing.Lexeme.{Lexeme}
use Rattle.gil_lexemes.specs.Reading.{form_of}
use Rattle.gil_grammar.specs.Lists.{SpellsEach, SpellsSome, SpellsMore, SpellsSeparated}
use Rattle.gil_print.proofs.Lexing.{Stands, Written, Lexes, Anywhere}
use Rattle.gil_print.proofs.Tokens.{Stops, Opens}

-- how the lexemes of a thing lead from lexemes to those behind it
abbrev pub Spelling : Type 1
Spelling = List Lexeme → List Lexeme → Type 0

-- Behind the thing, which ends with a token of the form last, the lexemes `rest` are written. Where bytes that don't go on it
-- read as some lexemes behind such a token, its text and they read as lexemes of the thing and those behind it.
pub record Prints (spells : Spelling) (printed : List ℕ) (count : ℕ) (rest : List Lexeme) : Type 0 where
  pub last : Form
  pub behind : Written (Some last) count rest
  pub again : (b : Option Form) (bytes : List ℕ) (ls : List Lexeme) → takes_minus b ≡ true → Stops bytes → Lexes (Some last) count bytes ls
      → (from : List Lexeme) × spells from ls × Lexes b count (printed ++ bytes) from

-- the same where the bytes behind it read as these lexemes wherever they stand
pub record PrintsFirst (spells : Spelling) (printed : List ℕ) (count : ℕ) (rest : List Lexeme) : Type 0 where
  pub before : Option Form
  pub behind : Written before count rest
  pub again : (b : Option Form) (bytes : List ℕ) (ls : List Lexeme) → takes_minus b ≡ true → Stops bytes → Anywhere count bytes ls
      → (from : List Lexeme) × spells from ls × Lexes b count (printed ++ bytes) from

-- the same of a thing that begins with no number and doesn't mind what goes on behind it
pub record PrintsAny (spells : Spelling) (printed : List ℕ) (count : ℕ) (rest : List Lexeme) : Type 0 where
  pub before : Option Form
  pub behind : Written before count rest
  pub again : (bytes : List ℕ) (ls : List Lexeme) → Anywhere count bytes ls → (from : List Lexeme) × spells from ls × Anywhere count (printed ++ bytes) from

-- the same of a thing that begins with no number
pub record PrintsMore (spells : Spelling) (printed : List ℕ) (count : ℕ) (rest : List Lexeme) : Type 0 where
  pub before : Option Form
  pub behind : Written before count rest
  pub stops : (bytes : List ℕ) → Stops bytes → Stops (printed ++ bytes)
  pub again : (bytes : List ℕ) (ls : List Lexeme) → Stops bytes → Anywhere count bytes ls → (from : List Lexeme) × spells from ls × Anywhere count (printed ++ bytes) from

-- the same of a thing that begins with no number, where its end isn't known
pub record PrintsBare (spells : Spelling) (printed : List ℕ) (count : ℕ) (rest : List Lexeme) : Type 0 where
  pub before : Option Form
  pub behind : Written before count rest
  pub again : (bytes : List ℕ) (ls : List Lexeme) → Stops bytes → Anywhere count bytes ls → (from : List Lexeme) × spells from ls × Anywhere count (printed ++ bytes) from

pub first_of : {spells : Spelling} {printed : List ℕ} {count : ℕ} {rest : List Lexeme} → Prints spells printed count rest → PrintsFirst spells printed count rest
first_of h = record { before = Some h.last; behind = h.behind; again = λ b bytes ls takes stops any. h.again b bytes ls takes stops (any (Some h.last)) }

pub first_of_any : {spells : Spelling} {printed : List ℕ} {count : ℕ} {rest : List Lexeme} → PrintsAny spells printed count rest → PrintsFirst spells printed count rest
first_of_any h = record { before = h.before; behind = h.behind; again = λ b bytes ls takes stops any. let x = h.again bytes ls any in (x.0, x.1, x.2 b) }

pub bare_of_any : {spells : Spelling} {printed : List ℕ} {count : ℕ} {rest : List Lexeme} → PrintsAny spells printed count rest → PrintsBare spells printed count rest
bare_of_any h = record { before = h.before; behind = h.behind; again = λ bytes ls stops any. h.again bytes ls any }

pub three : (a b c d : List ℕ) → ((a ++ b) ++ c) ++ d ≡ a ++ (b ++ (c ++ d))
three a b c d = simp append_assoc

shifted : (a b c d : List ℕ) → ((a ++ b) ++ c) ++ d ≡ a ++ ((b ++ c) ++ d)
shifted a b c d = simp append_assoc

-- things with a separator between one and the next
module _ {X : Type 0} (spells : X → List Lexeme → List Lexeme → Type 0) (printed : X → List ℕ) (separator : Lexeme) (between : List ℕ)
    (opens : Opens separator) (takes : takes_minus (Some (form_of separator)) ≡ true)
    (stops : (bytes : List ℕ) → Stops (between ++ bytes))
    (lexes : (b : Option Form) (count : ℕ) (bytes : List ℕ) (ls : List Lexeme) → Stands b count separator
    → (b' : Option Form) → Lexes (Some (form_of separator)) count bytes ls → Lexes b' count (between ++ bytes) (separator ∷ ls))
    (prints : (x : X) (from rest : List Lexeme) (b : Option Form) (count : ℕ) → spells x from rest → Written b count from → PrintsFirst (spells x) (printed x) count rest) where
  -- each behind the separator
  abbrev later : List X → List ℕ
  later xs = flat_map (λ x. between ++ printed x) xs

  -- one, and the others each behind the separator
  one_and_more : (x : X) (xs : List X) (count : ℕ) (after rest : List Lexeme) → PrintsFirst (spells x) (printed x) count after → PrintsMore (SpellsMore spells separator xs) (later xs) count rest
      → PrintsFirst (SpellsSeparated spells separator (x ∷ xs)) (printed x ++ later xs) count rest
  one_and_more x xs count after rest first others = record {
    before = others.before;
    behind = others.behind;
    again = λ b bytes ls takes' h any.
        let tail = others.again bytes ls h any in
        let front = first.again b (later xs ++ bytes) tail.0 takes' (others.stops bytes h) tail.2 in
        (front.0, (tail.0, front.1, tail.1), subst (λ text. Lexes b count text front.0) (sym (append_assoc (printed x) (later xs) bytes)) front.2);
  }

  more_prints : (xs : List X) (from rest : List Lexeme) (b : Option Form) (count : ℕ) → SpellsMore spells separator xs from rest → Written b count from
      → PrintsMore (SpellsMore spells separator xs) (later xs) count rest
  more_prints [] from rest b count is w = record {
    before = b;
    behind = subst (Written b count) is w;
    stops = λ bytes h. h;
    again = λ bytes ls h any. (ls, refl, any);
  }
  more_prints (x ∷ xs) from rest b count (inner, after, is, one, more) w =
      let here = subst (Written b count) is w in
      let next : Written (Some (form_of separator)) count inner = subst (λ n. Written (Some (form_of separator)) n inner) (opens count) here.1 in
      let first = prints x inner after _ count one next in
      let all = one_and_more x xs count after rest first (more_prints xs after rest first.before count more first.behind) in
      record {
        before = all.before;
        behind = all.behind;
        stops = λ bytes h. subst Stops (sym (three between (printed x) (later xs) bytes)) (stops (printed x ++ (later xs ++ bytes)));
        again = λ bytes ls h any.
            let y = all.again (Some (form_of separator)) bytes ls takes h any in (
              separator ∷ y.0,
              (y.0, y.1.0, refl, y.1.1, y.1.2),
              λ b'. subst (λ text. Lexes b' count text (separator ∷ y.0)) (sym (shifted between (printed x) (later xs) bytes))
                  (lexes b count ((printed x ++ later xs) ++ bytes) y.0 here.0 b' y.2),
            );
      }

  pub separated_prints : (xs : List X) (from rest : List Lexeme) (b : Option Form) (count : ℕ) → SpellsSeparated spells separator xs from rest → Written b count from
      → PrintsFirst (SpellsSeparated spells separator xs) (join_by printed between xs) count rest
  separated_prints [] from rest b count is w = record {
    before = b;
    behind = subst (Written b count) is w;
    again = λ b' bytes ls takes h any. (ls, refl, any b');
  }
  separated_prints (x ∷ xs) from rest b count (after, one, more) w =
      let first = prints x from after b count one w in
      one_and_more x xs count after rest first (more_prints xs after rest first.before count more first.behind)

-- things one directly after another, with blanks or nothing between their texts
module _ {X : Type 0} (spells : X → List Lexeme → List Lexeme → Type 0) (printed : X → List ℕ) (gap : List ℕ)
    (lexes : (b : Option Form) (count : ℕ) (bytes : List ℕ) (ls : List Lexeme) → Lexes b count bytes ls → Lexes b count (gap ++ bytes) ls)
    (prints : (x : X) (from rest : List Lexeme) (b : Option Form) (count : ℕ) → spells x from rest → Written b count from → PrintsAny (spells x) (printed x) count rest) where
  -- each behind the gap
  abbrev all_behind : List X → List ℕ
  all_behind xs = flat_map (λ x. gap ++ printed x) xs

  -- one, and the others each behind the gap
  one_and_each : (x : X) (xs : List X) (count : ℕ) (after rest : List Lexeme) → PrintsAny (spells x) (printed x) count after → PrintsAny (SpellsEach spells xs) (all_behind xs) count rest
      → PrintsAny (SpellsEach spells (x ∷ xs)) (printed x ++ all_behind xs) count rest
  one_and_each x xs count after rest first others = record {
    before = others.before;
    behind = others.behind;
    again = λ bytes ls any.
        let tail = others.again bytes ls any in
        let front = first.again (all_behind xs ++ bytes) tail.0 tail.2 in
        (front.0, (tail.0, front.1, tail.1), λ b. subst (λ text. Lexes b count text front.0) (sym (append_assoc (printed x) (all_behind xs) bytes)) (front.2 b));
  }

  pub each_prints : (xs : List X) (from rest : List Lexeme) (b : Option Form) (count : ℕ) → SpellsEach spells xs from rest → Written b count from
      → PrintsAny (SpellsEach spells xs) (all_behind xs) count rest
  each_prints [] from rest b count is w = record { before = b; behind = subst (Written b count) is w; again = λ bytes ls any. (ls, refl, any) }
  each_prints (x ∷ xs) from rest b count (after, one, more) w =
      let first = prints x from after b count one w in
      let all = one_and_each x xs count after rest first (each_prints xs after rest first.before count more first.behind) in
      record {
        before = all.before;
        behind = all.behind;
        again = λ bytes ls any.
            let y = all.again bytes ls any in
            (y.0, y.1, λ b'. subst (λ text. Lexes b' count text y.0) (sym (shifted gap (printed x) (all_behind xs) bytes)) (lexes b' count ((printed x ++ all_behind xs) ++ bytes) y.0 (y.2 b')));
      }

  pub some_print : (xs : List X) (from rest : List Lexeme) (b : Option Form) (count : ℕ) → SpellsSome spells xs from rest → Written b count from
      → PrintsAny (SpellsSome spells xs) (join_by printed gap xs) count rest
  some_print [] from rest b count h w = absurd h
  some_print (x ∷ xs) from rest b count (after, one, more) w =
      let first = prints x from after b count one w in
      let all = one_and_each x xs count after rest first (each_prints xs after rest first.before count more first.behind) in
      record { before = all.before; behind = all.behind; again = all.again }
