-- Printed parameters and assertions.
use Rattle.std.proofs.Common.{◌≡◌, ℕ, ◌+◌, ◌≤◌, List, [], ◌∷◌, ◌++◌, Option, Some, refl, sym, subst, inl, inr, append_assoc, append-nil}
use Rattle.std.specs.Prelude.{codes}
use Rattle.std.specs.List.{flat_map}
use Rattle.gil_lexer.specs.Words.{word_bytes}
use Rattle.gil_lexer.specs.declared.forms.Form.{Form}
use Rattle.gil_lexer.specs.declared.forms.Form.TheVariants as forms
use Rattle.gil_lexer.specs.declared.signs.Sign.TheVariants as signs
use Rattle.gil_lexer.specs.declared.words.Word.{Word}
use Rattle.gil_lexer.specs.declared.words.Word.TheVariants as words
use Rattle.gil_lexemes.specs.declared.standing.Lexeme.{Lexeme}
use Rattle.gil_lexemes.specs.declared.standing.Lexeme.TheVariants as lexemes
use Rattle.gil_lexemes.specs.Reading.{form_of}
use Rattle.gil_syntax.specs.declared.assertions.Param.{Param}
use Rattle.gil_syntax.specs.declared.assertions.SpecSort.{SpecSort}
use Rattle.gil_syntax.specs.declared.assertions.SpecSort.TheVariants as sorts
use Rattle.gil_syntax.specs.Pure.{PurePredUse, PureItem, pure, uses}
use Rattle.gil_grammar.specs.declared.positions.Position.TheVariants as positions
use Rattle.gil_grammar.specs.Assertions.{SpellsParam, SpellsParams, SpellsVariables, SpellsUse, SpellsItem, SpellsAssertion, SpellsBlock, SpellsBlocks, SpellsError, SpellsPosts}
use Rattle.gil_grammar.specs.Lists.{SpellsEach, SpellsSeparated}
use Rattle.gil_grammar.specs.Nesting.{most_open}
use Rattle.gil_grammar.specs.Vocabulary as grammar
use Rattle.syntax_print.specs.Assertions.{printed_sort, printed_param, printed_params, printed_variables, behind_semicolon, printed_use, printed_item, printed_assertion, printed_block, printed_error, printed_posts, printed_blocks}
use Rattle.syntax_print.specs.Expressions.{printed_exprs}
use Rattle.gil_print.proofs.Lexing.{IsSpelled, Stands, Written, Lexes, Anywhere, MayStand, lexes_blank}
use Rattle.gil_print.proofs.Expressions.{within_of, behind_of, parenthesis_closed, bracket_closed, brace_closed, expr_prints, exprs_print}
use Rattle.gil_print.proofs.Pieces.{PrintsFirst, PrintsAny, first_of, first_of_any, three, separated_prints, each_prints, some_print}
use Rattle.gil_print.proofs.Tokens.{Stops, Opens, TokenOf, named, name_token, logical_token, lexes_of, lexes_word, word_and_blank, comma_step, colon_step, star_step, semicolon_step, left_parenthesis, right_parenthesis, left_bracket, right_bracket, left_brace, right_brace}

pub six : (a b c d e f g : List ℕ) → (((((a ++ b) ++ c) ++ d) ++ e) ++ f) ++ g ≡ a ++ (b ++ (c ++ (d ++ (e ++ (f ++ g)))))
six a b c d e f g = simp append_assoc

pub seven : (a b c d e f g h : List ℕ) → ((((((a ++ b) ++ c) ++ d) ++ e) ++ f) ++ g) ++ h ≡ a ++ (b ++ (c ++ (d ++ (e ++ (f ++ (g ++ h))))))
seven a b c d e f g h = simp append_assoc

-- ---- parameters, by names of one form

module _ (form : List ℕ → Lexeme) (opens : (x : List ℕ) → Opens (form x)) (may : (x : List ℕ) (b : Option Form) → MayStand b (form x))
    (token : (x : List ℕ) → IsSpelled (form x) → TokenOf (form x) x) where
  -- a name and its sort
  with_sort : (x : List ℕ) (word : Word) (b : Option Form) (count : ℕ) (bytes : List ℕ) (ls : List Lexeme) → IsSpelled (form x) → count ≤ most_open → Stops bytes → Anywhere count bytes ls
      → Lexes b count (x ++ (58 ∷ 32 ∷ (word_bytes word ++ bytes))) (form x ∷ grammar.colon ∷ lexemes.Word word ∷ ls)
  with_sort x word b count bytes ls spelled within stops any =
      lexes_of (form x) x (opens x) (token x spelled) b count (58 ∷ 32 ∷ (word_bytes word ++ bytes)) (grammar.colon ∷ lexemes.Word word ∷ ls) (may x b) within refl
      (colon_step (Some (form_of (form x))) count (word_bytes word ++ bytes) (lexemes.Word word ∷ ls) within (lexes_word word _ count bytes ls within stops (any (Some (forms.Word word)))))

  -- the lexemes that a printed parameter reads as
  param_lexemes : (x : List ℕ) (sort : SpecSort) (ls : List Lexeme) → List Lexeme
  param_lexemes x sorts.Any ls = form x ∷ ls
  param_lexemes x sort ls = form x ∷ grammar.colon ∷ lexemes.Word (grammar.sort_word sort) ∷ ls

  param_spelled : (x : List ℕ) (sort : SpecSort) (ls : List Lexeme) → SpellsParam form (record { name = x; sort = sort }) (param_lexemes x sort ls) ls
  unfolding param_lexemes
  param_spelled x sorts.Any ls = inr (refl, refl)
  param_spelled x _ ls = inl refl

  param_lexes : (x : List ℕ) (sort : SpecSort) (b : Option Form) (count : ℕ) (bytes : List ℕ) (ls : List Lexeme) → IsSpelled (form x) → count ≤ most_open → Stops bytes → Anywhere count bytes ls
      → Lexes b count ((x ++ printed_sort sort) ++ bytes) (param_lexemes x sort ls)
  unfolding param_lexemes word_bytes
  param_lexes x sorts.Any b count bytes ls spelled within stops any =
      subst (λ text. Lexes b count (text ++ bytes) (form x ∷ ls)) (sym (append-nil x)) (lexes_of (form x) x (opens x) (token x spelled) b count bytes ls (may x b) within stops (any _))
  param_lexes x sorts.Int b count bytes ls spelled within stops any =
      subst (λ text. Lexes b count text (param_lexemes x sorts.Int ls)) (sym (append_assoc x (codes ": int") bytes)) (with_sort x words.Int b count bytes ls spelled within stops any)
  param_lexes x sorts.Bool b count bytes ls spelled within stops any =
      subst (λ text. Lexes b count text (param_lexemes x sorts.Bool ls)) (sym (append_assoc x (codes ": bool") bytes)) (with_sort x words.Bool b count bytes ls spelled within stops any)
  param_lexes x sorts.Str b count bytes ls spelled within stops any =
      subst (λ text. Lexes b count text (param_lexemes x sorts.Str ls)) (sym (append_assoc x (codes ": str") bytes)) (with_sort x words.Str b count bytes ls spelled within stops any)
  param_lexes x sorts.Sym b count bytes ls spelled within stops any =
      subst (λ text. Lexes b count text (param_lexemes x sorts.Sym ls)) (sym (append_assoc x (codes ": sym") bytes)) (with_sort x words.Sym b count bytes ls spelled within stops any)
  param_lexes x sorts.List b count bytes ls spelled within stops any =
      subst (λ text. Lexes b count text (param_lexemes x sorts.List ls)) (sym (append_assoc x (codes ": list") bytes)) (with_sort x words.List b count bytes ls spelled within stops any)

  param_behind : (q : Param) (from rest : List Lexeme) (b : Option Form) (count : ℕ) → SpellsParam form q from rest → Written b count from
      → Stands b count (form q.name) × ((b' : Option Form) × Written b' count rest)
  param_behind q from rest b count (inl is) w =
      let here = subst (Written b count) is w in
      let next = behind_of (form q.name) _ count (grammar.colon ∷ lexemes.Word (grammar.sort_word q.sort) ∷ rest) (opens q.name) here.1 in
      (here.0, (_, next.1.1))
  param_behind q from rest b count (inr (any_sort, is)) w =
      let here = subst (Written b count) is w in
      (here.0, (_, behind_of (form q.name) _ count rest (opens q.name) here.1))

  param_prints : (q : Param) (from rest : List Lexeme) (b : Option Form) (count : ℕ) → SpellsParam form q from rest → Written b count from → PrintsFirst (SpellsParam form q) (printed_param q) count rest
  param_prints q from rest b count h w =
      let p = param_behind q from rest b count h w in
      record {
        before = p.1.0;
        behind = p.1.1;
        again = λ b' bytes ls takes stops any. (
          param_lexemes q.name q.sort ls,
          param_spelled q.name q.sort ls,
          param_lexes q.name q.sort b' count bytes ls p.0.spelled (within_of (form q.name) b count (opens q.name) p.0) stops any,
        );
      }

  pub params_print : (ps : List Param) (from rest : List Lexeme) (b : Option Form) (count : ℕ) → SpellsSeparated (SpellsParam form) grammar.comma ps from rest → Written b count from
      → PrintsFirst (SpellsSeparated (SpellsParam form) grammar.comma ps) (printed_params ps) count rest
  params_print =
      separated_prints (SpellsParam form) printed_param grammar.comma (codes ", ") (λ n. refl) refl (λ bytes. refl)
      (λ b count bytes ls s b' h. comma_step b' count bytes ls s.within h) param_prints

pub program_params_print : (ps : List Param) (from rest : List Lexeme) (b : Option Form) (count : ℕ) → SpellsParams ps from rest → Written b count from → PrintsFirst (SpellsParams ps) (printed_params ps) count rest
program_params_print = params_print lexemes.Name (λ x n. refl) (λ x b. tt) name_token

pub variables_print : (ps : List Param) (from rest : List Lexeme) (b : Option Form) (count : ℕ) → SpellsVariables ps from rest → Written b count from → PrintsAny (SpellsVariables ps) (printed_variables ps) count rest
variables_print ps from rest b count (inner, is, k) w =
    let here = subst (Written b count) is w in
    let params = params_print lexemes.Logical (λ x n. refl) (λ x b. tt) logical_token ps inner (grammar.closing_bracket ∷ rest) _ (count + 1) k here.1 in
    let behind = bracket_closed _ count rest params.behind in
    record {
      before = _;
      behind = behind.behind;
      again = λ bytes ls any.
          let x = params.again (Some (forms.Sign signs.LeftBracket)) (93 ∷ bytes) (grammar.closing_bracket ∷ ls) refl refl
          (λ b''. right_bracket b'' count bytes ls behind.within (any _)) in (
            grammar.opening_bracket ∷ x.0,
            (x.0, refl, x.1),
            λ b'. subst (λ t. Lexes b' count t (grammar.opening_bracket ∷ x.0)) (sym (three (codes "[") (printed_params ps) (codes "]") bytes))
                (left_bracket b' count (printed_params ps ++ 93 ∷ bytes) x.0 here.0.within x.2),
          );
    }

-- ---- uses

-- what follows a semicolon
pub semicolon_blank : {X : Type 0} (printed : List X → List ℕ) (xs : List X) (b : Option Form) (count : ℕ) (bytes : List ℕ) (ls : List Lexeme) → printed [] ≡ []
    → Lexes b count (printed xs ++ bytes) ls → Lexes b count (behind_semicolon printed xs ++ bytes) ls
semicolon_blank printed [] b count bytes ls none h = subst (λ text. Lexes b count (text ++ bytes) ls) none h
semicolon_blank printed (x ∷ xs) b count bytes ls none h = lexes_blank 32 b count (printed (x ∷ xs) ++ bytes) ls refl h

pub use_prints : (u : PurePredUse) (from rest : List Lexeme) (b : Option Form) (count : ℕ) → SpellsUse u from rest → Written b count from → PrintsAny (SpellsUse u) (printed_use u) count rest
use_prints u from rest b count (l, ins, outs, is_name, is, k, j) w =
    let here = subst (Written b count) is w in
    let n = named positions.Predicate u.pred l is_name here.0.spelled in
    let within = within_of l b count n.opens here.0 in
    let bracket = behind_of l _ count (grammar.opening_parenthesis ∷ ins) n.opens here.1 in
    let first = exprs_print positions.Assertion u.ins ins (grammar.semicolon ∷ outs) _ (count + 1) k bracket.1 in
    let second = exprs_print positions.Assertion u.outs outs (grammar.closing_parenthesis ∷ rest) _ (count + 1) j first.behind.1 in
    let behind = parenthesis_closed _ count rest second.behind in
    let later = behind_semicolon printed_exprs u.outs in
    record {
      before = _;
      behind = behind.behind;
      again = λ bytes ls any.
          let y = second.again (Some (forms.Sign signs.Semicolon)) (41 ∷ bytes) (grammar.closing_parenthesis ∷ ls) refl refl
          (λ b''. right_parenthesis b'' count bytes ls behind.within (any _)) in
          let x = first.again (Some (forms.Sign signs.LeftParenthesis)) (59 ∷ (later ++ 41 ∷ bytes)) (grammar.semicolon ∷ y.0) refl refl
          (λ b''. semicolon_step b'' (count + 1) (later ++ 41 ∷ bytes) y.0 bracket.0.within
          (semicolon_blank printed_exprs u.outs (Some (forms.Sign signs.Semicolon)) (count + 1) (41 ∷ bytes) y.0 refl y.2)) in (
            l ∷ grammar.opening_parenthesis ∷ x.0,
            (l, x.0, y.0, is_name, refl, x.1, y.1),
            λ b'. subst (λ t. Lexes b' count t (l ∷ grammar.opening_parenthesis ∷ x.0))
                (sym (six u.pred (codes "(") (printed_exprs u.ins) (codes ";") later (codes ")") bytes))
                (lexes_of l u.pred n.opens n.token b' count (40 ∷ (printed_exprs u.ins ++ (59 ∷ (later ++ 41 ∷ bytes)))) (grammar.opening_parenthesis ∷ x.0) (n.may b') within refl
                (left_parenthesis _ count (printed_exprs u.ins ++ (59 ∷ (later ++ 41 ∷ bytes))) x.0 bracket.0.within x.2)),
          );
    }

-- ---- assertions

item_prints : (item : PureItem) (from rest : List Lexeme) (b : Option Form) (count : ℕ) → SpellsItem item from rest → Written b count from → PrintsFirst (SpellsItem item) (printed_item item) count rest
item_prints (pure e) from rest b count (may, k) w =
    let h = first_of (expr_prints positions.Assertion e from rest b count k w) in
    record {
      before = h.before;
      behind = h.behind;
      again = λ b' bytes ls takes stops any. let x = h.again b' bytes ls takes stops any in (x.0, (may, x.1), x.2);
    }
item_prints (uses u) from rest b count k w = first_of_any (use_prints u from rest b count k w)

assertion_prints : (items : List PureItem) (from rest : List Lexeme) (b : Option Form) (count : ℕ) → SpellsAssertion items from rest → Written b count from
    → PrintsFirst (SpellsAssertion items) (printed_assertion items) count rest
unfolding word_bytes
assertion_prints [] from rest b count is w =
    let here = subst (Written b count) is w in
    record {
      before = _;
      behind = here.1;
      again = λ b' bytes ls takes stops any. (lexemes.Word words.Emp ∷ ls, refl, lexes_word words.Emp b' count bytes ls here.0.within stops (any _));
    }
assertion_prints (item ∷ items) from rest b count k w =
    separated_prints SpellsItem printed_item (lexemes.Sign signs.Star) (codes " * ") (λ n. refl) refl (λ bytes. refl)
    (λ b count bytes ls s b' h. star_step b' count bytes ls s.within h) item_prints (item ∷ items) from rest b count k w

pub block_prints : (items : List PureItem) (from rest : List Lexeme) (b : Option Form) (count : ℕ) → SpellsBlock items from rest → Written b count from → PrintsAny (SpellsBlock items) (printed_block items) count rest
block_prints items from rest b count (inner, is, k) w =
    let here = subst (Written b count) is w in
    let assertion = assertion_prints items inner (grammar.closing_brace ∷ rest) _ (count + 1) k here.1 in
    let behind = brace_closed _ count rest assertion.behind in
    let text = printed_assertion items in
    record {
      before = _;
      behind = behind.behind;
      again = λ bytes ls any.
          let x = assertion.again (Some (forms.Sign signs.LeftBrace)) (32 ∷ 125 ∷ bytes) (grammar.closing_brace ∷ ls) refl refl
          (λ b''. lexes_blank 32 b'' (count + 1) (125 ∷ bytes) (grammar.closing_brace ∷ ls) refl (right_brace b'' count bytes ls behind.within (any _))) in (
            grammar.opening_brace ∷ x.0,
            (x.0, refl, x.1),
            λ b'. subst (λ t. Lexes b' count t (grammar.opening_brace ∷ x.0)) (sym (three (codes "{ ") text (codes " }") bytes))
                (left_brace b' count (32 ∷ (text ++ 32 ∷ 125 ∷ bytes)) x.0 here.0.within (lexes_blank 32 _ (count + 1) (text ++ 32 ∷ 125 ∷ bytes) x.0 refl x.2)),
          );
    }

pub blocks_print : (blocks : List (List PureItem)) (from rest : List Lexeme) (b : Option Form) (count : ℕ) → SpellsBlocks blocks from rest → Written b count from
    → PrintsAny (SpellsBlocks blocks) (printed_blocks blocks) count rest
blocks_print = some_print SpellsBlock printed_block (codes " ") (λ b count bytes ls h. lexes_blank 32 b count bytes ls refl h) block_prints

-- ---- postconditions, each behind a blank

error_prints : (items : List PureItem) (from rest : List Lexeme) (b : Option Form) (count : ℕ) → SpellsError items from rest → Written b count from → PrintsAny (SpellsError items) (printed_error items) count rest
unfolding word_bytes
error_prints items from rest b count (block, is, k) w =
    let here = subst (Written b count) is w in
    let inner = block_prints items block rest _ count k here.1 in
    record {
      before = _;
      behind = inner.behind;
      again = λ bytes ls any.
          let x = inner.again bytes ls any in
          (lexemes.Word words.Throw ∷ x.0, (x.0, refl, x.1), λ b'. word_and_blank words.Throw b' count (printed_block items ++ bytes) x.0 here.0.within (x.2 _));
    }

some_blocks : (blocks : List (List PureItem)) (from rest : List Lexeme) (b : Option Form) (count : ℕ) → SpellsEach SpellsBlock blocks from rest → Written b count from
    → PrintsAny (SpellsEach SpellsBlock blocks) (flat_map (λ items. codes " " ++ printed_block items) blocks) count rest
some_blocks = each_prints SpellsBlock printed_block (codes " ") (λ b count bytes ls h. lexes_blank 32 b count bytes ls refl h) block_prints

some_errors : (blocks : List (List PureItem)) (from rest : List Lexeme) (b : Option Form) (count : ℕ) → SpellsEach SpellsError blocks from rest → Written b count from
    → PrintsAny (SpellsEach SpellsError blocks) (flat_map (λ items. codes " " ++ printed_error items) blocks) count rest
some_errors = each_prints SpellsError printed_error (codes " ") (λ b count bytes ls h. lexes_blank 32 b count bytes ls refl h) error_prints

pub posts_print : (posts errors : List (List PureItem)) (from rest : List Lexeme) (b : Option Form) (count : ℕ) → SpellsPosts posts errors from rest → Written b count from
    → PrintsAny (SpellsPosts posts errors) (printed_posts posts errors) count rest
posts_print [] [] from rest b count h w = absurd h
posts_print [] (x ∷ xs) from rest b count h w =
    let all = some_errors (x ∷ xs) from rest b count h w in
    record { before = all.before; behind = all.behind; again = all.again }
posts_print (x ∷ xs) errors from rest b count (middle, h, k) w =
    let posts = some_blocks (x ∷ xs) from middle b count h w in
    let others = some_errors errors middle rest _ count k posts.behind in
    let late = flat_map (λ items. codes " " ++ printed_error items) errors in
    record {
      before = _;
      behind = others.behind;
      again = λ bytes ls any.
          let z = others.again bytes ls any in
          let y = posts.again (late ++ bytes) z.0 z.2 in
          (y.0, (z.0, y.1, z.1), λ b'. subst (λ t. Lexes b' count t y.0) (sym (append_assoc (flat_map (λ items. codes " " ++ printed_block items) (x ∷ xs)) late bytes)) (y.2 b'));
    }
