-- Printed commands.
use Rattle.std.proofs.Common.{◌≡◌, ℕ, ◌+◌, ◌≤◌, ℤ, List, ◌∷◌, ◌++◌, Option, Some, None, refl, sym, subst, append_assoc}
use Rattle.std.specs.Prelude.{codes}
use Rattle.gil_values.specs.declared.kinds.Kind.{Kind}
use Rattle.gil_values.specs.declared.kinds.Kind.TheVariants as kinds
use Rattle.gil_values.specs.Printed.{signed_numeral}
use Rattle.gil_lexer.specs.Words.{word_bytes}
use Rattle.gil_lexer.specs.declared.forms.Form.{Form}
use Rattle.gil_lexer.specs.declared.forms.Form.TheVariants as forms
use Rattle.gil_lexer.specs.declared.signs.Sign.TheVariants as signs
use Rattle.gil_lexer.specs.declared.words.Word.{Word}
use Rattle.gil_lexer.specs.declared.words.Word.TheVariants as words
use Rattle.gil_lexemes.specs.declared.standing.Lexeme.{Lexeme}
use Rattle.gil_lexemes.specs.declared.standing.Lexeme.TheVariants as lexemes
use Rattle.gil_syntax.specs.declared.assertions.Param.{Param}
use Rattle.gil_syntax.specs.Pure.{PureExpr, PureItem, PureCommand, assign, call, act, usym, isym, ifgoto, return, fail, throw, vanish, fold_use, unfold_use, assert_that, loop_invariant}
use Rattle.gil_grammar.specs.declared.positions.Position.TheVariants as positions
use Rattle.gil_grammar.specs.Assertions.{SpellsBlock, SpellsUse}
use Rattle.gil_grammar.specs.Commands.{SpellsName, SpellsNames, SpellsHandler, SpellsCommand, SpellsStatement}
use Rattle.gil_grammar.specs.Expressions.{SpellsExpr, SpellsExprs}
use Rattle.gil_grammar.specs.Nesting.{most_open}
use Rattle.gil_grammar.specs.Vocabulary as grammar
use Rattle.gil_grammar.proofs.ListLaws.{found_is}
use Rattle.syntax_print.specs.Assertions.{printed_variables, printed_use, printed_block}
use Rattle.syntax_print.specs.Commands.{input_name, printed_names, printed_handler, printed_command}
use Rattle.syntax_print.specs.Expressions.{printed_expr, printed_exprs}
use Rattle.gil_print.proofs.Lexing.{IsSpelled, Written, Lexes, Anywhere, lexes_blank}
use Rattle.gil_print.proofs.Expressions.{four, behind_of, parenthesis_closed, expr_prints, exprs_print}
use Rattle.gil_print.proofs.Assertions.{six, seven, variables_print, use_prints, block_prints}
use Rattle.gil_print.proofs.Pieces.{PrintsFirst, PrintsAny, PrintsBare, first_of, first_of_any, three, separated_prints}
use Rattle.gil_print.proofs.Tokens.{named, name_token, number_token, lexes_of, lexes_word, word_and_blank, comma_step, becomes_step, semicolon_step, left_parenthesis, right_parenthesis}

-- ---- names

name_prints : (x : List ℕ) (from rest : List Lexeme) (b : Option Form) (count : ℕ) → SpellsName x from rest → Written b count from → PrintsFirst (SpellsName x) x count rest
name_prints x from rest b count is w =
    let here = subst (Written b count) is w in
    record {
      before = _;
      behind = here.1;
      again = λ b' bytes ls takes stops any.
          (lexemes.Name x ∷ ls, refl, lexes_of (lexemes.Name x) x (λ n. refl) (name_token x here.0.spelled) b' count bytes ls tt here.0.within stops (any (Some forms.Name)));
    }

pub names_print : (xs : List (List ℕ)) (from rest : List Lexeme) (b : Option Form) (count : ℕ) → SpellsNames xs from rest → Written b count from → PrintsFirst (SpellsNames xs) (printed_names xs) count rest
names_print =
    separated_prints SpellsName (λ x. x) grammar.comma (codes ", ") (λ n. refl) refl (λ bytes. refl)
    (λ b count bytes ls s b' h. comma_step b' count bytes ls s.within h) name_prints

-- a variable and the sign behind it
assigned : (x : List ℕ) (b : Option Form) (count : ℕ) (bytes : List ℕ) (ls : List Lexeme) → IsSpelled (lexemes.Name x) → count ≤ most_open
    → Lexes (Some (forms.Sign signs.ColonEqual)) count bytes ls → Lexes b count (x ++ (codes " := " ++ bytes)) (lexemes.Name x ∷ grammar.becomes ∷ ls)
assigned x b count bytes ls spelled within h =
    lexes_of (lexemes.Name x) x (λ n. refl) (name_token x spelled) b count (codes " := " ++ bytes) (grammar.becomes ∷ ls) tt within refl
    (becomes_step (Some forms.Name) count bytes ls within h)

-- ---- what follows a word or a variable

-- arguments in brackets
record Arguments (es : List PureExpr) (count : ℕ) (rest : List Lexeme) : Type 0 where
  before : Option Form
  behind : Written before count rest
  again : (bytes : List ℕ) (ls : List Lexeme) → Anywhere count bytes ls
      → (from : List Lexeme) × SpellsExprs positions.Command es from (grammar.closing_parenthesis ∷ ls)
      × ((b : Option Form) → Lexes b count (40 ∷ (printed_exprs es ++ 41 ∷ bytes)) (grammar.opening_parenthesis ∷ from))

arguments_print : (es : List PureExpr) (arguments rest : List Lexeme) (b : Option Form) (count : ℕ) → SpellsExprs positions.Command es arguments (grammar.closing_parenthesis ∷ rest)
    → Written b count (grammar.opening_parenthesis ∷ arguments) → Arguments es count rest
arguments_print es arguments rest b count k w =
    let inner = exprs_print positions.Command es arguments (grammar.closing_parenthesis ∷ rest) _ (count + 1) k w.1 in
    let behind = parenthesis_closed _ count rest inner.behind in
    record {
      before = _;
      behind = behind.behind;
      again = λ bytes ls any.
          let x = inner.again (Some (forms.Sign signs.LeftParenthesis)) (41 ∷ bytes) (grammar.closing_parenthesis ∷ ls) refl refl
          (λ b''. right_parenthesis b'' count bytes ls behind.within (any _)) in
          (x.0, x.1, λ b'. left_parenthesis b' count (printed_exprs es ++ 41 ∷ bytes) x.0 w.0.within x.2);
    }

input_spelled : (k : Kind) (word : Word) → grammar.input_word k ≡ Some word → word_bytes word ≡ input_name k
unfolding word_bytes
input_spelled kinds.Int word e = subst (λ w. word_bytes w ≡ codes "int") (found_is _ word e) refl
input_spelled kinds.Bool word e = subst (λ w. word_bytes w ≡ codes "bool") (found_is _ word e) refl
input_spelled kinds.Str word e = subst (λ w. word_bytes w ≡ codes "str") (found_is _ word e) refl
input_spelled _ word e = absurd cc

-- ---- commands

assign_prints : (x : List ℕ) (e : PureExpr) (from rest : List Lexeme) (b : Option Form) (count : ℕ) → SpellsCommand (assign x e) from rest → Written b count from
    → PrintsBare (SpellsCommand (assign x e)) (printed_command (assign x e)) count rest
assign_prints x e from rest b count (value, is, k) w =
    let here = subst (Written b count) is w in
    let expression = expr_prints positions.Command e value rest _ count k here.1.1 in
    record {
      before = _;
      behind = expression.behind;
      again = λ bytes ls stops any.
          let y = expression.again (Some (forms.Sign signs.ColonEqual)) bytes ls refl stops (any _) in (
            lexemes.Name x ∷ grammar.becomes ∷ y.0,
            (y.0, refl, y.1),
            λ b'. subst (λ t. Lexes b' count t (lexemes.Name x ∷ grammar.becomes ∷ y.0)) (sym (three x (codes " := ") (printed_expr e) bytes))
                (assigned x b' count (printed_expr e ++ bytes) y.0 here.0.spelled here.0.within y.2),
          );
    }

-- ` catch label`, or nothing
handler_prints : (handler : Option ℤ) (from rest : List Lexeme) (b : Option Form) (count : ℕ) → SpellsHandler handler from rest → Written b count from
    → PrintsBare (SpellsHandler handler) (printed_handler handler) count rest
unfolding word_bytes
handler_prints None from rest b count is w = record { before = b; behind = subst (Written b count) is w; again = λ bytes ls stops any. (ls, refl, any) }
handler_prints (Some label) from rest b count is w =
    let here = subst (Written b count) is w in
    let number = here.1 in
    record {
      before = _;
      behind = number.1;
      again = λ bytes ls stops any.
          let text = signed_numeral label ++ bytes in (
            lexemes.Word words.Catch ∷ lexemes.Number label ∷ ls,
            refl,
            λ b'. lexes_blank 32 b' count (codes "catch " ++ text) (lexemes.Word words.Catch ∷ lexemes.Number label ∷ ls) refl
                (word_and_blank words.Catch b' count text (lexemes.Number label ∷ ls) here.0.within
                (lexes_of (lexemes.Number label) (signed_numeral label) (λ n. refl) (number_token label number.0.spelled) (Some (forms.Word words.Catch)) count bytes ls number.0.may number.0.within stops (any _))),
          );
    }

call_prints : (x : List ℕ) (e : PureExpr) (es : List PureExpr) (handler : Option ℤ) (from rest : List Lexeme) (b : Option Form) (count : ℕ)
    → SpellsCommand (call x e es handler) from rest → Written b count from → PrintsBare (SpellsCommand (call x e es handler)) (printed_command (call x e es handler)) count rest
unfolding word_bytes
call_prints x e es handler from rest b count (callee, arguments, after, is, k, j, i) w =
    let here = subst (Written b count) is w in
    let expression = expr_prints positions.Command e callee (grammar.opening_parenthesis ∷ arguments) _ count k here.1.1.1 in
    let given = arguments_print es arguments after _ count j expression.behind in
    let label = handler_prints handler after rest _ count i given.behind in
    record {
      before = _;
      behind = label.behind;
      again = λ bytes ls stops any.
          let v = label.again bytes ls stops any in
          let late = printed_handler handler ++ bytes in
          let z = given.again late v.0 v.2 in
          let text = 40 ∷ (printed_exprs es ++ 41 ∷ late) in
          let y = expression.again (Some (forms.Word words.Call)) text (grammar.opening_parenthesis ∷ z.0) refl refl (z.2 _) in
          let read = lexemes.Name x ∷ grammar.becomes ∷ lexemes.Word words.Call ∷ y.0 in (
            read,
            (y.0, z.0, v.0, refl, y.1, z.1, v.1),
            λ b'. subst (λ t. Lexes b' count t read) (sym (seven x (codes " := call ") (printed_expr e) (codes "(") (printed_exprs es) (codes ")") (printed_handler handler) bytes))
                (assigned x b' count (codes "call " ++ (printed_expr e ++ text)) (lexemes.Word words.Call ∷ y.0) here.0.spelled here.0.within
                (word_and_blank words.Call _ count (printed_expr e ++ text) y.0 here.0.within y.2)),
          );
    }

act_prints : (x action : List ℕ) (es : List PureExpr) (from rest : List Lexeme) (b : Option Form) (count : ℕ) → SpellsCommand (act x action es) from rest → Written b count from
    → PrintsBare (SpellsCommand (act x action es)) (printed_command (act x action es)) count rest
unfolding word_bytes
act_prints x action es from rest b count (l, arguments, is_name, is, k) w =
    let here = subst (Written b count) is w in
    let n = named positions.Action action l is_name here.1.1.1.0.spelled in
    let given = arguments_print es arguments rest _ count k (behind_of l _ count (grammar.opening_parenthesis ∷ arguments) n.opens here.1.1.1.1) in
    record {
      before = _;
      behind = given.behind;
      again = λ bytes ls stops any.
          let z = given.again bytes ls any in
          let text = 40 ∷ (printed_exprs es ++ 41 ∷ bytes) in
          let read = l ∷ grammar.opening_parenthesis ∷ z.0 in (
            lexemes.Name x ∷ grammar.becomes ∷ lexemes.Word words.Do ∷ read,
            (l, z.0, is_name, refl, z.1),
            λ b'. subst (λ t. Lexes b' count t (lexemes.Name x ∷ grammar.becomes ∷ lexemes.Word words.Do ∷ read)) (sym (six x (codes " := do ") action (codes "(") (printed_exprs es) (codes ")") bytes))
                (assigned x b' count (codes "do " ++ (action ++ text)) (lexemes.Word words.Do ∷ read) here.0.spelled here.0.within
                (word_and_blank words.Do _ count (action ++ text) read here.0.within
                (lexes_of l action n.opens n.token _ count text (grammar.opening_parenthesis ∷ z.0) (n.may (Some (forms.Word words.Do))) here.0.within refl (z.2 _)))),
          );
    }

usym_prints : (x : List ℕ) (from rest : List Lexeme) (b : Option Form) (count : ℕ) → SpellsCommand (usym x) from rest → Written b count from
    → PrintsBare (SpellsCommand (usym x)) (printed_command (usym x)) count rest
unfolding word_bytes
usym_prints x from rest b count is w =
    let here = subst (Written b count) is w in
    record {
      before = _;
      behind = here.1.1.1;
      again = λ bytes ls stops any. (
        lexemes.Name x ∷ grammar.becomes ∷ lexemes.Word words.Usym ∷ ls,
        refl,
        λ b'. subst (λ t. Lexes b' count t (lexemes.Name x ∷ grammar.becomes ∷ lexemes.Word words.Usym ∷ ls)) (sym (append_assoc x (codes " := usym") bytes))
            (assigned x b' count (codes "usym" ++ bytes) (lexemes.Word words.Usym ∷ ls) here.0.spelled here.0.within
            (lexes_word words.Usym _ count bytes ls here.0.within stops (any _))),
      );
    }

isym_prints : (x : List ℕ) (k : Kind) (from rest : List Lexeme) (b : Option Form) (count : ℕ) → SpellsCommand (isym x k) from rest → Written b count from
    → PrintsBare (SpellsCommand (isym x k)) (printed_command (isym x k)) count rest
unfolding word_bytes
isym_prints x k from rest b count (word, says, is) w =
    let here = subst (Written b count) is w in
    record {
      before = _;
      behind = here.1.1.1.1;
      again = λ bytes ls stops any.
          let read = lexemes.Name x ∷ grammar.becomes ∷ lexemes.Word words.Isym ∷ lexemes.Word word ∷ ls in (
            read,
            (word, says, refl),
            λ b'. subst (λ t. Lexes b' count t read) (sym (three x (codes " := isym ") (input_name k) bytes))
                (assigned x b' count (codes "isym " ++ (input_name k ++ bytes)) (lexemes.Word words.Isym ∷ lexemes.Word word ∷ ls) here.0.spelled here.0.within
                (word_and_blank words.Isym _ count (input_name k ++ bytes) (lexemes.Word word ∷ ls) here.0.within
                (subst (λ t. Lexes (Some (forms.Word words.Isym)) count (t ++ bytes) (lexemes.Word word ∷ ls)) (input_spelled k word says)
                (lexes_word word _ count bytes ls here.0.within stops (any _))))),
          );
    }

ifgoto_prints : (e : PureExpr) (i : ℤ) (from rest : List Lexeme) (b : Option Form) (count : ℕ) → SpellsCommand (ifgoto e i) from rest → Written b count from
    → PrintsBare (SpellsCommand (ifgoto e i)) (printed_command (ifgoto e i)) count rest
unfolding word_bytes
ifgoto_prints e i from rest b count (guard, is, k) w =
    let here = subst (Written b count) is w in
    let expression = expr_prints positions.Command e guard (lexemes.Number i ∷ rest) _ count k here.1 in
    let label = expression.behind in
    record {
      before = _;
      behind = label.1;
      again = λ bytes ls stops any.
          let number = lexes_of (lexemes.Number i) (signed_numeral i) (λ n. refl) (number_token i label.0.spelled) (Some expression.last) count bytes ls label.0.may label.0.within stops (any _) in
          let text = 32 ∷ (signed_numeral i ++ bytes) in
          let y = expression.again (Some (forms.Word words.Ifgoto)) text (lexemes.Number i ∷ ls) refl refl
          (lexes_blank 32 (Some expression.last) count (signed_numeral i ++ bytes) (lexemes.Number i ∷ ls) refl number) in (
            lexemes.Word words.Ifgoto ∷ y.0,
            (y.0, refl, y.1),
            λ b'. subst (λ t. Lexes b' count t (lexemes.Word words.Ifgoto ∷ y.0)) (sym (four (codes "ifgoto ") (printed_expr e) (codes " ") (signed_numeral i) bytes))
                (word_and_blank words.Ifgoto b' count (printed_expr e ++ text) y.0 here.0.within y.2),
          );
    }

vanish_prints : (from rest : List Lexeme) (b : Option Form) (count : ℕ) → SpellsCommand vanish from rest → Written b count from → PrintsBare (SpellsCommand vanish) (printed_command vanish) count rest
unfolding word_bytes
vanish_prints from rest b count is w =
    let here = subst (Written b count) is w in
    record {
      before = _;
      behind = here.1;
      again = λ bytes ls stops any. (lexemes.Word words.Vanish ∷ ls, refl, λ b'. lexes_word words.Vanish b' count bytes ls here.0.within stops (any _));
    }

-- a word and what follows it
worded : (word : Word) (before : List ℕ) → before ≡ word_bytes word ++ codes " " → (spells : List Lexeme → List Lexeme → Type 0) (printed : List ℕ) (from inner rest : List Lexeme) (b : Option Form) (count : ℕ)
    → from ≡ lexemes.Word word ∷ inner → Written b count from → (Written (Some (forms.Word word)) count inner → PrintsFirst spells printed count rest)
    → PrintsBare (λ ls left. (inner : List Lexeme) × (ls ≡ lexemes.Word word ∷ inner) × spells inner left) (before ++ printed) count rest
worded word before spelled spells printed from inner rest b count is w prints =
    let here = subst (Written b count) is w in
    let thing = prints here.1 in
    record {
      before = _;
      behind = thing.behind;
      again = λ bytes ls stops any.
          let y = thing.again (Some (forms.Word word)) bytes ls refl stops any in (
            lexemes.Word word ∷ y.0,
            (y.0, refl, y.1),
            λ b'. subst (λ t. Lexes b' count ((t ++ printed) ++ bytes) (lexemes.Word word ∷ y.0)) (sym spelled)
                (subst (λ t. Lexes b' count t (lexemes.Word word ∷ y.0)) (sym (three (word_bytes word) (codes " ") printed bytes))
                (word_and_blank word b' count (printed ++ bytes) y.0 here.0.within y.2)),
          );
    }

invariant_prints : (xs : List (List ℕ)) (ps : List Param) (items : List PureItem) (from rest : List Lexeme) (b : Option Form) (count : ℕ) → SpellsCommand (loop_invariant xs ps items) from rest → Written b count from
    → PrintsBare (SpellsCommand (loop_invariant xs ps items)) (printed_command (loop_invariant xs ps items)) count rest
unfolding word_bytes
invariant_prints xs ps items from rest b count (names, variables, block, is, k, j, i) w =
    let here = subst (Written b count) is w in
    let listed = names_print xs names (grammar.closing_parenthesis ∷ variables) _ (count + 1) k here.1.1 in
    let behind = parenthesis_closed _ count variables listed.behind in
    let logicals = variables_print ps variables block _ count j behind.behind in
    let assertion = block_prints items block rest _ count i logicals.behind in
    record {
      before = _;
      behind = assertion.behind;
      again = λ bytes ls stops any.
          let x = assertion.again bytes ls any in
          let y = logicals.again (32 ∷ (printed_block items ++ bytes)) x.0 (λ b''. lexes_blank 32 b'' count (printed_block items ++ bytes) x.0 refl (x.2 b'')) in
          let text = printed_variables ps ++ (32 ∷ (printed_block items ++ bytes)) in
          let z = listed.again (Some (forms.Sign signs.LeftParenthesis)) (41 ∷ 32 ∷ text) (grammar.closing_parenthesis ∷ y.0) refl refl
          (λ b''. right_parenthesis b'' count (32 ∷ text) y.0 behind.within (lexes_blank 32 _ count text y.0 refl (y.2 _))) in
          let read = lexemes.Word words.Invariant ∷ grammar.opening_parenthesis ∷ z.0 in (
            read,
            (z.0, y.0, x.0, refl, z.1, y.1, x.1),
            λ b'. subst (λ t. Lexes b' count t read) (sym (six (codes "invariant (") (printed_names xs) (codes ") ") (printed_variables ps) (codes " ") (printed_block items) bytes))
                (word_and_blank words.Invariant b' count (40 ∷ (printed_names xs ++ (41 ∷ 32 ∷ text))) (grammar.opening_parenthesis ∷ z.0) here.0.within
                (left_parenthesis _ count (printed_names xs ++ (41 ∷ 32 ∷ text)) z.0 here.1.0.within z.2)),
          );
    }

pub command_prints : (c : PureCommand) (from rest : List Lexeme) (b : Option Form) (count : ℕ) → SpellsCommand c from rest → Written b count from
    → PrintsBare (SpellsCommand c) (printed_command c) count rest
unfolding word_bytes
command_prints (assign x e) from rest b count h w = assign_prints x e from rest b count h w
command_prints (call x e es handler) from rest b count h w = call_prints x e es handler from rest b count h w
command_prints (act x action es) from rest b count h w = act_prints x action es from rest b count h w
command_prints (usym x) from rest b count h w = usym_prints x from rest b count h w
command_prints (isym x k) from rest b count h w = isym_prints x k from rest b count h w
command_prints (ifgoto e i) from rest b count h w = ifgoto_prints e i from rest b count h w
command_prints (return e) from rest b count (value, is, k) w =
    worded words.Return (codes "return ") refl (SpellsExpr positions.Command e) (printed_expr e) from value rest b count is w
    (λ w'. first_of (expr_prints positions.Command e value rest _ count k w'))
command_prints (fail e) from rest b count (value, is, k) w =
    worded words.Fail (codes "fail ") refl (SpellsExpr positions.Command e) (printed_expr e) from value rest b count is w
    (λ w'. first_of (expr_prints positions.Command e value rest _ count k w'))
command_prints (throw e) from rest b count (value, is, k) w =
    worded words.Throw (codes "throw ") refl (SpellsExpr positions.Command e) (printed_expr e) from value rest b count is w
    (λ w'. first_of (expr_prints positions.Command e value rest _ count k w'))
command_prints vanish from rest b count h w = vanish_prints from rest b count h w
command_prints (fold_use u) from rest b count (inner, is, k) w =
    worded words.Fold (codes "fold ") refl (SpellsUse u) (printed_use u) from inner rest b count is w (λ w'. first_of_any (use_prints u inner rest _ count k w'))
command_prints (unfold_use u) from rest b count (inner, is, k) w =
    worded words.Unfold (codes "unfold ") refl (SpellsUse u) (printed_use u) from inner rest b count is w (λ w'. first_of_any (use_prints u inner rest _ count k w'))
command_prints (assert_that items) from rest b count (block, is, k) w =
    worded words.Assert (codes "assert ") refl (SpellsBlock items) (printed_block items) from block rest b count is w (λ w'. first_of_any (block_prints items block rest _ count k w'))
command_prints (loop_invariant xs ps items) from rest b count h w = invariant_prints xs ps items from rest b count h w

-- the line of a command
abbrev pub line_of : PureCommand → List ℕ
line_of c = printed_command c ++ codes ";\n"

pub statement_prints : (c : PureCommand) (from rest : List Lexeme) (b : Option Form) (count : ℕ) → SpellsStatement c from rest → Written b count from
    → PrintsAny (SpellsStatement c) (line_of c) count rest
statement_prints c from rest b count k w =
    let command = command_prints c from (grammar.semicolon ∷ rest) b count k w in
    record {
      before = _;
      behind = command.behind.1;
      again = λ bytes ls any.
          let x = command.again (59 ∷ 10 ∷ bytes) (grammar.semicolon ∷ ls) refl
          (λ b''. semicolon_step b'' count (10 ∷ bytes) ls command.behind.0.within (lexes_blank 10 _ count bytes ls refl (any _))) in
          (x.0, x.1, λ b'. subst (λ t. Lexes b' count t x.0) (sym (append_assoc (printed_command c) (codes ";\n") bytes)) (x.2 b'));
    }
