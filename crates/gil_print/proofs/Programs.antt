-- Printed procedures, specifications and predicates.
use Rattle.std.proofs.Common.{◌≡◌, ℕ, ◌+◌, List, [], ◌∷◌, ◌++◌, Option, Some, refl, sym, ap, subst, append_assoc}
use Rattle.std.specs.Prelude.{codes}
use Rattle.std.specs.List.{flat_map}
use Rattle.gil_lexer.specs.Words.{word_bytes}
use Rattle.gil_lexer.specs.declared.forms.Form.{Form}
use Rattle.gil_lexer.specs.declared.forms.Form.TheVariants as forms
use Rattle.gil_lexer.specs.declared.signs.Sign.TheVariants as signs
use Rattle.gil_lexer.specs.declared.words.Word.TheVariants as words
use Rattle.gil_lexemes.specs.declared.standing.Lexeme.{Lexeme}
use Rattle.gil_lexemes.specs.declared.standing.Lexeme.TheVariants as lexemes
use Rattle.gil_syntax.specs.Pure.{PureNumberedCommand, PureProc, PureSpec, PurePredDef}
use Rattle.gil_syntax.specs.Valid.{ProgramItem, a_proc, a_spec, a_pred}
use Rattle.gil_grammar.specs.declared.positions.Position.TheVariants as positions
use Rattle.gil_grammar.specs.Commands.{SpellsStatement}
use Rattle.gil_grammar.specs.Programs.{commands_of, SpellsProc, SpellsSpec, SpellsPred, SpellsProgramItem}
use Rattle.gil_grammar.specs.Vocabulary as grammar
use Rattle.syntax_print.specs.Assertions.{printed_params, printed_variables, printed_block, printed_posts, printed_blocks, behind_semicolon}
use Rattle.syntax_print.specs.Commands.{printed_names}
use Rattle.syntax_print.specs.Programs.{printed_statement, printed_proc, printed_spec, printed_pred}
use Rattle.gil_print.proofs.Lexing.{Written, Lexes, lexes_blank}
use Rattle.gil_print.proofs.Expressions.{behind_of, parenthesis_closed, brace_closed}
use Rattle.gil_print.proofs.Assertions.{seven, program_params_print, variables_print, block_prints, blocks_print, posts_print, semicolon_blank}
use Rattle.gil_print.proofs.Commands.{names_print, line_of, statement_prints}
use Rattle.gil_print.proofs.Pieces.{PrintsAny, each_prints}
use Rattle.gil_print.proofs.Tokens.{named, name_token, lexes_of, word_and_blank, semicolon_step, left_parenthesis, right_parenthesis, left_brace, right_brace}

ten : (a b c d e f g h i j k : List ℕ)
    → (((((((((a ++ b) ++ c) ++ d) ++ e) ++ f) ++ g) ++ h) ++ i) ++ j) ++ k ≡ a ++ (b ++ (c ++ (d ++ (e ++ (f ++ (g ++ (h ++ (i ++ (j ++ k)))))))))
ten a b c d e f g h i j k = simp append_assoc

eleven : (a b c d e f g h i j k l : List ℕ)
    → ((((((((((a ++ b) ++ c) ++ d) ++ e) ++ f) ++ g) ++ h) ++ i) ++ j) ++ k) ++ l ≡ a ++ (b ++ (c ++ (d ++ (e ++ (f ++ (g ++ (h ++ (i ++ (j ++ (k ++ l))))))))))
eleven a b c d e f g h i j k l = simp append_assoc

-- the lines of a body, by its commands
lines_of : (body : List PureNumberedCommand) → flat_map line_of (commands_of body) ≡ flat_map printed_statement body
lines_of [] = refl
lines_of (c ∷ body) = ap (λ rest. line_of c.command ++ rest) (lines_of body)

pub proc_prints : (q : PureProc) (from rest : List Lexeme) (b : Option Form) (count : ℕ) → SpellsProc q from rest → Written b count from → PrintsAny (SpellsProc q) (printed_proc q) count rest
unfolding word_bytes
proc_prints q from rest b count (params, body, is, k, j, numbered) w =
    let here = subst (Written b count) is w in
    let listed = names_print q.params params (grammar.closing_parenthesis ∷ grammar.opening_brace ∷ body) _ (count + 1) k here.1.1.1 in
    let behind = parenthesis_closed _ count (grammar.opening_brace ∷ body) listed.behind in
    let commands = each_prints SpellsStatement line_of [] (λ b count bytes ls h. h) statement_prints (commands_of q.body) body (grammar.closing_brace ∷ rest) _ (count + 1) j behind.behind.1 in
    let ended = brace_closed _ count rest commands.behind in
    let lines = flat_map printed_statement q.body in
    record {
      before = _;
      behind = ended.behind;
      again = λ bytes ls any.
          let x = commands.again (125 ∷ 10 ∷ bytes) (grammar.closing_brace ∷ ls)
          (λ b''. right_brace b'' count (10 ∷ bytes) ls ended.within (lexes_blank 10 _ count bytes ls refl (any _))) in
          let inner : Lexes (Some (forms.Sign signs.LeftBrace)) (count + 1) (10 ∷ (lines ++ 125 ∷ 10 ∷ bytes)) x.0 =
          lexes_blank 10 (Some (forms.Sign signs.LeftBrace)) (count + 1) (lines ++ 125 ∷ 10 ∷ bytes) x.0 refl
          (subst (λ t. Lexes (Some (forms.Sign signs.LeftBrace)) (count + 1) (t ++ 125 ∷ 10 ∷ bytes) x.0) (lines_of q.body) (x.2 (Some (forms.Sign signs.LeftBrace)))) in
          let block = 32 ∷ 123 ∷ 10 ∷ (lines ++ 125 ∷ 10 ∷ bytes) in
          let y = listed.again (Some (forms.Sign signs.LeftParenthesis)) (41 ∷ block) (grammar.closing_parenthesis ∷ grammar.opening_brace ∷ x.0) refl refl
          (λ b''. right_parenthesis b'' count block (grammar.opening_brace ∷ x.0) behind.within
          (lexes_blank 32 _ count (123 ∷ 10 ∷ (lines ++ 125 ∷ 10 ∷ bytes)) (grammar.opening_brace ∷ x.0) refl
          (left_brace _ count (10 ∷ (lines ++ 125 ∷ 10 ∷ bytes)) x.0 behind.behind.0.within inner))) in
          let read = lexemes.Word words.Proc ∷ lexemes.Name q.name ∷ grammar.opening_parenthesis ∷ y.0 in
          let text = printed_names q.params ++ (41 ∷ block) in (
            read,
            (y.0, x.0, refl, y.1, x.1, numbered),
            λ b'. subst (λ t. Lexes b' count t read) (sym (seven (codes "proc ") q.name (codes "(") (printed_names q.params) (codes ") {\n") lines (codes "}\n") bytes))
                (word_and_blank words.Proc b' count (q.name ++ (40 ∷ text)) (lexemes.Name q.name ∷ grammar.opening_parenthesis ∷ y.0) here.0.within
                (lexes_of (lexemes.Name q.name) q.name (λ n. refl) (name_token q.name here.1.0.spelled) _ count (40 ∷ text) (grammar.opening_parenthesis ∷ y.0) tt here.0.within refl
                (left_parenthesis _ count text y.0 here.1.1.0.within y.2))),
          );
    }

pub spec_prints : (s : PureSpec) (from rest : List Lexeme) (b : Option Form) (count : ℕ) → SpellsSpec s from rest → Written b count from → PrintsAny (SpellsSpec s) (printed_spec s) count rest
unfolding word_bytes
spec_prints s from rest b count (params, variables, pre, posts, is, k, j, i, h) w =
    let here = subst (Written b count) is w in
    let listed = program_params_print s.params params (grammar.closing_parenthesis ∷ variables) _ (count + 1) k here.1.1.1 in
    let behind = parenthesis_closed _ count variables listed.behind in
    let logicals = variables_print s.logicals variables pre _ count j behind.behind in
    let before = block_prints s.pre pre posts _ count i logicals.behind in
    let after = posts_print s.posts s.errors posts rest _ count h before.behind in
    record {
      before = _;
      behind = after.behind;
      again = λ bytes ls any.
          let x = after.again (10 ∷ bytes) ls (λ b''. lexes_blank 10 b'' count bytes ls refl (any b'')) in
          let late = printed_posts s.posts s.errors ++ (10 ∷ bytes) in
          let y = before.again late x.0 x.2 in
          let blocks = printed_block s.pre ++ late in
          let z = logicals.again (32 ∷ blocks) y.0 (λ b''. lexes_blank 32 b'' count blocks y.0 refl (y.2 b'')) in
          let tail = printed_variables s.logicals ++ (32 ∷ blocks) in
          let v = listed.again (Some (forms.Sign signs.LeftParenthesis)) (41 ∷ 32 ∷ tail) (grammar.closing_parenthesis ∷ z.0) refl refl
          (λ b''. right_parenthesis b'' count (32 ∷ tail) z.0 behind.within (lexes_blank 32 _ count tail z.0 refl (z.2 _))) in
          let read = lexemes.Word words.Spec ∷ lexemes.Name s.name ∷ grammar.opening_parenthesis ∷ v.0 in
          let text = printed_params s.params ++ (41 ∷ 32 ∷ tail) in (
            read,
            (v.0, z.0, y.0, x.0, refl, v.1, z.1, y.1, x.1),
            λ b'. subst (λ t. Lexes b' count t read)
                (sym (ten (codes "spec ") s.name (codes "(") (printed_params s.params) (codes ") ") (printed_variables s.logicals) (codes " ") (printed_block s.pre) (printed_posts s.posts s.errors) (codes "\n") bytes))
                (word_and_blank words.Spec b' count (s.name ++ (40 ∷ text)) (lexemes.Name s.name ∷ grammar.opening_parenthesis ∷ v.0) here.0.within
                (lexes_of (lexemes.Name s.name) s.name (λ n. refl) (name_token s.name here.1.0.spelled) _ count (40 ∷ text) (grammar.opening_parenthesis ∷ v.0) tt here.0.within refl
                (left_parenthesis _ count text v.0 here.1.1.0.within v.2))),
          );
    }

pub pred_prints : (d : PurePredDef) (from rest : List Lexeme) (b : Option Form) (count : ℕ) → SpellsPred d from rest → Written b count from → PrintsAny (SpellsPred d) (printed_pred d) count rest
unfolding word_bytes
pred_prints d from rest b count (l, ins, outs, variables, cases, is_name, is, k, j, i, h) w =
    let here = subst (Written b count) is w in
    let n = named positions.Predicate d.name l is_name here.1.0.spelled in
    let bracket = behind_of l _ count (grammar.opening_parenthesis ∷ ins) n.opens here.1.1 in
    let given = program_params_print d.ins ins (grammar.semicolon ∷ outs) _ (count + 1) k bracket.1 in
    let gives = program_params_print d.outs outs (grammar.closing_parenthesis ∷ variables) _ (count + 1) j given.behind.1 in
    let behind = parenthesis_closed _ count variables gives.behind in
    let logicals = variables_print d.logicals variables cases _ count i behind.behind in
    let each = blocks_print d.cases cases rest _ count h logicals.behind in
    let later = behind_semicolon printed_params d.outs in
    record {
      before = _;
      behind = each.behind;
      again = λ bytes ls any.
          let x = each.again (10 ∷ bytes) ls (λ b''. lexes_blank 10 b'' count bytes ls refl (any b'')) in
          let late = printed_blocks d.cases ++ (10 ∷ bytes) in
          let y = logicals.again (32 ∷ late) x.0 (λ b''. lexes_blank 32 b'' count late x.0 refl (x.2 b'')) in
          let tail = 32 ∷ (printed_variables d.logicals ++ (32 ∷ late)) in
          let z = gives.again (Some (forms.Sign signs.Semicolon)) (41 ∷ tail) (grammar.closing_parenthesis ∷ y.0) refl refl
          (λ b''. right_parenthesis b'' count tail y.0 behind.within (lexes_blank 32 _ count (printed_variables d.logicals ++ (32 ∷ late)) y.0 refl (y.2 _))) in
          let v = given.again (Some (forms.Sign signs.LeftParenthesis)) (59 ∷ (later ++ 41 ∷ tail)) (grammar.semicolon ∷ z.0) refl refl
          (λ b''. semicolon_step b'' (count + 1) (later ++ 41 ∷ tail) z.0 bracket.0.within
          (semicolon_blank printed_params d.outs (Some (forms.Sign signs.Semicolon)) (count + 1) (41 ∷ tail) z.0 refl z.2)) in
          let read = lexemes.Word words.Pred ∷ l ∷ grammar.opening_parenthesis ∷ v.0 in
          let text = printed_params d.ins ++ (59 ∷ (later ++ 41 ∷ tail)) in (
            read,
            (l, v.0, z.0, y.0, x.0, is_name, refl, v.1, z.1, y.1, x.1),
            λ b'. subst (λ t. Lexes b' count t read)
                (sym (eleven (codes "pred ") d.name (codes "(") (printed_params d.ins) (codes ";") later (codes ") ") (printed_variables d.logicals) (codes " ") (printed_blocks d.cases) (codes "\n") bytes))
                (word_and_blank words.Pred b' count (d.name ++ (40 ∷ text)) (l ∷ grammar.opening_parenthesis ∷ v.0) here.0.within
                (lexes_of l d.name n.opens n.token _ count (40 ∷ text) (grammar.opening_parenthesis ∷ v.0) (n.may (Some (forms.Word words.Pred))) here.0.within refl
                (left_parenthesis _ count text v.0 bracket.0.within v.2))),
          );
    }

abbrev pub text_of : ProgramItem → List ℕ
text_of (a_proc q) = printed_proc q
text_of (a_spec s) = printed_spec s
text_of (a_pred d) = printed_pred d

pub item_prints : (item : ProgramItem) (from rest : List Lexeme) (b : Option Form) (count : ℕ) → SpellsProgramItem item from rest → Written b count from → PrintsAny (SpellsProgramItem item) (text_of item) count rest
item_prints (a_proc q) from rest b count h w =
    let x = proc_prints q from rest b count h w in
    record { before = x.before; behind = x.behind; again = x.again }
item_prints (a_spec s) from rest b count h w =
    let x = spec_prints s from rest b count h w in
    record { before = x.before; behind = x.behind; again = x.again }
item_prints (a_pred d) from rest b count h w =
    let x = pred_prints d from rest b count h w in
    record { before = x.before; behind = x.behind; again = x.again }
