-- What is read as procedures, specifications and predicates is spelled so, and what is spelled so is read.
use Rattle.std.proofs.Common.{◌≡◌, ◌+◌, ℕ, false, List, [], ◌∷◌, length, Some, refl, sym, ap, ◌∙◌, subst, arith}
use Rattle.gil_lexer.specs.declared.words.Word.{Word}
use Rattle.gil_lexer.specs.declared.words.Word.TheVariants as words
use Rattle.gil_lexer.specs.declared.signs.Sign.TheVariants as signs
use Rattle.gil_lexemes.specs.declared.standing.Lexeme.{Lexeme}
use Rattle.gil_lexemes.specs.declared.standing.Lexeme.TheVariants as lexemes
use Rattle.gil_lexemes.specs.Lists.{each_until}
use Rattle.gil_lexemes.specs.Reading.{first_form, is_sign, same_word, sign_at, name_at}
use Rattle.gil_lexemes.proofs.ReadingLaws.{bind_some, sign_takes, name_takes, same_sign-refl}
use Rattle.gil_syntax.specs.Pure.{PureCommand, PureNumberedCommand, PureProc, PureSpec, PurePredDef}
use Rattle.gil_syntax.specs.Programs.{numbered_from}
use Rattle.gil_syntax.specs.Valid.{ProgramItem, a_proc, a_spec, a_pred}
use Rattle.gil_grammar.specs.declared.positions.Position.TheVariants.{Predicate}
use Rattle.gil_grammar.specs.declared.positions.Naming.TheVariants.{Program}
use Rattle.gil_grammar.specs.declared.positions.Extent.{Extent}
use Rattle.gil_grammar.specs.declared.positions.Extent.TheVariants.{Whole}
use Rattle.gil_grammar.specs.declared.positions.Opening.TheVariants.{Brace, Throw}
use Rattle.gil_grammar.specs.Assertions.{SpellsParams}
use Rattle.gil_grammar.specs.Commands.{SpellsNames, SpellsStatement}
use Rattle.gil_grammar.specs.Lists.{SpellsEach}
use Rattle.gil_grammar.specs.Programs.{commands_of, SpellsProc, SpellsSpec, SpellsPred, SpellsProgramItem}
use Rattle.gil_grammar.specs.Reading.Vocabulary.{named_at}
use Rattle.gil_grammar.specs.Reading.Assertions.{opens_by, params_at, variables_at, block_at, blocks_at, posts_at}
use Rattle.gil_grammar.specs.Reading.Commands.{names_at, statement_at}
use Rattle.gil_grammar.specs.Reading.Programs.{body_at, proc_at, spec_at, pred_at, item_by, item_at}
use Rattle.gil_grammar.proofs.ListLaws.{Takes, Reads, ReadsList, each_takes, each_again}
use Rattle.gil_grammar.proofs.VocabularyLaws.{named_takes, named_again}
use Rattle.gil_grammar.proofs.NestingLaws.{Nested, nested_tail}
use Rattle.gil_grammar.proofs.AssertionLaws.{in_place, params_take, block_takes, variables_take}
use Rattle.gil_grammar.proofs.AssertionReads.{parenthesis_closes, semicolon_closes, params_again, block_again, variables_again}
use Rattle.gil_grammar.proofs.BlockLaws.{NoPost, blocks_take, blocks_again, posts_take, posts_again}
use Rattle.gil_grammar.proofs.CommandLaws.{names_take, statement_takes}
use Rattle.gil_grammar.proofs.CommandReads.{names_again, statement_again, statement_never}

-- ---- bodies

commands_of-numbered : (n : ℕ) (cs : List PureCommand) → commands_of (numbered_from n cs) ≡ cs
commands_of-numbered n [] = refl
commands_of-numbered n (c ∷ cs) = ap (λ rest. c ∷ rest) (commands_of-numbered (n + 1) cs)

-- commands, each of which has its index
abbrev pub SpellsBody : List PureNumberedCommand → List Lexeme → List Lexeme → Type 0
SpellsBody body ls rest = SpellsEach SpellsStatement (commands_of body) ls rest × (body ≡ numbered_from 0 (commands_of body))

body_takes : Takes SpellsBody body_at
unfolding body_at
body_takes ls found e =
    let cs = bind_some (each_until statement_at (length ls) signs.RightBrace ls) _ found e in
    let same = commands_of-numbered 0 cs.0.0 in
    in_place SpellsBody ls (numbered_from 0 cs.0.0) cs.0.1 found cs.2
    (rw same (each_takes SpellsStatement statement_at statement_takes (length ls) signs.RightBrace ls cs.0 cs.1), ap (numbered_from 0) (sym same))

body_again : (body : List PureNumberedCommand) (ls rest : List Lexeme) → Nested ls → SpellsBody body ls (lexemes.Sign signs.RightBrace ∷ rest) → ReadsList Nested body_at body ls (lexemes.Sign signs.RightBrace ∷ rest)
unfolding body_at
body_again body ls rest p (spells, numbered) =
    let cs = each_again Nested nested_tail SpellsStatement statement_at statement_again (length ls) signs.RightBrace statement_never (commands_of body) ls _ (omega arith) p spells (same_sign-refl signs.RightBrace) in
    record { is = rw cs.is (ap (λ b. Some (b, lexemes.Sign signs.RightBrace ∷ rest)) (sym numbered)); under = cs.under; shorter = cs.shorter }

-- ---- what is read is spelled, behind its word

proc_takes : (ls : List Lexeme) (found : PureProc × List Lexeme) → proc_at ls ≡ Some found → SpellsProc found.0 (lexemes.Word words.Proc ∷ ls) found.1
unfolding proc_at
proc_takes ls found e =
    let x = bind_some (name_at ls) _ found e in
    let a = bind_some (sign_at signs.LeftParenthesis x.0.1) _ found x.2 in
    let xs = bind_some (names_at signs.RightParenthesis a.0) _ found a.2 in
    let b = bind_some (sign_at signs.RightParenthesis xs.0.1) _ found xs.2 in
    let c = bind_some (sign_at signs.LeftBrace b.0) _ found b.2 in
    let body = bind_some (body_at c.0) _ found c.2 in
    let r = bind_some (sign_at signs.RightBrace body.0.1) _ found body.2 in
    let says = body_takes c.0 body.0 body.1 in
    let head : ls ≡ lexemes.Name x.0.0 ∷ lexemes.Sign signs.LeftParenthesis ∷ a.0 = name_takes ls x.0 x.1 ∙ ap (λ (l : List Lexeme). lexemes.Name x.0.0 ∷ l) (sign_takes signs.LeftParenthesis x.0.1 a.0 a.1) in
    let closed : xs.0.1 ≡ lexemes.Sign signs.RightParenthesis ∷ lexemes.Sign signs.LeftBrace ∷ c.0 = sign_takes signs.RightParenthesis xs.0.1 b.0 b.1 ∙ ap (λ (l : List Lexeme). lexemes.Sign signs.RightParenthesis ∷ l) (sign_takes signs.LeftBrace b.0 c.0 c.1) in
    in_place SpellsProc _ (record { name = x.0.0; params = xs.0.0; body = body.0.0 }) r.0 found r.2 (
      a.0,
      c.0,
      ap (λ (l : List Lexeme). lexemes.Word words.Proc ∷ l) head,
      subst (SpellsNames xs.0.0 a.0) closed (names_take signs.RightParenthesis a.0 xs.0 xs.1),
      subst (SpellsEach SpellsStatement (commands_of body.0.0) c.0) (sign_takes signs.RightBrace body.0.1 r.0 r.1) says.0,
      says.1,
    )

pub spec_takes : (extent : Extent) (ls : List Lexeme) (found : PureSpec × List Lexeme) → spec_at extent ls ≡ Some found → SpellsSpec found.0 (lexemes.Word words.Spec ∷ ls) found.1
unfolding spec_at
spec_takes extent ls found e =
    let x = bind_some (name_at ls) _ found e in
    let a = bind_some (sign_at signs.LeftParenthesis x.0.1) _ found x.2 in
    let ps = bind_some (params_at Program signs.RightParenthesis a.0) _ found a.2 in
    let b = bind_some (sign_at signs.RightParenthesis ps.0.1) _ found ps.2 in
    let vs = bind_some (variables_at b.0) _ found b.2 in
    let pre = bind_some (block_at vs.0.1) _ found vs.2 in
    let posts = bind_some (posts_at extent pre.0.1) _ found pre.2 in
    let head : ls ≡ lexemes.Name x.0.0 ∷ lexemes.Sign signs.LeftParenthesis ∷ a.0 = name_takes ls x.0 x.1 ∙ ap (λ (l : List Lexeme). lexemes.Name x.0.0 ∷ l) (sign_takes signs.LeftParenthesis x.0.1 a.0 a.1) in
    in_place SpellsSpec _ (record { name = x.0.0; params = ps.0.0; logicals = vs.0.0; pre = pre.0.0; posts = posts.0.0.0; errors = posts.0.0.1 }) posts.0.1 found posts.2 (
      a.0,
      b.0,
      vs.0.1,
      pre.0.1,
      ap (λ (l : List Lexeme). lexemes.Word words.Spec ∷ l) head,
      subst (SpellsParams ps.0.0 a.0) (sign_takes signs.RightParenthesis ps.0.1 b.0 b.1) (params_take Program signs.RightParenthesis a.0 ps.0 ps.1),
      variables_take b.0 vs.0 vs.1,
      block_takes vs.0.1 pre.0 pre.1,
      posts_take extent pre.0.1 posts.0 posts.1,
    )

pub pred_takes : (extent : Extent) (ls : List Lexeme) (found : PurePredDef × List Lexeme) → pred_at extent ls ≡ Some found → SpellsPred found.0 (lexemes.Word words.Pred ∷ ls) found.1
unfolding pred_at
pred_takes extent ls found e =
    let x = bind_some (named_at Predicate ls) _ found e in
    let a = bind_some (sign_at signs.LeftParenthesis x.0.1) _ found x.2 in
    let ins = bind_some (params_at Program signs.Semicolon a.0) _ found a.2 in
    let b = bind_some (sign_at signs.Semicolon ins.0.1) _ found ins.2 in
    let outs = bind_some (params_at Program signs.RightParenthesis b.0) _ found b.2 in
    let c = bind_some (sign_at signs.RightParenthesis outs.0.1) _ found outs.2 in
    let vs = bind_some (variables_at c.0) _ found c.2 in
    let cases = bind_some (blocks_at Brace extent vs.0.1) _ found vs.2 in
    let says = named_takes Predicate ls x.0 x.1 in
    let head : ls ≡ says.0 ∷ lexemes.Sign signs.LeftParenthesis ∷ a.0 = says.2 ∙ ap (λ (l : List Lexeme). says.0 ∷ l) (sign_takes signs.LeftParenthesis x.0.1 a.0 a.1) in
    in_place SpellsPred _ (record { name = x.0.0; ins = ins.0.0; outs = outs.0.0; logicals = vs.0.0; cases = cases.0.0 }) cases.0.1 found cases.2 (
      says.0,
      a.0,
      b.0,
      c.0,
      vs.0.1,
      says.1,
      ap (λ (l : List Lexeme). lexemes.Word words.Pred ∷ l) head,
      subst (SpellsParams ins.0.0 a.0) (sign_takes signs.Semicolon ins.0.1 b.0 b.1) (params_take Program signs.Semicolon a.0 ins.0 ins.1),
      subst (SpellsParams outs.0.0 b.0) (sign_takes signs.RightParenthesis outs.0.1 c.0 c.1) (params_take Program signs.RightParenthesis b.0 outs.0 outs.1),
      variables_take c.0 vs.0 vs.1,
      blocks_take Brace extent vs.0.1 cases.0 cases.1,
    )

item_by_takes : (word : Word) (ls : List Lexeme) (found : ProgramItem × List Lexeme) → item_by word (lexemes.Word word ∷ ls) ≡ Some found → SpellsProgramItem found.0 (lexemes.Word word ∷ ls) found.1
item_by_takes words.Proc ls found e =
    let q = bind_some (proc_at ls) _ found e in
    in_place SpellsProgramItem _ (a_proc q.0.0) q.0.1 found q.2 (proc_takes ls q.0 q.1)
item_by_takes words.Spec ls found e =
    let s = bind_some (spec_at Whole ls) _ found e in
    in_place SpellsProgramItem _ (a_spec s.0.0) s.0.1 found s.2 (spec_takes Whole ls s.0 s.1)
item_by_takes words.Pred ls found e =
    let d = bind_some (pred_at Whole ls) _ found e in
    in_place SpellsProgramItem _ (a_pred d.0.0) d.0.1 found d.2 (pred_takes Whole ls d.0 d.1)
item_by_takes _ ls found e = absurd cc

pub item_takes : Takes SpellsProgramItem item_at
unfolding item_at
item_takes (lexemes.Word word ∷ ls) found e = item_by_takes word ls found e
item_takes _ found e = absurd cc

-- ---- what is spelled is read, behind its word

proc_again : (q : PureProc) (ls rest : List Lexeme) → Nested ls → SpellsProc q ls rest → (inner : List Lexeme) × (ls ≡ lexemes.Word words.Proc ∷ inner) × Reads Nested proc_at q inner rest
unfolding proc_at
proc_again q ls rest p (params, body, is, a, b, numbered) =
    let inner : List Lexeme = lexemes.Name q.name ∷ lexemes.Sign signs.LeftParenthesis ∷ params in
    let under : Nested inner = nested_tail _ inner (subst Nested is p) in
    let xs = names_again signs.RightParenthesis parenthesis_closes q.params params _ (nested_tail _ params (nested_tail _ _ under)) a in
    let body' = body_again q.body body rest (nested_tail _ body (nested_tail _ _ xs.under)) (b, numbered) in (
      inner,
      is,
      record {
        is = rw (same_sign-refl signs.LeftParenthesis, xs.is, same_sign-refl signs.RightParenthesis, same_sign-refl signs.LeftBrace, body'.is, same_sign-refl signs.RightBrace) refl;
        under = nested_tail _ rest body'.under;
        shorter = omega (arith, xs.shorter, body'.shorter);
      },
    )

-- a specification behind which no postcondition follows
pub spec_again : (extent : Extent) (s : PureSpec) (ls rest : List Lexeme) → Nested ls → SpellsSpec s ls rest → NoPost rest
    → (inner : List Lexeme) × (ls ≡ lexemes.Word words.Spec ∷ inner) × Reads Nested (spec_at extent) s inner rest
unfolding spec_at
spec_again extent s ls rest p (params, variables, pre, posts, is, a, b, c, d) ends =
    let inner : List Lexeme = lexemes.Name s.name ∷ lexemes.Sign signs.LeftParenthesis ∷ params in
    let under : Nested inner = nested_tail _ inner (subst Nested is p) in
    let ps = params_again Program signs.RightParenthesis parenthesis_closes s.params params variables (nested_tail _ params (nested_tail _ _ under)) a in
    let vs = variables_again s.logicals variables pre (nested_tail _ variables ps.under) b in
    let pre' = block_again s.pre pre posts vs.under c in
    let posts' = posts_again extent s.posts s.errors posts rest pre'.under d ends in (
      inner,
      is,
      record {
        is = rw (same_sign-refl signs.LeftParenthesis, ps.is, same_sign-refl signs.RightParenthesis, vs.is, pre'.is, posts'.is) refl;
        under = posts'.under;
        shorter = omega (arith, ps.shorter, vs.shorter, pre'.shorter, posts'.shorter);
      },
    )

-- a predicate behind which no opening brace follows
pub pred_again : (extent : Extent) (d : PurePredDef) (ls rest : List Lexeme) → Nested ls → SpellsPred d ls rest → opens_by Brace (first_form rest) ≡ false
    → (inner : List Lexeme) × (ls ≡ lexemes.Word words.Pred ∷ inner) × Reads Nested (pred_at extent) d inner rest
unfolding pred_at
pred_again extent d ls rest p (lexeme, ins, outs, variables, cases, named, is, a, b, v, c) ends =
    let inner : List Lexeme = lexeme ∷ lexemes.Sign signs.LeftParenthesis ∷ ins in
    let under : Nested inner = nested_tail _ inner (subst Nested is p) in
    let given = params_again Program signs.Semicolon semicolon_closes d.ins ins outs (nested_tail _ ins (nested_tail _ _ under)) a in
    let gives = params_again Program signs.RightParenthesis parenthesis_closes d.outs outs variables (nested_tail _ outs given.under) b in
    let vs = variables_again d.logicals variables cases (nested_tail _ variables gives.under) v in
    let cases' = blocks_again Brace extent d.cases cases rest vs.under c ends in (
      inner,
      is,
      record {
        is = rw (named_again Predicate d.name lexeme _ named, same_sign-refl signs.LeftParenthesis, given.is, same_sign-refl signs.Semicolon, gives.is, same_sign-refl signs.RightParenthesis, vs.is, cases'.is) refl;
        under = cases'.under;
        shorter = omega (arith, given.shorter, gives.shorter, vs.shorter, cases'.shorter);
      },
    )

-- an item behind which no postcondition follows
pub item_again : (item : ProgramItem) (ls rest : List Lexeme) → Nested ls → SpellsProgramItem item ls rest → NoPost rest → Reads Nested item_at item ls rest
unfolding item_at
item_again (a_proc q) ls rest p h ends =
    let read = proc_again q ls rest p h in
    record { is = rw (read.1, read.2.is) refl; under = read.2.under; shorter = omega (arith, ap length (read.1), read.2.shorter) }
item_again (a_spec s) ls rest p h ends =
    let read = spec_again Whole s ls rest p h ends in
    record { is = rw (read.1, read.2.is) refl; under = read.2.under; shorter = omega (arith, ap length (read.1), read.2.shorter) }
item_again (a_pred d) ls rest p h ends =
    let read = pred_again Whole d ls rest p h (ends Brace) in
    record { is = rw (read.1, read.2.is) refl; under = read.2.under; shorter = omega (arith, ap length (read.1), read.2.shorter) }

-- an item goes on no specification
item_is_no_throw : (word : Word) → same_word word words.Throw ≡ false → (ls inner : List Lexeme) → ls ≡ lexemes.Word word ∷ inner → NoPost ls
item_is_no_throw word other ls inner is Brace = rw is refl
item_is_no_throw word other ls inner is Throw = rw is other

pub item_never : (item : ProgramItem) (ls rest : List Lexeme) → SpellsProgramItem item ls rest → NoPost ls
unfolding same_word
item_never (a_proc q) ls rest h = item_is_no_throw words.Proc refl ls _ h.2
item_never (a_spec s) ls rest h = item_is_no_throw words.Spec refl ls _ h.4
item_never (a_pred d) ls rest h = item_is_no_throw words.Pred refl ls _ h.6
