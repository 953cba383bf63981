use Rattle.std.proofs.Common.{◌≡◌, ◌-◌, ◌∙◌, ap, sym, subst, drop, false, Ok, arith}
use Rattle.std.proofs.lemmas.Grind.{common_steps}
use Rattle.std.proofs.lemmas.Result.{err_from_is_err_and}
use Rattle.gil_lexer.specs.Reading.{token_at, after_blanks}
use Rattle.gil_lexer.specs.Faults.{StopsAt}
use Rattle.gil_lexer.proofs.TextLaws.{reached_start, reached_token, reached_end, reached_fault, reached_memory, slices, fault_or_tokens, some_left, none_left}
use Rattle.gil_lexer.proofs.lexing.lex.Goals as goal

pub loop-rest-init : goal.loop-rest-init
loop-rest-init c =
    record {
      within = c.after_blanks-rest.ensures.within;
      reached = rw (c.new-tokens.ensures, c.after_blanks-rest.ensures.rest) (reached_start c.args.bytes.now);
    }

pub returns-in_err-token-clause-fault : goal.returns-in_err-token-clause-fault
returns-in_err-token-clause-fault c =
    let exit = err_from_is_err_and c.from_residual.result c.from_residual.ensures.1 in
    let rest = c.loop-rest.rest.now in
    let said = c.in_err-token.ensures.err in
    let answer = sym (ap (λ takes. token_at takes rest) c.takes_minus.ensures) ∙ said.1 in
    let stops = reached_fault c.args.bytes.now c.loop-rest.tokens c.loop-rest.before rest _ (some_left rest c.loop-rest-test.ensures) c.loop-rest.invariant.reached answer in
    rw (exit.1, exit.2) (subst (λ at. StopsAt c.in_err-token.field-0.0.kind at c.args.bytes.now) (sym said.0) stops)

pub returns-in_err-token-clause-no_tokens : goal.returns-in_err-token-clause-no_tokens
returns-in_err-token-clause-no_tokens c =
    let exit = err_from_is_err_and c.from_residual.result c.from_residual.ensures.1 in
    let rest = c.loop-rest.rest.now in
    let said = c.in_err-token.ensures.err in
    let answer = sym (ap (λ takes. token_at takes rest) c.takes_minus.ensures) ∙ said.1 in
    let stops = reached_fault c.args.bytes.now c.loop-rest.tokens c.loop-rest.before rest _ (some_left rest c.loop-rest-test.ensures) c.loop-rest.invariant.reached answer in
    rw (exit.1, exit.2) (λ other tokens reading. fault_or_tokens _ _ c.args.bytes.now tokens other stops reading)

pub returns-in_err-keep-clause-fault : goal.returns-in_err-keep-clause-fault
returns-in_err-keep-clause-fault c =
    let exit = err_from_is_err_and c.from_residual-in_err-keep.result c.from_residual-in_err-keep.ensures.1 in
    let rest = c.loop-rest.rest.now in
    let said = c.in_err-keep.ensures.err in
    let stops = reached_memory c.args.bytes.now c.loop-rest.tokens c.loop-rest.before rest (some_left rest c.loop-rest-test.ensures) c.loop-rest.invariant.reached in
    rw (exit.1, exit.2, said.0, said.1, c.in_ok-token.ensures.from) stops

pub loop-rest-preserved : goal.loop-rest-preserved
loop-rest-preserved c =
    let bytes = c.args.bytes.now in
    let rest = c.loop-rest.rest.now in
    let token = c.in_ok-token.token in
    let said = c.in_ok-token.ensures in
    let from = said.from in
    let forward = said.forward in
    let answer = sym (ap (λ takes. token_at takes rest) c.takes_minus.ensures) ∙ said.ok ∙ ap (λ n. Ok (token.form, token.to - n)) (sym from) in
    let step = reached_token bytes c.loop-rest.tokens c.loop-rest.before rest token (some_left rest c.loop-rest-test.ensures) c.loop-rest.invariant.reached from (omega arith) answer in
    let behind : c.after_blanks-rest-in-loop-rest.result.now ≡ after_blanks false (drop (token.to - token.from) rest) = rw from (grind (arith, common_steps, c.after_blanks-rest-in-loop-rest.ensures.rest)) in
    record {
      within = omega arith;
      reached = rw (c.in_ok-keep.ensures.ok, behind) step;
    }

pub returns-clause-tokens : goal.returns-clause-tokens
returns-clause-tokens c =
    reached_end c.args.bytes.now c.loop-rest.tokens c.loop-rest.before c.loop-rest.rest.now (none_left c.loop-rest.rest.now c.loop-rest-test.ensures) c.loop-rest.invariant.reached

pub returns-clause-slices : goal.returns-clause-slices
returns-clause-slices c =
    slices c.loop-rest.tokens c.args.bytes.now
    (reached_end c.args.bytes.now c.loop-rest.tokens c.loop-rest.before c.loop-rest.rest.now (none_left c.loop-rest.rest.now c.loop-rest-test.ensures) c.loop-rest.invariant.reached)
