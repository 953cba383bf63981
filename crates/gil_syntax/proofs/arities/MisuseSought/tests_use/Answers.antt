use Rattle.std.proofs.Common.{◌≡◌, true, false, not, ◌&&◌, ◌==◌, length, sym, ap, ◌∙◌, arith}
use Rattle.std.proofs.lemmas.Bool.Decides.{nat_tests}
use Rattle.gil_syntax.specs.View.{pred_use_view}
use Rattle.gil_syntax.specs.ByName.{parts_of}
use Rattle.gil_syntax.proofs.PieceLemmas.{misuses-shape, misuses-no_shape}
use Rattle.gil_syntax.proofs.arities.MisuseSought.tests_use.Goals as goal

pub returns-then-arity-len : goal.returns-then-arity-len
returns-then-arity-len c =
    let u = pred_use_view c.args.used.now in
    let a = c.in-Some.arity in
    let other : (a.ins == c.len.result) ≡ false = grind (arith, nat_tests) in
    let e : (a.ins == length u.ins) ≡ false = ap (λ n. a.ins == n) (sym c.len.ensures) ∙ other in
    ap not other ∙ sym (misuses-shape (parts_of c.args.self.now.program.now) u c.as_str.result.now a.ins a.outs c.requires.1 c.as_str.ensures.characters c.in-Some.ensures ∙ ap (λ b. not (b && a.outs == length u.outs)) e)

pub returns-else-arity-len : goal.returns-else-arity-len
returns-else-arity-len c =
    let u = pred_use_view c.args.used.now in
    let a = c.in-Some.arity in
    let same : (a.ins == c.len.result) ≡ true = grind (arith, nat_tests) in
    let e : (a.ins == length u.ins) ≡ true = ap (λ n. a.ins == n) (sym c.len.ensures) ∙ same in
    ap (λ n. not (a.outs == n)) c.len-else-arity-len.ensures ∙ sym (misuses-shape (parts_of c.args.self.now.program.now) u c.as_str.result.now a.ins a.outs c.requires.1 c.as_str.ensures.characters c.in-Some.ensures ∙ ap (λ b. not (b && a.outs == length u.outs)) e)

pub returns-in-None : goal.returns-in-None
returns-in-None c = sym (misuses-no_shape (parts_of c.args.self.now.program.now) (pred_use_view c.args.used.now) c.as_str.result.now c.as_str.ensures.characters c.in-None.ensures)
