use Rattle.std.proofs.Common.{◌≡◌, ◌≤◌, ◌<◌, IsNone, length, get_or, refl, sym, subst, arith}
use Rattle.std.specs.List.{Contains}
use Rattle.std.proofs.lemmas.List.{take_all}
use Rattle.rewrite_book.proofs.OneMore.{each_more}
use Rattle.rewrite_book.proofs.simplifying.RuleBookAsked.first_answer.Goals as goal

pub loop-rule-preserved : goal.loop-rule-preserved
loop-rule-preserved g c =
    let below : c.loop-rule.rule-index < length c.args.self.now.rules.items = subst (λ xs. c.loop-rule.rule-index < length xs) c.deref-rule-items.ensures.value (omega arith) in
    let here : c.rule-item.result ≡ get_or c.args.self.now.rules.items c.loop-rule.rule-index c.rule-item.result = subst (λ xs. c.rule-item.result ≡ get_or xs c.loop-rule.rule-index c.rule-item.result) c.deref-rule-items.ensures.value c.rule-item.is in
    each_more _ c.args.self.now.rules.items c.loop-rule.rule-index c.rule-item.result below here c.loop-rule.invariant
    (λ headed. (c.args.alloc, c.args.term, refl, c.in_ok-smaller.ensures.none (subst IsNone (sym c.in_default.is) refl) headed))

pub returns-clause-none : goal.returns-clause-none
returns-clause-none g c = λ none rule has.
    let past : length c.args.self.now.rules.items ≤ c.loop-rule.rule-index = subst (λ xs. length xs ≤ c.loop-rule.rule-index) c.deref-rule-items.ensures.value c.loop-rule-test.false in
    c.loop-rule.invariant rule (subst (λ xs. Contains xs rule) (sym (take_all c.loop-rule.rule-index c.args.self.now.rules.items past)) has)
