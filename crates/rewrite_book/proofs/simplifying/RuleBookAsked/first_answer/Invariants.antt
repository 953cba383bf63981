use Rattle.std.proofs.Common.{◌≡◌, take, IsTrue, Ok, None}
use Rattle.std.specs.List.{Contains}
use Rattle.pure_terms.specs.View.{term_view}
use Rattle.rewrite_book.specs.Heads.{is_headed}
use Rattle.rewrite_book.proofs.simplifying.RuleBookAsked.first_answer.Given as goal

-- the rules so far have answered None, where the term has their head
abbrev pub invariant-loop-rule : goal.invariant-loop-rule
invariant-loop-rule g l =
    (rule : _) → Contains (take l.rule-index l.self.rules.items) rule → IsTrue (is_headed rule.head (term_view l.term))
    → (a : _) × (s : _) × (term_view s.now ≡ term_view l.term) × (goal.Fn-dyn g).post (rule.simplifier.vtable, rule.simplifier.value) (a, (s, tt)) (Ok None)
