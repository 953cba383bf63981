-- More turns and deeper calls change nothing of what has come to its end.
use Rattle.std.proofs.Common.{◌≡◌, ℕ, zero, suc, ◌≤◌, List, true, false, Some, Ok, Err, refl, sym, ap, subst, arith}
use Rattle.gil_values.specs.declared.places.Place.{Place}
use Rattle.gil_values.specs.declared.kinds.Kind.TheVariants.{Null}
use Rattle.gil_values.specs.Pure.{PureValue, integer, boolean, text, symbol, kind, procedure, list}
use Rattle.gil_values.specs.Operators.{Outcome}
use Rattle.gil_syntax.specs.Evaluation.{Outcomes}
use Rattle.gil_machine.specs.State.{End}
use Rattle.source_language.specs.Completions.{Situation, Completion, normal, returns, throws, over, unfinished, then_do, handled_by, with_value, with_values, choose, Test, turns, value_test, after_body, end_if_over}

-- the second completion is the first one, where that is none that is unfinished
abbrev pub Extends : Completion → Completion → Type 0
Extends (normal s) d = d ≡ normal s
Extends (returns v s) d = d ≡ returns v s
Extends (throws v here s) d = d ≡ throws v here s
Extends (over e) d = d ≡ over e
Extends unfinished d = Unit {0}

pub extends_itself : (c : Completion) → Extends c c
extends_itself (normal s) = refl
extends_itself (returns v s) = refl
extends_itself (throws v here s) = refl
extends_itself (over e) = refl
extends_itself unfinished = tt

pub then-extends : (c d : Completion) (f g : Situation → Completion) → Extends c d → ((s : Situation) → Extends (f s) (g s))
    → Extends (then_do c f) (then_do d g)
then-extends (normal s) d f g h k = subst (λ x. Extends (f s) (then_do x g)) (sym h) (k s)
then-extends (returns v s) d f g h k = ap (λ x. then_do x g) h
then-extends (throws v here s) d f g h k = ap (λ x. then_do x g) h
then-extends (over e) d f g h k = ap (λ x. then_do x g) h
then-extends unfinished d f g h k = tt

pub value-extends : (o : Outcome) (here : Place) (s : Situation) (f g : PureValue → Completion) → ((v : PureValue) → Extends (f v) (g v))
    → Extends (with_value o here s f) (with_value o here s g)
value-extends (Ok v) here s f g k = k v
value-extends (Err fault) here s f g k = refl

pub values-extend : (o : Outcomes) (here : Place) (s : Situation) (f g : List PureValue → Completion)
    → ((vs : List PureValue) → Extends (f vs) (g vs)) → Extends (with_values o here s f) (with_values o here s g)
values-extend (Ok vs) here s f g k = k vs
values-extend (Err fault) here s f g k = refl

pub choice-extends : (v : PureValue) (here : Place) (on off on' off' : Situation → Completion) (s : Situation)
    → Extends (on s) (on' s) → Extends (off s) (off' s) → Extends (choose v here on off s) (choose v here on' off' s)
choice-extends (boolean true) here on off on' off' s h k = h
choice-extends (boolean false) here on off on' off' s h k = k
choice-extends (integer n) here on off on' off' s h k = refl
choice-extends (text cs) here on off on' off' s h k = refl
choice-extends (symbol n) here on off on' off' s h k = refl
choice-extends (kind x) here on off on' off' s h k = refl
choice-extends (procedure f) here on off on' off' s h k = refl
choice-extends (list vs) here on off on' off' s h k = refl

-- what follows the second test extends what follows the first one, where what is done with the value does
abbrev pub TestExtends : Test → Test → Type 0
TestExtends test test' = (s : Situation) (f g : PureValue → Situation → Completion)
    → ((v : PureValue) (t : Situation) → Extends (f v t) (g v t)) → Extends (test s f) (test' s g)

pub value_test-extends : (value : Situation → Outcome) (here : Place) → TestExtends (value_test value here) (value_test value here)
value_test-extends value here s f g k = value-extends (value s) here s (λ v. f v s) (λ v. g v s) (λ v. k v s)

pub turns-extend : (test test' : Test) (here : Place) (body body' : Situation → Completion) → TestExtends test test'
    → ((s : Situation) → Extends (body s) (body' s)) → (n k : ℕ) → n ≤ k → (s : Situation)
    → Extends (turns n test here body s) (turns k test' here body' s)
turns-extend test test' here body body' tests more zero k le s = tt
turns-extend test test' here body body' tests more (suc n) zero le s = absurd (omega arith)
turns-extend test test' here body body' tests more (suc n) (suc k) le s =
    tests s _ _ (λ v t. choice-extends v here _ _ _ _ t
    (then-extends (body t) (body' t) _ _ (more t) (turns-extend test test' here body body' tests more n k (omega arith))) refl)

pub body-extends : (c d : Completion) (f : PureValue → Situation → Completion) (g : PureValue → Place → Situation → Completion) → Extends c d
    → Extends (after_body c f g) (after_body d f g)
body-extends (normal s) d f g h = subst (λ x. Extends (f (kind Null) s) (after_body x f g)) (sym h) (extends_itself (f (kind Null) s))
body-extends (returns v s) d f g h = subst (λ x. Extends (f v s) (after_body x f g)) (sym h) (extends_itself (f v s))
body-extends (throws v here s) d f g h = subst (λ x. Extends (g v here s) (after_body x f g)) (sym h) (extends_itself (g v here s))
body-extends (over e) d f g h = ap (λ x. after_body x f g) h
body-extends unfinished d f g h = tt

-- what a handler does with a value that is thrown
pub handled-extends : (c d : Completion) (f g : PureValue → Situation → Completion) → Extends c d → ((v : PureValue) (s : Situation) → Extends (f v s) (g v s))
    → Extends (handled_by c f) (handled_by d g)
handled-extends (normal s) d f g h k = ap (λ x. handled_by x g) h
handled-extends (returns v s) d f g h k = ap (λ x. handled_by x g) h
handled-extends (throws v here s) d f g h k = subst (λ x. Extends (f v s) (handled_by x g)) (sym h) (k v s)
handled-extends (over e) d f g h k = ap (λ x. handled_by x g) h
handled-extends unfinished d f g h k = tt

pub end-extends : (c d : Completion) (e : End) → Extends c d → end_if_over c ≡ Some e → end_if_over d ≡ Some e
end-extends (normal s) d e h is = absurd (cc)
end-extends (returns v s) d e h is = absurd (cc)
end-extends (throws v here s) d e h is = absurd (cc)
end-extends (over x) d e h is = subst (λ y. end_if_over y ≡ Some e) (sym h) is
end-extends unfinished d e h is = absurd (cc)
