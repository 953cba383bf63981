use Rattle.std.proofs.Common.{◌<◌, pos, ◌+ℤ◌, ◌≤ℤ◌, false, length, get_or, sym, ap, subst, refl, arith, rules}
use Rattle.std.specs.Prelude.{IsTrue}
use Rattle.std.proofs.lemmas.Int.{ints}
use Rattle.linear_core.specs.Nodes.{may_go}
use Rattle.linear_core.specs.Walks.{IsStill}
use Rattle.linear_core.proofs.Following.{there, some_and, tail_placed, head_placed, weight_range, reach_range, grown_by, still_at}
use Rattle.linear_core.proofs.relaxing.relax.Goals as goal

pub at-start-requires : goal.at-start-requires
at-start-requires c =
    let d = there c.args.differences.now c.args.row (record { plus = 0; minus = 0; constant = pos 0; is_equal = false }) (λ d. IsTrue (may_go d c.args.backwards)) c.requires.allowed in
    subst (λ x. x < length c.args.reaches.now) (sym c.tail_of-from.ensures) (tail_placed c.args.differences.now (length c.args.reaches.now) c.args.row _ c.requires.narrow d.0 c.args.backwards)

pub weight_of-requires : goal.weight_of-requires
weight_of-requires c =
    let d = there c.args.differences.now c.args.row (record { plus = 0; minus = 0; constant = pos 0; is_equal = false }) (λ d. IsTrue (may_go d c.args.backwards)) c.requires.allowed in
    (c.requires.narrow c.args.row _ d.0).constant

pub overflow_add-number : goal.overflow_add-number
overflow_add-number c =
    let d = there c.args.differences.now c.args.row (record { plus = 0; minus = 0; constant = pos 0; is_equal = false }) (λ d. IsTrue (may_go d c.args.backwards)) c.requires.allowed in
    let weight = weight_range c.args.differences.now (length c.args.reaches.now) c.args.row _ c.requires.narrow d.0 c.args.backwards in
    let number = reach_range c.args.differences.now (length c.args.reaches.now) c.args.reaches.now c.tail_of-from.result c.at-start.result.now c.requires.narrow c.requires.reached c.at-start.ensures in
    omega (arith, ints, weight, number, c.weight_of.ensures)

pub at-requires : goal.at-requires
at-requires c =
    let d = there c.args.differences.now c.args.row (record { plus = 0; minus = 0; constant = pos 0; is_equal = false }) (λ d. IsTrue (may_go d c.args.backwards)) c.requires.allowed in
    subst (λ x. x < length c.args.reaches.now) (sym c.head_of-to.ensures) (head_placed c.args.differences.now (length c.args.reaches.now) c.args.row _ c.requires.narrow d.0 c.args.backwards)

pub returns-then-at-number : goal.returns-then-at-number
returns-then-at-number c =
    let d = there c.args.differences.now c.args.row (record { plus = 0; minus = 0; constant = pos 0; is_equal = false }) (λ d. IsTrue (may_go d c.args.backwards)) c.requires.allowed in
    let weight = weight_range c.args.differences.now (length c.args.reaches.now) c.args.row _ c.requires.narrow d.0 c.args.backwards in
    let number = reach_range c.args.differences.now (length c.args.reaches.now) c.args.reaches.now c.tail_of-from.result c.at-start.result.now c.requires.narrow c.requires.reached c.at-start.ensures in
    let most : c.at.result.now.number ≤ℤ (c.at-start.result.now.number +ℤ c.weight_of.result) = omega (arith, ints, weight, number, c.weight_of.ensures, c.if-at-number.true) in
    (refl, some_and _ _ (λ d. IsStill c.args.reaches.now d c.args.backwards) d.0 (still_at c.args.reaches.now (get_or c.args.differences.now c.args.row (record { plus = 0; minus = 0; constant = pos 0; is_equal = false })) c.args.backwards c.at-start.result.now c.at.result.now (c.at-start.result.now.number +ℤ c.weight_of.result) c.tail_of-from.result c.head_of-to.result c.tail_of-from.ensures c.head_of-to.ensures c.at-start.ensures c.at.ensures (ap (λ w. c.at-start.result.now.number +ℤ w) c.weight_of.ensures) most))

pub move_to-requires-clause-placed : goal.move_to-requires-clause-placed
move_to-requires-clause-placed c =
    let d = there c.args.differences.now c.args.row (record { plus = 0; minus = 0; constant = pos 0; is_equal = false }) (λ d. IsTrue (may_go d c.args.backwards)) c.requires.allowed in
    subst (λ x. x < length c.args.reaches.now) (sym c.head_of-to.ensures) (head_placed c.args.differences.now (length c.args.reaches.now) c.args.row _ c.requires.narrow d.0 c.args.backwards)

pub move_to-requires-clause-grown : goal.move_to-requires-clause-grown
move_to-requires-clause-grown c =
    let d = there c.args.differences.now c.args.row (record { plus = 0; minus = 0; constant = pos 0; is_equal = false }) (λ d. IsTrue (may_go d c.args.backwards)) c.requires.allowed in
    let weight = weight_range c.args.differences.now (length c.args.reaches.now) c.args.row _ c.requires.narrow d.0 c.args.backwards in
    let number = reach_range c.args.differences.now (length c.args.reaches.now) c.args.reaches.now c.tail_of-from.result c.at-start.result.now c.requires.narrow c.requires.reached c.at-start.ensures in
    grown_by c.args.differences.now c.args.reaches.now c.args.row (get_or c.args.differences.now c.args.row (record { plus = 0; minus = 0; constant = pos 0; is_equal = false })) c.args.backwards c.at-start.result.now c.at.result.now _ c.tail_of-from.result c.head_of-to.result c.in_ok-walk.walk d.0 d.1 c.requires.reached c.tail_of-from.ensures c.head_of-to.ensures c.at-start.ensures c.at.ensures
    (omega (arith, ints, weight, number, c.weight_of.ensures)) (omega (arith, ints, weight, number, c.weight_of.ensures, c.if-at-number.false)) (search (rules, c.in_ok-walk.ensures))
