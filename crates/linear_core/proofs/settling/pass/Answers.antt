use Rattle.std.proofs.Common.{◌≡◌, ◌<◌, ◌≤◌, ℕ, List, Some, slice_get, length, sym, ap, ◌∙◌, subst, arith}
use Rattle.std.specs.Prelude.{IsSomeAnd}
use Rattle.std.proofs.lemmas.Bool.{false≢true}
use Rattle.linear_core.specs.declared.differences.Difference.{Difference}
use Rattle.linear_core.specs.declared.relaxing.Relaxed.TheVariants.{Stays, Moves}
use Rattle.linear_core.specs.declared.walks.Reach.{Reach}
use Rattle.linear_core.specs.Nodes.{AreNarrow}
use Rattle.linear_core.specs.Walks.{AreReached, IsMet, IsFollowedBothWays, height, row_at_turn}
use Rattle.linear_core.proofs.Following.{met_more, met_each}
use Rattle.linear_core.proofs.settling.pass.Goals as goal
use Rattle.linear_core.proofs.settling.pass.Goals.{in-Stays, in-Moves}

pub follow-requires-clause-narrow : goal.follow-requires-clause-narrow
follow-requires-clause-narrow c = subst (λ n. AreNarrow n c.args.differences.now) (sym c.loop-turn.invariant.same_length) c.requires.narrow

at_most : (a b c : ℕ) → a < b → b ≤ c → a ≤ c
at_most a b c h k = omega arith

below : (a b c : ℕ) → a < b → b ≤ c → a < c
below a b c h k = omega arith

pub loop-turn-preserved : goal.loop-turn-preserved
loop-turn-preserved c =
    elim c.match-branch-2.branch [
      | in-Stays w ↦
          let stays : IsFollowedBothWays c.args.differences.now c.loop-turn.reaches c.follow.new.reaches c.row_at_turn-row.result Stays = subst (IsFollowedBothWays c.args.differences.now c.loop-turn.reaches c.follow.new.reaches c.row_at_turn-row.result) w.in-Stays.is c.in_ok-follow.ensures in
          let here : IsSomeAnd (slice_get c.args.differences.now (row_at_turn (length c.args.differences.now) c.args.from_last c.loop-turn.turn)) (IsMet c.follow.new.reaches) = subst (λ row. IsSomeAnd (slice_get c.args.differences.now row) (IsMet c.follow.new.reaches)) c.row_at_turn-row.ensures stays.1 in
          record {
            same_length = ap length stays.0 ∙ c.loop-turn.invariant.same_length;
            reached = subst (AreReached c.args.differences.now) (sym stays.0) c.loop-turn.invariant.reached;
            low = subst (λ rs. height rs ≤ height c.args.reaches.now) (sym stays.0) c.loop-turn.invariant.low;
            falls = λ moved. subst (λ rs. height rs < height c.args.reaches.now) (sym stays.0) (c.loop-turn.invariant.falls (sym w.moved-is ∙ moved));
            met = λ unmoved. met_more c.args.differences.now c.follow.new.reaches (row_at_turn (length c.args.differences.now) c.args.from_last) c.loop-turn.turn (subst (λ (rs : List Reach). (t : ℕ) (d : Difference) → t < c.loop-turn.turn → slice_get c.args.differences.now (row_at_turn (length c.args.differences.now) c.args.from_last t) ≡ Some d → IsMet rs d) (sym stays.0) (c.loop-turn.invariant.met (sym w.moved-is ∙ unmoved))) here;
          }
      | in-Moves w ↦
          let moves : IsFollowedBothWays c.args.differences.now c.loop-turn.reaches c.follow.new.reaches c.row_at_turn-row.result Moves = subst (IsFollowedBothWays c.args.differences.now c.loop-turn.reaches c.follow.new.reaches c.row_at_turn-row.result) w.in-Moves.is c.in_ok-follow.ensures in
          record {
            same_length = moves.0 ∙ c.loop-turn.invariant.same_length;
            reached = moves.1;
            low = at_most _ _ _ moves.2 c.loop-turn.invariant.low;
            falls = λ moved. below _ _ _ moves.2 c.loop-turn.invariant.low;
            met = λ unmoved. absurd (false≢true (sym unmoved ∙ w.moved-is));
          }
    ]

pub returns : goal.returns
returns c = (c.loop-turn.invariant.same_length, c.loop-turn.invariant.reached, met_each c.args.differences.now c.loop-turn.reaches c.args.from_last (λ t d h at. c.loop-turn.invariant.met c.if-moved.false t d (within t h) at)) where
  within : (t : ℕ) → t < length c.args.differences.now → t < c.loop-turn.turn
  within t h = omega (arith, h)
