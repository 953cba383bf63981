use Rattle.std.proofs.Common.{◌≡◌, [], ◌∷◌, ◌++◌, None, map, rules, refl, ap, subst, ◌∙◌}
use Rattle.std.proofs.lemmas.List.{map-append}
use Rattle.gil_syntax.specs.Program.{prog_view}
use Rattle.gil_syntax.specs.View.{spec_view}
use Rattle.checked_paths.specs.Meaning.{MayGoOn}
use Rattle.checked_paths.specs.View.{checking_view, entry_view, nexts_view}
use Rattle.spec_exploration.specs.Exploring.{AreTaken, exploration_view}
use Rattle.spec_exploration.proofs.Inside.{taken_inside, apart_inside}
use Rattle.spec_exploration.proofs.Plainness.{apart_plain, taken_plain}
use Rattle.spec_exploration.proofs.Reaching.{starts_reached, all_but_last}
use Rattle.spec_exploration.proofs.Taking.{starts_settle, starts_placed, settle_later, settled_ends, settled_runs, last_apart, if_none}
use Rattle.spec_exploration.proofs.exploration.explore_from.Goals as goal

pub loop-turn-init : goal.loop-turn-init
loop-turn-init g c =
    let M = g.M.SymMemory in
    let L = g.M.Local.LocalMemory in
    let e = entry_view c.args.spec.now c.args.entered.now in
    let starts = nexts_view c.args.starts in
    let first = exploration_view c.in_ok-exploration.exploration in
    let none : record { left = map checking_view c.new.result.items; cause = None; uses = c.new-2.result } ≡ record { left = []; cause = None; uses = [] } =
    λ i. record { left = map checking_view (c.new.ensures.items i); cause = None; uses = c.new-2.ensures i } in
    let taken = subst (λ a. AreTaken a starts first) none c.in_ok-exploration.ensures in
    record {
      settles = starts_settle (prog_view c.args.prog.now) L.memory L.actions M.stands M.terms e c.args.bound starts first taken c.requires.placed;
      placed = starts_placed (prog_view c.args.prog.now) L.memory L.actions M.stands M.terms e c.args.bound starts first taken c.requires.placed;
      reached = starts_reached (prog_view c.args.prog.now) L.memory L.actions M.stands M.terms e c.args.bound first starts c.requires.reached taken;
      inside = λ contained starts_in. taken_inside (prog_view c.args.prog.now) (spec_view c.args.spec.now) (record { left = []; cause = None; uses = [] }) first starts taken (record { left = tt; none_used = refl }) starts_in;
      plain = λ keeps plain terms starts_in starts_plain. taken_plain (prog_view c.args.prog.now) (spec_view c.args.spec.now) plain M.plain (record { left = []; cause = None; uses = [] }) first starts taken (record { left = tt; cause = tt }) starts_plain;
    }

pub returns-in_default-clause-verified :
    goal.returns-in_default-clause-verified
returns-in_default-clause-verified g c =
    let M = g.M.SymMemory in
    let L = g.M.Local.LocalMemory in
    let e = entry_view c.args.spec.now c.args.entered.now in
    let none : c.loop-turn.exploration.left.items ≡ [] = search rules in
    if_none c.loop-turn.exploration.found.cause _
    (λ no_cause. settled_runs (prog_view c.args.prog.now) L.memory L.actions M.stands M.terms e c.args.bound (nexts_view c.args.starts) g.met.M.SymMemory.meaning c.requires.cover
    (exploration_view c.loop-turn.exploration) (ap (map checking_view) none) no_cause c.loop-turn.invariant.settles)

pub returns-in_default-clause-ended : goal.returns-in_default-clause-ended
returns-in_default-clause-ended g c =
    let M = g.M.SymMemory in
    let L = g.M.Local.LocalMemory in
    let e = entry_view c.args.spec.now c.args.entered.now in
    let none : c.loop-turn.exploration.left.items ≡ [] = search rules in
    if_none c.loop-turn.exploration.found.cause _
    (λ no_cause. settled_ends (prog_view c.args.prog.now) L.memory L.actions M.stands M.terms e c.args.bound (nexts_view c.args.starts) g.met.M.SymMemory.meaning c.requires.cover
    (exploration_view c.loop-turn.exploration) (ap (map checking_view) none) no_cause c.loop-turn.invariant.settles)

pub returns-in_default-clause-used : goal.returns-in_default-clause-used
returns-in_default-clause-used g c = c.loop-turn.invariant.reached.uses

pub returns-in_default-clause-causes : goal.returns-in_default-clause-causes
returns-in_default-clause-causes g c = c.loop-turn.invariant.reached.cause

pub advance-requires-clause-reached : goal.advance-requires-clause-reached
advance-requires-clause-reached g c =
    let M = g.M.SymMemory in
    let L = g.M.Local.LocalMemory in
    let is = ap (map checking_view) c.in-Some.ensures.items ∙ map-append checking_view c.pop.new.self.items (c.in-Some.checking ∷ []) in
    (all_but_last (prog_view c.args.prog.now) L.memory L.actions M.stands M.terms (entry_view c.args.spec.now c.args.entered.now) c.args.bound (exploration_view c.loop-turn.exploration) (map checking_view c.pop.new.self.items)
    (checking_view c.in-Some.checking) is c.loop-turn.invariant.reached).1

pub advance-requires-clause-all_reached :
    goal.advance-requires-clause-all_reached
advance-requires-clause-all_reached g c =
    let M = g.M.SymMemory in
    let L = g.M.Local.LocalMemory in
    let is = ap (map checking_view) c.in-Some.ensures.items ∙ map-append checking_view c.pop.new.self.items (c.in-Some.checking ∷ []) in
    (all_but_last (prog_view c.args.prog.now) L.memory L.actions M.stands M.terms (entry_view c.args.spec.now c.args.entered.now) c.args.bound (exploration_view c.loop-turn.exploration) (map checking_view c.pop.new.self.items)
    (checking_view c.in-Some.checking) is c.loop-turn.invariant.reached).0

pub advance-requires-clause-may : goal.advance-requires-clause-may
advance-requires-clause-may g c =
    let e = entry_view c.args.spec.now c.args.entered.now in
    let is = ap (map checking_view) c.in-Some.ensures.items ∙ map-append checking_view c.pop.new.self.items (c.in-Some.checking ∷ []) in
    (last_apart (MayGoOn (prog_view c.args.prog.now) g.M.SymMemory.terms e) (map checking_view c.loop-turn.exploration.left.items) (map checking_view c.pop.new.self.items) (checking_view c.in-Some.checking) is c.loop-turn.invariant.placed).1

pub advance-requires-clause-placed : goal.advance-requires-clause-placed
advance-requires-clause-placed g c =
    let e = entry_view c.args.spec.now c.args.entered.now in
    let is = ap (map checking_view) c.in-Some.ensures.items ∙ map-append checking_view c.pop.new.self.items (c.in-Some.checking ∷ []) in
    (last_apart (MayGoOn (prog_view c.args.prog.now) g.M.SymMemory.terms e) (map checking_view c.loop-turn.exploration.left.items) (map checking_view c.pop.new.self.items) (checking_view c.in-Some.checking) is c.loop-turn.invariant.placed).0

pub loop-turn-preserved : goal.loop-turn-preserved
loop-turn-preserved g c =
    let M = g.M.SymMemory in
    let L = g.M.Local.LocalMemory in
    let e = entry_view c.args.spec.now c.args.entered.now in
    let old = exploration_view c.loop-turn.exploration in
    let x = checking_view c.in-Some.checking in
    let is = ap (map checking_view) c.in-Some.ensures.items ∙ map-append checking_view c.pop.new.self.items (c.in-Some.checking ∷ []) in
    let before = record old { left = map checking_view c.pop.new.self.items ++ x ∷ [] } in
    record {
      settles = settle_later (prog_view c.args.prog.now) L.memory L.actions M.stands M.terms e c.args.bound (nexts_view c.args.starts) old before (exploration_view c.in_ok-exploration-2.exploration)
          (ap (λ xs. record old { left = xs }) is) c.in_ok-exploration-2.ensures.settled c.loop-turn.invariant.settles;
      placed = c.in_ok-exploration-2.ensures.placed;
      reached = c.in_ok-exploration-2.ensures.all_reached;
      inside = λ contained starts_in.
          let apart = apart_inside (prog_view c.args.prog.now) (spec_view c.args.spec.now) old (map checking_view c.pop.new.self.items) x is (c.loop-turn.invariant.inside contained starts_in) in
          c.in_ok-exploration-2.ensures.inside contained apart.0 apart.1;
      plain = λ keeps plain terms starts_in starts_plain.
          let inside = apart_inside (prog_view c.args.prog.now) (spec_view c.args.spec.now) old (map checking_view c.pop.new.self.items) x is (c.loop-turn.invariant.inside plain.contained starts_in) in
          let apart = apart_plain (prog_view c.args.prog.now) (spec_view c.args.spec.now) plain M.plain old (map checking_view c.pop.new.self.items) x is (c.loop-turn.invariant.plain keeps plain terms starts_in starts_plain) in
          c.in_ok-exploration-2.ensures.plain keeps plain terms apart.0 inside.1 apart.1;
    }

pub returns-in_default-clause-inside : goal.returns-in_default-clause-inside
returns-in_default-clause-inside g c contained starts_in = (c.loop-turn.invariant.inside contained starts_in).none_used

pub returns-in_default-clause-plain : goal.returns-in_default-clause-plain
returns-in_default-clause-plain g c keeps plain terms starts_in starts_plain = (c.loop-turn.invariant.plain keeps plain terms starts_in starts_plain).cause
