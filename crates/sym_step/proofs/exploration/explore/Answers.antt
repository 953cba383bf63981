use Rattle.std.proofs.Common.{arith, ◌≡◌, [], ◌∷◌, ◌++◌, IfNone, refl, sym, ap, subst, ◌∙◌, inl}
use Rattle.std.specs.Option.{option_map}
use Rattle.std.proofs.lemmas.List.{map-append}
use Rattle.gil_syntax.specs.Program.{prog_view}
use Rattle.sym_step.proofs.Exploring.{accounts_first, cover_pushed, cover_finished}
use Rattle.sym_step.proofs.exploration.explore.Goals as goal
use Rattle.sym_step.specs.Exploring.{CoverRuns, IsEndedFrom, IsFrom, KeepAccounts, KeepTrails, MayGoOn, or_none}
use Rattle.sym_step.specs.Narrow.{IsNarrowFrom, IsNarrowEndedFrom, KeepNarrowTrails}
use Rattle.sym_step.specs.ExplorationView.{paths_left}
use Rattle.sym_model.proofs.ListLaws.{each_append}
use Rattle.sym_model.specs.Lists.{Each}
use Rattle.sym_paths.specs.View.{end_view, path_view, paths_view}

pub loop-turn-init : goal.loop-turn-init
loop-turn-init g c =
    let M = g.M.SymMemory in
    let m = g.M.Local.LocalMemory.actions in
    let p = prog_view c.args.prog.now in
    let start = path_view c.args.start in
    let left : paths_left c.in_ok-exploration.exploration ≡ start ∷ [] = c.in_ok-exploration.ensures in
    let ended : paths_view c.new-ended.result ≡ [] = ap paths_view c.new-ended.ensures in
    record {
      placed = subst (Each (MayGoOn p M.terms)) (sym left) (c.requires.placed, tt);
      left = subst (Each (IsFrom p m M.stands M.terms M.asked M.depends M.plain M.keeps_plain c.args.bound start)) (sym left) (record { earlier = []; trail = refl; within = omega (arith, c.requires.first); simple = λ keeps. tt; forms = tt }, tt);
      ended = subst (Each (IsEndedFrom p m M.stands M.terms M.asked M.depends M.plain M.keeps_plain c.args.bound start)) (sym ended) tt;
      narrow_left = λ narrow. subst (Each (IsNarrowFrom p m M.stands M.terms M.asked M.depends M.plain M.keeps_plain c.args.bound start)) (sym left) (record { from = record { earlier = []; trail = refl; within = omega (arith, c.requires.first); simple = λ keeps. tt; forms = tt }; narrow = tt }, tt);
      narrow_ended = λ narrow. subst (Each (IsNarrowEndedFrom p m M.stands M.terms M.asked M.depends M.plain M.keeps_plain c.args.bound start)) (sym ended) tt;
      cover = subst (λ xs. CoverRuns p m M.stands c.args.bound start (xs ++ paths_left c.in_ok-exploration.exploration)) (sym ended)
          (subst (CoverRuns p m M.stands c.args.bound start) (sym left)
          (λ inputs v0 s0 is fine. inl (accounts_first p m M.stands M.terms M.asked c.args.bound start inputs v0 s0 (ap (option_map end_view) c.requires.going) c.requires.first is)));
    }

pub returns-in-None-clause-cover : goal.returns-in-None-clause-cover
returns-in-None-clause-cover g c =
    let M = g.M.SymMemory in
    let m = g.M.Local.LocalMemory.actions in
    let p = prog_view c.args.prog.now in
    let old = paths_left c.loop-turn.exploration in
    let now = paths_left c.next_ended.new.self in
    let keep = subst (λ o. KeepAccounts p m M.stands c.args.bound old (or_none (option_map path_view o) ++ now)) c.in-None.is c.in_ok-path.ensures.cover in
    let none = subst (λ o. IfNone o (now ≡ [])) c.in-None.is c.in_ok-path.ensures.last in
    cover_finished p m M.stands c.args.bound (path_view c.args.start) (paths_view c.loop-turn.ended) old now c.loop-turn.invariant.cover keep none

pub loop-turn-preserved : goal.loop-turn-preserved
loop-turn-preserved g c =
    let M = g.M.SymMemory in
    let m = g.M.Local.LocalMemory.actions in
    let p = prog_view c.args.prog.now in
    let start = path_view c.args.start in
    let path = path_view c.in-Some.path in
    let old = paths_left c.loop-turn.exploration in
    let now = paths_left c.next_ended.new.self in
    let keep = subst (λ o. KeepAccounts p m M.stands c.args.bound old (or_none (option_map path_view o) ++ now)) c.in-Some.is c.in_ok-path.ensures.cover in
    let trails = subst (λ o. KeepTrails p m M.stands M.terms M.asked M.depends M.plain M.keeps_plain c.args.bound old (or_none (option_map path_view o)) now) c.in-Some.is c.in_ok-path.ensures.trails in
    let pushed : paths_view c.push.new.self ≡ paths_view c.loop-turn.ended ++ path ∷ [] = ap paths_view c.in_ok-push-in-Some.ensures.ok ∙ map-append path_view c.loop-turn.ended (c.in-Some.path ∷ []) in
    let come = trails start c.loop-turn.invariant.left in
    let narrow_trails : M.keeps_narrow → KeepNarrowTrails p m M.stands M.terms M.asked M.depends M.plain M.keeps_plain c.args.bound old (path ∷ []) now =
    λ keeps. subst (λ o. KeepNarrowTrails p m M.stands M.terms M.asked M.depends M.plain M.keeps_plain c.args.bound old (or_none (option_map path_view o)) now) c.in-Some.is (c.in_ok-path.ensures.narrow keeps) in
    record {
      placed = c.in_ok-path.ensures.placed;
      left = come.1;
      ended = subst (Each (IsEndedFrom p m M.stands M.terms M.asked M.depends M.plain M.keeps_plain c.args.bound start)) (sym pushed)
          (each_append (IsEndedFrom p m M.stands M.terms M.asked M.depends M.plain M.keeps_plain c.args.bound start) (paths_view c.loop-turn.ended) (path ∷ []) c.loop-turn.invariant.ended come.0);
      narrow_left = λ keeps. (narrow_trails keeps start (c.loop-turn.invariant.narrow_left keeps)).1;
      narrow_ended = λ keeps. subst (Each (IsNarrowEndedFrom p m M.stands M.terms M.asked M.depends M.plain M.keeps_plain c.args.bound start)) (sym pushed)
          (each_append (IsNarrowEndedFrom p m M.stands M.terms M.asked M.depends M.plain M.keeps_plain c.args.bound start) (paths_view c.loop-turn.ended) (path ∷ []) (c.loop-turn.invariant.narrow_ended keeps) (narrow_trails keeps start (c.loop-turn.invariant.narrow_left keeps)).0);
      cover = subst (λ xs. CoverRuns p m M.stands c.args.bound start (xs ++ now)) (sym pushed)
          (cover_pushed p m M.stands c.args.bound start (paths_view c.loop-turn.ended) old (path ∷ []) now c.loop-turn.invariant.cover keep);
    }

pub returns-in-None-clause-narrow : goal.returns-in-None-clause-narrow
returns-in-None-clause-narrow g c = λ keeps. c.loop-turn.invariant.narrow_ended keeps
