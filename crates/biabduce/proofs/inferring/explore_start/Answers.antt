use Rattle.std.proofs.Common.{◌≡◌, ⊎_elim, inl, inr, [], ◌∷◌, ◌++◌, IfNone, refl, sym, ap, subst, arith}
use Rattle.std.specs.Option.{option_map}
use Rattle.gil_machine.specs.Run.{start as start_state}
use Rattle.gil_syntax.specs.Program.{prog_view}
use Rattle.gil_syntax.specs.View.{proc_view}
use Rattle.sym_step.specs.Exploring.{IsFrom, IsEndedFrom, KeepAccounts, KeepTrails, MayGoOn, or_none}
use Rattle.sym_step.specs.Narrow.{IsNarrowFrom, IsNarrowEndedFrom, KeepNarrowTrails}
use Rattle.sym_step.specs.Runs.{AccountsFor}
use Rattle.sym_step.specs.ExplorationView.{paths_left}
use Rattle.sym_model.specs.Lists.{Each, OneOf}
use Rattle.sym_paths.specs.View.{path_view}
use Rattle.bi_beginnings.specs.View.{beginning_view}
use Rattle.bi_specifications.specs.Specified.{IsExplored}
use Rattle.bi_specifications.specs.View.{entry_view}
use Rattle.biabduce.proofs.Accounted.{has_input, first_accounts}
use Rattle.biabduce.specs.View.{inference_view}
use Rattle.biabduce.proofs.Asking.{added_rightly}
use Rattle.biabduce.proofs.Keeping.{entry_of_uses}
use Rattle.biabduce.proofs.NarrowPaths.{all_along, begun_narrowly}
use Rattle.biabduce.proofs.Others.{as_ended, narrow_or_other, taken_others}
use Rattle.biabduce.proofs.inferring.explore_start.Goals as goal

pub loop-turn-init : goal.loop-turn-init
loop-turn-init g c =
    let M = g.M.SymMemory in
    let m = g.M.Local.LocalMemory.actions in
    let p = prog_view c.args.prog.now in
    let start = path_view c.args.start in
    let left : paths_left c.in_ok-exploration.exploration ≡ start ∷ [] = c.in_ok-exploration.ensures in
    let none : start.steps ≡ 0 = ap (λ x. x.steps) c.requires.opening.begins.is in
    record {
      placed = subst (Each (MayGoOn p M.terms)) (sym left) ((λ going few. c.requires.step), tt);
      left = subst (Each (IsFrom p m M.stands M.terms M.asked M.depends M.plain M.keeps_plain c.args.bound start)) (sym left) (record { earlier = []; trail = refl; within = omega (arith, none); simple = λ keeps. tt; forms = tt }, tt);
      sound = c.requires.sound;
      keeps = λ r provided. provided;
      accounts = λ r wanted a begins.
          inr
          (subst (OneOf (AccountsFor p m M.stands [] (start_state p (proc_view c.args.proc.now).name r.args a.own r.counter) start a.values)) (sym left)
          (inl (first_accounts p g.M.Local.LocalMemory.memory m g.met.M.Local.LocalMemory.laws M.stands M.terms M.asked M.kept (proc_view c.args.proc.now) c.args.bound (beginning_view c.args.beginning.now) r wanted a start c.requires.opening c.requires.found begins)));
      asked = λ before. before;
      other = λ keep entry from_narrow before. before;
      decided = λ decidable bare decided. decided;
      narrow_left = λ keep. subst (Each (IsNarrowFrom p m M.stands M.terms M.asked M.depends M.plain M.keeps_plain c.args.bound start)) (sym left) (record { from = record { earlier = []; trail = refl; within = omega (arith, none); simple = λ keeps. tt; forms = tt }; narrow = tt }, tt);
      narrow = λ keep decidable is_left starts decided. decided;
      keeps_narrowly = λ keep entry r provided. provided;
      accounts_narrowly = λ keep entry is_left starts r wanted narrow a begins.
          inr
          (subst (OneOf (AccountsFor p m M.stands [] (start_state p (proc_view c.args.proc.now).name r.args a.own r.counter) start a.values)) (sym left)
          (inl (first_accounts p g.M.Local.LocalMemory.memory m g.met.M.Local.LocalMemory.laws M.stands M.terms M.asked M.kept (proc_view c.args.proc.now) c.args.bound (beginning_view c.args.beginning.now) r wanted a start c.requires.opening c.requires.found begins)));
    }

pub next_ended-requires-clause-placed : goal.next_ended-requires-clause-placed
next_ended-requires-clause-placed g c = c.loop-turn.invariant.placed

pub returns-in-None : goal.returns-in-None
returns-in-None g c =
    let M = g.M.SymMemory in
    let m = g.M.Local.LocalMemory.actions in
    let p = prog_view c.args.prog.now in
    let q = proc_view c.args.proc.now in
    let start = path_view c.args.start in
    let old = paths_left c.loop-turn.exploration in
    let now = paths_left c.next_ended.new.self in
    let keep = subst (λ o. KeepAccounts p m M.stands c.args.bound old (or_none (option_map path_view o) ++ now)) c.in-None.is c.in_ok-next_ended.ensures.cover in
    let none = subst (λ o. IfNone o (now ≡ [])) c.in-None.is c.in_ok-next_ended.ensures.last in
    record {
      sound = c.loop-turn.invariant.sound;
      keeps = c.loop-turn.invariant.keeps;
      cover = λ r wanted a begins.
          let For = AccountsFor p m M.stands [] (start_state p q.name r.args a.own r.counter) start a.values in
          ⊎_elim (λ provided. provided)
          (λ one. absurd (subst (OneOf For) none (keep start [] a.values (start_state p q.name r.args a.own r.counter)
          (has_input p g.M.Local.LocalMemory.memory m g.met.M.Local.LocalMemory.laws M.stands M.terms M.asked M.kept q c.args.bound (beginning_view c.args.beginning.now) r wanted a c.args.prog.now.well_made) one)))
          (c.loop-turn.invariant.accounts r wanted a begins);
      asked = c.loop-turn.invariant.asked;
      other = c.loop-turn.invariant.other;
      decided = c.loop-turn.invariant.decided;
      narrow = c.loop-turn.invariant.narrow;
      narrow_cover = λ keep_narrow entry. (
        c.loop-turn.invariant.keeps_narrowly keep_narrow entry,
        λ is_left starts r wanted narrow a begins.
            let For = AccountsFor p m M.stands [] (start_state p q.name r.args a.own r.counter) start a.values in
            ⊎_elim (λ provided. provided)
            (λ one. absurd (subst (OneOf For) none (keep start [] a.values (start_state p q.name r.args a.own r.counter)
            (has_input p g.M.Local.LocalMemory.memory m g.met.M.Local.LocalMemory.laws M.stands M.terms M.asked M.kept q c.args.bound (beginning_view c.args.beginning.now) r wanted a c.args.prog.now.well_made) one)))
            (c.loop-turn.invariant.accounts_narrowly keep_narrow entry is_left starts r wanted narrow a begins),
      );
    }

pub loop-turn-preserved : goal.loop-turn-preserved
loop-turn-preserved g c =
    let M = g.M.SymMemory in
    let m = g.M.Local.LocalMemory.actions in
    let p = prog_view c.args.prog.now in
    let start = path_view c.args.start in
    let old = paths_left c.loop-turn.exploration in
    let now = paths_left c.next_ended.new.self in
    let trails = subst (λ o. KeepTrails p m M.stands M.terms M.asked M.depends M.plain M.keeps_plain c.args.bound old (or_none (option_map path_view o)) now) c.in-Some.is c.in_ok-next_ended.ensures.trails in
    let come = trails start c.loop-turn.invariant.left in
    let narrow_come : M.keeps_narrow → Each (IsNarrowEndedFrom p m M.stands M.terms M.asked M.depends M.plain M.keeps_plain c.args.bound start) (path_view c.in-Some.path ∷ []) × Each (IsNarrowFrom p m M.stands M.terms M.asked M.depends M.plain M.keeps_plain c.args.bound start) now =
    λ keep. subst (λ o. KeepNarrowTrails p m M.stands M.terms M.asked M.depends M.plain M.keeps_plain c.args.bound old (or_none (option_map path_view o)) now) c.in-Some.is (c.in_ok-next_ended.ensures.narrow keep) start (c.loop-turn.invariant.narrow_left keep) in
    let q = proc_view c.args.proc.now in
    let b = beginning_view c.args.beginning.now in
    let keep = subst (λ o. KeepAccounts p m M.stands c.args.bound old (or_none (option_map path_view o) ++ now)) c.in-Some.is c.in_ok-next_ended.ensures.cover in
    let path = path_view c.in-Some.path in
    let Explored = IsExplored g.M.Local.LocalMemory.memory g.M.Local.LocalMemory.actions M.stands M.terms M.asked M.depends M.plain M.keeps_plain M.kept q (entry_view c.args.beginning.now) path p c.args.bound in
    let explored_by : IsEndedFrom p m M.stands M.terms M.asked M.depends M.plain M.keeps_plain c.args.bound start path → Explored =
    λ ended. record {
      well_made = c.args.prog.now.well_made;
      valid = c.args.prog.now.valid;
      found = c.requires.found;
      start = start;
      opening = c.requires.opening;
      entry = entry_of_uses g.M.Local.LocalMemory.memory M.stands q.params b start c.requires.beginning c.requires.exact;
      ended = ended;
    }
    in
    let explored : Explored = explored_by come.0.0 in
    let covers = c.in_ok-take_end-in-Some.ensures.cover p explored in
    record {
      placed = c.in_ok-next_ended.ensures.placed;
      left = come.1;
      sound = c.in_ok-take_end-in-Some.ensures.sound p c.args.bound c.loop-turn.invariant.sound explored;
      keeps = λ r provided. covers.0 r (c.loop-turn.invariant.keeps r provided);
      accounts = λ r wanted a begins.
          ⊎_elim (λ provided. inl (covers.0 r provided))
          (λ one.
          ⊎_elim (λ here. inl (covers.1 r wanted a begins here)) inr
          (keep start [] a.values (start_state p q.name r.args a.own r.counter)
          (has_input p g.M.Local.LocalMemory.memory m g.met.M.Local.LocalMemory.laws M.stands M.terms M.asked M.kept q c.args.bound b r wanted a c.args.prog.now.well_made) one))
          (c.loop-turn.invariant.accounts r wanted a begins);
      asked = λ before.
          added_rightly p g.M.Local.LocalMemory.memory g.M.Local.LocalMemory.actions M.stands M.terms M.asked M.depends M.plain M.keeps_plain M.kept q c.args.bound (entry_view c.args.beginning.now) path explored (inference_view c.loop-turn.inference) (inference_view c.take_end.new.inference)
          (c.in_ok-take_end-in-Some.ensures.asked explored) (c.loop-turn.invariant.asked before);
      other = λ keep_narrow entry from_narrow before.
          let ended = (narrow_come keep_narrow).0.0 in
          let explored_so : IsExplored g.M.Local.LocalMemory.memory g.M.Local.LocalMemory.actions M.stands M.terms M.asked M.depends M.plain M.keeps_plain M.kept q (entry_view c.args.beginning.now) path p c.args.bound =
          explored_by (as_ended p g.M.Local.LocalMemory.memory g.M.Local.LocalMemory.actions M.stands M.terms M.asked M.depends M.plain M.keeps_plain M.kept q c.args.bound start path ended)
          in
          taken_others p g.M.Local.LocalMemory.memory g.M.Local.LocalMemory.actions M.stands M.terms M.asked M.depends M.plain M.keeps_plain M.kept q c.args.bound (entry_view c.args.beginning.now) b path explored_so
          (inference_view c.loop-turn.inference) (inference_view c.take_end.new.inference) (c.in_ok-take_end-in-Some.ensures.asked explored_so) c.requires.exact
          (⊎_elim
          (λ from_here. ⊎_elim
          (λ along. inl (from_here.0, c.in_ok-take_end-in-Some.ensures.narrow keep_narrow p entry c.requires.bounded explored_so ended along from_here.0 from_here.1))
          (λ meets. inr (inl meets))
          (narrow_or_other p g.M.Local.LocalMemory.memory g.M.Local.LocalMemory.actions M.stands M.terms M.asked M.depends M.plain M.keeps_plain M.kept q c.args.bound start path ended))
          (λ other. inr (inr other)) from_narrow)
          (c.loop-turn.invariant.other keep_narrow entry from_narrow before);
      decided = λ decidable bare decided. c.in_ok-take_end-in-Some.ensures.decided p decidable c.requires.bounded explored bare (c.loop-turn.invariant.decided decidable bare decided);
      narrow_left = λ keep. (narrow_come keep).1;
      narrow = λ keep_narrow decidable is_left starts decided.
          let ended = (narrow_come keep_narrow).0.0 in
          begun_narrowly q c.args.bound b (inference_view c.loop-turn.inference) (inference_view c.take_end.new.inference) is_left
          (c.in_ok-take_end-in-Some.ensures.narrow keep_narrow p decidable.entry c.requires.bounded explored ended
          (all_along p decidable.narrow g.M.Local.LocalMemory.memory g.M.Local.LocalMemory.actions M.stands M.terms M.asked M.depends M.plain M.keeps_plain M.kept q b start c.requires.opening c.args.bound c.requires.bounded is_left starts path ended) is_left starts)
          (c.loop-turn.invariant.narrow keep_narrow decidable is_left starts decided);
      keeps_narrowly = λ keep_narrow entry r provided. (c.in_ok-take_end-in-Some.ensures.narrow_cover keep_narrow p entry c.requires.bounded explored (narrow_come keep_narrow).0.0).0 r (c.loop-turn.invariant.keeps_narrowly keep_narrow entry r provided);
      accounts_narrowly = λ keep_narrow entry is_left starts r wanted narrow a begins.
          let (keeps, narrow_covers) = c.in_ok-take_end-in-Some.ensures.narrow_cover keep_narrow p entry c.requires.bounded explored (narrow_come keep_narrow).0.0 in
          ⊎_elim (λ provided. inl (keeps r provided))
          (λ one.
          ⊎_elim (λ here. inl (narrow_covers is_left starts r wanted narrow a begins here)) inr
          (keep start [] a.values (start_state p q.name r.args a.own r.counter)
          (has_input p g.M.Local.LocalMemory.memory m g.met.M.Local.LocalMemory.laws M.stands M.terms M.asked M.kept q c.args.bound b r wanted a c.args.prog.now.well_made) one))
          (c.loop-turn.invariant.accounts_narrowly keep_narrow entry is_left starts r wanted narrow a begins);
    }
