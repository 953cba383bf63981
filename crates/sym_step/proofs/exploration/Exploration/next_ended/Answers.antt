use Rattle.std.proofs.Common.{arith, ◌≡◌, inl, [], ◌∷◌, ◌++◌, true, false, sym, ap, subst, ◌∙◌, rules, is_some}
use Rattle.std.proofs.lemmas.List.{append-nil, map-append}
use Rattle.gil_syntax.specs.Program.{prog_view}
use Rattle.sym_step.proofs.Exploring.{accounts_cut, cut_from, placed_rest, placed_last, trails_handed, cover_handed, stepped, has_end, has_no_end}
use Rattle.sym_step.proofs.Narrow.{narrow_cut, narrow_handed, narrow_stepped}
use Rattle.sym_step.proofs.exploration.Exploration.next_ended.Goals as goal
use Rattle.sym_step.specs.Exploring.{IsEndedFrom}
use Rattle.sym_step.specs.Narrow.{IsNarrowFrom, IsNarrowEndedFrom}
use Rattle.sym_step.specs.Runs.{AccountsFor}
use Rattle.sym_step.specs.ExplorationView.{paths_left}
use Rattle.sym_model.specs.Lists.{Each, OneOf}
use Rattle.sym_paths.specs.View.{end_view, path_view, paths_view}

pub loop-turn-init : goal.loop-turn-init
loop-turn-init g c = record {
  placed = c.requires.placed;
  trails = λ start from. (tt, from);
  narrow = λ keeps start from. (tt, from);
  cover = λ start inputs v0 s0 fine one. one;
}

pub returns-in_default-clause-cover : goal.returns-in_default-clause-cover
returns-in_default-clause-cover g c = λ start inputs v0 s0 fine one.
    subst (λ ps. OneOf (AccountsFor (prog_view c.args.prog.now) g.M.Local.LocalMemory.actions g.M.SymMemory.stands inputs s0 start v0) (paths_view ps))
    (c.in_default.ensures.items ∙ append-nil c.pop.new.self.items) (c.loop-turn.invariant.cover start inputs v0 s0 fine one)

pub returns-then-is_some : goal.returns-then-is_some
returns-then-is_some g c =
    let M = g.M.SymMemory in
    let m = g.M.Local.LocalMemory.actions in
    let p = prog_view c.args.prog.now in
    let path = c.in-Some.path in
    let all = paths_left c.loop-turn.self in
    let rest = paths_view c.pop.new.self.items in
    let old = paths_left c.args.self.now in
    let is : all ≡ rest ++ path_view path ∷ [] = ap paths_view c.in-Some.ensures.items ∙ map-append path_view c.pop.new.self.items (path ∷ []) in
    let some : is_some path.end ≡ true = search (rules, c.if-is_some.true) in
    record {
      placed = placed_rest p m M.stands M.terms M.asked M.depends M.plain M.keeps_plain c.args.bound old all rest (path_view path) is c.loop-turn.invariant.placed;
      trails = trails_handed p m M.stands M.terms M.asked M.depends M.plain M.keeps_plain c.args.bound old all rest (path_view path) is (path_view path) (λ start from. inl (from, has_end end_view path.end some)) c.loop-turn.invariant.trails;
      narrow = λ keeps. narrow_handed p m M.stands M.terms M.asked M.depends M.plain M.keeps_plain c.args.bound old all rest (path_view path) is (path_view path) (λ start from. inl (from, has_end end_view path.end some)) (c.loop-turn.invariant.narrow keeps);
      cover = cover_handed p m M.stands M.terms M.asked M.depends M.plain M.keeps_plain c.args.bound old all rest (path_view path) is (path_view path) (λ start inputs v0 s0 accounts. accounts) c.loop-turn.invariant.cover;
      last = tt;
    }

pub returns-then-path-bound : goal.returns-then-path-bound
returns-then-path-bound g c =
    let M = g.M.SymMemory in
    let m = g.M.Local.LocalMemory.actions in
    let p = prog_view c.args.prog.now in
    let path = c.in-Some.path in
    let all = paths_left c.loop-turn.self in
    let rest = paths_view c.pop.new.self.items in
    let old = paths_left c.args.self.now in
    let is : all ≡ rest ++ path_view path ∷ [] = ap paths_view c.in-Some.ensures.items ∙ map-append path_view c.pop.new.self.items (path ∷ []) in
    let none : is_some path.end ≡ false = search (rules, c.if-is_some.false) in
    let going = has_no_end end_view path.end none in
    record {
      placed = placed_rest p m M.stands M.terms M.asked M.depends M.plain M.keeps_plain c.args.bound old all rest (path_view path) is c.loop-turn.invariant.placed;
      trails = trails_handed p m M.stands M.terms M.asked M.depends M.plain M.keeps_plain c.args.bound old all rest (path_view path) is (path_view c.cut_off.result)
          (λ start from. subst (IsEndedFrom p m M.stands M.terms M.asked M.depends M.plain M.keeps_plain c.args.bound start) (sym c.cut_off.ensures) (cut_from p m M.stands M.terms M.asked c.args.bound M.depends M.plain M.keeps_plain start (path_view path) going c.if-path-bound.true from))
          c.loop-turn.invariant.trails;
      narrow = λ keeps. narrow_handed p m M.stands M.terms M.asked M.depends M.plain M.keeps_plain c.args.bound old all rest (path_view path) is (path_view c.cut_off.result)
          (λ start from. subst (IsNarrowEndedFrom p m M.stands M.terms M.asked M.depends M.plain M.keeps_plain c.args.bound start) (sym c.cut_off.ensures) (narrow_cut p m M.stands M.terms M.asked M.depends M.plain M.keeps_plain c.args.bound start (path_view path) going c.if-path-bound.true from))
          (c.loop-turn.invariant.narrow keeps);
      cover = cover_handed p m M.stands M.terms M.asked M.depends M.plain M.keeps_plain c.args.bound old all rest (path_view path) is (path_view c.cut_off.result)
          (λ start inputs v0 s0 accounts. subst (AccountsFor p m M.stands inputs s0 start v0) (sym c.cut_off.ensures)
          (accounts_cut p m M.stands M.terms M.asked c.args.bound (path_view path) going start inputs v0 s0 accounts))
          c.loop-turn.invariant.cover;
      last = tt;
    }

pub step-requires : goal.step-requires
step-requires g c =
    let M = g.M.SymMemory in
    let path = c.in-Some.path in
    let rest = paths_view c.pop.new.self.items in
    let is : paths_left c.loop-turn.self ≡ rest ++ path_view path ∷ [] = ap paths_view c.in-Some.ensures.items ∙ map-append path_view c.pop.new.self.items (path ∷ []) in
    let none : is_some path.end ≡ false = search (rules, c.if-is_some.false) in
    placed_last (prog_view c.args.prog.now) g.M.Local.LocalMemory.actions M.stands M.terms M.asked M.depends M.plain M.keeps_plain c.args.bound (paths_left c.args.self.now) (paths_left c.loop-turn.self) rest (path_view path) is c.loop-turn.invariant.placed
    (has_no_end end_view path.end none) (omega (arith, c.if-path-bound.false, c.requires.bounded))

pub loop-turn-preserved : goal.loop-turn-preserved
loop-turn-preserved g c =
    let M = g.M.SymMemory in
    let path = c.in-Some.path in
    let rest = paths_view c.pop.new.self.items in
    let is : paths_left c.loop-turn.self ≡ rest ++ path_view path ∷ [] = ap paths_view c.in-Some.ensures.items ∙ map-append path_view c.pop.new.self.items (path ∷ []) in
    let none : is_some path.end ≡ false = search (rules, c.if-is_some.false) in
    let same : c.append.new.self.items ≡ c.pop.new.self.items ++ c.in_ok-next.next = c.in_ok-append.ensures.items ∙ ap (λ xs. c.pop.new.self.items ++ xs) c.into_vec.ensures in
    let left : paths_view c.append.new.self.items ≡ rest ++ paths_view c.in_ok-next.next = ap paths_view same ∙ map-append path_view c.pop.new.self.items c.in_ok-next.next in
    let kept = stepped (prog_view c.args.prog.now) g.M.Local.LocalMemory.actions M.stands M.terms M.asked M.depends M.plain M.keeps_plain c.args.bound (paths_left c.args.self.now) (paths_left c.loop-turn.self) rest (path_view path) is
    (paths_view c.in_ok-next.next) (paths_view c.append.new.self.items) left (has_no_end end_view path.end none) c.if-path-bound.false (omega (arith, c.if-path-bound.false, c.requires.bounded))
    c.in_ok-next.ensures.next c.in_ok-next.ensures.placed c.in_ok-next.ensures.simple c.in_ok-next.ensures.forms c.loop-turn.invariant.placed c.loop-turn.invariant.trails c.loop-turn.invariant.cover in
    record {
      placed = kept.0;
      trails = kept.1;
      narrow = λ keeps. narrow_stepped (prog_view c.args.prog.now) g.M.Local.LocalMemory.actions M.stands M.terms M.asked M.depends M.plain M.keeps_plain c.args.bound (paths_left c.args.self.now) (paths_left c.loop-turn.self) rest (path_view path) is
          (paths_view c.in_ok-next.next) (paths_view c.append.new.self.items) left (has_no_end end_view path.end none) c.if-path-bound.false (omega (arith, c.if-path-bound.false, c.requires.bounded))
          c.in_ok-next.ensures.next c.in_ok-next.ensures.simple c.in_ok-next.ensures.forms (c.in_ok-next.ensures.narrow keeps) c.loop-turn.invariant.placed (c.loop-turn.invariant.narrow keeps);
      cover = kept.2;
    }

pub returns-in_default-clause-narrow : goal.returns-in_default-clause-narrow
returns-in_default-clause-narrow g c =
    let M = g.M.SymMemory in
    let m = g.M.Local.LocalMemory.actions in
    let p = prog_view c.args.prog.now in
    λ keeps start from.
    subst (λ ps. Each (IsNarrowEndedFrom p m M.stands M.terms M.asked M.depends M.plain M.keeps_plain c.args.bound start) [] × Each (IsNarrowFrom p m M.stands M.terms M.asked M.depends M.plain M.keeps_plain c.args.bound start) (paths_view ps))
    (c.in_default.ensures.items ∙ append-nil c.pop.new.self.items) (c.loop-turn.invariant.narrow keeps start from)
