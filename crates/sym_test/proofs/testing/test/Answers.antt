use Rattle.std.proofs.Common.{◌≡◌, [], ◌∷◌, ◌++◌, None, IfNone, sym, ap, subst, ◌∙◌}
use Rattle.std.specs.Option.{option_map}
use Rattle.gil_values.specs.View.{value_view, values_view}
use Rattle.gil_syntax.specs.Program.{prog_view}
use Rattle.sym_step.specs.Exploring.{MayGoOn, KeepTrails, KeepAccounts, or_none}
use Rattle.sym_step.specs.ExplorationView.{paths_left}
use Rattle.sym_paths.specs.View.{path_view}
use Rattle.sym_test.specs.Judged.{Begins, judgement_view}
use Rattle.sym_test.specs.Undecided.{IsRightVerdict}
use Rattle.sym_test.specs.View.{query_view, verdict_view, bug}
use Rattle.sym_test.proofs.Laws.{trail_laws, plain_laws}
use Rattle.sym_test.proofs.UnderWay.{IsUnderWay, AfterJudgement, begins_so, goes_on, handed_out, concludes, no_simple_failure, simple_decides}
use Rattle.sym_test.proofs.testing.test.Goals as goal
use Rattle.sym_test.proofs.testing.test.Goals.{in-Harmless, in-Undecided}

pub loop-turn-init : goal.loop-turn-init
loop-turn-init g c =
    let p = prog_view c.args.prog.now in
    let m = g.M.Local.LocalMemory.actions in
    let stands = g.M.SymMemory.stands in
    let terms = g.M.SymMemory.terms in
    let asked = g.M.SymMemory.asked in
    let depends = g.M.SymMemory.depends in
    let plain = g.M.SymMemory.plain in
    let keeps = g.M.SymMemory.keeps_plain in
    let start = path_view c.in_ok-start.start in
    let is = c.in_ok-start.ensures in
    let begins : Begins p stands terms plain c.args.proc.now start = record {
      stands_for = is.stands p;
      over = is.over;
      first = is.first;
      starts_plain = is.plain 0;
    } in
    let may : MayGoOn p terms start = λ going few. c.starts_may_step.ensures p c.args.proc.now start c.args.prog.now.valid c.requires.entry begins.stands_for begins.over begins.first.steps going in
    subst (λ left. IsUnderWay p m stands terms asked depends plain keeps c.args.proc.now c.args.bound left None) (sym c.in_ok-exploration.ensures)
    (begins_so p m stands terms asked depends plain (trail_laws p m stands terms asked) keeps (plain_laws p m stands terms asked plain) c.args.proc.now c.args.bound c.requires.entry c.requires.bound start begins may)

pub returns-in-None : goal.returns-in-None
returns-in-None g c =
    let p = prog_view c.args.prog.now in
    let m = g.M.Local.LocalMemory.actions in
    let stands = g.M.SymMemory.stands in
    let terms = g.M.SymMemory.terms in
    let asked = g.M.SymMemory.asked in
    let depends = g.M.SymMemory.depends in
    let plain = g.M.SymMemory.plain in
    let keeps = g.M.SymMemory.keeps_plain in
    let left = paths_left c.loop-turn.exploration in
    let rest = paths_left c.next_ended.new.self in
    let accounts : KeepAccounts p m stands c.args.bound left rest =
    subst (λ o. KeepAccounts p m stands c.args.bound left (or_none (option_map path_view o) ++ rest)) c.in-None.is c.in_ok-next_ended.ensures.cover in
    let none : rest ≡ [] = subst (λ o. IfNone o (rest ≡ [])) c.in-None.is c.in_ok-next_ended.ensures.last in
    let laws = trail_laws p m stands terms asked in
    let kept = option_map query_view c.loop-turn.kept in
    let right : IsRightVerdict p m stands terms asked depends keeps c.args.proc.now c.args.bound (verdict_view c.conclude.result) =
    subst (IsRightVerdict p m stands terms asked depends keeps c.args.proc.now c.args.bound) (sym c.conclude.ensures)
    (concludes p m stands terms asked depends plain laws keeps (plain_laws p m stands terms asked plain) c.args.proc.now c.args.bound c.requires.entry c.requires.bound left rest kept c.loop-turn.invariant accounts none) in
    record {
      right = right;
      decided = simple_decides p m stands terms asked depends keeps c.args.proc.now c.args.bound (verdict_view c.conclude.result) right;
      found = λ plainly inputs fails. absurd (no_simple_failure p m stands terms asked depends plain laws keeps (plain_laws p m stands terms asked plain) c.args.proc.now c.args.bound c.requires.entry c.requires.bound left rest kept c.loop-turn.invariant accounts none plainly inputs fails);
    }

pub judge-requires : goal.judge-requires
judge-requires g c =
    let p = prog_view c.args.prog.now in
    let m = g.M.Local.LocalMemory.actions in
    let stands = g.M.SymMemory.stands in
    let terms = g.M.SymMemory.terms in
    let asked = g.M.SymMemory.asked in
    let depends = g.M.SymMemory.depends in
    let plain = g.M.SymMemory.plain in
    let keeps = g.M.SymMemory.keeps_plain in
    let left = paths_left c.loop-turn.exploration in
    let rest = paths_left c.next_ended.new.self in
    let trails : KeepTrails p m stands terms asked depends plain keeps c.args.bound left (path_view c.in-Some.path ∷ []) rest =
    subst (λ o. KeepTrails p m stands terms asked depends plain keeps c.args.bound left (or_none (option_map path_view o)) rest) c.in-Some.is c.in_ok-next_ended.ensures.trails in
    handed_out p m stands terms asked depends plain (trail_laws p m stands terms asked) keeps (plain_laws p m stands terms asked plain) c.args.proc.now c.args.bound c.requires.entry c.requires.bound left rest (path_view c.in-Some.path) (option_map query_view c.loop-turn.kept) c.loop-turn.invariant trails

pub returns-in-Bug : goal.returns-in-Bug
returns-in-Bug g c =
    let p = prog_view c.args.prog.now in
    let m = g.M.Local.LocalMemory.actions in
    let stands = g.M.SymMemory.stands in
    let terms = g.M.SymMemory.terms in
    let asked = g.M.SymMemory.asked in
    let depends = g.M.SymMemory.depends in
    let plain = g.M.SymMemory.plain in
    let keeps = g.M.SymMemory.keeps_plain in
    let laws = trail_laws p m stands terms asked in
    let left = paths_left c.loop-turn.exploration in
    let rest = paths_left c.next_ended.new.self in
    let kept = option_map query_view c.loop-turn.kept in
    let trails : KeepTrails p m stands terms asked depends plain keeps c.args.bound left (path_view c.in-Some.path ∷ []) rest =
    subst (λ o. KeepTrails p m stands terms asked depends plain keeps c.args.bound left (or_none (option_map path_view o)) rest) c.in-Some.is c.in_ok-next_ended.ensures.trails in
    let accounts : KeepAccounts p m stands c.args.bound left (path_view c.in-Some.path ∷ rest) =
    subst (λ o. KeepAccounts p m stands c.args.bound left (or_none (option_map path_view o) ++ rest)) c.in-Some.is c.in_ok-next_ended.ensures.cover in
    let right : IsRightVerdict p m stands terms asked depends keeps c.args.proc.now c.args.bound (bug c.in-Bug.place (value_view c.in-Bug.value) (values_view c.in-Bug.inputs)) =
    subst (λ j. AfterJudgement p m stands terms asked depends plain laws keeps (plain_laws p m stands terms asked plain) c.args.proc.now c.args.bound c.requires.entry c.requires.bound rest kept (judgement_view j)) c.in-Bug.is
    (goes_on p m stands terms asked depends plain laws keeps (plain_laws p m stands terms asked plain) c.args.proc.now c.args.bound c.requires.entry c.requires.bound left rest (path_view c.in-Some.path) kept (judgement_view c.in_ok-judge-in-Some.field-0) c.loop-turn.invariant trails accounts
    c.in_ok-next_ended.ensures.placed c.in_ok-judge-in-Some.ensures) in
    record {
      right = right;
      decided = λ plainly simple holds. holds;
      found = λ plainly inputs fails. tt;
    }

pub loop-turn-preserved : goal.loop-turn-preserved
loop-turn-preserved g c =
    let p = prog_view c.args.prog.now in
    let m = g.M.Local.LocalMemory.actions in
    let stands = g.M.SymMemory.stands in
    let terms = g.M.SymMemory.terms in
    let asked = g.M.SymMemory.asked in
    let depends = g.M.SymMemory.depends in
    let plain = g.M.SymMemory.plain in
    let keeps = g.M.SymMemory.keeps_plain in
    let laws = trail_laws p m stands terms asked in
    let left = paths_left c.loop-turn.exploration in
    let rest = paths_left c.next_ended.new.self in
    let kept = option_map query_view c.loop-turn.kept in
    let trails : KeepTrails p m stands terms asked depends plain keeps c.args.bound left (path_view c.in-Some.path ∷ []) rest =
    subst (λ o. KeepTrails p m stands terms asked depends plain keeps c.args.bound left (or_none (option_map path_view o)) rest) c.in-Some.is c.in_ok-next_ended.ensures.trails in
    let accounts : KeepAccounts p m stands c.args.bound left (path_view c.in-Some.path ∷ rest) =
    subst (λ o. KeepAccounts p m stands c.args.bound left (or_none (option_map path_view o) ++ rest)) c.in-Some.is c.in_ok-next_ended.ensures.cover in
    let after = goes_on p m stands terms asked depends plain laws keeps (plain_laws p m stands terms asked plain) c.args.proc.now c.args.bound c.requires.entry c.requires.bound left rest (path_view c.in-Some.path) kept (judgement_view c.in_ok-judge-in-Some.field-0) c.loop-turn.invariant trails accounts
    c.in_ok-next_ended.ensures.placed c.in_ok-judge-in-Some.ensures in
    elim c.match-branch-6.branch [
      | in-Harmless w ↦
          subst (λ o. IsUnderWay p m stands terms asked depends plain keeps c.args.proc.now c.args.bound rest (option_map query_view o)) (sym w.kept-is)
          (subst (λ j. AfterJudgement p m stands terms asked depends plain laws keeps (plain_laws p m stands terms asked plain) c.args.proc.now c.args.bound c.requires.entry c.requires.bound rest kept (judgement_view j)) w.in-Harmless.is after)
      | in-Undecided w ↦
          subst (λ o. IsUnderWay p m stands terms asked depends plain keeps c.args.proc.now c.args.bound rest o) (sym (ap (option_map query_view) w.kept-is ∙ w.first_query-kept.ensures))
          (subst (λ j. AfterJudgement p m stands terms asked depends plain laws keeps (plain_laws p m stands terms asked plain) c.args.proc.now c.args.bound c.requires.entry c.requires.bound rest kept (judgement_view j)) w.in-Undecided.is after)
    ]
