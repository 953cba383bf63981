use Rattle.std.proofs.Common.{◌≡◌, ◌+◌, length, sym, ap, subst, ◌∙◌, true≢false, arith}
use Rattle.std.specs.Option.{option_map}
use Rattle.std.proofs.lemmas.Result.{on_ok_weaker}
use Rattle.gil_syntax.specs.Program.{prog_view}
use Rattle.gil_syntax.specs.View.{proc_view}
use Rattle.pure_terms.specs.View.{atoms_view}
use Rattle.sym_paths.specs.View.{end_view, path_view}
use Rattle.bi_beginnings.specs.View.{beginning_view}
use Rattle.bi_specifications.specs.View.{entry_view}
use Rattle.bi_specifications.proofs.Telling.{none_there}
use Rattle.biabduce.specs.Decided.{IsClosed}
use Rattle.biabduce.specs.Narrowly.{numbers_at, IsNarrowlyClosed}
use Rattle.biabduce.specs.Sound.{IsUndecidedIfUnknown}
use Rattle.biabduce.specs.View.{inference_view}
use Rattle.biabduce.proofs.Accounted.{no_draw, covered_by_end, narrow_along, covered_narrowly}
use Rattle.biabduce.proofs.Asking.{adds_nothing}
use Rattle.biabduce.proofs.Decided.{alone_decided, may_be_said, closed}
use Rattle.biabduce.proofs.NarrowPaths.{may_be_said as narrowly_said, narrowly_closed, nothing_begun, alone_begun}
use Rattle.biabduce.proofs.Outside.{unknown_outside}
use Rattle.biabduce.proofs.Providing.{end_same}
use Rattle.biabduce.proofs.ProvidingNarrowly.{narrow_end_same}
use Rattle.biabduce.proofs.ends.take_end.Goals as goal

pub tell-requires-clause-told : goal.tell-requires-clause-told
tell-requires-clause-told g c = c.is_told.ensures.0 c.if-is_told.true

pub tell-requires-clause-no_draw : goal.tell-requires-clause-no_draw
tell-requires-clause-no_draw g c = let none : length (path_view c.args.path).drawn ≡ 0 = omega (arith, c.len.ensures, c.if-len-gt0.false) in none_there (path_view c.args.path).drawn none

pub returns-then-is_told-clause-sound : goal.returns-then-is_told-clause-sound
returns-then-is_told-clause-sound g c = on_ok_weaker c.tell.result (λ tells p n sound explored. tells p n sound explored) c.tell.ensures.sound

pub returns-clause-sound : goal.returns-clause-sound
returns-clause-sound g c =
    on_ok_weaker c.go_on.result
    (λ tells p n sound explored.
    let outside = unknown_outside p g.M.Local.LocalMemory.actions g.M.SymMemory.stands g.M.SymMemory.terms g.M.SymMemory.asked g.M.SymMemory.depends g.M.SymMemory.plain g.M.SymMemory.keeps_plain n explored.start (path_view c.args.path) (ap (λ x. x.ending) explored.opening.begins.is) explored.ended in
    tells p (proc_view c.args.proc.now) n sound c.requires.beginning
    (subst (λ e. IsUndecidedIfUnknown e (atoms_view c.into_ended.result.conds)) (sym c.into_ended.ensures.end)
    (subst (λ atoms. IsUndecidedIfUnknown (path_view c.args.path).ending atoms) (sym c.into_ended.ensures.conds) outside)))
    c.go_on.ensures.sound

pub returns-then-len-gt0-clause-cover : goal.returns-then-len-gt0-clause-cover
returns-then-len-gt0-clause-cover g c = λ p explored.
    let path = path_view c.args.path in (
      λ r provided. provided,
      λ r wanted a begins accounts.
          let none = ap length (no_draw p g.M.Local.LocalMemory.memory g.M.Local.LocalMemory.actions g.met.M.Local.LocalMemory.laws g.M.SymMemory.stands g.M.SymMemory.terms g.M.SymMemory.asked g.M.SymMemory.depends g.M.SymMemory.plain g.M.SymMemory.keeps_plain g.M.SymMemory.kept (proc_view c.args.proc.now) (entry_view c.args.beginning.now) path c.args.bound explored (beginning_view c.args.beginning.now) r wanted a begins accounts) in
          absurd (omega (arith, none, c.len.ensures, c.if-len-gt0.true)),
    )

pub returns-then-is_told-clause-cover : goal.returns-then-is_told-clause-cover
returns-then-is_told-clause-cover g c = on_ok_weaker c.tell.result (λ tells p explored. tells p c.args.bound (beginning_view c.args.beginning.now) explored) c.tell.ensures.cover

pub returns-clause-cover : goal.returns-clause-cover
returns-clause-cover g c =
    let path = path_view c.args.path in
    let q = proc_view c.args.proc.now in
    let b = beginning_view c.args.beginning.now in
    let j = inference_view c.go_on.new.inference in
    let ended = c.into_ended.result in
    on_ok_weaker c.go_on.result
    (λ tells p explored.
    let (keeps, covers) = tells p q c.requires.beginning in
    let ends = end_same p g.M.Local.LocalMemory.memory g.M.Local.LocalMemory.actions q c.args.bound b ended.vars path.vars (atoms_view ended.conds) path.conds (option_map end_view ended.end) path.ending j
    c.into_ended.ensures.vars c.into_ended.ensures.conds c.into_ended.ensures.end covers in (
      keeps,
      λ r wanted a begins accounts.
          covered_by_end p g.M.Local.LocalMemory.memory g.M.Local.LocalMemory.actions g.met.M.Local.LocalMemory.laws g.M.SymMemory.stands g.M.SymMemory.terms g.M.SymMemory.asked g.M.SymMemory.depends g.M.SymMemory.plain g.M.SymMemory.keeps_plain g.M.SymMemory.kept q (entry_view c.args.beginning.now) path c.args.bound explored b r wanted a begins accounts j ends
          (λ told. true≢false (sym (c.is_told.ensures.1 told) ∙ c.if-is_told.false)),
    ))
    c.go_on.ensures.cover

pub returns-then-len-gt0-clause-decided : goal.returns-then-len-gt0-clause-decided
returns-then-len-gt0-clause-decided g c = λ p decidable few explored bare decided. decided

pub returns-then-is_told-clause-decided : goal.returns-then-is_told-clause-decided
returns-then-is_told-clause-decided g c =
    let none : length (path_view c.args.path).drawn ≡ 0 = omega (arith, c.len.ensures, c.if-len-gt0.false) in
    let no_draw = none_there (path_view c.args.path).drawn none in
    on_ok_weaker c.tell.result
    (λ tells p decidable few explored bare.
    alone_decided (inference_view c.args.inference.now) (inference_view c.tell.new.inference) (tells (may_be_said p g.M.Local.LocalMemory.memory g.M.Local.LocalMemory.actions g.M.SymMemory.stands g.M.SymMemory.terms g.M.SymMemory.asked g.M.SymMemory.depends g.M.SymMemory.plain g.M.SymMemory.keeps_plain g.M.SymMemory.kept (proc_view c.args.proc.now)
    (entry_view c.args.beginning.now) (path_view c.args.path) c.args.bound explored decidable few bare no_draw)))
    c.tell.ensures.decided

pub returns-clause-decided : goal.returns-clause-decided
returns-clause-decided g c =
    let none : length (path_view c.args.path).drawn ≡ 0 = omega (arith, c.len.ensures, c.if-len-gt0.false) in
    let no_draw = none_there (path_view c.args.path).drawn none in
    on_ok_weaker c.go_on.result
    (λ tells p decidable few explored bare.
    tells (subst (λ vars. IsClosed g.M.Local.LocalMemory.memory vars (option_map end_view c.into_ended.result.end)) (sym c.into_ended.ensures.vars)
    (subst (IsClosed g.M.Local.LocalMemory.memory (path_view c.args.path).vars) (sym c.into_ended.ensures.end)
    (closed p g.M.Local.LocalMemory.memory g.M.Local.LocalMemory.actions g.M.SymMemory.stands g.M.SymMemory.terms g.M.SymMemory.asked g.M.SymMemory.depends g.M.SymMemory.plain g.M.SymMemory.keeps_plain g.M.SymMemory.kept (proc_view c.args.proc.now)
    (entry_view c.args.beginning.now) (path_view c.args.path) c.args.bound explored decidable few bare no_draw g.met.M.Local.LocalMemory.laws))))
    c.go_on.ensures.decided

pub returns-then-len-gt0-clause-narrow : goal.returns-then-len-gt0-clause-narrow
returns-then-len-gt0-clause-narrow g c = λ keep p entry few explored ended along left starts.
    let b = beginning_view c.args.beginning.now in
    nothing_begun (numbers_at (length b.uses + 1)) c.args.bound b (inference_view c.args.inference.now)

pub returns-then-is_told-clause-narrow : goal.returns-then-is_told-clause-narrow
returns-then-is_told-clause-narrow g c = λ keep.
    let M = g.M.SymMemory in
    let m = g.M.Local.LocalMemory.actions in
    let q = proc_view c.args.proc.now in
    let b = beginning_view c.args.beginning.now in
    let path = path_view c.args.path in
    on_ok_weaker c.tell.result
    (λ tells p entry few explored ended along left starts.
    alone_begun (numbers_at (length b.uses + 1)) c.args.bound b (inference_view c.args.inference.now) (inference_view c.tell.new.inference)
    (tells (narrowly_said p g.M.Local.LocalMemory.memory m M.stands M.terms M.asked M.depends M.plain M.keeps_plain M.kept q b explored.start explored.opening c.args.bound few left starts path ended along
    (entry_view c.args.beginning.now) entry)))
    c.tell.ensures.decided

pub returns-clause-narrow : goal.returns-clause-narrow
returns-clause-narrow g c = λ keep.
    let M = g.M.SymMemory in
    let m = g.M.Local.LocalMemory.actions in
    let q = proc_view c.args.proc.now in
    let b = beginning_view c.args.beginning.now in
    let path = path_view c.args.path in
    let memory = g.M.Local.LocalMemory.memory in
    let last = numbers_at (length b.uses + 1) in
    let none : length path.drawn ≡ 0 = omega (arith, c.len.ensures, c.if-len-gt0.false) in
    let no_draw = none_there path.drawn none in
    let same_vars = c.into_ended.ensures.vars in
    on_ok_weaker c.go_on.result
    (λ tells p entry few explored ended along left starts.
    tells last
    (subst (λ vars. IsNarrowlyClosed memory last b vars (atoms_view c.into_ended.result.conds) (option_map end_view c.into_ended.result.end)) (sym same_vars)
    (subst (λ conds. IsNarrowlyClosed memory last b path.vars conds (option_map end_view c.into_ended.result.end)) (sym c.into_ended.ensures.conds)
    (subst (IsNarrowlyClosed memory last b path.vars path.conds) (sym c.into_ended.ensures.end)
    (narrowly_closed p memory m M.stands M.terms M.asked M.depends M.plain M.keeps_plain M.kept q b explored.start explored.opening c.args.bound few left starts path ended along entry no_draw)))))
    (c.go_on.ensures.narrow keep)

pub returns-then-len-gt0-clause-narrow_cover : goal.returns-then-len-gt0-clause-narrow_cover
returns-then-len-gt0-clause-narrow_cover g c = λ keep p entry few explored ended.
    let M = g.M.SymMemory in
    let path = path_view c.args.path in (
      λ r provided. provided,
      λ left starts r wanted narrow a begins accounts.
          let none = ap length (no_draw p g.M.Local.LocalMemory.memory g.M.Local.LocalMemory.actions g.met.M.Local.LocalMemory.laws M.stands M.terms M.asked M.depends M.plain M.keeps_plain M.kept (proc_view c.args.proc.now) (entry_view c.args.beginning.now) path c.args.bound explored (beginning_view c.args.beginning.now) r wanted a begins accounts) in
          absurd (omega (arith, none, c.len.ensures, c.if-len-gt0.true)),
    )

pub returns-then-is_told-clause-narrow_cover : goal.returns-then-is_told-clause-narrow_cover
returns-then-is_told-clause-narrow_cover g c = λ keep.
    let M = g.M.SymMemory in
    let memory = g.M.Local.LocalMemory.memory in
    let m = g.M.Local.LocalMemory.actions in
    let q = proc_view c.args.proc.now in
    let b = beginning_view c.args.beginning.now in
    let e = entry_view c.args.beginning.now in
    let path = path_view c.args.path in
    on_ok_weaker c.tell.result
    (λ tells p entry few explored ended.
    let (keeps, covers) = tells p c.args.bound b explored in (
      keeps,
      λ left starts r wanted narrow a begins accounts.
          covers r wanted a begins accounts
          (narrowly_said p memory m M.stands M.terms M.asked M.depends M.plain M.keeps_plain M.kept q b explored.start explored.opening c.args.bound few left starts path ended
          (narrow_along p memory m g.met.M.Local.LocalMemory.laws M.stands M.terms M.asked M.depends M.plain M.keeps_plain M.kept q e path c.args.bound explored b r wanted a begins accounts narrow few left starts ended) e entry),
    ))
    c.tell.ensures.narrow_cover

pub returns-clause-narrow_cover : goal.returns-clause-narrow_cover
returns-clause-narrow_cover g c = λ keep.
    let M = g.M.SymMemory in
    let memory = g.M.Local.LocalMemory.memory in
    let m = g.M.Local.LocalMemory.actions in
    let q = proc_view c.args.proc.now in
    let b = beginning_view c.args.beginning.now in
    let e = entry_view c.args.beginning.now in
    let path = path_view c.args.path in
    let j = inference_view c.go_on.new.inference in
    let done = c.into_ended.result in
    on_ok_weaker c.go_on.result
    (λ tells p entry few explored ended.
    let (keeps, covers) = tells p q c.requires.beginning in
    let ends = narrow_end_same p memory m q c.args.bound b done.vars path.vars (atoms_view done.conds) path.conds (option_map end_view done.end) path.ending j
    c.into_ended.ensures.vars c.into_ended.ensures.conds c.into_ended.ensures.end covers in (
      keeps,
      λ left starts r wanted narrow a begins accounts.
          covered_narrowly p memory m g.met.M.Local.LocalMemory.laws M.stands M.terms M.asked M.depends M.plain M.keeps_plain M.kept q e path c.args.bound explored b r wanted a begins accounts narrow few left starts j ended entry ends
          (λ told. true≢false (sym (c.is_told.ensures.1 told) ∙ c.if-is_told.false)),
    ))
    (c.go_on.ensures.narrow_cover keep)

pub returns-then-len-gt0-clause-asked : goal.returns-then-len-gt0-clause-asked
returns-then-len-gt0-clause-asked g c = λ explored. adds_nothing (prog_view c.args.prog.now) (proc_view c.args.proc.now) (path_view c.args.path) (inference_view c.args.inference.now)

pub returns-then-is_told-clause-asked : goal.returns-then-is_told-clause-asked
returns-then-is_told-clause-asked g c = on_ok_weaker c.tell.result (λ tells explored. tells c.args.bound explored) c.tell.ensures.asked

pub returns-clause-asked : goal.returns-clause-asked
returns-clause-asked g c =
    let path = path_view c.args.path in
    let none : length path.drawn ≡ 0 = omega (arith, c.len.ensures, c.if-len-gt0.false) in
    let says = c.into_ended.ensures in
    on_ok_weaker c.go_on.result
    (λ tells explored.
    tells (prog_view c.args.prog.now) (proc_view c.args.proc.now) path
    (record { vars_same = says.vars; conds_same = says.conds; given_same = says.given; choices_same = says.choices; no_draw = none_there path.drawn none }) says.end)
    c.go_on.ensures.asked
