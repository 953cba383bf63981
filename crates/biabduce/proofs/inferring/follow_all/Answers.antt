use Rattle.std.proofs.Common.{◌≡◌, ◌⊎◌, inl, ◌-◌, take, [], ◌∷◌, sym, ap, subst, ◌∙◌}
use Rattle.std.proofs.lemmas.List.{append-nil, map-append}
use Rattle.gil_syntax.specs.Program.{prog_view}
use Rattle.gil_syntax.specs.Pure.{PureProc}
use Rattle.gil_syntax.specs.View.{proc_view}
use Rattle.sym_model.specs.Lists.{Each}
use Rattle.sym_model.proofs.ListLaws.{same_some}
use Rattle.bi_beginnings.specs.Beginnings.{first_beginning, IsBare}
use Rattle.bi_beginnings.specs.View.{beginning_view, beginnings_view}
use Rattle.biabduce.specs.Narrowly.{IsNarrowLeft}
use Rattle.biabduce.specs.Sound.{IsSound}
use Rattle.biabduce.specs.View.{inference_view}
use Rattle.biabduce.specs.Asked.{IsAskedAlong, IsAskedFirst, IsLeftOf, IsOtherBegun, IsOtherAsked}
use Rattle.biabduce.proofs.Asking.{first_rightly, all_first, all_taken, all_over}
use Rattle.biabduce.proofs.Decided.{first_decided, taken_decided}
use Rattle.biabduce.proofs.Keeping.{first_sound, over_sound, taken_sound}
use Rattle.biabduce.proofs.NarrowPaths.{first_left, first_narrowly, taken_narrowly}
use Rattle.biabduce.proofs.Providing.{first_provided, followed, all_covered}
use Rattle.biabduce.proofs.ProvidingNarrowly.{first_provided_narrowly, followed_narrowly, all_covered_narrowly}
use Rattle.biabduce.proofs.inferring.follow_all.Goals as goal

pub loop-turn-init : goal.loop-turn-init
loop-turn-init g c =
    let p = prog_view c.args.prog.now in
    let q = proc_view c.args.proc.now in
    record {
      sound = subst (IsSound p g.M.Local.LocalMemory.memory g.M.Local.LocalMemory.actions q c.args.bound) (sym c.in_ok-inference.ensures) (first_sound p g.M.Local.LocalMemory.memory g.M.Local.LocalMemory.actions q c.args.bound);
      cover = first_provided p g.M.Local.LocalMemory.memory g.M.Local.LocalMemory.actions q c.args.bound c.requires.found (inference_view c.in_ok-inference.inference) c.in_ok-inference.ensures;
      asked = first_rightly (prog_view c.args.prog.now) g.M.Local.LocalMemory.memory g.M.Local.LocalMemory.actions g.M.SymMemory.stands g.M.SymMemory.terms g.M.SymMemory.asked g.M.SymMemory.depends g.M.SymMemory.plain g.M.SymMemory.keeps_plain g.M.SymMemory.kept (proc_view c.args.proc.now) c.args.bound (inference_view c.in_ok-inference.inference) c.in_ok-inference.ensures;
      other = λ keep entry. all_first (λ b. IsNarrowLeft q c.args.bound b ⊎ IsOtherBegun (prog_view c.args.prog.now) g.M.Local.LocalMemory.memory g.M.Local.LocalMemory.actions g.M.SymMemory.stands g.M.SymMemory.terms g.M.SymMemory.asked g.M.SymMemory.depends g.M.SymMemory.plain g.M.SymMemory.keeps_plain g.M.SymMemory.kept (proc_view c.args.proc.now) c.args.bound b) (IsOtherAsked (prog_view c.args.prog.now) g.M.Local.LocalMemory.memory g.M.Local.LocalMemory.actions g.M.SymMemory.stands g.M.SymMemory.terms g.M.SymMemory.asked g.M.SymMemory.depends g.M.SymMemory.plain g.M.SymMemory.keeps_plain g.M.SymMemory.kept (proc_view c.args.proc.now) c.args.bound) (inference_view c.in_ok-inference.inference) (first_beginning q) c.in_ok-inference.ensures (inl (first_left q c.args.bound entry.few_params));
      decided = λ decidable.
          let (r, (found, none)) = decidable.entry in
          let same : q ≡ r = same_some (sym c.requires.found ∙ found) in
          first_decided q (inference_view c.in_ok-inference.inference) (ap (λ (x : PureProc). x.params) same ∙ none) c.in_ok-inference.ensures;
      narrow = λ keep decidable. first_narrowly q c.args.bound (inference_view c.in_ok-inference.inference) decidable.entry.few_params c.in_ok-inference.ensures;
      narrow_cover = λ keep entry r wanted narrow few.
          first_provided_narrowly p g.M.Local.LocalMemory.memory g.M.Local.LocalMemory.actions q c.args.bound c.requires.found (inference_view c.in_ok-inference.inference) c.in_ok-inference.ensures entry r wanted few;
    }

pub returns-in_default-clause-sound : goal.returns-in_default-clause-sound
returns-in_default-clause-sound g c =
    let p = prog_view c.args.prog.now in
    let q = proc_view c.args.proc.now in
    let is = ap beginnings_view (c.in_default.ensures.items ∙ append-nil c.pop.new.self.items) in
    over_sound p g.M.Local.LocalMemory.memory g.M.Local.LocalMemory.actions q c.args.bound (inference_view c.loop-turn.inference) (beginnings_view c.pop.new.self.items) is c.loop-turn.invariant.sound

pub follow-requires-clause-beginning : goal.follow-requires-clause-beginning
follow-requires-clause-beginning g c =
    let p = prog_view c.args.prog.now in
    let q = proc_view c.args.proc.now in
    let is = ap beginnings_view c.in-Some.ensures.items ∙ map-append beginning_view c.pop.new.self.items (c.in-Some.beginning ∷ []) in
    (taken_sound p g.M.Local.LocalMemory.memory g.M.Local.LocalMemory.actions q c.args.bound (inference_view c.loop-turn.inference) (beginnings_view c.pop.new.self.items) (beginning_view c.in-Some.beginning) is c.loop-turn.invariant.sound).0

pub follow-requires-clause-sound : goal.follow-requires-clause-sound
follow-requires-clause-sound g c =
    let p = prog_view c.args.prog.now in
    let q = proc_view c.args.proc.now in
    let is = ap beginnings_view c.in-Some.ensures.items ∙ map-append beginning_view c.pop.new.self.items (c.in-Some.beginning ∷ []) in
    (taken_sound p g.M.Local.LocalMemory.memory g.M.Local.LocalMemory.actions q c.args.bound (inference_view c.loop-turn.inference) (beginnings_view c.pop.new.self.items) (beginning_view c.in-Some.beginning) is c.loop-turn.invariant.sound).1

pub returns-in_default-clause-cover : goal.returns-in_default-clause-cover
returns-in_default-clause-cover g c = λ r wanted few.
    let none : c.pop.new.self.items ≡ [] = c.in_default.ensures.rest ∙ ap (λ k. take (k - 1) c.loop-turn.inference.left.items) c.in_default.ensures.cases.0 in
    let is = ap beginnings_view (c.in_default.ensures.items ∙ append-nil c.pop.new.self.items ∙ none) in
    all_covered (prog_view c.args.prog.now) g.M.Local.LocalMemory.memory g.M.Local.LocalMemory.actions (proc_view c.args.proc.now) c.args.bound (inference_view c.loop-turn.inference) r is (c.loop-turn.invariant.cover r wanted few)

pub loop-turn-preserved : goal.loop-turn-preserved
loop-turn-preserved g c =
    let is = ap beginnings_view c.in-Some.ensures.items ∙ map-append beginning_view c.pop.new.self.items (c.in-Some.beginning ∷ []) in
    record {
      sound = c.in_ok-follow.ensures.sound;
      cover = λ r wanted few.
          followed (prog_view c.args.prog.now) g.M.Local.LocalMemory.memory g.M.Local.LocalMemory.actions (proc_view c.args.proc.now) c.args.bound (inference_view c.loop-turn.inference) (beginnings_view c.pop.new.self.items) (beginning_view c.in-Some.beginning) (inference_view c.follow.new.inference) r is
          c.in_ok-follow.ensures.keeps c.in_ok-follow.ensures.cover wanted (c.loop-turn.invariant.cover r wanted few);
      asked =
          let (left, rest) = all_taken (IsLeftOf (prog_view c.args.prog.now) g.M.Local.LocalMemory.memory g.M.Local.LocalMemory.actions g.M.SymMemory.stands g.M.SymMemory.terms g.M.SymMemory.asked g.M.SymMemory.depends g.M.SymMemory.plain g.M.SymMemory.keeps_plain g.M.SymMemory.kept (proc_view c.args.proc.now) c.args.bound) (λ x. IsAskedAlong (prog_view c.args.prog.now) g.M.Local.LocalMemory.memory g.M.Local.LocalMemory.actions g.M.SymMemory.stands g.M.SymMemory.terms g.M.SymMemory.asked g.M.SymMemory.depends g.M.SymMemory.plain g.M.SymMemory.keeps_plain g.M.SymMemory.kept (proc_view c.args.proc.now) c.args.bound x ⊎ IsAskedFirst (prog_view c.args.prog.now) g.M.Local.LocalMemory.memory g.M.Local.LocalMemory.actions g.M.SymMemory.stands g.M.SymMemory.terms g.M.SymMemory.asked g.M.SymMemory.depends g.M.SymMemory.plain g.M.SymMemory.keeps_plain g.M.SymMemory.kept (proc_view c.args.proc.now) c.args.bound x)
          (inference_view c.loop-turn.inference) (beginnings_view c.pop.new.self.items) (beginning_view c.in-Some.beginning) is c.loop-turn.invariant.asked
          in
          c.in_ok-follow.ensures.asked left rest;
      other = λ keep entry.
          let (left, rest) = all_taken (λ b. IsNarrowLeft (proc_view c.args.proc.now) c.args.bound b ⊎ IsOtherBegun (prog_view c.args.prog.now) g.M.Local.LocalMemory.memory g.M.Local.LocalMemory.actions g.M.SymMemory.stands g.M.SymMemory.terms g.M.SymMemory.asked g.M.SymMemory.depends g.M.SymMemory.plain g.M.SymMemory.keeps_plain g.M.SymMemory.kept (proc_view c.args.proc.now) c.args.bound b) (IsOtherAsked (prog_view c.args.prog.now) g.M.Local.LocalMemory.memory g.M.Local.LocalMemory.actions g.M.SymMemory.stands g.M.SymMemory.terms g.M.SymMemory.asked g.M.SymMemory.depends g.M.SymMemory.plain g.M.SymMemory.keeps_plain g.M.SymMemory.kept (proc_view c.args.proc.now) c.args.bound)
          (inference_view c.loop-turn.inference) (beginnings_view c.pop.new.self.items) (beginning_view c.in-Some.beginning) is (c.loop-turn.invariant.other keep entry)
          in
          c.in_ok-follow.ensures.other keep entry left rest;
      decided = λ decidable.
          let (bare, rest) = taken_decided (inference_view c.loop-turn.inference) (beginnings_view c.pop.new.self.items) (beginning_view c.in-Some.beginning) is (c.loop-turn.invariant.decided decidable) in
          c.in_ok-follow.ensures.decided decidable bare rest;
      narrow = λ keep decidable.
          let (left, rest) = taken_narrowly (proc_view c.args.proc.now) c.args.bound (inference_view c.loop-turn.inference) (beginnings_view c.pop.new.self.items) (beginning_view c.in-Some.beginning) is (c.loop-turn.invariant.narrow keep decidable) in
          c.in_ok-follow.ensures.narrow keep decidable left rest;
      narrow_cover = λ keep entry r wanted narrow few.
          let (keeps, covers) = c.in_ok-follow.ensures.narrow_cover keep entry in
          followed_narrowly (prog_view c.args.prog.now) g.M.Local.LocalMemory.memory g.M.Local.LocalMemory.actions (proc_view c.args.proc.now) c.args.bound (inference_view c.loop-turn.inference) (beginnings_view c.pop.new.self.items) (beginning_view c.in-Some.beginning) (inference_view c.follow.new.inference) r is
          keeps covers wanted narrow (c.loop-turn.invariant.narrow_cover keep entry r wanted narrow few);
    }

pub returns-in_default-clause-asked : goal.returns-in_default-clause-asked
returns-in_default-clause-asked g c =
    let is = ap beginnings_view (c.in_default.ensures.items ∙ append-nil c.pop.new.self.items) in
    all_over (IsLeftOf (prog_view c.args.prog.now) g.M.Local.LocalMemory.memory g.M.Local.LocalMemory.actions g.M.SymMemory.stands g.M.SymMemory.terms g.M.SymMemory.asked g.M.SymMemory.depends g.M.SymMemory.plain g.M.SymMemory.keeps_plain g.M.SymMemory.kept (proc_view c.args.proc.now) c.args.bound) (λ x. IsAskedAlong (prog_view c.args.prog.now) g.M.Local.LocalMemory.memory g.M.Local.LocalMemory.actions g.M.SymMemory.stands g.M.SymMemory.terms g.M.SymMemory.asked g.M.SymMemory.depends g.M.SymMemory.plain g.M.SymMemory.keeps_plain g.M.SymMemory.kept (proc_view c.args.proc.now) c.args.bound x ⊎ IsAskedFirst (prog_view c.args.prog.now) g.M.Local.LocalMemory.memory g.M.Local.LocalMemory.actions g.M.SymMemory.stands g.M.SymMemory.terms g.M.SymMemory.asked g.M.SymMemory.depends g.M.SymMemory.plain g.M.SymMemory.keeps_plain g.M.SymMemory.kept (proc_view c.args.proc.now) c.args.bound x)
    (inference_view c.loop-turn.inference) (beginnings_view c.pop.new.self.items) is c.loop-turn.invariant.asked

pub returns-in_default-clause-other : goal.returns-in_default-clause-other
returns-in_default-clause-other g c = λ keep entry.
    let is = ap beginnings_view (c.in_default.ensures.items ∙ append-nil c.pop.new.self.items) in
    all_over (λ b. IsNarrowLeft (proc_view c.args.proc.now) c.args.bound b ⊎ IsOtherBegun (prog_view c.args.prog.now) g.M.Local.LocalMemory.memory g.M.Local.LocalMemory.actions g.M.SymMemory.stands g.M.SymMemory.terms g.M.SymMemory.asked g.M.SymMemory.depends g.M.SymMemory.plain g.M.SymMemory.keeps_plain g.M.SymMemory.kept (proc_view c.args.proc.now) c.args.bound b) (IsOtherAsked (prog_view c.args.prog.now) g.M.Local.LocalMemory.memory g.M.Local.LocalMemory.actions g.M.SymMemory.stands g.M.SymMemory.terms g.M.SymMemory.asked g.M.SymMemory.depends g.M.SymMemory.plain g.M.SymMemory.keeps_plain g.M.SymMemory.kept (proc_view c.args.proc.now) c.args.bound)
    (inference_view c.loop-turn.inference) (beginnings_view c.pop.new.self.items) is (c.loop-turn.invariant.other keep entry)

pub returns-in_default-clause-decided : goal.returns-in_default-clause-decided
returns-in_default-clause-decided g c = λ decidable.
    let is = ap beginnings_view (c.in_default.ensures.items ∙ append-nil c.pop.new.self.items) in
    let decided = c.loop-turn.invariant.decided decidable in
    record { left = subst (Each IsBare) is decided.left; decided = decided.decided }

pub returns-in_default-clause-narrow : goal.returns-in_default-clause-narrow
returns-in_default-clause-narrow g c = λ keep decidable.
    let is = ap beginnings_view (c.in_default.ensures.items ∙ append-nil c.pop.new.self.items) in
    let decided = c.loop-turn.invariant.narrow keep decidable in
    record { left = subst (Each (IsNarrowLeft (proc_view c.args.proc.now) c.args.bound)) is decided.left; decided = decided.decided }

pub returns-in_default-clause-narrow_cover : goal.returns-in_default-clause-narrow_cover
returns-in_default-clause-narrow_cover g c = λ keep entry r wanted narrow few.
    let none : c.pop.new.self.items ≡ [] = c.in_default.ensures.rest ∙ ap (λ k. take (k - 1) c.loop-turn.inference.left.items) c.in_default.ensures.cases.0 in
    let is = ap beginnings_view (c.in_default.ensures.items ∙ append-nil c.pop.new.self.items ∙ none) in
    all_covered_narrowly (prog_view c.args.prog.now) g.M.Local.LocalMemory.memory g.M.Local.LocalMemory.actions (proc_view c.args.proc.now) c.args.bound (inference_view c.loop-turn.inference) r is (c.loop-turn.invariant.narrow_cover keep entry r wanted narrow few)
